-- What a tree allocates is what the facts of its numbers make, in one order.
use Rattle.std.proofs.Common.{◌≡◌, ℕ, zero, suc, ◌+◌, true, List, [], ◌∷◌, ◌++◌, map, length, drop, Option, Some, None, slice_get, refl, sym, ap, ◌∙◌, subst, append_assoc, append-nil, arith}
use Rattle.px_value.specs.declared.header.Kind.{Kind}
use Rattle.px_tree.specs.declared.Name.{Name as NameData}
use Rattle.px_tree.specs.declared.Expr.{Expr, fold_out-Expr}
use Rattle.px_tree.specs.declared.ExprForm.{ExprForm, ExprForm-F, fold-ExprForm, fold-roll-ExprForm, roll-ExprForm, map-ExprForm}
use Rattle.px_tree.specs.declared.ExprForm.TheVariants.{Call, rolls-Number, rolls-Str, rolls-True, rolls-False, rolls-Null, rolls-This, rolls-Name, rolls-NewObject}
use Rattle.px_tree.specs.declared.ExprForm.TheOpen.{ExprForm-F as f}
use Rattle.px_tree.specs.declared.Stmt.{Stmt}
use Rattle.px_tree.specs.declared.Method.{Method}
use Rattle.px_tree.specs.declared.Member.{Member}
use Rattle.px_tree.specs.declared.Class.{Class}
use Rattle.px_facts.specs.declared.checked.Named.{Named}
use Rattle.px_facts.specs.declared.checked.Fact.{Fact}
use Rattle.px_facts.specs.declared.checked.Facts.{Facts}
use Rattle.px_types.specs.declared.node.Node.{Node}
use Rattle.px_types.specs.declared.home.Home.{Home}
use Rattle.px_types.specs.declared.database.Verb.{Verb}
use Rattle.px_types.specs.declared.scope.Scope.{Scope}
use Rattle.px_types.specs.declared.scope.Slot.{Slot}
use Rattle.px_types.specs.Members.{type_of}
use Rattle.px_types.specs.Slots.{first_scope, slot_of}
use Rattle.px_types.specs.Facts.{no_fact, local_fact, changed_fact, database_fact}
use Rattle.px_types.specs.Database.{written, asked}
use Rattle.px_types.specs.Known.{Known, known, fact_only, all_nodes, argument_nodes}
use Rattle.px_types.specs.Told.{Told, told, in_order}
use Rattle.px_types.specs.Sites.{with_numbers, call_after, site_after, sited}
use Rattle.px_types.specs.Bodies.{with_params, told_body, class_found, all_found, next_class}
use Rattle.px_types.proofs.KnownForms.{known_by_form, known_number, known_text, known_true, known_false, known_null, known_this, known_name, known_group, known_field, known_index, known_own_call, known_call, known_database_call, known_new, known_new_array, known_prefix, known_binary}
use Rattle.px_types.proofs.ToldForms.{told_block, told_empty, told_local, told_assign, told_compound, told_up, told_down, told_call, told_if, told_while, told_for, told_return, told_print}
use Rattle.px_mean.specs.Facts.{type_in, type_at, named_in, named_at}
use Rattle.px_mean.specs.Program.{methods_in, methods_of}
use Rattle.px_lowering.specs.declared.allocations.Allocation.{Allocation}
use Rattle.px_lowering.specs.Allocations.{kind_of, one_of, all_of, inner, one_at, here, in_expression, in_statement}
use Rattle.px_lowering.specs.Programs.{allocations}
use Rattle.px_lowering.proofs.AllocationForms.{found_group, found_field, found_index, found_call, found_new_array, found_prefix, found_binary, found_block, found_empty, found_local, found_assign, found_compound, found_up, found_down, found_call_statement, found_if, found_while, found_for, found_return, found_print}
use Rattle.px_soundness.specs.Numbered.{IsExpr, AreExprs, IsStmt, AreStmts, AreMembers, AreClasses}
use Rattle.px_soundness.proofs.Standing.{rest_in_drop, add_one}
use Rattle.px_accepted.proofs.Made.{is_plain, plain, one_kind, kinds_in}
use Rattle.px_accepted.proofs.Written.{how_written, receiver_end}

-- ---- nodes of a tree

-- the nodes from one number on go on from another number behind these
abbrev Passes : (n : ℕ) → List Node → (m : ℕ) → Type 0
Passes n xs m = (all more : List Node) → drop n all ≡ xs ++ more → drop m all ≡ more

passes_none : (n : ℕ) → Passes n [] n
passes_none n all more h = h

passes_both : (n k m : ℕ) (xs ys : List Node) → Passes n xs k → Passes k ys m → Passes n (xs ++ ys) m
passes_both n k m xs ys p q all more h = q all more (p all (ys ++ more) (h ∙ append_assoc xs ys more))

passes_one : (n m : ℕ) (x : Node) (xs : List Node) → Passes (n + 1) xs m → Passes n (x ∷ xs) m
passes_one n m x xs p all more h = p all more (ap (λ (k : ℕ). drop k all) (sym (add_one n)) ∙ rest_in_drop all (xs ++ more) n x h)

module _ (H : Home) where
  abbrev Knows : ℕ → Expr → ℕ → Type 0
  Knows n x m = (s : Scope) → Passes n (all_nodes (known H x s)) m

  as_known : (m : ℕ) (x : Expr) (s : Scope) (p : Known) → known H x s ≡ p → Passes (x.id + 1) p.inner m → Passes x.id (all_nodes (known H x s)) m
  as_known m x s p e h = subst (λ (z : Known). Passes x.id (all_nodes z) m) (sym e) (passes_one x.id m p.own p.inner h)

  call_passes : (k m : ℕ) (x of : Expr) (name : NameData) (args : List Expr) (v : Option Verb) → x.form ≡ Call (Some of) name args → asked (written of) name.bytes ≡ v → (asked (written of) name.bytes ≡ v → (w : Verb) → v ≡ Some w → k ≡ (x.id + 1) + 1) → Knows (x.id + 1) of k → ((s : Scope) → Passes k (argument_nodes s (map (known H) args)) m) → Knows x.id x m
  call_passes k m x of name args None h q end p ps s =
      as_known m x s _ (known_by_form H x s ∙ known_call H x.form s of of name args h refl q) (passes_both (x.id + 1) k m (all_nodes (known H of s)) (argument_nodes s (map (known H) args)) (p s) (ps s))
  call_passes k m x of name args (Some v) h q end p ps s =
      as_known m x s _ (known_by_form H x s ∙ known_database_call H x.form s of of name args v h refl q) (passes_one (x.id + 1) m (fact_only database_fact) (argument_nodes s (map (known H) args)) (subst (λ (i : ℕ). Passes i (argument_nodes s (map (known H) args)) m) (end q v refl) (ps s)))

  mutual
    pub expression_passes : (n m : ℕ) (x : Expr) → IsExpr n x m → Knows n x m
    expression_passes _ _ _ (IsExpr.number x digits long h) s = as_known (x.id + 1) x s _ (known_by_form H x s ∙ known_number H x.form s digits long h) (passes_none (x.id + 1))
    expression_passes _ _ _ (IsExpr.text x bytes h) s = as_known (x.id + 1) x s _ (known_by_form H x s ∙ known_text H x.form s bytes h) (passes_none (x.id + 1))
    expression_passes _ _ _ (IsExpr.truth x h) s = as_known (x.id + 1) x s _ (known_by_form H x s ∙ known_true H x.form s h) (passes_none (x.id + 1))
    expression_passes _ _ _ (IsExpr.falsehood x h) s = as_known (x.id + 1) x s _ (known_by_form H x s ∙ known_false H x.form s h) (passes_none (x.id + 1))
    expression_passes _ _ _ (IsExpr.null x h) s = as_known (x.id + 1) x s _ (known_by_form H x s ∙ known_null H x.form s h) (passes_none (x.id + 1))
    expression_passes _ _ _ (IsExpr.this x h) s = as_known (x.id + 1) x s _ (known_by_form H x s ∙ known_this H x.form s h) (passes_none (x.id + 1))
    expression_passes _ _ _ (IsExpr.variable x name h) s = as_known (x.id + 1) x s _ (known_by_form H x s ∙ known_name H x.form s name h) (passes_none (x.id + 1))
    expression_passes _ _ _ (IsExpr.group m x y h d) s = as_known m x s _ (known_by_form H x s ∙ known_group H x.form s y y h refl) (expression_passes (x.id + 1) m y d s)
    expression_passes _ _ _ (IsExpr.field m x of name h d) s = as_known m x s _ (known_by_form H x s ∙ known_field H x.form s name of of h refl) (expression_passes (x.id + 1) m of d s)
    expression_passes _ _ _ (IsExpr.indexed k m x of at h d g) s = as_known m x s _ (known_by_form H x s ∙ known_index H x.form s of of at at h refl refl) (passes_both (x.id + 1) k m (all_nodes (known H of s)) (all_nodes (known H at s)) (expression_passes (x.id + 1) k of d s) (expression_passes k m at g s))
    expression_passes _ _ _ (IsExpr.own_call m x name args h d) s = as_known m x s _ (known_by_form H x s ∙ known_own_call H x.form s name args h) (arguments_pass (x.id + 1) m args d s)
    expression_passes _ _ _ (IsExpr.call k m x of name args h d g) s = call_passes k m x of name args (asked (written of) name.bytes) h refl (λ q w e. receiver_end (x.id + 1) k of name.bytes w (how_written (x.id + 1) k of d) e) (expression_passes (x.id + 1) k of d) (arguments_pass k m args g) s
    expression_passes _ _ _ (IsExpr.new_object x name h) s = as_known (x.id + 1) x s _ (known_by_form H x s ∙ known_new H x.form s name h) (passes_none (x.id + 1))
    expression_passes _ _ _ (IsExpr.new_array m x b size h i d) s = as_known m x s _ (known_by_form H x s ∙ known_new_array H x.form s b size size h refl) (expression_passes (x.id + 1) m size d s)
    expression_passes _ _ _ (IsExpr.prefix m x sign y h i d) s = as_known m x s _ (known_by_form H x s ∙ known_prefix H x.form s sign y y h refl) (expression_passes (x.id + 1) m y d s)
    expression_passes _ _ _ (IsExpr.binary k m x sign at y z h i d g) s = as_known m x s _ (known_by_form H x s ∙ known_binary H x.form s sign at y y z z h refl refl) (passes_both (x.id + 1) k m (all_nodes (known H y s)) (all_nodes (known H z s)) (expression_passes (x.id + 1) k y d s) (expression_passes k m z g s))

    arguments_pass : (n m : ℕ) (xs : List Expr) → AreExprs n xs m → (s : Scope) → Passes n (argument_nodes s (map (known H) xs)) m
    arguments_pass _ _ _ (AreExprs.none n) s = passes_none n
    arguments_pass _ _ _ (AreExprs.more n k m x xs d ds) s = passes_both n k m (all_nodes (known H x s)) (argument_nodes s (map (known H) xs)) (expression_passes n k x d s) (arguments_pass k m xs ds s)

-- ---- what is allocated

abbrev pub kind_in : Allocation → Kind
kind_in a = a.kind

map_both : {A B : Type 0} (g : A → B) (xs ys : List A) → map g (xs ++ ys) ≡ map g xs ++ map g ys
map_both g [] ys = refl
map_both g (x ∷ xs) ys = ap (λ zs. g x ∷ zs) (map_both g xs ys)

module _ (F : Facts) where
  -- what the facts from this number on make
  abbrev From : ℕ → List Kind
  From n = kinds_in (drop n F.nodes)

  -- these are what the facts of the numbers from the first on make, up to the second
  abbrev pub Spans : ℕ → List Allocation → ℕ → Type 0
  Spans n xs m = map kind_in xs ++ From m ≡ From n

  spans_none : (n : ℕ) → Spans n [] n
  spans_none n = refl

  spans_both : (n k m : ℕ) (xs ys : List Allocation) → Spans n xs k → Spans k ys m → Spans n (xs ++ ys) m
  spans_both n k m xs ys p q = ap (λ (ks : List Kind). ks ++ From m) (map_both kind_in xs ys) ∙ append_assoc (map kind_in xs) (map kind_in ys) (From m) ∙ ap (λ (ks : List Kind). map kind_in xs ++ ks) q ∙ p

  as_spans : (n m : ℕ) (xs ys : List Allocation) → xs ≡ ys → Spans n ys m → Spans n xs m
  as_spans n m xs ys e h = subst (λ (z : List Allocation). Spans n z m) (sym e) h

  -- what one fact makes
  kinds_from : (fs : List Fact) (n : ℕ) → kinds_in (drop n fs) ≡ one_kind (kind_of (named_in (slice_get fs n)) (type_in (slice_get fs n))) ++ kinds_in (drop (suc n) fs)
  kinds_from [] zero = refl
  kinds_from [] (suc n) = refl
  kinds_from (f ∷ fs) zero = refl
  kinds_from (f ∷ fs) (suc n) = kinds_from fs n

  from_next : (n : ℕ) → one_kind (kind_of (named_at F n) (type_at F n)) ++ From (n + 1) ≡ From n
  from_next n = ap (λ (k : ℕ). one_kind (kind_of (named_at F n) (type_at F n)) ++ From k) (sym (add_one n)) ∙ sym (kinds_from F.nodes n)

  module _ (method : ℕ) where
    one_spans : (id token : ℕ) → Spans id (one_at F method id token) (id + 1)
    one_spans id token = by (kind_of (named_at F id) (type_at F id)) (from_next id)
      where
        by : (k : Option Kind) → one_kind k ++ From (id + 1) ≡ From id → Spans id (one_of k token method) (id + 1)
        by None h = h
        by (Some k) h = h

    -- an expression that allocates this itself, and this in it
    with_parts : (m : ℕ) (x : Expr) (xs : List Allocation) → in_expression F method x ≡ one_at F method x.id x.token ++ xs → Spans (x.id + 1) xs m → Spans x.id (in_expression F method x) m
    with_parts m x xs e h = as_spans x.id m (in_expression F method x) (one_at F method x.id x.token ++ xs) e (spans_both x.id (x.id + 1) m (one_at F method x.id x.token) xs (one_spans x.id x.token) h)

    abbrev A : Type 0
    A = List Allocation

    at_form : (x : Expr) (y : ExprForm-F ExprForm Expr) → x.form ≡ roll-ExprForm y → in_expression F method x ≡ one_at F method x.id x.token ++ inner (map-ExprForm ExprForm Expr A A (fold-ExprForm A A inner (here F method)) (in_expression F method) y)
    unfolding in_expression
    at_form x y h =
        fold_out-Expr A A inner (here F method) x ∙ ap (λ (k : ExprForm). one_at F method x.id x.token ++ fold-ExprForm A A inner (here F method) k) h
        ∙ ap (λ (k : A). one_at F method x.id x.token ++ k) (fold-roll-ExprForm A A inner (here F method) y)

    leaf : (x : Expr) (form : ExprForm) (y : ExprForm-F ExprForm Expr) → x.form ≡ form → roll-ExprForm y ≡ form → inner (map-ExprForm ExprForm Expr A A (fold-ExprForm A A inner (here F method)) (in_expression F method) y) ≡ [] → Spans x.id (in_expression F method x) (x.id + 1)
    leaf x form y h k e = with_parts (x.id + 1) x [] (at_form x y (h ∙ sym k) ∙ ap (λ (z : A). one_at F method x.id x.token ++ z) e) (spans_none (x.id + 1))

    mutual
      pub expression_spans : (n m : ℕ) (x : Expr) → IsExpr n x m → Spans n (in_expression F method x) m
      expression_spans _ _ _ (IsExpr.number x digits long h) = leaf x _ (f.Number digits long) h (rolls-Number digits long) refl
      expression_spans _ _ _ (IsExpr.text x bytes h) = leaf x _ (f.Str bytes) h (rolls-Str bytes) refl
      expression_spans _ _ _ (IsExpr.truth x h) = leaf x _ f.True h rolls-True refl
      expression_spans _ _ _ (IsExpr.falsehood x h) = leaf x _ f.False h rolls-False refl
      expression_spans _ _ _ (IsExpr.null x h) = leaf x _ f.Null h rolls-Null refl
      expression_spans _ _ _ (IsExpr.this x h) = leaf x _ f.This h rolls-This refl
      expression_spans _ _ _ (IsExpr.variable x name h) = leaf x _ (f.Name name) h (rolls-Name name) refl
      expression_spans _ _ _ (IsExpr.group m x y h d) = with_parts m x _ (found_group F method x y y h refl) (expression_spans (x.id + 1) m y d)
      expression_spans _ _ _ (IsExpr.field m x of name h d) = with_parts m x _ (found_field F method x of of name h refl) (expression_spans (x.id + 1) m of d)
      expression_spans _ _ _ (IsExpr.indexed k m x of at h d g) = with_parts m x _ (found_index F method x of of at at h refl refl) (spans_both (x.id + 1) k m (in_expression F method of) (in_expression F method at) (expression_spans (x.id + 1) k of d) (expression_spans k m at g))
      expression_spans _ _ _ (IsExpr.own_call m x name args h d) = with_parts m x _ (found_call F method x None name args h) (arguments_span (x.id + 1) m args d)
      expression_spans _ _ _ (IsExpr.call k m x of name args h d g) = with_parts m x _ (found_call F method x (Some of) name args h) (spans_both (x.id + 1) k m (in_expression F method of) (all_of (map (in_expression F method) args)) (expression_spans (x.id + 1) k of d) (arguments_span k m args g))
      expression_spans _ _ _ (IsExpr.new_object x name h) = leaf x _ (f.NewObject name) h (rolls-NewObject name) refl
      expression_spans _ _ _ (IsExpr.new_array m x b size h i d) = with_parts m x _ (found_new_array F method x size size b h refl) (expression_spans (x.id + 1) m size d)
      expression_spans _ _ _ (IsExpr.prefix m x sign y h i d) = with_parts m x _ (found_prefix F method x y y sign h refl) (expression_spans (x.id + 1) m y d)
      expression_spans _ _ _ (IsExpr.binary k m x sign at y z h i d g) = with_parts m x _ (found_binary F method x y z y z sign at h refl refl) (spans_both (x.id + 1) k m (in_expression F method y) (in_expression F method z) (expression_spans (x.id + 1) k y d) (expression_spans k m z g))

      arguments_span : (n m : ℕ) (xs : List Expr) → AreExprs n xs m → Spans n (all_of (map (in_expression F method) xs)) m
      arguments_span _ _ _ (AreExprs.none n) = spans_none n
      arguments_span _ _ _ (AreExprs.more n k m x xs d ds) = spans_both n k m (in_expression F method x) (all_of (map (in_expression F method) xs)) (expression_spans n k x d) (arguments_span k m xs ds)

-- ---- statements

sited_at : (ns rest : List Node) (call site n : ℕ) (x : Node) → drop n ns ≡ x ∷ rest → (c s : ℕ) × (slice_get (sited call site ns) n ≡ Some (record { ty = x.fact.ty; named = with_numbers c s x.fact.named }))
sited_at [] rest call site zero x h = absurd (cc h)
sited_at [] rest call site (suc n) x h = absurd (cc h)
sited_at (y ∷ ns) rest call site zero x h =
    let e : y ≡ x = cc h in
    (call, site, ap (λ (z : Node). Some (record { ty = z.fact.ty; named = with_numbers call site z.fact.named })) e)
sited_at (y ∷ ns) rest call site (suc n) x h = sited_at ns rest (call_after call y.fact.named) (site_after site y.fact.named) n x h

sited_end : (ns : List Node) (call site n : ℕ) → drop n ns ≡ [] → drop n (sited call site ns) ≡ []
sited_end [] call site zero h = refl
sited_end [] call site (suc n) h = refl
sited_end (y ∷ ns) call site zero h = absurd (cc h)
sited_end (y ∷ ns) call site (suc n) h = sited_end ns (call_after call y.fact.named) (site_after site y.fact.named) n h

pub changed_plain : (slot : Option Slot) → is_plain (changed_fact slot).named ≡ true
changed_plain None = refl
changed_plain (Some slot) = refl

allocations_both : (F : Facts) (number : ℕ) (xs ys : List Method) → allocations F number (xs ++ ys) ≡ allocations F number xs ++ allocations F (number + length xs) ys
allocations_both F number [] ys = ap (λ (n : ℕ). allocations F n ys) (omega arith)
allocations_both F number (x ∷ xs) ys =
    ap (λ (made : List Allocation). in_statement F number x.body ++ made) (allocations_both F (number + 1) xs ys ∙ ap (λ (n : ℕ). allocations F (number + 1) xs ++ allocations F n ys) (further number (length xs)))
    ∙ sym (append_assoc (in_statement F number x.body) (allocations F (number + 1) xs) (allocations F (number + suc (length xs)) ys))
  where
    further : (n l : ℕ) → (n + 1) + l ≡ n + suc l
    further n l = omega arith

module _ (F : Facts) (ns : List Node) (is : F.nodes ≡ sited 1 1 ns) where
  -- these nodes stand from the first number on and up to the second, and these are allocated by them
  abbrev Covers : (n : ℕ) → List Node → List Allocation → (m : ℕ) → Type 0
  Covers n xs made m = (more : List Node) → drop n ns ≡ xs ++ more → Spans F n made m × (drop m ns ≡ more)

  covers_none : (n : ℕ) → Covers n [] [] n
  covers_none n more h = (spans_none F n, h)

  covers_both : (n k m : ℕ) (xs ys : List Node) (made bs : List Allocation) → Covers n xs made k → Covers k ys bs m → Covers n (xs ++ ys) (made ++ bs) m
  covers_both n k m xs ys made bs p q more h =
      let a = p (ys ++ more) (h ∙ append_assoc xs ys more) in
      let b = q more a.1 in
      (spans_both F n k m made bs a.0 b.0, b.1)

  no_kind : (n : ℕ) (f : Fact) (rest : List Node) → drop n ns ≡ fact_only f ∷ rest → is_plain f.named ≡ true → kind_of (named_at F n) (type_at F n) ≡ None
  no_kind n f rest h p =
      let a = sited_at ns rest 1 1 n (fact_only f) h in
      let q = plain f.named p in
      ap (λ (o : Option Fact). kind_of (named_in o) (type_in o)) (ap (λ (fs : List Fact). slice_get fs n) is ∙ a.2)
      ∙ ap (λ (z : Named). kind_of z f.ty) (q.numbers a.0 a.1) ∙ q.kind f.ty

  -- a statement's own node makes nothing
  covers_one : (n m : ℕ) (f : Fact) (rest : List Node) (made : List Allocation) → is_plain f.named ≡ true → Covers (n + 1) rest made m → Covers n (fact_only f ∷ rest) made m
  covers_one n m f rest made p k more h =
      let none = no_kind n f (rest ++ more) h p in
      let r = k more (ap (λ (i : ℕ). drop i ns) (sym (add_one n)) ∙ rest_in_drop ns (rest ++ more) n (fact_only f) h) in
      (r.0 ∙ sym (ap (λ (o : Option Kind). one_kind o ++ kinds_in (drop (n + 1) F.nodes)) none) ∙ from_next F n, r.1)

  module _ (H : Home) (method : ℕ) where
    abbrev Does : ℕ → Stmt → ℕ → Type 0
    Does n x m = (s : Scope) → Covers n (told H x s).nodes (in_statement F method x) m

    by_form : (m : ℕ) (x : Stmt) (s : Scope) (t : Told) (f : Fact) (rest : List Node) (made : List Allocation) → told H x s ≡ t → t.nodes ≡ fact_only f ∷ rest → in_statement F method x ≡ made → is_plain f.named ≡ true → Covers (x.id + 1) rest made m → Covers x.id (told H x s).nodes (in_statement F method x) m
    by_form m x s t f rest made e k i p c =
        subst (λ (xs : List Node). Covers x.id xs (in_statement F method x) m) (sym (ap (λ (z : Told). z.nodes) e ∙ k)) (subst (λ (bs : List Allocation). Covers x.id (fact_only f ∷ rest) bs m) (sym i) (covers_one x.id m f rest made p c))

    value : (n m : ℕ) (x : Expr) → IsExpr n x m → (s : Scope) → Covers n (all_nodes (known H x s)) (in_expression F method x) m
    value n m x d s more h = (expression_spans F method n m x d, expression_passes H n m x d s ns more h)

    mutual
      pub statement_covers : (n m : ℕ) (x : Stmt) → IsStmt n x m → Does n x m
      statement_covers _ _ _ (IsStmt.block m x items h d) s = by_form m x s _ no_fact _ _ (told_block H x s items h) refl (found_block F method x items h) refl (statements_cover (x.id + 1) m items d s)
      statement_covers _ _ _ (IsStmt.empty x h) s = by_form (x.id + 1) x s _ no_fact _ _ (told_empty H x s h) refl (found_empty F method x h) refl (covers_none (x.id + 1))
      statement_covers _ _ _ (IsStmt.local m x t name y h i d) s = by_form m x s _ (local_fact (type_of H.classes.numbers t) (length s.slots)) _ _ (told_local H x s t name y h) refl (found_local F method x t name y h) refl (value (x.id + 1) m y d s)
      statement_covers _ _ _ (IsStmt.assign k m x place y h d g) s = by_form m x s _ no_fact _ _ (told_assign H x s place y h) refl (found_assign F method x place y h) refl (covers_both (x.id + 1) k m (all_nodes (known H place s)) (all_nodes (known H y s)) (in_expression F method place) (in_expression F method y) (value (x.id + 1) k place d s) (value k m y g s))
      statement_covers _ _ _ (IsStmt.compound m x name sign y h d) s = by_form m x s _ (changed_fact (slot_of name.bytes s)) _ _ (told_compound H x s name sign y h) refl (found_compound F method x name sign y h) (changed_plain (slot_of name.bytes s)) (value (x.id + 1) m y d s)
      statement_covers _ _ _ (IsStmt.up x name h) s = by_form (x.id + 1) x s _ (changed_fact (slot_of name.bytes s)) _ _ (told_up H x s name h) refl (found_up F method x name h) (changed_plain (slot_of name.bytes s)) (covers_none (x.id + 1))
      statement_covers _ _ _ (IsStmt.down x name h) s = by_form (x.id + 1) x s _ (changed_fact (slot_of name.bytes s)) _ _ (told_down H x s name h) refl (found_down F method x name h) (changed_plain (slot_of name.bytes s)) (covers_none (x.id + 1))
      statement_covers _ _ _ (IsStmt.call m x y h d) s = by_form m x s _ no_fact _ _ (told_call H x s y h) refl (found_call_statement F method x y h) refl (value (x.id + 1) m y d s)
      statement_covers _ _ _ (IsStmt.if_only k m x test a h d g) s =
          by_form m x s _ no_fact _ _ (told_if H x s test None a a h refl) refl (found_if F method x test a a None h refl) refl
          (covers_both (x.id + 1) k m (all_nodes (known H test s)) ((told H a s).nodes ++ []) (in_expression F method test) (in_statement F method a ++ []) (value (x.id + 1) k test d s)
          (covers_both k m m (told H a s).nodes [] (in_statement F method a) [] (statement_covers k m a g s) (covers_none m)))
      statement_covers _ _ _ (IsStmt.if_else k j m x test a b h d g i) s =
          let t = told H a s in
          let u = told H b t.scope in
          by_form m x s _ no_fact _ _ (told_if H x s test (Some b) a a h refl) refl (found_if F method x test a a (Some b) h refl) refl
          (covers_both (x.id + 1) k m (all_nodes (known H test s)) (t.nodes ++ u.nodes) (in_expression F method test) (in_statement F method a ++ in_statement F method b) (value (x.id + 1) k test d s)
          (covers_both k j m t.nodes u.nodes (in_statement F method a) (in_statement F method b) (statement_covers k j a g s) (statement_covers j m b i t.scope)))
      statement_covers _ _ _ (IsStmt.while k m x test body h d g) s =
          by_form m x s _ no_fact _ _ (told_while H x s test body body h refl) refl (found_while F method x test body body h refl) refl
          (covers_both (x.id + 1) k m (all_nodes (known H test s)) (told H body s).nodes (in_expression F method test) (in_statement F method body) (value (x.id + 1) k test d s) (statement_covers k m body g s))
      statement_covers _ _ _ (IsStmt.for_loop k j i m x first test last body h d g p q) s =
          let t = told H first s in
          let u = told H last t.scope in
          let v = told H body u.scope in
          let c = all_nodes (known H test t.scope) in
          let w = in_statement F method in
          by_form m x s _ no_fact _ _ (told_for H x s test first first last last body body h refl refl refl) refl (found_for F method x first first test last last body body h refl refl refl) refl
          (covers_both (x.id + 1) k m t.nodes (c ++ (u.nodes ++ v.nodes)) (w first) (in_expression F method test ++ (w last ++ w body)) (statement_covers (x.id + 1) k first d s)
          (covers_both k j m c (u.nodes ++ v.nodes) (in_expression F method test) (w last ++ w body) (value k j test g t.scope)
          (covers_both j i m u.nodes v.nodes (w last) (w body) (statement_covers j i last p t.scope) (statement_covers i m body q u.scope))))
      statement_covers _ _ _ (IsStmt.leave x h) s = by_form (x.id + 1) x s _ no_fact _ _ (told_return H x s None h) refl (found_return F method x None h) refl (covers_none (x.id + 1))
      statement_covers _ _ _ (IsStmt.give m x y h d) s = by_form m x s _ no_fact _ _ (told_return H x s (Some y) h) refl (found_return F method x (Some y) h) refl (value (x.id + 1) m y d s)
      statement_covers _ _ _ (IsStmt.print m x y h d) s = by_form m x s _ no_fact _ _ (told_print H x s y h) refl (found_print F method x y h) refl (value (x.id + 1) m y d s)

      statements_cover : (n m : ℕ) (xs : List Stmt) → AreStmts n xs m → (s : Scope) → Covers n (in_order (map (told H) xs) s).nodes (all_of (map (in_statement F method) xs)) m
      statements_cover _ _ _ (AreStmts.none n) s = covers_none n
      statements_cover _ _ _ (AreStmts.more n k m x xs d ds) s = covers_both n k m (told H x s).nodes (in_order (map (told H) xs) (told H x s).scope).nodes (in_statement F method x) (all_of (map (in_statement F method) xs)) (statement_covers n k x d s) (statements_cover k m xs ds (told H x s).scope)

  -- ---- methods

  members_cover : (H : Home) (number n m : ℕ) (ms : List Member) → AreMembers n ms m → Covers n (class_found H ms).nodes (allocations F number (methods_in ms)) m
  members_cover H number _ _ _ (AreMembers.none n) = covers_none n
  members_cover H number _ _ _ (AreMembers.field n m f ms i d) = members_cover H number n m ms d
  members_cover H number _ _ _ (AreMembers.method n k m x ms ir ip b d) =
      covers_both n k m (told_body H x).nodes (class_found H ms).nodes (in_statement F number x.body) (allocations F (number + 1) (methods_in ms))
      (statement_covers H number n k x.body b (with_params H.classes.numbers (first_scope H.this) x.params)) (members_cover H (number + 1) k m ms d)

  classes_cover : (H : Home) (number n m : ℕ) (cs : List Class) → AreClasses n cs m → Covers n (all_found H cs).nodes (allocations F number (methods_of cs)) m
  classes_cover H number _ _ _ (AreClasses.none n) = covers_none n
  classes_cover H number _ _ _ (AreClasses.more n k m c cs d ds) =
      let next = number + length (methods_in c.members) in
      subst (λ (made : List Allocation). Covers n ((class_found H c.members).nodes ++ (all_found (next_class H) cs).nodes) made m) (sym (allocations_both F number (methods_in c.members) (methods_of cs)))
      (covers_both n k m (class_found H c.members).nodes (all_found (next_class H) cs).nodes (allocations F number (methods_in c.members)) (allocations F next (methods_of cs)) (members_cover H number n k c.members d) (classes_cover (next_class H) next k m cs ds))

  -- what all methods allocate
  pub all_allocated : (H : Home) (m : ℕ) (cs : List Class) → AreClasses 0 cs m → ns ≡ (all_found H cs).nodes → map kind_in (allocations F 1 (methods_of cs)) ≡ kinds_in F.nodes
  all_allocated H m cs d e =
      let r = classes_cover H 1 0 m cs d [] (e ∙ sym (append-nil (all_found H cs).nodes)) in
      let end : drop m F.nodes ≡ [] = ap (drop m) is ∙ sited_end ns 1 1 m r.1 in
      sym (append-nil (map kind_in (allocations F 1 (methods_of cs)))) ∙ sym (ap (λ (fs : List Fact). map kind_in (allocations F 1 (methods_of cs)) ++ kinds_in fs) end) ∙ r.0
