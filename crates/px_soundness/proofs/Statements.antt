-- A statement in which no breach is noted is typed by its facts.
use Rattle.std.proofs.Common.{◌≡◌, ◌≤◌, ℕ, ◌+◌, Bool, true, false, ◌||◌, List, [], ◌∷◌, ◌++◌, map, length, Option, Some, None, slice_get, if◌then◌else◌, refl, sym, ap, ◌∙◌, subst, arith, append_assoc, append-nil}
use Rattle.std.proofs.lemmas.List.{length-take-le}
use Rattle.px_value.specs.declared.op.Op.TheVariants as op
use Rattle.px_tree.specs.declared.Name.{Name}
use Rattle.px_tree.specs.declared.TypeName.{TypeName}
use Rattle.px_tree.specs.declared.Base.{Base}
use Rattle.px_tree.specs.declared.Base.TheVariants as base
use Rattle.px_tree.specs.declared.Sign.{Sign}
use Rattle.px_tree.specs.declared.Expr.{Expr}
use Rattle.px_tree.specs.declared.ExprForm.{ExprForm, ExprForm-F, out-ExprForm, out-roll-ExprForm, roll-ExprForm}
use Rattle.px_tree.specs.declared.ExprForm.TheVariants as e
use Rattle.px_tree.specs.declared.ExprForm.TheVariants.{rolls-Number, rolls-Str, rolls-True, rolls-False, rolls-Null, rolls-This, rolls-Name, rolls-Group, rolls-Field, rolls-Index, rolls-Call, rolls-NewObject, rolls-NewArray, rolls-Prefix, rolls-Binary}
use Rattle.px_tree.specs.declared.ExprForm.TheOpen.{ExprForm-F as f}
use Rattle.px_tree.specs.declared.Stmt.{Stmt}
use Rattle.px_tree.specs.declared.StmtForm.TheVariants as st
use Rattle.px_facts.specs.declared.types.Ty.{Ty}
use Rattle.px_facts.specs.declared.types.Ty.TheVariants as ty
use Rattle.px_facts.specs.declared.checked.Facts.{Facts}
use Rattle.px_facts.specs.Types.{is_unknown, is_void, is_number, is_array, is_printable, fits, array_of}
use Rattle.px_types.specs.declared.table.Table.{Table}
use Rattle.px_types.specs.declared.node.Node.{Node}
use Rattle.px_types.specs.declared.classes.Classes.{Classes}
use Rattle.px_types.specs.declared.locals.Locals.{Locals}
use Rattle.px_types.specs.declared.scope.Slot.{Slot}
use Rattle.px_types.specs.declared.scope.Scope.{Scope}
use Rattle.px_type_rules.specs.Breaches.{breach_if}
use Rattle.px_types.specs.Names.{find, has_name}
use Rattle.px_type_rules.specs.Operators.{group_of, compound_fits}
use Rattle.px_types.specs.Members.{class_type, base_type, type_of, names_no_class}
use Rattle.px_types.specs.Scopes.{with_local, left, local_notes, local_type, or_unknown}
use Rattle.px_types.specs.Slots.{slot_of}
use Rattle.px_types.specs.Facts.{no_fact, local_fact, changed_fact}
use Rattle.px_types.specs.Expressions.{Typed, typed, misfit, field}
use Rattle.px_types.specs.Statements as judging
use Rattle.px_types.specs.Statements.{Judged, JudgesStmt, judged, judged_form, behind, ended, unreached, value_notes, local, assigned_field, place_of_form, assigned_place, assign, compound, step, condition, print, return_notes, returned, branches, otherwise, completing, for_loop, block, no_local, unknown_if}
use Rattle.px_types.specs.Known.{known, fact_only, all_nodes}
use Rattle.px_types.specs.Told as telling
use Rattle.px_types.specs.Told.{Told, Tells, told, in_order, block_told, local_told, assign_told, change_told, value_told, return_told, if_told, while_told, for_told}
use Rattle.px_types.proofs.Forms.{typed_by_form, typed_field}
use Rattle.px_types.proofs.StatementForms.{judged_by_form, judged_block, judged_empty, judged_local, judged_assign, judged_compound, judged_up, judged_down, judged_call, judged_if, judged_while, judged_for, judged_return, judged_print}
use Rattle.px_types.proofs.ToldForms.{told_block, told_empty, told_local, told_assign, told_compound, told_up, told_down, told_call, told_if, told_while, told_for, told_return, told_print}
use Rattle.px_types.specs.declared.home.Home.{Home}
use Rattle.px_types.specs.declared.context.Context.{Context}
use Rattle.px_mean.specs.Facts.{type_at, op_of}
use Rattle.px_mean.specs.Typing.{Fits, Promotes, GivesType, IsTypedStmt, AreTypedStmts, WritesLocal}
use Rattle.px_uses.specs.Uses.{joins, AreUsed}
use Rattle.px_uses.proofs.Made.{AreAllUsed, used_block, used_empty, used_local, used_assign, used_compound, used_up, used_down, used_call_statement, used_if, used_while, used_for, used_leave, used_give, used_print}
use Rattle.px_soundness.specs.Numbered.{IsTypeName, IsExpr, IsStmt, AreStmts}
use Rattle.px_soundness.proofs.Clean.{Clean, clean_left, clean_right, kept, not_broken, or_right}
use Rattle.px_soundness.proofs.Operators.{fitting, truth_of, void_of, number_of, promotes_itself, compound_stands, compound_joined}
use Rattle.px_soundness.proofs.Standing.{Rest, IsFixed, fixed_at, regroup}
use Rattle.px_soundness.proofs.Premises.{MembersStand, home as home_in, context as context_in, Sees}
use Rattle.px_soundness.proofs.Expressions.{element_of, found_class, Good, expression_holds}
use Rattle.px_soundness.proofs.Scopes.{get_seam, Agrees, LocalStands, local_stands, agreeing_sees, declared_matches, initialiser_sees, left_agrees}

-- ---- types

pub base_known : (numbers : Table ℕ) (b : Base) → Clean (names_no_class numbers b) → is_unknown (base_type numbers b) ≡ false
base_known numbers base.Int h = refl
base_known numbers base.Long h = refl
base_known numbers base.Boolean h = refl
base_known numbers base.Str h = refl
base_known numbers base.ResultSet h = refl
base_known numbers (base.Class name) h =
    let c = found_class numbers name (find name.bytes numbers) refl h in
    ap (λ (o : Option ℕ). is_unknown (class_type o)) c.is

by_array : (numbers : Table ℕ) (t : TypeName) (b : Bool) → t.array ≡ b → is_unknown (if b then array_of (base_type numbers t.base) else base_type numbers t.base) ≡ false → is_unknown (type_of numbers t) ≡ false
by_array numbers t b e h = subst (λ (x : Bool). is_unknown (if x then array_of (base_type numbers t.base) else base_type numbers t.base) ≡ false) (sym e) h

pub type_known : (numbers : Table ℕ) (t : TypeName) → IsTypeName t → Clean (names_no_class numbers t.base) → is_unknown (type_of numbers t) ≡ false
type_known numbers _ (IsTypeName.single t e) h = by_array numbers t false e (base_known numbers t.base h)
type_known numbers _ (IsTypeName.array t e i) h = by_array numbers t true e (ap is_unknown (element_of numbers t.base i h).is)

-- ---- slots

-- a scope has the slots of another and maybe more behind them
abbrev pub Grown : Scope → Scope → Type 0
Grown s t = (added : List Ty) × (t.slots ≡ s.slots ++ added)

pub grown_none : (s : Scope) → Grown s s
grown_none s = ([], sym (append-nil s.slots))

pub grown_both : (s t u : Scope) → Grown s t → Grown t u → Grown s u
grown_both s t u g h = (g.0 ++ h.0, h.1 ∙ ap (λ us. us ++ h.0) g.1 ∙ append_assoc s.slots g.0 h.0)

module _ (H : Home) where
  grown_as : (s : Scope) (t u : Told) → t ≡ u → Grown s u.scope → Grown s t.scope
  grown_as s t u e g = subst (λ (z : Told). Grown s z.scope) (sym e) g

  mutual
    pub grows : (n m : ℕ) (x : Stmt) → IsStmt n x m → (s : Scope) → Grown s (told H x s).scope
    grows _ _ _ (IsStmt.block m x items h d) s = grown_as s _ _ (told_block H x s items h) (all_grow (x.id + 1) m items d s)
    grows _ _ _ (IsStmt.empty x h) s = grown_as s _ _ (told_empty H x s h) (grown_none s)
    grows _ _ _ (IsStmt.local m x t name value h i d) s = grown_as s _ _ (told_local H x s t name value h) (type_of H.classes.numbers t ∷ [], refl)
    grows _ _ _ (IsStmt.assign k m x place value h d g) s = grown_as s _ _ (told_assign H x s place value h) (grown_none s)
    grows _ _ _ (IsStmt.compound m x name sign value h d) s = grown_as s _ _ (told_compound H x s name sign value h) (grown_none s)
    grows _ _ _ (IsStmt.up x name h) s = grown_as s _ _ (told_up H x s name h) (grown_none s)
    grows _ _ _ (IsStmt.down x name h) s = grown_as s _ _ (told_down H x s name h) (grown_none s)
    grows _ _ _ (IsStmt.call m x value h d) s = grown_as s _ _ (told_call H x s value h) (grown_none s)
    grows _ _ _ (IsStmt.if_only k m x test a h d g) s = grown_as s _ _ (told_if H x s test None a a h refl) (grows k m a g s)
    grows _ _ _ (IsStmt.if_else k j m x test a b h d g i) s = grown_as s _ _ (told_if H x s test (Some b) a a h refl) (grown_both s (told H a s).scope (told H b (told H a s).scope).scope (grows k j a g s) (grows j m b i (told H a s).scope))
    grows _ _ _ (IsStmt.while k m x test body h d g) s = grown_as s _ _ (told_while H x s test body body h refl) (grows k m body g s)
    grows _ _ _ (IsStmt.for_loop k j i m x first test last body h d g p q) s =
        let s1 = (told H first s).scope in
        let s2 = (told H last s1).scope in
        grown_as s _ _ (told_for H x s test first first last last body body h refl refl refl)
        (grown_both s s1 (told H body s2).scope (grows (x.id + 1) k first d s) (grown_both s1 s2 (told H body s2).scope (grows j i last p s1) (grows i m body q s2)))
    grows _ _ _ (IsStmt.leave x h) s = grown_as s _ _ (told_return H x s None h) (grown_none s)
    grows _ _ _ (IsStmt.give m x value h d) s = grown_as s _ _ (told_return H x s (Some value) h) (grown_none s)
    grows _ _ _ (IsStmt.print m x value h d) s = grown_as s _ _ (told_print H x s value h) (grown_none s)

    all_grow : (n m : ℕ) (xs : List Stmt) → AreStmts n xs m → (s : Scope) → Grown s (in_order (map (told H) xs) s).scope
    all_grow _ _ _ (AreStmts.none n) s = grown_none s
    all_grow _ _ _ (AreStmts.more n k m x xs d ds) s = grown_both s (told H x s).scope (in_order (map (told H) xs) (told H x s).scope).scope (grows n k x d s) (all_grow k m xs ds (told H x s).scope)

module _ (F : Facts) (slots : List Ty) (classes : Classes) (firsts : List ℕ) (this : ℕ) (result : Ty) (members : MembersStand F classes firsts) (this_is : slice_get slots 0 ≡ Some (ty.Object this)) (result_known : is_unknown result ≡ false) where
  abbrev H : Home
  H = home_in F slots classes firsts this result members

  abbrev C : Context
  C = context_in F slots classes firsts this result members

  abbrev Agree : Locals → Scope → Type 0
  Agree l s = Agrees F slots classes firsts this result members l s

  see : (l : Locals) (s : Scope) → Agree l s → Sees F slots classes firsts this result members l s
  see l s a = agreeing_sees F slots classes firsts this result members l s this_is a

  -- the slots so far are the first of all
  abbrev pub IsFront : Scope → Type 0
  IsFront s = (later : List Ty) × (slots ≡ s.slots ++ later)

  pub front_of : (s t : Scope) → Grown s t → IsFront t → IsFront s
  front_of s t g h = (g.0 ++ h.0, h.1 ∙ ap (λ us. us ++ h.0) g.1 ∙ append_assoc s.slots g.0 h.0)

  -- what holds of a statement, by what its two walks give
  pub record Done (m : ℕ) (x : Stmt) (more : List Node) (l : Locals) (j : Judged) (t : Told) : Type 0 where
    pub typed : IsTypedStmt F slots result j.completes x
    pub used : AreUsed F result x
    pub agrees : Agrees F slots classes firsts this result members j.locals t.scope
    pub longer : length l.table.names ≤ length j.locals.table.names
    pub rest : Rest F m more

  abbrev pub Does : ℕ → Stmt → ℕ → Type 0
  Does n x m = (reached : Bool) (l : Locals) (s : Scope) → Agree l s → (more : List Node) → Clean (judged C x reached l).notes → IsFront (told H x s).scope → Rest F n ((told H x s).nodes ++ more) → Done m x more l (judged C x reached l) (told H x s)

  by_statement : (m : ℕ) (x : Stmt) (more : List Node) (reached : Bool) (l : Locals) (b : Judged) (p q : Told) → judged_form C x.form x.token l ≡ b → p ≡ q → (Clean b.notes → IsFront q.scope → Rest F x.id (q.nodes ++ more) → Done m x more l b q)
      → Clean (judged C x reached l).notes → IsFront p.scope → Rest F x.id (p.nodes ++ more) → Done m x more l (judged C x reached l) p
  by_statement m x more reached l b p q e g k c h r =
      let ns = unreached reached x.token in
      let is : judged C x reached l ≡ behind ns b = judged_by_form C x reached l ∙ ap (behind ns) e in
      let d = k (clean_right ns b.notes (subst (λ (z : Judged). Clean z.notes) is c)) (subst (λ (z : Told). IsFront z.scope) g h) (subst (λ (z : Told). Rest F x.id (z.nodes ++ more)) g r) in
      subst (λ (z : Judged). Done m x more l z p) (sym is) (subst (λ (z : Told). Done m x more l (behind ns b) z) (sym g)
      (record { typed = d.typed; used = d.used; agrees = d.agrees; longer = d.longer; rest = d.rest }))

  same_long : (l : Locals) → length l.table.names ≤ length l.table.names
  same_long l = omega arith

  longer_both : (a b c : Locals) → length a.table.names ≤ length b.table.names → length b.table.names ≤ length c.table.names → length a.table.names ≤ length c.table.names
  longer_both a b c h k = omega (arith, h, k)

  -- an expression of a statement
  valued : (n m : ℕ) (x : Expr) → IsExpr n x m → (l : Locals) (s : Scope) → Sees F slots classes firsts this result members l s → (more : List Node) → Clean (typed C x false l).notes → Rest F n (all_nodes (known H x s) ++ more) → Good F slots classes firsts this result members m x more (typed C x false l) (known H x s)
  valued n m x d l s sees more c r = expression_holds F slots classes firsts this result members n m x d false l s sees more c r

  -- a value that fits
  fitted : (to : Ty) (x : Expr) (u : Typed) (token : ℕ) → is_unknown to ≡ false → is_unknown u.ty ≡ false → type_at F x.id ≡ u.ty → Clean (misfit (fits to u.ty) token) → Fits (type_at F x.id) to
  fitted to x u token k w e c = subst (λ (z : Ty). Fits z to) (sym e) (fitting to u.ty k w (kept (fits to u.ty) token 6 c))

  no_fact_fixed : IsFixed no_fact.named
  no_fact_fixed = λ call site. (refl, refl)

  -- ---- one statement

  empty_done : (x : Stmt) → x.form ≡ st.Empty → Does x.id x (x.id + 1)
  empty_done x h reached l s a more =
      by_statement (x.id + 1) x more reached l (judging.plain l []) _ (telling.plain [] s) (judged_empty C x.form x.token l h) (told_empty H x s h) (λ c h' r.
      record { typed = IsTypedStmt.empty x h; used = used_empty F result x h; agrees = a; longer = same_long l; rest = (fixed_at F x.id no_fact more no_fact_fixed r).next })

  call_done : (m : ℕ) (x : Stmt) (value : Expr) → x.form ≡ st.Call value → IsExpr (x.id + 1) value m → Does x.id x m
  call_done m x value h d reached l s a more =
      by_statement m x more reached l (judging.plain l (typed C value false l).notes) _ (value_told H value s) (judged_call C x.form x.token l value h) (told_call H x s value h) (λ c h' r.
      let at = fixed_at F x.id no_fact (all_nodes (known H value s) ++ more) no_fact_fixed r in
      let g = valued (x.id + 1) m value d l s (see l s a) more c at.next in
      record { typed = IsTypedStmt.call x value h g.typed; used = used_call_statement F result x value h g.used; agrees = a; longer = same_long l; rest = g.rest })

  print_done : (m : ℕ) (x : Stmt) (value : Expr) → x.form ≡ st.Print value → IsExpr (x.id + 1) value m → Does x.id x m
  print_done m x value h d reached l s a more =
      by_statement m x more reached l (judging.plain l (print C x.token value l)) _ (value_told H value s) (judged_print C x.form x.token l value h) (told_print H x s value h) (λ c h' r.
      let at = fixed_at F x.id no_fact (all_nodes (known H value s) ++ more) no_fact_fixed r in
      let g = valued (x.id + 1) m value d l s (see l s a) more (clean_left (typed C value false l).notes _ c) at.next in
      let u = typed C value false l in
      let shown = subst (λ (z : Ty). is_printable z ≡ true) (sym g.type_is) (kept (is_printable u.ty) x.token 6 (clean_right u.notes _ c)) in
      record { typed = IsTypedStmt.print x value h g.typed; used = used_print F result x value h shown g.used; agrees = a; longer = same_long l; rest = g.rest })

  leave_done : (x : Stmt) → x.form ≡ st.Return None → Does x.id x (x.id + 1)
  leave_done x h reached l s a more =
      by_statement (x.id + 1) x more reached l (returned l (return_notes C x.token None l)) _ (return_told H None s) (judged_return C x.form x.token l None h) (told_return H x s None h) (λ c h' r.
      record { typed = IsTypedStmt.leave x h (void_of result (kept (is_void result) x.token 10 c)); used = used_leave F result x h; agrees = a; longer = same_long l; rest = (fixed_at F x.id no_fact more no_fact_fixed r).next })

  give_done : (m : ℕ) (x : Stmt) (value : Expr) → x.form ≡ st.Return (Some value) → IsExpr (x.id + 1) value m → Does x.id x m
  give_done m x value h d reached l s a more =
      by_statement m x more reached l (returned l (return_notes C x.token (Some value) l)) _ (return_told H (Some value) s) (judged_return C x.form x.token l (Some value) h) (told_return H x s (Some value) h) (λ c h' r.
      let u = typed C value false l in
      let at = fixed_at F x.id no_fact (all_nodes (known H value s) ++ more) no_fact_fixed r in
      let g = valued (x.id + 1) m value d l s (see l s a) more (clean_left u.notes _ c) at.next in
      let c' = clean_right u.notes _ c in
      let not_void = not_broken (is_void result) x.token 10 (clean_left (breach_if (is_void result) x.token 10) _ c') in
      let fit = or_right (is_void result) (fits result u.ty) not_void (kept (is_void result || fits result u.ty) x.token 6 (clean_right (breach_if (is_void result) x.token 10) _ c')) in
      record { typed = IsTypedStmt.give x value h (subst (λ (z : Ty). Fits z result) (sym g.type_is) (fitting result u.ty result_known g.known fit)) g.typed; used = used_give F result x value h not_void g.used; agrees = a; longer = same_long l; rest = g.rest })

  -- ---- declarations

  local_done : (m : ℕ) (x : Stmt) (t : TypeName) (name : Name) (value : Expr) → x.form ≡ st.Local t name value → IsTypeName t → IsExpr (x.id + 1) value m → Does x.id x m
  local_done m x t name value h i d reached l s a more =
      by_statement m x more reached l (local C x.token t name value l) _ (local_told H t name value s) (judged_local C x.form x.token l t name value h) (told_local H x s t name value h) (λ c h' r.
      let u = type_of classes.numbers t in
      let ns = names_no_class classes.numbers t.base in
      let inner = with_local name u l in
      let v = typed C value false inner in
      let u_known = type_known classes.numbers t i (clean_left ns _ c) in
      let c' = clean_right ns _ c in
      let again = has_name name.bytes l.table.names in
      let fresh = not_broken again name.token 1 (clean_left (breach_if again name.token 1) _ (clean_left (local_notes name l) _ c')) in
      let c'' = clean_right (local_notes name l) _ c' in
      let at = fixed_at F x.id (local_fact u (length s.slots)) (all_nodes (known H value s) ++ more) (λ call site. (refl, refl)) r in
      let g = valued (x.id + 1) m value d inner s (initialiser_sees F slots classes firsts this result members l s name u this_is a fresh) more (clean_left v.notes _ c'') at.next in
      let slot : slice_get slots (length s.slots) ≡ Some u = ap (λ (us : List Ty). slice_get us (length s.slots)) (h'.1 ∙ append_assoc s.slots (u ∷ []) h'.0) ∙ get_seam s.slots h'.0 u in
      record {
        typed = IsTypedStmt.local x t name value h (length s.slots, at.named_is, slot ∙ ap Some (sym at.type_is)) (subst (λ (z : Ty). Fits (type_at F value.id) z) (sym at.type_is) (fitted u value v x.token u_known g.known g.type_is (clean_right v.notes _ c''))) g.typed;
        used = used_local F result x t name value h g.used;
        agrees = record { matches = declared_matches F slots classes firsts this result members l.table s name.bytes u a.matches fresh slot u_known; usable = refl };
        longer = declared_longer again l name.bytes u fresh;
        rest = g.rest;
      })
    where
      declared_longer : (again : Bool) (l : Locals) (name : List ℕ) (u : Ty) → again ≡ false → length l.table.names ≤ length (if again then l.table else record { names = l.table.names ++ name ∷ []; values = l.table.values ++ u ∷ [] }).names
      declared_longer true l name u e = omega arith
      declared_longer false l name u e = longer_push l.table.names name
        where
          longer_push : (xs : List (List ℕ)) (x : List ℕ) → length xs ≤ length (xs ++ x ∷ [])
          longer_push [] x = omega arith
          longer_push (y ∷ xs) x = let k : length xs ≤ length (xs ++ x ∷ []) = longer_push xs x in omega (arith, k)

  -- ---- assignments

  as_it_is : (place : Expr) (y : ExprForm-F ExprForm Expr) (l : Locals) → out-ExprForm place.form ≡ y → place_of_form C y (typed C place false l) l ≡ typed C place false l → assigned_place C place l ≡ typed C place false l
  as_it_is place y l e k = ap (λ (z : ExprForm-F ExprForm Expr). place_of_form C z (typed C place false l) l) e ∙ k

  -- what is assigned to is judged as an expression too
  record IsAssigned (place : Expr) (l : Locals) : Type 0 where
    clean : Clean (typed C place false l).notes
    type_is : (assigned_place C place l).ty ≡ (typed C place false l).ty

  whole_place : (place : Expr) (y : ExprForm-F ExprForm Expr) (l : Locals) → out-ExprForm place.form ≡ y → place_of_form C y (typed C place false l) l ≡ typed C place false l → Clean (assigned_place C place l).notes → IsAssigned place l
  whole_place place y l e k c =
      let is = as_it_is place y l e k in
      record { clean = subst (λ (z : Typed). Clean z.notes) is c; type_is = ap (λ (z : Typed). z.ty) is }

  field_place : (place of : Expr) (name : Name) (l : Locals) → place.form ≡ e.Field of name → Clean (assigned_place C place l).notes → IsAssigned place l
  field_place place of name l h c =
      let out : out-ExprForm place.form ≡ f.Field of name = ap out-ExprForm (h ∙ sym (rolls-Field of name)) ∙ out-roll-ExprForm (f.Field of name) in
      let is : assigned_place C place l ≡ assigned_field C (typed C of false l) name = ap (λ (z : ExprForm-F ExprForm Expr). place_of_form C z (typed C place false l) l) out in
      let as_field : typed C place false l ≡ field C (typed C of false l) name = typed_by_form C place false l ∙ typed_field C place.form place.token false l name of of h refl in
      let c' = subst (λ (z : Typed). Clean z.notes) is c in
      let arr = is_array (typed C of false l).ty in
      let no_array = not_broken arr name.token 4 (clean_right (field C (typed C of false l) name).notes _ c') in
      record {
        clean = subst (λ (z : Typed). Clean z.notes) (sym as_field) (clean_left (field C (typed C of false l) name).notes _ c');
        type_is = ap (λ (z : Typed). z.ty) is ∙ ap (λ (b : Bool). unknown_if b (field C (typed C of false l) name).ty) no_array ∙ ap (λ (z : Typed). z.ty) (sym as_field);
      }

  rolled : (place : Expr) (form : ExprForm) (y : ExprForm-F ExprForm Expr) → place.form ≡ form → roll-ExprForm y ≡ form → out-ExprForm place.form ≡ y
  rolled place form y h k = ap out-ExprForm (h ∙ sym k) ∙ out-roll-ExprForm y

  place_assigned : (n m : ℕ) (place : Expr) (l : Locals) → IsExpr n place m → Clean (assigned_place C place l).notes → IsAssigned place l
  place_assigned _ _ place l (IsExpr.number _ digits long h) c = whole_place place (f.Number digits long) l (rolled place _ _ h (rolls-Number digits long)) refl c
  place_assigned _ _ place l (IsExpr.text _ bytes h) c = whole_place place (f.Str bytes) l (rolled place _ _ h (rolls-Str bytes)) refl c
  place_assigned _ _ place l (IsExpr.truth _ h) c = whole_place place f.True l (rolled place _ _ h rolls-True) refl c
  place_assigned _ _ place l (IsExpr.falsehood _ h) c = whole_place place f.False l (rolled place _ _ h rolls-False) refl c
  place_assigned _ _ place l (IsExpr.null _ h) c = whole_place place f.Null l (rolled place _ _ h rolls-Null) refl c
  place_assigned _ _ place l (IsExpr.this _ h) c = whole_place place f.This l (rolled place _ _ h rolls-This) refl c
  place_assigned _ _ place l (IsExpr.variable _ name h) c = whole_place place (f.Name name) l (rolled place _ _ h (rolls-Name name)) refl c
  place_assigned _ _ place l (IsExpr.group m _ inner h d) c = whole_place place (f.Group inner) l (rolled place _ _ h (rolls-Group inner)) refl c
  place_assigned _ _ place l (IsExpr.field m _ of name h d) c = field_place place of name l h c
  place_assigned _ _ place l (IsExpr.indexed k m _ of at h d g) c = whole_place place (f.Index of at) l (rolled place _ _ h (rolls-Index of at)) refl c
  place_assigned _ _ place l (IsExpr.own_call m _ name args h d) c = whole_place place (f.Call None name args) l (rolled place _ _ h (rolls-Call None name args)) refl c
  place_assigned _ _ place l (IsExpr.call k m _ of name args h d g) c = whole_place place (f.Call (Some of) name args) l (rolled place _ _ h (rolls-Call (Some of) name args)) refl c
  place_assigned _ _ place l (IsExpr.new_object _ name h) c = whole_place place (f.NewObject name) l (rolled place _ _ h (rolls-NewObject name)) refl c
  place_assigned _ _ place l (IsExpr.new_array m _ b size h i d) c = whole_place place (f.NewArray b size) l (rolled place _ _ h (rolls-NewArray b size)) refl c
  place_assigned _ _ place l (IsExpr.prefix m _ sign y h i d) c = whole_place place (f.Prefix sign y) l (rolled place _ _ h (rolls-Prefix sign y)) refl c
  place_assigned _ _ place l (IsExpr.binary k m _ sign at y z h i d g) c = whole_place place (f.Binary sign at y z) l (rolled place _ _ h (rolls-Binary sign at y z)) refl c

  assign_done : (k m : ℕ) (x : Stmt) (place value : Expr) → x.form ≡ st.Assign place value → IsExpr (x.id + 1) place k → IsExpr k value m → Does x.id x m
  assign_done k m x place value h d d' reached l s a more =
      by_statement m x more reached l (judging.plain l (assign C x.token place value l)) _ (assign_told H place value s) (judged_assign C x.form x.token l place value h) (told_assign H x s place value h) (λ c h' r.
      let to = assigned_place C place l in
      let u = typed C place false l in
      let v = typed C value false l in
      let K = all_nodes (known H place s) in
      let J = all_nodes (known H value s) in
      let placed = place_assigned (x.id + 1) k place l d (clean_left to.notes _ c) in
      let at = fixed_at F x.id no_fact ((K ++ J) ++ more) no_fact_fixed r in
      let g = valued (x.id + 1) k place d l s (see l s a) (J ++ more) placed.clean (regroup F (x.id + 1) K J more at.next) in
      let c' = clean_right to.notes _ c in
      let i = valued k m value d' l s (see l s a) more (clean_left v.notes _ c') g.rest in
      let fit = subst (λ (z : Ty). fits z v.ty ≡ true) placed.type_is (kept (fits to.ty v.ty) x.token 6 (clean_right v.notes _ c')) in
      record {
        typed = IsTypedStmt.assign x place value h (subst (λ (z : Ty). Fits (type_at F value.id) z) (sym g.type_is) (subst (λ (z : Ty). Fits z u.ty) (sym i.type_is) (fitting u.ty v.ty g.known i.known fit))) g.typed i.typed;
        used = used_assign F result x place value h g.used i.used;
        agrees = a;
        longer = same_long l;
        rest = i.rest;
      })

  -- ---- a local is changed in place

  abbrev LocalAt : Scope → List ℕ → Ty → Type 0
  LocalAt s name u = LocalStands F slots classes firsts this result members s name u

  with_found : (M : Type 0) (name : Name) (found : Option Ty) → Clean (no_local name found) → ((u : Ty) → found ≡ Some u → M) → M
  with_found M name None c k = absurd c
  with_found M name (Some u) c k = k u refl

  -- the fact of the statement, and that it writes the local
  record IsChanged (x : Stmt) (u : Ty) (rest : List Node) : Type 0 where
    type_is : type_at F x.id ≡ u
    writes : WritesLocal F slots x
    next : Rest F (x.id + 1) rest

  changed_at : (x : Stmt) (s : Scope) (name : List ℕ) (u : Ty) (rest : List Node) → LocalAt s name u → Rest F x.id (fact_only (changed_fact (slot_of name s)) ∷ rest) → IsChanged x u rest
  changed_at x s name u rest k r =
      let at = fixed_at F x.id (local_fact k.slot.ty k.slot.number) rest (λ call site. (refl, refl)) (subst (λ (o : Option Slot). Rest F x.id (fact_only (changed_fact o) ∷ rest)) k.found r) in
      record { type_is = at.type_is ∙ k.type_is; writes = (k.slot.number, at.named_is, k.stands ∙ ap Some (sym (at.type_is ∙ k.type_is))); next = at.next }

  compound_done : (m : ℕ) (x : Stmt) (name : Name) (sign : Sign) (value : Expr) → x.form ≡ st.Compound name sign value → IsExpr (x.id + 1) value m → Does x.id x m
  compound_done m x name sign value h d reached l s a more =
      by_statement m x more reached l (judging.plain l (compound C x.token name sign value l)) _ (change_told name (all_nodes (known H value s)) s) (judged_compound C x.form x.token l name sign value h) (told_compound H x s name sign value h) (λ c h' r.
      let found = local_type name.bytes l in
      let v = typed C value false l in
      with_found (Done m x more l (judging.plain l (compound C x.token name sign value l)) (change_told name (all_nodes (known H value s)) s)) name found (clean_left (no_local name found) _ c) (λ u f.
      let k = local_stands F slots classes firsts this result members l s name.bytes u a f in
      let at = changed_at x s name.bytes u (all_nodes (known H value s) ++ more) k r in
      let c' = clean_right (no_local name found) _ c in
      let g = valued (x.id + 1) m value d l s (see l s a) more (clean_left v.notes _ c') at.next in
      let fit = subst (λ (o : Option Ty). compound_fits (group_of sign) (or_unknown o) v.ty ≡ true) f (kept (compound_fits (group_of sign) (or_unknown found) v.ty) x.token 6 (clean_right v.notes _ c')) in
      let gives = compound_stands sign u v.ty k.known g.known fit in
      record {
        typed = IsTypedStmt.compound x name sign value h at.writes (subst (λ (z : Ty). GivesType (op_of sign z (type_at F value.id)) z (type_at F value.id) z) (sym at.type_is) (subst (λ (z : Ty). GivesType (op_of sign u z) u z u) (sym g.type_is) gives)) g.typed;
        used = used_compound F result x name sign value h
            (subst (λ (z : Ty). op_of sign z (type_at F value.id) ≡ op.Concat → joins z (type_at F value.id) ≡ true) (sym at.type_is) (subst (λ (z : Ty). op_of sign u z ≡ op.Concat → joins u z ≡ true) (sym g.type_is) (compound_joined sign u v.ty k.known g.known fit)))
            g.used;
        agrees = a;
        longer = same_long l;
        rest = g.rest;
      }))

  stepped : (x : Stmt) (name : Name) (l : Locals) (s : Scope) (more : List Node) → Agree l s → Clean (step x.token name l) → Rest F x.id (fact_only (changed_fact (slot_of name.bytes s)) ∷ more) → (WritesLocal F slots x × Promotes (type_at F x.id) (type_at F x.id) (type_at F x.id)) × Rest F (x.id + 1) more
  stepped x name l s more a c r =
      let found = local_type name.bytes l in
      with_found ((WritesLocal F slots x × Promotes (type_at F x.id) (type_at F x.id) (type_at F x.id)) × Rest F (x.id + 1) more) name found (clean_left (no_local name found) _ c) (λ u f.
      let k = local_stands F slots classes firsts this result members l s name.bytes u a f in
      let at = changed_at x s name.bytes u more k r in
      let fit = subst (λ (o : Option Ty). (is_unknown (or_unknown o) || is_number (or_unknown o)) ≡ true) f (kept (is_unknown (or_unknown found) || is_number (or_unknown found)) x.token 6 (clean_right (no_local name found) _ c)) in
      ((at.writes, subst (λ (z : Ty). Promotes z z z) (sym at.type_is) (promotes_itself u (number_of u (or_right (is_unknown u) (is_number u) k.known fit)))), at.next))

  up_done : (x : Stmt) (name : Name) → x.form ≡ st.Up name → Does x.id x (x.id + 1)
  up_done x name h reached l s a more =
      by_statement (x.id + 1) x more reached l (judging.plain l (step x.token name l)) _ (change_told name [] s) (judged_up C x.form x.token l name h) (told_up H x s name h) (λ c h' r.
      let k = stepped x name l s more a c r in
      record { typed = IsTypedStmt.up x name h k.0.0 k.0.1; used = used_up F result x name h; agrees = a; longer = same_long l; rest = k.1 })

  down_done : (x : Stmt) (name : Name) → x.form ≡ st.Down name → Does x.id x (x.id + 1)
  down_done x name h reached l s a more =
      by_statement (x.id + 1) x more reached l (judging.plain l (step x.token name l)) _ (change_told name [] s) (judged_down C x.form x.token l name h) (told_down H x s name h) (λ c h' r.
      let k = stepped x name l s more a c r in
      record { typed = IsTypedStmt.down x name h k.0.0 k.0.1; used = used_down F result x name h; agrees = a; longer = same_long l; rest = k.1 })

  -- ---- statements in statements

  -- a test is a boolean
  tested : (token : ℕ) (test : Expr) (l : Locals) (u : Typed) → u ≡ typed C test false l → type_at F test.id ≡ u.ty → is_unknown u.ty ≡ false → Clean (condition C token test l) → type_at F test.id ≡ ty.Boolean
  tested token test l u is e k c =
      let v = typed C test false l in
      e ∙ truth_of u.ty k (subst (λ (z : Typed). fits ty.Boolean z.ty ≡ true) (sym is) (kept (fits ty.Boolean v.ty) token 6 (clean_right v.notes _ c)))

  while_done : (k m : ℕ) (x : Stmt) (test : Expr) (body : Stmt) → x.form ≡ st.While test body → IsExpr (x.id + 1) test k → IsStmt k body m → Does k body m → Does x.id x m
  while_done k m x test body h d g does reached l s a more =
      let j = judged C body true l in
      let b = told H body s in
      let t = all_nodes (known H test s) in
      by_statement m x more reached l (behind (condition C x.token test l) (completing j)) _ (while_told H test (told H body) s) (judged_while C x.form x.token l test body body h refl) (told_while H x s test body body h refl) (λ c h' r.
      let u = typed C test false l in
      let at = fixed_at F x.id no_fact ((t ++ b.nodes) ++ more) no_fact_fixed r in
      let v = valued (x.id + 1) k test d l s (see l s a) (b.nodes ++ more) (clean_left u.notes _ (clean_left (condition C x.token test l) _ c)) (regroup F (x.id + 1) t b.nodes more at.next) in
      let y = does true l s a more (clean_right (condition C x.token test l) _ c) h' v.rest in
      record { typed = IsTypedStmt.while x test body j.completes h v.typed y.typed; used = used_while F result x test body h (tested x.token test l u refl v.type_is v.known (clean_left (condition C x.token test l) _ c)) v.used y.used; agrees = y.agrees; longer = y.longer; rest = y.rest })

  if_only_done : (k m : ℕ) (x : Stmt) (test : Expr) (y : Stmt) → x.form ≡ st.If test y None → IsExpr (x.id + 1) test k → Does k y m → Does x.id x m
  if_only_done k m x test y h d does reached l s a more =
      let j = judged C y true l in
      let b = told H y s in
      let t = all_nodes (known H test s) in
      by_statement m x more reached l (behind (condition C x.token test l) (branches (judged C y) None l)) _ (if_told H test (told H y) None s) (judged_if C x.form x.token l test None y y h refl) (told_if H x s test None y y h refl) (λ c h' r.
      let u = typed C test false l in
      let at = fixed_at F x.id no_fact ((t ++ (b.nodes ++ [])) ++ more) no_fact_fixed r in
      let v = valued (x.id + 1) k test d l s (see l s a) ((b.nodes ++ []) ++ more) (clean_left u.notes _ (clean_left (condition C x.token test l) _ c)) (regroup F (x.id + 1) t (b.nodes ++ []) more at.next) in
      let z = does true l s a more (clean_left j.notes [] (clean_right (condition C x.token test l) _ c)) h' (regroup F k b.nodes [] more v.rest) in
      record { typed = IsTypedStmt.if_only x test y j.completes h v.typed z.typed; used = used_if F result x test y None h (tested x.token test l u refl v.type_is v.known (clean_left (condition C x.token test l) _ c)) v.used z.used tt; agrees = z.agrees; longer = z.longer; rest = z.rest })

  if_else_done : (k j m : ℕ) (x : Stmt) (test : Expr) (y n : Stmt) → x.form ≡ st.If test y (Some n) → IsExpr (x.id + 1) test k → IsStmt j n m → Does k y j → Does j n m → Does x.id x m
  if_else_done k j m x test y n h d g does does' reached l s a more =
      let one = judged C y true l in
      let two = judged C n true one.locals in
      let b = told H y s in
      let b' = told H n b.scope in
      let t = all_nodes (known H test s) in
      by_statement m x more reached l (behind (condition C x.token test l) (branches (judged C y) (Some (judged C n)) l)) _ (if_told H test (told H y) (Some (told H n)) s) (judged_if C x.form x.token l test (Some n) y y h refl) (told_if H x s test (Some n) y y h refl) (λ c h' r.
      let u = typed C test false l in
      let at = fixed_at F x.id no_fact ((t ++ (b.nodes ++ b'.nodes)) ++ more) no_fact_fixed r in
      let v = valued (x.id + 1) k test d l s (see l s a) ((b.nodes ++ b'.nodes) ++ more) (clean_left u.notes _ (clean_left (condition C x.token test l) _ c)) (regroup F (x.id + 1) t (b.nodes ++ b'.nodes) more at.next) in
      let c' = clean_right (condition C x.token test l) _ c in
      let z = does true l s a (b'.nodes ++ more) (clean_left one.notes _ c') (front_of b.scope b'.scope (grows H j m n g b.scope) h') (regroup F k b.nodes b'.nodes more v.rest) in
      let w = does' true one.locals b.scope z.agrees more (clean_right one.notes _ c') h' z.rest in
      record { typed = IsTypedStmt.if_else x test y n one.completes two.completes h v.typed z.typed w.typed; used = used_if F result x test y (Some n) h (tested x.token test l u refl v.type_is v.known (clean_left (condition C x.token test l) _ c)) v.used z.used (w.used, tt); agrees = w.agrees; longer = longer_both l one.locals two.locals z.longer w.longer; rest = w.rest })

  for_done : (k j i m : ℕ) (x first : Stmt) (test : Expr) (last body : Stmt) → x.form ≡ st.For first test last body → IsExpr k test j → IsStmt j last i → IsStmt i body m → Does (x.id + 1) first k → Does j last i → Does i body m → Does x.id x m
  for_done k j i m x first test last body h d g g' does does' does'' reached l s a more =
      let f1 = judged C first true l in
      let f2 = judged C last true f1.locals in
      let f3 = judged C body true f2.locals in
      let b1 = told H first s in
      let b2 = told H last b1.scope in
      let b3 = told H body b2.scope in
      let t = all_nodes (known H test b1.scope) in
      by_statement m x more reached l (for_loop C x.token (judged C first) test (judged C last) (judged C body) l) _ (for_told H (told H first) test (told H last) (told H body) s) (judged_for C x.form x.token l test first first last last body body h refl refl refl) (told_for H x s test first first last last body body h refl refl refl) (λ c h' r.
      let u = typed C test false f1.locals in
      let front3 : IsFront b3.scope = h' in
      let front2 = front_of b2.scope b3.scope (grows H i m body g' b2.scope) front3 in
      let front1 = front_of b1.scope b2.scope (grows H j i last g b1.scope) front2 in
      let at = fixed_at F x.id no_fact ((b1.nodes ++ (t ++ (b2.nodes ++ b3.nodes))) ++ more) no_fact_fixed r in
      let one = does true l s a ((t ++ (b2.nodes ++ b3.nodes)) ++ more) (clean_left f1.notes _ c) front1 (regroup F (x.id + 1) b1.nodes (t ++ (b2.nodes ++ b3.nodes)) more at.next) in
      let c1 = clean_right f1.notes _ c in
      let v = valued k j test d f1.locals b1.scope (see f1.locals b1.scope one.agrees) ((b2.nodes ++ b3.nodes) ++ more) (clean_left u.notes _ (clean_left (condition C x.token test f1.locals) _ c1)) (regroup F k t (b2.nodes ++ b3.nodes) more one.rest) in
      let c2 = clean_right (condition C x.token test f1.locals) _ c1 in
      let two = does' true f1.locals b1.scope one.agrees (b3.nodes ++ more) (clean_left f2.notes _ c2) front2 (regroup F j b2.nodes b3.nodes more v.rest) in
      let three = does'' true f2.locals b2.scope two.agrees more (clean_right f2.notes _ c2) front3 two.rest in
      let long = longer_both l f2.locals f3.locals (longer_both l f1.locals f2.locals one.longer two.longer) three.longer in
      record {
        typed = IsTypedStmt.for_loop x first test last body f1.completes f2.completes f3.completes h one.typed v.typed two.typed three.typed;
        used = used_for F result x first test last body h (tested x.token test f1.locals u refl v.type_is v.known (clean_left (condition C x.token test f1.locals) _ c1)) v.used one.used two.used three.used;
        agrees = left_agrees F slots classes firsts this result members l f3.locals s b3.scope a three.agrees long;
        longer = left_longer l f3.locals long;
        rest = three.rest;
      })
    where
      left_longer : (outer inner : Locals) → length outer.table.names ≤ length inner.table.names → length outer.table.names ≤ length (left outer inner).table.names
      left_longer outer inner h = subst (λ n. length outer.table.names ≤ n) (sym (length-take-le (length outer.table.names) inner.table.names h)) (omega arith)

  -- ---- blocks

  -- the rest of a block, behind a statement
  record AllDone (m : ℕ) (xs : List Stmt) (more : List Node) (completes : Bool) (l : Locals) (j : Judged) (t : Told) : Type 0 where
    alone : completes ≡ true → AreTypedStmts F slots result j.completes xs
    after : (x : Stmt) → IsTypedStmt F slots result completes x → AreTypedStmts F slots result j.completes (x ∷ xs)
    used : AreAllUsed F result xs
    agrees : Agrees F slots classes firsts this result members j.locals t.scope
    longer : length l.table.names ≤ length j.locals.table.names
    rest : Rest F m more

  abbrev DoAll : ℕ → List Stmt → ℕ → Type 0
  DoAll n xs m = (completes : Bool) (l : Locals) (s : Scope) → Agree l s → (more : List Node) → Clean (block completes l (map (judged C) xs)).notes → IsFront (in_order (map (told H) xs) s).scope → Rest F n ((in_order (map (told H) xs) s).nodes ++ more) → AllDone m xs more completes l (block completes l (map (judged C) xs)) (in_order (map (told H) xs) s)

  none_done : (n : ℕ) → DoAll n [] n
  none_done n completes l s a more c h r = record {
    alone = λ e. subst (λ (b : Bool). AreTypedStmts F slots result b []) (sym e) AreTypedStmts.none;
    after = λ x t. AreTypedStmts.last x completes t;
    used = tt;
    agrees = a;
    longer = same_long l;
    rest = r;
  }

  more_done : (n k m : ℕ) (x : Stmt) (xs : List Stmt) → AreStmts k xs m → Does n x k → DoAll k xs m → DoAll n (x ∷ xs) m
  more_done n k m x xs ds does all completes l s a more c h r =
      let j = judged C x completes l in
      let t = told H x s in
      let u = in_order (map (told H) xs) t.scope in
      let j' = block j.completes j.locals (map (judged C) xs) in
      let one = does completes l s a (u.nodes ++ more) (clean_left j.notes _ c) (front_of t.scope u.scope (all_grow H k m xs ds t.scope) h) (regroup F n t.nodes u.nodes more r) in
      let two = all j.completes j.locals t.scope one.agrees more (clean_right j.notes _ c) h one.rest in
      record {
        alone = λ e. two.after x one.typed;
        after = λ y w. AreTypedStmts.more y (x ∷ xs) completes j'.completes w (two.after x one.typed);
        used = (one.used, two.used);
        agrees = two.agrees;
        longer = longer_both l j.locals j'.locals one.longer two.longer;
        rest = two.rest;
      }

  block_done : (m : ℕ) (x : Stmt) (items : List Stmt) → x.form ≡ st.Block items → DoAll (x.id + 1) items m → Does x.id x m
  block_done m x items h all reached l s a more =
      let j = block true l (map (judged C) items) in
      let t = in_order (map (told H) items) s in
      by_statement m x more reached l (judging.closed l j) _ (block_told (map (told H) items) s) (judged_block C x.form x.token l items h) (told_block H x s items h) (λ c h' r.
      let at = fixed_at F x.id no_fact (t.nodes ++ more) no_fact_fixed r in
      let d = all true l s a more c h' at.next in
      record {
        typed = IsTypedStmt.block x items j.completes h (d.alone refl);
        used = used_block F result x items h d.used;
        agrees = left_agrees F slots classes firsts this result members l j.locals s t.scope a d.agrees d.longer;
        longer = subst (λ n. length l.table.names ≤ n) (sym (length-take-le (length l.table.names) j.locals.table.names d.longer)) (omega arith);
        rest = d.rest;
      })

  -- ---- all forms

  mutual
    pub statement_done : (n m : ℕ) (x : Stmt) → IsStmt n x m → Does n x m
    statement_done _ _ _ (IsStmt.block m x items h d) = block_done m x items h (statements_done (x.id + 1) m items d)
    statement_done _ _ _ (IsStmt.empty x h) = empty_done x h
    statement_done _ _ _ (IsStmt.local m x t name value h i d) = local_done m x t name value h i d
    statement_done _ _ _ (IsStmt.assign k m x place value h d g) = assign_done k m x place value h d g
    statement_done _ _ _ (IsStmt.compound m x name sign value h d) = compound_done m x name sign value h d
    statement_done _ _ _ (IsStmt.up x name h) = up_done x name h
    statement_done _ _ _ (IsStmt.down x name h) = down_done x name h
    statement_done _ _ _ (IsStmt.call m x value h d) = call_done m x value h d
    statement_done _ _ _ (IsStmt.if_only k m x test a h d g) = if_only_done k m x test a h d (statement_done k m a g)
    statement_done _ _ _ (IsStmt.if_else k j m x test a b h d g i) = if_else_done k j m x test a b h d i (statement_done k j a g) (statement_done j m b i)
    statement_done _ _ _ (IsStmt.while k m x test body h d g) = while_done k m x test body h d g (statement_done k m body g)
    statement_done _ _ _ (IsStmt.for_loop k j i m x first test last body h d g p q) = for_done k j i m x first test last body h g p q (statement_done (x.id + 1) k first d) (statement_done j i last p) (statement_done i m body q)
    statement_done _ _ _ (IsStmt.leave x h) = leave_done x h
    statement_done _ _ _ (IsStmt.give m x value h d) = give_done m x value h d
    statement_done _ _ _ (IsStmt.print m x value h d) = print_done m x value h d

    statements_done : (n m : ℕ) (xs : List Stmt) → AreStmts n xs m → DoAll n xs m
    statements_done _ _ _ (AreStmts.none n) = none_done n
    statements_done _ _ _ (AreStmts.more n k m x xs d ds) = more_done n k m x xs ds (statement_done n k x d) (statements_done k m xs ds)
