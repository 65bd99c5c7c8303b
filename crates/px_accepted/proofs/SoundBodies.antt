-- In a method without a breach all that is made is known, and each slot has a type of values.
use Rattle.std.proofs.Common.{◌≡◌, ℕ, ◌+◌, Bool, true, false, List, [], ◌∷◌, ◌++◌, map, length, drop, Some, None, slice_get, zero, suc, refl, sym, ap, ◌∙◌, subst}
use Rattle.px_tree.specs.declared.Name.{Name}
use Rattle.px_tree.specs.declared.Expr.{Expr}
use Rattle.px_tree.specs.declared.ExprForm.{ExprForm, ExprForm-F, roll-ExprForm}
use Rattle.px_tree.specs.declared.ExprForm.TheVariants as e
use Rattle.px_tree.specs.declared.ExprForm.TheVariants.{rolls-Number, rolls-Str, rolls-True, rolls-False, rolls-Null, rolls-This, rolls-Name, rolls-Group, rolls-Field, rolls-Index, rolls-Call, rolls-NewObject, rolls-NewArray, rolls-Prefix, rolls-Binary}
use Rattle.px_tree.specs.declared.ExprForm.TheOpen.{ExprForm-F as f}
use Rattle.px_tree.specs.declared.Stmt.{Stmt}
use Rattle.px_tree.specs.declared.Method.{Method}
use Rattle.px_tree.specs.declared.Member.{Member}
use Rattle.px_tree.specs.declared.Member.TheVariants as member
use Rattle.px_tree.specs.declared.Class.{Class}
use Rattle.px_facts.specs.declared.types.Ty.{Ty}
use Rattle.px_facts.specs.declared.checked.Fact.{Fact}
use Rattle.px_facts.specs.declared.checked.Facts.{Facts}
use Rattle.px_facts.specs.declared.checked.MethodFact.{MethodFact}
use Rattle.px_types.specs.declared.node.Node.{Node}
use Rattle.px_types.specs.declared.classes.Classes.{Classes}
use Rattle.px_types.specs.declared.context.Context.{Context}
use Rattle.px_types.specs.declared.home.Home.{Home}
use Rattle.px_types.specs.declared.locals.Locals.{Locals}
use Rattle.px_types.specs.declared.scope.Scope.{Scope}
use Rattle.px_types.specs.Names.{find}
use Rattle.px_types.specs.Members.{type_of, names_no_class, result_type, class_members}
use Rattle.px_types.specs.Scopes.{no_locals, with_local, local_notes, local_type}
use Rattle.px_types.specs.Slots.{first_scope, slot_of}
use Rattle.px_types.specs.Facts.{no_fact, local_fact, changed_fact}
use Rattle.px_types.specs.Expressions.{Typed, typed, field}
use Rattle.px_types.specs.Statements as judging
use Rattle.px_types.specs.Statements.{Judged, judged, judged_form, behind, unreached, value_notes, local, place_of_form, assigned_place, assign, compound, step, no_local, condition, print, return_notes, returned, branches, completing, for_loop, block}
use Rattle.px_types.specs.Methods.{result_notes, param_notes, params_of, judged_body, method_notes}
use Rattle.px_types.specs.Programs.{class_bodies, bodies}
use Rattle.px_types.specs.Known.{known, fact_only, all_nodes}
use Rattle.px_types.specs.Told as telling
use Rattle.px_types.specs.Told.{Told, told, in_order, block_told, local_told, assign_told, change_told, value_told, return_told, if_told, while_told, for_told}
use Rattle.px_types.specs.Bodies.{with_params, told_body, method_known, class_found, all_found}
use Rattle.px_types.specs.Checked.{class_known}
use Rattle.px_types.proofs.Forms.{typed_by_form, typed_field}
use Rattle.px_types.proofs.StatementForms.{judged_by_form, judged_block, judged_empty, judged_local, judged_assign, judged_compound, judged_up, judged_down, judged_call, judged_if, judged_while, judged_for, judged_return, judged_print}
use Rattle.px_types.proofs.ToldForms.{told_block, told_empty, told_local, told_assign, told_compound, told_up, told_down, told_call, told_if, told_while, told_for, told_return, told_print}
use Rattle.px_typed_code.specs.Values.{is_result}
use Rattle.px_typed_code.specs.Laws.{IsKnownClass}
use Rattle.px_soundness.specs.Numbered.{IsExpr, IsStmt, AreStmts, AreMembers, AreClasses}
use Rattle.px_soundness.proofs.Clean.{Clean, clean_left, clean_right, some_is}
use Rattle.px_soundness.proofs.Standing.{first_in_drop, rest_in_drop, add_one}
use Rattle.px_accepted.proofs.KnownTypes.{AllValues, values_push, type_value, result_value, param_values}
use Rattle.px_accepted.proofs.Made.{is_plain, IsSound, AllSound, sound_both}
use Rattle.px_accepted.proofs.Written.{unrolled}
use Rattle.px_accepted.proofs.Places.{changed_plain}
use Rattle.px_accepted.proofs.Sound.{expression_sound}

module _ (F : Facts) (classes : Classes) (firsts : List ℕ) (this : ℕ) (result : Ty) (names : (name : List ℕ) (class : ℕ) → find name classes.numbers ≡ Some class → IsKnownClass F class) where
  abbrev H : Home
  H = record { classes = classes; firsts = firsts; this = this }

  abbrev C : Context
  C = record { classes = classes; this = this; result = result }

  -- what is made in a statement is known, and the slots behind it have types of values
  abbrev Stands : Told → Type 0
  Stands t = AllValues t.scope.slots × AllSound F t.nodes

  value : (n m : ℕ) (x : Expr) → IsExpr n x m → (l : Locals) (s : Scope) → Clean (typed C x false l).notes → AllSound F (all_nodes (known H x s))
  value n m x d l s c = expression_sound F classes firsts this result names n m x d false l s c

  by_form : (x : Stmt) (reached : Bool) (l : Locals) (b : Judged) (p q : Told) → judged_form C x.form x.token l ≡ b → p ≡ q → (Clean b.notes → Stands q) → Clean (judged C x reached l).notes → Stands p
  by_form x reached l b p q i j k c =
      let ns = unreached reached x.token in
      let is : judged C x reached l ≡ behind ns b = judged_by_form C x reached l ∙ ap (behind ns) i in
      subst Stands (sym j) (k (clean_right ns b.notes (subst (λ (z : Judged). Clean z.notes) is c)))

  -- a statement that has its slots from before
  plainly : (f : Fact) (inner : List Node) (s : Scope) → is_plain f.named ≡ true → AllValues s.slots → AllSound F inner → Stands (record { nodes = fact_only f ∷ inner; scope = s })
  plainly f inner s p v a = (v, (IsSound.nothing f p, a))

  -- ---- what is assigned to

  as_it_is : (place : Expr) (form : ExprForm) (y : ExprForm-F ExprForm Expr) (l : Locals) → place.form ≡ form → roll-ExprForm y ≡ form → place_of_form C y (typed C place false l) l ≡ typed C place false l → Clean (assigned_place C place l).notes → Clean (typed C place false l).notes
  as_it_is place form y l h k i c =
      subst (λ (z : Typed). Clean z.notes) (ap (λ (z : ExprForm-F ExprForm Expr). place_of_form C z (typed C place false l) l) (unrolled place form y h k) ∙ i) c

  field_clean : (place of : Expr) (name : Name) (l : Locals) → place.form ≡ e.Field of name → Clean (assigned_place C place l).notes → Clean (typed C place false l).notes
  field_clean place of name l h c =
      let T = typed C of false l in
      let c' = subst (λ (z : ExprForm-F ExprForm Expr). Clean (place_of_form C z (typed C place false l) l).notes) (unrolled place (e.Field of name) (f.Field of name) h (rolls-Field of name)) c in
      subst (λ (z : Typed). Clean z.notes) (sym (typed_by_form C place false l ∙ typed_field C place.form place.token false l name of of h refl)) (clean_left (field C T name).notes _ c')

  place_clean : (n m : ℕ) (place : Expr) (l : Locals) → IsExpr n place m → Clean (assigned_place C place l).notes → Clean (typed C place false l).notes
  place_clean _ _ place l (IsExpr.number _ digits long h) c = as_it_is place _ (f.Number digits long) l h (rolls-Number digits long) refl c
  place_clean _ _ place l (IsExpr.text _ bytes h) c = as_it_is place _ (f.Str bytes) l h (rolls-Str bytes) refl c
  place_clean _ _ place l (IsExpr.truth _ h) c = as_it_is place _ f.True l h rolls-True refl c
  place_clean _ _ place l (IsExpr.falsehood _ h) c = as_it_is place _ f.False l h rolls-False refl c
  place_clean _ _ place l (IsExpr.null _ h) c = as_it_is place _ f.Null l h rolls-Null refl c
  place_clean _ _ place l (IsExpr.this _ h) c = as_it_is place _ f.This l h rolls-This refl c
  place_clean _ _ place l (IsExpr.variable _ name h) c = as_it_is place _ (f.Name name) l h (rolls-Name name) refl c
  place_clean _ _ place l (IsExpr.group m _ inner h d) c = as_it_is place _ (f.Group inner) l h (rolls-Group inner) refl c
  place_clean _ _ place l (IsExpr.field m _ of name h d) c = field_clean place of name l h c
  place_clean _ _ place l (IsExpr.indexed k m _ of at h d g) c = as_it_is place _ (f.Index of at) l h (rolls-Index of at) refl c
  place_clean _ _ place l (IsExpr.own_call m _ name args h d) c = as_it_is place _ (f.Call None name args) l h (rolls-Call None name args) refl c
  place_clean _ _ place l (IsExpr.call k m _ of name args h d g) c = as_it_is place _ (f.Call (Some of) name args) l h (rolls-Call (Some of) name args) refl c
  place_clean _ _ place l (IsExpr.new_object _ name h) c = as_it_is place _ (f.NewObject name) l h (rolls-NewObject name) refl c
  place_clean _ _ place l (IsExpr.new_array m _ b size h i d) c = as_it_is place _ (f.NewArray b size) l h (rolls-NewArray b size) refl c
  place_clean _ _ place l (IsExpr.prefix m _ sign y h i d) c = as_it_is place _ (f.Prefix sign y) l h (rolls-Prefix sign y) refl c
  place_clean _ _ place l (IsExpr.binary k m _ sign at y z h i d g) c = as_it_is place _ (f.Binary sign at y z) l h (rolls-Binary sign at y z) refl c

  -- ---- all forms

  abbrev Does : Stmt → Type 0
  Does x = (reached : Bool) (l : Locals) (s : Scope) → AllValues s.slots → Clean (judged C x reached l).notes → Stands (told H x s)

  mutual
    pub statement_sound : (n m : ℕ) (x : Stmt) → IsStmt n x m → Does x
    statement_sound _ _ _ (IsStmt.block m x items h d) reached l s v =
        let t = in_order (map (told H) items) s in
        by_form x reached l _ _ (block_told (map (told H) items) s) (judged_block C x.form x.token l items h) (told_block H x s items h) (λ c.
        let r = statements_sound (x.id + 1) m items d true l s v c in
        (r.0, (IsSound.nothing no_fact refl, r.1)))
    statement_sound _ _ _ (IsStmt.empty x h) reached l s v = by_form x reached l _ _ (telling.plain [] s) (judged_empty C x.form x.token l h) (told_empty H x s h) (λ c. plainly no_fact [] s refl v tt)
    statement_sound _ _ _ (IsStmt.local m x t name y h i d) reached l s v =
        let u = type_of classes.numbers t in
        let ns = names_no_class classes.numbers t.base in
        let inner = with_local name u l in
        by_form x reached l (local C x.token t name y l) _ (local_told H t name y s) (judged_local C x.form x.token l t name y h) (told_local H x s t name y h) (λ c.
        (values_push s.slots u v (type_value classes.numbers t i (clean_left ns _ c)), (IsSound.nothing (local_fact u (length s.slots)) refl, value (x.id + 1) m y d inner s (clean_left (typed C y false inner).notes _ (clean_right (local_notes name l) _ (clean_right ns _ c))))))
    statement_sound _ _ _ (IsStmt.assign k m x place y h d g) reached l s v =
        by_form x reached l (judging.plain l (assign C x.token place y l)) _ (assign_told H place y s) (judged_assign C x.form x.token l place y h) (told_assign H x s place y h) (λ c.
        plainly no_fact (all_nodes (known H place s) ++ all_nodes (known H y s)) s refl v (sound_both F (all_nodes (known H place s)) (all_nodes (known H y s)) (value (x.id + 1) k place d l s (place_clean (x.id + 1) k place l d (clean_left (assigned_place C place l).notes _ c))) (value k m y g l s (clean_left (typed C y false l).notes _ (clean_right (assigned_place C place l).notes _ c)))))
    statement_sound _ _ _ (IsStmt.compound m x name sign y h d) reached l s v =
        by_form x reached l (judging.plain l (compound C x.token name sign y l)) _ (change_told name (all_nodes (known H y s)) s) (judged_compound C x.form x.token l name sign y h) (told_compound H x s name sign y h) (λ c.
        plainly (changed_fact (slot_of name.bytes s)) (all_nodes (known H y s)) s (changed_plain (slot_of name.bytes s)) v (value (x.id + 1) m y d l s (clean_left (typed C y false l).notes _ (clean_right (no_local name (local_type name.bytes l)) _ c))))
    statement_sound _ _ _ (IsStmt.up x name h) reached l s v = by_form x reached l _ _ (change_told name [] s) (judged_up C x.form x.token l name h) (told_up H x s name h) (λ c. plainly (changed_fact (slot_of name.bytes s)) [] s (changed_plain (slot_of name.bytes s)) v tt)
    statement_sound _ _ _ (IsStmt.down x name h) reached l s v = by_form x reached l _ _ (change_told name [] s) (judged_down C x.form x.token l name h) (told_down H x s name h) (λ c. plainly (changed_fact (slot_of name.bytes s)) [] s (changed_plain (slot_of name.bytes s)) v tt)
    statement_sound _ _ _ (IsStmt.call m x y h d) reached l s v = by_form x reached l (judging.plain l (typed C y false l).notes) _ (value_told H y s) (judged_call C x.form x.token l y h) (told_call H x s y h) (λ c. plainly no_fact (all_nodes (known H y s)) s refl v (value (x.id + 1) m y d l s c))
    statement_sound _ _ _ (IsStmt.if_only k m x test a h d g) reached l s v =
        let j = judged C a true l in
        let b = told H a s in
        let cs = condition C x.token test l in
        by_form x reached l (behind cs (branches (judged C a) None l)) _ (if_told H test (told H a) None s) (judged_if C x.form x.token l test None a a h refl) (told_if H x s test None a a h refl) (λ c.
        let r = statement_sound k m a g true l s v (clean_left j.notes [] (clean_right cs _ c)) in
        (r.0, (IsSound.nothing no_fact refl, sound_both F (all_nodes (known H test s)) (b.nodes ++ []) (value (x.id + 1) k test d l s (clean_left (typed C test false l).notes _ (clean_left cs _ c))) (sound_both F b.nodes [] r.1 tt))))
    statement_sound _ _ _ (IsStmt.if_else k j m x test a b h d g i) reached l s v =
        let one = judged C a true l in
        let t = told H a s in
        let u = told H b t.scope in
        let cs = condition C x.token test l in
        by_form x reached l (behind cs (branches (judged C a) (Some (judged C b)) l)) _ (if_told H test (told H a) (Some (told H b)) s) (judged_if C x.form x.token l test (Some b) a a h refl) (told_if H x s test (Some b) a a h refl) (λ c.
        let c' = clean_right cs _ c in
        let r = statement_sound k j a g true l s v (clean_left one.notes _ c') in
        let q = statement_sound j m b i true one.locals t.scope r.0 (clean_right one.notes _ c') in
        (q.0, (IsSound.nothing no_fact refl, sound_both F (all_nodes (known H test s)) (t.nodes ++ u.nodes) (value (x.id + 1) k test d l s (clean_left (typed C test false l).notes _ (clean_left cs _ c))) (sound_both F t.nodes u.nodes r.1 q.1))))
    statement_sound _ _ _ (IsStmt.while k m x test body h d g) reached l s v =
        let b = told H body s in
        let cs = condition C x.token test l in
        by_form x reached l (behind cs (completing (judged C body true l))) _ (while_told H test (told H body) s) (judged_while C x.form x.token l test body body h refl) (told_while H x s test body body h refl) (λ c.
        let r = statement_sound k m body g true l s v (clean_right cs _ c) in
        (r.0, (IsSound.nothing no_fact refl, sound_both F (all_nodes (known H test s)) b.nodes (value (x.id + 1) k test d l s (clean_left (typed C test false l).notes _ (clean_left cs _ c))) r.1)))
    statement_sound _ _ _ (IsStmt.for_loop k j i m x first test last body h d g p q) reached l s v =
        let f1 = judged C first true l in
        let f2 = judged C last true f1.locals in
        let t = told H first s in
        let u = told H last t.scope in
        let w = told H body u.scope in
        let ts = all_nodes (known H test t.scope) in
        let cs = condition C x.token test f1.locals in
        by_form x reached l (for_loop C x.token (judged C first) test (judged C last) (judged C body) l) _ (for_told H (told H first) test (told H last) (told H body) s) (judged_for C x.form x.token l test first first last last body body h refl refl refl) (told_for H x s test first first last last body body h refl refl refl) (λ c.
        let c1 = clean_right f1.notes _ c in
        let c2 = clean_right cs _ c1 in
        let one = statement_sound (x.id + 1) k first d true l s v (clean_left f1.notes _ c) in
        let two = statement_sound j i last p true f1.locals t.scope one.0 (clean_left f2.notes _ c2) in
        let three = statement_sound i m body q true f2.locals u.scope two.0 (clean_right f2.notes _ c2) in
        (three.0, (IsSound.nothing no_fact refl, sound_both F t.nodes (ts ++ (u.nodes ++ w.nodes)) one.1 (sound_both F ts (u.nodes ++ w.nodes) (value k j test g f1.locals t.scope (clean_left (typed C test false f1.locals).notes _ (clean_left cs _ c1))) (sound_both F u.nodes w.nodes two.1 three.1)))))
    statement_sound _ _ _ (IsStmt.leave x h) reached l s v = by_form x reached l _ _ (return_told H None s) (judged_return C x.form x.token l None h) (told_return H x s None h) (λ c. plainly no_fact [] s refl v tt)
    statement_sound _ _ _ (IsStmt.give m x y h d) reached l s v = by_form x reached l (returned l (return_notes C x.token (Some y) l)) _ (return_told H (Some y) s) (judged_return C x.form x.token l (Some y) h) (told_return H x s (Some y) h) (λ c. plainly no_fact (all_nodes (known H y s)) s refl v (value (x.id + 1) m y d l s (clean_left (typed C y false l).notes _ c)))
    statement_sound _ _ _ (IsStmt.print m x y h d) reached l s v = by_form x reached l (judging.plain l (print C x.token y l)) _ (value_told H y s) (judged_print C x.form x.token l y h) (told_print H x s y h) (λ c. plainly no_fact (all_nodes (known H y s)) s refl v (value (x.id + 1) m y d l s (clean_left (typed C y false l).notes _ c)))

    statements_sound : (n m : ℕ) (xs : List Stmt) → AreStmts n xs m → (completes : Bool) (l : Locals) (s : Scope) → AllValues s.slots → Clean (block completes l (map (judged C) xs)).notes → Stands (in_order (map (told H) xs) s)
    statements_sound _ _ _ (AreStmts.none n) completes l s v c = (v, tt)
    statements_sound _ _ _ (AreStmts.more n k m x xs d ds) completes l s v c =
        let j = judged C x completes l in
        let t = told H x s in
        let r = statement_sound n k x d completes l s v (clean_left j.notes _ c) in
        let q = statements_sound k m xs ds j.completes j.locals t.scope r.0 (clean_right j.notes _ c) in
        (q.0, sound_both F t.nodes (in_order (map (told H) xs) t.scope).nodes r.1 q.1)

-- ---- methods

-- what is known of a method
pub record IsGood (F : Facts) (m : MethodFact) : Type 0 where
  pub slots : AllValues m.slots
  pub result : is_result m.result ≡ true
  pub owner : IsKnownClass F m.class

abbrev pub AllGood : Facts → List MethodFact → Type 0
AllGood F [] = Unit {0}
AllGood F (m ∷ ms) = IsGood F m × AllGood F ms

good_both : (F : Facts) (xs ys : List MethodFact) → AllGood F xs → AllGood F ys → AllGood F (xs ++ ys)
good_both F [] ys h k = k
good_both F (x ∷ xs) ys h k = (h.0, good_both F xs ys h.1 k)

pub good_at : (F : Facts) (ms : List MethodFact) (place : ℕ) (m : MethodFact) → AllGood F ms → slice_get ms place ≡ Some m → IsGood F m
good_at F [] place m h e = absurd (cc e)
good_at F (x ∷ ms) zero m h e = subst (IsGood F) (some_is e) h.0
good_at F (x ∷ ms) (suc place) m h e = good_at F ms place m h.1 e

module _ (F : Facts) (classes : Classes) (firsts : List ℕ) (names : (name : List ℕ) (class : ℕ) → find name classes.numbers ≡ Some class → IsKnownClass F class) where
  abbrev home : ℕ → Home
  home this = record { classes = classes; firsts = firsts; this = this }

  method_good : (this n k : ℕ) (x : Method) → IsStmt n x.body k → AreMembers n (member.Method x ∷ []) k → IsKnownClass F this → Clean (method_notes classes this x) → IsGood F (method_known (home this) x) × AllSound F (told_body (home this) x).nodes
  method_good this n k x b (AreMembers.method _ _ _ _ _ ir ip _ _) owner c =
      let numbers = classes.numbers in
      let c1 = clean_right (result_notes numbers x.gives) _ c in
      let c2 = clean_right (param_notes numbers no_locals x.params) _ c1 in
      let j = judged_body classes this x in
      let v = param_values numbers no_locals (first_scope this) x.params ip (clean_left (param_notes numbers no_locals x.params) _ c1) (refl, tt) in
      let r = statement_sound F classes firsts this (result_type numbers x.gives) names n k x.body b true (params_of numbers x.params) (with_params numbers (first_scope this) x.params) v (clean_left j.notes _ c2) in
      (record { slots = r.0; result = result_value numbers x.gives ir (clean_left (result_notes numbers x.gives) _ c); owner = owner }, r.1)

  members_good : (this n m : ℕ) (ms : List Member) → AreMembers n ms m → IsKnownClass F this → Clean (class_bodies classes this ms) → AllGood F (class_found (home this) ms).methods × AllSound F (class_found (home this) ms).nodes
  members_good this _ _ _ (AreMembers.none n) owner c = (tt, tt)
  members_good this _ _ _ (AreMembers.field n m f ms i d) owner c = members_good this n m ms d owner c
  members_good this _ _ _ (AreMembers.method n k m x ms ir ip b d) owner c =
      let one = method_good this n k x b (AreMembers.method n k k x [] ir ip b (AreMembers.none k)) owner (clean_left (method_notes classes this x) _ c) in
      let rest = members_good this k m ms d owner (clean_right (method_notes classes this x) _ c) in
      ((one.0, rest.0), sound_both F (told_body (home this) x).nodes (class_found (home this) ms).nodes one.1 rest.1)

  -- the classes from this one on are known
  pub classes_good : (this n m : ℕ) (cs : List Class) → AreClasses n cs m → drop this F.classes ≡ map class_known (map (class_members classes.numbers) cs) → Clean (bodies classes this cs) → AllGood F (all_found (home this) cs).methods × AllSound F (all_found (home this) cs).nodes
  classes_good this _ _ _ (AreClasses.none n) k c = (tt, tt)
  classes_good this _ _ _ (AreClasses.more n k m x cs d ds) e c =
      let own = class_found (home this) x.members in
      let others = all_found (home (this + 1)) cs in
      let fact = class_known (class_members classes.numbers x) in
      let facts = map class_known (map (class_members classes.numbers) cs) in
      let one = members_good this n k x.members d (fact, first_in_drop F.classes facts this fact e) (clean_left (class_bodies classes this x.members) _ c) in
      let rest = classes_good (this + 1) k m cs ds (ap (λ (i : ℕ). drop i F.classes) (sym (add_one this)) ∙ rest_in_drop F.classes facts this fact e) (clean_right (class_bodies classes this x.members) _ c) in
      (good_both F own.methods others.methods one.0 rest.0, sound_both F own.nodes others.nodes one.1 rest.1)
