-- A method in which no breach is noted is typed by its facts.
use Rattle.std.proofs.Common.{◌≡◌, ℕ, Bool, true, false, not, ◌&&◌, List, [], ◌∷◌, ◌++◌, map, length, Option, Some, None, slice_get, refl, sym, ap, ◌∙◌, append_assoc, append-nil}
use Rattle.std.proofs.lemmas.Bool.{true≢false}
use Rattle.px_tree.specs.declared.TypeName.{TypeName}
use Rattle.px_tree.specs.declared.Param.{Param}
use Rattle.px_tree.specs.declared.Method.{Method}
use Rattle.px_facts.specs.declared.types.Ty.{Ty}
use Rattle.px_facts.specs.declared.types.Ty.TheVariants as ty
use Rattle.px_facts.specs.declared.checked.MethodFact.{MethodFact}
use Rattle.px_facts.specs.declared.checked.Facts.{Facts}
use Rattle.px_facts.specs.Types.{is_unknown, is_void}
use Rattle.px_types.specs.declared.table.Table.{Table}
use Rattle.px_types.specs.declared.node.Node.{Node}
use Rattle.px_types.specs.declared.classes.Classes.{Classes}
use Rattle.px_types.specs.declared.home.Home.{Home}
use Rattle.px_types.specs.declared.locals.Locals.{Locals}
use Rattle.px_types.specs.declared.scope.Scope.{Scope}
use Rattle.px_type_rules.specs.Breaches.{breach_if}
use Rattle.px_types.specs.Names.{has_name}
use Rattle.px_types.specs.Members.{param_type, result_type, names_no_class}
use Rattle.px_types.specs.Scopes.{no_locals, with_local, local_notes}
use Rattle.px_types.specs.Slots.{first_scope, with_slot}
use Rattle.px_types.specs.Methods as rules
use Rattle.px_types.specs.Methods.{result_notes, param_notes, params_of, judged_body, ends, too_long, method_notes}
use Rattle.px_types.specs.Bodies as bodies
use Rattle.px_types.specs.Bodies.{told_body, method_known}
use Rattle.px_mean.specs.Typing.{IsTypedMethod}
use Rattle.px_uses.specs.Uses.{AreUsed}
use Rattle.px_soundness.specs.Numbered.{IsStmt, AreParams, IsResult}
use Rattle.px_soundness.proofs.Clean.{Clean, clean_left, clean_right, not_broken}
use Rattle.px_soundness.proofs.Operators.{void_of}
use Rattle.px_soundness.proofs.Standing.{Rest}
use Rattle.px_soundness.proofs.Premises.{AllKnown, MembersStand}
use Rattle.px_soundness.proofs.Scopes.{get_seam, Matches, declared_matches}
use Rattle.px_soundness.proofs.Statements.{type_known, grows, statement_done}

-- a method is typed, and its parts are used as the rules say
pub record IsJudged (F : Facts) (m : Method) (fact : MethodFact) : Type 0 where
  pub typed : IsTypedMethod F m fact
  pub used : AreUsed F fact.result m.body

-- ---- signatures

pub result_known : (numbers : Table ℕ) (gives : Option TypeName) → IsResult gives → Clean (result_notes numbers gives) → is_unknown (result_type numbers gives) ≡ false
result_known numbers None i c = refl
result_known numbers (Some t) i c = type_known numbers t i c

pub params_known : (numbers : Table ℕ) (l : Locals) (ps : List Param) → AreParams ps → Clean (param_notes numbers l ps) → AllKnown (map (param_type numbers) ps)
params_known numbers l [] i c = tt
params_known numbers l (p ∷ ps) i c = (
  type_known numbers p.ty i.0 (clean_left (names_no_class numbers p.ty.base) _ c),
  params_known numbers (with_local p.name (param_type numbers p) l) ps i.1 (clean_right (local_notes p.name l) _ (clean_right (names_no_class numbers p.ty.base) _ c)),
)

param_slots : (numbers : Table ℕ) (s : Scope) (ps : List Param) → (bodies.with_params numbers s ps).slots ≡ s.slots ++ map (param_type numbers) ps
param_slots numbers s [] = sym (append-nil s.slots)
param_slots numbers s (p ∷ ps) = param_slots numbers (with_slot p.name.bytes (param_type numbers p) s) ps ∙ append_assoc s.slots (param_type numbers p ∷ []) (map (param_type numbers) ps)

module _ (F : Facts) (classes : Classes) (firsts : List ℕ) (members : MembersStand F classes firsts) where
  abbrev pub home : ℕ → Home
  home this = record { classes = classes; firsts = firsts; this = this }

  params_match : (slots : List Ty) (this : ℕ) (result : Ty) (ps : List Param) → AreParams ps → (l : Locals) (s : Scope) → Matches F slots classes firsts this result members l.table s → Clean (param_notes classes.numbers l ps) → (later : List Ty) → slots ≡ (s.slots ++ map (param_type classes.numbers) ps) ++ later
      → Matches F slots classes firsts this result members (rules.with_params classes.numbers l ps).table (bodies.with_params classes.numbers s ps)
  params_match slots this result [] i l s m c later h = m
  params_match slots this result (p ∷ ps) i l s m c later h =
      let u = param_type classes.numbers p in
      let us = map (param_type classes.numbers) ps in
      let ns = names_no_class classes.numbers p.ty.base in
      let c' = clean_right ns _ c in
      let again = has_name p.name.bytes l.table.names in
      let fresh = not_broken again p.name.token 1 (clean_left (breach_if again p.name.token 1) _ (clean_left (local_notes p.name l) _ c')) in
      let at : slots ≡ s.slots ++ (u ∷ us ++ later) = h ∙ append_assoc s.slots (u ∷ us) later in
      let slot : slice_get slots (length s.slots) ≡ Some u = ap (λ (ts : List Ty). slice_get ts (length s.slots)) at ∙ get_seam s.slots (us ++ later) u in
      params_match slots this result ps i.1 (with_local p.name u l) (with_slot p.name.bytes u s)
      (declared_matches F slots classes firsts this result members l.table s p.name.bytes u m fresh slot (type_known classes.numbers p.ty i.0 (clean_left ns _ c)))
      (clean_right (local_notes p.name l) _ c') later
      (h ∙ ap (λ (ts : List Ty). ts ++ later) (sym (append_assoc s.slots (u ∷ []) us)))

  must_be_void : (void completes : Bool) → (not void && completes) ≡ false → completes ≡ true → void ≡ true
  must_be_void true completes h k = refl
  must_be_void false completes h k = absurd (true≢false (sym k ∙ h))

  pub method_typed : (n k this : ℕ) (m : Method) → IsResult m.gives → AreParams m.params → IsStmt n m.body k → Clean (method_notes classes this m) → (more : List Node) → Rest F n ((told_body (home this) m).nodes ++ more) → IsJudged F m (method_known (home this) m) × Rest F k more
  method_typed n k this m ir ip d c more r =
      let numbers = classes.numbers in
      let result = result_type numbers m.gives in
      let ps = map (param_type numbers) m.params in
      let s = bodies.with_params numbers (first_scope this) m.params in
      let t = told_body (home this) m in
      let slots = t.scope.slots in
      let j = judged_body classes this m in
      let g = grows (home this) n k m.body d s in
      let all : slots ≡ (ty.Object this ∷ ps) ++ g.0 = g.1 ∙ ap (λ (us : List Ty). us ++ g.0) (param_slots numbers (first_scope this) m.params) in
      let c1 = clean_right (result_notes numbers m.gives) _ c in
      let c2 = clean_right (param_notes numbers no_locals m.params) _ c1 in
      let c3 = clean_right j.notes _ c2 in
      let match = params_match slots this result m.params ip no_locals (first_scope this) (record { names = refl; types = refl; counts = refl; stand = tt }) (clean_left (param_notes numbers no_locals m.params) _ c1) g.0 all in
      let done = statement_done F slots classes firsts this result members (ap (λ (us : List Ty). slice_get us 0) all) (result_known numbers m.gives ir (clean_left (result_notes numbers m.gives) _ c)) n k m.body d true (params_of numbers m.params) s (record { matches = match; usable = refl }) more (clean_left j.notes _ c2) ([], sym (append-nil slots)) r in (
        record {
          typed = record {
            locals = g.0;
            slots = all;
            completes = j.completes;
            body = done.typed;
            ends = λ e. void_of result (must_be_void (is_void result) j.completes (not_broken (not (is_void result) && j.completes) m.name.token 9 (clean_left (ends m result j.completes) _ c3)) e);
          };
          used = done.used;
        },
        done.rest,
      )
