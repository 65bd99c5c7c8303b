-- What the body of a method is lowered to is typed, and doesn't run past its end.
use Rattle.std.proofs.Common.{◌≡◌, ℕ, zero, suc, ◌+◌, Bool, true, false, List, [], ◌∷◌, ◌++◌, append_assoc, length, map, drop, Option, Some, None, option_map, slice_get, refl, sym, ap, ◌∙◌, subst}
use Rattle.std.proofs.lemmas.List.{map-append}
use Rattle.std.proofs.lemmas.Option.{slice_get-map}
use Rattle.px_tree.specs.declared.Method.{Method}
use Rattle.px_facts.specs.declared.types.Ty.{Ty as Static}
use Rattle.px_facts.specs.declared.types.Ty.TheVariants as static
use Rattle.px_facts.specs.declared.checked.Checked.{Checked}
use Rattle.px_facts.specs.declared.checked.MethodFact.{MethodFact}
use Rattle.px_mean.specs.Typing.{IsTypedMethod}
use Rattle.px_normal.specs.declared.ty.Ty.{Ty}
use Rattle.px_normal.specs.declared.ty.Ty.TheVariants as ty
use Rattle.px_normal.specs.declared.word.Word.TheVariants as w
use Rattle.px_normal.specs.declared.node.Node.{Node}
use Rattle.px_normal.specs.declared.node.Counter.TheVariants.{ReachedEnd}
use Rattle.px_normal.specs.declared.code.Code.{Code}
use Rattle.px_normal.specs.Typed as typed
use Rattle.px_normal.specs.Typed.{Stops}
use Rattle.px_lowering.specs.declared.draft.Draft.{Draft}
use Rattle.px_lowering.specs.Types.{code_type, code_result}
use Rattle.px_lowering.specs.Statements.{completes, low_stmt}
use Rattle.px_lowering.specs.Programs.{first_types, begun, ended, lowered_body}
use Rattle.px_uses.specs.Uses.{AreUsed}
use Rattle.px_typed_code.specs.Values.{is_value}
use Rattle.px_typed_code.proofs.Operators.{never}
use Rattle.px_typed_code.proofs.Drafts.{Grows, Goes, goes_then, emits}
use Rattle.px_typed_code.proofs.Around.{IsCodeOf}
use Rattle.px_typed_code.proofs.Statements.{IsFine, stops_too, statement_fine}

-- the slots of a frame have the types of the locals
stands_at : (class : ℕ) (rest : List Static) (place : ℕ) (t : Static) → slice_get (static.Object class ∷ rest) place ≡ Some t → slice_get (ty.Object class ∷ map code_type rest) place ≡ Some (code_type t)
stands_at class rest zero t h = ap (option_map code_type) h
stands_at class rest (suc place) t h = slice_get-map code_type rest place ∙ ap (option_map code_type) h

pub stands_first : (slots : List Static) (class : ℕ) (rest : List Static) → slots ≡ static.Object class ∷ rest → (place : ℕ) (t : Static) → slice_get slots place ≡ Some t → slice_get (ty.Object class ∷ map code_type (drop 1 slots)) place ≡ Some (code_type t)
stands_first slots class rest e = subst (λ (xs : List Static). (place : ℕ) (t : Static) → slice_get xs place ≡ Some t → slice_get (ty.Object class ∷ map code_type (drop 1 xs)) place ≡ Some (code_type t)) (sym e) (stands_at class rest)

module _ (P : Checked) (C : Code) (code : IsCodeOf P.facts C) (number : ℕ) (m : Method) (fact : MethodFact) (method : IsTypedMethod P.facts m fact) (uses : AreUsed P.facts fact.result m.body) (values : (place : ℕ) (t : Static) → slice_get fact.slots place ≡ Some t → is_value t ≡ true) where
  pub record IsFineBody (o o' : Draft) : Type 0 where
    pub goes : Goes P C (code_result fact.result) o o'
    pub stops : Stops o'.trees

  body : IsFine P C code fact.slots values fact.result (completes m.body) (low_stmt P fact.result m.body)
  body = statement_fine P C code fact.slots values fact.result method.completes m.body method.body uses

  is_void : (c : Bool) → method.completes ≡ c → completes m.body ≡ true → fact.result ≡ static.Void
  is_void true e h = method.ends e
  is_void false e h = never (sym h ∙ stops_too P.facts fact.slots fact.result method.completes m.body method.body e)

  ends : (b : Bool) → completes m.body ≡ b → (o o' : Draft) → Goes P C (code_result fact.result) o o' → (completes m.body ≡ false → Stops o'.trees) → IsFineBody o (ended P m b o')
  ends true e o o' g s = record {
    goes = goes_then P C (code_result fact.result) o o' _ g (emits P C (code_result fact.result) (w.Return None) m.name.token (ReachedEnd o'.method) o' (λ slots k. ap code_result (is_void method.completes refl e)));
    stops = typed.Stops.returns o'.trees (length o'.nodes + 1) None refl;
  }
  ends false e o o' g s = record { goes = g; stops = s e }

  pub body_fine : (nodes : List Node) → IsFineBody (begun P number m fact nodes) (lowered_body P number m fact nodes)
  body_fine nodes =
      let o = begun P number m fact nodes in
      let s = stands_first fact.slots fact.class (fact.params ++ method.locals) method.slots in
      ends (completes m.body) refl o (low_stmt P fact.result m.body o) (body.goes o s) (body.ends o)

-- a list that grows is the first part of what it grows to
pub grows_to : {A : Type 0} (xs ys : List A) → Grows xs ys → (more : List A) × (ys ≡ xs ++ more)
grows_to [] ys g = (ys, refl)
grows_to (x ∷ xs) [] g = absurd (cc (g 0 x refl))
grows_to {A} (x ∷ xs) (y ∷ ys) g =
    let r = grows_to xs ys (λ place z e. g (suc place) z e) in
    let same : y ≡ x = ap (λ (o : Option A). elim o [ Some z ↦ z | None ↦ x ]) (g 0 x refl) in
    (r.0, (λ i. same i ∷ r.1 i))

-- `this`, the parameters, and what is behind them
pub slots_are : (fact : MethodFact) (locals : List Static) (slots : List Ty) → fact.slots ≡ static.Object fact.class ∷ fact.params ++ locals → Grows (first_types fact) slots → (behind : List Ty) × (slots ≡ ty.Object fact.class ∷ (map code_type fact.params ++ behind))
slots_are fact locals slots e g =
    let r = grows_to (first_types fact) slots g in
    let first : first_types fact ≡ ty.Object fact.class ∷ (map code_type fact.params ++ map code_type locals) = ap (λ (xs : List Static). ty.Object fact.class ∷ map code_type (drop 1 xs)) e ∙ ap (λ (xs : List Ty). ty.Object fact.class ∷ xs) (map-append code_type fact.params locals) in
    (map code_type locals ++ r.0, r.1 ∙ ap (λ (xs : List Ty). xs ++ r.0) first ∙ ap (λ (xs : List Ty). ty.Object fact.class ∷ xs) (append_assoc (map code_type fact.params) (map code_type locals) r.0))
