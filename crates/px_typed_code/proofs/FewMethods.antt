-- A method has few slots.
use Rattle.std.proofs.Common.{◌≡◌, ℕ, zero, suc, ◌+◌, ◌≤◌, Bool, true, false, List, [], ◌∷◌, ◌++◌, length, map, drop, Option, Some, None, slice_get, refl, sym, ap, ◌∙◌, subst, arith}
use Rattle.std.proofs.lemmas.List.{length-map}
use Rattle.px_tree.specs.declared.Method.{Method}
use Rattle.px_facts.specs.declared.types.Ty.{Ty as Static}
use Rattle.px_facts.specs.declared.types.Ty.TheVariants as static
use Rattle.px_facts.specs.declared.checked.Checked.{Checked}
use Rattle.px_facts.specs.declared.checked.MethodFact.{MethodFact}
use Rattle.px_mean.specs.Program.{methods_of}
use Rattle.px_mean.specs.Typing.{IsTypedMethod}
use Rattle.px_normal.specs.declared.method.Method.{Method as CodeMethod}
use Rattle.px_normal.specs.declared.node.Node.{Node}
use Rattle.px_lowering.specs.declared.draft.Draft.{Draft}
use Rattle.px_lowering.specs.Types.{code_type}
use Rattle.px_lowering.specs.Statements.{completes, low_stmt}
use Rattle.px_lowering.specs.Programs.{first_types, begun, ended, lowered_body, lowered_methods, lowered}
use Rattle.px_typed_code.specs.Sizes.{parts, FewSlots}
use Rattle.px_typed_code.proofs.Few.{count}
use Rattle.px_typed_code.proofs.FewStatements as few

some_is : {A : Type 0} (a b : A) → Some a ≡ Some b → a ≡ b
some_is {A} a b e = ap (λ (x : Option A). elim x [ Some y ↦ y | None ↦ a ]) e

-- `this` is the first of a method's slots
first_many : (fact : MethodFact) (rest : List Static) → fact.slots ≡ static.Object fact.class ∷ rest → length (first_types fact) ≡ length fact.slots
first_many fact rest e =
    let behind : length (map code_type (drop 1 fact.slots)) ≡ length (map code_type rest) = ap (λ (xs : List Static). length (map code_type (drop 1 xs))) e in
    let all : length fact.slots ≡ length (static.Object fact.class ∷ rest) = ap length e in
    omega (arith, behind, all, length-map rest code_type)

module _ (P : Checked) where
  ended_count : (m : Method) (b : Bool) (o : Draft) → count (ended P m b o) ≡ count o
  ended_count m true o = refl
  ended_count m false o = refl

  body_few : (number : ℕ) (m : Method) (fact : MethodFact) (nodes : List Node) → IsTypedMethod P.facts m fact → count (lowered_body P number m fact nodes) ≤ length fact.slots + (parts m.body + parts m.body)
  body_few number m fact nodes t =
      let o = begun P number m fact nodes in
      omega (arith, few.few_statement P fact.slots fact.result t.completes m.body t.body o, ended_count m (completes m.body) (low_stmt P fact.result m.body o), first_many fact (fact.params ++ t.locals) t.slots)

  -- a method of these has the slots of its body
  methods_few : (number : ℕ) (ms : List Method) (facts : List MethodFact) (nodes : List Node) (place : ℕ) (m : Method) (fact : MethodFact) (method : CodeMethod) → slice_get ms place ≡ Some m → slice_get facts place ≡ Some fact → slice_get (lowered_methods P number ms facts nodes).methods place ≡ Some method → IsTypedMethod P.facts m fact → length method.slots ≤ length fact.slots + (parts m.body + parts m.body)
  methods_few number [] facts nodes place m fact method h k l t = absurd (cc h)
  methods_few number (n ∷ ms) [] nodes place m fact method h k l t = absurd (cc k)
  methods_few number (n ∷ ms) (d ∷ facts) nodes zero m fact method h k l t =
      let here : length (lowered_body P number n d nodes).slots ≡ length method.slots = ap (λ (x : Option CodeMethod). elim x [ Some y ↦ length y.slots | None ↦ 0 ]) l in
      let typed : IsTypedMethod P.facts n d = subst (λ (w : Method × MethodFact). IsTypedMethod P.facts w.0 w.1) (λ i. (some_is m n (sym h) i, some_is fact d (sym k) i)) t in
      let body : parts n.body ≡ parts m.body = ap (λ (x : Method). parts x.body) (some_is n m h) in
      let slots : length d.slots ≡ length fact.slots = ap (λ (x : MethodFact). length x.slots) (some_is d fact k) in
      omega (arith, body_few number n d nodes typed, here, body, slots)
  methods_few number (n ∷ ms) (d ∷ facts) nodes (suc place) m fact method h k l t = methods_few (number + 1) ms facts (lowered_body P number n d nodes).nodes place m fact method h k l t

pub slots_are_few : FewSlots
unfolding lowered
slots_are_few P source zero m fact method h k l = absurd (cc h)
slots_are_few P source (suc place) m fact method h k l =
    let t = source.methods (suc place) fact k in
    let typed : IsTypedMethod P.facts m fact = subst (λ x. IsTypedMethod P.facts x fact) (some_is t.0 m (sym t.1 ∙ h)) t.2 in
    methods_few P 1 (methods_of P.program.classes) P.facts.methods [] place m fact method h k l typed
