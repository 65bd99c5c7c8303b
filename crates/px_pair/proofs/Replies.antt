-- The reply of an end is that of its code.
use Rattle.std.proofs.Common.{◌≡◌, ℕ, false, true, List, [], ◌∷◌, Option, Some, None, Ok, Err, is_some, unwrap_or, refl, sym, ap, subst, ◌∙◌}
use Rattle.std.specs.List.{AllByRecursion}
use Rattle.px_value.specs.declared.value.Value.{Value}
use Rattle.px_value.specs.declared.value.Value.TheVariants.{Null, Ref}
use Rattle.px_value.specs.declared.object.Object.{Object}
use Rattle.px_value.specs.declared.ty.Ty.{Ty}
use Rattle.px_value.specs.Operators.{Applied}
use Rattle.px_value.specs.Outcome.{Outcome, Gives, Throws, Asks, Flow, Goes, Returns, then_run, goes_on}
use Rattle.px_code.specs.declared.word.Operand.{Operand}
use Rattle.px_code.specs.declared.word.Word.{Word}
use Rattle.px_code.specs.declared.word.Word.TheVariants as w
use Rattle.px_code.specs.declared.method.Method.{Method}
use Rattle.px_code.specs.declared.method.Tree.{Tree}
use Rattle.px_code.specs.declared.method.Tree.TheVariants.{Do}
use Rattle.px_code.specs.declared.code.Code.{Code}
use Rattle.px_code.specs.declared.reply.Reply.{Reply}
use Rattle.px_code.specs.declared.reply.Reply.TheVariants as reply
use Rattle.px_code.specs.Act.{act_of, slot_of, Acted, acted}
use Rattle.px_code.specs.CodeRun.{Traced, Frame, with_slot, given, flow_of, noted, after_word, body_run, first_slots, leaves_frame, enters, method_at, code_run}
use Rattle.px_code.specs.Sound.{run_of}
use Rattle.px_code.specs.WellFormed.{ends_in_return, ReturnsAs, RepliesAsDeclared, IsMethodOf, IsWellFormed}
use Rattle.px_half.specs.End.{reply_of}
use Rattle.px_pair.specs.Replies.{RepliesAreDeclared}
use Rattle.px_pair.proofs.Servable.{each_method}

-- ---- statements

abbrev InBody : Type 0
InBody = Frame (Unit {0})

abbrev BodyOutcome : Type 0
BodyOutcome = Outcome ⊥ InBody (Flow Value)

-- it doesn't end without a return, and a return is as declared
abbrev Leaves : Option Ty → BodyOutcome → Type 0
Leaves gives (Gives Goes s) = ⊥
Leaves gives (Gives (Returns v) s) = is_some v ≡ is_some gives
Leaves gives (Throws t s) = Unit {0}
Leaves gives (Asks q z) = Unit {0}

given_some : (a : Option Operand) (x : Value) → is_some (given a x) ≡ is_some a
given_some None x = refl
given_some (Some a) x = refl

module _ (gives : Option Ty) where
  abbrev Leave : List Tree → Type 0
  Leave trees = (s : InBody) → Leaves gives (body_run trees s)

  returns : (node : ℕ) (a : Option Operand) (trees : List Tree) → is_some a ≡ is_some gives → Leave (Do node (w.Return a) ∷ trees)
  returns node a trees same s = let acts = acted (act_of (w.Return a) s.locals) s.shared.shared.heap in by_ends acts acts.ends
    where
      by_ends : (acts : Acted) (r : Applied) → Leaves gives (then_run (after_word node (w.Return a) s.locals s.shared acts r) (goes_on (body_run trees)))
      by_ends acts (Ok x) = given_some a x ∙ same
      by_ends acts (Err t) = tt

  -- any other word
  passes : (node : ℕ) (word : Word) (trees : List Tree) → ((x : Value) → flow_of word x ≡ Goes) → Leave trees → Leave (Do node word ∷ trees)
  passes node word trees flows rest s = let acts = acted (act_of word s.locals) s.shared.shared.heap in by_ends acts acts.ends
    where
      by_ends : (acts : Acted) (r : Applied) → Leaves gives (then_run (after_word node word s.locals s.shared acts r) (goes_on (body_run trees)))
      by_ends acts (Ok x) =
          let after : InBody = record { locals = with_slot (slot_of word) x s.locals; shared = noted node acts s.shared } in
          subst (λ (f : Flow Value). Leaves gives (goes_on (body_run trees) f after)) (sym (flows x)) (rest after)
      by_ends acts (Err t) = tt

  leaves : (trees : List Tree) → AllByRecursion (ReturnsAs gives) trees → ends_in_return false trees ≡ true → Leave trees
  leaves [] all ends = cc
  leaves (Do node (w.Return a) ∷ trees) all ends = returns node a trees all.0
  leaves (Do node (w.Set to a) ∷ trees) all ends = passes node (w.Set to a) trees (λ x. refl) (leaves trees all.1 ends)
  leaves (Do node (w.Op op to a b) ∷ trees) all ends = passes node (w.Op op to a b) trees (λ x. refl) (leaves trees all.1 ends)
  leaves (Do node (w.Get to of class field) ∷ trees) all ends = passes node (w.Get to of class field) trees (λ x. refl) (leaves trees all.1 ends)
  leaves (Do node (w.Put of class field a) ∷ trees) all ends = passes node (w.Put of class field a) trees (λ x. refl) (leaves trees all.1 ends)

-- ---- a method

declared : (gives : Option Ty) (o : BodyOutcome) → Leaves gives o → (v : Option Value) (s : Traced (Unit {0})) → leaves_frame o ≡ Gives v s → is_some v ≡ is_some gives
declared gives (Gives Goes t) h v s e = absurd h
declared gives (Gives (Returns x) t) h v s e = let same : x ≡ v = cc in ap (λ (y : Option Value). is_some y) (sym same) ∙ h
declared gives (Throws t u) h v s e = cc
declared gives (Asks q z) h v s e = cc

entered : (m : Method) → AllByRecursion (ReturnsAs m.gives) m.body → ends_in_return false m.body ≡ true → (args : List Value) (g : Traced (Unit {0})) (v : Option Value) (s : Traced (Unit {0})) → enters {Q = ⊥} (Some m) args g ≡ Gives v s → is_some v ≡ is_some m.gives
entered m all ends args g v s e = let begin : InBody = record { locals = first_slots m.slots args; shared = g } in declared m.gives (body_run m.body begin) (leaves m.gives m.body all ends begin) v s e

pub replies_are_declared : RepliesAreDeclared
unfolding code_run
replies_are_declared code formed heap number args m is v s e =
    entered m (each_method RepliesAsDeclared code.methods number m formed.replies is) (each_method (IsMethodOf code) code.methods number m formed.methods is).ends (Ref 0 ∷ args)
    (record { shared = record { heap = heap; world = tt }; ran = [] }) v s (ap (λ (x : Option Method). enters {Q = ⊥} x (Ref 0 ∷ args) (record { shared = record { heap = heap; world = tt }; ran = [] })) (sym is) ∙ e)

-- ---- the reply

-- the reply of a value, or of none
abbrev pub replied : Option Value → Reply
replied None = reply.Void
replied (Some v) = reply.Value v

reply_by : (gives : Option Ty) (v : Option Value) → is_some v ≡ is_some gives → reply_of gives (unwrap_or v Null) ≡ replied v
reply_by None None h = refl
reply_by None (Some x) h = cc
reply_by (Some t) None h = cc
reply_by (Some t) (Some x) h = refl

-- an end that has the value that the code gives replies as the code
pub replies_alike : (code : Code) → IsWellFormed code → (heap : List Object) (number : ℕ) (args : List Value) (m : Method) → method_at code.methods number ≡ Some m → (v : Option Value) (s : Traced (Unit {0})) → run_of code heap number args ≡ Gives v s → reply_of m.gives (unwrap_or v Null) ≡ replied v
replies_alike code formed heap number args m is v s e = reply_by m.gives v (replies_are_declared code formed heap number args m is v s e)
