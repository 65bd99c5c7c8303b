-- Machines that are alike but for the heap stay so where the same statements run.
use Rattle.std.proofs.Common.{◌≡◌, min, List, [], ◌∷◌, ◌++◌, take, Option, Ok, Err, refl, sym, ap, subst}
use Rattle.std.specs.List.{AllByRecursion}
use Rattle.px_value.specs.declared.value.Value.{Value}
use Rattle.px_value.specs.Operators.{Applied}
use Rattle.px_code.specs.declared.word.Word.{Word}
use Rattle.px_code.specs.declared.word.Word.TheVariants as w
use Rattle.px_code.specs.declared.frame.Frame.{Frame}
use Rattle.px_code.specs.declared.block.Send.{Send}
use Rattle.px_code.specs.declared.block.Block.{Block}
use Rattle.px_code.specs.declared.block.Statement.{Statement}
use Rattle.px_code.specs.declared.plan.Plan.{Plan}
use Rattle.px_code.specs.Points.{HasStatement}
use Rattle.px_code.specs.Act.{Slots, act_of, Acted, acted}
use Rattle.px_code.specs.CodeRun.{given}
use Rattle.px_code.specs.Cut.{IsPlaced}
use Rattle.px_code.specs.Law.{HasNoReference, AreStatements, NoLiteralReference, MachineFits}
use Rattle.px_code.specs.Machine.{Machine, top, top_values, filled, answered, after_act, with_value, sent, namings, Stop, RunsOn, Returned, Threw, Stepped, step, step_of, step_ends, steps, then_steps}
use Rattle.px_code.proofs.Staying.{step_stays}
use Rattle.px_pair.specs.Agree.{Agree}
use Rattle.px_pair.specs.Law.{NamesClasses, RunsAlike}
use Rattle.px_pair.specs.Served.{SameButHeap}
use Rattle.px_pair.proofs.Acts.{ActsAlike}
use Rattle.px_pair.proofs.Steps as one_step

-- ---- one statement

act_like : (a b : Acted) (m n : Machine) → a.writes ≡ b.writes → SameButHeap m n → SameButHeap (after_act a m) (after_act b n)
act_like a b m n writes like = record { frames = like.frames; base = like.base; marks = λ i. like.marks i ++ writes i; named = like.named }

value_like : (word : Word) (x : Value) (m n : Machine) → SameButHeap m n → SameButHeap (with_value word x m) (with_value word x n)
value_like (w.Set to a) x m n like = record { frames = ap (λ (fs : List Frame). filled fs (top fs) to x) like.frames; base = like.base; marks = like.marks; named = like.named }
value_like (w.Op op to a b) x m n like = record { frames = ap (λ (fs : List Frame). filled fs (top fs) to x) like.frames; base = like.base; marks = like.marks; named = like.named }
value_like (w.Get to of class field) x m n like = record { frames = ap (λ (fs : List Frame). filled fs (top fs) to x) like.frames; base = like.base; marks = like.marks; named = like.named }
value_like (w.Put of class field a) x m n like = like
value_like (w.Return a) x m n like = record {
  frames = ap (λ (fs : List Frame). take (top (answered (given a x) fs)) (answered (given a x) fs)) like.frames;
  base = λ i. min (like.base i) (top (answered (given a x) (like.frames i)));
  marks = like.marks;
  named = like.named;
}

sent_like : (send : Option Send) (m n : Machine) → SameButHeap m n → SameButHeap (sent send m) (sent send n)
sent_like send m n like = record { frames = like.frames; base = like.base; marks = like.marks; named = λ i. like.named i ++ namings send (top_values (like.frames i)) }

ends_like : (s : Statement) (a b : Acted) (m n : Machine) (e : Applied) → a.writes ≡ b.writes → SameButHeap m n → SameButHeap (step_ends s a m e).machine (step_ends s b n e).machine
ends_like s a b m n (Ok x) writes like = sent_like s.send (with_value s.word x (after_act a m)) (with_value s.word x (after_act b n)) (value_like s.word x (after_act a m) (after_act b n) (act_like a b m n writes like))
ends_like s a b m n (Err t) writes like = act_like a b m n writes like

-- ---- all statements of a block

module _ (plan : Plan) (b : Block) (names : NamesClasses plan.code) where
  step_like : (s : Statement) (near far one : Machine) → IsPlaced plan.code plan.placement.sides b s → HasStatement plan.code b.method s.node s.word → HasNoReference s.word → MachineFits plan.code b.method one → Agree plan b.side near far one → SameButHeap near one → SameButHeap (step s near).machine (step s one).machine
  step_like s near far one placed has plain fits agree like =
      let slots : Slots = top_values one.frames in
      let here : Acted = acted (act_of s.word slots) near.heap in
      let there : Acted = acted (act_of s.word slots) one.heap in
      let alike : ActsAlike plan b.side near far near.heap near.marks one.heap here there = one_step.alike plan b.method b.side near far one agree names s has plain placed.side placed.send fits in
      subst (λ (ss : Slots). SameButHeap (step_of s near (acted (act_of s.word ss) near.heap)).machine (step s one).machine) (sym (ap top_values like.frames))
      (subst (λ (e : Applied). SameButHeap (step_ends s here near e).machine (step s one).machine) (sym alike.ends) (ends_like s here there near one there.ends alike.writes like))

  then_like : (near one : Stepped) (rest : List Statement) (stop : Stop) → one.stop ≡ stop → SameButHeap near.machine one.machine → (one.stop ≡ RunsOn → SameButHeap (steps rest near.machine).machine (steps rest one.machine).machine) → SameButHeap (then_steps near (steps rest) stop).machine (then_steps one (steps rest) stop).machine
  then_like near one rest RunsOn is first after = after is
  then_like near one rest Returned is first after = first
  then_like near one rest (Threw t) is first after = first

  pub all_like : (statements : List Statement) (near far one : Machine) → AllByRecursion (IsPlaced plan.code plan.placement.sides b) statements → AreStatements plan.code b.method statements → NoLiteralReference statements → MachineFits plan.code b.method one → Agree plan b.side near far one → SameButHeap near one → SameButHeap (steps statements near).machine (steps statements one).machine
  all_like [] near far one placed are plain fits agree like = like
  all_like (s ∷ rest) near far one placed are plain fits agree like =
      let first : RunsAlike plan b.side far (step s near) (step s one) = one_step.step_alike plan b.method b.side near far one agree names s are.0 plain.0 placed.0.side placed.0.send fits in
      let stays = step_stays plan.code b.method s one are.0 plain.0 fits in
      let now : SameButHeap (step s near).machine (step s one).machine = step_like s near far one placed.0 are.0 plain.0 fits agree like in
      subst (λ (x : Stop). SameButHeap (then_steps (step s near) (steps rest) x).machine (then_steps (step s one) (steps rest) (step s one).stop).machine) (sym first.stop)
      (then_like (step s near) (step s one) rest (step s one).stop refl now (λ on. all_like rest (step s near).machine far (step s one).machine placed.1 are.1 plain.1 (stays.machine on) first.agree now))
