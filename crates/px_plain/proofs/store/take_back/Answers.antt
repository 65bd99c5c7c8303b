use Rattle.std.proofs.Common.{◌≡◌, ◌++◌, ◌∷◌, [], ◌∙◌, arith}
use Rattle.std.proofs.lemmas.Grind.{common_steps}
use Rattle.px_plain.proofs.Undoes.{undone-pop}
use Rattle.px_plain.proofs.store.take_back.Goals as goal

pub loop-change-preserved : goal.loop-change-preserved
loop-change-preserved c =
    let split : c.loop-change.changes.items ≡ c.pop.new.self.items ++ c.in-Some.change ∷ [] = grind (arith, common_steps) in
    undone-pop c.loop-change.changes.items c.pop.new.self.items c.loop-change.heap c.put_back.new.heap c.in-Some.change split c.put_back.ensures ∙ c.loop-change.invariant
