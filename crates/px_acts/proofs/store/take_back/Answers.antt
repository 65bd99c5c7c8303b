use Rattle.std.proofs.Common.{◌≡◌, ◌++◌, ◌∷◌, [], ◌∙◌, arith}
use Rattle.std.proofs.lemmas.Grind.{common_steps}
use Rattle.px_acts.proofs.Undoes.{undone-pop}
use Rattle.px_acts.proofs.store.take_back.Goals as goal

pub loop-cell-preserved : goal.loop-cell-preserved
loop-cell-preserved c =
    let split : c.loop-cell.olds.entries ≡ c.pop.new.self.entries ++ (c.in-Some.cell, c.in-Some.old) ∷ [] = grind (arith, common_steps) in
    undone-pop c.loop-cell.olds.entries c.pop.new.self.entries c.loop-cell.heap c.put_back.new.heap (c.in-Some.cell, c.in-Some.old) split c.put_back.ensures ∙ c.loop-cell.invariant
