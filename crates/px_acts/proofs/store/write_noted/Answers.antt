use Rattle.px_acts.proofs.Undoes.{restored-noted}
use Rattle.px_acts.proofs.store.write_noted.Goals as goal

pub returns-clause-restored : goal.returns-clause-restored
returns-clause-restored c = restored-noted c.args.start c.args.olds.now.entries c.args.heap.now c.set.new.self c.args.cell c.args.value c.requires c.set.ensures.written
