use Rattle.px_choose.proofs.Fitting.{small}
use Rattle.px_choose.proofs.state.start.Goals as goal

pub free_load-load-requires : goal.free_load-load-requires
free_load-load-requires c = small c.args.graph.now c.args.pins.now c.requires.problem

pub cost-cost-requires : goal.cost-cost-requires
cost-cost-requires c = small c.args.graph.now c.args.pins.now c.requires.problem
