use Rattle.std.proofs.Common.{◌≡◌, ap, arith}
use Rattle.px_graph.specs.Loads.{total}
use Rattle.px_graph.proofs.Sums.{load_le}
use Rattle.px_graph.proofs.graph.Graph.load.Goals as goal

pub load_of-requires-clause-fits : goal.load_of-requires-clause-fits
load_of-requires-clause-fits c =
    let a = load_le 1 c.as_slice.result.now c.as_slice-2.result.now in
    let b : total c.as_slice.result.now ≡ total c.args.self.now.counts = ap total c.as_slice.ensures in
    let d = c.requires.fits in
    omega (arith, a, b, d)
