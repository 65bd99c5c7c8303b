-- What dependences weigh: how often something passes, by what it costs to send it.
use Rattle.std.specs.Prelude.{ℕ, ◌*◌, ◌≤◌, List, [], ◌∷◌}
use Rattle.px_code.specs.declared.counts.Counts.{Counts}
use Rattle.px_normal.specs.declared.code.Code.{Code}
use Rattle.px_depend.specs.declared.edge.End.{End}
use Rattle.px_depend.specs.declared.edge.End.TheVariants as from
use Rattle.px_depend.specs.declared.edge.Tie.{Tie}
use Rattle.px_depend.specs.declared.edge.Tie.TheVariants.{Held, Enters, Argument, Home}
use Rattle.px_depend.specs.declared.edge.Edge.{Edge as Dependence}
use Rattle.px_graph.specs.declared.edge.End.{End as EdgeEnd}
use Rattle.px_graph.specs.declared.edge.End.TheVariants as end
use Rattle.px_graph.specs.declared.edge.EdgeKind.{EdgeKind}
use Rattle.px_graph.specs.declared.edge.EdgeKind.TheVariants as kind
use Rattle.px_graph.specs.declared.edge.Edge.{Edge}
use Rattle.px_partition.specs.declared.rates.Rates.{Rates}
use Rattle.px_partition.specs.Runs.{runs, job_calls}

abbrev pub end_of : End → EdgeEnd
end_of from.App = end.App
end_of from.Db = end.Db
end_of (from.Node node) = end.Node node

abbrev pub kind_of : Tie → EdgeKind
kind_of Held = kind.Control
kind_of Enters = kind.Control
kind_of Home = kind.Update
kind_of _ = kind.Data

-- how often the method of a node is called from an end: by the job, or by a statement
abbrev pub calls_from : Code → Counts → ℕ → End → ℕ
calls_from code counts method from.App = job_calls code counts method
calls_from code counts method from.Db = 0
calls_from code counts method (from.Node call) = runs code counts call

-- how often something passes along a dependence: what a call hands over, as often as the call runs, and anything else as often as it is taken or written
abbrev pub passes : Code → Counts → End → ℕ → Tie → ℕ
passes code counts begin to Enters = calls_from code counts to begin
passes code counts begin to (Argument slot) = calls_from code counts to begin
passes code counts begin to _ = runs code counts to

-- what it costs to send it once
abbrev pub price : Rates → Tie → ℕ → ℕ
price rates Held size = rates.latency
price rates Enters size = rates.latency
price rates _ size = size * rates.per_byte

abbrev pub weight : Code → Counts → Rates → Dependence → ℕ
weight code counts rates d = passes code counts d.from d.to d.tie * price rates d.tie d.size

-- the edge of the partition graph for a dependence
abbrev pub weighed : Code → Counts → Rates → Dependence → Edge
weighed code counts rates d = record { kind = kind_of d.tie; from = end_of d.from; to = d.to; weight = weight code counts rates d }

-- what messages may cost
pub record AreRates (rates : Rates) : Type 0 where
  pub latency : rates.latency ≤ 1000000
  pub per_byte : rates.per_byte ≤ 1000

-- no value that passes has more bytes
abbrev pub AreSmall : List Dependence → Type 0
AreSmall [] = Unit {0}
AreSmall (d ∷ ds) = (d.size ≤ 20) × AreSmall ds
