-- The numbers of `new` expressions and of calls of `Db`: over the whole program, in the order of the text, each from 1.
use Rattle.std.specs.Prelude.{ℕ, ◌+◌, List, [], ◌∷◌, ◌++◌, Option, Some, None}
use Rattle.px_facts.specs.declared.checked.Named.{Named}
use Rattle.px_facts.specs.declared.checked.Named.TheVariants.{NewObject, NewArray, Query, Update}
use Rattle.px_facts.specs.declared.checked.Fact.{Fact}
use Rattle.px_facts.specs.declared.operation.Operation.{Operation}
use Rattle.px_types.specs.declared.node.Node.{Node}

-- a query makes rows, and so it has a site as a `new` has
abbrev pub with_numbers : ℕ → ℕ → Named → Named
with_numbers call site (NewObject class old) = NewObject class site
with_numbers call site (NewArray old) = NewArray site
with_numbers call site (Query old old_site) = Query call site
with_numbers call site (Update old) = Update call
with_numbers call site other = other

-- the number of the next call of `Db`
abbrev pub call_after : ℕ → Named → ℕ
call_after call (Query old old_site) = call + 1
call_after call (Update old) = call + 1
call_after call other = call

-- the number of the next site
abbrev pub site_after : ℕ → Named → ℕ
site_after site (NewObject class old) = site + 1
site_after site (NewArray old) = site + 1
site_after site (Query old old_site) = site + 1
site_after site other = site

-- the first call of `Db` and the first site have these numbers
abbrev pub sited : ℕ → ℕ → List Node → List Fact
sited call site [] = []
sited call site (n ∷ ns) =
    record { ty = n.fact.ty; named = with_numbers call site n.fact.named }
    ∷ sited (call_after call n.fact.named) (site_after site n.fact.named) ns

abbrev pub if_any : Option Operation → List Operation
if_any None = []
if_any (Some o) = o ∷ []

-- what the calls of `Db` ask for, in the order of their numbers
abbrev pub operations_in : List Node → List Operation
operations_in [] = []
operations_in (n ∷ ns) = if_any n.operation ++ operations_in ns
