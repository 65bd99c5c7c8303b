-- No value that passes between nodes has more than twenty bytes.
use Rattle.std.proofs.Common.{◌≡◌, ℕ, zero, suc, ◌≤◌, List, [], ◌∷◌, Option, Some, None, slice_get, length, drop, subst, ◌+◌, ◌<◌, arith}
use Rattle.std.proofs.lemmas.List.{drop_more}
use Rattle.px_constraints.specs.System.{At}
use Rattle.px_value.specs.declared.header.Kind.{Kind}
use Rattle.px_value.specs.declared.header.Kind.TheVariants as kind
use Rattle.px_normal.specs.declared.ty.Ty.{Ty}
use Rattle.px_normal.specs.declared.ty.Ty.TheVariants as ty
use Rattle.px_normal.specs.declared.class.Field.{Field as FieldOf}
use Rattle.px_normal.specs.declared.code.Site.{Site}
use Rattle.px_normal.specs.declared.code.Code.{Code}
use Rattle.px_normal.specs.First.{fields_of}
use Rattle.px_normal.specs.Typed.{element_type}
use Rattle.px_flow_points.specs.declared.part.Part.{Part}
use Rattle.px_flow_points.specs.declared.part.Part.TheVariants.{Field, Elements}
use Rattle.px_flow_points.proofs.Elements.{in_head, in_tail}
use Rattle.px_depend.specs.declared.edge.Edge.{Edge}
use Rattle.px_depend.specs.declared.edge.End.TheVariants.{App}
use Rattle.px_depend.specs.declared.edge.Tie.TheVariants.{Held}
use Rattle.px_depend.specs.declared.sizes.Home.{Home}
use Rattle.px_depend.specs.Depend.{IsEdge, held, asks, calls, enters, reaches, parameter, argument, returned, found, updates}
use Rattle.px_depend.specs.Order.{AreEdges}
use Rattle.px_depend.specs.Sizes.{size_of, field_home, home_with, home_in, home_at, home_of}
use Rattle.px_partition.specs.Weights.{AreSmall}

size_small : (t : Ty) → size_of t ≤ 20
size_small ty.Int = omega arith
size_small ty.Long = omega arith
size_small ty.Bool = omega arith
size_small ty.Text = omega arith
size_small (ty.Object class) = omega arith
size_small (ty.Array element) = omega arith
size_small ty.Rows = omega arith

field_small : (f : Option FieldOf) (home : Home) → field_home f ≡ Some home → home.size ≤ 20
field_small None home h = cc
field_small (Some f) home h = let a = size_small f.ty in let b : size_of f.ty ≡ home.size = cc in omega (arith, a, b)

with_small : (placed : Option ℕ) (size : ℕ) (home : Home) → size ≤ 20 → home_with placed size ≡ Some home → home.size ≤ 20
with_small None size home a h = cc
with_small (Some node) size home a h = let b : size ≡ home.size = cc in omega (arith, a, b)

in_small : (code : Code) (k : Kind) (placed : Option ℕ) (part : Part) (home : Home) → home_in code k placed part ≡ Some home → home.size ≤ 20
in_small code (kind.Object class) placed (Field place) home h = field_small (slice_get (fields_of code class) place) home h
in_small code (kind.Object class) placed Elements home h = cc
in_small code (kind.Array element) placed (Field place) home h = cc
in_small code (kind.Array element) placed Elements home h = with_small placed (size_of (element_type element)) home (size_small (element_type element)) h
in_small code (kind.Rows statement) placed (Field place) home h = cc
in_small code (kind.Rows statement) placed Elements home h = with_small placed 9 home (omega arith) h

at_small : (code : Code) (site : Option Site) (part : Part) (home : Home) → home_at code site part ≡ Some home → home.size ≤ 20
at_small code None part home h = cc
at_small code (Some site) part home h = in_small code site.kind site.node part home h

home_small : (code : Code) (site : ℕ) (part : Part) (home : Home) → home_of code site part ≡ Some home → home.size ≤ 20
home_small code zero part home h = in_small code (kind.Object code.main) None part home h
home_small code (suc n) part home h = at_small code (slice_get code.sites n) part home h

edge_small : (code : Code) (e : Edge) → IsEdge code e → e.size ≤ 20
edge_small code e (held a) = omega arith
edge_small code e (asks a) = omega arith
edge_small code e (calls a b) = omega arith
edge_small code e (enters a b) = omega arith
edge_small code e (reaches {t = t} a b d) = size_small t
edge_small code e (parameter {t = t} a b d f) = size_small t
edge_small code e (argument {t = t} a b d f) = size_small t
edge_small code e (returned {t = t} a b d f) = size_small t
edge_small code e (found {s = s} {part = part} {home = home} a b h) = home_small code s part home h
edge_small code e (updates {s = s} {part = part} {home = home} a h) = home_small code s part home h

small_by : (edges : List Edge) → ((e : Edge) → At edges e → e.size ≤ 20) → AreSmall edges
small_by [] h = tt
small_by (e ∷ es) h = (h e (in_head e es), small_by es (λ x a. h x (in_tail e es x a)))

pub are_small : (code : Code) (edges : List Edge) → AreEdges code edges → AreSmall edges
are_small code edges h = small_by edges (λ e a. edge_small code e ((h.exact e).to a))

pub small_rest : (edges : List Edge) (k : ℕ) → k < length edges → AreSmall (drop k edges) → AreSmall (drop (k + 1) edges)
small_rest edges k h small = (subst AreSmall (drop_more edges k (record { from = App; to = 0; tie = Held; size = 0 }) h) small).1
