-- Which cells a message carries.
use Rattle.std.proofs.Common.{◌≡◌, ℕ, ◌+◌, ◌<◌, Bool, true, false, ◌&&◌, ◌||◌, List, [], ◌∷◌, ◌++◌, map, length, drop, get_or, Option, refl, sym, ap, ◌∙◌, append_assoc}
use Rattle.std.specs.Prelude.{if◌then◌else◌}
use Rattle.std.proofs.lemmas.List.{drop_more, map-append, append-nil}
use Rattle.px_value.specs.declared.header.Header.{Header}
use Rattle.px_value.specs.declared.object.Object.{Object}
use Rattle.px_effects.specs.Act.{Place as Cell, header_at, with_place_if}
use Rattle.px_blocks.specs.declared.side.Side.{Side}
use Rattle.px_blocks.specs.declared.side.Side.TheVariants.{App, Db}
use Rattle.px_blocks.specs.declared.block.SendKind.{SendKind}
use Rattle.px_blocks.specs.declared.block.SendKind.TheVariants as send
use Rattle.px_blocks.specs.declared.block.Naming.{Naming}
use Rattle.px_blocks.specs.Sides.{same}
use Rattle.px_blocks.specs.Plan.{Plan, home_at}
use Rattle.px_blocks.specs.Machine.{at_home, named, same_kind, has_naming}
use Rattle.px_blocks.specs.Message.{carried}
use Rattle.px_control.specs.declared.marks.Mark.{Mark}
use Rattle.px_control.specs.Marks.{cell_of}
use Rattle.px_control.specs.Names.{kind_at}

-- ---- names

at_home_is : (kind : SendKind) (side : Side) → at_home kind side ≡ (same_kind (kind_at side) kind || same_kind send.Native kind)
at_home_is send.App App = refl
at_home_is send.App Db = refl
at_home_is send.Db App = refl
at_home_is send.Db Db = refl
at_home_is send.Native App = refl
at_home_is send.Native Db = refl

two_ways : (s a b r t : Bool) → ((s && (a || b)) || (r || t)) ≡ (((a && s) || r) || ((b && s) || t))
two_ways true true b r t = refl
two_ways true false true true t = refl
two_ways true false true false t = refl
two_ways true false false r t = refl
two_ways false true true r t = refl
two_ways false true false r t = refl
two_ways false false true r t = refl
two_ways false false false r t = refl

pub named_by : (plan : Plan) (h : Option Header) (ns : List Naming) (o i : ℕ) → named plan h ns o i ≡ (has_naming ns (kind_at (home_at plan h i)) o || has_naming ns send.Native o)
named_by plan h [] o i = refl
named_by plan h (n ∷ ns) o i =
    ap (λ (b : Bool). (same o n.object && b) || named plan h ns o i) (at_home_is n.kind (home_at plan h i))
    ∙ ap (λ (b : Bool). (same o n.object && (same_kind (kind_at (home_at plan h i)) n.kind || same_kind send.Native n.kind)) || b) (named_by plan h ns o i)
    ∙ two_ways (same o n.object) (same_kind (kind_at (home_at plan h i)) n.kind) (same_kind send.Native n.kind) (has_naming ns (kind_at (home_at plan h i)) o) (has_naming ns send.Native o)

-- ---- the loops

kept_if : (b : Bool) (now : List Mark) (m : Mark) (cs : List Cell) → map cell_of (now ++ (if b then m ∷ [] else [])) ++ cs ≡ map cell_of now ++ with_place_if b (cell_of m) cs
kept_if true now m cs = ap (λ (xs : List Cell). xs ++ cs) (map-append cell_of now (m ∷ [])) ∙ append_assoc (map cell_of now) (cell_of m ∷ []) cs
kept_if false now m cs = ap (λ (xs : List Mark). map cell_of xs ++ cs) (append-nil now)

pub carry_next : (plan : Plan) (heap : List Object) (ns : List Naming) (marks now new : List Mark) (i : ℕ) (d : Mark) (b : Bool) (whole : List Cell) → i < length marks → b ≡ named plan (header_at heap (get_or marks i d).object) ns (get_or marks i d).object (get_or marks i d).index → new ≡ now ++ (if b then get_or marks i d ∷ [] else []) → map cell_of now ++ carried plan heap ns (map cell_of (drop i marks)) ≡ whole → map cell_of new ++ carried plan heap ns (map cell_of (drop (i + 1) marks)) ≡ whole
carry_next plan heap ns marks now new i d b whole h eb en is =
    ap (λ (ms : List Mark). map cell_of ms ++ carried plan heap ns (map cell_of (drop (i + 1) marks))) en
    ∙ kept_if b now (get_or marks i d) (carried plan heap ns (map cell_of (drop (i + 1) marks)))
    ∙ ap (λ (x : Bool). map cell_of now ++ with_place_if x (cell_of (get_or marks i d)) (carried plan heap ns (map cell_of (drop (i + 1) marks)))) eb
    ∙ sym (ap (λ (ms : List Mark). map cell_of now ++ carried plan heap ns (map cell_of ms)) (drop_more marks i d h))
    ∙ is
