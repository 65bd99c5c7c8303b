-- The plan of code at a placement, by what points-to found; and the sites to which its references lead.
use Rattle.std.specs.Prelude.{ℕ, zero, suc, nat_eq, Bool, true, false, List, Some, length, unwrap_or}
use Rattle.std.specs.List.{list_any}
use Rattle.px_value.specs.declared.header.Header.{Header}
use Rattle.px_value.specs.declared.header.Kind.TheVariants as kind
use Rattle.px_normal.specs.declared.word.Operand.TheVariants.{Slot}
use Rattle.px_normal.specs.declared.word.Word.{Word}
use Rattle.px_normal.specs.declared.word.Word.TheVariants as w
use Rattle.px_normal.specs.declared.code.Code.{Code}
use Rattle.px_normal.specs.First.{fresh_of}
use Rattle.px_flow_points.specs.declared.part.Part.{Part as PartOf}
use Rattle.px_flow_points.specs.declared.part.Part.TheVariants as part
use Rattle.px_flow_points.specs.Places.{site_kind}
use Rattle.px_flow_points.specs.Exact.{PointsOf, slot_set, cell_set}
use Rattle.px_flow_points.specs.ByNode.{Found, pair}
use Rattle.px_blocks.specs.declared.side.Side.{Side}
use Rattle.px_blocks.specs.declared.block.Blocks.{Blocks}
use Rattle.px_blocks.specs.Plan.{Part, Field, Elements, Plan}
use Rattle.px_sync.specs.Homes.{home}
use Rattle.px_sync.specs.Found.{reads_at, keeps}
use Rattle.px_ends.specs.Fits.{Points}
use Rattle.px_sound_plans.specs.Words.{method_words}

abbrev pub part_in : Part → PartOf
part_in (Field place) = part.Field place
part_in Elements = part.Elements

-- the sides keep what is at home there and what their statements may read
abbrev pub plan_of : Code → List Side → Found → Blocks → Plan
plan_of code sides found blocks = record {
  code = code;
  blocks = blocks;
  home = λ s p. home code sides s (part_in p);
  keep = λ side s p. keeps code sides (reads_at sides found.reads) side (pair s (part_in p));
}

abbrev pub has_site : ℕ → List ℕ → Bool
has_site s sites = list_any (nat_eq s) sites

-- the frame below all methods has the reply, which nothing reads
abbrev pub at_slot : PointsOf → (method slot site : ℕ) → Bool
at_slot P zero k s = true
at_slot P (suc m) k s = has_site s (slot_set P (suc m) k)

-- the word returns a reference to an object of the site
abbrev pub returns : PointsOf → (method site : ℕ) → Word → Bool
returns P m s (w.Return (Some (Slot k))) = at_slot P m k s
returns P m s _ = false

abbrev pub main_header : Code → Header
main_header code = record { kind = kind.Object code.main; site = 0; length = length (fresh_of code code.main) }

abbrev pub points_of : Code → PointsOf → Points
points_of code P = record {
  at_slot = at_slot P;
  in_part = λ s p t. has_site t (cell_set P s (part_in p));
  result = λ m s. list_any (returns P m s) (method_words code m);
  kinds = λ s. unwrap_or (site_kind code s) (kind.Object code.main);
  main = main_header code;
}
