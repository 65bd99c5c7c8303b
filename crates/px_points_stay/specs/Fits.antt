-- Heaps whose references lead where points-to says.
use Rattle.std.specs.Prelude.{◌≡◌, ℕ, Bool, true, List, Option, Some, None, slice_get}
use Rattle.std.specs.List.{AllByRecursion}
use Rattle.px_value.specs.declared.value.Value.{Value}
use Rattle.px_value.specs.declared.value.Value.TheVariants.{Ref}
use Rattle.px_value.specs.declared.header.Header.{Header}
use Rattle.px_value.specs.declared.header.Kind.{Kind}
use Rattle.px_value.specs.declared.header.Kind.TheVariants as kind
use Rattle.px_value.specs.declared.object.Object.{Object}
use Rattle.px_value.specs.declared.answer.Answer.{Answer}
use Rattle.px_value.specs.declared.answer.Answer.TheVariants.{Rows}
use Rattle.px_value.specs.Heap.{cell_at}
use Rattle.px_value.specs.Outcome.{Outcome, Gives, Throws, Asks}
use Rattle.px_value.specs.declared.statement.TableOp.{TableOp}
use Rattle.px_effects.specs.Run.{Ask}
use Rattle.px_effects.specs.Act as act
use Rattle.px_normal.specs.declared.word.Word.{Word}
use Rattle.px_normal.specs.declared.code.Code.{Code}
use Rattle.px_normal.specs.Run.{Ran}
use Rattle.px_flow_points.specs.declared.part.Part.{Part}
use Rattle.px_flow_points.specs.declared.part.Part.TheVariants.{Field, Elements}
use Rattle.px_flow_points.specs.Statements.{HasStatement}
use Rattle.px_flow_points.specs.Places.{site_kind}
use Rattle.px_flow_points.specs.Points.{Place, InPart, PointsTo, ReadsPart, WritesPart}

abbrev pub IsNoReference : Value → Type 0
IsNoReference (Ref target) = ⊥
IsNoReference v = Unit {0}

-- ---- heaps

abbrev pub header_in : Option Object → Option Header
header_in None = None
header_in (Some o) = Some o.header

abbrev pub header_at : List Object → ℕ → Option Header
header_at heap place = header_in (slice_get heap place)

-- the part that a cell of an object belongs to
abbrev pub part_by : Kind → ℕ → Part
part_by (kind.Object class) index = Field index
part_by _ index = Elements

-- a reference in a place leads to an object of a site that points-to has there
pub record Leads (code : Code) (heap : List Object) (place : Place) (target : ℕ) : Type 0 where
  pub header : Header
  pub there : header_at heap target ≡ Some header
  pub site : PointsTo code place header.site

-- object 0 was made at site 0, each object is of the kind that its site makes, and each reference in a cell leads where points-to says
pub record HeapFits (code : Code) (heap : List Object) : Type 0 where
  pub first : Header
  pub first_there : header_at heap 0 ≡ Some first
  pub first_site : first.site ≡ 0
  pub made : (place : ℕ) (h : Header) → header_at heap place ≡ Some h → site_kind code h.site ≡ Some h.kind
  pub leads : (place index target : ℕ) (h : Header) → cell_at heap place index ≡ Some (Ref target) → header_at heap place ≡ Some h → Leads code heap (InPart h.site (part_by h.kind index)) target

-- ---- the world

abbrev pub IsPlainAnswer : Answer → Type 0
IsPlainAnswer (Rows width cells) = AllByRecursion IsNoReference cells
IsPlainAnswer _ = Unit {0}

abbrev pub IsPlainOutcome : {Q W : Type 0} → (W → Bool) → Outcome Q W Answer → Type 0
IsPlainOutcome kept (Gives a w) = IsPlainAnswer a × (kept w ≡ true)
IsPlainOutcome kept (Throws t w) = kept w ≡ true
IsPlainOutcome kept (Asks q w) = Unit {0}

-- Answers hold no references, where the world is as it is to be kept.
abbrev pub AnswersPlainly : {Q W : Type 0} → (W → Bool) → Ask Q W → Type 0
AnswersPlainly {Q} {W} kept ask = (w : W) (o : TableOp) → kept w ≡ true → IsPlainOutcome kept (ask o w)

-- ---- what ran

-- a cell that a statement touched is in what points-to has for it
pub record Within (code : Code) (heap : List Object) (of : ℕ → Word → ℕ → Part → Type 0) (node : ℕ) (p : act.Place) : Type 0 where
  pub method : ℕ
  pub word : Word
  pub has : HasStatement code method node word
  pub header : Header
  pub there : header_at heap p.object ≡ Some header
  pub is : of method word header.site (part_by header.kind p.index)

pub record RanWithin (code : Code) (heap : List Object) (r : Ran) : Type 0 where
  pub reads : AllByRecursion (Within code heap (ReadsPart code) r.node) r.reads
  pub writes : AllByRecursion (Within code heap (WritesPart code) r.node) r.writes
