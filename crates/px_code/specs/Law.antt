-- Theorems about code.
use Rattle.std.specs.Prelude.{◌≡◌, ℕ, List, Some}
use Rattle.std.specs.List.{AllByRecursion}
use Rattle.px_value.specs.declared.value.Value.TheVariants.{Ref}
use Rattle.px_value.specs.declared.object.Object.{Object}
use Rattle.px_value.specs.declared.header.Header.{Header}
use Rattle.px_code.specs.declared.side.Side.{Side}
use Rattle.px_code.specs.declared.cell.Cell.{Cell}
use Rattle.px_code.specs.declared.cell.Part.{Part}
use Rattle.px_code.specs.declared.word.Operand.{Operand}
use Rattle.px_code.specs.declared.word.Operand.TheVariants.{Slot as InFrame, Literal}
use Rattle.px_code.specs.declared.word.Word.{Word}
use Rattle.px_code.specs.declared.word.Word.TheVariants as w
use Rattle.px_code.specs.declared.frame.Slot.{Slot}
use Rattle.px_code.specs.declared.block.Statement.{Statement}
use Rattle.px_code.specs.declared.code.Code.{Code}
use Rattle.px_code.specs.Places.{home, part_by}
use Rattle.px_code.specs.Points.{Place, InSlot, PointsTo, HasStatement, ReadsPart, WritesPart}
use Rattle.px_code.specs.Fits.{Leads, Fits, header_at}
use Rattle.px_code.specs.CodeRun.{Ran}
use Rattle.px_code.specs.Machine.{Machine, Stepped, RunsOn, steps, slots_at, value_in, top}
use Rattle.px_code.specs.Sends.{Keeps}
use Rattle.px_code.specs.Sound.{IsNoReference}

abbrev pub PointsToMainAlone : Type 0
PointsToMainAlone = (code : Code) (place : Place) (site : ℕ) → PointsTo code place site → site ≡ 0

abbrev pub KeepsItsHome : Type 0
KeepsItsHome = (code : Code) (sides : List Side) (site : ℕ) (part : Part) → Keeps code sides (home code sides site part) site part

-- ---- runs stay where points-to says

-- each reference in a slot of the frame leads where points-to says
abbrev pub FrameFits : Code → ℕ → List Object → List Slot → Type 0
FrameFits code m heap slots = (n target : ℕ) → value_in slots n ≡ Ref target → Leads code heap (InSlot m n) target

pub record MachineFits (code : Code) (m : ℕ) (machine : Machine) : Type 0 where
  pub heap : Fits code machine.heap
  pub frame : FrameFits code m machine.heap (slots_at machine.frames (top machine.frames))

-- the statements of a method
abbrev pub AreStatements : Code → ℕ → List Statement → Type 0
AreStatements code m statements = AllByRecursion (λ (s : Statement). HasStatement code m s.node s.word) statements

abbrev pub IsNoLiteralReference : Operand → Type 0
IsNoLiteralReference (InFrame n) = Unit {0}
IsNoLiteralReference (Literal v) = IsNoReference v

-- No literal is a reference that the word follows, or that it writes. What an operator gives is never one, and a result leaves the frame.
abbrev pub HasNoReference : Word → Type 0
HasNoReference (w.Set to a) = IsNoLiteralReference a
HasNoReference (w.Op op to a b) = Unit {0}
HasNoReference (w.Get to of class field) = IsNoLiteralReference of
HasNoReference (w.Put of class field a) = IsNoLiteralReference of × IsNoLiteralReference a
HasNoReference (w.Return a) = Unit {0}

-- points-to knows of no reference that stands in the code
abbrev pub NoLiteralReference : List Statement → Type 0
NoLiteralReference statements = AllByRecursion (λ (s : Statement). HasNoReference s.word) statements

-- the cells of a statement that ran are of parts that it reads and writes
pub record RanWithin (code : Code) (m : ℕ) (heap : List Object) (ran : Ran) : Type 0 where
  pub word : Word
  pub is : HasStatement code m ran.node word
  pub reads : AllByRecursion (λ (c : Cell). (h : Header) → header_at heap c.object ≡ Some h → ReadsPart code m word h.site (part_by h.kind c.index)) ran.reads
  pub writes : AllByRecursion (λ (c : Cell). (h : Header) → header_at heap c.object ≡ Some h → WritesPart code m word h.site (part_by h.kind c.index)) ran.writes

pub record StaysWithin (code : Code) (m : ℕ) (before : Machine) (after : Stepped) : Type 0 where
  pub ran : AllByRecursion (RanWithin code m before.heap) after.ran
  pub heap : Fits code after.machine.heap
  pub headers : (place : ℕ) → header_at after.machine.heap place ≡ header_at before.heap place
  pub machine : after.stop ≡ RunsOn → MachineFits code m after.machine

abbrev pub StepsStay : Type 0
StepsStay = (code : Code) (m : ℕ) (statements : List Statement) (machine : Machine) → AreStatements code m statements → NoLiteralReference statements → MachineFits code m machine → StaysWithin code m machine (steps statements machine)
