-- Theorems about straight code.
use Rattle.std.specs.Prelude.{◌≡◌, ℕ, ◌<◌, ◌≤◌, ◌^◌, List, [], ◌∷◌, length, map, Some, is_some, option_map, Ok}
use Rattle.px_value.specs.declared.value.Value.{Value}
use Rattle.px_value.specs.declared.object.Object.{Object}
use Rattle.px_value.specs.Heap.{cell_at, max_counted}
use Rattle.px_value.specs.Outcome.{Outcome, Gives, Throws, Asks}
use Rattle.px_effects.specs.Run.{Ask}
use Rattle.px_effects.specs.Act.{Place, with_place_if}
use Rattle.px_normal.specs.declared.method.Method.{Method}
use Rattle.px_normal.specs.declared.code.Code.{Code}
use Rattle.px_normal.specs.First.{numbered, fields_of}
use Rattle.px_normal.specs.Run.{Ran, Traced}
use Rattle.px_normal.specs.CodeRun.{code_run}
use Rattle.px_normal.specs.Typed.{IsTyped}
use Rattle.px_code.specs.declared.cell.Cell.{Cell}
use Rattle.px_code.specs.declared.code.Code.{Code as SimpleCode}
use Rattle.px_code.specs.CodeRun.{Ran as SimpleRan, Traced as SimpleTraced}
use Rattle.px_code.specs.Points.{IsMethod}
use Rattle.px_code.specs.Sound.{run_of}
use Rattle.px_code.specs.WellFormed.{IsWellFormed}
use Rattle.px_straight.specs.Taken.{line_of}
use Rattle.px_straight.specs.Order.{all_judged, first_untaken}
use Rattle.px_straight.specs.Simple.{simple_code, simple_method}
use Rattle.px_straight.specs.Straight.{unless_later, straight}

-- ---- runs

abbrev pub place_of : Cell → Place
place_of c = record { object = c.object; index = c.index }

-- Of a write of a cell that isn't there, which no typed program makes, nothing is told. No run changes which cells there are.
abbrev pub told_writes : List Object → List Cell → List Place
told_writes heap [] = []
told_writes heap (c ∷ cells) = with_place_if (is_some (cell_at heap c.object c.index)) (place_of c) (told_writes heap cells)

abbrev pub told_ran : List Object → SimpleRan → Ran
told_ran heap r = record { node = r.node; reads = map place_of r.reads; writes = told_writes heap r.writes }

-- The same statements ran; the world is as it was, nothing was printed or asked of the tables, and no turn was taken.
abbrev pub told : {W : Type 0} → List Object → W → SimpleTraced (Unit {0}) → Traced W
told heap world g = record { shared = record { heap = g.shared.heap; world = world; prints = []; turns = 0; operations = 0 }; ran = map (told_ran heap) g.ran }

-- what a run of the simple code from a heap is as a run of the whole language's code
abbrev pub told_run : {Q W A : Type 0} → List Object → W → Outcome ⊥ (SimpleTraced (Unit {0})) A → Outcome Q (Traced W) A
told_run heap world (Gives a g) = Gives a (told heap world g)
told_run heap world (Throws t g) = Throws t (told heap world g)
told_run heap world (Asks q g) = absurd q

-- Straight code does what its code does: same value or throw, same heap, same statements, whatever stands in the heap and answers.
abbrev pub StraightRunsAsCode : Type 0 → Type 0 → Type 0
StraightRunsAsCode Q W = (code : Code) (simple : SimpleCode) → IsTyped code → straight code ≡ Ok simple → (ask : Ask Q W) (heap : List Object) (world : W) (method : ℕ) (args : List Value) → code_run code ask heap world method args ≡ told_run heap world (run_of simple heap method args)

-- ---- the line of what isn't straight

-- the line of the first of all statements, in the order of nodes, that isn't taken
abbrev pub StraightOrLater : Type 0
StraightOrLater = (code : Code) → straight code ≡ unless_later (option_map (line_of code) (first_untaken (all_judged code))) (simple_code code)

-- ---- what two ends ask of code

-- frames that a message can tell, and a first object that a heap has room for
pub record IsSmall (code : Code) : Type 0 where
  pub slots : (number : ℕ) (method : Method) → numbered code.methods number ≡ Some method → length method.slots ≤ 2 ^ 16
  pub main : length (fields_of code code.main) < max_counted

abbrev pub StraightIsWellFormed : Type 0
StraightIsWellFormed = (code : Code) (simple : SimpleCode) → IsTyped code → IsSmall code → straight code ≡ Ok simple → IsWellFormed simple

-- ---- what stands at numbers

-- Straight code is its code, part by part: classes, fields, methods, slots and nodes have the numbers that they had.
abbrev pub StraightKeepsNumbers : Type 0
StraightKeepsNumbers = (code : Code) (simple : SimpleCode) → straight code ≡ Ok simple → simple ≡ simple_code code

-- so an entry is the method of its number, with as many parameters
abbrev pub StraightEntries : Type 0
StraightEntries = (code : Code) (simple : SimpleCode) → straight code ≡ Ok simple → (number : ℕ) (method : Method) → numbered code.methods number ≡ Some method → IsMethod simple number (simple_method method)
