-- What a plain run stands for, and how its calls meet the meaning.
use Rattle.std.specs.Prelude.{◌≡◌, ℕ, List, slice_get, slice_set, Some}
use Rattle.std.specs.Borrow.{Bor}
use Rattle.px_value.specs.declared.value.Value.{Value}
use Rattle.px_value.specs.declared.object.Object.{Object}
use Rattle.px_tree.specs.declared.Method.{Method}
use Rattle.px_facts.specs.declared.checked.Facts.{Facts}
use Rattle.px_code.specs.declared.reply.Shown.{Shown}
use Rattle.px_mean.specs.Calls.{Source}
use Rattle.px_rows.specs.Tables.{Tables}
use Rattle.px_mean.specs.Asks.{by_tables}
use Rattle.px_mean.specs.Entry.{Called, call_of}
use Rattle.px_mean.specs.Serial.{Call, Stand}
use Rattle.px_plain.specs.View.{all_now}
use Rattle.px_plain.specs.declared.plain.Called.{Called as CalledData}
use Rattle.px_plain.specs.declared.plain.Plain.{Plain}

abbrev pub source_with : Facts → List (Bor Method) → Source
source_with facts methods = record { facts = facts; methods = all_now methods }

abbrev pub source_in : Plain → Source
source_in p = source_with p.facts.now p.methods.items

abbrev pub stand_of : List (List Object) → Tables → Stand Tables
stand_of heaps tables = record { heaps = heaps; world = tables }

abbrev pub stands : Plain → Stand Tables
stands p = stand_of p.heaps.items p.tables

abbrev pub call_with : ℕ → ℕ → List Value → Call
call_with session entry args = record { session = session; entry = entry; args = args }

abbrev pub left_with : Shown → List Object → Tables → Called Tables
left_with shown heap tables = record { reply = shown.reply; prints = shown.prints; heap = heap; world = tables }

abbrev pub left_by : CalledData → Called Tables
left_by c = left_with c.shown c.heap c.tables

-- a call on the heap at a place
pub record CallsAt (P : Source) (old : Stand Tables) (place entry : ℕ) (args : List Value) (shown : Shown) (new : Stand Tables) : Type 0 where
  pub before : List Object
  pub there : slice_get old.heaps place ≡ Some before
  pub left : List Object
  pub called : call_of by_tables P before old.world entry args ≡ left_with shown left new.world
  pub written : new.heaps ≡ slice_set old.heaps place left
