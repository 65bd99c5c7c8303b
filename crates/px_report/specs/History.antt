-- The text of a history, line by line.
use Rattle.std.specs.Prelude.{ℕ, List, [], ◌∷◌, ◌++◌, codes, decimal}
use Rattle.std.specs.List.{flat_map}
use Rattle.px_code.specs.declared.event.Event.{Event}
use Rattle.px_code.specs.declared.event.Event.TheVariants.{Begin, End}
use Rattle.px_code.specs.declared.reply.Done.{Done}
use Rattle.px_value.specs.declared.object.Object.{Object}
use Rattle.px_value.specs.declared.schema.Schema.{Schema}
use Rattle.px_rows.specs.Tables.{Tables}
use Rattle.px_report.specs.Words.{reply_text, part_name}
use Rattle.px_report.specs.Lines.{line, print_line, state_text}
use Rattle.px_report.specs.Tables.{tables_text}

abbrev pub begin_line : ℕ → ℕ → ℕ → List ℕ
begin_line session call attempt = line (codes "begin" ∷ decimal session ∷ decimal call ∷ decimal attempt ∷ [])

-- a call that ended: its reply, the part that it ran under, and what it took
abbrev pub end_line : List (List ℕ) → ℕ → Done → List ℕ
end_line parts session done =
    line (
    codes "end" ∷ decimal session ∷ reply_text done.reply
    ∷ codes "part" ∷ part_name parts done.part
    ∷ codes "avg" ∷ decimal done.avg
    ∷ codes "moves" ∷ decimal done.moves
    ∷ codes "bytes" ∷ decimal done.bytes
    ∷ codes "rehome" ∷ decimal done.rehome
    ∷ [])

abbrev pub event_text : List (List ℕ) → Event → List ℕ
event_text parts (Begin session call attempt) = begin_line session call attempt
event_text parts (End session done) = end_line parts session done ++ flat_map (print_line session) done.prints

-- the events in order, and what the calls leave
unfoldable pub report_text : List (List ℕ) → Schema → List (List ℕ) → List Event → Tables → List (List Object) → List ℕ
report_text classes schema parts events T heaps =
    line (codes "history" ∷ []) ++ flat_map (event_text parts) events ++ state_text (tables_text schema.tables T) classes heaps
