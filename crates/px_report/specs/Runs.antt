-- The text of a run.
use Rattle.std.specs.Prelude.{ℕ, List, [], ◌∷◌, ◌++◌, codes}
use Rattle.std.specs.List.{flat_map}
use Rattle.px_value.specs.declared.object.Object.{Object}
use Rattle.px_value.specs.declared.schema.Schema.{Schema}
use Rattle.px_rows.specs.Tables.{Tables}
use Rattle.px_report.specs.declared.calls.ShownCall.{ShownCall}
use Rattle.px_report.specs.Lines.{line, call_text, state_text}
use Rattle.px_report.specs.Tables.{tables_text}

-- the calls in order, and what they leave
unfoldable pub run_text : List (List ℕ) → Schema → List ShownCall → Tables → List (List Object) → List ℕ
run_text classes schema calls T heaps = line (codes "calls" ∷ []) ++ flat_map call_text calls ++ state_text (tables_text schema.tables T) classes heaps
