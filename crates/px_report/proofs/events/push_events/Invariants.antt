use Rattle.std.proofs.Common.{◌≡◌, ◌++◌, drop}
use Rattle.std.specs.List.{flat_map}
use Rattle.px_report.specs.History.{event_text}
use Rattle.px_report.proofs.events.push_events.Given as goal

abbrev pub invariant-loop-event : goal.invariant-loop-event
invariant-loop-event l =
    l.text.items ++ flat_map (event_text l.parts) (drop l.event-index l.events) ≡ l.fn.text.items ++ flat_map (event_text l.parts) l.events
