use Rattle.std.proofs.Common.{◌≡◌, drop, map}
use Rattle.std.specs.Prelude.{true}
use Rattle.px_type_rules.specs.Breaches.{after}
use Rattle.px_types.specs.Statements.{block, judged}
use Rattle.px_types.proofs.context.Context.+statement.Given as goal

abbrev pub invariant-block-loop-item : goal.invariant-block-loop-item
invariant-block-loop-item l = record {
  notes : after l.report (block l.completes l.locals (map (judged l.fn.self) (drop l.item-index l.fn.items))).notes ≡ after l.fn.report (block true l.fn.locals (map (judged l.fn.self) l.fn.items)).notes;
  locals : (block l.completes l.locals (map (judged l.fn.self) (drop l.item-index l.fn.items))).locals ≡ (block true l.fn.locals (map (judged l.fn.self) l.fn.items)).locals;
  completes : (block l.completes l.locals (map (judged l.fn.self) (drop l.item-index l.fn.items))).completes ≡ (block true l.fn.locals (map (judged l.fn.self) l.fn.items)).completes;
}
