use Rattle.std.proofs.Common.{◌+◌, ◌-◌, length, sym, ◌∙◌, arith}
use Rattle.px_words.specs.declared.lexeme.Word.TheVariants as w
use Rattle.px_parse.specs.Reading.{table, sees}
use Rattle.px_parse.proofs.ReadTurns.{repeated_ends, exits}
use Rattle.px_parse.proofs.Repeats.{repeated_done, repeated_step, repeated_turn}
use Rattle.px_parse.proofs.source.Source.tables.Goals as goal

pub returns-then-not-sees : goal.returns-then-not-sees
returns-then-not-sees c =
    record {
      gives =
          c.loop-turn.invariant
          ∙ repeated_ends (sees w.Create) (table c.args.self.now.bytes.now) (length c.args.tokens.now.left.now - c.loop-turn._turn) c.loop-turn.tables c.loop-turn.tokens.left.now (sym c.sees.ensures ∙ c.if-not-sees.true);
    }

pub returns-in_err-table : goal.returns-in_err-table
returns-in_err-table c =
    record {
      gives =
          exits c.in_err-table.field-0.0 (table c.args.self.now.bytes.now c.loop-turn.tokens.left.now) _ _ c.from_residual.result c.table.new.tokens.left.now c.from_residual.ensures.1 c.in_err-table.ensures.gives
          (c.loop-turn.invariant
          ∙ repeated_step (sees w.Create) (table c.args.self.now.bytes.now) (length c.args.tokens.now.left.now - c.loop-turn._turn) (length c.args.tokens.now.left.now - (c.loop-turn._turn + 1)) c.loop-turn.tables c.loop-turn.tokens.left.now (sym c.sees.ensures ∙ c.if-not-sees.false) (omega arith));
    }

pub loop-turn-preserved : goal.loop-turn-preserved
loop-turn-preserved c =
    c.loop-turn.invariant
    ∙ repeated_turn (sees w.Create) (table c.args.self.now.bytes.now) (length c.args.tokens.now.left.now - c.loop-turn._turn) (length c.args.tokens.now.left.now - (c.loop-turn._turn + 1)) c.loop-turn.tables c.push.new.self c.in_ok-table.field-0 c.loop-turn.tokens.left.now c.table.new.tokens.left.now (sym c.sees.ensures ∙ c.if-not-sees.false) (omega arith) c.in_ok-table.ensures.gives c.in_ok-push.ensures.ok

pub returns : goal.returns
returns c =
    record {
      gives =
          c.loop-turn.invariant
          ∙ repeated_done (sees w.Create) (table c.args.self.now.bytes.now) (length c.args.tokens.now.left.now - c.loop-turn._turn) c.loop-turn.tables c.loop-turn.tokens.left.now (omega arith);
    }
