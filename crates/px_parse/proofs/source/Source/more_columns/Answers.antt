use Rattle.std.proofs.Common.{◌+◌, ◌-◌, length, sym, ◌∙◌, arith}
use Rattle.px_words.specs.declared.lexeme.Word.TheVariants as w
use Rattle.px_parse.specs.Reading.{next_column, sees}
use Rattle.px_parse.proofs.ReadTurns.{repeated_ends, exits}
use Rattle.px_parse.proofs.Repeats.{repeated_done, repeated_step, repeated_turn}
use Rattle.px_parse.proofs.source.Source.more_columns.Goals as goal

pub returns-then-not-sees-clause-gives : goal.returns-then-not-sees-clause-gives
returns-then-not-sees-clause-gives c =
    c.loop-turn.invariant.same
    ∙ repeated_ends (sees w.Comma) (next_column c.args.self.now.bytes.now) (length c.args.tokens.now.left.now - c.loop-turn._turn) c.loop-turn.columns c.loop-turn.tokens.left.now (sym c.sees.ensures ∙ c.if-not-sees.true)

pub returns-in_err-next_column-clause-gives : goal.returns-in_err-next_column-clause-gives
returns-in_err-next_column-clause-gives c =
    exits c.in_err-next_column.field-0.0 (next_column c.args.self.now.bytes.now c.loop-turn.tokens.left.now) _ _ c.from_residual-in_err-next_column.result c.next_column.new.tokens.left.now c.from_residual-in_err-next_column.ensures.1 c.in_err-next_column.ensures.gives
    (c.loop-turn.invariant.same
    ∙ repeated_step (sees w.Comma) (next_column c.args.self.now.bytes.now) (length c.args.tokens.now.left.now - c.loop-turn._turn) (length c.args.tokens.now.left.now - (c.loop-turn._turn + 1)) c.loop-turn.columns c.loop-turn.tokens.left.now (sym c.sees.ensures ∙ c.if-not-sees.false) (omega arith))

pub loop-turn-preserved : goal.loop-turn-preserved
loop-turn-preserved c =
    record {
      fewer = omega (arith, c.loop-turn.invariant.fewer, c.in_ok-next_column.ensures.fewer);
      same = c.loop-turn.invariant.same
          ∙ repeated_turn (sees w.Comma) (next_column c.args.self.now.bytes.now) (length c.args.tokens.now.left.now - c.loop-turn._turn) (length c.args.tokens.now.left.now - (c.loop-turn._turn + 1)) c.loop-turn.columns c.push-in-loop-turn.new.self c.in_ok-next_column.field-0 c.loop-turn.tokens.left.now c.next_column.new.tokens.left.now (sym c.sees.ensures ∙ c.if-not-sees.false) (omega arith) c.in_ok-next_column.ensures.gives c.in_ok-push-2.ensures.ok;
    }

pub returns-clause-gives : goal.returns-clause-gives
returns-clause-gives c =
    c.loop-turn.invariant.same
    ∙ repeated_done (sees w.Comma) (next_column c.args.self.now.bytes.now) (length c.args.tokens.now.left.now - c.loop-turn._turn) c.loop-turn.columns c.loop-turn.tokens.left.now (omega arith)
