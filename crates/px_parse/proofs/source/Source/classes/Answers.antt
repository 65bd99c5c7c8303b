use Rattle.std.proofs.Common.{◌+◌, ◌-◌, length, not, ap, sym, ◌∙◌, arith}
use Rattle.px_words.specs.declared.lexeme.Word.TheVariants as w
use Rattle.px_parse.specs.Reading.{class, sees_no}
use Rattle.px_parse.proofs.ReadTurns.{repeated_ends, exits}
use Rattle.px_parse.proofs.Repeats.{repeated_done, repeated_step, repeated_turn}
use Rattle.px_parse.proofs.source.Source.classes.Goals as goal

pub returns-then-sees : goal.returns-then-sees
returns-then-sees c =
    record {
      gives =
          c.loop-turn.invariant
          ∙ repeated_ends (sees_no w.End) (class c.args.self.now.bytes.now) (length c.args.tokens.now.left.now - c.loop-turn._turn) c.loop-turn.classes c.loop-turn.tokens.left.now (ap not (sym c.sees.ensures ∙ c.if-sees.true));
    }

pub returns-in_err-class : goal.returns-in_err-class
returns-in_err-class c =
    record {
      gives =
          exits c.in_err-class.field-0.0 (class c.args.self.now.bytes.now c.loop-turn.tokens.left.now) _ _ c.from_residual.result c.class.new.tokens.left.now c.from_residual.ensures.1 c.in_err-class.ensures.gives
          (c.loop-turn.invariant
          ∙ repeated_step (sees_no w.End) (class c.args.self.now.bytes.now) (length c.args.tokens.now.left.now - c.loop-turn._turn) (length c.args.tokens.now.left.now - (c.loop-turn._turn + 1)) c.loop-turn.classes c.loop-turn.tokens.left.now (ap not (sym c.sees.ensures ∙ c.if-sees.false)) (omega arith));
    }

pub loop-turn-preserved : goal.loop-turn-preserved
loop-turn-preserved c =
    c.loop-turn.invariant
    ∙ repeated_turn (sees_no w.End) (class c.args.self.now.bytes.now) (length c.args.tokens.now.left.now - c.loop-turn._turn) (length c.args.tokens.now.left.now - (c.loop-turn._turn + 1)) c.loop-turn.classes c.push.new.self c.in_ok-class.field-0 c.loop-turn.tokens.left.now c.class.new.tokens.left.now (ap not (sym c.sees.ensures ∙ c.if-sees.false)) (omega arith) c.in_ok-class.ensures.gives c.in_ok-push.ensures.ok

pub returns : goal.returns
returns c =
    record {
      gives =
          c.loop-turn.invariant
          ∙ repeated_done (sees_no w.End) (class c.args.self.now.bytes.now) (length c.args.tokens.now.left.now - c.loop-turn._turn) c.loop-turn.classes c.loop-turn.tokens.left.now (omega arith);
    }
