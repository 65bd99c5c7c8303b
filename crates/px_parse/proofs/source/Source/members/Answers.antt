use Rattle.std.proofs.Common.{◌+◌, ◌-◌, length, not, ap, sym, ◌∙◌, arith}
use Rattle.px_words.specs.declared.lexeme.Word.TheVariants as w
use Rattle.px_parse.specs.Reading.{a_member, sees_no}
use Rattle.px_parse.proofs.ReadTurns.{repeated_ends, exits}
use Rattle.px_parse.proofs.Repeats.{repeated_done, repeated_step, repeated_turn}
use Rattle.px_parse.proofs.source.Source.members.Goals as goal

pub returns-then-sees-clause-gives : goal.returns-then-sees-clause-gives
returns-then-sees-clause-gives c =
    c.loop-turn.invariant.same
    ∙ repeated_ends (sees_no w.CloseBrace) (a_member c.args.self.now.bytes.now) (length c.args.tokens.now.left.now - c.loop-turn._turn) c.loop-turn.members c.loop-turn.tokens.left.now (ap not (sym c.sees.ensures ∙ c.if-sees.true))

pub returns-in_err-one_member-clause-gives : goal.returns-in_err-one_member-clause-gives
returns-in_err-one_member-clause-gives c =
    exits c.in_err-one_member.field-0.0 (a_member c.args.self.now.bytes.now c.loop-turn.tokens.left.now) _ _ c.from_residual.result c.one_member.new.tokens.left.now c.from_residual.ensures.1 c.in_err-one_member.ensures.gives
    (c.loop-turn.invariant.same
    ∙ repeated_step (sees_no w.CloseBrace) (a_member c.args.self.now.bytes.now) (length c.args.tokens.now.left.now - c.loop-turn._turn) (length c.args.tokens.now.left.now - (c.loop-turn._turn + 1)) c.loop-turn.members c.loop-turn.tokens.left.now (ap not (sym c.sees.ensures ∙ c.if-sees.false)) (omega arith))

pub loop-turn-preserved : goal.loop-turn-preserved
loop-turn-preserved c =
    record {
      fewer = omega (arith, c.loop-turn.invariant.fewer, c.in_ok-one_member.ensures.fewer);
      same = c.loop-turn.invariant.same
          ∙ repeated_turn (sees_no w.CloseBrace) (a_member c.args.self.now.bytes.now) (length c.args.tokens.now.left.now - c.loop-turn._turn) (length c.args.tokens.now.left.now - (c.loop-turn._turn + 1)) c.loop-turn.members c.push.new.self c.in_ok-one_member.field-0 c.loop-turn.tokens.left.now c.one_member.new.tokens.left.now (ap not (sym c.sees.ensures ∙ c.if-sees.false)) (omega arith) c.in_ok-one_member.ensures.gives c.in_ok-push.ensures.ok;
    }

pub returns-clause-gives : goal.returns-clause-gives
returns-clause-gives c =
    c.loop-turn.invariant.same
    ∙ repeated_done (sees_no w.CloseBrace) (a_member c.args.self.now.bytes.now) (length c.args.tokens.now.left.now - c.loop-turn._turn) c.loop-turn.members c.loop-turn.tokens.left.now (omega arith)
