use Rattle.std.proofs.Common.{◌+◌, ◌-◌, length, not, sym, ap, ◌∙◌, arith}
use Rattle.px_words.specs.declared.lexeme.Word.TheVariants as w
use Rattle.px_parse.specs.Reading.{item, statement, sees_no, braced, empty, conditional, while_loop, for_loop, returned, by_test, is_print, print, ended_by_semicolon, simple}
use Rattle.px_parse.proofs.ReadTurns.{repeated_ends, exits}
use Rattle.px_parse.proofs.Repeats.{repeated_done, repeated_step, repeated_turn, statement_turn, braced_word, empty_word, conditional_word, while_loop_word, for_loop_word, returned_word, other_statement}
use Rattle.px_parse.proofs.source.Source.+block.Goals as goal

pub items-returns-then-sees-clause-gives : goal.items-returns-then-sees-clause-gives
items-returns-then-sees-clause-gives t c = λ n h.
    c.loop-turn.invariant.same n h
    ∙ repeated_ends (sees_no w.CloseBrace) (item c.args.self.now.bytes.now (statement c.args.self.now.bytes.now n)) (length c.args.tokens.now.left.now - c.loop-turn._turn) c.loop-turn.items c.loop-turn.tokens.left.now (ap not (sym c.sees.ensures ∙ c.if-sees.true))

pub items-returns-in_err-item-clause-gives : goal.items-returns-in_err-item-clause-gives
items-returns-in_err-item-clause-gives t c = λ n h.
    exits c.in_err-item.field-0.0 (item c.args.self.now.bytes.now (statement c.args.self.now.bytes.now n) c.loop-turn.tokens.left.now) _ _ c.from_residual.result c.item.new.tokens.left.now c.from_residual.ensures.1 (c.in_err-item.ensures.gives n (omega (arith, h, c.loop-turn.invariant.fewer)))
    (c.loop-turn.invariant.same n h
    ∙ repeated_step (sees_no w.CloseBrace) (item c.args.self.now.bytes.now (statement c.args.self.now.bytes.now n)) (length c.args.tokens.now.left.now - c.loop-turn._turn) (length c.args.tokens.now.left.now - (c.loop-turn._turn + 1)) c.loop-turn.items c.loop-turn.tokens.left.now (ap not (sym c.sees.ensures ∙ c.if-sees.false)) (omega arith))

pub items-loop-turn-preserved : goal.items-loop-turn-preserved
items-loop-turn-preserved t c =
    record {
      fewer = omega (arith, c.loop-turn.invariant.fewer, c.in_ok-item.ensures.fewer);
      same = λ n h.
          c.loop-turn.invariant.same n h
          ∙ repeated_turn (sees_no w.CloseBrace) (item c.args.self.now.bytes.now (statement c.args.self.now.bytes.now n)) (length c.args.tokens.now.left.now - c.loop-turn._turn) (length c.args.tokens.now.left.now - (c.loop-turn._turn + 1)) c.loop-turn.items c.push.new.self c.in_ok-item.field-0 c.loop-turn.tokens.left.now c.item.new.tokens.left.now (ap not (sym c.sees.ensures ∙ c.if-sees.false)) (omega arith)
          (c.in_ok-item.ensures.gives n (omega (arith, h, c.loop-turn.invariant.fewer))) c.in_ok-push.ensures.ok;
    }

pub items-returns-clause-gives : goal.items-returns-clause-gives
items-returns-clause-gives t c = λ n h.
    c.loop-turn.invariant.same n h
    ∙ repeated_done (sees_no w.CloseBrace) (item c.args.self.now.bytes.now (statement c.args.self.now.bytes.now n)) (length c.args.tokens.now.left.now - c.loop-turn._turn) c.loop-turn.items c.loop-turn.tokens.left.now (omega arith)

pub statement-returns-in-OpenBrace-clause-gives : goal.statement-returns-in-OpenBrace-clause-gives
statement-returns-in-OpenBrace-clause-gives t c = λ n h. statement_turn c.args.self.now.bytes.now (braced c.args.self.now.bytes.now) n c.args.tokens.now.left.now c.braced.result c.braced.new.tokens.left.now w.OpenBrace h (sym c.peek.ensures ∙ c.in-OpenBrace.is) (braced_word c.args.self.now.bytes.now) (λ k i. c.braced.ensures.gives k i)

pub statement-returns-in-Semicolon-clause-gives : goal.statement-returns-in-Semicolon-clause-gives
statement-returns-in-Semicolon-clause-gives t c = λ n h. statement_turn c.args.self.now.bytes.now (λ inner. empty) n c.args.tokens.now.left.now c.empty.result c.empty.new.tokens.left.now w.Semicolon h (sym c.peek.ensures ∙ c.in-Semicolon.is) (empty_word c.args.self.now.bytes.now) (λ k i. c.empty.ensures.gives)

pub statement-returns-in-If-clause-gives : goal.statement-returns-in-If-clause-gives
statement-returns-in-If-clause-gives t c = λ n h. statement_turn c.args.self.now.bytes.now (conditional c.args.self.now.bytes.now) n c.args.tokens.now.left.now c.conditional.result c.conditional.new.tokens.left.now w.If h (sym c.peek.ensures ∙ c.in-If.is) (conditional_word c.args.self.now.bytes.now) (λ k i. c.conditional.ensures.gives k i)

pub statement-returns-in-While-clause-gives : goal.statement-returns-in-While-clause-gives
statement-returns-in-While-clause-gives t c = λ n h. statement_turn c.args.self.now.bytes.now (while_loop c.args.self.now.bytes.now) n c.args.tokens.now.left.now c.while_loop.result c.while_loop.new.tokens.left.now w.While h (sym c.peek.ensures ∙ c.in-While.is) (while_loop_word c.args.self.now.bytes.now) (λ k i. c.while_loop.ensures.gives k i)

pub statement-returns-in-For-clause-gives : goal.statement-returns-in-For-clause-gives
statement-returns-in-For-clause-gives t c = λ n h. statement_turn c.args.self.now.bytes.now (for_loop c.args.self.now.bytes.now) n c.args.tokens.now.left.now c.for_loop.result c.for_loop.new.tokens.left.now w.For h (sym c.peek.ensures ∙ c.in-For.is) (for_loop_word c.args.self.now.bytes.now) (λ k i. c.for_loop.ensures.gives k i)

pub statement-returns-in-Return-clause-gives : goal.statement-returns-in-Return-clause-gives
statement-returns-in-Return-clause-gives t c = λ n h. statement_turn c.args.self.now.bytes.now (λ inner. returned c.args.self.now.bytes.now) n c.args.tokens.now.left.now c.returned.result c.returned.new.tokens.left.now w.Return h (sym c.peek.ensures ∙ c.in-Return.is) (returned_word c.args.self.now.bytes.now) (λ k i. c.returned.ensures.gives)

pub statement-returns-in_default-clause-gives : goal.statement-returns-in_default-clause-gives
statement-returns-in_default-clause-gives t c = λ n h.
    statement_turn c.args.self.now.bytes.now (λ inner. by_test is_print (print c.args.self.now.bytes.now) (ended_by_semicolon (simple c.args.self.now.bytes.now))) n c.args.tokens.now.left.now c.plain.result c.plain.new.tokens.left.now _ h (sym c.peek.ensures)
    (λ inner. other_statement c.args.self.now.bytes.now inner c.peek.result c.in_default.not-OpenBrace c.in_default.not-Semicolon c.in_default.not-If c.in_default.not-While c.in_default.not-For c.in_default.not-Return) (λ k i. c.plain.ensures.gives)
