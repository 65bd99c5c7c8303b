use Rattle.std.proofs.Common.{◌≡◌, rules, ap, ◌-◌, length, take, drop, arith, refl, ◌∙◌}
use Rattle.std.proofs.lemmas.List.{take_rest}
use Rattle.px_lex.proofs.Cuts.{lex_more, lex_end, left_length, taken_length, more_some, more_within, shows_few}
use Rattle.px_lex.proofs.Closings.{length_closings, closing_there}
use Rattle.px_lex.proofs.lexer.lex.Goals as goal

pub loop-from-init : goal.loop-from-init
loop-from-init c = record { within = omega arith; few = omega arith; count = search rules; same = (length c.args.bytes.now, omega arith, rw c.new-tokens.ensures.items refl) }

pub loop-from-preserved : goal.loop-from-preserved
loop-from-preserved c =
    let s = c.loop-from.invariant.same in
    let l = left_length c.args.bytes.now c.loop-from.from in
    let some = more_some _ _ _ c.first_piece-piece.ensures.is c.size-more.ensures c.first_piece-piece.ensures.some in
    let within = more_within _ _ _ _ c.first_piece-piece.ensures.is c.size-more.ensures c.first_piece-piece.ensures.within in
    let few = taken_length c.size-more.result (take (length c.args.bytes.now - c.loop-from.from) (drop c.loop-from.from c.args.bytes.now)) in
    record {
      within = omega (arith, l, within);
      few = omega (arith, few, c.lines-line.ensures.few);
      count = shows_few _ c.loop-from.tokens.items c.first_piece-piece.result c.loop-from.from c.loop-from.line c.size-more.result c.in_ok-show.ensures some c.loop-from.invariant.count;
      same =
          lex_more _ c.loop-from.tokens.items c.show.new.tokens.items s.0 c.loop-from.from c.loop-from.line c.size-more.result c.lines-line.result c.args.bytes.now (take (length c.args.bytes.now - c.loop-from.from) (drop c.loop-from.from c.args.bytes.now)) c.first_piece-piece.result (take_rest c.args.bytes.now c.loop-from.from) (omega (arith, l)) (omega arith) s.1 c.first_piece-piece.ensures.is c.size-more.ensures some c.lines-line.ensures.is c.in_ok-show.ensures s.2;
    }

pub returns-clause-exact : goal.returns-clause-exact
returns-clause-exact c = let s = c.loop-from.invariant.same in c.in_ok-push.ensures.items ∙ lex_end _ c.loop-from.tokens.items s.0 c.loop-from.from c.loop-from.line c.args.bytes.now (omega arith) s.2

pub index-requires : goal.index-requires
index-requires c =
    let size : length c.in_ok-closings.closings.items ≡ length c.args.bytes.now = ap length c.in_ok-closings.ensures ∙ length_closings c.args.bytes.now in
    search rules

pub first_piece-piece-requires-clause-closing : goal.first_piece-piece-requires-clause-closing
first_piece-piece-requires-clause-closing c = closing_there _ c.args.bytes.now c.loop-from.from _ c.in_ok-closings.ensures c.loop-from-test.true c.index.ensures
