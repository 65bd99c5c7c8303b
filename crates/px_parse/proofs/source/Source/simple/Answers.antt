use Rattle.std.proofs.Common.{◌∙◌, sym}
use Rattle.px_parse.specs.Reading.{simple_on}
use Rattle.px_parse.proofs.ReadTurns.{simple_by}
use Rattle.px_parse.proofs.source.Source.simple.Goals as goal

pub returns-in-Increment-clause-gives : goal.returns-in-Increment-clause-gives
unfolding simple_on
returns-in-Increment-clause-gives c =
    simple_by c.args.self.now.bytes.now c.args.tokens.now.left.now c.postfix.new.tokens.left.now c.in_ok-place.place _ c.up.result _ c.in_ok-place.ensures.gives (sym c.peek.ensures ∙ c.in-Increment.is) c.up.ensures.gives

pub returns-in-Decrement-clause-gives : goal.returns-in-Decrement-clause-gives
unfolding simple_on
returns-in-Decrement-clause-gives c =
    simple_by c.args.self.now.bytes.now c.args.tokens.now.left.now c.postfix.new.tokens.left.now c.in_ok-place.place _ c.down.result _ c.in_ok-place.ensures.gives (sym c.peek.ensures ∙ c.in-Decrement.is) c.down.ensures.gives
