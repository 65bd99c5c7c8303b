use Rattle.px_choose.proofs.Moving.{put_back}
use Rattle.px_choose.proofs.moves.put.Goals as goal

pub returns-clause-back : goal.returns-clause-back
returns-clause-back c = put_back c.args.pins.now c.args.turned.now.items c.push.new.self.items c.args.node c.args.state.now.sides.items c.turn.new.state.sides.items c.requires.kept.size c.in_ok-push.ensures.items c.turn.ensures.sides
