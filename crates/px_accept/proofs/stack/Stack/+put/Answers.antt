use Rattle.px_accept.proofs.Nesting.{put_room}
use Rattle.px_accept.proofs.stack.Stack.+put.Goals as goal

pub push-requires : goal.push-requires
push-requires t c = put_room c.args.symbols.now _ c.args.self.now c.put.new.self c.in-len1-up.len_at_least c.in_ok-put-in-len1-up.ensures c.requires
