use Rattle.px_wire.proofs.MessagesRead.{spellings_differ}
use Rattle.px_wire.proofs.law.spellings_differ.Goals as goal

pub returns : goal.returns
returns c = spellings_differ
