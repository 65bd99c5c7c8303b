use Rattle.px_main.proofs.Placeable.{numbers_known, own_known}
use Rattle.px_main.proofs.answer.answer_parts.Goals as goal

pub show_parts-requires-clause-numbers : goal.show_parts-requires-clause-numbers
show_parts-requires-clause-numbers c = numbers_known c.args.checked.now c.requires.known c.args.code.now c.requires.code

pub show_parts-requires-clause-own : goal.show_parts-requires-clause-own
show_parts-requires-clause-own c = own_known c.args.checked.now c.requires.known c.args.code.now c.requires.code
