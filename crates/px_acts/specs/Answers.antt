-- How a call meets what a word does with what is said.
use Rattle.std.specs.Prelude.{List}
use Rattle.px_value.specs.declared.object.Object.{Object}
use Rattle.px_effects.specs.Act.{Acted}
use Rattle.px_effects.specs.Operations as operations
use Rattle.px_acts.specs.declared.said.Said.{Said}
use Rattle.px_acts.specs.declared.said.Said.TheVariants as said
use Rattle.px_acts.specs.declared.answering.Answered.{Answered}
use Rattle.px_acts.specs.Places.{all_wrote}
use Rattle.px_acts.specs.Ends.{IsEnd}

abbrev pub said_of : Said → operations.Said
said_of (said.Answers answer) = operations.Answers answer
said_of said.Out = operations.Out

-- the act came to the value or the throw, wrote the cells, and left the heap
abbrev pub AnswersAs : Acted → Answered → List Object → Type 0
AnswersAs a r heap = IsEnd a r.value (all_wrote r.wrote) heap
