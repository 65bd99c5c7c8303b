-- What is told of a call is fixed by its plan and the machine with which it begins.
use Rattle.std.specs.Prelude.{◌≡◌, ℕ, List}
use Rattle.px_code.specs.declared.side.Side.{Side}
use Rattle.px_code.specs.declared.plan.Plan.{Plan}
use Rattle.px_code.specs.Machine.{Machine}
use Rattle.px_code.specs.Sound.{Ending}
use Rattle.px_pair.specs.Story.{Happening, Told}

-- one story, with its end
pub record IsSameStory (story that_story : List Happening) (ending that_ending : Ending) (last that_last : Machine) : Type 0 where
  pub story_is : story ≡ that_story
  pub ending_is : ending ≡ that_ending
  pub last_is : last ≡ that_last

-- From a block on, one story is told of the one heap, and it ends in one way.
abbrev pub StoriesAreOne : Type 0
StoriesAreOne = (plan : Plan) (side : Side) (m : Machine) (n : ℕ) (story that_story : List Happening) (ending that_ending : Ending) (last that_last : Machine) → Told plan side m n story ending last → Told plan side m n that_story that_ending that_last
    → IsSameStory story that_story ending that_ending last that_last
