use Rattle.px_pair.proofs.OneStory.{stories_are_one as law}
use Rattle.px_pair.proofs.law.stories_are_one.Goals as goal

pub returns : goal.returns
returns c = law
