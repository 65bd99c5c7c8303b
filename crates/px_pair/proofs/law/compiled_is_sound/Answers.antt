use Rattle.px_pair.proofs.Compiled.{compiled_is_sound as law}
use Rattle.px_pair.proofs.law.compiled_is_sound.Goals as goal

pub returns : goal.returns
returns c = law
