use Rattle.std.proofs.Common.{refl, ◌∙◌}
use Rattle.px_parse.proofs.program.program_of.Goals as goal

pub returns : goal.returns
returns c =
    record {
      tokens = c.from_vec.ensures ∙ c.requires.tokens;
      declared = c.in_ok-declared.declared;
      spells = c.in_ok-declared.ensures;
      shallow = c.requires.text.shallow;
      tables = refl;
      classes = c.in_ok-classes.ensures;
    }
