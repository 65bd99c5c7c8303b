use Rattle.std.proofs.Common.{◌≡◌, ◌++◌, drop}
use Rattle.px_words.specs.Roles.{roles_of}
use Rattle.px_words.proofs.role.roles.Given as goal

abbrev pub invariant-loop-x : goal.invariant-loop-x
invariant-loop-x l = l.roles.items ++ roles_of (drop l.x-index l.lexemes) ≡ roles_of l.lexemes
