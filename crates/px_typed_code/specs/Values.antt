-- Types that variables and results have.
use Rattle.std.specs.Prelude.{Bool, true, false, ◌||◌}
use Rattle.px_facts.specs.declared.types.Ty.{Ty}
use Rattle.px_facts.specs.declared.types.Ty.TheVariants as ty
use Rattle.px_facts.specs.Types.{is_void}

-- the type of a variable
abbrev pub is_value : Ty → Bool
is_value ty.Unknown = false
is_value ty.Void = false
is_value ty.Null = false
is_value t = true

-- the type of a result
abbrev pub is_result : Ty → Bool
is_result t = is_void t || is_value t
