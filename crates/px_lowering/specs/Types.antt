-- Static types as code has them.
use Rattle.std.specs.Prelude.{Option, Some, None}
use Rattle.px_facts.specs.declared.types.Ty.{Ty as Static}
use Rattle.px_facts.specs.declared.types.Ty.TheVariants as static
use Rattle.px_mean.specs.Facts.{element_number}
use Rattle.px_normal.specs.declared.ty.Ty.{Ty}
use Rattle.px_normal.specs.declared.ty.Ty.TheVariants as ty

-- no statement gives a value of a type that is no value's
abbrev pub code_type : Static → Ty
code_type static.Int = ty.Int
code_type static.Long = ty.Long
code_type static.Boolean = ty.Bool
code_type (static.Object class) = ty.Object class
code_type (static.Array element) = ty.Array (element_number element)
code_type static.ResultSet = ty.Rows
code_type static.Text = ty.Text
code_type static.Null = ty.Text
code_type static.Void = ty.Text
code_type static.Unknown = ty.Text

abbrev pub code_result : Static → Option Ty
code_result static.Void = None
code_result t = Some (code_type t)
