-- Each move keeps what the stack stands for.
use Rattle.std.proofs.Common.{refl, ◌==◌}
use Rattle.px_accept.specs.declared.role.Role.{Role}
use Rattle.px_accept.specs.declared.symbol.Symbol.{Symbol}
use Rattle.px_accept.specs.declared.symbol.Symbol.TheVariants.{Need, Identifier, ParameterType, Tables, Classes, Columns, Members, Member, Brackets, MemberRest, Parameters, MoreParameters, Body, Braced, Items, Ended, ItemName, ItemBracket, Otherwise, Returned, ForInit, ForName, ForBracket, SystemFirst, SystemDot, SystemOut, SystemOutDot, Printing, Simple, Expression, Operand, Parenthesis, Tail, ArrayTail, Making, MakingName, ArgumentList, MoreArguments}
use Rattle.px_accept.specs.declared.symbol.Symbol.TheVariants as y
use Rattle.px_accept.specs.Codes.{role_code}
use Rattle.px_accept.specs.Machine.{move_of}
use Rattle.px_accept.proofs.Languages.{Sound}
use Rattle.px_accept.proofs.SoundExpressions.{operand_sound, expression_sound, parenthesis_sound, tail_sound, array_tail_sound, making_sound, making_name_sound, arguments_sound, more_sound, argument_list_sound}
use Rattle.px_accept.proofs.SoundSimple.{simple_sound}
use Rattle.px_accept.proofs.SoundStatements.{statement_sound, otherwise_sound, returned_sound}
use Rattle.px_accept.proofs.SoundItems.{items_sound, item_name_sound, item_bracket_sound, for_init_sound, for_name_sound, for_bracket_sound}
use Rattle.px_accept.proofs.SoundPrint.{system_first_sound, system_dot_sound, system_out_sound, system_out_dot_sound, printing_sound}
use Rattle.px_accept.proofs.SoundMembers.{need_sound, identifier_sound, parameter_type_sound, brackets_sound, member_sound, members_sound, member_rest_sound, parameters_sound, more_parameters_sound, braced_sound, body_sound}
use Rattle.px_accept.proofs.SoundPrograms.{classes_sound, columns_sound, tables_sound}

pub sound : (s : Symbol) (t : Role) → Sound (move_of s t) s t
unfolding move_of
sound (Need w) t = need_sound (role_code w == role_code t) w t refl
sound Identifier t = identifier_sound t
sound ParameterType t = parameter_type_sound t
sound Tables t = tables_sound t
sound Classes t = classes_sound t
sound Columns t = columns_sound t
sound Members t = members_sound t
sound Member t = member_sound t
sound Brackets t = brackets_sound t
sound MemberRest t = member_rest_sound t
sound Parameters t = parameters_sound t
sound MoreParameters t = more_parameters_sound t
sound Body t = body_sound t
sound Braced t = braced_sound t
sound Items t = items_sound t
sound (Ended n) t = λ zs. refl
sound (ItemName s) t = item_name_sound s t
sound ItemBracket t = item_bracket_sound t
sound y.Statement t = statement_sound t
sound Otherwise t = otherwise_sound t
sound Returned t = returned_sound t
sound ForInit t = for_init_sound t
sound ForName t = for_name_sound t
sound ForBracket t = for_bracket_sound t
sound SystemFirst t = system_first_sound t
sound SystemDot t = system_dot_sound t
sound SystemOut t = system_out_sound t
sound SystemOutDot t = system_out_dot_sound t
sound Printing t = printing_sound t
sound (Simple k q n) t = simple_sound k q n t
sound Expression t = expression_sound t
sound (Operand n p) t = operand_sound n p t
sound (Parenthesis n p) t = parenthesis_sound n p t
sound (Tail n p) t = tail_sound n p t
sound (ArrayTail n p) t = array_tail_sound n p t
sound (Making n p) t = making_sound n p t
sound (MakingName n p) t = making_name_sound n p t
sound y.Arguments t = arguments_sound t
sound ArgumentList t = argument_list_sound t
sound MoreArguments t = more_sound t
