-- The machine that tells which tokens may come next: a stack of what is still to come, its top first.
use Rattle.std.specs.Prelude.{◌≡◌, ℕ, ◌+◌, ◌==◌, nat_lt, Bool, true, false, cond, List, [], ◌∷◌, ◌++◌, Option, Some, None, option_and_then, Result, IfOk}
use Rattle.std.specs.declared.alloc.AllocError.{AllocError}
use Rattle.px_accept.specs.declared.stack.Turn.{Turn}
use Rattle.px_accept.specs.declared.stack.Turn.TheVariants.{Refused, Passed, Pushed}
use Rattle.px_accept.specs.declared.role.Role.{Role}
use Rattle.px_accept.specs.declared.symbol.Symbol.{Symbol}
use Rattle.px_accept.specs.declared.symbol.Symbol.TheVariants.{Need, Identifier, ParameterType, Tables, Classes, Columns, Members, Member, Brackets, MemberRest, Parameters, MoreParameters, Body, Braced, Items, Ended, ItemName, ItemBracket, Statement, Otherwise, Returned, ForInit, ForName, ForBracket, SystemFirst, SystemDot, SystemOut, SystemOutDot, Printing, Simple, Expression, Operand, Parenthesis, Tail, ArrayTail, Making, MakingName, Arguments, ArgumentList, MoreArguments}
use Rattle.px_accept.specs.Codes.{role_code}
use Rattle.px_accept.specs.Moves.{Move, Refuse, Pass, Push}
use Rattle.px_accept.specs.ExpressionMoves.{operand, parenthesis, tail, array_tail, making, making_name, argument_list, more_arguments, arguments}
use Rattle.px_accept.specs.SimpleMoves.{simple}
use Rattle.px_accept.specs.StatementMoves.{statement, returned, otherwise, items, item_name, item_bracket, for_init, for_name, for_bracket, system_first, system_dot, system_out, system_out_dot, printing}
use Rattle.px_accept.specs.DeclarationMoves.{identifier, parameter_type, brackets, classes, tables, columns, member, members, member_rest, parameters, more_parameters, braced, body}

abbrev pub needed : Bool → Move
needed true = Push []
needed false = Refuse

unfoldable pub move_of : Symbol → Role → Move
move_of (Need w) t = needed (role_code w == role_code t)
move_of Identifier t = identifier t
move_of ParameterType t = parameter_type t
move_of Tables t = tables t
move_of Classes t = classes t
move_of Columns t = columns t
move_of Members t = members t
move_of Member t = member t
move_of Brackets t = brackets t
move_of MemberRest t = member_rest t
move_of Parameters t = parameters t
move_of MoreParameters t = more_parameters t
move_of Body t = body t
move_of Braced t = braced t
move_of Items t = items t
move_of (Ended n) t = Pass
move_of (ItemName s) t = item_name s t
move_of ItemBracket t = item_bracket t
move_of Statement t = statement t
move_of Otherwise t = otherwise t
move_of Returned t = returned t
move_of ForInit t = for_init t
move_of ForName t = for_name t
move_of ForBracket t = for_bracket t
move_of SystemFirst t = system_first t
move_of SystemDot t = system_dot t
move_of SystemOut t = system_out t
move_of SystemOutDot t = system_out_dot t
move_of Printing t = printing t
move_of (Simple k q n) t = simple k q n t
move_of Expression t = operand 1 0 t
move_of (Operand n p) t = operand n p t
move_of (Parenthesis n p) t = parenthesis n p t
move_of (Tail n p) t = tail n p t
move_of (ArrayTail n p) t = array_tail n p t
move_of (Making n p) t = making n p t
move_of (MakingName n p) t = making_name n p t
move_of Arguments t = arguments t
move_of ArgumentList t = argument_list t
move_of MoreArguments t = more_arguments t

-- one token: symbols that may be left out are passed
unfoldable pub step : List Symbol → Role → Option (List Symbol)
step [] t = None
step (s ∷ st) t = elim (move_of s t) [ Refuse ↦ None | Pass ↦ step st t | Push xs ↦ Some (xs ++ st) ]

unfoldable pub run : List Symbol → List Role → Option (List Symbol)
run st [] = Some st
run st (t ∷ ts) = option_and_then (λ next. run next ts) (step st t)

abbrev pub start : List Symbol
start = Tables ∷ []

-- the nesting at the token that was read last
abbrev pub weight : Symbol → ℕ
weight Items = 1
weight (Ended n) = n
weight ForInit = 1
weight ForName = 1
weight ForBracket = 1
weight SystemFirst = 1
weight SystemDot = 1
weight SystemOut = 1
weight SystemOutDot = 1
weight Printing = 1
weight (Simple k q n) = n
weight (Operand n p) = n + p
weight (Parenthesis n p) = n + p
weight (Tail n p) = n + p
weight (ArrayTail n p) = n + p
weight (Making n p) = n + p
weight (MakingName n p) = n + p
weight s = 0

abbrev pub nesting : List Symbol → ℕ
nesting [] = 0
nesting (s ∷ st) = weight s + nesting st

abbrev pub max_nesting : ℕ
max_nesting = 100

-- one token, with the limit
unfoldable pub taken : List Symbol → Role → Option (List Symbol)
taken st t = elim (step st t) [ None ↦ None | Some next ↦ cond (nat_lt max_nesting (nesting next)) None (Some next) ]

abbrev pub at_end : ℕ → List Symbol → Option ℕ
at_end k [] = None
at_end k (s ∷ st) = Some k

abbrev pub on_taken : Option (List Symbol) → ℕ → (List Symbol → Option ℕ) → Option ℕ
on_taken None k go = Some k
on_taken (Some next) k go = go next

-- the place of the first token that is refused, or that stands too deep
unfoldable pub refused_from : ℕ → List Symbol → List Role → Option ℕ
refused_from k st [] = at_end k st
refused_from k st (t ∷ ts) = on_taken (taken st t) k (λ next. refused_from (k + 1) next ts)

-- what a turn of the code did, against what the top symbol does
abbrev pub Turned : Move → List Symbol → List Symbol → Result Turn AllocError → Type 0
Turned Refuse old now r = IfOk r (λ t. t ≡ Refused)
Turned Pass old now r = IfOk r (λ t. (t ≡ Passed) × (now ≡ old))
Turned (Push xs) old now r = IfOk r (λ t. (t ≡ Pushed) × (now ≡ xs ++ old))

abbrev pub Advanced : Option (List Symbol) → List Symbol → Result Bool AllocError → Type 0
Advanced None now r = IfOk r (λ b. b ≡ false)
Advanced (Some next) now r = IfOk r (λ b. (b ≡ true) × (now ≡ next))
