-- What the machine accepts from one symbol it accepts from another.
use Rattle.std.proofs.Common.{◌≡◌, ◌≢◌, ℕ, false, List, [], ◌∷◌, ◌++◌, Option, Some, None, refl, ap, ◌∙◌}
use Rattle.px_accept.specs.declared.role.Spelling.{Spelling}
use Rattle.px_accept.specs.declared.role.Spelling.TheVariants.{System, Out, Println}
use Rattle.px_accept.specs.declared.role.Role.{Role}
use Rattle.px_accept.specs.declared.role.Role.TheVariants.{Name, Public, Private, Integral, Boolean, If, While, For, Return, OpenBrace, CloseBrace, Open, Close, OpenBracket, CloseBracket, Semicolon, Dot}
use Rattle.px_accept.specs.declared.symbol.Position.TheVariants.{Alone, Init}
use Rattle.px_accept.specs.declared.symbol.Seen.TheVariants.{Nothing, AName, AField, AnElement}
use Rattle.px_accept.specs.declared.symbol.Symbol.{Symbol}
use Rattle.px_accept.specs.declared.symbol.Symbol.TheVariants.{Need, Identifier, ParameterType, Tables, Classes, Columns, Members, Member, Brackets, MemberRest, Parameters, MoreParameters, Body, Braced, Items, Ended, ItemName, ItemBracket, Otherwise, Returned, ForInit, ForName, ForBracket, SystemFirst, SystemDot, SystemOut, SystemOutDot, Printing, Simple, Expression, Operand, Parenthesis, Tail, ArrayTail, Making, MakingName, ArgumentList, MoreArguments}
use Rattle.px_accept.specs.declared.symbol.Symbol.TheVariants as y
use Rattle.px_accept.specs.Machine.{move_of, step, run}
use Rattle.px_accept.specs.Grammar.{begins_print}

abbrev pub Accepts : List Symbol → List Role → Type 0
Accepts st ts = let end : Option (List Symbol) = Some [] in run st ts ≡ end

pub onto : (st : List Symbol) (xs ys : List Role) → xs ≡ ys → Accepts st ys → Accepts st xs
onto st xs ys e h = ap (run st) e ∙ h

-- there is a next token
pub not_here : {A : Type 0} (s : Symbol) (st : List Symbol) → (let now : Option (List Symbol) = Some (s ∷ st) in let end : Option (List Symbol) = Some [] in now ≡ end) → A
not_here s st h = cc

pub refused : {A : Type 0} → (let now : Option (List Symbol) = None in let end : Option (List Symbol) = Some [] in now ≡ end) → A
refused h = cc

pub ended : (m : ℕ) (s : Symbol) (st : List Symbol) (zs : List Role) → Accepts (s ∷ st) zs → Accepts (Ended m ∷ s ∷ st) zs
unfolding run step move_of
ended m s st [] h = not_here s st h
ended m s st (t ∷ ts) h = h

pub as_expression : (st : List Symbol) (zs : List Role) → Accepts (Operand 1 0 ∷ st) zs → Accepts (Expression ∷ st) zs
unfolding run step move_of
as_expression st [] h = not_here _ _ h
as_expression st (t ∷ ts) h = h

pub as_argument_list : (st : List Symbol) (zs : List Role) → Accepts (Expression ∷ MoreArguments ∷ st) zs → Accepts (ArgumentList ∷ st) zs
unfolding run step move_of
as_argument_list st [] h = not_here _ _ h
as_argument_list st (Close ∷ ts) h = refused h
as_argument_list st (t ∷ ts) h = h

pub as_returned : (st : List Symbol) (zs : List Role) → Accepts (Expression ∷ Need Semicolon ∷ st) zs → Accepts (Returned ∷ st) zs
unfolding run step move_of
as_returned st [] h = not_here _ _ h
as_returned st (Semicolon ∷ ts) h = refused h
as_returned st (t ∷ ts) h = h

pub as_parenthesis : (n p : ℕ) (st : List Symbol) (zs : List Role) → Accepts (Expression ∷ Need Close ∷ Tail n p ∷ st) zs → Accepts (Parenthesis n p ∷ st) zs
unfolding run step move_of
as_parenthesis n p st [] h = not_here _ _ h
as_parenthesis n p st (Integral ∷ ts) h = refused h
as_parenthesis n p st (t ∷ ts) h = h

pub as_body : (st : List Symbol) (zs : List Role) → Accepts (Braced ∷ st) zs → Accepts (Body ∷ st) zs
unfolding run step move_of
as_body st [] h = not_here _ _ h
as_body st (OpenBrace ∷ ts) h = h
as_body st (t ∷ ts) h = refused h

pub as_members : (st : List Symbol) (zs : List Role) → Accepts (Member ∷ Members ∷ st) zs → Accepts (Members ∷ st) zs
unfolding run step move_of
as_members st [] h = not_here _ _ h
as_members st (CloseBrace ∷ ts) h = refused h
as_members st (Public ∷ ts) h = refused h
as_members st (Private ∷ ts) h = refused h
as_members st (t ∷ ts) h = h

as_item_bracket : (st : List Symbol) (zs : List Role) → Accepts (Expression ∷ Need CloseBracket ∷ Simple AnElement Alone 2 ∷ st) zs → Accepts (ItemBracket ∷ st) zs
unfolding run step move_of
as_item_bracket st [] h = not_here _ _ h
as_item_bracket st (CloseBracket ∷ ts) h = refused h
as_item_bracket st (t ∷ ts) h = h

as_for_bracket : (st : List Symbol) (zs : List Role) → Accepts (Expression ∷ Need CloseBracket ∷ Simple AnElement Init 2 ∷ st) zs → Accepts (ForBracket ∷ st) zs
unfolding run step move_of
as_for_bracket st [] h = not_here _ _ h
as_for_bracket st (CloseBracket ∷ ts) h = refused h
as_for_bracket st (t ∷ ts) h = h

-- where a statement may stand after a name
abbrev pub after_first : Spelling → Symbol
after_first System = SystemFirst
after_first s = Simple AName Alone 1

dotted : (s : Spelling) (st : List Symbol) (ts : List Role) → Accepts (after_first s ∷ st) (Dot ∷ ts) → Accepts (ItemName s ∷ st) (Dot ∷ ts)
unfolding run step move_of
dotted System st ts h = h
dotted s st ts h = h

named : {A : Type 0} (s r : Spelling) (st : List Symbol) (ts : List Role) → Accepts (after_first s ∷ st) (Name r ∷ ts) → A
unfolding run step move_of
named System r st ts h = refused h
named s r st ts h = refused h

bracketed : (s : Spelling) (st : List Symbol) (ts : List Role) → Accepts (after_first s ∷ st) (OpenBracket ∷ ts) → Accepts (ItemName s ∷ st) (OpenBracket ∷ ts)
unfolding run step move_of
bracketed System st ts h = as_item_bracket st ts h
bracketed s st ts h = as_item_bracket st ts h

as_simple : (s : Spelling) (st : List Symbol) (t : Role) (ts : List Role) → Accepts (after_first s ∷ st) (t ∷ ts) → t ≢ Dot → Accepts (Simple AName Alone 1 ∷ st) (t ∷ ts)
unfolding run step move_of
as_simple System st Dot ts h n = absurd (n refl)
as_simple System st t ts h n = h
as_simple s st t ts h n = h

as_item_name : (s : Spelling) (st : List Symbol) (zs : List Role) → Accepts (after_first s ∷ st) zs → Accepts (ItemName s ∷ st) zs
unfolding run step move_of
as_item_name s st [] h = not_here _ _ h
as_item_name s st (Name r ∷ ts) h = named s r st ts h
as_item_name s st (Dot ∷ ts) h = dotted s st ts h
as_item_name s st (OpenBracket ∷ ts) h = bracketed s st ts h
as_item_name s st (t ∷ ts) h = as_simple s st t ts h (λ e. cc)

item_named : (s : Spelling) (st : List Symbol) (ts : List Role) → Accepts (y.Statement ∷ Items ∷ st) (Name s ∷ ts) → Accepts (Items ∷ st) (Name s ∷ ts)
unfolding run step move_of
item_named System st ts h = as_item_name System (Items ∷ st) ts h
item_named s st ts h = as_item_name s (Items ∷ st) ts h

pub as_items : (st : List Symbol) (zs : List Role) → Accepts (y.Statement ∷ Items ∷ st) zs → Accepts (Items ∷ st) zs
unfolding run step move_of
as_items st [] h = not_here _ _ h
as_items st (CloseBrace ∷ ts) h = refused h
as_items st (Integral ∷ ts) h = refused h
as_items st (Boolean ∷ ts) h = refused h
as_items st (Name s ∷ ts) h = item_named s st ts h
as_items st (t ∷ ts) h = h

as_for_name : (st : List Symbol) (zs : List Role) → Accepts (Simple AName Init 1 ∷ st) zs → Accepts (ForName ∷ st) zs
unfolding run step move_of
as_for_name st [] h = not_here _ _ h
as_for_name st (Name r ∷ ts) h = refused h
as_for_name st (OpenBracket ∷ ts) h = as_for_bracket st ts h
as_for_name st (t ∷ ts) h = h

pub as_for_init : (st : List Symbol) (zs : List Role) → Accepts (Simple Nothing Init 1 ∷ st) zs → Accepts (ForInit ∷ st) zs
unfolding run step move_of
as_for_init st [] h = not_here _ _ h
as_for_init st (Integral ∷ ts) h = refused h
as_for_init st (Boolean ∷ ts) h = refused h
as_for_init st (Name s ∷ ts) h = as_for_name st ts h
as_for_init st (t ∷ ts) h = h

-- a call that is no print
as_printing : (st : List Symbol) (zs : List Role) → begins_print (Name System ∷ Dot ∷ Name Out ∷ Dot ∷ Name Println ∷ zs) ≡ false → Accepts (Simple AField Alone 3 ∷ st) zs → Accepts (Printing ∷ st) zs
unfolding run step move_of
as_printing st [] e h = not_here _ _ h
as_printing st (Open ∷ ts) e h = cc
as_printing st (t ∷ ts) e h = h

out_dotted : (s : Spelling) (st : List Symbol) (zs : List Role) → begins_print (Name System ∷ Dot ∷ Name Out ∷ Dot ∷ Name s ∷ zs) ≡ false → Accepts (Simple AField Alone 3 ∷ st) zs → Accepts (SystemOutDot ∷ st) (Name s ∷ zs)
unfolding run step move_of
out_dotted Println st zs e h = as_printing st zs e h
out_dotted s st zs e h = h

as_system_out_dot : (st : List Symbol) (zs : List Role) → begins_print (Name System ∷ Dot ∷ Name Out ∷ Dot ∷ zs) ≡ false → Accepts (Identifier ∷ Simple AField Alone 3 ∷ st) zs → Accepts (SystemOutDot ∷ st) zs
unfolding run step move_of
as_system_out_dot st [] e h = not_here _ _ h
as_system_out_dot st (Name s ∷ ts) e h = out_dotted s st ts e h
as_system_out_dot st (t ∷ ts) e h = refused h

as_system_out : (st : List Symbol) (zs : List Role) → begins_print (Name System ∷ Dot ∷ Name Out ∷ zs) ≡ false → Accepts (Simple AField Alone 2 ∷ st) zs → Accepts (SystemOut ∷ st) zs
unfolding run step move_of
as_system_out st [] e h = not_here _ _ h
as_system_out st (Dot ∷ ts) e h = as_system_out_dot st ts e h
as_system_out st (t ∷ ts) e h = h

system_dotted : (s : Spelling) (st : List Symbol) (zs : List Role) → begins_print (Name System ∷ Dot ∷ Name s ∷ zs) ≡ false → Accepts (Simple AField Alone 2 ∷ st) zs → Accepts (SystemDot ∷ st) (Name s ∷ zs)
unfolding run step move_of
system_dotted Out st zs e h = as_system_out st zs e h
system_dotted s st zs e h = h

as_system_dot : (st : List Symbol) (zs : List Role) → begins_print (Name System ∷ Dot ∷ zs) ≡ false → Accepts (Identifier ∷ Simple AField Alone 2 ∷ st) zs → Accepts (SystemDot ∷ st) zs
unfolding run step move_of
as_system_dot st [] e h = not_here _ _ h
as_system_dot st (Name s ∷ ts) e h = system_dotted s st ts e h
as_system_dot st (t ∷ ts) e h = refused h

as_system_first : (st : List Symbol) (zs : List Role) → begins_print (Name System ∷ zs) ≡ false → Accepts (Simple AName Alone 1 ∷ st) zs → Accepts (SystemFirst ∷ st) zs
unfolding run step move_of
as_system_first st [] e h = not_here _ _ h
as_system_first st (Dot ∷ ts) e h = as_system_dot st ts e h
as_system_first st (t ∷ ts) e h = h

begins_named : (s : Spelling) (st : List Symbol) (ts : List Role) → begins_print (Name s ∷ ts) ≡ false → Accepts (Simple AName Alone 1 ∷ st) ts → Accepts (y.Statement ∷ st) (Name s ∷ ts)
unfolding run step move_of
begins_named System st ts e h = as_system_first st ts e h
begins_named s st ts e h = h

pub as_statement : (st : List Symbol) (zs : List Role) → begins_print zs ≡ false → Accepts (Simple Nothing Alone 1 ∷ st) zs → Accepts (y.Statement ∷ st) zs
unfolding run step move_of
as_statement st [] e h = not_here _ _ h
as_statement st (Name s ∷ ts) e h = begins_named s st ts e h
as_statement st (OpenBrace ∷ ts) e h = refused h
as_statement st (Semicolon ∷ ts) e h = refused h
as_statement st (If ∷ ts) e h = refused h
as_statement st (While ∷ ts) e h = refused h
as_statement st (For ∷ ts) e h = refused h
as_statement st (Return ∷ ts) e h = refused h
as_statement st (t ∷ ts) e h = h

print_at : (t : Role) (xs ys : List Role) → begins_print (Name System ∷ Dot ∷ Name Out ∷ Dot ∷ Name Println ∷ t ∷ xs) ≡ begins_print (Name System ∷ Dot ∷ Name Out ∷ Dot ∷ Name Println ∷ t ∷ ys)
print_at Open xs ys = refl
print_at t xs ys = refl

-- behind a semicolon it makes no difference what follows
pub same_print : (a rest : List Role) → begins_print ((a ++ Semicolon ∷ []) ++ rest) ≡ begins_print (a ++ Semicolon ∷ [])
same_print [] rest = refl
same_print (Name System ∷ []) rest = refl
same_print (Name System ∷ Dot ∷ []) rest = refl
same_print (Name System ∷ Dot ∷ Name Out ∷ []) rest = refl
same_print (Name System ∷ Dot ∷ Name Out ∷ Dot ∷ []) rest = refl
same_print (Name System ∷ Dot ∷ Name Out ∷ Dot ∷ Name Println ∷ []) rest = refl
same_print (Name System ∷ Dot ∷ Name Out ∷ Dot ∷ Name Println ∷ t ∷ a) rest = print_at t _ _
same_print (t ∷ a) rest = refl
