-- Each symbol can be ended.
use Rattle.std.proofs.Common.{◌≡◌, ℕ, List, [], ◌∷◌, refl, sym, subst, inl, ◌+◌}
use Rattle.px_accept.specs.declared.role.Spelling.{Spelling}
use Rattle.px_accept.specs.declared.role.Spelling.TheVariants.{Plain}
use Rattle.px_accept.specs.declared.role.Role.{Role}
use Rattle.px_accept.specs.declared.role.Role.TheVariants.{Name, Class, Integral, Value, OpenBrace, CloseBrace, Open, Close, OpenBracket, CloseBracket, Semicolon, Dot, Assign, Step, Void, End}
use Rattle.px_accept.specs.declared.symbol.Position.{Position}
use Rattle.px_accept.specs.declared.symbol.Position.TheVariants.{Alone, Init, Update}
use Rattle.px_accept.specs.declared.symbol.Seen.{Seen}
use Rattle.px_accept.specs.declared.symbol.Seen.TheVariants as k
use Rattle.px_accept.specs.declared.symbol.Symbol.{Symbol}
use Rattle.px_accept.specs.declared.symbol.Symbol.TheVariants as y
use Rattle.px_accept.specs.Moves.{Move, Refuse, Pass, Push}
use Rattle.px_accept.specs.Machine.{move_of}
use Rattle.px_accept.proofs.Languages.{Chain, Lang, Sound, link}
use Rattle.px_accept.proofs.SoundExpressions.{tail_ends, array_ends}
use Rattle.px_accept.proofs.Sound.{sound}

pub record Ends (s : Symbol) (r : List Role) : Type 0 where
  pub roles : List Role
  pub ends : Lang s roles r

pub record EndsAll (xs : List Symbol) (r : List Role) : Type 0 where
  pub roles : List Role
  pub ends : Chain xs roles r

abbrev Fin : Symbol → Type 0
Fin s = (r : List Role) → Ends s r

none : (r : List Role) → EndsAll [] r
none r = record { roles = r; ends = refl }

infixr 10 ◌>>◌
◌>>◌ : {s : Symbol} {xs : List Symbol} → ((r : List Role) → Ends s r) → ((r : List Role) → EndsAll xs r) → (r : List Role) → EndsAll (s ∷ xs) r
(e >> f) r = let b = f r in let a = e b.roles in record { roles = a.roles; ends = (b.roles, a.ends, b.ends) }

by : (s : Symbol) (t : Role) (xs : List Symbol) → move_of s t ≡ Push xs → ((r : List Role) → EndsAll xs r) → Fin s
by s t xs e f r = record { roles = t ∷ (f r).roles; ends = go (move_of s t) e (sound s t) }
  where
    go : (m : Move) → m ≡ Push xs → Sound m s t → Lang s (t ∷ (f r).roles) r
    go Refuse e h = cc
    go Pass e h = cc
    go (Push us) e h = let g : us ≡ xs = cc in h (f r).roles r (link us (f r).roles r (subst (λ (ws : List Symbol). Chain ws (f r).roles r) (sym g) (f r).ends))

need : (w : Role) → Fin (y.Need w)
need w r = record { roles = w ∷ r; ends = refl }

name : Fin y.Identifier
name r = record { roles = Name Plain ∷ r; ends = (Plain, refl) }

ended : (n : ℕ) → Fin (y.Ended n)
ended n r = record { roles = r; ends = refl }

tail : (n p : ℕ) → Fin (y.Tail n p)
tail n p r = record { roles = r; ends = tail_ends n p r }

array_tail : (n p : ℕ) → Fin (y.ArrayTail n p)
array_tail n p r = record { roles = r; ends = array_ends n p r }

brackets : Fin y.Brackets
brackets r = record { roles = r; ends = inl refl }

otherwise : Fin y.Otherwise
otherwise r = record { roles = r; ends = inl refl }

arguments : Fin y.Arguments
arguments r = record { roles = r; ends = inl refl }

expression : Fin (y.Expression)
unfolding move_of
expression = by (y.Expression) (Value) (y.Tail 1 0 ∷ []) refl (tail 1 0 >> none)

operand : (n : ℕ) → (p : ℕ) → Fin (y.Operand n p)
unfolding move_of
operand n p = by (y.Operand n p) (Value) (y.Tail n p ∷ []) refl (tail n p >> none)

parenthesis : (n : ℕ) → (p : ℕ) → Fin (y.Parenthesis n p)
unfolding move_of
parenthesis n p = by (y.Parenthesis n p) (Integral) (y.Need Close ∷ y.Operand n (p + 1) ∷ []) refl (need Close >> operand n (p + 1) >> none)

making : (n : ℕ) → (p : ℕ) → Fin (y.Making n p)
unfolding move_of
making n p = by (y.Making n p) (Integral) (y.Need OpenBracket ∷ y.Expression ∷ y.Need CloseBracket ∷ y.ArrayTail n p ∷ []) refl (need OpenBracket >> expression >> need CloseBracket >> array_tail n p >> none)

making_name : (n : ℕ) → (p : ℕ) → Fin (y.MakingName n p)
unfolding move_of
making_name n p = by (y.MakingName n p) (Open) (y.Need Close ∷ y.Tail n p ∷ []) refl (need Close >> tail n p >> none)

argument_list : Fin (y.ArgumentList)
unfolding move_of
argument_list = by (y.ArgumentList) (Close) ([]) refl (none)

more_arguments : Fin (y.MoreArguments)
unfolding move_of
more_arguments = by (y.MoreArguments) (Close) ([]) refl (none)

statement : Fin (y.Statement)
unfolding move_of
statement = by (y.Statement) (Semicolon) (y.Ended 1 ∷ []) refl (ended 1 >> none)

value_whole : (n : ℕ) → Fin (y.Simple k.AValue Alone n)
unfolding move_of
value_whole n = by (y.Simple k.AValue Alone n) (Semicolon) (y.Ended n ∷ []) refl (ended n >> none)

value_last : (n : ℕ) → Fin (y.Simple k.AValue Update n)
unfolding move_of
value_last n = by (y.Simple k.AValue Update n) (Close) (y.Statement ∷ y.Ended n ∷ []) refl (statement >> ended n >> none)

name_last : (n : ℕ) → Fin (y.Simple k.AName Update n)
unfolding move_of
name_last n = by (y.Simple k.AName Update n) (Step) (y.Simple k.AValue Update n ∷ []) refl (value_last n >> none)

nothing_last : (n : ℕ) → Fin (y.Simple k.Nothing Update n)
unfolding move_of
nothing_last n = by (y.Simple k.Nothing Update n) (Name Plain) (y.Simple k.AName Update n ∷ []) refl (name_last n >> none)

value_first : (n : ℕ) → Fin (y.Simple k.AValue Init n)
unfolding move_of
value_first n = by (y.Simple k.AValue Init n) (Semicolon) (y.Expression ∷ y.Need Semicolon ∷ y.Simple k.Nothing Update n ∷ []) refl (expression >> need Semicolon >> nothing_last n >> none)

value : (q : Position) (n : ℕ) → Fin (y.Simple k.AValue q n)
value Alone n = value_whole n
value Init n = value_first n
value Update n = value_last n

one_name : (q : Position) → (n : ℕ) → Fin (y.Simple k.AName q n)
unfolding move_of
one_name q n = by (y.Simple k.AName q n) (Step) (y.Simple k.AValue q n ∷ []) refl (value q n >> none)

nothing : (q : Position) → (n : ℕ) → Fin (y.Simple k.Nothing q n)
unfolding move_of
nothing q n = by (y.Simple k.Nothing q n) (Name Plain) (y.Simple k.AName q n ∷ []) refl (one_name q n >> none)

field : (q : Position) → (n : ℕ) → Fin (y.Simple k.AField q n)
unfolding move_of
field q n = by (y.Simple k.AField q n) (Assign) (y.Expression ∷ y.Simple k.AValue q n ∷ []) refl (expression >> value q n >> none)

element : (q : Position) → (n : ℕ) → Fin (y.Simple k.AnElement q n)
unfolding move_of
element q n = by (y.Simple k.AnElement q n) (Assign) (y.Expression ∷ y.Simple k.AValue q n ∷ []) refl (expression >> value q n >> none)

primary : (q : Position) → (n : ℕ) → Fin (y.Simple k.APrimary q n)
unfolding move_of
primary q n = by (y.Simple k.APrimary q n) (Dot) (y.Identifier ∷ y.Simple k.AField q (n + 1) ∷ []) refl (name >> field q (n + 1) >> none)

an_array : (q : Position) → (n : ℕ) → Fin (y.Simple k.AnArray q n)
unfolding move_of
an_array q n = by (y.Simple k.AnArray q n) (Dot) (y.Identifier ∷ y.Simple k.AField q (n + 1) ∷ []) refl (name >> field q (n + 1) >> none)

a_call : (q : Position) → (n : ℕ) → Fin (y.Simple k.ACall q n)
unfolding move_of
a_call q n = by (y.Simple k.ACall q n) (Dot) (y.Identifier ∷ y.Simple k.AField q (n + 1) ∷ []) refl (name >> field q (n + 1) >> none)

after_new_name : (q : Position) → (n : ℕ) → Fin (y.Simple k.AfterNewName q n)
unfolding move_of
after_new_name q n = by (y.Simple k.AfterNewName q n) (Open) (y.Need Close ∷ y.Simple k.APrimary q n ∷ []) refl (need Close >> primary q n >> none)

after_new : (q : Position) → (n : ℕ) → Fin (y.Simple k.AfterNew q n)
unfolding move_of
after_new q n = by (y.Simple k.AfterNew q n) (Name Plain) (y.Simple k.AfterNewName q n ∷ []) refl (after_new_name q n >> none)

simple : (s : Seen) (q : Position) (n : ℕ) → Fin (y.Simple s q n)
simple k.Nothing q n = nothing q n
simple k.AfterNew q n = after_new q n
simple k.AfterNewName q n = after_new_name q n
simple k.AnArray q n = an_array q n
simple k.APrimary q n = primary q n
simple k.AName q n = one_name q n
simple k.AField q n = field q n
simple k.AnElement q n = element q n
simple k.ACall q n = a_call q n
simple k.AValue q n = value q n

items : Fin (y.Items)
unfolding move_of
items = by (y.Items) (CloseBrace) (y.Ended 1 ∷ []) refl (ended 1 >> none)

item_name : (s : Spelling) → Fin (y.ItemName s)
unfolding move_of
item_name s = by (y.ItemName s) (Name Plain) (y.Need Assign ∷ y.Expression ∷ y.Need Semicolon ∷ []) refl (need Assign >> expression >> need Semicolon >> none)

item_bracket : Fin (y.ItemBracket)
unfolding move_of
item_bracket = by (y.ItemBracket) (CloseBracket) (y.Identifier ∷ y.Need Assign ∷ y.Expression ∷ y.Need Semicolon ∷ []) refl (name >> need Assign >> expression >> need Semicolon >> none)

returned : Fin (y.Returned)
unfolding move_of
returned = by (y.Returned) (Semicolon) ([]) refl (none)

for_name : Fin (y.ForName)
unfolding move_of
for_name = by (y.ForName) (Name Plain) (y.Need Assign ∷ y.Expression ∷ y.Need Semicolon ∷ y.Expression ∷ y.Need Semicolon ∷ y.Simple k.Nothing Update 1 ∷ []) refl (need Assign >> expression >> need Semicolon >> expression >> need Semicolon >> nothing_last 1 >> none)

for_init : Fin (y.ForInit)
unfolding move_of
for_init = by (y.ForInit) (Name Plain) (y.ForName ∷ []) refl (for_name >> none)

for_bracket : Fin (y.ForBracket)
unfolding move_of
for_bracket = by (y.ForBracket) (CloseBracket) (y.Identifier ∷ y.Need Assign ∷ y.Expression ∷ y.Need Semicolon ∷ y.Expression ∷ y.Need Semicolon ∷ y.Simple k.Nothing Update 1 ∷ []) refl (name >> need Assign >> expression >> need Semicolon >> expression >> need Semicolon >> nothing_last 1 >> none)

system_first : Fin (y.SystemFirst)
unfolding move_of
system_first = by (y.SystemFirst) (Step) (y.Simple k.AValue Alone 1 ∷ []) refl (value_whole 1 >> none)

system_dot : Fin (y.SystemDot)
unfolding move_of
system_dot = by (y.SystemDot) (Name Plain) (y.Simple k.AField Alone 2 ∷ []) refl (field Alone 2 >> none)

system_out : Fin (y.SystemOut)
unfolding move_of
system_out = by (y.SystemOut) (Assign) (y.Expression ∷ y.Simple k.AValue Alone 2 ∷ []) refl (expression >> value_whole 2 >> none)

system_out_dot : Fin (y.SystemOutDot)
unfolding move_of
system_out_dot = by (y.SystemOutDot) (Name Plain) (y.Simple k.AField Alone 3 ∷ []) refl (field Alone 3 >> none)

printing : Fin (y.Printing)
unfolding move_of
printing = by (y.Printing) (Assign) (y.Expression ∷ y.Simple k.AValue Alone 3 ∷ []) refl (expression >> value_whole 3 >> none)

parameter_type : Fin (y.ParameterType)
unfolding move_of
parameter_type = by (y.ParameterType) (Integral) (y.Brackets ∷ []) refl (brackets >> none)

members : Fin (y.Members)
unfolding move_of
members = by (y.Members) (CloseBrace) ([]) refl (none)

classes : Fin (y.Classes)
unfolding move_of
classes = by (y.Classes) (End) ([]) refl (none)

tables : Fin (y.Tables)
unfolding move_of
tables = by (y.Tables) (Class) (y.Identifier ∷ y.Need OpenBrace ∷ y.Members ∷ y.Classes ∷ []) refl (name >> need OpenBrace >> members >> classes >> none)

columns : Fin (y.Columns)
unfolding move_of
columns = by (y.Columns) (Close) (y.Need Semicolon ∷ []) refl (need Semicolon >> none)

body : Fin (y.Body)
unfolding move_of
body = by (y.Body) (OpenBrace) (y.Items ∷ []) refl (items >> none)

braced : Fin (y.Braced)
unfolding move_of
braced = by (y.Braced) (OpenBrace) (y.Items ∷ []) refl (items >> none)

parameters : Fin (y.Parameters)
unfolding move_of
parameters = by (y.Parameters) (Close) (y.Body ∷ []) refl (body >> none)

more_parameters : Fin (y.MoreParameters)
unfolding move_of
more_parameters = by (y.MoreParameters) (Close) (y.Body ∷ []) refl (body >> none)

member : Fin (y.Member)
unfolding move_of
member = by (y.Member) (Void) (y.Identifier ∷ y.Need Open ∷ y.Parameters ∷ []) refl (name >> need Open >> parameters >> none)

member_rest : Fin (y.MemberRest)
unfolding move_of
member_rest = by (y.MemberRest) (Semicolon) ([]) refl (none)

fin : (s : Symbol) → Fin s
fin (y.Need w) = need w
fin y.Identifier = name
fin y.ParameterType = parameter_type
fin y.Tables = tables
fin y.Classes = classes
fin y.Columns = columns
fin y.Members = members
fin y.Member = member
fin y.Brackets = brackets
fin y.MemberRest = member_rest
fin y.Parameters = parameters
fin y.MoreParameters = more_parameters
fin y.Body = body
fin y.Braced = braced
fin y.Items = items
fin (y.Ended n) = ended n
fin (y.ItemName s) = item_name s
fin y.ItemBracket = item_bracket
fin y.Statement = statement
fin y.Otherwise = otherwise
fin y.Returned = returned
fin y.ForInit = for_init
fin y.ForName = for_name
fin y.ForBracket = for_bracket
fin y.SystemFirst = system_first
fin y.SystemDot = system_dot
fin y.SystemOut = system_out
fin y.SystemOutDot = system_out_dot
fin y.Printing = printing
fin (y.Simple s q n) = simple s q n
fin y.Expression = expression
fin (y.Operand n p) = operand n p
fin (y.Parenthesis n p) = parenthesis n p
fin (y.Tail n p) = tail n p
fin (y.ArrayTail n p) = array_tail n p
fin (y.Making n p) = making n p
fin (y.MakingName n p) = making_name n p
fin y.Arguments = arguments
fin y.ArgumentList = argument_list
fin y.MoreArguments = more_arguments

pub all_end : (st : List Symbol) (r : List Role) → EndsAll st r
all_end [] r = none r
all_end (s ∷ st) r = (fin s >> all_end st) r
