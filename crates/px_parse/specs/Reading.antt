-- Reading, as functions on the lexemes that are left. They are used where the text is known to be a program, so they look at no more than
-- tells them how to go on.
use Rattle.std.specs.Prelude.{◌≡◌, ℕ, zero, suc, ◌+◌, ◌&&◌, ◌||◌, Bool, not, nat_le, List, [], ◌∷◌, ◌++◌, length, drop, Option, Some, None, Result, Ok, Err, if◌then◌else◌}
use denote.Enum.Bare.{sameb}
use Rattle.px_words.specs.contracts.lexeme.Word.{the_type}
use Rattle.px_words.specs.declared.lexeme.Lexeme.{Lexeme}
use Rattle.px_words.specs.declared.lexeme.Word.{Word}
use Rattle.px_words.specs.declared.lexeme.Word.TheVariants as w
use Rattle.px_tree.specs.declared.Sign.{Sign}
use Rattle.px_tree.specs.declared.Sign.TheVariants as sign
use Rattle.px_tree.specs.declared.Access.{Access}
use Rattle.px_tree.specs.declared.Access.TheVariants.{Public, Private, Plain}
use Rattle.px_tree.specs.declared.Name.{Name as NameData}
use Rattle.px_tree.specs.declared.TypeName.{TypeName}
use Rattle.px_tree.specs.declared.Expr.{Expr}
use Rattle.px_tree.specs.declared.ExprForm.{ExprForm, ExprForm-F, out-ExprForm}
use Rattle.px_tree.specs.declared.ExprForm.TheOpen.{ExprForm-F as e}
use Rattle.px_tree.specs.declared.StmtForm.TheVariants as s
use Rattle.px_tree.specs.declared.Stmt.{Stmt}
use Rattle.px_tree.specs.declared.Param.{Param}
use Rattle.px_tree.specs.declared.Member.{Member}
use Rattle.px_tree.specs.declared.Class.{Class}
use Rattle.px_tree.specs.declared.Column.{Column}
use Rattle.px_tree.specs.declared.TableDecl.{TableDecl}
use Rattle.px_parse.specs.declared.error.ReadError.{ReadError}
use Rattle.px_parse.specs.declared.error.ReadError.TheVariants.{Unreadable, NoMemory}
use Rattle.px_parse.specs.declared.parts.Turns.{Turns}
use Rattle.px_parse.specs.declared.parts.Braces.{Braces}
use Rattle.px_parse.specs.declared.whole.Declared.{Declared}
use Rattle.px_words.specs.Lexemes.{is_name}
use Rattle.px_words.specs.Words.{binary_sign, level, prefix_sign, compound_sign, is_primitive, cast_to}
use Rattle.px_parse.specs.Trees.{first_token, single_type_of, array_type_of, expression_of, number_of, text_of, word_form, variable_of, group_of, field_of, element_of, own_call_of, call_of, object_of, array_of, prefix_of, binary_of, statement_of, block_of, empty_of, local_of, assignment_of, call_statement_of, if_of, while_of, for_of, return_of, print_of, param_of, field_declaration_of, method_with, class_of, column_of, table_of}

-- the lexemes that are left
abbrev pub State : Type 0
State = List Lexeme

abbrev pub Read : Type 0 → Type 0
Read A = Option (A × State)

abbrev pub Reads : Type 0 → Type 0
Reads A = State → Read A

abbrev pub and_then : {A B : Type 0} → Read A → (A → Reads B) → Read B
and_then (Some x) f = f x.0 x.1
and_then None f = None

infixl 10 ◌>>=◌
abbrev pub ◌>>=◌ : {A B : Type 0} → Reads A → (A → Reads B) → Reads B
p >>= f = λ s. and_then (p s) f

infixl 10 ◌>>◌
abbrev pub ◌>>◌ : {A B : Type 0} → Reads A → Reads B → Reads B
p >> q = p >>= (λ _. q)

abbrev pub pure : {A : Type 0} → A → Reads A
pure a = λ s. Some (a, s)

abbrev pub refuse : {A : Type 0} → Reads A
refuse = λ s. None

-- ---- lexemes

-- `==` on words
unfoldable pub same_word : Word → Word → Bool
same_word = sameb the_type

abbrev pub next_word : State → Word
next_word [] = w.End
next_word (x ∷ xs) = x.word

-- the word behind so many others
abbrev pub word_ahead : ℕ → State → Word
word_ahead n xs = next_word (drop n xs)

-- goes on by the word that stands next
abbrev pub by_word : {A : Type 0} → (Word → Reads A) → Reads A
by_word f = λ s. f (next_word s) s

abbrev pub by_test : {A : Type 0} → (State → Bool) → Reads A → Reads A → Reads A
by_test test one other = λ s. if test s then one s else other s

unfoldable pub take : Reads Lexeme
take [] = None
take (x ∷ xs) = Some (x, xs)

unfoldable pub expect : Word → Reads Lexeme
expect word [] = None
expect word (x ∷ xs) = if same_word x.word word then Some (x, xs) else None

abbrev pub sees : Word → State → Bool
sees word = λ xs. same_word (next_word xs) word

abbrev pub sees_no : Word → State → Bool
sees_no word = λ xs. not (sees word xs)

-- a word behind a value
abbrev pub ended : {A : Type 0} → Word → A → Reads A
ended word x = do
  expect word
  pure x

-- ---- lists

-- one after the other while the test holds, in at most n turns
unfoldable pub repeated : {A : Type 0} → (State → Bool) → Reads A → ℕ → List A → Reads (List A)
repeated goes_on one zero found = pure found
repeated goes_on one (suc n) found = by_test goes_on (one >>= (λ x. repeated goes_on one n (found ++ x ∷ []))) (pure found)

-- behind those that were found; each turn takes a lexeme
abbrev pub all_while : {A : Type 0} → (State → Bool) → Reads A → List A → Reads (List A)
all_while goes_on one found = λ s. repeated goes_on one (length s) found s

-- ---- types

unfoldable pub array_type : List ℕ → Lexeme → Reads TypeName
array_type source x = do
  take
  expect w.CloseBracket
  pure (array_type_of source x)

unfoldable pub type_name : List ℕ → Reads TypeName
type_name source = do
  x ← take
  by_test (sees w.OpenBracket) (array_type source x) (pure (single_type_of source x))

-- ---- expressions. `inner` reads a whole expression that begins later; a number bounds the turns of a loop.

-- a comma and an expression
unfoldable pub next_argument : Reads Expr → Reads Expr
next_argument inner = do
  take
  inner

unfoldable pub some_arguments : Reads Expr → Reads (List Expr)
some_arguments inner = do
  e ← inner
  all_while (sees w.Comma) (next_argument inner) (e ∷ [])

unfoldable pub arguments : Reads Expr → Reads (List Expr)
arguments inner = do
  take
  es ← by_test (sees w.Close) (pure []) (some_arguments inner)
  expect w.Close
  pure es

unfoldable pub group : Reads Expr → Reads Expr
group inner = do
  opening ← take
  e ← inner
  expect w.Close
  pure (group_of opening e)

unfoldable pub own_call : List ℕ → Reads Expr → Lexeme → Reads Expr
own_call source inner x = do
  args ← arguments inner
  pure (own_call_of source x args)

unfoldable pub named : List ℕ → Reads Expr → Reads Expr
named source inner = do
  x ← take
  by_test (sees w.Open) (own_call source inner x) (pure (variable_of source x))

unfoldable pub new_object : List ℕ → Lexeme → Lexeme → Reads Expr
new_object source new name = do
  take
  expect w.Close
  pure (object_of source new name)

unfoldable pub new_array : List ℕ → Reads Expr → Lexeme → Lexeme → Reads Expr
new_array source inner new base = do
  expect w.OpenBracket
  size ← inner
  expect w.CloseBracket
  pure (array_of source new base size)

unfoldable pub made : List ℕ → Reads Expr → Reads Expr
made source inner = do
  new ← take
  x ← take
  by_test (sees w.Open) (new_object source new x) (new_array source inner new x)

-- a literal that is a word, `this`, or a name
unfoldable pub worded : List ℕ → Reads Expr → Option ExprForm → Reads Expr
worded source inner (Some form) = do
  x ← take
  pure (expression_of x.token form)
worded source inner None = named source inner

unfoldable pub primary_on : List ℕ → Reads Expr → Word → Reads Expr
primary_on source inner w.Number = do
  x ← take
  pure (number_of source x)
primary_on source inner w.Text = do
  x ← take
  pure (text_of source x)
primary_on source inner w.Open = group inner
primary_on source inner w.New = made source inner
primary_on source inner word = worded source inner (word_form word)

abbrev pub primary : List ℕ → Reads Expr → Reads Expr
primary source inner = by_word (primary_on source inner)

unfoldable pub member_call : List ℕ → Reads Expr → Expr → Lexeme → Reads Expr
member_call source inner of name = do
  args ← arguments inner
  pure (call_of source of name args)

unfoldable pub member : List ℕ → Reads Expr → Expr → Reads Expr
member source inner of = do
  take
  name ← take
  by_test (sees w.Open) (member_call source inner of name) (pure (field_of source of name))

unfoldable pub element : Reads Expr → Expr → Reads Expr
element inner of = do
  take
  index ← inner
  expect w.CloseBracket
  pure (element_of of index)

abbrev pub postfix_on : List ℕ → Reads Expr → (Expr → Reads Expr) → Expr → Word → Reads Expr
postfix_on source inner more of w.Dot = member source inner of >>= more
postfix_on source inner more of w.OpenBracket = element inner of >>= more
postfix_on source inner more of _ = pure of

-- what follows a primary expression
unfoldable pub postfixes : List ℕ → Reads Expr → ℕ → Expr → Reads Expr
postfixes source inner zero of = refuse
postfixes source inner (suc n) of = by_word (postfix_on source inner (postfixes source inner n) of)

unfoldable pub postfix : List ℕ → Reads Expr → ℕ → Reads Expr
postfix source inner n = primary source inner >>= postfixes source inner n

-- an opening parenthesis and a type of numbers
abbrev pub is_cast : State → Bool
is_cast xs = same_word (next_word xs) w.Open && (same_word (word_ahead 1 xs) w.Int || same_word (word_ahead 1 xs) w.Long)

unfoldable pub cast : Reads Expr → Reads Expr
cast operand = do
  opening ← take
  x ← take
  expect w.Close
  e ← operand
  pure (prefix_of (cast_to x.word) opening e)

unfoldable pub prefixed : Sign → Reads Expr → Reads Expr
prefixed op operand = do
  x ← take
  e ← operand
  pure (prefix_of op x e)

-- behind a prefix, or without one
abbrev pub operand_on : Option Sign → Reads Expr → Reads Expr → Reads Expr
operand_on (Some op) again without = prefixed op again
operand_on None again without = by_test is_cast (cast again) without

unfoldable pub operand : List ℕ → Reads Expr → ℕ → Reads Expr
operand source inner zero = refuse
operand source inner (suc n) = by_word (λ word. operand_on (prefix_sign word) (operand source inner n) (postfix source inner (suc n)))

-- an operator with its right side, and what follows
unfoldable pub operated : Reads Expr → (ℕ → Expr → Reads Expr) → ℕ → Expr → Sign → Reads Expr
operated right more least left op = do
  at ← take
  first ← right
  whole ← more (level op + 1) first
  more least (binary_of op at left whole)

abbrev pub operator_on : Reads Expr → (ℕ → Expr → Reads Expr) → ℕ → Expr → Option Sign → Reads Expr
operator_on right more least left None = pure left
operator_on right more least left (Some op) = by_test (λ _. nat_le least (level op)) (operated right more least left op) (pure left)

-- Operators that bind at least as tightly as `least`, and their right sides, behind a left side.
unfoldable pub operators : List ℕ → Reads Expr → ℕ → ℕ → Expr → Reads Expr
operators source inner zero least left = refuse
operators source inner (suc n) least left = by_word (λ word. operator_on (operand source inner n) (operators source inner n) least left (binary_sign word))

unfoldable pub joined : List ℕ → Reads Expr → ℕ → Reads Expr
joined source inner n = operand source inner n >>= operators source inner n 1

unfoldable pub expression : List ℕ → ℕ → Reads Expr
expression source zero = refuse
expression source (suc n) = λ s. joined source (expression source n) (suc (length s)) s

-- with turns enough
abbrev pub value : List ℕ → Reads Expr
value source = λ s. expression source (suc (length s)) s

-- ---- simple statements

unfoldable pub assigned : List ℕ → Expr → Reads Stmt
assigned source place = do
  take
  e ← value source
  pure (assignment_of place e)

-- the name that a name alone is
abbrev pub bare_name : ExprForm-F ExprForm Expr → Option NameData
bare_name (e.Name name) = Some name
bare_name _ = None

unfoldable pub compounded : List ℕ → Expr → NameData → Sign → Reads Stmt
compounded source place name op = do
  take
  e ← value source
  pure (statement_of place.token (s.Compound name op e))

unfoldable pub stepped : Expr → (NameData → Stmt) → Option NameData → Reads Stmt
stepped place step_of None = refuse
stepped place step_of (Some name) = do
  take
  pure (step_of name)

abbrev pub compound_on : List ℕ → Expr → Option NameData → Option Sign → Reads Stmt
compound_on source place (Some name) (Some op) = compounded source place name op
compound_on source place name None = pure (call_statement_of place)
compound_on source place None (Some op) = refuse

-- behind a postfix
unfoldable pub simple_on : List ℕ → Expr → Word → Reads Stmt
simple_on source place w.Assign = assigned source place
simple_on source place w.Increment = stepped place (λ name. statement_of place.token (s.Up name)) (bare_name (out-ExprForm place.form))
simple_on source place w.Decrement = stepped place (λ name. statement_of place.token (s.Down name)) (bare_name (out-ExprForm place.form))
simple_on source place word = compound_on source place (bare_name (out-ExprForm place.form)) (compound_sign word)

-- a postfix, with turns enough
abbrev pub place : List ℕ → Reads Expr
place source = λ s. postfix source (expression source (suc (length s))) (suc (length s)) s

unfoldable pub simple : List ℕ → Reads Stmt
simple source = do
  e ← place source
  by_word (simple_on source e)

-- a type and a name behind it
abbrev pub is_local : State → Bool
is_local xs = is_primitive (next_word xs) || (is_name (next_word xs) && (is_name (word_ahead 1 xs) || (same_word (word_ahead 1 xs) w.OpenBracket && same_word (word_ahead 2 xs) w.CloseBracket)))

unfoldable pub local : List ℕ → Reads Stmt
local source = do
  ty ← type_name source
  name ← take
  expect w.Assign
  e ← value source
  pure (local_of source ty name e)

abbrev pub first : List ℕ → Reads Stmt
first source = by_test is_local (local source) (simple source)

-- ---- statements. `inner` reads a statement that begins later.

unfoldable pub ended_by_semicolon : Reads Stmt → Reads Stmt
ended_by_semicolon one = do
  s ← one
  expect w.Semicolon
  pure s

unfoldable pub item : List ℕ → Reads Stmt → Reads Stmt
item source inner = by_test is_local (ended_by_semicolon (local source)) inner

unfoldable pub block : List ℕ → Reads Stmt → Reads Braces
block source inner = do
  opening ← expect w.OpenBrace
  items ← all_while (sees_no w.CloseBrace) (item source inner) []
  closing ← expect w.CloseBrace
  pure (record { opening = opening; items = items; to = closing.token })

-- an expression in parentheses, behind a keyword
unfoldable pub condition : List ℕ → Reads Expr
condition source = do
  expect w.Open
  e ← value source
  expect w.Close
  pure e

unfoldable pub otherwise : Reads Stmt → Lexeme → Expr → Stmt → Reads Stmt
otherwise inner x test then_part = do
  take
  else_part ← inner
  pure (if_of x test then_part (Some else_part))

unfoldable pub conditional : List ℕ → Reads Stmt → Reads Stmt
conditional source inner = do
  x ← take
  test ← condition source
  then_part ← inner
  by_test (sees w.Else) (otherwise inner x test then_part) (pure (if_of x test then_part None))

unfoldable pub while_loop : List ℕ → Reads Stmt → Reads Stmt
while_loop source inner = do
  x ← take
  test ← condition source
  body ← inner
  pure (while_of x test body)

-- the three parts of a `for`, each with the sign behind it
unfoldable pub first_part : List ℕ → Reads Stmt
first_part source = do
  expect w.Open
  begin ← first source
  expect w.Semicolon
  pure begin

unfoldable pub test_part : List ℕ → Reads Expr
test_part source = do
  test ← value source
  expect w.Semicolon
  pure test

unfoldable pub last_part : List ℕ → Reads Stmt
last_part source = do
  last ← simple source
  expect w.Close
  pure last

unfoldable pub for_parts : List ℕ → Reads Turns
for_parts source = do
  begin ← first_part source
  test ← test_part source
  last ← last_part source
  pure (record { first = begin; test = test; last = last })

unfoldable pub for_loop : List ℕ → Reads Stmt → Reads Stmt
for_loop source inner = do
  x ← take
  parts ← for_parts source
  body ← inner
  pure (for_of x parts.first parts.test parts.last body)

unfoldable pub return_value : List ℕ → Lexeme → Reads Stmt
return_value source x = do
  e ← value source
  expect w.Semicolon
  pure (return_of x (Some e))

unfoldable pub return_nothing : Lexeme → Reads Stmt
return_nothing x = do
  take
  pure (return_of x None)

unfoldable pub returned : List ℕ → Reads Stmt
returned source = do
  x ← take
  by_test (sees w.Semicolon) (return_nothing x) (return_value source x)

-- `System . out . println (`
abbrev pub is_print : State → Bool
is_print xs = same_word (next_word xs) w.System && (same_word (word_ahead 1 xs) w.Dot && (same_word (word_ahead 2 xs) w.Out && (same_word (word_ahead 3 xs) w.Dot && (same_word (word_ahead 4 xs) w.Println && same_word (word_ahead 5 xs) w.Open))))

unfoldable pub print : List ℕ → Reads Stmt
print source = do
  system ← take
  take
  take
  take
  take
  take
  e ← value source
  expect w.Close
  expect w.Semicolon
  pure (print_of system e)

unfoldable pub empty : Reads Stmt
empty = do
  semicolon ← take
  pure (empty_of semicolon)

unfoldable pub braced : List ℕ → Reads Stmt → Reads Stmt
braced source inner = do
  b ← block source inner
  pure (block_of b.opening b.items)

unfoldable pub statement_on : List ℕ → Reads Stmt → Word → Reads Stmt
statement_on source inner w.OpenBrace = braced source inner
statement_on source inner w.Semicolon = empty
statement_on source inner w.If = conditional source inner
statement_on source inner w.While = while_loop source inner
statement_on source inner w.For = for_loop source inner
statement_on source inner w.Return = returned source
statement_on source inner word = by_test is_print (print source) (ended_by_semicolon (simple source))

unfoldable pub statement : List ℕ → ℕ → Reads Stmt
statement source zero = refuse
statement source (suc n) = by_word (statement_on source (statement source n))

-- with turns enough
abbrev pub body : List ℕ → Reads Braces
body source = λ s. block source (statement source (suc (length s))) s

-- ---- members

unfoldable pub access_on : Word → Reads Access
access_on w.Public = do
  take
  pure Public
access_on w.Private = do
  take
  pure Private
access_on _ = pure Plain

unfoldable pub no_result : Reads (Option TypeName)
no_result = do
  take
  pure None

unfoldable pub some_result : List ℕ → Reads (Option TypeName)
some_result source = do
  ty ← type_name source
  pure (Some ty)

unfoldable pub result : List ℕ → Reads (Option TypeName)
result source = by_test (sees w.Void) no_result (some_result source)

unfoldable pub param : List ℕ → Reads Param
param source = do
  ty ← type_name source
  name ← take
  pure (param_of source ty name)

-- a comma and a parameter
unfoldable pub next_param : List ℕ → Reads Param
next_param source = do
  take
  param source

unfoldable pub some_params : List ℕ → Reads (List Param)
some_params source = do
  x ← param source
  all_while (sees w.Comma) (next_param source) (x ∷ [])

unfoldable pub params : List ℕ → Reads (List Param)
params source = by_test (sees w.Close) (pure []) (some_params source)

unfoldable pub skip_two : Reads (Unit {0})
skip_two = do
  take
  take
  pure tt

unfoldable pub throws : Reads (Unit {0})
throws = by_test (sees w.Throws) skip_two (pure tt)

-- the parameters, with what stands round them
unfoldable pub signature : List ℕ → Reads (List Param)
signature source = do
  expect w.Open
  ps ← params source
  expect w.Close
  throws
  pure ps

unfoldable pub method : List ℕ → ℕ → Access → Option TypeName → Lexeme → Reads Member
method source from access gives name = do
  ps ← signature source
  b ← body source
  pure (method_with source from access gives name ps (block_of b.opening b.items) b.to)

unfoldable pub field : List ℕ → Access → TypeName → Lexeme → Reads Member
field source access ty name = do
  take
  pure (field_declaration_of source access ty name)

-- behind the name of a member
abbrev pub member_on : List ℕ → ℕ → Access → Option TypeName → Lexeme → Reads Member
member_on source from access (Some ty) name = by_test (sees w.Semicolon) (field source access ty name) (method source from access (Some ty) name)
member_on source from access None name = method source from access None name

unfoldable pub member_from : List ℕ → ℕ → Reads Member
member_from source from = do
  access ← by_word access_on
  gives ← result source
  name ← take
  member_on source from access gives name

abbrev pub a_member : List ℕ → Reads Member
a_member source = λ s. member_from source (first_token s) s

-- ---- classes and tables

unfoldable pub skip : Reads (Unit {0})
skip = do
  take
  pure tt

unfoldable pub class : List ℕ → Reads Class
class source = do
  by_test (sees w.Public) skip (pure tt)
  expect w.Class
  name ← take
  expect w.OpenBrace
  members ← all_while (sees_no w.CloseBrace) (a_member source) []
  expect w.CloseBrace
  pure (class_of source name members)

unfoldable pub column : List ℕ → Reads Column
column source = do
  name ← take
  ty ← take
  pure (column_of source name ty)

-- a comma and a column
unfoldable pub next_column : List ℕ → Reads Column
next_column source = do
  take
  column source

unfoldable pub table : List ℕ → Reads TableDecl
table source = do
  expect w.Create
  expect w.Table
  name ← take
  expect w.Open
  c ← column source
  columns ← all_while (sees w.Comma) (next_column source) (c ∷ [])
  expect w.Close
  expect w.Semicolon
  pure (table_of source name columns)

-- ---- programs

-- tables, classes, and the end behind them
unfoldable pub program : List ℕ → Reads Declared
program source = do
  tables ← all_while (sees w.Create) (table source) []
  classes ← all_while (sees_no w.End) (class source) []
  expect w.End
  pure (record { tables = tables; classes = classes })

-- ---- What a function that reads ensures: it gave what reading gives, unless memory ran out.

abbrev pub Fails : {A : Type 0} → ReadError → Option A → Type 0
Fails NoMemory read = Unit {0}
Fails Unreadable read = read ≡ None

abbrev pub Gives : {A : Type 0} → Read A → Result A ReadError → State → Type 0
Gives read (Ok x) now = read ≡ Some (x, now)
Gives read (Err e) now = Fails e read

-- All lexemes are read. Where they aren't, they are no program.
abbrev pub Finds : Read Declared → Result Declared ReadError → Type 0
Finds read (Ok d) = read ≡ Some (d, [])
Finds read (Err NoMemory) = Unit {0}
Finds read (Err Unreadable) = (d : Declared) → read ≡ Some (d, []) → ⊥
