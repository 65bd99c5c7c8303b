-- What the role of a word tells of the word.
use Rattle.std.proofs.Common.{◌≡◌, ◌⊎◌, inl, inr, Bool, true, false, List, [], ◌∷◌, Option, Some, None, is_some, refl, sym, ap, subst}
use Rattle.px_words.specs.declared.lexeme.Lexeme.{Lexeme}
use Rattle.px_words.specs.declared.lexeme.Word.{Word}
use Rattle.px_words.specs.declared.lexeme.Word.TheVariants as w
use Rattle.px_tree.specs.declared.Sign.{Sign}
use Rattle.px_tree.specs.declared.Sign.TheVariants as sign
use Rattle.px_tree.specs.declared.ExprForm.{ExprForm}
use Rattle.px_tree.specs.declared.ExprForm.TheVariants as e
use Rattle.px_words.specs.Lexemes.{is_name}
use Rattle.px_accept.specs.declared.role.Role.{Role}
use Rattle.px_accept.specs.declared.role.Role.TheVariants as r
use Rattle.px_accept.specs.declared.role.Spelling.{Spelling}
use Rattle.px_accept.specs.declared.role.Spelling.TheVariants as s
use Rattle.px_accept.specs.Grammar as g
use Rattle.px_words.specs.Words.{binary_sign, prefix_sign, cast_sign, compound_sign, is_base, is_column_type}
use Rattle.px_parse.specs.Trees.{word_form}
use Rattle.px_words.specs.Roles.{role_of, roles_of}

-- the one word of a role, where it has just one
abbrev pub only_word : Role → Option Word
only_word r.Public = Some w.Public
only_word r.Private = Some w.Private
only_word r.Class = Some w.Class
only_word r.Boolean = Some w.Boolean
only_word r.Void = Some w.Void
only_word r.Throws = Some w.Throws
only_word r.If = Some w.If
only_word r.Else = Some w.Else
only_word r.While = Some w.While
only_word r.For = Some w.For
only_word r.Return = Some w.Return
only_word r.New = Some w.New
only_word r.OpenBrace = Some w.OpenBrace
only_word r.CloseBrace = Some w.CloseBrace
only_word r.Open = Some w.Open
only_word r.Close = Some w.Close
only_word r.OpenBracket = Some w.OpenBracket
only_word r.CloseBracket = Some w.CloseBracket
only_word r.Comma = Some w.Comma
only_word r.Semicolon = Some w.Semicolon
only_word r.Dot = Some w.Dot
only_word r.Assign = Some w.Assign
only_word r.Minus = Some w.Minus
only_word r.End = Some w.End
only_word (r.Name s.Create) = Some w.Create
only_word (r.Name s.Table) = Some w.Table
only_word (r.Name s.System) = Some w.System
only_word (r.Name s.Out) = Some w.Out
only_word (r.Name s.Println) = Some w.Println
only_word (r.Name s.SqlException) = Some w.SqlException
only_word _ = None

is_only : Word → Option Word → Type 0
is_only x (Some y) = x ≡ y
is_only x None = Unit {0}

its_only : (x : Word) → is_only x (only_word (role_of x))
unfolding is_only
its_only w.Int = tt
its_only w.Void = refl
its_only _ = search

-- the word of such a role
pub word_is : (x word : Word) (t : Role) → only_word t ≡ Some word → role_of x ≡ t → x ≡ word
unfolding is_only
word_is x word t h e = subst (λ (o : Option Word). is_only x o) h (subst (λ (u : Role). is_only x (only_word u)) e (its_only x))

pub name_is : (x : Word) (n : Spelling) → role_of x ≡ r.Name n → is_name x ≡ true
name_is w.Name n h = refl
name_is w.Create n h = refl
name_is w.Table n h = refl
name_is w.ColumnLong n h = refl
name_is w.ColumnText n h = refl
name_is w.System n h = refl
name_is w.Out n h = refl
name_is w.Println n h = refl
name_is w.SqlException n h = refl
name_is w.StringType n h = refl
name_is w.ResultSet n h = refl
name_is w.Db n h = refl
name_is _ n h = cc

pub name_of_word : (x : Word) → is_name x ≡ true → (n : Spelling) × (role_of x ≡ r.Name n)
name_of_word w.Name h = (s.Plain, refl)
name_of_word w.Create h = (s.Create, refl)
name_of_word w.Table h = (s.Table, refl)
name_of_word w.ColumnLong h = (s.Column, refl)
name_of_word w.ColumnText h = (s.Column, refl)
name_of_word w.System h = (s.System, refl)
name_of_word w.Out h = (s.Out, refl)
name_of_word w.Println h = (s.Println, refl)
name_of_word w.SqlException h = (s.SqlException, refl)
name_of_word w.StringType h = (s.Plain, refl)
name_of_word w.ResultSet h = (s.Plain, refl)
name_of_word w.Db h = (s.Plain, refl)
name_of_word _ h = cc

pub column_is : (x : Word) → role_of x ≡ r.Name s.Column → is_column_type x ≡ true
column_is w.ColumnLong h = refl
column_is w.ColumnText h = refl
column_is _ h = cc

pub column_of_word : (x : Word) → is_column_type x ≡ true → role_of x ≡ r.Name s.Column
column_of_word w.ColumnLong h = refl
column_of_word w.ColumnText h = refl
column_of_word _ h = cc

pub base_is : (x : Word) (t : Role) → g.IsBase t → role_of x ≡ t → is_base x ≡ true
base_is x _ g.integral h = integral x h
  where
    integral : (x : Word) → role_of x ≡ r.Integral → is_base x ≡ true
    integral w.Int h = refl
    integral w.Long h = refl
    integral _ h = cc
base_is x _ g.boolean h = ap is_base (word_is x w.Boolean r.Boolean refl h)
base_is x _ (g.IsBase.named n) h = names_are_bases x (name_is x n h)
  where
    names_are_bases : (x : Word) → is_name x ≡ true → is_base x ≡ true
    names_are_bases w.Int h = refl
    names_are_bases w.Long h = refl
    names_are_bases w.Boolean h = refl
    names_are_bases _ h = h

pub base_of_word : (x : Word) → is_base x ≡ true → g.IsBase (role_of x)
base_of_word w.Int h = g.integral
base_of_word w.Long h = g.integral
base_of_word w.Boolean h = g.boolean
base_of_word x h = let n = name_of_word x h in subst (λ (t : Role). g.IsBase t) (sym n.1) (g.IsBase.named n.0)

some_sign : (o : Option Sign) → is_some o ≡ true → (op : Sign) × (o ≡ Some op)
some_sign (Some op) h = (op, refl)
some_sign None h = cc

pub infix_is : (x : Word) (t : Role) → g.IsInfix t → role_of x ≡ t → (op : Sign) × (binary_sign x ≡ Some op)
infix_is x _ g.IsInfix.minus h = (sign.Minus, ap binary_sign (word_is x w.Minus r.Minus refl h))
infix_is x _ g.infix_sign h = some_sign (binary_sign x) (signed x h)
  where
    signed : (x : Word) → role_of x ≡ r.Infix → is_some (binary_sign x) ≡ true
    signed w.Minus h = refl
    signed _ h = cc

abbrev is_infix : Role → Bool
is_infix r.Minus = true
is_infix r.Infix = true
is_infix _ = false

infix_of_role : (t : Role) → is_infix t ≡ true → g.IsInfix t
infix_of_role r.Minus h = g.IsInfix.minus
infix_of_role r.Infix h = g.infix_sign
infix_of_role _ h = cc

signs : (x : Word) (op : Sign) → binary_sign x ≡ Some op → is_infix (role_of x) ≡ true
signs w.Minus op h = refl
signs _ op h = cc

pub infix_of_word : (x : Word) (op : Sign) → binary_sign x ≡ Some op → g.IsInfix (role_of x)
infix_of_word x op h = infix_of_role (role_of x) (signs x op h)

pub prefix_is : (x : Word) (t : Role) → g.IsPrefix t → role_of x ≡ t → (op : Sign) × (prefix_sign x ≡ Some op)
prefix_is x _ g.IsPrefix.minus h = (sign.Minus, ap prefix_sign (word_is x w.Minus r.Minus refl h))
prefix_is x _ g.IsPrefix.not h = inverted x h
  where
    inverted : (x : Word) → role_of x ≡ r.Not → (op : Sign) × (prefix_sign x ≡ Some op)
    inverted w.Not h = (sign.Not, refl)
    inverted w.Inv h = (sign.Inv, refl)
    inverted _ h = cc

pub prefix_of_word : (x : Word) (op : Sign) → prefix_sign x ≡ Some op → g.IsPrefix (role_of x)
prefix_of_word w.Minus op h = g.IsPrefix.minus
prefix_of_word w.Not op h = g.IsPrefix.not
prefix_of_word w.Inv op h = g.IsPrefix.not
prefix_of_word _ op h = cc

pub cast_is : (x : Word) → role_of x ≡ r.Integral → (op : Sign) × (cast_sign x ≡ Some op)
cast_is w.Int h = (sign.ToInt, refl)
cast_is w.Long h = (sign.ToLong, refl)
cast_is _ h = cc

pub cast_of_word : (x : Word) (op : Sign) → cast_sign x ≡ Some op → role_of x ≡ r.Integral
cast_of_word w.Int op h = refl
cast_of_word w.Long op h = refl
cast_of_word _ op h = cc

pub compound_is : (x : Word) → role_of x ≡ r.Compound → (op : Sign) × (compound_sign x ≡ Some op)
compound_is x h = some_sign (compound_sign x) (signed x h)
  where
    signed : (x : Word) → role_of x ≡ r.Compound → is_some (compound_sign x) ≡ true
    signed w.PlusAssign h = refl
    signed _ h = cc

pub compound_of_word : (x : Word) (op : Sign) → compound_sign x ≡ Some op → role_of x ≡ r.Compound
compound_of_word w.PlusAssign op h = refl
compound_of_word _ op h = cc

pub step_is : (x : Word) → role_of x ≡ r.Step → (x ≡ w.Increment) ⊎ (x ≡ w.Decrement)
step_is w.Increment h = inl refl
step_is w.Decrement h = inr refl
step_is _ h = cc

pub data IsValue (x : Word) : Type 0 where
  number : x ≡ w.Number → IsValue x
  text : x ≡ w.Text → IsValue x
  word : (form : ExprForm) → word_form x ≡ Some form → IsValue x

pub value_is : (x : Word) → role_of x ≡ r.Value → IsValue x
value_is w.Number h = number refl
value_is w.Text h = text refl
value_is w.True h = word e.True refl
value_is w.False h = word e.False refl
value_is w.Null h = word e.Null refl
value_is w.This h = word e.This refl
value_is _ h = cc

pub value_of_word : (x : Word) (form : ExprForm) → word_form x ≡ Some form → role_of x ≡ r.Value
value_of_word w.True form h = refl
value_of_word w.False form h = refl
value_of_word w.Null form h = refl
value_of_word w.This form h = refl
value_of_word _ form h = cc

-- a word of each role
abbrev pub word_of_spelling : Spelling → Word
word_of_spelling s.Create = w.Create
word_of_spelling s.Table = w.Table
word_of_spelling s.Column = w.ColumnLong
word_of_spelling s.System = w.System
word_of_spelling s.Out = w.Out
word_of_spelling s.Println = w.Println
word_of_spelling s.SqlException = w.SqlException
word_of_spelling s.Plain = w.Name

abbrev pub word_with_role : Role → Word
word_with_role (r.Name n) = word_of_spelling n
word_with_role r.Public = w.Public
word_with_role r.Private = w.Private
word_with_role r.Class = w.Class
word_with_role r.Integral = w.Int
word_with_role r.Boolean = w.Boolean
word_with_role r.Void = w.Void
word_with_role r.Throws = w.Throws
word_with_role r.If = w.If
word_with_role r.Else = w.Else
word_with_role r.While = w.While
word_with_role r.For = w.For
word_with_role r.Return = w.Return
word_with_role r.New = w.New
word_with_role r.Value = w.This
word_with_role r.OpenBrace = w.OpenBrace
word_with_role r.CloseBrace = w.CloseBrace
word_with_role r.Open = w.Open
word_with_role r.Close = w.Close
word_with_role r.OpenBracket = w.OpenBracket
word_with_role r.CloseBracket = w.CloseBracket
word_with_role r.Comma = w.Comma
word_with_role r.Semicolon = w.Semicolon
word_with_role r.Dot = w.Dot
word_with_role r.Assign = w.Assign
word_with_role r.Compound = w.PlusAssign
word_with_role r.Step = w.Increment
word_with_role r.Minus = w.Minus
word_with_role r.Not = w.Not
word_with_role r.Infix = w.Plus
word_with_role r.End = w.End
word_with_role r.Other = w.Bad

name_round : (n : Spelling) → role_of (word_of_spelling n) ≡ r.Name n
name_round s.Create = refl
name_round _ = refl

round : (t : Role) → role_of (word_with_role t) ≡ t
round (r.Name n) = name_round n
round r.Public = refl
round _ = refl

pub lexemes_of_roles : (rs : List Role) → (xs : List Lexeme) × (roles_of xs ≡ rs)
lexemes_of_roles [] = ([], refl)
lexemes_of_roles (t ∷ rs) =
    let rest = lexemes_of_roles rs in
    let x : Lexeme = record { word = word_with_role t; from = 0; to = 0; token = 0 } in
    (x ∷ rest.0, rw (rest.1, round t) refl)
