-- What each form does for its symbol, whatever is accepted behind it.
use Rattle.std.proofs.Common.{◌≡◌, ℕ, ◌+◌, Bool, true, List, [], ◌∷◌, ◌++◌, sym, subst}
use Rattle.px_accept.specs.declared.role.Spelling.{Spelling}
use Rattle.px_accept.specs.declared.role.Role.{Role}
use Rattle.px_accept.specs.declared.role.Role.TheVariants.{Name, Else, CloseBrace, Open, Close, CloseBracket, Comma, Semicolon, Assign, End}
use Rattle.px_accept.specs.declared.symbol.Position.{Position}
use Rattle.px_accept.specs.declared.symbol.Position.TheVariants.{Alone, Init, Update}
use Rattle.px_accept.specs.declared.symbol.Seen.{Seen}
use Rattle.px_accept.specs.declared.symbol.Seen.TheVariants.{Nothing, AnArray, APrimary, AName, AField, AnElement, ACall, AValue}
use Rattle.px_accept.specs.declared.symbol.Symbol.{Symbol}
use Rattle.px_accept.specs.declared.symbol.Symbol.TheVariants.{Need, Identifier, ParameterType, Tables, Classes, Columns, Members, Member, MemberRest, Parameters, MoreParameters, Body, Braced, Items, Ended, ForInit, Simple, Expression, Operand, Tail, ArrayTail, ArgumentList, MoreArguments}
use Rattle.px_accept.specs.declared.symbol.Symbol.TheVariants as y
use Rattle.px_accept.specs.Machine.{move_of, step, run, start}
use Rattle.px_accept.specs.Grammar as g
use Rattle.px_accept.specs.Grammar.{Form, Ending}
use Rattle.px_accept.proofs.Steps.{Accepts, not_here, refused}

-- an expression may end here
pub record Goes (st : List Symbol) (zs : List Role) : Type 0 where
  pub tail : (n p : ℕ) → Accepts (Tail n p ∷ st) zs
  pub array : (n p : ℕ) → Accepts (ArrayTail n p ∷ st) zs
  pub called : (n p : ℕ) → Accepts (y.Arguments ∷ Tail n p ∷ st) zs

pub goes_close : (st : List Symbol) (zs : List Role) → Accepts st zs → Goes (Need Close ∷ st) (Close ∷ zs)
unfolding run step move_of
goes_close st zs h = record { tail = λ n p. h; array = λ n p. h; called = λ n p. h }

pub goes_bracket : (st : List Symbol) (zs : List Role) → Accepts st zs → Goes (Need CloseBracket ∷ st) (CloseBracket ∷ zs)
unfolding run step move_of
goes_bracket st zs h = record { tail = λ n p. h; array = λ n p. h; called = λ n p. h }

pub goes_semicolon : (st : List Symbol) (zs : List Role) → Accepts st zs → Goes (Need Semicolon ∷ st) (Semicolon ∷ zs)
unfolding run step move_of
goes_semicolon st zs h = record { tail = λ n p. h; array = λ n p. h; called = λ n p. h }

pub goes_more : (st : List Symbol) (zs : List Role) → Accepts (MoreArguments ∷ st) zs → Goes (MoreArguments ∷ st) zs
unfolding run step move_of
goes_more st [] h = not_here _ _ h
goes_more st (Comma ∷ ts) h = record { tail = λ n p. h; array = λ n p. h; called = λ n p. h }
goes_more st (Close ∷ ts) h = record { tail = λ n p. h; array = λ n p. h; called = λ n p. h }
goes_more st (t ∷ ts) h = refused h

pub goes_infix : (t : Role) (st : List Symbol) (zs : List Role) → g.IsInfix t → ((m : ℕ) → Accepts (Operand m 0 ∷ st) zs) → Goes st (t ∷ zs)
unfolding run step move_of
goes_infix _ st zs g.IsInfix.minus h = record { tail = λ n p. h (n + 1); array = λ n p. h (n + 1); called = λ n p. h (n + 1) }
goes_infix _ st zs g.infix_sign h = record { tail = λ n p. h (n + 1); array = λ n p. h (n + 1); called = λ n p. h (n + 1) }

-- a simple statement may end here
pub record Ends (q : Position) (st : List Symbol) (zs : List Role) : Type 0 where
  pub ends : (m : ℕ) → Accepts (Simple AValue q m ∷ st) zs
  pub calls : (m : ℕ) → Accepts (Simple ACall q m ∷ st) zs
  pub value : (m : ℕ) → Goes (Simple AValue q m ∷ st) zs

pub ends_alone : (st : List Symbol) (zs : List Role) → ((m : ℕ) → Accepts (Ended m ∷ st) zs) → Ends Alone st (Semicolon ∷ zs)
unfolding run step move_of
ends_alone st zs h = record { ends = h; calls = h; value = λ m. record { tail = λ n p. h m; array = λ n p. h m; called = λ n p. h m } }

pub ends_init : (st : List Symbol) (zs : List Role) → ((m : ℕ) → Accepts (Expression ∷ Need Semicolon ∷ Simple Nothing Update m ∷ st) zs) → Ends Init st (Semicolon ∷ zs)
unfolding run step move_of
ends_init st zs h = record { ends = h; calls = h; value = λ m. record { tail = λ n p. h m; array = λ n p. h m; called = λ n p. h m } }

pub ends_update : (st : List Symbol) (zs : List Role) → ((m : ℕ) → Accepts (y.Statement ∷ Ended m ∷ st) zs) → Ends Update st (Close ∷ zs)
unfolding run step move_of
ends_update st zs h = record { ends = h; calls = h; value = λ m. record { tail = λ n p. h m; array = λ n p. h m; called = λ n p. h m } }

-- what stands on the stack behind a postfix
abbrev pub after : Ending → ℕ → ℕ → List Symbol → List Symbol
after g.OneName n p st = y.Arguments ∷ Tail n p ∷ st
after g.Field n p st = y.Arguments ∷ Tail n p ∷ st
after g.Array n p st = ArrayTail n p ∷ st
after _ n p st = Tail n p ∷ st

abbrev pub seen : Ending → Seen
seen g.OneName = AName
seen g.Primary = APrimary
seen g.Field = AField
seen g.Element = AnElement
seen g.Call = ACall
seen g.Array = AnArray

pub record Postfixes (k : Ending) (ts : List Role) : Type 0 where
  pub expression : (n p : ℕ) (st : List Symbol) (zs : List Role) → ((m q : ℕ) → Accepts (after k m q st) zs) → Accepts (Operand n p ∷ st) (ts ++ zs)
  pub simple : (q : Position) (n : ℕ) (st : List Symbol) (zs : List Role) → ((m : ℕ) → Accepts (Simple (seen k) q m ∷ st) zs) → Accepts (Simple Nothing q n ∷ st) (ts ++ zs)

pub record Argued (ts : List Role) : Type 0 where
  pub in_call : (st : List Symbol) (zs : List Role) → Accepts st zs → Accepts (y.Arguments ∷ st) (ts ++ zs)
  pub on_name : (q : Position) (n : ℕ) (st : List Symbol) (zs : List Role) → Accepts (Simple ACall q n ∷ st) zs → Accepts (Simple AName q n ∷ st) (ts ++ zs)
  pub on_field : (q : Position) (n : ℕ) (st : List Symbol) (zs : List Role) → Accepts (Simple ACall q n ∷ st) zs → Accepts (Simple AField q n ∷ st) (ts ++ zs)

pub record Typed (ts : List Role) : Type 0 where
  pub in_items : (st : List Symbol) (n : Spelling) (zs : List Role) → Accepts (Need Assign ∷ Expression ∷ Need Semicolon ∷ Items ∷ st) zs → Accepts (Items ∷ st) (ts ++ Name n ∷ zs)
  pub in_for : (st : List Symbol) (n : Spelling) (zs : List Role) → Accepts (Need Assign ∷ Expression ∷ Need Semicolon ∷ Expression ∷ Need Semicolon ∷ Simple Nothing Update 1 ∷ st) zs → Accepts (ForInit ∷ st) (ts ++ Name n ∷ zs)
  pub in_member : (st : List Symbol) (n : Spelling) (zs : List Role) → Accepts (MemberRest ∷ st) zs → Accepts (Member ∷ st) (ts ++ Name n ∷ zs)
  pub in_parameters : (st : List Symbol) (n : Spelling) (zs : List Role) → Accepts (MoreParameters ∷ st) zs → Accepts (Parameters ∷ st) (ts ++ Name n ∷ zs)
  pub in_parameter : (st : List Symbol) (n : Spelling) (zs : List Role) → Accepts st zs → Accepts (ParameterType ∷ Identifier ∷ st) (ts ++ Name n ∷ zs)

-- an open `if` takes an `else`
abbrev pub MayFollow : Bool → Role → Type 0
MayFollow true Else = ⊥
MayFollow o t = Unit {0}

abbrev pub Passes : Form → List Role → Type 0
Passes g.Program ts = Accepts start (ts ++ End ∷ [])
Passes g.TableList ts = (st : List Symbol) (zs : List Role) → Accepts (Tables ∷ st) zs → Accepts (Tables ∷ st) (ts ++ zs)
Passes g.ColumnList ts = (st : List Symbol) (zs : List Role) → Accepts st zs → Accepts (Columns ∷ st) (ts ++ Close ∷ Semicolon ∷ zs)
Passes g.ClassDeclaration ts = (st : List Symbol) (zs : List Role) → Accepts (Classes ∷ st) zs → Accepts (Classes ∷ st) (ts ++ zs) × Accepts (Tables ∷ st) (ts ++ zs)
Passes g.ClassList ts = (st : List Symbol) (zs : List Role) → Accepts (Classes ∷ st) zs → Accepts (Classes ∷ st) (ts ++ zs)
Passes g.MemberList ts = (st : List Symbol) (zs : List Role) → Accepts st zs → Accepts (Members ∷ st) (ts ++ CloseBrace ∷ zs)
Passes g.MemberDeclaration ts = (st : List Symbol) (zs : List Role) → Accepts (Members ∷ st) zs → Accepts (Members ∷ st) (ts ++ zs)
Passes g.UnmodifiedMember ts = (s : Symbol) (st : List Symbol) (zs : List Role) → Accepts (s ∷ st) zs → Accepts (Member ∷ s ∷ st) (ts ++ zs)
Passes g.TypeName ts = Typed ts
Passes g.Result ts = (st : List Symbol) (n : Spelling) (zs : List Role) → Accepts (Parameters ∷ st) zs → Accepts (Member ∷ st) (ts ++ Name n ∷ Open ∷ zs)
Passes g.ParameterList ts = (st : List Symbol) (zs : List Role) → Accepts (Body ∷ st) zs → Accepts (Parameters ∷ st) (ts ++ Close ∷ zs)
Passes g.MoreParameters ts = (st : List Symbol) (zs : List Role) → Accepts (Body ∷ st) zs → Accepts (MoreParameters ∷ st) (ts ++ Close ∷ zs)
Passes g.ThrowsClause ts = (st : List Symbol) (zs : List Role) → Accepts (Braced ∷ st) zs → Accepts (Body ∷ st) (ts ++ zs)
Passes g.Block ts = (s : Symbol) (st : List Symbol) (zs : List Role) → Accepts (s ∷ st) zs → Accepts (Braced ∷ s ∷ st) (ts ++ zs) × Accepts (y.Statement ∷ s ∷ st) (ts ++ zs)
Passes g.ItemList ts = (st : List Symbol) (zs : List Role) → Accepts (Ended 1 ∷ st) zs → Accepts (Items ∷ st) (ts ++ CloseBrace ∷ zs)
Passes g.Item ts = (st : List Symbol) (t : Role) (zs : List Role) → MayFollow true t → Accepts (Items ∷ st) (t ∷ zs) → Accepts (Items ∷ st) (ts ++ t ∷ zs)
Passes (g.Statement o) ts = (s : Symbol) (st : List Symbol) (t : Role) (zs : List Role) → MayFollow o t → Accepts (s ∷ st) (t ∷ zs) → Accepts (y.Statement ∷ s ∷ st) (ts ++ t ∷ zs)
Passes g.ForInit ts = (st : List Symbol) (zs : List Role) → ((m : ℕ) → Accepts (Expression ∷ Need Semicolon ∷ Simple Nothing Update m ∷ st) zs) → Accepts (ForInit ∷ st) (ts ++ Semicolon ∷ zs)
Passes g.SimpleStatement ts = (q : Position) (n : ℕ) (st : List Symbol) (zs : List Role) → Ends q st zs → Accepts (Simple Nothing q n ∷ st) (ts ++ zs)
Passes g.Expression ts = (st : List Symbol) (zs : List Role) → Goes st zs → Accepts (Expression ∷ st) (ts ++ zs)
Passes g.Unary ts = (n p : ℕ) (st : List Symbol) (zs : List Role) → Goes st zs → Accepts (Operand n p ∷ st) (ts ++ zs)
Passes (g.Postfix k) ts = Postfixes k ts
Passes g.Arguments ts = Argued ts
Passes g.Expressions ts = (st : List Symbol) (zs : List Role) → Accepts st zs → Accepts (ArgumentList ∷ st) (ts ++ Close ∷ zs)
Passes g.MoreExpressions ts = (st : List Symbol) (zs : List Role) → Accepts st zs → Accepts (MoreArguments ∷ st) (ts ++ Close ∷ zs)

pub at : (f : Form) (ts us : List Role) → ts ≡ us → Passes f us → Passes f ts
at f ts us q h = subst (λ (zs : List Role). Passes f zs) (sym q) h
