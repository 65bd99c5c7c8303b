-- What the type rules promise of a program's parts beside their types: what may be tested, indexed, asked, joined and printed.
use Rattle.std.specs.Prelude.{◌≡◌, ℕ, Bool, true, false, ◌&&◌, ◌||◌, List, Option, Some, slice_get}
use Rattle.px_value.specs.declared.op.Op.TheVariants as op
use Rattle.px_tree.specs.declared.Sign.{Sign}
use Rattle.px_tree.specs.declared.Sign.TheVariants as sign
use Rattle.px_tree.specs.declared.Base.{Base}
use Rattle.px_tree.specs.declared.Name.{Name}
use Rattle.px_tree.specs.declared.TypeName.{TypeName}
use Rattle.px_tree.specs.declared.Expr.{Expr}
use Rattle.px_tree.specs.declared.ExprForm.TheVariants as e
use Rattle.px_tree.specs.declared.Stmt.{Stmt}
use Rattle.px_tree.specs.declared.StmtForm.TheVariants as st
use Rattle.px_facts.specs.declared.types.Ty.{Ty}
use Rattle.px_facts.specs.declared.types.Ty.TheVariants as ty
use Rattle.px_facts.specs.Types.{is_void, is_text, is_printable}
use Rattle.px_facts.specs.declared.checked.Facts.{Facts}
use Rattle.px_facts.specs.declared.checked.Named.{Named}
use Rattle.px_facts.specs.declared.checked.Named.TheVariants as named
use Rattle.px_facts.specs.declared.operation.Operation.{Operation}
use Rattle.px_mean.specs.Facts.{type_at, named_at, by_number, op_of}
use Rattle.px_mean.specs.Typing.{is_select}

-- ---- expressions

-- an operand of a `+` that joins texts; null is one (JLS 15.18.1)
abbrev pub is_joined : Ty → Bool
is_joined ty.Null = true
is_joined t = is_printable t

abbrev pub joins : Ty → Ty → Bool
joins l r = (is_text l || is_text r) && (is_joined l && is_joined r)

-- an expression that stands in another one
pub data IsPart : Expr → Expr → Type 0 where
  grouped : (x y : Expr) → x.form ≡ e.Group y → IsPart y x
  holder : (x y : Expr) (n : Name) → x.form ≡ e.Field y n → IsPart y x
  array : (x y index : Expr) → x.form ≡ e.Index y index → IsPart y x
  index : (x of y : Expr) → x.form ≡ e.Index of y → IsPart y x
  receiver : (x y : Expr) (n : Name) (args : List Expr) → x.form ≡ e.Call (Some y) n args → IsPart y x
  argument : (x y : Expr) (of : Option Expr) (n : Name) (args : List Expr) (place : ℕ) → x.form ≡ e.Call of n args → slice_get args place ≡ Some y → IsPart y x
  size : (x y : Expr) (b : Base) → x.form ≡ e.NewArray b y → IsPart y x
  operand : (x y : Expr) (s : Sign) → x.form ≡ e.Prefix s y → IsPart y x
  left : (x y r : Expr) (s : Sign) (at : ℕ) → x.form ≡ e.Binary s at y r → IsPart y x
  right : (x l y : Expr) (s : Sign) (at : ℕ) → x.form ≡ e.Binary s at l y → IsPart y x

-- `&&` and `||`
abbrev pub is_choice : Sign → Bool
is_choice sign.Both = true
is_choice sign.Either = true
is_choice s = false

-- where this names a query, its statement asks for rows
abbrev pub AsksRows : Facts → Named → Type 0
AsksRows F n = (number site : ℕ) (o : Operation) → n ≡ named.Query number site → by_number F.operations number ≡ Some o → is_select o.statement ≡ true

-- an index and a size are ints, a query asks for rows, `&&` and `||` have booleans, and what is joined to a text is printed so
pub record IsAsked (F : Facts) (x : Expr) : Type 0 where
  pub index : (of index : Expr) → x.form ≡ e.Index of index → type_at F index.id ≡ ty.Int
  pub size : (b : Base) (size : Expr) → x.form ≡ e.NewArray b size → type_at F size.id ≡ ty.Int
  pub query : (of : Option Expr) (n : Name) (args : List Expr) → x.form ≡ e.Call of n args → AsksRows F (named_at F x.id)
  pub choice : (s : Sign) (at : ℕ) (l r : Expr) → x.form ≡ e.Binary s at l r → is_choice s ≡ true → type_at F x.id ≡ ty.Boolean
  pub joined : (s : Sign) (at : ℕ) (l r : Expr) → x.form ≡ e.Binary s at l r → op_of s (type_at F l.id) (type_at F r.id) ≡ op.Concat → joins (type_at F l.id) (type_at F r.id) ≡ true

-- it and all expressions in it
pub data IsUsed (F : Facts) : Expr → Type 0 where
  used : (x : Expr) → IsAsked F x → ((y : Expr) → IsPart y x → IsUsed F y) → IsUsed F x

-- ---- statements

-- an expression of a statement
pub data IsIn : Expr → Stmt → Type 0 where
  first : (x : Stmt) (y : Expr) (t : TypeName) (n : Name) → x.form ≡ st.Local t n y → IsIn y x
  place : (x : Stmt) (y value : Expr) → x.form ≡ st.Assign y value → IsIn y x
  value : (x : Stmt) (place y : Expr) → x.form ≡ st.Assign place y → IsIn y x
  operand : (x : Stmt) (y : Expr) (n : Name) (s : Sign) → x.form ≡ st.Compound n s y → IsIn y x
  call : (x : Stmt) (y : Expr) → x.form ≡ st.Call y → IsIn y x
  if_test : (x : Stmt) (y : Expr) (a : Stmt) (b : Option Stmt) → x.form ≡ st.If y a b → IsIn y x
  while_test : (x : Stmt) (y : Expr) (body : Stmt) → x.form ≡ st.While y body → IsIn y x
  for_test : (x : Stmt) (y : Expr) (begin last body : Stmt) → x.form ≡ st.For begin y last body → IsIn y x
  result : (x : Stmt) (y : Expr) → x.form ≡ st.Return (Some y) → IsIn y x
  print : (x : Stmt) (y : Expr) → x.form ≡ st.Print y → IsIn y x

-- a statement of another one
pub data IsInner : Stmt → Stmt → Type 0 where
  item : (x y : Stmt) (items : List Stmt) (place : ℕ) → x.form ≡ st.Block items → slice_get items place ≡ Some y → IsInner y x
  branch : (x y : Stmt) (test : Expr) (other : Option Stmt) → x.form ≡ st.If test y other → IsInner y x
  other : (x y a : Stmt) (test : Expr) → x.form ≡ st.If test a (Some y) → IsInner y x
  while_body : (x y : Stmt) (test : Expr) → x.form ≡ st.While test y → IsInner y x
  begin : (x y : Stmt) (test : Expr) (last body : Stmt) → x.form ≡ st.For y test last body → IsInner y x
  last : (x y begin : Stmt) (test : Expr) (body : Stmt) → x.form ≡ st.For begin test y body → IsInner y x
  for_body : (x y begin : Stmt) (test : Expr) (last : Stmt) → x.form ≡ st.For begin test last y → IsInner y x

-- In a method with this result: tests are booleans, what is joined to a text or printed is printed so, and a void method returns no value.
pub record IsAskedOf (F : Facts) (gives : Ty) (x : Stmt) : Type 0 where
  pub if_test : (test : Expr) (a : Stmt) (b : Option Stmt) → x.form ≡ st.If test a b → type_at F test.id ≡ ty.Boolean
  pub while_test : (test : Expr) (body : Stmt) → x.form ≡ st.While test body → type_at F test.id ≡ ty.Boolean
  pub for_test : (test : Expr) (begin last body : Stmt) → x.form ≡ st.For begin test last body → type_at F test.id ≡ ty.Boolean
  pub joined : (n : Name) (s : Sign) (value : Expr) → x.form ≡ st.Compound n s value → op_of s (type_at F x.id) (type_at F value.id) ≡ op.Concat → joins (type_at F x.id) (type_at F value.id) ≡ true
  pub result : (value : Expr) → x.form ≡ st.Return (Some value) → is_void gives ≡ false
  pub printed : (value : Expr) → x.form ≡ st.Print value → is_printable (type_at F value.id) ≡ true

-- it and all statements and expressions in it
pub data AreUsed (F : Facts) (gives : Ty) : Stmt → Type 0 where
  used : (x : Stmt) → IsAskedOf F gives x → ((y : Expr) → IsIn y x → IsUsed F y) → ((y : Stmt) → IsInner y x → AreUsed F gives y) → AreUsed F gives x
