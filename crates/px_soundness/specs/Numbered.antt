-- Trees of texts whose statements and expressions have their numbers, in order. A constructor is a form.
use Rattle.std.specs.Prelude.{◌≡◌, ℕ, ◌+◌, Bool, true, false, List, [], ◌∷◌, Option, Some, None}
use Rattle.px_tree.specs.declared.Sign.{Sign}
use Rattle.px_tree.specs.declared.Sign.TheVariants as sign
use Rattle.px_tree.specs.declared.Base.{Base}
use Rattle.px_tree.specs.declared.Base.TheVariants as base
use Rattle.px_tree.specs.declared.Name.{Name}
use Rattle.px_tree.specs.declared.TypeName.{TypeName}
use Rattle.px_tree.specs.declared.Param.{Param}
use Rattle.px_tree.specs.declared.Expr.{Expr}
use Rattle.px_tree.specs.declared.ExprForm.TheVariants as e
use Rattle.px_tree.specs.declared.Stmt.{Stmt}
use Rattle.px_tree.specs.declared.StmtForm.TheVariants as st
use Rattle.px_tree.specs.declared.Method.{Method}
use Rattle.px_tree.specs.declared.FieldDecl.{FieldDecl}
use Rattle.px_tree.specs.declared.Member.{Member}
use Rattle.px_tree.specs.declared.Member.TheVariants as member
use Rattle.px_tree.specs.declared.Class.{Class}

-- ---- signs and types

-- a sign before an operand
pub data IsPrefix : Sign → Type 0 where
  minus : IsPrefix sign.Minus
  not : IsPrefix sign.Not
  inv : IsPrefix sign.Inv
  to_int : IsPrefix sign.ToInt
  to_long : IsPrefix sign.ToLong

-- a sign between two operands
pub data IsBinary : Sign → Type 0 where
  plus : IsBinary sign.Plus
  minus : IsBinary sign.Minus
  times : IsBinary sign.Times
  over : IsBinary sign.Over
  rest : IsBinary sign.Rest
  and : IsBinary sign.And
  or : IsBinary sign.Or
  xor : IsBinary sign.Xor
  shl : IsBinary sign.Shl
  shr : IsBinary sign.Shr
  ushr : IsBinary sign.Ushr
  less : IsBinary sign.Less
  at_most : IsBinary sign.AtMost
  more : IsBinary sign.More
  at_least : IsBinary sign.AtLeast
  equal : IsBinary sign.Equal
  unequal : IsBinary sign.Unequal
  both : IsBinary sign.Both
  either : IsBinary sign.Either

-- a type of an array's elements
pub data IsElement : Base → Type 0 where
  int : IsElement base.Int
  long : IsElement base.Long
  boolean : IsElement base.Boolean
  text : IsElement base.Str
  class : (name : Name) → IsElement (base.Class name)

-- there are no arrays of result sets
pub data IsTypeName : TypeName → Type 0 where
  single : (t : TypeName) → t.array ≡ false → IsTypeName t
  array : (t : TypeName) → t.array ≡ true → IsElement t.base → IsTypeName t

-- ---- expressions

-- An expression and those in it have the numbers from the first on, and up to the second, which is free.
mutual
  pub data IsExpr : ℕ → Expr → ℕ → Type 0 where
    number : (x : Expr) (digits : List ℕ) (long : Bool) → x.form ≡ e.Number digits long → IsExpr x.id x (x.id + 1)
    text : (x : Expr) (bytes : List ℕ) → x.form ≡ e.Str bytes → IsExpr x.id x (x.id + 1)
    truth : (x : Expr) → x.form ≡ e.True → IsExpr x.id x (x.id + 1)
    falsehood : (x : Expr) → x.form ≡ e.False → IsExpr x.id x (x.id + 1)
    null : (x : Expr) → x.form ≡ e.Null → IsExpr x.id x (x.id + 1)
    this : (x : Expr) → x.form ≡ e.This → IsExpr x.id x (x.id + 1)
    variable : (x : Expr) (name : Name) → x.form ≡ e.Name name → IsExpr x.id x (x.id + 1)
    group : (m : ℕ) (x inner : Expr) → x.form ≡ e.Group inner → IsExpr (x.id + 1) inner m → IsExpr x.id x m
    field : (m : ℕ) (x of : Expr) (name : Name) → x.form ≡ e.Field of name → IsExpr (x.id + 1) of m → IsExpr x.id x m
    indexed : (k m : ℕ) (x of index : Expr) → x.form ≡ e.Index of index → IsExpr (x.id + 1) of k → IsExpr k index m → IsExpr x.id x m
    own_call : (m : ℕ) (x : Expr) (name : Name) (args : List Expr) → x.form ≡ e.Call None name args → AreExprs (x.id + 1) args m → IsExpr x.id x m
    call : (k m : ℕ) (x of : Expr) (name : Name) (args : List Expr) → x.form ≡ e.Call (Some of) name args → IsExpr (x.id + 1) of k → AreExprs k args m → IsExpr x.id x m
    new_object : (x : Expr) (name : Name) → x.form ≡ e.NewObject name → IsExpr x.id x (x.id + 1)
    new_array : (m : ℕ) (x : Expr) (base : Base) (size : Expr) → x.form ≡ e.NewArray base size → IsElement base → IsExpr (x.id + 1) size m → IsExpr x.id x m
    prefix : (m : ℕ) (x : Expr) (s : Sign) (y : Expr) → x.form ≡ e.Prefix s y → IsPrefix s → IsExpr (x.id + 1) y m → IsExpr x.id x m
    binary : (k m : ℕ) (x : Expr) (s : Sign) (at : ℕ) (l r : Expr) → x.form ≡ e.Binary s at l r → IsBinary s → IsExpr (x.id + 1) l k → IsExpr k r m → IsExpr x.id x m

  pub data AreExprs : ℕ → List Expr → ℕ → Type 0 where
    none : (n : ℕ) → AreExprs n [] n
    more : (n k m : ℕ) (x : Expr) (xs : List Expr) → IsExpr n x k → AreExprs k xs m → AreExprs n (x ∷ xs) m

-- ---- statements

mutual
  pub data IsStmt : ℕ → Stmt → ℕ → Type 0 where
    block : (m : ℕ) (x : Stmt) (items : List Stmt) → x.form ≡ st.Block items → AreStmts (x.id + 1) items m → IsStmt x.id x m
    empty : (x : Stmt) → x.form ≡ st.Empty → IsStmt x.id x (x.id + 1)
    local : (m : ℕ) (x : Stmt) (t : TypeName) (name : Name) (value : Expr) → x.form ≡ st.Local t name value → IsTypeName t → IsExpr (x.id + 1) value m → IsStmt x.id x m
    assign : (k m : ℕ) (x : Stmt) (place value : Expr) → x.form ≡ st.Assign place value → IsExpr (x.id + 1) place k → IsExpr k value m → IsStmt x.id x m
    compound : (m : ℕ) (x : Stmt) (name : Name) (s : Sign) (value : Expr) → x.form ≡ st.Compound name s value → IsExpr (x.id + 1) value m → IsStmt x.id x m
    up : (x : Stmt) (name : Name) → x.form ≡ st.Up name → IsStmt x.id x (x.id + 1)
    down : (x : Stmt) (name : Name) → x.form ≡ st.Down name → IsStmt x.id x (x.id + 1)
    call : (m : ℕ) (x : Stmt) (value : Expr) → x.form ≡ st.Call value → IsExpr (x.id + 1) value m → IsStmt x.id x m
    if_only : (k m : ℕ) (x : Stmt) (test : Expr) (a : Stmt) → x.form ≡ st.If test a None → IsExpr (x.id + 1) test k → IsStmt k a m → IsStmt x.id x m
    if_else : (k j m : ℕ) (x : Stmt) (test : Expr) (a b : Stmt) → x.form ≡ st.If test a (Some b) → IsExpr (x.id + 1) test k → IsStmt k a j → IsStmt j b m → IsStmt x.id x m
    while : (k m : ℕ) (x : Stmt) (test : Expr) (body : Stmt) → x.form ≡ st.While test body → IsExpr (x.id + 1) test k → IsStmt k body m → IsStmt x.id x m
    for_loop : (k j i m : ℕ) (x first : Stmt) (test : Expr) (last body : Stmt) → x.form ≡ st.For first test last body → IsStmt (x.id + 1) first k → IsExpr k test j → IsStmt j last i → IsStmt i body m → IsStmt x.id x m
    leave : (x : Stmt) → x.form ≡ st.Return None → IsStmt x.id x (x.id + 1)
    give : (m : ℕ) (x : Stmt) (value : Expr) → x.form ≡ st.Return (Some value) → IsExpr (x.id + 1) value m → IsStmt x.id x m
    print : (m : ℕ) (x : Stmt) (value : Expr) → x.form ≡ st.Print value → IsExpr (x.id + 1) value m → IsStmt x.id x m

  pub data AreStmts : ℕ → List Stmt → ℕ → Type 0 where
    none : (n : ℕ) → AreStmts n [] n
    more : (n k m : ℕ) (x : Stmt) (xs : List Stmt) → IsStmt n x k → AreStmts k xs m → AreStmts n (x ∷ xs) m

-- ---- members and classes

abbrev pub AreParams : List Param → Type 0
AreParams [] = Unit {0}
AreParams (p ∷ ps) = IsTypeName p.ty × AreParams ps

abbrev pub IsResult : Option TypeName → Type 0
IsResult None = Unit {0}
IsResult (Some t) = IsTypeName t

pub data AreMembers : ℕ → List Member → ℕ → Type 0 where
  none : (n : ℕ) → AreMembers n [] n
  field : (n m : ℕ) (f : FieldDecl) (ms : List Member) → IsTypeName f.ty → AreMembers n ms m → AreMembers n (member.Field f ∷ ms) m
  method : (n k m : ℕ) (x : Method) (ms : List Member) → IsResult x.gives → AreParams x.params → IsStmt n x.body k → AreMembers k ms m → AreMembers n (member.Method x ∷ ms) m

pub data AreClasses : ℕ → List Class → ℕ → Type 0 where
  none : (n : ℕ) → AreClasses n [] n
  more : (n k m : ℕ) (c : Class) (cs : List Class) → AreMembers n c.members k → AreClasses k cs m → AreClasses n (c ∷ cs) m
