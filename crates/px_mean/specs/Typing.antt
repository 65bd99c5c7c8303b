-- The typing rules of operators, expressions, statements and methods: when the facts of a program say true things of its trees.
use Rattle.std.specs.Prelude.{◌≡◌, ℕ, Bool, true, false, ◌||◌, List, [], ◌∷◌, ◌++◌, map, Option, Some, None, slice_get}
use Rattle.px_value.specs.declared.op.Op.{Op}
use Rattle.px_value.specs.declared.op.Op.TheVariants as op
use Rattle.px_value.specs.declared.ty.Ty.{Ty as Outer}
use Rattle.px_value.specs.declared.ty.Ty.TheVariants as outer
use Rattle.px_value.specs.declared.statement.Statement.{Statement}
use Rattle.px_value.specs.declared.statement.Statement.TheVariants as statement
use Rattle.px_tree.specs.declared.Sign.{Sign}
use Rattle.px_tree.specs.declared.Sign.TheVariants as sign
use Rattle.px_tree.specs.declared.Base.{Base}
use Rattle.px_tree.specs.declared.Name.{Name}
use Rattle.px_tree.specs.declared.TypeName.{TypeName}
use Rattle.px_tree.specs.declared.Expr.{Expr}
use Rattle.px_tree.specs.declared.ExprForm.TheVariants as e
use Rattle.px_tree.specs.declared.Stmt.{Stmt}
use Rattle.px_tree.specs.declared.StmtForm.TheVariants as st
use Rattle.px_tree.specs.declared.Method.{Method}
use Rattle.px_facts.specs.declared.types.Ty.{Ty}
use Rattle.px_facts.specs.declared.types.Ty.TheVariants as ty
use Rattle.px_facts.specs.declared.types.Element.{Element}
use Rattle.px_facts.specs.declared.checked.Named.{Named}
use Rattle.px_facts.specs.declared.checked.Named.TheVariants as named
use Rattle.px_facts.specs.declared.checked.MethodFact.{MethodFact}
use Rattle.px_facts.specs.declared.checked.Entry.{Entry}
use Rattle.px_facts.specs.declared.checked.Facts.{Facts}
use Rattle.px_facts.specs.declared.operation.Operation.{Operation}
use Rattle.px_facts.specs.Types.{element_type}
use Rattle.px_mean.specs.Facts.{type_at, named_at, by_number, fields_of, op_of, prefix_of}
use Rattle.px_mean.specs.Calls.{Source}
use Rattle.px_mean.specs.Typed.{MayBeNull}

-- ---- operators

-- two numbers, and their type after promotion (JLS 5.6.2)
pub data Promotes : Ty → Ty → Ty → Type 0 where
  ints : Promotes ty.Int ty.Int ty.Int
  int_long : Promotes ty.Int ty.Long ty.Long
  long_int : Promotes ty.Long ty.Int ty.Long
  longs : Promotes ty.Long ty.Long ty.Long

pub data IsArithmetic : Op → Type 0 where
  add : IsArithmetic op.Add
  sub : IsArithmetic op.Sub
  mul : IsArithmetic op.Mul
  div : IsArithmetic op.Div
  rem : IsArithmetic op.Rem

pub data IsOfBits : Op → Type 0 where
  and : IsOfBits op.And
  or : IsOfBits op.Or
  xor : IsOfBits op.Xor

pub data IsShift : Op → Type 0 where
  shl : IsShift op.Shl
  shr : IsShift op.Shr
  ushr : IsShift op.Ushr

pub data IsOrder : Op → Type 0 where
  lt : IsOrder op.Lt
  le : IsOrder op.Le
  gt : IsOrder op.Gt
  ge : IsOrder op.Ge

pub data IsEquality : Op → Type 0 where
  eq : IsEquality op.Eq
  ne : IsEquality op.Ne

-- what may be compared as an object, or null
pub data IsObject : Ty → Type 0 where
  object : (class : ℕ) → IsObject (ty.Object class)
  array : (of : Element) → IsObject (ty.Array of)
  rows : IsObject ty.ResultSet
  null : IsObject ty.Null

-- what stands on both sides of `==` (JLS 15.21); two texts don't
pub data AreCompared : Ty → Ty → Type 0 where
  numbers : (l r t : Ty) → Promotes l r t → AreCompared l r
  truths : AreCompared ty.Boolean ty.Boolean
  objects : (l r : Ty) → IsObject l → IsObject r → AreCompared l r
  text_null : AreCompared ty.Text ty.Null
  null_text : AreCompared ty.Null ty.Text

-- an operator on operands of two types gives the third; a unary one has its operand twice
pub data GivesType : Op → Ty → Ty → Ty → Type 0 where
  arithmetic : (o : Op) (l r t : Ty) → IsArithmetic o → Promotes l r t → GivesType o l r t
  bits : (o : Op) (l r t : Ty) → IsOfBits o → Promotes l r t → GivesType o l r t
  truths : (o : Op) → IsOfBits o → GivesType o ty.Boolean ty.Boolean ty.Boolean
  shift : (o : Op) (l r t : Ty) → IsShift o → Promotes l r t → GivesType o l r l
  order : (o : Op) (l r t : Ty) → IsOrder o → Promotes l r t → GivesType o l r ty.Boolean
  equality : (o : Op) (l r : Ty) → IsEquality o → AreCompared l r → GivesType o l r ty.Boolean
  neg : (t : Ty) → Promotes t t t → GivesType op.Neg t t t
  inv : (t : Ty) → Promotes t t t → GivesType op.Inv t t t
  not : GivesType op.Not ty.Boolean ty.Boolean ty.Boolean
  widen : GivesType op.Widen ty.Int ty.Int ty.Long
  narrow : GivesType op.Narrow ty.Long ty.Long ty.Int
  concat : (l r : Ty) → GivesType op.Concat l r ty.Text

-- a prefix on a type gives the second
abbrev pub PrefixGives : Option Op → Ty → Ty → Type 0
PrefixGives None of t = of ≡ t
PrefixGives (Some o) of t = GivesType o of of t

abbrev pub BinaryGives : Sign → Ty → Ty → Ty → Type 0
BinaryGives sign.Both l r t = (l ≡ t) × (r ≡ t)
BinaryGives sign.Either l r t = (l ≡ t) × (r ≡ t)
BinaryGives s l r t = GivesType (op_of s l r) l r t

-- a value of the first type is assigned to the second (JLS 5.2)
pub data Fits : Ty → Ty → Type 0 where
  same : (t : Ty) → Fits t t
  wide : Fits ty.Int ty.Long
  null : (to : Ty) → MayBeNull to → Fits ty.Null to

-- ---- expressions, in a method whose slots have these types

-- a local, or a field of `this`
pub data IsVariable (F : Facts) (slots : List Ty) : Named → Ty → Type 0 where
  local : (slot : ℕ) (t : Ty) → slice_get slots slot ≡ Some t → IsVariable F slots (named.Local slot) t
  field : (class place : ℕ) (t : Ty) → slice_get slots 0 ≡ Some (ty.Object class) → slice_get (fields_of F class) place ≡ Some t → IsVariable F slots (named.Field class place) t

-- a member of a value of the first type
pub data IsMember (F : Facts) : Named → Ty → Ty → Type 0 where
  field : (class place : ℕ) (t : Ty) → slice_get (fields_of F class) place ≡ Some t → IsMember F (named.Field class place) (ty.Object class) t
  array_length : (of : Element) → IsMember F named.ArrayLength (ty.Array of) ty.Int

-- a method of a String or of a result set: the type of the receiver, those of its parameters, and that of its result
pub data IsLibrary : Named → Ty → List Ty → Ty → Type 0 where
  text_length : IsLibrary named.TextLength ty.Text [] ty.Int
  text_equals : IsLibrary named.TextEquals ty.Text (ty.Text ∷ []) ty.Boolean
  next : IsLibrary named.Next ty.ResultSet [] ty.Boolean
  get_long : IsLibrary named.GetLong ty.ResultSet (ty.Int ∷ []) ty.Long
  get_string : IsLibrary named.GetString ty.ResultSet (ty.Int ∷ []) ty.Text

-- the type of a parameter of a statement
pub data IsSendable : Ty → Type 0 where
  long : IsSendable ty.Long
  text : IsSendable ty.Text

abbrev pub AreSendable : List Ty → Type 0
AreSendable [] = Unit {0}
AreSendable (t ∷ ts) = IsSendable t × AreSendable ts

abbrev pub is_select : Statement → Bool
is_select (statement.ByKey table columns) = true
is_select (statement.ByColumn table columns column) = true
is_select (statement.All table columns) = true
is_select _ = false

abbrev pub literal_type : Bool → Ty
literal_type true = ty.Long
literal_type false = ty.Int

mutual
  pub data IsTypedExpr (F : Facts) (slots : List Ty) : Expr → Type 0 where
    number : (x : Expr) (digits : List ℕ) (long : Bool) → x.form ≡ e.Number digits long → type_at F x.id ≡ literal_type long → IsTypedExpr F slots x
    text : (x : Expr) (bytes : List ℕ) → x.form ≡ e.Str bytes → type_at F x.id ≡ ty.Text → IsTypedExpr F slots x
    truth : (x : Expr) → x.form ≡ e.True → type_at F x.id ≡ ty.Boolean → IsTypedExpr F slots x
    falsehood : (x : Expr) → x.form ≡ e.False → type_at F x.id ≡ ty.Boolean → IsTypedExpr F slots x
    null : (x : Expr) → x.form ≡ e.Null → type_at F x.id ≡ ty.Null → IsTypedExpr F slots x
    this : (x : Expr) → x.form ≡ e.This → slice_get slots 0 ≡ Some (type_at F x.id) → IsTypedExpr F slots x
    variable : (x : Expr) (n : Name) → x.form ≡ e.Name n → IsVariable F slots (named_at F x.id) (type_at F x.id) → IsTypedExpr F slots x
    group : (x inner : Expr) → x.form ≡ e.Group inner → type_at F inner.id ≡ type_at F x.id → IsTypedExpr F slots inner → IsTypedExpr F slots x
    field : (x of : Expr) (n : Name) → x.form ≡ e.Field of n → IsMember F (named_at F x.id) (type_at F of.id) (type_at F x.id) → IsTypedExpr F slots of → IsTypedExpr F slots x
    indexed : (x of index : Expr) (t : Element) → x.form ≡ e.Index of index → type_at F of.id ≡ ty.Array t → element_type t ≡ type_at F x.id → IsTypedExpr F slots of → IsTypedExpr F slots index → IsTypedExpr F slots x
    call : (x : Expr) (of : Option Expr) (n : Name) (args : List Expr) (method : ℕ) (fact : MethodFact) → x.form ≡ e.Call of n args → named_at F x.id ≡ named.Method method → by_number F.methods method ≡ Some fact → fact.result ≡ type_at F x.id → IsReceiver F slots (ty.Object fact.class) of → AreArguments F slots fact.params args → IsTypedExpr F slots x
    library : (x of : Expr) (n : Name) (args : List Expr) (params : List Ty) → x.form ≡ e.Call (Some of) n args → IsLibrary (named_at F x.id) (type_at F of.id) params (type_at F x.id) → IsTypedExpr F slots of → AreArguments F slots params args → IsTypedExpr F slots x
    query : (x : Expr) (of : Option Expr) (n : Name) (written : Expr) (args : List Expr) (number site : ℕ) (o : Operation) → x.form ≡ e.Call of n (written ∷ args) → named_at F x.id ≡ named.Query number site → by_number F.operations number ≡ Some o → type_at F x.id ≡ ty.ResultSet → AreSendable o.params → AreArguments F slots o.params args → IsTypedExpr F slots x
    update : (x : Expr) (of : Option Expr) (n : Name) (written : Expr) (args : List Expr) (number : ℕ) (o : Operation) → x.form ≡ e.Call of n (written ∷ args) → named_at F x.id ≡ named.Update number → by_number F.operations number ≡ Some o → is_select o.statement ≡ false → type_at F x.id ≡ ty.Int → AreSendable o.params → AreArguments F slots o.params args → IsTypedExpr F slots x
    new_object : (x : Expr) (n : Name) (class site : ℕ) → x.form ≡ e.NewObject n → named_at F x.id ≡ named.NewObject class site → type_at F x.id ≡ ty.Object class → IsTypedExpr F slots x
    new_array : (x size : Expr) (b : Base) (site : ℕ) (t : Element) → x.form ≡ e.NewArray b size → named_at F x.id ≡ named.NewArray site → type_at F x.id ≡ ty.Array t → IsTypedExpr F slots size → IsTypedExpr F slots x
    prefix : (x y : Expr) (s : Sign) → x.form ≡ e.Prefix s y → PrefixGives (prefix_of s (type_at F y.id)) (type_at F y.id) (type_at F x.id) → IsTypedExpr F slots y → IsTypedExpr F slots x
    binary : (x l r : Expr) (s : Sign) (at : ℕ) → x.form ≡ e.Binary s at l r → BinaryGives s (type_at F l.id) (type_at F r.id) (type_at F x.id) → IsTypedExpr F slots l → IsTypedExpr F slots r → IsTypedExpr F slots x

  -- a receiver of a type; where none is written it is `this`
  pub data IsReceiver (F : Facts) (slots : List Ty) : Ty → Option Expr → Type 0 where
    own : (t : Ty) → slice_get slots 0 ≡ Some t → IsReceiver F slots t None
    of : (t : Ty) (x : Expr) → type_at F x.id ≡ t → IsTypedExpr F slots x → IsReceiver F slots t (Some x)

  -- one for each parameter, which it fits
  pub data AreArguments (F : Facts) (slots : List Ty) : List Ty → List Expr → Type 0 where
    none : AreArguments F slots [] []
    more : (t : Ty) (ts : List Ty) (x : Expr) (xs : List Expr) → Fits (type_at F x.id) t → IsTypedExpr F slots x → AreArguments F slots ts xs → AreArguments F slots (t ∷ ts) (x ∷ xs)

-- ---- statements, in a method that has this result

-- the local of a statement
abbrev pub WritesLocal : Facts → List Ty → Stmt → Type 0
WritesLocal F slots x = (slot : ℕ) × (named_at F x.id ≡ named.Local slot) × (slice_get slots slot ≡ Some (type_at F x.id))

-- The truth value tells whether it can complete normally (JLS 14.21).
mutual
  pub data IsTypedStmt (F : Facts) (slots : List Ty) (result : Ty) : Bool → Stmt → Type 0 where
    block : (x : Stmt) (items : List Stmt) (c : Bool) → x.form ≡ st.Block items → AreTypedStmts F slots result c items → IsTypedStmt F slots result c x
    empty : (x : Stmt) → x.form ≡ st.Empty → IsTypedStmt F slots result true x
    local : (x : Stmt) (t : TypeName) (n : Name) (value : Expr) → x.form ≡ st.Local t n value → WritesLocal F slots x → Fits (type_at F value.id) (type_at F x.id) → IsTypedExpr F slots value → IsTypedStmt F slots result true x
    assign : (x : Stmt) (place value : Expr) → x.form ≡ st.Assign place value → Fits (type_at F value.id) (type_at F place.id) → IsTypedExpr F slots place → IsTypedExpr F slots value → IsTypedStmt F slots result true x
    compound : (x : Stmt) (n : Name) (s : Sign) (value : Expr) → x.form ≡ st.Compound n s value → WritesLocal F slots x → GivesType (op_of s (type_at F x.id) (type_at F value.id)) (type_at F x.id) (type_at F value.id) (type_at F x.id) → IsTypedExpr F slots value → IsTypedStmt F slots result true x
    up : (x : Stmt) (n : Name) → x.form ≡ st.Up n → WritesLocal F slots x → Promotes (type_at F x.id) (type_at F x.id) (type_at F x.id) → IsTypedStmt F slots result true x
    down : (x : Stmt) (n : Name) → x.form ≡ st.Down n → WritesLocal F slots x → Promotes (type_at F x.id) (type_at F x.id) (type_at F x.id) → IsTypedStmt F slots result true x
    call : (x : Stmt) (value : Expr) → x.form ≡ st.Call value → IsTypedExpr F slots value → IsTypedStmt F slots result true x
    if_else : (x : Stmt) (test : Expr) (a b : Stmt) (c d : Bool) → x.form ≡ st.If test a (Some b) → IsTypedExpr F slots test → IsTypedStmt F slots result c a → IsTypedStmt F slots result d b → IsTypedStmt F slots result (c || d) x
    if_only : (x : Stmt) (test : Expr) (a : Stmt) (c : Bool) → x.form ≡ st.If test a None → IsTypedExpr F slots test → IsTypedStmt F slots result c a → IsTypedStmt F slots result true x
    while : (x : Stmt) (test : Expr) (body : Stmt) (c : Bool) → x.form ≡ st.While test body → IsTypedExpr F slots test → IsTypedStmt F slots result c body → IsTypedStmt F slots result true x
    for_loop : (x begin : Stmt) (test : Expr) (last body : Stmt) (b c d : Bool) → x.form ≡ st.For begin test last body → IsTypedStmt F slots result b begin → IsTypedExpr F slots test → IsTypedStmt F slots result c last → IsTypedStmt F slots result d body → IsTypedStmt F slots result true x
    leave : (x : Stmt) → x.form ≡ st.Return None → result ≡ ty.Void → IsTypedStmt F slots result false x
    give : (x : Stmt) (value : Expr) → x.form ≡ st.Return (Some value) → Fits (type_at F value.id) result → IsTypedExpr F slots value → IsTypedStmt F slots result false x
    print : (x : Stmt) (value : Expr) → x.form ≡ st.Print value → IsTypedExpr F slots value → IsTypedStmt F slots result true x

  pub data AreTypedStmts (F : Facts) (slots : List Ty) (result : Ty) : Bool → List Stmt → Type 0 where
    none : AreTypedStmts F slots result true []
    last : (x : Stmt) (c : Bool) → IsTypedStmt F slots result c x → AreTypedStmts F slots result c (x ∷ [])
    more : (x : Stmt) (xs : List Stmt) (c d : Bool) → IsTypedStmt F slots result c x → AreTypedStmts F slots result d xs → AreTypedStmts F slots result d (x ∷ xs)

-- ---- programs

-- slot 0 is `this`, then come the parameters; a method that isn't void can't complete normally (JLS 8.4.7)
pub record IsTypedMethod (F : Facts) (m : Method) (fact : MethodFact) : Type 0 where
  pub locals : List Ty
  pub slots : fact.slots ≡ ty.Object fact.class ∷ fact.params ++ locals
  pub completes : Bool
  pub body : IsTypedStmt F fact.slots fact.result completes m.body
  pub ends : completes ≡ true → fact.result ≡ ty.Void

-- a type as whoever calls an entry has it; no object is handed to an entry
abbrev pub inner_type : Outer → Ty
inner_type outer.Int = ty.Int
inner_type outer.Long = ty.Long
inner_type outer.Bool = ty.Boolean
inner_type outer.Text = ty.Text
inner_type outer.Ref = ty.Null

abbrev pub given_type : Option Outer → Ty
given_type None = ty.Void
given_type (Some t) = inner_type t

pub record IsTypedEntry (F : Facts) (entry : Entry) : Type 0 where
  pub fact : MethodFact
  pub fact_is : by_number F.methods entry.method ≡ Some fact
  pub class : fact.class ≡ F.main.class
  pub params : fact.params ≡ map inner_type entry.params
  pub result : fact.result ≡ given_type entry.gives

-- the facts say true things of the trees, and each method that they know is there
pub record IsTyped (P : Source) : Type 0 where
  pub methods : (number : ℕ) (fact : MethodFact) → by_number P.facts.methods number ≡ Some fact → (m : Method) × (by_number P.methods number ≡ Some m) × IsTypedMethod P.facts m fact
  pub entries : (place : ℕ) (entry : Entry) → slice_get P.facts.main.entries place ≡ Some entry → IsTypedEntry P.facts entry
