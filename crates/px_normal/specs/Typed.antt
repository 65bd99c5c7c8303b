-- Typed code: operands and results have the types that their words ask, each number exists, no literal is a reference, and no path runs past the end of a method.
use Rattle.std.specs.Prelude.{◌≡◌, ℕ, ◌≤◌, zero, suc, Bool, true, false, ◌&&◌, ◌||◌, List, [], ◌∷◌, ◌++◌, length, Option, Some, None, slice_get, if◌then◌else◌}
use Rattle.px_value.specs.declared.value.Value.{Value}
use Rattle.px_value.specs.declared.value.Value.TheVariants.{Int, Long, Bool as Truth, Text, Null, Ref}
use Rattle.px_value.specs.declared.op.Op.{Op}
use Rattle.px_value.specs.declared.op.Op.TheVariants as op
use Rattle.px_value.specs.declared.header.Kind.{Kind}
use Rattle.px_value.specs.declared.header.Kind.TheVariants as kind
use Rattle.px_value.specs.declared.statement.Statement.{Statement}
use Rattle.px_value.specs.declared.statement.Statement.TheVariants as statement
use Rattle.px_normal.specs.declared.ty.Ty.{Ty}
use Rattle.px_normal.specs.declared.ty.Ty.TheVariants as ty
use Rattle.px_normal.specs.declared.word.Operand.{Operand}
use Rattle.px_normal.specs.declared.word.Operand.TheVariants.{Slot, Literal}
use Rattle.px_normal.specs.declared.word.Word.{Word}
use Rattle.px_normal.specs.declared.word.Word.TheVariants as w
use Rattle.px_normal.specs.declared.method.Tree.{Tree}
use Rattle.px_normal.specs.declared.method.Tree.TheVariants.{Do, If, Loop}
use Rattle.px_normal.specs.declared.method.Method.{Method}
use Rattle.px_normal.specs.declared.class.Class.{Class}
use Rattle.px_normal.specs.declared.class.Field.{Field}
use Rattle.px_normal.specs.declared.node.Node.{Node}
use Rattle.px_normal.specs.declared.code.Code.{Code}
use Rattle.px_normal.specs.declared.code.Site.{Site}
use Rattle.px_normal.specs.First.{numbered, fields_of}

-- ---- what stands at numbers

abbrev pub type_of : Option Field → Option Ty
type_of None = None
type_of (Some f) = Some f.ty

-- the type of a field, by the places of its class and of its own
abbrev pub field_type : Code → ℕ → ℕ → Option Ty
field_type code class place = type_of (slice_get (fields_of code class) place)

abbrev pub kind_of : Option Site → Option Kind
kind_of None = None
kind_of (Some s) = Some s.kind

-- what a site makes; sites are numbered from 1
abbrev pub site_kind : Code → ℕ → Option Kind
site_kind code site = kind_of (numbered code.sites site)

-- the elements of an array, by the number of their type
abbrev pub element_type : ℕ → Ty
element_type zero = ty.Int
element_type (suc zero) = ty.Long
element_type (suc (suc zero)) = ty.Bool
element_type (suc (suc (suc zero))) = ty.Text
element_type (suc (suc (suc (suc class)))) = ty.Object class

abbrev pub IsNode : Code → ℕ → Type 0
IsNode code node = (n : Node) × (numbered code.nodes node ≡ Some n)

abbrev pub IsClass : Code → ℕ → Type 0
IsClass code class = (c : Class) × (slice_get code.classes class ≡ Some c)

-- a type whose class is there, if it names one
abbrev pub IsType : Code → Ty → Type 0
IsType code (ty.Object class) = IsClass code class
IsType code (ty.Array (suc (suc (suc (suc class))))) = IsClass code class
IsType code t = Unit {0}

-- a statement that gives rows
abbrev pub is_query : Statement → Bool
is_query (statement.ByKey table columns) = true
is_query (statement.ByColumn table columns column) = true
is_query (statement.All table columns) = true
is_query _ = false

abbrev pub IsKind : Code → Kind → Type 0
IsKind code (kind.Object class) = IsClass code class
IsKind code (kind.Array element) = IsType code (ty.Array element)
IsKind code (kind.Rows number) = (s : Statement) × (numbered code.statements number ≡ Some s)

-- ---- operands, in a method whose slots have these types

abbrev pub is_reference : Ty → Bool
is_reference ty.Int = false
is_reference ty.Long = false
is_reference ty.Bool = false
is_reference t = true

-- a literal of a type; none is a reference to an object
abbrev pub IsLiteral : Value → Ty → Type 0
IsLiteral (Int n) t = t ≡ ty.Int
IsLiteral (Long n) t = t ≡ ty.Long
IsLiteral (Truth b) t = t ≡ ty.Bool
IsLiteral (Text bytes) t = t ≡ ty.Text
IsLiteral Null t = is_reference t ≡ true
IsLiteral (Ref object) t = ⊥

abbrev pub HasSlot : List Ty → ℕ → Ty → Type 0
HasSlot slots slot t = slice_get slots slot ≡ Some t

abbrev pub HasTy : List Ty → Operand → Ty → Type 0
HasTy slots (Slot slot) t = HasSlot slots slot t
HasTy slots (Literal v) t = IsLiteral v t

-- a unary operator has its operand twice
abbrev pub HasTyOr : List Ty → Ty → Option Operand → Ty → Type 0
HasTyOr slots left None t = t ≡ left
HasTyOr slots left (Some a) t = HasTy slots a t

-- operands for the first of these slots, in order
abbrev pub AreFirst : List Ty → List Operand → List Ty → Type 0
AreFirst slots [] types = Unit {0}
AreFirst slots (a ∷ rest) [] = ⊥
AreFirst slots (a ∷ rest) (t ∷ types) = HasTy slots a t × AreFirst slots rest types

-- what is sent to the tables
abbrev pub is_sent : Ty → Bool
is_sent ty.Long = true
is_sent ty.Text = true
is_sent t = false

abbrev pub AreSent : List Ty → List Operand → Type 0
AreSent slots [] = Unit {0}
AreSent slots (a ∷ rest) = ((t : Ty) × (is_sent t ≡ true) × HasTy slots a t) × AreSent slots rest

-- ---- operators

-- of two numbers, whether one is a long
abbrev pub wide : Ty → Ty → Option Bool
wide ty.Int ty.Int = Some false
wide ty.Int ty.Long = Some true
wide ty.Long ty.Int = Some true
wide ty.Long ty.Long = Some true
wide t u = None

abbrev pub number_type : Option Bool → Option Ty
number_type None = None
number_type (Some false) = Some ty.Int
number_type (Some true) = Some ty.Long

abbrev pub if_any : Option Bool → Ty → Option Ty
if_any None t = None
if_any (Some b) t = Some t

abbrev pub if_so : Bool → Ty → Option Ty
if_so true t = Some t
if_so false t = None

abbrev pub are_truths : Ty → Ty → Bool
are_truths ty.Bool ty.Bool = true
are_truths t u = false

abbrev pub bits_type : Ty → Ty → Option Ty
bits_type t u = if are_truths t u then Some ty.Bool else number_type (wide t u)

abbrev pub compared_type : Ty → Ty → Option Ty
compared_type t u = if are_truths t u || is_reference t && is_reference u then Some ty.Bool else if_any (wide t u) ty.Bool

abbrev pub is_text : Ty → Bool
is_text ty.Text = true
is_text t = false

abbrev pub is_int : Ty → Bool
is_int ty.Int = true
is_int t = false

abbrev pub is_long : Ty → Bool
is_long ty.Long = true
is_long t = false

abbrev pub is_truth : Ty → Bool
is_truth ty.Bool = true
is_truth t = false

-- what is printed, and joined to a text
abbrev pub is_printed : Ty → Bool
is_printed ty.Int = true
is_printed ty.Long = true
is_printed ty.Bool = true
is_printed ty.Text = true
is_printed t = false

-- the type that an operator gives of two, if it takes them
abbrev pub op_type : Op → Ty → Ty → Option Ty
op_type op.Add t u = number_type (wide t u)
op_type op.Sub t u = number_type (wide t u)
op_type op.Mul t u = number_type (wide t u)
op_type op.Div t u = number_type (wide t u)
op_type op.Rem t u = number_type (wide t u)
op_type op.Neg t u = number_type (wide t u)
op_type op.Inv t u = number_type (wide t u)
op_type op.And t u = bits_type t u
op_type op.Or t u = bits_type t u
op_type op.Xor t u = bits_type t u
op_type op.Shl t u = if_any (wide t u) t
op_type op.Shr t u = if_any (wide t u) t
op_type op.Ushr t u = if_any (wide t u) t
op_type op.Lt t u = if_any (wide t u) ty.Bool
op_type op.Le t u = if_any (wide t u) ty.Bool
op_type op.Gt t u = if_any (wide t u) ty.Bool
op_type op.Ge t u = if_any (wide t u) ty.Bool
op_type op.Eq t u = compared_type t u
op_type op.Ne t u = compared_type t u
op_type op.Not t u = if_so (is_truth t) ty.Bool
op_type op.Widen t u = if_so (is_int t) ty.Long
op_type op.Narrow t u = if_so (is_long t) ty.Int
op_type op.Concat t u = if_so ((is_text t || is_text u) && is_printed t && is_printed u) ty.Text
op_type op.Equals t u = if_so (is_text t && is_text u) ty.Bool
op_type op.Length t u = if_so (is_text t) ty.Int

-- ---- words, in a method with this result and these slots

-- a call's slot has the type of the result, and a void method's has none
abbrev pub ResultFits : List Ty → Option ℕ → Option Ty → Type 0
ResultFits slots None gives = gives ≡ None
ResultFits slots (Some to) gives = (t : Ty) × (gives ≡ Some t) × HasSlot slots to t

abbrev pub IsTypedWord : Code → Option Ty → List Ty → Word → Type 0
IsTypedWord code gives slots (w.Set to a) = (t : Ty) × HasTy slots a t × HasSlot slots to t
IsTypedWord code gives slots (w.Op o to a b) = (t : Ty) × (u : Ty) × (r : Ty) × HasTy slots a t × HasTyOr slots t b u × (op_type o t u ≡ Some r) × HasSlot slots to r
IsTypedWord code gives slots (w.Get to of class place) = (t : Ty) × HasTy slots of (ty.Object class) × (field_type code class place ≡ Some t) × HasSlot slots to t
IsTypedWord code gives slots (w.Put of class place a) = (t : Ty) × HasTy slots of (ty.Object class) × (field_type code class place ≡ Some t) × HasTy slots a t
IsTypedWord code gives slots (w.Load to of index) = (e : ℕ) × HasTy slots of (ty.Array e) × HasTy slots index ty.Int × HasSlot slots to (element_type e)
IsTypedWord code gives slots (w.Store of index a) = (e : ℕ) × HasTy slots of (ty.Array e) × HasTy slots index ty.Int × HasTy slots a (element_type e)
IsTypedWord code gives slots (w.Len to of) = (e : ℕ) × HasTy slots of (ty.Array e) × HasSlot slots to ty.Int
IsTypedWord code gives slots (w.New to class site) = (site_kind code site ≡ Some (kind.Object class)) × HasSlot slots to (ty.Object class)
IsTypedWord code gives slots (w.Array to element size site) = (site_kind code site ≡ Some (kind.Array element)) × HasTy slots size ty.Int × HasSlot slots to (ty.Array element)
IsTypedWord code gives slots (w.Call to of method args) = (callee : Method) × (numbered code.methods method ≡ Some callee) × (length args ≡ callee.params) × AreFirst slots (of ∷ args) callee.slots × ResultFits slots to callee.gives
IsTypedWord code gives slots (w.Query to number site params) = (s : Statement) × (numbered code.statements number ≡ Some s) × (is_query s ≡ true) × (site_kind code site ≡ Some (kind.Rows number)) × AreSent slots params × HasSlot slots to ty.Rows
IsTypedWord code gives slots (w.Update to number params) = (s : Statement) × (numbered code.statements number ≡ Some s) × (is_query s ≡ false) × AreSent slots params × HasSlot slots to ty.Int
IsTypedWord code gives slots (w.Next to of) = HasTy slots of ty.Rows × HasSlot slots to ty.Bool
IsTypedWord code gives slots (w.Long to of column) = HasTy slots of ty.Rows × HasTy slots column ty.Int × HasSlot slots to ty.Long
IsTypedWord code gives slots (w.Text to of column) = HasTy slots of ty.Rows × HasTy slots column ty.Int × HasSlot slots to ty.Text
IsTypedWord code gives slots (w.Print a) = (t : Ty) × (is_printed t ≡ true) × HasTy slots a t
IsTypedWord code gives slots (w.Return None) = gives ≡ None
IsTypedWord code gives slots (w.Return (Some a)) = (t : Ty) × (gives ≡ Some t) × HasTy slots a t

-- ---- statements

mutual
  pub data IsTypedTree (code : Code) (gives : Option Ty) (slots : List Ty) : Tree → Type 0 where
    does : {t : Tree} (node : ℕ) (word : Word) → t ≡ Do node word → IsNode code node → IsTypedWord code gives slots word → IsTypedTree code gives slots t
    branches : {t : Tree} (node : ℕ) (test : Operand) (yes' no' : List Tree) → t ≡ If node test yes' no' → IsNode code node → HasTy slots test ty.Bool → AreTypedTrees code gives slots yes' → AreTypedTrees code gives slots no' → IsTypedTree code gives slots t
    loops : {t : Tree} (first : List Tree) (node : ℕ) (test : Operand) (body : List Tree) → t ≡ Loop first node test body → IsNode code node → HasTy slots test ty.Bool → AreTypedTrees code gives slots first → AreTypedTrees code gives slots body → IsTypedTree code gives slots t

  pub data AreTypedTrees (code : Code) (gives : Option Ty) (slots : List Ty) : List Tree → Type 0 where
    none : AreTypedTrees code gives slots []
    more : {t : Tree} {ts : List Tree} → IsTypedTree code gives slots t → AreTypedTrees code gives slots ts → AreTypedTrees code gives slots (t ∷ ts)

-- No path runs past the end of the list: its last statement is a return, or an `if` neither of whose branches has such a path.
pub data Stops : List Tree → Type 0 where
  returns : {ts : List Tree} (before : List Tree) (node : ℕ) (a : Option Operand) → ts ≡ before ++ Do node (w.Return a) ∷ [] → Stops ts
  branches : {ts : List Tree} (before : List Tree) (node : ℕ) (test : Operand) (yes' no' : List Tree) → ts ≡ before ++ If node test yes' no' ∷ [] → Stops yes' → Stops no' → Stops ts

-- ---- methods

-- the types that jobs have
abbrev pub is_plain : Ty → Bool
is_plain ty.Int = true
is_plain ty.Long = true
is_plain ty.Bool = true
is_plain ty.Text = true
is_plain t = false

-- so many types, each of them plain, stand first among these
abbrev pub ArePlain : ℕ → List Ty → Type 0
ArePlain zero types = Unit {0}
ArePlain (suc n) [] = ⊥
ArePlain (suc n) (t ∷ types) = (is_plain t ≡ true) × ArePlain n types

abbrev pub IsPlainResult : Option Ty → Type 0
IsPlainResult None = Unit {0}
IsPlainResult (Some t) = is_plain t ≡ true

-- an entry is a method of the main class, with plain parameters and a plain result
pub record IsTypedEntry (code : Code) (method : Method) (behind : List Ty) : Type 0 where
  pub class : method.class ≡ code.main
  pub params : ArePlain method.params behind
  pub result : IsPlainResult method.gives

-- `this` is in slot 0, and behind it stand the parameters
pub record IsTypedMethod (code : Code) (method : Method) : Type 0 where
  pub class : IsClass code method.class
  pub node : IsNode code method.node
  pub behind : List Ty
  pub slots : method.slots ≡ ty.Object method.class ∷ behind
  pub params : method.params ≤ length behind
  pub body : AreTypedTrees code method.gives method.slots method.body
  pub stops : Stops method.body
  pub entry : method.entry ≡ true → IsTypedEntry code method behind

-- ---- programs

-- the elements of arrays and rows have a node
abbrev pub IsSiteNode : Code → Kind → Option ℕ → Type 0
IsSiteNode code (kind.Object class) node = node ≡ None
IsSiteNode code k node = (n : ℕ) × (node ≡ Some n) × IsNode code n

pub record IsTyped (code : Code) : Type 0 where
  pub main : IsClass code code.main
  pub methods : (number : ℕ) (method : Method) → numbered code.methods number ≡ Some method → IsTypedMethod code method
  pub sites : (number : ℕ) (site : Site) → numbered code.sites number ≡ Some site → IsKind code site.kind × IsSiteNode code site.kind site.node
  pub fields : (class place : ℕ) (field : Field) → slice_get (fields_of code class) place ≡ Some field → IsNode code field.node
