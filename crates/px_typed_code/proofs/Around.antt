-- What stands around an expression: what the code has of the program's facts, and what the facts promise.
use Rattle.std.proofs.Common.{◌≡◌, ℕ, suc, ◌+◌, true, false, List, [], ◌∷◌, ◌++◌, length, map, Some, None, slice_get, refl, ap, arith}
use Rattle.px_value.specs.declared.header.Kind.{Kind}
use Rattle.px_value.specs.declared.statement.Statement.{Statement}
use Rattle.px_value.specs.declared.statement.Statement.TheVariants as statement
use Rattle.px_facts.specs.declared.types.Ty.{Ty as Static}
use Rattle.px_facts.specs.declared.types.Ty.TheVariants as static
use Rattle.px_facts.specs.declared.types.Element.{Element}
use Rattle.px_facts.specs.declared.types.Element.TheVariants as element
use Rattle.px_facts.specs.Types.{is_void, is_null, element_type as static_element}
use Rattle.px_facts.specs.declared.checked.Facts.{Facts}
use Rattle.px_facts.specs.declared.checked.MethodFact.{MethodFact}
use Rattle.px_facts.specs.declared.operation.Operation.{Operation}
use Rattle.px_mean.specs.Facts.{type_at, named_at, by_number, fields_of, element_number}
use Rattle.px_mean.specs.Typing.{is_select}
use Rattle.px_normal.specs.declared.ty.Ty.{Ty}
use Rattle.px_normal.specs.declared.ty.Ty.TheVariants as ty
use Rattle.px_normal.specs.declared.word.Operand.{Operand}
use Rattle.px_normal.specs.declared.method.Method.{Method}
use Rattle.px_normal.specs.declared.code.Code.{Code}
use Rattle.px_normal.specs.First.{numbered}
use Rattle.px_normal.specs.Typed.{field_type, site_kind, element_type, is_query, AreFirst, AreSent, is_sent}
use Rattle.px_mean.specs.Typing as typing
use Rattle.px_mean.specs.Typing.{AreSendable, IsSendable}
use Rattle.px_lowering.specs.Types.{code_type, code_result}
use Rattle.px_lowering.specs.Allocations.{kind_of}
use Rattle.px_typed_code.specs.Values.{is_value, is_result}
use Rattle.px_typed_code.specs.Laws.{site_of}
use Rattle.px_typed_code.proofs.Operators.{IsPlain, never, never_so}
use Rattle.px_typed_code.proofs.Drafts.{Grows, OperandFits, has_ty, operand_more}

-- a known method in the code: `this` and the parameters stand first
pub record IsMethodOf (C : Code) (number : ℕ) (fact : MethodFact) : Type 0 where
  pub method : Method
  pub there : numbered C.methods number ≡ Some method
  pub params : method.params ≡ length fact.params
  pub gives : method.gives ≡ code_result fact.result
  pub behind : List Ty
  pub slots : method.slots ≡ ty.Object fact.class ∷ (map code_type fact.params ++ behind)

pub record IsCodeOf (F : Facts) (C : Code) : Type 0 where
  pub methods : (number : ℕ) (fact : MethodFact) → by_number F.methods number ≡ Some fact → IsMethodOf C number fact
  pub params : (number place : ℕ) (fact : MethodFact) (t : Static) → by_number F.methods number ≡ Some fact → slice_get fact.params place ≡ Some t → is_value t ≡ true
  pub results : (number : ℕ) (fact : MethodFact) → by_number F.methods number ≡ Some fact → is_result fact.result ≡ true
  pub fields : (class place : ℕ) (t : Static) → slice_get (fields_of F class) place ≡ Some t → field_type C class place ≡ Some (code_type t)
  pub values : (class place : ℕ) (t : Static) → slice_get (fields_of F class) place ≡ Some t → is_value t ≡ true
  pub sites : (id site : ℕ) (k : Kind) → site_of (named_at F id) ≡ Some site → kind_of (named_at F id) (type_at F id) ≡ Some k → site_kind C site ≡ Some k
  pub statements : (number : ℕ) (o : Operation) → by_number F.operations number ≡ Some o → numbered C.statements number ≡ Some o.statement

pub query_is : (s : Statement) → is_query s ≡ is_select s
query_is (statement.ByKey t c) = refl
query_is (statement.ByColumn t c k) = refl
query_is (statement.All t c) = refl
query_is (statement.Update t c) = refl
query_is (statement.Insert t) = refl
query_is (statement.Delete t) = refl

-- ---- types of variables

pub value_plain : (t : Static) → is_value t ≡ true → IsPlain t
value_plain static.Unknown h = never_so h
value_plain static.Void h = never_so h
value_plain static.Null h = never_so h
value_plain static.Int h = record { void = refl; null = refl }
value_plain static.Long h = record { void = refl; null = refl }
value_plain static.Boolean h = record { void = refl; null = refl }
value_plain static.Text h = record { void = refl; null = refl }
value_plain (static.Object class) h = record { void = refl; null = refl }
value_plain (static.Array of) h = record { void = refl; null = refl }
value_plain static.ResultSet h = record { void = refl; null = refl }

pub element_plain : (e : Element) → IsPlain (static_element e)
element_plain element.Int = record { void = refl; null = refl }
element_plain element.Long = record { void = refl; null = refl }
element_plain element.Boolean = record { void = refl; null = refl }
element_plain element.Text = record { void = refl; null = refl }
element_plain (element.Object class) = record { void = refl; null = refl }

pub element_is : (e : Element) → element_type (element_number e) ≡ code_type (static_element e)
element_is element.Int = refl
element_is element.Long = refl
element_is element.Boolean = refl
element_is element.Text = refl
element_is (element.Object class) = let e : 4 + class ≡ suc (suc (suc (suc class))) = omega arith in ap element_type e

-- ---- arguments

abbrev pub ArgsFit : List Ty → List Static → List Operand → Type 0
ArgsFit slots [] [] = Unit {0}
ArgsFit slots (t ∷ ts) (a ∷ rest) = OperandFits slots t a × ArgsFit slots ts rest
ArgsFit slots _ _ = ⊥

pub args_more : (slots more : List Ty) (ts : List Static) (xs : List Operand) → Grows slots more → ArgsFit slots ts xs → ArgsFit more ts xs
args_more slots more [] [] g h = tt
args_more slots more (t ∷ ts) (a ∷ xs) g h = (operand_more slots more t a g h.0, args_more slots more ts xs g h.1)
args_more slots more [] (a ∷ xs) g h = absurd h
args_more slots more (t ∷ ts) [] g h = absurd h

pub args_first : (slots : List Ty) (ts : List Static) (xs : List Operand) (behind : List Ty) → ArgsFit slots ts xs → AreFirst slots xs (map code_type ts ++ behind)
args_first slots [] [] behind h = tt
args_first slots (t ∷ ts) (a ∷ xs) behind h = (has_ty slots t a h.0, args_first slots ts xs behind h.1)
args_first slots [] (a ∷ xs) behind h = absurd h
args_first slots (t ∷ ts) [] behind h = absurd h

pub args_count : (slots : List Ty) (ts : List Static) (xs : List Operand) → ArgsFit slots ts xs → length xs ≡ length ts
args_count slots [] [] h = refl
args_count slots (t ∷ ts) (a ∷ xs) h = ap suc (args_count slots ts xs h.1)
args_count slots [] (a ∷ xs) h = absurd h
args_count slots (t ∷ ts) [] h = absurd h

sendable_sent : (t : Static) → IsSendable t → is_sent (code_type t) ≡ true
sendable_sent _ typing.IsSendable.long = refl
sendable_sent _ typing.IsSendable.text = refl

pub args_sent : (slots : List Ty) (ts : List Static) (xs : List Operand) → AreSendable ts → ArgsFit slots ts xs → AreSent slots xs
args_sent slots [] [] s h = tt
args_sent slots (t ∷ ts) (a ∷ xs) s h = ((code_type t, sendable_sent t s.0, has_ty slots t a h.0), args_sent slots ts xs s.1 h.1)
args_sent slots [] (a ∷ xs) s h = absurd h
args_sent slots (t ∷ ts) [] s h = absurd h

pub sendable_value : (t : Static) → IsSendable t → is_value t ≡ true
sendable_value _ typing.IsSendable.long = refl
sendable_value _ typing.IsSendable.text = refl

-- ---- results

pub result_null : (t : Static) → is_result t ≡ true → is_null t ≡ false
result_null static.Unknown h = never_so h
result_null static.Void h = refl
result_null static.Null h = never_so h
result_null static.Int h = refl
result_null static.Long h = refl
result_null static.Boolean h = refl
result_null static.Text h = refl
result_null (static.Object class) h = refl
result_null (static.Array of) h = refl
result_null static.ResultSet h = refl

pub result_some : (t : Static) → is_void t ≡ false → code_result t ≡ Some (code_type t)
result_some static.Unknown h = refl
result_some static.Void h = never h
result_some static.Null h = refl
result_some static.Int h = refl
result_some static.Long h = refl
result_some static.Boolean h = refl
result_some static.Text h = refl
result_some (static.Object class) h = refl
result_some (static.Array of) h = refl
result_some static.ResultSet h = refl

pub result_none : (t : Static) → is_void t ≡ true → code_result t ≡ None
result_none static.Unknown h = never_so h
result_none static.Void h = refl
result_none static.Null h = never_so h
result_none static.Int h = never_so h
result_none static.Long h = never_so h
result_none static.Boolean h = never_so h
result_none static.Text h = never_so h
result_none (static.Object class) h = never_so h
result_none (static.Array of) h = never_so h
result_none static.ResultSet h = never_so h
