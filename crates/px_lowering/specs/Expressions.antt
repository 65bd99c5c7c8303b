-- Expressions, and the assignment to one.
use Rattle.std.specs.Prelude.{ℕ, ◌+◌, Bool, true, false, List, [], ◌∷◌, ◌++◌, length, map, Option, Some, None, option_map, slice_index_or, Ok, Err}
use Rattle.px_value.specs.declared.value.Value.{Value}
use Rattle.px_value.specs.declared.value.Value.TheVariants.{Bool as Truth, Text, Null}
use Rattle.px_value.specs.declared.op.Op.{Op}
use Rattle.px_value.specs.declared.op.Op.TheVariants as op
use Rattle.px_value.specs.Operators.{apply}
use Rattle.px_tree.specs.declared.Sign.{Sign}
use Rattle.px_tree.specs.declared.Sign.TheVariants as sign
use Rattle.px_tree.specs.declared.Expr.{Expr, Expr-F, fold-Expr}
use Rattle.px_tree.specs.declared.ExprForm.{ExprForm, ExprForm-F, out-ExprForm}
use Rattle.px_tree.specs.declared.ExprForm.TheOpen.{ExprForm-F as e}
use Rattle.px_facts.specs.declared.types.Ty.{Ty as Static}
use Rattle.px_facts.specs.declared.types.Ty.TheVariants as static
use Rattle.px_facts.specs.declared.checked.Checked.{Checked}
use Rattle.px_facts.specs.declared.checked.Named.{Named}
use Rattle.px_facts.specs.declared.checked.Named.TheVariants as named
use Rattle.px_mean.specs.Facts.{type_at, named_at, params_of, op_of, prefix_of, element_number}
use Rattle.px_mean.specs.Expressions.{literal, is_operation, operands}
use Rattle.px_normal.specs.declared.word.Operand.{Operand}
use Rattle.px_normal.specs.declared.word.Operand.TheVariants.{Slot, Literal}
use Rattle.px_normal.specs.declared.word.Word.TheVariants as w
use Rattle.px_normal.specs.declared.method.Tree.{Tree}
use Rattle.px_normal.specs.declared.method.Tree.TheVariants.{If}
use Rattle.px_normal.specs.declared.node.Counter.{Counter}
use Rattle.px_normal.specs.declared.node.Counter.TheVariants.{Begun, Completed}
use Rattle.px_lowering.specs.declared.draft.Draft.{Draft}
use Rattle.px_lowering.specs.declared.valued.Step.{Step}
use Rattle.px_lowering.specs.declared.valued.Step.TheVariants as step
use Rattle.px_lowering.specs.declared.valued.Had.{Had}
use Rattle.px_lowering.specs.declared.valued.Had.TheVariants.{Held, Chosen, Made}
use Rattle.px_lowering.specs.declared.calls.Received.{Received}
use Rattle.px_lowering.specs.declared.calls.Arguments.{Arguments}
use Rattle.px_lowering.specs.Types.{code_type}
use Rattle.px_lowering.specs.Emit.{Lasted, Operated, Temped, emitted, noded, with_trees, operand_of, temp_of, slot_of, fitted}

abbrev pub Lowers : Type 0
Lowers = Draft → Lasted

-- an expression as a part of another one: its number, and its value
pub record Part : Type 0 where
  pub id : ℕ
  pub lower : Lowers

-- what an expression is lowered to: itself, and the value of a bare literal
pub record Low : Type 0 where
  pub part : Part
  pub number : Option Value

abbrev pub low_value : ℕ → Lowers → Low
low_value id l = record { part = record { id = id; lower = l }; number = None }

abbrev pub part_in : Low → Part
part_in l = l.part

-- ---- values

abbrev pub valued : Had → (id token : ℕ) → Lowers
valued h id token o = record { out = o; value = record { id = id; token = token; had = h } }

abbrev pub stands : Value → Had
stands v = Held (Literal v)

-- by a statement that gives a value of the expression's own type
abbrev pub made : Checked → ℕ → Step → Counter → Had
made P id s counter = Made s (code_type (type_at P.facts id)) counter

abbrev pub operand_at : Checked → Part → Draft → Operated
operand_at P x o = operand_of P (x.lower o)

-- an expression, where a value of this type is wanted
abbrev pub fit_to : Checked → Static → Part → Draft → Lasted
fit_to P to x o = let v = x.lower o in fitted P (type_at P.facts x.id) to v.value.id v.value.token v.value.had v.out

abbrev pub fitted_operand : Checked → Static → Part → Draft → Operated
fitted_operand P to x o = operand_of P (fit_to P to x o)

-- ---- names and members

abbrev pub name_had : Checked → Named → ℕ → Had
name_had P (named.Local slot) id = Held (Slot slot)
name_had P (named.Field class place) id = made P id (step.Get (Slot 0) class place) (Begun id)
name_had P _ id = stands Null

abbrev pub member_had : Checked → Named → ℕ → Operand → ℕ → Had
member_had P (named.Field class place) id of of_id = made P id (step.Get of class place) (Completed of_id)
member_had P named.ArrayLength id of of_id = made P id (step.Len of) (Completed of_id)
member_had P _ id of of_id = stands Null

abbrev pub member_low : Checked → Part → (id token : ℕ) → Lowers
member_low P of id token o = let a = operand_at P of o in valued (member_had P (named_at P.facts id) id a.operand of.id) id token a.out

abbrev pub index_low : Checked → Part → Part → (id token : ℕ) → Lowers
index_low P of index id token o =
    let a = operand_at P of o in
    let i = operand_at P index a.out in
    valued (made P id (step.Load a.operand i.operand) (Completed index.id)) id token i.out

-- ---- `new`

abbrev pub object_had : Checked → Named → ℕ → Had
object_had P (named.NewObject class site) id = made P id (step.New class site) (Begun id)
object_had P _ id = stands Null

abbrev pub array_had : Checked → Named → Static → ℕ → Operand → ℕ → Had
array_had P (named.NewArray site) (static.Array element) id n n_id = made P id (step.Array (element_number element) n site) (Completed n_id)
array_had P _ t id n n_id = stands Null

abbrev pub array_low : Checked → Part → (id token : ℕ) → Lowers
array_low P n id token o = let a = operand_at P n o in valued (array_had P (named_at P.facts id) (type_at P.facts id) id a.operand n.id) id token a.out

-- ---- operators

abbrev pub negated : Value → Value
negated v = elim (apply op.Neg v v) [ Ok x ↦ x | Err x ↦ Null ]

-- a bare number
abbrev pub number_in : ExprForm-F ExprForm Expr → Option Value
number_in (e.Number digits long) = Some (literal digits long)
number_in _ = None

abbrev pub number_of : Expr → Option Value
number_of x = number_in (out-ExprForm x.form)

-- a minus with a number right behind it is a literal
abbrev pub literal_behind : Sign → Option Value → Option Value
literal_behind sign.Minus (Some v) = Some (negated v)
literal_behind s number = None

-- a prefix without an operator leaves the value as it is
abbrev pub prefix_low : Checked → Option Value → Option Op → Part → (id token : ℕ) → Lowers
prefix_low P (Some v) f x id token o = valued (stands v) id token o
prefix_low P None None x id token o = x.lower o
prefix_low P None (Some f) x id token o = let a = operand_at P x o in valued (made P id (step.Op f a.operand None) (Completed x.id)) id token a.out

abbrev pub two_low : Checked → Op → Part → Part → (id token : ℕ) → Lowers
two_low P f l r id token o =
    let a = operand_at P l o in
    let b = operand_at P r a.out in
    valued (made P id (step.Op f a.operand (Some b.operand)) (Completed r.id)) id token b.out

-- the right operand's statements stand where it counts
abbrev pub choice : Bool → ℕ → ℕ → List Tree → Tree
choice true node temp code = If node (Slot temp) code []
choice false node temp code = If node (Slot temp) [] code

-- behind the left operand, which is in a temporary
abbrev pub chosen : Checked → Bool → Part → Part → (id token : ℕ) → Temped → Lasted
chosen P both l r id token a =
    let b = slot_of P a.temp token (r.lower (with_trees [] (noded P token (Completed l.id) a.out))) in
    valued (Chosen a.temp) id token (with_trees (a.out.trees ++ choice both (length a.out.nodes + 1) a.temp b.trees ∷ []) b)

abbrev pub choice_low : Checked → Bool → Part → Part → (id token : ℕ) → Lowers
choice_low P both l r id token o = chosen P both l r id token (temp_of P token (l.lower o))

-- whether a sign is that of a choice, and of which
abbrev pub choice_of : Sign → Option Bool
choice_of sign.Both = Some true
choice_of sign.Either = Some false
choice_of _ = None

abbrev pub by_choice : Checked → Option Bool → Op → Part → Part → (id token : ℕ) → Lowers
by_choice P None f l r id token o = two_low P f l r id token o
by_choice P (Some both) f l r id token o = choice_low P both l r id token o

abbrev pub binary_low : Checked → Sign → Part → Part → (id token : ℕ) → Lowers
binary_low P s l r id token o = by_choice P (choice_of s) (op_of s (type_at P.facts l.id) (type_at P.facts r.id)) l r id token o

-- ---- calls

pub record Receiving : Type 0 where
  pub out : Draft
  pub value : Received

-- `this` where none is written; `Db` is no value
abbrev pub received : Checked → Bool → Option Part → ℕ → Draft → Receiving
received P true of id o = record { out = o; value = record { operand = Slot 0; counter = Begun id } }
received P false None id o = record { out = o; value = record { operand = Slot 0; counter = Begun id } }
received P false (Some of) id o = let a = operand_at P of o in record { out = a.out; value = record { operand = a.operand; counter = Completed of.id } }

pub record Arguing : Type 0 where
  pub out : Draft
  pub value : Arguments

abbrev pub one_more : Operand → Arguing → Arguing
one_more a rest = record { out = rest.out; value = record { operands = a ∷ rest.value.operands; counter = rest.value.counter } }

-- the arguments from one on, each fitted to the type of its parameter; a call runs as often as its last operand completed
abbrev pub arguments : Checked → List Static → ℕ → Counter → List Part → Draft → Arguing
arguments P types place before [] o = record { out = o; value = record { operands = []; counter = before } }
arguments P types place before (x ∷ xs) o =
    let a = fitted_operand P (slice_index_or types place static.Unknown) x o in
    one_more a.operand (arguments P types (place + 1) (Completed x.id) xs a.out)

-- the first one, or another where there is none
abbrev pub first_or : Operand → List Operand → Operand
first_or a [] = a
first_or a (b ∷ rest) = b

abbrev pub first_of : List Operand → Operand
first_of args = first_or (Literal Null) args

abbrev pub step_of : Named → Operand → List Operand → Option Step
step_of (named.Method method) of args = Some (step.Call of method args)
step_of named.TextLength of args = Some (step.Op op.Length of None)
step_of named.TextEquals of args = Some (step.Op op.Equals of (Some (first_of args)))
step_of (named.Query number site) of args = Some (step.Query number site args)
step_of (named.Update number) of args = Some (step.Update number args)
step_of named.Next of args = Some (step.Next of)
step_of named.GetLong of args = Some (step.Long of (first_of args))
step_of named.GetString of args = Some (step.Text of (first_of args))
step_of _ of args = None

abbrev pub step_had : Checked → ℕ → Counter → Option Step → Had
step_had P id counter None = stands Null
step_had P id counter (Some s) = made P id s counter

abbrev pub call_low : Checked → Named → Option Part → List Part → (id token : ℕ) → Lowers
call_low P n of args id token o =
    let a = received P (is_operation n) of id o in
    let r = arguments P (params_of P.facts n) 0 a.value.counter (operands n args) a.out in
    valued (step_had P id r.value.counter (step_of n a.value.operand r.value.operands)) id token r.out

-- ---- one level of an expression, by its number and its first token

abbrev pub expr_low : Checked → ExprForm-F (ℕ → ℕ → Low) Low → ℕ → ℕ → Low
expr_low P (e.Number digits long) id token = record { part = record { id = id; lower = valued (stands (literal digits long)) id token }; number = Some (literal digits long) }
expr_low P (e.Str bytes) id token = low_value id (valued (stands (Text bytes)) id token)
expr_low P e.True id token = low_value id (valued (stands (Truth true)) id token)
expr_low P e.False id token = low_value id (valued (stands (Truth false)) id token)
expr_low P e.Null id token = low_value id (valued (stands Null) id token)
expr_low P e.This id token = low_value id (valued (Held (Slot 0)) id token)
expr_low P (e.Name n) id token = low_value id (valued (name_had P (named_at P.facts id) id) id token)
expr_low P (e.Group x) id token = low_value id x.part.lower
expr_low P (e.Field of n) id token = low_value id (member_low P of.part id token)
expr_low P (e.Index of index) id token = low_value id (index_low P of.part index.part id token)
expr_low P (e.Call of n args) id token = low_value id (call_low P (named_at P.facts id) (option_map part_in of) (map part_in args) id token)
expr_low P (e.NewObject n) id token = low_value id (valued (object_had P (named_at P.facts id) id) id token)
expr_low P (e.NewArray b n) id token = low_value id (array_low P n.part id token)
expr_low P (e.Prefix s x) id token = low_value id (prefix_low P (literal_behind s x.number) (prefix_of s (type_at P.facts x.part.id)) x.part id token)
expr_low P (e.Binary s at l r) id token = low_value id (binary_low P s l.part r.part id token)

abbrev pub placed : {A : Type 0} → Expr-F (ℕ → ℕ → A) A → A
placed x = x.form x.id x.token

unfoldable pub low : Checked → Expr → Low
low P = fold-Expr (ℕ → ℕ → Low) Low (expr_low P) placed

-- an expression by its number and what it is lowered to
abbrev pub part_of : Checked → Expr → Part
part_of P x = record { id = x.id; lower = (low P x).part.lower }

-- ---- assignments

abbrev pub put_by : Checked → Named → Operand → ℕ → (token : ℕ) → Operand → Draft → Draft
put_by P (named.Field class place) of id token a o = emitted P (w.Put of class place a) token (Completed id) o
put_by P _ of id token a o = o

abbrev pub put_name : Checked → Named → Static → Part → (token : ℕ) → Draft → Draft
put_name P (named.Local slot) to x token o = slot_of P slot token (fit_to P to x o)
put_name P (named.Field class place) to x token o = let v = fitted_operand P to x o in put_by P (named.Field class place) (Slot 0) x.id token v.operand v.out
put_name P _ to x token o = o

-- the object first, then the value, then the write
abbrev pub put_member : Checked → Named → Static → Part → Part → (token : ℕ) → Draft → Draft
put_member P n to of x token o =
    let a = operand_at P of o in
    let v = fitted_operand P to x a.out in
    put_by P n a.operand x.id token v.operand v.out

-- the array, the index, the value, and then the write
abbrev pub put_element : Checked → Static → Part → Part → Part → (token : ℕ) → Draft → Draft
put_element P to of index x token o =
    let a = operand_at P of o in
    let i = operand_at P index a.out in
    let v = fitted_operand P to x i.out in
    emitted P (w.Store a.operand i.operand v.operand) token (Completed x.id) v.out

abbrev pub put_form : Checked → ExprForm-F ExprForm Expr → ℕ → Part → (token : ℕ) → Draft → Draft
put_form P (e.Name n) id x token o = put_name P (named_at P.facts id) (type_at P.facts id) x token o
put_form P (e.Field of n) id x token o = put_member P (named_at P.facts id) (type_at P.facts id) (part_of P of) x token o
put_form P (e.Index of index) id x token o = put_element P (type_at P.facts id) (part_of P of) (part_of P index) x token o
put_form P _ id x token o = o

-- the assignment of another expression to one, in the statement of this first token
abbrev pub put_low : Checked → Expr → Part → (token : ℕ) → Draft → Draft
put_low P place x token o = put_form P (out-ExprForm place.form) place.id x token o
