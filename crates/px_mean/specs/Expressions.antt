-- The meaning of expressions, by structure (JLS 15).
use Rattle.std.specs.Prelude.{ℕ, ◌+◌, ◌-◌, ◌*◌, Bool, true, false, not, List, [], ◌∷◌, drop, Option, Some, None, unwrap_or, slice_get, slice_index_or, slice_set, pos, Ok, if◌then◌else◌}
use Rattle.std.specs.Int.{int_wrap, w32, w64}
use Rattle.px_value.specs.declared.value.Value.{Value}
use Rattle.px_value.specs.declared.value.Value.TheVariants.{Int, Long, Bool as Truth, Text, Null}
use Rattle.px_value.specs.declared.op.Op.{Op}
use Rattle.px_value.specs.declared.op.Op.TheVariants as op
use Rattle.px_value.specs.Operators.{Applied, apply}
use Rattle.px_value.specs.Outcome.{Gives, Run, ◌>>=◌, pure, on_shared}
use Rattle.px_tree.specs.declared.Sign.{Sign}
use Rattle.px_tree.specs.declared.Sign.TheVariants as sign
use Rattle.px_tree.specs.declared.Expr.{Expr, Expr-F, fold-Expr}
use Rattle.px_tree.specs.declared.ExprForm.{ExprForm-F}
use Rattle.px_tree.specs.declared.ExprForm.TheOpen.{ExprForm-F as e}
use Rattle.px_facts.specs.declared.types.Ty.{Ty}
use Rattle.px_facts.specs.declared.types.Ty.TheVariants as ty
use Rattle.px_facts.specs.declared.checked.Named.{Named}
use Rattle.px_facts.specs.declared.checked.Named.TheVariants as named
use Rattle.px_facts.specs.declared.checked.Facts.{Facts}
use Rattle.px_mean.specs.Run.{with_slots, Here, There, gather, came_to, turn}
use Rattle.px_mean.specs.Facts.{type_at, named_at, by_number, fields_of, params_of, op_of, prefix_of}
use Rattle.px_mean.specs.Effects.{reference, get_field, put_field, array_length, load, store, new_object, new_array, next, get_long, get_string}
use Rattle.px_mean.specs.Operations.{Ask, query, update}

-- what a call of a method does, by its number, of the receiver and the arguments
abbrev pub Calls : Type 0 → Type 0 → Type 0
Calls Q W = ℕ → List Value → There Q W (Option Value)

-- what stands around an expression: the program's facts, how the tables answer, and what calls do
pub record Around (Q W : Type 0) : Type 0 where
  pub facts : Facts
  pub ask : Ask Q W
  pub calls : Calls Q W

-- What an expression means: its static type, its value, and the assignment to it of a value of some type.
pub record Meant (Q W : Type 0) : Type 0 where
  pub ty : Ty
  pub run : Here Q W Value
  pub put : Ty → Here Q W Value → Here Q W (Unit {0})

-- an expression that nothing is assigned to
abbrev pub no_place : {Q W : Type 0} → Ty → Here Q W Value → Meant Q W
no_place t r = record { ty = t; run = r; put = λ _ _. pure tt }

-- ---- values

-- an int where a long is wanted is widened (JLS 5.1.2, 5.2)
abbrev pub widened : Ty → Ty → Value → Applied
widened ty.Int ty.Long v = apply op.Widen v v
widened from to v = Ok v

abbrev pub fit : {Q S : Type 0} → Ty → Ty → Value → Run Q S Value
fit from to v = came_to (widened from to v)

abbrev pub decimal_value : List ℕ → ℕ → ℕ
decimal_value [] n = n
decimal_value (d ∷ ds) n = decimal_value ds (n * 10 + (d - 48))

-- JLS 3.10.1
abbrev pub literal : List ℕ → Bool → Value
literal digits true = Long (int_wrap w64 (pos (decimal_value digits 0)))
literal digits false = Int (int_wrap w32 (pos (decimal_value digits 0)))

-- ---- names

-- slot 0 is `this`
abbrev pub slot_value : {Q W : Type 0} → ℕ → Here Q W Value
slot_value slot = λ s. Gives (unwrap_or (slice_get s.locals slot) Null) s

abbrev pub this_value : {Q W : Type 0} → Here Q W Value
this_value = slot_value 0

abbrev pub assign_slot : {Q W : Type 0} → ℕ → Value → Here Q W (Unit {0})
assign_slot slot v = λ s. Gives tt (with_slots s (slice_set s.locals slot v))

-- a bare name: a local, or a field of `this` (JLS 6.5.6.1)
abbrev pub name_value : {Q W : Type 0} → Named → Here Q W Value
name_value (named.Local slot) = slot_value slot
name_value (named.Field class place) = this_value >>= (λ o. on_shared (get_field o place))
name_value _ = pure Null

-- the object first, then the value, then the write (JLS 15.26.1)
abbrev pub put_name : {Q W : Type 0} → Named → Ty → Ty → Here Q W Value → Here Q W (Unit {0})
put_name (named.Local slot) to from r = r >>= fit from to >>= assign_slot slot
put_name (named.Field class place) to from r = this_value >>= (λ o. r >>= fit from to >>= (λ v. on_shared (put_field o place v)))
put_name _ to from r = pure tt

-- a member of an object: a field, or an array's length (JLS 15.11, 10.7)
abbrev pub member_value : {Q W : Type 0} → Named → Value → Here Q W Value
member_value (named.Field class place) o = on_shared (get_field o place)
member_value named.ArrayLength o = on_shared (array_length o)
member_value _ o = pure Null

abbrev pub put_member : {Q W : Type 0} → Named → Value → Value → Here Q W (Unit {0})
put_member (named.Field class place) o v = on_shared (put_field o place v)
put_member _ o v = pure tt

-- ---- calls

-- the arguments from one on, each fitted to the type of its parameter
abbrev pub fitted : {Q W : Type 0} → List Ty → ℕ → List (Meant Q W) → List (Here Q W Value)
fitted types place [] = []
fitted types place (a ∷ rest) = (a.run >>= fit a.ty (slice_index_or types place ty.Unknown)) ∷ fitted types (place + 1) rest

abbrev pub receiver : {Q W : Type 0} → Option (Meant Q W) → Here Q W Value
receiver None = this_value
receiver (Some of) = of.run

abbrev pub result_value : {Q W : Type 0} → Option Value → Here Q W Value
result_value result = pure (unwrap_or result Null)

abbrev pub value_at : List Value → ℕ → Value
value_at values place = unwrap_or (slice_get values place) Null

-- the receiver and the arguments are there; then the test for null (JLS 15.12.4.4), the turn, and the frame
abbrev pub call_method : {Q W : Type 0} → Calls Q W → ℕ → List Value → There Q W (Option Value)
call_method calls method values = came_to (reference (value_at values 0)) >>= (λ _. turn >>= (λ _. calls method values))

-- a method of a class, of String, of `Db` or of a ResultSet
abbrev pub invoke : {Q W : Type 0} → Around Q W → Named → List Value → Here Q W Value
invoke P (named.Method method) values = on_shared (call_method P.calls method values) >>= result_value
invoke P named.TextLength values = came_to (apply op.Length (value_at values 0) (value_at values 0))
invoke P named.TextEquals values = came_to (apply op.Equals (value_at values 0) (value_at values 1))
invoke P (named.Query number site) values = on_shared (query P.ask number site (by_number P.facts.operations number) values)
invoke P (named.Update number) values = on_shared (update P.ask number (by_number P.facts.operations number) values)
invoke P named.Next values = on_shared (next P.facts (value_at values 0))
invoke P named.GetLong values = on_shared (get_long P.facts (value_at values 0) (value_at values 1))
invoke P named.GetString values = on_shared (get_string P.facts (value_at values 0) (value_at values 1))
invoke P _ values = pure Null

abbrev pub is_operation : Named → Bool
is_operation (named.Query number site) = true
is_operation (named.Update number) = true
is_operation _ = false

-- `Db` is no value
abbrev pub received : {Q W : Type 0} → Named → Option (Meant Q W) → List (Here Q W Value)
received name of = if is_operation name then [] else receiver of ∷ []

-- nor is the text of its statement
abbrev pub operands : {A : Type 0} → Named → List A → List A
operands name args = if is_operation name then drop 1 args else args

-- the receiver first (JLS 15.12.4.1), then the arguments from the left (JLS 15.12.4.2), then the method
abbrev pub called : {Q W : Type 0} → Around Q W → Named → Option (Meant Q W) → List (Meant Q W) → Here Q W Value
called P name of args = gather [] (received name of) >>= (λ there. gather there (fitted (params_of P.facts name) 0 (operands name args)) >>= invoke P name)

-- ---- `new`

-- JLS 15.9.4
abbrev pub made_object : {Q W : Type 0} → Facts → Named → Here Q W Value
made_object F (named.NewObject class site) = on_shared (new_object class site (fields_of F class))
made_object F _ = pure Null

-- JLS 15.10.2
abbrev pub made_array : {Q W : Type 0} → Named → Ty → Value → Here Q W Value
made_array (named.NewArray site) t size = on_shared (new_array site t size)
made_array _ t size = pure Null

-- ---- operators

abbrev pub prefixed : Option Op → Value → Applied
prefixed None v = Ok v
prefixed (Some o) v = apply o v v

abbrev pub is_true : Value → Bool
is_true (Truth b) = b
is_true _ = false

-- the value of the left operand of `&&` or `||` is that of the whole (JLS 15.23, 15.24)
abbrev pub decides : Sign → Value → Bool
decides sign.Both a = not (is_true a)
decides sign.Either a = is_true a
decides s a = false

-- the values of both operands, which have these types
abbrev pub combined : Sign → Ty → Ty → Value → Value → Applied
combined sign.Both t u a b = Ok b
combined sign.Either t u a b = Ok b
combined s t u a b = apply (op_of s t u) a b

-- the left operand first (JLS 15.7.1), and the right one where it is needed
abbrev pub binary : {Q S : Type 0} → Sign → Ty → Ty → Run Q S Value → Run Q S Value → Run Q S Value
binary s t u l r = l >>= (λ a. if decides s a then pure a else r >>= (λ b. came_to (combined s t u a b)))

-- ---- expressions

-- one level of an expression, of what its parts mean, by its number
abbrev pub expr_step : {Q W : Type 0} → Around Q W → ExprForm-F (ℕ → Meant Q W) (Meant Q W) → ℕ → Meant Q W
expr_step P (e.Number digits long) id = no_place (type_at P.facts id) (pure (literal digits long))
expr_step P (e.Str bytes) id = no_place (type_at P.facts id) (pure (Text bytes))
expr_step P e.True id = no_place (type_at P.facts id) (pure (Truth true))
expr_step P e.False id = no_place (type_at P.facts id) (pure (Truth false))
expr_step P e.Null id = no_place (type_at P.facts id) (pure Null)
expr_step P e.This id = no_place (type_at P.facts id) this_value
expr_step P (e.Name n) id = record {
  ty = type_at P.facts id;
  run = name_value (named_at P.facts id);
  put = put_name (named_at P.facts id) (type_at P.facts id);
}
expr_step P (e.Group inner) id = no_place (type_at P.facts id) inner.run
-- JLS 15.26.1: the object, the value, and then the test for null
expr_step P (e.Field of n) id = record {
  ty = type_at P.facts id;
  run = of.run >>= member_value (named_at P.facts id);
  put = λ from r. of.run >>= (λ o. r >>= fit from (type_at P.facts id) >>= put_member (named_at P.facts id) o);
}
-- JLS 15.10.4, 15.26.1: the array, the index, the value, and then the tests for null and bounds
expr_step P (e.Index of index) id = record {
  ty = type_at P.facts id;
  run = of.run >>= (λ a. index.run >>= (λ i. on_shared (load a i)));
  put = λ from r. of.run >>= (λ a. index.run >>= (λ i. r >>= fit from (type_at P.facts id) >>= (λ v. on_shared (store a i v))));
}
expr_step P (e.Call of n args) id = no_place (type_at P.facts id) (called P (named_at P.facts id) of args)
expr_step P (e.NewObject n) id = no_place (type_at P.facts id) (made_object P.facts (named_at P.facts id))
expr_step P (e.NewArray b size) id = no_place (type_at P.facts id) (size.run >>= made_array (named_at P.facts id) (type_at P.facts id))
expr_step P (e.Prefix s x) id = no_place (type_at P.facts id) (x.run >>= (λ v. came_to (prefixed (prefix_of s x.ty) v)))
expr_step P (e.Binary s at l r) id = no_place (type_at P.facts id) (binary s l.ty r.ty l.run r.run)

abbrev pub numbered : {A : Type 0} → Expr-F (ℕ → A) A → A
numbered x = x.form x.id

unfoldable pub meant : {Q W : Type 0} → Around Q W → Expr → Meant Q W
meant {Q} {W} P = fold-Expr (ℕ → Meant Q W) (Meant Q W) (expr_step P) numbered
