-- Operators give values of their types.
use Rattle.std.proofs.Common.{◌≡◌, ℕ, ℤ, pos, Bool, true, false, if◌then◌else◌, List, Option, Some, None, Ok, Err, refl, sym, subst}
use Rattle.std.specs.Ordering.{int_eq}
use Rattle.px_value.specs.declared.value.Value.{Value}
use Rattle.px_value.specs.declared.value.Value.TheVariants.{Bool as Truth, Text, Null, Ref}
use Rattle.px_value.specs.declared.object.Object.{Object}
use Rattle.px_value.specs.declared.op.Op.{Op}
use Rattle.px_value.specs.declared.op.Op.TheVariants as op
use Rattle.px_value.specs.declared.thrown.Thrown.{Thrown}
use Rattle.px_value.specs.declared.thrown.Thrown.TheVariants.{ArithmeticException, TextTooLong}
use Rattle.px_value.specs.Operators.{Applied, Pair, Numbers, number, wrapped, unless_zero, pair_of, arithmetic, bitwise, shift, shifted, compared, same, equality, apply}
use Rattle.px_tree.specs.declared.Sign.{Sign}
use Rattle.px_tree.specs.declared.Sign.TheVariants as sign
use Rattle.px_facts.specs.declared.types.Ty.{Ty}
use Rattle.px_facts.specs.declared.types.Ty.TheVariants as ty
use Rattle.px_mean.specs.Facts.{op_of}
use Rattle.px_mean.specs.Expressions.{widened, prefixed, combined}
use Rattle.px_mean.specs.Typed as typed
use Rattle.px_mean.specs.Typing as typing
use Rattle.px_mean.specs.Typed.{MayBeNull, HasType}
use Rattle.px_mean.specs.Typing.{literal_type, Promotes, IsArithmetic, IsOfBits, IsShift, IsOrder, IsEquality, IsObject, AreCompared, GivesType, PrefixGives, BinaryGives, Fits}

module _ (heap : List Object) where
  -- a value of a type, or a throw
  abbrev pub IsOf : Ty → Applied → Type 0
  IsOf t (Ok v) = HasType heap t v
  IsOf t (Err e) = Unit {0}

  of_number : (long : Bool) (n : ℤ) → IsOf (literal_type long) (number long n)
  of_number true n = typed.HasType.long n
  of_number false n = typed.HasType.int n

  of_wrapped : (long : Bool) (n : ℤ) → IsOf (literal_type long) (wrapped long n)
  of_wrapped true n = typed.HasType.long _
  of_wrapped false n = typed.HasType.int _

  unless : (b : Bool) (t : Ty) (e : Thrown) (x : Applied) → IsOf t x → IsOf t (if b then Err e else x)
  unless true t e x h = tt
  unless false t e x h = h

  of_divided : (long : Bool) (b n : ℤ) → IsOf (literal_type long) (unless_zero b (wrapped long n))
  of_divided long b n = unless (int_eq b (pos 0)) (literal_type long) ArithmeticException (wrapped long n) (of_wrapped long n)

  -- ---- two numbers

  pub record AreNumbers (a b : Value) (t : Ty) : Type 0 where
    pub long : Bool
    pub m : ℤ
    pub n : ℤ
    pub pair : pair_of a b ≡ Numbers long m n
    pub type_is : literal_type long ≡ t

  are_numbers : (l r t : Ty) (a b : Value) → Promotes l r t → HasType heap l a → HasType heap r b → AreNumbers a b t
  are_numbers _ _ _ _ _ typing.Promotes.ints (typed.HasType.int m) (typed.HasType.int n) = record { long = false; m = m; n = n; pair = refl; type_is = refl }
  are_numbers _ _ _ _ _ typing.Promotes.int_long (typed.HasType.int m) (typed.HasType.long n) = record { long = true; m = m; n = n; pair = refl; type_is = refl }
  are_numbers _ _ _ _ _ typing.Promotes.long_int (typed.HasType.long m) (typed.HasType.int n) = record { long = true; m = m; n = n; pair = refl; type_is = refl }
  are_numbers _ _ _ _ _ typing.Promotes.longs (typed.HasType.long m) (typed.HasType.long n) = record { long = true; m = m; n = n; pair = refl; type_is = refl }
  are_numbers _ _ _ _ _ typing.Promotes.ints (typed.HasType.null _ x) k = absurd x
  are_numbers _ _ _ _ _ typing.Promotes.int_long (typed.HasType.null _ x) k = absurd x
  are_numbers _ _ _ _ _ typing.Promotes.long_int (typed.HasType.null _ x) k = absurd x
  are_numbers _ _ _ _ _ typing.Promotes.longs (typed.HasType.null _ x) k = absurd x
  are_numbers _ _ _ _ _ typing.Promotes.ints (typed.HasType.int m) (typed.HasType.null _ x) = absurd x
  are_numbers _ _ _ _ _ typing.Promotes.int_long (typed.HasType.int m) (typed.HasType.null _ x) = absurd x
  are_numbers _ _ _ _ _ typing.Promotes.long_int (typed.HasType.long m) (typed.HasType.null _ x) = absurd x
  are_numbers _ _ _ _ _ typing.Promotes.longs (typed.HasType.long m) (typed.HasType.null _ x) = absurd x

  -- what holds of the pair of two numbers
  by_pair : (f : Pair → Applied) (a b : Value) (t u : Ty) → AreNumbers a b t → ((long : Bool) (m n : ℤ) → literal_type long ≡ t → IsOf u (f (Numbers long m n))) → IsOf u (f (pair_of a b))
  by_pair f a b t u h k = subst (λ (p : Pair). IsOf u (f p)) (sym h.pair) (k h.long h.m h.n h.type_is)

  typed_as : (t u : Ty) (x : Applied) → t ≡ u → IsOf t x → IsOf u x
  typed_as t u x e h = subst (λ (w : Ty). IsOf w x) e h

  arithmetic_gives : (o : Op) (a b : Value) (t : Ty) → IsArithmetic o → AreNumbers a b t → IsOf t (apply o a b)
  unfolding apply
  arithmetic_gives _ a b t typing.IsArithmetic.add h = by_pair (arithmetic op.Add) a b t t h (λ long m n e. typed_as (literal_type long) t _ e (of_wrapped long _))
  arithmetic_gives _ a b t typing.IsArithmetic.sub h = by_pair (arithmetic op.Sub) a b t t h (λ long m n e. typed_as (literal_type long) t _ e (of_wrapped long _))
  arithmetic_gives _ a b t typing.IsArithmetic.mul h = by_pair (arithmetic op.Mul) a b t t h (λ long m n e. typed_as (literal_type long) t _ e (of_wrapped long _))
  arithmetic_gives _ a b t typing.IsArithmetic.div h = by_pair (arithmetic op.Div) a b t t h (λ long m n e. typed_as (literal_type long) t _ e (of_divided long n _))
  arithmetic_gives _ a b t typing.IsArithmetic.rem h = by_pair (arithmetic op.Rem) a b t t h (λ long m n e. typed_as (literal_type long) t _ e (of_divided long n _))

  bits_give : (o : Op) (a b : Value) (t : Ty) → IsOfBits o → AreNumbers a b t → IsOf t (apply o a b)
  unfolding apply
  bits_give _ a b t typing.IsOfBits.and h = by_pair (bitwise op.And) a b t t h (λ long m n e. typed_as (literal_type long) t _ e (of_number long _))
  bits_give _ a b t typing.IsOfBits.or h = by_pair (bitwise op.Or) a b t t h (λ long m n e. typed_as (literal_type long) t _ e (of_number long _))
  bits_give _ a b t typing.IsOfBits.xor h = by_pair (bitwise op.Xor) a b t t h (λ long m n e. typed_as (literal_type long) t _ e (of_number long _))

  order_gives : (o : Op) (a b : Value) (t : Ty) → IsOrder o → AreNumbers a b t → IsOf ty.Boolean (apply o a b)
  unfolding apply
  order_gives _ a b t typing.IsOrder.lt h = by_pair (compared op.Lt) a b t ty.Boolean h (λ long m n e. typed.HasType.truth _)
  order_gives _ a b t typing.IsOrder.le h = by_pair (compared op.Le) a b t ty.Boolean h (λ long m n e. typed.HasType.truth _)
  order_gives _ a b t typing.IsOrder.gt h = by_pair (compared op.Gt) a b t ty.Boolean h (λ long m n e. typed.HasType.truth _)
  order_gives _ a b t typing.IsOrder.ge h = by_pair (compared op.Ge) a b t ty.Boolean h (λ long m n e. typed.HasType.truth _)

  truths_give : (o : Op) (a b : Bool) → IsOfBits o → IsOf ty.Boolean (apply o (Truth a) (Truth b))
  unfolding apply
  truths_give _ a b typing.IsOfBits.and = typed.HasType.truth _
  truths_give _ a b typing.IsOfBits.or = typed.HasType.truth _
  truths_give _ a b typing.IsOfBits.xor = typed.HasType.truth _

  -- ---- shifts

  of_shift : (o : Op) (long : Bool) (m n : ℤ) → IsShift o → IsOf (literal_type long) (shift o long m n)
  of_shift _ long m n typing.IsShift.shl = of_number long _
  of_shift _ long m n typing.IsShift.shr = of_number long _
  of_shift _ long m n typing.IsShift.ushr = of_number long _

  of_shifted : (o : Op) (l r t : Ty) (a b : Value) → IsShift o → Promotes l r t → HasType heap l a → HasType heap r b → IsOf l (shifted o a b)
  of_shifted o _ _ _ _ _ s typing.Promotes.ints (typed.HasType.int m) (typed.HasType.int n) = of_shift o false m n s
  of_shifted o _ _ _ _ _ s typing.Promotes.int_long (typed.HasType.int m) (typed.HasType.long n) = of_shift o false m n s
  of_shifted o _ _ _ _ _ s typing.Promotes.long_int (typed.HasType.long m) (typed.HasType.int n) = of_shift o true m n s
  of_shifted o _ _ _ _ _ s typing.Promotes.longs (typed.HasType.long m) (typed.HasType.long n) = of_shift o true m n s
  of_shifted o _ _ _ _ _ s typing.Promotes.ints (typed.HasType.null _ x) k = absurd x
  of_shifted o _ _ _ _ _ s typing.Promotes.int_long (typed.HasType.null _ x) k = absurd x
  of_shifted o _ _ _ _ _ s typing.Promotes.long_int (typed.HasType.null _ x) k = absurd x
  of_shifted o _ _ _ _ _ s typing.Promotes.longs (typed.HasType.null _ x) k = absurd x
  of_shifted o _ _ _ _ _ s typing.Promotes.ints (typed.HasType.int m) (typed.HasType.null _ x) = absurd x
  of_shifted o _ _ _ _ _ s typing.Promotes.int_long (typed.HasType.int m) (typed.HasType.null _ x) = absurd x
  of_shifted o _ _ _ _ _ s typing.Promotes.long_int (typed.HasType.long m) (typed.HasType.null _ x) = absurd x
  of_shifted o _ _ _ _ _ s typing.Promotes.longs (typed.HasType.long m) (typed.HasType.null _ x) = absurd x

  apply_shift : (o : Op) (a b : Value) → IsShift o → apply o a b ≡ shifted o a b
  unfolding apply
  apply_shift _ a b typing.IsShift.shl = refl
  apply_shift _ a b typing.IsShift.shr = refl
  apply_shift _ a b typing.IsShift.ushr = refl

  -- ---- equality

  pub data IsPlace : Value → Type 0 where
    at : (place : ℕ) → IsPlace (Ref place)
    none : IsPlace Null

  is_place : (t : Ty) (v : Value) → IsObject t → HasType heap t v → IsPlace v
  is_place _ _ (typing.IsObject.object _) (typed.HasType.object _ place e) = at place
  is_place _ _ (typing.IsObject.array _) (typed.HasType.array _ place e) = at place
  is_place _ _ typing.IsObject.rows (typed.HasType.rows _ place e) = at place
  is_place _ _ (typing.IsObject.object _) (typed.HasType.null _ x) = none
  is_place _ _ (typing.IsObject.array _) (typed.HasType.null _ x) = none
  is_place _ _ typing.IsObject.rows (typed.HasType.null _ x) = none
  is_place _ _ typing.IsObject.null (typed.HasType.null _ x) = none

  abbrev AreSame : Value → Value → Type 0
  AreSame a b = (x : Bool) × (same a b ≡ Some x)

  places_same : (a b : Value) → IsPlace a → IsPlace b → AreSame a b
  places_same _ _ (at m) (at n) = (_, refl)
  places_same _ _ (at m) none = (_, refl)
  places_same _ _ none (at n) = (_, refl)
  places_same _ _ none none = (_, refl)

  numbers_same : (l r t : Ty) (a b : Value) → Promotes l r t → HasType heap l a → HasType heap r b → AreSame a b
  numbers_same _ _ _ _ _ typing.Promotes.ints (typed.HasType.int m) (typed.HasType.int n) = (_, refl)
  numbers_same _ _ _ _ _ typing.Promotes.int_long (typed.HasType.int m) (typed.HasType.long n) = (_, refl)
  numbers_same _ _ _ _ _ typing.Promotes.long_int (typed.HasType.long m) (typed.HasType.int n) = (_, refl)
  numbers_same _ _ _ _ _ typing.Promotes.longs (typed.HasType.long m) (typed.HasType.long n) = (_, refl)
  numbers_same _ _ _ _ _ typing.Promotes.ints (typed.HasType.null _ x) k = absurd x
  numbers_same _ _ _ _ _ typing.Promotes.int_long (typed.HasType.null _ x) k = absurd x
  numbers_same _ _ _ _ _ typing.Promotes.long_int (typed.HasType.null _ x) k = absurd x
  numbers_same _ _ _ _ _ typing.Promotes.longs (typed.HasType.null _ x) k = absurd x
  numbers_same _ _ _ _ _ typing.Promotes.ints (typed.HasType.int m) (typed.HasType.null _ x) = absurd x
  numbers_same _ _ _ _ _ typing.Promotes.int_long (typed.HasType.int m) (typed.HasType.null _ x) = absurd x
  numbers_same _ _ _ _ _ typing.Promotes.long_int (typed.HasType.long m) (typed.HasType.null _ x) = absurd x
  numbers_same _ _ _ _ _ typing.Promotes.longs (typed.HasType.long m) (typed.HasType.null _ x) = absurd x

  are_same : (l r : Ty) (a b : Value) → AreCompared l r → HasType heap l a → HasType heap r b → AreSame a b
  are_same _ _ a b (typing.AreCompared.numbers l r t p) h k = numbers_same l r t a b p h k
  are_same _ _ a b (typing.AreCompared.objects l r x y) h k = places_same a b (is_place l a x h) (is_place r b y k)
  are_same _ _ _ _ typing.AreCompared.truths (typed.HasType.truth m) (typed.HasType.truth n) = (_, refl)
  are_same _ _ _ _ typing.AreCompared.truths (typed.HasType.null _ x) k = absurd x
  are_same _ _ _ _ typing.AreCompared.truths (typed.HasType.truth m) (typed.HasType.null _ x) = absurd x
  are_same _ _ _ _ typing.AreCompared.text_null (typed.HasType.text m) (typed.HasType.null _ y) = (_, refl)
  are_same _ _ _ _ typing.AreCompared.text_null (typed.HasType.null _ x) (typed.HasType.null _ y) = (_, refl)
  are_same _ _ _ _ typing.AreCompared.null_text (typed.HasType.null _ x) (typed.HasType.text m) = (_, refl)
  are_same _ _ _ _ typing.AreCompared.null_text (typed.HasType.null _ x) (typed.HasType.null _ y) = (_, refl)

  equality_gives : (o : Op) (a b : Value) → IsEquality o → AreSame a b → IsOf ty.Boolean (apply o a b)
  unfolding apply
  equality_gives _ a b typing.IsEquality.eq h = subst (λ (x : Option Bool). IsOf ty.Boolean (equality op.Eq x)) (sym h.1) (typed.HasType.truth _)
  equality_gives _ a b typing.IsEquality.ne h = subst (λ (x : Option Bool). IsOf ty.Boolean (equality op.Ne x)) (sym h.1) (typed.HasType.truth _)

  -- ---- one operand, and texts

  neg_gives : (t : Ty) (a b : Value) → Promotes t t t → HasType heap t a → IsOf t (apply op.Neg a b)
  unfolding apply
  neg_gives _ _ b typing.Promotes.ints (typed.HasType.int n) = typed.HasType.int _
  neg_gives _ _ b typing.Promotes.longs (typed.HasType.long n) = typed.HasType.long _
  neg_gives _ _ b typing.Promotes.ints (typed.HasType.null _ x) = absurd x
  neg_gives _ _ b typing.Promotes.longs (typed.HasType.null _ x) = absurd x

  inv_gives : (t : Ty) (a b : Value) → Promotes t t t → HasType heap t a → IsOf t (apply op.Inv a b)
  unfolding apply
  inv_gives _ _ b typing.Promotes.ints (typed.HasType.int n) = typed.HasType.int _
  inv_gives _ _ b typing.Promotes.longs (typed.HasType.long n) = typed.HasType.long _
  inv_gives _ _ b typing.Promotes.ints (typed.HasType.null _ x) = absurd x
  inv_gives _ _ b typing.Promotes.longs (typed.HasType.null _ x) = absurd x

  not_gives : (a b : Value) → HasType heap ty.Boolean a → IsOf ty.Boolean (apply op.Not a b)
  unfolding apply
  not_gives _ b (typed.HasType.truth n) = typed.HasType.truth _
  not_gives _ b (typed.HasType.null _ x) = absurd x

  widen_gives : (a b : Value) → HasType heap ty.Int a → IsOf ty.Long (apply op.Widen a b)
  unfolding apply
  widen_gives _ b (typed.HasType.int n) = typed.HasType.long _
  widen_gives _ b (typed.HasType.null _ x) = absurd x

  narrow_gives : (a b : Value) → HasType heap ty.Long a → IsOf ty.Int (apply op.Narrow a b)
  unfolding apply
  narrow_gives _ b (typed.HasType.long n) = typed.HasType.int _
  narrow_gives _ b (typed.HasType.null _ x) = absurd x

  concat_gives : (a b : Value) → IsOf ty.Text (apply op.Concat a b)
  unfolding apply
  concat_gives a b = unless _ ty.Text TextTooLong (Ok (Text _)) (typed.HasType.text _)

  pub length_gives : (a b : Value) → HasType heap ty.Text a → IsOf ty.Int (apply op.Length a b)
  unfolding apply
  length_gives _ b (typed.HasType.text n) = typed.HasType.int _
  length_gives _ b (typed.HasType.null _ x) = tt

  pub equals_gives : (a b : Value) → HasType heap ty.Text a → HasType heap ty.Text b → IsOf ty.Boolean (apply op.Equals a b)
  unfolding apply
  equals_gives _ _ (typed.HasType.text m) (typed.HasType.text n) = typed.HasType.truth _
  equals_gives _ _ (typed.HasType.text m) (typed.HasType.null _ x) = typed.HasType.truth _
  equals_gives _ _ (typed.HasType.null _ x) h = tt

  -- ---- all of them

  shift_gives : (o : Op) (l r t : Ty) (a b : Value) → IsShift o → Promotes l r t → HasType heap l a → HasType heap r b → IsOf l (apply o a b)
  shift_gives o l r t a b s p h k = subst (λ (x : Applied). IsOf l x) (sym (apply_shift o a b s)) (of_shifted o l r t a b s p h k)

  truths_of : (o : Op) (a b : Value) → IsOfBits o → HasType heap ty.Boolean a → HasType heap ty.Boolean b → IsOf ty.Boolean (apply o a b)
  truths_of o _ _ s (typed.HasType.truth m) (typed.HasType.truth n) = truths_give o m n s
  truths_of o _ _ s (typed.HasType.null _ x) k = absurd x
  truths_of o _ _ s (typed.HasType.truth m) (typed.HasType.null _ x) = absurd x

  pub applies : (o : Op) (l r t : Ty) (a b : Value) → GivesType o l r t → HasType heap l a → HasType heap r b → IsOf t (apply o a b)
  applies _ _ _ _ a b (typing.GivesType.arithmetic o l r t s p) h k = arithmetic_gives o a b t s (are_numbers l r t a b p h k)
  applies _ _ _ _ a b (typing.GivesType.bits o l r t s p) h k = bits_give o a b t s (are_numbers l r t a b p h k)
  applies _ _ _ _ a b (typing.GivesType.truths o s) h k = truths_of o a b s h k
  applies _ _ _ _ a b (typing.GivesType.shift o l r t s p) h k = shift_gives o l r t a b s p h k
  applies _ _ _ _ a b (typing.GivesType.order o l r t s p) h k = order_gives o a b t s (are_numbers l r t a b p h k)
  applies _ _ _ _ a b (typing.GivesType.equality o l r s p) h k = equality_gives o a b s (are_same l r a b p h k)
  applies _ _ _ _ a b (typing.GivesType.neg t p) h k = neg_gives t a b p h
  applies _ _ _ _ a b (typing.GivesType.inv t p) h k = inv_gives t a b p h
  applies _ _ _ _ a b typing.GivesType.not h k = not_gives a b h
  applies _ _ _ _ a b typing.GivesType.widen h k = widen_gives a b h
  applies _ _ _ _ a b typing.GivesType.narrow h k = narrow_gives a b h
  applies _ _ _ _ a b (typing.GivesType.concat l r) h k = concat_gives a b

  pub prefix_applies : (o : Option Op) (of t : Ty) (v : Value) → PrefixGives o of t → HasType heap of v → IsOf t (prefixed o v)
  prefix_applies None of t v e h = subst (λ (x : Ty). HasType heap x v) e h
  prefix_applies (Some o) of t v g h = applies o of of t v v g h h

  pub binary_applies : (s : Sign) (l r t : Ty) (a b : Value) → BinaryGives s l r t → HasType heap l a → HasType heap r b → IsOf t (combined s l r a b)
  binary_applies sign.Both l r t a b g h k = subst (λ (x : Ty). HasType heap x b) g.1 k
  binary_applies sign.Either l r t a b g h k = subst (λ (x : Ty). HasType heap x b) g.1 k
  binary_applies sign.Plus l r t a b g h k = applies (op_of sign.Plus l r) l r t a b g h k
  binary_applies sign.Minus l r t a b g h k = applies (op_of sign.Minus l r) l r t a b g h k
  binary_applies sign.Times l r t a b g h k = applies (op_of sign.Times l r) l r t a b g h k
  binary_applies sign.Over l r t a b g h k = applies (op_of sign.Over l r) l r t a b g h k
  binary_applies sign.Rest l r t a b g h k = applies (op_of sign.Rest l r) l r t a b g h k
  binary_applies sign.And l r t a b g h k = applies (op_of sign.And l r) l r t a b g h k
  binary_applies sign.Or l r t a b g h k = applies (op_of sign.Or l r) l r t a b g h k
  binary_applies sign.Xor l r t a b g h k = applies (op_of sign.Xor l r) l r t a b g h k
  binary_applies sign.Shl l r t a b g h k = applies (op_of sign.Shl l r) l r t a b g h k
  binary_applies sign.Shr l r t a b g h k = applies (op_of sign.Shr l r) l r t a b g h k
  binary_applies sign.Ushr l r t a b g h k = applies (op_of sign.Ushr l r) l r t a b g h k
  binary_applies sign.Less l r t a b g h k = applies (op_of sign.Less l r) l r t a b g h k
  binary_applies sign.AtMost l r t a b g h k = applies (op_of sign.AtMost l r) l r t a b g h k
  binary_applies sign.More l r t a b g h k = applies (op_of sign.More l r) l r t a b g h k
  binary_applies sign.AtLeast l r t a b g h k = applies (op_of sign.AtLeast l r) l r t a b g h k
  binary_applies sign.Equal l r t a b g h k = applies (op_of sign.Equal l r) l r t a b g h k
  binary_applies sign.Unequal l r t a b g h k = applies (op_of sign.Unequal l r) l r t a b g h k
  binary_applies sign.Not l r t a b g h k = applies (op_of sign.Not l r) l r t a b g h k
  binary_applies sign.Inv l r t a b g h k = applies (op_of sign.Inv l r) l r t a b g h k
  binary_applies sign.ToInt l r t a b g h k = applies (op_of sign.ToInt l r) l r t a b g h k
  binary_applies sign.ToLong l r t a b g h k = applies (op_of sign.ToLong l r) l r t a b g h k

  -- ---- values that fit

  unchanged : (t : Ty) (v : Value) → widened t t v ≡ Ok v
  unchanged ty.Unknown v = refl
  unchanged ty.Void v = refl
  unchanged ty.Null v = refl
  unchanged ty.Int v = refl
  unchanged ty.Long v = refl
  unchanged ty.Boolean v = refl
  unchanged ty.Text v = refl
  unchanged (ty.Object class) v = refl
  unchanged (ty.Array e) v = refl
  unchanged ty.ResultSet v = refl

  from_null : (t : Ty) (v : Value) → widened ty.Null t v ≡ Ok v
  from_null ty.Unknown v = refl
  from_null ty.Void v = refl
  from_null ty.Null v = refl
  from_null ty.Int v = refl
  from_null ty.Long v = refl
  from_null ty.Boolean v = refl
  from_null ty.Text v = refl
  from_null (ty.Object class) v = refl
  from_null (ty.Array e) v = refl
  from_null ty.ResultSet v = refl

  -- where no type is wanted a value stays as it is
  pub as_it_is : (t : Ty) (v : Value) → widened t ty.Unknown v ≡ Ok v
  as_it_is ty.Unknown v = refl
  as_it_is ty.Void v = refl
  as_it_is ty.Null v = refl
  as_it_is ty.Int v = refl
  as_it_is ty.Long v = refl
  as_it_is ty.Boolean v = refl
  as_it_is ty.Text v = refl
  as_it_is (ty.Object class) v = refl
  as_it_is (ty.Array e) v = refl
  as_it_is ty.ResultSet v = refl

  null_fits : (to : Ty) (v : Value) → MayBeNull to → HasType heap ty.Null v → HasType heap to v
  null_fits to _ m (typed.HasType.null _ x) = typed.HasType.null to m

  of_equal : (t : Ty) (x y : Applied) → x ≡ y → IsOf t y → IsOf t x
  of_equal t x y e h = subst (λ (z : Applied). IsOf t z) (sym e) h

  pub fits_type : (from to : Ty) (v : Value) → Fits from to → HasType heap from v → IsOf to (widened from to v)
  fits_type _ _ v (typing.Fits.same t) h = of_equal t (widened t t v) (Ok v) (unchanged t v) h
  fits_type _ _ v typing.Fits.wide h = widen_gives v v h
  fits_type _ _ v (typing.Fits.null to m) h = of_equal to (widened ty.Null to v) (Ok v) (from_null to v) (null_fits to v m h)

  -- a type that no int is widened to
  abbrev pub IsNarrow : Ty → Type 0
  IsNarrow ty.Long = ⊥
  IsNarrow _ = Unit {0}

  pub fits_as_it_is : (from to : Ty) (v : Value) → IsNarrow to → Fits from to → HasType heap from v → HasType heap to v
  fits_as_it_is _ _ v n (typing.Fits.same t) h = h
  fits_as_it_is _ _ v n typing.Fits.wide h = absurd n
  fits_as_it_is _ _ v n (typing.Fits.null to m) h = null_fits to v m h
