-- Values of a row's types give a value of the type that it gives.
use Rattle.std.proofs.Common.{◌≡◌, refl, sym, ◌∙◌, ap, subst, ℤ, pos, Bool, true, false, ◌&&◌, nat_lt, length, ◌++◌, if◌then◌else◌, Option, Some, None, Ok, Err, IfOk}
use Rattle.std.specs.Ordering.{int_eq}
use Rattle.std.proofs.lemmas.Option.{same_Some}
use Rattle.px_value.specs.declared.value.Value.{Value}
use Rattle.px_value.specs.declared.value.Value.TheVariants.{Int, Long, Bool as Truth, Text, Null, Ref}
use Rattle.px_value.specs.declared.thrown.Thrown.TheVariants.{ArithmeticException, TextTooLong}
use Rattle.px_value.specs.declared.op.Op.{Op}
use Rattle.px_value.specs.declared.op.Op.TheVariants as op
use Rattle.px_value.specs.declared.ty.Ty.{Ty}
use Rattle.px_value.specs.declared.ty.Ty.TheVariants as ty
use Rattle.px_value.specs.Operators.{Applied, Pair, Numbers, Truths, pair_of, number, unless_zero, arithmetic, bitwise, shift, shifted, compared, same, equality, changed, text_of, joined, equals, length_of, max_text, apply}
use Rattle.px_value.specs.Types.{HasType}
use Rattle.px_ops.specs.Table.{is_type}
use Rattle.px_ops.specs.Rules.{promoted, if_some, of_bits, of_equality, of_sign, both, of_join, gives, IsCompared, IsOperand, RowsKeepTypes}
use Rattle.px_ops.proofs.Whole.{same_type, table_is_whole}

abbrev Within : Ty → Applied → Type 0
Within g a = IfOk a (HasType g)

within_by : (x y : Applied) (g t : Ty) → x ≡ y → t ≡ g → Within t y → Within g x
within_by x y g t h k w = subst (λ (z : Ty). Within z x) k (subst (λ (z : Applied). Within t z) (sym h) w)

-- ---- the forms of values

int_form : (v : Value) → HasType ty.Int v → (n : ℤ) × (v ≡ Int n)
int_form (Int n) h = (n, refl)
int_form (Long n) h = absurd h
int_form (Truth n) h = absurd h
int_form (Text n) h = absurd h
int_form Null h = absurd h
int_form (Ref n) h = absurd h

long_form : (v : Value) → HasType ty.Long v → (n : ℤ) × (v ≡ Long n)
long_form (Int n) h = absurd h
long_form (Long n) h = (n, refl)
long_form (Truth n) h = absurd h
long_form (Text n) h = absurd h
long_form Null h = absurd h
long_form (Ref n) h = absurd h

bool_form : (v : Value) → HasType ty.Bool v → (b : Bool) × (v ≡ Truth b)
bool_form (Int n) h = absurd h
bool_form (Long n) h = absurd h
bool_form (Truth n) h = (n, refl)
bool_form (Text n) h = absurd h
bool_form Null h = absurd h
bool_form (Ref n) h = absurd h

-- ---- two numbers

abbrev wide : Bool → Ty
wide true = ty.Long
wide false = ty.Int

record AreNumbers (o : Op) (l g : Ty) (a b : Value) : Type 0 where
  long : Bool
  left : Bool
  m : ℤ
  n : ℤ
  pair : pair_of a b ≡ Numbers long m n
  given : g ≡ wide long
  shifts : shifted o a b ≡ shift o left m n
  left_is : l ≡ wide left
  equal : same a b ≡ Some (int_eq m n)

numbers_are : (o : Op) (l r g : Ty) (a b : Value) → promoted l r ≡ Some g → HasType l a → HasType r b → AreNumbers o l g a b
numbers_are o ty.Int ty.Int g a b e x y =
    let p = int_form a x in
    let q = int_form b y in
    rw (p.1, q.1) (record { long = false; left = false; m = p.0; n = q.0; pair = refl; given = sym (same_Some _ _ e); shifts = refl; left_is = refl; equal = refl })
numbers_are o ty.Int ty.Long g a b e x y =
    let p = int_form a x in
    let q = long_form b y in
    rw (p.1, q.1) (record { long = true; left = false; m = p.0; n = q.0; pair = refl; given = sym (same_Some _ _ e); shifts = refl; left_is = refl; equal = refl })
numbers_are o ty.Int ty.Bool g a b e x y = cc
numbers_are o ty.Int ty.Text g a b e x y = cc
numbers_are o ty.Int ty.Ref g a b e x y = cc
numbers_are o ty.Long ty.Int g a b e x y =
    let p = long_form a x in
    let q = int_form b y in
    rw (p.1, q.1) (record { long = true; left = true; m = p.0; n = q.0; pair = refl; given = sym (same_Some _ _ e); shifts = refl; left_is = refl; equal = refl })
numbers_are o ty.Long ty.Long g a b e x y =
    let p = long_form a x in
    let q = long_form b y in
    rw (p.1, q.1) (record { long = true; left = true; m = p.0; n = q.0; pair = refl; given = sym (same_Some _ _ e); shifts = refl; left_is = refl; equal = refl })
numbers_are o ty.Long ty.Bool g a b e x y = cc
numbers_are o ty.Long ty.Text g a b e x y = cc
numbers_are o ty.Long ty.Ref g a b e x y = cc
numbers_are o ty.Bool ty.Int g a b e x y = cc
numbers_are o ty.Bool ty.Long g a b e x y = cc
numbers_are o ty.Bool ty.Bool g a b e x y = cc
numbers_are o ty.Bool ty.Text g a b e x y = cc
numbers_are o ty.Bool ty.Ref g a b e x y = cc
numbers_are o ty.Text ty.Int g a b e x y = cc
numbers_are o ty.Text ty.Long g a b e x y = cc
numbers_are o ty.Text ty.Bool g a b e x y = cc
numbers_are o ty.Text ty.Text g a b e x y = cc
numbers_are o ty.Text ty.Ref g a b e x y = cc
numbers_are o ty.Ref ty.Int g a b e x y = cc
numbers_are o ty.Ref ty.Long g a b e x y = cc
numbers_are o ty.Ref ty.Bool g a b e x y = cc
numbers_are o ty.Ref ty.Text g a b e x y = cc
numbers_are o ty.Ref ty.Ref g a b e x y = cc

by_pair : (f : Pair → Applied) (p q : Pair) (g t : Ty) → p ≡ q → g ≡ t → Within t (f q) → Within g (f p)
by_pair f p q g t h k w = rw (h, k) w

number_within : (long : Bool) (n : ℤ) → Within (wide long) (number long n)
number_within true n = tt
number_within false n = tt

abbrev GivesWide : (Pair → Applied) → Type 0
GivesWide f = (long : Bool) (m n : ℤ) → Within (wide long) (f (Numbers long m n))

on_numbers : (f : Pair → Applied) → GivesWide f → (l r g : Ty) (a b : Value) → promoted l r ≡ Some g → HasType l a → HasType r b → Within g (f (pair_of a b))
on_numbers f h l r g a b e x y =
    let n = numbers_are op.Add l r g a b e x y in
    by_pair f _ _ _ _ n.pair n.given (h n.long n.m n.n)

unless_within : (b : ℤ) (g : Ty) (a : Applied) → Within g a → Within g (unless_zero b a)
unless_within b g a h = by (int_eq b (pos 0))
  where
    by : (t : Bool) → Within g (if t then Err ArithmeticException else a)
    by true = tt
    by false = h

-- ---- bits

on_bits : (f : Pair → Applied) → GivesWide f → ((x y : Bool) → Within ty.Bool (f (Truths x y))) → (l r g : Ty) (a b : Value) → of_bits l r ≡ Some g → HasType l a → HasType r b → Within g (f (pair_of a b))
on_bits f h t ty.Int ty.Int g a b e x y = on_numbers f h ty.Int ty.Int g a b e x y
on_bits f h t ty.Int ty.Long g a b e x y = on_numbers f h ty.Int ty.Long g a b e x y
on_bits f h t ty.Int ty.Bool g a b e x y = on_numbers f h ty.Int ty.Bool g a b e x y
on_bits f h t ty.Int ty.Text g a b e x y = on_numbers f h ty.Int ty.Text g a b e x y
on_bits f h t ty.Int ty.Ref g a b e x y = on_numbers f h ty.Int ty.Ref g a b e x y
on_bits f h t ty.Long ty.Int g a b e x y = on_numbers f h ty.Long ty.Int g a b e x y
on_bits f h t ty.Long ty.Long g a b e x y = on_numbers f h ty.Long ty.Long g a b e x y
on_bits f h t ty.Long ty.Bool g a b e x y = on_numbers f h ty.Long ty.Bool g a b e x y
on_bits f h t ty.Long ty.Text g a b e x y = on_numbers f h ty.Long ty.Text g a b e x y
on_bits f h t ty.Long ty.Ref g a b e x y = on_numbers f h ty.Long ty.Ref g a b e x y
on_bits f h t ty.Bool ty.Int g a b e x y = on_numbers f h ty.Bool ty.Int g a b e x y
on_bits f h t ty.Bool ty.Long g a b e x y = on_numbers f h ty.Bool ty.Long g a b e x y
on_bits f h t ty.Bool ty.Bool g a b e x y =
    let p = bool_form a x in
    let q = bool_form b y in
    rw (p.1, q.1, sym (same_Some _ _ e)) (t p.0 q.0)
on_bits f h t ty.Bool ty.Text g a b e x y = on_numbers f h ty.Bool ty.Text g a b e x y
on_bits f h t ty.Bool ty.Ref g a b e x y = on_numbers f h ty.Bool ty.Ref g a b e x y
on_bits f h t ty.Text ty.Int g a b e x y = on_numbers f h ty.Text ty.Int g a b e x y
on_bits f h t ty.Text ty.Long g a b e x y = on_numbers f h ty.Text ty.Long g a b e x y
on_bits f h t ty.Text ty.Bool g a b e x y = on_numbers f h ty.Text ty.Bool g a b e x y
on_bits f h t ty.Text ty.Text g a b e x y = on_numbers f h ty.Text ty.Text g a b e x y
on_bits f h t ty.Text ty.Ref g a b e x y = on_numbers f h ty.Text ty.Ref g a b e x y
on_bits f h t ty.Ref ty.Int g a b e x y = on_numbers f h ty.Ref ty.Int g a b e x y
on_bits f h t ty.Ref ty.Long g a b e x y = on_numbers f h ty.Ref ty.Long g a b e x y
on_bits f h t ty.Ref ty.Bool g a b e x y = on_numbers f h ty.Ref ty.Bool g a b e x y
on_bits f h t ty.Ref ty.Text g a b e x y = on_numbers f h ty.Ref ty.Text g a b e x y
on_bits f h t ty.Ref ty.Ref g a b e x y = on_numbers f h ty.Ref ty.Ref g a b e x y

-- ---- shifts

record SomeIs (x : Option Ty) (t g : Ty) : Type 0 where
  old : Ty
  is : x ≡ Some old
  given : t ≡ g

some_is : (x : Option Ty) (t g : Ty) → if_some x t ≡ Some g → SomeIs x t g
some_is None t g e = cc
some_is (Some u) t g e = record { old = u; is = refl; given = same_Some _ _ e }

on_shift : (o : Op) → ((long : Bool) (m n : ℤ) → Within (wide long) (shift o long m n)) → (l r g : Ty) (a b : Value) → if_some (promoted l r) l ≡ Some g → HasType l a → HasType r b → Within g (shifted o a b)
on_shift o h l r g a b e x y =
    let s = some_is (promoted l r) l g e in
    let n = numbers_are o l r s.old a b s.is x y in
    within_by _ _ g l n.shifts s.given (subst (λ (z : Ty). Within z (shift o n.left n.m n.n)) (sym n.left_is) (h n.left n.m n.n))

-- ---- comparisons

on_order : (f : Pair → Applied) → ((long : Bool) (m n : ℤ) → Within ty.Bool (f (Numbers long m n))) → (l r g : Ty) (a b : Value) → if_some (promoted l r) ty.Bool ≡ Some g → HasType l a → HasType r b → Within g (f (pair_of a b))
on_order f h l r g a b e x y =
    let s = some_is (promoted l r) ty.Bool g e in
    let n = numbers_are op.Add l r s.old a b s.is x y in
    within_by _ _ g ty.Bool (ap f n.pair) s.given (h n.long n.m n.n)

-- ---- equality

record AreCompared (g : Ty) (a b : Value) : Type 0 where
  answer : Bool
  is : same a b ≡ Some answer
  given : ty.Bool ≡ g

references : (g : Ty) (a b : Value) → ty.Bool ≡ g → IsCompared ty.Ref a b → IsCompared ty.Ref b a → AreCompared g a b
references g (Int m) (Int n) e x y = absurd x
references g (Int m) (Long n) e x y = absurd x
references g (Int m) (Truth n) e x y = absurd x
references g (Int m) (Text n) e x y = absurd x
references g (Int m) Null e x y = absurd x
references g (Int m) (Ref n) e x y = absurd x
references g (Long m) (Int n) e x y = absurd x
references g (Long m) (Long n) e x y = absurd x
references g (Long m) (Truth n) e x y = absurd x
references g (Long m) (Text n) e x y = absurd x
references g (Long m) Null e x y = absurd x
references g (Long m) (Ref n) e x y = absurd x
references g (Truth m) (Int n) e x y = absurd x
references g (Truth m) (Long n) e x y = absurd x
references g (Truth m) (Truth n) e x y = absurd x
references g (Truth m) (Text n) e x y = absurd x
references g (Truth m) Null e x y = absurd x
references g (Truth m) (Ref n) e x y = absurd x
references g (Text m) (Int n) e x y = absurd x
references g (Text m) (Long n) e x y = absurd x
references g (Text m) (Truth n) e x y = absurd x
references g (Text m) (Text n) e x y = absurd x
references g (Text m) Null e x y = record { answer = _; is = refl; given = e }
references g (Text m) (Ref n) e x y = absurd x
references g Null (Int n) e x y = absurd y
references g Null (Long n) e x y = absurd y
references g Null (Truth n) e x y = absurd y
references g Null (Text n) e x y = record { answer = _; is = refl; given = e }
references g Null Null e x y = record { answer = _; is = refl; given = e }
references g Null (Ref n) e x y = record { answer = _; is = refl; given = e }
references g (Ref m) (Int n) e x y = absurd y
references g (Ref m) (Long n) e x y = absurd y
references g (Ref m) (Truth n) e x y = absurd y
references g (Ref m) (Text n) e x y = absurd y
references g (Ref m) Null e x y = record { answer = _; is = refl; given = e }
references g (Ref m) (Ref n) e x y = record { answer = _; is = refl; given = e }

numbers_compared : (l r g : Ty) (a b : Value) → if_some (promoted l r) ty.Bool ≡ Some g → HasType l a → HasType r b → AreCompared g a b
numbers_compared l r g a b e x y =
    let s = some_is (promoted l r) ty.Bool g e in
    let n = numbers_are op.Add l r s.old a b s.is x y in
    record { answer = int_eq n.m n.n; is = n.equal; given = s.given }

are_compared : (l r g : Ty) (a b : Value) → of_equality l r ≡ Some g → IsCompared l a b → IsCompared r b a → AreCompared g a b
are_compared ty.Int ty.Int g a b e x y = numbers_compared ty.Int ty.Int g a b e x y
are_compared ty.Int ty.Long g a b e x y = numbers_compared ty.Int ty.Long g a b e x y
are_compared ty.Int ty.Bool g a b e x y = cc
are_compared ty.Int ty.Text g a b e x y = cc
are_compared ty.Int ty.Ref g a b e x y = cc
are_compared ty.Long ty.Int g a b e x y = numbers_compared ty.Long ty.Int g a b e x y
are_compared ty.Long ty.Long g a b e x y = numbers_compared ty.Long ty.Long g a b e x y
are_compared ty.Long ty.Bool g a b e x y = cc
are_compared ty.Long ty.Text g a b e x y = cc
are_compared ty.Long ty.Ref g a b e x y = cc
are_compared ty.Bool ty.Int g a b e x y = cc
are_compared ty.Bool ty.Long g a b e x y = cc
are_compared ty.Bool ty.Bool g a b e x y =
    let p = bool_form a x in
    let q = bool_form b y in
    rw (p.1, q.1) (record { answer = _; is = refl; given = same_Some _ _ e })
are_compared ty.Bool ty.Text g a b e x y = cc
are_compared ty.Bool ty.Ref g a b e x y = cc
are_compared ty.Text ty.Int g a b e x y = cc
are_compared ty.Text ty.Long g a b e x y = cc
are_compared ty.Text ty.Bool g a b e x y = cc
are_compared ty.Text ty.Text g a b e x y = cc
are_compared ty.Text ty.Ref g a b e x y = cc
are_compared ty.Ref ty.Int g a b e x y = cc
are_compared ty.Ref ty.Long g a b e x y = cc
are_compared ty.Ref ty.Bool g a b e x y = cc
are_compared ty.Ref ty.Text g a b e x y = cc
are_compared ty.Ref ty.Ref g a b e x y = references g a b (same_Some _ _ e) x y

on_equality : (o : Op) → ((x : Bool) → Within ty.Bool (equality o (Some x))) → (l r g : Ty) (a b : Value) → of_equality l r ≡ Some g → IsCompared l a b → IsCompared r b a → Within g (equality o (same a b))
on_equality o h l r g a b e x y =
    let c = are_compared l r g a b e x y in
    within_by _ _ g ty.Bool (ap (equality o) c.is) c.given (h c.answer)

-- ---- one operand

on_sign : (o : Op) → ((n : ℤ) → Within ty.Int (changed o (Int n))) → ((n : ℤ) → Within ty.Long (changed o (Long n))) → (l r g : Ty) (a : Value) → of_sign l r ≡ Some g → HasType l a → Within g (changed o a)
on_sign o i j ty.Int ty.Int g a e x =
    let p = int_form a x in
    rw (p.1, sym (same_Some _ _ e)) (i p.0)
on_sign o i j ty.Int ty.Long g a e x = cc
on_sign o i j ty.Int ty.Bool g a e x = cc
on_sign o i j ty.Int ty.Text g a e x = cc
on_sign o i j ty.Int ty.Ref g a e x = cc
on_sign o i j ty.Long ty.Int g a e x = cc
on_sign o i j ty.Long ty.Long g a e x =
    let p = long_form a x in
    rw (p.1, sym (same_Some _ _ e)) (j p.0)
on_sign o i j ty.Long ty.Bool g a e x = cc
on_sign o i j ty.Long ty.Text g a e x = cc
on_sign o i j ty.Long ty.Ref g a e x = cc
on_sign o i j ty.Bool ty.Int g a e x = cc
on_sign o i j ty.Bool ty.Long g a e x = cc
on_sign o i j ty.Bool ty.Bool g a e x = cc
on_sign o i j ty.Bool ty.Text g a e x = cc
on_sign o i j ty.Bool ty.Ref g a e x = cc
on_sign o i j ty.Text ty.Int g a e x = cc
on_sign o i j ty.Text ty.Long g a e x = cc
on_sign o i j ty.Text ty.Bool g a e x = cc
on_sign o i j ty.Text ty.Text g a e x = cc
on_sign o i j ty.Text ty.Ref g a e x = cc
on_sign o i j ty.Ref ty.Int g a e x = cc
on_sign o i j ty.Ref ty.Long g a e x = cc
on_sign o i j ty.Ref ty.Bool g a e x = cc
on_sign o i j ty.Ref ty.Text g a e x = cc
on_sign o i j ty.Ref ty.Ref g a e x = cc

-- the row of one type on both sides
record IsBoth (t u l r g : Ty) : Type 0 where
  left : t ≡ l
  right : t ≡ r
  given : u ≡ g

is_both : (t u l r g : Ty) → both t u l r ≡ Some g → IsBoth t u l r g
is_both t u l r g e = by (is_type t l) (is_type t r) (same_type t l) (same_type t r) e
  where
    by : (p q : Bool) → (p ≡ true → t ≡ l) → (q ≡ true → t ≡ r) → (if p && q then Some u else None) ≡ Some g → IsBoth t u l r g
    by true true h k e = record { left = h refl; right = k refl; given = same_Some _ _ e }
    by true false h k e = cc
    by false q h k e = cc

on_one : (o : Op) (t u : Ty) → ((a : Value) → HasType t a → Within u (changed o a)) → (l r g : Ty) (a : Value) → both t u l r ≡ Some g → HasType l a → Within g (changed o a)
on_one o t u h l r g a e x =
    let b = is_both t u l r g e in
    subst (λ (z : Ty). Within z (changed o a)) b.given (h a (subst (λ (z : Ty). HasType z a) (sym b.left) x))

one_not : (a : Value) → HasType ty.Bool a → Within ty.Bool (changed op.Not a)
one_not a x = let p = bool_form a x in rw p.1 tt

one_widen : (a : Value) → HasType ty.Int a → Within ty.Long (changed op.Widen a)
one_widen a x = let p = int_form a x in rw p.1 tt

one_narrow : (a : Value) → HasType ty.Long a → Within ty.Int (changed op.Narrow a)
one_narrow a x = let p = long_form a x in rw p.1 tt

-- ---- texts

joined_within : (a b : Value) → Within ty.Text (joined a b)
joined_within a b = by (nat_lt max_text (length (text_of a ++ text_of b)))
  where
    by : (t : Bool) → Within ty.Text (if t then Err TextTooLong else Ok (Text (text_of a ++ text_of b)))
    by true = tt
    by false = tt

on_join : (l r g : Ty) (a b : Value) → of_join l r ≡ Some g → Within g (joined a b)
on_join l r g a b e = by _ e
  where
    by : (t : Bool) → (if t then Some ty.Text else None) ≡ Some g → Within g (joined a b)
    by true e = subst (λ (z : Ty). Within z (joined a b)) (same_Some _ _ e) (joined_within a b)
    by false e = cc

equals_within : (a b : Value) → HasType ty.Text a → HasType ty.Text b → Within ty.Bool (equals a b)
equals_within (Int m) (Int n) x y = absurd x
equals_within (Int m) (Long n) x y = absurd x
equals_within (Int m) (Truth n) x y = absurd x
equals_within (Int m) (Text n) x y = absurd x
equals_within (Int m) Null x y = absurd x
equals_within (Int m) (Ref n) x y = absurd x
equals_within (Long m) (Int n) x y = absurd x
equals_within (Long m) (Long n) x y = absurd x
equals_within (Long m) (Truth n) x y = absurd x
equals_within (Long m) (Text n) x y = absurd x
equals_within (Long m) Null x y = absurd x
equals_within (Long m) (Ref n) x y = absurd x
equals_within (Truth m) (Int n) x y = absurd x
equals_within (Truth m) (Long n) x y = absurd x
equals_within (Truth m) (Truth n) x y = absurd x
equals_within (Truth m) (Text n) x y = absurd x
equals_within (Truth m) Null x y = absurd x
equals_within (Truth m) (Ref n) x y = absurd x
equals_within (Text m) (Int n) x y = absurd y
equals_within (Text m) (Long n) x y = absurd y
equals_within (Text m) (Truth n) x y = absurd y
equals_within (Text m) (Text n) x y = tt
equals_within (Text m) Null x y = tt
equals_within (Text m) (Ref n) x y = absurd y
equals_within Null (Int n) x y = tt
equals_within Null (Long n) x y = tt
equals_within Null (Truth n) x y = tt
equals_within Null (Text n) x y = tt
equals_within Null Null x y = tt
equals_within Null (Ref n) x y = tt
equals_within (Ref m) (Int n) x y = absurd x
equals_within (Ref m) (Long n) x y = absurd x
equals_within (Ref m) (Truth n) x y = absurd x
equals_within (Ref m) (Text n) x y = absurd x
equals_within (Ref m) Null x y = absurd x
equals_within (Ref m) (Ref n) x y = absurd x

length_within : (a : Value) → HasType ty.Text a → Within ty.Int (length_of a)
length_within (Int n) x = absurd x
length_within (Long n) x = absurd x
length_within (Truth n) x = absurd x
length_within (Text n) x = tt
length_within Null x = tt
length_within (Ref n) x = absurd x

on_equals : (l r g : Ty) (a b : Value) → both ty.Text ty.Bool l r ≡ Some g → HasType l a → HasType r b → Within g (equals a b)
on_equals l r g a b e x y =
    let t = is_both ty.Text ty.Bool l r g e in
    subst (λ (z : Ty). Within z (equals a b)) t.given (equals_within a b (subst (λ (z : Ty). HasType z a) (sym t.left) x) (subst (λ (z : Ty). HasType z b) (sym t.right) y))

on_length : (l r g : Ty) (a : Value) → both ty.Text ty.Int l r ≡ Some g → HasType l a → Within g (length_of a)
on_length l r g a e x =
    let t = is_both ty.Text ty.Int l r g e in
    subst (λ (z : Ty). Within z (length_of a)) t.given (length_within a (subst (λ (z : Ty). HasType z a) (sym t.left) x))

-- ---- all operators

keeps : (o : Op) (l r g : Ty) (a b : Value) → gives o l r ≡ Some g → IsOperand o l a b → IsOperand o r b a → Within g (apply o a b)
unfolding apply
keeps op.Add l r g a b e x y = on_numbers (arithmetic op.Add) (λ long m n. number_within long _) l r g a b e x y
keeps op.Sub l r g a b e x y = on_numbers (arithmetic op.Sub) (λ long m n. number_within long _) l r g a b e x y
keeps op.Mul l r g a b e x y = on_numbers (arithmetic op.Mul) (λ long m n. number_within long _) l r g a b e x y
keeps op.Div l r g a b e x y = on_numbers (arithmetic op.Div) (λ long m n. unless_within n (wide long) _ (number_within long _)) l r g a b e x y
keeps op.Rem l r g a b e x y = on_numbers (arithmetic op.Rem) (λ long m n. unless_within n (wide long) _ (number_within long _)) l r g a b e x y
keeps op.And l r g a b e x y = on_bits (bitwise op.And) (λ long m n. number_within long _) (λ m n. tt) l r g a b e x y
keeps op.Or l r g a b e x y = on_bits (bitwise op.Or) (λ long m n. number_within long _) (λ m n. tt) l r g a b e x y
keeps op.Xor l r g a b e x y = on_bits (bitwise op.Xor) (λ long m n. number_within long _) (λ m n. tt) l r g a b e x y
keeps op.Shl l r g a b e x y = on_shift op.Shl (λ long m n. number_within long _) l r g a b e x y
keeps op.Shr l r g a b e x y = on_shift op.Shr (λ long m n. number_within long _) l r g a b e x y
keeps op.Ushr l r g a b e x y = on_shift op.Ushr (λ long m n. number_within long _) l r g a b e x y
keeps op.Lt l r g a b e x y = on_order (compared op.Lt) (λ long m n. tt) l r g a b e x y
keeps op.Le l r g a b e x y = on_order (compared op.Le) (λ long m n. tt) l r g a b e x y
keeps op.Gt l r g a b e x y = on_order (compared op.Gt) (λ long m n. tt) l r g a b e x y
keeps op.Ge l r g a b e x y = on_order (compared op.Ge) (λ long m n. tt) l r g a b e x y
keeps op.Eq l r g a b e x y = on_equality op.Eq (λ t. tt) l r g a b e x y
keeps op.Ne l r g a b e x y = on_equality op.Ne (λ t. tt) l r g a b e x y
keeps op.Neg l r g a b e x y = on_sign op.Neg (λ n. tt) (λ n. tt) l r g a e x
keeps op.Inv l r g a b e x y = on_sign op.Inv (λ n. tt) (λ n. tt) l r g a e x
keeps op.Not l r g a b e x y = on_one op.Not ty.Bool ty.Bool one_not l r g a e x
keeps op.Widen l r g a b e x y = on_one op.Widen ty.Int ty.Long one_widen l r g a e x
keeps op.Narrow l r g a b e x y = on_one op.Narrow ty.Long ty.Int one_narrow l r g a e x
keeps op.Concat l r g a b e x y = on_join l r g a b e
keeps op.Equals l r g a b e x y = on_equals l r g a b e x y
keeps op.Length l r g a b e x y = on_length l r g a e x

pub rows_keep_types : RowsKeepTypes
rows_keep_types o l r g a b e x y = keeps o l r g a b (sym (table_is_whole o l r) ∙ e) x y
