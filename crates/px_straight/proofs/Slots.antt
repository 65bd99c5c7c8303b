-- The slots of a frame: a list of values for each type, and a function of numbers.
use Rattle.std.proofs.Common.{◌≡◌, ℕ, zero, suc, false, nat_eq, arith, List, [], ◌∷◌, map, Option, Some, unwrap_or, slice_get, slice_set, if◌then◌else◌, refl, sym, ap, ◌∙◌}
use Rattle.std.proofs.lemmas.Bool.Decides.{nat_tests}
use Rattle.px_value.specs.declared.value.Value.{Value}
use Rattle.px_value.specs.declared.value.Value.TheVariants.{Null}
use Rattle.px_value.specs.Defaults as simple
use Rattle.px_normal.specs.declared.ty.Ty.{Ty}
use Rattle.px_normal.specs.declared.ty.Ty.TheVariants as ty
use Rattle.px_normal.specs.declared.word.Operand.{Operand}
use Rattle.px_normal.specs.declared.word.Operand.TheVariants.{Slot, Literal}
use Rattle.px_normal.specs.First.{default_of, with_first}
use Rattle.px_normal.specs.Words.{operand}
use Rattle.px_code.specs.Act as act
use Rattle.px_code.specs.Act.{Slots}
use Rattle.px_code.specs.CodeRun.{first_slots}
use Rattle.px_straight.specs.Simple.{simple_type, simple_operand}
use Rattle.px_straight.proofs.TakenWords.{TakenOperand, slot, literal}

-- the first slots, one for each of a list
abbrev pub as_list : {A : Type 0} → List A → Slots → List Value
as_list [] f = []
as_list (x ∷ xs) f = f 0 ∷ as_list xs (λ k. f (suc k))

pub get_list : {A : Type 0} (xs : List A) (f : Slots) (k : ℕ) (x : A) → slice_get xs k ≡ Some x → slice_get (as_list xs f) k ≡ Some (f k)
get_list [] f k x h = cc
get_list (y ∷ xs) f zero x h = refl
get_list (y ∷ xs) f (suc k) x h = get_list xs (λ j. f (suc j)) k x h

eq_above : (j : ℕ) → nat_eq (suc j) 0 ≡ false
eq_above j = grind (arith, nat_tests)

eq_below : (k : ℕ) → nat_eq 0 (suc k) ≡ false
eq_below k = grind (arith, nat_tests)

eq_both : (j k : ℕ) → nat_eq (suc j) (suc k) ≡ nat_eq j k
eq_both j k = grind (arith, nat_tests)

pub set_list : {A : Type 0} (xs : List A) (f : Slots) (k : ℕ) (v : Value) (x : A) → slice_get xs k ≡ Some x → slice_set (as_list xs f) k v ≡ as_list xs (λ j. if nat_eq j k then v else f j)
set_list [] f k v x h = cc
set_list (y ∷ xs) f zero v x h = (λ i. v ∷ as_list xs (λ j. if sym (eq_above j) i then v else f (suc j)))
set_list (y ∷ xs) f (suc k) v x h =
    ap (λ (vs : List Value). f 0 ∷ vs) (set_list xs (λ j. f (suc j)) k v x h)
    ∙ (λ i. (if sym (eq_below k) i then v else f 0) ∷ as_list xs (λ j. if sym (eq_both j k) i then v else f (suc j)))

-- ---- operands

pub operand_same : (types : List Ty) (f : Slots) (a : Operand) → TakenOperand types a → operand (as_list types f) a ≡ act.operand f (simple_operand a)
operand_same types f (Slot n) (slot _ t h) = ap (λ (o : Option Value). unwrap_or o Null) (get_list types f n t h)
operand_same types f (Literal v) (literal _ h) = refl

-- ---- the first values

default_same : (t : Ty) → default_of t ≡ simple.default_of (simple_type t)
default_same ty.Int = refl
default_same ty.Long = refl
default_same ty.Bool = refl
default_same ty.Text = refl
default_same (ty.Object class) = refl
default_same (ty.Array element) = refl
default_same ty.Rows = refl

blank_list : (types : List Ty) → map default_of types ≡ as_list types (λ k. unwrap_or (slice_get (map simple.default_of (map simple_type types)) k) Null)
blank_list [] = refl
blank_list (t ∷ types) = (λ i. default_same t i ∷ blank_list types i)

pub first_list : (types : List Ty) (args : List Value) → with_first args (map default_of types) ≡ as_list types (first_slots (map simple_type types) args)
first_list [] [] = refl
first_list [] (v ∷ args) = refl
first_list (t ∷ types) [] = blank_list (t ∷ types)
first_list (t ∷ types) (v ∷ args) = ap (λ (vs : List Value). v ∷ vs) (first_list types args)
