-- Operands that keep the rules give the type of the rules.
use Rattle.std.proofs.Common.{◌≡◌, ◌⊎◌, inl, inr, Bool, true, false, ◌&&◌, ◌||◌, refl, sym, ap, subst}
use Rattle.std.proofs.lemmas.Bool.{true≢false, eqb-true}
use Rattle.px_tree.specs.declared.Sign.{Sign}
use Rattle.px_tree.specs.declared.Sign.TheVariants as sign
use Rattle.px_value.specs.declared.op.Op.{Op}
use Rattle.px_value.specs.declared.op.Op.TheVariants as op
use Rattle.px_facts.specs.declared.types.Ty.{Ty}
use Rattle.px_facts.specs.declared.types.Ty.TheVariants as ty
use Rattle.px_facts.specs.declared.types.Element.{Element}
use Rattle.px_facts.specs.declared.types.Element.TheVariants as element
use Rattle.px_facts.specs.Types.{is_unknown, is_void, is_number, is_boolean, is_text, same_element, same, fits}
use Rattle.px_type_rules.specs.declared.operators.Group.{Group}
use Rattle.px_type_rules.specs.declared.operators.Group.TheVariants as group
use Rattle.px_type_rules.specs.Operators.{promoted, both_promoted, prefix_fits, prefix_type, group_of, group_takes, are_numbers, are_booleans, are_references, group_joins, operand_fits, operands_fit, bits_type, group_type, compares_texts, compound_takes, assigned_fits, compound_fits}
use Rattle.px_mean.specs.Facts.{op_of, prefix_of}
use Rattle.px_mean.specs.Typing.{Promotes, IsArithmetic, IsOfBits, IsShift, IsOrder, IsEquality, IsObject, AreCompared, GivesType, PrefixGives, BinaryGives, Fits}
use Rattle.px_mean.specs.Typing as t
use Rattle.px_uses.specs.Uses.{is_joined, joins, is_choice}
use Rattle.px_soundness.specs.Numbered.{IsPrefix, IsBinary}
use Rattle.px_soundness.proofs.Clean.{and_left, and_right, or_right}

-- ---- types by a test

pub data IsNumber : Ty → Type 0 where
  int : IsNumber ty.Int
  long : IsNumber ty.Long

pub number_of : (t : Ty) → is_number t ≡ true → IsNumber t
number_of ty.Int h = IsNumber.int
number_of ty.Long h = IsNumber.long
number_of ty.Unknown h = absurd (true≢false (sym h))
number_of ty.Void h = absurd (true≢false (sym h))
number_of ty.Null h = absurd (true≢false (sym h))
number_of ty.Boolean h = absurd (true≢false (sym h))
number_of ty.Text h = absurd (true≢false (sym h))
number_of (ty.Object c) h = absurd (true≢false (sym h))
number_of (ty.Array e) h = absurd (true≢false (sym h))
number_of ty.ResultSet h = absurd (true≢false (sym h))

pub boolean_of : (t : Ty) → is_boolean t ≡ true → t ≡ ty.Boolean
boolean_of ty.Boolean h = refl
boolean_of ty.Int h = absurd (true≢false (sym h))
boolean_of ty.Long h = absurd (true≢false (sym h))
boolean_of ty.Unknown h = absurd (true≢false (sym h))
boolean_of ty.Void h = absurd (true≢false (sym h))
boolean_of ty.Null h = absurd (true≢false (sym h))
boolean_of ty.Text h = absurd (true≢false (sym h))
boolean_of (ty.Object c) h = absurd (true≢false (sym h))
boolean_of (ty.Array e) h = absurd (true≢false (sym h))
boolean_of ty.ResultSet h = absurd (true≢false (sym h))

pub text_of : (t : Ty) → is_text t ≡ true → t ≡ ty.Text
text_of ty.Text h = refl
text_of ty.Boolean h = absurd (true≢false (sym h))
text_of ty.Int h = absurd (true≢false (sym h))
text_of ty.Long h = absurd (true≢false (sym h))
text_of ty.Unknown h = absurd (true≢false (sym h))
text_of ty.Void h = absurd (true≢false (sym h))
text_of ty.Null h = absurd (true≢false (sym h))
text_of (ty.Object c) h = absurd (true≢false (sym h))
text_of (ty.Array e) h = absurd (true≢false (sym h))
text_of ty.ResultSet h = absurd (true≢false (sym h))

pub void_of : (t : Ty) → is_void t ≡ true → t ≡ ty.Void
void_of ty.Void h = refl
void_of ty.Text h = absurd (true≢false (sym h))
void_of ty.Boolean h = absurd (true≢false (sym h))
void_of ty.Int h = absurd (true≢false (sym h))
void_of ty.Long h = absurd (true≢false (sym h))
void_of ty.Unknown h = absurd (true≢false (sym h))
void_of ty.Null h = absurd (true≢false (sym h))
void_of (ty.Object c) h = absurd (true≢false (sym h))
void_of (ty.Array e) h = absurd (true≢false (sym h))
void_of ty.ResultSet h = absurd (true≢false (sym h))

-- ---- values that fit

same_elements : (a b : Element) → same_element a b ≡ true → a ≡ b
same_elements element.Int element.Int h = refl
same_elements element.Long element.Long h = refl
same_elements element.Boolean element.Boolean h = refl
same_elements element.Text element.Text h = refl
same_elements (element.Object a) (element.Object b) h = ap element.Object (eqb-true a b h)
same_elements element.Int element.Long h = absurd (true≢false (sym h))
same_elements element.Int element.Boolean h = absurd (true≢false (sym h))
same_elements element.Int element.Text h = absurd (true≢false (sym h))
same_elements element.Int (element.Object b) h = absurd (true≢false (sym h))
same_elements element.Long element.Int h = absurd (true≢false (sym h))
same_elements element.Long element.Boolean h = absurd (true≢false (sym h))
same_elements element.Long element.Text h = absurd (true≢false (sym h))
same_elements element.Long (element.Object b) h = absurd (true≢false (sym h))
same_elements element.Boolean element.Int h = absurd (true≢false (sym h))
same_elements element.Boolean element.Long h = absurd (true≢false (sym h))
same_elements element.Boolean element.Text h = absurd (true≢false (sym h))
same_elements element.Boolean (element.Object b) h = absurd (true≢false (sym h))
same_elements element.Text element.Int h = absurd (true≢false (sym h))
same_elements element.Text element.Long h = absurd (true≢false (sym h))
same_elements element.Text element.Boolean h = absurd (true≢false (sym h))
same_elements element.Text (element.Object b) h = absurd (true≢false (sym h))
same_elements (element.Object a) element.Int h = absurd (true≢false (sym h))
same_elements (element.Object a) element.Long h = absurd (true≢false (sym h))
same_elements (element.Object a) element.Boolean h = absurd (true≢false (sym h))
same_elements (element.Object a) element.Text h = absurd (true≢false (sym h))

pub same_types : (x y : Ty) → same x y ≡ true → x ≡ y
same_types ty.Unknown ty.Unknown h = refl
same_types ty.Unknown ty.Void h = absurd (true≢false (sym h))
same_types ty.Unknown ty.Null h = absurd (true≢false (sym h))
same_types ty.Unknown ty.Int h = absurd (true≢false (sym h))
same_types ty.Unknown ty.Long h = absurd (true≢false (sym h))
same_types ty.Unknown ty.Boolean h = absurd (true≢false (sym h))
same_types ty.Unknown ty.Text h = absurd (true≢false (sym h))
same_types ty.Unknown (ty.Object b) h = absurd (true≢false (sym h))
same_types ty.Unknown (ty.Array b) h = absurd (true≢false (sym h))
same_types ty.Unknown ty.ResultSet h = absurd (true≢false (sym h))
same_types ty.Void ty.Unknown h = absurd (true≢false (sym h))
same_types ty.Void ty.Void h = refl
same_types ty.Void ty.Null h = absurd (true≢false (sym h))
same_types ty.Void ty.Int h = absurd (true≢false (sym h))
same_types ty.Void ty.Long h = absurd (true≢false (sym h))
same_types ty.Void ty.Boolean h = absurd (true≢false (sym h))
same_types ty.Void ty.Text h = absurd (true≢false (sym h))
same_types ty.Void (ty.Object b) h = absurd (true≢false (sym h))
same_types ty.Void (ty.Array b) h = absurd (true≢false (sym h))
same_types ty.Void ty.ResultSet h = absurd (true≢false (sym h))
same_types ty.Null ty.Unknown h = absurd (true≢false (sym h))
same_types ty.Null ty.Void h = absurd (true≢false (sym h))
same_types ty.Null ty.Null h = refl
same_types ty.Null ty.Int h = absurd (true≢false (sym h))
same_types ty.Null ty.Long h = absurd (true≢false (sym h))
same_types ty.Null ty.Boolean h = absurd (true≢false (sym h))
same_types ty.Null ty.Text h = absurd (true≢false (sym h))
same_types ty.Null (ty.Object b) h = absurd (true≢false (sym h))
same_types ty.Null (ty.Array b) h = absurd (true≢false (sym h))
same_types ty.Null ty.ResultSet h = absurd (true≢false (sym h))
same_types ty.Int ty.Unknown h = absurd (true≢false (sym h))
same_types ty.Int ty.Void h = absurd (true≢false (sym h))
same_types ty.Int ty.Null h = absurd (true≢false (sym h))
same_types ty.Int ty.Int h = refl
same_types ty.Int ty.Long h = absurd (true≢false (sym h))
same_types ty.Int ty.Boolean h = absurd (true≢false (sym h))
same_types ty.Int ty.Text h = absurd (true≢false (sym h))
same_types ty.Int (ty.Object b) h = absurd (true≢false (sym h))
same_types ty.Int (ty.Array b) h = absurd (true≢false (sym h))
same_types ty.Int ty.ResultSet h = absurd (true≢false (sym h))
same_types ty.Long ty.Unknown h = absurd (true≢false (sym h))
same_types ty.Long ty.Void h = absurd (true≢false (sym h))
same_types ty.Long ty.Null h = absurd (true≢false (sym h))
same_types ty.Long ty.Int h = absurd (true≢false (sym h))
same_types ty.Long ty.Long h = refl
same_types ty.Long ty.Boolean h = absurd (true≢false (sym h))
same_types ty.Long ty.Text h = absurd (true≢false (sym h))
same_types ty.Long (ty.Object b) h = absurd (true≢false (sym h))
same_types ty.Long (ty.Array b) h = absurd (true≢false (sym h))
same_types ty.Long ty.ResultSet h = absurd (true≢false (sym h))
same_types ty.Boolean ty.Unknown h = absurd (true≢false (sym h))
same_types ty.Boolean ty.Void h = absurd (true≢false (sym h))
same_types ty.Boolean ty.Null h = absurd (true≢false (sym h))
same_types ty.Boolean ty.Int h = absurd (true≢false (sym h))
same_types ty.Boolean ty.Long h = absurd (true≢false (sym h))
same_types ty.Boolean ty.Boolean h = refl
same_types ty.Boolean ty.Text h = absurd (true≢false (sym h))
same_types ty.Boolean (ty.Object b) h = absurd (true≢false (sym h))
same_types ty.Boolean (ty.Array b) h = absurd (true≢false (sym h))
same_types ty.Boolean ty.ResultSet h = absurd (true≢false (sym h))
same_types ty.Text ty.Unknown h = absurd (true≢false (sym h))
same_types ty.Text ty.Void h = absurd (true≢false (sym h))
same_types ty.Text ty.Null h = absurd (true≢false (sym h))
same_types ty.Text ty.Int h = absurd (true≢false (sym h))
same_types ty.Text ty.Long h = absurd (true≢false (sym h))
same_types ty.Text ty.Boolean h = absurd (true≢false (sym h))
same_types ty.Text ty.Text h = refl
same_types ty.Text (ty.Object b) h = absurd (true≢false (sym h))
same_types ty.Text (ty.Array b) h = absurd (true≢false (sym h))
same_types ty.Text ty.ResultSet h = absurd (true≢false (sym h))
same_types (ty.Object a) ty.Unknown h = absurd (true≢false (sym h))
same_types (ty.Object a) ty.Void h = absurd (true≢false (sym h))
same_types (ty.Object a) ty.Null h = absurd (true≢false (sym h))
same_types (ty.Object a) ty.Int h = absurd (true≢false (sym h))
same_types (ty.Object a) ty.Long h = absurd (true≢false (sym h))
same_types (ty.Object a) ty.Boolean h = absurd (true≢false (sym h))
same_types (ty.Object a) ty.Text h = absurd (true≢false (sym h))
same_types (ty.Object a) (ty.Object b) h = ap ty.Object (eqb-true a b h)
same_types (ty.Object a) (ty.Array b) h = absurd (true≢false (sym h))
same_types (ty.Object a) ty.ResultSet h = absurd (true≢false (sym h))
same_types (ty.Array a) ty.Unknown h = absurd (true≢false (sym h))
same_types (ty.Array a) ty.Void h = absurd (true≢false (sym h))
same_types (ty.Array a) ty.Null h = absurd (true≢false (sym h))
same_types (ty.Array a) ty.Int h = absurd (true≢false (sym h))
same_types (ty.Array a) ty.Long h = absurd (true≢false (sym h))
same_types (ty.Array a) ty.Boolean h = absurd (true≢false (sym h))
same_types (ty.Array a) ty.Text h = absurd (true≢false (sym h))
same_types (ty.Array a) (ty.Object b) h = absurd (true≢false (sym h))
same_types (ty.Array a) (ty.Array b) h = ap ty.Array (same_elements a b h)
same_types (ty.Array a) ty.ResultSet h = absurd (true≢false (sym h))
same_types ty.ResultSet ty.Unknown h = absurd (true≢false (sym h))
same_types ty.ResultSet ty.Void h = absurd (true≢false (sym h))
same_types ty.ResultSet ty.Null h = absurd (true≢false (sym h))
same_types ty.ResultSet ty.Int h = absurd (true≢false (sym h))
same_types ty.ResultSet ty.Long h = absurd (true≢false (sym h))
same_types ty.ResultSet ty.Boolean h = absurd (true≢false (sym h))
same_types ty.ResultSet ty.Text h = absurd (true≢false (sym h))
same_types ty.ResultSet (ty.Object b) h = absurd (true≢false (sym h))
same_types ty.ResultSet (ty.Array b) h = absurd (true≢false (sym h))
same_types ty.ResultSet ty.ResultSet h = refl

-- an assignment of a value of a known type to a variable of a known type
pub fitting : (to from : Ty) → is_unknown to ≡ false → is_unknown from ≡ false → fits to from ≡ true → Fits from to
fitting ty.Unknown from k l h = absurd (true≢false k)
fitting ty.Void ty.Unknown k l h = absurd (true≢false l)
fitting ty.Void ty.Void k l h = absurd (true≢false (sym h))
fitting ty.Void ty.Null k l h = absurd (true≢false (sym h))
fitting ty.Void ty.Int k l h = absurd (true≢false (sym h))
fitting ty.Void ty.Long k l h = absurd (true≢false (sym h))
fitting ty.Void ty.Boolean k l h = absurd (true≢false (sym h))
fitting ty.Void ty.Text k l h = absurd (true≢false (sym h))
fitting ty.Void (ty.Object b) k l h = absurd (true≢false (sym h))
fitting ty.Void (ty.Array b) k l h = absurd (true≢false (sym h))
fitting ty.Void ty.ResultSet k l h = absurd (true≢false (sym h))
fitting ty.Null ty.Unknown k l h = absurd (true≢false l)
fitting ty.Null ty.Void k l h = absurd (true≢false (sym h))
fitting ty.Null ty.Null k l h = absurd (true≢false (sym h))
fitting ty.Null ty.Int k l h = absurd (true≢false (sym h))
fitting ty.Null ty.Long k l h = absurd (true≢false (sym h))
fitting ty.Null ty.Boolean k l h = absurd (true≢false (sym h))
fitting ty.Null ty.Text k l h = absurd (true≢false (sym h))
fitting ty.Null (ty.Object b) k l h = absurd (true≢false (sym h))
fitting ty.Null (ty.Array b) k l h = absurd (true≢false (sym h))
fitting ty.Null ty.ResultSet k l h = absurd (true≢false (sym h))
fitting ty.Int ty.Unknown k l h = absurd (true≢false l)
fitting ty.Int ty.Void k l h = absurd (true≢false (sym h))
fitting ty.Int ty.Null k l h = absurd (true≢false (sym h))
fitting ty.Int ty.Int k l h = t.Fits.same ty.Int
fitting ty.Int ty.Long k l h = absurd (true≢false (sym h))
fitting ty.Int ty.Boolean k l h = absurd (true≢false (sym h))
fitting ty.Int ty.Text k l h = absurd (true≢false (sym h))
fitting ty.Int (ty.Object b) k l h = absurd (true≢false (sym h))
fitting ty.Int (ty.Array b) k l h = absurd (true≢false (sym h))
fitting ty.Int ty.ResultSet k l h = absurd (true≢false (sym h))
fitting ty.Long ty.Unknown k l h = absurd (true≢false l)
fitting ty.Long ty.Void k l h = absurd (true≢false (sym h))
fitting ty.Long ty.Null k l h = absurd (true≢false (sym h))
fitting ty.Long ty.Int k l h = t.Fits.wide
fitting ty.Long ty.Long k l h = t.Fits.same ty.Long
fitting ty.Long ty.Boolean k l h = absurd (true≢false (sym h))
fitting ty.Long ty.Text k l h = absurd (true≢false (sym h))
fitting ty.Long (ty.Object b) k l h = absurd (true≢false (sym h))
fitting ty.Long (ty.Array b) k l h = absurd (true≢false (sym h))
fitting ty.Long ty.ResultSet k l h = absurd (true≢false (sym h))
fitting ty.Boolean ty.Unknown k l h = absurd (true≢false l)
fitting ty.Boolean ty.Void k l h = absurd (true≢false (sym h))
fitting ty.Boolean ty.Null k l h = absurd (true≢false (sym h))
fitting ty.Boolean ty.Int k l h = absurd (true≢false (sym h))
fitting ty.Boolean ty.Long k l h = absurd (true≢false (sym h))
fitting ty.Boolean ty.Boolean k l h = t.Fits.same ty.Boolean
fitting ty.Boolean ty.Text k l h = absurd (true≢false (sym h))
fitting ty.Boolean (ty.Object b) k l h = absurd (true≢false (sym h))
fitting ty.Boolean (ty.Array b) k l h = absurd (true≢false (sym h))
fitting ty.Boolean ty.ResultSet k l h = absurd (true≢false (sym h))
fitting ty.Text ty.Unknown k l h = absurd (true≢false l)
fitting ty.Text ty.Void k l h = absurd (true≢false (sym h))
fitting ty.Text ty.Null k l h = t.Fits.null ty.Text tt
fitting ty.Text ty.Int k l h = absurd (true≢false (sym h))
fitting ty.Text ty.Long k l h = absurd (true≢false (sym h))
fitting ty.Text ty.Boolean k l h = absurd (true≢false (sym h))
fitting ty.Text ty.Text k l h = t.Fits.same ty.Text
fitting ty.Text (ty.Object b) k l h = absurd (true≢false (sym h))
fitting ty.Text (ty.Array b) k l h = absurd (true≢false (sym h))
fitting ty.Text ty.ResultSet k l h = absurd (true≢false (sym h))
fitting (ty.Object a) ty.Unknown k l h = absurd (true≢false l)
fitting (ty.Object a) ty.Void k l h = absurd (true≢false (sym h))
fitting (ty.Object a) ty.Null k l h = t.Fits.null (ty.Object a) tt
fitting (ty.Object a) ty.Int k l h = absurd (true≢false (sym h))
fitting (ty.Object a) ty.Long k l h = absurd (true≢false (sym h))
fitting (ty.Object a) ty.Boolean k l h = absurd (true≢false (sym h))
fitting (ty.Object a) ty.Text k l h = absurd (true≢false (sym h))
fitting (ty.Object a) (ty.Object b) k l h = subst (λ (z : Ty). Fits z (ty.Object a)) (ap ty.Object (eqb-true a b h)) (t.Fits.same (ty.Object a))
fitting (ty.Object a) (ty.Array b) k l h = absurd (true≢false (sym h))
fitting (ty.Object a) ty.ResultSet k l h = absurd (true≢false (sym h))
fitting (ty.Array a) ty.Unknown k l h = absurd (true≢false l)
fitting (ty.Array a) ty.Void k l h = absurd (true≢false (sym h))
fitting (ty.Array a) ty.Null k l h = t.Fits.null (ty.Array a) tt
fitting (ty.Array a) ty.Int k l h = absurd (true≢false (sym h))
fitting (ty.Array a) ty.Long k l h = absurd (true≢false (sym h))
fitting (ty.Array a) ty.Boolean k l h = absurd (true≢false (sym h))
fitting (ty.Array a) ty.Text k l h = absurd (true≢false (sym h))
fitting (ty.Array a) (ty.Object b) k l h = absurd (true≢false (sym h))
fitting (ty.Array a) (ty.Array b) k l h = subst (λ (z : Ty). Fits z (ty.Array a)) (ap ty.Array (same_elements a b h)) (t.Fits.same (ty.Array a))
fitting (ty.Array a) ty.ResultSet k l h = absurd (true≢false (sym h))
fitting ty.ResultSet ty.Unknown k l h = absurd (true≢false l)
fitting ty.ResultSet ty.Void k l h = absurd (true≢false (sym h))
fitting ty.ResultSet ty.Null k l h = t.Fits.null ty.ResultSet tt
fitting ty.ResultSet ty.Int k l h = absurd (true≢false (sym h))
fitting ty.ResultSet ty.Long k l h = absurd (true≢false (sym h))
fitting ty.ResultSet ty.Boolean k l h = absurd (true≢false (sym h))
fitting ty.ResultSet ty.Text k l h = absurd (true≢false (sym h))
fitting ty.ResultSet (ty.Object b) k l h = absurd (true≢false (sym h))
fitting ty.ResultSet (ty.Array b) k l h = absurd (true≢false (sym h))
fitting ty.ResultSet ty.ResultSet k l h = t.Fits.same ty.ResultSet

-- an int or a boolean, where one is wanted
pub int_of : (from : Ty) → is_unknown from ≡ false → fits ty.Int from ≡ true → from ≡ ty.Int
int_of from k h = exact from (fitting ty.Int from refl k h)
  where
    exact : (from : Ty) → Fits from ty.Int → from ≡ ty.Int
    exact _ (t.Fits.same _) = refl
    exact _ (t.Fits.null _ m) = absurd m

pub truth_of : (from : Ty) → is_unknown from ≡ false → fits ty.Boolean from ≡ true → from ≡ ty.Boolean
truth_of from k h = exact from (fitting ty.Boolean from refl k h)
  where
    exact : (from : Ty) → Fits from ty.Boolean → from ≡ ty.Boolean
    exact _ (t.Fits.same _) = refl
    exact _ (t.Fits.null _ m) = absurd m

pub not_void : (to from : Ty) → fits to from ≡ true → is_void from ≡ false
not_void to ty.Unknown h = refl
not_void to ty.Void h = absurd (true≢false (sym h))
not_void to ty.Null h = refl
not_void to ty.Int h = refl
not_void to ty.Long h = refl
not_void to ty.Boolean h = refl
not_void to ty.Text h = refl
not_void to (ty.Object b) h = refl
not_void to (ty.Array b) h = refl
not_void to ty.ResultSet h = refl

-- ---- promotion

pub promotes : (l r : Ty) → IsNumber l → IsNumber r → Promotes l r (both_promoted l r) × (is_unknown (both_promoted l r) ≡ false)
promotes _ _ IsNumber.int IsNumber.int = (t.Promotes.ints, refl)
promotes _ _ IsNumber.int IsNumber.long = (t.Promotes.int_long, refl)
promotes _ _ IsNumber.long IsNumber.int = (t.Promotes.long_int, refl)
promotes _ _ IsNumber.long IsNumber.long = (t.Promotes.longs, refl)

pub promotes_itself : (t : Ty) → IsNumber t → Promotes t t t
promotes_itself _ IsNumber.int = t.Promotes.ints
promotes_itself _ IsNumber.long = t.Promotes.longs

-- ---- prefixes

abbrev PrefixStands : Sign → Ty → Type 0
PrefixStands s t = PrefixGives (prefix_of s t) t (prefix_type s t) × (is_unknown (prefix_type s t) ≡ false)

minus_stands : (t : Ty) → IsNumber t → PrefixStands sign.Minus t
minus_stands _ IsNumber.int = (t.GivesType.neg ty.Int t.Promotes.ints, refl)
minus_stands _ IsNumber.long = (t.GivesType.neg ty.Long t.Promotes.longs, refl)

inv_stands : (t : Ty) → IsNumber t → PrefixStands sign.Inv t
inv_stands _ IsNumber.int = (t.GivesType.inv ty.Int t.Promotes.ints, refl)
inv_stands _ IsNumber.long = (t.GivesType.inv ty.Long t.Promotes.longs, refl)

to_int_stands : (t : Ty) → IsNumber t → PrefixStands sign.ToInt t
to_int_stands _ IsNumber.int = (refl, refl)
to_int_stands _ IsNumber.long = (t.GivesType.narrow, refl)

to_long_stands : (t : Ty) → IsNumber t → PrefixStands sign.ToLong t
to_long_stands _ IsNumber.int = (t.GivesType.widen, refl)
to_long_stands _ IsNumber.long = (refl, refl)

pub prefix_stands : (s : Sign) (t : Ty) → IsPrefix s → is_unknown t ≡ false → prefix_fits s t ≡ true → PrefixGives (prefix_of s t) t (prefix_type s t) × (is_unknown (prefix_type s t) ≡ false)
prefix_stands _ t IsPrefix.minus k h = minus_stands t (number_of t (or_right (is_unknown t) (is_number t) k h))
prefix_stands _ t IsPrefix.inv k h = inv_stands t (number_of t (or_right (is_unknown t) (is_number t) k h))
prefix_stands _ t IsPrefix.to_int k h = to_int_stands t (number_of t (or_right (is_unknown t) (is_number t) k h))
prefix_stands _ t IsPrefix.to_long k h = to_long_stands t (number_of t (or_right (is_unknown t) (is_number t) k h))
prefix_stands _ x IsPrefix.not k h =
    (subst (λ (u : Ty). GivesType op.Not u u ty.Boolean) (sym (boolean_of x (or_right (is_unknown x) (is_boolean x) k h))) t.GivesType.not, refl)

-- ---- operators between two operands

-- what the rules ask of two known operands
pub record Fit (g : Group) (l r : Ty) : Type 0 where
  pub left : group_takes g l ≡ true
  pub right : group_takes g r ≡ true
  pub joined : group_joins g l r ≡ true

neither : (a b c : Bool) → a ≡ false → b ≡ false → ((a || b) || c) ≡ true → c ≡ true
neither a b c h k e = or_right b c k (or_right a (b || c) h (or_or a b c e))
  where
    or_or : (a b c : Bool) → ((a || b) || c) ≡ true → (a || (b || c)) ≡ true
    or_or true b c e = refl
    or_or false b c e = e

pub fit_of : (g : Group) (l r : Ty) → is_unknown l ≡ false → is_unknown r ≡ false → operands_fit g l r ≡ true → Fit g l r
fit_of g l r k m h =
    let both = and_left (operand_fits g l && operand_fits g r) ((is_unknown l || is_unknown r) || group_joins g l r) h in
    record {
      left = or_right (is_unknown l) (group_takes g l) k (and_left (operand_fits g l) (operand_fits g r) both);
      right = or_right (is_unknown r) (group_takes g r) m (and_right (operand_fits g l) (operand_fits g r) both);
      joined = neither (is_unknown l) (is_unknown r) (group_joins g l r) k m (and_right (operand_fits g l && operand_fits g r) ((is_unknown l || is_unknown r) || group_joins g l r) h);
    }

abbrev Stands : Sign → Ty → Ty → Type 0
Stands s l r = BinaryGives s l r (group_type (group_of s) l r) × (is_unknown (group_type (group_of s) l r) ≡ false)

arithmetic_stands : (l r : Ty) → Fit group.Arithmetic l r → Promotes l r (both_promoted l r) × (is_unknown (both_promoted l r) ≡ false)
arithmetic_stands l r f = promotes l r (number_of l f.left) (number_of r f.right)

-- two texts, or a text and any other: the sum is a text
pub data Sum : Ty → Ty → Type 0 where
  numbers : (l r : Ty) → IsNumber l → IsNumber r → Sum l r
  left : (r : Ty) → Sum ty.Text r
  right : (l : Ty) → Sum l ty.Text

by_sum : (l r : Ty) (a b c : Bool) → are_numbers l r ≡ a → is_text l ≡ b → is_text r ≡ c → ((a || b) || c) ≡ true → Sum l r
by_sum l r true b c e f g h = Sum.numbers l r (number_of l (and_left (is_number l) (is_number r) e)) (number_of r (and_right (is_number l) (is_number r) e))
by_sum l r false true c e f g h = subst (λ (x : Ty). Sum x r) (sym (text_of l f)) (Sum.left r)
by_sum l r false false true e f g h = subst (λ (x : Ty). Sum l x) (sym (text_of r g)) (Sum.right l)
by_sum l r false false false e f g h = absurd (true≢false (sym h))

sum_stands : (l r : Ty) → Sum l r → Stands sign.Plus l r
sum_stands _ _ (Sum.numbers _ _ IsNumber.int IsNumber.int) = (t.GivesType.arithmetic op.Add ty.Int ty.Int ty.Int t.IsArithmetic.add t.Promotes.ints, refl)
sum_stands _ _ (Sum.numbers _ _ IsNumber.int IsNumber.long) = (t.GivesType.arithmetic op.Add ty.Int ty.Long ty.Long t.IsArithmetic.add t.Promotes.int_long, refl)
sum_stands _ _ (Sum.numbers _ _ IsNumber.long IsNumber.int) = (t.GivesType.arithmetic op.Add ty.Long ty.Int ty.Long t.IsArithmetic.add t.Promotes.long_int, refl)
sum_stands _ _ (Sum.numbers _ _ IsNumber.long IsNumber.long) = (t.GivesType.arithmetic op.Add ty.Long ty.Long ty.Long t.IsArithmetic.add t.Promotes.longs, refl)
sum_stands _ _ (Sum.left r) = (t.GivesType.concat ty.Text r, refl)
sum_stands _ _ (Sum.right ty.Unknown) = (t.GivesType.concat ty.Unknown ty.Text, refl)
sum_stands _ _ (Sum.right ty.Void) = (t.GivesType.concat ty.Void ty.Text, refl)
sum_stands _ _ (Sum.right ty.Null) = (t.GivesType.concat ty.Null ty.Text, refl)
sum_stands _ _ (Sum.right ty.Int) = (t.GivesType.concat ty.Int ty.Text, refl)
sum_stands _ _ (Sum.right ty.Long) = (t.GivesType.concat ty.Long ty.Text, refl)
sum_stands _ _ (Sum.right ty.Boolean) = (t.GivesType.concat ty.Boolean ty.Text, refl)
sum_stands _ _ (Sum.right ty.Text) = (t.GivesType.concat ty.Text ty.Text, refl)
sum_stands _ _ (Sum.right (ty.Object a)) = (t.GivesType.concat (ty.Object a) ty.Text, refl)
sum_stands _ _ (Sum.right (ty.Array a)) = (t.GivesType.concat (ty.Array a) ty.Text, refl)
sum_stands _ _ (Sum.right ty.ResultSet) = (t.GivesType.concat ty.ResultSet ty.Text, refl)

-- two numbers or two truths
pub data Bits : Ty → Ty → Type 0 where
  numbers : (l r : Ty) → IsNumber l → IsNumber r → Bits l r
  truths : Bits ty.Boolean ty.Boolean

by_bits : (l r : Ty) (a : Bool) → are_numbers l r ≡ a → (a || are_booleans l r) ≡ true → Bits l r
by_bits l r true e h = Bits.numbers l r (number_of l (and_left (is_number l) (is_number r) e)) (number_of r (and_right (is_number l) (is_number r) e))
by_bits l r false e h = subst (λ (x : Ty). Bits x r) (sym (boolean_of l (and_left (is_boolean l) (is_boolean r) h))) (subst (λ (x : Ty). Bits ty.Boolean x) (sym (boolean_of r (and_right (is_boolean l) (is_boolean r) h))) Bits.truths)

bits_stands : (o : Op) (l r : Ty) → IsOfBits o → Bits l r → GivesType o l r (bits_type l r) × (is_unknown (bits_type l r) ≡ false)
bits_stands o _ _ i (Bits.numbers _ _ IsNumber.int IsNumber.int) = (t.GivesType.bits o ty.Int ty.Int ty.Int i t.Promotes.ints, refl)
bits_stands o _ _ i (Bits.numbers _ _ IsNumber.int IsNumber.long) = (t.GivesType.bits o ty.Int ty.Long ty.Long i t.Promotes.int_long, refl)
bits_stands o _ _ i (Bits.numbers _ _ IsNumber.long IsNumber.int) = (t.GivesType.bits o ty.Long ty.Int ty.Long i t.Promotes.long_int, refl)
bits_stands o _ _ i (Bits.numbers _ _ IsNumber.long IsNumber.long) = (t.GivesType.bits o ty.Long ty.Long ty.Long i t.Promotes.longs, refl)
bits_stands o _ _ i Bits.truths = (t.GivesType.truths o i, refl)

shift_stands : (o : Op) (l r : Ty) → IsShift o → IsNumber l → IsNumber r → GivesType o l r (promoted l) × (is_unknown (promoted l) ≡ false)
shift_stands o _ r i IsNumber.int k = (t.GivesType.shift o ty.Int r (both_promoted ty.Int r) i (promotes ty.Int r IsNumber.int k).0, refl)
shift_stands o _ r i IsNumber.long k = (t.GivesType.shift o ty.Long r (both_promoted ty.Long r) i (promotes ty.Long r IsNumber.long k).0, refl)

-- ---- what is compared

references : (l r : Ty) → are_references l r ≡ true → (is_text l && is_text r) ≡ false → AreCompared l r
references ty.Unknown r h n = absurd (true≢false (sym h))
references ty.Void r h n = absurd (true≢false (sym h))
references ty.Null ty.Unknown h n = absurd (true≢false (sym h))
references ty.Null ty.Void h n = absurd (true≢false (sym h))
references ty.Null ty.Null h n = t.AreCompared.objects ty.Null ty.Null t.IsObject.null t.IsObject.null
references ty.Null ty.Int h n = absurd (true≢false (sym h))
references ty.Null ty.Long h n = absurd (true≢false (sym h))
references ty.Null ty.Boolean h n = absurd (true≢false (sym h))
references ty.Null ty.Text h n = t.AreCompared.null_text
references ty.Null (ty.Object b) h n = t.AreCompared.objects ty.Null (ty.Object b) t.IsObject.null (t.IsObject.object b)
references ty.Null (ty.Array b) h n = t.AreCompared.objects ty.Null (ty.Array b) t.IsObject.null (t.IsObject.array b)
references ty.Null ty.ResultSet h n = t.AreCompared.objects ty.Null ty.ResultSet t.IsObject.null t.IsObject.rows
references ty.Int r h n = absurd (true≢false (sym h))
references ty.Long r h n = absurd (true≢false (sym h))
references ty.Boolean r h n = absurd (true≢false (sym h))
references ty.Text ty.Unknown h n = absurd (true≢false (sym h))
references ty.Text ty.Void h n = absurd (true≢false (sym h))
references ty.Text ty.Null h n = t.AreCompared.text_null
references ty.Text ty.Int h n = absurd (true≢false (sym h))
references ty.Text ty.Long h n = absurd (true≢false (sym h))
references ty.Text ty.Boolean h n = absurd (true≢false (sym h))
references ty.Text ty.Text h n = absurd (true≢false n)
references ty.Text (ty.Object b) h n = absurd (true≢false (sym h))
references ty.Text (ty.Array b) h n = absurd (true≢false (sym h))
references ty.Text ty.ResultSet h n = absurd (true≢false (sym h))
references (ty.Object a) ty.Unknown h n = absurd (true≢false (sym h))
references (ty.Object a) ty.Void h n = absurd (true≢false (sym h))
references (ty.Object a) ty.Null h n = t.AreCompared.objects (ty.Object a) ty.Null (t.IsObject.object a) t.IsObject.null
references (ty.Object a) ty.Int h n = absurd (true≢false (sym h))
references (ty.Object a) ty.Long h n = absurd (true≢false (sym h))
references (ty.Object a) ty.Boolean h n = absurd (true≢false (sym h))
references (ty.Object a) ty.Text h n = absurd (true≢false (sym h))
references (ty.Object a) (ty.Object b) h n = t.AreCompared.objects (ty.Object a) (ty.Object b) (t.IsObject.object a) (t.IsObject.object b)
references (ty.Object a) (ty.Array b) h n = absurd (true≢false (sym h))
references (ty.Object a) ty.ResultSet h n = absurd (true≢false (sym h))
references (ty.Array a) ty.Unknown h n = absurd (true≢false (sym h))
references (ty.Array a) ty.Void h n = absurd (true≢false (sym h))
references (ty.Array a) ty.Null h n = t.AreCompared.objects (ty.Array a) ty.Null (t.IsObject.array a) t.IsObject.null
references (ty.Array a) ty.Int h n = absurd (true≢false (sym h))
references (ty.Array a) ty.Long h n = absurd (true≢false (sym h))
references (ty.Array a) ty.Boolean h n = absurd (true≢false (sym h))
references (ty.Array a) ty.Text h n = absurd (true≢false (sym h))
references (ty.Array a) (ty.Object b) h n = absurd (true≢false (sym h))
references (ty.Array a) (ty.Array b) h n = t.AreCompared.objects (ty.Array a) (ty.Array b) (t.IsObject.array a) (t.IsObject.array b)
references (ty.Array a) ty.ResultSet h n = absurd (true≢false (sym h))
references ty.ResultSet ty.Unknown h n = absurd (true≢false (sym h))
references ty.ResultSet ty.Void h n = absurd (true≢false (sym h))
references ty.ResultSet ty.Null h n = t.AreCompared.objects ty.ResultSet ty.Null t.IsObject.rows t.IsObject.null
references ty.ResultSet ty.Int h n = absurd (true≢false (sym h))
references ty.ResultSet ty.Long h n = absurd (true≢false (sym h))
references ty.ResultSet ty.Boolean h n = absurd (true≢false (sym h))
references ty.ResultSet ty.Text h n = absurd (true≢false (sym h))
references ty.ResultSet (ty.Object b) h n = absurd (true≢false (sym h))
references ty.ResultSet (ty.Array b) h n = absurd (true≢false (sym h))
references ty.ResultSet ty.ResultSet h n = t.AreCompared.objects ty.ResultSet ty.ResultSet t.IsObject.rows t.IsObject.rows

by_equality : (l r : Ty) (a b : Bool) → are_numbers l r ≡ a → are_booleans l r ≡ b → ((a || b) || are_references l r) ≡ true → (is_text l && is_text r) ≡ false → AreCompared l r
by_equality l r true b e f h n = t.AreCompared.numbers l r (both_promoted l r) (promotes l r (number_of l (and_left (is_number l) (is_number r) e)) (number_of r (and_right (is_number l) (is_number r) e))).0
by_equality l r false true e f h n = subst (λ (x : Ty). AreCompared x r) (sym (boolean_of l (and_left (is_boolean l) (is_boolean r) f))) (subst (λ (x : Ty). AreCompared ty.Boolean x) (sym (boolean_of r (and_right (is_boolean l) (is_boolean r) f))) t.AreCompared.truths)
by_equality l r false false e f h n = references l r h n

logic_stands : (l r : Ty) → Fit group.Logic l r → (l ≡ ty.Boolean) × (r ≡ ty.Boolean)
logic_stands l r f = (boolean_of l f.left, boolean_of r f.right)

order_stands : (o : Op) (l r : Ty) → IsOrder o → Fit group.Order l r → GivesType o l r ty.Boolean
order_stands o l r i f = t.GivesType.order o l r (both_promoted l r) i (promotes l r (number_of l f.left) (number_of r f.right)).0

equality_stands : (o : Op) (l r : Ty) → IsEquality o → Fit group.Equality l r → (is_text l && is_text r) ≡ false → GivesType o l r ty.Boolean
equality_stands o l r i f n = t.GivesType.equality o l r i (by_equality l r (are_numbers l r) (are_booleans l r) refl refl f.joined n)

binary_fits : (s : Sign) (l r : Ty) → IsBinary s → Fit (group_of s) l r → compares_texts (group_of s) l r ≡ false → Stands s l r
binary_fits _ l r IsBinary.plus f n = sum_stands l r (by_sum l r (are_numbers l r) (is_text l) (is_text r) refl refl refl f.joined)
binary_fits _ l r IsBinary.minus f n = let p = arithmetic_stands l r f in (t.GivesType.arithmetic op.Sub l r (both_promoted l r) t.IsArithmetic.sub p.0, p.1)
binary_fits _ l r IsBinary.times f n = let p = arithmetic_stands l r f in (t.GivesType.arithmetic op.Mul l r (both_promoted l r) t.IsArithmetic.mul p.0, p.1)
binary_fits _ l r IsBinary.over f n = let p = arithmetic_stands l r f in (t.GivesType.arithmetic op.Div l r (both_promoted l r) t.IsArithmetic.div p.0, p.1)
binary_fits _ l r IsBinary.rest f n = let p = arithmetic_stands l r f in (t.GivesType.arithmetic op.Rem l r (both_promoted l r) t.IsArithmetic.rem p.0, p.1)
binary_fits _ l r IsBinary.and f n = bits_stands op.And l r t.IsOfBits.and (by_bits l r (are_numbers l r) refl f.joined)
binary_fits _ l r IsBinary.or f n = bits_stands op.Or l r t.IsOfBits.or (by_bits l r (are_numbers l r) refl f.joined)
binary_fits _ l r IsBinary.xor f n = bits_stands op.Xor l r t.IsOfBits.xor (by_bits l r (are_numbers l r) refl f.joined)
binary_fits _ l r IsBinary.shl f n = shift_stands op.Shl l r t.IsShift.shl (number_of l f.left) (number_of r f.right)
binary_fits _ l r IsBinary.shr f n = shift_stands op.Shr l r t.IsShift.shr (number_of l f.left) (number_of r f.right)
binary_fits _ l r IsBinary.ushr f n = shift_stands op.Ushr l r t.IsShift.ushr (number_of l f.left) (number_of r f.right)
binary_fits _ l r IsBinary.less f n = (order_stands op.Lt l r t.IsOrder.lt f, refl)
binary_fits _ l r IsBinary.at_most f n = (order_stands op.Le l r t.IsOrder.le f, refl)
binary_fits _ l r IsBinary.more f n = (order_stands op.Gt l r t.IsOrder.gt f, refl)
binary_fits _ l r IsBinary.at_least f n = (order_stands op.Ge l r t.IsOrder.ge f, refl)
binary_fits _ l r IsBinary.equal f n = (equality_stands op.Eq l r t.IsEquality.eq f n, refl)
binary_fits _ l r IsBinary.unequal f n = (equality_stands op.Ne l r t.IsEquality.ne f n, refl)
binary_fits _ l r IsBinary.both f n = (logic_stands l r f, refl)
binary_fits _ l r IsBinary.either f n = (logic_stands l r f, refl)

pub binary_stands : (s : Sign) (l r : Ty) → IsBinary s → is_unknown l ≡ false → is_unknown r ≡ false → operands_fit (group_of s) l r ≡ true → compares_texts (group_of s) l r ≡ false
    → BinaryGives s l r (group_type (group_of s) l r) × (is_unknown (group_type (group_of s) l r) ≡ false)
binary_stands s l r i k m h n = binary_fits s l r i (fit_of (group_of s) l r k m h) n

-- ---- what is joined

pub choice_type : (s : Sign) (l r : Ty) → is_choice s ≡ true → group_type (group_of s) l r ≡ ty.Boolean
choice_type sign.Plus l r h = absurd (true≢false (sym h))
choice_type sign.Minus l r h = absurd (true≢false (sym h))
choice_type sign.Times l r h = absurd (true≢false (sym h))
choice_type sign.Over l r h = absurd (true≢false (sym h))
choice_type sign.Rest l r h = absurd (true≢false (sym h))
choice_type sign.And l r h = absurd (true≢false (sym h))
choice_type sign.Or l r h = absurd (true≢false (sym h))
choice_type sign.Xor l r h = absurd (true≢false (sym h))
choice_type sign.Shl l r h = absurd (true≢false (sym h))
choice_type sign.Shr l r h = absurd (true≢false (sym h))
choice_type sign.Ushr l r h = absurd (true≢false (sym h))
choice_type sign.Less l r h = absurd (true≢false (sym h))
choice_type sign.AtMost l r h = absurd (true≢false (sym h))
choice_type sign.More l r h = absurd (true≢false (sym h))
choice_type sign.AtLeast l r h = absurd (true≢false (sym h))
choice_type sign.Equal l r h = absurd (true≢false (sym h))
choice_type sign.Unequal l r h = absurd (true≢false (sym h))
choice_type sign.Both l r h = refl
choice_type sign.Either l r h = refl
choice_type sign.Not l r h = absurd (true≢false (sym h))
choice_type sign.Inv l r h = absurd (true≢false (sym h))
choice_type sign.ToInt l r h = absurd (true≢false (sym h))
choice_type sign.ToLong l r h = absurd (true≢false (sym h))

only_plus : (s : Sign) (l r : Ty) → op_of s l r ≡ op.Concat → s ≡ sign.Plus
only_plus sign.Plus l r h = refl
only_plus sign.Minus l r h = absurd (cc h)
only_plus sign.Times l r h = absurd (cc h)
only_plus sign.Over l r h = absurd (cc h)
only_plus sign.Rest l r h = absurd (cc h)
only_plus sign.And l r h = absurd (cc h)
only_plus sign.Or l r h = absurd (cc h)
only_plus sign.Xor l r h = absurd (cc h)
only_plus sign.Shl l r h = absurd (cc h)
only_plus sign.Shr l r h = absurd (cc h)
only_plus sign.Ushr l r h = absurd (cc h)
only_plus sign.Less l r h = absurd (cc h)
only_plus sign.AtMost l r h = absurd (cc h)
only_plus sign.More l r h = absurd (cc h)
only_plus sign.AtLeast l r h = absurd (cc h)
only_plus sign.Equal l r h = absurd (cc h)
only_plus sign.Unequal l r h = absurd (cc h)
only_plus sign.Both l r h = absurd (cc h)
only_plus sign.Either l r h = absurd (cc h)
only_plus sign.Not l r h = absurd (cc h)
only_plus sign.Inv l r h = absurd (cc h)
only_plus sign.ToInt l r h = absurd (cc h)
only_plus sign.ToLong l r h = absurd (cc h)

or_true : (a : Bool) → (a || true) ≡ true
or_true true = refl
or_true false = refl

and_both : (a b : Bool) → a ≡ true → b ≡ true → (a && b) ≡ true
and_both true b h k = k
and_both false b h k = absurd (true≢false (sym h))

-- an operand that `+` takes
added_joined : (x : Ty) → group_takes group.Add x ≡ true → is_joined x ≡ true
added_joined ty.Null h = refl
added_joined ty.Int h = refl
added_joined ty.Long h = refl
added_joined ty.Boolean h = refl
added_joined ty.Text h = refl
added_joined ty.Unknown h = refl
added_joined ty.Void h = absurd (true≢false (sym h))
added_joined (ty.Object c) h = absurd (true≢false (sym h))
added_joined (ty.Array e) h = absurd (true≢false (sym h))
added_joined ty.ResultSet h = absurd (true≢false (sym h))

has_text : (l r : Ty) → Sum l r → op_of sign.Plus l r ≡ op.Concat → (is_text l || is_text r) ≡ true
has_text _ _ (Sum.numbers _ _ IsNumber.int IsNumber.int) h = absurd (cc h)
has_text _ _ (Sum.numbers _ _ IsNumber.int IsNumber.long) h = absurd (cc h)
has_text _ _ (Sum.numbers _ _ IsNumber.long IsNumber.int) h = absurd (cc h)
has_text _ _ (Sum.numbers _ _ IsNumber.long IsNumber.long) h = absurd (cc h)
has_text _ _ (Sum.left r) h = refl
has_text _ _ (Sum.right l) h = or_true (is_text l)

sum_joined : (l r : Ty) → Fit group.Add l r → op_of sign.Plus l r ≡ op.Concat → joins l r ≡ true
sum_joined l r f h =
    and_both (is_text l || is_text r) (is_joined l && is_joined r) (has_text l r (by_sum l r (are_numbers l r) (is_text l) (is_text r) refl refl refl f.joined) h)
    (and_both (is_joined l) (is_joined r) (added_joined l f.left) (added_joined r f.right))

pub joined_well : (s : Sign) (l r : Ty) → is_unknown l ≡ false → is_unknown r ≡ false → operands_fit (group_of s) l r ≡ true → op_of s l r ≡ op.Concat → joins l r ≡ true
joined_well s l r k m h e =
    let is = only_plus s l r e in
    sum_joined l r (fit_of group.Add l r k m (subst (λ (z : Sign). operands_fit (group_of z) l r ≡ true) is h)) (subst (λ (z : Sign). op_of z l r ≡ op.Concat) is e)

-- ---- operators that assign

pub record CompoundFit (g : Group) (to from : Ty) : Type 0 where
  pub takes : compound_takes g to ≡ true
  pub same : to ≡ from

compound_fit : (g : Group) (to from : Ty) → is_unknown to ≡ false → is_unknown from ≡ false → compound_fits g to from ≡ true → CompoundFit g to from
compound_fit g to from k m h = record {
  takes = or_right (is_unknown to) (compound_takes g to) k (and_left (assigned_fits g to) (assigned_fits g from) (and_left (assigned_fits g to && assigned_fits g from) ((is_unknown to || is_unknown from) || same to from) h));
  same = same_types to from (neither (is_unknown to) (is_unknown from) (same to from) k m (and_right (assigned_fits g to && assigned_fits g from) ((is_unknown to || is_unknown from) || same to from) h));
}

or_text : (x : Ty) (b : Bool) → is_number x ≡ b → (b || is_text x) ≡ true → IsNumber x ⊎ (x ≡ ty.Text)
or_text x true e h = inl (number_of x e)
or_text x false e h = inr (text_of x h)

or_truth : (x : Ty) (b : Bool) → is_number x ≡ b → (b || is_boolean x) ≡ true → IsNumber x ⊎ (x ≡ ty.Boolean)
or_truth x true e h = inl (number_of x e)
or_truth x false e h = inr (boolean_of x h)

add_itself : (x : Ty) → IsNumber x ⊎ (x ≡ ty.Text) → GivesType (op_of sign.Plus x x) x x x
add_itself _ (inl IsNumber.int) = t.GivesType.arithmetic op.Add ty.Int ty.Int ty.Int t.IsArithmetic.add t.Promotes.ints
add_itself _ (inl IsNumber.long) = t.GivesType.arithmetic op.Add ty.Long ty.Long ty.Long t.IsArithmetic.add t.Promotes.longs
add_itself x (inr e) = subst (λ (z : Ty). GivesType (op_of sign.Plus z z) z z z) (sym e) (t.GivesType.concat ty.Text ty.Text)

arithmetic_itself : (o : Op) (x : Ty) → IsArithmetic o → is_number x ≡ true → GivesType o x x x
arithmetic_itself o x i h = t.GivesType.arithmetic o x x x i (promotes_itself x (number_of x h))

bits_itself : (o : Op) (x : Ty) → IsOfBits o → IsNumber x ⊎ (x ≡ ty.Boolean) → GivesType o x x x
bits_itself o x i (inl k) = t.GivesType.bits o x x x i (promotes_itself x k)
bits_itself o x i (inr e) = subst (λ (z : Ty). GivesType o z z z) (sym e) (t.GivesType.truths o i)

shift_itself : (o : Op) (x : Ty) → IsShift o → is_number x ≡ true → GivesType o x x x
shift_itself o x i h = t.GivesType.shift o x x x i (promotes_itself x (number_of x h))

with_itself : (s : Sign) (x : Ty) → compound_takes (group_of s) x ≡ true → GivesType (op_of s x x) x x x
with_itself sign.Plus x h = add_itself x (or_text x (is_number x) refl h)
with_itself sign.Minus x h = arithmetic_itself op.Sub x t.IsArithmetic.sub h
with_itself sign.Times x h = arithmetic_itself op.Mul x t.IsArithmetic.mul h
with_itself sign.Over x h = arithmetic_itself op.Div x t.IsArithmetic.div h
with_itself sign.Rest x h = arithmetic_itself op.Rem x t.IsArithmetic.rem h
with_itself sign.And x h = bits_itself op.And x t.IsOfBits.and (or_truth x (is_number x) refl h)
with_itself sign.Or x h = bits_itself op.Or x t.IsOfBits.or (or_truth x (is_number x) refl h)
with_itself sign.Xor x h = bits_itself op.Xor x t.IsOfBits.xor (or_truth x (is_number x) refl h)
with_itself sign.Shl x h = shift_itself op.Shl x t.IsShift.shl h
with_itself sign.Shr x h = shift_itself op.Shr x t.IsShift.shr h
with_itself sign.Ushr x h = shift_itself op.Ushr x t.IsShift.ushr h
with_itself sign.Less x h = absurd (true≢false (sym h))
with_itself sign.AtMost x h = absurd (true≢false (sym h))
with_itself sign.More x h = absurd (true≢false (sym h))
with_itself sign.AtLeast x h = absurd (true≢false (sym h))
with_itself sign.Equal x h = absurd (true≢false (sym h))
with_itself sign.Unequal x h = absurd (true≢false (sym h))
with_itself sign.Both x h = absurd (true≢false (sym h))
with_itself sign.Either x h = absurd (true≢false (sym h))
with_itself sign.Not x h = absurd (true≢false (sym h))
with_itself sign.Inv x h = absurd (true≢false (sym h))
with_itself sign.ToInt x h = absurd (true≢false (sym h))
with_itself sign.ToLong x h = absurd (true≢false (sym h))

pub compound_stands : (s : Sign) (to from : Ty) → is_unknown to ≡ false → is_unknown from ≡ false → compound_fits (group_of s) to from ≡ true → GivesType (op_of s to from) to from to
compound_stands s to from k m h =
    let f = compound_fit (group_of s) to from k m h in
    subst (λ (z : Ty). GivesType (op_of s to z) to z to) f.same (with_itself s to f.takes)

text_joined : (x : Ty) → IsNumber x ⊎ (x ≡ ty.Text) → op_of sign.Plus x x ≡ op.Concat → joins x x ≡ true
text_joined _ (inl IsNumber.int) h = absurd (cc h)
text_joined _ (inl IsNumber.long) h = absurd (cc h)
text_joined x (inr e) h = ap (λ (z : Ty). joins z z) e

pub compound_joined : (s : Sign) (to from : Ty) → is_unknown to ≡ false → is_unknown from ≡ false → compound_fits (group_of s) to from ≡ true → op_of s to from ≡ op.Concat → joins to from ≡ true
compound_joined s to from k m h e =
    let is = only_plus s to from e in
    let f = compound_fit group.Add to from k m (subst (λ (z : Sign). compound_fits (group_of z) to from ≡ true) is h) in
    let joined = subst (λ (z : Sign). op_of z to from ≡ op.Concat) is e in
    subst (λ (z : Ty). joins to z ≡ true) f.same (text_joined to (or_text to (is_number to) refl f.takes) (subst (λ (z : Ty). op_of sign.Plus to z ≡ op.Concat) (sym f.same) joined))
