-- What an operator gives of static types, code has it give of its own.
use Rattle.std.proofs.Common.{◌≡◌, Bool, true, false, Some, None, refl, ap, ◌∙◌}
use Rattle.px_value.specs.declared.op.Op.{Op}
use Rattle.px_value.specs.declared.op.Op.TheVariants as op
use Rattle.px_tree.specs.declared.Sign.{Sign}
use Rattle.px_tree.specs.declared.Sign.TheVariants as sign
use Rattle.px_facts.specs.declared.types.Ty.{Ty as Static}
use Rattle.px_facts.specs.declared.types.Ty.TheVariants as static
use Rattle.px_facts.specs.Types.{is_void, is_null}
use Rattle.px_mean.specs.Facts.{op_of, prefix_of}
use Rattle.px_mean.specs.Typing as typing
use Rattle.px_mean.specs.Typing.{Promotes, IsArithmetic, IsOfBits, IsShift, IsOrder, IsEquality, IsObject, AreCompared, GivesType, PrefixGives, BinaryGives}
use Rattle.px_normal.specs.declared.ty.Ty.{Ty}
use Rattle.px_normal.specs.declared.ty.Ty.TheVariants as ty
use Rattle.px_normal.specs.Typed.{wide, number_type, if_any, bits_type, compared_type, op_type}
use Rattle.px_lowering.specs.Types.{code_type}
use Rattle.px_lowering.specs.Expressions.{choice_of}
use Rattle.px_uses.specs.Uses.{joins, is_choice}

pub never : {B : Type 0} → true ≡ false → B
never e = absurd (cc e)

pub never_so : {B : Type 0} → false ≡ true → B
never_so e = absurd (cc e)

-- ---- promotion

wide_of : (l r t : Static) → Promotes l r t → (b : Bool) × (wide (code_type l) (code_type r) ≡ Some b) × (number_type (Some b) ≡ Some (code_type t))
wide_of _ _ _ typing.Promotes.ints = (false, refl, refl)
wide_of _ _ _ typing.Promotes.int_long = (true, refl, refl)
wide_of _ _ _ typing.Promotes.long_int = (true, refl, refl)
wide_of _ _ _ typing.Promotes.longs = (true, refl, refl)

number_of : (l r t : Static) → Promotes l r t → number_type (wide (code_type l) (code_type r)) ≡ Some (code_type t)
number_of l r t p = let w = wide_of l r t p in ap number_type w.1 ∙ w.2

any_of : (l r t : Static) → Promotes l r t → (u : Ty) → if_any (wide (code_type l) (code_type r)) u ≡ Some u
any_of l r t p u = let w = wide_of l r t p in ap (λ b. if_any b u) w.1

-- a number, or another type of operands and results
pub record IsPlain (t : Static) : Type 0 where
  pub void : is_void t ≡ false
  pub null : is_null t ≡ false

numbers_plain : (l r t : Static) → Promotes l r t → IsPlain l × IsPlain r × IsPlain t
numbers_plain _ _ _ typing.Promotes.ints = (record { void = refl; null = refl }, record { void = refl; null = refl }, record { void = refl; null = refl })
numbers_plain _ _ _ typing.Promotes.int_long = (record { void = refl; null = refl }, record { void = refl; null = refl }, record { void = refl; null = refl })
numbers_plain _ _ _ typing.Promotes.long_int = (record { void = refl; null = refl }, record { void = refl; null = refl }, record { void = refl; null = refl })
numbers_plain _ _ _ typing.Promotes.longs = (record { void = refl; null = refl }, record { void = refl; null = refl }, record { void = refl; null = refl })

-- ---- operators

pub record GivesCode (o : Op) (l r t : Static) : Type 0 where
  pub gives : op_type o (code_type l) (code_type r) ≡ Some (code_type t)
  pub left : is_void l ≡ false
  pub right : is_void r ≡ false
  pub plain : IsPlain t

bits_of : (l r t : Static) → Promotes l r t → bits_type (code_type l) (code_type r) ≡ Some (code_type t)
bits_of _ _ _ typing.Promotes.ints = refl
bits_of _ _ _ typing.Promotes.int_long = refl
bits_of _ _ _ typing.Promotes.long_int = refl
bits_of _ _ _ typing.Promotes.longs = refl

compared_of : (l r t : Static) → Promotes l r t → compared_type (code_type l) (code_type r) ≡ Some ty.Bool
compared_of _ _ _ typing.Promotes.ints = refl
compared_of _ _ _ typing.Promotes.int_long = refl
compared_of _ _ _ typing.Promotes.long_int = refl
compared_of _ _ _ typing.Promotes.longs = refl

promoted_code : (o : Op) (l r t u : Static) → Promotes l r t → IsPlain u → op_type o (code_type l) (code_type r) ≡ Some (code_type u) → GivesCode o l r u
promoted_code o l r t u p k e = let n = numbers_plain l r t p in record { gives = e; left = n.0.void; right = n.1.void; plain = k }

truth_plain : IsPlain static.Boolean
truth_plain = record { void = refl; null = refl }

-- of what is compared as an object
objects_code : (o : Op) (l r : Static) → IsEquality o → IsObject l → IsObject r → GivesCode o l r static.Boolean
objects_code _ _ _ typing.IsEquality.eq (typing.IsObject.object c) (typing.IsObject.object d) = record { gives = refl; left = refl; right = refl; plain = truth_plain }
objects_code _ _ _ typing.IsEquality.eq (typing.IsObject.object c) (typing.IsObject.array d) = record { gives = refl; left = refl; right = refl; plain = truth_plain }
objects_code _ _ _ typing.IsEquality.eq (typing.IsObject.object c) typing.IsObject.rows = record { gives = refl; left = refl; right = refl; plain = truth_plain }
objects_code _ _ _ typing.IsEquality.eq (typing.IsObject.object c) typing.IsObject.null = record { gives = refl; left = refl; right = refl; plain = truth_plain }
objects_code _ _ _ typing.IsEquality.eq (typing.IsObject.array c) (typing.IsObject.object d) = record { gives = refl; left = refl; right = refl; plain = truth_plain }
objects_code _ _ _ typing.IsEquality.eq (typing.IsObject.array c) (typing.IsObject.array d) = record { gives = refl; left = refl; right = refl; plain = truth_plain }
objects_code _ _ _ typing.IsEquality.eq (typing.IsObject.array c) typing.IsObject.rows = record { gives = refl; left = refl; right = refl; plain = truth_plain }
objects_code _ _ _ typing.IsEquality.eq (typing.IsObject.array c) typing.IsObject.null = record { gives = refl; left = refl; right = refl; plain = truth_plain }
objects_code _ _ _ typing.IsEquality.eq typing.IsObject.rows (typing.IsObject.object d) = record { gives = refl; left = refl; right = refl; plain = truth_plain }
objects_code _ _ _ typing.IsEquality.eq typing.IsObject.rows (typing.IsObject.array d) = record { gives = refl; left = refl; right = refl; plain = truth_plain }
objects_code _ _ _ typing.IsEquality.eq typing.IsObject.rows typing.IsObject.rows = record { gives = refl; left = refl; right = refl; plain = truth_plain }
objects_code _ _ _ typing.IsEquality.eq typing.IsObject.rows typing.IsObject.null = record { gives = refl; left = refl; right = refl; plain = truth_plain }
objects_code _ _ _ typing.IsEquality.eq typing.IsObject.null (typing.IsObject.object d) = record { gives = refl; left = refl; right = refl; plain = truth_plain }
objects_code _ _ _ typing.IsEquality.eq typing.IsObject.null (typing.IsObject.array d) = record { gives = refl; left = refl; right = refl; plain = truth_plain }
objects_code _ _ _ typing.IsEquality.eq typing.IsObject.null typing.IsObject.rows = record { gives = refl; left = refl; right = refl; plain = truth_plain }
objects_code _ _ _ typing.IsEquality.eq typing.IsObject.null typing.IsObject.null = record { gives = refl; left = refl; right = refl; plain = truth_plain }
objects_code _ _ _ typing.IsEquality.ne (typing.IsObject.object c) (typing.IsObject.object d) = record { gives = refl; left = refl; right = refl; plain = truth_plain }
objects_code _ _ _ typing.IsEquality.ne (typing.IsObject.object c) (typing.IsObject.array d) = record { gives = refl; left = refl; right = refl; plain = truth_plain }
objects_code _ _ _ typing.IsEquality.ne (typing.IsObject.object c) typing.IsObject.rows = record { gives = refl; left = refl; right = refl; plain = truth_plain }
objects_code _ _ _ typing.IsEquality.ne (typing.IsObject.object c) typing.IsObject.null = record { gives = refl; left = refl; right = refl; plain = truth_plain }
objects_code _ _ _ typing.IsEquality.ne (typing.IsObject.array c) (typing.IsObject.object d) = record { gives = refl; left = refl; right = refl; plain = truth_plain }
objects_code _ _ _ typing.IsEquality.ne (typing.IsObject.array c) (typing.IsObject.array d) = record { gives = refl; left = refl; right = refl; plain = truth_plain }
objects_code _ _ _ typing.IsEquality.ne (typing.IsObject.array c) typing.IsObject.rows = record { gives = refl; left = refl; right = refl; plain = truth_plain }
objects_code _ _ _ typing.IsEquality.ne (typing.IsObject.array c) typing.IsObject.null = record { gives = refl; left = refl; right = refl; plain = truth_plain }
objects_code _ _ _ typing.IsEquality.ne typing.IsObject.rows (typing.IsObject.object d) = record { gives = refl; left = refl; right = refl; plain = truth_plain }
objects_code _ _ _ typing.IsEquality.ne typing.IsObject.rows (typing.IsObject.array d) = record { gives = refl; left = refl; right = refl; plain = truth_plain }
objects_code _ _ _ typing.IsEquality.ne typing.IsObject.rows typing.IsObject.rows = record { gives = refl; left = refl; right = refl; plain = truth_plain }
objects_code _ _ _ typing.IsEquality.ne typing.IsObject.rows typing.IsObject.null = record { gives = refl; left = refl; right = refl; plain = truth_plain }
objects_code _ _ _ typing.IsEquality.ne typing.IsObject.null (typing.IsObject.object d) = record { gives = refl; left = refl; right = refl; plain = truth_plain }
objects_code _ _ _ typing.IsEquality.ne typing.IsObject.null (typing.IsObject.array d) = record { gives = refl; left = refl; right = refl; plain = truth_plain }
objects_code _ _ _ typing.IsEquality.ne typing.IsObject.null typing.IsObject.rows = record { gives = refl; left = refl; right = refl; plain = truth_plain }
objects_code _ _ _ typing.IsEquality.ne typing.IsObject.null typing.IsObject.null = record { gives = refl; left = refl; right = refl; plain = truth_plain }

compared_code : (o : Op) (l r : Static) → IsEquality o → AreCompared l r → GivesCode o l r static.Boolean
compared_code _ _ _ typing.IsEquality.eq (typing.AreCompared.numbers l r t p) = promoted_code op.Eq l r t static.Boolean p truth_plain (compared_of l r t p)
compared_code _ _ _ typing.IsEquality.ne (typing.AreCompared.numbers l r t p) = promoted_code op.Ne l r t static.Boolean p truth_plain (compared_of l r t p)
compared_code o _ _ e (typing.AreCompared.objects l r a b) = objects_code o l r e a b
compared_code _ _ _ typing.IsEquality.eq typing.AreCompared.truths = record { gives = refl; left = refl; right = refl; plain = truth_plain }
compared_code _ _ _ typing.IsEquality.ne typing.AreCompared.truths = record { gives = refl; left = refl; right = refl; plain = truth_plain }
compared_code _ _ _ typing.IsEquality.eq typing.AreCompared.text_null = record { gives = refl; left = refl; right = refl; plain = truth_plain }
compared_code _ _ _ typing.IsEquality.ne typing.AreCompared.text_null = record { gives = refl; left = refl; right = refl; plain = truth_plain }
compared_code _ _ _ typing.IsEquality.eq typing.AreCompared.null_text = record { gives = refl; left = refl; right = refl; plain = truth_plain }
compared_code _ _ _ typing.IsEquality.ne typing.AreCompared.null_text = record { gives = refl; left = refl; right = refl; plain = truth_plain }

joined_code : (l r : Static) → joins l r ≡ true → GivesCode op.Concat l r static.Text
joined_code static.Unknown static.Unknown e = never_so e
joined_code static.Unknown static.Void e = never_so e
joined_code static.Unknown static.Null e = never_so e
joined_code static.Unknown static.Int e = never_so e
joined_code static.Unknown static.Long e = never_so e
joined_code static.Unknown static.Boolean e = never_so e
joined_code static.Unknown static.Text e = record { gives = refl; left = refl; right = refl; plain = record { void = refl; null = refl } }
joined_code static.Unknown (static.Object d) e = never_so e
joined_code static.Unknown (static.Array d) e = never_so e
joined_code static.Unknown static.ResultSet e = never_so e
joined_code static.Void static.Unknown e = never_so e
joined_code static.Void static.Void e = never_so e
joined_code static.Void static.Null e = never_so e
joined_code static.Void static.Int e = never_so e
joined_code static.Void static.Long e = never_so e
joined_code static.Void static.Boolean e = never_so e
joined_code static.Void static.Text e = never_so e
joined_code static.Void (static.Object d) e = never_so e
joined_code static.Void (static.Array d) e = never_so e
joined_code static.Void static.ResultSet e = never_so e
joined_code static.Null static.Unknown e = never_so e
joined_code static.Null static.Void e = never_so e
joined_code static.Null static.Null e = never_so e
joined_code static.Null static.Int e = never_so e
joined_code static.Null static.Long e = never_so e
joined_code static.Null static.Boolean e = never_so e
joined_code static.Null static.Text e = record { gives = refl; left = refl; right = refl; plain = record { void = refl; null = refl } }
joined_code static.Null (static.Object d) e = never_so e
joined_code static.Null (static.Array d) e = never_so e
joined_code static.Null static.ResultSet e = never_so e
joined_code static.Int static.Unknown e = never_so e
joined_code static.Int static.Void e = never_so e
joined_code static.Int static.Null e = never_so e
joined_code static.Int static.Int e = never_so e
joined_code static.Int static.Long e = never_so e
joined_code static.Int static.Boolean e = never_so e
joined_code static.Int static.Text e = record { gives = refl; left = refl; right = refl; plain = record { void = refl; null = refl } }
joined_code static.Int (static.Object d) e = never_so e
joined_code static.Int (static.Array d) e = never_so e
joined_code static.Int static.ResultSet e = never_so e
joined_code static.Long static.Unknown e = never_so e
joined_code static.Long static.Void e = never_so e
joined_code static.Long static.Null e = never_so e
joined_code static.Long static.Int e = never_so e
joined_code static.Long static.Long e = never_so e
joined_code static.Long static.Boolean e = never_so e
joined_code static.Long static.Text e = record { gives = refl; left = refl; right = refl; plain = record { void = refl; null = refl } }
joined_code static.Long (static.Object d) e = never_so e
joined_code static.Long (static.Array d) e = never_so e
joined_code static.Long static.ResultSet e = never_so e
joined_code static.Boolean static.Unknown e = never_so e
joined_code static.Boolean static.Void e = never_so e
joined_code static.Boolean static.Null e = never_so e
joined_code static.Boolean static.Int e = never_so e
joined_code static.Boolean static.Long e = never_so e
joined_code static.Boolean static.Boolean e = never_so e
joined_code static.Boolean static.Text e = record { gives = refl; left = refl; right = refl; plain = record { void = refl; null = refl } }
joined_code static.Boolean (static.Object d) e = never_so e
joined_code static.Boolean (static.Array d) e = never_so e
joined_code static.Boolean static.ResultSet e = never_so e
joined_code static.Text static.Unknown e = record { gives = refl; left = refl; right = refl; plain = record { void = refl; null = refl } }
joined_code static.Text static.Void e = never_so e
joined_code static.Text static.Null e = record { gives = refl; left = refl; right = refl; plain = record { void = refl; null = refl } }
joined_code static.Text static.Int e = record { gives = refl; left = refl; right = refl; plain = record { void = refl; null = refl } }
joined_code static.Text static.Long e = record { gives = refl; left = refl; right = refl; plain = record { void = refl; null = refl } }
joined_code static.Text static.Boolean e = record { gives = refl; left = refl; right = refl; plain = record { void = refl; null = refl } }
joined_code static.Text static.Text e = record { gives = refl; left = refl; right = refl; plain = record { void = refl; null = refl } }
joined_code static.Text (static.Object d) e = never_so e
joined_code static.Text (static.Array d) e = never_so e
joined_code static.Text static.ResultSet e = never_so e
joined_code (static.Object c) static.Unknown e = never_so e
joined_code (static.Object c) static.Void e = never_so e
joined_code (static.Object c) static.Null e = never_so e
joined_code (static.Object c) static.Int e = never_so e
joined_code (static.Object c) static.Long e = never_so e
joined_code (static.Object c) static.Boolean e = never_so e
joined_code (static.Object c) static.Text e = never_so e
joined_code (static.Object c) (static.Object d) e = never_so e
joined_code (static.Object c) (static.Array d) e = never_so e
joined_code (static.Object c) static.ResultSet e = never_so e
joined_code (static.Array c) static.Unknown e = never_so e
joined_code (static.Array c) static.Void e = never_so e
joined_code (static.Array c) static.Null e = never_so e
joined_code (static.Array c) static.Int e = never_so e
joined_code (static.Array c) static.Long e = never_so e
joined_code (static.Array c) static.Boolean e = never_so e
joined_code (static.Array c) static.Text e = never_so e
joined_code (static.Array c) (static.Object d) e = never_so e
joined_code (static.Array c) (static.Array d) e = never_so e
joined_code (static.Array c) static.ResultSet e = never_so e
joined_code static.ResultSet static.Unknown e = never_so e
joined_code static.ResultSet static.Void e = never_so e
joined_code static.ResultSet static.Null e = never_so e
joined_code static.ResultSet static.Int e = never_so e
joined_code static.ResultSet static.Long e = never_so e
joined_code static.ResultSet static.Boolean e = never_so e
joined_code static.ResultSet static.Text e = never_so e
joined_code static.ResultSet (static.Object d) e = never_so e
joined_code static.ResultSet (static.Array d) e = never_so e
joined_code static.ResultSet static.ResultSet e = never_so e

pub gives_code : (o : Op) (l r t : Static) → GivesType o l r t → (o ≡ op.Concat → joins l r ≡ true) → GivesCode o l r t
gives_code _ _ _ _ (typing.GivesType.arithmetic _ l r t typing.IsArithmetic.add p) j = promoted_code op.Add l r t t p (numbers_plain l r t p).2 (number_of l r t p)
gives_code _ _ _ _ (typing.GivesType.arithmetic _ l r t typing.IsArithmetic.sub p) j = promoted_code op.Sub l r t t p (numbers_plain l r t p).2 (number_of l r t p)
gives_code _ _ _ _ (typing.GivesType.arithmetic _ l r t typing.IsArithmetic.mul p) j = promoted_code op.Mul l r t t p (numbers_plain l r t p).2 (number_of l r t p)
gives_code _ _ _ _ (typing.GivesType.arithmetic _ l r t typing.IsArithmetic.div p) j = promoted_code op.Div l r t t p (numbers_plain l r t p).2 (number_of l r t p)
gives_code _ _ _ _ (typing.GivesType.arithmetic _ l r t typing.IsArithmetic.rem p) j = promoted_code op.Rem l r t t p (numbers_plain l r t p).2 (number_of l r t p)
gives_code _ _ _ _ (typing.GivesType.bits _ l r t typing.IsOfBits.and p) j = promoted_code op.And l r t t p (numbers_plain l r t p).2 (bits_of l r t p)
gives_code _ _ _ _ (typing.GivesType.bits _ l r t typing.IsOfBits.or p) j = promoted_code op.Or l r t t p (numbers_plain l r t p).2 (bits_of l r t p)
gives_code _ _ _ _ (typing.GivesType.bits _ l r t typing.IsOfBits.xor p) j = promoted_code op.Xor l r t t p (numbers_plain l r t p).2 (bits_of l r t p)
gives_code _ _ _ _ (typing.GivesType.truths _ typing.IsOfBits.and) j = record { gives = refl; left = refl; right = refl; plain = truth_plain }
gives_code _ _ _ _ (typing.GivesType.truths _ typing.IsOfBits.or) j = record { gives = refl; left = refl; right = refl; plain = truth_plain }
gives_code _ _ _ _ (typing.GivesType.truths _ typing.IsOfBits.xor) j = record { gives = refl; left = refl; right = refl; plain = truth_plain }
gives_code _ _ _ _ (typing.GivesType.shift _ l r t typing.IsShift.shl p) j = promoted_code op.Shl l r t l p (numbers_plain l r t p).0 (any_of l r t p (code_type l))
gives_code _ _ _ _ (typing.GivesType.shift _ l r t typing.IsShift.shr p) j = promoted_code op.Shr l r t l p (numbers_plain l r t p).0 (any_of l r t p (code_type l))
gives_code _ _ _ _ (typing.GivesType.shift _ l r t typing.IsShift.ushr p) j = promoted_code op.Ushr l r t l p (numbers_plain l r t p).0 (any_of l r t p (code_type l))
gives_code _ _ _ _ (typing.GivesType.order _ l r t typing.IsOrder.lt p) j = promoted_code op.Lt l r t static.Boolean p truth_plain (any_of l r t p ty.Bool)
gives_code _ _ _ _ (typing.GivesType.order _ l r t typing.IsOrder.le p) j = promoted_code op.Le l r t static.Boolean p truth_plain (any_of l r t p ty.Bool)
gives_code _ _ _ _ (typing.GivesType.order _ l r t typing.IsOrder.gt p) j = promoted_code op.Gt l r t static.Boolean p truth_plain (any_of l r t p ty.Bool)
gives_code _ _ _ _ (typing.GivesType.order _ l r t typing.IsOrder.ge p) j = promoted_code op.Ge l r t static.Boolean p truth_plain (any_of l r t p ty.Bool)
gives_code _ _ _ _ (typing.GivesType.equality o l r e c) j = compared_code o l r e c
gives_code _ _ _ _ (typing.GivesType.neg t p) j = promoted_code op.Neg t t t t p (numbers_plain t t t p).2 (number_of t t t p)
gives_code _ _ _ _ (typing.GivesType.inv t p) j = promoted_code op.Inv t t t t p (numbers_plain t t t p).2 (number_of t t t p)
gives_code _ _ _ _ typing.GivesType.not j = record { gives = refl; left = refl; right = refl; plain = truth_plain }
gives_code _ _ _ _ typing.GivesType.widen j = record { gives = refl; left = refl; right = refl; plain = record { void = refl; null = refl } }
gives_code _ _ _ _ typing.GivesType.narrow j = record { gives = refl; left = refl; right = refl; plain = record { void = refl; null = refl } }
gives_code _ _ _ _ (typing.GivesType.concat l r) j = joined_code l r (j refl)

-- ---- signs

-- no prefix joins texts
pub prefix_joins_none : (s : Sign) (t : Static) → prefix_of s t ≡ Some op.Concat → ⊥
prefix_joins_none sign.Plus t e = absurd (cc e)
prefix_joins_none sign.Minus t e = absurd (cc e)
prefix_joins_none sign.Times t e = absurd (cc e)
prefix_joins_none sign.Over t e = absurd (cc e)
prefix_joins_none sign.Rest t e = absurd (cc e)
prefix_joins_none sign.And t e = absurd (cc e)
prefix_joins_none sign.Or t e = absurd (cc e)
prefix_joins_none sign.Xor t e = absurd (cc e)
prefix_joins_none sign.Shl t e = absurd (cc e)
prefix_joins_none sign.Shr t e = absurd (cc e)
prefix_joins_none sign.Ushr t e = absurd (cc e)
prefix_joins_none sign.Less t e = absurd (cc e)
prefix_joins_none sign.AtMost t e = absurd (cc e)
prefix_joins_none sign.More t e = absurd (cc e)
prefix_joins_none sign.AtLeast t e = absurd (cc e)
prefix_joins_none sign.Equal t e = absurd (cc e)
prefix_joins_none sign.Unequal t e = absurd (cc e)
prefix_joins_none sign.Both t e = absurd (cc e)
prefix_joins_none sign.Either t e = absurd (cc e)
prefix_joins_none sign.Not t e = absurd (cc e)
prefix_joins_none sign.Inv t e = absurd (cc e)
prefix_joins_none sign.ToInt static.Unknown e = absurd (cc e)
prefix_joins_none sign.ToInt static.Void e = absurd (cc e)
prefix_joins_none sign.ToInt static.Null e = absurd (cc e)
prefix_joins_none sign.ToInt static.Int e = absurd (cc e)
prefix_joins_none sign.ToInt static.Long e = absurd (cc e)
prefix_joins_none sign.ToInt static.Boolean e = absurd (cc e)
prefix_joins_none sign.ToInt static.Text e = absurd (cc e)
prefix_joins_none sign.ToInt (static.Object c) e = absurd (cc e)
prefix_joins_none sign.ToInt (static.Array c) e = absurd (cc e)
prefix_joins_none sign.ToInt static.ResultSet e = absurd (cc e)
prefix_joins_none sign.ToLong static.Unknown e = absurd (cc e)
prefix_joins_none sign.ToLong static.Void e = absurd (cc e)
prefix_joins_none sign.ToLong static.Null e = absurd (cc e)
prefix_joins_none sign.ToLong static.Int e = absurd (cc e)
prefix_joins_none sign.ToLong static.Long e = absurd (cc e)
prefix_joins_none sign.ToLong static.Boolean e = absurd (cc e)
prefix_joins_none sign.ToLong static.Text e = absurd (cc e)
prefix_joins_none sign.ToLong (static.Object c) e = absurd (cc e)
prefix_joins_none sign.ToLong (static.Array c) e = absurd (cc e)
prefix_joins_none sign.ToLong static.ResultSet e = absurd (cc e)

-- a sign between two operands is one of a choice, or of an operator
pub data SignIs (s : Sign) (l r t : Static) : Type 0 where
  operator : choice_of s ≡ None → GivesType (op_of s l r) l r t → SignIs s l r t
  choice : (both : Bool) → choice_of s ≡ Some both → is_choice s ≡ true → l ≡ t → r ≡ t → SignIs s l r t

pub sign_is : (s : Sign) (l r t : Static) → BinaryGives s l r t → SignIs s l r t
sign_is sign.Plus l r t g = SignIs.operator refl g
sign_is sign.Minus l r t g = SignIs.operator refl g
sign_is sign.Times l r t g = SignIs.operator refl g
sign_is sign.Over l r t g = SignIs.operator refl g
sign_is sign.Rest l r t g = SignIs.operator refl g
sign_is sign.And l r t g = SignIs.operator refl g
sign_is sign.Or l r t g = SignIs.operator refl g
sign_is sign.Xor l r t g = SignIs.operator refl g
sign_is sign.Shl l r t g = SignIs.operator refl g
sign_is sign.Shr l r t g = SignIs.operator refl g
sign_is sign.Ushr l r t g = SignIs.operator refl g
sign_is sign.Less l r t g = SignIs.operator refl g
sign_is sign.AtMost l r t g = SignIs.operator refl g
sign_is sign.More l r t g = SignIs.operator refl g
sign_is sign.AtLeast l r t g = SignIs.operator refl g
sign_is sign.Equal l r t g = SignIs.operator refl g
sign_is sign.Unequal l r t g = SignIs.operator refl g
sign_is sign.Both l r t g = SignIs.choice true refl refl g.0 g.1
sign_is sign.Either l r t g = SignIs.choice false refl refl g.0 g.1
sign_is sign.Not l r t g = SignIs.operator refl g
sign_is sign.Inv l r t g = SignIs.operator refl g
sign_is sign.ToInt l r t g = SignIs.operator refl g
sign_is sign.ToLong l r t g = SignIs.operator refl g
