-- Numbers.
use Rattle.std.proofs.Common.{◌≡◌, ℕ, zero, suc, ◌+◌, ◌-◌, ◌*◌, ◌%◌, ◌<◌, ◌≤◌, ◌^◌, ◌==◌, nat_le, Bool, true, false, cond, if◌then◌else◌, ◌&&◌, List, [], ◌∷◌, ◌++◌, length, Option, Some, None, ◌⊎◌, inl, inr, refl, sym, ap, subst, ◌∙◌, arith, ℤ, pos, negsuc, neg_ℤ, decimal, codes, drop, int_le}
use Rattle.std.specs.Prelude.{⊤, slice_index}
use Rattle.std.specs.Option.{option_map}
use Rattle.std.specs.List.{AllByRecursion}
use Rattle.std.specs.Fmt.{signed_decimal}
use Rattle.std.specs.Char.{is_ascii_digit, digit_value}
use Rattle.std.specs.Str.{bytes_eq}
use Rattle.std.specs.Str.Parse.{AllDigits, IsNumeral, digits_value, digits_value_after, starts_with_minus}
use Rattle.std.specs.Int.{w32, w64, IsInRange}
use Rattle.std.specs.Int.RustNames.{FitsSigned}
use Rattle.std.proofs.lemmas.Fmt.{decimal_is_IsNumeral}
use Rattle.std.proofs.lemmas.Str.{digit_value_digit}
use Rattle.std.proofs.lemmas.Str.Parse.{digit_from_value}
use Rattle.px_outside.specs.Numbers.{digits_after, number_of as written, up_to, u64_of, i64_of}
use Rattle.px_pyxil_reader.specs.Fitting.{IsU16, IsU32, SlotIfFits}
use Rattle.px_pyxil_reader.specs.Reading.{◌>>=◌, number_of, u16_of, u32_of, int_of, long_of, marked, slot_of, slot_or_none_of}
use Rattle.px_pyxil.specs.Words.{slot_text, slot_or_none}
use Rattle.px_pyxil_reader.proofs.Readers.{bind_some, some_is, chosen, guard_some, bytes_same, bytes_again, HasNo, ReadsWord}

-- a digit or a minus
abbrev pub IsNumberByte : ℕ → Type 0
IsNumberByte b = (45 ≤ b) × (b ≤ 57)

abbrev pub AreNumberBytes : List ℕ → Type 0
AreNumberBytes bytes = AllByRecursion IsNumberByte bytes

digit_is : (c : ℕ) → digit_value c < 10 → (48 ≤ c) × (c ≤ 57)
digit_is c h = digit_from_value c h

digits_are : (ds : List ℕ) → AllDigits 10 ds → AreNumberBytes ds
digits_are [] h = tt
digits_are (c ∷ cs) h = let d = digit_is c h.0 in ((omega (arith, d.0), d.1), digits_are cs h.1)

pub decimal_bytes : (n : ℕ) → n < 2 ^ 64 → AreNumberBytes (decimal n)
decimal_bytes n h = digits_are (decimal n) (decimal_is_IsNumeral n h).0.1

pub number_has_no : (byte : ℕ) (bytes : List ℕ) → (byte < 45) ⊎ (57 < byte) → AreNumberBytes bytes → HasNo byte bytes
number_has_no byte [] h k = tt
number_has_no byte (b ∷ bs) (inl h) k = (grind (arith, h, k.0.0, k.0.1), number_has_no byte bs (inl h) k.1)
number_has_no byte (b ∷ bs) (inr h) k = (grind (arith, h, k.0.0, k.0.1), number_has_no byte bs (inr h) k.1)

-- ---- what digits write

after_by : (b : Bool) (m d v : ℕ) (ds : List ℕ) → b ≡ true → d - 48 ≡ v → (if b then digits_after (m * 10 + (d - 48)) ds else None) ≡ digits_after (m * 10 + v) ds
after_by true m d v ds e w = ap (λ n. digits_after (m * 10 + n) ds) w
after_by false m d v ds e w = absurd cc

is_digit_true : (c : ℕ) → (48 ≤ c) × (c ≤ 57) → is_ascii_digit c ≡ true
is_digit_true c h = grind (arith, h.0, h.1)

after_digits : (m : ℕ) (ds : List ℕ) → AllDigits 10 ds → digits_after m ds ≡ Some (digits_value_after 10 m ds)
after_digits m [] h = refl
after_digits m (d ∷ ds) h =
    let r = digit_is d h.0 in
    let w : d - 48 ≡ digit_value d = let v = digit_value_digit d r in omega (arith, v) in
    after_by (is_ascii_digit d) m d (digit_value d) ds (is_digit_true d r) w ∙ after_digits (m * 10 + digit_value d) ds h.1

written_by : (ds : List ℕ) → 0 < length ds → AllDigits 10 ds → written ds ≡ Some (digits_value 10 ds)
written_by [] l h = absurd (omega (arith, l))
written_by (d ∷ ds) l h = after_digits 0 (d ∷ ds) h

abbrev some_number : ℕ → Option ℕ
some_number n = Some n

pub written_decimal : (n : ℕ) → n < 2 ^ 64 → written (decimal n) ≡ Some n
written_decimal n h = let p = decimal_is_IsNumeral n h in written_by (decimal n) p.0.0 p.0.1 ∙ ap some_number p.1

pub up_to_again : (most n : ℕ) → n ≤ most → up_to most (Some n) ≡ Some n
up_to_again most n h = let e : nat_le n most ≡ true = grind (arith, h) in ap (λ b. cond b (some_number n) None) e

u64_again : (n : ℕ) → n < 2 ^ 64 → u64_of (decimal n) ≡ Some n
u64_again n h = ap (up_to (2 ^ 64 - 1)) (written_decimal n h) ∙ up_to_again (2 ^ 64 - 1) n (omega (arith, h))

-- ---- unsigned numbers

abbrev checked : ℕ → List ℕ → ℕ → Option ℕ
checked limit word n = if bytes_eq (decimal (n % limit)) word then Some (n % limit) else None

number_again : (limit n : ℕ) → n < 2 ^ 64 → n % limit ≡ n → number_of limit (decimal n) ≡ Some n
number_again limit n h same =
    ap (λ o. o >>= checked limit (decimal n)) (u64_again n h)
    ∙ ap (λ m. if bytes_eq (decimal m) (decimal n) then some_number m else None) same
    ∙ ap (λ b. if b then some_number n else None) (bytes_again (decimal n))

number_taken : (limit : ℕ) (word : List ℕ) (n : ℕ) → ((m : ℕ) → m % limit < limit) → number_of limit word ≡ Some n → (n < limit) × (decimal n ≡ word)
number_taken limit word n l e =
    let m = bind_some (u64_of word) (checked limit word) n e in
    let g = guard_some (bytes_eq (decimal (m.0 % limit)) word) (m.0 % limit) n m.2 in
    (subst (λ x. x < limit) g.1 (l m.0), ap decimal (sym g.1) ∙ bytes_same (decimal (m.0 % limit)) word g.0)

pub u16_word : ReadsWord IsU16 decimal u16_of
unfolding u16_of
u16_word = record {
  again = λ n h. number_again 65536 n (omega (arith, h)) (omega (arith, h));
  taken = λ word n e. number_taken 65536 word n (λ m. omega arith) e;
}

pub u32_word : ReadsWord IsU32 decimal u32_of
unfolding u32_of
u32_word = record {
  again = λ n h. number_again 4294967296 n (omega (arith, h)) (omega (arith, h));
  taken = λ word n e. number_taken 4294967296 word n (λ m. omega arith) e;
}

marked_by : (mark byte : ℕ) (digits : List ℕ) (read : List ℕ → Option ℕ) (n : ℕ) (b : Bool) → (byte == mark) ≡ b → (if b then read digits else None) ≡ Some n → (byte ≡ mark) × (read digits ≡ Some n)
marked_by mark byte digits read n true b e = (grind (arith, b), e)
marked_by mark byte digits read n false b e = absurd cc

slot_taken : (word : List ℕ) (n : ℕ) → slot_of word ≡ Some n → IsU16 n × (slot_text n ≡ word)
unfolding slot_of
slot_taken [] n e = absurd cc
slot_taken (byte ∷ digits) n e =
    let m = marked_by 37 byte digits u16_of n (byte == 37) refl e in
    let p = u16_word.taken digits n m.1 in
    (p.0, ap (λ ds. 37 ∷ ds) p.1 ∙ ap (λ b. b ∷ digits) (sym m.0))

slot_again : (n : ℕ) → IsU16 n → slot_of (slot_text n) ≡ Some n
unfolding slot_of
slot_again n h = u16_word.again n h

pub slot_word : ReadsWord IsU16 slot_text slot_of
slot_word = record { again = slot_again; taken = slot_taken }

abbrev some_slot : ℕ → Option ℕ
some_slot n = Some n

abbrev some_some : Option ℕ → Option (Option ℕ)
some_some o = Some o

pub mapped_some : {A B : Type 0} (f : A → B) (o : Option A) (y : B) → option_map f o ≡ Some y → (x : A) × (o ≡ Some x) × (f x ≡ y)
mapped_some f (Some x) y e = (x, refl, cc)
mapped_some f None y e = absurd cc

or_none_taken : (word : List ℕ) (s : Option ℕ) → slot_or_none_of word ≡ Some s → SlotIfFits s × (slot_or_none s ≡ word)
unfolding slot_or_none_of
or_none_taken word s e =
    let none : Option ℕ = None in
    elim (chosen (bytes_eq word (codes "-")) (Some none) (option_map some_slot (slot_of word)) (Some s) e) [
      | inl h ↦ subst (λ x. SlotIfFits x × (slot_or_none x ≡ word)) (some_is none s h.1) (tt, sym (bytes_same word (codes "-") h.0))
      | inr h ↦ let m = mapped_some some_slot (slot_of word) s h.1 in
          subst (λ x. SlotIfFits x × (slot_or_none x ≡ word)) m.2 (slot_taken word m.0 m.1)
    ]

or_none_again : (s : Option ℕ) → SlotIfFits s → slot_or_none_of (slot_or_none s) ≡ Some s
unfolding slot_or_none_of
or_none_again None h = refl
or_none_again (Some n) h = ap (λ o. option_map some_slot o) (slot_again n h)

pub slot_or_none_word : ReadsWord SlotIfFits slot_or_none slot_or_none_of
slot_or_none_word = record { again = or_none_again; taken = or_none_taken }
