-- Values are read as they are spelled.
use Rattle.std.proofs.Common.{◌≡◌, ℕ, ◌<◌, ◌≤◌, ◌^◌, ◌==◌, Bool, true, false, cond, ltb, List, [], ◌∷◌, ◌++◌, length, take, drop, Option, Some, None, inl, inr, refl, sym, ap, subst, ◌∙◌, append_assoc, arith}
use Rattle.std.specs.List.{AllByRecursion}
use Rattle.std.specs.Char.{is_ascii}
use Rattle.std.specs.Int.{w32, w64, cast_signed, cast_unsigned}
use Rattle.std.proofs.Math.Facts.{Fits-of_z, sfits_to_z, of_z-to_z, to_z-of_z}
use Rattle.std.proofs.lemmas.Bool.{eqb-true, ltb-true, lt-ltb, ltb-false, le-ltb}
use Rattle.std.proofs.lemmas.List.{take_at, drop_at, take-append-drop, length-append, length-take-le}
use Rattle.px_value.specs.declared.value.Value.{Value}
use Rattle.px_value.specs.declared.value.Value.TheVariants as values
use Rattle.px_wire.specs.Numbers.{u16_bytes, u32_bytes, u64_bytes}
use Rattle.px_wire.specs.Spelling.{text_bytes, truth_byte, value_bytes}
use Rattle.px_wire.specs.Fitting.{max_text, IsShortAscii, HasShortText, ValueIsInRange}
use Rattle.px_wire.specs.Reading.{◌>>=◌, u8_at, u16_at, u32_at, u64_at, is_text, text_of, text_at, truth_of, int_at, long_at, truth_at, text_value_at, ref_at, tagged_at, value_at}
use Rattle.px_wire.proofs.Readers.{IsBytes, Taken, Reads, bind_some, some_is, chosen, guard_some}
use Rattle.px_wire.proofs.NumbersRead.{IsBytes-drop, IsBytes-rest, u8_reads, u16_reads, u32_reads, u64_reads}
use Rattle.px_wire.proofs.Ordered.{both_true}

-- ---- texts

is_text-true : (text : List ℕ) → is_text text ≡ true → AllByRecursion (λ byte. byte < 128) text
is_text-true [] e = tt
is_text-true (b ∷ text) e =
    let p = both_true (is_ascii b) (is_text text) e in
    (ltb-true b 128 p.0, is_text-true text p.1)

true-is_text : (text : List ℕ) → AllByRecursion (λ byte. byte < 128) text → is_text text ≡ true
true-is_text [] h = refl
true-is_text (b ∷ text) h = rw (lt-ltb b 128 h.0, true-is_text text h.1) refl

-- a test that failed, and what is tried behind it
passed : {A : Type 0} (b : Bool) (o : Option A) (y : A) → cond b None o ≡ Some y → (b ≡ false) × (o ≡ Some y)
passed true o y e = absurd cc
passed false o y e = (refl, e)

text_of-again : (text rest : List ℕ) → IsShortAscii text → text_of (length text) (text ++ rest) ≡ Some (text, rest)
text_of-again text rest fits =
    let short : ltb max_text (length text) ≡ false = le-ltb _ _ fits.short in
    let whole : ltb (length (text ++ rest)) (length text) ≡ false = le-ltb _ _ (omega (arith, length-append text rest)) in
    let front : take (length text) (text ++ rest) ≡ text = take_at text rest (length text) refl in
    let plain : is_text (take (length text) (text ++ rest)) ≡ true = ap is_text front ∙ true-is_text text fits.ascii in
    rw (short, whole, plain, front, drop_at text rest (length text) refl) refl

text_of-taken : (n : ℕ) (bytes : List ℕ) (x : List ℕ × List ℕ) → IsBytes bytes → text_of n bytes ≡ Some x → Taken IsShortAscii (λ text. text) bytes x × (length x.0 ≡ n)
text_of-taken n bytes x fits e =
    let read : List ℕ × List ℕ = (take n bytes, drop n bytes) in
    let inner : Option (List ℕ × List ℕ) = cond (is_text (take n bytes)) (Some read) None in
    let a = passed (ltb max_text n) (cond (ltb (length bytes) n) None inner) x e in
    let b = passed (ltb (length bytes) n) inner x a.1 in
    let c = guard_some (is_text (take n bytes)) read x b.1 in
    let short : n ≤ max_text = ltb-false _ _ a.0 in
    let whole : n ≤ length bytes = ltb-false _ _ b.0 in
    let len : length (take n bytes) ≡ n = length-take-le n bytes whole in
    let found : Taken IsShortAscii (λ text. text) bytes read = record { parts = sym (take-append-drop n bytes); rest = IsBytes-drop n bytes fits; fits = record { short = omega arith; ascii = is_text-true (take n bytes) c.0 } } in
    subst (λ (y : List ℕ × List ℕ). Taken IsShortAscii (λ text. text) bytes y × (length y.0 ≡ n)) c.1 (found, len)

pub text_reads : Reads IsShortAscii text_bytes text_at
unfolding text_at
text_reads = record {
  again = λ text rest fits.
      let small : length text < 2 ^ 16 = let short = fits.short in omega arith in
      ap (λ bytes. u16_at bytes >>= λ n. text_of n.0 n.1) (append_assoc (u16_bytes (length text)) text rest)
      ∙ ap (λ o. o >>= λ n. text_of n.0 n.1) (u16_reads.again (length text) (text ++ rest) small)
      ∙ text_of-again text rest fits;
  taken = λ bytes x fits e.
      let a = bind_some (u16_at bytes) (λ n. text_of n.0 n.1) x e in
      let p = u16_reads.taken bytes a.0 fits a.1 in
      let q = text_of-taken a.0.0 a.0.1 x p.rest a.2 in
      let parts : bytes ≡ (u16_bytes (length x.0) ++ x.0) ++ x.1 = p.parts ∙ ap (λ y. u16_bytes a.0.0 ++ y) q.0.parts ∙ ap (λ n. u16_bytes n ++ (x.0 ++ x.1)) (sym q.1) ∙ sym (append_assoc (u16_bytes (length x.0)) x.0 x.1) in
      record { parts = parts; rest = q.0.rest; fits = q.0.fits };
}

-- ---- each kind of value

abbrev pub ValueFits : Value → Type 0
ValueFits v = ValueIsInRange v × HasShortText v

-- x was read behind a tag
abbrev Tagged : ℕ → List ℕ → Value × List ℕ → Type 0
Tagged tag bytes x = Taken ValueFits value_bytes (tag ∷ bytes) x

int-taken : (bytes : List ℕ) (x : Value × List ℕ) → IsBytes bytes → int_at bytes ≡ Some x → Tagged 1 bytes x
unfolding int_at
int-taken bytes x fits e =
    let a = bind_some (u32_at bytes) (λ n. Some (values.Int (cast_signed w32 n.0), n.1)) x e in
    let p = u32_reads.taken bytes a.0 fits a.1 in
    let made : Value × List ℕ = (values.Int (cast_signed w32 a.0.0), a.0.1) in
    let same : a.0.0 ≡ cast_unsigned w32 (cast_signed w32 a.0.0) = sym (of_z-to_z {w = w32} (record { fits = p.fits })) in
    subst (λ (y : Value × List ℕ). Tagged 1 bytes y) (some_is made x a.2)
    (record { parts = ap (λ y. 1 ∷ y) (p.parts ∙ ap (λ n. u32_bytes n ++ a.0.1) same); rest = p.rest; fits = (sfits_to_z {w = w32} (record { fits = p.fits }), tt) })

long-taken : (bytes : List ℕ) (x : Value × List ℕ) → IsBytes bytes → long_at bytes ≡ Some x → Tagged 2 bytes x
unfolding long_at
long-taken bytes x fits e =
    let a = bind_some (u64_at bytes) (λ n. Some (values.Long (cast_signed w64 n.0), n.1)) x e in
    let p = u64_reads.taken bytes a.0 fits a.1 in
    let made : Value × List ℕ = (values.Long (cast_signed w64 a.0.0), a.0.1) in
    let same : a.0.0 ≡ cast_unsigned w64 (cast_signed w64 a.0.0) = sym (of_z-to_z {w = w64} (record { fits = p.fits })) in
    subst (λ (y : Value × List ℕ). Tagged 2 bytes y) (some_is made x a.2)
    (record { parts = ap (λ y. 2 ∷ y) (p.parts ∙ ap (λ n. u64_bytes n ++ a.0.1) same); rest = p.rest; fits = (sfits_to_z {w = w64} (record { fits = p.fits }), tt) })

truth_of-some : (byte : ℕ) (truth : Bool) → truth_of byte ≡ Some truth → byte ≡ truth_byte truth
truth_of-some byte truth e =
    let rest : Option Bool = cond (byte == 1) (Some true) None in
    elim (chosen (byte == 0) (Some false) rest (Some truth) e) [
      | inl h ↦ eqb-true byte 0 h.0 ∙ ap truth_byte (some_is false truth h.1)
      | inr h ↦ let g = guard_some (byte == 1) true truth h.1 in eqb-true byte 1 g.0 ∙ ap truth_byte g.1
    ]

truth-taken : (bytes : List ℕ) (x : Value × List ℕ) → IsBytes bytes → truth_at bytes ≡ Some x → Tagged 3 bytes x
unfolding truth_at
truth-taken bytes x fits e =
    let a = bind_some (u8_at bytes) (λ byte. truth_of byte.0 >>= λ truth. Some (values.Bool truth, byte.1)) x e in
    let b = bind_some (truth_of a.0.0) (λ truth. Some (values.Bool truth, a.0.1)) x a.2 in
    let p = u8_reads.taken bytes a.0 fits a.1 in
    let made : Value × List ℕ = (values.Bool b.0, a.0.1) in
    subst (λ (y : Value × List ℕ). Tagged 3 bytes y) (some_is made x b.2)
    (record { parts = ap (λ y. 3 ∷ y) (p.parts ∙ ap (λ n. n ∷ a.0.1) (truth_of-some a.0.0 b.0 b.1)); rest = p.rest; fits = (tt, tt) })

text_value-taken : (bytes : List ℕ) (x : Value × List ℕ) → IsBytes bytes → text_value_at bytes ≡ Some x → Tagged 4 bytes x
unfolding text_value_at
text_value-taken bytes x fits e =
    let a = bind_some (text_at bytes) (λ text. Some (values.Text text.0, text.1)) x e in
    let p = text_reads.taken bytes a.0 fits a.1 in
    let made : Value × List ℕ = (values.Text a.0.0, a.0.1) in
    subst (λ (y : Value × List ℕ). Tagged 4 bytes y) (some_is made x a.2)
    (record { parts = ap (λ y. 4 ∷ y) p.parts; rest = p.rest; fits = (tt, p.fits) })

ref-taken : (bytes : List ℕ) (x : Value × List ℕ) → IsBytes bytes → ref_at bytes ≡ Some x → Tagged 5 bytes x
unfolding ref_at
ref-taken bytes x fits e =
    let a = bind_some (u32_at bytes) (λ n. Some (values.Ref n.0, n.1)) x e in
    let p = u32_reads.taken bytes a.0 fits a.1 in
    let made : Value × List ℕ = (values.Ref a.0.0, a.0.1) in
    subst (λ (y : Value × List ℕ). Tagged 5 bytes y) (some_is made x a.2)
    (record { parts = ap (λ y. 5 ∷ y) p.parts; rest = p.rest; fits = (p.fits, tt) })

null-taken : (bytes : List ℕ) (x : Value × List ℕ) → IsBytes bytes → Some (values.Null, bytes) ≡ Some x → Tagged 0 bytes x
null-taken bytes x fits e =
    let made : Value × List ℕ = (values.Null, bytes) in
    subst (λ (y : Value × List ℕ). Tagged 0 bytes y) (some_is made x e) (record { parts = refl; rest = fits; fits = (tt, tt) })

-- ---- any value

-- the reader of a tag, or what is tried behind it
by_tag : (tag this : ℕ) (bytes : List ℕ) (x : Value × List ℕ) (here others : Option (Value × List ℕ)) → cond (tag == this) here others ≡ Some x → (here ≡ Some x → Tagged this bytes x) → (others ≡ Some x → Tagged tag bytes x) → Tagged tag bytes x
by_tag tag this bytes x here others e taken others_taken =
    elim (chosen (tag == this) here others (Some x) e) [
      | inl h ↦ subst (λ t. Tagged t bytes x) (sym (eqb-true tag this h.0)) (taken h.1)
      | inr h ↦ others_taken h.1
    ]

tagged-taken : (tag : ℕ) (bytes : List ℕ) (x : Value × List ℕ) → IsBytes bytes → tagged_at tag bytes ≡ Some x → Tagged tag bytes x
tagged-taken tag bytes x fits e =
    by_tag tag 0 bytes x _ _ e (null-taken bytes x fits) (λ e1.
    by_tag tag 1 bytes x _ _ e1 (int-taken bytes x fits) (λ e2.
    by_tag tag 2 bytes x _ _ e2 (long-taken bytes x fits) (λ e3.
    by_tag tag 3 bytes x _ _ e3 (truth-taken bytes x fits) (λ e4.
    by_tag tag 4 bytes x _ _ e4 (text_value-taken bytes x fits) (λ e5.
    by_tag tag 5 bytes x _ _ e5 (ref-taken bytes x fits) (λ e6. absurd cc))))))

value-again : (v : Value) (rest : List ℕ) → ValueFits v → value_at (value_bytes v ++ rest) ≡ Some (v, rest)
unfolding value_at int_at long_at truth_at text_value_at ref_at
value-again values.Null rest fits = refl
value-again (values.Int n) rest fits =
    ap (λ o. o >>= λ m. Some (values.Int (cast_signed w32 m.0), m.1)) (u32_reads.again (cast_unsigned w32 n) rest (Fits-of_z {w = w32} fits.0).fits) ∙ ap (λ z. Some (values.Int z, rest)) (to_z-of_z {w = w32} fits.0)
value-again (values.Long n) rest fits =
    ap (λ o. o >>= λ m. Some (values.Long (cast_signed w64 m.0), m.1)) (u64_reads.again (cast_unsigned w64 n) rest (Fits-of_z {w = w64} fits.0).fits) ∙ ap (λ z. Some (values.Long z, rest)) (to_z-of_z {w = w64} fits.0)
value-again (values.Bool true) rest fits = refl
value-again (values.Bool false) rest fits = refl
value-again (values.Text text) rest fits = ap (λ o. o >>= λ m. Some (values.Text m.0, m.1)) (text_reads.again text rest fits.1)
value-again (values.Ref place) rest fits = ap (λ o. o >>= λ m. Some (values.Ref m.0, m.1)) (u32_reads.again place rest fits.0)

value-taken : (bytes : List ℕ) (x : Value × List ℕ) → IsBytes bytes → value_at bytes ≡ Some x → Taken ValueFits value_bytes bytes x
unfolding value_at
value-taken [] x fits e = absurd cc
value-taken (tag ∷ bytes) x fits e = tagged-taken tag bytes x (IsBytes-rest tag bytes fits) e

pub value_reads : Reads ValueFits value_bytes value_at
value_reads = record { again = value-again; taken = value-taken }
