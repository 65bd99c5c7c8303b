-- Texts in quotes.
use Rattle.std.proofs.Common.{◌≡◌, ℕ, ◌<◌, ◌≤◌, ◌==◌, nat_lt, nat_le, Bool, true, false, cond, if◌then◌else◌, ◌||◌, List, [], ◌∷◌, ◌++◌, length, Option, Some, None, inl, inr, refl, sym, ap, subst, ◌∙◌, codes, arith, append_assoc}
use Rattle.std.specs.Option.{option_map}
use Rattle.std.specs.List.{AllByRecursion, flat_map}
use Rattle.px_value.specs.declared.value.Value.{Value}
use Rattle.px_value.specs.declared.value.Value.TheVariants.{Text}
use Rattle.px_value.specs.Limits.{max_text}
use Rattle.px_normal.specs.declared.word.Operand.{Operand}
use Rattle.px_normal.specs.declared.word.Operand.TheVariants.{Literal}
use Rattle.px_pyxil.specs.Words.{escaped, quoted}
use Rattle.px_pyxil_reader.specs.declared.texts.Step.{Step}
use Rattle.px_pyxil_reader.specs.declared.texts.Step.TheVariants as step
use Rattle.px_pyxil_reader.specs.Fitting.{TextFits}
use Rattle.px_pyxil_reader.specs.Reading.{◌>>=◌, escape_of, step_of, with_byte, stepped, text_from, text_at}
use Rattle.px_pyxil_reader.proofs.Readers.{bind_some, some_is, chosen, guard_some}
use Rattle.px_pyxil_reader.proofs.NumbersRead.{mapped_some}

abbrev Read : Type 0
Read = Option (List ℕ × List ℕ)

abbrev AreAscii : List ℕ → Type 0
AreAscii text = AllByRecursion (λ byte. byte < 128) text

-- ---- what is spelled is read

abbrev spelled : Bool → Bool → Bool → Bool → ℕ → List ℕ
spelled n t q s b = cond n (codes "\\n") (cond t (codes "\\t") (cond q (codes "\\\"") (cond s (codes "\\\\") (b ∷ []))))

abbrev plain_step : Bool → Bool → Bool → Bool → Bool → ℕ → Step
plain_step q s t n a b = if q then step.Close else if s then step.Backslash else if t || n then step.Broken else if a then step.Byte b else step.Broken

plain : (b : ℕ) (xs : List ℕ) → plain_step (b == 34) (b == 92) (b == 9) (b == 10) (nat_lt b 128) b ≡ step.Byte b → text_from false (b ∷ xs) ≡ option_map (with_byte b) (text_from false xs)
plain b xs e = ap (λ st. stepped st xs (text_from true xs) (text_from false xs)) e

byte_by : (n t q s a : Bool) (b : ℕ) (xs : List ℕ) → (b == 10) ≡ n → (b == 9) ≡ t → (b == 34) ≡ q → (b == 92) ≡ s → nat_lt b 128 ≡ a → a ≡ true → text_from false (spelled n t q s b ++ xs) ≡ option_map (with_byte b) (text_from false xs)
byte_by true t q s a b xs en et eq es ea h = let e : b ≡ 10 = grind (arith, en) in ap (λ c. option_map (with_byte c) (text_from false xs)) (sym e)
byte_by false true q s a b xs en et eq es ea h = let e : b ≡ 9 = grind (arith, et) in ap (λ c. option_map (with_byte c) (text_from false xs)) (sym e)
byte_by false false true s a b xs en et eq es ea h = let e : b ≡ 34 = grind (arith, eq) in ap (λ c. option_map (with_byte c) (text_from false xs)) (sym e)
byte_by false false false true a b xs en et eq es ea h = let e : b ≡ 92 = grind (arith, es) in ap (λ c. option_map (with_byte c) (text_from false xs)) (sym e)
byte_by false false false false true b xs en et eq es ea h = plain b xs (rw eq (rw es (rw et (rw en (rw ea refl)))))
byte_by false false false false false b xs en et eq es ea h = absurd cc

byte_again : (b : ℕ) (xs : List ℕ) → b < 128 → text_from false (escaped b ++ xs) ≡ option_map (with_byte b) (text_from false xs)
byte_again b xs h = byte_by (b == 10) (b == 9) (b == 34) (b == 92) (nat_lt b 128) b xs refl refl refl refl refl (let k : nat_lt b 128 ≡ true = grind (arith, h) in k)

body_again : (bytes rest : List ℕ) → AreAscii bytes → text_from false (flat_map escaped bytes ++ 34 ∷ rest) ≡ Some (bytes, rest)
body_again [] rest h = refl
body_again (b ∷ bytes) rest h =
    ap (text_from false) (append_assoc (escaped b) (flat_map escaped bytes) (34 ∷ rest))
    ∙ byte_again b (flat_map escaped bytes ++ 34 ∷ rest) h.0
    ∙ ap (option_map (with_byte b)) (body_again bytes rest h.1)

abbrev if_short : List ℕ × List ℕ → Option (Operand × List ℕ)
if_short text = if nat_le (length text.0) max_text then Some (Literal (Text text.0), text.1) else None

abbrev some_operand : Operand × List ℕ → Option (Operand × List ℕ)
some_operand x = Some x

pub text_again : (text rest : List ℕ) → TextFits text → text_at ((flat_map escaped text ++ codes "\"") ++ rest) ≡ Some (Literal (Text text), rest)
unfolding text_at
text_again text rest f =
    let short : nat_le (length text) max_text ≡ true = let l = f.0 in grind (arith, l) in
    ap (λ bytes. text_from false bytes >>= if_short) (append_assoc (flat_map escaped text) (34 ∷ []) rest)
    ∙ ap (λ o. o >>= if_short) (body_again text rest f.1)
    ∙ ap (λ b. if b then some_operand (Literal (Text text), rest) else None) short

-- ---- what is read was spelled

-- the backslash before
abbrev mark : Bool → List ℕ
mark true = 92 ∷ []
mark false = []

abbrev Spelled : List ℕ → List ℕ × List ℕ → Type 0
Spelled bytes x = (bytes ≡ flat_map escaped x.0 ++ 34 ∷ x.1) × AreAscii x.0

-- a byte that was read, before a text that was
one_more : (b : ℕ) (shown : List ℕ) (bs : List ℕ) (x : List ℕ × List ℕ) → escaped b ≡ shown → b < 128 → ((y : List ℕ × List ℕ) → text_from false bs ≡ Some y → Spelled bs y) → option_map (with_byte b) (text_from false bs) ≡ Some x → Spelled (shown ++ bs) x
one_more b shown bs x s a more e =
    let m = mapped_some (with_byte b) (text_from false bs) x e in
    let p = more m.0 m.1 in
    subst (Spelled (shown ++ bs)) m.2
    (ap (λ ys. shown ++ ys) p.0 ∙ ap (λ sh. sh ++ (flat_map escaped m.0.0 ++ 34 ∷ m.0.1)) (sym s) ∙ sym (append_assoc (escaped b) (flat_map escaped m.0.0) (34 ∷ m.0.1)), (a, p.1))

escaped_by : (n t q s : Bool) (b : ℕ) (bs : List ℕ) (x : List ℕ × List ℕ) → (b == 110) ≡ n → (b == 116) ≡ t → (b == 34) ≡ q → (b == 92) ≡ s
    → ((y : List ℕ × List ℕ) → text_from false bs ≡ Some y → Spelled bs y)
    → stepped (if n then step.Byte 10 else if t then step.Byte 9 else if q || s then step.Byte b else step.Broken) bs (text_from true bs) (text_from false bs) ≡ Some x → Spelled (92 ∷ b ∷ bs) x
escaped_by true t q s b bs x en et eq es more e = let c : b ≡ 110 = grind (arith, en) in subst (λ d. Spelled (92 ∷ d ∷ bs) x) (sym c) (one_more 10 (92 ∷ 110 ∷ []) bs x refl (omega arith) more e)
escaped_by false true q s b bs x en et eq es more e = let c : b ≡ 116 = grind (arith, et) in subst (λ d. Spelled (92 ∷ d ∷ bs) x) (sym c) (one_more 9 (92 ∷ 116 ∷ []) bs x refl (omega arith) more e)
escaped_by false false true s b bs x en et eq es more e =
    let c : b ≡ 34 = grind (arith, eq) in
    let f : option_map (with_byte 34) (text_from false bs) ≡ Some x = ap (λ d. option_map (with_byte d) (text_from false bs)) (sym c) ∙ e in
    subst (λ d. Spelled (92 ∷ d ∷ bs) x) (sym c) (one_more 34 (92 ∷ 34 ∷ []) bs x refl (omega arith) more f)
escaped_by false false false true b bs x en et eq es more e =
    let c : b ≡ 92 = grind (arith, es) in
    let f : option_map (with_byte 92) (text_from false bs) ≡ Some x = ap (λ d. option_map (with_byte d) (text_from false bs)) (sym c) ∙ e in
    subst (λ d. Spelled (92 ∷ d ∷ bs) x) (sym c) (one_more 92 (92 ∷ 92 ∷ []) bs x refl (omega arith) more f)
escaped_by false false false false b bs x en et eq es more e = absurd cc

plain_by : (q s t n a : Bool) (b : ℕ) (bs : List ℕ) (x : List ℕ × List ℕ) → (b == 34) ≡ q → (b == 92) ≡ s → (b == 9) ≡ t → (b == 10) ≡ n → nat_lt b 128 ≡ a
    → ((y : List ℕ × List ℕ) → text_from false bs ≡ Some y → Spelled bs y) → ((y : List ℕ × List ℕ) → text_from true bs ≡ Some y → Spelled (92 ∷ bs) y)
    → stepped (plain_step q s t n a b) bs (text_from true bs) (text_from false bs) ≡ Some x → Spelled (b ∷ bs) x
plain_by true s t n a b bs x eq es et en ea more behind e =
    let c : b ≡ 34 = grind (arith, eq) in
    let made : List ℕ × List ℕ = ([], bs) in
    subst (Spelled (b ∷ bs)) (let f : made ≡ x = cc in f) (ap (λ d. d ∷ bs) c, tt)
plain_by false true t n a b bs x eq es et en ea more behind e = let c : b ≡ 92 = grind (arith, es) in subst (λ d. Spelled (d ∷ bs) x) (sym c) (behind x e)
plain_by false false true n a b bs x eq es et en ea more behind e = absurd cc
plain_by false false false true a b bs x eq es et en ea more behind e = absurd cc
plain_by false false false false true b bs x eq es et en ea more behind e =
    let small : b < 128 = grind (arith, ea) in
    one_more b (b ∷ []) bs x (rw en (rw et (rw eq (rw es refl)))) small more e
plain_by false false false false false b bs x eq es et en ea more behind e = absurd cc

body_taken : (escape : Bool) (bytes : List ℕ) (x : List ℕ × List ℕ) → text_from escape bytes ≡ Some x → Spelled (mark escape ++ bytes) x
body_taken escape [] x e = absurd cc
body_taken true (b ∷ bs) x e = escaped_by (b == 110) (b == 116) (b == 34) (b == 92) b bs x refl refl refl refl (λ y h. body_taken false bs y h) e
body_taken false (b ∷ bs) x e = plain_by (b == 34) (b == 92) (b == 9) (b == 10) (nat_lt b 128) b bs x refl refl refl refl refl (λ y h. body_taken false bs y h) (λ y h. body_taken true bs y h) e

-- the text behind an opening quote
pub text_taken : (bytes : List ℕ) (P : Operand × List ℕ → Type 0) (x : Operand × List ℕ) → text_at bytes ≡ Some x
    → ((text rest : List ℕ) → TextFits text → bytes ≡ (flat_map escaped text ++ codes "\"") ++ rest → P (Literal (Text text), rest)) → P x
unfolding text_at
text_taken bytes P x e go =
    let t = bind_some (text_from false bytes) if_short x e in
    let made : Operand × List ℕ = (Literal (Text t.0.0), t.0.1) in
    let g = guard_some (nat_le (length t.0.0) max_text) made x t.2 in
    let p = body_taken false bytes t.0 t.1 in
    let short : length t.0.0 ≤ max_text = let l = g.0 in grind (arith, l) in
    subst P g.1 (go t.0.0 t.0.1 (short, p.1) (p.0 ∙ sym (append_assoc (flat_map escaped t.0.0) (34 ∷ []) t.0.1)))
