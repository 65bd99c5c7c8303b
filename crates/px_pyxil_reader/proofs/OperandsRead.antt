-- Operands.
use Rattle.std.proofs.Common.{◌≡◌, ℕ, zero, suc, ◌+◌, ◌<◌, ◌≤◌, ◌^◌, ◌==◌, Bool, true, false, cond, if◌then◌else◌, ◌&&◌, List, [], ◌∷◌, ◌++◌, length, Option, Some, None, ◌⊎◌, inl, inr, refl, sym, ap, subst, ◌∙◌, codes, arith, ℤ, pos, negsuc, decimal, append-nil, length-append}
use Rattle.std.specs.Prelude.{⊤}
use Rattle.std.specs.Option.{option_map}
use Rattle.std.specs.List.{AllByRecursion}
use Rattle.std.specs.Fmt.{signed_decimal}
use Rattle.std.specs.Str.{bytes_eq}
use Rattle.std.specs.Int.{w32, w64}
use Rattle.std.specs.Int.RustNames.{FitsSigned}
use Rattle.std.specs.Int.Signed.{mag}
use Rattle.std.proofs.lemmas.Fmt.{decimal_nonempty}
use Rattle.px_value.specs.declared.value.Value.{Value}
use Rattle.px_value.specs.declared.value.Value.TheVariants.{Int, Long, Bool as Truth, Text, Null, Ref}
use Rattle.px_normal.specs.declared.word.Operand.{Operand}
use Rattle.px_normal.specs.declared.word.Operand.TheVariants.{Slot, Literal}
use Rattle.px_pyxil.specs.Words.{literal_text, operand_text, operands, operand_if as if_words, quoted}
use Rattle.px_pyxil.specs.Spelling.{spaced}
use Rattle.px_pyxil_reader.specs.Fitting.{IsU16, IsU32, ValueFits, OperandFits, OperandIfFits, OperandsFit, TextFits}
use Rattle.px_pyxil_reader.specs.Reading.{◌>>=◌, cut_at, int_of, long_of, u16_of, u32_of, number_by, literal_of, by_mark, plain_operand_of, of_word, quoted_or_plain, operand_at, text_at, end_at, is_end, operand_of, operand_if, operands_in, operands_to_end}
use Rattle.px_pyxil_reader.proofs.Readers.{bind_some, some_is, chosen, guard_some, bytes_same, HasNo, Starts, IsBreak, has_no_both, cut_again, cut_all, cut_parts, cut_stops, ReadsWord, Reads, reads_of_word, then_again, then_taken, end_taken}
use Rattle.px_pyxil_reader.proofs.NumbersRead.{IsNumberByte, AreNumberBytes, decimal_bytes, number_has_no, u16_word, u32_word, mapped_some}
use Rattle.px_pyxil_reader.proofs.SignedRead.{signed_bytes, int_word, long_word}
use Rattle.px_pyxil_reader.proofs.NamesRead.{both_true}
use Rattle.px_pyxil_reader.proofs.TextsRead.{text_again, text_taken}

-- ---- operands without texts

abbrev PlainFits : Value → Type 0
PlainFits (Text text) = ⊥
PlainFits v = ValueFits v

abbrev PlainOperandFits : Operand → Type 0
PlainOperandFits (Slot slot) = IsU16 slot
PlainOperandFits (Literal value) = PlainFits value

true_again : by_mark (codes "true") ≡ Some (Literal (Truth true))
unfolding literal_of
true_again = refl

false_again : by_mark (codes "false") ≡ Some (Literal (Truth false))
unfolding literal_of
false_again = refl

null_again : by_mark (codes "null") ≡ Some (Literal Null)
unfolding literal_of
null_again = refl

-- a byte above a mark isn't one below
high_has_no : (byte : ℕ) (bytes : List ℕ) → byte < 35 → AllByRecursion (λ b. 35 ≤ b) bytes → HasNo byte bytes
high_has_no byte [] l h = tt
high_has_no byte (b ∷ bytes) l h = (let k = h.0 in let e : (b == byte) ≡ false = grind (arith, l, k) in e, high_has_no byte bytes l h.1)

-- ---- numbers

-- a word that begins with a digit or a minus is none of these
pub differs : (b c : ℕ) (bs cs : List ℕ) → IsNumberByte b → 57 < c → bytes_eq (b ∷ bs) (c ∷ cs) ≡ false
differs b c bs cs h k = let e : (b == c) ≡ false = grind (arith, h.0, h.1, k) in ap (λ t. t && bytes_eq bs cs) e

number_literal : (b : ℕ) (bs : List ℕ) → IsNumberByte b → literal_of (b ∷ bs) ≡ number_by (cut_at 76 (b ∷ bs)).0 (cut_at 76 (b ∷ bs)).1
unfolding literal_of
number_literal b bs h = rw (differs b 116 bs _ h (omega arith)) (rw (differs b 102 bs _ h (omega arith)) (rw (differs b 110 bs _ h (omega arith)) refl))

abbrev literals : Option Value → Option Operand
literals o = option_map Literal o

number_mark : (b : ℕ) (bs : List ℕ) → IsNumberByte b → by_mark (b ∷ bs) ≡ literals (literal_of (b ∷ bs))
number_mark b bs h =
    let e : (b == 37) ≡ false = grind (arith, h.0, h.1) in
    let f : (b == 35) ≡ false = grind (arith, h.0, h.1) in
    rw e (rw f refl)

abbrev by_cut : List ℕ × List ℕ → Option Value
by_cut p = number_by p.0 p.1

-- a word of a number, read
number_again : (digits rest : List ℕ) (v : Value) → 0 < length digits → AreNumberBytes digits → Starts 76 rest → number_by digits rest ≡ Some v → by_mark (digits ++ rest) ≡ Some (Literal v)
number_again [] rest v d h s e = absurd (omega (arith, d))
number_again (x ∷ digits) rest v d h s e =
    number_mark x (digits ++ rest) h.0
    ∙ ap literals (number_literal x (digits ++ rest) h.0 ∙ ap by_cut (cut_again 76 (x ∷ digits) rest (number_has_no 76 (x ∷ digits) (inr (omega arith)) h) s) ∙ e)

nonempty : (z : ℤ) → mag z < 2 ^ 63 → 0 < length (signed_decimal z)
nonempty (pos n) h = decimal_nonempty n (omega (arith, h))
nonempty (negsuc n) h = omega arith

abbrev ints : Option ℤ → Option Value
ints o = option_map Int o

abbrev longs : Option ℤ → Option Value
longs o = option_map Long o

int_fits : (n : ℤ) → FitsSigned w32 n → mag n < 2 ^ 63
int_fits n f = let s = f.sfits in omega (arith, s)

long_fits : (n : ℤ) → FitsSigned w64 n → mag n < 2 ^ 63
long_fits n f = let s = f.sfits in omega (arith, s)

mark_again : (a : Operand) → PlainOperandFits a → by_mark (operand_text a) ≡ Some a
mark_again (Slot slot) f = ap (λ o. option_map Slot o) (u16_word.again slot f)
mark_again (Literal (Int n)) f =
    ap by_mark (sym (append-nil (signed_decimal n)))
    ∙ number_again (signed_decimal n) [] (Int n) (nonempty n (int_fits n f)) (signed_bytes n (int_fits n f)) tt (ap ints (int_word.again n f))
mark_again (Literal (Long n)) f = number_again (signed_decimal n) (76 ∷ []) (Long n) (nonempty n (long_fits n f)) (signed_bytes n (long_fits n f)) refl (ap longs (long_word.again n f))
mark_again (Literal (Truth true)) f = true_again
mark_again (Literal (Truth false)) f = false_again
mark_again (Literal (Text text)) f = absurd f
mark_again (Literal Null) f = null_again
mark_again (Literal (Ref place)) f = ap (λ o. option_map (λ p. Literal (Ref p)) o) (u32_word.again place f)

abbrev IsPlain : List ℕ → Operand → Type 0
IsPlain word a = PlainOperandFits a × (operand_text a ≡ word)

number_by_taken : (digits rest : List ℕ) (v : Value) → Starts 76 rest → number_by digits rest ≡ Some v → PlainFits v × (literal_text v ≡ digits ++ rest)
number_by_taken digits [] v s e =
    let m = mapped_some Int (int_of digits) v e in
    let p = int_word.taken digits m.0 m.1 in
    subst (λ x. PlainFits x × (literal_text x ≡ digits ++ [])) m.2 (p.0, p.1 ∙ sym (append-nil digits))
number_by_taken digits (c ∷ []) v s e =
    let m = mapped_some Long (long_of digits) v e in
    let p = long_word.taken digits m.0 m.1 in
    let is_l : c ≡ 76 = grind (arith, s) in
    subst (λ x. PlainFits x × (literal_text x ≡ digits ++ c ∷ [])) m.2 (p.0, ap (λ ds. ds ++ 76 ∷ []) p.1 ∙ ap (λ b. digits ++ b ∷ []) (sym is_l))
number_by_taken digits (c ∷ d ∷ rest) v s e = absurd cc

abbrev IsPlainLiteral : List ℕ → Value → Type 0
IsPlainLiteral word v = PlainFits v × (literal_text v ≡ word)

literal_taken : (word : List ℕ) (v : Value) → literal_of word ≡ Some v → IsPlainLiteral word v
unfolding literal_of
literal_taken word v e =
    let numbers : Option Value = number_by (cut_at 76 word).0 (cut_at 76 word).1 in
    let nulls : Option Value = if bytes_eq word (codes "null") then Some Null else numbers in
    let falses : Option Value = if bytes_eq word (codes "false") then Some (Truth false) else nulls in
    elim (chosen (bytes_eq word (codes "true")) (Some (Truth true)) falses (Some v) e) [
      | inl h ↦ subst (IsPlainLiteral word) (some_is (Truth true) v h.1) (tt, sym (bytes_same word (codes "true") h.0))
      | inr h ↦ elim (chosen (bytes_eq word (codes "false")) (Some (Truth false)) nulls (Some v) h.1) [
        | inl h ↦ subst (IsPlainLiteral word) (some_is (Truth false) v h.1) (tt, sym (bytes_same word (codes "false") h.0))
        | inr h ↦ elim (chosen (bytes_eq word (codes "null")) (Some Null) numbers (Some v) h.1) [
          | inl h ↦ subst (IsPlainLiteral word) (some_is Null v h.1) (tt, sym (bytes_same word (codes "null") h.0))
          | inr h ↦ let p = number_by_taken (cut_at 76 word).0 (cut_at 76 word).1 v (cut_stops 76 word) h.1 in (p.0, p.1 ∙ cut_parts 76 word)
        ]
      ]
    ]

abbrev refs : ℕ → Operand
refs place = Literal (Ref place)

mark_by : (s r : Bool) (mark : ℕ) (digits : List ℕ) (a : Operand) → (mark == 37) ≡ s → (mark == 35) ≡ r
    → (if s then option_map Slot (u16_of digits) else if r then option_map refs (u32_of digits) else option_map Literal (literal_of (mark ∷ digits))) ≡ Some a → IsPlain (mark ∷ digits) a
mark_by true r mark digits a es er e =
    let m = mapped_some Slot (u16_of digits) a e in
    let p = u16_word.taken digits m.0 m.1 in
    let c : mark ≡ 37 = grind (arith, es) in
    subst (IsPlain (mark ∷ digits)) m.2 (p.0, ap (λ ds. 37 ∷ ds) p.1 ∙ ap (λ b. b ∷ digits) (sym c))
mark_by false true mark digits a es er e =
    let m = mapped_some refs (u32_of digits) a e in
    let p = u32_word.taken digits m.0 m.1 in
    let c : mark ≡ 35 = grind (arith, er) in
    subst (IsPlain (mark ∷ digits)) m.2 (p.0, ap (λ ds. 35 ∷ ds) p.1 ∙ ap (λ b. b ∷ digits) (sym c))
mark_by false false mark digits a es er e =
    let m = mapped_some Literal (literal_of (mark ∷ digits)) a e in
    subst (IsPlain (mark ∷ digits)) m.2 (literal_taken (mark ∷ digits) m.0 m.1)

mark_taken : (word : List ℕ) (a : Operand) → by_mark word ≡ Some a → IsPlain word a
mark_taken [] a e = absurd cc
mark_taken (mark ∷ digits) a e = mark_by (mark == 37) (mark == 35) mark digits a refl refl e

plain_word : ReadsWord PlainOperandFits operand_text plain_operand_of
unfolding plain_operand_of
plain_word = record { again = mark_again; taken = mark_taken }

pub plain_has_no : (byte : ℕ) → byte < 35 → (a : Operand) → PlainOperandFits a → HasNo byte (operand_text a)
plain_has_no byte l (Slot slot) f = (let e : (37 == byte) ≡ false = grind (arith, l) in e, number_has_no byte (decimal slot) (inl (omega (arith, l))) (decimal_bytes slot (omega (arith, f))))
plain_has_no byte l (Literal (Int n)) f = number_has_no byte (signed_decimal n) (inl (omega (arith, l))) (signed_bytes n (int_fits n f))
plain_has_no byte l (Literal (Long n)) f = has_no_both byte (signed_decimal n) (76 ∷ []) (number_has_no byte (signed_decimal n) (inl (omega (arith, l))) (signed_bytes n (long_fits n f))) (let e : (76 == byte) ≡ false = grind (arith, l) in e, tt)
plain_has_no byte l (Literal (Truth true)) f = high_has_no byte (codes "true") l (omega arith, (omega arith, (omega arith, (omega arith, tt))))
plain_has_no byte l (Literal (Truth false)) f = high_has_no byte (codes "false") l (omega arith, (omega arith, (omega arith, (omega arith, (omega arith, tt)))))
plain_has_no byte l (Literal (Text text)) f = absurd f
plain_has_no byte l (Literal Null) f = high_has_no byte (codes "null") l (omega arith, (omega arith, (omega arith, (omega arith, tt))))
plain_has_no byte l (Literal (Ref place)) f = (let e : (35 == byte) ≡ false = grind (arith, l) in e, number_has_no byte (decimal place) (inl (omega (arith, l))) (decimal_bytes place (omega (arith, f))))

plain_reads : Reads PlainOperandFits operand_text (of_word plain_operand_of)
plain_reads = reads_of_word plain_word (λ a f. plain_has_no 32 (omega arith) a f)

-- ---- all operands

plain_fits : (a : Operand) → PlainOperandFits a → OperandFits a
plain_fits (Slot slot) f = f
plain_fits (Literal (Int n)) f = f
plain_fits (Literal (Long n)) f = f
plain_fits (Literal (Truth b)) f = tt
plain_fits (Literal (Text text)) f = absurd f
plain_fits (Literal Null) f = tt
plain_fits (Literal (Ref place)) f = f

-- what has no quote is read xs a word
unquoted : (text rest : List ℕ) → HasNo 34 text → IsBreak rest → operand_at (32 ∷ (text ++ rest)) ≡ of_word plain_operand_of (32 ∷ (text ++ rest))
unfolding operand_at
unquoted [] [] h s = refl
unquoted [] (c ∷ rest) h s = let e : (c == 34) ≡ false = grind (arith, s) in ap (λ b. if b then text_at rest else of_word plain_operand_of (32 ∷ c ∷ rest)) e
unquoted (c ∷ text) rest h s = ap (λ b. if b then text_at (text ++ rest) else of_word plain_operand_of (32 ∷ c ∷ (text ++ rest))) h.0

plain_again : (a : Operand) (rest : List ℕ) → PlainOperandFits a → IsBreak rest → operand_at (32 ∷ (operand_text a ++ rest)) ≡ Some (a, rest)
plain_again a rest f s = unquoted (operand_text a) rest (plain_has_no 34 (omega arith) a f) s ∙ plain_reads.again a rest f s

quoted_again : (text rest : List ℕ) → TextFits text → operand_at (32 ∷ (quoted text ++ rest)) ≡ Some (Literal (Text text), rest)
unfolding operand_at
quoted_again text rest f = text_again text rest f

operand_again : (a : Operand) (rest : List ℕ) → OperandFits a → IsBreak rest → operand_at (32 ∷ (operand_text a ++ rest)) ≡ Some (a, rest)
operand_again (Slot slot) rest f s = plain_again (Slot slot) rest f s
operand_again (Literal (Int n)) rest f s = plain_again (Literal (Int n)) rest f s
operand_again (Literal (Long n)) rest f s = plain_again (Literal (Long n)) rest f s
operand_again (Literal (Truth b)) rest f s = plain_again (Literal (Truth b)) rest tt s
operand_again (Literal (Text text)) rest f s = quoted_again text rest f
operand_again (Literal Null) rest f s = plain_again (Literal Null) rest tt s
operand_again (Literal (Ref place)) rest f s = plain_again (Literal (Ref place)) rest f s

abbrev IsOperandAt : List ℕ → Operand × List ℕ → Type 0
IsOperandAt bytes x = OperandFits x.0 × (bytes ≡ 32 ∷ (operand_text x.0 ++ x.1))

plain_taken : (bytes : List ℕ) (x : Operand × List ℕ) → of_word plain_operand_of bytes ≡ Some x → IsOperandAt bytes x
plain_taken bytes x e = let p = plain_reads.taken bytes x e in (plain_fits x.0 p.0, p.1)

quote_by : (q : Bool) (first second : ℕ) (rest : List ℕ) (x : Operand × List ℕ) → ((first == 32) && (second == 34)) ≡ q
    → (if q then text_at rest else of_word plain_operand_of (first ∷ second ∷ rest)) ≡ Some x → IsOperandAt (first ∷ second ∷ rest) x
quote_by true first second rest x q e =
    let b = both_true (first == 32) (second == 34) q in
    let f : first ≡ 32 = let t = b.0 in grind (arith, t) in
    let s : second ≡ 34 = let t = b.1 in grind (arith, t) in
    text_taken rest (IsOperandAt (first ∷ second ∷ rest)) x e (λ text behind fits same. (fits, ap (λ c. c ∷ second ∷ rest) f ∙ ap (λ c. 32 ∷ c ∷ rest) s ∙ ap (λ bs. 32 ∷ 34 ∷ bs) same))
quote_by false first second rest x q e = plain_taken (first ∷ second ∷ rest) x e

operand_taken : (bytes : List ℕ) (x : Operand × List ℕ) → operand_at bytes ≡ Some x → IsOperandAt bytes x
unfolding operand_at
operand_taken [] x e = absurd cc
operand_taken (first ∷ []) x e = plain_taken (first ∷ []) x e
operand_taken (first ∷ second ∷ rest) x e = quote_by ((first == 32) && (second == 34)) first second rest x refl e

pub operand_reads : Reads OperandFits operand_text operand_at
operand_reads = record { again = operand_again; taken = operand_taken }

-- ---- the last operands

abbrev ending : Operand × List ℕ → Option Operand
ending value = end_at value.1 >>= λ _. Some value.0

pub last_again : (a : Operand) → OperandFits a → operand_of (32 ∷ (operand_text a ++ [])) ≡ Some a
unfolding operand_of
last_again a f = then_again operand_reads ending a [] f tt

pub last_taken : (P : List ℕ → Type 0) (bytes : List ℕ) (y : Operand) → operand_of bytes ≡ Some y → (OperandFits y → P (32 ∷ (operand_text y ++ []))) → P bytes
unfolding operand_of
last_taken P bytes y e go =
    let p : OperandFits y × (bytes ≡ 32 ∷ (operand_text y ++ [])) =
    then_taken operand_reads (λ bs. OperandFits y × (bs ≡ 32 ∷ (operand_text y ++ []))) ending bytes y e
    (λ a rest f h. end_taken (λ z bs. OperandFits z × (32 ∷ (operand_text a ++ bs) ≡ 32 ∷ (operand_text z ++ []))) rest a y h (f, refl)) in
    subst P (sym p.1) (go p.0)

abbrev some_operand : Operand → Option Operand
some_operand a = Some a

pub if_again : (o : Option Operand) → OperandIfFits o → operand_if (spaced (if_words o)) ≡ Some o
if_again None f = refl
if_again (Some a) f = ap (option_map some_operand) (last_again a f)

pub if_taken : (P : List ℕ → Type 0) (bytes : List ℕ) (o : Option Operand) → operand_if bytes ≡ Some o → (OperandIfFits o → P (spaced (if_words o))) → P bytes
if_taken P [] o e go = let none : Option Operand = None in let f : none ≡ o = some_is none o e in subst (λ z. (OperandIfFits z → P (spaced (if_words z))) → P []) f (λ g. g tt) go
if_taken P (b ∷ bytes) o e go =
    let m = mapped_some some_operand (operand_of (b ∷ bytes)) o e in
    last_taken P (b ∷ bytes) m.0 m.1 (λ f. subst (λ z. (OperandIfFits z → P (spaced (if_words z))) → P (32 ∷ (operand_text m.0 ++ []))) m.2 (λ g. g f) go)

pub breaks : (ws : List (List ℕ)) → IsBreak (spaced ws)
breaks [] = tt
breaks (w ∷ ws) = refl

abbrev next_of : List ℕ → Operand × List ℕ → Option (List Operand)
next_of turns operand = option_map (λ more. operand.0 ∷ more) (operands_in turns operand.1)

all_again : (turns : List ℕ) (xs : List Operand) → length xs ≤ length turns → OperandsFit xs → operands_in turns (spaced (operands xs)) ≡ Some xs
all_again [] [] l f = refl
all_again (turn ∷ turns) [] l f = refl
all_again [] (a ∷ xs) l f = absurd (omega (arith, l))
all_again (turn ∷ turns) (a ∷ xs) l f =
    then_again operand_reads (next_of turns) a (spaced (operands xs)) f.0 (breaks (operands xs))
    ∙ ap (λ o. option_map (λ more. a ∷ more) o) (all_again turns xs (omega (arith, l)) f.1)

words_long : (xs : List Operand) → length xs ≤ length (spaced (operands xs))
words_long [] = omega arith
words_long (a ∷ xs) = let h = words_long xs in let e = length-append (operand_text a) (spaced (operands xs)) in omega (arith, h, e)

pub operands_again : (xs : List Operand) → OperandsFit xs → operands_to_end (spaced (operands xs)) ≡ Some xs
unfolding operands_to_end
operands_again xs f = all_again (spaced (operands xs)) xs (words_long xs) f

abbrev AreOperands : List ℕ → List Operand → Type 0
AreOperands bytes xs = OperandsFit xs × (bytes ≡ spaced (operands xs))

abbrev no_operands : List Operand
no_operands = []

all_taken : (turns : List ℕ) (bytes : List ℕ) (xs : List Operand) → operands_in turns bytes ≡ Some xs → AreOperands bytes xs
all_taken [] [] xs e = let f : no_operands ≡ xs = some_is no_operands xs e in subst (AreOperands []) f (tt, refl)
all_taken [] (b ∷ bytes) xs e = absurd cc
all_taken (turn ∷ turns) [] xs e = let f : no_operands ≡ xs = some_is no_operands xs e in subst (AreOperands []) f (tt, refl)
all_taken (turn ∷ turns) (b ∷ bytes) xs e =
    then_taken operand_reads (λ bs. AreOperands bs xs) (next_of turns) (b ∷ bytes) xs e
    (λ a rest f h.
    let m = mapped_some (λ more. a ∷ more) (operands_in turns rest) xs h in
    let p = all_taken turns rest m.0 m.1 in
    subst (AreOperands (32 ∷ (operand_text a ++ rest))) m.2 ((f, p.0), ap (λ bs. 32 ∷ (operand_text a ++ bs)) p.1))

pub operands_taken : (P : List ℕ → Type 0) (bytes : List ℕ) (xs : List Operand) → operands_to_end bytes ≡ Some xs → (OperandsFit xs → P (spaced (operands xs))) → P bytes
unfolding operands_to_end
operands_taken P bytes xs e go = let p = all_taken bytes bytes xs e in subst P (sym p.1) (go p.0)
