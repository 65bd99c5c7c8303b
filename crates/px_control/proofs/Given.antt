-- The first slots of a new frame get the arguments, one by one.
use Rattle.std.proofs.Common.{◌≡◌, ℕ, ◌+◌, ◌<◌, ◌≤◌, List, [], ◌∷◌, ◌++◌, length, map, drop, get_or, refl, sym, ap, ◌∙◌, append_assoc, arith}
use Rattle.std.proofs.lemmas.List.{drop_more, drop_all, append-nil}
use Rattle.px_value.specs.declared.value.Value.{Value}
use Rattle.px_normal.specs.declared.ty.Ty.{Ty}
use Rattle.px_normal.specs.First.{default_of}
use Rattle.px_blocks.specs.Machine.{Slot, just_written, unwritten, given}

abbrev pub blank_of : Ty → Slot
blank_of t = unwritten (default_of t)

-- slots of some types, as yet unwritten
abbrev pub blanks_of : List Ty → List Slot
blanks_of types = map unwritten (map default_of types)

blanks_more : (types : List Ty) (i : ℕ) (t : Ty) → i < length types → blanks_of (drop i types) ≡ blank_of (get_or types i t) ∷ blanks_of (drop (i + 1) types)
blanks_more types i t h = ap blanks_of (drop_more types i t h)

pub next_given : (slots : List Slot) (v : Value) (values rest : List Value) (types : List Ty) (i : ℕ) (t : Ty) (whole : List Slot) → i < length types → values ≡ v ∷ rest → slots ++ given values (blanks_of (drop i types)) ≡ whole → (slots ++ just_written v ∷ []) ++ given rest (blanks_of (drop (i + 1) types)) ≡ whole
next_given slots v values rest types i t whole h e is =
    append_assoc slots (just_written v ∷ []) (given rest (blanks_of (drop (i + 1) types)))
    ∙ sym (ap (λ (xs : List Slot). slots ++ given (v ∷ rest) xs) (blanks_more types i t h))
    ∙ sym (ap (λ (vs : List Value). slots ++ given vs (blanks_of (drop i types))) e)
    ∙ is

pub next_blank : (slots : List Slot) (values rest : List Value) (types : List Ty) (i : ℕ) (t : Ty) (whole : List Slot) → i < length types → values ≡ [] → rest ≡ [] → slots ++ given values (blanks_of (drop i types)) ≡ whole → (slots ++ blank_of (get_or types i t) ∷ []) ++ given rest (blanks_of (drop (i + 1) types)) ≡ whole
next_blank slots values rest types i t whole h e f is =
    ap (λ (vs : List Value). (slots ++ blank_of (get_or types i t) ∷ []) ++ given vs (blanks_of (drop (i + 1) types))) f
    ∙ append_assoc slots (blank_of (get_or types i t) ∷ []) (blanks_of (drop (i + 1) types))
    ∙ sym (ap (λ (xs : List Slot). slots ++ xs) (blanks_more types i t h))
    ∙ sym (ap (λ (vs : List Value). slots ++ given vs (blanks_of (drop i types))) e)
    ∙ is

pub none_is_left : {A : Type 0} (xs : List A) → length xs ≡ 0 → xs ≡ []
none_is_left [] h = refl
none_is_left (x ∷ xs) h = absurd (omega arith)

none_given : (values : List Value) → given values [] ≡ []
none_given [] = refl
none_given (v ∷ values) = refl

pub all_given : (slots : List Slot) (values : List Value) (types : List Ty) (i : ℕ) (whole : List Slot) → length types ≤ i → slots ++ given values (blanks_of (drop i types)) ≡ whole → slots ≡ whole
all_given slots values types i whole h is =
    sym (append-nil slots)
    ∙ sym (ap (λ (xs : List Slot). slots ++ xs) (none_given values))
    ∙ sym (ap (λ (ts : List Ty). slots ++ given values (blanks_of ts)) (drop_all i types h))
    ∙ is
