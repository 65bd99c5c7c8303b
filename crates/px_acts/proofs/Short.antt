-- Values, one after another, that are sent.
use Rattle.std.proofs.Common.{◌≡◌, ◌<◌, ◌≤◌, ◌+◌, ℕ, nat_le, Bool, true, false, ◌&&◌, List, [], ◌∷◌, refl, ap, ◌∙◌, arith}
use Rattle.std.specs.List.{fold, list_all}
use Rattle.std.proofs.lemmas.Bool.Decides.{nat_tests}
use Rattle.px_value.specs.declared.value.Value.{Value}
use Rattle.px_effects.specs.Operations.{is_short, text_size, max_texts}

-- the bytes of all texts, behind so many
abbrev pub sizes_from : ℕ → List Value → ℕ
sizes_from n values = fold (λ a v. a + text_size v) n values

-- values are short, behind so many bytes
abbrev pub short_from : ℕ → List Value → Bool
short_from n values = list_all is_short values && nat_le (sizes_from n values) max_texts

and-false : (b c : Bool) → c ≡ false → (b && c) ≡ false
and-false true c h = h
and-false false c h = refl

grows : (n : ℕ) (values : List Value) → n ≤ sizes_from n values
grows n [] = omega arith
grows n (v ∷ values) = let more = grows (n + text_size v) values in omega (arith, more)

pub too_much : (n : ℕ) (v : Value) (rest all : List Value) → all ≡ v ∷ rest → max_texts < n + text_size v → short_from n all ≡ false
too_much n v rest all e h =
    let more = grows (n + text_size v) rest in
    let far : max_texts < sizes_from n (v ∷ rest) = omega (arith, h, more) in
    ap (short_from n) e ∙ and-false (list_all is_short (v ∷ rest)) (nat_le (sizes_from n (v ∷ rest)) max_texts) (grind (arith, nat_tests, far))
