-- The first word of a line.
use Rattle.std.proofs.Common.{◌≡◌, ℕ, ◌+◌, ◌<◌, ◌≤◌, true, false, List, [], ◌∷◌, length, take, drop, get_or, refl, ap, sym, ◌∙◌, arith}
use Rattle.std.proofs.lemmas.List.{take_more, drop_more, drop_all}
use Rattle.px_job.specs.Lines.{with_byte}
use Rattle.px_job.specs.Words.{place_after, is_between, ended, words_from, words_of}
use Rattle.px_job.specs.declared.words.Place.{Place}
use Rattle.px_job.specs.declared.words.Place.TheVariants.{Between, Plain, Quoted, Escaped}
use Rattle.px_job.proofs.Pieces.{with_front, front_more, front_whole}

-- a word that goes on here
pub goes_on_here : (place after : Place) (byte : ℕ) (bytes : List ℕ) → after ≡ place_after place byte → is_between after ≡ false → words_from place (byte ∷ bytes) ≡ with_byte byte (words_from after bytes)
goes_on_here place after byte bytes e f =
    let same : is_between (place_after place byte) ≡ false = ap is_between (sym e) ∙ f in
    rw same (ap (λ (p : Place). with_byte byte (words_from p bytes)) (sym e))

-- a word that has begun ends here
pub ends_here : (place : Place) (byte : ℕ) (bytes : List ℕ) → is_between (place_after place byte) ≡ true → words_from place (byte ∷ bytes) ≡ ended place (words_of (byte ∷ bytes))
ends_here Between byte bytes h = refl
ends_here Plain byte bytes h = grind (arith, h)
ends_here Quoted byte bytes h = grind (arith, h)
ends_here Escaped byte bytes h = cc

pub ended_begun : (place : Place) (words : List (List ℕ)) → is_between place ≡ false → ended place words ≡ [] ∷ words
ended_begun Between words h = cc
ended_begun Plain words h = refl
ended_begun Quoted words h = refl
ended_begun Escaped words h = refl

-- one byte more of the first word
pub word_on : (line : List ℕ) (len : ℕ) (place after : Place) → len < length line → after ≡ place_after place (get_or line len 0) → is_between after ≡ false → words_of line ≡ with_front (take len line) (words_from place (drop len line)) → words_of line ≡ with_front (take (len + 1) line) (words_from after (drop (len + 1) line))
word_on line len place after h e f i =
    let byte : ℕ = get_or line len 0 in
    let cut : drop len line ≡ byte ∷ drop (len + 1) line = drop_more line len 0 h in
    i ∙ ap (λ (rest : List ℕ). with_front (take len line) (words_from place rest)) cut
    ∙ ap (with_front (take len line)) (goes_on_here place after byte (drop (len + 1) line) e f)
    ∙ sym (front_more (take len line) byte (words_from after (drop (len + 1) line)))
    ∙ ap (λ (front : List ℕ). with_front front (words_from after (drop (len + 1) line))) (sym (take_more line len 0 h))

-- the end of the first word
pub word_ends : (line : List ℕ) (len : ℕ) (place : Place) → len < length line → is_between (place_after place (get_or line len 0)) ≡ true → is_between place ≡ false → words_of line ≡ with_front (take len line) (words_from place (drop len line)) → words_of line ≡ take len line ∷ words_of (drop len line)
word_ends line len place h e f i =
    let byte : ℕ = get_or line len 0 in
    let cut : drop len line ≡ byte ∷ drop (len + 1) line = drop_more line len 0 h in
    i ∙ ap (λ (rest : List ℕ). with_front (take len line) (words_from place rest)) cut
    ∙ ap (with_front (take len line)) (ends_here place byte (drop (len + 1) line) e ∙ ended_begun place _ f)
    ∙ front_whole (take len line) _
    ∙ ap (λ (rest : List ℕ). take len line ∷ words_of rest) (sym cut)

-- the end of the line
pub word_last : (line : List ℕ) (len : ℕ) (place : Place) → length line ≤ len → is_between place ≡ false → words_of line ≡ with_front (take len line) (words_from place (drop len line)) → words_of line ≡ take len line ∷ words_of (drop len line)
word_last line len place all f i =
    let none : drop len line ≡ [] = drop_all len line all in
    i ∙ ap (λ (r : List ℕ). with_front (take len line) (words_from place r)) none
    ∙ ap (with_front (take len line)) (ended_begun place [] f)
    ∙ front_whole (take len line) []
    ∙ ap (λ (r : List ℕ). take len line ∷ words_of r) (sym none)
