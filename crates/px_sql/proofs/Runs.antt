-- The pieces of a text that begins with a piece.
use Rattle.std.proofs.Common.{◌≡◌, ℕ, Bool, true, false, not, ◌&&◌, List, [], ◌∷◌, ◌++◌, take, drop, suc, zero, refl, ap, sym, ◌∙◌, arith}
use Rattle.std.specs.List.{list_all}
use Rattle.std.proofs.lemmas.Bool.{false≢true}
use Rattle.std.proofs.lemmas.List.{take-append-drop}
use Rattle.px_sql.specs.Spelling.{is_space, is_part, is_run, is_piece}
use Rattle.px_sql.specs.Reading.{begins_with_part, with_byte, pieces_of}
use Rattle.px_sql.proofs.Truths.{and_first, and_second, or_false}

pub part_no_space : (byte : ℕ) → is_part byte ≡ true → is_space byte ≡ false
part_no_space byte h = grind (arith, h)

pub space_no_part : (byte : ℕ) → is_space byte ≡ true → is_part byte ≡ false
space_no_part byte h = grind (arith, h)

-- a byte that is a piece alone
pub alone : (byte : ℕ) (rest : List ℕ) → is_space byte ≡ false → (is_part byte && begins_with_part rest) ≡ false → pieces_of (byte ∷ rest) ≡ (byte ∷ []) ∷ pieces_of rest
alone byte rest s p = rw (s, p) refl

-- a byte in front of a run
pub in_front : (byte : ℕ) (rest : List ℕ) → is_part byte ≡ true → begins_with_part rest ≡ true → pieces_of (byte ∷ rest) ≡ with_byte byte (pieces_of rest)
in_front byte rest p q =
    let s : is_space byte ≡ false = part_no_space byte p in
    rw (s, p, q) refl

pub run_on : (byte : ℕ) (run rest : List ℕ) → is_part byte ≡ true → list_all is_part run ≡ true → begins_with_part rest ≡ false → pieces_of (byte ∷ (run ++ rest)) ≡ (byte ∷ run) ∷ pieces_of rest
run_on byte [] rest p h e = alone byte rest (part_no_space byte p) (rw (p, e) refl)
run_on byte (next ∷ run) rest p h e =
    let q : is_part next ≡ true = and_first (is_part next) (list_all is_part run) h in
    in_front byte (next ∷ (run ++ rest)) p q ∙ ap (with_byte byte) (run_on next run rest q (and_second (is_part next) (list_all is_part run) h) e)

-- a text cut behind its first run
pub run_cut : (text : List ℕ) (n : ℕ) → begins_with_part text ≡ true → list_all is_part (take n text) ≡ true → begins_with_part (drop n text) ≡ false → pieces_of text ≡ take n text ∷ pieces_of (drop n text)
run_cut [] n b h e = absurd (false≢true b)
run_cut (byte ∷ bytes) zero b h e = absurd (false≢true (sym e ∙ b))
run_cut (byte ∷ bytes) (suc n) b h e =
    ap (λ (bs : List ℕ). pieces_of (byte ∷ bs)) (sym (take-append-drop n bytes)) ∙ run_on byte (take n bytes) (drop n bytes) b (and_second (is_part byte) (list_all is_part (take n bytes)) h) e

pub piece_by : (runs : Bool) (piece rest : List ℕ) → is_run piece ≡ runs → is_piece piece ≡ true → (is_run piece ≡ true → begins_with_part rest ≡ false) → pieces_of (piece ++ rest) ≡ piece ∷ pieces_of rest
piece_by runs [] rest r h e = absurd (false≢true h)
piece_by true (byte ∷ bytes) rest r h e = run_on byte bytes rest (and_first (is_part byte) (list_all is_part bytes) r) (and_second (is_part byte) (list_all is_part bytes) r) (e r)
piece_by false (byte ∷ []) rest r h e =
    let single : (not (is_part byte) && not (is_space byte)) ≡ true = grind (arith, r, h) in
    let p : is_part byte ≡ false = grind (arith, single) in
    let s : is_space byte ≡ false = grind (arith, single) in
    alone byte rest s (rw p refl)
piece_by false (byte ∷ next ∷ bytes) rest r h e = absurd (false≢true (sym r ∙ or_false (is_run (byte ∷ next ∷ bytes)) h))

pub piece_on : (piece rest : List ℕ) → is_piece piece ≡ true → (is_run piece ≡ true → begins_with_part rest ≡ false) → pieces_of (piece ++ rest) ≡ piece ∷ pieces_of rest
piece_on piece rest h e = piece_by (is_run piece) piece rest refl h e
