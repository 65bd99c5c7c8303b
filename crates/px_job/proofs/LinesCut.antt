-- The first line of a file.
use Rattle.std.proofs.Common.{◌≡◌, ℕ, ◌+◌, ◌-◌, ◌<◌, ◌≤◌, List, [], ◌∷◌, length, take, drop, get_or, ap, sym, ◌∙◌, arith}
use Rattle.std.proofs.lemmas.List.{take_more, drop_more, take_rest, take_all, drop_all, drop-drop}
use Rattle.px_job.specs.Lines.{end_len, lines_of, with_byte}
use Rattle.px_job.proofs.Pieces.{with_front, front_more, front_whole, front_only}

-- a line that ends here
pub ends_here : (bytes : List ℕ) → 0 < end_len bytes → lines_of bytes ≡ [] ∷ lines_of (drop (end_len bytes) bytes)
ends_here [] h = absurd (omega (arith, h))
ends_here (byte ∷ []) h = grind (arith, h)
ends_here (byte ∷ next ∷ bytes) h = grind (arith, h)

-- a line that goes on here
pub goes_on_here : (byte : ℕ) (bytes : List ℕ) → end_len (byte ∷ bytes) ≡ 0 → lines_of (byte ∷ bytes) ≡ with_byte byte (lines_of bytes)
goes_on_here byte bytes h = grind (arith, h)

-- one byte more of the first line
pub line_on : (bytes : List ℕ) (len end : ℕ) → len < length bytes → end ≡ end_len (take (length bytes - len) (drop len bytes)) → end ≡ 0 → lines_of bytes ≡ with_front (take len bytes) (lines_of (drop len bytes)) → lines_of bytes ≡ with_front (take (len + 1) bytes) (lines_of (drop (len + 1) bytes))
line_on bytes len end h e z i =
    let byte : ℕ = get_or bytes len 0 in
    let cut : drop len bytes ≡ byte ∷ drop (len + 1) bytes = drop_more bytes len 0 h in
    let on : end_len (byte ∷ drop (len + 1) bytes) ≡ 0 = ap end_len (sym (take_rest bytes len ∙ cut)) ∙ sym e ∙ z in
    i ∙ ap (λ (rest : List ℕ). with_front (take len bytes) (lines_of rest)) cut
    ∙ ap (with_front (take len bytes)) (goes_on_here byte (drop (len + 1) bytes) on)
    ∙ sym (front_more (take len bytes) byte (lines_of (drop (len + 1) bytes)))
    ∙ ap (λ (front : List ℕ). with_front front (lines_of (drop (len + 1) bytes))) (sym (take_more bytes len 0 h))

-- the end of the first line
pub line_ends : (bytes : List ℕ) (len end : ℕ) → end ≡ end_len (take (length bytes - len) (drop len bytes)) → 0 < end → lines_of bytes ≡ with_front (take len bytes) (lines_of (drop len bytes)) → lines_of bytes ≡ take len bytes ∷ lines_of (take (length bytes - (len + end)) (drop (len + end) bytes))
line_ends bytes len end e h i =
    let here : end ≡ end_len (drop len bytes) = e ∙ ap end_len (take_rest bytes len) in
    let rest : drop (end_len (drop len bytes)) (drop len bytes) ≡ take (length bytes - (len + end)) (drop (len + end) bytes) = ap (λ (n : ℕ). drop n (drop len bytes)) (sym here) ∙ drop-drop end len bytes ∙ sym (take_rest bytes (len + end)) in
    i ∙ ap (with_front (take len bytes)) (ends_here (drop len bytes) (omega (arith, here, h)))
    ∙ front_whole (take len bytes) _
    ∙ ap (λ (r : List ℕ). take len bytes ∷ lines_of r) rest

only_line : (bytes : List ℕ) → 0 < length bytes → with_front bytes [] ≡ bytes ∷ []
only_line [] h = absurd (omega (arith, h))
only_line (byte ∷ bytes) h = front_only byte bytes

-- the end of the file
pub line_last : (bytes : List ℕ) (len : ℕ) → 0 < length bytes → length bytes ≤ len → lines_of bytes ≡ with_front (take len bytes) (lines_of (drop len bytes)) → lines_of bytes ≡ bytes ∷ []
line_last bytes len h all i =
    i ∙ ap (λ (front : List ℕ). with_front front (lines_of (drop len bytes))) (take_all len bytes all)
    ∙ ap (λ (rest : List ℕ). with_front bytes (lines_of rest)) (drop_all len bytes all)
    ∙ only_line bytes h
