-- A text is cut into first pieces in one way.
use Rattle.std.proofs.Common.{◌≡◌, ℕ, zero, suc, ◌+◌, ◌<◌, ◌≤◌, ◌⊎◌, inl, inr, List, [], ◌∷◌, ◌++◌, length, take, drop, refl, sym, ap, subst, ◌∙◌, arith, length-drop}
use Rattle.std.proofs.lemmas.List.{take-append-drop}
use Rattle.px_lex.specs.declared.token.TokenKind.TheVariants.{Id, Key, Number, Str, Sign, Bad, End}
use Rattle.px_lex.specs.declared.token.Token.{Token as TokenData}
use Rattle.px_lex.specs.declared.piece.Piece.{Piece}
use Rattle.px_lex.specs.declared.piece.Piece.TheVariants.{Between, Token}
use Rattle.px_lex.specs.Pieces.{piece_of, size_of}
use Rattle.px_lex.specs.Cutting.{cut, lines_in, shown}
use Rattle.px_lex.specs.Lexical.{NoPiece, IsSpelled, IsLongest, IsFirstPiece, IsCut, ended, piece}
use Rattle.px_lex.proofs.Sizes.{piece_some}
use Rattle.px_lex.proofs.Cuts.{cut_more}
use Rattle.px_lex.proofs.FirstPieces.{first_piece}

-- a bad byte, or a separator or token
parted : (p : Piece) (bs : List ℕ) → IsFirstPiece p bs → ((p ≡ Token Bad 1) × NoPiece bs) ⊎ (IsSpelled p (take (size_of p) bs) (drop (size_of p) bs) × IsLongest p bs)
parted (Between n) bs h = inr h
parted (Token Id n) bs h = inr h
parted (Token Key n) bs h = inr h
parted (Token Number n) bs h = inr h
parted (Token Str n) bs h = inr h
parted (Token Sign n) bs h = inr h
parted (Token End n) bs h = inr h
parted (Token Bad n) bs h = inl (ap (Token Bad) h.0, h.1)

spelled_length : (p : Piece) (front rest : List ℕ) → IsSpelled p front rest → length front ≡ size_of p
spelled_length (Between n) front rest h = h.0
spelled_length (Token k n) front rest h = h.0

-- there is one first piece
only_piece : (p q : Piece) (bs : List ℕ) → IsFirstPiece p bs → IsFirstPiece q bs → p ≡ q
only_piece p q bs h k = at (parted p bs h) (parted q bs k)
  where
    split : (n : ℕ) → bs ≡ take n bs ++ drop n bs
    split n = sym (take-append-drop n bs)

    both : (p ≡ q) ⊎ (length (take (size_of q) bs) < size_of p) → (q ≡ p) ⊎ (length (take (size_of p) bs) < size_of q) → length (take (size_of p) bs) ≡ size_of p → length (take (size_of q) bs) ≡ size_of q → p ≡ q
    both (inl e) other l m = e
    both (inr e) (inl f) l m = sym f
    both (inr e) (inr f) l m = absurd (omega arith)

    at : ((p ≡ Token Bad 1) × NoPiece bs) ⊎ (IsSpelled p (take (size_of p) bs) (drop (size_of p) bs) × IsLongest p bs) → ((q ≡ Token Bad 1) × NoPiece bs) ⊎ (IsSpelled q (take (size_of q) bs) (drop (size_of q) bs) × IsLongest q bs) → p ≡ q
    at (inl e) (inl f) = e.0 ∙ sym f.0
    at (inl e) (inr f) = absurd (e.1 q (take (size_of q) bs) (drop (size_of q) bs) (split (size_of q)) f.0)
    at (inr e) (inl f) = absurd (f.1 p (take (size_of p) bs) (drop (size_of p) bs) (split (size_of p)) e.0)
    at (inr e) (inr f) =
        both (e.1 q (take (size_of q) bs) (drop (size_of q) bs) (split (size_of q)) f.0) (f.1 p (take (size_of p) bs) (drop (size_of p) bs) (split (size_of p)) e.0) (spelled_length p _ _ e.0) (spelled_length q _ _ f.0)

-- the text is cut so
pub cut_is : (n from line : ℕ) (bs : List ℕ) → length bs ≤ n → IsCut from line bs (cut n from line bs)
unfolding cut
cut_is n from line [] h = ended from line
cut_is zero from line (b ∷ bs) h = absurd (omega arith)
cut_is (suc n) from line (b ∷ bs) h =
    let p = piece_of (b ∷ bs) in
    let some = piece_some (b ∷ bs) (omega arith) in
    piece p from line (b ∷ bs) (cut n (from + size_of p) (line + lines_in (take (size_of p) (b ∷ bs))) (drop (size_of p) (b ∷ bs))) (omega arith) (first_piece (b ∷ bs) (omega arith))
    (cut_is n (from + size_of p) (line + lines_in (take (size_of p) (b ∷ bs))) (drop (size_of p) (b ∷ bs)) (omega (arith, length-drop (size_of p) (b ∷ bs))))

-- what a piece and the tokens behind it give
with_piece : ℕ → ℕ → ℕ → List ℕ → Piece → List TokenData
with_piece n from line bs p = shown p from line ++ cut n (from + size_of p) (line + lines_in (take (size_of p) bs)) (drop (size_of p) bs)

only_more : (n from line : ℕ) (bs : List ℕ) (p : Piece) (tokens : List TokenData) → 0 < length bs → p ≡ piece_of bs → tokens ≡ cut n (from + size_of p) (line + lines_in (take (size_of p) bs)) (drop (size_of p) bs) → shown p from line ++ tokens ≡ cut (suc n) from line bs
unfolding with_piece
only_more n from line bs p tokens some e more = ap (λ (ts : List TokenData). shown p from line ++ ts) more ∙ ap (with_piece n from line bs) e ∙ sym (cut_more n from line bs some)

-- and in no other way
pub only_cut : (n from line : ℕ) (bs : List ℕ) (tokens : List TokenData) → length bs ≤ n → IsCut from line bs tokens → tokens ≡ cut n from line bs
unfolding cut
only_cut n _ _ _ _ h (ended from line) = refl
only_cut zero _ _ _ _ h (piece p from line bs tokens some first more) = absurd (omega arith)
only_cut (suc n) _ _ _ _ h (piece p from line bs tokens some first more) =
    let e = only_piece p (piece_of bs) bs first (first_piece bs some) in
    let size : 0 < size_of p = subst (λ (x : Piece). 0 < size_of x) (sym e) (piece_some bs some) in
    only_more n from line bs p tokens some e (only_cut n _ _ (drop (size_of p) bs) tokens (omega (arith, length-drop (size_of p) bs)) more)
