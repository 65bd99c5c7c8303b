-- Pieces of which the first has begun.
use Rattle.std.proofs.Common.{◌≡◌, ℕ, List, [], ◌∷◌, ◌++◌, refl, ap}
use Rattle.px_job.specs.Lines.{with_byte}

-- bytes at the front of the first piece
abbrev pub with_front : List ℕ → List (List ℕ) → List (List ℕ)
with_front [] pieces = pieces
with_front (byte ∷ front) pieces = with_byte byte (with_front front pieces)

pub front_more : (front : List ℕ) (byte : ℕ) (pieces : List (List ℕ)) → with_front (front ++ byte ∷ []) pieces ≡ with_front front (with_byte byte pieces)
front_more [] byte pieces = refl
front_more (other ∷ front) byte pieces = ap (with_byte other) (front_more front byte pieces)

pub front_whole : (front : List ℕ) (pieces : List (List ℕ)) → with_front front ([] ∷ pieces) ≡ front ∷ pieces
front_whole [] pieces = refl
front_whole (byte ∷ front) pieces = ap (with_byte byte) (front_whole front pieces)

pub front_only : (byte : ℕ) (front : List ℕ) → with_front (byte ∷ front) [] ≡ (byte ∷ front) ∷ []
front_only byte [] = refl
front_only byte (other ∷ front) = ap (with_byte byte) (front_only other front)
