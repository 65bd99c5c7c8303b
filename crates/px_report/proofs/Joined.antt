-- The words of a line, one after the other.
use Rattle.std.proofs.Common.{◌≡◌, ℕ, List, [], ◌∷◌, ◌++◌, map, decimal, codes, sym, ap, append-nil}
use Rattle.std.specs.List.{flat_map, join_with_byte}
use Rattle.px_value.specs.declared.object.Object.{Object}
use Rattle.px_value.specs.declared.value.Value.{Value}
use Rattle.px_report.specs.Words.{value_text, kind_name}
use Rattle.px_report.specs.Lines.{object_line}
use Rattle.px_report.specs.Tables.{row_line}

words_joined : {X : Type 0} (word : X → List ℕ) (first : List ℕ) (xs : List X) → join_with_byte 32 (first ∷ map word xs) ≡ first ++ flat_map (λ x. 32 ∷ word x) xs
words_joined word first [] = sym (append-nil first)
words_joined word first (x ∷ xs) = ap (λ (rest : List ℕ). first ++ 32 ∷ rest) (words_joined word (word x) xs)

pub object_line_is : (classes : List (List ℕ)) (place : ℕ) (o : Object) → object_line classes place o ≡ (decimal place ++ 32 ∷ (kind_name classes o.header.kind ++ flat_map (λ cell. 32 ∷ value_text cell) o.cells)) ++ 10 ∷ []
object_line_is classes place o =
    ap (λ (rest : List ℕ). (decimal place ++ 32 ∷ rest) ++ 10 ∷ []) (words_joined value_text (kind_name classes o.header.kind) o.cells)

pub row_line_is : (row : List Value) → row_line row ≡ (codes "row" ++ flat_map (λ cell. 32 ∷ value_text cell) row) ++ 10 ∷ []
row_line_is row = ap (λ (words : List ℕ). words ++ 10 ∷ []) (words_joined value_text (codes "row") row)
