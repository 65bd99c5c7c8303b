-- What is summed up for the list of each node.
use Rattle.std.proofs.Common.{◌≡◌, ◌≤◌, ◌<◌, ℕ, zero, suc, List, [], ◌∷◌, length, take, map, Some, slice_get, slice_index_or, refl, sym, ap, ◌∙◌, arith}
use Rattle.std.proofs.lemmas.Option.{same_Some}
use Rattle.px_code.specs.declared.side.Side.{Side}
use Rattle.px_code.specs.Places.{numbered}
use Rattle.px_graph.specs.declared.edge.Edge.{Edge}
use Rattle.px_graph.specs.Costs.{cost_of, whole}
use Rattle.px_choose.specs.Gains.{edges_at}
use Rattle.px_choose.specs.Kept.{AreLists, AreWholes, AreCuts}
use Rattle.px_choose.proofs.Laws.{whole_at_le}
use Rattle.px_choose.proofs.Numbered.{get_in}

index_get : {A : Type 0} (xs : List A) (k : ℕ) (d x : A) → slice_get xs k ≡ Some x → slice_index_or xs k d ≡ x
index_get [] k d x h = cc
index_get (y ∷ xs) zero d x h = same_Some y x h
index_get (y ∷ xs) (suc k) d x h = index_get xs k d x h

pub list_whole : (E : List Edge) (size : ℕ) (lists : List (List Edge)) (k : ℕ) → AreLists E size lists → k < length lists → whole (slice_index_or lists k []) ≤ whole E
list_whole E size lists k A h =
    let t = get_in lists k h in
    let same : slice_index_or lists k [] ≡ edges_at (suc k) E = index_get lists k [] t.0 t.1 ∙ A.each (suc k) t.0 t.1 in
    let a = whole_at_le (suc k) E in
    let b : whole (slice_index_or lists k []) ≡ whole (edges_at (suc k) E) = ap whole same in
    omega (arith, a, b)

index_any : {A : Type 0} (xs : List A) (k : ℕ) (d e : A) → k < length xs → slice_index_or xs k d ≡ slice_index_or xs k e
index_any [] k d e h = absurd (omega arith)
index_any (y ∷ xs) zero d e h = refl
index_any (y ∷ xs) (suc k) d e h = index_any xs k d e (omega (arith, h))

pub list_whole_at : (E : List Edge) (size : ℕ) (lists : List (List Edge)) (k : ℕ) (xs : List Edge) → AreLists E size lists → k < length lists → xs ≡ slice_index_or lists k xs → whole xs ≤ whole E
list_whole_at E size lists k xs A h e =
    let same : whole xs ≡ whole (slice_index_or lists k []) = ap whole (e ∙ index_any lists k xs [] h) in
    let a = list_whole E size lists k A h in
    omega (arith, same, a)

take_all : {A : Type 0} (xs : List A) (k : ℕ) → length xs ≤ k → take k xs ≡ xs
take_all [] zero h = refl
take_all [] (suc k) h = refl
take_all (x ∷ xs) zero h = absurd (omega arith)
take_all (x ∷ xs) (suc k) h = ap (λ ys. x ∷ ys) (take_all xs k (omega (arith, h)))

map_length : {A : Type 0} (f : A → ℕ) (xs : List A) → length (map f xs) ≡ length xs
map_length f [] = refl
map_length f (x ∷ xs) = ap suc (map_length f xs)

map_get : {A : Type 0} (f : A → ℕ) (xs : List A) (i w : ℕ) → slice_get (map f xs) i ≡ Some w → (x : A) × (slice_get xs i ≡ Some x) × (w ≡ f x)
map_get f [] i w h = cc
map_get f (x ∷ xs) zero w h = (x, refl, sym (same_Some (f x) w h))
map_get f (x ∷ xs) (suc i) w h = map_get f xs i w h

map_number : {A : Type 0} (f : A → ℕ) (xs : List A) (n w : ℕ) → numbered (map f xs) n ≡ Some w → (x : A) × (numbered xs n ≡ Some x) × (w ≡ f x)
map_number f xs zero w h = cc
map_number f xs (suc n) w h = map_get f xs n w h

pub wholes_end : (E : List Edge) (lists : List (List Edge)) (k : ℕ) (sums : List ℕ) → AreLists E (length lists) lists → length lists ≤ k → sums ≡ map whole (take k lists) → AreWholes E (length lists) sums
wholes_end E lists k sums A h e =
    let same : sums ≡ map whole lists = e ∙ ap (λ (r : List (List Edge)). map whole r) (take_all lists k h) in
    record {
      length = ap (λ (r : List ℕ). length r) same ∙ map_length whole lists;
      each = λ n w t.
          let x = map_number whole lists n w (ap (λ (r : List ℕ). numbered r n) (sym same) ∙ t) in
          x.2 ∙ ap whole (A.each n x.0 x.1);
    }

pub cuts_end : (E : List Edge) (p : List Side) (lists : List (List Edge)) (k : ℕ) (sums : List ℕ) → AreLists E (length lists) lists → length lists ≤ k → sums ≡ map (λ es. cost_of es p) (take k lists) → AreCuts E (length lists) p sums
cuts_end E p lists k sums A h e =
    let same : sums ≡ map (λ es. cost_of es p) lists = e ∙ ap (λ (r : List (List Edge)). map (λ es. cost_of es p) r) (take_all lists k h) in
    record {
      length = ap (λ (r : List ℕ). length r) same ∙ map_length (λ es. cost_of es p) lists;
      each = λ n w t.
          let x = map_number (λ (es : List Edge). cost_of es p) lists n w (ap (λ (r : List ℕ). numbered r n) (sym same) ∙ t) in
          x.2 ∙ ap (λ (es : List Edge). cost_of es p) (A.each n x.0 x.1);
    }
