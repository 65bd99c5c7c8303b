-- The edges of a turned node are gone through.
use Rattle.std.proofs.Common.{◌≡◌, ◌≤◌, ◌<◌, ℕ, ◌+◌, ◌^◌, Bool, true, false, List, [], ◌∷◌, length, drop, Option, Some, unwrap_or, slice_index_or, if◌then◌else◌, sym, ap, ◌∙◌, subst, arith, add-one}
use Rattle.std.proofs.Math.Seq.{drop-cons}
use Rattle.px_code.specs.declared.side.Side.{Side}
use Rattle.px_code.specs.Places.{numbered, side_of, same_side}
use Rattle.px_graph.specs.declared.edge.EdgeKind.TheVariants.{Control}
use Rattle.px_graph.specs.declared.edge.Edge.{Edge}
use Rattle.px_graph.specs.Costs.{side_of_end, edge_cost, whole}
use Rattle.px_graph.specs.declared.edge.End.TheVariants as end
use Rattle.px_choose.specs.Gains.{far_end, edges_at, turned, passed}
use Rattle.px_choose.specs.Kept.{AreLists, AreCuts}
use Rattle.px_choose.proofs.Numbered.{number_in}
use Rattle.px_choose.proofs.Turning.{turned_flip}
use Rattle.px_choose.proofs.Passing.{Passing, passing_start, room, both_parts, passing_step, passed_other, far_here, this_touches, passed_length}

abbrev pub no_edge : Edge
no_edge = record { kind = Control; from = end.App; to = 0; weight = 0 }

pub spread_init : (E : List Edge) (n : ℕ) (p : List Side) (lists : List (List Edge)) (cuts : List ℕ) (xs : List Edge) → 0 < n → n ≤ length p → AreLists E (length p) lists → AreCuts E (length p) p cuts → xs ≡ unwrap_or (numbered lists n) [] → Passing E n p (turned n p) xs cuts
spread_init E n p lists cuts xs up low A C e =
    let size = A.length in
    let t = number_in lists n up (omega (arith, low, size)) in
    let same : xs ≡ edges_at n E = e ∙ ap (λ (o : Option (List Edge)). unwrap_or o []) t.1 ∙ A.each n t.0 t.1 in
    subst (λ (ys : List Edge). Passing E n p (turned n p) ys cuts) (sym same) (passing_start E n (length p) p (turned n p) cuts (turned_flip n p up low) C)

next_is : (xs : List Edge) (k : ℕ) → k < length xs → drop k xs ≡ slice_index_or xs k no_edge ∷ drop (k + 1) xs
next_is xs k h = drop-cons xs k no_edge h ∙ ap (λ j. slice_index_or xs k no_edge ∷ drop j xs) (sym (add-one k))

module _ (E : List Edge) (n : ℕ) (p : List Side) (xs : List Edge) (cuts : List ℕ) (k : ℕ) (up : 0 < n) (low : n ≤ length p) (P : Passing E n p (turned n p) (drop k xs) cuts) (h : k < length xs) where
  now : Passing E n p (turned n p) (slice_index_or xs k no_edge ∷ drop (k + 1) xs) cuts
  now = subst (λ (ys : List Edge). Passing E n p (turned n p) ys cuts) (next_is xs k h) P

  pub room_more : whole E < 2 ^ 127 → (c : ℕ) → numbered cuts (far_end n (slice_index_or xs k no_edge)) ≡ Some c → same_side (side_of_end p (slice_index_or xs k no_edge).from) (side_of p (slice_index_or xs k no_edge).to) ≡ true → c + (slice_index_or xs k no_edge).weight < 2 ^ 128
  room_more w c at same =
      let r = room E n p (turned n p) (turned_flip n p up low) (slice_index_or xs k no_edge) (drop (k + 1) xs) cuts now c at in
      let r1 = r.1 in
      let b = both_parts E n p (turned n p) (turned_flip n p up low) (slice_index_or xs k no_edge) (drop (k + 1) xs) cuts now in
      let z : edge_cost p (slice_index_or xs k no_edge) ≡ 0 = ap (λ (x : Bool). if x then 0 else (slice_index_or xs k no_edge).weight) same in
      omega (arith, r1, b, z, w)

  pub room_less : (c : ℕ) → numbered cuts (far_end n (slice_index_or xs k no_edge)) ≡ Some c → same_side (side_of_end p (slice_index_or xs k no_edge).from) (side_of p (slice_index_or xs k no_edge).to) ≡ false → (slice_index_or xs k no_edge).weight ≤ c
  room_less c at same =
      let r = room E n p (turned n p) (turned_flip n p up low) (slice_index_or xs k no_edge) (drop (k + 1) xs) cuts now c at in
      let r0 = r.0 in
      let z : edge_cost p (slice_index_or xs k no_edge) ≡ (slice_index_or xs k no_edge).weight = ap (λ (x : Bool). if x then 0 else (slice_index_or xs k no_edge).weight) same in
      omega (arith, r0, z)

  pub spread_step : Passing E n p (turned n p) (drop (k + 1) xs) (passed p n (slice_index_or xs k no_edge) cuts)
  spread_step = passing_step E n p (turned n p) (turned_flip n p up low) (slice_index_or xs k no_edge) (drop (k + 1) xs) cuts now

  pub spread_size : length (passed p n (slice_index_or xs k no_edge) cuts) ≡ length cuts
  spread_size = passed_length p n (slice_index_or xs k no_edge) cuts

  pub spread_here : numbered (passed p n (slice_index_or xs k no_edge) cuts) n ≡ numbered cuts n
  spread_here = passed_other E n p (turned n p) (turned_flip n p up low) (slice_index_or xs k no_edge) (drop (k + 1) xs) cuts now n (far_here n (slice_index_or xs k no_edge) (this_touches E n p (turned n p) (turned_flip n p up low) (slice_index_or xs k no_edge) (drop (k + 1) xs) cuts now))
