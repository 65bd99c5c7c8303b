-- The test of a flip, and the flip, with the present sums.
use Rattle.std.proofs.Common.{◌≡◌, ◌≤◌, ℕ, ◌+◌, ◌-◌, nat_eq, nat_lt, nat_le, Bool, true, false, List, length, Option, Some, unwrap_or, refl, sym, ap, ◌∙◌, subst, ⊎_elim, arith}
use Rattle.std.proofs.lemmas.Bool.{eqb-true, eqb-false, lt-ltb, le-ltb, ltb-true, ltb-false}
use Rattle.std.proofs.lemmas.Option.{same_Some}
use Rattle.px_code.specs.declared.side.Side.{Side}
use Rattle.px_code.specs.Places.{other, numbered, side_of}
use Rattle.px_graph.specs.declared.graph.Graph.{Graph}
use Rattle.px_graph.specs.Costs.{cost_of, cost, whole}
use Rattle.px_choose.specs.declared.links.Links.{Links}
use Rattle.px_choose.specs.declared.state.State.{State}
use Rattle.px_choose.specs.Placements.{is_free, set_number, flipped, Pins}
use Rattle.px_choose.specs.Sums.{free_load}
use Rattle.px_choose.specs.Gains.{edges_at, turned}
use Rattle.px_choose.specs.Choices.{fits, is_better}
use Rattle.px_choose.specs.Kept.{IsLinked, IsKept}
use Rattle.px_choose.proofs.Numbered.{number_length, number_other, number_here, number_in}
use Rattle.px_choose.proofs.Laws.{IsFlip, flip_cost, flip_whole, cost_at_le}
use Rattle.px_choose.proofs.Turning.{free_above, free_below, turned_flip, flipped_free, flipped_fixed}
use Rattle.px_choose.proofs.Both.{and_true, and_false}

lt_by : (a b c d : ℕ) (x : Bool) → nat_lt a b ≡ x → a + d ≡ b + c → nat_lt c d ≡ x
lt_by a b c d true h e = let l = ltb-true a b h in lt-ltb c d (omega (arith, l, e))
lt_by a b c d false h e = let l = ltb-false a b h in le-ltb c d (omega (arith, l, e))

lt_same : (a b c d : ℕ) → a + d ≡ b + c → nat_lt a b ≡ nat_lt c d
lt_same a b c d e = sym (lt_by a b c d (nat_lt a b) refl e)

module _ (G : Graph) (pins : Pins) (L : Links) (S : State) (n : ℕ) (K : IsKept G pins S) (N : IsLinked G pins L) (free : is_free pins n ≡ true) where
  low : n ≤ length S.sides.items
  low = let a = free_below pins n free in let b = K.size in omega (arith, a, b)

  pub is_low : n ≤ length S.sides.items
  is_low = low

  flip_here : IsFlip n S.sides.items (turned n S.sides.items)
  flip_here = turned_flip n S.sides.items (free_above pins n free) low

  pub own_cut : (c : ℕ) → c ≡ unwrap_or (numbered S.cuts.items n) 0 → c ≡ cost_of (edges_at n G.edges) S.sides.items
  own_cut c e =
      let size = K.cuts.length in
      let a = free_below pins n free in
      let t = number_in S.cuts.items n (free_above pins n free) (omega (arith, size, a)) in
      e ∙ ap (λ (o : Option ℕ). unwrap_or o 0) t.1 ∙ K.cuts.each n t.0 t.1

  pub own_whole : (w : ℕ) → w ≡ unwrap_or (numbered L.wholes.items n) 0 → w ≡ whole (edges_at n G.edges)
  own_whole w e =
      let size = N.wholes.length in
      let a = free_below pins n free in
      let t = number_in L.wholes.items n (free_above pins n free) (omega (arith, size, a)) in
      e ∙ ap (λ (o : Option ℕ). unwrap_or o 0) t.1 ∙ N.wholes.each n t.0 t.1

  module _ (w c : ℕ) (wis : w ≡ unwrap_or (numbered L.wholes.items n) 0) (cis : c ≡ unwrap_or (numbered S.cuts.items n) 0) where
    -- what its edges cost after the flip
    pub cut_after : cost_of (edges_at n G.edges) (turned n S.sides.items) + c ≡ w
    cut_after =
        let a = own_cut c cis in
        let b = own_whole w wis in
        let x = flip_whole n S.sides.items (turned n S.sides.items) flip_here G.edges in
        omega (arith, a, b, x)

    pub cost_after : cost G (flipped pins n S.sides.items) + c ≡ cost G S.sides.items + (w - c)
    cost_after =
        let a = own_cut c cis in
        let b = cut_after in
        let x = flip_cost n S.sides.items (turned n S.sides.items) flip_here G.edges in
        let y : cost G (flipped pins n S.sides.items) ≡ cost G (turned n S.sides.items) = ap (λ (r : List Side). cost G r) (flipped_free pins n S.sides.items free) in
        omega (arith, a, b, x, y)

    pub cut_le_cost : c ≤ cost G S.sides.items
    cut_le_cost = let a = own_cut c cis in let b = cost_at_le n G.edges S.sides.items in omega (arith, a, b)

    cheaper : nat_lt (cost G (flipped pins n S.sides.items)) (cost G S.sides.items) ≡ nat_lt (w - c) c
    cheaper = lt_same (cost G (flipped pins n S.sides.items)) (cost G S.sides.items) (w - c) c cost_after

    pub better_then : (B l : ℕ) → nat_lt (w - c) c ≡ true → l ≡ free_load G pins (flipped pins n S.sides.items) → nat_le l B ≡ is_better G B pins S.sides.items (flipped pins n S.sides.items)
    better_then B l h e = ap (λ j. nat_le j B) e ∙ and_true (fits G B pins (flipped pins n S.sides.items)) (nat_lt (cost G (flipped pins n S.sides.items)) (cost G S.sides.items)) (cheaper ∙ h)

    pub better_else : (B : ℕ) → nat_lt (w - c) c ≡ false → nat_lt (w - c) c ≡ is_better G B pins S.sides.items (flipped pins n S.sides.items)
    better_else B h = h ∙ and_false (fits G B pins (flipped pins n S.sides.items)) (nat_lt (cost G (flipped pins n S.sides.items)) (cost G S.sides.items)) (cheaper ∙ h)

pub better_fixed : (G : Graph) (B : ℕ) (pins : Pins) (p : List Side) (n : ℕ) → is_free pins n ≡ false → false ≡ is_better G B pins p (flipped pins n p)
better_fixed G B pins p n h =
    let same = flipped_fixed pins n p h in
    let e : nat_lt (cost G (flipped pins n p)) (cost G p) ≡ false = ap (λ (r : List Side). nat_lt (cost G r) (cost G p)) same ∙ le-ltb (cost G p) (cost G p) (omega arith) in
    and_false (fits G B pins (flipped pins n p)) (nat_lt (cost G (flipped pins n p)) (cost G p)) e

-- ---- the flip

module _ (G : Graph) (pins : Pins) (L : Links) (S T : State) (n : ℕ) (K : IsKept G pins S) (N : IsLinked G pins L) (free : is_free pins n ≡ true) (cuts : List ℕ) (w c : ℕ) where
  pub turn_kept : length cuts ≡ length S.cuts.items → numbered cuts n ≡ numbered S.cuts.items n → ((m d : ℕ) → nat_eq m n ≡ false → numbered cuts m ≡ Some d → d ≡ cost_of (edges_at m G.edges) (turned n S.sides.items)) → c ≡ unwrap_or (numbered cuts n) 0 → w ≡ unwrap_or (numbered L.wholes.items n) 0 → T.sides.items ≡ turned n S.sides.items → T.cuts.items ≡ set_number cuts n (w - c) → T.load ≡ free_load G pins (flipped pins n S.sides.items) → T.cost ≡ S.cost - c + (w - c) → IsKept G pins T
  turn_kept size here near cis wis sides sums load cost_is =
      let cis' : c ≡ unwrap_or (numbered S.cuts.items n) 0 = cis ∙ ap (λ (o : Option ℕ). unwrap_or o 0) here in
      let flips : T.sides.items ≡ flipped pins n S.sides.items = sides ∙ sym (flipped_free pins n S.sides.items free) in
      let x = cut_after G pins L S n K N free w c wis cis' in
      let y = cost_after G pins L S n K N free w c wis cis' in
      let z = cut_le_cost G pins L S n K N free w c wis cis' in
      let k = K.cost in
      record {
        size = ap (λ (r : List Side). length r) sides ∙ number_length S.sides.items n (other (side_of S.sides.items n)) ∙ K.size;
        cuts = record {
          length = ap (λ (r : List ℕ). length r) sums ∙ number_length cuts n (w - c) ∙ size ∙ K.cuts.length;
          each = λ m d h. subst (λ (r : List Side). d ≡ cost_of (edges_at m G.edges) r) (sym sides) (each_by m d (nat_eq m n) refl x (ap (λ (r : List ℕ). numbered r m) (sym sums) ∙ h));
        };
        load = load ∙ ap (λ (r : List Side). free_load G pins r) (sym flips);
        cost = cost_is ∙ (let e : S.cost - c + (w - c) ≡ cost G (flipped pins n S.sides.items) = omega (arith, y, z, k) in e) ∙ ap (λ (r : List Side). cost G r) (sym flips);
      }
    where
      each_by : (m d : ℕ) (b : Bool) → nat_eq m n ≡ b → cost_of (edges_at n G.edges) (turned n S.sides.items) + c ≡ w → numbered (set_number cuts n (w - c)) m ≡ Some d → d ≡ cost_of (edges_at m G.edges) (turned n S.sides.items)
      each_by m d false e x h = ⊎_elim
          (λ (t : m ≡ n). absurd (eqb-false m n e t))
          (λ (t : numbered (set_number cuts n (w - c)) m ≡ numbered cuts m). near m d e (sym t ∙ h))
          (number_other cuts n m (w - c))
      each_by m d true e x h =
          let same : m ≡ n = eqb-true m n e in
          let a = free_above pins n free in
          let b = free_below pins n free in
          let s = K.cuts.length in
          let t = number_in cuts n a (omega (arith, b, s, size)) in
          let v = number_here cuts n (w - c) t.0 t.1 in
          let h' : numbered (set_number cuts n (w - c)) n ≡ Some d = ap (λ j. numbered (set_number cuts n (w - c)) j) (sym same) ∙ h in
          let u : w - c ≡ d = same_Some (w - c) d (sym v ∙ h') in
          let r : d ≡ cost_of (edges_at n G.edges) (turned n S.sides.items) = omega (arith, u, x) in
          r ∙ ap (λ j. cost_of (edges_at j G.edges) (turned n S.sides.items)) (sym same)
