-- A flip and the present sums of the other nodes: the edges of the node, one by one.
use Rattle.std.proofs.Common.{◌≡◌, ◌≤◌, ℕ, ◌+◌, ◌-◌, nat_eq, Bool, true, false, List, [], ◌∷◌, length, Option, Some, None, if◌then◌else◌, ◌&&◌, refl, sym, ap, ◌∙◌, subst, ⊎_elim, arith}
use Rattle.std.proofs.lemmas.Bool.{eqb-true, eqb-false, eq-eqb}
use Rattle.std.proofs.lemmas.Option.{same_Some}
use Rattle.px_code.specs.declared.side.Side.{Side}
use Rattle.px_code.specs.Places.{numbered, side_of, same_side}
use Rattle.px_graph.specs.declared.edge.Edge.{Edge}
use Rattle.px_graph.specs.Costs.{side_of_end, edge_cost, cost_of, whole}
use Rattle.px_graph.proofs.Sums.{cost_le}
use Rattle.px_choose.specs.Placements.{set_number}
use Rattle.px_choose.specs.Gains.{number_of, differ, touches, far_end, edges_at, passed_to, passed}
use Rattle.px_choose.specs.Kept.{AreCuts}
use Rattle.px_choose.proofs.Numbered.{number_length, number_other, number_here}
use Rattle.px_choose.proofs.Both.{both_true, ne_eqb}
use Rattle.px_choose.proofs.Laws.{IsFlip, part_on, flip_cost, cost_at_le, whole_at_le, at_twice}

abbrev pub all_touch : ℕ → List Edge → Bool
all_touch n [] = true
all_touch n (e ∷ es) = touches n e && all_touch n es

at_touch : (n : ℕ) (es : List Edge) → all_touch n (edges_at n es) ≡ true
at_touch n [] = refl
at_touch n (e ∷ es) = by (touches n e) refl (at_touch n es)
  where
    by : (b : Bool) → touches n e ≡ b → all_touch n (edges_at n es) ≡ true → all_touch n (if b then e ∷ edges_at n es else edges_at n es) ≡ true
    by true t h = ap (λ (x : Bool). x && all_touch n (edges_at n es)) t ∙ h
    by false t h = h

not_same : (a b : ℕ) → nat_eq a b ≡ false → nat_eq b a ≡ false
not_same a b h = ne_eqb b a (λ e. eqb-false a b h (sym e))

differ_false : (x : Bool) → differ x false ≡ x
differ_false true = refl
differ_false false = refl

far_by : (n m : ℕ) (e : Edge) (a b : Bool) → nat_eq (number_of e.from) n ≡ a → nat_eq e.to n ≡ b → differ a b ≡ true → nat_eq m n ≡ false → touches m e ≡ nat_eq (if b then number_of e.from else e.to) m
far_by n m e true true f t h d = cc
far_by n m e false false f t h d = cc
far_by n m e true false f t h d =
    let same : number_of e.from ≡ n = eqb-true (number_of e.from) n f in
    let x : nat_eq (number_of e.from) m ≡ false = ap (λ j. nat_eq j m) same ∙ not_same m n d in
    ap (λ (y : Bool). differ y (nat_eq e.to m)) x
far_by n m e false true f t h d =
    let same : e.to ≡ n = eqb-true e.to n t in
    let x : nat_eq e.to m ≡ false = ap (λ j. nat_eq j m) same ∙ not_same m n d in
    ap (λ (y : Bool). differ (nat_eq (number_of e.from) m) y) x ∙ differ_false (nat_eq (number_of e.from) m)

-- an edge at the node is at another one exactly where that is its far end
touch_far : (n m : ℕ) (e : Edge) → touches n e ≡ true → nat_eq m n ≡ false → touches m e ≡ nat_eq (far_end n e) m
touch_far n m e t d = far_by n m e (nat_eq (number_of e.from) n) (nat_eq e.to n) refl refl t d

pub far_here : (n : ℕ) (e : Edge) → touches n e ≡ true → nat_eq (far_end n e) n ≡ false
far_here n e t = by (nat_eq (number_of e.from) n) (nat_eq e.to n) refl refl t
  where
    by : (a b : Bool) → nat_eq (number_of e.from) n ≡ a → nat_eq e.to n ≡ b → differ a b ≡ true → nat_eq (if b then number_of e.from else e.to) n ≡ false
    by true true f t h = cc
    by false false f t h = cc
    by true false f t h = t
    by false true f t h = f

-- what stands while the edges of the turned node are gone through: `rest` are those that are left
pub record Passing (E : List Edge) (n : ℕ) (p q : List Side) (rest : List Edge) (cuts : List ℕ) : Type 0 where
  pub touch : all_touch n rest ≡ true
  pub held : (m c : ℕ) → nat_eq m n ≡ false → numbered cuts m ≡ Some c → c + cost_of (edges_at m rest) q ≡ cost_of (edges_at m E) q + cost_of (edges_at m rest) p
  pub below : (m : ℕ) → cost_of (edges_at m rest) q ≤ cost_of (edges_at m E) q
  pub light : whole rest ≤ whole E

pub passing_start : (E : List Edge) (n size : ℕ) (p q : List Side) (cuts : List ℕ) → IsFlip n p q → AreCuts E size p cuts → Passing E n p q (edges_at n E) cuts
passing_start E n size p q cuts F A = record {
  touch = at_touch n E;
  held = λ m c d h.
      let x = A.each m c h in
      let y = flip_cost n p q F (edges_at m E) in
      let t = at_twice m n E in
      let a : cost_of (edges_at m (edges_at n E)) p ≡ cost_of (edges_at n (edges_at m E)) p = ap (λ (es : List Edge). cost_of es p) t in
      let b : cost_of (edges_at m (edges_at n E)) q ≡ cost_of (edges_at n (edges_at m E)) q = ap (λ (es : List Edge). cost_of es q) t in
      omega (arith, x, y, a, b);
  below = λ m.
      let t : cost_of (edges_at m (edges_at n E)) q ≡ cost_of (edges_at n (edges_at m E)) q = ap (λ (es : List Edge). cost_of es q) (at_twice m n E) in
      let a = cost_at_le n (edges_at m E) q in
      omega (arith, t, a);
  light = whole_at_le n E;
}

pub passing_end : (E : List Edge) (n : ℕ) (p q : List Side) (cuts : List ℕ) → Passing E n p q [] cuts → (m c : ℕ) → nat_eq m n ≡ false → numbered cuts m ≡ Some c → c ≡ cost_of (edges_at m E) q
passing_end E n p q cuts P m c d h = let x = P.held m c d h in omega (arith, x)

module _ (E : List Edge) (n : ℕ) (p q : List Side) (F : IsFlip n p q) (e : Edge) (rest : List Edge) (cuts : List ℕ) (P : Passing E n p q (e ∷ rest) cuts) where
  pub this_touches : touches n e ≡ true
  this_touches = (both_true (touches n e) (all_touch n rest) P.touch).0

  pub both_parts : edge_cost q e + edge_cost p e ≡ e.weight
  both_parts = part_on n p q F e this_touches

  at_more : (m : ℕ) (b : Bool) (r : List Side) → touches m e ≡ b → cost_of (edges_at m (e ∷ rest)) r ≡ (if b then edge_cost r e + cost_of (edges_at m rest) r else cost_of (edges_at m rest) r)
  at_more m b r t = ap (λ (x : Bool). cost_of (if x then e ∷ edges_at m rest else edges_at m rest) r) t ∙ by b
    where
      by : (b : Bool) → cost_of (if b then e ∷ edges_at m rest else edges_at m rest) r ≡ (if b then edge_cost r e + cost_of (edges_at m rest) r else cost_of (edges_at m rest) r)
      by true = refl
      by false = refl

  -- the sum at the far end has room for the change
  pub room : (c : ℕ) → numbered cuts (far_end n e) ≡ Some c → (edge_cost p e ≤ c) × (c + edge_cost q e ≤ whole E + whole E)
  room c h =
      let d : nat_eq (far_end n e) n ≡ false = far_here n e this_touches in
      let t : touches (far_end n e) e ≡ true = touch_far n (far_end n e) e this_touches d ∙ eq-eqb (far_end n e) (far_end n e) refl in
      let x = P.held (far_end n e) c d h in
      let y = P.below (far_end n e) in
      let aq = at_more (far_end n e) true q t in
      let ap' = at_more (far_end n e) true p t in
      let u = cost_le (edges_at (far_end n e) E) q in
      let v = whole_at_le (far_end n e) E in
      let w = both_parts in
      let s = cost_le (edges_at (far_end n e) (e ∷ rest)) p in
      let z = whole_at_le (far_end n e) (e ∷ rest) in
      let l = P.light in
      (omega (arith, x, y, aq, ap', w), omega (arith, x, u, v, s, z, l, aq))

  abbrev pub same_here : Bool
  same_here = same_side (side_of_end p e.from) (side_of p e.to)

  change_is : (b : Bool) (c x y : ℕ) → x ≡ (if b then 0 else e.weight) → y + x ≡ e.weight → x ≤ c → (if b then c + e.weight else c - e.weight) + x ≡ c + y
  change_is true c x y h k l = omega (arith, h, k)
  change_is false c x y h k l = omega (arith, h, k, l)

  passed_here : (m c d : ℕ) (o : Option ℕ) (b : Bool) → numbered cuts m ≡ o → numbered (passed_to o m b e.weight cuts) m ≡ Some d → numbered cuts m ≡ Some c → d ≡ (if b then c + e.weight else c - e.weight)
  passed_here m c d None b h k i = let z : ◌≡◌ {A = Option ℕ} None (Some c) = sym h ∙ i in cc
  passed_here m c d (Some x) b h k i =
      let same : x ≡ c = same_Some x c (sym h ∙ i) in
      let z = number_here cuts m (if b then x + e.weight else x - e.weight) x h in
      sym (same_Some (if b then x + e.weight else x - e.weight) d (sym z ∙ k)) ∙ ap (λ j. if b then j + e.weight else j - e.weight) same

  passed_some : (m d : ℕ) (o : Option ℕ) (b : Bool) → numbered cuts m ≡ o → numbered (passed_to o m b e.weight cuts) m ≡ Some d → (c : ℕ) × (numbered cuts m ≡ Some c)
  passed_some m d None b h k = (d, k)
  passed_some m d (Some x) b h k = (x, h)

  passed_off : (m k : ℕ) (o : Option ℕ) (b : Bool) → (k ≡ m → ⊥) → numbered (passed_to o m b e.weight cuts) k ≡ numbered cuts k
  passed_off m k None b h = refl
  passed_off m k (Some x) b h = ⊎_elim (λ (t : k ≡ m). absurd (h t)) (λ (t : numbered (set_number cuts m (if b then x + e.weight else x - e.weight)) k ≡ numbered cuts k). t) (number_other cuts m k (if b then x + e.weight else x - e.weight))

  pub passed_other : (k : ℕ) → nat_eq (far_end n e) k ≡ false → numbered (passed p n e cuts) k ≡ numbered cuts k
  passed_other k h = passed_off (far_end n e) k (numbered cuts (far_end n e)) same_here (λ t. eqb-false (far_end n e) k h (sym t))

  step_by : (m d : ℕ) (b : Bool) → nat_eq (far_end n e) m ≡ b → nat_eq m n ≡ false → numbered (passed p n e cuts) m ≡ Some d → d + cost_of (edges_at m rest) q ≡ cost_of (edges_at m E) q + cost_of (edges_at m rest) p
  step_by m d false f a h =
      let t : touches m e ≡ false = touch_far n m e this_touches a ∙ f in
      let x = P.held m d a (sym (passed_other m f) ∙ h) in
      let aq = at_more m false q t in
      let ap' = at_more m false p t in
      omega (arith, x, aq, ap')
  step_by m d true f a h =
      let t : touches m e ≡ true = touch_far n m e this_touches a ∙ f in
      let same : far_end n e ≡ m = eqb-true (far_end n e) m f in
      let h' : numbered (passed_to (numbered cuts m) m same_here e.weight cuts) m ≡ Some d = subst (λ j. numbered (passed_to (numbered cuts j) j same_here e.weight cuts) m ≡ Some d) same h in
      let c = passed_some m d (numbered cuts m) same_here refl h' in
      let x = P.held m c.0 a c.1 in
      let aq = at_more m true q t in
      let ap' = at_more m true p t in
      let r = room c.0 (ap (λ j. numbered cuts j) same ∙ c.1) in
      let r0 = r.0 in
      let y = passed_here m c.0 d (numbered cuts m) same_here refl h' c.1 in
      let z = change_is same_here c.0 (edge_cost p e) (edge_cost q e) refl both_parts r0 in
      omega (arith, x, aq, ap', y, z)

  pub passing_step : Passing E n p q rest (passed p n e cuts)
  passing_step = record {
    touch = (both_true (touches n e) (all_touch n rest) P.touch).1;
    held = λ m d a h. step_by m d (nat_eq (far_end n e) m) refl a h;
    below = λ m. let a = P.below m in below_by m (touches m e) refl a;
    light = let l = P.light in omega (arith, l);
  }
    where
      below_by : (m : ℕ) (b : Bool) → touches m e ≡ b → cost_of (edges_at m (e ∷ rest)) q ≤ cost_of (edges_at m E) q → cost_of (edges_at m rest) q ≤ cost_of (edges_at m E) q
      below_by m true t a = let x = at_more m true q t in omega (arith, x, a)
      below_by m false t a = let x = at_more m false q t in omega (arith, x, a)

pub passed_length : (p : List Side) (n : ℕ) (e : Edge) (cuts : List ℕ) → length (passed p n e cuts) ≡ length cuts
passed_length p n e cuts = by (numbered cuts (far_end n e)) (same_side (side_of_end p e.from) (side_of p e.to))
  where
    by : (o : Option ℕ) (b : Bool) → length (passed_to o (far_end n e) b e.weight cuts) ≡ length cuts
    by None b = refl
    by (Some x) b = number_length cuts (far_end n e) (if b then x + e.weight else x - e.weight)
