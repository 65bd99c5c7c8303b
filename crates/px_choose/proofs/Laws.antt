-- Laws of the sums: what the flip of one node changes is what its edges change.
use Rattle.std.proofs.Common.{◌≡◌, ◌≤◌, ◌<◌, ℕ, ◌+◌, nat_eq, Bool, true, false, List, [], ◌∷◌, if◌then◌else◌, refl, sym, ap, ◌∙◌, arith}
use Rattle.std.proofs.lemmas.Bool.{eqb-true}
use Rattle.px_code.specs.declared.side.Side.{Side}
use Rattle.px_code.specs.declared.side.Side.TheVariants.{App, Db}
use Rattle.px_graph.specs.declared.edge.End.{End}
use Rattle.px_graph.specs.declared.edge.End.TheVariants as end
use Rattle.px_graph.specs.declared.edge.Edge.{Edge}
use Rattle.px_code.specs.Places.{other, side_of, same_side}
use Rattle.px_graph.specs.Costs.{side_of_end, edge_cost, cost_of, whole}
use Rattle.px_choose.specs.Gains.{number_of, differ, touches, edges_at}

-- ---- the second placement has one node at the other side

pub record IsFlip (n : ℕ) (p q : List Side) : Type 0 where
  pub above : 0 < n
  pub here : side_of q n ≡ other (side_of p n)
  pub off : (k : ℕ) → nat_eq k n ≡ false → side_of q k ≡ side_of p k

-- ---- sides

same_self : (s : Side) → same_side s s ≡ true
same_self App = refl
same_self Db = refl

weigh : Bool → ℕ → ℕ
weigh b w = if b then 0 else w

pub turn_weight : (s t : Side) (w : ℕ) → (if same_side (other s) t then 0 else w) + (if same_side s t then 0 else w) ≡ w
turn_weight App App w = omega arith
turn_weight App Db w = omega arith
turn_weight Db App w = omega arith
turn_weight Db Db w = omega arith

pub turn_weight' : (s t : Side) (w : ℕ) → (if same_side s (other t) then 0 else w) + (if same_side s t then 0 else w) ≡ w
turn_weight' App App w = omega arith
turn_weight' App Db w = omega arith
turn_weight' Db App w = omega arith
turn_weight' Db Db w = omega arith

-- ---- one edge

module _ (n : ℕ) (p q : List Side) (F : IsFlip n p q) where
  from_off : (f : End) → nat_eq (number_of f) n ≡ false → side_of_end q f ≡ side_of_end p f
  from_off end.App h = refl
  from_off end.Db h = refl
  from_off (end.Node k) h = F.off k h

  from_self : (r : List Side) (f : End) → nat_eq (number_of f) n ≡ true → side_of_end r f ≡ side_of r n
  from_self r end.App h = let a : 0 ≡ n = eqb-true 0 n h in let b = F.above in absurd (omega (arith, a, b))
  from_self r end.Db h = let a : 0 ≡ n = eqb-true 0 n h in let b = F.above in absurd (omega (arith, a, b))
  from_self r (end.Node k) h = ap (λ j. side_of r j) (eqb-true k n h)

  part_sides : (r : List Side) (e : Edge) (s t : Side) → side_of_end r e.from ≡ s → side_of r e.to ≡ t → edge_cost r e ≡ (if same_side s t then 0 else e.weight)
  part_sides r e s t a b = ap (λ (x : Side). if same_side x (side_of r e.to) then 0 else e.weight) a ∙ ap (λ (x : Side). if same_side s x then 0 else e.weight) b

  part_self : (r : List Side) (e : Edge) → nat_eq (number_of e.from) n ≡ true → nat_eq e.to n ≡ true → edge_cost r e ≡ 0
  part_self r e a b = part_sides r e (side_of r n) (side_of r n) (from_self r e.from a) (ap (λ j. side_of r j) (eqb-true e.to n b)) ∙ ap (λ (x : Bool). if x then 0 else e.weight) (same_self (side_of r n))

  off_by : (e : Edge) (a b : Bool) → nat_eq (number_of e.from) n ≡ a → nat_eq e.to n ≡ b → differ a b ≡ false → edge_cost q e ≡ edge_cost p e
  off_by e false false f t h = part_sides q e (side_of_end p e.from) (side_of p e.to) (from_off e.from f) (F.off e.to t)
  off_by e true true f t h = part_self q e f t ∙ sym (part_self p e f t)
  off_by e true false f t h = cc
  off_by e false true f t h = cc

  -- an edge that does not touch the node costs what it did
  part_off : (e : Edge) → touches n e ≡ false → edge_cost q e ≡ edge_cost p e
  part_off e h = off_by e (nat_eq (number_of e.from) n) (nat_eq e.to n) refl refl h

  on_by : (e : Edge) (a b : Bool) → nat_eq (number_of e.from) n ≡ a → nat_eq e.to n ≡ b → differ a b ≡ true → edge_cost q e + edge_cost p e ≡ e.weight
  on_by e false false f t h = cc
  on_by e true true f t h = cc
  on_by e true false f t h =
      let x = part_sides q e (other (side_of p n)) (side_of p e.to) (from_self q e.from f ∙ F.here) (F.off e.to t) in
      let y = part_sides p e (side_of p n) (side_of p e.to) (from_self p e.from f) refl in
      ap (λ k. k + edge_cost p e) x ∙ ap (λ k. (if same_side (other (side_of p n)) (side_of p e.to) then 0 else e.weight) + k) y ∙ turn_weight (side_of p n) (side_of p e.to) e.weight
  on_by e false true f t h =
      let same : e.to ≡ n = eqb-true e.to n t in
      let x = part_sides q e (side_of_end p e.from) (other (side_of p n)) (from_off e.from f) (ap (λ j. side_of q j) same ∙ F.here) in
      let y = part_sides p e (side_of_end p e.from) (side_of p n) refl (ap (λ j. side_of p j) same) in
      ap (λ k. k + edge_cost p e) x ∙ ap (λ k. (if same_side (side_of_end p e.from) (other (side_of p n)) then 0 else e.weight) + k) y ∙ turn_weight' (side_of_end p e.from) (side_of p n) e.weight

  -- one that touches it is cut after the flip exactly where it was not
  pub part_on : (e : Edge) → touches n e ≡ true → edge_cost q e + edge_cost p e ≡ e.weight
  part_on e h = on_by e (nat_eq (number_of e.from) n) (nat_eq e.to n) refl refl h

  -- ---- lists of edges

  cost_step : (e : Edge) (es : List Edge) (b : Bool) → touches n e ≡ b → cost_of es q + cost_of (edges_at n es) p ≡ cost_of es p + cost_of (edges_at n es) q → cost_of (e ∷ es) q + cost_of (if b then e ∷ edges_at n es else edges_at n es) p ≡ cost_of (e ∷ es) p + cost_of (if b then e ∷ edges_at n es else edges_at n es) q
  cost_step e es true t h = omega (arith, h)
  cost_step e es false t h = let x = part_off e t in omega (arith, h, x)

  -- the cost changes by what the edges at the node change
  pub flip_cost : (es : List Edge) → cost_of es q + cost_of (edges_at n es) p ≡ cost_of es p + cost_of (edges_at n es) q
  flip_cost [] = refl
  flip_cost (e ∷ es) = cost_step e es (touches n e) refl (flip_cost es)

  whole_step : (e : Edge) (xs : List Edge) (b : Bool) → touches n e ≡ b → cost_of xs q + cost_of xs p ≡ whole xs → cost_of (if b then e ∷ xs else xs) q + cost_of (if b then e ∷ xs else xs) p ≡ whole (if b then e ∷ xs else xs)
  whole_step e xs true t h = let x = part_on e t in omega (arith, h, x)
  whole_step e xs false t h = h

  -- what the edges at the node cost before and after is all that they weigh
  pub flip_whole : (es : List Edge) → cost_of (edges_at n es) q + cost_of (edges_at n es) p ≡ whole (edges_at n es)
  flip_whole [] = refl
  flip_whole (e ∷ es) = whole_step e (edges_at n es) (touches n e) refl (flip_whole es)

-- ---- bounds

pub cost_at_le : (n : ℕ) (es : List Edge) (r : List Side) → cost_of (edges_at n es) r ≤ cost_of es r
cost_at_le n [] r = omega arith
cost_at_le n (e ∷ es) r = by (touches n e) (cost_at_le n es r)
  where
    by : (b : Bool) → cost_of (edges_at n es) r ≤ cost_of es r → cost_of (if b then e ∷ edges_at n es else edges_at n es) r ≤ edge_cost r e + cost_of es r
    by true h = omega (arith, h)
    by false h = omega (arith, h)

pub whole_at_le : (n : ℕ) (es : List Edge) → whole (edges_at n es) ≤ whole es
whole_at_le n [] = omega arith
whole_at_le n (e ∷ es) = by (touches n e) (whole_at_le n es)
  where
    by : (b : Bool) → whole (edges_at n es) ≤ whole es → whole (if b then e ∷ edges_at n es else edges_at n es) ≤ e.weight + whole es
    by true h = omega (arith, h)
    by false h = omega (arith, h)

-- ---- edges at two nodes

pub at_twice : (m n : ℕ) (es : List Edge) → edges_at m (edges_at n es) ≡ edges_at n (edges_at m es)
at_twice m n [] = refl
at_twice m n (e ∷ es) = by (touches m e) (touches n e) (at_twice m n es) refl refl
  where
    at_if : (k : ℕ) (b c : Bool) (xs : List Edge) → touches k e ≡ c → edges_at k (if b then e ∷ xs else xs) ≡ (if b then (if c then e ∷ edges_at k xs else edges_at k xs) else edges_at k xs)
    at_if k true c xs t = ap (λ (x : Bool). if x then e ∷ edges_at k xs else edges_at k xs) t
    at_if k false c xs t = refl

    swap : (b c : Bool) (xs ys : List Edge) → xs ≡ ys → (if c then (if b then e ∷ xs else xs) else xs) ≡ (if b then (if c then e ∷ ys else ys) else ys)
    swap true true xs ys h = ap (λ zs. e ∷ zs) h
    swap true false xs ys h = h
    swap false true xs ys h = h
    swap false false xs ys h = h

    by : (b c : Bool) → edges_at m (edges_at n es) ≡ edges_at n (edges_at m es) → touches m e ≡ b → touches n e ≡ c → edges_at m (if touches n e then e ∷ edges_at n es else edges_at n es) ≡ edges_at n (if touches m e then e ∷ edges_at m es else edges_at m es)
    by b c h s t = at_if m (touches n e) b (edges_at n es) s ∙ ap (λ (x : Bool). if x then (if b then e ∷ edges_at m (edges_at n es) else edges_at m (edges_at n es)) else edges_at m (edges_at n es)) t ∙ swap b c (edges_at m (edges_at n es)) (edges_at n (edges_at m es)) h ∙ ap (λ (x : Bool). if x then (if c then e ∷ edges_at n (edges_at m es) else edges_at n (edges_at m es)) else edges_at n (edges_at m es)) (sym s) ∙ sym (at_if n (touches m e) c (edges_at m es) t)
