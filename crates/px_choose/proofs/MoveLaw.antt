-- What a move changes: the edges with one end among the nodes that go.
use Rattle.std.proofs.Common.{◌≡◌, ℕ, ◌+◌, nat_eq, Bool, true, false, not, ◌&&◌, ◌||◌, List, [], ◌∷◌, length, Option, unwrap_or, if◌then◌else◌, refl, sym, ap, ◌∙◌, subst, ⊎_elim, arith}
use Rattle.std.proofs.lemmas.Bool.{eqb-true, eqb-false}
use Rattle.px_code.specs.declared.side.Side.{Side}
use Rattle.px_code.specs.declared.side.Side.TheVariants.{App, Db}
use Rattle.px_graph.specs.declared.edge.End.{End}
use Rattle.px_graph.specs.declared.edge.End.TheVariants as end
use Rattle.px_graph.specs.declared.edge.Edge.{Edge}
use Rattle.px_code.specs.Places.{other, numbered, side_of, same_side}
use Rattle.px_graph.specs.Costs.{side_of_end, edge_cost, cost_of, whole}
use Rattle.px_choose.specs.Placements.{is_free, set_number, with_side, moved, Pins}
use Rattle.px_choose.specs.Gains.{number_of, differ, edges_at, turned}
use Rattle.px_choose.proofs.Numbered.{number_length, number_other, number_here, number_in}
use Rattle.px_choose.proofs.Turning.{free_above, free_below, turned_flip, flipped_free}
use Rattle.px_choose.proofs.Laws.{turn_weight, turn_weight', flip_cost, flip_whole}
use Rattle.px_choose.proofs.Moving.{same_is, same_not}
use Rattle.px_choose.specs.Laws.{has, goes_to, edges_out, FlipCosts, MoveCosts}

pub flip_costs : FlipCosts
flip_costs es pins n p free size =
    let low = free_below pins n free in
    let F = turned_flip n p (free_above pins n free) (omega (arith, low, size)) in
    let e = sym (flipped_free pins n p free) in
    (subst (λ (q : List Side). cost_of es q + cost_of (edges_at n es) p ≡ cost_of es p + cost_of (edges_at n es) q) e (flip_cost n p (turned n p) F es), subst (λ (q : List Side). cost_of (edges_at n es) q + cost_of (edges_at n es) p ≡ whole (edges_at n es)) e (flip_whole n p (turned n p) F es))

-- ---- some nodes at their other sides

record IsTurn (M : ℕ → Bool) (p q : List Side) : Type 0 where
  none : M 0 ≡ false
  on : (k : ℕ) → M k ≡ true → side_of q k ≡ other (side_of p k)
  off : (k : ℕ) → M k ≡ false → side_of q k ≡ side_of p k

turn_both : (s t : Side) (w : ℕ) → ◌≡◌ {A = ℕ} (if same_side (other s) (other t) then 0 else w) (if same_side s t then 0 else w)
turn_both App App w = refl
turn_both App Db w = refl
turn_both Db App w = refl
turn_both Db Db w = refl

module _ (M : ℕ → Bool) (p q : List Side) (T : IsTurn M p q) where
  end_off : (f : End) → M (number_of f) ≡ false → side_of_end q f ≡ side_of_end p f
  end_off end.App h = refl
  end_off end.Db h = refl
  end_off (end.Node k) h = T.off k h

  end_on : (f : End) → M (number_of f) ≡ true → side_of_end q f ≡ other (side_of_end p f)
  end_on end.App h = let z : true ≡ false = sym h ∙ T.none in cc
  end_on end.Db h = let z : true ≡ false = sym h ∙ T.none in cc
  end_on (end.Node k) h = T.on k h

  sides_are : (r : List Side) (e : Edge) (s t : Side) → side_of_end r e.from ≡ s → side_of r e.to ≡ t → edge_cost r e ≡ (if same_side s t then 0 else e.weight)
  sides_are r e s t a b = ap (λ (x : Side). if same_side x (side_of r e.to) then 0 else e.weight) a ∙ ap (λ (x : Side). if same_side s x then 0 else e.weight) b

  stays_by : (e : Edge) (a b : Bool) → M (number_of e.from) ≡ a → M e.to ≡ b → differ a b ≡ false → edge_cost q e ≡ edge_cost p e
  stays_by e false false f t h = sides_are q e (side_of_end p e.from) (side_of p e.to) (end_off e.from f) (T.off e.to t)
  stays_by e true true f t h = sides_are q e (other (side_of_end p e.from)) (other (side_of p e.to)) (end_on e.from f) (T.on e.to t) ∙ turn_both (side_of_end p e.from) (side_of p e.to) e.weight
  stays_by e true false f t h = cc
  stays_by e false true f t h = cc

  turns_by : (e : Edge) (a b : Bool) → M (number_of e.from) ≡ a → M e.to ≡ b → differ a b ≡ true → edge_cost q e + edge_cost p e ≡ e.weight
  turns_by e false false f t h = cc
  turns_by e true true f t h = cc
  turns_by e true false f t h = ap (λ k. k + edge_cost p e) (sides_are q e (other (side_of_end p e.from)) (side_of p e.to) (end_on e.from f) (T.off e.to t)) ∙ turn_weight (side_of_end p e.from) (side_of p e.to) e.weight
  turns_by e false true f t h = ap (λ k. k + edge_cost p e) (sides_are q e (side_of_end p e.from) (other (side_of p e.to)) (end_off e.from f) (T.on e.to t)) ∙ turn_weight' (side_of_end p e.from) (side_of p e.to) e.weight

  cost_step : (e : Edge) (es : List Edge) (b : Bool) → differ (M (number_of e.from)) (M e.to) ≡ b → cost_of es q + cost_of (edges_out M es) p ≡ cost_of es p + cost_of (edges_out M es) q → cost_of (e ∷ es) q + cost_of (if b then e ∷ edges_out M es else edges_out M es) p ≡ cost_of (e ∷ es) p + cost_of (if b then e ∷ edges_out M es else edges_out M es) q
  cost_step e es true t h = omega (arith, h)
  cost_step e es false t h = let x = stays_by e (M (number_of e.from)) (M e.to) refl refl t in omega (arith, h, x)

  turn_cost : (es : List Edge) → cost_of es q + cost_of (edges_out M es) p ≡ cost_of es p + cost_of (edges_out M es) q
  turn_cost [] = refl
  turn_cost (e ∷ es) = cost_step e es (differ (M (number_of e.from)) (M e.to)) refl (turn_cost es)

  whole_step : (e : Edge) (xs : List Edge) (b : Bool) → differ (M (number_of e.from)) (M e.to) ≡ b → cost_of xs q + cost_of xs p ≡ whole xs → cost_of (if b then e ∷ xs else xs) q + cost_of (if b then e ∷ xs else xs) p ≡ whole (if b then e ∷ xs else xs)
  whole_step e xs true t h = let x = turns_by e (M (number_of e.from)) (M e.to) refl refl t in omega (arith, h, x)
  whole_step e xs false t h = h

  turn_whole : (es : List Edge) → cost_of (edges_out M es) q + cost_of (edges_out M es) p ≡ whole (edges_out M es)
  turn_whole [] = refl
  turn_whole (e ∷ es) = whole_step e (edges_out M es) (differ (M (number_of e.from)) (M e.to)) refl (turn_whole es)

-- ---- a move turns the nodes that go

with_length : (pins : Pins) (n : ℕ) (side : Side) (p : List Side) → length (with_side pins n side p) ≡ length p
with_length pins n side p = by (is_free pins n)
  where
    by : (b : Bool) → length (if b then set_number p n side else p) ≡ length p
    by true = number_length p n side
    by false = refl

-- the side of a node after one is put
with_by : (pins : Pins) (n : ℕ) (side : Side) (p : List Side) (k : ℕ) (f b : Bool) → length p ≡ length pins → is_free pins n ≡ f → nat_eq n k ≡ b → side_of (if f then set_number p n side else p) k ≡ (if f && b then side else side_of p k)
with_by pins n side p k false b size free d = refl
with_by pins n side p k true true size free d =
    let low = free_below pins n free in
    let t = number_in p n (free_above pins n free) (omega (arith, low, size)) in
    ap (λ j. side_of (set_number p n side) j) (sym (eqb-true n k d)) ∙ ap (λ (o : Option Side). unwrap_or o App) (number_here p n side t.0 t.1)
with_by pins n side p k true false size free d = ⊎_elim
    (λ (s : k ≡ n). absurd (eqb-false n k d (sym s)))
    (λ (s : numbered (set_number p n side) k ≡ numbered p k). ap (λ (o : Option Side). unwrap_or o App) s)
    (number_other p n k side)

free_at : (pins : Pins) (n k : ℕ) (b : Bool) → nat_eq n k ≡ b → is_free pins n && b ≡ is_free pins k && b
free_at pins n k true d = ap (λ j. is_free pins j && true) (eqb-true n k d)
free_at pins n k false d = none (is_free pins n) (is_free pins k)
  where
    none : (x y : Bool) → x && false ≡ y && false
    none true true = refl
    none true false = refl
    none false true = refl
    none false false = refl

with_at : (pins : Pins) (n : ℕ) (side : Side) (p : List Side) (k : ℕ) → length p ≡ length pins → side_of (with_side pins n side p) k ≡ (if is_free pins k && nat_eq n k then side else side_of p k)
with_at pins n side p k size = with_by pins n side p k (is_free pins n) (nat_eq n k) size refl refl ∙ ap (λ (b : Bool). if b then side else side_of p k) (free_at pins n k (nat_eq n k) refl)

if_or : (f a b : Bool) (x y : Side) → (if f && a then x else (if f && b then x else y)) ≡ (if f && (b || a) then x else y)
if_or false a b x y = refl
if_or true true true x y = refl
if_or true true false x y = refl
if_or true false true x y = refl
if_or true false false x y = refl

moved_at : (pins : Pins) (ns : List ℕ) (side : Side) (p : List Side) (k : ℕ) → length p ≡ length pins → side_of (moved pins ns side p) k ≡ (if is_free pins k && has ns k then side else side_of p k)
moved_at pins [] side p k size = none (is_free pins k)
  where
    none : (x : Bool) → side_of p k ≡ (if x && false then side else side_of p k)
    none true = refl
    none false = refl
moved_at pins (n ∷ ns) side p k size =
    moved_at pins ns side (with_side pins n side p) k (with_length pins n side p ∙ size) ∙ ap (λ (s : Side). if is_free pins k && has ns k then side else s) (with_at pins n side p k size) ∙ if_or (is_free pins k) (has ns k) (nat_eq n k) side (side_of p k)

on_by : (f h r : Bool) (s side : Side) → same_side s side ≡ r → f && (h && not r) ≡ true → (if f && h then side else s) ≡ other s
on_by true true false s side e t = same_not s side e
on_by true true true s side e t = cc
on_by true false r s side e t = cc
on_by false h r s side e t = cc

off_by : (f h r : Bool) (s side : Side) → same_side s side ≡ r → f && (h && not r) ≡ false → (if f && h then side else s) ≡ s
off_by true true true s side e t = same_is s side e
off_by true true false s side e t = cc
off_by true false r s side e t = refl
off_by false h r s side e t = refl

move_turns : (pins : Pins) (ns : List ℕ) (side : Side) (p : List Side) → length p ≡ length pins → IsTurn (goes_to pins ns side p) p (moved pins ns side p)
move_turns pins ns side p size = record {
  none = refl;
  on = λ k t. moved_at pins ns side p k size ∙ on_by (is_free pins k) (has ns k) (same_side (side_of p k) side) (side_of p k) side refl t;
  off = λ k t. moved_at pins ns side p k size ∙ off_by (is_free pins k) (has ns k) (same_side (side_of p k) side) (side_of p k) side refl t;
}

pub move_costs : MoveCosts
move_costs es pins ns side p size = (turn_cost (goes_to pins ns side p) p (moved pins ns side p) (move_turns pins ns side p size) es, turn_whole (goes_to pins ns side p) p (moved pins ns side p) (move_turns pins ns side p size) es)
