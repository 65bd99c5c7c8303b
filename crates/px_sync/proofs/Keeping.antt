-- What is found to be kept is what a side keeps.
use Rattle.std.proofs.Common.{◌≡◌, ℕ, Bool, true, false, List, [], ◌∷◌, refl, sym, ap, ◌∙◌, ⊎_elim, subst, if◌then◌else◌}
use Rattle.px_constraints.specs.System.{At}
use Rattle.px_normal.specs.declared.code.Code.{Code}
use Rattle.px_flow_points.specs.declared.part.Part.{Part}
use Rattle.px_flow_points.specs.declared.part.Pair.{Pair}
use Rattle.px_flow_points.specs.declared.pairs.Touch.{Touch}
use Rattle.px_flow_points.specs.ByNode.{pair, pairs_at, Found, AreTouched}
use Rattle.px_flow_points.proofs.Elements.{in_none, in_cons, in_head, in_tail}
use Rattle.px_flow_points.proofs.TouchWhere.{by_pair, pair_to, pair_back}
use Rattle.px_blocks.specs.declared.side.Side.{Side}
use Rattle.px_blocks.specs.declared.side.Side.TheVariants.{App, Db}
use Rattle.px_blocks.specs.Sides.{other, same_side}
use Rattle.px_blocks.specs.Rules.{side_of}
use Rattle.px_sync.specs.Homes.{home}
use Rattle.px_sync.specs.Keeps.{Keeps, at_home, read_there}
use Rattle.px_sync.specs.Sends.{NeedsSend}
use Rattle.px_sync.specs.Found.{has, read_at, reads_at, of_side, keeps, needs}
use Rattle.px_sync.proofs.Truths.{or_cases, or_first, or_second, any_to, any_back, has_to, has_back, same_side_to, same_side_back}

-- a statement at the side that touches the pair
pub record TouchedAt (sides : List Side) (side : Side) (ts : List Touch) (p : Pair) : Type 0 where
  pub node : ℕ
  pub is : side_of sides node ≡ side
  pub at : At ts (by_pair node p)

module _ (sides : List Side) (side : Side) where
  later : (t : Touch) (ts : List Touch) (p : Pair) → TouchedAt sides side ts p → TouchedAt sides side (t ∷ ts) p
  later t ts p r = record { node = r.node; is = r.is; at = in_tail t ts (by_pair r.node p) r.at }

  read_to_if : (b : Bool) (t : Touch) (ts : List Touch) (p : Pair) → same_side (side_of sides t.node) side ≡ b → (At (read_at sides side ts) p → TouchedAt sides side ts p) → At (if b then t.pair ∷ read_at sides side ts else read_at sides side ts) p → TouchedAt sides side (t ∷ ts) p
  read_to_if true t ts p e rest h = ⊎_elim
      (λ (u : t.pair ≡ p). record { node = t.node; is = same_side_to (side_of sides t.node) side e; at = subst (λ (z : Pair). At (t ∷ ts) (by_pair t.node z)) u (in_head t ts) })
      (λ (u : At (read_at sides side ts) p). later t ts p (rest u))
      (in_cons t.pair (read_at sides side ts) p h)
  read_to_if false t ts p e rest h = later t ts p (rest h)

  pub read_to : (ts : List Touch) (p : Pair) → At (read_at sides side ts) p → TouchedAt sides side ts p
  read_to [] p h = absurd (in_none p h)
  read_to (t ∷ ts) p h = read_to_if (same_side (side_of sides t.node) side) t ts p refl (read_to ts p) h

  head_back : (b : Bool) (t : Touch) (ts : List Touch) (node : ℕ) (p : Pair) → same_side (side_of sides t.node) side ≡ b → t ≡ by_pair node p → side_of sides node ≡ side → At (if b then t.pair ∷ read_at sides side ts else read_at sides side ts) p
  head_back true t ts node p e u s = subst (λ (z : Pair). At (z ∷ read_at sides side ts) p) (sym (ap (λ (z : Touch). z.pair) u)) (in_head p (read_at sides side ts))
  head_back false t ts node p e u s =
      let n : t.node ≡ node = ap (λ (z : Touch). z.node) u in
      let y : same_side (side_of sides t.node) side ≡ true = same_side_back (side_of sides t.node) side (ap (side_of sides) n ∙ s) in
      cc

  tail_back : (b : Bool) (t : Touch) (ts : List Touch) (p : Pair) → At (read_at sides side ts) p → At (if b then t.pair ∷ read_at sides side ts else read_at sides side ts) p
  tail_back true t ts p h = in_tail t.pair (read_at sides side ts) p h
  tail_back false t ts p h = h

  pub read_back : (ts : List Touch) (node : ℕ) (p : Pair) → side_of sides node ≡ side → At ts (by_pair node p) → At (read_at sides side ts) p
  read_back [] node p s h = absurd (in_none (by_pair node p) h)
  read_back (t ∷ ts) node p s h = ⊎_elim
      (λ (u : t ≡ by_pair node p). head_back (same_side (side_of sides t.node) side) t ts node p refl u s)
      (λ (u : At ts (by_pair node p)). tail_back (same_side (side_of sides t.node) side) t ts p (read_back ts node p s u))
      (in_cons t ts (by_pair node p) h)

of_side_is : (sides : List Side) (side : Side) (ts : List Touch) → of_side (reads_at sides ts) side ≡ read_at sides side ts
of_side_is sides App ts = refl
of_side_is sides Db ts = refl

module _ (code : Code) (sides : List Side) (P : Found) (T : AreTouched code P) where
  abbrev keeps_here : Side → Pair → Bool
  keeps_here side p = keeps code sides (reads_at sides P.reads) side p

  pub keeps_to : (side : Side) (s : ℕ) (part : Part) → keeps_here side (pair s part) ≡ true → Keeps code sides side s part
  keeps_to side s part h = ⊎_elim
      (λ (e : same_side (home code sides s part) side ≡ true). at_home (same_side_to (home code sides s part) side e))
      (λ (e : has (pair s part) (of_side (reads_at sides P.reads) side) ≡ true).
      let r = read_to sides side P.reads (pair s part) (has_to (pair s part) (read_at sides side P.reads) (ap (has (pair s part)) (sym (of_side_is sides side P.reads)) ∙ e)) in
      read_there r.node r.is ((T.reads r.node s part).to (pair_back r.node P.reads (pair s part) r.at)))
      (or_cases (same_side (home code sides s part) side) (has (pair s part) (of_side (reads_at sides P.reads) side)) h)

  pub keeps_back : (side : Side) (s : ℕ) (part : Part) → Keeps code sides side s part → keeps_here side (pair s part) ≡ true
  keeps_back side s part (at_home e) = or_first (same_side (home code sides s part) side) (has (pair s part) (of_side (reads_at sides P.reads) side)) (same_side_back (home code sides s part) side e)
  keeps_back side s part (read_there node is reads) = or_second (same_side (home code sides s part) side) (has (pair s part) (of_side (reads_at sides P.reads) side))
      (ap (has (pair s part)) (of_side_is sides side P.reads) ∙ has_back (pair s part) (read_at sides side P.reads) (read_back sides side P.reads node (pair s part) is (pair_to node P.reads (pair s part) ((T.reads node s part).back reads))))

  abbrev needs_here : ℕ → Bool
  needs_here node = needs code sides (reads_at sides P.reads) P.writes node

  pub needs_to : (node : ℕ) → needs_here node ≡ true → NeedsSend code sides node
  needs_to node h =
      let r = any_to (keeps_here (other (side_of sides node))) (pairs_at node P.writes) h in
      record { site = r.item.site; part = r.item.part; writes = (T.writes node r.item.site r.item.part).to r.at; kept = keeps_to (other (side_of sides node)) r.item.site r.item.part r.passes }

  pub needs_back : (node : ℕ) → NeedsSend code sides node → needs_here node ≡ true
  needs_back node n = any_back (keeps_here (other (side_of sides node))) (pairs_at node P.writes) (pair n.site n.part) ((T.writes node n.site n.part).back n.writes) (keeps_back (other (side_of sides node)) n.site n.part n.kept)
