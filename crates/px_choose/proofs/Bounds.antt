-- What the choice is good for, and that there is one.
use Rattle.std.proofs.Common.{◌≡◌, ◌≤◌, ◌<◌, ℕ, zero, suc, ◌+◌, nat_lt, Bool, true, false, List, [], ◌∷◌, length, Option, Some, None, slice_get, if◌then◌else◌, refl, sym, ◌∙◌, ◌⊎◌, inl, inr, ⊎_elim, subst, arith}
use Rattle.std.proofs.lemmas.Option.{same_Some}
use Rattle.std.proofs.lemmas.Bool.{leb-true, le-leb, ltb-true, ltb-false}
use Rattle.px_code.specs.declared.side.Side.{Side}
use Rattle.px_code.specs.declared.side.Side.TheVariants.{App, Db}
use Rattle.px_code.specs.Places.{other, numbered, side_of}
use Rattle.px_graph.specs.declared.graph.Graph.{Graph}
use Rattle.px_graph.specs.declared.graph.Group.{Group}
use Rattle.px_graph.specs.Costs.{cost}
use Rattle.px_choose.specs.Placements.{flipped, moved, all_at, Pins}
use Rattle.px_choose.specs.Sums.{free_load}
use Rattle.px_choose.specs.Choices.{fits, is_better, if_better, first_flip, first_move, or_else, first_better, begin_at, Comes, stays, goes, IsChoice}
use Rattle.px_choose.specs.Good.{Changes, flips, moves, IsGood}
use Rattle.px_choose.proofs.Both.{both_true, one_false}
use Rattle.px_choose.proofs.Keeping.{Keeps, keeps_side, keeps_moved, keeps_all, no_loads}

module _ (G : Graph) (B : ℕ) (pins : Pins) where
  better_is : (p q : List Side) → is_better G B pins p q ≡ true → (free_load G pins q ≤ B) × (cost G q < cost G p)
  better_is p q h =
      let t = both_true (fits G B pins q) (nat_lt (cost G q) (cost G p)) h in
      (leb-true (free_load G pins q) B t.0, ltb-true (cost G q) (cost G p) t.1)

  no_better : (p q : List Side) → is_better G B pins p q ≡ false → free_load G pins q ≤ B → cost G p ≤ cost G q
  no_better p q h fit = ltb-false (cost G q) (cost G p) (one_false (fits G B pins q) (nat_lt (cost G q) (cost G p)) h (le-leb (free_load G pins q) B fit))

  -- ---- the first change that is better

  found_if : (b : Bool) (p q r : List Side) (rest : Option (List Side)) → is_better G B pins p q ≡ b → (if b then Some q else rest) ≡ Some r → ((is_better G B pins p r ≡ true) × (q ≡ r)) ⊎ (rest ≡ Some r)
  found_if true p q r rest e h = let same : q ≡ r = same_Some q r h in inl (subst (λ (x : List Side). is_better G B pins p x ≡ true) same e, same)
  found_if false p q r rest e h = inr h

  none_if : (b : Bool) (p q : List Side) (rest : Option (List Side)) → is_better G B pins p q ≡ b → (if b then Some q else rest) ≡ None → (is_better G B pins p q ≡ false) × (rest ≡ None)
  none_if true p q rest e h = cc
  none_if false p q rest e h = (e, h)

  abbrev pub Found : List Side → List Side → Type 0
  Found p q = (is_better G B pins p q ≡ true) × Keeps pins q

  found_flip : (p : List Side) (n : ℕ) (rest : Pins) (q : List Side) → Keeps pins p → first_flip G B pins p n rest ≡ Some q → Found p q
  found_flip p n [] q k h = cc
  found_flip p n (x ∷ rest) q k h = ⊎_elim
      (λ (t : (is_better G B pins p q ≡ true) × (flipped pins n p ≡ q)). (t.0, subst (Keeps pins) t.1 (keeps_side pins n (other (side_of p n)) p k)))
      (λ (t : first_flip G B pins p (n + 1) rest ≡ Some q). found_flip p (n + 1) rest q k t)
      (found_if (is_better G B pins p (flipped pins n p)) p (flipped pins n p) q (first_flip G B pins p (n + 1) rest) refl h)

  found_move : (p : List Side) (gs : List Group) (q : List Side) → Keeps pins p → first_move G B pins p gs ≡ Some q → Found p q
  found_move p [] q k h = cc
  found_move p (g ∷ gs) q k h = ⊎_elim
      (λ (t : (is_better G B pins p q ≡ true) × (moved pins g.nodes App p ≡ q)). (t.0, subst (Keeps pins) t.1 (keeps_moved pins g.nodes App p k)))
      (λ (t : if_better G B pins p (moved pins g.nodes Db p) (first_move G B pins p gs) ≡ Some q). ⊎_elim
      (λ (s : (is_better G B pins p q ≡ true) × (moved pins g.nodes Db p ≡ q)). (s.0, subst (Keeps pins) s.1 (keeps_moved pins g.nodes Db p k)))
      (λ (s : first_move G B pins p gs ≡ Some q). found_move p gs q k s)
      (found_if (is_better G B pins p (moved pins g.nodes Db p)) p (moved pins g.nodes Db p) q (first_move G B pins p gs) refl t))
      (found_if (is_better G B pins p (moved pins g.nodes App p)) p (moved pins g.nodes App p) q (if_better G B pins p (moved pins g.nodes Db p) (first_move G B pins p gs)) refl h)

  found_else : (p q : List Side) (o : Option (List Side)) → Keeps pins p → first_flip G B pins p 1 pins ≡ o → or_else o (first_move G B pins p G.methods) ≡ Some q → Found p q
  found_else p q (Some r) k e h = found_flip p 1 pins q k (e ∙ h)
  found_else p q None k e h = found_move p G.methods q k h

  pub found : (p q : List Side) → Keeps pins p → first_better G B pins p ≡ Some q → Found p q
  found p q k h = found_else p q (first_flip G B pins p 1 pins) k refl h

  none_flip : (p : List Side) (n : ℕ) (rest : Pins) → first_flip G B pins p n rest ≡ None → (k : ℕ) → n ≤ k → k < n + length rest → is_better G B pins p (flipped pins k p) ≡ false
  none_flip p n [] h k from to = absurd (omega arith)
  none_flip p n (x ∷ rest) h k from to =
      let t = none_if (is_better G B pins p (flipped pins n p)) p (flipped pins n p) (first_flip G B pins p (n + 1) rest) refl h in
      ⊎_elim
      (λ (e : n ≡ k). subst (λ j. is_better G B pins p (flipped pins j p) ≡ false) e t.0)
      (λ (e : n + 1 ≤ k). none_flip p (n + 1) rest t.1 k e (omega arith))
      (split n k from)
    where
      split : (n k : ℕ) → n ≤ k → (n ≡ k) ⊎ (n + 1 ≤ k)
      split n k h = grind arith

  none_move : (p : List Side) (gs : List Group) → first_move G B pins p gs ≡ None → (k : ℕ) (g : Group) → slice_get gs k ≡ Some g → (is_better G B pins p (moved pins g.nodes App p) ≡ false) × (is_better G B pins p (moved pins g.nodes Db p) ≡ false)
  none_move p [] h k g at = cc
  none_move p (f ∷ gs) h zero g at =
      let t = none_if (is_better G B pins p (moved pins f.nodes App p)) p (moved pins f.nodes App p) (if_better G B pins p (moved pins f.nodes Db p) (first_move G B pins p gs)) refl h in
      let s = none_if (is_better G B pins p (moved pins f.nodes Db p)) p (moved pins f.nodes Db p) (first_move G B pins p gs) refl t.1 in
      subst (λ (x : Group). (is_better G B pins p (moved pins x.nodes App p) ≡ false) × (is_better G B pins p (moved pins x.nodes Db p) ≡ false)) (same_Some f g at) (t.0, s.0)
  none_move p (f ∷ gs) h (suc k) g at =
      let t = none_if (is_better G B pins p (moved pins f.nodes App p)) p (moved pins f.nodes App p) (if_better G B pins p (moved pins f.nodes Db p) (first_move G B pins p gs)) refl h in
      let s = none_if (is_better G B pins p (moved pins f.nodes Db p)) p (moved pins f.nodes Db p) (first_move G B pins p gs) refl t.1 in
      none_move p gs s.1 k g at

  both_none : (o r : Option (List Side)) → or_else o r ≡ None → (o ≡ None) × (r ≡ None)
  both_none None r h = (refl, h)
  both_none (Some q) r h = cc

  group_better : (p : List Side) (k : ℕ) (g : Group) (side : Side) → first_move G B pins p G.methods ≡ None → numbered G.methods k ≡ Some g → is_better G B pins p (moved pins g.nodes side p) ≡ false
  group_better p zero g side h at = cc
  group_better p (suc k) g App h at = (none_move p G.methods h k g at).0
  group_better p (suc k) g Db h at = (none_move p G.methods h k g at).1

  pub none_local : (p : List Side) → first_better G B pins p ≡ None → (r : List Side) → Changes G pins p r → free_load G pins r ≤ B → cost G p ≤ cost G r
  none_local p h r (flips n low high) fit = no_better p r (none_flip p 1 pins (both_none (first_flip G B pins p 1 pins) (first_move G B pins p G.methods) h).0 n (omega arith) (omega arith)) fit
  none_local p h r (moves k g side at) fit = no_better p r (group_better p k g side (both_none (first_flip G B pins p 1 pins) (first_move G B pins p G.methods) h).1 at) fit

  -- ---- what holds at the beginning, and stays

  pub record Holds (p : List Side) : Type 0 where
    pub keeps : Keeps pins p
    pub load : free_load G pins p ≤ B
    pub below_app : cost G p ≤ cost G (all_at App pins)
    pub below_db : free_load G pins (all_at Db pins) ≤ B → cost G p ≤ cost G (all_at Db pins)

  begin_if : (b : Bool) → is_better G B pins (all_at App pins) (all_at Db pins) ≡ b → Holds (if b then all_at Db pins else all_at App pins)
  begin_if true e =
      let t = better_is (all_at App pins) (all_at Db pins) e in
      let less = t.1 in
      record { keeps = keeps_all Db pins; load = t.0; below_app = omega (arith, less); below_db = λ h. omega arith }
  begin_if false e = record {
    keeps = keeps_all App pins;
    load = let z = no_loads 1 G.counts pins in omega (arith, z);
    below_app = omega arith;
    below_db = no_better (all_at App pins) (all_at Db pins) e;
  }

  pub begin_holds : Holds (begin_at G B pins)
  begin_holds = begin_if (is_better G B pins (all_at App pins) (all_at Db pins)) refl

  pub step_holds : (p q : List Side) → Holds p → first_better G B pins p ≡ Some q → Holds q
  step_holds p q h e =
      let f = found p q h.keeps e in
      let t = better_is p q f.0 in
      let less = t.1 in
      record { keeps = f.1; load = t.0; below_app = let a = h.below_app in omega (arith, less, a); below_db = λ d. let a = h.below_db d in omega (arith, less, a) }

  pub step_less : (p q : List Side) → Holds p → first_better G B pins p ≡ Some q → cost G q < cost G p
  step_less p q h e = (better_is p q (found p q h.keeps e).0).1

  pub end_good : (p : List Side) → Holds p → first_better G B pins p ≡ None → IsGood G B pins p
  end_good p h e = record { size = h.keeps.size; pinned = h.keeps.pinned; load = h.load; below_app = h.below_app; below_db = h.below_db; local = none_local p e }

  -- every choice is good
  come_good : (p q : List Side) → Holds p → Comes G B pins p q → IsGood G B pins q
  come_good p q h (stays e) = end_good q h e
  come_good p q h (goes r e c) = come_good r q (step_holds p r h e) c

  pub choice_good : (q : List Side) → IsChoice G B pins q → IsGood G B pins q
  choice_good q c = come_good (begin_at G B pins) q begin_holds c

  -- the rule fixes one placement
  come_same : (p q r : List Side) → Comes G B pins p q → Comes G B pins p r → q ≡ r
  come_same p q r (stays e) (stays f) = refl
  come_same p q r (stays e) (goes s f c) = let z : ◌≡◌ {A = Option (List Side)} None (Some s) = sym e ∙ f in cc
  come_same p q r (goes s e c) (stays f) = let z : ◌≡◌ {A = Option (List Side)} None (Some s) = sym f ∙ e in cc
  come_same p q r (goes s e c) (goes t f d) = let same : s ≡ t = same_Some s t (sym e ∙ f) in come_same t q r (subst (λ (x : List Side). Comes G B pins x q) same c) d

  pub choice_same : (q r : List Side) → IsChoice G B pins q → IsChoice G B pins r → q ≡ r
  choice_same q r c d = come_same (begin_at G B pins) q r c d
