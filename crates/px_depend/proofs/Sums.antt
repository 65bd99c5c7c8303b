-- Summaries put together tell of the flows put together.
use Rattle.std.proofs.Common.{◌≡◌, ℕ, Bool, true, false, not, ◌&&◌, ◌||◌, List, ◌++◌, refl, sym, ap, ◌∙◌, ◌⊎◌, inl, inr, ⊎_elim, subst, if◌then◌else◌}
use Rattle.px_constraints.specs.System.{At}
use Rattle.px_normal.specs.declared.ty.Ty.{Ty}
use Rattle.px_depend.specs.declared.edge.Edge.{Edge}
use Rattle.px_depend.specs.declared.places.Place.{Place}
use Rattle.px_depend.specs.declared.summary.Summary.{Summary}
use Rattle.px_depend.specs.Flow.{Then, Either, Round}
use Rattle.px_depend.specs.Paths.{Passes, Arrives, Leaves, Meets}
use Rattle.px_depend.specs.Paths as p
use Rattle.px_depend.specs.Places.{place, passes, passing, Flows, IsSummary}
use Rattle.px_depend.specs.Uses.{has, common}
use Rattle.px_depend.specs.Summaries.{written_either, pairs, Adds, IsOver, over}
use Rattle.px_flow_points.proofs.Elements.{in_append, in_first, in_second}
use Rattle.px_depend.proofs.Truths.{and_to, and_back, or_to, or_first, or_second, has_append, has_common, pass_both, pass_either}
use Rattle.px_depend.proofs.Turns.{passes_then, passes_either, passes_round, leaves_then, leaves_either, leaves_round, arrives_then, arrives_either, arrives_round, arrives_in_round}
use Rattle.px_depend.proofs.Lists.{passing_to, passing_back, Paired, pairs_to, pairs_back}

in_both : (xs ys zs : List Place) (q : Place) → zs ≡ xs ++ ys → At zs q → At xs q ⊎ At ys q
in_both xs ys zs q e h = in_append xs ys q (subst (λ (z : List Place). At z q) e h)

both_first : (xs ys zs : List Place) (q : Place) → zs ≡ xs ++ ys → At xs q → At zs q
both_first xs ys zs q e h = subst (λ (z : List Place). At z q) (sym e) (in_first xs ys q h)

both_second : (xs ys zs : List Place) (q : Place) → zs ≡ xs ++ ys → At ys q → At zs q
both_second xs ys zs q e h = subst (λ (z : List Place). At z q) (sym e) (in_second xs ys q h)

-- a slot is left as it was by both, or by one of them
passes_both : (a b s : Summary) (k : ℕ) → s.written.items ≡ a.written.items ++ b.written.items → s.completes ≡ (a.completes && b.completes) → passes s k ≡ (passes a k && passes b k)
passes_both a b s k w c = ap (λ (z : Bool). z && not (has k s.written.items)) c
    ∙ ap (λ (z : List ℕ). (a.completes && b.completes) && not (has k z)) w
    ∙ ap (λ (z : Bool). (a.completes && b.completes) && not z) (has_append k a.written.items b.written.items)
    ∙ pass_both a.completes b.completes (has k a.written.items) (has k b.written.items)

written_has_if : (ca cb : Bool) (k : ℕ) (xs ys : List ℕ) → has k (if ca then (if cb then common xs ys else xs) else ys) ≡ (if ca then (if cb then has k xs && has k ys else has k xs) else has k ys)
written_has_if true true k xs ys = has_common k xs ys
written_has_if true false k xs ys = refl
written_has_if false cb k xs ys = refl

passes_one : (a b s : Summary) (k : ℕ) → s.written.items ≡ written_either a b → s.completes ≡ (a.completes || b.completes) → passes s k ≡ (passes a k || passes b k)
passes_one a b s k w c = ap (λ (z : Bool). z && not (has k s.written.items)) c
    ∙ ap (λ (z : List ℕ). (a.completes || b.completes) && not (has k z)) w
    ∙ ap (λ (z : Bool). (a.completes || b.completes) && not z) (written_has_if a.completes b.completes k a.written.items b.written.items)
    ∙ pass_either a.completes b.completes (has k a.written.items) (has k b.written.items)

module _ (a b s : Summary) (f g : Flows) (A : IsSummary a f) (B : IsSummary b g) where
  -- ---- one after the other

  pub then_sum : s.leave.items ≡ passing b a.leave.items ++ b.leave.items → s.arrive.items ≡ a.arrive.items ++ passing a b.arrive.items → s.written.items ≡ a.written.items ++ b.written.items → s.completes ≡ (a.completes && b.completes) → IsSummary s (λ k. Then (f k) (g k))
  then_sum l r w c = record {
    leave = λ k d. record {
      to = λ h. ⊎_elim
          (λ (t : At (passing b a.leave.items) (place d k)). let u = passing_to b a.leave.items k d t in p.Leaves.first ((A.leave k d).to u.1) ((B.pass k).to u.0))
          (λ (t : At b.leave.items (place d k)). p.Leaves.second ((B.leave k d).to t))
          (in_both (passing b a.leave.items) b.leave.items s.leave.items (place d k) l h);
      back = λ h. ⊎_elim
          (λ (t : Leaves d (f k) × Passes (g k)). both_first (passing b a.leave.items) b.leave.items s.leave.items (place d k) l (passing_back b a.leave.items k d ((B.pass k).back t.1) ((A.leave k d).back t.0)))
          (λ (t : Leaves d (g k)). both_second (passing b a.leave.items) b.leave.items s.leave.items (place d k) l ((B.leave k d).back t))
          (leaves_then d (f k) (g k) h);
    };
    arrive = λ k u. record {
      to = λ h. ⊎_elim
          (λ (t : At a.arrive.items (place u k)). p.Arrives.first ((A.arrive k u).to t))
          (λ (t : At (passing a b.arrive.items) (place u k)). let v = passing_to a b.arrive.items k u t in p.Arrives.second ((A.pass k).to v.0) ((B.arrive k u).to v.1))
          (in_both a.arrive.items (passing a b.arrive.items) s.arrive.items (place u k) r h);
      back = λ h. ⊎_elim
          (λ (t : Arrives u (f k)). both_first a.arrive.items (passing a b.arrive.items) s.arrive.items (place u k) r ((A.arrive k u).back t))
          (λ (t : Passes (f k) × Arrives u (g k)). both_second a.arrive.items (passing a b.arrive.items) s.arrive.items (place u k) r (passing_back a b.arrive.items k u ((A.pass k).back t.0) ((B.arrive k u).back t.1)))
          (arrives_then u (f k) (g k) h);
    };
    pass = λ k. record {
      to = λ h. let t = and_to (passes a k) (passes b k) (sym (passes_both a b s k w c) ∙ h) in p.Passes.both ((A.pass k).to t.0) ((B.pass k).to t.1);
      back = λ h. let t = passes_then (f k) (g k) h in passes_both a b s k w c ∙ and_back (passes a k) (passes b k) ((A.pass k).back t.0) ((B.pass k).back t.1);
    };
  }

  -- ---- one or the other

  pub either_sum : s.leave.items ≡ a.leave.items ++ b.leave.items → s.arrive.items ≡ a.arrive.items ++ b.arrive.items → s.written.items ≡ written_either a b → s.completes ≡ (a.completes || b.completes) → IsSummary s (λ k. Either (f k) (g k))
  either_sum l r w c = record {
    leave = λ k d. record {
      to = λ h. ⊎_elim
          (λ (t : At a.leave.items (place d k)). p.Leaves.left ((A.leave k d).to t))
          (λ (t : At b.leave.items (place d k)). p.Leaves.right ((B.leave k d).to t))
          (in_both a.leave.items b.leave.items s.leave.items (place d k) l h);
      back = λ h. ⊎_elim
          (λ (t : Leaves d (f k)). both_first a.leave.items b.leave.items s.leave.items (place d k) l ((A.leave k d).back t))
          (λ (t : Leaves d (g k)). both_second a.leave.items b.leave.items s.leave.items (place d k) l ((B.leave k d).back t))
          (leaves_either d (f k) (g k) h);
    };
    arrive = λ k u. record {
      to = λ h. ⊎_elim
          (λ (t : At a.arrive.items (place u k)). p.Arrives.left ((A.arrive k u).to t))
          (λ (t : At b.arrive.items (place u k)). p.Arrives.right ((B.arrive k u).to t))
          (in_both a.arrive.items b.arrive.items s.arrive.items (place u k) r h);
      back = λ h. ⊎_elim
          (λ (t : Arrives u (f k)). both_first a.arrive.items b.arrive.items s.arrive.items (place u k) r ((A.arrive k u).back t))
          (λ (t : Arrives u (g k)). both_second a.arrive.items b.arrive.items s.arrive.items (place u k) r ((B.arrive k u).back t))
          (arrives_either u (f k) (g k) h);
    };
    pass = λ k. record {
      to = λ h. ⊎_elim
          (λ (t : passes a k ≡ true). p.Passes.left ((A.pass k).to t))
          (λ (t : passes b k ≡ true). p.Passes.right ((B.pass k).to t))
          (or_to (passes a k) (passes b k) (sym (passes_one a b s k w c) ∙ h));
      back = λ h. ⊎_elim
          (λ (t : Passes (f k)). passes_one a b s k w c ∙ or_first (passes a k) (passes b k) ((A.pass k).back t))
          (λ (t : Passes (g k)). passes_one a b s k w c ∙ or_second (passes a k) (passes b k) ((B.pass k).back t))
          (passes_either (f k) (g k) h);
    };
  }

  -- ---- any number of times

  pub round_sum : s.leave.items ≡ passing a b.leave.items ++ a.leave.items → s.arrive.items ≡ a.arrive.items ++ passing a b.arrive.items → s.written.items ≡ a.written.items → s.completes ≡ a.completes → IsSummary s (λ k. Round (f k) (g k))
  round_sum l r w c = record {
    leave = λ k d. record {
      to = λ h. ⊎_elim
          (λ (t : At (passing a b.leave.items) (place d k)). let u = passing_to a b.leave.items k d t in p.Leaves.body ((B.leave k d).to u.1) (p.Passes.once ((A.pass k).to u.0)))
          (λ (t : At a.leave.items (place d k)). p.Leaves.at_end ((A.leave k d).to t))
          (in_both (passing a b.leave.items) a.leave.items s.leave.items (place d k) l h);
      back = λ h. ⊎_elim
          (λ (t : Leaves d (f k)). both_second (passing a b.leave.items) a.leave.items s.leave.items (place d k) l ((A.leave k d).back t))
          (λ (t : Leaves d (g k) × Passes (f k)). both_first (passing a b.leave.items) a.leave.items s.leave.items (place d k) l (passing_back a b.leave.items k d ((A.pass k).back t.1) ((B.leave k d).back t.0)))
          (leaves_round d (f k) (g k) h);
    };
    arrive = λ k u. record {
      to = λ h. arrives_in_round u (f k) (g k) (⊎_elim
          (λ (t : At a.arrive.items (place u k)). inl ((A.arrive k u).to t))
          (λ (t : At (passing a b.arrive.items) (place u k)). let v = passing_to a b.arrive.items k u t in inr ((A.pass k).to v.0, (B.arrive k u).to v.1))
          (in_both a.arrive.items (passing a b.arrive.items) s.arrive.items (place u k) r h));
      back = λ h. ⊎_elim
          (λ (t : Arrives u (f k)). both_first a.arrive.items (passing a b.arrive.items) s.arrive.items (place u k) r ((A.arrive k u).back t))
          (λ (t : Passes (f k) × Arrives u (g k)). both_second a.arrive.items (passing a b.arrive.items) s.arrive.items (place u k) r (passing_back a b.arrive.items k u ((A.pass k).back t.0) ((B.arrive k u).back t.1)))
          (arrives_round u (f k) (g k) h);
    };
    pass = λ k. record {
      to = λ h. p.Passes.once ((A.pass k).to (same_pass k ∙ h));
      back = λ h. sym (same_pass k) ∙ (A.pass k).back (passes_round (f k) (g k) h);
    };
  }
    where
      same_pass : (k : ℕ) → passes a k ≡ passes s k
      same_pass k = ap (λ (z : Bool). z && not (has k a.written.items)) (sym c) ∙ ap (λ (z : List ℕ). s.completes && not (has k z)) (sym w)

-- ---- edges

pub paired_over : (types : List Ty) (a b : Summary) (f g : Flows) (e : Edge) → IsSummary a f → IsSummary b g → Paired types a.leave.items b.arrive.items e → IsOver types f g e
paired_over types a b f g e A B c = subst (λ (z : Edge). IsOver types f g z) c.is (over c.typed ((A.leave c.slot c.first).to c.leaves) ((B.arrive c.slot c.second).to c.arrives))

pub over_paired : (types : List Ty) (a b : Summary) (f g : Flows) (e : Edge) → IsSummary a f → IsSummary b g → IsOver types f g e → At (pairs types a.leave.items b.arrive.items) e
over_paired types a b f g e A B (over {k = k} {d = d} {u = u} {t = t} typed l r) = pairs_back types a.leave.items b.arrive.items k d u t typed ((A.leave k d).back l) ((B.arrive k u).back r)

pub adds_over : (types : List Ty) (a b : Summary) (f g : Flows) (old new : List Edge) → IsSummary a f → IsSummary b g → new ≡ old ++ pairs types a.leave.items b.arrive.items → Adds old new (IsOver types f g)
adds_over types a b f g old new A B h = λ e. record {
  to = λ t. ⊎_elim inl (λ (u : At (pairs types a.leave.items b.arrive.items) e). inr (paired_over types a b f g e A B (pairs_to types a.leave.items b.arrive.items e u))) (in_append old (pairs types a.leave.items b.arrive.items) e (subst (λ (z : List Edge). At z e) h t));
  back = λ t. subst (λ (z : List Edge). At z e) (sym h) (⊎_elim (λ (u : At old e). in_first old (pairs types a.leave.items b.arrive.items) e u) (λ (u : IsOver types f g e). in_second old (pairs types a.leave.items b.arrive.items) e (over_paired types a b f g e A B u)) t);
}
