-- Flows one after the other, in two halves.
use Rattle.std.proofs.Common.{◌≡◌, ℕ, zero, suc, List, [], ◌∷◌, ◌++◌, take, drop, refl, sym, ap, ◌⊎◌, inl, inr, ⊎_elim, subst}
use Rattle.px_constraints.specs.System.{At}
use Rattle.px_normal.specs.declared.ty.Ty.{Ty}
use Rattle.px_normal.specs.declared.method.Tree.{Tree}
use Rattle.px_flow_points.specs.Laws.{Both}
use Rattle.px_depend.specs.declared.edge.Edge.{Edge}
use Rattle.px_depend.specs.declared.summary.Summary.{Summary}
use Rattle.px_depend.specs.Flow.{Flow, Empty, Then}
use Rattle.px_depend.specs.Paths.{Passes, Arrives, Leaves, Meets}
use Rattle.px_depend.specs.Paths as p
use Rattle.px_depend.specs.Places.{Flows, IsSummary}
use Rattle.px_depend.specs.Shapes.{shape}
use Rattle.px_depend.specs.Summaries.{Adds, IsMet, met, IsOver, over, IsCross, IsWithin, AreSummaries, in_turn, line, flows_of, flows_in, shapes}
use Rattle.px_depend.proofs.Turns.{passes_then, leaves_then, arrives_then, meets_then}
use Rattle.px_depend.proofs.Steps.{same_sum}

-- ---- flows with the same paths to their ends

record Alike (a b : Flow) : Type 0 where
  pass : Both (Passes a) (Passes b)
  leave : (d : ℕ) → Both (Leaves d a) (Leaves d b)
  arrive : (u : ℕ) → Both (Arrives u a) (Arrives u b)

after_empty : (a : Flow) → Alike (Then Empty a) a
after_empty a = record {
  pass = record { to = λ h. (passes_then Empty a h).1; back = λ h. p.Passes.both p.Passes.empty h };
  leave = λ d. record { to = λ h. ⊎_elim (λ (t : Leaves d Empty × Passes a). elim t.0 [ ]) (λ (t : Leaves d a). t) (leaves_then d Empty a h); back = λ h. p.Leaves.second h };
  arrive = λ u. record { to = λ h. ⊎_elim (λ (t : Arrives u Empty). elim t [ ]) (λ (t : Passes Empty × Arrives u a). t.1) (arrives_then u Empty a h); back = λ h. p.Arrives.second p.Passes.empty h };
}

-- (a, then x), then y, is a and then z, where z is x and then y
after_first : (a x y z : Flow) → Alike (Then x y) z → Alike (Then (Then a x) y) (Then a z)
after_first a x y z A = record {
  pass = record {
    to = λ h. let s = passes_then (Then a x) y h in let t = passes_then a x s.0 in p.Passes.both t.0 (A.pass.to (p.Passes.both t.1 s.1));
    back = λ h. let s = passes_then a z h in let t = passes_then x y (A.pass.back s.1) in p.Passes.both (p.Passes.both s.0 t.0) t.1;
  };
  leave = λ d. record {
    to = λ h. ⊎_elim
        (λ (s : Leaves d (Then a x) × Passes y). ⊎_elim
        (λ (t : Leaves d a × Passes x). p.Leaves.first t.0 (A.pass.to (p.Passes.both t.1 s.1)))
        (λ (t : Leaves d x). p.Leaves.second ((A.leave d).to (p.Leaves.first t s.1)))
        (leaves_then d a x s.0))
        (λ (s : Leaves d y). p.Leaves.second ((A.leave d).to (p.Leaves.second s)))
        (leaves_then d (Then a x) y h);
    back = λ h. ⊎_elim
        (λ (s : Leaves d a × Passes z). let t = passes_then x y (A.pass.back s.1) in p.Leaves.first (p.Leaves.first s.0 t.0) t.1)
        (λ (s : Leaves d z). ⊎_elim
        (λ (t : Leaves d x × Passes y). p.Leaves.first (p.Leaves.second t.0) t.1)
        (λ (t : Leaves d y). p.Leaves.second t)
        (leaves_then d x y ((A.leave d).back s)))
        (leaves_then d a z h);
  };
  arrive = λ u. record {
    to = λ h. ⊎_elim
        (λ (s : Arrives u (Then a x)). ⊎_elim
        (λ (t : Arrives u a). p.Arrives.first t)
        (λ (t : Passes a × Arrives u x). p.Arrives.second t.0 ((A.arrive u).to (p.Arrives.first t.1)))
        (arrives_then u a x s))
        (λ (s : Passes (Then a x) × Arrives u y). let t = passes_then a x s.0 in p.Arrives.second t.0 ((A.arrive u).to (p.Arrives.second t.1 s.1)))
        (arrives_then u (Then a x) y h);
    back = λ h. ⊎_elim
        (λ (s : Arrives u a). p.Arrives.first (p.Arrives.first s))
        (λ (s : Passes a × Arrives u z). ⊎_elim
        (λ (t : Arrives u x). p.Arrives.first (p.Arrives.second s.0 t))
        (λ (t : Passes x × Arrives u y). p.Arrives.second (p.Passes.both s.0 t.0) t.1)
        (arrives_then u x y ((A.arrive u).back s.1)))
        (arrives_then u a z h);
  };
}

two_lines : (xs ys : List Flows) (k : ℕ) → Alike (Then (line xs k) (line ys k)) (line (xs ++ ys) k)
two_lines [] ys k = after_empty (line ys k)
two_lines (f ∷ xs) ys k = after_first (f k) (line xs k) (line ys k) (line (xs ++ ys) k) (two_lines xs ys k)

alike_sum : (s : Summary) (f g : Flows) → ((k : ℕ) → Alike (f k) (g k)) → IsSummary s f → IsSummary s g
alike_sum s f g A S = record {
  leave = λ k d. record { to = λ h. ((A k).leave d).to ((S.leave k d).to h); back = λ h. (S.leave k d).back (((A k).leave d).back h) };
  arrive = λ k u. record { to = λ h. ((A k).arrive u).to ((S.arrive k u).to h); back = λ h. (S.arrive k u).back (((A k).arrive u).back h) };
  pass = λ k. record { to = λ h. (A k).pass.to ((S.pass k).to h); back = λ h. (S.pass k).back ((A k).pass.back h) };
}

-- ---- halves

take_drop : (n : ℕ) (fs : List Flows) → take n fs ++ drop n fs ≡ fs
take_drop zero fs = refl
take_drop (suc n) [] = refl
take_drop (suc n) (f ∷ fs) = ap (λ (z : List Flows). f ∷ z) (take_drop n fs)

pub are_taken : (n : ℕ) (ss : List Summary) (fs : List Flows) → AreSummaries ss fs → AreSummaries (take n ss) (take n fs)
are_taken zero ss fs h = tt
are_taken (suc n) [] [] h = tt
are_taken (suc n) [] (f ∷ fs) h = absurd h
are_taken (suc n) (s ∷ ss) [] h = absurd h
are_taken (suc n) (s ∷ ss) (f ∷ fs) h = (h.0, are_taken n ss fs h.1)

pub are_left : (n : ℕ) (ss : List Summary) (fs : List Flows) → AreSummaries ss fs → AreSummaries (drop n ss) (drop n fs)
are_left zero ss fs h = h
are_left (suc n) [] [] h = tt
are_left (suc n) [] (f ∷ fs) h = absurd h
are_left (suc n) (s ∷ ss) [] h = absurd h
are_left (suc n) (s ∷ ss) (f ∷ fs) h = are_left n ss fs h.1

pub halves_sum : (n : ℕ) (s : Summary) (fs : List Flows) → IsSummary s (in_turn (line (take n fs)) (line (drop n fs))) → IsSummary s (line fs)
halves_sum n s fs S = subst (λ (z : List Flows). IsSummary s (line z)) (take_drop n fs) (alike_sum s (in_turn (line (take n fs)) (line (drop n fs))) (line (take n fs ++ drop n fs)) (two_lines (take n fs) (drop n fs)) S)

-- ---- edges across

module _ (types : List Ty) where
  abbrev Three : List Flows → List Flows → Edge → Type 0
  Three xs ys e = IsCross types xs e ⊎ (IsCross types ys e ⊎ IsOver types (line xs) (line ys) e)

  no_over : (g : Flows) (e : Edge) → IsOver types (line []) g e → ⊥
  no_over g e (over t l r) = elim l [ ]

  -- from the first over into what follows it
  from_first : (f : Flows) (xs ys : List Flows) (e : Edge) → IsOver types f (line (xs ++ ys)) e → Three (f ∷ xs) ys e
  from_first f xs ys e (over {k = k} {d = d} {u = u} t l r) = ⊎_elim
      (λ (s : Arrives u (line xs k)). inl (inl (over t l s)))
      (λ (s : Passes (line xs k) × Arrives u (line ys k)). inr (inr (over {k = k} t (p.Leaves.first l s.0) s.1)))
      (arrives_then u (line xs k) (line ys k) (((two_lines xs ys k).arrive u).back r))

  later_over : (f : Flows) (xs ys : List Flows) (e : Edge) → IsOver types (line xs) (line ys) e → IsOver types (line (f ∷ xs)) (line ys) e
  later_over f xs ys e (over {k = k} t l r) = over {k = k} t (p.Leaves.second l) r

  cross_to : (xs ys : List Flows) (e : Edge) → IsCross types (xs ++ ys) e → Three xs ys e
  cross_to [] ys e h = inr (inl h)
  cross_to (f ∷ xs) ys e h = ⊎_elim (λ (t : IsOver types f (line (xs ++ ys)) e). from_first f xs ys e t)
      (λ (t : IsCross types (xs ++ ys) e). ⊎_elim
      (λ (s : IsCross types xs e). inl (inr s))
      (λ (s : IsCross types ys e ⊎ IsOver types (line xs) (line ys) e). inr (⊎_elim inl (λ (v : IsOver types (line xs) (line ys) e). inr (later_over f xs ys e v)) s))
      (cross_to xs ys e t))
      h

  wider_over : (f : Flows) (xs ys : List Flows) (e : Edge) → IsOver types f (line xs) e → IsOver types f (line (xs ++ ys)) e
  wider_over f xs ys e (over {k = k} {u = u} t l r) = over {k = k} t l (((two_lines xs ys k).arrive u).to (p.Arrives.first r))

  over_back : (f : Flows) (xs ys : List Flows) (e : Edge) → (IsOver types (line xs) (line ys) e → IsCross types (xs ++ ys) e) → IsOver types (line (f ∷ xs)) (line ys) e → IsCross types ((f ∷ xs) ++ ys) e
  over_back f xs ys e rest (over {k = k} {d = d} {u = u} t l r) = ⊎_elim
      (λ (s : Leaves d (f k) × Passes (line xs k)). inl (over {k = k} t s.0 (((two_lines xs ys k).arrive u).to (p.Arrives.second s.1 r))))
      (λ (s : Leaves d (line xs k)). inr (rest (over {k = k} t s r)))
      (leaves_then d (f k) (line xs k) l)

  cross_back : (xs ys : List Flows) (e : Edge) → Three xs ys e → IsCross types (xs ++ ys) e
  cross_back [] ys e h = ⊎_elim (λ (t : IsCross types [] e). absurd t) (λ (t : IsCross types ys e ⊎ IsOver types (line []) (line ys) e). ⊎_elim (λ (s : IsCross types ys e). s) (λ (s : IsOver types (line []) (line ys) e). absurd (no_over (line ys) e s)) t) h
  cross_back (f ∷ xs) ys e h = ⊎_elim
      (λ (t : IsOver types f (line xs) e ⊎ IsCross types xs e). ⊎_elim (λ (s : IsOver types f (line xs) e). inl (wider_over f xs ys e s)) (λ (s : IsCross types xs e). inr (cross_back xs ys e (inl s))) t)
      (λ (t : IsCross types ys e ⊎ IsOver types (line (f ∷ xs)) (line ys) e). ⊎_elim
      (λ (s : IsCross types ys e). inr (cross_back xs ys e (inr (inl s))))
      (λ (s : IsOver types (line (f ∷ xs)) (line ys) e). over_back f xs ys e (λ v. cross_back xs ys e (inr (inr v))) s)
      t)
      h

  pub halves_cross : (n : ℕ) (fs : List Flows) (old one two new : List Edge) → Adds old one (IsCross types (take n fs)) → Adds one two (IsCross types (drop n fs)) → Adds two new (IsOver types (line (take n fs)) (line (drop n fs))) → Adds old new (IsCross types fs)
  halves_cross n fs old one two new A B C = λ e. record {
    to = λ h. ⊎_elim
        (λ (t : At two e). ⊎_elim
        (λ (s : At one e). ⊎_elim inl (λ (v : IsCross types (take n fs) e). inr (whole e (inl v))) ((A e).to s))
        (λ (s : IsCross types (drop n fs) e). inr (whole e (inr (inl s))))
        ((B e).to t))
        (λ (t : IsOver types (line (take n fs)) (line (drop n fs)) e). inr (whole e (inr (inr t))))
        ((C e).to h);
    back = λ h. ⊎_elim
        (λ (t : At old e). (C e).back (inl ((B e).back (inl ((A e).back (inl t))))))
        (λ (t : IsCross types fs e). ⊎_elim
        (λ (s : IsCross types (take n fs) e). (C e).back (inl ((B e).back (inl ((A e).back (inr s))))))
        (λ (s : IsCross types (drop n fs) e ⊎ IsOver types (line (take n fs)) (line (drop n fs)) e). ⊎_elim (λ (v : IsCross types (drop n fs) e). (C e).back (inl ((B e).back (inr v)))) (λ (v : IsOver types (line (take n fs)) (line (drop n fs)) e). (C e).back (inr v)) s)
        (cross_to (take n fs) (drop n fs) e (subst (λ (z : List Flows). IsCross types z e) (sym (take_drop n fs)) t)))
        h;
  }
    where
      whole : (e : Edge) → Three (take n fs) (drop n fs) e → IsCross types fs e
      whole e t = subst (λ (z : List Flows). IsCross types z e) (take_drop n fs) (cross_back (take n fs) (drop n fs) e t)

  -- ---- trees

  line_shape : (ts : List Tree) (k : ℕ) → line (flows_in ts) k ≡ shapes ts k
  line_shape [] k = refl
  line_shape (t ∷ ts) k = ap (λ (z : Flow). Then (shape k t) z) (line_shape ts k)

  no_met : (e : Edge) → IsMet types (line []) e → ⊥
  no_met e (met t m) = elim m [ ]

  met_first : (t : Tree) (ts : List Tree) (e : Edge) → IsMet types (line (flows_in (t ∷ ts))) e → IsMet types (flows_of t) e ⊎ (IsMet types (line (flows_in ts)) e ⊎ IsOver types (flows_of t) (line (flows_in ts)) e)
  met_first t ts e (met {k = k} {d = d} {u = u} h m) = ⊎_elim
      (λ (s : Meets d u (flows_of t k)). inl (met {k = k} h s))
      (λ (s : Meets d u (line (flows_in ts) k) ⊎ (Leaves d (flows_of t k) × Arrives u (line (flows_in ts) k))). inr (⊎_elim (λ (v : Meets d u (line (flows_in ts) k)). inl (met {k = k} h v)) (λ (v : Leaves d (flows_of t k) × Arrives u (line (flows_in ts) k)). inr (over {k = k} h v.0 v.1)) s))
      (meets_then d u (flows_of t k) (line (flows_in ts) k) m)

  line_to : (ts : List Tree) (e : Edge) → IsMet types (line (flows_in ts)) e → IsWithin types ts e ⊎ IsCross types (flows_in ts) e
  line_to [] e h = absurd (no_met e h)
  line_to (t ∷ ts) e h = ⊎_elim
      (λ (s : IsMet types (flows_of t) e). inl (inl s))
      (λ (s : IsMet types (line (flows_in ts)) e ⊎ IsOver types (flows_of t) (line (flows_in ts)) e). ⊎_elim
      (λ (v : IsMet types (line (flows_in ts)) e). ⊎_elim (λ (x : IsWithin types ts e). inl (inr x)) (λ (x : IsCross types (flows_in ts) e). inr (inr x)) (line_to ts e v))
      (λ (v : IsOver types (flows_of t) (line (flows_in ts)) e). inr (inl v))
      s)
      (met_first t ts e h)

  first_met : (t : Tree) (ts : List Tree) (e : Edge) → IsMet types (flows_of t) e → IsMet types (line (flows_in (t ∷ ts))) e
  first_met t ts e (met {k = k} h m) = met {k = k} h (p.Meets.in_first m)

  second_met : (t : Tree) (ts : List Tree) (e : Edge) → IsMet types (line (flows_in ts)) e → IsMet types (line (flows_in (t ∷ ts))) e
  second_met t ts e (met {k = k} h m) = met {k = k} h (p.Meets.in_second m)

  over_met : (t : Tree) (ts : List Tree) (e : Edge) → IsOver types (flows_of t) (line (flows_in ts)) e → IsMet types (line (flows_in (t ∷ ts))) e
  over_met t ts e (over {k = k} h l r) = met {k = k} h (p.Meets.over l r)

  line_back : (ts : List Tree) (e : Edge) → IsWithin types ts e ⊎ IsCross types (flows_in ts) e → IsMet types (line (flows_in ts)) e
  line_back [] e h = ⊎_elim (λ (t : IsWithin types [] e). absurd t) (λ (t : IsCross types [] e). absurd t) h
  line_back (t ∷ ts) e h = ⊎_elim
      (λ (s : IsMet types (flows_of t) e ⊎ IsWithin types ts e). ⊎_elim (λ (v : IsMet types (flows_of t) e). first_met t ts e v) (λ (v : IsWithin types ts e). second_met t ts e (line_back ts e (inl v))) s)
      (λ (s : IsOver types (flows_of t) (line (flows_in ts)) e ⊎ IsCross types (flows_in ts) e). ⊎_elim (λ (v : IsOver types (flows_of t) (line (flows_in ts)) e). over_met t ts e v) (λ (v : IsCross types (flows_in ts) e). second_met t ts e (line_back ts e (inr v))) s)
      h

  same_met : (f g : Flows) → ((k : ℕ) → f k ≡ g k) → (e : Edge) → IsMet types f e → IsMet types g e
  same_met f g same e (met {k = k} {d = d} {u = u} h m) = met {k = k} h (subst (λ (z : Flow). Meets d u z) (same k) m)

  pub trees_met : (ts : List Tree) (old mid new : List Edge) → Adds old mid (IsWithin types ts) → Adds mid new (IsCross types (flows_in ts)) → Adds old new (IsMet types (shapes ts))
  trees_met ts old mid new A B = λ e. record {
    to = λ h. ⊎_elim
        (λ (t : At mid e). ⊎_elim inl (λ (s : IsWithin types ts e). inr (same_met (line (flows_in ts)) (shapes ts) (line_shape ts) e (line_back ts e (inl s)))) ((A e).to t))
        (λ (t : IsCross types (flows_in ts) e). inr (same_met (line (flows_in ts)) (shapes ts) (line_shape ts) e (line_back ts e (inr t))))
        ((B e).to h);
    back = λ h. ⊎_elim
        (λ (t : At old e). (B e).back (inl ((A e).back (inl t))))
        (λ (t : IsMet types (shapes ts) e). ⊎_elim
        (λ (s : IsWithin types ts e). (B e).back (inl ((A e).back (inr s))))
        (λ (s : IsCross types (flows_in ts) e). (B e).back (inr s))
        (line_to ts e (same_met (shapes ts) (line (flows_in ts)) (λ k. sym (line_shape ts k)) e t)))
        h;
  }

pub trees_sum : (ts : List Tree) (s : Summary) → IsSummary s (line (flows_in ts)) → IsSummary s (shapes ts)
trees_sum ts s S = same_sum s (line (flows_in ts)) (shapes ts) (line_shape [] ts) S
