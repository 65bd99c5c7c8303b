-- For one node and its counter: how far what ran is behind what was marked, at each point of a run.
use Rattle.std.proofs.Common.{◌≡◌, ℕ, ◌+◌, nat_eq, Bool, true, false, if◌then◌else◌, List, [], ◌∷◌, ◌++◌, subst, arith}
use Rattle.px_value.specs.Outcome.{Outcome, Gives, Throws, Asks, then_run}
use Rattle.px_effects.specs.Run.{Shared}
use Rattle.px_effects.specs.Act.{Place}
use Rattle.px_mean.specs.Run.{Frame as SourceFrame}
use Rattle.px_normal.specs.declared.node.Counter.{Counter}
use Rattle.px_normal.specs.Run.{Ran, Traced, Frame, noted}
use Rattle.px_counts.specs.Marks.{Mark, Marked, same_mark, times}
use Rattle.px_counts.proofs.Unmarked.{unmarked_frame, unmarked_here}
use Rattle.px_preservation.proofs.Meets.{Meets}
use Rattle.px_counted.specs.Laws.{mark_of, runs_of}

-- ---- one more

abbrev pub one_if : Bool → ℕ
one_if b = if b then 1 else 0

plus_one_if : (b : Bool) (n : ℕ) → (if b then 1 + n else n) ≡ n + one_if b
plus_one_if true n = omega (arith)
plus_one_if false n = omega (arith)

one_before : (b : Bool) (p n x : ℕ) → p ≡ n + x → (if b then 1 + p else p) ≡ (if b then 1 + n else n) + x
one_before true p n x h = omega (arith, h)
one_before false p n x h = h

pub more_times : (m x : Mark) (xs : List Mark) → times m (xs ++ x ∷ []) ≡ times m xs + one_if (same_mark m x)
more_times m x [] = plus_one_if (same_mark m x) 0
more_times m x (y ∷ ys) = one_before (same_mark m y) (times m (ys ++ x ∷ [])) (times m ys) (one_if (same_mark m x)) (more_times m x ys)

pub more_runs : (k : ℕ) (r : Ran) (rs : List Ran) → runs_of k (rs ++ r ∷ []) ≡ runs_of k rs + one_if (nat_eq k r.node)
more_runs k r [] = plus_one_if (nat_eq k r.node) 0
more_runs k r (q ∷ rs) = one_before (nat_eq k q.node) (runs_of k (rs ++ r ∷ [])) (runs_of k rs) (one_if (nat_eq k r.node)) (more_runs k r rs)

module _ (Q W : Type 0) (k : ℕ) (counter : Counter) where
  -- so many marks of the counter have no run of the node yet
  abbrev pub IsBehind : ℕ → Shared (Marked W) → Traced W → Type 0
  IsBehind n s g = runs_of k g.ran + n ≡ times (mark_of counter) s.world.marks

  abbrev pub AreBehind : ℕ → SourceFrame (Marked W) → Frame W → Type 0
  AreBehind n s c = IsBehind n s.shared c.shared

  -- at a value so many are left, and at a throw none
  abbrev pub Counted : {A B : Type 0} → ℕ → Outcome Q (SourceFrame (Marked W)) A → Outcome Q (Frame W) B → Type 0
  Counted n (Gives a s) (Gives b c) = AreBehind n s c
  Counted n (Throws t s) (Throws u c) = AreBehind 0 s c
  Counted n _ _ = Unit {0}

  abbrev pub hits : ℕ → ℕ
  hits node = one_if (nat_eq k node)

  -- the node's run is noted
  pub note_behind : (m n : ℕ) (node : ℕ) (reads writes : List Place) (s : Shared (Marked W)) (g : Traced W) → m ≡ hits node + n → IsBehind m s g → IsBehind n s (noted node reads writes g)
  note_behind m n node reads writes s g e h = let x = more_runs k (record { node = node; reads = reads; writes = writes }) g.ran in omega (arith, x, e, h)

  -- one more mark
  abbrev pub marks : Mark → ℕ
  marks m = one_if (same_mark (mark_of counter) m)

  abbrev pub with_mark : Mark → Shared (Marked W) → Shared (Marked W)
  with_mark m s = record s { world = record s.world { marks = s.world.marks ++ m ∷ [] } }

  pub mark_behind : (n p : ℕ) (m : Mark) (s : Shared (Marked W)) (g : Traced W) → p ≡ n + marks m → IsBehind n s g → IsBehind p (with_mark m s) g
  mark_behind n p m s g e h = let x = more_times (mark_of counter) m s.world.marks in omega (arith, x, e, h)

  -- ---- one after the other

  pub counted_bind : (A B A' B' : Type 0) (o : Outcome Q (SourceFrame (Marked W)) A) (p : Outcome Q (Frame W) B) (R : A → SourceFrame W → B → Frame W → Type 0) (T : SourceFrame W → Frame W → Type 0) (m n : ℕ) (f : A → SourceFrame (Marked W) → Outcome Q (SourceFrame (Marked W)) A') (g : B → Frame W → Outcome Q (Frame W) B')
      → Meets (unmarked_here Q W A o) p R T → Counted m o p → ((a : A) (s : SourceFrame (Marked W)) (b : B) (c : Frame W) → R a (unmarked_frame Q W s) b c → AreBehind m s c → Counted n (f a s) (g b c)) → Counted n (then_run o f) (then_run p g)
  counted_bind A B A' B' (Gives a s) (Gives b c) R T m n f g h j next =
      let e = h.2 in
      let same_value : h.0 ≡ a = cc e in
      let same_state : h.1 ≡ unmarked_frame Q W s = cc e in
      next a s b c (subst (λ x. R x (unmarked_frame Q W s) b c) same_value (subst (λ x. R h.0 x b c) same_state h.3)) j
  counted_bind A B A' B' (Gives a s) (Throws t c) R T m n f g h j next = let e = h.1 in absurd (cc e)
  counted_bind A B A' B' (Gives a s) (Asks q c) R T m n f g h j next = let e = h.1 in absurd (cc e)
  counted_bind A B A' B' (Throws t s) (Gives b c) R T m n f g h j next = let e = h.2 in absurd (cc e)
  counted_bind A B A' B' (Throws t s) (Throws u c) R T m n f g h j next = j
  counted_bind A B A' B' (Throws t s) (Asks q c) R T m n f g h j next = tt
  counted_bind A B A' B' (Asks q s) p R T m n f g h j next = tt
