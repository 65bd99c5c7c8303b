-- Drafts and frames as expressions go on.
use Rattle.std.proofs.Common.{◌≡◌, ℕ, ◌+◌, ◌<◌, ◌≤◌, List, [], ◌∷◌, ◌++◌, append_assoc, length, length-append, Option, Some, None, slice_get, unwrap_or, refl, sym, ap, ◌∙◌, arith}
use Rattle.px_value.specs.declared.value.Value.{Value}
use Rattle.px_value.specs.declared.value.Value.TheVariants.{Null}
use Rattle.px_mean.specs.Run.{Frame as SourceFrame}
use Rattle.px_normal.specs.declared.word.Operand.{Operand}
use Rattle.px_normal.specs.declared.word.Operand.TheVariants.{Slot, Literal}
use Rattle.px_normal.specs.Run.{Frame}
use Rattle.px_normal.specs.Words.{operand, operands, with_slot}
use Rattle.px_preservation.proofs.Slots.{set_length, set_other, set_here}
use Rattle.px_preservation.proofs.Agree.{Agree, Shares, After, Wrote, IsBelow, AreBelow}

-- ---- drafts

pub behind : {A : Type 0} (a b c x y : List A) → b ≡ a ++ x → c ≡ b ++ y → c ≡ a ++ (x ++ y)
behind a b c x y h k = k ∙ ap (λ l. l ++ y) h ∙ append_assoc a x y

pub grown : {A : Type 0} (a b x : List A) → b ≡ a ++ x → length a ≤ length b
grown {A = A} a b x h = let e : length b ≡ length a + length x = ap (λ (l : List A). length l) h ∙ length-append a x in omega (arith, e)

pub one_more : {A : Type 0} (a : List A) (x : A) → length a < length (a ++ x ∷ [])
one_more a x = let e = length-append a (x ∷ []) in omega (arith, e)

-- ---- frames

module _ (W : Type 0) where
  pub after_none : (low : ℕ) (s : SourceFrame W) (c : Frame W) → Shares W s c → After W low s s c c
  after_none low s c h = record { same = refl; shared = h; size = refl; kept = λ j l. refl }

  pub after_then : (low high : ℕ) (s s1 s2 : SourceFrame W) (c c1 c2 : Frame W) → low ≤ high → After W low s s1 c c1 → After W high s1 s2 c1 c2 → After W low s s2 c c2
  after_then low high s s1 s2 c c1 c2 l a b = record {
    same = b.same ∙ a.same;
    shared = b.shared;
    size = b.size ∙ a.size;
    kept = λ j m. b.kept j (omega (arith, m, l)) ∙ a.kept j m;
  }

  pub agree_after : (n low : ℕ) (s s1 : SourceFrame W) (c c1 : Frame W) → n ≤ low → Agree W n s c → After W low s s1 c c1 → Agree W n s1 c1
  agree_after n low s s1 c c1 l g a = record {
    locals = λ j m. ap (λ xs. slice_get xs j) a.same ∙ g.locals j m ∙ sym (a.kept j (omega (arith, m, l)));
    shared = a.shared;
  }

  pub operand_after : (low : ℕ) (s s1 : SourceFrame W) (c c1 : Frame W) (a : Operand) → IsBelow low a → After W low s s1 c c1 → operand c1.locals a ≡ operand c.locals a
  operand_after low s s1 c c1 (Slot k) b h = ap (λ (v : Option Value). unwrap_or v Null) (h.kept k b)
  operand_after low s s1 c c1 (Literal v) b h = refl

  pub operands_after : (low : ℕ) (s s1 : SourceFrame W) (c c1 : Frame W) (xs : List Operand) → AreBelow low xs → After W low s s1 c c1 → operands c1.locals xs ≡ operands c.locals xs
  operands_after low s s1 c c1 [] b h = refl
  operands_after low s s1 c c1 (a ∷ xs) b h = λ i. operand_after low s s1 c c1 a b.0 h i ∷ operands_after low s s1 c c1 xs b.1 h i

  pub below_more : (low high : ℕ) (a : Operand) → low ≤ high → IsBelow low a → IsBelow high a
  below_more low high (Slot k) l b = omega (arith, l, b)
  below_more low high (Literal v) l b = tt

  pub are_below_more : (low high : ℕ) (xs : List Operand) → low ≤ high → AreBelow low xs → AreBelow high xs
  are_below_more low high [] l b = tt
  are_below_more low high (a ∷ xs) l b = (below_more low high a l b.0, are_below_more low high xs l b.1)

  -- one slot was written, behind an expression
  pub wrote_slot : (low : ℕ) (to : Option ℕ) (v : Value) (s s1 s2 : SourceFrame W) (c c1 c2 : Frame W) → After W low s s1 c c1 → s2.locals ≡ s1.locals → Shares W s2 c2 → c2.locals ≡ with_slot to v c1.locals → Wrote W low to v s s2 c c2
  wrote_slot low None v s s1 s2 c c1 c2 a e h w = record {
    same = e ∙ a.same;
    shared = h;
    size = ap (λ (xs : List Value). length xs) w ∙ a.size;
    kept = λ j l u. ap (λ xs. slice_get xs j) w ∙ a.kept j l;
    written = λ k u l. cc;
  }
  wrote_slot low (Some k) v s s1 s2 c c1 c2 a e h w = record {
    same = e ∙ a.same;
    shared = h;
    size = ap (λ (xs : List Value). length xs) w ∙ set_length c1.locals k v ∙ a.size;
    kept = λ j l u. ap (λ xs. slice_get xs j) w ∙ set_other c1.locals k j v (λ q. u (ap Some q)) ∙ a.kept j l;
    written = λ j u l. written j (same_slot j u) l;
  }
    where
      same_slot : (j : ℕ) → Some k ≡ Some j → k ≡ j
      same_slot j u = cc u

      written : (j : ℕ) → k ≡ j → j < length c.locals → slice_get c2.locals j ≡ Some v
      written j q l = ap (λ xs. slice_get xs j) w ∙ ap (λ m. slice_get (with_slot (Some m) v c1.locals) j) q ∙ set_here c1.locals j v (omega (arith, l, a.size))

  -- a slot that isn't below is written
  pub wrote_above : (low k : ℕ) (v : Value) (s s1 : SourceFrame W) (c c1 : Frame W) → low ≤ k → Wrote W low (Some k) v s s1 c c1 → After W low s s1 c c1
  wrote_above low k v s s1 c c1 l w = record { same = w.same; shared = w.shared; size = w.size; kept = λ j m. w.kept j m (λ u. other j m (cc u)) }
    where
      other : (j : ℕ) → j < low → k ≡ j → ⊥
      other j m u = omega (arith, l, m, u)

  -- none was written
  pub wrote_none : (low : ℕ) (v : Value) (s s1 : SourceFrame W) (c c1 : Frame W) → Wrote W low None v s s1 c c1 → After W low s s1 c c1
  wrote_none low v s s1 c c1 w = record { same = w.same; shared = w.shared; size = w.size; kept = λ j m. w.kept j m (λ u. cc u) }
