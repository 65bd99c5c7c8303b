-- Cells in order, as a sorted set has them.
use Rattle.std.proofs.Common.{◌≡◌, ℕ, zero, suc, ◌+◌, ◌<◌, ◌≤◌, Bool, true, false, ◌&&◌, ◌||◌, List, [], ◌∷◌, map, length, drop, get_or, refl, sym, ap, ◌∙◌, arith}
use Rattle.std.specs.declared.cmp.Ordering.{Ordering}
use Rattle.std.specs.declared.cmp.Ordering.TheVariants.{Less, Equal, Greater}
use Rattle.std.specs.Ordering.{nat_cmp, ordering_then, match_ordering, MatchOrdering}
use Rattle.std.specs.Cmp.{ranks}
use Rattle.std.specs.BTreeSet.{insert_key}
use Rattle.std.proofs.lemmas.List.{drop_more}
use Rattle.px_effects.specs.Act.{Place as Cell}
use Rattle.px_blocks.specs.Sides.{same, same_cell}
use Rattle.px_blocks.specs.Message.{before, is_before, put_in_if, put_in, in_order}
use Rattle.px_control.specs.declared.marks.Mark.{Mark}
use Rattle.px_control.specs.contracts.marks.MarkOrd.TheImpl.{cmp-value}
use Rattle.px_control.specs.Marks.{cell_of}

-- ---- numbers

same_above : (m n : ℕ) → m < n → same n m ≡ false
same_above zero zero h = absurd (omega arith)
same_above zero (suc n) h = refl
same_above (suc m) zero h = absurd (omega arith)
same_above (suc m) (suc n) h = let less : m < n = omega arith in same_above m n less

same_below : (m n : ℕ) → m < n → same m n ≡ false
same_below zero zero h = absurd (omega arith)
same_below zero (suc n) h = refl
same_below (suc m) zero h = absurd (omega arith)
same_below (suc m) (suc n) h = let less : m < n = omega arith in same_below m n less

same_self : (n : ℕ) → same n n ≡ true
same_self zero = refl
same_self (suc n) = same_self n

before_above : (m n : ℕ) → m < n → before m n ≡ true
before_above zero zero h = absurd (omega arith)
before_above zero (suc n) h = refl
before_above (suc m) zero h = absurd (omega arith)
before_above (suc m) (suc n) h = let less : m < n = omega arith in before_above m n less

not_before : (m n : ℕ) → n ≤ m → before m n ≡ false
not_before zero zero h = refl
not_before zero (suc n) h = absurd (omega arith)
not_before (suc m) zero h = refl
not_before (suc m) (suc n) h = let less : n ≤ m = omega arith in not_before m n less

-- what an order tells of two numbers m and n: of `same n m`, `same m n` and `before m n`
abbrev Tells : Ordering → Bool → Bool → Bool → Type 0
Tells Less s t f = (s ≡ false) × (f ≡ true)
Tells Equal s t f = (s ≡ true) × (t ≡ true) × (f ≡ false)
Tells Greater s t f = (s ≡ false) × (t ≡ false) × (f ≡ false)

equal_tells : (m n : ℕ) → m ≡ n → Tells Equal (same n m) (same m n) (before m n)
equal_tells m n e =
    (ap (same n) e ∙ same_self n, ap (λ (k : ℕ). same k n) e ∙ same_self n, not_before m n (omega arith))

ranked : (o : Ordering) (m n : ℕ) → MatchOrdering o (m < n) (m ≡ n) (n < m) → Tells o (same n m) (same m n) (before m n)
ranked Less m n h = (same_above m n h, before_above m n h)
ranked Equal m n h = equal_tells m n h
ranked Greater m n h = let low : n ≤ m = omega arith in (same_below n m h, same_above n m h, not_before m n low)

tells : (m n : ℕ) → Tells (nat_cmp m n) (same n m) (same m n) (before m n)
tells m n = ranked (nat_cmp m n) m n (ranks m n)

-- ---- cells

abbrev TellsCells : Ordering → Bool → Bool → Type 0
TellsCells Less s f = (s ≡ false) × (f ≡ true)
TellsCells Equal s f = s ≡ true
TellsCells Greater s f = (s ≡ false) × (f ≡ false)

then_alike : (p : Ordering) (s t f : Bool) → Tells p s t f → TellsCells p s f
then_alike Less s t f h = h
then_alike Equal s t f h = h.0
then_alike Greater s t f h = (h.0, h.2)

rewrite_cells : (p : Ordering) (s f x y : Bool) → x ≡ s → y ≡ f → TellsCells p s f → TellsCells p x y
rewrite_cells Less s f x y a b h = (a ∙ h.0, b ∙ h.1)
rewrite_cells Equal s f x y a b h = a ∙ h
rewrite_cells Greater s f x y a b h = (a ∙ h.0, b ∙ h.1)

both_tell : (o p : Ordering) (s t f u v g : Bool) → Tells o s t f → Tells p u v g → TellsCells (ordering_then o p) (s && u) (f || (t && g))
both_tell Less p s t f u v g h k = (ap (λ (b : Bool). b && u) h.0, ap (λ (b : Bool). b || (t && g)) h.1)
both_tell Equal p s t f u v g h k = rewrite_cells p u g (s && u) (f || (t && g)) (ap (λ (b : Bool). b && u) h.0) (ap (λ (b : Bool). b || (t && g)) h.2 ∙ ap (λ (b : Bool). b && g) h.1) (then_alike p u v g k)
both_tell Greater p s t f u v g h k = (ap (λ (b : Bool). b && u) h.0, ap (λ (b : Bool). b || (t && g)) h.2 ∙ ap (λ (b : Bool). b && g) h.1)

put_step : (o : Ordering) (s f : Bool) (k x : Mark) (ks rest : List Mark) (more : List Cell) → TellsCells o s f → map cell_of rest ≡ more → map cell_of (match_ordering o (k ∷ x ∷ ks) (x ∷ ks) (x ∷ rest)) ≡ put_in_if s f (cell_of k) (cell_of x) (map cell_of ks) more
put_step Less s f k x ks rest more h e =
    sym (ap (λ (b : Bool). put_in_if b f (cell_of k) (cell_of x) (map cell_of ks) more) h.0 ∙ ap (λ (b : Bool). put_in_if false b (cell_of k) (cell_of x) (map cell_of ks) more) h.1)
put_step Equal s f k x ks rest more h e =
    sym (ap (λ (b : Bool). put_in_if b f (cell_of k) (cell_of x) (map cell_of ks) more) h)
put_step Greater s f k x ks rest more h e =
    ap (λ (cs : List Cell). cell_of x ∷ cs) e
    ∙ sym (ap (λ (b : Bool). put_in_if b f (cell_of k) (cell_of x) (map cell_of ks) more) h.0 ∙ ap (λ (b : Bool). put_in_if false b (cell_of k) (cell_of x) (map cell_of ks) more) h.1)

mark_tells : (k x : Mark) → TellsCells (cmp-value.it k x) (same_cell k.object k.index x.object x.index) (is_before (cell_of k) (cell_of x))
mark_tells k x = both_tell (nat_cmp k.object x.object) (nat_cmp k.index x.index) _ _ _ _ _ _ (tells k.object x.object) (tells k.index x.index)

pub put_is : (k : Mark) (ks : List Mark) → map cell_of (insert_key cmp-value.it ks k) ≡ put_in (cell_of k) (map cell_of ks)
put_is k [] = refl
put_is k (x ∷ ks) = put_step (cmp-value.it k x) (same_cell k.object k.index x.object x.index) (is_before (cell_of k) (cell_of x)) k x ks (insert_key cmp-value.it ks k) (put_in (cell_of k) (map cell_of ks)) (mark_tells k x) (put_is k ks)

-- one mark more, from the end
pub put_next : (marks keys new : List Mark) (at i : ℕ) (d : Mark) → i < length marks → at ≡ i + 1 → new ≡ insert_key cmp-value.it keys (get_or marks i d) → map cell_of keys ≡ in_order (map cell_of (drop at marks)) → map cell_of new ≡ in_order (map cell_of (drop i marks))
put_next marks keys new at i d h a n is =
    ap (λ (ks : List Mark). map cell_of ks) n
    ∙ put_is (get_or marks i d) keys
    ∙ ap (put_in (cell_of (get_or marks i d))) (is ∙ ap (λ (k : ℕ). in_order (map cell_of (drop k marks))) a)
    ∙ sym (ap (λ (ms : List Mark). in_order (map cell_of ms)) (drop_more marks i d h))
