-- Summaries of single statements.
use Rattle.std.proofs.Common.{◌≡◌, ℕ, nat_eq, Bool, true, false, not, ◌&&◌, ◌||◌, List, [], ◌∷◌, Option, Some, None, refl, sym, ap, ◌∙◌, ◌⊎◌, ⊎_elim, subst}
use Rattle.px_constraints.specs.System.{At}
use Rattle.px_normal.specs.declared.word.Operand.{Operand}
use Rattle.px_normal.specs.declared.word.Word.{Word}
use Rattle.px_normal.specs.declared.word.Word.TheVariants as w
use Rattle.px_normal.specs.Words.{to_of, is_return}
use Rattle.px_flow_points.specs.Laws.{Both}
use Rattle.px_depend.specs.declared.places.Place.{Place}
use Rattle.px_depend.specs.declared.summary.Summary.{Summary}
use Rattle.px_depend.specs.Flow.{Flow, Empty, Step, Then, Stop}
use Rattle.px_depend.specs.Paths.{Passes, Arrives, Leaves, Meets}
use Rattle.px_depend.specs.Paths as p
use Rattle.px_depend.specs.Places.{place, places_at, passes, Flows, IsSummary}
use Rattle.px_depend.specs.Shapes.{is_slot, after_word}
use Rattle.px_depend.specs.Uses.{has, used, uses}
use Rattle.px_depend.specs.Summaries.{slots_in, IsOfWord, IsOfTest, IsEmpty, IsCopy}
use Rattle.px_flow_points.proofs.Elements.{in_none, in_cons, in_head, in_tail}
use Rattle.px_depend.proofs.Lists.{same_slot, same_node, self_equal}
use Rattle.px_depend.proofs.Truths.{or_to, or_first, or_second, same_number}
use Rattle.px_depend.proofs.Turns.{leaves_then, arrives_then, passes_then, meets_then}

-- ---- one step

arrives_step : (u n : ℕ) (r w : Bool) → Arrives u (Step n r w) → (u ≡ n) × (r ≡ true)
arrives_step u n r w p.Arrives.here = (refl, refl)

leaves_step : (d n : ℕ) (r w : Bool) → Leaves d (Step n r w) → (d ≡ n) × (w ≡ true)
leaves_step d n r w p.Leaves.here = (refl, refl)

passes_step : (n : ℕ) (r w : Bool) → Passes (Step n r w) → w ≡ false
passes_step n r w p.Passes.step = refl

step_arrives : (u n : ℕ) (r w : Bool) → u ≡ n → r ≡ true → Arrives u (Step n r w)
step_arrives u n r w e t = subst (λ (b : Bool). Arrives u (Step n b w)) (sym t) (subst (λ (m : ℕ). Arrives u (Step m true w)) e p.Arrives.here)

step_leaves : (d n : ℕ) (r w : Bool) → d ≡ n → w ≡ true → Leaves d (Step n r w)
step_leaves d n r w e t = subst (λ (b : Bool). Leaves d (Step n r b)) (sym t) (subst (λ (m : ℕ). Leaves d (Step m r true)) e p.Leaves.here)

step_passes : (n : ℕ) (r w : Bool) → w ≡ false → Passes (Step n r w)
step_passes n r w t = subst (λ (b : Bool). Passes (Step n r b)) (sym t) p.Passes.step

-- ---- lists of one statement

places_to : (node : ℕ) (xs : List ℕ) (u k : ℕ) → At (places_at node xs) (place u k) → (u ≡ node) × (has k xs ≡ true)
places_to node [] u k h = absurd (in_none (place u k) h)
places_to node (x ∷ xs) u k h = ⊎_elim
    (λ (e : place node x ≡ place u k). (sym (same_node node u x k e), or_first (nat_eq k x) (has k xs) (ap (λ (n : ℕ). nat_eq k n) (same_slot node u x k e) ∙ self_equal k)))
    (λ (t : At (places_at node xs) (place u k)). let r = places_to node xs u k t in (r.0, or_second (nat_eq k x) (has k xs) r.1))
    (in_cons (place node x) (places_at node xs) (place u k) h)

places_back : (node : ℕ) (xs : List ℕ) (k : ℕ) → has k xs ≡ true → At (places_at node xs) (place node k)
places_back node [] k h = cc
places_back node (x ∷ xs) k h = ⊎_elim
    (λ (e : nat_eq k x ≡ true). subst (λ (n : ℕ). At (place node n ∷ places_at node xs) (place node k)) (same_number k x e) (in_head (place node k) (places_at node xs)))
    (λ (t : has k xs ≡ true). in_tail (place node x) (places_at node xs) (place node k) (places_back node xs k t))
    (or_to (nat_eq k x) (has k xs) h)

or_false : (b : Bool) → (b || false) ≡ b
or_false true = refl
or_false false = refl

slot_has : (k : ℕ) (o : Option ℕ) → has k (slots_in o) ≡ is_slot k o
slot_has k None = refl
slot_has k (Some n) = or_false (nat_eq k n)

not_true : (b : Bool) → not b ≡ true → b ≡ false
not_true true h = cc
not_true false h = refl

true_not : (b : Bool) → b ≡ false → not b ≡ true
true_not true h = cc
true_not false h = refl

at_list : (xs ys : List Place) (q : Place) → xs ≡ ys → At ys q → At xs q
at_list xs ys q e h = subst (λ (z : List Place). At z q) (sym e) h

passes_of : (s : Summary) (k : ℕ) (slots : List ℕ) → s.written.items ≡ slots → s.completes ≡ true → passes s k ≡ not (has k slots)
passes_of s k slots w c = ap (λ (b : Bool). b && not (has k s.written.items)) c ∙ ap (λ (z : List ℕ). not (has k z)) w

pub step_sum : (s : Summary) (node : ℕ) (xs : List ℕ) (o : Option ℕ) → s.leave.items ≡ places_at node (slots_in o) → s.arrive.items ≡ places_at node xs → s.written.items ≡ slots_in o → s.completes ≡ true → IsSummary s (λ k. Step node (has k xs) (is_slot k o))
step_sum s node xs o l a w c = record {
  leave = λ k d. record {
    to = λ h. let t = places_to node (slots_in o) d k (at_list (places_at node (slots_in o)) s.leave.items (place d k) (sym l) h) in step_leaves d node (has k xs) (is_slot k o) t.0 (sym (slot_has k o) ∙ t.1);
    back = λ h. let t = leaves_step d node (has k xs) (is_slot k o) h in at_list s.leave.items (places_at node (slots_in o)) (place d k) l (subst (λ (n : ℕ). At (places_at node (slots_in o)) (place n k)) (sym t.0) (places_back node (slots_in o) k (slot_has k o ∙ t.1)));
  };
  arrive = λ k u. record {
    to = λ h. let t = places_to node xs u k (at_list (places_at node xs) s.arrive.items (place u k) (sym a) h) in step_arrives u node (has k xs) (is_slot k o) t.0 t.1;
    back = λ h. let t = arrives_step u node (has k xs) (is_slot k o) h in at_list s.arrive.items (places_at node xs) (place u k) a (subst (λ (n : ℕ). At (places_at node xs) (place n k)) (sym t.0) (places_back node xs k t.1));
  };
  pass = λ k. record {
    to = λ h. step_passes node (has k xs) (is_slot k o) (sym (slot_has k o) ∙ not_true (has k (slots_in o)) (sym (passes_of s k (slots_in o) w c) ∙ h));
    back = λ h. passes_of s k (slots_in o) w c ∙ true_not (has k (slots_in o)) (slot_has k o ∙ passes_step node (has k xs) (is_slot k o) h);
  };
}

-- ---- nothing behind, or the end

pub then_empty : (s : Summary) (f : Flows) → IsSummary s f → IsSummary s (λ k. Then (f k) Empty)
then_empty s f S = record {
  leave = λ k d. record {
    to = λ h. p.Leaves.first ((S.leave k d).to h) p.Passes.empty;
    back = λ h. ⊎_elim (λ (t : Leaves d (f k) × Passes Empty). (S.leave k d).back t.0) (λ (t : Leaves d Empty). elim t [ ]) (leaves_then d (f k) Empty h);
  };
  arrive = λ k u. record {
    to = λ h. p.Arrives.first ((S.arrive k u).to h);
    back = λ h. ⊎_elim (λ (t : Arrives u (f k)). (S.arrive k u).back t) (λ (t : Passes (f k) × Arrives u Empty). elim t.1 [ ]) (arrives_then u (f k) Empty h);
  };
  pass = λ k. record {
    to = λ h. p.Passes.both ((S.pass k).to h) p.Passes.empty;
    back = λ h. (S.pass k).back (passes_then (f k) Empty h).0;
  };
}

stopped : (s : Summary) (k : ℕ) → s.completes ≡ false → passes s k ≡ false
stopped s k c = ap (λ (b : Bool). b && not (has k s.written.items)) c

stop_sum : (s : Summary) (node : ℕ) (xs : List ℕ) (w : ℕ → Bool) → s.leave.items ≡ [] → s.arrive.items ≡ places_at node xs → s.completes ≡ false → IsSummary s (λ k. Then (Step node (has k xs) (w k)) Stop)
stop_sum s node xs w l a c = record {
  leave = λ k d. record {
    to = λ h. absurd (in_none (place d k) (at_list [] s.leave.items (place d k) (sym l) h));
    back = λ h. ⊎_elim (λ (t : Leaves d (Step node (has k xs) (w k)) × Passes Stop). elim t.1 [ ]) (λ (t : Leaves d Stop). elim t [ ]) (leaves_then d (Step node (has k xs) (w k)) Stop h);
  };
  arrive = λ k u. record {
    to = λ h. let t = places_to node xs u k (at_list (places_at node xs) s.arrive.items (place u k) (sym a) h) in p.Arrives.first (step_arrives u node (has k xs) (w k) t.0 t.1);
    back = λ h. ⊎_elim
        (λ (v : Arrives u (Step node (has k xs) (w k))). let t = arrives_step u node (has k xs) (w k) v in at_list s.arrive.items (places_at node xs) (place u k) a (subst (λ (n : ℕ). At (places_at node xs) (place n k)) (sym t.0) (places_back node xs k t.1)))
        (λ (v : Passes (Step node (has k xs) (w k)) × Arrives u Stop). elim v.1 [ ])
        (arrives_then u (Step node (has k xs) (w k)) Stop h);
  };
  pass = λ k. record {
    to = λ h. let z = stopped s k c in cc;
    back = λ h. elim (passes_then (Step node (has k xs) (w k)) Stop h).1 [ ];
  };
}

-- ---- words

pub data Ends (word : Word) : Type 0 where
  goes : after_word word ≡ Empty → is_return word ≡ false → Ends word
  stops : after_word word ≡ Stop → is_return word ≡ true → to_of word ≡ None → Ends word

pub ends : (word : Word) → Ends word
ends (w.Set to a) = goes refl refl
ends (w.Op op to a b) = goes refl refl
ends (w.Get to of class field) = goes refl refl
ends (w.Put of class field a) = goes refl refl
ends (w.Load to of index) = goes refl refl
ends (w.Store of index a) = goes refl refl
ends (w.Len to of) = goes refl refl
ends (w.New to class site) = goes refl refl
ends (w.Array to element size site) = goes refl refl
ends (w.Call to of method args) = goes refl refl
ends (w.Query to number site params) = goes refl refl
ends (w.Update to number params) = goes refl refl
ends (w.Next to of) = goes refl refl
ends (w.Long to of column) = goes refl refl
ends (w.Text to of column) = goes refl refl
ends (w.Print a) = goes refl refl
ends (w.Return a) = stops refl refl refl

abbrev pub word_flow : ℕ → Word → Flows
word_flow node word k = Then (Step node (has k (uses word)) (is_slot k (to_of word))) (after_word word)

pub same_sum : (s : Summary) (f g : Flows) → ((k : ℕ) → f k ≡ g k) → IsSummary s f → IsSummary s g
same_sum s f g e S = record {
  leave = λ k d. subst (λ (z : Flow). Both (At s.leave.items (place d k)) (Leaves d z)) (e k) (S.leave k d);
  arrive = λ k u. subst (λ (z : Flow). Both (At s.arrive.items (place u k)) (Arrives u z)) (e k) (S.arrive k u);
  pass = λ k. subst (λ (z : Flow). Both (passes s k ≡ true) (Passes z)) (e k) (S.pass k);
}

by_end : (s : Summary) (node : ℕ) (word : Word) → Ends word → IsOfWord node word s → IsSummary s (word_flow node word)
by_end s node word (goes a r) W = same_sum s (λ k. Then (Step node (has k (uses word)) (is_slot k (to_of word))) Empty) (word_flow node word)
    (λ k. ap (λ (z : Flow). Then (Step node (has k (uses word)) (is_slot k (to_of word))) z) (sym a))
    (then_empty s (λ k. Step node (has k (uses word)) (is_slot k (to_of word))) (step_sum s node (uses word) (to_of word) W.leave W.arrive W.written (W.completes ∙ ap not r)))
by_end s node word (stops a r t) W = same_sum s (λ k. Then (Step node (has k (uses word)) (is_slot k (to_of word))) Stop) (word_flow node word)
    (λ k. ap (λ (z : Flow). Then (Step node (has k (uses word)) (is_slot k (to_of word))) z) (sym a))
    (stop_sum s node (uses word) (λ k. is_slot k (to_of word)) (W.leave ∙ ap (λ (o : Option ℕ). places_at node (slots_in o)) t) W.arrive (W.completes ∙ ap not r))

pub word_sum : (s : Summary) (node : ℕ) (word : Word) → IsOfWord node word s → IsSummary s (word_flow node word)
word_sum s node word W = by_end s node word (ends word) W

abbrev pub test_flow : ℕ → Operand → Flows
test_flow node a k = Step node (has k (used a)) false

pub test_sum : (s : Summary) (node : ℕ) (a : Operand) → IsOfTest node a s → IsSummary s (test_flow node a)
test_sum s node a T = step_sum s node (used a) None T.leave T.arrive T.written T.completes

-- nothing meets in one statement
pub no_word : (d u : ℕ) (word : Word) (node : ℕ) (r w : Bool) → Ends word → Meets d u (Then (Step node r w) (after_word word)) → ⊥
no_word d u word node r w (goes a b) m = ⊎_elim
    (λ (t : Meets d u (Step node r w)). elim t [ ])
    (λ (t : Meets d u Empty ⊎ (Leaves d (Step node r w) × Arrives u Empty)). ⊎_elim (λ (x : Meets d u Empty). elim x [ ]) (λ (x : Leaves d (Step node r w) × Arrives u Empty). elim x.1 [ ]) t)
    (meets_then d u (Step node r w) Empty (subst (λ (z : Flow). Meets d u (Then (Step node r w) z)) a m))
no_word d u word node r w (stops a b c) m = ⊎_elim
    (λ (t : Meets d u (Step node r w)). elim t [ ])
    (λ (t : Meets d u Stop ⊎ (Leaves d (Step node r w) × Arrives u Stop)). ⊎_elim (λ (x : Meets d u Stop). elim x [ ]) (λ (x : Leaves d (Step node r w) × Arrives u Stop). elim x.1 [ ]) t)
    (meets_then d u (Step node r w) Stop (subst (λ (z : Flow). Meets d u (Then (Step node r w) z)) a m))

-- ---- nothing, and copies

pub empty_sum : (s : Summary) → IsEmpty s → IsSummary s (λ k. Empty)
empty_sum s E = record {
  leave = λ k d. record { to = λ h. absurd (in_none (place d k) (at_list [] s.leave.items (place d k) (sym E.leave) h)); back = λ h. elim h [ ] };
  arrive = λ k u. record { to = λ h. absurd (in_none (place u k) (at_list [] s.arrive.items (place u k) (sym E.arrive) h)); back = λ h. elim h [ ] };
  pass = λ k. record { to = λ h. p.Passes.empty; back = λ h. passes_of s k [] E.written E.completes };
}

pub copy_sum : (one s : Summary) (f : Flows) → IsCopy one s → IsSummary one f → IsSummary s f
copy_sum one s f C S = record {
  leave = λ k d. record { to = λ h. (S.leave k d).to (at_list one.leave.items s.leave.items (place d k) (sym C.leave) h); back = λ h. at_list s.leave.items one.leave.items (place d k) C.leave ((S.leave k d).back h) };
  arrive = λ k u. record { to = λ h. (S.arrive k u).to (at_list one.arrive.items s.arrive.items (place u k) (sym C.arrive) h); back = λ h. at_list s.arrive.items one.arrive.items (place u k) C.arrive ((S.arrive k u).back h) };
  pass = λ k. record { to = λ h. (S.pass k).to (sym (same_passes k) ∙ h); back = λ h. same_passes k ∙ (S.pass k).back h };
}
  where
    same_passes : (k : ℕ) → passes s k ≡ passes one k
    same_passes k = ap (λ (b : Bool). b && not (has k s.written.items)) C.completes ∙ ap (λ (z : List ℕ). one.completes && not (has k z)) C.written
