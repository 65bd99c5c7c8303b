-- The laws of runs on a list.
use Rattle.std.proofs.Common.{◌≡◌, ℕ, ◌+◌, ◌≤◌, List, [], ◌∷◌, ◌++◌, length, append_assoc, append-nil, Option, refl, sym, ap, ◌∙◌, subst, arith}
use Rattle.px_value.specs.declared.value.Value.{Value}
use Rattle.px_value.specs.declared.object.Object.{Object}
use Rattle.px_value.specs.declared.statement.TableOp.{TableOp}
use Rattle.px_value.specs.declared.answer.Answer.{Answer}
use Rattle.px_value.specs.Outcome.{Outcome, Gives, Throws, Asks}
use Rattle.px_mean.specs.Run.{Shared}
use Rattle.px_mean.specs.Asks.{by_list}
use Rattle.px_mean.specs.Calls.{Source}
use Rattle.px_mean.specs.Laws.{Ends, on_list, IfEnds, IfAsks, with_world, EndsSo, AsksInOrder, LongerLists, OnlyWrittenDown, OneForEach, AskedInOrder, OpenAtTheEnd}
use Rattle.px_mean.proofs.Follows.{asked_then, Told, Follows}
use Rattle.px_mean.proofs.FollowsThere.{NeverThrows, shared_view}
use Rattle.px_mean.proofs.FollowsCalls.{exec_follows}

-- ---- how an outcome ends

abbrev pub IsGiven : {Q S A : Type 0} → Outcome Q S A → Type 0
IsGiven (Gives a s) = Unit {0}
IsGiven (Throws t s) = ⊥
IsGiven (Asks q z) = ⊥

abbrev pub IsOpen : {Q S A : Type 0} → Outcome Q S A → Type 0
IsOpen (Gives a s) = ⊥
IsOpen (Throws t s) = ⊥
IsOpen (Asks q z) = Unit {0}

abbrev pub given_or : {Q S A : Type 0} → A → Outcome Q S A → A
given_or b (Gives a s) = a
given_or b (Throws t s) = b
given_or b (Asks q z) = b

abbrev pub state_or : {Q S A : Type 0} → S → Outcome Q S A → S
state_or u (Gives a s) = s
state_or u (Throws t s) = s
state_or u (Asks q s) = s

abbrev pub question_or : {Q S A : Type 0} → Q → Outcome Q S A → Q
question_or p (Gives a s) = p
question_or p (Throws t s) = p
question_or p (Asks q z) = q

-- ---- answers by a list

abbrev A : Type 0
A = List Answer

abbrev O : Type 0
O = Outcome TableOp A Answer

never_thrown : NeverThrows TableOp A by_list
never_thrown o [] to t e = subst (λ (x : O). IsOpen x) e tt
never_thrown o (a ∷ w) to t e = subst (λ (x : O). IsGiven x) e tt

told_by_list : (os : List TableOp) (xs from to : A) → Told TableOp A by_list os xs from to → from ≡ xs ++ to
told_by_list [] [] from to h = h
told_by_list (o ∷ os) (a ∷ xs) [] to h = absurd (subst (λ (x : O). IsOpen x) h.1 tt)
told_by_list (o ∷ os) (a ∷ xs) (b ∷ from) to h =
    let p : b ≡ a = ap (λ (x : O). given_or b x) h.1 in
    let q : from ≡ xs ++ to = ap (λ (x : O). state_or from x) h.1 ∙ told_by_list os xs h.0 to h.2 in
    λ i. p i ∷ q i
told_by_list [] (a ∷ xs) from to h = absurd h
told_by_list (o ∷ os) [] from to h = absurd h

told_open : (os : List TableOp) (xs from mid to : A) (o q : TableOp) → Told TableOp A by_list os xs from mid → by_list o mid ≡ Asks q to → (from ≡ xs) × (o ≡ q) × (to ≡ [])
told_open os xs from [] to o q h e = (told_by_list os xs from [] h ∙ append-nil xs, ap (λ (x : O). question_or o x) e, sym (ap (λ (x : O). state_or [] x) e))
told_open os xs from (a ∷ mid) to o q h e = absurd (subst (λ (x : O). IsGiven x) e tt)

-- ---- the laws

abbrev Comes : Ends → Shared A → (A → Ends) → Type 0
Comes o s run = Follows TableOp A by_list (shared_view A) (Option Value) o s run

longer_at : (o : Ends) (s : Shared A) (run : A → Ends) (more : A) → Comes o s run → IfEnds o (λ t. EndsSo o (t.world ++ more) (run (s.world ++ more)))
longer_at (Gives v t) s run more h = ap run (ap (λ (x : A). x ++ more) (told_by_list h.operations h.answers s.world t.world h.told) ∙ append_assoc h.answers t.world more) ∙ h.reached (t.world ++ more)
longer_at (Throws e t) s run more h = ap run (ap (λ (x : A). x ++ more) (told_by_list h.operations h.answers s.world t.world h.told) ∙ append_assoc h.answers t.world more) ∙ h.reached (t.world ++ more)
longer_at (Asks q z) s run more h = tt

-- what is known where a run ends
record Used (s t : Shared A) (run : A → Ends) : Type 0 where
  pub used : A
  pub operations : List TableOp
  pub left : s.world ≡ used ++ t.world
  pub counted : t.operations ≡ length used + s.operations
  pub few : s.operations ≤ 100 → t.operations ≤ 100
  pub asked : AsksInOrder run operations used

used_at : (o : Ends) (s : Shared A) (run : A → Ends) → Comes o s run → IfEnds o (λ t. Used s t run)
used_at (Gives v t) s run h = record { used = h.answers; operations = h.operations; left = told_by_list h.operations h.answers s.world t.world h.told; counted = h.counted; few = h.few; asked = h.asked }
used_at (Throws e t) s run h = record { used = h.answers; operations = h.operations; left = told_by_list h.operations h.answers s.world t.world h.told; counted = h.counted; few = h.few; asked = h.asked }
used_at (Asks q z) s run h = tt

open_at : (o : Ends) (s : Shared A) (run : A → Ends) → Comes o s run → IfAsks o (λ q t. (t.world ≡ []) × (t.operations ≡ length s.world + s.operations + 1) × (s.operations ≤ 100 → t.operations ≤ 100) × (operations : List TableOp) × ((answer : Answer) → AsksInOrder run (operations ++ q ∷ []) (s.world ++ answer ∷ [])))
open_at (Gives v t) s run h = tt
open_at (Throws e t) s run h = tt
open_at (Asks q t) s run h =
    let e = told_open h.operations h.answers s.world h.mid t.world h.operation q h.told h.untold in
    let now : run (s.world ++ []) ≡ Asks q (with_world t []) = ap run (append-nil s.world ∙ e.0) ∙ h.stops ∙ ap (λ (x : TableOp). Asks x (with_world t [])) e.1 in
    let before : AsksInOrder run h.operations s.world = subst (λ (x : A). AsksInOrder run h.operations x) (sym e.0) h.asked in
    (e.2, h.counted ∙ ap (λ (x : A). length x + s.operations + 1) (sym e.0), h.few, h.operations, λ answer. asked_then (Shared A) (Option Value) run (λ more. run (s.world ++ more)) h.operations s.world (q ∷ []) (answer ∷ []) before (λ more. refl) ((with_world t [], now), tt))

if_ends : (o : Ends) (H K : Shared A → Type 0) → ((t : Shared A) → H t → K t) → IfEnds o H → IfEnds o K
if_ends (Gives v t) H K k h = k t h
if_ends (Throws e t) H K k h = k t h
if_ends (Asks q z) H K k h = tt

abbrev start : List Object → A → Shared A
start heap answers = record { heap = heap; world = answers; prints = []; turns = 0; operations = 0 }

comes : (P : Source) (heap : List Object) (answers : A) (method : ℕ) (args : List Value) → Comes (on_list P heap method args answers) (start heap answers) (on_list P heap method args)
comes P heap answers method args = exec_follows TableOp A by_list never_thrown P heap answers method args

abbrev What : Source → List Object → A → ℕ → List Value → Shared A → Type 0
What P heap answers method args t = Used (start heap answers) t (on_list P heap method args)

what : (P : Source) (heap : List Object) (answers : A) (method : ℕ) (args : List Value) → IfEnds (on_list P heap method args answers) (What P heap answers method args)
what P heap answers method args = used_at (on_list P heap method args answers) (start heap answers) (on_list P heap method args) (comes P heap answers method args)

pub longer_lists : LongerLists
longer_lists P heap answers more method args = longer_at (on_list P heap method args answers) (start heap answers) (on_list P heap method args) more (comes P heap answers method args)

pub only_written_down : OnlyWrittenDown
only_written_down P heap answers method args = if_ends (on_list P heap method args answers) (What P heap answers method args) _ (λ t h. (h.used, h.left)) (what P heap answers method args)

same_count : (n m : ℕ) → n ≡ m + 0 → n ≡ m
same_count n m h = omega (arith, h)

pub one_for_each : OneForEach
one_for_each P heap answers method args = if_ends (on_list P heap method args answers) (What P heap answers method args) _ (λ t h. (h.used, h.left, same_count t.operations (length h.used) h.counted, h.few (omega (arith)))) (what P heap answers method args)

pub asked_in_order : AskedInOrder
asked_in_order P heap answers method args = if_ends (on_list P heap method args answers) (What P heap answers method args) _ (λ t h. (h.used, h.operations, h.left, h.asked)) (what P heap answers method args)

if_asks : (o : Ends) (H K : TableOp → Shared A → Type 0) → ((q : TableOp) (t : Shared A) → H q t → K q t) → IfAsks o H → IfAsks o K
if_asks (Gives v t) H K k h = tt
if_asks (Throws e t) H K k h = tt
if_asks (Asks q t) H K k h = k q t h

one_more : (n m : ℕ) → n ≡ m + 0 + 1 → n ≡ m + 1
one_more n m h = omega (arith, h)

pub open_at_the_end : OpenAtTheEnd
open_at_the_end P heap answers method args = if_asks (on_list P heap method args answers) _ _ (λ q t h. (h.0, one_more t.operations (length answers) h.1, h.2 (omega (arith)), h.3, h.4)) (open_at (on_list P heap method args answers) (start heap answers) (on_list P heap method args) (comes P heap answers method args))
