-- Calls one at a time, as histories tell them and as the source's serial run does.
use Rattle.std.proofs.Common.{◌≡◌, ◌≢◌, ℕ, zero, suc, ◌<◌, ◌≤◌, Bool, true, false, cond, ◌==◌, List, [], ◌∷◌, ◌++◌, length, All, Option, Some, None, slice_get, slice_set, replicate, reverse, if◌then◌else◌, refl, sym, ap, ◌∙◌, subst, arith, inl, inr, append_assoc, append-nil}
use Rattle.std.proofs.lemmas.Bool.{cases_eq, cases_Bool, cond-true, cond-false, eq-eqb, ne_eqb}
use Rattle.std.proofs.lemmas.List.{reverse-append}
use Rattle.px_code.specs.declared.reply.Shown.{Shown}
use Rattle.px_rows.specs.Tables.{Tables}
use Rattle.px_mean.specs.Facts.{by_number}
use Rattle.px_mean.specs.Calls.{Source}
use Rattle.px_mean.specs.Asks.{by_tables}
use Rattle.px_mean.specs.Entry.{Called, call_of, first_heap}
use Rattle.px_mean.specs.Serial.{Call, Stand, with_heap as stand_heap, shown_of, stand_after, call_by, one_call as source_call, serves, first_stand}
use Rattle.px_history.specs.State.{is_throw}
use Rattle.px_history.specs.Serial.{Ended, Entry, Serial, max_ops, run_on, with_heap, settled, one_call, as_new, run_all}
use Rattle.px_history.proofs.Rows.{get_set_same, get_set_other}
use Rattle.px_faithful.specs.Jobs.{Heap, call_at, called, meaning_of, listed}
use Rattle.px_faithful.proofs.Runs.{Runs, call_runs}

-- the sessions from 1 to n have the same heaps, and the tables are the same
pub record Agrees (n : ℕ) (now : Serial Heap) (stand : Stand Tables) : Type 0 where
  pub heaps : (s : ℕ) → 1 ≤ s → s ≤ n → by_number stand.heaps s ≡ Some (now.heaps s)
  pub tables : stand.world ≡ now.tables

set_here : (heaps : List Heap) (s : ℕ) (old new : Heap) → by_number heaps s ≡ Some old → by_number (stand_heap heaps s new) s ≡ Some new
set_here heaps zero old new h = cc
set_here heaps (suc s) old new h = get_set_same heaps s old new h

set_there : (heaps : List Heap) (s x : ℕ) (new : Heap) → x ≢ s → by_number (stand_heap heaps s new) x ≡ by_number heaps x
set_there heaps zero x new n = refl
set_there heaps (suc s) zero new n = refl
set_there heaps (suc s) (suc x) new n = get_set_other heaps s x new (λ e. n (ap suc e))

-- what is settled of a run that ended so
settled_heap : (s : ℕ) (now : Serial Heap) (c : Called Tables) (r : Option (Ended Heap)) → Runs c (now.heaps s) now.tables r → (x : ℕ) → (settled s now r).heaps x ≡ (if s == x then c.heap else now.heaps x)
settled_heap s now c r u x = ap (λ (o : Option (Ended Heap)). (settled s now o).heaps x) u.is ∙ elim (cases_Bool (is_throw (u.end).reply)) [
  | inl t ↦
      let kept : now.heaps s ≡ c.heap = sym (cond-true _ _ _ t) ∙ u.heap in
      ap (λ (b : Bool). (if b then now.heaps else with_heap now.heaps s (u.end).heap) x) t ∙ elim (cases_eq s x) [
        | inl q ↦ ap now.heaps (sym q) ∙ kept ∙ sym (cond-true _ _ _ (eq-eqb s x q))
        | inr n ↦ sym (cond-false _ _ _ (ne_eqb s x n))
      ]
  | inr t ↦
      let new : (u.end).heap ≡ c.heap = sym (cond-false _ _ _ t) ∙ u.heap in
      ap (λ (b : Bool). (if b then now.heaps else with_heap now.heaps s (u.end).heap) x) t ∙ ap (λ (h : Heap). if s == x then h else now.heaps x) new
]

settled_tables : (s : ℕ) (now : Serial Heap) (c : Called Tables) (r : Option (Ended Heap)) → Runs c (now.heaps s) now.tables r → (settled s now r).tables ≡ c.world
settled_tables s now c r u = ap (λ (o : Option (Ended Heap)). (settled s now o).tables) u.is ∙ u.tables

settled_told : (s : ℕ) (now : Serial Heap) (c : Called Tables) (r : Option (Ended Heap)) → Runs c (now.heaps s) now.tables r → (settled s now r).told ≡ shown_of c ∷ now.told
settled_told s now c r u = ap (λ (o : Option (Ended Heap)). (settled s now o).told) u.is ∙ (λ i. record { reply = u.reply i; prints = u.prints i } ∷ now.told)

-- ---- one call

-- the call of an entry of the journal
pub record IsCall (calls : List Call) (n : ℕ) (j : Entry) (c : Call) : Type 0 where
  pub found : call_at calls j.session j.call ≡ Some c
  pub own : c.session ≡ j.session
  pub there : (1 ≤ j.session) × (j.session ≤ n)

one_runs : (P : Source) (calls : List Call) (n : ℕ) (j : Entry) (c : Call) → IsCall calls n j c → (now : Serial Heap)
    → Runs (call_of by_tables P (now.heaps j.session) now.tables c.entry c.args) (now.heaps j.session) now.tables (run_on max_ops ((meaning_of P calls).exec j.session j.call (now.heaps j.session)) now.tables)
one_runs P calls n j c k now = subst (λ (o : Option Call). Runs (call_of by_tables P (now.heaps j.session) now.tables c.entry c.args) (now.heaps j.session) now.tables (run_on max_ops (called P (now.heaps j.session) o) now.tables)) (sym k.found) (call_runs P (now.heaps j.session) now.tables c)

-- what the source's call comes to
source_is : (P : Source) (calls : List Call) (n : ℕ) (j : Entry) (c : Call) → IsCall calls n j c → (now : Serial Heap) (stand : Stand Tables) → Agrees n now stand
    → source_call by_tables P c stand ≡ (let called = call_of by_tables P (now.heaps j.session) now.tables c.entry c.args in (shown_of called, stand_after c called stand))
source_is P calls n j c k now stand a =
    let heap : by_number stand.heaps c.session ≡ Some (now.heaps j.session) = ap (by_number stand.heaps) k.own ∙ a.heaps j.session k.there.0 k.there.1 in
    ap (λ (o : Option Heap). call_by by_tables P c o stand) heap ∙ ap (λ (T : Tables). let called = call_of by_tables P (now.heaps j.session) T c.entry c.args in (shown_of called, stand_after c called stand)) a.tables

step_agrees : (P : Source) (calls : List Call) (n : ℕ) (j : Entry) (c : Call) → IsCall calls n j c → (now : Serial Heap) (stand : Stand Tables) → Agrees n now stand
    → Agrees n (one_call (meaning_of P calls) now j) (stand_after c (call_of by_tables P (now.heaps j.session) now.tables c.entry c.args) stand)
step_agrees P calls n j c k now stand a =
    let done = call_of by_tables P (now.heaps j.session) now.tables c.entry c.args in
    let u = one_runs P calls n j c k now in
    record {
      heaps = λ s l m. ap (λ (t : ℕ). by_number (stand_heap stand.heaps t done.heap) s) k.own ∙ elim (cases_eq j.session s) [
        | inl q ↦ subst (λ (t : ℕ). by_number (stand_heap stand.heaps j.session done.heap) t ≡ Some ((one_call (meaning_of P calls) now j).heaps t)) q
            (set_here stand.heaps j.session (now.heaps j.session) done.heap (a.heaps j.session k.there.0 k.there.1) ∙ ap (λ (h : Heap). Some h) (sym (settled_heap j.session now done _ u j.session ∙ cond-true _ _ _ (eq-eqb j.session j.session refl))))
        | inr r ↦ set_there stand.heaps j.session s done.heap (λ e. r (sym e)) ∙ a.heaps s l m ∙ ap (λ (h : Heap). Some h) (sym (settled_heap j.session now done _ u s ∙ cond-false _ _ _ (ne_eqb j.session s r)))
      ];
      tables = sym (settled_tables j.session now done _ u);
    }

-- ---- all calls

abbrev pub AreCalls : List Call → ℕ → List Entry → Type 0
AreCalls calls n [] = Unit {0}
AreCalls calls n (j ∷ js) = ((c : Call) × IsCall calls n j c) × AreCalls calls n js

pub record RunsAll (P : Source) (calls : List Call) (n : ℕ) (js : List Entry) (now : Serial Heap) (stand : Stand Tables) : Type 0 where
  pub stands : Agrees n (run_all (meaning_of P calls) now js) (serves by_tables P (listed calls js) stand).1
  pub told : reverse (run_all (meaning_of P calls) now js).told ≡ reverse now.told ++ (serves by_tables P (listed calls js) stand).0

run_first : (P : Source) (calls : List Call) (j : Entry) (js : List Entry) (now : Serial Heap) → run_all (meaning_of P calls) now (j ∷ js) ≡ run_all (meaning_of P calls) (one_call (meaning_of P calls) now j) js
unfolding run_all
run_first P calls j js now = refl

serves_first : (P : Source) (c : Call) (cs : List Call) (stand : Stand Tables) (one : Shown × Stand Tables) → source_call by_tables P c stand ≡ one → serves by_tables P (c ∷ cs) stand ≡ (one.0 ∷ (serves by_tables P cs one.1).0, (serves by_tables P cs one.1).1)
unfolding serves
serves_first P c cs stand one e = ap (λ (x : Shown × Stand Tables). (x.0 ∷ (serves by_tables P cs x.1).0, (serves by_tables P cs x.1).1)) e

listed_first : (calls : List Call) (j : Entry) (js : List Entry) (c : Call) → call_at calls j.session j.call ≡ Some c → listed calls (j ∷ js) ≡ c ∷ listed calls js
listed_first calls j js c e = ap (λ (o : Option Call). Rattle.std.proofs.Common.option_to_list o ++ listed calls js) e

pub runs_all : (P : Source) (calls : List Call) (n : ℕ) (js : List Entry) → AreCalls calls n js → (now : Serial Heap) (stand : Stand Tables) → Agrees n now stand → RunsAll P calls n js now stand
unfolding run_all serves
runs_all P calls n [] k now stand a = record { stands = a; told = sym (append-nil (reverse now.told)) }
runs_all P calls n (j ∷ js) k now stand a =
    let c = k.0.0 in
    let i = k.0.1 in
    let M = meaning_of P calls in
    let done = call_of by_tables P (now.heaps j.session) now.tables c.entry c.args in
    let after = stand_after c done stand in
    let rest = runs_all P calls n js k.1 (one_call M now j) after (step_agrees P calls n j c i now stand a) in
    let first : serves by_tables P (listed calls (j ∷ js)) stand ≡ (shown_of done ∷ (serves by_tables P (listed calls js) after).0, (serves by_tables P (listed calls js) after).1) =
    ap (λ (cs : List Call). serves by_tables P cs stand) (listed_first calls j js c i.found) ∙ serves_first P c (listed calls js) stand (shown_of done, after) (source_is P calls n j c i now stand a) in
    let told : (one_call M now j).told ≡ shown_of done ∷ now.told = settled_told j.session now done _ (one_runs P calls n j c i now) in
    record {
      stands = subst (λ (x : List Shown × Stand Tables). Agrees n (run_all M (one_call M now j) js) x.1) (sym first) rest.stands;
      told = rest.told ∙ ap (λ (xs : List Shown). reverse xs ++ (serves by_tables P (listed calls js) after).0) told
          ∙ ap (λ (xs : List Shown). xs ++ (serves by_tables P (listed calls js) after).0) (reverse-append (shown_of done ∷ []) now.told)
          ∙ append_assoc (reverse now.told) (shown_of done ∷ []) (serves by_tables P (listed calls js) after).0
          ∙ ap (λ (x : List Shown × Stand Tables). reverse now.told ++ x.0) (sym first);
    }

-- ---- the start

first_of : (k : ℕ) (heap : Heap) (s : ℕ) → s < k → slice_get (replicate k heap) s ≡ Some heap
first_of zero heap s h = absurd (omega arith)
first_of (suc k) heap zero h = refl
first_of (suc k) heap (suc s) h = first_of k heap s (omega arith)

first_at : (k : ℕ) (heap : Heap) (s : ℕ) → 1 ≤ s → s ≤ k → by_number (replicate k heap) s ≡ Some heap
first_at k heap zero l h = absurd (omega arith)
first_at k heap (suc s) l h = first_of k heap s (omega arith)

pub start_agrees : (P : Source) (calls : List Call) (n : ℕ) (T0 : Tables) → Agrees n (as_new (meaning_of P calls) T0) (first_stand P n T0)
start_agrees P calls n T0 = record { heaps = λ s l m. first_at n (first_heap P.facts) s l m; tables = refl }
