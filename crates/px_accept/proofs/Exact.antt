-- The place of the first refused token, in the grammar's terms.
use Rattle.std.proofs.Common.{◌≡◌, ℕ, zero, suc, ◌+◌, ◌<◌, ◌≤◌, ◌⊎◌, inl, inr, Bool, true, false, cond, ltb, List, [], ◌∷◌, length, take, Option, Some, None, Result, Ok, Err, IfOk, option_and_then, refl, sym, ap, ◌∙◌, subst, arith, add-one}
use Rattle.std.proofs.lemmas.Bool.{ltb-true, ltb-false}
use Rattle.std.proofs.lemmas.List.{take_all}
use Rattle.std.specs.declared.alloc.AllocError.{AllocError}
use Rattle.px_accept.specs.declared.role.Role.{Role}
use Rattle.px_accept.specs.declared.symbol.Symbol.{Symbol}
use Rattle.px_accept.specs.Machine.{step, run, start, nesting, taken, on_taken, at_end, refused_from}
use Rattle.px_accept.specs.Grammar as g
use Rattle.px_accept.specs.Grammar.{Spelled, BeginsProgram}
use Rattle.px_accept.specs.Place.{IsDeep, IsProgram, Refused, IsPlace}
use Rattle.px_accept.proofs.Passes.{dead, passes}
use Rattle.px_accept.proofs.Viable.{viable, whole}

pub record Low (st : List Symbol) (ts : List Role) (j : ℕ) : Type 0 where
  pub low : (now : List Symbol) → run st (take j ts) ≡ Some now → nesting now ≤ 100

abbrev pub Deep : List Symbol → List Role → Type 0
Deep st ts = (next : List Symbol) × (run st ts ≡ Some next) × (100 < nesting next)

-- n tokens are taken, and the next is not
pub record Stops (st : List Symbol) (ts : List Role) (n : ℕ) : Type 0 where
  pub within : n ≤ length ts
  pub now : List Symbol
  pub runs : run st (take n ts) ≡ Some now
  pub low : (j : ℕ) → j ≤ n → Low st ts j
  pub here : n < length ts → (run st (take (suc n) ts) ≡ None) ⊎ Deep st (take (suc n) ts)
  pub unended : n ≡ length ts → (now ≡ [] → ⊥)

pub record Goes (st : List Symbol) (ts : List Role) : Type 0 where
  pub runs : (let end : Option (List Symbol) = Some [] in run st ts ≡ end)
  pub low : (j : ℕ) → Low st ts j

some_is : (a b : List Symbol) → (let x : Option (List Symbol) = Some a in x ≡ Some b) → a ≡ b
some_is a b e = cc

run_cons : (st next : List Symbol) (t : Role) (us : List Role) → step st t ≡ Some next → run st (t ∷ us) ≡ run next us
unfolding run
run_cons st next t us e = ap (λ (o : Option (List Symbol)). option_and_then (λ n. run n us) o) e

run_none : (st : List Symbol) (t : Role) (us : List Role) → step st t ≡ None → run st (t ∷ us) ≡ None
unfolding run
run_none st t us e = ap (λ (o : Option (List Symbol)). option_and_then (λ n. run n us) o) e

run_nil : (st : List Symbol) → run st [] ≡ Some st
unfolding run
run_nil st = refl

low_here : (st : List Symbol) (ts : List Role) → nesting st ≤ 100 → Low st ts 0
low_here st ts h = record { low = λ now e. let f = some_is st now (sym (run_nil st) ∙ e) in subst (λ (us : List Symbol). nesting us ≤ 100) f h }

low_nil : (st : List Symbol) (j : ℕ) → nesting st ≤ 100 → Low st [] j
low_nil st zero h = low_here st [] h
low_nil st (suc j) h = record { low = λ now e. let f = some_is st now (sym (run_nil st) ∙ e) in subst (λ (us : List Symbol). nesting us ≤ 100) f h }

low_cons : (st next : List Symbol) (t : Role) (ts : List Role) (j : ℕ) → step st t ≡ Some next → Low next ts j → Low st (t ∷ ts) (suc j)
low_cons st next t ts j e l = record { low = λ now f. l.low now (sym (run_cons st next t (take j ts) e) ∙ f) }

by_limit : (b : Bool) (m : ℕ) (next now : List Symbol) → ltb 100 (nesting next) ≡ b → (let none : Option (List Symbol) = None in cond b none (Some next) ≡ Some now) → (next ≡ now) × (nesting now ≤ 100)
by_limit true m next now f e = cc
by_limit false m next now f e = let i = some_is next now e in (i, subst (λ (us : List Symbol). nesting us ≤ 100) i (ltb-false 100 (nesting next) f))

by_step : (o : Option (List Symbol)) (now : List Symbol) → (let none : Option (List Symbol) = None in let x : Option (List Symbol) = elim o [ None ↦ none | Some next ↦ cond (ltb 100 (nesting next)) none (Some next) ] in x ≡ Some now) → (o ≡ Some now) × (nesting now ≤ 100)
by_step None now e = cc
by_step (Some next) now e = let i = by_limit (ltb 100 (nesting next)) 0 next now refl e in (ap Some i.0, i.1)

taken_some : (st now : List Symbol) (t : Role) → taken st t ≡ Some now → (step st t ≡ Some now) × (nesting now ≤ 100)
unfolding taken
taken_some st now t e = by_step (step st t) now e

over : (b : Bool) (next : List Symbol) → ltb 100 (nesting next) ≡ b → (let none : Option (List Symbol) = None in cond b none (Some next) ≡ none) → 100 < nesting next
over true next f e = ltb-true 100 (nesting next) f
over false next f e = cc

by_none : (o : Option (List Symbol)) → (let none : Option (List Symbol) = None in let x : Option (List Symbol) = elim o [ None ↦ none | Some next ↦ cond (ltb 100 (nesting next)) none (Some next) ] in x ≡ none) → (o ≡ None) ⊎ ((next : List Symbol) × (o ≡ Some next) × (100 < nesting next))
by_none None e = inl refl
by_none (Some next) e = inr (next, refl, over (ltb 100 (nesting next)) next refl e)

taken_none : (st : List Symbol) (t : Role) → taken st t ≡ None → (step st t ≡ None) ⊎ ((next : List Symbol) × (step st t ≡ Some next) × (100 < nesting next))
unfolding taken
taken_none st t e = by_none (step st t) e

stops_here : (st : List Symbol) (t : Role) (ts : List Role) → nesting st ≤ 100 → taken st t ≡ None → Stops st (t ∷ ts) 0
stops_here st t ts h e = record {
  within = omega arith;
  now = st;
  runs = run_nil st;
  low = λ j k. let f : j ≡ 0 = omega arith in subst (λ (n : ℕ). Low st (t ∷ ts) n) (sym f) (low_here st (t ∷ ts) h);
  here = λ k. elim (taken_none st t e) [ inl f ↦ inl (run_none st t [] f) | inr f ↦ inr (f.0, run_cons st f.0 t [] f.1 ∙ run_nil f.0, f.2) ];
  unended = λ k. absurd (omega arith);
}

low_more : (st next : List Symbol) (t : Role) (ts : List Role) (n j : ℕ) → nesting st ≤ 100 → step st t ≡ Some next → ((i : ℕ) → i ≤ n → Low next ts i) → j ≤ suc n → Low st (t ∷ ts) j
low_more st next t ts n zero h e l k = low_here st (t ∷ ts) h
low_more st next t ts n (suc j) h e l k = low_cons st next t ts j e (l j (omega arith))

stops_later : (st next : List Symbol) (t : Role) (ts : List Role) (n : ℕ) → nesting st ≤ 100 → step st t ≡ Some next → Stops next ts n → Stops st (t ∷ ts) (suc n)
stops_later st next t ts n h e s = record {
  within = let k = s.within in omega arith;
  now = s.now;
  runs = run_cons st next t (take n ts) e ∙ s.runs;
  low = λ j k. low_more st next t ts n j h e s.low k;
  here = λ k. elim (s.here (omega arith)) [ inl f ↦ inl (run_cons st next t (take (suc n) ts) e ∙ f) | inr f ↦ inr (f.0, run_cons st next t (take (suc n) ts) e ∙ f.1, f.2) ];
  unended = λ k. s.unended (omega arith);
}

stops_end : (k m : ℕ) (st : List Symbol) → nesting st ≤ 100 → at_end k st ≡ Some m → (n : ℕ) × (m ≡ k + n) × Stops st [] n
stops_end k m [] h e = cc
stops_end k m (s ∷ st) h e =
    let f : k ≡ m = cc in (
      0,
      omega arith,
      record {
        within = omega arith;
        now = s ∷ st;
        runs = run_nil (s ∷ st);
        low = λ j i. low_nil (s ∷ st) j h;
        here = λ i. absurd (omega arith);
        unended = λ i f. cc;
      },
    )

stops_by : (o : Option (List Symbol)) (k m : ℕ) (st : List Symbol) (t : Role) (ts : List Role) → nesting st ≤ 100 → taken st t ≡ o → on_taken o k (λ next. refused_from (k + 1) next ts) ≡ Some m → ((next : List Symbol) → nesting next ≤ 100 → refused_from (k + 1) next ts ≡ Some m → (n : ℕ) × (m ≡ (k + 1) + n) × Stops next ts n) → (n : ℕ) × (m ≡ k + n) × Stops st (t ∷ ts) n
stops_by None k m st t ts h f e i = let g : k ≡ m = cc in (0, omega arith, stops_here st t ts h f)
stops_by (Some next) k m st t ts h f e i =
    let s = taken_some st next t f in
    let w = i next s.1 e in
    let q = w.1 in
    (suc w.0, omega arith, stops_later st next t ts w.0 h s.0 w.2)

stops : (ts : List Role) (k m : ℕ) (st : List Symbol) → nesting st ≤ 100 → refused_from k st ts ≡ Some m → (n : ℕ) × (m ≡ k + n) × Stops st ts n
unfolding refused_from
stops [] k m st h e = stops_end k m st h e
stops (t ∷ ts) k m st h e = stops_by (taken st t) k m st t ts h refl e (λ next l f. stops ts (k + 1) m next l f)

goes_end : (k : ℕ) (st : List Symbol) → nesting st ≤ 100 → at_end k st ≡ None → Goes st []
goes_end k [] h e = record { runs = run_nil []; low = λ j. low_nil [] j h }
goes_end k (s ∷ st) h e = cc

low_all : (st next : List Symbol) (t : Role) (ts : List Role) (j : ℕ) → nesting st ≤ 100 → step st t ≡ Some next → ((i : ℕ) → Low next ts i) → Low st (t ∷ ts) j
low_all st next t ts zero h e l = low_here st (t ∷ ts) h
low_all st next t ts (suc j) h e l = low_cons st next t ts j e (l j)

goes_by : (o : Option (List Symbol)) (k : ℕ) (st : List Symbol) (t : Role) (ts : List Role) → nesting st ≤ 100 → taken st t ≡ o → on_taken o k (λ next. refused_from (k + 1) next ts) ≡ None → ((next : List Symbol) → nesting next ≤ 100 → refused_from (k + 1) next ts ≡ None → Goes next ts) → Goes st (t ∷ ts)
goes_by None k st t ts h f e i = cc
goes_by (Some next) k st t ts h f e i =
    let s = taken_some st next t f in
    let w = i next s.1 e in
    record { runs = run_cons st next t ts s.0 ∙ w.runs; low = λ j. low_all st next t ts j h s.0 w.low }

goes : (ts : List Role) (k : ℕ) (st : List Symbol) → nesting st ≤ 100 → refused_from k st ts ≡ None → Goes st ts
unfolding refused_from
goes [] k st h e = goes_end k st h e
goes (t ∷ ts) k st h e = goes_by (taken st t) k st t ts h refl e (λ next l f. goes ts (k + 1) next l f)

not_deep : (ts : List Role) (j : ℕ) → Low start ts j → IsDeep (take j ts) → ⊥
not_deep ts j l d = let a = l.low d.stack d.runs in let b = d.above in absurd (omega arith)

ended : (ts : List Role) → IsProgram ts → (let end : Option (List Symbol) = Some [] in run start ts ≡ end)
ended ts p = ap (run start) (sym p.same) ∙ passes g.Program p.program p.spelled

exact_some : (ts : List Role) (n : ℕ) → Stops start ts n → Refused ts n
exact_some ts n s = record {
  within = s.within;
  front = viable (take n ts) s.now s.runs;
  shallow = λ j k d. not_deep ts j (s.low j k) d;
  here = λ k. rw add-one (
      elim (s.here k) [
        | inl f ↦ inl (λ b. dead (take (suc n) ts) b.more b.program f b.spelled b.same)
        | inr f ↦ inr (record { stack = f.0; runs = f.1; above = f.2 })
      ]);
  unended = λ k p. s.unended k (some_is s.now [] (sym s.runs ∙ ap (run start) (take_all n ts (omega arith)) ∙ ended ts p));
}

pub exact_place : (ts : List Role) (o : Option ℕ) → o ≡ refused_from 0 start ts → IsPlace ts o
exact_place ts None e =
    let w = goes ts 0 start (omega arith) (sym e) in
    let i = whole ts w.runs in
    record { whole = record { program = i.0; same = i.1; spelled = i.2 }; shallow = λ j d. not_deep ts j (w.low j) d }
exact_place ts (Some m) e =
    let w = stops ts 0 m start (omega arith) (sym e) in
    let q = w.1 in
    let f : w.0 ≡ m = omega arith in
    subst (λ (n : ℕ). Refused ts n) f (exact_some ts w.0 w.2)

pub exact_result : (ts : List Role) (r : Result (Option ℕ) AllocError) → IfOk r (λ o. o ≡ refused_from 0 start ts) → IfOk r (λ o. IsPlace ts o)
exact_result ts (Ok o) h = exact_place ts o h
exact_result ts (Err e) h = tt
