-- The numbers of calls among those of their sessions.
use Rattle.std.proofs.Common.{◌≡◌, ℕ, zero, suc, ◌+◌, ◌≤◌, List, [], ◌∷◌, ◌++◌, length, replicate, set, slice_get, refl, sym, ap, ◌∙◌, subst, arith, length-append}
use Rattle.px_code.specs.declared.reply.Shown.{Shown}
use Rattle.px_job.specs.declared.job.Call.{Call as JobCall}
use Rattle.px_report.specs.declared.calls.ShownCall.{ShownCall}
use Rattle.px_main.specs.Run.{session_in, count_of, counted, shown_call, shown_from}

-- how many calls each session has made behind these
abbrev pub counts_from : List JobCall → ℕ → List ℕ → List Shown → List ℕ
counts_from calls place counts [] = counts
counts_from calls place counts (shown ∷ rest) = counts_from calls (place + 1) (counted counts (session_in (slice_get calls place))) rest

pub shown_more : (calls : List JobCall) (place : ℕ) (counts : List ℕ) (all : List Shown) (shown : Shown) (at : ℕ) → at ≡ length all + place
    → shown_from calls place counts (all ++ shown ∷ []) ≡ shown_from calls place counts all ++ shown_call (counts_from calls place counts all) (session_in (slice_get calls at)) shown ∷ []
shown_more calls place counts [] shown at e = let here : place ≡ at = omega (arith, e) in ap (λ (n : ℕ). shown_call counts (session_in (slice_get calls n)) shown ∷ []) here
shown_more calls place counts (x ∷ all) shown at e =
    let next : at ≡ length all + (place + 1) = omega (arith, e) in
    ap (λ (cs : List ShownCall). shown_call counts (session_in (slice_get calls place)) x ∷ cs) (shown_more calls (place + 1) (counted counts (session_in (slice_get calls place))) all shown at next)

pub counts_more : (calls : List JobCall) (place : ℕ) (counts : List ℕ) (all : List Shown) (shown : Shown) (at : ℕ) → at ≡ length all + place
    → counts_from calls place counts (all ++ shown ∷ []) ≡ counted (counts_from calls place counts all) (session_in (slice_get calls at))
counts_more calls place counts [] shown at e = let here : place ≡ at = omega (arith, e) in ap (λ (n : ℕ). counted counts (session_in (slice_get calls n))) here
counts_more calls place counts (x ∷ all) shown at e =
    let next : at ≡ length all + (place + 1) = omega (arith, e) in
    counts_more calls (place + 1) (counted counts (session_in (slice_get calls place))) all shown at next

-- ---- no count passes the number of calls

abbrev pub AreFew : ℕ → List ℕ → Type 0
AreFew n counts = (session : ℕ) → count_of counts session ≤ n

none_of : (k session : ℕ) → count_of (replicate k 0) session ≡ 0
none_of zero session = refl
none_of (suc k) zero = refl
none_of (suc k) (suc session) = none_of k session

pub none_are_few : (k : ℕ) → AreFew 0 (replicate k 0)
none_are_few k session = let none = none_of k session in omega (arith, none)

set_few : (n v : ℕ) (counts : List ℕ) (at : ℕ) → AreFew n counts → v ≤ n → AreFew n (set counts at v)
set_few n v [] at few most session = few session
set_few n v (c ∷ counts) zero few most zero = most
set_few n v (c ∷ counts) zero few most (suc session) = few (suc session)
set_few n v (c ∷ counts) (suc at) few most zero = few zero
set_few n v (c ∷ counts) (suc at) few most (suc session) = set_few n v counts at (λ (s : ℕ). few (suc s)) most session

pub counted_few : (n : ℕ) (counts : List ℕ) (at : ℕ) → AreFew n counts → AreFew (n + 1) (counted counts at)
counted_few n counts at few =
    let here = few at in
    set_few (n + 1) (count_of counts at + 1) counts at (λ (s : ℕ). let there = few s in omega (arith, there)) (omega (arith, here))

-- ---- one call more

module _ (calls : List JobCall) (counts : List ℕ) (all : List Shown) (shown : Shown) (at session : ℕ) (place : at ≡ length all) (asked : session ≡ session_in (slice_get calls at)) where
  pub shown_next : (made next : List ShownCall) (now : List ℕ) (number : ℕ) → made ≡ shown_from calls 0 counts all → now ≡ counts_from calls 0 counts all → number ≡ count_of now session + 1
      → next ≡ made ++ record { session = session; number = number; shown = shown } ∷ [] → next ≡ shown_from calls 0 counts (all ++ shown ∷ [])
  shown_next made next now number was counted_so number_is ends =
      let place' : at ≡ length all + 0 = omega (arith, place) in
      ends ∙ ap (λ (n : ℕ). made ++ record { session = session; number = n; shown = shown } ∷ []) number_is
      ∙ (λ i. was i ++ shown_call (counted_so i) (asked i) shown ∷ [])
      ∙ sym (shown_more calls 0 counts all shown at place')

  pub counts_next : (now next : List ℕ) → now ≡ counts_from calls 0 counts all → next ≡ counted now session → next ≡ counts_from calls 0 counts (all ++ shown ∷ [])
  counts_next now next counted_so ends =
      let place' : at ≡ length all + 0 = omega (arith, place) in
      ends ∙ (λ i. counted (counted_so i) (asked i)) ∙ sym (counts_more calls 0 counts all shown at place')

pub few_next : (all : List Shown) (shown : Shown) (now next : List ℕ) (session : ℕ) → AreFew (length all) now → next ≡ counted now session → AreFew (length (all ++ shown ∷ [])) next
few_next all shown now next session few ends =
    let more : length all + 1 ≡ length (all ++ shown ∷ []) = omega (arith, length-append {A = Shown}) in
    subst (λ (n : ℕ). AreFew n next) more (subst (λ (cs : List ℕ). AreFew (length all + 1) cs) (sym ends) (counted_few (length all) now session few))

pub one_made : (made next : List ShownCall) (call : ShownCall) (all : List Shown) (shown : Shown) → length made ≡ length all → next ≡ made ++ call ∷ [] → length next ≡ length (all ++ shown ∷ [])
one_made made next call all shown same ends =
    let long : length next ≡ length made + 1 = ap length ends ∙ length-append made (call ∷ []) in
    omega (arith, long, same, length-append {A = Shown})
