-- A legal history whose events are its sessions' own is the serial run of its Ends.
use Rattle.std.proofs.Common.{◌≡◌, ◌≢◌, ℕ, zero, suc, Bool, true, false, cond, ◌&&◌, List, [], ◌∷◌, ◌++◌, reverse, Option, Some, None, refl, sym, ap, ◌∙◌, subst, arith, inl, inr, length, ◌≤◌}
use Rattle.std.proofs.lemmas.Bool.{both_ways, false_from_ne_true, cond-true, cond-false, cases_eq, cases_Bool, eq-eqb, ne_eqb, and_right, and_left, and_from, not_from_true, not_from_false}
use Rattle.std.proofs.lemmas.List.{reverse-append}
use Rattle.px_value.specs.declared.statement.TableOp.{TableOp}
use Rattle.px_value.specs.declared.answer.Answer.{Answer}
use Rattle.px_rows.specs.Tables.{Tables, row_at}
use Rattle.px_rows.specs.Means.{fed, after, answer_to, answers_to}
use Rattle.px_history.specs.Places.{written}
use Rattle.px_history.proofs.Rows.{answers_same, answers-append, fed_elsewhere}
use Rattle.px_history.specs.declared.event.Event.{Event}
use Rattle.px_history.specs.declared.event.Event.TheVariants.{Begin, Op, Die, End, Drop}
use Rattle.px_code.specs.declared.reply.Done.{Done}
use Rattle.px_code.specs.declared.reply.Reply.{Reply}
use Rattle.px_history.specs.Attempts.{session_of, is_of, ops_of, ops_after, call_of}
use Rattle.px_history.specs.Locking.{LockForm}
use Rattle.px_history.specs.Legal.{Calls, IsLegal}
use Rattle.px_history.specs.State.{is_throw, commits, tables_of, seen_tables, answer_of, answers_of, answers_after}
use Rattle.px_history.specs.Serial.{Outcome, Asks, Ends, AsksAtMost, max_ops, Meaning, Ended, gone_on, run_on, Entry, prints_of, Serial, with_heap, settled, serial, call_or_none, reached, heap_of, attempt_of, outcome_of, EndedWith, IsOwnAt, IsOwn, entry_of, journal, told_in, told_of, IsSerial, IsFaithful, one_call, as_new, run_all, IsBounded}
use Rattle.px_code.specs.declared.reply.Shown.{Shown}
use Rattle.px_history.proofs.Guards.{Guards}
use Rattle.px_history.proofs.Apart.{ops_own, ops_other, call_own, call_other, apart}
use Rattle.px_history.proofs.Place.{tables_kept, tables_committed, tables_many}

-- ---- the answers that an attempt was given stay those of the tables of the history

pub answers_own : (T0 : Tables) (s : ℕ) (e : Event) (h : List Event) → session_of e ≡ s → answers_of T0 s (e ∷ h) ≡ answers_after T0 e h (answers_of T0 s h)
unfolding answers_of
answers_own T0 s e h q = cond-true _ _ _ (eq-eqb (session_of e) s q)

pub answers_other : (T0 : Tables) (s : ℕ) (e : Event) (h : List Event) → session_of e ≢ s → answers_of T0 s (e ∷ h) ≡ answers_of T0 s h
unfolding answers_of
answers_other T0 s e h n = cond-false _ _ _ (ne_eqb (session_of e) s n)

stay_own : (T0 : Tables) (e : Event) (h : List Event) → answers_of T0 (session_of e) h ≡ answers_to (ops_of (session_of e) h) (tables_of T0 h) → answers_after T0 e h (answers_of T0 (session_of e) h) ≡ answers_to (ops_after e (ops_of (session_of e) h)) (tables_of T0 (e ∷ h))
stay_own T0 (Begin s c a) h i = refl
stay_own T0 (Op s o) h i =
    ap (λ (told : List Answer). told ++ answer_of T0 s o h ∷ []) i ∙ sym (answers-append (ops_of s h) (o ∷ []) (tables_of T0 h))
    ∙ ap (answers_to (ops_of s h ++ o ∷ [])) (sym (tables_kept T0 (Op s o) h refl))
stay_own T0 (Die s o x) h i = refl
stay_own T0 (End s d) h i = refl
stay_own T0 (Drop s) h i = refl

pub answers_stay : (job : Calls) (form : LockForm) → Guards form → (T0 : Tables) (h : List Event) → IsLegal job form h → (s : ℕ) → answers_of T0 s h ≡ answers_to (ops_of s h) (tables_of T0 h)
unfolding answers_of ops_of
answers_stay job form g T0 [] l s = refl
answers_stay job form g T0 (e ∷ h) l s = elim (cases_eq (session_of e) s) [
  | inl q ↦ subst (λ (t : ℕ). answers_of T0 t (e ∷ h) ≡ answers_to (ops_of t (e ∷ h)) (tables_of T0 (e ∷ h))) q
      (answers_own T0 (session_of e) e h refl ∙ stay_own T0 e h (answers_stay job form g T0 h l.1 (session_of e)) ∙ ap (λ (os : List TableOp). answers_to os (tables_of T0 (e ∷ h))) (sym (ops_own (session_of e) e h refl)))
  | inr n ↦ answers_other T0 s e h n ∙ answers_stay job form g T0 h l.1 s ∙ elim (cases_Bool (commits e)) [
    | inl q ↦ answers_same (ops_of s h) (tables_of T0 h) (tables_of T0 (e ∷ h)) (tables_many T0 h ∙ sym (tables_many T0 (e ∷ h))) (λ c t.
        let w : written (ops_of (session_of e) h) c ≡ false = false_from_ne_true _ (λ k. both_ways _ (apart job form g h l.1 s (session_of e) (λ r. n (sym r)) c k) t) in
        sym (fed_elsewhere (ops_of (session_of e) h) (tables_of T0 h) c w) ∙ ap (λ (T' : Tables). row_at T' c) (sym (tables_committed T0 e h q)))
    | inr q ↦ ap (answers_to (ops_of s h)) (sym (tables_kept T0 e h q))
  ] ∙ ap (λ (os : List TableOp). answers_to os (tables_of T0 (e ∷ h))) (sym (ops_other s e h n))
]

-- ---- a call that asked these operations, each after the answers to those before it

abbrev pub Asked : {Heap : Type 0} → (List Answer → Outcome Heap) → List TableOp → List Answer → Type 0
Asked run [] [] = Unit {0}
Asked run [] (a ∷ told) = ⊥
Asked run (o ∷ os) [] = ⊥
Asked run (o ∷ os) (a ∷ told) = (run [] ≡ Asks o) × Asked (λ more. run (a ∷ more)) os told

asked_push : (Heap : Type 0) (run : List Answer → Outcome Heap) (os : List TableOp) (told : List Answer) (o : TableOp) (a : Answer) → Asked run os told → run told ≡ Asks o → Asked run (os ++ o ∷ []) (told ++ a ∷ [])
asked_push Heap run [] [] o a h k = (k, tt)
asked_push Heap run [] (b ∷ told) o a h k = absurd h
asked_push Heap run (p ∷ os) [] o a h k = absurd h
asked_push Heap run (p ∷ os) (b ∷ told) o a h k = (h.0, asked_push Heap (λ more. run (b ∷ more)) os told o a h.1 k)

-- answered from the tables it comes to the same end
pub run_is : (Heap : Type 0) (n : ℕ) (run : List Answer → Outcome Heap) (os : List TableOp) (T : Tables) (reply : Reply) (prints : List (List ℕ)) (heap : Heap) → AsksAtMost n run → Asked run os (answers_to os T) → run (answers_to os T) ≡ Ends reply prints heap
    → run_on n run T ≡ Some (record { reply = reply; prints = prints; heap = heap; tables = fed os T })
unfolding run_on
run_is Heap zero run [] T reply prints heap b a e = ap (λ (x : Outcome Heap). gone_on x T (λ o. None)) e
run_is Heap (suc n) run [] T reply prints heap b a e = ap (λ (x : Outcome Heap). gone_on x T (λ o. run_on n (λ more. run (answer_to o T ∷ more)) (after o T))) e
run_is Heap zero run (o ∷ os) T reply prints heap b a e = let z = b [] o a.0 in absurd (omega arith)
run_is Heap (suc n) run (o ∷ os) T reply prints heap b a e =
    ap (λ (x : Outcome Heap). gone_on x T (λ p. run_on n (λ more. run (answer_to p T ∷ more)) (after p T))) a.0
    ∙ run_is Heap n (λ more. run (answer_to o T ∷ more)) os (after o T) reply prints heap (λ told p k. let z = b (answer_to o T ∷ told) p k in omega arith) a.1 e

-- ---- the attempt of a session stays the same call from the same heap

heap_kept : (Heap : Type 0) (M : Meaning Heap) (T0 : Tables) (s : ℕ) (e : Event) (h : List Event) → (is_of s e && commits e) ≡ false → heap_of M T0 s (e ∷ h) ≡ heap_of M T0 s h
unfolding heap_of
heap_kept Heap M T0 s e h q = cond-false _ _ _ q

heap_reached : (Heap : Type 0) (M : Meaning Heap) (T0 : Tables) (s : ℕ) (e : Event) (h : List Event) → (is_of s e && commits e) ≡ true → heap_of M T0 s (e ∷ h) ≡ reached (outcome_of M T0 s h) (heap_of M T0 s h)
unfolding heap_of
heap_reached Heap M T0 s e h q = cond-true _ _ _ q

asked_own : (Heap : Type 0) (M : Meaning Heap) (T0 : Tables) (e : Event) (h : List Event) → IsOwnAt M T0 h e → Asked (attempt_of M T0 (session_of e) h) (ops_of (session_of e) h) (answers_of T0 (session_of e) h)
    → Asked (attempt_of M T0 (session_of e) (e ∷ h)) (ops_after e (ops_of (session_of e) h)) (answers_after T0 e h (answers_of T0 (session_of e) h))
asked_own Heap M T0 (Begin s c a) h m i = tt
asked_own Heap M T0 (Op s o) h m i =
    subst (λ (run : List Answer → Outcome Heap). Asked run (ops_of s h ++ o ∷ []) (answers_of T0 s h ++ answer_of T0 s o h ∷ []))
    (λ j. M.exec s (call_or_none (sym (call_own s (Op s o) h refl) j)) (sym (heap_kept Heap M T0 s (Op s o) h (and_right _ _ refl)) j))
    (asked_push Heap (attempt_of M T0 s h) (ops_of s h) (answers_of T0 s h) o (answer_of T0 s o h) i m)
asked_own Heap M T0 (Die s o x) h m i = tt
asked_own Heap M T0 (End s d) h m i = tt
asked_own Heap M T0 (Drop s) h m i = tt

asked_all : (Heap : Type 0) (M : Meaning Heap) (T0 : Tables) (h : List Event) → IsOwn M T0 h → (s : ℕ) → Asked (attempt_of M T0 s h) (ops_of s h) (answers_of T0 s h)
unfolding ops_of answers_of
asked_all Heap M T0 [] w s = tt
asked_all Heap M T0 (e ∷ h) w s = elim (cases_eq (session_of e) s) [
  | inl q ↦ subst (λ (t : ℕ). Asked (attempt_of M T0 t (e ∷ h)) (ops_of t (e ∷ h)) (answers_of T0 t (e ∷ h))) q
      (let z = asked_own Heap M T0 e h w.0 (asked_all Heap M T0 h w.1 (session_of e)) in
      let f : Asked (attempt_of M T0 (session_of e) (e ∷ h)) (ops_after e (ops_of (session_of e) h)) (answers_of T0 (session_of e) (e ∷ h)) = subst (λ (told : List Answer). Asked (attempt_of M T0 (session_of e) (e ∷ h)) (ops_after e (ops_of (session_of e) h)) told) (sym (answers_own T0 (session_of e) e h refl)) z in
      subst (λ (os : List TableOp). Asked (attempt_of M T0 (session_of e) (e ∷ h)) os (answers_of T0 (session_of e) (e ∷ h))) (sym (ops_own (session_of e) e h refl)) f)
  | inr n ↦
      let i = asked_all Heap M T0 h w.1 s in
      let f : Asked (attempt_of M T0 s (e ∷ h)) (ops_of s h) (answers_of T0 s h) = subst (λ (run : List Answer → Outcome Heap). Asked run (ops_of s h) (answers_of T0 s h)) (λ j. M.exec s (call_or_none (sym (call_other s e h n) j)) (sym (heap_kept Heap M T0 s e h (and_left _ _ (ne_eqb (session_of e) s n))) j)) i in
      let k : Asked (attempt_of M T0 s (e ∷ h)) (ops_of s h) (answers_of T0 s (e ∷ h)) = subst (λ (told : List Answer). Asked (attempt_of M T0 s (e ∷ h)) (ops_of s h) told) (sym (answers_other T0 s e h n)) f in
      subst (λ (os : List TableOp). Asked (attempt_of M T0 s (e ∷ h)) os (answers_of T0 s (e ∷ h))) (sym (ops_other s e h n)) k
]

-- ---- the serial run

-- an event that is no End adds nothing
record Quiet (e : Event) : Type 0 where
  commits_not : commits e ≡ false
  no_entry : (h : List Event) (js : List Entry) → entry_of e h js ≡ js
  tells_none : (told : List Shown) → told_in e told ≡ told

quiet_step : (Heap : Type 0) (M : Meaning Heap) (T0 : Tables) (e : Event) (h : List Event) → Quiet e → IsSerial M T0 h → IsSerial M T0 (e ∷ h)
unfolding journal told_of
quiet_step Heap M T0 e h q i = record {
  told = ap (λ (js : List Entry). (serial M T0 js).told) (q.no_entry h (journal h)) ∙ i.told ∙ sym (q.tells_none (told_of h));
  heaps = λ s. ap (λ (js : List Entry). (serial M T0 js).heaps s) (q.no_entry h (journal h)) ∙ i.heaps s ∙ sym (heap_kept Heap M T0 s e h (and_right _ _ q.commits_not));
  tables = ap (λ (js : List Entry). (serial M T0 js).tables) (q.no_entry h (journal h)) ∙ i.tables ∙ sym (tables_kept T0 e h q.commits_not);
}

-- an End is the call run from the tables before it
record Settles {Heap : Type 0} (M : Meaning Heap) (T0 : Tables) (s : ℕ) (done : Done) (h : List Event) (e : Ended Heap) : Type 0 where
  reply : e.reply ≡ done.reply
  shown : prints_of e.reply e.prints ≡ done.prints
  heap : reached (outcome_of M T0 s h) (heap_of M T0 s h) ≡ e.heap
  tables : e.tables ≡ seen_tables T0 s h

settle : (Heap : Type 0) (M : Meaning Heap) (T0 : Tables) (s : ℕ) (done : Done) (h : List Event) (now : Serial Heap) → ((t : ℕ) → now.heaps t ≡ heap_of M T0 t h) → now.tables ≡ tables_of T0 h → now.told ≡ told_of h
    → (e : Ended Heap) → Settles M T0 s done h e → (b : Bool) → is_throw e.reply ≡ b
    → ((settled s now (Some e)).told ≡ record { reply = done.reply; prints = done.prints } ∷ told_of h) × ((t : ℕ) → (settled s now (Some e)).heaps t ≡ heap_of M T0 t (End s done ∷ h)) × ((settled s now (Some e)).tables ≡ tables_of T0 (End s done ∷ h))
settle Heap M T0 s done h now p q r e z true k =
    let c : commits (End s done) ≡ false = not_from_true _ (ap is_throw (sym z.reply) ∙ k) in (
      (λ i. record { reply = z.reply i; prints = z.shown i } ∷ r i),
      (λ t. ap (λ (b : Bool). cond b now.heaps (with_heap now.heaps s e.heap) t) k ∙ p t ∙ sym (heap_kept Heap M T0 t (End s done) h (and_right _ _ c))),
      ap (λ (b : Bool). cond b now.tables e.tables) k ∙ q ∙ sym (tables_kept T0 (End s done) h c),
    )
settle Heap M T0 s done h now p q r e z false k =
    let c : commits (End s done) ≡ true = not_from_false _ (ap is_throw (sym z.reply) ∙ k) in (
      (λ i. record { reply = z.reply i; prints = z.shown i } ∷ r i),
      (λ t. ap (λ (b : Bool). cond b now.heaps (with_heap now.heaps s e.heap) t) k ∙ elim (cases_eq s t) [
        | inl x ↦ cond-true _ _ _ (eq-eqb s t x) ∙ sym (subst (λ (u : ℕ). heap_of M T0 u (End s done ∷ h) ≡ e.heap) x (heap_reached Heap M T0 s (End s done) h (and_from _ _ (eq-eqb s s refl) c) ∙ z.heap))
        | inr n ↦ cond-false _ _ _ (ne_eqb s t n) ∙ p t ∙ sym (heap_kept Heap M T0 t (End s done) h (and_left _ _ (ne_eqb s t n)))
      ]),
      ap (λ (b : Bool). cond b now.tables e.tables) k ∙ z.tables ∙ sym (tables_committed T0 (End s done) h c),
    )

end_step : (Heap : Type 0) (M : Meaning Heap) (job : Calls) (form : LockForm) → Guards form → IsBounded M → (T0 : Tables) (s : ℕ) (done : Done) (h : List Event) → IsLegal job form h → IsOwn M T0 h → EndedWith (outcome_of M T0 s h) done → IsSerial M T0 h → IsSerial M T0 (End s done ∷ h)
unfolding journal told_of serial
end_step Heap M job form g b T0 s done h l w d i =
    let now = serial M T0 (journal h) in
    let call = call_or_none (call_of s h) in
    let T = tables_of T0 h in
    let told = answers_stay job form g T0 h l s in
    let asked = subst (λ (as' : List Answer). Asked (attempt_of M T0 s h) (ops_of s h) as') told (asked_all Heap M T0 h w s) in
    let ended : attempt_of M T0 s h (answers_to (ops_of s h) T) ≡ Ends done.reply d.prints d.heap = ap (attempt_of M T0 s h) (sym told) ∙ d.ended in
    let e : Ended Heap = record { reply = done.reply; prints = d.prints; heap = d.heap; tables = fed (ops_of s h) T } in
    let run : run_on max_ops (M.exec s call (now.heaps s)) now.tables ≡ Some e =
    (λ j. run_on max_ops (M.exec s call (i.heaps s j)) (i.tables j)) ∙ run_is Heap max_ops (attempt_of M T0 s h) (ops_of s h) T done.reply d.prints d.heap (b s call (heap_of M T0 s h)) asked ended in
    let z : Settles M T0 s done h e = record { reply = refl; shown = sym d.shown; heap = ap (λ (o : Outcome Heap). reached o (heap_of M T0 s h)) d.ended; tables = refl } in
    let r = settle Heap M T0 s done h now i.heaps i.tables i.told e z (is_throw done.reply) refl in
    record {
      told = ap (λ (x : Option (Ended Heap)). (settled s now x).told) run ∙ r.0;
      heaps = λ t. ap (λ (x : Option (Ended Heap)). (settled s now x).heaps t) run ∙ r.1 t;
      tables = ap (λ (x : Option (Ended Heap)). (settled s now x).tables) run ∙ r.2;
    }

serial_step : (Heap : Type 0) (M : Meaning Heap) (job : Calls) (form : LockForm) → Guards form → IsBounded M → (T0 : Tables) (e : Event) (h : List Event) → IsLegal job form h → IsOwn M T0 h → IsOwnAt M T0 h e → IsSerial M T0 h → IsSerial M T0 (e ∷ h)
serial_step Heap M job form g b T0 (Begin s c a) h l w m i = quiet_step Heap M T0 (Begin s c a) h (record { commits_not = refl; no_entry = λ h js. refl; tells_none = λ t. refl }) i
serial_step Heap M job form g b T0 (Op s o) h l w m i = quiet_step Heap M T0 (Op s o) h (record { commits_not = refl; no_entry = λ h js. refl; tells_none = λ t. refl }) i
serial_step Heap M job form g b T0 (Die s o x) h l w m i = quiet_step Heap M T0 (Die s o x) h (record { commits_not = refl; no_entry = λ h js. refl; tells_none = λ t. refl }) i
serial_step Heap M job form g b T0 (End s d) h l w m i = end_step Heap M job form g b T0 s d h l w m i
serial_step Heap M job form g b T0 (Drop s) h l w m i = quiet_step Heap M T0 (Drop s) h (record { commits_not = refl; no_entry = λ h js. refl; tells_none = λ t. refl }) i

serial_start : (Heap : Type 0) (M : Meaning Heap) (T0 : Tables) → IsSerial M T0 []
unfolding journal told_of serial heap_of tables_of
serial_start Heap M T0 = record { told = refl; heaps = λ s. refl; tables = refl }

-- two-phase locking gives the serial run in order of the Ends
pub serially : (Heap : Type 0) (M : Meaning Heap) (job : Calls) (form : LockForm) → Guards form → IsBounded M → (T0 : Tables) (h : List Event) → IsLegal job form h → IsOwn M T0 h → IsSerial M T0 h
serially Heap M job form g b T0 [] l w = serial_start Heap M T0
serially Heap M job form g b T0 (e ∷ h) l w = serial_step Heap M job form g b T0 e h l.1 w.1 w.0 (serially Heap M job form g b T0 h l.1 w.1)

pub faithful : (Heap : Type 0) (M : Meaning Heap) (job : Calls) (form : LockForm) → Guards form → IsBounded M → (T0 : Tables) (h : List Event) → IsLegal job form h → IsOwn M T0 h → IsFaithful M job form T0 h
faithful Heap M job form g b T0 h l w = record { legal = l; own = w; serially = serially Heap M job form g b T0 h l w }

-- ---- a journal in order

run_all-push : (Heap : Type 0) (M : Meaning Heap) (js : List Entry) (now : Serial Heap) (j : Entry) → run_all M now (js ++ j ∷ []) ≡ one_call M (run_all M now js) j
unfolding run_all
run_all-push Heap M [] now j = refl
run_all-push Heap M (i ∷ js) now j = run_all-push Heap M js (one_call M now i) j

-- the run of a journal from its first entry on
pub serial_in_order : (Heap : Type 0) (M : Meaning Heap) (T0 : Tables) (js : List Entry) → run_all M (as_new M T0) (reverse js) ≡ serial M T0 js
unfolding serial run_all
serial_in_order Heap M T0 [] = refl
serial_in_order Heap M T0 (j ∷ js) =
    ap (run_all M (as_new M T0)) (reverse-append (j ∷ []) js) ∙ run_all-push Heap M (reverse js) (as_new M T0) j ∙ ap (λ (now : Serial Heap). one_call M now j) (serial_in_order Heap M T0 js)

-- ---- an attempt asks at most so many operations

asked_few : (Heap : Type 0) (n : ℕ) (run : List Answer → Outcome Heap) (os : List TableOp) (told : List Answer) → AsksAtMost n run → Asked run os told → length os ≤ n
asked_few Heap n run [] told b a = omega arith
asked_few Heap n run (o ∷ os) [] b a = absurd a
asked_few Heap zero run (o ∷ os) (t ∷ told) b a = let z = b [] o a.0 in absurd (omega arith)
asked_few Heap (suc n) run (o ∷ os) (t ∷ told) b a =
    let i = asked_few Heap n (λ more. run (t ∷ more)) os told (λ ts p k. let z = b (t ∷ ts) p k in omega arith) a.1 in
    omega arith

pub ops_few : (Heap : Type 0) (M : Meaning Heap) → IsBounded M → (T0 : Tables) (h : List Event) → IsOwn M T0 h → (s : ℕ) → length (ops_of s h) ≤ max_ops
ops_few Heap M b T0 h w s = asked_few Heap max_ops (attempt_of M T0 s h) (ops_of s h) (answers_of T0 s h) (b s (call_or_none (call_of s h)) (heap_of M T0 s h)) (asked_all Heap M T0 h w s)
