-- Each step of a core keeps it sound.
use Rattle.std.proofs.Common.{◌≡◌, ◌≢◌, ℕ, zero, suc, ◌<◌, true, false, All, List, [], ◌∷◌, ◌++◌, reverse, length, slice_index_or, slice_set, refl, sym, ap, ◌∙◌, subst, arith, inl, inr, get_or-set_same, get_or-set_other}
use Rattle.std.proofs.lemmas.Bool.{cases_eq, both_ways, false_from_ne_true, cond-false}
use Rattle.std.proofs.lemmas.List.{reverse-append, get_or_default}
use Rattle.px_value.specs.declared.statement.TableOp.{TableOp}
use Rattle.px_code.specs.declared.reply.Done.{Done}
use Rattle.px_rows.specs.Tables.{Tables, Place, Old, undone, row_at}
use Rattle.px_rows.specs.Means.{after, old_of, answer_to}
use Rattle.px_locks.specs.declared.want.Grant.{Grant}
use Rattle.px_locks.specs.declared.want.Want.{Want}
use Rattle.px_locks.specs.declared.book.Asked.{Asked}
use Rattle.px_locks.specs.declared.book.Asked.TheVariants.{Granted, Dies}
use Rattle.px_locks.specs.Locks.{IsTold, IsJoined, granted, without}
use Rattle.px_history.specs.declared.event.Event.{Event}
use Rattle.px_history.specs.declared.event.Event.TheVariants.{Begin, Op, Die, End}
use Rattle.px_history.specs.Attempts.{session_of, ops_of, ops_after, is_active, stamp_of}
use Rattle.px_history.specs.Places.{written}
use Rattle.px_history.specs.Legal.{Calls, MayBegin, MayEnd, MayFollow, IsLegal}
use Rattle.px_history.specs.Locking.{IsFree, core_locks}
use Rattle.px_history.specs.State.{answer_of, commits, InPlace, Undoes}
use Rattle.px_history.specs.Booked.{IsBooked}
use Rattle.px_history.proofs.Guards.{Guards, table_locks_guard}
use Rattle.px_history.proofs.Rows.{after_elsewhere, written_touched}
use Rattle.px_history.proofs.Apart.{ops_own, idle_ops, free_apart}
use Rattle.px_history.proofs.Place.{start_in_place, answer_in_place, op_in_place, commit_in_place, begin_in_place, undo_in_place, undo_none, undo_other, undo_own, undone_at, not_written}
use Rattle.px_history.proofs.Book.{granted_free, dies_must, book_start, book_op, book_release, book_begin}
use Rattle.px_engine.specs.Sound.{IsKept}

core_guard : Guards core_locks
core_guard = table_locks_guard

-- the history with the latest event first
record IsNext (job : Calls) (T0 T : Tables) (grants : List Grant) (undos : List (List Old)) (h : List Event) : Type 0 where
  legal : IsLegal job core_locks h
  in_place : InPlace T0 T h
  booked : IsBooked core_locks grants h
  undoes : (s : ℕ) → Undoes T0 T (slice_index_or undos s []) s h

to_sound : (job : Calls) (T0 T : Tables) (grants : List Grant) (undos : List (List Old)) (events : List Event) (e : Event) → IsNext job T0 T grants undos (e ∷ reverse events) → IsKept job T0 T grants undos (events ++ e ∷ [])
to_sound job T0 T grants undos events e n =
    let r : e ∷ reverse events ≡ reverse (events ++ e ∷ []) = sym (reverse-append events (e ∷ [])) in
    let m = subst (λ (h : List Event). IsNext job T0 T grants undos h) r n in
    record { legal = m.legal; in_place = m.in_place; booked = m.booked; undoes = m.undoes }

-- One session's old rows are set, and those of the others stay: the tables keep each row that they have written.
undoes_set : (job : Calls) (T0 T T' : Tables) (undos : List (List Old)) (e : Event) (h : List Event) → IsLegal job core_locks h → (mine : List Old) → session_of e < length undos → ((s : ℕ) → Undoes T0 T (slice_index_or undos s []) s h)
    → Undoes T0 T' mine (session_of e) (e ∷ h) → ((y : ℕ) → y ≢ session_of e → (c : Place) → written (ops_of y h) c ≡ true → row_at T' c ≡ row_at T c)
    → (s : ℕ) → Undoes T0 T' (slice_index_or (slice_set undos (session_of e) mine) s []) s (e ∷ h)
undoes_set job T0 T T' undos e h l mine k u m stay s = elim (cases_eq (session_of e) s) [
  | inl q ↦ subst (λ (t : ℕ). Undoes T0 T' (slice_index_or (slice_set undos (session_of e) mine) t []) t (e ∷ h)) q
      (subst (λ (x : List Old). Undoes T0 T' x (session_of e) (e ∷ h)) (sym (get_or-set_same undos (session_of e) mine [] k)) m)
  | inr n ↦ subst (λ (x : List Old). Undoes T0 T' x s (e ∷ h)) (sym (get_or-set_other undos (session_of e) s mine [] (λ r. n (sym r))))
      (undo_other job core_locks core_guard T0 T T' e h l s (λ r. n (sym r)) (slice_index_or undos s []) (u s) (stay s (λ r. n (sym r))))
]

-- an operation that is free leaves the rows that others have written
op_leaves : (h : List Event) (s : ℕ) (o : TableOp) (T : Tables) → IsFree core_locks h s o → (y : ℕ) → y ≢ s → (c : Place) → written (ops_of y h) c ≡ true → row_at (after o T) c ≡ row_at T c
op_leaves h s o T f y n c w = after_elsewhere o T c (false_from_ne_true _ (λ k. both_ways _ ((free_apart core_locks core_guard h s o f y n c).1 k) (written_touched (ops_of y h) c w)))

-- and so does an undo
undo_leaves : (job : Calls) (T0 T : Tables) (h : List Event) → InPlace T0 T h → IsLegal job core_locks h → (s : ℕ) (undo : List Old) → Undoes T0 T undo s h → (y : ℕ) → y ≢ s → (c : Place) → written (ops_of y h) c ≡ true → row_at (undone undo T) c ≡ row_at T c
undo_leaves job T0 T h p l s undo u y n c w = undone_at T0 T h p s undo u c ∙ cond-false _ _ _ (not_written job core_locks core_guard h l y s (λ r. n (sym r)) c w)

pub op_sound : (job : Calls) (T0 T : Tables) (grants after' : List Grant) (undos : List (List Old)) (events : List Event) → IsKept job T0 T grants undos events → (s : ℕ) (o : TableOp) → is_active s (reverse events) ≡ true → IsFree core_locks (reverse events) s o → s < length undos
    → IsJoined grants (granted s (stamp_of s (reverse events)) (core_locks.wants o)) after'
    → IsKept job T0 (after o T) after' (slice_set undos s (slice_index_or undos s [] ++ old_of o T)) (events ++ Op s o ∷ [])
op_sound job T0 T grants after' undos events z s o a f k j = to_sound job T0 _ _ _ events (Op s o) (record {
  legal = (record { active = a; free = f }, z.legal);
  in_place = op_in_place T0 T (reverse events) z.in_place s o;
  booked = book_op core_locks grants after' (reverse events) z.booked s o a j;
  undoes = undoes_set job T0 T (after o T) undos (Op s o) (reverse events) z.legal (slice_index_or undos s [] ++ old_of o T) k z.undoes (undo_own core_locks core_guard T0 T (reverse events) z.in_place s o f (slice_index_or undos s []) (z.undoes s)) (op_leaves (reverse events) s o T f);
})

-- the attempt ends, and commits nothing
pub gone_sound : (job : Calls) (T0 T : Tables) (grants : List Grant) (undos : List (List Old)) (events : List Event) → IsKept job T0 T grants undos events → (e : Event) → MayFollow job core_locks (reverse events) e → commits e ≡ false → ops_after e (ops_of (session_of e) (reverse events)) ≡ [] → session_of e < length undos
    → IsKept job T0 (undone (slice_index_or undos (session_of e) []) T) (without (session_of e) grants) (slice_set undos (session_of e) []) (events ++ e ∷ [])
gone_sound job T0 T grants undos events z e m q w k =
    let undo = slice_index_or undos (session_of e) [] in
    to_sound job T0 _ _ _ events e (record {
      legal = (m, z.legal);
      in_place = undo_in_place job core_locks core_guard T0 T (reverse events) z.in_place z.legal e q w undo (z.undoes (session_of e));
      booked = book_release core_locks grants (reverse events) z.booked e w;
      undoes = undoes_set job T0 T (undone undo T) undos e (reverse events) z.legal [] k z.undoes (undo_none T0 (undone undo T) (session_of e) (e ∷ reverse events) (ops_own (session_of e) e (reverse events) refl ∙ w))
          (undo_leaves job T0 T (reverse events) z.in_place z.legal (session_of e) undo (z.undoes (session_of e)));
    })

-- the attempt commits
pub commit_sound : (job : Calls) (T0 T : Tables) (grants : List Grant) (undos : List (List Old)) (events : List Event) → IsKept job T0 T grants undos events → (s : ℕ) (done : Done) → MayEnd job (reverse events) s done → commits (End s done) ≡ true → s < length undos
    → IsKept job T0 T (without s grants) (slice_set undos s []) (events ++ End s done ∷ [])
commit_sound job T0 T grants undos events z s done m q k = to_sound job T0 _ _ _ events (End s done) (record {
  legal = (m, z.legal);
  in_place = commit_in_place job core_locks core_guard T0 T (reverse events) z.in_place z.legal s done q;
  booked = book_release core_locks grants (reverse events) z.booked (End s done) refl;
  undoes = undoes_set job T0 T T undos (End s done) (reverse events) z.legal [] k z.undoes (undo_none T0 T s (End s done ∷ reverse events) (ops_own s (End s done) (reverse events) refl)) (λ y n c w. refl);
})

-- where the attempt begins there is nothing to put back yet
begun_undo : (T0 T : Tables) (undo : List Old) (s c a : ℕ) (h : List Event) → ops_of s h ≡ [] → Undoes T0 T undo s h → Undoes T0 T undo s (Begin s c a ∷ h)
begun_undo T0 T undo s c a h w u = record {
  back = λ p v. absurd (both_ways _ (ap (λ (os : List TableOp). written os p) (ops_own s (Begin s c a) h refl)) v);
  alone = λ p r v. u.alone p r (ap (λ (os : List TableOp). written os p) w);
}

-- the attempt begins
pub begin_sound : (job : Calls) (T0 T : Tables) (grants : List Grant) (undos : List (List Old)) (events : List Event) → IsKept job T0 T grants undos events → (s c a : ℕ) → MayBegin job (reverse events) s c a
    → IsKept job T0 T grants undos (events ++ Begin s c a ∷ [])
begin_sound job T0 T grants undos events z s c a m =
    let w = idle_ops job core_locks (reverse events) z.legal s m.idle in
    to_sound job T0 _ _ _ events (Begin s c a) (record {
      legal = (m, z.legal);
      in_place = begin_in_place T0 T (reverse events) z.in_place s c a w;
      booked = book_begin core_locks grants (reverse events) z.booked s c a m.idle w;
      undoes = λ t. elim (cases_eq s t) [
        | inl q ↦ subst (λ (u : ℕ). Undoes T0 T (slice_index_or undos u []) u (Begin s c a ∷ reverse events)) q (begun_undo T0 T (slice_index_or undos s []) s c a (reverse events) w (z.undoes s))
        | inr n ↦ undo_other job core_locks core_guard T0 T T (Begin s c a) (reverse events) z.legal t (λ r. n (sym r)) (slice_index_or undos t []) (z.undoes t) (λ p v. refl)
      ];
    })

-- ---- the same, by what the code did

pub die_step : (job : Calls) (T0 T : Tables) (grants : List Grant) (undos : List (List Old)) (events : List Event) → IsKept job T0 T grants undos events → (s stamp : ℕ) (o : TableOp) (x : ℕ)
    → is_active s (reverse events) ≡ true → stamp ≡ stamp_of s (reverse events) → s < length undos → IsTold grants s stamp (core_locks.wants o) (Dies x)
    → (T' : Tables) (grants' : List Grant) (i : ℕ) (mine : List Old) (events' : List Event) → i ≡ s → T' ≡ undone (slice_index_or undos s []) T → grants' ≡ without s grants → mine ≡ [] → events' ≡ events ++ Die s o x ∷ []
    → IsKept job T0 T' grants' (slice_set undos i mine) events'
die_step job T0 T grants undos events z s stamp o x a p k q T' grants' i mine events' e1 e2 e3 e4 e5 =
    let m = dies_must core_locks grants (reverse events) z.booked s o x a (subst (λ (n : ℕ). IsTold grants s n (core_locks.wants o) (Dies x)) p q) in
    let r = gone_sound job T0 T grants undos events z (Die s o x) m refl refl k in
    subst (λ (y : Tables × List Grant × List (List Old) × List Event). IsKept job T0 y.0 y.1 y.2 y.3) (λ j. (sym e2 j, sym e3 j, slice_set undos (sym e1 j) (sym e4 j), sym e5 j)) r

pub op_step : (job : Calls) (T0 T : Tables) (grants : List Grant) (undos : List (List Old)) (events : List Event) → IsKept job T0 T grants undos events → (s stamp : ℕ) (o : TableOp)
    → is_active s (reverse events) ≡ true → stamp ≡ stamp_of s (reverse events) → s < length undos → IsTold grants s stamp (core_locks.wants o) Granted
    → (T' : Tables) (grants' : List Grant) (i : ℕ) (mine : List Old) (events' : List Event) → i ≡ s → T' ≡ after o T → IsJoined grants (granted s stamp (core_locks.wants o)) grants' → mine ≡ slice_index_or undos s [] ++ old_of o T → events' ≡ events ++ Op s o ∷ []
    → IsKept job T0 T' grants' (slice_set undos i mine) events'
op_step job T0 T grants undos events z s stamp o a p k q T' grants' i mine events' e1 e2 e3 e4 e5 =
    let j3 : IsJoined grants (granted s (stamp_of s (reverse events)) (core_locks.wants o)) grants' = subst (λ (n : ℕ). IsJoined grants (granted s n (core_locks.wants o)) grants') p e3 in
    let r = op_sound job T0 T grants grants' undos events z s o a (granted_free core_locks grants (reverse events) z.booked s o q) k j3 in
    subst (λ (y : Tables × List (List Old) × List Event). IsKept job T0 y.0 grants' y.1 y.2) (λ j. (sym e2 j, slice_set undos (sym e1 j) (sym e4 j), sym e5 j)) r

pub answer_step : (job : Calls) (T0 T : Tables) (grants : List Grant) (undos : List (List Old)) (events : List Event) → IsKept job T0 T grants undos events → (s stamp : ℕ) (o : TableOp) → IsTold grants s stamp (core_locks.wants o) Granted → answer_to o T ≡ answer_of T0 s o (reverse events)
answer_step job T0 T grants undos events z s stamp o q = answer_in_place core_locks core_guard T0 T (reverse events) z.in_place s o (granted_free core_locks grants (reverse events) z.booked s o q)

-- what the book told, in the words of the history
pub told_at : (grants : List Grant) (s stamp : ℕ) (want : Want) (vs wants : List Want) → vs ≡ want ∷ [] → want ∷ [] ≡ wants → (r a : Asked) → IsTold grants s stamp vs r → r ≡ a → IsTold grants s stamp wants a
told_at grants s stamp want vs wants v w r a t e = subst (λ (y : List Want × Asked). IsTold grants s stamp y.0 y.1) (λ j. ((v ∙ w) j, e j)) t

-- the old rows that were borrowed
pub mine_at : (undos : List (List Old)) (i s : ℕ) (x : List Old) → i ≡ s → s < length undos → x ≡ slice_index_or undos i x → x ≡ slice_index_or undos s []
mine_at undos i s x q k e = e ∙ ap (λ (n : ℕ). slice_index_or undos n x) q ∙ get_or_default undos s x [] k

pub gone_step : (job : Calls) (T0 T : Tables) (grants : List Grant) (undos : List (List Old)) (events : List Event) → IsKept job T0 T grants undos events → (e : Event) → MayFollow job core_locks (reverse events) e → commits e ≡ false → ops_after e (ops_of (session_of e) (reverse events)) ≡ [] → session_of e < length undos
    → (T' : Tables) (grants' : List Grant) (i : ℕ) (mine : List Old) (events' : List Event) → i ≡ session_of e → T' ≡ undone (slice_index_or undos (session_of e) []) T → grants' ≡ without (session_of e) grants → mine ≡ [] → events' ≡ events ++ e ∷ []
    → IsKept job T0 T' grants' (slice_set undos i mine) events'
gone_step job T0 T grants undos events z e m q w k T' grants' i mine events' e1 e2 e3 e4 e5 =
    subst (λ (y : Tables × List Grant × List (List Old) × List Event). IsKept job T0 y.0 y.1 y.2 y.3) (λ j. (sym e2 j, sym e3 j, slice_set undos (sym e1 j) (sym e4 j), sym e5 j)) (gone_sound job T0 T grants undos events z e m q w k)

pub commit_step : (job : Calls) (T0 T : Tables) (grants : List Grant) (undos : List (List Old)) (events : List Event) → IsKept job T0 T grants undos events → (s : ℕ) (done : Done) → MayEnd job (reverse events) s done → commits (End s done) ≡ true → s < length undos
    → (grants' : List Grant) (i : ℕ) (mine : List Old) (events' : List Event) → i ≡ s → grants' ≡ without s grants → mine ≡ [] → events' ≡ events ++ End s done ∷ []
    → IsKept job T0 T grants' (slice_set undos i mine) events'
commit_step job T0 T grants undos events z s done m q k grants' i mine events' e1 e3 e4 e5 =
    subst (λ (y : List Grant × List (List Old) × List Event). IsKept job T0 T y.0 y.1 y.2) (λ j. (sym e3 j, slice_set undos (sym e1 j) (sym e4 j), sym e5 j)) (commit_sound job T0 T grants undos events z s done m q k)

pub begin_step : (job : Calls) (T0 T : Tables) (grants : List Grant) (undos : List (List Old)) (events : List Event) → IsKept job T0 T grants undos events → (s c a : ℕ) → MayBegin job (reverse events) s c a → (events' : List Event) → events' ≡ events ++ Begin s c a ∷ [] → IsKept job T0 T grants undos events'
begin_step job T0 T grants undos events z s c a m events' e = subst (λ (es : List Event). IsKept job T0 T grants undos es) (sym e) (begin_sound job T0 T grants undos events z s c a m)

pub moved : (job : Calls) (T0 T : Tables) (grants : List Grant) (undos : List (List Old)) (events : List Event) → IsKept job T0 T grants undos events → (T' : Tables) (undos' : List (List Old)) → T' ≡ T → undos' ≡ undos → IsKept job T0 T' grants undos' events
moved job T0 T grants undos events z T' undos' p q = subst (λ (y : Tables × List (List Old)). IsKept job T0 y.0 grants y.1 events) (λ j. (sym p j, sym q j)) z

-- ---- the start

all_none : (undos : List (List Old)) → All (λ u. u ≡ []) undos → (s : ℕ) → slice_index_or undos s [] ≡ []
all_none [] a s = refl
all_none (u ∷ us) a zero = a 0 [] (omega arith)
all_none (u ∷ us) a (suc s) = all_none us (λ k d h. a (suc k) d (omega arith)) s

no_ops : (s : ℕ) → ops_of s [] ≡ []
unfolding ops_of
no_ops s = refl

pub start_sound : (job : Calls) (T0 : Tables) (undos : List (List Old)) → All (λ u. u ≡ []) undos → IsKept job T0 T0 [] undos []
start_sound job T0 undos a = record {
  legal = tt;
  in_place = start_in_place T0;
  booked = book_start core_locks;
  undoes = λ s. subst (λ (u : List Old). Undoes T0 T0 u s []) (sym (all_none undos a s)) (undo_none T0 T0 s [] (no_ops s));
}
