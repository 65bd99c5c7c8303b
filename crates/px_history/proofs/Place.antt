-- Tables in place: each event keeps them, answers on them are those of the history, and an undo is exact.
use Rattle.std.proofs.Common.{◌≡◌, ◌≢◌, ℕ, Bool, true, false, cond, ◌||◌, List, [], ◌∷◌, ◌++◌, length, Option, Some, None, arith, refl, sym, ap, ◌∙◌, subst, inl, inr}
use Rattle.std.proofs.lemmas.Bool.{or_parts, both_ways, false_from_ne_true, cond-true, cond-false, cases_eq, cases_Bool, cases_lt}
use Rattle.px_value.specs.declared.statement.TableOp.{TableOp}
use Rattle.px_rows.specs.Tables.{Row, Tables, Place, Old, row_at, undone}
use Rattle.px_history.specs.Places.{same_place, restored}
use Rattle.px_rows.specs.Means.{fed, after, after_write, answer_to, old_of, old_row, place_of, write_of}
use Rattle.px_history.specs.Places.{puts, written}
use Rattle.px_history.proofs.Rows.{answer_same, after_same, after_elsewhere, after_is, old_is, fed-append, fed_elsewhere, fed_same, length_after, length_fed, length_undone, puts_not, puts_place, puts_touches, row_at-undone, row_missing, same_place-refl, same_tables, written-push, written_touched, writes_if}
use Rattle.px_history.specs.declared.event.Event.{Event}
use Rattle.px_history.specs.declared.event.Event.TheVariants.{Begin, Op, End}
use Rattle.px_code.specs.declared.reply.Done.{Done}
use Rattle.px_history.specs.Attempts.{session_of, ops_of, ops_after, is_active}
use Rattle.px_history.specs.Locking.{LockForm, IsFree}
use Rattle.px_history.specs.Legal.{Calls, IsLegal}
use Rattle.px_history.specs.State.{commits, tables_of, seen_tables, answer_of, InPlace, Undoes}
use Rattle.px_history.proofs.Guards.{Guards}
use Rattle.px_history.proofs.Apart.{ops_own, ops_other, idle_ops, free_apart, apart}

abbrev writes_none : ℕ → List Event → Place → Type 0
writes_none s h c = (x : ℕ) → x ≢ s → written (ops_of x h) c ≡ false

-- ---- the tables of a history after one more event

pub tables_kept : (T0 : Tables) (e : Event) (h : List Event) → commits e ≡ false → tables_of T0 (e ∷ h) ≡ tables_of T0 h
unfolding tables_of
tables_kept T0 e h q = cond-false _ _ _ q

pub tables_committed : (T0 : Tables) (e : Event) (h : List Event) → commits e ≡ true → tables_of T0 (e ∷ h) ≡ seen_tables T0 (session_of e) h
unfolding tables_of
tables_committed T0 e h q = cond-true _ _ _ q

-- the tables of a history are as many as at first
pub tables_many : (T0 : Tables) (h : List Event) → length (tables_of T0 h) ≡ length T0
unfolding tables_of
tables_many T0 [] = refl
tables_many T0 (e ∷ h) = elim (cases_Bool (commits e)) [
  | inl q ↦ ap length (tables_committed T0 e h q) ∙ length_fed (ops_of (session_of e) h) (tables_of T0 h) ∙ tables_many T0 h
  | inr q ↦ ap length (tables_kept T0 e h q) ∙ tables_many T0 h
]

pub seen_many : (T0 : Tables) (s : ℕ) (h : List Event) → length (seen_tables T0 s h) ≡ length T0
seen_many T0 s h = length_fed (ops_of s h) (tables_of T0 h) ∙ tables_many T0 h

-- ---- answers

-- where no other session has written what an operation touches, its answer in place is that of the history
pub answer_in_place : (form : LockForm) → Guards form → (T0 T : Tables) (h : List Event) → InPlace T0 T h → (s : ℕ) (o : TableOp) → IsFree form h s o → answer_to o T ≡ answer_of T0 s o h
answer_in_place form g T0 T h p s o f = answer_same o T (seen_tables T0 s h) (λ c t. p.sees s c (λ x n. false_from_ne_true _ (λ w. both_ways _ ((free_apart form g h s o f x n c).0 w) t)))

-- ---- the steps of the tables in place

pub start_in_place : (T0 : Tables) → InPlace T0 T0 []
unfolding ops_of tables_of
start_in_place T0 = record { many = refl; sees = λ s c n. refl }

others_kept : (e : Event) (h : List Event) (y : ℕ) (c : Place) → y ≢ session_of e → written (ops_of (session_of e) h) c ≡ false → writes_none y (e ∷ h) c → writes_none y h c
others_kept e h y c m w n x k = elim (cases_eq (session_of e) x) [
  | inl q ↦ subst (λ (t : ℕ). written (ops_of t h) c ≡ false) q w
  | inr r ↦ ap (λ (os : List TableOp). written os c) (sym (ops_other x e h r)) ∙ n x k
]

own_kept : (e : Event) (h : List Event) (c : Place) → writes_none (session_of e) (e ∷ h) c → writes_none (session_of e) h c
own_kept e h c n x k = ap (λ (os : List TableOp). written os c) (sym (ops_other x e h (λ r. k (sym r)))) ∙ n x k

-- the views after an event that commits nothing: of its own session, and of another
seen_own : (T0 : Tables) (e : Event) (h : List Event) → commits e ≡ false → seen_tables T0 (session_of e) (e ∷ h) ≡ fed (ops_after e (ops_of (session_of e) h)) (tables_of T0 h)
seen_own T0 e h q = λ i. fed (ops_own (session_of e) e h refl i) (tables_kept T0 e h q i)

seen_other : (T0 : Tables) (e : Event) (h : List Event) (y : ℕ) → session_of e ≢ y → commits e ≡ false → seen_tables T0 y (e ∷ h) ≡ seen_tables T0 y h
seen_other T0 e h y n q = λ i. fed (ops_other y e h n i) (tables_kept T0 e h q i)

-- each session by itself: its own event, and that of another
by_session : (T0 T : Tables) (e : Event) (h : List Event) → length T ≡ length T0 → ((c : Place) → writes_none (session_of e) (e ∷ h) c → row_at T c ≡ row_at (seen_tables T0 (session_of e) (e ∷ h)) c)
    → ((y : ℕ) → y ≢ session_of e → (c : Place) → writes_none y (e ∷ h) c → row_at T c ≡ row_at (seen_tables T0 y (e ∷ h)) c) → InPlace T0 T (e ∷ h)
by_session T0 T e h m own other = record {
  many = m;
  sees = λ y c n. elim (cases_eq (session_of e) y) [
    | inl q ↦ subst (λ (t : ℕ). writes_none t (e ∷ h) c → row_at T c ≡ row_at (seen_tables T0 t (e ∷ h)) c) q (own c) n
    | inr r ↦ other y (λ k. r (sym k)) c n
  ];
}

pub op_in_place : (T0 T : Tables) (h : List Event) → InPlace T0 T h → (s : ℕ) (o : TableOp) → InPlace T0 (after o T) (Op s o ∷ h)
op_in_place T0 T h p s o = by_session T0 (after o T) (Op s o) h (length_after o T ∙ p.many)
    (λ c n. after_same o T (seen_tables T0 s h) c (p.many ∙ sym (seen_many T0 s h)) (p.sees s c (own_kept (Op s o) h c n))
    ∙ ap (λ (T' : Tables). row_at T' c) (sym (seen_own T0 (Op s o) h refl ∙ fed-append (ops_of s h) (o ∷ []) (tables_of T0 h))))
    (λ y m c n.
    let w : (written (ops_of s h) c || puts o c) ≡ false = sym (written-push (ops_of s h) o c) ∙ ap (λ (os : List TableOp). written os c) (sym (ops_own s (Op s o) h refl)) ∙ n s (λ r. m (sym r)) in
    after_elsewhere o T c (or_parts _ _ w).1 ∙ p.sees y c (others_kept (Op s o) h y c m (or_parts _ _ w).0 n)
    ∙ ap (λ (T' : Tables). row_at T' c) (sym (seen_other T0 (Op s o) h y (λ r. m (sym r)) refl)))

-- what a session that writes a place leaves of the views of the others there
pub not_written : (job : Calls) (form : LockForm) → Guards form → (h : List Event) → IsLegal job form h → (s y : ℕ) → y ≢ s → (c : Place) → written (ops_of s h) c ≡ true → written (ops_of y h) c ≡ false
not_written job form g h l s y n c w = false_from_ne_true _ (λ k. both_ways _ (apart job form g h l y s n c w) (written_touched (ops_of y h) c k))

-- an End that commits
pub commit_in_place : (job : Calls) (form : LockForm) → Guards form → (T0 T : Tables) (h : List Event) → InPlace T0 T h → IsLegal job form h → (s : ℕ) (done : Done) → commits (End s done) ≡ true → InPlace T0 T (End s done ∷ h)
commit_in_place job form g T0 T h p l s done q = by_session T0 T (End s done) h p.many
    (λ c n. p.sees s c (own_kept (End s done) h c n)
    ∙ ap (λ (T' : Tables). row_at T' c) (sym (tables_committed T0 (End s done) h q))
    ∙ ap (λ (os : List TableOp). row_at (fed os (tables_of T0 (End s done ∷ h))) c) (sym (ops_own s (End s done) h refl)))
    (λ y m c n.
    let seen : row_at (seen_tables T0 y (End s done ∷ h)) c ≡ row_at (fed (ops_of y h) (seen_tables T0 s h)) c =
    λ i. row_at (fed (ops_other y (End s done) h (λ r. m (sym r)) i) (tables_committed T0 (End s done) h q i)) c in
    elim (cases_Bool (written (ops_of s h) c)) [
      | inl w ↦
          let v : written (ops_of y h) c ≡ false = not_written job form g h l s y m c w in
          let others : writes_none s h c = λ x k. elim (cases_eq y x) [
            | inl r ↦ subst (λ (t : ℕ). written (ops_of t h) c ≡ false) r v
            | inr r ↦ ap (λ (os : List TableOp). written os c) (sym (ops_other x (End s done) h (λ j. k (sym j)))) ∙ n x (λ j. r (sym j))
          ] in
          p.sees s c others ∙ sym (fed_elsewhere (ops_of y h) (seen_tables T0 s h) c v) ∙ sym seen
      | inr w ↦
          p.sees y c (others_kept (End s done) h y c m w n)
          ∙ fed_same (ops_of y h) (tables_of T0 h) (seen_tables T0 s h) c (tables_many T0 h ∙ sym (seen_many T0 s h)) (sym (fed_elsewhere (ops_of s h) (tables_of T0 h) c w)) ∙ sym seen
    ])

-- a Begin
pub begin_in_place : (T0 T : Tables) (h : List Event) → InPlace T0 T h → (s b a : ℕ) → ops_of s h ≡ [] → InPlace T0 T (Begin s b a ∷ h)
begin_in_place T0 T h p s b a q = by_session T0 T (Begin s b a) h p.many
    (λ c n. p.sees s c (own_kept (Begin s b a) h c n) ∙ ap (λ (os : List TableOp). row_at (fed os (tables_of T0 h)) c) q ∙ ap (λ (T' : Tables). row_at T' c) (sym (seen_own T0 (Begin s b a) h refl)))
    (λ y m c n. p.sees y c (others_kept (Begin s b a) h y c m (ap (λ (os : List TableOp). written os c) q) n) ∙ ap (λ (T' : Tables). row_at T' c) (sym (seen_other T0 (Begin s b a) h y (λ r. m (sym r)) refl)))

-- ---- undo

-- the row at a place once a session's old rows are put back
pub undone_at : (T0 T : Tables) (h : List Event) → InPlace T0 T h → (s : ℕ) (undo : List Old) → Undoes T0 T undo s h → (c : Place) → row_at (undone undo T) c ≡ cond (written (ops_of s h) c) (row_at (tables_of T0 h) c) (row_at T c)
undone_at T0 T h p s undo u c = elim (cases_lt c.table (length T)) [
  | inl l ↦ row_at-undone undo T c l ∙ elim (cases_Bool (written (ops_of s h) c)) [
    | inl w ↦ u.back c w ∙ sym (cond-true _ _ _ w)
    | inr w ↦ u.alone c (row_at T c) w ∙ sym (cond-false _ _ _ w)
  ]
  | inr m ↦
      let a = length_undone undo T in
      let b = tables_many T0 h in
      let q = p.many in
      let none : row_at T c ≡ None = row_missing T c (omega (arith, m)) in
      let old : row_at (tables_of T0 h) c ≡ None = row_missing (tables_of T0 h) c (omega (arith, m)) in
      row_missing (undone undo T) c (omega (arith, m)) ∙ elim (cases_Bool (written (ops_of s h) c)) [
        | inl w ↦ sym (cond-true _ _ _ w ∙ old)
        | inr w ↦ sym (cond-false _ _ _ w ∙ none)
      ]
]

-- an event that ends the attempt without an End that commits, after the old rows were put back
pub undo_in_place : (job : Calls) (form : LockForm) → Guards form → (T0 T : Tables) (h : List Event) → InPlace T0 T h → IsLegal job form h → (e : Event) → commits e ≡ false → ops_after e (ops_of (session_of e) h) ≡ []
    → (undo : List Old) → Undoes T0 T undo (session_of e) h → InPlace T0 (undone undo T) (e ∷ h)
undo_in_place job form g T0 T h p l e q z undo u = by_session T0 (undone undo T) e h (length_undone undo T ∙ p.many)
    (λ c n. undone_at T0 T h p (session_of e) undo u c ∙ elim (cases_Bool (written (ops_of (session_of e) h) c)) [
      | inl w ↦ cond-true _ _ _ w ∙ ap (λ (T' : Tables). row_at T' c) (sym (seen_own T0 e h q ∙ ap (λ (os : List TableOp). fed os (tables_of T0 h)) z))
      | inr w ↦ cond-false _ _ _ w ∙ p.sees (session_of e) c (own_kept e h c n) ∙ fed_elsewhere (ops_of (session_of e) h) (tables_of T0 h) c w
          ∙ ap (λ (T' : Tables). row_at T' c) (sym (seen_own T0 e h q ∙ ap (λ (os : List TableOp). fed os (tables_of T0 h)) z))
    ])
    (λ y m c n. undone_at T0 T h p (session_of e) undo u c ∙ elim (cases_Bool (written (ops_of (session_of e) h) c)) [
      | inl w ↦ cond-true _ _ _ w ∙ sym (fed_elsewhere (ops_of y h) (tables_of T0 h) c (not_written job form g h l (session_of e) y m c w))
          ∙ ap (λ (T' : Tables). row_at T' c) (sym (seen_other T0 e h y (λ r. m (sym r)) q))
      | inr w ↦ cond-false _ _ _ w ∙ p.sees y c (others_kept e h y c m w n) ∙ ap (λ (T' : Tables). row_at T' c) (sym (seen_other T0 e h y (λ r. m (sym r)) q))
    ])

-- nothing is to be put back where the attempt has no operations
pub undo_none : (T0 T : Tables) (s : ℕ) (h : List Event) → ops_of s h ≡ [] → Undoes T0 T [] s h
undo_none T0 T s h q = record { back = λ c w. absurd (both_ways _ (ap (λ (os : List TableOp). written os c) q) w); alone = λ c r w. refl }

restored-append : (undo more : List Old) (c : Place) (r : Option Row) → restored (undo ++ more) c r ≡ restored undo c (restored more c r)
restored-append [] more c r = refl
restored-append (o ∷ os) more c r = ap (λ (x : Option Row). cond (same_place c o.place) o.row x) (restored-append os more c r)

-- Another session's event leaves what is to be put back, where the tables in place keep the rows that this one's attempt has written.
pub undo_other : (job : Calls) (form : LockForm) → Guards form → (T0 T T' : Tables) (e : Event) (h : List Event) → IsLegal job form h → (y : ℕ) → y ≢ session_of e → (undo : List Old) → Undoes T0 T undo y h
    → ((c : Place) → written (ops_of y h) c ≡ true → row_at T' c ≡ row_at T c) → Undoes T0 T' undo y (e ∷ h)
undo_other job form g T0 T T' e h l y m undo u k =
    let ops : ops_of y (e ∷ h) ≡ ops_of y h = ops_other y e h (λ r. m (sym r)) in
    record {
      back = λ c w.
          let v : written (ops_of y h) c ≡ true = ap (λ (os : List TableOp). written os c) (sym ops) ∙ w in
          ap (restored undo c) (k c v) ∙ u.back c v ∙ elim (cases_Bool (commits e)) [
            | inl q ↦ sym (fed_elsewhere (ops_of (session_of e) h) (tables_of T0 h) c (not_written job form g h l y (session_of e) (λ r. m (sym r)) c v)) ∙ ap (λ (x : Tables). row_at x c) (sym (tables_committed T0 e h q))
            | inr q ↦ ap (λ (x : Tables). row_at x c) (sym (tables_kept T0 e h q))
          ];
      alone = λ c r w. u.alone c r (ap (λ (os : List TableOp). written os c) (sym ops) ∙ w);
    }

-- what an operation finds at its place and adds to the old rows
old_elsewhere : (o : TableOp) (T : Tables) (c : Place) (w : Option (Option Row)) (r : Option Row) → write_of o T ≡ w → puts o c ≡ false → restored (old_row w (place_of o) T) c r ≡ r
old_elsewhere o T c None r e h = refl
old_elsewhere o T c (Some row) r e h = cond-false _ _ _ (puts_not o c (writes_if o.statement o.params (row_at T (place_of o)) row e) h)

old_here : (o : TableOp) (T : Tables) (c : Place) (w : Option (Option Row)) → write_of o T ≡ w → puts o c ≡ true → restored (old_row w (place_of o) T) c (row_at (after_write w (place_of o) T) c) ≡ row_at T c
old_here o T c None e h = refl
old_here o T c (Some row) e h =
    let q = puts_place o c h in
    cond-true _ _ _ (ap (λ (d : Place). same_place d (place_of o)) q ∙ same_place-refl (place_of o)) ∙ ap (row_at T) (sym q)

old_back : (o : TableOp) (T : Tables) (c : Place) → puts o c ≡ true → restored (old_of o T) c (row_at (after o T) c) ≡ row_at T c
old_back o T c h =
    (λ i. restored (old_is o T (write_of o T) refl i) c (row_at (after_is o T (write_of o T) refl i) c)) ∙ old_here o T c (write_of o T) refl h

old_alone : (o : TableOp) (T : Tables) (c : Place) (r : Option Row) → puts o c ≡ false → restored (old_of o T) c r ≡ r
old_alone o T c r h = ap (λ (os : List Old). restored os c r) (old_is o T (write_of o T) refl) ∙ old_elsewhere o T c (write_of o T) r refl h

-- an operation adds the row that it finds in place
pub undo_own : (form : LockForm) → Guards form → (T0 T : Tables) (h : List Event) → InPlace T0 T h → (s : ℕ) (o : TableOp) → IsFree form h s o → (undo : List Old) → Undoes T0 T undo s h → Undoes T0 (after o T) (undo ++ old_of o T) s (Op s o ∷ h)
undo_own form g T0 T h p s o f undo u =
    let ops : (c : Place) → written (ops_of s (Op s o ∷ h)) c ≡ (written (ops_of s h) c || puts o c) = λ c. ap (λ (os : List TableOp). written os c) (ops_own s (Op s o) h refl) ∙ written-push (ops_of s h) o c in
    let found : (c : Place) → restored undo c (row_at T c) ≡ cond (written (ops_of s h) c) (row_at (tables_of T0 h) c) (row_at T c) = λ c. elim (cases_Bool (written (ops_of s h) c)) [
      | inl w ↦ u.back c w ∙ sym (cond-true _ _ _ w)
      | inr w ↦ u.alone c (row_at T c) w ∙ sym (cond-false _ _ _ w)
    ] in
    let same : row_at (tables_of T0 (Op s o ∷ h)) ≡ row_at (tables_of T0 h) = ap row_at (tables_kept T0 (Op s o) h refl) in
    record {
      back = λ c w. restored-append undo (old_of o T) c (row_at (after o T) c) ∙ elim (cases_Bool (puts o c)) [
        | inl k ↦ ap (restored undo c) (old_back o T c k) ∙ elim (cases_Bool (written (ops_of s h) c)) [
          | inl v ↦ u.back c v
          | inr v ↦ u.alone c (row_at T c) v ∙ p.sees s c (λ x n. false_from_ne_true _ (λ v. both_ways _ ((free_apart form g h s o f x n c).0 v) (puts_touches o c k))) ∙ fed_elsewhere (ops_of s h) (tables_of T0 h) c v
        ]
        | inr k ↦
            let v : written (ops_of s h) c ≡ true = first_of (written (ops_of s h) c) (puts o c) k (sym (ops c) ∙ w) in
            ap (restored undo c) (old_alone o T c (row_at (after o T) c) k ∙ after_elsewhere o T c k) ∙ u.back c v
      ] ∙ (λ i. sym same i c);
      alone = λ c r w.
          let b = or_parts _ _ (sym (ops c) ∙ w) in
          restored-append undo (old_of o T) c r ∙ ap (restored undo c) (old_alone o T c r b.1) ∙ u.alone c r b.0;
    }
  where
    first_of : (a b : Bool) → b ≡ false → (a || b) ≡ true → a ≡ true
    first_of true b k h = refl
    first_of false b k h = absurd (both_ways _ k h)

-- where no session is active the tables in place are those of the history
pub rest_in_place : (job : Calls) (form : LockForm) (T0 T : Tables) (h : List Event) → InPlace T0 T h → IsLegal job form h → ((s : ℕ) → is_active s h ≡ false) → T ≡ tables_of T0 h
rest_in_place job form T0 T h p l i = same_tables T (tables_of T0 h) (p.many ∙ sym (tables_many T0 h)) (λ c.
    p.sees 0 c (λ x n. ap (λ (os : List TableOp). written os c) (idle_ops job form h l x (i x)))
    ∙ ap (λ (os : List TableOp). row_at (fed os (tables_of T0 h)) c) (idle_ops job form h l 0 (i 0)))
