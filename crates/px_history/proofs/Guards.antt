-- Both forms of locks guard each place that an operation touches from the writes of others.
use Rattle.std.proofs.Common.{◌≡◌, Bool, true, false, ◌||◌, List, [], ◌∷◌, ◌++◌, refl, sym, ap, ◌∙◌, inl, inr}
use Rattle.std.proofs.lemmas.Bool.{or_parts, or_from, or_cases, or_left, or_right, and_from, eqb-true, eq-eqb, both_ways, false_from_ne_true, cases_Bool}
use Rattle.std.proofs.lemmas.Bool.Decides.{Decides-int_eq}
use Rattle.px_value.specs.declared.statement.TableOp.{TableOp}
use Rattle.px_rows.specs.Tables.{Place}
use Rattle.px_rows.specs.Tables.{Tables}
use Rattle.px_rows.specs.Means.{table_of, by_key, key_of, place_of, after, answer_to}
use Rattle.px_history.specs.Places.{writes, puts, touches, written, touched}
use Rattle.px_history.proofs.Rows.{same_place-eq, writes_by_key, answer_same, after_same, after_elsewhere, same_tables, puts_touches, length_after}
use Rattle.px_locks.specs.declared.want.Want.{Want}
use Rattle.px_history.specs.Locking.{LockForm, clashes_any, table_wants, key_wants, table_locks, key_locks, clashes, wants_of}

-- where two operations don't clash, neither writes what the other touches
pub record Guards (form : LockForm) : Type 0 where
  pub guard : (p o : TableOp) → clashes (form.wants p) (form.wants o) ≡ false → (c : Place) → (puts p c ≡ true → touches o c ≡ false) × (puts o c ≡ true → touches p c ≡ false)

-- ---- where two operations meet

-- at one place both name the same table, and where both go by key the same key
record Meet (p o : TableOp) : Type 0 where
  tables : table_of p.statement ≡ table_of o.statement
  keys : by_key o.statement ≡ true → key_of p.statement p.params ≡ key_of o.statement o.params

place_put : (p : TableOp) (c : Place) (b : Bool) → writes p.statement ≡ b → puts p c ≡ true → (b ≡ true) × (c ≡ place_of p)
unfolding puts
place_put p c true e h = (refl, same_place-eq c (place_of p) (rw e at h))
place_put p c false e h = absurd (both_ways _ refl (rw e at h))

meet_at : (p o : TableOp) (c : Place) (b : Bool) → by_key o.statement ≡ b → c ≡ place_of p → touches o c ≡ true → Meet p o
unfolding touches
meet_at p o c true e q h =
    let s = same_place-eq c (place_of o) (rw e at h) in
    let z : place_of p ≡ place_of o = sym q ∙ s in
    record { tables = ap (λ (x : Place). x.table) z; keys = λ _. ap (λ (x : Place). x.key) z }
meet_at p o c false e q h =
    let t : c.table ≡ table_of o.statement = eqb-true c.table (table_of o.statement) (rw e at h) in
    record { tables = sym (ap (λ (x : Place). x.table) q) ∙ t; keys = λ k. absurd (both_ways _ e k) }

meet : (p o : TableOp) (c : Place) → puts p c ≡ true → touches o c ≡ true → (writes p.statement ≡ true) × Meet p o
meet p o c h k =
    let w = place_put p c (writes p.statement) refl h in
    (w.0, meet_at p o c (by_key o.statement) refl w.1 k)

-- ---- locks on tables

table_clash : (p o : TableOp) → writes p.statement ≡ true → table_of p.statement ≡ table_of o.statement → clashes (table_wants p) (table_wants o) ≡ true
table_clash p o w t = rw w (or_left _ _ (or_left _ _ (and_from _ _ (and_from _ _ (eq-eqb _ _ t) refl) refl)))

table_clash_back : (p o : TableOp) → writes p.statement ≡ true → table_of p.statement ≡ table_of o.statement → (b : Bool) → writes o.statement ≡ b → clashes (table_wants o) (table_wants p) ≡ true
table_clash_back p o w t true e = rw (w, e) (or_left _ _ (or_left _ _ (and_from _ _ (and_from _ _ (eq-eqb _ _ (sym t)) refl) refl)))
table_clash_back p o w t false e = rw (w, e) (or_left _ _ (or_left _ _ (and_from _ _ (and_from _ _ (eq-eqb _ _ (sym t)) refl) refl)))

pub table_locks_guard : Guards table_locks
table_locks_guard = record {
  guard = λ p o f c. (
    λ h. false_from_ne_true _ (λ k. let m = meet p o c h k in both_ways _ f (table_clash p o m.0 m.1.tables)),
    λ h. false_from_ne_true _ (λ k. let m = meet o p c h k in both_ways _ f (table_clash_back o p m.0 m.1.tables (writes p.statement) refl)),
  );
}

-- ---- locks on keys

key_clash : (p o : TableOp) → writes p.statement ≡ true → Meet p o → (w b : Bool) → writes o.statement ≡ w → by_key o.statement ≡ b → clashes (key_wants p) (key_wants o) ≡ true
key_clash p o x m true true e f =
    let t = eq-eqb _ _ m.tables in
    let k = (Decides-int_eq (key_of p.statement p.params) (key_of o.statement o.params)).1 (m.keys f) in
    rw (x, e) (or_right _ _ (or_left _ _ (or_right _ _ (or_left _ _ (and_from _ _ (and_from _ _ t k) refl)))))
key_clash p o x m true false e f = absurd (both_ways _ f (writes_by_key o.statement e))
key_clash p o x m false true e f =
    let t = eq-eqb _ _ m.tables in
    let k = (Decides-int_eq (key_of p.statement p.params) (key_of o.statement o.params)).1 (m.keys f) in
    rw (x, e, f) (or_right _ _ (or_left _ _ (or_right _ _ (or_left _ _ (and_from _ _ (and_from _ _ t k) refl)))))
key_clash p o x m false false e f =
    let t = eq-eqb _ _ m.tables in
    rw (x, e, f) (or_left _ _ (or_left _ _ (and_from _ _ (and_from _ _ t refl) refl)))

key_clash_back : (p o : TableOp) → writes p.statement ≡ true → Meet p o → (w b : Bool) → writes o.statement ≡ w → by_key o.statement ≡ b → clashes (key_wants o) (key_wants p) ≡ true
key_clash_back p o x m true true e f =
    let t = eq-eqb _ _ (sym m.tables) in
    let k = (Decides-int_eq (key_of o.statement o.params) (key_of p.statement p.params)).1 (sym (m.keys f)) in
    rw (x, e) (or_right _ _ (or_left _ _ (or_right _ _ (or_left _ _ (and_from _ _ (and_from _ _ t k) refl)))))
key_clash_back p o x m true false e f = absurd (both_ways _ f (writes_by_key o.statement e))
key_clash_back p o x m false true e f =
    let t = eq-eqb _ _ (sym m.tables) in
    let k = (Decides-int_eq (key_of o.statement o.params) (key_of p.statement p.params)).1 (sym (m.keys f)) in
    rw (x, e, f) (or_right _ _ (or_left _ _ (or_right _ _ (or_left _ _ (and_from _ _ (and_from _ _ t k) refl)))))
key_clash_back p o x m false false e f =
    let t = eq-eqb _ _ (sym m.tables) in
    rw (x, e, f) (or_left _ _ (or_left _ _ (and_from _ _ (and_from _ _ t refl) refl)))

pub key_locks_guard : Guards key_locks
key_locks_guard = record {
  guard = λ p o f c. (
    λ h. false_from_ne_true _ (λ k. let m = meet p o c h k in both_ways _ f (key_clash p o m.0 m.1 (writes o.statement) (by_key o.statement) refl refl)),
    λ h. false_from_ne_true _ (λ k. let m = meet o p c h k in both_ways _ f (key_clash_back o p m.0 m.1 (writes p.statement) (by_key p.statement) refl refl)),
  );
}

-- ---- lists of operations

or_assoc : (a b c : Bool) → ((a || b) || c) ≡ (a || (b || c))
or_assoc true b c = refl
or_assoc false b c = refl

clashes-append : (vs us ws : List Want) → clashes (vs ++ us) ws ≡ (clashes vs ws || clashes us ws)
clashes-append [] us ws = refl
clashes-append (v ∷ vs) us ws = ap (λ (b : Bool). clashes_any v ws || b) (clashes-append vs us ws) ∙ sym (or_assoc (clashes_any v ws) (clashes vs ws) (clashes us ws))

-- where an operation clashes with none of a list
pub guard_all : (form : LockForm) → Guards form → (ps : List TableOp) (o : TableOp) → clashes (wants_of form ps) (form.wants o) ≡ false → (c : Place) → (written ps c ≡ true → touches o c ≡ false) × (puts o c ≡ true → touched ps c ≡ false)
guard_all form g [] o f c = (λ h. absurd (both_ways _ refl h), λ h. refl)
guard_all form g (p ∷ ps) o f c =
    let z = or_parts _ _ (sym (clashes-append (form.wants p) (wants_of form ps) (form.wants o)) ∙ f) in
    let here = g.guard p o z.0 c in
    let rest = guard_all form g ps o z.1 c in
    (λ h. elim (or_cases _ _ h) [ inl a ↦ here.0 a | inr b ↦ rest.0 b ], λ h. or_from _ _ (here.1 h) (rest.1 h))

-- ---- operations without a conflict

-- neither answer depends on the other operation
pub answers_apart : (form : LockForm) → Guards form → (p o : TableOp) → clashes (form.wants p) (form.wants o) ≡ false → (T : Tables) → answer_to o (after p T) ≡ answer_to o T
answers_apart form g p o f T = answer_same o (after p T) T (λ c t. after_elsewhere p T c (false_from_ne_true _ (λ k. both_ways _ ((g.guard p o f c).0 k) t)))

-- and they commute
pub commute : (form : LockForm) → Guards form → (p o : TableOp) → clashes (form.wants p) (form.wants o) ≡ false → (T : Tables) → after o (after p T) ≡ after p (after o T)
commute form g p o f T = same_tables _ _ (length_after o (after p T) ∙ length_after p T ∙ sym (length_after p (after o T) ∙ length_after o T)) (λ c. elim (cases_Bool (puts p c)) [
  | inl k ↦
      let n : puts o c ≡ false = false_from_ne_true _ (λ w. both_ways _ ((g.guard p o f c).0 k) (puts_touches o c w)) in
      after_elsewhere o (after p T) c n ∙ after_same p T (after o T) c (sym (length_after o T)) (sym (after_elsewhere o T c n))
  | inr n ↦ after_same o (after p T) T c (length_after p T) (after_elsewhere p T c n) ∙ sym (after_elsewhere p (after o T) c n)
])
