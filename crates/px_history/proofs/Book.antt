-- What the lock book tells is what the history says, and each event keeps the book.
use Rattle.std.proofs.Common.{◌≡◌, ◌≢◌, ◌⊎◌, ℕ, ◌≤◌, Bool, true, false, not, ◌==◌, ◌&&◌, ◌||◌, List, [], ◌∷◌, ◌++◌, Option, Some, None, is_some, refl, sym, ap, ◌∙◌, subst, arith, inl, inr, append-nil, append_assoc}
use Rattle.std.proofs.lemmas.Bool.{and_parts, and_from, or_left, or_right, or_cases, both_ways, cases_Bool, cases_eq, cond-true, cond-false, eqb-true, eqb-false, eq-eqb, false_from_ne_true, not_from_false, not_from_true}
use Rattle.px_value.specs.declared.statement.TableOp.{TableOp}
use Rattle.px_locks.specs.declared.want.Want.{Want}
use Rattle.px_locks.specs.declared.want.Grant.{Grant}
use Rattle.px_locks.specs.declared.book.Asked.TheVariants.{Waits, Dies}
use Rattle.px_locks.specs.Locks.{goes_with, same_item, is_against_any, IsIn, IsFree as IsFreeOf, IsOldest, IsTold, IsJoined, granted, without}
use Rattle.px_history.specs.declared.event.Event.{Event}
use Rattle.px_history.specs.declared.event.Event.TheVariants.{Begin, Op, Die, End, Drop}
use Rattle.px_history.specs.Attempts.{session_of, ops_of, ops_after, call_of, call_after, is_active, begun, stamp_of_call, stamp_in, stamp_of}
use Rattle.px_history.specs.Locking.{LockForm, clashes_any, clashes, wants_of, held, is_in_conflict, IsFree}
use Rattle.px_history.specs.Legal.{MustDie}
use Rattle.px_history.specs.Booked.{IsWanted, IsBooked}
use Rattle.px_history.proofs.Apart.{ops_own, ops_other, call_own, call_other}

-- ---- wants that clash

against_is : (s : ℕ) (ws : List Want) (g : Grant) (b : Bool) → (g.session == s) ≡ b → is_against_any s ws g ≡ (not b && clashes_any g.want ws)
against_is s [] g true e = refl
against_is s [] g false e = refl
against_is s (w ∷ ws) g true e = (λ i. (not (e i) && same_item g.want.item w.item && not (goes_with g.want.mode w.mode)) || against_is s ws g true e i)
against_is s (w ∷ ws) g false e = (λ i. (not (e i) && same_item g.want.item w.item && not (goes_with g.want.mode w.mode)) || against_is s ws g false e i)

pub clash_in : (vs ws : List Want) → clashes vs ws ≡ true → (v : Want) × IsWanted v vs × (clashes_any v ws ≡ true)
clash_in [] ws h = absurd (both_ways _ refl h)
clash_in (v ∷ vs) ws h = elim (or_cases _ _ h) [
  | inl a ↦ (v, inl refl, a)
  | inr b ↦ let r = clash_in vs ws b in (r.0, inr r.1, r.2)
]

in_clash : (vs ws : List Want) (v : Want) → IsWanted v vs → clashes_any v ws ≡ true → clashes vs ws ≡ true
in_clash [] ws v i h = absurd i
in_clash (u ∷ vs) ws v i h = elim i [
  | inl q ↦ or_left _ _ (subst (λ (z : Want). clashes_any z ws ≡ true) (sym q) h)
  | inr r ↦ or_right _ _ (in_clash vs ws v r h)
]

-- a conflict of the history is a grant against the wants, and the other way round
pub conflict_in : (form : LockForm) (gs : List Grant) (h : List Event) → IsBooked form gs h → (s : ℕ) (o : TableOp) (x : ℕ) → is_in_conflict form h s o x ≡ true → (g : Grant) × IsIn g gs × (g.session ≡ x) × (is_against_any s (form.wants o) g ≡ true)
conflict_in form gs h b s o x k =
    let p = and_parts _ _ k in
    let r = clash_in (held form x h) (form.wants o) p.1 in
    let g : Grant = record { session = x; stamp = stamp_of x h; want = r.0 } in
    (g, b.booked x r.0 r.1, refl, against_is s (form.wants o) g (x == s) refl ∙ and_from _ _ p.0 r.2)

in_conflict : (form : LockForm) (gs : List Grant) (h : List Event) → IsBooked form gs h → (s : ℕ) (o : TableOp) (g : Grant) → IsIn g gs → is_against_any s (form.wants o) g ≡ true → is_in_conflict form h s o g.session ≡ true
in_conflict form gs h b s o g i a =
    let p = and_parts _ _ (sym (against_is s (form.wants o) g (g.session == s) refl) ∙ a) in
    and_from _ _ p.0 (in_clash (held form g.session h) (form.wants o) g.want (b.held_by g i) p.1)

-- ---- what asking tells

pub granted_free : (form : LockForm) (gs : List Grant) (h : List Event) → IsBooked form gs h → (s : ℕ) (o : TableOp) → IsFreeOf gs s (form.wants o) → IsFree form h s o
granted_free form gs h b s o a x = false_from_ne_true _ (λ k.
    let r = conflict_in form gs h b s o x k in
    both_ways _ (a r.0 r.1) r.3)

-- the holder that is named is in conflict, and has the least stamp of those that are
pub record IsNamed (form : LockForm) (h : List Event) (s : ℕ) (o : TableOp) (x : ℕ) : Type 0 where
  pub holds : is_in_conflict form h s o x ≡ true
  pub least : (y : ℕ) → is_in_conflict form h s o y ≡ true → stamp_of x h ≤ stamp_of y h

named : (form : LockForm) (gs : List Grant) (h : List Event) → IsBooked form gs h → (s : ℕ) (o : TableOp) (x : ℕ) (g : Grant) → IsOldest gs s (form.wants o) x g → IsNamed form h s o x
named form gs h b s o x g r = subst (IsNamed form h s o) r.of_holder (record {
  holds = in_conflict form gs h b s o g r.stands r.against;
  least = λ y k.
      let c = conflict_in form gs h b s o y k in
      let z = r.least c.0 c.1 c.3 in
      let u = b.stamped g r.stands in
      let v = b.stamped c.0 c.1 in
      let w : stamp_of (c.0).session h ≡ stamp_of y h = ap (λ (t : ℕ). stamp_of t h) c.2 in
      omega arith;
})

holder_stamp : (form : LockForm) (gs : List Grant) (h : List Event) → IsBooked form gs h → (s : ℕ) (ws : List Want) (x : ℕ) (g : Grant) → IsOldest gs s ws x g → g.stamp ≡ stamp_of x h
holder_stamp form gs h b s ws x g r = b.stamped g r.stands ∙ ap (λ (t : ℕ). stamp_of t h) r.of_holder

pub dies_must : (form : LockForm) (gs : List Grant) (h : List Event) → IsBooked form gs h → (s : ℕ) (o : TableOp) (x : ℕ) → is_active s h ≡ true → IsTold gs s (stamp_of s h) (form.wants o) (Dies x) → MustDie form h s o x
dies_must form gs h b s o x i r =
    let n = named form gs h b s o x r.0 r.1 in
    let u = holder_stamp form gs h b s (form.wants o) x r.0 r.1 in
    record { active = i; holds = n.holds; least = n.least; older = omega (arith, r.2) }

pub waits_named : (form : LockForm) (gs : List Grant) (h : List Event) → IsBooked form gs h → (s : ℕ) (o : TableOp) (x : ℕ) → IsTold gs s (stamp_of s h) (form.wants o) (Waits x) → IsNamed form h s o x × (stamp_of s h ≤ stamp_of x h)
waits_named form gs h b s o x r =
    let n = named form gs h b s o x r.0 r.1 in
    let u = holder_stamp form gs h b s (form.wants o) x r.0 r.1 in
    (n, omega (arith, r.2))

-- ---- stamps stay

begun_same : (s c : ℕ) (e : Event) (h : List Event) → begun s c h ≡ true → begun s c (e ∷ h) ≡ true
unfolding begun
begun_same s c e h b = or_right _ _ b

begun_now : (c : ℕ) (e : Event) (h : List Event) → call_after e (call_of (session_of e) h) ≡ Some c → (call_of (session_of e) h ≡ Some c → begun (session_of e) c h ≡ true) → begun (session_of e) c (e ∷ h) ≡ true
unfolding begun
begun_now c (Begin s d a) h q i = let z : d ≡ c = cc in or_left _ _ (and_from _ _ (eq-eqb s s refl) (eq-eqb d c z))
begun_now c (Op s o) h q i = i q
begun_now c (Die s o x) h q i = cc
begun_now c (End s d) h q i = cc
begun_now c (Drop s) h q i = cc

pub begun_active : (h : List Event) (s c : ℕ) → call_of s h ≡ Some c → begun s c h ≡ true
unfolding call_of
begun_active [] s c q = cc
begun_active (e ∷ h) s c q = elim (cases_eq (session_of e) s) [
  | inl r ↦ subst (λ (t : ℕ). call_of t (e ∷ h) ≡ Some c → begun t c (e ∷ h) ≡ true) r (λ k. begun_now c e h (sym (call_own (session_of e) e h refl) ∙ k) (begun_active h (session_of e) c)) q
  | inr n ↦ begun_same s c e h (begun_active h s c (sym (call_other s e h n) ∙ q))
]

stamp_of_begun : (s c : ℕ) (e : Event) (h : List Event) → begun s c h ≡ true → stamp_of_call s c (e ∷ h) ≡ stamp_of_call s c h
unfolding stamp_of_call
stamp_of_begun s c e h b = cond-true _ _ _ b

stamp_in_same : (s : ℕ) (e : Event) (h : List Event) (o : Option ℕ) → is_some o ≡ true → call_of s h ≡ o → call_of s (e ∷ h) ≡ o → stamp_of s (e ∷ h) ≡ stamp_of s h
stamp_in_same s e h None i p q = absurd (both_ways _ refl i)
stamp_in_same s e h (Some c) i p q = ap (λ (o : Option ℕ). stamp_in s o (e ∷ h)) q ∙ stamp_of_begun s c e h (begun_active h s c p) ∙ ap (λ (o : Option ℕ). stamp_in s o h) (sym p)

-- the stamp of a session stays as long as it is in its call
pub stamp_same : (s : ℕ) (e : Event) (h : List Event) → is_active s h ≡ true → call_of s (e ∷ h) ≡ call_of s h → stamp_of s (e ∷ h) ≡ stamp_of s h
stamp_same s e h i q = stamp_in_same s e h (call_of s h) i refl q

-- ---- each event keeps the book

pub book_start : (form : LockForm) → IsBooked form [] []
unfolding ops_of
book_start form = record { held_by = λ g i. absurd i; active = λ g i. absurd i; stamped = λ g i. absurd i; booked = λ s w i. absurd i }

held_other : (form : LockForm) (s : ℕ) (e : Event) (h : List Event) → session_of e ≢ s → held form s (e ∷ h) ≡ held form s h
held_other form s e h n = ap (wants_of form) (ops_other s e h n)

-- the grants of a session that an event leaves in its call, with what it wanted
record IsLeft (form : LockForm) (e : Event) (h : List Event) (s : ℕ) : Type 0 where
  held_same : held form s (e ∷ h) ≡ held form s h
  call_same : call_of s (e ∷ h) ≡ call_of s h

left_other : (form : LockForm) (e : Event) (h : List Event) (s : ℕ) → session_of e ≢ s → IsLeft form e h s
left_other form e h s n = record { held_same = held_other form s e h n; call_same = call_other s e h n }

-- a want that is held is that of an active session
wanted_active : (form : LockForm) (gs : List Grant) (h : List Event) → IsBooked form gs h → (s : ℕ) (w : Want) → IsWanted w (held form s h) → is_active s h ≡ true
wanted_active form gs h b s w i = b.active (record { session = s; stamp = stamp_of s h; want = w }) (b.booked s w i)

-- a session that an event leaves keeps its grants
kept_grant : (form : LockForm) (gs : List Grant) (e : Event) (h : List Event) → IsBooked form gs h → (s : ℕ) → IsLeft form e h s → (w : Want) → IsWanted w (held form s (e ∷ h)) → IsIn (record { session = s; stamp = stamp_of s (e ∷ h); want = w }) gs
kept_grant form gs e h b s l w i =
    let j : IsWanted w (held form s h) = subst (IsWanted w) l.held_same i in
    let t : stamp_of s (e ∷ h) ≡ stamp_of s h = stamp_same s e h (wanted_active form gs h b s w j) l.call_same in
    subst (λ (n : ℕ). IsIn (record { session = s; stamp = n; want = w }) gs) (sym t) (b.booked s w j)

pub book_begin : (form : LockForm) (gs : List Grant) (h : List Event) → IsBooked form gs h → (s c a : ℕ) → is_active s h ≡ false → ops_of s h ≡ [] → IsBooked form gs (Begin s c a ∷ h)
book_begin form gs h b s c a i z =
    let other : (g : Grant) → IsIn g gs → s ≢ g.session = λ g k q. both_ways _ i (ap (λ (t : ℕ). is_active t h) q ∙ b.active g k) in
    record {
      held_by = λ g k. subst (IsWanted g.want) (sym (held_other form g.session (Begin s c a) h (other g k))) (b.held_by g k);
      active = λ g k. ap is_some (call_other g.session (Begin s c a) h (other g k)) ∙ b.active g k;
      stamped = λ g k. b.stamped g k ∙ sym (stamp_same g.session (Begin s c a) h (b.active g k) (call_other g.session (Begin s c a) h (other g k)));
      booked = λ t w k. elim (cases_eq s t) [
        | inl q ↦ absurd (subst (IsWanted w) (ap (wants_of form) (ops_own t (Begin s c a) h q)) k)
        | inr n ↦ kept_grant form gs (Begin s c a) h b t (left_other form (Begin s c a) h t n) w k
      ];
    }

call_same : (s : ℕ) (o : TableOp) (h : List Event) (t : ℕ) → call_of t (Op s o ∷ h) ≡ call_of t h
call_same s o h t = elim (cases_eq s t) [ inl q ↦ call_own t (Op s o) h q | inr n ↦ call_other t (Op s o) h n ]

in_granted : (g : Grant) (s stamp : ℕ) (ws : List Want) → IsIn g (granted s stamp ws) → (g.session ≡ s) × (g.stamp ≡ stamp) × IsWanted g.want ws
in_granted g s stamp [] i = absurd i
in_granted g s stamp (w ∷ ws) i = elim i [
  | inl u ↦ (ap (λ (z : Grant). z.session) (sym u), ap (λ (z : Grant). z.stamp) (sym u), inl (ap (λ (z : Grant). z.want) u))
  | inr v ↦ let r = in_granted g s stamp ws v in (r.0, r.1, inr r.2)
]

granted_in : (s stamp : ℕ) (ws : List Want) (w : Want) → IsWanted w ws → IsIn (record { session = s; stamp = stamp; want = w }) (granted s stamp ws)
granted_in s stamp [] w i = absurd i
granted_in s stamp (v ∷ ws) w i = elim i [ inl u ↦ inl (λ j. record { session = s; stamp = stamp; want = u j }) | inr k ↦ inr (granted_in s stamp ws w k) ]

wanted_front : (w : Want) (vs ws : List Want) → IsWanted w vs → IsWanted w (vs ++ ws)
wanted_front w [] ws i = absurd i
wanted_front w (v ∷ vs) ws i = elim i [ inl u ↦ inl u | inr k ↦ inr (wanted_front w vs ws k) ]

wanted_back : (w : Want) (vs ws : List Want) → IsWanted w ws → IsWanted w (vs ++ ws)
wanted_back w [] ws i = i
wanted_back w (v ∷ vs) ws i = inr (wanted_back w vs ws i)

wanted_either : (w : Want) (vs ws : List Want) → IsWanted w (vs ++ ws) → IsWanted w vs ⊎ IsWanted w ws
wanted_either w [] ws i = inr i
wanted_either w (v ∷ vs) ws i = elim i [ inl u ↦ inl (inl u) | inr k ↦ elim (wanted_either w vs ws k) [ inl a ↦ inl (inr a) | inr b ↦ inr b ] ]

wants_of-push : (form : LockForm) (os : List TableOp) (o : TableOp) → wants_of form (os ++ o ∷ []) ≡ wants_of form os ++ form.wants o
wants_of-push form [] o = append-nil (form.wants o)
wants_of-push form (p ∷ os) o = ap (λ (vs : List Want). form.wants p ++ vs) (wants_of-push form os o) ∙ sym (append_assoc (form.wants p) (wants_of form os) (form.wants o))

held_op : (form : LockForm) (s : ℕ) (o : TableOp) (h : List Event) → held form s (Op s o ∷ h) ≡ held form s h ++ form.wants o
held_op form s o h = ap (wants_of form) (ops_own s (Op s o) h refl) ∙ wants_of-push form (ops_of s h) o

-- what a session held it holds after an operation, of its own or of another
held_more : (form : LockForm) (s : ℕ) (o : TableOp) (h : List Event) (t : ℕ) (w : Want) → IsWanted w (held form t h) → IsWanted w (held form t (Op s o ∷ h))
held_more form s o h t w i = elim (cases_eq s t) [
  | inl q ↦ subst (λ (u : ℕ). IsWanted w (held form u h) → IsWanted w (held form u (Op s o ∷ h))) q (λ k. subst (IsWanted w) (sym (held_op form s o h)) (wanted_front w (held form s h) (form.wants o) k)) i
  | inr n ↦ subst (IsWanted w) (sym (held_other form t (Op s o) h n)) i
]

-- an operation whose wants were granted
pub book_op : (form : LockForm) (gs after : List Grant) (h : List Event) → IsBooked form gs h → (s : ℕ) (o : TableOp) → is_active s h ≡ true → IsJoined gs (granted s (stamp_of s h) (form.wants o)) after → IsBooked form after (Op s o ∷ h)
book_op form gs after h b s o i j =
    let stay : (t : ℕ) → is_active t h ≡ true → stamp_of t (Op s o ∷ h) ≡ stamp_of t h = λ t k. stamp_same t (Op s o) h k (call_same s o h t) in
    record {
      held_by = λ g k. elim (j.either g k) [
        | inl u ↦ held_more form s o h g.session g.want (b.held_by g u)
        | inr v ↦
            let z = in_granted g s (stamp_of s h) (form.wants o) v in
            subst (λ (t : ℕ). IsWanted g.want (held form t (Op s o ∷ h))) (sym z.0) (subst (IsWanted g.want) (sym (held_op form s o h)) (wanted_back g.want (held form s h) (form.wants o) z.2))
      ];
      active = λ g k. ap is_some (call_same s o h g.session) ∙ elim (j.either g k) [
        | inl u ↦ b.active g u
        | inr v ↦ ap (λ (t : ℕ). is_active t h) (in_granted g s (stamp_of s h) (form.wants o) v).0 ∙ i
      ];
      stamped = λ g k. elim (j.either g k) [
        | inl u ↦ b.stamped g u ∙ sym (stay g.session (b.active g u))
        | inr v ↦
            let z = in_granted g s (stamp_of s h) (form.wants o) v in
            z.1 ∙ ap (λ (t : ℕ). stamp_of t h) (sym z.0) ∙ sym (stay g.session (ap (λ (t : ℕ). is_active t h) z.0 ∙ i))
      ];
      booked = λ t w k. elim (cases_eq s t) [
        | inl q ↦ subst (λ (u : ℕ). IsWanted w (held form u (Op s o ∷ h)) → IsIn (record { session = u; stamp = stamp_of u (Op s o ∷ h); want = w }) after) q (λ m.
            elim (wanted_either w (held form s h) (form.wants o) (subst (IsWanted w) (held_op form s o h) m)) [
              | inl a ↦ subst (λ (n : ℕ). IsIn (record { session = s; stamp = n; want = w }) after) (sym (stay s i)) (j.kept _ (b.booked s w a))
              | inr c ↦ subst (λ (n : ℕ). IsIn (record { session = s; stamp = n; want = w }) after) (sym (stay s i)) (j.added _ (granted_in s (stamp_of s h) (form.wants o) w c))
            ]) k
        | inr n ↦ j.kept _ (kept_grant form gs (Op s o) h b t (left_other form (Op s o) h t n) w k)
      ];
    }

kept_first : (g x : Grant) (s : ℕ) (gs : List Grant) → (IsIn g (without s gs) → IsIn g gs × (s ≢ g.session)) → (x.session == s) ≡ false → IsIn g (x ∷ without s gs) → IsIn g (x ∷ gs) × (s ≢ g.session)
kept_first g x s gs rest q (inl u) = (inl u, λ r. eqb-false x.session s q (ap (λ (z : Grant). z.session) u ∙ sym r))
kept_first g x s gs rest q (inr v) = let z = rest v in (inr z.0, z.1)

in_without : (g : Grant) (s : ℕ) (gs : List Grant) → IsIn g (without s gs) → IsIn g gs × (s ≢ g.session)
in_without g s [] i = absurd i
in_without g s (x ∷ gs) i = elim (cases_Bool (x.session == s)) [
  | inl q ↦ let z = in_without g s gs (subst (IsIn g) (cond-false _ _ _ (not_from_true _ q)) i) in (inr z.0, z.1)
  | inr q ↦ kept_first g x s gs (in_without g s gs) q (subst (IsIn g) (cond-true _ _ _ (not_from_false _ q)) i)
]

without_in : (g : Grant) (s : ℕ) (gs : List Grant) → IsIn g gs → s ≢ g.session → IsIn g (without s gs)
without_in g s [] i n = absurd i
without_in g s (x ∷ gs) i n = elim (cases_Bool (x.session == s)) [
  | inl q ↦ subst (IsIn g) (sym (cond-false _ _ _ (not_from_true _ q))) (elim i [
    | inl u ↦ absurd (n (sym (eqb-true x.session s q) ∙ ap (λ (z : Grant). z.session) u))
    | inr v ↦ without_in g s gs v n
  ])
  | inr q ↦ subst (IsIn g) (sym (cond-true _ _ _ (not_from_false _ q))) (elim i [ inl u ↦ inl u | inr v ↦ inr (without_in g s gs v n) ])
]

-- an event that ends the attempt, after the release of its locks
pub book_release : (form : LockForm) (gs : List Grant) (h : List Event) → IsBooked form gs h → (e : Event) → ops_after e (ops_of (session_of e) h) ≡ [] → IsBooked form (without (session_of e) gs) (e ∷ h)
book_release form gs h b e z = record {
  held_by = λ g k. let w = in_without g (session_of e) gs k in subst (IsWanted g.want) (sym (held_other form g.session e h w.1)) (b.held_by g w.0);
  active = λ g k. let w = in_without g (session_of e) gs k in ap is_some (call_other g.session e h w.1) ∙ b.active g w.0;
  stamped = λ g k. let w = in_without g (session_of e) gs k in b.stamped g w.0 ∙ sym (stamp_same g.session e h (b.active g w.0) (call_other g.session e h w.1));
  booked = λ t w k. elim (cases_eq (session_of e) t) [
    | inl q ↦ absurd (subst (IsWanted w) (ap (wants_of form) (ops_own t e h q ∙ subst (λ (u : ℕ). ops_after e (ops_of u h) ≡ []) q z)) k)
    | inr n ↦ without_in _ (session_of e) gs (kept_grant form gs e h b t (left_other form e h t n) w k) n
  ];
}
