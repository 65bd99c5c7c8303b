-- Calls of typed methods keep the heap typed, and so do entries and whole serial runs.
use Rattle.std.proofs.Common.{◌≡◌, ℕ, zero, suc, Bool, true, List, [], ◌∷◌, ◌++◌, map, Option, Some, None, unwrap_or, slice_get, slice_set, replicate, refl, sym, ap, ◌∙◌, subst}
use Rattle.std.proofs.lemmas.Option.{none-some}
use Rattle.px_value.specs.declared.value.Value.{Value}
use Rattle.px_value.specs.declared.value.Value.TheVariants.{Ref}
use Rattle.px_value.specs.declared.object.Object.{Object}
use Rattle.px_value.specs.declared.ty.Ty.{Ty as Outer}
use Rattle.px_value.specs.declared.ty.Ty.TheVariants as outer
use Rattle.px_value.specs.declared.header.Kind.TheVariants as kind
use Rattle.px_value.specs.declared.thrown.Thrown.TheVariants.{StackOverflowError}
use Rattle.px_value.specs.Outcome.{Outcome, Gives, Throws, Asks, Flow, Goes, Returns}
use Rattle.px_tree.specs.declared.Method.{Method}
use Rattle.px_facts.specs.declared.types.Ty.{Ty}
use Rattle.px_facts.specs.declared.types.Ty.TheVariants as ty
use Rattle.px_facts.specs.declared.checked.MethodFact.{MethodFact}
use Rattle.px_facts.specs.declared.checked.Entry.{Entry}
use Rattle.px_facts.specs.declared.checked.Facts.{Facts}
use Rattle.px_mean.specs.Run.{Shared, Frame}
use Rattle.px_mean.specs.Facts.{by_number, fields_of}
use Rattle.px_mean.specs.Operations.{Ask}
use Rattle.px_mean.specs.Expressions.{Calls}
use Rattle.px_mean.specs.Statements.{done_by}
use Rattle.px_mean.specs.Calls.{Source, first_slots, leaves_frame, enters, calls_in}
use Rattle.px_mean.specs.Entry.{all_frames, exec, reply_of, ended, called_entry, call_of, first_heap}
use Rattle.px_mean.specs.Serial.{Call, Stand, with_heap, call_by, one_call, serves, first_stand}
use Rattle.px_mean.specs.Typed as types
use Rattle.px_mean.specs.Typed.{kind_at, HasType, HaveTypes, HasCells, IsTypedHeap}
use Rattle.px_mean.specs.Typing.{inner_type, given_type, IsTypedMethod, IsTypedEntry, IsTyped}
use Rattle.px_mean.specs.TypedRuns.{AnswersTyped, IsSessionHeap, HasReplyType, IsTypedAfter, IsTypedCall, AreTypedCalls, IsTypedStand}
use Rattle.px_mean.proofs.TypedHeaps.{Grows, stays, keep_types, defaults_typed, slots_filled}
use Rattle.px_mean.proofs.TypedRuns.{Ended, throws}
use Rattle.px_mean.proofs.TypedEffects.{KeepsThere, EndedThere, shared_kept}
use Rattle.px_mean.proofs.TypedHere.{frame_kept}
use Rattle.px_mean.proofs.TypedExpressions.{P, GivesBack, CallsKept}
use Rattle.px_mean.proofs.TypedStatements.{Flows, done_typed}

module _ (Q W : Type 0) (I : W → Type 0) (ask : Ask Q W) (S : Source) (answers : AnswersTyped S.facts ask I) (typed : IsTyped S) where
  abbrev F : Facts
  F = S.facts

  module _ (calls : Calls Q W) (kept : CallsKept Q W F I calls) where
    left : (slots : List Ty) (result : Ty) (c : Bool) (heap : List Object) (o : Outcome Q (Frame W) (Flow Value)) → (c ≡ true → result ≡ ty.Void) → Ended Q (frame_kept F slots W I) (Flow Value) (Flows Q W F I slots ask answers calls kept result c) heap o → EndedThere Q W F I (Option Value) (GivesBack result) heap (leaves_frame o)
    left slots result c heap (Gives Goes s) e h = (h.0, h.1.1, e h.2)
    left slots result c heap (Gives (Returns v) s) e h = (h.0, h.1.1, h.2)
    left slots result c heap (Throws t s) e h = tt
    left slots result c heap (Asks q z) e h = tt

    entered : (m : Method) (fact : MethodFact) (heap : List Object) (values : List Value) → IsTypedMethod F m fact → HaveTypes heap (ty.Object fact.class ∷ fact.params) values → KeepsThere Q W F I heap (Option Value) (enters (P Q W F I fact.slots ask answers calls kept) (Some m) (Some fact) values) (GivesBack fact.result)
    entered m fact heap values t h = record {
      at = λ s g k.
          let first : Frame W = record { locals = first_slots fact.slots values; shared = s } in
          let ts : List Ty = ty.Object fact.class ∷ fact.params in
          let filled : HaveTypes s.heap (ts ++ t.locals) (first_slots (ts ++ t.locals) values) = slots_filled s.heap ts t.locals values (keep_types heap s.heap g ts values h) in
          let locals : HaveTypes s.heap fact.slots (first_slots fact.slots values) = subst (λ (x : List Ty). HaveTypes s.heap x (first_slots x values)) (sym t.slots) filled in
          let done = (done_typed Q W F I fact.slots ask answers calls kept fact.result t.completes m.body t.body s.heap).at first (stays s.heap) (locals, k) in
          left fact.slots fact.result t.completes s.heap (done_by (P Q W F I fact.slots ask answers calls kept) fact.result m.body first) t.ends done;
    }

    entered_by : (m : Option Method) (f : Option MethodFact) (method : Method) (fact : MethodFact) (heap : List Object) (values : List Value) → m ≡ Some method → f ≡ Some fact → IsTypedMethod F method fact → HaveTypes heap (ty.Object fact.class ∷ fact.params) values → KeepsThere Q W F I heap (Option Value) (enters (P Q W F I fact.slots ask answers calls kept) m f values) (GivesBack fact.result)
    entered_by m f method fact heap values d e t h =
        subst (λ (x : Option Method). KeepsThere Q W F I heap (Option Value) (enters (P Q W F I fact.slots ask answers calls kept) x f values) (GivesBack fact.result)) (sym d)
        (subst (λ (y : Option MethodFact). KeepsThere Q W F I heap (Option Value) (enters (P Q W F I fact.slots ask answers calls kept) (Some method) y values) (GivesBack fact.result)) (sym e) (entered method fact heap values t h))

  pub calls_kept : (n : ℕ) → CallsKept Q W F I (calls_in ask S n)
  unfolding calls_in
  calls_kept zero method fact e heap values h = throws Q (shared_kept F W I) (Option Value) (GivesBack fact.result) heap StackOverflowError
  calls_kept (suc n) method fact e heap values h =
      let m = typed.methods method fact e in
      entered_by (calls_in ask S n) (calls_kept n) (by_number S.methods method) (by_number S.facts.methods method) m.0 fact heap values m.1 e m.2 h

  pub exec_kept : (heap : List Object) (world : W) (entry : Entry) (args : List Value) → IsTypedEntry F entry → IsSessionHeap F heap → I world → HaveTypes heap (map inner_type entry.params) args → EndedThere Q W F I (Option Value) (GivesBack (given_type entry.gives)) heap (exec ask S heap world entry.method args)
  exec_kept heap world entry args t h i a =
      let this : HasType heap (ty.Object t.fact.class) (Ref 0) = types.HasType.object t.fact.class 0 (h.main ∙ ap (λ (n : ℕ). Some (kind.Object n)) (sym t.class)) in
      let values : HaveTypes heap t.fact.params args = subst (λ (ts : List Ty). HaveTypes heap ts args) (sym t.params) a in
      let s : Shared W = record { heap = heap; world = world; prints = []; turns = 0; operations = 0 } in
      let k = (calls_kept all_frames entry.method t.fact t.fact_is heap (Ref 0 ∷ args) (this, values)).at s (stays heap) (h.typed, i) in
      subst (λ (x : Ty). EndedThere Q W F I (Option Value) (GivesBack x) heap (exec ask S heap world entry.method args)) t.result k

-- ---- entries

module _ (W : Type 0) (I : W → Type 0) (ask : Ask ⊥ W) (S : Source) (answers : AnswersTyped S.facts ask I) (typed : IsTyped S) where
  abbrev IsVoid : Ty → Type 0
  IsVoid ty.Void = Unit {0}
  IsVoid _ = ⊥

  void_alone : (gives : Option Outer) → given_type gives ≡ ty.Void → gives ≡ None
  void_alone None e = refl
  void_alone (Some outer.Int) e = absurd (subst IsVoid (sym e) tt)
  void_alone (Some outer.Long) e = absurd (subst IsVoid (sym e) tt)
  void_alone (Some outer.Bool) e = absurd (subst IsVoid (sym e) tt)
  void_alone (Some outer.Text) e = absurd (subst IsVoid (sym e) tt)
  void_alone (Some outer.Ref) e = absurd (subst IsVoid (sym e) tt)

  replied : (heap : List Object) (entry : Entry) (v : Option Value) → GivesBack (given_type entry.gives) heap v → HasReplyType heap entry (reply_of v)
  replied heap entry None h = void_alone entry.gives h
  replied heap entry (Some v) h = h

  ended_kept : (heap : List Object) (world : W) (entry : Entry) (o : Outcome ⊥ (Shared W) (Option Value)) → IsSessionHeap S.facts heap → I world → EndedThere ⊥ W S.facts I (Option Value) (GivesBack (given_type entry.gives)) heap o → IsTypedAfter S.facts I entry (ended heap world o)
  ended_kept heap world entry (Gives v s) h i k = record { heap = record { typed = k.1.0; main = k.0.kinds 0 (kind.Object S.facts.main.class) h.main }; world = k.1.1; reply = replied s.heap entry v k.2 }
  ended_kept heap world entry (Throws t s) h i k = record { heap = h; world = i; reply = tt }
  ended_kept heap world entry (Asks q z) h i k = absurd q

  called_kept : (heap : List Object) (world : W) (found : Option Entry) (entry : Entry) (args : List Value) → found ≡ Some entry → IsTypedEntry S.facts entry → IsSessionHeap S.facts heap → I world → HaveTypes heap (map inner_type entry.params) args → IsTypedAfter S.facts I entry (called_entry ask S heap world found args)
  called_kept heap world found entry args e t h i a =
      subst (λ (x : Option Entry). IsTypedAfter S.facts I entry (called_entry ask S heap world x args)) (sym e) (ended_kept heap world entry (exec ask S heap world entry.method args) h i (exec_kept ⊥ W I ask S answers typed heap world entry args t h i a))

  pub call_kept : (heap : List Object) (world : W) (place : ℕ) (entry : Entry) (args : List Value) → slice_get S.facts.main.entries place ≡ Some entry → IsSessionHeap S.facts heap → I world → HaveTypes heap (map inner_type entry.params) args → IsTypedAfter S.facts I entry (call_of ask S heap world place args)
  unfolding call_of
  call_kept heap world place entry args e h i a = called_kept heap world (slice_get S.facts.main.entries place) entry args e (typed.entries place entry e) h i a

  -- ---- serial runs

  from_nothing : (heap : List Object) → Grows [] heap
  from_nothing heap = record { kinds = λ place k e. absurd (none-some k e) }

  -- an entry that isn't there leaves all as it was
  after_call : (heap : List Object) (world : W) (place : ℕ) (args : List Value) (found : Option Entry) → slice_get S.facts.main.entries place ≡ found → IsSessionHeap S.facts heap → I world → ((entry : Entry) → slice_get S.facts.main.entries place ≡ Some entry → HaveTypes [] (map inner_type entry.params) args) → IsSessionHeap S.facts (call_of ask S heap world place args).heap × I (call_of ask S heap world place args).world
  unfolding call_of
  after_call heap world place args None e h i a = subst (λ (x : Option Entry). IsSessionHeap S.facts (called_entry ask S heap world x args).heap × I (called_entry ask S heap world x args).world) (sym e) (h, i)
  after_call heap world place args (Some entry) e h i a =
      let k = call_kept heap world place entry args e h i (keep_types [] heap (from_nothing heap) (map inner_type entry.params) args (a entry e)) in
      (k.heap, k.world)

  heap_set : (heaps : List (List Object)) (at : ℕ) (new : List Object) → IsSessionHeap S.facts new → ((place : ℕ) (heap : List Object) → slice_get heaps place ≡ Some heap → IsSessionHeap S.facts heap) → (place : ℕ) (heap : List Object) → slice_get (slice_set heaps at new) place ≡ Some heap → IsSessionHeap S.facts heap
  heap_set [] at new n h place heap e = h place heap e
  heap_set (x ∷ heaps) zero new n h zero heap e = subst (λ (y : List Object). IsSessionHeap S.facts y) (ap (λ (o : Option (List Object)). unwrap_or o new) e) n
  heap_set (x ∷ heaps) zero new n h (suc place) heap e = h (suc place) heap e
  heap_set (x ∷ heaps) (suc at) new n h zero heap e = h zero heap e
  heap_set (x ∷ heaps) (suc at) new n h (suc place) heap e = heap_set heaps at new n (λ p. h (suc p)) place heap e

  heaps_with : (heaps : List (List Object)) (session : ℕ) (new : List Object) → IsSessionHeap S.facts new → ((place : ℕ) (heap : List Object) → slice_get heaps place ≡ Some heap → IsSessionHeap S.facts heap) → (place : ℕ) (heap : List Object) → slice_get (with_heap heaps session new) place ≡ Some heap → IsSessionHeap S.facts heap
  heaps_with heaps zero new n h = h
  heaps_with heaps (suc at) new n h = heap_set heaps at new n h

  heap_by : (heaps : List (List Object)) (session : ℕ) (heap : List Object) → ((place : ℕ) (heap : List Object) → slice_get heaps place ≡ Some heap → IsSessionHeap S.facts heap) → by_number heaps session ≡ Some heap → IsSessionHeap S.facts heap
  heap_by heaps zero heap h e = absurd (none-some heap e)
  heap_by heaps (suc place) heap h e = h place heap e

  one_kept : (c : Call) (found : Option (List Object)) (stand : Stand W) → by_number stand.heaps c.session ≡ found → IsTypedCall S.facts c → IsTypedStand S.facts I stand → IsTypedStand S.facts I (call_by ask S c found stand).1
  one_kept c None stand e a h = h
  one_kept c (Some heap) stand e a h =
      let k = after_call heap stand.world c.entry c.args (slice_get S.facts.main.entries c.entry) refl (heap_by stand.heaps c.session heap h.heaps e) h.world a in
      record { heaps = heaps_with stand.heaps c.session (call_of ask S heap stand.world c.entry c.args).heap k.0 h.heaps; world = k.1 }

  pub serves_kept : (calls : List Call) (stand : Stand W) → AreTypedCalls S.facts calls → IsTypedStand S.facts I stand → IsTypedStand S.facts I (serves ask S calls stand).1
  unfolding serves
  serves_kept [] stand a h = h
  serves_kept (c ∷ calls) stand a h = serves_kept calls (one_call ask S c stand).1 a.1 (one_kept c (by_number stand.heaps c.session) stand refl a.0 h)

-- ---- the first heaps

pub first_typed : (F : Facts) → IsSessionHeap F (first_heap F)
first_typed F = record { typed = first_cells; main = refl }
  where
    first_cells : IsTypedHeap F (first_heap F)
    first_cells zero o e = subst (λ (x : Object). HasCells F (first_heap F) x.header.kind x.cells) (ap (λ (y : Option Object). unwrap_or y o) e) (defaults_typed (first_heap F) (fields_of F F.main.class))
    first_cells (suc place) o e = absurd (none-some o e)

pub first_stand_typed : (W : Type 0) (I : W → Type 0) (S : Source) (sessions : ℕ) (world : W) → I world → IsTypedStand S.facts I (first_stand S sessions world)
first_stand_typed W I S sessions world i = record { heaps = all_first sessions; world = i }
  where
    all_first : (n : ℕ) (place : ℕ) (heap : List Object) → slice_get (replicate n (first_heap S.facts)) place ≡ Some heap → IsSessionHeap S.facts heap
    all_first zero place heap e = absurd (none-some heap e)
    all_first (suc n) zero heap e = subst (λ (x : List Object). IsSessionHeap S.facts x) (ap (λ (y : Option (List Object)). unwrap_or y heap) e) (first_typed S.facts)
    all_first (suc n) (suc place) heap e = all_first n place heap e
