-- Runs in a frame whose locals are typed.
use Rattle.std.proofs.Common.{◌≡◌, ℕ, zero, suc, ◌+◌, List, [], ◌∷◌, ◌++◌, append-nil, append_assoc, drop, Some, slice_get, slice_index_or, Ok, Err, refl, sym, ap, ◌∙◌, subst, arith}
use Rattle.px_value.specs.declared.value.Value.{Value}
use Rattle.px_value.specs.declared.object.Object.{Object}
use Rattle.px_value.specs.Operators.{Applied}
use Rattle.px_value.specs.Outcome.{Outcome, Gives, Throws, Asks, ◌>>=◌, pure, beside, on_shared}
use Rattle.px_facts.specs.declared.types.Ty.{Ty}
use Rattle.px_facts.specs.declared.types.Ty.TheVariants as ty
use Rattle.px_facts.specs.declared.checked.Facts.{Facts}
use Rattle.px_mean.specs.Run.{Shared, Frame, Here, There, gather, came_to}
use Rattle.px_mean.specs.Expressions.{Meant, no_place, widened, fit, slot_value, assign_slot, fitted}
use Rattle.px_mean.specs.Typed.{HasType, HaveTypes, IsTypedHeap}
use Rattle.px_mean.specs.Typing.{Fits}
use Rattle.px_mean.proofs.TypedHeaps.{Grows, stays, keeps_type, keep_types, typed_at, types_written}
use Rattle.px_mean.proofs.TypedRuns.{Kept, Ended, Keeps, gives, throws, and_then}
use Rattle.px_mean.proofs.TypedEffects.{U, OfType, Anything, KeepsThere, EndedThere}
use Rattle.px_mean.proofs.TypedOperators.{IsOf, fits_type, as_it_is, IsNarrow, fits_as_it_is}

abbrev pub frame_kept : Facts → List Ty → (W : Type 0) → (W → Type 0) → Kept
frame_kept F slots W I = record { State = Frame W; heap = λ s. s.shared.heap; Holds = λ s. HaveTypes s.shared.heap slots s.locals × (IsTypedHeap F s.shared.heap × I s.shared.world) }

module _ (Q W : Type 0) (F : Facts) (I : W → Type 0) (slots : List Ty) where
  abbrev K : Kept
  K = frame_kept F slots W I

  abbrev pub KeepsHere : List Object → (A : Type 0) → Here Q W A → (List Object → A → Type 0) → Type 0
  KeepsHere heap A r P = Keeps Q K heap A r P

  pub then_here : {A B : Type 0} (P : List Object → A → Type 0) (R : List Object → B → Type 0) (heap : List Object) (r : Here Q W A) (f : A → Here Q W B) → KeepsHere heap A r P → ((later : List Object) → Grows heap later → (a : A) → P later a → KeepsHere later B (f a) R) → KeepsHere heap B (r >>= f) R
  then_here P R heap r f h k = and_then Q K P R heap r f h k

  beside_at : (A : Type 0) (P : List Object → A → Type 0) (s : Frame W) (o : Outcome Q (Shared W) A) → HaveTypes s.shared.heap slots s.locals → EndedThere Q W F I A P s.shared.heap o → Ended Q K A P s.shared.heap (beside s.locals o)
  beside_at A P s (Gives a t) l h = (h.0, (keep_types s.shared.heap t.heap h.0 slots s.locals l, h.1), h.2)
  beside_at A P s (Throws e t) l h = tt
  beside_at A P s (Asks q z) l h = tt

  pub shared_here : (A : Type 0) (P : List Object → A → Type 0) (heap : List Object) (r : There Q W A) → KeepsThere Q W F I heap A r P → KeepsHere heap A (on_shared r) P
  shared_here A P heap r h = record { at = λ s g k. beside_at A P s (r s.shared) k.0 (h.at s.shared g k.1) }

  pub slot_here : (heap : List Object) (slot : ℕ) (t : Ty) → slice_get slots slot ≡ Some t → KeepsHere heap Value (slot_value slot) (OfType t)
  slot_here heap slot t e = record { at = λ s g k. (stays s.shared.heap, k, typed_at s.shared.heap slots s.locals slot t k.0 e) }

  pub assign_here : (heap : List Object) (slot : ℕ) (t : Ty) (v : Value) → slice_get slots slot ≡ Some t → HasType heap t v → KeepsHere heap U (assign_slot slot v) (Anything U)
  assign_here heap slot t v e h = record { at = λ s g k. (stays s.shared.heap, (types_written s.shared.heap slots s.locals slot t v k.0 e (keeps_type heap s.shared.heap g t v h), k.1), tt) }

  pub value_here : (heap : List Object) (t u : Ty) (v : Value) → u ≡ t → HasType heap u v → KeepsHere heap Value (pure v) (OfType t)
  value_here heap t u v e h = gives Q K Value (OfType t) heap v (λ later g. keeps_type heap later g t v (subst (λ (x : Ty). HasType heap x v) e h))

  pub nothing_here : (heap : List Object) → KeepsHere heap U (pure tt) (Anything U)
  nothing_here heap = gives Q K U (Anything U) heap tt (λ later g. tt)

  -- what comes to a value of a type, or to a throw
  pub came_here : (heap : List Object) (t : Ty) (x : Applied) → IsOf heap t x → KeepsHere heap Value (came_to x) (OfType t)
  came_here heap t (Ok v) h = value_here heap t t v refl h
  came_here heap t (Err e) h = throws Q K Value (OfType t) heap e

  pub fit_here : (heap : List Object) (from to : Ty) (v : Value) → Fits from to → HasType heap from v → KeepsHere heap Value (fit from to v) (OfType to)
  fit_here heap from to v f h = came_here heap to (widened from to v) (fits_type heap from to v f h)

  -- a run of this type, whatever the heap
  abbrev pub Always : Ty → Here Q W Value → Type 0
  Always t r = (heap : List Object) → KeepsHere heap Value r (OfType t)

  pub fitted_here : (from to : Ty) (r : Here Q W Value) → Fits from to → Always from r → Always to (r >>= fit from to)
  fitted_here from to r f h heap = then_here (OfType from) (OfType to) heap r (fit from to) (h heap) (λ later g v k. fit_here later from to v f k)

  -- ---- what an expression of a type means

  pub record Sound (t : Ty) (m : Meant Q W) : Type 0 where
    pub type_is : m.ty ≡ t
    pub run : Always t m.run
    pub put : (heap : List Object) (from : Ty) (r : Here Q W Value) → Fits from t → Always from r → KeepsHere heap U (m.put from r) (Anything U)

  pub no_place_sound : (t : Ty) (r : Here Q W Value) → Always t r → Sound t (no_place t r)
  no_place_sound t r h = record { type_is = refl; run = h; put = λ heap from l f k. nothing_here heap }

  pub fitted_run : (m : Meant Q W) (from to : Ty) → Sound from m → Fits from to → Always to (m.run >>= fit m.ty to)
  fitted_run m from to h f heap = subst (λ (x : Ty). KeepsHere heap Value (m.run >>= fit x to) (OfType to)) (sym h.type_is) (fitted_here from to m.run f h.run heap)

  as_it_is_here : (heap : List Object) (from to : Ty) (v : Value) → IsNarrow heap to → Fits from to → HasType heap from v → KeepsHere heap Value (fit from ty.Unknown v) (OfType to)
  as_it_is_here heap from to v n f h = subst (λ (x : Applied). KeepsHere heap Value (came_to x) (OfType to)) (sym (as_it_is heap from v)) (value_here heap to to v refl (fits_as_it_is heap from to v n f h))

  plain_run : (m : Meant Q W) (from to : Ty) → ((heap : List Object) → IsNarrow heap to) → Sound from m → Fits from to → Always to (m.run >>= fit m.ty ty.Unknown)
  plain_run m from to n h f heap = subst (λ (x : Ty). KeepsHere heap Value (m.run >>= fit x ty.Unknown) (OfType to)) (sym h.type_is) (then_here (OfType from) (OfType to) heap m.run (fit from ty.Unknown) (h.run heap) (λ later g v k. as_it_is_here later from to v (n later) f k))

  -- ---- several one after the other

  abbrev pub AllAlways : List Ty → List (Here Q W Value) → Type 0
  AllAlways [] [] = Unit {0}
  AllAlways (t ∷ ts) (r ∷ rs) = Always t r × AllAlways ts rs
  AllAlways _ _ = ⊥

  abbrev pub OfTypes : List Ty → List Object → List Value → Type 0
  OfTypes ts heap vs = HaveTypes heap ts vs

  more_typed : (heap : List Object) (ts : List Ty) (vs : List Value) (t : Ty) (v : Value) → HaveTypes heap ts vs → HasType heap t v → HaveTypes heap (ts ++ t ∷ []) (vs ++ v ∷ [])
  more_typed heap [] [] t v h k = (k, tt)
  more_typed heap (u ∷ ts) (w ∷ vs) t v h k = (h.0, more_typed heap ts vs t v h.1 k)
  more_typed heap [] (w ∷ vs) t v h k = absurd h
  more_typed heap (u ∷ ts) [] t v h k = absurd h

  pub gather_here : (heap : List Object) (done ts : List Ty) (there : List Value) (rs : List (Here Q W Value)) → HaveTypes heap done there → AllAlways ts rs → KeepsHere heap (List Value) (gather there rs) (OfTypes (done ++ ts))
  gather_here heap done [] there [] h k = gives Q K (List Value) (OfTypes (done ++ [])) heap there (λ later g. subst (λ (x : List Ty). HaveTypes later x there) (sym (append-nil done)) (keep_types heap later g done there h))
  gather_here heap done (t ∷ ts) there (r ∷ rs) h k =
      then_here (OfType t) (OfTypes (done ++ t ∷ ts)) heap r (λ a. gather (there ++ a ∷ []) rs) (k.0 heap) (λ later g a n.
      subst (λ (x : List Ty). KeepsHere later (List Value) (gather (there ++ a ∷ []) rs) (OfTypes x)) (append_assoc done (t ∷ []) ts)
      (gather_here later (done ++ t ∷ []) ts (there ++ a ∷ []) rs (more_typed later done there t a (keep_types heap later g done there h) n) k.1))
  gather_here heap done [] there (r ∷ rs) h k = absurd k
  gather_here heap done (t ∷ ts) there [] h k = absurd k

  -- arguments that fit these types
  abbrev pub AllSound : List Ty → List (Meant Q W) → Type 0
  AllSound [] [] = Unit {0}
  AllSound (t ∷ ts) (m ∷ ms) = ((from : Ty) × Fits from t × Sound from m) × AllSound ts ms
  AllSound _ _ = ⊥

  type_there : (types ts : List Ty) (place : ℕ) (t : Ty) → drop place types ≡ t ∷ ts → slice_index_or types place ty.Unknown ≡ t
  type_there [] ts zero t e = cc
  type_there [] ts (suc place) t e = cc
  type_there (u ∷ types) ts zero t e = cc
  type_there (u ∷ types) ts (suc place) t e = type_there types ts place t e

  types_behind : (types ts : List Ty) (place : ℕ) (t : Ty) → drop place types ≡ t ∷ ts → drop (suc place) types ≡ ts
  types_behind [] ts zero t e = cc
  types_behind [] ts (suc place) t e = cc
  types_behind (u ∷ types) ts zero t e = cc
  types_behind (u ∷ types) ts (suc place) t e = types_behind types ts place t e

  pub all_fitted : (types : List Ty) (place : ℕ) (ts : List Ty) (ms : List (Meant Q W)) → drop place types ≡ ts → AllSound ts ms → AllAlways ts (fitted types place ms)
  all_fitted types place [] [] e h = tt
  all_fitted types place (t ∷ ts) (m ∷ ms) e h =
      let next : place + 1 ≡ suc place = omega arith in (
        λ heap. subst (λ (x : Ty). KeepsHere heap Value (m.run >>= fit m.ty x) (OfType t)) (sym (type_there types ts place t e)) (fitted_run m h.0.0 t h.0.2 h.0.1 heap),
        all_fitted types (place + 1) ts ms (ap (λ (n : ℕ). drop n types) next ∙ types_behind types ts place t e) h.1,
      )
  all_fitted types place [] (m ∷ ms) e h = absurd h
  all_fitted types place (t ∷ ts) [] e h = absurd h

  abbrev pub AllNarrow : List Ty → Type 0
  AllNarrow [] = Unit {0}
  AllNarrow (t ∷ ts) = ((heap : List Object) → IsNarrow heap t) × AllNarrow ts

  -- where no types are wanted
  pub all_as_they_are : (place : ℕ) (ts : List Ty) (ms : List (Meant Q W)) → AllNarrow ts → AllSound ts ms → AllAlways ts (fitted [] place ms)
  all_as_they_are place [] [] n h = tt
  all_as_they_are place (t ∷ ts) (m ∷ ms) n h = (λ heap. plain_run m h.0.0 t n.0 h.0.2 h.0.1 heap, all_as_they_are (place + 1) ts ms n.1 h.1)
  all_as_they_are place [] (m ∷ ms) n h = absurd h
  all_as_they_are place (t ∷ ts) [] n h = absurd h

  -- a receiver, then arguments, and then what is done with their values
  pub called_here : (heap : List Object) (first ts : List Ty) (rs ls : List (Here Q W Value)) (f : List Value → Here Q W Value) (t : Ty) → AllAlways first rs → AllAlways ts ls → ((later : List Object) (values : List Value) → HaveTypes later (first ++ ts) values → KeepsHere later Value (f values) (OfType t)) → KeepsHere heap Value (gather [] rs >>= (λ there. gather there ls >>= f)) (OfType t)
  called_here heap first ts rs ls f t h k n =
      then_here (OfTypes first) (OfType t) heap (gather [] rs) (λ there. gather there ls >>= f) (gather_here heap [] first [] rs tt h) (λ later g there p.
      then_here (OfTypes (first ++ ts)) (OfType t) later (gather there ls) f (gather_here later first ts there ls p k) (λ last l values q. n last values q))
