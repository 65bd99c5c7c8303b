-- Frames, one in another.
use Rattle.std.proofs.Common.{◌≡◌, ℕ, zero, suc, ◌-◌, ◌≤◌, List, Option, Some, None, option_map, Result, Ok, Err, slice_get, refl, sym, ap, ◌∙◌, subst, arith}
use Rattle.std.specs.Borrow.{Bor}
use Rattle.std.specs.Option.{option_copied}
use Rattle.std.specs.Result.{IsErrAnd}
use Rattle.std.proofs.lemmas.Option.{slice_get-map}
use Rattle.px_value.specs.declared.value.Value.{Value}
use Rattle.px_value.specs.declared.thrown.Thrown.TheVariants.{StackOverflowError}
use Rattle.px_value.specs.Outcome.{Gives, Throws, Flow}
use Rattle.px_tree.specs.declared.Method.{Method}
use Rattle.px_facts.specs.declared.checked.MethodFact.{MethodFact}
use Rattle.px_rows.specs.Tables.{Tables}
use Rattle.px_mean.specs.Facts.{by_number}
use Rattle.px_mean.specs.Asks.{by_tables}
use Rattle.px_mean.specs.Expressions.{Around as AroundMeant}
use Rattle.px_mean.specs.Statements.{done_by}
use Rattle.px_mean.specs.Calls.{Source, calls_in, enters, first_slots, leaves_frame}
use Rattle.px_plain.specs.declared.stop.Stop.{Stop}
use Rattle.px_plain.specs.declared.stop.Stop.TheVariants as stop
use Rattle.px_plain.specs.View.{Here, There, Ending, Stops, Ends, all_now}

-- ---- methods by their numbers

pub by_place : {A : Type 0} (xs : List A) (n : ℕ) → 1 ≤ n → by_number xs n ≡ slice_get xs (n - 1)
by_place xs zero h = absurd (omega (arith, h))
by_place xs (suc n) h = let e : n ≡ suc n - 1 = omega arith in ap (slice_get xs) e

pub method_there : (methods : List (Bor Method)) (n : ℕ) (m : Option (Bor Method)) → 1 ≤ n → m ≡ slice_get methods (n - 1) → option_map (λ (x : Bor Method). x.now) m ≡ by_number (all_now methods) n
method_there methods n m h e =
    sym (by_place (all_now methods) n h ∙ slice_get-map (λ (x : Bor Method). x.now) methods (n - 1) ∙ ap (option_map (λ (x : Bor Method). x.now)) (sym e))

pub none_there : {A : Type 0} (found : Option (Bor A)) → ((b : Bor A) → found ≡ Some b → ⊥) → option_copied found ≡ None
none_there None h = refl
none_there (Some b) h = absurd (h b refl)

-- ---- frames

abbrev pub runs : Source → ℕ → ℕ → List Value → There → Ending There (Option Value)
runs P n method values s = calls_in {Q = ⊥} {W = Tables} by_tables P n method values s

pub no_frames : (P : Source) (n method : ℕ) (values : List Value) (s : There) → n ≡ 0 → runs P n method values s ≡ Throws StackOverflowError s
unfolding calls_in
no_frames P zero method values s h = refl
no_frames P (suc n) method values s h = absurd (omega (arith, h))

abbrev pub inside : Source → ℕ → AroundMeant ⊥ Tables
inside P n = record { facts = P.facts; ask = by_tables; calls = calls_in by_tables P n }

pub one_frame : (P : Source) (n method : ℕ) (values : List Value) (s : There) → 1 ≤ n → runs P n method values s ≡ enters (inside P (n - 1)) (by_number P.methods method) (by_number P.facts.methods method) values s
unfolding calls_in
one_frame P zero method values s h = absurd (omega (arith, h))
one_frame P (suc n) method values s h = let e : n ≡ suc n - 1 = omega arith in ap (λ k. enters (inside P k) (by_number P.methods method) (by_number P.facts.methods method) values s) e

pub no_method : (P : Source) (n method : ℕ) (values : List Value) (s : There) → 1 ≤ n → by_number P.methods method ≡ None → runs P n method values s ≡ Gives None s
no_method P n method values s h e = one_frame P n method values s h ∙ ap (λ (m : Option Method). enters (inside P (n - 1)) m (by_number P.facts.methods method) values s) e

pub no_fact : (P : Source) (n method : ℕ) (values : List Value) (s : There) (m : Method) → 1 ≤ n → by_number P.methods method ≡ Some m → by_number P.facts.methods method ≡ None → runs P n method values s ≡ Gives None s
no_fact P n method values s m h e f = one_frame P n method values s h ∙ (λ i. enters (inside P (n - 1)) (e i) (f i) values s)

pub entered : (P : Source) (n method : ℕ) (values slots : List Value) (s : There) (m : Method) (fact : MethodFact) → 1 ≤ n → by_number P.methods method ≡ Some m → by_number P.facts.methods method ≡ Some fact → slots ≡ first_slots fact.slots values → runs P n method values s ≡ leaves_frame (done_by (inside P (n - 1)) fact.result m.body (record { locals = slots; shared = s }))
entered P n method values slots s m fact h e f k =
    one_frame P n method values s h ∙ (λ i. enters (inside P (n - 1)) (e i) (f i) values s)
    ∙ ap (λ (xs : List Value). leaves_frame (done_by (inside P (n - 1)) fact.result m.body (record { locals = xs; shared = s }))) (sym k)

stops_left : (s : Here) (e : Stop) (o : Ending Here (Flow Value)) → Stops s e o → Stops s.shared e (leaves_frame o)
stops_left s (stop.Threw t) o h = ap leaves_frame h
stops_left s stop.NoMemory o h = tt

-- a frame is left by a throw
pub exits_frame : (s : Here) (e : Stop) (o : Ending Here (Flow Value)) (o' : Ending There (Option Value)) (r : Result (Option Value) Stop) → IsErrAnd r (λ y. y ≡ e) → Stops s e o → o' ≡ leaves_frame o → Ends s.shared r o'
exits_frame s e o o' (Ok v) i h k = absurd i
exits_frame s e o o' (Err y) i h k = subst (λ (x : Stop). Stops s.shared x o') (sym i) (subst (λ (x : Ending There (Option Value)). Stops s.shared e x) (sym k) (stops_left s e o h))
