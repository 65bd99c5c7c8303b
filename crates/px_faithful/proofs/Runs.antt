-- A call that tables answer comes to what it comes to with their answers in a list.
use Rattle.std.proofs.Common.{◌≡◌, ℕ, ◌<◌, ◌≤◌, ◌+◌, List, [], ◌∷◌, length, Option, Some, None, slice_get, if◌then◌else◌, refl, sym, ap, ◌∙◌, subst, arith}
use Rattle.px_value.specs.declared.value.Value.{Value}
use Rattle.px_value.specs.declared.statement.TableOp.{TableOp}
use Rattle.px_value.specs.declared.answer.Answer.{Answer}
use Rattle.px_value.specs.Outcome.{Outcome as Result, Gives, Throws, Asks as Open}
use Rattle.px_code.specs.declared.reply.Reply.TheVariants as reply
use Rattle.px_facts.specs.declared.checked.Entry.{Entry as EntryOf}
use Rattle.px_rows.specs.Tables.{Tables}
use Rattle.px_rows.specs.Means.{fed, answers_to}
use Rattle.px_mean.specs.Run.{Shared}
use Rattle.px_mean.specs.Asks.{by_tables}
use Rattle.px_mean.specs.Calls.{Source}
use Rattle.px_mean.specs.Entry.{Called, reply_of, exec, ended, called_entry, call_of}
use Rattle.px_mean.specs.Serial.{Call}
use Rattle.px_mean.specs.Laws.{Ends as Run, on_list, IfAsks, AsksInOrder, IsAsOnList}
use Rattle.px_mean.proofs.OnList.{open_at_the_end}
use Rattle.px_mean.proofs.OnTables.{tables_as_lists}
use Rattle.px_history.specs.State.{is_throw}
use Rattle.px_history.specs.Serial.{Asks, Ends, AsksAtMost, max_ops, IsBounded, Ended, run_on, prints_of}
use Rattle.px_history.proofs.Serially.{Asked, run_is}
use Rattle.px_faithful.specs.Jobs.{Heap, comes_to, entered, called, call_at, meaning_of}

-- ---- a call asks at most so many operations

comes_asks : (r : Run) (o : TableOp) → comes_to r ≡ Asks o → (s : Shared (List Answer)) × (r ≡ Open o s)
comes_asks (Gives v s) o h = cc
comes_asks (Throws t s) o h = cc
comes_asks (Open q s) o h = let e : q ≡ o = cc in (s, ap (λ (x : TableOp). Open x s) e)

list_bounded : (P : Source) (heap : Heap) (method : ℕ) (args : List Value) → AsksAtMost max_ops (λ answers. comes_to (on_list P heap method args answers))
list_bounded P heap method args told o h =
    let r = comes_asks (on_list P heap method args told) o h in
    let z = subst (λ (x : Run). IfAsks x (λ q s. (s.world ≡ []) × (s.operations ≡ length told + 1) × (s.operations ≤ 100))) r.1
    (known (on_list P heap method args told) (open_at_the_end P heap told method args)) in
    let a = z.1 in
    let b = z.2 in
    omega arith
  where
    known : (x : Run) → IfAsks x (λ q s. (s.world ≡ []) × (s.operations ≡ length told + 1) × (s.operations ≤ 100) × (operations : List TableOp) × ((answer : Answer) → AsksInOrder (on_list P heap method args) (Rattle.std.proofs.Common.◌++◌ operations (q ∷ [])) (Rattle.std.proofs.Common.◌++◌ told (answer ∷ []))))
        → IfAsks x (λ q s. (s.world ≡ []) × (s.operations ≡ length told + 1) × (s.operations ≤ 100))
    known (Gives v s) h = tt
    known (Throws t s) h = tt
    known (Open q s) h = (h.0, h.1, h.2)

entered_bounded : (P : Source) (heap : Heap) (entry : Option EntryOf) (args : List Value) → AsksAtMost max_ops (entered P heap entry args)
entered_bounded P heap None args told o h = cc
entered_bounded P heap (Some entry) args told o h = list_bounded P heap entry.method args told o h

called_bounded : (P : Source) (heap : Heap) (c : Option Call) → AsksAtMost max_ops (called P heap c)
called_bounded P heap None told o h = cc
called_bounded P heap (Some c) told o h = entered_bounded P heap (slice_get P.facts.main.entries c.entry) c.args told o h

pub bounded : (P : Source) (calls : List Call) → IsBounded (meaning_of P calls)
bounded P calls s c heap = called_bounded P heap (call_at calls s c)

-- ---- a call on tables

asked_in : (run : List Answer → Run) (os : List TableOp) (xs : List Answer) → AsksInOrder run os xs → Asked (λ answers. comes_to (run answers)) os xs
asked_in run [] [] h = tt
asked_in run [] (a ∷ xs) h = absurd h
asked_in run (o ∷ os) [] h = absurd h
asked_in run (o ∷ os) (a ∷ xs) h = (ap comes_to h.0.1, asked_in (λ more. run (a ∷ more)) os xs h.1)

-- a run that was answered from tables ended as the entry call does; a throw leaves the heap and the tables
pub record Runs (c : Called Tables) (H : Heap) (T : Tables) (r : Option (Ended Heap)) : Type 0 where
  pub end : Ended Heap
  pub is : r ≡ Some end
  pub reply : end.reply ≡ c.reply
  pub prints : prints_of end.reply end.prints ≡ c.prints
  pub heap : (if is_throw end.reply then H else end.heap) ≡ c.heap
  pub tables : (if is_throw end.reply then T else end.tables) ≡ c.world

no_throw : (v : Option Value) → is_throw (reply_of v) ≡ Rattle.std.proofs.Common.false
no_throw None = refl
no_throw (Some v) = refl

on_tables : (P : Source) (H : Heap) (T : Tables) (method : ℕ) (args : List Value) (end : Result ⊥ (Shared Tables) (Option Value)) → IsAsOnList end T (on_list P H method args) → Runs (ended H T end) H T (run_on max_ops (λ answers. comes_to (on_list P H method args answers)) T)
on_tables P H T method args (Gives v st) i =
    let fin : comes_to (on_list P H method args (answers_to i.operations T)) ≡ Ends (reply_of v) st.prints st.heap = ap comes_to i.same in
    let b = no_throw v in
    record {
      end = record { reply = reply_of v; prints = st.prints; heap = st.heap; tables = fed i.operations T };
      is = run_is Heap max_ops (λ answers. comes_to (on_list P H method args answers)) i.operations T (reply_of v) st.prints st.heap (list_bounded P H method args) (asked_in (on_list P H method args) i.operations (answers_to i.operations T) i.asked) fin;
      reply = refl;
      prints = ap (λ x. if x then [] else st.prints) b;
      heap = ap (λ x. if x then H else st.heap) b;
      tables = ap (λ x. if x then T else fed i.operations T) b ∙ sym i.tables_after;
    }
on_tables P H T method args (Throws t st) i =
    let fin : comes_to (on_list P H method args (answers_to i.operations T)) ≡ Ends (reply.Threw t) [] st.heap = ap comes_to i.same in
    record {
      end = record { reply = reply.Threw t; prints = []; heap = st.heap; tables = fed i.operations T };
      is = run_is Heap max_ops (λ answers. comes_to (on_list P H method args answers)) i.operations T (reply.Threw t) [] st.heap (list_bounded P H method args) (asked_in (on_list P H method args) i.operations (answers_to i.operations T) i.asked) fin;
      reply = refl;
      prints = refl;
      heap = refl;
      tables = refl;
    }
on_tables P H T method args (Open q st) i = absurd q

entered_runs : (P : Source) (H : Heap) (T : Tables) (entry : Option EntryOf) (args : List Value) → Runs (called_entry by_tables P H T entry args) H T (run_on max_ops (entered P H entry args) T)
entered_runs P H T None args = record {
  end = record { reply = reply.Void; prints = []; heap = H; tables = T };
  is = run_is Heap max_ops (entered P H None args) [] T reply.Void [] H (entered_bounded P H None args) tt refl;
  reply = refl;
  prints = refl;
  heap = refl;
  tables = refl;
}
entered_runs P H T (Some entry) args = on_tables P H T entry.method args (exec by_tables P H T entry.method args) (tables_as_lists ⊥ P H T entry.method args)

pub call_runs : (P : Source) (H : Heap) (T : Tables) (c : Call) → Runs (call_of by_tables P H T c.entry c.args) H T (run_on max_ops (called P H (Some c)) T)
unfolding call_of
call_runs P H T c = entered_runs P H T (slice_get P.facts.main.entries c.entry) c.args
