-- What two ends show of a session's calls is what the serial run shows.
use Rattle.std.proofs.Common.{◌≡◌, ℕ, List, [], ◌∷◌, map, Option, Some, Ok, slice_get, refl, sym, ap, ◌∙◌}
use Rattle.std.specs.List.{AllByRecursion}
use Rattle.px_value.specs.declared.value.Value.{Value}
use Rattle.px_value.specs.declared.object.Object.{Object}
use Rattle.px_facts.specs.declared.checked.Checked.{Checked}
use Rattle.px_facts.specs.declared.checked.Entry.{Entry}
use Rattle.px_code.specs.declared.code.Code.{Code as SimpleCode}
use Rattle.px_code.specs.declared.plan.Plan.{Plan}
use Rattle.px_code.specs.declared.reply.Done.{Done}
use Rattle.px_code.specs.declared.reply.Shown.{Shown}
use Rattle.px_code.specs.Stale.{Event}
use Rattle.px_rows.specs.Tables.{Tables}
use Rattle.px_mean.specs.Asks.{by_tables}
use Rattle.px_mean.specs.Program.{source_from}
use Rattle.px_mean.specs.Entry.{Called as Meant, ended, exec, called_entry, call_of}
use Rattle.px_mean.specs.Serial.{Call as Wanted, Stand, shown_of, one_call, serves}
use Rattle.px_mean.specs.Calls.{Source}
use Rattle.px_lowering.specs.Programs.{lowered}
use Rattle.px_straight.specs.Straight.{straight}
use Rattle.px_job.specs.declared.job.Call.{Call as JobCall}
use Rattle.px_session.specs.Serving.{IsServed, AreServed, none, more}
use Rattle.px_main.specs.Known.{IsKnown}
use Rattle.px_main.specs.Run.{wanted}
use Rattle.px_main.specs.Solo.{method_at, asked, by_source, shown_by}
use Rattle.px_main.proofs.BySource.{same_ended}

-- a call of the one session, and of an entry that there is
pub record IsOwn (entries : List Entry) (call : JobCall) : Type 0 where
  pub session : call.session ≡ 1
  pub entry : Entry
  pub found : slice_get entries call.entry ≡ Some entry

-- the one session, with its heap
abbrev pub stand : {W : Type 0} → W → List Object → Stand W
stand world heap = record { heaps = heap ∷ []; world = world }

first_call : (P : Source) (T : Tables) (heap : List Object) (entry : ℕ) (args : List Value)
    → one_call by_tables P (record { session = 1; entry = entry; args = args }) (stand T heap) ≡ (shown_of (call_of by_tables P heap T entry args), stand (call_of by_tables P heap T entry args).world (call_of by_tables P heap T entry args).heap)
first_call P T heap entry args = refl

entry_call : (P : Source) (T : Tables) (heap : List Object) (place : ℕ) (entry : Entry) (args : List Value) → slice_get P.facts.main.entries place ≡ Some entry → call_of by_tables P heap T place args ≡ ended heap T (exec by_tables P heap T entry.method args)
unfolding call_of
entry_call P T heap place entry args found = ap (λ (e : Option Entry). called_entry by_tables P heap T e args) found

one_more : (P : Source) (call : Wanted) (calls : List Wanted) (st : Stand Tables) → (serves by_tables P (call ∷ calls) st).0 ≡ (one_call by_tables P call st).0 ∷ (serves by_tables P calls (one_call by_tables P call st).1).0
unfolding serves
one_more P call calls st = refl

nothing_shown : (P : Source) (st : Stand Tables) → [] ≡ (serves by_tables P [] st).0
unfolding serves
nothing_shown P st = refl

module _ (c : Checked) (k : IsKnown c) (simple : SimpleCode) (s : straight (lowered c) ≡ Ok simple) (T : Tables) (plan : Plan) where
  meant : List Object → ℕ → List Value → Meant Tables
  meant heap method args = ended heap T (exec by_tables (source_from c) heap T method args)

  step : (heap : List Object) (call : JobCall) (entry : Entry) → call.session ≡ 1 → slice_get c.facts.main.entries call.entry ≡ Some entry
      → one_call by_tables (source_from c) (wanted call) (stand T heap) ≡ (shown_of (ended heap T (exec by_tables (source_from c) heap T entry.method call.args)), stand T (ended heap T (exec by_tables (source_from c) heap T entry.method call.args)).heap)
  step heap call entry session found =
      let P = source_from c in
      let m = ended heap T (exec by_tables P heap T entry.method call.args) in
      let is : call_of by_tables P heap T call.entry call.args ≡ m = entry_call P T heap call.entry entry call.args found in
      let world : m.world ≡ T = ap (λ (x : Meant Tables). x.world) (same_ended c k simple s heap T entry.method call.args) in
      ap (λ (n : ℕ). one_call by_tables P (record { session = n; entry = call.entry; args = call.args }) (stand T heap)) session
      ∙ first_call P T heap call.entry call.args
      ∙ ap (λ (x : Meant Tables). (shown_of x, stand x.world x.heap)) is
      ∙ ap (λ (w : Tables). (shown_of m, stand w m.heap)) world

  shown_is : (heap : List Object) (before after : List Event) (call : JobCall) (entry : Entry) (done : Done) → slice_get c.facts.main.entries call.entry ≡ Some entry
      → IsServed plan heap (asked c.facts.main.entries call) (by_source c T heap (asked c.facts.main.entries call)).reply before done after
      → shown_by done ≡ shown_of (ended heap T (exec by_tables (source_from c) heap T entry.method call.args))
  shown_is heap before after call entry done found h =
      let P = source_from c in
      let m = ended heap T (exec by_tables P heap T entry.method call.args) in
      let method : method_at (slice_get c.facts.main.entries call.entry) ≡ entry.method = ap method_at found in
      let reply : done.reply ≡ m.reply = h.reply_is ∙ ap (λ (n : ℕ). (ended heap T (exec by_tables P heap T n call.args)).reply) method in
      let prints : done.prints ≡ m.prints = h.prints ∙ sym (ap (λ (x : Meant Tables). x.prints) (same_ended c k simple s heap T entry.method call.args)) in
      λ i. record { reply = reply i; prints = prints i }

  heap_is : (heap : List Object) (call : JobCall) (entry : Entry) → slice_get c.facts.main.entries call.entry ≡ Some entry
      → (by_source c T heap (asked c.facts.main.entries call)).heap ≡ (ended heap T (exec by_tables (source_from c) heap T entry.method call.args)).heap
  heap_is heap call entry found = ap (λ (n : ℕ). (ended heap T (exec by_tables (source_from c) heap T n call.args)).heap) (ap method_at found)

  pub as_serial : (calls : List JobCall) (dones : List Done) {heap : List Object} {events : List Event} → AllByRecursion (IsOwn c.facts.main.entries) calls
      → AreServed (by_source c T) plan heap events (map (asked c.facts.main.entries) calls) dones → map shown_by dones ≡ (serves by_tables (source_from c) (map wanted calls) (stand T heap)).0
  as_serial [] dones {heap = heap} own none = nothing_shown (source_from c) (stand T heap)
  as_serial (call ∷ calls) dones {heap = heap} own (more {before = before} {after = after} {done = done} {dones = later} one rest) =
      let P = source_from c in
      let entry = own.0.entry in
      let m = ended heap T (exec by_tables P heap T entry.method call.args) in
      let first = shown_is heap before after call entry done own.0.found one in
      let others = as_serial calls later own.1 rest ∙ ap (λ (h : List Object). (serves by_tables P (map wanted calls) (stand T h)).0) (heap_is heap call entry own.0.found) in
      (λ i. first i ∷ others i)
      ∙ sym (one_more P (wanted call) (map wanted calls) (stand T heap) ∙ ap (λ (o : Shown × Stand Tables). o.0 ∷ (serves by_tables P (map wanted calls) o.1).0) (step heap call entry own.0.session own.0.found))
