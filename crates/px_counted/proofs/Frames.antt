-- Calls of methods leave nothing behind, in the source and in the code.
use Rattle.std.proofs.Common.{◌≡◌, ℕ, zero, suc, ◌+◌, ◌≤◌, Bool, true, false, if◌then◌else◌, List, [], ◌∷◌, ◌++◌, map, length, Option, Some, None, slice_get, refl, sym, ap, ◌∙◌, subst, le_of_eq, arith}
use Rattle.px_value.specs.declared.value.Value.{Value}
use Rattle.px_value.specs.Outcome.{Outcome, Gives, Throws, Asks, then_run, Flow, Goes, Returns, goes_on}
use Rattle.px_tree.specs.declared.Method.{Method}
use Rattle.px_facts.specs.declared.checked.MethodFact.{MethodFact}
use Rattle.px_facts.specs.declared.checked.Checked.{Checked}
use Rattle.px_effects.specs.Run.{Shared, Ask}
use Rattle.px_mean.specs.Run.{Frame as SourceFrame}
use Rattle.px_mean.specs.Facts.{by_number}
use Rattle.px_mean.specs.Expressions.{Around, Calls as SourceCalls}
use Rattle.px_mean.specs.Statements.{done_by}
use Rattle.px_mean.specs.Calls as source
use Rattle.px_mean.specs.Program.{methods_of, source_from}
use Rattle.px_mean.specs.Typing.{IsTypedMethod, IsTyped}
use Rattle.px_normal.specs.declared.ty.Ty.{Ty}
use Rattle.px_normal.specs.declared.word.Word.TheVariants as w
use Rattle.px_normal.specs.declared.node.Node.{Node}
use Rattle.px_normal.specs.declared.node.Counter.{Counter}
use Rattle.px_normal.specs.declared.node.Counter.TheVariants.{ReachedEnd}
use Rattle.px_normal.specs.declared.method.Method.{Method as CodeMethod}
use Rattle.px_normal.specs.declared.method.Tree.{Tree}
use Rattle.px_normal.specs.declared.method.Tree.TheVariants.{Do}
use Rattle.px_normal.specs.declared.code.Code.{Code}
use Rattle.px_normal.specs.First as first
use Rattle.px_normal.specs.First.{with_first, first_slots, numbered}
use Rattle.px_normal.specs.Run.{Traced, Frame}
use Rattle.px_normal.specs.CodeRun.{Calls, body_run, leaves_frame, enters, calls_in}
use Rattle.px_lowering.specs.declared.draft.Draft.{Draft}
use Rattle.px_lowering.specs.Emit.{node_at}
use Rattle.px_lowering.specs.Types.{code_type}
use Rattle.px_lowering.specs.Statements.{completes, low_stmt}
use Rattle.px_lowering.specs.Programs.{first_types, method_node, begun, ended, lowered_body, method_of, lowered}
use Rattle.px_counts.specs.Marks as mark
use Rattle.px_counts.specs.Marks.{Marked, marked_ask, unmarked_state}
use Rattle.px_counts.specs.Runs.{done_with_marks, reached, enters_with_marks, calls_with_marks}
use Rattle.px_counts.proofs.Unmarked.{unmarked_frame, unmarked_here, SameThere, done_alike, calls_alike}
use Rattle.px_preservation.proofs.Meets.{Meets, meets_more}
use Rattle.px_preservation.proofs.Agree.{Agree, CallsMeet}
use Rattle.px_preservation.proofs.Runs.{run_append}
use Rattle.px_preservation.proofs.Frames.{same_slots, length_first, length_map, types_are, ended_slots, LowersBodies, calls_meet}
use Rattle.px_counted.specs.Laws.{NeverThrows, mark_of}
use Rattle.px_counted.proofs.Counts.{IsBehind, Counted, hits, marks, with_mark, mark_behind}
use Rattle.px_counted.proofs.Steps.{CountedThere, CallsCount, word_gives}
use Rattle.px_counted.proofs.Pieces.{from_node, IsKnown, known_front, one_hit, hit_counter, from_one}
use Rattle.px_counted.proofs.GivenStatements.{does_give}
use Rattle.px_counted.proofs.Dones.{CountsDone}
use Rattle.px_counted.proofs.Methods.{ends, same_end, IsApart, IsCounted, there, no_method, no_fact}

module _ (Q W : Type 0) (ask : Ask Q W) (never : NeverThrows Q W ask) (P : Checked) (k : ℕ) (counter : Counter) where
  abbrev code : Code
  code = lowered P

  abbrev E : ℕ → ℕ
  E number = ends Q W k counter number

  abbrev from : List Node → ℕ
  from nodes = from_node Q W k counter (length nodes)

  -- the bodies of typed methods leave nothing behind, whatever calls do, as long as calls leave nothing
  abbrev pub CountsBodies : Type 0
  CountsBodies = (source_calls : SourceCalls Q W) (calls : Calls Q W) → CallsMeet Q W ask P code source_calls calls 0 → (marked_calls : SourceCalls Q (Marked W)) → ((method : ℕ) (values : List Value) → SameThere Q W (Option Value) (marked_calls method values) (source_calls method values)) → CallsCount Q W ask code calls k counter never marked_calls
      → (m : Method) (fact : MethodFact) → IsTypedMethod P.facts m fact → (o : Draft) → length fact.slots ≤ length o.slots → does_give counter m.body ≤ 1
      → CountsDone Q W ask never P code source_calls calls (length fact.slots) k counter (Flow Value) (does_give counter m.body) (done_with_marks (record { facts = P.facts; ask = marked_ask ask; calls = marked_calls }) fact.result m.body) o (low_stmt P fact.result m.body o)

  module _ (source_calls : SourceCalls Q W) (calls : Calls Q W) (met : CallsMeet Q W ask P code source_calls calls 0) (marked_calls : SourceCalls Q (Marked W)) (alike : (method : ℕ) (values : List Value) → SameThere Q W (Option Value) (marked_calls method values) (source_calls method values)) (count : CallsCount Q W ask code calls k counter never marked_calls) where
    abbrev There : {A B : Type 0} → Outcome Q (Shared (Marked W)) A → Outcome Q (Traced W) B → Type 0
    There o p = CountedThere Q W ask code calls k counter never 0 o p

    abbrev C : {A : Type 0} → Outcome Q (SourceFrame (Marked W)) A → Outcome Q (Frame W) (Flow Value) → Type 0
    C o p = Counted Q W k counter 0 o p

    abbrev run : List Tree → Frame W → Outcome Q (Frame W) (Flow Value)
    run = body_run code ask calls

    abbrev Plainly : Around Q W
    Plainly = record { facts = P.facts; ask = ask; calls = source_calls }

    abbrev Markedly : Around Q (Marked W)
    Markedly = record { facts = P.facts; ask = marked_ask ask; calls = marked_calls }

    -- a frame is left
    leaves_counts : (o : Outcome Q (SourceFrame (Marked W)) (Flow Value)) (p : Outcome Q (Frame W) (Flow Value)) → C o p → There (source.leaves_frame o) (leaves_frame p)
    leaves_counts (Gives f s) (Gives f' c) h = h
    leaves_counts (Gives f s) (Throws t c) h = tt
    leaves_counts (Gives f s) (Asks q c) h = tt
    leaves_counts (Throws t s) (Gives f c) h = tt
    leaves_counts (Throws t s) (Throws u c) h = h
    leaves_counts (Throws t s) (Asks q c) h = tt
    leaves_counts (Asks q s) p h = tt

    abbrev Ended : Flow Value → SourceFrame W → Flow Value → Frame W → Type 0
    Ended f s f' c = (f' ≡ f) × (s.shared ≡ c.shared.shared)

    abbrev Left : SourceFrame W → Frame W → Type 0
    Left s c = s.shared ≡ c.shared.shared

    -- behind a body that goes on the end is marked, and the added `return` runs
    returns_counts : (number node : ℕ) (o : Outcome Q (SourceFrame (Marked W)) (Flow Value)) (p : Outcome Q (Frame W) (Flow Value)) → hits Q W k counter node ≡ E number → Meets (unmarked_here Q W (Flow Value) o) p Ended Left → C o p → C (then_run o (reached number)) (then_run p (goes_on (run (Do node (w.Return None) ∷ []))))
    returns_counts number node (Gives Goes s) (Gives Goes c) e m h =
        word_gives Q W ask code calls k counter never (Flow Value) node 0 (w.Return None) Goes (record s { shared = with_mark Q W k counter (mark.ReachedEnd number) s.shared }) c tt
        (mark_behind Q W k counter 0 (hits Q W k counter node + 0) (mark.ReachedEnd number) s.shared c.shared (omega (arith, e)) h)
    returns_counts number node (Gives Goes s) (Gives (Returns v) c) e m h = let a = m.2 in let b = m.3.0 in absurd (cc (a, b))
    returns_counts number node (Gives Goes s) (Throws t c) e m h = tt
    returns_counts number node (Gives Goes s) (Asks q c) e m h = tt
    returns_counts number node (Gives (Returns v) s) (Gives Goes c) e m h = let a = m.2 in let b = m.3.0 in absurd (cc (a, b))
    returns_counts number node (Gives (Returns v) s) (Gives (Returns u) c) e m h = h
    returns_counts number node (Gives (Returns v) s) (Throws t c) e m h = tt
    returns_counts number node (Gives (Returns v) s) (Asks q c) e m h = tt
    returns_counts number node (Throws t s) (Gives f c) e m h = let a = m.2 in absurd (cc a)
    returns_counts number node (Throws t s) (Throws u c) e m h = h
    returns_counts number node (Throws t s) (Asks q c) e m h = tt
    returns_counts number node (Asks q s) p e m h = tt

    -- no `return` is added
    reached_counts : (number : ℕ) (o : Outcome Q (SourceFrame (Marked W)) (Flow Value)) (p : Outcome Q (Frame W) (Flow Value)) → E number ≡ 0 → C o p → C (then_run o (reached number)) p
    reached_counts number (Gives Goes s) (Gives f c) e h = mark_behind Q W k counter 0 0 (mark.ReachedEnd number) s.shared c.shared (omega (arith, e)) h
    reached_counts number (Gives Goes s) (Throws t c) e h = tt
    reached_counts number (Gives Goes s) (Asks q c) e h = tt
    reached_counts number (Gives (Returns v) s) p e h = h
    reached_counts number (Throws t s) p e h = h
    reached_counts number (Asks q s) p e h = tt

    all_of_end : (old d new s e h : ℕ) → d ≤ old + s → new ≡ d + h → new ≡ old + (s + e) → h ≤ 1 → (1 ≤ h → 1 ≤ e) → e ≤ 1 → (d ≡ old + s) × (h ≡ e)
    all_of_end old d new s e zero most eq all few f one = (omega (arith, most, eq, all), omega (arith, most, eq, all))
    all_of_end old d new s e (suc h) most eq all few f one = let z = f (omega (arith)) in (omega (arith, most, eq, all, few, one, z), omega (arith, few, one, z))

    one_end : (number : ℕ) → E number ≤ 1
    one_end number = few_if (mark.same_mark (mark_of counter) (mark.ReachedEnd number))
      where
        few_if : (b : Bool) → (if b then 1 else 0) ≤ 1
        few_if true = omega (arith)
        few_if false = omega (arith)

    -- the end of a body, with a `return` or without
    ending : (b : Bool) (number : ℕ) (m : Method) (nodes : List Node) (d0 d : Draft) (o : Outcome Q (SourceFrame (Marked W)) (Flow Value)) (c : Frame W) → d.method ≡ number → from d0.nodes ≡ from nodes + 0 → (IsKnown Q W k counter d.nodes → from d.nodes ≤ from d0.nodes + does_give counter m.body) → (IsKnown Q W k counter d.nodes → from d.nodes ≡ from d0.nodes + does_give counter m.body → C o (run d.trees c)) → Meets (unmarked_here Q W (Flow Value) o) (run d.trees c) Ended Left
        → IsKnown Q W k counter (ended P m b d).nodes → from (ended P m b d).nodes ≡ from nodes + (does_give counter m.body + E number) → C (then_run o (reached number)) (run (ended P m b d).trees c)
    ending false number m nodes d0 d o c is first_node few counts met' known sum =
        let most = few known in
        reached_counts number o (run d.trees c) (omega (arith, first_node, most, sum)) (counts known (omega (arith, first_node, most, sum)))
    ending true number m nodes d0 d o c is first_node few counts met' known sum =
        let last = node_at P d.method m.name.token (ReachedEnd d.method) in
        let node = length d.nodes + 1 in
        let known1 = known_front Q W k counter d.nodes (last ∷ []) (d.nodes ++ last ∷ []) refl known in
        let most = few known1 in
        let z = all_of_end (from nodes) (from d.nodes) (from (d.nodes ++ last ∷ [])) (does_give counter m.body) (E number) (hits Q W k counter node) (omega (arith, most, first_node)) (from_one Q W k counter d.nodes last) sum (one_hit Q W k counter node) (λ l. same_end Q W k counter number (hit_counter Q W k counter d.nodes last (ReachedEnd d.method) refl known l ∙ ap ReachedEnd is)) (one_end number) in
        let body = z.0 in
        subst (λ (p : Outcome Q (Frame W) (Flow Value)). C (then_run o (reached number)) p) (sym (run_append Q W code ask calls d.trees (Do node (w.Return None) ∷ []) c))
        (returns_counts number node o (run d.trees c) z.1 met' (counts known1 (omega (arith, first_node, body))))

    module _ (bodies : CountsBodies) (lowers : LowersBodies Q W ask P) (no_entry : (number : ℕ) → marks Q W k counter (mark.Entered number) ≡ 0) where
      body_counts : (number : ℕ) (m : Method) (fact : MethodFact) (nodes : List Node) → IsApart Q W k counter P number m fact nodes → IsTypedMethod P.facts m fact → (values : List Value) (s : Shared (Marked W)) (g : Traced W) → unmarked_state s ≡ g.shared → IsBehind Q W k counter 0 s g
          → There (enters_with_marks Markedly number (Some m) (Some fact) values s) (enters code ask calls (Some (method_of P m fact (length nodes) (lowered_body P number m fact nodes))) values g)
      body_counts number m fact nodes apart typed values s g e j =
          let types : first_types fact ≡ map code_type fact.slots = types_are fact _ typed.slots in
          let d0 : Draft = begun P number m fact nodes in
          let d : Draft = low_stmt P fact.result m.body d0 in
          let made : CodeMethod = method_of P m fact (length nodes) (lowered_body P number m fact nodes) in
          let s0 : SourceFrame (Marked W) = record { locals = source.first_slots fact.slots values; shared = with_mark Q W k counter (mark.Entered number) s } in
          let c0 : Frame W = record { locals = first_slots made values; shared = g } in
          let le : length fact.slots ≤ length d0.slots = le_of_eq (sym (ap length types ∙ length_map code_type fact.slots)) in
          let plain = lowers source_calls calls met m fact typed d0 le in
          let i = bodies source_calls calls met marked_calls alike count m fact typed d0 le apart.few in
          let slots : made.slots ≡ map code_type fact.slots ++ plain.temps = ended_slots Q W ask P source_calls calls (length fact.slots) m (completes m.body) d ∙ plain.slots_are ∙ ap (λ (ts : List Ty). ts ++ plain.temps) types in
          let agree : Agree W (length fact.slots) (unmarked_frame Q W s0) c0 = record {
            locals = λ x h. same_slots fact.slots plain.temps values x h ∙ ap (λ (ts : List Ty). slice_get (with_first values (map first.default_of ts)) x) (sym slots);
            shared = e;
          } in
          let size : length d.slots ≡ length c0.locals = sym (length_first values (map first.default_of made.slots) ∙ length_map first.default_of made.slots ∙ ap length (ended_slots Q W ask P source_calls calls (length fact.slots) m (completes m.body) d)) in
          let none = no_entry number in
          let j0 : IsBehind Q W k counter 0 s0.shared g = mark_behind Q W k counter 0 0 (mark.Entered number) s g (omega (arith, none)) j in
          let first_node : from d0.nodes ≡ from nodes + 0 = from_one Q W k counter nodes (method_node P number m) ∙ ap (λ (h : ℕ). from nodes + h) apart.first in
          let all : d.trees ≡ [] ++ d.trees = refl in
          let o = done_with_marks Markedly fact.result m.body s0 in
          let same = done_alike Q W ask P.facts marked_calls source_calls alike fact.result m.body in
          let ran = plain.meets (unmarked_frame Q W s0) c0 agree (le_of_eq size) in
          let there = subst (λ (ts : List Tree). Meets (unmarked_here Q W (Flow Value) o) (run ts c0) Ended Left) (sym plain.trees_are)
          (subst (λ (y : Outcome Q (SourceFrame W) (Flow Value)). Meets y (run plain.trees c0) Ended Left) (sym (same.at s0))
          (meets_more (done_by Plainly fact.result m.body (unmarked_frame Q W s0)) (run plain.trees c0) _ _ Ended Left ran (λ f s1 f1 c1 q. (q.0, q.1.shared)) (λ s1 c1 q. q))) in
          leaves_counts (then_run o (reached number)) (run (ended P m (completes m.body) d).trees c0)
          (ending (completes m.body) number m nodes d0 d o c0 plain.method_is first_node i.grows.few (λ known eq. i.counts d.trees all known eq s0 c0 agree (le_of_eq size) j0) there apart.known apart.sum)

      abbrev Typed : Option Method → Option MethodFact → Type 0
      Typed a b = (m : Method) (fact : MethodFact) → a ≡ Some m → b ≡ Some fact → IsTypedMethod P.facts m fact

      enters_counts : (number : ℕ) (a : Option Method) (b : Option MethodFact) (c : Option CodeMethod) → IsCounted Q W k counter P number a b c → Typed a b → (values : List Value) (s : Shared (Marked W)) (g : Traced W) → unmarked_state s ≡ g.shared → IsBehind Q W k counter 0 s g → There (enters_with_marks Markedly number a b values s) (enters code ask calls c values g)
      enters_counts number _ _ _ (there m fact nodes apart) typed values s g e j = body_counts number m fact nodes apart (typed m fact refl refl) values s g e j
      enters_counts number _ _ _ (no_method fact) typed values s g e j = j
      enters_counts number _ _ _ (no_fact None) typed values s g e j = j
      enters_counts number _ _ _ (no_fact (Some m)) typed values s g e j = j

  module _ (typed : IsTyped (source_from P)) (lowers : LowersBodies Q W ask P) (bodies : CountsBodies) (no_entry : (number : ℕ) → marks Q W k counter (mark.Entered number) ≡ 0) (methods : (method : ℕ) → IsCounted Q W k counter P method (by_number (methods_of P.program.classes) method) (by_number P.facts.methods method) (numbered code.methods method)) where
    typed_at : (method : ℕ) (m : Method) (fact : MethodFact) → by_number (methods_of P.program.classes) method ≡ Some m → by_number P.facts.methods method ≡ Some fact → IsTypedMethod P.facts m fact
    typed_at method m fact a b =
        let t = typed.methods method fact b in
        let same : Some t.0 ≡ Some m = sym t.1 ∙ a in
        let is : t.0 ≡ m = cc same in
        subst (λ x. IsTypedMethod P.facts x fact) is t.2

    -- with as many frames
    pub calls_count : (frames : ℕ) → CallsCount Q W ask code (calls_in code ask frames) k counter never (calls_with_marks ask (source_from P) frames)
    unfolding calls_with_marks calls_in
    calls_count zero method values s g e j = j
    calls_count (suc frames) method values s g e j =
        enters_counts (source.calls_in ask (source_from P) frames) (calls_in code ask frames) (calls_meet Q W ask P typed lowers frames) (calls_with_marks ask (source_from P) frames) (calls_alike Q W ask (source_from P) frames) (calls_count frames) bodies lowers no_entry
        method _ _ _ (methods method) (typed_at method) values s g e j
