-- What holds of expressions, statements and methods, joined: a node runs as often as its counter tells.
use Rattle.std.proofs.Common.{◌≡◌, ℕ, zero, suc, ◌+◌, ◌<◌, ◌≤◌, nat_eq, Bool, if◌then◌else◌, List, [], ◌∷◌, length, map, Option, Some, None, slice_get, refl, sym, ap, ◌∙◌, subst, le_of_eq, arith}
use Rattle.std.proofs.lemmas.Bool.{eq-eqb}
use Rattle.std.proofs.lemmas.Option.{slice_get_within}
use Rattle.px_value.specs.declared.value.Value.{Value}
use Rattle.px_value.specs.declared.value.Value.TheVariants.{Ref}
use Rattle.px_value.specs.declared.object.Object.{Object}
use Rattle.px_value.specs.Outcome.{Outcome, Gives, Throws, Asks}
use Rattle.px_tree.specs.declared.Method.{Method}
use Rattle.px_facts.specs.declared.checked.MethodFact.{MethodFact}
use Rattle.px_facts.specs.declared.checked.Checked.{Checked}
use Rattle.px_effects.specs.Run.{Shared, Ask}
use Rattle.px_mean.specs.Facts.{by_number}
use Rattle.px_mean.specs.Calls as source
use Rattle.px_mean.specs.Program.{methods_of, source_from}
use Rattle.px_mean.specs.Entry.{all_frames}
use Rattle.px_mean.specs.Typing.{IsTypedMethod, IsTyped}
use Rattle.px_normal.specs.declared.node.Node.{Node}
use Rattle.px_normal.specs.declared.node.NodeKind.TheVariants.{Normal}
use Rattle.px_normal.specs.declared.node.Counter.{Counter}
use Rattle.px_normal.specs.declared.node.Counter.TheVariants.{Begun, Completed, Entered, ReachedEnd}
use Rattle.px_normal.specs.First.{numbered}
use Rattle.px_normal.specs.Run.{Traced, untraced}
use Rattle.px_normal.specs.CodeRun.{calls_in, code_run}
use Rattle.px_lowering.specs.declared.draft.Draft.{Draft}
use Rattle.px_lowering.specs.Types.{code_type}
use Rattle.px_lowering.specs.Programs.{first_types, begun, lowered_methods, lowered}
use Rattle.px_counts.specs.Marks as mark
use Rattle.px_counts.specs.Marks.{Marked, times, unmarked}
use Rattle.px_counts.specs.Runs.{calls_with_marks, exec_with_marks}
use Rattle.px_counts.proofs.Unmarked.{calls_alike, exec_unmarked}
use Rattle.px_preservation.specs.Laws.{AreKnown}
use Rattle.px_preservation.proofs.Program.{SameProgram, same_program}
use Rattle.px_preservation.proofs.Expressions.{lowers_expr}
use Rattle.px_preservation.proofs.Statements.{lowers_statement}
use Rattle.px_preservation.proofs.Frames.{length_map, types_are, LowersBodies, calls_meet}
use Rattle.px_preservation.proofs.Whole.{keeps_meaning}
use Rattle.px_counted.specs.Numbers.{AreNumbered}
use Rattle.px_counted.specs.Laws.{mark_of, runs_of, EndsAt, NeverThrows, CountsAreRuns}
use Rattle.px_counted.proofs.Counts.{marks}
use Rattle.px_counted.proofs.Steps.{CountedThere, CallsCount}
use Rattle.px_counted.proofs.Pieces.{from_node, from_more, IsKnown}
use Rattle.px_counted.proofs.GivenStatements.{does_give}
use Rattle.px_counted.proofs.AllExpressions.{counts_expr}
use Rattle.px_counted.proofs.Statements.{counts_statement}
use Rattle.px_counted.proofs.Methods.{IsNormal, given_from, MethodGrows, method_grows, AllGrow, methods_grow, method_at, IsCounted, no_method, given_begun, given_completed, given_entered, given_ends}
use Rattle.px_counted.proofs.Frames.{CountsBodies, calls_count}
use Rattle.px_counted.proofs.Nodes.{methods_back}

within : {A : Type 0} (xs : List A) (k : ℕ) (x : A) → numbered xs k ≡ Some x → (i : ℕ) × (k ≡ suc i) × (i < length xs)
within xs zero x h = absurd (cc h)
within xs (suc i) x h = (i, refl, slice_get_within xs i x h)

module _ (Q W : Type 0) (ask : Ask Q W) (never : NeverThrows Q W ask) (P : Checked) (typed : IsTyped (source_from P)) (are_known : AreKnown P.program.classes P.facts.classes) (are_numbered : AreNumbered P) (k : ℕ) (counter : Counter) (node : Node) (at : numbered (lowered P).nodes k ≡ Some node) (kind : node.kind ≡ Normal) (is : node.counter ≡ Some counter) where
  abbrev methods : List Method
  methods = methods_of P.program.classes

  abbrev facts : List MethodFact
  facts = P.facts.methods

  abbrev nodes : List Node
  nodes = (lowered_methods P 1 methods facts []).nodes

  abbrev from : List Node → ℕ
  from ns = from_node Q W k counter (length ns)

  same : SameProgram P (lowered P)
  same = same_program P are_known

  here : numbered nodes k ≡ Some node
  here = methods_back k P node at kind

  the_node : (other : Node) → numbered nodes k ≡ Some other → node ≡ other
  the_node other e = let s : Some node ≡ Some other = sym here ∙ e in cc s

  known : IsKnown Q W k counter nodes
  known other e = subst (λ (x : Node). x.counter ≡ Some counter) (the_node other e) is

  normal : IsNormal Q W k counter nodes
  normal other e = subst (λ (x : Node). x.kind ≡ Normal) (the_node other e) kind

  -- ---- bodies

  lowers : LowersBodies Q W ask P
  lowers source_calls calls met m fact t = lowers_statement Q W ask P (lowered P) source_calls calls fact.slots fact.result met (lowers_expr Q W ask P (lowered P) source_calls calls (length fact.slots) met same fact.slots refl) t.completes m.body t.body

  bodies : CountsBodies Q W ask never P k counter
  bodies source_calls calls met marked_calls alike count m fact t o le few =
      counts_statement Q W ask never P (lowered P) source_calls calls fact.slots fact.result k counter met same marked_calls alike count
      (lowers_expr Q W ask P (lowered P) source_calls calls (length fact.slots) met same fact.slots refl)
      (counts_expr Q W ask never P (lowered P) source_calls calls (length fact.slots) k counter met same marked_calls alike count fact.slots refl)
      t.completes m.body t.body o le few

  -- with no frame there is no call
  no_calls : CallsCount Q W ask (lowered P) (calls_in (lowered P) ask 0) k counter never (calls_with_marks ask (source_from P) 0)
  unfolding calls_with_marks calls_in
  no_calls method values s g e j = j

  grows : (m : Method) (fact : MethodFact) → IsTypedMethod P.facts m fact → (number : ℕ) (before : List Node) → does_give counter m.body ≤ 1 → MethodGrows Q W k counter P number m fact before
  grows m fact t number before few =
      let o : Draft = begun P number m fact before in
      let types : first_types fact ≡ map code_type fact.slots = types_are fact _ t.slots in
      let le : length fact.slots ≤ length o.slots = le_of_eq (sym (ap length types ∙ length_map code_type fact.slots)) in
      let met = calls_meet Q W ask P typed lowers 0 in
      let source_calls = source.calls_in ask (source_from P) 0 in
      let calls = calls_in (lowered P) ask 0 in
      let plain = lowers source_calls calls met m fact t o le in
      let counted = bodies source_calls calls met (calls_with_marks ask (source_from P) 0) (calls_alike Q W ask (source_from P) 0) no_calls m fact t o le few in
      method_grows Q W k counter P number m fact before plain.method_is counted.grows

  abbrev AreTyped : List Method → List MethodFact → Type 0
  AreTyped ms fs = (i : ℕ) (m : Method) (fact : MethodFact) → slice_get ms i ≡ Some m → slice_get fs i ≡ Some fact → IsTypedMethod P.facts m fact

  all_grow_in : (ms : List Method) (fs : List MethodFact) → AreTyped ms fs → AllGrow Q W k counter P ms fs
  all_grow_in [] fs h = tt
  all_grow_in (m ∷ ms) [] h = tt
  all_grow_in (m ∷ ms) (fact ∷ fs) h = (grows m fact (h 0 m fact refl refl), all_grow_in ms fs (λ i m' fact' a b. h (suc i) m' fact' a b))

  are_typed : AreTyped methods facts
  are_typed i m fact a b =
      let t = typed.methods (suc i) fact b in
      let s : Some t.0 ≡ Some m = sym t.1 ∙ a in
      let e : t.0 ≡ m = cc s in
      subst (λ x. IsTypedMethod P.facts x fact) e t.2

  all_grow : AllGrow Q W k counter P methods facts
  all_grow = all_grow_in methods facts are_typed

  -- ---- the counter's number is given once

  few_by : (c : Counter) → counter ≡ c → given_from Q W k counter 1 methods ≤ 1
  few_by (Begun i) e = let z = given_begun Q W k counter i e 1 methods in let few = are_numbered i in omega (arith, z, few)
  few_by (Completed i) e = let z = given_completed Q W k counter i e 1 methods in let few = are_numbered i in omega (arith, z, few)
  few_by (Entered i) e = let z = given_entered Q W k counter i e 1 methods in omega (arith, z)
  few_by (ReachedEnd i) e = (given_ends Q W k counter i e 1 methods).0

  few : given_from Q W k counter 1 methods ≤ 1
  few = few_by counter refl

  some : 1 ≤ from nodes
  some = by (within nodes k node here)
    where
      by : ((i : ℕ) × (k ≡ suc i) × (i < length nodes)) → 1 ≤ from nodes
      by z = next z.0 z.1 (length nodes) z.2
        where
          next : (i : ℕ) → k ≡ suc i → (size : ℕ) → i < size → 1 ≤ from_node Q W k counter size
          next i e size l = up i e (least i size l)
            where
              least : (i size : ℕ) → i < size → (d : ℕ) × (size ≡ suc i + d)
              least zero zero l = absurd (omega (arith, l))
              least zero (suc size) l = (size, omega (arith))
              least (suc i) zero l = absurd (omega (arith, l))
              least (suc i) (suc size) l = let z = least i size (omega (arith, l)) in let e = z.1 in (z.0, omega (arith, e))

              up : (i : ℕ) → k ≡ suc i → ((d : ℕ) × (size ≡ suc i + d)) → 1 ≤ from_node Q W k counter size
              up i e z =
                  let more = from_more Q W k counter (suc i) z.0 in
                  let hit : 1 ≤ (if nat_eq k (suc i) then 1 else 0) = subst (λ (b : Bool). 1 ≤ (if b then 1 else 0)) (sym (eq-eqb k (suc i) e)) (omega (arith)) in
                  subst (λ (n : ℕ). 1 ≤ from_node Q W k counter n) (sym z.1) (omega (arith, more, hit))

  sum : from nodes ≡ from [] + given_from Q W k counter 1 methods
  sum = let z = (methods_grow Q W k counter P 1 methods facts [] few all_grow).few known normal in omega (arith, few, some, z)

  at_method : (method : ℕ) → IsCounted Q W k counter P method (by_number methods method) (by_number facts method) (numbered (lowered P).methods method)
  unfolding lowered
  at_method zero = no_method None
  at_method (suc i) =
      let e : 1 + i ≡ suc i = omega (arith) in
      subst (λ (n : ℕ). IsCounted Q W k counter P n (slice_get methods i) (slice_get facts i) (slice_get (lowered_methods P 1 methods facts []).methods i)) e
      (method_at Q W k counter P 1 methods facts [] i few all_grow known normal sum)

  -- no statement counts how often a method was entered
  no_entry_by : (c : Counter) → counter ≡ c → (number : ℕ) → marks Q W k c (mark.Entered number) ≡ 0
  no_entry_by (Begun i) e number = refl
  no_entry_by (Completed i) e number = refl
  no_entry_by (ReachedEnd i) e number = refl
  no_entry_by (Entered i) e number = let z = given_entered Q W k counter i e 1 methods in let s = sum in let m = some in absurd (omega (arith, z, s, m))

  counted : CallsCount Q W ask (lowered P) (calls_in (lowered P) ask all_frames) k counter never (calls_with_marks ask (source_from P) all_frames)
  counted = calls_count Q W ask never P k counter typed lowers bodies (no_entry_by counter refl) at_method all_frames

  -- ---- at the end of a run

  at_end : (o : Outcome Q (Shared (Marked W)) (Option Value)) (p : Outcome Q (Traced W) (Option Value)) → unmarked o ≡ untraced p → CountedThere Q W ask (lowered P) (calls_in (lowered P) ask all_frames) k counter never 0 o p → (s : Shared (Marked W)) (g : Traced W) → EndsAt o s → EndsAt p g → runs_of k g.ran ≡ times (mark_of counter) s.world.marks
  at_end (Gives a t) (Gives b u) e h s g es eg = subst (λ (x : Traced W). runs_of k x.ran ≡ times (mark_of counter) s.world.marks) eg (subst (λ (x : Shared (Marked W)). runs_of k u.ran ≡ times (mark_of counter) x.world.marks) es (omega (arith, h)))
  at_end (Throws a t) (Throws b u) e h s g es eg = subst (λ (x : Traced W). runs_of k x.ran ≡ times (mark_of counter) s.world.marks) eg (subst (λ (x : Shared (Marked W)). runs_of k u.ran ≡ times (mark_of counter) x.world.marks) es (omega (arith, h)))
  at_end (Gives a t) (Throws b u) e h s g es eg = absurd (cc e)
  at_end (Throws a t) (Gives b u) e h s g es eg = absurd (cc e)
  at_end (Asks q t) p e h s g es eg = absurd es
  at_end (Gives a t) (Asks q u) e h s g es eg = absurd eg
  at_end (Throws a t) (Asks q u) e h s g es eg = absurd eg

  runs_as_counted : (heap : List Object) (world : W) (method : ℕ) (args : List Value) (s : Shared (Marked W)) (g : Traced W) → EndsAt (exec_with_marks ask (source_from P) heap world method args) s → EndsAt (code_run (lowered P) ask heap world method args) g → runs_of k g.ran ≡ times (mark_of counter) s.world.marks
  runs_as_counted heap world method args s g es eg =
      at_end (exec_with_marks ask (source_from P) heap world method args) (code_run (lowered P) ask heap world method args) (exec_unmarked Q W ask (source_from P) heap world method args ∙ keeps_meaning Q W P typed are_known ask heap world method args)
      (counted method (Ref 0 ∷ args) _ _ refl refl) s g es eg

-- each statement of the code runs as often as its counter tells
pub counts_are_runs : (Q W : Type 0) → CountsAreRuns Q W
counts_are_runs Q W P typed known numbers ask never heap world method args s g es eg number node c at kind counter = runs_as_counted Q W ask never P typed known numbers number c node at kind counter heap world method args s g es eg
