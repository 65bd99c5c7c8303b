-- What is counted of branches and loops.
use Rattle.std.proofs.Common.{◌≡◌, ℕ, zero, suc, ◌+◌, ◌≤◌, nat_lt, Bool, true, false, if◌then◌else◌, List, [], ◌∷◌, ◌++◌, length, refl, sym, ap, ◌∙◌, subst, le_of_eq, le_trans, arith}
use Rattle.px_value.specs.declared.value.Value.{Value}
use Rattle.px_value.specs.declared.thrown.Thrown.TheVariants.{TurnsOut}
use Rattle.px_value.specs.Outcome.{Outcome, Gives, Throws, then_run, ◌>>=◌, pure, throw, beside, on_shared, Flow, Goes, Returns, goes_on}
use Rattle.px_facts.specs.declared.checked.Checked.{Checked}
use Rattle.px_effects.specs.Run.{Shared, Ask, turn, max_turns}
use Rattle.px_mean.specs.Run.{Frame as SourceFrame, Here as SourceHere}
use Rattle.px_mean.specs.Expressions.{Calls as SourceCalls, is_true}
use Rattle.px_mean.specs.Statements as source
use Rattle.px_normal.specs.declared.node.Counter.{Counter}
use Rattle.px_normal.specs.declared.node.Counter.TheVariants.{Completed}
use Rattle.px_normal.specs.declared.word.Operand.{Operand}
use Rattle.px_normal.specs.declared.method.Tree.{Tree}
use Rattle.px_normal.specs.declared.method.Tree.TheVariants.{If, Loop}
use Rattle.px_normal.specs.declared.code.Code.{Code}
use Rattle.px_normal.specs.Run.{Frame, Here, with_ran, on_traced, noted}
use Rattle.px_normal.specs.Words.{operand}
use Rattle.px_normal.specs.CodeRun.{Calls, all_turns, tested, loop, body_run}
use Rattle.px_lowering.specs.declared.draft.Draft.{Draft}
use Rattle.px_lowering.specs.Emit.{Operated, node_at, noded, with_trees}
use Rattle.px_lowering.specs.Expressions.{Part, operand_at}
use Rattle.px_lowering.specs.Statements.{Steps, branched, loop_low}
use Rattle.px_counts.specs.Marks.{Marked}
use Rattle.px_counts.proofs.Unmarked.{unmarked_frame, unmarked_here, SameHere}
use Rattle.px_preservation.proofs.Meets.{Meets, meets_more}
use Rattle.px_preservation.proofs.Agree.{Agree, After, Shares, IsDone}
use Rattle.px_preservation.proofs.Afters.{agree_after, grown}
use Rattle.px_preservation.proofs.Runs.{run_if, run_loop, run_one}
use Rattle.px_preservation.proofs.Sequences.{Done}
use Rattle.px_counted.specs.Laws.{NeverThrows}
use Rattle.px_counted.proofs.Counts.{AreBehind, Counted, note_behind, counted_bind}
use Rattle.px_counted.proofs.Pieces.{same_rest, joined, known_front, grows_one, grows_then, hit_counter, from_one}
use Rattle.px_counted.proofs.Operands.{IsLate, CountsOperand, then_counts}
use Rattle.px_counted.proofs.Values.{M, F, H, R}
use Rattle.px_counted.proofs.Values as values
use Rattle.px_counted.proofs.Dones.{CountsDone}

module _ (Q W : Type 0) (ask : Ask Q W) (never : NeverThrows Q W ask) (P : Checked) (code : Code) (source_calls : SourceCalls Q W) (calls : Calls Q W) (n k : ℕ) (counter : Counter) where
  abbrev HereM : Type 0 → Type 0
  HereM A = M Q W ask never P code source_calls calls n k counter A

  abbrev DoesM : Type 0
  DoesM = HereM (Flow Value)

  abbrev Does : Type 0
  Does = SourceHere Q W (Flow Value)

  abbrev Fs : Draft → ℕ
  Fs o = F Q W ask never P code source_calls calls n k counter o

  abbrev Hs : ℕ → ℕ
  Hs node = H Q W ask never P code source_calls calls n k counter node

  abbrev Rs : {A : Type 0} → (high before after : ℕ) → HereM A → List Tree → Type 0
  Rs = R Q W ask never P code source_calls calls n k counter

  abbrev Op : (given id inner : ℕ) → HereM Value → SourceHere Q W Value → Draft → Operated → Type 0
  Op = CountsOperand Q W ask P code source_calls calls n k counter

  abbrev C : {A : Type 0} → Outcome Q (SourceFrame (Marked W)) A → Outcome Q (Frame W) (Flow Value) → Type 0
  C o p = Counted Q W k counter 0 o p

  abbrev run : List Tree → Frame W → Outcome Q (Frame W) (Flow Value)
  run = body_run code ask calls

  abbrev Plain : Does → Draft → Draft → Type 0
  Plain = IsDone Q W ask P code source_calls calls n

  abbrev Is : ℕ → DoesM → Draft → Draft → Type 0
  Is g r o o' = CountsDone Q W ask never P code source_calls calls n k counter (Flow Value) g r o o'

  -- a test that is noted
  abbrev noticed : ℕ → Frame W → Frame W
  noticed node c = record { locals = c.locals; shared = noted node [] [] c.shared }

  test_noted : (node : ℕ) (s : SourceFrame (Marked W)) (c : Frame W) → AreBehind Q W k counter (Hs node) s c → AreBehind Q W k counter 0 s (noticed node c)
  test_noted node s c j = note_behind Q W k counter (Hs node) 0 node [] [] s.shared c.shared (omega (arith)) j

  abbrev Agrees : SourceFrame (Marked W) → Frame W → Type 0
  Agrees s c = Agree W n (unmarked_frame Q W s) c

  -- ---- branches

  either : (b : Bool) (ry rn : DoesM) (ys ns : List Tree) (s : SourceFrame (Marked W)) (c : Frame W) → C (ry s) (run ys c) → C (rn s) (run ns c) → C ((if b then ry else rn) s) ((if b then run ys else run ns) c)
  either true ry rn ys ns s c y no' = y
  either false ry rn ys ns s c y no' = no'

  pub if_counts : (gt gy gn id inner test token : ℕ) (r : HereM Value) (r1 : SourceHere Q W Value) (ry rn : DoesM) (ry1 rn1 : Does) (o : Draft) (a : Operated) (yes' no' : Steps) → Op gt id inner r r1 o a → (counter ≡ Completed test → IsLate counter id inner) → n ≤ length o.slots
      → ((o : Draft) → n ≤ length o.slots → Plain ry1 o (yes' o)) → ((o : Draft) → n ≤ length o.slots → Plain rn1 o (no' o))
      → ((o : Draft) → n ≤ length o.slots → Is gy ry o (yes' o)) → ((o : Draft) → n ≤ length o.slots → Is gn rn o (no' o))
      → Is (gt + (gy + gn)) (r >>= (λ v. if is_true v then ry else rn)) o (branched P test yes' no' token a)
  if_counts gt gy gn id inner test token r r1 ry rn ry1 rn1 o a yes' no' i late le py pn dy dn =
      let one = node_at P a.out.method token (Completed test) in
      let node = length a.out.nodes + 1 in
      let y0 : Draft = with_trees [] (noded P token (Completed test) a.out) in
      let le1 : n ≤ length a.out.slots = le_trans le (grown o.slots a.out.slots i.plain.temps i.plain.slots_are) in
      let py0 = py y0 le1 in
      let cy = dy y0 le1 in
      let y = yes' y0 in
      let n0 : Draft = with_trees [] y in
      let le2 : n ≤ length n0.slots = le_trans le1 (grown a.out.slots y.slots py0.temps py0.slots_are) in
      let pn0 = pn n0 le2 in
      let cn = dn n0 le2 in
      let z = no' n0 in
      let tree = If node a.operand y.trees z.trees in
      let tests = grows_one Q W k counter gt o.nodes a.out.nodes one (Completed test) refl (λ e. i.late (late e)) i.grows in
      let both = grows_then Q W k counter gy gn (gy + gn) y0.nodes y.nodes z.nodes refl cy.grows cn.grows in
      record {
        grows = grows_then Q W k counter gt (gy + gn) (gt + (gy + gn)) o.nodes y0.nodes z.nodes refl tests both;
        counts = λ trees all known eq.
            let known2 = known_front Q W k counter y.nodes cn.grows.more z.nodes cn.grows.nodes_are known in
            let known1 = known_front Q W k counter y0.nodes cy.grows.more y.nodes cy.grows.nodes_are known2 in
            let known0 = known_front Q W k counter a.out.nodes (one ∷ []) y0.nodes refl known1 in
            let new = from_one Q W k counter a.out.nodes one in
            let most0 = tests.few known1 in
            let most1 = cy.grows.few known2 in
            let most2 = cn.grows.few known in
            let first : Fs a.out + Hs node ≡ Fs o + gt = omega (arith, new, most0, most1, most2, eq) in
            let second : Fs y ≡ Fs y0 + gy = omega (arith, most0, most1, most2, eq) in
            let third : Fs z ≡ Fs n0 + gn = omega (arith, most0, most1, most2, eq) in
            let up2 : length y.slots ≤ length z.slots = grown y.slots z.slots pn0.temps pn0.slots_are in
            let up1 : length a.out.slots ≤ length z.slots = le_trans (grown a.out.slots y.slots py0.temps py0.slots_are) up2 in
            values.with_trees Q W ask never P code source_calls calls n k counter (length z.slots) 0 0 (r >>= (λ v. if is_true v then ry else rn)) (i.plain.trees ++ tree ∷ []) trees
            (same_rest (a.out.trees ++ tree ∷ []) o.trees (i.plain.trees ++ tree ∷ []) trees (joined o.trees a.out.trees (a.out.trees ++ tree ∷ []) i.plain.trees (tree ∷ []) i.plain.trees_are refl) all)
            (then_counts Q W ask P code source_calls calls n k counter gt id inner r r1 o a i le known0 (Hs node) first (λ h. late (hit_counter Q W k counter a.out.nodes one (Completed test) refl known1 h)) (tree ∷ []) (λ v. if is_true v then ry else rn) 0 (length z.slots) up1
            (λ v s c value ag size j.
            let c2 : Frame W = noticed node c in
            let ag2 : Agrees s c2 = record { locals = ag.locals; shared = ag.shared } in
            let j2 = test_noted node s c j in
            let ran : run (tree ∷ []) c ≡ (if is_true v then run y.trees else run z.trees) c2 = run_one Q W code ask calls tree c ∙ ap (λ x. x c) (run_if Q W code ask calls node a.operand y.trees z.trees) ∙ ap (λ u. (if is_true u then run y.trees else run z.trees) c2) value in
            subst (λ (p : Outcome Q (Frame W) (Flow Value)). C ((if is_true v then ry else rn) s) p) (sym ran)
            (either (is_true v) ry rn y.trees z.trees s c2 (cy.counts y.trees refl known2 second s c2 ag2 (le_trans up2 size) j2) (cn.counts z.trees refl known third s c2 ag2 size j2))));
      }

  -- ---- turns

  turned_by : (k' : DoesM) (k1 : Here Q W (Flow Value)) (s : SourceFrame (Marked W)) (c : Frame W) → Agrees s c → AreBehind Q W k counter 0 s c
      → ((s' : SourceFrame (Marked W)) (c' : Frame W) → Agrees s' c' → length c'.locals ≡ length c.locals → AreBehind Q W k counter 0 s' c' → C (k' s') (k1 c'))
      → (b : Bool) → C (then_run (beside s.locals (if b then Gives (tt {0}) (record s.shared { turns = s.shared.turns + 1 }) else Throws TurnsOut s.shared)) (λ u. k')) (then_run (beside c.locals (with_ran c.shared.ran (if b then Gives (tt {0}) (record c.shared.shared { turns = c.shared.shared.turns + 1 }) else Throws TurnsOut c.shared.shared))) (λ u. k1))
  turned_by k' k1 s c ag j next true = next (record { locals = s.locals; shared = record s.shared { turns = s.shared.turns + 1 } }) (record { locals = c.locals; shared = record { shared = record c.shared.shared { turns = c.shared.shared.turns + 1 }; ran = c.shared.ran } })
      (record { locals = ag.locals; shared = ap (λ (x : Shared W). record x { turns = x.turns + 1 }) ag.shared }) refl j
  turned_by k' k1 s c ag j next false = j

  turn_counts : (k' : DoesM) (k1 : Here Q W (Flow Value)) (s : SourceFrame (Marked W)) (c : Frame W) → Agrees s c → AreBehind Q W k counter 0 s c
      → ((s' : SourceFrame (Marked W)) (c' : Frame W) → Agrees s' c' → length c'.locals ≡ length c.locals → AreBehind Q W k counter 0 s' c' → C (k' s') (k1 c'))
      → C ((on_shared turn >>= (λ u. k')) s) ((on_shared (on_traced turn) >>= (λ u. k1)) c)
  turn_counts k' k1 s c ag j next =
      subst (λ (m : ℕ). C (then_run (beside s.locals (if nat_lt m max_turns then Gives (tt {0}) (record s.shared { turns = s.shared.turns + 1 }) else Throws TurnsOut s.shared)) (λ u. k')) ((on_shared (on_traced turn) >>= (λ u. k1)) c)) (sym (ap (λ (x : Shared W). x.turns) ag.shared))
      (turned_by k' k1 s c ag j next (nat_lt c.shared.shared.turns max_turns))

  -- ---- loops

  abbrev Valued : Operand → Frame W → Value → SourceFrame W → Flow Value → Frame W → Type 0
  Valued a c v s' f c' = (f ≡ Goes) × Agree W n s' c' × (length c'.locals ≡ length c.locals) × (operand c'.locals a ≡ v)

  abbrev Ended : Frame W → Flow Value → SourceFrame W → Flow Value → Frame W → Type 0
  Ended c = Done Q W ask P code source_calls calls n c

  module _ (r : HereM Value) (rb : DoesM) (first body : List Tree) (node : ℕ) (a : Operand) (size : ℕ) where
    abbrev Tests : Type 0
    Tests = (s : SourceFrame (Marked W)) (c : Frame W) → Agrees s c → size ≤ length c.locals → Meets (unmarked_here Q W Value (r s)) (run first c) (Valued a c) (Shares W)

    abbrev TestsCount : Type 0
    TestsCount = (s : SourceFrame (Marked W)) (c : Frame W) → Agrees s c → size ≤ length c.locals → AreBehind Q W k counter 0 s c → Counted Q W k counter (Hs node) (r s) (run first c)

    abbrev Bodies : Type 0
    Bodies = (s : SourceFrame (Marked W)) (c : Frame W) → Agrees s c → size ≤ length c.locals → Meets (unmarked_here Q W (Flow Value) (rb s)) (run body c) (Ended c) (Shares W)

    abbrev BodiesCount : Type 0
    BodiesCount = (s : SourceFrame (Marked W)) (c : Frame W) → Agrees s c → size ≤ length c.locals → AreBehind Q W k counter 0 s c → C (rb s) (run body c)

    module _ (tests : Tests) (tests_count : TestsCount) (bodies : Bodies) (bodies_count : BodiesCount) where
      abbrev Goes_on : DoesM → Here Q W (Flow Value) → Type 0
      Goes_on k' k1 = (s : SourceFrame (Marked W)) (c : Frame W) → Agrees s c → size ≤ length c.locals → AreBehind Q W k counter 0 s c → C (k' s) (k1 c)

      -- behind the test: the turn, and then what follows
      tested_counts : (k' : Value → DoesM) (k1 : Value → Here Q W (Flow Value)) → ((v : Value) → Goes_on (k' v) (k1 v)) → Goes_on (r >>= (λ v. on_shared turn >>= (λ u. k' v))) (run first >>= goes_on (tested node a >>= (λ v. on_shared (on_traced turn) >>= (λ u. k1 v))))
      tested_counts k' k1 next s c ag room j =
          let after : Here Q W (Flow Value) = tested node a >>= (λ v. on_shared (on_traced turn) >>= (λ u. k1 v)) in
          counted_bind Q W k counter Value (Flow Value) (Flow Value) (Flow Value) (r s) (run first c) (Valued a c) (Shares W) (Hs node) 0 (λ v. on_shared turn >>= (λ u. k' v)) (goes_on after) (tests s c ag room) (tests_count s c ag room j)
          (λ v s1 f1 c1 q j1.
          let c2 : Frame W = noticed node c1 in
          let ag2 : Agrees s1 c2 = record { locals = q.1.locals; shared = q.1.shared } in
          let is : goes_on after f1 c1 ≡ (on_shared (on_traced turn) >>= (λ u. k1 v)) c2 = ap (λ x. goes_on after x c1) q.0 ∙ ap (λ z. (on_shared (on_traced turn) >>= (λ u. k1 z)) c2) q.3 in
          subst (λ (p : Outcome Q (Frame W) (Flow Value)). C ((on_shared turn >>= (λ u. k' v)) s1) p) (sym is)
          (turn_counts (k' v) (k1 v) s1 c2 ag2 (test_noted node s1 c1 j1) (λ s3 c3 ag3 same j3. next v s3 c3 ag3 (le_trans room (le_of_eq (sym (same ∙ q.2)))) j3)))

      again : (rest : DoesM) (rest1 : Here Q W (Flow Value)) → Goes_on rest rest1 → (f : Flow Value) → Goes_on (goes_on rest f) (goes_on rest1 f)
      again rest rest1 h Goes s c ag room j = h s c ag room j
      again rest rest1 h (Returns v) s c ag room j = j

      turns_on : (rest : DoesM) (rest1 : Here Q W (Flow Value)) → Goes_on rest rest1 → (b : Bool) → Goes_on (if b then rb >>= goes_on rest else pure Goes) (if b then run body >>= goes_on rest1 else pure Goes)
      turns_on rest rest1 h false s c ag room j = j
      turns_on rest rest1 h true s c ag room j =
          counted_bind Q W k counter (Flow Value) (Flow Value) (Flow Value) (Flow Value) (rb s) (run body c) (Ended c) (Shares W) 0 0 (goes_on rest) (goes_on rest1) (bodies s c ag room) (bodies_count s c ag room j)
          (λ f s1 f1 c1 q j1. subst (λ (x : Flow Value). C (goes_on rest f s1) (goes_on rest1 x c1)) (sym q.0) (again rest rest1 h f s1 c1 q.1 (le_trans room (le_of_eq (sym q.2))) j1))

      loop_counts : (turns : ℕ) → Goes_on (source.loop r rb turns) (loop (run first) (tested node a) (run body) turns)
      unfolding source.loop loop
      loop_counts zero s c ag room j = tested_counts (λ v. throw TurnsOut) (λ v. throw TurnsOut) (λ v s1 c1 ag1 room1 j1. j1) s c ag room j
      loop_counts (suc turns) s c ag room j =
          tested_counts (λ v. if is_true v then rb >>= goes_on (source.loop r rb turns) else pure Goes) (λ v. if is_true v then run body >>= goes_on (loop (run first) (tested node a) (run body) turns) else pure Goes)
          (λ v. turns_on (source.loop r rb turns) (loop (run first) (tested node a) (run body) turns) (loop_counts turns) (is_true v)) s c ag room j

  pub loop_done : (gt gb id inner token : ℕ) (r : HereM Value) (r1 : SourceHere Q W Value) (rb : DoesM) (rb1 : Does) (test : Part) (body : Steps) (o : Draft) → Op gt id inner r r1 (with_trees [] o) (operand_at P test (with_trees [] o)) → (counter ≡ Completed test.id → IsLate counter id inner) → n ≤ length o.slots
      → SameHere Q W (Flow Value) rb rb1 → ((o : Draft) → n ≤ length o.slots → Plain rb1 o (body o)) → ((o : Draft) → n ≤ length o.slots → Is gb rb o (body o))
      → Is (gt + gb) (source.loop r rb all_turns) o (loop_low P test body token o)
  loop_done gt gb id inner token r r1 rb rb1 test body o i late le same plain done =
      let a : Operated = operand_at P test (with_trees [] o) in
      let one = node_at P a.out.method token (Completed test.id) in
      let node = length a.out.nodes + 1 in
      let b0 : Draft = with_trees [] (noded P token (Completed test.id) a.out) in
      let le1 : n ≤ length a.out.slots = le_trans le (grown o.slots a.out.slots i.plain.temps i.plain.slots_are) in
      let pb = plain b0 le1 in
      let cb = done b0 le1 in
      let b = body b0 in
      let tree = Loop a.out.trees node a.operand b.trees in
      let tests = grows_one Q W k counter gt o.nodes a.out.nodes one (Completed test.id) refl (λ e. i.late (late e)) i.grows in
      record {
        grows = grows_then Q W k counter gt gb (gt + gb) o.nodes b0.nodes b.nodes refl tests cb.grows;
        counts = λ trees all known eq.
            let known1 = known_front Q W k counter b0.nodes cb.grows.more b.nodes cb.grows.nodes_are known in
            let known0 = known_front Q W k counter a.out.nodes (one ∷ []) b0.nodes refl known1 in
            let new = from_one Q W k counter a.out.nodes one in
            let most0 = tests.few known1 in
            let most1 = cb.grows.few known in
            let first : Fs a.out + Hs node ≡ Fs o + gt = omega (arith, new, most0, most1, eq) in
            let second : Fs b ≡ Fs b0 + gb = omega (arith, most0, most1, eq) in
            let up : length a.out.slots ≤ length b.slots = grown a.out.slots b.slots pb.temps pb.slots_are in
            let runs : Rs (length b.slots) 0 0 (source.loop r rb all_turns) (tree ∷ []) = λ s c ag size j.
            subst (λ (p : Outcome Q (Frame W) (Flow Value)). C (source.loop r rb all_turns s) p) (sym (run_one Q W code ask calls tree c ∙ ap (λ x. x c) (run_loop Q W code ask calls a.out.trees node a.operand b.trees)))
            (loop_counts r rb a.out.trees b.trees node a.operand (length b.slots)
            (λ s c ag size.
            let m = subst (λ (ts : List Tree). Meets (r1 (unmarked_frame Q W s)) (run ts c) (λ v s' f c'. (f ≡ Goes) × After W (length o.slots) (unmarked_frame Q W s) s' c c' × (operand c'.locals a.operand ≡ v)) (Shares W)) (sym i.plain.trees_are) (i.plain.meets (unmarked_frame Q W s) c ag (le_trans up size)) in
            subst (λ (y : Outcome Q (SourceFrame W) Value). Meets y (run a.out.trees c) (Valued a.operand c) (Shares W)) (sym (i.same.at s))
            (meets_more (r1 (unmarked_frame Q W s)) (run a.out.trees c) _ (Shares W) (Valued a.operand c) (Shares W) m (λ v s1 f c1 q. (q.0, agree_after W n (length o.slots) (unmarked_frame Q W s) s1 c c1 le ag q.1, q.1.size, q.2)) (λ s c e. e)))
            (λ s c ag size j. subst (λ (ts : List Tree). Counted Q W k counter (Hs node) (r s) (run ts c)) (sym i.plain.trees_are) (i.counts known0 (Hs node) first (λ h. late (hit_counter Q W k counter a.out.nodes one (Completed test.id) refl known1 h)) s c ag (le_trans up size) j))
            (λ s c ag size.
            let m = subst (λ (ts : List Tree). Meets (rb1 (unmarked_frame Q W s)) (run ts c) (Ended c) (Shares W)) (sym pb.trees_are) (pb.meets (unmarked_frame Q W s) c ag size) in
            subst (λ (y : Outcome Q (SourceFrame W) (Flow Value)). Meets y (run b.trees c) (Ended c) (Shares W)) (sym (same.at s)) m)
            (λ s c ag size j. cb.counts b.trees refl known second s c ag size j)
            all_turns s c ag size j) in
            values.with_trees Q W ask never P code source_calls calls n k counter (length b.slots) 0 0 (source.loop r rb all_turns) (tree ∷ []) trees (same_rest (o.trees ++ tree ∷ []) o.trees (tree ∷ []) trees refl all) runs;
      }
