-- Branches and loops.
use Rattle.std.proofs.Common.{◌≡◌, ℕ, zero, suc, ◌+◌, ◌≤◌, Bool, true, false, if◌then◌else◌, List, [], ◌∷◌, ◌++◌, length, slice_get, refl, sym, ap, ◌∙◌, subst, le_of_eq, le_trans}
use Rattle.px_value.specs.declared.value.Value.{Value}
use Rattle.px_value.specs.declared.thrown.Thrown.TheVariants.{TurnsOut}
use Rattle.px_value.specs.Outcome.{Outcome, Gives, Throws, Asks, Run, ◌>>=◌, pure, throw, beside, on_shared, Flow, Goes, Returns, goes_on}
use Rattle.px_facts.specs.declared.checked.Checked.{Checked}
use Rattle.px_effects.specs.Run.{Shared, Ask, turn}
use Rattle.px_mean.specs.Run.{Frame as SourceFrame, Here as SourceHere}
use Rattle.px_mean.specs.Expressions.{Calls as SourceCalls, is_true}
use Rattle.px_mean.specs.Statements as source
use Rattle.px_normal.specs.declared.word.Operand.{Operand}
use Rattle.px_normal.specs.declared.node.Counter.TheVariants.{Completed}
use Rattle.px_normal.specs.declared.method.Tree.{Tree}
use Rattle.px_normal.specs.declared.method.Tree.TheVariants.{If, Loop}
use Rattle.px_normal.specs.declared.code.Code.{Code}
use Rattle.px_normal.specs.Run.{Frame, Here, Ran, with_ran, on_traced, noted}
use Rattle.px_normal.specs.Words.{operand}
use Rattle.px_normal.specs.CodeRun.{Calls, all_turns, tested, loop, body_run}
use Rattle.px_lowering.specs.declared.draft.Draft.{Draft}
use Rattle.px_lowering.specs.Emit.{Operated, noded, with_trees}
use Rattle.px_lowering.specs.Expressions.{Part, operand_at}
use Rattle.px_lowering.specs.Statements.{Steps, branched, loop_low}
use Rattle.px_preservation.proofs.Meets.{Meets, meets_at, meets_bind, meets_more}
use Rattle.px_preservation.proofs.Agree.{Agree, Shares, IsDone}
use Rattle.px_preservation.proofs.Operands.{IsOperand}
use Rattle.px_preservation.proofs.Runs.{run_if, run_loop, run_one}
use Rattle.px_preservation.proofs.Afters.{agree_after, behind, grown}
use Rattle.px_preservation.proofs.Sequences.{Done, then_operand}

module _ (Q W : Type 0) (ask : Ask Q W) (P : Checked) (code : Code) (source_calls : SourceCalls Q W) (calls : Calls Q W) (n : ℕ) where
  abbrev Behind : Frame W → Flow Value → SourceFrame W → Flow Value → Frame W → Type 0
  Behind c = Done Q W ask P code source_calls calls n c

  abbrev runs : List Tree → Here Q W (Flow Value)
  runs ts = body_run code ask calls ts

  -- a test that is noted
  abbrev noticed : ℕ → Frame W → Frame W
  noticed node c = record { locals = c.locals; shared = noted node [] [] c.shared }

  -- ---- branches

  either : (b : Bool) (ry rn : SourceHere Q W (Flow Value)) (ys ns : List Tree) (s : SourceFrame W) (c : Frame W) → Meets (ry s) (runs ys c) (Behind c) (Shares W) → Meets (rn s) (runs ns c) (Behind c) (Shares W) → Meets ((if b then ry else rn) s) ((if b then runs ys else runs ns) c) (Behind c) (Shares W)
  either true ry rn ys ns s c y no' = y
  either false ry rn ys ns s c y no' = no'

  pub if_done : (r : SourceHere Q W Value) (ry rn : SourceHere Q W (Flow Value)) (o : Draft) (a : Operated) (yes' no' : Steps) (test token : ℕ) → n ≤ length o.slots → IsOperand Q W ask P code source_calls calls n r o a
      → ((o : Draft) → n ≤ length o.slots → IsDone Q W ask P code source_calls calls n ry o (yes' o)) → ((o : Draft) → n ≤ length o.slots → IsDone Q W ask P code source_calls calls n rn o (no' o))
      → IsDone Q W ask P code source_calls calls n (r >>= (λ v. if is_true v then ry else rn)) o (branched P test yes' no' token a)
  if_done r ry rn o a yes' no' test token le i dy dn =
      let y0 : Draft = with_trees [] (noded P token (Completed test) a.out) in
      let le1 : n ≤ length a.out.slots = le_trans le (grown o.slots a.out.slots i.temps i.slots_are) in
      let iy = dy y0 le1 in
      let n0 : Draft = with_trees [] (yes' y0) in
      let le2 : n ≤ length n0.slots = le_trans le1 (grown a.out.slots (yes' y0).slots iy.temps iy.slots_are) in
      let no_is = dn n0 le2 in
      let node = length a.out.nodes + 1 in
      let ys = (yes' y0).trees in
      let ns = (no' n0).trees in
      record {
        trees = i.trees ++ If node a.operand ys ns ∷ [];
        temps = i.temps ++ (iy.temps ++ no_is.temps);
        trees_are = behind o.trees a.out.trees (a.out.trees ++ If node a.operand ys ns ∷ []) i.trees (If node a.operand ys ns ∷ []) i.trees_are refl;
        slots_are = behind o.slots a.out.slots (no' n0).slots i.temps (iy.temps ++ no_is.temps) i.slots_are (behind a.out.slots (yes' y0).slots (no' n0).slots iy.temps no_is.temps iy.slots_are no_is.slots_are);
        method_is = no_is.method_is ∙ iy.method_is ∙ i.method_is;
        meets = λ s c g size.
            let size2 : length (yes' y0).slots ≤ length c.locals = le_trans (grown (yes' y0).slots (no' n0).slots no_is.temps no_is.slots_are) size in
            let size1 : length a.out.slots ≤ length c.locals = le_trans (grown a.out.slots (yes' y0).slots iy.temps iy.slots_are) size2 in
            then_operand Q W ask P code source_calls calls n r o a i le (If node a.operand ys ns ∷ []) (λ v. if is_true v then ry else rn) (Behind c) s c g size1
            (λ v s1 c1 g1 a1 e1.
            let c2 : Frame W = noticed node c1 in
            let g2 : Agree W n s1 c2 = record { locals = g1.locals; shared = g1.shared } in
            let my = meets_at (ry s1) (runs ys c2) (runs iy.trees c2) (Behind c2) (Shares W) (ap (λ ts. runs ts c2) iy.trees_are) (iy.meets s1 c2 g2 (le_trans size2 (le_of_eq (sym a1.size)))) in
            let mn = meets_at (rn s1) (runs ns c2) (runs no_is.trees c2) (Behind c2) (Shares W) (ap (λ ts. runs ts c2) no_is.trees_are) (no_is.meets s1 c2 g2 (le_trans size (le_of_eq (sym a1.size)))) in
            let ran : runs (If node a.operand ys ns ∷ []) c1 ≡ (if is_true v then runs ys else runs ns) c2 = run_one Q W code ask calls (If node a.operand ys ns) c1 ∙ ap (λ x. x c1) (run_if Q W code ask calls node a.operand ys ns) ∙ ap (λ z. (if is_true z then runs ys else runs ns) c2) e1 in
            meets_at ((if is_true v then ry else rn) s1) (runs (If node a.operand ys ns ∷ []) c1) ((if is_true v then runs ys else runs ns) c2) (Behind c) (Shares W) ran
            (meets_more ((if is_true v then ry else rn) s1) ((if is_true v then runs ys else runs ns) c2) (Behind c2) (Shares W) (Behind c) (Shares W) (either (is_true v) ry rn ys ns s1 c2 my mn) (λ f s3 f3 c3 q. (q.0, q.1, q.2 ∙ a1.size)) (λ s c e. e)));
      }

  -- ---- turns

  -- nothing but what frames share changes, and that in the same way
  abbrev Turned : List Value → List Value → Unit {0} → SourceFrame W → Unit {0} → Frame W → Type 0
  Turned ls lc u s' u' c' = (s'.locals ≡ ls) × (c'.locals ≡ lc) × Shares W s' c'

  turned : (ls lc : List Value) (ran : List Ran) (o : Outcome Q (Shared W) (Unit {0})) → Meets (beside ls o) (beside lc (with_ran ran o)) (Turned ls lc) (Shares W)
  turned ls lc ran (Gives u g) = (u, record { locals = ls; shared = g }, refl, (refl, refl, refl))
  turned ls lc ran (Throws t g) = (record { locals = ls; shared = g }, refl, refl)
  turned ls lc ran (Asks q g) = (record { locals = ls; shared = g }, refl, refl)

  turn_meets : (s : SourceFrame W) (c : Frame W) → Shares W s c → Meets (on_shared (turn {Q = Q}) s) (on_shared (on_traced turn) c) (Turned s.locals c.locals) (Shares W)
  turn_meets s c h = subst (λ (z : Shared W). Meets (beside s.locals (turn {Q = Q} z)) (on_shared (on_traced turn) c) (Turned s.locals c.locals) (Shares W)) (sym h) (turned s.locals c.locals c.shared.ran (turn c.shared.shared))

  -- ---- loops

  module _ (r : SourceHere Q W Value) (rb : SourceHere Q W (Flow Value)) (first body : List Tree) (node : ℕ) (a : Operand) (size : ℕ) where
    abbrev Tests : Type 0
    Tests = (s : SourceFrame W) (c : Frame W) → Agree W n s c → size ≤ length c.locals → Meets (r s) (runs first c) (λ v s' f c'. (f ≡ Goes) × Agree W n s' c' × (length c'.locals ≡ length c.locals) × (operand c'.locals a ≡ v)) (Shares W)

    abbrev Bodies : Type 0
    Bodies = (s : SourceFrame W) (c : Frame W) → Agree W n s c → size ≤ length c.locals → Meets (rb s) (runs body c) (Behind c) (Shares W)

    module _ (tests : Tests) (bodies : Bodies) where
      -- behind the test: the turn, and then what follows
      counted : (k : Value → SourceHere Q W (Flow Value)) (k' : Value → Here Q W (Flow Value)) (c0 : Frame W) (v : Value) (s : SourceFrame W) (f : Flow Value) (c : Frame W) → f ≡ Goes → Agree W n s c → length c.locals ≡ length c0.locals → operand c.locals a ≡ v
          → ((s : SourceFrame W) (c : Frame W) → Agree W n s c → length c.locals ≡ length c0.locals → Meets (k v s) (k' v c) (Behind c0) (Shares W))
          → Meets ((on_shared turn >>= (λ u. k v)) s) (goes_on (tested node a >>= (λ v. on_shared (on_traced turn) >>= (λ u. k' v))) f c) (Behind c0) (Shares W)
      counted k k' c0 v s f c e g sz is h =
          let after : Run Q (Frame W) (Flow Value) = tested node a >>= (λ v. on_shared (on_traced turn) >>= (λ u. k' v)) in
          let c2 : Frame W = noticed node c in
          meets_at ((on_shared turn >>= (λ u. k v)) s) (goes_on after f c) ((on_shared (on_traced turn) >>= (λ u. k' v)) c2) (Behind c0) (Shares W) (ap (λ x. goes_on after x c) e ∙ ap (λ z. (on_shared (on_traced turn) >>= (λ u. k' z)) c2) is)
          (meets_bind (on_shared turn s) (on_shared (on_traced turn) c2) (Turned s.locals c2.locals) (Shares W) (λ u. k v) (λ u. k' v) (Behind c0) (Shares W) (turn_meets s c2 g.shared)
          (λ u s1 u' c1 q. h s1 c1 (record { locals = λ j l. ap (λ ls. slice_get ls j) q.0 ∙ g.locals j l ∙ sym (ap (λ ls. slice_get ls j) q.1); shared = q.2 }) (ap length q.1 ∙ sz)) (λ s c e. e))

      again : (rest : SourceHere Q W (Flow Value)) (rest' : Here Q W (Flow Value)) (c0 : Frame W) → ((s : SourceFrame W) (c : Frame W) → Agree W n s c → length c.locals ≡ length c0.locals → Meets (rest s) (rest' c) (Behind c0) (Shares W))
          → (f : Flow Value) (s : SourceFrame W) (c : Frame W) → Agree W n s c → length c.locals ≡ length c0.locals → Meets (goes_on rest f s) (goes_on rest' f c) (Behind c0) (Shares W)
      again rest rest' c0 h Goes s c g sz = h s c g sz
      again rest rest' c0 h (Returns v) s c g sz = (Returns v, s, refl, (refl, g, sz))

      turns_on : (rest : SourceHere Q W (Flow Value)) (rest' : Here Q W (Flow Value)) (c0 : Frame W) → size ≤ length c0.locals → ((s : SourceFrame W) (c : Frame W) → Agree W n s c → length c.locals ≡ length c0.locals → Meets (rest s) (rest' c) (Behind c0) (Shares W))
          → (b : Bool) (s : SourceFrame W) (c : Frame W) → Agree W n s c → length c.locals ≡ length c0.locals → Meets ((if b then rb >>= goes_on rest else pure Goes) s) ((if b then runs body >>= goes_on rest' else pure Goes) c) (Behind c0) (Shares W)
      turns_on rest rest' c0 room h false s c g sz = (Goes, s, refl, (refl, g, sz))
      turns_on rest rest' c0 room h true s c g sz = meets_bind (rb s) (runs body c) (Behind c) (Shares W) (goes_on rest) (goes_on rest') (Behind c0) (Shares W) (bodies s c g (le_trans room (le_of_eq (sym sz))))
          (λ f s1 f1 c1 q. meets_at (goes_on rest f s1) (goes_on rest' f1 c1) (goes_on rest' f c1) (Behind c0) (Shares W) (ap (λ x. goes_on rest' x c1) q.0) (again rest rest' c0 h f s1 c1 q.1 (q.2 ∙ sz))) (λ s c e. e)

      loop_meets : (turns : ℕ) (c0 : Frame W) → size ≤ length c0.locals → (s : SourceFrame W) (c : Frame W) → Agree W n s c → length c.locals ≡ length c0.locals → Meets (source.loop r rb turns s) (loop (runs first) (tested node a) (runs body) turns c) (Behind c0) (Shares W)
      unfolding source.loop loop
      loop_meets zero c0 room s c g sz = meets_bind (r s) (runs first c) _ (Shares W) (λ v. on_shared turn >>= (λ u. throw TurnsOut)) (goes_on (tested node a >>= (λ v. on_shared (on_traced turn) >>= (λ u. throw TurnsOut)))) (Behind c0) (Shares W) (tests s c g (le_trans room (le_of_eq (sym sz))))
          (λ v s1 f c1 q. counted (λ v. throw TurnsOut) (λ v. throw TurnsOut) c0 v s1 f c1 q.0 q.1 (q.2 ∙ sz) q.3 (λ s2 c2 g2 sz2. (s2, refl, g2.shared))) (λ s c e. e)
      loop_meets (suc turns) c0 room s c g sz =
          let rest = source.loop r rb turns in
          let rest' = loop (runs first) (tested node a) (runs body) turns in
          let k : Value → SourceHere Q W (Flow Value) = λ v. if is_true v then rb >>= goes_on rest else pure Goes in
          let k' : Value → Here Q W (Flow Value) = λ v. if is_true v then runs body >>= goes_on rest' else pure Goes in
          meets_bind (r s) (runs first c) _ (Shares W) (λ v. on_shared turn >>= (λ u. k v)) (goes_on (tested node a >>= (λ v. on_shared (on_traced turn) >>= (λ u. k' v)))) (Behind c0) (Shares W) (tests s c g (le_trans room (le_of_eq (sym sz))))
          (λ v s1 f c1 q. counted k k' c0 v s1 f c1 q.0 q.1 (q.2 ∙ sz) q.3 (λ s2 c2 g2 sz2. turns_on rest rest' c0 room (loop_meets turns c0 room) (is_true v) s2 c2 g2 sz2)) (λ s c e. e)

  pub loop_done : (r : SourceHere Q W Value) (rb : SourceHere Q W (Flow Value)) (test : Part) (body : Steps) (token : ℕ) (o : Draft) → n ≤ length o.slots → IsOperand Q W ask P code source_calls calls n r (with_trees [] o) (operand_at P test (with_trees [] o))
      → ((o : Draft) → n ≤ length o.slots → IsDone Q W ask P code source_calls calls n rb o (body o))
      → IsDone Q W ask P code source_calls calls n (source.loop r rb all_turns) o (loop_low P test body token o)
  loop_done r rb test body token o le i done =
      let a : Operated = operand_at P test (with_trees [] o) in
      let b0 : Draft = with_trees [] (noded P token (Completed test.id) a.out) in
      let le1 : n ≤ length a.out.slots = le_trans le (grown o.slots a.out.slots i.temps i.slots_are) in
      let ib = done b0 le1 in
      let first = a.out.trees in
      let bs = (body b0).trees in
      let node = length a.out.nodes + 1 in
      let up : length a.out.slots ≤ length (body b0).slots = grown a.out.slots (body b0).slots ib.temps ib.slots_are in
      record {
        trees = Loop first node a.operand bs ∷ [];
        temps = i.temps ++ ib.temps;
        trees_are = refl;
        slots_are = behind o.slots a.out.slots (body b0).slots i.temps ib.temps i.slots_are ib.slots_are;
        method_is = ib.method_is ∙ i.method_is;
        meets = λ s c g size.
            let ran : runs (Loop first node a.operand bs ∷ []) c ≡ loop (runs first) (tested node a.operand) (runs bs) all_turns c = run_one Q W code ask calls (Loop first node a.operand bs) c ∙ ap (λ x. x c) (run_loop Q W code ask calls first node a.operand bs) in
            meets_at (source.loop r rb all_turns s) (runs (Loop first node a.operand bs ∷ []) c) (loop (runs first) (tested node a.operand) (runs bs) all_turns c) (Behind c) (Shares W) ran
            (loop_meets r rb first bs node a.operand (length (body b0).slots)
            (λ s c g size. meets_at (r s) (runs first c) (runs i.trees c) _ (Shares W) (ap (λ ts. runs ts c) i.trees_are)
            (meets_more (r s) (runs i.trees c) _ (Shares W) _ (Shares W) (i.meets s c g (le_trans up size)) (λ v s1 f c1 q. (q.0, agree_after W n (length o.slots) s s1 c c1 le g q.1, q.1.size, q.2)) (λ s c e. e)))
            (λ s c g size. meets_at (rb s) (runs bs c) (runs ib.trees c) (Behind c) (Shares W) (ap (λ ts. runs ts c) ib.trees_are) (ib.meets s c g size))
            all_turns c size s c g refl);
      }
