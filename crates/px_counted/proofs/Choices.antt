-- What is counted of `&&` and `||`.
use Rattle.std.proofs.Common.{◌≡◌, ℕ, ◌+◌, ◌≤◌, Bool, true, false, not, if◌then◌else◌, List, [], ◌∷◌, ◌++◌, length, append_assoc, Option, Some, unwrap_or, refl, sym, ap, ◌∙◌, subst, arith}
use Rattle.px_value.specs.declared.value.Value.{Value}
use Rattle.px_value.specs.declared.value.Value.TheVariants.{Int, Long, Bool as Truth, Text, Null, Ref}
use Rattle.px_value.specs.Outcome.{Outcome, Gives, ◌>>=◌, pure, Flow, Goes}
use Rattle.px_facts.specs.declared.checked.Checked.{Checked}
use Rattle.px_effects.specs.Run.{Ask}
use Rattle.px_mean.specs.Run.{Frame as SourceFrame, Here as SourceHere}
use Rattle.px_mean.specs.Expressions.{Calls as SourceCalls, is_true}
use Rattle.px_normal.specs.declared.ty.Ty.TheVariants as ty
use Rattle.px_normal.specs.declared.node.Counter.{Counter}
use Rattle.px_normal.specs.declared.node.Counter.TheVariants.{Completed}
use Rattle.px_normal.specs.declared.word.Operand.{Operand}
use Rattle.px_normal.specs.declared.word.Operand.TheVariants.{Slot}
use Rattle.px_normal.specs.declared.method.Tree.{Tree}
use Rattle.px_normal.specs.declared.method.Tree.TheVariants.{If}
use Rattle.px_normal.specs.declared.code.Code.{Code}
use Rattle.px_normal.specs.Run.{Frame, noted}
use Rattle.px_normal.specs.Words.{operand}
use Rattle.px_normal.specs.Words as code_words
use Rattle.px_normal.specs.CodeRun.{Calls, body_run}
use Rattle.px_lowering.specs.declared.draft.Draft.{Draft}
use Rattle.px_lowering.specs.declared.valued.Had.{Had}
use Rattle.px_lowering.specs.declared.valued.Had.TheVariants.{Held, Chosen, Made}
use Rattle.px_lowering.specs.Emit.{Lasted, Operated, Temped, node_at, noded, with_trees, operated, temped, temp_of, slotted, slot_of}
use Rattle.px_lowering.specs.Expressions.{Part, choice, choice_low}
use Rattle.px_counts.specs.Marks.{Marked}
use Rattle.px_counts.proofs.Unmarked.{unmarked_frame, SameHere}
use Rattle.px_preservation.proofs.Meets.{meets_more}
use Rattle.px_preservation.proofs.Agree.{Agree, After, Wrote, Shares, CallsMeet, IsLowered}
use Rattle.px_preservation.proofs.Afters.{behind, grown, one_more, wrote_above}
use Rattle.px_preservation.proofs.Runs.{run_one, run_if}
use Rattle.px_preservation.proofs.Operands.{IsOperand, IsSlotted, slotted_is}
use Rattle.px_counted.specs.Laws.{NeverThrows}
use Rattle.px_counted.proofs.Counts.{Counted, note_behind}
use Rattle.px_counted.proofs.Pieces.{same_rest, known_front, grows_one, grows_then, grows_more, grows_up, hit_counter, from_one}
use Rattle.px_counted.proofs.Shares.{last_of}
use Rattle.px_counted.proofs.Operands.{own, CountsLowered, CountsOperand, then_counts, operand_counts, marked_runs, runs_more}
use Rattle.px_counted.proofs.Values.{M, F, H, R, marked, begins, completes, late_once, from_zero}
use Rattle.px_counted.proofs.Values as values
use Rattle.px_counted.proofs.Fits.{then_gives}
use Rattle.px_counted.proofs.Slots.{copied, counts_slot}

same_true : (v : Value) → code_words.is_true v ≡ is_true v
same_true (Int i) = refl
same_true (Long i) = refl
same_true (Truth b) = refl
same_true (Text bytes) = refl
same_true (Ref object) = refl
same_true Null = refl

module _ (Q W : Type 0) (ask : Ask Q W) (never : NeverThrows Q W ask) (P : Checked) (code : Code) (source_calls : SourceCalls Q W) (calls : Calls Q W) (n k : ℕ) (counter : Counter) (met : CallsMeet Q W ask P code source_calls calls n) where
  abbrev HereM : Type 0 → Type 0
  HereM A = M Q W ask never P code source_calls calls n k counter A

  abbrev Fs : Draft → ℕ
  Fs o = F Q W ask never P code source_calls calls n k counter o

  abbrev Hs : ℕ → ℕ
  Hs node = H Q W ask never P code source_calls calls n k counter node

  abbrev Rs : {A : Type 0} → (high before after : ℕ) → HereM A → List Tree → Type 0
  Rs = R Q W ask never P code source_calls calls n k counter

  abbrev Op : (given id inner : ℕ) → HereM Value → SourceHere Q W Value → Draft → Operated → Type 0
  Op = CountsOperand Q W ask P code source_calls calls n k counter

  abbrev Low : (given id : ℕ) → HereM Value → SourceHere Q W Value → Draft → Lasted → Type 0
  Low = CountsLowered Q W ask P code source_calls calls n k counter

  abbrev Plain : SourceHere Q W Value → Draft → Lasted → Type 0
  Plain = IsLowered Q W ask P code source_calls calls n

  abbrev marks_of : ℕ → HereM Value → HereM Value
  marks_of id r = marked Q W ask never P code source_calls calls n k counter id r

  abbrev B : ℕ → ℕ
  B id = begins Q W ask never P code source_calls calls n k counter id

  abbrev D : ℕ → ℕ
  D id = completes Q W ask never P code source_calls calls n k counter id

  abbrev run : List Tree → Frame W → Outcome Q (Frame W) (Flow Value)
  run = body_run code ask calls

  -- ---- the left operand in its temporary

  abbrev as_operand : Temped → Operated
  as_operand x = record { out = x.out; operand = Slot x.temp }

  -- a copy in a temporary, as an operand
  copy_operand : (r : SourceHere Q W Value) (o out : Draft) (for vid token : ℕ) (a : Operand) → length o.slots ≤ length out.slots → IsSlotted Q W ask P code source_calls calls n r (length out.slots) o (slotted P (length out.slots) for vid token (Held a) out) → IsOperand Q W ask P code source_calls calls n r o (as_operand (temped P for vid token (Held a) out))
  copy_operand r o out for vid token a wide h =
      let slot = length out.slots in
      record {
        trees = h.trees;
        temps = h.temps ++ ty.Bool ∷ [];
        trees_are = h.trees_are;
        slots_are = behind o.slots out.slots (out.slots ++ ty.Bool ∷ []) h.temps (ty.Bool ∷ []) h.slots_are refl;
        method_is = h.method_is;
        below = one_more out.slots ty.Bool;
        meets = λ s c ag l.
            let x = one_more out.slots ty.Bool in
            meets_more (r s) (run h.trees c) (λ v s' f c'. (f ≡ Goes) × Wrote W (length o.slots) (Some slot) v s s' c c') (Shares W) (λ v s' f c'. (f ≡ Goes) × After W (length o.slots) s s' c c' × (operand c'.locals (Slot slot) ≡ v)) (Shares W) (h.meets s c ag (omega (arith, x, l)))
            (λ v s' f c' q. (q.0, wrote_above W (length o.slots) slot v s s' c c' wide q.1, ap (λ (u : Option Value). unwrap_or u Null) (q.1.written slot refl (omega (arith, x, l)))))
            (λ s' c' q. q);
      }

  temped_by : (g id vid : ℕ) (r : HereM Value) (r1 : SourceHere Q W Value) (o out : Draft) (for token : ℕ) (had : Had) → n ≤ length o.slots → length o.slots ≤ length out.slots → Op g id vid r r1 o (operated P token had out) → IsSlotted Q W ask P code source_calls calls n r1 (length out.slots) o (slotted P (length out.slots) for vid token had out) → Op g id vid r r1 o (as_operand (temped P for vid token had out))
  unfolding copy_operand
  temped_by g id vid r r1 o out for token (Held a) above wide i h =
      let plain = copy_operand r1 o out for vid token a wide h in
      let part = copied Q W ask never P code source_calls calls n k counter g id vid r r1 o (record { out = out; operand = a }) for (length out.slots) h.trees i above h.trees_are in
      record {
        same = i.same;
        plain = plain;
        grows = part.grows;
        late = i.late;
        counts = λ known e eq l.
            let x = one_more out.slots ty.Bool in
            runs_more Q W ask P code source_calls calls n k counter (length out.slots) (length (out.slots ++ ty.Bool ∷ [])) 0 e r h.trees (omega (arith, x)) (part.counts known e eq l);
      }
  temped_by g id vid r r1 o out for token (Chosen slot) above wide i h = i
  temped_by g id vid r r1 o out for token (Made x t y) above wide i h = i

  temp_counts : (g id : ℕ) (r : HereM Value) (r1 : SourceHere Q W Value) (o : Draft) (l : Lasted) (for : ℕ) → n ≤ length o.slots → Low g id r r1 o l → Op g id l.value.id r r1 o (as_operand (temp_of P for l))
  temp_counts g id r r1 o l for above h =
      temped_by g id l.value.id r r1 o l.out for l.value.token l.value.had above (grown o.slots l.out.slots h.plain.temps h.plain.slots_are) (operand_counts Q W ask P code source_calls calls n k counter g id r r1 o l h)
      (slotted_is Q W ask P code source_calls calls n met r1 o l (length l.out.slots) for h.plain)

  -- ---- one branch or the other

  -- what is done behind the left operand
  abbrev pub pick : Bool → Value → HereM Value → HereM Value
  pick true v r = if not (is_true v) then pure v else r
  pick false v r = if is_true v then pure v else r

  abbrev by_test : Bool → Bool → List Tree → Frame W → Outcome Q (Frame W) (Flow Value)
  by_test true b ts c = (if b then run ts else run []) c
  by_test false b ts c = (if b then run [] else run ts) c

  choice_run : (both : Bool) (node slot : ℕ) (ts : List Tree) (c : Frame W) → run (choice both node slot ts ∷ []) c ≡ by_test both (is_true (operand c.locals (Slot slot))) ts (record c { shared = noted node [] [] c.shared })
  choice_run true node slot ts c =
      run_one Q W code ask calls (If node (Slot slot) ts []) c ∙ (λ i. run_if Q W code ask calls node (Slot slot) ts [] i c)
      ∙ (λ i. (if same_true (operand c.locals (Slot slot)) i then run ts else run []) (record c { shared = noted node [] [] c.shared }))
  choice_run false node slot ts c =
      run_one Q W code ask calls (If node (Slot slot) [] ts) c ∙ (λ i. run_if Q W code ask calls node (Slot slot) [] ts i c)
      ∙ (λ i. (if same_true (operand c.locals (Slot slot)) i then run [] else run ts) (record c { shared = noted node [] [] c.shared }))

  abbrev C : Outcome Q (SourceFrame (Marked W)) Value → Outcome Q (Frame W) (Flow Value) → Type 0
  C o p = Counted Q W k counter 0 o p

  picked : (both b : Bool) (v : Value) (r : HereM Value) (ts : List Tree) (s : SourceFrame (Marked W)) (c : Frame W) → b ≡ is_true v → C (r s) (run ts c) → C (Gives v s) (run [] c) → C (pick both v r s) (by_test both b ts c)
  picked true true v r ts s c e x y = subst (λ (z : Bool). C ((if not z then pure v else r) s) (run ts c)) e x
  picked true false v r ts s c e x y = subst (λ (z : Bool). C ((if not z then pure v else r) s) (run [] c)) e y
  picked false true v r ts s c e x y = subst (λ (z : Bool). C ((if z then pure v else r) s) (run [] c)) e y
  picked false false v r ts s c e x y = subst (λ (z : Bool). C ((if z then pure v else r) s) (run ts c)) e x

  pub counts_choice : (both : Bool) (g1 g2 id token : ℕ) (rl rr : HereM Value) (rl1 rr1 r' : SourceHere Q W Value) (o : Draft) (l r : Part) → n ≤ length o.slots → Low g1 l.id rl rl1 o (l.lower o) → ((o' : Draft) → n ≤ length o'.slots → Low g2 r.id rr rr1 o' (r.lower o')) → SameHere Q W Value (marks_of id (rl >>= (λ v. pick both v (rr >>= pure)))) r' → Plain r' o (choice_low P both l r id token o) → (B id + D id) + (g1 + g2) ≤ 1
      → Low ((B id + D id) + (g1 + g2)) id (marks_of id (rl >>= (λ v. pick both v (rr >>= pure)))) r' o (choice_low P both l r id token o)
  counts_choice both g1 g2 id token rl rr rl1 rr1 r' o l r above hl hr same plain few =
      let T = temp_of P token (l.lower o) in
      let vid = (l.lower o).value.id in
      let i : Op g1 l.id vid rl rl1 o (as_operand T) = temp_counts g1 l.id rl rl1 o (l.lower o) token above hl in
      let o' : Draft = with_trees [] (noded P token (Completed l.id) T.out) in
      let wide1 = grown o.slots T.out.slots i.plain.temps i.plain.slots_are in
      let above' : n ≤ length o'.slots = omega (arith, above, wide1) in
      let low = hr o' above' in
      let S = slot_of P T.temp token (r.lower o') in
      let slotted' = slotted_is Q W ask P code source_calls calls n met rr1 o' (r.lower o') T.temp token low.plain in
      let wide2 = grown o'.slots S.slots slotted'.temps slotted'.slots_are in
      let part = counts_slot Q W ask never P code source_calls calls n k counter g2 r.id rr rr1 o' (r.lower o') T.temp token above' low S.trees refl in
      let node = length T.out.nodes + 1 in
      let one = node_at P T.out.method token (Completed l.id) in
      let test = grows_one Q W k counter g1 o.nodes T.out.nodes one (Completed l.id) refl (λ e. i.late (own e)) i.grows in
      let all = grows_then Q W k counter g1 g2 (g1 + g2) o.nodes o'.nodes S.nodes refl test part.grows in
      let r0 = rl >>= (λ v. pick both v (rr >>= pure)) in
      let tree = choice both node T.temp S.trees in
      record {
        same = same;
        plain = plain;
        grows = grows_more Q W k counter (g1 + g2) ((B id + D id) + (g1 + g2)) o.nodes S.nodes (omega (arith)) all;
        late = λ e. let z = late_once Q W ask never P code source_calls calls n k counter id e in omega (arith, z);
        made = λ e. absurd e;
        counts = λ known e eq late.
            let known' = known_front Q W k counter o'.nodes part.grows.more S.nodes part.grows.nodes_are known in
            let known1 = known_front Q W k counter T.out.nodes (one ∷ []) o'.nodes refl known' in
            let f = from_one Q W k counter T.out.nodes one in
            let up = grows_up Q W k counter (g1 + g2) o.nodes S.nodes all in
            let most = all.few known in
            let most1 = test.few known' in
            let most2 = part.grows.few known in
            let z = last_of (Fs o) (Fs S) (g1 + g2) (B id + D id) (B id) (D id) 0 e (omega (arith)) few up most (omega (arith, eq)) (λ x. absurd (omega (arith, x))) (λ x. late_once Q W ask never P code source_calls calls n k counter id (late x)) in
            let begun = z.begun in let left = z.left in let parts = z.parts in
            let first : Fs T.out + Hs node ≡ Fs o + g1 = omega (arith, f, most1, most2, parts) in
            let second : Fs S + 0 ≡ Fs o' + g2 = omega (arith, f, most1, most2, parts) in
            let runs = part.counts known 0 second (λ x. absurd (omega (arith, x))) in
            let last = then_counts Q W ask P code source_calls calls n k counter g1 l.id vid rl rl1 o (as_operand T) i above known1 (Hs node) first (λ h. own (hit_counter Q W k counter T.out.nodes one (Completed l.id) refl known' h)) (tree ∷ []) (λ v. pick both v (rr >>= pure)) 0 (length S.slots) wide2
            (λ v s c value ag big j.
            let c2 : Frame W = record c { shared = noted node [] [] c.shared } in
            let ag2 : Agree W n (unmarked_frame Q W s) c2 = record { locals = ag.locals; shared = ag.shared } in
            let j2 = note_behind Q W k counter (Hs node) 0 node [] [] s.shared c.shared (omega (arith)) j in
            let x = then_gives Q W ask never P code source_calls calls n k counter (length S.slots) 0 0 rr pure S.trees (λ u t. (u, refl)) runs s c2 ag2 big j2 in
            subst (λ (p : Outcome Q (Frame W) (Flow Value)). C (pick both v (rr >>= pure) s) p) (sym (choice_run both node T.temp S.trees c))
            (picked both (is_true (operand c.locals (Slot T.temp))) v (rr >>= pure) S.trees s c2 (ap is_true value) x j2)) in
            let here : T.out.trees ++ tree ∷ [] ≡ o.trees ++ (i.plain.trees ++ tree ∷ []) = ap (λ ts. ts ++ tree ∷ []) i.plain.trees_are ∙ append_assoc o.trees i.plain.trees (tree ∷ []) in
            values.with_trees Q W ask never P code source_calls calls n k counter (length S.slots) 0 e (marks_of id r0) (i.plain.trees ++ tree ∷ []) plain.trees (same_rest (T.out.trees ++ tree ∷ []) o.trees (i.plain.trees ++ tree ∷ []) plain.trees here plain.trees_are)
            (marked_runs Q W ask P code source_calls calls n k counter id (length S.slots) 0 e r0 (i.plain.trees ++ tree ∷ []) (omega (arith, left)) (from_zero Q W ask never P code source_calls calls n k counter (length S.slots) (B id) 0 r0 (i.plain.trees ++ tree ∷ []) begun last));
      }
