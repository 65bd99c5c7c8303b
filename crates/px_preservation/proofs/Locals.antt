-- What writes a local.
use Rattle.std.proofs.Common.{◌≡◌, ℕ, ◌+◌, ◌<◌, ◌≤◌, List, [], ◌∷◌, ◌++◌, length, Option, Some, unwrap_or, slice_get, slice_set, Ok, Err, refl, sym, ap, ◌∙◌, append-nil, le_of_eq, le_trans, lt_of_lt_of_le}
use Rattle.px_value.specs.declared.value.Value.{Value}
use Rattle.px_value.specs.declared.value.Value.TheVariants.{Null}
use Rattle.px_value.specs.declared.op.Op.{Op}
use Rattle.px_value.specs.Operators.{Applied, apply}
use Rattle.px_value.specs.Outcome.{◌>>=◌, pure}
use Rattle.px_facts.specs.declared.checked.Checked.{Checked}
use Rattle.px_effects.specs.Run.{Ask, came_to}
use Rattle.px_effects.specs.Act.{Comes}
use Rattle.px_mean.specs.Run.{Frame as SourceFrame, Here as SourceHere, with_slots}
use Rattle.px_mean.specs.Expressions.{Calls as SourceCalls, slot_value, assign_slot}
use Rattle.px_normal.specs.declared.word.Operand.{Operand}
use Rattle.px_normal.specs.declared.word.Operand.TheVariants.{Slot, Literal}
use Rattle.px_normal.specs.declared.word.Word.TheVariants as w
use Rattle.px_normal.specs.declared.node.Counter.{Counter}
use Rattle.px_normal.specs.declared.method.Tree.TheVariants.{Do}
use Rattle.px_normal.specs.declared.code.Code.{Code}
use Rattle.px_normal.specs.Run.{Frame}
use Rattle.px_normal.specs.Words.{operand}
use Rattle.px_normal.specs.CodeRun.{Calls, act_run, body_run}
use Rattle.px_lowering.specs.declared.draft.Draft.{Draft}
use Rattle.px_lowering.specs.Emit.{Operated, emitted}
use Rattle.px_preservation.proofs.Meets.{Meets, meets_at, meets_source}
use Rattle.px_preservation.proofs.Agree.{Agree, Wrote, Shares}
use Rattle.px_preservation.proofs.Slots.{set_length, set_other, set_here}
use Rattle.px_preservation.proofs.Operands.{IsOperand, IsSlotted}
use Rattle.px_preservation.proofs.Runs.{run_do, run_one}
use Rattle.px_preservation.proofs.Afters.{behind, grown, operand_after}
use Rattle.px_preservation.proofs.Sequences.{then_operand}
use Rattle.px_preservation.proofs.Assignments.{is_there, agree_set, Put, IsPut}

module _ (Q W : Type 0) (ask : Ask Q W) (P : Checked) (code : Code) (source_calls : SourceCalls Q W) (calls : Calls Q W) (n : ℕ) where
  -- a value in the slot of a local
  pub slotted_put : (r : SourceHere Q W Value) (slot : ℕ) (o o' : Draft) → slot < n → n ≤ length o.slots → IsSlotted Q W ask P code source_calls calls n r slot o o' → IsPut Q W ask P code source_calls calls n (r >>= assign_slot slot) o o'
  slotted_put r slot o o' is_local le i = record {
    trees = i.trees;
    temps = i.temps;
    trees_are = i.trees_are;
    slots_are = i.slots_are;
    method_is = i.method_is;
    meets = λ s c g size. meets_source (r s) (body_run code ask calls i.trees c) _ (Shares W) (assign_slot slot) (Put Q W ask P code source_calls calls n c) (Shares W) (i.meets s c g size)
        (λ v s1 f c1 q. (tt, with_slots s1 (slice_set s1.locals slot v), refl, (q.0, wrote s c g size v s1 c1 q.1, q.1.size))) (λ s c e. e);
  }
    where
      other : (j : ℕ) → Some slot ≡ Some j → j ≡ slot
      other j e = cc e

      wrote : (s : SourceFrame W) (c : Frame W) → Agree W n s c → length o'.slots ≤ length c.locals → (v : Value) (s1 : SourceFrame W) (c1 : Frame W) → Wrote W (length o.slots) (Some slot) v s s1 c c1 → Agree W n (with_slots s1 (slice_set s1.locals slot v)) c1
      wrote s c g size v s1 c1 q =
          let high : slot < length c.locals = lt_of_lt_of_le is_local (le_trans le (le_trans (grown o.slots o'.slots i.temps i.slots_are) size)) in
          let low : slot < length s1.locals = lt_of_lt_of_le (is_there W n s c slot g is_local high) (le_of_eq (sym (ap length q.same))) in
          agree_set W n s1 c c1 slot v low q.shared (q.written slot refl high)
          (λ j h d. ap (λ (ls : List Value). slice_get ls j) q.same ∙ g.locals j h ∙ sym (q.kept j (lt_of_lt_of_le h le) (λ e. d (other j e))))

  abbrev changes : Applied → ℕ → SourceHere Q W (Unit {0})
  changes x slot = came_to x >>= assign_slot slot

  -- a local gets what an operator gives of it and of an operand
  changed : (node : ℕ) (f : Op) (slot : ℕ) (a b : Operand) (x : Applied) (s : SourceFrame W) (c0 c : Frame W) → slot < n → slot < length c.locals → Agree W n s c → length c.locals ≡ length c0.locals → Meets (changes x slot s) (act_run code node (w.Op f slot a (Some b)) (Comes x) c) (Put Q W ask P code source_calls calls n c0) (Shares W)
  changed node f slot a b (Ok v) s c0 c is_local high g size = (tt, with_slots s (slice_set s.locals slot v), refl, (refl, agree_set W n s c _ slot v (is_there W n s c slot g is_local high) g.shared (set_here c.locals slot v high) (λ j h d. g.locals j h ∙ sym (set_other c.locals slot j v (λ e. d (sym e)))), set_length c.locals slot v ∙ size))
  changed node f slot a b (Err t) s c0 c is_local high g size = (s, refl, g.shared)

  change_meets : (node : ℕ) (f : Op) (slot : ℕ) (b : Operand) (old v : Value) (s : SourceFrame W) (c0 c : Frame W) → slot < n → slot < length c.locals → Agree W n s c → length c.locals ≡ length c0.locals → operand c.locals (Slot slot) ≡ old → operand c.locals b ≡ v
      → Meets (changes (apply f old v) slot s) (body_run code ask calls (Do node (w.Op f slot (Slot slot) (Some b)) ∷ []) c) (Put Q W ask P code source_calls calls n c0) (Shares W)
  change_meets node f slot b old v s c0 c is_local high g size eo ev =
      meets_at _ _ (act_run code node (w.Op f slot (Slot slot) (Some b)) (Comes (apply f old v)) c) (Put Q W ask P code source_calls calls n c0) (Shares W)
      (run_one Q W code ask calls (Do node (w.Op f slot (Slot slot) (Some b))) c ∙ ap (λ r. r c) (run_do Q W code ask calls node (w.Op f slot (Slot slot) (Some b))) ∙ (λ i. act_run code node (w.Op f slot (Slot slot) (Some b)) (Comes (apply f (eo i) (ev i))) c))
      (changed node f slot (Slot slot) b (apply f old v) s c0 c is_local high g size)

  pub change_put : (r : SourceHere Q W Value) (f : Op) (slot : ℕ) (o : Draft) (x : Operated) (token : ℕ) (counter : Counter) → slot < n → n ≤ length o.slots → IsOperand Q W ask P code source_calls calls n r o x
      → IsPut Q W ask P code source_calls calls n (slot_value slot >>= (λ a. r >>= (λ b. came_to (apply f a b) >>= assign_slot slot))) o (emitted P (w.Op f slot (Slot slot) (Some x.operand)) token counter x.out)
  change_put r f slot o x token counter is_local le i =
      let word = w.Op f slot (Slot slot) (Some x.operand) in
      let node = length x.out.nodes + 1 in
      let up : length o.slots ≤ length x.out.slots = grown o.slots x.out.slots i.temps i.slots_are in
      record {
        trees = i.trees ++ Do node word ∷ [];
        temps = i.temps;
        trees_are = behind o.trees x.out.trees (emitted P word token counter x.out).trees i.trees (Do node word ∷ []) i.trees_are refl;
        slots_are = i.slots_are;
        method_is = i.method_is;
        meets = λ s c g size.
            let old = unwrap_or (slice_get s.locals slot) Null in
            then_operand Q W ask P code source_calls calls n r o x i le (Do node word ∷ []) (λ b. changes (apply f old b) slot) (Put Q W ask P code source_calls calls n c) s c g size
            (λ v s1 c1 g1 a1 e1. change_meets node f slot x.operand old v s1 c c1 is_local (lt_of_lt_of_le is_local (le_trans le (le_trans up (le_trans size (le_of_eq (sym a1.size)))))) g1 a1.size
            (operand_after W (length o.slots) s s1 c c1 (Slot slot) (lt_of_lt_of_le is_local le) a1 ∙ ap (λ (z : Option Value). unwrap_or z Null) (sym (g.locals slot is_local))) e1);
      }

  -- by a literal
  pub change_by : (v : Value) (f : Op) (slot : ℕ) (o : Draft) (token : ℕ) (counter : Counter) → slot < n → n ≤ length o.slots
      → IsPut Q W ask P code source_calls calls n (slot_value slot >>= (λ a. pure v >>= (λ b. came_to (apply f a b) >>= assign_slot slot))) o (emitted P (w.Op f slot (Slot slot) (Some (Literal v))) token counter o)
  change_by v f slot o token counter is_local le =
      let word = w.Op f slot (Slot slot) (Some (Literal v)) in
      let node = length o.nodes + 1 in
      record {
        trees = Do node word ∷ [];
        temps = [];
        trees_are = refl;
        slots_are = sym (append-nil o.slots);
        method_is = refl;
        meets = λ s c g size. change_meets node f slot (Literal v) (unwrap_or (slice_get s.locals slot) Null) v s c c is_local (lt_of_lt_of_le is_local (le_trans le size)) g refl (ap (λ (z : Option Value). unwrap_or z Null) (sym (g.locals slot is_local))) refl;
      }
