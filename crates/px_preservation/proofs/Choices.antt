-- `&&` and `||`: the right operand's statements stand where it counts, and both operands share a temporary.
use Rattle.std.proofs.Common.{◌≡◌, ℕ, ◌+◌, ◌<◌, ◌≤◌, Bool, true, false, not, if◌then◌else◌, List, [], ◌∷◌, ◌++◌, length, Option, Some, unwrap_or, refl, sym, ap, ◌∙◌, subst, arith}
use Rattle.px_value.specs.declared.value.Value.{Value}
use Rattle.px_value.specs.declared.value.Value.TheVariants.{Int, Long, Bool as Truth, Text, Ref, Null}
use Rattle.px_value.specs.Outcome.{Outcome, Gives, ◌>>=◌, pure, Flow, Goes}
use Rattle.px_facts.specs.declared.checked.Checked.{Checked}
use Rattle.px_effects.specs.Run.{Ask}
use Rattle.px_mean.specs.Run.{Frame as SourceFrame, Here as SourceHere}
use Rattle.px_mean.specs.Expressions.{Calls as SourceCalls, is_true}
use Rattle.px_normal.specs.declared.ty.Ty.{Ty}
use Rattle.px_normal.specs.declared.ty.Ty.TheVariants as ty
use Rattle.px_normal.specs.declared.word.Operand.{Operand}
use Rattle.px_normal.specs.declared.word.Operand.TheVariants.{Slot}
use Rattle.px_normal.specs.declared.word.Word.TheVariants as w
use Rattle.px_normal.specs.declared.method.Tree.{Tree}
use Rattle.px_normal.specs.declared.method.Tree.TheVariants.{Do, If}
use Rattle.px_normal.specs.declared.node.Counter.TheVariants.{Completed}
use Rattle.px_normal.specs.declared.code.Code.{Code}
use Rattle.px_normal.specs.Run.{Frame, noted}
use Rattle.px_normal.specs.Words.{operand}
use Rattle.px_normal.specs.Words as code_words
use Rattle.px_normal.specs.CodeRun.{Calls, body_run}
use Rattle.px_lowering.specs.declared.draft.Draft.{Draft}
use Rattle.px_lowering.specs.declared.valued.Had.{Had}
use Rattle.px_lowering.specs.declared.valued.Had.TheVariants.{Held, Chosen, Made}
use Rattle.px_lowering.specs.Emit.{Lasted, Temped, temped, temp_of, slot_of, writes, noded, with_trees}
use Rattle.px_lowering.specs.Expressions.{Part, choice, choice_low}
use Rattle.px_preservation.proofs.Meets.{Meets, meets_at, meets_more}
use Rattle.px_preservation.proofs.Runs.{run_one, run_if}
use Rattle.px_preservation.proofs.Afters.{behind, grown, one_more, after_then, agree_after, wrote_above}
use Rattle.px_preservation.proofs.Operands.{IsSlotted, then_operand, last_operand, ended, set_meets, slotted_is}
use Rattle.px_preservation.proofs.Fitted.{then_pure}
use Rattle.px_preservation.proofs.Agree.{Agree, After, Wrote, Shares, IsHadBelow, IsHadAbove, CallsMeet, ComesTo, HadMeets, IsLowered}

same_true : (v : Value) → code_words.is_true v ≡ is_true v
same_true (Int i) = refl
same_true (Long i) = refl
same_true (Truth b) = refl
same_true (Text bytes) = refl
same_true (Ref object) = refl
same_true Null = refl

module _ (Q W : Type 0) (ask : Ask Q W) (P : Checked) (code : Code) (source_calls : SourceCalls Q W) (calls : Calls Q W) (n : ℕ) (met : CallsMeet Q W ask P code source_calls calls n) where
  abbrev run : List Tree → Frame W → Outcome Q (Frame W) (Flow Value)
  run = body_run code ask calls

  abbrev Lowered : SourceHere Q W Value → Draft → Lasted → Type 0
  Lowered = IsLowered Q W ask P code source_calls calls n

  abbrev Comes : (low high : ℕ) → SourceHere Q W Value → List Tree → Operand → Type 0
  Comes = ComesTo Q W ask P code source_calls calls n

  -- ---- a value in a temporary that may be written again

  record IsTemp (r : SourceHere Q W Value) (o : Draft) (x : Temped) : Type 0 where
    trees : List Tree
    temps : List Ty
    trees_are : x.out.trees ≡ o.trees ++ trees
    slots_are : x.out.slots ≡ o.slots ++ temps
    method_is : x.out.method ≡ o.method
    low : length o.slots ≤ x.temp
    high : x.temp < length x.out.slots
    meets : Comes (length o.slots) (length x.out.slots) r trees (Slot x.temp)

  copied : (r : SourceHere Q W Value) (low high : ℕ) (ts : List Tree) (a : Operand) → Comes low high r ts a → (node k : ℕ) → low ≤ k → (s : SourceFrame W) (c : Frame W) → Agree W n s c → high ≤ length c.locals → k < length c.locals → Meets (r s) (run (ts ++ Do node (w.Set k a) ∷ []) c) (λ v s' f c'. (f ≡ Goes) × After W low s s' c c' × (operand c'.locals (Slot k) ≡ v)) (Shares W)
  copied r low high ts a m node k l s c ag h b =
      meets_more (r s) (run (ts ++ Do node (w.Set k a) ∷ []) c) (λ v s' f c'. (f ≡ Goes) × Wrote W low (Some k) v s s' c c') (Shares W) (λ v s' f c'. (f ≡ Goes) × After W low s s' c c' × (operand c'.locals (Slot k) ≡ v)) (Shares W)
      (last_operand Q W ask P code source_calls calls n low high r ts a m (Do node (w.Set k a) ∷ []) (λ v s' f c'. (f ≡ Goes) × Wrote W low (Some k) v s s' c c') s c ag h (λ s1 c1 p. set_meets Q W ask P code source_calls calls n met low node k a s s1 c c1 p))
      (λ v s' f c' q. (q.0, wrote_above W low k v s s' c c' l q.1, ap (λ (u : Option Value). unwrap_or u Null) (q.1.written k refl b)))
      (λ s' c' q. q)

  temped_by : (r : SourceHere Q W Value) (o out : Draft) (for id token : ℕ) (had : Had) (trees : List Tree) (temps : List Ty) → out.trees ≡ o.trees ++ trees → out.slots ≡ o.slots ++ temps → out.method ≡ o.method → IsHadBelow (length out.slots) had → IsHadAbove (length o.slots) had → HadMeets Q W ask P code source_calls calls n (length o.slots) (length out.slots) r trees had → IsTemp r o (temped P for id token had out)
  temped_by r o out for id token (Held a) trees temps e f g b u m =
      let node = length out.nodes + 1 in
      let k = length out.slots in
      record {
        trees = trees ++ Do node (w.Set k a) ∷ [];
        temps = temps ++ ty.Bool ∷ [];
        trees_are = behind o.trees out.trees (out.trees ++ Do node (w.Set k a) ∷ []) trees (Do node (w.Set k a) ∷ []) e refl;
        slots_are = behind o.slots out.slots (out.slots ++ ty.Bool ∷ []) temps (ty.Bool ∷ []) f refl;
        method_is = g;
        low = grown o.slots out.slots temps f;
        high = one_more out.slots ty.Bool;
        meets = λ s c ag l.
            let x = one_more out.slots ty.Bool in
            copied r (length o.slots) k trees a m node k (grown o.slots out.slots temps f) s c ag (omega (arith, x, l)) (omega (arith, x, l));
      }
  temped_by r o out for id token (Chosen slot) trees temps e f g b u m = record { trees = trees; temps = temps; trees_are = e; slots_are = f; method_is = g; low = u; high = b; meets = m }
  temped_by r o out for id token (Made x t counter) trees temps e f g b u m =
      let node = length out.nodes + 1 in
      let k = length out.slots in
      record {
        trees = trees ++ Do node (writes x k) ∷ [];
        temps = temps ++ t ∷ [];
        trees_are = behind o.trees out.trees (out.trees ++ Do node (writes x k) ∷ []) trees (Do node (writes x k) ∷ []) e refl;
        slots_are = behind o.slots out.slots (out.slots ++ t ∷ []) temps (t ∷ []) f refl;
        method_is = g;
        low = grown o.slots out.slots temps f;
        high = one_more out.slots t;
        meets = λ s c ag l.
            let y = one_more out.slots t in
            ended Q W ask P code source_calls calls n r (length o.slots) k trees x m node k (grown o.slots out.slots temps f) s c ag (omega (arith, y, l)) (omega (arith, y, l));
      }

  temp_is : (r : SourceHere Q W Value) (o : Draft) (l : Lasted) (for : ℕ) → Lowered r o l → IsTemp r o (temp_of P for l)
  temp_is r o l for h = temped_by r o l.out for l.value.id l.value.token l.value.had h.trees h.temps h.trees_are h.slots_are h.method_is h.below h.above h.meets

  -- ---- one branch or the other

  -- what is done behind the left operand
  abbrev pub picks : Bool → Value → SourceHere Q W Value → SourceHere Q W Value
  picks true v r = if not (is_true v) then pure v else r
  picks false v r = if is_true v then pure v else r

  abbrev Ran : ℕ → ℕ → SourceFrame W → Frame W → Value → SourceFrame W → Flow Value → Frame W → Type 0
  Ran low slot s c v s' f c' = (f ≡ Goes) × After W low s s' c c' × (operand c'.locals (Slot slot) ≡ v)

  abbrev by_test : Bool → Bool → List Tree → Frame W → Outcome Q (Frame W) (Flow Value)
  by_test true b ts c = (if b then run ts else run []) c
  by_test false b ts c = (if b then run [] else run ts) c

  choice_run : (both : Bool) (node slot : ℕ) (ts : List Tree) (c : Frame W) → run (choice both node slot ts ∷ []) c ≡ by_test both (is_true (operand c.locals (Slot slot))) ts (record c { shared = noted node [] [] c.shared })
  choice_run true node slot ts c =
      run_one Q W code ask calls (If node (Slot slot) ts []) c ∙ (λ i. run_if Q W code ask calls node (Slot slot) ts [] i c)
      ∙ (λ i. (if same_true (operand c.locals (Slot slot)) i then run ts else run []) (record c { shared = noted node [] [] c.shared }))
  choice_run false node slot ts c =
      run_one Q W code ask calls (If node (Slot slot) [] ts) c ∙ (λ i. run_if Q W code ask calls node (Slot slot) [] ts i c)
      ∙ (λ i. (if same_true (operand c.locals (Slot slot)) i then run [] else run ts) (record c { shared = noted node [] [] c.shared }))

  picked : (both : Bool) (b : Bool) (v : Value) (r : SourceHere Q W Value) (ts : List Tree) (s1 : SourceFrame W) (c1 : Frame W) (R : Value → SourceFrame W → Flow Value → Frame W → Type 0) → b ≡ is_true v → Meets (r s1) (run ts c1) R (Shares W) → Meets {Q = Q} (Gives v s1) (run [] c1) R (Shares W) → Meets (picks both v r s1) (by_test both b ts c1) R (Shares W)
  picked true true v r ts s1 c1 R e x y = subst (λ (z : Bool). Meets ((if not z then pure v else r) s1) (run ts c1) R (Shares W)) e x
  picked true false v r ts s1 c1 R e x y = subst (λ (z : Bool). Meets ((if not z then pure v else r) s1) (run [] c1) R (Shares W)) e y
  picked false true v r ts s1 c1 R e x y = subst (λ (z : Bool). Meets ((if z then pure v else r) s1) (run [] c1) R (Shares W)) e y
  picked false false v r ts s1 c1 R e x y = subst (λ (z : Bool). Meets ((if z then pure v else r) s1) (run ts c1) R (Shares W)) e x

  -- behind the left operand
  choice_ends : (both : Bool) (rr : SourceHere Q W Value) (o o' : Draft) (slot node low : ℕ) (h : IsSlotted Q W ask P code source_calls calls n rr slot o o') → low ≤ length o.slots → n ≤ low → low ≤ slot → slot < length o.slots → (s s1 : SourceFrame W) (c c1 : Frame W) → length o'.slots ≤ length c1.locals → Agree W n s1 c1 → After W low s s1 c c1 → Meets (picks both (operand c1.locals (Slot slot)) (rr >>= pure) s1) (run (choice both node slot h.trees ∷ []) c1) (Ran low slot s c) (Shares W)
  choice_ends both rr o o' slot node low h l0 ln l1 l2 s s1 c c1 room ag a =
      let c2 : Frame W = record c1 { shared = noted node [] [] c1.shared } in
      let a2 : After W low s s1 c c2 = record { same = a.same; shared = a.shared; size = a.size; kept = a.kept } in
      let ag2 : Agree W n s1 c2 = record { locals = ag.locals; shared = ag.shared } in
      let g = grown o.slots o'.slots h.temps h.slots_are in
      let v = operand c1.locals (Slot slot) in
      let x : Meets (rr s1) (run h.trees c2) (Ran low slot s c) (Shares W) =
      meets_more (rr s1) (run h.trees c2) (λ v s' f c'. (f ≡ Goes) × Wrote W (length o.slots) (Some slot) v s1 s' c2 c') (Shares W) (Ran low slot s c) (Shares W) (h.meets s1 c2 ag2 room)
      (λ v s' f c' q.
      let later : After W low s1 s' c2 c' = record { same = q.1.same; shared = q.1.shared; size = q.1.size; kept = λ j m. q.1.kept j (omega (arith, m, l0)) (λ u. other j m (cc u)) } in
      (q.0, after_then W low low s s1 s' c c2 c' (omega arith) a2 later, ap (λ (u : Option Value). unwrap_or u Null) (q.1.written slot refl (omega (arith, l2, g, room)))))
      (λ s' c' q. q) in
      let x' : Meets ((rr >>= pure) s1) (run h.trees c2) (Ran low slot s c) (Shares W) = subst (λ (p : Outcome Q (SourceFrame W) Value). Meets p (run h.trees c2) (Ran low slot s c) (Shares W)) (sym (then_pure (rr s1))) x in
      meets_at _ _ (by_test both (is_true v) h.trees c2) (Ran low slot s c) (Shares W) (choice_run both node slot h.trees c1)
      (picked both (is_true v) v (rr >>= pure) h.trees s1 c2 (Ran low slot s c) refl x' (v, s1, refl, (refl, a2, refl)))
    where
      other : (j : ℕ) → j < low → slot ≡ j → ⊥
      other j m u = omega (arith, m, u, l1)

  pub chooses : (both : Bool) (rl rr : SourceHere Q W Value) (o : Draft) (l r : Part) (id token : ℕ) → n ≤ length o.slots → Lowered rl o (l.lower o) → ((o' : Draft) → n ≤ length o'.slots → Lowered rr o' (r.lower o')) → Lowered (rl >>= (λ v. picks both v (rr >>= pure))) o (choice_low P both l r id token o)
  chooses both rl rr o l r id token le hl hr =
      let A = temp_of P token (l.lower o) in
      let a : IsTemp rl o A = temp_is rl o (l.lower o) token hl in
      let o' : Draft = with_trees [] (noded P token (Completed l.id) A.out) in
      let g1 = grown o.slots A.out.slots a.temps a.slots_are in
      let B = slot_of P A.temp token (r.lower o') in
      let b : IsSlotted Q W ask P code source_calls calls n rr A.temp o' B = slotted_is Q W ask P code source_calls calls n met rr o' (r.lower o') A.temp token (hr o' (omega (arith, le, g1))) in
      let g2 = grown A.out.slots B.slots b.temps b.slots_are in
      let node = length A.out.nodes + 1 in
      record {
        trees = a.trees ++ choice both node A.temp B.trees ∷ [];
        temps = a.temps ++ b.temps;
        trees_are = behind o.trees A.out.trees (A.out.trees ++ choice both node A.temp B.trees ∷ []) a.trees (choice both node A.temp B.trees ∷ []) a.trees_are refl;
        slots_are = behind o.slots A.out.slots B.slots a.temps b.temps a.slots_are b.slots_are;
        method_is = b.method_is ∙ a.method_is;
        below = omega (arith, a.high, g2);
        above = a.low;
        meets = λ s c ag room.
            then_operand Q W ask P code source_calls calls n (length o.slots) (length A.out.slots) rl a.trees (Slot A.temp) a.meets (λ v. picks both v (rr >>= pure)) (choice both node A.temp B.trees ∷ []) (Ran (length o.slots) A.temp s c) s c ag (omega (arith, room, g2)) (λ s1 c1 p.
            meets_at _ _ (run (choice both node A.temp b.trees ∷ []) c1) (Ran (length o.slots) A.temp s c) (Shares W) (ap (λ ts. run (choice both node A.temp ts ∷ []) c1) b.trees_are)
            (choice_ends both rr o' B A.temp node (length o.slots) b g1 le a.low a.high s s1 c c1 (omega (arith, room, p.size)) (agree_after W n (length o.slots) s s1 c c1 le ag p) p));
      }
