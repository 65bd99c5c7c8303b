-- What is counted of values: as they are lowered, as operands, and in a row.
use Rattle.std.proofs.Common.{◌≡◌, ℕ, ◌+◌, ◌≤◌, List, [], ◌∷◌, ◌++◌, length, length-append, append_assoc, Option, Some, refl, sym, ap, ◌∙◌, subst, arith}
use Rattle.px_value.specs.declared.value.Value.{Value}
use Rattle.px_value.specs.Outcome.{Outcome, Gives, Throws, Asks, then_run, ◌>>=◌, pure, Flow, Goes, goes_on}
use Rattle.px_facts.specs.declared.checked.Checked.{Checked}
use Rattle.px_effects.specs.Run.{Ask}
use Rattle.px_mean.specs.Run.{Frame as SourceFrame, Here as SourceHere}
use Rattle.px_mean.specs.Expressions.{Calls as SourceCalls}
use Rattle.px_normal.specs.declared.node.Counter.{Counter}
use Rattle.px_normal.specs.declared.node.Counter.TheVariants.{Completed}
use Rattle.px_normal.specs.declared.word.Word.{Word}
use Rattle.px_normal.specs.declared.method.Tree.{Tree}
use Rattle.px_normal.specs.declared.method.Tree.TheVariants.{Do}
use Rattle.px_normal.specs.declared.code.Code.{Code}
use Rattle.px_normal.specs.Run.{Frame}
use Rattle.px_normal.specs.Words.{operand}
use Rattle.px_normal.specs.CodeRun.{Calls, body_run}
use Rattle.px_lowering.specs.declared.draft.Draft.{Draft}
use Rattle.px_lowering.specs.declared.valued.Had.{Had}
use Rattle.px_lowering.specs.declared.valued.Had.TheVariants.{Held, Chosen, Made}
use Rattle.px_lowering.specs.Emit.{Lasted, Operated, node_at, writes, operated, operand_of}
use Rattle.px_counts.specs.Marks as mark
use Rattle.px_counts.specs.Marks.{Marked, mark_here}
use Rattle.px_counts.proofs.Unmarked.{unmarked_frame, SameHere}
use Rattle.px_preservation.proofs.Meets.{Meets}
use Rattle.px_preservation.proofs.Agree.{Agree, After, Shares, Finishes, into, IsLowered}
use Rattle.px_preservation.proofs.Runs.{run_append}
use Rattle.px_preservation.proofs.Afters.{agree_after}
use Rattle.px_preservation.proofs.Operands.{IsOperand, operand_is}
use Rattle.px_counted.proofs.Counts.{AreBehind, Counted, hits, marks, with_mark, mark_behind, counted_bind}
use Rattle.px_counted.proofs.Pieces.{same_rest, from_node, IsKnown, known_front, Grows, grows_one, hit_counter, from_one}

-- the counter of a node behind an expression: how often it completed, by its number without what leaves it as it is, or with that
pub data IsLate (counter : Counter) (id inner : ℕ) : Type 0 where
  own : counter ≡ Completed id → IsLate counter id inner
  inside : counter ≡ Completed inner → IsLate counter id inner

module _ (Q W : Type 0) (ask : Ask Q W) (P : Checked) (code : Code) (source_calls : SourceCalls Q W) (calls : Calls Q W) (n k : ℕ) (counter : Counter) where
  abbrev pub HereM : Type 0 → Type 0
  HereM A = SourceHere Q (Marked W) A

  abbrev pub from : ℕ → ℕ
  from m = from_node Q W k counter m

  abbrev pub hit : ℕ → ℕ
  hit node = hits Q W k counter node

  -- where frames agree, and so many were behind, so many are then
  abbrev pub Runs : {A : Type 0} → (high before after : ℕ) → HereM A → List Tree → Type 0
  Runs high before after r ts = (s : SourceFrame (Marked W)) (c : Frame W) → Agree W n (unmarked_frame Q W s) c → high ≤ length c.locals → AreBehind Q W k counter before s c → Counted Q W k counter after (r s) (body_run code ask calls ts c)

  pub runs_more : {A : Type 0} (high more before after : ℕ) (r : HereM A) (ts : List Tree) → high ≤ more → Runs high before after r ts → Runs more before after r ts
  runs_more high more before after r ts e h = λ s c g size j. h s c g (omega (arith, e, size)) j

  -- ---- values

  abbrev pub IsPending : Had → Type 0
  IsPending (Made s t x) = counter ≡ x
  IsPending _ = ⊥

  -- the rest of what is given is behind, and is what the node's counter counts of the value
  abbrev pub CountsHad : (given id inner high old new : ℕ) → Had → HereM Value → List Tree → Type 0
  CountsHad given id inner high old new (Made s t x) r ts = (node : ℕ) (to : Option ℕ) (word : Word) → Finishes s to word → (1 ≤ hit node → counter ≡ x) → (e : ℕ) → from new + hit node + e ≡ from old + given → (1 ≤ e → IsLate counter id inner) → Runs high 0 e r (ts ++ Do node word ∷ [])
  CountsHad given id inner high old new _ r ts = (e : ℕ) → from new + e ≡ from old + given → (1 ≤ e → IsLate counter id inner) → Runs high 0 e r ts

  pub record CountsLowered (given id : ℕ) (r : HereM Value) (r' : SourceHere Q W Value) (o : Draft) (l : Lasted) : Type 0 where
    pub same : SameHere Q W Value r r'
    pub plain : IsLowered Q W ask P code source_calls calls n r' o l
    pub grows : Grows Q W k counter given o.nodes l.out.nodes
    pub late : IsLate counter id l.value.id → 1 ≤ given
    pub made : IsPending l.value.had → 1 ≤ given
    pub counts : IsKnown Q W k counter l.out.nodes → CountsHad given id l.value.id (length l.out.slots) (length o.nodes) (length l.out.nodes) l.value.had r plain.trees

  pub record CountsOperand (given id inner : ℕ) (r : HereM Value) (r' : SourceHere Q W Value) (o : Draft) (x : Operated) : Type 0 where
    pub same : SameHere Q W Value r r'
    pub plain : IsOperand Q W ask P code source_calls calls n r' o x
    pub grows : Grows Q W k counter given o.nodes x.out.nodes
    pub late : IsLate counter id inner → 1 ≤ given
    pub counts : IsKnown Q W k counter x.out.nodes → (e : ℕ) → from (length x.out.nodes) + e ≡ from (length o.nodes) + given → (1 ≤ e → IsLate counter id inner) → Runs (length x.out.slots) 0 e r plain.trees

  moved : {A : Type 0} (high before after : ℕ) (r : HereM A) (ts us : List Tree) → ts ≡ us → Runs high before after r ts → Runs high before after r us
  moved high before after r ts us e h = subst (λ (l : List Tree). Runs high before after r l) e h

  operated_counts : (given id inner : ℕ) (r : HereM Value) (r' : SourceHere Q W Value) (o out : Draft) (token : ℕ) (had : Had) (trees : List Tree) → SameHere Q W Value r r' → IsOperand Q W ask P code source_calls calls n r' o (operated P token had out) → out.trees ≡ o.trees ++ trees → Grows Q W k counter given o.nodes out.nodes → (IsLate counter id inner → 1 ≤ given) → (IsPending had → 1 ≤ given) → (IsKnown Q W k counter out.nodes → CountsHad given id inner (length out.slots) (length o.nodes) (length out.nodes) had r trees) → CountsOperand given id inner r r' o (operated P token had out)
  operated_counts given id inner r r' o out token (Held a) trees same plain are g late made h = record { same = same; plain = plain; grows = g; late = late; counts = λ known e eq l. moved (length out.slots) 0 e r trees plain.trees (same_rest out.trees o.trees trees plain.trees are plain.trees_are) (h known e eq l) }
  operated_counts given id inner r r' o out token (Chosen slot) trees same plain are g late made h = record { same = same; plain = plain; grows = g; late = late; counts = λ known e eq l. moved (length out.slots) 0 e r trees plain.trees (same_rest out.trees o.trees trees plain.trees are plain.trees_are) (h known e eq l) }
  operated_counts given id inner r r' o out token (Made s t x) trees same plain are g late made h =
      let node = length out.nodes + 1 in
      let slot = length out.slots in
      let one = node_at P out.method token x in
      record {
        same = same;
        plain = plain;
        grows = grows_one Q W k counter given o.nodes out.nodes one x refl made g;
        late = late;
        counts = λ known e eq l.
            let f = from_one Q W k counter out.nodes one in
            let all : from (length out.nodes) + hit node + e ≡ from (length o.nodes) + given = ap (λ y. y + e) (sym f) ∙ eq in
            let runs = h (known_front Q W k counter out.nodes (one ∷ []) (out.nodes ++ one ∷ []) refl known) node (Some slot) (writes s slot) (into s slot) (hit_counter Q W k counter out.nodes one x refl known) e all l in
            let more = length-append out.slots (t ∷ []) in
            let here : out.trees ++ Do node (writes s slot) ∷ [] ≡ o.trees ++ (trees ++ Do node (writes s slot) ∷ []) = ap (λ ts. ts ++ Do node (writes s slot) ∷ []) are ∙ append_assoc o.trees trees (Do node (writes s slot) ∷ []) in
            moved (length (out.slots ++ t ∷ [])) 0 e r (trees ++ Do node (writes s slot) ∷ []) plain.trees (same_rest _ o.trees _ plain.trees here plain.trees_are)
            (runs_more (length out.slots) (length (out.slots ++ t ∷ [])) 0 e r (trees ++ Do node (writes s slot) ∷ []) (omega (arith, more)) runs);
      }

  pub operand_counts : (given id : ℕ) (r : HereM Value) (r' : SourceHere Q W Value) (o : Draft) (l : Lasted) → CountsLowered given id r r' o l → CountsOperand given id l.value.id r r' o (operand_of P l)
  operand_counts given id r r' o l h = operated_counts given id l.value.id r r' o l.out l.value.token l.value.had h.plain.trees h.same (operand_is Q W ask P code source_calls calls n r' o l h.plain) h.plain.trees_are h.grows h.late h.made h.counts

  -- ---- an operand, and then the rest

  pub then_counts : {A : Type 0} (given id inner : ℕ) (r : HereM Value) (r' : SourceHere Q W Value) (o : Draft) (x : Operated) (i : CountsOperand given id inner r r' o x) → n ≤ length o.slots → IsKnown Q W k counter x.out.nodes
      → (e : ℕ) → from (length x.out.nodes) + e ≡ from (length o.nodes) + given → (1 ≤ e → IsLate counter id inner) → (us : List Tree) (f : Value → HereM A) (after high : ℕ) → length x.out.slots ≤ high
      → ((v : Value) (s : SourceFrame (Marked W)) (c : Frame W) → operand c.locals x.operand ≡ v → Agree W n (unmarked_frame Q W s) c → high ≤ length c.locals → AreBehind Q W k counter e s c → Counted Q W k counter after (f v s) (body_run code ask calls us c))
      → Runs high 0 after (r >>= f) (i.plain.trees ++ us)
  then_counts {A} given id inner r r' o x i above known e eq late us f after high size next = λ s c g big j.
      let met = i.plain.meets (unmarked_frame Q W s) c g (omega (arith, size, big)) in
      let there = subst (λ (y : Outcome Q (SourceFrame W) Value). Meets y (body_run code ask calls i.plain.trees c) (λ v s' f' c'. (f' ≡ Goes) × After W (length o.slots) (unmarked_frame Q W s) s' c c' × (operand c'.locals x.operand ≡ v)) (Shares W)) (sym (i.same.at s)) met in
      subst (λ (p : Outcome Q (Frame W) (Flow Value)). Counted Q W k counter after (then_run (r s) f) p) (sym (run_append Q W code ask calls i.plain.trees us c))
      (counted_bind Q W k counter Value (Flow Value) A (Flow Value) (r s) (body_run code ask calls i.plain.trees c) (λ v s' f' c'. (f' ≡ Goes) × After W (length o.slots) (unmarked_frame Q W s) s' c c' × (operand c'.locals x.operand ≡ v)) (Shares W) e after f (goes_on (body_run code ask calls us)) there
      (i.counts known e eq late s c g (omega (arith, size, big)) j)
      (λ v s1 f1 c1 q j1.
      let a = q.1 in
      let z = a.size in
      let big1 : high ≤ length c1.locals = omega (arith, z, big) in
      subst (λ (y : Flow Value). Counted Q W k counter after (f v s1) (goes_on (body_run code ask calls us) y c1)) (sym q.0)
      (next v s1 c1 q.2 (agree_after W n (length o.slots) (unmarked_frame Q W s) (unmarked_frame Q W s1) c c1 above g a) big1 j1)))

  -- ---- the marks of the expression itself

  abbrev pub marked_run : ℕ → HereM Value → HereM Value
  marked_run id r = mark_here (mark.Begun id) >>= (λ u. r >>= (λ v. mark_here (mark.Completed id) >>= (λ u. pure v)))

  completes_at : (id e e' : ℕ) (o : Outcome Q (SourceFrame (Marked W)) Value) (p : Outcome Q (Frame W) (Flow Value)) → e' ≡ e + marks Q W k counter (mark.Completed id) → Counted Q W k counter e o p → Counted Q W k counter e' (then_run o (λ v. mark_here (mark.Completed id) >>= (λ u. pure v))) p
  completes_at id e e' (Gives a s) (Gives b c) eq h = mark_behind Q W k counter e e' (mark.Completed id) s.shared c.shared eq h
  completes_at id e e' (Gives a s) (Throws t c) eq h = tt
  completes_at id e e' (Gives a s) (Asks q c) eq h = tt
  completes_at id e e' (Throws t s) (Gives b c) eq h = tt
  completes_at id e e' (Throws t s) (Throws u c) eq h = h
  completes_at id e e' (Throws t s) (Asks q c) eq h = tt
  completes_at id e e' (Asks q s) p eq h = tt

  pub marked_runs : (id high e e' : ℕ) (r : HereM Value) (ts : List Tree) → e' ≡ e + marks Q W k counter (mark.Completed id) → Runs high (marks Q W k counter (mark.Begun id)) e r ts → Runs high 0 e' (marked_run id r) ts
  marked_runs id high e e' r ts eq h = λ s c g size j.
      completes_at id e e' (r (record s { shared = with_mark Q W k counter (mark.Begun id) s.shared })) (body_run code ask calls ts c) eq
      (h (record s { shared = with_mark Q W k counter (mark.Begun id) s.shared }) c g size (mark_behind Q W k counter 0 (marks Q W k counter (mark.Begun id)) (mark.Begun id) s.shared c.shared (omega (arith)) j))
