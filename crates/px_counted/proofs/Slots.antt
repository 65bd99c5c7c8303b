-- What is counted of a value in a slot, and of one that isn't used.
use Rattle.std.proofs.Common.{◌≡◌, ℕ, ◌+◌, ◌≤◌, Bool, true, false, List, [], ◌∷◌, ◌++◌, length, append_assoc, Option, Some, None, refl, sym, ap, ◌∙◌, subst}
use Rattle.px_value.specs.declared.value.Value.{Value}
use Rattle.px_value.specs.Outcome.{pure}
use Rattle.px_facts.specs.declared.checked.Checked.{Checked}
use Rattle.px_effects.specs.Run.{Ask}
use Rattle.px_mean.specs.Run.{Here as SourceHere}
use Rattle.px_mean.specs.Expressions.{Calls as SourceCalls}
use Rattle.px_normal.specs.declared.node.Counter.{Counter}
use Rattle.px_normal.specs.declared.node.Counter.TheVariants.{Completed}
use Rattle.px_normal.specs.declared.word.Word.TheVariants as w
use Rattle.px_normal.specs.declared.method.Tree.{Tree}
use Rattle.px_normal.specs.declared.method.Tree.TheVariants.{Do}
use Rattle.px_normal.specs.declared.code.Code.{Code}
use Rattle.px_normal.specs.CodeRun.{Calls}
use Rattle.px_lowering.specs.declared.draft.Draft.{Draft}
use Rattle.px_lowering.specs.declared.valued.Step.TheVariants as step
use Rattle.px_lowering.specs.declared.valued.Had.{Had}
use Rattle.px_lowering.specs.declared.valued.Had.TheVariants.{Held, Chosen, Made}
use Rattle.px_lowering.specs.Emit.{Lasted, Operated, node_at, writes, operated, operand_of, slotted, slot_of}
use Rattle.px_lowering.specs.Statements.{without_result, unused as unused_low}
use Rattle.px_preservation.proofs.Agree.{Finishes, into, unused}
use Rattle.px_preservation.proofs.Fitted.{then_pure}
use Rattle.px_counted.specs.Laws.{NeverThrows}
use Rattle.px_counted.proofs.Pieces.{same_rest, IsKnown, known_front, Grows, grows_one, hit_counter, from_one}
use Rattle.px_counted.proofs.Operands.{IsLate, inside, IsPending, CountsHad, CountsLowered, CountsOperand, operand_counts}
use Rattle.px_counted.proofs.Values.{M, F, H, R, with_trees}
use Rattle.px_counted.proofs.Fits.{one_more}

module _ (Q W : Type 0) (ask : Ask Q W) (never : NeverThrows Q W ask) (P : Checked) (code : Code) (source_calls : SourceCalls Q W) (calls : Calls Q W) (n k : ℕ) (counter : Counter) where
  abbrev HereM : Type 0 → Type 0
  HereM A = M Q W ask never P code source_calls calls n k counter A

  abbrev Fs : Draft → ℕ
  Fs o = F Q W ask never P code source_calls calls n k counter o

  abbrev Hs : ℕ → ℕ
  Hs node = H Q W ask never P code source_calls calls n k counter node

  abbrev Rs : {A : Type 0} → (high before after : ℕ) → HereM A → List Tree → Type 0
  Rs = R Q W ask never P code source_calls calls n k counter

  abbrev Op : (given id inner : ℕ) → HereM Value → SourceHere Q W Value → Draft → Operated → Type 0
  Op = CountsOperand Q W ask P code source_calls calls n k counter

  abbrev Low : (given id : ℕ) → HereM Value → SourceHere Q W Value → Draft → Lasted → Type 0
  Low = CountsLowered Q W ask P code source_calls calls n k counter

  abbrev Had' : (given id inner high old new : ℕ) → Had → HereM Value → List Tree → Type 0
  Had' = CountsHad Q W ask P code source_calls calls n k counter

  -- what is counted of statements behind a draft, which do this of the source
  pub record CountsPart (given id inner : ℕ) (r : HereM Value) (o o' : Draft) (trees : List Tree) : Type 0 where
    pub grows : Grows Q W k counter given o.nodes o'.nodes
    pub counts : IsKnown Q W k counter o'.nodes → (e : ℕ) → Fs o' + e ≡ Fs o + given → (1 ≤ e → IsLate counter id inner) → Rs (length o'.slots) 0 e r trees

  last_made : (g id vid : ℕ) (r : HereM Value) (o out : Draft) (token : ℕ) (x : _) (t : _) (y : Counter) (to : Option ℕ) (word : _) (trees trees' : List Tree) → Finishes x to word → out.trees ≡ o.trees ++ trees → out.trees ++ Do (length out.nodes + 1) word ∷ [] ≡ o.trees ++ trees' → Grows Q W k counter g o.nodes out.nodes → (counter ≡ y → 1 ≤ g) → (IsKnown Q W k counter out.nodes → Had' g id vid (length out.slots) (length o.nodes) (length out.nodes) (Made x t y) r trees)
      → CountsPart g id vid r o (record out { trees = out.trees ++ Do (length out.nodes + 1) word ∷ []; nodes = out.nodes ++ node_at P out.method token y ∷ [] }) trees'
  last_made g id vid r o out token x t y to word trees trees' fin are all grows made h =
      let node = length out.nodes + 1 in
      let one = node_at P out.method token y in
      record {
        grows = grows_one Q W k counter g o.nodes out.nodes one y refl made grows;
        counts = λ known e eq l.
            let f = from_one Q W k counter out.nodes one in
            let sum : Fs out + Hs node + e ≡ Fs o + g = ap (λ z. z + e) (sym f) ∙ eq in
            let runs = h (known_front Q W k counter out.nodes (one ∷ []) (out.nodes ++ one ∷ []) refl known) node to word fin (hit_counter Q W k counter out.nodes one y refl known) e sum l in
            let here : out.trees ++ Do node word ∷ [] ≡ o.trees ++ (trees ++ Do node word ∷ []) = ap (λ ts. ts ++ Do node word ∷ []) are ∙ append_assoc o.trees trees (Do node word ∷ []) in
            with_trees Q W ask never P code source_calls calls n k counter (length out.slots) 0 e r (trees ++ Do node word ∷ []) trees' (same_rest _ o.trees _ trees' here all) runs;
      }

  -- a copy
  pub copied : (g id vid : ℕ) (r : HereM Value) (r1 : SourceHere Q W Value) (o : Draft) (x : Operated) (token slot : ℕ) (trees' : List Tree) (i : Op g id vid r r1 o x) → n ≤ length o.slots → x.out.trees ++ Do (length x.out.nodes + 1) (w.Set slot x.operand) ∷ [] ≡ o.trees ++ trees'
      → CountsPart g id vid r o (record x.out { trees = x.out.trees ++ Do (length x.out.nodes + 1) (w.Set slot x.operand) ∷ []; nodes = x.out.nodes ++ node_at P x.out.method token (Completed vid) ∷ [] }) trees'
  copied g id vid r r1 o x token slot trees' i above all =
      let out = x.out in
      let node = length out.nodes + 1 in
      let word = w.Set slot x.operand in
      let one = node_at P out.method token (Completed vid) in
      record {
        grows = grows_one Q W k counter g o.nodes out.nodes one (Completed vid) refl (λ e. i.late (inside e)) i.grows;
        counts = λ known e eq l.
            let f = from_one Q W k counter out.nodes one in
            let sum : Fs out + Hs node + e ≡ Fs o + g = ap (λ z. z + e) (sym f) ∙ eq in
            let runs = one_more Q W ask never P code source_calls calls n k counter g id vid r r1 o x i above (known_front Q W k counter out.nodes (one ∷ []) (out.nodes ++ one ∷ []) refl known) node word (λ slots. tt) pure (λ v s. (v, refl)) (λ h. inside (hit_counter Q W k counter out.nodes one (Completed vid) refl known h)) e sum l in
            let here : out.trees ++ Do node word ∷ [] ≡ o.trees ++ (i.plain.trees ++ Do node word ∷ []) = ap (λ ts. ts ++ Do node word ∷ []) i.plain.trees_are ∙ append_assoc o.trees i.plain.trees (Do node word ∷ []) in
            with_trees Q W ask never P code source_calls calls n k counter (length out.slots) 0 e r (i.plain.trees ++ Do node word ∷ []) trees' (same_rest _ o.trees _ trees' here all)
            (subst (λ (q : HereM Value). Rs (length out.slots) 0 e q (i.plain.trees ++ Do node word ∷ [])) (λ j s. then_pure (r s) j) runs);
      }

  slotted_by : (g id vid : ℕ) (r : HereM Value) (r1 : SourceHere Q W Value) (o out : Draft) (slot for token : ℕ) (had : Had) (trees trees' : List Tree) → n ≤ length o.slots → out.trees ≡ o.trees ++ trees → (slotted P slot for vid token had out).trees ≡ o.trees ++ trees' → Grows Q W k counter g o.nodes out.nodes → (IsPending Q W ask P code source_calls calls n k counter had → 1 ≤ g) → (IsKnown Q W k counter out.nodes → Had' g id vid (length out.slots) (length o.nodes) (length out.nodes) had r trees) → Op g id vid r r1 o (operated P token had out) → CountsPart g id vid r o (slotted P slot for vid token had out) trees'
  slotted_by g id vid r r1 o out slot for token (Held a) trees trees' above are all grows made h i = copied g id vid r r1 o _ for slot trees' i above all
  slotted_by g id vid r r1 o out slot for token (Chosen from) trees trees' above are all grows made h i = copied g id vid r r1 o _ for slot trees' i above all
  slotted_by g id vid r r1 o out slot for token (Made x t y) trees trees' above are all grows made h i = last_made g id vid r o out token x t y (Some slot) (writes x slot) trees trees' (into x slot) are all grows made h

  -- a value in a slot
  pub counts_slot : (g id : ℕ) (r : HereM Value) (r1 : SourceHere Q W Value) (o : Draft) (l : Lasted) (slot for : ℕ) → n ≤ length o.slots → (h : Low g id r r1 o l) → (trees : List Tree) → (slot_of P slot for l).trees ≡ o.trees ++ trees → CountsPart g id l.value.id r o (slot_of P slot for l) trees
  counts_slot g id r r1 o l slot for above h trees all = slotted_by g id l.value.id r r1 o l.out slot for l.value.token l.value.had h.plain.trees trees above h.plain.trees_are all h.grows h.made h.counts (operand_counts Q W ask P code source_calls calls n k counter g id r r1 o l h)

  of_operand : (g id vid : ℕ) (r : HereM Value) (r1 : SourceHere Q W Value) (o : Draft) (x : Operated) (trees : List Tree) → Op g id vid r r1 o x → x.out.trees ≡ o.trees ++ trees → CountsPart g id vid r o x.out trees
  of_operand g id vid r r1 o x trees i all = record {
    grows = i.grows;
    counts = λ known e eq l. with_trees Q W ask never P code source_calls calls n k counter (length x.out.slots) 0 e r i.plain.trees trees (same_rest x.out.trees o.trees i.plain.trees trees i.plain.trees_are all) (i.counts known e eq l);
  }

  unused_by : (g id vid : ℕ) (r : HereM Value) (r1 : SourceHere Q W Value) (o out : Draft) (token : ℕ) (had : Had) (trees trees' : List Tree) → out.trees ≡ o.trees ++ trees → (without_result P token had out).trees ≡ o.trees ++ trees' → Grows Q W k counter g o.nodes out.nodes → (IsPending Q W ask P code source_calls calls n k counter had → 1 ≤ g) → (IsKnown Q W k counter out.nodes → Had' g id vid (length out.slots) (length o.nodes) (length out.nodes) had r trees) → Op g id vid r r1 o (operated P token had out) → CountsPart g id vid r o (without_result P token had out) trees'
  unused_by g id vid r r1 o out token (Held a) trees trees' are all grows made h i = of_operand g id vid r r1 o _ trees' i all
  unused_by g id vid r r1 o out token (Chosen slot) trees trees' are all grows made h i = of_operand g id vid r r1 o _ trees' i all
  unused_by g id vid r r1 o out token (Made (step.Call of method args) t y) trees trees' are all grows made h i = last_made g id vid r o out token (step.Call of method args) t y None (w.Call None of method args) trees trees' (unused of method args) are all grows made h
  unused_by g id vid r r1 o out token (Made (step.Op p a b) t y) trees trees' are all grows made h i = of_operand g id vid r r1 o _ trees' i all
  unused_by g id vid r r1 o out token (Made (step.Get a class field) t y) trees trees' are all grows made h i = of_operand g id vid r r1 o _ trees' i all
  unused_by g id vid r r1 o out token (Made (step.Load a j) t y) trees trees' are all grows made h i = of_operand g id vid r r1 o _ trees' i all
  unused_by g id vid r r1 o out token (Made (step.Len a) t y) trees trees' are all grows made h i = of_operand g id vid r r1 o _ trees' i all
  unused_by g id vid r r1 o out token (Made (step.New class site) t y) trees trees' are all grows made h i = of_operand g id vid r r1 o _ trees' i all
  unused_by g id vid r r1 o out token (Made (step.Array element m site) t y) trees trees' are all grows made h i = of_operand g id vid r r1 o _ trees' i all
  unused_by g id vid r r1 o out token (Made (step.Query statement site params) t y) trees trees' are all grows made h i = of_operand g id vid r r1 o _ trees' i all
  unused_by g id vid r r1 o out token (Made (step.Update statement params) t y) trees trees' are all grows made h i = of_operand g id vid r r1 o _ trees' i all
  unused_by g id vid r r1 o out token (Made (step.Next a) t y) trees trees' are all grows made h i = of_operand g id vid r r1 o _ trees' i all
  unused_by g id vid r r1 o out token (Made (step.Long a j) t y) trees trees' are all grows made h i = of_operand g id vid r r1 o _ trees' i all
  unused_by g id vid r r1 o out token (Made (step.Text a j) t y) trees trees' are all grows made h i = of_operand g id vid r r1 o _ trees' i all

  by_use : (g id : ℕ) (r : HereM Value) (r1 : SourceHere Q W Value) (o : Draft) (l : Lasted) (b : Bool) → (h : Low g id r r1 o l) → (trees : List Tree) → (unused_low P b l).trees ≡ o.trees ++ trees → CountsPart g id l.value.id r o (unused_low P b l) trees
  by_use g id r r1 o l true h trees all = unused_by g id l.value.id r r1 o l.out l.value.token l.value.had h.plain.trees trees h.plain.trees_are all h.grows h.made h.counts (operand_counts Q W ask P code source_calls calls n k counter g id r r1 o l h)
  by_use g id r r1 o l false h trees all = of_operand g id l.value.id r r1 o (operand_of P l) trees (operand_counts Q W ask P code source_calls calls n k counter g id r r1 o l h) all

  -- a value that isn't used
  pub counts_unused : (g id : ℕ) (r : HereM Value) (r1 : SourceHere Q W Value) (o : Draft) (l : Lasted) (b : Bool) → (h : Low g id r r1 o l) → (trees : List Tree) → (unused_low P b l).trees ≡ o.trees ++ trees → CountsPart g id l.value.id r o (unused_low P b l) trees
  counts_unused g id r r1 o l b h trees all = by_use g id r r1 o l b h trees all
