-- What is counted of values in a row, and of a last statement behind them.
use Rattle.std.proofs.Common.{◌≡◌, ℕ, ◌+◌, ◌≤◌, List, [], ◌∷◌, ◌++◌, length, append-nil, Option, refl, sym, ap, subst, arith}
use Rattle.px_value.specs.declared.value.Value.{Value}
use Rattle.px_value.specs.Outcome.{Outcome, Gives, Throws, Asks, then_run, ◌>>=◌, Flow, Goes, goes_on}
use Rattle.px_facts.specs.declared.checked.Checked.{Checked}
use Rattle.px_effects.specs.Run.{Ask}
use Rattle.px_mean.specs.Run.{Frame as SourceFrame, Here as SourceHere, gather}
use Rattle.px_mean.specs.Expressions.{Calls as SourceCalls, this_value}
use Rattle.px_normal.specs.declared.ty.Ty.{Ty}
use Rattle.px_normal.specs.declared.node.Counter.{Counter}
use Rattle.px_normal.specs.declared.node.Counter.TheVariants.{Begun}
use Rattle.px_normal.specs.declared.word.Operand.{Operand}
use Rattle.px_normal.specs.declared.word.Operand.TheVariants.{Slot}
use Rattle.px_normal.specs.declared.word.Word.{Word}
use Rattle.px_normal.specs.declared.method.Tree.{Tree}
use Rattle.px_normal.specs.declared.method.Tree.TheVariants.{Do}
use Rattle.px_normal.specs.declared.code.Code.{Code}
use Rattle.px_normal.specs.Run.{Frame}
use Rattle.px_normal.specs.Words.{operands}
use Rattle.px_normal.specs.CodeRun.{Calls, body_run}
use Rattle.px_lowering.specs.declared.draft.Draft.{Draft}
use Rattle.px_lowering.specs.declared.valued.Step.{Step}
use Rattle.px_lowering.specs.declared.valued.Had.TheVariants.{Made}
use Rattle.px_lowering.specs.Emit.{Lasted, Operated}
use Rattle.px_counts.specs.Marks.{Marked}
use Rattle.px_counts.proofs.Unmarked.{unmarked_frame, SameHere, same_then_here}
use Rattle.px_preservation.proofs.Meets.{Meets}
use Rattle.px_preservation.proofs.Agree.{Agree, After, Shares, Finishes, CallsMeet, IsLowered}
use Rattle.px_preservation.proofs.Afters.{agree_after, grown}
use Rattle.px_preservation.proofs.Runs.{run_append}
use Rattle.px_preservation.proofs.Arguments.{IsRow}
use Rattle.px_counted.specs.Laws.{NeverThrows}
use Rattle.px_counted.proofs.Counts.{AreBehind, Counted, counted_bind}
use Rattle.px_counted.proofs.Pieces.{same_rest, joined, IsKnown, known_front, Grows, grows_none, grows_then, grows_more, grows_up}
use Rattle.px_counted.proofs.Shares.{last_of, alone_of, split_of}
use Rattle.px_counted.proofs.Operands.{IsLate, CountsOperand, CountsLowered, then_counts, marked_runs}
use Rattle.px_counted.proofs.Values.{M, F, H, R, marked, begins, completes, late_once, begins_once, from_zero, with_trees}

module _ (Q W : Type 0) (ask : Ask Q W) (never : NeverThrows Q W ask) (P : Checked) (code : Code) (source_calls : SourceCalls Q W) (calls : Calls Q W) (n k : ℕ) (counter : Counter) (met : CallsMeet Q W ask P code source_calls calls n) where
  abbrev HereM : Type 0 → Type 0
  HereM A = M Q W ask never P code source_calls calls n k counter A

  abbrev Fs : Draft → ℕ
  Fs o = F Q W ask never P code source_calls calls n k counter o

  abbrev Hs : ℕ → ℕ
  Hs node = H Q W ask never P code source_calls calls n k counter node

  abbrev Rs : {A : Type 0} → (high before after : ℕ) → HereM A → List Tree → Type 0
  Rs = R Q W ask never P code source_calls calls n k counter

  abbrev Op : (given id inner : ℕ) → HereM Value → SourceHere Q W Value → Draft → Operated → Type 0
  Op = CountsOperand Q W ask P code source_calls calls n k counter

  abbrev Low : (given id : ℕ) → HereM Value → SourceHere Q W Value → Draft → Lasted → Type 0
  Low = CountsLowered Q W ask P code source_calls calls n k counter

  abbrev marks_of : ℕ → HereM Value → HereM Value
  marks_of id r = marked Q W ask never P code source_calls calls n k counter id r

  abbrev B : ℕ → ℕ
  B id = begins Q W ask never P code source_calls calls n k counter id

  abbrev D : ℕ → ℕ
  D id = completes Q W ask never P code source_calls calls n k counter id

  abbrev IsPlainRow : List (SourceHere Q W Value) → Draft → Draft → List Operand → Type 0
  IsPlainRow = IsRow Q W ask P code source_calls calls n met

  -- what is left behind is due to the last one
  pub record CountsRow (given : ℕ) (Due : Type 0) (rs : List (HereM Value)) (rs' : List (SourceHere Q W Value)) (o out : Draft) (xs : List Operand) : Type 0 where
    pub same : (there : List Value) → SameHere Q W (List Value) (gather there rs) (gather there rs')
    pub plain : IsPlainRow rs' o out xs
    pub grows : Grows Q W k counter given o.nodes out.nodes
    pub due : Due → 1 ≤ given
    pub counts : IsKnown Q W k counter out.nodes → (there : List Value) (e : ℕ) → Fs out + e ≡ Fs o + given → (1 ≤ e → Due) → Rs (length out.slots) 0 e (gather there rs) plain.trees

  abbrev RowEnds : Draft → List Value → List Operand → SourceFrame W → Frame W → List Value → SourceFrame W → Flow Value → Frame W → Type 0
  RowEnds o there xs s c vs s' f c' = (f ≡ Goes) × After W (length o.slots) s s' c c' × (there ++ operands c'.locals xs ≡ vs)

  pub then_row : {A : Type 0} (g : ℕ) (Due : Type 0) (rs : List (HereM Value)) (rs' : List (SourceHere Q W Value)) (o out : Draft) (xs : List Operand) (i : CountsRow g Due rs rs' o out xs) → n ≤ length o.slots → IsKnown Q W k counter out.nodes → (there : List Value) (e : ℕ) → Fs out + e ≡ Fs o + g → (1 ≤ e → Due) → (us : List Tree) (f : List Value → HereM A) (after : ℕ)
      → ((vs : List Value) (s : SourceFrame (Marked W)) (c : Frame W) → vs ≡ there ++ operands c.locals xs → Agree W n (unmarked_frame Q W s) c → length out.slots ≤ length c.locals → AreBehind Q W k counter e s c → Counted Q W k counter after (f vs s) (body_run code ask calls us c))
      → Rs (length out.slots) 0 after (gather there rs >>= f) (i.plain.trees ++ us)
  then_row {A} g Due rs rs' o out xs i above known there e eq late us f after next = λ s c ag big j.
      let u = unmarked_frame Q W s in
      let met0 = i.plain.meets there u c ag big in
      let met1 = subst (λ (y : Outcome Q (SourceFrame W) (List Value)). Meets y (body_run code ask calls i.plain.trees c) (RowEnds o there xs u c) (Shares W)) (sym ((i.same there).at s)) met0 in
      subst (λ (p : Outcome Q (Frame W) (Flow Value)). Counted Q W k counter after (then_run (gather there rs s) f) p) (sym (run_append Q W code ask calls i.plain.trees us c))
      (counted_bind Q W k counter (List Value) (Flow Value) A (Flow Value) (gather there rs s) (body_run code ask calls i.plain.trees c) (RowEnds o there xs u c) (Shares W) e after f (goes_on (body_run code ask calls us)) met1
      (i.counts known there e eq late s c ag big j)
      (λ vs s1 f1 c1 q j1.
      let z = q.1.size in
      subst (λ (y : Flow Value). Counted Q W k counter after (f vs s1) (goes_on (body_run code ask calls us) y c1)) (sym q.0)
      (next vs s1 c1 (sym q.2) (agree_after W n (length o.slots) u (unmarked_frame Q W s1) c c1 above ag q.1) (omega (arith, z, big)) j1)))

  -- ---- rows

  pub row_none : (o : Draft) → IsPlainRow [] o o [] → CountsRow 0 ⊥ [] [] o o []
  row_none o plain = record {
    same = λ there. record { at = λ s. refl };
    plain = plain;
    grows = grows_none Q W k counter 0 o.nodes;
    due = λ e. absurd e;
    counts = λ known there e eq late.
        let z : e ≡ 0 = omega (arith, eq) in
        with_trees Q W ask never P code source_calls calls n k counter (length o.slots) 0 e (gather there []) [] plain.trees (same_rest o.trees o.trees [] plain.trees (sym (append-nil o.trees)) plain.trees_are)
        (subst (λ (m : ℕ). Rs (length o.slots) 0 m (gather there []) []) (sym z) (λ s c ag big j. j));
  }

  same_more : (r : HereM Value) (r1 : SourceHere Q W Value) (rs : List (HereM Value)) (rs' : List (SourceHere Q W Value)) → SameHere Q W Value r r1 → ((there : List Value) → SameHere Q W (List Value) (gather there rs) (gather there rs')) → (there : List Value) → SameHere Q W (List Value) (gather there (r ∷ rs)) (gather there (r1 ∷ rs'))
  same_more r r1 rs rs' h k' there = same_then_here Q W Value (List Value) r r1 (λ a. gather (there ++ a ∷ []) rs) (λ a. gather (there ++ a ∷ []) rs') h (λ a. k' (there ++ a ∷ []))

  -- `this`, which nothing is counted of
  pub row_this : (g : ℕ) (Due : Type 0) (rs : List (HereM Value)) (rs' : List (SourceHere Q W Value)) (o out : Draft) (xs : List Operand) → CountsRow g Due rs rs' o out xs → IsPlainRow (this_value ∷ rs') o out (Slot 0 ∷ xs) → CountsRow g Due (this_value ∷ rs) (this_value ∷ rs') o out (Slot 0 ∷ xs)
  row_this g Due rs rs' o out xs i plain = record {
    same = same_more this_value this_value rs rs' (record { at = λ s. refl }) i.same;
    plain = plain;
    grows = i.grows;
    due = i.due;
    counts = λ known there e eq late.
        with_trees Q W ask never P code source_calls calls n k counter (length out.slots) 0 e (gather there (this_value ∷ rs)) i.plain.trees plain.trees (same_rest out.trees o.trees i.plain.trees plain.trees i.plain.trees_are plain.trees_are)
        (λ s c ag big j. i.counts known (there ++ _ ∷ []) e eq late s c ag big j);
  }

  -- the last one
  pub row_last : (g id vid : ℕ) (r : HereM Value) (r1 : SourceHere Q W Value) (o : Draft) (a : Operated) → Op g id vid r r1 o a → IsPlainRow (r1 ∷ []) o a.out (a.operand ∷ []) → CountsRow g (IsLate counter id vid) (r ∷ []) (r1 ∷ []) o a.out (a.operand ∷ [])
  row_last g id vid r r1 o a i plain = record {
    same = same_more r r1 [] [] i.same (λ there. record { at = λ s. refl });
    plain = plain;
    grows = i.grows;
    due = i.late;
    counts = λ known there e eq late.
        with_trees Q W ask never P code source_calls calls n k counter (length a.out.slots) 0 e (gather there (r ∷ [])) i.plain.trees plain.trees (same_rest a.out.trees o.trees i.plain.trees plain.trees i.plain.trees_are plain.trees_are)
        (λ s c ag big j. gives_row there e (r s) (body_run code ask calls i.plain.trees c) (i.counts known e eq late s c ag big j));
  }
    where
      gives_row : (there : List Value) (e : ℕ) (o : Outcome Q (SourceFrame (Marked W)) Value) (p : Outcome Q (Frame W) (Flow Value)) → Counted Q W k counter e o p → Counted Q W k counter e (then_run o (λ v. gather (there ++ v ∷ []) [])) p
      gives_row there e (Gives v s) (Gives b c) h = h
      gives_row there e (Gives v s) (Throws t c) h = tt
      gives_row there e (Gives v s) (Asks q c) h = tt
      gives_row there e (Throws t s) (Gives b c) h = tt
      gives_row there e (Throws t s) (Throws u c) h = h
      gives_row there e (Throws t s) (Asks q c) h = tt
      gives_row there e (Asks q s) p h = tt

  -- one before others
  pub row_more : (g1 id vid g2 : ℕ) (Due : Type 0) (r : HereM Value) (r1 : SourceHere Q W Value) (rs : List (HereM Value)) (rs' : List (SourceHere Q W Value)) (o : Draft) (a : Operated) (out : Draft) (xs : List Operand) → n ≤ length o.slots → Op g1 id vid r r1 o a → CountsRow g2 Due rs rs' a.out out xs → IsPlainRow (r1 ∷ rs') o out (a.operand ∷ xs) → g1 + g2 ≤ 1 → CountsRow (g1 + g2) Due (r ∷ rs) (r1 ∷ rs') o out (a.operand ∷ xs)
  row_more g1 id vid g2 Due r r1 rs rs' o a out xs above i j plain few =
      let both = grows_then Q W k counter g1 g2 (g1 + g2) o.nodes a.out.nodes out.nodes refl i.grows j.grows in
      record {
        same = same_more r r1 rs rs' i.same j.same;
        plain = plain;
        grows = both;
        due = λ e. let z = j.due e in omega (arith, z);
        counts = λ known there e eq late.
            let known1 = known_front Q W k counter a.out.nodes j.grows.more out.nodes j.grows.nodes_are known in
            let up1 = grows_up Q W k counter g1 o.nodes a.out.nodes i.grows in
            let most1 = i.grows.few known1 in
            let most2 = j.grows.few known in
            let u = split_of (Fs o) (Fs a.out) (Fs out) g1 g2 e few up1 most1 most2 eq (λ h. j.due (late h)) in
            let wide = grown a.out.slots out.slots j.plain.temps j.plain.slots_are in
            with_trees Q W ask never P code source_calls calls n k counter (length out.slots) 0 e (gather there (r ∷ rs)) (i.plain.trees ++ j.plain.trees) plain.trees (same_rest out.trees o.trees (i.plain.trees ++ j.plain.trees) plain.trees (joined o.trees a.out.trees out.trees i.plain.trees j.plain.trees i.plain.trees_are j.plain.trees_are) plain.trees_are)
            (then_counts Q W ask P code source_calls calls n k counter g1 id vid r r1 o a i above known1 0 u.first (λ h. absurd (omega (arith, h))) j.plain.trees (λ v. gather (there ++ v ∷ []) rs) e (length out.slots) wide
            (λ v s c value ag big m. j.counts known (there ++ v ∷ []) e u.second late s c ag big m));
      }

  -- ---- a last statement

  -- the last statement runs once beside what the source does then
  abbrev pub StepRuns : (List Value → HereM Value) → Step → List Operand → Type 0
  StepRuns f x xs = (node : ℕ) (to : Option ℕ) (word : Word) → Finishes x to word → (vs : List Value) (s : SourceFrame (Marked W)) (c : Frame W) → vs ≡ operands c.locals xs → Agree W n (unmarked_frame Q W s) c → AreBehind Q W k counter (Hs node) s c → Counted Q W k counter 0 (f vs s) (body_run code ask calls (Do node word ∷ []) c)

  pub counts_row : (g : ℕ) (Due : Type 0) (rs : List (HereM Value)) (rs' : List (SourceHere Q W Value)) (o out : Draft) (xs : List Operand) (i : CountsRow g Due rs rs' o out xs) → n ≤ length o.slots → (f : List Value → HereM Value) (x : Step) → StepRuns f x xs → (t : Ty) (y : Counter) → (counter ≡ y → Due) → (id token : ℕ) (r' : SourceHere Q W Value) → SameHere Q W Value (marks_of id (gather [] rs >>= f)) r' → IsLowered Q W ask P code source_calls calls n r' o (record { out = out; value = record { id = id; token = token; had = Made x t y } }) → (B id + D id) + g ≤ 1
      → Low ((B id + D id) + g) id (marks_of id (gather [] rs >>= f)) r' o (record { out = out; value = record { id = id; token = token; had = Made x t y } })
  counts_row g Due rs rs' o out xs i above f x runs t y late1 id token r' same plain few = record {
    same = same;
    plain = plain;
    grows = grows_more Q W k counter g ((B id + D id) + g) o.nodes out.nodes (omega (arith)) i.grows;
    late = λ l. let z = late_once Q W ask never P code source_calls calls n k counter id l in omega (arith, z);
    made = λ e. let z = i.due (late1 e) in omega (arith, z);
    counts = λ known node to word fin hc e eq late.
        let up = grows_up Q W k counter g o.nodes out.nodes i.grows in
        let most = i.grows.few known in
        let l = last_of (Fs o) (Fs out) g (B id + D id) (B id) (D id) (Hs node) e (omega (arith)) few up most eq (λ h. i.due (late1 (hc h))) (λ h. late_once Q W ask never P code source_calls calls n k counter id (late h)) in
        let begun = l.begun in let left = l.left in
        let last = then_row g Due rs rs' o out xs i above known [] (Hs node) l.parts (λ h. late1 (hc h)) (Do node word ∷ []) f 0 (λ vs s c values ag big j. runs node to word fin vs s c values ag j) in
        with_trees Q W ask never P code source_calls calls n k counter (length out.slots) 0 e (marks_of id (gather [] rs >>= f)) (i.plain.trees ++ Do node word ∷ []) (plain.trees ++ Do node word ∷ []) (ap (λ ts. ts ++ Do node word ∷ []) (same_rest out.trees o.trees i.plain.trees plain.trees i.plain.trees_are plain.trees_are))
        (marked_runs Q W ask P code source_calls calls n k counter id (length out.slots) 0 e (gather [] rs >>= f) (i.plain.trees ++ Do node word ∷ []) (omega (arith, left)) (from_zero Q W ask never P code source_calls calls n k counter (length out.slots) (B id) 0 (gather [] rs >>= f) (i.plain.trees ++ Do node word ∷ []) begun last));
  }

  -- behind nothing that is counted
  abbrev pub FirstRuns : HereM Value → Step → Type 0
  FirstRuns r x = (node : ℕ) (to : Option ℕ) (word : Word) → Finishes x to word → (s : SourceFrame (Marked W)) (c : Frame W) → Agree W n (unmarked_frame Q W s) c → AreBehind Q W k counter (Hs node) s c → Counted Q W k counter 0 (r s) (body_run code ask calls (Do node word ∷ []) c)

  pub counts_first : (r : HereM Value) (r' : SourceHere Q W Value) (o : Draft) (x : Step) → FirstRuns r x → (t : Ty) (y : Counter) (id token : ℕ) → (counter ≡ y → counter ≡ Begun id) → SameHere Q W Value (marks_of id r) r' → IsLowered Q W ask P code source_calls calls n r' o (record { out = o; value = record { id = id; token = token; had = Made x t y } }) → B id + D id ≤ 1 → Low (B id + D id) id (marks_of id r) r' o (record { out = o; value = record { id = id; token = token; had = Made x t y } })
  counts_first r r' o x runs t y id token begun_is same plain few = record {
    same = same;
    plain = plain;
    grows = grows_none Q W k counter (B id + D id) o.nodes;
    late = λ l. let z = late_once Q W ask never P code source_calls calls n k counter id l in omega (arith, z);
    made = λ e. let z = begins_once Q W ask never P code source_calls calls n k counter id (begun_is e) in omega (arith, z);
    counts = λ known node to word fin hc e eq late.
        let l = alone_of (Fs o) (B id + D id) (B id) (D id) (Hs node) e (omega (arith)) few (λ h. h) eq (λ h. begins_once Q W ask never P code source_calls calls n k counter id (begun_is (hc h))) (λ h. late_once Q W ask never P code source_calls calls n k counter id (late h)) in
        let begun = l.begun in let left = l.left in
        let last : Rs (length o.slots) (Hs node) 0 r (Do node word ∷ []) = λ s c ag size j. runs node to word fin s c ag j in
        with_trees Q W ask never P code source_calls calls n k counter (length o.slots) 0 e (marks_of id r) (Do node word ∷ []) (plain.trees ++ Do node word ∷ []) (ap (λ ts. ts ++ Do node word ∷ []) (same_rest o.trees o.trees [] plain.trees (sym (append-nil o.trees)) plain.trees_are))
        (marked_runs Q W ask P code source_calls calls n k counter id (length o.slots) 0 e r (Do node word ∷ []) (omega (arith, left)) (subst (λ (m : ℕ). Rs (length o.slots) m 0 r (Do node word ∷ [])) (sym begun) last));
  }
