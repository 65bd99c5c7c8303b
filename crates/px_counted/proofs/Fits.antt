-- What is counted of a value that is widened or copied, and of parentheses.
use Rattle.std.proofs.Common.{◌≡◌, ℕ, ℤ, zero, suc, ◌+◌, ◌≤◌, List, [], ◌∷◌, ◌++◌, length, None, Ok, Err, refl, sym, ap, subst, arith}
use Rattle.px_value.specs.declared.value.Value.{Value}
use Rattle.px_value.specs.declared.value.Value.TheVariants.{Int, Long, Bool as Truth, Text, Null, Ref}
use Rattle.px_value.specs.declared.op.Op.TheVariants as op
use Rattle.px_value.specs.Operators.{apply, Applied}
use Rattle.px_value.specs.Outcome.{Outcome, Gives, Throws, Asks, then_run, ◌>>=◌, pure, Flow}
use Rattle.px_facts.specs.declared.types.Ty.{Ty as Static}
use Rattle.px_facts.specs.declared.types.Ty.TheVariants as static
use Rattle.px_facts.specs.declared.checked.Checked.{Checked}
use Rattle.px_effects.specs.Run.{Ask, came_to}
use Rattle.px_mean.specs.Run.{Frame as SourceFrame, Here as SourceHere}
use Rattle.px_mean.specs.Expressions.{Calls as SourceCalls, fit, widened}
use Rattle.px_normal.specs.declared.node.Counter.{Counter}
use Rattle.px_normal.specs.declared.word.Operand.TheVariants.{Slot, Literal}
use Rattle.px_normal.specs.declared.word.Word.{Word}
use Rattle.px_normal.specs.declared.method.Tree.{Tree}
use Rattle.px_normal.specs.declared.method.Tree.TheVariants.{Do}
use Rattle.px_normal.specs.declared.code.Code.{Code}
use Rattle.px_normal.specs.First.{Slots}
use Rattle.px_normal.specs.Run.{Frame}
use Rattle.px_normal.specs.Words.{does_of}
use Rattle.px_normal.specs.CodeRun.{Calls, body_run}
use Rattle.px_lowering.specs.declared.draft.Draft.{Draft}
use Rattle.px_lowering.specs.declared.valued.Step.TheVariants as step
use Rattle.px_lowering.specs.declared.valued.Had.{Had}
use Rattle.px_lowering.specs.declared.valued.Had.TheVariants.{Held, Chosen, Made}
use Rattle.px_lowering.specs.Emit.{Lasted, Operated, operated, widened_operand, widened as widened_low, fitted}
use Rattle.px_counts.specs.Marks.{Marked}
use Rattle.px_counts.proofs.Unmarked.{SameHere, same_then_here}
use Rattle.px_preservation.proofs.Agree.{CallsMeet, IsLowered}
use Rattle.px_preservation.proofs.Fitted.{fits, then_pure}
use Rattle.px_counted.specs.Laws.{NeverThrows}
use Rattle.px_counted.proofs.Counts.{Counted}
use Rattle.px_counted.proofs.Steps.{IsWork, step_works, word_gives}
use Rattle.px_counted.proofs.Pieces.{same_rest, IsKnown, Grows, grows_more, grows_up}
use Rattle.px_counted.proofs.Operands.{IsLate, own, inside, IsPending, CountsHad, CountsLowered, CountsOperand, then_counts, operand_counts, marked_runs}
use Rattle.px_counted.proofs.Values.{M, F, H, R, marked, begins, completes, completes_once, from_zero, with_trees}

widens : (v : Value) → (u : Value) × (apply op.Widen v v ≡ Ok u)
unfolding apply
widens (Int i) = (_, refl)
widens (Long i) = (_, refl)
widens (Truth b) = (_, refl)
widens (Text bytes) = (_, refl)
widens (Ref object) = (_, refl)
widens Null = (_, refl)

-- what is left of an expression in parentheses
pub record Grouped (old new g b d h e : ℕ) : Type 0 where
  pub rest : ℕ
  pub begun : b ≡ 0
  pub left : e ≡ rest + d
  pub parts : new + h + rest ≡ old + g
  pub apart : 1 ≤ rest → d ≡ 0

pub grouped_of : (old new g self b d h e : ℕ) → self ≡ b + d → self + g ≤ 1 → old ≤ new → new ≤ old + g → new + h + e ≡ old + (self + g) → (1 ≤ h → 1 ≤ g) → (1 ≤ e → 1 ≤ d + g) → Grouped old new g b d h e
grouped_of old new g self b d zero zero o few up most all k l = record { rest = 0; begun = omega (arith, o, few, up, most, all); left = omega (arith, o, few, up, most, all); parts = omega (arith, o, few, up, most, all); apart = λ r. omega (arith, r) }
grouped_of old new g self b d (suc h) zero o few up most all k l = let x = k (omega (arith)) in record { rest = 0; begun = omega (arith, o, few, up, most, all, x); left = omega (arith, o, few, up, most, all, x); parts = omega (arith, o, few, up, most, all, x); apart = λ r. omega (arith, r) }
grouped_of old new zero self b d zero (suc e) o few up most all k l = let y = l (omega (arith)) in record { rest = 0; begun = omega (arith, o, few, up, most, all, y); left = omega (arith, o, few, up, most, all, y); parts = omega (arith, o, few, up, most, all, y); apart = λ r. omega (arith, r) }
grouped_of old new zero self b d (suc h) (suc e) o few up most all k l = let x = k (omega (arith)) in absurd (omega (arith, x))
grouped_of old new (suc g) self b d h (suc e) o few up most all k l = record { rest = suc e; begun = omega (arith, o, few); left = omega (arith, o, few); parts = omega (arith, o, few, all); apart = λ r. omega (arith, o, few) }

module _ (Q W : Type 0) (ask : Ask Q W) (never : NeverThrows Q W ask) (P : Checked) (code : Code) (source_calls : SourceCalls Q W) (calls : Calls Q W) (n k : ℕ) (counter : Counter) where
  abbrev HereM : Type 0 → Type 0
  HereM A = M Q W ask never P code source_calls calls n k counter A

  abbrev Fs : Draft → ℕ
  Fs o = F Q W ask never P code source_calls calls n k counter o

  abbrev Hs : ℕ → ℕ
  Hs node = H Q W ask never P code source_calls calls n k counter node

  abbrev Rs : {A : Type 0} → (high before after : ℕ) → HereM A → List Tree → Type 0
  Rs = R Q W ask never P code source_calls calls n k counter

  abbrev Op : (given id inner : ℕ) → HereM Value → SourceHere Q W Value → Draft → Operated → Type 0
  Op = CountsOperand Q W ask P code source_calls calls n k counter

  abbrev Low : (given id : ℕ) → HereM Value → SourceHere Q W Value → Draft → Lasted → Type 0
  Low = CountsLowered Q W ask P code source_calls calls n k counter

  abbrev Had' : (given id inner high old new : ℕ) → Had → HereM Value → List Tree → Type 0
  Had' = CountsHad Q W ask P code source_calls calls n k counter

  -- it only comes to a value
  abbrev pub OnlyGives : {A : Type 0} → (Value → HereM A) → Type 0
  OnlyGives {A} f = (v : Value) (s : SourceFrame (Marked W)) → (u : A) × (f v s ≡ Gives u s)

  gives_at : {A : Type 0} (e : ℕ) (f : Value → HereM A) → OnlyGives f → (o : Outcome Q (SourceFrame (Marked W)) Value) (p : Outcome Q (Frame W) (Flow Value)) → Counted Q W k counter e o p → Counted Q W k counter e (then_run o f) p
  gives_at e f quiet (Gives v s) p h = subst (λ (x : Outcome Q (SourceFrame (Marked W)) _). Counted Q W k counter e x p) (sym ((quiet v s).1)) (again p h)
    where
      again : (p : Outcome Q (Frame W) (Flow Value)) → Counted Q W k counter e (Gives v s) p → Counted Q W k counter e (Gives ((quiet v s).0) s) p
      again (Gives b c) h = h
      again (Throws t c) h = tt
      again (Asks q c) h = tt
  gives_at e f quiet (Throws t s) (Gives b c) h = tt
  gives_at e f quiet (Throws t s) (Throws u c) h = h
  gives_at e f quiet (Throws t s) (Asks q c) h = tt
  gives_at e f quiet (Asks q s) p h = tt

  pub then_gives : {A : Type 0} (high before after : ℕ) (r : HereM Value) (f : Value → HereM A) (ts : List Tree) → OnlyGives f → Rs high before after r ts → Rs high before after (r >>= f) ts
  then_gives high before after r f ts quiet h = λ s c g size j. gives_at after f quiet (r s) (body_run code ask calls ts c) (h s c g size j)

  -- one more statement, for what only comes to a value
  pub one_more : {A : Type 0} (g id inner : ℕ) (r : HereM Value) (r1 : SourceHere Q W Value) (o : Draft) (x : Operated) (i : Op g id inner r r1 o x) → n ≤ length o.slots → IsKnown Q W k counter x.out.nodes → (node : ℕ) (word : Word) → ((slots : Slots) → IsWork Q W ask code calls k counter never (does_of code word slots)) → (f : Value → HereM A) → OnlyGives f → (1 ≤ Hs node → IsLate counter id inner) → (e : ℕ) → Fs x.out + Hs node + e ≡ Fs o + g → (1 ≤ e → IsLate counter id inner)
      → Rs (length x.out.slots) 0 e (r >>= f) (i.plain.trees ++ Do node word ∷ [])
  one_more {A} g id inner r r1 o x i above known node word works f quiet hc e eq late =
      then_counts Q W ask P code source_calls calls n k counter g id inner r r1 o x i above known (Hs node + e) (omega (arith, eq)) (either (Hs node) hc) (Do node word ∷ []) f e (length x.out.slots) (omega (arith))
      (λ v s c value agree size j. subst (λ (y : Outcome Q (SourceFrame (Marked W)) A). Counted Q W k counter e y (body_run code ask calls (Do node word ∷ []) c)) (sym ((quiet v s).1)) (word_gives Q W ask code calls k counter never A node e word ((quiet v s).0) s c (works c.locals) j))
    where
      either : (h : ℕ) → (1 ≤ h → IsLate counter id inner) → 1 ≤ h + e → IsLate counter id inner
      either zero k' l = late (omega (arith, l))
      either (suc h) k' l = k' (omega (arith))

  -- ---- fitting

  fit_gives : OnlyGives (fit static.Int static.Long)
  fit_gives v s = let w = widens v in (w.0, ap (λ a. came_to {Q = Q} a s) w.1)

  widened_op : (g id : ℕ) (r : HereM Value) (r1 r' : SourceHere Q W Value) (o : Draft) (x : Operated) (vid token : ℕ) (i : Op g id vid r r1 o x) → n ≤ length o.slots → SameHere Q W Value (r >>= fit static.Int static.Long) r' → IsLowered Q W ask P code source_calls calls n r' o (widened_operand vid token x) → Low g id (r >>= fit static.Int static.Long) r' o (widened_operand vid token x)
  widened_op g id r r1 r' o x vid token i above same plain = record {
    same = same;
    plain = plain;
    grows = i.grows;
    late = i.late;
    made = λ e. i.late (inside e);
    counts = λ known node to word fin hc e eq late.
        with_trees Q W ask never P code source_calls calls n k counter (length x.out.slots) 0 e (r >>= fit static.Int static.Long) (i.plain.trees ++ Do node word ∷ []) (plain.trees ++ Do node word ∷ []) (ap (λ ts. ts ++ Do node word ∷ []) (same_rest x.out.trees o.trees i.plain.trees plain.trees i.plain.trees_are plain.trees_are))
        (one_more g id vid r r1 o x i above known node word (step_works Q W ask code calls k counter never (step.Op op.Widen x.operand None) to word fin tt) (fit static.Int static.Long) fit_gives (λ h. inside (hc h)) e eq late);
  }

  widened_literal : (g id : ℕ) (r : HereM Value) (r1 r' : SourceHere Q W Value) (o out : Draft) (vid token : ℕ) (i : ℤ) (trees : List Tree) → out.trees ≡ o.trees ++ trees → Grows Q W k counter g o.nodes out.nodes → (IsLate counter id vid → 1 ≤ g) → (IsKnown Q W k counter out.nodes → Had' g id vid (length out.slots) (length o.nodes) (length out.nodes) (Held (Literal (Int i))) r trees) → SameHere Q W Value (r >>= fit static.Int static.Long) r' → IsLowered Q W ask P code source_calls calls n r' o (record { out = out; value = record { id = vid; token = token; had = Held (Literal (Long i)) } }) → Low g id (r >>= fit static.Int static.Long) r' o (record { out = out; value = record { id = vid; token = token; had = Held (Literal (Long i)) } })
  widened_literal g id r r1 r' o out vid token i trees are grows late counts same plain = record {
    same = same;
    plain = plain;
    grows = grows;
    late = late;
    made = λ e. absurd e;
    counts = λ known e eq l.
        with_trees Q W ask never P code source_calls calls n k counter (length out.slots) 0 e (r >>= fit static.Int static.Long) trees plain.trees (same_rest out.trees o.trees trees plain.trees are plain.trees_are)
        (then_gives (length out.slots) 0 e r (fit static.Int static.Long) trees fit_gives (counts known e eq l));
  }

  widened_by : (g id : ℕ) (r : HereM Value) (r1 r' : SourceHere Q W Value) (o out : Draft) (vid token : ℕ) (had : Had) (trees : List Tree) → n ≤ length o.slots → out.trees ≡ o.trees ++ trees → Grows Q W k counter g o.nodes out.nodes → (IsLate counter id vid → 1 ≤ g) → (IsKnown Q W k counter out.nodes → Had' g id vid (length out.slots) (length o.nodes) (length out.nodes) had r trees) → Op g id vid r r1 o (operated P token had out) → SameHere Q W Value (r >>= fit static.Int static.Long) r' → IsLowered Q W ask P code source_calls calls n r' o (widened_low P vid token had out) → Low g id (r >>= fit static.Int static.Long) r' o (widened_low P vid token had out)
  widened_by g id r r1 r' o out vid token (Held (Literal (Int i))) trees above are grows late h j same plain = widened_literal g id r r1 r' o out vid token i trees are grows late h same plain
  widened_by g id r r1 r' o out vid token (Held (Literal (Long i))) trees above are grows late h j same plain = widened_op g id r r1 r' o _ vid token j above same plain
  widened_by g id r r1 r' o out vid token (Held (Literal (Truth b))) trees above are grows late h j same plain = widened_op g id r r1 r' o _ vid token j above same plain
  widened_by g id r r1 r' o out vid token (Held (Literal (Text bytes))) trees above are grows late h j same plain = widened_op g id r r1 r' o _ vid token j above same plain
  widened_by g id r r1 r' o out vid token (Held (Literal (Ref object))) trees above are grows late h j same plain = widened_op g id r r1 r' o _ vid token j above same plain
  widened_by g id r r1 r' o out vid token (Held (Literal Null)) trees above are grows late h j same plain = widened_op g id r r1 r' o _ vid token j above same plain
  widened_by g id r r1 r' o out vid token (Held (Slot m)) trees above are grows late h j same plain = widened_op g id r r1 r' o _ vid token j above same plain
  widened_by g id r r1 r' o out vid token (Chosen slot) trees above are grows late h j same plain = widened_op g id r r1 r' o _ vid token j above same plain
  widened_by g id r r1 r' o out vid token (Made x t y) trees above are grows late h j same plain = widened_op g id r r1 r' o _ vid token j above same plain

  -- a value that stays as it is
  kept : (g id : ℕ) (r : HereM Value) (r1 : SourceHere Q W Value) (o : Draft) (l : Lasted) → Low g id r r1 o l → Low g id (r >>= pure) (r1 >>= pure) o l
  kept g id r r1 o l h = subst (λ (q : SourceHere Q W Value). Low g id (r >>= pure) q o l) (λ i s. sym (then_pure (r1 s)) i) (subst (λ (q : HereM Value). Low g id q r1 o l) (λ i s. sym (then_pure (r s)) i) h)

  same_came : (a : Applied) → SameHere Q W Value (came_to a) (came_to a)
  same_came (Ok v) = record { at = λ s. refl }
  same_came (Err t) = record { at = λ s. refl }

  pub same_fit : (from to : Static) (r : HereM Value) (r1 : SourceHere Q W Value) → SameHere Q W Value r r1 → SameHere Q W Value (r >>= fit from to) (r1 >>= fit from to)
  same_fit from to r r1 h = same_then_here Q W Value Value r r1 (fit from to) (fit from to) h (λ v. same_came (widened from to v))

  module _ (met : CallsMeet Q W ask P code source_calls calls n) where
    int_to_long : (g id : ℕ) (r : HereM Value) (r1 : SourceHere Q W Value) (o : Draft) (l : Lasted) → n ≤ length o.slots → Low g id r r1 o l → Low g id (r >>= fit static.Int static.Long) (r1 >>= fit static.Int static.Long) o (fitted P static.Int static.Long l.value.id l.value.token l.value.had l.out)
    int_to_long g id r r1 o l above h = widened_by g id r r1 (r1 >>= fit static.Int static.Long) o l.out l.value.id l.value.token l.value.had h.plain.trees above h.plain.trees_are h.grows h.late h.counts (operand_counts Q W ask P code source_calls calls n k counter g id r r1 o l h) (same_fit static.Int static.Long r r1 h.same) (fits Q W ask P code source_calls calls n met static.Int static.Long r1 o l h.plain)

    pub counts_fit : (from to : Static) (g id : ℕ) (r : HereM Value) (r1 : SourceHere Q W Value) (o : Draft) (l : Lasted) → n ≤ length o.slots → Low g id r r1 o l → Low g id (r >>= fit from to) (r1 >>= fit from to) o (fitted P from to l.value.id l.value.token l.value.had l.out)
    counts_fit static.Int static.Long g id r r1 o l above h = int_to_long g id r r1 o l above h
    counts_fit static.Int static.Int g id r r1 o l above h = kept g id r r1 o l h
    counts_fit static.Int static.Boolean g id r r1 o l above h = kept g id r r1 o l h
    counts_fit static.Int (static.Object class) g id r r1 o l above h = kept g id r r1 o l h
    counts_fit static.Int (static.Array element) g id r r1 o l above h = kept g id r r1 o l h
    counts_fit static.Int static.ResultSet g id r r1 o l above h = kept g id r r1 o l h
    counts_fit static.Int static.Text g id r r1 o l above h = kept g id r r1 o l h
    counts_fit static.Int static.Null g id r r1 o l above h = kept g id r r1 o l h
    counts_fit static.Int static.Void g id r r1 o l above h = kept g id r r1 o l h
    counts_fit static.Int static.Unknown g id r r1 o l above h = kept g id r r1 o l h
    counts_fit static.Long to g id r r1 o l above h = kept g id r r1 o l h
    counts_fit static.Boolean to g id r r1 o l above h = kept g id r r1 o l h
    counts_fit (static.Object class) to g id r r1 o l above h = kept g id r r1 o l h
    counts_fit (static.Array element) to g id r r1 o l above h = kept g id r r1 o l h
    counts_fit static.ResultSet to g id r r1 o l above h = kept g id r r1 o l h
    counts_fit static.Text to g id r r1 o l above h = kept g id r r1 o l h
    counts_fit static.Null to g id r r1 o l above h = kept g id r r1 o l h
    counts_fit static.Void to g id r r1 o l above h = kept g id r r1 o l h
    counts_fit static.Unknown to g id r r1 o l above h = kept g id r r1 o l h

  -- ---- parentheses

  late_apart : (id id1 vid : ℕ) → IsLate counter id vid → completes Q W ask never P code source_calls calls n k counter id ≡ 0 → IsLate counter id1 vid
  late_apart id id1 vid (own e) z = absurd (let x = completes_once Q W ask never P code source_calls calls n k counter id e in omega (arith, x, z))
  late_apart id id1 vid (inside e) z = inside e

  late_some : (g id id1 vid : ℕ) → (IsLate counter id1 vid → 1 ≤ g) → IsLate counter id vid → 1 ≤ completes Q W ask never P code source_calls calls n k counter id + g
  late_some g id id1 vid some (own e) = let x = completes_once Q W ask never P code source_calls calls n k counter id e in omega (arith, x)
  late_some g id id1 vid some (inside e) = let x = some (inside e) in omega (arith, x)

  abbrev B : ℕ → ℕ
  B id = begins Q W ask never P code source_calls calls n k counter id

  abbrev D : ℕ → ℕ
  D id = completes Q W ask never P code source_calls calls n k counter id

  group_had : (g id id1 : ℕ) (r : HereM Value) (o out : Draft) (vid : ℕ) (had : Had) (trees trees' : List Tree) → trees ≡ trees' → (B id + D id) + g ≤ 1 → Fs o ≤ Fs out → Fs out ≤ Fs o + g → (IsLate counter id1 vid → 1 ≤ g) → (IsPending Q W ask P code source_calls calls n k counter had → 1 ≤ g) → Had' g id1 vid (length out.slots) (length o.nodes) (length out.nodes) had r trees → Had' ((B id + D id) + g) id vid (length out.slots) (length o.nodes) (length out.nodes) had (marked Q W ask never P code source_calls calls n k counter id r) trees'
  group_had g id id1 r o out vid (Held a) trees trees' same few up most some made h = λ e eq late.
      let z = grouped_of (Fs o) (Fs out) g (B id + D id) (B id) (D id) 0 e refl few up most (omega (arith, eq)) (λ x. omega (arith, x)) (λ x. late_some g id id1 vid some (late x)) in
      let begun = z.begun in let left = z.left in let parts = z.parts in
      with_trees Q W ask never P code source_calls calls n k counter (length out.slots) 0 e (marked Q W ask never P code source_calls calls n k counter id r) trees trees' same
      (marked_runs Q W ask P code source_calls calls n k counter id (length out.slots) z.rest e r trees left (from_zero Q W ask never P code source_calls calls n k counter (length out.slots) (B id) z.rest r trees begun
      (h z.rest (omega (arith, parts)) (λ x. late_apart id id1 vid (late (omega (arith, x, left))) (z.apart x)))))
  group_had g id id1 r o out vid (Chosen slot) trees trees' same few up most some made h = λ e eq late.
      let z = grouped_of (Fs o) (Fs out) g (B id + D id) (B id) (D id) 0 e refl few up most (omega (arith, eq)) (λ x. omega (arith, x)) (λ x. late_some g id id1 vid some (late x)) in
      let begun = z.begun in let left = z.left in let parts = z.parts in
      with_trees Q W ask never P code source_calls calls n k counter (length out.slots) 0 e (marked Q W ask never P code source_calls calls n k counter id r) trees trees' same
      (marked_runs Q W ask P code source_calls calls n k counter id (length out.slots) z.rest e r trees left (from_zero Q W ask never P code source_calls calls n k counter (length out.slots) (B id) z.rest r trees begun
      (h z.rest (omega (arith, parts)) (λ x. late_apart id id1 vid (late (omega (arith, x, left))) (z.apart x)))))
  group_had g id id1 r o out vid (Made x t y) trees trees' same few up most some made h = λ node to word fin hc e eq late.
      let z = grouped_of (Fs o) (Fs out) g (B id + D id) (B id) (D id) (Hs node) e refl few up most eq (λ u. made (hc u)) (λ u. late_some g id id1 vid some (late u)) in
      let begun = z.begun in let left = z.left in let parts = z.parts in
      with_trees Q W ask never P code source_calls calls n k counter (length out.slots) 0 e (marked Q W ask never P code source_calls calls n k counter id r) (trees ++ Do node word ∷ []) (trees' ++ Do node word ∷ []) (ap (λ ts. ts ++ Do node word ∷ []) same)
      (marked_runs Q W ask P code source_calls calls n k counter id (length out.slots) z.rest e r (trees ++ Do node word ∷ []) left (from_zero Q W ask never P code source_calls calls n k counter (length out.slots) (B id) z.rest r (trees ++ Do node word ∷ []) begun
      (h node to word fin hc z.rest parts (λ u. late_apart id id1 vid (late (omega (arith, u, left))) (z.apart u)))))

  -- the same value, with marks of its own
  pub counts_group : (g id id1 : ℕ) (r : HereM Value) (r1 r' : SourceHere Q W Value) (o : Draft) (l : Lasted) → Low g id1 r r1 o l → SameHere Q W Value (marked Q W ask never P code source_calls calls n k counter id r) r' → IsLowered Q W ask P code source_calls calls n r' o l → (B id + D id) + g ≤ 1 → Low ((B id + D id) + g) id (marked Q W ask never P code source_calls calls n k counter id r) r' o l
  counts_group g id id1 r r1 r' o l h same plain few = record {
    same = same;
    plain = plain;
    grows = grows_more Q W k counter g ((B id + D id) + g) o.nodes l.out.nodes (omega (arith)) h.grows;
    late = λ e. let z = late_some g id id1 l.value.id h.late e in omega (arith, z);
    made = λ e. let z = h.made e in omega (arith, z);
    counts = λ known. group_had g id id1 r o l.out l.value.id l.value.had h.plain.trees plain.trees (same_rest l.out.trees o.trees h.plain.trees plain.trees h.plain.trees_are plain.trees_are) few (grows_up Q W k counter g o.nodes l.out.nodes h.grows) (h.grows.few known) h.late h.made (h.counts known);
  }
