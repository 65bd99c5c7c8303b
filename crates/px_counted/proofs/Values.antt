-- What is counted of expressions: a value that stands, and a last statement behind none, one or two operands.
use Rattle.std.proofs.Common.{◌≡◌, ℕ, ◌+◌, ◌≤◌, Bool, List, [], ◌∷◌, ◌++◌, length, append_assoc, append-nil, refl, sym, ap, ◌∙◌, subst, arith, nat_eq}
use Rattle.std.proofs.lemmas.Bool.{eq-eqb}
use Rattle.px_value.specs.declared.value.Value.{Value}
use Rattle.px_value.specs.Outcome.{Outcome, Gives, ◌>>=◌}
use Rattle.px_facts.specs.declared.checked.Checked.{Checked}
use Rattle.px_effects.specs.Run.{Ask}
use Rattle.px_mean.specs.Run.{Frame as SourceFrame, Here as SourceHere}
use Rattle.px_mean.specs.Expressions.{Calls as SourceCalls}
use Rattle.px_normal.specs.declared.ty.Ty.{Ty}
use Rattle.px_normal.specs.declared.node.Counter.{Counter}
use Rattle.px_normal.specs.declared.node.Counter.TheVariants.{Begun, Completed}
use Rattle.px_normal.specs.declared.word.Operand.{Operand}
use Rattle.px_normal.specs.declared.method.Tree.{Tree}
use Rattle.px_normal.specs.declared.method.Tree.TheVariants.{Do}
use Rattle.px_normal.specs.declared.code.Code.{Code}
use Rattle.px_normal.specs.CodeRun.{Calls, body_run}
use Rattle.px_lowering.specs.declared.draft.Draft.{Draft}
use Rattle.px_lowering.specs.declared.valued.Step.{Step}
use Rattle.px_lowering.specs.declared.valued.Had.{Had}
use Rattle.px_lowering.specs.declared.valued.Had.TheVariants.{Held, Made}
use Rattle.px_lowering.specs.Emit.{Lasted, Operated}
use Rattle.px_counts.specs.Marks as mark
use Rattle.px_counts.specs.Marks.{Marked}
use Rattle.px_counts.proofs.Unmarked.{SameHere}
use Rattle.px_preservation.proofs.Agree.{IsLowered}
use Rattle.px_counted.specs.Laws.{NeverThrows}
use Rattle.px_counted.proofs.Counts.{one_if, Counted, marks}
use Rattle.px_counted.proofs.Keeps.{KeepsHere}
use Rattle.px_counted.proofs.Steps.{IsNoCall, step_works, word_counted}
use Rattle.px_counted.proofs.Pieces.{same_rest, joined, from_node, known_front, grows_none, grows_then, grows_more, grows_up}
use Rattle.px_counted.proofs.Shares.{last_of, alone_of, split_of}
use Rattle.px_counted.proofs.Operands.{HereM, hit, Runs, IsLate, own, inside, CountsLowered, CountsOperand, then_counts, marked_run, marked_runs}

module _ (Q W : Type 0) (ask : Ask Q W) (never : NeverThrows Q W ask) (P : Checked) (code : Code) (source_calls : SourceCalls Q W) (calls : Calls Q W) (n k : ℕ) (counter : Counter) where
  abbrev pub M : Type 0 → Type 0
  M = HereM Q W ask P code source_calls calls n k counter

  abbrev pub F : Draft → ℕ
  F o = from_node Q W k counter (length o.nodes)

  abbrev pub H : ℕ → ℕ
  H = hit Q W ask P code source_calls calls n k counter

  abbrev pub R : {A : Type 0} → (high before after : ℕ) → M A → List Tree → Type 0
  R = Runs Q W ask P code source_calls calls n k counter

  abbrev pub Operand' : (given id inner : ℕ) → M Value → SourceHere Q W Value → Draft → Operated → Type 0
  Operand' = CountsOperand Q W ask P code source_calls calls n k counter

  abbrev pub Lowered : (given id : ℕ) → M Value → SourceHere Q W Value → Draft → Lasted → Type 0
  Lowered = CountsLowered Q W ask P code source_calls calls n k counter

  abbrev pub Plain : SourceHere Q W Value → Draft → Lasted → Type 0
  Plain = IsLowered Q W ask P code source_calls calls n

  abbrev pub marked : ℕ → M Value → M Value
  marked = marked_run Q W ask P code source_calls calls n k counter

  -- the marks of an expression itself
  abbrev pub begins : ℕ → ℕ
  begins id = marks Q W k counter (mark.Begun id)

  abbrev pub completes : ℕ → ℕ
  completes id = marks Q W k counter (mark.Completed id)

  abbrev pub own_of : ℕ → ℕ
  own_of id = begins id + completes id

  same_number : (id : ℕ) → 1 ≤ one_if (nat_eq id id)
  same_number id = subst (λ (b : Bool). 1 ≤ one_if b) (sym (eq-eqb id id refl)) (omega (arith))

  pub completes_once : (id : ℕ) → counter ≡ Completed id → 1 ≤ completes id
  completes_once id e = subst (λ (c : Counter). 1 ≤ marks Q W k c (mark.Completed id)) (sym e) (same_number id)

  pub begins_once : (id : ℕ) → counter ≡ Begun id → 1 ≤ begins id
  begins_once id e = subst (λ (c : Counter). 1 ≤ marks Q W k c (mark.Begun id)) (sym e) (same_number id)

  pub late_once : (id : ℕ) → IsLate counter id id → 1 ≤ completes id
  late_once id (own e) = completes_once id e
  late_once id (inside e) = completes_once id e

  pub from_zero : {A : Type 0} (high b after : ℕ) (r : M A) (ts : List Tree) → b ≡ 0 → R high 0 after r ts → R high b after r ts
  from_zero high b after r ts e h = subst (λ (m : ℕ). R high m after r ts) (sym e) h

  pub with_trees : {A : Type 0} (high before after : ℕ) (r : M A) (ts us : List Tree) → ts ≡ us → R high before after r ts → R high before after r us
  with_trees high before after r ts us e h = subst (λ (l : List Tree). R high before after r l) e h

  abbrev pub result : Draft → (id token : ℕ) → Had → Lasted
  result o id token had = record { out = o; value = record { id = id; token = token; had = had } }

  -- a last statement behind one operand
  pub counts_one : (g id1 inner1 : ℕ) (r : M Value) (r1 r' : SourceHere Q W Value) (o : Draft) (a : Operated) (i : Operand' g id1 inner1 r r1 o a) → n ≤ length o.slots → (f : Value → M Value) → ((v : Value) → KeepsHere Q W Value (f v)) → (x : Step) → IsNoCall Q W ask code calls k counter never x → (t : Ty) (y : Counter) → (counter ≡ y → IsLate counter id1 inner1)
      → (id token : ℕ) → SameHere Q W Value (marked id (r >>= f)) r' → Plain r' o (result a.out id token (Made x t y)) → own_of id + g ≤ 1 → Lowered (own_of id + g) id (marked id (r >>= f)) r' o (result a.out id token (Made x t y))
  counts_one g id1 inner1 r r1 r' o a i above f keeps x no_call t y late1 id token same plain few = record {
    same = same;
    plain = plain;
    grows = grows_more Q W k counter g (own_of id + g) o.nodes a.out.nodes (omega (arith)) i.grows;
    late = λ l. let z = late_once id l in omega (arith, z);
    made = λ e. let z = i.late (late1 e) in omega (arith, z);
    counts = λ known node to word fin hc e eq late.
        let up = grows_up Q W k counter g o.nodes a.out.nodes i.grows in
        let most = i.grows.few known in
        let l = last_of (F o) (F a.out) g (own_of id) (begins id) (completes id) (H node) e (omega (arith)) few up most eq (λ h. i.late (late1 (hc h))) (λ h. late_once id (late h)) in
        let begun = l.begun in let left = l.left in let parts = l.parts in
        let runs = then_counts Q W ask P code source_calls calls n k counter g id1 inner1 r r1 o a i above known (H node) parts (λ h. late1 (hc h)) (Do node word ∷ []) f 0 (length a.out.slots) (omega (arith))
        (λ v s c value agree size j. word_counted Q W ask code calls k counter never Value node word (f v) s c (keeps v) (step_works Q W ask code calls k counter never x to word fin no_call c.locals) j) in
        with_trees (length a.out.slots) 0 e (marked id (r >>= f)) (i.plain.trees ++ Do node word ∷ []) (plain.trees ++ Do node word ∷ []) (ap (λ ts. ts ++ Do node word ∷ []) (same_rest a.out.trees o.trees i.plain.trees plain.trees i.plain.trees_are plain.trees_are))
        (marked_runs Q W ask P code source_calls calls n k counter id (length a.out.slots) 0 e (r >>= f) (i.plain.trees ++ Do node word ∷ []) (omega (arith, left)) (from_zero (length a.out.slots) (begins id) 0 (r >>= f) (i.plain.trees ++ Do node word ∷ []) begun runs));
  }

  -- behind two operands
  pub counts_two : (g1 id1 inner1 g2 id2 inner2 : ℕ) (r q : M Value) (r1 q1 r' : SourceHere Q W Value) (o : Draft) (a b : Operated) (i : Operand' g1 id1 inner1 r r1 o a) (j : Operand' g2 id2 inner2 q q1 a.out b) → n ≤ length o.slots → n ≤ length a.out.slots → length a.out.slots ≤ length b.out.slots → (f : Value → Value → M Value) → ((v w : Value) → KeepsHere Q W Value (f v w)) → (x : Step) → IsNoCall Q W ask code calls k counter never x → (t : Ty) (y : Counter) → (counter ≡ y → IsLate counter id2 inner2)
      → (id token : ℕ) → SameHere Q W Value (marked id (r >>= (λ v. q >>= f v))) r' → Plain r' o (result b.out id token (Made x t y)) → own_of id + (g1 + g2) ≤ 1 → Lowered (own_of id + (g1 + g2)) id (marked id (r >>= (λ v. q >>= f v))) r' o (result b.out id token (Made x t y))
  counts_two g1 id1 inner1 g2 id2 inner2 r q r1 q1 r' o a b i j above above1 wide f keeps x no_call t y late2 id token same plain few =
      let both = grows_then Q W k counter g1 g2 (g1 + g2) o.nodes a.out.nodes b.out.nodes refl i.grows j.grows in
      record {
        same = same;
        plain = plain;
        grows = grows_more Q W k counter (g1 + g2) (own_of id + (g1 + g2)) o.nodes b.out.nodes (omega (arith)) both;
        late = λ l. let z = late_once id l in omega (arith, z);
        made = λ e. let z = j.late (late2 e) in omega (arith, z);
        counts = λ known node to word fin hc e eq late.
            let known1 = known_front Q W k counter a.out.nodes j.grows.more b.out.nodes j.grows.nodes_are known in
            let up1 = grows_up Q W k counter g1 o.nodes a.out.nodes i.grows in
            let most1 = i.grows.few known1 in
            let most2 = j.grows.few known in
            let up = grows_up Q W k counter (g1 + g2) o.nodes b.out.nodes both in
            let most = both.few known in
            let once = λ (h : 1 ≤ H node). j.late (late2 (hc h)) in
            let l = last_of (F o) (F b.out) (g1 + g2) (own_of id) (begins id) (completes id) (H node) e (omega (arith)) few up most eq (λ h. let z = once h in omega (arith, z)) (λ h. late_once id (late h)) in
            let begun = l.begun in let left = l.left in let parts = l.parts in
            let u = split_of (F o) (F a.out) (F b.out) g1 g2 (H node) (omega (arith, few)) up1 most1 most2 parts once in
            let first = u.first in let second = u.second in
            let ts = i.plain.trees ++ (j.plain.trees ++ Do node word ∷ []) in
            let runs2 = λ (v : Value). then_counts Q W ask P code source_calls calls n k counter g2 id2 inner2 q q1 a.out b j above1 known (H node) second (λ h. late2 (hc h)) (Do node word ∷ []) (f v) 0 (length b.out.slots) (omega (arith))
            (λ w s c value agree size m. word_counted Q W ask code calls k counter never Value node word (f v w) s c (keeps v w) (step_works Q W ask code calls k counter never x to word fin no_call c.locals) m) in
            let runs = then_counts Q W ask P code source_calls calls n k counter g1 id1 inner1 r r1 o a i above known1 0 first (λ h. absurd (omega (arith, h))) (j.plain.trees ++ Do node word ∷ []) (λ v. q >>= f v) 0 (length b.out.slots) wide
            (λ v s c value agree size m. runs2 v s c agree size m) in
            let all = joined o.trees a.out.trees b.out.trees i.plain.trees j.plain.trees i.plain.trees_are j.plain.trees_are in
            with_trees (length b.out.slots) 0 e (marked id (r >>= (λ v. q >>= f v))) ts (plain.trees ++ Do node word ∷ []) (sym (append_assoc i.plain.trees j.plain.trees (Do node word ∷ [])) ∙ ap (λ l. l ++ Do node word ∷ []) (same_rest b.out.trees o.trees (i.plain.trees ++ j.plain.trees) plain.trees all plain.trees_are))
            (marked_runs Q W ask P code source_calls calls n k counter id (length b.out.slots) 0 e (r >>= (λ v. q >>= f v)) ts (omega (arith, left)) (from_zero (length b.out.slots) (begins id) 0 (r >>= (λ v. q >>= f v)) ts begun runs));
      }

  -- behind none
  pub counts_none : (r : M Value) (r' : SourceHere Q W Value) (o : Draft) → KeepsHere Q W Value r → (x : Step) → IsNoCall Q W ask code calls k counter never x → (t : Ty) (y : Counter) (id token : ℕ) → (counter ≡ y → counter ≡ Begun id) → SameHere Q W Value (marked id r) r' → Plain r' o (result o id token (Made x t y)) → own_of id ≤ 1 → Lowered (own_of id) id (marked id r) r' o (result o id token (Made x t y))
  counts_none r r' o keeps x no_call t y id token begun_is same plain few = record {
    same = same;
    plain = plain;
    grows = grows_none Q W k counter (own_of id) o.nodes;
    late = λ l. let z = late_once id l in omega (arith, z);
    made = λ e. let z = begins_once id (begun_is e) in omega (arith, z);
    counts = λ known node to word fin hc e eq late.
        let l = alone_of (F o) (own_of id) (begins id) (completes id) (H node) e (omega (arith)) few (λ h. h) eq (λ h. begins_once id (begun_is (hc h))) (λ h. late_once id (late h)) in
        let begun = l.begun in let left = l.left in
        let runs : R (length o.slots) (H node) 0 r (Do node word ∷ []) = λ s c agree size j. word_counted Q W ask code calls k counter never Value node word r s c keeps (step_works Q W ask code calls k counter never x to word fin no_call c.locals) j in
        with_trees (length o.slots) 0 e (marked id r) (Do node word ∷ []) (plain.trees ++ Do node word ∷ []) (ap (λ ts. ts ++ Do node word ∷ []) (same_rest o.trees o.trees [] plain.trees (sym (append-nil o.trees)) plain.trees_are))
        (marked_runs Q W ask P code source_calls calls n k counter id (length o.slots) 0 e r (Do node word ∷ []) (omega (arith, left)) (subst (λ (m : ℕ). R (length o.slots) m 0 r (Do node word ∷ [])) (sym begun) runs));
  }

  -- ---- a value that stands

  abbrev pub IsQuiet : M Value → Type 0
  IsQuiet r = (s : SourceFrame (Marked W)) → (v : Value) × (r s ≡ Gives v s)

  pub quiet_runs : (high m : ℕ) (r : M Value) → IsQuiet r → R high m m r []
  quiet_runs high m r q = λ s c agree size j. subst (λ (x : Outcome Q (SourceFrame (Marked W)) Value). Counted Q W k counter m x (body_run code ask calls [] c)) (sym ((q s).1)) j

  pub counts_held : (r : M Value) (r' : SourceHere Q W Value) (o : Draft) → IsQuiet r → (a : Operand) (id token : ℕ) → SameHere Q W Value (marked id r) r' → Plain r' o (result o id token (Held a)) → own_of id ≤ 1 → Lowered (own_of id) id (marked id r) r' o (result o id token (Held a))
  counts_held r r' o quiet a id token same plain few = record {
    same = same;
    plain = plain;
    grows = grows_none Q W k counter (own_of id) o.nodes;
    late = λ l. let z = late_once id l in omega (arith, z);
    made = λ e. absurd e;
    counts = λ known e eq late.
        with_trees (length o.slots) 0 e (marked id r) [] plain.trees (same_rest o.trees o.trees [] plain.trees (sym (append-nil o.trees)) plain.trees_are)
        (marked_runs Q W ask P code source_calls calls n k counter id (length o.slots) (begins id) e r [] (omega (arith, eq)) (quiet_runs (length o.slots) (begins id) r quiet));
  }
