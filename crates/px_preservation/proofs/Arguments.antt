-- Operands in a row, and a last statement behind them.
use Rattle.std.proofs.Common.{◌≡◌, ℕ, ◌+◌, ◌≤◌, List, [], ◌∷◌, ◌++◌, map, append_assoc, append-nil, length, slice_index_or, refl, sym, ap, ◌∙◌, subst, arith}
use Rattle.px_value.specs.declared.value.Value.{Value}
use Rattle.px_value.specs.Outcome.{Outcome, then_run, ◌>>=◌, on_shared, Flow, Goes, goes_on}
use Rattle.px_tree.specs.declared.Expr.{Expr}
use Rattle.px_facts.specs.declared.types.Ty.{Ty as Static}
use Rattle.px_facts.specs.declared.types.Ty.TheVariants as static
use Rattle.px_facts.specs.declared.checked.Checked.{Checked}
use Rattle.px_effects.specs.Run.{Ask}
use Rattle.px_mean.specs.Run.{Frame as SourceFrame, Here as SourceHere, gather}
use Rattle.px_mean.specs.Expressions.{Calls as SourceCalls, fitted}
use Rattle.px_normal.specs.declared.ty.Ty.{Ty}
use Rattle.px_normal.specs.declared.word.Operand.{Operand}
use Rattle.px_normal.specs.declared.method.Tree.{Tree}
use Rattle.px_normal.specs.declared.method.Tree.TheVariants.{Do}
use Rattle.px_normal.specs.declared.node.Counter.{Counter}
use Rattle.px_normal.specs.declared.node.Counter.TheVariants.{Completed}
use Rattle.px_normal.specs.declared.code.Code.{Code}
use Rattle.px_normal.specs.Run.{Frame}
use Rattle.px_normal.specs.Words.{operand, operands}
use Rattle.px_normal.specs.CodeRun.{Calls, body_run}
use Rattle.px_lowering.specs.declared.draft.Draft.{Draft}
use Rattle.px_lowering.specs.declared.valued.Step.{Step}
use Rattle.px_lowering.specs.declared.valued.Had.TheVariants.{Made}
use Rattle.px_lowering.specs.Emit.{Operated}
use Rattle.px_lowering.specs.Expressions.{part_of, fitted_operand, arguments}
use Rattle.px_preservation.proofs.Meets.{Meets, meets_at, meets_bind, meets_more}
use Rattle.px_preservation.proofs.Runs.{run_append}
use Rattle.px_preservation.proofs.Afters.{behind, grown, after_none, after_then, agree_after, operand_after, operands_after, below_more, are_below_more}
use Rattle.px_preservation.proofs.Words.{step_source, step_ends}
use Rattle.px_preservation.proofs.Operands.{IsOperand, then_operand}
use Rattle.px_preservation.proofs.Parts.{says, fitted_low}
use Rattle.px_preservation.proofs.Agree.{Agree, After, Wrote, Shares, AreBelow, IsStepBelow, CallsMeet, IsLowered, Lowers}

module _ (Q W : Type 0) (ask : Ask Q W) (P : Checked) (code : Code) (source_calls : SourceCalls Q W) (calls : Calls Q W) (n : ℕ) (met : CallsMeet Q W ask P code source_calls calls n) where
  abbrev run : List Tree → Frame W → Outcome Q (Frame W) (Flow Value)
  run = body_run code ask calls

  -- behind a draft, values are had as operands
  pub record IsRow (rs : List (SourceHere Q W Value)) (o out : Draft) (xs : List Operand) : Type 0 where
    pub trees : List Tree
    pub temps : List Ty
    pub trees_are : out.trees ≡ o.trees ++ trees
    pub slots_are : out.slots ≡ o.slots ++ temps
    pub method_is : out.method ≡ o.method
    pub below : AreBelow (length out.slots) xs
    pub meets : (there : List Value) (s : SourceFrame W) (c : Frame W) → Agree W n s c → length out.slots ≤ length c.locals
        → Meets (gather there rs s) (run trees c) (λ vs s' f c'. (f ≡ Goes) × After W (length o.slots) s s' c c' × (there ++ operands c'.locals xs ≡ vs)) (Shares W)

  pub row_none : (o : Draft) → IsRow [] o o []
  row_none o = record {
    trees = [];
    temps = [];
    trees_are = sym (append-nil o.trees);
    slots_are = sym (append-nil o.slots);
    method_is = refl;
    below = tt;
    meets = λ there s c ag l. (there, s, refl, (refl, after_none W (length o.slots) s c ag.shared, append-nil there));
  }

  pub row_more : (r : SourceHere Q W Value) (rs : List (SourceHere Q W Value)) (o out : Draft) (a : Operated) (xs : List Operand) → n ≤ length o.slots → IsOperand Q W ask P code source_calls calls n r o a → IsRow rs a.out out xs → IsRow (r ∷ rs) o out (a.operand ∷ xs)
  row_more r rs o out a xs le h k =
      let g1 = grown o.slots a.out.slots h.temps h.slots_are in
      let g2 = grown a.out.slots out.slots k.temps k.slots_are in
      record {
        trees = h.trees ++ k.trees;
        temps = h.temps ++ k.temps;
        trees_are = behind o.trees a.out.trees out.trees h.trees k.trees h.trees_are k.trees_are;
        slots_are = behind o.slots a.out.slots out.slots h.temps k.temps h.slots_are k.slots_are;
        method_is = k.method_is ∙ h.method_is;
        below = (below_more W (length a.out.slots) (length out.slots) a.operand g2 h.below, k.below);
        meets = λ there s c ag l.
            let R : List Value → SourceFrame W → Flow Value → Frame W → Type 0 = λ vs s' f c'. (f ≡ Goes) × After W (length o.slots) s s' c c' × (there ++ operand c'.locals a.operand ∷ operands c'.locals xs ≡ vs) in
            then_operand Q W ask P code source_calls calls n (length o.slots) (length a.out.slots) r h.trees a.operand h.meets (λ v. gather (there ++ v ∷ []) rs) k.trees R s c ag (omega (arith, l, g2)) (λ s1 c1 p.
            meets_more (gather (there ++ operand c1.locals a.operand ∷ []) rs s1) (run k.trees c1) (λ vs s' f c'. (f ≡ Goes) × After W (length a.out.slots) s1 s' c1 c' × ((there ++ operand c1.locals a.operand ∷ []) ++ operands c'.locals xs ≡ vs)) (Shares W) R (Shares W) (k.meets (there ++ operand c1.locals a.operand ∷ []) s1 c1 (agree_after W n (length o.slots) s s1 c c1 le ag p) (omega (arith, l, p.size)))
            (λ vs s2 f c2 q. (q.0, after_then W (length o.slots) (length a.out.slots) s s1 s2 c c1 c2 g1 p q.1, ap (λ v. there ++ v ∷ operands c2.locals xs) (operand_after W (length a.out.slots) s1 s2 c1 c2 a.operand h.below q.1) ∙ sym (append_assoc there (operand c1.locals a.operand ∷ []) (operands c2.locals xs)) ∙ q.2))
            (λ s' c' q. q));
      }

  -- ---- arguments

  abbrev pub AllLower : List Expr → Type 0
  AllLower [] = Unit {0}
  AllLower (x ∷ xs) = Lowers Q W ask P code source_calls calls n x × AllLower xs

  pub arguments_row : (types : List Static) (place : ℕ) (before : Counter) (xs : List Expr) (o : Draft) → n ≤ length o.slots → AllLower xs → IsRow (fitted types place (map (says Q W ask P code source_calls calls n met) xs)) o (arguments P types place before (map (part_of P) xs) o).out (arguments P types place before (map (part_of P) xs) o).value.operands
  arguments_row types place before [] o le h = row_none o
  arguments_row types place before (x ∷ xs) o le h =
      let to = slice_index_or types place static.Unknown in
      let a = fitted_operand P to (part_of P x) o in
      let k : IsOperand Q W ask P code source_calls calls n _ o a = fitted_low Q W ask P code source_calls calls n met x h.0 to o le in
      row_more _ _ o _ a _ le k (arguments_row types (place + 1) (Completed x.id) xs a.out (omega (arith, le, grown o.slots a.out.slots k.temps k.slots_are)) h.1)

  -- ---- a row, and then the rest

  then_row : {A : Type 0} (rs : List (SourceHere Q W Value)) (o out : Draft) (xs : List Operand) (h : IsRow rs o out xs) (there : List Value) (g : List Value → SourceHere Q W A) (rest : List Tree) (R : A → SourceFrame W → Flow Value → Frame W → Type 0) (s : SourceFrame W) (c : Frame W) → Agree W n s c → length out.slots ≤ length c.locals → ((s1 : SourceFrame W) (c1 : Frame W) → After W (length o.slots) s s1 c c1 → Meets (g (there ++ operands c1.locals xs) s1) (run rest c1) R (Shares W)) → Meets (then_run (gather there rs s) g) (run (h.trees ++ rest) c) R (Shares W)
  then_row rs o out xs h there g rest R s c ag l go =
      meets_at _ _ (then_run (run h.trees c) (goes_on (run rest))) R (Shares W) (run_append Q W code ask calls h.trees rest c)
      (meets_bind (gather there rs s) (run h.trees c) (λ vs s' f c'. (f ≡ Goes) × After W (length o.slots) s s' c c' × (there ++ operands c'.locals xs ≡ vs)) (Shares W) g (goes_on (run rest)) R (Shares W) (h.meets there s c ag l)
      (λ vs s1 f c1 q. meets_at _ _ (run rest c1) R (Shares W) (ap (λ z. goes_on (run rest) z c1) q.0) (subst (λ x. Meets (g x s1) (run rest c1) R (Shares W)) q.2 (go s1 c1 q.1)))
      (λ s' c' q. q))

  -- two rows and a last statement
  pub made_rows : (rs qs : List (SourceHere Q W Value)) (o mid out : Draft) (xs ys : List Operand) → n ≤ length o.slots → IsRow rs o mid xs → IsRow qs mid out ys → (f : List Value → SourceHere Q W Value) (x : Step) (t : Ty) (counter : Counter) (id token : ℕ) → (AreBelow (length out.slots) xs → AreBelow (length out.slots) ys → IsStepBelow (length out.slots) x) → ((s : SourceFrame W) (c : Frame W) → f (operands c.locals xs ++ operands c.locals ys) s ≡ on_shared (step_source Q W ask P code source_calls calls n met x c.locals) s) → IsLowered Q W ask P code source_calls calls n (gather [] rs >>= (λ there. gather there qs >>= f)) o (record { out = out; value = record { id = id; token = token; had = Made x t counter } })
  made_rows rs qs o mid out xs ys le h k f x t counter id token below e =
      let g1 = grown o.slots mid.slots h.temps h.slots_are in
      let g2 = grown mid.slots out.slots k.temps k.slots_are in
      record {
        trees = h.trees ++ k.trees;
        temps = h.temps ++ k.temps;
        trees_are = behind o.trees mid.trees out.trees h.trees k.trees h.trees_are k.trees_are;
        slots_are = behind o.slots mid.slots out.slots h.temps k.temps h.slots_are k.slots_are;
        method_is = k.method_is ∙ h.method_is;
        below = below (are_below_more W (length mid.slots) (length out.slots) xs g2 h.below) k.below;
        above = tt;
        meets = λ node to word end s c ag l.
            let R : Value → SourceFrame W → Flow Value → Frame W → Type 0 = λ v s' z c'. (z ≡ Goes) × Wrote W (length o.slots) to v s s' c c' in
            meets_at _ _ (run (h.trees ++ (k.trees ++ Do node word ∷ [])) c) R (Shares W) (ap (λ ts. run ts c) (append_assoc h.trees k.trees (Do node word ∷ [])))
            (then_row rs o mid xs h [] (λ there. gather there qs >>= f) (k.trees ++ Do node word ∷ []) R s c ag (omega (arith, l, g2)) (λ s1 c1 p.
            then_row qs mid out ys k (operands c1.locals xs) f (Do node word ∷ []) R s1 c1 (agree_after W n (length o.slots) s s1 c c1 le ag p) (omega (arith, l, p.size)) (λ s2 c2 p2.
            let same : operands c2.locals xs ≡ operands c1.locals xs = operands_after W (length mid.slots) s1 s2 c1 c2 xs h.below p2 in
            step_ends Q W ask P code source_calls calls n met (length o.slots) node x to word end (f (operands c1.locals xs ++ operands c2.locals ys)) s s2 c c2 (after_then W (length o.slots) (length mid.slots) s s1 s2 c c1 c2 g1 p p2) (ap (λ vs. f (vs ++ operands c2.locals ys) s2) (sym same) ∙ e s2 c2))));
      }
