-- One run after another, on both sides.
use Rattle.std.proofs.Common.{◌≡◌, ℕ, ◌≤◌, List, [], ◌++◌, length, refl, sym, ap, ◌∙◌, append-nil, le_of_eq, le_trans}
use Rattle.px_value.specs.declared.value.Value.{Value}
use Rattle.px_value.specs.Outcome.{Outcome, then_run, ◌>>=◌, pure, Flow, Goes, Returns, goes_on}
use Rattle.px_facts.specs.declared.checked.Checked.{Checked}
use Rattle.px_effects.specs.Run.{Ask}
use Rattle.px_mean.specs.Run.{Frame as SourceFrame, Here as SourceHere}
use Rattle.px_mean.specs.Expressions.{Calls as SourceCalls}
use Rattle.px_mean.specs.Statements.{goes}
use Rattle.px_normal.specs.declared.method.Tree.{Tree}
use Rattle.px_normal.specs.declared.code.Code.{Code}
use Rattle.px_normal.specs.Run.{Frame, Here}
use Rattle.px_normal.specs.Words.{operand}
use Rattle.px_normal.specs.CodeRun.{Calls, body_run}
use Rattle.px_lowering.specs.declared.draft.Draft.{Draft}
use Rattle.px_lowering.specs.Emit.{Operated}
use Rattle.px_preservation.proofs.Meets.{Meets, meets_at, meets_bind, meets_more, meets_source}
use Rattle.px_preservation.proofs.Agree.{Agree, After, Shares, IsDone}
use Rattle.px_preservation.proofs.Operands.{IsOperand, IsUnused}
use Rattle.px_preservation.proofs.Afters.{agree_after, behind, grown}
use Rattle.px_preservation.proofs.Runs.{run_append}

module _ (Q W : Type 0) (ask : Ask Q W) (P : Checked) (code : Code) (source_calls : SourceCalls Q W) (calls : Calls Q W) (n : ℕ) where
  abbrev pub Done : Frame W → Flow Value → SourceFrame W → Flow Value → Frame W → Type 0
  Done c f s' f' c' = (f' ≡ f) × Agree W n s' c' × (length c'.locals ≡ length c.locals)

  abbrev pub runs : List Tree → Here Q W (Flow Value)
  runs ts = body_run code ask calls ts

  -- statements that only go on, and then others
  pub then_trees : {A B : Type 0} (o : Outcome Q (SourceFrame W) A) (ts us : List Tree) (c : Frame W) (R : A → SourceFrame W → Flow Value → Frame W → Type 0) (k : A → SourceHere Q W B) (R' : B → SourceFrame W → Flow Value → Frame W → Type 0)
      → Meets o (runs ts c) R (Shares W)
      → ((a : A) (s' : SourceFrame W) (f : Flow Value) (c' : Frame W) → R a s' f c' → Meets (k a s') (goes_on (runs us) f c') R' (Shares W))
      → Meets (then_run o k) (runs (ts ++ us) c) R' (Shares W)
  then_trees o ts us c R k R' m h = meets_at (then_run o k) (runs (ts ++ us) c) (then_run (runs ts c) (goes_on (runs us))) R' (Shares W) (run_append Q W code ask calls ts us c)
      (meets_bind o (runs ts c) R (Shares W) k (goes_on (runs us)) R' (Shares W) m h (λ s c e. e))

  pub going : {B : Type 0} (us : List Tree) (f : Flow Value) (c : Frame W) (o : Outcome Q (SourceFrame W) B) (R' : B → SourceFrame W → Flow Value → Frame W → Type 0) → f ≡ Goes → Meets o (runs us c) R' (Shares W) → Meets o (goes_on (runs us) f c) R' (Shares W)
  going us f c o R' e m = meets_at o (goes_on (runs us) f c) (runs us c) R' (Shares W) (ap (λ x. goes_on (runs us) x c) e) m

  -- an operand, and then what follows
  pub then_operand : {B : Type 0} (r : SourceHere Q W Value) (o : Draft) (x : Operated) (i : IsOperand Q W ask P code source_calls calls n r o x) → n ≤ length o.slots → (us : List Tree) (k : Value → SourceHere Q W B) (R' : B → SourceFrame W → Flow Value → Frame W → Type 0) (s : SourceFrame W) (c : Frame W) → Agree W n s c → length x.out.slots ≤ length c.locals
      → ((v : Value) (s1 : SourceFrame W) (c1 : Frame W) → Agree W n s1 c1 → After W (length o.slots) s s1 c c1 → operand c1.locals x.operand ≡ v → Meets (k v s1) (runs us c1) R' (Shares W))
      → Meets ((r >>= k) s) (runs (i.trees ++ us) c) R' (Shares W)
  then_operand r o x i le us k R' s c g size h = then_trees (r s) i.trees us c _ k R' (i.meets s c g size)
      (λ v s1 f c1 q. going us f c1 (k v s1) R' q.0 (h v s1 c1 (agree_after W n (length o.slots) s s1 c c1 le g q.1) q.1 q.2))

  -- ---- statements

  pub empty_done : (o : Draft) → IsDone Q W ask P code source_calls calls n (pure Goes) o o
  empty_done o = record {
    trees = [];
    temps = [];
    trees_are = sym (append-nil o.trees);
    slots_are = sym (append-nil o.slots);
    method_is = refl;
    meets = λ s c g size. (Goes, s, refl, (refl, g, refl));
  }

  seq_on : (q : SourceHere Q W (Flow Value)) (us : List Tree) (c c1 : Frame W) (f : Flow Value) (s1 : SourceFrame W) → Agree W n s1 c1 → length c1.locals ≡ length c.locals → Meets (q s1) (runs us c1) (Done c1) (Shares W) → Meets (goes_on q f s1) (goes_on (runs us) f c1) (Done c) (Shares W)
  seq_on q us c c1 Goes s1 g e m = meets_more (q s1) (runs us c1) (Done c1) (Shares W) (Done c) (Shares W) m (λ f s2 f' c2 z. (z.0, z.1, z.2 ∙ e)) (λ s c z. z)
  seq_on q us c c1 (Returns v) s1 g e m = (Returns v, s1, refl, (refl, g, e))

  -- one statement after another
  pub seq_done : (r q : SourceHere Q W (Flow Value)) (o o1 o2 : Draft) → IsDone Q W ask P code source_calls calls n r o o1 → IsDone Q W ask P code source_calls calls n q o1 o2 → IsDone Q W ask P code source_calls calls n (r >>= goes_on q) o o2
  seq_done r q o o1 o2 a b = record {
    trees = a.trees ++ b.trees;
    temps = a.temps ++ b.temps;
    trees_are = behind o.trees o1.trees o2.trees a.trees b.trees a.trees_are b.trees_are;
    slots_are = behind o.slots o1.slots o2.slots a.temps b.temps a.slots_are b.slots_are;
    method_is = b.method_is ∙ a.method_is;
    meets = λ s c g size.
        then_trees (r s) a.trees b.trees c (Done c) (goes_on q) (Done c) (a.meets s c g (le_trans (grown o1.slots o2.slots b.temps b.slots_are) size))
        (λ f s1 f1 c1 z. meets_at (goes_on q f s1) (goes_on (runs b.trees) f1 c1) (goes_on (runs b.trees) f c1) (Done c) (Shares W) (ap (λ x. goes_on (runs b.trees) x c1) z.0)
        (seq_on q b.trees c c1 f s1 z.1 z.2 (b.meets s1 c1 z.1 (le_trans size (le_of_eq (sym z.2))))));
  }

  -- a value that isn't used
  pub unused_done : (r : SourceHere Q W Value) (o o' : Draft) → n ≤ length o.slots → IsUnused Q W ask P code source_calls calls n r o o' → IsDone Q W ask P code source_calls calls n (goes r) o o'
  unused_done r o o' le i = record {
    trees = i.trees;
    temps = i.temps;
    trees_are = i.trees_are;
    slots_are = i.slots_are;
    method_is = i.method_is;
    meets = λ s c g size. meets_source (r s) (runs i.trees c) _ (Shares W) (λ v. pure Goes) (Done c) (Shares W) (i.meets s c g size)
        (λ v s1 f c1 q. (Goes, s1, refl, (q.0, agree_after W n (length o.slots) s s1 c c1 le g q.1, q.1.size))) (λ s c e. e);
  }
