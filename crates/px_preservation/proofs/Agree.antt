-- How a frame of the code stands to a frame of the source, and what the code of expressions and statements does.
use Rattle.std.proofs.Common.{◌≡◌, ℕ, ◌<◌, ◌≤◌, List, [], ◌∷◌, ◌++◌, length, Option, Some, None, slice_get}
use Rattle.px_value.specs.declared.value.Value.{Value}
use Rattle.px_value.specs.Outcome.{Flow, Goes}
use Rattle.px_tree.specs.declared.Expr.{Expr}
use Rattle.px_tree.specs.declared.Stmt.{Stmt}
use Rattle.px_facts.specs.declared.types.Ty.{Ty as Static}
use Rattle.px_facts.specs.declared.checked.Checked.{Checked}
use Rattle.px_effects.specs.Run.{Shared, Ask}
use Rattle.px_mean.specs.Run.{Frame as SourceFrame, Here as SourceHere}
use Rattle.px_mean.specs.Expressions.{Around, Calls as SourceCalls, meant}
use Rattle.px_mean.specs.Statements.{done_by}
use Rattle.px_normal.specs.declared.ty.Ty.{Ty}
use Rattle.px_normal.specs.declared.word.Operand.{Operand}
use Rattle.px_normal.specs.declared.word.Operand.TheVariants.{Slot, Literal}
use Rattle.px_normal.specs.declared.word.Word.{Word}
use Rattle.px_normal.specs.declared.word.Word.TheVariants as w
use Rattle.px_normal.specs.declared.method.Tree.{Tree}
use Rattle.px_normal.specs.declared.method.Tree.TheVariants.{Do}
use Rattle.px_normal.specs.declared.code.Code.{Code}
use Rattle.px_normal.specs.Run.{Traced, Frame}
use Rattle.px_normal.specs.Words.{operand}
use Rattle.px_normal.specs.CodeRun.{Calls, body_run}
use Rattle.px_lowering.specs.declared.draft.Draft.{Draft}
use Rattle.px_lowering.specs.declared.valued.Step.{Step}
use Rattle.px_lowering.specs.declared.valued.Step.TheVariants as step
use Rattle.px_lowering.specs.declared.valued.Had.{Had}
use Rattle.px_lowering.specs.declared.valued.Had.TheVariants.{Held, Chosen, Made}
use Rattle.px_lowering.specs.Emit.{Lasted, writes}
use Rattle.px_lowering.specs.Expressions.{low}
use Rattle.px_lowering.specs.Statements.{low_stmt}
use Rattle.px_preservation.proofs.Meets.{Meets}

-- ---- frames

-- the first slots of the code's frame are the source's, and what frames share is the same
pub record Agree (W : Type 0) (n : ℕ) (s : SourceFrame W) (c : Frame W) : Type 0 where
  pub locals : (j : ℕ) → j < n → slice_get s.locals j ≡ slice_get c.locals j
  pub shared : s.shared ≡ c.shared.shared

abbrev pub Shares : (W : Type 0) → SourceFrame W → Frame W → Type 0
Shares W s c = s.shared ≡ c.shared.shared

-- Behind an expression: it changes no local, and no slot below `low`.
pub record After (W : Type 0) (low : ℕ) (s s' : SourceFrame W) (c c' : Frame W) : Type 0 where
  pub same : s'.locals ≡ s.locals
  pub shared : Shares W s' c'
  pub size : length c'.locals ≡ length c.locals
  pub kept : (j : ℕ) → j < low → slice_get c'.locals j ≡ slice_get c.locals j

-- the same, but that a slot was written, if one is named
pub record Wrote (W : Type 0) (low : ℕ) (to : Option ℕ) (v : Value) (s s' : SourceFrame W) (c c' : Frame W) : Type 0 where
  pub same : s'.locals ≡ s.locals
  pub shared : Shares W s' c'
  pub size : length c'.locals ≡ length c.locals
  pub kept : (j : ℕ) → j < low → (to ≡ Some j → ⊥) → slice_get c'.locals j ≡ slice_get c.locals j
  pub written : (k : ℕ) → to ≡ Some k → k < length c.locals → slice_get c'.locals k ≡ Some v

-- ---- what was had so far stays where it is

abbrev pub IsBelow : ℕ → Operand → Type 0
IsBelow high (Slot k) = k < high
IsBelow high (Literal v) = Unit {0}

abbrev pub AreBelow : ℕ → List Operand → Type 0
AreBelow high [] = Unit {0}
AreBelow high (a ∷ as') = IsBelow high a × AreBelow high as'

abbrev pub IsBelowIf : ℕ → Option Operand → Type 0
IsBelowIf high None = Unit {0}
IsBelowIf high (Some a) = IsBelow high a

abbrev pub IsStepBelow : ℕ → Step → Type 0
IsStepBelow high (step.Op o a b) = IsBelow high a × IsBelowIf high b
IsStepBelow high (step.Get a class field) = IsBelow high a
IsStepBelow high (step.Load a i) = IsBelow high a × IsBelow high i
IsStepBelow high (step.Len a) = IsBelow high a
IsStepBelow high (step.New class site) = Unit {0}
IsStepBelow high (step.Array element n site) = IsBelow high n
IsStepBelow high (step.Call a method args) = IsBelow high a × AreBelow high args
IsStepBelow high (step.Query statement site params) = AreBelow high params
IsStepBelow high (step.Update statement params) = AreBelow high params
IsStepBelow high (step.Next a) = IsBelow high a
IsStepBelow high (step.Long a i) = IsBelow high a × IsBelow high i
IsStepBelow high (step.Text a i) = IsBelow high a × IsBelow high i

abbrev pub IsHadBelow : ℕ → Had → Type 0
IsHadBelow high (Held a) = IsBelow high a
IsHadBelow high (Chosen slot) = slot < high
IsHadBelow high (Made s t counter) = IsStepBelow high s

-- a temporary that may be written again is none of those that were there before
abbrev pub IsHadAbove : ℕ → Had → Type 0
IsHadAbove low (Held a) = Unit {0}
IsHadAbove low (Chosen slot) = low ≤ slot
IsHadAbove low (Made s t counter) = Unit {0}

-- the last statement of an expression: it writes a slot, or it is a call whose result isn't used
pub data Finishes : Step → Option ℕ → Word → Type 0 where
  into : (s : Step) (to : ℕ) → Finishes s (Some to) (writes s to)
  unused : (of : Operand) (method : ℕ) (args : List Operand) → Finishes (step.Call of method args) None (w.Call None of method args)

-- ---- what the code does beside the source, in methods whose source has so many slots

module _ (Q W : Type 0) (ask : Ask Q W) (P : Checked) (code : Code) (source_calls : SourceCalls Q W) (calls : Calls Q W) (n : ℕ) where
  abbrev pub around : Around Q W
  around = record { facts = P.facts; ask = ask; calls = source_calls }

  -- calls of methods do the same
  abbrev pub CallsMeet : Type 0
  CallsMeet = (method : ℕ) (values : List Value) (s : Shared W) (g : Traced W) → s ≡ g.shared → Meets (source_calls method values s) (calls method values g) (λ v s' v' g'. (v' ≡ v) × (s' ≡ g'.shared)) (λ s' g'. s' ≡ g'.shared)

  -- the statements come to this operand, which has the source's value
  abbrev pub ComesTo : (low high : ℕ) → SourceHere Q W Value → List Tree → Operand → Type 0
  ComesTo low high r ts a = (s : SourceFrame W) (c : Frame W) → Agree W n s c → high ≤ length c.locals
      → Meets (r s) (body_run code ask calls ts c) (λ v s' f c'. (f ≡ Goes) × After W low s s' c c' × (operand c'.locals a ≡ v)) (Shares W)

  -- with this last statement they write the source's value into its slot
  abbrev pub Ends : (low high : ℕ) → SourceHere Q W Value → List Tree → Step → Type 0
  Ends low high r ts s = (node : ℕ) (to : Option ℕ) (word : Word) → Finishes s to word → (s : SourceFrame W) (c : Frame W) → Agree W n s c → high ≤ length c.locals
      → Meets (r s) (body_run code ask calls (ts ++ Do node word ∷ []) c) (λ v s' f c'. (f ≡ Goes) × Wrote W low to v s s' c c') (Shares W)

  abbrev pub HadMeets : (low high : ℕ) → SourceHere Q W Value → List Tree → Had → Type 0
  HadMeets low high r ts (Held a) = ComesTo low high r ts a
  HadMeets low high r ts (Chosen slot) = ComesTo low high r ts (Slot slot)
  HadMeets low high r ts (Made s t counter) = Ends low high r ts s

  -- what is lowered of an expression behind a draft
  pub record IsLowered (r : SourceHere Q W Value) (o : Draft) (l : Lasted) : Type 0 where
    pub trees : List Tree
    pub temps : List Ty
    pub trees_are : l.out.trees ≡ o.trees ++ trees
    pub slots_are : l.out.slots ≡ o.slots ++ temps
    pub method_is : l.out.method ≡ o.method
    pub below : IsHadBelow (length l.out.slots) l.value.had
    pub above : IsHadAbove (length o.slots) l.value.had
    pub meets : HadMeets (length o.slots) (length l.out.slots) r trees l.value.had

  abbrev pub Lowers : Expr → Type 0
  Lowers x = (o : Draft) → n ≤ length o.slots → IsLowered (meant around x).run o ((low P x).part.lower o)

  -- what is lowered of a statement behind a draft
  pub record IsDone (r : SourceHere Q W (Flow Value)) (o : Draft) (o' : Draft) : Type 0 where
    pub trees : List Tree
    pub temps : List Ty
    pub trees_are : o'.trees ≡ o.trees ++ trees
    pub slots_are : o'.slots ≡ o.slots ++ temps
    pub method_is : o'.method ≡ o.method
    pub meets : (s : SourceFrame W) (c : Frame W) → Agree W n s c → length o'.slots ≤ length c.locals
        → Meets (r s) (body_run code ask calls trees c) (λ f s' f' c'. (f' ≡ f) × Agree W n s' c' × (length c'.locals ≡ length c.locals)) (Shares W)

  abbrev pub LowersStatement : Static → Stmt → Type 0
  LowersStatement result x = (o : Draft) → n ≤ length o.slots → IsDone (done_by around result x) o (low_stmt P result x o)
