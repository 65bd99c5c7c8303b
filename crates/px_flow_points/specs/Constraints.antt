-- The constraints of code, statement by statement.
use Rattle.std.specs.Prelude.{ℕ, ◌+◌, Bool, true, false, List, [], ◌∷◌, ◌++◌, map, Option, Some, None}
use Rattle.px_constraints.specs.declared.system.Look.{Look}
use Rattle.px_constraints.specs.declared.system.Constraint.{Constraint}
use Rattle.px_constraints.specs.declared.system.Constraint.TheVariants.{Start, Copies, Loads, Stores}
use Rattle.px_normal.specs.declared.word.Operand.{Operand}
use Rattle.px_normal.specs.declared.word.Operand.TheVariants.{Slot, Literal}
use Rattle.px_normal.specs.declared.word.Word.{Word}
use Rattle.px_normal.specs.declared.word.Word.TheVariants as w
use Rattle.px_normal.specs.declared.method.Tree.{Tree, Tree-F, fold-Tree}
use Rattle.px_normal.specs.declared.method.Tree.TheOpen.{Tree-F as t}
use Rattle.px_normal.specs.declared.method.Method.{Method}
use Rattle.px_flow_points.specs.Numbers.{slot_var, result_var}

abbrev pub look : ℕ → ℕ → Look
look part slot = record { part = part; slot = slot }

abbrev pub starts : ℕ → ℕ → Constraint
starts x s = Start (record { var = x; site = s })

-- the receiver and the arguments stand in the first slots of the called method
abbrev pub passed_one : List ℕ → ℕ → ℕ → ℕ → Operand → List Constraint
passed_one bases m callee k (Slot a) = Copies (slot_var bases m a) (slot_var bases callee k) ∷ []
passed_one bases m callee k (Literal v) = []

abbrev pub passed : List ℕ → ℕ → ℕ → ℕ → List Operand → List Constraint
passed bases m callee k [] = []
passed bases m callee k (a ∷ args) = passed_one bases m callee k a ++ passed bases m callee (k + 1) args

abbrev pub given_back : List ℕ → ℕ → ℕ → Option ℕ → List Constraint
given_back bases m callee None = []
given_back bases m callee (Some to) = Copies (result_var bases callee) (slot_var bases m to) ∷ []

abbrev pub word_constraints : List ℕ → ℕ → Word → List Constraint
word_constraints bases m (w.Set to (Slot from)) = Copies (slot_var bases m from) (slot_var bases m to) ∷ []
word_constraints bases m (w.Get to (Slot of) class field) = Loads (slot_var bases m of) (look field (slot_var bases m to)) ∷ []
word_constraints bases m (w.Put (Slot of) class field (Slot x)) = Stores (slot_var bases m of) (look field (slot_var bases m x)) ∷ []
word_constraints bases m (w.Load to (Slot of) i) = Loads (slot_var bases m of) (look 0 (slot_var bases m to)) ∷ []
word_constraints bases m (w.Store (Slot of) i (Slot x)) = Stores (slot_var bases m of) (look 0 (slot_var bases m x)) ∷ []
word_constraints bases m (w.New to class site) = starts (slot_var bases m to) site ∷ []
word_constraints bases m (w.Array to element n site) = starts (slot_var bases m to) site ∷ []
word_constraints bases m (w.Query to statement site params) = starts (slot_var bases m to) site ∷ []
word_constraints bases m (w.Call to of callee args) = (passed_one bases m callee 0 of ++ passed bases m callee 1 args) ++ given_back bases m callee to
word_constraints bases m (w.Return (Some (Slot a))) = Copies (slot_var bases m a) (result_var bases m) ∷ []
word_constraints bases m _ = []

abbrev pub flat : List (List Constraint) → List Constraint
flat [] = []
flat (ks ∷ rest) = ks ++ flat rest

abbrev pub tree_step : List ℕ → ℕ → Tree-F (List Constraint) → List Constraint
tree_step bases m (t.Do node x) = word_constraints bases m x
tree_step bases m (t.If node a yes' no') = flat yes' ++ flat no'
tree_step bases m (t.Loop before node a body) = flat before ++ flat body

unfoldable pub tree_constraints : List ℕ → ℕ → Tree → List Constraint
tree_constraints bases m = fold-Tree (List Constraint) (tree_step bases m)

abbrev pub trees_constraints : List ℕ → ℕ → List Tree → List Constraint
trees_constraints bases m ts = flat (map (tree_constraints bases m) ts)

-- `this` of an entry is the first object
abbrev pub entry_constraints : List ℕ → ℕ → Bool → List Constraint
entry_constraints bases m true = starts (slot_var bases m 0) 0 ∷ []
entry_constraints bases m false = []

abbrev pub methods_constraints : List ℕ → ℕ → List Method → List Constraint
methods_constraints bases m [] = []
methods_constraints bases m (x ∷ xs) = (entry_constraints bases m x.entry ++ trees_constraints bases m x.body) ++ methods_constraints bases (m + 1) xs
