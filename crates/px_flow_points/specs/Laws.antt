-- What is proved of the constraints.
use Rattle.std.specs.Prelude.{◌≡◌, ◌<◌, ℕ, true, List, length}
use Rattle.px_constraints.specs.declared.facts.Fact.{Fact}
use Rattle.px_constraints.specs.declared.system.Look.{Look}
use Rattle.px_constraints.specs.declared.system.Cells.{Cells}
use Rattle.px_constraints.specs.declared.system.Constraint.{Constraint}
use Rattle.px_constraints.specs.declared.system.Constraint.TheVariants.{Start, Copies, Loads, Stores}
use Rattle.px_constraints.specs.Systems.{System, with_constraints, no_constraints}
use Rattle.px_constraints.specs.System.{At, copies_at, loads_at, stores_at}
use Rattle.px_normal.specs.declared.word.Word.{Word}
use Rattle.px_normal.specs.declared.method.Method.{Method}
use Rattle.px_normal.specs.declared.code.Code.{Code}
use Rattle.px_flow_points.specs.Statements.{IsMethod, HasStatement}
use Rattle.px_flow_points.specs.Numbers.{slot_var}
use Rattle.px_flow_points.specs.Constraints.{starts, word_constraints, methods_constraints}

pub record Both (A B : Type 0) : Type 0 where
  pub to : A → B
  pub back : B → A

-- the lists of a variable that is there are its constraints
pub record AreGrouped (ks : List Constraint) (n : ℕ) (parts : List Cells) (C : System) : Type 0 where
  pub starts : (f : Fact) → Both (At C.starts f) (At ks (Start f))
  pub copies : (x y : ℕ) → x < n → Both (At (copies_at C x) y) (At ks (Copies x y))
  pub loads : (x : ℕ) (l : Look) → x < n → Both (At (loads_at C x) l) (At ks (Loads x l))
  pub stores : (x : ℕ) (l : Look) → x < n → Both (At (stores_at C x) l) (At ks (Stores x l))
  pub size : length C.copies ≡ n
  pub size_loads : length C.loads ≡ n
  pub size_stores : length C.stores ≡ n
  pub cells : C.cells ≡ parts

abbrev pub Groups : Type 0
Groups = (ks : List Constraint) (n : ℕ) (parts : List Cells) → AreGrouped ks n parts (with_constraints ks (no_constraints n parts))

-- where a constraint comes from: a statement of a method, or an entry
pub data Comes (code : Code) (bases : List ℕ) (k : Constraint) : Type 0 where
  of_statement : (m node : ℕ) (word : Word) → HasStatement code m node word → At (word_constraints bases m word) k → Comes code bases k
  of_entry : (m : ℕ) (method : Method) → IsMethod code m method → method.entry ≡ true → k ≡ starts (slot_var bases m 0) 0 → Comes code bases k

abbrev pub Collects : Type 0
Collects = (code : Code) (bases : List ℕ) (k : Constraint) → Both (At (methods_constraints bases 1 code.methods) k) (Comes code bases k)
