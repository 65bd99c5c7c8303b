-- The statements of a method, at any depth.
use Rattle.std.specs.Prelude.{◌≡◌, ℕ, List, ◌∷◌, Some}
use Rattle.px_normal.specs.declared.word.Operand.{Operand}
use Rattle.px_normal.specs.declared.word.Word.{Word}
use Rattle.px_normal.specs.declared.method.Method.{Method}
use Rattle.px_normal.specs.declared.method.Tree.{Tree}
use Rattle.px_normal.specs.declared.method.Tree.TheVariants.{Do, If, Loop}
use Rattle.px_normal.specs.declared.code.Code.{Code}
use Rattle.px_blocks.specs.declared.block.Deed.{Deed}
use Rattle.px_blocks.specs.declared.block.Deed.TheVariants as deed
use Rattle.px_normal.specs.First.{numbered}

-- trees have a statement
pub data Has : List Tree → ℕ → Deed → Type 0 where
  does : {node : ℕ} {word : Word} {ts : List Tree} → Has (Do node word ∷ ts) node (deed.Does word)
  chooses : {node : ℕ} {a : Operand} {ts : List Tree} (ys ns : List Tree) → Has (If node a ys ns ∷ ts) node (deed.Chooses a)
  tests : {node : ℕ} {a : Operand} {ts : List Tree} (first body : List Tree) → Has (Loop first node a body ∷ ts) node (deed.Tests a)
  in_yes : {node : ℕ} {d : Deed} {ys ts : List Tree} (at : ℕ) (a : Operand) (ns : List Tree) → Has ys node d → Has (If at a ys ns ∷ ts) node d
  in_no : {node : ℕ} {d : Deed} {ns ts : List Tree} (at : ℕ) (a : Operand) (ys : List Tree) → Has ns node d → Has (If at a ys ns ∷ ts) node d
  in_first : {node : ℕ} {d : Deed} {first ts : List Tree} (at : ℕ) (a : Operand) (body : List Tree) → Has first node d → Has (Loop first at a body ∷ ts) node d
  in_body : {node : ℕ} {d : Deed} {body ts : List Tree} (first : List Tree) (at : ℕ) (a : Operand) → Has body node d → Has (Loop first at a body ∷ ts) node d
  behind : {node : ℕ} {d : Deed} {t : Tree} {ts : List Tree} → Has ts node d → Has (t ∷ ts) node d

-- a statement of a method of the code
pub record HasStatement (code : Code) (number node : ℕ) (d : Deed) : Type 0 where
  pub method : Method
  pub is : numbered code.methods number ≡ Some method
  pub has : Has method.body node d
