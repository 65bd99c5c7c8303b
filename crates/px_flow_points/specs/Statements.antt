-- The methods of code, and the statements of a method at any depth.
use Rattle.std.specs.Prelude.{◌≡◌, ℕ, List, Some, slice_get}
use Rattle.px_normal.specs.declared.word.Operand.{Operand}
use Rattle.px_normal.specs.declared.word.Word.{Word}
use Rattle.px_normal.specs.declared.method.Tree.{Tree}
use Rattle.px_normal.specs.declared.method.Tree.TheVariants.{Do, If, Loop}
use Rattle.px_normal.specs.declared.method.Method.{Method}
use Rattle.px_normal.specs.declared.code.Code.{Code}
use Rattle.px_normal.specs.First.{numbered}

-- the statement stands in the tree
pub data Stands (node : ℕ) (word : Word) : Tree → Type 0 where
  here : {t : Tree} → t ≡ Do node word → Stands node word t
  in_yes : {t : Tree} (n k : ℕ) (a : Operand) (ys ns : List Tree) (y : Tree) → t ≡ If n a ys ns → slice_get ys k ≡ Some y → Stands node word y → Stands node word t
  in_no : {t : Tree} (n k : ℕ) (a : Operand) (ys ns : List Tree) (y : Tree) → t ≡ If n a ys ns → slice_get ns k ≡ Some y → Stands node word y → Stands node word t
  in_first : {t : Tree} (n k : ℕ) (a : Operand) (before body : List Tree) (y : Tree) → t ≡ Loop before n a body → slice_get before k ≡ Some y → Stands node word y → Stands node word t
  in_body : {t : Tree} (n k : ℕ) (a : Operand) (before body : List Tree) (y : Tree) → t ≡ Loop before n a body → slice_get body k ≡ Some y → Stands node word y → Stands node word t

-- a method of the code, by its number from 1
pub record IsMethod (code : Code) (number : ℕ) (method : Method) : Type 0 where
  pub is : numbered code.methods number ≡ Some method

-- a statement of a method, by its node
pub record HasStatement (code : Code) (number node : ℕ) (word : Word) : Type 0 where
  pub method : Method
  pub is : IsMethod code number method
  pub place : ℕ
  pub tree : Tree
  pub at : slice_get method.body place ≡ Some tree
  pub stands : Stands node word tree
