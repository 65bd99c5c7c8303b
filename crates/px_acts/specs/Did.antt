-- How a call meets what a word does.
use Rattle.std.specs.Prelude.{◌≡◌, ℕ, List, None}
use Rattle.px_value.specs.declared.value.Value.{Value}
use Rattle.px_value.specs.declared.object.Object.{Object}
use Rattle.px_value.specs.declared.statement.TableOp.{TableOp}
use Rattle.px_value.specs.Operators.{Applied}
use Rattle.px_effects.specs.Act.{Acted, acted, Landed, landed, Firsts, Place as Cell}
use Rattle.px_effects.specs.Cells.{first_cells}
use Rattle.px_effects.specs.Operations.{Acts, Operates}
use Rattle.px_normal.specs.declared.code.Code.{Code}
use Rattle.px_normal.specs.First.{fresh_of}
use Rattle.px_normal.specs.Words.{Does, Works, Invokes}
use Rattle.px_acts.specs.declared.does.Does.{Does as Told}
use Rattle.px_acts.specs.declared.does.Does.TheVariants as told
use Rattle.px_acts.specs.Places.{wrote as cells_of}
use Rattle.px_acts.specs.Ends.{IsEnd}

-- the first cells of a program's objects
abbrev pub firsts_of : Code → Firsts
firsts_of code = first_cells (fresh_of code)

-- what a call works on
pub record Shared : Type 0 where
  pub heap : List Object
  pub prints : List (List ℕ)

-- an act came to a value or a throw with the lines that are printed then, and left this
pub record IsLanded (a : Acted) (l : Landed) (v : Applied) (cells : List Cell) (to : Shared) : Type 0 where
  pub comes : l.value ≡ v
  pub printed : l.prints ≡ to.prints
  pub wrote : a.writes ≡ cells
  pub left : a.heap ≡ to.heap

pub record Asked (op op' : TableOp) (from to : Shared) : Type 0 where
  pub same : op ≡ op'
  pub stays : to ≡ from

pub record Called (method m : ℕ) (values vs : List Value) (from to : Shared) : Type 0 where
  pub callee : method ≡ m
  pub given : values ≡ vs
  pub stays : to ≡ from

-- an act is done; a question and a call do nothing yet
abbrev pub Did : Firsts → Does → Shared → Told → Shared → Type 0
Did firsts (Works (Acts act)) from (told.Comes v w) to = let a = acted firsts act from.heap in IsLanded a (landed from.prints a.ends) v (cells_of w) to
Did firsts (Works (Operates op)) from (told.Operates op') to = Asked op op' from to
Did firsts (Invokes method values) from (told.Invokes m vs) to = Called method m values vs from to
Did firsts d from t to = ⊥

-- an act that prints nothing
abbrev pub ActsAs : Acted → Told → List Object → Type 0
ActsAs a (told.Comes v w) heap = IsEnd a v (cells_of w) heap
ActsAs a t heap = ⊥

-- what was printed comes to a value or a throw
abbrev pub LandsAs : Landed → Told → List (List ℕ) → Type 0
LandsAs l (told.Comes v None) prints = l ≡ record { value = v; prints = prints }
LandsAs l t prints = ⊥
