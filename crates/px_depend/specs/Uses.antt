-- The slots that statements use.
use Rattle.std.specs.Prelude.{ℕ, zero, suc, nat_eq, Bool, false, ◌||◌, List, [], ◌∷◌, ◌++◌, Option, Some, None, if◌then◌else◌}
use Rattle.px_normal.specs.declared.word.Operand.{Operand}
use Rattle.px_normal.specs.declared.word.Operand.TheVariants.{Slot, Literal}
use Rattle.px_normal.specs.declared.word.Word.{Word}
use Rattle.px_normal.specs.declared.word.Word.TheVariants as w

-- `this`, in slot 0, is at both ends
abbrev pub used : Operand → List ℕ
used (Slot zero) = []
used (Slot (suc n)) = suc n ∷ []
used (Literal v) = []

abbrev pub used_or : Option Operand → List ℕ
used_or None = []
used_or (Some a) = used a

abbrev pub all_used : List Operand → List ℕ
all_used [] = []
all_used (a ∷ rest) = used a ++ all_used rest

abbrev pub uses : Word → List ℕ
uses (w.Set to a) = used a
uses (w.Op op to a b) = used a ++ used_or b
uses (w.Get to of class field) = used of
uses (w.Put of class field a) = used of ++ used a
uses (w.Load to of index) = used of ++ used index
uses (w.Store of index a) = (used of ++ used index) ++ used a
uses (w.Len to of) = used of
uses (w.New to class site) = []
uses (w.Array to element size site) = used size
uses (w.Call to of method args) = used of ++ all_used args
uses (w.Query to number site params) = all_used params
uses (w.Update to number params) = all_used params
uses (w.Next to of) = used of
uses (w.Long to of column) = used of ++ used column
uses (w.Text to of column) = used of ++ used column
uses (w.Print a) = used a
uses (w.Return a) = used_or a

abbrev pub has : ℕ → List ℕ → Bool
has k [] = false
has k (n ∷ ns) = nat_eq k n || has k ns

-- the slots of both lists
abbrev pub common : List ℕ → List ℕ → List ℕ
common [] right = []
common (k ∷ ks) right = if has k right then k ∷ common ks right else common ks right
