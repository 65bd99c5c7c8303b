-- The flow of control through the statements of a method, for a slot.
use Rattle.std.specs.Prelude.{ℕ, nat_eq, Bool, false, List, [], ◌∷◌, map, Option, Some, None}
use Rattle.px_normal.specs.declared.word.Word.{Word}
use Rattle.px_normal.specs.declared.word.Word.TheVariants as w
use Rattle.px_normal.specs.declared.method.Tree.{Tree, Tree-F, fold-Tree}
use Rattle.px_normal.specs.declared.method.Tree.TheOpen.{Tree-F as t}
use Rattle.px_normal.specs.Words.{to_of}
use Rattle.px_depend.specs.Flow.{Flow, Empty, Step, Then, Either, Round, Stop}
use Rattle.px_depend.specs.Uses.{has, used, uses}

abbrev pub is_slot : ℕ → Option ℕ → Bool
is_slot k None = false
is_slot k (Some n) = nat_eq k n

-- nothing comes after a return
abbrev pub after_word : Word → Flow
after_word (w.Return a) = Stop
after_word x = Empty

abbrev pub in_line : List Flow → Flow
in_line [] = Empty
in_line (f ∷ fs) = Then f (in_line fs)

abbrev pub shape_step : ℕ → Tree-F Flow → Flow
shape_step k (t.Do node x) = Then (Step node (has k (uses x)) (is_slot k (to_of x))) (after_word x)
shape_step k (t.If node a yes' no') = Then (Step node (has k (used a)) false) (Either (in_line yes') (in_line no'))
shape_step k (t.Loop before node a body) = Round (Then (in_line before) (Step node (has k (used a)) false)) (in_line body)

unfoldable pub shape : ℕ → Tree → Flow
shape k = fold-Tree Flow (shape_step k)

-- of slot k through a list of statements
abbrev pub shape_of : ℕ → List Tree → Flow
shape_of k ts = in_line (map (shape k) ts)
