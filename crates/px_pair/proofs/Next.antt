-- A block that doesn't return is followed by another one.
use Rattle.std.proofs.Common.{◌≡◌, ℕ, zero, suc, ◌+◌, Bool, true, false, List, [], ◌∷◌, ◌++◌, map, Some, slice_get, refl, sym, ap, ◌∙◌}
use Rattle.std.proofs.lemmas.List.Concat.{flat_map-cons}
use Rattle.std.specs.List.{AllByRecursion, flat_map}
use Rattle.px_code.specs.declared.side.Side.{Side}
use Rattle.px_code.specs.declared.method.Method.{Method}
use Rattle.px_code.specs.declared.method.Tree.{Tree}
use Rattle.px_code.specs.declared.method.Tree.TheVariants.{Do}
use Rattle.px_code.specs.declared.word.Word.{Word}
use Rattle.px_code.specs.declared.word.Word.TheVariants as w
use Rattle.px_code.specs.declared.code.Code.{Code}
use Rattle.px_code.specs.declared.block.Statement.{Statement}
use Rattle.px_code.specs.declared.block.Block.{Block}
use Rattle.px_value.specs.Operators.{Applied}
use Rattle.std.proofs.Common.{Ok, Err}
use Rattle.px_code.specs.Act.{Acted, acted, act_of}
use Rattle.px_code.specs.Machine.{Machine, Stop, RunsOn, Returned, Threw, Stepped, is_return, step, step_ends, steps, stop_of, then_steps, top_values}
use Rattle.px_code.specs.Cut.{Line, tree_line, lines_from, statement_line, block_lines, IsFilled, IsBlock, ends_in_return as block_returns}
use Rattle.px_code.specs.WellFormed.{ends_in_return}

-- the last line is a return; `before` tells it of those before
abbrev pub lines_end : Bool → List Line → Bool
lines_end before [] = before
lines_end before (l ∷ lines) = lines_end (is_return l.word) lines

trees_end : (before : Bool) (m : ℕ) (trees : List Tree) (tail : List Line) → lines_end before (map (tree_line m) trees ++ tail) ≡ lines_end (ends_in_return before trees) tail
trees_end before m [] tail = refl
trees_end before m (Do node word ∷ trees) tail = trees_end (is_return word) m trees tail

ends_whole : (trees : List Tree) → ends_in_return false trees ≡ true → ends_in_return true trees ≡ true
ends_whole [] h = cc
ends_whole (Do node word ∷ trees) h = h

pub methods_end : (m : ℕ) (methods : List Method) → AllByRecursion (λ (x : Method). ends_in_return false x.body ≡ true) methods → lines_end true (lines_from m methods) ≡ true
methods_end m [] h = refl
methods_end m (x ∷ methods) h = trees_end true m x.body (lines_from (m + 1) methods) ∙ ap (λ b. lines_end b (lines_from (m + 1) methods)) (ends_whole x.body h.0) ∙ methods_end (m + 1) methods h.1

statements_end : (before : Bool) (m : ℕ) (s : Statement) (statements : List Statement) (tail : List Line) → lines_end before (map (statement_line m) (s ∷ statements) ++ tail) ≡ lines_end (block_returns (s ∷ statements)) tail
statements_end before m s [] tail = refl
statements_end before m s (t ∷ statements) tail = statements_end (is_return s.word) m t statements tail

block_end : (before : Bool) (m : ℕ) (statements : List Statement) (tail : List Line) → IsFilled statements → lines_end before (map (statement_line m) statements ++ tail) ≡ lines_end (block_returns statements) tail
block_end before m [] tail full = absurd full
block_end before m (s ∷ statements) tail full = statements_end before m s statements tail

forgets : (before : Bool) (lines : List Line) → lines_end before lines ≡ true → lines_end true lines ≡ true
forgets before [] h = refl
forgets before (l ∷ lines) h = h

module _ (code : Code) (sides : List Side) where
  pub next_there : (blocks : List Block) (k : ℕ) (b : Block) → AllByRecursion (IsBlock code sides) blocks → lines_end true (flat_map block_lines blocks) ≡ true → slice_get blocks k ≡ Some b → block_returns b.statements ≡ false → (c : Block) × (slice_get blocks (suc k) ≡ Some c)
  next_there [] k b each ends at runs = cc
  next_there (x ∷ []) zero b each ends at runs =
      let is : x ≡ b = cc in
      let last : block_returns x.statements ≡ true = sym (block_end true x.method x.statements [] each.0.filled) ∙ ap (lines_end true) (sym (flat_map-cons block_lines x [])) ∙ ends in
      let never : true ≡ false = sym last ∙ ap (λ (y : Block). block_returns y.statements) is ∙ runs in
      cc
  next_there (x ∷ y ∷ blocks) zero b each ends at runs = (y, refl)
  next_there (x ∷ blocks) (suc k) b each ends at runs =
      next_there blocks k b each.1
      (forgets (block_returns x.statements) (flat_map block_lines blocks) (sym (block_end true x.method x.statements (flat_map block_lines blocks) each.0.filled) ∙ ap (lines_end true) (sym (flat_map-cons block_lines x blocks)) ∙ ends))
      at runs

-- ---- a block that runs on has no return at its end

word_goes : (word : Word) → stop_of word ≡ RunsOn → is_return word ≡ false
word_goes (w.Set to a) h = refl
word_goes (w.Op op to a b) h = refl
word_goes (w.Get to of class field) h = refl
word_goes (w.Put of class field a) h = refl
word_goes (w.Return a) h = cc

ends_goes : (s : Statement) (a : Acted) (m : Machine) (ends : Applied) → (step_ends s a m ends).stop ≡ RunsOn → is_return s.word ≡ false
ends_goes s a m (Ok v) h = word_goes s.word h
ends_goes s a m (Err t) h = cc

abbrev act : Statement → Machine → Acted
act s m = acted (act_of s.word (top_values m.frames)) m.heap

step_goes : (s : Statement) (m : Machine) → (step s m).stop ≡ RunsOn → is_return s.word ≡ false
step_goes s m h = ends_goes s (act s m) m (act s m).ends h

record GoesOn (one : Stepped) (rest : Machine → Stepped) (stop : Stop) : Type 0 where
  first : stop ≡ RunsOn
  then : (rest one.machine).stop ≡ RunsOn

goes_on : (one : Stepped) (rest : Machine → Stepped) (stop : Stop) → one.stop ≡ stop → (then_steps one rest stop).stop ≡ RunsOn → GoesOn one rest stop
goes_on one rest RunsOn e h = record { first = refl; then = h }
goes_on one rest Returned e h = let never : Returned ≡ RunsOn = sym e ∙ h in cc
goes_on one rest (Threw t) e h = let never : Threw t ≡ RunsOn = sym e ∙ h in cc

pub runs_no_return : (statements : List Statement) (m : Machine) → (steps statements m).stop ≡ RunsOn → block_returns statements ≡ false
runs_no_return [] m h = refl
runs_no_return (s ∷ []) m h = step_goes s m (goes_on (step s m) (steps []) (step s m).stop refl h).first
runs_no_return (s ∷ t ∷ rest) m h = runs_no_return (t ∷ rest) (step s m).machine (goes_on (step s m) (steps (t ∷ rest)) (step s m).stop refl h).then
