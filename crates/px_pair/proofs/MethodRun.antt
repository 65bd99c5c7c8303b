-- The blocks of a method run as its statements do.
use Rattle.std.proofs.Common.{◌≡◌, ℕ, zero, suc, ◌+◌, Bool, true, false, List, [], ◌∷◌, ◌++◌, map, Some, slice_get, refl, sym, ap, subst, ◌∙◌, arith}
use Rattle.std.proofs.lemmas.List.Concat.{flat_map-cons}
use Rattle.std.specs.List.{AllByRecursion, flat_map}
use Rattle.px_code.specs.declared.method.Tree.{Tree}
use Rattle.px_code.specs.declared.method.Tree.TheVariants.{Do}
use Rattle.px_code.specs.declared.word.Word.{Word}
use Rattle.px_code.specs.declared.block.Statement.{Statement}
use Rattle.px_code.specs.declared.block.Block.{Block}
use Rattle.px_code.specs.Act.{slot_of}
use Rattle.px_code.specs.CodeRun.{body_run}
use Rattle.px_code.specs.Machine.{is_return, block_at, exit_to}
use Rattle.px_code.specs.Cut.{Line, tree_line, statement_line, block_lines, IsFilled, ends_in_return as block_returns, exit_if}
use Rattle.px_code.specs.WellFormed.{ends_in_return}
use Rattle.px_pair.specs.Good.{IsBelowIf, WritesInside}
use Rattle.px_pair.proofs.BlockRest.{does_next, two, begun, Follows, one_more}

-- ---- all statements of a method

-- whether the last of some statements is a return; `before` tells it of those before
abbrev last_of : Bool → List Statement → Bool
last_of before [] = before
last_of before (s ∷ ss) = last_of (is_return s.word) ss

by_last : (s : Statement) (ss : List Statement) → block_returns (s ∷ ss) ≡ last_of (is_return s.word) ss
by_last s [] = refl
by_last s (t ∷ ss) = by_last t ss

abbrev pub AreFilled : List Block → Type 0
AreFilled blocks = AllByRecursion (λ (b : Block). IsFilled b.statements) blocks

module _ (blocks : List Block) (method size : ℕ) (tail : List Line) (exits : (n : ℕ) (b : Block) → block_at blocks n ≡ Some b → b.exit ≡ exit_if (block_returns b.statements) (suc n)) where
  -- In block n, before some of its statements: they and the later blocks are the rest of the method, and what follows it.
  pub record Position (b : Block) (n : ℕ) (before : Bool) (ss : List Statement) (later : List Block) (trees : List Tree) : Type 0 where
    pub lines : map (statement_line method) ss ++ flat_map block_lines later ≡ map (tree_line method) trees ++ tail
    pub exit : b.exit ≡ exit_if (last_of before ss) (suc n)
    pub later_is : (k : ℕ) → slice_get later k ≡ block_at blocks (suc (k + n))
    pub filled : AreFilled later

  abbrev pub Goes_on : List Tree → Type 0
  Goes_on trees = (b : Block) (n : ℕ) (ss : List Statement) (later : List Block) → Position b n false ss later trees → Follows blocks method size b ss trees

  head : (node : ℕ) (word : Word) (trees : List Tree) → IsBelowIf size (slot_of word) → (is_return word ≡ false → Goes_on trees) → (b : Block) (n : ℕ) (before : Bool) (s : Statement) (ss : List Statement) (later : List Block) → Position b n before (s ∷ ss) later (Do node word ∷ trees) → Follows blocks method size b (s ∷ ss) (Do node word ∷ trees)
  head node word trees below go b n before s ss later at =
      subst (λ (t : Tree). Follows blocks method size b (s ∷ ss) (t ∷ trees)) same_tree
      (one_more blocks method size b s.node s.word s.send ss trees (subst (λ (x : Word). IsBelowIf size (slot_of x)) (sym same_word) below) after)
    where
      same_line : statement_line method s ≡ tree_line method (Do node word)
      same_line = let e = at.lines in cc

      same_word : s.word ≡ word
      same_word = ap (λ (l : Line). l.word) same_line

      same_tree : Do s.node s.word ≡ Do node word
      same_tree = λ i. Do (same_line i).node (same_line i).word

      rest_lines : map (statement_line method) ss ++ flat_map block_lines later ≡ map (tree_line method) trees ++ tail
      rest_lines = let e = at.lines in cc

      after : is_return s.word ≡ false → Follows blocks method size b ss trees
      after plain = go (ap (λ (x : Word). is_return x) (sym same_word) ∙ plain) b n ss later (record {
        lines = rest_lines;
        exit = at.exit ∙ ap (λ (r : Bool). exit_if (last_of r ss) (suc n)) plain;
        later_is = at.later_is;
        filled = at.filled;
      })

  -- a block is done, and the next one begins
  pub enter : (node : ℕ) (word : Word) (trees : List Tree) → IsBelowIf size (slot_of word) → (is_return word ≡ false → Goes_on trees) → (c : Block) (n : ℕ) (later : List Block) (xs : List Statement) → c.statements ≡ xs → IsFilled xs
      → block_at blocks (suc n) ≡ Some c → flat_map block_lines (c ∷ later) ≡ map (tree_line method) (Do node word ∷ trees) ++ tail → ((k : ℕ) → slice_get later k ≡ block_at blocks (suc (k + suc n))) → AreFilled later
      → Follows blocks method size c c.statements (Do node word ∷ trees)
  enter node word trees below go c n later [] e f is lines later_is filled = absurd f
  enter node word trees below go c n later (s ∷ ss) e f is lines later_is filled =
      subst (λ (ys : List Statement). Follows blocks method size c ys (Do node word ∷ trees)) (sym e)
      (head node word trees below go c (suc n) false s ss later (record {
        lines = (λ i. map (statement_line (sym of_method i)) (s ∷ ss) ++ flat_map block_lines later) ∙ all_lines;
        exit = exits (suc n) c is ∙ ap (λ (r : Bool). exit_if r (suc (suc n))) (ap block_returns e ∙ by_last s ss);
        later_is = later_is;
        filled = filled;
      }))
    where
      all_lines : map (statement_line c.method) (s ∷ ss) ++ flat_map block_lines later ≡ map (tree_line method) (Do node word ∷ trees) ++ tail
      all_lines = ap (λ (ys : List Statement). map (statement_line c.method) ys ++ flat_map block_lines later) (sym e) ∙ sym (flat_map-cons block_lines c later) ∙ lines

      of_method : c.method ≡ method
      of_method = let same : statement_line c.method s ≡ tree_line method (Do node word) = cc in ap (λ (l : Line). l.method) same

  pub follow : (trees : List Tree) → ends_in_return false trees ≡ true → WritesInside size trees → Goes_on trees
  follow [] ends inside b n ss later at = cc
  follow (Do node word ∷ trees) ends inside b n (s ∷ ss) later at = head node word trees inside.0 (λ plain. follow trees (ap (λ (r : Bool). ends_in_return r trees) (sym plain) ∙ ends) inside.1) b n false s ss later at
  follow (Do node word ∷ trees) ends inside b n [] [] at = let e = at.lines in cc
  follow (Do node word ∷ trees) ends inside b n [] (c ∷ later) at =
      λ heap slots base marks named prior counted.
      does_next blocks b c (suc n) (two method heap slots base marks named) prior (body_run (Do node word ∷ trees) (begun heap slots prior)) (ap exit_to at.exit) is
      (enter node word trees inside.0 (λ plain. follow trees (ap (λ (r : Bool). ends_in_return r trees) (sym plain) ∙ ends) inside.1) c n later c.statements refl at.filled.0 is at.lines (λ k. at.later_is (suc k) ∙ ap (block_at blocks) (shift k)) at.filled.1 heap slots base marks named prior counted)
    where
      start : 0 + n ≡ n
      start = omega arith

      shift : (k : ℕ) → suc (suc k + n) ≡ suc (k + suc n)
      shift k = omega arith

      is : block_at blocks (suc n) ≡ Some c
      is = ap (λ (k : ℕ). block_at blocks (suc k)) (sym start) ∙ sym (at.later_is zero)
