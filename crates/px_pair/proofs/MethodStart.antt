-- The block where a method begins.
use Rattle.std.proofs.Common.{◌≡◌, ℕ, zero, suc, ◌+◌, ◌<◌, ◌≤◌, Bool, true, false, ◌==◌, List, [], ◌∷◌, ◌++◌, map, Some, slice_get, if◌then◌else◌, refl, sym, ap, subst, ◌∙◌, eqb-true, arith}
use Rattle.std.proofs.lemmas.List.Concat.{flat_map-cons}
use Rattle.std.specs.List.{flat_map}
use Rattle.px_code.specs.declared.method.Method.{Method}
use Rattle.px_code.specs.declared.method.Tree.{Tree}
use Rattle.px_code.specs.declared.method.Tree.TheVariants.{Do}
use Rattle.px_code.specs.declared.word.Word.{Word}
use Rattle.px_code.specs.declared.block.Statement.{Statement}
use Rattle.px_code.specs.declared.block.Block.{Block}
use Rattle.px_code.specs.Machine.{block_at}
use Rattle.px_code.specs.Cut.{Line, tree_line, lines_from, statement_line, block_lines, IsFilled, first_of}
use Rattle.px_code.specs.WellFormed.{ends_in_return}
use Rattle.px_pair.proofs.Heaps.{eq_self}
use Rattle.px_pair.proofs.MethodRun.{AreFilled}

-- ---- where a method begins

above : (i : ℕ) (methods : List Method) (l : Line) (ls : List Line) → lines_from i methods ≡ l ∷ ls → i ≤ l.method
above i [] l ls e = cc
above i (x ∷ methods) l ls e = by_body x.body e (above (i + 1) methods l ls)
  where
    by_body : (body : List Tree) → map (tree_line i) body ++ lines_from (i + 1) methods ≡ l ∷ ls → (lines_from (i + 1) methods ≡ l ∷ ls → i + 1 ≤ l.method) → i ≤ l.method
    by_body [] e rest = let later = rest e in omega (arith, later)
    by_body (Do node word ∷ trees) e rest = let same : tree_line i (Do node word) ≡ l = cc in let here : i ≡ l.method = ap (λ (x : Line). x.method) same in omega (arith, here)

-- the statements of a block leave the rest of its method
strip : (j : ℕ) (ss : List Statement) (trees : List Tree) (methods : List Method) (ls : List Line) → map (statement_line j) ss ++ ls ≡ map (tree_line j) trees ++ lines_from (j + 1) methods → (rest : List Tree) × (ls ≡ map (tree_line j) rest ++ lines_from (j + 1) methods)
strip j [] trees methods ls e = (trees, e)
strip j (s ∷ ss) [] methods ls e = let never = above (j + 1) methods (statement_line j s) (map (statement_line j) ss ++ ls) (sym e) in absurd (omega (arith, never))
strip j (s ∷ ss) (Do node word ∷ trees) methods ls e = strip j ss trees methods ls (let tails : map (statement_line j) ss ++ ls ≡ map (tree_line j) trees ++ lines_from (j + 1) methods = cc in tails)

lines_of : (b : Block) (later : List Block) (ls : List Line) → flat_map block_lines (b ∷ later) ≡ ls → map (statement_line b.method) b.statements ++ flat_map block_lines later ≡ ls
lines_of b later ls e = sym (flat_map-cons block_lines b later) ∙ e

-- a filled block is of the method whose line comes first
is_of : (i : ℕ) (b : Block) (xs : List Statement) (ls : List Line) (node : ℕ) (word : Word) (rest : List Line) → IsFilled xs → map (statement_line b.method) xs ++ ls ≡ tree_line i (Do node word) ∷ rest → b.method ≡ i
is_of i b [] ls node word rest f e = absurd f
is_of i b (s ∷ xs) ls node word rest f e = let same : statement_line b.method s ≡ tree_line i (Do node word) = cc in ap (λ (l : Line). l.method) same

module _ (blocks : List Block) where
  abbrev pub Numbered : ℕ → List Block → Type 0
  Numbered n later = (k : ℕ) → slice_get later k ≡ block_at blocks (suc (k + n))

  numbered_on : (b : Block) (later : List Block) (n : ℕ) → Numbered n (b ∷ later) → Numbered (suc n) later
  numbered_on b later n h = λ k. h (suc k) ∙ ap (block_at blocks) (shift k)
    where
      shift : (k : ℕ) → suc (suc k + n) ≡ suc (k + suc n)
      shift k = omega arith

  pub record Start (first m : ℕ) (body : List Tree) : Type 0 where
    pub n : ℕ
    pub first_is : first ≡ suc n
    pub b : Block
    pub later : List Block
    pub tail : List Line
    pub is : block_at blocks (suc n) ≡ Some b
    pub lines : flat_map block_lines (b ∷ later) ≡ map (tree_line m) body ++ tail
    pub later_is : Numbered (suc n) later
    pub full : IsFilled b.statements
    pub filled : AreFilled later

  record Skipped (m first : ℕ) (ls : List Line) : Type 0 where
    n : ℕ
    later : List Block
    first_is : first ≡ first_of m (suc n) later
    later_is : Numbered n later
    filled : AreFilled later
    lines : flat_map block_lines later ≡ ls

  eq_no : (a b : ℕ) → a < b → (a == b) ≡ false
  eq_no a b h = by (a == b) refl
    where
      by : (r : Bool) → (a == b) ≡ r → (a == b) ≡ false
      by true e = let same = eqb-true a b e in absurd (omega (arith, same, h))
      by false e = e

  -- a block of another method is passed
  passed : (m n : ℕ) (b : Block) (later : List Block) (ls : List Line) → (b.method == m) ≡ false → Skipped m (first_of m (suc (suc n)) later) ls → Skipped m (first_of m (suc n) (b ∷ later)) ls
  passed m n b later ls other s = record {
    n = s.n;
    later = s.later;
    first_is = ap (λ (r : Bool). if r then suc n else first_of m (suc n + 1) later) other ∙ ap (λ (k : ℕ). first_of m k later) next ∙ s.first_is;
    later_is = s.later_is;
    filled = s.filled;
    lines = s.lines;
  }
    where
      next : suc n + 1 ≡ suc (suc n)
      next = omega arith

  -- the rest of a method lies before every later one
  skip : (later : List Block) (j : ℕ) (trees : List Tree) (methods : List Method) (m n : ℕ) → j < m → AreFilled later → Numbered n later → flat_map block_lines later ≡ map (tree_line j) trees ++ lines_from (j + 1) methods → Skipped m (first_of m (suc n) later) (lines_from (j + 1) methods)
  skip later j [] methods m n before filled is e = record { n = n; later = later; first_is = refl; later_is = is; filled = filled; lines = e }
  skip [] j (Do node word ∷ trees) methods m n before filled is e = cc
  skip (b ∷ later) j (Do node word ∷ trees) methods m n before filled is e =
      let of : b.method ≡ j = is_of j b b.statements (flat_map block_lines later) node word (map (tree_line j) trees ++ lines_from (j + 1) methods) filled.0 (lines_of b later (map (tree_line j) (Do node word ∷ trees) ++ lines_from (j + 1) methods) e) in
      let rest : (rest : List Tree) × (flat_map block_lines later ≡ map (tree_line j) rest ++ lines_from (j + 1) methods) =
      strip j b.statements (Do node word ∷ trees) methods (flat_map block_lines later)
      (subst (λ (i : ℕ). map (statement_line i) b.statements ++ flat_map block_lines later ≡ map (tree_line j) (Do node word ∷ trees) ++ lines_from (j + 1) methods) of (lines_of b later (map (tree_line j) (Do node word ∷ trees) ++ lines_from (j + 1) methods) e)) in
      let after : Skipped m (first_of m (suc (suc n)) later) (lines_from (j + 1) methods) = skip later j rest.0 methods m (suc n) before filled.1 (numbered_on b later n is) rest.1 in
      passed m n b later (lines_from (j + 1) methods) (ap (λ (i : ℕ). i == m) of ∙ eq_no j m before) after

  -- at its first line the method begins
  at_first : (later : List Block) (i : ℕ) (body : List Tree) (tail : List Line) (n : ℕ) → ends_in_return false body ≡ true → AreFilled later → Numbered n later → flat_map block_lines later ≡ map (tree_line i) body ++ tail → Start (first_of i (suc n) later) i body
  at_first later i [] tail n ends filled is e = cc
  at_first [] i (Do node word ∷ body) tail n ends filled is e = cc
  at_first (b ∷ later) i (Do node word ∷ body) tail n ends filled is e =
      let of : b.method ≡ i = is_of i b b.statements (flat_map block_lines later) node word (map (tree_line i) body ++ tail) filled.0 (lines_of b later (map (tree_line i) (Do node word ∷ body) ++ tail) e) in
      record {
        n = n;
        first_is = ap (λ (r : Bool). if r then suc n else first_of i (suc n + 1) later) (ap (λ (k : ℕ). k == i) of ∙ eq_self i);
        b = b;
        later = later;
        tail = tail;
        is = ap (λ (k : ℕ). block_at blocks (suc k)) (sym start) ∙ sym (is zero);
        lines = e;
        later_is = numbered_on b later n is;
        full = filled.0;
        filled = filled.1;
      }
    where
      start : 0 + n ≡ n
      start = omega arith

  pub find : (methods : List Method) (later : List Block) (j : ℕ) (trees : List Tree) (m d n : ℕ) (method : Method) → m ≡ suc (j + d) → AreFilled later → Numbered n later → flat_map block_lines later ≡ map (tree_line j) trees ++ lines_from (j + 1) methods → slice_get methods d ≡ Some method → ends_in_return false method.body ≡ true → Start (first_of m (suc n) later) m method.body
  find [] later j trees m d n method at filled is e there ends = cc
  find (x ∷ methods) later j trees m zero n method at filled is e there ends =
      let s : Skipped m (first_of m (suc n) later) (lines_from (j + 1) (x ∷ methods)) = skip later j trees (x ∷ methods) m n (omega (arith, at)) filled is e in
      let same : x ≡ method = cc in
      let number : j + 1 ≡ m = omega (arith, at) in
      subst (λ (f : ℕ). Start f m method.body) (sym s.first_is)
      (at_first s.later m method.body (lines_from ((j + 1) + 1) methods) s.n ends s.filled s.later_is (s.lines ∙ (λ i. map (tree_line (number i)) (same i).body ++ lines_from ((j + 1) + 1) methods)))
  find (x ∷ methods) later j trees m (suc d) n method at filled is e there ends =
      let s : Skipped m (first_of m (suc n) later) (lines_from (j + 1) (x ∷ methods)) = skip later j trees (x ∷ methods) m n (omega (arith, at)) filled is e in
      subst (λ (f : ℕ). Start f m method.body) (sym s.first_is)
      (find methods s.later (j + 1) x.body m d s.n method (omega (arith, at)) s.filled s.later_is s.lines there ends)
