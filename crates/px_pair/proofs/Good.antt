-- Blocks that are cut from code are good ones.
use Rattle.std.proofs.Common.{◌≡◌, ℕ, zero, suc, ◌+◌, Bool, true, false, List, [], ◌∷◌, ◌++◌, map, Some, None, slice_get, Contains, refl, sym, ap, subst, ◌∙◌, arith}
use Rattle.std.proofs.lemmas.List.Concat.{flat_map-cons}
use Rattle.std.specs.List.{AllByRecursion, flat_map}
use Rattle.px_code.specs.declared.side.Side.{Side}
use Rattle.px_code.specs.declared.method.Method.{Method}
use Rattle.px_code.specs.declared.method.Tree.{Tree}
use Rattle.px_code.specs.declared.method.Tree.TheVariants.{Do}
use Rattle.px_code.specs.declared.word.Word.{Word}
use Rattle.px_code.specs.declared.code.Code.{Code}
use Rattle.px_code.specs.declared.block.Statement.{Statement}
use Rattle.px_code.specs.declared.block.Block.{Block}
use Rattle.px_code.specs.declared.block.Exit.{Exit}
use Rattle.px_code.specs.Points.{IsMethod, HasStatement}
use Rattle.px_code.specs.CodeRun.{method_at}
use Rattle.px_code.specs.Machine.{is_return, block_at, exit_to}
use Rattle.px_code.specs.Cut.{Line, tree_line, lines_from, statement_line, block_lines, IsFilled, IsBlock, ends_in_return as block_returns, exit_if, AreInRow}
use Rattle.px_code.specs.Law.{AreStatements, NoLiteralReference}
use Rattle.px_code.specs.WellFormed.{ends_in_return}
use Rattle.px_pair.specs.Good.{HasNoLiteral, CutIsGood}
use Rattle.px_pair.proofs.FreshCalls.{all_more}

-- ---- each line is a statement of its method

module _ (code : Code) where
  abbrev IsLine : Line → Type 0
  IsLine l = HasStatement code l.method l.node l.word

  body_lines : (m : ℕ) (method : Method) → IsMethod code m method → (trees : List Tree) → ((x : Tree) → Contains trees x → Contains method.body x) → AllByRecursion IsLine (map (tree_line m) trees)
  body_lines m method is [] within = tt
  body_lines m method is (Do node word ∷ trees) within = (
    record { method = method; is = is; has = within (Do node word) (zero, omega arith, refl) },
    body_lines m method is trees (λ x h. within x (suc h.0, (let l = h.1 in omega (arith, l)), h.2)),
  )

  all_lines : (m : ℕ) (methods : List Method) → ((k : ℕ) → slice_get methods k ≡ method_at code.methods (k + m)) → AllByRecursion IsLine (lines_from m methods)
  all_lines m [] link = tt
  all_lines m (method ∷ methods) link =
      all_more IsLine (map (tree_line m) method.body) (lines_from (m + 1) methods) (body_lines m method (record { is = ap (method_at code.methods) start ∙ sym (link zero) }) method.body (λ x h. h))
      (all_lines (m + 1) methods (λ k. link (suc k) ∙ ap (method_at code.methods) (shift k)))
    where
      start : m ≡ 0 + m
      start = omega arith

      shift : (k : ℕ) → suc k + m ≡ k + (m + 1)
      shift k = omega arith

  code_lines : AllByRecursion IsLine (lines_from 1 code.methods)
  code_lines = all_lines 1 code.methods (λ k. ap (method_at code.methods) (next k))
    where
      next : (k : ℕ) → suc k ≡ k + 1
      next k = omega arith

  all_left : (xs ys : List Line) → AllByRecursion IsLine (xs ++ ys) → AllByRecursion IsLine xs × AllByRecursion IsLine ys
  all_left [] ys h = (tt, h)
  all_left (x ∷ xs) ys h = ((h.0, (all_left xs ys h.1).0), (all_left xs ys h.1).1)

  of_block : (blocks : List Block) (k : ℕ) (b : Block) → slice_get blocks k ≡ Some b → AllByRecursion IsLine (flat_map block_lines blocks) → AllByRecursion IsLine (block_lines b)
  of_block [] k b at h = cc
  of_block (x ∷ blocks) zero b at h =
      let e : x ≡ b = cc in
      subst (λ (y : Block). AllByRecursion IsLine (block_lines y)) e (all_left (block_lines x) (flat_map block_lines blocks) (subst (AllByRecursion IsLine) (flat_map-cons block_lines x blocks) h)).0
  of_block (x ∷ blocks) (suc k) b at h = of_block blocks k b at (all_left (block_lines x) (flat_map block_lines blocks) (subst (AllByRecursion IsLine) (flat_map-cons block_lines x blocks) h)).1

  statements_of : (m : ℕ) (statements : List Statement) → AllByRecursion IsLine (map (statement_line m) statements) → AreStatements code m statements
  statements_of m [] h = tt
  statements_of m (s ∷ statements) h = (h.0, statements_of m statements h.1)

  plain_of : HasNoLiteral code → (m : ℕ) (statements : List Statement) → AreStatements code m statements → NoLiteralReference statements
  plain_of none m [] h = tt
  plain_of none m (s ∷ statements) h = (none m s.node s.word h.0, plain_of none m statements h.1)

-- ---- a line that is no return is followed by one of its method

abbrev Follows : Line → List Line → Type 0
Follows x [] = Unit {0}
Follows x (y ∷ lines) = is_return x.word ≡ false → y.method ≡ x.method

abbrev AreGrouped : List Line → Type 0
AreGrouped [] = Unit {0}
AreGrouped (x ∷ lines) = Follows x lines × AreGrouped lines

body_grouped : (m node : ℕ) (word : Word) (trees : List Tree) (tail : List Line) → ends_in_return (is_return word) trees ≡ true → AreGrouped tail → AreGrouped (tree_line m (Do node word) ∷ (map (tree_line m) trees ++ tail))
body_grouped m node word [] [] h g = (tt, g)
body_grouped m node word [] (y ∷ tail) h g = ((λ e. let never : true ≡ false = sym h ∙ e in cc), g)
body_grouped m node word (Do node' word' ∷ trees) tail h g = ((λ e. refl), body_grouped m node' word' trees tail h g)

method_grouped : (m : ℕ) (trees : List Tree) (tail : List Line) → ends_in_return false trees ≡ true → AreGrouped tail → AreGrouped (map (tree_line m) trees ++ tail)
method_grouped m [] tail h g = g
method_grouped m (Do node word ∷ trees) tail h g = body_grouped m node word trees tail h g

lines_grouped : (m : ℕ) (methods : List Method) → AllByRecursion (λ (method : Method). ends_in_return false method.body ≡ true) methods → AreGrouped (lines_from m methods)
lines_grouped m [] h = tt
lines_grouped m (method ∷ methods) h = method_grouped m method.body (lines_from (m + 1) methods) h.0 (lines_grouped (m + 1) methods h.1)

tail_grouped : (xs tail : List Line) → AreGrouped (xs ++ tail) → AreGrouped tail
tail_grouped [] tail g = g
tail_grouped (x ∷ xs) tail g = tail_grouped xs tail g.1

-- ---- a block that doesn't return is followed by one of its method

last_followed : (m : ℕ) (s : Statement) (statements : List Statement) (y : Line) (tail : List Line) → AreGrouped (statement_line m s ∷ (map (statement_line m) statements ++ y ∷ tail)) → block_returns (s ∷ statements) ≡ false → y.method ≡ m
last_followed m s [] y tail g e = g.0 e
last_followed m s (t ∷ statements) y tail g e = last_followed m t statements y tail g.1 e

block_followed : (m m' : ℕ) (xs ys : List Statement) (tail : List Line) → IsFilled xs → IsFilled ys → AreGrouped (map (statement_line m) xs ++ (map (statement_line m') ys ++ tail)) → block_returns xs ≡ false → m' ≡ m
block_followed m m' [] ys tail f f' g e = absurd f
block_followed m m' (s ∷ xs) [] tail f f' g e = absurd f'
block_followed m m' (s ∷ xs) (t ∷ ys) tail f f' g e = last_followed m s xs (statement_line m' t) (map (statement_line m') ys ++ tail) g e

module _ (code : Code) (sides : List Side) where
  same_method : (blocks : List Block) (k : ℕ) (b c : Block) → AllByRecursion (IsBlock code sides) blocks → AreGrouped (flat_map block_lines blocks) → slice_get blocks k ≡ Some b → slice_get blocks (suc k) ≡ Some c → block_returns b.statements ≡ false → c.method ≡ b.method
  same_method [] k b c each g at next e = cc
  same_method (x ∷ []) zero b c each g at next e = cc
  same_method (x ∷ y ∷ blocks) zero b c each g at next e =
      let is_b : x ≡ b = cc in
      let is_c : y ≡ c = cc in
      (λ i. (sym is_c i).method) ∙ block_followed x.method y.method x.statements y.statements (flat_map block_lines blocks) each.0.filled each.1.0.filled
      (subst (λ (ls : List Line). AreGrouped (block_lines x ++ ls)) (flat_map-cons block_lines y blocks) (subst AreGrouped (flat_map-cons block_lines x (y ∷ blocks)) g))
      (ap (λ (z : Block). block_returns z.statements) is_b ∙ e) ∙ ap (λ (z : Block). z.method) is_b
  same_method (x ∷ blocks) (suc k) b c each g at next e = same_method blocks k b c each.1 (tail_grouped (block_lines x) (flat_map block_lines blocks) (subst AreGrouped (flat_map-cons block_lines x blocks) g)) at next e

after : (n : ℕ) → n + 1 ≡ suc (0 + n)
after n = omega arith

pub exit_at : (n : ℕ) (blocks : List Block) (k : ℕ) (b : Block) → AreInRow n blocks → slice_get blocks k ≡ Some b → b.exit ≡ exit_if (block_returns b.statements) (suc (k + n))
exit_at n [] k b row at = cc
exit_at n (x ∷ []) zero b row at = let e : x ≡ b = cc in subst (λ (y : Block). y.exit ≡ exit_if (block_returns y.statements) (suc (0 + n))) e (row ∙ ap (exit_if (block_returns x.statements)) (after n))
exit_at n (x ∷ []) (suc k) b row at = cc
exit_at n (x ∷ y ∷ blocks) zero b row at = let e : x ≡ b = cc in subst (λ (z : Block). z.exit ≡ exit_if (block_returns z.statements) (suc (0 + n))) e (row.0 ∙ ap (exit_if (block_returns x.statements)) (after n))
exit_at n (x ∷ y ∷ blocks) (suc k) b row at = exit_at (n + 1) (y ∷ blocks) k b row.2 at ∙ ap (λ (j : ℕ). exit_if (block_returns b.statements) (suc j)) (shift k n)
  where
    shift : (k n : ℕ) → k + (n + 1) ≡ suc k + n
    shift k n = omega arith

pub each_at : {A : Type 0} (P : A → Type 0) (blocks : List A) (k : ℕ) (b : A) → AllByRecursion P blocks → slice_get blocks k ≡ Some b → P b
each_at P [] k b h at = cc
each_at P (x ∷ blocks) zero b h at = let e : x ≡ b = cc in subst P e h.0
each_at P (x ∷ blocks) (suc k) b h at = each_at P blocks k b h.1 at

-- ---- all of it

pub cut_is_good : CutIsGood
cut_is_good plan are none return zero b at = cc
cut_is_good plan are none return (suc k) b at = record {
  placed = (each_at (IsBlock plan.code plan.placement.sides) plan.blocks.blocks k b are.each at).placed;
  are = statements;
  plain = plain_of plan.code none b.method b.statements statements;
  next = by_return (block_returns b.statements) refl;
}
  where
    statements : AreStatements plan.code b.method b.statements
    statements = statements_of plan.code b.method b.statements (of_block plan.code plan.blocks.blocks k b at (subst (AllByRecursion (IsLine plan.code)) (sym are.whole) (code_lines plan.code)))

    exit : b.exit ≡ exit_if (block_returns b.statements) (suc (k + 1))
    exit = exit_at 1 plan.blocks.blocks k b are.in_row at

    grouped : AreGrouped (flat_map block_lines plan.blocks.blocks)
    grouped = subst AreGrouped (sym are.whole) (lines_grouped 1 plan.code.methods return)

    by_return : (r : Bool) → block_returns b.statements ≡ r → (c : Block) → block_at plan.blocks.blocks (exit_to b.exit) ≡ Some c → c.method ≡ b.method
    by_return true e c is =
        let none_there : None ≡ Some c = sym (ap (λ (x : Exit). block_at plan.blocks.blocks (exit_to x)) (exit ∙ ap (λ (r : Bool). exit_if r (suc (k + 1))) e)) ∙ is in
        cc
    by_return false e c is =
        same_method plan.code plan.placement.sides plan.blocks.blocks k b c are.each grouped at
        (ap (slice_get plan.blocks.blocks) (next k) ∙ sym (ap (λ (x : Exit). block_at plan.blocks.blocks (exit_to x)) (exit ∙ ap (λ (r : Bool). exit_if r (suc (k + 1))) e)) ∙ is) e
      where
        next : (k : ℕ) → suc k ≡ k + 1
        next k = omega arith
