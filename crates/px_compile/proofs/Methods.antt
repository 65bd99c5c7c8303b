-- The blocks of all methods are cut as they should be.
use Rattle.std.proofs.Common.{◌≡◌, ℕ, suc, ◌+◌, ◌<◌, ◌≤◌, ◌==◌, true, false, if◌then◌else◌, List, [], ◌∷◌, ◌++◌, length, map, drop, refl, sym, ap, ◌∙◌, subst, arith, append_assoc, append-nil, length-append}
use Rattle.std.specs.List.{AllByRecursion, flat_map}
use Rattle.std.proofs.lemmas.Bool.Decides.{nat_tests}
use Rattle.std.proofs.lemmas.List.{drop_all}
use Rattle.std.proofs.lemmas.List.Concat.{flat_map-append}
use Rattle.px_code.specs.declared.side.Side.{Side}
use Rattle.px_code.specs.declared.method.Method.{Method}
use Rattle.px_code.specs.declared.method.Tree.{Tree}
use Rattle.px_code.specs.declared.method.Tree.TheVariants.{Do}
use Rattle.px_code.specs.declared.code.Code.{Code}
use Rattle.px_code.specs.declared.block.Block.{Block}
use Rattle.px_code.specs.WellFormed.{IsWellFormed, IsMethodOf, IsTreeOf, ends_in_return}
use Rattle.px_code.specs.Cut.{Line, tree_line, lines_from, block_lines, IsBlock, AreInRow, first_of, firsts_from, AreBlocks}
use Rattle.px_compile.specs.declared.facts.Facts.{Facts}
use Rattle.px_compile.specs.Facts.{AreFacts}
use Rattle.px_compile.specs.Cutting.{statement_of, cut_body, after_body, cut_methods, firsts_of}
use Rattle.px_compile.proofs.Rights.{right_send}
use Rattle.px_compile.proofs.Stretches.{all_map, all_append, placed, body_lines, body_blocks, body_of_method, StartsIn, body_starts, HasRightSend}
use Rattle.px_compile.proofs.Rows.{IsApartFrom, body_row}

module _ (code : Code) (sides : List Side) (facts : Facts) (known : AreFacts code sides facts) where
  -- ---- the statements of the code, in order

  whole : (n m : ℕ) (methods : List Method) → flat_map block_lines (cut_methods code sides facts n m methods) ≡ lines_from m methods
  whole n m [] = refl
  whole n m (method ∷ methods) =
      let here : List Block = cut_body code sides facts n m method.body in
      let later : List Block = cut_methods code sides facts (after_body code sides facts n m method) (m + 1) methods in
      flat_map-append block_lines here later ∙
      ap (λ (ls : List Line). ls ++ flat_map block_lines later) (body_lines code sides facts m n method.body) ∙
      ap (λ (ls : List Line). map (tree_line m) method.body ++ ls) (whole (after_body code sides facts n m method) (m + 1) methods)

  -- ---- each block

  right_statement : (m slots : ℕ) (tree : Tree) → IsTreeOf code slots tree → HasRightSend sides m code (statement_of code sides facts m tree)
  right_statement m slots (Do node word) is = right_send code sides facts known m node slots word is

  right_statements : (m slots : ℕ) (trees : List Tree) → AllByRecursion (IsTreeOf code slots) trees → AllByRecursion (HasRightSend sides m code) (placed code sides facts m trees)
  right_statements m slots [] all = tt
  right_statements m slots (tree ∷ trees) all = (right_statement m slots tree all.0, right_statements m slots trees all.1)

  each : (n m : ℕ) (methods : List Method) → AllByRecursion (IsMethodOf code) methods → AllByRecursion (IsBlock code sides) (cut_methods code sides facts n m methods)
  each n m [] formed = tt
  each n m (method ∷ methods) formed =
      all_append (IsBlock code sides) (cut_body code sides facts n m method.body) (cut_methods code sides facts (after_body code sides facts n m method) (m + 1) methods)
      (body_blocks code sides facts m n method.body (right_statements m (length method.slots) method.body formed.0.words))
      (each (after_body code sides facts n m method) (m + 1) methods formed.1)

  -- ---- neighbours

  abbrev pub IsFrom : ℕ → Block → Type 0
  IsFrom m b = m ≤ b.method

  from_method : (n m : ℕ) (methods : List Method) → AllByRecursion (IsFrom m) (cut_methods code sides facts n m methods)
  from_method n m [] = tt
  from_method n m (method ∷ methods) =
      let here : List Block = cut_body code sides facts n m method.body in
      let next : ℕ = after_body code sides facts n m method in
      let later : List Block = cut_methods code sides facts next (m + 1) methods in
      all_append (IsFrom m) here later
      (all_map (λ (b : Block). b.method ≡ m) (IsFrom m) here (λ (b : Block) (e : b.method ≡ m). omega arith) (body_of_method code sides facts m n method.body))
      (all_map (IsFrom (m + 1)) (IsFrom m) later (λ (b : Block) (h : m + 1 ≤ b.method). omega arith) (from_method next (m + 1) methods))

  apart : (m : ℕ) (blocks : List Block) → AllByRecursion (IsFrom (m + 1)) blocks → IsApartFrom m blocks
  apart m [] all = tt
  apart m (b ∷ blocks) all = λ e. (let h : m + 1 ≤ b.method = all.0 in omega arith)

  in_row : (n m : ℕ) (methods : List Method) → AreInRow n (cut_methods code sides facts n m methods)
  in_row n m [] = tt
  in_row n m (method ∷ methods) =
      let next : ℕ = after_body code sides facts n m method in
      let later : List Block = cut_methods code sides facts next (m + 1) methods in
      body_row sides m later (apart m later (from_method next (m + 1) methods)) code facts n method.body (in_row next (m + 1) methods)

  -- ---- the first block of each method

  abbrev pub IsBefore : ℕ → Block → Type 0
  IsBefore m b = b.method < m

  first-skip : (m k : ℕ) (before blocks : List Block) → AllByRecursion (IsBefore m) before → first_of m k (before ++ blocks) ≡ first_of m (k + length before) blocks
  first-skip m k [] blocks all = let e : k ≡ k + 0 = omega arith in ap (λ j. first_of m j blocks) e
  first-skip m k (b ∷ before) blocks all =
      let h : b.method < m = all.0 in
      let no : (b.method == m) ≡ false = grind (arith, nat_tests) in
      let e : k + 1 + length before ≡ k + suc (length before) = omega arith in
      ap (λ t. if t then k else first_of m (k + 1) (before ++ blocks)) no ∙ first-skip m (k + 1) before blocks all.1 ∙ ap (λ j. first_of m j blocks) e

  first-here : (m k : ℕ) (blocks later : List Block) → StartsIn code sides facts m blocks → first_of m k (blocks ++ later) ≡ k
  first-here m k [] later starts = absurd starts
  first-here m k (b ∷ blocks) later starts =
      let h : b.method ≡ m = starts in
      let yes : (b.method == m) ≡ true = grind (arith, nat_tests) in
      ap (λ t. if t then k else first_of m (k + 1) (blocks ++ later)) yes

  filled-body : (n m : ℕ) (body : List Tree) → ends_in_return false body ≡ true → StartsIn code sides facts m (cut_body code sides facts n m body)
  filled-body n m [] ends = absurd cc
  filled-body n m (tree ∷ trees) ends = body_starts code sides facts m n tree trees

  all-before : (n m : ℕ) (body : List Tree) (before : List Block) → AllByRecursion (IsBefore m) before → AllByRecursion (IsBefore (m + 1)) (before ++ cut_body code sides facts n m body)
  all-before n m body before all =
      let here : List Block = cut_body code sides facts n m body in
      all_append (IsBefore (m + 1)) before here
      (all_map (IsBefore m) (IsBefore (m + 1)) before (λ (b : Block) (h : b.method < m). omega arith) all)
      (all_map (λ (b : Block). b.method ≡ m) (IsBefore (m + 1)) here (λ (b : Block) (h : b.method ≡ m). omega arith) (body_of_method code sides facts m n body))

  firsts : (n m : ℕ) (methods : List Method) (before : List Block) → AllByRecursion (IsMethodOf code) methods → AllByRecursion (IsBefore m) before → n ≡ length before + 1 → firsts_of code sides facts n m methods ≡ firsts_from m methods (before ++ cut_methods code sides facts n m methods)
  firsts n m [] before formed all is = refl
  firsts n m (method ∷ methods) before formed all is =
      let here : List Block = cut_body code sides facts n m method.body in
      let next : ℕ = after_body code sides facts n m method in
      let later : List Block = cut_methods code sides facts next (m + 1) methods in
      let long : length (before ++ here) ≡ length before + length here = length-append before here in
      let at : 1 + length before ≡ n = omega arith in
      let first : first_of m 1 (before ++ (here ++ later)) ≡ n =
      first-skip m 1 before (here ++ later) all ∙ first-here m (1 + length before) here later (filled-body n m method.body formed.0.ends) ∙ at in
      let rest : firsts_of code sides facts next (m + 1) methods ≡ firsts_from (m + 1) methods (before ++ (here ++ later)) =
      firsts next (m + 1) methods (before ++ here) formed.1 (all-before n m method.body before all) (omega arith) ∙ ap (firsts_from (m + 1) methods) (append_assoc before here later) in
      ap (λ (ns : List ℕ). n ∷ ns) rest ∙ ap (λ k. k ∷ firsts_from (m + 1) methods (before ++ (here ++ later))) (sym first)

  pub are_blocks : IsWellFormed code → AreBlocks code sides (record { blocks = cut_methods code sides facts 1 1 code.methods; firsts = firsts_of code sides facts 1 1 code.methods })
  are_blocks formed = record {
    whole = whole 1 1 code.methods;
    each = each 1 1 code.methods formed.methods;
    in_row = in_row 1 1 code.methods;
    firsts = firsts 1 1 code.methods [] formed.methods tt (omega arith);
  }

  -- ---- the loop over the methods, at its end

  pub are_blocks_by : (methods : List Method) (i n m : ℕ) (blocks : List Block) (firsts_made : List ℕ) → IsWellFormed code → methods ≡ code.methods → length methods ≤ i → blocks ++ cut_methods code sides facts n m (drop i methods) ≡ cut_methods code sides facts 1 1 methods → firsts_made ++ firsts_of code sides facts n m (drop i methods) ≡ firsts_of code sides facts 1 1 methods → AreBlocks code sides (record { blocks = blocks; firsts = firsts_made })
  are_blocks_by methods i n m blocks firsts_made formed same past is_blocks is_firsts =
      let none : drop i methods ≡ [] = drop_all i methods past in
      let e : blocks ≡ cut_methods code sides facts 1 1 code.methods =
      sym (append-nil blocks) ∙ ap (λ (ms : List Method). blocks ++ cut_methods code sides facts n m ms) (sym none) ∙ is_blocks ∙ ap (cut_methods code sides facts 1 1) same in
      let f : firsts_made ≡ firsts_of code sides facts 1 1 code.methods =
      sym (append-nil firsts_made) ∙ ap (λ (ms : List Method). firsts_made ++ firsts_of code sides facts n m ms) (sym none) ∙ is_firsts ∙ ap (firsts_of code sides facts 1 1) same in
      subst (λ (bs : List Block). AreBlocks code sides (record { blocks = bs; firsts = firsts_made })) (sym e)
      (subst (λ (ns : List ℕ). AreBlocks code sides (record { blocks = cut_methods code sides facts 1 1 code.methods; firsts = ns })) (sym f) (are_blocks formed))
