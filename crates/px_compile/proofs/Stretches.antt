-- The blocks of one method: their statements, and each by itself.
use Rattle.std.proofs.Common.{◌≡◌, ℕ, ◌+◌, Bool, true, false, List, [], ◌∷◌, ◌++◌, map, refl, sym, ap, ◌∙◌, subst, append_assoc, append-nil}
use Rattle.std.specs.List.{AllByRecursion, flat_map}
use Rattle.px_code.specs.declared.side.Side.{Side}
use Rattle.px_code.specs.declared.method.Tree.{Tree}
use Rattle.px_code.specs.declared.method.Tree.TheVariants.{Do}
use Rattle.px_code.specs.declared.code.Code.{Code}
use Rattle.px_code.specs.declared.block.Statement.{Statement}
use Rattle.px_code.specs.declared.block.Block.{Block}
use Rattle.px_code.specs.Places.{side_of, same_side}
use Rattle.px_code.specs.Sends.{IsRightSend}
use Rattle.px_code.specs.Cut.{Line, tree_line, statement_line, block_lines, IsFilled, IsPlaced, IsBlock}
use Rattle.px_compile.specs.declared.facts.Facts.{Facts}
use Rattle.px_compile.specs.Cutting.{statement_of, block_of, cut_on, cut_body}
use Rattle.px_compile.proofs.Lists.{one_side, side_itself}
use Rattle.px_compile.proofs.Cuts.{cut_same, cut_other}

-- ---- lists

pub all_map : {X : Type 0} (P Q : X → Type 0) (xs : List X) → ((x : X) → P x → Q x) → AllByRecursion P xs → AllByRecursion Q xs
all_map P Q [] f all = tt
all_map P Q (x ∷ xs) f all = (f x all.0, all_map P Q xs f all.1)

pub all_append : {X : Type 0} (P : X → Type 0) (xs ys : List X) → AllByRecursion P xs → AllByRecursion P ys → AllByRecursion P (xs ++ ys)
all_append P [] ys all more = more
all_append P (x ∷ xs) ys all more = (all.0, all_append P xs ys all.1 more)

pub map_append : {X Y : Type 0} (f : X → Y) (xs ys : List X) → map f (xs ++ ys) ≡ map f xs ++ map f ys
map_append f [] ys = refl
map_append {X} {Y} f (x ∷ xs) ys = ap (λ (zs : List Y). f x ∷ zs) (map_append f xs ys)

pub filled_push : (xs : List Statement) (s : Statement) → IsFilled (xs ++ s ∷ [])
filled_push [] s = tt
filled_push (x ∷ xs) s = tt

-- ---- statement by statement

module _ (sides : List Side) (m : ℕ) where
  -- what holds of the blocks of both cases of the next statement
  pub by_side : (P : List Block → Type 0) (n : ℕ) (side : Side) (begun : List Statement) (s : Statement) (rest : List Statement) → (side_of sides s.node ≡ side → P (cut_on sides n m side (begun ++ s ∷ []) rest)) → ((side_of sides s.node ≡ side → ⊥) → P (block_of n m side begun ∷ cut_on sides (n + 1) m (side_of sides s.node) (s ∷ []) rest)) → P (cut_on sides n m side begun (s ∷ rest))
  by_side P n side begun s rest same other =
      let step : (b : Bool) → same_side (side_of sides s.node) side ≡ b → P (cut_on sides n m side begun (s ∷ rest)) =
      λ b. elim b as (λ (v : Bool). same_side (side_of sides s.node) side ≡ v → P (cut_on sides n m side begun (s ∷ rest))) [
        | true ↦ λ e. subst P (sym (cut_same sides n m side begun s rest e)) (same (one_side (side_of sides s.node) side e))
        | false ↦ λ e. subst P (sym (cut_other sides n m side begun s rest e)) (other (λ h. (let t = side_itself (side_of sides s.node) side h in cc)))
      ] in
      step (same_side (side_of sides s.node) side) refl

  -- at the end, where a statement is left
  pub at_end : (P : List Block → Type 0) (n : ℕ) (side : Side) (begun : List Statement) → IsFilled begun → P (block_of n m side begun ∷ []) → P (cut_on sides n m side begun [])
  unfolding cut_on
  at_end P n side [] filled p = absurd filled
  at_end P n side (s ∷ begun) filled p = p

  -- ---- the statements, in order

  pub cut_lines : (n : ℕ) (side : Side) (begun rest : List Statement) → IsFilled begun → flat_map block_lines (cut_on sides n m side begun rest) ≡ map (statement_line m) (begun ++ rest)
  cut_lines n side begun [] filled = at_end (λ (bs : List Block). flat_map block_lines bs ≡ map (statement_line m) (begun ++ [])) n side begun filled (append-nil (map (statement_line m) begun) ∙ ap (map (statement_line m)) (sym (append-nil begun)))
  cut_lines n side begun (s ∷ rest) filled =
      by_side (λ (bs : List Block). flat_map block_lines bs ≡ map (statement_line m) (begun ++ s ∷ rest)) n side begun s rest
      (λ same. cut_lines n side (begun ++ s ∷ []) rest (filled_push begun s) ∙ ap (map (statement_line m)) (append_assoc begun (s ∷ []) rest))
      (λ other. ap (λ (ls : List Line). map (statement_line m) begun ++ ls) (cut_lines (n + 1) (side_of sides s.node) (s ∷ []) rest tt) ∙ sym (map_append (statement_line m) begun (s ∷ rest)))

  -- ---- each block

  module _ (code : Code) where
    abbrev pub HasRightSend : Statement → Type 0
    HasRightSend s = IsRightSend code sides m s.node s.word s.send

    -- a statement of a block at the side
    pub record IsAt (side : Side) (s : Statement) : Type 0 where
      pub side_is : side_of sides s.node ≡ side
      pub right : HasRightSend s

    is_block : (n : ℕ) (side : Side) (statements : List Statement) → IsFilled statements → AllByRecursion (IsAt side) statements → IsBlock code sides (block_of n m side statements)
    is_block n side statements filled all = record {
      filled = filled;
      placed = all_map (IsAt side) (IsPlaced code sides (block_of n m side statements)) statements (λ (s : Statement) (a : IsAt side s). record { side = a.side_is; send = a.right }) all;
    }

    pub cut_blocks : (n : ℕ) (side : Side) (begun rest : List Statement) → IsFilled begun → AllByRecursion (IsAt side) begun → AllByRecursion HasRightSend rest → AllByRecursion (IsBlock code sides) (cut_on sides n m side begun rest)
    cut_blocks n side begun [] filled placed right = at_end (AllByRecursion (IsBlock code sides)) n side begun filled (is_block n side begun filled placed, tt)
    cut_blocks n side begun (s ∷ rest) filled placed right =
        by_side (AllByRecursion (IsBlock code sides)) n side begun s rest
        (λ same. cut_blocks n side (begun ++ s ∷ []) rest (filled_push begun s) (all_append (IsAt side) begun (s ∷ []) placed (record { side_is = same; right = right.0 }, tt)) right.1)
        (λ other. (is_block n side begun filled placed, cut_blocks (n + 1) (side_of sides s.node) (s ∷ []) rest tt (record { side_is = refl; right = right.0 }, tt) right.1))

  -- ---- the method, and the first side

  pub of_method : (n : ℕ) (side : Side) (begun rest : List Statement) → IsFilled begun → AllByRecursion (λ (b : Block). b.method ≡ m) (cut_on sides n m side begun rest)
  of_method n side begun [] filled = at_end (AllByRecursion (λ (b : Block). b.method ≡ m)) n side begun filled (refl, tt)
  of_method n side begun (s ∷ rest) filled =
      by_side (AllByRecursion (λ (b : Block). b.method ≡ m)) n side begun s rest
      (λ same. of_method n side (begun ++ s ∷ []) rest (filled_push begun s))
      (λ other. (refl, of_method (n + 1) (side_of sides s.node) (s ∷ []) rest tt))

  abbrev pub StartsAt : Side → List Block → Type 0
  StartsAt side [] = ⊥
  StartsAt side (b ∷ blocks) = (b.method ≡ m) × (b.side ≡ side)

  pub starts_at : (n : ℕ) (side : Side) (begun rest : List Statement) → IsFilled begun → StartsAt side (cut_on sides n m side begun rest)
  starts_at n side begun [] filled = at_end (StartsAt side) n side begun filled (refl, refl)
  starts_at n side begun (s ∷ rest) filled =
      by_side (StartsAt side) n side begun s rest
      (λ same. starts_at n side (begun ++ s ∷ []) rest (filled_push begun s))
      (λ other. (refl, refl))

-- ---- bodies

module _ (code : Code) (sides : List Side) (facts : Facts) (m : ℕ) where
  abbrev pub placed : List Tree → List Statement
  placed body = map (statement_of code sides facts m) body

  -- a body begins with its first statement
  pub by_body : (P : List Block → Type 0) (n : ℕ) (tree : Tree) (trees : List Tree) → P (cut_on sides n m (side_of sides (statement_of code sides facts m tree).node) (statement_of code sides facts m tree ∷ []) (placed trees)) → P (cut_body code sides facts n m (tree ∷ trees))
  unfolding cut_body
  by_body P n (Do node word) trees p =
      let s : Statement = statement_of code sides facts m (Do node word) in
      by_side sides m P n (side_of sides node) [] s (placed trees) (λ same. p) (λ other. absurd (other refl))

  pub no_body : (P : List Block → Type 0) (n : ℕ) → P [] → P (cut_body code sides facts n m [])
  unfolding cut_body cut_on
  no_body P n p = p

  lines_placed : (body : List Tree) → map (statement_line m) (placed body) ≡ map (tree_line m) body
  lines_placed [] = refl
  lines_placed (Do node word ∷ trees) = ap (λ (ls : List Line). tree_line m (Do node word) ∷ ls) (lines_placed trees)

  pub body_lines : (n : ℕ) (body : List Tree) → flat_map block_lines (cut_body code sides facts n m body) ≡ map (tree_line m) body
  body_lines n [] = no_body (λ (bs : List Block). flat_map block_lines bs ≡ []) n refl
  body_lines n (tree ∷ trees) =
      let s : Statement = statement_of code sides facts m tree in
      by_body (λ (bs : List Block). flat_map block_lines bs ≡ map (tree_line m) (tree ∷ trees)) n tree trees
      (cut_lines sides m n (side_of sides s.node) (s ∷ []) (placed trees) tt ∙ lines_placed (tree ∷ trees))

  pub body_blocks : (n : ℕ) (body : List Tree) → AllByRecursion (HasRightSend sides m code) (placed body) → AllByRecursion (IsBlock code sides) (cut_body code sides facts n m body)
  body_blocks n [] right = no_body (AllByRecursion (IsBlock code sides)) n tt
  body_blocks n (tree ∷ trees) right =
      let s : Statement = statement_of code sides facts m tree in
      by_body (AllByRecursion (IsBlock code sides)) n tree trees
      (cut_blocks sides m code n (side_of sides s.node) (s ∷ []) (placed trees) tt (record { side_is = refl; right = right.0 }, tt) right.1)

  pub body_of_method : (n : ℕ) (body : List Tree) → AllByRecursion (λ (b : Block). b.method ≡ m) (cut_body code sides facts n m body)
  body_of_method n [] = no_body (AllByRecursion (λ (b : Block). b.method ≡ m)) n tt
  body_of_method n (tree ∷ trees) =
      let s : Statement = statement_of code sides facts m tree in
      by_body (AllByRecursion (λ (b : Block). b.method ≡ m)) n tree trees (of_method sides m n (side_of sides s.node) (s ∷ []) (placed trees) tt)

  abbrev pub StartsIn : List Block → Type 0
  StartsIn [] = ⊥
  StartsIn (b ∷ blocks) = b.method ≡ m

  starts_in : (side : Side) (blocks : List Block) → StartsAt sides m side blocks → StartsIn blocks
  starts_in side [] h = h
  starts_in side (b ∷ blocks) h = h.0

  pub body_starts : (n : ℕ) (tree : Tree) (trees : List Tree) → StartsIn (cut_body code sides facts n m (tree ∷ trees))
  body_starts n tree trees =
      let s : Statement = statement_of code sides facts m tree in
      let side : Side = side_of sides s.node in
      by_body StartsIn n tree trees (starts_in side (cut_on sides n m side (s ∷ []) (placed trees)) (starts_at sides m n side (s ∷ []) (placed trees) tt))
