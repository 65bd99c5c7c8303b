-- Blocks lead to one another, and neighbours are apart.
use Rattle.std.proofs.Common.{◌≡◌, ℕ, suc, ◌+◌, List, [], ◌∷◌, ◌++◌, length, refl, sym, ap, ◌∙◌, subst, arith}
use Rattle.px_code.specs.declared.side.Side.{Side}
use Rattle.px_code.specs.declared.method.Tree.{Tree}
use Rattle.px_code.specs.declared.code.Code.{Code}
use Rattle.px_code.specs.declared.block.Statement.{Statement}
use Rattle.px_code.specs.declared.block.Block.{Block}
use Rattle.px_code.specs.Places.{side_of}
use Rattle.px_code.specs.Cut.{IsFilled, AreApart, AreInRow}
use Rattle.px_compile.specs.declared.facts.Facts.{Facts}
use Rattle.px_compile.specs.Cutting.{statement_of, block_of, cut_on, cut_body}
use Rattle.px_compile.proofs.Stretches.{by_side, at_end, by_body, no_body, filled_push, StartsAt, starts_at, placed}

-- the first block is of another method
abbrev pub IsApartFrom : ℕ → List Block → Type 0
IsApartFrom m [] = Unit {0}
IsApartFrom m (b ∷ blocks) = b.method ≡ m → ⊥

-- a block before others
in_front : (n m : ℕ) (side : Side) (statements : List Statement) (later : List Block) → ((c : Block) (blocks : List Block) → later ≡ c ∷ blocks → AreApart (block_of n m side statements) c) → AreInRow (n + 1) later → AreInRow n (block_of n m side statements ∷ later)
in_front n m side statements [] apart row = refl
in_front n m side statements (c ∷ blocks) apart row = (refl, apart c blocks refl, row)

module _ (sides : List Side) (m : ℕ) (later : List Block) (apart : IsApartFrom m later) where
  apart-last : (n : ℕ) (side : Side) (statements : List Statement) (c : Block) (blocks : List Block) → later ≡ c ∷ blocks → AreApart (block_of n m side statements) c
  apart-last n side statements c blocks is method same = subst (IsApartFrom m) is apart (sym method)

  -- where the side changes
  apart-here : (n : ℕ) (side here : Side) (statements : List Statement) (next : List Block) (c : Block) (blocks : List Block) → (here ≡ side → ⊥) → StartsAt sides m here next → next ++ later ≡ c ∷ blocks → AreApart (block_of n m side statements) c
  apart-here n side here statements [] c blocks other starts is = absurd starts
  apart-here n side here statements (b ∷ next) c blocks other starts is =
      let same : b ≡ c = cc in
      λ method at. other (sym starts.1 ∙ ap (λ (x : Block). x.side) same ∙ sym at)

  abbrev pub Follow : ℕ → List Block → Type 0
  Follow n blocks = AreInRow (n + length blocks) later → AreInRow n (blocks ++ later)

  pub cut_row : (n : ℕ) (side : Side) (begun rest : List Statement) → IsFilled begun → Follow n (cut_on sides n m side begun rest)
  cut_row n side begun [] filled = at_end sides m (Follow n) n side begun filled (λ row. in_front n m side begun later (apart-last n side begun) row)
  cut_row n side begun (s ∷ rest) filled =
      let here : Side = side_of sides s.node in
      let next : List Block = cut_on sides (n + 1) m here (s ∷ []) rest in
      by_side sides m (Follow n) n side begun s rest
      (λ same. cut_row n side (begun ++ s ∷ []) rest (filled_push begun s))
      (λ other row.
      let e : n + suc (length next) ≡ n + 1 + length next = omega arith in
      in_front n m side begun (next ++ later)
      (λ c blocks is. apart-here n side here begun next c blocks other (starts_at sides m (n + 1) here (s ∷ []) rest tt) is)
      (cut_row (n + 1) here (s ∷ []) rest tt (subst (λ k. AreInRow k later) e row)))

  pub body_row : (code : Code) (facts : Facts) (n : ℕ) (body : List Tree) → Follow n (cut_body code sides facts n m body)
  body_row code facts n [] = no_body code sides facts m (Follow n) n (λ row. (let e : n + 0 ≡ n = omega arith in subst (λ k. AreInRow k later) e row))
  body_row code facts n (tree ∷ trees) =
      let s : Statement = statement_of code sides facts m tree in
      by_body code sides facts m (Follow n) n tree trees (cut_row n (side_of sides s.node) (s ∷ []) (placed code sides facts m trees) tt)
