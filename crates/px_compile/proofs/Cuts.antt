-- The cut of a body, statement by statement.
use Rattle.std.proofs.Common.{◌≡◌, ℕ, zero, suc, ◌+◌, ◌-◌, true, false, List, [], ◌∷◌, ◌++◌, length, map, drop, Some, slice_get, refl, sym, ap, ◌∙◌, arith, append_assoc, append-nil, length-append, ◌≤◌}
use Rattle.std.proofs.lemmas.List.{drop_all}
use Rattle.std.proofs.lemmas.Option.{same_Some}
use Rattle.px_code.specs.declared.side.Side.{Side}
use Rattle.px_code.specs.declared.method.Tree.{Tree}
use Rattle.px_code.specs.declared.code.Code.{Code}
use Rattle.px_code.specs.declared.block.Statement.{Statement}
use Rattle.px_code.specs.declared.block.Block.{Block}
use Rattle.px_code.specs.Places.{side_of, same_side}
use Rattle.px_code.specs.Machine.{is_return}
use Rattle.px_code.specs.Cut.{ends_in_return}
use Rattle.px_compile.specs.declared.facts.Facts.{Facts}
use Rattle.px_compile.specs.declared.cut.Stretch.{Stretch}
use Rattle.px_compile.specs.Cutting.{statement_of, block_of, last_block, cut_on, cut_after, first_side, cut_body}

last-at : (statements : List Statement) (k : ℕ) (s : Statement) → length statements ≡ suc k → slice_get statements k ≡ Some s → ends_in_return statements ≡ is_return s.word
last-at [] k s long is = absurd (omega arith)
last-at (t ∷ []) zero s long is = ap (λ (x : Statement). is_return x.word) (same_Some t s is)
last-at (t ∷ []) (suc k) s long is = absurd (omega arith)
last-at (t ∷ u ∷ statements) zero s long is = absurd (omega arith)
last-at (t ∷ u ∷ statements) (suc k) s long is = last-at (u ∷ statements) k s (omega arith) is

pub ends_at_last : (statements : List Statement) (s : Statement) → Some s ≡ slice_get statements (length statements - 1) → ends_in_return statements ≡ is_return s.word
ends_at_last [] s is = absurd cc
ends_at_last (t ∷ statements) s is = last-at (t ∷ statements) (length statements) s refl (ap (λ n. slice_get (t ∷ statements) n) (let e : length statements ≡ length (t ∷ statements) - 1 = omega arith in e) ∙ sym is)

pub cut_same : (sides : List Side) (n m : ℕ) (side : Side) (begun : List Statement) (s : Statement) (statements : List Statement) → same_side (side_of sides s.node) side ≡ true → cut_on sides n m side begun (s ∷ statements) ≡ cut_on sides n m side (begun ++ s ∷ []) statements
unfolding cut_on
cut_same sides n m side begun s statements h = rw h

pub cut_other : (sides : List Side) (n m : ℕ) (side : Side) (begun : List Statement) (s : Statement) (statements : List Statement) → same_side (side_of sides s.node) side ≡ false → cut_on sides n m side begun (s ∷ statements) ≡ block_of n m side begun ∷ cut_on sides (n + 1) m (side_of sides s.node) (s ∷ []) statements
unfolding cut_on
cut_other sides n m side begun s statements h = rw h

-- ---- a stretch

-- a statement at the side of the stretch
pub goes_on : (sides : List Side) (m : ℕ) (blocks : List Block) (stretch : Stretch) (side : Side) (s : Statement) (statements rest : List Statement) → side ≡ side_of sides s.node → same_side side stretch.side ≡ true → statements ≡ stretch.statements ++ s ∷ [] → cut_after sides m blocks (record { side = stretch.side; statements = statements }) rest ≡ cut_after sides m blocks stretch (s ∷ rest)
goes_on sides m blocks stretch side s statements rest at same is =
    let n : ℕ = length blocks + 1 in
    let e = ap (λ (x : Side). same_side x stretch.side) (sym at) ∙ same in
    ap (λ (xs : List Block). blocks ++ xs) (ap (λ (xs : List Statement). cut_on sides n m stretch.side xs rest) is ∙ sym (cut_same sides n m stretch.side stretch.statements s rest e))

length-push : (blocks : List Block) (b : Block) → length (blocks ++ b ∷ []) ≡ length blocks + 1
length-push blocks b = length-append blocks (b ∷ [])

-- a statement at the other side
pub begins : (sides : List Side) (m : ℕ) (blocks after : List Block) (stretch before next : Stretch) (side : Side) (s : Statement) (rest : List Statement) → side ≡ side_of sides s.node → same_side side stretch.side ≡ false → next ≡ record { side = side; statements = s ∷ [] } → before ≡ stretch → after ≡ blocks ++ block_of (length blocks + 1) m before.side before.statements ∷ [] → cut_after sides m after next rest ≡ cut_after sides m blocks stretch (s ∷ rest)
begins sides m blocks after stretch before next side s rest at other is was is_after =
    let n : ℕ = length blocks + 1 in
    let b : Block = block_of n m stretch.side stretch.statements in
    let e = ap (λ (x : Side). same_side x stretch.side) (sym at) ∙ other in
    let begun : next ≡ record { side = side_of sides s.node; statements = s ∷ [] } = is ∙ ap (λ (x : Side). record { side = x; statements = s ∷ [] }) at in
    let t : List Block → Stretch → List Block = λ bs st. cut_after sides m bs st rest in
    ap (λ (bs : List Block). t bs next) (is_after ∙ ap (λ (x : Stretch). blocks ++ block_of n m x.side x.statements ∷ []) was) ∙ ap (t (blocks ++ b ∷ [])) begun ∙
    ap (λ k. (blocks ++ b ∷ []) ++ cut_on sides (k + 1) m (side_of sides s.node) (s ∷ []) rest) (length-push blocks b) ∙
    append_assoc blocks (b ∷ []) (cut_on sides (n + 1) m (side_of sides s.node) (s ∷ []) rest) ∙
    ap (λ (xs : List Block). blocks ++ xs) (sym (cut_other sides n m stretch.side stretch.statements s rest e))

-- ---- a body

module _ (code : Code) (sides : List Side) (facts : Facts) (m : ℕ) (body : List Tree) where
  abbrev pub tail_from : ℕ → List Statement
  tail_from i = map (statement_of code sides facts m) (drop i body)

  pub cut_start : (blocks : List Block) (side : Side) (statements : List Statement) → side ≡ first_side sides body → statements ≡ [] → cut_after sides m blocks (record { side = side; statements = statements }) (tail_from 0) ≡ blocks ++ cut_body code sides facts (length blocks + 1) m body
  unfolding cut_body
  cut_start blocks side statements at is =
      let f : Side → List Statement → List Block = λ d xs. blocks ++ cut_on sides (length blocks + 1) m d xs (tail_from 0) in
      ap (λ (d : Side). f d statements) at ∙ ap (f (first_side sides body)) is

  pub tail_past : (blocks : List Block) (stretch : Stretch) (i : ℕ) → length body ≤ i → cut_after sides m blocks stretch (tail_from i) ≡ cut_after sides m blocks stretch []
  tail_past blocks stretch i past = ap (λ (xs : List Statement). cut_after sides m blocks stretch xs) (ap (map (statement_of code sides facts m)) (drop_all i body past))

-- ---- the end of a body

pub cut_empty : (sides : List Side) (m : ℕ) (blocks : List Block) (stretch : Stretch) → stretch.statements ≡ [] → cut_after sides m blocks stretch [] ≡ blocks
unfolding cut_on
cut_empty sides m blocks stretch is = ap (λ (xs : List Statement). blocks ++ last_block (length blocks + 1) m stretch.side xs) is ∙ append-nil blocks

last-filled : (n m : ℕ) (side : Side) (statements : List Statement) → (statements ≡ [] → ⊥) → last_block n m side statements ≡ block_of n m side statements ∷ []
last-filled n m side [] filled = absurd (filled refl)
last-filled n m side (s ∷ statements) filled = refl

pub cut_end : (sides : List Side) (m : ℕ) (blocks : List Block) (stretch : Stretch) → (stretch.statements ≡ [] → ⊥) → cut_after sides m blocks stretch [] ≡ blocks ++ block_of (length blocks + 1) m stretch.side stretch.statements ∷ []
unfolding cut_on
cut_end sides m blocks stretch filled = ap (λ (xs : List Block). blocks ++ xs) (last-filled (length blocks + 1) m stretch.side stretch.statements filled)
