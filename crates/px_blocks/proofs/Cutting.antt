-- The cutter's blocks follow the rules, and no others do.
use Rattle.std.proofs.Common.{◌≡◌, ℕ, suc, Bool, true, false, List, [], ◌∷◌, map, refl, sym, ap, subst, ◌∙◌, true≢false}
use Rattle.px_blocks.specs.declared.side.Side.{Side}
use Rattle.px_blocks.specs.declared.side.Side.TheVariants.{App, Db}
use Rattle.px_normal.specs.declared.word.Operand.{Operand}
use Rattle.px_normal.specs.declared.word.Word.{Word}
use Rattle.px_normal.specs.declared.word.Word.TheVariants as w
use Rattle.px_normal.specs.declared.method.Method.{Method}
use Rattle.px_normal.specs.declared.method.Tree.{Tree, Tree-F, fold-roll-Tree, roll-Tree, map-Tree, ind-Tree}
use Rattle.px_normal.specs.declared.method.Tree.TheVariants.{Do, If, Loop, rolls-Do, rolls-If, rolls-Loop}
use Rattle.px_normal.specs.declared.method.Tree.TheOpen.{Tree-F as t}
use Rattle.px_blocks.specs.declared.block.Deed.TheVariants as deed
use Rattle.px_blocks.specs.declared.block.Statement.{Statement}
use Rattle.px_blocks.specs.declared.block.Block.{Block}
use Rattle.px_blocks.specs.declared.block.Exit.TheVariants.{Branch}
use Rattle.px_normal.specs.Words.{is_return}
use Rattle.px_blocks.specs.Rules.{is_call, is_operation}
use Rattle.px_blocks.specs.Rules.{Placed, Cutting, Place, Amid, Anew, From, amid, anew, statement_of, side_of, is_return_deed, Joins, stays as joins_stays, begins, In, nothing, stays as in_stays, asks as in_asks, calls as in_calls, branches as in_branches, turns as in_turns, AreMethods, none, one, cutting}
use Rattle.px_blocks.specs.Cutter.{same_side, Shape, Open, Closed, Left, left_open, left_closed, made_in, made_if, made_after, joined, left_if, left_before, Cut, after_all, back_all, closing, Plain, Operation, kind_of, word_cut, if_cut, loop_cut, cut_step, cut_of, cuts_of, body_shape, first_block, firsts_from, blocks_from, cut}
use Rattle.px_blocks.specs.Law.{CodeIsCut}

-- ---- the equations of the cutter

module _ (P : Placed) where
  at_tree : (x : Tree-F Tree) → cut_of P (roll-Tree x) ≡ cut_step P (map-Tree Tree Cut (cut_of P) x)
  unfolding cut_of
  at_tree x = fold-roll-Tree Cut (cut_step P) x

  pub cut_do : (node : ℕ) (word : Word) → cut_of P (Do node word) ≡ word_cut (side_of P.sides node) (statement_of P node (deed.Does word)) (is_return word) (kind_of word)
  cut_do node word = ap (cut_of P) (sym (rolls-Do node word)) ∙ at_tree (t.Do node word)

  pub cut_if : (node : ℕ) (a : Operand) (ys ns : List Tree) → cut_of P (If node a ys ns) ≡ if_cut (side_of P.sides node) (statement_of P node (deed.Chooses a)) (cuts_of P ys) (cuts_of P ns)
  cut_if node a ys ns = ap (cut_of P) (sym (rolls-If node a ys ns)) ∙ at_tree (t.If node a ys ns)

  pub cut_loop : (first : List Tree) (node : ℕ) (a : Operand) (body : List Tree) → cut_of P (Loop first node a body) ≡ loop_cut (side_of P.sides node) (statement_of P node (deed.Tests a)) (cuts_of P first) (cuts_of P body)
  cut_loop first node a body = ap (cut_of P) (sym (rolls-Loop first node a body)) ∙ at_tree (t.Loop first node a body)

-- ---- places

abbrev pub place_of : Shape → Left → Place
place_of (Open made side over) l = Amid made side over l.rest l.exit l.later
place_of (Closed made) l = Anew made l.to l.later

pub same_true : (a b : Side) → same_side a b ≡ true → a ≡ b
same_true App App e = refl
same_true App Db e = absurd (true≢false (sym e))
same_true Db App e = absurd (true≢false (sym e))
same_true Db Db e = refl

pub same_is : (a b : Side) → a ≡ b → same_side a b ≡ true
same_is App App e = refl
same_is App Db e = cc
same_is Db App e = cc
same_is Db Db e = refl

pub kind_plain : (word : Word) → is_call word ≡ false → is_operation word ≡ false → kind_of word ≡ Plain
kind_plain (w.Call to of method args) e f = absurd (true≢false e)
kind_plain (w.Query to number site params) e f = absurd (true≢false f)
kind_plain (w.Update to number params) e f = absurd (true≢false f)
kind_plain _ e f = refl

pub kind_operation : (word : Word) → is_operation word ≡ true → kind_of word ≡ Operation
kind_operation (w.Query to number site params) e = refl
kind_operation (w.Update to number params) e = refl
kind_operation _ e = absurd (true≢false (sym e))

pub no_return : (word : Word) → is_operation word ≡ true → is_return word ≡ false
no_return (w.Return a) e = absurd (true≢false (sym e))
no_return _ e = refl

module _ (c : Cutting) (m : ℕ) where
  -- ---- one statement

  join_if : (s : Statement) (made : ℕ) (here : Side) (before : Bool) (l : Left) (b : Bool) → same_side here (side_of c.placed.sides s.node) ≡ b →
      Joins c m s (place_of (Open made here before) (left_if b m made (side_of c.placed.sides s.node) before s l)) (place_of (Open (made_if b made) (side_of c.placed.sides s.node) (is_return_deed s.deed)) l)
  join_if s made here before l true e = subst (λ (x : Side). Joins c m s (Amid made here before (s ∷ l.rest) l.exit l.later) (Amid made x (is_return_deed s.deed) l.rest l.exit l.later)) (same_true here _ e) (joins_stays (same_true here _ e))
  join_if s made here before l false e = begins (λ x. absurd (true≢false (sym (same_is here _ x) ∙ e))) (amid refl)

  joins : (s : Statement) (p : Shape) (l : Left) → Joins c m s (place_of p (left_before m (side_of c.placed.sides s.node) s p l)) (place_of (joined (side_of c.placed.sides s.node) (is_return_deed s.deed) p) l)
  joins s (Open made here before) l = join_if s made here before l _ refl
  joins s (Closed made) l = begins tt anew

  pub closes : (p : Shape) (to : ℕ) (later : List Block) → From (place_of p (closing p to later)) (made_in p) to later
  closes (Open made side over) to later = amid refl
  closes (Closed made) to later = anew

  -- ---- trees lie where the cutter puts them

  abbrev Lie : Tree → Cut → Type 0
  Lie t x = (p : Shape) (l : Left) (ts : List Tree) (q : Place) → In c m (place_of (x.after p) l) ts q → In c m (place_of p (x.back c.firsts m p l)) (t ∷ ts) q

  abbrev LieAll : List Tree → Type 0
  LieAll ts = (p : Shape) (l : Left) → In c m (place_of p (back_all (cuts_of c.placed ts) c.firsts m p l)) ts (place_of (after_all (cuts_of c.placed ts) p) l)

  -- where no block is open it begins the next one
  abbrev Starts : Cut → Type 0
  Starts x = (made : ℕ) (l : Left) → (x.back c.firsts m (Closed made) l).to ≡ suc made

  abbrev IsRight : Tree → Cut → Type 0
  IsRight t x = Lie t x × Starts x

  abbrev Right : Tree → Type 0
  Right t = IsRight t (cut_of c.placed t)

  abbrev AllRight : List Tree → Type 0
  AllRight [] = Unit {0}
  AllRight (t ∷ ts) = Right t × AllRight ts

  pub lie_all : (ts : List Tree) → AllRight ts → LieAll ts
  lie_all [] r p l = nothing
  lie_all (t ∷ ts) r p l = r.0.0 p _ ts _ (lie_all ts r.1 ((cut_of c.placed t).after p) l)

  -- what is before a test in a loop, or the test itself, begins a block
  loop_starts_at : (first : List Tree) (made : ℕ) (side : Side) (s : Statement) (l : Left) → AllRight first → (back_all (cuts_of c.placed first) c.firsts m (Closed made) (left_before m side s (after_all (cuts_of c.placed first) (Closed made)) l)).to ≡ suc made
  loop_starts_at [] made side s l r = refl
  loop_starts_at (t ∷ ts) made side s l r = r.0.1 made _

  do_lies : (node : ℕ) (word : Word) → Lie (Do node word) (word_cut (side_of c.placed.sides node) (statement_of c.placed node (deed.Does word)) (is_return word) (kind_of word))
  do_lies node (w.Call to of method args) p l ts q d = in_calls (joins _ p _) d
  do_lies node (w.Query to number site params) p l ts q d = in_asks refl refl (joins _ p _) d
  do_lies node (w.Update to number params) p l ts q d = in_asks refl refl (joins _ p _) d
  do_lies node _ p l ts q d = in_stays refl refl (joins _ p l) d

  do_starts : (node : ℕ) (word : Word) → Starts (word_cut (side_of c.placed.sides node) (statement_of c.placed node (deed.Does word)) (is_return word) (kind_of word))
  do_starts node (w.Call to of method args) made l = refl
  do_starts node (w.Query to number site params) made l = refl
  do_starts node (w.Update to number params) made l = refl
  do_starts node _ made l = refl

  if_lies : (node : ℕ) (a : Operand) (ys ns : List Tree) → LieAll ys → LieAll ns → Lie (If node a ys ns) (if_cut (side_of c.placed.sides node) (statement_of c.placed node (deed.Chooses a)) (cuts_of c.placed ys) (cuts_of c.placed ns))
  if_lies node a ys ns ly ln p l ts q d = in_branches (joins _ p _) (ly _ _) (closes _ l.to _) (ln _ _) (closes _ l.to l.later) d

  if_starts : (node : ℕ) (a : Operand) (ys ns : List Tree) → Starts (if_cut (side_of c.placed.sides node) (statement_of c.placed node (deed.Chooses a)) (cuts_of c.placed ys) (cuts_of c.placed ns))
  if_starts node a ys ns made l = refl

  loop_lies : (first : List Tree) (node : ℕ) (a : Operand) (body : List Tree) → AllRight first → LieAll body → Lie (Loop first node a body) (loop_cut (side_of c.placed.sides node) (statement_of c.placed node (deed.Tests a)) (cuts_of c.placed first) (cuts_of c.placed body))
  loop_lies first node a body rf lb p l ts q d =
      let made = made_in p in
      let s = statement_of c.placed node (deed.Tests a) in
      let side = side_of c.placed.sides node in
      let tested = after_all (cuts_of c.placed first) (Closed made) in
      let made1 = made_after side tested in
      let inner = back_all (cuts_of c.placed body) c.firsts m (Closed made1) (closing (after_all (cuts_of c.placed body) (Closed made1)) (suc made) l.later) in
      let at_test = left_before m side s tested (left_open [] (Branch inner.to l.to) inner.later) in
      let before = back_all (cuts_of c.placed first) c.firsts m (Closed made) at_test in
      in_turns (closes p (suc made) before.later)
      (subst (λ k. In c m (Anew made k before.later) first (place_of tested at_test)) (loop_starts_at first made side s (left_open [] (Branch inner.to l.to) inner.later) rf) (lie_all first rf (Closed made) at_test))
      (joins s tested (left_open [] (Branch inner.to l.to) inner.later)) (lb (Closed made1) _) (closes _ (suc made) l.later) d

  loop_starts : (first : List Tree) (node : ℕ) (a : Operand) (body : List Tree) → Starts (loop_cut (side_of c.placed.sides node) (statement_of c.placed node (deed.Tests a)) (cuts_of c.placed first) (cuts_of c.placed body))
  loop_starts first node a body made l = refl

  abbrev Each : Type 0
  Each = (t : Tree) × Right t

  abbrev trees : List Each → List Tree
  trees xs = map (λ (x : Each). x.0) xs

  all_right : (xs : List Each) → AllRight (trees xs)
  all_right [] = tt
  all_right (x ∷ xs) = (x.1, all_right xs)

  right_as : (t : Tree) (x : Cut) → cut_of c.placed t ≡ x → IsRight t x → Right t
  right_as t x e r = subst (IsRight t) (sym e) r

  right_of : (y : Tree-F Each) → Right (roll-Tree (map-Tree Each Tree (λ (x : Each). x.0) y))
  right_of (t.Do node word) = subst Right (sym (rolls-Do node word)) (right_as (Do node word) _ (cut_do c.placed node word) (do_lies node word, do_starts node word))
  right_of (t.If node a ys ns) = subst Right (sym (rolls-If node a (trees ys) (trees ns))) (right_as (If node a (trees ys) (trees ns)) _ (cut_if c.placed node a (trees ys) (trees ns)) (if_lies node a (trees ys) (trees ns) (lie_all (trees ys) (all_right ys)) (lie_all (trees ns) (all_right ns)), if_starts node a (trees ys) (trees ns)))
  right_of (t.Loop first node a body) = subst Right (sym (rolls-Loop (trees first) node a (trees body))) (right_as (Loop (trees first) node a (trees body)) _ (cut_loop c.placed (trees first) node a (trees body)) (loop_lies (trees first) node a (trees body) (all_right first) (lie_all (trees body) (all_right body)), loop_starts (trees first) node a (trees body)))

  right_at : (x : Tree-F Tree) (y : Tree-F Each) → map-Tree Each Tree (λ (x : Each). x.0) y ≡ x → Right (roll-Tree x)
  right_at x y e = subst (λ x. Right (roll-Tree x)) e (right_of y)

  right : (t : Tree) → Right t
  right t = ind-Tree Right right_at t

  pub rights : (ts : List Tree) → AllRight ts
  rights [] = tt
  rights (t ∷ ts) = (right t, rights ts)

-- ---- methods

module _ (c : Cutting) where
  pub body_first : (m made : ℕ) (ts : List Tree) (l : Left) → (back_all (cuts_of c.placed ts) c.firsts m (Closed made) (closing (after_all (cuts_of c.placed ts) (Closed made)) 0 l.later)).to ≡ first_block made ts
  body_first m made [] l = refl
  body_first m made (t ∷ ts) l = (right c m t).1 made _

  are_methods : (m made : ℕ) (methods : List Method) → AreMethods c m made methods (firsts_from c.placed made methods) (blocks_from c.placed c.firsts m made methods)
  are_methods m made [] = none
  are_methods m made (method ∷ methods) =
      let shape = body_shape c.placed made method in
      let later1 = blocks_from c.placed c.firsts (suc m) (made_in shape) methods in
      let l = back_all (cuts_of c.placed method.body) c.firsts m (Closed made) (closing shape 0 later1) in
      one (subst (λ k. In c m (Anew made k l.later) method.body (place_of shape (closing shape 0 later1))) (body_first m made method.body (left_closed 0 later1)) (lie_all c m method.body (rights c m method.body) (Closed made) (closing shape 0 later1)))
      (closes c m shape 0 later1) (are_methods (suc m) (made_in shape) methods)

pub code_is_cut : CodeIsCut
unfolding cut
code_is_cut code P = are_methods (cutting P (cut code P)) 1 0 code.methods
