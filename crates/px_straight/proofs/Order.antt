-- What is later is the first statement, in the order of nodes, that isn't taken.
use Rattle.std.proofs.Common.{◌≡◌, ℕ, Bool, true, false, List, [], ◌∷◌, ◌++◌, map, Option, Some, None, option_map, unwrap_or, if◌then◌else◌, refl, sym, ap, subst, ◌∙◌}
use Rattle.px_normal.specs.declared.word.Operand.{Operand}
use Rattle.px_normal.specs.declared.word.Word.{Word}
use Rattle.px_normal.specs.declared.method.Method.{Method}
use Rattle.px_normal.specs.declared.method.Tree.{Tree, Tree-F, fold-roll-Tree, roll-Tree, map-Tree, ind-Tree}
use Rattle.px_normal.specs.declared.method.Tree.TheVariants.{Do, If, Loop, rolls-Do, rolls-If, rolls-Loop}
use Rattle.px_normal.specs.declared.method.Tree.TheOpen.{Tree-F as t}
use Rattle.px_normal.specs.declared.code.Code.{Code}
use Rattle.px_straight.specs.Taken.{is_taken, line_of, first_of, later_in, later_among, later_of}
use Rattle.px_straight.specs.Order.{Judged, joined, judged, judged_step, judged_in, judged_among, judged_of, first_untaken}
use Rattle.px_straight.specs.Simple.{simple_code}
use Rattle.px_straight.specs.Straight.{unless_later, straight}
use Rattle.px_straight.specs.Laws.{StraightOrLater}
use Rattle.px_straight.proofs.Forms.{later_do, later_if, later_loop}

-- ---- the first of two lists

or_else : Option ℕ → Option ℕ → Option ℕ
or_else None o = o
or_else (Some n) o = Some n

abbrev or_if : Bool → ℕ → Option ℕ → Option ℕ
or_if b n o = if b then o else Some n

if_first : (b : Bool) (n : ℕ) (o p : Option ℕ) → or_if b n (or_else o p) ≡ or_else (or_if b n o) p
unfolding or_else
if_first true n o p = refl
if_first false n o p = refl

first_append : (xs ys : List Judged) → first_untaken (xs ++ ys) ≡ or_else (first_untaken xs) (first_untaken ys)
unfolding or_else
first_append [] ys = refl
first_append (x ∷ xs) ys = ap (or_if x.taken x.node) (first_append xs ys) ∙ if_first x.taken x.node (first_untaken xs) (first_untaken ys)

module _ (code : Code) where
  abbrev line : Option ℕ → Option ℕ
  line o = option_map (line_of code) o

  line_first : (o : Option ℕ) (more : List (Option ℕ)) (p : Option ℕ) → first_of more ≡ line p → first_of (line o ∷ more) ≡ line (or_else o p)
  unfolding or_else
  line_first None more p h = h
  line_first (Some n) more p h = refl

  -- ---- the statements of each kind of tree

  at_judged : (x : Tree-F Tree) → judged_in code (roll-Tree x) ≡ judged_step code (map-Tree Tree (List Judged) (judged_in code) x)
  unfolding judged_in
  at_judged x = fold-roll-Tree (List Judged) (judged_step code) x

  judged_do : (node : ℕ) (word : Word) → judged_in code (Do node word) ≡ judged (is_taken code.main word) node ∷ []
  judged_do node word = ap (judged_in code) (sym (rolls-Do node word)) ∙ at_judged (t.Do node word)

  judged_if : (node : ℕ) (a : Operand) (ys ns : List Tree) → judged_in code (If node a ys ns) ≡ judged false node ∷ (judged_among code ys ++ judged_among code ns)
  judged_if node a ys ns = ap (judged_in code) (sym (rolls-If node a ys ns)) ∙ at_judged (t.If node a ys ns)

  judged_loop : (first : List Tree) (node : ℕ) (a : Operand) (body : List Tree) → judged_in code (Loop first node a body) ≡ judged_among code first ++ judged false node ∷ judged_among code body
  judged_loop first node a body = ap (judged_in code) (sym (rolls-Loop first node a body)) ∙ at_judged (t.Loop first node a body)

  -- ---- what is later

  abbrev Right : Tree → Type 0
  Right x = later_in code x ≡ line (first_untaken (judged_in code x))

  right_as : (x : Tree) (xs : List Judged) → judged_in code x ≡ xs → later_in code x ≡ line (first_untaken xs) → Right x
  right_as x xs e h = h ∙ ap (λ (l : List Judged). line (first_untaken l)) (sym e)

  abbrev Each : Type 0
  Each = (x : Tree) × Right x

  abbrev trees : List Each → List Tree
  trees xs = map (λ (x : Each). x.0) xs

  among : (xs : List Each) → later_among code (trees xs) ≡ line (first_untaken (judged_among code (trees xs)))
  among [] = refl
  among (x ∷ xs) =
      ap (λ (o : Option ℕ). first_of (o ∷ map (later_in code) (trees xs))) x.1
      ∙ line_first (first_untaken (judged_in code x.0)) (map (later_in code) (trees xs)) (first_untaken (judged_among code (trees xs))) (among xs)
      ∙ ap line (sym (first_append (judged_in code x.0) (judged_among code (trees xs))))

  taken_line : (b : Bool) (node : ℕ) → (if b then None else Some (line_of code node)) ≡ line (first_untaken (judged b node ∷ []))
  taken_line true node = refl
  taken_line false node = refl

  -- what stands before the test, and then the test
  loop_line : (o : Option ℕ) (node : ℕ) → Some (unwrap_or (line o) (line_of code node)) ≡ line (or_else o (Some node))
  unfolding or_else
  loop_line None node = refl
  loop_line (Some n) node = refl

  loop_right : (first : List Tree) (node : ℕ) (a : Operand) (body : List Tree) → later_among code first ≡ line (first_untaken (judged_among code first)) → Right (Loop first node a body)
  loop_right first node a body h = right_as (Loop first node a body) _ (judged_loop first node a body)
      (later_loop code (Loop first node a body) first node a body refl
      ∙ ap (λ (o : Option ℕ). Some (unwrap_or o (line_of code node))) h
      ∙ loop_line (first_untaken (judged_among code first)) node
      ∙ ap line (sym (first_append (judged_among code first) (judged false node ∷ judged_among code body))))

  right_of : (y : Tree-F Each) → Right (roll-Tree (map-Tree Each Tree (λ (x : Each). x.0) y))
  right_of (t.Do node word) = subst Right (sym (rolls-Do node word)) (right_as (Do node word) _ (judged_do node word) (later_do code (Do node word) node word refl ∙ taken_line (is_taken code.main word) node))
  right_of (t.If node a ys ns) = subst Right (sym (rolls-If node a (trees ys) (trees ns))) (right_as (If node a (trees ys) (trees ns)) _ (judged_if node a (trees ys) (trees ns)) (later_if code (If node a (trees ys) (trees ns)) node a (trees ys) (trees ns) refl))
  right_of (t.Loop first node a body) = subst Right (sym (rolls-Loop (trees first) node a (trees body))) (loop_right (trees first) node a (trees body) (among first))

  right_at : (x : Tree-F Tree) (y : Tree-F Each) → map-Tree Each Tree (λ (x : Each). x.0) y ≡ x → Right (roll-Tree x)
  right_at x y e = subst (λ (z : Tree-F Tree). Right (roll-Tree z)) e (right_of y)

  right : (x : Tree) → Right x
  right x = ind-Tree Right right_at x

  among_trees : (xs : List Tree) → later_among code xs ≡ line (first_untaken (judged_among code xs))
  among_trees [] = refl
  among_trees (x ∷ xs) =
      ap (λ (o : Option ℕ). first_of (o ∷ map (later_in code) xs)) (right x)
      ∙ line_first (first_untaken (judged_in code x)) (map (later_in code) xs) (first_untaken (judged_among code xs)) (among_trees xs)
      ∙ ap line (sym (first_append (judged_in code x) (judged_among code xs)))

  among_methods : (ms : List Method) → first_of (map (later_of code) ms) ≡ line (first_untaken (joined (map (judged_of code) ms)))
  among_methods [] = refl
  among_methods (m ∷ ms) =
      ap (λ (o : Option ℕ). first_of (o ∷ map (later_of code) ms)) (among_trees m.body)
      ∙ line_first (first_untaken (judged_of code m)) (map (later_of code) ms) (first_untaken (joined (map (judged_of code) ms))) (among_methods ms)
      ∙ ap line (sym (first_append (judged_of code m) (joined (map (judged_of code) ms))))

pub or_later : StraightOrLater
unfolding straight
or_later code = ap (λ (o : Option ℕ). unless_later o (simple_code code)) (among_methods code code.methods)
