-- Operands and operators are read: a step for each rule.
use Rattle.std.proofs.Common.{◌≡◌, ℕ, zero, suc, ◌+◌, ◌≤◌, ◌<◌, nat_le, List, ◌∷◌, ◌++◌, Option, Some, None, length, refl, sym, ap, subst, ◌∙◌, append_assoc, arith}
use Rattle.px_words.specs.declared.lexeme.Lexeme.{Lexeme}
use Rattle.px_words.specs.declared.lexeme.Word.{Word}
use Rattle.px_words.specs.declared.lexeme.Word.TheVariants as w
use Rattle.px_tree.specs.declared.Sign.{Sign}
use Rattle.px_tree.specs.declared.Expr.{Expr}
use Rattle.px_words.specs.Words.{binary_sign, level, tightest, prefix_sign, cast_sign, cast_to}
use Rattle.px_parse.specs.Trees.{prefix_of, binary_of}
use Rattle.px_parse.specs.Grammar.{Ending, SpellsExpression, SpellsPostfix}
use Rattle.px_parse.specs.Reading.{Read, Reads, and_then, ◌>>=◌, ◌>>◌, pure, next_word, take, expect, is_cast, cast, prefixed, postfix, postfixes, operand_on, operand, operated, operator_on, operators, joined, expression}
use Rattle.px_parse.proofs.FirstWords.{then_is, takes, expects, test_holds, test_fails, postfix_begins, postfix_has_no_prefix, postfix_is_no_cast, cast_is, sees_cast}
use Rattle.px_parse.proofs.Endings.{StopsPostfix, Stops, Looser, looser_still, no_sign_is_looser, index_is_positive, at_least, rest_is_no_longer, postfixes_end, operators_end}

-- ---- What is proved of each rule. `n` is the depth that is left, `m` the turns.

-- the loop behind a postfix goes on
abbrev pub PostfixIsRead : List ℕ → Expr → List Lexeme → Type 0
PostfixIsRead source e xs = (n m : ℕ) (rest : List Lexeme) → length (xs ++ rest) ≤ n → length (xs ++ rest) < m → (next_word rest ≡ w.Open → ⊥) → (left : ℕ) × (length rest < left) × (postfix source (expression source n) m (xs ++ rest) ≡ postfixes source (expression source n) left e rest)

abbrev pub OperandIsRead : List ℕ → Expr → List Lexeme → Type 0
OperandIsRead source e xs = (n m : ℕ) (rest : List Lexeme) → length (xs ++ rest) ≤ n → length (xs ++ rest) < m → StopsPostfix rest → operand source (expression source n) m (xs ++ rest) ≡ Some (e, rest)

-- the loop behind an expression goes on, where the next operator is no tighter than those in it
abbrev pub ExpressionIsRead : List ℕ → ℕ → Expr → List Lexeme → Type 0
ExpressionIsRead source k e xs = (n m least : ℕ) (rest : List Lexeme) → least ≤ k → length (xs ++ rest) ≤ n → length (xs ++ rest) < m → StopsPostfix rest → Looser (k + 1) (binary_sign (next_word rest)) → (left : ℕ) × (length rest < left) × ((operand source (expression source n) m >>= operators source (expression source n) m least) (xs ++ rest) ≡ operators source (expression source n) left least e rest)

abbrev pub WholeIsRead : List ℕ → Expr → List Lexeme → Type 0
WholeIsRead source e xs = (n : ℕ) (rest : List Lexeme) → length (xs ++ rest) < n → Stops rest → expression source n (xs ++ rest) ≡ Some (e, rest)

pub whole_read : (source : List ℕ) (k : ℕ) (e : Expr) (xs : List Lexeme) → SpellsExpression source k e xs → ExpressionIsRead source k e xs → WholeIsRead source e xs
unfolding expression joined
whole_read source k e xs spells read zero rest h stops = absurd (omega (arith, h))
whole_read source k e xs spells read (suc n) rest h stops =
    let t = read n (suc (length (xs ++ rest))) 1 rest (index_is_positive source k e xs spells) (omega (arith, h)) (omega arith) stops.postfix (no_sign_is_looser (k + 1) (binary_sign (next_word rest)) stops.no_sign) in
    t.2 ∙ operators_end source (expression source n) t.0 1 e rest t.1 (no_sign_is_looser 1 (binary_sign (next_word rest)) stops.no_sign)

-- ---- operands

pub prefix_read : (source : List ℕ) (x : Lexeme) (op : Sign) (e : Expr) (xs : List Lexeme) → prefix_sign x.word ≡ Some op → OperandIsRead source e xs → OperandIsRead source (prefix_of op x e) (x ∷ xs)
unfolding operand prefixed
prefix_read source x op e xs h read n zero rest i j stops = absurd (omega (arith, j))
prefix_read source x op e xs h read n (suc m) rest i j stops =
    let inner = expression source n in
    ap (λ (f : Option Sign). operand_on f (operand source inner m) (postfix source inner (suc m)) (x ∷ xs ++ rest)) h
    ∙ then_is (take (x ∷ xs ++ rest)) (λ a. operand source inner m >>= (λ y. pure (prefix_of op a y))) x (xs ++ rest) (takes x (xs ++ rest))
    ∙ then_is (operand source inner m (xs ++ rest)) (λ y. pure (prefix_of op x y)) e rest (read n m rest (omega (arith, i)) (omega (arith, j)) stops)

pub cast_read : (source : List ℕ) (opening x closing : Lexeme) (op : Sign) (e : Expr) (xs : List Lexeme) → opening.word ≡ w.Open → cast_sign x.word ≡ Some op → closing.word ≡ w.Close → OperandIsRead source e xs → OperandIsRead source (prefix_of op opening e) (opening ∷ x ∷ closing ∷ xs)
unfolding operand cast
cast_read source opening x closing op e xs h k l read n zero rest i j stops = absurd (omega (arith, j))
cast_read source opening x closing op e xs h k l read n (suc m) rest i j stops =
    let inner = expression source n in
    let behind = xs ++ rest in
    ap (λ (v : Word). operand_on (prefix_sign v) (operand source inner m) (postfix source inner (suc m)) (opening ∷ x ∷ closing ∷ behind)) h
    ∙ test_holds is_cast (cast (operand source inner m)) (postfix source inner (suc m)) (opening ∷ x ∷ closing ∷ behind) (sees_cast opening x (closing ∷ behind) op h k)
    ∙ then_is (take (opening ∷ x ∷ closing ∷ behind)) (λ a. take >>= (λ b. expect w.Close >> (operand source inner m >>= (λ y. pure (prefix_of (cast_to b.word) a y))))) opening (x ∷ closing ∷ behind) (takes opening (x ∷ closing ∷ behind))
    ∙ then_is (take (x ∷ closing ∷ behind)) (λ b. expect w.Close >> (operand source inner m >>= (λ y. pure (prefix_of (cast_to b.word) opening y)))) x (closing ∷ behind) (takes x (closing ∷ behind))
    ∙ then_is (expect w.Close (closing ∷ behind)) (λ _. operand source inner m >>= (λ y. pure (prefix_of (cast_to x.word) opening y))) closing behind (expects w.Close closing behind l)
    ∙ then_is (operand source inner m behind) (λ y. pure (prefix_of (cast_to x.word) opening y)) e rest (read n m rest (omega (arith, i)) (omega (arith, j)) stops)
    ∙ ap (λ (f : Sign). let a : Read Expr = Some (prefix_of f opening e, rest) in a) (cast_is x.word op k).1

pub operand_read : (source : List ℕ) (ending : Ending) (e : Expr) (xs : List Lexeme) → SpellsPostfix source ending e xs → PostfixIsRead source e xs → OperandIsRead source e xs
unfolding operand
operand_read source ending e xs spells read n zero rest i j stops = absurd (omega (arith, j))
operand_read source ending e xs spells read n (suc m) rest i j stops =
    let inner = expression source n in
    let t = read n (suc m) rest i j stops.no_open in
    ap (λ (f : Option Sign). operand_on f (operand source inner m) (postfix source inner (suc m)) (xs ++ rest)) (postfix_has_no_prefix (next_word (xs ++ rest)) (postfix_begins source ending e xs rest spells))
    ∙ test_fails is_cast (cast (operand source inner m)) (postfix source inner (suc m)) (xs ++ rest) (postfix_is_no_cast source ending e xs rest spells)
    ∙ t.2
    ∙ postfixes_end source inner t.0 e rest t.1 stops

-- ---- operators

pub single_read : (source : List ℕ) (e : Expr) (xs : List Lexeme) → OperandIsRead source e xs → ExpressionIsRead source tightest e xs
single_read source e xs read n m least rest h i j stops looser =
    let a = rest_is_no_longer xs rest in
    (m, omega (arith, a, j), then_is (operand source (expression source n) m (xs ++ rest)) (operators source (expression source n) m least) e rest (read n m rest i j stops))

one_after_other : {A B C : Type 0} (r : Read A) (f : A → Reads B) (h : B → Reads C) → and_then r (λ y. f y >>= h) ≡ and_then (and_then r f) h
one_after_other None f h = refl
one_after_other (Some x) f h = refl

-- a turn of the loop takes an operator and its right side
turn : (source : List ℕ) (inner : Reads Expr) (n least : ℕ) (left whole : Expr) (at : Lexeme) (op : Sign) (xs rest : List Lexeme) → binary_sign at.word ≡ Some op → least ≤ level op → (operand source inner n >>= operators source inner n (level op + 1)) xs ≡ Some (whole, rest) → operators source inner (suc n) least left (at ∷ xs) ≡ operators source inner n least (binary_of op at left whole) rest
unfolding operators operated
turn source inner n least left whole at op xs rest h i j =
    let right = operand source inner n in
    let more = operators source inner n in
    ap (λ (f : Option Sign). operator_on right more least left f (at ∷ xs)) h
    ∙ test_holds (λ _. nat_le least (level op)) (operated right more least left op) (pure left) (at ∷ xs) (at_least least (level op) i)
    ∙ then_is (take (at ∷ xs)) (λ a. right >>= (λ y. more (level op + 1) y >>= (λ z. more least (binary_of op a left z)))) at xs (takes at xs)
    ∙ one_after_other (right xs) (more (level op + 1)) (λ z. more least (binary_of op at left z))
    ∙ then_is ((right >>= more (level op + 1)) xs) (λ z. more least (binary_of op at left z)) whole rest j

-- turns are left for the right side and what follows it
turns : (source : List ℕ) (inner : Reads Expr) (n least : ℕ) (left whole : Expr) (at : Lexeme) (op : Sign) (xs rest : List Lexeme) → binary_sign at.word ≡ Some op → least ≤ level op → length (at ∷ xs) < n → length rest ≤ length xs → ((m : ℕ) → length xs < m → (operand source inner m >>= operators source inner m (level op + 1)) xs ≡ Some (whole, rest)) → (over : ℕ) × (length rest < over) × (operators source inner n least left (at ∷ xs) ≡ operators source inner over least (binary_of op at left whole) rest)
turns source inner zero least left whole at op xs rest h i j k right = absurd (omega (arith, j))
turns source inner (suc n) least left whole at op xs rest h i j k right = (n, omega (arith, j, k), turn source inner n least left whole at op xs rest h i (right n (omega (arith, j))))

operator_stops_postfix : (x : Word) (op : Sign) → binary_sign x ≡ Some op → (x ≡ w.Dot → ⊥) × (x ≡ w.OpenBracket → ⊥) × (x ≡ w.Open → ⊥)
operator_stops_postfix x op h = (
  λ z. let t : binary_sign x ≡ None = ap binary_sign z in cc,
  λ z. let t : binary_sign x ≡ None = ap binary_sign z in cc,
  λ z. let t : binary_sign x ≡ None = ap binary_sign z in cc,
)

pub binary_read : (source : List ℕ) (at : Lexeme) (op : Sign) (k j : ℕ) (l r : Expr) (ls rs : List Lexeme) → binary_sign at.word ≡ Some op → level op ≤ k → level op < j → ExpressionIsRead source k l ls → ExpressionIsRead source j r rs → ExpressionIsRead source (level op) (binary_of op at l r) (ls ++ at ∷ rs)
binary_read source at op k j l r ls rs sees tight tighter left right n m least rest h i turns_left stops looser =
    let inner = expression source n in
    let behind : List Lexeme = at ∷ rs ++ rest in
    let whole : (ls ++ at ∷ rs) ++ rest ≡ ls ++ behind = append_assoc ls (at ∷ rs) rest in
    let whole_length : length ((ls ++ at ∷ rs) ++ rest) ≡ length (ls ++ behind) = ap length whole in
    let a : length behind ≤ length (ls ++ behind) = rest_is_no_longer ls behind in
    let no_postfix = operator_stops_postfix at.word op sees in
    let its_stops : StopsPostfix behind = record { no_dot = no_postfix.0; no_bracket = no_postfix.1; no_open = no_postfix.2 } in
    let t = left n m least behind (omega (arith, h, tight)) (omega (arith, i, whole_length)) (omega (arith, turns_left, whole_length)) its_stops (subst (Looser (k + 1)) (sym sees) (omega (arith, tight))) in
    let right_side : (q : ℕ) → length (rs ++ rest) < q → (operand source inner q >>= operators source inner q (level op + 1)) (rs ++ rest) ≡ Some (r, rest) =
    λ q z.
    let v = right n q (level op + 1) rest (omega (arith, tighter)) (omega (arith, i, whole_length, a)) z stops (looser_still (level op + 1) (j + 1) (binary_sign (next_word rest)) (omega (arith, tighter)) looser) in
    v.2 ∙ operators_end source inner v.0 (level op + 1) r rest v.1 looser in
    let u = turns source inner t.0 least l r at op (rs ++ rest) rest sees h t.1 (rest_is_no_longer rs rest) right_side in
    (u.0, u.1, ap (operand source inner m >>= operators source inner m least) whole ∙ t.2 ∙ u.2)
