-- Arguments, and what follows a primary expression, are read: a step for each rule.
use Rattle.std.proofs.Common.{◌≡◌, ℕ, zero, suc, ◌≤◌, ◌<◌, true, false, List, [], ◌∷◌, ◌++◌, Some, length, length-append, refl, sym, ap, subst, ◌∙◌, append_assoc, append-nil, arith}
use Rattle.px_words.specs.declared.lexeme.Lexeme.{Lexeme}
use Rattle.px_words.specs.declared.lexeme.Word.{Word}
use Rattle.px_words.specs.declared.lexeme.Word.TheVariants as w
use Rattle.px_tree.specs.declared.Expr.{Expr}
use Rattle.px_words.specs.Lexemes.{is_name}
use Rattle.px_parse.specs.Trees.{variable_of, field_of, element_of, own_call_of, call_of}
use Rattle.px_parse.specs.Grammar as g
use Rattle.px_parse.specs.Grammar.{SpellsExpression, SpellsArguments, SpellsMoreArguments}
use Rattle.px_parse.specs.Reading.{Read, Reads, ◌>>=◌, ◌>>◌, pure, by_test, by_word, next_word, take, expect, sees, same_word, repeated, all_while, next_argument, some_arguments, arguments, own_call, named, member_call, member, element, postfix_on, postfixes, postfix, expression}
use Rattle.px_parse.proofs.FirstWords.{then_is, takes, expects, sees_it, test_holds, test_fails, not_open, expression_begins, no_close_begins}
use Rattle.px_parse.proofs.Endings.{Stops, word_stops, rest_is_no_longer}
use Rattle.px_parse.proofs.CompleteOperands.{PostfixIsRead, WholeIsRead}
use Rattle.px_parse.proofs.CompletePrimaries.{NoOpen, PrimaryIsRead, name_on}

-- ---- arguments

abbrev pub ArgumentsAreRead : List ℕ → List Expr → List Lexeme → Type 0
ArgumentsAreRead source es xs = (n : ℕ) (rest : List Lexeme) → length (xs ++ rest) ≤ n → arguments (expression source n) (xs ++ rest) ≡ Some (es, rest)

-- those behind the first, up to the parenthesis that closes; `m` turns are left
abbrev pub MoreAreRead : List ℕ → List Expr → List Lexeme → Type 0
MoreAreRead source es ys = (n m : ℕ) (found : List Expr) (behind : List Lexeme) → next_word behind ≡ w.Close → length (ys ++ behind) < n → length ys ≤ m → repeated (sees w.Comma) (next_argument (expression source n)) m found (ys ++ behind) ≡ Some (found ++ es, behind)

pub more_stops : (source : List ℕ) (es : List Expr) (ys behind : List Lexeme) → SpellsMoreArguments source es ys → next_word behind ≡ w.Close → Stops (ys ++ behind)
more_stops source _ _ behind g.SpellsMoreArguments.no_more h = word_stops w.Close behind h (λ z. cc) (λ z. cc) (λ z. cc) refl
more_stops source _ _ behind (g.SpellsMoreArguments.more comma k e es xs ys i s t) h = word_stops w.Comma (comma ∷ (xs ++ ys) ++ behind) i (λ z. cc) (λ z. cc) (λ z. cc) refl

no_comma : (x : Word) → x ≡ w.Close → same_word x w.Comma ≡ false
unfolding same_word
no_comma x h = ap (λ v. same_word v w.Comma) h

pub no_more_read : (source : List ℕ) → MoreAreRead source [] []
unfolding repeated
no_more_read source n zero found behind h i j = ap (λ (es : List Expr). let a : Read (List Expr) = Some (es, behind) in a) (sym (append-nil found))
no_more_read source n (suc m) found behind h i j =
    let one = next_argument (expression source n) in
    test_fails (sees w.Comma) (one >>= (λ x. repeated (sees w.Comma) one m (found ++ x ∷ []))) (pure found) behind (no_comma (next_word behind) h)
    ∙ ap (λ (es : List Expr). let a : Read (List Expr) = Some (es, behind) in a) (sym (append-nil found))

pub more_read : (source : List ℕ) (comma : Lexeme) (e : Expr) (es : List Expr) (xs ys : List Lexeme) → comma.word ≡ w.Comma → SpellsMoreArguments source es ys → WholeIsRead source e xs → MoreAreRead source es ys → MoreAreRead source (e ∷ es) (comma ∷ xs ++ ys)
unfolding repeated next_argument
more_read source comma e es xs ys h spells read more n zero found behind i j k = absurd (omega (arith, k))
more_read source comma e es xs ys h spells read more n (suc m) found behind i j k =
    let one = next_argument (expression source n) in
    let left : List Lexeme = (xs ++ ys) ++ behind in
    let same : (xs ++ ys) ++ behind ≡ xs ++ (ys ++ behind) = append_assoc xs ys behind in
    let same_length : length ((xs ++ ys) ++ behind) ≡ length (xs ++ (ys ++ behind)) = ap length same in
    let a = rest_is_no_longer xs (ys ++ behind) in
    let b = rest_is_no_longer xs ys in
    let argument : one (comma ∷ left) ≡ Some (e, ys ++ behind) =
    then_is (take (comma ∷ left)) (λ _. expression source n) comma left (takes comma left) ∙ ap (expression source n) same ∙ read n (ys ++ behind) (omega (arith, j, same_length)) (more_stops source es ys behind spells i) in
    test_holds (sees w.Comma) (one >>= (λ x. repeated (sees w.Comma) one m (found ++ x ∷ []))) (pure found) (comma ∷ left) (sees_it w.Comma (comma ∷ left) h)
    ∙ then_is (one (comma ∷ left)) (λ x. repeated (sees w.Comma) one m (found ++ x ∷ [])) e (ys ++ behind) argument
    ∙ more n m (found ++ e ∷ []) behind i (omega (arith, j, same_length, a)) (omega (arith, k, b))
    ∙ ap (λ (fs : List Expr). let c : Read (List Expr) = Some (fs, behind) in c) (append_assoc found (e ∷ []) es)

pub no_argument_read : (source : List ℕ) (opening closing : Lexeme) → opening.word ≡ w.Open → closing.word ≡ w.Close → ArgumentsAreRead source [] (opening ∷ closing ∷ [])
unfolding arguments
no_argument_read source opening closing h i n rest j =
    let inner = expression source n in
    let behind : List Lexeme = closing ∷ rest in
    let ends = λ (es : List Expr). expect w.Close >> pure es in
    then_is (take (opening ∷ behind)) (λ _. by_test (sees w.Close) (pure []) (some_arguments inner) >>= ends) opening behind (takes opening behind)
    ∙ then_is (by_test (sees w.Close) (pure []) (some_arguments inner) behind) ends [] behind (test_holds (sees w.Close) (pure []) (some_arguments inner) behind (sees_it w.Close behind i))
    ∙ then_is (expect w.Close behind) (λ _. pure []) closing rest (expects w.Close closing rest i)

pub arguments_read : (source : List ℕ) (opening closing : Lexeme) (k : ℕ) (e : Expr) (es : List Expr) (xs ys : List Lexeme) → opening.word ≡ w.Open → closing.word ≡ w.Close → SpellsExpression source k e xs → SpellsMoreArguments source es ys → WholeIsRead source e xs → MoreAreRead source es ys → ArgumentsAreRead source (e ∷ es) (opening ∷ xs ++ (ys ++ closing ∷ []))
unfolding arguments some_arguments
arguments_read source opening closing k e es xs ys h i spells more_spell read more n rest j =
    let inner = expression source n in
    let behind : List Lexeme = closing ∷ rest in
    let left : List Lexeme = (xs ++ (ys ++ closing ∷ [])) ++ rest in
    let same : (xs ++ (ys ++ closing ∷ [])) ++ rest ≡ xs ++ (ys ++ behind) = append_assoc xs (ys ++ closing ∷ []) rest ∙ ap (λ (zs : List Lexeme). xs ++ zs) (append_assoc ys (closing ∷ []) rest) in
    let same_length : length ((xs ++ (ys ++ closing ∷ [])) ++ rest) ≡ length (xs ++ (ys ++ behind)) = ap length same in
    let a = rest_is_no_longer xs (ys ++ behind) in
    let b = length-append ys behind in
    let ends = λ (found : List Expr). expect w.Close >> pure found in
    let no_close : sees w.Close (xs ++ (ys ++ behind)) ≡ false = no_close_begins (next_word (xs ++ (ys ++ behind))) (expression_begins source k e xs (ys ++ behind) spells) in
    let listed : some_arguments inner (xs ++ (ys ++ behind)) ≡ Some (e ∷ es, behind) =
    then_is (inner (xs ++ (ys ++ behind))) (λ y. all_while (sees w.Comma) (next_argument inner) (y ∷ [])) e (ys ++ behind) (read n (ys ++ behind) (omega (arith, j, same_length)) (more_stops source es ys behind more_spell i))
    ∙ more n (length (ys ++ behind)) (e ∷ []) behind i (omega (arith, j, same_length, a)) (omega (arith, b)) in
    then_is (take (opening ∷ left)) (λ _. by_test (sees w.Close) (pure []) (some_arguments inner) >>= ends) opening left (takes opening left)
    ∙ ap (by_test (sees w.Close) (pure []) (some_arguments inner) >>= ends) same
    ∙ then_is (by_test (sees w.Close) (pure []) (some_arguments inner) (xs ++ (ys ++ behind))) ends (e ∷ es) behind (test_fails (sees w.Close) (pure []) (some_arguments inner) (xs ++ (ys ++ behind)) no_close ∙ listed)
    ∙ then_is (expect w.Close behind) (λ _. pure (e ∷ es)) closing rest (expects w.Close closing rest i)

pub arguments_open : (source : List ℕ) (args : List Expr) (ys rest : List Lexeme) → SpellsArguments source args ys → next_word (ys ++ rest) ≡ w.Open
arguments_open source _ _ rest (g.SpellsArguments.no_argument opening closing h i) = h
arguments_open source _ _ rest (g.SpellsArguments.arguments opening closing k e es xs ys h i s t) = h

pub own_call_read : (source : List ℕ) (x : Lexeme) (args : List Expr) (xs : List Lexeme) → is_name x.word ≡ true → SpellsArguments source args xs → ArgumentsAreRead source args xs → PrimaryIsRead source (own_call_of source x args) (x ∷ xs)
unfolding named own_call
own_call_read source x args xs h spells read n rest i j =
    let inner = expression source n in
    let behind : List Lexeme = xs ++ rest in
    ap (λ (p : Reads Expr). p (x ∷ behind)) (name_on source inner x.word h)
    ∙ then_is (take (x ∷ behind)) (λ y. by_test (sees w.Open) (own_call source inner y) (pure (variable_of source y))) x behind (takes x behind)
    ∙ test_holds (sees w.Open) (own_call source inner x) (pure (variable_of source x)) behind (sees_it w.Open behind (arguments_open source args xs rest spells))
    ∙ then_is (arguments inner behind) (λ es. pure (own_call_of source x es)) args rest (read n rest (omega (arith, i)))

-- ---- what follows a primary expression

-- One turn of the loop takes `ys` and makes `e` of `of`.
abbrev pub TurnIsRead : List ℕ → Expr → Expr → List Lexeme → Type 0
TurnIsRead source of e ys = (n : ℕ) (more : Expr → Reads Expr) (rest : List Lexeme) → length (ys ++ rest) ≤ n → NoOpen rest → by_word (postfix_on source (expression source n) more of) (ys ++ rest) ≡ more e rest

turns : (source : List ℕ) (of e : Expr) (ys : List Lexeme) → TurnIsRead source of e ys → (n m : ℕ) (rest : List Lexeme) → length (ys ++ rest) ≤ n → length (ys ++ rest) < m → length rest < length (ys ++ rest) → NoOpen rest → (left : ℕ) × (length rest < left) × (postfixes source (expression source n) m of (ys ++ rest) ≡ postfixes source (expression source n) left e rest)
unfolding postfixes
turns source of e ys read n zero rest h i j k = absurd (omega (arith, i))
turns source of e ys read n (suc m) rest h i j k = (m, omega (arith, i, j), read n (postfixes source (expression source n) m) rest h k)

-- the loop goes on: the first of `y ∷ ys` is no parenthesis
pub chain_read : (source : List ℕ) (of e : Expr) (xs ys : List Lexeme) (y : Lexeme) → (y.word ≡ w.Open → ⊥) → PostfixIsRead source of xs → TurnIsRead source of e (y ∷ ys) → PostfixIsRead source e (xs ++ y ∷ ys)
chain_read source of e xs ys y no_open read turn n m rest h i j =
    let whole : (xs ++ y ∷ ys) ++ rest ≡ xs ++ (y ∷ ys ++ rest) = append_assoc xs (y ∷ ys) rest in
    let whole_length : length ((xs ++ y ∷ ys) ++ rest) ≡ length (xs ++ (y ∷ ys ++ rest)) = ap length whole in
    let a = rest_is_no_longer xs (y ∷ ys ++ rest) in
    let b = rest_is_no_longer ys rest in
    let t = read n m (y ∷ ys ++ rest) (omega (arith, h, whole_length)) (omega (arith, i, whole_length)) no_open in
    let u = turns source of e (y ∷ ys) turn n t.0 rest (omega (arith, h, whole_length, a)) t.1 (omega (arith, b)) j in
    (u.0, u.1, ap (postfix source (expression source n) m) whole ∙ t.2 ∙ u.2)

field_turn : (source : List ℕ) (of : Expr) (dot name : Lexeme) → dot.word ≡ w.Dot → TurnIsRead source of (field_of source of name) (dot ∷ name ∷ [])
unfolding member
field_turn source of dot name h n more rest i j =
    let inner = expression source n in
    let one : member source inner of (dot ∷ name ∷ rest) ≡ Some (field_of source of name, rest) =
    then_is (take (dot ∷ name ∷ rest)) (λ _. take >>= (λ y. by_test (sees w.Open) (member_call source inner of y) (pure (field_of source of y)))) dot (name ∷ rest) (takes dot (name ∷ rest))
    ∙ then_is (take (name ∷ rest)) (λ y. by_test (sees w.Open) (member_call source inner of y) (pure (field_of source of y))) name rest (takes name rest)
    ∙ test_fails (sees w.Open) (member_call source inner of name) (pure (field_of source of name)) rest (not_open (next_word rest) j) in
    ap (λ v. postfix_on source inner more of v (dot ∷ name ∷ rest)) h
    ∙ then_is (member source inner of (dot ∷ name ∷ rest)) more (field_of source of name) rest one

pub field_read : (source : List ℕ) (of : Expr) (xs : List Lexeme) (dot name : Lexeme) → dot.word ≡ w.Dot → PostfixIsRead source of xs → PostfixIsRead source (field_of source of name) (xs ++ dot ∷ name ∷ [])
field_read source of xs dot name h read = chain_read source of (field_of source of name) xs (name ∷ []) dot (λ z. cc) read (field_turn source of dot name h)

call_turn : (source : List ℕ) (of : Expr) (args : List Expr) (ys : List Lexeme) (dot name : Lexeme) → dot.word ≡ w.Dot → SpellsArguments source args ys → ArgumentsAreRead source args ys → TurnIsRead source of (call_of source of name args) (dot ∷ name ∷ ys)
unfolding member member_call
call_turn source of args ys dot name h spells read n more rest i j =
    let inner = expression source n in
    let behind : List Lexeme = ys ++ rest in
    let one : member source inner of (dot ∷ name ∷ behind) ≡ Some (call_of source of name args, rest) =
    then_is (take (dot ∷ name ∷ behind)) (λ _. take >>= (λ y. by_test (sees w.Open) (member_call source inner of y) (pure (field_of source of y)))) dot (name ∷ behind) (takes dot (name ∷ behind))
    ∙ then_is (take (name ∷ behind)) (λ y. by_test (sees w.Open) (member_call source inner of y) (pure (field_of source of y))) name behind (takes name behind)
    ∙ test_holds (sees w.Open) (member_call source inner of name) (pure (field_of source of name)) behind (sees_it w.Open behind (arguments_open source args ys rest spells))
    ∙ then_is (arguments inner behind) (λ es. pure (call_of source of name es)) args rest (read n rest (omega (arith, i))) in
    ap (λ v. postfix_on source inner more of v (dot ∷ name ∷ behind)) h
    ∙ then_is (member source inner of (dot ∷ name ∷ behind)) more (call_of source of name args) rest one

pub call_read : (source : List ℕ) (of : Expr) (args : List Expr) (xs ys : List Lexeme) (dot name : Lexeme) → dot.word ≡ w.Dot → SpellsArguments source args ys → PostfixIsRead source of xs → ArgumentsAreRead source args ys → PostfixIsRead source (call_of source of name args) (xs ++ dot ∷ name ∷ ys)
call_read source of args xs ys dot name h spells read arguments_of = chain_read source of (call_of source of name args) xs (name ∷ ys) dot (λ z. cc) read (call_turn source of args ys dot name h spells arguments_of)

element_turn : (source : List ℕ) (of index : Expr) (ys : List Lexeme) (opening closing : Lexeme) → opening.word ≡ w.OpenBracket → closing.word ≡ w.CloseBracket → WholeIsRead source index ys → TurnIsRead source of (element_of of index) (opening ∷ ys ++ closing ∷ [])
unfolding element
element_turn source of index ys opening closing h i read n more rest j k =
    let inner = expression source n in
    let behind : List Lexeme = closing ∷ rest in
    let left : List Lexeme = (ys ++ closing ∷ []) ++ rest in
    let same : (ys ++ closing ∷ []) ++ rest ≡ ys ++ behind = append_assoc ys (closing ∷ []) rest in
    let same_length : length ((ys ++ closing ∷ []) ++ rest) ≡ length (ys ++ behind) = ap length same in
    let one : element inner of (opening ∷ left) ≡ Some (element_of of index, rest) =
    then_is (take (opening ∷ left)) (λ _. inner >>= (λ y. expect w.CloseBracket >> pure (element_of of y))) opening left (takes opening left)
    ∙ then_is (inner left) (λ y. expect w.CloseBracket >> pure (element_of of y)) index behind (ap inner same ∙ read n behind (omega (arith, j, same_length)) (word_stops w.CloseBracket behind i (λ z. cc) (λ z. cc) (λ z. cc) refl))
    ∙ then_is (expect w.CloseBracket behind) (λ _. pure (element_of of index)) closing rest (expects w.CloseBracket closing rest i) in
    ap (λ v. postfix_on source inner more of v (opening ∷ left)) h
    ∙ then_is (element inner of (opening ∷ left)) more (element_of of index) rest one

pub element_read : (source : List ℕ) (of index : Expr) (xs ys : List Lexeme) (opening closing : Lexeme) → opening.word ≡ w.OpenBracket → closing.word ≡ w.CloseBracket → PostfixIsRead source of xs → WholeIsRead source index ys → PostfixIsRead source (element_of of index) (xs ++ opening ∷ ys ++ closing ∷ [])
element_read source of index xs ys opening closing h i read index_read =
    subst (PostfixIsRead source (element_of of index)) (sym (append_assoc xs (opening ∷ ys) (closing ∷ []))) (chain_read source of (element_of of index) xs (ys ++ closing ∷ []) opening (λ z. cc) read (element_turn source of index ys opening closing h i index_read))
