-- Primary expressions are read: a step for each rule.
use Rattle.std.proofs.Common.{◌≡◌, ℕ, ◌≤◌, true, List, [], ◌∷◌, ◌++◌, Option, Some, length, refl, ap, ◌∙◌, append_assoc, arith}
use Rattle.px_words.specs.declared.lexeme.Lexeme.{Lexeme}
use Rattle.px_words.specs.declared.lexeme.Word.{Word}
use Rattle.px_words.specs.declared.lexeme.Word.TheVariants as w
use Rattle.px_tree.specs.declared.Expr.{Expr}
use Rattle.px_tree.specs.declared.ExprForm.{ExprForm}
use Rattle.px_words.specs.Lexemes.{is_name}
use Rattle.px_parse.specs.Trees.{expression_of, number_of, text_of, word_form, variable_of, group_of, object_of, array_of}
use Rattle.px_parse.specs.Reading.{Reads, ◌>>=◌, ◌>>◌, pure, by_test, next_word, take, expect, sees, group, own_call, named, new_object, new_array, made, worded, primary_on, primary, postfixes, postfix, expression}
use Rattle.px_parse.proofs.FirstWords.{then_is, takes, expects, sees_it, test_holds, test_fails, not_open}
use Rattle.px_parse.proofs.Endings.{word_stops, rest_is_no_longer}
use Rattle.px_parse.proofs.CompleteOperands.{PostfixIsRead, WholeIsRead}

abbrev pub NoOpen : List Lexeme → Type 0
NoOpen rest = next_word rest ≡ w.Open → ⊥

-- ---- primary expressions

abbrev pub PrimaryIsRead : List ℕ → Expr → List Lexeme → Type 0
PrimaryIsRead source e xs = (n : ℕ) (rest : List Lexeme) → length (xs ++ rest) ≤ n → NoOpen rest → primary source (expression source n) (xs ++ rest) ≡ Some (e, rest)

pub primary_read : (source : List ℕ) (e : Expr) (xs : List Lexeme) → PrimaryIsRead source e xs → PostfixIsRead source e xs
unfolding postfix
primary_read source e xs read n m rest h i stops =
    let a = rest_is_no_longer xs rest in
    (m, omega (arith, a, i), then_is (primary source (expression source n) (xs ++ rest)) (postfixes source (expression source n) m) e rest (read n rest h stops))

pub number_read : (source : List ℕ) (x : Lexeme) → x.word ≡ w.Number → PrimaryIsRead source (number_of source x) (x ∷ [])
unfolding primary_on take
number_read source x h n rest i j = ap (λ v. primary_on source (expression source n) v (x ∷ rest)) h

pub text_read : (source : List ℕ) (x : Lexeme) → x.word ≡ w.Text → PrimaryIsRead source (text_of source x) (x ∷ [])
unfolding primary_on take
text_read source x h n rest i j = ap (λ v. primary_on source (expression source n) v (x ∷ rest)) h

form_on : (source : List ℕ) (inner : Reads Expr) (x : Word) (form : ExprForm) → word_form x ≡ Some form → primary_on source inner x ≡ worded source inner (word_form x)
unfolding primary_on
form_on source inner w.Number form h = cc
form_on source inner w.Text form h = cc
form_on source inner w.Open form h = cc
form_on source inner w.New form h = cc
form_on source inner _ form h = refl

pub word_read : (source : List ℕ) (x : Lexeme) (form : ExprForm) → word_form x.word ≡ Some form → PrimaryIsRead source (expression_of x.token form) (x ∷ [])
unfolding worded take
word_read source x form h n rest i j =
    ap (λ (p : Reads Expr). p (x ∷ rest)) (form_on source (expression source n) x.word form h) ∙ ap (λ (f : Option ExprForm). worded source (expression source n) f (x ∷ rest)) h

pub name_on : (source : List ℕ) (inner : Reads Expr) (x : Word) → is_name x ≡ true → primary_on source inner x ≡ named source inner
unfolding primary_on worded
name_on source inner w.Number h = cc
name_on source inner w.Text h = cc
name_on source inner w.Open h = cc
name_on source inner w.New h = cc
name_on source inner w.True h = cc
name_on source inner w.False h = cc
name_on source inner w.Null h = cc
name_on source inner w.This h = cc
name_on source inner _ h = refl

pub variable_read : (source : List ℕ) (x : Lexeme) → is_name x.word ≡ true → PrimaryIsRead source (variable_of source x) (x ∷ [])
unfolding named
variable_read source x h n rest i j =
    let inner = expression source n in
    ap (λ (p : Reads Expr). p (x ∷ rest)) (name_on source inner x.word h)
    ∙ then_is (take (x ∷ rest)) (λ y. by_test (sees w.Open) (own_call source inner y) (pure (variable_of source y))) x rest (takes x rest)
    ∙ test_fails (sees w.Open) (own_call source inner x) (pure (variable_of source x)) rest (not_open (next_word rest) j)

pub group_read : (source : List ℕ) (opening closing : Lexeme) (e : Expr) (xs : List Lexeme) → opening.word ≡ w.Open → closing.word ≡ w.Close → WholeIsRead source e xs → PrimaryIsRead source (group_of opening e) (opening ∷ xs ++ closing ∷ [])
unfolding primary_on group
group_read source opening closing e xs h i read n rest j k =
    let inner = expression source n in
    let behind : List Lexeme = closing ∷ rest in
    let same : (xs ++ closing ∷ []) ++ rest ≡ xs ++ behind = append_assoc xs (closing ∷ []) rest in
    let same_length : length ((xs ++ closing ∷ []) ++ rest) ≡ length (xs ++ behind) = ap length same in
    ap (λ v. primary_on source inner v (opening ∷ (xs ++ closing ∷ []) ++ rest)) h
    ∙ then_is (take (opening ∷ (xs ++ closing ∷ []) ++ rest)) (λ a. inner >>= (λ y. expect w.Close >> pure (group_of a y))) opening ((xs ++ closing ∷ []) ++ rest) (takes opening ((xs ++ closing ∷ []) ++ rest))
    ∙ then_is (inner ((xs ++ closing ∷ []) ++ rest)) (λ y. expect w.Close >> pure (group_of opening y)) e behind (ap inner same ∙ read n behind (omega (arith, j, same_length)) (word_stops w.Close behind i (λ z. cc) (λ z. cc) (λ z. cc) refl))
    ∙ then_is (expect w.Close behind) (λ _. pure (group_of opening e)) closing rest (expects w.Close closing rest i)

pub object_read : (source : List ℕ) (new name opening closing : Lexeme) → new.word ≡ w.New → opening.word ≡ w.Open → closing.word ≡ w.Close → PrimaryIsRead source (object_of source new name) (new ∷ name ∷ opening ∷ closing ∷ [])
unfolding primary_on made new_object
object_read source new name opening closing h i j n rest k l =
    let inner = expression source n in
    ap (λ v. primary_on source inner v (new ∷ name ∷ opening ∷ closing ∷ rest)) h
    ∙ then_is (take (new ∷ name ∷ opening ∷ closing ∷ rest)) (λ a. take >>= (λ x. by_test (sees w.Open) (new_object source a x) (new_array source inner a x))) new (name ∷ opening ∷ closing ∷ rest) (takes new (name ∷ opening ∷ closing ∷ rest))
    ∙ then_is (take (name ∷ opening ∷ closing ∷ rest)) (λ x. by_test (sees w.Open) (new_object source new x) (new_array source inner new x)) name (opening ∷ closing ∷ rest) (takes name (opening ∷ closing ∷ rest))
    ∙ test_holds (sees w.Open) (new_object source new name) (new_array source inner new name) (opening ∷ closing ∷ rest) (sees_it w.Open (opening ∷ closing ∷ rest) i)
    ∙ then_is (take (opening ∷ closing ∷ rest)) (λ _. expect w.Close >> pure (object_of source new name)) opening (closing ∷ rest) (takes opening (closing ∷ rest))
    ∙ then_is (expect w.Close (closing ∷ rest)) (λ _. pure (object_of source new name)) closing rest (expects w.Close closing rest j)

pub array_read : (source : List ℕ) (new base opening closing : Lexeme) (size : Expr) (xs : List Lexeme) → new.word ≡ w.New → opening.word ≡ w.OpenBracket → closing.word ≡ w.CloseBracket → WholeIsRead source size xs → PrimaryIsRead source (array_of source new base size) (new ∷ base ∷ opening ∷ xs ++ closing ∷ [])
unfolding primary_on made new_array
array_read source new base opening closing size xs h i j read n rest k l =
    let inner = expression source n in
    let behind : List Lexeme = closing ∷ rest in
    let sized : List Lexeme = (xs ++ closing ∷ []) ++ rest in
    let same : (xs ++ closing ∷ []) ++ rest ≡ xs ++ behind = append_assoc xs (closing ∷ []) rest in
    let same_length : length ((xs ++ closing ∷ []) ++ rest) ≡ length (xs ++ behind) = ap length same in
    ap (λ v. primary_on source inner v (new ∷ base ∷ opening ∷ sized)) h
    ∙ then_is (take (new ∷ base ∷ opening ∷ sized)) (λ a. take >>= (λ x. by_test (sees w.Open) (new_object source a x) (new_array source inner a x))) new (base ∷ opening ∷ sized) (takes new (base ∷ opening ∷ sized))
    ∙ then_is (take (base ∷ opening ∷ sized)) (λ x. by_test (sees w.Open) (new_object source new x) (new_array source inner new x)) base (opening ∷ sized) (takes base (opening ∷ sized))
    ∙ test_fails (sees w.Open) (new_object source new base) (new_array source inner new base) (opening ∷ sized) (not_open opening.word (λ z. cc))
    ∙ then_is (expect w.OpenBracket (opening ∷ sized)) (λ _. inner >>= (λ y. expect w.CloseBracket >> pure (array_of source new base y))) opening sized (expects w.OpenBracket opening sized i)
    ∙ then_is (inner sized) (λ y. expect w.CloseBracket >> pure (array_of source new base y)) size behind (ap inner same ∙ read n behind (omega (arith, k, same_length)) (word_stops w.CloseBracket behind j (λ z. cc) (λ z. cc) (λ z. cc) refl))
    ∙ then_is (expect w.CloseBracket behind) (λ _. pure (array_of source new base size)) closing rest (expects w.CloseBracket closing rest j)
