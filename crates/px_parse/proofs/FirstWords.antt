-- Steps of reading, and the words that expressions begin with.
use Rattle.std.proofs.Common.{◌≡◌, ℕ, ◌&&◌, ◌||◌, Bool, true, false, if◌then◌else◌, List, [], ◌∷◌, ◌++◌, Some, None, refl, sym, ap, ◌∙◌, append_assoc, append-nil}
use Rattle.px_words.specs.declared.lexeme.Lexeme.{Lexeme}
use Rattle.px_words.specs.declared.lexeme.Word.{Word}
use Rattle.px_words.specs.declared.lexeme.Word.TheVariants as w
use Rattle.px_tree.specs.declared.Sign.{Sign}
use Rattle.px_tree.specs.declared.Expr.{Expr}
use Rattle.px_tree.specs.declared.ExprForm.{ExprForm}
use Rattle.px_words.specs.Lexemes.{is_name}
use Rattle.px_words.specs.Words.{prefix_sign, cast_sign, cast_to}
use Rattle.px_parse.specs.Trees.{word_form}
use Rattle.px_parse.specs.Grammar as g
use Rattle.px_parse.specs.Grammar.{Ending, SpellsExpression, SpellsOperand, SpellsPostfix, SpellsArguments, SpellsMoreArguments}
use Rattle.px_parse.specs.Reading.{State, Read, Reads, and_then, same_word, next_word, word_ahead, by_test, take, expect, sees, is_cast}

-- ---- steps

pub then_is : {A B : Type 0} (r : Read A) (f : A → Reads B) (x : A) (s : State) → r ≡ Some (x, s) → and_then r f ≡ f x s
then_is r f x s h = ap (λ (z : Read _). and_then z f) h

pub same_itself : (x : Word) → same_word x x ≡ true
unfolding same_word
same_itself w.Class = refl
same_itself _ = refl

pub takes : (x : Lexeme) (xs : List Lexeme) → take (x ∷ xs) ≡ Some (x, xs)
unfolding take
takes x xs = refl

pub expects : (word : Word) (x : Lexeme) (xs : List Lexeme) → x.word ≡ word → expect word (x ∷ xs) ≡ Some (x, xs)
unfolding expect
expects word x xs h =
    let t : same_word x.word word ≡ true = ap (λ v. same_word v word) h ∙ same_itself word in
    ap (λ b. let a : Read Lexeme = if b then Some (x, xs) else None in a) t

pub sees_it : (word : Word) (s : State) → next_word s ≡ word → sees word s ≡ true
sees_it word s h = ap (λ v. same_word v word) h ∙ same_itself word

pub test_holds : {A : Type 0} (test : State → Bool) (one other : Reads A) (s : State) → test s ≡ true → by_test test one other s ≡ one s
test_holds test one other s h = ap (λ b. if b then one s else other s) h

pub test_fails : {A : Type 0} (test : State → Bool) (one other : Reads A) (s : State) → test s ≡ false → by_test test one other s ≡ other s
test_fails test one other s h = ap (λ b. if b then one s else other s) h

pub not_open : (x : Word) → (x ≡ w.Open → ⊥) → same_word x w.Open ≡ false
unfolding same_word
not_open w.Open h = absurd (h refl)
not_open _ h = refl

-- ---- first words

-- the first word of a postfix
abbrev pub begins_postfix : Word → Bool
begins_postfix w.Number = true
begins_postfix w.Text = true
begins_postfix w.True = true
begins_postfix w.False = true
begins_postfix w.Null = true
begins_postfix w.This = true
begins_postfix w.Open = true
begins_postfix w.New = true
begins_postfix word = is_name word

-- the first word of an expression
abbrev pub begins_expression : Word → Bool
begins_expression w.Minus = true
begins_expression w.Not = true
begins_expression w.Inv = true
begins_expression word = begins_postfix word

pub name_begins : (x : Word) → is_name x ≡ true → begins_postfix x ≡ true
name_begins w.Number h = refl
name_begins w.Text h = refl
name_begins w.True h = refl
name_begins w.False h = refl
name_begins w.Null h = refl
name_begins w.This h = refl
name_begins w.Open h = refl
name_begins w.New h = refl
name_begins _ h = h

form_begins : (x : Word) (form : ExprForm) → word_form x ≡ Some form → begins_postfix x ≡ true
form_begins w.True form h = refl
form_begins w.False form h = refl
form_begins w.Null form h = refl
form_begins w.This form h = refl
form_begins _ form h = cc

prefix_begins : (x : Word) (op : Sign) → prefix_sign x ≡ Some op → begins_expression x ≡ true
prefix_begins w.Minus op h = refl
prefix_begins w.Not op h = refl
prefix_begins w.Inv op h = refl
prefix_begins _ op h = cc

pub postfix_is_expression : (x : Word) → begins_postfix x ≡ true → begins_expression x ≡ true
postfix_is_expression w.Minus h = refl
postfix_is_expression w.Not h = refl
postfix_is_expression w.Inv h = refl
postfix_is_expression _ h = h

pub postfix_has_no_prefix : (x : Word) → begins_postfix x ≡ true → prefix_sign x ≡ None
postfix_has_no_prefix w.Minus h = cc
postfix_has_no_prefix w.Not h = cc
postfix_has_no_prefix w.Inv h = cc
postfix_has_no_prefix _ h = refl

pub no_type_begins : (x : Word) → begins_expression x ≡ true → (same_word x w.Int || same_word x w.Long) ≡ false
unfolding same_word
no_type_begins w.Int h = cc
no_type_begins w.Long h = cc
no_type_begins _ h = refl

pub no_close_begins : (x : Word) → begins_expression x ≡ true → same_word x w.Close ≡ false
unfolding same_word
no_close_begins w.Close h = cc
no_close_begins _ h = refl

-- an index in brackets behind a front
pub index_behind : (xs ys rest : List Lexeme) (opening closing : Lexeme) → ((xs ++ opening ∷ ys) ++ closing ∷ []) ++ rest ≡ xs ++ (opening ∷ (ys ++ closing ∷ rest))
index_behind xs ys rest opening closing = append_assoc (xs ++ opening ∷ ys) (closing ∷ []) rest ∙ append_assoc xs (opening ∷ ys) (closing ∷ rest)

pub postfix_begins : (source : List ℕ) (ending : Ending) (e : Expr) (xs rest : List Lexeme) → SpellsPostfix source ending e xs → begins_postfix (next_word (xs ++ rest)) ≡ true
postfix_begins source _ _ _ rest (g.SpellsPostfix.number x h) = ap begins_postfix h
postfix_begins source _ _ _ rest (g.SpellsPostfix.text x h) = ap begins_postfix h
postfix_begins source _ _ _ rest (g.SpellsPostfix.word x form h) = form_begins x.word form h
postfix_begins source _ _ _ rest (g.SpellsPostfix.variable x h) = name_begins x.word h
postfix_begins source _ _ _ rest (g.SpellsPostfix.own_call x args xs h s) = name_begins x.word h
postfix_begins source _ _ _ rest (g.SpellsPostfix.group opening closing k inner xs h i s) = ap begins_postfix h
postfix_begins source _ _ _ rest (g.SpellsPostfix.object made name opening closing h i j k) = ap begins_postfix h
postfix_begins source _ _ _ rest (g.SpellsPostfix.array made base opening closing k size xs h i j l s) = ap begins_postfix h
postfix_begins source _ _ _ rest (g.SpellsPostfix.field ending of xs dot name h i s) =
    ap (λ (zs : List Lexeme). begins_postfix (next_word zs)) (append_assoc xs (dot ∷ name ∷ []) rest) ∙ postfix_begins source ending of xs (dot ∷ name ∷ rest) s
postfix_begins source _ _ _ rest (g.SpellsPostfix.call ending of args xs ys dot name h i s t) =
    ap (λ (zs : List Lexeme). begins_postfix (next_word zs)) (append_assoc xs (dot ∷ name ∷ ys) rest) ∙ postfix_begins source ending of xs (dot ∷ name ∷ ys ++ rest) s
postfix_begins source _ _ _ rest (g.SpellsPostfix.element ending of index k xs ys opening closing h i j s t) =
    ap (λ (zs : List Lexeme). begins_postfix (next_word zs)) (index_behind xs ys rest opening closing) ∙ postfix_begins source ending of xs (opening ∷ (ys ++ closing ∷ rest)) s

pub operand_begins : (source : List ℕ) (e : Expr) (xs rest : List Lexeme) → SpellsOperand source e xs → begins_expression (next_word (xs ++ rest)) ≡ true
operand_begins source _ _ rest (g.SpellsOperand.prefix x op e xs h s) = prefix_begins x.word op h
operand_begins source _ _ rest (g.SpellsOperand.cast opening x closing op e xs h i j s) = ap begins_expression h
operand_begins source e xs rest (g.SpellsOperand.postfix ending s) = postfix_is_expression (next_word (xs ++ rest)) (postfix_begins source ending e xs rest s)

pub expression_begins : (source : List ℕ) (k : ℕ) (e : Expr) (xs rest : List Lexeme) → SpellsExpression source k e xs → begins_expression (next_word (xs ++ rest)) ≡ true
expression_begins source _ e xs rest (g.SpellsExpression.operand s) = operand_begins source e xs rest s
expression_begins source _ _ _ rest (g.SpellsExpression.binary at op k m l r ls rs h i j s t) =
    ap (λ (zs : List Lexeme). begins_expression (next_word zs)) (append_assoc ls (at ∷ rs) rest) ∙ expression_begins source k l ls (at ∷ rs ++ rest) s

-- ---- lists that aren't empty

-- a first lexeme whose word passes a test, and others
abbrev pub FrontIs : (Word → Bool) → List Lexeme → Type 0
FrontIs begins xs = (x : Lexeme) × (ys : List Lexeme) × (xs ≡ x ∷ ys) × (begins x.word ≡ true)

front_is : (begins : Word → Bool) (xs : List Lexeme) → begins w.End ≡ false → begins (next_word xs) ≡ true → FrontIs begins xs
front_is begins [] h i = cc
front_is begins (x ∷ xs) h i = (x, xs, refl, i)

pub postfix_front : (source : List ℕ) (ending : Ending) (e : Expr) (xs : List Lexeme) → SpellsPostfix source ending e xs → FrontIs begins_postfix xs
postfix_front source ending e xs s =
    front_is begins_postfix xs refl (ap (λ (zs : List Lexeme). begins_postfix (next_word zs)) (sym (append-nil xs)) ∙ postfix_begins source ending e xs [] s)

pub expression_front : (source : List ℕ) (k : ℕ) (e : Expr) (xs : List Lexeme) → SpellsExpression source k e xs → FrontIs begins_expression xs
expression_front source k e xs s =
    front_is begins_expression xs refl (ap (λ (zs : List Lexeme). begins_expression (next_word zs)) (sym (append-nil xs)) ∙ expression_begins source k e xs [] s)

-- ---- casts

no_cast_without : (s : State) → (next_word s ≡ w.Open → ⊥) → is_cast s ≡ false
no_cast_without s h = ap (λ b. b && (same_word (word_ahead 1 s) w.Int || same_word (word_ahead 1 s) w.Long)) (not_open (next_word s) h)

name_is_not_open : (x : Word) → is_name x ≡ true → x ≡ w.Open → ⊥
name_is_not_open x h i = let t : is_name x ≡ false = ap is_name i in cc

form_is_not_open : (x : Word) (form : ExprForm) → word_form x ≡ Some form → x ≡ w.Open → ⊥
form_is_not_open x form h i = let t : word_form x ≡ None = ap word_form i in cc

-- an expression in parentheses is no cast
pub group_is_no_cast : (opening : Lexeme) (s : State) → opening.word ≡ w.Open → begins_expression (next_word s) ≡ true → is_cast (opening ∷ s) ≡ false
group_is_no_cast opening s h i =
    ap (λ b. b && (same_word (next_word s) w.Int || same_word (next_word s) w.Long)) (sees_it w.Open (opening ∷ s) h) ∙ no_type_begins (next_word s) i

pub postfix_is_no_cast : (source : List ℕ) (ending : Ending) (e : Expr) (xs rest : List Lexeme) → SpellsPostfix source ending e xs → is_cast (xs ++ rest) ≡ false
postfix_is_no_cast source _ _ _ rest (g.SpellsPostfix.number x h) = no_cast_without (x ∷ rest) (λ z. cc)
postfix_is_no_cast source _ _ _ rest (g.SpellsPostfix.text x h) = no_cast_without (x ∷ rest) (λ z. cc)
postfix_is_no_cast source _ _ _ rest (g.SpellsPostfix.word x form h) = no_cast_without (x ∷ rest) (form_is_not_open x.word form h)
postfix_is_no_cast source _ _ _ rest (g.SpellsPostfix.variable x h) = no_cast_without (x ∷ rest) (name_is_not_open x.word h)
postfix_is_no_cast source _ _ _ rest (g.SpellsPostfix.own_call x args xs h s) = no_cast_without (x ∷ xs ++ rest) (name_is_not_open x.word h)
postfix_is_no_cast source _ _ _ rest (g.SpellsPostfix.group opening closing k inner xs h i s) =
    group_is_no_cast opening ((xs ++ closing ∷ []) ++ rest) h (ap (λ (zs : List Lexeme). begins_expression (next_word zs)) (append_assoc xs (closing ∷ []) rest) ∙ expression_begins source k inner xs (closing ∷ rest) s)
postfix_is_no_cast source _ _ _ rest (g.SpellsPostfix.object made name opening closing h i j k) = no_cast_without (made ∷ name ∷ opening ∷ closing ∷ rest) (λ z. cc)
postfix_is_no_cast source _ _ _ rest (g.SpellsPostfix.array made base opening closing k size xs h i j l s) = no_cast_without (made ∷ base ∷ opening ∷ (xs ++ closing ∷ []) ++ rest) (λ z. cc)
postfix_is_no_cast source _ _ _ rest (g.SpellsPostfix.field ending of xs dot name h i s) =
    ap is_cast (append_assoc xs (dot ∷ name ∷ []) rest) ∙ postfix_is_no_cast source ending of xs (dot ∷ name ∷ rest) s
postfix_is_no_cast source _ _ _ rest (g.SpellsPostfix.call ending of args xs ys dot name h i s t) =
    ap is_cast (append_assoc xs (dot ∷ name ∷ ys) rest) ∙ postfix_is_no_cast source ending of xs (dot ∷ name ∷ ys ++ rest) s
postfix_is_no_cast source _ _ _ rest (g.SpellsPostfix.element ending of index k xs ys opening closing h i j s t) =
    ap is_cast (index_behind xs ys rest opening closing) ∙ postfix_is_no_cast source ending of xs (opening ∷ (ys ++ closing ∷ rest)) s

pub cast_is : (x : Word) (op : Sign) → cast_sign x ≡ Some op → ((same_word x w.Int || same_word x w.Long) ≡ true) × (cast_to x ≡ op)
unfolding same_word
cast_is w.Int op h = (refl, cc)
cast_is w.Long op h = (refl, cc)
cast_is _ op h = cc

pub sees_cast : (opening x : Lexeme) (s : State) (op : Sign) → opening.word ≡ w.Open → cast_sign x.word ≡ Some op → is_cast (opening ∷ x ∷ s) ≡ true
sees_cast opening x s op h i = ap (λ b. b && (same_word x.word w.Int || same_word x.word w.Long)) (sees_it w.Open (opening ∷ x ∷ s) h) ∙ (cast_is x.word op i).0
