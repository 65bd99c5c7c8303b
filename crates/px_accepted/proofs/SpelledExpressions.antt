-- An expression has no more parts than its text has tokens.
use Rattle.std.proofs.Common.{◌≡◌, ◌≤◌, ℕ, ◌+◌, List, [], ◌∷◌, ◌++◌, length, length-append, map, Some, None, refl, sym, ap, ◌∙◌, subst, arith}
use Rattle.px_words.specs.declared.lexeme.Lexeme.{Lexeme}
use Rattle.px_words.specs.declared.lexeme.Word.{Word}
use Rattle.px_words.specs.declared.lexeme.Word.TheVariants as w
use Rattle.px_parse.specs.Trees.{base_of, word_form, expression_of, name_of, number_of, text_of, variable_of, object_of}
use Rattle.px_parse.specs.Grammar.{Ending, SpellsExpression, SpellsOperand, SpellsPostfix, SpellsArguments, SpellsMoreArguments}
use Rattle.px_tree.specs.declared.Sign.{Sign}
use Rattle.px_tree.specs.declared.Base.{Base}
use Rattle.px_tree.specs.declared.Name.{Name as NameData}
use Rattle.px_tree.specs.declared.Expr.{Expr}
use Rattle.px_tree.specs.declared.ExprForm.{ExprForm, ExprForm-F, fold-ExprForm, roll-ExprForm, map-ExprForm}
use Rattle.px_tree.specs.declared.ExprForm.TheVariants as e
use Rattle.px_tree.specs.declared.ExprForm.TheOpen.{ExprForm-F as f}
use Rattle.px_tree.specs.Numbering.{Numbering, pure, in_order, numbered_expression, numbered_expression_form}
use Rattle.px_tree.proofs.Numbers.{numbered_expression_is, of_number, of_text, of_true, of_false, of_null, of_this, of_name, of_group, of_field, of_index, of_call, of_object, of_array, of_prefix, of_binary}
use Rattle.px_soundness.proofs.Clean.{some_is}
use Rattle.px_typed_code.specs.Sizes.{total, inner, with_itself, expressions}
use Rattle.px_typed_code.proofs.Few.{parts_at}

abbrev form_parts : ExprForm → ℕ
form_parts = fold-ExprForm ℕ ℕ inner with_itself

-- once it is numbered it has at most so many
abbrev pub Sized : Expr → ℕ → Type 0
Sized x k = (n : ℕ) → expressions (numbered_expression x n).0 ≤ k

abbrev pub AreSized : List Expr → ℕ → Type 0
AreSized xs k = (n : ℕ) → total (map expressions (in_order (map numbered_expression xs) n).0) ≤ k

sized_at : (x : Expr) (n : ℕ) (how : Numbering ExprForm) (y : ExprForm-F ExprForm Expr) → numbered_expression_form x.form ≡ how → (how (n + 1)).0 ≡ roll-ExprForm y → expressions (numbered_expression x n).0 ≡ 1 + inner (map-ExprForm ExprForm Expr ℕ ℕ form_parts expressions y)
sized_at x n how y h k =
    parts_at (numbered_expression x n).0 y
    (ap (λ (p : Numbering Expr). (p n).0.form) (numbered_expression_is x) ∙ ap (λ (p : Numbering ExprForm). (p (n + 1)).0) h ∙ k)

fits : (x : Expr) (k m : ℕ) → Sized x k → k ≤ m → Sized x m
fits x k m h l n = omega (arith, h n, l)

all_fit : (xs : List Expr) (k m : ℕ) → AreSized xs k → k ≤ m → AreSized xs m
all_fit xs k m h l n = omega (arith, h n, l)

-- ---- what has no parts

leaf : (x : Expr) (y : ExprForm-F ExprForm Expr) → x.form ≡ roll-ExprForm y → numbered_expression_form (roll-ExprForm y) ≡ pure (roll-ExprForm y) → inner (map-ExprForm ExprForm Expr ℕ ℕ form_parts expressions y) ≡ 0 → Sized x 1
leaf x y h how none n = omega (arith, sized_at x n (pure (roll-ExprForm y)) y (ap numbered_expression_form h ∙ how) refl, none)

leaf_by : (token : ℕ) (form told : ExprForm) → told ≡ form → (y : ExprForm-F ExprForm Expr) → roll-ExprForm y ≡ told → numbered_expression_form told ≡ pure told → inner (map-ExprForm ExprForm Expr ℕ ℕ form_parts expressions y) ≡ 0 → Sized (expression_of token form) 1
leaf_by token form told q y r how none = leaf (expression_of token form) y (sym q ∙ sym r) (subst (λ (k : ExprForm). numbered_expression_form k ≡ pure k) (sym r) how) none

word_sized : (x : Word) (token : ℕ) (form : ExprForm) → word_form x ≡ Some form → Sized (expression_of token form) 1
word_sized w.Public token form h n = absurd (cc h)
word_sized w.Private token form h n = absurd (cc h)
word_sized w.Class token form h n = absurd (cc h)
word_sized w.Int token form h n = absurd (cc h)
word_sized w.Long token form h n = absurd (cc h)
word_sized w.Boolean token form h n = absurd (cc h)
word_sized w.Void token form h n = absurd (cc h)
word_sized w.Throws token form h n = absurd (cc h)
word_sized w.If token form h n = absurd (cc h)
word_sized w.Else token form h n = absurd (cc h)
word_sized w.While token form h n = absurd (cc h)
word_sized w.For token form h n = absurd (cc h)
word_sized w.Return token form h n = absurd (cc h)
word_sized w.New token form h n = absurd (cc h)
word_sized w.This token form h n = leaf_by token form e.This (some_is h) f.This e.rolls-This of_this refl n
word_sized w.True token form h n = leaf_by token form e.True (some_is h) f.True e.rolls-True of_true refl n
word_sized w.False token form h n = leaf_by token form e.False (some_is h) f.False e.rolls-False of_false refl n
word_sized w.Null token form h n = leaf_by token form e.Null (some_is h) f.Null e.rolls-Null of_null refl n
word_sized w.Name token form h n = absurd (cc h)
word_sized w.Create token form h n = absurd (cc h)
word_sized w.Table token form h n = absurd (cc h)
word_sized w.ColumnLong token form h n = absurd (cc h)
word_sized w.ColumnText token form h n = absurd (cc h)
word_sized w.System token form h n = absurd (cc h)
word_sized w.Out token form h n = absurd (cc h)
word_sized w.Println token form h n = absurd (cc h)
word_sized w.SqlException token form h n = absurd (cc h)
word_sized w.StringType token form h n = absurd (cc h)
word_sized w.ResultSet token form h n = absurd (cc h)
word_sized w.Db token form h n = absurd (cc h)
word_sized w.Number token form h n = absurd (cc h)
word_sized w.Text token form h n = absurd (cc h)
word_sized w.OpenBrace token form h n = absurd (cc h)
word_sized w.CloseBrace token form h n = absurd (cc h)
word_sized w.Open token form h n = absurd (cc h)
word_sized w.Close token form h n = absurd (cc h)
word_sized w.OpenBracket token form h n = absurd (cc h)
word_sized w.CloseBracket token form h n = absurd (cc h)
word_sized w.Comma token form h n = absurd (cc h)
word_sized w.Semicolon token form h n = absurd (cc h)
word_sized w.Dot token form h n = absurd (cc h)
word_sized w.Assign token form h n = absurd (cc h)
word_sized w.PlusAssign token form h n = absurd (cc h)
word_sized w.MinusAssign token form h n = absurd (cc h)
word_sized w.TimesAssign token form h n = absurd (cc h)
word_sized w.OverAssign token form h n = absurd (cc h)
word_sized w.RestAssign token form h n = absurd (cc h)
word_sized w.AndAssign token form h n = absurd (cc h)
word_sized w.OrAssign token form h n = absurd (cc h)
word_sized w.XorAssign token form h n = absurd (cc h)
word_sized w.ShlAssign token form h n = absurd (cc h)
word_sized w.ShrAssign token form h n = absurd (cc h)
word_sized w.UshrAssign token form h n = absurd (cc h)
word_sized w.Increment token form h n = absurd (cc h)
word_sized w.Decrement token form h n = absurd (cc h)
word_sized w.Plus token form h n = absurd (cc h)
word_sized w.Minus token form h n = absurd (cc h)
word_sized w.Times token form h n = absurd (cc h)
word_sized w.Over token form h n = absurd (cc h)
word_sized w.Rest token form h n = absurd (cc h)
word_sized w.And token form h n = absurd (cc h)
word_sized w.Or token form h n = absurd (cc h)
word_sized w.Xor token form h n = absurd (cc h)
word_sized w.Shl token form h n = absurd (cc h)
word_sized w.Shr token form h n = absurd (cc h)
word_sized w.Ushr token form h n = absurd (cc h)
word_sized w.Less token form h n = absurd (cc h)
word_sized w.AtMost token form h n = absurd (cc h)
word_sized w.More token form h n = absurd (cc h)
word_sized w.AtLeast token form h n = absurd (cc h)
word_sized w.Equal token form h n = absurd (cc h)
word_sized w.Unequal token form h n = absurd (cc h)
word_sized w.Both token form h n = absurd (cc h)
word_sized w.Either token form h n = absurd (cc h)
word_sized w.Not token form h n = absurd (cc h)
word_sized w.Inv token form h n = absurd (cc h)
word_sized w.Unused token form h n = absurd (cc h)
word_sized w.Bad token form h n = absurd (cc h)
word_sized w.End token form h n = absurd (cc h)

-- ---- what has parts

group_sized : (token : ℕ) (x : Expr) (k : ℕ) → Sized x k → Sized (expression_of token (e.Group x)) (1 + k)
group_sized token x k d n =
    let p = numbered_expression x (n + 1) in
    omega (arith, sized_at (expression_of token (e.Group x)) n _ (f.Group p.0) (of_group x) (sym (e.rolls-Group p.0)), d (n + 1))

field_sized : (token : ℕ) (of : Expr) (name : NameData) (k : ℕ) → Sized of k → Sized (expression_of token (e.Field of name)) (1 + k)
field_sized token of name k d n =
    let p = numbered_expression of (n + 1) in
    omega (arith, sized_at (expression_of token (e.Field of name)) n _ (f.Field p.0 name) (of_field of name) (sym (e.rolls-Field p.0 name)), d (n + 1))

array_sized : (token : ℕ) (b : Base) (size : Expr) (k : ℕ) → Sized size k → Sized (expression_of token (e.NewArray b size)) (1 + k)
array_sized token b size k d n =
    let p = numbered_expression size (n + 1) in
    omega (arith, sized_at (expression_of token (e.NewArray b size)) n _ (f.NewArray b p.0) (of_array b size) (sym (e.rolls-NewArray b p.0)), d (n + 1))

prefix_sized : (token : ℕ) (s : Sign) (y : Expr) (k : ℕ) → Sized y k → Sized (expression_of token (e.Prefix s y)) (1 + k)
prefix_sized token s y k d n =
    let p = numbered_expression y (n + 1) in
    omega (arith, sized_at (expression_of token (e.Prefix s y)) n _ (f.Prefix s p.0) (of_prefix s y) (sym (e.rolls-Prefix s p.0)), d (n + 1))

index_sized : (token : ℕ) (of at : Expr) (k m : ℕ) → Sized of k → Sized at m → Sized (expression_of token (e.Index of at)) (1 + (k + m))
index_sized token of at k m d j n =
    let p = numbered_expression of (n + 1) in
    let q = numbered_expression at p.1 in
    omega (arith, sized_at (expression_of token (e.Index of at)) n _ (f.Index p.0 q.0) (of_index of at) (sym (e.rolls-Index p.0 q.0)), d (n + 1), j p.1)

binary_sized : (token : ℕ) (s : Sign) (at : ℕ) (l r : Expr) (k m : ℕ) → Sized l k → Sized r m → Sized (expression_of token (e.Binary s at l r)) (1 + (k + m))
binary_sized token s at l r k m d j n =
    let p = numbered_expression l (n + 1) in
    let q = numbered_expression r p.1 in
    omega (arith, sized_at (expression_of token (e.Binary s at l r)) n _ (f.Binary s at p.0 q.0) (of_binary s at l r) (sym (e.rolls-Binary s at p.0 q.0)), d (n + 1), j p.1)

own_call_sized : (token : ℕ) (name : NameData) (args : List Expr) (k : ℕ) → AreSized args k → Sized (expression_of token (e.Call None name args)) (1 + k)
own_call_sized token name args k d n =
    let q = in_order (map numbered_expression args) (n + 1) in
    omega (arith, sized_at (expression_of token (e.Call None name args)) n _ (f.Call None name q.0) (of_call None name args) (sym (e.rolls-Call None name q.0)), d (n + 1))

call_sized : (token : ℕ) (of : Expr) (name : NameData) (args : List Expr) (k m : ℕ) → Sized of k → AreSized args m → Sized (expression_of token (e.Call (Some of) name args)) (1 + (k + m))
call_sized token of name args k m d j n =
    let p = numbered_expression of (n + 1) in
    let q = in_order (map numbered_expression args) p.1 in
    omega (arith, sized_at (expression_of token (e.Call (Some of) name args)) n _ (f.Call (Some p.0) name q.0) (of_call (Some of) name args) (sym (e.rolls-Call (Some p.0) name q.0)), d (n + 1), j p.1)

none_sized : AreSized [] 0
none_sized n = omega arith

more_sized : (x : Expr) (xs : List Expr) (k m : ℕ) → Sized x k → AreSized xs m → AreSized (x ∷ xs) (k + m)
more_sized x xs k m d j n =
    let p = numbered_expression x n in
    omega (arith, d n, j p.1)

-- ---- by the text

number_sized : (source : List ℕ) (x : Lexeme) → Sized (number_of source x) 1
number_sized source x = leaf_by x.token _ _ refl (f.Number _ _) (e.rolls-Number _ _) (of_number _ _) refl

text_sized : (source : List ℕ) (x : Lexeme) → Sized (text_of source x) 1
text_sized source x = leaf_by x.token _ _ refl (f.Str _) (e.rolls-Str _) (of_text _) refl

variable_sized : (source : List ℕ) (x : Lexeme) → Sized (variable_of source x) 1
variable_sized source x = leaf_by x.token _ _ refl (f.Name _) (e.rolls-Name _) (of_name _) refl

object_sized : (source : List ℕ) (new name : Lexeme) → Sized (object_of source new name) 1
object_sized source new name = leaf_by new.token _ _ refl (f.NewObject _) (e.rolls-NewObject _) (of_object _) refl

mutual
  pub expression : (source : List ℕ) (k : ℕ) (x : Expr) (xs : List Lexeme) → SpellsExpression source k x xs → Sized x (length xs)
  expression source _ x xs (SpellsExpression.operand d) = operand source x xs d
  expression source _ x _ (SpellsExpression.binary at op k m l r ls rs h i j d g) =
      fits x (1 + (length ls + length rs)) (length (ls ++ at ∷ rs)) (binary_sized l.token op at.token l r (length ls) (length rs) (expression source k l ls d) (expression source m r rs g)) (omega (arith, length-append ls (at ∷ rs)))

  operand : (source : List ℕ) (x : Expr) (xs : List Lexeme) → SpellsOperand source x xs → Sized x (length xs)
  operand source z _ (SpellsOperand.prefix x op y xs h d) = fits z (1 + length xs) (length (x ∷ xs)) (prefix_sized x.token op y (length xs) (operand source y xs d)) (omega arith)
  operand source z _ (SpellsOperand.cast opening x closing op y xs h i j d) = fits z (1 + length xs) (length (opening ∷ x ∷ closing ∷ xs)) (prefix_sized opening.token op y (length xs) (operand source y xs d)) (omega arith)
  operand source x xs (SpellsOperand.postfix ending d) = postfix source ending x xs d

  pub postfix : (source : List ℕ) (ending : Ending) (x : Expr) (xs : List Lexeme) → SpellsPostfix source ending x xs → Sized x (length xs)
  postfix source _ y _ (SpellsPostfix.number x h) = number_sized source x
  postfix source _ y _ (SpellsPostfix.text x h) = text_sized source x
  postfix source _ _ _ (SpellsPostfix.word x form h) = word_sized x.word x.token form h
  postfix source _ y _ (SpellsPostfix.variable x h) = variable_sized source x
  postfix source _ z _ (SpellsPostfix.own_call x args xs h d) = fits z (1 + length xs) (length (x ∷ xs)) (own_call_sized x.token (name_of source x) args (length xs) (arguments source args xs d)) (omega arith)
  postfix source _ z _ (SpellsPostfix.group opening closing k y xs h i d) = fits z (1 + length xs) (length (opening ∷ xs ++ closing ∷ [])) (group_sized opening.token y (length xs) (expression source k y xs d)) (omega (arith, length-append (opening ∷ xs) (closing ∷ [])))
  postfix source _ z _ (SpellsPostfix.object new name opening closing h i j l) = fits z 1 4 (object_sized source new name) (omega arith)
  postfix source _ z _ (SpellsPostfix.array new b opening closing k size xs h i j l d) = fits z (1 + length xs) (length (new ∷ b ∷ opening ∷ xs ++ closing ∷ [])) (array_sized new.token (base_of source b) size (length xs) (expression source k size xs d)) (omega (arith, length-append (new ∷ b ∷ opening ∷ xs) (closing ∷ [])))
  postfix source _ z _ (SpellsPostfix.field ending of xs dot name h i d) = fits z (1 + length xs) (length (xs ++ dot ∷ name ∷ [])) (field_sized of.token of (name_of source name) (length xs) (postfix source ending of xs d)) (omega (arith, length-append xs (dot ∷ name ∷ [])))
  postfix source _ z _ (SpellsPostfix.call ending of args xs ys dot name h i d g) = fits z (1 + (length xs + length ys)) (length (xs ++ dot ∷ name ∷ ys)) (call_sized of.token of (name_of source name) args (length xs) (length ys) (postfix source ending of xs d) (arguments source args ys g)) (omega (arith, length-append xs (dot ∷ name ∷ ys)))
  postfix source _ z _ (SpellsPostfix.element ending of at k xs ys opening closing a h i d g) = fits z (1 + (length xs + length ys)) (length (xs ++ opening ∷ ys ++ closing ∷ [])) (index_sized of.token of at (length xs) (length ys) (postfix source ending of xs d) (expression source k at ys g)) (omega (arith, length-append (xs ++ opening ∷ ys) (closing ∷ []), length-append xs (opening ∷ ys)))

  arguments : (source : List ℕ) (xs : List Expr) (ls : List Lexeme) → SpellsArguments source xs ls → AreSized xs (length ls)
  arguments source _ _ (SpellsArguments.no_argument opening closing h i) = all_fit [] 0 2 none_sized (omega arith)
  arguments source _ _ (SpellsArguments.arguments opening closing k x es xs ys h i d g) = all_fit (x ∷ es) (length xs + length ys) (length (opening ∷ xs ++ (ys ++ closing ∷ []))) (more_sized x es (length xs) (length ys) (expression source k x xs d) (more_arguments source es ys g)) (omega (arith, length-append (opening ∷ xs) (ys ++ closing ∷ []), length-append ys (closing ∷ [])))

  more_arguments : (source : List ℕ) (xs : List Expr) (ls : List Lexeme) → SpellsMoreArguments source xs ls → AreSized xs (length ls)
  more_arguments source _ _ SpellsMoreArguments.no_more = none_sized
  more_arguments source _ _ (SpellsMoreArguments.more comma k x es xs ys h d g) = all_fit (x ∷ es) (length xs + length ys) (length (comma ∷ xs ++ ys)) (more_sized x es (length xs) (length ys) (expression source k x xs d) (more_arguments source es ys g)) (omega (arith, length-append (comma ∷ xs) ys))
