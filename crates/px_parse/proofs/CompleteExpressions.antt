-- What spells an expression is read.
use Rattle.std.proofs.Common.{◌≡◌, ℕ, suc, ◌<◌, List, ◌++◌, Some, length, ◌∙◌, arith}
use Rattle.px_words.specs.declared.lexeme.Lexeme.{Lexeme}
use Rattle.px_tree.specs.declared.Expr.{Expr}
use Rattle.px_parse.specs.Grammar as g
use Rattle.px_parse.specs.Grammar.{Ending, SpellsExpression, SpellsOperand, SpellsPostfix, SpellsArguments, SpellsMoreArguments}
use Rattle.px_parse.specs.Reading.{expression, value, place}
use Rattle.px_parse.proofs.Endings.{postfixes_end}
pub use Rattle.px_parse.proofs.Endings.{StopsPostfix, Stops, word_stops}
pub use Rattle.px_parse.proofs.FirstWords.{begins_postfix, begins_expression, FrontIs, postfix_begins, expression_begins, postfix_front, expression_front}
use Rattle.px_parse.proofs.CompleteOperands.{PostfixIsRead, OperandIsRead, ExpressionIsRead, whole_read, prefix_read, cast_read, operand_read, single_read, binary_read}
use Rattle.px_parse.proofs.CompletePrimaries.{primary_read, number_read, text_read, word_read, variable_read, group_read, object_read, array_read}
use Rattle.px_parse.proofs.CompletePostfixes.{ArgumentsAreRead, MoreAreRead, no_more_read, more_read, no_argument_read, arguments_read, own_call_read, field_read, call_read, element_read}

mutual
  of_expression : (source : List ℕ) (k : ℕ) (e : Expr) (xs : List Lexeme) → SpellsExpression source k e xs → ExpressionIsRead source k e xs
  of_expression source _ e xs (g.SpellsExpression.operand s) = single_read source e xs (of_operand source e xs s)
  of_expression source _ _ _ (g.SpellsExpression.binary at op k m l r ls rs h i j s t) =
      binary_read source at op k m l r ls rs h i j (of_expression source k l ls s) (of_expression source m r rs t)

  of_operand : (source : List ℕ) (e : Expr) (xs : List Lexeme) → SpellsOperand source e xs → OperandIsRead source e xs
  of_operand source _ _ (g.SpellsOperand.prefix x op e xs h s) = prefix_read source x op e xs h (of_operand source e xs s)
  of_operand source _ _ (g.SpellsOperand.cast opening x closing op e xs h i j s) = cast_read source opening x closing op e xs h i j (of_operand source e xs s)
  of_operand source e xs (g.SpellsOperand.postfix ending s) = operand_read source ending e xs s (of_postfix source ending e xs s)

  of_postfix : (source : List ℕ) (ending : Ending) (e : Expr) (xs : List Lexeme) → SpellsPostfix source ending e xs → PostfixIsRead source e xs
  of_postfix source _ e xs (g.SpellsPostfix.number x h) = primary_read source e xs (number_read source x h)
  of_postfix source _ e xs (g.SpellsPostfix.text x h) = primary_read source e xs (text_read source x h)
  of_postfix source _ e xs (g.SpellsPostfix.word x form h) = primary_read source e xs (word_read source x form h)
  of_postfix source _ e xs (g.SpellsPostfix.variable x h) = primary_read source e xs (variable_read source x h)
  of_postfix source _ e xs (g.SpellsPostfix.own_call x args ys h s) = primary_read source e xs (own_call_read source x args ys h s (of_arguments source args ys s))
  of_postfix source _ e xs (g.SpellsPostfix.group opening closing k inner ys h i s) =
      primary_read source e xs (group_read source opening closing inner ys h i (whole_read source k inner ys s (of_expression source k inner ys s)))
  of_postfix source _ e xs (g.SpellsPostfix.object made name opening closing h i j k) = primary_read source e xs (object_read source made name opening closing h j k)
  of_postfix source _ e xs (g.SpellsPostfix.array made base opening closing k size ys h i j l s) =
      primary_read source e xs (array_read source made base opening closing size ys h j l (whole_read source k size ys s (of_expression source k size ys s)))
  of_postfix source _ _ _ (g.SpellsPostfix.field ending of xs dot name h i s) = field_read source of xs dot name h (of_postfix source ending of xs s)
  of_postfix source _ _ _ (g.SpellsPostfix.call ending of args xs ys dot name h i s t) =
      call_read source of args xs ys dot name h t (of_postfix source ending of xs s) (of_arguments source args ys t)
  of_postfix source _ _ _ (g.SpellsPostfix.element ending of index k xs ys opening closing h i j s t) =
      element_read source of index xs ys opening closing i j (of_postfix source ending of xs s) (whole_read source k index ys t (of_expression source k index ys t))

  of_arguments : (source : List ℕ) (es : List Expr) (xs : List Lexeme) → SpellsArguments source es xs → ArgumentsAreRead source es xs
  of_arguments source _ _ (g.SpellsArguments.no_argument opening closing h i) = no_argument_read source opening closing h i
  of_arguments source _ _ (g.SpellsArguments.arguments opening closing k e es xs ys h i s t) =
      arguments_read source opening closing k e es xs ys h i s t (whole_read source k e xs s (of_expression source k e xs s)) (of_more source es ys t)

  of_more : (source : List ℕ) (es : List Expr) (ys : List Lexeme) → SpellsMoreArguments source es ys → MoreAreRead source es ys
  of_more source _ _ g.SpellsMoreArguments.no_more = no_more_read source
  of_more source _ _ (g.SpellsMoreArguments.more comma k e es xs ys h s t) =
      more_read source comma e es xs ys h t (whole_read source k e xs s (of_expression source k e xs s)) (of_more source es ys t)

-- ---- expressions and places

pub expression_read : (source : List ℕ) (k n : ℕ) (e : Expr) (xs rest : List Lexeme) → SpellsExpression source k e xs → length (xs ++ rest) < n → Stops rest → expression source n (xs ++ rest) ≡ Some (e, rest)
expression_read source k n e xs rest spells h stops = whole_read source k e xs spells (of_expression source k e xs spells) n rest h stops

pub value_read : (source : List ℕ) (k : ℕ) (e : Expr) (xs rest : List Lexeme) → SpellsExpression source k e xs → Stops rest → value source (xs ++ rest) ≡ Some (e, rest)
value_read source k e xs rest spells stops = expression_read source k (suc (length (xs ++ rest))) e xs rest spells (omega arith) stops

pub place_read : (source : List ℕ) (ending : Ending) (e : Expr) (xs rest : List Lexeme) → SpellsPostfix source ending e xs → StopsPostfix rest → place source (xs ++ rest) ≡ Some (e, rest)
place_read source ending e xs rest spells stops =
    let n = suc (length (xs ++ rest)) in
    let t = of_postfix source ending e xs spells n n rest (omega arith) (omega arith) stops.no_open in
    t.2 ∙ postfixes_end source (expression source n) t.0 e rest t.1 stops
