use Rattle.std.proofs.Common.{◌∙◌, ◌+◌, ◌<◌, suc, length, sym, ap, refl, Some, Ok, arith}
use Rattle.px_words.specs.declared.lexeme.Word.TheVariants as w
use Rattle.px_parse.specs.Reading.{and_then, expression, postfixes, operand, operators, postfix, next_argument, sees, take}
use Rattle.px_parse.specs.Heads.{behind_suffix, behind_suffixes, behind_prefix, behind_operator}
use Rattle.px_parse.specs.Trees.{binary_of}
use Rattle.px_parse.proofs.Leading.{gives_as}
use Rattle.px_parse.proofs.ReadTurns.{fails_as, fails_then, fails_behind, exits, goes_on, on_some, postfixes_by, operand_by, operators_by, expression_by, repeated_ends, argument_fails, argument_read}
use Rattle.px_parse.proofs.source.Source.+expression.Goals as goal

pub expression-returns-clause-turns : goal.expression-returns-clause-turns
expression-returns-clause-turns t c = λ n a.
    expression_by c.args.self.now.bytes.now n c.args.tokens.now.left.now c.operators.result _ a (λ k h.
    goes_on _ _ _ c.in_ok-first.first c.operand.new.tokens.left.now c.operators.result _ refl (c.in_ok-first.ensures.turns k _ h (omega arith)) (c.operators.ensures.turns k _ (omega (arith, h, c.in_ok-first.ensures.fewer)) (omega (arith, c.in_ok-first.ensures.fewer))))

pub operand-returns-in_err-prefix-clause-turns : goal.operand-returns-in_err-prefix-clause-turns
operand-returns-in_err-prefix-clause-turns t c = λ n m a b.
    operand_by c.args.self.now.bytes.now m (expression c.args.self.now.bytes.now n) c.args.tokens.now.left.now c.from_residual.result _ b (λ k h.
    fails_as c.in_err-prefix.field-0.0 _ c.from_residual.result _ c.from_residual.ensures.1 (c.in_err-prefix.ensures.leads (operand c.args.self.now.bytes.now (expression c.args.self.now.bytes.now n) k) (postfix c.args.self.now.bytes.now (expression c.args.self.now.bytes.now n) (suc k))))

pub operand-returns-in_err-value-in-Some-clause-turns : goal.operand-returns-in_err-value-in-Some-clause-turns
operand-returns-in_err-value-in-Some-clause-turns t c = λ n m a b.
    operand_by c.args.self.now.bytes.now m (expression c.args.self.now.bytes.now n) c.args.tokens.now.left.now c.from_residual-in_err-value-in-Some.result _ b (λ k h.
    exits c.in_err-value-in-Some.field-0.0 (operand c.args.self.now.bytes.now (expression c.args.self.now.bytes.now n) k c.read_prefix.new.tokens.left.now) _ _ c.from_residual-in_err-value-in-Some.result _ c.from_residual-in_err-value-in-Some.ensures.1 (c.in_err-value-in-Some.ensures.turns n k (omega (arith, a, on_some c.in_ok-prefix.field-0 c.in-Some.prefix (length c.read_prefix.new.tokens.left.now < length c.args.tokens.now.left.now) c.in-Some.is c.in_ok-prefix.ensures.fewer)) (omega (arith, h, on_some c.in_ok-prefix.field-0 c.in-Some.prefix (length c.read_prefix.new.tokens.left.now < length c.args.tokens.now.left.now) c.in-Some.is c.in_ok-prefix.ensures.fewer))) (c.in_ok-prefix.ensures.leads (operand c.args.self.now.bytes.now (expression c.args.self.now.bytes.now n) k) (postfix c.args.self.now.bytes.now (expression c.args.self.now.bytes.now n) (suc k)) ∙ ap (λ x. behind_prefix (operand c.args.self.now.bytes.now (expression c.args.self.now.bytes.now n) k) (postfix c.args.self.now.bytes.now (expression c.args.self.now.bytes.now n) (suc k)) x c.read_prefix.new.tokens.left.now) c.in-Some.is))

pub operand-returns-in_ok-prefixed-in-Some-clause-turns : goal.operand-returns-in_ok-prefixed-in-Some-clause-turns
operand-returns-in_ok-prefixed-in-Some-clause-turns t c = λ n m a b.
    operand_by c.args.self.now.bytes.now m (expression c.args.self.now.bytes.now n) c.args.tokens.now.left.now (Ok c.in_ok-prefixed-in-Some.field-0) _ b (λ k h.
    goes_on (operand c.args.self.now.bytes.now (expression c.args.self.now.bytes.now n) k c.read_prefix.new.tokens.left.now) _ _ c.in_ok-value-in-Some.value c.operand.new.tokens.left.now (Ok c.in_ok-prefixed-in-Some.field-0) _ (c.in_ok-prefix.ensures.leads (operand c.args.self.now.bytes.now (expression c.args.self.now.bytes.now n) k) (postfix c.args.self.now.bytes.now (expression c.args.self.now.bytes.now n) (suc k)) ∙ ap (λ x. behind_prefix (operand c.args.self.now.bytes.now (expression c.args.self.now.bytes.now n) k) (postfix c.args.self.now.bytes.now (expression c.args.self.now.bytes.now n) (suc k)) x c.read_prefix.new.tokens.left.now) c.in-Some.is) (c.in_ok-value-in-Some.ensures.turns n k (omega (arith, a, on_some c.in_ok-prefix.field-0 c.in-Some.prefix (length c.read_prefix.new.tokens.left.now < length c.args.tokens.now.left.now) c.in-Some.is c.in_ok-prefix.ensures.fewer)) (omega (arith, h, on_some c.in_ok-prefix.field-0 c.in-Some.prefix (length c.read_prefix.new.tokens.left.now < length c.args.tokens.now.left.now) c.in-Some.is c.in_ok-prefix.ensures.fewer))) (ap (λ e. Some (e, c.operand.new.tokens.left.now)) (sym c.in_ok-prefixed-in-Some.ensures)))

pub operand-returns-in-None-clause-turns : goal.operand-returns-in-None-clause-turns
operand-returns-in-None-clause-turns t c = λ n m a b.
    operand_by c.args.self.now.bytes.now m (expression c.args.self.now.bytes.now n) c.args.tokens.now.left.now c.postfix.result _ b (λ k h.
    gives_as _ _ c.postfix.result _ (c.in_ok-prefix.ensures.leads (operand c.args.self.now.bytes.now (expression c.args.self.now.bytes.now n) k) (postfix c.args.self.now.bytes.now (expression c.args.self.now.bytes.now n) (suc k)) ∙ ap (λ x. behind_prefix (operand c.args.self.now.bytes.now (expression c.args.self.now.bytes.now n) k) (postfix c.args.self.now.bytes.now (expression c.args.self.now.bytes.now n) (suc k)) x c.read_prefix.new.tokens.left.now) c.in-None.is) (c.postfix.ensures.turns n (suc k) (omega (arith, a, c.in_ok-prefix.ensures.left)) (omega (arith, h, c.in_ok-prefix.ensures.left))))

pub postfixes-returns-in_err-suffix-clause-turns : goal.postfixes-returns-in_err-suffix-clause-turns
postfixes-returns-in_err-suffix-clause-turns t c = λ n m a b.
    postfixes_by c.args.self.now.bytes.now m (expression c.args.self.now.bytes.now n) c.args.of c.args.tokens.now.left.now c.from_residual.result _ b (λ k h.
    fails_as c.in_err-suffix.field-0.0 _ c.from_residual.result _ c.from_residual.ensures.1 (c.in_err-suffix.ensures.leads c.args.self.now.bytes.now (expression c.args.self.now.bytes.now n) (postfixes c.args.self.now.bytes.now (expression c.args.self.now.bytes.now n) k) c.args.of))

pub postfixes-returns-in_err-longer-in-Some-clause-turns : goal.postfixes-returns-in_err-longer-in-Some-clause-turns
postfixes-returns-in_err-longer-in-Some-clause-turns t c = λ n m a b.
    postfixes_by c.args.self.now.bytes.now m (expression c.args.self.now.bytes.now n) c.args.of c.args.tokens.now.left.now c.from_residual-in_err-longer-in-Some.result _ b (λ k h.
    exits c.in_err-longer-in-Some.field-0.0 (behind_suffix c.args.self.now.bytes.now (expression c.args.self.now.bytes.now n) c.args.of c.in-Some.suffix c.read_suffix.new.tokens.left.now) (postfixes c.args.self.now.bytes.now (expression c.args.self.now.bytes.now n) k) _ c.from_residual-in_err-longer-in-Some.result _ c.from_residual-in_err-longer-in-Some.ensures.1 (c.in_err-longer-in-Some.ensures.turns n (omega (arith, a, on_some c.in_ok-suffix.field-0 c.in-Some.suffix (length c.read_suffix.new.tokens.left.now < length c.args.tokens.now.left.now) c.in-Some.is c.in_ok-suffix.ensures.fewer))) (c.in_ok-suffix.ensures.leads c.args.self.now.bytes.now (expression c.args.self.now.bytes.now n) (postfixes c.args.self.now.bytes.now (expression c.args.self.now.bytes.now n) k) c.args.of ∙ ap (λ x. behind_suffixes c.args.self.now.bytes.now (expression c.args.self.now.bytes.now n) (postfixes c.args.self.now.bytes.now (expression c.args.self.now.bytes.now n) k) c.args.of x c.read_suffix.new.tokens.left.now) c.in-Some.is))

pub postfixes-returns-in_ok-longer-in-Some-clause-turns : goal.postfixes-returns-in_ok-longer-in-Some-clause-turns
postfixes-returns-in_ok-longer-in-Some-clause-turns t c = λ n m a b.
    postfixes_by c.args.self.now.bytes.now m (expression c.args.self.now.bytes.now n) c.args.of c.args.tokens.now.left.now c.postfixes.result _ b (λ k h.
    goes_on (behind_suffix c.args.self.now.bytes.now (expression c.args.self.now.bytes.now n) c.args.of c.in-Some.suffix c.read_suffix.new.tokens.left.now) (postfixes c.args.self.now.bytes.now (expression c.args.self.now.bytes.now n) k) _ c.in_ok-longer-in-Some.longer c.suffixed.new.tokens.left.now c.postfixes.result _ (c.in_ok-suffix.ensures.leads c.args.self.now.bytes.now (expression c.args.self.now.bytes.now n) (postfixes c.args.self.now.bytes.now (expression c.args.self.now.bytes.now n) k) c.args.of ∙ ap (λ x. behind_suffixes c.args.self.now.bytes.now (expression c.args.self.now.bytes.now n) (postfixes c.args.self.now.bytes.now (expression c.args.self.now.bytes.now n) k) c.args.of x c.read_suffix.new.tokens.left.now) c.in-Some.is) (c.in_ok-longer-in-Some.ensures.turns n (omega (arith, a, on_some c.in_ok-suffix.field-0 c.in-Some.suffix (length c.read_suffix.new.tokens.left.now < length c.args.tokens.now.left.now) c.in-Some.is c.in_ok-suffix.ensures.fewer))) (c.postfixes.ensures.turns n k (omega (arith, a, c.in_ok-longer-in-Some.ensures.left, on_some c.in_ok-suffix.field-0 c.in-Some.suffix (length c.read_suffix.new.tokens.left.now < length c.args.tokens.now.left.now) c.in-Some.is c.in_ok-suffix.ensures.fewer)) (omega (arith, h, c.in_ok-longer-in-Some.ensures.left, on_some c.in_ok-suffix.field-0 c.in-Some.suffix (length c.read_suffix.new.tokens.left.now < length c.args.tokens.now.left.now) c.in-Some.is c.in_ok-suffix.ensures.fewer))))

pub postfixes-returns-in-None-clause-turns : goal.postfixes-returns-in-None-clause-turns
postfixes-returns-in-None-clause-turns t c = λ n m a b.
    postfixes_by c.args.self.now.bytes.now m (expression c.args.self.now.bytes.now n) c.args.of c.args.tokens.now.left.now (Ok c.args.of) _ b (λ k h.
    c.in_ok-suffix.ensures.leads c.args.self.now.bytes.now (expression c.args.self.now.bytes.now n) (postfixes c.args.self.now.bytes.now (expression c.args.self.now.bytes.now n) k) c.args.of ∙ ap (λ x. behind_suffixes c.args.self.now.bytes.now (expression c.args.self.now.bytes.now n) (postfixes c.args.self.now.bytes.now (expression c.args.self.now.bytes.now n) k) c.args.of x c.read_suffix.new.tokens.left.now) c.in-None.is)

pub operators-returns-in_err-operator-clause-turns : goal.operators-returns-in_err-operator-clause-turns
operators-returns-in_err-operator-clause-turns t c = λ n m a b.
    operators_by c.args.self.now.bytes.now m (expression c.args.self.now.bytes.now n) c.args.least c.args.left c.args.tokens.now.left.now c.from_residual.result _ b (λ k h.
    fails_as c.in_err-operator.field-0.0 _ c.from_residual.result _ c.from_residual.ensures.1 (c.in_err-operator.ensures.leads (operand c.args.self.now.bytes.now (expression c.args.self.now.bytes.now n) k) (operators c.args.self.now.bytes.now (expression c.args.self.now.bytes.now n) k) c.args.left))

pub operators-returns-in_err-first-in-Some-clause-turns : goal.operators-returns-in_err-first-in-Some-clause-turns
operators-returns-in_err-first-in-Some-clause-turns t c = λ n m a b.
    operators_by c.args.self.now.bytes.now m (expression c.args.self.now.bytes.now n) c.args.least c.args.left c.args.tokens.now.left.now c.from_residual-in_err-first-in-Some.result _ b (λ k h.
    exits c.in_err-first-in-Some.field-0.0 (operand c.args.self.now.bytes.now (expression c.args.self.now.bytes.now n) k c.read_operator.new.tokens.left.now) _ _ c.from_residual-in_err-first-in-Some.result _ c.from_residual-in_err-first-in-Some.ensures.1 (c.in_err-first-in-Some.ensures.turns n k (omega (arith, a, on_some c.in_ok-operator.field-0 c.in-Some.operator (length c.read_operator.new.tokens.left.now < length c.args.tokens.now.left.now) c.in-Some.is c.in_ok-operator.ensures.fewer)) (omega (arith, h, on_some c.in_ok-operator.field-0 c.in-Some.operator (length c.read_operator.new.tokens.left.now < length c.args.tokens.now.left.now) c.in-Some.is c.in_ok-operator.ensures.fewer))) (c.in_ok-operator.ensures.leads (operand c.args.self.now.bytes.now (expression c.args.self.now.bytes.now n) k) (operators c.args.self.now.bytes.now (expression c.args.self.now.bytes.now n) k) c.args.left ∙ ap (λ x. behind_operator (operand c.args.self.now.bytes.now (expression c.args.self.now.bytes.now n) k) (operators c.args.self.now.bytes.now (expression c.args.self.now.bytes.now n) k) c.args.least c.args.left x c.read_operator.new.tokens.left.now) c.in-Some.is))

pub operators-returns-in_err-right-in-Some-clause-turns : goal.operators-returns-in_err-right-in-Some-clause-turns
operators-returns-in_err-right-in-Some-clause-turns t c = λ n m a b.
    operators_by c.args.self.now.bytes.now m (expression c.args.self.now.bytes.now n) c.args.least c.args.left c.args.tokens.now.left.now c.from_residual-in_err-right-in-Some.result _ b (λ k h.
    goes_on (operand c.args.self.now.bytes.now (expression c.args.self.now.bytes.now n) k c.read_operator.new.tokens.left.now) _ _ c.in_ok-first-in-Some.first c.operand.new.tokens.left.now c.from_residual-in_err-right-in-Some.result _ (c.in_ok-operator.ensures.leads (operand c.args.self.now.bytes.now (expression c.args.self.now.bytes.now n) k) (operators c.args.self.now.bytes.now (expression c.args.self.now.bytes.now n) k) c.args.left ∙ ap (λ x. behind_operator (operand c.args.self.now.bytes.now (expression c.args.self.now.bytes.now n) k) (operators c.args.self.now.bytes.now (expression c.args.self.now.bytes.now n) k) c.args.least c.args.left x c.read_operator.new.tokens.left.now) c.in-Some.is) (c.in_ok-first-in-Some.ensures.turns n k (omega (arith, a, on_some c.in_ok-operator.field-0 c.in-Some.operator (length c.read_operator.new.tokens.left.now < length c.args.tokens.now.left.now) c.in-Some.is c.in_ok-operator.ensures.fewer)) (omega (arith, h, on_some c.in_ok-operator.field-0 c.in-Some.operator (length c.read_operator.new.tokens.left.now < length c.args.tokens.now.left.now) c.in-Some.is c.in_ok-operator.ensures.fewer)))
    (exits c.in_err-right-in-Some.field-0.0 (operators c.args.self.now.bytes.now (expression c.args.self.now.bytes.now n) k c.right_level.result c.in_ok-first-in-Some.first c.operand.new.tokens.left.now) _ _ c.from_residual-in_err-right-in-Some.result _ c.from_residual-in_err-right-in-Some.ensures.1 (c.in_err-right-in-Some.ensures.turns n k (omega (arith, a, c.in_ok-first-in-Some.ensures.fewer, on_some c.in_ok-operator.field-0 c.in-Some.operator (length c.read_operator.new.tokens.left.now < length c.args.tokens.now.left.now) c.in-Some.is c.in_ok-operator.ensures.fewer)) (omega (arith, h, c.in_ok-first-in-Some.ensures.fewer, on_some c.in_ok-operator.field-0 c.in-Some.operator (length c.read_operator.new.tokens.left.now < length c.args.tokens.now.left.now) c.in-Some.is c.in_ok-operator.ensures.fewer))) (ap (λ l. and_then (operators c.args.self.now.bytes.now (expression c.args.self.now.bytes.now n) k l c.in_ok-first-in-Some.first c.operand.new.tokens.left.now) (λ whole. operators c.args.self.now.bytes.now (expression c.args.self.now.bytes.now n) k c.args.least (binary_of c.in-Some.operator.sign c.in-Some.operator.at c.args.left whole))) (sym c.right_level.ensures))))

pub operators-returns-in_ok-both-in-Some-clause-turns : goal.operators-returns-in_ok-both-in-Some-clause-turns
operators-returns-in_ok-both-in-Some-clause-turns t c = λ n m a b.
    operators_by c.args.self.now.bytes.now m (expression c.args.self.now.bytes.now n) c.args.least c.args.left c.args.tokens.now.left.now c.operators-in-Some.result _ b (λ k h.
    goes_on (operand c.args.self.now.bytes.now (expression c.args.self.now.bytes.now n) k c.read_operator.new.tokens.left.now) _ _ c.in_ok-first-in-Some.first c.operand.new.tokens.left.now c.operators-in-Some.result _ (c.in_ok-operator.ensures.leads (operand c.args.self.now.bytes.now (expression c.args.self.now.bytes.now n) k) (operators c.args.self.now.bytes.now (expression c.args.self.now.bytes.now n) k) c.args.left ∙ ap (λ x. behind_operator (operand c.args.self.now.bytes.now (expression c.args.self.now.bytes.now n) k) (operators c.args.self.now.bytes.now (expression c.args.self.now.bytes.now n) k) c.args.least c.args.left x c.read_operator.new.tokens.left.now) c.in-Some.is) (c.in_ok-first-in-Some.ensures.turns n k (omega (arith, a, on_some c.in_ok-operator.field-0 c.in-Some.operator (length c.read_operator.new.tokens.left.now < length c.args.tokens.now.left.now) c.in-Some.is c.in_ok-operator.ensures.fewer)) (omega (arith, h, on_some c.in_ok-operator.field-0 c.in-Some.operator (length c.read_operator.new.tokens.left.now < length c.args.tokens.now.left.now) c.in-Some.is c.in_ok-operator.ensures.fewer)))
    (goes_on (operators c.args.self.now.bytes.now (expression c.args.self.now.bytes.now n) k c.right_level.result c.in_ok-first-in-Some.first c.operand.new.tokens.left.now) _ _ c.in_ok-right-in-Some.right c.operators.new.tokens.left.now c.operators-in-Some.result _ (ap (λ l. and_then (operators c.args.self.now.bytes.now (expression c.args.self.now.bytes.now n) k l c.in_ok-first-in-Some.first c.operand.new.tokens.left.now) (λ whole. operators c.args.self.now.bytes.now (expression c.args.self.now.bytes.now n) k c.args.least (binary_of c.in-Some.operator.sign c.in-Some.operator.at c.args.left whole))) (sym c.right_level.ensures)) (c.in_ok-right-in-Some.ensures.turns n k (omega (arith, a, c.in_ok-first-in-Some.ensures.fewer, on_some c.in_ok-operator.field-0 c.in-Some.operator (length c.read_operator.new.tokens.left.now < length c.args.tokens.now.left.now) c.in-Some.is c.in_ok-operator.ensures.fewer)) (omega (arith, h, c.in_ok-first-in-Some.ensures.fewer, on_some c.in_ok-operator.field-0 c.in-Some.operator (length c.read_operator.new.tokens.left.now < length c.args.tokens.now.left.now) c.in-Some.is c.in_ok-operator.ensures.fewer)))
    (gives_as _ _ c.operators-in-Some.result _ (ap (λ e. operators c.args.self.now.bytes.now (expression c.args.self.now.bytes.now n) k c.args.least e c.operators.new.tokens.left.now) (sym c.in_ok-both-in-Some.ensures)) (c.operators-in-Some.ensures.turns n k (omega (arith, a, c.in_ok-right-in-Some.ensures.left, c.in_ok-first-in-Some.ensures.fewer, on_some c.in_ok-operator.field-0 c.in-Some.operator (length c.read_operator.new.tokens.left.now < length c.args.tokens.now.left.now) c.in-Some.is c.in_ok-operator.ensures.fewer)) (omega (arith, h, c.in_ok-right-in-Some.ensures.left, c.in_ok-first-in-Some.ensures.fewer, on_some c.in_ok-operator.field-0 c.in-Some.operator (length c.read_operator.new.tokens.left.now < length c.args.tokens.now.left.now) c.in-Some.is c.in_ok-operator.ensures.fewer))))))

pub operators-returns-in-None-clause-turns : goal.operators-returns-in-None-clause-turns
operators-returns-in-None-clause-turns t c = λ n m a b.
    operators_by c.args.self.now.bytes.now m (expression c.args.self.now.bytes.now n) c.args.least c.args.left c.args.tokens.now.left.now (Ok c.args.left) _ b (λ k h.
    c.in_ok-operator.ensures.leads (operand c.args.self.now.bytes.now (expression c.args.self.now.bytes.now n) k) (operators c.args.self.now.bytes.now (expression c.args.self.now.bytes.now n) k) c.args.left ∙ ap (λ x. behind_operator (operand c.args.self.now.bytes.now (expression c.args.self.now.bytes.now n) k) (operators c.args.self.now.bytes.now (expression c.args.self.now.bytes.now n) k) c.args.least c.args.left x c.read_operator.new.tokens.left.now) c.in-None.is)

pub some_arguments-returns-in_err-take-clause-turns : goal.some_arguments-returns-in_err-take-clause-turns
some_arguments-returns-in_err-take-clause-turns t c = λ n a.
    argument_fails (expression c.args.self.now.bytes.now n) (c.loop-tokens.invariant.turns n a).0 c.loop-tokens.args c.loop-tokens.tokens.left.now _ c.in_err-take.field-0.0 c.from_residual-in_err-take.result _ (c.loop-tokens.invariant.turns n a).1 (sym c.sees.ensures ∙ c.loop-tokens-test.true) (c.loop-tokens.invariant.turns n a).2 c.from_residual-in_err-take.ensures.1 (fails_then c.in_err-take.field-0.0 (take c.loop-tokens.tokens.left.now) (λ _. expression c.args.self.now.bytes.now n) c.in_err-take.ensures.gives)

pub some_arguments-returns-in_err-expression-clause-turns : goal.some_arguments-returns-in_err-expression-clause-turns
some_arguments-returns-in_err-expression-clause-turns t c = λ n a.
    argument_fails (expression c.args.self.now.bytes.now n) (c.loop-tokens.invariant.turns n a).0 c.loop-tokens.args c.loop-tokens.tokens.left.now _ c.in_err-expression.field-0.0 c.from_residual-in_err-expression.result _ (c.loop-tokens.invariant.turns n a).1 (sym c.sees.ensures ∙ c.loop-tokens-test.true) (c.loop-tokens.invariant.turns n a).2 c.from_residual-in_err-expression.ensures.1 (fails_behind c.in_err-expression.field-0.0 (take c.loop-tokens.tokens.left.now) (λ _. expression c.args.self.now.bytes.now n) _ _ c.in_ok-take.ensures.gives (c.in_err-expression.ensures.turns n (omega (arith, a, c.loop-tokens.invariant.fewer, c.in_ok-take.ensures.fewer))))

pub some_arguments-loop-tokens-preserved : goal.some_arguments-loop-tokens-preserved
some_arguments-loop-tokens-preserved t c =
    record {
      fewer = omega (arith, c.loop-tokens.invariant.fewer, c.in_ok-take.ensures.fewer, c.in_ok-expression.ensures.fewer);
      turns = λ n a.
          argument_read (expression c.args.self.now.bytes.now n) (c.loop-tokens.invariant.turns n a).0 c.loop-tokens.args c.push-in-loop-tokens.new.self c.loop-tokens.tokens.left.now c.take.new.self.left.now c.expression-in-loop-tokens.new.tokens.left.now _ c.in_ok-take.field-0 c.in_ok-expression.field-0 (c.loop-tokens.invariant.turns n a).1 (sym c.sees.ensures ∙ c.loop-tokens-test.true) (c.loop-tokens.invariant.turns n a).2 c.in_ok-take.ensures.gives (c.in_ok-expression.ensures.turns n (omega (arith, a, c.loop-tokens.invariant.fewer, c.in_ok-take.ensures.fewer))) c.in_ok-push-2.ensures.ok (omega (arith, c.in_ok-take.ensures.fewer, c.in_ok-expression.ensures.fewer));
    }

pub some_arguments-returns-clause-turns : goal.some_arguments-returns-clause-turns
some_arguments-returns-clause-turns t c = λ n a. (c.loop-tokens.invariant.turns n a).2 ∙ repeated_ends (sees w.Comma) (next_argument (expression c.args.self.now.bytes.now n)) (c.loop-tokens.invariant.turns n a).0 c.loop-tokens.args c.loop-tokens.tokens.left.now (sym c.sees.ensures ∙ c.loop-tokens-test.false)
