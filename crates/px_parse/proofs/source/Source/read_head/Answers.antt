use Rattle.std.proofs.Common.{◌∙◌, ap}
use Rattle.px_parse.specs.Reading.{Reads}
use Rattle.px_tree.specs.declared.Expr.{Expr}
use Rattle.px_parse.proofs.Leading.{leads_as, other_primary}
use Rattle.px_parse.proofs.source.Source.read_head.Goals as goal

pub returns-in_default : goal.returns-in_default
returns-in_default c =
    record {
      leads = λ inner.
          leads_as _ _ c.read_worded.result _
          (ap (λ (p : Reads Expr). p c.args.tokens.now.left.now)
          (other_primary c.args.self.now.bytes.now inner _ (λ e. c.in_default.not-Number (c.peek.ensures ∙ e)) (λ e. c.in_default.not-Text (c.peek.ensures ∙ e)) (λ e. c.in_default.not-Open (c.peek.ensures ∙ e)) (λ e. c.in_default.not-New (c.peek.ensures ∙ e))))
          (c.read_worded.ensures.leads inner);
      fewer = c.read_worded.ensures.fewer;
    }
