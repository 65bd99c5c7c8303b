use Rattle.std.proofs.Common.{ap, sym, ◌∙◌}
use Rattle.px_sql.specs.Reading.{likely}
use Rattle.px_sql.proofs.Meanings.{untrimmed, judged, not_over, not_spelled, spelled}
use Rattle.px_sql.proofs.read.spelled_statement.Goals as goal

pub returns-then-not-is_trimmed : goal.returns-then-not-is_trimmed
returns-then-not-is_trimmed c = untrimmed c.args.schema.now c.args.text.now (sym c.is_trimmed.ensures ∙ c.if-not-is_trimmed.true)

pub returns-then-not-is_over : goal.returns-then-not-is_over
returns-then-not-is_over c =
    not_over c.args.schema.now c.as_slice.result.now c.in_ok-statement.statement (sym c.is_over.ensures ∙ c.if-not-is_over.true)
    ∙ judged c.args.schema.now c.args.text.now c.as_slice.result.now c.in_ok-statement.statement (sym c.is_trimmed.ensures ∙ c.if-not-is_trimmed.false) (c.as_slice.ensures ∙ c.in_ok-pieces.ensures) c.in_ok-statement.ensures

pub returns-then-not-branch : goal.returns-then-not-branch
returns-then-not-branch c =
    not_spelled c.args.schema.now c.as_slice-2.result.now c.in_ok-statement.statement (sym c.in_ok-spells.ensures ∙ c.if-not-branch.true)
    ∙ judged c.args.schema.now c.args.text.now c.as_slice-2.result.now c.in_ok-statement.statement (sym c.is_trimmed.ensures ∙ c.if-not-is_trimmed.false) (c.as_slice-2.ensures ∙ c.in_ok-pieces.ensures) (c.in_ok-statement.ensures ∙ ap (likely c.args.schema.now) (c.as_slice.ensures ∙ sym c.as_slice-2.ensures))

pub returns : goal.returns
returns c =
    spelled c.args.schema.now c.as_slice-2.result.now c.in_ok-statement.statement (sym c.is_over.ensures ∙ c.if-not-is_over.false) (sym c.in_ok-spells.ensures ∙ c.if-not-branch.false)
    ∙ judged c.args.schema.now c.args.text.now c.as_slice-2.result.now c.in_ok-statement.statement (sym c.is_trimmed.ensures ∙ c.if-not-is_trimmed.false) (c.as_slice-2.ensures ∙ c.in_ok-pieces.ensures) (c.in_ok-statement.ensures ∙ ap (likely c.args.schema.now) (c.as_slice.ensures ∙ sym c.as_slice-2.ensures))
