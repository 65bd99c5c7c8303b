use Rattle.std.proofs.Common.{sym, ◌∙◌, ap, option_to_list, length, map, min}
use Rattle.px_value.specs.declared.answer.Answer.TheVariants.{Rows, Count}
use Rattle.px_rows.specs.Tables.{rows_of}
use Rattle.px_rows.specs.Means.{selected, inserted, rows_with, first_of}
use Rattle.px_rows.proofs.Does.{answer_at}
use Rattle.px_rows.proofs.tables.Tables.answer.Goals as goal

pub returns-in_ok-cells-in-ByKey : goal.returns-in_ok-cells-in-ByKey
returns-in_ok-cells-in-ByKey c =
    c.rows_of_width.ensures
    ∙ ap (λ cells. Rows (min (length c.as_slice-columns.result.now) 255) cells) c.in_ok-cells-in-ByKey.ensures
    ∙ (λ i. selected (c.as_slice-columns.ensures i) (option_to_list (c.found.ensures i)))
    ∙ sym (answer_at c.args.op.now c.args.self.now _ c.in-ByKey.is)

pub returns-in_ok-cells-in-ByColumn : goal.returns-in_ok-cells-in-ByColumn
returns-in_ok-cells-in-ByColumn c =
    c.rows_of_width-in-ByColumn.ensures
    ∙ ap (λ cells. Rows (min (length c.as_slice-columns-in-ByColumn.result.now) 255) cells) c.in_ok-cells-in-ByColumn.ensures
    ∙ (λ i. selected (c.as_slice-columns-in-ByColumn.ensures i) (rows_with c.in-ByColumn.column (first_of c.args.op.now.params) ((ap (map (λ r. r.now)) c.as_slice.ensures.value ∙ c.in_ok-rows-in-ByColumn.ensures ∙ ap (rows_of c.args.self.now) c.from.ensures) i)))
    ∙ sym (answer_at c.args.op.now c.args.self.now _ c.in-ByColumn.is)

pub returns-in_ok-cells-in-All : goal.returns-in_ok-cells-in-All
returns-in_ok-cells-in-All c =
    c.rows_of_width-in-All.ensures
    ∙ ap (λ cells. Rows (min (length c.as_slice-columns-in-All.result.now) 255) cells) c.in_ok-cells-in-All.ensures
    ∙ (λ i. selected (c.as_slice-columns-in-All.ensures i) ((ap (map (λ r. r.now)) c.as_slice-in-All.ensures.value ∙ c.in_ok-rows-in-All.ensures ∙ ap (rows_of c.args.self.now) c.from-in-All.ensures) i))
    ∙ sym (answer_at c.args.op.now c.args.self.now _ c.in-All.is)

pub returns-in-Update : goal.returns-in-Update
returns-in-Update c =
    c.counted.ensures ∙ ap (λ r. Count (length (option_to_list r))) c.found-in-Update.ensures ∙ sym (answer_at c.args.op.now c.args.self.now _ c.in-Update.is)

pub returns-in-Insert : goal.returns-in-Insert
returns-in-Insert c =
    c.inserted.ensures ∙ ap (λ r. inserted (option_to_list r)) c.found-in-Insert.ensures ∙ sym (answer_at c.args.op.now c.args.self.now _ c.in-Insert.is)

pub returns-in-Delete : goal.returns-in-Delete
returns-in-Delete c =
    c.counted-in-Delete.ensures ∙ ap (λ r. Count (length (option_to_list r))) c.found-in-Delete.ensures ∙ sym (answer_at c.args.op.now c.args.self.now _ c.in-Delete.is)
