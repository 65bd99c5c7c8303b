use Rattle.std.proofs.Common.{rules, ◌≡◌, [], ◌∷◌, ◌++◌, sym, ap, ◌∙◌, append-nil, w64, to_z, of_z}
use Rattle.std.proofs.lemmas.Int.{to_z-of_z}
use Rattle.px_rows.specs.Tables.{row_at, with_row}
use Rattle.px_rows.specs.Means.{written_by, key_of}
use Rattle.px_rows.proofs.Does.{after_idle, old_idle, after_written, old_written}
use Rattle.px_rows.proofs.Left.{row_of, left_none, left_some}
use Rattle.px_rows.proofs.tables.Tables.apply.Goals as goal

pub returns-in_default-clause-ok : goal.returns-in_default-clause-ok
returns-in_default-clause-ok c =
    let o = c.args.op.now in
    after_idle o c.args.self.now (left_none _ _ (c.in_ok-left.ensures ∙ ap (written_by o.statement o.params) c.found.ensures) c.in_default.is)

pub returns-in_default-clause-undo : goal.returns-in_default-clause-undo
returns-in_default-clause-undo c =
    let o = c.args.op.now in
    sym (append-nil c.args.undo.now) ∙ ap (λ os. c.args.undo.now ++ os) (old_idle o c.args.self.now (left_none _ _ (c.in_ok-left.ensures ∙ ap (written_by o.statement o.params) c.found.ensures) c.in_default.is))

pub returns-clause-ok : goal.returns-clause-ok
returns-clause-ok c =
    let o = c.args.op.now in
    let w = left_some _ _ _ (c.in_ok-left.ensures ∙ ap (written_by o.statement o.params) c.found.ensures) c.in-Some.is in
    let key : to_z w64 (of_z w64 c.key_of_op-key.result) ≡ key_of o.statement o.params = to_z-of_z w64 c.key_of_op-key.result (search rules) ∙ c.key_of_op-key.ensures in
    c.set-node.ensures.new
    ∙ (λ i. with_row c.args.self.now (record { table = c.table_of_statement-table.ensures i; key = key i }) (row_of c.in-Some.left))
    ∙ after_written o c.args.self.now (row_of c.in-Some.left) w

pub returns-clause-undo : goal.returns-clause-undo
returns-clause-undo c =
    let o = c.args.op.now in
    let w = left_some _ _ _ (c.in_ok-left.ensures ∙ ap (written_by o.statement o.params) c.found.ensures) c.in-Some.is in
    let key : to_z w64 (of_z w64 c.key_of_op-key.result) ≡ key_of o.statement o.params = to_z-of_z w64 c.key_of_op-key.result (search rules) ∙ c.key_of_op-key.ensures in
    c.push_reserved.ensures.items
    ∙ (λ i. (c.reserve.ensures.items ∙ c.undo.view_is) i
    ++ record {
      place = record { table = c.table_of_statement-table.ensures i; key = key i };
      row = (c.set-node.ensures.old ∙ (λ j. row_at c.args.self.now (record { table = c.table_of_statement-table.ensures j; key = key j }))) i;
    } ∷ [])
    ∙ ap (λ os. c.args.undo.now ++ os) (old_written o c.args.self.now (row_of c.in-Some.left) w)
