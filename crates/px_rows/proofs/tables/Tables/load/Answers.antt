use Rattle.std.proofs.Common.{rules, Some, ap, ◌∙◌, w64}
use Rattle.std.proofs.lemmas.Int.{to_z-of_z}
use Rattle.px_rows.specs.Tables.{with_row}
use Rattle.px_rows.proofs.Does.{loaded-is}
use Rattle.px_rows.proofs.tables.Tables.load.Goals as goal

pub returns-clause-ok : goal.returns-clause-ok
returns-clause-ok c =
    c.set.ensures.new
    ∙ (λ i. with_row c.args.self.now (record { table = c.args.table; key = (to_z-of_z w64 c.key_at-key.result (search rules) ∙ c.key_at-key.ensures) i }) (Some ((ap (λ n. n.row) c.in_ok-node.ensures.ok ∙ c.new.ensures) i)))
    ∙ loaded-is c.args.table c.args.row c.args.self.now
