use Rattle.std.proofs.Common.{◌≡◌, None, slice_get, sym, map, ap, ◌∙◌}
use Rattle.std.specs.Option.{option_copied}
use Rattle.px_rows.proofs.Does.{rows_nowhere}
use Rattle.px_rows.proofs.tables.Tables.rows.Goals as goal

pub returns-in-None : goal.returns-in-None
returns-in-None c =
    let e : slice_get c.args.self.now c.args.table ≡ None = ap (λ xs. slice_get xs c.args.table) (sym (c.as_slice.ensures.value ∙ c.self.view_is)) ∙ sym c.at.ensures ∙ ap option_copied c.in-None.is in
    ap (map (λ r. r.now)) c.new.ensures.items ∙ sym (rows_nowhere c.args.self.now c.args.table e)
