use Rattle.std.proofs.Common.{rules, ◌≡◌, List, None, sym, ap, ◌∙◌}
use Rattle.indexmap.specs.IndexMap.{get, insert_entry}
use Rattle.indexmap.proofs.CallerLemmas.{insert_entry-new}
use Rattle.px_acts.specs.Undo.{Old, is_cell, restored}
use Rattle.px_acts.proofs.Undoes.{not_noted, restored-new}
use Rattle.px_acts.proofs.store.write_new.Goals as goal

pub returns-in-Some-clause-restored : goal.returns-in-Some-clause-restored
returns-in-Some-clause-restored c =
    let none : get is_cell c.args.olds.now c.args.cell ≡ None = not_noted _ _ c.requires in
    let put : c.insert.new.self.entries ≡ insert_entry is_cell c.reserve.new.self.entries c.args.cell c.in-Some.old = search rules in
    let pushed = put ∙ ap (λ (olds : List Old). insert_entry is_cell olds c.args.cell c.in-Some.old) c.reserve.ensures.entries ∙ insert_entry-new is_cell c.args.olds.now c.args.cell c.in-Some.old none in
    ap (λ (olds : List Old). restored c.args.start olds c.set.new.self) pushed
    ∙ restored-new _ c.args.start c.args.olds.now.entries c.args.heap.now c.set.new.self c.args.cell c.args.value c.in-Some.old c.requires (sym c.in-Some.ensures.old) c.set.ensures.written
