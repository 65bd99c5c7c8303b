use Rattle.std.proofs.Common.{ℕ, List, map, Vec, Global, ap, ◌∙◌}
use Rattle.px_tree.specs.declared.Class.{Class}
use Rattle.px_job.specs.declared.job.Call.{Call}
use Rattle.px_main.specs.Run.{no_counts, shown_from}
use Rattle.px_main.proofs.Ran.{ran}
use Rattle.px_main.proofs.run.run.Goals as goal

pub returns : goal.returns
returns c =
    let checked = c.args.checked.now in
    let job = c.args.job.now in
    let left = c.in_ok-ran.ran.tables in
    let shown = c.in_ok-ran.ran.shown.items in
    let heaps = c.in_ok-ran.ran.heaps.items in
    let told = c.as_slice-4.ensures.value ∙ c.in_ok-calls.ensures ∙ ap (λ (calls : List Call). shown_from calls 0 (no_counts job.settings.sessions) shown) c.as_slice.ensures in
    let names = c.as_slice-3.ensures.value ∙ c.in_ok-names.ensures ∙ ap (map (λ (class : Class). class.name.bytes)) c.as_slice-2.ensures in
    ran checked job left shown heaps c.as_slice-5.result.now c.as_slice-3.result.now c.as_slice-4.result.now c.in_ok-ran.ensures c.as_slice-5.ensures.value told names (λ (text : Vec ℕ Global). text.items) c.run_text.result c.run_text.ensures
