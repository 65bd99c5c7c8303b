use Rattle.std.proofs.Common.{ℕ, map, Vec, Global, ap, ◌∙◌}
use Rattle.px_tree.specs.declared.Class.{Class}
use Rattle.px_main.specs.Solo.{part_name}
use Rattle.px_main.proofs.Reported.{reported}
use Rattle.px_main.proofs.solo.report.Goals as goal

pub returns : goal.returns
returns c =
    let ran = c.in_ok-ran.ran in
    let classes = c.as_slice-3.ensures.value ∙ c.in_ok-classes.ensures ∙ ap (map (λ (class : Class). class.name.bytes)) c.as_slice.ensures in
    let parts = c.as_slice-4.ensures.value ∙ c.in_ok-parts.ensures ∙ ap (map part_name) c.as_slice-2.ensures in
    let history = c.as_slice-5.ensures.value ∙ c.in_ok-events.ensures in
    reported c.args.checked.now c.args.job.now c.args.dones.items c.as_slice-5.result.now ran.shown.items ran.heaps.items c.as_slice-6.result.now ran.tables c.as_slice-3.result.now c.as_slice-4.result.now c.requires history c.in_ok-ran.ensures c.as_slice-6.ensures.value classes parts (λ (text : Vec ℕ Global). text.items) c.report_text.result c.report_text.ensures
