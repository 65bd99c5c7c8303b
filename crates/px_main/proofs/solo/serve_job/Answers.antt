use Rattle.std.proofs.Common.{List, map, Vec, Global, sym, ap, ◌∙◌, subst, slice_get}
use Rattle.px_facts.specs.declared.checked.Entry.{Entry}
use Rattle.px_code.specs.declared.reply.Done.{Done}
use Rattle.px_job.specs.declared.job.Part.{Part}
use Rattle.px_session.specs.declared.calls.Wanted.{Wanted}
use Rattle.px_session.specs.Serving.{Call}
use Rattle.px_session.specs.Wanted.{wanted}
use Rattle.px_main.specs.Served.{AreCalls}
use Rattle.px_main.specs.Solo.{asked, placement_in}
use Rattle.px_main.proofs.Taken.{well_formed, are_calls, done_as}
use Rattle.px_main.proofs.solo.serve_job.Goals as goal

pub serve_calls-requires-clause-formed : goal.serve_calls-requires-clause-formed
serve_calls-requires-clause-formed c = well_formed c.args.checked.now c.args.simple c.args.job.now c.requires

pub serve_calls-requires-clause-calls : goal.serve_calls-requires-clause-calls
serve_calls-requires-clause-calls c =
    let same = ap (λ (ws : List Wanted). map wanted ws) c.as_slice-3.ensures.value ∙ c.in_ok-asked.ensures ∙ ap (λ (es : List Entry). map (asked es) c.as_slice-2.result.now) c.as_slice-entries.ensures ∙ ap (map (asked c.args.checked.now.facts.main.entries)) c.as_slice-2.ensures in
    subst (λ (calls : List Call). AreCalls c.args.simple calls) (sym same) (are_calls c.args.checked.now c.args.simple c.args.job.now c.requires)

pub returns : goal.returns
returns c =
    let same = ap (λ (ws : List Wanted). map wanted ws) c.as_slice-3.ensures.value ∙ c.in_ok-asked.ensures ∙ ap (λ (es : List Entry). map (asked es) c.as_slice-2.result.now) c.as_slice-entries.ensures ∙ ap (map (asked c.args.checked.now.facts.main.entries)) c.as_slice-2.ensures in
    let placed = c.in_ok-sides.ensures ∙ ap (λ (parts : List Part). placement_in (slice_get parts 0)) c.as_slice.ensures in
    done_as c.args.checked.now c.args.simple c.args.job.now c.in_ok-sides.sides _ c.requires placed same (λ (v : Vec Done Global). v.items) c.serve_calls.result c.serve_calls.ensures
