use Rattle.std.proofs.Common.{ap, sym, ◌∙◌, Some, arith}
use Rattle.std.proofs.lemmas.Option.{slice_get_read}
use Rattle.px_mean.specs.Asks.{by_tables}
use Rattle.px_mean.specs.Entry.{call_of}
use Rattle.px_plain.specs.Plain.{source_with}
use Rattle.px_plain.proofs.Serials.{set_set}
use Rattle.px_plain.proofs.plain.Plain.call_at.Goals as goal

pub returns-clause-calls : goal.returns-clause-calls
returns-clause-calls c =
    let heaps = c.args.self.now.heaps.items in
    record {
      before = c.replace-heap.result;
      there = slice_get_read heaps _ c.args.place c.index_mut.result.now c.args.self.now.heaps.ok.0 (omega (arith, c.requires, c.args.self.now.heaps.ok.0)) c.index_mut.ensures.value
          ∙ ap Some (sym c.replace-heap.ensures.value);
      left = c.in_ok-called.called.heap;
      called = (λ i. call_of by_tables (source_with c.args.self.now.facts.now (sym c.as_slice.ensures.value i)) c.replace-heap.result (sym c.replace-tables.ensures.value i) c.args.entry c.args.args.now)
          ∙ c.in_ok-called.ensures;
      written = set_set heaps c.args.place _ c.in_ok-called.called.heap;
    }
