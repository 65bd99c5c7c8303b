use Rattle.std.proofs.Common.{◌≡◌, ◌<◌, true, List, take, length, ap, ◌∙◌, refl, sym, rules}
use Rattle.px_value.specs.declared.object.Object.{Object}
use Rattle.px_half.specs.declared.undo.Change.{Change}
use Rattle.px_half.proofs.NewObjects.{news_next}
use Rattle.px_half.proofs.Undoes.{undone-make, front_stays}
use Rattle.px_half.proofs.news.add_news.Goals as goal

pub loop-header-preserved : goal.loop-header-preserved
loop-header-preserved c = record {
  rest =
      let within : c.loop-header.header-index < length c.args.headers.now = search rules in
      let fits : c.header_fits.result ≡ true = search rules in
      c.loop-header.invariant.rest ∙ news_next c.args.code.now c.args.headers.now c.loop-header.header-index _ c.loop-header.heap c.make.new.heap c.in_ok-cells.cells within (sym c.header_fits.ensures ∙ fits) c.in_ok-cells.ensures c.in_ok-make.ensures.made;
  front = ap (λ (h : List Object). take (length c.args.heap.now) h) c.in_ok-make.ensures.made ∙ front_stays (length c.args.heap.now) c.loop-header.heap c.args.heap.now _ refl c.loop-header.invariant.front;
  undo_front = ap (λ (u : List Change). take (length c.args.undo.now.items) u) c.in_ok-make.ensures.noted ∙ front_stays (length c.args.undo.now.items) c.loop-header.undo.items c.args.undo.now.items _ refl c.loop-header.invariant.undo_front;
  undone = undone-make _ _ _ _ _ c.in_ok-make.ensures.made c.in_ok-make.ensures.noted ∙ c.loop-header.invariant.undone;
}
