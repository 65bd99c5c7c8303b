use Rattle.std.proofs.Common.{◌+◌, List, ℕ, length, sym, ap, ◌∙◌, subst, refl, arith, length-append}
use Rattle.px_code.specs.declared.reply.Shown.{Shown}
use Rattle.px_main.specs.Run.{session_in, no_counts}
use Rattle.px_main.proofs.Numbers.{AreFew, none_are_few, shown_next, counts_next, few_next, one_made}
use Rattle.px_main.proofs.run.shown_calls.Goals as goal

pub loop-shown-init : goal.loop-shown-init
loop-shown-init c = record {
  can_next = tt;
  is_finite = tt;
  shown = c.new-all.ensures.items;
  counts = c.in_ok-counts.ensures;
  few = subst (λ (cs : List ℕ). AreFew 0 cs) (sym c.in_ok-counts.ensures) (none_are_few (c.args.sessions + 1));
  place = refl;
  made = ap length c.new-all.ensures.items;
}

pub count-number-requires : goal.count-number-requires
count-number-requires c =
    let few = c.loop-shown.invariant.few c.session_of-session.result in
    let made = c.loop-shown.invariant.made in
    let len = c.loop-shown.all.ok.0 in
    let most = c.loop-shown.all.ok.1 in
    let small = c.loop-shown.all.small in
    omega (arith, few, made, len, most, small)

pub loop-shown-preserved : goal.loop-shown-preserved
loop-shown-preserved c =
    let calls = c.args.calls.now in
    let counts = no_counts c.args.sessions in
    let all = c.loop-shown.yielded in
    let asked = c.session_of-session.ensures ∙ ap session_in c.at.ensures in
    record {
      can_next = tt;
      is_finite = tt;
      shown = shown_next calls counts all c.in-Some.shown c.loop-shown.place c.session_of-session.result c.loop-shown.invariant.place asked c.loop-shown.all.items c.push.new.self.items c.loop-shown.counts.items c.count-number.result c.loop-shown.invariant.shown c.loop-shown.invariant.counts c.count-number.ensures.number c.in_ok-push.ensures.items;
      counts = counts_next calls counts all c.in-Some.shown c.loop-shown.place c.session_of-session.result c.loop-shown.invariant.place asked c.loop-shown.counts.items c.count-number.new.counts.items c.loop-shown.invariant.counts c.count-number.ensures.counts;
      few = few_next all c.in-Some.shown c.loop-shown.counts.items c.count-number.new.counts.items c.session_of-session.result c.loop-shown.invariant.few c.count-number.ensures.counts;
      place = omega (arith, length-append {A = Shown}, c.loop-shown.invariant.place);
      made = one_made c.loop-shown.all.items c.push.new.self.items _ all c.in-Some.shown c.loop-shown.invariant.made c.in_ok-push.ensures.items;
    }
