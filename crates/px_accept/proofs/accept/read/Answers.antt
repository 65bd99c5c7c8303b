use Rattle.std.proofs.Common.{◌≡◌, ◌<◌, ◌≤◌, length, arith, Bool, true, false, refl}
use Rattle.px_accept.proofs.Places.{refused_more, refused_here, refused_nowhere, refused_at_end, was_taken, was_not}
use Rattle.px_accept.proofs.accept.read.Goals as goal

false_not : (let f : Bool = false in f ≡ true) → ⊥
false_not e = cc

pub returns-then-not-branch : goal.returns-then-not-branch
returns-then-not-branch c =
    let k : c.loop-place.place < length c.args.roles.now = omega arith in
    refused_here _ c.loop-place.place c.loop-place.stack c.args.roles.now _ k (was_not _ _ _ c.in_ok-take.ensures.taken c.if-not-branch.true) c.loop-place.invariant.same

pub loop-place-preserved : goal.loop-place-preserved
loop-place-preserved c =
    let k : c.loop-place.place < length c.args.roles.now = omega arith in
    record { same = refused_more _ c.loop-place.place c.loop-place.stack c.take.new.self c.args.roles.now _ k (was_taken _ _ _ c.in_ok-take.ensures.taken c.if-not-branch.false) c.loop-place.invariant.same; low = c.in_ok-take.ensures.low c.if-not-branch.false }

pub returns-then-is_empty : goal.returns-then-is_empty
returns-then-is_empty c =
    let k : length c.args.roles.now ≤ c.loop-place.place = omega arith in
    refused_nowhere _ c.loop-place.place c.loop-place.stack c.args.roles.now k (c.if-is_empty.ensures.0 refl) c.loop-place.invariant.same

pub returns : goal.returns
returns c =
    let k : c.loop-place.place ≡ length c.args.roles.now = omega arith in
    refused_at_end _ c.loop-place.place c.loop-place.stack c.args.roles.now k (λ e. false_not (c.if-is_empty.ensures.1 e)) c.loop-place.invariant.same
