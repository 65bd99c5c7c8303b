-- The run of the code is that of the one machine, which is that of two ends.
use Rattle.std.proofs.Common.{◌≡◌, ℕ, zero, suc, List, Option, unwrap_or, refl, ap, subst, ◌∙◌}
use Rattle.px_value.specs.declared.value.Value.{Value}
use Rattle.px_value.specs.declared.value.Value.TheVariants.{Null}
use Rattle.px_ends.specs.Agree.{at_app}
use Rattle.px_value.specs.declared.object.Object.{Object}
use Rattle.px_value.specs.declared.thrown.Thrown.{Thrown}
use Rattle.px_value.specs.Outcome.{Outcome, Gives, Throws, Asks}
use Rattle.px_blocks.specs.declared.block.Statement.{Statement}
use Rattle.px_normal.specs.Run.{Traced}
use Rattle.px_effects.specs.Run.{Ask}
use Rattle.px_normal.specs.CodeRun.{code_run}
use Rattle.px_blocks.specs.Plan.{Plan}
use Rattle.px_blocks.specs.Machine.{Control}
use Rattle.px_blocks.specs.One.{One, Step, Goes, Ended, Falls, Waits, Asks as Stays, all_ran, Leads, here, on, goes_on, one_run, one_begun, traced, reply_of}
use Rattle.px_blocks.specs.Law.{RunsAs}
use Rattle.px_blocks.proofs.Continues.{IsEnd}
use Rattle.px_blocks.proofs.Running.{blocks_run_as_code}
use Rattle.px_ends.specs.Runs.{Pair, pair_run}
use Rattle.px_ends.specs.Calls.{Rests, pair_begun, committed, SameCall}
use Rattle.px_ends.proofs.CallsAgree.{call_agrees}
use Rattle.px_ends.proofs.FittingRuns.{entry_calls_are_good}
use Rattle.px_ends.proofs.PlansGood.{plans_are_good, cut_is_placed}
use Rattle.px_ends.specs.AsCode.{RepliesAs, StoppedAs, PairRunsAs, PairRunsAsCode, PlacedCodeRuns, SoundCodeRuns}

module _ {Q W : Type 0} (plan : Plan) (ask : Ask Q W) where
  -- ---- a run that leads to an end takes some number of blocks

  ends_at_once : (x : Step Q (One W)) → IsEnd x → goes_on (one_run plan ask zero) x ≡ x
  ends_at_once (Goes o) e = absurd e
  ends_at_once (Ended o) e = refl
  ends_at_once (Falls t o) e = refl
  ends_at_once (Waits op s o) e = refl
  ends_at_once (Stays q s o) e = refl

  leads_run : (x y : Step Q (One W)) → Leads plan ask x y → IsEnd y → (n : ℕ) × (goes_on (one_run plan ask n) x ≡ y)
  unfolding one_run
  leads_run x y here e = (zero, ends_at_once x e)
  leads_run x y (on {o = o} l) e = let r = leads_run _ y l e in (suc r.0, r.1)

  -- ---- by what the one machine comes to

  same_ended : (x : Step Q (Pair W)) (o : One W) (v : Option Value) (g : Traced W) → SameCall plan x (Ended o) → traced o ≡ g → reply_of o.machine.control ≡ unwrap_or v Null → (last : Pair W) × (x ≡ Ended last) × RepliesAs plan last v g
  same_ended (Goes p) o v g h t r = absurd h
  same_ended (Ended p) o v g h t r = (
    p,
    refl,
    record {
      reply = h.reply ∙ r;
      prints = h.prints ∙ ap (λ (z : Traced W). z.shared.prints) t;
      turns = h.turns ∙ ap (λ (z : Traced W). z.shared.turns) t;
      world = h.world ∙ ap (λ (z : Traced W). z.shared.world) t;
      operations = h.operations ∙ ap (λ (z : Traced W). z.shared.operations) t;
      ran = ap all_ran h.story ∙ ap (λ (z : Traced W). z.ran) t;
      rests = subst (λ (heap : List Object). Rests plan p.near.heap (committed plan p.near p.far) heap) (ap (λ (z : Traced W). z.shared.heap) t) h.rests;
    },
  )
  same_ended (Falls u p) o v g h t r = absurd h
  same_ended (Waits op s p) o v g h t r = absurd h
  same_ended (Stays q s p) o v g h t r = absurd h

  same_fell : (x : Step Q (Pair W)) (u : Thrown) (o : One W) (g : Traced W) → SameCall plan x (Falls u o) → traced o ≡ g → (last : Pair W) × (x ≡ Falls u last) × StoppedAs last g
  same_fell (Goes p) u o g h t = absurd h
  same_fell (Ended p) u o g h t = absurd h
  same_fell (Falls u' p) u o g h t =
      let f = h.1 in
      let split = f.split in (
        p,
        ap (λ (z : Thrown). Falls z p) h.0,
        record {
          prints = ap (λ z. at_app z p.near.prints p.far.prints) f.side ∙ split.prints ∙ ap (λ (z : Traced W). z.shared.prints) t;
          turns = ap (λ (c : Control). c.turns) split.control ∙ ap (λ (z : Traced W). z.shared.turns) t;
          world = f.world ∙ ap (λ (z : Traced W). z.shared.world) t;
          operations = f.operations ∙ ap (λ (z : Traced W). z.shared.operations) t;
          ran = ap all_ran f.story ∙ ap (λ (z : Traced W). z.ran) t;
        },
      )
  same_fell (Waits op s p) u o g h t = absurd h
  same_fell (Stays q s p) u o g h t = absurd h

  same_asks : (x : Step Q (Pair W)) (q : Q) (s : Statement) (o : One W) (g : Traced W) → SameCall plan x (Stays q s o) → traced o ≡ g → (u : Statement) × (last : Pair W) × (x ≡ Stays q u last) × StoppedAs last g
  same_asks (Goes p) q s o g h t = absurd h
  same_asks (Ended p) q s o g h t = absurd h
  same_asks (Falls u p) q s o g h t = absurd h
  same_asks (Waits op u p) q s o g h t = absurd h
  same_asks (Stays r u p) q s o g h t =
      let f = h.2 in
      let agree = f.agree in
      let split = agree.split in (
        u,
        p,
        ap (λ (z : Q). Stays z u p) h.0,
        record {
          prints = ap (λ z. at_app z p.near.prints p.far.prints) f.side ∙ split.prints ∙ ap (λ (z : Traced W). z.shared.prints) t;
          turns = ap (λ (c : Control). c.turns) split.control ∙ ap (λ (z : Traced W). z.shared.turns) t;
          world = f.world ∙ ap (λ (z : Traced W). z.shared.world) t;
          operations = f.operations ∙ ap (λ (z : Traced W). z.shared.operations) t;
          ran = ap all_ran f.story ∙ ap (λ (z : Traced W). z.ran) t;
        },
      )

  pair_as : (p : Pair W) (o : One W) → ((n : ℕ) → SameCall plan (pair_run plan ask n p) (one_run plan ask n o)) → (r : Outcome Q (Traced W) (Option Value)) → RunsAs plan ask (Goes o) r → PairRunsAs plan ask p r
  pair_as p o same (Gives v g) r =
      let k = leads_run (Goes o) (Ended r.0) r.1 tt in
      let e = same_ended (pair_run plan ask k.0 p) r.0 v g (subst (λ y. SameCall plan (pair_run plan ask k.0 p) y) k.1 (same k.0)) r.2 r.3 in
      (k.0, e.0, e.1, e.2)
  pair_as p o same (Throws t g) r =
      let k = leads_run (Goes o) (Falls t r.0) r.1 tt in
      let e = same_fell (pair_run plan ask k.0 p) t r.0 g (subst (λ y. SameCall plan (pair_run plan ask k.0 p) y) k.1 (same k.0)) r.2 in
      (k.0, e.0, e.1, e.2)
  pair_as p o same (Asks q g) r =
      let k = leads_run (Goes o) (Stays q r.0 r.1) r.2 tt in
      let e = same_asks (pair_run plan ask k.0 p) q r.0 r.1 g (subst (λ y. SameCall plan (pair_run plan ask k.0 p) y) k.1 (same k.0)) r.3 in
      (k.0, e.0, e.1, e.2, e.3)

pub pair_runs_as_code : (Q W : Type 0) → PairRunsAsCode Q W
pair_runs_as_code Q W plan placed cut ask method args app db one world rests good =
    pair_as plan ask (pair_begun plan method args app db world) (one_begun plan method args one world)
    (λ n. call_agrees Q W plan ask method args n app db one world rests (good n))
    (code_run plan.code ask one world method args)
    (blocks_run_as_code Q W plan placed cut ask one world method args)

pub placed_code_runs : (Q W : Type 0) → PlacedCodeRuns Q W
placed_code_runs Q W plan placed leads cut put ask method args app db one world rests pointed =
    pair_runs_as_code Q W plan placed cut ask method args app db one world rests
    (λ n. plans_are_good Q W plan leads ask n (one_begun plan method args one world) (cut_is_placed plan placed leads cut put) (pointed n))

pub sound_code_runs : (Q W : Type 0) → SoundCodeRuns Q W
sound_code_runs Q W plan placed points cut sound ask plain method args app db one world entry fits rests =
    pair_runs_as_code Q W plan placed cut ask method args app db one world rests
    (λ n. entry_calls_are_good Q W plan points ask n method args one world sound plain entry fits)
