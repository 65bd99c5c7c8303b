-- What a session tells of its calls doesn't depend on what sides keep.
use Rattle.std.proofs.Common.{◌≡◌, List, length, subst}
use Rattle.px_value.specs.declared.object.Object.{Object}
use Rattle.px_code.specs.declared.side.Side.TheVariants.{App}
use Rattle.px_code.specs.declared.cell.Keep.{Keep}
use Rattle.px_code.specs.declared.plan.Plan.{Plan}
use Rattle.px_code.specs.declared.reply.Done.{Done}
use Rattle.px_code.specs.declared.reply.Reply.{Reply}
use Rattle.px_code.specs.Stale.{Event}
use Rattle.px_code.specs.Sound.{Ending, Finished, Fell, entered, first_block}
use Rattle.px_pair.specs.Story.{Happening}
use Rattle.px_pair.proofs.Kept.{keeping, updates_kept, told_kept}
use Rattle.px_session.specs.Serving.{Call, Calling, IsStory, commits, aborts, IsServed, AreServed, none, more}
use Rattle.px_session.specs.Kept.{KeepIsNotTold}

module _ (plan : Plan) (keep : Keep) where
  story_kept : (heap : List Object) (c : Call) (story : List Happening) (ending : Ending) → IsStory plan heap c story ending → IsStory (keeping keep plan) heap c story ending
  story_kept heap c _ _ (commits {story = story} {m = m} {u = u} told are) =
      commits (told_kept plan keep App (entered plan.code heap c.method c.args) m (first_block plan c.method) story Finished told) (updates_kept plan keep (length m.heap) m u are)
  story_kept heap c story _ (aborts {t = t} {m = m} told) = aborts (told_kept plan keep App (entered plan.code heap c.method c.args) m (first_block plan c.method) story (Fell t) told)

  served_kept : (heap : List Object) (c : Call) (reply : Reply) (before : List Event) (done : Done) (after : List Event) → IsServed plan heap c reply before done after → IsServed (keeping keep plan) heap c reply before done after
  served_kept heap c reply before done after served = record {
    story = served.story;
    ending = served.ending;
    is = story_kept heap c served.story served.ending served.is;
    none_stale = served.none_stale;
    after_is = served.after_is;
    reply_is = served.reply_is;
    prints = served.prints;
    moves = served.moves;
    bytes = served.bytes;
    part = served.part;
    avg = served.avg;
    rehome = served.rehome;
  }

  all_kept : (calling : Calling) (heap : List Object) (before : List Event) (calls : List Call) (dones : List Done) → AreServed calling plan heap before calls dones → AreServed calling (keeping keep plan) heap before calls dones
  all_kept calling heap before _ _ none = none
  all_kept calling heap before _ _ (more {after = after} {c = c} {calls = calls} {done = done} {dones = dones} served rest) =
      more (served_kept heap c (calling heap c).reply before done after served) (all_kept calling (calling heap c).heap after calls dones rest)

pub keep_is_not_told : KeepIsNotTold
keep_is_not_told calling plan that_plan code placement blocks heap events calls dones served = subst (λ (p : Plan). AreServed calling p heap events calls dones) same (all_kept plan that_plan.keep calling heap events calls dones served)
  where
    same : keeping that_plan.keep plan ≡ that_plan
    same = λ i. record { code = code i; placement = placement i; blocks = blocks i; keep = that_plan.keep }
