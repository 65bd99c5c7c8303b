-- What a session tells of its calls is told in one way.
use Rattle.std.proofs.Common.{◌≡◌, ◌+◌, List, [], ◌∷◌, ◌++◌, length, Some, refl, sym, ap, subst, ◌∙◌}
use Rattle.px_value.specs.declared.object.Object.{Object}
use Rattle.px_code.specs.declared.side.Side.TheVariants.{App, Db}
use Rattle.px_code.specs.declared.plan.Plan.{Plan}
use Rattle.px_code.specs.declared.reply.Done.{Done}
use Rattle.px_code.specs.declared.reply.Reply.{Reply}
use Rattle.px_code.specs.Stale.{Event}
use Rattle.px_code.specs.Machine.{Machine}
use Rattle.px_code.specs.Sound.{Ending, Finished, Fell, entered, first_block}
use Rattle.px_wire.specs.declared.message.Message.TheVariants.{Commit}
use Rattle.px_half.specs.Messages.{AreUpdates}
use Rattle.px_pair.specs.Ends.{moves_within, bytes_within}
use Rattle.px_pair.specs.Once.{IsSameStory}
use Rattle.px_pair.specs.Story.{Happening, Sent, Told, moves_of, bytes_of, events_after}
use Rattle.px_pair.proofs.OneStory.{stories_are_one}
use Rattle.px_pair.proofs.OneUpdates.{one_updates}
use Rattle.px_session.specs.Serving.{Call, IsStory, commits, aborts, abort_bytes, events_kept, IsServed, AreServed, none, more}
use Rattle.px_session.specs.Once.{CallsAreToldOnce}

-- ---- one call

-- one story, with its ending
record IsOne (story that_story : List Happening) (ending that_ending : Ending) : Type 0 where
  story_is : story ≡ that_story
  ending_is : ending ≡ that_ending

finished_fell : {A : Type 0} (t : _) → Finished ≡ Fell t → A
finished_fell t e = cc

module _ (plan : Plan) (heap : List Object) (c : Call) where
  one_told : (story that_story : List Happening) (ending that_ending : Ending) (m n : Machine) → Told plan App (entered plan.code heap c.method c.args) (first_block plan c.method) story ending m → Told plan App (entered plan.code heap c.method c.args) (first_block plan c.method) that_story that_ending n → IsSameStory story that_story ending that_ending m n
  one_told story that_story ending that_ending m n told told' = stories_are_one plan App (entered plan.code heap c.method c.args) (first_block plan c.method) story that_story ending that_ending m n told told'

  one_story : (story that_story : List Happening) (ending that_ending : Ending) → IsStory plan heap c story ending → IsStory plan heap c that_story that_ending → IsOne story that_story ending that_ending
  one_story _ _ _ _ (commits {story = story} {m = m} {u = u} told are) (commits {story = that_story} {m = n} {u = v} told' are') =
      let same : IsSameStory story that_story Finished Finished m n = one_told story that_story Finished Finished m n told told' in
      let updates : u ≡ v = one_updates (Some plan) n (length n.heap) u v (subst (λ (x : Machine). AreUpdates (Some plan) (length x.heap) x u) same.last_is are) are' in
      record { story_is = (λ i. same.story_is i ++ Sent Db (Commit (updates i)) ∷ []); ending_is = refl }
  one_story _ _ _ _ (commits {story = story} {m = m} told are) (aborts {story = that_story} {t = t} {m = n} told') = finished_fell t (one_told story that_story Finished (Fell t) m n told told').ending_is
  one_story _ _ _ _ (aborts {story = story} {t = t} {m = m} told) (commits {story = that_story} {m = n} told' are') = finished_fell t (sym (one_told story that_story (Fell t) Finished m n told told').ending_is)
  one_story _ _ _ _ (aborts {story = story} {t = t} {m = m} told) (aborts {story = that_story} {t = u} {m = n} told') =
      let same : IsSameStory story that_story (Fell t) (Fell u) m n = one_told story that_story (Fell t) (Fell u) m n told told' in
      record { story_is = same.story_is; ending_is = same.ending_is }

-- one account of a call, and the events after it
record IsOneDone (done that_done : Done) (after that_after : List Event) : Type 0 where
  done_is : done ≡ that_done
  after_is : after ≡ that_after

one_done : (plan : Plan) (heap : List Object) (c : Call) (reply : Reply) (before : List Event) (done that_done : Done) (after that_after : List Event) → IsServed plan heap c reply before done after → IsServed plan heap c reply before that_done that_after → IsOneDone done that_done after that_after
one_done plan heap c reply before done that_done after that_after served served' =
    let one : IsOne served.story served'.story served.ending served'.ending = one_story plan heap c served.story served'.story served.ending served'.ending served.is served'.is in
    let reply_is : done.reply ≡ that_done.reply = served.reply_is ∙ sym served'.reply_is in
    let prints : done.prints ≡ that_done.prints = served.prints ∙ sym served'.prints in
    let part : done.part ≡ that_done.part = served.part ∙ sym served'.part in
    let avg : done.avg ≡ that_done.avg = served.avg ∙ sym served'.avg in
    let moves : done.moves ≡ that_done.moves = served.moves ∙ ap (λ (s : List Happening). moves_within (moves_of s)) one.story_is ∙ sym served'.moves in
    let bytes : done.bytes ≡ that_done.bytes = served.bytes ∙ (λ i. bytes_within (bytes_of (one.story_is i) + abort_bytes (one.ending_is i))) ∙ sym served'.bytes in
    let rehome : done.rehome ≡ that_done.rehome = served.rehome ∙ sym served'.rehome in
    record {
      done_is = (λ i. record { reply = reply_is i; prints = prints i; part = part i; avg = avg i; moves = moves i; bytes = bytes i; rehome = rehome i });
      after_is = served.after_is ∙ (λ i. events_kept (one.ending_is i) before (events_after (one.story_is i) before)) ∙ sym served'.after_is;
    }

-- ---- all calls

pub calls_are_told_once : CallsAreToldOnce
calls_are_told_once calling plan = by
  where
    by : (heap : List Object) (events : List Event) (calls : List Call) (dones that_dones : List Done) → AreServed calling plan heap events calls dones → AreServed calling plan heap events calls that_dones → dones ≡ that_dones
    by heap before _ _ _ none none = refl
    by heap before _ _ _ (more {after = after} {c = c} {calls = calls} {done = done} {dones = dones} served rest) (more {after = that_after} {done = that_done} {dones = that_dones} served' rest') =
        let one : IsOneDone done that_done after that_after = one_done plan heap c (calling heap c).reply before done that_done after that_after served served' in
        let others : dones ≡ that_dones = by (calling heap c).heap after calls dones that_dones rest (subst (λ (e : List Event). AreServed calling plan (calling heap c).heap e calls that_dones) (sym one.after_is) rest') in
        λ i. one.done_is i ∷ others i
