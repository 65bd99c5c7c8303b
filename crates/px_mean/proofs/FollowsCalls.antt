-- What calls do, beside what they do on a list, and so the run of an entry.
use Rattle.std.proofs.Common.{ℕ, zero, suc, List, [], ◌∷◌, Option, Some, None, refl}
use Rattle.px_value.specs.declared.value.Value.{Value}
use Rattle.px_value.specs.declared.value.Value.TheVariants.{Ref}
use Rattle.px_value.specs.declared.object.Object.{Object}
use Rattle.px_value.specs.declared.thrown.Thrown.TheVariants.{StackOverflowError}
use Rattle.px_value.specs.declared.statement.TableOp.{TableOp}
use Rattle.px_value.specs.declared.answer.Answer.{Answer}
use Rattle.px_value.specs.Outcome.{Outcome, Gives, Throws, Asks, Flow}
use Rattle.px_tree.specs.declared.Method.{Method}
use Rattle.px_facts.specs.declared.checked.MethodFact.{MethodFact}
use Rattle.px_facts.specs.declared.checked.Facts.{Facts}
use Rattle.px_mean.specs.Run.{Shared, Frame}
use Rattle.px_mean.specs.Facts.{by_number}
use Rattle.px_mean.specs.Operations.{Ask}
use Rattle.px_mean.specs.Asks.{by_list}
use Rattle.px_mean.specs.Expressions.{Calls}
use Rattle.px_mean.specs.Statements.{done_by}
use Rattle.px_mean.specs.Calls.{Source, first_slots, leaves_frame, enters, calls_in}
use Rattle.px_mean.specs.Entry.{all_frames, exec}
use Rattle.px_mean.specs.Laws.{with_world, on_list}
use Rattle.px_mean.proofs.Follows.{Follows, pure_alike, throw_alike, carried, carried_open}
use Rattle.px_mean.proofs.FollowsThere.{NeverThrows, shared_view, AlikeThere}
use Rattle.px_mean.proofs.FollowsHere.{frame_view, P, L, done_alike}

module _ (Q W : Type 0) (ask : Ask Q W) (never : NeverThrows Q W ask) where
  leaves_at : (o : Outcome Q (Frame W) (Flow Value)) (s : Frame W) (run : List Answer → Outcome TableOp (Frame (List Answer)) (Flow Value)) → Follows Q W ask (frame_view W) (Flow Value) o s run → Follows Q W ask (shared_view W) (Option Value) (leaves_frame o) s.shared (λ x. leaves_frame (run x))
  leaves_at (Gives flow t) s run h = carried Q W ask (Frame (List Answer)) (Shared (List Answer)) (Flow Value) (Option Value) leaves_frame (λ u. u.shared) (λ o u. refl) _ _ _ _ run (λ x. Gives flow (record { locals = t.locals; shared = with_world t.shared x })) h
  leaves_at (Throws e t) s run h = carried Q W ask (Frame (List Answer)) (Shared (List Answer)) (Flow Value) (Option Value) leaves_frame (λ u. u.shared) (λ o u. refl) _ _ _ _ run (λ x. Throws e (record { locals = t.locals; shared = with_world t.shared x })) h
  leaves_at (Asks q t) s run h = carried_open Q W ask (Frame (List Answer)) (Shared (List Answer)) (Flow Value) (Option Value) leaves_frame (λ u. u.shared) (λ o u. refl) _ _ _ _ q run (record { locals = t.locals; shared = with_world t.shared [] }) h

  module _ (F : Facts) (calls : Calls Q W) (calls' : Calls TableOp (List Answer)) (calls_alike : (method : ℕ) (values : List Value) → AlikeThere Q W ask (Option Value) (calls method values) (calls' method values)) where
    enters_alike : (m : Option Method) (f : Option MethodFact) (values : List Value) → AlikeThere Q W ask (Option Value) (enters (P Q W ask never F calls calls' calls_alike) m f values) (enters (L Q W ask never F calls calls' calls_alike) m f values)
    enters_alike (Some m) (Some f) values = record {
      at = λ s. leaves_at (done_by (P Q W ask never F calls calls' calls_alike) f.result m.body (record { locals = first_slots f.slots values; shared = s })) (record { locals = first_slots f.slots values; shared = s }) _ ((done_alike Q W ask never F calls calls' calls_alike f.result m.body).at (record { locals = first_slots f.slots values; shared = s }));
    }
    enters_alike (Some m) None values = pure_alike Q W ask (shared_view W) (Option Value) None
    enters_alike None f values = pure_alike Q W ask (shared_view W) (Option Value) None

  calls_in_alike : (S : Source) (n method : ℕ) (values : List Value) → AlikeThere Q W ask (Option Value) (calls_in ask S n method values) (calls_in by_list S n method values)
  unfolding calls_in
  calls_in_alike S zero method values = throw_alike Q W ask (shared_view W) (Option Value) StackOverflowError
  calls_in_alike S (suc n) method values = enters_alike S.facts (calls_in ask S n) (calls_in by_list S n) (calls_in_alike S n) (by_number S.methods method) (by_number S.facts.methods method) values

  pub exec_follows : (S : Source) (heap : List Object) (world : W) (method : ℕ) (args : List Value) → Follows Q W ask (shared_view W) (Option Value) (exec ask S heap world method args) (record { heap = heap; world = world; prints = []; turns = 0; operations = 0 }) (on_list S heap method args)
  exec_follows S heap world method args = (calls_in_alike S all_frames method (Ref 0 ∷ args)).at (record { heap = heap; world = world; prints = []; turns = 0; operations = 0 })
