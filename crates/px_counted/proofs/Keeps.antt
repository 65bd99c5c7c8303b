-- What marks nothing of its own.
use Rattle.std.proofs.Common.{◌≡◌, ◌+◌, nat_lt, Bool, true, false, if◌then◌else◌, List, Ok, Err, refl, subst}
use Rattle.px_value.specs.declared.value.Value.{Value}
use Rattle.px_value.specs.declared.thrown.Thrown.TheVariants.{TurnsOut}
use Rattle.px_value.specs.declared.statement.TableOp.{TableOp}
use Rattle.px_value.specs.declared.answer.Answer.{Answer}
use Rattle.px_value.specs.Operators.{Applied}
use Rattle.px_value.specs.Outcome.{Outcome, Gives, Throws, Asks, then_run, ◌>>=◌, pure, beside, on_shared}
use Rattle.px_effects.specs.Run.{Shared, There, Ask, in_world, asked, turn, max_turns}
use Rattle.px_effects.specs.Act.{Act, Firsts, acted, landed, left, ended, does}
use Rattle.px_effects.specs.Operations.{Work, Acts, Operates, works, told, Said, Answers, Out, with_said, counted, max_operations}
use Rattle.px_mean.specs.Run.{Frame, Here}
use Rattle.px_counts.specs.Marks.{Mark, Marked, marked_ask}
use Rattle.px_counts.proofs.Beside.{Closed}

module _ (Q W : Type 0) where
  abbrev pub SharedM : Type 0
  SharedM = Shared (Marked W)

  -- the marks behind are these
  abbrev pub MarksThere : (A : Type 0) → Outcome Q SharedM A → List Mark → Type 0
  MarksThere A (Gives a s) ms = s.world.marks ≡ ms
  MarksThere A (Throws t s) ms = s.world.marks ≡ ms
  MarksThere A (Asks q s) ms = s.world.marks ≡ ms

  abbrev pub MarksHere : (A : Type 0) → Outcome Q (Frame (Marked W)) A → List Mark → Type 0
  MarksHere A (Gives a s) ms = s.shared.world.marks ≡ ms
  MarksHere A (Throws t s) ms = s.shared.world.marks ≡ ms
  MarksHere A (Asks q s) ms = s.shared.world.marks ≡ ms

  pub record KeepsThere (A : Type 0) (r : There Q (Marked W) A) : Type 0 where
    pub at : (s : SharedM) → MarksThere A (r s) s.world.marks

  pub record KeepsHere (A : Type 0) (r : Here Q (Marked W) A) : Type 0 where
    pub at : (s : Frame (Marked W)) → MarksHere A (r s) s.shared.world.marks

  then_there_at : (A B : Type 0) (o : Outcome Q SharedM A) (f : A → There Q (Marked W) B) (ms : List Mark) → MarksThere A o ms → ((a : A) → KeepsThere B (f a)) → MarksThere B (then_run o f) ms
  then_there_at A B (Gives a s) f ms h k = subst (λ (x : List Mark). MarksThere B (f a s) x) h ((k a).at s)
  then_there_at A B (Throws t s) f ms h k = h
  then_there_at A B (Asks q s) f ms h k = h

  pub keeps_then_there : (A B : Type 0) (r : There Q (Marked W) A) (f : A → There Q (Marked W) B) → KeepsThere A r → ((a : A) → KeepsThere B (f a)) → KeepsThere B (r >>= f)
  keeps_then_there A B r f h k = record { at = λ s. then_there_at A B (r s) f s.world.marks (h.at s) k }

  then_here_at : (A B : Type 0) (o : Outcome Q (Frame (Marked W)) A) (f : A → Here Q (Marked W) B) (ms : List Mark) → MarksHere A o ms → ((a : A) → KeepsHere B (f a)) → MarksHere B (then_run o f) ms
  then_here_at A B (Gives a s) f ms h k = subst (λ (x : List Mark). MarksHere B (f a s) x) h ((k a).at s)
  then_here_at A B (Throws t s) f ms h k = h
  then_here_at A B (Asks q s) f ms h k = h

  pub keeps_then_here : (A B : Type 0) (r : Here Q (Marked W) A) (f : A → Here Q (Marked W) B) → KeepsHere A r → ((a : A) → KeepsHere B (f a)) → KeepsHere B (r >>= f)
  keeps_then_here A B r f h k = record { at = λ s. then_here_at A B (r s) f s.shared.world.marks (h.at s) k }

  beside_at : (A : Type 0) (locals : List Value) (o : Outcome Q SharedM A) (ms : List Mark) → MarksThere A o ms → MarksHere A (beside locals o) ms
  beside_at A locals (Gives a s) ms h = h
  beside_at A locals (Throws t s) ms h = h
  beside_at A locals (Asks q s) ms h = h

  pub keeps_shared : (A : Type 0) (r : There Q (Marked W) A) → KeepsThere A r → KeepsHere A (on_shared r)
  keeps_shared A r h = record { at = λ s. beside_at A s.locals (r s.shared) s.shared.world.marks (h.at s.shared) }

  turn_at : (b : Bool) (s : SharedM) → MarksThere (Unit {0}) (if b then Gives tt (record s { turns = s.turns + 1 }) else Throws TurnsOut s) s.world.marks
  turn_at true s = refl
  turn_at false s = refl

  pub keeps_turn : KeepsThere (Unit {0}) turn
  keeps_turn = record { at = λ s. turn_at (nat_lt s.turns max_turns) s }

  ended_at : (v : Applied) (s : SharedM) → MarksThere Value (ended v s) s.world.marks
  ended_at (Ok v) s = refl
  ended_at (Err t) s = refl

  pub keeps_act : (firsts : Firsts) (act : Act) → KeepsThere Value (does firsts act)
  keeps_act firsts act = record { at = λ s. let a = acted firsts act s.heap in let l = landed s.prints a.ends in ended_at l.value (left s a l) }

  module _ (ask : Ask Q W) where
    answered_at : (o : TableOp) (s : SharedM) (b : Outcome Q W Answer) → MarksThere Answer (in_world s (marked_ask (λ o' w. b) o s.world)) s.world.marks
    answered_at o s (Gives a w) = refl
    answered_at o s (Throws t w) = refl
    answered_at o s (Asks q w) = refl

    told_at : (o : TableOp) (b : Bool) (s : SharedM) → MarksThere Said (if b then (asked (marked_ask ask) o >>= (λ answer. pure (Answers answer))) (counted s) else Gives Out s) s.world.marks
    told_at o true s = (keeps_then_there Answer Said (asked (marked_ask ask) o) (λ answer. pure (Answers answer)) (record { at = λ s. answered_at o s (ask o s.world.world) }) (λ answer. record { at = λ s. refl })).at (counted s)
    told_at o false s = refl

    pub keeps_work : (firsts : Firsts) (work : Work) (f : Answer → Act) → KeepsThere Value (works firsts (marked_ask ask) work f)
    keeps_work firsts (Acts act) f = keeps_act firsts act
    keeps_work firsts (Operates o) f = keeps_then_there Said Value (told (marked_ask ask) o) (λ said. does firsts (with_said f said)) (record { at = λ s. told_at o (nat_lt s.operations max_operations) s }) (λ said. keeps_act firsts (with_said f said))

    -- each run beside itself
    abbrev pub keeping : Closed Q (Marked W) Q (Marked W) (marked_ask ask) (marked_ask ask)
    keeping = record {
      Shares = λ A r l. KeepsThere A r;
      Frames = λ A r l. KeepsHere A r;
      pure_there = λ A a. record { at = λ s. refl };
      throw_there = λ A t. record { at = λ s. refl };
      then_there = λ A B r l f g h k. keeps_then_there A B r f h k;
      turns = keeps_turn;
      acts_alike = keeps_act;
      works_alike = keeps_work;
      pure_here = λ A a. record { at = λ s. refl };
      throw_here = λ A t. record { at = λ s. refl };
      then_here = λ A B r l f g h k. keeps_then_here A B r f h k;
      shared_here = λ A r l h. keeps_shared A r h;
      slots = λ slot. record { at = λ s. refl };
      assigns = λ slot v. record { at = λ s. refl };
    }
