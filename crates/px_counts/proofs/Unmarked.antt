-- A run with marks is the run, once its marks are taken away.
use Rattle.std.proofs.Common.{◌≡◌, ℕ, zero, suc, ◌+◌, nat_lt, Bool, true, false, if◌then◌else◌, List, [], ◌∷◌, ◌++◌, Option, Some, None, Ok, Err, refl, ap, ◌∙◌}
use Rattle.px_value.specs.declared.value.Value.{Value}
use Rattle.px_value.specs.declared.value.Value.TheVariants.{Ref}
use Rattle.px_value.specs.declared.object.Object.{Object}
use Rattle.px_value.specs.declared.thrown.Thrown.TheVariants.{TurnsOut}
use Rattle.px_value.specs.declared.statement.TableOp.{TableOp}
use Rattle.px_value.specs.declared.answer.Answer.{Answer}
use Rattle.px_value.specs.Operators.{Applied}
use Rattle.px_value.specs.Outcome.{Outcome, Gives, Throws, Asks, then_run, ◌>>=◌, pure, beside, on_shared, Flow, Goes, Returns}
use Rattle.px_tree.specs.declared.Expr.{Expr}
use Rattle.px_tree.specs.declared.Stmt.{Stmt}
use Rattle.px_tree.specs.declared.Method.{Method}
use Rattle.px_facts.specs.declared.types.Ty.{Ty}
use Rattle.px_facts.specs.declared.checked.MethodFact.{MethodFact}
use Rattle.px_facts.specs.declared.checked.Facts.{Facts}
use Rattle.px_effects.specs.Run.{Shared, There, Ask, in_world, asked, turn, max_turns}
use Rattle.px_effects.specs.Act.{Act, Firsts, acted, landed, left, ended, does}
use Rattle.px_effects.specs.Operations.{Work, Acts, Operates, works, told, Said, Answers, Out, with_said, counted, max_operations}
use Rattle.px_mean.specs.Run.{Frame, Here}
use Rattle.px_mean.specs.Facts.{by_number}
use Rattle.px_mean.specs.Expressions.{Calls, Around, Meant, expr_step, meant}
use Rattle.px_mean.specs.Statements.{Does, stmt_step, done_by}
use Rattle.px_mean.specs.Calls.{Source, first_slots, leaves_frame, enters, calls_in}
use Rattle.px_mean.specs.Entry.{all_frames, exec}
use Rattle.px_counts.specs.Marks.{Mark, Entered, Marked, marked_ask, mark_here, unmarked_state, unmarked}
use Rattle.px_counts.specs.Runs.{marked_meant, meant_with_marks, completed, marked_does, done_with_marks, reached, enters_with_marks, calls_with_marks, exec_with_marks}
use Rattle.px_mean.proofs.Folds.{lefts, rights, exprs_meet, left_parts, right_parts, stmts_meet}
use Rattle.px_counts.proofs.Beside.{Closed, Like, expr_alike, stmt_alike}

module _ (Q W : Type 0) where
  abbrev U : Type 0
  U = Unit {0}

  abbrev pub unmarked_frame : Frame (Marked W) → Frame W
  unmarked_frame s = record { locals = s.locals; shared = unmarked_state s.shared }

  abbrev pub unmarked_here : (A : Type 0) → Outcome Q (Frame (Marked W)) A → Outcome Q (Frame W) A
  unmarked_here A (Gives a s) = Gives a (unmarked_frame s)
  unmarked_here A (Throws t s) = Throws t (unmarked_frame s)
  unmarked_here A (Asks q s) = Asks q (unmarked_frame s)

  pub record SameThere (A : Type 0) (r : There Q (Marked W) A) (l : There Q W A) : Type 0 where
    pub at : (s : Shared (Marked W)) → unmarked (r s) ≡ l (unmarked_state s)

  pub record SameHere (A : Type 0) (r : Here Q (Marked W) A) (l : Here Q W A) : Type 0 where
    pub at : (s : Frame (Marked W)) → unmarked_here A (r s) ≡ l (unmarked_frame s)

  -- ---- one after the other

  then_there_at : (A B : Type 0) (o : Outcome Q (Shared (Marked W)) A) (f : A → There Q (Marked W) B) (g : A → There Q W B) → ((a : A) → SameThere B (f a) (g a)) → unmarked (then_run o f) ≡ then_run (unmarked o) g
  then_there_at A B (Gives a s) f g k = (k a).at s
  then_there_at A B (Throws t s) f g k = refl
  then_there_at A B (Asks q s) f g k = refl

  pub same_then_there : (A B : Type 0) (r : There Q (Marked W) A) (l : There Q W A) (f : A → There Q (Marked W) B) (g : A → There Q W B) → SameThere A r l → ((a : A) → SameThere B (f a) (g a)) → SameThere B (r >>= f) (l >>= g)
  same_then_there A B r l f g h k = record { at = λ s. then_there_at A B (r s) f g k ∙ ap (λ (o : Outcome Q (Shared W) A). then_run o g) (h.at s) }

  then_here_at : (A B : Type 0) (o : Outcome Q (Frame (Marked W)) A) (f : A → Here Q (Marked W) B) (g : A → Here Q W B) → ((a : A) → SameHere B (f a) (g a)) → unmarked_here B (then_run o f) ≡ then_run (unmarked_here A o) g
  then_here_at A B (Gives a s) f g k = (k a).at s
  then_here_at A B (Throws t s) f g k = refl
  then_here_at A B (Asks q s) f g k = refl

  pub same_then_here : (A B : Type 0) (r : Here Q (Marked W) A) (l : Here Q W A) (f : A → Here Q (Marked W) B) (g : A → Here Q W B) → SameHere A r l → ((a : A) → SameHere B (f a) (g a)) → SameHere B (r >>= f) (l >>= g)
  same_then_here A B r l f g h k = record { at = λ s. then_here_at A B (r s) f g k ∙ ap (λ (o : Outcome Q (Frame W) A). then_run o g) (h.at s) }

  beside_at : (A : Type 0) (locals : List Value) (o : Outcome Q (Shared (Marked W)) A) → unmarked_here A (beside locals o) ≡ beside locals (unmarked o)
  beside_at A locals (Gives a s) = refl
  beside_at A locals (Throws t s) = refl
  beside_at A locals (Asks q s) = refl

  pub same_shared : (A : Type 0) (r : There Q (Marked W) A) (l : There Q W A) → SameThere A r l → SameHere A (on_shared r) (on_shared l)
  same_shared A r l h = record { at = λ s. beside_at A s.locals (r s.shared) ∙ ap (λ (o : Outcome Q (Shared W) A). beside s.locals o) (h.at s.shared) }

  -- ---- effects

  turn_at : (b : Bool) (s : Shared (Marked W)) → unmarked {Q = Q} {W = W} {A = U} (if b then Gives tt (record s { turns = s.turns + 1 }) else Throws TurnsOut s) ≡ (if b then Gives tt (record (unmarked_state s) { turns = s.turns + 1 }) else Throws TurnsOut (unmarked_state s))
  turn_at true s = refl
  turn_at false s = refl

  pub same_turn : SameThere U turn turn
  same_turn = record { at = λ s. turn_at (nat_lt s.turns max_turns) s }

  ended_at : (v : Applied) (s : Shared (Marked W)) → unmarked {Q = Q} {W = W} {A = Value} (ended v s) ≡ ended v (unmarked_state s)
  ended_at (Ok v) s = refl
  ended_at (Err t) s = refl

  pub same_act : (firsts : Firsts) (act : Act) → SameThere Value (does firsts act) (does firsts act)
  same_act firsts act = record { at = λ s. let a = acted firsts act s.heap in let l = landed s.prints a.ends in ended_at l.value (left s a l) }

  module _ (ask : Ask Q W) where
    answered_at : (o : TableOp) (s : Shared (Marked W)) (b : Outcome Q W Answer) → unmarked (in_world s (marked_ask (λ o' w. b) o s.world)) ≡ in_world (unmarked_state s) b
    answered_at o s (Gives a w) = refl
    answered_at o s (Throws t w) = refl
    answered_at o s (Asks q w) = refl

    pub same_asked : (o : TableOp) → SameThere Answer (asked (marked_ask ask) o) (asked ask o)
    same_asked o = record { at = λ s. answered_at o s (ask o s.world.world) }

    told_at : (o : TableOp) (b : Bool) (s : Shared (Marked W)) → unmarked (if b then (asked (marked_ask ask) o >>= (λ answer. pure (Answers answer))) (counted s) else Gives Out s) ≡ (if b then (asked ask o >>= (λ answer. pure (Answers answer))) (counted (unmarked_state s)) else Gives Out (unmarked_state s))
    told_at o true s = (same_then_there Answer Said (asked (marked_ask ask) o) (asked ask o) (λ answer. pure (Answers answer)) (λ answer. pure (Answers answer)) (same_asked o) (λ answer. record { at = λ s. refl })).at (counted s)
    told_at o false s = refl

    pub same_told : (o : TableOp) → SameThere Said (told (marked_ask ask) o) (told ask o)
    same_told o = record { at = λ s. told_at o (nat_lt s.operations max_operations) s }

    pub same_work : (firsts : Firsts) (work : Work) (f : Answer → Act) → SameThere Value (works firsts (marked_ask ask) work f) (works firsts ask work f)
    same_work firsts (Acts act) f = same_act firsts act
    same_work firsts (Operates o) f = same_then_there Said Value (told (marked_ask ask) o) (told ask o) (λ said. does firsts (with_said f said)) (λ said. does firsts (with_said f said)) (same_told o) (λ said. same_act firsts (with_said f said))

    abbrev pub unmarking : Closed Q (Marked W) Q W (marked_ask ask) ask
    unmarking = record {
      Shares = SameThere;
      Frames = SameHere;
      pure_there = λ A a. record { at = λ s. refl };
      throw_there = λ A t. record { at = λ s. refl };
      then_there = same_then_there;
      turns = same_turn;
      acts_alike = same_act;
      works_alike = same_work;
      pure_here = λ A a. record { at = λ s. refl };
      throw_here = λ A t. record { at = λ s. refl };
      then_here = same_then_here;
      shared_here = same_shared;
      slots = λ slot. record { at = λ s. refl };
      assigns = λ slot v. record { at = λ s. refl };
    }

    -- ---- marks

    marks_nothing : (A : Type 0) (m : Mark) (r : Here Q (Marked W) A) (l : Here Q W A) → SameHere A r l → SameHere A (mark_here m >>= (λ u. r)) l
    marks_nothing A m r l h = record { at = λ s. h.at (record s { shared = record s.shared { world = record s.shared.world { marks = s.shared.world.marks ++ m ∷ [] } } }) }

    abbrev pub Same : Meant Q (Marked W) → Meant Q W → Type 0
    Same m m' = Like Q (Marked W) Q W (marked_ask ask) ask unmarking m m'

    gives_at : (A : Type 0) (o : Outcome Q (Frame W) A) → then_run o (λ a. pure a) ≡ o
    gives_at A (Gives a s) = refl
    gives_at A (Throws t s) = refl
    gives_at A (Asks q s) = refl

    -- what follows a run adds marks alone
    then_marks : (A : Type 0) (r : Here Q (Marked W) A) (l : Here Q W A) (f : A → Here Q (Marked W) A) → SameHere A r l → ((a : A) → SameHere A (f a) (pure a)) → SameHere A (r >>= f) l
    then_marks A r l f h k = record { at = λ s. (same_then_here A A r l f (λ a. pure a) h k).at s ∙ gives_at A (l (unmarked_frame s)) }

    marked_meant_alike : (id : ℕ) (m : Meant Q (Marked W)) (m' : Meant Q W) → Same m m' → Same (marked_meant id m) m'
    marked_meant_alike id m m' h = record {
      ty = h.ty;
      run = marks_nothing Value _ _ m'.run (then_marks Value m.run m'.run _ h.run (λ v. record { at = λ s. refl }));
      put = h.put;
    }

    abbrev pub Alike : Does Q (Marked W) → Does Q W → Type 0
    Alike r l = SameHere (Flow Value) r l

    completed_alike : (id : ℕ) (f : Flow Value) → Alike (completed id f) (pure f)
    completed_alike id Goes = record { at = λ s. refl }
    completed_alike id (Returns v) = record { at = λ s. refl }

    reached_alike : (method : ℕ) (f : Flow Value) → Alike (reached method f) (pure f)
    reached_alike method Goes = record { at = λ s. refl }
    reached_alike method (Returns v) = record { at = λ s. refl }

    marked_does_alike : (id : ℕ) (r : Does Q (Marked W)) (l : Does Q W) → Alike r l → Alike (marked_does id r) l
    marked_does_alike id r l h = marks_nothing (Flow Value) _ _ l (then_marks (Flow Value) r l _ h (completed_alike id))

    -- ---- the program

    module _ (F : Facts) (calls : Calls Q (Marked W)) (calls' : Calls Q W) (calls_alike : (method : ℕ) (values : List Value) → SameThere (Option Value) (calls method values) (calls' method values)) where
      abbrev pub Left : Around Q (Marked W)
      Left = record { facts = F; ask = marked_ask ask; calls = calls }

      abbrev pub Right : Around Q W
      Right = record { facts = F; ask = ask; calls = calls' }

      pub meant_alike : (x : Expr) → Same (meant_with_marks Left x) (meant Right x)
      unfolding meant_with_marks meant
      meant_alike x = exprs_meet (Meant Q (Marked W)) (Meant Q W) (λ form id. marked_meant id (expr_step Left form id)) (expr_step Right) Same
          (λ z i. marked_meant_alike i (expr_step Left (lefts (Meant Q (Marked W)) (Meant Q W) Same z) i) (expr_step Right (rights (Meant Q (Marked W)) (Meant Q W) Same z) i) (expr_alike Q (Marked W) Q W (marked_ask ask) ask unmarking F calls calls' calls_alike z i)) x

      pub done_alike : (result : Ty) (x : Stmt) → Alike (done_with_marks Left result x) (done_by Right result x)
      unfolding done_with_marks done_by
      done_alike result x = stmts_meet (Does Q (Marked W)) (Does Q W) (λ form id. marked_does id (stmt_step F (meant_with_marks Left) result form id)) (stmt_step F (meant Right) result) Alike
          (λ z i. marked_does_alike i (stmt_step F (meant_with_marks Left) result (left_parts (Does Q (Marked W)) (Does Q W) Alike z) i) (stmt_step F (meant Right) result (right_parts (Does Q (Marked W)) (Does Q W) Alike z) i) (stmt_alike Q (Marked W) Q W (marked_ask ask) ask unmarking F (meant_with_marks Left) (meant Right) meant_alike result z i)) x

      leaves_at : (o : Outcome Q (Frame (Marked W)) (Flow Value)) → unmarked (leaves_frame o) ≡ leaves_frame (unmarked_here (Flow Value) o)
      leaves_at (Gives flow s) = refl
      leaves_at (Throws t s) = refl
      leaves_at (Asks q s) = refl

      leaves_alike : (locals : List Value) (r : Does Q (Marked W)) (l : Does Q W) → Alike r l → SameThere (Option Value) (λ s. leaves_frame (r (record { locals = locals; shared = s }))) (λ s. leaves_frame (l (record { locals = locals; shared = s })))
      leaves_alike locals r l h = record { at = λ s. leaves_at (r (record { locals = locals; shared = s })) ∙ ap (λ (o : Outcome Q (Frame W) (Flow Value)). leaves_frame o) (h.at (record { locals = locals; shared = s })) }

      enters_alike : (number : ℕ) (m : Option Method) (f : Option MethodFact) (values : List Value) → SameThere (Option Value) (enters_with_marks Left number m f values) (enters Right m f values)
      enters_alike number (Some m) (Some f) values = record {
        at = λ s. (leaves_alike (first_slots f.slots values) (done_with_marks Left f.result m.body >>= reached number) (done_by Right f.result m.body) (then_marks (Flow Value) _ _ (reached number) (done_alike f.result m.body) (reached_alike number))).at (record s { world = record s.world { marks = s.world.marks ++ Entered number ∷ [] } });
      }
      enters_alike number (Some m) None values = record { at = λ s. refl }
      enters_alike number None f values = record { at = λ s. refl }

    pub calls_alike : (S : Source) (n method : ℕ) (values : List Value) → SameThere (Option Value) (calls_with_marks ask S n method values) (calls_in ask S n method values)
    unfolding calls_with_marks calls_in
    calls_alike S zero method values = record { at = λ s. refl }
    calls_alike S (suc n) method values = enters_alike S.facts (calls_with_marks ask S n) (calls_in ask S n) (calls_alike S n) method (by_number S.methods method) (by_number S.facts.methods method) values

    pub exec_unmarked : (S : Source) (heap : List Object) (world : W) (method : ℕ) (args : List Value) → unmarked (exec_with_marks ask S heap world method args) ≡ exec ask S heap world method args
    exec_unmarked S heap world method args = (calls_alike S all_frames method (Ref 0 ∷ args)).at _
