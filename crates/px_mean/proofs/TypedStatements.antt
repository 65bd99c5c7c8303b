-- Typed statements keep the heap and the locals typed.
use Rattle.std.proofs.Common.{◌≡◌, ℕ, zero, suc, Bool, true, false, ◌||◌, if◌then◌else◌, List, map, Option, Some, None, slice_get, refl, sym, ap, subst}
use Rattle.px_value.specs.declared.value.Value.{Value}
use Rattle.px_value.specs.declared.object.Object.{Object}
use Rattle.px_value.specs.declared.op.Op.{Op}
use Rattle.px_value.specs.declared.op.Op.TheVariants as op
use Rattle.px_value.specs.declared.thrown.Thrown.TheVariants.{TurnsOut}
use Rattle.px_value.specs.Operators.{apply}
use Rattle.px_value.specs.Outcome.{Outcome, Gives, Throws, Asks, ◌>>=◌, pure, throw, on_shared, Flow, Goes, Returns, goes_on, in_order}
use Rattle.px_tree.specs.declared.Expr.{Expr}
use Rattle.px_tree.specs.declared.Stmt.{Stmt}
use Rattle.px_facts.specs.declared.types.Ty.{Ty}
use Rattle.px_facts.specs.declared.checked.Named.{Named}
use Rattle.px_facts.specs.declared.checked.Named.TheVariants as named
use Rattle.px_facts.specs.declared.checked.Facts.{Facts}
use Rattle.px_mean.specs.Run.{Frame, Here, came_to, turn}
use Rattle.px_mean.specs.Facts.{type_at, named_at, op_of}
use Rattle.px_mean.specs.Effects.{print_line}
use Rattle.px_mean.specs.Operations.{Ask}
use Rattle.px_mean.specs.Expressions.{Calls, Meant, fit, slot_value, assign_slot, is_true, meant}
use Rattle.px_mean.specs.Statements.{Does, goes, write_local, change_local, one, all_turns, loop, done_by}
use Rattle.px_mean.specs.Typed as typed
use Rattle.px_mean.specs.Typing as typing
use Rattle.px_mean.specs.Typed.{HasType}
use Rattle.px_mean.specs.Typing.{Promotes, GivesType, Fits, WritesLocal, IsTypedExpr, IsTypedStmt, AreTypedStmts}
use Rattle.px_mean.specs.TypedRuns.{AnswersTyped}
use Rattle.px_mean.proofs.Forms.{done_block, done_empty, done_local, done_assign, done_compound, done_up, done_down, done_call, done_if, done_while, done_for, done_return, done_print}
use Rattle.px_mean.proofs.TypedHeaps.{Grows, keeps_type}
use Rattle.px_mean.proofs.TypedRuns.{Ended, gives, throws, either}
use Rattle.px_mean.proofs.TypedEffects.{U, OfType, Anything, turn_kept, print_kept}
use Rattle.px_mean.proofs.TypedOperators.{applies}
use Rattle.px_mean.proofs.TypedHere.{frame_kept, KeepsHere, then_here, shared_here, slot_here, assign_here, value_here, came_here, Always, fitted_run, Sound}
use Rattle.px_mean.proofs.TypedExpressions.{P, GivesBack, CallsKept, means_typed}

module _ (Q W : Type 0) (F : Facts) (I : W → Type 0) (slots : List Ty) (ask : Ask Q W) (answers : AnswersTyped F ask I) (calls : Calls Q W) (kept : CallsKept Q W F I calls) (result : Ty) where
  abbrev says : Expr → Meant Q W
  says = meant (P Q W F I slots ask answers calls kept)

  abbrev does : Stmt → Does Q W
  does = done_by (P Q W F I slots ask answers calls kept) result

  abbrev Keeping : List Object → (A : Type 0) → Here Q W A → (List Object → A → Type 0) → Type 0
  Keeping heap A r R = KeepsHere Q W F I slots heap A r R

  bind : {A B : Type 0} (R : List Object → A → Type 0) (S : List Object → B → Type 0) (heap : List Object) (r : Here Q W A) (f : A → Here Q W B) → Keeping heap A r R → ((later : List Object) → Grows heap later → (a : A) → R later a → Keeping later B (f a) S) → Keeping heap B (r >>= f) S
  bind R S heap r f h k = then_here Q W F I slots R S heap r f h k

  means : (x : Expr) → IsTypedExpr F slots x → Sound Q W F I slots (type_at F x.id) (says x)
  means x h = means_typed Q W F I slots ask answers calls kept x h

  -- it goes on only where it can, and gives a value of the result
  abbrev pub Flows : Bool → List Object → Flow Value → Type 0
  Flows c heap Goes = c ≡ true
  Flows c heap (Returns v) = GivesBack result heap v

  abbrev pub Runs : Bool → Does Q W → Type 0
  Runs c r = (heap : List Object) → Keeping heap (Flow Value) r (Flows c)

  went : (c : Bool) → c ≡ true → Runs c (pure Goes)
  went c e heap = gives Q (frame_kept F slots W I) (Flow Value) (Flows c) heap Goes (λ later g. e)

  back_later : (heap later : List Object) → Grows heap later → (v : Option Value) → GivesBack result heap v → GivesBack result later v
  back_later heap later g None h = h
  back_later heap later g (Some v) h = keeps_type heap later g result v h

  left_with : (c : Bool) (heap : List Object) (v : Option Value) → GivesBack result heap v → Keeping heap (Flow Value) (pure (Returns v)) (Flows c)
  left_with c heap v h = gives Q (frame_kept F slots W I) (Flow Value) (Flows c) heap (Returns v) (λ later g. back_later heap later g v h)

  goes_kept : {A : Type 0} (R : List Object → A → Type 0) (r : Here Q W A) → ((heap : List Object) → Keeping heap A r R) → Runs true (goes r)
  goes_kept {A} R r h heap = bind R (Flows true) heap r (λ a. pure Goes) (h heap) (λ later g a k. went true refl later)

  goes_on_kept : (c d : Bool) (rest : Does Q W) (heap : List Object) (f : Flow Value) → (c ≡ true → Runs d rest) → Flows c heap f → Keeping heap (Flow Value) (goes_on rest f) (Flows d)
  goes_on_kept c d rest heap Goes h k = h k heap
  goes_on_kept c d rest heap (Returns v) h k = left_with d heap v k

  one_then : (c d : Bool) (r rest : Does Q W) → Runs c r → (c ≡ true → Runs d rest) → Runs d (r >>= goes_on rest)
  one_then c d r rest h k heap = bind (Flows c) (Flows d) heap r (goes_on rest) (h heap) (λ later g f n. goes_on_kept c d rest later f k n)

  may_go : (c d : Bool) → c ≡ true → (c || d) ≡ true
  may_go c d e = ap (λ (x : Bool). x || d) e

  may_go_other : (c d : Bool) → d ≡ true → (c || d) ≡ true
  may_go_other true d e = refl
  may_go_other false d e = e

  flow_in : (c d : Bool) → (c ≡ true → d ≡ true) → (heap : List Object) (f : Flow Value) → Flows c heap f → Flows d heap f
  flow_in c d h heap Goes k = h k
  flow_in c d h heap (Returns v) k = k

  -- the same run, of which less is said
  runs_in : (c d : Bool) → (c ≡ true → d ≡ true) → (r : Does Q W) → Runs c r → Runs d r
  runs_in c d h r k heap = record { at = λ s g n. weaker s (r s) ((k heap).at s g n) }
    where
      weaker : (s : Frame W) (o : Outcome Q (Frame W) (Flow Value)) → Ended Q (frame_kept F slots W I) (Flow Value) (Flows c) s.shared.heap o → Ended Q (frame_kept F slots W I) (Flow Value) (Flows d) s.shared.heap o
      weaker s (Gives f t) x = (x.0, x.1, flow_in c d h t.shared.heap f x.2)
      weaker s (Throws e t) x = tt
      weaker s (Asks q z) x = tt

  -- ---- locals

  local_written : (n : Named) (slot : ℕ) (t : Ty) (v : Value) (heap : List Object) → n ≡ named.Local slot → slice_get slots slot ≡ Some t → HasType heap t v → Keeping heap U (write_local n v) (Anything U)
  local_written n slot t v heap e d h = subst (λ (k : Named). Keeping heap U (write_local k v) (Anything U)) (sym e) (assign_here Q W F I slots heap slot t v d h)

  local_changed : (n : Named) (slot : ℕ) (t u : Ty) (o : Op) (r : Here Q W Value) → n ≡ named.Local slot → slice_get slots slot ≡ Some t → GivesType o t u t → Always Q W F I slots u r → (heap : List Object) → Keeping heap U (change_local n o r) (Anything U)
  local_changed n slot t u o r e d g h heap =
      subst (λ (k : Named). Keeping heap U (change_local k o r) (Anything U)) (sym e)
      (bind (OfType t) (Anything U) heap (slot_value slot) (λ a. r >>= (λ b. came_to (apply o a b) >>= assign_slot slot)) (slot_here Q W F I slots heap slot t d) (λ later l a p.
      bind (OfType u) (Anything U) later r (λ b. came_to (apply o a b) >>= assign_slot slot) (h later) (λ last m b q.
      bind (OfType t) (Anything U) last (came_to (apply o a b)) (assign_slot slot) (came_here Q W F I slots last t (apply o a b) (applies last o t u t a b g (keeps_type later last m t a p) q)) (λ end i v w. assign_here Q W F I slots end slot t v d w))))

  one_typed : (t : Ty) → Promotes t t t → (heap : List Object) → HasType heap t (one t)
  one_typed _ typing.Promotes.ints heap = typed.HasType.int _
  one_typed _ typing.Promotes.longs heap = typed.HasType.long _

  one_here : (t : Ty) → Promotes t t t → Always Q W F I slots t (pure (one t))
  one_here t p heap = value_here Q W F I slots heap t t (one t) refl (one_typed t p heap)

  compound_kept : (n : Named) (slot : ℕ) (t u : Ty) (o : Ty → Op) (m : Meant Q W) → n ≡ named.Local slot → slice_get slots slot ≡ Some t → GivesType (o u) t u t → Sound Q W F I slots u m → (heap : List Object) → Keeping heap U (change_local n (o m.ty) m.run) (Anything U)
  compound_kept n slot t u o m e d g s heap = subst (λ (w : Ty). Keeping heap U (change_local n (o w) m.run) (Anything U)) (sym s.type_is) (local_changed n slot t u (o u) m.run e d g s.run heap)

  assigned_kept : (t u : Ty) (place m : Meant Q W) → Fits u t → Sound Q W F I slots t place → Sound Q W F I slots u m → (heap : List Object) → Keeping heap U (place.put m.ty m.run) (Anything U)
  assigned_kept t u place m f p s heap = subst (λ (w : Ty). Keeping heap U (place.put w m.run) (Anything U)) (sym s.type_is) (p.put heap u m.run f s.run)

  -- ---- branches and loops

  branch : (t : Ty) (test : Here Q W Value) (c : Bool) (r l : Does Q W) → Always Q W F I slots t test → Runs c r → Runs c l → Runs c (test >>= (λ v. if is_true v then r else l))
  branch t test c r l h k n heap = bind (OfType t) (Flows c) heap test (λ v. if is_true v then r else l) (h heap) (λ later g v p. either Q (frame_kept F slots W I) (Flow Value) (Flows c) later (is_true v) r l (k later) (n later))

  turned : (heap : List Object) (f : U → Does Q W) → ((u : U) → Runs true (f u)) → Keeping heap (Flow Value) (on_shared turn >>= f) (Flows true)
  turned heap f h = bind (Anything U) (Flows true) heap (on_shared turn) f (shared_here Q W F I slots U (Anything U) heap turn (turn_kept Q W F I heap)) (λ later g u k. h u later)

  loop_kept : (t : Ty) (test : Here Q W Value) (c : Bool) (body : Does Q W) → Always Q W F I slots t test → Runs c body → (n : ℕ) → Runs true (loop test body n)
  unfolding loop
  loop_kept t test c body h k zero heap = bind (OfType t) (Flows true) heap test (λ v. on_shared turn >>= (λ u. throw TurnsOut)) (h heap) (λ later g v p. turned later (λ u. throw TurnsOut) (λ u last. throws Q (frame_kept F slots W I) (Flow Value) (Flows true) last TurnsOut))
  loop_kept t test c body h k (suc n) heap = bind (OfType t) (Flows true) heap test (λ v. on_shared turn >>= (λ u. if is_true v then body >>= goes_on (loop test body n) else pure Goes)) (h heap) (λ later g v p.
      turned later (λ u. if is_true v then body >>= goes_on (loop test body n) else pure Goes) (λ u last.
      either Q (frame_kept F slots W I) (Flow Value) (Flows true) last (is_true v) (body >>= goes_on (loop test body n)) (pure Goes) (one_then c true body (loop test body n) k (λ e. loop_kept t test c body h k n) last) (went true refl last)))

  -- ---- all forms

  runs_by : (x : Stmt) (c : Bool) (r : Does Q W) → does x ≡ r → Runs c r → Runs c (does x)
  runs_by x c r e h = subst (λ (k : Does Q W). Runs c k) (sym e) h

  given : (m : Meant Q W) (u : Ty) → Fits u result → Sound Q W F I slots u m → Runs false (m.run >>= fit m.ty result >>= (λ v. pure (Returns (Some v))))
  given m u f s heap = bind (OfType result) (Flows false) heap (m.run >>= fit m.ty result) (λ v. pure (Returns (Some v))) (fitted_run Q W F I slots m u result s f heap) (λ later g v h. left_with false later (Some v) h)

  mutual
    pub done_typed : (c : Bool) (x : Stmt) → IsTypedStmt F slots result c x → Runs c (does x)
    done_typed _ _ (typing.IsTypedStmt.block x items c h a) = runs_by x c (in_order (map does items)) (done_block Q W (P Q W F I slots ask answers calls kept) result x items h) (all_done c items a)
    done_typed _ _ (typing.IsTypedStmt.empty x h) = runs_by x true (pure Goes) (done_empty Q W (P Q W F I slots ask answers calls kept) result x h) (went true refl)
    done_typed _ _ (typing.IsTypedStmt.local x t n value h w f s) =
        runs_by x true _ (done_local Q W (P Q W F I slots ask answers calls kept) result x t n value h)
        (goes_kept (Anything U) ((says value).run >>= fit (says value).ty (type_at F x.id) >>= write_local (named_at F x.id)) (λ heap. bind (OfType (type_at F x.id)) (Anything U) heap ((says value).run >>= fit (says value).ty (type_at F x.id)) (write_local (named_at F x.id)) (fitted_run Q W F I slots (says value) (type_at F value.id) (type_at F x.id) (means value s) f heap) (λ later g v k. local_written (named_at F x.id) w.0 (type_at F x.id) v later w.1 w.2 k)))
    done_typed _ _ (typing.IsTypedStmt.assign x place value h f p s) =
        runs_by x true _ (done_assign Q W (P Q W F I slots ask answers calls kept) result x place value h) (goes_kept (Anything U) ((says place).put (says value).ty (says value).run) (assigned_kept (type_at F place.id) (type_at F value.id) (says place) (says value) f (means place p) (means value s)))
    done_typed _ _ (typing.IsTypedStmt.compound x n s value h w g k) =
        runs_by x true _ (done_compound Q W (P Q W F I slots ask answers calls kept) result x n s value h) (goes_kept (Anything U) _ (compound_kept (named_at F x.id) w.0 (type_at F x.id) (type_at F value.id) (λ u. op_of s (type_at F x.id) u) (says value) w.1 w.2 g (means value k)))
    done_typed _ _ (typing.IsTypedStmt.up x n h w p) =
        runs_by x true _ (done_up Q W (P Q W F I slots ask answers calls kept) result x n h) (goes_kept (Anything U) _ (local_changed (named_at F x.id) w.0 (type_at F x.id) (type_at F x.id) op.Add (pure (one (type_at F x.id))) w.1 w.2 (typing.GivesType.arithmetic op.Add (type_at F x.id) (type_at F x.id) (type_at F x.id) typing.IsArithmetic.add p) (one_here (type_at F x.id) p)))
    done_typed _ _ (typing.IsTypedStmt.down x n h w p) =
        runs_by x true _ (done_down Q W (P Q W F I slots ask answers calls kept) result x n h) (goes_kept (Anything U) _ (local_changed (named_at F x.id) w.0 (type_at F x.id) (type_at F x.id) op.Sub (pure (one (type_at F x.id))) w.1 w.2 (typing.GivesType.arithmetic op.Sub (type_at F x.id) (type_at F x.id) (type_at F x.id) typing.IsArithmetic.sub p) (one_here (type_at F x.id) p)))
    done_typed _ _ (typing.IsTypedStmt.call x value h s) = runs_by x true _ (done_call Q W (P Q W F I slots ask answers calls kept) result x value h) (goes_kept (OfType (type_at F value.id)) (says value).run (means value s).run)
    done_typed _ _ (typing.IsTypedStmt.if_else x test a b c d h s i j) =
        runs_by x (c || d) _ (done_if Q W (P Q W F I slots ask answers calls kept) result x test a a (Some b) h refl) (branch (type_at F test.id) (says test).run (c || d) (does a) (does b) (means test s).run (runs_in c (c || d) (may_go c d) (does a) (done_typed c a i)) (runs_in d (c || d) (may_go_other c d) (does b) (done_typed d b j)))
    done_typed _ _ (typing.IsTypedStmt.if_only x test a c h s i) =
        runs_by x true _ (done_if Q W (P Q W F I slots ask answers calls kept) result x test a a None h refl) (branch (type_at F test.id) (says test).run true (does a) (pure Goes) (means test s).run (runs_in c true (λ e. refl) (does a) (done_typed c a i)) (went true refl))
    done_typed _ _ (typing.IsTypedStmt.while x test body c h s i) =
        runs_by x true _ (done_while Q W (P Q W F I slots ask answers calls kept) result x test body body h refl) (loop_kept (type_at F test.id) (says test).run c (does body) (means test s).run (done_typed c body i) all_turns)
    done_typed _ _ (typing.IsTypedStmt.for_loop x begin test last body b c d h i s j k) =
        runs_by x true _ (done_for Q W (P Q W F I slots ask answers calls kept) result x begin begin test last last body body h refl refl refl)
        (one_then b true (does begin) (loop (says test).run (does body >>= goes_on (does last)) all_turns) (done_typed b begin i) (λ e.
        loop_kept (type_at F test.id) (says test).run c (does body >>= goes_on (does last)) (means test s).run (one_then d c (does body) (does last) (done_typed d body k) (λ f. done_typed c last j)) all_turns))
    done_typed _ _ (typing.IsTypedStmt.leave x h e) = runs_by x false _ (done_return Q W (P Q W F I slots ask answers calls kept) result x None h) (λ heap. left_with false heap None e)
    done_typed _ _ (typing.IsTypedStmt.give x value h f s) = runs_by x false _ (done_return Q W (P Q W F I slots ask answers calls kept) result x (Some value) h) (given (says value) (type_at F value.id) f (means value s))
    done_typed _ _ (typing.IsTypedStmt.print x value h s) =
        runs_by x true _ (done_print Q W (P Q W F I slots ask answers calls kept) result x value h) (goes_kept (Anything U) ((says value).run >>= (λ v. on_shared (print_line v))) (λ heap. bind (OfType (type_at F value.id)) (Anything U) heap (says value).run (λ v. on_shared (print_line v)) ((means value s).run heap) (λ later g v k. shared_here Q W F I slots U (Anything U) later (print_line v) (print_kept Q W F I later v))))

    all_done : (c : Bool) (xs : List Stmt) → AreTypedStmts F slots result c xs → Runs c (in_order (map does xs))
    all_done _ _ typing.AreTypedStmts.none = went true refl
    all_done _ _ (typing.AreTypedStmts.last x c s) = one_then c c (does x) (pure Goes) (done_typed c x s) (λ e. went c e)
    all_done _ _ (typing.AreTypedStmts.more x xs c d s a) = one_then c d (does x) (in_order (map does xs)) (done_typed c x s) (λ e. all_done d xs a)
