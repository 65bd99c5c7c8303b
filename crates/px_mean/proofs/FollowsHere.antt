-- What expressions mean and statements do, beside what they do on a list.
use Rattle.std.proofs.Common.{◌≡◌, ℕ, zero, suc, ◌+◌, Bool, true, false, if◌then◌else◌, List, [], ◌∷◌, map, drop, Option, Some, None, option_map, unwrap_or, slice_index_or, Result, refl, subst}
use Rattle.px_value.specs.declared.value.Value.{Value}
use Rattle.px_value.specs.declared.value.Value.TheVariants.{Null, Bool as Truth, Text}
use Rattle.px_value.specs.declared.op.Op.{Op}
use Rattle.px_value.specs.declared.op.Op.TheVariants as op
use Rattle.px_value.specs.declared.thrown.Thrown.{Thrown}
use Rattle.px_value.specs.declared.thrown.Thrown.TheVariants.{TurnsOut}
use Rattle.px_value.specs.declared.statement.TableOp.{TableOp}
use Rattle.px_value.specs.declared.answer.Answer.{Answer}
use Rattle.px_value.specs.Operators.{apply}
use Rattle.px_value.specs.Outcome.{Outcome, Gives, Throws, Asks, ◌>>=◌, pure, beside, on_shared, Flow, Goes, Returns, goes_on}
use Rattle.px_tree.specs.declared.Sign.{Sign}
use Rattle.px_tree.specs.declared.Expr.{Expr}
use Rattle.px_tree.specs.declared.ExprForm.{ExprForm-F}
use Rattle.px_tree.specs.declared.ExprForm.TheOpen.{ExprForm-F as e}
use Rattle.px_tree.specs.declared.Stmt.{Stmt}
use Rattle.px_tree.specs.declared.StmtForm.{StmtForm-F}
use Rattle.px_tree.specs.declared.StmtForm.TheOpen.{StmtForm-F as st}
use Rattle.px_facts.specs.declared.types.Ty.{Ty}
use Rattle.px_facts.specs.declared.types.Ty.TheVariants as ty
use Rattle.px_facts.specs.declared.checked.Named.{Named}
use Rattle.px_facts.specs.declared.checked.Named.TheVariants as named
use Rattle.px_facts.specs.declared.checked.Facts.{Facts}
use Rattle.px_mean.specs.Run.{Shared, Frame, Here, There, came_to, turn}
use Rattle.px_mean.specs.Facts.{type_at, named_at, by_number, fields_of, params_of, op_of, prefix_of}
use Rattle.px_mean.specs.Effects.{reference}
use Rattle.px_mean.specs.Operations.{Ask}
use Rattle.px_mean.specs.Asks.{by_list}
use Rattle.px_mean.specs.Expressions.{Calls, Around, Meant, no_place, widened, fit, literal, slot_value, assign_slot, name_value, put_name, member_value, put_member, fitted, receiver, value_at, call_method, invoke, is_operation, called, made_object, made_array, prefixed, decides, combined, binary, is_true, expr_step, meant}
use Rattle.px_mean.specs.Statements.{Does, goes, write_local, change_local, one, all_turns, loop, or_goes, returned, stmt_step, done_by}
use Rattle.px_mean.specs.Laws.{with_world}
use Rattle.px_mean.proofs.Follows.{View, Follows, Alike, reaches_now, pure_alike, throw_alike, bind, came_alike, AllAlike, gather_alike, goes_on_alike, in_order_alike, carried, carried_open}
use Rattle.px_mean.proofs.FollowsThere.{NeverThrows, shared_view, AlikeThere, turn_alike, print_alike, get_alike, put_alike, array_length_alike, load_alike, store_alike, object_alike, array_alike, next_alike, long_alike, string_alike, query_alike, update_alike, then_there, came_there}
use Rattle.px_mean.proofs.Folds.{Both, Later, lefts, rights, exprs_meet, left_parts, right_parts, stmts_meet}

abbrev pub frame_view : (W : Type 0) → View W
frame_view W = record { Near = Frame W; Far = Frame (List Answer); world = λ s. s.shared.world; count = λ s. s.shared.operations; written = λ s x. record { locals = s.locals; shared = with_world s.shared x } }

module _ (Q W : Type 0) (ask : Ask Q W) where
  abbrev pub AlikeHere : (A : Type 0) → Here Q W A → Here TableOp (List Answer) A → Type 0
  AlikeHere A r l = Alike Q W ask (frame_view W) A r l

  abbrev U : Type 0
  U = Unit {0}

  then_here : {A B : Type 0} {r : Here Q W A} {l : Here TableOp (List Answer) A} {f : A → Here Q W B} {g : A → Here TableOp (List Answer) B} → AlikeHere A r l → ((a : A) → AlikeHere B (f a) (g a)) → AlikeHere B (r >>= f) (l >>= g)
  then_here h k = bind Q W ask (frame_view W) h k

  pure_here : (A : Type 0) (a : A) → AlikeHere A (pure a) (pure a)
  pure_here A a = pure_alike Q W ask (frame_view W) A a

  came_here : {A : Type 0} (x : Result A Thrown) → AlikeHere A (came_to x) (came_to x)
  came_here x = came_alike Q W ask (frame_view W) x

  beside_at : (A : Type 0) (s : Frame W) (o : Outcome Q (Shared W) A) (run : List Answer → Outcome TableOp (Shared (List Answer)) A) → Follows Q W ask (shared_view W) A o s.shared run → Follows Q W ask (frame_view W) A (beside s.locals o) s (λ x. beside s.locals (run x))
  beside_at A s (Gives a t) run h = carried Q W ask (Shared (List Answer)) (Frame (List Answer)) A A (beside s.locals) (λ t. record { locals = s.locals; shared = t }) (λ o t. refl) _ _ _ _ run (λ x. Gives a (with_world t x)) h
  beside_at A s (Throws e t) run h = carried Q W ask (Shared (List Answer)) (Frame (List Answer)) A A (beside s.locals) (λ t. record { locals = s.locals; shared = t }) (λ o t. refl) _ _ _ _ run (λ x. Throws e (with_world t x)) h
  beside_at A s (Asks q t) run h = carried_open Q W ask (Shared (List Answer)) (Frame (List Answer)) A A (beside s.locals) (λ u. record { locals = s.locals; shared = u }) (λ o u. refl) _ _ _ _ q run (with_world t []) h

  shared_alike : {A : Type 0} {r : There Q W A} {l : There TableOp (List Answer) A} → AlikeThere Q W ask A r l → AlikeHere A (on_shared r) (on_shared l)
  shared_alike {A} {r} {l} h = record { at = λ s. beside_at A s (r s.shared) (λ x. l (with_world s.shared x)) (h.at s.shared) }

  -- ---- values and names

  fit_alike : (from from' to : Ty) → from ≡ from' → (v : Value) → AlikeHere Value (fit from to v) (fit from' to v)
  fit_alike from from' to h v = subst (λ (t : Ty). AlikeHere Value (fit from to v) (fit t to v)) h (came_here (widened from to v))

  slot_alike : (slot : ℕ) → AlikeHere Value (slot_value slot) (slot_value slot)
  slot_alike slot = record { at = λ s. reaches_now Q W ask (Frame (List Answer)) Value s.shared.world s.shared.operations _ _ (λ more. refl) }

  assign_alike : (slot : ℕ) (v : Value) → AlikeHere U (assign_slot slot v) (assign_slot slot v)
  assign_alike slot v = record { at = λ s. reaches_now Q W ask (Frame (List Answer)) U s.shared.world s.shared.operations _ _ (λ more. refl) }

  -- what an expression means is alike
  pub record Like (m : Meant Q W) (m' : Meant TableOp (List Answer)) : Type 0 where
    pub ty : m.ty ≡ m'.ty
    pub run : AlikeHere Value m.run m'.run
    pub put : (from : Ty) (r : Here Q W Value) (l : Here TableOp (List Answer) Value) → AlikeHere Value r l → AlikeHere U (m.put from r) (m'.put from l)

  no_place_alike : (t : Ty) (r : Here Q W Value) (l : Here TableOp (List Answer) Value) → AlikeHere Value r l → Like (no_place t r) (no_place t l)
  no_place_alike t r l h = record { ty = refl; run = h; put = λ from r' l' h'. pure_here U tt }

  name_alike : (n : Named) → AlikeHere Value (name_value n) (name_value n)
  name_alike (named.Local slot) = slot_alike slot
  name_alike (named.Field class place) = then_here (slot_alike 0) (λ o. shared_alike (get_alike Q W ask o place))
  name_alike named.Nothing = pure_here Value Null
  name_alike (named.Method method) = pure_here Value Null
  name_alike (named.NewObject class site) = pure_here Value Null
  name_alike (named.NewArray site) = pure_here Value Null
  name_alike named.ArrayLength = pure_here Value Null
  name_alike named.TextLength = pure_here Value Null
  name_alike named.TextEquals = pure_here Value Null
  name_alike named.Database = pure_here Value Null
  name_alike (named.Query number site) = pure_here Value Null
  name_alike (named.Update number) = pure_here Value Null
  name_alike named.Next = pure_here Value Null
  name_alike named.GetLong = pure_here Value Null
  name_alike named.GetString = pure_here Value Null

  put_name_alike : (n : Named) (to from : Ty) (r : Here Q W Value) (l : Here TableOp (List Answer) Value) → AlikeHere Value r l → AlikeHere U (put_name n to from r) (put_name n to from l)
  put_name_alike (named.Local slot) to from r l h = then_here (then_here h (λ v. came_here (widened from to v))) (assign_alike slot)
  put_name_alike (named.Field class place) to from r l h = then_here (slot_alike 0) (λ o. then_here (then_here h (λ v. came_here (widened from to v))) (λ v. shared_alike (put_alike Q W ask o place v)))
  put_name_alike named.Nothing to from r l h = pure_here U tt
  put_name_alike (named.Method method) to from r l h = pure_here U tt
  put_name_alike (named.NewObject class site) to from r l h = pure_here U tt
  put_name_alike (named.NewArray site) to from r l h = pure_here U tt
  put_name_alike named.ArrayLength to from r l h = pure_here U tt
  put_name_alike named.TextLength to from r l h = pure_here U tt
  put_name_alike named.TextEquals to from r l h = pure_here U tt
  put_name_alike named.Database to from r l h = pure_here U tt
  put_name_alike (named.Query number site) to from r l h = pure_here U tt
  put_name_alike (named.Update number) to from r l h = pure_here U tt
  put_name_alike named.Next to from r l h = pure_here U tt
  put_name_alike named.GetLong to from r l h = pure_here U tt
  put_name_alike named.GetString to from r l h = pure_here U tt

  member_alike : (n : Named) (o : Value) → AlikeHere Value (member_value n o) (member_value n o)
  member_alike (named.Field class place) o = shared_alike (get_alike Q W ask o place)
  member_alike named.ArrayLength o = shared_alike (array_length_alike Q W ask o)
  member_alike named.Nothing o = pure_here Value Null
  member_alike (named.Local slot) o = pure_here Value Null
  member_alike (named.Method method) o = pure_here Value Null
  member_alike (named.NewObject class site) o = pure_here Value Null
  member_alike (named.NewArray site) o = pure_here Value Null
  member_alike named.TextLength o = pure_here Value Null
  member_alike named.TextEquals o = pure_here Value Null
  member_alike named.Database o = pure_here Value Null
  member_alike (named.Query number site) o = pure_here Value Null
  member_alike (named.Update number) o = pure_here Value Null
  member_alike named.Next o = pure_here Value Null
  member_alike named.GetLong o = pure_here Value Null
  member_alike named.GetString o = pure_here Value Null

  put_member_alike : (n : Named) (o v : Value) → AlikeHere U (put_member n o v) (put_member n o v)
  put_member_alike (named.Field class place) o v = shared_alike (put_alike Q W ask o place v)
  put_member_alike named.Nothing o v = pure_here U tt
  put_member_alike (named.Local slot) o v = pure_here U tt
  put_member_alike (named.Method method) o v = pure_here U tt
  put_member_alike (named.NewObject class site) o v = pure_here U tt
  put_member_alike (named.NewArray site) o v = pure_here U tt
  put_member_alike named.ArrayLength o v = pure_here U tt
  put_member_alike named.TextLength o v = pure_here U tt
  put_member_alike named.TextEquals o v = pure_here U tt
  put_member_alike named.Database o v = pure_here U tt
  put_member_alike (named.Query number site) o v = pure_here U tt
  put_member_alike (named.Update number) o v = pure_here U tt
  put_member_alike named.Next o v = pure_here U tt
  put_member_alike named.GetLong o v = pure_here U tt
  put_member_alike named.GetString o v = pure_here U tt

  object_here : (F : Facts) (n : Named) → AlikeHere Value (made_object F n) (made_object F n)
  object_here F (named.NewObject class site) = shared_alike (object_alike Q W ask class site (fields_of F class))
  object_here F named.Nothing = pure_here Value Null
  object_here F (named.Local slot) = pure_here Value Null
  object_here F (named.Field class place) = pure_here Value Null
  object_here F (named.Method method) = pure_here Value Null
  object_here F (named.NewArray site) = pure_here Value Null
  object_here F named.ArrayLength = pure_here Value Null
  object_here F named.TextLength = pure_here Value Null
  object_here F named.TextEquals = pure_here Value Null
  object_here F named.Database = pure_here Value Null
  object_here F (named.Query number site) = pure_here Value Null
  object_here F (named.Update number) = pure_here Value Null
  object_here F named.Next = pure_here Value Null
  object_here F named.GetLong = pure_here Value Null
  object_here F named.GetString = pure_here Value Null

  array_here : (n : Named) (t : Ty) (size : Value) → AlikeHere Value (made_array n t size) (made_array n t size)
  array_here (named.NewArray site) t size = shared_alike (array_alike Q W ask site t size)
  array_here named.Nothing t size = pure_here Value Null
  array_here (named.Local slot) t size = pure_here Value Null
  array_here (named.Field class place) t size = pure_here Value Null
  array_here (named.Method method) t size = pure_here Value Null
  array_here (named.NewObject class site) t size = pure_here Value Null
  array_here named.ArrayLength t size = pure_here Value Null
  array_here named.TextLength t size = pure_here Value Null
  array_here named.TextEquals t size = pure_here Value Null
  array_here named.Database t size = pure_here Value Null
  array_here (named.Query number site) t size = pure_here Value Null
  array_here (named.Update number) t size = pure_here Value Null
  array_here named.Next t size = pure_here Value Null
  array_here named.GetLong t size = pure_here Value Null
  array_here named.GetString t size = pure_here Value Null

  -- ---- operators

  either_here : (A : Type 0) (b : Bool) (r r' : Here Q W A) (l l' : Here TableOp (List Answer) A) → AlikeHere A r l → AlikeHere A r' l' → AlikeHere A (if b then r else r') (if b then l else l')
  either_here A true r r' l l' h k = h
  either_here A false r r' l l' h k = k

  binary_same : (s : Sign) (t u : Ty) (r r' : Here Q W Value) (l l' : Here TableOp (List Answer) Value) → AlikeHere Value r l → AlikeHere Value r' l' → AlikeHere Value (binary s t u r r') (binary s t u l l')
  binary_same s t u r r' l l' h k = then_here h (λ a. either_here Value (decides s a) (pure a) (r' >>= (λ b. came_to (combined s t u a b))) (pure a) (l' >>= (λ b. came_to (combined s t u a b))) (pure_here Value a) (then_here k (λ b. came_here (combined s t u a b))))

  binary_alike : (s : Sign) (m n : Meant Q W) (m' n' : Meant TableOp (List Answer)) → Like m m' → Like n n' → AlikeHere Value (binary s m.ty n.ty m.run n.run) (binary s m'.ty n'.ty m'.run n'.run)
  binary_alike s m n m' n' h k = subst (λ (t : Ty). AlikeHere Value (binary s m.ty n.ty m.run n.run) (binary s t n'.ty m'.run n'.run)) h.ty (subst (λ (t : Ty). AlikeHere Value (binary s m.ty n.ty m.run n.run) (binary s m.ty t m'.run n'.run)) k.ty (binary_same s m.ty n.ty m.run n.run m'.run n'.run h.run k.run))

  prefix_alike : (s : Sign) (m : Meant Q W) (m' : Meant TableOp (List Answer)) → Like m m' → AlikeHere Value (m.run >>= (λ v. came_to (prefixed (prefix_of s m.ty) v))) (m'.run >>= (λ v. came_to (prefixed (prefix_of s m'.ty) v)))
  prefix_alike s m m' h = subst (λ (t : Ty). AlikeHere Value (m.run >>= (λ v. came_to (prefixed (prefix_of s m.ty) v))) (m'.run >>= (λ v. came_to (prefixed (prefix_of s t) v)))) h.ty (then_here h.run (λ v. came_here (prefixed (prefix_of s m.ty) v)))

  fitted_run : (to : Ty) (m : Meant Q W) (m' : Meant TableOp (List Answer)) → Like m m' → AlikeHere Value (m.run >>= fit m.ty to) (m'.run >>= fit m'.ty to)
  fitted_run to m m' h = then_here h.run (fit_alike m.ty m'.ty to h.ty)

  -- ---- calls

  module _ (never : NeverThrows Q W ask) (F : Facts) (calls : Calls Q W) (calls' : Calls TableOp (List Answer)) (calls_alike : (method : ℕ) (values : List Value) → AlikeThere Q W ask (Option Value) (calls method values) (calls' method values)) where
    abbrev pub P : Around Q W
    P = record { facts = F; ask = ask; calls = calls }

    abbrev pub L : Around TableOp (List Answer)
    L = record { facts = F; ask = by_list; calls = calls' }

    abbrev M : Type 0
    M = Both (Meant Q W) (Meant TableOp (List Answer)) Like

    fitted_alike : (types : List Ty) (place : ℕ) (args : List M) → AllAlike Q W ask (frame_view W) Value (fitted types place (map (λ p. p.0) args)) (fitted types place (map (λ p. p.1) args))
    fitted_alike types place [] = tt
    fitted_alike types place (a ∷ args) = (fitted_run (slice_index_or types place ty.Unknown) a.0 a.1 a.2, fitted_alike types (place + 1) args)

    method_alike : (method : ℕ) (values : List Value) → AlikeThere Q W ask (Option Value) (call_method calls method values) (call_method calls' method values)
    method_alike method values = then_there Q W ask (came_there Q W ask (reference (value_at values 0))) (λ o. then_there Q W ask (turn_alike Q W ask) (λ u. calls_alike method values))

    invoke_alike : (n : Named) (values : List Value) → AlikeHere Value (invoke P n values) (invoke L n values)
    invoke_alike (named.Method method) values = then_here (shared_alike (method_alike method values)) (λ result. pure_here Value (unwrap_or result Null))
    invoke_alike named.TextLength values = came_here (apply op.Length (value_at values 0) (value_at values 0))
    invoke_alike named.TextEquals values = came_here (apply op.Equals (value_at values 0) (value_at values 1))
    invoke_alike (named.Query number site) values = shared_alike (query_alike Q W ask never number site (by_number F.operations number) values)
    invoke_alike (named.Update number) values = shared_alike (update_alike Q W ask never number (by_number F.operations number) values)
    invoke_alike named.Next values = shared_alike (next_alike Q W ask F (value_at values 0))
    invoke_alike named.GetLong values = shared_alike (long_alike Q W ask F (value_at values 0) (value_at values 1))
    invoke_alike named.GetString values = shared_alike (string_alike Q W ask F (value_at values 0) (value_at values 1))
    invoke_alike named.Nothing values = pure_here Value Null
    invoke_alike (named.Local slot) values = pure_here Value Null
    invoke_alike (named.Field class place) values = pure_here Value Null
    invoke_alike (named.NewObject class site) values = pure_here Value Null
    invoke_alike (named.NewArray site) values = pure_here Value Null
    invoke_alike named.ArrayLength values = pure_here Value Null
    invoke_alike named.Database values = pure_here Value Null

    receiver_alike : (of : Option M) → AlikeHere Value (receiver (option_map (λ p. p.0) of)) (receiver (option_map (λ p. p.1) of))
    receiver_alike None = slot_alike 0
    receiver_alike (Some m) = m.2.run

    received_alike : (b : Bool) (of : Option M) → AllAlike Q W ask (frame_view W) Value (if b then [] else receiver (option_map (λ p. p.0) of) ∷ []) (if b then [] else receiver (option_map (λ p. p.1) of) ∷ [])
    received_alike true of = tt
    received_alike false of = (receiver_alike of, tt)

    operands_alike : (b : Bool) (types : List Ty) (args : List M) → AllAlike Q W ask (frame_view W) Value (fitted types 0 (if b then drop 1 (map (λ p. p.0) args) else map (λ p. p.0) args)) (fitted types 0 (if b then drop 1 (map (λ p. p.1) args) else map (λ p. p.1) args))
    operands_alike true types [] = tt
    operands_alike true types (a ∷ args) = fitted_alike types 0 args
    operands_alike false types args = fitted_alike types 0 args

    called_alike : (n : Named) (of : Option M) (args : List M) → AlikeHere Value (called P n (option_map (λ p. p.0) of) (map (λ p. p.0) args)) (called L n (option_map (λ p. p.1) of) (map (λ p. p.1) args))
    called_alike n of args = then_here (gather_alike Q W ask (frame_view W) Value [] _ _ (received_alike (is_operation n) of)) (λ there. then_here (gather_alike Q W ask (frame_view W) Value there _ _ (operands_alike (is_operation n) (params_of F n) args)) (invoke_alike n))

    -- ---- expressions

    abbrev Step : Type 0
    Step = ExprForm-F (Later (Meant Q W) (Meant TableOp (List Answer)) Like) M

    expr_alike : (z : Step) (i : ℕ) → Like (expr_step P (lefts (Meant Q W) (Meant TableOp (List Answer)) Like z) i) (expr_step L (rights (Meant Q W) (Meant TableOp (List Answer)) Like z) i)
    expr_alike (e.Number digits long) i = no_place_alike (type_at F i) _ _ (pure_here Value (literal digits long))
    expr_alike (e.Str bytes) i = no_place_alike (type_at F i) _ _ (pure_here Value (Text bytes))
    expr_alike e.True i = no_place_alike (type_at F i) _ _ (pure_here Value (Truth true))
    expr_alike e.False i = no_place_alike (type_at F i) _ _ (pure_here Value (Truth false))
    expr_alike e.Null i = no_place_alike (type_at F i) _ _ (pure_here Value Null)
    expr_alike e.This i = no_place_alike (type_at F i) _ _ (slot_alike 0)
    expr_alike (e.Name n) i = record { ty = refl; run = name_alike (named_at F i); put = put_name_alike (named_at F i) (type_at F i) }
    expr_alike (e.Group m) i = no_place_alike (type_at F i) _ _ m.2.run
    expr_alike (e.Field m n) i = record {
      ty = refl;
      run = then_here m.2.run (member_alike (named_at F i));
      put = λ from r l h. then_here m.2.run (λ o. then_here (then_here h (λ v. came_here (widened from (type_at F i) v))) (put_member_alike (named_at F i) o));
    }
    expr_alike (e.Index m k) i = record {
      ty = refl;
      run = then_here m.2.run (λ a. then_here k.2.run (λ j. shared_alike (load_alike Q W ask a j)));
      put = λ from r l h. then_here m.2.run (λ a. then_here k.2.run (λ j. then_here (then_here h (λ v. came_here (widened from (type_at F i) v))) (λ v. shared_alike (store_alike Q W ask a j v))));
    }
    expr_alike (e.Call None n args) i = no_place_alike (type_at F i) _ _ (called_alike (named_at F i) None args)
    expr_alike (e.Call (Some m) n args) i = no_place_alike (type_at F i) _ _ (called_alike (named_at F i) (Some m) args)
    expr_alike (e.NewObject n) i = no_place_alike (type_at F i) _ _ (object_here F (named_at F i))
    expr_alike (e.NewArray b m) i = no_place_alike (type_at F i) _ _ (then_here m.2.run (array_here (named_at F i) (type_at F i)))
    expr_alike (e.Prefix s m) i = no_place_alike (type_at F i) _ _ (prefix_alike s m.0 m.1 m.2)
    expr_alike (e.Binary s at m k) i = no_place_alike (type_at F i) _ _ (binary_alike s m.0 k.0 m.1 k.1 m.2 k.2)

    pub meant_alike : (x : Expr) → Like (meant P x) (meant L x)
    unfolding meant
    meant_alike x = exprs_meet (Meant Q W) (Meant TableOp (List Answer)) (expr_step P) (expr_step L) Like expr_alike x

    -- ---- statements

    abbrev AlikeDoes : Does Q W → Does TableOp (List Answer) → Type 0
    AlikeDoes r l = AlikeHere (Flow Value) r l

    goes_alike : {A : Type 0} {r : Here Q W A} {l : Here TableOp (List Answer) A} → AlikeHere A r l → AlikeDoes (goes r) (goes l)
    goes_alike h = then_here h (λ a. pure_here (Flow Value) Goes)

    goes_on_here : (r : Does Q W) (l : Does TableOp (List Answer)) → AlikeDoes r l → (f : Flow Value) → AlikeDoes (goes_on r f) (goes_on l f)
    goes_on_here r l h f = goes_on_alike Q W ask (frame_view W) Value r l h f

    write_local_alike : (n : Named) (v : Value) → AlikeHere U (write_local n v) (write_local n v)
    write_local_alike (named.Local slot) v = assign_alike slot v
    write_local_alike named.Nothing v = pure_here U tt
    write_local_alike (named.Field class place) v = pure_here U tt
    write_local_alike (named.Method method) v = pure_here U tt
    write_local_alike (named.NewObject class site) v = pure_here U tt
    write_local_alike (named.NewArray site) v = pure_here U tt
    write_local_alike named.ArrayLength v = pure_here U tt
    write_local_alike named.TextLength v = pure_here U tt
    write_local_alike named.TextEquals v = pure_here U tt
    write_local_alike named.Database v = pure_here U tt
    write_local_alike (named.Query number site) v = pure_here U tt
    write_local_alike (named.Update number) v = pure_here U tt
    write_local_alike named.Next v = pure_here U tt
    write_local_alike named.GetLong v = pure_here U tt
    write_local_alike named.GetString v = pure_here U tt

    change_local_alike : (n : Named) (o : Op) (r : Here Q W Value) (l : Here TableOp (List Answer) Value) → AlikeHere Value r l → AlikeHere U (change_local n o r) (change_local n o l)
    change_local_alike (named.Local slot) o r l h = then_here (slot_alike slot) (λ a. then_here h (λ b. then_here (came_here (apply o a b)) (assign_alike slot)))
    change_local_alike named.Nothing o r l h = pure_here U tt
    change_local_alike (named.Field class place) o r l h = pure_here U tt
    change_local_alike (named.Method method) o r l h = pure_here U tt
    change_local_alike (named.NewObject class site) o r l h = pure_here U tt
    change_local_alike (named.NewArray site) o r l h = pure_here U tt
    change_local_alike named.ArrayLength o r l h = pure_here U tt
    change_local_alike named.TextLength o r l h = pure_here U tt
    change_local_alike named.TextEquals o r l h = pure_here U tt
    change_local_alike named.Database o r l h = pure_here U tt
    change_local_alike (named.Query number site) o r l h = pure_here U tt
    change_local_alike (named.Update number) o r l h = pure_here U tt
    change_local_alike named.Next o r l h = pure_here U tt
    change_local_alike named.GetLong o r l h = pure_here U tt
    change_local_alike named.GetString o r l h = pure_here U tt

    compound_alike : (n : Named) (s : Sign) (t : Ty) (x : Expr) → AlikeHere U (change_local n (op_of s t (meant P x).ty) (meant P x).run) (change_local n (op_of s t (meant L x).ty) (meant L x).run)
    compound_alike n s t x = let h = meant_alike x in subst (λ (u : Ty). AlikeHere U (change_local n (op_of s t (meant P x).ty) (meant P x).run) (change_local n (op_of s t u) (meant L x).run)) h.ty (change_local_alike n (op_of s t (meant P x).ty) (meant P x).run (meant L x).run h.run)

    assigned_alike : (place x : Expr) → AlikeHere U ((meant P place).put (meant P x).ty (meant P x).run) ((meant L place).put (meant L x).ty (meant L x).run)
    assigned_alike place x = let h = meant_alike x in subst (λ (u : Ty). AlikeHere U ((meant P place).put (meant P x).ty (meant P x).run) ((meant L place).put u (meant L x).run)) h.ty ((meant_alike place).put (meant P x).ty (meant P x).run (meant L x).run h.run)

    turned : {A : Type 0} {f : Unit {0} → Here Q W A} {g : Unit {0} → Here TableOp (List Answer) A} → ((u : Unit {0}) → AlikeHere A (f u) (g u)) → AlikeHere A (on_shared turn >>= f) (on_shared turn >>= g)
    turned k = then_here (shared_alike (turn_alike Q W ask)) k

    loop_alike : (test : Here Q W Value) (test' : Here TableOp (List Answer) Value) (body : Does Q W) (body' : Does TableOp (List Answer)) → AlikeHere Value test test' → AlikeDoes body body' → (n : ℕ) → AlikeDoes (loop test body n) (loop test' body' n)
    unfolding loop
    loop_alike test test' body body' h k zero = then_here h (λ v. turned (λ u. throw_alike Q W ask (frame_view W) (Flow Value) TurnsOut))
    loop_alike test test' body body' h k (suc n) = then_here h (λ v. turned (λ u. either_here (Flow Value) (is_true v) (body >>= goes_on (loop test body n)) (pure Goes) (body' >>= goes_on (loop test' body' n)) (pure Goes) (then_here k (goes_on_here (loop test body n) (loop test' body' n) (loop_alike test test' body body' h k n))) (pure_here (Flow Value) Goes)))

    returned_alike : (result : Ty) (x : Option Expr) → AlikeDoes (returned result (option_map (meant P) x)) (returned result (option_map (meant L) x))
    returned_alike result None = pure_here (Flow Value) (Returns None)
    returned_alike result (Some x) = then_here (fitted_run result (meant P x) (meant L x) (meant_alike x)) (λ v. pure_here (Flow Value) (Returns (Some v)))

    abbrev D : Type 0
    D = Both (Does Q W) (Does TableOp (List Answer)) AlikeDoes

    or_goes_alike : (o : Option D) → AlikeDoes (or_goes (option_map (λ p. p.0) o)) (or_goes (option_map (λ p. p.1) o))
    or_goes_alike None = pure_here (Flow Value) Goes
    or_goes_alike (Some d) = d.2

    all_alike : (items : List D) → AllAlike Q W ask (frame_view W) (Flow Value) (map (λ p. p.0) items) (map (λ p. p.1) items)
    all_alike [] = tt
    all_alike (d ∷ items) = (d.2, all_alike items)

    if_alike : (x : Expr) (r r' : Does Q W) (l l' : Does TableOp (List Answer)) → AlikeDoes r l → AlikeDoes r' l' → AlikeDoes ((meant P x).run >>= (λ v. if is_true v then r else r')) ((meant L x).run >>= (λ v. if is_true v then l else l'))
    if_alike x r r' l l' h k = then_here (meant_alike x).run (λ v. either_here (Flow Value) (is_true v) r r' l l' h k)

    stmt_alike : (result : Ty) (z : StmtForm-F (Later (Does Q W) (Does TableOp (List Answer)) AlikeDoes) D) (i : ℕ) → AlikeDoes (stmt_step F (meant P) result (left_parts (Does Q W) (Does TableOp (List Answer)) AlikeDoes z) i) (stmt_step F (meant L) result (right_parts (Does Q W) (Does TableOp (List Answer)) AlikeDoes z) i)
    stmt_alike result (st.Block items) i = in_order_alike Q W ask (frame_view W) Value (map (λ p. p.0) items) (map (λ p. p.1) items) (all_alike items)
    stmt_alike result st.Empty i = pure_here (Flow Value) Goes
    stmt_alike result (st.Local t n x) i = goes_alike (then_here (fitted_run (type_at F i) (meant P x) (meant L x) (meant_alike x)) (write_local_alike (named_at F i)))
    stmt_alike result (st.Assign place x) i = goes_alike (assigned_alike place x)
    stmt_alike result (st.Compound n s x) i = goes_alike (compound_alike (named_at F i) s (type_at F i) x)
    stmt_alike result (st.Up n) i = goes_alike (change_local_alike (named_at F i) op.Add (pure (one (type_at F i))) (pure (one (type_at F i))) (pure_here Value (one (type_at F i))))
    stmt_alike result (st.Down n) i = goes_alike (change_local_alike (named_at F i) op.Sub (pure (one (type_at F i))) (pure (one (type_at F i))) (pure_here Value (one (type_at F i))))
    stmt_alike result (st.Call x) i = goes_alike (meant_alike x).run
    stmt_alike result (st.If x a None) i = if_alike x a.0 (pure Goes) a.1 (pure Goes) a.2 (pure_here (Flow Value) Goes)
    stmt_alike result (st.If x a (Some b)) i = if_alike x a.0 b.0 a.1 b.1 a.2 b.2
    stmt_alike result (st.While x body) i = loop_alike (meant P x).run (meant L x).run body.0 body.1 (meant_alike x).run body.2 all_turns
    stmt_alike result (st.For begin x last body) i = then_here begin.2 (goes_on_here _ _ (loop_alike (meant P x).run (meant L x).run (body.0 >>= goes_on last.0) (body.1 >>= goes_on last.1) (meant_alike x).run (then_here body.2 (goes_on_here last.0 last.1 last.2)) all_turns))
    stmt_alike result (st.Return None) i = returned_alike result None
    stmt_alike result (st.Return (Some x)) i = returned_alike result (Some x)
    stmt_alike result (st.Print x) i = goes_alike (then_here (meant_alike x).run (λ v. shared_alike (print_alike Q W ask v)))

    pub done_alike : (result : Ty) (x : Stmt) → AlikeDoes (done_by P result x) (done_by L result x)
    unfolding done_by
    done_alike result x = stmts_meet (Does Q W) (Does TableOp (List Answer)) (stmt_step F (meant P) result) (stmt_step F (meant L) result) AlikeDoes (stmt_alike result) x
