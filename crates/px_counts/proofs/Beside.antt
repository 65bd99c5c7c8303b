-- Two runs of one program beside each other: a relation of runs that is closed under all that runs are made of holds of whatever an expression means and a statement does.
use Rattle.std.proofs.Common.{◌≡◌, ℕ, zero, suc, ◌+◌, Bool, true, false, if◌then◌else◌, List, [], ◌∷◌, ◌++◌, map, drop, Option, Some, None, option_map, unwrap_or, slice_index_or, Result, Ok, Err, refl, subst}
use Rattle.px_value.specs.declared.value.Value.{Value}
use Rattle.px_value.specs.declared.value.Value.TheVariants.{Null, Bool as Truth, Text}
use Rattle.px_value.specs.declared.op.Op.{Op}
use Rattle.px_value.specs.declared.op.Op.TheVariants as op
use Rattle.px_value.specs.declared.thrown.Thrown.{Thrown}
use Rattle.px_value.specs.declared.thrown.Thrown.TheVariants.{TurnsOut}
use Rattle.px_value.specs.declared.answer.Answer.{Answer}
use Rattle.px_value.specs.Operators.{apply}
use Rattle.px_value.specs.Outcome.{◌>>=◌, pure, throw, on_shared, Flow, Goes, Returns, goes_on, in_order}
use Rattle.px_tree.specs.declared.Sign.{Sign}
use Rattle.px_tree.specs.declared.Expr.{Expr}
use Rattle.px_tree.specs.declared.ExprForm.{ExprForm-F}
use Rattle.px_tree.specs.declared.ExprForm.TheOpen.{ExprForm-F as e}
use Rattle.px_tree.specs.declared.StmtForm.{StmtForm-F}
use Rattle.px_tree.specs.declared.StmtForm.TheOpen.{StmtForm-F as st}
use Rattle.px_facts.specs.declared.types.Ty.{Ty}
use Rattle.px_facts.specs.declared.types.Ty.TheVariants as ty
use Rattle.px_facts.specs.declared.checked.Named.{Named}
use Rattle.px_facts.specs.declared.checked.Named.TheVariants as named
use Rattle.px_facts.specs.declared.checked.Facts.{Facts}
use Rattle.px_effects.specs.Run.{There, Ask, came_to, turn}
use Rattle.px_effects.specs.Act.{Act, Firsts, does}
use Rattle.px_effects.specs.Cells as cells
use Rattle.px_effects.specs.Cells.{first_cells}
use Rattle.px_effects.specs.Rows as rows
use Rattle.px_effects.specs.Operations.{Work, works, operation}
use Rattle.px_mean.specs.Run.{Here, gather}
use Rattle.px_mean.specs.Facts.{element_number, type_at, named_at, by_number, fields_of, params_of, op_of, prefix_of}
use Rattle.px_mean.specs.Effects.{fresh_with, no_object, statement_in, statements_of, acts, only_acts, new_array, reference}
use Rattle.px_mean.specs.Expressions.{Calls, Around, Meant, no_place, widened, fit, literal, slot_value, assign_slot, name_value, put_name, member_value, put_member, fitted, receiver, value_at, call_method, invoke, is_operation, called, made_object, made_array, prefixed, decides, combined, binary, is_true, expr_step}
use Rattle.px_mean.specs.Statements.{Does, goes, write_local, change_local, one, all_turns, loop, or_goes, returned, stmt_step}
use Rattle.px_mean.proofs.Folds.{Both, Later, lefts, rights, left_parts, right_parts}

-- A relation of runs, of what frames share and of a frame, that what runs are made of keeps.
pub record Closed (Q W Q' W' : Type 0) (ask : Ask Q W) (ask' : Ask Q' W') : Type 1 where
  pub Shares : (A : Type 0) → There Q W A → There Q' W' A → Type 0
  pub Frames : (A : Type 0) → Here Q W A → Here Q' W' A → Type 0
  -- what frames share
  pub pure_there : (A : Type 0) (a : A) → Shares A (pure a) (pure a)
  pub throw_there : (A : Type 0) (t : Thrown) → Shares A (throw t) (throw t)
  pub then_there : (A B : Type 0) (r : There Q W A) (l : There Q' W' A) (f : A → There Q W B) (g : A → There Q' W' B) → Shares A r l → ((a : A) → Shares B (f a) (g a)) → Shares B (r >>= f) (l >>= g)
  pub turns : Shares (Unit {0}) turn turn
  pub acts_alike : (firsts : Firsts) (act : Act) → Shares Value (does firsts act) (does firsts act)
  pub works_alike : (firsts : Firsts) (work : Work) (f : Answer → Act) → Shares Value (works firsts ask work f) (works firsts ask' work f)
  -- a frame
  pub pure_here : (A : Type 0) (a : A) → Frames A (pure a) (pure a)
  pub throw_here : (A : Type 0) (t : Thrown) → Frames A (throw t) (throw t)
  pub then_here : (A B : Type 0) (r : Here Q W A) (l : Here Q' W' A) (f : A → Here Q W B) (g : A → Here Q' W' B) → Frames A r l → ((a : A) → Frames B (f a) (g a)) → Frames B (r >>= f) (l >>= g)
  pub shared_here : (A : Type 0) (r : There Q W A) (l : There Q' W' A) → Shares A r l → Frames A (on_shared r) (on_shared l)
  pub slots : (slot : ℕ) → Frames Value (slot_value slot) (slot_value slot)
  pub assigns : (slot : ℕ) (v : Value) → Frames (Unit {0}) (assign_slot slot v) (assign_slot slot v)

-- ---- what is made of these

module _ (Q W Q' W' : Type 0) (ask : Ask Q W) (ask' : Ask Q' W') (C : Closed Q W Q' W' ask ask') where
  abbrev U : Type 0
  U = Unit {0}

  abbrev pub AlikeThere : (A : Type 0) → There Q W A → There Q' W' A → Type 0
  AlikeThere A r l = C.Shares A r l

  abbrev pub AlikeHere : (A : Type 0) → Here Q W A → Here Q' W' A → Type 0
  AlikeHere A r l = C.Frames A r l

  pub then_alike : {A B : Type 0} {r : There Q W A} {l : There Q' W' A} {f : A → There Q W B} {g : A → There Q' W' B} → AlikeThere A r l → ((a : A) → AlikeThere B (f a) (g a)) → AlikeThere B (r >>= f) (l >>= g)
  then_alike {A} {B} {r} {l} {f} {g} h k = C.then_there A B r l f g h k

  pub bind_here : {A B : Type 0} {r : Here Q W A} {l : Here Q' W' A} {f : A → Here Q W B} {g : A → Here Q' W' B} → AlikeHere A r l → ((a : A) → AlikeHere B (f a) (g a)) → AlikeHere B (r >>= f) (l >>= g)
  bind_here {A} {B} {r} {l} {f} {g} h k = C.then_here A B r l f g h k

  pub came_there : {A : Type 0} (x : Result A Thrown) → AlikeThere A (came_to x) (came_to x)
  came_there {A} (Ok v) = C.pure_there A v
  came_there {A} (Err t) = C.throw_there A t

  pub came_here : {A : Type 0} (x : Result A Thrown) → AlikeHere A (came_to x) (came_to x)
  came_here {A} (Ok v) = C.pure_here A v
  came_here {A} (Err t) = C.throw_here A t

  pub shared_alike : {A : Type 0} {r : There Q W A} {l : There Q' W' A} → AlikeThere A r l → AlikeHere A (on_shared r) (on_shared l)
  shared_alike {A} {r} {l} h = C.shared_here A r l h

  abbrev pub AllAlike : (A : Type 0) → List (Here Q W A) → List (Here Q' W' A) → Type 0
  AllAlike A [] [] = Unit {0}
  AllAlike A (r ∷ rs) (l ∷ ls) = AlikeHere A r l × AllAlike A rs ls
  AllAlike A _ _ = ⊥

  pub gather_alike : (A : Type 0) (there : List A) (rs : List (Here Q W A)) (ls : List (Here Q' W' A)) → AllAlike A rs ls → AlikeHere (List A) (gather there rs) (gather there ls)
  gather_alike A there [] [] h = C.pure_here (List A) there
  gather_alike A there (r ∷ rs) (l ∷ ls) h = bind_here h.0 (λ a. gather_alike A (there ++ a ∷ []) rs ls h.1)
  gather_alike A there [] (l ∷ ls) h = absurd h
  gather_alike A there (r ∷ rs) [] h = absurd h

  pub goes_on_alike : (r : Does Q W) (l : Does Q' W') → AlikeHere (Flow Value) r l → (f : Flow Value) → AlikeHere (Flow Value) (goes_on r f) (goes_on l f)
  goes_on_alike r l h Goes = h
  goes_on_alike r l h (Returns v) = C.pure_here (Flow Value) (Returns v)

  pub in_order_alike : (rs : List (Does Q W)) (ls : List (Does Q' W')) → AllAlike (Flow Value) rs ls → AlikeHere (Flow Value) (in_order rs) (in_order ls)
  in_order_alike [] [] h = C.pure_here (Flow Value) Goes
  in_order_alike (r ∷ rs) (l ∷ ls) h = bind_here h.0 (goes_on_alike (in_order rs) (in_order ls) (in_order_alike rs ls h.1))
  in_order_alike [] (l ∷ ls) h = absurd h
  in_order_alike (r ∷ rs) [] h = absurd h

  -- ---- effects

  pub act_alike : (act : Act) → AlikeThere Value (acts act) (acts act)
  act_alike act = C.acts_alike (first_cells no_object) act

  pub only_act_alike : (act : Act) → AlikeThere U (only_acts act) (only_acts act)
  only_act_alike act = then_alike (act_alike act) (λ v. C.pure_there U tt)

  pub act_here : (act : Act) → AlikeHere Value (on_shared (acts act)) (on_shared (acts act))
  act_here act = shared_alike (act_alike act)

  pub only_act_here : (act : Act) → AlikeHere U (on_shared (only_acts act)) (on_shared (only_acts act))
  only_act_here act = shared_alike (only_act_alike act)

  pub array_alike : (site : ℕ) (t : Ty) (size : Value) → AlikeThere Value (new_array site t size) (new_array site t size)
  array_alike site (ty.Array element) size = C.acts_alike (first_cells no_object) (cells.make_array (element_number element) site size)
  array_alike site ty.Unknown size = C.pure_there Value Null
  array_alike site ty.Void size = C.pure_there Value Null
  array_alike site ty.Null size = C.pure_there Value Null
  array_alike site ty.Int size = C.pure_there Value Null
  array_alike site ty.Long size = C.pure_there Value Null
  array_alike site ty.Boolean size = C.pure_there Value Null
  array_alike site ty.Text size = C.pure_there Value Null
  array_alike site (ty.Object class) size = C.pure_there Value Null
  array_alike site ty.ResultSet size = C.pure_there Value Null

  -- ---- values and names

  pub fit_alike : (from from' to : Ty) → from ≡ from' → (v : Value) → AlikeHere Value (fit from to v) (fit from' to v)
  fit_alike from from' to h v = subst (λ (t : Ty). AlikeHere Value (fit from to v) (fit t to v)) h (came_here (widened from to v))

  -- what an expression means is alike
  pub record Like (m : Meant Q W) (m' : Meant Q' W') : Type 0 where
    pub ty : m.ty ≡ m'.ty
    pub run : AlikeHere Value m.run m'.run
    pub put : (from : Ty) (r : Here Q W Value) (l : Here Q' W' Value) → AlikeHere Value r l → AlikeHere U (m.put from r) (m'.put from l)

  pub no_place_alike : (t : Ty) (r : Here Q W Value) (l : Here Q' W' Value) → AlikeHere Value r l → Like (no_place t r) (no_place t l)
  no_place_alike t r l h = record { ty = refl; run = h; put = λ from r' l' h'. C.pure_here U tt }

  pub name_alike : (n : Named) → AlikeHere Value (name_value n) (name_value n)
  name_alike named.Nothing = C.pure_here Value Null
  name_alike (named.Local slot) = C.slots slot
  name_alike (named.Field class place) = bind_here (C.slots 0) (λ o. act_here (cells.get_field o place))
  name_alike (named.Method method) = C.pure_here Value Null
  name_alike (named.NewObject class site) = C.pure_here Value Null
  name_alike (named.NewArray site) = C.pure_here Value Null
  name_alike named.ArrayLength = C.pure_here Value Null
  name_alike named.TextLength = C.pure_here Value Null
  name_alike named.TextEquals = C.pure_here Value Null
  name_alike named.Database = C.pure_here Value Null
  name_alike (named.Query number site) = C.pure_here Value Null
  name_alike (named.Update number) = C.pure_here Value Null
  name_alike named.Next = C.pure_here Value Null
  name_alike named.GetLong = C.pure_here Value Null
  name_alike named.GetString = C.pure_here Value Null

  pub put_name_alike : (n : Named) (to from : Ty) (r : Here Q W Value) (l : Here Q' W' Value) → AlikeHere Value r l → AlikeHere U (put_name n to from r) (put_name n to from l)
  put_name_alike named.Nothing to from r l h = C.pure_here U tt
  put_name_alike (named.Local slot) to from r l h = bind_here (bind_here h (λ v. came_here (widened from to v))) (C.assigns slot)
  put_name_alike (named.Field class place) to from r l h = bind_here (C.slots 0) (λ o. bind_here (bind_here h (λ v. came_here (widened from to v))) (λ v. only_act_here (cells.put_field o place v)))
  put_name_alike (named.Method method) to from r l h = C.pure_here U tt
  put_name_alike (named.NewObject class site) to from r l h = C.pure_here U tt
  put_name_alike (named.NewArray site) to from r l h = C.pure_here U tt
  put_name_alike named.ArrayLength to from r l h = C.pure_here U tt
  put_name_alike named.TextLength to from r l h = C.pure_here U tt
  put_name_alike named.TextEquals to from r l h = C.pure_here U tt
  put_name_alike named.Database to from r l h = C.pure_here U tt
  put_name_alike (named.Query number site) to from r l h = C.pure_here U tt
  put_name_alike (named.Update number) to from r l h = C.pure_here U tt
  put_name_alike named.Next to from r l h = C.pure_here U tt
  put_name_alike named.GetLong to from r l h = C.pure_here U tt
  put_name_alike named.GetString to from r l h = C.pure_here U tt

  pub member_alike : (n : Named) (o : Value) → AlikeHere Value (member_value n o) (member_value n o)
  member_alike named.Nothing o = C.pure_here Value Null
  member_alike (named.Local slot) o = C.pure_here Value Null
  member_alike (named.Field class place) o = act_here (cells.get_field o place)
  member_alike (named.Method method) o = C.pure_here Value Null
  member_alike (named.NewObject class site) o = C.pure_here Value Null
  member_alike (named.NewArray site) o = C.pure_here Value Null
  member_alike named.ArrayLength o = act_here (cells.array_length o)
  member_alike named.TextLength o = C.pure_here Value Null
  member_alike named.TextEquals o = C.pure_here Value Null
  member_alike named.Database o = C.pure_here Value Null
  member_alike (named.Query number site) o = C.pure_here Value Null
  member_alike (named.Update number) o = C.pure_here Value Null
  member_alike named.Next o = C.pure_here Value Null
  member_alike named.GetLong o = C.pure_here Value Null
  member_alike named.GetString o = C.pure_here Value Null

  pub put_member_alike : (n : Named) (o v : Value) → AlikeHere U (put_member n o v) (put_member n o v)
  put_member_alike named.Nothing o v = C.pure_here U tt
  put_member_alike (named.Local slot) o v = C.pure_here U tt
  put_member_alike (named.Field class place) o v = only_act_here (cells.put_field o place v)
  put_member_alike (named.Method method) o v = C.pure_here U tt
  put_member_alike (named.NewObject class site) o v = C.pure_here U tt
  put_member_alike (named.NewArray site) o v = C.pure_here U tt
  put_member_alike named.ArrayLength o v = C.pure_here U tt
  put_member_alike named.TextLength o v = C.pure_here U tt
  put_member_alike named.TextEquals o v = C.pure_here U tt
  put_member_alike named.Database o v = C.pure_here U tt
  put_member_alike (named.Query number site) o v = C.pure_here U tt
  put_member_alike (named.Update number) o v = C.pure_here U tt
  put_member_alike named.Next o v = C.pure_here U tt
  put_member_alike named.GetLong o v = C.pure_here U tt
  put_member_alike named.GetString o v = C.pure_here U tt

  pub object_here : (F : Facts) (n : Named) → AlikeHere Value (made_object F n) (made_object F n)
  object_here F named.Nothing = C.pure_here Value Null
  object_here F (named.Local slot) = C.pure_here Value Null
  object_here F (named.Field class place) = C.pure_here Value Null
  object_here F (named.Method method) = C.pure_here Value Null
  object_here F (named.NewObject class site) = shared_alike (C.acts_alike (first_cells (fresh_with (fields_of F class))) (cells.make_object (fresh_with (fields_of F class)) class site))
  object_here F (named.NewArray site) = C.pure_here Value Null
  object_here F named.ArrayLength = C.pure_here Value Null
  object_here F named.TextLength = C.pure_here Value Null
  object_here F named.TextEquals = C.pure_here Value Null
  object_here F named.Database = C.pure_here Value Null
  object_here F (named.Query number site) = C.pure_here Value Null
  object_here F (named.Update number) = C.pure_here Value Null
  object_here F named.Next = C.pure_here Value Null
  object_here F named.GetLong = C.pure_here Value Null
  object_here F named.GetString = C.pure_here Value Null

  pub array_here : (n : Named) (t : Ty) (size : Value) → AlikeHere Value (made_array n t size) (made_array n t size)
  array_here named.Nothing t size = C.pure_here Value Null
  array_here (named.Local slot) t size = C.pure_here Value Null
  array_here (named.Field class place) t size = C.pure_here Value Null
  array_here (named.Method method) t size = C.pure_here Value Null
  array_here (named.NewObject class site) t size = C.pure_here Value Null
  array_here (named.NewArray site) t size = shared_alike (array_alike site t size)
  array_here named.ArrayLength t size = C.pure_here Value Null
  array_here named.TextLength t size = C.pure_here Value Null
  array_here named.TextEquals t size = C.pure_here Value Null
  array_here named.Database t size = C.pure_here Value Null
  array_here (named.Query number site) t size = C.pure_here Value Null
  array_here (named.Update number) t size = C.pure_here Value Null
  array_here named.Next t size = C.pure_here Value Null
  array_here named.GetLong t size = C.pure_here Value Null
  array_here named.GetString t size = C.pure_here Value Null

  -- ---- operators

  either_here : (A : Type 0) (b : Bool) (r r' : Here Q W A) (l l' : Here Q' W' A) → AlikeHere A r l → AlikeHere A r' l' → AlikeHere A (if b then r else r') (if b then l else l')
  either_here A true r r' l l' h k = h
  either_here A false r r' l l' h k = k

  binary_same : (s : Sign) (t u : Ty) (r r' : Here Q W Value) (l l' : Here Q' W' Value) → AlikeHere Value r l → AlikeHere Value r' l' → AlikeHere Value (binary s t u r r') (binary s t u l l')
  binary_same s t u r r' l l' h k = bind_here h (λ a. either_here Value (decides s a) (pure a) (r' >>= (λ b. came_to (combined s t u a b))) (pure a) (l' >>= (λ b. came_to (combined s t u a b))) (C.pure_here Value a) (bind_here k (λ b. came_here (combined s t u a b))))

  binary_alike : (s : Sign) (m n : Meant Q W) (m' n' : Meant Q' W') → Like m m' → Like n n' → AlikeHere Value (binary s m.ty n.ty m.run n.run) (binary s m'.ty n'.ty m'.run n'.run)
  binary_alike s m n m' n' h k = subst (λ (t : Ty). AlikeHere Value (binary s m.ty n.ty m.run n.run) (binary s t n'.ty m'.run n'.run)) h.ty (subst (λ (t : Ty). AlikeHere Value (binary s m.ty n.ty m.run n.run) (binary s m.ty t m'.run n'.run)) k.ty (binary_same s m.ty n.ty m.run n.run m'.run n'.run h.run k.run))

  prefix_alike : (s : Sign) (m : Meant Q W) (m' : Meant Q' W') → Like m m' → AlikeHere Value (m.run >>= (λ v. came_to (prefixed (prefix_of s m.ty) v))) (m'.run >>= (λ v. came_to (prefixed (prefix_of s m'.ty) v)))
  prefix_alike s m m' h = subst (λ (t : Ty). AlikeHere Value (m.run >>= (λ v. came_to (prefixed (prefix_of s m.ty) v))) (m'.run >>= (λ v. came_to (prefixed (prefix_of s t) v)))) h.ty (bind_here h.run (λ v. came_here (prefixed (prefix_of s m.ty) v)))

  fitted_run : (to : Ty) (m : Meant Q W) (m' : Meant Q' W') → Like m m' → AlikeHere Value (m.run >>= fit m.ty to) (m'.run >>= fit m'.ty to)
  fitted_run to m m' h = bind_here h.run (fit_alike m.ty m'.ty to h.ty)

  -- ---- calls

  module _ (F : Facts) (calls : Calls Q W) (calls' : Calls Q' W') (calls_alike : (method : ℕ) (values : List Value) → AlikeThere (Option Value) (calls method values) (calls' method values)) where
    abbrev pub P : Around Q W
    P = record { facts = F; ask = ask; calls = calls }

    abbrev pub L : Around Q' W'
    L = record { facts = F; ask = ask'; calls = calls' }

    abbrev M : Type 0
    M = Both (Meant Q W) (Meant Q' W') Like

    fitted_alike : (types : List Ty) (place : ℕ) (args : List M) → AllAlike Value (fitted types place (map (λ p. p.0) args)) (fitted types place (map (λ p. p.1) args))
    fitted_alike types place [] = tt
    fitted_alike types place (a ∷ args) = (fitted_run (slice_index_or types place ty.Unknown) a.0 a.1 a.2, fitted_alike types (place + 1) args)

    pub method_alike : (method : ℕ) (values : List Value) → AlikeThere (Option Value) (call_method calls method values) (call_method calls' method values)
    method_alike method values = then_alike (came_there (reference (value_at values 0))) (λ o. then_alike C.turns (λ u. calls_alike method values))

    pub invoke_alike : (n : Named) (values : List Value) → AlikeHere Value (invoke P n values) (invoke L n values)
    invoke_alike named.Nothing values = C.pure_here Value Null
    invoke_alike (named.Local slot) values = C.pure_here Value Null
    invoke_alike (named.Field class place) values = C.pure_here Value Null
    invoke_alike (named.Method method) values = bind_here (shared_alike (method_alike method values)) (λ result. C.pure_here Value (unwrap_or result Null))
    invoke_alike (named.NewObject class site) values = C.pure_here Value Null
    invoke_alike (named.NewArray site) values = C.pure_here Value Null
    invoke_alike named.ArrayLength values = C.pure_here Value Null
    invoke_alike named.TextLength values = came_here (apply op.Length (value_at values 0) (value_at values 0))
    invoke_alike named.TextEquals values = came_here (apply op.Equals (value_at values 0) (value_at values 1))
    invoke_alike named.Database values = C.pure_here Value Null
    invoke_alike (named.Query number site) values = shared_alike (C.works_alike (first_cells no_object) (operation number (statement_in (by_number F.operations number)) values) (rows.make_rows number site))
    invoke_alike (named.Update number) values = shared_alike (C.works_alike (first_cells no_object) (operation number (statement_in (by_number F.operations number)) values) rows.changed)
    invoke_alike named.Next values = act_here (rows.next (statements_of F) (value_at values 0))
    invoke_alike named.GetLong values = act_here (rows.get_column (statements_of F) rows.long_in (value_at values 0) (value_at values 1))
    invoke_alike named.GetString values = act_here (rows.get_column (statements_of F) rows.text_in (value_at values 0) (value_at values 1))

    receiver_alike : (of : Option M) → AlikeHere Value (receiver (option_map (λ p. p.0) of)) (receiver (option_map (λ p. p.1) of))
    receiver_alike None = C.slots 0
    receiver_alike (Some m) = m.2.run

    received_alike : (b : Bool) (of : Option M) → AllAlike Value (if b then [] else receiver (option_map (λ p. p.0) of) ∷ []) (if b then [] else receiver (option_map (λ p. p.1) of) ∷ [])
    received_alike true of = tt
    received_alike false of = (receiver_alike of, tt)

    operands_alike : (b : Bool) (types : List Ty) (args : List M) → AllAlike Value (fitted types 0 (if b then drop 1 (map (λ p. p.0) args) else map (λ p. p.0) args)) (fitted types 0 (if b then drop 1 (map (λ p. p.1) args) else map (λ p. p.1) args))
    operands_alike true types [] = tt
    operands_alike true types (a ∷ args) = fitted_alike types 0 args
    operands_alike false types args = fitted_alike types 0 args

    called_alike : (n : Named) (of : Option M) (args : List M) → AlikeHere Value (called P n (option_map (λ p. p.0) of) (map (λ p. p.0) args)) (called L n (option_map (λ p. p.1) of) (map (λ p. p.1) args))
    called_alike n of args = bind_here (gather_alike Value [] _ _ (received_alike (is_operation n) of)) (λ there. bind_here (gather_alike Value there _ _ (operands_alike (is_operation n) (params_of F n) args)) (invoke_alike n))

    -- ---- expressions

    abbrev Step : Type 0
    Step = ExprForm-F (Later (Meant Q W) (Meant Q' W') Like) M

    pub expr_alike : (z : Step) (i : ℕ) → Like (expr_step P (lefts (Meant Q W) (Meant Q' W') Like z) i) (expr_step L (rights (Meant Q W) (Meant Q' W') Like z) i)
    expr_alike (e.Number digits long) i = no_place_alike (type_at F i) _ _ (C.pure_here Value (literal digits long))
    expr_alike (e.Str bytes) i = no_place_alike (type_at F i) _ _ (C.pure_here Value (Text bytes))
    expr_alike e.True i = no_place_alike (type_at F i) _ _ (C.pure_here Value (Truth true))
    expr_alike e.False i = no_place_alike (type_at F i) _ _ (C.pure_here Value (Truth false))
    expr_alike e.Null i = no_place_alike (type_at F i) _ _ (C.pure_here Value Null)
    expr_alike e.This i = no_place_alike (type_at F i) _ _ (C.slots 0)
    expr_alike (e.Name n) i = record { ty = refl; run = name_alike (named_at F i); put = put_name_alike (named_at F i) (type_at F i) }
    expr_alike (e.Group m) i = no_place_alike (type_at F i) _ _ m.2.run
    expr_alike (e.Field m n) i = record {
      ty = refl;
      run = bind_here m.2.run (member_alike (named_at F i));
      put = λ from r l h. bind_here m.2.run (λ o. bind_here (bind_here h (λ v. came_here (widened from (type_at F i) v))) (put_member_alike (named_at F i) o));
    }
    expr_alike (e.Index m k) i = record {
      ty = refl;
      run = bind_here m.2.run (λ a. bind_here k.2.run (λ j. act_here (cells.load a j)));
      put = λ from r l h. bind_here m.2.run (λ a. bind_here k.2.run (λ j. bind_here (bind_here h (λ v. came_here (widened from (type_at F i) v))) (λ v. only_act_here (cells.store a j v))));
    }
    expr_alike (e.Call None n args) i = no_place_alike (type_at F i) _ _ (called_alike (named_at F i) None args)
    expr_alike (e.Call (Some m) n args) i = no_place_alike (type_at F i) _ _ (called_alike (named_at F i) (Some m) args)
    expr_alike (e.NewObject n) i = no_place_alike (type_at F i) _ _ (object_here F (named_at F i))
    expr_alike (e.NewArray b m) i = no_place_alike (type_at F i) _ _ (bind_here m.2.run (array_here (named_at F i) (type_at F i)))
    expr_alike (e.Prefix s m) i = no_place_alike (type_at F i) _ _ (prefix_alike s m.0 m.1 m.2)
    expr_alike (e.Binary s at m k) i = no_place_alike (type_at F i) _ _ (binary_alike s m.0 k.0 m.1 k.1 m.2 k.2)

  module _ (F : Facts) (m : Expr → Meant Q W) (m' : Expr → Meant Q' W') (like : (x : Expr) → Like (m x) (m' x)) where
    -- ---- statements

    abbrev AlikeDoes : Does Q W → Does Q' W' → Type 0
    AlikeDoes r l = AlikeHere (Flow Value) r l

    goes_alike : {A : Type 0} {r : Here Q W A} {l : Here Q' W' A} → AlikeHere A r l → AlikeDoes (goes r) (goes l)
    goes_alike h = bind_here h (λ a. C.pure_here (Flow Value) Goes)

    pub write_local_alike : (n : Named) (v : Value) → AlikeHere U (write_local n v) (write_local n v)
    write_local_alike named.Nothing v = C.pure_here U tt
    write_local_alike (named.Local slot) v = C.assigns slot v
    write_local_alike (named.Field class place) v = C.pure_here U tt
    write_local_alike (named.Method method) v = C.pure_here U tt
    write_local_alike (named.NewObject class site) v = C.pure_here U tt
    write_local_alike (named.NewArray site) v = C.pure_here U tt
    write_local_alike named.ArrayLength v = C.pure_here U tt
    write_local_alike named.TextLength v = C.pure_here U tt
    write_local_alike named.TextEquals v = C.pure_here U tt
    write_local_alike named.Database v = C.pure_here U tt
    write_local_alike (named.Query number site) v = C.pure_here U tt
    write_local_alike (named.Update number) v = C.pure_here U tt
    write_local_alike named.Next v = C.pure_here U tt
    write_local_alike named.GetLong v = C.pure_here U tt
    write_local_alike named.GetString v = C.pure_here U tt

    pub change_local_alike : (n : Named) (o : Op) (r : Here Q W Value) (l : Here Q' W' Value) → AlikeHere Value r l → AlikeHere U (change_local n o r) (change_local n o l)
    change_local_alike named.Nothing o r l h = C.pure_here U tt
    change_local_alike (named.Local slot) o r l h = bind_here (C.slots slot) (λ a. bind_here h (λ b. bind_here (came_here (apply o a b)) (C.assigns slot)))
    change_local_alike (named.Field class place) o r l h = C.pure_here U tt
    change_local_alike (named.Method method) o r l h = C.pure_here U tt
    change_local_alike (named.NewObject class site) o r l h = C.pure_here U tt
    change_local_alike (named.NewArray site) o r l h = C.pure_here U tt
    change_local_alike named.ArrayLength o r l h = C.pure_here U tt
    change_local_alike named.TextLength o r l h = C.pure_here U tt
    change_local_alike named.TextEquals o r l h = C.pure_here U tt
    change_local_alike named.Database o r l h = C.pure_here U tt
    change_local_alike (named.Query number site) o r l h = C.pure_here U tt
    change_local_alike (named.Update number) o r l h = C.pure_here U tt
    change_local_alike named.Next o r l h = C.pure_here U tt
    change_local_alike named.GetLong o r l h = C.pure_here U tt
    change_local_alike named.GetString o r l h = C.pure_here U tt

    compound_alike : (n : Named) (s : Sign) (t : Ty) (x : Expr) → AlikeHere U (change_local n (op_of s t (m x).ty) (m x).run) (change_local n (op_of s t (m' x).ty) (m' x).run)
    compound_alike n s t x = let h = like x in subst (λ (u : Ty). AlikeHere U (change_local n (op_of s t (m x).ty) (m x).run) (change_local n (op_of s t u) (m' x).run)) h.ty (change_local_alike n (op_of s t (m x).ty) (m x).run (m' x).run h.run)

    assigned_alike : (place x : Expr) → AlikeHere U ((m place).put (m x).ty (m x).run) ((m' place).put (m' x).ty (m' x).run)
    assigned_alike place x = let h = like x in subst (λ (u : Ty). AlikeHere U ((m place).put (m x).ty (m x).run) ((m' place).put u (m' x).run)) h.ty ((like place).put (m x).ty (m x).run (m' x).run h.run)

    turned : {A : Type 0} {f : Unit {0} → Here Q W A} {g : Unit {0} → Here Q' W' A} → ((u : Unit {0}) → AlikeHere A (f u) (g u)) → AlikeHere A (on_shared turn >>= f) (on_shared turn >>= g)
    turned k = bind_here (shared_alike C.turns) k

    pub loop_alike : (test : Here Q W Value) (test' : Here Q' W' Value) (body : Does Q W) (body' : Does Q' W') → AlikeHere Value test test' → AlikeDoes body body' → (n : ℕ) → AlikeDoes (loop test body n) (loop test' body' n)
    unfolding loop
    loop_alike test test' body body' h k zero = bind_here h (λ v. turned (λ u. C.throw_here (Flow Value) TurnsOut))
    loop_alike test test' body body' h k (suc n) = bind_here h (λ v. turned (λ u. either_here (Flow Value) (is_true v) (body >>= goes_on (loop test body n)) (pure Goes) (body' >>= goes_on (loop test' body' n)) (pure Goes) (bind_here k (goes_on_alike (loop test body n) (loop test' body' n) (loop_alike test test' body body' h k n))) (C.pure_here (Flow Value) Goes)))

    returned_alike : (result : Ty) (x : Option Expr) → AlikeDoes (returned result (option_map m x)) (returned result (option_map m' x))
    returned_alike result None = C.pure_here (Flow Value) (Returns None)
    returned_alike result (Some x) = bind_here (fitted_run result (m x) (m' x) (like x)) (λ v. C.pure_here (Flow Value) (Returns (Some v)))

    abbrev D : Type 0
    D = Both (Does Q W) (Does Q' W') AlikeDoes

    or_goes_alike : (o : Option D) → AlikeDoes (or_goes (option_map (λ p. p.0) o)) (or_goes (option_map (λ p. p.1) o))
    or_goes_alike None = C.pure_here (Flow Value) Goes
    or_goes_alike (Some d) = d.2

    all_alike : (items : List D) → AllAlike (Flow Value) (map (λ p. p.0) items) (map (λ p. p.1) items)
    all_alike [] = tt
    all_alike (d ∷ items) = (d.2, all_alike items)

    if_alike : (x : Expr) (r r' : Does Q W) (l l' : Does Q' W') → AlikeDoes r l → AlikeDoes r' l' → AlikeDoes ((m x).run >>= (λ v. if is_true v then r else r')) ((m' x).run >>= (λ v. if is_true v then l else l'))
    if_alike x r r' l l' h k = bind_here (like x).run (λ v. either_here (Flow Value) (is_true v) r r' l l' h k)

    pub stmt_alike : (result : Ty) (z : StmtForm-F (Later (Does Q W) (Does Q' W') AlikeDoes) D) (i : ℕ) → AlikeDoes (stmt_step F m result (left_parts (Does Q W) (Does Q' W') AlikeDoes z) i) (stmt_step F m' result (right_parts (Does Q W) (Does Q' W') AlikeDoes z) i)
    stmt_alike result (st.Block items) i = in_order_alike (map (λ p. p.0) items) (map (λ p. p.1) items) (all_alike items)
    stmt_alike result st.Empty i = C.pure_here (Flow Value) Goes
    stmt_alike result (st.Local t n x) i = goes_alike (bind_here (fitted_run (type_at F i) (m x) (m' x) (like x)) (write_local_alike (named_at F i)))
    stmt_alike result (st.Assign place x) i = goes_alike (assigned_alike place x)
    stmt_alike result (st.Compound n s x) i = goes_alike (compound_alike (named_at F i) s (type_at F i) x)
    stmt_alike result (st.Up n) i = goes_alike (change_local_alike (named_at F i) op.Add (pure (one (type_at F i))) (pure (one (type_at F i))) (C.pure_here Value (one (type_at F i))))
    stmt_alike result (st.Down n) i = goes_alike (change_local_alike (named_at F i) op.Sub (pure (one (type_at F i))) (pure (one (type_at F i))) (C.pure_here Value (one (type_at F i))))
    stmt_alike result (st.Call x) i = goes_alike (like x).run
    stmt_alike result (st.If x a None) i = if_alike x a.0 (pure Goes) a.1 (pure Goes) a.2 (C.pure_here (Flow Value) Goes)
    stmt_alike result (st.If x a (Some b)) i = if_alike x a.0 b.0 a.1 b.1 a.2 b.2
    stmt_alike result (st.While x body) i = loop_alike (m x).run (m' x).run body.0 body.1 (like x).run body.2 all_turns
    stmt_alike result (st.For begin x last body) i = bind_here begin.2 (goes_on_alike _ _ (loop_alike (m x).run (m' x).run (body.0 >>= goes_on last.0) (body.1 >>= goes_on last.1) (like x).run (bind_here body.2 (goes_on_alike last.0 last.1 last.2)) all_turns))
    stmt_alike result (st.Return None) i = returned_alike result None
    stmt_alike result (st.Return (Some x)) i = returned_alike result (Some x)
    stmt_alike result (st.Print x) i = goes_alike (bind_here (like x).run (λ v. only_act_here (cells.print_line v)))
