-- Typed expressions come to values of their types.
use Rattle.std.proofs.Common.{◌≡◌, ℕ, Bool, true, false, if◌then◌else◌, List, [], ◌∷◌, map, Option, Some, None, option_map, unwrap_or, refl, sym, ap, subst}
use Rattle.std.proofs.lemmas.Bool.{true≢false}
use Rattle.px_value.specs.declared.value.Value.{Value}
use Rattle.px_value.specs.declared.value.Value.TheVariants.{Null, Bool as Truth, Text}
use Rattle.px_value.specs.declared.op.Op.TheVariants as op
use Rattle.px_value.specs.declared.object.Object.{Object}
use Rattle.px_value.specs.Operators.{apply}
use Rattle.px_value.specs.Outcome.{◌>>=◌, pure, on_shared}
use Rattle.px_tree.specs.declared.Sign.{Sign}
use Rattle.px_tree.specs.declared.Sign.TheVariants as sign
use Rattle.px_tree.specs.declared.Expr.{Expr}
use Rattle.px_facts.specs.declared.types.Ty.{Ty}
use Rattle.px_facts.specs.declared.types.Ty.TheVariants as ty
use Rattle.px_facts.specs.declared.types.Element.{Element}
use Rattle.px_facts.specs.declared.checked.Named.{Named}
use Rattle.px_facts.specs.declared.checked.Named.TheVariants as named
use Rattle.px_facts.specs.declared.checked.MethodFact.{MethodFact}
use Rattle.px_facts.specs.declared.checked.Facts.{Facts}
use Rattle.px_facts.specs.declared.operation.Operation.{Operation}
use Rattle.px_facts.specs.Types.{element_type}
use Rattle.px_mean.specs.Run.{Here, came_to, turn}
use Rattle.px_mean.specs.Facts.{type_at, named_at, by_number, fields_of, params_in, operands_in, params_of, prefix_of}
use Rattle.px_mean.specs.Effects.{reference, get_field, put_field, array_length, load, store, new_object, new_array, next, get_long, get_string}
use Rattle.px_mean.specs.Operations.{Ask, query, update}
use Rattle.px_mean.specs.Expressions.{Calls, Around, Meant, no_place, fit, literal, assign_slot, this_value, name_value, put_name, member_value, put_member, fitted, receiver, result_value, value_at, call_method, invoke, called, made_object, made_array, prefixed, decides, combined, binary, meant}
use Rattle.px_mean.specs.Typed as typed
use Rattle.px_mean.specs.Typing as typing
use Rattle.px_mean.specs.Typed.{HasType, HaveTypes}
use Rattle.px_mean.specs.Typing.{literal_type, PrefixGives, BinaryGives, GivesType, Fits, IsVariable, IsMember, IsLibrary, AreSendable, is_select, IsTypedExpr, IsReceiver, AreArguments}
use Rattle.px_mean.specs.TypedRuns.{AnswersTyped}
use Rattle.px_mean.proofs.Forms.{meant_number, meant_text, meant_true, meant_false, meant_null, meant_this, meant_name, meant_group, meant_field, meant_index, meant_call, meant_new_object, meant_new_array, meant_prefix, meant_binary}
use Rattle.px_mean.proofs.TypedHeaps.{Grows, keeps_type, keep_types, typed_at}
use Rattle.px_mean.proofs.TypedEffects.{U, OfType, Anything, KeepsThere, then_there, turn_kept, get_kept, put_kept, reference_kept, length_kept, load_kept, store_kept, object_kept, array_kept, next_kept, long_kept, string_kept, query_kept, update_kept}
use Rattle.px_mean.proofs.TypedOperators.{length_gives, equals_gives, prefix_applies, binary_applies}
use Rattle.px_mean.proofs.TypedHere.{KeepsHere, then_here, shared_here, slot_here, assign_here, value_here, nothing_here, came_here, Always, fitted_here, Sound, no_place_sound, AllSound, all_fitted, all_as_they_are, called_here}

-- what a call gives to the expression around it
abbrev pub GivesBack : Ty → List Object → Option Value → Type 0
GivesBack t heap None = t ≡ ty.Void
GivesBack t heap (Some v) = HasType heap t v

given_back : (heap : List Object) (t : Ty) (v : Option Value) → GivesBack t heap v → HasType heap t (unwrap_or v Null)
given_back heap t None h = subst (λ (u : Ty). HasType heap u Null) (sym h) (typed.HasType.null ty.Void tt)
given_back heap t (Some v) h = h

-- a call of a method with values of the types of its slots gives a value of its result
abbrev pub CallsKept : (Q W : Type 0) → Facts → (W → Type 0) → Calls Q W → Type 0
CallsKept Q W F I calls = (method : ℕ) (fact : MethodFact) → by_number F.methods method ≡ Some fact → (heap : List Object) (values : List Value) → HaveTypes heap (ty.Object fact.class ∷ fact.params) values → KeepsThere Q W F I heap (Option Value) (calls method values) (GivesBack fact.result)

module _ (Q W : Type 0) (F : Facts) (I : W → Type 0) (slots : List Ty) (ask : Ask Q W) (answers : AnswersTyped F ask I) (calls : Calls Q W) (kept : CallsKept Q W F I calls) where
  abbrev pub P : Around Q W
  P = record { facts = F; ask = ask; calls = calls }

  abbrev says : Expr → Meant Q W
  says = meant P

  abbrev pub Here' : List Object → (A : Type 0) → Here Q W A → (List Object → A → Type 0) → Type 0
  Here' heap A r R = KeepsHere Q W F I slots heap A r R

  abbrev pub Runs : Ty → Here Q W Value → Type 0
  Runs t r = Always Q W F I slots t r

  abbrev pub Means : Ty → Meant Q W → Type 0
  Means t m = Sound Q W F I slots t m

  bind : {A B : Type 0} (R : List Object → A → Type 0) (S : List Object → B → Type 0) (heap : List Object) (r : Here Q W A) (f : A → Here Q W B) → Here' heap A r R → ((later : List Object) → Grows heap later → (a : A) → R later a → Here' later B (f a) S) → Here' heap B (r >>= f) S
  bind R S heap r f h k = then_here Q W F I slots R S heap r f h k

  literal_typed : (heap : List Object) (digits : List ℕ) (long : Bool) → HasType heap (literal_type long) (literal digits long)
  literal_typed heap digits true = typed.HasType.long _
  literal_typed heap digits false = typed.HasType.int _

  -- an expression that is a value
  value_means : (t u : Ty) (v : Value) → u ≡ t → ((heap : List Object) → HasType heap u v) → Means t (no_place t (pure v))
  value_means t u v e h = no_place_sound Q W F I slots t (pure v) (λ heap. value_here Q W F I slots heap t u v e (h heap))

  -- ---- names and members

  variable_means : (n : Named) (t : Ty) → IsVariable F slots n t → Means t (record { ty = t; run = name_value n; put = put_name n t })
  variable_means _ _ (typing.IsVariable.local slot t e) = record {
    type_is = refl;
    run = λ heap. slot_here Q W F I slots heap slot t e;
    put = λ heap from r f k. bind (OfType t) (Anything U) heap (r >>= fit from t) (assign_slot slot) (fitted_here Q W F I slots from t r f k heap) (λ later g v h. assign_here Q W F I slots later slot t v e h);
  }
  variable_means _ _ (typing.IsVariable.field class place t e f) = record {
    type_is = refl;
    run = λ heap. bind (OfType (ty.Object class)) (OfType t) heap this_value (λ o. on_shared (get_field o place)) (slot_here Q W F I slots heap 0 (ty.Object class) e) (λ later g o h. shared_here Q W F I slots Value (OfType t) later (get_field o place) (get_kept Q W F I later o place class t h f));
    put = λ heap from r x k. bind (OfType (ty.Object class)) (Anything U) heap this_value (λ o. r >>= fit from t >>= (λ v. on_shared (put_field o place v))) (slot_here Q W F I slots heap 0 (ty.Object class) e) (λ later g o h.
        bind (OfType t) (Anything U) later (r >>= fit from t) (λ v. on_shared (put_field o place v)) (fitted_here Q W F I slots from t r x k later) (λ last l v n. shared_here Q W F I slots U (Anything U) last (put_field o place v) (put_kept Q W F I last o place class t v (keeps_type later last l (ty.Object class) o h) f n)));
  }

  member_means : (n : Named) (u t : Ty) (m : Meant Q W) → IsMember F n u t → Means u m → Means t (record { ty = t; run = m.run >>= member_value n; put = λ from r. m.run >>= (λ o. r >>= fit from t >>= put_member n o) })
  member_means _ _ _ m (typing.IsMember.field class place t f) s = record {
    type_is = refl;
    run = λ heap. bind (OfType (ty.Object class)) (OfType t) heap m.run (member_value (named.Field class place)) (s.run heap) (λ later g o h. shared_here Q W F I slots Value (OfType t) later (get_field o place) (get_kept Q W F I later o place class t h f));
    put = λ heap from r x k. bind (OfType (ty.Object class)) (Anything U) heap m.run (λ o. r >>= fit from t >>= put_member (named.Field class place) o) (s.run heap) (λ later g o h.
        bind (OfType t) (Anything U) later (r >>= fit from t) (put_member (named.Field class place) o) (fitted_here Q W F I slots from t r x k later) (λ last l v n. shared_here Q W F I slots U (Anything U) last (put_field o place v) (put_kept Q W F I last o place class t v (keeps_type later last l (ty.Object class) o h) f n)));
  }
  member_means _ _ _ m (typing.IsMember.array_length of) s = record {
    type_is = refl;
    run = λ heap. bind (OfType (ty.Array of)) (OfType ty.Int) heap m.run (member_value named.ArrayLength) (s.run heap) (λ later g o h. shared_here Q W F I slots Value (OfType ty.Int) later (array_length o) (length_kept Q W F I later o));
    put = λ heap from r x k. bind (OfType (ty.Array of)) (Anything U) heap m.run (λ o. r >>= fit from ty.Int >>= put_member named.ArrayLength o) (s.run heap) (λ later g o h.
        bind (OfType ty.Int) (Anything U) later (r >>= fit from ty.Int) (put_member named.ArrayLength o) (fitted_here Q W F I slots from ty.Int r x k later) (λ last l v n. nothing_here Q W F I slots last));
  }

  element_means : (of : Element) (m i : Meant Q W) (w : Ty) → Means (ty.Array of) m → Means w i → Means (element_type of) (record { ty = element_type of; run = m.run >>= (λ a. i.run >>= (λ k. on_shared (load a k))); put = λ from r. m.run >>= (λ a. i.run >>= (λ k. r >>= fit from (element_type of) >>= (λ v. on_shared (store a k v)))) })
  element_means of m i w s p = let t = element_type of in record {
    type_is = refl;
    run = λ heap. bind (OfType (ty.Array of)) (OfType t) heap m.run (λ a. i.run >>= (λ k. on_shared (load a k))) (s.run heap) (λ later g a h.
        bind (OfType w) (OfType t) later i.run (λ k. on_shared (load a k)) (p.run later) (λ last l k n. shared_here Q W F I slots Value (OfType t) last (load a k) (load_kept Q W F I last a of k (keeps_type later last l (ty.Array of) a h))));
    put = λ heap from r f x. bind (OfType (ty.Array of)) (Anything U) heap m.run (λ a. i.run >>= (λ k. r >>= fit from t >>= (λ v. on_shared (store a k v)))) (s.run heap) (λ later g a h.
        bind (OfType w) (Anything U) later i.run (λ k. r >>= fit from t >>= (λ v. on_shared (store a k v))) (p.run later) (λ last l k n.
        bind (OfType t) (Anything U) last (r >>= fit from t) (λ v. on_shared (store a k v)) (fitted_here Q W F I slots from t r f x last) (λ end j v q.
        shared_here Q W F I slots U (Anything U) end (store a k v) (store_kept Q W F I end a of k v (keeps_type last end j (ty.Array of) a (keeps_type later last l (ty.Array of) a h)) q))));
  }

  -- ---- calls

  method_here : (heap : List Object) (method : ℕ) (fact : MethodFact) (values : List Value) → by_number F.methods method ≡ Some fact → HaveTypes heap (ty.Object fact.class ∷ fact.params) values → Here' heap Value (invoke P (named.Method method) values) (OfType fact.result)
  method_here heap method fact values e h =
      bind (GivesBack fact.result) (OfType fact.result) heap (on_shared (call_method calls method values)) result_value
      (shared_here Q W F I slots (Option Value) (GivesBack fact.result) heap (call_method calls method values)
      (then_there Q W F I (Anything ℕ) (GivesBack fact.result) heap (came_to (reference (value_at values 0))) (λ o. turn >>= (λ u. calls method values)) (reference_kept Q W F I heap (value_at values 0)) (λ later g o u.
      then_there Q W F I (Anything U) (GivesBack fact.result) later turn (λ u. calls method values) (turn_kept Q W F I later) (λ last l w x. kept method fact e last values (keep_both heap later last g l (ty.Object fact.class ∷ fact.params) values h)))))
      (λ later g v h. value_here Q W F I slots later fact.result fact.result (unwrap_or v Null) refl (given_back later fact.result v h))
    where
      keep_both : (a b c : List Object) → Grows a b → Grows b c → (ts : List Ty) (vs : List Value) → HaveTypes a ts vs → HaveTypes c ts vs
      keep_both a b c g l ts vs h = keep_types b c l ts vs (keep_types a b g ts vs h)

  abbrev Args : List Ty → List (Meant Q W) → Type 0
  Args ts ms = AllSound Q W F I slots ts ms

  calls_method : (method : ℕ) (fact : MethodFact) (of : Option (Meant Q W)) (args : List (Meant Q W)) → by_number F.methods method ≡ Some fact → Runs (ty.Object fact.class) (receiver of) → Args fact.params args → Runs fact.result (called P (named.Method method) of args)
  calls_method method fact of args e r a heap =
      called_here Q W F I slots heap (ty.Object fact.class ∷ []) fact.params (receiver of ∷ []) (fitted (params_of F (named.Method method)) 0 args) (invoke P (named.Method method)) fact.result (r, tt)
      (all_fitted Q W F I slots (params_of F (named.Method method)) 0 fact.params args (ap params_in e) a)
      (λ later values h. method_here later method fact values e h)

  calls_library : (n : Named) (u t : Ty) (ts : List Ty) (m : Meant Q W) (args : List (Meant Q W)) → IsLibrary n u ts t → Means u m → Args ts args → Runs t (called P n (Some m) args)
  calls_library _ _ _ _ m args typing.IsLibrary.text_length s a heap =
      called_here Q W F I slots heap (ty.Text ∷ []) [] (m.run ∷ []) (fitted [] 0 args) (invoke P named.TextLength) ty.Int (s.run, tt) (all_as_they_are Q W F I slots 0 [] args tt a)
      (λ later values h. came_here Q W F I slots later ty.Int (apply op.Length (value_at values 0) (value_at values 0)) (length_gives later (value_at values 0) (value_at values 0) (typed_at later (ty.Text ∷ []) values 0 ty.Text h refl)))
  calls_library _ _ _ _ m args typing.IsLibrary.text_equals s a heap =
      called_here Q W F I slots heap (ty.Text ∷ []) (ty.Text ∷ []) (m.run ∷ []) (fitted [] 0 args) (invoke P named.TextEquals) ty.Boolean (s.run, tt) (all_as_they_are Q W F I slots 0 (ty.Text ∷ []) args (λ h. tt, tt) a)
      (λ later values h. came_here Q W F I slots later ty.Boolean (apply op.Equals (value_at values 0) (value_at values 1)) (equals_gives later (value_at values 0) (value_at values 1) (typed_at later (ty.Text ∷ ty.Text ∷ []) values 0 ty.Text h refl) (typed_at later (ty.Text ∷ ty.Text ∷ []) values 1 ty.Text h refl)))
  calls_library _ _ _ _ m args typing.IsLibrary.next s a heap =
      called_here Q W F I slots heap (ty.ResultSet ∷ []) [] (m.run ∷ []) (fitted [] 0 args) (invoke P named.Next) ty.Boolean (s.run, tt) (all_as_they_are Q W F I slots 0 [] args tt a)
      (λ later values h. shared_here Q W F I slots Value (OfType ty.Boolean) later (next F (value_at values 0)) (next_kept Q W F I later (value_at values 0) (typed_at later (ty.ResultSet ∷ []) values 0 ty.ResultSet h refl)))
  calls_library _ _ _ _ m args typing.IsLibrary.get_long s a heap =
      called_here Q W F I slots heap (ty.ResultSet ∷ []) (ty.Int ∷ []) (m.run ∷ []) (fitted [] 0 args) (invoke P named.GetLong) ty.Long (s.run, tt) (all_as_they_are Q W F I slots 0 (ty.Int ∷ []) args (λ h. tt, tt) a)
      (λ later values h. shared_here Q W F I slots Value (OfType ty.Long) later (get_long F (value_at values 0) (value_at values 1)) (long_kept Q W F I later (value_at values 0) (value_at values 1)))
  calls_library _ _ _ _ m args typing.IsLibrary.get_string s a heap =
      called_here Q W F I slots heap (ty.ResultSet ∷ []) (ty.Int ∷ []) (m.run ∷ []) (fitted [] 0 args) (invoke P named.GetString) ty.Text (s.run, tt) (all_as_they_are Q W F I slots 0 (ty.Int ∷ []) args (λ h. tt, tt) a)
      (λ later values h. shared_here Q W F I slots Value (OfType ty.Text) later (get_string F (value_at values 0) (value_at values 1)) (string_kept Q W F I later (value_at values 0) (value_at values 1)))

  calls_query : (number site : ℕ) (o : Operation) (of : Option (Meant Q W)) (written : Meant Q W) (args : List (Meant Q W)) → by_number F.operations number ≡ Some o → AreSendable o.params → Args o.params args → Runs ty.ResultSet (called P (named.Query number site) of (written ∷ args))
  calls_query number site o of written args e p a heap =
      called_here Q W F I slots heap [] o.params [] (fitted (params_of F (named.Query number site)) 0 args) (invoke P (named.Query number site)) ty.ResultSet tt
      (all_fitted Q W F I slots (params_of F (named.Query number site)) 0 o.params args (ap operands_in e) a)
      (λ later values h. shared_here Q W F I slots Value (OfType ty.ResultSet) later (query ask number site (by_number F.operations number) values)
      (subst (λ (x : Option Operation). KeepsThere Q W F I later Value (query ask number site x values) (OfType ty.ResultSet)) (sym e) (query_kept Q W F I ask answers later number site o values e p h)))

  calls_update : (number : ℕ) (o : Operation) (of : Option (Meant Q W)) (written : Meant Q W) (args : List (Meant Q W)) → by_number F.operations number ≡ Some o → is_select o.statement ≡ false → AreSendable o.params → Args o.params args → Runs ty.Int (called P (named.Update number) of (written ∷ args))
  calls_update number o of written args e f p a heap =
      called_here Q W F I slots heap [] o.params [] (fitted (params_of F (named.Update number)) 0 args) (invoke P (named.Update number)) ty.Int tt
      (all_fitted Q W F I slots (params_of F (named.Update number)) 0 o.params args (ap operands_in e) a)
      (λ later values h. shared_here Q W F I slots Value (OfType ty.Int) later (update ask number (by_number F.operations number) values)
      (subst (λ (x : Option Operation). KeepsThere Q W F I later Value (update ask number x values) (OfType ty.Int)) (sym e) (update_kept Q W F I ask answers later number o values e f p h)))

  -- ---- `new`

  object_made : (class site : ℕ) → Runs (ty.Object class) (made_object F (named.NewObject class site))
  object_made class site heap = shared_here Q W F I slots Value (OfType (ty.Object class)) heap (new_object class site (fields_of F class)) (object_kept Q W F I heap class site)

  array_made : (site : ℕ) (of : Element) (w : Ty) (m : Meant Q W) → Means w m → Runs (ty.Array of) (m.run >>= made_array (named.NewArray site) (ty.Array of))
  array_made site of w m s heap = bind (OfType w) (OfType (ty.Array of)) heap m.run (made_array (named.NewArray site) (ty.Array of)) (s.run heap) (λ later g v h. shared_here Q W F I slots Value (OfType (ty.Array of)) later (new_array site (ty.Array of) v) (array_kept Q W F I later site of v))

  -- ---- operators

  prefix_made : (s : Sign) (u t : Ty) (m : Meant Q W) → PrefixGives (prefix_of s u) u t → Means u m → Runs t (m.run >>= (λ v. came_to (prefixed (prefix_of s m.ty) v)))
  prefix_made s u t m g h heap =
      subst (λ (w : Ty). Here' heap Value (m.run >>= (λ v. came_to (prefixed (prefix_of s w) v))) (OfType t)) (sym h.type_is)
      (bind (OfType u) (OfType t) heap m.run (λ v. came_to (prefixed (prefix_of s u) v)) (h.run heap) (λ later l v k. came_here Q W F I slots later t (prefixed (prefix_of s u) v) (prefix_applies later (prefix_of s u) u t v g k)))

  decided : (s : Sign) (l r t : Ty) (heap : List Object) (a : Value) → BinaryGives s l r t → HasType heap l a → decides s a ≡ true → HasType heap t a
  decided sign.Both l r t heap a g h e = subst (λ (x : Ty). HasType heap x a) g.0 h
  decided sign.Either l r t heap a g h e = subst (λ (x : Ty). HasType heap x a) g.0 h
  decided sign.Plus l r t heap a g h e = absurd (true≢false (sym e))
  decided sign.Minus l r t heap a g h e = absurd (true≢false (sym e))
  decided sign.Times l r t heap a g h e = absurd (true≢false (sym e))
  decided sign.Over l r t heap a g h e = absurd (true≢false (sym e))
  decided sign.Rest l r t heap a g h e = absurd (true≢false (sym e))
  decided sign.And l r t heap a g h e = absurd (true≢false (sym e))
  decided sign.Or l r t heap a g h e = absurd (true≢false (sym e))
  decided sign.Xor l r t heap a g h e = absurd (true≢false (sym e))
  decided sign.Shl l r t heap a g h e = absurd (true≢false (sym e))
  decided sign.Shr l r t heap a g h e = absurd (true≢false (sym e))
  decided sign.Ushr l r t heap a g h e = absurd (true≢false (sym e))
  decided sign.Less l r t heap a g h e = absurd (true≢false (sym e))
  decided sign.AtMost l r t heap a g h e = absurd (true≢false (sym e))
  decided sign.More l r t heap a g h e = absurd (true≢false (sym e))
  decided sign.AtLeast l r t heap a g h e = absurd (true≢false (sym e))
  decided sign.Equal l r t heap a g h e = absurd (true≢false (sym e))
  decided sign.Unequal l r t heap a g h e = absurd (true≢false (sym e))
  decided sign.Not l r t heap a g h e = absurd (true≢false (sym e))
  decided sign.Inv l r t heap a g h e = absurd (true≢false (sym e))
  decided sign.ToInt l r t heap a g h e = absurd (true≢false (sym e))
  decided sign.ToLong l r t heap a g h e = absurd (true≢false (sym e))

  by_truth : (heap : List Object) (t : Ty) (b : Bool) (r l : Here Q W Value) → (b ≡ true → Here' heap Value r (OfType t)) → Here' heap Value l (OfType t) → Here' heap Value (if b then r else l) (OfType t)
  by_truth heap t true r l h k = h refl
  by_truth heap t false r l h k = k

  binary_run : (s : Sign) (l r t : Ty) (m n : Meant Q W) → BinaryGives s l r t → Means l m → Means r n → Runs t (binary s l r m.run n.run)
  binary_run s l r t m n g h k heap =
      bind (OfType l) (OfType t) heap m.run (λ a. if decides s a then pure a else n.run >>= (λ b. came_to (combined s l r a b))) (h.run heap) (λ later i a p.
      by_truth later t (decides s a) (pure a) (n.run >>= (λ b. came_to (combined s l r a b)))
      (λ d. value_here Q W F I slots later t t a refl (decided s l r t later a g p d))
      (bind (OfType r) (OfType t) later n.run (λ b. came_to (combined s l r a b)) (k.run later) (λ last j b q.
      came_here Q W F I slots last t (combined s l r a b) (binary_applies last s l r t a b g (keeps_type later last j l a p) q))))

  binary_made : (s : Sign) (l r t : Ty) (m n : Meant Q W) → BinaryGives s l r t → Means l m → Means r n → Runs t (binary s m.ty n.ty m.run n.run)
  binary_made s l r t m n g h k heap =
      subst (λ (u : Ty). Here' heap Value (binary s u n.ty m.run n.run) (OfType t)) (sym h.type_is)
      (subst (λ (u : Ty). Here' heap Value (binary s l u m.run n.run) (OfType t)) (sym k.type_is) (binary_run s l r t m n g h k heap))

  -- ---- all forms

  -- what a form of this type means, where its equation is this
  means_by : (x : Expr) (t : Ty) (m : Meant Q W) → says x ≡ m → Means t m → Means t (says x)
  means_by x t m e h = subst (λ (k : Meant Q W). Means t k) (sym e) h

  runs_by : (x : Expr) (t : Ty) (r : Here Q W Value) → says x ≡ no_place t r → Runs t r → Means t (says x)
  runs_by x t r e h = means_by x t (no_place t r) e (no_place_sound Q W F I slots t r h)

  -- a run that names what the expression names
  by_name : (x : Expr) (n : Named) (t u : Ty) (f : Named → Here Q W Value) → named_at F x.id ≡ n → u ≡ t → Runs u (f n) → Runs t (f (named_at F x.id))
  by_name x n t u f e d h = subst (λ (k : Named). Runs t (f k)) (sym e) (subst (λ (w : Ty). Runs w (f n)) d h)

  mutual
    pub means_typed : (x : Expr) → IsTypedExpr F slots x → Means (type_at F x.id) (says x)
    means_typed _ (typing.IsTypedExpr.number x digits long h e) = means_by x (type_at F x.id) _ (meant_number Q W P x digits long h) (value_means (type_at F x.id) (literal_type long) (literal digits long) (sym e) (λ heap. literal_typed heap digits long))
    means_typed _ (typing.IsTypedExpr.text x bytes h e) = means_by x (type_at F x.id) _ (meant_text Q W P x bytes h) (value_means (type_at F x.id) ty.Text (Text bytes) (sym e) (λ heap. typed.HasType.text bytes))
    means_typed _ (typing.IsTypedExpr.truth x h e) = means_by x (type_at F x.id) _ (meant_true Q W P x h) (value_means (type_at F x.id) ty.Boolean (Truth true) (sym e) (λ heap. typed.HasType.truth true))
    means_typed _ (typing.IsTypedExpr.falsehood x h e) = means_by x (type_at F x.id) _ (meant_false Q W P x h) (value_means (type_at F x.id) ty.Boolean (Truth false) (sym e) (λ heap. typed.HasType.truth false))
    means_typed _ (typing.IsTypedExpr.null x h e) = means_by x (type_at F x.id) _ (meant_null Q W P x h) (value_means (type_at F x.id) ty.Null Null (sym e) (λ heap. typed.HasType.null ty.Null tt))
    means_typed _ (typing.IsTypedExpr.this x h e) = runs_by x (type_at F x.id) this_value (meant_this Q W P x h) (λ heap. slot_here Q W F I slots heap 0 (type_at F x.id) e)
    means_typed _ (typing.IsTypedExpr.variable x n h v) = means_by x (type_at F x.id) _ (meant_name Q W P x n h) (variable_means (named_at F x.id) (type_at F x.id) v)
    means_typed _ (typing.IsTypedExpr.group x inner h e s) = runs_by x (type_at F x.id) (says inner).run (meant_group Q W P x inner inner h refl) (subst (λ (t : Ty). Runs t (says inner).run) e (means_typed inner s).run)
    means_typed _ (typing.IsTypedExpr.field x of n h m s) = means_by x (type_at F x.id) _ (meant_field Q W P x of of n h refl) (member_means (named_at F x.id) (type_at F of.id) (type_at F x.id) (says of) m (means_typed of s))
    means_typed _ (typing.IsTypedExpr.indexed x of index t h e d s i) =
        let a : Means (ty.Array t) (says of) = subst (λ (u : Ty). Means u (says of)) e (means_typed of s) in
        let k = element_means t (says of) (says index) (type_at F index.id) a (means_typed index i) in
        means_by x (type_at F x.id) _ (meant_index Q W P x of of index index h refl refl) (subst (λ (u : Ty). Means u (record { ty = u; run = (says of).run >>= (λ a. (says index).run >>= (λ k. on_shared (load a k))); put = λ from r. (says of).run >>= (λ a. (says index).run >>= (λ k. r >>= fit from u >>= (λ v. on_shared (store a k v)))) })) d k)
    means_typed _ (typing.IsTypedExpr.call x of n args method fact h e f d r a) =
        runs_by x (type_at F x.id) (called P (named_at F x.id) (option_map says of) (map says args)) (meant_call Q W P x of n args h)
        (by_name x (named.Method method) (type_at F x.id) fact.result (λ k. called P k (option_map says of) (map says args)) e d (calls_method method fact (option_map says of) (map says args) f (receiver_runs (ty.Object fact.class) of r) (arguments_mean fact.params args a)))
    means_typed _ (typing.IsTypedExpr.library x of n args params h l s a) =
        runs_by x (type_at F x.id) (called P (named_at F x.id) (Some (says of)) (map says args)) (meant_call Q W P x (Some of) n args h)
        (calls_library (named_at F x.id) (type_at F of.id) (type_at F x.id) params (says of) (map says args) l (means_typed of s) (arguments_mean params args a))
    means_typed _ (typing.IsTypedExpr.query x of n written args number site o h e f d p a) =
        runs_by x (type_at F x.id) (called P (named_at F x.id) (option_map says of) (says written ∷ map says args)) (meant_call Q W P x of n (written ∷ args) h)
        (by_name x (named.Query number site) (type_at F x.id) ty.ResultSet (λ k. called P k (option_map says of) (says written ∷ map says args)) e (sym d) (calls_query number site o (option_map says of) (says written) (map says args) f p (arguments_mean o.params args a)))
    means_typed _ (typing.IsTypedExpr.update x of n written args number o h e f c d p a) =
        runs_by x (type_at F x.id) (called P (named_at F x.id) (option_map says of) (says written ∷ map says args)) (meant_call Q W P x of n (written ∷ args) h)
        (by_name x (named.Update number) (type_at F x.id) ty.Int (λ k. called P k (option_map says of) (says written ∷ map says args)) e (sym d) (calls_update number o (option_map says of) (says written) (map says args) f c p (arguments_mean o.params args a)))
    means_typed _ (typing.IsTypedExpr.new_object x n class site h e d) =
        runs_by x (type_at F x.id) (made_object F (named_at F x.id)) (meant_new_object Q W P x n h) (by_name x (named.NewObject class site) (type_at F x.id) (ty.Object class) (λ k. made_object F k) e (sym d) (object_made class site))
    means_typed _ (typing.IsTypedExpr.new_array x size b site t h e d s) =
        runs_by x (type_at F x.id) ((says size).run >>= made_array (named_at F x.id) (type_at F x.id)) (meant_new_array Q W P x size size b h refl)
        (subst (λ (k : Named). Runs (type_at F x.id) ((says size).run >>= made_array k (type_at F x.id))) (sym e) (subst (λ (u : Ty). Runs u ((says size).run >>= made_array (named.NewArray site) u)) (sym d) (array_made site t (type_at F size.id) (says size) (means_typed size s))))
    means_typed _ (typing.IsTypedExpr.prefix x y s h g k) =
        runs_by x (type_at F x.id) _ (meant_prefix Q W P x y y s h refl) (prefix_made s (type_at F y.id) (type_at F x.id) (says y) g (means_typed y k))
    means_typed _ (typing.IsTypedExpr.binary x l r s at h g a b) =
        runs_by x (type_at F x.id) _ (meant_binary Q W P x l r l r s at h refl refl) (binary_made s (type_at F l.id) (type_at F r.id) (type_at F x.id) (says l) (says r) g (means_typed l a) (means_typed r b))

    receiver_runs : (t : Ty) (of : Option Expr) → IsReceiver F slots t of → Runs t (receiver (option_map says of))
    receiver_runs _ _ (typing.IsReceiver.own t e) heap = slot_here Q W F I slots heap 0 t e
    receiver_runs _ _ (typing.IsReceiver.of t x e s) heap = (subst (λ (u : Ty). Means u (says x)) e (means_typed x s)).run heap

    arguments_mean : (ts : List Ty) (args : List Expr) → AreArguments F slots ts args → Args ts (map says args)
    arguments_mean _ _ typing.AreArguments.none = tt
    arguments_mean _ _ (typing.AreArguments.more t ts x xs f s a) = ((type_at F x.id, f, means_typed x s), arguments_mean ts xs a)
