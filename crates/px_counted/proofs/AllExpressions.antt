-- Each typed expression is lowered to code that its counters count.
use Rattle.std.proofs.Common.{◌≡◌, ℕ, ◌+◌, ◌≤◌, true, false, List, [], ◌∷◌, length, map, Option, Some, None, option_map, refl, sym, subst, arith}
use Rattle.px_value.specs.declared.value.Value.{Value}
use Rattle.px_value.specs.declared.value.Value.TheVariants.{Bool as Truth, Text, Null}
use Rattle.px_value.specs.Outcome.{◌>>=◌, pure}
use Rattle.px_tree.specs.declared.Sign.{Sign}
use Rattle.px_tree.specs.declared.Name.{Name}
use Rattle.px_tree.specs.declared.Expr.{Expr}
use Rattle.px_tree.specs.declared.ExprForm.TheVariants as e
use Rattle.px_facts.specs.declared.types.Ty.{Ty as Static}
use Rattle.px_facts.specs.declared.types.Ty.TheVariants as static
use Rattle.px_facts.specs.declared.checked.Named.{Named}
use Rattle.px_facts.specs.declared.checked.Named.TheVariants as named
use Rattle.px_facts.specs.declared.checked.Checked.{Checked}
use Rattle.px_effects.specs.Run.{Ask}
use Rattle.px_mean.specs.Facts.{type_at, named_at, params_of}
use Rattle.px_mean.specs.Expressions.{Calls as SourceCalls, Around, Meant, literal, this_value, called, made_object, made_array, binary}
use Rattle.px_mean.specs.Typing.{IsLibrary, IsTypedExpr, IsReceiver, AreArguments}
use Rattle.px_mean.specs.Typing as typing
use Rattle.px_normal.specs.declared.node.Counter.{Counter}
use Rattle.px_normal.specs.declared.node.Counter.TheVariants.{Begun}
use Rattle.px_normal.specs.declared.word.Operand.TheVariants.{Slot, Literal}
use Rattle.px_normal.specs.declared.code.Code.{Code}
use Rattle.px_normal.specs.CodeRun.{Calls}
use Rattle.px_lowering.specs.declared.draft.Draft.{Draft}
use Rattle.px_lowering.specs.declared.valued.Step.TheVariants as step
use Rattle.px_lowering.specs.declared.valued.Had.TheVariants.{Held}
use Rattle.px_lowering.specs.Types.{code_type}
use Rattle.px_lowering.specs.Expressions.{Low, low, low_value, part_of, operand_at, valued, object_had, array_had, arguments, call_low, binary_low}
use Rattle.px_lowering.proofs.Forms.{low_number, low_text, low_true, low_false, low_null, low_this, low_name, low_group, low_field, low_index, low_call, low_new_object, low_new_array, low_prefix, low_binary}
use Rattle.px_counts.specs.Marks.{Marked, marked_ask}
use Rattle.px_counts.proofs.Unmarked.{SameHere, SameThere}
use Rattle.px_counts.proofs.Beside.{object_here}
use Rattle.px_preservation.proofs.Agree.{CallsMeet, IsLowered, Lowers}
use Rattle.px_preservation.proofs.Arguments.{AllLower}
use Rattle.px_preservation.proofs.Program.{SameProgram}
use Rattle.px_preservation.proofs.Expressions.{within, lowers_expr}
use Rattle.px_counted.specs.Laws.{NeverThrows}
use Rattle.px_counted.proofs.Steps.{CallsCount}
use Rattle.px_counted.proofs.Keeps.{keeping}
use Rattle.px_counted.proofs.Given.{own_by, gives_all, gives_number, gives_text, gives_true, gives_false, gives_null, gives_this, gives_name, gives_group, gives_field, gives_index, gives_call, gives_call_own, gives_new_object, gives_new_array, gives_prefix, gives_binary}
use Rattle.px_counted.proofs.MarkedForms.{meant_number, meant_text, meant_true, meant_false, meant_null, meant_this, meant_name, meant_group, meant_field, meant_index, meant_call, meant_new_object, meant_new_array, meant_prefix, meant_binary}
use Rattle.px_counted.proofs.Values.{M, counts_none}
use Rattle.px_counted.proofs.Fits.{counts_group}
use Rattle.px_counted.proofs.Expressions.{LowC, marks_of, B, D, G, AM, means, marked_means, marked_type, Counts, OfForm, by_form, own_given, own_alone, held, variable_counts, member_counts, index_counts, array_counts, binary_counts}
use Rattle.px_counted.proofs.Prefixes.{prefix_counts}
use Rattle.px_counted.proofs.Invoked.{Given, Receives, AllC, method_call, length_call, equals_call, next_call, long_call, text_call, query_call, update_call, made_more}

module _ (Q W : Type 0) (ask : Ask Q W) (never : NeverThrows Q W ask) (P : Checked) (code : Code) (source_calls : SourceCalls Q W) (calls : Calls Q W) (n k : ℕ) (counter : Counter) (met : CallsMeet Q W ask P code source_calls calls n) (same : SameProgram P code) (marked_calls : SourceCalls Q (Marked W)) (alike : (method : ℕ) (values : List Value) → SameThere Q W (Option Value) (marked_calls method values) (source_calls method values)) (count : CallsCount Q W ask code calls k counter never marked_calls) where
  abbrev HereM : Type 0 → Type 0
  HereM A = M Q W ask never P code source_calls calls n k counter A

  abbrev C : Expr → Type 0
  C = Counts Q W ask never P code source_calls calls n k counter met same marked_calls alike

  abbrev MM : Expr → Meant Q (Marked W)
  MM = marked_means Q W ask never P code source_calls calls n k counter met same marked_calls alike

  abbrev Around' : Around Q (Marked W)
  Around' = AM Q W ask never P code source_calls calls n k counter met same marked_calls alike

  abbrev SM : Expr → Meant Q W
  SM = means Q W ask never P code source_calls calls n k counter met same marked_calls alike

  abbrev Gn : Expr → ℕ
  Gn = G Q W ask never P code source_calls calls n k counter met same marked_calls alike

  abbrev own_of : Expr → ℕ
  own_of x = B Q W ask never P code source_calls calls n k counter met same marked_calls alike x.id + D Q W ask never P code source_calls calls n k counter met same marked_calls alike x.id

  abbrev Marks : ℕ → HereM Value → HereM Value
  Marks = marks_of Q W ask never P code source_calls calls n k counter met same marked_calls alike

  abbrev LowersExpr : Expr → Type 0
  LowersExpr = Lowers Q W ask P code source_calls calls n

  -- an expression of this run is counted
  abbrev IsCounted : Expr → HereM Value → Low → ℕ → Type 0
  IsCounted x r l g = OfForm Q W ask never P code source_calls calls n k counter met same marked_calls alike x (Marks x.id r) l g

  in_form : (x : Expr) (m : Meant Q (Marked W)) (l : Low) (g : ℕ) → MM x ≡ m → low P x ≡ l → Gn x ≡ g → LowersExpr x → OfForm Q W ask never P code source_calls calls n k counter met same marked_calls alike x m.run l g → C x
  in_form = by_form Q W ask never P code source_calls calls n k counter met same marked_calls alike

  with_own : (x : Expr) (g : ℕ) → Gn x ≡ own_by counter x.id + g → Gn x ≡ own_of x + g
  with_own = own_given Q W ask never P code source_calls calls n k counter met same marked_calls alike

  alone : (x : Expr) → Gn x ≡ own_by counter x.id + 0 → Gn x ≡ own_of x
  alone = own_alone Q W ask never P code source_calls calls n k counter met same marked_calls alike

  -- ---- `new`

  object_counts : (class site : ℕ) (x : Expr) → IsCounted x (made_object P.facts (named.NewObject class site)) (low_value x.id (valued (object_had P (named.NewObject class site) x.id) x.id x.token)) (own_of x)
  object_counts class site x o le few s p =
      counts_none Q W ask never P code source_calls calls n k counter (made_object P.facts (named.NewObject class site)) (SM x).run o (object_here Q (Marked W) Q (Marked W) (marked_ask ask) (marked_ask ask) (keeping Q W ask) P.facts (named.NewObject class site))
      (step.New class site) tt (code_type (type_at P.facts x.id)) (Begun x.id) x.id x.token (λ e. e) s p few

  -- ---- binary operators

  pair_counts : (s : Sign) (x l r : Expr) → C l → C r → IsCounted x (binary s (MM l).ty (MM r).ty (MM l).run (MM r).run) (low_value x.id (binary_low P s (part_of P l) (part_of P r) x.id x.token)) (own_of x + (Gn l + Gn r))
  pair_counts s x l r h h' =
      let left = marked_type Q W ask never P code source_calls calls n k counter met same marked_calls alike l in
      let right = marked_type Q W ask never P code source_calls calls n k counter met same marked_calls alike r in
      subst (λ (t : Static). IsCounted x (binary s t (MM r).ty (MM l).run (MM r).run) (low_value x.id (binary_low P s (part_of P l) (part_of P r) x.id x.token)) (own_of x + (Gn l + Gn r))) (sym left)
      (subst (λ (t : Static). IsCounted x (binary s (type_at P.facts l.id) t (MM l).run (MM r).run) (low_value x.id (binary_low P s (part_of P l) (part_of P r) x.id x.token)) (own_of x + (Gn l + Gn r))) (sym right)
      (λ o le few s' p. binary_counts Q W ask never P code source_calls calls n k counter met same marked_calls alike s x l r h h' o le few s' p))

  -- ---- calls

  abbrev Parts : Option Expr → List Expr → ℕ
  Parts = Given Q W ask never P code source_calls calls n k counter met same marked_calls alike count

  abbrev Received : Option Expr → Type 0
  Received = Receives Q W ask never P code source_calls calls n k counter met same marked_calls alike count

  abbrev AllCount : List Expr → Type 0
  AllCount = AllC Q W ask never P code source_calls calls n k counter met same marked_calls alike count

  abbrev Lowered : List Expr → Type 0
  Lowered = AllLower Q W ask P code source_calls calls n met

  abbrev Calling : Expr → Named → Option Expr → List Expr → Type 0
  Calling x name of args = IsCounted x (called Around' name (option_map MM of) (map MM args)) (low_value x.id (call_low P name (option_map (part_of P) of) (map (part_of P) args) x.id x.token)) (own_of x + Parts of args)

  call_given : (x : Expr) (of : Option Expr) (n' : Name) (args : List Expr) → x.form ≡ e.Call of n' args → Gn x ≡ own_of x + Parts of args
  call_given x None n' args h = with_own x (0 + gives_all counter args) (gives_call_own counter x n' args h)
  call_given x (Some of) n' args h = with_own x (Gn of + gives_all counter args) (gives_call counter x of n' args h)

  call_by : (x : Expr) (of : Option Expr) (n' : Name) (args : List Expr) (name : Named) → x.form ≡ e.Call of n' args → named_at P.facts x.id ≡ name → LowersExpr x → Calling x name of args → C x
  call_by x of n' args name h e lowers k' =
      in_form x _ _ (own_of x + Parts of args) (meant_call Q W Around' x of n' args h) (low_call P x of n' args h) (call_given x of n' args h) lowers (subst (λ (m : Named). Calling x m of args) (sym e) k')

  own_method : (x : Expr) (method : ℕ) (of : Option Expr) (args : List Expr) → Received of → AllCount args → Lowered args → Calling x (named.Method method) of args
  own_method x method of args some h l o le few s p =
      method_call Q W ask never P code source_calls calls n k counter met same marked_calls alike count method of args (params_of P.facts (named.Method method)) some h l o x.id x.token (code_type (type_at P.facts x.id)) (SM x).run le few s p

  library : (x : Expr) (name : Named) (u t : Static) (ts : List Static) → IsLibrary name u ts t → (of : Expr) (args : List Expr) → Received (Some of) → AllCount args → Lowered args → Calling x name (Some of) args
  library x _ _ _ _ typing.IsLibrary.text_length of args some h l o le few s p = length_call Q W ask never P code source_calls calls n k counter met same marked_calls alike count (Some of) args [] some h l o x.id x.token (code_type (type_at P.facts x.id)) (SM x).run le few s p
  library x _ _ _ _ typing.IsLibrary.text_equals of args some h l o le few s p = equals_call Q W ask never P code source_calls calls n k counter met same marked_calls alike count (Some of) args [] some h l o x.id x.token (code_type (type_at P.facts x.id)) (SM x).run le few s p
  library x _ _ _ _ typing.IsLibrary.next of args some h l o le few s p = next_call Q W ask never P code source_calls calls n k counter met same marked_calls alike count (Some of) args [] some h l o x.id x.token (code_type (type_at P.facts x.id)) (SM x).run le few s p
  library x _ _ _ _ typing.IsLibrary.get_long of args some h l o le few s p = long_call Q W ask never P code source_calls calls n k counter met same marked_calls alike count (Some of) args [] some h l o x.id x.token (code_type (type_at P.facts x.id)) (SM x).run le few s p
  library x _ _ _ _ typing.IsLibrary.get_string of args some h l o le few s p = text_call Q W ask never P code source_calls calls n k counter met same marked_calls alike count (Some of) args [] some h l o x.id x.token (code_type (type_at P.facts x.id)) (SM x).run le few s p

  -- the text of an operation isn't lowered, nor what it is asked of
  parts_more : (of : Option Expr) (written : Expr) (args : List Expr) → gives_all counter args ≤ Parts of (written ∷ args)
  parts_more None written args = omega (arith)
  parts_more (Some of) written args = omega (arith)

  queried : (x : Expr) (number site : ℕ) (of : Option Expr) (written : Expr) (args : List Expr) → AllCount args → Lowered args → Calling x (named.Query number site) of (written ∷ args)
  queried x number site of written args h l o le few s p =
      let types = params_of P.facts (named.Query number site) in
      let r = arguments P types 0 (Begun x.id) (map (part_of P) args) o in
      let more = parts_more of written args in
      made_more Q W ask never P code source_calls calls n k counter met same marked_calls alike count (own_of x + gives_all counter args) (own_of x + Parts of (written ∷ args)) x.id x.token _ (SM x).run o r.out (step.Query number site r.value.operands) (code_type (type_at P.facts x.id)) r.value.counter (omega (arith, more)) few
      (query_call Q W ask never P code source_calls calls n k counter met same marked_calls alike count number site args types h l o x.id x.token (code_type (type_at P.facts x.id)) (SM x).run le (omega (arith, more, few)) s p)

  updated : (x : Expr) (number : ℕ) (of : Option Expr) (written : Expr) (args : List Expr) → AllCount args → Lowered args → Calling x (named.Update number) of (written ∷ args)
  updated x number of written args h l o le few s p =
      let types = params_of P.facts (named.Update number) in
      let r = arguments P types 0 (Begun x.id) (map (part_of P) args) o in
      let more = parts_more of written args in
      made_more Q W ask never P code source_calls calls n k counter met same marked_calls alike count (own_of x + gives_all counter args) (own_of x + Parts of (written ∷ args)) x.id x.token _ (SM x).run o r.out (step.Update number r.value.operands) (code_type (type_at P.facts x.id)) r.value.counter (omega (arith, more)) few
      (update_call Q W ask never P code source_calls calls n k counter met same marked_calls alike count number args types h l o x.id x.token (code_type (type_at P.facts x.id)) (SM x).run le (omega (arith, more, few)) s p)

  -- ---- all expressions

  module _ (slots : List Static) (size : n ≡ length slots) where
    lowers : (x : Expr) → IsTypedExpr P.facts slots x → LowersExpr x
    lowers = lowers_expr Q W ask P code source_calls calls n met same slots size

    all_lower : (ts : List Static) (xs : List Expr) → AreArguments P.facts slots ts xs → Lowered xs
    all_lower _ _ typing.AreArguments.none = tt
    all_lower _ _ (typing.AreArguments.more t ts x xs f p a) = (lowers x p, all_lower ts xs a)

    stands : (x : Expr) (v : Value) (o : Draft) → own_of x ≤ 1 → SameHere Q W Value (Marks x.id (pure v)) (SM x).run → IsLowered Q W ask P code source_calls calls n (SM x).run o (valued (Held (Literal v)) x.id x.token o) → LowC Q W ask never P code source_calls calls n k counter met same marked_calls alike (own_of x) x.id (Marks x.id (pure v)) (SM x).run o (valued (Held (Literal v)) x.id x.token o)
    stands x v o few s p = held Q W ask never P code source_calls calls n k counter met same marked_calls alike x (pure v) (Literal v) x.token (λ s. (v, refl)) o few s p

    mutual
      counts_at : (x : Expr) → IsTypedExpr P.facts slots x → LowersExpr x → C x
      counts_at _ (typing.IsTypedExpr.number x digits long h e) l = in_form x _ _ (own_of x) (meant_number Q W Around' x digits long h) (low_number P x digits long h) (alone x (gives_number counter x digits long h)) l (λ o le few s p. stands x (literal digits long) o few s p)
      counts_at _ (typing.IsTypedExpr.text x bytes h e) l = in_form x _ _ (own_of x) (meant_text Q W Around' x bytes h) (low_text P x bytes h) (alone x (gives_text counter x bytes h)) l (λ o le few s p. stands x (Text bytes) o few s p)
      counts_at _ (typing.IsTypedExpr.truth x h e) l = in_form x _ _ (own_of x) (meant_true Q W Around' x h) (low_true P x h) (alone x (gives_true counter x h)) l (λ o le few s p. stands x (Truth true) o few s p)
      counts_at _ (typing.IsTypedExpr.falsehood x h e) l = in_form x _ _ (own_of x) (meant_false Q W Around' x h) (low_false P x h) (alone x (gives_false counter x h)) l (λ o le few s p. stands x (Truth false) o few s p)
      counts_at _ (typing.IsTypedExpr.null x h e) l = in_form x _ _ (own_of x) (meant_null Q W Around' x h) (low_null P x h) (alone x (gives_null counter x h)) l (λ o le few s p. stands x Null o few s p)
      counts_at _ (typing.IsTypedExpr.this x h e) l = in_form x _ _ (own_of x) (meant_this Q W Around' x h) (low_this P x h) (alone x (gives_this counter x h)) l (λ o le few s p. held Q W ask never P code source_calls calls n k counter met same marked_calls alike x this_value (Slot 0) x.token (λ s. (_, refl)) o few s p)
      counts_at _ (typing.IsTypedExpr.variable x name h v) l = in_form x _ _ (own_of x) (meant_name Q W Around' x name h) (low_name P x name h) (alone x (gives_name counter x name h)) l (λ o le few s p. variable_counts Q W ask never P code source_calls calls n k counter met same marked_calls alike slots x (named_at P.facts x.id) (type_at P.facts x.id) v o few s p)
      counts_at _ (typing.IsTypedExpr.group x inner h e t) l = in_form x _ _ (own_of x + Gn inner) (meant_group Q W Around' x inner inner h refl) (low_group P x inner inner h refl) (with_own x (Gn inner) (gives_group counter x inner h)) l
          (λ o le few s p. counts_group Q W ask never P code source_calls calls n k counter (Gn inner) x.id inner.id (MM inner).run (SM inner).run (SM x).run o ((low P inner).part.lower o) (counts_at inner t (lowers inner t) o le (omega (arith, few))) s p few)
      counts_at _ (typing.IsTypedExpr.field x of name h m t) l = in_form x _ _ (own_of x + Gn of) (meant_field Q W Around' x of of name h refl) (low_field P x of of name h refl) (with_own x (Gn of) (gives_field counter x of name h)) l
          (λ o le few s p. member_counts Q W ask never P code source_calls calls n k counter met same marked_calls alike x of (counts_at of t (lowers of t)) (named_at P.facts x.id) (type_at P.facts of.id) (type_at P.facts x.id) m o le few s p)
      counts_at _ (typing.IsTypedExpr.indexed x of index t h e g p q) l = in_form x _ _ (own_of x + (Gn of + Gn index)) (meant_index Q W Around' x of of index index h refl refl) (low_index P x of of index index h refl refl) (with_own x (Gn of + Gn index) (gives_index counter x of index h)) l
          (λ o le few s p'. index_counts Q W ask never P code source_calls calls n k counter met same marked_calls alike x of index (counts_at of p (lowers of p)) (counts_at index q (lowers index q)) o le few s p')
      counts_at _ (typing.IsTypedExpr.call x of name args method fact h e g k' r a) l = call_by x of name args (named.Method method) h e l (own_method x method of args (receives (static.Object fact.class) of r) (all_count fact.params args a) (all_lower fact.params args a))
      counts_at _ (typing.IsTypedExpr.library x of name args params h b p a) l = call_by x (Some of) name args (named_at P.facts x.id) h refl l (library x (named_at P.facts x.id) (type_at P.facts of.id) (type_at P.facts x.id) params b of args (lowers of p, counts_at of p (lowers of p)) (all_count params args a) (all_lower params args a))
      counts_at _ (typing.IsTypedExpr.query x of name written args number site operation h e g k' s a) l = call_by x of name (written ∷ args) (named.Query number site) h e l (queried x number site of written args (all_count operation.params args a) (all_lower operation.params args a))
      counts_at _ (typing.IsTypedExpr.update x of name written args number operation h e g w k' s a) l = call_by x of name (written ∷ args) (named.Update number) h e l (updated x number of written args (all_count operation.params args a) (all_lower operation.params args a))
      counts_at _ (typing.IsTypedExpr.new_object x name class site h e t) l = in_form x _ _ (own_of x) (meant_new_object Q W Around' x name h) (low_new_object P x name h) (alone x (gives_new_object counter x name h)) l
          (subst (λ (m : Named). IsCounted x (made_object P.facts m) (low_value x.id (valued (object_had P m x.id) x.id x.token)) (own_of x)) (sym e) (object_counts class site x))
      counts_at _ (typing.IsTypedExpr.new_array x y b site t h e g p) l = in_form x _ _ (own_of x + Gn y) (meant_new_array Q W Around' x y y b h refl) (low_new_array P x y y b h refl) (with_own x (Gn y) (gives_new_array counter x b y h)) l
          (subst (λ (m : Named). IsCounted x ((MM y).run >>= made_array m (type_at P.facts x.id)) (low_value x.id (λ o. let a = operand_at P (part_of P y) o in valued (array_had P m (type_at P.facts x.id) x.id a.operand y.id) x.id x.token a.out)) (own_of x + Gn y)) (sym e)
          (subst (λ (u : Static). IsCounted x ((MM y).run >>= made_array (named.NewArray site) u) (low_value x.id (λ o. let a = operand_at P (part_of P y) o in valued (array_had P (named.NewArray site) u x.id a.operand y.id) x.id x.token a.out)) (own_of x + Gn y)) (sym g)
          (λ o le few s p'. array_counts Q W ask never P code source_calls calls n k counter met same marked_calls alike site t x y (counts_at y p (lowers y p)) o le few s p')))
      counts_at _ (typing.IsTypedExpr.prefix x y s h g p) l = in_form x _ _ (own_of x + Gn y) (meant_prefix Q W Around' x y y s h refl) (low_prefix P x y y s h refl) (with_own x (Gn y) (gives_prefix counter x s y h)) l
          (λ o le few s' p'. prefix_counts Q W ask never P code source_calls calls n k counter met same marked_calls alike s x y (counts_at y p (lowers y p)) o le few s' p')
      counts_at _ (typing.IsTypedExpr.binary x l r s at h g p q) l' = in_form x _ _ (own_of x + (Gn l + Gn r)) (meant_binary Q W Around' x l r l r s at h refl refl) (low_binary P x l r l r s at h refl refl) (with_own x (Gn l + Gn r) (gives_binary counter x s at l r h)) l'
          (pair_counts s x l r (counts_at l p (lowers l p)) (counts_at r q (lowers r q)))

      receives : (t : Static) (of : Option Expr) → IsReceiver P.facts slots t of → Received of
      receives _ _ (typing.IsReceiver.own t e) = within slots n 0 t size e
      receives _ _ (typing.IsReceiver.of t x e p) = (lowers x p, counts_at x p (lowers x p))

      all_count : (ts : List Static) (xs : List Expr) → AreArguments P.facts slots ts xs → AllCount xs
      all_count _ _ typing.AreArguments.none = tt
      all_count _ _ (typing.AreArguments.more t ts x xs f p a) = (counts_at x p (lowers x p), all_count ts xs a)

    pub counts_expr : (x : Expr) → IsTypedExpr P.facts slots x → C x
    counts_expr x t = counts_at x t (lowers x t)
