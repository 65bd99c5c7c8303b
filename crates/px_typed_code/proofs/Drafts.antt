-- What each step of lowering keeps: slots and nodes only grow, and what is emitted is typed.
use Rattle.std.proofs.Common.{◌≡◌, ℕ, zero, suc, ◌+◌, true, false, List, [], ◌∷◌, ◌++◌, length, Option, Some, None, slice_get, refl, sym, ap, ◌∙◌, subst, arith, length-append}
use Rattle.px_value.specs.declared.value.Value.TheVariants as value
use Rattle.px_facts.specs.declared.types.Ty.{Ty as Static}
use Rattle.px_facts.specs.declared.types.Ty.TheVariants as static
use Rattle.px_facts.specs.Types.{is_void, is_null}
use Rattle.px_facts.specs.declared.checked.Checked.{Checked}
use Rattle.px_mean.specs.Typed.{MayBeNull}
use Rattle.px_mean.specs.Typing as typing
use Rattle.px_mean.specs.Typing.{Fits}
use Rattle.px_normal.specs.declared.ty.Ty.{Ty}
use Rattle.px_normal.specs.declared.ty.Ty.TheVariants as ty
use Rattle.px_normal.specs.declared.word.Operand.{Operand}
use Rattle.px_normal.specs.declared.word.Operand.TheVariants.{Slot, Literal}
use Rattle.px_normal.specs.declared.word.Word.{Word}
use Rattle.px_normal.specs.declared.word.Word.TheVariants as w
use Rattle.px_normal.specs.declared.method.Tree.{Tree}
use Rattle.px_normal.specs.declared.method.Tree.TheVariants.{Do}
use Rattle.px_normal.specs.declared.node.Node.{Node}
use Rattle.px_normal.specs.declared.node.Counter.{Counter}
use Rattle.px_normal.specs.declared.code.Code.{Code}
use Rattle.px_normal.specs.First.{numbered}
use Rattle.px_normal.specs.Typed as typed
use Rattle.px_normal.specs.Typed.{IsNode, is_reference, IsLiteral, HasSlot, HasTy, HasTyOr, AreFirst, IsTypedWord, IsTypedTree, AreTypedTrees}
use Rattle.px_lowering.specs.declared.draft.Draft.{Draft}
use Rattle.px_lowering.specs.declared.valued.Step.{Step}
use Rattle.px_lowering.specs.declared.valued.Step.TheVariants as step
use Rattle.px_lowering.specs.declared.valued.Had.{Had}
use Rattle.px_lowering.specs.declared.valued.Had.TheVariants.{Held, Chosen, Made}
use Rattle.px_lowering.specs.Types.{code_type}
use Rattle.px_lowering.specs.Emit.{Lasted, Operated, Temped, node_at, emitted, writes, with_temp, operated, temped, slotted, widened_operand, widened, fitted}
use Rattle.px_typed_code.specs.Nodes.{nodes_in, all_nodes}
use Rattle.px_typed_code.proofs.Counted.{IsCounted, counted_then, counted_none, counted_first, counted_by, nodes_do, all_next}
use Rattle.px_typed_code.proofs.Operators.{never, never_so}

-- ---- lists that grow

-- what stands in the first list stands at its place in the second
abbrev pub Grows : {A : Type 0} → List A → List A → Type 0
Grows {A} xs ys = (place : ℕ) (x : A) → slice_get xs place ≡ Some x → slice_get ys place ≡ Some x

pub grows_none : {A : Type 0} (xs : List A) → Grows xs xs
grows_none xs place x h = h

pub grows_append : {A : Type 0} (xs ys : List A) → Grows xs (xs ++ ys)
grows_append [] ys place x h = absurd (cc h)
grows_append (y ∷ xs) ys zero x h = h
grows_append (y ∷ xs) ys (suc place) x h = grows_append xs ys place x h

pub last_get : {A : Type 0} (xs : List A) (y : A) (ys : List A) → slice_get (xs ++ y ∷ ys) (length xs) ≡ Some y
last_get [] y ys = refl
last_get (x ∷ xs) y ys = last_get xs y ys

-- ---- operands

-- null has any type that may be null
pub data OperandFits (slots : List Ty) : Static → Operand → Type 0 where
  null : (t : Static) → MayBeNull t → OperandFits slots t (Literal value.Null)
  plain : (t : Static) (a : Operand) → is_null t ≡ false → HasTy slots a (code_type t) → OperandFits slots t a

null_reference : (t : Static) → MayBeNull t → is_reference (code_type t) ≡ true
null_reference static.Unknown h = refl
null_reference static.Void h = refl
null_reference static.Null h = refl
null_reference static.Int h = absurd h
null_reference static.Long h = absurd h
null_reference static.Boolean h = absurd h
null_reference static.Text h = refl
null_reference (static.Object class) h = refl
null_reference (static.Array of) h = refl
null_reference static.ResultSet h = refl

pub has_ty : (slots : List Ty) (t : Static) (a : Operand) → OperandFits slots t a → HasTy slots a (code_type t)
has_ty slots _ _ (OperandFits.null t h) = null_reference t h
has_ty slots _ _ (OperandFits.plain t a n h) = h

pub ty_more : (slots more : List Ty) (a : Operand) (t : Ty) → Grows slots more → HasTy slots a t → HasTy more a t
ty_more slots more (Slot slot) t g h = g slot t h
ty_more slots more (Literal v) t g h = h

pub operand_more : (slots more : List Ty) (t : Static) (a : Operand) → Grows slots more → OperandFits slots t a → OperandFits more t a
operand_more slots more _ _ g (OperandFits.null t h) = OperandFits.null t h
operand_more slots more _ _ g (OperandFits.plain t a n h) = OperandFits.plain t a n (ty_more slots more a (code_type t) g h)

-- ---- in the code of a method with this result

module _ (P : Checked) (C : Code) (gives : Option Ty) where
  -- a call of a void method, whose result isn't used
  abbrev pub IsUnused : List Ty → Step → Type 0
  IsUnused slots (step.Call of method args) = IsTypedWord C gives slots (w.Call None of method args)
  IsUnused slots s = ⊥

  -- its statement is typed wherever it stands behind these slots
  pub record StepFits (slots : List Ty) (t : Static) (s : Step) : Type 0 where
    pub null : is_null t ≡ false
    pub writes : (more : List Ty) → Grows slots more → is_void t ≡ false → (to : ℕ) → HasSlot more to (code_type t) → IsTypedWord C gives more (writes s to)
    pub unused : (more : List Ty) → Grows slots more → is_void t ≡ true → IsUnused more s

  abbrev pub HadFits : List Ty → Static → Had → Type 0
  HadFits slots t (Held a) = OperandFits slots t a
  HadFits slots t (Chosen slot) = (t ≡ static.Boolean) × HasSlot slots slot ty.Bool
  HadFits slots t (Made s u counter) = (u ≡ code_type t) × StepFits slots t s

  step_more : (slots more : List Ty) (t : Static) (s : Step) → Grows slots more → StepFits slots t s → StepFits more t s
  step_more slots more t s g h = record {
    null = h.null;
    writes = λ last k v to e. h.writes last (λ place x e. k place x (g place x e)) v to e;
    unused = λ last k v. h.unused last (λ place x e. k place x (g place x e)) v;
  }

  pub had_more : (slots more : List Ty) (t : Static) (had : Had) → Grows slots more → HadFits slots t had → HadFits more t had
  had_more slots more t (Held a) g h = operand_more slots more t a g h
  had_more slots more t (Chosen slot) g h = (h.0, g slot ty.Bool h.1)
  had_more slots more t (Made s u counter) g h = (h.0, step_more slots more t s g h.1)

  -- ---- drafts

  abbrev pub Trees : List Ty → Draft → Type 0
  Trees slots o = AreTypedTrees C gives slots o.trees

  -- From one draft to the next slots and nodes grow, statements stay typed, over the slots and the nodes that there are in the end, and their nodes stay in order.
  pub record Goes (o o' : Draft) : Type 0 where
    pub slots : Grows o.slots o'.slots
    pub nodes : Grows o.nodes o'.nodes
    pub trees : (slots : List Ty) → Grows o'.slots slots → Grows o'.nodes C.nodes → Trees slots o → Trees slots o'
    pub order : (first : ℕ) → IsCounted first (all_nodes o.trees) (length o.nodes) → IsCounted first (all_nodes o'.trees) (length o'.nodes)

  pub goes_none : (o : Draft) → Goes o o
  goes_none o = record { slots = λ place x h. h; nodes = λ place x h. h; trees = λ slots g n h. h; order = λ first h. h }

  pub goes_then : (a b c : Draft) → Goes a b → Goes b c → Goes a c
  goes_then a b c x y = record {
    slots = λ place t h. y.slots place t (x.slots place t h);
    nodes = λ place t h. y.nodes place t (x.nodes place t h);
    trees = λ slots g n h. y.trees slots g n (x.trees slots (λ place t e. g place t (y.slots place t e)) (λ place t e. n place t (y.nodes place t e)) h);
    order = λ first h. y.order first (x.order first h);
  }

  pub trees_next : (slots : List Ty) (ts : List Tree) (t : Tree) → AreTypedTrees C gives slots ts → IsTypedTree C gives slots t → AreTypedTrees C gives slots (ts ++ t ∷ [])
  trees_next slots _ t typed.AreTypedTrees.none h = typed.AreTypedTrees.more h typed.AreTypedTrees.none
  trees_next slots _ t (typed.AreTypedTrees.more x xs) h = typed.AreTypedTrees.more x (trees_next slots _ t xs h)

  -- the node behind these is there
  pub node_is : (nodes : List Node) (n : Node) → Grows (nodes ++ n ∷ []) C.nodes → IsNode C (length nodes + 1)
  node_is nodes n g =
      let e : suc (length nodes) ≡ length nodes + 1 = omega arith in
      (n, subst (λ k. numbered C.nodes k ≡ Some n) e (g (length nodes) n (last_get nodes n [])))

  -- one more tree, whose nodes are the next one and those behind it
  pub adds_node : (ts : List Tree) (t : Tree) (nodes : List Node) (n : Node) (ks : List ℕ) (first last : ℕ) → IsCounted first (all_nodes ts) (length nodes) → nodes_in t ≡ (length nodes + 1) ∷ ks → IsCounted (length (nodes ++ n ∷ []) + 1) ks last → IsCounted first (all_nodes (ts ++ t ∷ [])) last
  adds_node ts t nodes n ks first last h e k =
      counted_by first last _ _ (all_next ts t ∙ ap (λ (xs : List ℕ). all_nodes ts ++ xs) e)
      (counted_then first (length nodes) last (all_nodes ts) _ h (counted_first (length nodes) (length (nodes ++ n ∷ [])) last ks (length-append nodes (n ∷ [])) k))

  pub emits : (word : Word) (token : ℕ) (counter : Counter) (o : Draft) → ((slots : List Ty) → Grows o.slots slots → IsTypedWord C gives slots word) → Goes o (emitted P word token counter o)
  emits word token counter o h = record {
    slots = λ place x e. e;
    nodes = grows_append o.nodes (node_at P o.method token counter ∷ []);
    trees = λ slots g n k. trees_next slots o.trees _ k (typed.IsTypedTree.does (length o.nodes + 1) word refl (node_is o.nodes (node_at P o.method token counter) n) (h slots g));
    order = λ first h. adds_node o.trees (Do (length o.nodes + 1) word) o.nodes (node_at P o.method token counter) [] first _ h (nodes_do (length o.nodes + 1) word) (counted_none _);
  }

  pub temps_go : (t : Ty) (o : Draft) → Goes o (with_temp t o)
  temps_go t o = record { slots = grows_append o.slots (t ∷ []); nodes = λ place x e. e; trees = λ slots g n k. k; order = λ first k. k }

  -- ---- values

  pub record Fine (o : Draft) (t : Static) (x : Lasted) : Type 0 where
    pub goes : Goes o x.out
    pub had : HadFits x.out.slots t x.value.had

  pub record FineOperand (o : Draft) (t : Static) (x : Operated) : Type 0 where
    pub goes : Goes o x.out
    pub operand : OperandFits x.out.slots t x.operand

  -- what is made goes into a new temporary
  made_goes : (token : ℕ) (s : Step) (u : Ty) (counter : Counter) (t : Static) (o : Draft) → (u ≡ code_type t) → StepFits o.slots t s → is_void t ≡ false → Goes o (emitted P (writes s (length o.slots)) token counter (with_temp u o))
  made_goes token s u counter t o e f v =
      goes_then o (with_temp u o) _ (temps_go u o)
      (emits (writes s (length o.slots)) token counter (with_temp u o) (λ slots g. f.writes slots (λ place x h. g place x (grows_append o.slots (u ∷ []) place x h)) v (length o.slots) (g (length o.slots) (code_type t) (last_get o.slots u [] ∙ ap Some e))))

  pub operated_fine : (token : ℕ) (had : Had) (t : Static) (o : Draft) → HadFits o.slots t had → is_void t ≡ false → FineOperand o t (operated P token had o)
  operated_fine token (Held a) t o h v = record { goes = goes_none o; operand = h }
  operated_fine token (Chosen slot) t o h v = record { goes = goes_none o; operand = subst (λ u. OperandFits o.slots u (Slot slot)) (sym h.0) (OperandFits.plain static.Boolean (Slot slot) refl h.1) }
  operated_fine token (Made s u counter) t o h v = record {
    goes = made_goes token s u counter t o h.0 h.1 v;
    operand = OperandFits.plain t (Slot (length o.slots)) h.1.null (last_get o.slots u [] ∙ ap Some h.0);
  }

  -- an operand behind more
  pub operand_then : (a b : Draft) (t : Static) (x : Operated) → Goes a b → FineOperand b t x → FineOperand a t x
  operand_then a b t x g h = record { goes = goes_then a b x.out g h.goes; operand = h.operand }

  -- ---- in temporaries and slots

  pub record FineTemp (o : Draft) (x : Temped) : Type 0 where
    pub goes : Goes o x.out
    pub temp : HasSlot x.out.slots x.temp ty.Bool

  pub temped_fine : (for id token : ℕ) (had : Had) (o : Draft) → HadFits o.slots static.Boolean had → FineTemp o (temped P for id token had o)
  temped_fine for id token (Held a) o h = record {
    goes = goes_then o (with_temp ty.Bool o) _ (temps_go ty.Bool o)
        (emits (w.Set (length o.slots) a) for _ (with_temp ty.Bool o) (λ slots g. (ty.Bool, ty_more o.slots slots a ty.Bool (λ place x e. g place x (grows_append o.slots (ty.Bool ∷ []) place x e)) (has_ty o.slots static.Boolean a h), g (length o.slots) ty.Bool (last_get o.slots ty.Bool []))));
    temp = last_get o.slots ty.Bool [];
  }
  temped_fine for id token (Chosen slot) o h = record { goes = goes_none o; temp = h.1 }
  temped_fine for id token (Made s u counter) o h = record { goes = made_goes token s u counter static.Boolean o h.0 h.1 refl; temp = last_get o.slots u [] ∙ ap Some h.0 }

  pub slotted_goes : (slot for id token : ℕ) (had : Had) (t : Static) (o : Draft) → HadFits o.slots t had → is_void t ≡ false → HasSlot o.slots slot (code_type t) → Goes o (slotted P slot for id token had o)
  slotted_goes slot for id token (Held a) t o h v e = emits (w.Set slot a) for _ o (λ slots g. (code_type t, ty_more o.slots slots a (code_type t) g (has_ty o.slots t a h), g slot (code_type t) e))
  slotted_goes slot for id token (Chosen from) t o h v e = emits (w.Set slot (Slot from)) for _ o (λ slots g. (code_type t, g from (code_type t) (h.1 ∙ ap (λ u. Some (code_type u)) (sym h.0)), g slot (code_type t) e))
  slotted_goes slot for id token (Made s u counter) t o h v e = emits (writes s slot) token counter o (λ slots g. h.1.writes slots g v slot (g slot (code_type t) e))

  -- ---- an int where a long is wanted

  widened_fine : (id token : ℕ) (had : Had) (o : Draft) → HadFits o.slots static.Int had → Fine o static.Long (widened_operand id token (operated P token had o))
  widened_fine id token had o h =
      let a = operated_fine token had static.Int o h refl in
      let x = operated P token had o in
      record {
        goes = a.goes;
        had = (
          refl,
          record {
            null = refl;
            writes = λ more g v to e. (ty.Int, ty.Int, ty.Long, ty_more x.out.slots more x.operand ty.Int g (has_ty x.out.slots static.Int x.operand a.operand), refl, refl, e);
            unused = λ more g v. never_so v;
          },
        );
      }

  widens : (id token : ℕ) (had : Had) (o : Draft) → HadFits o.slots static.Int had → Fine o static.Long (widened P id token had o)
  widens id token (Held (Literal (value.Int n))) o h = record { goes = goes_none o; had = OperandFits.plain static.Long (Literal (value.Long n)) refl refl }
  widens id token (Held (Slot k)) o h = widened_fine id token (Held (Slot k)) o h
  widens id token (Held (Literal (value.Long n))) o h = widened_fine id token (Held (Literal (value.Long n))) o h
  widens id token (Held (Literal (value.Bool b))) o h = widened_fine id token (Held (Literal (value.Bool b))) o h
  widens id token (Held (Literal (value.Text bytes))) o h = widened_fine id token (Held (Literal (value.Text bytes))) o h
  widens id token (Held (Literal value.Null)) o h = widened_fine id token (Held (Literal value.Null)) o h
  widens id token (Held (Literal (value.Ref r))) o h = widened_fine id token (Held (Literal (value.Ref r))) o h
  widens id token (Chosen slot) o h = widened_fine id token (Chosen slot) o h
  widens id token (Made s u counter) o h = widened_fine id token (Made s u counter) o h

  abbrev as_it_is : (id token : ℕ) → Had → Draft → Lasted
  as_it_is id token had o = record { out = o; value = record { id = id; token = token; had = had } }

  fitted_same : (t : Static) (id token : ℕ) (had : Had) (o : Draft) → fitted P t t id token had o ≡ as_it_is id token had o
  fitted_same static.Unknown id token had o = refl
  fitted_same static.Void id token had o = refl
  fitted_same static.Null id token had o = refl
  fitted_same static.Int id token had o = refl
  fitted_same static.Long id token had o = refl
  fitted_same static.Boolean id token had o = refl
  fitted_same static.Text id token had o = refl
  fitted_same (static.Object class) id token had o = refl
  fitted_same (static.Array of) id token had o = refl
  fitted_same static.ResultSet id token had o = refl

  fitted_unknown : (t : Static) (id token : ℕ) (had : Had) (o : Draft) → fitted P t static.Unknown id token had o ≡ as_it_is id token had o
  fitted_unknown static.Unknown id token had o = refl
  fitted_unknown static.Void id token had o = refl
  fitted_unknown static.Null id token had o = refl
  fitted_unknown static.Int id token had o = refl
  fitted_unknown static.Long id token had o = refl
  fitted_unknown static.Boolean id token had o = refl
  fitted_unknown static.Text id token had o = refl
  fitted_unknown (static.Object class) id token had o = refl
  fitted_unknown (static.Array of) id token had o = refl
  fitted_unknown static.ResultSet id token had o = refl

  stays : (t : Static) (id token : ℕ) (had : Had) (o : Draft) → HadFits o.slots t had → Fine o t (as_it_is id token had o)
  stays t id token had o h = record { goes = goes_none o; had = h }

  null_had : (to : Static) (slots : List Ty) (had : Had) → MayBeNull to → HadFits slots static.Null had → HadFits slots to had
  null_had to slots (Held _) m (OperandFits.null _ h) = OperandFits.null to m
  null_had to slots (Held _) m (OperandFits.plain _ a n h) = never n
  null_had to slots (Chosen slot) m h = absurd (cc h.0)
  null_had to slots (Made s u counter) m h = never h.1.null

  pub fitted_fine : (from to : Static) → Fits from to → (id token : ℕ) (had : Had) (o : Draft) → HadFits o.slots from had → Fine o to (fitted P from to id token had o)
  fitted_fine _ _ (typing.Fits.same t) id token had o h = subst (λ x. Fine o t x) (sym (fitted_same t id token had o)) (stays t id token had o h)
  fitted_fine _ _ typing.Fits.wide id token had o h = widens id token had o h
  fitted_fine _ _ (typing.Fits.null to m) id token had o h = stays to id token had o (null_had to o.slots had m h)

  -- where the type that is wanted isn't known, which is then no long
  pub unknown_fine : (from to : Static) → Fits from to → (to ≡ static.Long → ⊥) → (id token : ℕ) (had : Had) (o : Draft) → HadFits o.slots from had → Fine o to (fitted P from static.Unknown id token had o)
  unknown_fine _ _ (typing.Fits.same t) n id token had o h = subst (λ x. Fine o t x) (sym (fitted_unknown t id token had o)) (stays t id token had o h)
  unknown_fine _ _ typing.Fits.wide n id token had o h = absurd (n refl)
  unknown_fine _ _ (typing.Fits.null to m) n id token had o h = stays to id token had o (null_had to o.slots had m h)
