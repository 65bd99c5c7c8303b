-- What assigns, prints, or does something else for its effect alone.
use Rattle.std.proofs.Common.{◌≡◌, ℕ, zero, suc, ◌+◌, ◌<◌, ◌≤◌, ◌⊎◌, false, List, [], ◌∷◌, ◌++◌, length, Option, Some, None, unwrap_or, slice_get, slice_set, refl, sym, ap, ◌∙◌, subst, arith, inl, inr, append-nil, le_of_eq, le_trans, lt_of_lt_of_le}
use Rattle.std.proofs.lemmas.Option.{slice_get_within}
use Rattle.px_value.specs.declared.value.Value.{Value}
use Rattle.px_value.specs.declared.value.Value.TheVariants.{Null}
use Rattle.px_value.specs.Outcome.{Outcome, Gives, Throws, Asks, Run, then_run, ◌>>=◌, pure, beside, on_shared, Flow, Goes}
use Rattle.px_facts.specs.declared.checked.Checked.{Checked}
use Rattle.px_effects.specs.Run.{Ask}
use Rattle.px_effects.specs.Act.{Act, does}
use Rattle.px_effects.specs.Cells as cells
use Rattle.px_effects.specs.Cells.{first_cells}
use Rattle.px_effects.specs.Operations.{Acts}
use Rattle.px_mean.specs.Run.{Frame as SourceFrame, Here as SourceHere, with_slots}
use Rattle.px_mean.specs.Effects.{no_object, only_acts, put_field, store, print_line}
use Rattle.px_mean.specs.Expressions.{Calls as SourceCalls, this_value}
use Rattle.px_mean.specs.Statements.{goes}
use Rattle.px_normal.specs.declared.ty.Ty.{Ty}
use Rattle.px_normal.specs.declared.word.Operand.TheVariants.{Slot}
use Rattle.px_normal.specs.declared.word.Word.{Word}
use Rattle.px_normal.specs.declared.word.Word.TheVariants as w
use Rattle.px_normal.specs.declared.node.Counter.{Counter}
use Rattle.px_normal.specs.declared.method.Tree.{Tree}
use Rattle.px_normal.specs.declared.method.Tree.TheVariants.{Do}
use Rattle.px_normal.specs.declared.code.Code.{Code}
use Rattle.px_normal.specs.First.{fresh_of}
use Rattle.px_normal.specs.Run.{Frame}
use Rattle.px_normal.specs.Words.{Does, Works, does_of, operand, to_of, with_slot, is_return, result_of}
use Rattle.px_normal.specs.CodeRun.{Calls, flow_if, act_run, does_run, body_run}
use Rattle.px_lowering.specs.declared.draft.Draft.{Draft}
use Rattle.px_lowering.specs.Emit.{Operated, emitted}
use Rattle.px_preservation.proofs.Meets.{Meets, meets_at, meets_source}
use Rattle.px_preservation.proofs.Agree.{Agree, Shares, IsDone}
use Rattle.px_preservation.proofs.Slots.{set_other, set_here}
use Rattle.px_preservation.proofs.Acts.{does_same, Plain, plain_put, plain_store}
use Rattle.px_preservation.proofs.Words.{act_meets}
use Rattle.px_preservation.proofs.Operands.{IsOperand}
use Rattle.px_preservation.proofs.Runs.{run_do, run_one}
use Rattle.px_preservation.proofs.Afters.{agree_after, behind, below_more, grown, operand_after}
use Rattle.px_preservation.proofs.Sequences.{Done, then_operand}

-- ---- a local is written

same_or : (j k : ℕ) → (j ≡ k) ⊎ (j ≡ k → ⊥)
same_or zero zero = inl refl
same_or zero (suc k) = inr (λ e. omega (arith, e))
same_or (suc j) zero = inr (λ e. omega (arith, e))
same_or (suc j) (suc k) = next (same_or j k)
  where
    next : (j ≡ k) ⊎ (j ≡ k → ⊥) → (suc j ≡ suc k) ⊎ (suc j ≡ suc k → ⊥)
    next (inl e) = inl (ap suc e)
    next (inr h) = inr (λ e. h (omega (arith, e)))

some_at : (xs : List Value) (k : ℕ) → k < length xs → (v : Value) × (slice_get xs k ≡ Some v)
some_at [] k h = absurd (omega (arith, h))
some_at (x ∷ xs) zero h = (x, refl)
some_at (x ∷ xs) (suc k) h = some_at xs k (omega (arith, h))

-- a local that the code has, the source has
pub is_there : (W : Type 0) (n : ℕ) (s : SourceFrame W) (c : Frame W) (k : ℕ) → Agree W n s c → k < n → k < length c.locals → k < length s.locals
is_there W n s c k g h l = let x = some_at c.locals k l in slice_get_within s.locals k x.0 (g.locals k h ∙ x.1)

pub agree_set : (W : Type 0) (n : ℕ) (s : SourceFrame W) (c c' : Frame W) (k : ℕ) (v : Value) → k < length s.locals → s.shared ≡ c'.shared.shared → slice_get c'.locals k ≡ Some v → ((j : ℕ) → j < n → (j ≡ k → ⊥) → slice_get s.locals j ≡ slice_get c'.locals j) → Agree W n (with_slots s (slice_set s.locals k v)) c'
agree_set W n s c c' k v l sh here other = record {
  locals = λ j h. at j h (same_or j k);
  shared = sh;
}
  where
    at : (j : ℕ) → j < n → (j ≡ k) ⊎ (j ≡ k → ⊥) → slice_get (slice_set s.locals k v) j ≡ slice_get c'.locals j
    at j h (inl e) = ap (λ i. slice_get (slice_set s.locals k v) i) e ∙ set_here s.locals k v l ∙ sym here ∙ ap (λ i. slice_get c'.locals i) (sym e)
    at j h (inr d) = set_other s.locals k j v (λ e. d (sym e)) ∙ other j h d

abbrev nothing : {Q S A : Type 0} → A → Run Q S (Unit {0})
nothing v = pure tt

beside_unit : {Q L G A : Type 0} (l : L) (o : Outcome Q G A) → beside l (then_run o nothing) ≡ then_run (beside l o) nothing
beside_unit l (Gives a g) = refl
beside_unit l (Throws t g) = refl
beside_unit l (Asks q g) = refl

module _ (Q W : Type 0) (ask : Ask Q W) (P : Checked) (code : Code) (source_calls : SourceCalls Q W) (calls : Calls Q W) (n : ℕ) where
  abbrev pub Put : Frame W → Unit {0} → SourceFrame W → Flow Value → Frame W → Type 0
  Put c u s' f c' = (f ≡ Goes) × Agree W n s' c' × (length c'.locals ≡ length c.locals)

  -- behind a draft, what is done for its effect alone
  pub record IsPut (r : SourceHere Q W (Unit {0})) (o o' : Draft) : Type 0 where
    pub trees : List Tree
    pub temps : List Ty
    pub trees_are : o'.trees ≡ o.trees ++ trees
    pub slots_are : o'.slots ≡ o.slots ++ temps
    pub method_is : o'.method ≡ o.method
    pub meets : (s : SourceFrame W) (c : Frame W) → Agree W n s c → length o'.slots ≤ length c.locals → Meets (r s) (body_run code ask calls trees c) (Put c) (Shares W)

  pub goes_done : (r : SourceHere Q W (Unit {0})) (o o' : Draft) → IsPut r o o' → IsDone Q W ask P code source_calls calls n (goes r) o o'
  goes_done r o o' i = record {
    trees = i.trees;
    temps = i.temps;
    trees_are = i.trees_are;
    slots_are = i.slots_are;
    method_is = i.method_is;
    meets = λ s c g size. meets_source (r s) (body_run code ask calls i.trees c) (Put c) (Shares W) (λ u. pure Goes) (Done Q W ask P code source_calls calls n c) (Shares W) (i.meets s c g size)
        (λ u s1 f c1 q. (Goes, s1, refl, (q.0, q.1, q.2))) (λ s c e. e);
  }

  -- ---- acts

  only_meets : (node : ℕ) (word : Word) (a : Act) (s : SourceFrame W) (c0 c : Frame W) → Agree W n s c → length c.locals ≡ length c0.locals → Plain (fresh_of code) a → is_return word ≡ false → to_of word ≡ None → does_of code word c.locals ≡ Works (Acts a)
      → Meets (on_shared (only_acts a) s) (body_run code ask calls (Do node word ∷ []) c) (Put c0) (Shares W)
  only_meets node word a s c0 c g size plain no_return no_slot d =
      let ran : body_run code ask calls (Do node word ∷ []) c ≡ act_run code node word a c = run_one Q W code ask calls (Do node word) c ∙ ap (λ r. r c) (run_do Q W code ask calls node word) ∙ ap (λ (x : Does). does_run code ask calls node word x c) d in
      let is : on_shared (only_acts a) s ≡ then_run (beside s.locals (does (first_cells (fresh_of code)) a s.shared)) nothing = beside_unit s.locals (does (first_cells no_object) a s.shared) ∙ ap (λ o. then_run (beside s.locals o) nothing) (does_same (first_cells no_object) (first_cells (fresh_of code)) a s.shared plain) in
      meets_at _ _ (act_run code node word a c) (Put c0) (Shares W) ran
      (subst (λ o. Meets o (act_run code node word a c) (Put c0) (Shares W)) (sym is)
      (meets_source (beside s.locals (does (first_cells (fresh_of code)) a s.shared)) (act_run code node word a c) _ (Shares W) nothing (Put c0) (Shares W) (act_meets Q W ask P code source_calls calls n node word a s c g.shared)
      (λ v s1 f c1 q. (tt, s1, refl, put v s1 f c1 q.0 q.1 q.2 (q.3 ∙ ap (λ t. with_slot t v c.locals) no_slot))) (λ s c e. e)))
    where
      put : (v : Value) (s1 : SourceFrame W) (f : Flow Value) (c1 : Frame W) → f ≡ flow_if (is_return word) (result_of word v) → s1.locals ≡ s.locals → Shares W s1 c1 → c1.locals ≡ c.locals → Put c0 tt s1 f c1
      put v s1 f c1 a b e h = (a ∙ ap (λ x. flow_if x (result_of word v)) no_return, record { locals = λ j l. ap (λ ls. slice_get ls j) b ∙ g.locals j l ∙ ap (λ ls. slice_get ls j) (sym h); shared = e }, ap length h ∙ size)

  -- ---- behind operands

  at_end : (o o' : Draft) (before : List Tree) (word : Word) (token : ℕ) (counter : Counter) → o'.trees ≡ o.trees ++ before → (emitted P word token counter o').trees ≡ o.trees ++ (before ++ Do (length o'.nodes + 1) word ∷ [])
  at_end o o' before word token counter h = behind o.trees o'.trees (emitted P word token counter o').trees before (Do (length o'.nodes + 1) word ∷ []) h refl

  pub print_put : (r : SourceHere Q W Value) (o : Draft) (x : Operated) (token : ℕ) (counter : Counter) → n ≤ length o.slots → IsOperand Q W ask P code source_calls calls n r o x → IsPut (r >>= (λ v. on_shared (print_line v))) o (emitted P (w.Print x.operand) token counter x.out)
  print_put r o x token counter le i =
      let word = w.Print x.operand in
      record {
        trees = i.trees ++ Do (length x.out.nodes + 1) word ∷ [];
        temps = i.temps;
        trees_are = at_end o x.out i.trees word token counter i.trees_are;
        slots_are = i.slots_are;
        method_is = i.method_is;
        meets = λ s c g size. then_operand Q W ask P code source_calls calls n r o x i le (Do (length x.out.nodes + 1) word ∷ []) (λ v. on_shared (print_line v)) (Put c) s c g size
            (λ v s1 c1 g1 a1 e1. only_meets (length x.out.nodes + 1) word (cells.print_line v) s1 c c1 g1 a1.size tt refl refl (ap (λ z. Works (Acts (cells.print_line z))) e1));
      }

  -- a field of `this`
  pub own_field_put : (rr : SourceHere Q W Value) (o : Draft) (x : Operated) (class place token : ℕ) (counter : Counter) → 0 < n → n ≤ length o.slots → IsOperand Q W ask P code source_calls calls n rr o x → IsPut (this_value >>= (λ of. rr >>= (λ v. on_shared (put_field of place v)))) o (emitted P (w.Put (Slot 0) class place x.operand) token counter x.out)
  own_field_put rr o x class place token counter some le i =
      let word = w.Put (Slot 0) class place x.operand in
      record {
        trees = i.trees ++ Do (length x.out.nodes + 1) word ∷ [];
        temps = i.temps;
        trees_are = at_end o x.out i.trees word token counter i.trees_are;
        slots_are = i.slots_are;
        method_is = i.method_is;
        meets = λ s c g size. then_operand Q W ask P code source_calls calls n rr o x i le (Do (length x.out.nodes + 1) word ∷ []) (λ v. on_shared (put_field (unwrap_or (slice_get s.locals 0) Null) place v)) (Put c) s c g size
            (λ v s1 c1 g1 a1 e1.
            let of : operand c1.locals (Slot 0) ≡ unwrap_or (slice_get s.locals 0) Null = operand_after W (length o.slots) s s1 c c1 (Slot 0) (lt_of_lt_of_le some le) a1 ∙ ap (λ (z : Option Value). unwrap_or z Null) (sym (g.locals 0 some)) in
            only_meets (length x.out.nodes + 1) word (cells.put_field (unwrap_or (slice_get s.locals 0) Null) place v) s1 c c1 g1 a1.size (plain_put (fresh_of code) _ place v) refl refl (λ t. Works (Acts (cells.put_field (of t) place (e1 t)))));
      }

  -- a field of another object
  pub field_put : (r rr : SourceHere Q W Value) (o : Draft) (a x : Operated) (class place token : ℕ) (counter : Counter) → n ≤ length o.slots → IsOperand Q W ask P code source_calls calls n r o a → IsOperand Q W ask P code source_calls calls n rr a.out x → IsPut (r >>= (λ of. rr >>= (λ v. on_shared (put_field of place v)))) o (emitted P (w.Put a.operand class place x.operand) token counter x.out)
  field_put r rr o a x class place token counter le i j =
      let word = w.Put a.operand class place x.operand in
      let us = Do (length x.out.nodes + 1) word ∷ [] in
      let le1 : n ≤ length a.out.slots = le_trans le (grown o.slots a.out.slots i.temps i.slots_are) in
      record {
        trees = i.trees ++ (j.trees ++ us);
        temps = i.temps ++ j.temps;
        trees_are = behind o.trees a.out.trees (emitted P word token counter x.out).trees i.trees (j.trees ++ us) i.trees_are (at_end a.out x.out j.trees word token counter j.trees_are);
        slots_are = behind o.slots a.out.slots x.out.slots i.temps j.temps i.slots_are j.slots_are;
        method_is = j.method_is ∙ i.method_is;
        meets = λ s c g size. then_operand Q W ask P code source_calls calls n r o a i le (j.trees ++ us) (λ of. rr >>= (λ v. on_shared (put_field of place v))) (Put c) s c g (le_trans (grown a.out.slots x.out.slots j.temps j.slots_are) size)
            (λ of s1 c1 g1 a1 e1. then_operand Q W ask P code source_calls calls n rr a.out x j le1 us (λ v. on_shared (put_field of place v)) (Put c) s1 c1 g1 (le_trans size (le_of_eq (sym a1.size)))
            (λ v s2 c2 g2 a2 e2.
            let of_is : operand c2.locals a.operand ≡ of = operand_after W (length a.out.slots) s1 s2 c1 c2 a.operand i.below a2 ∙ e1 in
            only_meets (length x.out.nodes + 1) word (cells.put_field of place v) s2 c c2 g2 (a2.size ∙ a1.size) (plain_put (fresh_of code) of place v) refl refl (λ t. Works (Acts (cells.put_field (of_is t) place (e2 t))))));
      }

  -- an element of an array
  pub element_put : (r k rr : SourceHere Q W Value) (o : Draft) (a b x : Operated) (token : ℕ) (counter : Counter) → n ≤ length o.slots → IsOperand Q W ask P code source_calls calls n r o a → IsOperand Q W ask P code source_calls calls n k a.out b → IsOperand Q W ask P code source_calls calls n rr b.out x → IsPut (r >>= (λ of. k >>= (λ index. rr >>= (λ v. on_shared (store of index v))))) o (emitted P (w.Store a.operand b.operand x.operand) token counter x.out)
  element_put r k rr o a b x token counter le i j l =
      let word = w.Store a.operand b.operand x.operand in
      let us = Do (length x.out.nodes + 1) word ∷ [] in
      let le1 : n ≤ length a.out.slots = le_trans le (grown o.slots a.out.slots i.temps i.slots_are) in
      let le2 : n ≤ length b.out.slots = le_trans le1 (grown a.out.slots b.out.slots j.temps j.slots_are) in
      record {
        trees = i.trees ++ (j.trees ++ (l.trees ++ us));
        temps = i.temps ++ (j.temps ++ l.temps);
        trees_are = behind o.trees a.out.trees (emitted P word token counter x.out).trees i.trees (j.trees ++ (l.trees ++ us)) i.trees_are (behind a.out.trees b.out.trees (emitted P word token counter x.out).trees j.trees (l.trees ++ us) j.trees_are (at_end b.out x.out l.trees word token counter l.trees_are));
        slots_are = behind o.slots a.out.slots x.out.slots i.temps (j.temps ++ l.temps) i.slots_are (behind a.out.slots b.out.slots x.out.slots j.temps l.temps j.slots_are l.slots_are);
        method_is = l.method_is ∙ j.method_is ∙ i.method_is;
        meets = λ s c g size.
            let size2 : length b.out.slots ≤ length c.locals = le_trans (grown b.out.slots x.out.slots l.temps l.slots_are) size in
            let size1 : length a.out.slots ≤ length c.locals = le_trans (grown a.out.slots b.out.slots j.temps j.slots_are) size2 in
            then_operand Q W ask P code source_calls calls n r o a i le (j.trees ++ (l.trees ++ us)) (λ of. k >>= (λ index. rr >>= (λ v. on_shared (store of index v)))) (Put c) s c g size1
            (λ of s1 c1 g1 a1 e1. then_operand Q W ask P code source_calls calls n k a.out b j le1 (l.trees ++ us) (λ index. rr >>= (λ v. on_shared (store of index v))) (Put c) s1 c1 g1 (le_trans size2 (le_of_eq (sym a1.size)))
            (λ index s2 c2 g2 a2 e2. then_operand Q W ask P code source_calls calls n rr b.out x l le2 us (λ v. on_shared (store of index v)) (Put c) s2 c2 g2 (le_trans size (le_of_eq (sym (a2.size ∙ a1.size))))
            (λ v s3 c3 g3 a3 e3.
            let of_is : operand c3.locals a.operand ≡ of = operand_after W (length b.out.slots) s2 s3 c2 c3 a.operand (below_more W (length a.out.slots) (length b.out.slots) a.operand (grown a.out.slots b.out.slots j.temps j.slots_are) i.below) a3 ∙ operand_after W (length a.out.slots) s1 s2 c1 c2 a.operand i.below a2 ∙ e1 in
            let index_is : operand c3.locals b.operand ≡ index = operand_after W (length b.out.slots) s2 s3 c2 c3 b.operand j.below a3 ∙ e2 in
            only_meets (length x.out.nodes + 1) word (cells.store of index v) s3 c c3 g3 (a3.size ∙ a2.size ∙ a1.size) (plain_store (fresh_of code) of index v) refl refl (λ t. Works (Acts (cells.store (of_is t) (index_is t) (e3 t)))))));
      }

  -- what has no place is evaluated, and nothing is written
  pub nothing_put : (o : Draft) → IsPut (pure tt) o o
  nothing_put o = record {
    trees = [];
    temps = [];
    trees_are = sym (append-nil o.trees);
    slots_are = sym (append-nil o.slots);
    method_is = refl;
    meets = λ s c g size. (tt, s, refl, (refl, g, refl));
  }

  pub two_put : (r rr : SourceHere Q W Value) (o : Draft) (a x : Operated) → n ≤ length o.slots → IsOperand Q W ask P code source_calls calls n r o a → IsOperand Q W ask P code source_calls calls n rr a.out x → IsPut (r >>= (λ of. rr >>= (λ v. pure tt))) o x.out
  two_put r rr o a x le i j =
      let le1 : n ≤ length a.out.slots = le_trans le (grown o.slots a.out.slots i.temps i.slots_are) in
      record {
        trees = i.trees ++ j.trees;
        temps = i.temps ++ j.temps;
        trees_are = behind o.trees a.out.trees x.out.trees i.trees j.trees i.trees_are j.trees_are;
        slots_are = behind o.slots a.out.slots x.out.slots i.temps j.temps i.slots_are j.slots_are;
        method_is = j.method_is ∙ i.method_is;
        meets = λ s c g size. then_operand Q W ask P code source_calls calls n r o a i le j.trees (λ of. rr >>= (λ v. pure tt)) (Put c) s c g (le_trans (grown a.out.slots x.out.slots j.temps j.slots_are) size)
            (λ of s1 c1 g1 a1 e1. meets_source (rr s1) (body_run code ask calls j.trees c1) _ (Shares W) (λ v. pure tt) (Put c) (Shares W) (j.meets s1 c1 g1 (le_trans size (le_of_eq (sym a1.size))))
            (λ v s2 f c2 q. (tt, s2, refl, (q.0, agree_after W n (length a.out.slots) s1 s2 c1 c2 le1 g1 q.1, q.1.size ∙ a1.size))) (λ s c e. e));
      }
