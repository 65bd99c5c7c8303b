-- The code of all methods does what the methods do.
use Rattle.std.proofs.Common.{◌≡◌, ℕ, zero, suc, ◌+◌, ◌<◌, Bool, true, false, List, [], ◌∷◌, ◌++◌, map, drop, length, Option, Some, None, slice_get, refl, sym, ap, ◌∙◌, subst, arith, le_of_eq}
use Rattle.px_value.specs.declared.value.Value.{Value}
use Rattle.px_value.specs.declared.value.Value.TheVariants.{Ref}
use Rattle.px_value.specs.declared.object.Object.{Object}
use Rattle.px_value.specs.Outcome.{Outcome, Gives, Throws, Asks, then_run, Flow, Goes, Returns, goes_on}
use Rattle.px_tree.specs.declared.Method.{Method}
use Rattle.px_facts.specs.declared.types.Ty.{Ty as Static}
use Rattle.px_facts.specs.declared.types.Ty.TheVariants as static
use Rattle.px_facts.specs.declared.checked.MethodFact.{MethodFact}
use Rattle.px_facts.specs.declared.checked.Checked.{Checked}
use Rattle.px_effects.specs.Run.{Shared, Ask}
use Rattle.px_mean.specs.Run.{Frame as SourceFrame}
use Rattle.px_mean.specs.Facts.{by_number}
use Rattle.px_mean.specs.Expressions.{Calls as SourceCalls}
use Rattle.px_mean.specs.Statements.{done_by}
use Rattle.px_mean.specs.Calls as source
use Rattle.px_mean.specs.Program.{methods_of, source_from}
use Rattle.px_mean.specs.Entry.{exec, all_frames}
use Rattle.px_mean.specs.Typing.{IsTypedMethod, IsTyped}
use Rattle.px_normal.specs.declared.ty.Ty.{Ty}
use Rattle.px_normal.specs.declared.word.Word.TheVariants as w
use Rattle.px_normal.specs.declared.node.Node.{Node}
use Rattle.px_normal.specs.declared.method.Method.{Method as CodeMethod}
use Rattle.px_normal.specs.declared.method.Tree.TheVariants.{Do}
use Rattle.px_normal.specs.declared.code.Code.{Code}
use Rattle.px_normal.specs.First as first
use Rattle.px_normal.specs.First.{with_first, first_slots, numbered}
use Rattle.px_normal.specs.Run.{Traced, Frame, untraced}
use Rattle.px_normal.specs.CodeRun.{Calls, body_run, leaves_frame, enters, calls_in, code_run}
use Rattle.px_lowering.specs.declared.draft.Draft.{Draft}
use Rattle.px_lowering.specs.Types.{code_type}
use Rattle.px_lowering.specs.Statements.{completes, low_stmt}
use Rattle.px_lowering.specs.Programs.{first_types, begun, ended, lowered_body, method_of, lowered}
use Rattle.px_preservation.proofs.Meets.{Meets, meets_at, meets_more}
use Rattle.px_preservation.proofs.Agree.{Agree, CallsMeet, LowersStatement}
use Rattle.px_preservation.proofs.Runs.{run_do, run_append, run_one}
use Rattle.px_preservation.proofs.Program.{same_default, IsMethod, there, no_method, no_fact, method_of_code}

-- ---- the first slots

pub same_slots : (types : List Static) (temps : List Ty) (values : List Value) (j : ℕ) → j < length types → slice_get (source.first_slots types values) j ≡ slice_get (with_first values (map first.default_of (map code_type types ++ temps))) j
same_slots [] temps values j h = absurd (omega (arith, h))
same_slots (t ∷ types) temps [] zero h = ap Some (sym (same_default t))
same_slots (t ∷ types) temps [] (suc j) h = same_slots types temps [] j (omega (arith, h))
same_slots (t ∷ types) temps (v ∷ values) zero h = refl
same_slots (t ∷ types) temps (v ∷ values) (suc j) h = same_slots types temps values j (omega (arith, h))

pub length_first : (values : List Value) (slots : List Value) → length (with_first values slots) ≡ length slots
length_first [] slots = refl
length_first (v ∷ vs) [] = refl
length_first (v ∷ vs) (x ∷ slots) = ap suc (length_first vs slots)

pub length_map : {A B : Type 0} (f : A → B) (xs : List A) → length (map f xs) ≡ length xs
length_map f [] = refl
length_map f (x ∷ xs) = ap suc (length_map f xs)

pub types_are : (fact : MethodFact) (rest : List Static) → fact.slots ≡ static.Object fact.class ∷ rest → first_types fact ≡ map code_type fact.slots
types_are fact rest h = ap (λ (ts : List Static). code_type (static.Object fact.class) ∷ map code_type (drop 1 ts)) h ∙ sym (ap (map code_type) h)

module _ (Q W : Type 0) (ask : Ask Q W) (P : Checked) where
  -- the value and what is shared are the same
  abbrev pub SameEnd : Option Value → Shared W → Option Value → Traced W → Type 0
  SameEnd v s v' g = (v' ≡ v) × (s ≡ g.shared)

  abbrev pub SameLeft : Shared W → Traced W → Type 0
  SameLeft s g = s ≡ g.shared

  abbrev code : Code
  code = lowered P

  module _ (source_calls : SourceCalls Q W) (calls : Calls Q W) (n : ℕ) where
    abbrev Ended : Flow Value → SourceFrame W → Flow Value → Frame W → Type 0
    Ended f s f' c = (f' ≡ f) × (s.shared ≡ c.shared.shared)

    abbrev Left : SourceFrame W → Frame W → Type 0
    Left s c = s.shared ≡ c.shared.shared

    frame_end : (o : Outcome Q (SourceFrame W) (Flow Value)) (p : Outcome Q (Frame W) (Flow Value)) → Meets o p Ended Left → Meets (source.leaves_frame o) (leaves_frame p) SameEnd SameLeft
    frame_end o (Gives f c) h = (source.result_of h.0, h.1.shared, ap source.leaves_frame h.2, (ap source.result_of h.3.0, h.3.1))
    frame_end o (Throws t c) h = (h.0.shared, ap source.leaves_frame h.1, h.2)
    frame_end o (Asks q c) h = (h.0.shared, ap source.leaves_frame h.1, h.2)

    -- a return behind a body that goes on changes nothing
    return_end : (node : ℕ) (o : Outcome Q (SourceFrame W) (Flow Value)) (p : Outcome Q (Frame W) (Flow Value)) → Meets o p Ended Left → Meets (source.leaves_frame o) (leaves_frame (then_run p (goes_on (body_run code ask calls (Do node (w.Return None) ∷ []))))) SameEnd SameLeft
    return_end node o (Gives Goes c) h = meets_at _ _ _ SameEnd SameLeft (ap leaves_frame (run_one Q W code ask calls (Do node (w.Return None)) c ∙ ap (λ r. r c) (run_do Q W code ask calls node (w.Return None)))) (source.result_of h.0, h.1.shared, ap source.leaves_frame h.2, (ap source.result_of h.3.0, h.3.1))
    return_end node o (Gives (Returns v) c) h = (source.result_of h.0, h.1.shared, ap source.leaves_frame h.2, (ap source.result_of h.3.0, h.3.1))
    return_end node o (Throws t c) h = (h.0.shared, ap source.leaves_frame h.1, h.2)
    return_end node o (Asks q c) h = (h.0.shared, ap source.leaves_frame h.1, h.2)

    body_end : (m : Method) (b : Bool) (d : Draft) (o : Outcome Q (SourceFrame W) (Flow Value)) (c : Frame W) → Meets o (body_run code ask calls d.trees c) Ended Left → Meets (source.leaves_frame o) (leaves_frame (body_run code ask calls (ended P m b d).trees c)) SameEnd SameLeft
    body_end m true d o c h = meets_at _ _ _ SameEnd SameLeft (ap leaves_frame (run_append Q W code ask calls d.trees (Do (length d.nodes + 1) (w.Return None) ∷ []) c)) (return_end (length d.nodes + 1) o (body_run code ask calls d.trees c) h)
    body_end m false d o c h = frame_end o (body_run code ask calls d.trees c) h

    pub ended_slots : (m : Method) (b : Bool) (d : Draft) → (ended P m b d).slots ≡ d.slots
    ended_slots m true d = refl
    ended_slots m false d = refl

    body_meets : (m : Method) (fact : MethodFact) (number : ℕ) (nodes : List Node) → IsTypedMethod P.facts m fact → LowersStatement Q W ask P code source_calls calls (length fact.slots) fact.result m.body → (values : List Value) (s : Shared W) (g : Traced W) → s ≡ g.shared
        → Meets (source.enters (record { facts = P.facts; ask = ask; calls = source_calls }) (Some m) (Some fact) values s) (enters code ask calls (Some (method_of P m fact (length nodes) (lowered_body P number m fact nodes))) values g) SameEnd SameLeft
    body_meets m fact number nodes typed lowers values s g e =
        let types : first_types fact ≡ map code_type fact.slots = types_are fact _ typed.slots in
        let d0 : Draft = begun P number m fact nodes in
        let d : Draft = low_stmt P fact.result m.body d0 in
        let made : CodeMethod = method_of P m fact (length nodes) (lowered_body P number m fact nodes) in
        let s0 : SourceFrame W = record { locals = source.first_slots fact.slots values; shared = s } in
        let c0 : Frame W = record { locals = first_slots made values; shared = g } in
        let i = lowers d0 (le_of_eq (sym (ap length types ∙ length_map code_type fact.slots))) in
        let slots : made.slots ≡ map code_type fact.slots ++ i.temps = ended_slots m (completes m.body) d ∙ i.slots_are ∙ ap (λ (ts : List Ty). ts ++ i.temps) types in
        let agree : Agree W (length fact.slots) s0 c0 = record {
          locals = λ j h. same_slots fact.slots i.temps values j h ∙ ap (λ (ts : List Ty). slice_get (with_first values (map first.default_of ts)) j) (sym slots);
          shared = e;
        } in
        let size : length d.slots ≡ length c0.locals = sym (length_first values (map first.default_of made.slots) ∙ length_map first.default_of made.slots ∙ ap length (ended_slots m (completes m.body) d)) in
        let ran = i.meets s0 c0 agree (le_of_eq size) in
        let o = done_by (record { facts = P.facts; ask = ask; calls = source_calls }) fact.result m.body s0 in
        body_end m (completes m.body) d o c0
        (meets_at o (body_run code ask calls d.trees c0) (body_run code ask calls i.trees c0) Ended Left (ap (λ ts. body_run code ask calls ts c0) i.trees_are)
        (meets_more o (body_run code ask calls i.trees c0) _ _ Ended Left ran (λ f s1 f1 c1 q. (q.0, q.1.shared)) (λ s1 c1 q. q)))

  -- the bodies of typed methods are lowered, whatever calls do, as long as they do the same
  abbrev pub LowersBodies : Type 0
  LowersBodies = (source_calls : SourceCalls Q W) (calls : Calls Q W) → CallsMeet Q W ask P code source_calls calls 0 → (m : Method) (fact : MethodFact) → IsTypedMethod P.facts m fact → LowersStatement Q W ask P code source_calls calls (length fact.slots) fact.result m.body

  abbrev Typed : Option Method → Option MethodFact → Type 0
  Typed a b = (m : Method) (fact : MethodFact) → a ≡ Some m → b ≡ Some fact → IsTypedMethod P.facts m fact

  typed_at : IsTyped (source_from P) → (method : ℕ) → Typed (by_number (methods_of P.program.classes) method) (by_number P.facts.methods method)
  typed_at typed method m fact a b =
      let t = typed.methods method fact b in
      let same : Some t.0 ≡ Some m = sym t.1 ∙ a in
      let is : t.0 ≡ m = cc same in
      subst (λ x. IsTypedMethod P.facts x fact) is t.2

  module _ (lowers : LowersBodies) (source_calls : SourceCalls Q W) (calls : Calls Q W) (met : CallsMeet Q W ask P code source_calls calls 0) where
    enters_meets : (a : Option Method) (b : Option MethodFact) (c : Option CodeMethod) → IsMethod P a b c → Typed a b → (values : List Value) (s : Shared W) (g : Traced W) → s ≡ g.shared
        → Meets (source.enters (record { facts = P.facts; ask = ask; calls = source_calls }) a b values s) (enters code ask calls c values g) SameEnd SameLeft
    enters_meets _ _ _ (there m fact number nodes) typed values s g e = body_meets source_calls calls 0 m fact number nodes (typed m fact refl refl) (lowers source_calls calls met m fact (typed m fact refl refl)) values s g e
    enters_meets _ _ _ (no_method fact) typed values s g e = (None, s, refl, (refl, e))
    enters_meets _ _ _ (no_fact None) typed values s g e = (None, s, refl, (refl, e))
    enters_meets _ _ _ (no_fact (Some m)) typed values s g e = (None, s, refl, (refl, e))

  module _ (typed : IsTyped (source_from P)) (lowers : LowersBodies) where
    -- calls do the same in the source and in the code, with as many frames
    pub calls_meet : (frames : ℕ) → CallsMeet Q W ask P code (source.calls_in ask (source_from P) frames) (calls_in code ask frames) 0
    unfolding source.calls_in calls_in
    calls_meet zero method values s g e = (s, refl, e)
    calls_meet (suc frames) method values s g e = enters_meets lowers (source.calls_in ask (source_from P) frames) (calls_in code ask frames) (calls_meet frames) _ _ _ (method_of_code P method) (typed_at typed method) values s g e

    same_outcome : (o : Outcome Q (Shared W) (Option Value)) (p : Outcome Q (Traced W) (Option Value)) → Meets o p SameEnd SameLeft → o ≡ untraced p
    same_outcome o (Gives v g) h = h.2 ∙ (λ i. Gives (sym h.3.0 i) (h.3.1 i))
    same_outcome o (Throws t g) h = h.1 ∙ ap (Throws t) h.2
    same_outcome o (Asks q g) h = h.1 ∙ ap (Asks q) h.2

    -- the code does what the source does
    pub code_is_source : (heap : List Object) (world : W) (method : ℕ) (args : List Value) → exec ask (source_from P) heap world method args ≡ untraced (code_run code ask heap world method args)
    code_is_source heap world method args = same_outcome _ _ (calls_meet all_frames method (Ref 0 ∷ args) _ _ refl)
