-- What typed code does with references is covered by points-to.
use Rattle.std.proofs.Common.{◌≡◌, ℕ, zero, suc, ◌+◌, true, false, List, [], ◌∷◌, Option, Some, None, is_some, unwrap_or, slice_get, refl, sym, ap, ◌∙◌, subst, arith}
use Rattle.std.proofs.lemmas.Option.{same_Some}
use Rattle.px_value.specs.declared.value.Value.{Value}
use Rattle.px_value.specs.declared.value.Value.TheVariants.{Int, Long, Bool as Truth, Text, Null, Ref}
use Rattle.px_value.specs.declared.header.Kind.{Kind}
use Rattle.px_value.specs.declared.header.Kind.TheVariants as kind
use Rattle.px_normal.specs.declared.ty.Ty.{Ty}
use Rattle.px_normal.specs.declared.ty.Ty.TheVariants as ty
use Rattle.px_normal.specs.declared.word.Operand.{Operand}
use Rattle.px_normal.specs.declared.word.Operand.TheVariants.{Slot, Literal}
use Rattle.px_normal.specs.declared.word.Word.{Word}
use Rattle.px_normal.specs.declared.word.Word.TheVariants as w
use Rattle.px_normal.specs.declared.method.Method.{Method}
use Rattle.px_normal.specs.declared.code.Code.{Code}
use Rattle.px_normal.specs.First.{blank}
use Rattle.px_normal.specs.Typed.{IsLiteral, HasTy, AreFirst, IsTyped}
use Rattle.px_normal.specs.Typed as typed
use Rattle.px_flow_points.specs.declared.part.Part.TheVariants as part
use Rattle.px_flow_points.specs.Statements.{IsMethod, HasStatement}
use Rattle.px_flow_points.specs.Places.{site_kind, slots_of, slot_ty, HasSlot}
use Rattle.px_flow_points.specs.Points.{InSlot, InPart, PointsTo}
use Rattle.px_flow_points.specs.Points as points
use Rattle.px_flow_points.specs.There.{NumbersExist}
use Rattle.px_flow_points.specs.There as there
use Rattle.px_flow_points.specs.Exact.{ArePoints}
use Rattle.px_flow_points.specs.ByNode.{Found}
use Rattle.px_flow_points.proofs.Typing.{site_is, kind_ty, same_ty, slot_in, word_in, object_site, array_site, places}
use Rattle.px_blocks.specs.Plan.{Field, Elements}
use Rattle.px_blocks.specs.Machine.{types_of, blank_values}
use Rattle.px_blocks.specs.Rules.{is_call}
use Rattle.px_blocks.specs.Plan.{Plan}
use Rattle.px_blocks.specs.declared.block.Block.{Block}
use Rattle.px_sync.proofs.Truths.{any_to, any_back}
use Rattle.px_ends.specs.Sends.{HasPart}
use Rattle.px_ends.specs.Fits.{Points, leads_of, Within, IsPlain, PlainOperand, CoversArgs, AllHave, CoversWord}
use Rattle.px_sound_plans.specs.Words.{method_words}
use Rattle.px_sound_plans.specs.Plans.{at_slot, returns, points_of}
use Rattle.px_sound_plans.proofs.Led.{led_to, led_back, part_to, part_back}
use Rattle.px_sound_plans.proofs.WordsWhere.{words_to, words_back}

-- ---- literals

plain_value : (v : Value) (t : Ty) → IsLiteral v t → IsPlain v
plain_value (Int n) t h = tt
plain_value (Long n) t h = tt
plain_value (Truth b) t h = tt
plain_value (Text bytes) t h = tt
plain_value Null t h = tt
plain_value (Ref o) t h = absurd h

plain_operand : (slots : List Ty) (a : Operand) (t : Ty) → HasTy slots a t → PlainOperand a
plain_operand slots (Slot n) t h = tt
plain_operand slots (Literal v) t h = plain_value v t h

-- ---- slots

blank_there : (types : List Ty) (k : ℕ) (t : Ty) → slice_get types k ≡ Some t → is_some (slice_get (blank types) k) ≡ true
blank_there [] k t h = cc
blank_there (x ∷ types) zero t h = refl
blank_there (x ∷ types) (suc k) t h = blank_there types k t h

same_types : (o : Option Method) → slots_of o ≡ types_of o
same_types None = refl
same_types (Some m) = refl

blank_has : (code : Code) (m k : ℕ) → HasSlot code m k → is_some (slice_get (blank_values code m) k) ≡ true
blank_has code zero k h = let x : slot_ty code 0 k ≡ Some h.0 = h.1 in cc
blank_has code (suc n) k h = blank_there (types_of (slice_get code.methods n)) k h.0 (ap (λ (z : List Ty). slice_get z k) (sym (same_types (slice_get code.methods n))) ∙ h.1)

rows_kind : (k : Kind) → kind_ty k ≡ ty.Rows → HasPart k Elements
rows_kind (kind.Object c) h = cc
rows_kind (kind.Array e) h = cc
rows_kind (kind.Rows q) h = tt

module _ (code : Code) (found : Found) (T : IsTyped code) (E : NumbersExist code) (A : ArePoints code found.sets) where
  abbrev fit : Points
  fit = points_of code found.sets

  abbrev kinds : ℕ → Kind
  kinds s = unwrap_or (site_kind code s) (kind.Object code.main)

  kinds_is : (s : ℕ) (k : Kind) → site_kind code s ≡ Some k → kinds s ≡ k
  kinds_is s k e = ap (λ (o : Option Kind). unwrap_or o (kind.Object code.main)) e

  abbrev to_points : (m k s : ℕ) → HasSlot code m k → at_slot found.sets m k s ≡ true → PointsTo code (InSlot m k) s
  to_points m k s h l = led_to code found.sets E A m k s h l

  abbrev back_points : (m k s : ℕ) → HasSlot code m k → PointsTo code (InSlot m k) s → at_slot found.sets m k s ≡ true
  back_points m k s h p = led_back code found.sets E A m k s h p

  slot_there : (m k : ℕ) (t : Ty) (method : Method) → IsMethod code m method → slice_get method.slots k ≡ Some t → HasSlot code m k
  slot_there m k t method is h = (t, slot_in code T m k t method is h)

  -- ---- the parts of receivers

  object_part : (m k s class field : ℕ) (method : Method) → IsMethod code m method → slice_get method.slots k ≡ Some (ty.Object class) → at_slot found.sets m k s ≡ true → HasPart (kinds s) (Field field)
  object_part m k s class field method is h l =
      let k' = object_site code T m k s class (slot_in code T m k (ty.Object class) method is h) (places code T (InSlot m k) s (to_points m k s (slot_there m k (ty.Object class) method is h) l)) in
      subst (λ (z : Kind). HasPart z (Field field)) (sym (kinds_is s (kind.Object class) k')) tt

  array_part : (m k s element : ℕ) (method : Method) → IsMethod code m method → slice_get method.slots k ≡ Some (ty.Array element) → at_slot found.sets m k s ≡ true → HasPart (kinds s) Elements
  array_part m k s element method is h l =
      let k' = array_site code T m k s element (slot_in code T m k (ty.Array element) method is h) (places code T (InSlot m k) s (to_points m k s (slot_there m k (ty.Array element) method is h) l)) in
      subst (λ (z : Kind). HasPart z Elements) (sym (kinds_is s (kind.Array element) k')) tt

  rows_part : (m k s : ℕ) (method : Method) → IsMethod code m method → slice_get method.slots k ≡ Some ty.Rows → at_slot found.sets m k s ≡ true → HasPart (kinds s) Elements
  rows_part m k s method is h l =
      let x = places code T (InSlot m k) s (to_points m k s (slot_there m k ty.Rows method is h) l) in
      subst (λ (z : Kind). HasPart z Elements) (sym (kinds_is s x.0 x.1)) (rows_kind x.0 (same_ty (slot_ty code m k) (kind_ty x.0) ty.Rows x.2 (slot_in code T m k ty.Rows method is h)))

  object_all : (m : ℕ) (of : Operand) (class field : ℕ) (method : Method) → IsMethod code m method → HasTy method.slots of (ty.Object class) → AllHave fit m of (Field field)
  object_all m (Slot k) class field method is h s l = object_part m k s class field method is h l
  object_all m (Literal v) class field method is h s l = cc

  array_all : (m : ℕ) (of : Operand) (element : ℕ) (method : Method) → IsMethod code m method → HasTy method.slots of (ty.Array element) → AllHave fit m of Elements
  array_all m (Slot k) element method is h s l = array_part m k s element method is h l
  array_all m (Literal v) element method is h s l = cc

  rows_all : (m : ℕ) (of : Operand) (method : Method) → IsMethod code m method → HasTy method.slots of ty.Rows → AllHave fit m of Elements
  rows_all m (Slot k) method is h s l = rows_part m k s method is h l
  rows_all m (Literal v) method is h s l = cc

  -- ---- what flows

  module _ (m node : ℕ) where
    set_within : (to : ℕ) (a : Operand) → HasStatement code m node (w.Set to a) → Within (leads_of fit m a) (fit.at_slot m to)
    set_within to (Slot k) has s l = let e = E.words has in back_points m to s e.0 (points.PointsTo.copied has (to_points m k s e.1 l))
    set_within to (Literal v) has s l = cc

    get_within : (to : ℕ) (of : Operand) (class field : ℕ) → HasStatement code m node (w.Get to of class field) → (s : ℕ) → leads_of fit m of s ≡ true → Within (fit.in_part s (Field field)) (fit.at_slot m to)
    get_within to (Slot k) class field has s l t q =
        let e = E.words has in
        let p = to_points m k s e.1 l in
        back_points m to t e.0 (points.PointsTo.got has p (part_to code found.sets E A s t (part.Field field) (E.parts has there.Looks.get p) q))
    get_within to (Literal v) class field has s l t q = cc

    put_within : (of : Operand) (class field : ℕ) (a : Operand) → HasStatement code m node (w.Put of class field a) → (s : ℕ) → leads_of fit m of s ≡ true → Within (leads_of fit m a) (fit.in_part s (Field field))
    put_within (Slot k) class field (Slot j) has s l t q =
        let e = E.words has in
        let p = to_points m k s e.0 l in
        part_back code found.sets E A s t (part.Field field) (E.parts has there.Looks.put p) (points.PointsTo.put has p (to_points m j t e.1 q))
    put_within (Slot k) class field (Literal v) has s l t q = cc
    put_within (Literal v) class field a has s l t q = cc

    load_within : (to : ℕ) (of i : Operand) → HasStatement code m node (w.Load to of i) → (s : ℕ) → leads_of fit m of s ≡ true → Within (fit.in_part s Elements) (fit.at_slot m to)
    load_within to (Slot k) i has s l t q =
        let e = E.words has in
        let p = to_points m k s e.1 l in
        back_points m to t e.0 (points.PointsTo.loaded has p (part_to code found.sets E A s t part.Elements (E.parts has there.Looks.load p) q))
    load_within to (Literal v) i has s l t q = cc

    store_within : (of i a : Operand) → HasStatement code m node (w.Store of i a) → (s : ℕ) → leads_of fit m of s ≡ true → Within (leads_of fit m a) (fit.in_part s Elements)
    store_within (Slot k) i (Slot j) has s l t q =
        let e = E.words has in
        let p = to_points m k s e.0 l in
        part_back code found.sets E A s t part.Elements (E.parts has there.Looks.store p) (points.PointsTo.stored has p (to_points m j t e.1 q))
    store_within (Slot k) i (Literal v) has s l t q = cc
    store_within (Literal v) i a has s l t q = cc

    return_within : (a : Operand) → HasStatement code m node (w.Return (Some a)) → Within (leads_of fit m a) (fit.result m)
    return_within (Slot k) has s l = any_back (returns found.sets m s) (method_words code m) (w.Return (Some (Slot k))) (words_back (w.Return (Some (Slot k))) code m node has) l
    return_within (Literal v) has s l = cc

  -- ---- calls

  -- a word that returns a reference to the site returns a slot that leads there
  record ReturnsSlot (m s : ℕ) (word : Word) : Type 0 where
    slot : ℕ
    is : word ≡ w.Return (Some (Slot slot))
    leads_there : at_slot found.sets m slot s ≡ true

  returns_slot : (m s : ℕ) (word : Word) → returns found.sets m s word ≡ true → ReturnsSlot m s word
  returns_slot m s (w.Return (Some (Slot k))) h = record { slot = k; is = refl; leads_there = h }
  returns_slot m s (w.Return (Some (Literal v))) h = cc
  returns_slot m s (w.Return None) h = cc
  returns_slot m s (w.Set to a) h = cc
  returns_slot m s (w.Op o to a b) h = cc
  returns_slot m s (w.Get to of class field) h = cc
  returns_slot m s (w.Put of class field a) h = cc
  returns_slot m s (w.Load to of i) h = cc
  returns_slot m s (w.Store of i a) h = cc
  returns_slot m s (w.Len to of) h = cc
  returns_slot m s (w.New to class site) h = cc
  returns_slot m s (w.Array to element n site) h = cc
  returns_slot m s (w.Call to of called args) h = cc
  returns_slot m s (w.Query to number site params) h = cc
  returns_slot m s (w.Update to number params) h = cc
  returns_slot m s (w.Next to of) h = cc
  returns_slot m s (w.Long to of column) h = cc
  returns_slot m s (w.Text to of column) h = cc
  returns_slot m s (w.Print a) h = cc

  pub result_within : (m node : ℕ) (to : Option ℕ) (of : Operand) (called : ℕ) (args : List Operand) (k : ℕ) → HasStatement code m node (w.Call to of called args) → to ≡ Some k → Within (fit.result called) (fit.at_slot m k)
  result_within m node to of called args k has is s l =
      let r = any_to (returns found.sets called s) (method_words code called) l in
      let x = returns_slot called s r.item r.passes in
      let y = words_to r.item code called r.at in
      let back : HasStatement code called y.node (w.Return (Some (Slot x.slot))) = subst (λ (z : Word). HasStatement code called y.node z) x.is y.has in
      let at : HasStatement code m node (w.Call (Some k) of called args) = subst (λ (z : Option ℕ). HasStatement code m node (w.Call z of called args)) is has in
      let e = E.words at in
      back_points m k s e.3 (points.PointsTo.returned at back (to_points called x.slot s (E.words back) x.leads_there))

  module _ (m node : ℕ) (to : Option ℕ) (of : Operand) (called : ℕ) (args : List Operand) (has : HasStatement code m node (w.Call to of called args)) where
    argument_within : (j : ℕ) (a : Operand) → slice_get (of ∷ args) j ≡ Some a → Within (leads_of fit m a) (fit.at_slot called j)
    argument_within j (Slot k) at s l = let e = (E.words has).2 in back_points called j s (e.into j k at) (points.PointsTo.passed has at (to_points m k s (e.from j k at) l))
    argument_within j (Literal v) at s l = cc

    first_plain : (slots : List Ty) (xs : List Operand) (types : List Ty) (j : ℕ) (a : Operand) → AreFirst slots xs types → slice_get xs j ≡ Some a → PlainOperand a
    first_plain slots [] types j a h at = cc
    first_plain slots (x ∷ xs) [] j a h at = absurd h
    first_plain slots (x ∷ xs) (t ∷ types) zero a h at = subst PlainOperand (same_Some x a at) (plain_operand slots x t h.0)
    first_plain slots (x ∷ xs) (t ∷ types) (suc j) a h at = first_plain slots xs types j a h.1 at

    covers_from : (k : ℕ) (xs : List Operand) → ((j i : ℕ) (a : Operand) → i ≡ k + j → slice_get xs j ≡ Some a → PlainOperand a × Within (leads_of fit m a) (fit.at_slot called i)) → CoversArgs fit m called k xs
    covers_from k [] f = tt
    covers_from k (x ∷ xs) f = (f 0 k x (omega arith) refl, covers_from (suc k) xs (λ j i a e at. f (suc j) i a (omega (arith, e)) at))

    pub args_covered : CoversArgs fit m called 0 (of ∷ args)
    args_covered =
        let x = word_in code T m node (w.Call to of called args) has in
        let t = x.ok in
        covers_from 0 (of ∷ args) (λ j i a e at. (first_plain x.method.slots (of ∷ args) t.0.slots j a t.3 at, argument_within i a (subst (λ n. slice_get (of ∷ args) n ≡ Some a) (let q : j ≡ i = omega (arith, e) in q) at)))

  -- ---- words

  rows_apart : (to : ℕ) (of : Operand) (slots : List Ty) → HasTy slots of ty.Rows → slice_get slots to ≡ Some ty.Bool → of ≡ Slot to → ⊥
  rows_apart to of slots h g e =
      let x : slice_get slots to ≡ Some ty.Rows = subst (λ (z : Operand). HasTy slots z ty.Rows) e h in
      let y : ty.Rows ≡ ty.Bool = same_ty (slice_get slots to) ty.Rows ty.Bool x g in
      cc

  pub word_covered : (plan : Plan) → plan.code ≡ code → (b : Block) (node : ℕ) (word : Word) → HasStatement code b.method node word → is_call word ≡ false → CoversWord plan fit b word
  word_covered plan same b node (w.Set to a) has c = let x = word_in code T b.method node _ has in let t = x.ok in (plain_operand x.method.slots a t.0 t.1, set_within b.method node to a has)
  word_covered plan same b node (w.Op o to a d) has c = tt
  word_covered plan same b node (w.Get to of class field) has c =
      let x = word_in code T b.method node (w.Get to of class field) has in
      let t = x.ok in
      (plain_operand x.method.slots of (ty.Object class) t.1, object_all b.method of class field x.method x.is t.1, get_within b.method node to of class field has)
  word_covered plan same b node (w.Put of class field a) has c =
      let x = word_in code T b.method node (w.Put of class field a) has in
      let t = x.ok in
      (plain_operand x.method.slots of (ty.Object class) t.1, object_all b.method of class field x.method x.is t.1, plain_operand x.method.slots a t.0 t.3, put_within b.method node of class field a has)
  word_covered plan same b node (w.Load to of i) has c =
      let x = word_in code T b.method node (w.Load to of i) has in
      let t = x.ok in
      (plain_operand x.method.slots of (ty.Array t.0) t.1, array_all b.method of t.0 x.method x.is t.1, load_within b.method node to of i has)
  word_covered plan same b node (w.Store of i a) has c =
      let x = word_in code T b.method node (w.Store of i a) has in
      let t = x.ok in
      (plain_operand x.method.slots of (ty.Array t.0) t.1, array_all b.method of t.0 x.method x.is t.1, plain_operand x.method.slots a (typed.element_type t.0) t.3, store_within b.method node of i a has)
  word_covered plan same b node (w.Len to of) has c = tt
  word_covered plan same b node (w.New to class site) has c =
      let x = word_in code T b.method node (w.New to class site) has in
      let t = x.ok in
      (sym (kinds_is site (kind.Object class) (site_is code site (kind.Object class) t.0)), back_points b.method to site (E.words has).0 (points.PointsTo.makes_object has))
  word_covered plan same b node (w.Array to element n site) has c =
      let x = word_in code T b.method node (w.Array to element n site) has in
      let t = x.ok in
      (sym (kinds_is site (kind.Array element) (site_is code site (kind.Array element) t.0)), back_points b.method to site (E.words has).0 (points.PointsTo.makes_array has))
  word_covered plan same b node (w.Call to of called args) has c = cc
  word_covered plan same b node (w.Query to number site params) has c =
      let x = word_in code T b.method node (w.Query to number site params) has in
      let t = x.ok in
      (sym (kinds_is site (kind.Rows number) (site_is code site (kind.Rows number) t.3)), back_points b.method to site (E.words has).0 (points.PointsTo.makes_rows has), subst (λ (z : Code). is_some (slice_get (blank_values z b.method) to) ≡ true) (sym same) (blank_has code b.method to (E.words has).0))
  word_covered plan same b node (w.Update to number params) has c = tt
  word_covered plan same b node (w.Next to of) has c =
      let x = word_in code T b.method node (w.Next to of) has in
      let t = x.ok in
      (plain_operand x.method.slots of ty.Rows t.0, rows_all b.method of x.method x.is t.0, rows_apart to of x.method.slots t.0 t.1)
  word_covered plan same b node (w.Long to of column) has c =
      let x = word_in code T b.method node (w.Long to of column) has in
      let t = x.ok in
      (plain_operand x.method.slots of ty.Rows t.0, rows_all b.method of x.method x.is t.0)
  word_covered plan same b node (w.Text to of column) has c =
      let x = word_in code T b.method node (w.Text to of column) has in
      let t = x.ok in
      (plain_operand x.method.slots of ty.Rows t.0, rows_all b.method of x.method x.is t.0)
  word_covered plan same b node (w.Print a) has c = tt
  word_covered plan same b node (w.Return None) has c = tt
  word_covered plan same b node (w.Return (Some a)) has c =
      let x = word_in code T b.method node (w.Return (Some a)) has in
      let t = x.ok in
      (plain_operand x.method.slots a t.0 t.2, return_within b.method node a has)
