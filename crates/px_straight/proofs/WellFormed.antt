-- Straight code is well formed.
use Rattle.std.proofs.Common.{◌≡◌, ℕ, suc, ◌+◌, ◌<◌, ◌≤◌, ◌^◌, Bool, true, false, List, [], ◌∷◌, ◌++◌, length, map, Option, Some, None, is_some, option_map, slice_get, refl, sym, ap, subst, ◌∙◌, arith}
use Rattle.std.specs.List.{AllByRecursion}
use Rattle.std.proofs.lemmas.List.{length-map}
use Rattle.std.proofs.lemmas.Option.{slice_get-map, slice_get_within}
use Rattle.px_value.specs.declared.value.Value.{Value}
use Rattle.px_value.specs.declared.value.Value.TheVariants as v
use Rattle.px_value.specs.Heap.{max_counted}
use Rattle.px_normal.specs.declared.ty.Ty.{Ty}
use Rattle.px_normal.specs.declared.word.Operand.{Operand}
use Rattle.px_normal.specs.declared.word.Word.{Word}
use Rattle.px_normal.specs.declared.word.Word.TheVariants.{Return}
use Rattle.px_normal.specs.declared.class.Class.{Class}
use Rattle.px_normal.specs.declared.method.Method.{Method}
use Rattle.px_normal.specs.declared.method.Tree.{Tree}
use Rattle.px_normal.specs.declared.method.Tree.TheVariants.{Do, If}
use Rattle.px_normal.specs.declared.code.Code.{Code}
use Rattle.px_normal.specs.First.{fields_in, fields_of}
use Rattle.px_normal.specs.Typed as typed
use Rattle.px_normal.specs.Typed.{Stops, IsTypedMethod, IsTyped}
use Rattle.px_code.specs.declared.method.Tree.{Tree as SimpleTree}
use Rattle.px_code.specs.declared.method.Tree.TheVariants as simple
use Rattle.px_code.specs.Places as places
use Rattle.px_code.specs.WellFormed.{main_fields, IsPlainValue, IsOperandOf, IsOperandIf, IsFieldOfMain, IsWordOf, IsTreeOf, ends_in_return, HasFewSlots, IsMethodOf, ReturnsAs, RepliesAsDeclared, IsWellFormed}
use Rattle.px_straight.specs.Taken.{is_plain, later}
use Rattle.px_straight.specs.Simple.{simple_type, simple_operand, simple_word, simple_tree, simple_method, simple_field, simple_class, simple_code}
use Rattle.px_straight.specs.Laws.{IsSmall, StraightIsWellFormed}
use Rattle.px_straight.proofs.Forms.{simple_do}
use Rattle.px_straight.proofs.Whole.{is_straight}
use Rattle.px_straight.proofs.TakenWords.{TakenOperand, slot, literal, TakenOption, absent, present, IsFieldAt, TakenWord, sets, computes, gets, puts, returns, AreTaken, nothing, one}
use Rattle.px_straight.proofs.Runs.{taken_method}

-- ---- fields of the main class

fields_same : (c : Option Class) → places.fields_in (option_map simple_class c) ≡ map simple_field (fields_in c)
fields_same None = refl
fields_same (Some c) = refl

pub main_same : (code : Code) → main_fields (simple_code code) ≡ map simple_field (fields_of code code.main)
main_same code = ap places.fields_in (slice_get-map simple_class code.classes code.main) ∙ fields_same (slice_get code.classes code.main)

pub main_length : (code : Code) → length (main_fields (simple_code code)) ≡ length (fields_of code code.main)
main_length code = ap length (main_same code) ∙ length-map (fields_of code code.main) simple_field

field_of_main : (code : Code) (class place : ℕ) → IsFieldAt code class place → IsFieldOfMain (simple_code code) class place
field_of_main code class place k =
    let at : slice_get (fields_of code code.main) place ≡ Some k.field = ap (λ (c : ℕ). slice_get (fields_of code c) place) (sym k.main) ∙ k.there in
    (k.main, subst (λ (n : ℕ). place < n) (sym (main_length code)) (slice_get_within (fields_of code code.main) place k.field at))

-- ---- words

slot_below : (types : List Ty) (n : ℕ) (t : Ty) → slice_get types n ≡ Some t → n < length (map simple_type types)
slot_below types n t h = subst (λ (k : ℕ). n < k) (sym (length-map types simple_type)) (slice_get_within types n t h)

plain_value : (x : Value) → is_plain x ≡ true → IsPlainValue x
plain_value (v.Int n) h = tt
plain_value (v.Long n) h = tt
plain_value (v.Bool b) h = tt
plain_value (v.Text t) h = cc
plain_value v.Null h = tt
plain_value (v.Ref object) h = cc

module _ (code : Code) (gives : Option Ty) (types : List Ty) where
  abbrev count : ℕ
  count = length (map simple_type types)

  operand_of : {a : Operand} → TakenOperand types a → IsOperandOf count (simple_operand a)
  operand_of (slot n t h) = slot_below types n t h
  operand_of (literal x h) = plain_value x h

  operand_if : {a : Option Operand} → TakenOption types a → IsOperandIf count (option_map simple_operand a)
  operand_if absent = tt
  operand_if (present a h) = operand_of h

  word_of : {word : Word} → TakenWord code gives types word → IsWordOf (simple_code code) count (simple_word word)
  word_of (sets to a t ht ha) = (slot_below types to t ht, operand_of ha)
  word_of (computes o to a b t ht ha hb) = (slot_below types to t ht, operand_of ha, operand_if hb)
  word_of (gets to of class field t ht ho hf) = (slot_below types to t ht, operand_of ho, field_of_main code class field hf)
  word_of (puts of class field a ho ha hf) = (operand_of ho, operand_of ha, field_of_main code class field hf)
  word_of (returns a ha h) = operand_if ha

  some_map : {A B : Type 0} (f : A → B) (o : Option A) → is_some (option_map f o) ≡ is_some o
  some_map f None = refl
  some_map f (Some x) = refl

  returns_as : {word : Word} (node : ℕ) → TakenWord code gives types word → ReturnsAs (option_map simple_type gives) (simple.Do node (simple_word word))
  returns_as node (sets to a t ht ha) = tt
  returns_as node (computes o to a b t ht ha hb) = tt
  returns_as node (gets to of class field t ht ho hf) = tt
  returns_as node (puts of class field a ho ha hf) = tt
  returns_as node (returns a ha h) = some_map simple_operand a ∙ h ∙ sym (some_map simple_type gives)

  trees_of : {trees : List Tree} → AreTaken code gives types trees → AllByRecursion (IsTreeOf (simple_code code) count) (map simple_tree trees)
  trees_of nothing = tt
  trees_of (one {t = x} node word e k rest) = (subst (IsTreeOf (simple_code code) count) (sym (simple_do x node word e)) (word_of k), trees_of rest)

  replies_of : {trees : List Tree} → AreTaken code gives types trees → AllByRecursion (ReturnsAs (option_map simple_type gives)) (map simple_tree trees)
  replies_of nothing = tt
  replies_of (one {t = x} node word e k rest) = (subst (ReturnsAs (option_map simple_type gives)) (sym (simple_do x node word e)) (returns_as node k), replies_of rest)

  -- ---- the last statement

  return_last : (before : List Tree) (node : ℕ) (a : Option Operand) (any : Bool) → AreTaken code gives types (before ++ Do node (Return a) ∷ []) → ends_in_return any (map simple_tree (before ++ Do node (Return a) ∷ [])) ≡ true
  return_last [] node a any k = ap (λ (x : SimpleTree). ends_in_return any (x ∷ [])) (simple_do (Do node (Return a)) node (Return a) refl)
  return_last (x ∷ before) node a any (one n word e k rest) =
      ap (λ (y : SimpleTree). ends_in_return any (y ∷ map simple_tree (before ++ Do node (Return a) ∷ []))) (simple_do x n word e)
      ∙ return_last before node a _ rest

  do_no_if : (node n : ℕ) (test : Operand) (ys ns : List Tree) (word : Word) → If node test ys ns ≡ Do n word → ⊥
  do_no_if node n test ys ns word e = cc

  no_branch_last : (before : List Tree) (node : ℕ) (test : Operand) (ys ns : List Tree) → AreTaken code gives types (before ++ If node test ys ns ∷ []) → ⊥
  no_branch_last [] node test ys ns (one n word e k rest) = do_no_if node n test ys ns word e
  no_branch_last (x ∷ before) node test ys ns (one n word e k rest) = no_branch_last before node test ys ns rest

  ends_of : (trees : List Tree) → Stops trees → AreTaken code gives types trees → ends_in_return false (map simple_tree trees) ≡ true
  ends_of trees (typed.returns before node a e) k = ap (λ (xs : List Tree). ends_in_return false (map simple_tree xs)) e ∙ return_last before node a false (subst (AreTaken code gives types) e k)
  ends_of trees (typed.branches before node test ys ns e sy sn) k = absurd (no_branch_last before node test ys ns (subst (AreTaken code gives types) e k))

-- ---- methods

abbrev Taken : Code → Method → Type 0
Taken code m = AreTaken code m.gives m.slots m.body

method_of : (code : Code) (m : Method) → IsTypedMethod code m → Taken code m → IsMethodOf (simple_code code) (simple_method m)
method_of code m k h = record {
  words = trees_of code m.gives m.slots h;
  ends = ends_of code m.gives m.slots m.body k.stops h;
  room = let e : length (map simple_type m.slots) ≡ suc (length k.behind) = length-map m.slots simple_type ∙ ap length k.slots in subst (λ (n : ℕ). m.params + 1 ≤ n) (sym e) (omega (arith, k.params));
}

-- of each by its number
each : {A B : Type 0} (P : B → Type 0) (f : A → B) (xs : List A) → ((place : ℕ) (x : A) → slice_get xs place ≡ Some x → P (f x)) → AllByRecursion P (map f xs)
each P f [] h = tt
each P f (x ∷ xs) h = (h 0 x refl, each P f xs (λ place y e. h (suc place) y e))

small_slots : (code : Code) → IsSmall code → (place : ℕ) (m : Method) → slice_get code.methods place ≡ Some m → HasFewSlots (simple_method m)
small_slots code small place m e = subst (λ (n : ℕ). n ≤ 2 ^ 16) (sym (length-map m.slots simple_type)) (small.slots (suc place) m e)

formed : (code : Code) → IsTyped code → IsSmall code → later code ≡ None → IsWellFormed (simple_code code)
formed code k small h = record {
  no_sites = refl;
  small_main = subst (λ (n : ℕ). n < max_counted) (sym (main_length code)) small.main;
  methods = each (IsMethodOf (simple_code code)) simple_method code.methods (λ place m e. method_of code m (k.methods (suc place) m e) (taken_method code k h (suc place) m e));
  few_slots = each HasFewSlots simple_method code.methods (small_slots code small);
  replies = each RepliesAsDeclared simple_method code.methods (λ place m e. replies_of code m.gives m.slots (taken_method code k h (suc place) m e));
}

pub is_well_formed : StraightIsWellFormed
is_well_formed code simple' k small h = let s = is_straight code simple' h in subst IsWellFormed (sym s.is) (formed code k small s.none_later)
