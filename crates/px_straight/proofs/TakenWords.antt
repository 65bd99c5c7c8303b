-- The words that are taken, with what typed code says of their slots and fields.
use Rattle.std.proofs.Common.{◌≡◌, ℕ, ◌==◌, Bool, true, false, ◌&&◌, List, [], ◌∷◌, map, Option, Some, None, is_some, slice_get, if◌then◌else◌, refl, sym, ap, ◌∙◌}
use Rattle.std.proofs.lemmas.Bool.{eqb-true}
use Rattle.px_value.specs.declared.op.Op.{Op}
use Rattle.px_value.specs.declared.value.Value.{Value}
use Rattle.px_normal.specs.declared.ty.Ty.{Ty}
use Rattle.px_normal.specs.declared.word.Operand.{Operand}
use Rattle.px_normal.specs.declared.word.Operand.TheVariants.{Slot, Literal}
use Rattle.px_normal.specs.declared.word.Word.{Word}
use Rattle.px_normal.specs.declared.word.Word.TheVariants as w
use Rattle.px_normal.specs.declared.method.Tree.{Tree}
use Rattle.px_normal.specs.declared.method.Tree.TheVariants.{Do}
use Rattle.px_normal.specs.declared.class.Field.{Field}
use Rattle.px_normal.specs.declared.code.Code.{Code}
use Rattle.px_normal.specs.First.{fields_of}
use Rattle.px_normal.specs.Typed as typed
use Rattle.px_normal.specs.Typed.{type_of, HasSlot, HasTy, HasTyOr, IsTypedWord, IsTypedTree, AreTypedTrees}
use Rattle.px_straight.specs.Taken.{is_plain, is_taken_operand, is_taken_option, is_taken, later_in, later_among}
use Rattle.px_straight.proofs.Forms.{later_do, later_if, later_loop}
use Rattle.px_straight.proofs.Whole.{none_first}

-- ---- operands

pub data TakenOperand (slots : List Ty) : Operand → Type 0 where
  slot : (n : ℕ) (t : Ty) → HasSlot slots n t → TakenOperand slots (Slot n)
  literal : (v : Value) → is_plain v ≡ true → TakenOperand slots (Literal v)

pub data TakenOption (slots : List Ty) : Option Operand → Type 0 where
  absent : TakenOption slots None
  present : (a : Operand) → TakenOperand slots a → TakenOption slots (Some a)

taken_operand : (slots : List Ty) (a : Operand) (t : Ty) → is_taken_operand a ≡ true → HasTy slots a t → TakenOperand slots a
taken_operand slots (Slot n) t h k = slot n t k
taken_operand slots (Literal v) t h k = literal v h

taken_or : (slots : List Ty) (a : Option Operand) (u t : Ty) → is_taken_option a ≡ true → HasTyOr slots u a t → TakenOption slots a
taken_or slots None u t h k = absent
taken_or slots (Some a) u t h k = present a (taken_operand slots a t h k)

-- ---- words

pub record IsFieldAt (code : Code) (class place : ℕ) : Type 0 where
  pub main : class ≡ code.main
  pub field : Field
  pub there : slice_get (fields_of code class) place ≡ Some field

pub data TakenWord (code : Code) (gives : Option Ty) (slots : List Ty) : Word → Type 0 where
  sets : (to : ℕ) (a : Operand) (t : Ty) → HasSlot slots to t → TakenOperand slots a → TakenWord code gives slots (w.Set to a)
  computes : (o : Op) (to : ℕ) (a : Operand) (b : Option Operand) (t : Ty) → HasSlot slots to t → TakenOperand slots a → TakenOption slots b → TakenWord code gives slots (w.Op o to a b)
  gets : (to : ℕ) (of : Operand) (class field : ℕ) (t : Ty) → HasSlot slots to t → TakenOperand slots of → IsFieldAt code class field → TakenWord code gives slots (w.Get to of class field)
  puts : (of : Operand) (class field : ℕ) (a : Operand) → TakenOperand slots of → TakenOperand slots a → IsFieldAt code class field → TakenWord code gives slots (w.Put of class field a)
  returns : (a : Option Operand) → TakenOption slots a → is_some a ≡ is_some gives → TakenWord code gives slots (w.Return a)

both : (a b : Bool) → (a && b) ≡ true → (a ≡ true) × (b ≡ true)
both true b h = (refl, h)
both false b h = cc

field_there : (o : Option Field) (t : Ty) → type_of o ≡ Some t → (f : Field) × (o ≡ Some f)
field_there None t h = cc
field_there (Some f) t h = (f, refl)

field_at : (code : Code) (class place : ℕ) (t : Ty) → (class == code.main) ≡ true → type_of (slice_get (fields_of code class) place) ≡ Some t → IsFieldAt code class place
field_at code class place t h k = let f = field_there _ t k in record { main = eqb-true _ _ h; field = f.0; there = f.1 }

pub taken_word : (code : Code) (gives : Option Ty) (slots : List Ty) (word : Word) → is_taken code.main word ≡ true → IsTypedWord code gives slots word → TakenWord code gives slots word
taken_word code gives slots (w.Set to a) h (t, ha, ht) = sets to a t ht (taken_operand slots a t h ha)
taken_word code gives slots (w.Op o to a b) h (t, u, r, ha, hb, ho, hr) = let k = both _ _ h in computes o to a b r hr (taken_operand slots a t k.0 ha) (taken_or slots b t u k.1 hb)
taken_word code gives slots (w.Get to of class field) h (t, ho, hf, ht) = let k = both _ _ h in gets to of class field t ht (taken_operand slots of _ k.0 ho) (field_at code class field t k.1 hf)
taken_word code gives slots (w.Put of class field a) h (t, ho, hf, ha) = let k = both _ _ h in let l = both _ _ k.0 in puts of class field a (taken_operand slots of _ l.0 ho) (taken_operand slots a t l.1 ha) (field_at code class field t k.1 hf)
taken_word code gives slots (w.Load to of index) h k = cc
taken_word code gives slots (w.Store of index a) h k = cc
taken_word code gives slots (w.Len to of) h k = cc
taken_word code gives slots (w.New to class site) h k = cc
taken_word code gives slots (w.Array to element size site) h k = cc
taken_word code gives slots (w.Call to of method args) h k = cc
taken_word code gives slots (w.Query to number site params) h k = cc
taken_word code gives slots (w.Update to number params) h k = cc
taken_word code gives slots (w.Next to of) h k = cc
taken_word code gives slots (w.Long to of column) h k = cc
taken_word code gives slots (w.Text to of column) h k = cc
taken_word code gives slots (w.Print a) h k = cc
taken_word code gives slots (w.Return None) h k = returns None absent (ap is_some (sym k))
taken_word code gives slots (w.Return (Some a)) h (t, hg, ha) = returns (Some a) (present a (taken_operand slots a t h ha)) (ap is_some (sym hg))

-- ---- statements

pub data AreTaken (code : Code) (gives : Option Ty) (slots : List Ty) : List Tree → Type 0 where
  nothing : AreTaken code gives slots []
  one : {t : Tree} {ts : List Tree} (node : ℕ) (word : Word) → t ≡ Do node word → TakenWord code gives slots word → AreTaken code gives slots ts → AreTaken code gives slots (t ∷ ts)

taken_so : (b : Bool) (line : ℕ) → (if b then None else Some line) ≡ None → b ≡ true
taken_so true line h = refl
taken_so false line h = cc

some_none : (line : ℕ) → Some line ≡ None → ⊥
some_none line h = cc

module _ (code : Code) (gives : Option Ty) (slots : List Ty) where
  taken_next : (t : Tree) (ts : List Tree) → IsTypedTree code gives slots t → later_in code t ≡ None → AreTaken code gives slots ts → AreTaken code gives slots (t ∷ ts)
  taken_next t ts (typed.does node word e n k) h rest = one node word e (taken_word code gives slots word (taken_so _ _ (sym (later_do code t node word e) ∙ h)) k) rest
  taken_next t ts (typed.branches node test ys ns e n k ky kn) h rest = absurd (some_none _ (sym (later_if code t node test ys ns e) ∙ h))
  taken_next t ts (typed.loops first node test body e n k kf kb) h rest = absurd (some_none _ (sym (later_loop code t first node test body e) ∙ h))

  pub are_taken : (trees : List Tree) → AreTypedTrees code gives slots trees → later_among code trees ≡ None → AreTaken code gives slots trees
  are_taken [] typed.none h = nothing
  are_taken (t ∷ ts) (typed.more k rest) h = let p = none_first (later_in code t) (map (later_in code) ts) h in taken_next t ts k p.one (are_taken ts rest p.rest)
