-- What a word asks of the heap is the same, and comes to the same.
use Rattle.std.proofs.Common.{◌≡◌, ℕ, zero, suc, Bool, List, [], ◌∷◌, map, Option, Some, None, is_some, option_map, slice_get, slice_set, Ok, refl, sym, ap, ◌∙◌}
use Rattle.px_value.specs.declared.value.Value.{Value}
use Rattle.px_value.specs.declared.value.Value.TheVariants as v
use Rattle.px_value.specs.declared.object.Object.{Object}
use Rattle.px_value.specs.Heap.{cell_of, cell_at, with_cell, written}
use Rattle.px_value.specs.Operators.{apply}
use Rattle.px_effects.specs.Act as whole
use Rattle.px_effects.specs.Act.{Came, Firsts, with_place_if, also_read, also_wrote}
use Rattle.px_effects.specs.Cells.{get_field, put_field}
use Rattle.px_normal.specs.declared.ty.Ty.{Ty}
use Rattle.px_normal.specs.declared.word.Operand.{Operand}
use Rattle.px_normal.specs.declared.word.Word.{Word}
use Rattle.px_normal.specs.declared.code.Code.{Code}
use Rattle.px_normal.specs.Words.{acts, does_of, operand, operand_or}
use Rattle.px_code.specs.Act.{Act, Comes, Reads, Writes, Slots, Acted, act_of, acted, at_object, comes, value_at}
use Rattle.px_code.specs.Act as simple
use Rattle.px_straight.specs.Simple.{simple_operand, simple_word}
use Rattle.px_straight.specs.Laws.{place_of, told_writes}
use Rattle.px_straight.proofs.TakenWords.{TakenOption, absent, present, TakenWord, sets, computes, gets, puts, returns}
use Rattle.px_straight.proofs.Slots.{as_list, operand_same}

-- ---- what is asked

abbrev pub act_as : Act → whole.Act
act_as (Comes a) = whole.Comes a
act_as (Reads object index k) = whole.Reads object index (λ x. act_as (k x))
act_as (Writes object index x k) = whole.Writes object index x (act_as k)

get_same : (of : Value) (field : ℕ) → get_field of field ≡ act_as (at_object of (λ object. Reads object field comes))
get_same (v.Int n) field = refl
get_same (v.Long n) field = refl
get_same (v.Bool b) field = refl
get_same (v.Text t) field = refl
get_same v.Null field = refl
get_same (v.Ref object) field = refl

put_same : (of : Value) (field : ℕ) (a : Value) → put_field of field a ≡ act_as (at_object of (λ object. Writes object field a (comes v.Null)))
put_same (v.Int n) field a = refl
put_same (v.Long n) field a = refl
put_same (v.Bool b) field a = refl
put_same (v.Text t) field a = refl
put_same v.Null field a = refl
put_same (v.Ref object) field a = refl

or_same : (types : List Ty) (f : Slots) (left : Value) (b : Option Operand) → TakenOption types b → operand_or (as_list types f) left b ≡ simple.operand_or f left (option_map simple_operand b)
or_same types f left None absent = refl
or_same types f left (Some a) (present _ k) = operand_same types f a k

pub does_same : (code : Code) (gives : Option Ty) (types : List Ty) {word : Word} (f : Slots) → TakenWord code gives types word → does_of code word (as_list types f) ≡ acts (act_as (act_of (simple_word word) f))
does_same code gives types f (sets to a t ht ha) = ap (λ (x : Value). acts (whole.Comes (Ok x))) (operand_same types f a ha)
does_same code gives types f (computes o to a b t ht ha hb) =
    let e = operand_same types f a ha in
    ap (λ (x : Value). acts (whole.Comes (apply o (operand (as_list types f) a) x))) (or_same types f (operand (as_list types f) a) b hb)
    ∙ ap (λ (x : Value). acts (whole.Comes (apply o x (simple.operand_or f x (option_map simple_operand b))))) e
does_same code gives types f (gets to of class field t ht ho hf) = ap (λ (x : Value). acts (get_field x field)) (operand_same types f of ho) ∙ ap acts (get_same (simple.operand f (simple_operand of)) field)
does_same code gives types f (puts of class field a ho ha hf) =
    ap (λ (x : Value). acts (put_field x field (operand (as_list types f) a))) (operand_same types f of ho)
    ∙ ap (λ (x : Value). acts (put_field (simple.operand f (simple_operand of)) field x)) (operand_same types f a ha)
    ∙ ap acts (put_same (simple.operand f (simple_operand of)) field (simple.operand f (simple_operand a)))
does_same code gives types f (returns None absent h) = refl
does_same code gives types f (returns (Some a) (present _ ha) h) = ap (λ (x : Value). acts (whole.Comes (Ok x))) (operand_same types f a ha)

-- ---- which cells there are

-- both heaps have the same cells, whatever stands in them
pub record HaveSameCells (one other : List Object) : Type 0 where
  pub there : (object index : ℕ) → is_some (cell_at other object index) ≡ is_some (cell_at one object index)

some_set : {A : Type 0} (xs : List A) (i j : ℕ) (x : A) → is_some (slice_get (slice_set xs i x) j) ≡ is_some (slice_get xs j)
some_set [] i j x = refl
some_set (y ∷ xs) zero zero x = refl
some_set (y ∷ xs) zero (suc j) x = refl
some_set (y ∷ xs) (suc i) zero x = refl
some_set (y ∷ xs) (suc i) (suc j) x = some_set xs i j x

-- an object with as many cells
there_set : (heap : List Object) (at : ℕ) (old new : Object) → slice_get heap at ≡ Some old → ((index : ℕ) → is_some (slice_get new.cells index) ≡ is_some (slice_get old.cells index)) → (object index : ℕ) → is_some (cell_of (slice_get (slice_set heap at new) object) index) ≡ is_some (cell_of (slice_get heap object) index)
there_set [] at old new e h object index = refl
there_set (o ∷ heap) zero old new e h zero index = h index ∙ ap (λ (x : Option Object). is_some (cell_of x index)) (sym e)
there_set (o ∷ heap) zero old new e h (suc object) index = refl
there_set (o ∷ heap) (suc at) old new e h zero index = refl
there_set (o ∷ heap) (suc at) old new e h (suc object) index = there_set heap at old new e h object index

there_with : (found : Option Object) (heap : List Object) (at place : ℕ) (x : Value) → slice_get heap at ≡ found → (object index : ℕ) → is_some (cell_at (with_cell found place x heap at) object index) ≡ is_some (cell_at heap object index)
there_with None heap at place x e object index = refl
there_with (Some o) heap at place x e object index = there_set heap at o _ e (λ j. some_set o.cells place j x) object index

pub after_write : (one heap : List Object) (object index : ℕ) (x : Value) → HaveSameCells one heap → HaveSameCells one (written heap object index x)
after_write one heap object index x h = record { there = λ o i. there_with (slice_get heap object) heap object index x refl o i ∙ h.there o i }

pub after_act : (act : Act) (one heap : List Object) → HaveSameCells one heap → HaveSameCells one (acted act heap).heap
after_act (Comes a) one heap h = h
after_act (Reads object index k) one heap h = after_act (k (value_at heap object index)) one heap h
after_act (Writes object index x k) one heap h = after_act k one (written heap object index x) (after_write one heap object index x h)

-- ---- what it comes to

abbrev pub as_acted : List Object → Acted → whole.Acted
as_acted one a = record { ends = Came a.ends; heap = a.heap; reads = map place_of a.reads; writes = told_writes one a.writes }

pub acted_same : (firsts : Firsts) (act : Act) (one heap : List Object) → HaveSameCells one heap → whole.acted firsts (act_as act) heap ≡ as_acted one (acted act heap)
acted_same firsts (Comes a) one heap h = refl
acted_same firsts (Reads object index k) one heap h = ap (also_read (record { object = object; index = index })) (acted_same firsts (k (value_at heap object index)) one heap h)
acted_same firsts (Writes object index x k) one heap h =
    ap (λ (b : Bool). also_wrote b (record { object = object; index = index }) (whole.acted firsts (act_as k) (written heap object index x))) (h.there object index)
    ∙ ap (also_wrote (is_some (cell_at one object index)) (record { object = object; index = index })) (acted_same firsts k one (written heap object index x) (after_write one heap object index x h))
