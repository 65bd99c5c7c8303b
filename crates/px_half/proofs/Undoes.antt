-- Taking back what was changed.
use Rattle.std.proofs.Common.{◌≡◌, ℕ, zero, suc, ◌-◌, List, [], ◌∷◌, ◌++◌, length, take, Some, refl, sym, ap, ◌∙◌, arith}
use Rattle.std.proofs.lemmas.List.{length-append}
use Rattle.px_value.specs.declared.value.Value.{Value}
use Rattle.px_value.specs.declared.object.Object.{Object}
use Rattle.px_value.specs.Heap.{written, cell_at}
use Rattle.px_value.proofs.Cells.{written-written}
use Rattle.px_half.specs.declared.undo.Change.{Change}
use Rattle.px_half.specs.declared.undo.Change.TheVariants.{Wrote, Made}
use Rattle.px_half.specs.Undo.{undone, undo_one}

pub undone-push : (cs : List Change) (c : Change) (heap : List Object) → undone (cs ++ c ∷ []) heap ≡ undone cs (undo_one c heap)
undone-push [] c heap = refl
undone-push (d ∷ cs) c heap = ap (undo_one d) (undone-push cs c heap)

pub undone-write : (cs now : List Change) (heap new : List Object) (object index : ℕ) (v old : Value) → cell_at heap object index ≡ Some old → new ≡ written heap object index v → now ≡ cs ++ Wrote object index old ∷ [] → undone now new ≡ undone cs heap
undone-write cs now heap new object index v old h e u =
    ap (λ (xs : List Change). undone xs new) u ∙ undone-push cs (Wrote object index old) new
    ∙ ap (undone cs) (ap (λ (g : List Object). written g object index old) e ∙ written-written heap object index v old h)

pub undone-pop : (all cs : List Change) (heap new : List Object) (c : Change) → all ≡ cs ++ c ∷ [] → new ≡ undo_one c heap → undone cs new ≡ undone all heap
undone-pop all cs heap new c e h = ap (undone cs) h ∙ sym (ap (λ (xs : List Change). undone xs heap) e ∙ undone-push cs c heap)

take_all : (xs : List Object) (x : Object) → take (length xs) (xs ++ x ∷ []) ≡ xs
take_all [] x = refl
take_all (y ∷ xs) x = ap (λ (zs : List Object). y ∷ zs) (take_all xs x)

pub undone-make : (cs now : List Change) (heap new : List Object) (x : Object) → new ≡ heap ++ x ∷ [] → now ≡ cs ++ Made ∷ [] → undone now new ≡ undone cs heap
undone-make cs now heap new x e u =
    let n : length (heap ++ x ∷ []) - 1 ≡ length heap = omega (arith, length-append heap (x ∷ [])) in
    ap (λ (us : List Change). undone us new) u ∙ undone-push cs Made new ∙ ap (λ (h : List Object). undone cs (undo_one Made h)) e
    ∙ ap (undone cs) (ap (λ k. take k (heap ++ x ∷ [])) n ∙ take_all heap x)

-- what stood at the front stays there
pub front_stays : {A : Type 0} (n : ℕ) (xs ys zs : List A) → length ys ≡ n → take n xs ≡ ys → take n (xs ++ zs) ≡ ys
front_stays zero xs ys zs l e = e
front_stays (suc n) [] [] zs l e = absurd (omega (arith, l))
front_stays (suc n) [] (y ∷ ys) zs l e = cc
front_stays (suc n) (x ∷ xs) [] zs l e = absurd (omega (arith, l))
front_stays {A = A} (suc n) (x ∷ xs) (y ∷ ys) zs l e =
    let heads : x ≡ y = cc in
    let tails : take n xs ≡ ys = cc in
    ap (λ (a : A). a ∷ take n (xs ++ zs)) heads ∙ ap (λ (bs : List A). y ∷ bs) (front_stays n xs ys zs (omega (arith, l)) tails)
