-- An act at near does what it does on the one heap: one lemma a constructor.
use Rattle.std.proofs.Common.{◌≡◌, ℕ, ◌+◌, nat_lt, Bool, true, false, ◌||◌, List, [], ◌∷◌, ◌++◌, length, Option, Some, None, is_some, unwrap_or, cond, Err, refl, sym, ap, ◌∙◌, subst, append_assoc}
use Rattle.std.specs.List.{AllByRecursion}
use Rattle.std.proofs.lemmas.List.{append-nil}
use Rattle.px_value.specs.declared.value.Value.{Value}
use Rattle.px_value.specs.declared.value.Value.TheVariants.{Null}
use Rattle.px_value.specs.declared.thrown.Thrown.TheVariants.{HeapFull}
use Rattle.px_value.specs.declared.header.Header.{Header}
use Rattle.px_value.specs.declared.object.Object.{Object}
use Rattle.px_value.specs.Heap.{cell_at, written, cells_counted, heap_counted, max_counted}
use Rattle.std.proofs.lemmas.List.Sums.{sum_by-cons}
use Rattle.px_blocks.specs.declared.side.Side.{Side}
use Rattle.px_blocks.specs.Plan.{Plan, firsts_of, kept}
use Rattle.px_effects.specs.Act.{Place as Cell}
use Rattle.px_blocks.specs.Sides.{same}
use Rattle.px_effects.specs.Act.{header_of, is_long, Act, Comes, Prints, Printed, Reads, Writes, Looks, Makes, header_at, value_at, new_object, has_no_room, with_place_if, Ends, Came, Acted, quiet, also_read, also_wrote, unless_full, acted}
use Rattle.px_ends.specs.Agree.{headers}
use Rattle.px_ends.specs.Agree.{Heaps}
use Rattle.px_ends.specs.Runs.{IsKept}
use Rattle.px_ends.proofs.Places.{same_headers, header_made, header_past, same_length}
use Rattle.px_ends.proofs.HeapSteps.{header_stays, mark_of, write_heaps, make_heaps}

-- ---- an object that is there keeps its header

old_header : (heap : List Object) (x : Object) (o : ℕ) → is_some (header_at heap o) ≡ true → header_at (heap ++ x ∷ []) o ≡ header_at heap o
old_header heap x o e = header_made heap x o ∙ pick (same o (length heap)) (header_past heap o)
  where
    pick : (t : Bool) → (t ≡ true → header_at heap o ≡ None) → cond t (Some (header_of x)) (header_at heap o) ≡ header_at heap o
    pick true p = let q = ap is_some (p refl) in cc
    pick false p = refl

made_stays : (b : Bool) (after : Acted) (heap : List Object) (o : ℕ) → header_at after.heap o ≡ header_at heap o → header_at (unless_full b after heap).heap o ≡ header_at heap o
made_stays false after heap o e = e
made_stays true after heap o e = refl

pub stays : (plan : Plan) (a : Act) (heap : List Object) (o : ℕ) → is_some (header_at heap o) ≡ true → header_at (acted (firsts_of plan.code) a heap).heap o ≡ header_at heap o
stays plan (Comes e) heap o s = refl
stays plan (Prints line) heap o s = refl
stays plan (Reads p i k) heap o s = stays plan (k (value_at heap p i)) heap o s
stays plan (Writes p i v k) heap o s = let e = header_stays heap p i v o in stays plan k (written heap p i v) o (ap is_some e ∙ s) ∙ e
stays plan (Looks p k) heap o s = stays plan (k (header_at heap p)) heap o s
stays plan (Makes h k) heap o s =
    let e = old_header heap (new_object (firsts_of plan.code) h) o s in
    made_stays (has_no_room h.kind h.length heap) (acted (firsts_of plan.code) (k (length heap)) (heap ++ new_object (firsts_of plan.code) h ∷ [])) heap o (stays plan (k (length heap)) (heap ++ new_object (firsts_of plan.code) h ∷ []) o (ap is_some e ∙ s) ∙ e)

-- what is kept on the heap that an act leaves was kept on the heap before
pub kept_before : (plan : Plan) (side : Side) (a : Act) (heap : List Object) (o i : ℕ) → kept plan side (header_at (acted (firsts_of plan.code) a heap).heap o) i ≡ true → kept plan side (header_at heap o) i ≡ true
kept_before plan side a heap o i e = pick (header_at heap o) refl
  where
    pick : (h : Option Header) → header_at heap o ≡ h → kept plan side h i ≡ true
    pick None q = refl
    pick (Some h) q = ap (λ z. kept plan side z i) (sym (stays plan a heap o (ap is_some q) ∙ q)) ∙ e

-- ---- room

head_of : (x y : Header) (xs ys : List Header) → x ∷ xs ≡ y ∷ ys → x ≡ y
head_of x y xs ys e = cc

tail_of : (x y : Header) (xs ys : List Header) → x ∷ xs ≡ y ∷ ys → xs ≡ ys
tail_of x y xs ys e = cc

pub same_counted : (a b : List Object) → headers a ≡ headers b → heap_counted a ≡ heap_counted b
same_counted [] [] e = refl
same_counted [] (y ∷ ys) e = cc
same_counted (x ∷ xs) [] e = cc
same_counted (x ∷ xs) (y ∷ ys) e =
    let h = ap (λ (z : Header). 1 + z.length) (head_of (header_of x) (header_of y) (headers xs) (headers ys) e) in
    let t = same_counted xs ys (tail_of (header_of x) (header_of y) (headers xs) (headers ys) e) in
    sum_by-cons cells_counted x xs ∙ (λ k. h k + t k) ∙ sym (sum_by-cons cells_counted y ys)

same_room : (h : Header) (a b : List Object) → headers a ≡ headers b → has_no_room h.kind h.length a ≡ has_no_room h.kind h.length b
same_room h a b e = ap (λ n. nat_lt max_counted (n + (1 + h.length)) || is_long h.kind h.length) (same_counted a b e)

-- ---- alike

pub record ActedAlike (plan : Plan) (side : Side) (known : ℕ) (marks : List Cell) (far : List Object) (a b : Acted) : Type 0 where
  pub ends : a.ends ≡ b.ends
  pub reads : a.reads ≡ b.reads
  pub writes : a.writes ≡ b.writes
  pub heaps : Heaps plan side known (marks ++ b.writes) a.heap far b.heap

-- a cell that is kept has at near the value of the one heap
pub reads_current : (plan : Plan) (side : Side) (known : ℕ) (marks : List Cell) (near far one : List Object) (o i : ℕ) → Heaps plan side known marks near far one → kept plan side (header_at one o) i ≡ true → value_at near o i ≡ value_at one o i
reads_current plan side known marks near far one o i h k = ap (λ (z : Option Value). unwrap_or z Null) ((h.holds o i).near_kept k)

module _ (plan : Plan) (side : Side) (known : ℕ) (far : List Object) where
  quiet_alike : (marks : List Cell) (near one : List Object) (e : Ends) → Heaps plan side known marks near far one → ActedAlike plan side known marks far (quiet e near) (quiet e one)
  quiet_alike marks near one e h = record { ends = refl; reads = refl; writes = refl; heaps = subst (λ (ms : List Cell). Heaps plan side known ms near far one) (sym (append-nil marks)) h }

  read_alike : (marks : List Cell) (c : Cell) (a b : Acted) → ActedAlike plan side known marks far a b → ActedAlike plan side known marks far (also_read c a) (also_read c b)
  read_alike marks c a b h = record { ends = h.ends; reads = ap (λ (cs : List Cell). c ∷ cs) h.reads; writes = h.writes; heaps = h.heaps }

  wrote_alike : (marks : List Cell) (o i : ℕ) (t u : Bool) (a b : Acted) → t ≡ u → ActedAlike plan side known (marks ++ mark_of u o i) far a b → ActedAlike plan side known marks far (also_wrote t (record { object = o; index = i }) a) (also_wrote u (record { object = o; index = i }) b)
  wrote_alike marks o i t u a b e h = record {
    ends = h.ends;
    reads = h.reads;
    writes = λ k. with_place_if (e k) (record { object = o; index = i }) (h.writes k);
    heaps = subst (λ (ms : List Cell). Heaps plan side known ms a.heap far b.heap) (append_assoc marks (mark_of u o i) b.writes ∙ ap (λ (cs : List Cell). marks ++ cs) (joined u)) h.heaps;
  }
    where
      joined : (u : Bool) → mark_of u o i ++ b.writes ≡ with_place_if u (record { object = o; index = i }) b.writes
      joined true = refl
      joined false = refl

  made_alike : (marks : List Cell) (near one : List Object) (t : Bool) (a b : Acted) → Heaps plan side known marks near far one → (AllByRecursion (IsKept plan side b.heap) b.reads → ActedAlike plan side known marks far a b)
      → AllByRecursion (IsKept plan side (unless_full t b one).heap) (unless_full t b one).reads → ActedAlike plan side known marks far (unless_full t a near) (unless_full t b one)
  made_alike marks near one false a b h rest g = rest g
  made_alike marks near one true a b h rest g = quiet_alike marks near one (Came (Err HeapFull)) h

  abbrev ActsAlike : Act → Type 0
  ActsAlike a = (marks : List Cell) (near one : List Object) → Heaps plan side known marks near far one → AllByRecursion (IsKept plan side (acted (firsts_of plan.code) a one).heap) (acted (firsts_of plan.code) a one).reads → ActedAlike plan side known marks far (acted (firsts_of plan.code) a near) (acted (firsts_of plan.code) a one)

  pub acts_alike : (a : Act) → ActsAlike a
  acts_alike (Comes e) marks near one h g = quiet_alike marks near one (Came e) h
  acts_alike (Prints line) marks near one h g = quiet_alike marks near one (Printed line) h
  acts_alike (Reads o i k) marks near one h g =
      let v : Value = value_at one o i in
      let e = reads_current plan side known marks near far one o i h (kept_before plan side (k v) one o i g.0) in
      let c : Cell = record { object = o; index = i } in
      subst (λ w. ActedAlike plan side known marks far (also_read c (acted (firsts_of plan.code) (k w) near)) (also_read c (acted (firsts_of plan.code) (k v) one))) (sym e)
      (read_alike marks c (acted (firsts_of plan.code) (k v) near) (acted (firsts_of plan.code) (k v) one) (acts_alike (k v) marks near one h g.1))
  acts_alike (Writes o i v k) marks near one h g =
      wrote_alike marks o i (is_some (cell_at near o i)) (is_some (cell_at one o i)) (acted (firsts_of plan.code) k (written near o i v)) (acted (firsts_of plan.code) k (written one o i v)) ((h.holds o i).near_there)
      (acts_alike k (marks ++ mark_of (is_some (cell_at one o i)) o i) (written near o i v) (written one o i v) (write_heaps plan side known marks near far one o i v h) g)
  acts_alike (Looks o k) marks near one h g =
      let e : header_at near o ≡ header_at one o = same_headers near one o h.near_headers in
      subst (λ z. ActedAlike plan side known marks far (acted (firsts_of plan.code) (k z) near) (acted (firsts_of plan.code) (k (header_at one o)) one)) (sym e) (acts_alike (k (header_at one o)) marks near one h g)
  acts_alike (Makes s k) marks near one h g =
      let near_with : List Object = near ++ new_object (firsts_of plan.code) s ∷ [] in
      let one_with : List Object = one ++ new_object (firsts_of plan.code) s ∷ [] in
      let b : Acted = acted (firsts_of plan.code) (k (length one)) one_with in
      let rest : AllByRecursion (IsKept plan side b.heap) b.reads → ActedAlike plan side known marks far (acted (firsts_of plan.code) (k (length one)) near_with) b = acts_alike (k (length one)) marks near_with one_with (make_heaps plan side known marks near far one s h) in
      subst (λ n. ActedAlike plan side known marks far (unless_full (has_no_room s.kind s.length near) (acted (firsts_of plan.code) (k n) near_with) near) (unless_full (has_no_room s.kind s.length one) b one)) (sym (same_length near one h.near_headers))
      (subst (λ (full : Bool). ActedAlike plan side known marks far (unless_full full (acted (firsts_of plan.code) (k (length one)) near_with) near) (unless_full (has_no_room s.kind s.length one) b one)) (sym (same_room s near one h.near_headers))
      (made_alike marks near one (has_no_room s.kind s.length one) (acted (firsts_of plan.code) (k (length one)) near_with) b h rest g))
