-- No read is stale: what a side keeps it has the last write of.
use Rattle.std.proofs.Common.{◌≡◌, ℕ, zero, suc, Bool, true, false, cond, not, ◌&&◌, ◌||◌, List, [], ◌∷◌, ◌++◌, length, is_some, refl, ap, ◌∙◌}
use Rattle.std.specs.List.{AllByRecursion}
use Rattle.px_value.specs.declared.value.Value.{Value}
use Rattle.px_value.specs.declared.object.Object.{Object}
use Rattle.px_value.specs.Heap.{cell_at, written}
use Rattle.px_blocks.specs.declared.side.Side.{Side}
use Rattle.px_blocks.specs.declared.side.Side.TheVariants.{App, Db}
use Rattle.px_blocks.specs.Sides.{other, same_side, same, same_cell}
use Rattle.px_effects.specs.Act.{Place as Cell, Act, Comes, Prints, Reads, Writes, Looks, Makes, header_at, value_at, new_object, has_no_room, with_place_if, Acted, unless_full, acted}
use Rattle.px_normal.specs.Run.{Ran}
use Rattle.px_blocks.specs.Plan.{Plan, firsts_of, kept}
use Rattle.px_blocks.specs.Machine.{marked}
use Rattle.px_ends.specs.Runs.{IsKept}
use Rattle.px_ends.specs.Stale.{Event, Read, Wrote, Brought, is_cell, has_cell, is_quiet, IsStale, NoneStale, with_reads, with_writes, with_ran, is_stale}
use Rattle.px_ends.proofs.Places.{same_cell_true, cell_written, is_some_put}
use Rattle.px_ends.proofs.Acts.{kept_before}

-- ---- the test is what the words say

same_itself : (side : Side) → same_side side side ≡ true
same_itself App = refl
same_itself Db = refl

other_differs : (side : Side) → same_side (other side) side ≡ false
other_differs App = refl
other_differs Db = refl

pub same_refl : (m : ℕ) → same m m ≡ true
same_refl zero = refl
same_refl (suc m) = same_refl m

pub same_cell_refl : (o i : ℕ) → same_cell o i o i ≡ true
same_cell_refl o i = λ k. same_refl o k && same_refl i k

quiet_parts : (a b : Bool) → (not a && b) ≡ true → (a ≡ false) × (b ≡ true)
quiet_parts true b e = cc
quiet_parts false b e = (refl, e)

stale_through : (later earlier : List Event) (side : Side) (c : Cell) → is_quiet later side c ≡ true → is_stale (later ++ Wrote (other side) c ∷ earlier) side c.object c.index ≡ true
stale_through [] earlier side c q = λ k. cond (same_cell_refl c.object c.index k) (not (other_differs side k)) (is_stale earlier side c.object c.index)
stale_through (Read at d ∷ later) earlier side c q = stale_through later earlier side c q
stale_through (Wrote at d ∷ later) earlier side c q = let p = quiet_parts (is_cell d c) (is_quiet later side c) q in ap (λ b. cond b (not (same_side at side)) (is_stale (later ++ Wrote (other side) c ∷ earlier) side c.object c.index)) p.0 ∙ stale_through later earlier side c p.1
stale_through (Brought at cells ∷ later) earlier side c q = let p = quiet_parts (same_side at side && has_cell cells c) (is_quiet later side c) q in ap (λ b. cond b false (is_stale (later ++ Wrote (other side) c ∷ earlier) side c.object c.index)) p.0 ∙ stale_through later earlier side c p.1

pub not_stale : (events : List Event) (side : Side) (c : Cell) → is_stale events side c.object c.index ≡ false → IsStale events side c → ⊥
not_stale events side c e s = apart (is_stale events side c.object c.index) (ap (λ (z : List Event). is_stale z side c.object c.index) s.split ∙ stale_through s.later s.earlier side c s.silent) e
  where
    apart : (b : Bool) → b ≡ true → b ≡ false → ⊥
    apart b e f = cc

-- ---- reads and writes of a statement

pub stale_reads : (side : Side) (cells : List Cell) (events : List Event) (at : Side) (o i : ℕ) → is_stale (with_reads side cells events) at o i ≡ is_stale events at o i
stale_reads side [] events at o i = refl
stale_reads side (c ∷ cells) events at o i = stale_reads side cells (Read side c ∷ events) at o i

-- a side's own writes leave nothing stale there
pub own_writes : (side : Side) (cells : List Cell) (events : List Event) (o i : ℕ) → is_stale events side o i ≡ false → is_stale (with_writes side cells events) side o i ≡ false
own_writes side [] events o i e = e
own_writes side (c ∷ cells) events o i e = own_writes side cells (Wrote side c ∷ events) o i (pick (same_cell c.object c.index o i) e)
  where
    pick : (b : Bool) → is_stale events side o i ≡ false → cond b (not (same_side side side)) (is_stale events side o i) ≡ false
    pick true e = ap not (same_itself side)
    pick false e = e

-- what isn't written stays as it was
pub other_writes : (side at : Side) (cells : List Cell) (events : List Event) (o i : ℕ) → marked cells o i ≡ false → is_stale (with_writes side cells events) at o i ≡ is_stale events at o i
other_writes side at [] events o i e = refl
other_writes side at (c ∷ cells) events o i e = let p = or_false (same_cell c.object c.index o i) (marked cells o i) e in other_writes side at cells (Wrote side c ∷ events) o i p.1 ∙ ap (λ b. cond b (not (same_side side at)) (is_stale events at o i)) p.0
  where
    or_false : (a b : Bool) → (a || b) ≡ false → (a ≡ false) × (b ≡ false)
    or_false true b h = cc
    or_false false b h = (refl, h)

pub none_writes : (side : Side) (cells : List Cell) (events : List Event) → NoneStale events → NoneStale (with_writes side cells events)
none_writes side [] events e = e
none_writes side (c ∷ cells) events e = none_writes side cells (Wrote side c ∷ events) e

pub none_reads : (side : Side) (cells : List Cell) (events : List Event) → AllByRecursion (λ (c : Cell). is_stale events side c.object c.index ≡ false) cells → NoneStale events → NoneStale (with_reads side cells events)
none_reads side [] events f e = e
none_reads side (c ∷ cells) events f e = none_reads side cells (Read side c ∷ events) f.1 (not_stale events side c f.0, e)

pub with_ran_join : (side : Side) (a b : List Ran) (events : List Event) → with_ran side (a ++ b) events ≡ with_ran side b (with_ran side a events)
with_ran_join side [] b events = refl
with_ran_join side (r ∷ a) b events = with_ran_join side a b (with_writes side r.writes (with_reads side r.reads events))

-- ---- what an act wrote is there

old_cell : (heap : List Object) (x : Object) (o i : ℕ) → is_some (cell_at heap o i) ≡ true → is_some (cell_at (heap ++ x ∷ []) o i) ≡ true
old_cell [] x o i e = cc
old_cell (y ∷ ys) x zero i e = e
old_cell (y ∷ ys) x (suc o) i e = old_cell ys x o i e

cell_stays : (heap : List Object) (o i : ℕ) (v : Value) (p j : ℕ) → is_some (cell_at heap p j) ≡ true → is_some (cell_at (written heap o i v) p j) ≡ true
cell_stays heap o i v p j e = ap is_some (cell_written heap o i v p j) ∙ is_some_put (same_cell o i p j) v (cell_at heap p j) ∙ e

made_cells : (b : Bool) (after : Acted) (heap : List Object) (o i : ℕ) → is_some (cell_at after.heap o i) ≡ true → is_some (cell_at heap o i) ≡ true → is_some (cell_at (unless_full b after heap).heap o i) ≡ true
made_cells false after heap o i e f = e
made_cells true after heap o i e f = f

pub cells_stay : (plan : Plan) (a : Act) (heap : List Object) (o i : ℕ) → is_some (cell_at heap o i) ≡ true → is_some (cell_at (acted (firsts_of plan.code) a heap).heap o i) ≡ true
cells_stay plan (Comes e) heap o i s = s
cells_stay plan (Prints line) heap o i s = s
cells_stay plan (Reads p j k) heap o i s = cells_stay plan (k (value_at heap p j)) heap o i s
cells_stay plan (Writes p j v k) heap o i s = cells_stay plan k (written heap p j v) o i (cell_stays heap p j v o i s)
cells_stay plan (Looks p k) heap o i s = cells_stay plan (k (header_at heap p)) heap o i s
cells_stay plan (Makes h k) heap o i s = made_cells (has_no_room h.kind h.length heap) (acted (firsts_of plan.code) (k (length heap)) (heap ++ new_object (firsts_of plan.code) h ∷ [])) heap o i (cells_stay plan (k (length heap)) (heap ++ new_object (firsts_of plan.code) h ∷ []) o i (old_cell heap (new_object (firsts_of plan.code) h) o i s)) s

pub writes_there : (plan : Plan) (a : Act) (heap : List Object) (o i : ℕ) → marked (acted (firsts_of plan.code) a heap).writes o i ≡ true → is_some (cell_at (acted (firsts_of plan.code) a heap).heap o i) ≡ true
writes_there plan (Comes e) heap o i m = cc
writes_there plan (Prints line) heap o i m = cc
writes_there plan (Reads p j k) heap o i m = writes_there plan (k (value_at heap p j)) heap o i m
writes_there plan (Writes p j v k) heap o i m = wrote (is_some (cell_at heap p j)) refl m (writes_there plan k (written heap p j v) o i)
  where
    after : Acted
    after = acted (firsts_of plan.code) k (written heap p j v)

    at_p : is_some (cell_at heap p j) ≡ true → is_some (cell_at after.heap p j) ≡ true
    at_p e = cells_stay plan k (written heap p j v) p j (cell_stays heap p j v p j e)

    pick : (s : Bool) → same_cell p j o i ≡ s → is_some (cell_at heap p j) ≡ true → (s || marked after.writes o i) ≡ true → (marked after.writes o i ≡ true → is_some (cell_at after.heap o i) ≡ true) → is_some (cell_at after.heap o i) ≡ true
    pick true q e m f = let r = same_cell_true p j o i q in (λ z. is_some (cell_at after.heap (r.0 z) (r.1 z))) ∙ at_p e
    pick false q e m f = f m

    wrote : (t : Bool) → is_some (cell_at heap p j) ≡ t → marked (with_place_if t (record { object = p; index = j }) after.writes) o i ≡ true → (marked after.writes o i ≡ true → is_some (cell_at after.heap o i) ≡ true) → is_some (cell_at after.heap o i) ≡ true
    wrote true e m f = pick (same_cell p j o i) refl e m f
    wrote false e m f = f m
writes_there plan (Looks p k) heap o i m = writes_there plan (k (header_at heap p)) heap o i m
writes_there plan (Makes h k) heap o i m = made (has_no_room h.kind h.length heap) (acted (firsts_of plan.code) (k (length heap)) (heap ++ new_object (firsts_of plan.code) h ∷ [])) m (writes_there plan (k (length heap)) (heap ++ new_object (firsts_of plan.code) h ∷ []) o i)
  where
    made : (t : Bool) (after : Acted) → marked (unless_full t after heap).writes o i ≡ true → (marked after.writes o i ≡ true → is_some (cell_at after.heap o i) ≡ true) → is_some (cell_at (unless_full t after heap).heap o i) ≡ true
    made false after m f = f m
    made true after m f = cc

-- what is kept at the end was kept at the begin, so no read was stale
pub reads_fresh : (plan : Plan) (side : Side) (a : Act) (heap : List Object) (events : List Event) → ((o i : ℕ) → kept plan side (header_at heap o) i ≡ true → is_stale events side o i ≡ false) → (cells : List Cell) → AllByRecursion (IsKept plan side (acted (firsts_of plan.code) a heap).heap) cells → AllByRecursion (λ (c : Cell). is_stale events side c.object c.index ≡ false) cells
reads_fresh plan side a heap events here [] k = tt
reads_fresh plan side a heap events here (c ∷ cells) k = (here c.object c.index (kept_before plan side a heap c.object c.index k.0), reads_fresh plan side a heap events here cells k.1)
