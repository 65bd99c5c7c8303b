-- What a heap holds at a place after a write, an allocation, a message.
use Rattle.std.proofs.Common.{◌≡◌, ℕ, zero, suc, ◌+◌, ◌≤◌, Bool, true, false, cond, ◌&&◌, ◌||◌, List, [], ◌∷◌, ◌++◌, map, take, drop, length, Option, Some, None, is_some, slice_get, slice_set, refl, sym, ap, ◌∙◌, arith}
use Rattle.px_value.specs.declared.value.Value.{Value}
use Rattle.px_value.specs.declared.header.Header.{Header}
use Rattle.px_value.specs.declared.object.Object.{Object}
use Rattle.px_value.specs.Heap.{cell_at, written, with_cell}
use Rattle.px_blocks.specs.Plan.{Plan, firsts_of, first_at}
use Rattle.px_effects.specs.Act.{Place as Cell}
use Rattle.px_blocks.specs.Sides.{same, same_cell}
use Rattle.px_ends.specs.Agree.{headers}
use Rattle.px_effects.specs.Act.{Firsts, header_of, header_at, new_object, with_place_if}
use Rattle.px_blocks.specs.declared.block.Naming.{Naming}
use Rattle.px_blocks.specs.declared.block.SendKind.{SendKind}
use Rattle.px_blocks.specs.declared.block.SendKind.TheVariants as send
use Rattle.px_blocks.specs.Machine.{marked, with_mark_if, with_marks, same_kind, has_naming, with_name_if, with_names, names, named}
use Rattle.px_ends.specs.Agree.{lacks_of}
use Rattle.px_blocks.specs.Message.{CellAt, with_value, valued, carried, is_before, put_in_if, put_in, in_order, with_cells}

-- ---- headers

pub header_is : (heap : List Object) (o : ℕ) → header_at heap o ≡ slice_get (headers heap) o
header_is [] o = refl
header_is (x ∷ xs) zero = refl
header_is (x ∷ xs) (suc o) = header_is xs o

pub same_headers : (a b : List Object) (o : ℕ) → headers a ≡ headers b → header_at a o ≡ header_at b o
same_headers a b o e = header_is a o ∙ ap (λ (l : List Header). slice_get l o) e ∙ sym (header_is b o)

-- ---- numbers

pub same_true : (m n : ℕ) → same m n ≡ true → m ≡ n
same_true zero zero h = refl
same_true zero (suc n) h = cc
same_true (suc m) zero h = cc
same_true (suc m) (suc n) h = ap suc (same_true m n h)

pub and_true : (a b : Bool) → (a && b) ≡ true → (a ≡ true) × (b ≡ true)
and_true true b h = (refl, h)
and_true false b h = cc

pub same_cell_true : (o i o' i' : ℕ) → same_cell o i o' i' ≡ true → (o' ≡ o) × (i' ≡ i)
same_cell_true o i o' i' h = let p = and_true (same o' o) (same i' i) h in (same_true o' o p.0, same_true i' i p.1)

-- ---- a cell is written

abbrev pub put : Value → Option Value → Option Value
put v None = None
put v (Some w) = Some v

set_suc : (m : Option Object) (i : ℕ) (v : Value) (x : Object) (xs : List Object) (n : ℕ) → with_cell m i v (x ∷ xs) (suc n) ≡ x ∷ with_cell m i v xs n
set_suc None i v x xs n = refl
set_suc (Some y) i v x xs n = refl

pub written_suc : (x : Object) (xs : List Object) (n i : ℕ) (v : Value) → written (x ∷ xs) (suc n) i v ≡ x ∷ written xs n i v
written_suc x xs n i v = set_suc (slice_get xs n) i v x xs n

set_length : (xs : List Value) (i : ℕ) (v : Value) → length (slice_set xs i v) ≡ length xs
set_length [] i v = refl
set_length (x ∷ xs) zero v = refl
set_length (x ∷ xs) (suc i) v = ap suc (set_length xs i v)

pub headers_written : (hs : List Object) (o i : ℕ) (v : Value) → headers (written hs o i v) ≡ headers hs
headers_written [] o i v = refl
headers_written (x ∷ xs) zero i v = ap (λ n. record x.header { length = n } ∷ headers xs) (set_length x.cells i v)
headers_written (x ∷ xs) (suc o) i v = ap headers (written_suc x xs o i v) ∙ ap (λ (l : List Header). header_of x ∷ l) (headers_written xs o i v)

pub length_written : (hs : List Object) (o i : ℕ) (v : Value) → length (written hs o i v) ≡ length hs
length_written [] o i v = refl
length_written (x ∷ xs) zero i v = refl
length_written (x ∷ xs) (suc o) i v = ap length (written_suc x xs o i v) ∙ ap suc (length_written xs o i v)

pub nothing : (b : Bool) (o : Option Value) → o ≡ cond b o o
nothing true o = refl
nothing false o = refl

pub get_set : (xs : List Value) (i i' : ℕ) (v : Value) → slice_get (slice_set xs i v) i' ≡ cond (same i' i) (put v (slice_get xs i')) (slice_get xs i')
get_set [] i i' v = nothing (same i' i) None
get_set (x ∷ xs) zero zero v = refl
get_set (x ∷ xs) zero (suc i') v = refl
get_set (x ∷ xs) (suc i) zero v = refl
get_set (x ∷ xs) (suc i) (suc i') v = get_set xs i i' v

pub cell_written : (hs : List Object) (o i : ℕ) (v : Value) (o' i' : ℕ) → cell_at (written hs o i v) o' i' ≡ cond (same_cell o i o' i') (put v (cell_at hs o' i')) (cell_at hs o' i')
cell_written [] o i v o' i' = nothing (same_cell o i o' i') None
cell_written (x ∷ xs) zero i v zero i' = get_set x.cells i i' v
cell_written (x ∷ xs) zero i v (suc o') i' = refl
cell_written (x ∷ xs) (suc o) i v zero i' = ap (λ (l : List Object). cell_at l zero i') (written_suc x xs o i v)
cell_written (x ∷ xs) (suc o) i v (suc o') i' = ap (λ (l : List Object). cell_at l (suc o') i') (written_suc x xs o i v) ∙ cell_written xs o i v o' i'

-- ---- an object is made

pub headers_join : (hs xs : List Object) → headers (hs ++ xs) ≡ headers hs ++ headers xs
headers_join [] xs = refl
headers_join (y ∷ ys) xs = ap (λ (l : List Header). header_of y ∷ l) (headers_join ys xs)

pub header_made : (hs : List Object) (x : Object) (o : ℕ) → header_at (hs ++ x ∷ []) o ≡ cond (same o (length hs)) (Some (header_of x)) (header_at hs o)
header_made [] x zero = refl
header_made [] x (suc o) = refl
header_made (y ∷ ys) x zero = refl
header_made (y ∷ ys) x (suc o) = header_made ys x o

pub cell_made : (hs : List Object) (x : Object) (o i : ℕ) → cell_at (hs ++ x ∷ []) o i ≡ cond (same o (length hs)) (slice_get x.cells i) (cell_at hs o i)
cell_made [] x zero i = refl
cell_made [] x (suc o) i = refl
cell_made (y ∷ ys) x zero i = refl
cell_made (y ∷ ys) x (suc o) i = cell_made ys x o i

pub header_past : (hs : List Object) (o : ℕ) → same o (length hs) ≡ true → header_at hs o ≡ None
header_past [] o h = refl
header_past (y ∷ ys) zero h = cc
header_past (y ∷ ys) (suc o) h = header_past ys o h

pub cell_past : (hs : List Object) (o i : ℕ) → same o (length hs) ≡ true → cell_at hs o i ≡ None
cell_past [] o i h = refl
cell_past (y ∷ ys) zero i h = cc
cell_past (y ∷ ys) (suc o) i h = cell_past ys o i h

pub length_headers : (hs : List Object) → length (headers hs) ≡ length hs
length_headers [] = refl
length_headers (x ∷ xs) = ap suc (length_headers xs)

pub same_length : (a b : List Object) → headers a ≡ headers b → length a ≡ length b
same_length a b e = sym (length_headers a) ∙ ap length e ∙ length_headers b

-- a cell stands in an object
pub header_some : (hs : List Object) (o i : ℕ) → is_some (cell_at hs o i) ≡ true → is_some (header_at hs o) ≡ true
header_some [] o i h = h
header_some (x ∷ xs) zero i h = refl
header_some (x ∷ xs) (suc o) i h = header_some xs o i h

pub no_cell : (hs : List Object) (o i : ℕ) → header_at hs o ≡ None → cell_at hs o i ≡ None
no_cell [] o i h = refl
no_cell (x ∷ xs) zero i h = cc
no_cell (x ∷ xs) (suc o) i h = no_cell xs o i h

-- ---- a message's headers

pub take_past : (k : ℕ) (hs : List Header) (h : Header) → k ≤ length hs → take k (hs ++ h ∷ []) ≡ take k hs
take_past zero hs h l = refl
take_past (suc k) [] h l = absurd (omega arith)
take_past (suc k) (x ∷ hs) h l = ap (λ (xs : List Header). x ∷ xs) (take_past k hs h (omega arith))

pub take_all : (hs : List Header) → take (length hs) hs ≡ hs
take_all [] = refl
take_all (x ∷ xs) = ap (λ (l : List Header). x ∷ l) (take_all xs)

pub take_then_drop : (k : ℕ) (hs : List Header) → take k hs ++ drop k hs ≡ hs
take_then_drop zero hs = refl
take_then_drop (suc k) [] = refl
take_then_drop (suc k) (x ∷ hs) = ap (λ (l : List Header). x ∷ l) (take_then_drop k hs)

pub get_take : (k : ℕ) (hs : List Header) (o : ℕ) → k ≤ o → slice_get (take k hs) o ≡ None
get_take zero hs o l = refl
get_take (suc k) [] o l = refl
get_take (suc k) (x ∷ hs) zero l = absurd (omega arith)
get_take (suc k) (x ∷ hs) (suc o) l = get_take k hs o (omega arith)

-- new objects have the lengths that their headers tell, where so many cells are the first ones
pub headers_new : (firsts : Firsts) (hs : List Header) → ((o : ℕ) (h : Header) → slice_get hs o ≡ Some h → length (firsts h) ≡ h.length) → headers (map (new_object firsts) hs) ≡ hs
headers_new firsts [] e = refl
headers_new firsts (h ∷ hs) e = λ k. record h { length = e zero h refl k } ∷ headers_new firsts hs (λ o x q. e (suc o) x q) k

pub lengths_same : (xs ys : List Value) → ((i : ℕ) → is_some (slice_get xs i) ≡ is_some (slice_get ys i)) → length xs ≡ length ys
lengths_same [] [] e = refl
lengths_same [] (y ∷ ys) e = absurd (apart (e zero))
  where
    apart : false ≡ true → ⊥
    apart e = cc
lengths_same (x ∷ xs) [] e = absurd (apart (e zero))
  where
    apart : true ≡ false → ⊥
    apart e = cc
lengths_same (x ∷ xs) (y ∷ ys) e = ap suc (lengths_same xs ys (λ i. e (suc i)))

pub get_drop : (k : ℕ) (hs : List Header) (o : ℕ) → slice_get (drop k hs) o ≡ slice_get hs (k + o)
get_drop zero hs o = ap (λ n. slice_get hs n) plus
  where
    plus : o ≡ 0 + o
    plus = omega arith
get_drop (suc k) [] o = refl
get_drop (suc k) (h ∷ hs) o = get_drop k hs o ∙ ap (λ n. slice_get (h ∷ hs) n) plus
  where
    plus : suc (k + o) ≡ suc k + o
    plus = omega arith

abbrev pub first_if : Bool → Option Value → Option Value → Option Value
first_if lacks first far = cond lacks first far

cell_new : (plan : Plan) (hs : List Header) (o i : ℕ) → cell_at (map (new_object (firsts_of plan.code)) hs) o i ≡ cond (lacks_of None (slice_get hs o)) (first_at plan (slice_get hs o) i) None
cell_new plan [] o i = refl
cell_new plan (h ∷ hs) zero i = refl
cell_new plan (h ∷ hs) (suc o) i = cell_new plan hs o i

pub cell_news : (plan : Plan) (far : List Object) (k : ℕ) (hs : List Header) (o i : ℕ) → headers far ≡ take k hs → k ≤ length hs → cell_at (far ++ map (new_object (firsts_of plan.code)) (drop k hs)) o i ≡ cond (lacks_of (header_at far o) (slice_get hs o)) (first_at plan (slice_get hs o) i) (cell_at far o i)
cell_news plan [] zero hs o i e l = cell_new plan hs o i
cell_news plan [] (suc k) [] o i e l = absurd (omega arith)
cell_news plan [] (suc k) (h ∷ hs) o i e l = cc
cell_news plan (x ∷ xs) zero hs o i e l = cc
cell_news plan (x ∷ xs) (suc k) [] o i e l = cc
cell_news plan (x ∷ xs) (suc k) (h ∷ hs) zero i e l = refl
cell_news plan (x ∷ xs) (suc k) (h ∷ hs) (suc o) i e l = cell_news plan xs k hs o i (tails e) (omega arith)
  where
    tails : header_of x ∷ headers xs ≡ h ∷ take k hs → headers xs ≡ take k hs
    tails e = cc

-- ---- a message's cells

headers_value : (m : Option Value) (c : Cell) (us : List CellAt) (hs : List Object) → ((l : List Object) → headers (with_cells us l) ≡ headers l) → headers (with_cells (with_value m c us) hs) ≡ headers hs
headers_value None c us hs r = r hs
headers_value (Some v) c us hs r = r (written hs c.object c.index v) ∙ headers_written hs c.object c.index v

pub headers_valued : (heap : List Object) (cs : List Cell) (hs : List Object) → headers (with_cells (valued heap cs) hs) ≡ headers hs
headers_valued heap [] hs = refl
headers_valued heap (c ∷ cs) hs = headers_value (cell_at heap c.object c.index) c (valued heap cs) hs (headers_valued heap cs)

none_of : (o n : Option Value) → is_some o ≡ is_some n → None ≡ n → o ≡ n
none_of None n s e = e
none_of (Some x) None s e = cc
none_of (Some x) (Some y) s e = cc

put_of : (v : Value) (o n : Option Value) → is_some o ≡ is_some n → Some v ≡ n → put v o ≡ n
put_of v None None s e = cc
put_of v None (Some y) s e = cc
put_of v (Some x) n s e = e

pub is_some_put : (t : Bool) (v : Value) (o : Option Value) → is_some (cond t (put v o) o) ≡ is_some o
is_some_put true v None = refl
is_some_put true v (Some x) = refl
is_some_put false v o = refl

skip_case : (t b : Bool) (near o : Option Value) → (t ≡ true → None ≡ near) → is_some o ≡ is_some near → cond b near o ≡ cond (t || b) near o
skip_case true true near o e s = refl
skip_case true false near o e s = none_of o near s (e refl)
skip_case false b near o e s = refl

put_case : (t b : Bool) (v : Value) (near o : Option Value) → (t ≡ true → Some v ≡ near) → is_some o ≡ is_some near → cond b near (cond t (put v o) o) ≡ cond (t || b) near o
put_case true true v near o e s = refl
put_case true false v near o e s = put_of v o near s (e refl)
put_case false b v near o e s = refl

-- one cell of the message: what the rest of it does to the heap with that cell written
one_update : (m : Option Value) (c : Cell) (us : List CellAt) (hs : List Object) (o i : ℕ) (b : Bool) (near : Option Value) →
    (same_cell c.object c.index o i ≡ true → m ≡ near) →
    is_some (cell_at hs o i) ≡ is_some near →
    ((l : List Object) → is_some (cell_at l o i) ≡ is_some near → cell_at (with_cells us l) o i ≡ cond b near (cell_at l o i)) →
    cell_at (with_cells (with_value m c us) hs) o i ≡ cond (same_cell c.object c.index o i || b) near (cell_at hs o i)
one_update None c us hs o i b near e s r = r hs s ∙ skip_case (same_cell c.object c.index o i) b near (cell_at hs o i) e s
one_update (Some v) c us hs o i b near e s r =
    let w = cell_written hs c.object c.index v o i in
    r (written hs c.object c.index v) (ap is_some w ∙ is_some_put (same_cell c.object c.index o i) v (cell_at hs o i) ∙ s)
    ∙ ap (λ (z : Option Value). cond b near z) w
    ∙ put_case (same_cell c.object c.index o i) b v near (cell_at hs o i) e s

at_same : (near : List Object) (o i o' i' : ℕ) → same_cell o i o' i' ≡ true → cell_at near o i ≡ cell_at near o' i'
at_same near o i o' i' h = let p = same_cell_true o i o' i' h in λ k. cell_at near (sym p.0 k) (sym p.1 k)

pub cell_valued : (near : List Object) (cs : List Cell) (hs : List Object) (o i : ℕ) → is_some (cell_at hs o i) ≡ is_some (cell_at near o i) → cell_at (with_cells (valued near cs) hs) o i ≡ cond (marked cs o i) (cell_at near o i) (cell_at hs o i)
cell_valued near [] hs o i s = refl
cell_valued near (c ∷ cs) hs o i s =
    one_update (cell_at near c.object c.index) c (valued near cs) hs o i (marked cs o i) (cell_at near o i)
    (at_same near c.object c.index o i) s
    (λ l t. cell_valued near cs l o i t)

-- ---- what is carried

pick_true : (t m n r : Bool) → (t ≡ true → true ≡ n) → r ≡ (m && n) → (t || r) ≡ ((t || m) && n)
pick_true true m n r e h = e refl
pick_true false m n r e h = h

pick_false : (t m n r : Bool) → (t ≡ true → false ≡ n) → r ≡ (m && n) → r ≡ ((t || m) && n)
pick_false true true n r e h = h
pick_false true false n r e h = h ∙ e refl
pick_false false m n r e h = h

if_carried : (b : Bool) (c : Cell) (rest : List Cell) (o i : ℕ) (m n : Bool) → (same_cell c.object c.index o i ≡ true → b ≡ n) → marked rest o i ≡ (m && n) → marked (with_place_if b c rest) o i ≡ ((same_cell c.object c.index o i || m) && n)
if_carried true c rest o i m n e r = pick_true (same_cell c.object c.index o i) m n (marked rest o i) e r
if_carried false c rest o i m n e r = pick_false (same_cell c.object c.index o i) m n (marked rest o i) e r

-- the message has the cells that were written and named
pub marked_carried : (plan : Plan) (heap : List Object) (ns : List Naming) (cs : List Cell) (o i : ℕ) → marked (carried plan heap ns cs) o i ≡ (marked cs o i && named plan (header_at heap o) ns o i)
marked_carried plan heap ns [] o i = refl
marked_carried plan heap ns (c ∷ cs) o i =
    if_carried (named plan (header_at heap c.object) ns c.object c.index) c (carried plan heap ns cs) o i (marked cs o i) (named plan (header_at heap o) ns o i)
    (λ e. let p = same_cell_true c.object c.index o i e in λ k. named plan (header_at heap (sym p.0 k)) ns (sym p.0 k) (sym p.1 k))
    (marked_carried plan heap ns cs o i)

-- ---- cells in order

or_swap : (a b c : Bool) → (a || (b || c)) ≡ (b || (a || c))
or_swap true true c = refl
or_swap true false c = refl
or_swap false b c = refl

or_twice : (a b : Bool) → (a || b) ≡ (a || (a || b))
or_twice true b = refl
or_twice false b = refl

put_case_of : (t u : Bool) (c d : Cell) (cs rest : List Cell) (o i : ℕ) → (t ≡ true → same_cell c.object c.index o i ≡ same_cell d.object d.index o i) → marked rest o i ≡ (same_cell c.object c.index o i || marked cs o i)
    → marked (put_in_if t u c d cs rest) o i ≡ (same_cell c.object c.index o i || (same_cell d.object d.index o i || marked cs o i))
put_case_of true u c d cs rest o i e r = or_twice (same_cell d.object d.index o i) (marked cs o i) ∙ ap (λ b. b || (same_cell d.object d.index o i || marked cs o i)) (sym (e refl))
put_case_of false true c d cs rest o i e r = refl
put_case_of false false c d cs rest o i e r = ap (λ b. same_cell d.object d.index o i || b) r ∙ or_swap (same_cell d.object d.index o i) (same_cell c.object c.index o i) (marked cs o i)

marked_put : (c : Cell) (cs : List Cell) (o i : ℕ) → marked (put_in c cs) o i ≡ (same_cell c.object c.index o i || marked cs o i)
marked_put c [] o i = refl
marked_put c (d ∷ cs) o i = put_case_of (same_cell c.object c.index d.object d.index) (is_before c d) c d cs (put_in c cs) o i
    (λ e. let p = same_cell_true c.object c.index d.object d.index e in λ k. same_cell (sym p.0 k) (sym p.1 k) o i)
    (marked_put c cs o i)

pub marked_ordered : (cs : List Cell) (o i : ℕ) → marked (in_order cs) o i ≡ marked cs o i
marked_ordered [] o i = refl
marked_ordered (c ∷ cs) o i = marked_put c (in_order cs) o i ∙ ap (λ b. same_cell c.object c.index o i || b) (marked_ordered cs o i)

-- ---- lists of marks and of names

or_assoc : (a b c : Bool) → (a || (b || c)) ≡ ((a || b) || c)
or_assoc true b c = refl
or_assoc false b c = refl

pub marked_join : (cs ds : List Cell) (o i : ℕ) → marked (cs ++ ds) o i ≡ (marked cs o i || marked ds o i)
marked_join [] ds o i = refl
marked_join (c ∷ cs) ds o i = ap (λ b. same_cell c.object c.index o i || b) (marked_join cs ds o i) ∙ or_assoc (same_cell c.object c.index o i) (marked cs o i) (marked ds o i)

pub named_join : (plan : Plan) (h : Option Header) (ns ms : List Naming) (o i : ℕ) → named plan h (ns ++ ms) o i ≡ (named plan h ns o i || named plan h ms o i)
named_join plan h [] ms o i = refl
named_join plan h (n ∷ ns) ms o i = ap (λ b. names plan h n o i || b) (named_join plan h ns ms o i) ∙ or_assoc (names plan h n o i) (named plan h ns o i) (named plan h ms o i)

-- a cell that is marked again, and an object that is named again in one way, change nothing
twice : (t m s : Bool) → (t ≡ true → s ≡ true → m ≡ true) → t ≡ true → m ≡ (m || s)
twice t true s f e = refl
twice t false true f_ e = absurd (let q = f_ e refl in apart q)
  where
    apart : false ≡ true → ⊥
    apart e = cc
twice t false false f e = refl

mark_if : (t : Bool) (c : Cell) (ms : List Cell) (o i : ℕ) → (t ≡ true → same_cell c.object c.index o i ≡ true → marked ms o i ≡ true) → marked (with_mark_if t c ms) o i ≡ (marked ms o i || same_cell c.object c.index o i)
mark_if true c ms o i f = twice true (marked ms o i) (same_cell c.object c.index o i) f refl
mark_if false c ms o i f = marked_join ms (c ∷ []) o i ∙ ap (λ b. marked ms o i || b) (or_none (same_cell c.object c.index o i))
  where
    or_none : (b : Bool) → (b || false) ≡ b
    or_none true = refl
    or_none false = refl

mark_again : (c : Cell) (ms : List Cell) (o i : ℕ) → marked ms c.object c.index ≡ true → same_cell c.object c.index o i ≡ true → marked ms o i ≡ true
mark_again c ms o i m s = let p = same_cell_true c.object c.index o i s in (λ k. marked ms (p.0 k) (p.1 k)) ∙ m

pub marked_with : (cs ms : List Cell) (o i : ℕ) → marked (with_marks cs ms) o i ≡ marked (ms ++ cs) o i
marked_with [] ms o i = sym (marked_join ms [] o i ∙ or_none (marked ms o i))
  where
    or_none : (b : Bool) → (b || false) ≡ b
    or_none true = refl
    or_none false = refl
marked_with (c ∷ cs) ms o i =
    let t = marked ms c.object c.index in
    let n = with_mark_if t c ms in
    marked_with cs n o i ∙ marked_join n cs o i ∙ ap (λ b. b || marked cs o i) (mark_if t c ms o i (mark_again c ms o i)) ∙ sym (or_assoc (marked ms o i) (same_cell c.object c.index o i) (marked cs o i)) ∙ sym (marked_join ms (c ∷ cs) o i)

same_kinds : (a b : SendKind) → same_kind a b ≡ true → a ≡ b
same_kinds send.App send.App e = refl
same_kinds send.App send.Db e = cc
same_kinds send.App send.Native e = cc
same_kinds send.Db send.App e = cc
same_kinds send.Db send.Db e = refl
same_kinds send.Db send.Native e = cc
same_kinds send.Native send.App e = cc
same_kinds send.Native send.Db e = cc
same_kinds send.Native send.Native e = refl

or_end : (b : Bool) → (b || true) ≡ true
or_end true = refl
or_end false = refl

name_again : (plan : Plan) (h : Option Header) (n : Naming) (ns : List Naming) (o i : ℕ) → has_naming ns n.kind n.object ≡ true → names plan h n o i ≡ true → named plan h ns o i ≡ true
name_again plan h n [] o i e f = cc
name_again plan h n (m ∷ ns) o i e f = pick (λ z. name_again plan h n ns o i z f) (same_kind n.kind m.kind && same n.object m.object) refl e
  where
    pick : (has_naming ns n.kind n.object ≡ true → named plan h ns o i ≡ true) → (t : Bool) → (same_kind n.kind m.kind && same n.object m.object) ≡ t → (t || has_naming ns n.kind n.object) ≡ true → (names plan h m o i || named plan h ns o i) ≡ true
    pick rest true q z =
        let p = and_true (same_kind n.kind m.kind) (same n.object m.object) q in
        let k = same_kinds n.kind m.kind p.0 in
        let ob = same_true n.object m.object p.1 in
        let r : names plan h m o i ≡ true = (λ j. names plan h (record { kind = sym k j; object = sym ob j }) o i) ∙ f in
        ap (λ b. b || named plan h ns o i) r
    pick rest false q z = let r = rest z in ap (λ b. names plan h m o i || b) r ∙ or_end (names plan h m o i)

name_if : (plan : Plan) (h : Option Header) (t : Bool) (n : Naming) (ns : List Naming) (o i : ℕ) → (t ≡ true → names plan h n o i ≡ true → named plan h ns o i ≡ true) → named plan h (with_name_if t n ns) o i ≡ (named plan h ns o i || names plan h n o i)
name_if plan h true n ns o i f = twice true (named plan h ns o i) (names plan h n o i) f refl
name_if plan h false n ns o i f = named_join plan h ns (n ∷ []) o i ∙ ap (λ b. named plan h ns o i || b) (or_none (names plan h n o i))
  where
    or_none : (b : Bool) → (b || false) ≡ b
    or_none true = refl
    or_none false = refl

pub named_with : (plan : Plan) (h : Option Header) (ms ns : List Naming) (o i : ℕ) → named plan h (with_names ms ns) o i ≡ named plan h (ns ++ ms) o i
named_with plan h [] ns o i = sym (named_join plan h ns [] o i ∙ or_none (named plan h ns o i))
  where
    or_none : (b : Bool) → (b || false) ≡ b
    or_none true = refl
    or_none false = refl
named_with plan h (n ∷ ms) ns o i =
    let t = has_naming ns n.kind n.object in
    let x = with_name_if t n ns in
    named_with plan h ms x o i ∙ named_join plan h x ms o i ∙ ap (λ b. b || named plan h ms o i) (name_if plan h t n ns o i (λ e f. name_again plan h n ns o i e f)) ∙ sym (or_assoc (named plan h ns o i) (names plan h n o i) (named plan h ms o i)) ∙ sym (named_join plan h ns (n ∷ ms) o i)
