-- What is tested of a message is that what it names is there.
use Rattle.std.proofs.Common.{◌≡◌, ℕ, zero, suc, ◌+◌, ◌≤◌, nat_le, Bool, true, false, ◌&&◌, List, [], ◌∷◌, map, length, is_some, slice_get, le-leb, refl, ap, ◌∙◌, arith}
use Rattle.std.specs.List.{list_all, AllByRecursion}
use Rattle.std.proofs.lemmas.Bool.{lt-ltb, ltb-true, leb-true, eqb-true}
use Rattle.std.proofs.lemmas.List.{length-map, length-replicate}
use Rattle.std.proofs.lemmas.List.Sums.{sum_by-append, sum_by-cons}
use Rattle.px_value.specs.declared.value.Value.{Value}
use Rattle.px_value.specs.declared.value.Value.TheVariants.{Int, Long, Bool as Truth, Text, Null, Ref}
use Rattle.px_value.specs.declared.header.Header.{Header}
use Rattle.px_value.specs.declared.header.Kind.{Kind}
use Rattle.px_value.specs.declared.header.Kind.TheVariants as kind
use Rattle.px_value.specs.declared.object.Object.{Object}
use Rattle.px_value.specs.Heap.{cells_counted, heap_counted, max_counted}
use Rattle.px_normal.specs.declared.code.Code.{Code}
use Rattle.px_normal.specs.First.{field_default, fields_of, fresh_of}
use Rattle.px_effects.specs.Act.{new_object}
use Rattle.px_effects.specs.Cells.{element_default, first_of, first_cells, blank_rows}
use Rattle.px_blocks.specs.Machine.{Frame, slots_at}
use Rattle.px_value.specs.Heap.{cell_at}
use Rattle.px_blocks.specs.Message.{SlotAt, CellAt, standing}
use Rattle.px_control.specs.Taken.{kind_fits, header_fits, news_fit, with_news, leads, cell_fits, updates_fit, slots_fit}
use Rattle.px_control.specs.There.{LeadsIn, HasLength, UpdatesAreTaken, TransfersAreTaken}

-- ---- tests

first_true : (a b : Bool) → (a && b) ≡ true → a ≡ true
first_true true b h = refl
first_true false b h = h

second_true : (a b : Bool) → (a && b) ≡ true → b ≡ true
second_true true b h = h
second_true false b h = cc

both_true : (a b : Bool) → a ≡ true → b ≡ true → (a && b) ≡ true
both_true a b h k = ap (λ (x : Bool). x && b) h ∙ k

leads_to : (n : ℕ) (v : Value) → leads n v ≡ true → LeadsIn n v
leads_to n (Ref o) h = ltb-true o n h
leads_to n (Int i) h = tt
leads_to n (Long i) h = tt
leads_to n (Truth b) h = tt
leads_to n (Text t) h = tt
leads_to n Null h = tt

leads_back : (n : ℕ) (v : Value) → LeadsIn n v → leads n v ≡ true
leads_back n (Ref o) h = lt-ltb o n h
leads_back n (Int i) h = refl
leads_back n (Long i) h = refl
leads_back n (Truth b) h = refl
leads_back n (Text t) h = refl
leads_back n Null h = refl

module _ {A : Type 0} (f : A → Bool) (n : ℕ) (value : A → Value) where
  there_of : (xs : List A) → list_all (λ x. f x && leads n (value x)) xs ≡ true → AllByRecursion (λ x. f x ≡ true) xs
  there_of [] h = tt
  there_of (x ∷ xs) h = (first_true (f x) (leads n (value x)) (first_true (f x && leads n (value x)) _ h), there_of xs (second_true (f x && leads n (value x)) _ h))

  lead_of : (xs : List A) → list_all (λ x. f x && leads n (value x)) xs ≡ true → AllByRecursion (λ x. LeadsIn n (value x)) xs
  lead_of [] h = tt
  lead_of (x ∷ xs) h = (leads_to n (value x) (second_true (f x) (leads n (value x)) (first_true (f x && leads n (value x)) _ h)), lead_of xs (second_true (f x && leads n (value x)) _ h))

  all_of : (xs : List A) → AllByRecursion (λ x. f x ≡ true) xs → AllByRecursion (λ x. LeadsIn n (value x)) xs → list_all (λ x. f x && leads n (value x)) xs ≡ true
  all_of [] h k = refl
  all_of (x ∷ xs) h k = both_true (f x && leads n (value x)) _ (both_true (f x) (leads n (value x)) h.0 (leads_back n (value x) k.0)) (all_of xs h.1 k.1)

-- ---- new objects

rows_length : (n : ℕ) → length (blank_rows n) ≡ n
rows_length zero = refl
rows_length (suc n) = ap suc (length-replicate n Null)

kind_length : (code : Code) (k : Kind) (n : ℕ) → kind_fits code k n ≡ true → length (first_of (fresh_of code) k n) ≡ n
kind_length code (kind.Object class) n h = length-map (fields_of code class) field_default ∙ eqb-true (length (fields_of code class)) n h
kind_length code (kind.Array element) n h = length-replicate n (element_default element)
kind_length code (kind.Rows statement) n h = rows_length n

abbrev fresh : Code → Header → Object
fresh code h = new_object (first_cells (fresh_of code)) h

next_counted : (code : Code) (x : Header) (hs : List Header) → heap_counted (map (fresh code) (x ∷ hs)) ≡ 1 + length (first_of (fresh_of code) x.kind x.length) + heap_counted (map (fresh code) hs)
next_counted code x hs = sum_by-cons cells_counted (fresh code x) (map (fresh code) hs)

lengths_of : (code : Code) (counted : ℕ) (hs : List Header) → news_fit code counted hs ≡ true → AllByRecursion (HasLength code) hs
lengths_of code counted [] h = tt
lengths_of code counted (x ∷ hs) h = (first_true (kind_fits code x.kind x.length) _ (first_true (header_fits code counted x) _ h), lengths_of code (counted + (1 + x.length)) hs (second_true (header_fits code counted x) _ h))

room_of : (code : Code) (counted : ℕ) (hs : List Header) → counted ≤ max_counted → news_fit code counted hs ≡ true → counted + heap_counted (map (fresh code) hs) ≤ max_counted
room_of code counted [] m h = omega arith
room_of code counted (x ∷ hs) m h =
    let fits : header_fits code counted x ≡ true = first_true (header_fits code counted x) _ h in
    let long : length (first_of (fresh_of code) x.kind x.length) ≡ x.length = kind_length code x.kind x.length (first_true (kind_fits code x.kind x.length) _ fits) in
    let here : counted + (1 + x.length) ≤ max_counted = leb-true (counted + (1 + x.length)) max_counted (second_true (kind_fits code x.kind x.length) _ fits) in
    let rest : counted + (1 + x.length) + heap_counted (map (fresh code) hs) ≤ max_counted = room_of code (counted + (1 + x.length)) hs here (second_true (header_fits code counted x) _ h) in
    omega (arith, next_counted code x hs)

fits_back : (code : Code) (counted : ℕ) (hs : List Header) → AllByRecursion (HasLength code) hs → counted + heap_counted (map (fresh code) hs) ≤ max_counted → news_fit code counted hs ≡ true
fits_back code counted [] h m = refl
fits_back code counted (x ∷ hs) h m =
    let long : length (first_of (fresh_of code) x.kind x.length) ≡ x.length = kind_length code x.kind x.length h.0 in
    let here : counted + (1 + x.length) ≤ max_counted = omega (arith, next_counted code x hs) in
    let rest : counted + (1 + x.length) + heap_counted (map (fresh code) hs) ≤ max_counted = omega (arith, next_counted code x hs) in
    both_true (header_fits code counted x) _ (both_true (kind_fits code x.kind x.length) _ h.0 (le-leb (counted + (1 + x.length)) max_counted here)) (fits_back code (counted + (1 + x.length)) hs h.1 rest)

counted_news : (code : Code) (hs : List Header) (heap : List Object) → heap_counted (with_news code hs heap) ≡ heap_counted heap + heap_counted (map (fresh code) hs)
counted_news code hs heap = sum_by-append cells_counted heap (map (fresh code) hs)

-- ---- messages

pub updates_are_taken : UpdatesAreTaken
updates_are_taken code u heap m =
    let all : List Object = with_news code u.headers heap in
    let counted = counted_news code u.headers heap in (
      (λ h.
          let fit = first_true (news_fit code (heap_counted heap) u.headers) (list_all (cell_fits all) u.cells) h in
          let cells = second_true (news_fit code (heap_counted heap) u.headers) (list_all (cell_fits all) u.cells) h in
          let room : heap_counted heap + heap_counted (map (fresh code) u.headers) ≤ max_counted = room_of code (heap_counted heap) u.headers m fit in
          record {
            headers = lengths_of code (heap_counted heap) u.headers fit;
            room = omega (arith, counted);
            cells = there_of (λ (c : CellAt). is_some (cell_at all c.object c.index)) (length all) (λ (c : CellAt). c.value) u.cells cells;
            lead = lead_of (λ (c : CellAt). is_some (cell_at all c.object c.index)) (length all) (λ (c : CellAt). c.value) u.cells cells;
          }),
      (λ h.
          let room : heap_counted heap + heap_counted (map (fresh code) u.headers) ≤ max_counted = omega (arith, counted, h.room) in
          both_true (news_fit code (heap_counted heap) u.headers) (list_all (cell_fits all) u.cells) (fits_back code (heap_counted heap) u.headers h.headers room) (all_of (λ (c : CellAt). is_some (cell_at all c.object c.index)) (length all) (λ (c : CellAt). c.value) u.cells h.cells h.lead)),
    )

pub transfers_are_taken : TransfersAreTaken
transfers_are_taken plan t frames heap m =
    let all : List Object = with_news plan.code t.updates.headers heap in
    let stack : List Frame = standing plan t.base t.frames frames in
    let updates = updates_are_taken plan.code t.updates heap m in (
      (λ h.
          let base = first_true (nat_le t.base (length frames)) (updates_fit plan.code t.updates heap && slots_fit plan t frames heap) h in
          let rest = second_true (nat_le t.base (length frames)) (updates_fit plan.code t.updates heap && slots_fit plan t frames heap) h in
          let slots = second_true (updates_fit plan.code t.updates heap) (slots_fit plan t frames heap) rest in
          record {
            base = leb-true t.base (length frames) base;
            updates = updates.0 (first_true (updates_fit plan.code t.updates heap) (slots_fit plan t frames heap) rest);
            slots = there_of (λ (s : SlotAt). is_some (slice_get (slots_at stack s.frame) s.slot)) (length all) (λ (s : SlotAt). s.value) t.slots slots;
            lead = lead_of (λ (s : SlotAt). is_some (slice_get (slots_at stack s.frame) s.slot)) (length all) (λ (s : SlotAt). s.value) t.slots slots;
          }),
      (λ h.
          both_true (nat_le t.base (length frames)) (updates_fit plan.code t.updates heap && slots_fit plan t frames heap) (le-leb t.base (length frames) h.base)
          (both_true (updates_fit plan.code t.updates heap) (slots_fit plan t frames heap) (updates.1 h.updates) (all_of (λ (s : SlotAt). is_some (slice_get (slots_at stack s.frame) s.slot)) (length all) (λ (s : SlotAt). s.value) t.slots h.slots h.lead))),
    )
