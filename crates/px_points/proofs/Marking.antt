-- What one more mark changes.
use Rattle.std.proofs.Common.{◌≡◌, ℕ, zero, suc, ◌+◌, ◌<◌, ◌≤◌, Bool, true, false, not, ◌||◌, ◌⊎◌, inl, inr, ⊎_elim, List, [], ◌∷◌, length, Option, unwrap_or, slice_set, refl, sym, ap, ◌∙◌, arith}
use Rattle.px_code.proofs.Written.{at_set, length-slice_set}
use Rattle.px_points.specs.Marks.{is_marked, is_open, with_mark}
use Rattle.px_points.specs.Places.{Places, marks_at, slot_at, with_slot}
use Rattle.px_points.specs.declared.pass.Draft.{Draft}
use Rattle.px_points.specs.Pass.{after_slot, after_field}

-- ---- marks

pub is_marked-with_mark : (marks : List Bool) (n k : ℕ) → is_marked (with_mark marks n) k ≡ true → (n ≡ k) ⊎ (is_marked marks k ≡ true)
is_marked-with_mark marks n k h = ⊎_elim
    (λ (t : (n ≡ k) × (true ≡ true)). inl t.0)
    inr
    (at_set (λ (o : Option Bool). unwrap_or o false ≡ true) marks n k true h)

pub stays_marked : (marks : List Bool) (n k : ℕ) → is_marked marks k ≡ true → is_marked (with_mark marks n) k ≡ true
stays_marked [] n k h = h
stays_marked (b ∷ marks) zero zero h = refl
stays_marked (b ∷ marks) zero (suc k) h = h
stays_marked (b ∷ marks) (suc n) zero h = h
stays_marked (b ∷ marks) (suc n) (suc k) h = stays_marked marks n k h

pub marked_now : (marks : List Bool) (n : ℕ) → n < length marks → is_marked (with_mark marks n) n ≡ true
marked_now [] n h = absurd (omega arith)
marked_now (b ∷ marks) zero h = refl
marked_now (b ∷ marks) (suc n) h = marked_now marks n (omega arith)

pub not_open : (marks : List Bool) (n : ℕ) → n < length marks → is_open marks n ≡ false → is_marked marks n ≡ true
not_open [] n h e = absurd (omega arith)
not_open (true ∷ marks) zero h e = refl
not_open (false ∷ marks) zero h e = absurd cc
not_open (b ∷ marks) (suc n) h e = not_open marks n (omega arith) e

pub same_with_mark : (marks : List Bool) (n : ℕ) → is_open marks n ≡ false → with_mark marks n ≡ marks
same_with_mark [] n e = refl
same_with_mark (true ∷ marks) zero e = refl
same_with_mark (false ∷ marks) zero e = absurd cc
same_with_mark (b ∷ marks) (suc n) e = ap (λ (xs : List Bool). b ∷ xs) (same_with_mark marks n e)

-- ---- slots

pub slot_at-with_slot : (p : Places) (i n j k : ℕ) → slot_at (with_slot p i n) j k ≡ true → ((i ≡ j) × (n ≡ k)) ⊎ (slot_at p j k ≡ true)
slot_at-with_slot p i n j k h = ⊎_elim
    (λ (t : (i ≡ j) × (is_marked (with_mark (marks_at p.slots i) n) k ≡ true)). ⊎_elim
    (λ (e : n ≡ k). inl (t.0, e))
    (λ (e : is_marked (marks_at p.slots i) k ≡ true). inr (ap (λ place. is_marked (marks_at p.slots place) k) (sym t.0) ∙ e))
    (is_marked-with_mark (marks_at p.slots i) n k t.1))
    inr
    (at_set (λ (o : Option (List Bool)). is_marked (unwrap_or o []) k ≡ true) p.slots i j (with_mark (marks_at p.slots i) n) h)

-- a view of the marks of a method that grows with a mark
rows_stay : (P : List Bool → Type 0) (rows : List (List Bool)) (i n j : ℕ) → ((marks : List Bool) → P marks → P (with_mark marks n)) → P (marks_at rows j) → P (marks_at (slice_set rows i (with_mark (marks_at rows i) n)) j)
rows_stay P [] i n j f h = h
rows_stay P (row ∷ rows) zero n zero f h = f row h
rows_stay P (row ∷ rows) zero n (suc j) f h = h
rows_stay P (row ∷ rows) (suc i) n zero f h = h
rows_stay P (row ∷ rows) (suc i) n (suc j) f h = rows_stay P rows i n j f h

pub slot_stays : (p : Places) (i n j k : ℕ) → slot_at p j k ≡ true → slot_at (with_slot p i n) j k ≡ true
slot_stays p i n j k h = rows_stay (λ marks. is_marked marks k ≡ true) p.slots i n j (λ marks. stays_marked marks n k) h

pub length_stays : (p : Places) (i n j m : ℕ) → length (marks_at p.slots j) ≡ m → length (marks_at (with_slot p i n).slots j) ≡ m
length_stays p i n j m h = rows_stay (λ marks. length marks ≡ m) p.slots i n j (λ marks e. length-slice_set marks n true ∙ e) h

same_rows : (rows : List (List Bool)) (i n : ℕ) → is_open (marks_at rows i) n ≡ false → slice_set rows i (with_mark (marks_at rows i) n) ≡ rows
same_rows [] i n e = refl
same_rows (row ∷ rows) zero n e = ap (λ (xs : List Bool). xs ∷ rows) (same_with_mark row n e)
same_rows (row ∷ rows) (suc i) n e = ap (λ (xs : List (List Bool)). row ∷ xs) (same_rows rows i n e)

pub same_with_slot : (p : Places) (i n : ℕ) → is_open (marks_at p.slots i) n ≡ false → with_slot p i n ≡ p
same_with_slot p i n e = ap (λ (rows : List (List Bool)). record p { slots = rows }) (same_rows p.slots i n e)

-- ---- how many places are open

abbrev pub flag : Bool → ℕ
flag true = 1
flag false = 0

abbrev pub open_in : List Bool → ℕ
open_in [] = 0
open_in (b ∷ marks) = flag (not b) + open_in marks

abbrev pub open_in_rows : List (List Bool) → ℕ
open_in_rows [] = 0
open_in_rows (row ∷ rows) = open_in row + open_in_rows rows

abbrev pub open_places : Places → ℕ
open_places p = open_in_rows p.slots + open_in p.fields

open_in-with_mark : (marks : List Bool) (n : ℕ) → open_in (with_mark marks n) + flag (is_open marks n) ≡ open_in marks
open_in-with_mark [] n = refl
open_in-with_mark (true ∷ marks) zero = omega arith
open_in-with_mark (false ∷ marks) zero = omega arith
open_in-with_mark (b ∷ marks) (suc n) = omega (arith, open_in-with_mark marks n)

open_in_rows-set : (rows : List (List Bool)) (i n : ℕ) → open_in_rows (slice_set rows i (with_mark (marks_at rows i) n)) + flag (is_open (marks_at rows i) n) ≡ open_in_rows rows
open_in_rows-set [] i n = refl
open_in_rows-set (row ∷ rows) zero n = omega (arith, open_in-with_mark row n)
open_in_rows-set (row ∷ rows) (suc i) n = omega (arith, open_in_rows-set rows i n)

-- the open places, and one for a change
abbrev pub weight : Draft → ℕ
weight d = open_places d.points + flag d.changed

flag-or : (a b : Bool) → flag (a || b) ≤ flag a + flag b
flag-or true b = omega arith
flag-or false b = omega arith

pub weight-slot : (follows : Bool) (place n : ℕ) (d : Draft) → weight (after_slot follows place n d) ≤ weight d
weight-slot false place n d = omega arith
weight-slot true place n d = omega (arith, open_in_rows-set d.points.slots place n, flag-or (is_open (marks_at d.points.slots place) n) d.changed)

pub weight-field : (follows : Bool) (n : ℕ) (d : Draft) → weight (after_field follows n d) ≤ weight d
weight-field false n d = omega arith
weight-field true n d = omega (arith, open_in-with_mark d.points.fields n, flag-or (is_open d.points.fields n) d.changed)
