-- What the parts of a job keep.
use Rattle.std.proofs.Common.{◌≡◌, ℕ, zero, suc, ◌+◌, ◌≤◌, ◌<◌, ◌==◌, nat_lt, Bool, true, false, not, ◌&&◌, ◌||◌, List, [], ◌∷◌, ◌++◌, length, slice_get, slice_set, Option, Some, None, IfSome, refl, sym, ap, ◌∙◌, subst, append_assoc, arith, codes}
use Rattle.std.specs.List.{AllByRecursion, list_any}
use Rattle.std.specs.Option.{is_some}
use Rattle.std.proofs.lemmas.Bool.{leb-false, false≢true}
use Rattle.std.proofs.lemmas.List.{length-append, append-nil, length-set}
use Rattle.px_code.specs.declared.side.Side.{Side}
use Rattle.px_code.specs.declared.side.Side.TheVariants.{App, Db}
use Rattle.px_normal.specs.declared.code.Code.{Code}
use Rattle.px_normal.specs.declared.node.Node.{Node}
use Rattle.px_job.specs.Prints.{prints_of, is_print}
use Rattle.px_job.specs.Parts.{full, max_budget, max_parts, last_of, first_side, first_sides, new_part, repeats_name, is_too_much, is_out_of_range, is_not_above, ends_low, is_part_too_many, with_side, with_sides, placed, is_db, places_print, whole_load, parts_or_app}
use Rattle.px_job.specs.Fitting.{IsSet, PrintsStay, IsPartOf, HaveNewNames, Rise, EndFull}
use Rattle.px_job.specs.declared.job.Part.{Part}
use Rattle.px_job.specs.declared.parts.Bounds.{Bounds}
use Rattle.px_job.proofs.FittingLines.{all_append, all_set}

-- ---- sides

length-first : (has_budget : Bool) (prints : List ℕ) (number : ℕ) (nodes : List Node) → length (first_sides has_budget prints number nodes) ≡ length nodes
length-first has_budget prints number [] = refl
length-first has_budget prints number (node ∷ nodes) = ap suc (length-first has_budget prints (number + 1) nodes)

set_first : (is : Bool) → IsSet (first_side is false)
set_first true = refl
set_first false = refl

all_first : (prints : List ℕ) (number : ℕ) (nodes : List Node) → AllByRecursion IsSet (first_sides false prints number nodes)
all_first prints number [] = tt
all_first prints number (node ∷ nodes) = (set_first (is_print prints number), all_first prints (number + 1) nodes)

first_of_print : (is has_budget : Bool) → is ≡ true → Some (first_side is has_budget) ≡ Some (Some App)
first_of_print true has_budget e = refl
first_of_print false has_budget e = absurd (false≢true e)

first_prints : (has_budget : Bool) (prints : List ℕ) (number : ℕ) (nodes : List Node) (place : ℕ) → place < length nodes → is_print prints (place + number) ≡ true → slice_get (first_sides has_budget prints number nodes) place ≡ Some (Some App)
first_prints has_budget prints number [] place h e = absurd (omega (arith, h))
first_prints has_budget prints number (node ∷ nodes) zero h e =
    let same : zero + number ≡ number = omega arith in
    first_of_print (is_print prints number) has_budget (ap (is_print prints) (sym same) ∙ e)
first_prints has_budget prints number (node ∷ nodes) (suc place) h e =
    let same : place + (number + 1) ≡ suc place + number = omega arith in
    first_prints has_budget prints (number + 1) nodes place (omega (arith, h)) (ap (is_print prints) same ∙ e)

set_stays : (sides : List (Option Side)) (at place : ℕ) (side : Option Side) → slice_get sides place ≡ Some (Some App) → (at ≡ place → side ≡ Some App) → slice_get (slice_set sides at side) place ≡ Some (Some App)
set_stays [] at place side h same = h
set_stays (own ∷ sides) zero zero side h same = ap Some (same refl)
set_stays (own ∷ sides) zero (suc place) side h same = h
set_stays (own ∷ sides) (suc at) zero side h same = h
set_stays (own ∷ sides) (suc at) (suc place) side h same = set_stays sides at place side h (λ e. same (ap suc e))

stays_app : (prints : List ℕ) (side : Side) (at place : ℕ) → (is_db side && is_print prints (suc at)) ≡ false → is_print prints (place + 1) ≡ true → at ≡ place → Some side ≡ Some App
stays_app prints App at place f e same = refl
stays_app prints Db at place f e same =
    let number : suc at ≡ place + 1 = omega (arith, same) in
    absurd (false≢true (sym f ∙ ap (is_print prints) number ∙ e))

module _ (code : Code) where
  one_stays : (side : Side) (number : ℕ) (sides : List (Option Side)) → (is_db side && is_print (prints_of code) number) ≡ false → PrintsStay code sides → PrintsStay code (with_side side number sides)
  one_stays side zero sides f stay = stay
  one_stays side (suc at) sides f stay = λ place h e. set_stays sides at place (Some side) (stay place h e) (stays_app (prints_of code) side at place f e)

  none_first : (is any : Bool) → (is || any) ≡ false → is ≡ false
  none_first true any f = absurd (false≢true (sym f))
  none_first false any f = refl

  none_more : (is any : Bool) → (is || any) ≡ false → any ≡ false
  none_more true any f = absurd (false≢true (sym f))
  none_more false any f = f

  all_stay : (side : Side) (numbers : List ℕ) (sides : List (Option Side)) → places_print (prints_of code) side numbers ≡ false → PrintsStay code sides → PrintsStay code (with_sides side numbers sides)
  all_stay side [] sides f stay = stay
  all_stay App (number ∷ numbers) sides f stay = all_stay App numbers (with_side App number sides) refl (one_stays App number sides refl stay)
  all_stay Db (number ∷ numbers) sides f stay =
      all_stay Db numbers (with_side Db number sides) (none_more (is_print (prints_of code) number) (list_any (is_print (prints_of code)) numbers) f) (one_stays Db number sides (none_first (is_print (prints_of code) number) (list_any (is_print (prints_of code)) numbers) f) stay)

length-side : (side : Side) (number : ℕ) (sides : List (Option Side)) → length (with_side side number sides) ≡ length sides
length-side side zero sides = refl
length-side side (suc place) sides = length-set sides place (Some side)

length-sides : (side : Side) (numbers : List ℕ) (sides : List (Option Side)) → length (with_sides side numbers sides) ≡ length sides
length-sides side [] sides = refl
length-sides side (number ∷ numbers) sides = length-sides side numbers (with_side side number sides) ∙ length-side side number sides

side_set : (side : Side) (number : ℕ) (sides : List (Option Side)) → AllByRecursion IsSet sides → AllByRecursion IsSet (with_side side number sides)
side_set side zero sides all = all
side_set side (suc place) sides all = all_set IsSet sides place (Some side) all refl

sides_set : (side : Side) (numbers : List ℕ) (sides : List (Option Side)) → AllByRecursion IsSet sides → AllByRecursion IsSet (with_sides side numbers sides)
sides_set side [] sides all = all
sides_set side (number ∷ numbers) sides all = sides_set side numbers (with_side side number sides) (side_set side number sides all)

-- ---- one part

within_budget : (budget : Option ℕ) → is_too_much budget ≡ false → IfSome budget (λ most. most ≤ max_budget)
within_budget None f = tt
within_budget (Some budget) f = omega (arith, leb-false (max_budget + 1) budget f)

new_all : (code : Code) (budget : Option ℕ) → budget ≡ None → AllByRecursion IsSet (first_sides (is_some budget) (prints_of code) 1 code.nodes)
new_all code budget e = subst (λ (b : Option ℕ). AllByRecursion IsSet (first_sides (is_some b) (prints_of code) 1 code.nodes)) (sym e) (all_first (prints_of code) 1 code.nodes)

pub new_fits : (code : Code) (name : List ℕ) (bounds : Bounds) → bounds.upto ≤ full → IfSome bounds.budget (λ most. most ≤ max_budget) → IsPartOf code (new_part code name bounds)
new_fits code name bounds upto budget =
    record {
      upto = upto;
      budget = budget;
      nodes = length-first (is_some bounds.budget) (prints_of code) 1 code.nodes;
      sides = λ e. new_all code bounds.budget e;
      prints = λ place h e. first_prints (is_some bounds.budget) (prints_of code) 1 code.nodes place h e;
    }

pub placed_fits : (code : Code) (side : Side) (numbers : List ℕ) (part : Part) → places_print (prints_of code) side numbers ≡ false → IsPartOf code part → IsPartOf code (placed side numbers part)
placed_fits code side numbers part f p =
    record {
      upto = p.upto;
      budget = p.budget;
      nodes = length-sides side numbers part.sides.sides ∙ p.nodes;
      sides = λ e. sides_set side numbers part.sides.sides (p.sides e);
      prints = all_stay code side numbers part.sides.sides f p.prints;
    }

-- ---- all parts

names_more : (before parts : List Part) (part : Part) → HaveNewNames before parts → repeats_name (before ++ parts) part.name ≡ false → HaveNewNames before (parts ++ part ∷ [])
names_more before [] part h k = (ap (λ (ps : List Part). repeats_name ps part.name) (sym (append-nil before)) ∙ k, tt)
names_more before (other ∷ parts) part h k = (h.0, names_more (before ++ other ∷ []) parts part h.1 (ap (λ (all : List Part). repeats_name all part.name) (append_assoc before (other ∷ []) parts) ∙ k))

names_placed : (before parts : List Part) (side : Side) (numbers : List ℕ) (part : Part) → HaveNewNames before (parts ++ part ∷ []) → HaveNewNames before (parts ++ placed side numbers part ∷ [])
names_placed before [] side numbers part h = (h.0, tt)
names_placed before (other ∷ parts) side numbers part h = (h.0, names_placed (before ++ other ∷ []) parts side numbers part h.1)

rise_more : (parts : List Part) (last part : Part) → Rise (parts ++ last ∷ []) → last.upto < part.upto → Rise ((parts ++ last ∷ []) ++ part ∷ [])
rise_more [] last part h k = (k, tt)
rise_more (other ∷ []) last part h k = (h.0, (k, tt))
rise_more (other ∷ next ∷ parts) last part h k = (h.0, rise_more (next ∷ parts) last part h.1 k)

rise_placed : (parts : List Part) (side : Side) (numbers : List ℕ) (part : Part) → Rise (parts ++ part ∷ []) → Rise (parts ++ placed side numbers part ∷ [])
rise_placed [] side numbers part h = tt
rise_placed (other ∷ []) side numbers part h = (h.0, tt)
rise_placed (other ∷ next ∷ parts) side numbers part h = (h.0, rise_placed (next ∷ parts) side numbers part h.1)

end_full : (parts : List Part) (part : Part) → part.upto ≡ full → EndFull (parts ++ part ∷ [])
end_full [] part e = e
end_full (other ∷ []) part e = e
end_full (other ∷ next ∷ parts) part e = end_full (next ∷ parts) part e

all_placed : (code : Code) (parts : List Part) (side : Side) (numbers : List ℕ) (part : Part) → places_print (prints_of code) side numbers ≡ false → AllByRecursion (IsPartOf code) (parts ++ part ∷ []) → AllByRecursion (IsPartOf code) (parts ++ placed side numbers part ∷ [])
all_placed code [] side numbers part f h = (placed_fits code side numbers part f h.0, tt)
all_placed code (other ∷ parts) side numbers part f h = (h.0, all_placed code parts side numbers part f h.1)

-- ---- the parts that have begun, in a file of so many

-- the first part has none before it
abbrev OnlyFirst : List Part → Option Part → Type 0
OnlyFirst before None = before ≡ []
OnlyFirst before (Some part) = Unit {0}

-- the last part of all serves up to the full load
abbrev EndsWell : ℕ → ℕ → Option Part → Type 0
EndsWell all begun None = Unit {0}
EndsWell all begun (Some part) = begun ≡ all → part.upto ≡ full

pub record PartsHold (code : Code) (all : ℕ) (before : List Part) (last : Option Part) : Type 0 where
  pub parts : AllByRecursion (IsPartOf code) (before ++ last_of last)
  pub names : HaveNewNames [] (before ++ last_of last)
  pub rise : Rise (before ++ last_of last)
  pub count : length (before ++ last_of last) ≤ max_parts
  pub only : OnlyFirst before last
  pub end : EndsWell all (length (before ++ last_of last)) last

pub none_hold : (code : Code) (all : ℕ) → PartsHold code all [] None
none_hold code all = record { parts = tt; names = tt; rise = tt; count = omega arith; only = refl; end = tt }

pub placed_hold : (code : Code) (all : ℕ) (before : List Part) (part : Part) (side : Side) (numbers : List ℕ) → places_print (prints_of code) side numbers ≡ false → PartsHold code all before (Some part) → PartsHold code all before (Some (placed side numbers part))
placed_hold code all before part side numbers f h =
    let same : length (before ++ placed side numbers part ∷ []) ≡ length (before ++ part ∷ []) = length-append before (placed side numbers part ∷ []) ∙ sym (length-append before (part ∷ [])) in
    record {
      parts = all_placed code before side numbers part f h.parts;
      names = names_placed [] before side numbers part h.names;
      rise = rise_placed before side numbers part h.rise;
      count = subst (λ (n : ℕ). n ≤ max_parts) (sym same) h.count;
      only = tt;
      end = λ e. h.end (sym same ∙ e);
    }

rise_next : (before : List Part) (last : Option Part) (part : Part) → OnlyFirst before last → Rise (before ++ last_of last) → is_not_above last part.upto ≡ false → Rise ((before ++ last_of last) ++ part ∷ [])
rise_next before None part only rise above = subst (λ (ps : List Part). Rise ((ps ++ []) ++ part ∷ [])) (sym only) tt
rise_next before (Some last) part only rise above = rise_more before last part rise (leb-false part.upto last.upto above)

ends_by : (all begun upto : ℕ) (last not_full : Bool) → (begun + 1 == all) ≡ last → not (upto == full) ≡ not_full → (last && not_full) ≡ false → begun + 1 ≡ all → upto ≡ full
ends_by all begun upto true true e f g h = absurd (false≢true (sym g))
ends_by all begun upto true false e f g h = grind (arith, f)
ends_by all begun upto false not_full e f g h = grind (arith, e, h)

pub part_holds : (code : Code) (all : ℕ) (before : List Part) (last : Option Part) (name : List ℕ) (bounds : Bounds) → repeats_name (before ++ last_of last) name ≡ false → is_out_of_range bounds ≡ false → is_not_above last bounds.upto ≡ false → ends_low (length (before ++ last_of last)) all bounds.upto ≡ false → is_part_too_many (length (before ++ last_of last)) ≡ false → PartsHold code all before last → PartsHold code all (before ++ last_of last) (Some (new_part code name bounds))
part_holds code all before last name bounds repeats range above low many h =
    let begun : List Part = before ++ last_of last in
    let part : Part = new_part code name bounds in
    let more : length (begun ++ part ∷ []) ≡ length begun + 1 = length-append begun (part ∷ []) in
    let upto : bounds.upto ≤ full = omega (arith, leb-false (full + 1) bounds.upto (none_first code (nat_lt full bounds.upto) (is_too_much bounds.budget) range)) in
    let room : length begun < max_parts = leb-false max_parts (length begun) many in
    let budget : IfSome bounds.budget (λ most. most ≤ max_budget) = within_budget bounds.budget (none_more code (nat_lt full bounds.upto) (is_too_much bounds.budget) range) in
    record {
      parts = all_append (IsPartOf code) begun (part ∷ []) h.parts (new_fits code name bounds upto budget, tt);
      names = names_more [] begun part h.names repeats;
      rise = rise_next before last part h.only h.rise above;
      count = omega (arith, more, room);
      only = tt;
      end = λ e. ends_by all (length begun) bounds.upto (length begun + 1 == all) (not (bounds.upto == full)) refl refl low (sym more ∙ e);
    }

-- ---- all of a job

pub record PartsFit (code : Code) (all : List Part) : Type 0 where
  pub parts : AllByRecursion (IsPartOf code) all
  pub names : HaveNewNames [] all
  pub rise : Rise all
  pub end : EndFull all
  pub count : length all ≤ max_parts

some_parts : (code : Code) (before : List Part) (part : Part) → parts_or_app code (before ++ part ∷ []) ≡ before ++ part ∷ []
some_parts code [] part = refl
some_parts code (other ∷ before) part = refl

app_fits : (code : Code) → PartsFit code (parts_or_app code [])
app_fits code = record { parts = (new_fits code (codes "app") whole_load (omega arith) tt, tt); names = (refl, tt); rise = tt; end = refl; count = omega arith }

pub parts_fit : (code : Code) (all : ℕ) (before : List Part) (last : Option Part) → length (before ++ last_of last) ≡ all → PartsHold code all before last → PartsFit code (parts_or_app code (before ++ last_of last))
parts_fit code all before None e h = subst (λ (ps : List Part). PartsFit code (parts_or_app code (ps ++ []))) (sym h.only) (app_fits code)
parts_fit code all before (Some part) e h =
    subst (PartsFit code) (sym (some_parts code before part)) (record { parts = h.parts; names = h.names; rise = h.rise; end = end_full before part (h.end e); count = h.count })
