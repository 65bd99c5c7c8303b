-- One row more, and its key.
use Rattle.std.proofs.Common.{◌≡◌, ℕ, ◌==◌, ℤ, Bool, true, false, cond, ◌&&◌, ◌||◌, List, [], ◌∷◌, ◌++◌, Vec, refl, sym, ap, ◌∙◌}
use Rattle.std.specs.List.{list_any}
use Rattle.std.specs.HashSet.{HashSet}
use Rattle.std.specs.declared.alloc.Global.{Global}
use Rattle.std.proofs.lemmas.List.Folds.{list_any-append}
use Rattle.px_value.specs.declared.value.Value.{Value}
use Rattle.px_job.specs.Rows.{is_number, is_text, number_stands, text_stands}
use Rattle.px_job.specs.Keys.{Adds, AreKeys}
use Rattle.px_job.specs.declared.job.Row.{Row}

-- put in, or there before
pub put_or : (here before : Bool) → cond here true before ≡ (before || here)
put_or true true = refl
put_or true false = refl
put_or false true = refl
put_or false false = refl

or_none : (a b : Bool) → (a || b) ≡ (a || (b || false))
or_none true b = refl
or_none false true = refl
or_none false false = refl

any_more : (test : Row → Bool) (rows : List Row) (row : Row) → (list_any test rows || test row) ≡ list_any test (rows ++ row ∷ [])
any_more test rows row = or_none (list_any test rows) (test row) ∙ sym (list_any-append test rows (row ∷ []))

pub keys_more : {S T : Type 0} (old_numbers numbers : HashSet (ℕ × ℤ) S) (old_texts texts : HashSet (ℕ × Vec ℕ Global) T) (rows made : List Row) (row : Row) (values : List Value) → values ≡ row.values → made ≡ rows ++ row ∷ [] → AreKeys old_numbers old_texts rows → Adds old_numbers old_texts numbers texts row.table values → AreKeys numbers texts made
keys_more old_numbers numbers old_texts texts rows made row values v m keys adds = (
  (λ t n. adds.0 t n
      ∙ ap (λ (b : Bool). b || ((row.table == t) && is_number values n)) (keys.0 t n)
      ∙ ap (λ (vs : List Value). number_stands rows t n || ((row.table == t) && is_number vs n)) v
      ∙ any_more (λ r. (r.table == t) && is_number r.values n) rows row
      ∙ ap (λ (all : List Row). number_stands all t n) (sym m)),
  (λ t x. adds.1 t x
      ∙ ap (λ (b : Bool). b || ((row.table == t) && is_text values x.items)) (keys.1 t x)
      ∙ ap (λ (vs : List Value). text_stands rows t x.items || ((row.table == t) && is_text vs x.items)) v
      ∙ any_more (λ r. (r.table == t) && is_text r.values x.items) rows row
      ∙ ap (λ (all : List Row). text_stands all t x.items) (sym m)),
)
