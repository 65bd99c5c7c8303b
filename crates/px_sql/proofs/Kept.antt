-- Tables that are read keep the rule.
use Rattle.std.proofs.Common.{◌≡◌, ◌≤◌, ◌<◌, ℕ, ◌+◌, Bool, true, false, not, ◌&&◌, nat_lt, List, [], ◌∷◌, ◌++◌, length, map, Option, Some, None, Result, Ok, Err, IfOk, if◌then◌else◌, refl, ap, sym, ◌∙◌, subst, arith}
use Rattle.std.specs.List.{list_all}
use Rattle.std.specs.Str.{bytes_eq}
use Rattle.std.proofs.lemmas.Bool.{false≢true}
use Rattle.std.proofs.lemmas.Cmp.{nat_list_eq_equiv}
use Rattle.std.proofs.lemmas.List.{append_assoc, append-nil, length-append}
use Rattle.std.proofs.lemmas.List.Folds.{list_any-append, list_all-append}
use Rattle.px_tree.specs.declared.TableDecl.{TableDecl}
use Rattle.px_value.specs.declared.schema.Schema.{Schema}
use Rattle.px_value.specs.declared.schema.Table.{Table}
use Rattle.px_sql.specs.Tables.{table_of, has_table, tables_differ, is_table, keeps_rule, breach_from, first_breach, schema_unless, schema_of, IsRead, IsSchema, SchemasKeepTheRule}
use Rattle.px_sql.specs.declared.schema.SchemaError.{SchemaError}
use Rattle.px_sql.proofs.Places.{below}
use Rattle.px_sql.proofs.Truths.{and_first, and_second, both_of, or_first, or_second, none_of_two, not_true}

same_order : (a b : List ℕ) → bytes_eq a b ≡ bytes_eq b a
same_order a b = nat_list_eq_equiv.symm a b

-- one table of a new name behind others
differ_on : (before : List Table) (t : Table) → tables_differ before ≡ true → has_table t.name before ≡ false → tables_differ (before ++ t ∷ []) ≡ true
differ_on [] t d h = refl
differ_on (b ∷ before) t d h =
    let first : has_table b.name before ≡ false = not_true _ (and_first (not (has_table b.name before)) (tables_differ before) d) in
    let last : bytes_eq t.name b.name ≡ false = same_order t.name b.name ∙ or_first (bytes_eq b.name t.name) (has_table t.name before) h in
    let new : has_table b.name (before ++ t ∷ []) ≡ false = list_any-append (λ o. bytes_eq o.name b.name) before (t ∷ []) ∙ none_of_two _ _ first (none_of_two _ false last refl) in
    both_of _ _ (ap not new) (differ_on before t (and_second (not (has_table b.name before)) (tables_differ before) d) (or_second (bytes_eq b.name t.name) (has_table t.name before) h))

-- the tables so far keep the rule
record Keep (before : List Table) : Type 0 where
  few : length before ≤ 100
  named : tables_differ before ≡ true
  all : list_all (λ t. is_table t.columns) before ≡ true

keep_on : (before : List Table) (t : Table) → Keep before → keeps_rule before t ≡ true → Keep (before ++ t ∷ [])
keep_on before t is h =
    let two : (nat_lt (length before) 100 && not (has_table t.name before)) ≡ true = and_first (nat_lt (length before) 100 && not (has_table t.name before)) (is_table t.columns) h in
    let room : length before < 100 = below (length before) 100 (and_first (nat_lt (length before) 100) _ two) in
    let size : length (before ++ t ∷ []) ≡ length before + 1 = length-append before (t ∷ []) in
    record {
      few = omega (arith, room, size);
      named = differ_on before t is.named (not_true _ (and_second (nat_lt (length before) 100) _ two));
      all = list_all-append (λ o. is_table o.columns) before (t ∷ []) ∙ both_of _ _ is.all (both_of _ true (and_second (nat_lt (length before) 100 && not (has_table t.name before)) (is_table t.columns) h) refl);
    }

keep_by : (keeps : Bool) (before : List Table) (t : Table) (breach : Option ℕ) → (if keeps then breach else Some (length before)) ≡ None → (keeps ≡ true) × (breach ≡ None)
keep_by true before t breach h = (refl, h)
keep_by false before t breach h = absurd (some_none h)
  where
    is_none : Option ℕ → Bool
    is_none None = true
    is_none (Some n) = false

    some_none : {n : ℕ} → Some n ≡ None → ⊥
    some_none e = false≢true (ap is_none e)

keep_all : (before tables : List Table) → Keep before → breach_from before tables ≡ None → Keep (before ++ tables)
keep_all before [] is h = subst Keep (sym (append-nil before)) is
keep_all before (t ∷ ts) is h =
    let both : (keeps_rule before t ≡ true) × (breach_from (before ++ t ∷ []) ts ≡ None) = keep_by (keeps_rule before t) before t (breach_from (before ++ t ∷ []) ts) h in
    subst Keep (append_assoc before (t ∷ []) ts) (keep_all (before ++ t ∷ []) ts (keep_on before t is both.0) both.1)

kept_schema : (breach : Option ℕ) (tables : List Table) (schema : Schema) → schema_unless breach tables ≡ Ok schema → (breach ≡ None) × (tables ≡ schema.tables)
kept_schema None tables schema e = (refl, ap tables_in e)
  where
    tables_in : Result Schema ℕ → List Table
    tables_in (Ok s) = s.tables
    tables_in (Err n) = []
kept_schema (Some n) tables schema e = absurd (false≢true (ap is_read e))
  where
    is_read : Result Schema ℕ → Bool
    is_read (Ok s) = true
    is_read (Err n) = false

pub schemas_keep : SchemasKeepTheRule
schemas_keep declared schema e =
    let both : (first_breach (map table_of declared) ≡ None) × (map table_of declared ≡ schema.tables) = kept_schema (first_breach (map table_of declared)) (map table_of declared) schema e in
    let keep : Keep (map table_of declared) = keep_all [] (map table_of declared) (record { few = omega arith; named = refl; all = refl }) both.0 in
    let is : Keep schema.tables = subst Keep both.1 keep in
    record { few = is.few; named = is.named; all = is.all }

pub kept_if_read : (result : Result Schema SchemaError) (declared : List TableDecl) → IsRead result (schema_of declared) → IfOk result (λ schema. IsSchema schema)
kept_if_read (Ok schema) declared h = schemas_keep declared schema h
kept_if_read (Err e) declared h = tt
