-- What a program asks fits the tables that it declares.
use Rattle.std.proofs.Common.{◌≡◌, ℕ, zero, suc, ◌+◌, Bool, true, false, ◌&&◌, List, [], ◌∷◌, ◌++◌, map, length, Option, Some, None, slice_get, unwrap_or, if◌then◌else◌, refl, sym, ap, ◌∙◌, subst}
use Rattle.std.specs.Prelude.{nat_lt, nat_le}
use Rattle.std.specs.List.{list_all}
use Rattle.std.specs.Option.{option_map}
use Rattle.std.proofs.lemmas.Bool.{ltb-true}
use Rattle.std.proofs.lemmas.List.{length-map}
use Rattle.px_value.specs.declared.schema.Schema.{Schema}
use Rattle.px_value.specs.declared.schema.Table.{Table}
use Rattle.px_value.specs.declared.schema.Column.{Column}
use Rattle.px_value.specs.declared.statement.Statement.{Statement}
use Rattle.px_value.specs.declared.statement.Statement.TheVariants as s
use Rattle.px_tree.specs.declared.Name.{Name}
use Rattle.px_tree.specs.declared.Expr.{Expr}
use Rattle.px_tree.specs.declared.ExprForm.TheVariants as e
use Rattle.px_tree.specs.declared.Stmt.{Stmt}
use Rattle.px_tree.specs.declared.Member.{Member}
use Rattle.px_tree.specs.declared.Class.{Class}
use Rattle.px_facts.specs.declared.operation.Operation.{Operation}
use Rattle.px_types.specs.declared.node.Node.{Node}
use Rattle.px_types.specs.declared.home.Home.{Home}
use Rattle.px_types.specs.declared.scope.Scope.{Scope}
use Rattle.px_types.specs.declared.database.Verb.{Verb}
use Rattle.px_types.specs.Database.{Written, Bare, Literal, Other, written, asked, fits_verb, if_fitting, operation_of, asked_operation, column_type}
use Rattle.px_types.specs.Known.{Known, known, all_nodes, argument_nodes, operation_in, database_node}
use Rattle.px_types.specs.Told.{Told, told, in_order}
use Rattle.px_types.specs.Slots.{first_scope}
use Rattle.px_types.specs.Bodies.{with_params, told_body, class_found, all_found, next_class}
use Rattle.px_types.specs.Sites.{if_any, operations_in}
use Rattle.px_types.proofs.KnownForms.{known_by_form, known_number, known_text, known_true, known_false, known_null, known_this, known_name, known_group, known_field, known_index, known_own_call, known_call, known_database_call, known_new, known_new_array, known_prefix, known_binary}
use Rattle.px_types.proofs.ToldForms.{told_block, told_empty, told_local, told_assign, told_compound, told_up, told_down, told_call, told_if, told_while, told_for, told_return, told_print}
use Rattle.px_sql.specs.Words.{columns_of, table_columns, has_place, are_columns, is_over, words_of, max_listed}
use Rattle.px_sql.specs.Parameters as sql
use Rattle.px_sql.specs.Reading.{statement_of, if_spelled, statement_if, is_trimmed, pieces_of, likely}
use Rattle.px_sql.specs.Spelling.{fit}
use Rattle.px_sql.specs.Tables.{is_small}
use Rattle.px_mean.specs.Facts.{by_number}
use Rattle.px_mean.specs.TypedRuns.{width_at, AllBelow, FitsTables}
use Rattle.px_soundness.specs.Numbered.{IsExpr, AreExprs, IsStmt, AreStmts, AreMembers, AreClasses}
use Rattle.px_soundness.specs.Laws.{width_of, widths_of}
use Rattle.px_soundness.proofs.Clean.{and_left, and_right, some_is}

-- ---- a statement over a schema

column_count : (tables : List Table) (table : ℕ) → unwrap_or (slice_get (map width_of tables) table) 0 ≡ length (table_columns (slice_get tables table))
column_count [] table = refl
column_count (t ∷ ts) zero = refl
column_count (t ∷ ts) (suc table) = column_count ts table

all_below : (n : ℕ) (cs : List ℕ) → list_all (λ c. nat_lt c n) cs ≡ true → AllBelow n cs
all_below n [] h = tt
all_below n (c ∷ cs) h = (ltb-true c n (and_left (nat_lt c n) (list_all (λ c. nat_lt c n) cs) h), all_below n cs (and_right (nat_lt c n) (list_all (λ c. nat_lt c n) cs) h))

columns_fit : (schema : Schema) (table : ℕ) (cs : List ℕ) → are_columns (columns_of schema table) cs ≡ true → AllBelow (width_at (widths_of schema) table) cs
columns_fit schema table cs h =
    let n = length (columns_of schema table) in
    subst (λ k. AllBelow k cs) (sym (column_count schema.tables table)) (all_below n cs (and_right (nat_lt 0 (length cs) && nat_le (length cs) max_listed) (list_all (λ c. nat_lt c n) cs) h))

over_fits : (schema : Schema) (x : Statement) → is_over schema x ≡ true → FitsTables (widths_of schema) x (length (map column_type (sql.parameters schema x)))
over_fits schema (s.ByKey table cs) h = columns_fit schema table cs (and_right (has_place schema table) (are_columns (columns_of schema table) cs) h)
over_fits schema (s.ByColumn table cs column) h = columns_fit schema table cs (and_right (has_place schema table) (are_columns (columns_of schema table) cs) (and_left (has_place schema table && are_columns (columns_of schema table) cs) _ h))
over_fits schema (s.All table cs) h = columns_fit schema table cs (and_right (has_place schema table) (are_columns (columns_of schema table) cs) h)
over_fits schema (s.Update table cs) h = tt
over_fits schema (s.Insert table) h = length-map (sql.parameters schema (s.Insert table)) column_type ∙ length-map (columns_of schema table) (λ (c : Column). c.ty) ∙ sym (column_count schema.tables table)
over_fits schema (s.Delete table) h = tt

over_if : (schema : Schema) (b : Bool) (x y : Statement) → is_over schema x ≡ b → statement_if b x ≡ Some y → is_over schema y ≡ true
over_if schema true x y e h = subst (λ (z : Statement). is_over schema z ≡ true) (some_is h) e
over_if schema false x y e h = absurd (cc h)

over_spelled : (schema : Schema) (a b : Bool) (x y : Statement) → is_over schema x ≡ a → statement_if (a && b) x ≡ Some y → is_over schema y ≡ true
over_spelled schema true true x y e h = over_if schema true x y e h
over_spelled schema true false x y e h = absurd (cc h)
over_spelled schema false b x y e h = absurd (cc h)

over_trimmed : (schema : Schema) (small trimmed : Bool) (pieces : List (List ℕ)) (x y : Statement) → (if small then (if trimmed then if_spelled schema pieces x else None) else None) ≡ Some y → is_over schema y ≡ true
over_trimmed schema true true pieces x y h = over_spelled schema (is_over schema x) (fit (words_of schema x) pieces) x y refl h
over_trimmed schema true false pieces x y h = absurd (cc h)
over_trimmed schema false trimmed pieces x y h = absurd (cc h)

read_over : (schema : Schema) (text : List ℕ) (y : Statement) → statement_of schema text ≡ Some y → is_over schema y ≡ true
unfolding statement_of
read_over schema text y h = over_trimmed schema (is_small schema) (is_trimmed text) (pieces_of text) (likely schema (pieces_of text)) y h

-- ---- an operation of a text

abbrev FitsSchema : Schema → Operation → Type 0
FitsSchema schema o = FitsTables (widths_of schema) o.statement (length o.params)

fits_if : (schema : Schema) (b : Bool) (x : Statement) (o : Operation) → is_over schema x ≡ true → option_map (operation_of schema) (if b then Some x else None) ≡ Some o → FitsSchema schema o
fits_if schema true x o h e = subst (FitsSchema schema) (some_is e) (over_fits schema x h)
fits_if schema false x o h e = absurd (cc e)

fits_found : (schema : Schema) (v : Verb) (found : Option Statement) (o : Operation) → ((x : Statement) → found ≡ Some x → is_over schema x ≡ true) → option_map (operation_of schema) (if_fitting v found) ≡ Some o → FitsSchema schema o
fits_found schema v None o h e = absurd (cc e)
fits_found schema v (Some x) o h e = fits_if schema (fits_verb v x) x o (h x refl) e

asked_fits : (schema : Schema) (v : Verb) (text : List ℕ) (o : Operation) → asked_operation schema v text ≡ Some o → FitsSchema schema o
asked_fits schema v text o h = fits_found schema v (statement_of schema text) o (λ x e. read_over schema text x e) h

-- ---- what is known of a tree

module _ (schema : Schema) where
  abbrev Fits : Node → Type 0
  Fits n = (o : Operation) → n.operation ≡ Some o → FitsSchema schema o

  abbrev AllFit : List Node → Type 0
  AllFit [] = Unit {0}
  AllFit (n ∷ ns) = Fits n × AllFit ns

  fit_both : (xs ys : List Node) → AllFit xs → AllFit ys → AllFit (xs ++ ys)
  fit_both [] ys h k = k
  fit_both (x ∷ xs) ys h k = (h.0, fit_both xs ys h.1 k)

  none_asked : (o : Operation) → ◌≡◌ {A = Option Operation} None (Some o) → FitsSchema schema o
  none_asked o h = absurd (cc h)

  text_asked : (v : Verb) (text : Written) (o : Operation) → operation_in schema v text ≡ Some o → FitsSchema schema o
  text_asked v (Literal bytes token) o h = asked_fits schema v bytes o h
  text_asked v (Bare name) o h = absurd (cc h)
  text_asked v Other o h = absurd (cc h)

  abbrev AllOperationsFit : List Operation → Type 0
  AllOperationsFit [] = Unit {0}
  AllOperationsFit (o ∷ os) = FitsSchema schema o × AllOperationsFit os

  with_any : (found : Option Operation) (os : List Operation) → ((o : Operation) → found ≡ Some o → FitsSchema schema o) → AllOperationsFit os → AllOperationsFit (if_any found ++ os)
  with_any None os h k = k
  with_any (Some o) os h k = (h o refl, k)

  operations_fit : (ns : List Node) → AllFit ns → AllOperationsFit (operations_in ns)
  operations_fit [] h = tt
  operations_fit (n ∷ ns) h = with_any n.operation (operations_in ns) h.0 (operations_fit ns h.1)

  pub operation_at : (os : List Operation) (place : ℕ) (o : Operation) → AllOperationsFit os → slice_get os place ≡ Some o → FitsSchema schema o
  operation_at [] place o h e = absurd (cc e)
  operation_at (x ∷ os) zero o h e = subst (FitsSchema schema) (some_is e) h.0
  operation_at (x ∷ os) (suc place) o h e = operation_at os place o h.1 e

  module _ (H : Home) (over : H.classes.library.schema ≡ schema) where
    abbrev Means : Expr → Type 0
    Means x = (s : Scope) → AllFit (all_nodes (known H x s))

    abbrev AllMean : List Expr → Type 0
    AllMean xs = (s : Scope) → AllFit (argument_nodes s (map (known H) xs))

    by : (x : Expr) (s : Scope) (k : Known) → known H x s ≡ k → AllFit (all_nodes k) → AllFit (all_nodes (known H x s))
    by x s k h a = subst (λ (z : Known). AllFit (all_nodes z)) (sym h) a

    database_asked : (v : Verb) (text : Written) → Fits (database_node H v text)
    database_asked v text o h = text_asked v text o (ap (λ (z : Schema). operation_in z v text) (sym over) ∙ h)

    call_asked : (x of : Expr) (name : Name) (args : List Expr) (v : Option Verb) → x.form ≡ e.Call (Some of) name args → asked (written of) name.bytes ≡ v → Means of → AllMean args → Means x
    call_asked x of name args None h q d f s = by x s _ (known_by_form H x s ∙ known_call H x.form s of of name args h refl q) (none_asked, fit_both (all_nodes (known H of s)) (argument_nodes s (map (known H) args)) (d s) (f s))
    call_asked x of name args (Some v) h q d f s = by x s _ (known_by_form H x s ∙ known_database_call H x.form s of of name args v h refl q) (database_asked v _, (none_asked, f s))

    mutual
      expression_asked : (n m : ℕ) (x : Expr) → IsExpr n x m → Means x
      expression_asked _ _ _ (IsExpr.number x digits long h) s = by x s _ (known_by_form H x s ∙ known_number H x.form s digits long h) (none_asked, tt)
      expression_asked _ _ _ (IsExpr.text x bytes h) s = by x s _ (known_by_form H x s ∙ known_text H x.form s bytes h) (none_asked, tt)
      expression_asked _ _ _ (IsExpr.truth x h) s = by x s _ (known_by_form H x s ∙ known_true H x.form s h) (none_asked, tt)
      expression_asked _ _ _ (IsExpr.falsehood x h) s = by x s _ (known_by_form H x s ∙ known_false H x.form s h) (none_asked, tt)
      expression_asked _ _ _ (IsExpr.null x h) s = by x s _ (known_by_form H x s ∙ known_null H x.form s h) (none_asked, tt)
      expression_asked _ _ _ (IsExpr.this x h) s = by x s _ (known_by_form H x s ∙ known_this H x.form s h) (none_asked, tt)
      expression_asked _ _ _ (IsExpr.variable x name h) s = by x s _ (known_by_form H x s ∙ known_name H x.form s name h) (none_asked, tt)
      expression_asked _ _ _ (IsExpr.group m x y h d) s = by x s _ (known_by_form H x s ∙ known_group H x.form s y y h refl) (none_asked, expression_asked (x.id + 1) m y d s)
      expression_asked _ _ _ (IsExpr.field m x of name h d) s = by x s _ (known_by_form H x s ∙ known_field H x.form s name of of h refl) (none_asked, expression_asked (x.id + 1) m of d s)
      expression_asked _ _ _ (IsExpr.indexed k m x of at h d f) s = by x s _ (known_by_form H x s ∙ known_index H x.form s of of at at h refl refl) (none_asked, fit_both (all_nodes (known H of s)) (all_nodes (known H at s)) (expression_asked (x.id + 1) k of d s) (expression_asked k m at f s))
      expression_asked _ _ _ (IsExpr.own_call m x name args h d) s = by x s _ (known_by_form H x s ∙ known_own_call H x.form s name args h) (none_asked, arguments_asked (x.id + 1) m args d s)
      expression_asked _ _ _ (IsExpr.call k m x of name args h d f) s = call_asked x of name args (asked (written of) name.bytes) h refl (expression_asked (x.id + 1) k of d) (arguments_asked k m args f) s
      expression_asked _ _ _ (IsExpr.new_object x name h) s = by x s _ (known_by_form H x s ∙ known_new H x.form s name h) (none_asked, tt)
      expression_asked _ _ _ (IsExpr.new_array m x b size h i d) s = by x s _ (known_by_form H x s ∙ known_new_array H x.form s b size size h refl) (none_asked, expression_asked (x.id + 1) m size d s)
      expression_asked _ _ _ (IsExpr.prefix m x sign y h i d) s = by x s _ (known_by_form H x s ∙ known_prefix H x.form s sign y y h refl) (none_asked, expression_asked (x.id + 1) m y d s)
      expression_asked _ _ _ (IsExpr.binary k m x sign at y z h i d f) s = by x s _ (known_by_form H x s ∙ known_binary H x.form s sign at y y z z h refl refl) (none_asked, fit_both (all_nodes (known H y s)) (all_nodes (known H z s)) (expression_asked (x.id + 1) k y d s) (expression_asked k m z f s))

      arguments_asked : (n m : ℕ) (xs : List Expr) → AreExprs n xs m → AllMean xs
      arguments_asked _ _ _ (AreExprs.none n) s = tt
      arguments_asked _ _ _ (AreExprs.more n k m x xs d ds) s = fit_both (all_nodes (known H x s)) (argument_nodes s (map (known H) xs)) (expression_asked n k x d s) (arguments_asked k m xs ds s)

    tells : (x : Stmt) (s : Scope) (t : Told) → told H x s ≡ t → AllFit t.nodes → AllFit (told H x s).nodes
    tells x s t h a = subst (λ (z : Told). AllFit z.nodes) (sym h) a

    mutual
      statement_asked : (n m : ℕ) (x : Stmt) → IsStmt n x m → (s : Scope) → AllFit (told H x s).nodes
      statement_asked _ _ _ (IsStmt.block m x items h d) s = tells x s _ (told_block H x s items h) (none_asked, statements_asked (x.id + 1) m items d s)
      statement_asked _ _ _ (IsStmt.empty x h) s = tells x s _ (told_empty H x s h) (none_asked, tt)
      statement_asked _ _ _ (IsStmt.local m x t name value h i d) s = tells x s _ (told_local H x s t name value h) (none_asked, expression_asked (x.id + 1) m value d s)
      statement_asked _ _ _ (IsStmt.assign k m x place value h d f) s = tells x s _ (told_assign H x s place value h) (none_asked, fit_both (all_nodes (known H place s)) (all_nodes (known H value s)) (expression_asked (x.id + 1) k place d s) (expression_asked k m value f s))
      statement_asked _ _ _ (IsStmt.compound m x name sign value h d) s = tells x s _ (told_compound H x s name sign value h) (none_asked, expression_asked (x.id + 1) m value d s)
      statement_asked _ _ _ (IsStmt.up x name h) s = tells x s _ (told_up H x s name h) (none_asked, tt)
      statement_asked _ _ _ (IsStmt.down x name h) s = tells x s _ (told_down H x s name h) (none_asked, tt)
      statement_asked _ _ _ (IsStmt.call m x value h d) s = tells x s _ (told_call H x s value h) (none_asked, expression_asked (x.id + 1) m value d s)
      statement_asked _ _ _ (IsStmt.if_only k m x test a h d g) s = tells x s _ (told_if H x s test None a a h refl) (none_asked, fit_both (all_nodes (known H test s)) ((told H a s).nodes ++ []) (expression_asked (x.id + 1) k test d s) (fit_both (told H a s).nodes [] (statement_asked k m a g s) tt))
      statement_asked _ _ _ (IsStmt.if_else k j m x test a b h d g i) s =
          let t = told H a s in
          let u = told H b t.scope in
          tells x s _ (told_if H x s test (Some b) a a h refl) (none_asked, fit_both (all_nodes (known H test s)) (t.nodes ++ u.nodes) (expression_asked (x.id + 1) k test d s) (fit_both t.nodes u.nodes (statement_asked k j a g s) (statement_asked j m b i t.scope)))
      statement_asked _ _ _ (IsStmt.while k m x test body h d g) s = tells x s _ (told_while H x s test body body h refl) (none_asked, fit_both (all_nodes (known H test s)) (told H body s).nodes (expression_asked (x.id + 1) k test d s) (statement_asked k m body g s))
      statement_asked _ _ _ (IsStmt.for_loop k j i m x first test last body h d g p q) s =
          let t = told H first s in
          let u = told H last t.scope in
          let v = told H body u.scope in
          let c = all_nodes (known H test t.scope) in
          tells x s _ (told_for H x s test first first last last body body h refl refl refl) (
            none_asked,
            fit_both t.nodes (c ++ (u.nodes ++ v.nodes)) (statement_asked (x.id + 1) k first d s) (fit_both c (u.nodes ++ v.nodes) (expression_asked k j test g t.scope) (fit_both u.nodes v.nodes (statement_asked j i last p t.scope) (statement_asked i m body q u.scope))),
          )
      statement_asked _ _ _ (IsStmt.leave x h) s = tells x s _ (told_return H x s None h) (none_asked, tt)
      statement_asked _ _ _ (IsStmt.give m x value h d) s = tells x s _ (told_return H x s (Some value) h) (none_asked, expression_asked (x.id + 1) m value d s)
      statement_asked _ _ _ (IsStmt.print m x value h d) s = tells x s _ (told_print H x s value h) (none_asked, expression_asked (x.id + 1) m value d s)

      statements_asked : (n m : ℕ) (xs : List Stmt) → AreStmts n xs m → (s : Scope) → AllFit (in_order (map (told H) xs) s).nodes
      statements_asked _ _ _ (AreStmts.none n) s = tt
      statements_asked _ _ _ (AreStmts.more n k m x xs d ds) s = fit_both (told H x s).nodes (in_order (map (told H) xs) (told H x s).scope).nodes (statement_asked n k x d s) (statements_asked k m xs ds (told H x s).scope)

    members_asked : (n m : ℕ) (ms : List Member) → AreMembers n ms m → AllFit (class_found H ms).nodes
    members_asked _ _ _ (AreMembers.none n) = tt
    members_asked _ _ _ (AreMembers.field n m f ms i d) = members_asked n m ms d
    members_asked _ _ _ (AreMembers.method n k m x ms ir ip b d) = fit_both (told_body H x).nodes (class_found H ms).nodes (statement_asked n k x.body b (with_params H.classes.numbers (first_scope H.this) x.params)) (members_asked k m ms d)

  classes_asked : (H : Home) → H.classes.library.schema ≡ schema → (n m : ℕ) (cs : List Class) → AreClasses n cs m → AllFit (all_found H cs).nodes
  classes_asked H over _ _ _ (AreClasses.none n) = tt
  classes_asked H over _ _ _ (AreClasses.more n k m c cs d ds) = fit_both (class_found H c.members).nodes (all_found (next_class H) cs).nodes (members_asked H over n k c.members d) (classes_asked (next_class H) over k m cs ds)

  pub all_asked : (H : Home) → H.classes.library.schema ≡ schema → (n m : ℕ) (cs : List Class) → AreClasses n cs m → (number : ℕ) (o : Operation) → by_number (operations_in (all_found H cs).nodes) number ≡ Some o → FitsSchema schema o
  all_asked H over n m cs d zero o h = absurd (cc h)
  all_asked H over n m cs d (suc place) o h = operation_at (operations_in (all_found H cs).nodes) place o (operations_fit (all_found H cs).nodes (classes_asked H over n m cs d)) h
