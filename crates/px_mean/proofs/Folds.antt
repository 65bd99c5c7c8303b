-- Two folds over a tree are related where their steps are.
use Rattle.std.proofs.Common.{◌≡◌, ℕ, List, [], ◌∷◌, map, Some, None, refl, sym, ap, ◌∙◌, subst}
use Rattle.px_tree.specs.declared.Expr.{Expr, Expr-F, fold-Expr, fold-roll-Expr, ind-Expr, roll-Expr, map-Expr}
use Rattle.px_tree.specs.declared.ExprForm.{ExprForm, ExprForm-F, fold-ExprForm, fold-roll-ExprForm, roll-ExprForm, map-ExprForm}
use Rattle.px_tree.specs.declared.ExprForm.TheOpen.{ExprForm-F as f}
use Rattle.px_tree.specs.declared.Stmt.{Stmt, Stmt-F, fold-Stmt, fold-roll-Stmt, ind-Stmt, roll-Stmt, map-Stmt}
use Rattle.px_tree.specs.declared.StmtForm.{StmtForm, StmtForm-F, fold-StmtForm, fold-roll-StmtForm, roll-StmtForm, map-StmtForm}
use Rattle.px_tree.specs.declared.StmtForm.TheOpen.{StmtForm-F as g}

map_map_list : {A B C : Type 0} (h : A → B) (k : B → C) (xs : List A) → map k (map h xs) ≡ map (λ x. k (h x)) xs
map_map_list h k [] = refl
map_map_list h k (x ∷ xs) = ap (λ ys. k (h x) ∷ ys) (map_map_list h k xs)

module _ (X E X' E' X'' E'' : Type 0) (p : X → X') (q : E → E') (p' : X' → X'') (q' : E' → E'') where
  map_map_expr : (y : ExprForm-F X E) → map-ExprForm X' E' X'' E'' p' q' (map-ExprForm X E X' E' p q y) ≡ map-ExprForm X E X'' E'' (λ x. p' (p x)) (λ x. q' (q x)) y
  map_map_expr (f.Number d l) = refl
  map_map_expr (f.Str bytes) = refl
  map_map_expr f.True = refl
  map_map_expr f.False = refl
  map_map_expr f.Null = refl
  map_map_expr f.This = refl
  map_map_expr (f.Name n) = refl
  map_map_expr (f.Group e) = refl
  map_map_expr (f.Field e n) = refl
  map_map_expr (f.Index e i) = refl
  map_map_expr (f.Call None n args) = ap (f.Call None n) (map_map_list q q' args)
  map_map_expr (f.Call (Some e) n args) = ap (f.Call (Some (q' (q e))) n) (map_map_list q q' args)
  map_map_expr (f.NewObject n) = refl
  map_map_expr (f.NewArray b e) = refl
  map_map_expr (f.Prefix s e) = refl
  map_map_expr (f.Binary s at l r) = refl

  map_map_stmt : (y : StmtForm-F X E) → map-StmtForm X' E' X'' E'' p' q' (map-StmtForm X E X' E' p q y) ≡ map-StmtForm X E X'' E'' (λ x. p' (p x)) (λ x. q' (q x)) y
  map_map_stmt (g.Block xs) = ap g.Block (map_map_list q q' xs)
  map_map_stmt g.Empty = refl
  map_map_stmt (g.Local t n e) = refl
  map_map_stmt (g.Assign a b) = refl
  map_map_stmt (g.Compound n s e) = refl
  map_map_stmt (g.Up n) = refl
  map_map_stmt (g.Down n) = refl
  map_map_stmt (g.Call e) = refl
  map_map_stmt (g.If t a None) = refl
  map_map_stmt (g.If t a (Some b)) = refl
  map_map_stmt (g.While t a) = refl
  map_map_stmt (g.For a t l b) = refl
  map_map_stmt (g.Return None) = refl
  map_map_stmt (g.Return (Some e)) = refl
  map_map_stmt (g.Print e) = refl

abbrev pub Both : (A B : Type 0) → (A → B → Type 0) → Type 0
Both A B R = (a : A) × (b : B) × R a b

abbrev pub Later : (A B : Type 0) → (A → B → Type 0) → Type 0
Later A B R = (a : ℕ → A) × (b : ℕ → B) × ((i : ℕ) → R (a i) (b i))

-- ---- expressions

abbrev pub lefts : (A B : Type 0) (R : A → B → Type 0) → ExprForm-F (Later A B R) (Both A B R) → ExprForm-F (ℕ → A) A
lefts A B R z = map-ExprForm (Later A B R) (Both A B R) (ℕ → A) A (λ p. p.0) (λ p. p.0) z

abbrev pub rights : (A B : Type 0) (R : A → B → Type 0) → ExprForm-F (Later A B R) (Both A B R) → ExprForm-F (ℕ → B) B
rights A B R z = map-ExprForm (Later A B R) (Both A B R) (ℕ → B) B (λ p. p.1) (λ p. p.1) z

abbrev pub ExprStepsMeet : (A B : Type 0) → (ExprForm-F (ℕ → A) A → ℕ → A) → (ExprForm-F (ℕ → B) B → ℕ → B) → (A → B → Type 0) → Type 0
ExprStepsMeet A B step step' R = (z : ExprForm-F (Later A B R) (Both A B R)) (i : ℕ) → R (step (lefts A B R z) i) (step' (rights A B R z) i)

module _ (A B : Type 0) (step : ExprForm-F (ℕ → A) A → ℕ → A) (step' : ExprForm-F (ℕ → B) B → ℕ → B) (R : A → B → Type 0) where
  abbrev left : Expr → A
  left e = fold-Expr (ℕ → A) A step (λ x. x.form x.id) e

  abbrev right : Expr → B
  right e = fold-Expr (ℕ → B) B step' (λ x. x.form x.id) e

  abbrev left_form : ExprForm → ℕ → A
  left_form e = fold-ExprForm (ℕ → A) A step (λ x. x.form x.id) e

  abbrev right_form : ExprForm → ℕ → B
  right_form e = fold-ExprForm (ℕ → B) B step' (λ x. x.form x.id) e

  abbrev PE : Expr → Type 0
  PE e = R (left e) (right e)

  abbrev PF : ExprForm → Type 0
  PF e = (i : ℕ) → R (left_form e i) (right_form e i)

  abbrev later : ((a : ExprForm) × PF a) → Later A B R
  later p = (left_form p.0, right_form p.0, p.1)

  abbrev now : ((a : Expr) × PE a) → Both A B R
  now p = (left p.0, right p.0, p.1)

  of_form : ExprStepsMeet A B step step' R → (x : ExprForm-F ExprForm Expr) (y : ExprForm-F ((a : ExprForm) × PF a) ((a : Expr) × PE a)) → map-ExprForm ((a : ExprForm) × PF a) ((a : Expr) × PE a) ExprForm Expr (λ e. e.0) (λ e. e.0) y ≡ x → PF (roll-ExprForm x)
  of_form h x y e i =
      let z = map-ExprForm ((a : ExprForm) × PF a) ((a : Expr) × PE a) (Later A B R) (Both A B R) later now y in
      let l : map-ExprForm ExprForm Expr (ℕ → A) A left_form left x ≡ lefts A B R z =
      ap (map-ExprForm ExprForm Expr (ℕ → A) A left_form left) (sym e) ∙ map_map_expr _ _ _ _ _ _ (λ e. e.0) (λ e. e.0) left_form left y ∙ sym (map_map_expr _ _ _ _ _ _ later now (λ p. p.0) (λ p. p.0) y) in
      let r : map-ExprForm ExprForm Expr (ℕ → B) B right_form right x ≡ rights A B R z =
      ap (map-ExprForm ExprForm Expr (ℕ → B) B right_form right) (sym e) ∙ map_map_expr _ _ _ _ _ _ (λ e. e.0) (λ e. e.0) right_form right y ∙ sym (map_map_expr _ _ _ _ _ _ later now (λ p. p.1) (λ p. p.1) y) in
      let a = fold-roll-ExprForm (ℕ → A) A step (λ x. x.form x.id) x ∙ ap step l in
      let b = fold-roll-ExprForm (ℕ → B) B step' (λ x. x.form x.id) x ∙ ap step' r in
      subst (λ (q : ℕ → A). R (q i) (right_form (roll-ExprForm x) i)) (sym a) (subst (λ (q : ℕ → B). R (step (lefts A B R z) i) (q i)) (sym b) (h z i))

  of_expr : (x : Expr-F ExprForm Expr) (y : Expr-F ((a : ExprForm) × PF a) ((a : Expr) × PE a)) → map-Expr ((a : ExprForm) × PF a) ((a : Expr) × PE a) ExprForm Expr (λ e. e.0) (λ e. e.0) y ≡ x → PE (roll-Expr x)
  of_expr x y e =
      let x' = map-Expr ((a : ExprForm) × PF a) ((a : Expr) × PE a) ExprForm Expr (λ e. e.0) (λ e. e.0) y in
      subst (λ (w : Expr-F ExprForm Expr). PE (roll-Expr w)) e
      (subst (λ (q : A). R q (right (roll-Expr x'))) (sym (fold-roll-Expr (ℕ → A) A step (λ x. x.form x.id) x'))
      (subst (λ (q : B). R (left_form y.form.0 y.id) q) (sym (fold-roll-Expr (ℕ → B) B step' (λ x. x.form x.id) x')) (y.form.1 y.id)))

  pub exprs_meet : ExprStepsMeet A B step step' R → (e : Expr) → R (left e) (right e)
  exprs_meet h e = ind-Expr PF PE (of_form h) of_expr e

-- ---- statements

abbrev pub left_parts : (A B : Type 0) (R : A → B → Type 0) → StmtForm-F (Later A B R) (Both A B R) → StmtForm-F (ℕ → A) A
left_parts A B R z = map-StmtForm (Later A B R) (Both A B R) (ℕ → A) A (λ p. p.0) (λ p. p.0) z

abbrev pub right_parts : (A B : Type 0) (R : A → B → Type 0) → StmtForm-F (Later A B R) (Both A B R) → StmtForm-F (ℕ → B) B
right_parts A B R z = map-StmtForm (Later A B R) (Both A B R) (ℕ → B) B (λ p. p.1) (λ p. p.1) z

abbrev pub StmtStepsMeet : (A B : Type 0) → (StmtForm-F (ℕ → A) A → ℕ → A) → (StmtForm-F (ℕ → B) B → ℕ → B) → (A → B → Type 0) → Type 0
StmtStepsMeet A B step step' R = (z : StmtForm-F (Later A B R) (Both A B R)) (i : ℕ) → R (step (left_parts A B R z) i) (step' (right_parts A B R z) i)

module _ (A B : Type 0) (step : StmtForm-F (ℕ → A) A → ℕ → A) (step' : StmtForm-F (ℕ → B) B → ℕ → B) (R : A → B → Type 0) where
  abbrev first : Stmt → A
  first e = fold-Stmt (ℕ → A) A step (λ x. x.form x.id) e

  abbrev second : Stmt → B
  second e = fold-Stmt (ℕ → B) B step' (λ x. x.form x.id) e

  abbrev first_form : StmtForm → ℕ → A
  first_form e = fold-StmtForm (ℕ → A) A step (λ x. x.form x.id) e

  abbrev second_form : StmtForm → ℕ → B
  second_form e = fold-StmtForm (ℕ → B) B step' (λ x. x.form x.id) e

  abbrev PS : Stmt → Type 0
  PS e = R (first e) (second e)

  abbrev PSF : StmtForm → Type 0
  PSF e = (i : ℕ) → R (first_form e i) (second_form e i)

  abbrev later_stmt : ((a : StmtForm) × PSF a) → Later A B R
  later_stmt p = (first_form p.0, second_form p.0, p.1)

  abbrev now_stmt : ((a : Stmt) × PS a) → Both A B R
  now_stmt p = (first p.0, second p.0, p.1)

  of_stmt_form : StmtStepsMeet A B step step' R → (x : StmtForm-F StmtForm Stmt) (y : StmtForm-F ((a : StmtForm) × PSF a) ((a : Stmt) × PS a)) → map-StmtForm ((a : StmtForm) × PSF a) ((a : Stmt) × PS a) StmtForm Stmt (λ e. e.0) (λ e. e.0) y ≡ x → PSF (roll-StmtForm x)
  of_stmt_form h x y e i =
      let z = map-StmtForm ((a : StmtForm) × PSF a) ((a : Stmt) × PS a) (Later A B R) (Both A B R) later_stmt now_stmt y in
      let l : map-StmtForm StmtForm Stmt (ℕ → A) A first_form first x ≡ left_parts A B R z =
      ap (map-StmtForm StmtForm Stmt (ℕ → A) A first_form first) (sym e) ∙ map_map_stmt _ _ _ _ _ _ (λ e. e.0) (λ e. e.0) first_form first y ∙ sym (map_map_stmt _ _ _ _ _ _ later_stmt now_stmt (λ p. p.0) (λ p. p.0) y) in
      let r : map-StmtForm StmtForm Stmt (ℕ → B) B second_form second x ≡ right_parts A B R z =
      ap (map-StmtForm StmtForm Stmt (ℕ → B) B second_form second) (sym e) ∙ map_map_stmt _ _ _ _ _ _ (λ e. e.0) (λ e. e.0) second_form second y ∙ sym (map_map_stmt _ _ _ _ _ _ later_stmt now_stmt (λ p. p.1) (λ p. p.1) y) in
      let a = fold-roll-StmtForm (ℕ → A) A step (λ x. x.form x.id) x ∙ ap step l in
      let b = fold-roll-StmtForm (ℕ → B) B step' (λ x. x.form x.id) x ∙ ap step' r in
      subst (λ (q : ℕ → A). R (q i) (second_form (roll-StmtForm x) i)) (sym a) (subst (λ (q : ℕ → B). R (step (left_parts A B R z) i) (q i)) (sym b) (h z i))

  of_stmt : (x : Stmt-F StmtForm Stmt) (y : Stmt-F ((a : StmtForm) × PSF a) ((a : Stmt) × PS a)) → map-Stmt ((a : StmtForm) × PSF a) ((a : Stmt) × PS a) StmtForm Stmt (λ e. e.0) (λ e. e.0) y ≡ x → PS (roll-Stmt x)
  of_stmt x y e =
      let x' = map-Stmt ((a : StmtForm) × PSF a) ((a : Stmt) × PS a) StmtForm Stmt (λ e. e.0) (λ e. e.0) y in
      subst (λ (w : Stmt-F StmtForm Stmt). PS (roll-Stmt w)) e
      (subst (λ (q : A). R q (second (roll-Stmt x'))) (sym (fold-roll-Stmt (ℕ → A) A step (λ x. x.form x.id) x'))
      (subst (λ (q : B). R (first_form y.form.0 y.id) q) (sym (fold-roll-Stmt (ℕ → B) B step' (λ x. x.form x.id) x')) (y.form.1 y.id)))

  pub stmts_meet : StmtStepsMeet A B step step' R → (e : Stmt) → R (first e) (second e)
  stmts_meet h e = ind-Stmt PSF PS (of_stmt_form h) of_stmt e
