-- Trees of parts, each of which may have failed to be made.
use Rattle.std.specs.Prelude.{ℕ, Option, Result, Ok, Err}
use Rattle.std.specs.declared.alloc.AllocError.{AllocError}
use Rattle.px_tree.specs.declared.Expr.{Expr}
use Rattle.px_tree.specs.declared.Stmt.{Stmt}
use Rattle.px_tree.specs.declared.StmtForm.{StmtForm}
use Rattle.px_tree.specs.declared.StmtForm.TheVariants.{If, While, For}

abbrev pub Made : Type 0 → Type 0
Made A = Result A AllocError

-- what is made of a part, or its failure
abbrev pub with_part : {A B : Type 0} → Made A → (A → Made B) → Made B
with_part (Ok a) f = f a
with_part (Err e) f = Err e

abbrev pub both : {A B : Type 0} → Made A → Made B → Made (A × B)
both a b = with_part a (λ x. with_part b (λ y. Ok (x, y)))

abbrev pub if_of : Made Expr → Made Stmt → Made (Option Stmt) → Made StmtForm
if_of test then_part else_part = with_part (both test (both then_part else_part)) (λ p. Ok (If p.0 p.1.0 p.1.1))

abbrev pub while_of : Made Expr → Made Stmt → Made StmtForm
while_of test body = with_part (both test body) (λ p. Ok (While p.0 p.1))

abbrev pub for_of : Made Stmt → Made Expr → Made Stmt → Made Stmt → Made StmtForm
for_of first test last body = with_part (both (both first test) (both last body)) (λ p. Ok (For p.0.0 p.0.1 p.1.0 p.1.1))

abbrev pub statement_of : Made ℕ → ℕ → Made StmtForm → Made Stmt
statement_of id token form = with_part (both id form) (λ p. Ok (record { id = p.0; token = token; form = p.1 }))
