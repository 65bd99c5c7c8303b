-- An operator and an operand behind an expression: the tree of the whole.
use Rattle.std.proofs.Common.{◌≡◌, inl, inr, ℕ, ◌≤◌, ◌<◌, List, ◌∷◌, ◌++◌, Some, sym, subst, append_assoc, arith}
use Rattle.std.proofs.lemmas.Bool.{cases_lt}
use Rattle.px_words.specs.declared.lexeme.Lexeme.{Lexeme}
use Rattle.px_tree.specs.declared.Sign.{Sign}
use Rattle.px_tree.specs.declared.Sign.TheVariants as sign
use Rattle.px_tree.specs.declared.Expr.{Expr}
use Rattle.px_words.specs.Words.{binary_sign, level, tightest}
use Rattle.px_parse.specs.Trees.{binary_of}
use Rattle.px_parse.specs.Grammar as g
use Rattle.px_parse.specs.Grammar.{SpellsExpression, SpellsOperand}

-- every operator is looser than an operand
below : (op : Sign) → level op < 11
below sign.Either = omega arith
below _ = omega arith

-- A tree that binds more tightly than whatever both the left one and the operator do. So it may stand at the right of what the left one stood at.
pub record Placed (source : List ℕ) (op : Sign) (k : ℕ) (xs : List Lexeme) : Type 0 where
  pub tight : ℕ
  pub tree : Expr
  pub spelled : SpellsExpression source tight tree xs
  pub above : (n : ℕ) → n < k → n < level op → n < tight

-- the left one is the new node's left part
on_top : (source : List ℕ) (at : Lexeme) (op : Sign) (k : ℕ) (l e : Expr) (ls xs : List Lexeme) → binary_sign at.word ≡ Some op → level op ≤ k → SpellsExpression source k l ls → SpellsOperand source e xs → Placed source op k (ls ++ at ∷ xs)
on_top source at op k l e ls xs h i s t =
    record { tight = level op; tree = binary_of op at l e; spelled = g.binary at op k tightest l e ls xs h i (below op) s (g.SpellsExpression.operand t); above = λ n p q. q }

-- the new node is at the right of the left one
at_right : (source : List ℕ) (at by : Lexeme) (op up : Sign) (k m : ℕ) (l : Expr) (ls rs xs : List Lexeme) → binary_sign by.word ≡ Some up → level up ≤ k → level up < m → level up < level op → SpellsExpression source k l ls → Placed source op m (rs ++ at ∷ xs) → Placed source op (level up) ((ls ++ by ∷ rs) ++ at ∷ xs)
at_right source at by op up k m l ls rs xs h i j below_op s p =
    record {
      tight = level up;
      tree = binary_of up by l p.tree;
      spelled = subst (λ zs. SpellsExpression source (level up) (binary_of up by l p.tree) zs) (sym (append_assoc ls (by ∷ rs) (at ∷ xs))) (g.binary by up k p.tight l p.tree ls (rs ++ at ∷ xs) h i (p.above (level up) j below_op) s p.spelled);
      above = λ n q _. q;
    }

pub placed : (source : List ℕ) (at : Lexeme) (op : Sign) (e : Expr) (xs : List Lexeme) → binary_sign at.word ≡ Some op → SpellsOperand source e xs → (k : ℕ) (l : Expr) (ls : List Lexeme) → SpellsExpression source k l ls → Placed source op k (ls ++ at ∷ xs)
placed source at op e xs h t _ l ls (g.SpellsExpression.operand s) = on_top source at op tightest l e ls xs h (omega (arith, below op)) (g.SpellsExpression.operand s) t
placed source at op e xs h t _ _ _ (g.SpellsExpression.binary by up k m l r ls rs i j n s u) =
    elim (cases_lt (level up) (level op)) [
      | inl q ↦ at_right source at by op up k m l ls rs xs i j n q s (placed source at op e xs h t m r rs u)
      | inr q ↦ on_top source at op (level up) (binary_of up by l r) e (ls ++ by ∷ rs) xs h q (g.binary by up k m l r ls rs i j n s u) t
    ]
