-- What the cutter finds open behind each kind of tree.
use Rattle.std.proofs.Common.{◌≡◌, ℕ, List, refl, ap, ◌∙◌}
use Rattle.px_blocks.specs.declared.side.Side.{Side}
use Rattle.px_normal.specs.declared.word.Operand.{Operand}
use Rattle.px_normal.specs.declared.word.Word.{Word}
use Rattle.px_normal.specs.declared.method.Tree.{Tree}
use Rattle.px_normal.specs.declared.method.Tree.TheVariants.{Do, If, Loop}
use Rattle.px_blocks.specs.declared.block.Deed.TheVariants as deed
use Rattle.px_normal.specs.Words.{is_return}
use Rattle.px_blocks.specs.Rules.{Placed, side_of, statement_of}
use Rattle.px_blocks.specs.Cutter.{Shape, Closed, Kind, Plain, Operation, CallsMethod, kind_of, made_in, made_after, word_cut, after_all, cut_of, cuts_of, Cut}
use Rattle.px_blocks.specs.Seen.{after_kind, after_word}
use Rattle.px_blocks.proofs.Cutting.{cut_do, cut_if, cut_loop}

kind_after : (P : Placed) (side : Side) (node : ℕ) (word : Word) (k : Kind) (s : Shape) → (word_cut side (statement_of P node (deed.Does word)) (is_return word) k).after s ≡ after_kind side word s k
kind_after P side node word Plain s = refl
kind_after P side node word Operation s = refl
kind_after P side node word (CallsMethod method) s = refl

pub after_do : (P : Placed) (t : Tree) (node : ℕ) (word : Word) (s : Shape) → t ≡ Do node word → (cut_of P t).after s ≡ after_word (side_of P.sides node) word s
after_do P t node word s e = ap (λ t. (cut_of P t).after s) e ∙ ap (λ (x : Cut). x.after s) (cut_do P node word) ∙ kind_after P (side_of P.sides node) node word (kind_of word) s

pub after_if : (P : Placed) (t : Tree) (node : ℕ) (a : Operand) (ys ns : List Tree) (s : Shape) → t ≡ If node a ys ns →
    (cut_of P t).after s ≡ Closed (made_in (after_all (cuts_of P ns) (Closed (made_in (after_all (cuts_of P ys) (Closed (made_after (side_of P.sides node) s)))))))
after_if P t node a ys ns s e = ap (λ t. (cut_of P t).after s) e ∙ ap (λ (x : Cut). x.after s) (cut_if P node a ys ns)

pub after_loop : (P : Placed) (t : Tree) (first : List Tree) (node : ℕ) (a : Operand) (body : List Tree) (s : Shape) → t ≡ Loop first node a body →
    (cut_of P t).after s ≡ Closed (made_in (after_all (cuts_of P body) (Closed (made_after (side_of P.sides node) (after_all (cuts_of P first) (Closed (made_in s)))))))
after_loop P t first node a body s e = ap (λ t. (cut_of P t).after s) e ∙ ap (λ (x : Cut). x.after s) (cut_loop P first node a body)
