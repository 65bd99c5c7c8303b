-- A body that was laid lies in its blocks by the rules.
use Rattle.std.proofs.Common.{◌≡◌, ℕ, List, reverse, subst, sym, ap, ◌∙◌}
use Rattle.px_normal.specs.declared.method.Tree.{Tree}
use Rattle.px_blocks.specs.declared.block.Block.{Block}
use Rattle.px_blocks.specs.Rules.{Placed, Cutting, Anew, In}
use Rattle.px_blocks.specs.declared.pending.Pending.{Pending}
use Rattle.px_blocks.specs.Cutter.{Shape, Closed, Left, made_in, after_all, back_all, closing, cuts_of}
use Rattle.px_blocks.specs.Seen.{seen, LiesBefore, blocks_before}
use Rattle.px_blocks.proofs.Cutting.{place_of, closes, lie_all, rights}

abbrev cutting_of : Placed → List ℕ → Cutting
cutting_of P firsts = record { placed = P; firsts = firsts }

pub laid : (P : Placed) (firsts : List ℕ) (m made : ℕ) (body : List Tree) (shape : Shape) (end whole : Pending) (after : List Block) → shape ≡ after_all (cuts_of P body) (Closed made) →
    seen end ≡ closing shape 0 (reverse after) → seen whole ≡ back_all (cuts_of P body) firsts m (Closed made) (seen end) → LiesBefore P firsts m made body whole.to (reverse whole.later) (reverse after)
laid P firsts m made body shape end whole after s e w =
    let c = cutting_of P firsts in
    let z : Shape = after_all (cuts_of P body) (Closed made) in
    let l : Left = closing z 0 (reverse after) in
    let is : back_all (cuts_of P body) firsts m (Closed made) l ≡ seen whole = sym (w ∙ ap (back_all (cuts_of P body) firsts m (Closed made)) (e ∙ ap (λ x. closing x 0 (reverse after)) s)) in
    record {
      out = place_of z l;
      made_then = made_in z;
      lies = subst (λ (x : Left). In c m (Anew made x.to x.later) body (place_of z l)) is (lie_all c m body (rights c m body) (Closed made) l);
      ends = closes c m z 0 (reverse after);
    }

pub laid_exactly : (P : Placed) (firsts : List ℕ) (m made : ℕ) (body : List Tree) (shape : Shape) (end whole : Pending) (after : List Block) → shape ≡ after_all (cuts_of P body) (Closed made) →
    seen end ≡ closing shape 0 (reverse after) → seen whole ≡ back_all (cuts_of P body) firsts m (Closed made) (seen end) → reverse whole.later ≡ blocks_before P firsts m made body (reverse after)
laid_exactly P firsts m made body shape end whole after s e w =
    ap (λ (x : Left). x.later) (w ∙ ap (back_all (cuts_of P body) firsts m (Closed made)) (e ∙ ap (λ x. closing x 0 (reverse after)) s))
