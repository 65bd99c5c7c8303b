-- One story is told of one heap.
use Rattle.std.proofs.Common.{◌≡◌, ℕ, List, [], ◌∷◌, length, Some, refl, sym, ap, subst, ◌∙◌}
use Rattle.px_code.specs.declared.side.Side.{Side}
use Rattle.px_code.specs.declared.side.Side.TheVariants.{App, Db}
use Rattle.px_code.specs.declared.block.Block.{Block}
use Rattle.px_code.specs.declared.plan.Plan.{Plan}
use Rattle.px_code.specs.Places.{other}
use Rattle.px_code.specs.Machine.{Machine, Threw, steps, block_at, next_block}
use Rattle.px_code.specs.Sound.{Ending}
use Rattle.px_wire.specs.declared.transfer.Transfer.{Transfer as TransferTold}
use Rattle.px_wire.specs.declared.message.Message.TheVariants.{Transfer}
use Rattle.px_half.specs.End.{block_side, side_of_block}
use Rattle.px_pair.specs.Story.{Happening, Did, Sent, HandsOver, Told, finished, runs, falls, crosses, handed}
use Rattle.px_pair.specs.Once.{IsSameStory, StoriesAreOne}
use Rattle.px_pair.proofs.OneUpdates.{one_updates}

one_block : (blocks : List Block) (n : ℕ) (b c : Block) → block_at blocks n ≡ Some b → block_at blocks n ≡ Some c → b ≡ c
one_block blocks n b c is is' = let e : Some b ≡ Some c = sym is ∙ is' in cc

-- a block runs at one side
not_other : (side : Side) → side ≡ other side → ⊥
not_other App e = cc
not_other Db e = cc

not_there : (blocks : List Block) (side : Side) (n : ℕ) (b : Block) → block_at blocks n ≡ Some b → b.side ≡ side → side_of_block blocks n ≡ other side → ⊥
not_there blocks side n b is here there = not_other side (sym here ∙ sym (ap block_side is) ∙ there)

one_transfer : (plan : Plan) (m : Machine) (n : ℕ) (t u : TransferTold) → HandsOver plan m n t → HandsOver plan m n u → t ≡ u
one_transfer plan m n t u hands hands' =
    let block : t.block ≡ u.block = hands.block ∙ sym hands'.block in
    let turns : t.turns ≡ u.turns = hands.turns ∙ sym hands'.turns in
    let base : t.base ≡ u.base = hands.base ∙ sym hands'.base in
    let frames : t.frames ≡ u.frames = hands.frames ∙ sym hands'.frames in
    let slots : t.slots ≡ u.slots = hands.slots ∙ sym hands'.slots in
    let updates : t.updates ≡ u.updates = one_updates (Some plan) m (length m.heap) t.updates u.updates hands.updates hands'.updates in
    λ i. record { block = block i; turns = turns i; base = base i; frames = frames i; slots = slots i; updates = updates i }

module _ (plan : Plan) where
  abbrev blocks : List Block
  blocks = plan.blocks.blocks

  one_story : (side : Side) (m : Machine) (n : ℕ) (story that_story : List Happening) (ending that_ending : Ending) (last that_last : Machine) → Told plan side m n story ending last → Told plan side m n that_story that_ending that_last → IsSameStory story that_story ending that_ending last that_last
  one_story _ m _ _ _ _ _ _ _ finished finished = record { story_is = refl; ending_is = refl; last_is = refl }
  one_story _ m _ _ _ _ _ _ _ finished (runs is here going after) = cc
  one_story _ m _ _ _ _ _ _ _ finished (falls is here fell) = cc
  one_story _ m _ _ _ _ _ _ _ finished (crosses there hands after) = cc
  one_story _ m _ _ _ _ _ _ _ (runs is here going after) finished = cc
  one_story side m n _ _ ending that_ending last that_last (runs {b = b} {story = rest} is here going after) (runs {b = c} {story = that_rest} is' here' going' after') =
      let same : b ≡ c = one_block blocks n b c is is' in
      let later : IsSameStory rest that_rest ending that_ending last that_last = one_story side (steps b.statements m).machine (next_block b.exit (steps b.statements m).stop) rest that_rest ending that_ending last that_last after
      (subst (λ (x : Block). Told plan side (steps x.statements m).machine (next_block x.exit (steps x.statements m).stop) that_rest that_ending that_last) (sym same) after') in
      record { story_is = (λ i. Did side (steps (same i).statements m).ran ∷ later.story_is i); ending_is = later.ending_is; last_is = later.last_is }
  one_story side m n _ _ _ _ _ _ (runs {b = b} is here going after) (falls {b = c} {t = t} is' here' fell) =
      let same : b ≡ c = one_block blocks n b c is is' in
      absurd (going t (ap (λ (x : Block). (steps x.statements m).stop) same ∙ fell))
  one_story side m n _ _ _ _ _ _ (runs {b = b} is here going after) (crosses there hands after') = absurd (not_there blocks side n b is here there)
  one_story _ m _ _ _ _ _ _ _ (falls is here fell) finished = cc
  one_story side m n _ _ _ _ _ _ (falls {b = b} {t = t} is here fell) (runs {b = c} is' here' going after) =
      let same : b ≡ c = one_block blocks n b c is is' in
      absurd (going t (ap (λ (x : Block). (steps x.statements m).stop) (sym same) ∙ fell))
  one_story side m n _ _ _ _ _ _ (falls {b = b} {t = t} is here fell) (falls {b = c} {t = u} is' here' fell') =
      let same : b ≡ c = one_block blocks n b c is is' in
      let threw : Threw t ≡ Threw u = sym fell ∙ ap (λ (x : Block). (steps x.statements m).stop) same ∙ fell' in
      record { story_is = (λ i. Did side (steps (same i).statements m).ran ∷ []); ending_is = cc; last_is = (λ i. (steps (same i).statements m).machine) }
  one_story side m n _ _ _ _ _ _ (falls {b = b} is here fell) (crosses there hands after) = absurd (not_there blocks side n b is here there)
  one_story _ m _ _ _ _ _ _ _ (crosses there hands after) finished = cc
  one_story side m n _ _ _ _ _ _ (crosses there hands after) (runs {b = b} is here going after') = absurd (not_there blocks side n b is here there)
  one_story side m n _ _ _ _ _ _ (crosses there hands after) (falls {b = b} is here fell) = absurd (not_there blocks side n b is here there)
  one_story side m n _ _ ending that_ending last that_last (crosses {t = t} {story = rest} there hands after) (crosses {t = u} {story = that_rest} there' hands' after') =
      let same : t ≡ u = one_transfer plan m n t u hands hands' in
      let later : IsSameStory rest that_rest ending that_ending last that_last = one_story (other side) (handed m) n rest that_rest ending that_ending last that_last after after' in
      record { story_is = (λ i. Sent (other side) (Transfer (same i)) ∷ later.story_is i); ending_is = later.ending_is; last_is = later.last_is }

pub stories_are_one : StoriesAreOne
stories_are_one plan side m n story that_story ending that_ending last that_last told told' = one_story plan side m n story that_story ending that_ending last that_last told told'
