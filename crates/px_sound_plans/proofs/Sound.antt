-- The blocks into which placed code is cut make a sound plan.
use Rattle.std.proofs.Common.{◌≡◌, ℕ, List, [], ◌∷◌, Option, Some, None, refl, sym, ap, ◌∙◌, subst}
use Rattle.std.specs.List.{AllByRecursion}
use Rattle.px_normal.specs.declared.word.Word.{Word}
use Rattle.px_normal.specs.declared.word.Word.TheVariants as w
use Rattle.px_normal.specs.declared.code.Code.{Code}
use Rattle.px_flow_points.specs.Statements.{HasStatement}
use Rattle.px_flow_points.specs.ByNode.{Found}
use Rattle.px_blocks.specs.declared.side.Side.{Side}
use Rattle.px_blocks.specs.declared.block.Block.{Block}
use Rattle.px_blocks.specs.declared.block.Blocks.{Blocks}
use Rattle.px_blocks.specs.declared.block.Deed.{Deed}
use Rattle.px_blocks.specs.declared.block.Deed.TheVariants as deed
use Rattle.px_blocks.specs.declared.block.Statement.{Statement}
use Rattle.px_blocks.specs.declared.placed.Placed.{Placed}
use Rattle.px_blocks.specs.Plan.{Plan}
use Rattle.px_blocks.specs.Machine.{onward, entry_of, last_or, to_of_last, back_of}
use Rattle.px_blocks.specs.Rules.{Cutting, cutting, IsCut}
use Rattle.px_blocks.specs.Has.{HasStatement as HasDeed}
use Rattle.px_ends.specs.Sends.{IsBlockByMethod}
use Rattle.px_ends.specs.Fits.{Points, leads_of, BlockIn, CoversDeed, CoversWord, IsCovered, IsSoundPlan}
use Rattle.px_ends.proofs.CutHas.{cut_is_placed_by_method}
use Rattle.px_sound_plans.specs.Plans.{plan_of, points_of}
use Rattle.px_sound_plans.specs.Laws.{IsPlacedWell, PlansAreSound}
use Rattle.px_sound_plans.proofs.StatementsOf.{statement_of}
use Rattle.px_sound_plans.proofs.PlacedWell.{placed_by_method}
use Rattle.px_sound_plans.proofs.Laid.{CallFits, StandOk, BlockOk, AllOk, all_ok, first_good}
use Rattle.px_sound_plans.proofs.Covered.{result_within, args_covered, word_covered}

module _ (code : Code) (found : Found) (sides : List Side) (placed : Placed) (blocks : Blocks) (W : IsPlacedWell code found sides placed) (cut : IsCut code placed blocks) where
  abbrev plan : Plan
  plan = plan_of code sides found blocks

  abbrev fit : Points
  fit = points_of code found.sets

  abbrev c : Cutting
  c = cutting placed blocks

  abbrev S : ℕ → ℕ → Deed → Type 0
  S m node d = HasDeed code m node d

  laid : AllOk blocks.blocks c S blocks.blocks
  laid = all_ok blocks.blocks c S code.methods cut (λ m node method d e has. record { method = method; is = e; has = has })

  -- the last of a list, and how it goes back
  last_to : (prior : Option Statement) (s : Statement) (rest : List Statement) (k : ℕ) → rest ≡ [] → to_of_last (last_or prior (s ∷ rest)) ≡ Some k → to_of_last (Some s) ≡ Some k
  last_to prior s rest k e h = ap (λ (z : List Statement). to_of_last (last_or (Some s) z)) (sym e) ∙ h

  -- what is left of a block is as the whole block sees it
  abbrev SameLast : Block → List Statement → Type 0
  SameLast b rest = last_or None b.statements ≡ last_or None rest

  word_covers : (b : Block) (ok : BlockOk blocks.blocks c S b) (s : Statement) (rest : List Statement) (word : Word) → s.deed ≡ deed.Does word → (prior : Option Statement) → last_or None b.statements ≡ last_or prior (s ∷ rest) → HasStatement code b.method s.node word → CallFits blocks.blocks c S b.exit rest (deed.Does word) → CoversWord plan fit b word
  word_covers b ok s rest (w.Call to of called args) is prior last has fits = (
    record {
      next = ok.exit_ok.on;
      to = λ k e. result_within code found W.typed W.exist W.points b.method s.node to of called args k has
          (ap (λ (d : Deed). Rattle.px_blocks.specs.Machine.to_of_deed d) (sym is) ∙ last_to prior s rest k fits.0 (ap to_of_last (sym last) ∙ e));
    },
    subst (λ n. BlockIn plan n called) (sym fits.1) (first_good blocks.blocks c S code.methods cut called),
    args_covered code found W.typed W.exist W.points b.method s.node to of called args has,
  )
  word_covers b ok s rest (w.Set to a) is prior last has fits = word_covered code found W.typed W.exist W.points plan refl b s.node _ has refl
  word_covers b ok s rest (w.Op o to a d) is prior last has fits = word_covered code found W.typed W.exist W.points plan refl b s.node (w.Op o to a d) has refl
  word_covers b ok s rest (w.Get to of class field) is prior last has fits = word_covered code found W.typed W.exist W.points plan refl b s.node (w.Get to of class field) has refl
  word_covers b ok s rest (w.Put of class field a) is prior last has fits = word_covered code found W.typed W.exist W.points plan refl b s.node (w.Put of class field a) has refl
  word_covers b ok s rest (w.Load to of i) is prior last has fits = word_covered code found W.typed W.exist W.points plan refl b s.node (w.Load to of i) has refl
  word_covers b ok s rest (w.Store of i a) is prior last has fits = word_covered code found W.typed W.exist W.points plan refl b s.node (w.Store of i a) has refl
  word_covers b ok s rest (w.Len to of) is prior last has fits = word_covered code found W.typed W.exist W.points plan refl b s.node (w.Len to of) has refl
  word_covers b ok s rest (w.New to class site) is prior last has fits = word_covered code found W.typed W.exist W.points plan refl b s.node (w.New to class site) has refl
  word_covers b ok s rest (w.Array to element n site) is prior last has fits = word_covered code found W.typed W.exist W.points plan refl b s.node (w.Array to element n site) has refl
  word_covers b ok s rest (w.Query to number site params) is prior last has fits = word_covered code found W.typed W.exist W.points plan refl b s.node (w.Query to number site params) has refl
  word_covers b ok s rest (w.Update to number params) is prior last has fits = word_covered code found W.typed W.exist W.points plan refl b s.node (w.Update to number params) has refl
  word_covers b ok s rest (w.Next to of) is prior last has fits = word_covered code found W.typed W.exist W.points plan refl b s.node (w.Next to of) has refl
  word_covers b ok s rest (w.Long to of column) is prior last has fits = word_covered code found W.typed W.exist W.points plan refl b s.node (w.Long to of column) has refl
  word_covers b ok s rest (w.Text to of column) is prior last has fits = word_covered code found W.typed W.exist W.points plan refl b s.node (w.Text to of column) has refl
  word_covers b ok s rest (w.Print a) is prior last has fits = word_covered code found W.typed W.exist W.points plan refl b s.node (w.Print a) has refl
  word_covers b ok s rest (w.Return a) is prior last has fits = word_covered code found W.typed W.exist W.points plan refl b s.node (w.Return a) has refl

  deed_covers : (b : Block) (ok : BlockOk blocks.blocks c S b) (s : Statement) (rest : List Statement) (d : Deed) → s.deed ≡ d → (prior : Option Statement) → last_or None b.statements ≡ last_or prior (s ∷ rest) → HasDeed code b.method s.node d → CallFits blocks.blocks c S b.exit rest d → CoversDeed plan fit b d
  deed_covers b ok s rest (deed.Does word) is prior last has fits = word_covers b ok s rest word is prior last (statement_of code b.method s.node word has) fits
  deed_covers b ok s rest (deed.Chooses a) is prior last has fits = ok.exit_ok.choice
  deed_covers b ok s rest (deed.Tests a) is prior last has fits = ok.exit_ok.choice

  all_cover : (b : Block) → BlockOk blocks.blocks c S b → (rest : List Statement) (prior : Option Statement) → last_or None b.statements ≡ last_or prior rest → StandOk blocks.blocks c S b.method b.exit rest → AllByRecursion (λ (s : Statement). CoversDeed plan fit b s.deed) rest
  all_cover b ok [] prior last stand = tt
  all_cover b ok (s ∷ rest) prior last stand = (deed_covers b ok s rest s.deed refl prior last stand.0.0 stand.0.1, all_cover b ok rest (Some s) last stand.1)

  block_covered : (b : Block) → BlockOk blocks.blocks c S b → IsBlockByMethod plan (leads_of fit) b → IsCovered plan fit b
  block_covered b ok put = record { real = ok.real; placed = put; deeds = all_cover b ok b.statements None refl ok.stand; next = ok.exit_ok.on }

  all_covered : (bs : List Block) → AllOk blocks.blocks c S bs → AllByRecursion (IsBlockByMethod plan (leads_of fit)) bs → AllByRecursion (IsCovered plan fit) bs
  all_covered [] ok put = tt
  all_covered (b ∷ bs) ok put = (block_covered b ok.0 put.0, all_covered bs ok.1 put.1)

  pub sound : IsSoundPlan plan fit
  sound = record {
    blocks = all_covered blocks.blocks laid (cut_is_placed_by_method plan placed (leads_of fit) cut (placed_by_method code found sides placed blocks W));
    root = λ s. refl;
  }

pub plans_are_sound : PlansAreSound
plans_are_sound code found sides placed blocks W cut = sound code found sides placed blocks W cut
