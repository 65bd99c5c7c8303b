-- Runs of blocks, one behind the other.
use Rattle.std.proofs.Common.{◌≡◌, ℕ, List, [], ◌∷◌, sym, subst, refl}
use Rattle.px_blocks.specs.declared.block.Exit.{Exit}
use Rattle.px_blocks.specs.declared.block.Statement.{Statement}
use Rattle.px_effects.specs.Run.{Ask}
use Rattle.px_blocks.specs.Plan.{Plan}
use Rattle.px_blocks.specs.Machine.{Machine, RunsOn, step, then_steps, steps}
use Rattle.px_blocks.specs.One.{One, Step, Goes, Leads, here, on, one_step, one_asks, one_moves}

pub steps_none : (plan : Plan) (n : ℕ) (e : Exit) (m : Machine) → steps plan n e [] m ≡ record { machine = m; ran = []; stop = RunsOn }
unfolding steps
steps_none plan n e m = refl

pub steps_more : (plan : Plan) (n : ℕ) (e : Exit) (s : Statement) (rest : List Statement) (m : Machine) → steps plan n e (s ∷ rest) m ≡ then_steps (step plan n e s m) (steps plan n e rest) (step plan n e s m).stop
unfolding steps
steps_more plan n e s rest m = refl

module _ {Q W : Type 0} (plan : Plan) (ask : Ask Q W) where
  pub leads_on : (x y z : Step Q (One W)) → Leads plan ask x y → Leads plan ask y z → Leads plan ask x z
  leads_on x y z here r = r
  leads_on x y z (on l) r = on (leads_on _ y z l r)

  pub leads_as : (x y : Step Q (One W)) → x ≡ y → Leads plan ask x y
  leads_as x y e = subst (λ q. Leads plan ask x q) e here

  pub moves_is : (o : One W) → one_moves plan ask o ≡ one_asks plan ask (one_step plan o)
  unfolding one_moves
  moves_is o = refl

  -- from the begin of a block
  pub leads_step : (x : Step Q (One W)) (o : One W) (y : Step Q (One W)) → x ≡ Goes o → one_asks plan ask (one_step plan o) ≡ y → Leads plan ask x y
  leads_step x o y e f = subst (λ q. Leads plan ask q y) (sym e) (on (subst (λ q. Leads plan ask q y) (sym (moves_is o)) (leads_as _ y f)))
