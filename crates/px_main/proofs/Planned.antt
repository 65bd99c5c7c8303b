-- The plan of a program, and the calls that it serves.
use Rattle.std.proofs.Common.{◌≡◌, List, [], ◌∷◌, ◌++◌, Some, Result, Ok, Err, IfOk, slice_get, sym, ap, ◌∙◌, subst}
use Rattle.px_code.specs.declared.code.Code.{Code}
use Rattle.px_code.specs.declared.plan.Plan.{Plan}
use Rattle.px_code.specs.declared.placement.Placement.{Placement}
use Rattle.px_code.specs.Cut.{AreBlocks}
use Rattle.px_code.specs.WellFormed.{IsWellFormed}
use Rattle.px_code.specs.declared.reply.Done.{Done}
use Rattle.px_half.specs.End.{first_object, first_objects}
use Rattle.px_pair.specs.Servable.{IsServable}
use Rattle.px_session.specs.Serving.{Call, AreServed, by_code}
use Rattle.px_main.specs.Served.{AreCalls, AreServedBy}
use Rattle.px_main.specs.Solo.{IsPlanOf}

pub servable : (code : Code) (sides : Placement) (plan : Plan) → IsPlanOf code sides plan → IsWellFormed code → IsServable plan
servable code sides plan is well = record {
  blocks = subst (λ (c : Code). AreBlocks c plan.placement.sides plan.blocks) (sym is.code_is) (subst (λ (p : Placement). AreBlocks code p.sides plan.blocks) (sym is.placement_is) is.blocks);
  formed = subst IsWellFormed (sym is.code_is) well;
}

pub one_pushed : (none pushed plans : List Plan) (plan : Plan) → none ≡ [] → pushed ≡ none ++ plan ∷ [] → plans ≡ pushed → plans ≡ plan ∷ []
one_pushed none pushed plans plan e f g = g ∙ f ∙ ap (λ (ps : List Plan). ps ++ plan ∷ []) e

-- the first of one plan
pub only : (plans : List Plan) (plan first : Plan) → plans ≡ plan ∷ [] → slice_get plans 0 ≡ Some first → plan ≡ first
only plans plan first is at = let e = ap (λ (ps : List Plan). slice_get ps 0) is in cc

-- the first plan may be given all the calls
pub calls_go : (code : Code) (sides : Placement) (plans : List Plan) (plan : Plan) (calls : List Call) → IsPlanOf code sides plan → plans ≡ plan ∷ [] → AreCalls code calls → (first : Plan) → slice_get plans 0 ≡ Some first → AreCalls first.code calls
calls_go code sides plans plan calls is one h first at =
    let here : code ≡ first.code = sym is.code_is ∙ ap (λ (p : Plan). p.code) (only plans plan first one at) in
    subst (λ (c : Code). AreCalls c calls) here h

-- what it serves of them is served by a plan of the code
pub done_by : (code : Code) (sides : Placement) (plans : List Plan) (plan : Plan) (calls : List Call) → IsPlanOf code sides plan → plans ≡ plan ∷ []
    → {A E : Type 0} (dones : A → List Done) (r : Result A E) → IfOk r (λ a. (first : Plan) → slice_get plans 0 ≡ Some first → AreServed (by_code first.code) first (first_objects (Some first)) [] calls (dones a)) → IfOk r (λ a. AreServedBy code sides calls (dones a))
done_by code sides plans plan calls is one dones (Ok a) h =
    let at : slice_get plans 0 ≡ Some plan = ap (λ (ps : List Plan). slice_get ps 0) one in
    record { plan = plan; plan_is = is; served = subst (λ (c : Code). AreServed (by_code c) plan (first_object c ∷ []) [] calls (dones a)) is.code_is (h plan at) }
done_by code sides plans plan calls is one dones (Err e) h = tt
