-- Calls of entries at two ends.
use Rattle.std.proofs.Common.{◌≡◌, ℕ, zero, suc, List, [], ◌∷◌, map, Some, unwrap_or, slice_get, refl, subst}
use Rattle.std.specs.List.{AllByRecursion}
use Rattle.std.proofs.lemmas.Option.{same_Some}
use Rattle.px_value.specs.declared.value.Value.{Value}
use Rattle.px_value.specs.declared.value.Value.TheVariants.{Int, Long, Bool as Truth, Text, Null, Ref}
use Rattle.px_value.specs.declared.header.Header.{Header}
use Rattle.px_value.specs.declared.object.Object.{Object}
use Rattle.px_effects.specs.Act.{header_at, value_at}
use Rattle.px_normal.specs.declared.ty.Ty.{Ty}
use Rattle.px_normal.specs.declared.ty.Ty.TheVariants as ty
use Rattle.px_normal.specs.declared.class.Field.{Field as FieldOf}
use Rattle.px_normal.specs.declared.code.Code.{Code}
use Rattle.px_normal.specs.First.{default_of, field_default, fields_of}
use Rattle.px_flow_points.specs.Points as points
use Rattle.px_flow_points.specs.ByNode.{Found}
use Rattle.px_blocks.specs.declared.side.Side.{Side}
use Rattle.px_blocks.specs.declared.block.Blocks.{Blocks}
use Rattle.px_blocks.specs.declared.placed.Placed.{Placed}
use Rattle.px_blocks.specs.Plan.{Plan, part_of}
use Rattle.px_blocks.specs.Rules.{cutting, IsCut}
use Rattle.px_blocks.specs.Has.{HasStatement as HasDeed}
use Rattle.px_ends.specs.Calls.{Attempt}
use Rattle.px_ends.specs.Fits.{Points, Sites, IsPlain, LeadsTo, HeapFits, IsEntryCall}
use Rattle.px_ends.proofs.AsCode.{sound_code_runs}
use Rattle.px_ends.proofs.FittingRuns.{sessions_are_served}
use Rattle.px_ends.proofs.CallsAgree.{new_rests}
use Rattle.px_sound_plans.specs.Plans.{main_header, plan_of, points_of}
use Rattle.px_sound_plans.specs.Laws.{IsPlacedWell}
use Rattle.px_sound_plans.specs.Runs.{IsCall, first_heap, FirstHeapFits, CallsRunAsCode, SessionsServed}
use Rattle.px_sound_plans.proofs.Led.{led_back}
use Rattle.px_sound_plans.proofs.Laid.{first_good}
use Rattle.px_sound_plans.proofs.Sound.{sound}

-- ---- the first heap

plain_leads : (heap : List Object) (sites : Sites) (v : Value) → IsPlain v → LeadsTo heap sites v
plain_leads heap sites (Int n) h = tt
plain_leads heap sites (Long n) h = tt
plain_leads heap sites (Truth b) h = tt
plain_leads heap sites (Text bytes) h = tt
plain_leads heap sites Null h = tt
plain_leads heap sites (Ref o) h = absurd h

default_plain : (t : Ty) → IsPlain (default_of t)
default_plain ty.Int = tt
default_plain ty.Long = tt
default_plain ty.Bool = tt
default_plain ty.Text = tt
default_plain (ty.Object class) = tt
default_plain (ty.Array element) = tt
default_plain ty.Rows = tt

fresh_plain : (fields : List FieldOf) (i : ℕ) → IsPlain (unwrap_or (slice_get (map field_default fields) i) Null)
fresh_plain [] i = tt
fresh_plain (f ∷ fields) zero = default_plain f.ty
fresh_plain (f ∷ fields) (suc i) = fresh_plain fields i

module _ (code : Code) (found : Found) where
  abbrev fit : Points
  fit = points_of code found.sets

  kinds_fit : (o : ℕ) (h : Header) → header_at (first_heap code) o ≡ Some h → h.kind ≡ fit.kinds h.site
  kinds_fit zero h e = subst (λ (z : Header). z.kind ≡ fit.kinds z.site) (same_Some (main_header code) h e) refl
  kinds_fit (suc o) h e = cc

  cells_fit : (o i : ℕ) (h : Header) → header_at (first_heap code) o ≡ Some h → LeadsTo (first_heap code) (fit.in_part h.site (part_of h.kind i)) (value_at (first_heap code) o i)
  cells_fit zero i h e = plain_leads (first_heap code) (fit.in_part h.site (part_of h.kind i)) (value_at (first_heap code) 0 i) (fresh_plain (fields_of code code.main) i)
  cells_fit (suc o) i h e = tt

  pub first_fits : HeapFits fit (first_heap code)
  first_fits = record { main = refl; kinds = kinds_fit; cells = cells_fit }

pub first_heap_fits : FirstHeapFits
first_heap_fits code found = first_fits code found

-- ---- calls

module _ (code : Code) (found : Found) (sides : List Side) (placed : Placed) (blocks : Blocks) (W : IsPlacedWell code found sides placed) (cut : IsCut code placed blocks) where
  abbrev plan : Plan
  plan = plan_of code sides found blocks

  pub call_of : (number : ℕ) (args : List Value) → IsCall code number args → IsEntryCall plan (points_of code found.sets) number args
  call_of number args call = record {
    main = led_back code found.sets W.exist W.points number 0 0 (W.exist.entries call.is call.entry) (points.PointsTo.this call.is call.entry);
    plain = call.plain;
    first = first_good blocks.blocks (cutting placed blocks) (λ m node d. HasDeed code m node d) code.methods cut number;
  }

  pub all_calls : {V : Type 0} (attempts : List (Attempt V)) → AllByRecursion (λ (a : Attempt V). IsCall code a.method a.args) attempts → AllByRecursion (λ (a : Attempt V). IsEntryCall plan (points_of code found.sets) a.method a.args) attempts
  all_calls [] all = tt
  all_calls (a ∷ attempts) all = (call_of a.method a.args all.0, all_calls attempts all.1)

pub calls_run_as_code : (Q V : Type 0) → CallsRunAsCode Q V
calls_run_as_code Q V code found sides placed blocks W cut ask plain number args app db one world call fits rests =
    sound_code_runs Q V (plan_of code sides found blocks) placed (points_of code found.sets) cut (sound code found sides placed blocks W cut) ask plain number args app db one world (call_of code found sides placed blocks W cut number args call) fits rests

pub sessions_served : (Q V : Type 0) → SessionsServed Q V
sessions_served Q V code found sides placed blocks W cut ask plain attempts all =
    sessions_are_served Q V (plan_of code sides found blocks) (points_of code found.sets) ask attempts (record { app = first_heap code; db = first_heap code }) (first_heap code)
    (sound code found sides placed blocks W cut) plain (all_calls code found sides placed blocks W cut attempts all) (first_fits code found) (new_rests (plan_of code sides found blocks) (first_heap code))
