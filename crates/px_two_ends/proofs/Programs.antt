-- Accepted programs at two ends.
use Rattle.std.proofs.Common.{◌<◌, ◌≤◌, ◌-◌, ◌^◌, ℕ, List, [], ◌∷◌, length, subst, arith}
use Rattle.std.specs.List.{AllByRecursion}
use Rattle.px_value.specs.declared.value.Value.{Value}
use Rattle.px_value.specs.declared.schema.Schema.{Schema}
use Rattle.px_tree.specs.declared.Program.{Program}
use Rattle.px_types.specs.Checked.{checked_of}
use Rattle.px_soundness.specs.Laws.{IsAccepted}
use Rattle.px_soundness.proofs.Accepted.{accepted_typed}
use Rattle.px_soundness.proofs.Texts.{program_classes}
use Rattle.px_mean.specs.Program.{source_from}
use Rattle.px_mean.specs.Typing.{IsTyped as IsTypedSource}
use Rattle.px_normal.specs.declared.code.Code.{Code}
use Rattle.px_normal.specs.CodeRun.{code_run}
use Rattle.px_normal.specs.Typed.{IsTyped}
use Rattle.px_typed_code.proofs.Programs.{lowered_is_typed, entries_are_methods}
use Rattle.px_typed_code.proofs.Order.{nodes_are_in_order}
use Rattle.px_preservation.proofs.Whole.{keeps_meaning}
use Rattle.px_accepted.proofs.Known.{accepted_known}
use Rattle.px_accepted.proofs.KnownProgram.{accepted_public}
use Rattle.px_accepted.proofs.UsedWell.{accepted_is_used_well}
use Rattle.px_accepted.proofs.Limits.{accepted_keeps_limits}
use Rattle.px_flow_points.proofs.Typing.{typed_numbers_exist}
use Rattle.px_flow_points.specs.There.{NumbersExist}
use Rattle.px_flow_points.specs.ByNode.{Found}
use Rattle.px_blocks.specs.declared.side.Side.{Side}
use Rattle.px_blocks.specs.declared.block.Blocks.{Blocks}
use Rattle.px_blocks.specs.declared.placed.Placed.{Placed}
use Rattle.px_plan.proofs.Pinned.{to_app}
use Rattle.px_ends.specs.Calls.{Attempt}
use Rattle.px_sound_plans.specs.Laws.{IsPlacedWell}
use Rattle.px_sound_plans.specs.Runs.{IsCall}
use Rattle.px_sound_plans.proofs.Entries.{calls_run_as_code, sessions_served}
use Rattle.px_two_ends.specs.Laws.{code_of, IsSplit, CompiledIsSplit, IsCallOf, AcceptedIsPlacedWell, CallsRunAsPrograms, SessionsOfPrograms}
use Rattle.px_two_ends.proofs.Own.{own_node}

module _ (bytes : List ℕ) (program : Program) (schema : Schema) (a : IsAccepted bytes program schema) where
  abbrev code : Code
  code = code_of program schema

  source : IsTypedSource (source_from (checked_of program schema))
  source = let d = program_classes bytes program a.program_is in accepted_typed schema program d.0 d.1 a.kept

  code_typed : IsTyped code
  code_typed = let d = program_classes bytes program a.program_is in lowered_is_typed (checked_of program schema) source (accepted_is_used_well schema program d.0 d.1 a.kept)

  few : length code.methods < 2 ^ 16 - 1
  few = let h : length code.methods ≤ 2000 = (accepted_keeps_limits bytes program schema a).methods in omega (arith, h)

  pub numbers_exist : NumbersExist code
  numbers_exist = typed_numbers_exist code code_typed few

  pub placed_well : (found : Found) (sides : List Side) (placed : Placed) (blocks : Blocks) → IsSplit code found sides placed blocks → IsPlacedWell code found sides placed
  placed_well found sides placed blocks S =
      let d = program_classes bytes program a.program_is in
      record {
        typed = code_typed;
        exist = numbers_exist;
        points = S.points;
        touched = S.touched;
        own = own_node code _ (nodes_are_in_order (checked_of program schema) source (accepted_is_used_well schema program d.0 d.1 a.kept));
        prints = S.prints;
        sends = S.sends;
      }

  pub call_is : (number : ℕ) (args : List Value) → IsCallOf program schema number args → IsCall code number args
  call_is number args c =
      let d = program_classes bytes program a.program_is in
      let e = entries_are_methods (checked_of program schema) source (accepted_is_used_well schema program d.0 d.1 a.kept) (accepted_public schema program d.0 d.1 a.kept) c.place c.entry c.is in
      subst (λ n. IsCall code n args) c.number_is (record { method = e.method; is = record { is = e.is }; entry = e.entry; plain = c.plain })

  pub all_are : {W : Type 0} (attempts : List (Attempt W)) → AllByRecursion (λ (x : Attempt W). IsCallOf program schema x.method x.args) attempts → AllByRecursion (λ (x : Attempt W). IsCall code x.method x.args) attempts
  all_are [] all = tt
  all_are (x ∷ attempts) all = (call_is x.method x.args all.0, all_are attempts all.1)

pub compiled_is_split : CompiledIsSplit
compiled_is_split code found sides c points touched compiled = record { points = points; touched = touched; prints = to_app sides code compiled.pinned; sends = compiled.sends; cut = compiled.cut }

pub accepted_is_placed_well : AcceptedIsPlacedWell
accepted_is_placed_well bytes program schema a found sides placed blocks S = placed_well bytes program schema a found sides placed blocks S

pub calls_run_as_programs : (Q W : Type 0) → CallsRunAsPrograms Q W
calls_run_as_programs Q W bytes program schema a found sides placed blocks S ask plain number args app db one world call fits rests = record {
  run = code_run (code_of program schema) ask one world number args;
  pair = calls_run_as_code Q W (code_of program schema) found sides placed blocks (placed_well bytes program schema a found sides placed blocks S) S.cut ask plain number args app db one world (call_is bytes program schema a number args call) fits rests;
  means = keeps_meaning Q W (checked_of program schema) (source bytes program schema a) (accepted_known schema program a.kept) ask one world number args;
}

pub sessions_of_programs : (Q W : Type 0) → SessionsOfPrograms Q W
sessions_of_programs Q W bytes program schema a found sides placed blocks S ask plain attempts all = sessions_served Q W (code_of program schema) found sides placed blocks (placed_well bytes program schema a found sides placed blocks S) S.cut ask plain attempts (all_are bytes program schema a attempts all)
