-- The code of an accepted program can be placed.
use Rattle.std.proofs.Common.{◌≡◌, sym, subst}
use Rattle.px_facts.specs.declared.checked.Checked.{Checked}
use Rattle.px_types.specs.Checked.{checked_of}
use Rattle.px_soundness.proofs.Accepted.{accepted_typed}
use Rattle.px_soundness.proofs.Texts.{program_classes}
use Rattle.px_normal.specs.declared.code.Code.{Code}
use Rattle.px_lowering.specs.Programs.{lowered}
use Rattle.px_typed_code.proofs.Order.{nodes_are_in_order}
use Rattle.px_accepted.proofs.UsedWell.{accepted_is_used_well}
use Rattle.px_flow_points.specs.There.{NumbersExist}
use Rattle.px_two_ends.proofs.Own.{own_node}
use Rattle.px_two_ends.proofs.Programs.{numbers_exist}
use Rattle.px_parts.specs.Texts.{AreOwn}
use Rattle.px_main.specs.Known.{IsKnown}

-- what holds of its code
by_code : (P : Code → Type 0) (c : Checked) (k : IsKnown c) (code : Code) → code ≡ lowered c → P (lowered (checked_of k.program k.schema)) → P code
by_code P c k code e h = subst P (sym e) (subst (λ (x : Checked). P (lowered x)) (sym k.is) h)

pub numbers_known : (c : Checked) → IsKnown c → (code : Code) → code ≡ lowered c → NumbersExist code
numbers_known c k code e = by_code NumbersExist c k code e (numbers_exist k.bytes k.program k.schema k.accepted)

pub own_known : (c : Checked) → IsKnown c → (code : Code) → code ≡ lowered c → AreOwn code
own_known c k code e =
    let d = program_classes k.bytes k.program k.accepted.program_is in
    let order = nodes_are_in_order (checked_of k.program k.schema) (accepted_typed k.schema k.program d.0 d.1 k.accepted.kept) (accepted_is_used_well k.schema k.program d.0 d.1 k.accepted.kept) in
    by_code AreOwn c k code e (own_node (lowered (checked_of k.program k.schema)) _ order)
