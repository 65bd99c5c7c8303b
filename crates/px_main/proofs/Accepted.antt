-- What holds of an accepted program and of its code.
use Rattle.std.proofs.Common.{◌≡◌, ℕ, ◌+◌, ◌≤◌, ◌<◌, ◌^◌, List, length, Option, Some, None, Result, Ok, Err, slice_get, refl, sym, subst, arith}
use Rattle.px_value.specs.declared.schema.Schema.{Schema}
use Rattle.px_value.specs.declared.value.Value.{Value}
use Rattle.px_value.specs.declared.object.Object.{Object}
use Rattle.px_value.specs.Heap.{max_counted}
use Rattle.px_tree.specs.declared.Program.{Program}
use Rattle.px_facts.specs.declared.checked.Checked.{Checked}
use Rattle.px_facts.specs.declared.checked.Entry.{Entry}
use Rattle.px_effects.specs.Run.{Ask}
use Rattle.px_parse.specs.Programs.{IsProgram}
use Rattle.px_sql.specs.Tables.{schema_of}
use Rattle.px_type_rules.specs.declared.breach.Breach.{Breach}
use Rattle.px_types.specs.Programs.{first_breach_of, max_fields}
use Rattle.px_types.specs.Methods.{max_tokens}
use Rattle.px_types.specs.Checked.{checked_of}
use Rattle.px_mean.specs.Program.{source_from}
use Rattle.px_mean.specs.Entry.{exec}
use Rattle.px_normal.specs.declared.method.Method.{Method}
use Rattle.px_normal.specs.First.{numbered}
use Rattle.px_normal.specs.Run.{untraced}
use Rattle.px_normal.specs.CodeRun.{code_run}
use Rattle.px_normal.specs.Typed.{IsTyped}
use Rattle.px_lowering.specs.Programs.{lowered}
use Rattle.px_preservation.specs.Laws.{AreKnown}
use Rattle.px_preservation.proofs.Whole.{keeps_meaning}
use Rattle.px_typed_code.specs.Laws.{IsEntryOf}
use Rattle.px_typed_code.proofs.Programs.{lowered_is_typed, entries_are_methods}
use Rattle.px_soundness.proofs.Accepted.{accepted_typed}
use Rattle.px_soundness.proofs.Texts.{program_classes}
use Rattle.px_accepted.specs.Limits.{KeepsLimits}
use Rattle.px_accepted.proofs.Known.{accepted_known}
use Rattle.px_accepted.proofs.KnownProgram.{accepted_public}
use Rattle.px_accepted.proofs.UsedWell.{accepted_is_used_well}
use Rattle.px_accepted.proofs.AcceptedSlots.{accepted_slots_are_few}
use Rattle.px_accepted.proofs.Limits.{accepted_keeps_limits}
use Rattle.px_straight.specs.Laws.{IsSmall}
use Rattle.px_main.specs.Whole.{by_rules, by_tables, IsFound, ungrammatical, grammatical, JudgesWhole}
use Rattle.px_main.specs.Known.{IsKnown}

-- ---- what is found without a fault is known

known_rules : (bytes : List ℕ) (program : Program) (schema : Schema) (c : Checked) (first : Option Breach) → IsProgram bytes program → first_breach_of schema program ≡ first → Ok c ≡ by_rules program schema first → IsKnown c
known_rules bytes program schema c None is kept h = let e : c ≡ checked_of program schema = cc in record { bytes = bytes; program = program; schema = schema; accepted = record { program_is = is; kept = kept }; is = e }
known_rules bytes program schema c (Some b) is kept h = cc

known_tables : (bytes : List ℕ) (program : Program) (c : Checked) (S : Result Schema ℕ) → IsProgram bytes program → Ok c ≡ by_tables program S → IsKnown c
known_tables bytes program c (Ok schema) is h = known_rules bytes program schema c (first_breach_of schema program) is refl h
known_tables bytes program c (Err index) is h = cc

known_found : (bytes : List ℕ) (c : Checked) → IsFound bytes (Ok c) → IsKnown c
known_found bytes c (ungrammatical number refused h) = cc
known_found bytes c (grammatical program is h) = known_tables bytes program c (schema_of program.tables) is h

pub known_judged : (file : Option (List ℕ)) (c : Checked) → JudgesWhole file (Ok c) → IsKnown c
known_judged None c h = cc
known_judged (Some bytes) c h = known_found bytes c h

-- ---- its code

abbrev pub IsTypedCode : Checked → Type 0
IsTypedCode c = IsTyped (lowered c)

pub typed_code : (c : Checked) → IsKnown c → IsTypedCode c
typed_code c k =
    let d = program_classes k.bytes k.program k.accepted.program_is in
    let one = lowered_is_typed (checked_of k.program k.schema) (accepted_typed k.schema k.program d.0 d.1 k.accepted.kept) (accepted_is_used_well k.schema k.program d.0 d.1 k.accepted.kept) in
    subst IsTypedCode (sym k.is) one

abbrev pub HasEntries : Checked → Type 0
HasEntries c = (place : ℕ) (entry : Entry) → slice_get c.facts.main.entries place ≡ Some entry → IsEntryOf (lowered c) entry

pub has_entries : (c : Checked) → IsKnown c → HasEntries c
has_entries c k =
    let d = program_classes k.bytes k.program k.accepted.program_is in
    let one = entries_are_methods (checked_of k.program k.schema) (accepted_typed k.schema k.program d.0 d.1 k.accepted.kept) (accepted_is_used_well k.schema k.program d.0 d.1 k.accepted.kept) (accepted_public k.schema k.program d.0 d.1 k.accepted.kept) in
    subst HasEntries (sym k.is) one

abbrev pub ClassesKnown : Checked → Type 0
ClassesKnown c = AreKnown c.program.classes c.facts.classes

pub classes_known : (c : Checked) → IsKnown c → ClassesKnown c
classes_known c k = subst ClassesKnown (sym k.is) (accepted_known k.schema k.program k.accepted.kept)

abbrev pub KeepsMeaning : Type 0 → Type 0 → Checked → Type 0
KeepsMeaning Q W c = (ask : Ask Q W) (heap : List Object) (world : W) (method : ℕ) (args : List Value) → exec ask (source_from c) heap world method args ≡ untraced (code_run (lowered c) ask heap world method args)

pub meaning_kept : (Q W : Type 0) (c : Checked) → IsKnown c → KeepsMeaning Q W c
meaning_kept Q W c k =
    let d = program_classes k.bytes k.program k.accepted.program_is in
    let one = keeps_meaning Q W (checked_of k.program k.schema) (accepted_typed k.schema k.program d.0 d.1 k.accepted.kept) (accepted_known k.schema k.program k.accepted.kept) in
    subst (KeepsMeaning Q W) (sym k.is) one

-- ---- its size

abbrev pub HasFewSlots : Checked → Type 0
HasFewSlots c = (number : ℕ) (method : Method) → numbered (lowered c).methods number ≡ Some method → length method.slots ≤ max_tokens + max_tokens

few_slots : (c : Checked) → IsKnown c → HasFewSlots c
few_slots c k = subst HasFewSlots (sym k.is) (accepted_slots_are_few k.bytes k.program k.schema k.accepted)

abbrev pub KeepsItsLimits : Checked → Type 0
KeepsItsLimits c = KeepsLimits (lowered c)

limits_kept : (c : Checked) → IsKnown c → KeepsItsLimits c
limits_kept c k = subst KeepsItsLimits (sym k.is) (accepted_keeps_limits k.bytes k.program k.schema k.accepted)

less : (n : ℕ) → n ≤ max_tokens + max_tokens → n ≤ 2 ^ 16
less n h = omega (arith, h)

small : (n : ℕ) → n ≤ max_fields → n < max_counted
small n h = omega (arith, h)

pub is_small : (c : Checked) → IsKnown c → IsSmall (lowered c)
is_small c k = record {
  slots = λ number method at. less (length method.slots) (few_slots c k number method at);
  main = small _ ((limits_kept c k).fields (lowered c).main);
}
