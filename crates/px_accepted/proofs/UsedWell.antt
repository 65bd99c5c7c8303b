-- An accepted program has all that typed code asks of it.
use Rattle.std.proofs.Common.{◌≡◌, ℕ, None}
use Rattle.px_value.specs.declared.schema.Schema.{Schema}
use Rattle.px_tree.specs.declared.Program.{Program}
use Rattle.px_types.specs.Programs.{first_breach_of}
use Rattle.px_types.specs.Checked.{checked_of}
use Rattle.px_typed_code.specs.Laws.{AreUsedWell}
use Rattle.px_soundness.specs.Numbered.{AreClasses}
use Rattle.px_soundness.proofs.Accepted.{accepted_used}
use Rattle.px_accepted.proofs.Known.{accepted_known}
use Rattle.px_accepted.proofs.KnownProgram.{accepted_fields, accepted_slots, accepted_results, accepted_owners, accepted_main, accepted_sites, accepted_kinds, accepted_entries}

pub accepted_is_used_well : (schema : Schema) (program : Program) (m : ℕ) → AreClasses 0 program.classes m → first_breach_of schema program ≡ None → AreUsedWell (checked_of program schema)
accepted_is_used_well schema program m d h = record {
  classes = accepted_known schema program h;
  fields = accepted_fields schema program m d h;
  slots = accepted_slots schema program m d h;
  results = accepted_results schema program m d h;
  owners = accepted_owners schema program m d h;
  main = accepted_main schema program m d h;
  bodies = accepted_used schema program m d h;
  sites = accepted_sites schema program m d h;
  kinds = accepted_kinds schema program m d h;
  entries = accepted_entries schema program m d h;
}
