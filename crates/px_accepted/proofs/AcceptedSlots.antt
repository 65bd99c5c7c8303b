-- The methods of an accepted program have few slots.
use Rattle.std.proofs.Common.{ℕ, zero, suc, List, [], sym, subst, arith}
use Rattle.px_value.specs.declared.schema.Schema.{Schema}
use Rattle.px_tree.specs.declared.Program.{Program}
use Rattle.px_tree.specs.declared.Class.{Class}
use Rattle.px_parse.specs.Programs.{IsProgram}
use Rattle.px_lex.specs.Cutting.{tokens_of}
use Rattle.px_types.specs.Members.{classes_of}
use Rattle.px_types.specs.Programs.{declared_notes, main_notes, end_token, bodies}
use Rattle.px_types.specs.Bodies.{home_of, all_found}
use Rattle.px_types.specs.Checked.{facts_of, checked_of}
use Rattle.px_mean.specs.Program.{methods_of}
use Rattle.px_lowering.specs.Programs.{lowered}
use Rattle.px_soundness.proofs.Clean.{Clean, clean_right}
use Rattle.px_soundness.proofs.Accepted.{accepted_typed}
use Rattle.px_soundness.proofs.Texts.{program_classes}
use Rattle.px_typed_code.proofs.Members.{method_at}
use Rattle.px_typed_code.proofs.FewMethods.{slots_are_few}
use Rattle.px_soundness.specs.Laws.{IsAccepted}
use Rattle.px_accepted.specs.Limits.{AcceptedHasFewSlots}
use Rattle.px_accepted.proofs.Known.{no_notes}
use Rattle.px_accepted.proofs.ShortMethods.{AllShort, short_at, lexemes_are_from, declared_short}

-- the methods of a text's program, in which no breach is noted
short : (bytes : List ℕ) (program : Program) (schema : Schema) (p : IsProgram bytes program) → Clean (bodies (classes_of schema program.classes) 0 program.classes) → AllShort (methods_of program.classes) (all_found (home_of schema program.classes) program.classes).methods
short bytes program schema p =
    subst (λ (cs : List Class). Clean (bodies (classes_of schema cs) 0 cs) → AllShort (methods_of cs) (all_found (home_of schema cs) cs).methods) (sym p.classes)
    (declared_short _ _ bytes 0 p.declared _ p.spells (lexemes_are_from bytes 0 (tokens_of bytes)))

-- the same of an accepted one
pub accepted_short : (bytes : List ℕ) (program : Program) (schema : Schema) → IsAccepted bytes program schema → AllShort (methods_of program.classes) (all_found (home_of schema program.classes) program.classes).methods
accepted_short bytes program schema a =
    let classes = classes_of schema program.classes in
    short bytes program schema a.program_is (clean_right (main_notes classes.numbers (end_token program.tokens) program.classes) _ (clean_right (declared_notes program.classes) _ (no_notes schema program a.kept)))

pub accepted_slots_are_few : AcceptedHasFewSlots
unfolding facts_of lowered
accepted_slots_are_few bytes program schema a zero method h = absurd (cc h)
accepted_slots_are_few bytes program schema a (suc place) method h =
    let P = checked_of program schema in
    let d = program_classes bytes program a.program_is in
    let at = method_at P 1 (methods_of program.classes) P.facts.methods [] place method h in
    let few = slots_are_few P (accepted_typed schema program d.0 d.1 a.kept) (suc place) at.0 at.1 method at.2 at.3 h in
    let is_short = short_at (methods_of program.classes) P.facts.methods place at.0 at.1 (accepted_short bytes program schema a) at.2 at.3 in
    omega (arith, few, is_short.0)
