-- The facts of an accepted program know each field that it declares.
use Rattle.std.proofs.Common.{◌≡◌, ℕ, ◌+◌, List, [], ◌∷◌, length, map, fold, None, ap, ◌∙◌, arith}
use Rattle.std.proofs.lemmas.List.{length-map}
use Rattle.px_value.specs.declared.schema.Schema.{Schema}
use Rattle.px_tree.specs.declared.Program.{Program}
use Rattle.px_tree.specs.declared.Class.{Class}
use Rattle.px_tree.specs.declared.Member.{Member}
use Rattle.px_tree.specs.declared.Member.TheVariants as member
use Rattle.px_types.specs.declared.table.Table.{Table}
use Rattle.px_types.specs.declared.classes.FieldType.{FieldType}
use Rattle.px_types.specs.declared.classes.Members.{Members}
use Rattle.px_type_rules.specs.Breaches.{breach_if}
use Rattle.px_types.specs.Names.{empty, has_name}
use Rattle.px_types.specs.Members.{no_members, field_type, with_member, class_members, numbers_of}
use Rattle.px_types.specs.Programs.{field_names, method_names, members_notes, all_members, class_names, declared_notes, notes_of, first_breach_of}
use Rattle.px_types.specs.Checked.{type_in, class_known, facts_of, checked_of}
use Rattle.px_soundness.proofs.Clean.{Clean, clean_left, clean_right, not_broken, all_clean}
use Rattle.px_soundness.proofs.Scopes.{length_push, declare_fresh}
use Rattle.px_preservation.specs.Laws.{fields_in, AreKnown}

pub no_notes : (schema : Schema) (program : Program) → first_breach_of schema program ≡ None → Clean (notes_of schema program)
unfolding first_breach_of
no_notes schema program h = all_clean (notes_of schema program) h

module _ (numbers : Table ℕ) where
  -- each field among members is one more
  fields_counted : (ms : List Member) (count : ℕ) (before : Members) → Clean (members_notes numbers count before ms) → length (fold (with_member numbers) before ms).fields.values ≡ length before.fields.values + length (fields_in ms)
  fields_counted [] count before c = omega (arith)
  fields_counted (member.Field f ∷ ms) count before c =
      let again = has_name f.name.bytes before.fields.names in
      let own = clean_left (field_names numbers count before f) _ c in
      let fresh = not_broken again f.name.token 1 (clean_left (breach_if again f.name.token 1) _ own) in
      let after = with_member numbers before (member.Field f) in
      let more : length after.fields.values ≡ length before.fields.values + 1 = ap (λ (t : Table FieldType). length t.values) (declare_fresh f.name.bytes (field_type numbers f) before.fields fresh) ∙ length_push before.fields.values (field_type numbers f) in
      let rest = fields_counted ms (count + 1) after (clean_right (field_names numbers count before f) _ c) in
      omega (arith, more, rest)
  fields_counted (member.Method m ∷ ms) count before c =
      fields_counted ms count (with_member numbers before (member.Method m)) (clean_right (method_names before m) _ c)

  all_known : (cs : List Class) → Clean (all_members numbers cs) → AreKnown cs (map class_known (map (class_members numbers) cs))
  all_known [] c = tt
  all_known (x ∷ cs) c =
      let own = fields_counted x.members 0 no_members (clean_left (members_notes numbers 0 no_members x.members) _ c) in (
        (let mapped = length-map (class_members numbers x).fields.values type_in in omega (arith, mapped, own)),
        all_known cs (clean_right (members_notes numbers 0 no_members x.members) _ c),
      )

pub accepted_known : (schema : Schema) (program : Program) → first_breach_of schema program ≡ None → AreKnown program.classes (checked_of program schema).facts.classes
unfolding facts_of
accepted_known schema program h =
    let c = no_notes schema program h in
    let c1 = clean_left (declared_notes program.classes) _ c in
    all_known (numbers_of program.classes) program.classes (clean_right (class_names 0 empty program.classes) _ c1)
