-- An accepted program is typed by its facts.
use Rattle.std.proofs.Common.{◌≡◌, ℕ, true, zero, suc, List, [], Some, None, refl, sym, ◌∙◌, subst, append-nil}
use Rattle.px_value.specs.declared.schema.Schema.{Schema}
use Rattle.px_tree.specs.declared.Class.{Class}
use Rattle.px_tree.specs.declared.Method.{Method}
use Rattle.px_tree.specs.declared.Program.{Program}
use Rattle.px_facts.specs.declared.checked.Facts.{Facts}
use Rattle.px_facts.specs.declared.checked.MethodFact.{MethodFact}
use Rattle.px_types.specs.declared.node.Node.{Node}
use Rattle.px_types.specs.declared.classes.Classes.{Classes}
use Rattle.px_types.specs.Members.{classes_of}
use Rattle.px_types.specs.Programs.{end_token, declared_notes, class_names, main_notes, notes_of, first_breach_of}
use Rattle.px_types.specs.Names.{empty}
use Rattle.px_types.specs.Bodies.{firsts_from, home_of, all_found}
use Rattle.px_types.specs.Checked.{facts_in, facts_of, checked_of}
use Rattle.px_mean.specs.Facts.{by_number}
use Rattle.px_mean.specs.Program.{methods_of, source_from}
use Rattle.px_mean.specs.Typing.{IsTyped}
use Rattle.px_rows.specs.Tables.{Tables}
use Rattle.px_mean.specs.Asks.{by_tables}
use Rattle.px_mean.specs.Serial.{Call, serial, first_stand}
use Rattle.px_mean.specs.Typed.{are_kept}
use Rattle.px_mean.specs.TypedRuns.{OperationsFit, Passes, AreTypedCalls, IsTypedStand}
use Rattle.px_mean.proofs.TypedCalls.{serves_kept, first_stand_typed}
use Rattle.px_mean.proofs.TypedTables.{tables_answer_typed}
use Rattle.px_uses.specs.Uses.{AreUsed}
use Rattle.px_soundness.specs.Numbered.{AreClasses}
use Rattle.px_soundness.specs.Laws.{widths_of}
use Rattle.px_soundness.proofs.Asked.{all_asked}
use Rattle.px_soundness.proofs.Clean.{Clean, clean_left, clean_right, all_clean, some_is}
use Rattle.px_soundness.proofs.Standing.{Rest}
use Rattle.px_soundness.proofs.Premises.{MembersStand}
use Rattle.px_soundness.proofs.Methods.{IsJudged}
use Rattle.px_soundness.proofs.Programs.{AllProper, all_proper, classes_typed, typed_at, AllTyped, field_stands, method_stands, entry_typed, Stands}

no_notes : (schema : Schema) (program : Program) → first_breach_of schema program ≡ None → Clean (notes_of schema program)
unfolding first_breach_of
no_notes schema program h = all_clean (notes_of schema program) h

module _ (schema : Schema) (program : Program) where
  abbrev cs : List Class
  cs = program.classes

  abbrev classes : Classes
  classes = classes_of schema cs

  abbrev firsts : List ℕ
  firsts = firsts_from 1 classes.members

  abbrev F : Facts
  F = facts_in (home_of schema cs) cs

  stands : Stands classes firsts F cs
  stands = record { members = refl; firsts_are = refl; classes_are = refl; methods_are = refl }

  -- what is known of the program, and that each method is judged well
  record Judged : Type 0 where
    proper : AllProper classes firsts cs
    main : Clean (main_notes classes.numbers (end_token program.tokens) cs)
    methods : AllTyped classes firsts F (methods_of cs) (all_found (home_of schema cs) cs).methods

  judged : (m : ℕ) → AreClasses 0 cs m → Clean (notes_of schema program) → Judged
  judged m d c =
      let c1 = clean_left (declared_notes cs) _ c in
      let c2 = clean_right (declared_notes cs) _ c in
      let end = end_token program.tokens in
      let main = clean_left (main_notes classes.numbers end cs) _ c2 in
      let all = clean_right (main_notes classes.numbers end cs) _ c2 in
      let p = all_proper classes firsts 0 m cs d 0 (clean_right (class_names 0 empty cs) _ c1) all in
      let st : MembersStand F classes firsts = record { fields = field_stands classes firsts F cs stands p; methods = method_stands classes firsts F cs stands p; text = refl; array = refl; rows = refl } in
      let nodes = (all_found (home_of schema cs) cs).nodes in
      let r : Rest F 0 nodes = record { calls = 0; site = 1; facts = refl; operations = refl } in
      let t = classes_typed classes firsts F st 0 0 m cs d all [] (subst (λ (ns : List Node). Rest F 0 ns) (sym (append-nil nodes)) r) in
      record { proper = p; main = main; methods = t.0 }

  judged_at : (number : ℕ) (fact : MethodFact) → AllTyped classes firsts F (methods_of cs) (all_found (home_of schema cs) cs).methods → by_number F.methods number ≡ Some fact → (m : Method) × (by_number (methods_of cs) number ≡ Some m) × IsJudged F m fact
  judged_at zero fact t e = absurd (cc e)
  judged_at (suc k) fact t e = typed_at classes firsts F (methods_of cs) (all_found (home_of schema cs) cs).methods k fact t e

  typed_facts : (m : ℕ) → AreClasses 0 cs m → Clean (notes_of schema program) → IsTyped (record { facts = F; methods = methods_of cs })
  typed_facts m d c =
      let j = judged m d c in
      record {
        methods = λ number fact e. let k = judged_at number fact j.methods e in (k.0, k.1, k.2.typed);
        entries = λ place entry e. entry_typed classes firsts F cs stands j.proper place (end_token program.tokens) entry refl j.main e;
      }

  used_facts : (k : ℕ) → AreClasses 0 cs k → Clean (notes_of schema program) → (number : ℕ) (m : Method) (fact : MethodFact) → by_number (methods_of cs) number ≡ Some m → by_number F.methods number ≡ Some fact → AreUsed F fact.result m.body
  used_facts k d c number m fact h e =
      let j = judged_at number fact (judged k d c).methods e in
      subst (λ (x : Method). AreUsed F fact.result x.body) (some_is (sym j.1 ∙ h)) j.2.used

  pub accepted_typed : (m : ℕ) → AreClasses 0 program.classes m → first_breach_of schema program ≡ None → IsTyped (source_from (checked_of program schema))
  unfolding facts_of
  accepted_typed m d h = typed_facts m d (no_notes schema program h)

  -- and its parts are used as the rules say
  pub accepted_used : (k : ℕ) → AreClasses 0 program.classes k → first_breach_of schema program ≡ None → (number : ℕ) (m : Method) (fact : MethodFact) → by_number (methods_of program.classes) number ≡ Some m → by_number (checked_of program schema).facts.methods number ≡ Some fact → AreUsed (checked_of program schema).facts fact.result m.body
  unfolding facts_of
  accepted_used k d h = used_facts k d (no_notes schema program h)

-- what it asks fits the tables
pub accepted_fits : (schema : Schema) (program : Program) (m : ℕ) → AreClasses 0 program.classes m → OperationsFit (widths_of schema) (facts_of schema program)
unfolding facts_of
accepted_fits schema program m d number o h = all_asked schema (home_of schema program.classes) refl 0 m program.classes d number o h

-- and its runs stay typed
pub accepted_runs : (schema : Schema) (program : Program) (m sessions : ℕ) (tables : Tables) (calls : List Call) → AreClasses 0 program.classes m → first_breach_of schema program ≡ None → are_kept (widths_of schema) tables ≡ true → AreTypedCalls (facts_of schema program) calls
    → IsTypedStand (facts_of schema program) (Passes (are_kept (widths_of schema))) (serial by_tables (source_from (checked_of program schema)) sessions tables calls).1
accepted_runs schema program m sessions tables calls d h k a =
    let P = source_from (checked_of program schema) in
    let widths = widths_of schema in
    serves_kept _ _ by_tables P (tables_answer_typed _ widths P.facts (accepted_fits schema program m d)) (accepted_typed schema program m d h) calls (first_stand P sessions tables) a (first_stand_typed _ _ P sessions tables k)
