-- Some code that has what the facts of a program say, without bodies: with it, that slots and nodes grow is known before any body is.
use Rattle.std.proofs.Common.{◌≡◌, ℕ, zero, suc, true, false, List, [], ◌∷◌, append-nil, length, map, Option, Some, None, option_map, slice_get, refl, sym, ap, ◌∙◌}
use Rattle.std.proofs.lemmas.Option.{slice_get-map}
use Rattle.px_facts.specs.declared.types.Ty.{Ty as Static}
use Rattle.px_facts.specs.declared.checked.Checked.{Checked}
use Rattle.px_facts.specs.declared.checked.ClassFact.{ClassFact}
use Rattle.px_facts.specs.declared.checked.MethodFact.{MethodFact}
use Rattle.px_mean.specs.Facts.{by_number, fields_in}
use Rattle.px_mean.specs.Program.{methods_of, source_from}
use Rattle.px_mean.specs.Typing.{IsTyped as IsTypedSource}
use Rattle.px_normal.specs.declared.ty.Ty.{Ty}
use Rattle.px_normal.specs.declared.ty.Ty.TheVariants as ty
use Rattle.px_normal.specs.declared.class.Class.{Class as CodeClass}
use Rattle.px_normal.specs.declared.class.Field.{Field}
use Rattle.px_normal.specs.declared.method.Method.{Method as CodeMethod}
use Rattle.px_normal.specs.declared.code.Code.{Code}
use Rattle.px_normal.specs.declared.code.Site.{Site}
use Rattle.px_normal.specs.First.{numbered, fields_in as code_fields_in}
use Rattle.px_normal.specs.Typed.{type_of, kind_of as kind_in}
use Rattle.px_lowering.specs.declared.allocations.Allocation.{Allocation}
use Rattle.px_lowering.specs.Types.{code_type, code_result}
use Rattle.px_lowering.specs.Programs.{allocations, statement_of}
use Rattle.px_typed_code.specs.Values.{is_value}
use Rattle.px_typed_code.specs.Laws.{AreUsedWell}
use Rattle.px_typed_code.proofs.Drafts.{grows_append}
use Rattle.px_typed_code.proofs.Around.{IsCodeOf}

abbrev bare_method : MethodFact → CodeMethod
bare_method fact = record { class = fact.class; name = []; node = 0; entry = false; params = length fact.params; gives = code_result fact.result; slots = ty.Object fact.class ∷ map code_type fact.params; body = [] }

abbrev bare_field : Static → Field
bare_field t = record { name = []; ty = code_type t; node = 0 }

abbrev bare_class : ClassFact → CodeClass
bare_class c = record { name = []; fields = map bare_field c.fields }

abbrev bare_site : Allocation → Site
bare_site a = record { kind = a.kind; node = None }

abbrev pub bare : Checked → Code
bare P = record {
  main = 0;
  classes = map bare_class P.facts.classes;
  methods = map bare_method P.facts.methods;
  sites = map bare_site (allocations P.facts 1 (methods_of P.program.classes));
  nodes = [];
  schema = P.schema;
  statements = map statement_of P.facts.operations;
}

pub numbered_map : {A B : Type 0} (h : A → B) (xs : List A) (number : ℕ) (x : A) → by_number xs number ≡ Some x → numbered (map h xs) number ≡ Some (h x)
numbered_map h xs zero x e = absurd (cc e)
numbered_map h xs (suc place) x e = slice_get-map h xs place ∙ ap (option_map h) e

class_field : (c : Option ClassFact) (classes : Option CodeClass) (place : ℕ) (t : Static) → slice_get (fields_in c) place ≡ Some t → classes ≡ option_map bare_class c → type_of (slice_get (code_fields_in classes) place) ≡ Some (code_type t)
class_field None classes place t h e = absurd (cc h)
class_field (Some c) classes place t h e = ap (λ (k : Option CodeClass). type_of (slice_get (code_fields_in k) place)) e ∙ ap type_of (slice_get-map bare_field c.fields place ∙ ap (option_map bare_field) h)

module _ (P : Checked) (typed : IsTypedSource (source_from P)) (used : AreUsedWell P) where
  -- a parameter is a slot
  pub param_value : (number place : ℕ) (fact : MethodFact) (t : Static) → by_number P.facts.methods number ≡ Some fact → slice_get fact.params place ≡ Some t → is_value t ≡ true
  param_value number place fact t e h =
      let m = typed.methods number fact e in
      used.slots number (suc place) fact t e (ap (λ (xs : List Static). slice_get xs (suc place)) m.2.slots ∙ grows_append fact.params m.2.locals place t h)

  pub bare_is : IsCodeOf P.facts (bare P)
  bare_is = record {
    methods = λ number fact e. record { method = bare_method fact; there = numbered_map bare_method P.facts.methods number fact e; params = refl; gives = refl; behind = []; slots = ap (λ (xs : List Ty). ty.Object fact.class ∷ xs) (sym (append-nil (map code_type fact.params))) };
    params = param_value;
    results = used.results;
    fields = λ class place t h. class_field (slice_get P.facts.classes class) (slice_get (bare P).classes class) place t h (slice_get-map bare_class P.facts.classes class);
    values = used.fields;
    sites = λ id site k e h. let a = used.sites id site k e h in ap kind_in (numbered_map bare_site (allocations P.facts 1 (methods_of P.program.classes)) site a.0 a.1) ∙ ap Some a.2;
    statements = λ number o e. numbered_map statement_of P.facts.operations number o e;
  }
