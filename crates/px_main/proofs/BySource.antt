-- What two ends serve by the code, they serve by the source.
use Rattle.std.proofs.Common.{◌≡◌, ℕ, zero, suc, List, [], ◌∷◌, length, map, Some, None, Ok, slice_get, refl, sym, ap, ◌∙◌, subst}
use Rattle.px_value.specs.declared.value.Value.{Value}
use Rattle.px_value.specs.declared.object.Object.{Object}
use Rattle.px_value.specs.declared.header.Kind.TheVariants as kind
use Rattle.px_value.specs.Outcome.{Gives, Throws, Asks}
use Rattle.px_value.specs.Defaults as plain
use Rattle.px_facts.specs.declared.checked.Checked.{Checked}
use Rattle.px_code.specs.declared.code.Code.{Code as SimpleCode}
use Rattle.px_code.specs.declared.class.Field.{Field as SimpleField}
use Rattle.px_code.specs.declared.plan.Plan.{Plan}
use Rattle.px_code.specs.declared.reply.Done.{Done}
use Rattle.px_code.specs.Sound.{CodeOutcome, run_of as simple_run}
use Rattle.px_code.specs.Stale.{Event}
use Rattle.px_half.specs.End.{fields_of as types_in, class_defaults, first_object}
use Rattle.px_rows.specs.Tables.{Tables}
use Rattle.px_mean.specs.Asks.{by_tables}
use Rattle.px_mean.specs.Facts as source
use Rattle.px_mean.specs.Program.{source_from}
use Rattle.px_mean.specs.Entry.{Called as Meant, ended, exec, first_heap}
use Rattle.px_normal.specs.declared.ty.Ty.{Ty as CodeTy}
use Rattle.px_normal.specs.declared.ty.Ty.TheVariants as code_ty
use Rattle.px_normal.specs.declared.class.Class.{Class}
use Rattle.px_normal.specs.declared.class.Field.{Field}
use Rattle.px_normal.specs.First.{default_of, field_default, fields_in}
use Rattle.px_normal.specs.Run.{untraced}
use Rattle.px_lowering.specs.Programs.{lowered}
use Rattle.px_preservation.proofs.Program.{same_program}
use Rattle.px_straight.specs.Simple.{simple_type, simple_field, simple_class}
use Rattle.px_straight.specs.Straight.{straight}
use Rattle.px_straight.specs.Laws.{told_run}
use Rattle.px_straight.proofs.Whole.{keeps_numbers}
use Rattle.px_straight.proofs.Runs.{runs_as_code}
use Rattle.px_session.specs.Serving.{Call, Called, Calling, called_as, by_code, IsServed, AreServed, none, more}
use Rattle.px_main.specs.Known.{IsKnown}
use Rattle.px_main.specs.Solo.{code_of, left_by, by_source}
use Rattle.px_main.proofs.Accepted.{typed_code, classes_known, meaning_kept}

-- the code is that of the program, as two ends have it
pub simple_is : (c : Checked) (simple : SimpleCode) → straight (lowered c) ≡ Ok simple → simple ≡ code_of c
simple_is c simple s = keeps_numbers (lowered c) simple s

-- ---- one call

-- what a call left of which nothing was asked and printed, over this world
abbrev pub with_world : {W : Type 0} → W → Called → Meant W
with_world world c = record { reply = c.reply; prints = []; heap = c.heap; world = world }

left_as : {W : Type 0} (heap : List Object) (world : W) (o : CodeOutcome) → ended heap world (untraced (told_run heap world o)) ≡ with_world world (called_as heap o)
left_as heap world (Gives None s) = refl
left_as heap world (Gives (Some v) s) = refl
left_as heap world (Throws t s) = refl
left_as heap world (Asks q s) = absurd q

-- a call by the source leaves what it leaves by the code, and the tables as they were
pub same_ended : (c : Checked) → IsKnown c → (simple : SimpleCode) → straight (lowered c) ≡ Ok simple → (heap : List Object) (T : Tables) (method : ℕ) (args : List Value)
    → ended heap T (exec by_tables (source_from c) heap T method args) ≡ with_world T (called_as heap (simple_run simple heap method args))
same_ended c k simple s heap T method args =
    ap (ended heap T) (meaning_kept _ Tables c k by_tables heap T method args ∙ ap untraced (runs_as_code _ Tables (lowered c) simple (typed_code c k) s by_tables heap T method args))
    ∙ left_as heap T (simple_run simple heap method args)

same_call : (c : Checked) → IsKnown c → (simple : SimpleCode) → straight (lowered c) ≡ Ok simple → (T : Tables) (heap : List Object) (call : Call) → by_code simple heap call ≡ by_source c T heap call
same_call c k simple s T heap call = sym (ap left_by (same_ended c k simple s heap T call.method call.args))

-- ---- all calls

pub served_alike : (f g : Calling) (plan : Plan) → ((heap : List Object) (call : Call) → f heap call ≡ g heap call) → {heap : List Object} {events : List Event} {calls : List Call} {dones : List Done} → AreServed f plan heap events calls dones → AreServed g plan heap events calls dones
served_alike f g plan same none = none
served_alike f g plan same {heap = heap} (more {before = before} {after = after} {c = c} {calls = calls} {done = done} {dones = dones} one rest) =
    more
    (subst (λ (x : Called). IsServed plan heap c x.reply before done after) (same heap c) one)
    (subst (λ (x : Called). AreServed g plan x.heap after calls dones) (same heap c) (served_alike f g plan same rest))

-- ---- the first heap

same_default : (t : CodeTy) → plain.default_of (simple_type t) ≡ default_of t
same_default code_ty.Int = refl
same_default code_ty.Long = refl
same_default code_ty.Bool = refl
same_default code_ty.Text = refl
same_default code_ty.Rows = refl
same_default (code_ty.Object class) = refl
same_default (code_ty.Array element) = refl

same_fields : (fields : List Field) → map plain.default_of (map (λ (f : SimpleField). f.ty) (map simple_field fields)) ≡ map field_default fields
same_fields [] = refl
same_fields (f ∷ fields) = λ i. same_default f.ty i ∷ same_fields fields i

same_cells : (classes : List Class) (class : ℕ) → map plain.default_of (types_in (slice_get (map simple_class classes) class)) ≡ map field_default (fields_in (slice_get classes class))
same_cells [] class = refl
same_cells (c ∷ classes) zero = same_fields c.fields
same_cells (c ∷ classes) (suc class) = same_cells classes class

-- an object of this class with these cells
object_of : ℕ → List Value → Object
object_of class cells = record { header = record { kind = kind.Object class; site = 0; length = length cells }; cells = cells }

first_as : (c : Checked) → first_object (code_of c) ≡ object_of c.facts.main.class (class_defaults (code_of c) c.facts.main.class)
unfolding lowered object_of
first_as c = refl

first_from : (c : Checked) → object_of c.facts.main.class (map source.default_of (source.fields_of c.facts c.facts.main.class)) ∷ [] ≡ first_heap c.facts
unfolding object_of
first_from c = refl

pub first_is : (c : Checked) → IsKnown c → first_object (code_of c) ∷ [] ≡ first_heap c.facts
first_is c k =
    let main = c.facts.main.class in
    let cells = same_cells (lowered c).classes main ∙ (same_program c (classes_known c k)).fresh main in
    ap (λ (o : Object). o ∷ []) (first_as c ∙ ap (object_of main) cells) ∙ first_from c

-- what two ends serve of calls from the first heap by the code, they serve by the source
pub as_source : (c : Checked) → IsKnown c → (simple : SimpleCode) → straight (lowered c) ≡ Ok simple → (T : Tables) (plan : Plan) (calls : List Call) (dones : List Done)
    → AreServed (by_code simple) plan (first_object simple ∷ []) [] calls dones → AreServed (by_source c T) plan (first_heap c.facts) [] calls dones
as_source c k simple s T plan calls dones h =
    let first = ap (λ (x : SimpleCode). first_object x ∷ []) (simple_is c simple s) ∙ first_is c k in
    subst (λ (heap : List Object). AreServed (by_source c T) plan heap [] calls dones) first (served_alike (by_code simple) (by_source c T) plan (same_call c k simple s T) h)
