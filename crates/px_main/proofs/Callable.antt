-- The calls of a job are calls of the code.
use Rattle.std.proofs.Common.{◌≡◌, ℕ, suc, List, [], ◌∷◌, length, map, Option, Some, Ok, slice_get, refl, sym, ap, ◌∙◌, subst}
use Rattle.std.specs.List.{AllByRecursion}
use Rattle.px_value.specs.declared.ty.Ty.{Ty}
use Rattle.px_value.specs.declared.value.Value.{Value}
use Rattle.px_value.specs.declared.value.Value.TheVariants as value
use Rattle.px_facts.specs.declared.checked.Checked.{Checked}
use Rattle.px_facts.specs.declared.checked.Entry.{Entry}
use Rattle.px_code.specs.declared.code.Code.{Code as SimpleCode}
use Rattle.px_code.specs.Sound.{IsNoReference}
use Rattle.px_wire.specs.Fitting.{HasShortText}
use Rattle.px_pair.specs.Callable.{IsCallable}
use Rattle.px_lowering.specs.Programs.{lowered}
use Rattle.px_straight.specs.Simple.{simple_method}
use Rattle.px_straight.specs.Straight.{straight}
use Rattle.px_straight.proofs.Whole.{entries}
use Rattle.px_job.specs.declared.job.Call.{Call as JobCall}
use Rattle.px_job.specs.Fitting.{HaveTypes}
use Rattle.px_job.specs.Short.{HasPlainArguments, HasShortText as IsShort}
use Rattle.px_main.specs.Known.{IsKnown}
use Rattle.px_main.specs.Served.{IsCall, AreCalls}
use Rattle.px_main.specs.Solo.{method_at, asked}
use Rattle.px_main.proofs.Accepted.{has_entries}

-- a call of an entry that there is, with arguments for it that a message can hold
pub record IsFitting (entries : List Entry) (call : JobCall) : Type 0 where
  pub entry : Entry
  pub found : slice_get entries call.entry ≡ Some entry
  pub arguments : HaveTypes entry.params call.args
  pub plain : HasPlainArguments call

-- ---- arguments

short_text : (v : Value) → IsShort v → HasShortText v
short_text (value.Text text) h = record { short = h.short; ascii = h.ascii }
short_text (value.Int n) h = tt
short_text (value.Long n) h = tt
short_text (value.Bool b) h = tt
short_text value.Null h = tt
short_text (value.Ref n) h = tt

short_texts : (args : List Value) → AllByRecursion IsShort args → AllByRecursion HasShortText args
short_texts [] h = tt
short_texts (v ∷ args) h = (short_text v h.0, short_texts args h.1)

counted : (types : List Ty) (args : List Value) → HaveTypes types args → length args ≡ length types
counted [] [] h = refl
counted [] (v ∷ args) h = absurd h
counted (t ∷ types) [] h = absurd h
counted (t ∷ types) (v ∷ args) h = ap suc (counted types args h.1)

-- ---- calls

module _ (c : Checked) (k : IsKnown c) (simple : SimpleCode) (s : straight (lowered c) ≡ Ok simple) where
  callable_entry : (place : ℕ) (e : Entry) (args : List Value) → slice_get c.facts.main.entries place ≡ Some e → HaveTypes e.params args → AllByRecursion IsNoReference args → AllByRecursion IsShort args → IsCallable simple e.method args
  callable_entry place e args found typed plain short =
      let one = has_entries c k place e found in
      record {
        method = simple_method one.method;
        is = entries (lowered c) simple s e.method one.method one.is;
        entry = one.entry;
        counted = counted e.params args typed ∙ sym one.params;
        plain = plain;
        short = short_texts args short;
      }

  callable : (call : JobCall) → IsFitting c.facts.main.entries call → IsCall simple (asked c.facts.main.entries call)
  callable call fits =
      subst (λ (found : Option Entry). IsCallable simple (method_at found) call.args) (sym fits.found) (callable_entry call.entry fits.entry call.args fits.found fits.arguments fits.plain.plain fits.plain.short)

  pub all_callable : (calls : List JobCall) → AllByRecursion (IsFitting c.facts.main.entries) calls → AreCalls simple (map (asked c.facts.main.entries) calls)
  all_callable [] fits = tt
  all_callable (call ∷ calls) fits = (callable call fits.0, all_callable calls fits.1)
