-- The heap with which a session begins, and the calls that may be made on a heap.
use Rattle.std.proofs.Common.{◌≡◌, ℕ, zero, suc, List, [], ◌∷◌, map, Some, slice_get, refl, subst}
use Rattle.std.specs.List.{AllByRecursion}
use Rattle.px_value.specs.declared.value.Value.{Value}
use Rattle.px_value.specs.declared.value.Value.TheVariants.{Ref}
use Rattle.px_value.specs.declared.object.Object.{Object}
use Rattle.px_value.specs.declared.ty.Ty.{Ty}
use Rattle.px_value.specs.declared.ty.Ty.TheVariants as ty
use Rattle.px_value.specs.Defaults.{default_of}
use Rattle.px_value.specs.Heap.{cell_at}
use Rattle.px_code.specs.declared.code.Code.{Code}
use Rattle.px_code.specs.Fits.{IsMade, Fits}
use Rattle.px_code.specs.Sound.{IsNoReference, IsInput}
use Rattle.px_wire.specs.Fitting.{HasShortText}
use Rattle.px_half.specs.End.{fields_of, class_defaults, first_object}
use Rattle.px_half.proofs.Tellable.{all_at}
use Rattle.px_pair.specs.FirstHeap.{FirstHeapFits}
use Rattle.px_pair.specs.Callable.{IsCallable}
use Rattle.px_pair.proofs.Sessions.{default_plain}
use Rattle.px_pair.proofs.Servable.{defaults_counted}

-- ---- defaults

default_short : (t : Ty) → HasShortText (default_of t)
default_short ty.Int = tt
default_short ty.Long = tt
default_short ty.Bool = tt
default_short ty.Text = tt
default_short ty.Ref = tt

all_defaults : (P : Value → Type 0) → ((t : Ty) → P (default_of t)) → (types : List Ty) → AllByRecursion P (map default_of types)
all_defaults P each [] = tt
all_defaults P each (t ∷ types) = (each t, all_defaults P each types)

all_fields : (P : Value → Type 0) → ((t : Ty) → P (default_of t)) → (code : Code) (class : ℕ) → AllByRecursion P (class_defaults code class)
all_fields P each code class = all_defaults P each (fields_of (slice_get code.classes class))

-- ---- the first heap

first_made : (code : Code) (place : ℕ) (o : Object) → slice_get (first_object code ∷ []) place ≡ Some o → IsMade code o
first_made code zero o e = let same : first_object code ≡ o = cc in subst (IsMade code) same (record { kind = refl; counted = refl; fields = defaults_counted code code.main })
first_made code (suc n) o e = cc

no_reference : (code : Code) (place index target : ℕ) → cell_at (first_object code ∷ []) place index ≡ Some (Ref target) → ⊥
no_reference code zero index target e = all_at IsNoReference (class_defaults code code.main) index (Ref target) (all_fields IsNoReference default_plain code code.main) e
no_reference code (suc n) index target e = cc

pub first_heap_fits : FirstHeapFits
first_heap_fits plan = record {
  fits = record {
    shaped = record { first = first_object plan.code; first_is = refl; of_main = refl; at_site_0 = refl; made = first_made plan.code };
    leads = λ place index target h is there. absurd (no_reference plan.code place index target is);
  };
  tellable = record { texts = (all_fields HasShortText default_short plan.code plan.code.main, tt) };
}

-- ---- calls

-- a call that a job may make is one of the code's entries, on any heap that fits
pub is_input : (code : Code) (heap : List Object) (number : ℕ) (args : List Value) → Fits code heap → IsCallable code number args → IsInput code heap number args
is_input code heap number args fits callable = record { fits = fits; method = callable.method; is = callable.is; entry = callable.entry; counted = callable.counted; plain = callable.plain }
