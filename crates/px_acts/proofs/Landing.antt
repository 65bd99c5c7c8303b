-- Acts that print nothing, among what words do.
use Rattle.std.proofs.Common.{◌≡◌, List, Result, Ok, Err, IfOk, ℕ, sym, ap, subst}
use Rattle.std.specs.declared.alloc.AllocError.{AllocError}
use Rattle.px_value.specs.declared.value.Value.{Value}
use Rattle.px_value.specs.declared.value.Value.TheVariants.{Int, Long, Bool as Truth, Text, Null, Ref}
use Rattle.px_value.specs.declared.thrown.Thrown.{Thrown}
use Rattle.px_value.specs.declared.object.Object.{Object}
use Rattle.px_effects.specs.Act.{Act, Comes, Ends, acted, landed, Firsts}
use Rattle.px_effects.specs.Operations.{Acts}
use Rattle.px_effects.specs.Cells.{reference}
use Rattle.px_normal.specs.declared.code.Code.{Code}
use Rattle.px_normal.specs.declared.word.Word.{Word}
use Rattle.px_normal.specs.Words.{Does as Meant, Works, does_of, invokes_on}
use Rattle.px_acts.specs.declared.does.Does.{Does}
use Rattle.px_acts.specs.declared.does.Does.TheVariants as told
use Rattle.px_acts.specs.Did.{Did, Shared, ActsAs, firsts_of}

abbrev pub at_heap : Shared → List Object → Shared
at_heap s heap = record s { heap = heap }

pub acts_alone : (firsts : Firsts) (act : Act) (s : Shared) (d : Does) (new : List Object) → ActsAs (acted firsts act s.heap) d new → Did firsts (Works (Acts act)) s d (at_heap s new)
acts_alone firsts act s (told.Comes v w) new h =
    record {
      comes = ap (λ (e : Ends). (landed s.prints e).value) h.comes;
      printed = ap (λ (e : Ends). (landed s.prints e).prints) h.comes;
      wrote = h.wrote;
      left = h.left;
    }
acts_alone firsts act s (told.Operates op) new h = absurd h
acts_alone firsts act s (told.Invokes m vs) new h = absurd h

pub acts_if : (firsts : Firsts) (act : Act) (s : Shared) (r : Result Does AllocError) (new : List Object) → IfOk r (λ d. ActsAs (acted firsts act s.heap) d new) → IfOk r (λ d. Did firsts (Works (Acts act)) s d (at_heap s new))
acts_if firsts act s (Ok d) new h = acts_alone firsts act s d new h
acts_if firsts act s (Err e) new h = h

-- ---- words

module _ (code : Code) (slots : List Value) (from : Shared) (r : Result Does AllocError) where
  abbrev pub WordDid : Word → Shared → Type 0
  WordDid word to = IfOk r (λ d. Did (firsts_of code) (does_of code word slots) from d to)

  pub by_word : (word word' : Word) (to : Shared) → word ≡ word' → WordDid word' to → WordDid word to
  by_word word word' to e h = subst (λ (x : Word). WordDid x to) (sym e) h

  pub by_act : (word word' : Word) (act : Act) (new : List Object) → word ≡ word' → does_of code word' slots ≡ Works (Acts act) → IfOk r (λ d. ActsAs (acted (firsts_of code) act from.heap) d new) → WordDid word (at_heap from new)
  by_act word word' act new e k h =
      by_word word word' (at_heap from new) e
      (subst (λ (x : Meant). IfOk r (λ d. Did (firsts_of code) x from d (at_heap from new))) (sym k) (acts_if (firsts_of code) act from r new h))

-- ---- calls

abbrev pub on_reference : Result ℕ Thrown → ℕ → List Value → Meant
on_reference (Ok object) method values = invokes_on (Ref object) method values
on_reference (Err t) method values = Works (Acts (Comes (Err t)))

pub invokes_is : (v : Value) (method : ℕ) (values : List Value) (r : Result ℕ Thrown) → reference v ≡ r → invokes_on v method values ≡ on_reference r method values
invokes_is (Int n) method values r h = ap (λ (x : Result ℕ Thrown). on_reference x method values) h
invokes_is (Long n) method values r h = ap (λ (x : Result ℕ Thrown). on_reference x method values) h
invokes_is (Truth b) method values r h = ap (λ (x : Result ℕ Thrown). on_reference x method values) h
invokes_is (Text t) method values r h = ap (λ (x : Result ℕ Thrown). on_reference x method values) h
invokes_is Null method values r h = ap (λ (x : Result ℕ Thrown). on_reference x method values) h
invokes_is (Ref o) method values r h = ap (λ (x : Result ℕ Thrown). on_reference x method values) h
