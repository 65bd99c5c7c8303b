-- What the nodes of an accepted program make: objects and arrays of known classes, and calls of `Db` that ask for something.
use Rattle.std.proofs.Common.{◌≡◌, ℕ, zero, suc, ◌+◌, Bool, true, false, List, [], ◌∷◌, ◌++◌, drop, Option, Some, None, slice_get, refl, sym, ap, ◌∙◌, subst, arith}
use Rattle.std.proofs.lemmas.Bool.{true≢false}
use Rattle.px_value.specs.declared.header.Kind.{Kind}
use Rattle.px_facts.specs.declared.types.Ty.{Ty}
use Rattle.px_facts.specs.declared.types.Ty.TheVariants as ty
use Rattle.px_facts.specs.declared.types.Element.{Element}
use Rattle.px_facts.specs.declared.checked.Named.{Named}
use Rattle.px_facts.specs.declared.checked.Named.TheVariants as named
use Rattle.px_facts.specs.declared.checked.Fact.{Fact}
use Rattle.px_facts.specs.declared.checked.Facts.{Facts}
use Rattle.px_facts.specs.declared.operation.Operation.{Operation}
use Rattle.px_types.specs.declared.node.Node.{Node}
use Rattle.px_types.specs.Known.{fact_only}
use Rattle.px_types.specs.Sites.{with_numbers, call_after, site_after, sited, operations_in}
use Rattle.px_mean.specs.Facts.{type_in, named_in, element_number}
use Rattle.px_lowering.specs.Allocations.{kind_of}
use Rattle.px_typed_code.specs.Laws.{site_of, IsKnownClass, IsKnownElement, IsKnownKind}
use Rattle.px_soundness.proofs.Clean.{some_is}
use Rattle.px_soundness.proofs.Standing.{first_in_drop, rest_in_drop}

-- ---- names that make nothing

abbrev pub is_plain : Named → Bool
is_plain (named.NewObject class site) = false
is_plain (named.NewArray site) = false
is_plain (named.Query number site) = false
is_plain (named.Update number) = false
is_plain n = true

-- they have no numbers of sites and of calls of `Db`
pub record IsPlain (n : Named) : Type 0 where
  pub numbers : (call site : ℕ) → with_numbers call site n ≡ n
  pub call : (call : ℕ) → call_after call n ≡ call
  pub site : (site : ℕ) → site_after site n ≡ site
  pub kind : (t : Ty) → kind_of n t ≡ None
  pub of : site_of n ≡ None

pub plain : (n : Named) → is_plain n ≡ true → IsPlain n
plain named.Nothing h = record { numbers = λ c s. refl; call = λ c. refl; site = λ s. refl; kind = λ t. refl; of = refl }
plain (named.Local slot) h = record { numbers = λ c s. refl; call = λ c. refl; site = λ s. refl; kind = λ t. refl; of = refl }
plain (named.Field class place) h = record { numbers = λ c s. refl; call = λ c. refl; site = λ s. refl; kind = λ t. refl; of = refl }
plain (named.Method number) h = record { numbers = λ c s. refl; call = λ c. refl; site = λ s. refl; kind = λ t. refl; of = refl }
plain (named.NewObject class site) h = absurd (true≢false (sym h))
plain (named.NewArray site) h = absurd (true≢false (sym h))
plain named.ArrayLength h = record { numbers = λ c s. refl; call = λ c. refl; site = λ s. refl; kind = λ t. refl; of = refl }
plain named.TextLength h = record { numbers = λ c s. refl; call = λ c. refl; site = λ s. refl; kind = λ t. refl; of = refl }
plain named.TextEquals h = record { numbers = λ c s. refl; call = λ c. refl; site = λ s. refl; kind = λ t. refl; of = refl }
plain named.Database h = record { numbers = λ c s. refl; call = λ c. refl; site = λ s. refl; kind = λ t. refl; of = refl }
plain (named.Query number site) h = absurd (true≢false (sym h))
plain (named.Update number) h = absurd (true≢false (sym h))
plain named.Next h = record { numbers = λ c s. refl; call = λ c. refl; site = λ s. refl; kind = λ t. refl; of = refl }
plain named.GetLong h = record { numbers = λ c s. refl; call = λ c. refl; site = λ s. refl; kind = λ t. refl; of = refl }
plain named.GetString h = record { numbers = λ c s. refl; call = λ c. refl; site = λ s. refl; kind = λ t. refl; of = refl }

-- ---- nodes

pub data IsSound (F : Facts) : Node → Type 0 where
  object : (t : Ty) (class old : ℕ) → IsKnownClass F class → IsSound F (fact_only (record { ty = t; named = named.NewObject class old }))
  array : (of : Element) (old : ℕ) → IsKnownElement F (element_number of) → IsSound F (fact_only (record { ty = ty.Array of; named = named.NewArray old }))
  query : (t : Ty) (number site : ℕ) (o : Operation) → IsSound F (record { fact = record { ty = t; named = named.Query number site }; operation = Some o })
  update : (t : Ty) (number : ℕ) (o : Operation) → IsSound F (record { fact = record { ty = t; named = named.Update number }; operation = Some o })
  nothing : (f : Fact) → is_plain f.named ≡ true → IsSound F (fact_only f)

abbrev pub AllSound : Facts → List Node → Type 0
AllSound F [] = Unit {0}
AllSound F (n ∷ ns) = IsSound F n × AllSound F ns

pub sound_both : (F : Facts) (xs ys : List Node) → AllSound F xs → AllSound F ys → AllSound F (xs ++ ys)
sound_both F [] ys h k = k
sound_both F (x ∷ xs) ys h k = (h.0, sound_both F xs ys h.1 k)

-- ---- what they make

abbrev pub one_kind : Option Kind → List Kind
one_kind None = []
one_kind (Some k) = k ∷ []

abbrev pub kinds_in : List Fact → List Kind
kinds_in [] = []
kinds_in (f ∷ fs) = one_kind (kind_of f.named f.ty) ++ kinds_in fs

-- the kind that a site makes stands at its number
abbrev pub IsPlaced : (base site : ℕ) → Kind → List Fact → Type 0
IsPlaced base site k fs = (q : ℕ) × (site ≡ base + q) × (slice_get (kinds_in fs) q ≡ Some k)

first_number : (base site : ℕ) → Some base ≡ Some site → site ≡ base + 0
first_number base site h = let e : base ≡ site = some_is h in omega (arith, e)

later_number : (base site q : ℕ) → site ≡ (base + 1) + q → site ≡ base + suc q
later_number base site q h = omega (arith, h)

no_site : {M : Type 0} (o : Option ℕ) (site : ℕ) → o ≡ None → o ≡ Some site → M
no_site o site h k = absurd (cc (sym h ∙ k))

module _ (F : Facts) where
  -- behind a fact that makes nothing
  behind_plain : (f : Fact) (fs : List Fact) (base site : ℕ) (k : Kind) → IsPlain f.named → (call : ℕ) → IsPlaced (site_after base f.named) site k fs → IsPlaced base site k (record { ty = f.ty; named = with_numbers call base f.named } ∷ fs)
  behind_plain f fs base site k p call r = (
    r.0,
    r.1 ∙ ap (λ (b : ℕ). b + r.0) (p.site base),
    ap (λ (n : Named). slice_get (one_kind (kind_of n f.ty) ++ kinds_in fs) r.0) (p.numbers call base) ∙ ap (λ (o : Option Kind). slice_get (one_kind o ++ kinds_in fs) r.0) (p.kind f.ty) ∙ r.2,
  )

  abbrev PlacedIn : List Node → (site : ℕ) → Kind → (call base id : ℕ) → Type 0
  PlacedIn ns site k call base id = site_of (named_in (slice_get (sited call base ns) id)) ≡ Some site → kind_of (named_in (slice_get (sited call base ns) id)) (type_in (slice_get (sited call base ns) id)) ≡ Some k → IsPlaced base site k (sited call base ns)

  one_placed : (x : Node) (ns : List Node) (site : ℕ) (k : Kind) → IsSound F x → ((call base id : ℕ) → PlacedIn ns site k call base id) → (call base id : ℕ) → PlacedIn (x ∷ ns) site k call base id
  one_placed _ ns site k (IsSound.object t class old c) later call base zero h i = (0, first_number base site h, i)
  one_placed _ ns site k (IsSound.object t class old c) later call base (suc id) h i = let r = later call (base + 1) id h i in (suc r.0, later_number base site r.0 r.1, r.2)
  one_placed _ ns site k (IsSound.array of old c) later call base zero h i = (0, first_number base site h, i)
  one_placed _ ns site k (IsSound.array of old c) later call base (suc id) h i = let r = later call (base + 1) id h i in (suc r.0, later_number base site r.0 r.1, r.2)
  one_placed _ ns site k (IsSound.query t number old o) later call base zero h i = (0, first_number base site h, i)
  one_placed _ ns site k (IsSound.query t number old o) later call base (suc id) h i = let r = later (call + 1) (base + 1) id h i in (suc r.0, later_number base site r.0 r.1, r.2)
  one_placed _ ns site k (IsSound.update t number o) later call base zero h i = absurd (cc h)
  one_placed _ ns site k (IsSound.update t number o) later call base (suc id) h i = later (call + 1) base id h i
  one_placed _ ns site k (IsSound.nothing f p) later call base zero h i = let q = plain f.named p in no_site (site_of (with_numbers call base f.named)) site (ap site_of (q.numbers call base) ∙ q.of) h
  one_placed _ ns site k (IsSound.nothing f p) later call base (suc id) h i = behind_plain f (sited (call_after call f.named) (site_after base f.named) ns) base site k (plain f.named p) call (later (call_after call f.named) (site_after base f.named) id h i)

  pub site_placed : (ns : List Node) → AllSound F ns → (site : ℕ) (k : Kind) (call base id : ℕ) → PlacedIn ns site k call base id
  site_placed [] a site k call base id h i = absurd (cc h)
  site_placed (x ∷ ns) a site k call base id h i = one_placed x ns site k a.0 (site_placed ns a.1 site k) call base id h i

  -- the number of the next call
  next_call : (n : ℕ) → suc n + 1 ≡ suc (suc n)
  next_call n = omega arith

  abbrev KnownIn : List Node → Kind → (calls base place : ℕ) → Type 0
  KnownIn ns k calls base place = drop calls F.operations ≡ operations_in ns → slice_get (kinds_in (sited (suc calls) base ns)) place ≡ Some k → IsKnownKind F k

  one_known : (x : Node) (ns : List Node) (k : Kind) → IsSound F x → ((calls base place : ℕ) → KnownIn ns k calls base place) → (calls base place : ℕ) → KnownIn (x ∷ ns) k calls base place
  one_known _ ns k (IsSound.object t class old c) later calls base zero e h = subst (IsKnownKind F) (some_is h) c
  one_known _ ns k (IsSound.object t class old c) later calls base (suc place) e h = later calls (base + 1) place e h
  one_known _ ns k (IsSound.array of old c) later calls base zero e h = subst (IsKnownKind F) (some_is h) c
  one_known _ ns k (IsSound.array of old c) later calls base (suc place) e h = later calls (base + 1) place e h
  one_known _ ns k (IsSound.query t number old o) later calls base zero e h = subst (IsKnownKind F) (some_is h) (o, first_in_drop F.operations (operations_in ns) calls o e)
  one_known _ ns k (IsSound.query t number old o) later calls base (suc place) e h = later (suc calls) (base + 1) place (rest_in_drop F.operations (operations_in ns) calls o e) (ap (λ (n : ℕ). slice_get (kinds_in (sited n (base + 1) ns)) place) (sym (next_call calls)) ∙ h)
  one_known _ ns k (IsSound.update t number o) later calls base place e h = later (suc calls) base place (rest_in_drop F.operations (operations_in ns) calls o e) (ap (λ (n : ℕ). slice_get (kinds_in (sited n base ns)) place) (sym (next_call calls)) ∙ h)
  one_known _ ns k (IsSound.nothing f p) later calls base place e h =
      let q = plain f.named p in
      let rest = sited (call_after (suc calls) f.named) (site_after base f.named) ns in
      later calls (site_after base f.named) place e
      (ap (λ (n : ℕ). slice_get (kinds_in (sited n (site_after base f.named) ns)) place) (sym (q.call (suc calls)))
      ∙ ap (λ (z : Option Kind). slice_get (one_kind z ++ kinds_in rest) place) (sym (q.kind f.ty))
      ∙ ap (λ (n : Named). slice_get (one_kind (kind_of n f.ty) ++ kinds_in rest) place) (sym (q.numbers (suc calls) base))
      ∙ h)

  pub kinds_known : (ns : List Node) → AllSound F ns → (k : Kind) (calls base place : ℕ) → KnownIn ns k calls base place
  kinds_known [] a k calls base place e h = absurd (cc h)
  kinds_known (x ∷ ns) a k calls base place e h = one_known x ns k a.0 (kinds_known ns a.1 k) calls base place e h
