-- The lists of a plan have the parts that the sides keep.
use Rattle.std.proofs.Common.{◌≡◌, ℕ, zero, suc, ◌+◌, Bool, true, false, ◌⊎◌, inl, inr, ⊎_elim, List, [], ◌∷◌, Contains, slice_get, refl, sym, ap, ◌∙◌, subst, arith}
use Rattle.px_code.specs.declared.side.Side.{Side}
use Rattle.px_code.specs.declared.side.Side.TheVariants.{App, Db}
use Rattle.px_code.specs.declared.cell.Part.{Part}
use Rattle.px_code.specs.declared.cell.Part.TheVariants.{Field, Elements}
use Rattle.px_code.specs.declared.cell.SitePart.{SitePart}
use Rattle.px_code.specs.declared.code.Code.{Code}
use Rattle.px_code.specs.declared.code.Site.{Site}
use Rattle.px_code.specs.Places.{site_kind, kind_of_site}
use Rattle.px_code.specs.WellFormed.{IsWellFormed}
use Rattle.px_code.specs.Sends.{Keeps}
use Rattle.px_code.specs.Sound.{KindHasPart, kept_at, IsKeep}
use Rattle.px_points.specs.Marks.{is_marked}
use Rattle.px_code.specs.declared.cell.Keep.{Keep}
use Rattle.px_compile.specs.declared.kept.Kept.{Kept}
use Rattle.px_compile.specs.declared.facts.Facts.{Facts}
use Rattle.px_compile.specs.Facts.{AreFacts}
use Rattle.px_compile.specs.Kept.{fields_at, AreKept}
use Rattle.px_compile.specs.Keep.{part_if, parts_from, keep_of}

-- ---- lists

first-or_later : {X : Type 0} (y : X) (xs : List X) (x : X) → Contains (y ∷ xs) x → (y ≡ x) ⊎ Contains xs x
first-or_later y xs x (zero, room, is) = inl is
first-or_later y xs x (suc k, room, is) = inr (k, omega arith, is)

contains-here : {X : Type 0} (xs : List X) (x : X) → Contains (x ∷ xs) x
contains-here xs x = (0, omega arith, refl)

contains-later : {X : Type 0} (y : X) (xs : List X) (x : X) → Contains xs x → Contains (y ∷ xs) x
contains-later y xs x h = (suc h.0, (let l = h.1 in omega (arith, l)), h.2)

-- ---- parts of marks

abbrev pub field_part : ℕ → SitePart
field_part f = record { site = 0; part = Field f }

-- a part that is listed is of a marked field
record IsListed (f : ℕ) (marks : List Bool) (x : SitePart) : Type 0 where
  n : ℕ
  marked : is_marked marks n ≡ true
  is : field_part (f + n) ≡ x

listed-next : (f : ℕ) (b : Bool) (marks : List Bool) (x : SitePart) → IsListed (f + 1) marks x → IsListed f (b ∷ marks) x
listed-next f b marks x l =
    let e : f + suc l.n ≡ f + 1 + l.n = omega arith in
    record { n = suc l.n; marked = l.marked; is = ap field_part e ∙ l.is }

listed : (f : ℕ) (marks : List Bool) (x : SitePart) → Contains (parts_from f marks) x → IsListed f marks x
listed f [] x (k, room, is) = absurd (omega arith)
listed f (true ∷ marks) x h = ⊎_elim
    (λ (e : field_part f ≡ x). (let z : f + 0 ≡ f = omega arith in record { n = 0; marked = refl; is = ap field_part z ∙ e }))
    (λ (t : Contains (parts_from (f + 1) marks) x). listed-next f true marks x (listed (f + 1) marks x t))
    (first-or_later (field_part f) (parts_from (f + 1) marks) x h)
listed f (false ∷ marks) x h = listed-next f false marks x (listed (f + 1) marks x h)

later-if : (b : Bool) (f : ℕ) (parts : List SitePart) (x : SitePart) → Contains parts x → Contains (part_if b f parts) x
later-if true f parts x h = contains-later (field_part f) parts x h
later-if false f parts x h = h

list-marked : (f n : ℕ) (marks : List Bool) → is_marked marks n ≡ true → Contains (parts_from f marks) (field_part (f + n))
list-marked f n [] h = absurd cc
list-marked f zero (b ∷ marks) h =
    let e : f ≡ f + 0 = omega arith in
    subst (λ c. Contains (part_if c f (parts_from (f + 1) marks)) (field_part (f + 0))) (sym h) (subst (λ k. Contains (field_part f ∷ parts_from (f + 1) marks) (field_part k)) e (contains-here (parts_from (f + 1) marks) (field_part f)))
list-marked f (suc n) (b ∷ marks) h =
    let e : f + 1 + n ≡ f + suc n = omega arith in
    later-if b f (parts_from (f + 1) marks) (field_part (f + suc n)) (subst (λ k. Contains (parts_from (f + 1) marks) (field_part k)) e (list-marked (f + 1) n marks h))

-- ---- the plan's lists

lists-at : (kept : Kept) (side : Side) → kept_at (keep_of kept) side ≡ parts_from 0 (fields_at kept side)
lists-at kept App = refl
lists-at kept Db = refl

-- no site but that of the first object
no_other : (code : Code) (n : ℕ) (part : Part) → code.sites ≡ [] → KindHasPart code (site_kind code (suc n)) part → ⊥
no_other code n part none has = subst (λ (sites : List Site). KindHasPart code (kind_of_site (slice_get sites n)) part) none has

module _ (code : Code) (sides : List Side) (kept : Kept) (formed : IsWellFormed code) (exact : AreKept code sides kept) where
  kept-field : (side : Side) (f : ℕ) → is_marked (fields_at kept side) f ≡ true → KindHasPart code (site_kind code 0) (Field f) × Keeps code sides side 0 (Field f)
  kept-field side f marked = (exact side f).0 marked

  only-kept : (side : Side) (x : SitePart) → Contains (kept_at (keep_of kept) side) x → KindHasPart code (site_kind code x.site) x.part × Keeps code sides side x.site x.part
  only-kept side x h =
      let l = listed 0 (fields_at kept side) x (subst (λ (xs : List SitePart). Contains xs x) (lists-at kept side) h) in
      let z : l.n ≡ 0 + l.n = omega arith in
      subst (λ (y : SitePart). KindHasPart code (site_kind code y.site) y.part × Keeps code sides side y.site y.part) (ap field_part z ∙ l.is) (kept-field side l.n l.marked)

  all-kept : (side : Side) (site : ℕ) (part : Part) → KindHasPart code (site_kind code site) part → Keeps code sides side site part → Contains (kept_at (keep_of kept) side) (record { site = site; part = part })
  all-kept side zero (Field f) has keeps =
      let z : 0 + f ≡ f = omega arith in
      subst (λ (xs : List SitePart). Contains xs (field_part f)) (sym (lists-at kept side)) (subst (λ k. Contains (parts_from 0 (fields_at kept side)) (field_part k)) z (list-marked 0 f (fields_at kept side) ((exact side f).1 (has, keeps))))
  all-kept side zero Elements has keeps = absurd has
  all-kept side (suc n) part has keeps = absurd (no_other code n part formed.no_sites has)

  pub is_keep : IsKeep code sides (keep_of kept)
  is_keep side site part = (only-kept side (record { site = site; part = part }), λ t. all-kept side site part t.0 t.1)

pub is_keep_by : (code : Code) (sides placed : List Side) (facts : Facts) (keep : Keep) → IsWellFormed code → AreFacts code sides facts → sides ≡ placed → keep ≡ keep_of facts.kept → IsKeep code placed keep
is_keep_by code sides placed facts keep formed known same is =
    subst (λ (s : List Side). IsKeep code s keep) same (subst (IsKeep code sides) (sym is) (is_keep code sides facts.kept formed known.kept))
