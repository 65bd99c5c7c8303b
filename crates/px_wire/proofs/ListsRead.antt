-- Lists are read as they are spelled.
use Rattle.std.proofs.Common.{◌≡◌, ℕ, zero, suc, ◌^◌, ◌<◌, List, [], ◌∷◌, ◌++◌, length, map, Option, Some, refl, sym, ap, subst, ◌∙◌, append_assoc}
use Rattle.std.specs.List.{flat_map, AllByRecursion}
use Rattle.std.proofs.lemmas.List.Concat.{flat_map-cons}
use Rattle.px_wire.specs.Spelling.{counted_bytes}
use Rattle.px_wire.specs.Reading.{◌>>=◌, u8_at, items_at, counted_at, ordered_at}
use Rattle.px_wire.proofs.Readers.{IsBytes, Taken, Reads, bind_some, some_is, tested}
use Rattle.px_wire.specs.Order.{AreInOrder, are_in_order}
use Rattle.px_wire.proofs.NumbersRead.{u8_reads, u32_reads}
use Rattle.px_wire.proofs.Ordered.{in_order-true, true-in_order}

-- of two facts on each item, each
pub all_firsts : {A : Type 0} (P Q : A → Type 0) (items : List A) → AllByRecursion (λ a. P a × Q a) items → AllByRecursion P items
all_firsts P Q [] all = tt
all_firsts P Q (a ∷ items) all = (all.0.0, all_firsts P Q items all.1)

pub all_seconds : {A : Type 0} (P Q : A → Type 0) (items : List A) → AllByRecursion (λ a. P a × Q a) items → AllByRecursion Q items
all_seconds P Q [] all = tt
all_seconds P Q (a ∷ items) all = (all.0.1, all_seconds P Q items all.1)

pub all_both : {A : Type 0} (P Q : A → Type 0) (items : List A) → AllByRecursion P items → AllByRecursion Q items → AllByRecursion (λ a. P a × Q a) items
all_both P Q [] p q = tt
all_both P Q (a ∷ items) p q = ((p.0, q.0), all_both P Q items p.1 q.1)

pub items_again : {A : Type 0} {F : A → Type 0} {s : A → List ℕ} {r : List ℕ → Option (A × List ℕ)} → Reads F s r → (items : List A) (rest : List ℕ) → AllByRecursion F items → items_at r (length items) (flat_map s items ++ rest) ≡ Some (items, rest)
unfolding items_at
items_again reads [] rest fits = refl
items_again {A} {F} {s} {r} reads (a ∷ items) rest fits =
    let regrouped : flat_map s (a ∷ items) ++ rest ≡ s a ++ (flat_map s items ++ rest) = ap (λ x. x ++ rest) (flat_map-cons s a items) ∙ append_assoc (s a) (flat_map s items) rest in
    ap (items_at r (suc (length items))) regrouped ∙ rw (reads.again a (flat_map s items ++ rest) fits.0, items_again reads items rest fits.1) refl

pub items_taken : {A : Type 0} {F : A → Type 0} {s : A → List ℕ} {r : List ℕ → Option (A × List ℕ)} → Reads F s r → (n : ℕ) (bytes : List ℕ) (x : List A × List ℕ) → IsBytes bytes → items_at r n bytes ≡ Some x → Taken (AllByRecursion F) (flat_map s) bytes x × (length x.0 ≡ n)
unfolding items_at
items_taken {A} {F} {s} {r} reads zero bytes x fits e =
    subst (λ (y : List A × List ℕ). Taken (AllByRecursion F) (flat_map s) bytes y × (length y.0 ≡ 0)) (some_is ([], bytes) x e) (record { parts = refl; rest = fits; fits = tt }, refl)
items_taken {A} {F} {s} {r} reads (suc n) bytes x fits e =
    let a = bind_some (r bytes) (λ first. items_at r n first.1 >>= λ more. Some (first.0 ∷ more.0, more.1)) x e in
    let b = bind_some (items_at r n a.0.1) (λ more. Some (a.0.0 ∷ more.0, more.1)) x a.2 in
    let p = reads.taken bytes a.0 fits a.1 in
    let q = items_taken reads n a.0.1 b.0 p.rest b.1 in
    let made : List A × List ℕ = (a.0.0 ∷ b.0.0, b.0.1) in
    let parts : bytes ≡ flat_map s (a.0.0 ∷ b.0.0) ++ b.0.1 = p.parts ∙ ap (λ y. s a.0.0 ++ y) q.0.parts ∙ sym (append_assoc (s a.0.0) (flat_map s b.0.0) b.0.1) ∙ ap (λ y. y ++ b.0.1) (sym (flat_map-cons s a.0.0 b.0.0)) in
    subst (λ (y : List A × List ℕ). Taken (AllByRecursion F) (flat_map s) bytes y × (length y.0 ≡ suc n)) (some_is made x b.2) (record { parts = parts; rest = q.0.rest; fits = (p.fits, q.0.fits) }, ap suc q.1)

-- a list behind its count
behind_count : {A : Type 0} {F : A → Type 0} {s : A → List ℕ} {r : List ℕ → Option (A × List ℕ)} {limit : ℕ} {count_bytes : ℕ → List ℕ} {count_at : List ℕ → Option (ℕ × List ℕ)} → Reads (λ n. n < limit) count_bytes count_at → Reads F s r
    → Reads (λ items. (length items < limit) × AllByRecursion F items) (λ items. count_bytes (length items) ++ flat_map s items) (λ bytes. count_at bytes >>= λ count. items_at r count.0 count.1)
behind_count {A} {F} {s} {r} {limit} {count_bytes} {count_at} counts reads = record {
  again = λ items rest fits.
      ap (λ bytes. count_at bytes >>= λ count. items_at r count.0 count.1) (append_assoc (count_bytes (length items)) (flat_map s items) rest)
      ∙ ap (λ o. o >>= λ count. items_at r count.0 count.1) (counts.again (length items) (flat_map s items ++ rest) fits.0)
      ∙ items_again reads items rest fits.1;
  taken = λ bytes x fits e.
      let a = bind_some (count_at bytes) (λ count. items_at r count.0 count.1) x e in
      let p = counts.taken bytes a.0 fits a.1 in
      let q = items_taken reads a.0.0 a.0.1 x p.rest a.2 in
      let parts : bytes ≡ (count_bytes (length x.0) ++ flat_map s x.0) ++ x.1 = p.parts ∙ ap (λ y. count_bytes a.0.0 ++ y) q.0.parts ∙ ap (λ n. count_bytes n ++ (flat_map s x.0 ++ x.1)) (sym q.1) ∙ sym (append_assoc (count_bytes (length x.0)) (flat_map s x.0) x.1) in
      record { parts = parts; rest = q.0.rest; fits = (subst (λ n. n < limit) (sym q.1) p.fits, q.0.fits) };
}

pub counted_reads : {A : Type 0} {F : A → Type 0} {s : A → List ℕ} {r : List ℕ → Option (A × List ℕ)} → Reads F s r → Reads (λ items. (length items < 2 ^ 32) × AllByRecursion F items) (counted_bytes s) (counted_at r)
unfolding counted_at
counted_reads reads = behind_count u32_reads reads

pub short_reads : {A : Type 0} {F : A → Type 0} {s : A → List ℕ} {r : List ℕ → Option (A × List ℕ)} → Reads F s r → Reads (λ items. (length items < 2 ^ 8) × AllByRecursion F items) (λ items. length items ∷ flat_map s items) (λ bytes. u8_at bytes >>= λ count. items_at r count.0 count.1)
short_reads reads = behind_count u8_reads reads

pub ordered_reads : {A : Type 0} {F : A → Type 0} {s : A → List ℕ} {r : List ℕ → Option (A × List ℕ)} (place : A → ℕ × ℕ) → Reads F s r → Reads (λ items. ((length items < 2 ^ 32) × AllByRecursion F items) × AreInOrder (map place items)) (counted_bytes s) (ordered_at place r)
unfolding ordered_at
ordered_reads place reads = tested (λ items. are_in_order (map place items)) (λ items. AreInOrder (map place items)) (λ items. in_order-true (map place items)) (λ items. true-in_order (map place items)) (counted_reads reads)
