-- A reader and a spelling that belong together.
use Rattle.std.proofs.Common.{◌≡◌, ℕ, ◌<◌, Bool, true, false, cond, List, ◌++◌, get_or, Option, Some, None, ◌⊎◌, inl, inr, refl, sym, ap, subst, ◌∙◌, append_assoc}
use Rattle.std.specs.Prelude.{⊤}
use Rattle.px_wire.specs.Reading.{◌>>=◌}

abbrev pub IsBytes : List ℕ → Type 0
IsBytes bytes = (i : ℕ) → get_or bytes i 0 < 256

-- x.0 was read from the front of bytes, and x.1 stands behind it
pub record Taken {A : Type 0} (Fits : A → Type 0) (spell : A → List ℕ) (bytes : List ℕ) (x : A × List ℕ) : Type 0 where
  pub parts : bytes ≡ spell x.0 ++ x.1
  pub rest : IsBytes x.1
  pub fits : Fits x.0

-- what is spelled is read, whatever follows it, and what is read was spelled
pub record Reads {A : Type 0} (Fits : A → Type 0) (spell : A → List ℕ) (read : List ℕ → Option (A × List ℕ)) : Type 0 where
  pub again : (a : A) (rest : List ℕ) → Fits a → read (spell a ++ rest) ≡ Some (a, rest)
  pub taken : (bytes : List ℕ) (x : A × List ℕ) → IsBytes bytes → read bytes ≡ Some x → Taken Fits spell bytes x

-- the same of the rest of a part, of which some is known
pub record Goes {C : Type 0} (Known Fits : C → Type 0) (spell : C → List ℕ) (read : List ℕ → Option (C × List ℕ)) : Type 0 where
  pub again : (c : C) (rest : List ℕ) → Known c → Fits c → read (spell c ++ rest) ≡ Some (c, rest)
  pub taken : (bytes : List ℕ) (x : C × List ℕ) → IsBytes bytes → read bytes ≡ Some x → Taken Fits spell bytes x × Known x.0

-- the value of a step that did not fail
pub bind_some : {A B : Type 0} (r : Option A) (f : A → Option B) (y : B) → (r >>= f) ≡ Some y → (x : A) × (r ≡ Some x) × (f x ≡ Some y)
bind_some (Some x) f y e = (x, refl, e)
bind_some None f y e = absurd cc

abbrev one : {A : Type 0} → A → Option A
one x = Some x

pub some_is : {A : Type 0} (x y : A) → one x ≡ one y → x ≡ y
some_is x y e = cc

-- which way a test went
pub chosen : {A : Type 0} (b : Bool) (x y z : A) → cond b x y ≡ z → ((b ≡ true) × (x ≡ z)) ⊎ ((b ≡ false) × (y ≡ z))
chosen true x y z e = inl (refl, e)
chosen false x y z e = inr (refl, e)

-- a test that held
pub guard_some : {A : Type 0} (b : Bool) (x y : A) → cond b (Some x) None ≡ Some y → (b ≡ true) × (x ≡ y)
guard_some true x y e = (refl, cc)
guard_some false x y e = absurd cc

-- a field, and what is behind it
pub then_goes : {A C : Type 0} {F : A → Type 0} {s : A → List ℕ} {r : List ℕ → Option (A × List ℕ)} {K G : C → Type 0} {t : C → List ℕ} (first : C → A) (k : A × List ℕ → Option (C × List ℕ))
    → Reads F s r → ((a : A) → Goes (λ c. K c × (first c ≡ a)) G t (λ bytes. k (a, bytes))) → Goes K (λ c. F (first c) × G c) (λ c. s (first c) ++ t c) (λ bytes. r bytes >>= k)
then_goes {A} {C} {F} {s} {r} {K} {G} {t} first k reads goes = record {
  again = λ c rest known fits.
      ap (λ bytes. r bytes >>= k) (append_assoc (s (first c)) (t c) rest)
      ∙ ap (λ o. o >>= k) (reads.again (first c) (t c ++ rest) fits.0)
      ∙ (goes (first c)).again c rest (known, refl) fits.1;
  taken = λ bytes x is_bytes e.
      let a = bind_some (r bytes) k x e in
      let p = reads.taken bytes a.0 is_bytes a.1 in
      let q = (goes a.0.0).taken a.0.1 x p.rest a.2 in
      let same : first x.0 ≡ a.0.0 = q.1.1 in
      let parts : bytes ≡ (s (first x.0) ++ t x.0) ++ x.1 =
      p.parts ∙ ap (λ y. s a.0.0 ++ y) q.0.parts ∙ ap (λ z. s z ++ (t x.0 ++ x.1)) (sym same) ∙ sym (append_assoc (s (first x.0)) (t x.0) x.1) in
      (record { parts = parts; rest = q.0.rest; fits = (subst F (sym same) p.fits, q.0.fits) }, q.1.0);
}

-- the last field
pub last_goes : {A C : Type 0} {F : A → Type 0} {s : A → List ℕ} {r : List ℕ → Option (A × List ℕ)} {K : C → Type 0} (first : C → A) (make : A → C)
    → Reads F s r → ((a : A) → K (make a)) → ((a : A) → first (make a) ≡ a) → ((c : C) → K c → make (first c) ≡ c) → Goes K (λ c. F (first c)) (λ c. s (first c)) (λ bytes. r bytes >>= λ x. Some (make x.0, x.1))
last_goes {A} {C} {F} {s} {r} {K} first make reads known back forth = record {
  again = λ c rest is_known fits.
      ap (λ o. o >>= λ x. Some (make x.0, x.1)) (reads.again (first c) rest fits) ∙ ap (λ d. Some (d, rest)) (forth c is_known);
  taken = λ bytes x is_bytes e.
      let a = bind_some (r bytes) (λ x. Some (make x.0, x.1)) x e in
      let p = reads.taken bytes a.0 is_bytes a.1 in
      let made : C × List ℕ = (make a.0.0, a.0.1) in
      let parts : bytes ≡ s (first (make a.0.0)) ++ a.0.1 = p.parts ∙ ap (λ z. s z ++ a.0.1) (sym (back a.0.0)) in
      subst (λ (y : C × List ℕ). Taken (λ c. F (first c)) (λ c. s (first c)) bytes y × K y.0) (some_is made x a.2)
      (record { parts = parts; rest = p.rest; fits = subst F (sym (back a.0.0)) p.fits }, known a.0.0);
}

-- a whole part, in other words
pub reads_of : {C : Type 0} {G : C → Type 0} {t : C → List ℕ} {read : List ℕ → Option (C × List ℕ)} (Fits : C → Type 0) (spell : C → List ℕ)
    → Goes (λ c. ⊤) G t read → ((c : C) → t c ≡ spell c) → ((c : C) → G c → Fits c) → ((c : C) → Fits c → G c) → Reads Fits spell read
reads_of {C} {G} {t} {read} Fits spell goes same to from = record {
  again = λ c rest fits. ap (λ bytes. read (bytes ++ rest)) (sym (same c)) ∙ goes.again c rest tt (from c fits);
  taken = λ bytes x is_bytes e.
      let p = (goes.taken bytes x is_bytes e).0 in
      record { parts = p.parts ∙ ap (λ y. y ++ x.1) (same x.0); rest = p.rest; fits = to x.0 p.fits };
}

-- a part that has to pass a test
pub tested : {A : Type 0} {F : A → Type 0} {s : A → List ℕ} {r : List ℕ → Option (A × List ℕ)} (test : A → Bool) (Passes : A → Type 0) → ((a : A) → test a ≡ true → Passes a) → ((a : A) → Passes a → test a ≡ true)
    → Reads F s r → Reads (λ a. F a × Passes a) s (λ bytes. r bytes >>= λ x. cond (test x.0) (Some x) None)
tested {A} {F} {s} {r} test Passes to from reads = record {
  again = λ a rest fits.
      ap (λ o. o >>= λ x. cond (test x.0) (Some x) None) (reads.again a rest fits.0) ∙ ap (λ b. cond b (Some (a, rest)) None) (from a fits.1);
  taken = λ bytes x is_bytes e.
      let a = bind_some (r bytes) (λ x. cond (test x.0) (Some x) None) x e in
      let g = guard_some (test a.0.0) a.0 x a.2 in
      let p = reads.taken bytes a.0 is_bytes a.1 in
      subst (λ (y : A × List ℕ). Taken (λ a. F a × Passes a) s bytes y) g.1 (record { parts = p.parts; rest = p.rest; fits = (p.fits, to a.0.0 g.0) });
}
