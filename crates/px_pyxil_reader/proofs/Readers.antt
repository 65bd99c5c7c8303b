-- Readers and spellings that belong together.
use Rattle.std.proofs.Common.{◌≡◌, ℕ, ◌==◌, Bool, true, false, cond, if◌then◌else◌, List, [], ◌∷◌, ◌++◌, Option, Some, None, ◌⊎◌, inl, inr, refl, sym, ap, subst, ◌∙◌, arith}
use Rattle.std.specs.Prelude.{⊤}
use Rattle.std.specs.List.{AllByRecursion}
use Rattle.std.specs.Str.{bytes_eq}
use Rattle.std.proofs.lemmas.Slice.Eq.{bytes_eq-Decides}
use Rattle.px_pyxil_reader.specs.Reading.{◌>>=◌, cut_at, word_at, of_word, end_at}

-- ---- steps of a reader

-- the value of a step that did not fail
pub bind_some : {A B : Type 0} (r : Option A) (f : A → Option B) (y : B) → (r >>= f) ≡ Some y → (x : A) × (r ≡ Some x) × (f x ≡ Some y)
bind_some (Some x) f y e = (x, refl, e)
bind_some None f y e = absurd cc

abbrev one : {A : Type 0} → A → Option A
one x = Some x

pub some_is : {A : Type 0} (x y : A) → one x ≡ one y → x ≡ y
some_is x y e = cc

-- which way a test went
pub chosen : {A : Type 0} (b : Bool) (x y z : A) → cond b x y ≡ z → ((b ≡ true) × (x ≡ z)) ⊎ ((b ≡ false) × (y ≡ z))
chosen true x y z e = inl (refl, e)
chosen false x y z e = inr (refl, e)

-- a test that held
pub guard_some : {A : Type 0} (b : Bool) (x y : A) → cond b (Some x) None ≡ Some y → (b ≡ true) × (x ≡ y)
guard_some true x y e = (refl, cc)
guard_some false x y e = absurd cc

pub bytes_same : (a b : List ℕ) → bytes_eq a b ≡ true → a ≡ b
bytes_same a b h = (bytes_eq-Decides a b).0 h

pub bytes_again : (a : List ℕ) → bytes_eq a a ≡ true
bytes_again a = (bytes_eq-Decides a a).1 refl

-- ---- words

abbrev pub HasNo : ℕ → List ℕ → Type 0
HasNo byte bytes = AllByRecursion (λ b. (b == byte) ≡ false) bytes

-- nothing, or what begins with this byte
abbrev pub Starts : ℕ → List ℕ → Type 0
Starts byte [] = ⊤
Starts byte (first ∷ rest) = (first == byte) ≡ true

-- a word ends here
abbrev pub IsBreak : List ℕ → Type 0
IsBreak bytes = Starts 32 bytes

abbrev onward : ℕ → List ℕ × List ℕ → List ℕ × List ℕ
onward b p = (b ∷ p.0, p.1)

pub cut_again : (byte : ℕ) (xs rest : List ℕ) → HasNo byte xs → Starts byte rest → cut_at byte (xs ++ rest) ≡ (xs, rest)
cut_again byte [] [] h s = refl
cut_again byte [] (b ∷ rest) h s = rw s refl
cut_again byte (x ∷ xs) rest h s = rw h.0 (ap (onward x) (cut_again byte xs rest h.1 s))

pub cut_all : (byte : ℕ) (xs : List ℕ) → HasNo byte xs → cut_at byte xs ≡ (xs, [])
cut_all byte [] h = refl
cut_all byte (x ∷ xs) h = rw h.0 (ap (onward x) (cut_all byte xs h.1))

abbrev parts_of : List ℕ × List ℕ → List ℕ
parts_of p = p.0 ++ p.1

-- the cut, by whether the first byte is the one
abbrev cut_by : Bool → ℕ → List ℕ → List ℕ × List ℕ → List ℕ × List ℕ
cut_by b x xs p = if b then ([], x ∷ xs) else (x ∷ p.0, p.1)

parts_by : (b : Bool) (x : ℕ) (xs : List ℕ) (p : List ℕ × List ℕ) → parts_of p ≡ xs → parts_of (cut_by b x xs p) ≡ x ∷ xs
parts_by true x xs p e = refl
parts_by false x xs p e = ap (λ ys. x ∷ ys) e

-- both parts together
pub cut_parts : (byte : ℕ) (xs : List ℕ) → (cut_at byte xs).0 ++ (cut_at byte xs).1 ≡ xs
cut_parts byte [] = refl
cut_parts byte (x ∷ xs) = parts_by (x == byte) x xs (cut_at byte xs) (cut_parts byte xs)

stops_by : (byte x : ℕ) (xs : List ℕ) (p : List ℕ × List ℕ) (b : Bool) → (x == byte) ≡ b → Starts byte p.1 → Starts byte (cut_by b x xs p).1
stops_by byte x xs p true e s = e
stops_by byte x xs p false e s = s

-- where it was cut
pub cut_stops : (byte : ℕ) (xs : List ℕ) → Starts byte (cut_at byte xs).1
cut_stops byte [] = tt
cut_stops byte (x ∷ xs) = stops_by byte x xs (cut_at byte xs) (x == byte) refl (cut_stops byte xs)

has_no_by : (byte x : ℕ) (xs : List ℕ) (p : List ℕ × List ℕ) (b : Bool) → (x == byte) ≡ b → HasNo byte p.0 → HasNo byte (cut_by b x xs p).0
has_no_by byte x xs p true e s = tt
has_no_by byte x xs p false e s = (e, s)

pub cut_has_no : (byte : ℕ) (xs : List ℕ) → HasNo byte (cut_at byte xs).0
cut_has_no byte [] = tt
cut_has_no byte (x ∷ xs) = has_no_by byte x xs (cut_at byte xs) (x == byte) refl (cut_has_no byte xs)

pub has_no_both : (byte : ℕ) (xs ys : List ℕ) → HasNo byte xs → HasNo byte ys → HasNo byte (xs ++ ys)
has_no_both byte [] ys h k = k
has_no_both byte (x ∷ xs) ys h k = (h.0, has_no_both byte xs ys h.1 k)

-- ---- readers of a whole word, and of a word and what is behind it

pub record ReadsWord {A : Type 0} (Fits : A → Type 0) (text : A → List ℕ) (read : List ℕ → Option A) : Type 0 where
  pub again : (a : A) → Fits a → read (text a) ≡ Some a
  pub taken : (word : List ℕ) (a : A) → read word ≡ Some a → Fits a × (text a ≡ word)

pub record Reads {A : Type 0} (Fits : A → Type 0) (text : A → List ℕ) (read : List ℕ → Option (A × List ℕ)) : Type 0 where
  pub again : (a : A) (rest : List ℕ) → Fits a → IsBreak rest → read (32 ∷ (text a ++ rest)) ≡ Some (a, rest)
  pub taken : (bytes : List ℕ) (x : A × List ℕ) → read bytes ≡ Some x → Fits x.0 × (bytes ≡ 32 ∷ (text x.0 ++ x.1))

pub word_again : (xs rest : List ℕ) → HasNo 32 xs → IsBreak rest → word_at (32 ∷ (xs ++ rest)) ≡ Some (xs, rest)
unfolding word_at
word_again xs rest h s = ap (λ p. one p) (cut_again 32 xs rest h s)

word_by : (b : Bool) (byte : ℕ) (rest : List ℕ) (x : List ℕ × List ℕ) → (byte == 32) ≡ b → (if b then Some (cut_at 32 rest) else None) ≡ Some x → byte ∷ rest ≡ 32 ∷ (x.0 ++ x.1)
word_by true byte rest x b e =
    let at : byte ≡ 32 = grind (arith, b) in
    let p : cut_at 32 rest ≡ x = some_is (cut_at 32 rest) x e in
    ap (λ c. c ∷ rest) at ∙ ap (λ ys. 32 ∷ ys) (sym (cut_parts 32 rest) ∙ ap parts_of p)
word_by false byte rest x b e = absurd cc

pub word_taken : (bytes : List ℕ) (x : List ℕ × List ℕ) → word_at bytes ≡ Some x → bytes ≡ 32 ∷ (x.0 ++ x.1)
unfolding word_at
word_taken [] x e = absurd cc
word_taken (byte ∷ rest) x e = word_by (byte == 32) byte rest x refl e

pub reads_of_word : {A : Type 0} {F : A → Type 0} {t : A → List ℕ} {r : List ℕ → Option A} → ReadsWord F t r → ((a : A) → F a → HasNo 32 (t a)) → Reads F t (of_word r)
reads_of_word {A} {F} {t} {r} reads plain = record {
  again = λ a rest fits s.
      ap (λ o. o >>= λ word. r word.0 >>= λ a. one (a, word.1)) (word_again (t a) rest (plain a fits) s)
      ∙ ap (λ o. o >>= λ a. one (a, rest)) (reads.again a fits);
  taken = λ bytes x e.
      let word = bind_some (word_at bytes) (λ word. r word.0 >>= λ a. one (a, word.1)) x e in
      let a = bind_some (r word.0.0) (λ a. one (a, word.0.1)) x word.2 in
      let p = reads.taken word.0.0 a.0 a.1 in
      let made : A × List ℕ = (a.0, word.0.1) in
      subst (λ (y : A × List ℕ). F y.0 × (bytes ≡ 32 ∷ (t y.0 ++ y.1))) (some_is made x a.2)
      (p.0, word_taken bytes word.0 word.1 ∙ ap (λ w. 32 ∷ (w ++ word.0.1)) (sym p.1));
}

-- ---- one part after the other

-- what is spelled is read
pub then_again : {A B : Type 0} {F : A → Type 0} {t : A → List ℕ} {r : List ℕ → Option (A × List ℕ)} → Reads F t r → (k : A × List ℕ → Option B) (a : A) (rest : List ℕ) → F a → IsBreak rest → (r (32 ∷ (t a ++ rest)) >>= k) ≡ k (a, rest)
then_again reads k a rest fits s = ap (λ o. o >>= k) (reads.again a rest fits s)

-- what is read was spelled
pub then_taken : {A B : Type 0} {F : A → Type 0} {t : A → List ℕ} {r : List ℕ → Option (A × List ℕ)} → Reads F t r → (P : List ℕ → Type 0) (k : A × List ℕ → Option B) (bytes : List ℕ) (y : B)
    → (r bytes >>= k) ≡ Some y → ((a : A) (rest : List ℕ) → F a → k (a, rest) ≡ Some y → P (32 ∷ (t a ++ rest))) → P bytes
then_taken {A} {B} {F} {t} {r} reads P k bytes y e go =
    let x = bind_some (r bytes) k y e in
    let p = reads.taken bytes x.0 x.1 in
    subst P (sym p.1) (go x.0.0 x.0.1 p.0 x.2)

-- the end
pub end_taken : {C : Type 0} (P : C → List ℕ → Type 0) (bytes : List ℕ) (w y : C) → (end_at bytes >>= λ _. one w) ≡ Some y → P w [] → P y bytes
end_taken P [] w y e p = subst (λ z. P z []) (some_is w y e) p
end_taken P (byte ∷ bytes) w y e p = absurd cc
