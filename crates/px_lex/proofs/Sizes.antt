-- A piece has a byte at least, and no more than the text.
use Rattle.std.proofs.Common.{◌≡◌, ℕ, zero, suc, ◌<◌, ◌≤◌, Bool, true, false, cond, ◌==◌, List, [], ◌∷◌, length, slice_index, Option, Some, None, refl, sym, arith, subst, ◌&&◌, ◌||◌}
use Rattle.std.proofs.lemmas.Bool.{eqb-true}
use Rattle.px_lex.specs.declared.scan.Scan.{Scan}
use Rattle.px_lex.specs.declared.scan.Scan.TheVariants as s
use Rattle.px_lex.specs.declared.scan.Next.{Next}
use Rattle.px_lex.specs.declared.scan.Next.TheVariants.{On, Last, Before, Never}
use Rattle.px_lex.specs.declared.token.TokenKind.{TokenKind}
use Rattle.px_lex.specs.declared.token.TokenKind.TheVariants.{Number, Str}
use Rattle.px_lex.specs.declared.piece.Piece.{Piece}
use Rattle.px_lex.specs.Scanning.{scan_of, next_of, ends_of, shifted, on_next, is_letter, is_digit, Within}
use Rattle.px_lex.specs.Pieces.{piece_of, size_of, sized_of, skipped_of, sign_len, may_double, may_assign, stands_alone, sign_of, signed_of, zero_of, worded_of, closing_of, is_blank}

upto_shifted : (o : Option ℕ) (n : ℕ) → Within o n → Within (shifted 1 o) (suc n)
upto_shifted None n h = tt
upto_shifted (Some m) n h = omega arith

pub scan_upto : (s : Scan) (bs : List ℕ) → Within (scan_of s bs) (length bs)
unfolding scan_of
scan_upto s [] = at_end (ends_of s)
  where
    at_end : (b : Bool) → Within (cond b (Some 0) None) 0
    at_end true = omega arith
    at_end false = tt
scan_upto s (b ∷ bs) = at_next (next_of s b) bs (λ more. scan_upto more bs)
  where
    at_next : (n : Next) (bs : List ℕ) → ((more : Scan) → Within (scan_of more bs) (length bs)) → Within (on_next n (λ more. scan_of more bs)) (suc (length bs))
    at_next (On more) bs h = upto_shifted (scan_of more bs) (length bs) (h more)
    at_next Last bs h = omega arith
    at_next Before bs h = omega arith
    at_next Never bs h = tt

pub record Fits (p : Piece) (n : ℕ) : Type 0 where
  pub some : 0 < size_of p
  pub within : size_of p ≤ n

sized_fits : (k : TokenKind) (o : Option ℕ) (n : ℕ) → Within o n → Fits (sized_of k o) (suc n)
sized_fits k None n h = record { some = omega arith; within = omega arith }
sized_fits k (Some m) n h = record { some = omega arith; within = omega arith }

both_fit : (t : Bool) (p q : Piece) (n : ℕ) → Fits p n → Fits q n → Fits (cond t p q) n
both_fit true p q n h k = h
both_fit false p q n h k = k

cond_le : (t : Bool) (x y n : ℕ) → (t ≡ true → x ≤ n) → y ≤ n → cond t x y ≤ n
cond_le true x y n h k = h refl
cond_le false x y n h k = k

sign_upto : (b c d e n : ℕ) → (((c == 62) && (d == 62) && (e == 61)) ≡ true → 4 ≤ n) → (((c == 62) && ((d == 62) || (d == 61))) ≡ true → 3 ≤ n) → (((c == 60) && (d == 61)) ≡ true → 3 ≤ n) → (((c == 62) || (c == 61)) ≡ true → 2 ≤ n) → (((c == 60) || (c == 61)) ≡ true → 2 ≤ n) → (may_double b ≡ true → ((c == b) || (c == 61)) ≡ true → 2 ≤ n) → ((c == 61) ≡ true → 2 ≤ n) → 1 ≤ n → sign_len b c d e ≤ n
sign_upto b c d e n f4 f3 g3 f2 g2 h2 i2 one =
    cond_le (b == 62) _ _ n (λ _. cond_le ((c == 62) && (d == 62) && (e == 61)) _ _ n f4 (cond_le ((c == 62) && ((d == 62) || (d == 61))) _ _ n f3 (cond_le ((c == 62) || (c == 61)) _ _ n f2 one)))
    (cond_le (b == 60) _ _ n (λ _. cond_le ((c == 60) && (d == 61)) _ _ n g3 (cond_le ((c == 60) || (c == 61)) _ _ n g2 one))
    (cond_le (may_double b) _ _ n (λ m. cond_le ((c == b) || (c == 61)) _ _ n (h2 m) one)
    (cond_le (may_assign b) _ _ n (λ _. cond_le (c == 61) _ _ n i2 one)
    (cond_le (stands_alone b) _ _ n (λ _. one) (omega arith)))))

and_false : {A : Type 0} (x : Bool) → (x && false) ≡ true → A
and_false true h = cc
and_false false h = cc

not_zero : {A : Type 0} (t : Bool) (b : ℕ) → (0 == b) ≡ t → may_double b ≡ true → (t || false) ≡ true → A
not_zero true b e m h = let f : 0 ≡ b = eqb-true 0 b e in absurd (never b f m)
  where
    never : (b : ℕ) → 0 ≡ b → may_double b ≡ true → ⊥
    never b f m = let g : may_double 0 ≡ true = subst (λ (n : ℕ). may_double n ≡ true) (sym f) m in no g
      where
        no : (let x : Bool = false in x ≡ true) → ⊥
        no h = cc
not_zero false b e m h = cc

sign_fits : (k n : ℕ) → k ≤ n → 1 ≤ n → Fits (sign_of k) n
sign_fits zero n h o = record { some = omega arith; within = omega arith }
sign_fits (suc k) n h o = record { some = omega arith; within = h }

no : {A : Type 0} → (let x : Bool = false in x ≡ true) → A
no h = cc

signed_fits : (b : ℕ) (rest : List ℕ) → Fits (signed_of (b ∷ rest)) (suc (length rest))
signed_fits b [] = sign_fits (sign_len b 0 0 0) 1 (sign_upto b 0 0 0 1 (λ h. no h) (λ h. no h) (λ h. no h) (λ h. no h) (λ h. no h) (λ m h. not_zero (0 == b) b refl m h) (λ h. no h) (omega arith)) (omega arith)
signed_fits b (c ∷ []) = sign_fits (sign_len b c 0 0) 2 (sign_upto b c 0 0 2 (λ h. and_false ((c == 62) && false) h) (λ h. and_false (c == 62) h) (λ h. and_false (c == 60) h) (λ h. omega arith) (λ h. omega arith) (λ m h. omega arith) (λ h. omega arith) (omega arith)) (omega arith)
signed_fits b (c ∷ d ∷ []) = sign_fits (sign_len b c d 0) 3 (sign_upto b c d 0 3 (λ h. and_false ((c == 62) && (d == 62)) h) (λ h. omega arith) (λ h. omega arith) (λ h. omega arith) (λ h. omega arith) (λ m h. omega arith) (λ h. omega arith) (omega arith)) (omega arith)
signed_fits b (c ∷ d ∷ e ∷ rest) = sign_fits (sign_len b c d e) (suc (suc (suc (suc (length rest))))) (sign_upto b c d e (suc (suc (suc (suc (length rest))))) (λ h. omega arith) (λ h. omega arith) (λ h. omega arith) (λ h. omega arith) (λ h. omega arith) (λ m h. omega arith) (λ h. omega arith) (omega arith)) (omega arith)

skipped_fits : (o : Option ℕ) (b c : ℕ) (rest : List ℕ) → Within o (length rest) → Fits (skipped_of o (b ∷ c ∷ rest)) (suc (suc (length rest)))
skipped_fits None b c rest h = signed_fits b (c ∷ rest)
skipped_fits (Some n) b c rest h = record { some = omega arith; within = omega arith }

worded_fits : (o : Option ℕ) (bs : List ℕ) (n : ℕ) → Within o n → Fits (worded_of o bs) (suc n)
worded_fits None bs n h = record { some = omega arith; within = omega arith }
worded_fits (Some m) bs n h = record { some = omega arith; within = omega arith }

both_fit_by : (t : Bool) (p q : Piece) (n : ℕ) → (t ≡ true → Fits p n) → (t ≡ false → Fits q n) → Fits (cond t p q) n
both_fit_by true p q n h k = h refl
both_fit_by false p q n h k = k refl

-- a string literal, a comment or a sign
literal_fits : (t : Bool) (o p : Option ℕ) (n : ℕ) → t ≡ true → Within o n → Fits (sized_of Str (cond t o p)) (suc n)
literal_fits true o p n e h = sized_fits Str o n h
literal_fits false o p n e h = cc

skips_none : (t x y : Bool) (o p q : Option ℕ) (b : ℕ) → t ≡ false → Fits (skipped_of (cond t o (cond (x && false) p (cond (y && false) q None))) (b ∷ [])) 1
skips_none true x y o p q b e = cc
skips_none false true true o p q b e = signed_fits b []
skips_none false true false o p q b e = signed_fits b []
skips_none false false true o p q b e = signed_fits b []
skips_none false false false o p q b e = signed_fits b []

skips_some : (t x y : Bool) (o p q : Option ℕ) (b c : ℕ) (rest : List ℕ) → t ≡ false → Within p (length rest) → Within q (length rest) → Fits (skipped_of (cond t o (cond x p (cond y q None))) (b ∷ c ∷ rest)) (suc (suc (length rest)))
skips_some true x y o p q b c rest e h k = cc
skips_some false true y o p q b c rest e h k = skipped_fits p b c rest h
skips_some false false true o p q b c rest e h k = skipped_fits q b c rest k
skips_some false false false o p q b c rest e h k = signed_fits b (c ∷ rest)

slash_fits : (b : ℕ) (rest : List ℕ) → (b == 34) ≡ false → Fits (skipped_of (closing_of (b ∷ rest)) (b ∷ rest)) (suc (length rest))
slash_fits b [] e = skips_none (b == 34) (b == 47) (b == 47) _ _ _ b e
slash_fits b (c ∷ rest) e = skips_some (b == 34) ((b == 47) && (c == 47)) ((b == 47) && (c == 42)) _ _ _ b c rest e (scan_upto s.Line rest) (scan_upto s.Block rest)

zero_fits : (rest : List ℕ) → Fits (zero_of (slice_index rest 0)) (suc (length rest))
zero_fits [] = record { some = omega arith; within = omega arith }
zero_fits (c ∷ rest) = both_fit ((c == 76) || (c == 108)) _ _ _ (record { some = omega arith; within = omega arith }) (record { some = omega arith; within = omega arith })

pub fits : (b : ℕ) (rest : List ℕ) → Fits (piece_of (b ∷ rest)) (suc (length rest))
unfolding piece_of
fits b rest =
    both_fit (is_blank b) _ _ _ (record { some = omega arith; within = omega arith })
    (both_fit (is_letter b) _ _ _ (worded_fits (scan_of s.Word rest) (b ∷ rest) (length rest) (scan_upto s.Word rest))
    (both_fit (is_digit b) _ _ _ (both_fit (b == 48) _ _ _ (zero_fits rest) (sized_fits Number (scan_of s.Digits rest) (length rest) (scan_upto s.Digits rest)))
    (both_fit_by (b == 34) _ _ _ (λ e. literal_fits (b == 34) (scan_of s.Text rest) _ (length rest) e (scan_upto s.Text rest))
    (λ e. both_fit (b == 47) _ _ _ (slash_fits b rest e) (signed_fits b rest)))))

pub piece_some : (bs : List ℕ) → 0 < length bs → 0 < size_of (piece_of bs)
piece_some [] h = absurd (omega arith)
piece_some (b ∷ rest) h = (fits b rest).some

pub piece_within : (bs : List ℕ) → 0 < length bs → size_of (piece_of bs) ≤ length bs
piece_within [] h = absurd (omega arith)
piece_within (b ∷ rest) h = (fits b rest).within
