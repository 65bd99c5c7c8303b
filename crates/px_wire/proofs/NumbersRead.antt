-- Numbers are read as they are spelled.
use Rattle.std.proofs.Common.{◌≡◌, ℕ, suc, ◌+◌, ◌^◌, ◌<◌, ◌≤◌, Bool, true, false, cond, ltb, List, [], ◌∷◌, ◌++◌, length, take, drop, Some, None, refl, sym, ap, subst, ◌∙◌, arith, inl, inr}
use Rattle.std.specs.Int.{Width, w16, w32, w64, byte_len, from_be_bytes, to_be_bytes}
use Rattle.std.proofs.lemmas.Bool.{cases_lt, ltb-false, le-ltb}
use Rattle.std.proofs.lemmas.List.{take_at, drop_at, take-append-drop, length-append, length-take, get_or-drop, get_or-take, get_or_past}
use Rattle.std.proofs.lemmas.Nat.{be_bytes_2, be_bytes_4, be_bytes_8, from_be_bytes-to_be_bytes_2, from_be_bytes-to_be_bytes_4, from_be_bytes-to_be_bytes_8}
use Rattle.px_wire.specs.Numbers.{u16_bytes, u32_bytes, u64_bytes}
use Rattle.px_wire.specs.Reading.{u8_at, u16_at, u32_at, u64_at, number_at}
use Rattle.px_wire.proofs.Readers.{IsBytes, Taken, Reads, some_is}

pub IsBytes-drop : (n : ℕ) (bytes : List ℕ) → IsBytes bytes → IsBytes (drop n bytes)
IsBytes-drop n bytes h i = rw get_or-drop (h (n + i))

pub IsBytes-take : (n : ℕ) (bytes : List ℕ) → IsBytes bytes → IsBytes (take n bytes)
IsBytes-take n bytes h i =
    elim (cases_lt i n) [
      | inl lt ↦ rw (get_or-take n bytes i 0 lt) (h i)
      | inr le ↦ rw (get_or_past (take n bytes) i 0 (omega (arith, length-take n bytes))) (omega arith)
    ]

pub IsBytes-rest : (b : ℕ) (bytes : List ℕ) → IsBytes (b ∷ bytes) → IsBytes bytes
IsBytes-rest b bytes h i = h (suc i)

-- a test that failed
pub guard_off : {A : Type 0} (b : Bool) (x y : A) → cond b None (Some x) ≡ Some y → (b ≡ false) × (x ≡ y)
guard_off true x y e = absurd cc
guard_off false x y e = (refl, cc)

record IsWide (w : Width) (limit : ℕ) : Type 0 where
  len : (n : ℕ) → length (to_be_bytes w n) ≡ byte_len w
  back : (bytes : List ℕ) → length bytes ≡ byte_len w → IsBytes bytes → to_be_bytes w (from_be_bytes w bytes) ≡ bytes
  again : (n : ℕ) → n < limit → from_be_bytes w (to_be_bytes w n) ≡ n
  below : (bytes : List ℕ) → IsBytes bytes → from_be_bytes w bytes < limit

wide16 : IsWide w16 (2 ^ 16)
wide16 = record {
  len = λ n. refl;
  back = λ bytes len fits. be_bytes_2 bytes _ len fits refl;
  again = λ n lt. from_be_bytes-to_be_bytes_2 n lt;
  below = λ bytes fits. omega (arith, fits 0, fits 1);
}

wide32 : IsWide w32 (2 ^ 32)
wide32 = record {
  len = λ n. refl;
  back = λ bytes len fits. be_bytes_4 bytes _ len fits refl;
  again = λ n lt. from_be_bytes-to_be_bytes_4 n lt;
  below = λ bytes fits. omega (arith, fits 0, fits 1, fits 2, fits 3);
}

wide64 : IsWide w64 (2 ^ 64)
wide64 = record {
  len = λ n. refl;
  back = λ bytes len fits. be_bytes_8 bytes _ len fits refl;
  again = λ n lt. from_be_bytes-to_be_bytes_8 n lt;
  below = λ bytes fits. omega (arith, fits 0, fits 1, fits 2, fits 3, fits 4, fits 5, fits 6, fits 7);
}

number_reads : (w : Width) (limit : ℕ) → IsWide w limit → Reads (λ n. n < limit) (to_be_bytes w) (number_at w)
number_reads w limit wide = record {
  again = λ n rest lt.
      let len = wide.len n in
      let long : ltb (length (to_be_bytes w n ++ rest)) (byte_len w) ≡ false = le-ltb _ _ (omega (arith, length-append (to_be_bytes w n) rest)) in
      rw (long, take_at (to_be_bytes w n) rest (byte_len w) len, drop_at (to_be_bytes w n) rest (byte_len w) len, wide.again n lt) refl;
  taken = λ bytes x fits e.
      let front = take (byte_len w) bytes in
      let read : ℕ × List ℕ = (from_be_bytes w front, drop (byte_len w) bytes) in
      let g = guard_off (ltb (length bytes) (byte_len w)) read x e in
      let long : byte_len w ≤ length bytes = ltb-false _ _ g.0 in
      let same : to_be_bytes w (from_be_bytes w front) ≡ front = wide.back front (omega (arith, length-take (byte_len w) bytes)) (IsBytes-take (byte_len w) bytes fits) in
      subst (λ (y : ℕ × List ℕ). Taken (λ n. n < limit) (to_be_bytes w) bytes y) g.1
      (record { parts = sym (ap (λ z. z ++ drop (byte_len w) bytes) same ∙ take-append-drop (byte_len w) bytes); rest = IsBytes-drop (byte_len w) bytes fits; fits = wide.below front (IsBytes-take (byte_len w) bytes fits) });
}

pub u16_reads : Reads (λ n. n < 2 ^ 16) u16_bytes u16_at
unfolding u16_bytes u16_at
u16_reads = number_reads w16 (2 ^ 16) wide16

pub u32_reads : Reads (λ n. n < 2 ^ 32) u32_bytes u32_at
unfolding u32_bytes u32_at
u32_reads = number_reads w32 (2 ^ 32) wide32

pub u64_reads : Reads (λ n. n < 2 ^ 64) u64_bytes u64_at
unfolding u64_bytes u64_at
u64_reads = number_reads w64 (2 ^ 64) wide64

u8_taken : (bytes : List ℕ) (x : ℕ × List ℕ) → IsBytes bytes → u8_at bytes ≡ Some x → Taken (λ n. n < 2 ^ 8) (λ n. n ∷ []) bytes x
u8_taken [] x fits e = absurd cc
u8_taken (b ∷ bytes) x fits e =
    subst (λ (y : ℕ × List ℕ). Taken (λ n. n < 2 ^ 8) (λ n. n ∷ []) (b ∷ bytes) y) (some_is (b, bytes) x e) (record { parts = refl; rest = IsBytes-rest b bytes fits; fits = fits 0 })

pub u8_reads : Reads (λ n. n < 2 ^ 8) (λ n. n ∷ []) u8_at
u8_reads = record { again = λ n rest lt. refl; taken = u8_taken }
