-- Where no breach is the first, no breach is noted.
use Rattle.std.proofs.Common.{◌≡◌, ℕ, ◌+◌, Bool, true, false, not, ◌&&◌, ◌||◌, List, [], ◌∷◌, ◌++◌, Some, None, if◌then◌else◌, refl, sym}
use Rattle.std.specs.Prelude.{nat_lt}
use Rattle.std.proofs.lemmas.Bool.{true≢false}
use Rattle.px_type_rules.specs.declared.breach.Breach.{Breach}
use Rattle.px_type_rules.specs.Breaches.{Note, Fault, New, OneMethod, breach_if, at, least, breaches, is_before, max_news, max_methods}

-- no breach is noted
abbrev pub Clean : List Note → Type 0
Clean [] = Unit {0}
Clean (Fault token code ∷ ns) = ⊥
Clean (New token ∷ ns) = Clean ns
Clean (OneMethod token ∷ ns) = Clean ns

pub clean_left : (xs ys : List Note) → Clean (xs ++ ys) → Clean xs
clean_left [] ys h = tt
clean_left (Fault token code ∷ xs) ys h = h
clean_left (New token ∷ xs) ys h = clean_left xs ys h
clean_left (OneMethod token ∷ xs) ys h = clean_left xs ys h

pub clean_right : (xs ys : List Note) → Clean (xs ++ ys) → Clean ys
clean_right [] ys h = h
clean_right (Fault token code ∷ xs) ys h = absurd h
clean_right (New token ∷ xs) ys h = clean_right xs ys h
clean_right (OneMethod token ∷ xs) ys h = clean_right xs ys h

pub not_broken : (b : Bool) (token code : ℕ) → Clean (breach_if b token code) → b ≡ false
not_broken true token code h = absurd h
not_broken false token code h = refl

-- a rule that asks for something
pub kept : (b : Bool) (token code : ℕ) → Clean (breach_if (not b) token code) → b ≡ true
kept true token code h = refl
kept false token code h = absurd h

-- ---- truths and options

pub some_is : {A : Type 0} {x y : A} → Some x ≡ Some y → x ≡ y
some_is h = cc h

pub and_left : (a b : Bool) → (a && b) ≡ true → a ≡ true
and_left true b h = refl
and_left false b h = h

pub and_right : (a b : Bool) → (a && b) ≡ true → b ≡ true
and_right true b h = h
and_right false b h = absurd (true≢false (sym h))

pub or_right : (a b : Bool) → a ≡ false → (a || b) ≡ true → b ≡ true
or_right true b e h = absurd (true≢false e)
or_right false b e h = h

pub not_true : (b : Bool) → not b ≡ true → b ≡ false
not_true true h = absurd (true≢false (sym h))
not_true false h = refl

-- ---- the first breach

some_stays : (b : Bool) (x y : Breach) (bs : List Breach) → ((z : Breach) → least (Some z) bs ≡ None → ⊥) → least (if b then Some x else Some y) bs ≡ None → ⊥
some_stays true x y bs k h = k x h
some_stays false x y bs k h = k y h

no_less : (bs : List Breach) (b : Breach) → least (Some b) bs ≡ None → ⊥
no_less [] b h = absurd (cc h)
no_less (c ∷ bs) b h = some_stays (is_before c b) c b bs (no_less bs) h

no_breaches : (bs : List Breach) → least None bs ≡ None → bs ≡ []
no_breaches [] h = refl
no_breaches (b ∷ bs) h = absurd (no_less bs b h)

counted : (b : Bool) (xs ys : List Breach) (c : Breach) (N : Type 0) → (xs ≡ [] → N) → (if b then xs else c ∷ ys) ≡ [] → N
counted true xs ys c N k h = k h
counted false xs ys c N k h = absurd (cc h)

no_faults : (ns : List Note) (news methods : ℕ) → breaches news methods ns ≡ [] → Clean ns
no_faults [] news methods h = tt
no_faults (Fault token code ∷ ns) news methods h = absurd (cc h)
no_faults (New token ∷ ns) news methods h = counted (nat_lt news max_news) (breaches (news + 1) methods ns) (breaches news methods ns) (at token 17) (Clean ns) (no_faults ns (news + 1) methods) h
no_faults (OneMethod token ∷ ns) news methods h = counted (nat_lt methods max_methods) (breaches news (methods + 1) ns) (breaches news methods ns) (at token 17) (Clean ns) (no_faults ns news (methods + 1)) h

pub all_clean : (ns : List Note) → least None (breaches 0 0 ns) ≡ None → Clean ns
all_clean ns h = no_faults ns 0 0 (no_breaches (breaches 0 0 ns) h)
