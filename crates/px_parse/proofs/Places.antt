-- Where the acceptor refuses a text's roles, its lexemes stop being the beginning of a program.
use Rattle.std.proofs.Common.{◌≡◌, ℕ, ◌+◌, ◌<◌, ◌≤◌, ◌⊎◌, inl, inr, List, [], ◌∷◌, ◌++◌, length, take, drop, append_assoc, zero, suc, refl, sym, ap, ◌∙◌, subst, arith}
use Rattle.std.proofs.lemmas.Bool.{cases_order}
use Rattle.std.proofs.Math.Nat.{eq-or-lt_of_le}
use Rattle.px_words.specs.declared.lexeme.Lexeme.{Lexeme}
use Rattle.px_accept.specs.Place as accept
use Rattle.px_accept.specs.Grammar as flat
use Rattle.px_parse.specs.declared.whole.Declared.{Declared}
use Rattle.px_parse.specs.Grammar.{SpellsProgram}
use Rattle.px_words.specs.Roles.{role_at, roles_of}
use Rattle.px_parse.specs.Places.{BeginsProgram, IsDeep, IsShallow, IsPlace}
use Rattle.px_parse.proofs.RolesOf.{lexemes_of_roles}
use Rattle.px_parse.proofs.FlatPrograms.{flat_program}
use Rattle.px_parse.proofs.TreeOf.{tree_of_program}

pub roles_taken : (k : ℕ) (xs : List Lexeme) → roles_of (take k xs) ≡ take k (roles_of xs)
roles_taken zero xs = refl
roles_taken (suc k) [] = refl
roles_taken (suc k) (x ∷ xs) = ap (λ rs. role_at x ∷ rs) (roles_taken k xs)

pub roles_joined : (xs ys : List Lexeme) → roles_of (xs ++ ys) ≡ roles_of xs ++ roles_of ys
roles_joined [] ys = refl
roles_joined (x ∷ xs) ys = ap (λ rs. role_at x ∷ rs) (roles_joined xs ys)

as_many : (xs : List Lexeme) → length (roles_of xs) ≡ length xs
as_many [] = refl
as_many (x ∷ xs) = ap suc (as_many xs)

deep_roles : (j : ℕ) (xs : List Lexeme) → IsDeep (take j xs) → accept.IsDeep (take j (roles_of xs))
deep_roles j xs h = subst accept.IsDeep (roles_taken j xs) h

deep_lexemes : (j : ℕ) (xs : List Lexeme) → accept.IsDeep (take j (roles_of xs)) → IsDeep (take j xs)
deep_lexemes j xs h = subst accept.IsDeep (sym (roles_taken j xs)) h

-- a text that the acceptor takes has a tree, and is shallow
pub accepted_tree : (source : List ℕ) (xs : List Lexeme) → accept.Accepted (roles_of xs) → (d : Declared) × SpellsProgram source d xs
accepted_tree source xs a = tree_of_program source xs a.whole

pub accepted_shallow : (xs : List Lexeme) → accept.Accepted (roles_of xs) → IsShallow xs
accepted_shallow xs a j deep = a.shallow j (deep_roles j xs deep)

-- a program that begins so, from its roles
begins_lexemes : (source : List ℕ) (xs : List Lexeme) → flat.BeginsProgram (roles_of xs) → BeginsProgram source xs
begins_lexemes source xs b =
    let m = lexemes_of_roles b.more in
    let whole : accept.IsProgram (roles_of (xs ++ m.0)) = record { program = b.program; same = b.same ∙ ap (λ rs. roles_of xs ++ rs) (sym m.1) ∙ sym (roles_joined xs m.0); spelled = b.spelled } in
    let t = tree_of_program source (xs ++ m.0) whole in
    record { more = m.0; declared = t.0; spells = t.1 }

begins_roles : (source : List ℕ) (xs : List Lexeme) → BeginsProgram source xs → flat.BeginsProgram (roles_of xs)
begins_roles source xs b =
    let p = flat_program source b.declared (xs ++ b.more) b.spells in
    record { program = p.program; more = roles_of b.more; same = p.same ∙ roles_joined xs b.more; spelled = p.spelled }

refused_here : (source : List ℕ) (xs : List Lexeme) (k : ℕ) → (flat.BeginsProgram (take k (roles_of xs)) → ⊥) ⊎ accept.IsDeep (take k (roles_of xs)) → (BeginsProgram source (take k xs) → ⊥) ⊎ IsDeep (take k xs)
refused_here source xs k (inl none) = inl (λ b. none (subst flat.BeginsProgram (roles_taken k xs) (begins_roles source (take k xs) b)))
refused_here source xs k (inr deep) = inr (deep_lexemes k xs deep)

pub refused_place : (source : List ℕ) (xs : List Lexeme) (k : ℕ) → accept.Refused (roles_of xs) k → IsPlace source xs k
refused_place source xs k r =
    let n = as_many xs in
    record {
      within = omega (arith, n, r.within);
      front = begins_lexemes source (take k xs) (subst flat.BeginsProgram (sym (roles_taken k xs)) r.front);
      shallow = λ j h deep. r.shallow j h (deep_roles j xs deep);
      here = λ h. refused_here source xs (k + 1) (r.here (omega (arith, n, h)));
      unended = λ e declared spells. r.unended (omega (arith, n, e)) (flat_program source declared xs spells);
    }

-- ---- one place

-- a list is its front and the rest
split_at : {A : Type 0} (k : ℕ) (xs : List A) → xs ≡ take k xs ++ drop k xs
split_at zero xs = refl
split_at (suc k) [] = refl
split_at (suc k) (x ∷ xs) = ap (λ ys. x ∷ ys) (split_at k xs)

take_less : {A : Type 0} (j k : ℕ) (xs : List A) → j ≤ k → take k xs ≡ take j xs ++ drop j (take k xs)
take_less zero k xs h = refl
take_less (suc j) zero xs h = absurd (omega (arith, h))
take_less (suc j) (suc k) [] h = refl
take_less (suc j) (suc k) (x ∷ xs) h = ap (λ ys. x ∷ ys) (take_less j k xs (omega (arith, h)))

-- where a program begins with more, it begins with less
begins_less : (source : List ℕ) (xs : List Lexeme) (j k : ℕ) → j ≤ k → BeginsProgram source (take k xs) → BeginsProgram source (take j xs)
begins_less source xs j k h b =
    record { more = drop j (take k xs) ++ b.more; declared = b.declared; spells = subst (SpellsProgram source b.declared) (ap (λ ys. ys ++ b.more) (take_less j k xs h) ∙ append_assoc (take j xs) (drop j (take k xs)) b.more) b.spells }

ended : (source : List ℕ) (xs : List Lexeme) (k : ℕ) → (BeginsProgram source (take (k + 1) xs) → ⊥) ⊎ IsDeep (take (k + 1) xs) → BeginsProgram source (take (k + 1) xs) → (IsDeep (take (k + 1) xs) → ⊥) → ⊥
ended source xs k (inl none) b shallow = none b
ended source xs k (inr deep) b shallow = shallow deep

-- no place comes before another
not_before : (source : List ℕ) (xs : List Lexeme) (k m : ℕ) → IsPlace source xs k → IsPlace source xs m → k < m → ⊥
not_before source xs k m p q h =
    let w = q.within in
    ended source xs k (p.here (omega (arith, h, w))) (begins_less source xs (k + 1) m (omega (arith, h)) q.front) (q.shallow (k + 1) (omega (arith, h)))

pub one_place : (source : List ℕ) (xs : List Lexeme) (k m : ℕ) → IsPlace source xs k → IsPlace source xs m → k ≡ m
one_place source xs k m p q = by_order (cases_order k m)
  where
    by_order : (k ≡ m) ⊎ ((k < m) ⊎ (m < k)) → k ≡ m
    by_order (inl e) = e
    by_order (inr (inl h)) = absurd (not_before source xs k m p q h)
    by_order (inr (inr h)) = absurd (not_before source xs m k q p h)

-- a program that is shallow is refused nowhere
pub refused_nowhere : (source : List ℕ) (xs : List Lexeme) (k : ℕ) (d : Declared) → IsPlace source xs k → SpellsProgram source d xs → IsShallow xs → ⊥
refused_nowhere source xs k d p spells shallow = by_end (eq-or-lt_of_le p.within)
  where
    by_end : (k ≡ length xs) ⊎ (k < length xs) → ⊥
    by_end (inr h) = ended source xs k (p.here h) (record { more = drop (k + 1) xs; declared = d; spells = subst (SpellsProgram source d) (split_at (k + 1) xs) spells }) (shallow (k + 1))
    by_end (inl e) = p.unended e d spells
