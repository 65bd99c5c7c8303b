-- The place of the first refused token, token by token.
use Rattle.std.proofs.Common.{◌≡◌, ℕ, ◌+◌, ◌<◌, ◌≤◌, List, [], ◌∷◌, length, drop, get_or, Option, Some, None, Bool, true, false, Ok, refl, sym, ap, ◌∙◌, arith, drop-cons, add-one}
use Rattle.std.proofs.lemmas.Grind.{common_steps}
use Rattle.px_accept.specs.declared.role.Role.{Role}
use Rattle.px_accept.specs.declared.symbol.Symbol.{Symbol}
use Rattle.px_accept.specs.Machine.{taken, on_taken, at_end, refused_from, Advanced}

at_more : (k : ℕ) (st next : List Symbol) (t : Role) (ts : List Role) → taken st t ≡ Some next → refused_from k st (t ∷ ts) ≡ refused_from (k + 1) next ts
unfolding refused_from
at_more k st next t ts h = ap (λ (o : Option (List Symbol)). on_taken o k (λ next. refused_from (k + 1) next ts)) h

at_stop : (k : ℕ) (st : List Symbol) (t : Role) (ts : List Role) → taken st t ≡ None → refused_from k st (t ∷ ts) ≡ Some k
unfolding refused_from
at_stop k st t ts h = ap (λ (o : Option (List Symbol)). on_taken o k (λ next. refused_from (k + 1) next ts)) h

pub refused_more : (whole : Option ℕ) (k : ℕ) (st next : List Symbol) (roles : List Role) (d : Role) → k < length roles → taken st (get_or roles k d) ≡ Some next → whole ≡ refused_from k st (drop k roles) → whole ≡ refused_from (k + 1) next (drop (k + 1) roles)
refused_more whole k st next roles d h e w =
    w ∙ ap (refused_from k st) (drop-cons roles k d h) ∙ at_more k st next (get_or roles k d) _ e ∙ rw add-one refl

pub refused_here : (whole : Option ℕ) (k : ℕ) (st : List Symbol) (roles : List Role) (d : Role) → k < length roles → taken st (get_or roles k d) ≡ None → whole ≡ refused_from k st (drop k roles) → Some k ≡ whole
refused_here whole k st roles d h e w =
    sym (w ∙ ap (refused_from k st) (drop-cons roles k d h) ∙ at_stop k st (get_or roles k d) _ e)

nothing_left : (k : ℕ) (roles : List Role) → length roles ≤ k → drop k roles ≡ []
nothing_left k roles h = grind (arith, common_steps)

at_last : (k : ℕ) (st : List Symbol) → refused_from k st [] ≡ at_end k st
unfolding refused_from
at_last k st = refl

pub refused_nowhere : (whole : Option ℕ) (k : ℕ) (st : List Symbol) (roles : List Role) → length roles ≤ k → st ≡ [] → whole ≡ refused_from k st (drop k roles) → (let n : Option ℕ = None in n ≡ whole)
refused_nowhere whole k st roles h e w = sym (w ∙ ap (refused_from k st) (nothing_left k roles h) ∙ at_last k st ∙ ap (at_end k) e)

open_end : (k : ℕ) (st : List Symbol) → (st ≡ [] → ⊥) → at_end k st ≡ Some k
open_end k [] n = absurd (n refl)
open_end k (s ∷ st) n = refl

pub refused_at_end : (whole : Option ℕ) (k : ℕ) (st : List Symbol) (roles : List Role) → k ≡ length roles → (st ≡ [] → ⊥) → whole ≡ refused_from k st (drop k roles) → Some (length roles) ≡ whole
refused_at_end whole k st roles h n w = sym (w ∙ ap (refused_from k st) (nothing_left k roles (omega arith)) ∙ at_last k st ∙ open_end k st n ∙ ap Some h)

pub was_taken : (o : Option (List Symbol)) (now : List Symbol) (b : Bool) → Advanced o now (Ok b) → b ≡ true → o ≡ Some now
was_taken None now b h e = cc
was_taken (Some next) now b h e = ap Some (sym h.1)

pub was_not : (o : Option (List Symbol)) (now : List Symbol) (b : Bool) → Advanced o now (Ok b) → b ≡ false → o ≡ None
was_not None now b h e = refl
was_not (Some next) now b h e = cc
