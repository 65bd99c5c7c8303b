-- A run keeps what the stack stands for.
use Rattle.std.proofs.Common.{◌≡◌, List, [], ◌∷◌, ◌++◌, Option, Some, None, option_and_then, refl, sym, subst}
use Rattle.px_accept.specs.declared.role.Role.{Role}
use Rattle.px_accept.specs.declared.symbol.Symbol.{Symbol}
use Rattle.px_accept.specs.Moves.{Move, Refuse, Pass, Push}
use Rattle.px_accept.specs.Machine.{move_of, step, run}
use Rattle.px_accept.proofs.Languages.{Chain, Sound, link, split}
use Rattle.px_accept.proofs.Sound.{sound}

pushed : (s : Symbol) (t : Role) (m : Move) (st st' : List Symbol) → Sound m s t → (let o : Option (List Symbol) = elim m [ Refuse ↦ None | Pass ↦ step st t | Push xs ↦ Some (xs ++ st) ] in o ≡ Some st') → ((zs : List Role) → step st t ≡ Some st' → Chain st' zs [] → Chain st (t ∷ zs) []) → (zs : List Role) → Chain st' zs [] → Chain (s ∷ st) (t ∷ zs) []
pushed s t Refuse st st' h e i zs c = cc
pushed s t Pass st st' h e i zs c = (t ∷ zs, h (t ∷ zs), i zs e c)
pushed s t (Push xs) st st' h e i zs c =
    let f : st' ≡ xs ++ st = cc in
    let w = split xs st zs [] (subst (λ (us : List Symbol). Chain us zs []) f c) in
    (w.0, h zs w.0 (link xs zs w.0 w.1), w.2)

-- a step keeps what the stack stands for
step_sound : (st st' : List Symbol) (t : Role) (zs : List Role) → step st t ≡ Some st' → Chain st' zs [] → Chain st (t ∷ zs) []
unfolding step
step_sound [] st' t zs e c = cc
step_sound (s ∷ st) st' t zs e c = pushed s t (move_of s t) st st' (sound s t) e (λ us f d. step_sound st st' t us f d) zs c

by_step : (o : Option (List Symbol)) (st st' : List Symbol) (t : Role) (ts zs : List Role) → ((n : List Symbol) → o ≡ Some n → Chain n (ts ++ zs) [] → Chain st (t ∷ ts ++ zs) []) → ((n : List Symbol) → run n ts ≡ Some st' → Chain n (ts ++ zs) []) → option_and_then (λ next. run next ts) o ≡ Some st' → Chain st (t ∷ ts ++ zs) []
by_step None st st' t ts zs f h e = cc
by_step (Some n) st st' t ts zs f h e = f n refl (h n e)

pub run_sound : (ts zs : List Role) (st st' : List Symbol) → run st ts ≡ Some st' → Chain st' zs [] → Chain st (ts ++ zs) []
unfolding run
run_sound [] zs st st' e c = let f : st ≡ st' = cc in subst (λ (us : List Symbol). Chain us zs []) (sym f) c
run_sound (t ∷ ts) zs st st' e c = by_step (step st t) st st' t ts zs (λ n f d. step_sound st n t (ts ++ zs) f d) (λ n f. run_sound ts zs n st' f c) e
