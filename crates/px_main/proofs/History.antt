-- A history, one call further.
use Rattle.std.proofs.Common.{◌≡◌, ℕ, ◌+◌, List, [], ◌∷◌, ◌++◌, length, sym, ap, ◌∙◌, arith, append_assoc}
use Rattle.px_code.specs.declared.event.Event.{Event}
use Rattle.px_code.specs.declared.event.Event.TheVariants.{Begin, End}
use Rattle.px_code.specs.declared.reply.Done.{Done}
use Rattle.px_main.specs.Solo.{events_from, history_of}

abbrev events_of : ℕ → Done → List Event
events_of number done = Begin 1 number 1 ∷ End 1 done ∷ []

one_more : (number : ℕ) (dones : List Done) (done : Done) (next : ℕ) → next ≡ length dones + number → events_from number (dones ++ done ∷ []) ≡ events_from number dones ++ events_of next done
one_more number [] done next e = let here : number ≡ next = omega (arith, e) in ap (λ n. events_of n done) here
one_more number (x ∷ dones) done next e =
    let next_is : next ≡ length dones + (number + 1) = omega (arith, e) in
    ap (λ (events : List Event). Begin 1 number 1 ∷ End 1 x ∷ events) (one_more (number + 1) dones done next next_is)

-- the history of the calls so far, and of one that began and ended
pub call_told : (old begun told : List Event) (dones : List Done) (done : Done) (number : ℕ) → old ≡ history_of dones → number ≡ length dones + 1 → begun ≡ old ++ Begin 1 number 1 ∷ [] → told ≡ begun ++ End 1 done ∷ [] → told ≡ history_of (dones ++ done ∷ [])
call_told old begun told dones done number was n begins ends =
    let whole : told ≡ (history_of dones ++ Begin 1 number 1 ∷ []) ++ End 1 done ∷ [] = ends ∙ ap (λ (es : List Event). es ++ End 1 done ∷ []) (begins ∙ ap (λ (es : List Event). es ++ Begin 1 number 1 ∷ []) was) in
    whole ∙ append_assoc (history_of dones) (Begin 1 number 1 ∷ []) (End 1 done ∷ []) ∙ sym (one_more 1 dones done number n)
