-- Calls that are served, one after the other.
use Rattle.std.proofs.Common.{◌≡◌, ℕ, zero, suc, ◌+◌, ◌≤◌, List, [], ◌∷◌, ◌++◌, length, drop, map, Some, slice_get, sym, ap, ◌∙◌, append_assoc, add-one}
use Rattle.std.proofs.lemmas.List.{append-nil}
use Rattle.std.proofs.Math.ListN.{drop_of_length-le}
use Rattle.px_code.specs.declared.reply.Shown.{Shown}
use Rattle.px_mean.specs.Calls.{Source}
use Rattle.px_mean.specs.Serial.{Call, Stand, one_call, serves}
use Rattle.px_plain.specs.declared.serial.Call.{Call as CallData}
use Rattle.px_rows.specs.Tables.{Tables}
use Rattle.px_mean.specs.Asks.{by_tables}
use Rattle.px_plain.specs.Serial.{told_call}

abbrev pub Ended : Type 0
Ended = List Shown × Stand Tables

-- those that were served, and the rest
abbrev pub joined : List Shown → Ended → Ended
joined shown rest = (shown ++ rest.0, rest.1)

abbrev pub goes_on : Source → List Call → Stand Tables → Ended
goes_on P calls stand = serves by_tables P calls stand

-- one call is served
pub one_served : (P : Source) (c : Call) (calls : List Call) (stand after : Stand Tables) (all more : List Shown) (shown : Shown) → one_call by_tables P c stand ≡ (shown, after) → more ≡ all ++ shown ∷ [] → joined all (goes_on P (c ∷ calls) stand) ≡ joined more (goes_on P calls after)
unfolding serves
one_served P c calls stand after all more shown h k =
    ap (λ (one : Shown × Stand Tables). let ended : Ended = (all ++ one.0 ∷ (goes_on P calls one.1).0, (goes_on P calls one.1).1) in ended) h
    ∙ ap (λ (shown : List Shown). let ended : Ended = (shown, (goes_on P calls after).1) in ended) (sym (append_assoc all (shown ∷ []) (goes_on P calls after).0) ∙ sym (ap (λ (xs : List Shown). xs ++ (goes_on P calls after).0) k))

pub dropped : {A : Type 0} (xs : List A) (i : ℕ) (x : A) → slice_get xs i ≡ Some x → drop i xs ≡ x ∷ drop (suc i) xs
dropped [] zero x h = cc
dropped [] (suc i) x h = cc
dropped (y ∷ ys) zero x h = let e : y ≡ x = cc in ap (λ z. z ∷ ys) e
dropped (y ∷ ys) (suc i) x h = dropped ys i x h

-- a turn of the loop
pub call_served : (P P' : Source) (calls : List CallData) (i : ℕ) (c : CallData) (all : Ended) (shown more : List Shown) (stand stand' : Stand Tables) (s : Shown)
    → slice_get calls i ≡ Some c → P' ≡ P → one_call by_tables P' (told_call c) stand ≡ (s, stand') → more ≡ shown ++ s ∷ []
    → all ≡ joined shown (goes_on P (map told_call (drop i calls)) stand) → all ≡ joined more (goes_on P (map told_call (drop (i + 1) calls)) stand')
call_served P P' calls i c all shown more stand stand' s at same called pushed so_far =
    so_far ∙ ap (λ (cs : List CallData). joined shown (goes_on P (map told_call cs) stand)) (dropped calls i c at)
    ∙ one_served P (told_call c) (map told_call (drop (suc i) calls)) stand stand' shown more s (sym (ap (λ (Q : Source). one_call by_tables Q (told_call c) stand) same) ∙ called) pushed
    ∙ ap (λ n. joined more (goes_on P (map told_call (drop n calls)) stand')) (sym (add-one i))

-- its end
pub all_served : (P : Source) (calls : List CallData) (i : ℕ) (all : Ended) (shown : List Shown) (stand : Stand Tables) → length calls ≤ i → all ≡ joined shown (goes_on P (map told_call (drop i calls)) stand) → all ≡ (shown, stand)
unfolding serves
all_served P calls i all shown stand h so_far =
    so_far ∙ ap (λ (cs : List CallData). joined shown (goes_on P (map told_call cs) stand)) (drop_of_length-le calls h)
    ∙ ap (λ (xs : List Shown). let ended : Ended = (xs, stand) in ended) (append-nil shown)
