-- Sends that are put by the numbers of nodes.
use Rattle.std.proofs.Common.{◌≡◌, ℕ, zero, suc, ◌-◌, nat_eq, Bool, true, false, List, [], ◌∷◌, length, replicate, Option, Some, None, is_some, slice_get, slice_set, refl, sym, ap, ◌∙◌, ◌⊎◌, inl, inr, ⊎_elim, subst, arith, if◌then◌else◌}
use Rattle.std.proofs.lemmas.Option.{same_Some}
use Rattle.std.proofs.lemmas.List.{length-set}
use Rattle.px_constraints.specs.System.{At}
use Rattle.px_normal.specs.First.{numbered}
use Rattle.px_flow_points.proofs.Elements.{in_none, in_cons, in_head, in_tail}
use Rattle.px_blocks.specs.declared.block.Send.{Send}
use Rattle.px_sync.specs.declared.sent.Sent.{Sent}
use Rattle.px_sync.specs.Found.{sending, with_sent, with_all}

-- ---- one item

set_cases : {A : Type 0} (xs : List A) (n k : ℕ) (y : A) → (k ≡ n) ⊎ (slice_get (slice_set xs n y) k ≡ slice_get xs k)
set_cases [] n k y = inr refl
set_cases (x ∷ xs) zero zero y = inl refl
set_cases (x ∷ xs) zero (suc k) y = inr refl
set_cases (x ∷ xs) (suc n) zero y = inr refl
set_cases (x ∷ xs) (suc n) (suc k) y = ⊎_elim (λ (e : k ≡ n). inl (ap suc e)) (λ (e : slice_get (slice_set xs n y) k ≡ slice_get xs k). inr e) (set_cases xs n k y)

set_is : {A : Type 0} (xs : List A) (n : ℕ) (y x : A) → slice_get (slice_set xs n y) n ≡ Some x → y ≡ x
set_is [] n y x h = cc
set_is (z ∷ xs) zero y x h = same_Some y x h
set_is (z ∷ xs) (suc n) y x h = set_is xs n y x h

set_there : {A : Type 0} (xs : List A) (n : ℕ) (y : A) → is_some (slice_get xs n) ≡ true → slice_get (slice_set xs n y) n ≡ Some y
set_there [] n y h = cc
set_there (x ∷ xs) zero y h = refl
set_there (x ∷ xs) (suc n) y h = set_there xs n y h

-- numbered from 1
abbrev put : {A : Type 0} → ℕ → A → List A → List A
put m y xs = if nat_eq m 0 then xs else slice_set xs (m - 1) y

put_suc : {A : Type 0} (n : ℕ) (y : A) (xs : List A) → put (suc n) y xs ≡ slice_set xs n y
put_suc n y xs =
    let e : nat_eq (suc n) 0 ≡ false = grind arith in
    let f : suc n - 1 ≡ n = omega arith in
    ap (λ (b : Bool). if b then xs else slice_set xs (suc n - 1) y) e ∙ ap (λ i. slice_set xs i y) f

put_from : {A : Type 0} (m : ℕ) (y : A) (xs : List A) (node : ℕ) (x : A) → numbered (put m y xs) node ≡ Some x → (numbered xs node ≡ Some x) ⊎ ((m ≡ node) × (y ≡ x))
put_from zero y xs node x h = inl h
put_from (suc n) y xs zero x h = cc
put_from {A} (suc n) y xs (suc k) x h =
    let g : slice_get (slice_set xs n y) k ≡ Some x = ap (λ (z : List A). slice_get z k) (sym (put_suc n y xs)) ∙ h in
    ⊎_elim
    (λ (e : k ≡ n). inr (ap suc (sym e), set_is xs n y x (subst (λ j. slice_get (slice_set xs n y) j ≡ Some x) e g)))
    (λ (e : slice_get (slice_set xs n y) k ≡ slice_get xs k). inl (sym e ∙ g))
    (set_cases xs n k y)

put_there : {A : Type 0} (m : ℕ) (y : A) (xs : List A) → is_some (numbered xs m) ≡ true → numbered (put m y xs) m ≡ Some y
put_there zero y xs h = cc
put_there {A} (suc n) y xs h = ap (λ (z : List A). slice_get z n) (put_suc n y xs) ∙ set_there xs n y h

put_other : {A : Type 0} (m : ℕ) (y : A) (xs : List A) (node : ℕ) → (m ≡ node) ⊎ (numbered (put m y xs) node ≡ numbered xs node)
put_other zero y xs node = inr refl
put_other (suc n) y xs zero = inr refl
put_other {A} (suc n) y xs (suc k) = ⊎_elim
    (λ (e : k ≡ n). inl (ap suc (sym e)))
    (λ (e : slice_get (slice_set xs n y) k ≡ slice_get xs k). inr (ap (λ (z : List A). slice_get z k) (put_suc n y xs) ∙ e))
    (set_cases xs n k y)

put_size : {A : Type 0} (m : ℕ) (y : A) (xs : List A) → length (put m y xs) ≡ length xs
put_size zero y xs = refl
put_size {A} (suc n) y xs = ap (λ (z : List A). length z) (put_suc n y xs) ∙ length-set xs n y

-- what is there stays there
put_some : {A : Type 0} (m : ℕ) (y : A) (xs : List A) (node : ℕ) → is_some (numbered xs node) ≡ true → is_some (numbered (put m y xs) node) ≡ true
put_some {A} m y xs node h = ⊎_elim
    (λ (e : m ≡ node). subst (λ k. is_some (numbered (put m y xs) k) ≡ true) e (ap (λ (z : Option A). is_some z) (put_there m y xs (subst (λ k. is_some (numbered xs k) ≡ true) (sym e) h))))
    (λ (e : numbered (put m y xs) node ≡ numbered xs node). ap (λ (z : Option A). is_some z) e ∙ h)
    (put_other m y xs node)

-- ---- all of a list

-- a send stands after the statement of the node
pub record HasSend (sends : List (Option Send)) (node : ℕ) : Type 0 where
  pub send : Send
  pub is : numbered sends node ≡ Some (Some send)

-- it is one of the list
pub record IsOf (list : List Sent) (node : ℕ) (send : Send) : Type 0 where
  pub sent : Sent
  pub at : At list sent
  pub node_is : sent.node ≡ node
  pub send_is : sending sent ≡ send

same_send : (a b : Send) → ◌≡◌ {A = Option Send} (Some a) (Some b) → a ≡ b
same_send a b e = same_Some a b e

later : (s : Sent) (rest : List Sent) (node : ℕ) (send : Send) → IsOf rest node send → IsOf (s ∷ rest) node send
later s rest node send r = record { sent = r.sent; at = in_tail s rest r.sent r.at; node_is = r.node_is; send_is = r.send_is }

pub all_from : (list : List Sent) (sends : List (Option Send)) (node : ℕ) (send : Send) → numbered (with_all list sends) node ≡ Some (Some send) → (numbered sends node ≡ Some (Some send)) ⊎ IsOf list node send
all_from [] sends node send h = inl h
all_from (s ∷ rest) sends node send h = ⊎_elim
    (λ (u : numbered (with_sent s sends) node ≡ Some (Some send)). ⊎_elim inl
    (λ (e : (s.node ≡ node) × (Some (sending s) ≡ Some send)). inr (record { sent = s; at = in_head s rest; node_is = e.0; send_is = same_send (sending s) send e.1 }))
    (put_from s.node (Some (sending s)) sends node (Some send) u))
    (λ (u : IsOf rest node send). inr (later s rest node send u))
    (all_from rest (with_sent s sends) node send h)

one_stays : (s : Sent) (sends : List (Option Send)) (node : ℕ) → HasSend sends node → HasSend (with_sent s sends) node
one_stays s sends node h = ⊎_elim
    (λ (e : s.node ≡ node). record { send = sending s; is = subst (λ k. numbered (with_sent s sends) k ≡ Some (Some (sending s))) e (put_there s.node (Some (sending s)) sends (subst (λ k. is_some (numbered sends k) ≡ true) (sym e) (ap is_some h.is))) })
    (λ (e : numbered (with_sent s sends) node ≡ numbered sends node). record { send = h.send; is = e ∙ h.is })
    (put_other s.node (Some (sending s)) sends node)

all_stay : (list : List Sent) (sends : List (Option Send)) (node : ℕ) → HasSend sends node → HasSend (with_all list sends) node
all_stay [] sends node h = h
all_stay (s ∷ rest) sends node h = all_stay rest (with_sent s sends) node (one_stays s sends node h)

pub all_put : (list : List Sent) (sends : List (Option Send)) (s : Sent) → At list s → is_some (numbered sends s.node) ≡ true → HasSend (with_all list sends) s.node
all_put [] sends s at h = absurd (in_none s at)
all_put (x ∷ rest) sends s at h = ⊎_elim
    (λ (e : x ≡ s). all_stay rest (with_sent x sends) s.node (subst (λ (z : Sent). HasSend (with_sent z sends) s.node) (sym e) (record { send = sending s; is = put_there s.node (Some (sending s)) sends h })))
    (λ (u : At rest s). all_put rest (with_sent x sends) s u (put_some x.node (Some (sending x)) sends s.node h))
    (in_cons x rest s at)

pub all_size : (list : List Sent) (sends : List (Option Send)) → length (with_all list sends) ≡ length sends
all_size [] sends = refl
all_size (s ∷ rest) sends = all_size rest (with_sent s sends) ∙ put_size s.node (Some (sending s)) sends

-- ---- at first there is none

abbrev none_yet : ℕ → List (Option Send)
none_yet n = replicate n None

none_at : (n k : ℕ) (send : Send) → slice_get (none_yet n) k ≡ Some (Some send) → ⊥
none_at zero k send h = cc
none_at (suc n) zero send h = cc
none_at (suc n) (suc k) send h = none_at n k send h

pub no_send : (n node : ℕ) (send : Send) → numbered (none_yet n) node ≡ Some (Some send) → ⊥
no_send n zero send h = cc
no_send n (suc k) send h = none_at n k send h

there_at : {A : Type 0} (xs : List A) (k : ℕ) → is_some (slice_get xs k) ≡ true → is_some (slice_get (none_yet (length xs)) k) ≡ true
there_at [] k h = cc
there_at (x ∷ xs) zero h = refl
there_at (x ∷ xs) (suc k) h = there_at xs k h

pub place_there : {A : Type 0} (xs : List A) (node : ℕ) → is_some (numbered xs node) ≡ true → is_some (numbered (none_yet (length xs)) node) ≡ true
place_there xs zero h = cc
place_there xs (suc k) h = there_at xs k h

pub none_size : (n : ℕ) → length (none_yet n) ≡ n
none_size zero = refl
none_size (suc n) = ap suc (none_size n)
