-- What paths through flows are made of.
use Rattle.std.proofs.Common.{ℕ, ◌⊎◌, inl, inr, ⊎_elim}
use Rattle.px_depend.specs.Flow.{Flow, Then, Either, Round}
use Rattle.px_depend.specs.Paths.{Passes, Arrives, Leaves, Meets}
use Rattle.px_depend.specs.Paths as p

pub passes_then : (a b : Flow) → Passes (Then a b) → Passes a × Passes b
passes_then a b (p.Passes.both h k) = (h, k)

pub passes_either : (a b : Flow) → Passes (Either a b) → Passes a ⊎ Passes b
passes_either a b (p.Passes.left h) = inl h
passes_either a b (p.Passes.right h) = inr h

pub passes_round : (a b : Flow) → Passes (Round a b) → Passes a
passes_round a b (p.Passes.once h) = h
passes_round a b (p.Passes.again h k r) = h

pub leaves_then : (d : ℕ) (a b : Flow) → Leaves d (Then a b) → (Leaves d a × Passes b) ⊎ Leaves d b
leaves_then d a b (p.Leaves.first l h) = inl (l, h)
leaves_then d a b (p.Leaves.second l) = inr l

pub leaves_either : (d : ℕ) (a b : Flow) → Leaves d (Either a b) → Leaves d a ⊎ Leaves d b
leaves_either d a b (p.Leaves.left l) = inl l
leaves_either d a b (p.Leaves.right l) = inr l

pub leaves_round : (d : ℕ) (a b : Flow) → Leaves d (Round a b) → Leaves d a ⊎ (Leaves d b × Passes a)
leaves_round d a b (p.Leaves.at_end l) = inl l
leaves_round d a b (p.Leaves.round l h r) = inl l
leaves_round d a b (p.Leaves.body l r) = inr (l, passes_round a b r)

pub arrives_then : (u : ℕ) (a b : Flow) → Arrives u (Then a b) → Arrives u a ⊎ (Passes a × Arrives u b)
arrives_then u a b (p.Arrives.first r) = inl r
arrives_then u a b (p.Arrives.second h r) = inr (h, r)

pub arrives_either : (u : ℕ) (a b : Flow) → Arrives u (Either a b) → Arrives u a ⊎ Arrives u b
arrives_either u a b (p.Arrives.left r) = inl r
arrives_either u a b (p.Arrives.right r) = inr r

-- whatever the rounds
pub arrives_round : (u : ℕ) (a b : Flow) → Arrives u (Round a b) → Arrives u a ⊎ (Passes a × Arrives u b)
arrives_round u a b (p.Arrives.begin_of r) = inl r
arrives_round u a b (p.Arrives.body h r) = inr (h, r)
arrives_round u a b (p.Arrives.again h k r) = arrives_round u a b r

pub arrives_in_round : (u : ℕ) (a b : Flow) → Arrives u a ⊎ (Passes a × Arrives u b) → Arrives u (Round a b)
arrives_in_round u a b h = ⊎_elim (λ (r : Arrives u a). p.Arrives.begin_of r) (λ (t : Passes a × Arrives u b). p.Arrives.body t.0 t.1) h

pub meets_then : (d u : ℕ) (a b : Flow) → Meets d u (Then a b) → Meets d u a ⊎ (Meets d u b ⊎ (Leaves d a × Arrives u b))
meets_then d u a b (p.Meets.in_first m) = inl m
meets_then d u a b (p.Meets.in_second m) = inr (inl m)
meets_then d u a b (p.Meets.over l r) = inr (inr (l, r))

pub meets_either : (d u : ℕ) (a b : Flow) → Meets d u (Either a b) → Meets d u a ⊎ Meets d u b
meets_either d u a b (p.Meets.in_left m) = inl m
meets_either d u a b (p.Meets.in_right m) = inr m

pub meets_round : (d u : ℕ) (a b : Flow) → Meets d u (Round a b) → Meets d u a ⊎ (Meets d u b ⊎ ((Leaves d a × Arrives u b) ⊎ (Leaves d (Then a b) × Arrives u (Round a b))))
meets_round d u a b (p.Meets.in_begin m) = inl m
meets_round d u a b (p.Meets.in_body m) = inr (inl m)
meets_round d u a b (p.Meets.into_body l r) = inr (inr (inl (l, r)))
meets_round d u a b (p.Meets.through_body l h r) = inr (inr (inr (p.Leaves.first l h, r)))
meets_round d u a b (p.Meets.from_body l r) = inr (inr (inr (p.Leaves.second l, r)))

pub round_meets : (d u : ℕ) (a b : Flow) → Leaves d (Then a b) × Arrives u (Round a b) → Meets d u (Round a b)
round_meets d u a b t = ⊎_elim (λ (l : Leaves d a × Passes b). p.Meets.through_body l.0 l.1 t.1) (λ (l : Leaves d b). p.Meets.from_body l t.1) (leaves_then d a b t.0)
