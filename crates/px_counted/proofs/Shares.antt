-- Which part of an expression a node's counter belongs to.
use Rattle.std.proofs.Common.{◌≡◌, ℕ, zero, suc, ◌+◌, ◌≤◌, arith}

-- Behind all parts and the last statement: f are the nodes so far, before, behind the parts; g is given in the parts, own in the expression itself.
-- h is 1 if the last statement has the node, and then its counter is that of the last part; e is left, b and d are the marks of the expression itself.
pub record Last (old new g b d h e : ℕ) : Type 0 where
  pub begun : b ≡ 0
  pub left : e ≡ d
  pub parts : new + h ≡ old + g

pub last_of : (old new g own b d h e : ℕ) → b + d ≤ own → own + g ≤ 1 → old ≤ new → new ≤ old + g → new + h + e ≡ old + (own + g) → (1 ≤ h → 1 ≤ g) → (1 ≤ e → 1 ≤ d) → Last old new g b d h e
last_of old new g own b d zero zero o few m up all k l = record { begun = omega (arith, o, few, m, up, all); left = omega (arith, o, few, m, up, all); parts = omega (arith, o, few, m, up, all) }
last_of old new g own b d (suc h) zero o few m up all k l = let x = k (omega (arith)) in record { begun = omega (arith, o, few, m, up, all, x); left = omega (arith, o, few, m, up, all, x); parts = omega (arith, o, few, m, up, all, x) }
last_of old new g own b d zero (suc e) o few m up all k l = let y = l (omega (arith)) in record { begun = omega (arith, o, few, m, up, all, y); left = omega (arith, o, few, m, up, all, y); parts = omega (arith, o, few, m, up, all, y) }
last_of old new g own b d (suc h) (suc e) o few m up all k l = let x = k (omega (arith)) in let y = l (omega (arith)) in record { begun = omega (arith, o, few, m, up, all, x, y); left = omega (arith, o, few, m, up, all, x, y); parts = omega (arith, o, few, m, up, all, x, y) }

-- an expression without parts
pub record Alone (b d h e : ℕ) : Type 0 where
  pub begun : b ≡ h
  pub left : e ≡ d

pub alone_of : (old own b d h e : ℕ) → b + d ≤ own → own ≤ 1 → (1 ≤ own → 1 ≤ b + d) → old + h + e ≡ old + own → (1 ≤ h → 1 ≤ b) → (1 ≤ e → 1 ≤ d) → Alone b d h e
alone_of old own b d zero zero o few some all k l = record { begun = omega (arith, o, few, all); left = omega (arith, o, few, all) }
alone_of old own b d (suc h) zero o few some all k l = let x = k (omega (arith)) in record { begun = omega (arith, o, few, all, x); left = omega (arith, o, few, all, x) }
alone_of old own b d zero (suc e) o few some all k l = let y = l (omega (arith)) in record { begun = omega (arith, o, few, all, y); left = omega (arith, o, few, all, y) }
alone_of old own b d (suc h) (suc e) o few some all k l = let x = k (omega (arith)) in let y = l (omega (arith)) in record { begun = omega (arith, o, few, all, x, y); left = omega (arith, o, few, all, x, y) }

-- of two parts one after the other, all that is left is left by the second
pub record Split (old mid new g1 g2 x : ℕ) : Type 0 where
  pub first : mid + 0 ≡ old + g1
  pub second : new + x ≡ mid + g2

pub split_of : (old mid new g1 g2 x : ℕ) → g1 + g2 ≤ 1 → old ≤ mid → mid ≤ old + g1 → new ≤ mid + g2 → new + x ≡ old + (g1 + g2) → (1 ≤ x → 1 ≤ g2) → Split old mid new g1 g2 x
split_of old mid new g1 g2 zero few up m n all k = record { first = omega (arith, few, up, m, n, all); second = omega (arith, few, up, m, n, all) }
split_of old mid new g1 g2 (suc x) few up m n all k = let y = k (omega (arith)) in record { first = omega (arith, few, up, m, n, all, y); second = omega (arith, few, up, m, n, all, y) }
