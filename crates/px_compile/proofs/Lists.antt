-- Lists, tests and numbers of methods.
use Rattle.std.proofs.Common.{◌≡◌, ℕ, zero, suc, ◌+◌, ◌<◌, Bool, true, false, ◌&&◌, List, [], ◌∷◌, length, Some, slice_get, refl, sym, ap, ◌∙◌, arith}
use Rattle.px_code.specs.declared.side.Side.{Side}
use Rattle.px_code.specs.declared.side.Side.TheVariants.{App, Db}
use Rattle.px_code.specs.declared.method.Method.{Method}
use Rattle.px_code.specs.declared.code.Code.{Code}
use Rattle.px_code.specs.CodeRun.{method_at}
use Rattle.px_code.specs.Places.{same_side}
use Rattle.px_code.specs.Points.{IsMethod}
use Rattle.px_points.specs.Marks.{is_marked}

pub both_true : (a b : Bool) → (a && b) ≡ true → (a ≡ true) × (b ≡ true)
both_true true b h = (refl, h)
both_true false b h = absurd cc

pub both_are : (a b : Bool) → a ≡ true → b ≡ true → (a && b) ≡ true
both_are true b h k = k
both_are false b h k = h

pub one_side : (a b : Side) → same_side a b ≡ true → a ≡ b
one_side App App h = refl
one_side App Db h = absurd cc
one_side Db App h = absurd cc
one_side Db Db h = refl

pub side_itself : (a b : Side) → a ≡ b → same_side a b ≡ true
side_itself App App h = refl
side_itself App Db h = absurd cc
side_itself Db App h = absurd cc
side_itself Db Db h = refl

pub marked_within : (marks : List Bool) (n : ℕ) → is_marked marks n ≡ true → n < length marks
marked_within [] n h = absurd cc
marked_within (b ∷ marks) zero h = omega arith
marked_within (b ∷ marks) (suc n) h = let k = marked_within marks n h in omega arith

-- the methods are those of the code from a number on
abbrev pub AreNumbered : Code → ℕ → List Method → Type 0
AreNumbered code m methods = (k : ℕ) (method : Method) → slice_get methods k ≡ Some method → method_at code.methods (k + m) ≡ Some method

pub numbered_all : (code : Code) → AreNumbered code 1 code.methods
numbered_all code k method is = let e : suc k ≡ k + 1 = omega arith in ap (λ n. method_at code.methods n) (sym e) ∙ is

pub numbered_here : (code : Code) (m : ℕ) (method : Method) (methods : List Method) → AreNumbered code m (method ∷ methods) → IsMethod code m method
numbered_here code m method methods h = let e : m ≡ 0 + m = omega arith in record { is = ap (λ n. method_at code.methods n) e ∙ h 0 method refl }

pub numbered_next : (code : Code) (m : ℕ) (method : Method) (methods : List Method) → AreNumbered code m (method ∷ methods) → AreNumbered code (m + 1) methods
numbered_next code m method methods h k other is = let e : k + (m + 1) ≡ suc k + m = omega arith in ap (λ n. method_at code.methods n) e ∙ h (suc k) other is
