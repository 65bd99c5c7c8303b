-- Straight code, part by part.
use Rattle.std.proofs.Common.{◌≡◌, ℕ, zero, suc, List, ◌∷◌, map, Option, Some, None, option_map, Ok, refl, ap, ◌∙◌}
use Rattle.std.proofs.lemmas.Option.{slice_get-map}
use Rattle.px_normal.specs.declared.method.Method.{Method}
use Rattle.px_normal.specs.declared.code.Code.{Code}
use Rattle.px_normal.specs.First.{numbered}
use Rattle.px_code.specs.declared.code.Code.{Code as SimpleCode}
use Rattle.px_code.specs.CodeRun.{method_at}
use Rattle.px_straight.specs.Taken.{later, first_of}
use Rattle.px_straight.specs.Simple.{simple_code, simple_method}
use Rattle.px_straight.specs.Straight.{unless_later, straight}
use Rattle.px_straight.specs.Laws.{StraightKeepsNumbers, StraightEntries}

-- straight code has no statement that isn't taken
pub record IsStraight (code : Code) (simple : SimpleCode) : Type 0 where
  pub none_later : later code ≡ None
  pub is : simple ≡ simple_code code

split : (o : Option ℕ) (code : Code) (simple : SimpleCode) → later code ≡ o → unless_later o (simple_code code) ≡ Ok simple → IsStraight code simple
split None code simple e h = record { none_later = e; is = cc }
split (Some line) code simple e h = cc

pub is_straight : (code : Code) (simple : SimpleCode) → straight code ≡ Ok simple → IsStraight code simple
unfolding straight
is_straight code simple h = split (later code) code simple refl h

pub keeps_numbers : StraightKeepsNumbers
keeps_numbers code simple h = (is_straight code simple h).is

-- the method of a number
pub method_of : (methods : List Method) (number : ℕ) → method_at (map simple_method methods) number ≡ option_map simple_method (numbered methods number)
method_of methods zero = refl
method_of methods (suc n) = slice_get-map simple_method methods n

pub entries : StraightEntries
entries code simple h number method e = record { is = ap (λ (c : SimpleCode). method_at c.methods number) (keeps_numbers code simple h) ∙ method_of code.methods number ∙ ap (option_map simple_method) e }

-- ---- each of a list

pub record NoneFirst (o : Option ℕ) (more : List (Option ℕ)) : Type 0 where
  pub one : o ≡ None
  pub rest : first_of more ≡ None

pub none_first : (o : Option ℕ) (more : List (Option ℕ)) → first_of (o ∷ more) ≡ None → NoneFirst o more
none_first None more h = record { one = refl; rest = h }
none_first (Some line) more h = cc
