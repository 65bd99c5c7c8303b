-- Near with the very control of the one machine.
use Rattle.std.proofs.Common.{◌≡◌, ℕ, List}
use Rattle.px_value.specs.declared.object.Object.{Object}
use Rattle.px_blocks.specs.Machine.{Control, Machine}

abbrev pub machine : List Object → List (List ℕ) → Control → Machine
machine heap prints control = record { heap = heap; prints = prints; control = control }

abbrev pub with_control : Machine → Control → Machine
with_control m c = record m { control = c }

pub share : (near : Machine) (c : Control) → near.control ≡ c → near ≡ with_control near c
share near c e = λ k. record near { control = e k }
