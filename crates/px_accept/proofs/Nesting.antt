-- The nesting of a stack, and a turn on more symbols.
use Rattle.std.proofs.Common.{◌≡◌, ◌≢◌, ◌+◌, ◌<◌, ◌≤◌, List, [], ◌∷◌, ◌++◌, length, take, drop, get_or, ◌-◌, refl, sym, ap, ◌∙◌, add_assoc, append_assoc, arith, Result, Ok, Err}
use Rattle.std.proofs.lemmas.Grind.{common_steps}
use Rattle.std.specs.declared.alloc.AllocError.{AllocError}
use Rattle.px_accept.specs.declared.symbol.Symbol.{Symbol}
use Rattle.px_accept.specs.declared.stack.Turn.{Turn}
use Rattle.px_accept.specs.Moves.{Move, Refuse, Pass, Push, before}
use Rattle.px_accept.specs.Machine.{weight, nesting, Turned}

pub nesting_append : (xs ys : List Symbol) → nesting (xs ++ ys) ≡ nesting xs + nesting ys
nesting_append [] ys = omega arith
nesting_append (x ∷ xs) ys = ap (λ n. weight x + n) (nesting_append xs ys) ∙ sym (add_assoc (weight x) (nesting xs) (nesting ys))

pub put_room : (xs : List Symbol) (d : Symbol) (old now : List Symbol) → 1 ≤ length xs → now ≡ take (length xs - 1) (drop 1 xs) ++ old → nesting xs + nesting old < 4294967296 → weight (get_or xs 0 d) + nesting now < 4294967296
put_room [] d old now h e r = absurd (omega arith)
put_room (x ∷ xs) d old now h e r =
    let k : take (length (x ∷ xs) - 1) (drop 1 (x ∷ xs)) ≡ xs = grind (arith, common_steps) in
    let f = ap nesting (e ∙ ap (λ (zs : List Symbol). zs ++ old) k) in
    let g = nesting_append xs old in
    omega (arith, f, g)

pub turned_before : (m : Move) (more old now : List Symbol) (r : Result Turn AllocError) → m ≢ Pass → Turned m (more ++ old) now r → Turned (before m more) old now r
turned_before Refuse more old now r n h = h
turned_before Pass more old now r n h = absurd (n refl)
turned_before (Push xs) more old now (Ok t) n h = (h.0, h.1 ∙ sym (append_assoc xs more old))
turned_before (Push xs) more old now (Err e) n h = tt
