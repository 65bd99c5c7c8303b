-- The locals in scope, and the slots of a method (JLS 6.3).
use Rattle.std.specs.Prelude.{ℕ, List, [], ◌∷◌, ◌++◌, Option, length, take}
use Rattle.px_facts.specs.declared.types.Ty.{Ty}
use Rattle.px_facts.specs.declared.types.Ty.TheVariants.{Object}
use Rattle.px_types.specs.declared.scope.Slot.{Slot}
use Rattle.px_types.specs.declared.scope.Scope.{Scope}
use Rattle.px_types.specs.Names.{empty, declare, find}

-- slot 0 is `this`
abbrev pub first_scope : ℕ → Scope
first_scope this = record { locals = empty; slots = Object this ∷ [] }

-- a parameter or a local has the next slot, whether or not the others are still in scope
abbrev pub next_slot : Ty → Scope → Slot
next_slot ty scope = record { ty = ty; number = length scope.slots }

abbrev pub with_slot : List ℕ → Ty → Scope → Scope
with_slot name ty scope = record { locals = declare name (next_slot ty scope) scope.locals; slots = scope.slots ++ ty ∷ [] }

abbrev pub slot_of : List ℕ → Scope → Option Slot
slot_of name scope = find name scope.locals

-- the end of a scope before which as many locals were in scope
abbrev pub left : ℕ → Scope → Scope
left count scope = record scope { locals = record { names = take count scope.locals.names; values = take count scope.locals.values } }

abbrev pub closed : Scope → Scope → Scope
closed outer inner = left (length outer.locals.names) inner
