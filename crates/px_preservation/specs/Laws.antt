-- What lowering promises of the meaning.
use Rattle.std.specs.Prelude.{◌≡◌, ℕ, List, [], ◌∷◌, length}
use Rattle.px_value.specs.declared.value.Value.{Value}
use Rattle.px_value.specs.declared.object.Object.{Object}
use Rattle.px_tree.specs.declared.Class.{Class}
use Rattle.px_tree.specs.declared.Member.{Member}
use Rattle.px_tree.specs.declared.Member.TheVariants as member
use Rattle.px_tree.specs.declared.FieldDecl.{FieldDecl}
use Rattle.px_facts.specs.declared.checked.Checked.{Checked}
use Rattle.px_facts.specs.declared.checked.ClassFact.{ClassFact}
use Rattle.px_effects.specs.Run.{Ask}
use Rattle.px_mean.specs.Program.{source_from}
use Rattle.px_mean.specs.Entry.{exec}
use Rattle.px_mean.specs.Typing.{IsTyped}
use Rattle.px_normal.specs.Run.{untraced}
use Rattle.px_normal.specs.CodeRun.{code_run}
use Rattle.px_lowering.specs.Programs.{lowered}

-- the fields among members
abbrev pub fields_in : List Member → List FieldDecl
fields_in [] = []
fields_in (member.Field f ∷ ms) = f ∷ fields_in ms
fields_in (member.Method m ∷ ms) = fields_in ms

-- each class is known, with as many fields as it declares
abbrev pub AreKnown : List Class → List ClassFact → Type 0
AreKnown [] [] = Unit {0}
AreKnown (c ∷ cs) (fact ∷ facts) = (length (fields_in c.members) ≡ length fact.fields) × AreKnown cs facts
AreKnown _ _ = ⊥

-- The code of a typed program does what the program does, whatever the heap, the world and the way in which it answers, the method and the arguments.
abbrev pub KeepsMeaning : (Q W : Type 0) → Type 0
KeepsMeaning Q W = (P : Checked) → IsTyped (source_from P) → AreKnown P.program.classes P.facts.classes
    → (ask : Ask Q W) (heap : List Object) (world : W) (method : ℕ) (args : List Value)
    → exec ask (source_from P) heap world method args ≡ untraced (code_run (lowered P) ask heap world method args)
