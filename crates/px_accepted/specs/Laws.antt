-- What lowering promises of a program that is accepted.
use Rattle.std.specs.Prelude.{◌≡◌, ℕ, List, ◌++◌, length, Some, slice_get}
use Rattle.px_value.specs.declared.value.Value.{Value}
use Rattle.px_value.specs.declared.object.Object.{Object}
use Rattle.px_value.specs.declared.schema.Schema.{Schema}
use Rattle.px_tree.specs.declared.Program.{Program}
use Rattle.px_facts.specs.declared.checked.Entry.{Entry}
use Rattle.px_effects.specs.Run.{Ask}
use Rattle.px_types.specs.Checked.{facts_of, checked_of}
use Rattle.px_soundness.specs.Laws.{IsAccepted}
use Rattle.px_mean.specs.Program.{source_from}
use Rattle.px_mean.specs.Entry.{exec}
use Rattle.px_normal.specs.Run.{untraced}
use Rattle.px_normal.specs.CodeRun.{code_run}
use Rattle.px_normal.specs.Typed.{IsTyped}
use Rattle.px_lowering.specs.Programs.{lowered}
use Rattle.px_typed_code.specs.Laws.{IsEntryOf}
use Rattle.px_typed_code.specs.Nodes.{method_nodes, class_nodes, site_nodes, count_up}
use Rattle.px_counted.specs.Numbers.{AreNumbered}
use Rattle.px_counted.specs.Laws.{CountsTell}

-- Its code comes to the same value, throw or open question as it does, with the same heap, world, prints and counts: whatever the heap, the world, the way in which that answers, the method and the arguments.
abbrev pub AcceptedKeepsMeaning : (Q W : Type 0) → Type 0
AcceptedKeepsMeaning Q W = (bytes : List ℕ) (program : Program) (schema : Schema) → IsAccepted bytes program schema
    → (ask : Ask Q W) (heap : List Object) (world : W) (method : ℕ) (args : List Value)
    → exec ask (source_from (checked_of program schema)) heap world method args ≡ untraced (code_run (lowered (checked_of program schema)) ask heap world method args)

-- Each number of its tree is given once, so that what is counted by number is counted apart.
abbrev pub AcceptedIsNumbered : Type 0
AcceptedIsNumbered = (bytes : List ℕ) (program : Program) (schema : Schema) → IsAccepted bytes program schema → AreNumbered (checked_of program schema)

-- Its code is typed.
abbrev pub AcceptedCodeIsTyped : Type 0
AcceptedCodeIsTyped = (bytes : List ℕ) (program : Program) (schema : Schema) → IsAccepted bytes program schema → IsTyped (lowered (checked_of program schema))

-- Each of its entries is a method that jobs may call, with the parameters and the result of the entry.
abbrev pub AcceptedEntriesAreMethods : Type 0
AcceptedEntriesAreMethods = (bytes : List ℕ) (program : Program) (schema : Schema) → IsAccepted bytes program schema
    → (place : ℕ) (entry : Entry) → slice_get (facts_of schema program).main.entries place ≡ Some entry → IsEntryOf (lowered (checked_of program schema)) entry

-- Its nodes are numbered from 1 in the order of the code: methods, then fields, then sites, each once.
abbrev pub AcceptedNodesAreInOrder : Type 0
AcceptedNodesAreInOrder = (bytes : List ℕ) (program : Program) (schema : Schema) → IsAccepted bytes program schema
    → method_nodes (lowered (checked_of program schema)).methods ++ (class_nodes (lowered (checked_of program schema)).classes ++ site_nodes (lowered (checked_of program schema)).sites) ≡ count_up 1 (length (lowered (checked_of program schema)).nodes)

-- Its counters tell how often the statements of its code run.
abbrev pub AcceptedCountsAreRuns : (Q W : Type 0) → Type 0
AcceptedCountsAreRuns Q W = (bytes : List ℕ) (program : Program) (schema : Schema) → IsAccepted bytes program schema → CountsTell Q W (checked_of program schema)
