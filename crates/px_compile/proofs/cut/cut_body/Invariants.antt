use Rattle.std.proofs.Common.{◌≡◌, ◌+◌, ◌++◌, map, drop, length}
use Rattle.px_compile.specs.Cutting.{cut_after, cut_body, statement_of}
use Rattle.px_compile.proofs.cut.cut_body.Given as goal

abbrev pub invariant-loop-tree : goal.invariant-loop-tree
invariant-loop-tree l = cut_after l.sides l.method l.blocks l.stretch (map (statement_of l.code l.sides l.facts l.method) (drop l.tree-index l.body)) ≡ l.fn.blocks ++ cut_body l.code l.sides l.facts (length l.fn.blocks + 1) l.method l.fn.body
