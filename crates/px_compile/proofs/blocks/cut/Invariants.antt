use Rattle.std.proofs.Common.{◌≡◌, ◌+◌, ◌++◌, drop, length}
use Rattle.px_compile.specs.Cutting.{cut_methods, firsts_of}
use Rattle.px_compile.proofs.blocks.cut.Given as goal

abbrev pub invariant-loop-method : goal.invariant-loop-method
invariant-loop-method l = record {
  blocks : l.blocks ++ cut_methods l.code l.sides l.facts (length l.blocks + 1) l.number (drop l.method-index l.method-items) ≡ cut_methods l.code l.sides l.facts 1 1 l.method-items;
  firsts : l.firsts ++ firsts_of l.code l.sides l.facts (length l.blocks + 1) l.number (drop l.method-index l.method-items) ≡ firsts_of l.code l.sides l.facts 1 1 l.method-items;
}
