use Rattle.std.proofs.Common.{◌≡◌, ◌++◌, map, drop}
use Rattle.std.specs.List.{flat_map}
use Rattle.px_pyxil.specs.declared.line.Line.TheVariants as line
use Rattle.px_pyxil.specs.Spelling.{line_text}
use Rattle.px_pyxil.proofs.printing.push_sites.Given as goal

abbrev pub invariant-loop-site : goal.invariant-loop-site
invariant-loop-site l =
    l.text.items ++ flat_map line_text (map line.Site (drop l.site-index l.sites)) ≡ l.initial.text.items ++ flat_map line_text (map line.Site l.sites)
