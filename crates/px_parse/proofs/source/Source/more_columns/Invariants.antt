use Rattle.std.proofs.Common.{◌≡◌, ◌≤◌, ◌-◌, [], ◌∷◌, length}
use Rattle.px_words.specs.declared.lexeme.Word.TheVariants as w
use Rattle.px_parse.specs.Reading.{next_column, repeated, all_while, sees}
use Rattle.px_parse.proofs.source.Source.more_columns.Given as goal

-- the turns that are left go on from what was found to what all turns give
abbrev pub invariant-loop-turn : goal.invariant-loop-turn
invariant-loop-turn l =
    record {
      fewer : length l.tokens.left.now ≤ length l.fn.tokens.left.now;
      same : all_while (sees w.Comma) (next_column l.self.bytes.now) (l.fn.first ∷ []) l.fn.tokens.left.now ≡ repeated (sees w.Comma) (next_column l.self.bytes.now) (l._turn-end - l._turn) l.columns l.tokens.left.now;
    }
