-- Rows are made as one object.
use Rattle.std.proofs.Common.{◌≡◌, ℕ, List, ◌∷◌, pos, sym, ap, ◌∙◌}
use Rattle.px_value.specs.declared.value.Value.{Value}
use Rattle.px_value.specs.declared.value.Value.TheVariants.{Int}
use Rattle.px_value.specs.declared.header.Kind.TheVariants as kind
use Rattle.px_value.specs.declared.answer.Answer.{Answer}
use Rattle.px_value.specs.declared.answer.Answer.TheVariants.{Rows}
use Rattle.px_effects.specs.Rows.{make_rows}
use Rattle.px_effects.proofs.Made.{rows_are_made}
use Rattle.px_rows.specs.Tables.{Tables}
use Rattle.px_mean.specs.Effects.{no_object, acts}
use Rattle.px_plain.specs.Effects.{allocate}
use Rattle.px_plain.specs.View.{There}

pub rows_made : (number site width : ℕ) (a : Answer) (cells all : List Value) (s : There) → a ≡ Rows width cells → all ≡ Int (pos 0) ∷ cells → acts {Q = ⊥} (make_rows number site a) s ≡ allocate (kind.Rows number) site all s
rows_made number site width a cells all s e h =
    ap (λ (x : Answer). acts {Q = ⊥} (make_rows number site x) s) e
    ∙ rows_are_made ⊥ Tables no_object number site width cells s
    ∙ ap (λ (xs : List Value). allocate {Q = ⊥} (kind.Rows number) site xs s) (sym h)
