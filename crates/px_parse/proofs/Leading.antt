-- Reading by what stands at the begin.
use Rattle.std.proofs.Common.{◌≡◌, ℕ, List, Result, refl, sym, subst}
use Rattle.px_words.specs.declared.lexeme.Word.{Word}
use Rattle.px_words.specs.declared.lexeme.Word.TheVariants as w
use Rattle.px_tree.specs.declared.Expr.{Expr}
use Rattle.px_parse.specs.declared.error.ReadError.{ReadError}
use Rattle.px_parse.specs.Reading.{State, Read, Reads, Gives, primary_on, worded}
use Rattle.px_parse.specs.Heads.{Leads}
use Rattle.px_parse.specs.Trees.{word_form}

-- the same read, in other words
pub gives_as : {A : Type 0} (read same : Read A) (result : Result A ReadError) (now : State) → read ≡ same → Gives same result now → Gives read result now
gives_as read same result now e h = subst (λ (r : Read _). Gives r result now) (sym e) h

pub leads_as : {A B : Type 0} (whole same : Read B) (result : Result A ReadError) (behind : A → Read B) → whole ≡ same → Leads same result behind → Leads whole result behind
leads_as whole same result behind e h = subst (λ (r : Read _). Leads r result behind) (sym e) h

-- neither a literal with a text of its own, nor a group, nor `new`
pub other_primary : (source : List ℕ) (inner : Reads Expr) (x : Word) → (x ≡ w.Number → ⊥) → (x ≡ w.Text → ⊥) → (x ≡ w.Open → ⊥) → (x ≡ w.New → ⊥) → primary_on source inner x ≡ worded source inner (word_form x)
unfolding primary_on
other_primary source inner w.Number a b c d = absurd (a refl)
other_primary source inner w.Text a b c d = absurd (b refl)
other_primary source inner w.Open a b c d = absurd (c refl)
other_primary source inner w.New a b c d = absurd (d refl)
other_primary source inner _ a b c d = refl
