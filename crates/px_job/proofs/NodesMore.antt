-- One node more.
use Rattle.std.proofs.Common.{◌≡◌, ℕ, ◌+◌, ◌<◌, Bool, List, [], ◌∷◌, ◌++◌, length, drop, ap, sym, ◌∙◌, append_assoc, arith}
use Rattle.std.proofs.lemmas.List.{drop_more}
use Rattle.px_normal.specs.declared.node.Node.{Node}
use Rattle.px_job.specs.Prints.{is_print}
use Rattle.px_job.specs.Parts.{first_side, first_sides}

pub sides_more : (has_budget : Bool) (prints : List ℕ) (nodes : List Node) (place number : ℕ) → place < length nodes → first_sides has_budget prints number (drop place nodes) ≡ first_side (is_print prints number) has_budget ∷ first_sides has_budget prints (number + 1) (drop (place + 1) nodes)
sides_more has_budget prints [] place number h = absurd (omega (arith, h))
sides_more has_budget prints (node ∷ nodes) place number h = ap (first_sides has_budget prints number) (drop_more (node ∷ nodes) place node h)

-- an item moves from what is left to what is made
pub item_moves : {A : Type 0} (old new left rest whole : List A) (item made : A) → new ≡ old ++ made ∷ [] → made ≡ item → left ≡ item ∷ rest → old ++ left ≡ whole → new ++ rest ≡ whole
item_moves {A} old new left rest whole item made e m f g =
    ap (λ (all : List A). all ++ rest) e
    ∙ append_assoc old (made ∷ []) rest
    ∙ ap (λ (one : A). old ++ one ∷ rest) m
    ∙ ap (λ (more : List A). old ++ more) (sym f)
    ∙ g
