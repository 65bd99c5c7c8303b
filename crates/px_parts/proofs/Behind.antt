-- Texts of parts, one behind the other.
use Rattle.std.proofs.Common.{◌≡◌, ℕ, ◌+◌, ◌<◌, ◌≤◌, List, [], ◌∷◌, ◌++◌, length, drop, get_or, refl, sym, ap, ◌∙◌, subst, arith}
use Rattle.std.proofs.lemmas.List.{drop_more, append_assoc, append-nil}
use Rattle.px_normal.specs.declared.code.Code.{Code}
use Rattle.px_job.specs.declared.job.Part.{Part}
use Rattle.px_parts.specs.Texts.{IsPartText, AreTexts, none, more}

-- what is left goes behind what is there
abbrev pub GoesBehind : Code → List Part → List Part → List ℕ → Type 0
GoesBehind code parts left text = (rest : List ℕ) → AreTexts code left rest → AreTexts code parts (text ++ rest)

-- one more part
pub with_part : (code : Code) (parts : List Part) (i : ℕ) (d part : Part) (old new text : List ℕ) → i < length parts → part ≡ get_or parts i d → GoesBehind code parts (drop i parts) old → IsPartText code part text → new ≡ old ++ text
    → GoesBehind code parts (drop (i + 1) parts) new
with_part code parts i d part old new text h is behind shown put rest others =
    let both : AreTexts code (drop i parts) (text ++ rest) = subst (λ (ps : List Part). AreTexts code ps (text ++ rest)) (ap (λ (p : Part). p ∷ drop (i + 1) parts) is ∙ sym (drop_more parts i d h)) (more shown others) in
    subst (AreTexts code parts) (sym (append_assoc old text rest) ∙ ap (λ (t : List ℕ). t ++ rest) (sym put)) (behind (text ++ rest) both)

-- no part is left
pub all_shown : (code : Code) (parts left : List Part) (text : List ℕ) → left ≡ [] → GoesBehind code parts left text → AreTexts code parts text
all_shown code parts left text e behind = subst (AreTexts code parts) (append-nil text) (behind [] (subst (λ (ps : List Part). AreTexts code ps []) (sym e) none))
