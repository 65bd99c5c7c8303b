-- Going through the flips, one by one.
use Rattle.std.proofs.Common.{◌≡◌, ◌<◌, ℕ, ◌+◌, drop, Bool, true, false, List, length, Some, None, if◌then◌else◌, sym, ap, ◌∙◌, subst, add-one}
use Rattle.std.proofs.Math.Seq.{drop-cons}
use Rattle.px_code.specs.declared.side.Side.{Side}
use Rattle.px_graph.specs.declared.graph.Graph.{Graph}
use Rattle.px_choose.specs.Placements.{flipped, Pins}
use Rattle.px_choose.specs.Choices.{is_better, if_better, first_flip}

pub flip_step : (G : Graph) (B : ℕ) (pins : Pins) (p : List Side) (n : ℕ) (xs : Pins) (k : ℕ) → k < length xs → first_flip G B pins p n (drop k xs) ≡ if_better G B pins p (flipped pins n p) (first_flip G B pins p (n + 1) (drop (k + 1) xs))
flip_step G B pins p n xs k h = ap (λ (ys : Pins). first_flip G B pins p n ys) (drop-cons xs k None h) ∙ ap (λ j. if_better G B pins p (flipped pins n p) (first_flip G B pins p (n + 1) (drop j xs))) (sym (add-one k))

pub flip_found : (G : Graph) (B : ℕ) (pins : Pins) (p : List Side) (n k : ℕ) (q : List Side) → k < length pins → first_flip G B pins p n (drop k pins) ≡ first_flip G B pins p 1 pins → q ≡ flipped pins n p → is_better G B pins p q ≡ true → first_flip G B pins p 1 pins ≡ Some q
flip_found G B pins p n k q h rest same better =
    sym rest ∙ flip_step G B pins p n pins k h ∙ ap (λ (b : Bool). if b then Some (flipped pins n p) else first_flip G B pins p (n + 1) (drop (k + 1) pins)) (subst (λ (x : List Side). is_better G B pins p x ≡ true) same better) ∙ ap (λ (x : List Side). Some x) (sym same)

pub flip_next : (G : Graph) (B : ℕ) (pins : Pins) (p : List Side) (n k : ℕ) (q : List Side) → k < length pins → first_flip G B pins p n (drop k pins) ≡ first_flip G B pins p 1 pins → q ≡ flipped pins n p → is_better G B pins p q ≡ false → first_flip G B pins p (n + 1) (drop (k + 1) pins) ≡ first_flip G B pins p 1 pins
flip_next G B pins p n k q h rest same better =
    sym (ap (λ (b : Bool). if b then Some (flipped pins n p) else first_flip G B pins p (n + 1) (drop (k + 1) pins)) (subst (λ (x : List Side). is_better G B pins p x ≡ false) same better)) ∙ sym (flip_step G B pins p n pins k h) ∙ rest
