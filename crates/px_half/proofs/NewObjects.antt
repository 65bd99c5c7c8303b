-- New objects, one after the other.
use Rattle.std.proofs.Common.{◌≡◌, ℕ, suc, ◌+◌, ◌<◌, true, Bool, List, [], ◌∷◌, ◌++◌, drop, length, get_or, None, sym, ap, ◌∙◌, drop-cons, add-one, if◌then◌else◌}
use Rattle.px_value.specs.declared.value.Value.{Value}
use Rattle.px_value.specs.declared.object.Object.{Object}
use Rattle.px_value.specs.declared.header.Header.{Header}
use Rattle.px_code.specs.declared.code.Code.{Code}
use Rattle.px_half.specs.Absorbed.{new_cells, new_object, header_fits, with_news}

one : (code : Code) (h : Header) (hs : List Header) (heap new : List Object) (cells : List Value) → header_fits code heap h ≡ true → cells ≡ new_cells code h.kind h.length → new ≡ heap ++ record { header = h; cells = cells } ∷ [] → with_news code (h ∷ hs) heap ≡ with_news code hs new
one code h hs heap new cells fits same made =
    ap (λ (b : Bool). if b then with_news code hs (heap ++ new_object code h ∷ []) else None) fits
    ∙ ap (λ (vs : List Value). with_news code hs (heap ++ record { header = h; cells = vs } ∷ [])) (sym same) ∙ ap (with_news code hs) (sym made)

pub news_next : (code : Code) (headers : List Header) (i : ℕ) (d : Header) (heap new : List Object) (cells : List Value) → i < length headers → header_fits code heap (get_or headers i d) ≡ true → cells ≡ new_cells code (get_or headers i d).kind (get_or headers i d).length → new ≡ heap ++ record { header = get_or headers i d; cells = cells } ∷ [] → with_news code (drop i headers) heap ≡ with_news code (drop (i + 1) headers) new
news_next code headers i d heap new cells within fits same made =
    ap (λ (hs : List Header). with_news code hs heap) (drop-cons headers i d within)
    ∙ one code (get_or headers i d) (drop (suc i) headers) heap new cells fits same made
    ∙ ap (λ n. with_news code (drop n headers) new) (sym (add-one i))
