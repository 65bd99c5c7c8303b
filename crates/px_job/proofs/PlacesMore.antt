-- One entry more, before those that have their places.
use Rattle.std.proofs.Common.{◌≡◌, ℕ, ◌+◌, ◌<◌, List, length, drop, get_or, Option, Some, if◌then◌else◌, sym, ap, ◌∙◌}
use Rattle.std.specs.Str.{bytes_eq}
use Rattle.std.proofs.lemmas.List.{drop_more}
use Rattle.px_facts.specs.declared.checked.Entry.{Entry}
use Rattle.px_job.specs.Places.{place_from}

pub place_more : (entries : List Entry) (place next : ℕ) (entry : Entry) (bytes name : List ℕ) (old : Option ℕ) → place < length entries → next ≡ place + 1 → bytes ≡ (get_or entries place entry).name → old ≡ place_from name next (drop next entries) → (if bytes_eq bytes name then Some place else old) ≡ place_from name place (drop place entries)
place_more entries place next entry bytes name old h n b o =
    ap (λ (own : List ℕ). if bytes_eq own name then Some place else old) b
    ∙ ap (λ (rest : Option ℕ). if bytes_eq (get_or entries place entry).name name then Some place else rest) (o ∙ ap (λ (m : ℕ). place_from name m (drop m entries)) n)
    ∙ ap (place_from name place) (sym (drop_more entries place entry h))
