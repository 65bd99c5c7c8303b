-- Entries in order of the key, around one of them.
use Rattle.std.proofs.Common.{◌≡◌, Bool, true, false, cond, ◌&&◌, not, T, List, [], ◌∷◌, ◌++◌, Some, None, refl, sym, ap, ◌∙◌, subst}
use Rattle.std.proofs.lemmas.List.{append-nil}
use Rattle.std.proofs.lemmas.List.Elements.{filter-append}
use Rattle.std.specs.declared.cmp.Ordering.{Ordering}
use Rattle.std.specs.declared.cmp.Ordering.TheVariants.{Less, Equal, Greater}
use Rattle.std.specs.Ordering.{is_lt, is_eq, eq_by_cmp, ordering_reverse}
use Rattle.std.specs.Cmp.{IsTotalOrder, tied_itself}
use Rattle.std.specs.FinMap.{IsAntisymmetric, find, put, is_sorted}
use Rattle.std.specs.FinMap.Entries.{where_key, below_all, by_order}

first : (a b : Bool) → T (a && b) → T a
first true b p = tt
first false b p = p

second : (a b : Bool) → T (a && b) → T b
second true b p = p
second false b p = absurd p

both : (a b : Bool) → T a → T b → T (a && b)
both true b p q = q
both false b p q = p

less : (r : Ordering) → T (is_lt r) → r ≡ Less
less Less p = refl
less Equal p = absurd p
less Greater p = absurd p

module _ {K : Type 0} {R : K → K → Ordering} (o : IsTotalOrder R) where
  turn : (j k : K) → R j k ≡ Less → R k j ≡ Greater
  turn j k p = o.antisymm k j ∙ ap ordering_reverse p

  turn_back : (j k : K) → R j k ≡ Greater → R k j ≡ Less
  turn_back j k p = o.antisymm k j ∙ ap ordering_reverse p

module _ {K X : Type 0} {R : K → K → Ordering} (o : IsTotalOrder R) (same : IsAntisymmetric R) where
  abbrev pub Under : K → List (K × X) → Type 0
  Under k [] = Unit {0}
  Under k (e ∷ es) = (R e.0 k ≡ Less) × Under k es

  abbrev pub Over : K → List (K × X) → Type 0
  Over k [] = Unit {0}
  Over k (e ∷ es) = (R k e.0 ≡ Less) × Over k es

  abbrev pub lower : K → List (K × X) → List (K × X)
  lower k es = where_key R (λ q. is_lt (R q k)) es

  abbrev pub upper : K → List (K × X) → List (K × X)
  upper k es = where_key R (λ q. is_lt (R k q)) es

  abbrev pub others : K → List (K × X) → List (K × X)
  others k es = where_key R (λ q. not (is_eq (R k q))) es

  over_from : (k : K) (es : List (K × X)) → T (below_all R k es) → Over k es
  over_from k [] h = tt
  over_from k (e ∷ es) h = (less _ (first _ _ h), over_from k es (second _ _ h))

  over_less : (k j : K) (es : List (K × X)) → R k j ≡ Less → Over j es → Over k es
  over_less k j [] p h = tt
  over_less k j (e ∷ es) p h = (o.trans k j e.0 p h.0, over_less k j es p h.1)

  under_less : (j k : K) (es : List (K × X)) → R j k ≡ Less → Under j es → Under k es
  under_less j k [] p h = tt
  under_less j k (e ∷ es) p h = (o.trans e.0 j k h.0 p, under_less j k es p h.1)

  lower-under : (k : K) (es : List (K × X)) → Under k es → lower k es ≡ es
  lower-under k [] h = refl
  lower-under k (e ∷ es) h = rw (h.0) (ap (λ rest. e ∷ rest) (lower-under k es h.1))

  upper-under : (k : K) (es : List (K × X)) → Under k es → upper k es ≡ []
  upper-under k [] h = refl
  upper-under k (e ∷ es) h = rw (turn o e.0 k h.0) (upper-under k es h.1)

  find-under : (k : K) (es : List (K × X)) → Under k es → find R k es ≡ None
  find-under k [] h = refl
  find-under k (e ∷ es) h = rw (turn o e.0 k h.0) (find-under k es h.1)

  lower-over : (k : K) (es : List (K × X)) → Over k es → lower k es ≡ []
  lower-over k [] h = refl
  lower-over k (e ∷ es) h = rw (turn o k e.0 h.0) (lower-over k es h.1)

  upper-over : (k : K) (es : List (K × X)) → Over k es → upper k es ≡ es
  upper-over k [] h = refl
  upper-over k (e ∷ es) h = rw (h.0) (ap (λ rest. e ∷ rest) (upper-over k es h.1))

  others-over : (k : K) (es : List (K × X)) → Over k es → others k es ≡ es
  others-over k [] h = refl
  others-over k (e ∷ es) h = rw (h.0) (ap (λ rest. e ∷ rest) (others-over k es h.1))

  find-over : (k : K) (es : List (K × X)) → Over k es → find R k es ≡ None
  find-over k [] h = refl
  find-over k (e ∷ es) h = rw (h.0) (find-over k es h.1)

  find-later : (k : K) (l r : List (K × X)) → Under k l → find R k (l ++ r) ≡ find R k r
  find-later k [] r h = refl
  find-later k (e ∷ l) r h = rw (turn o e.0 k h.0) (find-later k l r h.1)

  find-earlier : (k : K) (l r : List (K × X)) → Over k r → find R k (l ++ r) ≡ find R k l
  find-earlier k [] r h = find-over k r h
  find-earlier k (e ∷ l) r h = ap (λ x. cond (eq_by_cmp R k e.0) (Some e.1) x) (find-earlier k l r h)

  -- what is known of the sides of an entry
  pub record IsBetween (l : List (K × X)) (k : K) (r : List (K × X)) : Type 0 where
    pub under : Under k l
    pub over : Over k r
    pub left : T (is_sorted R l)
    pub right : T (is_sorted R r)

  below_front : (k : K) (l r : List (K × X)) → T (below_all R k (l ++ r)) → T (below_all R k l)
  below_front k [] r h = tt
  below_front k (e ∷ l) r h = both _ _ (first _ _ h) (below_front k l r (second _ _ h))

  below_middle : (j k : K) (v : X) (l r : List (K × X)) → T (below_all R j (l ++ (k, v) ∷ r)) → R j k ≡ Less
  below_middle j k v [] r h = less _ (first _ _ h)
  below_middle j k v (e ∷ l) r h = below_middle j k v l r (second _ _ h)

  pub between : (l : List (K × X)) (k : K) (v : X) (r : List (K × X)) → T (is_sorted R (l ++ (k, v) ∷ r)) → IsBetween l k r
  between [] k v r s = record { under = tt; over = over_from k r (first _ _ s); left = tt; right = second _ _ s }
  between (e ∷ l) k v r s =
      let h = between l k v r (second _ _ s) in
      record { under = (below_middle e.0 k v l r (first _ _ s), h.under); over = h.over; left = both _ _ (below_front e.0 l ((k, v) ∷ r) (first _ _ s)) h.left; right = h.right }

  -- ---- a key below the entry's

  pub lower-left : (q : K) (l : List (K × X)) (k : K) (v : X) (r : List (K × X)) → IsBetween l k r → R q k ≡ Less → lower q (l ++ (k, v) ∷ r) ≡ lower q l
  lower-left q l k v r h p = filter-append _ l ((k, v) ∷ r) ∙ ap (λ rest. lower q l ++ rest) (lower-over q ((k, v) ∷ r) (p, over_less q k r p h.over)) ∙ append-nil (lower q l)

  pub upper-left : (q : K) (l : List (K × X)) (k : K) (v : X) (r : List (K × X)) → IsBetween l k r → R q k ≡ Less → upper q (l ++ (k, v) ∷ r) ≡ upper q l ++ (k, v) ∷ r
  upper-left q l k v r h p = filter-append _ l ((k, v) ∷ r) ∙ ap (λ rest. upper q l ++ rest) (upper-over q ((k, v) ∷ r) (p, over_less q k r p h.over))

  pub find-left : (q : K) (l : List (K × X)) (k : K) (v : X) (r : List (K × X)) → IsBetween l k r → R q k ≡ Less → find R q (l ++ (k, v) ∷ r) ≡ find R q l
  find-left q l k v r h p = find-earlier q l ((k, v) ∷ r) (p, over_less q k r p h.over)

  -- ---- a key above it

  pub lower-right : (q : K) (l : List (K × X)) (k : K) (v : X) (r : List (K × X)) → IsBetween l k r → R q k ≡ Greater → lower q (l ++ (k, v) ∷ r) ≡ l ++ (k, v) ∷ lower q r
  lower-right q l k v r h p =
      let p' = turn_back o q k p in
      filter-append _ l ((k, v) ∷ r) ∙ ap (λ front. front ++ lower q ((k, v) ∷ r)) (lower-under q l (under_less k q l p' h.under)) ∙ ap (λ t. l ++ cond (is_lt t) ((k, v) ∷ lower q r) (lower q r)) p'

  pub upper-right : (q : K) (l : List (K × X)) (k : K) (v : X) (r : List (K × X)) → IsBetween l k r → R q k ≡ Greater → upper q (l ++ (k, v) ∷ r) ≡ upper q r
  upper-right q l k v r h p =
      filter-append _ l ((k, v) ∷ r) ∙ ap (λ front. front ++ upper q ((k, v) ∷ r)) (upper-under q l (under_less k q l (turn_back o q k p) h.under)) ∙ ap (λ t. cond (is_lt t) ((k, v) ∷ upper q r) (upper q r)) p

  pub find-right : (q : K) (l : List (K × X)) (k : K) (v : X) (r : List (K × X)) → IsBetween l k r → R q k ≡ Greater → find R q (l ++ (k, v) ∷ r) ≡ find R q r
  find-right q l k v r h p = find-later q l ((k, v) ∷ r) (under_less k q l (turn_back o q k p) h.under) ∙ ap (λ t. cond (is_eq t) (Some v) (find R q r)) p

  -- ---- its key

  pub lower-at : (q : K) (l : List (K × X)) (k : K) (v : X) (r : List (K × X)) → IsBetween l k r → R q k ≡ Equal → lower q (l ++ (k, v) ∷ r) ≡ l
  lower-at q l k v r h p = ap (λ j. lower j (l ++ (k, v) ∷ r)) (same q k p) ∙ filter-append _ l ((k, v) ∷ r)
      ∙ ap (λ front. front ++ lower k ((k, v) ∷ r)) (lower-under k l h.under)
      ∙ ap (λ t. l ++ cond (is_lt t) ((k, v) ∷ lower k r) (lower k r)) (tied_itself o k)
      ∙ ap (λ rest. l ++ rest) (lower-over k r h.over) ∙ append-nil l

  pub upper-at : (q : K) (l : List (K × X)) (k : K) (v : X) (r : List (K × X)) → IsBetween l k r → R q k ≡ Equal → upper q (l ++ (k, v) ∷ r) ≡ r
  upper-at q l k v r h p = ap (λ j. upper j (l ++ (k, v) ∷ r)) (same q k p) ∙ filter-append _ l ((k, v) ∷ r)
      ∙ ap (λ front. front ++ upper k ((k, v) ∷ r)) (upper-under k l h.under)
      ∙ ap (λ t. cond (is_lt t) ((k, v) ∷ upper k r) (upper k r)) (tied_itself o k)
      ∙ upper-over k r h.over

  pub find-at : (q : K) (l : List (K × X)) (k : K) (v : X) (r : List (K × X)) → IsBetween l k r → R q k ≡ Equal → find R q (l ++ (k, v) ∷ r) ≡ Some v
  find-at q l k v r h p = ap (λ j. find R j (l ++ (k, v) ∷ r)) (same q k p) ∙ find-later k l ((k, v) ∷ r) h.under ∙ ap (λ t. cond (is_eq t) (Some v) (find R k r)) (tied_itself o k)

  -- ---- the whole from its parts

  pub put-parts : (k : K) (v : X) (es : List (K × X)) → T (is_sorted R es) → lower k es ++ (k, v) ∷ upper k es ≡ put R k v es
  put-parts k v [] s = refl
  put-parts k v (e ∷ es) s =
      let h = over_from e.0 es (first _ _ s) in
      elim (R k e.0) as (λ t. R k e.0 ≡ t → lower k (e ∷ es) ++ (k, v) ∷ upper k (e ∷ es) ≡ by_order t ((k, v) ∷ e ∷ es) ((e.0, v) ∷ es) (e ∷ put R k v es)) [
        | Less ↦ λ p. let w = over_less k e.0 es p h in (λ i. lower-over k (e ∷ es) (p, w) i ++ (k, v) ∷ upper-over k (e ∷ es) (p, w) i)
        | Equal ↦ λ p. let b = between [] e.0 e.1 es s in (λ i. lower-at k [] e.0 e.1 es b p i ++ (same k e.0 p i, v) ∷ upper-at k [] e.0 e.1 es b p i)
        | Greater ↦ λ p. let b = between [] e.0 e.1 es s in (λ i. lower-right k [] e.0 e.1 es b p i ++ (k, v) ∷ upper-right k [] e.0 e.1 es b p i) ∙ ap (λ rest. e ∷ rest) (put-parts k v es (second _ _ s))
      ] refl

  pub others-parts : (k : K) (es : List (K × X)) → T (is_sorted R es) → lower k es ++ upper k es ≡ others k es
  others-parts k [] s = refl
  others-parts k (e ∷ es) s =
      let h = over_from e.0 es (first _ _ s) in
      elim (R k e.0) as (λ t. R k e.0 ≡ t → lower k (e ∷ es) ++ upper k (e ∷ es) ≡ cond (not (is_eq t)) (e ∷ others k es) (others k es)) [
        | Less ↦ λ p. let w = over_less k e.0 es p h in (λ i. lower-over k (e ∷ es) (p, w) i ++ upper-over k (e ∷ es) (p, w) i) ∙ ap (λ rest. e ∷ rest) (sym (others-over k es w))
        | Equal ↦ λ p. let b = between [] e.0 e.1 es s in (λ i. lower-at k [] e.0 e.1 es b p i ++ upper-at k [] e.0 e.1 es b p i) ∙ sym (others-over k es (subst (λ j. Over j es) (sym (same k e.0 p)) h))
        | Greater ↦ λ p. let b = between [] e.0 e.1 es s in (λ i. lower-right k [] e.0 e.1 es b p i ++ upper-right k [] e.0 e.1 es b p i) ∙ ap (λ rest. e ∷ rest) (others-parts k es (second _ _ s))
      ] refl
