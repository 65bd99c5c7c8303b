-- The pieces that stand in a text are those that are read.
use Rattle.std.proofs.Common.{◌≡◌, ◌≢◌, ℕ, Bool, true, false, not, ◌&&◌, ◌||◌, List, [], ◌∷◌, ◌++◌, refl, ap, sym, ◌∙◌, subst, arith}
use Rattle.std.specs.List.{list_all}
use Rattle.std.proofs.lemmas.Bool.{false≢true}
use Rattle.std.proofs.lemmas.List.{append-nil}
use Rattle.px_sql.specs.Spelling.{is_space, is_part, is_run, is_piece, is_empty, are_apart, Written, last, more}
use Rattle.px_sql.specs.Reading.{begins_with_part, begins_with_space, ends_with_space, is_trimmed, with_byte, pieces_of}
use Rattle.px_sql.proofs.Runs.{part_no_space, space_no_part, alone, in_front, piece_on}
use Rattle.px_sql.proofs.Truths.{and_first, and_second, not_both, or_false}

-- ---- what is written is read

-- a written text begins with its first piece
pub record Begins (piece text : List ℕ) : Type 0 where
  rest : List ℕ
  same : text ≡ piece ++ rest
  whole : is_piece piece ≡ true

pub begins : (piece : List ℕ) (pieces : List (List ℕ)) (text : List ℕ) → Written (piece ∷ pieces) text → Begins piece text
begins piece pieces text (last h) = record { rest = []; same = sym (append-nil _); whole = h }
begins piece pieces text (more first gap next rest h g a e w) = record { rest = gap ++ rest; same = e; whole = h }

gap_gone : (gap rest : List ℕ) → list_all is_space gap ≡ true → pieces_of (gap ++ rest) ≡ pieces_of rest
gap_gone [] rest h = refl
gap_gone (byte ∷ gap) rest h =
    let s : is_space byte ≡ true = and_first (is_space byte) (list_all is_space gap) h in
    rw s (gap_gone gap rest (and_second (is_space byte) (list_all is_space gap) h))

-- a piece that is no run begins with no part
no_part : (piece rest : List ℕ) → is_piece piece ≡ true → is_run piece ≡ false → begins_with_part (piece ++ rest) ≡ false
no_part [] rest h r = absurd (false≢true h)
no_part (byte ∷ []) rest h r = grind (arith, h, r)
no_part (byte ∷ next ∷ bytes) rest h r = absurd (false≢true (sym r ∙ or_false (is_run (byte ∷ next ∷ bytes)) h))
  where
    no_or : (a : Bool) → a ≡ false → (a || false) ≡ true → true ≡ false
    no_or true r h = r
    no_or false r h = sym h

apart_runs : (run : Bool) → not (true && run && true) ≡ true → run ≡ false
apart_runs true h = absurd (false≢true h)
apart_runs false h = refl

begins_apart : (piece gap next rest : List ℕ) (pieces : List (List ℕ)) → list_all is_space gap ≡ true → are_apart piece gap next ≡ true → Written (next ∷ pieces) rest → is_run piece ≡ true → begins_with_part (gap ++ rest) ≡ false
begins_apart piece [] next rest pieces g a w r =
    let b : Begins next rest = begins next pieces rest w in
    let other : is_run next ≡ false = apart_runs (is_run next) (subst (λ (q : Bool). not (q && is_run next && true) ≡ true) r a) in
    ap begins_with_part b.same ∙ no_part next b.rest b.whole other
begins_apart piece (byte ∷ gap) next rest pieces g a w r = space_no_part byte (and_first (is_space byte) (list_all is_space gap) g)

pub pieces_written : (pieces : List (List ℕ)) (text : List ℕ) → Written pieces text → pieces_of text ≡ pieces
pieces_written pieces text (last h) = ap pieces_of (sym (append-nil text)) ∙ piece_on text [] h (λ r. refl)
pieces_written pieces text (more first gap next rest h g a e w) =
    ap pieces_of e ∙ piece_on first (gap ++ rest) h (begins_apart first gap next rest _ g a w)
    ∙ ap (λ (ps : List (List ℕ)). first ∷ ps) (gap_gone gap rest g ∙ pieces_written _ rest w)

-- ---- no space at either end

ends_behind : (space : Bool) (xs ys : List ℕ) → ends_with_space space (xs ++ ys) ≡ ends_with_space (ends_with_space space xs) ys
ends_behind space [] ys = refl
ends_behind space (x ∷ xs) ys = ends_behind (is_space x) xs ys

ends_run : (bytes : List ℕ) (space : Bool) → space ≡ false → list_all is_part bytes ≡ true → ends_with_space space bytes ≡ false
ends_run [] space s h = s
ends_run (byte ∷ bytes) space s h = ends_run bytes (is_space byte) (part_no_space byte (and_first (is_part byte) (list_all is_part bytes) h)) (and_second (is_part byte) (list_all is_part bytes) h)

piece_spaceless : (byte : ℕ) (bytes : List ℕ) → is_piece (byte ∷ bytes) ≡ true → is_space byte ≡ false
piece_spaceless byte [] h = grind (arith, h)
piece_spaceless byte (next ∷ bytes) h = part_no_space byte (and_first (is_part byte) (list_all is_part (next ∷ bytes)) (or_false (is_run (byte ∷ next ∷ bytes)) h))
  where
    or_false : (a : Bool) → (a || false) ≡ true → a ≡ true
    or_false true h = refl
    or_false false h = h

ends_piece : (space : Bool) (piece : List ℕ) → is_piece piece ≡ true → ends_with_space space piece ≡ false
ends_piece space [] h = absurd (false≢true h)
ends_piece space (byte ∷ []) h = piece_spaceless byte [] h
ends_piece space (byte ∷ next ∷ bytes) h =
    let run : is_run (byte ∷ next ∷ bytes) ≡ true = or_false (is_run (byte ∷ next ∷ bytes)) h in
    ends_run (next ∷ bytes) (is_space byte) (piece_spaceless byte (next ∷ bytes) h) (and_second (is_part byte) (list_all is_part (next ∷ bytes)) run)
  where
    or_false : (a : Bool) → (a || false) ≡ true → a ≡ true
    or_false true h = refl
    or_false false h = h

ends_written : (pieces : List (List ℕ)) (text : List ℕ) → Written pieces text → (space : Bool) → ends_with_space space text ≡ false
ends_written pieces text (last h) space = ends_piece space text h
ends_written pieces text (more first gap next rest h g a e w) space =
    ap (ends_with_space space) e ∙ ends_behind space first (gap ++ rest) ∙ ends_behind (ends_with_space space first) gap rest ∙ ends_written _ rest w _

begins_spaceless : (piece rest : List ℕ) → is_piece piece ≡ true → begins_with_space (piece ++ rest) ≡ false
begins_spaceless [] rest h = absurd (false≢true h)
begins_spaceless (byte ∷ bytes) rest h = piece_spaceless byte bytes h

begins_written : (pieces : List (List ℕ)) (text : List ℕ) → Written pieces text → begins_with_space text ≡ false
begins_written pieces text (last h) = ap begins_with_space (sym (append-nil text)) ∙ begins_spaceless text [] h
begins_written pieces text (more first gap next rest h g a e w) = ap begins_with_space e ∙ begins_spaceless first (gap ++ rest) h

pub trimmed_written : (pieces : List (List ℕ)) (text : List ℕ) → Written pieces text → is_trimmed text ≡ true
trimmed_written pieces text w =
    let b : begins_with_space text ≡ false = begins_written pieces text w in
    let e : ends_with_space false text ≡ false = ends_written pieces text w false in
    rw (b, e) refl

-- ---- what is read is written

run_from_part : (piece rest : List ℕ) → is_piece piece ≡ true → begins_with_part (piece ++ rest) ≡ true → is_run piece ≡ true
run_from_part [] rest h b = absurd (false≢true h)
run_from_part (byte ∷ []) rest h b = rw b refl
run_from_part (byte ∷ next ∷ bytes) rest h b = or_false (is_run (byte ∷ next ∷ bytes)) h

run_longer : (byte : ℕ) (piece : List ℕ) → is_part byte ≡ true → is_run piece ≡ true → is_run (byte ∷ piece) ≡ true
run_longer byte [] p r = absurd (false≢true r)
run_longer byte (next ∷ bytes) p r = rw p r

piece_from_run : (piece : List ℕ) → is_run piece ≡ true → is_piece piece ≡ true
piece_from_run piece r = rw r refl

-- one byte more of the first piece
extended : (byte : ℕ) (pieces : List (List ℕ)) (text : List ℕ) → is_part byte ≡ true → begins_with_part text ≡ true → Written pieces text → Written (with_byte byte pieces) (byte ∷ text)
extended byte pieces text p b (last h) =
    last (piece_from_run (byte ∷ text) (run_longer byte text p (run_from_part text [] h (ap begins_with_part (append-nil text) ∙ b))))
extended byte pieces text p b (more first gap next rest h g a e w) =
    let run : is_run first ≡ true = run_from_part first (gap ++ rest) h (sym (ap begins_with_part e) ∙ b) in
    let longer : is_run (byte ∷ first) ≡ true = run_longer byte first p run in
    let apart : are_apart (byte ∷ first) gap next ≡ true = subst (λ (q : Bool). not (q && is_run next && is_empty gap) ≡ true) (run ∙ sym longer) a in
    more (byte ∷ first) gap next rest (piece_from_run (byte ∷ first) longer) g apart (ap (λ (bs : List ℕ). byte ∷ bs) e) w

record Starts (pieces : List (List ℕ)) : Type 0 where
  first : List ℕ
  others : List (List ℕ)
  pieces_are : pieces ≡ first ∷ others

starts : (pieces : List (List ℕ)) (text : List ℕ) → Written pieces text → Starts pieces
starts pieces text (last h) = record { first = text; others = []; pieces_are = refl }
starts pieces text (more first gap next rest h g a e w) = record { first = first; others = _; pieces_are = refl }

-- a byte that is a piece alone stands apart from what follows
apart_by : (part : Bool) (byte : ℕ) (after rest gap next others : List ℕ) (pieces : List (List ℕ)) → is_part byte ≡ part → (is_part byte && begins_with_part after) ≡ false → after ≡ gap ++ rest → Written (next ∷ pieces) rest → are_apart (byte ∷ []) gap next ≡ true
apart_by false byte after rest gap next others pieces p h e w = rw p refl
apart_by true byte after rest [] next others pieces p h e w =
    let b : Begins next rest = begins next pieces rest w in
    let no : begins_with_part after ≡ false = subst (λ (q : Bool). (q && begins_with_part after) ≡ false) p h in
    let other : is_run next ≡ false = no_run next b.rest b.whole (sym (ap begins_with_part (e ∙ b.same)) ∙ no) in
    rw (p, other) refl
  where
    no_run : (piece rest : List ℕ) → is_piece piece ≡ true → begins_with_part (piece ++ rest) ≡ false → is_run piece ≡ false
    no_run [] rest h b = refl
    no_run (byte ∷ bytes) rest h b = rw b refl
apart_by true byte after rest (space ∷ gap) next others pieces p h e w =
    let none : ((is_part byte && true) && is_run next && false) ≡ false = rw p (not_both (is_run next)) in
    ap not none

record Placed (text : List ℕ) : Type 0 where
  gap : List ℕ
  rest : List ℕ
  same : text ≡ gap ++ rest
  spaces : list_all is_space gap ≡ true
  written : Written (pieces_of text) rest
  front : begins_with_space text ≡ false → gap ≡ []

single_piece : (byte : ℕ) → is_space byte ≡ false → is_piece (byte ∷ []) ≡ true
single_piece byte s = by_part (is_part byte) (is_space byte) s
  where
    by_part : (p s : Bool) → s ≡ false → ((p && true) || (not p && not s)) ≡ true
    by_part true s e = refl
    by_part false s e = ap not e

placed_space : (byte : ℕ) (text : List ℕ) → is_space byte ≡ true → Placed text → Placed (byte ∷ text)
placed_space byte text s on = record {
  gap = byte ∷ on.gap;
  rest = on.rest;
  same = ap (λ (bs : List ℕ). byte ∷ bs) on.same;
  spaces = rw s on.spaces;
  written = rw s on.written;
  front = λ f. absurd (false≢true (sym f ∙ s));
}

placed_part : (byte : ℕ) (text : List ℕ) → is_part byte ≡ true → begins_with_part text ≡ true → begins_with_space text ≡ false → Placed text → Placed (byte ∷ text)
placed_part byte text p b s on =
    let whole : text ≡ on.rest = on.same ∙ ap (λ (g : List ℕ). g ++ on.rest) (on.front s) in
    let w : Written (pieces_of text) text = subst (λ (t : List ℕ). Written (pieces_of text) t) (sym whole) on.written in
    record {
      gap = [];
      rest = byte ∷ text;
      same = refl;
      spaces = refl;
      written = subst (λ (ps : List (List ℕ)). Written ps (byte ∷ text)) (sym (in_front byte text p b)) (extended byte (pieces_of text) text p b w);
      front = λ f. refl;
    }

placed_alone : (byte : ℕ) (text : List ℕ) → is_space byte ≡ false → (is_part byte && begins_with_part text) ≡ false → Placed text → Placed (byte ∷ text)
placed_alone byte text s p on =
    let at : Starts (pieces_of text) = starts (pieces_of text) on.rest on.written in
    let w : Written (at.first ∷ at.others) on.rest = subst (λ (ps : List (List ℕ)). Written ps on.rest) at.pieces_are on.written in
    let whole : Written ((byte ∷ []) ∷ at.first ∷ at.others) (byte ∷ text) =
    more (byte ∷ []) on.gap at.first on.rest (single_piece byte s) on.spaces (apart_by (is_part byte) byte text on.rest on.gap at.first [] at.others refl p on.same w) (ap (λ (bs : List ℕ). byte ∷ bs) on.same) w in
    record {
      gap = [];
      rest = byte ∷ text;
      same = refl;
      spaces = refl;
      written = subst (λ (ps : List (List ℕ)). Written ps (byte ∷ text)) (sym (alone byte text s p ∙ ap (λ (ps : List (List ℕ)). (byte ∷ []) ∷ ps) at.pieces_are)) whole;
      front = λ f. refl;
    }

part_spaceless : (text : List ℕ) → begins_with_part text ≡ true → begins_with_space text ≡ false
part_spaceless [] b = refl
part_spaceless (byte ∷ bytes) b = part_no_space byte b

placed_by : (space joined : Bool) (byte : ℕ) (text : List ℕ) → is_space byte ≡ space → (is_part byte && begins_with_part text) ≡ joined → Placed text → Placed (byte ∷ text)
placed_by true joined byte text s j on = placed_space byte text s on
placed_by false true byte text s j on =
    let b : begins_with_part text ≡ true = and_second (is_part byte) (begins_with_part text) j in
    placed_part byte text (and_first (is_part byte) (begins_with_part text) j) b (part_spaceless text b) on
placed_by false false byte text s j on = placed_alone byte text s j on

placed : (byte : ℕ) (bytes : List ℕ) → ends_with_space (is_space byte) bytes ≡ false → Placed (byte ∷ bytes)
placed byte [] h = record {
  gap = [];
  rest = byte ∷ [];
  same = refl;
  spaces = refl;
  written = subst (λ (ps : List (List ℕ)). Written ps (byte ∷ [])) (sym (alone byte [] h (not_both (is_part byte)))) (last (single_piece byte h));
  front = λ f. refl;
}
placed byte (next ∷ bytes) h = placed_by (is_space byte) (is_part byte && is_part next) byte (next ∷ bytes) refl refl (placed next bytes h)

pub written_pieces : (text : List ℕ) → text ≢ [] → is_trimmed text ≡ true → Written (pieces_of text) text
written_pieces [] some h = absurd (some refl)
written_pieces (byte ∷ bytes) some h =
    let s : is_space byte ≡ false = not_true (is_space byte) (and_first (not (is_space byte)) _ h) in
    let e : ends_with_space (is_space byte) bytes ≡ false = not_true _ (and_second (not (is_space byte)) _ h) in
    let on : Placed (byte ∷ bytes) = placed byte bytes e in
    subst (λ (t : List ℕ). Written (pieces_of (byte ∷ bytes)) t) (sym (on.same ∙ ap (λ (g : List ℕ). g ++ on.rest) (on.front s))) on.written
  where
    not_true : (t : Bool) → not t ≡ true → t ≡ false
    not_true true h = absurd (false≢true h)
    not_true false h = refl
