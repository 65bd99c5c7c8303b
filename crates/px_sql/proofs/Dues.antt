-- What is behind the commas of a list.
use Rattle.std.proofs.Common.{◌≡◌, ℕ, ◌*◌, Bool, true, false, List, [], ◌∷◌, ◌++◌, length, map, drop, suc, refl, ap, sym, ◌∙◌, subst, arith}
use Rattle.std.specs.List.{list_all}
use Rattle.std.specs.Str.{bytes_eq}
use Rattle.std.specs.Cmp.Lexicographic.{same_text}
use Rattle.std.proofs.lemmas.Bool.{false≢true}
use Rattle.std.proofs.lemmas.List.{append_assoc}
use Rattle.px_sql.specs.declared.spelling.Word.{Word}
use Rattle.px_sql.specs.declared.spelling.Word.TheVariants.{Keyword, Name, Sign}
use Rattle.px_sql.specs.declared.spelling.Keyword.TheVariants.{Select, From, Where, Order, By, Update, Set, Insert, Into, Values, Delete}
use Rattle.px_sql.specs.declared.spelling.Sign.TheVariants.{Comma, Equal, Mark, Open, Close}
use Rattle.px_sql.specs.Words.{behind_commas, separated}
use Rattle.px_sql.specs.Spelling.{is_sign, is_identifier, fits, fit}
use Rattle.px_sql.specs.Reading.{due_pieces}
use Rattle.px_sql.proofs.Truths.{and_first, and_second}

-- pieces that fit one word and more
pub record Fits (word : Word) (words : List Word) (pieces : List (List ℕ)) : Type 0 where
  pub piece : List ℕ
  pub others : List (List ℕ)
  pub pieces_are : pieces ≡ piece ∷ others
  pub first : fits word piece ≡ true
  pub more : fit words others ≡ true

pub parts : (word : Word) (words : List Word) (pieces : List (List ℕ)) → fit (word ∷ words) pieces ≡ true → Fits word words pieces
parts word words [] h = absurd (false≢true h)
parts word words (piece ∷ others) h = record {
  piece = piece;
  others = others;
  pieces_are = refl;
  first = and_first (fits word piece) (fit words others) h;
  more = and_second (fits word piece) (fit words others) h;
}

pub fit_length : (words : List Word) (pieces : List (List ℕ)) → fit words pieces ≡ true → length pieces ≡ length words
fit_length [] [] h = refl
fit_length [] (piece ∷ pieces) h = absurd (false≢true h)
fit_length (word ∷ words) [] h = absurd (false≢true h)
fit_length (word ∷ words) (piece ∷ pieces) h = ap suc (fit_length words pieces (and_second (fits word piece) (fit words pieces) h))

pub fit_behind : (front words : List Word) (pieces : List (List ℕ)) → fit (front ++ words) pieces ≡ true → fit words (drop (length front) pieces) ≡ true
fit_behind [] words pieces h = h
fit_behind (word ∷ front) words [] h = absurd (false≢true h)
fit_behind (word ∷ front) words (piece ∷ pieces) h = fit_behind front words pieces (and_second (fits word piece) (fit (front ++ words) pieces) h)

pub name_is : (name piece : List ℕ) → fits (Name name) piece ≡ true → piece ≡ name
name_is name piece h = sym (same_text name piece (sym (and_first (bytes_eq name piece) (is_identifier piece) h)))

-- a word that is no comma
abbrev pub is_quiet : Word → Bool
is_quiet (Sign Comma) = false
is_quiet word = true

no_comma_by : (word : Word) → is_quiet word ≡ true → fits word (44 ∷ []) ≡ true → false ≡ true
no_comma_by (Keyword Select) q h = h
no_comma_by (Keyword From) q h = h
no_comma_by (Keyword Where) q h = h
no_comma_by (Keyword Order) q h = h
no_comma_by (Keyword By) q h = h
no_comma_by (Keyword Update) q h = h
no_comma_by (Keyword Set) q h = h
no_comma_by (Keyword Insert) q h = h
no_comma_by (Keyword Into) q h = h
no_comma_by (Keyword Values) q h = h
no_comma_by (Keyword Delete) q h = h
no_comma_by (Name name) q h = and_second (bytes_eq name (44 ∷ [])) false h
no_comma_by (Sign Comma) q h = q
no_comma_by (Sign Equal) q h = h
no_comma_by (Sign Mark) q h = h
no_comma_by (Sign Open) q h = h
no_comma_by (Sign Close) q h = h

no_comma_at : (comma : Bool) (word : Word) (piece : List ℕ) → is_sign Comma piece ≡ comma → is_quiet word ≡ true → fits word piece ≡ true → comma ≡ false
no_comma_at false word piece c q h = refl
no_comma_at true word piece c q h =
    let is : piece ≡ 44 ∷ [] = sym (same_text (44 ∷ []) piece (sym c)) in
    absurd (false≢true (no_comma_by word q (subst (λ (p : List ℕ). fits word p ≡ true) is h)))

pub no_comma : (word : Word) (piece : List ℕ) → is_quiet word ≡ true → fits word piece ≡ true → is_sign Comma piece ≡ false
no_comma word piece q h = no_comma_at (is_sign Comma piece) word piece refl q h

-- a piece that isn't due, and is no comma, is passed over
passed : (word : Word) (piece : List ℕ) (pieces : List (List ℕ)) → is_quiet word ≡ true → fits word piece ≡ true → due_pieces false (piece ∷ pieces) ≡ due_pieces false pieces
passed word piece pieces q h = ap (λ (c : Bool). due_pieces c pieces) (no_comma word piece q h)

quiet_end : (words : List Word) (pieces : List (List ℕ)) → list_all is_quiet words ≡ true → fit words pieces ≡ true → due_pieces false pieces ≡ []
quiet_end [] [] q h = refl
quiet_end [] (piece ∷ pieces) q h = absurd (false≢true h)
quiet_end (word ∷ words) [] q h = refl
quiet_end (word ∷ words) (piece ∷ pieces) q h =
    passed word piece pieces (and_first (is_quiet word) (list_all is_quiet words) q) (and_first (fits word piece) (fit words pieces) h)
    ∙ quiet_end words pieces (and_second (is_quiet word) (list_all is_quiet words) q) (and_second (fits word piece) (fit words pieces) h)

record Behind (words : List Word) (pieces : List (List ℕ)) : Type 0 where
  rest : List (List ℕ)
  dues : due_pieces false pieces ≡ due_pieces false rest
  fit_rest : fit words rest ≡ true

behind : (quiet words : List Word) (pieces : List (List ℕ)) → list_all is_quiet quiet ≡ true → fit (quiet ++ words) pieces ≡ true → Behind words pieces
behind [] words pieces q h = record { rest = pieces; dues = refl; fit_rest = h }
behind (word ∷ quiet) words [] q h = absurd (false≢true h)
behind (word ∷ quiet) words (piece ∷ pieces) q h =
    let on : Behind words pieces = behind quiet words pieces (and_second (is_quiet word) (list_all is_quiet quiet) q) (and_second (fits word piece) (fit (quiet ++ words) pieces) h) in
    record {
      rest = on.rest;
      dues = passed word piece pieces (and_first (is_quiet word) (list_all is_quiet quiet) q) (and_first (fits word piece) (fit (quiet ++ words) pieces) h) ∙ on.dues;
      fit_rest = on.fit_rest;
    }

-- the columns of a list, each with what follows its name
abbrev pub items : (ℕ → List ℕ) → List Word → List ℕ → List (List Word)
items f extra places = map (λ c. Name (f c) ∷ extra) places

-- a name that is due, and what is behind it
due_on : (f : ℕ → List ℕ) (extra tail : List Word) (c : ℕ) (cs : List ℕ) (pieces : List (List ℕ)) → list_all is_quiet extra ≡ true → ((left : List (List ℕ)) → fit (behind_commas (items f extra cs) ++ tail) left ≡ true → due_pieces false left ≡ map f cs) → fit (Name (f c) ∷ (extra ++ (behind_commas (items f extra cs) ++ tail))) pieces ≡ true → due_pieces true pieces ≡ map f (c ∷ cs)
due_on f extra tail c cs pieces q others h =
    let at : Fits (Name (f c)) _ pieces = parts (Name (f c)) (extra ++ (behind_commas (items f extra cs) ++ tail)) pieces h in
    let on : Behind (behind_commas (items f extra cs) ++ tail) at.others = behind extra (behind_commas (items f extra cs) ++ tail) at.others q at.more in
    let rest : due_pieces false at.others ≡ map f cs = on.dues ∙ others on.rest on.fit_rest in
    ap (due_pieces true) at.pieces_are
    ∙ ap (λ (d : Bool). at.piece ∷ due_pieces d at.others) (no_comma (Name (f c)) at.piece refl at.first)
    ∙ ap (λ (ps : List (List ℕ)). at.piece ∷ ps) rest
    ∙ ap (λ (p : List ℕ). p ∷ map f cs) (name_is (f c) at.piece at.first)

due_behind : (f : ℕ → List ℕ) (extra tail : List Word) (cs : List ℕ) (pieces : List (List ℕ)) → list_all is_quiet extra ≡ true → list_all is_quiet tail ≡ true → fit (behind_commas (items f extra cs) ++ tail) pieces ≡ true → due_pieces false pieces ≡ map f cs
due_behind f extra tail [] pieces q t h = quiet_end tail pieces t h
due_behind f extra tail (c ∷ cs) pieces q t h =
    let at : Fits (Sign Comma) _ pieces = parts (Sign Comma) (((Name (f c) ∷ extra) ++ behind_commas (items f extra cs)) ++ tail) pieces h in
    let same : fit (Name (f c) ∷ (extra ++ (behind_commas (items f extra cs) ++ tail))) at.others ≡ true = ap (λ (ws : List Word). fit (Name (f c) ∷ ws) at.others) (sym (append_assoc extra (behind_commas (items f extra cs)) tail)) ∙ at.more in
    ap (due_pieces false) at.pieces_are
    ∙ ap (λ (d : Bool). due_pieces d at.others) at.first
    ∙ due_on f extra tail c cs at.others q (λ left l. due_behind f extra tail cs left q t l) same

pub dues : (f : ℕ → List ℕ) (extra tail : List Word) (c : ℕ) (cs : List ℕ) (pieces : List (List ℕ)) → list_all is_quiet extra ≡ true → list_all is_quiet tail ≡ true → fit (separated (items f extra (c ∷ cs)) ++ tail) pieces ≡ true → due_pieces true pieces ≡ map f (c ∷ cs)
dues f extra tail c cs pieces q t h =
    due_on f extra tail c cs pieces q (λ left l. due_behind f extra tail cs left q t l) (ap (λ (ws : List Word). fit (Name (f c) ∷ ws) pieces) (sym (append_assoc extra (behind_commas (items f extra cs)) tail)) ∙ h)

-- how many words a list of names has
behind_length : (f : ℕ → List ℕ) (cs : List ℕ) → length (behind_commas (items f [] cs)) ≡ 2 * length cs
behind_length f [] = refl
behind_length f (c ∷ cs) = omega (arith, behind_length f cs)

pub names_length : (f : ℕ → List ℕ) (c : ℕ) (cs : List ℕ) → suc (length (separated (items f [] (c ∷ cs)))) ≡ 2 * length (c ∷ cs)
names_length f c cs = omega (arith, behind_length f cs)
