-- The words that are read are those that are spelled.
use Rattle.std.proofs.Common.{◌≡◌, ℕ, ◌==◌, Bool, true, false, not, ◌||◌, List, [], ◌∷◌, ◌++◌, inl, inr, Option, Some, None, if◌then◌else◌, refl, ap, sym, ◌∙◌, subst, arith}
use Rattle.std.specs.List.{list_all, AllByRecursion}
use Rattle.std.specs.Option.{is_some, option_map}
use Rattle.std.proofs.lemmas.Bool.{false≢true}
use Rattle.px_job.specs.Lines.{begins_with, with_byte}
use Rattle.px_job.specs.Words.{place_after, is_between, words_from, words_of}
use Rattle.px_job.specs.Texts.{escaped_byte, stepped, text_from}
use Rattle.px_job.specs.declared.texts.Step.TheVariants.{Byte, Backslash, Close, Broken}
use Rattle.px_job.proofs.WordsCut.{goes_on_here, ends_here, ended_begun}
use Rattle.px_job.specs.Spelling.{is_space, IsWord, Stops, Spelled, nothing, space, word, WordsAreSpelled}
use Rattle.px_job.specs.declared.words.Place.{Place}
use Rattle.px_job.specs.declared.words.Place.TheVariants.{Between, Plain, Quoted, Escaped}

-- a word that stops here
stops_here : (rest : List ℕ) → Stops rest → words_from Plain rest ≡ [] ∷ words_of rest
stops_here [] h = refl
stops_here (byte ∷ rest) (inl e) = cc
stops_here (byte ∷ rest) (inr e) = grind (arith, e)

-- the rest of a plain word
plain_on : (bytes rest : List ℕ) → list_all (λ other. not (is_space other)) bytes ≡ true → Stops rest → words_from Plain (bytes ++ rest) ≡ bytes ∷ words_of rest
plain_on [] rest h s = stops_here rest s
plain_on (byte ∷ bytes) rest h s =
    let on : words_from Plain (bytes ++ rest) ≡ bytes ∷ words_of rest = plain_on bytes rest (grind (arith, h)) s in
    let no : (byte == 32) ≡ false = grind (arith, h) in
    rw no (ap (with_byte byte) on)

-- a byte of a text in front
byte_some : (byte : ℕ) (text : Option (List ℕ)) → is_some (option_map (λ more. byte ∷ more) text) ≡ true → is_some text ≡ true
byte_some byte None h = h
byte_some byte (Some more) h = refl

-- an escape is followed by the rest of the text
escape_some : (byte : ℕ) (rest : List ℕ) (other text : Option (List ℕ)) → is_some (stepped (escaped_byte byte) rest other text) ≡ true → is_some text ≡ true
escape_some byte rest other text h =
    elim (byte == 110) as (λ n. is_some (stepped (if n then Byte 10 else if byte == 116 then Byte 9 else if (byte == 34) || (byte == 92) then Byte byte else Broken) rest other text) ≡ true → is_some text ≡ true) [
      | true ↦ byte_some 10 text
      | false ↦ elim (byte == 116) as (λ t. is_some (stepped (if t then Byte 9 else if (byte == 34) || (byte == 92) then Byte byte else Broken) rest other text) ≡ true → is_some text ≡ true) [
        | true ↦ byte_some 9 text
        | false ↦ elim ((byte == 34) || (byte == 92)) as (λ s. is_some (stepped (if s then Byte byte else Broken) rest other text) ≡ true → is_some text ≡ true) [ true ↦ byte_some byte text | false ↦ (λ q. absurd (false≢true q)) ]
      ]
    ] h

-- a quote that closes the text
closes : (bytes rest : List ℕ) (other text : Option (List ℕ)) → is_some (stepped Close bytes other text) ≡ true → Stops rest → words_from Plain (bytes ++ rest) ≡ bytes ∷ words_of rest
closes [] rest other text h s = stops_here rest s
closes (byte ∷ bytes) rest other text h s = absurd (false≢true h)

abbrev place_in : Bool → Place
place_in true = Escaped
place_in false = Quoted

-- the rest of a text
text_on : (escaped : Bool) (bytes rest : List ℕ) → is_some (text_from escaped bytes) ≡ true → Stops rest → words_from (place_in escaped) (bytes ++ rest) ≡ bytes ∷ words_of rest
text_on escaped [] rest h s = absurd (false≢true h)
text_on true (byte ∷ bytes) rest h s = ap (with_byte byte) (text_on false bytes rest (escape_some byte bytes (text_from true bytes) (text_from false bytes) h) s)
text_on false (byte ∷ bytes) rest h s =
    elim (byte == 34) as (λ q. is_some (stepped (if q then Close else if byte == 92 then Backslash else Byte byte) bytes (text_from true bytes) (text_from false bytes)) ≡ true → (if is_between (if q then Plain else if byte == 92 then Escaped else Quoted) then [] ∷ words_from Between (bytes ++ rest) else with_byte byte (words_from (if q then Plain else if byte == 92 then Escaped else Quoted) (bytes ++ rest))) ≡ (byte ∷ bytes) ∷ words_of rest) [
      | true ↦ (λ k. ap (with_byte byte) (closes bytes rest (text_from true bytes) (text_from false bytes) k s))
      | false ↦ elim (byte == 92) as (λ b. is_some (stepped (if b then Backslash else Byte byte) bytes (text_from true bytes) (text_from false bytes)) ≡ true → (if is_between (if b then Escaped else Quoted) then [] ∷ words_from Between (bytes ++ rest) else with_byte byte (words_from (if b then Escaped else Quoted) (bytes ++ rest))) ≡ (byte ∷ bytes) ∷ words_of rest) [
        | true ↦ (λ k. ap (with_byte byte) (text_on true bytes rest k s))
        | false ↦ (λ k. ap (with_byte byte) (text_on false bytes rest (byte_some byte (text_from false bytes) k) s))
      ]
    ] h

-- a whole word
word_by : (quoted : Bool) (byte : ℕ) (bytes rest : List ℕ) → (byte == 34) ≡ quoted → IsWord (byte ∷ bytes) → Stops rest → words_of (byte ∷ (bytes ++ rest)) ≡ (byte ∷ bytes) ∷ words_of rest
word_by true byte bytes rest e h s =
    let no : (byte == 32) ≡ false = grind (arith, e) in
    let some : is_some (text_from false bytes) ≡ true = grind (arith, e, h) in
    rw (no, e) (ap (with_byte byte) (text_on false bytes rest some s))
word_by false byte bytes rest e h s =
    let no : (byte == 32) ≡ false = grind (arith, e, h) in
    let all : list_all (λ other. not (is_space other)) bytes ≡ true = grind (arith, e, h) in
    rw (no, e) (ap (with_byte byte) (plain_on bytes rest all s))

word_whole : (word rest : List ℕ) → IsWord word → Stops rest → words_of (word ++ rest) ≡ word ∷ words_of rest
word_whole [] rest h s = absurd (false≢true h)
word_whole (byte ∷ bytes) rest h s = word_by (byte == 34) byte bytes rest refl h s

-- what is spelled is read
complete : (words : List (List ℕ)) (line : List ℕ) → Spelled words line → words_of line ≡ words
complete words line nothing = refl
complete words line (space spelled) = complete _ _ spelled
complete words line (word first rest whole is stops e spelled) = ap words_of e ∙ word_whole first rest is stops ∙ ap (λ (more : List (List ℕ)). first ∷ more) (complete _ rest spelled)

-- only a space leads between words
leads_between : (place : Place) (byte : ℕ) → is_between (place_after place byte) ≡ true → begins_with 32 (byte ∷ []) ≡ true
leads_between Between byte h = grind (arith, h)
leads_between Plain byte h = grind (arith, h)
leads_between Quoted byte h = grind (arith, h)
leads_between Escaped byte h = absurd (false≢true h)

-- where words are read, they are spelled
abbrev Reads : List ℕ → Type 0
Reads line = (words : List (List ℕ)) → AllByRecursion IsWord words → words_of line ≡ words → Spelled words line

-- the end of a word that has begun, and the words behind it
record Begun (place : Place) (line : List ℕ) : Type 0 where
  front : List ℕ
  rest : List ℕ
  same : line ≡ front ++ rest
  stops : Stops rest
  words : words_from place line ≡ front ∷ words_of rest
  reads : Reads rest

abbrev Goes : List ℕ → Type 0
Goes line = (place : Place) → is_between place ≡ false → Begun place line

reads_space : (byte : ℕ) (line : List ℕ) → (byte == 32) ≡ true → Reads line → Reads (byte ∷ line)
reads_space byte line e reads words all h =
    let is : byte ≡ 32 = grind (arith, e) in
    let same : words_of line ≡ words = ap (λ (b : ℕ). words_of (b ∷ line)) (sym is) ∙ h in
    subst (λ (b : ℕ). Spelled words (b ∷ line)) (sym is) (space (reads words all same))

reads_word : (byte : ℕ) (line : List ℕ) (place : Place) → place ≡ place_after Between byte → is_between place ≡ false → Begun place line → Reads (byte ∷ line)
reads_word byte line place e f begun words all h =
    let own : words_of (byte ∷ line) ≡ (byte ∷ begun.front) ∷ words_of begun.rest = goes_on_here Between place byte line e f ∙ ap (with_byte byte) begun.words in
    let is : (byte ∷ begun.front) ∷ words_of begun.rest ≡ words = sym own ∙ h in
    let all_own : AllByRecursion IsWord ((byte ∷ begun.front) ∷ words_of begun.rest) = subst (λ (ws : List (List ℕ)). AllByRecursion IsWord ws) (sym is) all in
    subst (λ (ws : List (List ℕ)). Spelled ws (byte ∷ line)) is (word (byte ∷ begun.front) begun.rest (byte ∷ line) all_own.0 begun.stops (ap (λ (bs : List ℕ). byte ∷ bs) begun.same) (begun.reads (words_of begun.rest) all_own.1 refl))

reads_by : (spaced : Bool) (byte : ℕ) (line : List ℕ) → is_between (place_after Between byte) ≡ spaced → Reads line → Goes line → Reads (byte ∷ line)
reads_by true byte line e reads goes = reads_space byte line (leads_between Between byte e) reads
reads_by false byte line e reads goes = reads_word byte line (place_after Between byte) refl e (goes (place_after Between byte) e)

goes_by : (ends : Bool) (place : Place) (byte : ℕ) (line : List ℕ) → is_between (place_after place byte) ≡ ends → is_between place ≡ false → Reads (byte ∷ line) → Goes line → Begun place (byte ∷ line)
goes_by true place byte line e f reads goes = record {
  front = [];
  rest = byte ∷ line;
  same = refl;
  stops = inr (leads_between place byte e);
  words = ends_here place byte line e ∙ ended_begun place _ f;
  reads = reads;
}
goes_by false place byte line e f reads goes =
    let begun : Begun (place_after place byte) line = goes (place_after place byte) e in
    record {
      front = byte ∷ begun.front;
      rest = begun.rest;
      same = ap (λ (bs : List ℕ). byte ∷ bs) begun.same;
      stops = begun.stops;
      words = goes_on_here place (place_after place byte) byte line refl e ∙ ap (with_byte byte) begun.words;
      reads = begun.reads;
    }

reads_nothing : Reads []
reads_nothing words all h = subst (λ (ws : List (List ℕ)). Spelled ws []) h nothing

sound_all : (line : List ℕ) → Reads line × Goes line
sound_all [] = (reads_nothing, λ place f. record { front = []; rest = []; same = refl; stops = inl refl; words = ended_begun place [] f; reads = reads_nothing })
sound_all (byte ∷ line) =
    let more : Reads line × Goes line = sound_all line in
    let reads : Reads (byte ∷ line) = reads_by (is_between (place_after Between byte)) byte line refl more.0 more.1 in
    (reads, λ place f. goes_by (is_between (place_after place byte)) place byte line refl f reads more.1)

pub words_are_spelled : WordsAreSpelled
words_are_spelled line words = (complete words line, (sound_all line).0 words)
