-- Identifiers are the tokens of that kind.
use Rattle.std.proofs.Common.{◌≡◌, ℕ, Bool, true, false, not, ◌&&◌, ◌↔◌, List, [], ◌∷◌, refl, ap}
use Rattle.std.specs.List.{list_all}
use Rattle.px_lex.specs.declared.token.TokenKind.TheVariants.{Id}
use Rattle.px_lex.specs.Keywords.{is_reserved}
use Rattle.px_lex.specs.Names.{is_word, is_word_byte, is_identifier}
use Rattle.px_lex.specs.Scanning.{is_letter}
use Rattle.px_lex.specs.Lexical.{IsWord, IsToken}

of_both : (a b : Bool) → (a && b) ≡ true → (a ≡ true) × (b ≡ true)
of_both true true h = (refl, refl)
of_both true false h = cc
of_both false b h = cc

not_true : (b : Bool) → not b ≡ true → b ≡ false
not_true false h = refl
not_true true h = cc

word_is : (word : List ℕ) → IsWord word → is_word word ≡ true
word_is [] h = elim h [ ]
word_is (b ∷ bs) h = rw (h.0) (h.1)

is_a_word : (word : List ℕ) → is_word word ≡ true → IsWord word
is_a_word [] h = cc
is_a_word (b ∷ bs) h = of_both (is_letter b) (list_all is_word_byte bs) h

pub identifiers : (word : List ℕ) → IsToken Id word ↔ (is_identifier word ≡ true)
unfolding is_identifier
identifiers word = (
  λ t. rw (word_is word t.0) (ap not t.1),
  λ h. let i = of_both (is_word word) (not (is_reserved word)) h in (is_a_word word i.0, not_true (is_reserved word) i.1),
)
