-- A print is told by its six first words, or by their roles.
use Rattle.std.proofs.Common.{◌≡◌, Bool, true, false, List, [], ◌∷◌, Some, map, refl, sym, ap, ◌∙◌}
use Rattle.px_words.specs.declared.lexeme.Lexeme.{Lexeme}
use Rattle.px_words.specs.declared.lexeme.Word.{Word}
use Rattle.px_words.specs.declared.lexeme.Word.TheVariants as w
use Rattle.px_accept.specs.declared.role.Role.{Role}
use Rattle.px_accept.specs.declared.role.Role.TheVariants as r
use Rattle.px_accept.specs.declared.role.Spelling.TheVariants as s
use Rattle.px_accept.specs.Grammar.{begins_print}
use Rattle.px_parse.specs.Grammar.{is_print, words_of}
use Rattle.px_words.specs.Roles.{role_of, roles_of}
use Rattle.px_parse.proofs.RolesOf.{only_word, word_is}

roles_by_words : (xs : List Lexeme) → roles_of xs ≡ map role_of (words_of xs)
roles_by_words [] = refl
roles_by_words (x ∷ xs) = ap (λ ts. role_of x.word ∷ ts) (roles_by_words xs)

word_front : (ws : List Word) → is_print ws ≡ true → (vs : List Word) × (ws ≡ w.System ∷ w.Dot ∷ w.Out ∷ w.Dot ∷ w.Println ∷ w.Open ∷ vs)
word_front (w.System ∷ w.Dot ∷ w.Out ∷ w.Dot ∷ w.Println ∷ w.Open ∷ vs) h = (vs, refl)
word_front _ h = cc

role_front : (ts : List Role) → begins_print ts ≡ true → (us : List Role) × (ts ≡ r.Name s.System ∷ r.Dot ∷ r.Name s.Out ∷ r.Dot ∷ r.Name s.Println ∷ r.Open ∷ us)
role_front (r.Name s.System ∷ r.Dot ∷ r.Name s.Out ∷ r.Dot ∷ r.Name s.Println ∷ r.Open ∷ us) h = (us, refl)
role_front _ h = cc

next : (t : Role) (word : Word) (b : List Role) (ws : List Word) → only_word t ≡ Some word → map role_of ws ≡ t ∷ b → (vs : List Word) × (ws ≡ word ∷ vs) × (map role_of vs ≡ b)
next t word b [] o h = cc
next t word b (x ∷ ws) o h = (ws, ap (λ v. v ∷ ws) (word_is x word t o (cc)), cc)

print_of : (ws vs : List Word) → ws ≡ w.System ∷ w.Dot ∷ w.Out ∷ w.Dot ∷ w.Println ∷ w.Open ∷ vs → is_print ws ≡ true
print_of ws vs h = ap is_print h

front_of : (us : List Role) (ws : List Word) → map role_of ws ≡ r.Name s.System ∷ r.Dot ∷ r.Name s.Out ∷ r.Dot ∷ r.Name s.Println ∷ r.Open ∷ us → is_print ws ≡ true
front_of us ws h =
    let a = next (r.Name s.System) w.System _ ws refl h in
    let b = next r.Dot w.Dot _ a.0 refl a.2 in
    let c = next (r.Name s.Out) w.Out _ b.0 refl b.2 in
    let d = next r.Dot w.Dot _ c.0 refl c.2 in
    let e = next (r.Name s.Println) w.Println _ d.0 refl d.2 in
    let f = next r.Open w.Open us e.0 refl e.2 in
    print_of ws f.0 (cc (a.1, b.1, c.1, d.1, e.1, f.1))

false_of : (b c : Bool) → b ≡ false → (c ≡ true → b ≡ true) → c ≡ false
false_of b false h i = refl
false_of b true h i = sym (i refl) ∙ h

-- no print, by its words
pub no_print_by_words : (xs : List Lexeme) → begins_print (roles_of xs) ≡ false → is_print (words_of xs) ≡ false
no_print_by_words xs h = false_of (begins_print (roles_of xs)) (is_print (words_of xs)) h (λ e.
    ap begins_print (roles_by_words xs ∙ ap (map role_of) (word_front (words_of xs) e).1))

-- and by its roles
pub no_print_by_roles : (xs : List Lexeme) → is_print (words_of xs) ≡ false → begins_print (roles_of xs) ≡ false
no_print_by_roles xs h = false_of (is_print (words_of xs)) (begins_print (roles_of xs)) h (λ e.
    let us = role_front (roles_of xs) e in
    front_of us.0 (words_of xs) (sym (roles_by_words xs) ∙ us.1))
