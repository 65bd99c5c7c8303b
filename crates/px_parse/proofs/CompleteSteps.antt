-- Steps of reading, and what a first word tells.
use Rattle.std.proofs.Common.{◌≡◌, ℕ, zero, suc, ◌≤◌, ◌&&◌, ◌||◌, Bool, true, false, not, if◌then◌else◌, List, [], ◌∷◌, ◌++◌, length, Some, None, refl, sym, ap, ◌∙◌, append_assoc, arith, length-append}
use Rattle.std.proofs.lemmas.List.{append-nil}
use denote.Enum.Bare.{same_true, false_same}
use Rattle.px_words.specs.contracts.lexeme.Word.{the_type}
use Rattle.px_words.specs.declared.lexeme.Lexeme.{Lexeme}
use Rattle.px_words.specs.declared.lexeme.Word.{Word}
use Rattle.px_words.specs.declared.lexeme.Word.TheVariants as w
use Rattle.px_tree.specs.declared.ExprForm.{ExprForm}
use Rattle.px_tree.specs.declared.Sign.{Sign}
use Rattle.px_words.specs.Lexemes.{is_name}
use Rattle.px_words.specs.Words.{prefix_sign, binary_sign, is_primitive, is_base}
use Rattle.px_parse.specs.Trees.{word_form}
use Rattle.px_parse.specs.Reading.{State, Read, Reads, and_then, same_word, next_word, take, expect, repeated}
use Rattle.px_parse.proofs.CompleteExpressions.{StopsPostfix, Stops}

-- ---- steps

pub step : {A B : Type 0} {r : Read A} {x : A} {s : State} {end : Read B} (f : A → Reads B) → r ≡ Some (x, s) → f x s ≡ end → and_then r f ≡ end
step {A} {B} {r} {x} {s} {end} f h k = ap (λ (z : Read _). and_then z f) h ∙ k

-- the two ways of a test
pub passes : {A : Type 0} {b : Bool} {one end : A} (other : A) → b ≡ true → one ≡ end → (if b then one else other) ≡ end
passes {A} {b} {one} {end} other h k = ap (λ z. if z then one else other) h ∙ k

pub fails : {A : Type 0} {b : Bool} {other end : A} (one : A) → b ≡ false → other ≡ end → (if b then one else other) ≡ end
fails {A} {b} {other} {end} one h k = ap (λ z. if z then one else other) h ∙ k

pub same_itself : (x : Word) → same_word x x ≡ true
unfolding same_word
same_itself w.Class = refl
same_itself _ = refl

pub same : (x word : Word) → x ≡ word → same_word x word ≡ true
same x word h = ap (λ v. same_word v word) h ∙ same_itself word

pub same_words : (x y : Word) → same_word x y ≡ true → x ≡ y
unfolding same_word
same_words x y h = same_true the_type tt x y h

pub different : (x y : Word) → (x ≡ y → ⊥) → same_word x y ≡ false
unfolding same_word
different x y h = false_same the_type tt x y h

pub takes : (x : Lexeme) (xs : List Lexeme) → take (x ∷ xs) ≡ Some (x, xs)
unfolding take
takes x xs = refl

pub expects : (word : Word) (x : Lexeme) (xs : List Lexeme) → x.word ≡ word → expect word (x ∷ xs) ≡ Some (x, xs)
unfolding expect
expects word x xs h = passes _ (same x.word word h) refl

-- ---- lists

pub repeated_ends : {A : Type 0} (goes_on : State → Bool) (one : Reads A) (m : ℕ) (found : List A) (s : State) → goes_on s ≡ false → repeated goes_on one m found s ≡ Some (found, s)
unfolding repeated
repeated_ends goes_on one zero found s h = refl
repeated_ends goes_on one (suc m) found s h = fails _ h refl

pub repeated_turn : {A : Type 0} (goes_on : State → Bool) (one : Reads A) (m : ℕ) (found : List A) (x : A) (s s' : State) → goes_on s ≡ true → one s ≡ Some (x, s') → repeated goes_on one (suc m) found s ≡ repeated goes_on one m (found ++ x ∷ []) s'
unfolding repeated
repeated_turn goes_on one m found x s s' h k = passes _ h (step _ k refl)

-- the list's end, and its begin with what follows
pub list_ends : {A : Type 0} (goes_on : State → Bool) (one : Reads A) (turns : ℕ) (found : List A) (rest : List Lexeme) → goes_on rest ≡ false → repeated goes_on one turns found rest ≡ Some (found ++ [], rest)
list_ends goes_on one turns found rest h = repeated_ends goes_on one turns found rest h ∙ ap (λ (ys : List _). let a : Read (List _) = Some (ys, rest) in a) (sym (append-nil found))

pub list_more : {A : Type 0} (goes_on : State → Bool) (one : Reads A) (x : A) (more : List A) (xs ys rest : List Lexeme) → goes_on (xs ++ (ys ++ rest)) ≡ true → 1 ≤ length xs → one (xs ++ (ys ++ rest)) ≡ Some (x, ys ++ rest)
    → ((turns : ℕ) (found : List A) → length ys ≤ turns → repeated goes_on one turns found (ys ++ rest) ≡ Some (found ++ more, rest))
    → (turns : ℕ) (found : List A) → length (xs ++ ys) ≤ turns → repeated goes_on one turns found ((xs ++ ys) ++ rest) ≡ Some (found ++ (x ∷ more), rest)
list_more goes_on one x more xs ys rest h some read others zero found l = absurd (omega (arith, l, some, length-append xs ys))
list_more goes_on one x more xs ys rest h some read others (suc turns) found l =
    ap (repeated goes_on one (suc turns) found) (append_assoc xs ys rest)
    ∙ repeated_turn goes_on one turns found x (xs ++ (ys ++ rest)) (ys ++ rest) h read
    ∙ others turns (found ++ x ∷ []) (omega (arith, some, l, length-append xs ys))
    ∙ ap (λ (zs : List _). let a : Read (List _) = Some (zs, rest) in a) (append_assoc found (x ∷ []) more)

-- ---- flags

pub both : (a b : Bool) → a ≡ true → b ≡ true → (a && b) ≡ true
both true b h k = k
both false b h k = cc

pub both_of : (a b : Bool) → (a && b) ≡ true → (a ≡ true) × (b ≡ true)
both_of true b h = (refl, h)
both_of false b h = cc

pub second_fails : (a b : Bool) → b ≡ false → (a && b) ≡ false
second_fails true b h = h
second_fails false b h = refl

pub first_is : (a b : Bool) → a ≡ true → (a || b) ≡ true
first_is true b h = refl
first_is false b h = cc

pub second_is : (a b : Bool) → b ≡ true → (a || b) ≡ true
second_is true b h = refl
second_is false b h = h

pub neither : (a b : Bool) → a ≡ false → b ≡ false → (a || b) ≡ false
neither true b h k = cc
neither false b h k = k

pub flag_fails : (a : Bool) → (a ≡ true → ⊥) → a ≡ false
flag_fails true f = absurd (f refl)
flag_fails false f = refl

-- ---- first words

-- an expression may begin with it
abbrev pub leads : Word → Bool
leads w.Number = true
leads w.Text = true
leads w.Open = true
leads w.New = true
leads w.This = true
leads w.True = true
leads w.False = true
leads w.Null = true
leads w.Minus = true
leads w.Not = true
leads w.Inv = true
leads word = is_name word

-- it ends no list of statements or members, and takes part in no `if` before it
abbrev pub goes : Word → Bool
goes w.CloseBrace = false
goes w.Else = false
goes w.End = false
goes _ = true

-- an expression ends before it
abbrev pub ends : Word → Bool
ends w.Semicolon = true
ends w.Close = true
ends _ = false

pub name_leads : (v : Word) → is_name v ≡ true → leads v ≡ true
name_leads w.Number h = refl
name_leads w.Text h = refl
name_leads w.Open h = refl
name_leads w.New h = refl
name_leads w.This h = refl
name_leads w.True h = refl
name_leads w.False h = refl
name_leads w.Null h = refl
name_leads w.Minus h = refl
name_leads w.Not h = refl
name_leads w.Inv h = refl
name_leads _ h = h

pub word_leads : (v : Word) (form : ExprForm) → word_form v ≡ Some form → (leads v ≡ true) × (is_name v ≡ false)
word_leads w.True form h = (refl, refl)
word_leads w.False form h = (refl, refl)
word_leads w.Null form h = (refl, refl)
word_leads w.This form h = (refl, refl)
word_leads _ form h = cc

pub prefix_leads : (v : Word) (op : Sign) → prefix_sign v ≡ Some op → leads v ≡ true
prefix_leads w.Minus op h = refl
prefix_leads w.Not op h = refl
prefix_leads w.Inv op h = refl
prefix_leads _ op h = cc

pub leads_goes : (v : Word) → leads v ≡ true → goes v ≡ true
leads_goes w.CloseBrace h = cc
leads_goes w.Else h = cc
leads_goes w.End h = cc
leads_goes _ h = refl

pub base_goes : (v : Word) → is_base v ≡ true → goes v ≡ true
base_goes w.CloseBrace h = cc
base_goes w.Else h = cc
base_goes w.End h = cc
base_goes _ h = refl

pub leads_no_primitive : (v : Word) → leads v ≡ true → is_primitive v ≡ false
leads_no_primitive w.Int h = cc
leads_no_primitive w.Long h = cc
leads_no_primitive w.Boolean h = cc
leads_no_primitive _ h = refl

-- a word that a flag tells from another
pub told : (f : Word → Bool) (v word : Word) → f v ≡ true → f word ≡ false → v ≡ word → ⊥
told f v word h k e = let t : true ≡ false = sym h ∙ (ap f e ∙ k) in cc

pub goes_no_brace : (v : Word) → goes v ≡ true → not (same_word v w.CloseBrace) ≡ true
goes_no_brace v h = ap not (different v w.CloseBrace (told (λ x. goes x) v w.CloseBrace h refl))

pub goes_no_end : (v : Word) → goes v ≡ true → not (same_word v w.End) ≡ true
goes_no_end v h = ap not (different v w.End (told (λ x. goes x) v w.End h refl))

ends_sign : (v : Word) → ends v ≡ true → binary_sign v ≡ None
ends_sign w.Semicolon h = refl
ends_sign w.Close h = refl
ends_sign _ h = cc

pub ends_stop : (rest : List Lexeme) → ends (next_word rest) ≡ true → Stops rest
ends_stop rest h =
    let v = next_word rest in
    let p : StopsPostfix rest = record { no_dot = told (λ x. ends x) v w.Dot h refl; no_bracket = told (λ x. ends x) v w.OpenBracket h refl; no_open = told (λ x. ends x) v w.Open h refl } in
    record { postfix = p; no_sign = ends_sign v h }

-- begins so whatever follows
abbrev pub Goes : List Lexeme → Type 0
Goes xs = (rest : List Lexeme) → goes (next_word (xs ++ rest)) ≡ true

pub goes_some : (xs : List Lexeme) → Goes xs → 1 ≤ length xs
goes_some [] h = let t : false ≡ true = h [] in cc
goes_some (x ∷ xs) h = omega arith
