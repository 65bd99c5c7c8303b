-- Names.
use Rattle.std.proofs.Common.{◌≡◌, ℕ, ◌==◌, Bool, true, false, not, cond, if◌then◌else◌, ◌&&◌, List, [], ◌∷◌, ◌++◌, Option, Some, None, inl, inr, refl, sym, ap, subst, ◌∙◌, codes, arith, append_assoc}
use Rattle.std.specs.Prelude.{⊤}
use Rattle.std.proofs.lemmas.Bool.{eqb-true}
use Rattle.std.specs.Option.{option_map}
use Rattle.std.specs.List.{AllByRecursion, list_all}
use Rattle.std.specs.Str.{bytes_eq}
use Rattle.px_value.specs.declared.op.Op.{Op}
use Rattle.px_value.specs.declared.op.Op.TheVariants as op
use Rattle.px_blocks.specs.declared.side.Side.{Side}
use Rattle.px_blocks.specs.declared.side.Side.TheVariants.{App, Db}
use Rattle.px_lex.specs.Names.{is_identifier, is_word, is_word_byte}
use Rattle.px_lex.specs.Scanning.{is_letter}
use Rattle.px_lex.specs.Keywords.{is_reserved}
use Rattle.px_pyxil.specs.declared.names.Member.{Member}
use Rattle.px_pyxil.specs.declared.names.Element.{Element}
use Rattle.px_pyxil.specs.declared.names.Element.TheVariants as element
use Rattle.px_pyxil.specs.Words.{side_name, op_name, member_text, element_name}
use Rattle.px_pyxil_reader.specs.Fitting.{is_class, IsName, IsClass, MemberFits, ElementFits}
use Rattle.px_pyxil_reader.specs.Reading.{cut_at, side_of, class_of, dotted, member_of, element_of, op_of}
use Rattle.px_pyxil_reader.proofs.Readers.{some_is, chosen, guard_some, bytes_same, bytes_again, HasNo, Starts, has_no_both, cut_again, cut_parts, cut_stops, ReadsWord}
use Rattle.px_pyxil_reader.proofs.NumbersRead.{mapped_some}

pub both_true : (a b : Bool) → (a && b) ≡ true → (a ≡ true) × (b ≡ true)
both_true true b h = (refl, h)
both_true false b h = absurd cc

-- ---- the bytes of names

other_byte : (byte b : ℕ) (t : Bool) → is_word_byte byte ≡ false → is_word_byte b ≡ true → (b == byte) ≡ t → t ≡ false
other_byte byte b true h k e = let s : b ≡ byte = eqb-true b byte e in absurd (let w : is_word_byte byte ≡ true = subst (λ x. is_word_byte x ≡ true) s k in cc)
other_byte byte b false h k e = refl

rest_has_no : (byte : ℕ) (bs : List ℕ) → is_word_byte byte ≡ false → list_all is_word_byte bs ≡ true → HasNo byte bs
rest_has_no byte [] h k = tt
rest_has_no byte (b ∷ bs) h k =
    let p = both_true (is_word_byte b) (list_all is_word_byte bs) k in
    (other_byte byte b (b == byte) h p.0 refl, rest_has_no byte bs h p.1)

letter_is_word : (b : ℕ) (t : Bool) → is_letter b ≡ t → t ≡ true → is_word_byte b ≡ true
letter_is_word b true e h = rw e refl
letter_is_word b false e h = absurd cc

word_has_no : (byte : ℕ) (bs : List ℕ) → is_word_byte byte ≡ false → is_word bs ≡ true → HasNo byte bs
word_has_no byte [] h k = tt
word_has_no byte (b ∷ bs) h k =
    let p = both_true (is_letter b) (list_all is_word_byte bs) k in
    (other_byte byte b (b == byte) h (letter_is_word b (is_letter b) refl p.0) refl, rest_has_no byte bs h p.1)

pub name_has_no : (byte : ℕ) (name : List ℕ) → is_word_byte byte ≡ false → IsName name → HasNo byte name
unfolding is_identifier
name_has_no byte name h k = word_has_no byte name h (both_true (is_word name) (not (is_reserved name)) k).0

class_is_name : (class : List ℕ) → IsClass class → IsName class
class_is_name class h = (both_true (is_identifier class) (not (bytes_eq class (codes "String"))) h).0

pub class_has_no : (byte : ℕ) (class : List ℕ) → is_word_byte byte ≡ false → IsClass class → HasNo byte class
class_has_no byte class h k = name_has_no byte class h (class_is_name class k)

-- ---- words of a table

abbrev pub found : {V : Type 0} → List (List ℕ × V) → List ℕ → Option V
found [] word = None
found (entry ∷ more) word = if bytes_eq word entry.0 then Some entry.1 else found more word

pub found_taken : {V : Type 0} (text : V → List ℕ) (table : List (List ℕ × V)) (word : List ℕ) (v : V) → AllByRecursion (λ entry. text entry.1 ≡ entry.0) table → found table word ≡ Some v → text v ≡ word
found_taken text [] word v all e = absurd cc
found_taken text (entry ∷ more) word v all e =
    elim (chosen (bytes_eq word entry.0) (Some entry.1) (found more word) (Some v) e) [
      | inl h ↦ ap text (sym (some_is entry.1 v h.1)) ∙ all.0 ∙ sym (bytes_same word entry.0 h.0)
      | inr h ↦ found_taken text more word v all.1 h.1
    ]

abbrev sides : List (List ℕ × Side)
sides = (codes "APP", App) ∷ (codes "DB", Db) ∷ []

side_again : (s : Side) → side_of (side_name s) ≡ Some s
unfolding side_of
side_again App = refl
side_again Db = refl

side_taken : (word : List ℕ) (s : Side) → side_of word ≡ Some s → side_name s ≡ word
unfolding side_of
side_taken word s e = found_taken side_name sides word s (refl, (refl, tt)) e

pub side_word : ReadsWord (λ _. ⊤) side_name side_of
side_word = record { again = λ s _. side_again s; taken = λ word s e. (tt, side_taken word s e) }

abbrev ops : List (List ℕ × Op)
ops = (codes "add", op.Add) ∷ (codes "sub", op.Sub) ∷ (codes "mul", op.Mul) ∷ (codes "div", op.Div) ∷ (codes "rem", op.Rem) ∷ (codes "and", op.And) ∷ (codes "or", op.Or) ∷ (codes "xor", op.Xor) ∷ (codes "shl", op.Shl) ∷ (codes "shr", op.Shr) ∷ (codes "ushr", op.Ushr) ∷ (codes "lt", op.Lt) ∷ (codes "le", op.Le) ∷ (codes "gt", op.Gt) ∷ (codes "ge", op.Ge) ∷ (codes "eq", op.Eq) ∷ (codes "ne", op.Ne) ∷ (codes "neg", op.Neg) ∷ (codes "inv", op.Inv) ∷ (codes "not", op.Not) ∷ (codes "widen", op.Widen) ∷ (codes "narrow", op.Narrow) ∷ (codes "concat", op.Concat) ∷ (codes "equals", op.Equals) ∷ (codes "length", op.Length) ∷ []

op_again : (o : Op) → op_of (op_name o) ≡ Some o
unfolding op_of
op_again op.Add = refl
op_again op.Sub = refl
op_again op.Mul = refl
op_again op.Div = refl
op_again op.Rem = refl
op_again op.And = refl
op_again op.Or = refl
op_again op.Xor = refl
op_again op.Shl = refl
op_again op.Shr = refl
op_again op.Ushr = refl
op_again op.Lt = refl
op_again op.Le = refl
op_again op.Gt = refl
op_again op.Ge = refl
op_again op.Eq = refl
op_again op.Ne = refl
op_again op.Neg = refl
op_again op.Inv = refl
op_again op.Not = refl
op_again op.Widen = refl
op_again op.Narrow = refl
op_again op.Concat = refl
op_again op.Equals = refl
op_again op.Length = refl

op_taken : (word : List ℕ) (o : Op) → op_of word ≡ Some o → op_name o ≡ word
unfolding op_of
op_taken word o e = found_taken op_name ops word o (refl, (refl, (refl, (refl, (refl, (refl, (refl, (refl, (refl, (refl, (refl, (refl, (refl, (refl, (refl, (refl, (refl, (refl, (refl, (refl, (refl, (refl, (refl, (refl, (refl, tt))))))))))))))))))))))))) e

pub op_word : ReadsWord (λ _. ⊤) op_name op_of
op_word = record { again = λ o _. op_again o; taken = λ word o e. (tt, op_taken word o e) }

-- ---- classes and members

class_again : (class : List ℕ) → IsClass class → class_of class ≡ Some class
unfolding class_of
class_again class h = rw h refl

class_taken : (word class : List ℕ) → class_of word ≡ Some class → IsClass class × (class ≡ word)
unfolding class_of
class_taken word class e = let g = guard_some (is_class word) word class e in (subst (λ x. IsClass x) g.1 g.0, sym g.1)

pub class_word : ReadsWord IsClass (λ class. class) class_of
class_word = record { again = class_again; taken = class_taken }

abbrev member_by : List ℕ × List ℕ → Option Member
member_by p = dotted p.0 p.1

member_again : (m : Member) → MemberFits m → member_of (member_text m) ≡ Some m
unfolding member_of
member_again m f =
    ap (λ w. member_by (cut_at 46 w)) (append_assoc m.class (46 ∷ []) m.name)
    ∙ ap member_by (cut_again 46 m.class (46 ∷ m.name) (class_has_no 46 m.class refl f.0) refl)
    ∙ rw f.0 (rw f.1 refl)

dotted_taken : (class rest : List ℕ) (m : Member) → Starts 46 rest → dotted class rest ≡ Some m → MemberFits m × (member_text m ≡ class ++ rest)
dotted_taken class [] m s e = absurd cc
dotted_taken class (dot ∷ name) m s e =
    let made : Member = record { class = class; name = name } in
    let g = guard_some (is_class class && is_identifier name) made m e in
    let b = both_true (is_class class) (is_identifier name) g.0 in
    let is_dot : dot ≡ 46 = grind (arith, s) in
    subst (λ (x : Member). MemberFits x × (member_text x ≡ class ++ dot ∷ name)) g.1
    (b, append_assoc class (46 ∷ []) name ∙ ap (λ d. class ++ d ∷ name) (sym is_dot))

member_taken : (word : List ℕ) (m : Member) → member_of word ≡ Some m → MemberFits m × (member_text m ≡ word)
unfolding member_of
member_taken word m e =
    let p = dotted_taken (cut_at 46 word).0 (cut_at 46 word).1 m (cut_stops 46 word) e in
    (p.0, p.1 ∙ cut_parts 46 word)

pub member_word : ReadsWord MemberFits member_text member_of
member_word = record { again = member_again; taken = member_taken }

pub member_has_no : (byte : ℕ) (m : Member) → is_word_byte byte ≡ false → (46 == byte) ≡ false → MemberFits m → HasNo byte (member_text m)
member_has_no byte m h d f = has_no_both byte (m.class ++ 46 ∷ []) m.name (has_no_both byte m.class (46 ∷ []) (class_has_no byte m.class h f.0) (d, tt)) (name_has_no byte m.name h f.1)

-- ---- types of elements

differs_by : (name other : List ℕ) (t : Bool) → bytes_eq name other ≡ t → IsName name → is_identifier other ≡ false → t ≡ false
differs_by name other true e h k = absurd (let w : is_identifier other ≡ true = subst (λ x. IsName x) (bytes_same name other e) h in cc)
differs_by name other false e h k = refl

differs : (name other : List ℕ) → IsName name → is_identifier other ≡ false → bytes_eq name other ≡ false
differs name other h k = differs_by name other (bytes_eq name other) refl h k

not_true : (b : Bool) → not b ≡ true → b ≡ false
not_true true h = absurd cc
not_true false h = refl

int_is_none : is_identifier (codes "int") ≡ false
unfolding is_identifier is_reserved
int_is_none = refl

long_is_none : is_identifier (codes "long") ≡ false
unfolding is_identifier is_reserved
long_is_none = refl

boolean_is_none : is_identifier (codes "boolean") ≡ false
unfolding is_identifier is_reserved
boolean_is_none = refl

abbrev objects : Option (List ℕ) → Option Element
objects o = option_map element.Object o

element_again : (e : Element) → ElementFits e → element_of (element_name e) ≡ Some e
unfolding element_of
element_again element.Int h = refl
element_again element.Long h = refl
element_again element.Bool h = refl
element_again element.Text h = refl
element_again (element.Object class) h =
    let name = class_is_name class h in
    let string : bytes_eq class (codes "String") ≡ false = not_true (bytes_eq class (codes "String")) (both_true (is_identifier class) (not (bytes_eq class (codes "String"))) h).1 in
    rw (differs class (codes "int") name int_is_none) (rw (differs class (codes "long") name long_is_none) (rw (differs class (codes "boolean") name boolean_is_none) (rw string (ap objects (class_again class h)))))

abbrev IsElement : List ℕ → Element → Type 0
IsElement word e = ElementFits e × (element_name e ≡ word)

element_taken : (word : List ℕ) (e : Element) → element_of word ≡ Some e → IsElement word e
unfolding element_of
element_taken word e h =
    let objects : Option Element = option_map element.Object (class_of word) in
    let texts : Option Element = if bytes_eq word (codes "String") then Some element.Text else objects in
    let bools : Option Element = if bytes_eq word (codes "boolean") then Some element.Bool else texts in
    let longs : Option Element = if bytes_eq word (codes "long") then Some element.Long else bools in
    elim (chosen (bytes_eq word (codes "int")) (Some element.Int) longs (Some e) h) [
      | inl h ↦ subst (IsElement word) (some_is element.Int e h.1) (tt, sym (bytes_same word (codes "int") h.0))
      | inr h ↦ elim (chosen (bytes_eq word (codes "long")) (Some element.Long) bools (Some e) h.1) [
        | inl h ↦ subst (IsElement word) (some_is element.Long e h.1) (tt, sym (bytes_same word (codes "long") h.0))
        | inr h ↦ elim (chosen (bytes_eq word (codes "boolean")) (Some element.Bool) texts (Some e) h.1) [
          | inl h ↦ subst (IsElement word) (some_is element.Bool e h.1) (tt, sym (bytes_same word (codes "boolean") h.0))
          | inr h ↦ elim (chosen (bytes_eq word (codes "String")) (Some element.Text) objects (Some e) h.1) [
            | inl h ↦ subst (IsElement word) (some_is element.Text e h.1) (tt, sym (bytes_same word (codes "String") h.0))
            | inr h ↦ let m = mapped_some element.Object (class_of word) e h.1 in subst (IsElement word) m.2 (class_taken word m.0 m.1)
          ]
        ]
      ]
    ]

pub element_word : ReadsWord ElementFits element_name element_of
element_word = record { again = element_again; taken = element_taken }

pub element_has_no : (e : Element) → ElementFits e → HasNo 32 (element_name e)
element_has_no element.Int h = (refl, (refl, (refl, tt)))
element_has_no element.Long h = (refl, (refl, (refl, (refl, tt))))
element_has_no element.Bool h = (refl, (refl, (refl, (refl, (refl, (refl, (refl, tt)))))))
element_has_no element.Text h = (refl, (refl, (refl, (refl, (refl, (refl, tt))))))
element_has_no (element.Object class) h = class_has_no 32 class refl h
