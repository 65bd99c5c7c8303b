-- What spells a type, a simple statement or a local is read.
use Rattle.std.proofs.Common.{◌≡◌, ℕ, ◌&&◌, ◌||◌, Bool, true, false, List, [], ◌∷◌, ◌++◌, Option, Some, None, refl, sym, ap, ◌∙◌, append_assoc, subst}
use Rattle.px_words.specs.declared.lexeme.Lexeme.{Lexeme}
use Rattle.px_words.specs.declared.lexeme.Word.{Word}
use Rattle.px_words.specs.declared.lexeme.Word.TheVariants as w
use Rattle.px_tree.specs.declared.Name.{Name as NameData}
use Rattle.px_tree.specs.declared.Sign.{Sign}
use Rattle.px_tree.specs.declared.Expr.{Expr}
use Rattle.px_tree.specs.declared.ExprForm.{out-ExprForm}
use Rattle.px_tree.specs.declared.Stmt.{Stmt}
use Rattle.px_tree.specs.declared.TypeName.{TypeName}
use Rattle.px_words.specs.Lexemes.{is_name}
use Rattle.px_words.specs.Words.{compound_sign, is_primitive, is_base}
use Rattle.px_parse.specs.Trees.{name_of, variable_of, call_statement_of}
use Rattle.px_parse.specs.Grammar as g
use Rattle.px_parse.specs.Grammar.{Ending, SpellsType, SpellsExpression, SpellsOperand, SpellsPostfix, SpellsSimple, SpellsLocal, SpellsFirst, words_of}
use Rattle.px_parse.specs.Reading as r
use Rattle.px_parse.specs.Reading.{State, Read, Reads, same_word, next_word, is_local, array_type, type_name, bare_name, compound_on, compounded, stepped, assigned, simple_on, simple, local, first}
use Rattle.px_parse.proofs.CompleteExpressions.{StopsPostfix, Stops, value_read, place_read}
use Rattle.px_parse.proofs.CompleteSteps.{step, passes, fails, same, same_words, different, takes, expects, both, both_of, second_fails, first_is, second_is, neither, flag_fails, leads, ends, name_leads, word_leads, prefix_leads, base_goes, leads_no_primitive, told, ends_stop, Goes}

-- ---- types

pub type_read : (source : List ℕ) (ty : TypeName) (ts rest : List Lexeme) → SpellsType source ty ts → (next_word rest ≡ w.OpenBracket → ⊥) → type_name source (ts ++ rest) ≡ Some (ty, rest)
unfolding type_name array_type
type_read source _ _ rest (g.SpellsType.single x h) k = step _ (takes x rest) (fails _ (different (next_word rest) w.OpenBracket k) refl)
type_read source _ _ rest (g.SpellsType.array x opening closing h i j) k = step _ (takes x (opening ∷ closing ∷ rest)) (passes _ (same opening.word w.OpenBracket i) (step _ (takes opening (closing ∷ rest)) (step _ (expects w.CloseBracket closing rest j) refl)))

pub type_base : (source : List ℕ) (ty : TypeName) (ts rest : List Lexeme) → SpellsType source ty ts → is_base (next_word (ts ++ rest)) ≡ true
type_base source _ _ rest (g.SpellsType.single x h) = h
type_base source _ _ rest (g.SpellsType.array x opening closing h i j) = h

-- ---- how a postfix begins

-- It begins with no name, it is a name, or a name is followed by what follows none that is a type.
data Front : List Lexeme → Type 0 where
  other : (x : Lexeme) (xs : List Lexeme) → leads x.word ≡ true → is_name x.word ≡ false → Front (x ∷ xs)
  alone : (x : Lexeme) → is_name x.word ≡ true → Front (x ∷ [])
  behind : (x y : Lexeme) (xs : List Lexeme) → is_name x.word ≡ true → is_name y.word ≡ false → (y.word ≡ w.OpenBracket → ⊥) → Front (x ∷ y ∷ xs)
  bracket : (x y z : Lexeme) (xs : List Lexeme) → is_name x.word ≡ true → y.word ≡ w.OpenBracket → leads z.word ≡ true → Front (x ∷ y ∷ z ∷ xs)

front_leads : (xs rest : List Lexeme) → Front xs → leads (next_word (xs ++ rest)) ≡ true
front_leads _ rest (other x xs h i) = h
front_leads _ rest (alone x h) = name_leads x.word h
front_leads _ rest (behind x y xs h i j) = name_leads x.word h
front_leads _ rest (bracket x y z xs h i j) = name_leads x.word h

-- with more behind it
front_more : (xs : List Lexeme) (y : Lexeme) (ys : List Lexeme) → Front xs → is_name y.word ≡ false → (y.word ≡ w.OpenBracket → ⊥) → Front (xs ++ y ∷ ys)
front_more _ y ys (other x xs h i) j k = other x (xs ++ y ∷ ys) h i
front_more _ y ys (alone x h) j k = behind x y ys h j k
front_more _ y ys (behind x a xs h i j) _ _ = behind x a (xs ++ y ∷ ys) h i j
front_more _ y ys (bracket x a b xs h i j) _ _ = bracket x a b (xs ++ y ∷ ys) h i j

front_bracket : (xs : List Lexeme) (y z : Lexeme) (ys : List Lexeme) → Front xs → y.word ≡ w.OpenBracket → leads z.word ≡ true → Front (xs ++ y ∷ z ∷ ys)
front_bracket _ y z ys (other x xs h i) j k = other x (xs ++ y ∷ z ∷ ys) h i
front_bracket _ y z ys (alone x h) j k = bracket x y z ys h j k
front_bracket _ y z ys (behind x a xs h i j) _ _ = behind x a (xs ++ y ∷ z ∷ ys) h i j
front_bracket _ y z ys (bracket x a b xs h i j) _ _ = bracket x a b (xs ++ y ∷ z ∷ ys) h i j

-- a list that begins so
record Leading (xs : List Lexeme) : Type 0 where
  one : Lexeme
  others : List Lexeme
  is : xs ≡ one ∷ others
  leads_on : leads one.word ≡ true

leading_more : (xs ys : List Lexeme) → Leading xs → Leading (xs ++ ys)
leading_more xs ys b = record { one = b.one; others = b.others ++ ys; is = ap (λ zs. zs ++ ys) b.is; leads_on = b.leads_on }

front_leading : (xs : List Lexeme) → Front xs → Leading xs
front_leading _ (other x xs h i) = record { one = x; others = xs; is = refl; leads_on = h }
front_leading _ (alone x h) = record { one = x; others = []; is = refl; leads_on = name_leads x.word h }
front_leading _ (behind x y xs h i j) = record { one = x; others = y ∷ xs; is = refl; leads_on = name_leads x.word h }
front_leading _ (bracket x y z xs h i j) = record { one = x; others = y ∷ z ∷ xs; is = refl; leads_on = name_leads x.word h }

front_element : (xs : List Lexeme) (y : Lexeme) (ys zs : List Lexeme) → Front xs → y.word ≡ w.OpenBracket → Leading ys → Front (xs ++ y ∷ ys ++ zs)
front_element xs y ys zs f h b = subst (λ (vs : List Lexeme). Front vs) (ap (λ (vs : List Lexeme). xs ++ (y ∷ vs ++ zs)) (sym b.is) ∙ sym (append_assoc xs (y ∷ ys) zs)) (front_bracket xs y b.one (b.others ++ zs) f h b.leads_on)

-- the first word of arguments
arguments_front : (source : List ℕ) (x : Lexeme) (args : List Expr) (xs : List Lexeme) → is_name x.word ≡ true → g.SpellsArguments source args xs → Front (x ∷ xs)
arguments_front source x _ _ h (g.no_argument opening closing i j) = behind x opening (closing ∷ []) h (ap is_name i) (λ z. cc)
arguments_front source x _ _ h (g.arguments opening closing k e es xs ys i j s t) = behind x opening (xs ++ (ys ++ closing ∷ [])) h (ap is_name i) (λ z. cc)

mutual
  postfix_front : (source : List ℕ) (ending : Ending) (e : Expr) (xs : List Lexeme) → SpellsPostfix source ending e xs → Front xs
  postfix_front source _ _ _ (g.number x h) = other x [] (ap leads h) (ap is_name h)
  postfix_front source _ _ _ (g.text x h) = other x [] (ap leads h) (ap is_name h)
  postfix_front source _ _ _ (g.word x form h) = let t = word_leads x.word form h in other x [] t.0 t.1
  postfix_front source _ _ _ (g.variable x h) = alone x h
  postfix_front source _ _ _ (g.own_call x args xs h s) = arguments_front source x args xs h s
  postfix_front source _ _ _ (g.group opening closing k inner xs h i s) = other opening (xs ++ closing ∷ []) (ap leads h) (ap is_name h)
  postfix_front source _ _ _ (g.object new name opening closing h i j k) = other new (name ∷ opening ∷ closing ∷ []) (ap leads h) (ap is_name h)
  postfix_front source _ _ _ (g.SpellsPostfix.array new base opening closing k size xs h i j l s) = other new (base ∷ opening ∷ xs ++ closing ∷ []) (ap leads h) (ap is_name h)
  postfix_front source _ _ _ (g.SpellsPostfix.field ending of xs dot name h i s) = front_more xs dot (name ∷ []) (postfix_front source ending of xs s) (ap is_name h) (λ z. cc)
  postfix_front source _ _ _ (g.SpellsPostfix.call ending of args xs ys dot name h i s t) = front_more xs dot (name ∷ ys) (postfix_front source ending of xs s) (ap is_name h) (λ z. cc)
  postfix_front source _ _ _ (g.SpellsPostfix.element ending of index k xs ys opening closing h i j s t) = front_element xs opening ys (closing ∷ []) (postfix_front source ending of xs s) i (expression_leading source k index ys t)

  operand_leading : (source : List ℕ) (e : Expr) (xs : List Lexeme) → SpellsOperand source e xs → Leading xs
  operand_leading source _ _ (g.prefix x op e xs h s) = record { one = x; others = xs; is = refl; leads_on = prefix_leads x.word op h }
  operand_leading source _ _ (g.cast opening x closing op e xs h i j s) = record { one = opening; others = x ∷ closing ∷ xs; is = refl; leads_on = ap leads h }
  operand_leading source e xs (g.postfix ending s) = front_leading xs (postfix_front source ending e xs s)

  expression_leading : (source : List ℕ) (k : ℕ) (e : Expr) (xs : List Lexeme) → SpellsExpression source k e xs → Leading xs
  expression_leading source _ e xs (g.operand s) = operand_leading source e xs s
  expression_leading source _ _ _ (g.binary at op k m l e ls rs h i j s t) = leading_more ls (at ∷ rs) (expression_leading source k l ls s)

pub expression_leads : (source : List ℕ) (k : ℕ) (e : Expr) (xs rest : List Lexeme) → SpellsExpression source k e xs → leads (next_word (xs ++ rest)) ≡ true
expression_leads source k e xs rest s = let b = expression_leading source k e xs s in ap (λ (vs : List Lexeme). leads (next_word (vs ++ rest))) b.is ∙ b.leads_on

-- ---- locals and others

pub keyword_no_local : (x : Lexeme) (word : Word) (xs : List Lexeme) → x.word ≡ word → is_primitive word ≡ false → is_name word ≡ false → is_local (x ∷ xs) ≡ false
keyword_no_local x word xs h i j = neither _ _ (ap is_primitive h ∙ i) (ap (λ b. b && (is_name (r.word_ahead 1 (x ∷ xs)) || (same_word (r.word_ahead 1 (x ∷ xs)) w.OpenBracket && same_word (r.word_ahead 2 (x ∷ xs)) w.CloseBracket))) (ap is_name h ∙ j))

pub named_no_local : (x y : Lexeme) (xs : List Lexeme) → is_name x.word ≡ true → is_name y.word ≡ false → (y.word ≡ w.OpenBracket → ⊥) → is_local (x ∷ y ∷ xs) ≡ false
named_no_local x y xs h i j = neither _ _ (leads_no_primitive x.word (name_leads x.word h)) (second_fails _ _ (neither _ _ i (ap (λ b. b && same_word (r.word_ahead 2 (x ∷ y ∷ xs)) w.CloseBracket) (different y.word w.OpenBracket j))))

front_no_local : (xs : List Lexeme) (y : Lexeme) (rest : List Lexeme) → Front xs → is_name y.word ≡ false → (y.word ≡ w.OpenBracket → ⊥) → is_local (xs ++ y ∷ rest) ≡ false
front_no_local _ y rest (other x xs h i) j k = keyword_no_local x x.word (xs ++ y ∷ rest) refl (leads_no_primitive x.word h) i
front_no_local _ y rest (alone x h) j k = named_no_local x y rest h j k
front_no_local _ y rest (behind x a xs h i j) _ _ = named_no_local x a (xs ++ y ∷ rest) h i j
front_no_local _ y rest (bracket x a b xs h i j) _ _ = neither _ _ (leads_no_primitive x.word (name_leads x.word h)) (second_fails _ _ (neither _ _ (ap is_name i) (second_fails _ _ (different b.word w.CloseBracket (told (λ v. leads v) b.word w.CloseBracket j refl)))))

base_local : (v : Word) (m : Bool) → is_base v ≡ true → m ≡ true → (is_primitive v || (is_name v && m)) ≡ true
base_local w.Int m h k = refl
base_local w.Long m h k = refl
base_local w.Boolean m h k = refl
base_local _ m h k = both _ m h k

pub local_is_local : (source : List ℕ) (s : Stmt) (xs rest : List Lexeme) → SpellsLocal source s xs → is_local (xs ++ rest) ≡ true
local_is_local source _ _ rest (g.SpellsLocal.local _ name equals k value _ xs h i (g.SpellsType.single x j) e) = base_local x.word _ j (first_is _ _ h)
local_is_local source _ _ rest (g.SpellsLocal.local _ name equals k value _ xs h i (g.SpellsType.array x opening closing j l m) e) = base_local x.word _ j (second_is _ _ (both _ _ (same opening.word w.OpenBracket l) (same closing.word w.CloseBracket m)))

pub local_goes : (source : List ℕ) (s : Stmt) (xs : List Lexeme) → SpellsLocal source s xs → Goes xs
local_goes source _ _ (g.SpellsLocal.local ty name equals k value ts xs h i t e) rest = base_goes _ (ap (λ (vs : List Lexeme). is_base (next_word vs)) (append_assoc ts (name ∷ equals ∷ xs) rest) ∙ type_base source ty ts ((name ∷ equals ∷ xs) ++ rest) t)

compound_no_name : (v : Word) (op : Sign) → compound_sign v ≡ Some op → is_name v ≡ false
compound_no_name v op h = flag_fails (is_name v) (λ z. named_no_compound v op z h)
  where
    named_no_compound : (v : Word) (op : Sign) → is_name v ≡ true → compound_sign v ≡ Some op → ⊥
    named_no_compound w.PlusAssign op h k = cc
    named_no_compound _ op h k = cc

compound_told : (v word : Word) (op : Sign) → compound_sign v ≡ Some op → compound_sign word ≡ None → v ≡ word → ⊥
compound_told v word op h k e = let t : Some op ≡ None = sym h ∙ (ap compound_sign e ∙ k) in cc

ends_no_name : (v : Word) → ends v ≡ true → is_name v ≡ false
ends_no_name w.Semicolon h = refl
ends_no_name w.Close h = refl
ends_no_name _ h = cc

-- a simple statement is a postfix with something behind it
pub simple_no_local : (source : List ℕ) (s : Stmt) (xs : List Lexeme) (y : Lexeme) (rest : List Lexeme) → SpellsSimple source s xs → ends y.word ≡ true → is_local (xs ++ y ∷ rest) ≡ false
simple_no_local source _ _ y rest (g.assignment ending k place value ps xs equals p h s t) l = ap is_local (append_assoc ps (equals ∷ xs) (y ∷ rest)) ∙ front_no_local ps equals (xs ++ y ∷ rest) (postfix_front source ending place ps s) (ap is_name h) (λ z. cc)
simple_no_local source _ _ y rest (g.compound x at op k value xs h i s) l = named_no_local x at (xs ++ y ∷ rest) h (compound_no_name at.word op i) (compound_told at.word w.OpenBracket op i refl)
simple_no_local source _ _ y rest (g.up x at h i) l = named_no_local x at (y ∷ rest) h (ap is_name i) (λ z. cc)
simple_no_local source _ _ y rest (g.down x at h i) l = named_no_local x at (y ∷ rest) h (ap is_name i) (λ z. cc)
simple_no_local source _ _ y rest (g.SpellsSimple.call e xs s) l = front_no_local xs y rest (postfix_front source _ e xs s) (ends_no_name y.word l) (told (λ v. ends v) y.word w.OpenBracket l refl)

pub simple_leads : (source : List ℕ) (s : Stmt) (xs rest : List Lexeme) → SpellsSimple source s xs → leads (next_word (xs ++ rest)) ≡ true
simple_leads source _ _ rest (g.assignment ending k place value ps xs equals p h s t) = ap (λ (vs : List Lexeme). leads (next_word vs)) (append_assoc ps (equals ∷ xs) rest) ∙ front_leads ps ((equals ∷ xs) ++ rest) (postfix_front source ending place ps s)
simple_leads source _ _ rest (g.compound x at op k value xs h i s) = name_leads x.word h
simple_leads source _ _ rest (g.up x at h i) = name_leads x.word h
simple_leads source _ _ rest (g.down x at h i) = name_leads x.word h
simple_leads source _ _ rest (g.SpellsSimple.call e xs s) = front_leads xs rest (postfix_front source _ e xs s)

-- ---- simple statements

compounds : (source : List ℕ) (x : Lexeme) (v : Word) (op : Sign) → compound_sign v ≡ Some op → simple_on source (variable_of source x) v ≡ compounded source (variable_of source x) (name_of source x) op
unfolding simple_on out-ExprForm denote.Hole.Carrier.out
compounds source x w.Assign op h = cc
compounds source x w.Increment op h = cc
compounds source x w.Decrement op h = cc
compounds source x _ op h = ap (λ o. compound_on source (variable_of source x) (Some (name_of source x)) o) h

none_compounds : (source : List ℕ) (place : Expr) (name : Option NameData) → compound_on source place name None ≡ r.pure (call_statement_of place)
none_compounds source place None = refl
none_compounds source place (Some name) = refl

calls : (source : List ℕ) (place : Expr) (v : Word) → ends v ≡ true → simple_on source place v ≡ r.pure (call_statement_of place)
unfolding simple_on
calls source place w.Semicolon h = none_compounds source place (bare_name (out-ExprForm place.form))
calls source place w.Close h = none_compounds source place (bare_name (out-ExprForm place.form))
calls source place _ h = cc

compound_stops : (at : Lexeme) (op : Sign) (rest : List Lexeme) → compound_sign at.word ≡ Some op → StopsPostfix (at ∷ rest)
compound_stops at op rest h = record { no_dot = compound_told at.word w.Dot op h refl; no_bracket = compound_told at.word w.OpenBracket op h refl; no_open = compound_told at.word w.Open op h refl }

word_stops : (at : Lexeme) (word : Word) (rest : List Lexeme) → at.word ≡ word → (word ≡ w.Dot → ⊥) → (word ≡ w.OpenBracket → ⊥) → (word ≡ w.Open → ⊥) → StopsPostfix (at ∷ rest)
word_stops at word rest h i j k = record { no_dot = λ z. i (sym h ∙ z); no_bracket = λ z. j (sym h ∙ z); no_open = λ z. k (sym h ∙ z) }

pub simple_read : (source : List ℕ) (s : Stmt) (xs rest : List Lexeme) → SpellsSimple source s xs → ends (next_word rest) ≡ true → simple source (xs ++ rest) ≡ Some (s, rest)
unfolding simple assigned compounded stepped simple_on out-ExprForm denote.Hole.Carrier.out
simple_read source _ _ rest (g.assignment ending k place value ps xs equals p h s t) l =
    ap (simple source) (append_assoc ps (equals ∷ xs) rest)
    ∙ step _ (place_read source ending place ps (equals ∷ xs ++ rest) s (word_stops equals w.Assign (xs ++ rest) h (λ z. cc) (λ z. cc) (λ z. cc)))
    (ap (λ v. simple_on source place v (equals ∷ xs ++ rest)) h ∙ step _ (takes equals (xs ++ rest)) (step _ (value_read source k value xs rest t (ends_stop rest l)) refl))
simple_read source _ _ rest (g.compound x at op k value xs h i s) l =
    step _ (place_read source Ending.AtName (variable_of source x) (x ∷ []) (at ∷ xs ++ rest) (g.variable x h) (compound_stops at op (xs ++ rest) i))
    (ap (λ (q : Reads Stmt). q (at ∷ xs ++ rest)) (compounds source x at.word op i) ∙ step _ (takes at (xs ++ rest)) (step _ (value_read source k value xs rest s (ends_stop rest l)) refl))
simple_read source _ _ rest (g.up x at h i) l =
    step _ (place_read source Ending.AtName (variable_of source x) (x ∷ []) (at ∷ rest) (g.variable x h) (word_stops at w.Increment rest i (λ z. cc) (λ z. cc) (λ z. cc)))
    (ap (λ v. simple_on source (variable_of source x) v (at ∷ rest)) i ∙ step _ (takes at rest) refl)
simple_read source _ _ rest (g.down x at h i) l =
    step _ (place_read source Ending.AtName (variable_of source x) (x ∷ []) (at ∷ rest) (g.variable x h) (word_stops at w.Decrement rest i (λ z. cc) (λ z. cc) (λ z. cc)))
    (ap (λ v. simple_on source (variable_of source x) v (at ∷ rest)) i ∙ step _ (takes at rest) refl)
simple_read source _ _ rest (g.SpellsSimple.call e xs s) l =
    step _ (place_read source Ending.AtCall e xs rest s (ends_stop rest l).postfix) (ap (λ (q : Reads Stmt). q rest) (calls source e (next_word rest) l))

pub local_read : (source : List ℕ) (s : Stmt) (xs rest : List Lexeme) → SpellsLocal source s xs → Stops rest → local source (xs ++ rest) ≡ Some (s, rest)
unfolding local
local_read source _ _ rest (g.SpellsLocal.local ty name equals k value ts xs h i t e) stops =
    ap (local source) (append_assoc ts (name ∷ equals ∷ xs) rest)
    ∙ step _ (type_read source ty ts (name ∷ equals ∷ xs ++ rest) t (told (λ v. is_name v) name.word w.OpenBracket h refl)) (step _ (takes name (equals ∷ xs ++ rest)) (step _ (expects w.Assign equals (xs ++ rest) i) (step _ (value_read source k value xs rest e stops) refl)))

pub first_read : (source : List ℕ) (s : Stmt) (xs : List Lexeme) (y : Lexeme) (rest : List Lexeme) → SpellsFirst source s xs → y.word ≡ w.Semicolon → first source (xs ++ y ∷ rest) ≡ Some (s, y ∷ rest)
first_read source s xs y rest (g.SpellsFirst.local t) h = passes _ (local_is_local source s xs (y ∷ rest) t) (local_read source s xs (y ∷ rest) t (ends_stop (y ∷ rest) (ap ends h)))
first_read source s xs y rest (g.SpellsFirst.simple t) h = fails _ (simple_no_local source s xs y rest t (ap ends h)) (simple_read source s xs (y ∷ rest) t (ap ends h))

-- ---- prints

words_fail : (a b c d e f : Word) → (a ≡ w.System → b ≡ w.Dot → c ≡ w.Out → d ≡ w.Dot → e ≡ w.Println → f ≡ w.Open → ⊥) → (same_word a w.System && (same_word b w.Dot && (same_word c w.Out && (same_word d w.Dot && (same_word e w.Println && same_word f w.Open))))) ≡ false
words_fail a b c d e f g = flag_fails _ (λ z.
    let p = both_of _ _ z in
    let q = both_of _ _ p.1 in
    let t = both_of _ _ q.1 in
    let u = both_of _ _ t.1 in
    let v = both_of _ _ u.1 in
    g (same_words a w.System p.0) (same_words b w.Dot q.0) (same_words c w.Out t.0) (same_words d w.Dot u.0) (same_words e w.Println v.0) (same_words f w.Open v.1))

print_fails : (s : State) → (next_word s ≡ w.System → r.word_ahead 1 s ≡ w.Dot → r.word_ahead 2 s ≡ w.Out → r.word_ahead 3 s ≡ w.Dot → r.word_ahead 4 s ≡ w.Println → r.word_ahead 5 s ≡ w.Open → ⊥) → r.is_print s ≡ false
print_fails s h = words_fail (next_word s) (r.word_ahead 1 s) (r.word_ahead 2 s) (r.word_ahead 3 s) (r.word_ahead 4 s) (r.word_ahead 5 s) h

semicolon_is : (y : Lexeme) (word : Word) → y.word ≡ w.Semicolon → ends word ≡ false → y.word ≡ word → ⊥
semicolon_is y word h i k = told (λ v. ends v) y.word word (ap ends h) i k

-- the semicolon is none of a print's first words
pub no_print : (xs : List Lexeme) (y : Lexeme) (rest : List Lexeme) → y.word ≡ w.Semicolon → g.is_print (words_of (xs ++ y ∷ [])) ≡ false → r.is_print (xs ++ y ∷ rest) ≡ false
no_print [] y rest h i = print_fails (y ∷ rest) (λ j k l m n o. semicolon_is y w.System h refl j)
no_print (a ∷ []) y rest h i = print_fails (a ∷ y ∷ rest) (λ j k l m n o. semicolon_is y w.Dot h refl k)
no_print (a ∷ b ∷ []) y rest h i = print_fails (a ∷ b ∷ y ∷ rest) (λ j k l m n o. semicolon_is y w.Out h refl l)
no_print (a ∷ b ∷ c ∷ []) y rest h i = print_fails (a ∷ b ∷ c ∷ y ∷ rest) (λ j k l m n o. semicolon_is y w.Dot h refl m)
no_print (a ∷ b ∷ c ∷ d ∷ []) y rest h i = print_fails (a ∷ b ∷ c ∷ d ∷ y ∷ rest) (λ j k l m n o. semicolon_is y w.Println h refl n)
no_print (a ∷ b ∷ c ∷ d ∷ e ∷ []) y rest h i = print_fails (a ∷ b ∷ c ∷ d ∷ e ∷ y ∷ rest) (λ j k l m n o. semicolon_is y w.Open h refl o)
no_print (a ∷ b ∷ c ∷ d ∷ e ∷ f ∷ xs) y rest h i = print_fails (a ∷ b ∷ c ∷ d ∷ e ∷ f ∷ xs ++ y ∷ rest) (λ j k l m n o.
    let all : g.is_print (words_of (a ∷ b ∷ c ∷ d ∷ e ∷ f ∷ xs ++ y ∷ [])) ≡ true = (λ t. g.is_print (j t ∷ k t ∷ l t ∷ m t ∷ n t ∷ o t ∷ words_of (xs ++ y ∷ []))) in
    let wrong : true ≡ false = sym all ∙ i in
    cc)
