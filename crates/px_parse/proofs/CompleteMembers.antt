-- What spells a member of a class is read.
use Rattle.std.proofs.Common.{◌≡◌, ℕ, suc, ◌≤◌, Bool, true, not, List, [], ◌∷◌, ◌++◌, length, Option, Some, None, refl, ap, ◌∙◌, append_assoc, arith, length-append}
use Rattle.px_words.specs.declared.lexeme.Lexeme.{Lexeme}
use Rattle.px_words.specs.declared.lexeme.Word.{Word}
use Rattle.px_words.specs.declared.lexeme.Word.TheVariants as w
use Rattle.px_tree.specs.declared.Access.{Access}
use Rattle.px_tree.specs.declared.Access.TheVariants.{Plain}
use Rattle.px_tree.specs.declared.TypeName.{TypeName}
use Rattle.px_tree.specs.declared.Param.{Param}
use Rattle.px_tree.specs.declared.Stmt.{Stmt}
use Rattle.px_tree.specs.declared.Member.{Member}
use Rattle.px_words.specs.Lexemes.{is_name}
use Rattle.px_words.specs.Words.{is_base}
use Rattle.px_parse.specs.Trees.{first_token, block_of, field_declaration_of, method_with}
use Rattle.px_parse.specs.Grammar as g
use Rattle.px_parse.specs.Grammar.{SpellsType, SpellsItems, SpellsAccess, SpellsResult, SpellsParam, SpellsMoreParams, SpellsParams, SpellsThrows, SpellsMember, SpellsMembers}
use Rattle.px_parse.specs.Reading as r
use Rattle.px_parse.specs.Reading.{Read, Reads, next_word, same_word, sees, sees_no, by_word, repeated, access_on, result, param, next_param, params, throws, method, member_on, member_from, a_member}
use Rattle.px_parse.proofs.CompleteSteps.{step, passes, fails, same, different, takes, expects, list_ends, list_more, goes, told, goes_no_brace, Goes, goes_some}
use Rattle.px_parse.proofs.CompleteSimple.{type_read, type_base}
use Rattle.px_parse.proofs.CompleteStatements.{block_read, items_read}

-- ---- what stands before a name

-- a method's result may begin with it
abbrev is_result : Word → Bool
is_result w.Void = true
is_result word = is_base word

base_is_result : (v : Word) → is_base v ≡ true → is_result v ≡ true
base_is_result w.Void h = refl
base_is_result _ h = h

result_goes : (v : Word) → is_result v ≡ true → goes v ≡ true
result_goes w.Void h = refl
result_goes w.CloseBrace h = cc
result_goes w.Else h = cc
result_goes w.End h = cc
result_goes _ h = refl

result_first : (source : List ℕ) (gives : Option TypeName) (rs rest : List Lexeme) → SpellsResult source gives rs → is_result (next_word (rs ++ rest)) ≡ true
result_first source _ _ rest (g.nothing x h) = ap is_result h
result_first source _ rs rest (g.of_type {ty} t) = base_is_result _ (type_base source ty rs rest t)

plain_access : (v : Word) → is_result v ≡ true → access_on v ≡ r.pure Plain
unfolding access_on
plain_access w.Public h = cc
plain_access w.Private h = cc
plain_access _ h = refl

access_read : (access : Access) (ms rest : List Lexeme) → SpellsAccess access ms → is_result (next_word rest) ≡ true → by_word access_on (ms ++ rest) ≡ Some (access, rest)
unfolding access_on
access_read _ _ rest (g.as_public x h) k = ap (λ v. access_on v (x ∷ rest)) h ∙ step _ (takes x rest) refl
access_read _ _ rest (g.as_private x h) k = ap (λ v. access_on v (x ∷ rest)) h ∙ step _ (takes x rest) refl
access_read _ _ rest g.plain k = ap (λ (p : Reads Access). p rest) (plain_access (next_word rest) k)

result_read : (source : List ℕ) (gives : Option TypeName) (rs rest : List Lexeme) → SpellsResult source gives rs → (next_word rest ≡ w.OpenBracket → ⊥) → result source (rs ++ rest) ≡ Some (gives, rest)
unfolding result r.no_result r.some_result
result_read source _ _ rest (g.nothing x h) k = passes _ (same x.word w.Void h) (step _ (takes x rest) refl)
result_read source _ rs rest (g.of_type {ty} t) k =
    fails _ (different (next_word (rs ++ rest)) w.Void (told (λ v. is_base v) (next_word (rs ++ rest)) w.Void (type_base source ty rs rest t) refl)) (step _ (type_read source ty rs rest t k) refl)

name_no_bracket : (name : Lexeme) → is_name name.word ≡ true → name.word ≡ w.OpenBracket → ⊥
name_no_bracket name h = told (λ v. is_name v) name.word w.OpenBracket h refl

-- ---- parameters

param_read : (source : List ℕ) (p : Param) (xs rest : List Lexeme) → SpellsParam source p xs → param source (xs ++ rest) ≡ Some (p, rest)
unfolding param
param_read source _ _ rest (g.SpellsParam.param ty ts name h t) =
    ap (param source) (append_assoc ts (name ∷ []) rest) ∙ step _ (type_read source ty ts (name ∷ rest) t (name_no_bracket name h)) (step _ (takes name rest) refl)

next_param_read : (source : List ℕ) (comma : Lexeme) (p : Param) (xs rest : List Lexeme) → SpellsParam source p xs → next_param source (comma ∷ xs ++ rest) ≡ Some (p, rest)
unfolding next_param
next_param_read source comma p xs rest t = step _ (takes comma (xs ++ rest)) (param_read source p xs rest t)

more_params_read : (source : List ℕ) (ps : List Param) (xs rest : List Lexeme) → SpellsMoreParams source ps xs → next_word rest ≡ w.Close → (turns : ℕ) (found : List Param) → length xs ≤ turns → repeated (sees w.Comma) (next_param source) turns found (xs ++ rest) ≡ Some (found ++ ps, rest)
more_params_read source _ _ rest g.SpellsMoreParams.no_more h turns found l = list_ends (sees w.Comma) (next_param source) turns found rest (different (next_word rest) w.Comma (λ z. cc))
more_params_read source _ _ rest (g.SpellsMoreParams.more comma p ps xs ys i t u) h turns found l =
    list_more (sees w.Comma) (next_param source) p ps (comma ∷ xs) ys rest (same comma.word w.Comma i) (omega arith) (next_param_read source comma p xs (ys ++ rest) t) (more_params_read source ps ys rest u h) turns found l

param_base : (source : List ℕ) (p : Param) (xs rest : List Lexeme) → SpellsParam source p xs → is_base (next_word (xs ++ rest)) ≡ true
param_base source _ _ rest (g.SpellsParam.param ty ts name h t) = ap (λ (vs : List Lexeme). is_base (next_word vs)) (append_assoc ts (name ∷ []) rest) ∙ type_base source ty ts (name ∷ rest) t

params_read : (source : List ℕ) (ps : List Param) (xs rest : List Lexeme) → SpellsParams source ps xs → next_word rest ≡ w.Close → params source (xs ++ rest) ≡ Some (ps, rest)
unfolding params r.some_params
params_read source _ _ rest g.no_param h = passes _ (same (next_word rest) w.Close h) refl
params_read source _ _ rest (g.params p ps xs ys t u) h =
    ap (params source) (append_assoc xs ys rest)
    ∙ fails _ (different (next_word (xs ++ (ys ++ rest))) w.Close (told (λ v. is_base v) (next_word (xs ++ (ys ++ rest))) w.Close (param_base source p xs (ys ++ rest) t) refl))
    (step _ (param_read source p xs (ys ++ rest) t) (more_params_read source ps ys rest u h (length (ys ++ rest)) (p ∷ []) (omega (arith, length-append ys rest))))

throws_read : (ts rest : List Lexeme) → SpellsThrows ts → next_word rest ≡ w.OpenBrace → throws (ts ++ rest) ≡ Some (tt, rest)
unfolding throws r.skip_two
throws_read _ rest g.no_throws h = fails _ (different (next_word rest) w.Throws (λ z. cc)) refl
throws_read _ rest (g.SpellsThrows.throws x name h i) k = passes _ (same x.word w.Throws h) (step _ (takes x (name ∷ rest)) (step _ (takes name rest) refl))

-- ---- members

-- the first token is that of the access or the result
first_of : (source : List ℕ) (access : Access) (gives : Option TypeName) (ms rs others : List Lexeme) → SpellsAccess access ms → SpellsResult source gives rs → first_token (ms ++ (rs ++ others)) ≡ first_token (ms ++ rs)
first_of source _ gives _ rs others (g.as_public x h) t = refl
first_of source _ gives _ rs others (g.as_private x h) t = refl
first_of source _ _ _ _ others g.plain (g.nothing x h) = refl
first_of source _ _ _ _ others g.plain (g.of_type (g.SpellsType.single x h)) = refl
first_of source _ _ _ _ others g.plain (g.of_type (g.SpellsType.array x opening closing h i j)) = refl

named : (source : List ℕ) (access : Access) (gives : Option TypeName) (ms rs : List Lexeme) (name : Lexeme) (rest : List Lexeme) → SpellsAccess access ms → SpellsResult source gives rs → is_name name.word ≡ true → a_member source (ms ++ (rs ++ name ∷ rest)) ≡ member_on source (first_token (ms ++ rs)) access gives name rest
unfolding member_from
named source access gives ms rs name rest a t h =
    ap (λ i. member_from source i (ms ++ (rs ++ name ∷ rest))) (first_of source access gives ms rs (name ∷ rest) a t)
    ∙ step _ (access_read access ms (rs ++ name ∷ rest) a (result_first source gives rs (name ∷ rest) t)) (step _ (result_read source gives rs (name ∷ rest) t (name_no_bracket name h)) (step _ (takes name rest) refl))

is_method : (source : List ℕ) (from : ℕ) (access : Access) (gives : Option TypeName) (name : Lexeme) (s : List Lexeme) → next_word s ≡ w.Open → member_on source from access gives name s ≡ method source from access gives name s
is_method source from access None name s h = refl
is_method source from access (Some ty) name s h = fails _ (different (next_word s) w.Semicolon (λ z. cc)) refl

field_read : (source : List ℕ) (access : Access) (ty : TypeName) (name semicolon : Lexeme) (ms ts rest : List Lexeme) → is_name name.word ≡ true → semicolon.word ≡ w.Semicolon → SpellsAccess access ms → SpellsType source ty ts → a_member source ((ms ++ (ts ++ name ∷ semicolon ∷ [])) ++ rest) ≡ Some (field_declaration_of source access ty name, rest)
unfolding r.field
field_read source access ty name semicolon ms ts rest h i a t =
    let list : (ms ++ (ts ++ name ∷ semicolon ∷ [])) ++ rest ≡ ms ++ (ts ++ name ∷ semicolon ∷ rest) = simp append_assoc in
    ap (a_member source) list ∙ named source access (Some ty) ms ts name (semicolon ∷ rest) a (g.of_type t) h ∙ passes _ (same semicolon.word w.Semicolon i) (step _ (takes semicolon rest) refl)

method_read : (source : List ℕ) (access : Access) (gives : Option TypeName) (ps : List Param) (items : List Stmt) (ms rs xs ts ys : List Lexeme) (name opening closing begin finish : Lexeme) (rest : List Lexeme) → is_name name.word ≡ true → opening.word ≡ w.Open → closing.word ≡ w.Close → begin.word ≡ w.OpenBrace → finish.word ≡ w.CloseBrace
    → SpellsAccess access ms → SpellsResult source gives rs → SpellsParams source ps xs → SpellsThrows ts → SpellsItems source items ys
    → a_member source ((ms ++ (rs ++ name ∷ opening ∷ xs ++ (closing ∷ ts ++ (begin ∷ ys ++ finish ∷ [])))) ++ rest) ≡ Some (method_with source (first_token (ms ++ rs)) access gives name ps (block_of begin items) finish.token, rest)
unfolding method r.signature
method_read source access gives ps items ms rs xs ts ys name opening closing begin finish rest h i j k l a t p u s =
    let block : List Lexeme = begin ∷ (ys ++ finish ∷ rest) in
    let behind : List Lexeme = closing ∷ (ts ++ block) in
    let list : (ms ++ (rs ++ name ∷ opening ∷ xs ++ (closing ∷ ts ++ (begin ∷ ys ++ finish ∷ [])))) ++ rest ≡ ms ++ (rs ++ name ∷ (opening ∷ (xs ++ behind))) = simp append_assoc in
    ap (a_member source) list ∙ named source access gives ms rs name (opening ∷ (xs ++ behind)) a t h
    ∙ is_method source (first_token (ms ++ rs)) access gives name (opening ∷ (xs ++ behind)) i
    ∙ step _ (step _ (expects w.Open opening (xs ++ behind) i) (step _ (params_read source ps xs behind p j) (step _ (expects w.Close closing (ts ++ block) j) (step _ (throws_read ts block u k) refl))))
    (step _ (block_read source begin finish items ys k l (items_read source items ys s) (suc (length block)) rest (omega arith)) refl)

member_read : (source : List ℕ) (m : Member) (xs rest : List Lexeme) → SpellsMember source m xs → a_member source (xs ++ rest) ≡ Some (m, rest)
member_read source _ _ rest (g.SpellsMember.field access ty name semicolon ms ts h i a t) = field_read source access ty name semicolon ms ts rest h i a t
member_read source _ _ rest (g.SpellsMember.method access gives ps items ms rs xs ts ys name opening closing begin finish h i j k l a t p u s) = method_read source access gives ps items ms rs xs ts ys name opening closing begin finish rest h i j k l a t p u s

access_goes : (source : List ℕ) (access : Access) (gives : Option TypeName) (ms rs others : List Lexeme) → SpellsAccess access ms → SpellsResult source gives rs → goes (next_word (ms ++ (rs ++ others))) ≡ true
access_goes source _ gives _ rs others (g.as_public x h) t = ap goes h
access_goes source _ gives _ rs others (g.as_private x h) t = ap goes h
access_goes source _ gives _ rs others g.plain t = result_goes _ (result_first source gives rs others t)

member_goes : (source : List ℕ) (m : Member) (xs : List Lexeme) → SpellsMember source m xs → Goes xs
member_goes source _ _ (g.SpellsMember.field access ty name semicolon ms ts h i a t) rest =
    let list : (ms ++ (ts ++ name ∷ semicolon ∷ [])) ++ rest ≡ ms ++ (ts ++ (name ∷ semicolon ∷ rest)) = simp append_assoc in
    ap (λ (vs : List Lexeme). goes (next_word vs)) list ∙ access_goes source access (Some ty) ms ts (name ∷ semicolon ∷ rest) a (g.of_type t)
member_goes source _ _ (g.SpellsMember.method access gives ps items ms rs xs ts ys name opening closing begin finish h i j k l a t p u s) rest =
    let behind : List Lexeme = name ∷ opening ∷ (xs ++ (closing ∷ ts ++ (begin ∷ ys ++ finish ∷ rest))) in
    let list : (ms ++ (rs ++ name ∷ opening ∷ xs ++ (closing ∷ ts ++ (begin ∷ ys ++ finish ∷ [])))) ++ rest ≡ ms ++ (rs ++ behind) = simp append_assoc in
    ap (λ (vs : List Lexeme). goes (next_word vs)) list ∙ access_goes source access gives ms rs behind a t

pub members_read : (source : List ℕ) (ms : List Member) (xs rest : List Lexeme) → SpellsMembers source ms xs → next_word rest ≡ w.CloseBrace → (turns : ℕ) (found : List Member) → length xs ≤ turns → repeated (sees_no w.CloseBrace) (a_member source) turns found (xs ++ rest) ≡ Some (found ++ ms, rest)
members_read source _ _ rest g.no_member h turns found l = list_ends (sees_no w.CloseBrace) (a_member source) turns found rest (ap not (same (next_word rest) w.CloseBrace h))
members_read source _ _ rest (g.SpellsMembers.member m ms xs ys t u) h turns found l =
    let begins = member_goes source m xs t in
    list_more (sees_no w.CloseBrace) (a_member source) m ms xs ys rest (goes_no_brace _ (begins (ys ++ rest))) (goes_some xs begins) (member_read source m xs (ys ++ rest) t) (members_read source ms ys rest u h) turns found l
