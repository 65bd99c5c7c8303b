-- What spells a statement is read.
use Rattle.std.proofs.Common.{◌≡◌, ℕ, zero, suc, ◌≤◌, ◌<◌, Bool, true, false, not, List, [], ◌∷◌, ◌++◌, length, Some, None, refl, ap, ◌∙◌, append_assoc, arith, length-append}
use Rattle.px_words.specs.declared.lexeme.Lexeme.{Lexeme}
use Rattle.px_words.specs.declared.lexeme.Word.{Word}
use Rattle.px_words.specs.declared.lexeme.Word.TheVariants as w
use Rattle.px_tree.specs.declared.Expr.{Expr}
use Rattle.px_tree.specs.declared.Stmt.{Stmt}
use Rattle.px_words.specs.Lexemes.{is_name}
use Rattle.px_parse.specs.Trees.{block_of, empty_of, if_of, while_of, for_of, return_of, print_of}
use Rattle.px_parse.specs.Grammar as g
use Rattle.px_parse.specs.Grammar.{SpellsExpression, SpellsSimple, SpellsLocal, SpellsFirst, SpellsStatement, SpellsItem, SpellsItems, words_of}
use Rattle.px_parse.specs.Reading as r
use Rattle.px_parse.specs.Reading.{State, Read, Reads, next_word, same_word, is_local, sees, sees_no, repeated, by_test, simple, local, first, ended_by_semicolon, item, block, condition, statement_on, statement}
use Rattle.px_parse.proofs.CompleteExpressions.{value_read}
use Rattle.px_parse.proofs.CompleteSteps.{step, passes, fails, same, different, takes, expects, list_ends, list_more, both, leads, goes, ends, leads_goes, told, goes_no_brace, ends_stop, Goes, goes_some}
use Rattle.px_parse.proofs.CompleteSimple.{expression_leads, keyword_no_local, named_no_local, local_is_local, local_goes, simple_no_local, simple_leads, simple_read, local_read, first_read, no_print}

-- ---- what is read. `bound` is more than the lexemes that are left.

-- an `else` behind it would be its own
abbrev pub NoElse : List Lexeme → Type 0
NoElse rest = next_word rest ≡ w.Else → ⊥

abbrev pub IsRead : List ℕ → Bool → Stmt → List Lexeme → Type 0
IsRead source ends_open s xs = (bound : ℕ) (rest : List Lexeme) → length (xs ++ rest) < bound → (ends_open ≡ true → NoElse rest) → statement source bound (xs ++ rest) ≡ Some (s, rest)

abbrev pub IsReadItem : List ℕ → Stmt → List Lexeme → Type 0
IsReadItem source s xs = (bound : ℕ) (rest : List Lexeme) → length (xs ++ rest) < bound → NoElse rest → item source (statement source bound) (xs ++ rest) ≡ Some (s, rest)

abbrev pub IsReadItems : List ℕ → List Stmt → List Lexeme → Type 0
IsReadItems source ss xs = (bound turns : ℕ) (found : List Stmt) (rest : List Lexeme) → length (xs ++ rest) < bound → length xs ≤ turns → next_word rest ≡ w.CloseBrace → repeated (sees_no w.CloseBrace) (item source (statement source bound)) turns found (xs ++ rest) ≡ Some (found ++ ss, rest)

-- ---- simple statements

not_keyword : (source : List ℕ) (inner : Reads Stmt) (v : Word) → leads v ≡ true → statement_on source inner v ≡ by_test r.is_print (r.print source) (ended_by_semicolon (simple source))
unfolding statement_on
not_keyword source inner w.OpenBrace h = cc
not_keyword source inner w.Semicolon h = cc
not_keyword source inner w.If h = cc
not_keyword source inner w.While h = cc
not_keyword source inner w.For h = cc
not_keyword source inner w.Return h = cc
not_keyword source inner _ h = refl

simple_statement : (source : List ℕ) (s : Stmt) (xs : List Lexeme) (semicolon : Lexeme) → semicolon.word ≡ w.Semicolon → g.is_print (words_of (xs ++ semicolon ∷ [])) ≡ false → SpellsSimple source s xs → IsRead source false s (xs ++ semicolon ∷ [])
unfolding statement ended_by_semicolon
simple_statement source s xs semicolon h p t zero rest d e = absurd (omega (arith, d))
simple_statement source s xs semicolon h p t (suc bound) rest d e =
    ap (statement source (suc bound)) (append_assoc xs (semicolon ∷ []) rest)
    ∙ ap (λ (q : Reads Stmt). q (xs ++ semicolon ∷ rest)) (not_keyword source (statement source bound) (next_word (xs ++ semicolon ∷ rest)) (simple_leads source s xs (semicolon ∷ rest) t))
    ∙ fails _ (no_print xs semicolon rest h p) (step _ (simple_read source s xs (semicolon ∷ rest) t (ap ends h)) (step _ (expects w.Semicolon semicolon rest h) refl))

print_statement : (source : List ℕ) (system dot out point println opening closing semicolon : Lexeme) (k : ℕ) (value : Expr) (xs : List Lexeme) → system.word ≡ w.System → dot.word ≡ w.Dot → out.word ≡ w.Out → point.word ≡ w.Dot → println.word ≡ w.Println → opening.word ≡ w.Open → closing.word ≡ w.Close → semicolon.word ≡ w.Semicolon
    → SpellsExpression source k value xs → IsRead source false (print_of system value) (system ∷ dot ∷ out ∷ point ∷ println ∷ opening ∷ xs ++ closing ∷ semicolon ∷ [])
unfolding statement statement_on r.print
print_statement source system dot out point println opening closing semicolon k value xs a b c d e f h i t zero rest l z = absurd (omega (arith, l))
print_statement source system dot out point println opening closing semicolon k value xs a b c d e f h i t (suc bound) rest l z =
    let behind : List Lexeme = xs ++ closing ∷ semicolon ∷ rest in
    let prints : r.is_print (system ∷ dot ∷ out ∷ point ∷ println ∷ opening ∷ behind) ≡ true = both _ _ (same system.word w.System a) (both _ _ (same dot.word w.Dot b) (both _ _ (same out.word w.Out c) (both _ _ (same point.word w.Dot d) (both _ _ (same println.word w.Println e) (same opening.word w.Open f))))) in
    ap (λ zs. statement source (suc bound) (system ∷ dot ∷ out ∷ point ∷ println ∷ opening ∷ zs)) (append_assoc xs (closing ∷ semicolon ∷ []) rest)
    ∙ ap (λ v. statement_on source (statement source bound) v (system ∷ dot ∷ out ∷ point ∷ println ∷ opening ∷ behind)) a
    ∙ passes _ prints
    (step _ (takes system (dot ∷ out ∷ point ∷ println ∷ opening ∷ behind)) (step _ (takes dot (out ∷ point ∷ println ∷ opening ∷ behind)) (step _ (takes out (point ∷ println ∷ opening ∷ behind)) (step _ (takes point (println ∷ opening ∷ behind)) (step _ (takes println (opening ∷ behind)) (step _ (takes opening behind)
    (step _ (value_read source k value xs (closing ∷ semicolon ∷ rest) t (ends_stop (closing ∷ semicolon ∷ rest) (ap ends h))) (step _ (expects w.Close closing (semicolon ∷ rest) h) (step _ (expects w.Semicolon semicolon rest i) refl)))))))))

empty_statement : (source : List ℕ) (semicolon : Lexeme) → semicolon.word ≡ w.Semicolon → IsRead source false (empty_of semicolon) (semicolon ∷ [])
unfolding statement statement_on r.empty
empty_statement source semicolon h zero rest d e = absurd (omega (arith, d))
empty_statement source semicolon h (suc bound) rest d e = ap (λ v. statement_on source (statement source bound) v (semicolon ∷ rest)) h ∙ step _ (takes semicolon rest) refl

return_nothing : (source : List ℕ) (x semicolon : Lexeme) → x.word ≡ w.Return → semicolon.word ≡ w.Semicolon → IsRead source false (return_of x None) (x ∷ semicolon ∷ [])
unfolding statement statement_on r.returned r.return_nothing
return_nothing source x semicolon h i zero rest d e = absurd (omega (arith, d))
return_nothing source x semicolon h i (suc bound) rest d e =
    ap (λ v. statement_on source (statement source bound) v (x ∷ semicolon ∷ rest)) h ∙ step _ (takes x (semicolon ∷ rest)) (passes _ (same semicolon.word w.Semicolon i) (step _ (takes semicolon rest) refl))

return_value : (source : List ℕ) (x semicolon : Lexeme) (k : ℕ) (value : Expr) (xs : List Lexeme) → x.word ≡ w.Return → semicolon.word ≡ w.Semicolon → SpellsExpression source k value xs → IsRead source false (return_of x (Some value)) (x ∷ xs ++ semicolon ∷ [])
unfolding statement statement_on r.returned r.return_value
return_value source x semicolon k value xs h i t zero rest d e = absurd (omega (arith, d))
return_value source x semicolon k value xs h i t (suc bound) rest d e =
    let behind : List Lexeme = semicolon ∷ rest in
    ap (λ zs. statement source (suc bound) (x ∷ zs)) (append_assoc xs (semicolon ∷ []) rest)
    ∙ ap (λ v. statement_on source (statement source bound) v (x ∷ xs ++ behind)) h
    ∙ step _ (takes x (xs ++ behind))
    (fails _ (different (next_word (xs ++ behind)) w.Semicolon (told (λ v. leads v) (next_word (xs ++ behind)) w.Semicolon (expression_leads source k value xs behind t) refl))
    (step _ (value_read source k value xs behind t (ends_stop behind (ap ends i))) (step _ (expects w.Semicolon semicolon rest i) refl)))

-- ---- statements of statements

condition_read : (source : List ℕ) (opening closing : Lexeme) (k : ℕ) (test : Expr) (ts rest : List Lexeme) → opening.word ≡ w.Open → closing.word ≡ w.Close → SpellsExpression source k test ts → condition source (opening ∷ (ts ++ closing ∷ rest)) ≡ Some (test, rest)
unfolding condition
condition_read source opening closing k test ts rest h i t =
    step _ (expects w.Open opening (ts ++ closing ∷ rest) h) (step _ (value_read source k test ts (closing ∷ rest) t (ends_stop (closing ∷ rest) (ap ends i))) (step _ (expects w.Close closing rest i) refl))

-- what stands behind a condition is shorter
shorter : (x opening closing : Lexeme) (ts ys rest : List Lexeme) (bound : ℕ) → length (x ∷ opening ∷ (ts ++ closing ∷ ys) ++ rest) < suc bound → length (ys ++ rest) < bound
shorter x opening closing ts ys rest bound d =
    let e = ap length (append_assoc ts (closing ∷ ys) rest) in
    let f = length-append ts (closing ∷ (ys ++ rest)) in
    omega (arith, d, e, f)

if_alone : (source : List ℕ) (ends_open : Bool) (x opening closing : Lexeme) (k : ℕ) (test : Expr) (then_part : Stmt) (ts ys : List Lexeme) → x.word ≡ w.If → opening.word ≡ w.Open → closing.word ≡ w.Close → SpellsExpression source k test ts → IsRead source ends_open then_part ys → IsRead source true (if_of x test then_part None) (x ∷ opening ∷ ts ++ closing ∷ ys)
unfolding statement statement_on r.conditional
if_alone source ends_open x opening closing k test then_part ts ys h i j t then_read zero rest d e = absurd (omega (arith, d))
if_alone source ends_open x opening closing k test then_part ts ys h i j t then_read (suc bound) rest d e =
    let behind : List Lexeme = opening ∷ (ts ++ closing ∷ (ys ++ rest)) in
    ap (λ zs. statement source (suc bound) (x ∷ opening ∷ zs)) (append_assoc ts (closing ∷ ys) rest)
    ∙ ap (λ v. statement_on source (statement source bound) v (x ∷ behind)) h
    ∙ step _ (takes x behind) (step _ (condition_read source opening closing k test ts (ys ++ rest) i j t)
    (step _ (then_read bound rest (shorter x opening closing ts ys rest bound d) (λ z. e refl))
    (fails _ (different (next_word rest) w.Else (e refl)) refl)))

if_else : (source : List ℕ) (ends_open : Bool) (x opening closing other : Lexeme) (k : ℕ) (test : Expr) (then_part else_part : Stmt) (ts ys ns : List Lexeme) → x.word ≡ w.If → opening.word ≡ w.Open → closing.word ≡ w.Close → other.word ≡ w.Else → SpellsExpression source k test ts → IsRead source false then_part ys → IsRead source ends_open else_part ns → IsRead source ends_open (if_of x test then_part (Some else_part)) (x ∷ opening ∷ ts ++ closing ∷ ys ++ other ∷ ns)
unfolding statement statement_on r.conditional r.otherwise
if_else source ends_open x opening closing other k test then_part else_part ts ys ns h i j l t then_read else_read zero rest d e = absurd (omega (arith, d))
if_else source ends_open x opening closing other k test then_part else_part ts ys ns h i j l t then_read else_read (suc bound) rest d e =
    let last : List Lexeme = other ∷ (ns ++ rest) in
    let behind : List Lexeme = opening ∷ (ts ++ closing ∷ (ys ++ last)) in
    let list : (x ∷ opening ∷ ts ++ closing ∷ ys ++ other ∷ ns) ++ rest ≡ x ∷ behind = simp append_assoc in
    let whole = ap length list in
    let tests = length-append ts (closing ∷ (ys ++ last)) in
    let thens = length-append ys last in
    ap (statement source (suc bound)) list
    ∙ ap (λ v. statement_on source (statement source bound) v (x ∷ behind)) h
    ∙ step _ (takes x behind) (step _ (condition_read source opening closing k test ts (ys ++ last) i j t)
    (step _ (then_read bound last (omega (arith, d, whole, tests)) (λ z. cc))
    (passes _ (same other.word w.Else l) (step _ (takes other (ns ++ rest)) (step _ (else_read bound rest (omega (arith, d, whole, tests, thens)) e) refl)))))

while_loop : (source : List ℕ) (ends_open : Bool) (x opening closing : Lexeme) (k : ℕ) (test : Expr) (body : Stmt) (ts bs : List Lexeme) → x.word ≡ w.While → opening.word ≡ w.Open → closing.word ≡ w.Close → SpellsExpression source k test ts → IsRead source ends_open body bs → IsRead source ends_open (while_of x test body) (x ∷ opening ∷ ts ++ closing ∷ bs)
unfolding statement statement_on r.while_loop
while_loop source ends_open x opening closing k test body ts bs h i j t body_read zero rest d e = absurd (omega (arith, d))
while_loop source ends_open x opening closing k test body ts bs h i j t body_read (suc bound) rest d e =
    let behind : List Lexeme = opening ∷ (ts ++ closing ∷ (bs ++ rest)) in
    ap (λ zs. statement source (suc bound) (x ∷ opening ∷ zs)) (append_assoc ts (closing ∷ bs) rest)
    ∙ ap (λ v. statement_on source (statement source bound) v (x ∷ behind)) h
    ∙ step _ (takes x behind) (step _ (condition_read source opening closing k test ts (bs ++ rest) i j t)
    (step _ (body_read bound rest (shorter x opening closing ts bs rest bound d) e) refl))

for_parts_read : (source : List ℕ) (opening semicolon again closing : Lexeme) (k : ℕ) (begin : Stmt) (test : Expr) (last : Stmt) (fs ts ls rest : List Lexeme) → opening.word ≡ w.Open → semicolon.word ≡ w.Semicolon → again.word ≡ w.Semicolon → closing.word ≡ w.Close
    → SpellsFirst source begin fs → SpellsExpression source k test ts → SpellsSimple source last ls
    → r.for_parts source (opening ∷ (fs ++ semicolon ∷ (ts ++ again ∷ (ls ++ closing ∷ rest)))) ≡ Some (record { first = begin; test = test; last = last }, rest)
unfolding r.for_parts r.first_part r.test_part r.last_part
for_parts_read source opening semicolon again closing k begin test last fs ts ls rest i j l m f t u =
    let closed : List Lexeme = closing ∷ rest in
    let third : List Lexeme = again ∷ (ls ++ closed) in
    let second : List Lexeme = semicolon ∷ (ts ++ third) in
    step _ (step _ (expects w.Open opening (fs ++ second) i) (step _ (first_read source begin fs semicolon (ts ++ third) f j) (step _ (expects w.Semicolon semicolon (ts ++ third) j) refl)))
    (step _ (step _ (value_read source k test ts third t (ends_stop third (ap ends l))) (step _ (expects w.Semicolon again (ls ++ closed) l) refl))
    (step _ (step _ (simple_read source last ls closed u (ap ends m)) (step _ (expects w.Close closing rest m) refl)) refl))

for_loop : (source : List ℕ) (ends_open : Bool) (x opening semicolon again closing : Lexeme) (k : ℕ) (begin : Stmt) (test : Expr) (last body : Stmt) (fs ts ls bs : List Lexeme) → x.word ≡ w.For → opening.word ≡ w.Open → semicolon.word ≡ w.Semicolon → again.word ≡ w.Semicolon → closing.word ≡ w.Close
    → SpellsFirst source begin fs → SpellsExpression source k test ts → SpellsSimple source last ls → IsRead source ends_open body bs
    → IsRead source ends_open (for_of x begin test last body) (x ∷ opening ∷ fs ++ semicolon ∷ ts ++ again ∷ ls ++ closing ∷ bs)
unfolding statement statement_on r.for_loop
for_loop source ends_open x opening semicolon again closing k begin test last body fs ts ls bs h i j l m f t u body_read zero rest d e = absurd (omega (arith, d))
for_loop source ends_open x opening semicolon again closing k begin test last body fs ts ls bs h i j l m f t u body_read (suc bound) rest d e =
    let closed : List Lexeme = closing ∷ (bs ++ rest) in
    let third : List Lexeme = again ∷ (ls ++ closed) in
    let second : List Lexeme = semicolon ∷ (ts ++ third) in
    let behind : List Lexeme = opening ∷ (fs ++ second) in
    let list : (x ∷ opening ∷ fs ++ semicolon ∷ ts ++ again ∷ ls ++ closing ∷ bs) ++ rest ≡ x ∷ behind = simp append_assoc in
    let whole = ap length list in
    let a = length-append fs second in
    let b = length-append ts third in
    let c = length-append ls closed in
    ap (statement source (suc bound)) list
    ∙ ap (λ v. statement_on source (statement source bound) v (x ∷ behind)) h
    ∙ step _ (takes x behind) (step _ (for_parts_read source opening semicolon again closing k begin test last fs ts ls (bs ++ rest) i j l m f t u)
    (step _ (body_read bound rest (omega (arith, d, whole, a, b, c)) e) refl))

-- ---- blocks

pub block_read : (source : List ℕ) (opening closing : Lexeme) (items : List Stmt) (xs : List Lexeme) → opening.word ≡ w.OpenBrace → closing.word ≡ w.CloseBrace → IsReadItems source items xs → (bound : ℕ) (rest : List Lexeme) → length (xs ++ closing ∷ rest) < bound → block source (statement source bound) (opening ∷ (xs ++ closing ∷ rest)) ≡ Some (record { opening = opening; items = items; to = closing.token }, rest)
unfolding block
block_read source opening closing items xs h i read bound rest d =
    let behind : List Lexeme = closing ∷ rest in
    step _ (expects w.OpenBrace opening (xs ++ behind) h) (step _ (read bound (length (xs ++ behind)) [] behind d (omega (arith, length-append xs behind)) i) (step _ (expects w.CloseBrace closing rest i) refl))

block_statement : (source : List ℕ) (opening closing : Lexeme) (items : List Stmt) (xs : List Lexeme) → opening.word ≡ w.OpenBrace → closing.word ≡ w.CloseBrace → IsReadItems source items xs → IsRead source false (block_of opening items) (opening ∷ xs ++ closing ∷ [])
unfolding statement statement_on r.braced
block_statement source opening closing items xs h i read zero rest d e = absurd (omega (arith, d))
block_statement source opening closing items xs h i read (suc bound) rest d e =
    let list = append_assoc xs (closing ∷ []) rest in
    ap (λ zs. statement source (suc bound) (opening ∷ zs)) list
    ∙ ap (λ v. statement_on source (statement source bound) v (opening ∷ xs ++ closing ∷ rest)) h
    ∙ step _ (block_read source opening closing items xs h i read bound rest (omega (arith, d, ap length list))) refl

local_item : (source : List ℕ) (s : Stmt) (xs : List Lexeme) (semicolon : Lexeme) → semicolon.word ≡ w.Semicolon → SpellsLocal source s xs → IsReadItem source s (xs ++ semicolon ∷ [])
unfolding item ended_by_semicolon
local_item source s xs semicolon h t bound rest d e =
    ap (item source (statement source bound)) (append_assoc xs (semicolon ∷ []) rest)
    ∙ passes _ (local_is_local source s xs (semicolon ∷ rest) t) (step _ (local_read source s xs (semicolon ∷ rest) t (ends_stop (semicolon ∷ rest) (ap ends h))) (step _ (expects w.Semicolon semicolon rest h) refl))

-- no statement begins as a local does
statement_no_local : (source : List ℕ) (ends_open : Bool) (s : Stmt) (xs rest : List Lexeme) → SpellsStatement source ends_open s xs → is_local (xs ++ rest) ≡ false
statement_no_local source _ _ _ rest (g.block opening closing items xs h i t) = keyword_no_local opening w.OpenBrace ((xs ++ closing ∷ []) ++ rest) h refl refl
statement_no_local source _ _ _ rest (g.empty semicolon h) = keyword_no_local semicolon w.Semicolon rest h refl refl
statement_no_local source _ _ _ rest (g.SpellsStatement.simple s xs semicolon h p t) = ap is_local (append_assoc xs (semicolon ∷ []) rest) ∙ simple_no_local source s xs semicolon rest t (ap ends h)
statement_no_local source _ _ _ rest (g.if_alone ends_open x opening closing k test then_part ts ys h i j t u) = keyword_no_local x w.If ((opening ∷ ts ++ closing ∷ ys) ++ rest) h refl refl
statement_no_local source _ _ _ rest (g.if_else ends_open x opening closing other k test then_part else_part ts ys ns h i j l t u v) = keyword_no_local x w.If ((opening ∷ ts ++ closing ∷ ys ++ other ∷ ns) ++ rest) h refl refl
statement_no_local source _ _ _ rest (g.while_loop ends_open x opening closing k test body ts bs h i j t u) = keyword_no_local x w.While ((opening ∷ ts ++ closing ∷ bs) ++ rest) h refl refl
statement_no_local source _ _ _ rest (g.for_loop ends_open x opening semicolon again closing k begin test last body fs ts ls bs h i j l m f t u v) = keyword_no_local x w.For ((opening ∷ fs ++ semicolon ∷ ts ++ again ∷ ls ++ closing ∷ bs) ++ rest) h refl refl
statement_no_local source _ _ _ rest (g.return_nothing x semicolon h i) = keyword_no_local x w.Return (semicolon ∷ rest) h refl refl
statement_no_local source _ _ _ rest (g.return_value x semicolon k value xs h i t) = keyword_no_local x w.Return ((xs ++ semicolon ∷ []) ++ rest) h refl refl
statement_no_local source _ _ _ rest (g.print system dot out point println opening closing semicolon k value xs a b c d e f h i t) = named_no_local system dot ((out ∷ point ∷ println ∷ opening ∷ xs ++ closing ∷ semicolon ∷ []) ++ rest) (ap is_name a) (ap is_name b) (λ z. cc)

statement_goes : (source : List ℕ) (ends_open : Bool) (s : Stmt) (xs : List Lexeme) → SpellsStatement source ends_open s xs → Goes xs
statement_goes source _ _ _ (g.block opening closing items xs h i t) rest = ap goes h
statement_goes source _ _ _ (g.empty semicolon h) rest = ap goes h
statement_goes source _ _ _ (g.SpellsStatement.simple s xs semicolon h p t) rest = leads_goes _ (ap (λ (vs : List Lexeme). leads (next_word vs)) (append_assoc xs (semicolon ∷ []) rest) ∙ simple_leads source s xs (semicolon ∷ rest) t)
statement_goes source _ _ _ (g.if_alone ends_open x opening closing k test then_part ts ys h i j t u) rest = ap goes h
statement_goes source _ _ _ (g.if_else ends_open x opening closing other k test then_part else_part ts ys ns h i j l t u v) rest = ap goes h
statement_goes source _ _ _ (g.while_loop ends_open x opening closing k test body ts bs h i j t u) rest = ap goes h
statement_goes source _ _ _ (g.for_loop ends_open x opening semicolon again closing k begin test last body fs ts ls bs h i j l m f t u v) rest = ap goes h
statement_goes source _ _ _ (g.return_nothing x semicolon h i) rest = ap goes h
statement_goes source _ _ _ (g.return_value x semicolon k value xs h i t) rest = ap goes h
statement_goes source _ _ _ (g.print system dot out point println opening closing semicolon k value xs a b c d e f h i t) rest = ap goes a

item_goes : (source : List ℕ) (s : Stmt) (xs : List Lexeme) → SpellsItem source s xs → Goes xs
item_goes source _ _ (g.SpellsItem.local s xs semicolon h t) rest = ap (λ (vs : List Lexeme). goes (next_word vs)) (append_assoc xs (semicolon ∷ []) rest) ∙ local_goes source s xs t (semicolon ∷ rest)
item_goes source s xs (g.SpellsItem.statement ends_open t) rest = statement_goes source ends_open s xs t rest

-- no `else` follows an item
items_no_else : (source : List ℕ) (ss : List Stmt) (xs rest : List Lexeme) → SpellsItems source ss xs → next_word rest ≡ w.CloseBrace → NoElse (xs ++ rest)
items_no_else source _ _ rest g.no_item h z = cc
items_no_else source _ _ rest (g.item s ss xs ys t u) h z =
    told (λ v. goes v) (next_word ((xs ++ ys) ++ rest)) w.Else (ap (λ (vs : List Lexeme). goes (next_word vs)) (append_assoc xs ys rest) ∙ item_goes source s xs t (ys ++ rest)) refl z

item_of_statement : (source : List ℕ) (ends_open : Bool) (s : Stmt) (xs : List Lexeme) → SpellsStatement source ends_open s xs → IsRead source ends_open s xs → IsReadItem source s xs
unfolding item
item_of_statement source ends_open s xs t read bound rest d e = fails _ (statement_no_local source ends_open s xs rest t) (read bound rest d (λ z. e))

no_items : (source : List ℕ) → IsReadItems source [] []
no_items source bound turns found rest d l h = list_ends (sees_no w.CloseBrace) (item source (statement source bound)) turns found rest (ap not (same (next_word rest) w.CloseBrace h))

more_items : (source : List ℕ) (s : Stmt) (ss : List Stmt) (xs ys : List Lexeme) → Goes xs → ((rest : List Lexeme) → next_word rest ≡ w.CloseBrace → NoElse (ys ++ rest)) → IsReadItem source s xs → IsReadItems source ss ys → IsReadItems source (s ∷ ss) (xs ++ ys)
more_items source s ss xs ys begins no_else one more bound turns found rest d l h =
    let whole = ap length (append_assoc xs ys rest) in
    let part = length-append xs (ys ++ rest) in
    list_more (sees_no w.CloseBrace) (item source (statement source bound)) s ss xs ys rest (goes_no_brace _ (begins (ys ++ rest))) (goes_some xs begins) (one bound (ys ++ rest) (omega (arith, d, whole)) (no_else rest h))
    (λ turns' found' l'. more bound turns' found' rest (omega (arith, d, whole, part)) l' h) turns found l

-- ---- all

mutual
  spelled_read : (source : List ℕ) (ends_open : Bool) (s : Stmt) (xs : List Lexeme) → SpellsStatement source ends_open s xs → IsRead source ends_open s xs
  spelled_read source _ _ _ (g.block opening closing items xs h i t) = block_statement source opening closing items xs h i (items_read source items xs t)
  spelled_read source _ _ _ (g.empty semicolon h) = empty_statement source semicolon h
  spelled_read source _ _ _ (g.SpellsStatement.simple s xs semicolon h p t) = simple_statement source s xs semicolon h p t
  spelled_read source _ _ _ (g.if_alone ends_open x opening closing k test then_part ts ys h i j t u) = if_alone source ends_open x opening closing k test then_part ts ys h i j t (spelled_read source ends_open then_part ys u)
  spelled_read source _ _ _ (g.if_else ends_open x opening closing other k test then_part else_part ts ys ns h i j l t u v) =
      if_else source ends_open x opening closing other k test then_part else_part ts ys ns h i j l t (spelled_read source false then_part ys u) (spelled_read source ends_open else_part ns v)
  spelled_read source _ _ _ (g.while_loop ends_open x opening closing k test body ts bs h i j t u) = while_loop source ends_open x opening closing k test body ts bs h i j t (spelled_read source ends_open body bs u)
  spelled_read source _ _ _ (g.for_loop ends_open x opening semicolon again closing k begin test last body fs ts ls bs h i j l m f t u v) =
      for_loop source ends_open x opening semicolon again closing k begin test last body fs ts ls bs h i j l m f t u (spelled_read source ends_open body bs v)
  spelled_read source _ _ _ (g.return_nothing x semicolon h i) = return_nothing source x semicolon h i
  spelled_read source _ _ _ (g.return_value x semicolon k value xs h i t) = return_value source x semicolon k value xs h i t
  spelled_read source _ _ _ (g.print system dot out point println opening closing semicolon k value xs a b c d e f h i t) = print_statement source system dot out point println opening closing semicolon k value xs a b c d e f h i t

  item_read : (source : List ℕ) (s : Stmt) (xs : List Lexeme) → SpellsItem source s xs → IsReadItem source s xs
  item_read source _ _ (g.SpellsItem.local s xs semicolon h t) = local_item source s xs semicolon h t
  item_read source s xs (g.SpellsItem.statement ends_open t) = item_of_statement source ends_open s xs t (spelled_read source ends_open s xs t)

  pub items_read : (source : List ℕ) (ss : List Stmt) (xs : List Lexeme) → SpellsItems source ss xs → IsReadItems source ss xs
  items_read source _ _ g.no_item = no_items source
  items_read source _ _ (g.item s ss xs ys t u) = more_items source s ss xs ys (item_goes source s xs t) (λ rest. items_no_else source ss ys rest u) (item_read source s xs t) (items_read source ss ys u)

pub statement_read : {source : List ℕ} {ends_open : Bool} {s : Stmt} {xs rest : List Lexeme} (n : ℕ) → SpellsStatement source ends_open s xs → length (xs ++ rest) < n → (ends_open ≡ true → next_word rest ≡ w.Else → ⊥) → statement source n (xs ++ rest) ≡ Some (s, rest)
statement_read {source} {ends_open} {s} {xs} {rest} n t d e = spelled_read source ends_open s xs t n rest d e
