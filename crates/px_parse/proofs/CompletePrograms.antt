-- What spells a program is read, so no text spells two.
use Rattle.std.proofs.Common.{◌≡◌, ℕ, ◌≤◌, Bool, true, false, not, List, [], ◌∷◌, ◌++◌, length, Some, None, refl, sym, ap, ◌∙◌, append_assoc, arith, length-append}
use Rattle.px_words.specs.declared.lexeme.Lexeme.{Lexeme}
use Rattle.px_words.specs.declared.lexeme.Word.{Word}
use Rattle.px_words.specs.declared.lexeme.Word.TheVariants as w
use Rattle.px_tree.specs.declared.Class.{Class}
use Rattle.px_tree.specs.declared.Column.{Column}
use Rattle.px_tree.specs.declared.TableDecl.{TableDecl}
use Rattle.px_parse.specs.Trees.{column_of}
use Rattle.px_parse.specs.declared.whole.Declared.{Declared}
use Rattle.px_parse.specs.Grammar as g
use Rattle.px_parse.specs.Grammar.{SpellsPublic, SpellsClass, SpellsClasses, SpellsMoreColumns, SpellsTable, SpellsTables, SpellsProgram}
use Rattle.px_parse.specs.Reading as r
use Rattle.px_parse.specs.Reading.{Read, Reads, next_word, same_word, sees, sees_no, by_test, repeated, skip, class, column, next_column, table, program}
use Rattle.px_parse.proofs.CompleteSteps.{step, passes, fails, same, different, takes, expects, list_ends, list_more, goes, told, goes_no_end, Goes, goes_some}
use Rattle.px_parse.proofs.CompleteMembers.{members_read}

-- ---- classes

public_read : (ms rest : List Lexeme) → SpellsPublic ms → next_word rest ≡ w.Class → by_test (sees w.Public) skip (r.pure tt) (ms ++ rest) ≡ Some (tt, rest)
unfolding skip
public_read _ rest g.left_out h = fails _ (different (next_word rest) w.Public (λ z. cc)) refl
public_read _ rest (g.written x i) h = passes _ (same x.word w.Public i) (step _ (takes x rest) refl)

class_read : (source : List ℕ) (c : Class) (xs rest : List Lexeme) → SpellsClass source c xs → class source (xs ++ rest) ≡ Some (c, rest)
unfolding class
class_read source _ _ rest (g.SpellsClass.class word name opening closing members ms xs h i j k p t) =
    let behind : List Lexeme = closing ∷ rest in
    let list : (ms ++ word ∷ name ∷ opening ∷ xs ++ closing ∷ []) ++ rest ≡ ms ++ (word ∷ name ∷ opening ∷ (xs ++ behind)) = simp append_assoc in
    ap (class source) list
    ∙ step _ (public_read ms (word ∷ name ∷ opening ∷ (xs ++ behind)) p h) (step _ (expects w.Class word (name ∷ opening ∷ (xs ++ behind)) h) (step _ (takes name (opening ∷ (xs ++ behind))) (step _ (expects w.OpenBrace opening (xs ++ behind) j)
    (step _ (members_read source members xs behind t k (length (xs ++ behind)) [] (omega (arith, length-append xs behind))) (step _ (expects w.CloseBrace closing rest k) refl)))))

-- a class begins with `public` or `class`
abbrev begins_class : Word → Bool
begins_class w.Public = true
begins_class w.Class = true
begins_class _ = false

class_first : (source : List ℕ) (c : Class) (xs rest : List Lexeme) → SpellsClass source c xs → begins_class (next_word (xs ++ rest)) ≡ true
class_first source _ _ rest (g.SpellsClass.class word name opening closing members _ xs h i j k g.left_out t) = ap begins_class h
class_first source _ _ rest (g.SpellsClass.class word name opening closing members _ xs h i j k (g.written x p) t) = ap begins_class p

begins_class_goes : (v : Word) → begins_class v ≡ true → goes v ≡ true
begins_class_goes w.Public h = refl
begins_class_goes w.Class h = refl
begins_class_goes _ h = cc

classes_read : (source : List ℕ) (cs : List Class) (xs rest : List Lexeme) → SpellsClasses source cs xs → next_word rest ≡ w.End → (turns : ℕ) (found : List Class) → length xs ≤ turns → repeated (sees_no w.End) (class source) turns found (xs ++ rest) ≡ Some (found ++ cs, rest)
classes_read source _ _ rest g.no_class h turns found l = list_ends (sees_no w.End) (class source) turns found rest (ap not (same (next_word rest) w.End h))
classes_read source _ _ rest (g.SpellsClasses.class c cs xs ys t u) h turns found l =
    let begins : Goes xs = λ behind. begins_class_goes _ (class_first source c xs behind t) in
    list_more (sees_no w.End) (class source) c cs xs ys rest (goes_no_end _ (begins (ys ++ rest))) (goes_some xs begins) (class_read source c xs (ys ++ rest) t) (classes_read source cs ys rest u h) turns found l

-- ---- tables

column_read : (source : List ℕ) (name ty : Lexeme) (rest : List Lexeme) → column source (name ∷ ty ∷ rest) ≡ Some (column_of source name ty, rest)
unfolding column
column_read source name ty rest = step _ (takes name (ty ∷ rest)) (step _ (takes ty rest) refl)

next_column_read : (source : List ℕ) (comma name ty : Lexeme) (rest : List Lexeme) → next_column source (comma ∷ name ∷ ty ∷ rest) ≡ Some (column_of source name ty, rest)
unfolding next_column
next_column_read source comma name ty rest = step _ (takes comma (name ∷ ty ∷ rest)) (column_read source name ty rest)

more_columns_read : (source : List ℕ) (cs : List Column) (xs rest : List Lexeme) → SpellsMoreColumns source cs xs → next_word rest ≡ w.Close → (turns : ℕ) (found : List Column) → length xs ≤ turns → repeated (sees w.Comma) (next_column source) turns found (xs ++ rest) ≡ Some (found ++ cs, rest)
more_columns_read source _ _ rest g.SpellsMoreColumns.no_more h turns found l = list_ends (sees w.Comma) (next_column source) turns found rest (different (next_word rest) w.Comma (λ z. cc))
more_columns_read source _ _ rest (g.SpellsMoreColumns.more comma name ty cs xs i j k t) h turns found l =
    list_more (sees w.Comma) (next_column source) (column_of source name ty) cs (comma ∷ name ∷ ty ∷ []) xs rest (same comma.word w.Comma i) (omega arith) (next_column_read source comma name ty (xs ++ rest)) (more_columns_read source cs xs rest t h) turns found l

table_read : (source : List ℕ) (t : TableDecl) (xs rest : List Lexeme) → SpellsTable source t xs → table source (xs ++ rest) ≡ Some (t, rest)
unfolding table
table_read source _ _ rest (g.SpellsTable.table create word name opening first ty closing semicolon cs xs a b c d e f h i t) =
    let behind : List Lexeme = closing ∷ semicolon ∷ rest in
    let columns : List Lexeme = first ∷ ty ∷ (xs ++ behind) in
    ap (λ zs. table source (create ∷ word ∷ name ∷ opening ∷ first ∷ ty ∷ zs)) (append_assoc xs (closing ∷ semicolon ∷ []) rest)
    ∙ step _ (expects w.Create create (word ∷ name ∷ opening ∷ columns) a) (step _ (expects w.Table word (name ∷ opening ∷ columns) b) (step _ (takes name (opening ∷ columns)) (step _ (expects w.Open opening columns d) (step _ (column_read source first ty (xs ++ behind))
    (step _ (more_columns_read source cs xs behind t h (length (xs ++ behind)) (column_of source first ty ∷ []) (omega (arith, length-append xs behind))) (step _ (expects w.Close closing (semicolon ∷ rest) h) (step _ (expects w.Semicolon semicolon rest i) refl)))))))

table_first : (source : List ℕ) (t : TableDecl) (xs rest : List Lexeme) → SpellsTable source t xs → next_word (xs ++ rest) ≡ w.Create
table_first source _ _ rest (g.SpellsTable.table create word name opening first ty closing semicolon cs xs a b c d e f h i t) = a

tables_read : (source : List ℕ) (ts : List TableDecl) (xs rest : List Lexeme) → SpellsTables source ts xs → (next_word rest ≡ w.Create → ⊥) → (turns : ℕ) (found : List TableDecl) → length xs ≤ turns → repeated (sees w.Create) (table source) turns found (xs ++ rest) ≡ Some (found ++ ts, rest)
tables_read source _ _ rest g.no_table h turns found l = list_ends (sees w.Create) (table source) turns found rest (different (next_word rest) w.Create h)
tables_read source _ _ rest (g.SpellsTables.table t ts xs ys u v) h turns found l =
    let begins : Goes xs = λ behind. ap goes (table_first source t xs behind u) in
    list_more (sees w.Create) (table source) t ts xs ys rest (same _ w.Create (table_first source t xs (ys ++ rest) u)) (goes_some xs begins) (table_read source t xs (ys ++ rest) u) (tables_read source ts ys rest v h) turns found l

-- ---- programs

pub program_read : (source : List ℕ) (d : Declared) (xs : List Lexeme) → SpellsProgram source d xs → program source xs ≡ Some (d, [])
unfolding program
program_read source _ _ (g.program tables c cs finish ts xs ys h t u v) =
    let last : List Lexeme = finish ∷ [] in
    let behind : List Lexeme = xs ++ (ys ++ last) in
    let list : behind ≡ (xs ++ ys) ++ last = sym (append_assoc xs ys last) in
    let classes = classes_read source (c ∷ cs) (xs ++ ys) last (g.SpellsClasses.class c cs xs ys u v) h (length behind) [] (omega (arith, ap length list, length-append (xs ++ ys) last)) in
    step _ (tables_read source tables ts behind t (told (λ x. begins_class x) (next_word behind) w.Create (class_first source c xs (ys ++ last) u) refl) (length (ts ++ behind)) [] (omega (arith, length-append ts behind)))
    (step _ (ap (repeated (sees_no w.End) (class source) (length behind) []) list ∙ classes) (step _ (expects w.End finish [] h) refl))

abbrev found_or : Declared → Read Declared → Declared
found_or d (Some x) = x.0
found_or d None = d

pub one_tree : {source : List ℕ} {d c : Declared} {xs : List Lexeme} → SpellsProgram source d xs → SpellsProgram source c xs → d ≡ c
one_tree {source} {d} {c} {xs} h k = ap (found_or d) (sym (program_read source d xs h) ∙ program_read source c xs k)
