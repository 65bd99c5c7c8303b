-- The grammar, a part of Java's (JLS SE 8, chapters 8, 14 and 15): which lexemes spell which tree. A
-- constructor is a rule. `source` is the text, for the spelling of names and literals; numbers `id` are 0.
use Rattle.std.specs.Prelude.{◌≡◌, ◌≢◌, ◌≤◌, ◌<◌, ℕ, Bool, true, false, List, [], ◌∷◌, ◌++◌, Option, Some, None}
use Rattle.px_words.specs.declared.lexeme.Lexeme.{Lexeme}
use Rattle.px_words.specs.declared.lexeme.Word.{Word}
use Rattle.px_words.specs.declared.lexeme.Word.TheVariants as w
use Rattle.px_tree.specs.declared.Sign.{Sign}
use Rattle.px_tree.specs.declared.Expr.{Expr}
use Rattle.px_tree.specs.declared.ExprForm.{ExprForm}
use Rattle.px_tree.specs.declared.Stmt.{Stmt}
use Rattle.px_tree.specs.declared.Access.{Access}
use Rattle.px_tree.specs.declared.Access.TheVariants.{Public, Private, Plain}
use Rattle.px_tree.specs.declared.TypeName.{TypeName}
use Rattle.px_tree.specs.declared.Param.{Param}
use Rattle.px_tree.specs.declared.Member.{Member}
use Rattle.px_tree.specs.declared.Class.{Class}
use Rattle.px_tree.specs.declared.Column.{Column}
use Rattle.px_tree.specs.declared.TableDecl.{TableDecl}
use Rattle.px_parse.specs.declared.whole.Declared.{Declared}
use Rattle.px_words.specs.Lexemes.{is_name}
use Rattle.px_words.specs.Words.{binary_sign, level, tightest, prefix_sign, cast_sign, compound_sign, is_base, is_column_type}
use Rattle.px_parse.specs.Trees.{first_token, single_type_of, array_type_of, expression_of, number_of, text_of, word_form, variable_of, group_of, field_of, element_of, own_call_of, call_of, object_of, array_of, prefix_of, binary_of, block_of, empty_of, local_of, assignment_of, compound_of, up_of, down_of, call_statement_of, if_of, while_of, for_of, return_of, print_of, param_of, field_declaration_of, method_with, class_of, column_of, table_of}

-- ---- types

-- Type = Base "[" "]" | Base (JLS SE 8, 4)
pub data SpellsType (source : List ℕ) : TypeName → List Lexeme → Type 0 where
  single : (x : Lexeme) → is_base x.word ≡ true → SpellsType source (single_type_of source x) (x ∷ [])
  array : (x opening closing : Lexeme) → is_base x.word ≡ true → opening.word ≡ w.OpenBracket → closing.word ≡ w.CloseBracket → SpellsType source (array_type_of source x) (x ∷ opening ∷ closing ∷ [])

-- ---- expressions

-- what a postfix ends in
pub data Ending : Type 0 where
  AtName AtField AtElement AtCall AtArray AtPrimary : Ending

-- Expression = Operand | Expression BinarySign Expression, by level, each level to the left (JLS SE 8, 15.7). The number is how tightly
-- the expression binds.
-- Operand = PrefixSign Operand | "(" ("int" | "long") ")" Operand | Postfix (JLS SE 8, 15.15, 15.16)
-- Postfix = Literal | Word | Name | Name Args | "(" Expression ")" | "new" Name "(" ")" | "new" Base "[" Expression "]" | Postfix "." Name
--     | Postfix "." Name Args | Postfix "[" Expression "]", not directly behind a new array (JLS SE 8, 15.8 to 15.12)
-- Args = "(" (Expression ("," Expression)*)? ")"
mutual
  pub data SpellsExpression (source : List ℕ) : ℕ → Expr → List Lexeme → Type 0 where
    operand : {e : Expr} {xs : List Lexeme} → SpellsOperand source e xs → SpellsExpression source tightest e xs
    binary : (at : Lexeme) (op : Sign) (k m : ℕ) (l r : Expr) (ls rs : List Lexeme) → binary_sign at.word ≡ Some op → level op ≤ k → level op < m → SpellsExpression source k l ls → SpellsExpression source m r rs → SpellsExpression source (level op) (binary_of op at l r) (ls ++ at ∷ rs)

  pub data SpellsOperand (source : List ℕ) : Expr → List Lexeme → Type 0 where
    prefix : (x : Lexeme) (op : Sign) (e : Expr) (xs : List Lexeme) → prefix_sign x.word ≡ Some op → SpellsOperand source e xs → SpellsOperand source (prefix_of op x e) (x ∷ xs)
    cast : (opening x closing : Lexeme) (op : Sign) (e : Expr) (xs : List Lexeme) → opening.word ≡ w.Open → cast_sign x.word ≡ Some op → closing.word ≡ w.Close → SpellsOperand source e xs → SpellsOperand source (prefix_of op opening e) (opening ∷ x ∷ closing ∷ xs)
    postfix : (ending : Ending) {e : Expr} {xs : List Lexeme} → SpellsPostfix source ending e xs → SpellsOperand source e xs

  pub data SpellsPostfix (source : List ℕ) : Ending → Expr → List Lexeme → Type 0 where
    number : (x : Lexeme) → x.word ≡ w.Number → SpellsPostfix source AtPrimary (number_of source x) (x ∷ [])
    text : (x : Lexeme) → x.word ≡ w.Text → SpellsPostfix source AtPrimary (text_of source x) (x ∷ [])
    word : (x : Lexeme) (form : ExprForm) → word_form x.word ≡ Some form → SpellsPostfix source AtPrimary (expression_of x.token form) (x ∷ [])
    variable : (x : Lexeme) → is_name x.word ≡ true → SpellsPostfix source AtName (variable_of source x) (x ∷ [])
    own_call : (x : Lexeme) (args : List Expr) (xs : List Lexeme) → is_name x.word ≡ true → SpellsArguments source args xs → SpellsPostfix source AtCall (own_call_of source x args) (x ∷ xs)
    group : (opening closing : Lexeme) (k : ℕ) (inner : Expr) (xs : List Lexeme) → opening.word ≡ w.Open → closing.word ≡ w.Close → SpellsExpression source k inner xs → SpellsPostfix source AtPrimary (group_of opening inner) (opening ∷ xs ++ closing ∷ [])
    object : (new name opening closing : Lexeme) → new.word ≡ w.New → is_name name.word ≡ true → opening.word ≡ w.Open → closing.word ≡ w.Close → SpellsPostfix source AtPrimary (object_of source new name) (new ∷ name ∷ opening ∷ closing ∷ [])
    array : (new base opening closing : Lexeme) (k : ℕ) (size : Expr) (xs : List Lexeme) → new.word ≡ w.New → is_base base.word ≡ true → opening.word ≡ w.OpenBracket → closing.word ≡ w.CloseBracket → SpellsExpression source k size xs → SpellsPostfix source AtArray (array_of source new base size) (new ∷ base ∷ opening ∷ xs ++ closing ∷ [])
    field : (ending : Ending) (of : Expr) (xs : List Lexeme) (dot name : Lexeme) → dot.word ≡ w.Dot → is_name name.word ≡ true → SpellsPostfix source ending of xs → SpellsPostfix source AtField (field_of source of name) (xs ++ dot ∷ name ∷ [])
    call : (ending : Ending) (of : Expr) (args : List Expr) (xs ys : List Lexeme) (dot name : Lexeme) → dot.word ≡ w.Dot → is_name name.word ≡ true → SpellsPostfix source ending of xs → SpellsArguments source args ys → SpellsPostfix source AtCall (call_of source of name args) (xs ++ dot ∷ name ∷ ys)
    element : (ending : Ending) (of index : Expr) (k : ℕ) (xs ys : List Lexeme) (opening closing : Lexeme) → ending ≢ AtArray → opening.word ≡ w.OpenBracket → closing.word ≡ w.CloseBracket → SpellsPostfix source ending of xs → SpellsExpression source k index ys → SpellsPostfix source AtElement (element_of of index) (xs ++ opening ∷ ys ++ closing ∷ [])

  pub data SpellsArguments (source : List ℕ) : List Expr → List Lexeme → Type 0 where
    no_argument : (opening closing : Lexeme) → opening.word ≡ w.Open → closing.word ≡ w.Close → SpellsArguments source [] (opening ∷ closing ∷ [])
    arguments : (opening closing : Lexeme) (k : ℕ) (e : Expr) (es : List Expr) (xs ys : List Lexeme) → opening.word ≡ w.Open → closing.word ≡ w.Close → SpellsExpression source k e xs → SpellsMoreArguments source es ys → SpellsArguments source (e ∷ es) (opening ∷ xs ++ (ys ++ closing ∷ []))

  pub data SpellsMoreArguments (source : List ℕ) : List Expr → List Lexeme → Type 0 where
    no_more : SpellsMoreArguments source [] []
    more : (comma : Lexeme) (k : ℕ) (e : Expr) (es : List Expr) (xs ys : List Lexeme) → comma.word ≡ w.Comma → SpellsExpression source k e xs → SpellsMoreArguments source es ys → SpellsMoreArguments source (e ∷ es) (comma ∷ xs ++ ys)

-- ---- simple statements

-- what a value is assigned to (JLS SE 8, 15.26)
pub data IsPlace : Ending → Type 0 where
  name : IsPlace AtName
  field : IsPlace AtField
  element : IsPlace AtElement

-- Simple = Place "=" Expression | Name CompoundSign Expression | Name "++" | Name "--" | Call (JLS SE 8, 14.8)
pub data SpellsSimple (source : List ℕ) : Stmt → List Lexeme → Type 0 where
  assignment : (ending : Ending) (k : ℕ) (place value : Expr) (ps xs : List Lexeme) (equals : Lexeme) → IsPlace ending → equals.word ≡ w.Assign → SpellsPostfix source ending place ps → SpellsExpression source k value xs → SpellsSimple source (assignment_of place value) (ps ++ equals ∷ xs)
  compound : (x at : Lexeme) (op : Sign) (k : ℕ) (value : Expr) (xs : List Lexeme) → is_name x.word ≡ true → compound_sign at.word ≡ Some op → SpellsExpression source k value xs → SpellsSimple source (compound_of source x op value) (x ∷ at ∷ xs)
  up : (x at : Lexeme) → is_name x.word ≡ true → at.word ≡ w.Increment → SpellsSimple source (up_of source x) (x ∷ at ∷ [])
  down : (x at : Lexeme) → is_name x.word ≡ true → at.word ≡ w.Decrement → SpellsSimple source (down_of source x) (x ∷ at ∷ [])
  call : (e : Expr) (xs : List Lexeme) → SpellsPostfix source AtCall e xs → SpellsSimple source (call_statement_of e) xs

-- Local = Type Name "=" Expression (JLS SE 8, 14.4)
pub data SpellsLocal (source : List ℕ) : Stmt → List Lexeme → Type 0 where
  local : (ty : TypeName) (name equals : Lexeme) (k : ℕ) (value : Expr) (ts xs : List Lexeme) → is_name name.word ≡ true → equals.word ≡ w.Assign → SpellsType source ty ts → SpellsExpression source k value xs → SpellsLocal source (local_of source ty name value) (ts ++ name ∷ equals ∷ xs)

-- the first part of a `for` (JLS SE 8, 14.14.1)
pub data SpellsFirst (source : List ℕ) : Stmt → List Lexeme → Type 0 where
  local : {s : Stmt} {xs : List Lexeme} → SpellsLocal source s xs → SpellsFirst source s xs
  simple : {s : Stmt} {xs : List Lexeme} → SpellsSimple source s xs → SpellsFirst source s xs

-- ---- statements

-- `System . out . println (` begins a print, and nothing else
abbrev pub is_print : List Word → Bool
is_print (w.System ∷ w.Dot ∷ w.Out ∷ w.Dot ∷ w.Println ∷ w.Open ∷ ws) = true
is_print _ = false

abbrev pub words_of : List Lexeme → List Word
words_of [] = []
words_of (x ∷ xs) = x.word ∷ words_of xs

-- Statement = "{" Item* "}" | ";" | Simple ";" | "if" "(" Expression ")" Statement ("else" Statement)?
--     | "while" "(" Expression ")" Statement | "for" "(" First ";" Expression ";" Simple ")" Statement
--     | "return" Expression? ";" | "System" "." "out" "." "println" "(" Expression ")" ";" (JLS SE 8, 14.2 to 14.17)
-- Whether it ends in an `if` with no `else`, and so would take an `else` that follows (JLS SE 8, 14.5).
-- Item = Local ";" | Statement
mutual
  pub data SpellsStatement (source : List ℕ) : Bool → Stmt → List Lexeme → Type 0 where
    block : (opening closing : Lexeme) (items : List Stmt) (xs : List Lexeme) → opening.word ≡ w.OpenBrace → closing.word ≡ w.CloseBrace → SpellsItems source items xs → SpellsStatement source false (block_of opening items) (opening ∷ xs ++ closing ∷ [])
    empty : (semicolon : Lexeme) → semicolon.word ≡ w.Semicolon → SpellsStatement source false (empty_of semicolon) (semicolon ∷ [])
    simple : (s : Stmt) (xs : List Lexeme) (semicolon : Lexeme) → semicolon.word ≡ w.Semicolon → is_print (words_of (xs ++ semicolon ∷ [])) ≡ false → SpellsSimple source s xs → SpellsStatement source false s (xs ++ semicolon ∷ [])
    if_alone : (ends_open : Bool) (x opening closing : Lexeme) (k : ℕ) (test : Expr) (then_part : Stmt) (ts ys : List Lexeme) → x.word ≡ w.If → opening.word ≡ w.Open → closing.word ≡ w.Close → SpellsExpression source k test ts → SpellsStatement source ends_open then_part ys → SpellsStatement source true (if_of x test then_part None) (x ∷ opening ∷ ts ++ closing ∷ ys)
    if_else : (ends_open : Bool) (x opening closing other : Lexeme) (k : ℕ) (test : Expr) (then_part else_part : Stmt) (ts ys ns : List Lexeme) → x.word ≡ w.If → opening.word ≡ w.Open → closing.word ≡ w.Close → other.word ≡ w.Else → SpellsExpression source k test ts → SpellsStatement source false then_part ys → SpellsStatement source ends_open else_part ns → SpellsStatement source ends_open (if_of x test then_part (Some else_part)) (x ∷ opening ∷ ts ++ closing ∷ ys ++ other ∷ ns)
    while_loop : (ends_open : Bool) (x opening closing : Lexeme) (k : ℕ) (test : Expr) (body : Stmt) (ts bs : List Lexeme) → x.word ≡ w.While → opening.word ≡ w.Open → closing.word ≡ w.Close → SpellsExpression source k test ts → SpellsStatement source ends_open body bs → SpellsStatement source ends_open (while_of x test body) (x ∷ opening ∷ ts ++ closing ∷ bs)
    for_loop : (ends_open : Bool) (x opening semicolon again closing : Lexeme) (k : ℕ) (first : Stmt) (test : Expr) (last body : Stmt) (fs ts ls bs : List Lexeme) → x.word ≡ w.For → opening.word ≡ w.Open → semicolon.word ≡ w.Semicolon → again.word ≡ w.Semicolon → closing.word ≡ w.Close
        → SpellsFirst source first fs → SpellsExpression source k test ts → SpellsSimple source last ls → SpellsStatement source ends_open body bs
        → SpellsStatement source ends_open (for_of x first test last body) (x ∷ opening ∷ fs ++ semicolon ∷ ts ++ again ∷ ls ++ closing ∷ bs)
    return_nothing : (x semicolon : Lexeme) → x.word ≡ w.Return → semicolon.word ≡ w.Semicolon → SpellsStatement source false (return_of x None) (x ∷ semicolon ∷ [])
    return_value : (x semicolon : Lexeme) (k : ℕ) (value : Expr) (xs : List Lexeme) → x.word ≡ w.Return → semicolon.word ≡ w.Semicolon → SpellsExpression source k value xs → SpellsStatement source false (return_of x (Some value)) (x ∷ xs ++ semicolon ∷ [])
    print : (system dot out point println opening closing semicolon : Lexeme) (k : ℕ) (value : Expr) (xs : List Lexeme) → system.word ≡ w.System → dot.word ≡ w.Dot → out.word ≡ w.Out → point.word ≡ w.Dot → println.word ≡ w.Println → opening.word ≡ w.Open → closing.word ≡ w.Close → semicolon.word ≡ w.Semicolon
        → SpellsExpression source k value xs → SpellsStatement source false (print_of system value) (system ∷ dot ∷ out ∷ point ∷ println ∷ opening ∷ xs ++ closing ∷ semicolon ∷ [])

  pub data SpellsItem (source : List ℕ) : Stmt → List Lexeme → Type 0 where
    local : (s : Stmt) (xs : List Lexeme) (semicolon : Lexeme) → semicolon.word ≡ w.Semicolon → SpellsLocal source s xs → SpellsItem source s (xs ++ semicolon ∷ [])
    statement : (ends_open : Bool) {s : Stmt} {xs : List Lexeme} → SpellsStatement source ends_open s xs → SpellsItem source s xs

  pub data SpellsItems (source : List ℕ) : List Stmt → List Lexeme → Type 0 where
    no_item : SpellsItems source [] []
    item : (s : Stmt) (ss : List Stmt) (xs ys : List Lexeme) → SpellsItem source s xs → SpellsItems source ss ys → SpellsItems source (s ∷ ss) (xs ++ ys)

-- ---- members

-- Access = ("public" | "private")?
pub data SpellsAccess : Access → List Lexeme → Type 0 where
  as_public : (x : Lexeme) → x.word ≡ w.Public → SpellsAccess Public (x ∷ [])
  as_private : (x : Lexeme) → x.word ≡ w.Private → SpellsAccess Private (x ∷ [])
  plain : SpellsAccess Plain []

-- Result = "void" | Type
pub data SpellsResult (source : List ℕ) : Option TypeName → List Lexeme → Type 0 where
  nothing : (x : Lexeme) → x.word ≡ w.Void → SpellsResult source None (x ∷ [])
  of_type : {ty : TypeName} {xs : List Lexeme} → SpellsType source ty xs → SpellsResult source (Some ty) xs

pub data SpellsParam (source : List ℕ) : Param → List Lexeme → Type 0 where
  param : (ty : TypeName) (ts : List Lexeme) (name : Lexeme) → is_name name.word ≡ true → SpellsType source ty ts → SpellsParam source (param_of source ty name) (ts ++ name ∷ [])

-- the parameters behind the first, each with its comma
pub data SpellsMoreParams (source : List ℕ) : List Param → List Lexeme → Type 0 where
  no_more : SpellsMoreParams source [] []
  more : (comma : Lexeme) (p : Param) (ps : List Param) (xs ys : List Lexeme) → comma.word ≡ w.Comma → SpellsParam source p xs → SpellsMoreParams source ps ys → SpellsMoreParams source (p ∷ ps) (comma ∷ xs ++ ys)

-- Params = (Type Name ("," Type Name)*)? (JLS SE 8, 8.4.1)
pub data SpellsParams (source : List ℕ) : List Param → List Lexeme → Type 0 where
  no_param : SpellsParams source [] []
  params : (p : Param) (ps : List Param) (xs ys : List Lexeme) → SpellsParam source p xs → SpellsMoreParams source ps ys → SpellsParams source (p ∷ ps) (xs ++ ys)

-- Throws = ("throws" SQLException)? (JLS SE 8, 8.4.6)
pub data SpellsThrows : List Lexeme → Type 0 where
  no_throws : SpellsThrows []
  throws : (x name : Lexeme) → x.word ≡ w.Throws → name.word ≡ w.SqlException → SpellsThrows (x ∷ name ∷ [])

-- Member = Access Type Name ";" | Access Result Name "(" Params ")" Throws "{" Item* "}" (JLS SE 8, 8.3, 8.4)
pub data SpellsMember (source : List ℕ) : Member → List Lexeme → Type 0 where
  field : (access : Access) (ty : TypeName) (name semicolon : Lexeme) (ms ts : List Lexeme) → is_name name.word ≡ true → semicolon.word ≡ w.Semicolon → SpellsAccess access ms → SpellsType source ty ts → SpellsMember source (field_declaration_of source access ty name) (ms ++ (ts ++ name ∷ semicolon ∷ []))
  method : (access : Access) (gives : Option TypeName) (params : List Param) (items : List Stmt) (ms rs ps ts xs : List Lexeme) (name opening closing begin finish : Lexeme)
      → is_name name.word ≡ true → opening.word ≡ w.Open → closing.word ≡ w.Close → begin.word ≡ w.OpenBrace → finish.word ≡ w.CloseBrace
      → SpellsAccess access ms → SpellsResult source gives rs → SpellsParams source params ps → SpellsThrows ts → SpellsItems source items xs
      → SpellsMember source (method_with source (first_token (ms ++ rs)) access gives name params (block_of begin items) finish.token) (ms ++ (rs ++ name ∷ opening ∷ ps ++ (closing ∷ ts ++ (begin ∷ xs ++ finish ∷ []))))

pub data SpellsMembers (source : List ℕ) : List Member → List Lexeme → Type 0 where
  no_member : SpellsMembers source [] []
  member : (m : Member) (ms : List Member) (xs ys : List Lexeme) → SpellsMember source m xs → SpellsMembers source ms ys → SpellsMembers source (m ∷ ms) (xs ++ ys)

-- ---- classes

pub data SpellsPublic : List Lexeme → Type 0 where
  left_out : SpellsPublic []
  written : (x : Lexeme) → x.word ≡ w.Public → SpellsPublic (x ∷ [])

-- Class = "public"? "class" Name "{" Member* "}" (JLS SE 8, 8.1)
pub data SpellsClass (source : List ℕ) : Class → List Lexeme → Type 0 where
  class : (word name opening closing : Lexeme) (members : List Member) (ms xs : List Lexeme) → word.word ≡ w.Class → is_name name.word ≡ true → opening.word ≡ w.OpenBrace → closing.word ≡ w.CloseBrace → SpellsPublic ms → SpellsMembers source members xs → SpellsClass source (class_of source name members) (ms ++ word ∷ name ∷ opening ∷ xs ++ closing ∷ [])

pub data SpellsClasses (source : List ℕ) : List Class → List Lexeme → Type 0 where
  no_class : SpellsClasses source [] []
  class : (c : Class) (cs : List Class) (xs ys : List Lexeme) → SpellsClass source c xs → SpellsClasses source cs ys → SpellsClasses source (c ∷ cs) (xs ++ ys)

-- ---- tables

-- the columns behind the first, each with its comma; a column is a name and `LONG` or `TEXT`
pub data SpellsMoreColumns (source : List ℕ) : List Column → List Lexeme → Type 0 where
  no_more : SpellsMoreColumns source [] []
  more : (comma name ty : Lexeme) (cs : List Column) (xs : List Lexeme) → comma.word ≡ w.Comma → is_name name.word ≡ true → is_column_type ty.word ≡ true → SpellsMoreColumns source cs xs → SpellsMoreColumns source (column_of source name ty ∷ cs) (comma ∷ name ∷ ty ∷ xs)

-- Table = "CREATE" "TABLE" Name "(" Column ("," Column)* ")" ";"
pub data SpellsTable (source : List ℕ) : TableDecl → List Lexeme → Type 0 where
  table : (create word name opening first ty closing semicolon : Lexeme) (cs : List Column) (xs : List Lexeme) → create.word ≡ w.Create → word.word ≡ w.Table → is_name name.word ≡ true → opening.word ≡ w.Open → is_name first.word ≡ true → is_column_type ty.word ≡ true → closing.word ≡ w.Close → semicolon.word ≡ w.Semicolon
      → SpellsMoreColumns source cs xs → SpellsTable source (table_of source name (column_of source first ty ∷ cs)) (create ∷ word ∷ name ∷ opening ∷ first ∷ ty ∷ xs ++ closing ∷ semicolon ∷ [])

pub data SpellsTables (source : List ℕ) : List TableDecl → List Lexeme → Type 0 where
  no_table : SpellsTables source [] []
  table : (t : TableDecl) (ts : List TableDecl) (xs ys : List Lexeme) → SpellsTable source t xs → SpellsTables source ts ys → SpellsTables source (t ∷ ts) (xs ++ ys)

-- ---- programs

-- tables, at least one class, and the end behind them
pub data SpellsProgram (source : List ℕ) : Declared → List Lexeme → Type 0 where
  program : (tables : List TableDecl) (class : Class) (classes : List Class) (finish : Lexeme) (ts xs ys : List Lexeme) → finish.word ≡ w.End → SpellsTables source tables ts → SpellsClass source class xs → SpellsClasses source classes ys → SpellsProgram source (record { tables = tables; classes = class ∷ classes }) (ts ++ (xs ++ (ys ++ finish ∷ [])))
