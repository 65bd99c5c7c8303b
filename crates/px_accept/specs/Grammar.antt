-- The grammar of program texts, as which tokens each form may be.
--
-- A rule of the grammar stands above the constructors that say it. Binary operators have no levels here, since an expression
-- is one however its operators bind.
use Rattle.std.specs.Prelude.{◌≡◌, ◌≢◌, Bool, true, false, List, [], ◌∷◌, ◌++◌}
use Rattle.px_accept.specs.declared.role.Spelling.{Spelling}
use Rattle.px_accept.specs.declared.role.Spelling.TheVariants.{Create, Table, Column, System, Out, Println, SqlException}
use Rattle.px_accept.specs.declared.role.Role.{Role}
use Rattle.px_accept.specs.declared.role.Role.TheVariants.{Name, Public, Private, Class, Integral, Boolean, Void, Throws, If, Else, While, For, Return, New, Value, OpenBrace, CloseBrace, Open, Close, OpenBracket, CloseBracket, Comma, Semicolon, Dot, Assign, Compound, Step, Minus, Not, Infix, End}

-- What a postfix ends in; `OneName` is an identifier alone, and `Array` a new array.
pub data Ending : Type 0 where
  OneName Primary Field Element Call Array : Ending

-- The forms; of a statement, whether it ends in an `if` with no `else`, which would take an `else` that follows.
pub data Form : Type 0 where
  Program TableList ColumnList ClassDeclaration ClassList MemberList MemberDeclaration UnmodifiedMember TypeName Result ParameterList MoreParameters ThrowsClause Block ItemList Item ForInit SimpleStatement Expression Unary Arguments Expressions MoreExpressions : Form
  Statement : Bool → Form
  Postfix : Ending → Form

-- A statement whose first tokens are `System . out . println (`
abbrev pub begins_print : List Role → Bool
begins_print (Name System ∷ Dot ∷ Name Out ∷ Dot ∷ Name Println ∷ Open ∷ ts) = true
begins_print ts = false

pub data IsBase : Role → Type 0 where
  integral : IsBase Integral
  boolean : IsBase Boolean
  named : (s : Spelling) → IsBase (Name s)

pub data IsPrefix : Role → Type 0 where
  minus : IsPrefix Minus
  not : IsPrefix Not

pub data IsInfix : Role → Type 0 where
  minus : IsInfix Minus
  infix_sign : IsInfix Infix

pub data IsModifier : Role → Type 0 where
  as_public : IsModifier Public
  as_private : IsModifier Private

-- Spelled f ts: the tokens ts are an f.
pub data Spelled : Form → List Role → Type 0 where
  -- Program = Table* Class Class*
  program : {ts : List Role} (a b c : List Role) → ts ≡ a ++ (b ++ c) → Spelled TableList a → Spelled ClassDeclaration b → Spelled ClassList c → Spelled Program ts
  -- Table = "CREATE" "TABLE" Id "(" Column ("," Column)* ")" ";"
  no_table : Spelled TableList []
  table : {ts : List Role} (n m : Spelling) (a b : List Role) → ts ≡ Name Create ∷ Name Table ∷ Name n ∷ Open ∷ Name m ∷ Name Column ∷ a ++ Close ∷ Semicolon ∷ b → Spelled ColumnList a → Spelled TableList b → Spelled TableList ts
  -- Column = Id ("LONG" | "TEXT"); the list begins behind the first
  no_column : Spelled ColumnList []
  column : {ts : List Role} (m : Spelling) (a : List Role) → ts ≡ Comma ∷ Name m ∷ Name Column ∷ a → Spelled ColumnList a → Spelled ColumnList ts
  -- Class = "public"? "class" Id "{" Member* "}"
  class_plain : {ts : List Role} (n : Spelling) (a : List Role) → ts ≡ Class ∷ Name n ∷ OpenBrace ∷ a ++ CloseBrace ∷ [] → Spelled MemberList a → Spelled ClassDeclaration ts
  class_public : {ts : List Role} (n : Spelling) (a : List Role) → ts ≡ Public ∷ Class ∷ Name n ∷ OpenBrace ∷ a ++ CloseBrace ∷ [] → Spelled MemberList a → Spelled ClassDeclaration ts
  no_class : Spelled ClassList []
  class_more : {ts : List Role} (a b : List Role) → ts ≡ a ++ b → Spelled ClassDeclaration a → Spelled ClassList b → Spelled ClassList ts
  -- Member = ("public" | "private")? UnmodifiedMember
  no_member : Spelled MemberList []
  member_more : {ts : List Role} (a b : List Role) → ts ≡ a ++ b → Spelled MemberDeclaration a → Spelled MemberList b → Spelled MemberList ts
  member_plain : {ts : List Role} → Spelled UnmodifiedMember ts → Spelled MemberDeclaration ts
  member_access : {ts : List Role} (t : Role) (a : List Role) → ts ≡ t ∷ a → IsModifier t → Spelled UnmodifiedMember a → Spelled MemberDeclaration ts
  -- UnmodifiedMember = Type Id ";" | Result Id "(" (Parameter ("," Parameter)*)? ")" ("throws" "SQLException")? Block
  field : {ts : List Role} (n : Spelling) (a : List Role) → ts ≡ a ++ Name n ∷ Semicolon ∷ [] → Spelled TypeName a → Spelled UnmodifiedMember ts
  method : {ts : List Role} (n : Spelling) (a b c d : List Role) → ts ≡ a ++ (Name n ∷ Open ∷ b ++ (Close ∷ c ++ d)) → Spelled Result a → Spelled ParameterList b → Spelled ThrowsClause c → Spelled Block d → Spelled UnmodifiedMember ts
  -- Result = "void" | Type
  result_void : {ts : List Role} → ts ≡ Void ∷ [] → Spelled Result ts
  result_type : {ts : List Role} → Spelled TypeName ts → Spelled Result ts
  -- Type = Base "[]"?
  type_base : {ts : List Role} (t : Role) → ts ≡ t ∷ [] → IsBase t → Spelled TypeName ts
  type_array : {ts : List Role} (t : Role) → ts ≡ t ∷ OpenBracket ∷ CloseBracket ∷ [] → IsBase t → Spelled TypeName ts
  -- Parameter = Type Id
  no_parameter : Spelled ParameterList []
  parameter : {ts : List Role} (n : Spelling) (a b : List Role) → ts ≡ a ++ Name n ∷ b → Spelled TypeName a → Spelled MoreParameters b → Spelled ParameterList ts
  no_more_parameter : Spelled MoreParameters []
  parameter_more : {ts : List Role} (n : Spelling) (a b : List Role) → ts ≡ Comma ∷ a ++ Name n ∷ b → Spelled TypeName a → Spelled MoreParameters b → Spelled MoreParameters ts
  -- ("throws" "SQLException")?
  no_throws : Spelled ThrowsClause []
  throws : {ts : List Role} → ts ≡ Throws ∷ Name SqlException ∷ [] → Spelled ThrowsClause ts
  -- Block = "{" Item* "}"
  block : {ts : List Role} (a : List Role) → ts ≡ OpenBrace ∷ a ++ CloseBrace ∷ [] → Spelled ItemList a → Spelled Block ts
  no_item : Spelled ItemList []
  item_more : {ts : List Role} (a b : List Role) → ts ≡ a ++ b → Spelled Item a → Spelled ItemList b → Spelled ItemList ts
  -- Item = Type Id "=" Expression ";" | Statement
  declaration : {ts : List Role} (n : Spelling) (a b : List Role) → ts ≡ a ++ (Name n ∷ Assign ∷ b ++ Semicolon ∷ []) → Spelled TypeName a → Spelled Expression b → Spelled Item ts
  item_statement : {ts : List Role} (o : Bool) → Spelled (Statement o) ts → Spelled Item ts
  -- Statement = Block | ";" | Simple ";" | If | While | For | Return | Print; a print is no simple statement
  statement_block : {ts : List Role} → Spelled Block ts → Spelled (Statement false) ts
  empty : {ts : List Role} → ts ≡ Semicolon ∷ [] → Spelled (Statement false) ts
  simple : {ts : List Role} (a : List Role) → ts ≡ a ++ Semicolon ∷ [] → begins_print ts ≡ false → Spelled SimpleStatement a → Spelled (Statement false) ts
  -- If = "if" "(" Expression ")" Statement ("else" Statement)?; in front of `else` no statement ends in an open `if`
  if_alone : {ts : List Role} (o : Bool) (a b : List Role) → ts ≡ If ∷ Open ∷ a ++ (Close ∷ b) → Spelled Expression a → Spelled (Statement o) b → Spelled (Statement true) ts
  if_else : {ts : List Role} (o : Bool) (a b c : List Role) → ts ≡ If ∷ Open ∷ a ++ (Close ∷ b ++ Else ∷ c) → Spelled Expression a → Spelled (Statement false) b → Spelled (Statement o) c → Spelled (Statement o) ts
  -- While = "while" "(" Expression ")" Statement
  while_loop : {ts : List Role} (o : Bool) (a b : List Role) → ts ≡ While ∷ Open ∷ a ++ (Close ∷ b) → Spelled Expression a → Spelled (Statement o) b → Spelled (Statement o) ts
  -- For = "for" "(" Init ";" Expression ";" Simple ")" Statement
  for_loop : {ts : List Role} (o : Bool) (a b c d : List Role) → ts ≡ For ∷ Open ∷ a ++ (Semicolon ∷ b ++ (Semicolon ∷ c ++ (Close ∷ d))) → Spelled ForInit a → Spelled Expression b → Spelled SimpleStatement c → Spelled (Statement o) d → Spelled (Statement o) ts
  -- Return = "return" Expression? ";"
  return_alone : {ts : List Role} → ts ≡ Return ∷ Semicolon ∷ [] → Spelled (Statement false) ts
  return_value : {ts : List Role} (a : List Role) → ts ≡ Return ∷ a ++ Semicolon ∷ [] → Spelled Expression a → Spelled (Statement false) ts
  -- Print = "System" "." "out" "." "println" "(" Expression ")" ";"
  print : {ts : List Role} (a : List Role) → ts ≡ Name System ∷ Dot ∷ Name Out ∷ Dot ∷ Name Println ∷ Open ∷ a ++ Close ∷ Semicolon ∷ [] → Spelled Expression a → Spelled (Statement false) ts
  -- Init = Type Id "=" Expression | Simple
  init_declaration : {ts : List Role} (n : Spelling) (a b : List Role) → ts ≡ a ++ (Name n ∷ Assign ∷ b) → Spelled TypeName a → Spelled Expression b → Spelled ForInit ts
  init_simple : {ts : List Role} → Spelled SimpleStatement ts → Spelled ForInit ts
  -- Simple = (Id | Postfix that ends in a field or an index) "=" Expression | Id AssignOp Expression | Id "++" | Id "--" | Postfix that ends in arguments
  assign_name : {ts : List Role} (a b : List Role) → ts ≡ a ++ Assign ∷ b → Spelled (Postfix OneName) a → Spelled Expression b → Spelled SimpleStatement ts
  assign_field : {ts : List Role} (a b : List Role) → ts ≡ a ++ Assign ∷ b → Spelled (Postfix Field) a → Spelled Expression b → Spelled SimpleStatement ts
  assign_element : {ts : List Role} (a b : List Role) → ts ≡ a ++ Assign ∷ b → Spelled (Postfix Element) a → Spelled Expression b → Spelled SimpleStatement ts
  compound : {ts : List Role} (n : Spelling) (b : List Role) → ts ≡ Name n ∷ Compound ∷ b → Spelled Expression b → Spelled SimpleStatement ts
  stepped : {ts : List Role} (n : Spelling) → ts ≡ Name n ∷ Step ∷ [] → Spelled SimpleStatement ts
  called : {ts : List Role} → Spelled (Postfix Call) ts → Spelled SimpleStatement ts
  -- Expression = Unary (Operator Unary)*
  operand : {ts : List Role} → Spelled Unary ts → Spelled Expression ts
  infix_of : {ts : List Role} (t : Role) (a b : List Role) → ts ≡ a ++ t ∷ b → IsInfix t → Spelled Expression a → Spelled Unary b → Spelled Expression ts
  -- Unary = ("-" | "!" | "~" | "(" ("int" | "long") ")") Unary | Postfix
  prefix : {ts : List Role} (t : Role) (a : List Role) → ts ≡ t ∷ a → IsPrefix t → Spelled Unary a → Spelled Unary ts
  cast : {ts : List Role} (a : List Role) → ts ≡ Open ∷ Integral ∷ Close ∷ a → Spelled Unary a → Spelled Unary ts
  postfix : {ts : List Role} (k : Ending) → Spelled (Postfix k) ts → Spelled Unary ts
  -- Primary = Literal | "this" | Id | Id Arguments | "(" Expression ")" | "new" Id "(" ")"
  value : {ts : List Role} → ts ≡ Value ∷ [] → Spelled (Postfix Primary) ts
  name : {ts : List Role} (n : Spelling) → ts ≡ Name n ∷ [] → Spelled (Postfix OneName) ts
  own_call : {ts : List Role} (n : Spelling) (a : List Role) → ts ≡ Name n ∷ a → Spelled Arguments a → Spelled (Postfix Call) ts
  group : {ts : List Role} (a : List Role) → ts ≡ Open ∷ a ++ Close ∷ [] → Spelled Expression a → Spelled (Postfix Primary) ts
  new_object : {ts : List Role} (n : Spelling) → ts ≡ New ∷ Name n ∷ Open ∷ Close ∷ [] → Spelled (Postfix Primary) ts
  -- NewArray = "new" Base "[" Expression "]"
  new_array : {ts : List Role} (t : Role) (a : List Role) → ts ≡ New ∷ t ∷ OpenBracket ∷ a ++ CloseBracket ∷ [] → IsBase t → Spelled Expression a → Spelled (Postfix Array) ts
  -- Postfix = Primary (Dot | Index)* | NewArray (Dot (Dot | Index)*)?, where Dot = "." Id Arguments? and Index = "[" Expression "]"
  dot : {ts : List Role} (k : Ending) (n : Spelling) (a : List Role) → ts ≡ a ++ Dot ∷ Name n ∷ [] → Spelled (Postfix k) a → Spelled (Postfix Field) ts
  dot_call : {ts : List Role} (k : Ending) (n : Spelling) (a b : List Role) → ts ≡ a ++ (Dot ∷ Name n ∷ b) → Spelled (Postfix k) a → Spelled Arguments b → Spelled (Postfix Call) ts
  index : {ts : List Role} (k : Ending) (a b : List Role) → ts ≡ a ++ (OpenBracket ∷ b ++ CloseBracket ∷ []) → k ≢ Array → Spelled (Postfix k) a → Spelled Expression b → Spelled (Postfix Element) ts
  -- Arguments = "(" (Expression ("," Expression)*)? ")"
  arguments : {ts : List Role} (a : List Role) → ts ≡ Open ∷ a ++ Close ∷ [] → Spelled Expressions a → Spelled Arguments ts
  no_expression : Spelled Expressions []
  expressions : {ts : List Role} (a b : List Role) → ts ≡ a ++ b → Spelled Expression a → Spelled MoreExpressions b → Spelled Expressions ts
  no_more_expression : Spelled MoreExpressions []
  expression_more : {ts : List Role} (a b : List Role) → ts ≡ Comma ∷ a ++ b → Spelled Expression a → Spelled MoreExpressions b → Spelled MoreExpressions ts

-- Some program and its end begin with the tokens.
pub record BeginsProgram (ts : List Role) : Type 0 where
  pub program : List Role
  pub more : List Role
  pub same : program ++ End ∷ [] ≡ ts ++ more
  pub spelled : Spelled Program program
