-- What lexemes are, whose roles are a form: that some tree is spelled so.
use Rattle.std.proofs.Common.{◌≡◌, ◌≢◌, ℕ, List, [], ◌∷◌, ◌++◌, Option, refl, sym, subst}
use Rattle.px_words.specs.declared.lexeme.Lexeme.{Lexeme}
use Rattle.px_words.specs.declared.lexeme.Word.TheVariants as w
use Rattle.px_tree.specs.declared.Expr.{Expr}
use Rattle.px_tree.specs.declared.Stmt.{Stmt}
use Rattle.px_tree.specs.declared.Access.{Access}
use Rattle.px_tree.specs.declared.TypeName.{TypeName}
use Rattle.px_tree.specs.declared.Param.{Param}
use Rattle.px_tree.specs.declared.Member.{Member}
use Rattle.px_tree.specs.declared.Class.{Class}
use Rattle.px_tree.specs.declared.Column.{Column}
use Rattle.px_tree.specs.declared.TableDecl.{TableDecl}
use Rattle.px_accept.specs.declared.role.Role.{Role}
use Rattle.px_accept.specs.Grammar as f
use Rattle.px_accept.specs.Grammar.{Form}
use Rattle.px_parse.specs.Grammar as g
use Rattle.px_parse.specs.Grammar.{SpellsType, SpellsExpression, SpellsOperand, SpellsPostfix, SpellsArguments, SpellsMoreArguments, SpellsSimple, SpellsFirst, SpellsStatement, SpellsItem, SpellsItems, SpellsAccess, SpellsResult, SpellsMoreParams, SpellsParams, SpellsThrows, SpellsMember, SpellsMembers, SpellsClass, SpellsClasses, SpellsMoreColumns, SpellsTables}
use Rattle.px_words.specs.Roles.{roles_of}

abbrev pub ending_at : f.Ending → g.Ending
ending_at f.OneName = g.AtName
ending_at f.Field = g.AtField
ending_at f.Element = g.AtElement
ending_at f.Call = g.AtCall
ending_at f.Array = g.AtArray
ending_at f.Primary = g.AtPrimary

pub no_array : (k : f.Ending) → k ≢ f.Array → ending_at k ≢ g.AtArray
no_array f.Array h = λ e. h refl
no_array _ h = λ e. cc

pub record MadeBlock (source : List ℕ) (xs : List Lexeme) : Type 0 where
  pub begin : Lexeme
  pub finish : Lexeme
  pub items : List Stmt
  pub inner : List Lexeme
  pub same : xs ≡ begin ∷ inner ++ finish ∷ []
  pub begins : begin.word ≡ w.OpenBrace
  pub finishes : finish.word ≡ w.CloseBrace
  pub spelled : SpellsItems source items inner

pub record MadeProgram (source : List ℕ) (xs : List Lexeme) : Type 0 where
  pub tables : List TableDecl
  pub class : Class
  pub classes : List Class
  pub front : List Lexeme
  pub middle : List Lexeme
  pub back : List Lexeme
  pub same : xs ≡ front ++ (middle ++ back)
  pub fronts : SpellsTables source tables front
  pub middles : SpellsClass source class middle
  pub backs : SpellsClasses source classes back

abbrev pub Made : List ℕ → Form → List Lexeme → Type 0
Made source f.Program xs = MadeProgram source xs
Made source f.TableList xs = (ts : List TableDecl) × SpellsTables source ts xs
Made source f.ColumnList xs = (cs : List Column) × SpellsMoreColumns source cs xs
Made source f.ClassDeclaration xs = (c : Class) × SpellsClass source c xs
Made source f.ClassList xs = (cs : List Class) × SpellsClasses source cs xs
Made source f.MemberList xs = (ms : List Member) × SpellsMembers source ms xs
Made source f.MemberDeclaration xs = (m : Member) × SpellsMember source m xs
Made source f.UnmodifiedMember xs = (access : Access) (ms : List Lexeme) → SpellsAccess access ms → (m : Member) × SpellsMember source m (ms ++ xs)
Made source f.TypeName xs = (ty : TypeName) × SpellsType source ty xs
Made source f.Result xs = (gives : Option TypeName) × SpellsResult source gives xs
Made source f.ParameterList xs = (ps : List Param) × SpellsParams source ps xs
Made source f.MoreParameters xs = (ps : List Param) × SpellsMoreParams source ps xs
Made source f.ThrowsClause xs = SpellsThrows xs
Made source f.Block xs = MadeBlock source xs
Made source f.ItemList xs = (ss : List Stmt) × SpellsItems source ss xs
Made source f.Item xs = (s : Stmt) × SpellsItem source s xs
Made source f.ForInit xs = (s : Stmt) × SpellsFirst source s xs
Made source f.SimpleStatement xs = (s : Stmt) × SpellsSimple source s xs
Made source f.Expression xs = (e : Expr) × (k : ℕ) × SpellsExpression source k e xs
Made source f.Unary xs = (e : Expr) × SpellsOperand source e xs
Made source f.Arguments xs = (args : List Expr) × SpellsArguments source args xs
Made source f.Expressions xs = (opening closing : Lexeme) → opening.word ≡ w.Open → closing.word ≡ w.Close → (args : List Expr) × SpellsArguments source args (opening ∷ xs ++ closing ∷ [])
Made source f.MoreExpressions xs = (args : List Expr) × SpellsMoreArguments source args xs
Made source (f.Statement o) xs = (s : Stmt) × SpellsStatement source o s xs
Made source (f.Postfix k) xs = (e : Expr) × SpellsPostfix source (ending_at k) e xs

-- what all lexemes of these roles are
abbrev pub Makes : List ℕ → Form → List Role → Type 0
Makes source form ts = (xs : List Lexeme) → roles_of xs ≡ ts → Made source form xs

pub made_at : (source : List ℕ) (form : Form) (xs ys : List Lexeme) → xs ≡ ys → Made source form ys → Made source form xs
made_at source form xs ys e m = subst (λ (zs : List Lexeme). Made source form zs) (sym e) m
