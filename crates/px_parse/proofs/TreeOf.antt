-- Lexemes whose roles are a program spell one.
use Rattle.std.proofs.Common.{◌≡◌, ℕ, false, List, [], ◌∷◌, ◌++◌, refl, sym, ap, ◌∙◌, append_assoc}
use Rattle.px_words.specs.declared.lexeme.Lexeme.{Lexeme}
use Rattle.px_words.specs.declared.lexeme.Word.TheVariants as w
use Rattle.px_accept.specs.declared.role.Role.{Role}
use Rattle.px_accept.specs.declared.role.Role.TheVariants as r
use Rattle.px_accept.specs.Grammar as f
use Rattle.px_accept.specs.Grammar.{Form, Spelled, begins_print}
use Rattle.px_accept.specs.Place.{IsProgram}
use Rattle.px_parse.specs.declared.whole.Declared.{Declared}
use Rattle.px_parse.specs.Grammar as g
use Rattle.px_parse.specs.Grammar.{SpellsProgram}
use Rattle.px_words.specs.Roles.{roles_of}
use Rattle.px_parse.proofs.PartsOf.{cut, final}
use Rattle.px_parse.proofs.MadeOf.{Makes}
use Rattle.px_parse.proofs.TreeExpressions.{made_base, made_array_type, made_operand, made_infix, made_prefix, made_cast, made_postfix, made_value, made_name, made_own_call, made_group, made_new_object, made_new_array, made_dot, made_dot_call, made_index, made_arguments, made_no_expression, made_expressions, made_no_more, made_more}
use Rattle.px_parse.proofs.TreeStatements.{made_assignment, made_compound, made_step, made_call, made_declaration, made_init, made_simple_init, made_block, made_no_item, made_items, made_item, made_block_statement, made_empty, made_simple, made_if, made_if_else, made_while, made_for, made_return, made_return_value, made_print}
use Rattle.px_parse.proofs.TreePrograms.{made_void, made_result, made_no_parameter, made_parameter, made_no_more_parameter, made_more_parameters, made_no_throws, made_throws, made_field, made_method, made_plain_member, made_member, made_no_member, made_members, made_plain_class, made_public_class, made_no_class, made_classes, made_no_column, made_column, made_no_table, made_table, made_program}

-- what is made of roles is made of the same roles
made_of : (source : List ℕ) (form : Form) (ts us : List Role) → ts ≡ us → Makes source form us → Makes source form ts
made_of source form ts us e m = λ xs h. m xs (h ∙ e)

pub tree_of : (source : List ℕ) (form : Form) (ts : List Role) → Spelled form ts → Makes source form ts
tree_of source _ ts (f.Spelled.program a b c e s t u) = made_of source f.Program ts _ e (made_program source a b c (tree_of source f.TableList a s) (tree_of source f.ClassDeclaration b t) (tree_of source f.ClassList c u))
tree_of source _ _ f.Spelled.no_table = made_no_table source
tree_of source _ ts (f.Spelled.table n m a b e s t) = made_of source f.TableList ts _ e (made_table source n m a b (tree_of source f.ColumnList a s) (tree_of source f.TableList b t))
tree_of source _ _ f.Spelled.no_column = made_no_column source
tree_of source _ ts (f.Spelled.column m a e s) = made_of source f.ColumnList ts _ e (made_column source m a (tree_of source f.ColumnList a s))
tree_of source _ ts (f.Spelled.class_plain n a e s) = made_of source f.ClassDeclaration ts _ e (made_plain_class source n a (tree_of source f.MemberList a s))
tree_of source _ ts (f.Spelled.class_public n a e s) = made_of source f.ClassDeclaration ts _ e (made_public_class source n a (tree_of source f.MemberList a s))
tree_of source _ _ f.Spelled.no_class = made_no_class source
tree_of source _ ts (f.Spelled.class_more a b e s t) = made_of source f.ClassList ts _ e (made_classes source a b (tree_of source f.ClassDeclaration a s) (tree_of source f.ClassList b t))
tree_of source _ _ f.Spelled.no_member = made_no_member source
tree_of source _ ts (f.Spelled.member_more a b e s t) = made_of source f.MemberList ts _ e (made_members source a b (tree_of source f.MemberDeclaration a s) (tree_of source f.MemberList b t))
tree_of source _ ts (f.Spelled.member_plain s) = made_plain_member source ts (tree_of source f.UnmodifiedMember ts s)
tree_of source _ ts (f.Spelled.member_access t a e i s) = made_of source f.MemberDeclaration ts _ e (made_member source t a i (tree_of source f.UnmodifiedMember a s))
tree_of source _ ts (f.Spelled.field n a e s) = made_of source f.UnmodifiedMember ts _ e (made_field source n a (tree_of source f.TypeName a s))
tree_of source _ ts (f.Spelled.method n a b c d e s t u v) =
    made_of source f.UnmodifiedMember ts _ e (made_method source n a b c d (tree_of source f.Result a s) (tree_of source f.ParameterList b t) (tree_of source f.ThrowsClause c u) (tree_of source f.Block d v))
tree_of source _ ts (f.Spelled.result_void e) = made_of source f.Result ts _ e (made_void source)
tree_of source _ ts (f.Spelled.result_type s) = made_result source ts (tree_of source f.TypeName ts s)
tree_of source _ ts (f.Spelled.type_base t e i) = made_of source f.TypeName ts _ e (made_base source t i)
tree_of source _ ts (f.Spelled.type_array t e i) = made_of source f.TypeName ts _ e (made_array_type source t i)
tree_of source _ _ f.Spelled.no_parameter = made_no_parameter source
tree_of source _ ts (f.Spelled.parameter n a b e s t) = made_of source f.ParameterList ts _ e (made_parameter source n a b (tree_of source f.TypeName a s) (tree_of source f.MoreParameters b t))
tree_of source _ _ f.Spelled.no_more_parameter = made_no_more_parameter source
tree_of source _ ts (f.Spelled.parameter_more n a b e s t) = made_of source f.MoreParameters ts _ e (made_more_parameters source n a b (tree_of source f.TypeName a s) (tree_of source f.MoreParameters b t))
tree_of source _ _ f.Spelled.no_throws = made_no_throws source
tree_of source _ ts (f.Spelled.throws e) = made_of source f.ThrowsClause ts _ e (made_throws source)
tree_of source _ ts (f.Spelled.block a e s) = made_of source f.Block ts _ e (made_block source a (tree_of source f.ItemList a s))
tree_of source _ _ f.Spelled.no_item = made_no_item source
tree_of source _ ts (f.Spelled.item_more a b e s t) = made_of source f.ItemList ts _ e (made_items source a b (tree_of source f.Item a s) (tree_of source f.ItemList b t))
tree_of source _ ts (f.Spelled.declaration n a b e s t) = made_of source f.Item ts _ e (made_declaration source n a b (tree_of source f.TypeName a s) (tree_of source f.Expression b t))
tree_of source _ ts (f.Spelled.item_statement o s) = made_item source o ts (tree_of source (f.Statement o) ts s)
tree_of source _ ts (f.Spelled.statement_block s) = made_block_statement source ts (tree_of source f.Block ts s)
tree_of source _ ts (f.Spelled.empty e) = made_of source (f.Statement false) ts _ e (made_empty source)
tree_of source _ ts (f.Spelled.simple a e p s) = made_of source (f.Statement false) ts _ e (made_simple source a (ap begins_print (sym e) ∙ p) (tree_of source f.SimpleStatement a s))
tree_of source _ ts (f.Spelled.if_alone o a b e s t) = made_of source (f.Statement _) ts _ e (made_if source o a b (tree_of source f.Expression a s) (tree_of source (f.Statement o) b t))
tree_of source _ ts (f.Spelled.if_else o a b c e s t u) = made_of source (f.Statement o) ts _ e (made_if_else source o a b c (tree_of source f.Expression a s) (tree_of source (f.Statement false) b t) (tree_of source (f.Statement o) c u))
tree_of source _ ts (f.Spelled.while_loop o a b e s t) = made_of source (f.Statement o) ts _ e (made_while source o a b (tree_of source f.Expression a s) (tree_of source (f.Statement o) b t))
tree_of source _ ts (f.Spelled.for_loop o a b c d e s t u v) =
    made_of source (f.Statement o) ts _ e (made_for source o a b c d (tree_of source f.ForInit a s) (tree_of source f.Expression b t) (tree_of source f.SimpleStatement c u) (tree_of source (f.Statement o) d v))
tree_of source _ ts (f.Spelled.return_alone e) = made_of source (f.Statement false) ts _ e (made_return source)
tree_of source _ ts (f.Spelled.return_value a e s) = made_of source (f.Statement false) ts _ e (made_return_value source a (tree_of source f.Expression a s))
tree_of source _ ts (f.Spelled.print a e s) = made_of source (f.Statement false) ts _ e (made_print source a (tree_of source f.Expression a s))
tree_of source _ ts (f.Spelled.init_declaration n a b e s t) = made_of source f.ForInit ts _ e (made_init source n a b (tree_of source f.TypeName a s) (tree_of source f.Expression b t))
tree_of source _ ts (f.Spelled.init_simple s) = made_simple_init source ts (tree_of source f.SimpleStatement ts s)
tree_of source _ ts (f.Spelled.assign_name a b e s t) = made_of source f.SimpleStatement ts _ e (made_assignment source f.OneName a b g.IsPlace.name (tree_of source (f.Postfix f.OneName) a s) (tree_of source f.Expression b t))
tree_of source _ ts (f.Spelled.assign_field a b e s t) = made_of source f.SimpleStatement ts _ e (made_assignment source f.Field a b g.IsPlace.field (tree_of source (f.Postfix f.Field) a s) (tree_of source f.Expression b t))
tree_of source _ ts (f.Spelled.assign_element a b e s t) = made_of source f.SimpleStatement ts _ e (made_assignment source f.Element a b g.IsPlace.element (tree_of source (f.Postfix f.Element) a s) (tree_of source f.Expression b t))
tree_of source _ ts (f.Spelled.compound n b e s) = made_of source f.SimpleStatement ts _ e (made_compound source n b (tree_of source f.Expression b s))
tree_of source _ ts (f.Spelled.stepped n e) = made_of source f.SimpleStatement ts _ e (made_step source n)
tree_of source _ ts (f.Spelled.called s) = made_call source ts (tree_of source (f.Postfix f.Call) ts s)
tree_of source _ ts (f.Spelled.operand s) = made_operand source ts (tree_of source f.Unary ts s)
tree_of source _ ts (f.Spelled.infix_of t a b e i s u) = made_of source f.Expression ts _ e (made_infix source t a b i (tree_of source f.Expression a s) (tree_of source f.Unary b u))
tree_of source _ ts (f.Spelled.prefix t a e i s) = made_of source f.Unary ts _ e (made_prefix source t a i (tree_of source f.Unary a s))
tree_of source _ ts (f.Spelled.cast a e s) = made_of source f.Unary ts _ e (made_cast source a (tree_of source f.Unary a s))
tree_of source _ ts (f.Spelled.postfix k s) = made_postfix source k ts (tree_of source (f.Postfix k) ts s)
tree_of source _ ts (f.Spelled.value e) = made_of source (f.Postfix f.Primary) ts _ e (made_value source)
tree_of source _ ts (f.Spelled.name n e) = made_of source (f.Postfix f.OneName) ts _ e (made_name source n)
tree_of source _ ts (f.Spelled.own_call n a e s) = made_of source (f.Postfix f.Call) ts _ e (made_own_call source n a (tree_of source f.Arguments a s))
tree_of source _ ts (f.Spelled.group a e s) = made_of source (f.Postfix f.Primary) ts _ e (made_group source a (tree_of source f.Expression a s))
tree_of source _ ts (f.Spelled.new_object n e) = made_of source (f.Postfix f.Primary) ts _ e (made_new_object source n)
tree_of source _ ts (f.Spelled.new_array t a e i s) = made_of source (f.Postfix f.Array) ts _ e (made_new_array source t a i (tree_of source f.Expression a s))
tree_of source _ ts (f.Spelled.dot k n a e s) = made_of source (f.Postfix f.Field) ts _ e (made_dot source k n a (tree_of source (f.Postfix k) a s))
tree_of source _ ts (f.Spelled.dot_call k n a b e s t) = made_of source (f.Postfix f.Call) ts _ e (made_dot_call source k n a b (tree_of source (f.Postfix k) a s) (tree_of source f.Arguments b t))
tree_of source _ ts (f.Spelled.index k a b e i s t) = made_of source (f.Postfix f.Element) ts _ e (made_index source k a b i (tree_of source (f.Postfix k) a s) (tree_of source f.Expression b t))
tree_of source _ ts (f.Spelled.arguments a e s) = made_of source f.Arguments ts _ e (made_arguments source a (tree_of source f.Expressions a s))
tree_of source _ _ f.Spelled.no_expression = made_no_expression source
tree_of source _ ts (f.Spelled.expressions a b e s t) = made_of source f.Expressions ts _ e (made_expressions source a b (tree_of source f.Expression a s) (tree_of source f.MoreExpressions b t))
tree_of source _ _ f.Spelled.no_more_expression = made_no_more source
tree_of source _ ts (f.Spelled.expression_more a b e s t) = made_of source f.MoreExpressions ts _ e (made_more source a b (tree_of source f.Expression a s) (tree_of source f.MoreExpressions b t))

spells_at : (source : List ℕ) (d : Declared) (xs ys : List Lexeme) → xs ≡ ys → SpellsProgram source d ys → (e : Declared) × SpellsProgram source e xs
spells_at source d xs ys e s = (d, rw e s)

pub tree_of_program : (source : List ℕ) (xs : List Lexeme) → IsProgram (roles_of xs) → (d : Declared) × SpellsProgram source d xs
tree_of_program source xs p =
    let c = cut p.program (r.End ∷ []) xs (sym p.same) in
    let z = final r.End w.End c.rest refl c.roles in
    let m = tree_of source f.Program p.program p.spelled c.front c.fronts in
    spells_at source (record { tables = m.tables; classes = m.class ∷ m.classes }) xs (m.front ++ (m.middle ++ (m.back ++ z.x ∷ [])))
    (cc (c.same, m.same, z.same, append_assoc m.front (m.middle ++ m.back) (z.x ∷ []), append_assoc m.middle m.back (z.x ∷ [])))
    (g.SpellsProgram.program m.tables m.class m.classes z.x m.front m.middle m.back z.is m.fronts m.middles m.backs)
