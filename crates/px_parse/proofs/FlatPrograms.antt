-- What spells a program has roles that are one.
use Rattle.std.proofs.Common.{◌≡◌, ℕ, List, [], ◌∷◌, ◌++◌, Option, refl, append_assoc}
use Rattle.px_words.specs.declared.lexeme.Lexeme.{Lexeme}
use Rattle.px_tree.specs.declared.Access.{Access}
use Rattle.px_tree.specs.declared.TypeName.{TypeName}
use Rattle.px_tree.specs.declared.Param.{Param}
use Rattle.px_tree.specs.declared.Member.{Member}
use Rattle.px_tree.specs.declared.Class.{Class}
use Rattle.px_tree.specs.declared.Column.{Column}
use Rattle.px_tree.specs.declared.TableDecl.{TableDecl}
use Rattle.px_accept.specs.declared.role.Role.{Role}
use Rattle.px_accept.specs.declared.role.Role.TheVariants as r
use Rattle.px_accept.specs.declared.role.Spelling.{Spelling}
use Rattle.px_accept.specs.Grammar as f
use Rattle.px_accept.specs.Grammar.{Spelled}
use Rattle.px_accept.specs.Place.{IsProgram}
use Rattle.px_parse.specs.declared.whole.Declared.{Declared}
use Rattle.px_parse.specs.Grammar as g
use Rattle.px_parse.specs.Grammar.{SpellsAccess, SpellsResult, SpellsParam, SpellsMoreParams, SpellsParams, SpellsThrows, SpellsMember, SpellsMembers, SpellsPublic, SpellsClass, SpellsClasses, SpellsMoreColumns, SpellsTable, SpellsTables, SpellsProgram}
use Rattle.px_words.specs.Roles.{roles_of}
use Rattle.px_parse.proofs.PartsOf.{roles_join}
use Rattle.px_parse.proofs.RolesOf.{name_of_word, column_of_word}
use Rattle.px_parse.proofs.FlatExpressions.{flat_type}
use Rattle.px_parse.proofs.FlatStatements.{flat_items}

-- ---- members

with_access : (access : Access) (ms ys : List Lexeme) → SpellsAccess access ms → Spelled f.UnmodifiedMember (roles_of ys) → Spelled f.MemberDeclaration (roles_of (ms ++ ys))
with_access _ _ ys (g.SpellsAccess.as_public x h) s = f.member_access r.Public (roles_of ys) (cc h) f.IsModifier.as_public s
with_access _ _ ys (g.SpellsAccess.as_private x h) s = f.member_access r.Private (roles_of ys) (cc h) f.IsModifier.as_private s
with_access _ _ ys g.SpellsAccess.plain s = f.member_plain s

flat_result : (source : List ℕ) (gives : Option TypeName) (xs : List Lexeme) → SpellsResult source gives xs → Spelled f.Result (roles_of xs)
flat_result source _ _ (g.SpellsResult.nothing x h) = f.result_void (cc h)
flat_result source _ xs (g.SpellsResult.of_type {ty} s) = f.result_type (flat_type source ty xs s)

record IsParameter (ts : List Role) : Type 0 where
  type : List Role
  name : Spelling
  same : ts ≡ type ++ r.Name name ∷ []
  spelled : Spelled f.TypeName type

flat_param : (source : List ℕ) (p : Param) (xs : List Lexeme) → SpellsParam source p xs → IsParameter (roles_of xs)
flat_param source _ _ (g.SpellsParam.param ty ts name h s) =
    let n = name_of_word name.word h in
    record { type = roles_of ts; name = n.0; same = cc (n.1, roles_join ts (name ∷ [])); spelled = flat_type source ty ts s }

flat_more_params : (source : List ℕ) (ps : List Param) (xs : List Lexeme) → SpellsMoreParams source ps xs → Spelled f.MoreParameters (roles_of xs)
flat_more_params source _ _ g.SpellsMoreParams.no_more = f.no_more_parameter
flat_more_params source _ _ (g.SpellsMoreParams.more comma p ps xs ys h s t) =
    let q = flat_param source p xs s in
    f.parameter_more q.name q.type (roles_of ys) (cc (roles_join xs ys, q.same, append_assoc q.type (r.Name q.name ∷ []) (roles_of ys))) q.spelled (flat_more_params source ps ys t)

flat_params : (source : List ℕ) (ps : List Param) (xs : List Lexeme) → SpellsParams source ps xs → Spelled f.ParameterList (roles_of xs)
flat_params source _ _ g.SpellsParams.no_param = f.no_parameter
flat_params source _ _ (g.SpellsParams.params p ps xs ys s t) =
    let q = flat_param source p xs s in
    f.parameter q.name q.type (roles_of ys) (cc (roles_join xs ys, q.same, append_assoc q.type (r.Name q.name ∷ []) (roles_of ys))) q.spelled (flat_more_params source ps ys t)

flat_throws : (xs : List Lexeme) → SpellsThrows xs → Spelled f.ThrowsClause (roles_of xs)
flat_throws _ g.SpellsThrows.no_throws = f.no_throws
flat_throws _ (g.SpellsThrows.throws x name h i) = f.throws (cc (h, i))

flat_member : (source : List ℕ) (m : Member) (xs : List Lexeme) → SpellsMember source m xs → Spelled f.MemberDeclaration (roles_of xs)
flat_member source _ _ (g.SpellsMember.field access ty name semicolon ms ts h i a s) =
    let n = name_of_word name.word h in
    with_access access ms (ts ++ name ∷ semicolon ∷ []) a (f.field n.0 (roles_of ts) (cc (n.1, roles_join ts (name ∷ semicolon ∷ []))) (flat_type source ty ts s))
flat_member source _ _ (g.SpellsMember.method access gives params items ms rs ps ts xs name opening closing begin finish h1 h2 h3 h4 h5 a s t u v) =
    let n = name_of_word name.word h1 in
    with_access access ms (rs ++ name ∷ opening ∷ ps ++ (closing ∷ ts ++ (begin ∷ xs ++ finish ∷ []))) a
    (f.method n.0 (roles_of rs) (roles_of ps) (roles_of ts) (roles_of (begin ∷ xs ++ finish ∷ []))
    (cc (n.1, append_assoc rs (name ∷ opening ∷ ps) (closing ∷ ts ++ (begin ∷ xs ++ finish ∷ [])), roles_join rs (name ∷ opening ∷ ps ++ (closing ∷ ts ++ (begin ∷ xs ++ finish ∷ []))), roles_join ps (closing ∷ ts ++ (begin ∷ xs ++ finish ∷ [])), roles_join ts (begin ∷ xs ++ finish ∷ [])))
    (flat_result source gives rs s) (flat_params source params ps t) (flat_throws ts u) (f.block (roles_of xs) (cc (roles_join xs (finish ∷ []))) (flat_items source items xs v)))

flat_members : (source : List ℕ) (ms : List Member) (xs : List Lexeme) → SpellsMembers source ms xs → Spelled f.MemberList (roles_of xs)
flat_members source _ _ g.SpellsMembers.no_member = f.no_member
flat_members source _ _ (g.SpellsMembers.member m ms xs ys s t) = f.member_more (roles_of xs) (roles_of ys) (roles_join xs ys) (flat_member source m xs s) (flat_members source ms ys t)

-- ---- classes

flat_class : (source : List ℕ) (c : Class) (xs : List Lexeme) → SpellsClass source c xs → Spelled f.ClassDeclaration (roles_of xs)
flat_class source _ _ (g.SpellsClass.class word name opening closing members _ xs h1 h2 h3 h4 g.SpellsPublic.left_out s) =
    let n = name_of_word name.word h2 in
    f.class_plain n.0 (roles_of xs) (cc (n.1, roles_join xs (closing ∷ []))) (flat_members source members xs s)
flat_class source _ _ (g.SpellsClass.class word name opening closing members _ xs h1 h2 h3 h4 (g.SpellsPublic.written x h) s) =
    let n = name_of_word name.word h2 in
    f.class_public n.0 (roles_of xs) (cc (n.1, roles_join xs (closing ∷ []))) (flat_members source members xs s)

flat_classes : (source : List ℕ) (cs : List Class) (xs : List Lexeme) → SpellsClasses source cs xs → Spelled f.ClassList (roles_of xs)
flat_classes source _ _ g.SpellsClasses.no_class = f.no_class
flat_classes source _ _ (g.SpellsClasses.class c cs xs ys s t) = f.class_more (roles_of xs) (roles_of ys) (roles_join xs ys) (flat_class source c xs s) (flat_classes source cs ys t)

-- ---- tables

flat_columns : (source : List ℕ) (cs : List Column) (xs : List Lexeme) → SpellsMoreColumns source cs xs → Spelled f.ColumnList (roles_of xs)
flat_columns source _ _ g.SpellsMoreColumns.no_more = f.no_column
flat_columns source _ _ (g.SpellsMoreColumns.more comma name ty cs xs h i j s) =
    let n = name_of_word name.word i in
    f.column n.0 (roles_of xs) (cc (n.1, column_of_word ty.word j)) (flat_columns source cs xs s)

flat_table : (source : List ℕ) (t : TableDecl) (xs ys : List Lexeme) → SpellsTable source t xs → Spelled f.TableList (roles_of ys) → Spelled f.TableList (roles_of (xs ++ ys))
flat_table source _ _ ys (g.SpellsTable.table create word name opening one ty closing semicolon cs xs h1 h2 h3 h4 h5 h6 h7 h8 s) t =
    let n = name_of_word name.word h3 in
    let m = name_of_word one.word h5 in
    f.table n.0 m.0 (roles_of xs) (roles_of ys)
    (cc (n.1, m.1, column_of_word ty.word h6, append_assoc xs (closing ∷ semicolon ∷ []) ys, roles_join xs (closing ∷ semicolon ∷ ys)))
    (flat_columns source cs xs s) t

flat_tables : (source : List ℕ) (ts : List TableDecl) (xs : List Lexeme) → SpellsTables source ts xs → Spelled f.TableList (roles_of xs)
flat_tables source _ _ g.SpellsTables.no_table = f.no_table
flat_tables source _ _ (g.SpellsTables.table t ts xs ys s u) = flat_table source t xs ys s (flat_tables source ts ys u)

-- ---- programs

pub flat_program : (source : List ℕ) (d : Declared) (xs : List Lexeme) → SpellsProgram source d xs → IsProgram (roles_of xs)
flat_program source _ _ (g.SpellsProgram.program tables class classes finish ts xs ys h s t u) =
    record {
      program = roles_of ts ++ (roles_of xs ++ roles_of ys);
      same = cc (append_assoc (roles_of ts) (roles_of xs ++ roles_of ys) (r.End ∷ []), append_assoc (roles_of xs) (roles_of ys) (r.End ∷ []), roles_join ts (xs ++ (ys ++ finish ∷ [])), roles_join xs (ys ++ finish ∷ []), roles_join ys (finish ∷ []));
      spelled = f.program (roles_of ts) (roles_of xs) (roles_of ys) refl (flat_tables source tables ts s) (flat_class source class xs t) (flat_classes source classes ys u);
    }
