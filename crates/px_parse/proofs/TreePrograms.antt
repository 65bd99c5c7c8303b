-- Lexemes whose roles are a member, a class or a table spell one.
use Rattle.std.proofs.Common.{◌≡◌, ℕ, List, [], ◌∷◌, ◌++◌, Some, None, refl, append_assoc}
use Rattle.px_words.specs.declared.lexeme.Lexeme.{Lexeme}
use Rattle.px_words.specs.declared.lexeme.Word.TheVariants as w
use Rattle.px_tree.specs.declared.Access.TheVariants as access
use Rattle.px_tree.specs.declared.Class.{Class}
use Rattle.px_accept.specs.declared.role.Role.{Role}
use Rattle.px_accept.specs.declared.role.Role.TheVariants as r
use Rattle.px_accept.specs.declared.role.Spelling.{Spelling}
use Rattle.px_accept.specs.declared.role.Spelling.TheVariants as s
use Rattle.px_accept.specs.Grammar as f
use Rattle.px_parse.specs.Trees.{first_token, param_of, field_declaration_of, method_with, block_of, class_of, column_of, table_of}
use Rattle.px_parse.specs.Grammar as g
use Rattle.px_parse.specs.Grammar.{SpellsAccess, SpellsClass, SpellsPublic, SpellsMembers, SpellsTable}
use Rattle.px_words.specs.Roles.{roles_of}
use Rattle.px_parse.proofs.RolesOf.{column_is}
use Rattle.px_parse.proofs.PartsOf.{first, cut, key, final, named, none}
use Rattle.px_parse.proofs.MadeOf.{Makes, made_at}

-- ---- members

pub made_void : (source : List ℕ) → Makes source f.Result (r.Void ∷ [])
made_void source xs h =
    let x = final r.Void w.Void xs refl h in
    made_at source f.Result xs (x.x ∷ []) x.same (None, g.SpellsResult.nothing x.x x.is)

pub made_result : (source : List ℕ) (ts : List Role) → Makes source f.TypeName ts → Makes source f.Result ts
made_result source ts m xs h = let ty = m xs h in (Some ty.0, g.SpellsResult.of_type ty.1)

pub made_no_parameter : (source : List ℕ) → Makes source f.ParameterList []
made_no_parameter source xs h = made_at source f.ParameterList xs [] (none xs h) ([], g.SpellsParams.no_param)

pub made_parameter : (source : List ℕ) (n : Spelling) (a b : List Role) → Makes source f.TypeName a → Makes source f.MoreParameters b → Makes source f.ParameterList (a ++ r.Name n ∷ b)
made_parameter source n a b m o xs h =
    let c = cut a (r.Name n ∷ b) xs h in
    let x = named n b c.rest c.roles in
    let ty = m c.front c.fronts in
    let ps = o x.rest x.roles in
    made_at source f.ParameterList xs ((c.front ++ x.x ∷ []) ++ x.rest) (cc (c.same, x.same, append_assoc c.front (x.x ∷ []) x.rest))
    (param_of source ty.0 x.x ∷ ps.0, g.SpellsParams.params (param_of source ty.0 x.x) ps.0 (c.front ++ x.x ∷ []) x.rest (g.SpellsParam.param ty.0 c.front x.x x.is ty.1) ps.1)

pub made_no_more_parameter : (source : List ℕ) → Makes source f.MoreParameters []
made_no_more_parameter source xs h = made_at source f.MoreParameters xs [] (none xs h) ([], g.SpellsMoreParams.no_more)

pub made_more_parameters : (source : List ℕ) (n : Spelling) (a b : List Role) → Makes source f.TypeName a → Makes source f.MoreParameters b → Makes source f.MoreParameters (r.Comma ∷ a ++ r.Name n ∷ b)
made_more_parameters source n a b m o xs h =
    let q = key r.Comma w.Comma (a ++ r.Name n ∷ b) xs refl h in
    let c = cut a (r.Name n ∷ b) q.rest q.roles in
    let x = named n b c.rest c.roles in
    let ty = m c.front c.fronts in
    let ps = o x.rest x.roles in
    made_at source f.MoreParameters xs (q.x ∷ (c.front ++ x.x ∷ []) ++ x.rest) (cc (q.same, c.same, x.same, append_assoc c.front (x.x ∷ []) x.rest))
    (param_of source ty.0 x.x ∷ ps.0, g.SpellsMoreParams.more q.x (param_of source ty.0 x.x) ps.0 (c.front ++ x.x ∷ []) x.rest q.is (g.SpellsParam.param ty.0 c.front x.x x.is ty.1) ps.1)

pub made_no_throws : (source : List ℕ) → Makes source f.ThrowsClause []
made_no_throws source xs h = made_at source f.ThrowsClause xs [] (none xs h) g.SpellsThrows.no_throws

pub made_throws : (source : List ℕ) → Makes source f.ThrowsClause (r.Throws ∷ r.Name s.SqlException ∷ [])
made_throws source xs h =
    let x = key r.Throws w.Throws (r.Name s.SqlException ∷ []) xs refl h in
    let n = final (r.Name s.SqlException) w.SqlException x.rest refl x.roles in
    made_at source f.ThrowsClause xs (x.x ∷ n.x ∷ []) (cc (x.same, n.same)) (g.SpellsThrows.throws x.x n.x x.is n.is)

pub made_field : (source : List ℕ) (n : Spelling) (a : List Role) → Makes source f.TypeName a → Makes source f.UnmodifiedMember (a ++ r.Name n ∷ r.Semicolon ∷ [])
made_field source n a m xs h =
    let c = cut a (r.Name n ∷ r.Semicolon ∷ []) xs h in
    let x = named n (r.Semicolon ∷ []) c.rest c.roles in
    let z = final r.Semicolon w.Semicolon x.rest refl x.roles in
    let ty = m c.front c.fronts in
    made_at source f.UnmodifiedMember xs (c.front ++ x.x ∷ z.x ∷ []) (cc (c.same, x.same, z.same)) (λ a ms i. (field_declaration_of source a ty.0 x.x, g.SpellsMember.field a ty.0 x.x z.x ms c.front x.is z.is i ty.1))

method_lexemes : (begin finish : Lexeme) (rs ps ts inner : List Lexeme) {x y z : Lexeme} {xs xs1 xs2 xs3 xs4 xs5 xs6 : List Lexeme} → xs ≡ rs ++ xs1 → xs1 ≡ x ∷ xs2 → xs2 ≡ y ∷ xs3 → xs3 ≡ ps ++ xs4 → xs4 ≡ z ∷ xs5 → xs5 ≡ ts ++ xs6 → xs6 ≡ begin ∷ inner ++ finish ∷ []
    → xs ≡ rs ++ x ∷ y ∷ ps ++ (z ∷ ts ++ (begin ∷ inner ++ finish ∷ []))
method_lexemes begin finish rs ps ts inner {x} {y} {z} a b c d e f g = cc (append_assoc rs (x ∷ y ∷ ps) (z ∷ ts ++ (begin ∷ inner ++ finish ∷ [])))

pub made_method : (source : List ℕ) (n : Spelling) (a b d l : List Role) → Makes source f.Result a → Makes source f.ParameterList b → Makes source f.ThrowsClause d → Makes source f.Block l
    → Makes source f.UnmodifiedMember (a ++ (r.Name n ∷ r.Open ∷ b ++ (r.Close ∷ d ++ l)))
made_method source n a b d l m o u v xs h =
    let c = cut a (r.Name n ∷ r.Open ∷ b ++ (r.Close ∷ d ++ l)) xs h in
    let x = named n (r.Open ∷ b ++ (r.Close ∷ d ++ l)) c.rest c.roles in
    let y = key r.Open w.Open (b ++ (r.Close ∷ d ++ l)) x.rest refl x.roles in
    let c2 = cut b (r.Close ∷ d ++ l) y.rest y.roles in
    let z = key r.Close w.Close (d ++ l) c2.rest refl c2.roles in
    let c3 = cut d l z.rest z.roles in
    let gives = m c.front c.fronts in
    let ps = o c2.front c2.fronts in
    let t = u c3.front c3.fronts in
    let block = v c3.rest c3.roles in
    made_at source f.UnmodifiedMember xs (c.front ++ x.x ∷ y.x ∷ c2.front ++ (z.x ∷ c3.front ++ (block.begin ∷ block.inner ++ block.finish ∷ [])))
    (method_lexemes block.begin block.finish c.front c2.front c3.front block.inner {x = x.x} {y = y.x} {z = z.x} {xs = xs} {xs1 = c.rest} {xs2 = x.rest} {xs3 = y.rest} {xs4 = c2.rest} {xs5 = z.rest} {xs6 = c3.rest} c.same x.same y.same c2.same z.same c3.same block.same)
    (λ a ms i. (method_with source (first_token (ms ++ c.front)) a gives.0 x.x ps.0 (block_of block.begin block.items) block.finish.token, g.SpellsMember.method a gives.0 ps.0 block.items ms c.front c2.front c3.front block.inner x.x y.x z.x block.begin block.finish x.is y.is z.is block.begins block.finishes i gives.1 ps.1 t block.spelled))

pub made_plain_member : (source : List ℕ) (ts : List Role) → Makes source f.UnmodifiedMember ts → Makes source f.MemberDeclaration ts
made_plain_member source ts m xs h = m xs h access.Plain [] g.SpellsAccess.plain

pub made_member : (source : List ℕ) (t : Role) (a : List Role) → f.IsModifier t → Makes source f.UnmodifiedMember a → Makes source f.MemberDeclaration (t ∷ a)
made_member source _ a f.IsModifier.as_public m xs h =
    let x = key r.Public w.Public a xs refl h in
    made_at source f.MemberDeclaration xs (x.x ∷ x.rest) x.same (m x.rest x.roles access.Public (x.x ∷ []) (g.SpellsAccess.as_public x.x x.is))
made_member source _ a f.IsModifier.as_private m xs h =
    let x = key r.Private w.Private a xs refl h in
    made_at source f.MemberDeclaration xs (x.x ∷ x.rest) x.same (m x.rest x.roles access.Private (x.x ∷ []) (g.SpellsAccess.as_private x.x x.is))

pub made_no_member : (source : List ℕ) → Makes source f.MemberList []
made_no_member source xs h = made_at source f.MemberList xs [] (none xs h) ([], g.SpellsMembers.no_member)

pub made_members : (source : List ℕ) (a b : List Role) → Makes source f.MemberDeclaration a → Makes source f.MemberList b → Makes source f.MemberList (a ++ b)
made_members source a b m n xs h =
    let c = cut a b xs h in
    let s = m c.front c.fronts in
    let ss = n c.rest c.roles in
    made_at source f.MemberList xs (c.front ++ c.rest) c.same (s.0 ∷ ss.0, g.SpellsMembers.member s.0 ss.0 c.front c.rest s.1 ss.1)

-- ---- classes

class_made : (source : List ℕ) (n : Spelling) (a : List Role) (ms xs : List Lexeme) → SpellsPublic ms → Makes source f.MemberList a → roles_of xs ≡ r.Class ∷ r.Name n ∷ r.OpenBrace ∷ a ++ r.CloseBrace ∷ [] → (c : Class) × SpellsClass source c (ms ++ xs)
class_made source n a ms xs p m h =
    let k = key r.Class w.Class (r.Name n ∷ r.OpenBrace ∷ a ++ r.CloseBrace ∷ []) xs refl h in
    let x = named n (r.OpenBrace ∷ a ++ r.CloseBrace ∷ []) k.rest k.roles in
    let o = key r.OpenBrace w.OpenBrace (a ++ r.CloseBrace ∷ []) x.rest refl x.roles in
    let c = cut a (r.CloseBrace ∷ []) o.rest o.roles in
    let z = final r.CloseBrace w.CloseBrace c.rest refl c.roles in
    let s = m c.front c.fronts in
    made_at source f.ClassDeclaration (ms ++ xs) (ms ++ k.x ∷ x.x ∷ o.x ∷ c.front ++ z.x ∷ []) (cc (k.same, x.same, o.same, c.same, z.same, append_assoc ms (k.x ∷ x.x ∷ o.x ∷ c.front) (z.x ∷ [])))
    (class_of source x.x s.0, g.SpellsClass.class k.x x.x o.x z.x s.0 ms c.front k.is x.is o.is z.is p s.1)

pub made_plain_class : (source : List ℕ) (n : Spelling) (a : List Role) → Makes source f.MemberList a → Makes source f.ClassDeclaration (r.Class ∷ r.Name n ∷ r.OpenBrace ∷ a ++ r.CloseBrace ∷ [])
made_plain_class source n a m xs h = class_made source n a [] xs g.SpellsPublic.left_out m h

pub made_public_class : (source : List ℕ) (n : Spelling) (a : List Role) → Makes source f.MemberList a → Makes source f.ClassDeclaration (r.Public ∷ r.Class ∷ r.Name n ∷ r.OpenBrace ∷ a ++ r.CloseBrace ∷ [])
made_public_class source n a m xs h =
    let x = key r.Public w.Public (r.Class ∷ r.Name n ∷ r.OpenBrace ∷ a ++ r.CloseBrace ∷ []) xs refl h in
    made_at source f.ClassDeclaration xs (x.x ∷ x.rest) x.same (class_made source n a (x.x ∷ []) x.rest (g.SpellsPublic.written x.x x.is) m x.roles)

pub made_no_class : (source : List ℕ) → Makes source f.ClassList []
made_no_class source xs h = made_at source f.ClassList xs [] (none xs h) ([], g.SpellsClasses.no_class)

pub made_classes : (source : List ℕ) (a b : List Role) → Makes source f.ClassDeclaration a → Makes source f.ClassList b → Makes source f.ClassList (a ++ b)
made_classes source a b m n xs h =
    let c = cut a b xs h in
    let s = m c.front c.fronts in
    let ss = n c.rest c.roles in
    made_at source f.ClassList xs (c.front ++ c.rest) c.same (s.0 ∷ ss.0, g.SpellsClasses.class s.0 ss.0 c.front c.rest s.1 ss.1)

-- ---- tables

pub made_no_column : (source : List ℕ) → Makes source f.ColumnList []
made_no_column source xs h = made_at source f.ColumnList xs [] (none xs h) ([], g.SpellsMoreColumns.no_more)

pub made_column : (source : List ℕ) (n : Spelling) (a : List Role) → Makes source f.ColumnList a → Makes source f.ColumnList (r.Comma ∷ r.Name n ∷ r.Name s.Column ∷ a)
made_column source n a m xs h =
    let q = key r.Comma w.Comma (r.Name n ∷ r.Name s.Column ∷ a) xs refl h in
    let x = named n (r.Name s.Column ∷ a) q.rest q.roles in
    let t = first (r.Name s.Column) a x.rest x.roles in
    let cs = m t.rest t.roles in
    made_at source f.ColumnList xs (q.x ∷ x.x ∷ t.x ∷ t.rest) (cc (q.same, x.same, t.same)) (column_of source x.x t.x ∷ cs.0, g.SpellsMoreColumns.more q.x x.x t.x cs.0 t.rest q.is x.is (column_is t.x.word t.role) cs.1)

pub made_no_table : (source : List ℕ) → Makes source f.TableList []
made_no_table source xs h = made_at source f.TableList xs [] (none xs h) ([], g.SpellsTables.no_table)

table_lexemes : (ys : List Lexeme) {a b c d e f g h : Lexeme} {xs xs1 xs2 xs3 xs4 xs5 xs6 xs7 xs8 zs : List Lexeme} → xs ≡ a ∷ xs1 → xs1 ≡ b ∷ xs2 → xs2 ≡ c ∷ xs3 → xs3 ≡ d ∷ xs4 → xs4 ≡ e ∷ xs5 → xs5 ≡ f ∷ xs6 → xs6 ≡ ys ++ xs7 → xs7 ≡ g ∷ xs8 → xs8 ≡ h ∷ zs
    → xs ≡ (a ∷ b ∷ c ∷ d ∷ e ∷ f ∷ ys ++ g ∷ h ∷ []) ++ zs
table_lexemes ys {g} {h} {zs} i j k l m n o p q = cc (append_assoc ys (g ∷ h ∷ []) zs)

pub made_table : (source : List ℕ) (n m : Spelling) (a b : List Role) → Makes source f.ColumnList a → Makes source f.TableList b
    → Makes source f.TableList (r.Name s.Create ∷ r.Name s.Table ∷ r.Name n ∷ r.Open ∷ r.Name m ∷ r.Name s.Column ∷ a ++ r.Close ∷ r.Semicolon ∷ b)
made_table source n m a b columns tables xs h =
    let k1 = key (r.Name s.Create) w.Create (r.Name s.Table ∷ r.Name n ∷ r.Open ∷ r.Name m ∷ r.Name s.Column ∷ a ++ r.Close ∷ r.Semicolon ∷ b) xs refl h in
    let k2 = key (r.Name s.Table) w.Table (r.Name n ∷ r.Open ∷ r.Name m ∷ r.Name s.Column ∷ a ++ r.Close ∷ r.Semicolon ∷ b) k1.rest refl k1.roles in
    let k3 = named n (r.Open ∷ r.Name m ∷ r.Name s.Column ∷ a ++ r.Close ∷ r.Semicolon ∷ b) k2.rest k2.roles in
    let k4 = key r.Open w.Open (r.Name m ∷ r.Name s.Column ∷ a ++ r.Close ∷ r.Semicolon ∷ b) k3.rest refl k3.roles in
    let k5 = named m (r.Name s.Column ∷ a ++ r.Close ∷ r.Semicolon ∷ b) k4.rest k4.roles in
    let k6 = first (r.Name s.Column) (a ++ r.Close ∷ r.Semicolon ∷ b) k5.rest k5.roles in
    let c = cut a (r.Close ∷ r.Semicolon ∷ b) k6.rest k6.roles in
    let k7 = key r.Close w.Close (r.Semicolon ∷ b) c.rest refl c.roles in
    let k8 = key r.Semicolon w.Semicolon b k7.rest refl k7.roles in
    let cs = columns c.front c.fronts in
    let ts = tables k8.rest k8.roles in
    let t = table_of source k3.x (column_of source k5.x k6.x ∷ cs.0) in
    made_at source f.TableList xs ((k1.x ∷ k2.x ∷ k3.x ∷ k4.x ∷ k5.x ∷ k6.x ∷ c.front ++ k7.x ∷ k8.x ∷ []) ++ k8.rest)
    (table_lexemes c.front {a = k1.x} {b = k2.x} {c = k3.x} {d = k4.x} {e = k5.x} {f = k6.x} {g = k7.x} {h = k8.x} {xs = xs} {xs1 = k1.rest} {xs2 = k2.rest} {xs3 = k3.rest} {xs4 = k4.rest} {xs5 = k5.rest} {xs6 = k6.rest} {xs7 = c.rest} {xs8 = k7.rest} {zs = k8.rest} k1.same k2.same k3.same k4.same k5.same k6.same c.same k7.same k8.same) (
      t ∷ ts.0,
      g.SpellsTables.table t ts.0 (k1.x ∷ k2.x ∷ k3.x ∷ k4.x ∷ k5.x ∷ k6.x ∷ c.front ++ k7.x ∷ k8.x ∷ []) k8.rest
          (g.SpellsTable.table k1.x k2.x k3.x k4.x k5.x k6.x k7.x k8.x cs.0 c.front k1.is k2.is k3.is k4.is k5.is (column_is k6.x.word k6.role) k7.is k8.is cs.1) ts.1,
    )

-- ---- programs

pub made_program : (source : List ℕ) (a b d : List Role) → Makes source f.TableList a → Makes source f.ClassDeclaration b → Makes source f.ClassList d → Makes source f.Program (a ++ (b ++ d))
made_program source a b d m n o xs h =
    let c = cut a (b ++ d) xs h in
    let c2 = cut b d c.rest c.roles in
    let ts = m c.front c.fronts in
    let class = n c2.front c2.fronts in
    let classes = o c2.rest c2.roles in
    record { tables = ts.0; class = class.0; classes = classes.0; front = c.front; middle = c2.front; back = c2.rest; same = cc (c.same, c2.same); fronts = ts.1; middles = class.1; backs = classes.1 }
