-- Classes and tables: what a move pushes stands for what comes next.
use Rattle.std.proofs.Common.{◌≡◌, List, [], ◌∷◌, ◌++◌, refl, sym, ap, ◌∙◌, append_assoc}
use Rattle.px_accept.specs.declared.role.Spelling.{Spelling}
use Rattle.px_accept.specs.declared.role.Spelling.TheVariants.{Create, Table, Column}
use Rattle.px_accept.specs.declared.role.Role.{Role}
use Rattle.px_accept.specs.declared.role.Role.TheVariants.{Name, Public, Class, OpenBrace, CloseBrace, Open, Close, Comma, Semicolon, End}
use Rattle.px_accept.specs.declared.symbol.Symbol.TheVariants.{Identifier, Tables, Classes, Columns}
use Rattle.px_accept.specs.DeclarationMoves.{classes, created, tables, columns}
use Rattle.px_accept.specs.Grammar as g
use Rattle.px_accept.specs.Grammar.{Spelled}
use Rattle.px_accept.proofs.Languages.{Is, Lang, Sound}

class_of : (zs a b d r : List Role) → Lang Identifier zs a → a ≡ OpenBrace ∷ b → Is g.MemberList b (CloseBrace ∷ r) → Is g.ClassDeclaration (Class ∷ zs) r
class_of zs a b d r n e i = record { roles = Class ∷ Name n.0 ∷ OpenBrace ∷ i.roles ++ CloseBrace ∷ []; same = rw (n.1, e, i.same) (simp append_assoc); spelled = g.class_plain n.0 i.roles refl i.spelled }

public_class_of : (zs o a b r : List Role) → zs ≡ Class ∷ o → Lang Identifier o a → a ≡ OpenBrace ∷ b → Is g.MemberList b (CloseBrace ∷ r) → Is g.ClassDeclaration (Public ∷ zs) r
public_class_of zs o a b r p n e i = record { roles = Public ∷ Class ∷ Name n.0 ∷ OpenBrace ∷ i.roles ++ CloseBrace ∷ []; same = rw (p, n.1, e, i.same) (simp append_assoc); spelled = g.class_public n.0 i.roles refl i.spelled }

more_classes : (zs m r : List Role) → Is g.ClassDeclaration zs m → Is g.ClassList m r → Is g.ClassList zs r
more_classes zs m r i j = record { roles = i.roles ++ j.roles; same = i.same ∙ rw j.same (simp append_assoc); spelled = g.class_more i.roles j.roles refl i.spelled j.spelled }

pub classes_sound : (t : Role) → Sound (classes t) Classes t
classes_sound Public = λ zs r c. more_classes _ c.2.2.2.0 _ (public_class_of zs c.0 c.2.0 c.2.2.0 c.2.2.2.0 c.1 c.2.1 c.2.2.1 c.2.2.2.1) c.2.2.2.2
classes_sound Class = λ zs r c. more_classes _ c.2.2.0 _ (class_of zs c.0 c.2.0 [] c.2.2.0 c.1 c.2.1 c.2.2.1) c.2.2.2
classes_sound End = λ zs r c. record { roles = []; same = rw c refl; spelled = g.no_class }
classes_sound t = tt

pub columns_sound : (t : Role) → Sound (columns t) Columns t
columns_sound Comma = λ zs r c. record { roles = Comma ∷ Name c.1.0 ∷ Name Column ∷ c.2.2.roles; same = rw (c.1.1, c.2.1, c.2.2.same) refl; spelled = g.column c.1.0 c.2.2.roles refl c.2.2.spelled }
columns_sound Close = λ zs r c. record { roles = []; same = rw c refl; spelled = g.no_column }
columns_sound t = tt

first_class : (zs m r : List Role) → Is g.ClassDeclaration zs m → Is g.ClassList m r → Is g.Program zs r
first_class zs m r i j = record { roles = i.roles ++ j.roles; same = i.same ∙ rw j.same (simp append_assoc); spelled = g.program [] i.roles j.roles refl g.no_table i.spelled j.spelled }

data Parted : List Role → Type 0 where
  parts : {ts : List Role} (a b c : List Role) → ts ≡ a ++ (b ++ c) → Spelled g.TableList a → Spelled g.ClassDeclaration b → Spelled g.ClassList c → Parted ts

parted : (ts : List Role) → Spelled g.Program ts → Parted ts
parted ts (g.program a b c q r s t) = parts a b c q r s t

regrouped : (x a b c r : List Role) → x ++ Close ∷ Semicolon ∷ ((a ++ (b ++ c)) ++ r) ≡ ((x ++ Close ∷ Semicolon ∷ a) ++ (b ++ c)) ++ r
regrouped x a b c r = sym (append_assoc (x ++ Close ∷ Semicolon ∷ a) (b ++ c) r ∙ append_assoc x (Close ∷ Semicolon ∷ a) ((b ++ c) ++ r) ∙ ap (λ (us : List Role). x ++ Close ∷ Semicolon ∷ us) (sym (append_assoc a (b ++ c) r)))

more_tables : (n m : Spelling) (zs k r : List Role) (cs ts : List Role) → zs ≡ Name Table ∷ Name n ∷ Open ∷ Name m ∷ Name Column ∷ cs ++ Close ∷ Semicolon ∷ k → Spelled g.ColumnList cs → k ≡ ts ++ r → Parted ts → Is g.Program (Name Create ∷ zs) r
more_tables n m zs k r cs ts e h f (parts a b c q u s t) = record {
  roles = (Name Create ∷ Name Table ∷ Name n ∷ Open ∷ Name m ∷ Name Column ∷ cs ++ Close ∷ Semicolon ∷ a) ++ (b ++ c);
  same = rw (e, f, q) (ap (λ (us : List Role). Name Create ∷ Name Table ∷ Name n ∷ Open ∷ Name m ∷ Name Column ∷ us) (regrouped cs a b c r));
  spelled = g.program (Name Create ∷ Name Table ∷ Name n ∷ Open ∷ Name m ∷ Name Column ∷ cs ++ Close ∷ Semicolon ∷ a) b c refl (g.table n m cs a refl h u) s t;
}

created_sound : (s : Spelling) → Sound (created s) Tables (Name s)
created_sound Create = λ zs r c.
    more_tables c.2.1.0 c.2.2.2.1.0 zs c.2.2.2.2.2.0 (End ∷ r) c.2.2.2.2.2.1.roles c.2.2.2.2.2.2.roles (rw (c.1, c.2.1.1, c.2.2.1, c.2.2.2.1.1, c.2.2.2.2.1, c.2.2.2.2.2.1.same) refl) c.2.2.2.2.2.1.spelled c.2.2.2.2.2.2.same (parted _ c.2.2.2.2.2.2.spelled)
created_sound s = tt

pub tables_sound : (t : Role) → Sound (tables t) Tables t
tables_sound (Name s) = created_sound s
tables_sound Public = λ zs r c. first_class _ c.2.2.2.0 _ (public_class_of zs c.0 c.2.0 c.2.2.0 c.2.2.2.0 c.1 c.2.1 c.2.2.1 c.2.2.2.1) c.2.2.2.2
tables_sound Class = λ zs r c. first_class _ c.2.2.0 _ (class_of zs c.0 c.2.0 [] c.2.2.0 c.1 c.2.1 c.2.2.1) c.2.2.2
tables_sound t = tt
