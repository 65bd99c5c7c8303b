-- Items and the head of a `for`: what a move pushes stands for what comes next.
use Rattle.std.proofs.Common.{◌≡◌, ◌≢◌, inl, inr, false, List, [], ◌∷◌, ◌++◌, refl, ◌∙◌, append_assoc}
use Rattle.px_accept.specs.declared.role.Spelling.{Spelling}
use Rattle.px_accept.specs.declared.role.Spelling.TheVariants.{Create, Table, Column, System, Out, Println, SqlException, Plain}
use Rattle.px_accept.specs.declared.role.Role.{Role}
use Rattle.px_accept.specs.declared.role.Role.TheVariants.{Name, Integral, Boolean, If, While, For, Return, OpenBrace, CloseBrace, OpenBracket, CloseBracket, Semicolon, Dot, Assign}
use Rattle.px_accept.specs.declared.symbol.Position.TheVariants.{Alone, Init}
use Rattle.px_accept.specs.declared.symbol.Seen.TheVariants.{Nothing, AName, AField, AnElement}
use Rattle.px_accept.specs.declared.symbol.Symbol.TheVariants.{Need, Identifier, Brackets, Items, ItemName, ItemBracket, ForInit, ForName, ForBracket, Simple, Expression}
use Rattle.px_accept.specs.declared.symbol.Symbol.TheVariants as y
use Rattle.px_accept.specs.Moves.{Move, Refuse, Pass, Push, before}
use Rattle.px_accept.specs.ExpressionMoves.{operand}
use Rattle.px_accept.specs.SimpleMoves.{simple_first, simple_name}
use Rattle.px_accept.specs.StatementMoves.{statement, items, item_dot, item_name, item_bracket, for_init, for_name, for_bracket}
use Rattle.px_accept.specs.Grammar as g
use Rattle.px_accept.specs.Grammar.{Spelled, begins_print}
use Rattle.px_accept.proofs.Languages.{Is, AStatement, UpdatePart, InitPart, Lang, Sound, sound_before}
use Rattle.px_accept.proofs.SoundExpressions.{expression_sound, operand_moves}
use Rattle.px_accept.proofs.SoundSimple.{simple_dot, simple_index, name_sound, first_sound}
use Rattle.px_accept.proofs.SoundStatements.{statement_sound}

pub typed_of : (t : Role) (zs m : List Role) → g.IsBase t → Lang Brackets zs m → Is g.TypeName (t ∷ zs) m
typed_of t zs m i b =
    elim b [
      | inl e ↦ record { roles = t ∷ []; same = rw e refl; spelled = g.type_base t refl i }
      | inr e ↦ record { roles = t ∷ OpenBracket ∷ CloseBracket ∷ []; same = rw e refl; spelled = g.type_array t refl i }
    ]

declare : (zs a b d e r : List Role) → Is g.TypeName zs a → Lang Identifier a b → b ≡ Assign ∷ d → Is g.Expression d e → e ≡ Semicolon ∷ r → Is g.Item zs r
declare zs a b d e r i n p x q = record { roles = i.roles ++ (Name n.0 ∷ Assign ∷ x.roles ++ Semicolon ∷ []); same = i.same ∙ rw (n.1, p, x.same, q) (simp append_assoc); spelled = g.declaration n.0 i.roles x.roles refl i.spelled x.spelled }

declare_init : (zs a b d e h k l r : List Role) → Is g.TypeName zs a → Lang Identifier a b → b ≡ Assign ∷ d → Is g.Expression d e → e ≡ Semicolon ∷ h → Is g.Expression h k → k ≡ Semicolon ∷ l → UpdatePart l r → InitPart zs r
declare_init zs a b d e h k l r i n p x q y s w = record {
  first = i.roles ++ (Name n.0 ∷ Assign ∷ x.roles);
  test = y.roles;
  mid = l;
  same = i.same ∙ rw (n.1, p, x.same, q, y.same, s) (simp append_assoc);
  spelled = g.init_declaration n.0 i.roles x.roles refl i.spelled x.spelled;
  tested = y.spelled;
  rest = w;
}

item_from : (zs r : List Role) → AStatement zs r → Is g.Item zs r
item_from zs r s = record { roles = s.roles; same = s.same; spelled = g.item_statement s.ends_open s.spelled }

more_items : (zs m r : List Role) → Is g.Item zs m → Is g.ItemList m r → Is g.ItemList zs r
more_items zs m r i j = record { roles = i.roles ++ j.roles; same = i.same ∙ rw j.same (simp append_assoc); spelled = g.item_more i.roles j.roles refl i.spelled j.spelled }

statement_moves : (t : Role) → statement t ≢ Pass
statement_moves OpenBrace = λ e. cc
statement_moves Semicolon = λ e. cc
statement_moves If = λ e. cc
statement_moves While = λ e. cc
statement_moves For = λ e. cc
statement_moves Return = λ e. cc
statement_moves (Name System) = λ e. cc
statement_moves (Name s) = λ e. cc
statement_moves t = λ e. cc

item_statement : (t : Role) → Sound (before (statement t) (Items ∷ [])) Items t
item_statement t = sound_before (statement t) (Items ∷ []) y.Statement Items t (statement_moves t) (statement_sound t) (λ zs mid r i c. more_items (t ∷ zs) mid (CloseBrace ∷ r) (item_from (t ∷ zs) mid i) c)

pub items_sound : (t : Role) → Sound (items t) Items t
items_sound CloseBrace = λ zs r c. record { roles = []; same = rw c refl; spelled = g.no_item }
items_sound Integral = λ zs r c. more_items _ c.2.2.2.2.0 _ (declare (Integral ∷ zs) c.0 c.2.0 c.2.2.0 c.2.2.2.0 c.2.2.2.2.0 (typed_of Integral zs c.0 g.integral c.1) c.2.1 c.2.2.1 c.2.2.2.1 c.2.2.2.2.1) c.2.2.2.2.2
items_sound Boolean = λ zs r c. more_items _ c.2.2.2.2.0 _ (declare (Boolean ∷ zs) c.0 c.2.0 c.2.2.0 c.2.2.2.0 c.2.2.2.2.0 (typed_of Boolean zs c.0 g.boolean c.1) c.2.1 c.2.2.1 c.2.2.2.1 c.2.2.2.2.1) c.2.2.2.2.2
items_sound (Name s) = λ zs r c. more_items _ c.0 _ c.1 c.2
items_sound t = item_statement t

pub fine_name : (s : Spelling) (t : Role) → t ≢ Dot → (zs : List Role) → begins_print (Name s ∷ t ∷ zs) ≡ false
fine_name s Dot n zs = absurd (n refl)
fine_name System t n zs = refl
fine_name s t n zs = refl

item_simple : (m : Move) (s : Spelling) (t : Role) → m ≢ Pass → t ≢ Dot → Sound m (Simple AName Alone 1) t → Sound m (ItemName s) t
item_simple Refuse s t n d h = tt
item_simple Pass s t n d h = absurd (n refl)
item_simple (Push xs) s t n d h = λ zs r c. item_from _ r (h zs r c (Name s ∷ []) (g.name s refl) (fine_name s t d zs))

pub field_of : (s u : Spelling) → Spelled (g.Postfix g.Field) (Name s ∷ Dot ∷ Name u ∷ [])
field_of s u = g.dot g.OneName u (Name s ∷ []) refl (g.name s refl)

item_field : (s : Spelling) → ((zs : List Role) → begins_print (Name s ∷ zs) ≡ false) → Sound (Push (Identifier ∷ Simple AField Alone 2 ∷ [])) (ItemName s) Dot
item_field s f = λ zs r c. item_from _ r (simple_dot g.OneName Alone zs c.0 r (Name s ∷ []) c.1.0 c.1.1 c.2 (g.name s refl) (f _))

item_dot_sound : (s : Spelling) → Sound (item_dot s) (ItemName s) Dot
item_dot_sound System = λ zs r c. item_from _ r c
item_dot_sound Create = item_field Create (λ zs. refl)
item_dot_sound Table = item_field Table (λ zs. refl)
item_dot_sound Column = item_field Column (λ zs. refl)
item_dot_sound Out = item_field Out (λ zs. refl)
item_dot_sound Println = item_field Println (λ zs. refl)
item_dot_sound SqlException = item_field SqlException (λ zs. refl)
item_dot_sound Plain = item_field Plain (λ zs. refl)

base_of : (s : Spelling) (zs : List Role) → Is g.TypeName (Name s ∷ zs) zs
base_of s zs = record { roles = Name s ∷ []; same = refl; spelled = g.type_base (Name s) refl (g.IsBase.named s) }

array_of : (s : Spelling) (zs : List Role) → Is g.TypeName (Name s ∷ OpenBracket ∷ CloseBracket ∷ zs) zs
array_of s zs = record { roles = Name s ∷ OpenBracket ∷ CloseBracket ∷ []; same = refl; spelled = g.type_array (Name s) refl (g.IsBase.named s) }

pub item_name_sound : (s : Spelling) (t : Role) → Sound (item_name s t) (ItemName s) t
item_name_sound s (Name u) = λ zs r c. declare (Name s ∷ Name u ∷ zs) (Name u ∷ zs) zs c.0 c.2.0 r (base_of s (Name u ∷ zs)) (u, refl) c.1 c.2.1 c.2.2
item_name_sound s OpenBracket = λ zs r c. c s
item_name_sound s Dot = item_dot_sound s
item_name_sound s t = item_simple (simple_name Alone 1 t) s t (λ e. cc) (λ e. cc) (name_sound Alone 1 t)

item_element : (t : Role) → Sound (before (operand 1 0 t) (Need CloseBracket ∷ Simple AnElement Alone 2 ∷ [])) ItemBracket t
item_element t = sound_before (operand 1 0 t) (Need CloseBracket ∷ Simple AnElement Alone 2 ∷ []) Expression ItemBracket t (operand_moves 1 0 t) (expression_sound t) (λ zs mid r i c s.
    item_from _ r (simple_index g.OneName Alone (t ∷ zs) mid c.0 r (Name s ∷ []) (λ e. cc) i c.1 c.2 (g.name s refl) (fine_name s OpenBracket (λ e. cc) _)))

pub item_bracket_sound : (t : Role) → Sound (item_bracket t) ItemBracket t
item_bracket_sound CloseBracket = λ zs r c s. declare (Name s ∷ OpenBracket ∷ CloseBracket ∷ zs) zs c.0 c.2.0 c.2.2.0 r (array_of s zs) c.1 c.2.1 c.2.2.1 c.2.2.2
item_bracket_sound t = item_element t

init_along : (m : Move) (t : Role) → m ≢ Pass → Sound m (Simple Nothing Init 1) t → Sound m ForInit t
init_along Refuse t n h = tt
init_along Pass t n h = absurd (n refl)
init_along (Push xs) t n h = λ zs r c. h zs r c tt

pub for_init_sound : (t : Role) → Sound (for_init t) ForInit t
for_init_sound Integral = λ zs r c. declare_init (Integral ∷ zs) c.0 c.2.0 c.2.2.0 c.2.2.2.0 c.2.2.2.2.0 c.2.2.2.2.2.0 c.2.2.2.2.2.2.0 r (typed_of Integral zs c.0 g.integral c.1) c.2.1 c.2.2.1 c.2.2.2.1 c.2.2.2.2.1 c.2.2.2.2.2.1 c.2.2.2.2.2.2.1 (c.2.2.2.2.2.2.2 tt)
for_init_sound Boolean = λ zs r c. declare_init (Boolean ∷ zs) c.0 c.2.0 c.2.2.0 c.2.2.2.0 c.2.2.2.2.0 c.2.2.2.2.2.0 c.2.2.2.2.2.2.0 r (typed_of Boolean zs c.0 g.boolean c.1) c.2.1 c.2.2.1 c.2.2.2.1 c.2.2.2.2.1 c.2.2.2.2.2.1 c.2.2.2.2.2.2.1 (c.2.2.2.2.2.2.2 tt)
for_init_sound (Name s) = λ zs r c. c s
for_init_sound t = init_along (simple_first Init 1 t) t (λ e. cc) (first_sound Init 1 t)

name_along : (m : Move) (t : Role) → m ≢ Pass → Sound m (Simple AName Init 1) t → Sound m ForName t
name_along Refuse t n h = tt
name_along Pass t n h = absurd (n refl)
name_along (Push xs) t n h = λ zs r c s. h zs r c (Name s ∷ []) (g.name s refl) tt

pub for_name_sound : (t : Role) → Sound (for_name t) ForName t
for_name_sound (Name u) = λ zs r c s. declare_init (Name s ∷ Name u ∷ zs) (Name u ∷ zs) zs c.0 c.2.0 c.2.2.0 c.2.2.2.0 c.2.2.2.2.0 r (base_of s (Name u ∷ zs)) (u, refl) c.1 c.2.1 c.2.2.1 c.2.2.2.1 c.2.2.2.2.1 (c.2.2.2.2.2 tt)
for_name_sound OpenBracket = λ zs r c s. c s
for_name_sound t = name_along (simple_name Init 1 t) t (λ e. cc) (name_sound Init 1 t)

for_element : (t : Role) → Sound (before (operand 1 0 t) (Need CloseBracket ∷ Simple AnElement Init 2 ∷ [])) ForBracket t
for_element t = sound_before (operand 1 0 t) (Need CloseBracket ∷ Simple AnElement Init 2 ∷ []) Expression ForBracket t (operand_moves 1 0 t) (expression_sound t) (λ zs mid r i c s.
    simple_index g.OneName Init (t ∷ zs) mid c.0 r (Name s ∷ []) (λ e. cc) i c.1 c.2 (g.name s refl) tt)

pub for_bracket_sound : (t : Role) → Sound (for_bracket t) ForBracket t
for_bracket_sound CloseBracket = λ zs r c s. declare_init (Name s ∷ OpenBracket ∷ CloseBracket ∷ zs) zs c.0 c.2.0 c.2.2.0 c.2.2.2.0 c.2.2.2.2.0 c.2.2.2.2.2.0 r (array_of s zs) c.1 c.2.1 c.2.2.1 c.2.2.2.1 c.2.2.2.2.1 c.2.2.2.2.2.1 (c.2.2.2.2.2.2 tt)
for_bracket_sound t = for_element t
