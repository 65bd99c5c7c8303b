-- What the symbols of a stack stand for.
use Rattle.std.proofs.Common.{◌≡◌, ◌≢◌, ◌⊎◌, Bool, false, List, [], ◌∷◌, ◌++◌, refl, sym, ◌∙◌, subst}
use Rattle.px_accept.specs.declared.role.Spelling.{Spelling}
use Rattle.px_accept.specs.declared.role.Spelling.TheVariants.{System, Out, Println}
use Rattle.px_accept.specs.declared.role.Role.{Role}
use Rattle.px_accept.specs.declared.role.Role.TheVariants.{Name, Else, Return, New, CloseBrace, Open, Close, OpenBracket, CloseBracket, Semicolon, Dot, End}
use Rattle.px_accept.specs.declared.symbol.Position.{Position}
use Rattle.px_accept.specs.declared.symbol.Position.TheVariants.{Alone, Init, Update}
use Rattle.px_accept.specs.declared.symbol.Seen.{Seen}
use Rattle.px_accept.specs.declared.symbol.Seen.TheVariants.{Nothing, AfterNew, AfterNewName, AnArray, APrimary, AName, AField, AnElement, ACall, AValue}
use Rattle.px_accept.specs.declared.symbol.Symbol.{Symbol}
use Rattle.px_accept.specs.declared.symbol.Symbol.TheVariants.{Need, Identifier, ParameterType, Tables, Classes, Columns, Members, Member, Brackets, MemberRest, Parameters, MoreParameters, Body, Braced, Items, Ended, ItemName, ItemBracket, Otherwise, Returned, ForInit, ForName, ForBracket, SystemFirst, SystemDot, SystemOut, SystemOutDot, Printing, Simple, Expression, Operand, Parenthesis, Tail, ArrayTail, Making, MakingName, ArgumentList, MoreArguments}
use Rattle.px_accept.specs.declared.symbol.Symbol.TheVariants as y
use Rattle.px_accept.specs.Moves.{Move, Refuse, Pass, Push, before}
use Rattle.px_accept.specs.Grammar as g
use Rattle.px_accept.specs.Grammar.{Form, Spelled, Ending, begins_print}

-- from zs on stands a form, and then r
pub record Is (f : Form) (zs r : List Role) : Type 0 where
  pub roles : List Role
  pub same : zs ≡ roles ++ r
  pub spelled : Spelled f roles

pub record AStatement (zs r : List Role) : Type 0 where
  pub ends_open : Bool
  pub roles : List Role
  pub same : zs ≡ roles ++ r
  pub spelled : Spelled (g.Statement ends_open) roles

pub record UpdatePart (zs r : List Role) : Type 0 where
  pub last : List Role
  pub mid : List Role
  pub same : zs ≡ last ++ Close ∷ mid
  pub spelled : Spelled g.SimpleStatement last
  pub inner : AStatement mid r

pub record InitPart (zs r : List Role) : Type 0 where
  pub first : List Role
  pub test : List Role
  pub mid : List Role
  pub same : zs ≡ first ++ (Semicolon ∷ test ++ Semicolon ∷ mid)
  pub spelled : Spelled g.ForInit first
  pub tested : Spelled g.Expression test
  pub rest : UpdatePart mid r

pub record BodyPart (zs r : List Role) : Type 0 where
  pub thrown : List Role
  pub block : List Role
  pub same : zs ≡ thrown ++ (block ++ r)
  pub throws : Spelled g.ThrowsClause thrown
  pub spelled : Spelled g.Block block

pub record ParametersPart (f : Form) (zs r : List Role) : Type 0 where
  pub list : List Role
  pub mid : List Role
  pub same : zs ≡ list ++ Close ∷ mid
  pub spelled : Spelled f list
  pub rest : BodyPart mid r

-- a unary expression behind v makes an expression
abbrev pub Before : List Role → Type 0
Before v = (u : List Role) → Spelled g.Unary u → Spelled g.Expression (v ++ u)

abbrev pub PositionIs : Position → List Role → List Role → Type 0
PositionIs Alone zs r = AStatement zs r
PositionIs Init zs r = InitPart zs r
PositionIs Update zs r = UpdatePart zs r

-- it is no print
abbrev pub Fine : Position → List Role → Type 0
Fine Alone us = begins_print us ≡ false
Fine q us = Unit {0}

abbrev pub Extends : Form → Position → List Role → List Role → Type 0
Extends f q zs r = (w : List Role) → Spelled f w → Fine q (w ++ zs) → PositionIs q (w ++ zs) r

abbrev SimpleIs : Seen → Position → List Role → List Role → Type 0
SimpleIs Nothing q zs r = Fine q zs → PositionIs q zs r
SimpleIs AfterNew q zs r = Fine q (New ∷ zs) → PositionIs q (New ∷ zs) r
SimpleIs AfterNewName q zs r = (s : Spelling) → Fine q (New ∷ Name s ∷ zs) → PositionIs q (New ∷ Name s ∷ zs) r
SimpleIs AnArray q zs r = Extends (g.Postfix g.Array) q zs r
SimpleIs APrimary q zs r = Extends (g.Postfix g.Primary) q zs r
SimpleIs AName q zs r = Extends (g.Postfix g.OneName) q zs r
SimpleIs AField q zs r = Extends (g.Postfix g.Field) q zs r
SimpleIs AnElement q zs r = Extends (g.Postfix g.Element) q zs r
SimpleIs ACall q zs r = Extends (g.Postfix g.Call) q zs r
SimpleIs AValue q zs r = Extends g.SimpleStatement q zs r

-- what a symbol stands for, between zs and r
abbrev pub Lang : Symbol → List Role → List Role → Type 0
Lang (Need w) zs r = zs ≡ w ∷ r
Lang Identifier zs r = (n : Spelling) × (zs ≡ Name n ∷ r)
Lang ParameterType zs r = Is g.TypeName zs r
Lang Tables zs r = Is g.Program zs (End ∷ r)
Lang Classes zs r = Is g.ClassList zs (End ∷ r)
Lang Columns zs r = Is g.ColumnList zs (Close ∷ Semicolon ∷ r)
Lang Members zs r = Is g.MemberList zs (CloseBrace ∷ r)
Lang Member zs r = Is g.UnmodifiedMember zs r
Lang Brackets zs r = (zs ≡ r) ⊎ (zs ≡ OpenBracket ∷ CloseBracket ∷ r)
Lang MemberRest zs r = (n : Spelling) (a : List Role) → Spelled g.TypeName a → Is g.UnmodifiedMember (a ++ Name n ∷ zs) r
Lang Parameters zs r = ParametersPart g.ParameterList zs r
Lang MoreParameters zs r = ParametersPart g.MoreParameters zs r
Lang Body zs r = BodyPart zs r
Lang Braced zs r = Is g.Block zs r
Lang Items zs r = Is g.ItemList zs (CloseBrace ∷ r)
Lang (Ended n) zs r = zs ≡ r
Lang (ItemName s) zs r = Is g.Item (Name s ∷ zs) r
Lang ItemBracket zs r = (s : Spelling) → Is g.Item (Name s ∷ OpenBracket ∷ zs) r
Lang y.Statement zs r = AStatement zs r
Lang Otherwise zs r = (zs ≡ r) ⊎ ((m : List Role) × (zs ≡ Else ∷ m) × AStatement m r)
Lang Returned zs r = AStatement (Return ∷ zs) r
Lang ForInit zs r = InitPart zs r
Lang ForName zs r = (s : Spelling) → InitPart (Name s ∷ zs) r
Lang ForBracket zs r = (s : Spelling) → InitPart (Name s ∷ OpenBracket ∷ zs) r
Lang SystemFirst zs r = AStatement (Name System ∷ zs) r
Lang SystemDot zs r = AStatement (Name System ∷ Dot ∷ zs) r
Lang SystemOut zs r = AStatement (Name System ∷ Dot ∷ Name Out ∷ zs) r
Lang SystemOutDot zs r = AStatement (Name System ∷ Dot ∷ Name Out ∷ Dot ∷ zs) r
Lang Printing zs r = AStatement (Name System ∷ Dot ∷ Name Out ∷ Dot ∷ Name Println ∷ zs) r
Lang (Simple k q n) zs r = SimpleIs k q zs r
Lang Expression zs r = Is g.Expression zs r
Lang (Operand n p) zs r = (v : List Role) → Before v → Is g.Expression (v ++ zs) r
Lang (Parenthesis n p) zs r = (v : List Role) → Before v → Is g.Expression (v ++ Open ∷ zs) r
Lang (Tail n p) zs r = (v x : List Role) (k : Ending) → Before v → Spelled (g.Postfix k) x → k ≢ g.Array → Is g.Expression (v ++ (x ++ zs)) r
Lang (ArrayTail n p) zs r = (v x : List Role) → Before v → Spelled (g.Postfix g.Array) x → Is g.Expression (v ++ (x ++ zs)) r
Lang (Making n p) zs r = (v : List Role) → Before v → Is g.Expression (v ++ New ∷ zs) r
Lang (MakingName n p) zs r = (s : Spelling) (v : List Role) → Before v → Is g.Expression (v ++ New ∷ Name s ∷ zs) r
Lang y.Arguments zs r = (zs ≡ r) ⊎ Is g.Arguments zs r
Lang ArgumentList zs r = Is g.Expressions zs (Close ∷ r)
Lang MoreArguments zs r = Is g.MoreExpressions zs (Close ∷ r)

abbrev pub Chain : List Symbol → List Role → List Role → Type 0
Chain [] zs r = zs ≡ r
Chain (x ∷ xs) zs r = (m : List Role) × Lang x zs m × Chain xs m r

abbrev pub Linked : List Symbol → List Role → List Role → Type 0
Linked [] zs r = zs ≡ r
Linked (x ∷ []) zs r = Lang x zs r
Linked (x ∷ y ∷ xs) zs r = (m : List Role) × Lang x zs m × Linked (y ∷ xs) m r

pub link : (xs : List Symbol) (zs r : List Role) → Chain xs zs r → Linked xs zs r
link [] zs r c = c
link (x ∷ []) zs r c = subst (λ (m : List Role). Lang x zs m) c.2 c.1
link (x ∷ y ∷ xs) zs r c = (c.0, c.1, link (y ∷ xs) c.0 r c.2)

pub unlink : (xs : List Symbol) (zs r : List Role) → Linked xs zs r → Chain xs zs r
unlink [] zs r c = c
unlink (x ∷ []) zs r c = (r, c, refl)
unlink (x ∷ y ∷ xs) zs r c = (c.0, c.1, unlink (y ∷ xs) c.0 r c.2)

pub split : (xs ys : List Symbol) (zs r : List Role) → Chain (xs ++ ys) zs r → (m : List Role) × Chain xs zs m × Chain ys m r
split [] ys zs r c = (zs, refl, c)
split (x ∷ xs) ys zs r c = let i = split xs ys c.0 r c.2 in (i.0, (c.0, c.1, i.1), i.2)

-- a move is right: what it pushes stands for what comes after the token
abbrev pub Sound : Move → Symbol → Role → Type 0
Sound Refuse s t = Unit {0}
Sound Pass s t = (zs : List Role) → Lang s zs zs
Sound (Push xs) s t = (zs r : List Role) → Linked xs zs r → Lang s (t ∷ zs) r

pub sound_before : (m : Move) (more : List Symbol) (s s' : Symbol) (t : Role) → m ≢ Pass → Sound m s t → ((zs mid r : List Role) → Lang s (t ∷ zs) mid → Linked more mid r → Lang s' (t ∷ zs) r) → Sound (before m more) s' t
sound_before Refuse more s s' t n h f = tt
sound_before Pass more s s' t n h f = absurd (n refl)
sound_before (Push xs) more s s' t n h f = λ zs r c.
    let i = split xs more zs r (unlink (xs ++ more) zs r c) in
    f zs i.0 r (h zs i.0 (link xs zs i.0 i.1)) (link more i.0 r i.2)

pub is_at : (f : Form) (zs us r : List Role) → zs ≡ us → Is f us r → Is f zs r
is_at f zs us r e i = record { roles = i.roles; same = e ∙ i.same; spelled = i.spelled }

pub statement_at : (zs us r : List Role) → zs ≡ us → AStatement us r → AStatement zs r
statement_at zs us r e i = record { ends_open = i.ends_open; roles = i.roles; same = e ∙ i.same; spelled = i.spelled }

pub position_at : (q : Position) (zs us r : List Role) → zs ≡ us → (Fine q us → PositionIs q us r) → Fine q zs → PositionIs q zs r
position_at q zs us r e f h = subst (λ (ws : List Role). PositionIs q ws r) (sym e) (f (subst (λ (ws : List Role). Fine q ws) e h))
