-- Members: what a move pushes stands for what comes next.
use Rattle.std.proofs.Common.{◌≡◌, ◌≢◌, inl, inr, ℕ, Bool, true, false, List, [], ◌∷◌, ◌++◌, refl, sym, ap, ◌∙◌, get_or, ◌==◌, append_assoc}
use Rattle.std.proofs.lemmas.Bool.{eqb-true}
use Rattle.px_accept.specs.declared.role.Spelling.TheVariants.{Create, Table, Column, System, Out, Println, SqlException, Plain}
use Rattle.px_accept.specs.declared.role.Role.{Role}
use Rattle.px_accept.specs.declared.role.Role.TheVariants.{Name, Public, Private, Class, Integral, Boolean, Void, Throws, If, Else, While, For, Return, New, Value, OpenBrace, CloseBrace, Open, Close, OpenBracket, CloseBracket, Comma, Semicolon, Dot, Assign, Compound, Step, Minus, Not, Infix, End, Other}
use Rattle.px_accept.specs.declared.symbol.Symbol.TheVariants.{Need, Identifier, ParameterType, Members, Member, Brackets, MemberRest, Parameters, MoreParameters, Body, Braced}
use Rattle.px_accept.specs.Codes.{role_code}
use Rattle.px_accept.specs.Moves.{Pass, Push, before}
use Rattle.px_accept.specs.DeclarationMoves.{identifier, parameter_type, brackets, member, members, member_rest, parameters, more_parameters, braced, body}
use Rattle.px_accept.specs.Machine.{needed}
use Rattle.px_accept.specs.Grammar as g
use Rattle.px_accept.proofs.Languages.{Is, ParametersPart, Lang, Sound, sound_before, is_at}
use Rattle.px_accept.proofs.SoundStatements.{block_of}
use Rattle.px_accept.proofs.SoundItems.{typed_of}

-- a role by its code
coded : List Role
coded = Other ∷ Public ∷ Private ∷ Class ∷ Integral ∷ Boolean ∷ Void ∷ Throws ∷ If ∷ Else ∷ While ∷ For ∷ Return ∷ New ∷ Value ∷ OpenBrace ∷ CloseBrace ∷ Open ∷ Close ∷ OpenBracket ∷ CloseBracket ∷ Comma ∷ Semicolon ∷ Dot ∷ Assign ∷ Compound ∷ Step ∷ Minus ∷ Not ∷ Infix ∷ End ∷ Other ∷ Other ∷ Other ∷ Other ∷ Other ∷ Other ∷ Other ∷ Other ∷ Other ∷ Name Create ∷ Name Table ∷ Name Column ∷ Name System ∷ Name Out ∷ Name Println ∷ Name SqlException ∷ Name Plain ∷ []

decode : (w : Role) → get_or coded (role_code w) Other ≡ w
unfolding coded
decode Public = refl
decode Private = refl
decode Class = refl
decode Integral = refl
decode Boolean = refl
decode Void = refl
decode Throws = refl
decode If = refl
decode Else = refl
decode While = refl
decode For = refl
decode Return = refl
decode New = refl
decode Value = refl
decode OpenBrace = refl
decode CloseBrace = refl
decode Open = refl
decode Close = refl
decode OpenBracket = refl
decode CloseBracket = refl
decode Comma = refl
decode Semicolon = refl
decode Dot = refl
decode Assign = refl
decode Compound = refl
decode Step = refl
decode Minus = refl
decode Not = refl
decode Infix = refl
decode End = refl
decode Other = refl
decode (Name Create) = refl
decode (Name Table) = refl
decode (Name Column) = refl
decode (Name System) = refl
decode (Name Out) = refl
decode (Name Println) = refl
decode (Name SqlException) = refl
decode (Name Plain) = refl

pub need_sound : (b : Bool) (w t : Role) → (role_code w == role_code t) ≡ b → Sound (needed b) (Need w) t
need_sound true w t e = λ zs r c.
    let k : role_code w ≡ role_code t = eqb-true (role_code w) (role_code t) e in
    let f : w ≡ t = sym (decode w) ∙ ap (λ (n : ℕ). get_or coded n Other) k ∙ decode t in
    rw (c, f) refl
need_sound false w t e = tt

pub identifier_sound : (t : Role) → Sound (identifier t) Identifier t
identifier_sound (Name s) = λ zs r c. (s, rw c refl)
identifier_sound t = tt

pub parameter_type_sound : (t : Role) → Sound (parameter_type t) ParameterType t
parameter_type_sound Integral = λ zs r c. typed_of Integral zs r g.integral c
parameter_type_sound Boolean = λ zs r c. typed_of Boolean zs r g.boolean c
parameter_type_sound (Name s) = λ zs r c. typed_of (Name s) zs r (g.IsBase.named s) c
parameter_type_sound t = tt

pub brackets_sound : (t : Role) → Sound (brackets t) Brackets t
brackets_sound OpenBracket = λ zs r c. inr (rw c refl)
brackets_sound t = λ zs. inl refl

typed_member : (t : Role) → g.IsBase t → Sound (Push (Brackets ∷ Identifier ∷ MemberRest ∷ [])) Member t
typed_member t i = λ zs r c.
    let y = typed_of t zs c.0 i c.1 in
    is_at g.UnmodifiedMember _ _ r (y.same ∙ ap (λ (us : List Role). y.roles ++ us) c.2.1.1) (c.2.2 c.2.1.0 y.roles y.spelled)

void_method : (zs a b r : List Role) → Lang Identifier zs a → a ≡ Open ∷ b → ParametersPart g.ParameterList b r → Is g.UnmodifiedMember (Void ∷ zs) r
void_method zs a b r n e p = record {
  roles = Void ∷ (Name n.0 ∷ Open ∷ p.list ++ (Close ∷ p.rest.thrown ++ p.rest.block));
  same = rw (n.1, e, p.same, p.rest.same) (simp append_assoc);
  spelled = g.method n.0 (Void ∷ []) p.list p.rest.thrown p.rest.block refl (g.result_void refl) p.spelled p.rest.throws p.rest.spelled;
}

pub member_sound : (t : Role) → Sound (member t) Member t
member_sound Void = λ zs r c. void_method zs c.0 c.2.0 r c.1 c.2.1 c.2.2
member_sound Integral = typed_member Integral g.integral
member_sound Boolean = typed_member Boolean g.boolean
member_sound (Name s) = typed_member (Name s) (g.IsBase.named s)
member_sound t = tt

member_moves : (t : Role) → member t ≢ Pass
member_moves Void = λ e. cc
member_moves Integral = λ e. cc
member_moves Boolean = λ e. cc
member_moves (Name s) = λ e. cc
member_moves t = λ e. cc

more_members : (zs m r : List Role) → Is g.MemberDeclaration zs m → Is g.MemberList m r → Is g.MemberList zs r
more_members zs m r i j = record { roles = i.roles ++ j.roles; same = i.same ∙ rw j.same (simp append_assoc); spelled = g.member_more i.roles j.roles refl i.spelled j.spelled }

plain_member : (t : Role) → Sound (before (member t) (Members ∷ [])) Members t
plain_member t = sound_before (member t) (Members ∷ []) Member Members t (member_moves t) (member_sound t) (λ zs mid r i c.
    more_members (t ∷ zs) mid (CloseBrace ∷ r) (record { roles = i.roles; same = i.same; spelled = g.member_plain i.spelled }) c)

access_member : (t : Role) → g.IsModifier t → Sound (Push (Member ∷ Members ∷ [])) Members t
access_member t a = λ zs r c. more_members (t ∷ zs) c.0 (CloseBrace ∷ r) (record { roles = t ∷ c.1.roles; same = rw c.1.same refl; spelled = g.member_access t c.1.roles refl a c.1.spelled }) c.2

pub members_sound : (t : Role) → Sound (members t) Members t
members_sound CloseBrace = λ zs r c. record { roles = []; same = rw c refl; spelled = g.no_member }
members_sound Public = access_member Public g.as_public
members_sound Private = access_member Private g.as_private
members_sound t = plain_member t

pub member_rest_sound : (t : Role) → Sound (member_rest t) MemberRest t
member_rest_sound Semicolon = λ zs r c n a h. record { roles = a ++ Name n ∷ Semicolon ∷ []; same = rw c (simp append_assoc); spelled = g.field n a refl h }
member_rest_sound Open = λ zs r c n a h. record {
  roles = a ++ (Name n ∷ Open ∷ c.list ++ (Close ∷ c.rest.thrown ++ c.rest.block));
  same = rw (c.same, c.rest.same) (simp append_assoc);
  spelled = g.method n a c.list c.rest.thrown c.rest.block refl (g.result_type h) c.spelled c.rest.throws c.rest.spelled;
}
member_rest_sound t = tt

typed_parameter : (t : Role) → g.IsBase t → Sound (Push (Brackets ∷ Identifier ∷ MoreParameters ∷ [])) Parameters t
typed_parameter t i = λ zs r c.
    let y = typed_of t zs c.0 i c.1 in
    record { list = y.roles ++ Name c.2.1.0 ∷ c.2.2.list; mid = c.2.2.mid; same = y.same ∙ ap (λ (us : List Role). y.roles ++ us) c.2.1.1 ∙ ap (λ (us : List Role). y.roles ++ Name c.2.1.0 ∷ us) c.2.2.same ∙ sym (append_assoc y.roles (Name c.2.1.0 ∷ c.2.2.list) (Close ∷ c.2.2.mid)); spelled = g.parameter c.2.1.0 y.roles c.2.2.list refl y.spelled c.2.2.spelled; rest = c.2.2.rest }

pub parameters_sound : (t : Role) → Sound (parameters t) Parameters t
parameters_sound Close = λ zs r c. record { list = []; mid = zs; same = refl; spelled = g.no_parameter; rest = c }
parameters_sound Integral = typed_parameter Integral g.integral
parameters_sound Boolean = typed_parameter Boolean g.boolean
parameters_sound (Name s) = typed_parameter (Name s) (g.IsBase.named s)
parameters_sound t = tt

pub more_parameters_sound : (t : Role) → Sound (more_parameters t) MoreParameters t
more_parameters_sound Close = λ zs r c. record { list = []; mid = zs; same = refl; spelled = g.no_more_parameter; rest = c }
more_parameters_sound Comma = λ zs r c. record { list = Comma ∷ c.1.roles ++ Name c.2.1.0 ∷ c.2.2.list; mid = c.2.2.mid; same = rw (c.1.same, c.2.1.1, c.2.2.same) (simp append_assoc); spelled = g.parameter_more c.2.1.0 c.1.roles c.2.2.list refl c.1.spelled c.2.2.spelled; rest = c.2.2.rest }
more_parameters_sound t = tt

pub braced_sound : (t : Role) → Sound (braced t) Braced t
braced_sound OpenBrace = λ zs r c. block_of zs r c
braced_sound t = tt

pub body_sound : (t : Role) → Sound (body t) Body t
body_sound OpenBrace = λ zs r c. let i = block_of zs r c in record { thrown = []; block = i.roles; same = i.same; throws = g.no_throws; spelled = i.spelled }
body_sound Throws = λ zs r c. record { thrown = Throws ∷ Name SqlException ∷ []; block = c.2.roles; same = rw (c.1, c.2.same) refl; throws = g.throws refl; spelled = c.2.spelled }
body_sound t = tt
