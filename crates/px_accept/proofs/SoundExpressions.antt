-- Expressions: what a move pushes stands for what comes next.
use Rattle.std.proofs.Common.{◌≢◌, inl, inr, ℕ, ◌+◌, List, [], ◌∷◌, ◌++◌, refl, sym, ◌∙◌, subst, append_assoc}
use Rattle.px_accept.specs.declared.role.Spelling.{Spelling}
use Rattle.px_accept.specs.declared.role.Role.{Role}
use Rattle.px_accept.specs.declared.role.Role.TheVariants.{Name, Integral, Boolean, New, Value, Open, Close, OpenBracket, CloseBracket, Comma, Dot, Minus, Not, Infix}
use Rattle.px_accept.specs.declared.symbol.Symbol.TheVariants.{Need, Expression, Operand, Parenthesis, Tail, ArrayTail, Making, MakingName, ArgumentList, MoreArguments}
use Rattle.px_accept.specs.declared.symbol.Symbol.TheVariants as y
use Rattle.px_accept.specs.Moves.{Move, Refuse, Pass, Push, before}
use Rattle.px_accept.specs.ExpressionMoves.{operand, parenthesis, tail, array_tail, making, making_name, argument_list, more_arguments, arguments}
use Rattle.px_accept.specs.Grammar as g
use Rattle.px_accept.specs.Grammar.{Spelled, Ending}
use Rattle.px_accept.proofs.Languages.{Is, Before, Lang, Sound, sound_before, is_at}

before_none : Before []
before_none = λ u s. g.operand s

before_prefix : (t : Role) (v : List Role) → g.IsPrefix t → Before v → Before (v ++ t ∷ [])
before_prefix t v i b = λ u s. subst (λ (ws : List Role). Spelled g.Expression ws) (sym (append_assoc v (t ∷ []) u)) (b (t ∷ u) (g.prefix t u refl i s))

before_cast : (v : List Role) → Before v → Before (v ++ Open ∷ Integral ∷ Close ∷ [])
before_cast v b = λ u s. subst (λ (ws : List Role). Spelled g.Expression ws) (sym (append_assoc v (Open ∷ Integral ∷ Close ∷ []) u)) (b (Open ∷ Integral ∷ Close ∷ u) (g.cast u refl s))

before_infix : (t : Role) (w : List Role) → g.IsInfix t → Spelled g.Expression w → Before (w ++ t ∷ [])
before_infix t w i e = λ u s. subst (λ (ws : List Role). Spelled g.Expression ws) (sym (append_assoc w (t ∷ []) u)) (g.infix_of t w u refl i e s)

prefix_move : (n p : ℕ) (t : Role) → g.IsPrefix t → Sound (Push (Operand n (p + 1) ∷ [])) (Operand n p) t
prefix_move n p t i = λ zs r c v b. is_at g.Expression _ _ r (sym (append_assoc v (t ∷ []) zs)) (c (v ++ t ∷ []) (before_prefix t v i b))

pub operand_sound : (n p : ℕ) (t : Role) → Sound (operand n p t) (Operand n p) t
operand_sound n p Minus = prefix_move n p Minus g.IsPrefix.minus
operand_sound n p Not = prefix_move n p Not g.not
operand_sound n p Open = λ zs r c v b. c v b
operand_sound n p Value = λ zs r c v b. c v (Value ∷ []) g.Primary b (g.value refl) (λ e. cc)
operand_sound n p (Name s) = λ zs r c v b.
    elim c.1 [
      | inl e ↦ is_at g.Expression _ _ r (rw e refl) (c.2 v (Name s ∷ []) g.OneName b (g.name s refl) (λ e. cc))
      | inr i ↦ is_at g.Expression _ _ r (rw i.same refl) (c.2 v (Name s ∷ i.roles) g.Call b (g.own_call s i.roles refl i.spelled) (λ e. cc))
    ]
operand_sound n p New = λ zs r c v b. c v b
operand_sound n p t = tt

pub expression_sound : (t : Role) → Sound (operand 1 0 t) Expression t
expression_sound t = along (operand 1 0 t) t (operand_sound 1 0 t)
  where
    along : (m : Move) (t : Role) → Sound m (Operand 1 0) t → Sound m Expression t
    along Refuse t h = tt
    along Pass t h = λ zs. h zs [] before_none
    along (Push xs) t h = λ zs r c. h zs r c [] before_none

-- an operand has no empty spelling, so no move of it passes
pub operand_moves : (n p : ℕ) (t : Role) → operand n p t ≢ Pass
operand_moves n p Minus = λ e. cc
operand_moves n p Not = λ e. cc
operand_moves n p Open = λ e. cc
operand_moves n p Value = λ e. cc
operand_moves n p (Name s) = λ e. cc
operand_moves n p New = λ e. cc
operand_moves n p t = λ e. cc

in_group : (n p : ℕ) (t : Role) → Sound (before (operand 1 0 t) (Need Close ∷ Tail n p ∷ [])) (Parenthesis n p) t
in_group n p t = sound_before (operand 1 0 t) (Need Close ∷ Tail n p ∷ []) Expression (Parenthesis n p) t (operand_moves 1 0 t) (expression_sound t) (λ zs mid r i c v b.
    is_at g.Expression _ _ r (rw (i.same, c.1) (simp append_assoc)) (c.2 v (Open ∷ i.roles ++ Close ∷ []) g.Primary b (g.group i.roles refl i.spelled) (λ e. cc)))

pub parenthesis_sound : (n p : ℕ) (t : Role) → Sound (parenthesis n p t) (Parenthesis n p) t
parenthesis_sound n p Integral = λ zs r c v b. is_at g.Expression _ _ r (rw c.1 (sym (append_assoc v (Open ∷ Integral ∷ Close ∷ []) c.0))) (c.2 (v ++ Open ∷ Integral ∷ Close ∷ []) (before_cast v b))
parenthesis_sound n p t = in_group n p t

dotted : (n p : ℕ) (k : Ending) (v x zs m r : List Role) (s : Spelling) → Before v → Spelled (g.Postfix k) x → Lang y.Arguments zs m → Lang (Tail n p) m r → Is g.Expression (v ++ (x ++ Dot ∷ Name s ∷ zs)) r
dotted n p k v x zs m r s b h a t =
    elim a [
      | inl e ↦ is_at g.Expression _ _ r (rw e (simp append_assoc)) (t v (x ++ Dot ∷ Name s ∷ []) g.Field b (g.dot k s x refl h) (λ e. cc))
      | inr i ↦ is_at g.Expression _ _ r (rw i.same (simp append_assoc)) (t v (x ++ (Dot ∷ Name s ∷ i.roles)) g.Call b (g.dot_call k s x i.roles refl h i.spelled) (λ e. cc))
    ]

tail_infix : (n p : ℕ) (t : Role) → g.IsInfix t → Sound (Push (Operand (n + 1) 0 ∷ [])) (Tail n p) t
tail_infix n p t i = λ zs r c v x k b h ne. is_at g.Expression _ _ r (simp append_assoc) (c ((v ++ x) ++ t ∷ []) (before_infix t (v ++ x) i (b x (g.postfix k h))))

array_infix : (n p : ℕ) (t : Role) → g.IsInfix t → Sound (Push (Operand (n + 1) 0 ∷ [])) (ArrayTail n p) t
array_infix n p t i = λ zs r c v x b h. is_at g.Expression _ _ r (simp append_assoc) (c ((v ++ x) ++ t ∷ []) (before_infix t (v ++ x) i (b x (g.postfix g.Array h))))

pub tail_ends : (n p : ℕ) (zs : List Role) → Lang (Tail n p) zs zs
tail_ends n p zs = λ v x k b h ne. record { roles = v ++ x; same = sym (append_assoc v x zs); spelled = b x (g.postfix k h) }

pub array_ends : (n p : ℕ) (zs : List Role) → Lang (ArrayTail n p) zs zs
array_ends n p zs = λ v x b h. record { roles = v ++ x; same = sym (append_assoc v x zs); spelled = b x (g.postfix g.Array h) }

pub tail_sound : (n p : ℕ) (t : Role) → Sound (tail n p t) (Tail n p) t
tail_sound n p Dot = λ zs r c v x k b h ne. is_at g.Expression _ _ r (rw c.1.1 refl) (dotted (n + 1) p k v x c.0 c.2.0 r c.1.0 b h c.2.1 c.2.2)
tail_sound n p OpenBracket = λ zs r c v x k b h ne.
    is_at g.Expression _ _ r (rw (c.1.same, c.2.1) (simp append_assoc)) (c.2.2 v (x ++ (OpenBracket ∷ c.1.roles ++ CloseBracket ∷ [])) g.Element b (g.index k x c.1.roles refl ne h c.1.spelled) (λ e. cc))
tail_sound n p Infix = tail_infix n p Infix g.infix_sign
tail_sound n p Minus = tail_infix n p Minus g.IsInfix.minus
tail_sound n p t = tail_ends n p

pub array_tail_sound : (n p : ℕ) (t : Role) → Sound (array_tail n p t) (ArrayTail n p) t
array_tail_sound n p Dot = λ zs r c v x b h. is_at g.Expression _ _ r (rw c.1.1 refl) (dotted (n + 1) p g.Array v x c.0 c.2.0 r c.1.0 b h c.2.1 c.2.2)
array_tail_sound n p Infix = array_infix n p Infix g.infix_sign
array_tail_sound n p Minus = array_infix n p Minus g.IsInfix.minus
array_tail_sound n p t = array_ends n p

making_array : (n p : ℕ) (t : Role) → g.IsBase t → Sound (Push (Need OpenBracket ∷ Expression ∷ Need CloseBracket ∷ ArrayTail n p ∷ [])) (Making n p) t
making_array n p t i = λ zs r c v b.
    is_at g.Expression _ _ r (rw (c.1, c.2.1.same, c.2.2.1) (simp append_assoc)) (c.2.2.2 v (New ∷ t ∷ OpenBracket ∷ c.2.1.roles ++ CloseBracket ∷ []) b (g.new_array t c.2.1.roles refl i c.2.1.spelled))

pub making_sound : (n p : ℕ) (t : Role) → Sound (making n p t) (Making n p) t
making_sound n p Integral = making_array n p Integral g.integral
making_sound n p Boolean = making_array n p Boolean g.boolean
making_sound n p (Name s) = λ zs r c v b. c s v b
making_sound n p t = tt

pub making_name_sound : (n p : ℕ) (t : Role) → Sound (making_name n p t) (MakingName n p) t
making_name_sound n p Open = λ zs r c s v b. is_at g.Expression _ _ r (rw c.1 refl) (c.2 v (New ∷ Name s ∷ Open ∷ Close ∷ []) g.Primary b (g.new_object s refl) (λ e. cc))
making_name_sound n p OpenBracket = λ zs r c s v b.
    is_at g.Expression _ _ r (rw (c.1.same, c.2.1) (simp append_assoc)) (c.2.2 v (New ∷ Name s ∷ OpenBracket ∷ c.1.roles ++ CloseBracket ∷ []) b (g.new_array (Name s) c.1.roles refl (g.IsBase.named s) c.1.spelled))
making_name_sound n p t = tt

pub arguments_sound : (t : Role) → Sound (arguments t) y.Arguments t
arguments_sound Open = λ zs r c. inr (record { roles = Open ∷ c.roles ++ Close ∷ []; same = rw c.same (simp append_assoc); spelled = g.arguments c.roles refl c.spelled })
arguments_sound t = λ zs. inl refl

pub more_sound : (t : Role) → Sound (more_arguments t) MoreArguments t
more_sound Comma = λ zs r c. record { roles = Comma ∷ c.1.roles ++ c.2.roles; same = rw (c.1.same, c.2.same) (simp append_assoc); spelled = g.expression_more c.1.roles c.2.roles refl c.1.spelled c.2.spelled }
more_sound Close = λ zs r c. record { roles = []; same = rw c refl; spelled = g.no_more_expression }
more_sound t = tt

first_argument : (t : Role) → Sound (before (operand 1 0 t) (MoreArguments ∷ [])) ArgumentList t
first_argument t = sound_before (operand 1 0 t) (MoreArguments ∷ []) Expression ArgumentList t (operand_moves 1 0 t) (expression_sound t) (λ zs mid r i c.
    record { roles = i.roles ++ c.roles; same = i.same ∙ rw c.same (simp append_assoc); spelled = g.expressions i.roles c.roles refl i.spelled c.spelled })

pub argument_list_sound : (t : Role) → Sound (argument_list t) ArgumentList t
argument_list_sound Close = λ zs r c. record { roles = []; same = rw c refl; spelled = g.no_expression }
argument_list_sound t = first_argument t
