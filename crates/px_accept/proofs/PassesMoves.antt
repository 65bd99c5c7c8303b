-- The symbols behind a postfix, a type and a prefix.
use Rattle.std.proofs.Common.{◌≢◌, ℕ, ◌+◌, Bool, true, false, List, [], ◌∷◌, ◌++◌, refl}
use Rattle.px_accept.specs.declared.role.Role.{Role}
use Rattle.px_accept.specs.declared.role.Role.TheVariants.{Else, New, OpenBracket, CloseBracket, Dot}
use Rattle.px_accept.specs.declared.symbol.Position.{Position}
use Rattle.px_accept.specs.declared.symbol.Seen.TheVariants.{Nothing, AnArray, AField, AnElement}
use Rattle.px_accept.specs.declared.symbol.Symbol.{Symbol}
use Rattle.px_accept.specs.declared.symbol.Symbol.TheVariants.{Need, Identifier, Members, Member, Items, Ended, Otherwise, Simple, Expression, Operand, Tail, ArrayTail}
use Rattle.px_accept.specs.declared.symbol.Symbol.TheVariants as y
use Rattle.px_accept.specs.Machine.{move_of, step, run}
use Rattle.px_accept.specs.Grammar as g
use Rattle.px_accept.specs.Grammar.{Ending}
use Rattle.px_accept.proofs.Steps.{Accepts, not_here, refused}
use Rattle.px_accept.proofs.Continuations.{Goes, after, seen, Typed, MayFollow}

pub on_dot : (k : Ending) (n p : ℕ) (st : List Symbol) (zs : List Role) → Accepts (Identifier ∷ y.Arguments ∷ Tail (n + 1) p ∷ st) zs → Accepts (after k n p st) (Dot ∷ zs)
unfolding run step move_of
on_dot g.OneName n p st zs h = h
on_dot g.Primary n p st zs h = h
on_dot g.Field n p st zs h = h
on_dot g.Element n p st zs h = h
on_dot g.Call n p st zs h = h
on_dot g.Array n p st zs h = h

pub simple_dot : (k : Ending) (q : Position) (n : ℕ) (st : List Symbol) (zs : List Role) → Accepts (Identifier ∷ Simple AField q (n + 1) ∷ st) zs → Accepts (Simple (seen k) q n ∷ st) (Dot ∷ zs)
unfolding run step move_of
simple_dot g.OneName q n st zs h = h
simple_dot g.Primary q n st zs h = h
simple_dot g.Field q n st zs h = h
simple_dot g.Element q n st zs h = h
simple_dot g.Call q n st zs h = h
simple_dot g.Array q n st zs h = h

pub on_index : (k : Ending) (n p : ℕ) (st : List Symbol) (zs : List Role) → k ≢ g.Array → Accepts (Expression ∷ Need CloseBracket ∷ Tail (n + 1) p ∷ st) zs → Accepts (after k n p st) (OpenBracket ∷ zs)
unfolding run step move_of
on_index g.OneName n p st zs e h = h
on_index g.Primary n p st zs e h = h
on_index g.Field n p st zs e h = h
on_index g.Element n p st zs e h = h
on_index g.Call n p st zs e h = h
on_index g.Array n p st zs e h = absurd (e refl)

pub simple_index : (k : Ending) (q : Position) (n : ℕ) (st : List Symbol) (zs : List Role) → k ≢ g.Array → Accepts (Expression ∷ Need CloseBracket ∷ Simple AnElement q (n + 1) ∷ st) zs → Accepts (Simple (seen k) q n ∷ st) (OpenBracket ∷ zs)
unfolding run step move_of
simple_index g.OneName q n st zs e h = h
simple_index g.Primary q n st zs e h = h
simple_index g.Field q n st zs e h = h
simple_index g.Element q n st zs e h = h
simple_index g.Call q n st zs e h = h
simple_index g.Array q n st zs e h = absurd (e refl)

pub from_goes : (k : Ending) (n p : ℕ) (st : List Symbol) (zs : List Role) → Goes st zs → Accepts (after k n p st) zs
from_goes g.OneName n p st zs h = h.called n p
from_goes g.Primary n p st zs h = h.tail n p
from_goes g.Field n p st zs h = h.called n p
from_goes g.Element n p st zs h = h.tail n p
from_goes g.Call n p st zs h = h.tail n p
from_goes g.Array n p st zs h = h.array n p

pub past_else : (st : List Symbol) (t : Role) (zs : List Role) → MayFollow true t → Accepts (Ended 1 ∷ st) (t ∷ zs) → Accepts (Otherwise ∷ Ended 1 ∷ st) (t ∷ zs)
unfolding run step move_of
past_else st Else zs n h = absurd n
past_else st t zs n h = h

pub follows : (o : Bool) (t : Role) → MayFollow true t → MayFollow o t
follows true t h = h
follows false t h = tt

-- where items may go on there is a next token, and no `else`
pub items_go : (X : List Symbol) (a : List Role) (st : List Symbol) (zs : List Role) → Accepts (Items ∷ st) zs → ((t : Role) (us : List Role) → MayFollow true t → Accepts (Items ∷ st) (t ∷ us) → Accepts X (a ++ t ∷ us)) → Accepts X (a ++ zs)
unfolding run step move_of
items_go X a st [] h f = not_here _ _ h
items_go X a st (Else ∷ us) h f = refused h
items_go X a st (t ∷ us) h f = f t us tt h

pub typed_base : (t : Role) → g.IsBase t → Typed (t ∷ [])
unfolding run step move_of
typed_base _ g.integral = record { in_items = λ st n zs h. h; in_for = λ st n zs h. h; in_member = λ st n zs h. h; in_parameters = λ st n zs h. h; in_parameter = λ st n zs h. h }
typed_base _ g.boolean = record { in_items = λ st n zs h. h; in_for = λ st n zs h. h; in_member = λ st n zs h. h; in_parameters = λ st n zs h. h; in_parameter = λ st n zs h. h }
typed_base _ (g.IsBase.named s) = record { in_items = λ st n zs h. h; in_for = λ st n zs h. h; in_member = λ st n zs h. h; in_parameters = λ st n zs h. h; in_parameter = λ st n zs h. h }

pub typed_array : (t : Role) → g.IsBase t → Typed (t ∷ OpenBracket ∷ CloseBracket ∷ [])
unfolding run step move_of
typed_array _ g.integral = record { in_items = λ st n zs h. h; in_for = λ st n zs h. h; in_member = λ st n zs h. h; in_parameters = λ st n zs h. h; in_parameter = λ st n zs h. h }
typed_array _ g.boolean = record { in_items = λ st n zs h. h; in_for = λ st n zs h. h; in_member = λ st n zs h. h; in_parameters = λ st n zs h. h; in_parameter = λ st n zs h. h }
typed_array _ (g.IsBase.named s) = record { in_items = λ st n zs h. h; in_for = λ st n zs h. h; in_member = λ st n zs h. h; in_parameters = λ st n zs h. h; in_parameter = λ st n zs h. h }

pub array_expression : (t : Role) (n p : ℕ) (st : List Symbol) (zs : List Role) → g.IsBase t → Accepts (Expression ∷ Need CloseBracket ∷ ArrayTail n p ∷ st) zs → Accepts (Operand n p ∷ st) (New ∷ t ∷ OpenBracket ∷ zs)
unfolding run step move_of
array_expression _ n p st zs g.integral h = h
array_expression _ n p st zs g.boolean h = h
array_expression _ n p st zs (g.IsBase.named s) h = h

pub array_simple : (t : Role) (q : Position) (n : ℕ) (st : List Symbol) (zs : List Role) → g.IsBase t → Accepts (Expression ∷ Need CloseBracket ∷ Simple AnArray q n ∷ st) zs → Accepts (Simple Nothing q n ∷ st) (New ∷ t ∷ OpenBracket ∷ zs)
unfolding run step move_of
array_simple _ q n st zs g.integral h = h
array_simple _ q n st zs g.boolean h = h
array_simple _ q n st zs (g.IsBase.named s) h = h

pub prefixed : (t : Role) (n p : ℕ) (st : List Symbol) (zs : List Role) → g.IsPrefix t → Accepts (Operand n (p + 1) ∷ st) zs → Accepts (Operand n p ∷ st) (t ∷ zs)
unfolding run step move_of
prefixed _ n p st zs g.IsPrefix.minus h = h
prefixed _ n p st zs g.not h = h

pub accessed : (t : Role) (st : List Symbol) (zs : List Role) → g.IsModifier t → Accepts (Member ∷ Members ∷ st) zs → Accepts (Members ∷ st) (t ∷ zs)
unfolding run step move_of
accessed _ st zs g.as_public h = h
accessed _ st zs g.as_private h = h
