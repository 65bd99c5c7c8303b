-- The assignment to each form of an expression.
use Rattle.std.proofs.Common.{◌≡◌, ℕ, ◌≤◌, List, ◌∷◌, length, Some, refl, sym, ap, ◌∙◌, subst, le_trans}
use Rattle.std.proofs.lemmas.Option.{slice_get_within}
use Rattle.px_value.specs.declared.value.Value.{Value}
use Rattle.px_value.specs.Outcome.{◌>>=◌, on_shared}
use Rattle.px_tree.specs.declared.Expr.{Expr}
use Rattle.px_tree.specs.declared.ExprForm.{ExprForm-F, ExprForm, out-ExprForm}
use Rattle.px_tree.specs.declared.ExprForm.TheVariants.{outs-Number, outs-Str, outs-True, outs-False, outs-Null, outs-This, outs-Name, outs-Group, outs-Field, outs-Index, outs-Call, outs-NewObject, outs-NewArray, outs-Prefix, outs-Binary}
use Rattle.px_facts.specs.declared.types.Ty.{Ty as Static}
use Rattle.px_facts.specs.declared.checked.Checked.{Checked}
use Rattle.px_facts.specs.declared.checked.Named.{Named}
use Rattle.px_effects.specs.Run.{Ask}
use Rattle.px_mean.specs.Run.{Here as SourceHere}
use Rattle.px_mean.specs.Facts.{type_at, named_at}
use Rattle.px_mean.specs.Effects.{store}
use Rattle.px_mean.specs.Expressions.{Meant, Calls as SourceCalls, fit, put_name, put_member}
use Rattle.px_mean.specs.Typing as typing
use Rattle.px_mean.specs.Typing.{IsVariable, IsMember, IsTypedExpr}
use Rattle.px_normal.specs.declared.node.Counter.TheVariants.{Completed}
use Rattle.px_normal.specs.declared.code.Code.{Code}
use Rattle.px_normal.specs.CodeRun.{Calls}
use Rattle.px_lowering.specs.declared.draft.Draft.{Draft}
use Rattle.px_lowering.specs.Emit.{Operated}
use Rattle.px_lowering.specs.Expressions.{part_of, operand_at, fitted_operand, put_form, put_low}
use Rattle.px_lowering.specs.Expressions as lower
use Rattle.px_preservation.proofs.Agree.{CallsMeet, Lowers}
use Rattle.px_mean.proofs.Forms.{meant_number, meant_text, meant_true, meant_false, meant_null, meant_this, meant_name, meant_group, meant_field, meant_index, meant_call, meant_new_object, meant_new_array, meant_prefix, meant_binary}
use Rattle.px_preservation.proofs.Operands.{IsOperand}
use Rattle.px_preservation.proofs.Afters.{grown}
use Rattle.px_preservation.proofs.Assignments.{IsPut, own_field_put, field_put, element_put, two_put, nothing_put}
use Rattle.px_preservation.proofs.Locals.{slotted_put}
use Rattle.px_preservation.proofs.Parts.{says, operand_low, fitted_low, slot_low}

module _ (Q W : Type 0) (ask : Ask Q W) (P : Checked) (code : Code) (source_calls : SourceCalls Q W) (calls : Calls Q W) (static : List Static) (met : CallsMeet Q W ask P code source_calls calls (length static)) where
  abbrev N : ℕ
  N = length static

  abbrev Says : Expr → Meant Q W
  Says = says Q W ask P code source_calls calls N met

  abbrev Low : Expr → Type 0
  Low = Lowers Q W ask P code source_calls calls N

  abbrev pub Writes : SourceHere Q W (Unit {0}) → Draft → Draft → Type 0
  Writes = IsPut Q W ask P code source_calls calls N

  abbrev HasOperand : SourceHere Q W Value → Draft → Operated → Type 0
  HasOperand = IsOperand Q W ask P code source_calls calls N

  wider : (r : SourceHere Q W Value) (o : Draft) (a : Operated) → N ≤ length o.slots → HasOperand r o a → N ≤ length a.out.slots
  wider r o a le i = le_trans le (grown o.slots a.out.slots i.temps i.slots_are)

  variable_put : (nm : Named) (t to : Static) (x : Expr) (token : ℕ) → IsVariable P.facts static nm t → Low x → (o : Draft) → N ≤ length o.slots → Writes (put_name nm to (Says x).ty (Says x).run) o (lower.put_name P nm to (part_of P x) token o)
  variable_put _ _ to x token (typing.IsVariable.local slot t h) l o le = slotted_put Q W ask P code source_calls calls N ((Says x).run >>= fit (Says x).ty to) slot o _ (slice_get_within static slot t h) le (slot_low Q W ask P code source_calls calls N met x l to slot token o le)
  variable_put _ _ to x token (typing.IsVariable.field class place t h e) l o le = own_field_put Q W ask P code source_calls calls N ((Says x).run >>= fit (Says x).ty to) o (fitted_operand P to (part_of P x) o) class place token (Completed x.id) (slice_get_within static 0 _ h) le (fitted_low Q W ask P code source_calls calls N met x l to o le)

  member_put : (nm : Named) (u t to : Static) (of x : Expr) (token : ℕ) → IsMember P.facts nm u t → Low of → Low x → (o : Draft) → N ≤ length o.slots → Writes ((Says of).run >>= (λ v. (Says x).run >>= fit (Says x).ty to >>= put_member nm v)) o (lower.put_member P nm to (part_of P of) (part_of P x) token o)
  member_put _ _ _ to of x token (typing.IsMember.field class place t h) lo lx o le =
      let a : Operated = operand_at P (part_of P of) o in
      let i = operand_low Q W ask P code source_calls calls N met of lo o le in
      field_put Q W ask P code source_calls calls N (Says of).run ((Says x).run >>= fit (Says x).ty to) o a (fitted_operand P to (part_of P x) a.out) class place token (Completed x.id) le i (fitted_low Q W ask P code source_calls calls N met x lx to a.out (wider (Says of).run o a le i))
  member_put _ _ _ to of x token (typing.IsMember.array_length t) lo lx o le =
      let a : Operated = operand_at P (part_of P of) o in
      let i = operand_low Q W ask P code source_calls calls N met of lo o le in
      two_put Q W ask P code source_calls calls N (Says of).run ((Says x).run >>= fit (Says x).ty to) o a (fitted_operand P to (part_of P x) a.out) le i (fitted_low Q W ask P code source_calls calls N met x lx to a.out (wider (Says of).run o a le i))

  index_put : (to : Static) (of index x : Expr) (token : ℕ) → Low of → Low index → Low x → (o : Draft) → N ≤ length o.slots → Writes ((Says of).run >>= (λ a. (Says index).run >>= (λ i. (Says x).run >>= fit (Says x).ty to >>= (λ v. on_shared (store a i v))))) o (lower.put_element P to (part_of P of) (part_of P index) (part_of P x) token o)
  index_put to of index x token lo li lx o le =
      let a : Operated = operand_at P (part_of P of) o in
      let ia = operand_low Q W ask P code source_calls calls N met of lo o le in
      let le1 = wider (Says of).run o a le ia in
      let b : Operated = operand_at P (part_of P index) a.out in
      let ib = operand_low Q W ask P code source_calls calls N met index li a.out le1 in
      let le2 = wider (Says index).run a.out b le1 ib in
      element_put Q W ask P code source_calls calls N (Says of).run (Says index).run ((Says x).run >>= fit (Says x).ty to) o a b (fitted_operand P to (part_of P x) b.out) token (Completed x.id) le ia ib (fitted_low Q W ask P code source_calls calls N met x lx to b.out le2)

  -- by equations of the place's form
  by_form : (place x : Expr) (m : Meant Q W) (form : ExprForm-F ExprForm Expr) (token : ℕ) (o : Draft) → Says place ≡ m → out-ExprForm place.form ≡ form → Writes (m.put (Says x).ty (Says x).run) o (put_form P form place.id (part_of P x) token o) → Writes ((Says place).put (Says x).ty (Says x).run) o (put_low P place (part_of P x) token o)
  by_form place x m form token o a b h =
      subst (λ (m : Meant Q W). Writes (m.put (Says x).ty (Says x).run) o (put_low P place (part_of P x) token o)) (sym a)
      (subst (λ (f : ExprForm-F ExprForm Expr). Writes (m.put (Says x).ty (Says x).run) o (put_form P f place.id (part_of P x) token o)) (sym b) h)

  -- the parts of what is assigned to are lowered as their typing says
  pub assigned : ((y : Expr) → IsTypedExpr P.facts static y → Low y) → (place x : Expr) (token : ℕ) → IsTypedExpr P.facts static place → Low x → (o : Draft) → N ≤ length o.slots → Writes ((Says place).put (Says x).ty (Says x).run) o (put_low P place (part_of P x) token o)
  assigned lows _ x token (typing.IsTypedExpr.number y digits long h e) l o le = by_form y x _ _ token o (meant_number Q W _ y digits long h) (ap out-ExprForm h ∙ outs-Number digits long) (nothing_put Q W ask P code source_calls calls N o)
  assigned lows _ x token (typing.IsTypedExpr.text y bytes h e) l o le = by_form y x _ _ token o (meant_text Q W _ y bytes h) (ap out-ExprForm h ∙ outs-Str bytes) (nothing_put Q W ask P code source_calls calls N o)
  assigned lows _ x token (typing.IsTypedExpr.truth y h e) l o le = by_form y x _ _ token o (meant_true Q W _ y h) (ap out-ExprForm h ∙ outs-True) (nothing_put Q W ask P code source_calls calls N o)
  assigned lows _ x token (typing.IsTypedExpr.falsehood y h e) l o le = by_form y x _ _ token o (meant_false Q W _ y h) (ap out-ExprForm h ∙ outs-False) (nothing_put Q W ask P code source_calls calls N o)
  assigned lows _ x token (typing.IsTypedExpr.null y h e) l o le = by_form y x _ _ token o (meant_null Q W _ y h) (ap out-ExprForm h ∙ outs-Null) (nothing_put Q W ask P code source_calls calls N o)
  assigned lows _ x token (typing.IsTypedExpr.this y h e) l o le = by_form y x _ _ token o (meant_this Q W _ y h) (ap out-ExprForm h ∙ outs-This) (nothing_put Q W ask P code source_calls calls N o)
  assigned lows _ x token (typing.IsTypedExpr.variable y name h v) l o le = by_form y x _ _ token o (meant_name Q W _ y name h) (ap out-ExprForm h ∙ outs-Name name) (variable_put (named_at P.facts y.id) (type_at P.facts y.id) (type_at P.facts y.id) x token v l o le)
  assigned lows _ x token (typing.IsTypedExpr.group y inner h e i) l o le = by_form y x _ _ token o (meant_group Q W _ y inner inner h refl) (ap out-ExprForm h ∙ outs-Group inner) (nothing_put Q W ask P code source_calls calls N o)
  assigned lows _ x token (typing.IsTypedExpr.field y of name h m i) l o le = by_form y x _ _ token o (meant_field Q W _ y of of name h refl) (ap out-ExprForm h ∙ outs-Field of name) (member_put (named_at P.facts y.id) (type_at P.facts of.id) (type_at P.facts y.id) (type_at P.facts y.id) of x token m (lows of i) l o le)
  assigned lows _ x token (typing.IsTypedExpr.indexed y of index t h e d i j) l o le = by_form y x _ _ token o (meant_index Q W _ y of of index index h refl refl) (ap out-ExprForm h ∙ outs-Index of index) (index_put (type_at P.facts y.id) of index x token (lows of i) (lows index j) l o le)
  assigned lows _ x token (typing.IsTypedExpr.call y of name args method fact h a b c d i) l o le = by_form y x _ _ token o (meant_call Q W _ y of name args h) (ap out-ExprForm h ∙ outs-Call of name args) (nothing_put Q W ask P code source_calls calls N o)
  assigned lows _ x token (typing.IsTypedExpr.library y of name args params h a i j) l o le = by_form y x _ _ token o (meant_call Q W _ y (Some of) name args h) (ap out-ExprForm h ∙ outs-Call (Some of) name args) (nothing_put Q W ask P code source_calls calls N o)
  assigned lows _ x token (typing.IsTypedExpr.query y of name written args number site q h a b c d i) l o le = by_form y x _ _ token o (meant_call Q W _ y of name (written ∷ args) h) (ap out-ExprForm h ∙ outs-Call of name (written ∷ args)) (nothing_put Q W ask P code source_calls calls N o)
  assigned lows _ x token (typing.IsTypedExpr.update y of name written args number q h a b c d e i) l o le = by_form y x _ _ token o (meant_call Q W _ y of name (written ∷ args) h) (ap out-ExprForm h ∙ outs-Call of name (written ∷ args)) (nothing_put Q W ask P code source_calls calls N o)
  assigned lows _ x token (typing.IsTypedExpr.new_object y name class site h a b) l o le = by_form y x _ _ token o (meant_new_object Q W _ y name h) (ap out-ExprForm h ∙ outs-NewObject name) (nothing_put Q W ask P code source_calls calls N o)
  assigned lows _ x token (typing.IsTypedExpr.new_array y size base site t h a b i) l o le = by_form y x _ _ token o (meant_new_array Q W _ y size size base h refl) (ap out-ExprForm h ∙ outs-NewArray base size) (nothing_put Q W ask P code source_calls calls N o)
  assigned lows _ x token (typing.IsTypedExpr.prefix y z sign h a i) l o le = by_form y x _ _ token o (meant_prefix Q W _ y z z sign h refl) (ap out-ExprForm h ∙ outs-Prefix sign z) (nothing_put Q W ask P code source_calls calls N o)
  assigned lows _ x token (typing.IsTypedExpr.binary y left right sign at h a i j) l o le = by_form y x _ _ token o (meant_binary Q W _ y left right left right sign at h refl refl) (ap out-ExprForm h ∙ outs-Binary sign at left right) (nothing_put Q W ask P code source_calls calls N o)
