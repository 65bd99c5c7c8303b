-- Parts of expressions and of statements, from what is known of an expression.
use Rattle.std.proofs.Common.{ℕ, ◌≤◌, Bool, length, sym, subst}
use Rattle.px_value.specs.Outcome.{◌>>=◌}
use Rattle.px_tree.specs.declared.Expr.{Expr}
use Rattle.px_facts.specs.declared.types.Ty.{Ty as Static}
use Rattle.px_facts.specs.declared.checked.Checked.{Checked}
use Rattle.px_effects.specs.Run.{Ask}
use Rattle.px_mean.specs.Facts.{type_at}
use Rattle.px_mean.specs.Expressions.{Calls as SourceCalls, Meant, fit, meant}
use Rattle.px_normal.specs.declared.code.Code.{Code}
use Rattle.px_normal.specs.CodeRun.{Calls}
use Rattle.px_lowering.specs.declared.draft.Draft.{Draft}
use Rattle.px_lowering.specs.Emit.{slot_of}
use Rattle.px_lowering.specs.Expressions.{low, part_of, operand_at, fit_to, fitted_operand}
use Rattle.px_lowering.specs.Statements.{unused as unused_low}
use Rattle.px_mean.proofs.Forms.{meant_type}
use Rattle.px_preservation.proofs.Operands.{IsOperand, IsSlotted, IsUnused, operand_is, slotted_is, unused_is}
use Rattle.px_preservation.proofs.Fitted.{fits}
use Rattle.px_preservation.proofs.Agree.{CallsMeet, IsLowered, Lowers, around}

module _ (Q W : Type 0) (ask : Ask Q W) (P : Checked) (code : Code) (source_calls : SourceCalls Q W) (calls : Calls Q W) (n : ℕ) (met : CallsMeet Q W ask P code source_calls calls n) where
  abbrev pub says : Expr → Meant Q W
  says x = meant (around Q W ask P code source_calls calls n) x

  pub operand_low : (x : Expr) → Lowers Q W ask P code source_calls calls n x → (o : Draft) → n ≤ length o.slots → IsOperand Q W ask P code source_calls calls n (says x).run o (operand_at P (part_of P x) o)
  operand_low x h o le = operand_is Q W ask P code source_calls calls n (says x).run o ((low P x).part.lower o) (h o le)

  pub fit_low : (x : Expr) → Lowers Q W ask P code source_calls calls n x → (to : Static) (o : Draft) → n ≤ length o.slots → IsLowered Q W ask P code source_calls calls n ((says x).run >>= fit (says x).ty to) o (fit_to P to (part_of P x) o)
  fit_low x h to o le =
      subst (λ u. IsLowered Q W ask P code source_calls calls n ((says x).run >>= fit u to) o (fit_to P to (part_of P x) o)) (sym (meant_type Q W (around Q W ask P code source_calls calls n) x))
      (fits Q W ask P code source_calls calls n met (type_at P.facts x.id) to (says x).run o ((low P x).part.lower o) (h o le))

  pub fitted_low : (x : Expr) → Lowers Q W ask P code source_calls calls n x → (to : Static) (o : Draft) → n ≤ length o.slots → IsOperand Q W ask P code source_calls calls n ((says x).run >>= fit (says x).ty to) o (fitted_operand P to (part_of P x) o)
  fitted_low x h to o le = operand_is Q W ask P code source_calls calls n ((says x).run >>= fit (says x).ty to) o (fit_to P to (part_of P x) o) (fit_low x h to o le)

  pub slot_low : (x : Expr) → Lowers Q W ask P code source_calls calls n x → (to : Static) (slot token : ℕ) (o : Draft) → n ≤ length o.slots → IsSlotted Q W ask P code source_calls calls n ((says x).run >>= fit (says x).ty to) slot o (slot_of P slot token (fit_to P to (part_of P x) o))
  slot_low x h to slot token o le = slotted_is Q W ask P code source_calls calls n met ((says x).run >>= fit (says x).ty to) o (fit_to P to (part_of P x) o) slot token (fit_low x h to o le)

  pub unused_low_is : (x : Expr) → Lowers Q W ask P code source_calls calls n x → (b : Bool) (o : Draft) → n ≤ length o.slots → IsUnused Q W ask P code source_calls calls n (says x).run o (unused_low P b ((low P x).part.lower o))
  unused_low_is x h b o le = unused_is Q W ask P code source_calls calls n (says x).run o ((low P x).part.lower o) b (h o le)
