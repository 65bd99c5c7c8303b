-- One pass over all methods.
use Rattle.std.proofs.Common.{◌≡◌, ◌<◌, true, false, List, slice_get, sym, ap, ◌∙◌, subst, arith, add-zero}
use Rattle.px_code.specs.declared.method.Method.{Method}
use Rattle.px_code.specs.declared.code.Code.{Code}
use Rattle.px_code.specs.WellFormed.{IsWellFormed}
use Rattle.px_points.specs.declared.pass.Draft.{Draft}
use Rattle.px_points.specs.Places.{Places}
use Rattle.px_points.specs.Pass.{after_methods}
use Rattle.px_points.specs.Analysis.{IsPointsOf}
use Rattle.px_points.proofs.Marking.{open_places, flag}
use Rattle.px_points.proofs.Flows.{Holds, StandAt, Follows, follows-methods}
use Rattle.px_points.proofs.Closing.{is_points_of}

abbrev pub passed : List Method → Places → Draft
passed methods p = after_methods 0 methods (record { points = p; changed = false })

module _ (code : Code) (methods : List Method) (p : Places) (after : Draft) (same : methods ≡ code.methods) (is : after ≡ passed methods p) where
  is_pass : after ≡ passed code.methods p
  is_pass = is ∙ ap (λ (ms : List Method). passed ms p) same

  follows : Follows code (record { points = p; changed = false }) after
  follows =
      let at : StandAt code 0 code.methods = λ k method here. ap (λ n. slice_get code.methods n) (add-zero k) ∙ here in
      subst (Follows code (record { points = p; changed = false })) (sym is_pass) (follows-methods code 0 code.methods (record { points = p; changed = false }) at)

  pub holds_after : Holds code p → Holds code after.points
  holds_after holds = follows.holds holds

  pub fewer_after : after.changed ≡ true → open_places after.points < open_places p
  fewer_after changed =
      let lighter = follows.lighter in
      let one : flag after.changed ≡ 1 = ap flag changed in
      omega arith

  pub exact_after : IsWellFormed code → Holds code p → after.changed ≡ false → IsPointsOf code after.points
  exact_after formed holds still = subst (λ (d : Draft). IsPointsOf code d.points) (sym is_pass) (is_points_of code p formed holds (ap (λ (d : Draft). d.changed) (sym is_pass) ∙ still))
