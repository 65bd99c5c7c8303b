use Rattle.std.proofs.Common.{◌≡◌, ◌∙◌, ℕ, List, Option, IfSome, subst}
use Rattle.std.specs.Option.{option_map}
use Rattle.px_main.specs.Answers.{kept, max_job}
use Rattle.px_main.proofs.Answers.{allowed, fixed}
use Rattle.px_main.proofs.Reading.{one_after_other}
use Rattle.px_main.proofs.top.prepare_serve.Goals as goal

pub returns-in-Ok-clause-told : goal.returns-in-Ok-clause-told
returns-in-Ok-clause-told g c = record {
  allowed =
      allowed c.args.kind (g.S.Shelf.holds c.args.shelf.now c.args.program.now) (g.S.Shelf.holds c.args.shelf.now c.args.job.now) _ _ _ c.in_ok-program.ensures.file
      (subst (λ (told : Option (List ℕ)). IfSome told (λ file. kept max_job file ≡ option_map (λ v. v.items) c.in_ok-job.job)) (c.in_ok-program.ensures.holds c.args.job.now) c.in_ok-job.ensures.file)
      c.in-Ok.ensures;
  unfailed = c.in_ok-job.ensures.unfailed ∙ c.in_ok-program.ensures.unfailed;
  over = record {
    program = _;
    job = _;
    answers = c.in-Ok.ensures;
    handed = one_after_other _ _ _ _ _ c.in_ok-program.ensures.handed c.in_ok-job.ensures.handed;
  };
}

pub returns-in-Ok-clause-fixed : goal.returns-in-Ok-clause-fixed
returns-in-Ok-clause-fixed g c = λ n f.
    fixed c.args.kind (g.S.Shelf.holds c.args.shelf.now c.args.program.now) (g.S.Shelf.holds c.args.shelf.now c.args.job.now) _ _ _ n c.in_ok-program.ensures.file
    (subst (λ (told : Option (List ℕ)). IfSome told (λ file. kept max_job file ≡ option_map (λ v. v.items) c.in_ok-job.job)) (c.in_ok-program.ensures.holds c.args.job.now) c.in_ok-job.ensures.file)
    c.in-Ok.ensures f
