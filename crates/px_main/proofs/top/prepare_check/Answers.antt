use Rattle.px_main.proofs.Answers.{check_allowed, check_fixed}
use Rattle.px_main.proofs.top.prepare_check.Goals as goal

pub returns-in-Ok-clause-fixed : goal.returns-in-Ok-clause-fixed
returns-in-Ok-clause-fixed g c = λ n f.
    check_fixed (g.S.Shelf.holds c.args.shelf.now c.args.program.now) _ _ n c.in_ok-program.ensures.file c.in-Ok.ensures f

pub returns-in-Ok-clause-told : goal.returns-in-Ok-clause-told
returns-in-Ok-clause-told g c = record {
  allowed = check_allowed (g.S.Shelf.holds c.args.shelf.now c.args.program.now) _ _ c.in_ok-program.ensures.file c.in-Ok.ensures;
  unfailed = c.in_ok-program.ensures.unfailed;
  over = record { program = _; answers = c.in-Ok.ensures; handed = c.in_ok-program.ensures.handed };
}
