use Rattle.std.proofs.Common.{◌+◌, ◌*◌}
use Rattle.px_plain.proofs.calls.+enter+fn-enter-run.Given as goal

abbrev pub decreases-enter : goal.decreases-enter
decreases-enter l = 2 * l.around.now.left

abbrev pub decreases-run : goal.decreases-run
decreases-run l = 2 * l.inner.left + 1
