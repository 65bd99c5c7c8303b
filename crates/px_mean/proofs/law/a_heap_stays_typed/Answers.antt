use Rattle.px_mean.proofs.TypedCalls.{call_kept}
use Rattle.px_mean.proofs.law.a_heap_stays_typed.Goals as goal

pub returns : goal.returns
returns t c = λ test ask P heap world place entry args typed answers h i e a. call_kept _ _ ask P answers typed heap world place entry args e h i a
