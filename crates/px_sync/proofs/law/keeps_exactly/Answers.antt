use Rattle.px_sync.proofs.Keeping.{keeps_to, keeps_back}
use Rattle.px_sync.proofs.law.keeps_exactly.Goals as goal

pub returns : goal.returns
returns c = λ code sides points side s part touched. record { to = keeps_to code sides points touched side s part; back = keeps_back code sides points touched side s part }
