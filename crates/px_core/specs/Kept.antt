-- What a core keeps.
use Rattle.std.specs.Prelude.{◌≡◌, ◌<◌, ◌≤◌, length, reverse}
use Rattle.px_facts.specs.declared.checked.Checked.{Checked}
use Rattle.px_rows.specs.Tables.{Tables}
use Rattle.px_job.specs.declared.job.Job.{Job as JobOfFile}
use Rattle.px_history.specs.Serial.{IsOwn}
use Rattle.px_faithful.specs.Faithful.{AreOfSessions}
use Rattle.px_engine.specs.declared.engine.Engine.{Engine}
use Rattle.px_engine.specs.Sound.{IsSound}
use Rattle.px_core.specs.Active.{active_in}
use Rattle.px_core.specs.Cored.{told_job, calls_of_job, meaning_by}

-- the engine is sound, each event is its session's own, and there is room for the end of each attempt
pub record IsKeptBy (program : Checked) (job : JobOfFile) (first : Tables) (e : Engine) : Type 0 where
  pub sound : IsSound (calls_of_job job) first e
  pub own : IsOwn (meaning_by program job) first (reverse e.journal.events)
  pub room : length (active_in (reverse e.journal.events)) ≤ e.journal.spare
  pub many : length e.undos.items ≡ length e.seats.items
  pub seated : job.settings.sessions < length e.seats.items
  pub of_sessions : AreOfSessions (told_job job)
