-- The settings of a run.
use Rattle.std.specs.Prelude.{ℕ, nat_le, Bool, ◌&&◌, Option, Some, None, if◌then◌else◌}
use Rattle.px_job.specs.declared.settings.Settings.{Settings}
use Rattle.px_job.specs.declared.settings.Stood.{Stood}
use Rattle.px_job.specs.declared.settings.Setting.{Setting}
use Rattle.px_job.specs.declared.settings.Setting.TheVariants.{Sessions, Workers, Retries, Alpha, Latency, PerByte, Profile}

-- the range of a setting
abbrev pub least : Setting → ℕ
least Sessions = 1
least Workers = 1
least _ = 0

abbrev pub most : Setting → ℕ
most Sessions = 16
most Workers = 16
most Retries = 9
most Alpha = 1000
most Latency = 1000000
most PerByte = 1000
most Profile = 200

abbrev pub in_range : Setting → ℕ → Bool
in_range setting number = nat_le (least setting) number && nat_le number (most setting)

-- no line of a setting's form has stood
abbrev pub nothing_stood : Stood
nothing_stood = record { sessions = None; workers = None; retries = None; alpha = None; latency = None; per_byte = None; profile = None }

-- the number on the first line that has a setting's form
abbrev pub stood : Stood → Setting → Option ℕ
stood s Sessions = s.sessions
stood s Workers = s.workers
stood s Retries = s.retries
stood s Alpha = s.alpha
stood s Latency = s.latency
stood s PerByte = s.per_byte
stood s Profile = s.profile

abbrev pub stood_with : Stood → Setting → ℕ → Stood
stood_with s Sessions number = record s { sessions = Some number }
stood_with s Workers number = record s { workers = Some number }
stood_with s Retries number = record s { retries = Some number }
stood_with s Alpha number = record s { alpha = Some number }
stood_with s Latency number = record s { latency = Some number }
stood_with s PerByte number = record s { per_byte = Some number }
stood_with s Profile number = record s { profile = Some number }

-- a number outside its range sets nothing
abbrev pub set_or : Setting → ℕ → Option ℕ → ℕ
set_or setting default (Some number) = if in_range setting number then number else default
set_or setting default None = default

abbrev pub value_or : Stood → Setting → ℕ → ℕ
value_or s setting default = set_or setting default (stood s setting)

-- what the first lines of their forms set
abbrev pub settings_of : Stood → Settings
settings_of s =
    record {
      sessions = value_or s Sessions 1;
      workers = value_or s Workers 1;
      retries = value_or s Retries 3;
      alpha = value_or s Alpha 200;
      latency = value_or s Latency 1000;
      per_byte = value_or s PerByte 1;
      profile = value_or s Profile 50;
    }
