-- The first words of lines.
use Rattle.std.specs.Prelude.{ℕ, List, Option, Some, None, if◌then◌else◌, codes}
use Rattle.std.specs.Option.{option_map}
use Rattle.std.specs.Str.{bytes_eq}
use Rattle.px_code.specs.declared.side.Side.TheVariants.{App, Db}
use Rattle.px_job.specs.declared.settings.Setting.{Setting}
use Rattle.px_job.specs.declared.settings.Setting.TheVariants.{Sessions, Workers, Retries, Alpha, Latency, PerByte, Profile}
use Rattle.px_job.specs.declared.verbs.Verb.{Verb}
use Rattle.px_job.specs.declared.verbs.Verb.TheVariants as verbs

abbrev pub setting_of : List ℕ → Option Setting
setting_of word =
    if bytes_eq word (codes "sessions") then Some Sessions else
    if bytes_eq word (codes "workers") then Some Workers else
    if bytes_eq word (codes "retries") then Some Retries else
    if bytes_eq word (codes "alpha") then Some Alpha else
    if bytes_eq word (codes "latency") then Some Latency else
    if bytes_eq word (codes "perbyte") then Some PerByte else
    if bytes_eq word (codes "profile") then Some Profile else None

abbrev pub verb_of : List ℕ → Option Verb
verb_of word =
    if bytes_eq word (codes "row") then Some verbs.Row else
    if bytes_eq word (codes "part") then Some verbs.Part else
    if bytes_eq word (codes "app") then Some (verbs.Side App) else
    if bytes_eq word (codes "db") then Some (verbs.Side Db) else
    if bytes_eq word (codes "call") then Some verbs.Call else
    if bytes_eq word (codes "load") then Some verbs.Load else
    if bytes_eq word (codes "order") then Some verbs.Order else
    option_map verbs.Set (setting_of word)
