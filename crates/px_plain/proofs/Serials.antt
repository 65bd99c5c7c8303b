-- A call by a session of a number.
use Rattle.std.proofs.Common.{◌≡◌, ℕ, zero, suc, ◌≤◌, List, [], ◌∷◌, Option, None, slice_set, length, refl, sym, ap, ◌∙◌, arith}
use Rattle.std.proofs.lemmas.Option.{slice_get_past}
use Rattle.px_value.specs.declared.value.Value.{Value}
use Rattle.px_value.specs.declared.object.Object.{Object}
use Rattle.px_code.specs.declared.reply.Shown.{Shown}
use Rattle.px_code.specs.declared.reply.Reply.TheVariants.{Void}
use Rattle.px_mean.specs.Facts.{by_number}
use Rattle.px_mean.specs.Calls.{Source}
use Rattle.px_mean.specs.Entry.{Called}
use Rattle.px_mean.specs.Serial.{Stand, one_call, call_by, shown_of, stand_after}
use Rattle.px_rows.specs.Tables.{Tables}
use Rattle.px_mean.specs.Asks.{by_tables}
use Rattle.px_plain.specs.Plain.{CallsAt, call_with}

pub set_set : {A : Type 0} (xs : List A) (i : ℕ) (x y : A) → slice_set (slice_set xs i x) i y ≡ slice_set xs i y
set_set [] i x y = refl
set_set (z ∷ xs) zero x y = refl
set_set (z ∷ xs) (suc i) x y = ap (λ zs. z ∷ zs) (set_set xs i x y)

abbrev pub Result : Type 0
Result = Shown × Stand Tables

abbrev pub calls : Source → Stand Tables → ℕ → ℕ → List Value → Result
calls P stand session entry args = one_call by_tables P (call_with session entry args) stand

pub no_session : (P : Source) (stand : Stand Tables) (session entry : ℕ) (args : List Value) (shown : Shown) → by_number stand.heaps session ≡ None → shown ≡ record { reply = Void; prints = [] } → calls P stand session entry args ≡ (shown, stand)
no_session P stand session entry args shown h e =
    ap (λ (found : Option (List Object)). call_by by_tables P (call_with session entry args) found stand) h ∙ ap (λ (s : Shown). let r : Result = (s, stand) in r) (sym e)

pub past_session : (heaps : List (List Object)) (session : ℕ) → suc (length heaps) ≤ session → by_number heaps session ≡ None
past_session heaps zero h = refl
past_session heaps (suc n) h = slice_get_past heaps n (omega (arith, h))

pub by_session : (P : Source) (stand stand' : Stand Tables) (session place entry : ℕ) (args : List Value) (shown : Shown) → session ≡ suc place → CallsAt P stand place entry args shown stand' → calls P stand session entry args ≡ (shown, stand')
by_session P stand stand' session place entry args shown h k =
    ap (λ n. calls P stand n entry args) h ∙ ap (λ (found : Option (List Object)). call_by by_tables P (call_with (suc place) entry args) found stand) k.there
    ∙ ap (λ (c : Called Tables). let r : Result = (shown_of c, stand_after (call_with (suc place) entry args) c stand) in r) k.called
    ∙ ap (λ (heaps : List (List Object)). let r : Result = (shown, record { heaps = heaps; world = stand'.world }) in r) (sym k.written)
