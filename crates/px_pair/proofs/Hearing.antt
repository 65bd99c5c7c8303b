-- What one end sends is what the other takes in: bytes spell one message.
use Rattle.std.proofs.Common.{◌≡◌, ℕ, List, length, Some, None, sym, ap, ◌∙◌}
use Rattle.px_wire.specs.declared.message.Message.{Message}
use Rattle.px_wire.proofs.MessagesRead.{spellings_differ}
use Rattle.px_half.specs.End.{End}
use Rattle.px_half.specs.Messages.{IsEmitted}
use Rattle.px_half.specs.Absorbed.{absorbed, IsAbsorbed, IsRefused}
use Rattle.px_pair.specs.Telling.{IsWelcome, IsHeard}

pub told_so : (from to after : End) (bytes : List ℕ) → IsEmitted from bytes → IsAbsorbed bytes to after → IsHeard from to after (length bytes)
told_so from to after bytes sent got =
    let same : got.message ≡ sent.message = spellings_differ got.message sent.message got.spells.in_range sent.in_range got.spells.has_spelling sent.has_spelling (got.spells.spelled ∙ sym sent.spelled) in
    record { message = sent.message; is = sent.is; has_spelling = sent.has_spelling; taken = ap (λ (m : Message). absorbed m to) (sym same) ∙ got.is; long = ap length (sym sent.spelled) }

pub never_refused : (from to : End) (bytes : List ℕ) → IsEmitted from bytes → IsWelcome from to → IsRefused bytes to → ⊥
never_refused from to bytes sent welcome refused =
    let taken = welcome sent.message sent.is in
    let none : None ≡ Some taken.0 = sym (refused sent.message (record { in_range = sent.in_range; has_spelling = sent.has_spelling; spelled = sent.spelled })) ∙ taken.1 in
    cc
