use Rattle.std.proofs.Common.{None, arith}
use Rattle.px_wire.proofs.MessagesRead.{message_of-is}
use Rattle.px_wire.proofs.decoding.decode.Goals as goal

pub returns-in-Ok : goal.returns-in-Ok
returns-in-Ok c = message_of-is c.args.bytes.now (λ i. omega (arith, c.type_inv.bytes i)) _ c.in-Ok.ensures

pub returns-in-Err-NoMessage : goal.returns-in-Err-NoMessage
returns-in-Err-NoMessage c =
    let none = rw c.in-Err-NoMessage.field-0-is at c.in-Err-NoMessage.ensures in
    message_of-is c.args.bytes.now (λ i. omega (arith, c.type_inv.bytes i)) None none
