use Rattle.std.proofs.Common.{arith}
use Rattle.wire_packet.specs.Packets.{packets}
use Rattle.wire_packet.proofs.Loop.{as_wrong}
use Rattle.wire_packet.proofs.Laws.{is_wrong}
use Rattle.wire_packet.proofs.Whole.{found, found_reads, found_refuses, bad_reads, bad_refuses}
use Rattle.wire_packet.proofs.reading.decode.Goals as goal

pub overflow_sub-result : goal.overflow_sub-result
overflow_sub-result c =
    (is_wrong packets c.args.bytes.now c.in-Err-Wrong.left (λ i. omega (arith, c.type_inv.bytes i))
    (as_wrong c.in-Err-Wrong.field-0 c.in-Err-Wrong.left _
    c.in-Err-Wrong.field-0-is c.in-Err-Wrong.ensures)).0

pub returns-in-Ok-clause-found : goal.returns-in-Ok-clause-found
returns-in-Ok-clause-found c =
    found c.args.bytes.now c.in-Ok.packet (λ i. omega (arith, c.type_inv.bytes i)) c.in-Ok.ensures

pub returns-in-Ok-clause-reads : goal.returns-in-Ok-clause-reads
returns-in-Ok-clause-reads c = λ p h. found_reads c.args.bytes.now c.in-Ok.packet p
    (λ i. omega (arith, c.type_inv.bytes i)) c.in-Ok.ensures h

pub returns-in-Ok-clause-refuses : goal.returns-in-Ok-clause-refuses
returns-in-Ok-clause-refuses c = λ place w. found_refuses c.args.bytes.now c.in-Ok.packet place
    (λ i. omega (arith, c.type_inv.bytes i)) c.in-Ok.ensures w

pub returns-in-Err-Wrong-clause-bad : goal.returns-in-Err-Wrong-clause-bad
returns-in-Err-Wrong-clause-bad c =
    (is_wrong packets c.args.bytes.now c.in-Err-Wrong.left (λ i. omega (arith, c.type_inv.bytes i))
    (as_wrong c.in-Err-Wrong.field-0 c.in-Err-Wrong.left _
    c.in-Err-Wrong.field-0-is c.in-Err-Wrong.ensures)).1

pub returns-in-Err-Wrong-clause-reads : goal.returns-in-Err-Wrong-clause-reads
returns-in-Err-Wrong-clause-reads c = λ p h. bad_reads c.args.bytes.now c.in-Err-Wrong.left p
    (λ i. omega (arith, c.type_inv.bytes i)) (as_wrong c.in-Err-Wrong.field-0 c.in-Err-Wrong.left _
    c.in-Err-Wrong.field-0-is c.in-Err-Wrong.ensures) h

pub returns-in-Err-Wrong-clause-refuses : goal.returns-in-Err-Wrong-clause-refuses
returns-in-Err-Wrong-clause-refuses c =
    λ place w. bad_refuses c.args.bytes.now c.in-Err-Wrong.left place
    (λ i. omega (arith, c.type_inv.bytes i)) (as_wrong c.in-Err-Wrong.field-0 c.in-Err-Wrong.left _
    c.in-Err-Wrong.field-0-is c.in-Err-Wrong.ensures) w
