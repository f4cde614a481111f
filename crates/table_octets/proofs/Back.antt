-- A struct's octets are as many as it has, and they hold the struct. Assumes nothing. Written by layout/generate.py.
use Prim.Native.Nat.{ℕ, ◌+◌}
use mathlib.Core.Path.{◌≡◌, refl, sym, ap, ◌∙◌}
use mathlib.Core.List.{List, [], ◌++◌}
use native.Mathlib.Omega.{arith}
use lib.ListN.{length}
use Rattle.cells.specs.Cells.{part, zeros, word_in, word_octets, flag_in, flag_octets, mark_octets, many, many_octets}
use Rattle.cells.proofs.Parts.{join, part-last, part-front, word-long, word-back, flag-long, flag-back, mark-long, mark-back, many-long, many-back}
use Rattle.order.specs.declared.Key.{Key}
use Rattle.table.specs.declared.Recipient.{Recipient}
use Rattle.table.specs.declared.Row.{Row}
use Rattle.table.specs.declared.Table.{Table}
use Rattle.record_octets.specs.Record.{address_in, address_octets, stamp_in, stamp_octets, requests_in, requests_octets}
use Rattle.record_octets.proofs.Back.{address-long, address-back, stamp-long, stamp-back, requests-long, requests-back}
use Rattle.table_octets.specs.Table.{key_in, key_octets, recipient_in, recipient_octets, row_in, row_octets, table_in, table_octets}
use Rattle.table_octets.specs.Typed.{TypedKey, TypedRecipient, TypedRow, TypedTable}

pub key-long : (x : Key) → TypedKey x → length (key_octets x) ≡ 112
unfolding key_octets
key-long x h =
    let l0 : length (address_octets x.address) ≡ 80 = address-long x.address h.address in
    let l1 : length (stamp_octets x.stamp) ≡ 32 = stamp-long x.stamp h.stamp in
    let p1 : length (address_octets x.address) ≡ 80 = l0 in
    let p2 : length (address_octets x.address ++ stamp_octets x.stamp) ≡ 112 = join (address_octets x.address) (stamp_octets x.stamp) 80 32 p1 l1 in
    p2

pub key-back : (x : Key) → TypedKey x → key_in (key_octets x) ≡ x
unfolding key_in key_octets
key-back x h =
    let l0 : length (address_octets x.address) ≡ 80 = address-long x.address h.address in
    let l1 : length (stamp_octets x.stamp) ≡ 32 = stamp-long x.stamp h.stamp in
    let p1 : length (address_octets x.address) ≡ 80 = l0 in
    let p2 : length (address_octets x.address ++ stamp_octets x.stamp) ≡ 112 = join (address_octets x.address) (stamp_octets x.stamp) 80 32 p1 l1 in
    let e0 : part 0 80 (address_octets x.address ++ stamp_octets x.stamp) ≡ address_octets x.address = part-front (address_octets x.address) (stamp_octets x.stamp) 80 0 80 p1 (omega arith) ∙ part-last [] (address_octets x.address) 0 80 refl l0 in
    let e1 : part 80 32 (address_octets x.address ++ stamp_octets x.stamp) ≡ stamp_octets x.stamp = part-last (address_octets x.address) (stamp_octets x.stamp) 80 32 p1 l1 in
    λ i. record { address = (ap address_in e0 ∙ address-back x.address h.address) i; stamp = (ap stamp_in e1 ∙ stamp-back x.stamp h.stamp) i }

pub recipient-long : (x : Recipient) → TypedRecipient x → length (recipient_octets x) ≡ 92
unfolding recipient_octets
recipient-long x h =
    let l0 : length (address_octets x.address) ≡ 80 = address-long x.address h.address in
    let l1 : length (word_octets x.machine) ≡ 4 = word-long x.machine in
    let l2 : length (word_octets x.acknowledge) ≡ 4 = word-long x.acknowledge in
    let l3 : length (word_octets x.reply) ≡ 4 = word-long x.reply in
    let p1 : length (address_octets x.address) ≡ 80 = l0 in
    let p2 : length (address_octets x.address ++ word_octets x.machine) ≡ 84 = join (address_octets x.address) (word_octets x.machine) 80 4 p1 l1 in
    let p3 : length (address_octets x.address ++ word_octets x.machine ++ word_octets x.acknowledge) ≡ 88 = join (address_octets x.address ++ word_octets x.machine) (word_octets x.acknowledge) 84 4 p2 l2 in
    let p4 : length (address_octets x.address ++ word_octets x.machine ++ word_octets x.acknowledge ++ word_octets x.reply) ≡ 92 = join (address_octets x.address ++ word_octets x.machine ++ word_octets x.acknowledge) (word_octets x.reply) 88 4 p3 l3 in
    p4

pub recipient-back : (x : Recipient) → TypedRecipient x → recipient_in (recipient_octets x) ≡ x
unfolding recipient_in recipient_octets
recipient-back x h =
    let l0 : length (address_octets x.address) ≡ 80 = address-long x.address h.address in
    let l1 : length (word_octets x.machine) ≡ 4 = word-long x.machine in
    let l2 : length (word_octets x.acknowledge) ≡ 4 = word-long x.acknowledge in
    let l3 : length (word_octets x.reply) ≡ 4 = word-long x.reply in
    let p1 : length (address_octets x.address) ≡ 80 = l0 in
    let p2 : length (address_octets x.address ++ word_octets x.machine) ≡ 84 = join (address_octets x.address) (word_octets x.machine) 80 4 p1 l1 in
    let p3 : length (address_octets x.address ++ word_octets x.machine ++ word_octets x.acknowledge) ≡ 88 = join (address_octets x.address ++ word_octets x.machine) (word_octets x.acknowledge) 84 4 p2 l2 in
    let p4 : length (address_octets x.address ++ word_octets x.machine ++ word_octets x.acknowledge ++ word_octets x.reply) ≡ 92 = join (address_octets x.address ++ word_octets x.machine ++ word_octets x.acknowledge) (word_octets x.reply) 88 4 p3 l3 in
    let e0 : part 0 80 (address_octets x.address ++ word_octets x.machine ++ word_octets x.acknowledge ++ word_octets x.reply) ≡ address_octets x.address = part-front (address_octets x.address ++ word_octets x.machine ++ word_octets x.acknowledge) (word_octets x.reply) 88 0 80 p3 (omega arith) ∙ part-front (address_octets x.address ++ word_octets x.machine) (word_octets x.acknowledge) 84 0 80 p2 (omega arith) ∙ part-front (address_octets x.address) (word_octets x.machine) 80 0 80 p1 (omega arith) ∙ part-last [] (address_octets x.address) 0 80 refl l0 in
    let e1 : part 80 4 (address_octets x.address ++ word_octets x.machine ++ word_octets x.acknowledge ++ word_octets x.reply) ≡ word_octets x.machine = part-front (address_octets x.address ++ word_octets x.machine ++ word_octets x.acknowledge) (word_octets x.reply) 88 80 4 p3 (omega arith) ∙ part-front (address_octets x.address ++ word_octets x.machine) (word_octets x.acknowledge) 84 80 4 p2 (omega arith) ∙ part-last (address_octets x.address) (word_octets x.machine) 80 4 p1 l1 in
    let e2 : part 84 4 (address_octets x.address ++ word_octets x.machine ++ word_octets x.acknowledge ++ word_octets x.reply) ≡ word_octets x.acknowledge = part-front (address_octets x.address ++ word_octets x.machine ++ word_octets x.acknowledge) (word_octets x.reply) 88 84 4 p3 (omega arith) ∙ part-last (address_octets x.address ++ word_octets x.machine) (word_octets x.acknowledge) 84 4 p2 l2 in
    let e3 : part 88 4 (address_octets x.address ++ word_octets x.machine ++ word_octets x.acknowledge ++ word_octets x.reply) ≡ word_octets x.reply = part-last (address_octets x.address ++ word_octets x.machine ++ word_octets x.acknowledge) (word_octets x.reply) 88 4 p3 l3 in
    λ i. record { address = (ap address_in e0 ∙ address-back x.address h.address) i; machine = (ap word_in e1 ∙ word-back x.machine h.machine) i; acknowledge = (ap word_in e2 ∙ word-back x.acknowledge h.acknowledge) i; reply = (ap word_in e3 ∙ word-back x.reply h.reply) i }

pub row-long : (x : Row) → TypedRow x → length (row_octets x) ≡ 1592
unfolding row_octets
row-long x h =
    let l0 : length (key_octets x.key) ≡ 112 = key-long x.key h.key in
    let l1 : length (requests_octets x.asked) ≡ 3 = requests-long x.asked in
    let l2 : length (zeros 1) ≡ 1 = refl in
    let l3 : length (many_octets recipient_octets x.recipients) ≡ 1472 = many-long recipient_in recipient_octets TypedRecipient 92 recipient-long recipient-back x.recipients 16 h.recipients.0 h.recipients.1 in
    let l4 : length (word_octets x.count) ≡ 4 = word-long x.count in
    let p1 : length (key_octets x.key) ≡ 112 = l0 in
    let p2 : length (key_octets x.key ++ requests_octets x.asked) ≡ 115 = join (key_octets x.key) (requests_octets x.asked) 112 3 p1 l1 in
    let p3 : length (key_octets x.key ++ requests_octets x.asked ++ zeros 1) ≡ 116 = join (key_octets x.key ++ requests_octets x.asked) (zeros 1) 115 1 p2 l2 in
    let p4 : length (key_octets x.key ++ requests_octets x.asked ++ zeros 1 ++ many_octets recipient_octets x.recipients) ≡ 1588 = join (key_octets x.key ++ requests_octets x.asked ++ zeros 1) (many_octets recipient_octets x.recipients) 116 1472 p3 l3 in
    let p5 : length (key_octets x.key ++ requests_octets x.asked ++ zeros 1 ++ many_octets recipient_octets x.recipients ++ word_octets x.count) ≡ 1592 = join (key_octets x.key ++ requests_octets x.asked ++ zeros 1 ++ many_octets recipient_octets x.recipients) (word_octets x.count) 1588 4 p4 l4 in
    p5

pub row-back : (x : Row) → TypedRow x → row_in (row_octets x) ≡ x
unfolding row_in row_octets
row-back x h =
    let l0 : length (key_octets x.key) ≡ 112 = key-long x.key h.key in
    let l1 : length (requests_octets x.asked) ≡ 3 = requests-long x.asked in
    let l2 : length (zeros 1) ≡ 1 = refl in
    let l3 : length (many_octets recipient_octets x.recipients) ≡ 1472 = many-long recipient_in recipient_octets TypedRecipient 92 recipient-long recipient-back x.recipients 16 h.recipients.0 h.recipients.1 in
    let l4 : length (word_octets x.count) ≡ 4 = word-long x.count in
    let p1 : length (key_octets x.key) ≡ 112 = l0 in
    let p2 : length (key_octets x.key ++ requests_octets x.asked) ≡ 115 = join (key_octets x.key) (requests_octets x.asked) 112 3 p1 l1 in
    let p3 : length (key_octets x.key ++ requests_octets x.asked ++ zeros 1) ≡ 116 = join (key_octets x.key ++ requests_octets x.asked) (zeros 1) 115 1 p2 l2 in
    let p4 : length (key_octets x.key ++ requests_octets x.asked ++ zeros 1 ++ many_octets recipient_octets x.recipients) ≡ 1588 = join (key_octets x.key ++ requests_octets x.asked ++ zeros 1) (many_octets recipient_octets x.recipients) 116 1472 p3 l3 in
    let p5 : length (key_octets x.key ++ requests_octets x.asked ++ zeros 1 ++ many_octets recipient_octets x.recipients ++ word_octets x.count) ≡ 1592 = join (key_octets x.key ++ requests_octets x.asked ++ zeros 1 ++ many_octets recipient_octets x.recipients) (word_octets x.count) 1588 4 p4 l4 in
    let e0 : part 0 112 (key_octets x.key ++ requests_octets x.asked ++ zeros 1 ++ many_octets recipient_octets x.recipients ++ word_octets x.count) ≡ key_octets x.key = part-front (key_octets x.key ++ requests_octets x.asked ++ zeros 1 ++ many_octets recipient_octets x.recipients) (word_octets x.count) 1588 0 112 p4 (omega arith) ∙ part-front (key_octets x.key ++ requests_octets x.asked ++ zeros 1) (many_octets recipient_octets x.recipients) 116 0 112 p3 (omega arith) ∙ part-front (key_octets x.key ++ requests_octets x.asked) (zeros 1) 115 0 112 p2 (omega arith) ∙ part-front (key_octets x.key) (requests_octets x.asked) 112 0 112 p1 (omega arith) ∙ part-last [] (key_octets x.key) 0 112 refl l0 in
    let e1 : part 112 3 (key_octets x.key ++ requests_octets x.asked ++ zeros 1 ++ many_octets recipient_octets x.recipients ++ word_octets x.count) ≡ requests_octets x.asked = part-front (key_octets x.key ++ requests_octets x.asked ++ zeros 1 ++ many_octets recipient_octets x.recipients) (word_octets x.count) 1588 112 3 p4 (omega arith) ∙ part-front (key_octets x.key ++ requests_octets x.asked ++ zeros 1) (many_octets recipient_octets x.recipients) 116 112 3 p3 (omega arith) ∙ part-front (key_octets x.key ++ requests_octets x.asked) (zeros 1) 115 112 3 p2 (omega arith) ∙ part-last (key_octets x.key) (requests_octets x.asked) 112 3 p1 l1 in
    let e3 : part 116 1472 (key_octets x.key ++ requests_octets x.asked ++ zeros 1 ++ many_octets recipient_octets x.recipients ++ word_octets x.count) ≡ many_octets recipient_octets x.recipients = part-front (key_octets x.key ++ requests_octets x.asked ++ zeros 1 ++ many_octets recipient_octets x.recipients) (word_octets x.count) 1588 116 1472 p4 (omega arith) ∙ part-last (key_octets x.key ++ requests_octets x.asked ++ zeros 1) (many_octets recipient_octets x.recipients) 116 1472 p3 l3 in
    let e4 : part 1588 4 (key_octets x.key ++ requests_octets x.asked ++ zeros 1 ++ many_octets recipient_octets x.recipients ++ word_octets x.count) ≡ word_octets x.count = part-last (key_octets x.key ++ requests_octets x.asked ++ zeros 1 ++ many_octets recipient_octets x.recipients) (word_octets x.count) 1588 4 p4 l4 in
    λ i. record { key = (ap key_in e0 ∙ key-back x.key h.key) i; asked = (ap requests_in e1 ∙ requests-back x.asked) i; recipients = (ap (many recipient_in 92 16) e3 ∙ many-back recipient_in recipient_octets TypedRecipient 92 recipient-long recipient-back x.recipients 16 h.recipients.0 h.recipients.1) i; count = (ap word_in e4 ∙ word-back x.count h.count) i }

pub table-long : (x : Table) → TypedTable x → length (table_octets x) ≡ 50948
unfolding table_octets
table-long x h =
    let l0 : length (many_octets row_octets x.rows) ≡ 50944 = many-long row_in row_octets TypedRow 1592 row-long row-back x.rows 32 h.rows.0 h.rows.1 in
    let l1 : length (word_octets x.count) ≡ 4 = word-long x.count in
    let p1 : length (many_octets row_octets x.rows) ≡ 50944 = l0 in
    let p2 : length (many_octets row_octets x.rows ++ word_octets x.count) ≡ 50948 = join (many_octets row_octets x.rows) (word_octets x.count) 50944 4 p1 l1 in
    p2

pub table-back : (x : Table) → TypedTable x → table_in (table_octets x) ≡ x
unfolding table_in table_octets
table-back x h =
    let l0 : length (many_octets row_octets x.rows) ≡ 50944 = many-long row_in row_octets TypedRow 1592 row-long row-back x.rows 32 h.rows.0 h.rows.1 in
    let l1 : length (word_octets x.count) ≡ 4 = word-long x.count in
    let p1 : length (many_octets row_octets x.rows) ≡ 50944 = l0 in
    let p2 : length (many_octets row_octets x.rows ++ word_octets x.count) ≡ 50948 = join (many_octets row_octets x.rows) (word_octets x.count) 50944 4 p1 l1 in
    let e0 : part 0 50944 (many_octets row_octets x.rows ++ word_octets x.count) ≡ many_octets row_octets x.rows = part-front (many_octets row_octets x.rows) (word_octets x.count) 50944 0 50944 p1 (omega arith) ∙ part-last [] (many_octets row_octets x.rows) 0 50944 refl l0 in
    let e1 : part 50944 4 (many_octets row_octets x.rows ++ word_octets x.count) ≡ word_octets x.count = part-last (many_octets row_octets x.rows) (word_octets x.count) 50944 4 p1 l1 in
    λ i. record { rows = (ap (many row_in 1592 32) e0 ∙ many-back row_in row_octets TypedRow 1592 row-long row-back x.rows 32 h.rows.0 h.rows.1) i; count = (ap word_in e1 ∙ word-back x.count h.count) i }
