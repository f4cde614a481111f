-- `arguments::parts::put_posting_key` meets its contract. Assumes nothing.
use mathlib.Core.Path.{◌≡◌, ap, subst, ◌∙◌}
use Rattle.order.specs.Values.{key_of}
use Rattle.order.specs.declared.Key.{Key}
use Rattle.record_octets.specs.Record.{address_in, stamp_in, block_in, header_in}
use Rattle.table_octets.specs.Table.{key_octets}
use Rattle.table_octets.specs.Typed.{TypedKey}
use Rattle.table_octets.specs.Image.{key_image}
use Rattle.arguments.specs.Arguments.{posting_key}
use Rattle.arguments.proofs.parts.put_posting_key.Goals as goal

pub returns : goal.returns
returns c =
    let e : record { address = address_in c.originator.result.now; stamp = stamp_in c.origin.result.now } ≡ posting_key (header_in c.args.h.now) (block_in c.args.b.now) =
    λ i. record { address = c.originator.ensures.1 i; stamp = c.origin.ensures.1 i } in
    (c.put_key.ensures.0 ∙ ap (λ (k : Key). key_octets (key_image (key_of k))) e, subst (λ (k : Key). TypedKey (key_image (key_of k))) e c.put_key.ensures.1)
