-- `recipients::find_recipient` meets its contract. The invariant: the addresses of the recipients so far come before the one that is sought. Assumes nothing.
use mathlib.Core.Path.{ap}
use native.Mathlib.Omega.{arith}
use Rattle.record_octets.specs.Record.{address_in}
use Rattle.order.specs.Values.{comparison_of, address_of}
use Rattle.table.proofs.Seeking.{seeking-none, no_way}
use Rattle.recipients.proofs.Sought.{ended, stops-free, stops-held, goes_on}
use Rattle.recipients.proofs.find_recipient.Goals as goal

pub loop-i-init : goal.loop-i-init
loop-i-init c = seeking-none _ _ _ _ _

pub returns-in-Less : goal.returns-in-Less
unfolding comparison_of
returns-in-Less c = (omega arith, λ e. no_way e, stops-free c.args.s.now c.args.count c.requires.1 (address_of (address_in c.args.a.now)) c.loop-i.i c.loop-i.invariant (omega arith) c.entry-x.result.now c.entry-x.ensures.0 _ c.compare_addresses.ensures (ap comparison_of c.in-Less.is))

pub returns-in-Equal : goal.returns-in-Equal
unfolding comparison_of
returns-in-Equal c = (omega arith, λ e. omega arith, stops-held c.args.s.now c.args.count c.requires.1 (address_of (address_in c.args.a.now)) c.loop-i.i c.loop-i.invariant (omega arith) c.entry-x.result.now c.entry-x.ensures.0 _ c.compare_addresses.ensures (ap comparison_of c.in-Equal.is))

pub loop-i-preserved : goal.loop-i-preserved
unfolding comparison_of
loop-i-preserved c = goes_on c.args.s.now c.args.count c.requires.1 (address_of (address_in c.args.a.now)) c.loop-i.i c.loop-i.invariant (omega arith) c.entry-x.result.now c.entry-x.ensures.0 _ c.compare_addresses.ensures (ap comparison_of c.in-Greater.is)

pub returns : goal.returns
returns c = let w = c.loop-i.invariant.within in (omega (arith, w), λ e. no_way e, ended c.args.s.now c.args.count c.requires.1 (address_of (address_in c.args.a.now)) c.loop-i.i c.loop-i.invariant (omega arith))
