-- `ends::address::AddressEnd::end` meets its contract. Assumes nothing.
use borrow.Author.Rules.{rules}
use Rattle.codec.specs.Codec.{◌then_by◌, viewed, flag, tested}
use Rattle.header.specs.Table.{address, unit_name, optional_text}
use Rattle.record_octets.specs.Record.{address_in}
use Rattle.ends.proofs.address.AddressEnd.end.Goals as goal

pub end_optional-at-requires : goal.end_optional-at-requires
unfolding address unit_name optional_text ◌then_by◌ viewed flag tested address_in
end_optional-at-requires c = search rules

pub end_optional_text-requires : goal.end_optional_text-requires
unfolding address unit_name optional_text ◌then_by◌ viewed flag tested address_in
end_optional_text-requires c = search rules

pub returns : goal.returns
unfolding address unit_name optional_text ◌then_by◌ viewed flag tested address_in
returns c = search rules
