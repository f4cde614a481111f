-- `checker::block::check_block` meets its contract. Assumes nothing.
use Rattle.codec.proofs.Compose.{checking, handed}
use Rattle.header.specs.Table.{block, optional_response, optional_references}
use Rattle.record_octets.specs.Record.{block_in, optional_response_in, optional_references_in}
use Rattle.checker.proofs.block.check_block.Goals as goal

pub returns-in_err-check_format : goal.returns-in_err-check_format
unfolding block optional_response optional_references block_in optional_response_in optional_references_in
returns-in_err-check_format c = rw (handed _ c.in_err-check_format.field-0.0 c.from_residual.ensures.1) (search (checking, c.in_err-check_format.ensures) depth 14 fits 6000)

pub returns-in_err-check_handling : goal.returns-in_err-check_handling
unfolding block optional_response optional_references block_in optional_response_in optional_references_in
returns-in_err-check_handling c = rw (handed _ c.in_err-check_handling.field-0.0 c.from_residual-in_err-check_handling.ensures.1) (search (checking, c.in_ok-check_format.ensures, c.in_err-check_handling.ensures) depth 14 fits 6000)

pub returns-in_err-check_times : goal.returns-in_err-check_times
unfolding block optional_response optional_references block_in optional_response_in optional_references_in
returns-in_err-check_times c = rw (handed _ c.in_err-check_times.field-0.0 c.from_residual-in_err-check_times.ensures.1) (search (checking, c.in_ok-check_format.ensures, c.in_ok-check_handling.ensures, c.in_err-check_times.ensures) depth 14 fits 6000)

pub returns-in_err-check_optional_part : goal.returns-in_err-check_optional_part
unfolding block optional_response optional_references block_in optional_response_in optional_references_in
returns-in_err-check_optional_part c = rw (handed _ c.in_err-check_optional_part.field-0.0 c.from_residual-in_err-check_optional_part.ensures.1) (search (checking, c.in_ok-check_format.ensures, c.in_ok-check_handling.ensures, c.in_ok-check_times.ensures, c.in_err-check_optional_part.ensures) depth 14 fits 6000)

pub returns : goal.returns
unfolding block optional_response optional_references block_in optional_response_in optional_references_in
returns c = search (checking, c.in_ok-check_format.ensures, c.in_ok-check_handling.ensures, c.in_ok-check_times.ensures, c.in_ok-check_optional_part.ensures) depth 14 fits 6000
