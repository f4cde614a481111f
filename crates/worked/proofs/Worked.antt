-- Document 01's starred cases and those of version 1 hold, each by computing the definitions that the public contracts cite. Assumes nothing.
use mathlib.Core.Path.{refl}
use Rattle.bits.specs.Bits.{low_bits, value, bits_of, octets}
use Rattle.codec.specs.Answer.{next}
use Rattle.codec.specs.Codec.{first, read_number, number, flag, nothing, ◌then_by◌, present, unless, viewed, tested, ◌closed_by◌}
use Rattle.codec.specs.Characters.{read_characters, write_characters, characters}
use Rattle.codec.specs.Lists.{recurs, listed, cells}
use Rattle.optional.specs.Optionals.{optional_number}
use Rattle.text.specs.Texts.{text}
use Rattle.header.specs.Zero.{no_number, no_optional_text, no_address, no_addresses, no_dtg, no_stamp, no_identity, no_format, no_handling, no_requests, no_times, no_response, no_reference, no_references, no_block}
use Rattle.header.specs.Calendar.{days_in}
use Rattle.header.specs.Table.{optional_text, unit_name, address, addresses, originator, recipients, information, front, day_in, date, time, dtg, stamp, identity, optional_identity, standard_version, format, codes, handling, optional_stamp, optional_dtg, requests, optional_requests, times, compliance, response, optional_response, reference, references, optional_references, block, blocks, wire}
use Rattle.codec.specs.Verdict.{first_of}
use Rattle.header.specs.Order.{over, in_order}
use Rattle.header.specs.Rules.{all, rule_a, rule_b, rule_c, rule_d, rule_e, rule_f, rule_f_header, rule_g, rule_h, rule_i}
use Rattle.header.specs.Sizes.{shares, total, has_body, none_needless, wrong_size, judgement}
use Rattle.reader.specs.Reading.{read_fill, verdict_on, accepted_by, settled, filled, judged, reading, behind_header}
use Rattle.writer.specs.Writing.{header_bits, header_of, fault_of, answered, writing, output_after}
use Rattle.calls.specs.Order.{list, ◌or◌, option}
use Rattle.order.specs.Values.{by_address, address_of, by_key, option_of, key_of}
use Rattle.calls.specs.Keyed.{find, put, alter, without, sort}
use Rattle.order.specs.Requests.{answered_by, opens, open_to, write, settle, ask_of}
use Rattle.calls.specs.Machine.{step}
use Rattle.calls.specs.Operations as theory
use Rattle.order.specs.Calls.{make, on_table}
use Rattle.calls.specs.Runs.{answers}
use Rattle.table.specs.WellFormed.{increasing, recipient_fine, row_fine, well_formed}
use Rattle.table.specs.Zero.{no_recipient, no_row}
use Rattle.arguments.specs.Arguments.{block_at, recipients_of, posting_fault, receipt_fault, call_of, message}
use Rattle.history.specs.Sheet as Sheet
use Rattle.history.specs.Sheet.{sheet, refusal, row_with, answers_of, entered, new_answers, coded, coded_at, taken_out, same_list, same_address, same_extension, same_key}
use Rattle.worked.specs.Cases.{AllHold, cases}

pub worked : AllHold cases
unfolding cases low_bits value bits_of next read_number number flag nothing ◌then_by◌ present unless viewed tested ◌closed_by◌ read_characters characters recurs listed cells optional_number text no_number no_optional_text no_address no_addresses no_dtg no_stamp no_identity no_format no_handling no_requests no_times no_response no_reference no_references no_block optional_text unit_name address addresses originator recipients information front days_in day_in date time dtg stamp identity optional_identity standard_version format codes handling optional_stamp optional_dtg requests optional_requests times compliance response optional_response reference references optional_references block blocks wire rule_a rule_b rule_c rule_d rule_e rule_f rule_f_header rule_g rule_h rule_i first_of over in_order shares total has_body none_needless wrong_size judgement read_fill verdict_on accepted_by settled filled judged reading behind_header first write_characters octets header_bits header_of fault_of answered writing output_after answers on_table theory.on_table step find put alter sort without by_key by_address list ◌or◌ option key_of address_of option_of ask_of block_at recipients_of posting_fault receipt_fault call_of message well_formed all row_fine recipient_fine increasing no_recipient no_row make settle open_to opens write answered_by sheet refusal row_with answers_of entered new_answers coded coded_at Sheet.answered taken_out same_list same_address same_extension same_key
worked = ((refl, refl), ((refl, refl), ((refl, refl), ((refl, refl), ((refl, refl), ((refl, refl), ((refl, refl), ((refl, refl), ((refl, refl), ((refl, refl), ((refl, refl), ((refl, refl), ((refl, refl), ((refl, refl), ((refl, refl), ((refl, refl), ((refl, refl), ((refl, refl), ((refl, refl), ((refl, refl), ((refl, refl), ((refl, refl), ((refl, refl), ((refl, refl), ((refl, refl), ((refl, refl), ((refl, refl), ((refl, refl), ((refl, refl), ((refl, refl), ((refl, refl), (refl, (refl, (refl, (refl, (refl, (refl, (refl, tt))))))))))))))))))))))))))))))))))))))
