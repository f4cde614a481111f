-- Document 01's starred cases, those of version 1, and days that a month has or has not. The records are written out field by field; a group that is absent has the zero value in its cells.
use Rattle.std.specs.Prelude.{ℕ, ◌≡◌, Bool, true, false, List, [], ◌∷◌, ◌++◌, length, drop, replicate}
use Rattle.std.proofs.Math.Option.{Option, some, none}
use Rattle.codec.specs.Verdict.{Verdict, in_block, plain as just}
use Rattle.header.specs.Zero.{no_number, no_optional_text, no_address, no_addresses, no_dtg, no_stamp, no_identity, no_requests, no_response, no_references, no_block}
use Rattle.optional.specs.declared.OptionalNumber.{OptionalNumber}
use Rattle.header.specs.declared.Address.{Address}
use Rattle.header.specs.declared.Addresses.{Addresses}
use Rattle.header.specs.declared.Block.{Block}
use Rattle.header.specs.declared.Codes.{Codes}
use Rattle.header.specs.declared.Stamp.{Stamp}
use Rattle.header.specs.declared.Header.{Header}
use Rattle.reader.specs.Reading.{Reading, accepted, rejected, reading, user_data}
use Rattle.order.specs.Calls.{on_table}
use Rattle.order.specs.Values.{Key, key_of}
use Rattle.order.specs.declared.Key.{Key as DeclaredKey}
use Rattle.table.specs.WellFormed.{well_formed}
use Rattle.table.specs.Zero.{no_recipient, no_row}
use Rattle.table.specs.declared.Table.{Table}
use Rattle.calls.specs.Runs.{answers}
use Rattle.arguments.specs.Arguments.{Arguments, posting, receiving, releasing, call_of, message}
use Rattle.history.specs.Sheet.{sheet}
use Rattle.writer.specs.Writing.{Writing, done, writing, output_after}

-- a datagram, what reading it gives, and the user data behind its header; or a record with a count of user data and an output, what writing it gives, and the
-- output afterwards; or calls on the table of pending messages, the first on an empty one, and their answers; or a call, and the key of the message that it is
-- about, if it names one; or a table, and whether it is well formed
pub data Case : Type 0 where
  reads : List ℕ → Reading → List ℕ → Case
  writes : Header → ℕ → List ℕ → Writing → List ℕ → Case
  plays : List Arguments → List Verdict → Case
  names : Arguments → Option Key → Case
  stands : Table → Bool → Case

-- a case holds of the definitions that the contracts of the public calls cite, and a case of calls also of the history's sheet
abbrev pub Holds : Case → Type 0
Holds (reads s gives behind) = (reading s ≡ gives) × (user_data s ≡ behind)
Holds (writes h count out gives after) = (writing h count (length out) ≡ gives) × (output_after h (writing h count (length out)) out ≡ after)
Holds (plays calls given) = (answers (λ x. on_table (call_of x)) [] calls ≡ given) × (answers sheet [] calls ≡ given)
Holds (names call key) = message call ≡ key
Holds (stands t well) = well_formed t ≡ well

abbrev pub AllHold : List Case → Type 0
AllHold [] = Unit {0}
AllHold (c ∷ cs) = Holds c × AllHold cs

-- refused with a number, a bit place and a block
abbrev refused_with : List ℕ → ℕ → ℕ → ℕ → Case
refused_with s number place block = reads s (rejected number place block) []

abbrev accepted_as : List ℕ → List ℕ → Header → ℕ → Case
accepted_as s d h octets = reads s (accepted h octets) d

-- written over the beginning of 20 octets 77
abbrev over : List ℕ
over = replicate 20 0x77

abbrev written_as : Header → ℕ → List ℕ → Case
written_as h count s = writes h count over (done (length s)) (s ++ drop (length s) over)

-- an address by its URN
abbrev by_urn : ℕ → Address
by_urn n = record { urn = record { present = true; value = n }; name = no_optional_text }

-- one address
abbrev one : Address → Addresses
one a = record { list = a ∷ replicate 15 no_address; count = 1 }

-- operation, retransmit, precedence and classification all 0
abbrev plain : Codes
plain = record { operation = 0; retransmit = 0; precedence = 0; classification = 0 }

-- 16:27:55 on a day, no extension
abbrev on : ℕ → ℕ → ℕ → Stamp
on year month day =
    record {
      dtg = record { date = record { year = year; month = month; day = day }; time = record { hour = 16; minute = 27; second = 55 } };
      extension = no_number;
    }

-- a block in format 2 with nothing present but perhaps the standard version
abbrev bare : OptionalNumber → Block
bare standard =
    record {
      format = record { umf = 2; version = standard; identity = record { present = false; identity = no_identity }; file = no_optional_text };
      handling = record { size = no_number; codes = plain; marking = no_optional_text };
      times =
          record {
            origin = record { present = false; stamp = no_stamp };
            perish = record { present = false; dtg = no_dtg };
            requests = record { present = false; requests = no_requests };
          };
      response = record { present = false; response = no_response };
      references = record { present = false; references = no_references };
    }

-- a header without addresses, of one block
abbrev unaddressed : ℕ → Block → Header
unaddressed version b =
    record {
      front =
          record {
            version = version;
            compression = no_number;
            originator = record { present = false; address = no_address };
            recipients = record { present = false; addresses = no_addresses };
            information = record { present = false; addresses = no_addresses };
          };
      sized = false;
      blocks = record { list = b ∷ replicate 15 no_block; count = 1 };
    }

-- A: no addresses, UMF 2; and A in version 1
abbrev record_a : Header
record_a = unaddressed 2 (bare no_number)

abbrev record_a1 : Header
record_a1 = unaddressed 1 (bare no_number)

-- A in version 1 with a message standard version, which that version does not have
abbrev standard_a1 : Header
standard_a1 = unaddressed 1 (bare (record { present = true; value = 0 }))

-- URN 207 to URN 3, UMF 2, a machine request
abbrev message_of : Stamp → Header
message_of stamp =
    record {
      front =
          record {
            version = 2;
            compression = no_number;
            originator = record { present = true; address = by_urn 207 };
            recipients = record { present = true; addresses = one (by_urn 3) };
            information = record { present = false; addresses = no_addresses };
          };
      sized = false;
      blocks =
          record {
            list =
                record {
                  format = record { umf = 2; version = no_number; identity = record { present = false; identity = no_identity }; file = no_optional_text };
                  handling = record { size = no_number; codes = plain; marking = no_optional_text };
                  times =
                      record {
                        origin = record { present = true; stamp = stamp };
                        perish = record { present = false; dtg = no_dtg };
                        requests = record { present = true; requests = record { machine = true; acknowledge = false; reply = false } };
                      };
                  response = record { present = false; response = no_response };
                  references = record { present = false; references = no_references };
                }
                ∷ replicate 15 no_block;
            count = 1;
          };
    }

-- the receipt for such a message, from URN 3 to URN 207, R/C 1
abbrev receipt_for : Stamp → Header
receipt_for stamp =
    record {
      front =
          record {
            version = 2;
            compression = no_number;
            originator = record { present = true; address = by_urn 3 };
            recipients = record { present = true; addresses = one (by_urn 207) };
            information = record { present = false; addresses = no_addresses };
          };
      sized = false;
      blocks =
          record {
            list =
                record {
                  format = record { umf = 2; version = no_number; identity = record { present = false; identity = no_identity }; file = no_optional_text };
                  handling = record { size = no_number; codes = plain; marking = no_optional_text };
                  times =
                      record {
                        origin = record { present = false; stamp = no_stamp };
                        perish = record { present = false; dtg = no_dtg };
                        requests = record { present = false; requests = no_requests };
                      };
                  response =
                      record {
                        present = true;
                        response = record { stamp = stamp; compliance = record { code = 1; cantco = no_number; cantpro = no_number }; amplification = no_optional_text };
                      };
                  references = record { present = false; references = no_references };
                }
                ∷ replicate 15 no_block;
            count = 1;
          };
    }

-- B and C: 96-07-03
abbrev record_b : Header
record_b = message_of (on 96 7 3)

abbrev record_c : Header
record_c = receipt_for (on 96 7 3)

-- the key of such a message
abbrev key_on : Stamp → DeclaredKey
key_on stamp = record { address = by_urn 207; stamp = stamp }

-- a table with such a message alone, its machine request open
abbrev table_on : Stamp → Table
table_on stamp =
    record {
      rows =
          record {
            key = key_on stamp;
            asked = record { machine = true; acknowledge = false; reply = false };
            recipients = record { address = by_urn 3; machine = 0; acknowledge = 0; reply = 0 } ∷ replicate 15 no_recipient;
            count = 1;
          }
          ∷ replicate 31 no_row;
      count = 1;
    }

abbrev octets_a : List ℕ
octets_a = 0x02 ∷ 0x08 ∷ 0x00 ∷ 0x00 ∷ 0x00 ∷ []

-- version 1 in bits 0 to 3, UMF 2 in 10 to 13, all others 0; without the presence bit of the standard version the 33 bits of A are 32
abbrev octets_a1 : List ℕ
octets_a1 = 0x01 ∷ 0x08 ∷ 0x00 ∷ 0x00 ∷ []

-- B's octets but for the three that hold its date: the year in bits 81 to 87, the month in 88 to 91, the day in 92 to 96
abbrev octets_on : ℕ → ℕ → ℕ → List ℕ
octets_on x y z = 0xE2 ∷ 0x67 ∷ 0x00 ∷ 0x00 ∷ 0x1D ∷ 0x00 ∷ 0x00 ∷ 0x00 ∷ 0x01 ∷ 0x00 ∷ x ∷ y ∷ z ∷ 0x76 ∷ 0x33 ∷ 0x00 ∷ []

abbrev octets_b : List ℕ
octets_b = octets_on 0xC1 0x37 0xE0

-- June, month 6, with day 30; and with day 31, whose five bits are all 1
abbrev june30 : List ℕ
june30 = octets_on 0xC1 0xE6 0xE1

abbrev june31 : List ℕ
june31 = octets_on 0xC1 0xF6 0xE1

-- 29 February of 96, and of 97, whose year has bit 81
abbrev february96 : List ℕ
february96 = octets_on 0xC1 0xD2 0xE1

abbrev february97 : List ℕ
february97 = octets_on 0xC3 0xD2 0xE1

-- the 22 header octets of Table XVIII of the standard, which has a URN and a name in one address
abbrev table_xviii : List ℕ
table_xviii = 0xE1 ∷ 0x67 ∷ 0x00 ∷ 0x80 ∷ 0x55 ∷ 0x67 ∷ 0x92 ∷ 0x1A ∷ 0xFC ∷ 0x77 ∷ 0x00 ∷ 0x00 ∷ 0x00 ∷ 0xA4 ∷ 0x04 ∷ 0x10 ∷ 0x21 ∷ 0xF8 ∷ 0x06 ∷ 0xDC ∷ 0x6E ∷ 0x06 ∷ []

abbrev octets_c : List ℕ
octets_c = 0xE2 ∷ 0x01 ∷ 0x00 ∷ 0x00 ∷ 0x7D ∷ 0x06 ∷ 0x00 ∷ 0x00 ∷ 0x01 ∷ 0x00 ∷ 0x08 ∷ 0xBE ∷ 0x01 ∷ 0xB7 ∷ 0x5B ∷ 0x00 ∷ []

unfoldable pub cases : List Case
cases =
    -- A with one octet of data; without data, which block 1 needs; its last octet 02 (a fill bit), and 01 (the presence bit of G10)
    accepted_as (octets_a ++ 0x5A ∷ []) (0x5A ∷ []) record_a 5
    ∷ refused_with octets_a 53 0 1
    ∷ refused_with (0x02 ∷ 0x08 ∷ 0x00 ∷ 0x00 ∷ 0x02 ∷ 0x5A ∷ []) 9 33 0
    ∷ refused_with (0x02 ∷ 0x08 ∷ 0x00 ∷ 0x00 ∷ 0x01 ∷ 0x5A ∷ []) 7 32 0
    -- empty input; first octet 03
    ∷ refused_with [] 1 0 0
    ∷ refused_with (0x03 ∷ 0x08 ∷ 0x00 ∷ 0x00 ∷ 0x00 ∷ 0x5A ∷ []) 2 0 0
    -- B with one octet of data, and C
    ∷ accepted_as (octets_b ++ 0x01 ∷ []) (0x01 ∷ []) record_b 16
    ∷ accepted_as octets_c [] record_c 16
    -- A, B and C written, A and B with one octet of data; A without data
    ∷ written_as record_a 1 octets_a
    ∷ written_as record_b 1 octets_b
    ∷ written_as record_c 0 octets_c
    ∷ writes record_a 0 over (Writing.rejected 53 0 1) over
    -- A in version 1 with one octet of data, and its last bit 1 (the presence bit of G10); written; with a standard version; Table XVIII
    ∷ accepted_as (octets_a1 ++ 0x5A ∷ []) (0x5A ∷ []) record_a1 4
    ∷ refused_with (0x01 ∷ 0x08 ∷ 0x00 ∷ 0x80 ∷ 0x5A ∷ []) 7 31 0
    ∷ written_as record_a1 1 octets_a1
    ∷ writes standard_a1 1 over (Writing.rejected 3 0 0) over
    ∷ refused_with table_xviii 6 31 0
    -- B on 30 and 31 June, on 29 February of 96 and of 97, read; written on the two days that there are not; C for a day that there is not
    ∷ accepted_as (june30 ++ 0x01 ∷ []) (0x01 ∷ []) (message_of (on 96 6 30)) 16
    ∷ refused_with (june31 ++ 0x01 ∷ []) 3 92 0
    ∷ accepted_as (february96 ++ 0x01 ∷ []) (0x01 ∷ []) (message_of (on 96 2 29)) 16
    ∷ refused_with (february97 ++ 0x01 ∷ []) 3 92 0
    ∷ written_as (message_of (on 96 2 29)) 1 february96
    ∷ writes (message_of (on 96 6 31)) 1 over (Writing.rejected 3 0 0) over
    ∷ writes (message_of (on 97 2 29)) 1 over (Writing.rejected 3 0 0) over
    ∷ writes (receipt_for (on 96 6 31)) 0 over (Writing.rejected 3 0 0) over
    -- A without data, whichever block is posted; C on the empty table; B twice; B and C twice
    ∷ plays (posting record_a 1 0 ∷ posting record_a 2 0 ∷ []) (in_block 1 53 ∷ in_block 1 53 ∷ [])
    ∷ plays (receiving record_c 1 0 ∷ []) (just 26 ∷ [])
    ∷ plays (posting record_b 1 1 ∷ posting record_b 1 1 ∷ []) (just 0 ∷ just 22 ∷ [])
    ∷ plays (posting record_b 1 1 ∷ receiving record_c 1 0 ∷ receiving record_c 1 0 ∷ []) (just 0 ∷ just 0 ∷ just 28 ∷ [])
    -- 31 June posted, answered and released; 29 February of 96 posted and released
    ∷ plays (posting (message_of (on 96 6 31)) 1 1 ∷ receiving (receipt_for (on 96 6 31)) 1 0 ∷ releasing (key_on (on 96 6 31)) ∷ []) (just 3 ∷ just 3 ∷ just 3 ∷ [])
    ∷ plays (posting (message_of (on 96 2 29)) 1 1 ∷ releasing (key_on (on 97 2 29)) ∷ releasing (key_on (on 96 2 29)) ∷ []) (just 0 ∷ just 3 ∷ just 0 ∷ [])
    -- calls of such a day name no message, and a table with a row of it is none; of the last day that there is they do, and it is one
    ∷ names (posting (message_of (on 96 6 31)) 1 1) none
    ∷ names (receiving (receipt_for (on 96 6 31)) 1 0) none
    ∷ names (releasing (key_on (on 97 2 29))) none
    ∷ names (receiving (receipt_for (on 96 2 29)) 1 0) (some (key_of (key_on (on 96 2 29))))
    ∷ stands (table_on (on 96 6 31)) false
    ∷ stands (table_on (on 97 2 29)) false
    ∷ stands (table_on (on 96 6 30)) true
    ∷ []
