-- What the exported calls hand back, in plain numbers: the number of the refusal, its block and its place, each 0 for done, beside what the call made.
use Rattle.std.specs.Prelude.{ℕ}
use Rattle.codec.specs.Verdict.{Verdict, in_block}
use Rattle.reader.specs.Told.{Told}
use Rattle.writer.specs.Writing as writer
use Rattle.listing.specs.Listing as listing
use Rattle.answers.specs.declared.SizeAnswer.{SizeAnswer}
use Rattle.answers.specs.declared.TableAnswer.{TableAnswer}

-- of a reading: the header's octets; refused, 0, as `to_tell` has it
unfoldable pub read_numbers : Told → SizeAnswer
read_numbers t = record { number = t.number; block = t.block; place = t.place; length = t.octets }

-- a size in octets, and no refusal
abbrev pub sized : ℕ → SizeAnswer
sized n = record { number = 0; block = 0; place = 0; length = n }

-- a refusal, and no size
abbrev pub refused_by : ℕ → ℕ → ℕ → SizeAnswer
refused_by f p b = record { number = f; block = b; place = p; length = 0 }

-- of the check and of writing: the header's octets
unfoldable pub write_numbers : writer.Writing → SizeAnswer
write_numbers (writer.done n) = sized n
write_numbers (writer.rejected f p b) = refused_by f p b

-- of the listing: the octets written
unfoldable pub list_numbers : listing.Listing → SizeAnswer
list_numbers (listing.done n) = sized n
list_numbers (listing.rejected f p b) = refused_by f p b

-- of posting, receipt and release: the number and the block
abbrev pub table_says : TableAnswer → Verdict
table_says r = in_block r.block r.number
