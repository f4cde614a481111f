-- What it means that reading and writing are inverse to each other. `reading` and `user_data` are what the calls `read` and `user_data` are promised to
-- do, `writing`, `checking` and `output_after` what `write` and `check` are.
use Rattle.std.specs.Prelude.{ℕ, ◌≡◌, List, ◌++◌, length, drop}
use Rattle.header.specs.Same.{Same}
use Rattle.header.specs.declared.Header.{Header}
use Rattle.reader.specs.Reading.{reading, accepted, user_data}
use Rattle.writer.specs.Writing.{done, writing, output_after}

-- the datagram s is accepted: its record is the same record as h, its header has n octets, and d is its user data
pub record ReadAs (h : Header) (n : ℕ) (d s : List ℕ) : Type 0 where
  pub header : Header
  pub read : reading s ≡ accepted header n
  pub same : Same h header
  pub behind : user_data s ≡ d

-- the record h, with so many octets of user data, is written into the output as these octets, and the rest of the output is as it was
pub record WrittenAs (h : Header) (count : ℕ) (header out : List ℕ) : Type 0 where
  pub answer : writing h count (length out) ≡ done (length header)
  pub output : output_after h (writing h count (length out)) out ≡ header ++ drop (length header) out

-- document 01's "valid" of a header: there are user data behind which these octets are read as the whole header
pub record ValidHeader (s : List ℕ) : Type 0 where
  pub behind : List ℕ
  pub header : Header
  pub read : reading (s ++ behind) ≡ accepted header (length s)
