-- The number of each kind of refusal.
use Rattle.std.specs.Prelude.{ℕ}
use Rattle.codec.specs.declared.Fault.{Fault}
use Rattle.codec.specs.declared.Fault.TheVariants.{Short, Version, Code, BadText, Count, Forms, Security, Fill, NoRoom, TooLong, RuleA, RuleB, RuleC, RuleD, RuleE, RuleF, RuleG, RuleH, RuleI, HeaderSize, SizeSum, NoBody, NeedlessBody}

-- the number of a refusal: document 01's, and document 02's for a rule or a size
abbrev pub fault_no : Fault → ℕ
-- bits run out inside a field
fault_no Short = 1
-- version not legal
fault_no Version = 2
-- another code not legal
fault_no Code = 3
-- empty text; in a record also a bad character or length
fault_no BadText = 4
-- a list of addressees, blocks or references is longer than it may be, or is empty
fault_no Count = 5
-- both or neither form of an address
fault_no Forms = 6
-- the presence bit of G10 is 1
fault_no Security = 7
-- a fill bit is 1
fault_no Fill = 9
-- the output is too short
fault_no NoRoom = 11
-- header and data are longer than a datagram
fault_no TooLong = 12
-- the rules (a) to (i), one number each
fault_no RuleA = 41
fault_no RuleB = 42
fault_no RuleC = 43
fault_no RuleD = 44
fault_no RuleE = 45
fault_no RuleF = 46
fault_no RuleG = 47
fault_no RuleH = 48
fault_no RuleI = 49
-- the header size is not the header's octets
fault_no HeaderSize = 51
-- the message sizes do not sum to the data octets
fault_no SizeSum = 52
-- a block that needs data octets has none
fault_no NoBody = 53
-- a block that may have none has some
fault_no NeedlessBody = 54
