-- The listing's text, as octets: the line that counts the rows, and a row with its key line and a line for each recipient.
use Rattle.std.specs.Prelude.{ℕ, zero, suc, ◌+◌, ◌/◌, ◌%◌, Bool, ◌||◌, List, [], ◌∷◌, ◌++◌, length, leb, eqb}
use Rattle.std.proofs.Math.Option.{Option, none, some}
use Rattle.codec.specs.Answer.{pick}
use Rattle.order.specs.Values.{Address, urn, name, Key}
use Rattle.order.specs.Requests.{Ask, Mark}
use Rattle.order.specs.Calls.{Row, Rows}

abbrev pub digit : ℕ → ℕ
digit n = 48 + n

-- decimal, without leading zeros: at most so many digits
unfoldable pub digits : ℕ → ℕ → List ℕ
digits zero n = []
digits (suc k) n = pick (leb 10 n) (digits k (n / 10)) [] ++ digit (n % 10) ∷ []

-- a number of 32 bits has at most ten
abbrev pub decimal : ℕ → List ℕ
decimal n = digits 10 n

abbrev pub two_digits : ℕ → List ℕ
two_digits n = digit (n / 10 % 10) ∷ digit (n % 10) ∷ []

-- lower-case hexadecimal
abbrev pub hex_digit : ℕ → ℕ
hex_digit n = pick (leb n 9) (digit n) (87 + n)

-- a character of a name: below 32, quote and backslash as a backslash and two digits
unfoldable pub escaped : ℕ → List ℕ
escaped c = pick (leb c 31 || eqb c 34 || eqb c 92) (92 ∷ hex_digit (c / 16) ∷ hex_digit (c % 16) ∷ []) (c ∷ [])

unfoldable pub characters : List ℕ → List ℕ
characters [] = []
characters (c ∷ cs) = escaped c ++ characters cs

-- a URN in decimal, a name in double quotes
unfoldable pub address_text : Address → List ℕ
address_text (urn n) = decimal n
address_text (name s) = 34 ∷ characters s ++ 34 ∷ []

-- 96-07-03 16:27:55
unfoldable pub dtg_text : Key → List ℕ
dtg_text k =
    two_digits k.year ++ 45 ∷ two_digits k.month ++ 45 ∷ two_digits k.day
    ++ 32 ∷ two_digits k.hour ++ 58 ∷ two_digits k.minute ++ 58 ∷ two_digits k.second

-- the extension, or a hyphen
unfoldable pub extension_text : Option ℕ → List ℕ
extension_text none = 45 ∷ []
extension_text (some n) = decimal n

-- the letters of the asked requests: m, o, r
unfoldable pub asked_text : Ask → List ℕ
asked_text a = pick a.machine (109 ∷ []) [] ++ pick a.acknowledge (111 ∷ []) [] ++ pick a.reply (114 ∷ []) []

-- ` asked `
abbrev pub asked : List ℕ
asked = 32 ∷ 97 ∷ 115 ∷ 107 ∷ 101 ∷ 100 ∷ 32 ∷ []

-- the key's line
unfoldable pub key_line : Key → Ask → List ℕ
key_line k a = address_text k.from ++ 32 ∷ dtg_text k ++ 32 ∷ extension_text k.extension ++ asked ++ asked_text a ++ 10 ∷ []

-- a code, or ? where the request is open
unfoldable pub code_text : Option ℕ → List ℕ
code_text none = 63 ∷ []
code_text (some c) = decimal c

-- ` m=1` where the request is asked
unfoldable pub request_text : Bool → ℕ → Option ℕ → List ℕ
request_text a letter c = pick a (32 ∷ letter ∷ 61 ∷ code_text c) []

-- a recipient's line
unfoldable pub recipient_line : Ask → Address × Mark → List ℕ
recipient_line a x =
    32 ∷ 32 ∷ address_text x.0
    ++ request_text a.machine 109 x.1.machine
    ++ request_text a.acknowledge 111 x.1.acknowledge
    ++ request_text a.reply 114 x.1.reply
    ++ 10 ∷ []

unfoldable pub recipient_lines : Ask → List (Address × Mark) → List ℕ
recipient_lines a [] = []
recipient_lines a (x ∷ l) = recipient_line a x ++ recipient_lines a l

unfoldable pub row_text : Key × Row → List ℕ
row_text x = key_line x.0 x.1.0 ++ recipient_lines x.1.0 x.1.1

-- `rows ` and the number of rows
unfoldable pub count_line : ℕ → List ℕ
count_line n = 114 ∷ 111 ∷ 119 ∷ 115 ∷ 32 ∷ decimal n ++ 10 ∷ []

-- the row behind the first i, nothing past the last
unfoldable pub row_at : Rows → ℕ → List ℕ
row_at [] i = []
row_at (x ∷ s) zero = row_text x
row_at (x ∷ s) (suc i) = row_at s i

-- row 0 counts the rows, the others follow in their order
unfoldable pub listed : Rows → ℕ → List ℕ
listed s zero = count_line (length s)
listed s (suc i) = row_at s i
