-- The texts of the listing by their cases, and their lengths by their parts. Assumes nothing.
use Prim.Native.Nat.{ℕ, ◌+◌, ◌/◌, ◌%◌, ◌≤◌, ◌<◌, min}
use mathlib.Core.Path.{◌≡◌, refl, sym, ap, ◌∙◌}
use mathlib.Core.Bool.{Bool, true, false, ◌||◌}
use mathlib.Core.List.{List, [], ◌∷◌, ◌++◌, map, append_assoc}
use mathlib.Core.Option.{Option}
use lib.ListN.{length, take, get_or, length-append, length-take}
use lib.Seq.{get_or-take}
use lib.Dec.{leb, eqb}
use borrow.Author.Tests.{le-leb, lt-leb, eq-eqb, ne_eqb}
use native.Mathlib.Omega.{arith}
use Rattle.codec.specs.Answer.{pick}
use Rattle.optional.specs.declared.OptionalNumber.{OptionalNumber}
use Rattle.text.specs.Texts.{chars_of}
use Rattle.text.specs.declared.Text.{Text}
use Rattle.header.specs.declared.Address.{Address}
use Rattle.header.specs.declared.Requests.{Requests}
use Rattle.header.specs.declared.Stamp.{Stamp}
use Rattle.order.specs.Values.{address_of, option_of, key_of}
use Rattle.order.specs.declared.Key.{Key}
use Rattle.order.specs.Requests.{ask_of}
use Rattle.table.specs.Rows.{code_of, mark_of, recipient_of, row_of}
use Rattle.table.specs.declared.Recipient.{Recipient}
use Rattle.table.specs.declared.Row.{Row}
use Rattle.row_text.specs.Text.{digit, decimal, two_digits, hex_digit, escaped, characters, address_text, dtg_text, extension_text, asked_text, asked, key_line, code_text, request_text, recipient_line, recipient_lines, row_text, count_line}
use Rattle.row_text.specs.Parts.{key_text, requests_text, line_of}
use Rattle.row_text.proofs.Lines.{lines, character-lines, recipient-lines, used-cells}

-- a character that is escaped in a name
abbrev special : ℕ → Bool
special c = leb c 31 || eqb c 34 || eqb c 92

pub escaped-special : (c : ℕ) (b : Bool) → b ≡ special c → b ≡ true → escaped c ≡ 92 ∷ hex_digit (c / 16) ∷ hex_digit (c % 16) ∷ []
unfolding escaped
escaped-special c b e t = rw (← e, t)

pub escaped-plain : (c : ℕ) (b : Bool) → b ≡ special c → b ≡ false → escaped c ≡ c ∷ []
unfolding escaped
escaped-plain c b e t = rw (← e, t)

pub decimal_digit : (n : ℕ) → n ≤ 9 → hex_digit n ∷ [] ≡ digit n ∷ []
decimal_digit n h = rw (le-leb n 9 h)

pub letter-digit : (n : ℕ) → 9 < n → hex_digit n ∷ [] ≡ (87 + n) ∷ []
letter-digit n h = rw (lt-leb n 9 h)

pub text-lines : (t : Text) (n : ℕ) → length t.chars ≡ 64 → n ≡ min t.len 64 → characters (chars_of t) ≡ lines escaped (take n t.chars)
text-lines t n e u = rw (used-cells t.chars t.len n 64 e u) (character-lines (take n t.chars))

module _ (a : Address) (u : OptionalNumber) (same : u ≡ a.urn) where
  pub urn-text : u.present ≡ true → address_text (address_of a) ≡ decimal u.value
  unfolding address_text address_of
  urn-text e = let t : a.urn.present ≡ true = ap (λ (n : OptionalNumber). n.present) (sym same) ∙ e in rw (t, same)

  pub name-text : u.present ≡ false → address_text (address_of a) ≡ 34 ∷ characters (chars_of a.name.text) ++ 34 ∷ []
  unfolding address_text address_of
  name-text e = let t : a.urn.present ≡ false = ap (λ (n : OptionalNumber). n.present) (sym same) ∙ e in rw t

  pub name-length : u.present ≡ false → length (address_text (address_of a)) ≡ length (characters (chars_of a.name.text)) + 2
  name-length e = rw (name-text e, length-append) (omega arith)

pub some-extension : (x : OptionalNumber) → x.present ≡ true → extension_text (option_of x) ≡ decimal x.value
unfolding extension_text option_of
some-extension x e = rw e

pub no-extension : (x : OptionalNumber) → x.present ≡ false → extension_text (option_of x) ≡ 45 ∷ []
unfolding extension_text option_of
no-extension x e = rw e

pub open_code : (n : ℕ) → n ≡ 0 → code_text (code_of n) ≡ 63 ∷ []
unfolding code_text code_of
open_code n e = rw (eq-eqb n 0 e)

pub given-code : (n : ℕ) → (n ≡ 0 → ⊥) → code_text (code_of n) ≡ decimal n
unfolding code_text code_of
given-code n e = rw (ne_eqb n 0 e)

module _ (b : Bool) (letter : ℕ) (c : Option ℕ) where
  pub asked-request : b ≡ true → request_text b letter c ≡ 32 ∷ letter ∷ 61 ∷ code_text c
  unfolding request_text
  asked-request e = rw e

  pub unasked-request : b ≡ false → request_text b letter c ≡ []
  unfolding request_text
  unasked-request e = rw e

pub request-length : (b : Bool) (letter : ℕ) (c : Option ℕ) → length (request_text b letter c) ≡ pick b (length (code_text c) + 3) 0
request-length true letter c = rw (asked-request true letter c refl) (omega arith)
request-length false letter c = rw (unasked-request false letter c refl)

module _ (a : Requests) (r : Recipient) where
  pub requests-length : length (requests_text a r) ≡ pick a.machine (length (code_text (code_of r.machine)) + 3) 0 + pick a.acknowledge (length (code_text (code_of r.acknowledge)) + 3) 0 + pick a.reply (length (code_text (code_of r.reply)) + 3) 0
  unfolding requests_text
  requests-length = rw (length-append, length-append, request-length, request-length, request-length)

  pub line-parts : line_of a r ≡ (32 ∷ 32 ∷ address_text (address_of r.address)) ++ requests_text a r ++ 10 ∷ []
  unfolding line_of requests_text recipient_line ask_of mark_of
  line-parts =
      four (32 ∷ 32 ∷ address_text (address_of r.address)) (request_text a.machine 109 (code_of r.machine)) (request_text a.acknowledge 111 (code_of r.acknowledge))
      (request_text a.reply 114 (code_of r.reply)) (10 ∷ [])
    where
      four : (i x y z e : List ℕ) → i ++ x ++ y ++ z ++ e ≡ i ++ (x ++ y ++ z) ++ e
      four i x y z e = simp append_assoc

  pub line-length : length (line_of a r) ≡ length (address_text (address_of r.address)) + length (requests_text a r) + 3
  line-length = rw (line-parts, length-append, length-append) (omega arith)

pub key-text-length : (k : Key) → length (key_text k) ≡ length (address_text (address_of k.address)) + length (extension_text (option_of k.stamp.extension)) + 19
unfolding key_text dtg_text
key-text-length k = rw (length-append, length-append) (omega arith)

-- of a key whose stamp was loaded
pub dtg-text : (k : Key) (s : Stamp) → s ≡ k.stamp
    → dtg_text (key_of k) ≡ (two_digits s.dtg.date.year ++ 45 ∷ two_digits s.dtg.date.month ++ 45 ∷ two_digits s.dtg.date.day)
    ++ 32 ∷ (two_digits s.dtg.time.hour ++ 58 ∷ two_digits s.dtg.time.minute ++ 58 ∷ two_digits s.dtg.time.second)
unfolding dtg_text key_of
dtg-text k s e = rw e

pub letter-length : (b : Bool) (letter : ℕ) → length (pick b (letter ∷ []) []) ≡ pick b 1 0
letter-length true letter = refl
letter-length false letter = refl

module _ (a : Requests) where
  pub letters-length : length (asked_text (ask_of a)) ≡ pick a.machine 1 0 + pick a.acknowledge 1 0 + pick a.reply 1 0
  unfolding asked_text ask_of
  letters-length = rw (length-append, length-append, letter-length, letter-length, letter-length)

  pub key-line-parts : (k : Key) → key_line (key_of k) (ask_of a) ≡ key_text k ++ asked ++ asked_text (ask_of a) ++ 10 ∷ []
  unfolding key_line key_text key_of
  key-line-parts k = refl

  pub key-line-length : (k : Key) → length (key_line (key_of k) (ask_of a)) ≡ length (key_text k) + length (asked_text (ask_of a)) + 8
  key-line-length k = rw (key-line-parts, length-append, length-append, length-append) (omega arith)

pub count-line-length : (n : ℕ) → length (count_line n) ≡ length (decimal n) + 6
unfolding count_line
count-line-length n = rw length-append (omega arith)

pub line-lines : (a : Requests) (l : List Recipient) (count n : ℕ) → length l ≡ 16 → n ≡ min count 16 → recipient_lines (ask_of a) (map recipient_of (take count l)) ≡ lines (line_of a) (take n l)
unfolding line_of
line-lines a l count n e u = rw (used-cells l count n 16 e u) (recipient-lines (ask_of a) recipient_of (take n l))

-- of a row whose requests and count were loaded
module _ (r : Row) (a : Requests) (n : ℕ) (asks : a ≡ r.asked) (counts : n ≡ r.count) where
  pub row-parts : row_text (row_of r) ≡ key_line (key_of r.key) (ask_of a) ++ recipient_lines (ask_of a) (map recipient_of (take n r.recipients))
  unfolding row_text
  row-parts = rw (asks, counts)

  pub row-length : length (row_text (row_of r)) ≡ length (key_line (key_of r.key) (ask_of a)) + length (recipient_lines (ask_of a) (map recipient_of (take n r.recipients)))
  row-length = rw (row-parts, length-append)

-- the used characters of a text's octets are so many, and these
pub used-characters : (n : ℕ) (x : List ℕ) → length x ≡ 68 → n ≤ 64 → length (take n (take 64 x)) ≡ n
used-characters n x h k = simp length-take (omega arith)

pub used-character : (n : ℕ) (x : List ℕ) (i : ℕ) → i < n → get_or (take n (take 64 x)) i 0 ≡ get_or (take 64 x) i 0
used-character n x i h = get_or-take n (take 64 x) i 0 h
