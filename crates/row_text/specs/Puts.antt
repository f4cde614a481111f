-- What putting a text into an output leaves behind.
use Rattle.std.specs.Prelude.{ℕ, ◌+◌, ◌≡◌, List, ◌++◌, length, take, drop}

-- `after` is `before` with the text from octet p on and every other octet as it was, and q is the octet behind the text
pub record Puts (text before after : List ℕ) (p q : ℕ) : Type 0 where
  pub octets : after ≡ take p before ++ (text ++ drop (p + length text) before)
  pub ends : q ≡ p + length text
