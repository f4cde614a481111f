-- A text in its cells.
use Rattle.std.specs.Prelude.{ℕ, List, take, replicate}
use Rattle.codec.specs.Codec.{Codec, tested, shaped}
use Rattle.codec.specs.Characters.{characters}
use Rattle.codec.specs.Lists.{non_empty, cells}
use Rattle.text.specs.declared.Text.{Text}

-- no text: every cell 0
abbrev pub no_text : Text
no_text = record { chars = replicate 64 0; len = 0 }

-- the characters in the used cells
abbrev pub chars_of : Text → List ℕ
chars_of t = take t.len t.chars

-- a text of 1 to n characters
unfoldable pub text : ℕ → Codec Text
text n = shaped (λ x. record { chars = x.0; len = x.1 }) (λ y. (y.chars, y.len)) (cells 0 64 n 4 (tested non_empty 4 (characters n)))
