-- The characters of a text, as document 01 has it: 7 bits each, 0 to 126, up to a marker, 127, or to the n-th, behind which there is no marker.
use Rattle.std.specs.Prelude.{ℕ, min, zero, suc, ◌+◌, ◌*◌, Bool, true, false, ◌&&◌, List, [], ◌∷◌, ◌++◌, length, leb, eqb}
use Rattle.bits.specs.Bits.{low_bits}
use Rattle.codec.specs.Answer.{Answer, got, next, pick}
use Rattle.codec.specs.Codec.{Codec, number}

-- one character or the marker
abbrev pub character : Codec ℕ
character = number 7 0 127 3

unfoldable pub read_characters : ℕ → List Bool → ℕ → Answer (List ℕ)
read_characters zero bs p = got [] p
read_characters (suc n) bs p =
    next (character.read bs p) (λ v q. pick (eqb v 127) (got [] q) (next (read_characters n bs q) (λ cs r. got (v ∷ cs) r)))

unfoldable pub write_characters : ℕ → List ℕ → List Bool
write_characters zero cs = []
write_characters (suc n) [] = low_bits 7 127
write_characters (suc n) (c ∷ cs) = low_bits 7 c ++ write_characters n cs

-- at most n, each below the marker
unfoldable pub legal_characters : ℕ → List ℕ → Bool
legal_characters n [] = true
legal_characters zero (c ∷ cs) = false
legal_characters (suc n) (c ∷ cs) = leb c 126 && legal_characters n cs

unfoldable pub characters : ℕ → Codec (List ℕ)
characters n =
    record {
      read = read_characters n;
      write = write_characters n;
      check = λ cs. pick (legal_characters n cs) 0 4;
      norm = λ cs. cs;
      size = λ cs. 7 * min n (length cs + 1);
    }
