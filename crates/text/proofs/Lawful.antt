-- A text has a codec's laws, for every maximum that its cells hold. Assumes nothing.
use Prim.Native.Nat.{ℕ, ◌≤◌}
use mathlib.Core.Path.{refl}
use lib.Dec.{lit<}
use Rattle.codec.specs.Codec.{tested}
use Rattle.codec.specs.Characters.{characters}
use Rattle.codec.specs.Lists.{non_empty}
use Rattle.codec.proofs.Lawful.{Lawful}
use Rattle.codec.proofs.Views.{shaped-lawful}
use Rattle.codec.proofs.CharacterLaws as law
use Rattle.codec.proofs.ListLaws.{cells-lawful}
use Rattle.text.specs.Texts.{text}

pub text-lawful : (n : ℕ) → n ≤ 64 → Lawful (text n)
unfolding text tested characters
text-lawful n h = shaped-lawful _ _ (cells-lawful 0 64 n 4 (tested non_empty 4 (characters n)) (law.text-lawful n) (lit< tt) h (λ cs. refl) (law.text-length n)) (λ x. refl)
