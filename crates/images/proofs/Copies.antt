-- What the copies leave: used characters with 0 behind them, a number or 0, the one form of an address. Assumes nothing.
use Prim.Native.Nat.{ℕ, zero, suc, ◌+◌, ◌-◌, ◌<◌, ◌≤◌, min}
use mathlib.Core.Path.{◌≡◌, refl, sym, ap, ◌∙◌}
use mathlib.Core.Bool.{Bool, true, false, cond}
use mathlib.Core.List.{List, [], ◌∷◌, ◌++◌}
use mathlib.Core.Option.{none, some}
use native.Mathlib.Omega.{arith}
use lib.ListN.{length, take, drop, length-take}
use lib.Seq.{paste}
use lib.Dec.{lit<}
use Rattle.cells.specs.Cells.{part, zeros, flag_octets, mark_octets, word_octets}
use Rattle.cells.proofs.Replaced.{part_length}
use Rattle.optional.specs.declared.OptionalNumber.{OptionalNumber}
use Rattle.text.specs.Texts.{chars_of}
use Rattle.header.specs.Zero.{no_number, no_optional_text}
use Rattle.header.specs.Table.{stamp}
use Rattle.header.specs.declared.Address.{Address}
use Rattle.header.specs.declared.Stamp.{Stamp}
use Rattle.record_octets.specs.Record.{optional_number_octets, text_in, text_octets, optional_text_in, optional_text_octets, address_in, address_octets, stamp_octets}
use Rattle.record_octets.specs.Typed.{TypedOptionalNumber, TypedAddress, TypedStamp}
use Rattle.table_octets.specs.Table.{key_octets}
use Rattle.table_octets.specs.Typed.{TypedKey}
use Rattle.order.specs.Values.{name, address_of, option_of, key_of}
use Rattle.order.specs.declared.Key.{Key}
use Rattle.table_octets.specs.Image.{number_image, address_image, stamp_image, key_image}
use Rattle.table_octets.proofs.Images.{urn-typed, name_typed, stamp-image}

-- ---- texts

zeros-drop : (n k : ℕ) → drop n (zeros k) ≡ zeros (k - n)
zeros-drop zero k = let e : k ≡ k - 0 = omega arith in ap zeros e
zeros-drop (suc n) zero = let e : 0 ≡ 0 - suc n = omega arith in ap zeros e
zeros-drop (suc n) (suc k) = let e : k - n ≡ suc k - suc n = omega arith in zeros-drop n k ∙ ap zeros e

-- so many characters copied over cleared octets
pub characters-put : (l m s : List ℕ) (n k : ℕ) → l ≡ paste m 0 (drop 0 s) n → m ≡ zeros k → k ≡ 64 → l ≡ take n s ++ zeros (64 - n)
characters-put l m s n k e f g =
    let z : 0 + n ≡ n = omega arith in
    e ∙ ap (λ (i : ℕ). take n s ++ drop i m) z ∙ ap (λ (t : List ℕ). take n s ++ drop n t) (f ∙ ap zeros g) ∙ ap (λ (t : List ℕ). take n s ++ t) (zeros-drop n 64)

-- a count over the cells stands for all of them
take-most : (n : ℕ) (s : List ℕ) → take (min n (length s)) s ≡ take n s
take-most zero s = let e : min zero (length s) ≡ zero = omega arith in rw e refl
take-most (suc n) [] = let e : min (suc n) zero ≡ zero = omega arith in rw e refl
take-most (suc n) (x ∷ s) = let e : min (suc n) (suc (length s)) ≡ suc (min n (length s)) = omega arith in rw e (ap (λ (t : List ℕ). x ∷ t) (take-most n s))

pub text-put : (len n : ℕ) (s : List ℕ) → length s ≡ 64 → n ≡ min len 64 → take n s ++ zeros (64 - n) ++ word_octets n ≡ take len s ++ zeros (64 - length (take len s)) ++ word_octets (length (take len s))
text-put len n s h e =
    let m : length (take len s) ≡ n = length-take len s ∙ ap (λ (k : ℕ). min len k) h ∙ sym e in
    let t : take n s ≡ take len s = ap (λ (k : ℕ). take k s) (e ∙ ap (λ (k : ℕ). min len k) (sym h)) ∙ take-most len s in
    rw (m, t)

characters-most : (n : ℕ) (s : List ℕ) → length s ≡ 64 → length (take n s) ≤ 64
characters-most n s h = let l : length (take n s) ≡ min n (length s) = length-take n s in omega arith

-- ---- numbers

module _ (l : List ℕ) (v w : OptionalNumber) (e : v ≡ w) where
  pub number-absent : (k : ℕ) → v.present ≡ false → l ≡ zeros k → k ≡ 8 → l ≡ optional_number_octets (number_image (option_of w))
  unfolding option_of optional_number_octets mark_octets flag_octets word_octets no_number
  number-absent k h q z = let g : w.present ≡ false = sym (ap (λ (x : OptionalNumber). x.present) e) ∙ h in rw g (q ∙ ap zeros z)

  pub number-present : v.present ≡ true → l ≡ mark_octets true ++ word_octets v.value → l ≡ optional_number_octets (number_image (option_of w))
  unfolding option_of optional_number_octets
  number-present h q = let g : w.present ≡ true = sym (ap (λ (x : OptionalNumber). x.present) e) ∙ h in rw g (q ∙ ap (λ (x : OptionalNumber). mark_octets true ++ word_octets x.value) e)

  pub number_fits : v.value < 4294967296 → w.value < 4294967296
  number_fits h = rw e at h

pub number-typed : (v : OptionalNumber) → v.value < 4294967296 → TypedOptionalNumber (number_image (option_of v))
unfolding option_of no_number
number-typed v h = go v.present
  where
    go : (b : Bool) → TypedOptionalNumber (number_image (cond b (some v.value) none))
    go true = record { value = h }
    go false = record { value = lit< tt }

-- ---- addresses

pub name-whole : (s : List ℕ) → length s ≡ 80 → length (address_in s).name.text.chars ≡ 64
unfolding address_in optional_text_in text_in
name-whole s h =
    let a : length (part 8 72 s) ≡ 72 = part_length 8 72 s (omega arith) in
    let b : length (part 4 68 (part 8 72 s)) ≡ 68 = part_length 4 68 (part 8 72 s) (omega arith) in
    part_length 0 64 (part 4 68 (part 8 72 s)) (omega arith)

module _ (l : List ℕ) (a : Address) where
  pub address-urn : a.urn.present ≡ true → a.urn.value < 4294967296 → l ≡ optional_number_octets (number_image (option_of a.urn)) ++ zeros 72
      → (l ≡ address_octets (address_image (address_of a))) × TypedAddress (address_image (address_of a))
  unfolding address_of option_of address_octets address_image no_optional_text optional_text_octets text_octets mark_octets flag_octets word_octets
  address-urn h b q = let z = rw h at q in rw h (z, urn-typed a.urn.value b)

  pub address-name : a.urn.present ≡ false → length a.name.text.chars ≡ 64
      → l ≡ optional_number_octets (number_image (option_of a.urn)) ++ optional_text_octets (address_image (name (chars_of a.name.text))).name
      → (l ≡ address_octets (address_image (address_of a))) × TypedAddress (address_image (address_of a))
  unfolding address_of option_of address_octets address_image
  address-name h b q = let z = rw h at q in rw h (z, name_typed (chars_of a.name.text) (characters-most a.name.text.len a.name.text.chars b))

-- ---- keys

pub key-put : (l : List ℕ) (k : Key) → l ≡ address_octets (address_image (address_of k.address)) ++ stamp_octets (stamp.norm k.stamp)
    → TypedAddress (address_image (address_of k.address)) → TypedStamp (stamp.norm k.stamp) → (l ≡ key_octets (key_image (key_of k))) × TypedKey (key_image (key_of k))
unfolding key_octets key_image key_of
key-put l k e a s =
    let i : stamp_image (key_of k) ≡ stamp.norm k.stamp = stamp-image k in
    (e ∙ ap (λ t. address_octets (address_image (address_of k.address)) ++ stamp_octets t) (sym i), record { address = a; stamp = typed (stamp_image (key_of k)) i })
  where
    typed : (t : Stamp) → t ≡ stamp.norm k.stamp → TypedStamp t
    typed t i = rw i s
