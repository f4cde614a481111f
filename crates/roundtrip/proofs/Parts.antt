-- What is known of an accepted datagram. Assumes nothing.
use Prim.Native.Nat.{ℕ, zero, suc, ◌-◌, ◌≤◌}
use mathlib.Core.Path.{◌≡◌, refl}
use mathlib.Core.Bool.{Bool, true, false}
use mathlib.Core.List.{List}
use lib.ListN.{length}
use lib.Dec.{leb, eqb}
use borrow.Author.Tests.{leb-true}
use native.Mathlib.Omega.{arith}
use Rattle.bits.specs.Bits.{bits_of}
use Rattle.bits.specs.Units.{whole_octets, fill_bits, datagram_limit}
use Rattle.codec.specs.Answer.{Answer, got, refused, pick}
use Rattle.codec.specs.Verdict.{Verdict, plain, whether}
use Rattle.codec.proofs.Verdicts.{first_fine}
use Rattle.header.specs.Table.{wire}
use Rattle.header.specs.Order.{in_order}
use Rattle.header.specs.Rules.{◌⇒◌, rules, setting_of, used_blocks}
use Rattle.header.specs.Sizes.{wrong_size, judgement}
use Rattle.header.specs.declared.Blocks.{Blocks}
use Rattle.header.specs.declared.Setting.{Setting}
use Rattle.header.specs.declared.Header.{Header}
use Rattle.header.specs.declared.Wire.{Wire}
use Rattle.reader.specs.Reading.{accepted, rejected, record_of, read_fill, verdict_on, accepted_by, settled, filled, judged, reading}
use Rattle.writer.specs.Writing.{record_verdict}

-- what is known of an accepted datagram with a header of n octets
pub record Accepted (s : List ℕ) (n : ℕ) : Type 0 where
  pub short : length s ≤ datagram_limit
  pub held : Wire
  pub end : ℕ
  pub got-wire : wire.read (bits_of s) 0 ≡ got held end
  pub bit : Bool
  pub behind : ℕ
  pub got-fill : read_fill (fill_bits end) (bits_of s) end ≡ got bit behind
  pub octets : n ≡ whole_octets end
  pub size : (held.size.present ⇒ eqb held.size.value n) ≡ true
  pub right : (record_verdict (record_of held) (length s - n)).number ≡ 0

-- its record is the one that these bits hold
abbrev pub Known : List ℕ → Header → ℕ → Type 0
Known s h n = (a : Accepted s n) × (h ≡ record_of a.held)

not-rejected : {f p b n : ℕ} {h : Header} {X : Type 0} → rejected f p b ≡ accepted h n → X
not-rejected e = let z : ◌≡◌ {A = ℕ} 0 1 = cc in absurd (omega arith)

-- where nothing is refused, the header size holds
held-size : (holds : Bool) (x : Setting) (octets : ℕ) (g : Blocks) → (judgement x holds octets g).number ≡ 0 → (holds ≡ true) × ((judgement x true octets g).number ≡ 0)
unfolding judgement wrong_size in_order
held-size true x octets g e = (refl, e)
held-size false x octets g e =
    let a = first_fine (in_order (rules x) (used_blocks g)) _ e in
    let b = (first_fine (plain 51) _ a.1).0 in
    absurd (omega (arith, b))

module _ (s : List ℕ) (h : Header) (n : ℕ) where
  accepted-by : (v : Verdict) (x : Header) (octets : ℕ) → accepted_by v x octets ≡ accepted h n → (h ≡ x) × (n ≡ octets) × (v.number ≡ 0)
  unfolding accepted_by
  accepted-by v x octets = go v.number
    where
      go : (k : ℕ) → whether k (accepted x octets) (rejected v.number 0 v.block) ≡ accepted h n → (h ≡ x) × (n ≡ octets) × (k ≡ 0)
      go zero d = (cc, cc, refl)
      go (suc k) d = not-rejected d

  settled-accepted : (w : Wire) (octets behind : ℕ) → settled w octets behind ≡ accepted h n → (h ≡ record_of w) × (n ≡ octets) × ((verdict_on (record_of w) w.size octets behind).number ≡ 0)
  unfolding settled
  settled-accepted w octets behind e = accepted-by (verdict_on (record_of w) w.size octets behind) (record_of w) octets e

  module _ (short : length s ≤ datagram_limit) (w : Wire) (end : ℕ) (g : wire.read (bits_of s) 0 ≡ got w end) where
    filled-accepted : (a : Answer Bool) → read_fill (fill_bits end) (bits_of s) end ≡ a → filled s w end a ≡ accepted h n → Known s h n
    unfolding filled verdict_on
    filled-accepted (refused f p) m e = not-rejected e
    filled-accepted (got b p) m e =
        let k = settled-accepted w (whole_octets end) (length s - whole_octets end) e in
        let o : n ≡ whole_octets end = k.1 in
        let x = held-size (w.size.present ⇒ eqb w.size.value (whole_octets end)) (setting_of (record_of w)) (length s - whole_octets end) w.blocks k.2 in (
          record {
            short = short;
            held = w;
            end = end;
            got-wire = g;
            bit = b;
            behind = p;
            got-fill = m;
            octets = o;
            size = rw o x.0;
            right = rw o x.1;
          },
          k.0,
        )

  judged-accepted : length s ≤ datagram_limit → (a : Answer Wire) → wire.read (bits_of s) 0 ≡ a → judged s a ≡ accepted h n → Known s h n
  unfolding judged
  judged-accepted short (refused f p) m e = not-rejected e
  judged-accepted short (got w end) m e = filled-accepted short w end m (read_fill (fill_bits end) (bits_of s) end) refl e

  pub accepted-parts : reading s ≡ accepted h n → Known s h n
  unfolding reading
  accepted-parts e = go (leb (length s) datagram_limit) refl e
    where
      go : (b : Bool) → leb (length s) datagram_limit ≡ b → pick b (judged s (wire.read (bits_of s) 0)) (rejected 12 0 0) ≡ accepted h n → Known s h n
      go true m d = judged-accepted (leb-true (length s) datagram_limit m) (wire.read (bits_of s) 0) refl d
      go false m d = not-rejected d
