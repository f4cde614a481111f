-- Addresses and keys that are the same get the same check, and legal ones mean the same; and legal ones that mean the same are the same. Assumes nothing.
use Prim.Native.Nat.{ℕ, ◌≤◌}
use mathlib.Core.Path.{◌≡◌, refl, ap, sym, ◌∙◌}
use mathlib.Core.Bool.{Bool, true, false, not, cond, ◌&&◌}
use mathlib.Core.List.{List}
use mathlib.Core.Option.{Option, none, some}
use lib.ListN.{length, take, length-take}
use lib.Dec.{leb, eqb, lit<}
use borrow.Author.Tests.{leb-true, eqb-true}
use native.Mathlib.Omega.{arith}
use Rattle.codec.specs.Answer.{pick}
use Rattle.codec.specs.Codec.{flag, first, tested, same, viewed, present, ◌then_by◌}
use Rattle.codec.specs.Lists.{cells}
use Rattle.codec.proofs.Lawful.{same_check}
use Rattle.codec.proofs.Sequences.{first-zero}
use Rattle.codec.proofs.ListLaws.{fine-legal}
use Rattle.optional.specs.declared.OptionalNumber.{OptionalNumber}
use Rattle.text.specs.Texts.{text, no_text}
use Rattle.text.specs.declared.Text.{Text}
use Rattle.header.specs.Table.{maybe, unit_name, address, stamp}
use Rattle.header.specs.Same.{same_number, same_text, same_optional_text, same_address, same_stamp}
use Rattle.header.specs.declared.Address.{Address as DeclaredAddress}
use Rattle.header.specs.declared.Stamp.{Stamp}
use Rattle.header.proofs.Lawful.{address-lawful, stamp-lawful}
use Rattle.header.proofs.Same.{address-agrees, stamp-agrees}
use Rattle.order.specs.Values.{urn, name, address_of, key_of, option_of, key_fault}
use Rattle.order.specs.declared.Key.{Key as DeclaredKey}
use Rattle.table.proofs.Parts.{and_both}
use Rattle.history.specs.SameTable.{same_key}

-- two tests, the second of which agrees where the first holds
pub and_same : (a b c d : Bool) → a ≡ b → (a ≡ true → c ≡ d) → a && c ≡ b && d
and_same true b c d e h = rw (← e) (h refl)
and_same false b c d e h = rw (← e)

-- ---- the same check

pub address-check : (x y : DeclaredAddress) → same_address x y → address.check x ≡ address.check y
address-check x y s = same_check address-lawful x y (address-agrees.made x y s)

stamp-check : (x y : Stamp) → same_stamp x y → stamp.check x ≡ stamp.check y
stamp-check x y s = same_check stamp-lawful x y (stamp-agrees.made x y s)

pub key-check : (x y : DeclaredKey) → same_key x y → key_fault x ≡ key_fault y
unfolding same_key
key-check x y s = rw (address-check x.address y.address s.0, stamp-check x.stamp y.stamp s.1)

-- ---- a legal address: a URN or a name, and a name in its cells

pub record LegalAddress (a : DeclaredAddress) : Type 0 where
  pub either : a.name.present ≡ not a.urn.present
  pub cells : a.name.present ≡ true → length a.name.text.chars ≡ 64
  pub count : a.name.present ≡ true → a.name.text.len ≤ 64

one_of : (n u : Bool) → ◌≡◌ {A = ℕ} (pick (same n (not u)) 0 6) 0 → n ≡ not u
one_of true true e = absurd (omega arith)
one_of true false e = refl
one_of false true e = refl
one_of false false e = absurd (omega arith)

text-legal : (b : Bool) (t : Text) → b ≡ true → (present no_text (text 64) b).check t ≡ 0 → (length t.chars ≡ 64) × (t.len ≤ 64)
unfolding present text viewed cells
text-legal true t b h =
    let f = fine-legal (eqb (length t.chars) 64 && leb t.len 64) _ 4 (lit< tt) h in
    let g = and_both (eqb (length t.chars) 64) (leb t.len 64) f.0 in
    (eqb-true _ 64 g.0, leb-true _ 64 g.1)
text-legal false t b h = (cc, let z : ◌≡◌ {A = ℕ} 0 1 = cc in absurd (omega arith))

pub legal-address : (a : DeclaredAddress) → address.check a ≡ 0 → LegalAddress a
unfolding address unit_name viewed ◌then_by◌ tested flag first
legal-address a h =
    let u = (first-zero ((maybe 24 0 16777215).check a.urn) _ h).1 in
    let v = first-zero (pick (same a.name.present (not a.urn.present)) 0 6) _ u in
    record {
      either = one_of a.name.present a.urn.present v.0;
      cells = λ e. (text-legal a.name.present a.name.text e v.1).0;
      count = λ e. (text-legal a.name.present a.name.text e v.1).1;
    }

-- ---- the same means the same

one_address : (p q : Bool) (v w : ℕ) (s t : List ℕ) → p ≡ q → (p ≡ true → v ≡ w) → (p ≡ false → s ≡ t) → cond p (urn v) (name s) ≡ cond q (urn w) (name t)
one_address true q v w s t e hv hs = rw (← e) (ap urn (hv refl))
one_address false q v w s t e hv hs = rw (← e) (ap name (hs refl))

pub address_same : (x y : DeclaredAddress) → same_address x y → address.check x ≡ 0 → address_of x ≡ address_of y
unfolding same_address same_number same_optional_text same_text address_of
address_same x y s h =
    one_address x.urn.present y.urn.present x.urn.value y.urn.value _ _ s.0.0 s.0.1 (λ e. (s.1.1 ((legal-address x h).either ∙ ap not e)).1.1)

one-option : (p q : Bool) (v w : ℕ) → p ≡ q → (p ≡ true → v ≡ w) → ◌≡◌ {A = Option ℕ} (cond p (some v) none) (cond q (some w) none)
one-option true q v w e h = rw (← e) (ap some (h refl))
one-option false q v w e h = rw (← e)

option-same : (x y : OptionalNumber) → same_number x y → option_of x ≡ option_of y
unfolding same_number option_of
option-same x y s = one-option x.present y.present x.value y.value s.0 s.1

pub key-same : (x y : DeclaredKey) → same_key x y → key_fault x ≡ 0 → key_of x ≡ key_of y
unfolding same_key same_stamp key_of
key-same x y s h =
    let a = address_same x.address y.address s.0 (first-zero (address.check x.address) _ h).0 in
    let o = option-same x.stamp.extension y.stamp.extension s.1.1 in
    let d = s.1.0 in
    λ i. record {
      from = a i;
      year = (d i).date.year;
      month = (d i).date.month;
      day = (d i).date.day;
      hour = (d i).time.hour;
      minute = (d i).time.minute;
      second = (d i).time.second;
      extension = o i;
    }

-- ---- what means the same is the same

urn-value : (v w : ℕ) → urn v ≡ urn w → v ≡ w
urn-value v w e = cc

name-characters : (s t : List ℕ) → name s ≡ name t → s ≡ t
name-characters s t e = cc

record OneAddress (p q : Bool) (v w : ℕ) (s t : List ℕ) : Type 0 where
  kind : p ≡ q
  number : p ≡ true → v ≡ w
  characters : p ≡ false → s ≡ t

address-parts : (p q : Bool) (v w : ℕ) (s t : List ℕ) → cond p (urn v) (name s) ≡ cond q (urn w) (name t) → OneAddress p q v w s t
address-parts true true v w s t e = record { kind = refl; number = λ b. urn-value v w e; characters = λ b. cc }
address-parts true false v w s t e = let z : ◌≡◌ {A = ℕ} 0 1 = cc in absurd (omega arith)
address-parts false true v w s t e = let z : ◌≡◌ {A = ℕ} 0 1 = cc in absurd (omega arith)
address-parts false false v w s t e = record { kind = refl; number = λ b. cc; characters = λ b. name-characters s t e }

-- a list in its cells has as many characters as its count says
count_same : (l m : List ℕ) (j k : ℕ) → length l ≡ 64 → length m ≡ 64 → j ≤ 64 → k ≤ 64 → take j l ≡ take k m → j ≡ k
count_same l m j k hl hm hj hk e = omega (arith, length-take j l, length-take k m, ap length e)

not-false : (b : Bool) → not b ≡ true → b ≡ false
not-false true e = sym e
not-false false e = refl

pub address-told : (x y : DeclaredAddress) → address.check x ≡ 0 → address.check y ≡ 0 → address_of x ≡ address_of y → same_address x y
unfolding same_address same_number same_optional_text same_text address_of
address-told x y hx hy e =
    let a = legal-address x hx in
    let b = legal-address y hy in
    let p = address-parts x.urn.present y.urn.present x.urn.value y.urn.value _ _ e in
    let n : x.name.present ≡ y.name.present = a.either ∙ ap not p.kind ∙ sym b.either in (
      (p.kind, p.number),
      (
        n,
        λ t.
            let u : y.name.present ≡ true = sym n ∙ t in
            let c : take x.name.text.len x.name.text.chars ≡ take y.name.text.len y.name.text.chars = p.characters (not-false x.urn.present (sym a.either ∙ t)) in
            (a.cells t ∙ sym (b.cells u), (count_same x.name.text.chars y.name.text.chars _ _ (a.cells t) (b.cells u) (a.count t) (b.count u) c, c)),
      ),
    )

option-value : (v w : ℕ) → some v ≡ some w → v ≡ w
option-value v w e = cc

option-parts : (p q : Bool) (v w : ℕ) → ◌≡◌ {A = Option ℕ} (cond p (some v) none) (cond q (some w) none) → (p ≡ q) × (p ≡ true → v ≡ w)
option-parts true true v w e = (refl, λ b. option-value v w e)
option-parts true false v w e = let z : ◌≡◌ {A = ℕ} 0 1 = cc in absurd (omega arith)
option-parts false true v w e = let z : ◌≡◌ {A = ℕ} 0 1 = cc in absurd (omega arith)
option-parts false false v w e = (refl, λ b. cc)

pub key-told : (x y : DeclaredKey) → key_fault x ≡ 0 → key_fault y ≡ 0 → key_of x ≡ key_of y → same_key x y
unfolding same_key same_stamp same_number key_of option_of
key-told x y hx hy e =
    let a = address-told x.address y.address (first-zero (address.check x.address) _ hx).0 (first-zero (address.check y.address) _ hy).0 (ap (λ k. k.from) e) in
    let o = option-parts x.stamp.extension.present y.stamp.extension.present x.stamp.extension.value y.stamp.extension.value (ap (λ k. k.extension) e) in (
      a,
      (
        (λ i. record {
          date = record { year = (e i).year; month = (e i).month; day = (e i).day };
          time = record { hour = (e i).hour; minute = (e i).minute; second = (e i).second };
        }),
        o,
      ),
    )
