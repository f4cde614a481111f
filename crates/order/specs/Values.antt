-- The values that the structures of `src/` stand for, and their orders. A name is its used characters only.
use Rattle.std.specs.Prelude.{List, [], ◌∷◌, cond, ◌⊎◌}
use Rattle.std.proofs.Math.Option.{Option, none, some}
use Rattle.std.proofs.Common.{inl, inr}
use Prim.Native.Nat.Ordering.{eq}
use Prim.Native.Nat.Ordering.{gt}
use Prim.Native.Nat.Ordering.{lt}
use Prim.Native.Nat.{ℕ, Ordering}
use Rattle.std.specs.declared.cmp.Ordering.{Ordering as RustOrdering}
use Rattle.std.specs.declared.cmp.Ordering.TheVariants.{Less, Equal, Greater}
use Rattle.codec.specs.Codec.{first}
use Rattle.optional.specs.declared.OptionalNumber.{OptionalNumber}
use Rattle.text.specs.Texts.{chars_of}
use Rattle.header.specs.Table.{address, stamp}
use Rattle.header.specs.declared.Address.{Address as DeclaredAddress}
use Rattle.header.specs.declared.Dtg.{Dtg}
use Rattle.header.specs.declared.Stamp.{Stamp}
use Rattle.calls.specs.Order.{by_number, ◌lex◌, list, ◌or◌, option, pull}
use Rattle.order.specs.declared.Key.{Key as DeclaredKey}

-- what a comparison of `src/` answers
unfoldable pub comparison_of : RustOrdering → Ordering
comparison_of Less = lt
comparison_of Equal = eq
comparison_of Greater = gt

-- an originator, a recipient or an answerer: a URN or a unit name
pub data Address : Type 0 where
  urn : ℕ → Address
  name : List ℕ → Address

abbrev pub form : Address → ℕ ⊎ List ℕ
form (urn n) = inl n
form (name s) = inr s

-- every URN before every name; names as lists of characters
unfoldable pub by_address : Address → Address → Ordering
by_address = pull form (by_number or list by_number)

-- the URN where it is present, otherwise the name
unfoldable pub address_of : DeclaredAddress → Address
address_of a = cond a.urn.present (urn a.urn.value) (name (chars_of a.name.text))

-- what names a message: its originator, its DTG, its extension
pub record Key : Type 0 where
  pub from : Address
  pub year : ℕ
  pub month : ℕ
  pub day : ℕ
  pub hour : ℕ
  pub minute : ℕ
  pub second : ℕ
  pub extension : Option ℕ

-- a DTG's numbers in order, and the extension
abbrev pub Moment : Type 0
Moment = List ℕ × Option ℕ

abbrev pub parts : Key → Address × Moment
parts k = (k.from, (k.year ∷ k.month ∷ k.day ∷ k.hour ∷ k.minute ∷ k.second ∷ [], k.extension))

-- by the DTG's fields from the year on, then by the extension, a missing one first
abbrev pub by_moment : Moment → Moment → Ordering
by_moment = list by_number lex option by_number

-- by the originator, then by DTG and extension
unfoldable pub by_key : Key → Key → Ordering
by_key = pull parts (by_address lex by_moment)

unfoldable pub option_of : OptionalNumber → Option ℕ
option_of x = cond x.present (some x.value) none

abbrev pub dtg_of : Dtg → List ℕ
dtg_of d = d.date.year ∷ d.date.month ∷ d.date.day ∷ d.time.hour ∷ d.time.minute ∷ d.time.second ∷ []

abbrev pub moment_of : Stamp → Moment
moment_of s = (dtg_of s.dtg, option_of s.extension)

unfoldable pub key_of : DeclaredKey → Key
key_of k = let d = k.stamp.dtg.date in let t = k.stamp.dtg.time in
    record {
      from = address_of k.address;
      year = d.year;
      month = d.month;
      day = d.day;
      hour = t.hour;
      minute = t.minute;
      second = t.second;
      extension = option_of k.stamp.extension;
    }

-- the first refusal of a key, in the writer's order: address, DTG, extension; 0 for none
abbrev pub key_fault : DeclaredKey → ℕ
key_fault k = first (address.check k.address) (stamp.check k.stamp)
