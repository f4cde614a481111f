-- A datagram's calls, one after another. Assumes nothing.
use Prim.Native.Nat.{ℕ, zero, suc, ◌+◌, ◌-◌, ◌≤◌, ◌<◌}
use mathlib.Core.Path.{◌≡◌, refl, sym, ap, ap₂, ◌∙◌}
use mathlib.Core.Bool.{Bool, true, false}
use mathlib.Core.List.{List, [], ◌∷◌}
use lib.ListN.{length, get_or}
use native.Mathlib.Omega.{arith}
use Rattle.codec.specs.Answer.{pick}
use Rattle.codec.specs.Verdict.{Verdict}
use Rattle.header.specs.Zero.{no_block}
use Rattle.header.specs.declared.Block.{Block}
use Rattle.header.specs.declared.Header.{Header}
use Rattle.order.specs.Calls.{Rows, on_table}
use Rattle.table.specs.Rows.{see}
use Rattle.table.specs.WellFormed.{well_formed}
use Rattle.table.specs.declared.Table.{Table}
use Rattle.arguments.specs.Arguments.{Arguments, posting, receiving, block_at, call_of}
use Rattle.table_octets.specs.Table.{table_in}
use Rattle.transitions.specs.Transition.{Transition}
use Rattle.pending.specs.Calls.{rows_after}
use Rattle.reader.specs.Reading.{Reading, accepted, rejected, reading, user_data}
use Rattle.reader.specs.Told.{Told, told, to_tell, Holds}
use Rattle.record_octets.specs.Record.{header_in}
use Rattle.bits.specs.declared.OctetSize.{OctetSize}
use Rattle.codec.specs.declared.Fault.{Fault}
use Rattle.codec.specs.declared.Refusal.{Refusal}
use Rattle.std.specs.Prelude.{Result, Ok, Err, is_err}
use Rattle.playing.specs.Plays.{Plays, turn, after, rows_of, played_by, played}

-- ---- whether a block has G8

past : {A : Type 0} (l : List A) (i : ℕ) (d : A) → length l ≤ i → get_or l i d ≡ d
past [] i d h = refl
past (x ∷ l) zero d h = absurd (omega arith)
past (x ∷ l) (suc i) d h = past l i d (omega arith)

pub no-block : (h : Header) (n : ℕ) → n < 1 → false ≡ (block_at h n).response.present
unfolding block_at no_block
no-block h zero k = refl
no-block h (suc i) k = absurd (omega arith)

pub past-blocks : (h : Header) (n : ℕ) → length h.blocks.list ≡ 16 → 16 < n → false ≡ (block_at h n).response.present
unfolding block_at no_block
past-blocks h zero l k = absurd (omega arith)
past-blocks h (suc i) l k = sym (ap (λ (b : Block). b.response.present) (past h.blocks.list i no_block (omega arith)))

pub at_block : (h : Header) (n : ℕ) (b : Block) → 1 ≤ n → b ≡ get_or h.blocks.list (n - 1) no_block → b.response.present ≡ (block_at h n).response.present
unfolding block_at
at_block h zero b j e = absurd (omega arith)
at_block h (suc i) b j e =
    let k : suc i - 1 ≡ i = omega arith in
    ap (λ (x : Block). x.response.present) (e ∙ ap (λ (m : ℕ). get_or h.blocks.list m no_block) k)

-- ---- one call

pub plays-receipt : (h : Header) (n count : ℕ) (v : Verdict) (b : Bool) (t t' : List ℕ) → b ≡ (block_at h n).response.present → b ≡ true → Transition (call_of (receiving h n count)) t v t' → Plays (turn h n count) t t'
unfolding turn
plays-receipt h n count v b t t' e y d = let z : (block_at h n).response.present ≡ true = sym e ∙ y in rw z (record { rows = d.rows; well = d.well })

pub plays-posting : (h : Header) (n count : ℕ) (v : Verdict) (b : Bool) (t t' : List ℕ) → b ≡ (block_at h n).response.present → b ≡ false → Transition (call_of (posting h n count)) t v t' → Plays (turn h n count) t t'
unfolding turn
plays-posting h n count v b t t' e y d = let z : (block_at h n).response.present ≡ false = sym e ∙ y in rw z (record { rows = d.rows; well = d.well })

-- ---- call after call

-- t' holds the table behind the calls of the first i blocks
pub record Behind (h : Header) (count : ℕ) (t : Table) (i : ℕ) (t' : Table) : Type 0 where
  pub within : i ≤ h.blocks.count
  pub rows : see t' ≡ rows_of h count t i
  pub well : well_formed t' ≡ well_formed t

pub behind-none : (h : Header) (count : ℕ) (t : Table) → Behind h count t 0 t
unfolding after
behind-none h count t = record { within = omega arith; rows = go (well_formed t); well = refl }
  where
    go : (w : Bool) → see t ≡ pick w (see t) (see t)
    go true = refl
    go false = refl

step : (w : Bool) (a : Arguments) (x y : Rows) → pick w (on_table (call_of a) (pick w x y)).1 (pick w x y) ≡ pick w (on_table (call_of a) x).1 y
step true a x y = refl
step false a x y = refl

pub behind_more : (h : Header) (count : ℕ) (t : Table) (i : ℕ) (u v : List ℕ) → Behind h count t i (table_in u) → i < h.blocks.count → Plays (turn h (i + 1) count) u v → Behind h count t (i + 1) (table_in v)
unfolding after
behind_more h count t i u v b k p =
    let n : i + 1 ≡ suc i = omega arith in
    let e : see (table_in v) ≡ rows_after (turn h (suc i) count) (table_in u) = p.rows ∙ ap (λ (m : ℕ). rows_after (turn h m count) (table_in u)) n in
    let r : see (table_in v) ≡ rows_of h count t (suc i) =
    e ∙ ap₂ (λ (w : Bool) (x : Rows). pick w (on_table (call_of (turn h (suc i) count)) x).1 x) b.well b.rows ∙ step (well_formed t) (turn h (suc i) count) (after h count (see t) i) (see t) in
    record { within = omega arith; rows = rw n r; well = p.well ∙ b.well }

pub behind-all : (h : Header) (count : ℕ) (t : Table) (i : ℕ) (t' : Table) → Behind h count t i t' → h.blocks.count ≤ i → (see t' ≡ rows_of h count t h.blocks.count) × (well_formed t' ≡ well_formed t)
behind-all h count t i t' b k =
    let e : i ≡ h.blocks.count = omega (arith, b.within) in
    (b.rows ∙ ap (rows_of h count t) e, b.well)

-- ---- a datagram, by what the reading tells

by-refusal : (s : List ℕ) (t : Table) (x : Reading) → (to_tell x).done ≡ false → see t ≡ played_by s t x
unfolding played_by to_tell
by-refusal s t (accepted h n) e = let z : ◌≡◌ {A = ℕ} 0 1 = cc in absurd (omega arith)
by-refusal s t (rejected f p b) e = refl

by-record : (s after : List ℕ) (t : Table) (x : Reading) → (to_tell x).done ≡ true → Holds x after → rows_of (header_in after) (length (user_data s)) t (header_in after).blocks.count ≡ played_by s t x
unfolding played_by to_tell Holds
by-record s after t (accepted h n) e k = ap (λ (y : Header). rows_of y (length (user_data s)) t y.blocks.count) k
by-record s after t (rejected f p b) e k = let z : ◌≡◌ {A = ℕ} 0 1 = cc in absurd (omega arith)

not_done : (r : Result OctetSize (Refusal Fault)) → is_err r ≡ true → (told r).done ≡ false
unfolding told
not_done (Ok n) d = sym d
not_done (Err f) d = refl

is_done : (r : Result OctetSize (Refusal Fault)) → is_err r ≡ false → (told r).done ≡ true
unfolding told
is_done (Ok n) d = refl
is_done (Err f) d = sym d

module _ (s : List ℕ) (t : Table) (r : Result OctetSize (Refusal Fault)) (e : told r ≡ to_tell (reading s)) where
  pub played-refused : is_err r ≡ true → see t ≡ played t s
  played-refused d = by-refusal s t (reading s) (sym (ap (λ (x : Told). x.done) e) ∙ not_done r d)

  pub played-record : is_err r ≡ false → (after : List ℕ) → Holds (reading s) after → (count : ℕ) → count ≡ length (user_data s) → (t' : Table) → see t' ≡ rows_of (header_in after) count t (header_in after).blocks.count → see t' ≡ played t s
  played-record d after held count k t' g =
      g ∙ ap (λ (n : ℕ). rows_of (header_in after) n t (header_in after).blocks.count) k ∙ by-record s after t (reading s) (sym (ap (λ (x : Told). x.done) e) ∙ is_done r d) held
