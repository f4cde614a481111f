-- `transitions::places::put_row` meets its contract. Assumes nothing.
use borrow.Author.Rules.{rules}
use Prim.Native.Nat.{ℕ, ◌+◌, ◌-◌, ◌*◌}
use mathlib.Core.Path.{◌≡◌, refl, ap, ◌∙◌}
use mathlib.Core.List.{List, map, ◌++◌}
use native.Mathlib.Omega.{arith}
use lib.ListN.{length, take}
use Rattle.cells.specs.Cells.{zeros, word_octets, many_octets, inserted_at}
use Rattle.record_octets.specs.Record.{addresses_in, requests_octets}
use Rattle.order.specs.Values.{address_of, key_of}
use Rattle.order.specs.Requests.{ask_of}
use Rattle.order.specs.Calls.{make}
use Rattle.table_octets.specs.Table.{key_in, recipient_octets, row_octets}
use Rattle.table_octets.specs.Image.{key_image, recipients_image, row_image}
use Rattle.table_octets.proofs.Back.{key-long, row-long}
use Rattle.table_octets.specs.Typed.{TypedRow}
use Rattle.transitions.specs.Octets.{counted}
use Rattle.transitions.proofs.NewRow.{made-typed}
use Rattle.recipients.specs.Holds.{blanks_of}
use Rattle.recipients.proofs.Blanks.{new-row-is}
use Rattle.transitions.proofs.Replaced.{put_in, put-in-long}
use Rattle.transitions.proofs.places.put_row.Goals as goal
use Rattle.transitions.proofs.places.put_row.Goals.{After-new_row, Start}

lent : (n : ℕ) → n + 1592 - n ≡ 1592
lent n = omega arith

key-112 : (c : Start) → length c.args.key.now ≡ 112
key-112 c = ap (length {A = ℕ}) c.requires.3 ∙ key-long (key_image (key_of (key_in c.args.key.now))) c.requires.4

pub new_row-requires : goal.new_row-requires
new_row-requires c = (search rules, c.requires.5, c.requires.6, key-112 (goal.at.new_row-requires c).Start)

-- the new row's octets
row_is : (c : After-new_row) → c.new_row.new.r ≡ row_octets (row_image (key_of (key_in c.args.key.now), make (ask_of c.args.asked) (map address_of (take (addresses_in c.args.to.now).count (addresses_in c.args.to.now).list))))
row_is c =
    let to = addresses_in c.args.to.now in
    c.new_row.ensures.0
    ∙ ap (λ (k : List ℕ). k ++ requests_octets c.args.asked ++ zeros 1 ++ many_octets recipient_octets (recipients_image (blanks_of to)) ++ word_octets (length (blanks_of to))) c.requires.3
    ∙ new-row-is (key_of (key_in c.args.key.now)) c.args.asked (take to.count to.list) (blanks_of to) refl

typed : (c : After-new_row) → TypedRow (row_image (key_of (key_in c.args.key.now), make (ask_of c.args.asked) (map address_of (take (addresses_in c.args.to.now).count (addresses_in c.args.to.now).list))))
typed c = made-typed (key_of (key_in c.args.key.now)) c.args.asked (addresses_in c.args.to.now) c.requires.4 c.new_row.ensures.1 c.requires.6 c.new_row.ensures.2

pub overflow_add-count : goal.overflow_add-count
overflow_add-count c = let h = c.requires.2 in omega arith

pub shape_of-t : goal.shape_of-t
shape_of-t c =
    ap (length {A = ℕ}) (put_in c.args.t.now c.move_up.new.t c.new_row.new.r c.store_word.new.b c.args.count c.args.at _ c.requires.0 c.requires.1 c.requires.2 (lent (c.args.at * 1592)) c.move_up.ensures c.store_word.ensures)
    ∙ put-in-long c.args.t.now c.new_row.new.r c.args.count c.args.at c.requires.0 c.requires.1 c.requires.2 (ap (length {A = ℕ}) (row_is (goal.at.shape_of-t c).After-new_row) ∙ row-long _ (typed (goal.at.shape_of-t c).After-new_row))

pub returns : goal.returns
returns c = (
  put_in c.args.t.now c.move_up.new.t c.new_row.new.r c.store_word.new.b c.args.count c.args.at _ c.requires.0 c.requires.1 c.requires.2 (lent (c.args.at * 1592)) c.move_up.ensures c.store_word.ensures
      ∙ ap (λ (y : List ℕ). counted (c.args.count + 1) (inserted_at 1592 c.args.count c.args.at y c.args.t.now)) (row_is (goal.at.returns c).After-new_row),
  typed (goal.at.returns c).After-new_row,
)
