-- `listing::list_row` meets its contract. Assumes nothing.
use borrow.Author.Rules.{rules}
use mathlib.Core.Path.{ap, sym, ◌∙◌}
use mathlib.Core.Bool.{not}
use borrow.Author.Tests.{leb-true}
use Rattle.table.proofs.Parts.{fine-table}
use Rattle.table_octets.specs.Table.{table_in}
use Rattle.listing.specs.Listing.{told}
use Rattle.listing.specs.declared.ListingFault.TheVariants.{NoRoom}
use Rattle.listing.proofs.Ways.{told-plain, ill-formed, no_room, is-listed}
use Rattle.listing.proofs.list_row.Goals as goal

pub returns-then-is_none : goal.returns-then-is_none
returns-then-is_none c = let w = ill-formed (table_in c.args.t.now) c.args.number c.args.out.now (sym c.inspect.ensures.0 ∙ c.is_none.ensures ∙ ap not c.if-is_none.true) in (told-plain _ _ c.from.ensures ∙ w.0, w.1)

pub has_room-requires : goal.has_room-requires
has_room-requires c = ((sym c.inspect.ensures.0 ∙ c.is_none.ensures ∙ ap not c.if-is_none.false), search rules)

pub returns-then-not-has_room : goal.returns-then-not-has_room
returns-then-not-has_room c = let w = no_room (table_in c.args.t.now) c.args.number c.args.out.now (sym c.inspect.ensures.0 ∙ c.is_none.ensures ∙ ap not c.if-is_none.false) (sym c.has_room.ensures ∙ c.if-not-has_room.true) in let e = c.from-then-not-has_room.ensures in (told-plain NoRoom _ (cc e.0, cc e.1, cc e.2) ∙ w.0, w.1)

pub put_listed-requires : goal.put_listed-requires
put_listed-requires c = (leb-true _ _ (sym c.has_room.ensures ∙ c.if-not-has_room.false), (fine-table (table_in c.args.t.now) (sym c.inspect.ensures.0 ∙ c.is_none.ensures ∙ ap not c.if-is_none.false)).fits, search rules)

pub returns : goal.returns
unfolding told
returns c = is-listed (table_in c.args.t.now) c.args.number c.args.out.now (sym c.inspect.ensures.0 ∙ c.is_none.ensures ∙ ap not c.if-is_none.false) (sym c.has_room.ensures ∙ c.if-not-has_room.false) _ _ c.put_listed.ensures
