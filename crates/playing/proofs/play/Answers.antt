-- `playing::play` meets its contract. Assumes nothing.
use mathlib.Core.Path.{refl, ap, sym, ◌∙◌}
use Prim.Native.Nat.{ℕ}
use mathlib.Core.List.{List}
use lib.ListN.{length}
use Rattle.table_octets.specs.Table.{table_in}
use Rattle.playing.proofs.Playing.{played-refused, played-record}
use Rattle.playing.proofs.play.Goals as goal

pub returns-then-is_err : goal.returns-then-is_err
returns-then-is_err c = (played-refused c.args.datagram.now (table_in c.args.t.now) _ c.read.ensures.0 (sym c.is_err.ensures.value ∙ c.if-is_err.true), refl)

pub returns : goal.returns
returns c =
    let g = c.play_blocks.ensures in (
      played-record c.args.datagram.now (table_in c.args.t.now) _ c.read.ensures.0 (sym c.is_err.ensures.value ∙ c.if-is_err.false) _ c.read.ensures.2 _ (ap (λ (x : List ℕ). length x) c.user_data-data.ensures) (table_in c.play_blocks.new.t) g.0,
      g.1,
    )
