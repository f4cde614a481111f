-- A search among the recipients of a row where they lie. Assumes nothing.
use Prim.Native.Nat.Ordering.{eq}
use Prim.Native.Nat.Ordering.{gt}
use Prim.Native.Nat.Ordering.{lt}
use Prim.Native.Nat.{ℕ, ◌+◌, ◌*◌, ◌<◌, ◌≤◌, Ordering}
use mathlib.Core.Path.{◌≡◌, ap, sym, subst, ◌∙◌}
use mathlib.Core.Bool.{true, false}
use mathlib.Core.List.{List, [], map}
use lib.ListN.{length, take, get_or}
use native.Mathlib.Omega.{arith}
use Rattle.cells.specs.Cells.{part, many}
use Rattle.cells.proofs.Lists.{many-count, many-entry}
use Rattle.record_octets.specs.Record.{address_in}
use Rattle.order.specs.Values.{Address, address_of, by_address}
use Rattle.table.specs.Search.{Stopped}
use Rattle.table.specs.declared.Recipient.{Recipient}
use Rattle.table.proofs.Seeking.{Seeking, seeking-more, seeking-end, seeking-held, seeking-free}
use Rattle.table_octets.specs.Table.{recipient_in}

module _ (s : List ℕ) (n : ℕ) (few : n ≤ 16) (w : Address) (i : ℕ) where
  abbrev pub Seeks : ℕ → Type 0
  Seeks j = Seeking by_address (λ (x : Recipient). address_of x.address) w n (many recipient_in 92 16 s) j

  abbrev there : List Address
  there = map (λ (x : Recipient). address_of x.address) (take n (many recipient_in 92 16 s))

  module _ (p : Seeks i) where
    fits : n ≤ length (many recipient_in 92 16 s)
    fits = let e : length (many recipient_in 92 16 s) ≡ 16 = many-count recipient_in 92 16 s in omega arith

    pub ended : n ≤ i → Stopped by_address w there n false
    ended h = let q : i ≤ n = p.within in let e : i ≡ n = omega arith in subst (λ (j : ℕ). Stopped by_address w there j false) e (seeking-end _ _ _ _ _ i p fits h)

    module _ (h : i < n) (x : List ℕ) (here : x ≡ part (i * 92) 92 s) (o : Ordering) (told : o ≡ by_address w (address_of (address_in (part 0 80 x)))) where
      at : by_address w (address_of (get_or (many recipient_in 92 16 s) i (recipient_in [])).address) ≡ o
      unfolding recipient_in
      at = sym (ap (λ (y : Recipient). by_address w (address_of y.address)) (many-entry recipient_in 92 16 i s x (recipient_in []) here (omega arith))) ∙ sym told

      pub stops-free : o ≡ lt → Stopped by_address w there i false
      stops-free e = seeking-free _ _ _ _ _ i p fits (recipient_in []) h (at ∙ e)

      pub stops-held : o ≡ eq → Stopped by_address w there i true
      stops-held e = seeking-held _ _ _ _ _ i p fits (recipient_in []) h (at ∙ e)

      pub goes_on : o ≡ gt → Seeks (i + 1)
      goes_on e = seeking-more _ _ _ _ _ i p fits (recipient_in []) h (at ∙ e)
