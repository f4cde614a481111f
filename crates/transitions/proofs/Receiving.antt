-- A row's octets behind a receipt: the row that they hold. Assumes nothing.
use Prim.Native.Nat.{ℕ, zero, suc, ◌+◌, ◌-◌, ◌*◌, ◌<◌, ◌≤◌, Ordering}
use mathlib.Core.Path.{◌≡◌, refl, ap, sym, ◌∙◌}
use mathlib.Core.Bool.{Bool, true, false, cond, ◌||◌}
use mathlib.Core.List.{List, [], ◌∷◌, ◌++◌, map}
use mathlib.Core.Option.{Option, none, some}
use lib.ListN.{length, take, drop, set, get_or, length-map, length-take, take-append-drop}
use lib.Seq.{take-set-lt, get_or-take}
use lib.Dec.{eqb}
use borrow.Author.Tests.{eqb-true}
use native.Mathlib.Omega.{arith}
use Rattle.header.specs.declared.Address.{Address as DeclaredAddress}
use Rattle.header.specs.declared.Requests.{Requests}
use Rattle.calls.specs.Keyed.{find, InOrder}
use Rattle.calls.proofs.Orders.{Order, cases}
use Rattle.calls.proofs.Keyed.{sorted, find-lt}
use Rattle.order.specs.Values.{Address, address_of, by_address}
use Rattle.order.specs.Requests.{Mark, blank, answered_by, settle, WellMarked, ask_of}
use Rattle.order.specs.Calls.{Row as Cells, written, reply, replied, mark}
use Rattle.order.proofs.Orders.{by-address}
use Rattle.order.proofs.Requests.{settle-well}
use Rattle.cells.specs.Cells.{part, replaced, many, word_in, word_octets}
use Rattle.cells.proofs.Parts.{word-back}
use Rattle.cells.proofs.Lists.{many-at}
use Rattle.cells.proofs.Replaced.{part_length, part-of-part, replaced-length, replaced-part, replaced-before}
use Rattle.record_octets.specs.Record.{address_in}
use Rattle.table.specs.Rows.{code_of, mark_of, row_of, recipient_of, used_recipients}
use Rattle.table.specs.Search.{Stopped, addresses_of}
use Rattle.table.specs.WellFormed.{recipient_fine, row_fine}
use Rattle.table.specs.declared.Recipient.{Recipient}
use Rattle.table.specs.declared.Row.{Row}
use Rattle.table.proofs.InOrder.{recipients-in-order}
use Rattle.table.proofs.Parts.{fine-row, all-at}
use Rattle.table.proofs.Search.{recipient-held, recipient-free}
use Rattle.table.proofs.Seeking.{no_way}
use Rattle.table_octets.specs.Table.{recipient_in, row_in}
use Rattle.table_octets.specs.Image.{code_image}
use Rattle.transitions.specs.Octets.{place_of, marks, has_mark, codes_octets, marked, settled}
use Rattle.transitions.proofs.Standing.{place_is}
use Rattle.transitions.proofs.Codes.{fit-cell, code-cell}
use Rattle.transitions.proofs.Marks.{recipient-well}
use Rattle.transitions.proofs.Receipts.{row-answered, row-after, row_kept}
use Rattle.transitions.proofs.Replaced.{row-replaced}

-- ---- the place of what is held; h: the entry of a cell, its key and its value

module _ {A K W : Type 0} {cmp : K → K → Ordering} (O : Order cmp) (h : A → K × W) (k : K) where
  -- behind one that comes before
  one_more : (x : A) (l : List A) (at : ℕ) → cmp k (h x).0 ≡ Prim.Native.Nat.Ordering.gt → Stopped cmp k (map (λ y. (h y).0) l) at true → Stopped cmp k ((h x).0 ∷ map (λ y. (h y).0) l) (suc at) true
  one_more x l at g s =
      let w : at ≤ length (map (λ y. (h y).0) l) = s.within in
      record {
        within = omega arith;
        behind = λ d j p. go d j p;
        inside = λ e. let i : at < length (map (λ y. (h y).0) l) = s.inside e in omega arith;
        same = λ d e. s.same d e;
        before = λ d e p. no_way (sym e);
      }
    where
      go : (d : K) (j : ℕ) → j < suc at → cmp k (get_or ((h x).0 ∷ map (λ y. (h y).0) l) j d) ≡ Prim.Native.Nat.Ordering.gt
      go d zero p = g
      go d (suc j) p = s.behind d j (omega arith)

  pub held_at : (l : List A) (v : W) → InOrder cmp (map h l) → find cmp k (map h l) ≡ some v → Stopped cmp k (map (λ y. (h y).0) l) (place_of cmp k (map h l)) true
  unfolding find place_of InOrder
  held_at [] v o e = let z : ◌≡◌ {A = ℕ} 0 1 = cc in absurd (omega arith)
  held_at (x ∷ l) v o e =
      cases (cmp k (h x).0)
      (λ c. let n : find cmp k (h x ∷ map h l) ≡ none = find-lt (sorted O) k (h x) (map h l) o c in let q : ◌≡◌ {A = Option W} none (some v) = sym n ∙ e in let z : ◌≡◌ {A = ℕ} 0 1 = cc in absurd (omega arith))
      (λ c. rw c (record { within = omega arith; behind = λ d j p. absurd (omega arith); inside = λ q. omega arith; same = λ d q. c; before = λ d q p. no_way (sym q) }))
      (λ c. let f : find cmp k (map h l) ≡ some v = rw c at e in rw c (one_more x l (place_of cmp k (map h l)) c (held_at l v o.1 f)))

-- ---- a recipient

one-to-six : (c : ℕ) (p q : Bool) → p || q ≡ true → (p ≡ true → (1 ≤ c) × (c ≤ 6)) → (q ≡ true → (1 ≤ c) × (c ≤ 6)) → (1 ≤ c) × (c ≤ 6)
one-to-six c true q e f g = f refl
one-to-six c false q e f g = g e

is-small : (c n : ℕ) → 1 ≤ n → n ≤ 6 → eqb c n ≡ true → (1 ≤ c) × (c ≤ 6)
is-small c n h g e = let z : c ≡ n = eqb-true c n e in (omega arith, omega arith)

module _ (a : _) (m : Mark) (w : WellMarked a m) where
  machine-cell : (code_image m.machine < 4294967296) × (code_of (code_image m.machine) ≡ m.machine)
  unfolding answered_by
  machine-cell = fit-cell a.machine (λ c. (answered_by c).machine) (λ c e. one-to-six c (eqb c 1) (eqb c 2) e (is-small c 1 (omega arith) (omega arith)) (is-small c 2 (omega arith) (omega arith))) m.machine w.machine_fits

  acknowledge-cell : (code_image m.acknowledge < 4294967296) × (code_of (code_image m.acknowledge) ≡ m.acknowledge)
  unfolding answered_by
  acknowledge-cell = fit-cell a.acknowledge (λ c. (answered_by c).acknowledge) (λ c e. one-to-six c (eqb c 3) (eqb c 2) e (is-small c 3 (omega arith) (omega arith)) (is-small c 2 (omega arith) (omega arith))) m.acknowledge w.acknowledge_fits

  reply-cell : (code_image m.reply < 4294967296) × (code_of (code_image m.reply) ≡ m.reply)
  unfolding answered_by
  reply-cell =
      fit-cell a.reply (λ c. (answered_by c).reply) (λ c e.
      one-to-six c (eqb c 4 || eqb c 5 || eqb c 6) (eqb c 2) e
      (λ f. one-to-six c (eqb c 4 || eqb c 5) (eqb c 6) f (λ g. one-to-six c (eqb c 4) (eqb c 5) g (is-small c 4 (omega arith) (omega arith)) (is-small c 5 (omega arith) (omega arith))) (is-small c 6 (omega arith) (omega arith)))
      (is-small c 2 (omega arith) (omega arith))) m.reply w.reply_fits

pub codes-long : (m : Mark) → length (codes_octets m) ≡ 12
unfolding codes_octets word_octets
codes-long m = refl

module _ (x : List ℕ) (l : length x ≡ 92) (m : Mark) where
  pub marked-long : length (marked (some m) x) ≡ 92
  unfolding marked
  marked-long = replaced-length 80 12 x (codes_octets m) (omega arith) (codes-long m) ∙ l

  pub marked-address : (recipient_in (marked (some m) x)).address ≡ (recipient_in x).address
  unfolding marked recipient_in
  marked-address = ap address_in (replaced-before 80 12 0 80 x (codes_octets m) (omega arith) (omega arith))

  -- a cell of the three
  cell : (at : ℕ) → at + 4 ≤ 12 → part (80 + at) 4 (marked (some m) x) ≡ part at 4 (codes_octets m)
  unfolding marked
  cell at h = sym (part-of-part at 4 80 12 (replaced 80 12 x (codes_octets m)) h) ∙ ap (part at 4) (replaced-part 80 12 x (codes_octets m) (omega arith) (codes-long m))

  pub marked-marks : (a : _) → WellMarked a m → mark_of (recipient_in (marked (some m) x)) ≡ m
  unfolding mark_of recipient_in codes_octets word_octets
  marked-marks a w =
      let p : word_in (part 80 4 (marked (some m) x)) ≡ code_image m.machine = ap word_in (cell 0 (omega arith)) ∙ word-back (code_image m.machine) (machine-cell a m w).0 in
      let q : word_in (part 84 4 (marked (some m) x)) ≡ code_image m.acknowledge = ap word_in (cell 4 (omega arith)) ∙ word-back (code_image m.acknowledge) (acknowledge-cell a m w).0 in
      let r : word_in (part 88 4 (marked (some m) x)) ≡ code_image m.reply = ap word_in (cell 8 (omega arith)) ∙ word-back (code_image m.reply) (reply-cell a m w).0 in
      λ i. record {
        machine = (ap code_of p ∙ (machine-cell a m w).1) i;
        acknowledge = (ap code_of q ∙ (acknowledge-cell a m w).1) i;
        reply = (ap code_of r ∙ (reply-cell a m w).1) i;
      }

-- ---- a row

-- a receipt that a row refuses leaves no marks
pub no-marks : (w : Address) (c : ℕ) (r : Cells) → ((replied w c r).0 ≡ 0 → ⊥) → (replied w c r).1 ≡ none
no-marks w c r n = go (find by_address w r.1) n
  where
    by : (o : Option Mark) → ((written o).0 ≡ 0 → ⊥) → (written o).1 ≡ none
    by none n = refl
    by (some m) n = absurd (n refl)

    go : (o : Option Mark) → ((reply r.0 c o).0 ≡ 0 → ⊥) → (reply r.0 c o).1 ≡ none
    go none n = refl
    go (some m) n = by (settle r.0 c m) n

pub record Kept (w : Address) (c : ℕ) (s y : List ℕ) : Type 0 where
  pub long : length y ≡ 1592
  pub key : (row_in y).key ≡ (row_in s).key
  pub after : (row_of (row_in y)).1 ≡ ((row_of (row_in s)).1.0, mark w (replied w c (row_of (row_in s)).1).1 (row_of (row_in s)).1.1)
  pub fine : row_fine (row_in y) ≡ true

module _ (s : List ℕ) (l : length s ≡ 1592) (fine : row_fine (row_in s) ≡ true) (from : DeclaredAddress) (c : ℕ) where
  abbrev w : Address
  w = address_of from

  abbrev r : Cells
  r = (row_of (row_in s)).1

  -- where it leaves no marks
  pub kept-none : (replied w c r).1 ≡ none → Kept w c s s
  kept-none e = record { long = l; key = refl; after = rw e; fine = fine }

  -- where it leaves some, at the place of the answerer
  module _ (at : ℕ) (stopped : Stopped by_address w (addresses_of (row_in s)) at true) (m : Mark) where
    abbrev x : List ℕ
    x = part (116 + at * 92) 92 s

    used : at < (row_in s).count
    used = place (row_in s).count (row_in s).recipients (stopped.inside refl)
      where
        place : (n : ℕ) (us : List Recipient) → at < length (map (λ z. address_of z.address) (take n us)) → at < n
        place n us h = omega (arith, length-map (take n us) (λ (z : Recipient). address_of z.address), length-take n us)

    pub inside : at < 16
    inside = let most : (row_in s).count ≤ 16 = (fine-row (row_in s) fine).most in omega (arith, used)

    here : get_or (row_in s).recipients at (recipient_in []) ≡ recipient_in x
    unfolding row_in
    here =
        many-at recipient_in 92 16 at (part 116 1472 s) (recipient_in []) inside
        ∙ ap recipient_in (part-of-part (at * 92) 92 116 1472 s (omega (arith, inside)))

    x-long : length x ≡ 92
    x-long = part_length (116 + at * 92) 92 s (omega (arith, inside, l))

    x-fine : recipient_fine (row_in s).asked (recipient_in x) ≡ true
    x-fine =
        ap (recipient_fine (row_in s).asked) (sym here ∙ sym (get_or-take (row_in s).count (row_in s).recipients at (recipient_in []) used))
        ∙ all-at (recipient_fine (row_in s).asked) (used_recipients (row_in s)) at (recipient_in []) (fine-row (row_in s) fine).recipients (among (row_in s).count (row_in s).recipients (stopped.inside refl))
      where
        among : (n : ℕ) (us : List Recipient) → at < length (map (λ z. address_of z.address) (take n us)) → at < length (take n us)
        among n us h = omega (arith, length-map (take n us) (λ (z : Recipient). address_of z.address))

    abbrev y : List ℕ
    y = marked (some m) x

    pub settled_is : settled (w, c) r (some m) s ≡ replaced (116 + at * 92) 92 s y
    unfolding settled
    settled_is = ap (λ (j : ℕ). replaced (116 + j * 92) 92 s (marked (some m) (part (116 + j * 92) 92 s))) (sym (place_is recipient_of w (used_recipients (row_in s)) at true stopped))

    module _ (e : settle (ask_of (row_in s).asked) c (mark_of (recipient_in x)) ≡ some m) where
      well : WellMarked (ask_of (row_in s).asked) m
      well = settle-well (ask_of (row_in s).asked) c (mark_of (recipient_in x)) m (recipient-well (row_in s).asked (recipient_in x) x-fine).1 e

      abbrev after : Row
      after = record { key = (row_in s).key; asked = (row_in s).asked; recipients = set (row_in s).recipients at (recipient_in y); count = (row_in s).count }

      same : (recipient_in y).address ≡ (get_or (row_in s).recipients at (recipient_in [])).address
      same = marked-address x x-long m ∙ ap (λ (z : Recipient). z.address) (sym here)

      settles : settle (ask_of (row_in s).asked) c (mark_of (get_or (row_in s).recipients at (recipient_in []))) ≡ some (mark_of (recipient_in y))
      settles = ap (λ (z : Recipient). settle (ask_of (row_in s).asked) c (mark_of z)) here ∙ e ∙ ap some (sym (marked-marks x x-long m (ask_of (row_in s).asked) well))

      cells : used_recipients after ≡ set (used_recipients (row_in s)) at (recipient_in y)
      cells = take-set-lt (row_in s).count (row_in s).recipients at (recipient_in y) used

      holds : row_in (replaced (116 + at * 92) 92 s y) ≡ after
      holds = row-replaced at s y inside l (marked-long x x-long m)

      pub settled-0 : 0 ≡ (replied w c r).0
      settled-0 = row-answered (row_in s) fine from c at (recipient_in []) stopped (recipient_in y) same settles after refl refl refl cells

      pub kept-some : Kept w c s (replaced (116 + at * 92) 92 s y)
      kept-some =
          record {
            long = replaced-length (116 + at * 92) 92 s y (omega (arith, inside, l)) (marked-long x x-long m) ∙ l;
            key = ap (λ (z : Row). z.key) holds;
            after = ap (λ (z : Row). (row_of z).1) holds ∙ row-after (row_in s) fine from c at (recipient_in []) stopped (recipient_in y) same settles after refl refl refl cells;
            fine = ap row_fine holds ∙ row_kept (row_in s) fine from c at (recipient_in []) stopped (recipient_in y) same settles after refl refl refl cells;
          }

  -- whatever it makes of the row
  pub kept : Kept w c s (settled (w, c) r (replied w c r).1 s)
  unfolding settled
  kept = go (find by_address w r.1) refl
    where
      go : (o : Option Mark) → find by_address w r.1 ≡ o → Kept w c s (settled (w, c) r (replied w c r).1 s)
      go none e = rw e (kept-none (rw e))
      go (some k) e = by (settle r.0 c k) refl
        where
          at : ℕ
          at = place_of by_address w r.1

          stopped : Stopped by_address w (addresses_of (row_in s)) at true
          stopped = held_at by-address recipient_of w (used_recipients (row_in s)) k (recipients-in-order (row_in s) fine) e

          old : (m : Mark) → mark_of (recipient_in (part (116 + at * 92) 92 s)) ≡ k
          old m =
              let f : some (mark_of (get_or (row_in s).recipients at (recipient_in []))) ≡ some k = sym (recipient-held (row_in s) w at (recipient_in []) stopped) ∙ e in
              let g : mark_of (get_or (row_in s).recipients at (recipient_in [])) ≡ k = cc in
              ap mark_of (sym (here at stopped m)) ∙ g

          by : (o : Option Mark) → settle r.0 c k ≡ o → Kept w c s (settled (w, c) r (replied w c r).1 s)
          by none f = rw (e, f) (kept-none (rw (e, f)))
          by (some m) f = rw (e, f) (kept-some at stopped m (ap (settle r.0 c) (old m) ∙ f))

-- ---- what the code finds out of a recipient

module _ (q : Requests) (code : ℕ) (x : List ℕ) (m a r : ℕ) (is_m : m ≡ (recipient_in x).machine) (is_a : a ≡ (recipient_in x).acknowledge) (is_r : r ≡ (recipient_in x).reply) (o : Bool) (m' a' r' : ℕ) (e : settle (ask_of q) code (marks m a r) ≡ cond o (some (marks m' a' r')) none) where
  abbrev found : Option Mark
  found = settle (ask_of q) code (mark_of (recipient_in x))

  as-found : found ≡ cond o (some (marks m' a' r')) none
  unfolding mark_of marks
  as-found = ap (settle (ask_of q) code) (λ i. marks (sym is_m i) (sym is_a i) (sym is_r i)) ∙ e

  pub nothing-open : o ≡ false → (false ≡ has_mark found) × (x ≡ marked found x)
  unfolding marked
  nothing-open n = let z : found ≡ none = as-found ∙ rw n in (rw z, rw z)

  pub some-open : o ≡ true → (y : List ℕ) → y ≡ replaced 80 12 x (word_octets m' ++ word_octets a' ++ word_octets r') → (true ≡ has_mark found) × (y ≡ marked found x)
  unfolding marked codes_octets marks
  some-open n y is =
      let z : found ≡ some (marks m' a' r') = as-found ∙ rw n in
      let w : word_octets m' ++ word_octets a' ++ word_octets r' ≡ codes_octets (marks m' a' r') = λ i. word_octets (sym (code-cell m') i) ++ word_octets (sym (code-cell a') i) ++ word_octets (sym (code-cell r') i) in
      (rw z, is ∙ ap (replaced 80 12 x) w ∙ rw z)

-- ---- what the code finds out of a row

-- put back as it was
pub put_back : (at n : ℕ) (s : List ℕ) → replaced at n s (part at n s) ≡ s
put_back at n s = ap (λ (x : List ℕ). take at s ++ x) (take-append-drop n (drop at s)) ∙ take-append-drop at s

-- the recipients that were looked at are the row's
pub sought : (s : List ℕ) (n at : ℕ) (h b : Bool) (w : Address) → n ≡ word_in (part 1588 4 s) → h ≡ b → Stopped by_address w (map (λ x. address_of x.address) (take n (many recipient_in 92 16 (part 116 1472 s)))) at h → Stopped by_address w (addresses_of (row_in s)) at b
unfolding row_in
sought s n at h b w e f p = rw (← e, ← f) p

module _ (s : List ℕ) (l : length s ≡ 1592) (fine : row_fine (row_in s) ≡ true) (from : DeclaredAddress) (c : ℕ) where
  abbrev who : Address
  who = address_of from

  abbrev its : Cells
  its = (row_of (row_in s)).1

  -- the answerer is no recipient
  pub stranger : (at : ℕ) → Stopped by_address who (addresses_of (row_in s)) at false → (27 ≡ (replied who c its).0) × (s ≡ settled (who, c) its (replied who c its).1 s)
  unfolding settled
  stranger at p = let e : find by_address who its.1 ≡ none = recipient-free (row_in s) who at fine p in (rw e, rw e)

  module _ (at : ℕ) (stopped : Stopped by_address who (addresses_of (row_in s)) at true) (q : Requests) (asked : q ≡ (row_in s).asked) (k : ℕ) (size : k ≡ 92) (o : Bool) (y : List ℕ) where
    abbrev seen : List ℕ
    seen = take k (drop (116 + at * 92) s)

    abbrev left : Option Mark
    left = settle (ask_of q) c (mark_of (recipient_in seen))

    -- what it leaves at the recipient is what the row's receipt leaves
    replies : replied who c its ≡ written left
    replies =
        let e : find by_address who its.1 ≡ some (mark_of (get_or (row_in s).recipients at (recipient_in []))) = recipient-held (row_in s) who at (recipient_in []) stopped in
        let m : get_or (row_in s).recipients at (recipient_in []) ≡ recipient_in seen = here s l fine from c at stopped blank ∙ ap (λ (j : ℕ). recipient_in (take j (drop (116 + at * 92) s))) (sym size) in
        ap (reply its.0 c) (e ∙ ap (λ (z : Recipient). some (mark_of z)) m) ∙ ap (λ (z : Requests). written (settle (ask_of z) c (mark_of (recipient_in seen)))) (sym asked)

    settled-so : (x : Option Mark) → replied who c its ≡ written x → y ≡ marked x seen → replaced (116 + at * 92) k s y ≡ settled (who, c) its (replied who c its).1 s
    unfolding settled marked
    settled-so none r e = ap (replaced (116 + at * 92) k s) e ∙ put_back (116 + at * 92) k s ∙ rw r
    settled-so (some m) r e =
        ap (replaced (116 + at * 92) k s) e ∙ ap (λ (j : ℕ). replaced (116 + at * 92) j s (marked (some m) (take j (drop (116 + at * 92) s)))) size
        ∙ sym (settled_is s l fine from c at stopped m) ∙ ap (λ (z : ℕ × Option Mark). settled (who, c) its z.1 s) (sym r)

    -- 28 where no request was open
    number : (x : Option Mark) → (written x).0 ≡ cond (has_mark x) 0 28
    number none = refl
    number (some m) = refl

    pub answered : o ≡ has_mark left → y ≡ marked left seen → ((replied who c its).0 ≡ cond o 0 28) × (replaced (116 + at * 92) k s y ≡ settled (who, c) its (replied who c its).1 s)
    answered h e = (ap (λ (z : ℕ × Option Mark). z.0) replies ∙ number left ∙ ap (λ (b : Bool). cond b 0 28) (sym h), settled-so left replies e)
