-- A call leaves of the one image of rows the one image of the rows behind it: where it is done, what it moves, clears and writes leaves no octet over, and a refusal leaves every octet
-- as it was. So from octets that are all 0 every table on the way is the one image of its rows. Assumes nothing.
use Prim.Native.Nat.{ℕ, zero, suc, ◌+◌, ◌-◌, ◌*◌, ◌<◌, ◌≤◌}
use mathlib.Core.Path.{◌≡◌, refl, sym, ap, subst, ◌∙◌}
use mathlib.Core.Bool.{Bool, true, false, cond}
use mathlib.Core.List.{List, [], ◌∷◌, ◌++◌, append_assoc, append-nil}
use mathlib.Core.Logic.{inl, inr}
use mathlib.Core.Option.{Option, none, some}
use native.Mathlib.Nat.{zero-add, suc-add}
use native.Mathlib.Omega.{arith}
use lib.ListN.{length, take, drop, set, get_or, replicate, length-append, length-drop, length-set, replicate-append-replicate}
use lib.Seq.{length-take-le}
use lib.Dec.{leb}
use borrow.Author.Tests.{leb-false}
use Rattle.codec.specs.Verdict.{Verdict, plain}
use Rattle.calls.specs.Keyed.{find, put, InOrder}
use Rattle.calls.specs.Machine.{step}
use Rattle.calls.specs.Runs.{stop, call}
use Rattle.calls.specs.Operations as theory
use Rattle.calls.specs.Operations.{post, receipt, release}
use Rattle.order.specs.Values.{Address, Key, by_key, by_address}
use Rattle.order.specs.Requests.{Mark, settle}
use Rattle.order.specs.Calls.{Call, Row, Rows, Receipt, written, reply, mark, marked as patched, rules, on_table}
use Rattle.order.proofs.Orders.{by-address, by-key}
use Rattle.cells.specs.Cells.{zeros, word_in, word_octets, inserted_at, removed_at, many_octets, Each}
use Rattle.record_octets.specs.Record.{address_octets}
use Rattle.table.specs.WellFormed.{well_formed}
use Rattle.table.specs.Zero.{no_recipient, no_row}
use Rattle.table.proofs.InOrder.{rows-in-order}
use Rattle.table_octets.specs.Table.{recipient_octets, row_octets, table_in, table_octets}
use Rattle.table_octets.specs.Image.{address_image, code_image, recipient_image, row_image, table_image, image_of}
use Rattle.arguments.specs.Arguments.{Arguments, call_of}
use Rattle.transitions.specs.Octets.{place_of, counted, within, codes_octets, marked, settled, received, done_on, octets_after}
use Rattle.transitions.specs.Transition.{Transition}
use Rattle.history.specs.History.{Run}
use Rattle.history.specs.Demand3.{IsImage, AllImages}
use Rattle.history.proofs.Runs.{rows_in, no_rows}
use Rattle.history.proofs.AtPlace.{place-within, put_in, held}
use Rattle.history.proofs.Filled.{each_at, filled, filled-long, filled-inserted, filled-removed, filled-changed, replaced-joined, within-joined, inserted-front, removed-front}
use Rattle.history.proofs.Fitting.{Fits, FitsAt, Fitting, address-long, head_octets, head-long, no-recipient, no-row, recipients-images, rows-images, see-fits, see-few}

-- ---- what a receipt changes: the codes of a recipient, and so a row

-- a recipient's codes stand behind its address
codes-behind : (a : List ℕ) (m : Mark) → a ++ word_octets (code_image m.machine) ++ word_octets (code_image m.acknowledge) ++ word_octets (code_image m.reply) ≡ a ++ (codes_octets m ++ [])
unfolding codes_octets
codes-behind a m =
    let x : List ℕ = word_octets (code_image m.machine) in
    let y : List ℕ = word_octets (code_image m.acknowledge) in
    let z : List ℕ = word_octets (code_image m.reply) in
    ap (λ (t : List ℕ). t ++ z) (append_assoc a x y) ∙ append_assoc a (x ++ y) z ∙ ap (λ (t : List ℕ). a ++ t) (sym (append-nil (x ++ y ++ z)))

marked-image : (w : Address) (old new : Mark) → Fits w → marked (some new) (recipient_octets (recipient_image (w, old))) ≡ recipient_octets (recipient_image (w, new))
unfolding marked recipient_octets recipient_image codes_octets word_octets
marked-image w old new h =
    let a : List ℕ = address_octets (address_image w) in
    ap (λ (t : List ℕ). within 80 12 (λ o. codes_octets new) t) (codes-behind a old)
    ∙ within-joined a (codes_octets old) [] (codes_octets new) 80 12 (λ o. codes_octets new) (address-long w h) refl refl
    ∙ sym (codes-behind a new)

settled-image : (k : Key) (r : Row) (p : Receipt) (old new : Mark) → Fitting (k, r) → find by_address p.0 r.1 ≡ some old
    → settled p r (some new) (row_octets (row_image (k, r))) ≡ row_octets (row_image (k, (r.0, mark p.0 (some new) r.1)))
unfolding settled row_octets row_image
settled-image k r p old new f e =
    let w : Address = p.0 in
    let l : List (Address × Mark) = r.1 in
    let at : ℕ = place_of by_address w l in
    let h = held by_address w by-address old l f.order e in
    let fits : Fits w = subst FitsAt (h.entry (w, old)) (each_at FitsAt l at (w, old) h.inside f.recipients) in
    filled-changed recipient_image no_recipient recipient_octets 92 no-recipient (head_octets (k, r)) (word_octets (length l)) 116 16 l at (w, old) (w, new) (marked (some new))
    (head-long (k, r) f) h.inside (h.entry (w, old)) (recipients-images l f.recipients) (marked-image w old new fits)
    ∙ ap (λ (n : ℕ). head_octets (k, r) ++ many_octets recipient_octets (filled recipient_image no_recipient 16 (set l at (w, new))) ++ word_octets n) (sym (length-set l at (w, new)))
    ∙ ap (λ (m : List (Address × Mark)). head_octets (k, r) ++ many_octets recipient_octets (filled recipient_image no_recipient 16 m) ++ word_octets (length m)) (sym (h.altered new))

-- ---- the rows of a table

-- the octets of its 32 cells; the count stands behind them
abbrev row_cells : Rows → List ℕ
row_cells s = many_octets row_octets (filled row_image no_row 32 s)

rows_long : (s : Rows) → length s ≤ 32 → Each Fitting s → length (row_cells s) ≡ 50944
rows_long s h g = filled-long row_image no_row row_octets 1592 no-row 32 s h (rows-images s g)

-- the count replaced
counted-joined : (n v : ℕ) (m : List ℕ) → length m ≡ 50944 → counted n (m ++ word_octets v) ≡ m ++ word_octets n
unfolding word_octets
counted-joined n v m l = replaced-joined m (word_octets v) [] (word_octets n) 50944 4 l refl

module _ (s : Rows) (few : length s ≤ 32) (fits : Each Fitting s) where
  lm : length (row_cells s) ≡ 50944
  lm = rows_long s few fits

  inserted-image : (at : ℕ) (x : Key × Row) → at ≤ length s → length s < 32 → Each Fitting (take at s ++ x ∷ drop at s)
      → counted (length s + 1) (inserted_at 1592 (length s) at (row_octets (row_image x)) (image_of s)) ≡ image_of (take at s ++ x ∷ drop at s)
  unfolding table_octets table_image
  inserted-image at x h room g =
      let m : Rows = take at s ++ x ∷ drop at s in
      let ld : length (drop at s) ≡ length s - at = length-drop at s in
      let lt : length (take at s) ≡ at = length-take-le at s h in
      let l : length m ≡ length (take at s) + suc (length (drop at s)) = length-append (take at s) (x ∷ drop at s) in
      let n : length s + 1 ≡ length m = omega arith in
      ap (counted (length s + 1)) (inserted-front 1592 (length s) at (row_octets (row_image x)) (row_cells s) (word_octets (length s)) (omega (arith, lm)) (omega (arith, lm)))
      ∙ ap (λ (t : List ℕ). counted (length s + 1) (t ++ word_octets (length s))) (filled-inserted row_image no_row row_octets 1592 no-row 32 s at x h room (rows-images s fits))
      ∙ counted-joined (length s + 1) (length s) (row_cells m) (rows_long m (omega arith) g)
      ∙ ap (λ (i : ℕ). row_cells m ++ word_octets i) n

  removed-image : (at : ℕ) → at < length s → Each Fitting (take at s ++ drop (at + 1) s) → counted (length s - 1) (removed_at 1592 (length s) at (image_of s)) ≡ image_of (take at s ++ drop (at + 1) s)
  unfolding table_octets table_image
  removed-image at h g =
      let m : Rows = take at s ++ drop (at + 1) s in
      let ld : length (drop (at + 1) s) ≡ length s - (at + 1) = length-drop (at + 1) s in
      let lt : length (take at s) ≡ at = length-take-le at s (omega arith) in
      let l : length m ≡ length (take at s) + length (drop (at + 1) s) = length-append (take at s) (drop (at + 1) s) in
      let n : length s - 1 ≡ length m = omega arith in
      ap (counted (length s - 1)) (removed-front 1592 (length s) at (row_cells s) (word_octets (length s)) (omega (arith, lm)) (omega (arith, lm)) (omega (arith, lm)))
      ∙ ap (λ (t : List ℕ). counted (length s - 1) (t ++ word_octets (length s))) (filled-removed row_image no_row row_octets 1592 no-row 32 s at h few (rows-images s fits))
      ∙ counted-joined (length s - 1) (length s) (row_cells m) (rows_long m (omega arith) g)
      ∙ ap (λ (i : ℕ). row_cells m ++ word_octets i) n

  changed-image : (at : ℕ) (x y : Key × Row) (f : List ℕ → List ℕ) → at < length s → get_or s at x ≡ x → f (row_octets (row_image x)) ≡ row_octets (row_image y) → within (at * 1592) 1592 f (image_of s) ≡ image_of (set s at y)
  unfolding table_octets table_image
  changed-image at x y f h e c =
      ap (λ (i : ℕ). within i 1592 f (row_cells s ++ word_octets (length s))) (sym (zero-add (at * 1592)))
      ∙ filled-changed row_image no_row row_octets 1592 no-row [] (word_octets (length s)) 0 32 s at x y f refl h e (rows-images s fits) c
      ∙ ap (λ (n : ℕ). row_cells (set s at y) ++ word_octets n) (sym (length-set s at y))

  -- ---- the calls, by what they find: s stands in order, and the rows behind a posting or a release fit too

  module _ (order : InOrder by_key s) (k : Key) where
    post-image : (r : Row) (o : Option Row) → find by_key k s ≡ o → (b : Bool) → leb 32 (length s) ≡ b → (theory.entered rules r o (cond b (some (plain 23)) none)).0.number ≡ 0
        → Each Fitting (put by_key k (theory.entered rules r o (cond b (some (plain 23)) none)).2 s) → done_on (inr (post k r)) s (image_of s) ≡ image_of (put by_key k (theory.entered rules r o (cond b (some (plain 23)) none)).2 s)
    unfolding done_on
    post-image r (some x) e b f z g = absurd (omega (arith, z))
    post-image r none e true f z g = absurd (omega (arith, z))
    post-image r none e false f z g =
        let at : ℕ = place_of by_key k s in
        let p : put by_key k (some r) s ≡ take at s ++ (k, r) ∷ drop at s = put_in by_key k r s e in
        inserted-image at (k, r) (place-within by_key k s) (leb-false 32 (length s) f) (subst (Each Fitting) p g) ∙ ap image_of (sym p)

    release-image : (o : Option Row) → find by_key k s ≡ o → (theory.released rules o).0.number ≡ 0 → Each Fitting (put by_key k (theory.released rules o).2 s)
        → done_on (inr (release k)) s (image_of s) ≡ image_of (put by_key k (theory.released rules o).2 s)
    unfolding done_on
    release-image none e z g = absurd (omega (arith, z))
    release-image (some r) e z g =
        let h = held by_key k by-key r s order e in
        removed-image (place_of by_key k s) h.inside (subst (Each Fitting) h.removed g) ∙ ap image_of (sym h.removed)

    module _ (p : Receipt) where
      -- where the row has the answerer
      written-image : (r : Row) → find by_key k s ≡ some r → (old : Mark) → find by_address p.0 r.1 ≡ some old → (n : Option Mark) → (theory.patched rules r (patched p.0 r (written n))).0.number ≡ 0
          → within (place_of by_key k s * 1592) 1592 (settled p r (written n).1) (image_of s) ≡ image_of (put by_key k (theory.patched rules r (patched p.0 r (written n))).2 s)
      written-image r e old f none z = absurd (omega (arith, z))
      written-image r e old f (some new) z =
          let h = held by_key k by-key r s order e in
          let x : Key × Row = (k, r) in
          let fit : Fitting x = subst Fitting (h.entry x) (each_at Fitting s (place_of by_key k s) x h.inside fits) in
          changed-image (place_of by_key k s) x (k, (r.0, mark p.0 (some new) r.1)) (settled p r (some new)) h.inside (h.entry x) (settled-image k r p old new fit f)
          ∙ ap image_of (sym (h.changed (r.0, mark p.0 (some new) r.1)))

      replied-image : (r : Row) → find by_key k s ≡ some r → (o : Option Mark) → find by_address p.0 r.1 ≡ o → (theory.patched rules r (patched p.0 r (reply r.0 p.1 o))).0.number ≡ 0
          → within (place_of by_key k s * 1592) 1592 (settled p r (reply r.0 p.1 o).1) (image_of s) ≡ image_of (put by_key k (theory.patched rules r (patched p.0 r (reply r.0 p.1 o))).2 s)
      replied-image r e none f z = absurd (omega (arith, z))
      replied-image r e (some m) f z = written-image r e m f (settle r.0 p.1 m) z

      receipt-image : (o : Option Row) → find by_key k s ≡ o → (theory.received rules p o).0.number ≡ 0 → done_on (inr (receipt k p)) s (image_of s) ≡ image_of (put by_key k (theory.received rules p o).2 s)
      unfolding done_on received
      receipt-image none e z = absurd (omega (arith, z))
      receipt-image (some r) e z = rw e (replied-image r e (find by_address p.0 r.1) refl z)

  -- a call that is done
  done-image : InOrder by_key s → (c : Call) → (on_table c s).0.number ≡ 0 → Each Fitting (on_table c s).1 → done_on c s (image_of s) ≡ image_of (on_table c s).1
  unfolding on_table theory.on_table step done_on
  done-image order (inl n) z g = refl
  done-image order (inr (post k r)) z g = post-image order k r (find by_key k s) refl (leb 32 (length s)) refl z g
  done-image order (inr (receipt k p)) z g = receipt-image order k p (find by_key k s) refl z
  done-image order (inr (release k)) z g = release-image order k (find by_key k s) refl z g

-- ---- octets

-- the table that a call leaves of an image
pub next-image : (c : Call) (t t' : List ℕ) (v : Verdict) → Transition c t v t' → well_formed (table_in t) ≡ true → IsImage t → IsImage t'
unfolding octets_after
next-image c t t' v d w i = go v.number refl d.octets
  where
    go : (n : ℕ) → v.number ≡ n → t' ≡ octets_after c n t → IsImage t'
    go (suc n) e o = subst IsImage (sym o) i
    go zero e o =
        let s : Rows = rows_in t in
        let rows : rows_in t' ≡ (on_table c s).1 = d.rows ∙ rw w in
        let z : v ≡ (on_table c s).0 = d.answer ∙ rw w in
        let g : Each Fitting (on_table c s).1 = subst (Each Fitting) rows (see-fits (table_in t') (d.well ∙ w)) in
        o ∙ ap (done_on c s) i ∙ done-image s (see-few (table_in t) w) (see-fits (table_in t) w) (rows-in-order (table_in t) w) c (ap (λ (u : Verdict). u.number) (sym z) ∙ e) g ∙ ap image_of (sym rows)

-- ---- the octets before the first posting

drop-zeros : (n m : ℕ) → drop n (zeros (n + m)) ≡ zeros m
drop-zeros zero m = ap zeros (zero-add m)
drop-zeros (suc n) m = ap (λ (k : ℕ). drop (suc n) (zeros k)) (suc-add n m) ∙ drop-zeros n m

-- cells that nothing uses
free-rows : (k : ℕ) → many_octets row_octets (replicate k no_row) ≡ zeros (k * 1592)
unfolding many_octets
free-rows zero = refl
free-rows (suc k) =
    let e : 1592 + k * 1592 ≡ suc k * 1592 = omega arith in
    (λ i. no-row i ++ free-rows k i) ∙ replicate-append-replicate 1592 (k * 1592) 0 ∙ ap zeros e

module _ (n : ℕ) (e : n ≡ 50944 + 4) where
  pub zeros-count : (table_in (zeros n)).count ≡ 0
  unfolding table_in word_in
  zeros-count = ap (λ (k : ℕ). word_in (take 4 (drop 50944 (zeros k)))) e ∙ ap (λ (t : List ℕ). word_in (take 4 t)) (drop-zeros 50944 4)

  no-rows-image : image_of [] ≡ zeros n
  unfolding table_octets table_image word_octets
  no-rows-image =
      ap (λ (t : List ℕ). t ++ word_octets 0) (free-rows 32) ∙ replicate-append-replicate (32 * 1592) 4 0 ∙ ap zeros (sym e)

  pub zeros-image : IsImage (zeros n)
  zeros-image = sym no-rows-image ∙ ap image_of (sym (no_rows (table_in (zeros n)) zeros-count))

-- ---- a run from an image

pub run-images : {t e : List ℕ} {cs : List Arguments} {xs : List Verdict} {ts : List (List ℕ)} → Run t cs xs ts e → well_formed (table_in t) ≡ true → IsImage t → AllImages ts × IsImage e
run-images stop w i = ((i, tt), i)
run-images (call {t = t} {t' = t'} {c = c} {x = x} d r) w i =
    let k = run-images r (d.well ∙ w) (next-image (call_of c) t t' x d w i) in
    ((i, k.0), k.1)
