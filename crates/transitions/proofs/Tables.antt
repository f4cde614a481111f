-- The octets of a table behind a call, from what the code has found: the place of the key, the answer, and what a row says. Assumes nothing.
use Prim.Native.Nat.{ℕ, zero, suc, ◌+◌, ◌-◌, ◌*◌, ◌<◌, ◌≤◌}
use mathlib.Core.Path.{◌≡◌, refl, ap, sym, subst, ◌∙◌}
use mathlib.Core.Bool.{true, false, not, false≢true}
use mathlib.Core.List.{List, [], ◌∷◌, ◌++◌, map}
use mathlib.Core.Logic.{inr}
use mathlib.Core.Option.{some}
use lib.ListN.{length, take, drop, get_or}
use lib.Dec.{leb, eqb}
use borrow.Author.Tests.{eq-eqb, ne_eqb}
use native.Mathlib.Omega.{arith}
use Rattle.codec.specs.Answer.{pick}
use Rattle.codec.specs.Verdict.{Verdict, plain, first_of}
use Rattle.codec.proofs.Verdicts.{first_fine}
use Rattle.header.specs.Table.{addresses}
use Rattle.header.specs.declared.Address.{Address as DeclaredAddress}
use Rattle.header.specs.declared.Addresses.{Addresses}
use Rattle.header.specs.declared.Requests.{Requests}
use Rattle.calls.specs.Keyed.{find}
use Rattle.calls.specs.Operations.{post, receipt, release}
use Rattle.order.specs.Values.{Address, address_of, key_of, by_key, key_fault}
use Rattle.order.specs.Requests.{any_of, ask_of}
use Rattle.order.specs.Calls.{Row as Cells, Call, Operation, make, replied}
use Rattle.order.specs.declared.Key.{Key as DeclaredKey}
use Rattle.cells.specs.Cells.{part, replaced, many, inserted_at, removed_at}
use Rattle.cells.proofs.Lists.{many-at}
use Rattle.cells.proofs.Replaced.{part_length}
use Rattle.cells.proofs.Inserted.{inserted-long, removed-long, used-inserted, used-removed}
use Rattle.table.specs.Rows.{see, row_of, used_rows}
use Rattle.table.specs.Search.{Position, index_of, is_held, Placed}
use Rattle.table.specs.WellFormed.{row_fine, well_formed}
use Rattle.table.specs.declared.Row.{Row}
use Rattle.table.specs.declared.Table.{Table}
use Rattle.table.proofs.Parts.{row_at, fine-table}
use Rattle.table.proofs.Search.{length-see, row-held}
use Rattle.table_octets.specs.Table.{row_in, row_octets, table_in}
use Rattle.table_octets.specs.Typed.{TypedRow}
use Rattle.table_octets.specs.Image.{key_image, row_image}
use Rattle.table_octets.proofs.Back.{row-long, row-back}
use Rattle.arguments.specs.Arguments.{named}
use Rattle.transitions.specs.Octets.{place_of, counted, settled, received, done_on, octets_after}
use Rattle.transitions.specs.Transition.{Transition}
use Rattle.transitions.proofs.OnValues.{OnValues}
use Rattle.transitions.proofs.Outcomes.{passed, first-refused}
use Rattle.transitions.proofs.Standing.{place_is}
use Rattle.transitions.proofs.Receipts.{receipt-there, receipt-early, receipt-acts}
use Rattle.transitions.proofs.Replaced.{table-replaced, rows_are, rows-32, counted-count, counted-rows}
use Rattle.transitions.proofs.Receiving.{no-marks, kept, put_back}
use Rattle.transitions.proofs.NewRow.{made-key, made-asked, made-few, made-recipients, made-fine}
use Rattle.transitions.proofs.Ways.{release-room, release-acts, post-room, post-acts}

transition : (c : Call) (s s' : List ℕ) (x : Verdict) → OnValues c (table_in s) x (table_in s') → s' ≡ octets_after c x.number s → Transition c s x s'
transition c s s' x v e = record { answer = v.answer; rows = v.rows; well = v.well; octets = e }

-- a refusal
stays : (c : Call) (s : List ℕ) (x : ℕ) → eqb x 0 ≡ false → s ≡ octets_after c x s
unfolding octets_after
stays c s zero e = absurd (false≢true (sym e ∙ eq-eqb 0 0 refl))
stays c s (suc x) e = refl

pub refused : (c : Call) (s : List ℕ) (x : Verdict) → OnValues c (table_in s) x (table_in s) → eqb x.number 0 ≡ false → Transition c s x s
refused c s x v e = transition c s s x v (stays c s x.number e)

-- done, as the octets say
by-octets : (d : Operation) (f : Verdict) (x : ℕ) (s s' : List ℕ) → f.number ≡ 0 → x ≡ 0 → s' ≡ done_on (inr d) (see (table_in s)) s → s' ≡ octets_after (named f d) x s
unfolding octets_after
by-octets d f x s s' e z is = rw (e, z) is

used-rows : (s : List ℕ) → used_rows (table_in s) ≡ take (table_in s).count (many row_in 1592 32 s)
used-rows s = ap (take (table_in s).count) (rows_are s)

module _ (s : List ℕ) (l : length s ≡ 50948) where
  abbrev t : Table
  t = table_in s

  -- refused before a row is asked
  pub early : (d : Operation) (f x : Verdict) → x ≡ pick (well_formed t) f (plain 30) → 0 < x.number → Transition (named f d) s x s
  early d f x e n =
      refused _ s x
      (subst (λ (v : Verdict). OnValues (named f d) t v t) (sym e) (first-refused d t f (subst (λ (v : Verdict). 0 < v.number) e n)))
      (ne_eqb x.number 0 (λ q. omega (arith, n, q)))

  module _ (k : DeclaredKey) (p : Position) (placed : well_formed t ≡ true → Placed t k p) where
    -- the place that the code found
    there : well_formed t ≡ true → index_of p ≡ place_of by_key (key_of k) (see t)
    unfolding see
    there w = place_is row_of (key_of k) (used_rows t) (index_of p) (is_held p) (placed w).2

    held : well_formed t ≡ true → t.count ≡ length (see t)
    held w = sym (length-see t (omega (arith, rows-32 s, (fine-table t w).fits)))

    -- ---- release

    released-is : well_formed t ≡ true → counted (t.count - 1) (removed_at 1592 t.count (index_of p) s) ≡ done_on (inr (release (key_of k))) (see t) s
    unfolding done_on
    released-is w = λ i. counted (held w i - 1) (removed_at 1592 (held w i) (there w i) s)

    module _ (f x : Verdict) (e : x ≡ first_of (pick (well_formed t) f (plain 30)) (plain (pick (not (is_held p)) 26 0))) where
      pub release-refused : eqb x.number 0 ≡ false → Transition (named f (release (key_of k))) s x s
      release-refused n = refused _ s x (release-acts t (rows-32 s) k f p placed x t e (λ z. refl) (λ z. absurd (false≢true (sym n ∙ z)))) n

      pub release-there : x.number ≡ 0 → (index_of p < t.count) × (t.count ≤ 32)
      release-there z = release-room t (rows-32 s) k f p placed x e z

      pub release-changed : x.number ≡ 0 → Transition (named f (release (key_of k))) s x (counted (t.count - 1) (removed_at 1592 t.count (index_of p) s))
      release-changed z =
          let q = release-there z in
          let n : ℕ = t.count in
          let u : List ℕ = removed_at 1592 n (index_of p) s in
          let ul : length u ≡ 50948 = removed-long 1592 n (index_of p) s q.0 (omega (arith, q.1, l)) ∙ l in
          let c : (table_in (counted (n - 1) u)).count ≡ n - 1 = counted-count (n - 1) u ul (omega (arith, q.1)) in
          let rows : used_rows (table_in (counted (n - 1) u)) ≡ take (index_of p) (used_rows t) ++ drop (index_of p + 1) (used_rows t) =
          (λ i. take (c i) (counted-rows (n - 1) u ul i))
          ∙ used-removed row_in 1592 32 n (index_of p) s q.0 q.1 (omega (arith, l))
          ∙ ap (λ (v : List Row). take (index_of p) v ++ drop (index_of p + 1) v) (sym (used-rows s)) in
          let w = passed (well_formed t) f (first_fine _ _ (ap (λ (v : Verdict). v.number) (sym e) ∙ z)).0 in
          transition _ s (counted (n - 1) u) x
          (release-acts t (rows-32 s) k f p placed x (table_in (counted (n - 1) u)) e (λ y. absurd (false≢true (sym y ∙ eq-eqb x.number 0 z))) (λ y. (omega (arith, c, q.0), rows)))
          (by-octets (release (key_of k)) f x.number s (counted (n - 1) u) w.1 z (released-is w.0))

    -- ---- receipt

    module _ (from : DeclaredAddress) (code : ℕ) (f told : Verdict) (e : told ≡ first_of (pick (well_formed t) f (plain 30)) (plain (pick (not (is_held p)) 26 0))) where
      abbrev w : Address
      w = address_of from

      pub receipt-refused : eqb told.number 0 ≡ false → Transition (named f (receipt (key_of k) (w, code))) s told s
      receipt-refused n = refused _ s told (receipt-early t (rows-32 s) k f p placed w code told e n) n

      module _ (z : told.number ≡ 0) where
        pub receipt-inside : index_of p < 32
        receipt-inside = let q = receipt-there t (rows-32 s) k f p placed w code told e z in omega (arith, q.2, q.3)

        pub receipt-argued : f.number ≡ 0
        receipt-argued = (receipt-there t (rows-32 s) k f p placed w code told e z).1

        abbrev x : List ℕ
        x = part (index_of p * 1592) 1592 s

        x-long : length x ≡ 1592
        x-long = part_length (index_of p * 1592) 1592 s (omega (arith, receipt-inside, l))

        here : get_or t.rows (index_of p) (row_in []) ≡ row_in x
        here = ap (λ (m : List Row). get_or m (index_of p) (row_in [])) (rows_are s) ∙ many-at row_in 1592 32 (index_of p) s (row_in []) receipt-inside

        pub receipt-row-fine : row_fine (row_in x) ≡ true
        receipt-row-fine =
            let q = receipt-there t (rows-32 s) k f p placed w code told e z in
            ap row_fine (sym here) ∙ row_at t (index_of p) (row_in []) q.0 (omega (arith, q.3, rows-32 s)) q.2

        -- the row's octets behind it
        abbrev y : List ℕ
        y = settled (w, code) (row_of (row_in x)).1 (replied w code (row_of (row_in x)).1).1 x

        -- a row that refuses it stays, and so does the table
        row_stays : ((replied w code (row_of (row_in x)).1).0 ≡ 0 → ⊥) → y ≡ x
        unfolding settled
        row_stays n = rw (no-marks w code (row_of (row_in x)).1 n)

        received_is : replaced (index_of p * 1592) 1592 s y ≡ done_on (inr (receipt (key_of k) (w, code))) (see t) s
        unfolding done_on received
        received_is =
            let q = receipt-there t (rows-32 s) k f p placed w code told e z in
            let g : find by_key (key_of k) (see t) ≡ some (row_of (row_in x)).1 = row-held t (key_of k) (index_of p) (row_in []) q.4 ∙ ap (λ (r : Row). some (row_of r).1) here in
            ap (λ (o : _). received (index_of p) (w, code) o s) (sym g) ∙ ap (λ (j : ℕ). received j (w, code) (find by_key (key_of k) (see t)) s) (there q.0)

        pub receipt-changed : (n : ℕ) → n ≡ (replied w code (row_of (row_in x)).1).0 → Transition (named f (receipt (key_of k) (w, code))) s (plain n) (replaced (index_of p * 1592) 1592 s y)
        receipt-changed n r =
            let K = kept x x-long receipt-row-fine from code in
            let same : (n ≡ 0 → ⊥) → y ≡ x = λ j. row_stays (λ i. j (r ∙ i)) in
            transition _ s (replaced (index_of p * 1592) 1592 s y) (plain n)
            (subst (λ (u : Table). OnValues (named f (receipt (key_of k) (w, code))) t (plain n) u) (sym (table-replaced (index_of p) s y receipt-inside l K.long))
            (receipt-acts t (rows-32 s) k f p placed w code told e z (row_in []) (row_in y) n (rw here r) (rw here K.key) (rw here K.after) K.fine (λ j. ap row_in (same j) ∙ sym here)))
            (by n same)
          where
            by : (n : ℕ) → ((n ≡ 0 → ⊥) → y ≡ x) → replaced (index_of p * 1592) 1592 s y ≡ octets_after (named f (receipt (key_of k) (w, code))) n s
            by zero same = by-octets (receipt (key_of k) (w, code)) f 0 s (replaced (index_of p * 1592) 1592 s y) receipt-argued refl received_is
            by (suc n) same =
                ap (replaced (index_of p * 1592) 1592 s) (same (λ i. omega (arith, i))) ∙ put_back (index_of p * 1592) 1592 s
                ∙ stays (named f (receipt (key_of k) (w, code))) s (suc n) (ne_eqb (suc n) 0 (λ i. omega (arith, i)))

        -- m octets were lent
        pub receipt-left : (m : ℕ) → m ≡ 1592 → (v : Verdict) (u : List ℕ) → v ≡ plain (replied w code (row_of (row_in (take m (drop (index_of p * 1592) s)))).1).0
            → u ≡ settled (w, code) (row_of (row_in (take m (drop (index_of p * 1592) s)))).1 (replied w code (row_of (row_in (take m (drop (index_of p * 1592) s)))).1).1 (take m (drop (index_of p * 1592) s))
            → Transition (named f (receipt (key_of k) (w, code))) s v (replaced (index_of p * 1592) m s u)
        receipt-left m i v u r q =
            let g : u ≡ y = q ∙ ap (λ (j : ℕ). settled (w, code) (row_of (row_in (take j (drop (index_of p * 1592) s)))).1 (replied w code (row_of (row_in (take j (drop (index_of p * 1592) s)))).1).1 (take j (drop (index_of p * 1592) s))) i in
            subst (λ (z : List ℕ). Transition (named f (receipt (key_of k) (w, code))) s v z) (sym (ap (λ (j : ℕ). replaced (index_of p * 1592) j s u) i ∙ ap (replaced (index_of p * 1592) 1592 s) g))
            (subst (λ (o : Verdict). Transition (named f (receipt (key_of k) (w, code))) s o (replaced (index_of p * 1592) 1592 s y)) (sym r)
            (receipt-changed (replied w code (row_of (row_in (take m (drop (index_of p * 1592) s)))).1).0 (ap (λ (j : ℕ). (replied w code (row_of (row_in (take j (drop (index_of p * 1592) s)))).1).0) i)))

    -- ---- posting

    module _ (a : Requests) (to : Addresses) (f : Verdict) (legal : f.number ≡ 0 → (key_fault k ≡ 0) × (any_of (ask_of a) ≡ true) × ((addresses 15).check to ≡ 0)) (x : Verdict) (e : x ≡ first_of (first_of (pick (well_formed t) f (plain 30)) (plain (pick (is_held p) 22 0))) (plain (pick (leb 32 t.count) 23 0))) where
      abbrev new : Cells
      new = make (ask_of a) (map address_of (take to.count to.list))

      pub post-refused : eqb x.number 0 ≡ false → Transition (named f (post (key_of k) new)) s x s
      post-refused n = refused _ s x (post-acts t (rows-32 s) k f p placed a to legal x e t (λ z. refl) (row_in []) (λ z. absurd (false≢true (sym n ∙ z))) (λ z. absurd (false≢true (sym n ∙ z)))) n

      pub post-there : x.number ≡ 0 → ((addresses 15).check to ≡ 0) × (index_of p ≤ t.count) × (t.count < 32)
      post-there z = post-room t (rows-32 s) k f p placed a to legal x e z

      posted-is : well_formed t ≡ true → counted (t.count + 1) (inserted_at 1592 t.count (index_of p) (row_octets (row_image (key_of k, new))) s) ≡ done_on (inr (post (key_of k) new)) (see t) s
      unfolding done_on
      posted-is w = λ i. counted (held w i + 1) (inserted_at 1592 (held w i) (there w i) (row_octets (row_image (key_of k, new))) s)

      pub post-changed : x.number ≡ 0 → key_image (key_of k) ≡ k → TypedRow (row_image (key_of k, new)) → Transition (named f (post (key_of k) new)) s x (counted (t.count + 1) (inserted_at 1592 t.count (index_of p) (row_octets (row_image (key_of k, new))) s))
      post-changed z clean typed =
          let q = post-there z in
          let n : ℕ = t.count in
          let o : List ℕ = row_octets (row_image (key_of k, new)) in
          let ol : length o ≡ 1592 = row-long (row_image (key_of k, new)) typed in
          let u : List ℕ = inserted_at 1592 n (index_of p) o s in
          let ul : length u ≡ 50948 = inserted-long 1592 n (index_of p) o s q.1 (omega (arith, q.2, l)) ol ∙ l in
          let c : (table_in (counted (n + 1) u)).count ≡ n + 1 = counted-count (n + 1) u ul (omega (arith, q.2)) in
          let rows : used_rows (table_in (counted (n + 1) u)) ≡ take (index_of p) (used_rows t) ++ row_image (key_of k, new) ∷ drop (index_of p) (used_rows t) =
          (λ i. take (c i) (counted-rows (n + 1) u ul i))
          ∙ used-inserted row_in 1592 32 n (index_of p) o s q.1 q.2 (omega (arith, l)) ol
          ∙ (λ i. take (index_of p) (sym (used-rows s) i) ++ row-back (row_image (key_of k, new)) typed i ∷ drop (index_of p) (sym (used-rows s) i)) in
          let b = first_fine _ _ (ap (λ (v : Verdict). v.number) (sym e) ∙ z) in
          let w = passed (well_formed t) f (first_fine _ _ b.0).0 in
          let g = q.0 in
          transition _ s (counted (n + 1) u) x
          (post-acts t (rows-32 s) k f p placed a to legal x e (table_in (counted (n + 1) u)) (λ y. absurd (false≢true (sym y ∙ eq-eqb x.number 0 z))) (row_image (key_of k, new))
          (λ y. (made-key k a to g clean, made-asked k a to g, made-few k a to g, made-recipients k a to g, made-fine k a to g)) (λ y. (c, rows)))
          (by-octets (post (key_of k) new) f x.number s (counted (n + 1) u) w.1 z (posted-is w.0))
