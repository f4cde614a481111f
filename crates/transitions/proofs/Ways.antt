-- Posting and release, way by way: what the code has found out gives what the operation promises. Assumes nothing.
use Prim.Native.Nat.{ℕ, ◌+◌, ◌<◌, ◌≤◌}
use mathlib.Core.Path.{◌≡◌, refl, ap, sym, ◌∙◌, subst}
use mathlib.Core.Bool.{Bool, true, false, not, ◌||◌}
use mathlib.Core.List.{List, ◌∷◌, ◌++◌, map, map-map}
use mathlib.Core.Logic.{inr}
use mathlib.Core.Option.{some}
use lib.ListN.{length, take, drop}
use lib.Dec.{leb, eqb, lit<}
use borrow.Author.Tests.{le-leb, lt-leb, leb-true, leb-false, eq-eqb, ne_eqb}
use native.Mathlib.Omega.{arith}
use Rattle.codec.specs.Answer.{pick}
use Rattle.codec.specs.Codec.{viewed}
use Rattle.codec.specs.Verdict.{Verdict, plain, fine, first_of}
use Rattle.codec.proofs.Verdicts.{first_some, first_fine}
use Rattle.codec.proofs.ListEnds.{count_most}
use Rattle.header.specs.Rules.{all}
use Rattle.header.specs.Table as Table
use Rattle.header.specs.Table.{addresses}
use Rattle.header.specs.Zero.{no_address}
use Rattle.header.specs.declared.Address.{Address}
use Rattle.header.specs.declared.Requests.{Requests}
use Rattle.header.specs.declared.Addresses.{Addresses}
use Rattle.order.specs.Values.{address_of, key_of, by_address, by_key, key_fault}
use Rattle.calls.specs.Keyed.{put, sort}
use Rattle.order.specs.Requests.{any_of, blank, ask_of}
use Rattle.calls.specs.Operations.{post, release}
use Rattle.order.specs.Calls.{Operation, make}
use Rattle.order.specs.declared.Key.{Key as DeclaredKey}
use Rattle.table.specs.Rows.{see, recipient_of, used_rows, used_recipients}
use Rattle.table.specs.Search.{Stopped, keys_of, Position, index_of, is_held, Placed}
use Rattle.table.specs.Zero.{no_row}
use Rattle.table.specs.WellFormed.{well_formed, row_fine, recipient_fine}
use Rattle.table.specs.declared.Row.{Row}
use Rattle.table.specs.declared.Table.{Table}
use Rattle.table.proofs.Parts.{fine-table}
use Rattle.table.proofs.Search.{row-held, row-free, length-see}
use Rattle.table.proofs.Moves.{see-inserted, see-removed}
use Rattle.table.proofs.Kept.{inserted-well-formed, removed-well-formed}
use Rattle.arguments.specs.Arguments.{named}
use Rattle.transitions.proofs.OnValues.{OnValues}
use Rattle.transitions.proofs.Marks.{new-row-fine, new-row-some, some-used}
use Rattle.transitions.proofs.Outcomes.{values-refused, values-done, values-kept, passed, acts, release-missing, release-held, post_held, post-full, post-done}

pub held-there : (h : Bool) (n : ℕ) → 0 < n → pick (not h) n 0 ≡ 0 → h ≡ true
held-there true n l e = refl
held-there false n l e = absurd (omega (arith, l, e))

-- ---- release

module _ (t : Table) (cells : length t.rows ≡ 32) (w : well_formed t ≡ true) (k : DeclaredKey) where
  pub release-none : (at : ℕ) → Stopped by_key (key_of k) (keys_of t) at false → OnValues (inr (release (key_of k))) t (plain 26) t
  release-none at s = values-refused (release (key_of k)) t w 26 (lit< tt) (release-missing (key_of k) (see t) (row-free t (key_of k) at w s))

  pub release-done : (at : ℕ) (t' : Table) (d : Row) → Stopped by_key (key_of k) (keys_of t) at true → t'.count + 1 ≡ t.count → used_rows t' ≡ take at (used_rows t) ++ drop (at + 1) (used_rows t) → OnValues (inr (release (key_of k))) t fine t'
  release-done at t' d s n u =
      let h = release-held (key_of k) (see t) _ (row-held t (key_of k) at d s) in
      values-done (release (key_of k)) t t' w h.0 (see-removed t t' at (key_of k) s u ∙ h.1) (removed-well-formed t t' at w (key_of k) s n u)

-- ---- posting

module _ (t : Table) (cells : length t.rows ≡ 32) (w : well_formed t ≡ true) (k : DeclaredKey) (a : Requests) (to : Addresses) where
  abbrev here : List Address
  here = take to.count to.list

  abbrev posted : Operation
  posted = post (key_of k) (make (ask_of a) (map address_of here))

  pub post-twice : (at : ℕ) (d : Row) → Stopped by_key (key_of k) (keys_of t) at true → OnValues (inr posted) t (plain 22) t
  post-twice at d s = values-refused posted t w 22 (lit< tt) (post_held (key_of k) (see t) _ _ (row-held t (key_of k) at d s))

  module _ (at : ℕ) (s : Stopped by_key (key_of k) (keys_of t) at false) (within : t.count ≤ 32) where
    held : length (see t) ≡ t.count
    held = length-see t (omega (arith, cells))

    pub post-over : 32 ≤ t.count → OnValues (inr posted) t (plain 23) t
    post-over l = values-refused posted t w 23 (lit< tt) (post-full (key_of k) (see t) _ (row-free t (key_of k) at w s) (le-leb 32 (length (see t)) (omega (arith, held))))

    pub post-new : (row : Row) (t' : Table) → t.count < 32 → row.key ≡ k → row.asked ≡ a → map recipient_of (used_recipients row) ≡ sort by_address (map (λ x. (address_of x, blank)) here) → row_fine row ≡ true →
        t'.count ≡ t.count + 1 → used_rows t' ≡ take at (used_rows t) ++ row ∷ drop at (used_rows t) → OnValues (inr posted) t fine t'
    unfolding make
    post-new row t' l is ask sorted good n u =
        let p : Stopped by_key (key_of row.key) (keys_of t) at false = rw is s in
        let e = post-done (key_of k) (see t) (make (ask_of a) (map address_of here)) (row-free t (key_of k) at w s) (lt-leb 32 (length (see t)) (omega (arith, held))) in
        let z : map recipient_of (used_recipients row) ≡ sort by_address (map (λ r. (r, blank)) (map address_of here)) = sorted ∙ ap (sort by_address) (sym (map-map (λ r. (r, blank)) address_of here)) in
        let v : see t' ≡ put by_key (key_of k) (some (make (ask_of a) (map address_of here))) (see t) =
        see-inserted t t' at row p u ∙ λ i. put by_key (key_of (is i)) (some (ask_of (ask i), z i)) (see t) in
        values-done posted t t' w e.0 (v ∙ e.1) (inserted-well-formed t t' at w row good p l n u)

  -- the new row is a fine row
  pub post-row : key_fault k ≡ 0 → any_of (ask_of a) ≡ true → (addresses 15).check to ≡ 0 → (row : Row) → row.key ≡ k → row.asked ≡ a → row.count ≤ to.count →
      map recipient_of (used_recipients row) ≡ sort by_address (map (λ x. (address_of x, blank)) here) → all (recipient_fine a) (used_recipients row) ≡ true → row_fine row ≡ true
  unfolding addresses viewed ask_of
  post-row fine any legal row is ask few sorted good =
      let m = count_most no_address Table.address 16 15 to.list to.count legal in
      new-row-fine row _ (ap key_fault is ∙ fine)
      (ap (λ (q : Requests). q.machine || q.acknowledge || q.reply) ask ∙ any)
      (new-row-some row _ _ (sorted ∙ ap (λ (u : List Address). sort by_address (map (λ x. (address_of x, blank)) u)) (some-used to legal)))
      (omega (arith, m))
      (ap (λ (q : Requests). all (recipient_fine q) (used_recipients row)) ask ∙ good)
      sorted

-- ---- the whole calls, from what the code has found: the place of the key, and the answer

module _ (t : Table) (cells : length t.rows ≡ 32) (k : DeclaredKey) (f : Verdict) (p : Position) (placed : well_formed t ≡ true → Placed t k p) where
  at_place : well_formed t ≡ true → (h : Bool) → is_held p ≡ h → Stopped by_key (key_of k) (keys_of t) (index_of p) h
  at_place w h e = subst (Stopped by_key (key_of k) (keys_of t) (index_of p)) e (placed w).2

  -- an operation that has a place has it in a table with at most 32 rows
  few : well_formed t ≡ true → t.count ≤ 32
  few w = (fine-table t w).fits

  pub release-room : (x : Verdict) → x ≡ first_of (pick (well_formed t) f (plain 30)) (plain (pick (not (is_held p)) 26 0)) → x.number ≡ 0 → (index_of p < t.count) × (t.count ≤ 32)
  release-room x e z =
      let a = first_fine _ _ (ap (λ (v : Verdict). v.number) (sym e) ∙ z) in
      let w = (passed (well_formed t) f a.0).0 in
      ((placed w).1 (held-there (is_held p) 26 (lit< tt) a.1), few w)

  pub release-acts : (x : Verdict) (t' : Table) → x ≡ first_of (pick (well_formed t) f (plain 30)) (plain (pick (not (is_held p)) 26 0)) → (eqb x.number 0 ≡ false → t' ≡ t) →
      (eqb x.number 0 ≡ true → (t'.count + 1 ≡ t.count) × (used_rows t' ≡ take (index_of p) (used_rows t) ++ drop (index_of p + 1) (used_rows t))) → OnValues (named f (release (key_of k))) t x t'
  unfolding first_of
  release-acts x t' e kept changed = acts (release (key_of k)) t f x t' (λ l. e ∙ first_some _ _ l) kept (λ w z. by w z (is_held p) refl)
    where
      by : well_formed t ≡ true → f.number ≡ 0 → (h : Bool) → is_held p ≡ h → OnValues (inr (release (key_of k))) t x t'
      by w z true h =
          let n : x ≡ fine = e ∙ rw (w, z, h) in
          let u = changed (eq-eqb x.number 0 (ap (λ (v : Verdict). v.number) n)) in
          subst (λ (m : Verdict). OnValues (inr (release (key_of k))) t m t') (sym n) (release-done t cells w k (index_of p) t' no_row (at_place w true h) u.0 u.1)
      by w z false h =
          let n : x ≡ plain 26 = e ∙ rw (w, z, h) in
          values-kept _ t t' (plain 26) x n (kept (ne_eqb x.number 0 (λ q. omega (arith, ap (λ (v : Verdict). v.number) n, q)))) (release-none t cells w k (index_of p) (at_place w false h))

  module _ (a : Requests) (to : Addresses) (legal : f.number ≡ 0 → (key_fault k ≡ 0) × (any_of (ask_of a) ≡ true) × ((addresses 15).check to ≡ 0)) (x : Verdict) (e : x ≡ first_of (first_of (pick (well_formed t) f (plain 30)) (plain (pick (is_held p) 22 0))) (plain (pick (leb 32 t.count) 23 0))) where
    -- where it is done: the arguments are fine, the key is free and so is a line
    pub post-room : x.number ≡ 0 → ((addresses 15).check to ≡ 0) × (index_of p ≤ t.count) × (t.count < 32)
    post-room z =
        let b = first_fine _ _ (ap (λ (v : Verdict). v.number) (sym e) ∙ z) in
        let c = first_fine _ _ b.0 in
        let q = passed (well_formed t) f c.0 in
        ((legal q.1).2, (placed q.0).0, line-free (leb 32 t.count) refl b.1)
      where
        line-free : (l : Bool) → leb 32 t.count ≡ l → ◌≡◌ {A = ℕ} (pick l 23 0) 0 → t.count < 32
        line-free true i j = absurd (omega (arith, j))
        line-free false i j = leb-false 32 t.count i

    pub post-acts : (t' : Table) → (eqb x.number 0 ≡ false → t' ≡ t) → (row : Row) →
        (eqb x.number 0 ≡ true → (row.key ≡ k) × (row.asked ≡ a) × (row.count ≤ to.count) × (map recipient_of (used_recipients row) ≡ sort by_address (map (λ y. (address_of y, blank)) (take to.count to.list))) × (all (recipient_fine a) (used_recipients row) ≡ true)) →
        (eqb x.number 0 ≡ true → (t'.count ≡ t.count + 1) × (used_rows t' ≡ take (index_of p) (used_rows t) ++ row ∷ drop (index_of p) (used_rows t))) →
        OnValues (named f (post (key_of k) (make (ask_of a) (map address_of (take to.count to.list))))) t x t'
    unfolding first_of
    post-acts t' kept row built changed = acts _ t f x t' (λ l. e ∙ ap (λ (v : Verdict). first_of v (plain (pick (leb 32 t.count) 23 0))) (first_some _ _ l) ∙ first_some _ _ l) kept (λ w z. by w z (is_held p) refl (leb 32 t.count) refl)
      where
        by : well_formed t ≡ true → f.number ≡ 0 → (h : Bool) → is_held p ≡ h → (l : Bool) → leb 32 t.count ≡ l → OnValues (inr (post (key_of k) (make (ask_of a) (map address_of (take to.count to.list))))) t x t'
        by w z true h l i =
            let n : x ≡ plain 22 = e ∙ rw (w, z, h) in
            values-kept _ t t' (plain 22) x n (kept (ne_eqb x.number 0 (λ q. omega (arith, ap (λ (v : Verdict). v.number) n, q)))) (post-twice t cells w k a to (index_of p) no_row (at_place w true h))
        by w z false h true i =
            let n : x ≡ plain 23 = e ∙ rw (w, z, h, i) in
            values-kept _ t t' (plain 23) x n (kept (ne_eqb x.number 0 (λ q. omega (arith, ap (λ (v : Verdict). v.number) n, q)))) (post-over t cells w k a to (index_of p) (at_place w false h) (few w) (leb-true 32 t.count i))
        by w z false h false i =
            let n : x ≡ fine = e ∙ rw (w, z, h, i) in
            let g = legal z in
            let r = built (eq-eqb x.number 0 (ap (λ (v : Verdict). v.number) n)) in
            let u = changed (eq-eqb x.number 0 (ap (λ (v : Verdict). v.number) n)) in
            let good = post-row t cells w k a to g.0 g.1 g.2 row r.0 r.1 r.2 r.3 r.4 in
            subst (λ (m : Verdict). OnValues (inr (post (key_of k) (make (ask_of a) (map address_of (take to.count to.list))))) t m t') (sym n)
            (post-new t cells w k a to (index_of p) (at_place w false h) (few w) row t' (leb-false 32 t.count i) r.0 r.1 r.3 good u.0 u.1)
