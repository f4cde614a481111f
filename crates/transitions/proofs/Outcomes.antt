-- The calls on the rows, way by way, and what each way makes of the table. Assumes nothing.
use Prim.Native.Nat.{ℕ, zero, suc, ◌<◌}
use mathlib.Core.Path.{◌≡◌, refl, ap, sym, subst, ◌∙◌}
use mathlib.Core.Bool.{Bool, true, false}
use mathlib.Core.Logic.{inr}
use mathlib.Core.Option.{none, some}
use lib.ListN.{length}
use lib.Dec.{eqb, leb}
use borrow.Author.Tests.{ne_eqb}
use native.Mathlib.Omega.{arith}
use Rattle.codec.specs.Answer.{pick}
use Rattle.codec.specs.Verdict.{Verdict, in_block, plain, fine, first_of}
use Rattle.order.specs.Values.{Address, Key, by_key, by_address}
use Rattle.calls.specs.Keyed.{find, put, alter}
use Rattle.order.specs.Requests.{Mark, settle}
use Rattle.calls.specs.Machine.{step}
use Rattle.calls.specs.Operations as theory
use Rattle.calls.specs.Operations.{post, receipt, release}
use Rattle.order.specs.Calls.{Call, Operation, Row, Rows, full, on_table}
use Rattle.order.proofs.Calls.{refused-stays}
use Rattle.table.specs.Rows.{see}
use Rattle.table.specs.WellFormed.{well_formed}
use Rattle.table.specs.declared.Table.{Table}
use Rattle.table.proofs.InOrder.{rows-in-order}
use Rattle.arguments.specs.Arguments.{named}
use Rattle.transitions.proofs.OnValues.{OnValues}

-- ---- what each way promises

module _ (d : Operation) (t : Table) where
  -- the rows refuse, with a number
  pub values-refused : well_formed t ≡ true → (n : ℕ) → 0 < n → plain n ≡ (on_table (inr d) (see t)).0 → OnValues (inr d) t (plain n) t
  values-refused w n l e =
      record {
        answer = e ∙ rw w;
        rows = sym (refused-stays (inr d) (see t) (rows-in-order t w) (λ z. omega (arith, l, ap (λ (v : Verdict). v.number) (e ∙ z)))) ∙ rw w;
        well = refl;
      }

  pub values-done : (t' : Table) → well_formed t ≡ true → fine ≡ (on_table (inr d) (see t)).0 → see t' ≡ (on_table (inr d) (see t)).1 → well_formed t' ≡ true → OnValues (inr d) t fine t'
  values-done t' w e s v = record { answer = e ∙ rw w; rows = s ∙ rw w; well = v ∙ sym w }

-- a refusal that the code hands back
pub values-kept : (c : Call) (t t' : Table) (n x : Verdict) → x ≡ n → t' ≡ t → OnValues c t n t → OnValues c t x t'
values-kept c t t' n x e f a = subst (λ (m : Verdict). OnValues c t m t') (sym e) (subst (λ (u : Table). OnValues c t n u) (sym f) a)

-- ---- the table's form and the arguments come first

by-arguments : (f : Verdict) (d : Operation) (s : Rows) → 0 < f.number → f ≡ (on_table (named f d) s).0
unfolding on_table theory.on_table step
by-arguments f d s = go f.number f.block
  where
    go : (n b : ℕ) → 0 < n → in_block b n ≡ (on_table (named (in_block b n) d) s).0
    go zero b l = absurd (omega arith)
    go (suc n) b l = refl

-- arguments that refuse nothing name the operation
pub named-fine : (f : Verdict) (d : Operation) → f.number ≡ 0 → inr d ≡ named f d
named-fine f d e = rw e

pub passed : (b : Bool) (f : Verdict) → (pick b f (plain 30)).number ≡ 0 → (b ≡ true) × (f.number ≡ 0)
passed true f e = (refl, e)
passed false f e = absurd (omega arith)

-- where neither the table's form nor the arguments refuse, the next refusal is told
module _ (b : Bool) (f : Verdict) (w : b ≡ true) (z : f.number ≡ 0) where
  pub told : (n : ℕ) → plain n ≡ first_of (pick b f (plain 30)) (plain n)
  unfolding first_of
  told n = rw (w, z)

  pub told-held : (n : ℕ) → plain 22 ≡ first_of (first_of (pick b f (plain 30)) (plain 22)) (plain n)
  unfolding first_of
  told-held n = rw (w, z)

  pub told-full : (n : ℕ) → leb 32 n ≡ true → plain 23 ≡ first_of (first_of (pick b f (plain 30)) (plain 0)) (plain (pick (leb 32 n) 23 0))
  unfolding first_of
  told-full n e = rw (w, z, e)

  pub told-done : (n : ℕ) → leb 32 n ≡ false → fine ≡ first_of (first_of (pick b f (plain 30)) (plain 0)) (plain (pick (leb 32 n) 23 0))
  unfolding first_of
  told-done n e = rw (w, z, e)

module _ (d : Operation) (t : Table) (f : Verdict) where
  pub first-refused : 0 < (pick (well_formed t) f (plain 30)).number → OnValues (named f d) t (pick (well_formed t) f (plain 30)) t
  first-refused l = by (well_formed t) refl
    where
      by : (b : Bool) → well_formed t ≡ b → OnValues (named f d) t (pick (well_formed t) f (plain 30)) t
      by false w = record { answer = rw w; rows = rw w; well = refl }
      by true w =
          let p : 0 < f.number = rw w at l in
          let n = by-arguments f d (see t) p in
          record {
            answer = rw w n;
            rows = sym (refused-stays (named f d) (see t) (rows-in-order t w) (λ z. omega (arith, p, ap (λ (v : Verdict). v.number) (n ∙ z)))) ∙ rw w;
            well = refl;
          }

  -- a call whose answer x is known: refused there, or by what the rows say
  pub acts : (x : Verdict) (t' : Table) → (0 < (pick (well_formed t) f (plain 30)).number → x ≡ pick (well_formed t) f (plain 30)) → (eqb x.number 0 ≡ false → t' ≡ t) → (well_formed t ≡ true → f.number ≡ 0 → OnValues (inr d) t x t') → OnValues (named f d) t x t'
  acts x t' early kept act = go (pick (well_formed t) f (plain 30)).number refl
    where
      go : (n : ℕ) → (pick (well_formed t) f (plain 30)).number ≡ n → OnValues (named f d) t x t'
      go zero e = let p = passed (well_formed t) f e in subst (λ (c : Call). OnValues c t x t') (named-fine f d p.1) (act p.0 p.1)
      go (suc n) e =
          let l : 0 < (pick (well_formed t) f (plain 30)).number = omega (arith, e) in
          let z = early l in
          values-kept (named f d) t t' _ x z (kept (ne_eqb x.number 0 (λ q. omega (arith, ap (λ (v : Verdict). v.number) z, e, q)))) (first-refused l)

-- ---- the calls on the rows

module _ (k : Key) (s : Rows) where
  pub release-missing : find by_key k s ≡ none → plain 26 ≡ (on_table (inr (release k)) s).0
  unfolding on_table theory.on_table step
  release-missing e = rw e

  pub release-held : (r : Row) → find by_key k s ≡ some r → (fine ≡ (on_table (inr (release k)) s).0) × (put by_key k none s ≡ (on_table (inr (release k)) s).1)
  unfolding on_table theory.on_table step
  release-held r e = (rw e, rw e)

  module _ (r' : Row) where
    pub post_held : (r : Row) → find by_key k s ≡ some r → plain 22 ≡ (on_table (inr (post k r')) s).0
    unfolding on_table theory.on_table step
    post_held r e = rw e

    module _ (e : find by_key k s ≡ none) where
      pub post-full : full (length s) ≡ true → plain 23 ≡ (on_table (inr (post k r')) s).0
      unfolding on_table theory.on_table step
      post-full f = rw (e, f)

      pub post-done : full (length s) ≡ false → (fine ≡ (on_table (inr (post k r')) s).0) × (put by_key k (some r') s ≡ (on_table (inr (post k r')) s).1)
      unfolding on_table theory.on_table step
      post-done f = (rw (e, f), rw (e, f))

  module _ (w : Address) (c : ℕ) where
    pub receipt-missing : find by_key k s ≡ none → plain 26 ≡ (on_table (inr (receipt k (w, c))) s).0
    unfolding on_table theory.on_table step
    receipt-missing e = rw e

    module _ (r : Row) (e : find by_key k s ≡ some r) where
      pub receipt-stranger : find by_address w r.1 ≡ none → plain 27 ≡ (on_table (inr (receipt k (w, c))) s).0
      unfolding on_table theory.on_table step
      receipt-stranger f = rw (e, f)

      module _ (m : Mark) (f : find by_address w r.1 ≡ some m) where
        pub receipt-shut : settle r.0 c m ≡ none → plain 28 ≡ (on_table (inr (receipt k (w, c))) s).0
        unfolding on_table theory.on_table step
        receipt-shut g = rw (e, f, g)

        pub receipt-done : (n : Mark) → settle r.0 c m ≡ some n → (fine ≡ (on_table (inr (receipt k (w, c))) s).0) × (put by_key k (some (r.0, alter by_address w (λ o. n) r.1)) s ≡ (on_table (inr (receipt k (w, c))) s).1)
        unfolding on_table theory.on_table step
        receipt-done n g = (rw (e, f, g), rw (e, f, g))
