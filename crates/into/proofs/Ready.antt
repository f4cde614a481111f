-- Octets that are filled from the left: behind what is there they are all 0. Assumes nothing.
use Prim.Native.Nat.{ℕ, zero, suc, ◌+◌, ◌-◌, ◌≤◌}
use mathlib.Core.Path.{◌≡◌, refl, sym, ap, ◌∙◌}
use mathlib.Core.List.{List, [], ◌++◌, append_assoc, append-nil}
use native.Mathlib.Omega.{arith}
use lib.ListN.{length, take, drop, length-append}
use lib.Seq.{take_at, drop_at}
use borrow.Rule.Slice.PartMut.{put_mid, mid_of}
use Rattle.cells.specs.Cells.{zeros}
use Rattle.into.proofs.Behind.{behind}
pub use Rattle.into.proofs.Behind.{Ready, zeros-add}

pub zeros-long : (n : ℕ) → length (zeros n) ≡ n
zeros-long zero = refl
zeros-long (suc n) = ap suc (zeros-long n)

pub ready-none : (n : ℕ) (s : List ℕ) → s ≡ zeros n → Ready n s 0 []
ready-none n s e = let z : n ≡ n - 0 = omega arith in record { is = e ∙ ap zeros z; long = refl }

module _ {n a : ℕ} {s p : List ℕ} (k : ℕ) (f : Ready n s a p) (h : a + k ≤ n) where
  -- the next k are 0, and are lent
  pub ready-part : mid_of a k s ≡ zeros k
  ready-part = ap (take k) (behind k f h) ∙ take_at (zeros k) (zeros (n - (a + k))) k (zeros-long k)

  pub ready-part-long : length (mid_of a k s) ≡ k
  ready-part-long = ap length ready-part ∙ zeros-long k

  -- they come back as z, and are there then
  pub ready-put : (y z : List ℕ) → length y ≡ length (mid_of a k s) → y ≡ z → mid_of a k (put_mid a k s y) ≡ z
  ready-put y z g e =
      let t : take a s ≡ p = ap (take a) f.is ∙ take_at p (zeros (n - a)) a f.long in
      let l : length (take a s) ≡ a = ap length t ∙ f.long in
      let m : length y ≡ k = g ∙ ready-part-long in
      ap (take k) (drop_at (take a s) (y ++ drop k (drop a s)) a l) ∙ take_at y (drop k (drop a s)) k m ∙ e

  pub ready-next : (y z : List ℕ) → length y ≡ length (mid_of a k s) → y ≡ z → Ready n (put_mid a k s y) (a + k) (p ++ z)
  ready-next y z g e =
      let t : take a s ≡ p = ap (take a) f.is ∙ take_at p (zeros (n - a)) a f.long in
      let d : drop k (drop a s) ≡ zeros (n - (a + k)) = ap (drop k) (behind k f h) ∙ drop_at (zeros k) (zeros (n - (a + k))) k (zeros-long k) in
      let l : length (p ++ z) ≡ length p + length z = length-append p z in
      let m : length z ≡ k = sym (ap length e) ∙ g ∙ ready-part-long in
      record {
        is = ap (λ (x : List ℕ). x ++ (y ++ drop k (drop a s))) t ∙ ap (λ (x : List ℕ). p ++ (y ++ x)) d
            ∙ ap (λ (x : List ℕ). p ++ (x ++ zeros (n - (a + k)))) e ∙ sym (append_assoc p z (zeros (n - (a + k))));
        long = omega (arith, l, m, f.long);
      }

pub ready-all : {n : ℕ} {s p : List ℕ} → Ready n s n p → s ≡ p
ready-all {n} {s} {p} f = let z : n - n ≡ 0 = omega arith in f.is ∙ ap (λ (k : ℕ). p ++ zeros k) z ∙ append-nil p
