-- Octets copied one after the other. Assumes nothing.
use Prim.Native.Nat.{ℕ, ◌+◌, ◌-◌, ◌<◌, ◌≤◌}
use mathlib.Core.Path.{◌≡◌, refl, sym, ap, ◌∙◌}
use mathlib.Core.List.{List, [], ◌∷◌, ◌++◌, append-nil}
use native.Mathlib.Numerals.{add-one}
use native.Mathlib.Omega.{arith}
use lib.ListN.{length, drop, set, get_or, length-set, length-drop}
use lib.Seq.{paste, paste-zero, paste-suc, get_or-drop, take_all}

-- i octets of s, from a place on, stand in l, which was m
pub record Copied (l m s : List ℕ) (to from n i : ℕ) : Type 0 where
  pub most : i ≤ n
  pub room : to + n ≤ length m
  pub source : from + n ≤ length s
  pub long : length l ≡ length m
  pub is : l ≡ paste m to (drop from s) i

pub copied_none : (l s : List ℕ) (to from n : ℕ) → to + n ≤ length l → from + n ≤ length s → Copied l l s to from n 0
copied_none l s to from n h f = record { most = omega arith; room = h; source = f; long = refl; is = paste-zero l to (drop from s) }

pub copied_more : (l m s : List ℕ) (to from n i : ℕ) → Copied l m s to from n i → i < n → Copied (set l (to + i) (get_or s (from + i) 0)) m s to from n (i + 1)
copied_more l m s to from n i p h =
    let room : to + n ≤ length m = p.room in
    let source : from + n ≤ length s = p.source in
    let d : length (drop from s) ≡ length s - from = length-drop from s in
    record {
      most = omega arith;
      room = p.room;
      source = p.source;
      long = length-set l (to + i) (get_or s (from + i) 0) ∙ p.long;
      is = rw (add-one i) (ap (λ (x : List ℕ). set x (to + i) (get_or s (from + i) 0)) p.is
          ∙ ap (λ (v : ℕ). set (paste m to (drop from s) i) (to + i) v) (sym (get_or-drop from s i 0))
          ∙ paste-suc m to (drop from s) i 0 (omega arith) (omega (arith, d)));
    }

pub copied_all : (l m s : List ℕ) (to from n i : ℕ) → Copied l m s to from n i → n ≤ i → l ≡ paste m to (drop from s) n
copied_all l m s to from n i p h = let most : i ≤ n = p.most in let e : i ≡ n = omega arith in rw e at p.is

-- all octets of one slice put into another
pub copied-whole : (l s : List ℕ) (n : ℕ) → length l ≡ n → length s ≡ n → paste l 0 (drop 0 s) n ≡ s
copied-whole l s n h f =
    let d : length (drop (0 + n) l) ≡ 0 = simp length-drop (omega arith) in
    ap (λ (x : List ℕ). x ++ drop (0 + n) l) (take_all n s (omega arith)) ∙ ap (λ (x : List ℕ). s ++ x) (empty (drop (0 + n) l) d) ∙ append-nil s
  where
    empty : (x : List ℕ) → length x ≡ 0 → x ≡ []
    empty [] e = refl
    empty (y ∷ x) e = absurd (omega arith)
