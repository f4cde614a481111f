-- The three operations, for any keys, rows, answers and counts: what each answers and does to the row of its key, on the table and on the plain sheet of the history.
use Rattle.std.specs.Prelude.{◌≡◌, ◌≢◌, ◌⊎◌, cond, List, [], ◌∷◌, ◌++◌, length, leb}
use Rattle.std.proofs.Common.{inl, inr}
use Rattle.std.proofs.Math.Option.{Option, none, some}
use Prim.Native.Nat.{ℕ, Ordering}
use Rattle.calls.specs.Keyed.{find, alter, without}
use Rattle.calls.specs.Machine.{step}

-- What a call names. K: what tells messages apart; W: rows; P: what a receipt brings. A posting brings its row as it is to stand
pub data Operation (K W P : Type 0) : Type 0 where
  post : K → W → Operation K W P
  receipt : K → P → Operation K W P
  release : K → Operation K W P

abbrev pub key : {K W P : Type 0} → Operation K W P → K
key (post k r) = k
key (receipt k p) = k
key (release k) = k

-- What a table is made of besides its rows. A: answers; L: counts that the operations add to
pub record Rules (K W P A L : Type 0) : Type 0 where
  pub cmp : K → K → Ordering
  -- answers: done, the key is held, no row has the key
  pub done : A
  pub held : A
  pub missing : A
  -- why a row may not be entered beside so many rows and with these counts
  pub gate : W → ℕ → L → Option A
  -- what a receipt makes of the row, and what is then counted; or its refusal
  pub patch : P → W → A ⊎ (L × W)
  -- counts: none, those of a new row, those of a row that goes
  pub zero : L
  pub add : L → L → L
  pub enter : W → L
  pub leave : W → L

module _ {K W P A L : Type 0} (R : Rules K W P A L) where
  abbrev pub Rows : Type 0
  Rows = List (K × W)

  abbrev pub State : Type 0
  State = Rows × L

  -- a call's arguments alone refuse it, with this answer, or they name an operation
  abbrev pub Call : Type 0
  Call = A ⊎ Operation K W P

  -- ---- the answer, what is counted, and what then stands at the key

  abbrev pub entered : W → Option W → Option A → A × L × Option W
  entered r (some o) g = (R.held, R.zero, some o)
  entered r none (some a) = (a, R.zero, none)
  entered r none none = (R.done, R.enter r, some r)

  abbrev pub patched : W → A ⊎ (L × W) → A × L × Option W
  patched r (inl a) = (a, R.zero, some r)
  patched r (inr n) = (R.done, n.0, some n.1)

  abbrev pub received : P → Option W → A × L × Option W
  received p none = (R.missing, R.zero, none)
  received p (some r) = patched r (R.patch p r)

  abbrev pub released : Option W → A × L × Option W
  released none = (R.missing, R.zero, none)
  released (some r) = (R.done, R.leave r, none)

  abbrev pub act : Operation K W P → ℕ → L → Option W → A × L × Option W
  act (post k r) n t o = entered r o (R.gate r n t)
  act (receipt k p) n t o = received p o
  act (release k) n t o = released o

  -- the table, document 01's board: rows in key order
  unfoldable pub on_table : Call → State → A × State
  on_table = step key act R.add R.cmp

  -- ---- the plain sheet of document 01's history: rows in the order of their posting

  unfoldable pub posting : K → W → State → Option W → Option A → A × State
  posting k r s (some o) g = (R.held, s)
  posting k r s none (some a) = (a, s)
  posting k r s none none = (R.done, (s.0 ++ (k, r) ∷ [], R.add (R.enter r) s.1))

  unfoldable pub writing : K → State → A ⊎ (L × W) → A × State
  writing k s (inl a) = (a, s)
  writing k s (inr n) = (R.done, (alter R.cmp k (λ o. n.1) s.0, R.add n.0 s.1))

  unfoldable pub receiving : K → P → State → Option W → A × State
  receiving k p s none = (R.missing, s)
  receiving k p s (some r) = writing k s (R.patch p r)

  unfoldable pub releasing : K → State → Option W → A × State
  releasing k s none = (R.missing, s)
  releasing k s (some r) = (R.done, (without R.cmp k s.0, R.add (R.leave r) s.1))

  unfoldable pub sheet : Call → State → A × State
  sheet (inl a) s = (a, s)
  sheet (inr (post k r)) s = posting k r s (find R.cmp k s.0) (R.gate r (length s.0) s.1)
  sheet (inr (receipt k p)) s = receiving k p s (find R.cmp k s.0)
  sheet (inr (release k)) s = releasing k s (find R.cmp k s.0)

  -- ---- calls that may change places

  -- one names nothing, they name different messages, or they are receipts on one row that have nothing to do with each other
  pub data Apart (Free : P → P → Type 0) : Call → Call → Type 0 where
    refused_first : {a : A} {c : Call} → Apart Free (inl a) c
    refused_second : {a : A} {c : Call} → Apart Free c (inl a)
    messages : {a b : Operation K W P} → key a ≢ key b → Apart Free (inr a) (inr b)
    answerers : {k : K} {p q : P} → Free p q → Apart Free (inr (receipt k p)) (inr (receipt k q))

  -- the free lines that a call may use
  abbrev pub lines_for : Call → ℕ
  lines_for (inl a) = 0
  lines_for (inr (post k r)) = 1
  lines_for (inr (receipt k p)) = 0
  lines_for (inr (release k)) = 0

  -- whether the row of a posting may be entered is the same behind the other call
  abbrev pub Steady : Call → Call → State → Type 0
  Steady (inl a) b s = Unit {0}
  Steady (inr (post k r)) b s = R.gate r (length (on_table b s).1.0) (on_table b s).1.1 ≡ R.gate r (length s.0) s.1
  Steady (inr (receipt k p)) b s = Unit {0}
  Steady (inr (release k)) b s = Unit {0}

-- the gate of a table with so many lines: `full` where they are all held
abbrev pub line_free : {A : Type 0} → ℕ → A → ℕ → Option A
line_free lines full n = cond (leb lines n) (some full) none

-- ---- receipts for one row that have nothing to do with each other

module _ {K W P A L : Type 0} (R : Rules K W P A L) where
  -- both refuse alike, or both settle and count alike
  abbrev pub Like : A ⊎ (L × W) → A ⊎ (L × W) → Type 0
  Like (inl a) (inl b) = a ≡ b
  Like (inl a) (inr y) = ⊥
  Like (inr x) (inl b) = ⊥
  Like (inr x) (inr y) = x.0 ≡ y.0

  -- the row behind a receipt
  abbrev pub left : W → A ⊎ (L × W) → W
  left r (inl a) = r
  left r (inr x) = x.1

  abbrev pub left_by : P → W → W
  left_by p r = left r (R.patch p r)

  pub record Independent (p q : P) : Type 0 where
    pub first : (r : W) → Like (R.patch p (left_by q r)) (R.patch p r)
    pub second : (r : W) → Like (R.patch q (left_by p r)) (R.patch q r)
    pub both : (r : W) → left_by p (left_by q r) ≡ left_by q (left_by p r)
