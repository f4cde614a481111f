-- The calls on the table of pending messages: what each names, and the rules by which the theory of the calls answers it and changes the row of its key.
use Rattle.std.specs.Prelude.{◌≢◌, ◌⊎◌, Bool, List, map, ℕ, leb}
use Rattle.std.proofs.Common.{inl, inr}
use Rattle.std.proofs.Math.Option.{Option, none, some}
use Rattle.codec.specs.Verdict.{Verdict, plain, fine}
use Rattle.calls.specs.Keyed.{find, alter, sort}
use Rattle.calls.specs.Operations as theory
use Rattle.order.specs.Values.{Key, Address, by_key, by_address}
use Rattle.order.specs.Requests.{Ask, Mark, blank, settle}

-- the asked requests, and the recipients with their marks
abbrev pub Row : Type 0
Row = Ask × List (Address × Mark)

abbrev pub Rows : Type 0
Rows = List (Key × Row)

-- a new row: its recipients in address order, each once, without codes
unfoldable pub make : Ask → List Address → Row
make a rs = (a, sort by_address (map (λ r. (r, blank)) rs))

-- a receipt brings its answerer and its code
abbrev pub Receipt : Type 0
Receipt = Address × ℕ

-- what a call names: a posting its key and its new row, a receipt its key and what it brings, a release its key
abbrev pub Operation : Type 0
Operation = theory.Operation Key Row Receipt

-- a call's arguments alone refuse it, with this answer, or they name an operation
abbrev pub Call : Type 0
Call = Verdict ⊎ Operation

-- so many rows, and no free line
abbrev pub full : ℕ → Bool
full n = leb 32 n

-- ---- what a receipt makes of a row: the number of its answer, which tells no block, and the marks at the answerer

abbrev pub written : Option Mark → ℕ × Option Mark
written none = (28, none)
written (some n) = (0, some n)

abbrev pub reply : Ask → ℕ → Option Mark → ℕ × Option Mark
reply a c none = (27, none)
reply a c (some m) = written (settle a c m)

abbrev pub replied : Address → ℕ → Row → ℕ × Option Mark
replied w c r = reply r.0 c (find by_address w r.1)

abbrev pub mark : Address → Option Mark → List (Address × Mark) → List (Address × Mark)
mark w none l = l
mark w (some m) l = alter by_address w (λ o. m) l

-- refused with its answer, or the row with the marks; nothing is counted
abbrev pub marked : Address → Row → ℕ × Option Mark → Verdict ⊎ (Unit {0} × Row)
marked w r (n, none) = inl (plain n)
marked w r (n, some m) = inr (tt, (r.0, mark w (some m) r.1))

-- ---- the rules: rows by key, 22 where the key is held, 26 where no row has it, 23 where all 32 lines are held, and nothing counted

abbrev pub rules : theory.Rules Key Row Receipt Verdict (Unit {0})
rules =
    record {
      cmp = by_key;
      done = fine;
      held = plain 22;
      missing = plain 26;
      gate = λ r n t. theory.line_free 32 (plain 23) n;
      patch = λ p r. marked p.0 r (replied p.0 p.1 r);
      zero = tt;
      add = λ x t. tt;
      enter = λ r. tt;
      leave = λ r. tt;
    }

-- what a call answers and makes of the table's rows, which stand in key order
unfoldable pub on_table : Call → Rows → Verdict × Rows
on_table c s = let x = theory.on_table rules c (s, tt) in (x.0, x.1.0)

-- ---- calls that may change places

-- receipts for one row from different answerers have nothing to do with each other
abbrev pub OtherAnswerer : Receipt → Receipt → Type 0
OtherAnswerer p q = p.0 ≢ q.0

-- one names nothing, they name different messages, or they are receipts from different answerers
abbrev pub Apart : Call → Call → Type 0
Apart = theory.Apart rules OtherAnswerer

-- the free lines that a call may use
abbrev pub lines_for : Call → ℕ
lines_for = theory.lines_for rules
