-- The three requests of a message, and the codes that settle them.
use Rattle.std.specs.Prelude.{◌≡◌, ◌⊎◌, Bool, false, cond, not, ◌&&◌, ◌||◌, ℕ, T, eqb}
use Rattle.std.proofs.Math.Option.{Option, none, some}
use Rattle.header.specs.declared.Requests.{Requests}

-- one thing for each request
pub record PerRequest (X : Type 0) : Type 0 where
  pub machine : X
  pub acknowledge : X
  pub reply : X

-- which requests are asked
abbrev pub Ask : Type 0
Ask = PerRequest Bool

-- those of G7
unfoldable pub ask_of : Requests → Ask
ask_of a = record { machine = a.machine; acknowledge = a.acknowledge; reply = a.reply }

-- at one recipient: a code or nothing for each request
abbrev pub Mark : Type 0
Mark = PerRequest (Option ℕ)

abbrev pub blank : Mark
blank = record { machine = none; acknowledge = none; reply = none }

-- whether any request is asked
abbrev pub any_of : PerRequest Bool → Bool
any_of q = q.machine || q.acknowledge || q.reply

-- which requests a code answers: 2 answers every one
unfoldable pub answered_by : ℕ → PerRequest Bool
answered_by c =
    record {
      machine = eqb c 1 || eqb c 2;
      acknowledge = eqb c 3 || eqb c 2;
      reply = eqb c 4 || eqb c 5 || eqb c 6 || eqb c 2;
    }

-- asked, answered by the code, and still without one
unfoldable pub opens : Bool → Bool → Option ℕ → Bool
opens a b none = a && b
opens a b (some x) = false

-- which requests are open to a code
unfoldable pub open_to : Ask → ℕ → Mark → PerRequest Bool
open_to a c s =
    record {
      machine = opens a.machine (answered_by c).machine s.machine;
      acknowledge = opens a.acknowledge (answered_by c).acknowledge s.acknowledge;
      reply = opens a.reply (answered_by c).reply s.reply;
    }

-- an open request takes the code; any other keeps what it has
unfoldable pub write : Bool → ℕ → Option ℕ → Option ℕ
write open? c old = cond open? (some c) old

-- the marks with the code at each request that is open to it; none where no request is
unfoldable pub settle : Ask → ℕ → Mark → Option Mark
settle a c s = let q = open_to a c s in
    cond (any_of q)
    (some (record {
      machine = write q.machine c s.machine;
      acknowledge = write q.acknowledge c s.acknowledge;
      reply = write q.reply c s.reply;
    }))
    none

-- ---- marks that may stand at a recipient

-- a code stands at an asked request only, and answers it
unfoldable pub Fit : Bool → (ℕ → Bool) → Option ℕ → Type 0
Fit a ans none = Unit {0}
Fit a ans (some c) = T (a && ans c)

-- not open: not asked, or with its code
unfoldable pub Shut : Bool → Option ℕ → Type 0
Shut a none = T (not a)
Shut a (some c) = Unit {0}

pub record WellMarked (a : Ask) (s : Mark) : Type 0 where
  pub machine_fits : Fit a.machine (λ c. (answered_by c).machine) s.machine
  pub acknowledge_fits : Fit a.acknowledge (λ c. (answered_by c).acknowledge) s.acknowledge
  pub reply_fits : Fit a.reply (λ c. (answered_by c).reply) s.reply
  -- a 2 leaves nothing open
  pub two_shuts : (s.machine ≡ some 2) ⊎ (s.acknowledge ≡ some 2) ⊎ (s.reply ≡ some 2) →
      Shut a.machine s.machine × Shut a.acknowledge s.acknowledge × Shut a.reply s.reply
