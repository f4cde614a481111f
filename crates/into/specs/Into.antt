-- Reading a thing into lent octets.
use Rattle.std.specs.Prelude.{ℕ, ◌≡◌, Bool, List, OnOk, IfOk}
use Rattle.codec.specs.Codec.{Codec}
use Rattle.codec.specs.Refusals.{Step, Reading, answer, step_of}

-- the step is what the codec answers from place p on, and where it goes on, the octets afterwards are those of the value that was read, which is one of
-- its declared type
pub record Into {A : Type 0} (c : Codec A) (to : A → List ℕ) (Typed : A → Type 0) (bs : List Bool) (p : ℕ) (step : Step) (after : List ℕ) : Type 0 where
  pub value : A
  pub told : answer step value ≡ c.read bs p
  pub held : OnOk step ((after ≡ to value) × Typed value)

-- the same of a reading that tells something of the value beside the octets
pub record IntoTelling {A B : Type 0} (c : Codec A) (tells : A → B) (to : A → List ℕ) (Typed : A → Type 0) (bs : List Bool) (p : ℕ) (reading : Reading B) (after : List ℕ) : Type 0 where
  pub value : A
  pub told : answer (step_of reading) value ≡ c.read bs p
  pub held : IfOk reading (λ n. (tells value ≡ n.0) × (after ≡ to value) × Typed value)
