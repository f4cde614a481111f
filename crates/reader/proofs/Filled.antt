-- What a reading leaves in a record's octets, way by way. Assumes nothing.
use Prim.Native.Nat.{ℕ}
use mathlib.Core.Path.{◌≡◌, refl, sym, ap, subst, ◌∙◌}
use mathlib.Core.Bool.{Bool, true, false}
use mathlib.Core.List.{List}
use native.Mathlib.Omega.{arith}
use Rattle.bits.specs.declared.OctetSize.{OctetSize}
use Rattle.codec.specs.Refusals.{fault_no}
use Rattle.codec.specs.declared.Fault.{Fault}
use Rattle.codec.specs.declared.FieldFault.{FieldFault}
use Rattle.codec.specs.declared.BlockFault.{BlockFault}
use Rattle.codec.specs.declared.Refusal.{Refusal}
use Rattle.std.specs.Prelude.{Result, Ok, Err, IsErrAnd}
use Rattle.std.proofs.lemmas.Result.{err_from_is_err_and}
use Rattle.header.specs.declared.Header.{Header}
use Rattle.record_octets.specs.Record.{header_in, header_octets}
use Rattle.record_octets.specs.Typed.{TypedHeader}
use Rattle.record_octets.proofs.Back.{header-back}
use Rattle.reader.specs.Reading.{Reading, accepted, rejected}
use Rattle.reader.specs.Told.{Told, told, to_tell, record_after, Holds, Fills, stopped_by}

-- what is told, and left, of what the reading is
pub ended : (t : Told) (z w : Reading) (s : List ℕ) → t ≡ to_tell w → z ≡ w → Fills w s → (t ≡ to_tell z) × Fills z s
ended t z w s e g k = (e ∙ ap to_tell (sym g), subst (λ (u : Reading). Fills u s) (sym g) k)

pub fills-refused : (f p b : ℕ) (s : List ℕ) → Fills (rejected f p b) s
unfolding Fills
fills-refused f p b s = tt

pub fills-stopped : (e : FieldFault) (s : List ℕ) → Fills (stopped_by e) s
unfolding Fills stopped_by
fills-stopped e s = tt

module _ (h : Header) (s : List ℕ) (e : s ≡ header_octets h) (t : TypedHeader h) where
  pub held : header_in s ≡ h
  held = ap header_in e ∙ header-back h t

  pub fills-done : (n : ℕ) → Fills (accepted h n) s
  unfolding Fills
  fills-done n = (e, held)

-- what the call tells
pub told-done : (h : Header) (a : OctetSize) (n : ℕ) → a.0 ≡ n → told (Ok a) ≡ to_tell (accepted h n)
unfolding told to_tell
told-done h a n e = ap (λ (k : ℕ). record { done = true; number = 0; place = 0; block = 0; octets = k }) e

pub told-plain : (f : Fault) (y : Refusal Fault) → (y.fault ≡ f) × (y.place.0 ≡ 0) × (y.block.0 ≡ 0) → told (Err y) ≡ to_tell (rejected (fault_no f) 0 0)
unfolding told to_tell
told-plain f y h = λ i. record { done = false; number = fault_no (h.0 i); place = h.1 i; block = h.2 i; octets = 0 }

module _ (r : Result OctetSize (Refusal Fault)) where
  pub told-stopped : (e : FieldFault) → IsErrAnd r (λ y. (y.fault ≡ e.fault) × (y.place ≡ e.place) × (y.block.0 ≡ 0)) → told r ≡ to_tell (stopped_by e)
  unfolding told to_tell stopped_by
  told-stopped e h = let p = err_from_is_err_and r h in rw p.1 (λ i. record { done = false; number = fault_no (p.2.0 i); place = (p.2.1 i).0; block = p.2.2 i; octets = 0 })

  pub told-broken : (e : BlockFault) → IsErrAnd r (λ y. (y.fault ≡ e.fault) × (y.place.0 ≡ 0) × (y.block ≡ e.block)) → told r ≡ to_tell (rejected (fault_no e.fault) 0 e.block.0)
  unfolding told to_tell
  told-broken e h = let p = err_from_is_err_and r h in rw p.1 (λ i. record { done = false; number = fault_no (p.2.0 i); place = p.2.1 i; block = (p.2.2 i).0; octets = 0 })

pub on-done : (n : OctetSize) (z : Reading) (s x : List ℕ) → told (Ok n) ≡ to_tell z → Fills z x → (told (Ok n) ≡ to_tell z) × (x ≡ record_after z s) × Holds z x
unfolding told to_tell Fills record_after Holds
on-done n (accepted h m) s x e k = (e, k.0, k.1)
on-done n (rejected f p b) s x e k = let z : ◌≡◌ {A = Bool} false true = sym (ap (λ (u : Told). u.done) e) in let y : ◌≡◌ {A = ℕ} 0 1 = cc in absurd (omega arith)

pub on-refused : (r : Refusal Fault) (z : Reading) (s : List ℕ) → told (Err r) ≡ to_tell z → (told (Err r) ≡ to_tell z) × (s ≡ record_after z s) × Holds z s
unfolding told to_tell record_after Holds
on-refused r (accepted h n) s e = let z : ◌≡◌ {A = Bool} true false = sym (ap (λ (u : Told). u.done) e) in let y : ◌≡◌ {A = ℕ} 0 1 = cc in absurd (omega arith)
on-refused r (rejected f p b) s e = (e, refl, tt)
