-- Addresses and keys are ordered: their comparisons keep the laws. Assumes nothing.
use mathlib.Core.Path.{◌≡◌, ap}
use mathlib.Core.List.{[], ◌∷◌}
use Rattle.calls.proofs.Orders.{Order, by-number, by-lex, by_kind, by-list, by-option, by_map}
use Rattle.order.specs.Values.{Address, urn, name, form, by_address, Key, parts, by_key}

form-inj : (x y : Address) → form x ≡ form y → x ≡ y
form-inj (urn n) (urn m) e = cc
form-inj (urn n) (name t) e = cc
form-inj (name s) (urn m) e = cc
form-inj (name s) (name t) e = cc

pub by-address : Order by_address
unfolding by_address
by-address = by_map (by_kind by-number (by-list by-number)) form form-inj

parts-inj : (x y : Key) → parts x ≡ parts y → x ≡ y
parts-inj x y e =
    let a : x.from ≡ y.from = ap (λ p. p.0) e in
    let l : x.year ∷ x.month ∷ x.day ∷ x.hour ∷ x.minute ∷ x.second ∷ [] ≡ y.year ∷ y.month ∷ y.day ∷ y.hour ∷ y.minute ∷ y.second ∷ [] = ap (λ p. p.1.0) e in
    let t : x.extension ≡ y.extension = ap (λ p. p.1.1) e in
    let b : x.year ≡ y.year = cc in
    let c : x.month ≡ y.month = cc in
    let d : x.day ≡ y.day = cc in
    let h : x.hour ≡ y.hour = cc in
    let m : x.minute ≡ y.minute = cc in
    let s : x.second ≡ y.second = cc in
    λ i. record { from = a i; year = b i; month = c i; day = d i; hour = h i; minute = m i; second = s i; extension = t i }

pub by-key : Order by_key
unfolding by_key
by-key = by_map (by-lex by-address (by-lex (by-list by-number) (by-option by-number))) parts parts-inj
