-- A port is read as it was shown, and shown as it was read.
use Rattle.std.proofs.Common.{◌≡◌, ◌∙◌, ℕ, ℤ, pos, negsuc, Bool, true, false, ◌&&◌, nat_lt, Some}
use Rattle.std.{proofs.Common.{None, refl, sym, ap}, specs.Prelude.if◌then◌else◌}
use Rattle.do_base.specs.{values.Kinds.number, declared.values.value.Value.{Value, TheVariants.Num}}
use Rattle.do_native_acts.specs.{Ports.{port_in, port_number}, laws.KindLaws.{some_same, found_of}}
use Rattle.do_native_acts.specs.laws.KindLaws.{then_is, number_of_Num, number_read}

-- a number from 1 to 65,535 is read as a port
pub port_of_Num : (p : ℕ) → (nat_lt 0 p && nat_lt p 65536) ≡ true
    → port_in (Num (pos p)) ≡ Some p
port_of_Num p is = then_is _ (number_of_Num (pos p)) ∙ ap (λ b. if b then Some p else None) is

-- a port that is chosen is the number, and is one
chosen_port : (n p : ℕ) (b : Bool) → (nat_lt 0 n && nat_lt n 65536) ≡ b
    → (if b then Some n else None) ≡ Some p
    → (pos p ≡ pos n) × ((nat_lt 0 p && nat_lt p 65536) ≡ true)
chosen_port n p true is e =
    let same : p ≡ n = sym (some_same e) in
    (ap pos same, ap (λ k. nat_lt 0 k && nat_lt k 65536) same ∙ is)
chosen_port n p false is e = cc

-- a number that is read as a port is it
number_port : (z : ℤ) (p : ℕ) → port_number z ≡ Some p
    → (pos p ≡ z) × ((nat_lt 0 p && nat_lt p 65536) ≡ true)
number_port (pos n) p e = chosen_port n p (nat_lt 0 n && nat_lt n 65536) refl e
number_port (negsuc n) p e = cc

-- a port is the number that it was read from
pub port_read : (v : Value) (p : ℕ) → port_in v ≡ Some p
    → (Num (pos p) ≡ v) × ((nat_lt 0 p && nat_lt p 65536) ≡ true)
port_read v p is =
    let found = found_of (number v) port_number p is in
    let known = number_port found.0 p found.2 in
    (ap Num known.0 ∙ number_read v found.0 found.1, known.1)
