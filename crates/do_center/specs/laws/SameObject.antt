-- The test of two names is equality.
use Rattle.std.proofs.Common.{◌≡◌, ℕ, ◌==◌, true, ◌∙◌, ap, arith}
use Rattle.std.proofs.lemmas.Bool.{and_parts, eqb-true}
use Rattle.do_base.specs.names.Names.{ObjectName}
use Rattle.do_center.specs.Observers.{same_object}

-- names of one object are equal
pub same_is : (a b : ObjectName) → same_object a b ≡ true → a ≡ b
same_is a b e =
    let parts = and_parts (a.node == b.node) (a.serial == b.serial) e in
    named (eqb-true a.node b.node parts.0) (eqb-true a.serial b.serial parts.1)
  where
    named : a.node ≡ b.node → a.serial ≡ b.serial → a ≡ b
    named n s =
        ap (λ (k : ℕ). record { node = k; serial = a.serial }) n
        ∙ ap (λ (k : ℕ). record { node = b.node; serial = k }) s

-- a name is one of its own object
pub same_refl : (a : ObjectName) → same_object a a ≡ true
same_refl a = grind arith

-- in both orders
pub same_sym : (a b : ObjectName) → same_object a b ≡ same_object b a
same_sym a b = grind arith
