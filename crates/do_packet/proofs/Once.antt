-- Each object that is met stands once.
use Rattle.std.proofs.Common.{◌≡◌, Bool, true, false, cond, List, [], ◌∷◌, ◌++◌, refl, ap, arith}
use Rattle.std.specs.{Cmp.IsEquivalence, List.IsDistinct}
use Rattle.std.proofs.lemmas.{Grind.common_steps, Map.Keys.IsDistinct-push}
use Rattle.do_base.specs.names.Names.{ObjectName}
use Rattle.do_packet.specs.Met.{has_object, met, met_one, same_object}

-- names that pass the test are equal
pub same_is : (a b : ObjectName) → same_object a b ≡ true → a ≡ b
same_is a b h = search (Rattle.std.proofs.Common.rules, h)

-- the test of two names is one of equality
same_object-equal : IsEquivalence same_object
same_object-equal = record {
  refl = λ x. grind (arith, common_steps);
  symm = λ x y. grind (arith, common_steps);
  congr = λ x y z h. ap (λ w. same_object w z) (same_is x y h);
}

-- one more object that is met stands once
one_once : (os : List ObjectName) (o : ObjectName) → IsDistinct same_object os →
    IsDistinct same_object (met_one os o)
one_once os o h = go (has_object os o) refl
  where
    go : (b : Bool) → has_object os o ≡ b → IsDistinct same_object (cond b os (os ++ o ∷ []))
    go true e = h
    go false e = IsDistinct-push same_object-equal os o h e

-- and so do more
pub met_once : (os more : List ObjectName) → IsDistinct same_object os →
    IsDistinct same_object (met os more)
met_once os [] h = h
met_once os (o ∷ more) h = met_once (met_one os o) more (one_once os o h)

-- before any is met, none stands twice
pub none_once : IsDistinct same_object []
unfolding IsDistinct
none_once = tt
