-- Lists of objects that begin with one another.
use Rattle.std.proofs.Common.{◌≡◌, ◌≤◌, ℕ, Bool, true, false, cond, List, [], ◌∷◌, ◌++◌, length}
use Rattle.std.proofs.Common.{take, refl, sym, ap, ◌∙◌, arith, append_assoc, append-nil}
use Rattle.std.proofs.{Common.length-append, lemmas.List.take-append-le}
use Rattle.do_base.specs.names.Names.{ObjectName}
use Rattle.do_packet.specs.{Met.{has_object, met, met_one}, walk.Walking.IsPrefix}

-- each list begins as itself
pub prefix_refl : (xs : List ObjectName) → IsPrefix xs xs
prefix_refl xs = ([], sym (append-nil xs))

-- a beginning of a beginning is one
pub prefix_trans : (xs ys zs : List ObjectName) → IsPrefix xs ys → IsPrefix ys zs → IsPrefix xs zs
prefix_trans xs ys zs p q =
    (p.0 ++ q.0, q.1 ∙ ap (λ l. l ++ q.0) p.1 ∙ append_assoc xs p.0 q.0)

-- a beginning is no longer
pub prefix_length : (xs ys : List ObjectName) → IsPrefix xs ys → length xs ≤ length ys
prefix_length xs ys p = omega (arith, ap length p.1, length-append xs p.0)

-- lists that begin alike have the same first items
pub front_of : (k : ℕ) (xs ys : List ObjectName) → IsPrefix xs ys → k ≤ length xs →
    take k ys ≡ take k xs
front_of k xs ys p h = ap (take k) p.1 ∙ take-append-le k xs p.0 h

-- what is no longer than its beginning is that
pub prefix_long : (xs ys : List ObjectName) → IsPrefix xs ys → length ys ≤ length xs → ys ≡ xs
prefix_long xs ys p h = p.1 ∙ no_rest p.0 (omega (arith, ap length p.1))
  where
    no_rest : (rest : List ObjectName) → length (xs ++ rest) ≤ length xs → xs ++ rest ≡ xs
    no_rest [] h = append-nil xs
    no_rest (y ∷ ys) h = absurd (omega (arith, length-append xs (y ∷ ys)))

-- the objects met stand at the beginning once one more is met
pub prefix_one : (os : List ObjectName) (o : ObjectName) → IsPrefix os (met_one os o)
prefix_one os o = go (has_object os o)
  where
    go : (b : Bool) → IsPrefix os (cond b os (os ++ o ∷ []))
    go true = prefix_refl os
    go false = (o ∷ [], refl)

-- the objects met stand at the beginning once more are met
pub prefix_met : (os more : List ObjectName) → IsPrefix os (met os more)
prefix_met os [] = prefix_refl os
prefix_met os (o ∷ more) =
    prefix_trans os (met_one os o) (met (met_one os o) more)
    (prefix_one os o) (prefix_met (met_one os o) more)
