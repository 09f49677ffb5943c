-- How a node's counts rise by what it sends.
use Rattle.std.proofs.Common.{◌≡◌, ◌==◌, ◌&&◌, ◌+◌, ℕ, Bool, true, false, cond, List, [], ◌∷◌, map}
use Rattle.std.proofs.{Common.{filter, refl, ap, ◌∙◌, fold, arith}, lemmas.Bool.eqb-true}
use Rattle.do_base.specs.names.Names.{ObjectName}
use Rattle.do_export.{specs.Counts.{Counts, count_of, raised}, proofs.Counting.count-raised}
use Rattle.do_machine.specs.{declared.state.Parcel.Parcel, Items.exported}
use Rattle.do_network.specs.{Counting.named_to, fits.Notes.{exports_of, total}}
use Rattle.do_network.proofs.CountsFollow.{named_counts}
use Rattle.do_agreement.specs.NotesSent.{note_sent, notes_to}

-- a count for another peer stays where objects were named
others_named : (m x z : ℕ) → (m == x) ≡ false → (os : List ObjectName) (c : Counts) →
    count_of (fold (λ d o. raised d m o.serial) c os) x z ≡ count_of c x z
others_named m x z apart [] c = refl
others_named m x z apart (o ∷ os) c =
    others_named m x z apart os (raised c m o.serial)
    ∙ count-raised c m o.serial x z
    ∙ ap (λ b. count_of c x z + cond (b && (o.serial == z)) 1 0) apart
    ∙ omega arith

-- a count once parcels were sent
pub named_count : (port : ℕ) (received : Counts) (peer s : ℕ) (sent : List Parcel) (c : Counts) →
    count_of (fold (named_to port) c sent) peer s
    ≡ count_of c peer s + total (exports_of port peer s) (notes_to received peer sent)
named_count port received peer s [] c = omega arith
named_count port received peer s (x ∷ xs) c =
    named_count port received peer s xs (named_to port c x) ∙ go (x.to == peer) refl
  where
    rest : ℕ
    rest = total (exports_of port peer s) (notes_to received peer xs)

    go : (b : Bool) → (x.to == peer) ≡ b →
        count_of (named_to port c x) peer s + rest
        ≡ count_of c peer s + total (exports_of port peer s)
        (map (note_sent received) (cond b (x ∷ filter (λ y. y.to == peer) xs)
        (filter (λ y. y.to == peer) xs)))
    go true e =
        let to : x.to ≡ peer = eqb-true x.to peer e in
        let one = ap (λ y. count_of (fold (λ d o. raised d y o.serial) c
        (exported port y x.item)) peer s) to
        ∙ named_counts peer s (exported port peer x.item) c in
        omega (arith, one)
    go false e =
        let none = others_named x.to peer s e (exported port x.to x.item) c in
        omega (arith, none)
