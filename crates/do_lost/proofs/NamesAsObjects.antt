-- The objects of what names on their way mean.
use Rattle.std.proofs.Common.{◌≡◌, ℕ, List, [], ◌∷◌, map, ap, refl}
use Rattle.do_class.specs.declared.packet.Name.{Name}
use Rattle.do_machine.specs.Items.{name_naming}
use Rattle.do_lost.specs.Named.{name_object}

-- the object of each name, one by one
pub names_mean : (from to : ℕ) (ns : List Name)
    → map (λ x. x.object) (map (name_naming from to) ns) ≡ map (name_object from to) ns
names_mean from to [] = refl
names_mean from to (n ∷ ns) = ap (λ os. name_object from to n ∷ os) (names_mean from to ns)
