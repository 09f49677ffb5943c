-- What a node does changes no other.
use Rattle.std.{proofs.Common.{◌≡◌, ℕ, false, List, [], ◌∷◌, refl, ◌==◌, arith}, specs.List.find}
use Rattle.do_machine.specs.{declared.state.Station.Station, Lists.change_first, Commit.committed}
use Rattle.do_machine.specs.declared.state.Effect.{Effect}

-- an effect leaves the stations of other ports as they are
pub elsewhere : (port other : ℕ) (e : Effect) (ss : List Station) → (other == port) ≡ false →
    find (λ s. other == s.port) (change_first (λ s. port == s.port) (committed e) ss)
    ≡ find (λ s. other == s.port) ss
elsewhere port other e [] h = refl
elsewhere port other e (s ∷ ss) h = grind (arith, h, elsewhere port other e ss h)
