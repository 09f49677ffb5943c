-- What is always so of the ends of a site, and of the frames that wait.
use Rattle.std.specs.{Prelude.{List, map, true, ℕ, ◌==◌, ◌≡◌}, List.{AllByRecursion, list_any}}
use Rattle.do_streams.specs.{Reading.AllKnown, declared.end.{End.End, Outgoing.Outgoing}}

-- ports are those of the ends, in their order
abbrev pub ArePorts : List ℕ → List End → Type 0
ArePorts ports ends = ports ≡ map (λ e. e.peer) ends

-- each frame goes to one of these ports
abbrev pub AllPlaced : List ℕ → List Outgoing → Type 0
AllPlaced ports frames = AllByRecursion (λ x. list_any (λ p. p == x.to) ports ≡ true) frames

-- the names that were read are of so many classes, and each frame that waits goes over an end
pub record AreOrdered (classes : ℕ) (ports : List ℕ) (ends : List End) (frames : List Outgoing) :
    Type 0 where
  pub known : AllKnown classes ends
  pub order : ArePorts ports ends
  pub placed : AllPlaced ports frames
