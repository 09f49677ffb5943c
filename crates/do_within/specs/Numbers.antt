-- How far the numbers of a network's nodes rise.
use Rattle.std.specs.Prelude.{Some, ℕ, ◌≡◌}
use Rattle.do_network.specs.{Links.Part, Net.{Net, part_at}}
use Rattle.do_limits.specs.Numbers.{HasSmallNumbers, NumbersWithin}

-- the numbers of each node of a network after so many events
abbrev pub NetNumbersWithin : ℕ → Net → Type 0
NetNumbersWithin events N =
    (port : ℕ) (p : Part) → part_at N port ≡ Some p → NumbersWithin events p.own.node

-- those of each node of a network are small
abbrev pub AllNumbersSmall : Net → Type 0
AllNumbersSmall N = (port : ℕ) (p : Part) → part_at N port ≡ Some p → HasSmallNumbers p.own.node
