-- The limits that a message keeps.
use Rattle.std.specs.{Prelude.{◌≡◌, ◌≤◌, ℕ, Bool, length, nat_lt, true}, List.{All, list_all}}
use Rattle.do_class.specs.declared.packet.{Packet.Packet, Part.{Part, fold-Part, TheOpen.Part-F}}
use Rattle.do_packet.specs.Copies.{most_copies}

-- the most objects that a message may name
abbrev pub most_names : ℕ
most_names = 65536

-- one level of a part, where it is known of the parts inside whether their places are there
abbrev pub places_step : ℕ → ℕ → Part-F Bool → Bool
places_step copies names (Part-F.Copy k) = nat_lt k copies
places_step copies names (Part-F.Named k) = nat_lt k names
places_step copies names (Part-F.List within) = list_all (λ b. b) within
places_step copies names _ = true

-- each place in a part is that of one of so many copies, or of one of so many names
abbrev pub places_within : ℕ → ℕ → Part → Bool
places_within copies names = fold-Part Bool (places_step copies names)

-- each place in a part of a message is there
abbrev pub HasPlaces : Packet → Part → Type 0
HasPlaces p part = places_within (length p.copies) (length p.names) part ≡ true

-- a message within the limits, whose places are there
pub record KeepsLimits (p : Packet) : Type 0 where
  pub copies : length p.copies ≤ most_copies
  pub names : length p.names ≤ most_names
  pub values : All (HasPlaces p) p.values
  pub slots : All (λ c. All (HasPlaces p) c.slots) p.copies
