-- What packing has done once it has gone through some of the copies.
use Rattle.std.specs.Prelude.{◌≡◌, ◌≤◌, ℕ, List, [], ◌+◌, fold, length, map, take}
use Rattle.do_base.specs.names.Names.{ObjectName}
use Rattle.do_class.specs.declared.packet.{Copied.Copied, Part.Part}
use Rattle.do_packet.specs.Copies.{Placed, grown, most_copies, names_with}
use Rattle.do_packet.specs.Packing.{Naming, capped, copied_of, message_weight, name_next, part_at}
use Rattle.do_packet.specs.{Seen.Sender, walk.Walking.IsPrefix, declared.packing.walk.Walk.Walk}

-- the values and the slots of the first k copies are gone through
pub record Reached (s : Sender) (values : List Placed) (k : ℕ) (copies names : List ObjectName)
    : Type 0 where
  pub within : k ≤ length copies
  pub found : copies ≡ grown s values (take k copies)
  pub naming : names ≡ names_with s values (take k copies)
  pub least : (other : List ObjectName) → grown s values other ≡ other → IsPrefix copies other

-- the values and the first k copies are packed, whatever is met later
pub record Followed (s : Sender) (values : List Placed) (k : ℕ) (walk : Walk) (parts : List Part)
    (copied : List Copied) (weight : ℕ) : Type 0 where
  pub reached : Reached s values k walk.copies walk.names
  pub parts_stand : (copies names : List ObjectName) → IsPrefix walk.copies copies →
      IsPrefix walk.names names → parts ≡ map (part_at s copies names) values
  pub copied_stand : (copies names : List ObjectName) → IsPrefix walk.copies copies →
      IsPrefix walk.names names →
      copied ≡ map (copied_of s copies names) (take k walk.copies)
  pub weighed : weight ≡ capped (message_weight s values (take k walk.copies))
  pub few : k ≤ most_copies

-- these are the names of the objects so far, with at most so many tokens used
pub record IsNaming (s : Sender) (to token : ℕ) (os : List ObjectName) (most : ℕ) (n : Naming)
    : Type 0 where
  pub named : n ≡ fold (name_next s to) (record { names = []; token = token }) os
  pub few : n.token ≤ token + most
