-- The copies that rounds find are the shortest list that is its own list of copies.
use Rattle.std.proofs.Common.{◌≡◌, suc, ◌≤◌, ◌<◌, List, [], length, refl, arith, ◌⊎◌, inl, inr}
use Rattle.do_base.specs.names.Names.{ObjectName}
use Rattle.do_packet.specs.{Copies.{IsCopies, Placed, copies_of, grown, most_copies}, Seen.Sender}
use Rattle.do_packet.specs.walk.Walking.{IsPrefix}
use Rattle.do_packet.proofs.{Prefixes.prefix_length, Rounds.{Decided, rounds_decide, rounds_least}}

module _ (s : Sender) (values : List Placed) where
  -- what is computed is its own list of copies, or there are too many
  pub computed : (grown s values (copies_of s values) ≡ copies_of s values)
      ⊎ (most_copies < length (copies_of s values))
  computed = go (rounds_decide s values (suc most_copies) [] (grown s values [], refl))
    where
      go : Decided s values (suc most_copies) [] (copies_of s values) →
          (grown s values (copies_of s values) ≡ copies_of s values)
          ⊎ (most_copies < length (copies_of s values))
      go (inl h) = inl h
      go (inr h) = inr (omega arith)

  -- each list that is its own list of copies begins with what is computed
  pub computed_least : (other : List ObjectName) → grown s values other ≡ other →
      IsPrefix (copies_of s values) other
  computed_least other e = rounds_least s values other e (suc most_copies) [] (other, refl)

  -- within the limit, what is computed are the copies
  pub copies_are : length (copies_of s values) ≤ most_copies →
      IsCopies s values (copies_of s values)
  copies_are h = record {
    closed = elim computed [ inl e ↦ e | inr k ↦ absurd (omega arith) ];
    shortest = λ M e. prefix_length (copies_of s values) M (computed_least M e);
  }

  -- where more are computed than the limit, each list that is its own list of copies is longer
  pub copies_many : most_copies < length (copies_of s values) →
      (other : List ObjectName) → grown s values other ≡ other → most_copies < length other
  copies_many h M e =
      omega (arith, prefix_length (copies_of s values) M (computed_least M e))
