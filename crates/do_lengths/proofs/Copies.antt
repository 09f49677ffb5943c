-- How many bytes the copies of a packet take, by what they weigh.
use Rattle.std.proofs.Common.{ℕ, ◌+◌, ◌*◌, ◌≤◌, List as Listed, [], ◌∷◌, ◌++◌, arith, length, ap}
use Rattle.std.{proofs.Common.{length-append, map, sum_by}, specs.List.flat_map}
use Rattle.std.proofs.lemmas.{Grind.flat_map-append, List.{length-map, Sums.sum_by-cons}}
use Rattle.do_base.specs.{names.Names.ObjectName, values.Values.weight_of}
use Rattle.do_grammar.specs.Num.{num}
use Rattle.do_coder.specs.{Packets.copied_spelling, Parts.part_spelling}
use Rattle.do_packet.specs.Copies.{marks, named_at, slot_values, slots_at}
use Rattle.do_packet.specs.{Packing.{class_at, copied_of, most_weight, part_at}, Seen.Sender}
use Rattle.do_packet.proofs.Keeping.{zip_weighs}
use Rattle.do_lengths.proofs.{Numbers.{num_short, num_small}, Parts.{places_count, places_fit}}

module _ (s : Sender) (copies names : Listed ObjectName) where
  -- what a copy weighs
  abbrev copy_weight : ObjectName → ℕ
  copy_weight o = 16 + sum_by weight_of (slot_values s o)

  -- a copy takes no more bytes than it weighs, with 37 for each object in it that is named
  copy_fits : (o : ObjectName) → copy_weight o ≤ most_weight →
      length (copied_spelling (copied_of s copies names o))
      + 37 * length (flat_map (named_at s) (slots_at s o)) ≤ copy_weight o
  copy_fits o light =
      let slots = map (part_at s copies names) (slots_at s o) in
      let within = zip_weighs s (marks s.table (s.seen.class_of o)) (slot_values s o) in
      let few = places_count (slots_at s o) in
      let count = length-map (slots_at s o) (part_at s copies names) in
      omega (
        arith,
        num_short (class_at s o).0,
        num_small (length slots) (omega (arith, light, within, few, count)),
        places_fit s copies names (slots_at s o),
        within,
        length-append (num (class_at s o).0)
            (num (length slots) ++ flat_map part_spelling slots),
        length-append (num (length slots)) (flat_map part_spelling slots),
      )

  -- copies do together
  pub copies_fit : (os : Listed ObjectName) → sum_by copy_weight os ≤ most_weight →
      length (flat_map copied_spelling (map (copied_of s copies names) os))
      + 37 * length (flat_map (named_at s) (flat_map (slots_at s) os)) ≤ sum_by copy_weight os
  copies_fit [] light = omega arith
  copies_fit (o ∷ os) light =
      let here = slots_at s o in
      let rest = flat_map (slots_at s) os in
      let sum = sum_by-cons copy_weight o os in
      omega (
        arith,
        copy_fits o (omega (arith, light, sum)),
        copies_fit os (omega (arith, light, sum)),
        sum,
        length-append (copied_spelling (copied_of s copies names o))
            (flat_map copied_spelling (map (copied_of s copies names) os)),
        ap length (flat_map-append (named_at s) here rest),
        length-append (flat_map (named_at s) here) (flat_map (named_at s) rest),
      )
