-- How many bytes the names of a packet take, and the whole packet.
use Rattle.std.proofs.Common.{◌≡◌, ℕ, ◌+◌, ◌*◌, ◌≤◌, List as Listed, [], ◌∷◌, ◌++◌, None, Ok}
use Rattle.std.proofs.Common.{Option, Some, ap, arith, length, length-append, map, refl, subst, sym}
use Rattle.std.{specs.List.flat_map, proofs.lemmas.Grind.flat_map-append}
use Rattle.do_class.specs.declared.packet.Name.{Name, TheVariants.{Lent, Mine, Yours}}
use Rattle.do_class.specs.declared.packet.Packet.{Packet}
use Rattle.do_grammar.specs.{Num.num, OneSpelling.spelling_by}
use Rattle.do_coder.specs.declared.recent.pair.Pair.{Pair}
use Rattle.do_coder.specs.Names.{mine_body, mine_tag, name_spelling, names_spelling}
use Rattle.do_coder.specs.{Packets.{copied_spelling, packet_spelling}, Parts.part_spelling}
use Rattle.do_coder.specs.Recent.{after_name, place_in}
use Rattle.do_packet.specs.Copies.{Placed, contents, copies_of, named_at, names_with, slots_at}
use Rattle.do_packet.specs.Packing.{copied_of, message_weight, names_to, packed, packet_with}
use Rattle.do_packet.specs.{Packing.part_at, Seen.Sender}
use Rattle.do_packet.proofs.{Keeping.met_le, Meanings.names_count, Packed.packed_as}
use Rattle.do_lengths.proofs.{Copies.copies_fit, Numbers.num_short, Parts.places_fit}

-- a name of the sender takes at most 37 bytes
mine_short : (place : Option ℕ) (serial class : ℕ) →
    length (mine_tag place ∷ mine_body place serial class) ≤ 37
mine_short None serial class =
    omega (arith, length-append (num serial) (num class), num_short serial, num_short class)
mine_short (Some k) serial class = omega (arith, num_short k)

-- so does each name
name_short : (recent : Listed Pair) (x : Name) → length (name_spelling recent x) ≤ 37
name_short recent (Mine serial class) =
    mine_short (place_in (record { serial = serial; class = class }) recent) serial class.0
name_short recent (Yours serial) = omega (arith, num_short serial)
name_short recent (Lent o class token) =
    omega (
      arith,
      num_short o.node,
      num_short o.serial,
      num_short class.0,
      num_short token,
      length-append (num o.node) (num o.serial ++ (num class.0 ++ num token)),
      length-append (num o.serial) (num class.0 ++ num token),
      length-append (num class.0) (num token),
    )

-- names take at most 37 bytes each
names_short : (recent : Listed Pair) (xs : Listed Name) →
    length (spelling_by name_spelling after_name recent xs) ≤ 37 * length xs
names_short recent [] = omega arith
names_short recent (x ∷ xs) =
    omega (
      arith,
      name_short recent x,
      names_short (after_name recent x) xs,
      length-append (name_spelling recent x)
          (spelling_by name_spelling after_name (after_name recent x) xs),
    )

module _ (s : Sender) (to token : ℕ) (values : Listed Placed) (recent : Listed Pair) where
  -- a packet within the limits takes no more bytes than the message weighs and 27
  whole_fits : message_weight s values (copies_of s values) ≤ 2097152 →
      length (packet_spelling recent (packet_with s to token values (copies_of s values)
      (names_with s values (copies_of s values))))
      ≤ message_weight s values (copies_of s values) + 27
  whole_fits light =
      let C = copies_of s values in
      let N = names_with s values C in
      let slots = flat_map (slots_at s) C in
      let names = names_to s to token N in
      let copied = map (copied_of s C N) C in
      let parts = map (part_at s C N) values in
      let spelled_copies = num (length copied) ++ flat_map copied_spelling copied in
      let spelled_values = num (length parts) ++ flat_map part_spelling parts in
      omega (
        arith,
        names_short recent names,
        names_count s (record { from = s.node; to = to; next = 0; copies = 0 }) refl token N,
        met_le [] (flat_map (named_at s) (contents s values C)),
        ap length (flat_map-append (named_at s) values slots),
        length-append (flat_map (named_at s) values) (flat_map (named_at s) slots),
        places_fit s C N values,
        copies_fit s C N C (omega (arith, light)),
        num_short (length names),
        num_short (length copied),
        num_short (length parts),
        length-append (names_spelling recent names) (spelled_copies ++ spelled_values),
        length-append spelled_copies spelled_values,
        length-append (num (length names)) (spelling_by name_spelling after_name recent names),
        length-append (num (length copied)) (flat_map copied_spelling copied),
        length-append (num (length parts)) (flat_map part_spelling parts),
      )

  -- so does one that was packed
  pub packed_fits : (p : Packet) → packed s to token values ≡ Ok p →
      length (packet_spelling recent p) ≤ message_weight s values (copies_of s values) + 27
  packed_fits p e =
      let made = packed_as s to token values p e in
      subst (λ (q : Packet). length (packet_spelling recent q)
      ≤ message_weight s values (copies_of s values) + 27) (sym made.is) (whole_fits made.light)
