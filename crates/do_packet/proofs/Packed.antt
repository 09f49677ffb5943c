-- What a packed message is.
use Rattle.std.proofs.Common.{◌≡◌, ◌≤◌, ℕ, nat_lt, Bool, true, false, cond, List, [], Ok, Err}
use Rattle.std.{proofs.Common.{Result, length, refl, subst, arith}, specs.List.flat_map}
use Rattle.std.proofs.lemmas.Grind.{common_steps, flat_map-append}
use Rattle.do_base.specs.names.Names.{ObjectName}
use Rattle.do_class.specs.declared.packet.Packet.{Packet}
use Rattle.do_packet.specs.Copies.{Placed, contents, copied_at, copies_of, most_copies, named_at}
use Rattle.do_packet.specs.Copies.{names_with, slots_at}
use Rattle.do_packet.specs.{Packing.{message_weight, most_weight, packed, packet_with}, Seen.Sender}
use Rattle.do_packet.{specs.declared.fault.PackFault.PackFault, proofs.Copying.copies_are}
use Rattle.do_packet.proofs.Covers.{Covers, covers_left, covers_right, met_covers}

-- the message that values were packed as, within its limits, with each object that it needs
pub record IsPackedAs (s : Sender) (to token : ℕ) (values : List Placed) (p : Packet) : Type 0 where
  pub few : length (copies_of s values) ≤ most_copies
  pub light : message_weight s values (copies_of s values) ≤ most_weight
  pub is : p ≡ packet_with s to token values (copies_of s values)
      (names_with s values (copies_of s values))
  pub copied_values : Covers (copies_of s values) (flat_map (copied_at s) values)
  pub copied_slots : Covers (copies_of s values)
      (flat_map (copied_at s) (flat_map (slots_at s) (copies_of s values)))
  pub named_values : Covers (names_with s values (copies_of s values))
      (flat_map (named_at s) values)
  pub named_slots : Covers (names_with s values (copies_of s values))
      (flat_map (named_at s) (flat_map (slots_at s) (copies_of s values)))

-- what passed two tests
ok_only : (a b : Bool) (x y : PackFault) (q p : Packet) →
    cond {A = Result Packet PackFault} a (Err x) (cond b (Err y) (Ok q)) ≡ Ok p →
    (a ≡ false) × ((b ≡ false) × (p ≡ q))
ok_only true b x y q p e = absurd (cc)
ok_only false true x y q p e = absurd (cc)
ok_only false false x y q p e = (refl, (refl, cc))

-- a number that is not below another is at least that
not_lt : (a b : ℕ) → nat_lt a b ≡ false → b ≤ a
not_lt a b h = grind (arith, common_steps)

module _ (s : Sender) (to token : ℕ) (values : List Placed) (p : Packet) where
  -- it passed the limits
  passed : packed s to token values ≡ Ok p →
      (nat_lt most_copies (length (copies_of s values)) ≡ false)
      × ((nat_lt most_weight (message_weight s values (copies_of s values)) ≡ false)
      × (p ≡ packet_with s to token values (copies_of s values)
      (names_with s values (copies_of s values))))
  unfolding packed
  passed e =
      ok_only (nat_lt most_copies (length (copies_of s values)))
      (nat_lt most_weight (message_weight s values (copies_of s values))) _ _ _ p e

  -- what was packed is such a message
  pub packed_as : packed s to token values ≡ Ok p → IsPackedAs s to token values p
  packed_as e =
      let C = copies_of s values in
      let N = names_with s values C in
      let q = passed e in
      let few : length C ≤ most_copies = not_lt most_copies (length C) q.0 in
      let inside = contents s values C in
      let slots = flat_map (slots_at s) C in
      let copied : Covers C (flat_map (copied_at s) inside) =
      subst (λ (l : List ObjectName). Covers l (flat_map (copied_at s) inside))
      (copies_are s values few).closed (met_covers [] (flat_map (copied_at s) inside)) in
      let c =
      subst (λ (l : List ObjectName). Covers C l) (flat_map-append (copied_at s) values slots)
      copied in
      let n =
      subst (λ (l : List ObjectName). Covers N l) (flat_map-append (named_at s) values slots)
      (met_covers [] (flat_map (named_at s) inside)) in
      let cv = flat_map (copied_at s) values in
      let cs = flat_map (copied_at s) slots in
      let nv = flat_map (named_at s) values in
      let ns = flat_map (named_at s) slots in
      record {
        few = few;
        light = not_lt most_weight (message_weight s values C) q.1.0;
        is = q.1.1;
        copied_values = covers_left C cv cs c;
        copied_slots = covers_right C cv cs c;
        named_values = covers_left N nv ns n;
        named_slots = covers_right N nv ns n;
      }
