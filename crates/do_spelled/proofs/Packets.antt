-- The classes of a table, and the copied objects of a packet.
use Rattle.std.proofs.Common.{◌≡◌, ◌↔◌, ℕ, ◌≤◌, List, [], ◌∷◌, length, arith}
use Rattle.std.{specs.List.AllByRecursion, proofs.lemmas.List.length-map}
use Rattle.do_class.specs.{Class.Class, declared.packet.{Copied.Copied, Packet.Packet}}
use Rattle.do_coder.specs.{Names.IsName, Parts.IsPart, Packets.{surroundings, slot_counts}}
use Rattle.do_coder.specs.Packets.{most_copies, sides_of, IsCopied, IsPacket}

-- there are as many classes as numbers of slots
pub class_count : (table : List Class) → length (slot_counts table) ≡ length table
class_count table = length-map table (λ c. length c.slots)

-- copied objects are no more than there may be where each is of a class
few_copies : (slots : List ℕ) (copies names : ℕ) (cs : List Copied) → length cs ≤ 4096
    → AllByRecursion (IsCopied slots copies names) cs → length cs ≤ most_copies slots
few_copies [] copies names [] few all = omega (arith)
few_copies [] copies names (c ∷ cs) few all = absurd (omega (arith, all.0.0))
few_copies (n ∷ slots) copies names cs few all = few

-- there are 4,096 copied objects at most
most_few : (slots : List ℕ) (n : ℕ) → n ≤ most_copies slots → n ≤ 4096
most_few [] n few = omega (arith, few)
most_few (m ∷ slots) n few = few

-- A packet has a spelling just where its lists are short enough and their items have one.
pub packet_fits : (table : List Class) (from to : ℕ) (p : Packet)
    → (((length p.names ≤ 65536) × ((length p.copies ≤ 4096) × (length p.values ≤ 9)))
    × (AllByRecursion (IsName (sides_of (surroundings table from to))) p.names
    × (AllByRecursion (IsCopied (slot_counts table) (length p.copies) (length p.names)) p.copies
    × AllByRecursion (IsPart (length p.copies) (length p.names) 8) p.values)))
    ↔ IsPacket (surroundings table from to) p
packet_fits table from to p = (
  λ h. record {
    names = record { at_least = omega (arith); at_most = h.0.0; each = h.1.0 };
    copies = record {
      at_least = omega (arith);
      at_most =
          few_copies (slot_counts table) (length p.copies) (length p.names) p.copies h.0.1.0
          h.1.1.0;
      each = h.1.1.0;
    };
    values = record { at_least = omega (arith); at_most = h.0.1.1; each = h.1.1.1 };
  },
  λ fits. (
    (
      fits.names.at_most,
      (most_few (slot_counts table) (length p.copies) fits.copies.at_most, fits.values.at_most),
    ),
    (fits.names.each, (fits.copies.each, fits.values.each)),
  ),
)
