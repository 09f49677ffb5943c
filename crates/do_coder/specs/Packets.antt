-- Packets: the one spelling of each by a table of recent names, and how they are read.
use Rattle.std.specs.Prelude.{ℕ, ◌-◌, ◌<◌, List, [], ◌∷◌, ◌++◌, length, map, get_or}
use Rattle.std.specs.List.{flat_map, fold, AllByRecursion}
use Rattle.do_class.specs.{Class.Class, declared.packet.{Part.Part, Name.Name, Copied.Copied}}
use Rattle.do_class.specs.declared.packet.Packet.{Packet}
use Rattle.do_grammar.specs.{Reader.{Reader, no_kind, mapped, times}, Num.{num, num_at}}
use Rattle.do_grammar.specs.OneSpelling.{Spelled, both, list_at, list_spelling, FitsList}
use Rattle.do_coder.specs.{declared.recent.pair.Pair.Pair, Recent.after_name}
use Rattle.do_coder.specs.{declared.read.sides.Sides.Sides, Names.{names_spelling, names_at}}
use Rattle.do_coder.specs.{Names.IsName, Parts.{part_spelling, IsPart, part_at}}

-- what a message is read for: how many slots each class has, and the ports of its sender and its
-- receiver
pub record Surroundings : Type 0 where
  pub slots : List ℕ
  pub from : ℕ
  pub to : ℕ

-- those of a class table
abbrev pub slot_counts : List Class → List ℕ
slot_counts table = map (λ (c : Class). length c.slots) table

abbrev pub surroundings : List Class → ℕ → ℕ → Surroundings
surroundings table from to = record { slots = slot_counts table; from = from; to = to }

abbrev pub sides_of : Surroundings → Sides
sides_of s = record { classes = length s.slots; from = s.from; to = s.to }

-- ---- one spelling

abbrev pub copied_spelling : Copied → List ℕ
copied_spelling c = num c.class.0 ++ list_spelling (flat_map part_spelling) c.slots

-- the spelling of a packet by a table of recent names
abbrev pub packet_spelling : List Pair → Packet → List ℕ
packet_spelling table p =
    names_spelling table p.names
    ++ (list_spelling (flat_map copied_spelling) p.copies
    ++ list_spelling (flat_map part_spelling) p.values)

-- how many slots a class has
abbrev pub slots_of : List ℕ → ℕ → ℕ
slots_of slots class = get_or slots class 0

-- a copied object of a class, with its slots
abbrev pub IsCopied : List ℕ → ℕ → ℕ → Copied → Type 0
IsCopied slots copies names c =
    (c.class.0 < length slots)
    × FitsList (slots_of slots c.class.0) (slots_of slots c.class.0) (λ n.
    AllByRecursion (IsPart copies names 8)) c.slots

-- no object is copied where there is no class
abbrev pub most_copies : List ℕ → ℕ
most_copies [] = 0
most_copies (n ∷ slots) = 4096

-- what has a spelling
pub record IsPacket (s : Surroundings) (p : Packet) : Type 0 where
  pub names : FitsList 0 65536 (λ n. AllByRecursion (IsName (sides_of s))) p.names
  pub copies : FitsList 0 (most_copies s.slots) (λ n.
      AllByRecursion (IsCopied s.slots n (length p.names))) p.copies
  pub values : FitsList 0 9 (λ n. AllByRecursion (IsPart (length p.copies) (length p.names) 8))
      p.values

-- The grammar of packets, by the surroundings and a table of recent names.
abbrev pub SpellsPacket : Surroundings → List Pair → List ℕ → Packet → Type 0
SpellsPacket s table = Spelled (packet_spelling table) (IsPacket s)

-- the table of recent names after a packet
abbrev pub after_packet : List Pair → Packet → List Pair
after_packet table p = fold after_name table p.names

-- ---- reading

abbrev pub copied : ℕ × List Part → Copied
copied p = record { class = record { 0 = p.0 }; slots = p.1 }

unfoldable pub copy_at : List ℕ → ℕ → ℕ → Reader (Unit {0}) Copied
copy_at slots copies names =
    mapped copied
    (both (num_at no_kind 0 (length slots - 1)) (λ class.
    list_at (slots_of slots class) (slots_of slots class) (times (part_at copies names 8))))

unfoldable pub copies_at : List ℕ → ℕ → Reader (Unit {0}) (List Copied)
copies_at slots names = list_at 0 (most_copies slots) (λ n. times (copy_at slots n names) n)

unfoldable pub values_at : ℕ → ℕ → Reader (Unit {0}) (List Part)
values_at copies names = list_at 0 9 (times (part_at copies names 8))

abbrev pub packet : List Name × (List Copied × List Part) → Packet
packet p = record { names = p.0; copies = p.1.0; values = p.1.1 }

unfoldable pub packet_at : Surroundings → List Pair → Reader (Unit {0}) Packet
packet_at s table =
    mapped packet
    (both (names_at (sides_of s) table) (λ names.
    both (copies_at s.slots (length names)) (λ copies. values_at (length copies) (length names))))
