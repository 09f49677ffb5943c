-- A packet is read exactly by a class table and a table of recent names.
use Rattle.std.proofs.Common.{◌≡◌, ℕ, zero, suc, ◌-◌, ◌≤◌, List, [], ◌∷◌, ◌++◌, length, take, Ok}
use Rattle.std.{proofs.Common.{Err, sym, subst, arith}, specs.List.AllByRecursion}
use Rattle.std.proofs.lemmas.List.{length-map, Elements.recursion_from_All}
use Rattle.do_class.specs.{Class.{Class, IsClass}, Table.IsTable, declared.packet.Packet.Packet}
use Rattle.do_grammar.specs.Grammar.{IsBytes, IsProperFront, IsFirstBad}
use Rattle.do_grammar.specs.Reader.{Stop, no_kind, short, bad}
use Rattle.do_grammar.proofs.{reads.ExactReader.Reads, faults.AnswerExact.{found, found_only}}
use Rattle.do_grammar.proofs.faults.AnswerExact.{not_stopped, left_within, proper_front, first_bad}
use Rattle.do_coder.specs.{declared.recent.pair.Pair.Pair, Recent.{IsKnown, IsRecent}}
use Rattle.do_coder.specs.Packets.{surroundings, slot_counts, slots_of, SpellsPacket, IsPacket}
use Rattle.do_coder.{specs.Packets.{packet_at, after_packet}, proofs.tables.TableLaws.IsKept}
use Rattle.do_coder.proofs.packets.PacketsExact.{Reads-packet, kept_names}

-- a class has at most 16 slots
few_slots : (table : List Class) → AllByRecursion IsClass table → (k : ℕ)
    → slots_of (slot_counts table) k ≤ 16
few_slots [] h k = omega arith
few_slots (c ∷ table) h zero = h.0.slots
few_slots (c ∷ table) h (suc k) = few_slots table h.1 k

module _ (table : List Class) (t : IsTable table) (from to : ℕ) (recent : List Pair)
    (r : IsRecent recent) (known : AllByRecursion (IsKnown (length table)) recent) where
  -- there are as many counts of slots as classes
  count : length (slot_counts table) ≡ length table
  count = length-map table (λ (c : Class). length c.slots)

  -- the table of recent names is one that a reader keeps
  kept : IsKept (length (slot_counts table)) recent
  kept = record {
    recent = r;
    known = subst (λ (n : ℕ). AllByRecursion (IsKnown n) recent) (sym count) known;
  }

  -- packets are read exactly by a class table and a table of recent names
  pub reads_here : Reads (SpellsPacket (surroundings table from to) recent)
      (packet_at (surroundings table from to) recent)
  reads_here =
      let few = t.few in
      Reads-packet (surroundings table from to) (omega (arith, count)) (λ k.
      omega (arith, few_slots table (recursion_from_All IsClass table t.classes) k)) recent kept

  -- a packet leaves a table of recent names whose classes are there
  pub stay_known : (p : Packet) → IsPacket (surroundings table from to) p
      → AllByRecursion (IsKnown (length table)) (after_packet recent p)
  stay_known p h =
      subst (λ (n : ℕ). AllByRecursion (IsKnown n) (after_packet recent p)) count
      (kept_names (surroundings table from to) recent p.names h.names.each kept).known

-- what a packet is read by, and its bytes
pub record Given (table : List Class) (recent : List Pair) (bytes : List ℕ) : Type 0 where
  pub tabled : IsTable table
  pub kept : IsRecent recent
  pub known : AllByRecursion (IsKnown (length table)) recent
  pub small : IsBytes bytes

module _ (table : List Class) (from to : ℕ) (recent : List Pair) (bytes : List ℕ)
    (g : Given table recent bytes) where
  -- the grammar of packets here
  abbrev Spells : List ℕ → Packet → Type 0
  Spells = SpellsPacket (surroundings table from to) recent

  -- a packet that is read was spelled in front of the rest
  pub packet_found : (p : Packet) (rest : List ℕ)
      → packet_at (surroundings table from to) recent bytes ≡ Ok (p, rest)
      → (length rest ≤ length bytes) × Spells (take (length bytes - length rest) bytes) p
  packet_found p rest e =
      found Spells (packet_at (surroundings table from to) recent)
      (reads_here table g.tabled from to recent g.kept g.known) bytes p rest g.small e

  -- and no other one was
  pub packet_only : (p : Packet) (rest : List ℕ)
      → packet_at (surroundings table from to) recent bytes ≡ Ok (p, rest)
      → (text after : List ℕ) (v : Packet) → Spells text v → bytes ≡ text ++ after
      → (p ≡ v) × (length bytes - length rest ≡ length text)
  packet_only p rest e =
      found_only Spells (packet_at (surroundings table from to) recent)
      (reads_here table g.tabled from to recent g.kept g.known) bytes p rest e

  -- the table after it has classes that are there
  pub packet_known : (p : Packet) (rest : List ℕ)
      → packet_at (surroundings table from to) recent bytes ≡ Ok (p, rest)
      → AllByRecursion (IsKnown (length table)) (after_packet recent p)
  packet_known p rest e =
      stay_known table g.tabled from to recent g.kept g.known p (packet_found p rest e).1.fits

  -- bytes that end too early are a proper front of a packet
  pub packet_short : packet_at (surroundings table from to) recent bytes ≡ Err short
      → IsProperFront Spells bytes
  packet_short e =
      proper_front Spells (packet_at (surroundings table from to) recent)
      (reads_here table g.tabled from to recent g.kept g.known) bytes g.small e

  -- a bad byte is among the bytes
  pub packet_left : (left : ℕ)
      → packet_at (surroundings table from to) recent bytes ≡ Err (bad no_kind left)
      → left ≤ length bytes
  packet_left left e =
      left_within Spells (packet_at (surroundings table from to) recent)
      (reads_here table g.tabled from to recent g.kept g.known) bytes no_kind left g.small e

  -- and is the first with which no packet goes on
  pub packet_bad : (left : ℕ)
      → packet_at (surroundings table from to) recent bytes ≡ Err (bad no_kind left)
      → IsFirstBad Spells bytes (length bytes - left)
  packet_bad left e =
      first_bad Spells (packet_at (surroundings table from to) recent)
      (reads_here table g.tabled from to recent g.kept g.known) bytes no_kind left g.small e

  -- where reading stopped the bytes begin with no packet
  pub packet_never : (s : Stop (Unit {0}))
      → packet_at (surroundings table from to) recent bytes ≡ Err s
      → (text after : List ℕ) (v : Packet) → Spells text v → bytes ≡ text ++ after → ⊥
  packet_never s e =
      not_stopped Spells (packet_at (surroundings table from to) recent)
      (reads_here table g.tabled from to recent g.kept g.known) bytes s e
