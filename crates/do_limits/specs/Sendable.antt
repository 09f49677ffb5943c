-- The values that a message can carry, and the messages of such values.
use Rattle.std.specs.Prelude.{Bool, List as Listed, length, nat_le, nat_lt, true, ℕ, ◌&&◌, ◌-◌, ◌^◌}
use Rattle.std.specs.Prelude.{◌≡◌, [], ◌∷◌, ◌<◌, ◌≤◌, Some, option_map}
use Rattle.std.specs.List.{AllByRecursion, list_all}
use Rattle.do_base.specs.{values.Texts.longest_text, declared.events.exception.Exc.Exc}
use Rattle.do_base.specs.declared.values.value.Value.{Value, fold-Value}
use Rattle.do_base.specs.declared.values.value.Value.TheOpen.{List, Num, Text, Value-F}
use Rattle.do_class.specs.{Class.Class, Table.slots_of, declared.ids.ClassId.ClassId}
use Rattle.do_class.specs.declared.packet.{Copied.Copied, Name.Name}
use Rattle.do_class.specs.declared.packet.{Name.TheVariants.{Lent, Mine, Yours}, Packet.Packet}
use Rattle.do_grammar.specs.BesideHoles.{IsBeside}
use Rattle.do_class.specs.declared.packet.Part.{Part, fold-Part, TheOpen.Part-F}
use Rattle.do_grammar.specs.Num.{zigzag}
use Rattle.do_coder.specs.{Parts.is_bytes, declared.recent.pair.Pair.Pair}
use Rattle.do_frames.specs.Exceptions.{IsExc}
use Rattle.do_packet.specs.Limits.{KeepsLimits}
use Rattle.do_lengths.specs.Short.{IsShort}

-- one level of a value, where it is known of the values inside whether they can be carried
abbrev pub carried_step : Value-F (ℕ → Bool) → ℕ → Bool
carried_step (Num z) depth = nat_lt (zigzag z) (2 ^ 64)
carried_step (Text t) depth = nat_le (length t) longest_text && is_bytes t
carried_step (List fit) depth =
    nat_lt 0 depth && (nat_le (length fit) 1024 && list_all (λ f. f (depth - 1)) fit)
carried_step _ depth = true

-- a value of numbers of 64 bits, of texts and lists that are not too long, and so many lists deep
abbrev pub can_carry : Value → ℕ → Bool
can_carry = fold-Value (ℕ → Bool) carried_step

-- a value that a message can carry
abbrev pub IsSendable : Value → Type 0
IsSendable v = can_carry v 8 ≡ true

-- each of these values is such a one
abbrev pub AreSendable : Listed Value → Type 0
AreSendable values = AllByRecursion IsSendable values

-- one level of a part, where it is known of the parts inside whether they can be spelled
abbrev pub spelled_step : Part-F (ℕ → Bool) → ℕ → Bool
spelled_step (Part-F.Num z) depth = nat_lt (zigzag z) (2 ^ 64)
spelled_step (Part-F.Text t) depth = nat_le (length t) longest_text && is_bytes t
spelled_step (Part-F.List fit) depth =
    nat_lt 0 depth && (nat_le (length fit) 1024 && list_all (λ f. f (depth - 1)) fit)
spelled_step _ depth = true

-- a part of such numbers, texts and lists, so many lists deep, whatever its places
abbrev pub can_spell : Part → ℕ → Bool
can_spell = fold-Part (ℕ → Bool) spelled_step

-- a part of a message that can be spelled, where its places are there
abbrev pub IsSendablePart : Part → Type 0
IsSendablePart x = can_spell x 8 ≡ true

-- each of these parts is such a one
abbrev pub AreSendableParts : Listed Part → Type 0
AreSendableParts parts = AllByRecursion IsSendablePart parts

-- a class is of the table
abbrev pub IsOfTable : Listed Class → ClassId → Type 0
IsOfTable table class = class.0 < length table

-- a class of the table has so many slots
abbrev pub HasSlots : Listed Class → ClassId → ℕ → Type 0
HasSlots table class count = option_map (λ slots. length slots) (slots_of table class) ≡ Some count

-- A name in a message from one port to another: numbers from 1 on, a class of the table, and for
-- what is lent a home that is neither end
abbrev pub NameIsSendable : Listed Class → ℕ → ℕ → Name → Type 0
NameIsSendable table from to (Mine serial class) = (1 ≤ serial) × IsOfTable table class
NameIsSendable table from to (Yours serial) = 1 ≤ serial
NameIsSendable table from to (Lent o class token) =
    IsBeside (from ∷ to ∷ []) 1 65535 o.node
    × ((1 ≤ o.serial) × (IsOfTable table class × (1 ≤ token)))

-- A copy whose slots can be spelled, and are those of its class
pub record CopyIsSendable (table : Listed Class) (c : Copied) : Type 0 where
  pub slots : AreSendableParts c.slots
  pub whole : HasSlots table c.class (length c.slots)

-- A message from one port to another within the limits, whose places are there, and whose names,
-- values and slots can be spelled
pub record IsReadablePacket (table : Listed Class) (from to : ℕ) (p : Packet) : Type 0 where
  pub limits : KeepsLimits p
  pub names : AllByRecursion (NameIsSendable table from to) p.names
  pub few : length p.values ≤ 9
  pub values : AreSendableParts p.values
  pub slots : AllByRecursion (CopyIsSendable table) p.copies

-- Such a message that takes no more bytes than the heaviest may, whatever was named lately
pub record IsSendablePacket (table : Listed Class) (from to : ℕ) (p : Packet) : Type 0 where
  pub read : IsReadablePacket table from to p
  pub short : (recent : Listed Pair) → IsShort recent p

-- an exception that a message can carry
abbrev pub IsSendableExc : Exc → Type 0
IsSendableExc e = IsExc e
