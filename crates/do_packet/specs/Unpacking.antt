-- A message, unpacked.
use Rattle.std.specs.Prelude.{Bool, List, if◌then◌else◌, map, nat_lt, slice_get, unwrap_or, ℕ, ◌+◌}
use Rattle.std.specs.List.{zip}
use Rattle.do_base.specs.declared.values.value.Value.{List as Values, Value}
use Rattle.do_base.specs.declared.values.value.Value.TheVariants.{Nil, Num, Obj, Text}
use Rattle.do_class.specs.declared.packet.{Copied.Copied, Name.Name}
use Rattle.do_class.specs.declared.packet.{Name.TheVariants.{Lent, Mine, Yours}, Packet.Packet}
use Rattle.do_class.specs.declared.packet.Part.{Part, fold-Part, TheOpen.Part-F}
use Rattle.do_packet.specs.declared.receipt.{Made.Made, Receipt.Receipt, Unpacked.Unpacked}

-- the value that a name stands for: an own object of the receiver without an entry for the sender,
-- and one of a third node towards which the receiver's end is closed, become nil
abbrev pub name_value : Receipt → Name → Bool → Bool → Value
name_value r (Mine serial class) entry open_home = Obj (record { node = r.from; serial = serial })
name_value r (Yours serial) entry open_home =
    if entry then Obj (record { node = r.to; serial = serial }) else Nil
name_value r (Lent o class token) entry open_home = if open_home then Obj o else Nil

-- a name, whether it has an entry for the sender, and whether the end towards its home is open
abbrev pub Looked : Type 0
Looked = Name × (Bool × Bool)

-- the value that a name stands for, by what the receiver has for it
abbrev pub looked_value : Receipt → Looked → Value
looked_value r x = name_value r x.0 x.1.0 x.1.1

-- the values that the names of a message stand for
abbrev pub name_values : Receipt → List Name → List Bool → List Bool → List Value
name_values r names entries open_home =
    map (looked_value r) (zip names (zip entries open_home))

-- the object for the copy at a place: the next serial, and so many more; no copy there is nil
abbrev pub copy_at : Receipt → ℕ → Value
copy_at r k = if nat_lt k r.copies then Obj (record { node = r.to; serial = r.next + k }) else Nil

-- one level of a part, where the parts inside are values already; no name at a place is nil
abbrev pub value_step : Receipt → List Value → Part-F Value → Value
value_step r named Part-F.Nil = Nil
value_step r named (Part-F.Num n) = Num n
value_step r named (Part-F.Text s) = Text s
value_step r named (Part-F.Copy k) = copy_at r k
value_step r named (Part-F.Named k) = unwrap_or (slice_get named k) Nil
value_step r named (Part-F.List vs) = Values vs

-- the value of a part, in a message whose names stand for these values
abbrev pub value_of : Receipt → List Value → Part → Value
value_of r named = fold-Part Value (value_step r named)

-- the object that a copy becomes
abbrev pub made_of : Receipt → List Value → Copied → Made
made_of r named c = record { class = c.class; slots = map (value_of r named) c.slots }

-- a message whose names stand for these values, unpacked
abbrev pub unpacked_with : Receipt → List Value → Packet → Unpacked
unpacked_with r named p = record {
  copies = map (made_of r named) p.copies;
  values = map (value_of r named) p.values;
}

-- a message, unpacked, by what the receiver has for its names
abbrev pub unpacked : Receipt → List Bool → List Bool → Packet → Unpacked
unpacked r entries open_home p = unpacked_with r (name_values r p.names entries open_home) p
