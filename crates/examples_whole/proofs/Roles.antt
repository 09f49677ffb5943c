-- Which objects of an item change hands.
use Rattle.do_machine.specs.declared.item.Item.TheVariants as items
use Rattle.std.proofs.Common.{◌≡◌, [], ◌∷◌, refl}
use Rattle.do_class.specs.declared.packet.{Name.TheVariants.{Lent, Mine, Yours}, Packet.Packet}
use Rattle.do_machine.specs.Items.{Exported, Mentioned, exported, names, released}
use Rattle.do_machine.specs.Objects.{object_at}

-- a message that names an object of its sender, one of its receiver and one of a third node
abbrev packet : Packet
packet = record {
  names = Mine 5 (record { 0 = 0 }) ∷ Yours 6 ∷ Lent (object_at 7003 7) (record { 0 = 0 }) 1 ∷ [];
  copies = [];
  values = [];
}

-- the receiver holds the sender's object from then on, and not the third node's
senders_own : exported 7001 7002 (items.Reply 1 packet) ≡ object_at 7001 5 ∷ []
senders_own = refl

-- what is granted is exported by its home
granted : exported 7003 7002 (items.Granted 7 (record { lender = 7001; number = 1 }))
    ≡ object_at 7003 7 ∷ []
granted = refl

-- and what is gone is not
gone : exported 7003 7002 (items.Gone 7 (record { lender = 7001; number = 1 })) ≡ []
gone = refl

-- an end releases each object that it names
ended : released 7002 7001 (items.End (5 ∷ 8 ∷ [])) ≡ object_at 7001 5 ∷ object_at 7001 8 ∷ []
ended = refl

-- the notice that an object was left releases the receiver's object
left : released 7002 7001 (items.Left 5) ≡ object_at 7001 5 ∷ []
left = refl

-- a call mentions its target and what it names of its receiver, and exports what is its sender's
called : names 7001 7002 (items.Call 3 (record { target = 1; selector = []; packet = packet }))
    ≡ record { object = object_at 7002 1; role = Mentioned }
    ∷ record { object = object_at 7001 5; role = Exported }
    ∷ record { object = object_at 7002 6; role = Mentioned }
    ∷ record { object = object_at 7003 7; role = Mentioned } ∷ []
called = refl
