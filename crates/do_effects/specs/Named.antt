-- What a message names, one name after another: to the peer that it is sent to, and at the node
-- that it comes to.
use Rattle.std.specs.{Prelude.{List, [], fold, if◌then◌else◌, ℕ, ◌∷◌}, List.list_any}
use Rattle.do_class.specs.declared.packet.Name.{Name, TheVariants.{Lent, Mine, Yours}}
use Rattle.do_export.specs.Counts.{raised}
use Rattle.do_import.specs.ByObject.{added, first_kept}
use Rattle.do_machine.specs.declared.item.Item.{Item, TheVariants.Granted}
use Rattle.do_machine.specs.{Objects.{joined, object_at}, State.is_open}
use Rattle.do_machine.specs.lend.{Asking.{same_wanted, wanted, with_wanted}, Lending.lending}
use Rattle.do_network.specs.Own.{Own}
use Rattle.do_effects.specs.Sends.{names_sent}

-- a name is sent: an own object is named once more, and one of a third node is lent
abbrev pub named_to : ℕ → Own → Name → Own
named_to to p (Mine serial class) = record p { counts = raised p.counts to serial }
named_to to p (Yours serial) = p
named_to to p (Lent o class token) = record p {
  node = lending (record { number = p.node.next_token; object = o; borrower = to } ∷ []) p.node;
}

-- all names of a message are sent
abbrev pub all_named_to : ℕ → List Name → Own → Own
all_named_to to names p = fold (named_to to) p names

-- all that an item names is sent
abbrev pub item_named_to : ℕ → Item → Own → Own
item_named_to to (Granted serial token) p = record p { counts = raised p.counts to serial }
item_named_to to item p = all_named_to to (names_sent item) p

-- a peer's object is received once more, and held
abbrev pub got_name : ℕ → Name → Own → Own
got_name from (Mine serial class) p = record p {
  node = record p.node { held = joined p.node.held (object_at from serial) };
  received = added p.received (object_at from serial);
  classes = first_kept p.classes (object_at from serial) class;
}
got_name from (Lent o class token) p =
    if is_open p.node o.node
    then (if list_any (same_wanted (wanted o from token)) p.node.asked then p
    else record p {
      node = with_wanted (wanted o from token) p.node;
      classes = first_kept p.classes o class;
    })
    else p
got_name from (Yours serial) p = p
