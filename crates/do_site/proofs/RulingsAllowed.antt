-- What a node can do that a ruling says, and the room that it takes.
use Rattle.do_machine.specs.declared.item.Item.TheVariants as items
use Rattle.std.proofs.Common.{◌≡◌, ℕ, ◌+◌, true, List, [], ◌∷◌, length, Option, Some, None, refl}
use Rattle.std.{proofs.Common.arith, specs.{Prelude.IfSome, List.{filter_map, list_all}}}
use Rattle.do_base.specs.declared.events.exception.Exc.{Exc}
use Rattle.do_class.specs.declared.packet.Name.{Name, TheVariants.{Lent, Mine, Yours}}
use Rattle.do_packet.specs.declared.receipt.Made.{Made}
use Rattle.do_behave.specs.declared.invocation.Reason.{Reason}
use Rattle.do_machine.specs.{declared.{item.Item.Item, node.Node.Node}, lend.Lending.lend_of}
use Rattle.do_rules.specs.{Ruling.names_in, declared.take.ruling.Ruling.Ruling}
use Rattle.do_rules.specs.declared.take.ruling.Ruling.TheVariants.{Refuses}
use Rattle.do_effects.specs.Taking.{LendsNothing, ruling_copies, ruling_values}
use Rattle.do_part.specs.{Filled.made_values, Names.values_of}
use Rattle.do_site.{proofs.Stored.there_with, specs.Plans.{AllowsItem, AllowsMessage, AllowsRuling}}
use Rattle.do_site.specs.{Plans.is_no_lend, declared.needs.Needs.Needs}

-- names of which none lends lend nothing
none_lent : (to : ℕ) (names : List Name) → list_all is_no_lend names ≡ true →
    filter_map (lend_of to) names ≡ []
none_lent to [] h = refl
none_lent to (Mine serial class ∷ names) h = none_lent to names h
none_lent to (Yours serial ∷ names) h = none_lent to names h
none_lent to (Lent o class token ∷ names) h = cc

-- so does an item
pub lends_nothing : (to : ℕ) (item : Item) → list_all is_no_lend (names_in item) ≡ true →
    LendsNothing to item
lends_nothing to (items.Call number m) h = none_lent to m.packet.names h
lends_nothing to (items.Oneway m) h = none_lent to m.packet.names h
lends_nothing to (items.Reply number packet) h = none_lent to packet.names h
lends_nothing to (items.Raised number e) h = refl
lends_nothing to (items.RootAsk number) h = refl
lends_nothing to (items.RootAnswer number packet) h = none_lent to packet.names h
lends_nothing to (items.Ask serial token) h = refl
lends_nothing to (items.Granted serial token) h = refl
lends_nothing to (items.Gone serial token) h = refl
lends_nothing to (items.Left serial) h = refl
lends_nothing to (items.Settled number) h = refl
lends_nothing to (items.End serials) h = refl

-- what holds of a value in an option holds if it follows
pub some_map : {X : Type 0} {P Q : X → Type 0} (r : Option X) → ((x : X) → P x → Q x) →
    IfSome r P → IfSome r Q
some_map None f h = tt
some_map (Some x) f h = f x h

-- a message that is refused takes no more than one that is received
pub refused_allowed : (n : Node) (from many : ℕ) (item : Item) (copies : List Made)
    (reason : Reason) (e : Exc) (needs : Needs) → AllowsMessage n many copies 0 needs →
    AllowsItem n from item many (Refuses copies reason e) needs
refused_allowed n from many item copies reason e needs a =
    let objects = a.objects in let names = a.names in let entries = a.entries in
    let waiting = a.waiting in
    record {
      copies = a.there;
      kept = λ serial some. absurd (omega (arith, some));
      can = tt;
      enough = record {
        objects = omega (arith, objects);
        invocations = omega arith;
        names = omega (arith, names);
        entries = omega (arith, entries);
        waiting = omega (arith, waiting);
      };
    }

-- with room for the line that shows an item, the node can do what its ruling says
pub with_line : (n : Node) (from : ℕ) (item : Item) (r : Ruling) (needs : Needs) (more : ℕ) →
    AllowsItem n from item (length (names_in item)) r needs → more ≡ needs.waiting + 1 →
    AllowsRuling n from item r (record needs { waiting = more })
with_line n from item r needs more a e =
    let waiting = a.enough.waiting in
    record {
      copies = there_with n (ruling_copies r) (values_of (made_values (ruling_copies r)))
          a.copies;
      values = there_with n (ruling_copies r) (values_of (ruling_values r)) a.kept;
      can = a.can;
      enough = record {
        objects = a.enough.objects;
        invocations = a.enough.invocations;
        names = a.enough.names;
        entries = a.enough.entries;
        waiting = omega (arith, waiting, e);
      };
    }
