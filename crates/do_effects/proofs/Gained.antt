-- What comes in the message of an item, copies and names.
use Rattle.do_machine.specs.declared.item.Item.TheVariants as items
use Rattle.std.proofs.Common.{◌≡◌, ℕ, List, [], ◌∷◌, ◌++◌, Option, Some, None, refl, ap, sym, ◌∙◌}
use Rattle.std.proofs.Common.{◌+◌, ◌<◌, ◌≤◌, IsSome, add-one, drop, get_or, length, drop-cons}
use Rattle.std.proofs.{Common.{length-append, subst, suc}, Math.ListN.drop_of_length-le}
use Rattle.std.proofs.lemmas.List.{append-nil}
use Rattle.do_class.specs.declared.packet.Packet.{Packet}
use Rattle.std.specs.Prelude.{option_map}
use Rattle.do_base.specs.{declared.events.shown.Shown.Shown, names.Names.ObjectName}
use Rattle.do_class.specs.declared.packet.Name.{Name}
use Rattle.do_machine.specs.{declared.{item.Item.Item, node.Node.Node}, Items.exported}
use Rattle.do_machine.specs.{run.Fresh.{with_objects, with_serials}, take.Take.holding}
use Rattle.do_network.specs.Counting.{got, packet_of}
use Rattle.do_packet.specs.declared.receipt.Made.{Made}
use Rattle.do_part.specs.Names.{AreStored}
use Rattle.do_rules.specs.Ruling.{gaining, names_in}
use Rattle.do_effects.specs.{Doing.{Doing, effected, moved}, Taking.{gained, gains}, Tidy.IsTidy}
use Rattle.do_effects.proofs.{Alone.line_first, NamesAsk.names_node}

-- what was made and shown, before names are received
abbrev pub made : Shown → List Made → Doing → Doing
made line copies d = record d {
  own = record d.own { node = with_objects copies d.own.node };
  shown = d.shown ++ line ∷ [];
}

-- the names that an item has in its message, if it has one
abbrev pub names_had : Item → Option (List Name)
names_had item = option_map (λ packet. packet.names) (packet_of item)

-- an item with a message has these names in it
pub had_in : (item : Item) (names : List Name) → Some names ≡ names_had item →
    names ≡ names_in item
had_in (items.Call number m) names had = cc
had_in (items.Oneway m) names had = cc
had_in (items.Reply number packet) names had = cc
had_in (items.Raised number e) names had = absurd (cc)
had_in (items.RootAsk number) names had = absurd (cc)
had_in (items.RootAnswer number packet) names had = cc
had_in (items.Ask serial token) names had = absurd (cc)
had_in (items.Granted serial token) names had = absurd (cc)
had_in (items.Gone serial token) names had = absurd (cc)
had_in (items.Left serial) names had = absurd (cc)
had_in (items.Settled number) names had = absurd (cc)
had_in (items.End serials) names had = absurd (cc)

-- names of a message are received once its copies were made and its line was shown
pub gained_is : (d : Doing) (from : ℕ) (item : Item) (line : Shown) (copies : List Made)
    (names : List Name) → Some names ≡ names_had item →
    gains from names (made line copies d) ≡ gained from item line copies d
gained_is d from item line copies names had =
    ap (λ (xs : List Name). gains from xs (made line copies d)) (had_in item names had)
    ∙ by_item item names had
    ∙ sym (line_first d (got from item d.own) line d.own.node
    (gaining from item copies (holding (exported from d.own.node.port item) d.own.node)))
  where
    -- so for each item
    by_item : (item : Item) (names : List Name) → Some names ≡ names_had item →
        gains from (names_in item) (made line copies d)
        ≡ moved (record d { shown = d.shown ++ line ∷ [] })
        (effected (got from item d.own)
        (gaining from item copies (holding (exported from d.own.node.port item) d.own.node)))
    by_item (items.Call number m) names had = refl
    by_item (items.Oneway m) names had = refl
    by_item (items.Reply number packet) names had = refl
    by_item (items.Raised number e) names had = absurd (cc)
    by_item (items.RootAsk number) names had = absurd (cc)
    by_item (items.RootAnswer number packet) names had = refl
    by_item (items.Ask serial token) names had = absurd (cc)
    by_item (items.Granted serial token) names had = absurd (cc)
    by_item (items.Gone serial token) names had = absurd (cc)
    by_item (items.Left serial) names had = absurd (cc)
    by_item (items.Settled number) names had = absurd (cc)
    by_item (items.End serials) names had = absurd (cc)

-- only copies, and what is held and asked for, change by what comes in a message
pub gained_node : (a d : Doing) (from : ℕ) (item : Item) (line : Shown) (copies : List Made) →
    a ≡ gained from item line copies d →
    a.own.node
    ≡ record (with_objects copies d.own.node) {
      held = a.own.node.held;
      asked = a.own.node.asked;
    }
gained_node a d from item line copies is =
    let m : Node = with_objects copies (holding (exported from d.own.node.port item) d.own.node) in
    let e = ap (λ (x : Doing). x.own.node) is ∙ names_node from (names_in item) m in
    e ∙ λ j. record (with_objects copies d.own.node) {
      held = sym (ap (λ (n : Node). n.held) e) j;
      asked = sym (ap (λ (n : Node). n.asked) e) j;
    }

-- so what was stored with the copies is stored still
pub gained_stored : (a d : Doing) (from : ℕ) (item : Item) (line : Shown) (copies : List Made)
    (names : ObjectName → ℕ) → a ≡ gained from item line copies d →
    AreStored (with_objects copies d.own.node) names → AreStored a.own.node names
gained_stored a d from item line copies names is stored =
    subst (λ (n : Node). AreStored n names) (sym (gained_node a d from item line copies is)) stored

-- an item with a message has names
pub none_had : (item : Item) → None ≡ names_had item → IsSome (packet_of item) → ⊥
none_had item none some = go (packet_of item) none some
  where
    -- so with a message or without
    go : (packet : Option Packet) → None ≡ option_map (λ (x : Packet). x.names) packet →
        IsSome packet → ⊥
    go None e some = absurd (cc)
    go (Some x) e some = absurd (cc)

-- objects that are made are stored
made_length : (serial : ℕ) (copies : List Made) →
    length (with_serials serial copies) ≡ length copies
made_length serial [] = refl
made_length serial (m ∷ copies) = ap suc (made_length (suc serial) copies)

-- no more is stored than that
pub heap_made : (copies : List Made) (n : Node) →
    length (with_objects copies n).heap ≡ length n.heap + length copies
heap_made copies n = length-append n.heap (with_serials n.next_serial copies)
    ∙ ap (λ k. length n.heap + k) (made_length n.next_serial copies)

-- ---- names in turn

-- what is left from a name on is the name and what is left behind it
pub drop_next : (xs : List Name) (i : ℕ) (x : Name) → i < length xs → x ≡ get_or xs i x →
    drop i xs ≡ x ∷ drop (i + 1) xs
drop_next xs i x within is =
    drop-cons xs i x within
    ∙ λ j. sym is j ∷ drop (sym (add-one i) j) xs

-- behind all names nothing is left
pub drop_rest : (xs : List Name) (i : ℕ) → length xs ≤ i → drop i xs ≡ []
drop_rest xs i past = drop_of_length-le xs past

-- no name changes a tidy node
pub gains_none : (d : Doing) (from : ℕ) → IsTidy d.own → gains from [] d ≡ d
gains_none d from tidy = λ j. record {
  own = record {
    node = d.own.node;
    counts = tidy.counts j;
    received = tidy.received j;
    classes = tidy.classes j;
  };
  out = d.out;
  shown = append-nil d.shown j;
}
