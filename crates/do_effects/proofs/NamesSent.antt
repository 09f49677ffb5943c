-- What a node counts of the names that it sends.
use Rattle.do_machine.specs.declared.item.Item.TheVariants as items
use Rattle.std.proofs.Common.{◌≡◌, ℕ, suc, ◌+◌, true, List, [], ◌∷◌, length, refl, ap, sym, ◌∙◌}
use Rattle.std.{proofs.Common.{append_assoc, arith}, specs.Prelude.{None, Some, fold, map}}
use Rattle.std.proofs.lemmas.List.{append-nil}
use Rattle.do_base.specs.names.Names.{ObjectName}
use Rattle.do_class.specs.declared.packet.Name.{Name, TheVariants.{Lent, Mine, Yours}}
use Rattle.do_class.specs.declared.packet.Packet.{Packet}
use Rattle.do_export.specs.Counts.{Counts, raised}
use Rattle.do_machine.specs.declared.{item.Item.Item, node.{Lend.Lend, Node.Node}}
use Rattle.do_machine.specs.Items.{Released, exported, is_exported, name_naming, named_as, naming}
use Rattle.do_machine.specs.{State.is_open, lend.Lending.{lend_of, lending, lends_of}}
use Rattle.std.specs.List.{filter_map}
use Rattle.do_network.specs.{Counting.{counted, of_held, of_known, over_open_ends}, Own.Own}
use Rattle.do_effects.specs.Named.{all_named_to, item_named_to, named_to}
use Rattle.do_effects.specs.{Sends.{CanNameAll, CanSend, sends, sends_with}, Tidy.IsTidy}
use Rattle.do_effects.proofs.TidyCounts.{raised_open}

-- one object named once more to a peer
abbrev raise_to : ℕ → Counts → ObjectName → Counts
raise_to to c o = raised c to o.serial

-- the own objects that names are of
abbrev own_named : ℕ → ℕ → List Name → List ObjectName
own_named from to names = named_as is_exported (map (name_naming from to) names)

-- names that are sent are counted as their own objects are exported
named_counts : (from to : ℕ) (names : List Name) (p : Own) →
    (all_named_to to names p).counts ≡ fold (raise_to to) p.counts (own_named from to names)
named_counts from to [] p = refl
named_counts from to (Mine serial class ∷ names) p =
    named_counts from to names (named_to to p (Mine serial class))
named_counts from to (Yours serial ∷ names) p = named_counts from to names p
named_counts from to (Lent o class token ∷ names) p =
    named_counts from to names (named_to to p (Lent o class token))

-- lends after lends
lends_after : (n : Node) (l : Lend) (ls : List Lend) →
    lending ls (lending (l ∷ []) n) ≡ lending (l ∷ ls) n
lends_after n l ls = λ j. record n {
  lent = append_assoc n.lent (l ∷ []) ls j;
  next_token = (let e : n.next_token + 1 + length ls ≡ n.next_token + suc (length ls)
      = omega arith in e) j;
}

-- no lends change nothing
no_lends : (n : Node) → n ≡ lending [] n
no_lends n = λ j. record n {
  lent = sym (append-nil n.lent) j;
  next_token = (let e : n.next_token ≡ n.next_token + 0 = omega arith in e) j;
}

-- names that are sent under the next tokens are lent so
named_node : (to : ℕ) (names : List Name) (p : Own) →
    CanNameAll p.node.heap p.node.port p.node.next_token names →
    (all_named_to to names p).node ≡ lending (filter_map (lend_of to) names) p.node
named_node to [] p can = no_lends p.node
named_node to (Mine serial class ∷ names) p can =
    named_node to names (named_to to p (Mine serial class)) can.1
named_node to (Yours serial ∷ names) p can = named_node to names p can.1
named_node to (Lent o class token ∷ names) p can =
    named_node to names (named_to to p (Lent o class token)) can.1
    ∙ ap (λ (number : ℕ). lending (filter_map (lend_of to) names)
    (lending (record { number = number; object = o; borrower = to } ∷ []) p.node))
    (sym can.0.0)
    ∙ lends_after p.node (record { number = token; object = o; borrower = to })
    (filter_map (lend_of to) names)

-- what is received and the classes stay
named_received : (to : ℕ) (names : List Name) (p : Own) →
    ((all_named_to to names p).received ≡ p.received)
    × ((all_named_to to names p).classes ≡ p.classes)
named_received to [] p = (refl, refl)
named_received to (Mine serial class ∷ names) p =
    named_received to names (named_to to p (Mine serial class))
named_received to (Yours serial ∷ names) p = named_received to names p
named_received to (Lent o class token ∷ names) p =
    named_received to names (named_to to p (Lent o class token))

-- over an open end all counts that rise are kept
raised_all : (n : Node) (to : ℕ) (os : List ObjectName) (c : Counts) → is_open n to ≡ true →
    over_open_ends n (fold (raise_to to) c os) ≡ fold (raise_to to) (over_open_ends n c) os
raised_all n to [] c here = refl
raised_all n to (o ∷ os) c here =
    raised_all n to os (raise_to to c o) here
    ∙ ap (λ (d : Counts). fold (raise_to to) d os) (raised_open n c to o.serial here)

-- an end releases alone
pub none_exported : (port : ℕ) (serials : List ℕ) →
    named_as is_exported (map (naming Released port) serials) ≡ []
none_exported port [] = refl
none_exported port (s ∷ serials) = none_exported port serials

module _ (p : Own) (to : ℕ) (tidy : IsTidy p) (here : is_open p.node to ≡ true) where
  -- what naming comes to is what is counted
  from_parts : (q : Own) (n : Node) (os : List ObjectName) → n.open_to ≡ p.node.open_to →
      n.held ≡ p.node.held → n.asked ≡ p.node.asked → q.node ≡ n →
      q.counts ≡ fold (raise_to to) p.counts os → q.received ≡ p.received →
      q.classes ≡ p.classes →
      record {
        node = n;
        counts = over_open_ends n (fold (raise_to to) p.counts os);
        received = of_held n p.received;
        classes = of_known n p.classes;
      } ≡ q
  from_parts q n os ends held asked node counts received classes =
      (λ j. record {
        node = n;
        counts = over_open_ends (record n { open_to = ends j }) (fold (raise_to to) p.counts os);
        received = of_held (record n { held = held j }) p.received;
        classes = of_known (record n { held = held j; asked = asked j }) p.classes;
      })
      ∙ (λ j. record {
        node = sym node j;
        counts = (raised_all p.node to os p.counts here
            ∙ ap (λ (c : Counts). fold (raise_to to) c os) tidy.counts ∙ sym counts) j;
        received = (tidy.received ∙ sym received) j;
        classes = (tidy.classes ∙ sym classes) j;
      })

  -- a message, whose own names are exported
  message_counted : (packet : Packet) (item : Item) →
      CanNameAll p.node.heap p.node.port p.node.next_token packet.names →
      exported p.node.port to item ≡ own_named p.node.port to packet.names →
      counted p (sends_with (Some packet) to item p.node) ≡ all_named_to to packet.names p
  message_counted packet item can exports =
      ap (λ (os : List ObjectName). record {
        node = lending (lends_of to packet) p.node;
        counts = over_open_ends (lending (lends_of to packet) p.node)
            (fold (raise_to to) p.counts os);
        received = of_held (lending (lends_of to packet) p.node) p.received;
        classes = of_known (lending (lends_of to packet) p.node) p.classes;
      }) exports
      ∙ (let r = named_received to packet.names p in
      from_parts (all_named_to to packet.names p) (lending (lends_of to packet) p.node)
      (own_named p.node.port to packet.names) refl refl refl
      (named_node to packet.names p can)
      (named_counts p.node.port to packet.names p) r.0 r.1)

  -- an item with no message
  plain_counted : (item : Item) (q : Own) → q.node ≡ p.node →
      q.counts ≡ fold (raise_to to) p.counts (exported p.node.port to item) →
      q.received ≡ p.received → q.classes ≡ p.classes →
      counted p (sends_with None to item p.node) ≡ q
  plain_counted item q node counts received classes =
      from_parts q p.node (exported p.node.port to item) refl refl refl node counts received
      classes

  -- what an item counts that is sent is what it names
  pub sends_counted : (item : Item) → CanSend p.node item →
      counted p (sends to item p.node) ≡ item_named_to to item p
  sends_counted (items.Call number m) can = message_counted m.packet (items.Call number m) can refl
  sends_counted (items.Oneway m) can = message_counted m.packet (items.Oneway m) can refl
  sends_counted (items.Reply number packet) can =
      message_counted packet (items.Reply number packet) can refl
  sends_counted (items.RootAnswer number packet) can =
      message_counted packet (items.RootAnswer number packet) can refl
  sends_counted (items.Granted serial token) can =
      plain_counted (items.Granted serial token)
      (record p { counts = raised p.counts to serial }) refl refl refl refl
  sends_counted (items.End serials) can =
      plain_counted (items.End serials) p refl
      (sym (ap (fold (raise_to to) p.counts) (none_exported to serials))) refl refl
  sends_counted (items.Raised number e) can =
      plain_counted (items.Raised number e) p refl refl refl refl
  sends_counted (items.RootAsk number) can =
      plain_counted (items.RootAsk number) p refl refl refl refl
  sends_counted (items.Ask serial token) can =
      plain_counted (items.Ask serial token) p refl refl refl refl
  sends_counted (items.Gone serial token) can =
      plain_counted (items.Gone serial token) p refl refl refl refl
  sends_counted (items.Left serial) can =
      plain_counted (items.Left serial) p refl refl refl refl
  sends_counted (items.Settled number) can =
      plain_counted (items.Settled number) p refl refl refl refl
