-- The frame of each item on its way has a spelling, while the numbers are small.
use Rattle.do_frames.specs.declared.frame.Frame.TheVariants as frames
use Rattle.do_machine.specs.declared.item.Item.TheVariants as items
use Rattle.do_limits.proofs.spelled.Calls
use Rattle.do_limits.proofs.spelled.Tokens
use Rattle.std.proofs.Common.{◌≡◌, ◌<◌, ◌≤◌, ℕ, List, [], ◌∷◌, length, map, arith, refl}
use Rattle.do_facts.proofs.EachOfLists.{each_weaker}
use Rattle.std.specs.{Prelude.{None, Option, Some, nat_lt, true}, List.{All, AllByRecursion}}
use Rattle.std.proofs.lemmas.{Bool.Decides.nat_tests, List.length-map}
use Rattle.std.proofs.lemmas.List.Elements.{recursion_from_All}
use Rattle.do_base.specs.names.Names.{ObjectName, TokenName}
use Rattle.do_sched.specs.Good.{IsPort}
use Rattle.do_frames.specs.{Frames.{IsFrame, IsToken}, declared.frame.Frame.Frame}
use Rattle.do_lengths.{specs.Short.HasShortPacket, proofs.Frames.payload_short}
use Rattle.do_class.specs.{Class.Class, declared.packet.Name.Name}
use Rattle.do_class.specs.declared.packet.{Name.TheVariants.{Lent, Mine, Yours}, Packet.Packet}
use Rattle.do_coder.specs.{Names.IsName, Recent.IsSerial, declared.recent.pair.Pair.Pair}
use Rattle.do_frames.specs.Selectors.{IsSelector}
use Rattle.do_machine.specs.{declared.item.Message.Message, Objects.object_at}
use Rattle.do_coder.specs.Packets.{IsPacket, sides_of, surroundings}
use Rattle.do_machine.specs.declared.{item.Item.Item, node.Node.Node, state.State.State}
use Rattle.do_machine.specs.Items.{Mentioned, Naming, name_naming, names, naming, packet_names}
use Rattle.do_machine.specs.{Lists.some_passes, State.{node, queue}}
use Rattle.do_facts.specs.{View.{net_of, part_seen}, calls.Calls.{calls, atoms as call_atoms}}
use Rattle.do_facts.specs.{Made.{NamedAreMade, was_made}, links.Links.{atoms, links, packet_atoms}}
use Rattle.do_limits.specs.{Numbers.AllNumbersWithin, Sendable.{IsSendablePacket, NameIsSendable}}
use Rattle.do_limits.specs.SendableStates.{HasSerial, ItemIsSendable, MessageIsSendable}
use Rattle.do_limits.specs.{SendableStates.StateIsSendable, Spelled.{FrameIsSpelled, ItemIsSpelled}}
use Rattle.do_limits.proofs.spelled.CallMoves.{CallsGiven, ServedGiven}
use Rattle.do_limits.proofs.spelled.LentTokens.{NameGiven, TokenGiven, names_given}
use Rattle.do_limits.proofs.spelled.{ServedCalls.AtomGiven, TokenMoves.{TokensGiven, AsksGiven}}
use Rattle.do_limits.proofs.states.States.{node_sendable, queue_sendable}
use Rattle.do_limits.proofs.{values.Spelling.message_spelled, spelled.ReachedGiven.items_given}
use Rattle.do_facts.specs.{links.Moves.link_rules, calls.Moves.call_rules}

-- What is known of a state's numbers: objects that are named were made, and tokens and numbers of
-- calls were given
pub record NumbersKept (S : State) : Type 0 where
  pub made : NamedAreMade S
  pub lent : TokensGiven (net_of links S)
  pub given : CallsGiven (net_of calls S)

module _ (table : List Class) (S : State) (ok : StateIsSendable table S) (count : ℕ)
    (within : AllNumbersWithin count S) (few : count < 70368744177664) where
  -- an object that was made
  abbrev IsMade : ObjectName → Type 0
  IsMade o = was_made S o ≡ true

  -- so was each that is named
  abbrev AreMade : List Naming → Type 0
  AreMade xs = AllByRecursion (λ (x : Naming). IsMade x.object) xs

  -- it has a small serial
  made_small : (o : ObjectName) → IsMade o → o.serial ≤ 9223372036854775807
  made_small o h = go (node S o.node) refl h
    where
      go : (found : Option Node) → node S o.node ≡ found →
          some_passes (λ n. nat_lt o.serial n.next_serial) found ≡ true →
          o.serial ≤ 9223372036854775807
      go None q e = absurd (cc (e))
      go (Some n) q e =
          let below : o.serial < n.next_serial = grind (arith, nat_tests, e) in
          omega (arith, few, below, (within o.node n q).serial)

  -- a token that a node gave
  abbrev G : ℕ → ℕ → Type 0
  G = Tokens.Given (net_of links S)

  -- it is small
  token_small : (port k : ℕ) → G port k → IsSerial k
  token_small port k h = (h.0, go (node S port) refl h.1)
    where
      go : (found : Option Node) → node S port ≡ found →
          k < (part_seen links found).token → k ≤ 9223372036854775807
      go None q lt = absurd (omega (arith, lt))
      go (Some n) q lt = omega (arith, few, lt, (within port n q).token)

  -- the node that gave it stands at a port
  lender_port : (port k : ℕ) → G port k → IsPort port
  lender_port port k h = go (node S port) refl h.1
    where
      go : (found : Option Node) → node S port ≡ found →
          k < (part_seen links found).token → IsPort port
      go None q lt = absurd (omega (arith, lt))
      go (Some n) q lt = (node_sendable table S ok port n q).1

  -- the number of a call that a node gave is small
  number_small : (port k : ℕ) → Calls.Given (net_of calls S) port k → IsSerial k
  number_small port k h = (h.0, go (node S port) refl h.1)
    where
      go : (found : Option Node) → node S port ≡ found →
          k < (part_seen calls found).next → k ≤ 9223372036854775807
      go None q lt = absurd (omega (arith, lt))
      go (Some n) q lt = omega (arith, few, lt, (within port n q).call)

  -- an object under a token
  token_fits : (o : ObjectName) (t : TokenName) → HasSerial o → IsMade o → G t.lender t.number →
      IsToken o.serial t
  token_fits o t one made given = (
    (one, made_small o made),
    (lender_port t.lender t.number given, token_small t.lender t.number given),
  )

  module _ (from to : ℕ) where
    -- a name
    name_fits : (x : Name) → NameIsSendable table from to x →
        IsMade (name_naming from to x).object → NameGiven G from x →
        IsName (sides_of (surroundings table from to)) x
    name_fits (Mine serial class) h made given = (
      (h.0, made_small (name_naming from to (Mine serial class)).object made),
      omega (arith, h.1, length-map table (λ (c : Class). length c.slots)),
    )
    name_fits (Yours serial) h made given =
        (h, made_small (name_naming from to (Yours serial)).object made)
    name_fits (Lent o class token) h made given = (
      h.0,
      (
        (h.1.0, made_small o made),
        (
          omega (arith, h.1.1.0, length-map table (λ (c : Class). length c.slots)),
          token_small from token given,
        ),
      ),
    )

    -- names one behind the other
    names_fit : (xs : List Name) → AllByRecursion (NameIsSendable table from to) xs →
        AreMade (map (name_naming from to) xs) → AllByRecursion (NameGiven G from) xs →
        AllByRecursion (IsName (sides_of (surroundings table from to))) xs
    names_fit [] h made given = tt
    names_fit (x ∷ xs) h made given =
        (name_fits x h.0 made.0 given.0, names_fit xs h.1 made.1 given.1)

    -- a message
    packet_fits : (p : Packet) → IsSendablePacket table from to p →
        AreMade (packet_names from to p) →
        AllByRecursion (TokenGiven G from to) (packet_atoms p) →
        IsPacket (surroundings table from to) p
    packet_fits p h made given =
        let parts = message_spelled table from to p h.read in
        record {
          names = record {
            at_least = omega arith;
            at_most = h.read.limits.names;
            each = names_fit p.names h.read.names made (names_given G from to p.names given);
          };
          copies = parts.copies;
          values = parts.values;
        }

    -- a message to an object
    message_fits : (m : Message) → MessageIsSendable table from to m →
        AreMade (naming Mentioned to m.target ∷ packet_names from to m.packet) →
        AllByRecursion (TokenGiven G from to) (packet_atoms m.packet) →
        IsSerial m.target
        × (IsSelector m.selector × IsPacket (surroundings table from to) m.packet)
    message_fits m h made given = (
      (h.target, made_small (object_at to m.target) made.0),
      (h.selector, packet_fits m.packet h.packet made.1 given),
    )

    -- the token of an item was given
    abbrev TokensOf : Item → Type 0
    TokensOf item = AllByRecursion (TokenGiven G from to) (atoms item)

    -- the number of an item's call was
    abbrev NumbersOf : Item → Type 0
    NumbersOf item =
        AllByRecursion (AtomGiven (Calls.Given (net_of calls S)) from to) (call_atoms item)

    -- a frame whose packet is short
    framed : (f : Frame) → IsFrame (surroundings table from to) f →
        ((recent : List Pair) → HasShortPacket recent f) →
        FrameIsSpelled (surroundings table from to) f
    framed f is short =
        (is, λ recent. payload_short (surroundings table from to) f recent is (short recent))

    -- an item
    item_fits : (item : Item) → ItemIsSendable table from to item →
        AreMade (names from to item) → TokensOf item → NumbersOf item →
        ItemIsSpelled (surroundings table from to) item
    item_fits (items.Call number m) h made lent calls =
        framed (frames.Call number m.target m.selector m.packet)
        (number_small from number calls.0, message_fits m h made lent.1) h.packet.short
    item_fits (items.Oneway m) h made lent calls =
        framed (frames.Oneway m.target m.selector m.packet) (message_fits m h made lent.1)
        h.packet.short
    item_fits (items.Reply number packet) h made lent calls =
        framed (frames.Reply number packet)
        (number_small to number calls.0, packet_fits packet h made lent) h.short
    item_fits (items.Raised number e) h made lent calls =
        framed (frames.Raised number e) (number_small to number calls.0, h) (λ recent. tt)
    item_fits (items.RootAsk number) h made lent calls =
        framed (frames.RootAsk number) (number_small from number calls.0) (λ recent. tt)
    item_fits (items.RootAnswer number packet) h made lent calls =
        framed (frames.RootAnswer number packet)
        (number_small to number calls.0, packet_fits packet h made lent) h.short
    item_fits (items.Ask serial t) h made lent calls =
        framed (frames.Retain serial t) (token_fits (object_at to serial) t h made.0 lent.0)
        (λ recent. tt)
    item_fits (items.Granted serial t) h made lent calls =
        framed (frames.Granted serial t) (token_fits (object_at from serial) t h made.0 lent.0)
        (λ recent. tt)
    item_fits (items.Gone serial t) h made lent calls =
        framed (frames.Gone serial t) (token_fits (object_at from serial) t h made.0 lent.0)
        (λ recent. tt)
    item_fits (items.Left serial) h made lent calls =
        λ amount k.
        framed (frames.Release serial amount)
        ((h, made_small (object_at to serial) made.0), k) (λ recent. tt)
    item_fits (items.Settled number) h made lent calls =
        framed (frames.Settle number) (token_small to number lent.0) (λ recent. tt)
    item_fits (items.End serials) h made lent calls = framed frames.Shutdown tt (λ recent. tt)

    -- items one behind the other
    items_fit : (waiting : List Item) → AllByRecursion (ItemIsSendable table from to) waiting →
        AllByRecursion (λ item. AreMade (names from to item)) waiting →
        AllByRecursion TokensOf waiting → AllByRecursion NumbersOf waiting →
        AllByRecursion (ItemIsSpelled (surroundings table from to)) waiting
    items_fit [] h made lent calls = tt
    items_fit (item ∷ waiting) h made lent calls = (
      item_fits item h.0 made.0 lent.0 calls.0,
      items_fit waiting h.1 made.1 lent.1 calls.1,
    )

    -- what was made of all, by recursion
    by_recursion : (waiting : List Item) →
        All (λ item. All (λ x. IsMade x.object) (names from to item)) waiting →
        AllByRecursion (λ item. AreMade (names from to item)) waiting
    by_recursion waiting h =
        each_weaker (λ item. All (λ (x : Naming). IsMade x.object) (names from to item))
        (λ item. AreMade (names from to item))
        (λ item k. recursion_from_All (λ (x : Naming). IsMade x.object) (names from to item) k)
        waiting
        (recursion_from_All (λ item. All (λ (x : Naming). IsMade x.object) (names from to item))
        waiting h)

    -- all that waits between two nodes
    pub waiting_spelled : NumbersKept S → (waiting : List Item) →
        queue S from to ≡ Some waiting →
        AllByRecursion (ItemIsSpelled (surroundings table from to)) waiting
    waiting_spelled facts waiting e =
        items_fit waiting (queue_sendable table S ok from to waiting e)
        (by_recursion waiting (facts.made.waiting from to waiting e))
        (items_given links link_rules (λ q. q.token) AsksGiven TokenGiven S facts.lent from to
        waiting e)
        (items_given calls call_rules (λ c. c.next) ServedGiven AtomGiven S facts.given from to
        waiting e)
