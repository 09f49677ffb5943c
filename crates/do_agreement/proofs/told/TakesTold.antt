-- What a node sends when it takes an item, closes an end or leaves objects tells the classes that
-- it sees.
use Rattle.std.proofs.Common.{ℕ, Bool, false, not, List, [], ◌∷◌, filter, map}
use Rattle.do_packet.specs.Met.{has_object}
use Rattle.std.specs.List.{AllByRecursion}
use Rattle.do_base.specs.names.Names.{ObjectName}
use Rattle.do_machine.specs.{declared.{item.Item.Item, node.Node.Node}, Context.Context}
use Rattle.do_machine.specs.{ends.Closing.closing, held.Kept.kept}
use Rattle.do_machine.specs.held.{Leaving.{freeing, left, leaving}, Refers.node_objects}
use Rattle.do_machine.specs.{run.Acts.root_value, take.Take.take_effect}
use Rattle.do_network.specs.Counting.{item_classes}
use Rattle.do_facts.proofs.walk.{SmallEffects.{Small, by_closing}, Takes.{Takes, by_take}}
use Rattle.do_agreement.{specs.AreTold.{AreTold, TellsSeen}, proofs.told.MessagesTold.names_told}

-- nothing is asked of a node
abbrev Any : Node → Type 0
Any n = Unit {0}

module _ (c : Context) where
  -- an item tells classes
  abbrev Tells : ℕ → Item → Type 0
  Tells to item = AllByRecursion (TellsSeen c) (item_classes c.node.port item)

  -- asks that are over, and settled lends
  small : Small Any Tells
  small = record { over = λ w n h. tt; settles = λ w n o h. tt }

  -- an end that closes
  pub closing_told : (peer : ℕ) (n : Node) → AreTold c (closing peer n).sent
  closing_told peer n = (by_closing small peer n tt tt).sent

  -- what a take is made of
  takes : (from : ℕ) (item : Item) → Takes Any Tells c from item
  takes from item = record {
    small = small;
    asks = λ packet is o class token among n ends h. (tt, tt);
    grants = λ serial token is n e h. tt;
    lacks = λ serial token is n e h. tt;
    makes = λ packet is n h. tt;
    begins = λ reason m f is found fit n h. tt;
    refuses = λ number e h. tt;
    answers = λ k packet is n h. tt;
    fails = λ k number e is n h. tt;
    gives = λ number. names_told c from c.node.next_token ((false, root_value c.node) ∷ []) [];
    settles = λ number n h. tt;
    parts = λ serials is n h. (tt, tt);
  }

  -- a take
  pub take_told : (from : ℕ) (item : Item) → AreTold c (take_effect c from item).sent
  take_told from item = (by_take c from item (takes from item) tt).sent

  -- what is left
  left_told : (os : List ObjectName) → AreTold c (map left os)
  left_told [] = tt
  left_told (o ∷ os) = (tt, left_told os)

  -- what a node leaves after a step
  pub leaving_told : (entry : ℕ → ℕ → Bool) (n : Node) → AreTold c (leaving entry n).sent
  leaving_told entry n =
      left_told (filter
      (λ o. not (has_object
      (node_objects (freeing (kept entry n) n).node) o)) n.held)
