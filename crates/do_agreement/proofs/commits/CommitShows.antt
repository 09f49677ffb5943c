-- A network shows a state after an effect, and with an item in hand.
use Rattle.std.proofs.Common.{◌≡◌, ◌==◌, ◌++◌, ℕ, Bool, true, false, cond, List, [], ◌∷◌, map}
use Rattle.std.proofs.Common.{filter, fold, refl, sym, ap, ◌∙◌, subst}
use Rattle.std.specs.Prelude.{None, Option, Some, find, option_and_then, option_map}
use Rattle.std.proofs.lemmas.{Bool.eqb-true, List.map-append}
use Rattle.do_export.specs.Counts.{Counts}
use Rattle.do_machine.specs.declared.{node.Node.Node, state.{Effect.Effect, Parcel.Parcel}}
use Rattle.do_machine.specs.{declared.state.State.State, Commit.{commit, committed, items_to}}
use Rattle.do_machine.specs.{Lists.change_first, State.{node, queue, queue_to}}
use Rattle.do_facts.proofs.machine.{Frame.elsewhere, Queues.grows_behind, follows.States.changed}
use Rattle.do_facts.proofs.machine.passing.NoQueue.{stays_none}
use Rattle.do_network.specs.Links.{Part, Piece, Sending, Framed, Greeting}
use Rattle.do_network.specs.Net.{Channel, Net, Place, channel, channel_to, part_at, place_at}
use Rattle.do_network.specs.{Step.{carrying, place_after, with_sending}, fits.Notes.Note}
use Rattle.do_facts.proofs.steps.OthersStay.{commit_leaves_others}
use Rattle.do_agreement.specs.NetCommit.{effected, net_commit, with_sent}
use Rattle.do_agreement.specs.{NotesSent.{note_sent, notes_to}, Shows.{Shows, ShowsBut}}
use Rattle.do_agreement.proofs.places.KeyedLists.{found_changed, found_elsewhere, same_keys}
use Rattle.do_agreement.proofs.places.PlacesChanged.{channel_elsewhere, channel_here}
use Rattle.do_agreement.proofs.places.PlacesChanged.{part_elsewhere, part_here, ports_same}
use Rattle.do_agreement.proofs.places.Numbers.{flipped, same_number}

-- the items of notes to a peer
pub items_sent : (received : Counts) (to : ℕ) (sent : List Parcel) →
    map (λ (x : Note). x.item) (notes_to received to sent) ≡ items_to to sent
items_sent received to [] = refl
items_sent received to (x ∷ xs) = go (x.to == to) (items_sent received to xs)
  where
    go : (b : Bool) → map (λ (y : Note). y.item) (notes_to received to xs) ≡ items_to to xs →
        map (λ (y : Note). y.item) (map (note_sent received) (cond b
        (x ∷ filter (λ y. y.to == to) xs) (filter (λ y. y.to == to) xs)))
        ≡ map (λ (y : Parcel). y.item) (cond b (x ∷ filter (λ y. y.to == to) xs)
        (filter (λ y. y.to == to) xs))
    go true e = ap (λ ys. x.item ∷ ys) e
    go false e = e

-- the same of what there is
abbrev pub whatever : {X Y : Type 0} → Y → Option X → Option Y
whatever y o = option_map (λ x. y) o

-- a change of what there is leaves it there
changed_there : {X Y : Type 0} (y : Y) (f : X → X) (o : Option X) →
    whatever y (option_map f o) ≡ whatever y o
changed_there y f None = refl
changed_there y f (Some x) = refl

-- a channel is there still, once another or same_number was changed
pub channel_there : {Y : Type 0} (y : Y) (n m : ℕ) (f : Channel → Channel) →
    ((c : Channel) → (f c).to ≡ c.to) → (cs : List Channel) →
    whatever y (find (λ c. m == c.to)
    (change_first (λ c. n == c.to) f cs))
    ≡ whatever y (find (λ c. m == c.to) cs)
channel_there y n m f keeps cs = go (n == m) refl
  where
    go : (b : Bool) → (n == m) ≡ b →
        whatever y (find (λ c. m == c.to)
        (change_first (λ c. n == c.to) f cs))
        ≡ whatever y (find (λ c. m == c.to) cs)
    go true e =
        subst (λ k. whatever y (find (λ c. k == c.to)
        (change_first (λ c. n == c.to) f cs))
        ≡ whatever y (find (λ c. k == c.to) cs)) (eqb-true n m e)
        (ap (whatever y) (found_changed (λ c. c.to) f keeps n cs)
        ∙ changed_there y f (find (λ c. n == c.to) cs))
    go false e = ap (whatever y) (found_elsewhere (λ c. c.to) f keeps n m e cs)

-- a channel is there still, once frames were sent
channels_there : {Y : Type 0} (y : Y) (m : ℕ) (ss : List Sending) (cs : List Channel) →
    whatever y (find (λ c. m == c.to) (fold with_sending cs ss))
    ≡ whatever y (find (λ c. m == c.to) cs)
channels_there y m [] cs = refl
channels_there y m (s ∷ ss) cs =
    channels_there y m ss (with_sending cs s)
    ∙ channel_there y s.to m (carrying s.piece) (keeps s.piece) cs
  where
    keeps : (piece : Piece) (c : Channel) → (carrying piece c).to ≡ c.to
    keeps Greeting c = refl
    keeps (Framed g r) c = refl

module _ (port : ℕ) (n : Node) (N : Net) (under_way : ℕ → ℕ → List Note) (T : State)
    (shows : ShowsBut port n N under_way T) (pl : Place) (there : place_at N port ≡ Some pl)
    (e : Effect) where
  -- the site
  abbrev p : Part
  p = pl.part

  -- the network after the effect
  abbrev M : Net
  M = net_commit port p e N

  -- what is under way then
  abbrev now : ℕ → ℕ → List Note
  now = with_sent port p.own.received e.sent under_way

  -- a place keeps its port
  keeps : (x : Place) → (place_after (effected p e) x).port ≡ x.port
  keeps x = refl

  -- the node of a port
  node_after : (x : ℕ) (b : Bool) → (port == x) ≡ b →
      option_map (λ (r : Part). r.own.node) (part_at M x) ≡ node (commit port e T) x
  node_after x true k =
      subst (λ y. option_map (λ (r : Part). r.own.node) (part_at M y)
      ≡ node (commit port e T) y) (eqb-true port x k)
      (ap (option_map (λ (r : Part). r.own.node))
      (part_here port (place_after (effected p e)) keeps N pl there)
      ∙ sym (changed port e n T.stations shows.here))
  node_after x false k =
      ap (option_map (λ (r : Part). r.own.node))
      (part_elsewhere port (place_after (effected p e)) keeps N x k)
      ∙ shows.nodes x k ∙ sym (commit_leaves_others port x e T (flipped port x k))

  -- a queue of the node
  own_queue : (m : ℕ) (found : Option Channel) → channel N port m ≡ found →
      option_map (λ (c : Channel). map (λ (x : Note). x.item)
      (under_way port m ++ notes_to p.own.received m e.sent)) found
      ≡ queue (commit port e T) port m
  own_queue m None k =
      sym (stays_none port m e T.stations
      (sym (shows.queues port m)
      ∙ ap (option_map (λ c. map (λ (x : Note). x.item) (under_way port m))) k))
  own_queue m (Some c) k =
      ap (λ ys. Some ys)
      (map-append (λ (x : Note). x.item) (under_way port m) (notes_to p.own.received m e.sent)
      ∙ ap (λ ys. map (λ (x : Note). x.item) (under_way port m) ++ ys)
      (items_sent p.own.received m e.sent))
      ∙ sym (grows_behind port m e T.stations (map (λ (x : Note). x.item) (under_way port m))
      (sym (shows.queues port m)
      ∙ ap (option_map (λ c. map (λ (x : Note). x.item) (under_way port m))) k))

  -- what the site sent is under way
  now_here : (m : ℕ) → now port m ≡ under_way port m ++ notes_to p.own.received m e.sent
  now_here m =
      ap (λ b. cond b (under_way port m ++ notes_to p.own.received m e.sent) (under_way port m))
      (same_number port)

  -- any queue
  queue_after : (a m : ℕ) (b : Bool) → (port == a) ≡ b →
      option_map (λ (c : Channel). map (λ (x : Note). x.item) (now a m)) (channel M a m)
      ≡ queue (commit port e T) a m
  queue_after a m true k =
      subst (λ y. option_map (λ (c : Channel). map (λ (x : Note). x.item) (now y m))
      (channel M y m) ≡ queue (commit port e T) y m) (eqb-true port a k)
      (ap (λ xs. whatever (map (λ (x : Note). x.item) xs) (channel M port m)) (now_here m)
      ∙ ap (whatever (map (λ (x : Note). x.item)
      (under_way port m ++ notes_to p.own.received m e.sent)))
      (channel_here port (place_after (effected p e)) keeps N pl there m)
      ∙ channels_there (map (λ (x : Note). x.item)
      (under_way port m ++ notes_to p.own.received m e.sent)) m (effected p e).sent pl.channels
      ∙ ap (λ o. whatever (map (λ (x : Note). x.item)
      (under_way port m ++ notes_to p.own.received m e.sent)) (option_and_then (channel_to m) o))
      (sym there)
      ∙ own_queue m (channel N port m) refl)
  queue_after a m false k =
      ap (λ b. whatever (map (λ (x : Note). x.item)
      (cond b (under_way a m ++ notes_to p.own.received m e.sent) (under_way a m)))
      (channel M a m)) (flipped port a k)
      ∙ ap (whatever (map (λ (x : Note). x.item) (under_way a m)))
      (channel_elsewhere port (place_after (effected p e)) keeps N a m k)
      ∙ shows.queues a m
      ∙ sym (ap (λ s. option_and_then (queue_to m) s)
      (elsewhere port a e T.stations (flipped port a k)))

  -- the network shows the state after the effect
  pub commit_shows : Shows M now (commit port e T)
  commit_shows = record {
    ports = ports_same port (place_after (effected p e)) keeps N ∙ shows.ports
        ∙ sym (same_keys (λ s. s.port) (committed e) (λ s. refl) port T.stations);
    nodes = λ x. node_after x (port == x) refl;
    queues = λ a m. queue_after a m (port == a) refl;
  }
