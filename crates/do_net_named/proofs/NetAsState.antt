-- A network names what the state names with which it agrees.
use Rattle.do_machine.specs.declared.item.Item.TheVariants as items
use Rattle.std.proofs.Common.{◌≡◌, ◌==◌, ◌∙◌, ◌++◌, ◌+◌, ℕ, Bool, true, false, cond, List, [], ◌∷◌}
use Rattle.std.proofs.Common.{map, Option, Some, None, refl, sym, ap, subst, inl, inr, arith}
use Rattle.std.specs.{Prelude.{find, not, option_map}, List.{IsDistinct, filter, flat_map}}
use Rattle.std.{specs.List.list_any, proofs.lemmas.Bool.Decides.nat_tests}
use mathlib.Core.Path.{fun_ext}
use Rattle.do_base.specs.names.Names.{ObjectName}
use Rattle.do_class.specs.{Class.Class, Table.IsTable}
use Rattle.do_agreement.{specs.Agrees.Agrees, proofs.agreement.SnapshotsAgree.snapshots_same}
use Rattle.do_cycles.proofs.InLists.{any_passes, images_in, joined_alike}
use Rattle.do_facts.specs.Made.{EnteredAreStored}
use Rattle.do_leaks.proofs.Named.{same_is}
use Rattle.do_lost.specs.Named.{named, serves}
use Rattle.do_machine.specs.{Lists.{IsIn, some_passes}, Objects.object_at, State.{is_open, node}}
use Rattle.do_machine.specs.{State.{ports, queue}, World.others, check.Snapshot.snapshot}
use Rattle.do_machine.specs.declared.{item.Item.Item, node.Node.Node, state.State.State}
use Rattle.do_net.specs.Hosts.{net_is_open}
use Rattle.do_network.specs.{Links.Part, Net.{Channel, Net, Place, channel, net_ports, part_at}}
use Rattle.do_network.specs.Snapshot.{net_snapshot}
use Rattle.do_network.specs.fits.Notes.{Note, is_told, once, tells_of, total}
use Rattle.do_packet.specs.Met.{has_object, same_object}
use Rattle.do_trace.specs.declared.outcome.NodeLine.{NodeLine}
use Rattle.do_net_named.specs.{Named.{net_named, part_names, told_in}, Waiting.way_names}
use Rattle.do_net_named.proofs.{NamedAlike.{EndsAreSilent, named_alike}, QueuesStand.QueuesStand}
use Rattle.do_net_named.proofs.StandAlone.{chosen_in}
use Rattle.do_net_named.proofs.StateNamed.{between_names, names_at, state_named, told_at}
use Rattle.do_net_named.proofs.{WaysAsQueues.way_named, FoundIsNamed.passing_in}

-- each port of a network has a site
pub sited : (N : Net) (port : ℕ) → IsIn (net_ports N) port → (p : Part) × (part_at N port ≡ Some p)
sited N port i = go N.places i
  where
    go : (xs : List Place) → IsIn (map (λ x. x.port) xs) port →
        (p : Part) × (option_map (λ (x : Place). x.part) (find (λ x. port == x.port) xs) ≡ Some p)
    go [] j = absurd j
    go (x ∷ xs) j = pick (port == x.port) refl (go xs) j
      where
        self : (a b : ℕ) → a ≡ b → (b == a) ≡ true
        self a b e = grind (arith, nat_tests, e)

        no : {c : Bool} → c ≡ true → c ≡ false → ⊥
        no u v = cc

        pick : (b : Bool) → (port == x.port) ≡ b →
            (IsIn (map (λ y. y.port) xs) port → (p : Part)
            × (option_map (λ (y : Place). y.part) (find (λ y. port == y.port) xs) ≡ Some p)) →
            IsIn (map (λ y. y.port) (x ∷ xs)) port →
            (p : Part) × (option_map (λ (y : Place). y.part)
            (cond b (Some x) (find (λ y. port == y.port) xs)) ≡ Some p)
        pick true e rest k = (x.part, refl)
        pick false e rest (inl same) = absurd (no (self x.port port same) e)
        pick false e rest (inr k) = rest k

-- an end that tells of none of what is under way has no serial
told_by_none : (serial : ℕ) (serials : List ℕ) (xs : List Note) → total (tells_of serial) xs ≡ 0 →
    IsIn (map (λ x. x.item) xs) (items.End serials) →
    list_any (λ s. s == serial) serials ≡ false
told_by_none serial serials [] none i = absurd i
told_by_none serial serials (x ∷ xs) none (inl e) =
    never (list_any (λ s. s == serial) serials)
    (ap (λ item. once (is_told serial item)) (sym e)
    ∙ first (tells_of serial x) (total (tells_of serial) xs) none)
  where
    first : (a b : ℕ) → a + b ≡ 0 → a ≡ 0
    first a b h = omega (arith, h)

    never : (b : Bool) → once b ≡ 0 → b ≡ false
    never false h = refl
    never true h = absurd (omega (arith, h))
told_by_none serial serials (x ∷ xs) none (inr i) =
    told_by_none serial serials xs (rest (tells_of serial x) (total (tells_of serial) xs) none) i
  where
    rest : (a b : ℕ) → a + b ≡ 0 → b ≡ 0
    rest a b h = omega (arith, h)

-- an object among those of a node is of one of their serials
serial_told : (port : ℕ) (o : ObjectName) (serials : List ℕ) →
    has_object (map (object_at port) serials) o ≡ true →
    list_any (λ s. s == o.serial) serials ≡ true
serial_told port o serials h =
    let one = passing_in (same_object o) (map (object_at port) serials) h in
    let at = images_in (object_at port) serials one.0 one.1 in
    any_passes (λ s. s == o.serial) serials at.0 at.1
    (equal at.0 o.serial
    (ap (λ (x : ObjectName). x.serial) (at.2 ∙ sym (same_is o one.0 one.2))))
  where
    equal : (a b : ℕ) → a ≡ b → (a == b) ≡ true
    equal a b e = grind (arith, nat_tests, e)

module _ (table : List Class) (t : IsTable table) (N : Net) (S : State) (agrees : Agrees table N S)
  where
    -- the nodes name the same
    nodes_same : (port : ℕ) → part_names (part_at N port) ≡ names_at (node S port)
    nodes_same port =
        go (part_at N port) ∙ ap names_at (agrees.tallies.shows.nodes port)
      where
        go : (found : Option Part) →
            part_names found ≡ names_at (option_map (λ (p : Part). p.own.node) found)
        go None = refl
        go (Some p) = refl

    -- an end is open in both
    open_same : (port peer : ℕ) → net_is_open N port peer ≡ serves S port peer
    open_same port peer =
        go (part_at N port)
        ∙ ap (some_passes (λ (n : Node). is_open n peer)) (agrees.tallies.shows.nodes port)
      where
        go : (found : Option Part) → elim found [
          | None ↦ false
          | Some p ↦ is_open p.own.node peer
        ] ≡ some_passes (λ (n : Node). is_open n peer)
            (option_map (λ (p : Part). p.own.node) found)
        go None = refl
        go (Some p) = refl

    -- what is under way from a node names the same
    from_same : (from : ℕ) → IsIn (net_ports N) from →
        flat_map (way_names table N from) (others (net_ports N) from)
        ≡ flat_map (between_names S from) (others (net_ports N) from)
    from_same from i =
        joined_alike (way_names table N from) (between_names S from) (others (net_ports N) from)
        (λ to j.
        let at = chosen_in (λ p. not (p == from)) (net_ports N) to j in
        let p = sited N from i in
        let q = sited N to at.0 in
        way_named table t N S agrees from to p.0 q.0 p.1 q.1 (apart to at.1))
      where
        apart : (to : ℕ) → not (to == from) ≡ true → (from == to) ≡ false
        apart to e = grind (arith, nat_tests, e)

    module _ (distinct : IsDistinct (λ (x y : ℕ). x == y) (ports S)) where
      -- closed ends tell of the same
      told_same : flat_map (told_in N) (net_snapshot N).nodes
          ≡ flat_map (told_at S) (snapshot S).nodes
      told_same =
          ap (λ f. flat_map f (net_snapshot N).nodes) (fun_ext each)
          ∙ ap (λ s. flat_map (told_at S) s.nodes) (snapshots_same table N S agrees distinct)
        where
          each : (line : NodeLine) → told_in N line ≡ told_at S line
          each line =
              ap (λ f. map (λ e. e.object) (filter (λ e. not (f e)) line.entries))
              (fun_ext (λ e. open_same e.peer line.node))

      -- the parts of a network's names are those of the state's
      pub net_as_state : net_named table N ≡ state_named S
      net_as_state =
          let same = agrees.tallies.shows.ports in
          let nodes : flat_map (λ port. part_names (part_at N port)) (net_ports N)
          ≡ flat_map (λ port. names_at (node S port)) (ports S) =
          joined_alike (λ port. part_names (part_at N port)) (λ port. names_at (node S port))
          (net_ports N) (λ port i. nodes_same port)
          ∙ ap (flat_map (λ port. names_at (node S port))) same in
          let between : flat_map (λ from. flat_map (way_names table N from)
          (others (net_ports N) from)) (net_ports N)
          ≡ flat_map (λ from. flat_map (between_names S from) (others (ports S) from))
          (ports S) =
          joined_alike (λ from. flat_map (way_names table N from) (others (net_ports N) from))
          (λ from. flat_map (between_names S from) (others (net_ports N) from)) (net_ports N)
          from_same
          ∙ ap (λ ps. flat_map (λ from. flat_map (between_names S from) (others ps from)) ps)
          same in
          let told = told_same in
          λ i. nodes i ++ between i ++ told i

    -- an end that a node sent over an end that is open still names nothing
    silent : EndsAreSilent S
    silent = record { each = each }
      where
        each : (from to : ℕ) (serials : List ℕ) (sent : List Item) → queue S from to ≡ Some sent →
            IsIn sent (items.End serials) → serves S from to ≡ true → (o : ObjectName) →
            has_object (map (object_at to) serials) o ≡ false
        each from to serials sent e i stands o =
            shut (has_object (map (object_at to) serials) o) refl
          where
            -- what is under way
            xs : List Note
            xs = agrees.tallies.under_way from to

            waits : map (λ x. x.item) xs ≡ sent
            waits = go (channel N from to) (agrees.tallies.shows.queues from to ∙ e)
              where
                go : (found : Option Channel) →
                    option_map (λ c. map (λ (x : Note). x.item) xs) found ≡ Some sent →
                    map (λ (x : Note). x.item) xs ≡ sent
                go None k = absurd (cc)
                go (Some c) k = cc

            -- no end that it sent tells of an object
            none : total (tells_of o.serial) xs ≡ 0
            none = go (part_at N from) refl (open_same from to ∙ stands)
              where
                go : (found : Option Part) → part_at N from ≡ found → elim found [
                  | None ↦ false
                  | Some p ↦ is_open p.own.node to
                ] ≡ true → total (tells_of o.serial) xs ≡ 0
                go None k is = absurd (cc)
                go (Some p) k is = agrees.tallies.counts.silent from to p k is o.serial

            shut : (b : Bool) → has_object (map (object_at to) serials) o ≡ b → b ≡ false
            shut false h = refl
            shut true h =
                absurd (no (serial_told to o serials h) (told_by_none o.serial serials xs none
                (subst (λ sent. IsIn sent (items.End serials)) (sym waits) i)))
              where
                no : {b : Bool} → b ≡ true → b ≡ false → ⊥
                no x y = cc

    -- a network names what the state names
    pub net_named_same : IsDistinct (λ (x y : ℕ). x == y) (ports S) → QueuesStand S →
        EnteredAreStored S → ((port : ℕ) (n : Node) → node S port ≡ Some n → n.port ≡ port) →
        (o : ObjectName) → has_object (net_named table N) o ≡ has_object (named S) o
    net_named_same distinct queues entered home o =
        ap (λ os. has_object os o) (net_as_state distinct)
        ∙ named_alike S o distinct queues entered silent home
