-- What a site sends by an effect has a spelling, where the items in the machine's queues have one.
use Rattle.std.proofs.Common.{◌≡◌, ◌==◌, ◌++◌, ◌≤◌, ℕ, Bool, true, false, List, map, refl, sym, ap}
use Rattle.std.proofs.Common.{◌∙◌, subst, arith}
use Rattle.std.specs.Prelude.{None, Option, Some, is_some, nat_lt, option_map}
use Rattle.std.{specs.List.AllByRecursion, proofs.lemmas.Bool.Decides.nat_tests}
use Rattle.do_class.specs.Class.{Class}
use Rattle.do_machine.specs.declared.{item.Item.Item, node.Node.Node, state.Effect.Effect}
use Rattle.do_machine.specs.{declared.state.State.State, Commit.{commit, items_to}}
use Rattle.do_machine.specs.{Objects.object_at, State.{holds, queue}}
use Rattle.do_facts.specs.{View.posted, links.Links.{links, links_of}}
use Rattle.do_facts.proofs.{machine.Queues.grows_behind, EachOfLists.each_latter}
use Rattle.do_export.specs.Counts.{Counts, count_of}
use Rattle.do_coder.specs.Packets.{surroundings}
use Rattle.do_network.specs.{Links.Part, Net.{Net, Place, part_at}, Spelled.IsSpelledSending}
use Rattle.do_network.specs.fits.Notes.{Note}
use Rattle.do_limits.specs.Spelled.{ItemIsSpelled}
use Rattle.do_agreement.specs.{NetCommit.effected, NotesSent.notes_to}
use Rattle.do_agreement.proofs.commits.{CommitShows.items_sent, Moving.{Commits, site_there}}
use Rattle.do_within.proofs.sent.Amounts.{GivesBack, amounts_sent, notes_spelled, returned_held}
use Rattle.do_within.proofs.sent.Peers.{linked_there}
use Rattle.do_within.proofs.sent.Sendings.{GoesSpelled, NotesSpelled, all_spelled}

-- no object was received more often than an amount can say
abbrev pub FewReceived : Counts → Type 0
FewReceived received = (home serial : ℕ) → count_of received home serial ≤ 9223372036854775807

-- all that waits in the queues from a port has a spelling
abbrev pub WaitsSpelled : List Class → ℕ → State → Type 0
WaitsSpelled table port S =
    (to : ℕ) (waiting : List Item) → queue S port to ≡ Some waiting →
    AllByRecursion (ItemIsSpelled (surroundings table port to)) waiting

module _ {table : List Class} {port : ℕ} {n : Node} {N : Net} {under_way : ℕ → ℕ → List Note}
    {T : State} {closes : ℕ → ℕ → Bool} {pl : Place} {e : Effect}
    (commits : Commits table port n N under_way T closes pl e)
    (few : FewReceived pl.part.own.received)
    (spelled : WaitsSpelled table port (commit port e T)) where
  -- the site
  abbrev p : Part
  p = pl.part

  -- what it gives back was received
  gives : (to : ℕ) → GivesBack p.own.received to e.sent
  gives to s k = (above (holds p.own.node (object_at to s)) held was, few to s)
    where
      held : holds p.own.node (object_at to s) ≡ true
      held = returned_held to s (links_of p.own.node) (links_of e.node) (posted links e.sent)
          (commits.is.account to s 1) k

      was : nat_lt 0 (count_of p.own.received to s) ≡ holds p.own.node (object_at to s)
      was = (commits.fit.owns port p (site_there commits)).received (object_at to s)

      above : (b : Bool) → b ≡ true → nat_lt 0 (count_of p.own.received to s) ≡ b →
          1 ≤ count_of p.own.received to s
      above b h q = grind (arith, nat_tests, h, q)

  -- the queue to a site that is there
  queue_is : (to : ℕ) (q : Part) → part_at N to ≡ Some q → (port == to) ≡ false →
      queue T port to ≡ Some (map (λ (x : Note). x.item) (under_way port to))
  queue_is to q k other =
      sym (commits.shows.queues port to)
      ∙ ap (option_map (λ c. map (λ (x : Note). x.item) (under_way port to)))
      (commits.fit.channels port to p q (site_there commits) k other).stands

  -- what goes to it has a spelling
  notes_there : (to : ℕ) (found : Option Part) → part_at N to ≡ found → is_some found ≡ true →
      (port == to) ≡ false → NotesSpelled table port to (notes_to p.own.received to e.sent)
  notes_there to None k some other = absurd (cc)
  notes_there to (Some q) k some other =
      let waiting = map (λ (x : Note). x.item) (under_way port to) in
      let P = ItemIsSpelled (surroundings table port to) in
      notes_spelled (surroundings table port to) (notes_to p.own.received to e.sent)
      (subst (AllByRecursion P) (sym (items_sent p.own.received to e.sent))
      (each_latter P waiting (items_to to e.sent)
      (spelled to (waiting ++ items_to to e.sent)
      (grows_behind port to e T.stations waiting (queue_is to q k other)))))
      (amounts_sent p.own.received to e.sent (gives to))

  -- what goes to each peer has a spelling
  goes_spelled : GoesSpelled table port p.own.received e.sent p.links
  goes_spelled to linked =
      let links_there = commits.fit.links port p (site_there commits) in
      let at = linked_there N port to p.links links_there linked in
      notes_there to (part_at N to) refl at.0 at.1

  -- all that the site sends by the effect
  pub effect_spelled : AllByRecursion (IsSpelledSending table port) (effected p e).sent
  effect_spelled = all_spelled table port p.own.received e.sent p.links goes_spelled
