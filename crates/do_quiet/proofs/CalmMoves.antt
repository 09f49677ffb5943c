-- A move that changes no end and sends none leaves all ends open.
use Rattle.do_machine.specs.declared.item.Item.TheVariants as items
use Rattle.std.proofs.Common.{◌≡◌, ◌==◌, ◌||◌, ◌++◌, ◌∙◌, ℕ, Bool, true, false, cond, not, List, []}
use Rattle.std.proofs.Common.{◌∷◌, refl, sym, ap, map, filter}
use Rattle.std.specs.{Prelude.{None, Option, Some, unwrap_or}, List.list_any}
use Rattle.std.proofs.lemmas.{Bool.eqb-true, List.Folds.list_any-append}
use Rattle.do_base.specs.names.Names.{ObjectName}
use Rattle.do_packet.specs.Met.{has_object}
use Rattle.do_machine.specs.declared.{item.Item.Item, node.Node.Node, state.Effect.Effect}
use Rattle.do_machine.specs.declared.state.{Parcel.Parcel, State.State}
use Rattle.do_machine.specs.{Commit.{commit, items_to, moved}, Context.around, State.{node, queue}}
use Rattle.do_machine.specs.held.{Kept.kept, Leaving.{freeing, leaving, left}, Refers.node_objects}
use Rattle.do_facts.proofs.machine.{Queues.grows_behind, passing.NoQueue.stays_none}
use Rattle.do_facts.proofs.machine.{passing.Quiet.NoneReleases, follows.Steady.{is_end, is_release}}
use Rattle.do_facts.proofs.steps.OthersStay.{move_leaves_others, move_leaves_own}
use Rattle.do_facts.proofs.steps.QueuesOfSteps.{move_leaves_queues}
use Rattle.do_quiet.specs.Quiet.{AllEndsOpen}

-- an effect that changes no end, and sends none
pub record Calm (n : Node) (e : Effect) : Type 0 where
  pub ends : e.node.open_to ≡ n.open_to
  pub sent : NoneReleases e.sent

-- all ends are open, and no end is on its way
pub record Undisturbed (S : State) : Type 0 where
  pub reach : AllEndsOpen S
  pub none : (from to : ℕ) (items : List Item) → queue S from to ≡ Some items →
      list_any is_end items ≡ false

-- what releases nothing releases nothing by an end
no_end : (item : Item) → is_release item ≡ false → is_end item ≡ false
no_end (items.End serials) h = absurd (cc)
no_end _ h = refl

-- an item more of a peer, or not, is no end where those behind it are none
one_more : (to : ℕ) (p : Parcel) (ps : List Parcel) → is_end p.item ≡ false →
    list_any is_end (items_to to ps) ≡ false → list_any is_end (items_to to (p ∷ ps)) ≡ false
one_more to p ps first rest = go (p.to == to)
  where
    go : (b : Bool) → list_any is_end (map (λ x. x.item)
        (cond b (p ∷ filter (λ x. x.to == to) ps) (filter (λ x. x.to == to) ps))) ≡ false
    go true = ap (λ b. b || list_any is_end (items_to to ps)) first ∙ rest
    go false = rest

-- parcels that release nothing have no end
none_sent : (to : ℕ) (ps : List Parcel) → NoneReleases ps →
    list_any is_end (items_to to ps) ≡ false
none_sent to [] h = refl
none_sent to (p ∷ ps) h = one_more to p ps (no_end p.item h.0) (none_sent to ps h.1)

-- nor has what tells that objects were left
none_left : (to : ℕ) (os : List ObjectName) →
    list_any is_end (items_to to (map left os)) ≡ false
none_left to [] = refl
none_left to (o ∷ os) = one_more to (left o) (map left os) refl (none_left to os)

-- two lists without an end
none_behind : (xs ys : List Item) → list_any is_end xs ≡ false → list_any is_end ys ≡ false →
    list_any is_end (xs ++ ys) ≡ false
none_behind xs ys h k =
    list_any-append is_end xs ys ∙ ap (λ b. b || list_any is_end ys) h ∙ k

module _ (port : ℕ) (n : Node) (e : Effect) (U : State) (here : node U port ≡ Some n)
    (calm : Calm n e) (before : Undisturbed U) where
  -- the state after the effect
  abbrev V : State
  V = commit port e U

  -- what follows it
  abbrev d : Effect
  d = leaving (around V e.node).entry e.node

  -- the node before it leaves objects, and those that it leaves
  abbrev m : Node
  m = (freeing (kept (around V e.node).entry e.node) e.node).node

  abbrev gone : List ObjectName
  gone = filter (λ o. not (has_object (node_objects m) o)) m.held

  -- the state after both
  abbrev T : State
  T = (moved port U e).state

  -- each node has the ends that it had
  ends_as_were : (other : ℕ) (x : Node) → node T other ≡ Some x →
      (k : Node) × (node U other ≡ Some k) × (x.open_to ≡ k.open_to)
  ends_as_were other x h = go (other == port) refl
    where
      go : (b : Bool) → (other == port) ≡ b →
          (k : Node) × (node U other ≡ Some k) × (x.open_to ≡ k.open_to)
      go false q = (x, sym (move_leaves_others port other e U q) ∙ h, refl)
      go true q =
          let same : other ≡ port = eqb-true other port q in
          let is : d.node ≡ x =
          ap (λ y. unwrap_or y x)
          (sym (move_leaves_own port n e U here) ∙ ap (node T) (sym same) ∙ h) in
          (n, ap (node U) same ∙ here, ap (λ y. y.open_to) (sym is) ∙ calm.ends)

  -- no end waits in a queue of the node
  own_none : (to : ℕ) (items : List Item) → queue T port to ≡ Some items →
      (found : Option (List Item)) → queue U port to ≡ found → list_any is_end items ≡ false
  own_none to items h None q =
      absurd (no (stays_none port to d V.stations (stays_none port to e U.stations q)))
    where
      no : queue T port to ≡ None → ⊥
      no x = cc (x, h)
  own_none to items h (Some w) q =
      let first = items_to to e.sent in
      let then = items_to to d.sent in
      let grown = grows_behind port to d V.stations (w ++ first)
      (grows_behind port to e U.stations w q)
      in
      ap (λ x. list_any is_end (unwrap_or x items)) (sym h ∙ grown)
      ∙ none_behind (w ++ first) then
      (none_behind w first (before.none port to w q) (none_sent to e.sent calm.sent))
      (none_left to gone)

  -- no end waits
  none_waits : (from to : ℕ) (items : List Item) → queue T from to ≡ Some items →
      list_any is_end items ≡ false
  none_waits from to items h = go (from == port) refl
    where
      go : (b : Bool) → (from == port) ≡ b → list_any is_end items ≡ false
      go false q = before.none from to items (sym (move_leaves_queues port from to e U q) ∙ h)
      go true q =
          let same : from ≡ port = eqb-true from port q in
          own_none to items (ap (λ p. queue T p to) (sym same) ∙ h) (queue U port to) refl

  -- a move leaves all ends open
  pub move_undisturbed : Undisturbed T
  move_undisturbed = record {
    reach = record {
      reach = λ a b x y p q apart.
          let r = ends_as_were a x p in
          let s = ends_as_were b y q in
          ap (λ ps. list_any (λ z. z == b) ps) r.2
          ∙ before.reach.reach a b r.0 s.0 r.1 s.1 apart;
    };
    none = none_waits;
  }
