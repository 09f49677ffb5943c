-- A take is moves of the node that takes.
use Rattle.std.proofs.Common.{◌≡◌, ◌==◌, ◌++◌, ℕ, Bool, true, false, cond, not, List, [], ◌∷◌, drop}
use Rattle.std.proofs.Common.{refl, sym, ap, ◌∙◌, subst, append-nil}
use Rattle.std.specs.{Prelude.{None, Option, Some, slice_get, unwrap_or}, List.flat_map}
use Rattle.std.proofs.lemmas.Bool.{eqb-true}
use Rattle.do_class.specs.Class.{Class}
use Rattle.do_machine.specs.declared.{item.Item.Item, node.Node.Node, state.Effect.Effect}
use Rattle.do_machine.specs.declared.state.{State.State, Stepped.Stepped}
use Rattle.do_machine.specs.{Commit.{commit, moved, skipped}, Context.context}
use Rattle.do_machine.specs.State.{change, is_open, node, queue, with_queue}
use Rattle.do_facts.specs.laws.Entries.{HasQueues}
use Rattle.do_machine.{specs.take.Take.{can_serve, can_take, take_effect}, proofs.Bools.fails}
use Rattle.do_facts.proofs.{Chains.first_of, machine.follows.States.{changed, requeued}}
use Rattle.do_facts.proofs.machine.passing.Lookups.{none_goes}
use Rattle.do_facts.specs.{Net.{Net, StandFirst, atoms_of, net_after, noted}, ByEvents.IsMoveOf}
use Rattle.do_facts.specs.{Moves.{Happening, Reaches, Rules, Runs}, View.{AreApart, AreMoves, View}}
use Rattle.do_facts.{specs.View.{net_of, part_seen, posted, wire_seen}, proofs.Bridge.Bridge}
use Rattle.do_facts.proofs.EffectReaches.{IsLinked, linked_by, net_by, ok_by, reaches_leaving}
use Rattle.do_facts.proofs.{Nets.net_twice, Notes.{atoms_noted, none_noted}}
use Rattle.do_facts.proofs.Paths.{reaches_by, reaches_on, reaches_same}
use Rattle.do_facts.proofs.RequeueAsNet.{net_requeued, net_taken}

-- the notes that a peer sent stand first where its atoms do
pub noted_first : {P A : Type 0} (port from : ℕ) (net : Net P A) (atoms rest : List A) →
    net.wire from port ≡ atoms ++ rest → StandFirst port (noted from atoms) net
noted_first {A = A} port from net atoms rest h x apart = go (from == x) refl
  where
    go : (b : Bool) → (from == x) ≡ b →
        (more : List A) × (net.wire x port ≡ atoms_of x (noted from atoms) ++ more)
    go true e =
        let same : from ≡ x = eqb-true from x e in (
          rest,
          ap (λ y. net.wire y port) (sym same) ∙ h
              ∙ ap (λ xs. xs ++ rest) (sym (atoms_noted from atoms))
              ∙ ap (λ y. atoms_of y (noted from atoms) ++ rest) same,
        )
    go false e =
        (net.wire x port, ap (λ xs. xs ++ net.wire x port) (sym (none_noted from x atoms e)))

module _ {P A V : Type 0} (view : View P A) (rules : Rules P A V) (Ok : P → Type 0)
    (bridge : Bridge view rules Ok) (S : State) (queues : HasQueues S) (apart : AreApart S)
    (ok : (port : ℕ) (n : Node) → node S port ≡ Some n → Ok (view.part n)) where
  -- what comes of an event, if it is enabled, is reached in such a way
  abbrev pub Comes : (Happening A V → Type 0) → Option Stepped → Type 0
  Comes Way found =
      Reaches rules Way (net_of view S) (net_of view (unwrap_or found (skipped S)).state)

  -- an event that is not enabled
  pub comes_same : (Way : Happening A V → Type 0) → Comes Way None
  comes_same Way = reaches_same rules Way (net_of view S) (net_of view S) refl

  -- an event that a test may skip
  pub comes_if : (Way : Happening A V → Type 0) (b : Bool) (found : Option Stepped) →
      (b ≡ false → Comes Way found) → Comes Way (cond b None found)
  comes_if Way true found h = comes_same Way
  comes_if Way false found h = h refl

  -- a node has its queues
  pub linked_here : (port : ℕ) (n : Node) → node S port ≡ Some n → IsLinked S port n
  linked_here port n here peer q = queues.closed port peer n here q

  module _ (table : List Class) (port from : ℕ) where
    -- the state without the oldest item of a queue
    abbrev rest : List Item → State
    rest behind = change from (with_queue port behind) S

    module _ (n : Node) (item : Item) (behind : List Item) (here : node S port ≡ Some n)
        (waits : queue S from port ≡ Some (item ∷ behind)) (ends : is_open n from ≡ true) where
      -- the state afterwards
      abbrev T : State
      T = rest behind

      -- the effect of the take
      abbrev effect : Effect
      effect = take_effect (context table T n) from item

      -- the atoms of the item
      abbrev atoms : List A
      atoms = view.atoms item

      -- the item is from another node
      other : (from == port) ≡ false
      other =
          fails (from == port)
          (λ h. no (ap (λ x. is_open n x) (sym (eqb-true from port h)) ∙ ends)
          (apart.ends port n here))
        where
          no : is_open n port ≡ true → is_open n port ≡ false → ⊥
          no a b = cc

      -- the atoms stand first
      pub wire_here : (net_of view S).wire from port ≡ atoms ++ flat_map view.atoms behind
      wire_here = ap (wire_seen view) waits

      -- the node is there still
      pub here_still : node T port ≡ Some n
      here_still = requeued from port port behind S.stations ∙ here

      -- and has its queues
      pub linked_still : IsLinked T port n
      linked_still peer q = linked_here port n here peer (none_goes from port behind S port peer q)

      -- the effect
      moves : AreMoves view rules n (noted from atoms) effect
      moves = bridge.take (context table T n) from item ends (ok port n here)

      -- the net without the item
      net_without : net_of view T
          ≡ net_after port (part_seen view (node S port)) (noted from atoms) [] (net_of view S)
      net_without =
          net_requeued view from port S (item ∷ behind) behind waits
          ∙ net_taken port from (net_of view S) atoms (flat_map view.atoms behind) wire_here other

      -- the net after the effect
      pub net_then : net_of view (commit port effect T) ≡ net_after port (view.part effect.node)
          (noted from atoms) (posted view effect.sent) (net_of view S)
      net_then =
          let q = view.part effect.node in
          let sent = posted view effect.sent in
          net_by view rules Ok bridge port T n here_still linked_still (ok port n here)
          (noted from atoms) effect moves
          ∙ ap (net_after port q [] sent) net_without
          ∙ net_twice port (net_of view S) (part_seen view (node S port)) q (noted from atoms) []
          [] sent
          ∙ ap (λ xs. net_after port q xs sent (net_of view S)) (append-nil (noted from atoms))

      -- a take of an item
      comes_taken : Reaches rules (IsMoveOf port) (net_of view S)
          (net_of view (moved port T effect).state)
      comes_taken =
          let U = commit port effect T in
          let q = view.part effect.node in
          let sent = posted view effect.sent in
          reaches_on rules (IsMoveOf port) (net_of view S) (net_of view U)
          (net_of view (moved port T effect).state)
          (subst (λ net. Reaches rules (IsMoveOf port) (net_of view S) net) (sym net_then)
          (reaches_by rules port (net_of view S) (noted from atoms) q sent
          (subst (λ p. Runs rules p (noted from atoms) q sent) (sym (ap (part_seen view) here))
          moves)
          (noted_first port from (net_of view S) atoms (flat_map view.atoms behind) wire_here)))
          (reaches_leaving view rules Ok bridge port U effect.node
          (changed port effect n T.stations here_still)
          (linked_by view rules Ok bridge port T n here_still linked_still (ok port n here)
          (noted from atoms) effect moves)
          (ok_by view rules Ok bridge port T n here_still linked_still (ok port n here)
          (noted from atoms) effect moves) effect.shown)

    -- a take of the oldest item, where there is one
    comes_oldest : (n : Node) (w : List Item) → node S port ≡ Some n → queue S from port ≡ Some w →
        is_open n from ≡ true → Comes (IsMoveOf port) (elim (slice_get w 0) [
          | None ↦ None
          | Some x ↦ Some (moved port (rest (drop 1 w))
              (take_effect (context table (rest (drop 1 w)) n) from x))
        ])
    comes_oldest n [] here waits ends = comes_same (IsMoveOf port)
    comes_oldest n (item ∷ behind) here waits ends = comes_taken n item behind here waits ends

    -- a take from a queue
    comes_from : (n : Node) (waiting : Option (List Item)) → node S port ≡ Some n →
        queue S from port ≡ waiting → is_open n from ≡ true → Comes (IsMoveOf port) (elim waiting [
          | None ↦ None
          | Some w ↦ elim (slice_get w 0) [
            | None ↦ None
            | Some x ↦ Some (moved port (rest (drop 1 w))
                (take_effect (context table (rest (drop 1 w)) n) from x))
          ]
        ])
    comes_from n None here waits ends = comes_same (IsMoveOf port)
    comes_from n (Some w) here waits ends = comes_oldest n w here waits ends

    -- any take
    pub comes_take : (found : Option Node) → node S port ≡ found →
        Comes (IsMoveOf port) (elim found [
          | None ↦ None
          | Some n ↦ cond (not (can_take from n)) None (elim (queue S from port) [
            | None ↦ None
            | Some w ↦ elim (slice_get w 0) [
              | None ↦ None
              | Some x ↦ Some (moved port (rest (drop 1 w))
                  (take_effect (context table (rest (drop 1 w)) n) from x))
            ]
          ])
        ])
    comes_take None here = comes_same (IsMoveOf port)
    comes_take (Some n) here =
        comes_if (IsMoveOf port) (not (can_take from n)) _
        (λ q. comes_from n (queue S from port) here refl
        (first_of (is_open n from) (can_serve n.stack) q))
