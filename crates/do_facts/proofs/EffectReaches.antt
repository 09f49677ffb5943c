-- A state is reached by the moves of an effect, and by those of what follows it.
use Rattle.std.proofs.Common.{◌≡◌, ◌++◌, ℕ, false, List, [], ◌∷◌, refl, sym, ap, ◌∙◌, subst}
use Rattle.std.specs.Prelude.{None, Some}
use Rattle.do_base.specs.declared.events.shown.Shown.{Shown}
use Rattle.do_machine.specs.declared.{node.Node.Node, state.{Effect.Effect, State.State}}
use Rattle.do_machine.specs.{Commit.{commit, moved, then_leaves}, Context.around}
use Rattle.do_machine.specs.{State.{is_open, node, queue}, held.Leaving.leaving}
use Rattle.do_facts.proofs.machine.{follows.States.changed, passing.Linked.commit_leaves}
use Rattle.do_facts.specs.{ByEvents.IsMoveOf, Net.{Note, atoms_of, net_after}}
use Rattle.do_facts.specs.Moves.{Mays, Reaches, Rules, Runs, afters, all_posts}
use Rattle.do_facts.specs.View.{AreMoves, View, net_of, part_seen, posted}
use Rattle.do_facts.proofs.{Bridge.Bridge, CommitAsNet.net_committed, Notes.atoms_behind}
use Rattle.do_facts.proofs.Paths.{reaches_by, reaches_on}

-- a node's ends are closed towards each port to which it has no queue
abbrev pub IsLinked : State → ℕ → Node → Type 0
IsLinked S port n = (peer : ℕ) → queue S port peer ≡ None → is_open n peer ≡ false

module _ {P A V : Type 0} (view : View P A) (rules : Rules P A V) (Ok : P → Type 0)
    (bridge : Bridge view rules Ok) where
  -- moves open no end, and post nothing over a closed one
  pub closed_still : (vs : List V) (p : P) (peer : ℕ) → Mays rules p vs →
      rules.opens p peer ≡ false → (rules.opens (afters rules p vs) peer ≡ false)
      × (atoms_of peer (all_posts rules p vs) ≡ [])
  closed_still [] p peer may h = (h, refl)
  closed_still (v ∷ vs) p peer may h =
      let now = bridge.closed p v peer may.0 h in
      let then = closed_still vs (rules.after p v) peer may.1 now.0 in (
        then.0,
        atoms_behind peer (rules.posts p v) (all_posts rules (rules.after p v) vs)
            ∙ ap (λ xs. xs ++ atoms_of peer (all_posts rules (rules.after p v) vs)) now.1 ∙ then.1,
      )

  -- a node stays as it should be
  pub ok_still : (vs : List V) (p : P) → Mays rules p vs → Ok p → Ok (afters rules p vs)
  ok_still [] p may ok = ok
  ok_still (v ∷ vs) p may ok =
      ok_still vs (rules.after p v) may.1 (bridge.stays p v ok may.0)

  module _ (port : ℕ) (S : State) (n : Node) (here : node S port ≡ Some n)
      (linked : IsLinked S port n) (ok : Ok (view.part n)) where
    module _ (taken : List (Note A)) (e : Effect) (moves : AreMoves view rules n taken e) where
      -- the part of the node
      abbrev p : P
      p = view.part n

      -- the ends of the node, once it moved
      ends_after : (peer : ℕ) → queue S port peer ≡ None →
          (rules.opens (view.part e.node) peer ≡ false)
          × (atoms_of peer (posted view e.sent) ≡ [])
      ends_after peer q =
          let both = closed_still moves.moves p peer moves.may
          (bridge.opens n peer ∙ linked peer q)
          in (
            ap (λ s. rules.opens s peer) (sym moves.reaches) ∙ both.0,
            ap (atoms_of peer) (sym moves.posts) ∙ both.1,
          )

      -- the net after the effect
      pub net_by : net_of view (commit port e S)
          ≡ net_after port (view.part e.node) [] (posted view e.sent) (net_of view S)
      net_by = net_committed view port e S n here (λ peer q. (ends_after peer q).1)

      -- the node is linked still
      pub linked_by : IsLinked (commit port e S) port e.node
      linked_by peer q =
          sym (bridge.opens e.node peer) ∙ (ends_after peer (commit_leaves port e S port peer q)).0

      -- and as it should be
      pub ok_by : Ok (view.part e.node)
      ok_by = subst Ok moves.reaches (ok_still moves.moves p moves.may ok)

    -- an effect that takes nothing
    pub reaches_commit : (e : Effect) → AreMoves view rules n [] e →
        Reaches rules (IsMoveOf port) (net_of view S) (net_of view (commit port e S))
    reaches_commit e moves =
        subst (λ net. Reaches rules (IsMoveOf port) (net_of view S) net) (sym (net_by [] e moves))
        (reaches_by rules port (net_of view S) [] (view.part e.node) (posted view e.sent)
        (subst (λ q. Runs rules q [] (view.part e.node) (posted view e.sent))
        (sym (ap (part_seen view) here)) moves)
        (λ x h. ((net_of view S).wire x port, refl)))

    -- what follows a step
    pub reaches_leaving : (shown : List Shown) →
        Reaches rules (IsMoveOf port) (net_of view S)
        (net_of view (then_leaves port shown n S).state)
    reaches_leaving shown =
        let entry = (around S n).entry in
        reaches_commit (leaving entry n) (bridge.leave entry n ok)

  -- a node moves
  pub reaches_moved : (port : ℕ) (S : State) (n : Node) → node S port ≡ Some n →
      IsLinked S port n → Ok (view.part n) → (e : Effect) → AreMoves view rules n [] e →
      Reaches rules (IsMoveOf port) (net_of view S) (net_of view (moved port S e).state)
  reaches_moved port S n here linked ok e moves =
      let T = commit port e S in
      reaches_on rules (IsMoveOf port) (net_of view S) (net_of view T)
      (net_of view (moved port S e).state)
      (reaches_commit port S n here linked ok e moves)
      (reaches_leaving port T e.node (changed port e n S.stations here)
      (linked_by port S n here linked ok [] e moves) (ok_by port S n here linked ok [] e moves)
      e.shown)
