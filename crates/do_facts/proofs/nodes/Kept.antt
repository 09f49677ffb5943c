-- What each move keeps holds of what moves come to.
use Rattle.std.{proofs.Common.{ℕ, List, [], ◌∷◌, subst, sym}, specs.List.AllByRecursion}
use Rattle.do_base.specs.declared.events.shown.Shown.{Shown}
use Rattle.do_machine.specs.declared.node.Node.{Node}
use Rattle.do_facts.specs.{Net.Note, Moves.{Mays, afters, all_posts, all_takes}}
use Rattle.do_facts.proofs.EachOfLists.{each_former, each_joined, each_latter}
use Rattle.do_facts.specs.nodes.{Atoms.Atom, Judged.Judge, May.{may, rules}, Moves.{Move, Wrote}}
use Rattle.do_facts.{specs.nodes.After.{after, posts, takes}, proofs.nodes.Walks.Walks}

-- such atoms come from a peer, or go to it
abbrev pub AllNotes : (ℕ → Atom → Type 0) → List (Note Atom) → Type 0
AllNotes E notes = AllByRecursion (λ k. E k.peer k.atom) notes

-- A fact of nodes, one of the atoms that come from a peer, and one of those that go to it: where a
-- node has it, and what it takes does, each move leaves and posts such
pub record Kept (j : Judge) (G : Node → Type 0) (T E : ℕ → Atom → Type 0) : Type 0 where
  pub each : (n : Node) (v : Move) → G n → may j n v → AllNotes T (takes v) →
      G (after n v) × AllNotes E (posts n v)

module _ (j : Judge) (G : Node → Type 0) (T E : ℕ → Atom → Type 0) (kept : Kept j G T E) where
  -- moves, one after another
  by_moves : (n : Node) (vs : List Move) → Mays (rules j) n vs → G n →
      AllNotes T (all_takes (rules j) vs) →
      G (afters (rules j) n vs) × AllNotes E (all_posts (rules j) n vs)
  by_moves n [] may h t = (h, tt)
  by_moves n (v ∷ vs) may h t =
      let T' = λ (k : Note Atom). T k.peer k.atom in
      let E' = λ (k : Note Atom). E k.peer k.atom in
      let now = kept.each n v h may.0
      (each_former T' (takes v) (all_takes (rules j) vs) t) in
      let then = by_moves (after n v) vs may.1 now.0
      (each_latter T' (takes v) (all_takes (rules j) vs) t) in
      (then.0, each_joined E' (posts n v) (all_posts (rules j) (after n v) vs) now.1 then.1)

  -- what they come to
  pub by_walk : {n q : Node} {taken sent : List (Note Atom)} {written : List Wrote}
      {shown : List Shown} → Walks j n taken written q sent shown → G n → AllNotes T taken →
      G q × AllNotes E sent
  by_walk {n} w h t =
      let came = by_moves n w.moves w.may h (subst (AllNotes T) (sym w.takes) t) in
      (subst G w.reaches came.0, subst (AllNotes E) w.posts came.1)
