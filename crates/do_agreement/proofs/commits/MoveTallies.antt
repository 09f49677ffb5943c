-- A network tallies with the state after a node moved: by an effect and by what it leaves then.
use Rattle.do_agreement.proofs.commits.Moving as moving
use Rattle.std.proofs.Common.{◌≡◌, ◌++◌, ℕ, Bool, List, ap, subst}
use Rattle.std.specs.{Prelude.true, List.AllByRecursion}
use Rattle.do_class.specs.Class.{Class}
use Rattle.do_machine.specs.declared.{node.Node.Node, state.{Effect.Effect, State.State}}
use Rattle.do_machine.specs.{Commit.{commit, moved}, Context.around, held.Leaving.leaving}
use Rattle.do_facts.specs.links.{Links.links_of, Sound.IsSound}
use Rattle.do_facts.proofs.EachOfLists.{each_former, each_latter}
use Rattle.do_network.specs.{Links.Part, Net.{Net, Place}, Site.moves}
use Rattle.do_network.specs.{Spelled.{IsSpelledSending, SentSpelled}, fits.Notes.Note}
use Rattle.do_agreement.specs.{NetCommit.{effected, net_commit}, Shows.Shows}
use Rattle.do_agreement.{specs.Tallies.{Tallies, left_after}, proofs.commits.Moving.Commits}
use Rattle.do_agreement.proofs.commits.Moving.{halves, leaves, left_alike, mid_fit, mid_shows}

module _ {table : List Class} {port : ℕ} {n : Node} {N : Net} {under_way : ℕ → ℕ → List Note}
    {T : State} {closes : ℕ → ℕ → Bool} {pl : Place} {e : Effect}
    (commits : Commits table port n N under_way T closes pl e) (sound : IsSound (links_of e.node))
    (spelled : SentSpelled table (moves pl.part e)) where
  -- the site
  abbrev p : Part
  p = pl.part

  -- what it leaves then
  abbrev d : Effect
  d = left_after p.own e

  -- what it sends by the effect has a spelling
  former : AllByRecursion (IsSpelledSending table port) (effected p e).sent
  former = each_former (IsSpelledSending table port) (effected p e).sent _ (halves commits spelled)

  -- what it leaves is what the machine's node leaves
  alike : d ≡ leaving (around (moving.U commits) e.node).entry e.node
  alike = left_alike commits sound former

  -- so it shows what that shows
  pub shown_alike : record { enabled = true; shown = e.shown ++ d.shown } ≡ (moved port T e).outcome
  shown_alike = ap (λ (x : Effect). record { enabled = true; shown = e.shown ++ x.shown }) alike

  -- and the network tallies with the state
  pub move_tallies : Tallies table (net_commit port (effected p e).part d (moving.M commits))
      (moved port T e).state
  move_tallies =
      let left = leaves commits sound former in
      record {
        under_way = moving.between left;
        counts = mid_fit left
            (each_latter (IsSpelledSending table port) (effected p e).sent _
            (halves commits spelled));
        shows = subst (λ x. Shows (moving.M left) (moving.between left)
            (commit port x (moving.U commits))) alike (mid_shows left);
      }
