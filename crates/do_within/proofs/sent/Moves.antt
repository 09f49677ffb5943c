-- What a site sends when its node moves has a spelling, where the items in the queues of the
-- machine after the move have one.
use Rattle.do_agreement.proofs.commits.Moving as moving
use Rattle.std.proofs.Common.{◌≡◌, ◌++◌, ◌≤◌, ℕ, Bool, true, false, cond, List, sym, subst, arith}
use Rattle.std.specs.List.{AllByRecursion}
use Rattle.do_class.specs.Class.{Class}
use Rattle.do_machine.specs.declared.{node.Node.Node, state.{Effect.Effect, State.State}}
use Rattle.do_machine.specs.{Commit.{commit, items_to, moved}, Context.around, Objects.object_at}
use Rattle.do_machine.specs.{State.holds, held.Leaving.leaving}
use Rattle.do_facts.specs.links.{Links.links_of, Sound.IsSound}
use Rattle.do_facts.proofs.{machine.Queues.grows_behind, EachOfLists.each_former}
use Rattle.do_export.specs.Counts.{count_of}
use Rattle.do_coder.specs.Packets.{surroundings}
use Rattle.do_network.specs.{Links.Part, Net.{Net, Place}, Own.Own, Counting.counted, Site.moves}
use Rattle.do_network.specs.{Spelled.{IsSpelledSending, SentSpelled}, fits.Notes.Note}
use Rattle.do_limits.specs.Spelled.{ItemIsSpelled}
use Rattle.do_agreement.specs.{NetCommit.effected, Tallies.left_after}
use Rattle.do_agreement.proofs.counts.ReturnsSent.{held_count}
use Rattle.do_agreement.proofs.commits.Moving.{Commits, leaves, left_alike, whole}
use Rattle.do_within.proofs.sent.Effects.{FewReceived, WaitsSpelled, effect_spelled}
use Rattle.do_within.proofs.sent.Sendings.{all_both}

-- an effect counts nothing more as received
pub received_less : (p : Own) (e : Effect) (home serial : ℕ) →
    count_of (counted p e).received home serial ≤ count_of p.received home serial
received_less p e home serial =
    less (holds e.node (object_at home serial)) (count_of p.received home serial)
    (held_count e.node p.received home serial)
  where
    less : (b : Bool) (c : ℕ) {d : ℕ} → d ≡ cond b c 0 → d ≤ c
    less true c e = omega (arith, e)
    less false c e = omega (arith, e)

-- what waits after an effect waits before it, with a spelling where that has one
waits_before : (table : List Class) (port : ℕ) (e : Effect) (U : State) →
    WaitsSpelled table port (commit port e U) → WaitsSpelled table port U
waits_before table port e U spelled to waiting h =
    each_former (ItemIsSpelled (surroundings table port to)) waiting (items_to to e.sent)
    (spelled to (waiting ++ items_to to e.sent) (grows_behind port to e U.stations waiting h))

module _ {table : List Class} {port : ℕ} {n : Node} {N : Net} {under_way : ℕ → ℕ → List Note}
    {T : State} {closes : ℕ → ℕ → Bool} {pl : Place} {e : Effect}
    (commits : Commits table port n N under_way T closes pl e) (sound : IsSound (links_of e.node))
    (few : FewReceived pl.part.own.received)
    (spelled : WaitsSpelled table port (moved port T e).state) where
  -- the site
  abbrev p : Part
  p = pl.part

  -- the state after the effect
  abbrev U : State
  U = moving.U commits

  -- what is sent by the effect has a spelling
  former : AllByRecursion (IsSpelledSending table port) (effected p e).sent
  former =
      effect_spelled commits few
      (waits_before table port (leaving (around U e.node).entry e.node) U spelled)

  -- what is sent then has a spelling
  latter : AllByRecursion (IsSpelledSending table port)
      (effected (effected p e).part (left_after p.own e)).sent
  latter =
      effect_spelled (leaves commits sound former) few_still
      (subst (λ d. WaitsSpelled table port (commit port d U))
      (sym (left_alike commits sound former)) spelled)
    where
      few_still : FewReceived (effected p e).part.own.received
      few_still home serial = omega (arith, few home serial, received_less p.own e home serial)

  -- all that the site sends has a spelling
  pub move_spelled : SentSpelled table (moves p e)
  move_spelled =
      whole commits (all_both (IsSpelledSending table port) (effected p e).sent _ former latter)
