-- Every rule of a step is moves of what a sound node has of foreign objects.
use Rattle.do_facts.specs.nodes.Cause as cause
use Rattle.do_facts.proofs.nodes.Closing as closings
use Rattle.do_facts.proofs.nodes.Leaving as leavings
use Rattle.do_facts.proofs.nodes.RunWalks as runs
use Rattle.do_facts.proofs.nodes.Starting as starts
use Rattle.do_facts.proofs.nodes.TakeWalks as takes
use Rattle.do_machine.specs.declared.item.Item.{Item}
use Rattle.std.proofs.Common.{◌≡◌, ℕ, Bool, true, false, List, [], refl, subst}
use Rattle.std.specs.Prelude.{None, Option, Some}
use Rattle.do_base.specs.declared.values.value.Value.{Value}
use Rattle.do_class.specs.Class.{Class}
use Rattle.do_machine.specs.{declared.{node.Node.Node, state.Effect.Effect}, ends.Closing.closing}
use Rattle.do_machine.specs.{Context.Context, Start.start_effect, State.is_open}
use Rattle.do_machine.specs.{ends.TimeOut.time_out, run.Run.{Acting, run_effect}, held.Kept.kept}
use Rattle.do_machine.specs.{held.Leaving.{freeing, leaving}, take.Take.take_effect}
use Rattle.do_facts.specs.{Net.noted, Moves.Runs, View.{AreMoves, AreMovesIf, posted}}
use Rattle.do_facts.specs.links.{Links.{atoms, links, links_of}, Moves.link_rules, Sound.IsSound}
use Rattle.do_facts.{specs.nodes.{Judged.Judge, Moves.Wrote}, proofs.links.Acts.act_rules}
use Rattle.do_facts.proofs.links.{NodeAtoms.{item_seen, link_atoms}, NodeMoves.{Sound, links_act}}
use Rattle.do_facts.proofs.{links.NodeMoves.links_move, nodes.Judges.{judge_alone, judge_leaving}}
use Rattle.do_facts.proofs.nodes.{Judges.{judge_of, unasked}, ItemsSeen.taken_seen, Ruled.run_wrote}

-- an effect is moves that free nothing, where there is one
acts_if : (j : Judge) → Sound j.first → cause.frees j.cause ≡ false → (written : List Wrote)
    (found : Option Effect) → runs.IfDoes j written found →
    AreMovesIf links act_rules j.first found
acts_if j ok acts written None d = tt
acts_if j ok acts written (Some e) d = links_act j ok acts e.node e.sent d

-- a start
pub by_start : (table : List Class) (selector : List ℕ) (values : List Value) (n : Node) →
    IsSound (links_of n) → AreMovesIf links act_rules n (start_effect table selector values n)
by_start table selector values n ok =
    let j = judge_alone table n (cause.Start selector values) in
    acts_if j ok refl [] (start_effect table selector values n)
    (starts.by_start j selector values refl)

-- a run
pub by_run : (act : Acting) (c : Context) → IsSound (links_of c.node) →
    AreMovesIf links act_rules c.node (run_effect act c)
by_run act c ok =
    let j = judge_of act c cause.Run in
    acts_if j ok refl (run_wrote j c.node.stack) (run_effect act c) (runs.by_run j)

-- a time-out
pub by_time_out : (n : Node) → IsSound (links_of n) → AreMovesIf links act_rules n (time_out n)
by_time_out n ok =
    let j = judge_alone [] n cause.TimeOut in
    acts_if j ok refl [] (time_out n) (starts.by_time_out j refl)

-- a node closes its end
pub by_closing : (peer : ℕ) (n : Node) → is_open n peer ≡ true → IsSound (links_of n) →
    AreMoves links act_rules n [] (closing peer n)
by_closing peer n ends ok =
    let j = judge_alone [] n (cause.Close peer) in
    let e = closing peer n in
    links_act j ok refl e.node e.sent (closings.by_closing j peer n refl ends (λ o. o))

-- an item is taken
pub by_take : (c : Context) (from : ℕ) → is_open c.node from ≡ true → (item : Item) →
    IsSound (links_of c.node) →
    AreMoves links act_rules c.node (noted from (atoms item)) (take_effect c from item)
by_take c from ends item ok =
    let j = judge_of unasked c (cause.Take from item) in
    let e = take_effect c from item in
    subst (λ xs. AreMoves links act_rules c.node xs e)
    (taken_seen links link_atoms item_seen from item)
    (links_act j ok refl e.node e.sent (takes.by_take j from ends item refl))

-- a node that freed what it does not keep leaves what it no longer refers to
pub by_dropping : (entry : ℕ → ℕ → Bool) (n : Node) → IsSound (links_of n) →
    let m = (freeing (kept entry n) n).node in
    Runs act_rules (links_of m) [] (links_of (leaving entry n).node)
    (posted links (leaving entry n).sent)
by_dropping entry n ok =
    let j = judge_leaving entry false (freeing (kept entry n) n).node in
    let e = leaving entry n in
    links_act j (leavings.freed_sound entry n ok) refl e.node e.sent
    (leavings.by_dropping j refl entry n (λ s. s))

-- what follows a step
pub by_leaving : (entry : ℕ → ℕ → Bool) (n : Node) → IsSound (links_of n) →
    AreMoves links link_rules n [] (leaving entry n)
by_leaving entry n ok =
    let j = judge_leaving entry true n in
    links_move j ok (leaving entry n) (leavings.by_leaving j refl refl)
