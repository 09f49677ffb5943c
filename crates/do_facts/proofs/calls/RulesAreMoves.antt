-- Every rule of a step is moves of a node's calls.
use Rattle.do_facts.specs.nodes.Cause as cause
use Rattle.do_facts.proofs.nodes.Closing as closings
use Rattle.do_facts.proofs.nodes.Leaving as leavings
use Rattle.do_facts.proofs.nodes.RunWalks as runs
use Rattle.do_facts.proofs.nodes.Starting as starts
use Rattle.do_facts.proofs.nodes.TakeWalks as takes
use Rattle.do_machine.specs.declared.item.Item.{Item}
use Rattle.std.proofs.Common.{◌≡◌, ℕ, Bool, true, List, [], refl, subst}
use Rattle.std.specs.Prelude.{None, Option, Some}
use Rattle.do_base.specs.declared.values.value.Value.{Value}
use Rattle.do_class.specs.Class.{Class}
use Rattle.do_machine.specs.{declared.{node.Node.Node, state.Effect.Effect}, ends.Closing.closing}
use Rattle.do_machine.specs.{Context.Context, Start.start_effect, State.is_open}
use Rattle.do_machine.specs.{ends.TimeOut.time_out, run.Run.{Acting, run_effect}}
use Rattle.do_machine.specs.{held.Leaving.leaving, take.Take.take_effect}
use Rattle.do_facts.specs.{Net.noted, View.{AreMoves, AreMovesIf}, calls.Calls.{atoms, calls}}
use Rattle.do_facts.specs.{calls.Moves.call_rules, nodes.{Judged.Judge, Moves.Wrote}}
use Rattle.do_facts.proofs.calls.{NodeAtoms.{call_atoms, item_seen}, NodeMoves.calls_move}
use Rattle.do_facts.proofs.nodes.Judges.{judge_alone, judge_leaving, judge_of, unasked}
use Rattle.do_facts.proofs.nodes.{ItemsSeen.taken_seen, Ruled.run_wrote}

-- an effect is moves, where there is one
moves_if : (j : Judge) (written : List Wrote) (found : Option Effect) →
    runs.IfDoes j written found → AreMovesIf calls call_rules j.first found
moves_if j written None d = tt
moves_if j written (Some e) d = calls_move j e d

-- a start
pub by_start : (table : List Class) (selector : List ℕ) (values : List Value) (n : Node) →
    AreMovesIf calls call_rules n (start_effect table selector values n)
by_start table selector values n =
    let j = judge_alone table n (cause.Start selector values) in
    moves_if j [] (start_effect table selector values n) (starts.by_start j selector values refl)

-- a run
pub by_run : (act : Acting) (c : Context) →
    AreMovesIf calls call_rules c.node (run_effect act c)
by_run act c =
    let j = judge_of act c cause.Run in
    moves_if j (run_wrote j c.node.stack) (run_effect act c) (runs.by_run j)

-- a time-out
pub by_time_out : (n : Node) → AreMovesIf calls call_rules n (time_out n)
by_time_out n =
    let j = judge_alone [] n cause.TimeOut in moves_if j [] (time_out n) (starts.by_time_out j refl)

-- an item is taken
pub by_take : (c : Context) (from : ℕ) → is_open c.node from ≡ true → (item : Item) →
    AreMoves calls call_rules c.node (noted from (atoms item)) (take_effect c from item)
by_take c from ends item =
    let j = judge_of unasked c (cause.Take from item) in
    let e = take_effect c from item in
    subst (λ xs. AreMoves calls call_rules c.node xs e)
    (taken_seen calls call_atoms item_seen from item)
    (calls_move j e (takes.by_take j from ends item refl))

-- a node closes its end
pub by_closing : (peer : ℕ) (n : Node) → is_open n peer ≡ true →
    AreMoves calls call_rules n [] (closing peer n)
by_closing peer n ends =
    let j = judge_alone [] n (cause.Close peer) in
    calls_move j (closing peer n) (closings.by_closing j peer n refl ends (λ o. o))

-- what follows a step
pub by_leaving : (entry : ℕ → ℕ → Bool) (n : Node) →
    AreMoves calls call_rules n [] (leaving entry n)
by_leaving entry n =
    let j = judge_leaving entry true n in
    calls_move j (leaving entry n) (leavings.by_leaving j refl refl)
