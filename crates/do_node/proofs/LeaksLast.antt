-- What nothing can reach in the network of a world once all lines are done.
use Rattle.std.proofs.Common.{◌≡◌, ◌∙◌, ℕ, List, [], ◌∷◌, Result, ap, subst, sym}
use Rattle.std.specs.Prelude.{IfOk}
use Rattle.do_class.specs.Class.{Class}
use Rattle.do_given.specs.Parts.{behaviour_of}
use Rattle.do_lost.specs.Text.{lost_text}
use Rattle.do_machine.specs.{World.opening, check.Blocks.line_step, declared.state.State.State}
use Rattle.do_machine.specs.run.Run.{Acting}
use Rattle.do_native.specs.Acts.{native_act}
use Rattle.do_net.specs.OneMachine.{StandsFor}
use Rattle.do_network.specs.Net.{Net}
use Rattle.do_sched.specs.declared.line.Line.{Line}
use Rattle.do_world.specs.declared.world.World.{World}
use Rattle.do_node.specs.Replaying.{lost_after, world_lost}
use Rattle.do_replay.specs.Replayed.{state_after}

-- A network stands for a state from which the lines that are left lead to a last one
pub record LeadsOn (table : List Class) (act : Acting) (last : State) (N : Net) (left : List Line)
    : Type 0 where
  pub state : State
  pub stands : StandsFor table act N state
  pub leads : state_after table act state left ≡ last

-- before the first line these are all lines
pub leads_first : (table : List Class) (act : Acting) (N : Net) (S : State)
    (lines left : List Line) → left ≡ lines → StandsFor table act N S →
    LeadsOn table act (state_after table act S lines) N left
leads_first table act N S lines left all stands =
    record { state = S; stands = stands; leads = ap (state_after table act S) all }

-- one line more was done
pub leads_next : (table : List Class) (act : Acting) (last : State) (N M : Net) (line : Line)
    (left rest : List Line) → left ≡ line ∷ rest →
    ((S : State) → StandsFor table act N S →
    StandsFor table act M (line_step table act S line).state) →
    LeadsOn table act last N left → LeadsOn table act last M rest
leads_next table act last N M line left rest is done so = record {
  state = (line_step table act so.state line).state;
  stands = done so.state so.stands;
  leads = sym (ap (state_after table act so.state) is) ∙ so.leads;
}

-- where no line is left, it stands for the last
pub leads_last : (table : List Class) (act : Acting) (last : State) (N : Net) (left : List Line) →
    left ≡ [] → LeadsOn table act last N left → StandsFor table act N last
leads_last table act last N left none so =
    subst (StandsFor table act N) (sym (ap (state_after table act so.state) none) ∙ so.leads)
    so.stands

-- the text of what a network came to is that of what nothing can reach after the lines
pub lost_last : {E : Type 0} (w : World) (table t : List Class) (act a : Acting) (N M : Net)
    (lines : List Line) (result : Result (List ℕ) E) → table ≡ w.table →
    act ≡ native_act (behaviour_of w) → t ≡ w.table → a ≡ native_act (behaviour_of w) →
    StandsFor w.table (native_act (behaviour_of w)) N (opening w.table w.nodes) →
    ((S : State) → StandsFor table act N S →
    StandsFor table act M (state_after table act S lines)) →
    ((S : State) → StandsFor t a M S → IfOk result (λ text. text ≡ lost_text t S)) →
    IfOk result (λ text. text ≡ world_lost w lines)
unfolding world_lost lost_after
lost_last w table t act a N M lines result table_is act_is t_is a_is opened passed told =
    let rules = native_act (behaviour_of w) in
    let first = opening w.table w.nodes in
    let last : StandsFor w.table rules M (state_after w.table rules first lines) =
    (rw (table_is, act_is) at passed) first opened in
    (rw (t_is, a_is) at told) (state_after w.table rules first lines) last
