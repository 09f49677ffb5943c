-- What serving a node of a world comes to.
use Rattle.do_serve.specs.declared.serving.ServeEnd.TheVariants as ends
use Rattle.do_given.specs.declared.status.Status.TheVariants as answer
use Rattle.std.specs.Prelude.{◌≡◌, ℕ, ◌⊎◌, List, [], Option, map}
use Rattle.do_base.specs.{outside.Causes.Rose, declared.outside.shelf.NamedFile.NamedFile}
use Rattle.do_link.specs.Told.{Told}
use Rattle.do_machine.specs.World.{by_port, others}
use Rattle.do_native.specs.Acts.{native_act}
use Rattle.do_net.specs.Seen.{Seen, at_rest}
use Rattle.do_network.specs.Net.{opening_part}
use Rattle.do_output.specs.Told.{TellsMore}
use Rattle.do_serve.specs.{Answers.TellsServed, Hosting.{outgoing, resting, site_rules}}
use Rattle.do_serve.specs.Serving.{Report, opening, serve_from}
use Rattle.do_serve.specs.declared.serving.ServeEnd.{ServeEnd}
use Rattle.do_plan.specs.declared.starts.StartLine.{StartLine}
use Rattle.do_world.specs.declared.world.World.{World}
use Rattle.do_given.specs.declared.{seated.Seated.Seated, served.Served.Served}
use Rattle.do_given.specs.{declared.status.Status.Status, Parts.behaviour_of}
use Rattle.do_given.specs.{Reading.HasUnreadScheduled, Serving.{GivesServed, RefusesServed}}
use Rattle.do_served.specs.Coming.{ComesTo}

-- the ports of a world's nodes, by rising port
abbrev pub ports_of : World → List ℕ
ports_of w = map (λ s. s.node) (by_port w.nodes)

-- a node of a world as it opens
abbrev pub opened : Seated → Seen
opened p = at_rest p.world.table (native_act (behaviour_of p.world))
    (opening_part p.world.table (ports_of p.world) p.seat)

-- the ports that a node of a world hears
abbrev pub heard : Seated → List ℕ
heard p = others (ports_of p.world) p.seat.node

-- what serving a site for at most so many turns comes to, over what a link tells
abbrev pub report_of : Seen → ℕ → List ℕ → ℕ → List StartLine → List Told → Report
report_of seen node peers turns starts = serve_from site_rules node turns
    (opening (resting seen) (map outgoing seen.frames) peers starts)

-- the same of a node that was given
abbrev pub report : ℕ → Served → List Told → Report
report turns s =
    report_of (opened s.place) s.place.seat.node (heard s.place) turns s.starts

-- what a link told and an output held, before and after, and the counts of their faults
pub record Seens : Type 0 where
  pub told : Option (List Told)
  pub written : Option (List ℕ)
  pub link : ℕ
  pub output : ℕ

-- nothing was asked of the link, and nothing was written
abbrev pub DoesNothing : Seens → Seens → Type 0
DoesNothing old new = TellsMore old.told new.told [] × (new.written ≡ old.written)

-- what an answer of serving tells of what the link told and of what was written
abbrev pub Tells : ℕ → List ℕ → ℕ → (List Told → Report) → Seens → Seens → ServeEnd → Type 0
Tells node peers turns comes old new it = TellsServed node peers turns comes old.told new.told
    old.written new.written old.output new.output it

-- what serving a node of these peers for at most so many turns ended with, as a status tells it
abbrev pub HasEnded : ℕ → List ℕ → ℕ → (List Told → Report) → Seens → Seens → Status → Type 0
HasEnded node peers turns comes old new answer.Ok = Tells node peers turns comes old new ends.Done
HasEnded node peers turns comes old new (answer.TurnsSpent n) =
    Tells node peers turns comes old new (ends.TurnsSpent n)
HasEnded node peers turns comes old new answer.LinkFault =
    Rose old.link new.link × Tells node peers turns comes old new ends.LinkFault
HasEnded node peers turns comes old new answer.WriteFault =
    Tells node peers turns comes old new ends.WriteFault
HasEnded node peers turns comes old new answer.Memory =
    Tells node peers turns comes old new ends.Memory
HasEnded node peers turns comes old new status = ⊥

-- what serving a node that was given ended with
abbrev pub Ends : ℕ → Seens → Seens → Served → Status → Type 0
Ends turns old new s status =
    HasEnded s.place.seat.node (heard s.place) turns (report turns s) old new status

-- what is told of how serving ended
abbrev pub status_of : ServeEnd → Status
status_of ends.Done = answer.Ok
status_of (ends.TurnsSpent n) = answer.TurnsSpent n
status_of ends.LinkFault = answer.LinkFault
status_of ends.WriteFault = answer.WriteFault
status_of ends.Memory = answer.Memory

-- serving a node that was given ended so, or memory ran out before
abbrev pub EndsOrStops : ℕ → Seens → Seens → Served → Status → Type 0
EndsOrStops turns old new s status =
    ((status ≡ answer.Memory) × DoesNothing old new) ⊎ Ends turns old new s status

-- what a command comes to that serves the node of a port in the world that a word gives, with the
-- starts that another names
abbrev pub ServesGiven : Option (List NamedFile) → ℕ → ℕ → ℕ → List ℕ → List ℕ → ℕ → Seens → Seens
    → Status → Type 0
ServesGiven told before now port word name turns old new = ComesTo
    (λ files. GivesServed files port word name) (λ files. RefusesServed files port word name)
    (Ends turns old new) (HasUnreadScheduled told before now word name) (DoesNothing old new) told
