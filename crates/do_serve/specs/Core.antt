-- What the inputs of a node that is served change, and what they write.
use Rattle.do_base.specs.declared.events.shown.Shown.TheVariants as shows
use Rattle.do_base.specs.declared.events.shown.Took.TheVariants as took
use Rattle.std.specs.Prelude.{ℕ, ◌&&◌, List, [], ◌∷◌, ◌++◌, if◌then◌else◌}
use Rattle.do_base.specs.{outside.Causes.next_count, declared.events.shown.{Shown.Shown, Took.Took}}
use Rattle.do_network.specs.declared.input.Input.{Input, TheVariants.Close}
use Rattle.do_serve.specs.{Rules.{Rules, Outgoing, Moved}, Peers.Peer, Record.block}

-- the node's own state, the frames that wait to be sent, and how many calls and oneway messages
-- were taken
pub record Core (Part : Type 0) : Type 0 where
  pub part : Part
  pub waiting : List Outgoing
  pub taken : ℕ

-- one more where a call or a oneway message was taken
abbrev pub count_took : ℕ → Took → ℕ
count_took n (took.Call selector) = next_count n
count_took n (took.Oneway selector) = next_count n
count_took n other = n

-- the same where this was shown
abbrev pub count_taken : ℕ → Shown → ℕ
count_taken n (shows.Took t) = count_took n t
count_taken n other = n

-- the calls and oneway messages that were taken, with those that this shows
abbrev pub taken_after : ℕ → List Shown → ℕ
taken_after n [] = n
taken_after n (shown ∷ more) = taken_after (count_taken n shown) more

-- what an input changed, and what was written
abbrev pub Entered : Type 0 → Type 0
Entered Part = Core Part × List ℕ

-- what a step changes, and its block
abbrev pub entered : {Part : Type 0} → ℕ → Input → Core Part → Moved Part → Entered Part
entered port input s m = (
  record {
    part = m.part;
    waiting = s.waiting ++ m.frames;
    taken = taken_after s.taken m.shown;
  },
  block port input m.done m.shown,
)

-- an input is done, and its block is written
abbrev pub enter : {Part : Type 0} → Rules Part → ℕ → Input → Core Part → Entered Part
enter rules port input s = entered port input s (rules.step s.part input)

-- one input after another
abbrev pub and_then : {Part : Type 0} → Entered Part → (Core Part → Entered Part) → Entered Part
and_then x next = ((next x.0).0, x.1 ++ (next x.0).1)

-- the node closes each open end of these over which a frame was sent or taken
abbrev pub leave_among : {Part : Type 0} → Rules Part → ℕ → List Peer → Core Part → Entered Part
leave_among rules port [] s = (s, [])
leave_among rules port (p ∷ ps) s =
    if p.is_used && rules.is_open s.part p.port
    then and_then (enter rules port (Close p.port) s) (leave_among rules port ps)
    else leave_among rules port ps s
