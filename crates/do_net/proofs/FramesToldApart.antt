-- What a site sends at once is told apart by its first byte.
use Rattle.do_frames.specs.declared.kind.Kind.TheVariants as kinds
use Rattle.do_network.specs.declared.input.Done.TheVariants as dones
use Rattle.do_network.specs.declared.input.Input.TheVariants as inputs
use Rattle.std.proofs.Common.{◌≡◌, ℕ, Bool, true, false, List, [], ◌∷◌, ◌++◌, fold, refl, Option}
use Rattle.std.proofs.Common.{Some, None, Result, Ok, Err}
use Rattle.std.specs.Prelude.{if◌then◌else◌, not, option_map, unwrap_or, ◌==◌}
use Rattle.do_class.specs.Class.{Class}
use Rattle.do_frames.specs.{declared.{frame.Frame.Frame, kind.Kind.Kind}, Kinds.kind_number}
use Rattle.do_machine.specs.{declared.state.Effect.Effect, run.Run.{Acting, run_effect}}
use Rattle.do_machine.specs.{declared.item.Item.TheVariants.End, Start.start_effect, State.is_open}
use Rattle.do_machine.specs.ends.{Closing.closing, TimeOut.time_out}
use Rattle.do_machine.specs.take.Take.{can_take, take_effect}
use Rattle.do_network.specs.declared.fault.PeerFault.{PeerFault, TheVariants.BadFrame}
use Rattle.do_network.specs.{declared.input.Done.Done, Faults.peer_fault, Own.site_context}
use Rattle.do_network.specs.{declared.input.Input.Input, Frames.{Posted, read_frame}}
use Rattle.do_network.specs.Links.{Link, Outbox, Part, link_to, sending, having_read, names_read}
use Rattle.do_network.specs.Links.{sendings}
use Rattle.do_network.specs.Site.{Handled, enabled_input, moves, passed, site_step, takes, Move}
use Rattle.do_network.specs.Site.{frame_move, handled, site_move, takes_frame}
use Rattle.std.specs.List.{AllByRecursion}
use Rattle.do_net.specs.Lanes.{IsSent}

-- two lists are such where each is
each_both : {X : Type 0} (P : X → Type 0) (xs ys : List X) → AllByRecursion P xs →
    AllByRecursion P ys → AllByRecursion P (xs ++ ys)
each_both P [] ys a b = b
each_both P (x ∷ xs) ys a b = (a.0, each_both P xs ys a.1 b)

-- no kind of frame has the number with which a greeting begins
kind_apart : (k : Kind) → (kind_number k == 13) ≡ false
kind_apart kinds.Call = refl
kind_apart kinds.Oneway = refl
kind_apart kinds.Reply = refl
kind_apart kinds.Raised = refl
kind_apart kinds.RootAsk = refl
kind_apart kinds.RootAnswer = refl
kind_apart kinds.Retain = refl
kind_apart kinds.Granted = refl
kind_apart kinds.Gone = refl
kind_apart kinds.Release = refl
kind_apart kinds.Settle = refl
kind_apart kinds.Shutdown = refl

-- what is sent for a frame over a link
link_told : (x : Posted) (l : Link) → AllByRecursion IsSent (sendings x (Some l))
link_told x l = go l.greeted
  where
    go : (b : Bool) → AllByRecursion IsSent (sendings x (Some (record l { greeted = b })))
    go true = (kind_apart _, tt)
    go false = (tt, (kind_apart _, tt))

-- or where there is none
frame_told : (x : Posted) (found : Option Link) → AllByRecursion IsSent (sendings x found)
frame_told x None = tt
frame_told x (Some l) = link_told x l

-- frames that are sent one after another
all_told : (o : Outbox) (xs : List Posted) → AllByRecursion IsSent o.sent →
    AllByRecursion IsSent (fold sending o xs).sent
all_told o [] told = told
all_told o (x ∷ xs) told =
    all_told (sending o x) xs
    (each_both IsSent o.sent _ told (frame_told x (link_to o.links x.to)))

-- a move
handled_told : (p : Part) (done : Done) (m : Move) → AllByRecursion IsSent (handled p done m).sent
handled_told p done m = all_told (record { links = p.links; sent = [] }) m.posted tt

-- what is sent where an input was enabled
abbrev AllTold : Option Handled → Type 0
AllTold None = Unit {0}
AllTold (Some h) = AllByRecursion IsSent h.sent

-- a move by an effect
moved_told : (p : Part) (found : Option Effect) → AllTold (option_map (moves p) found)
moved_told p None = tt
moved_told p (Some effect) = handled_told p dones.Moved (site_move p.own effect)

-- what is done unless a test passes
guarded_told : (test : Bool) (h : Handled) → AllByRecursion IsSent h.sent →
    AllTold (if test then None else Some h)
guarded_told true h told = tt
guarded_told false h told = told

-- a frame that was read
read_told : (table : List Class) (p : Part) (from : ℕ) (f : Frame) (fault : Option PeerFault) →
    AllByRecursion IsSent (takes_frame table p from f fault).sent
read_told table p from f None = handled_told p dones.Moved (frame_move table from f p.own)
read_told table p from f (Some fault) =
    handled_told p (dones.Closed from fault) (site_move p.own (closing from p.own.node))

-- a frame as it comes
takes_told : (table : List Class) (p : Part) (from : ℕ) (read : Result Frame ℕ) →
    AllByRecursion IsSent (takes table p from read).sent
takes_told table p from (Ok f) =
    read_told table (having_read from f p) from f (peer_fault p.own from f)
takes_told table p from (Err place) =
    handled_told p (dones.Closed from (BadFrame place)) (site_move p.own (closing from p.own.node))

-- an input that is enabled
enabled_told : (table : List Class) (act : Acting) (p : Part) (input : Input) →
    AllTold (enabled_input table act p input)
enabled_told table act p inputs.Run = moved_told p (run_effect act (site_context table p.own))
enabled_told table act p (inputs.Start selector values) =
    moved_told p (start_effect table selector values p.own.node)
enabled_told table act p (inputs.Frame from f) =
    let read = read_frame table from p.own.node.port (names_read p from) f in
    guarded_told (not (can_take from p.own.node)) (takes table p from read)
    (takes_told table p from read)
enabled_told table act p (inputs.Close peer) =
    let e = closing peer p.own.node in
    guarded_told (not (is_open p.own.node peer)) (moves p e)
    (handled_told p dones.Moved (site_move p.own e))
enabled_told table act p (inputs.Ended peer) =
    let e = take_effect (site_context table p.own) peer (End []) in
    guarded_told (not (can_take peer p.own.node)) (moves p e)
    (handled_told p dones.Moved (site_move p.own e))
enabled_told table act p inputs.Timeout = moved_told p (time_out p.own.node)

-- what there is, or nothing
found_told : (p : Part) (found : Option Handled) → AllTold found →
    AllByRecursion IsSent (unwrap_or found (passed p)).sent
found_told p None told = tt
found_told p (Some h) told = told

-- an input
pub step_told : (table : List Class) (act : Acting) (p : Part) (input : Input) →
    AllByRecursion IsSent (site_step table act p input).sent
step_told table act p input =
    found_told p (enabled_input table act p input) (enabled_told table act p input)
