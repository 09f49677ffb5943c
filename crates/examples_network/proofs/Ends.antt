-- How ends close: by a site's own will, by the peer's, by a loss and for a fault.
use Rattle.do_base.specs.declared.events.shown.Shown.TheVariants as shows
use Rattle.do_base.specs.declared.events.shown.Took.TheVariants as tooks
use Rattle.do_network.specs.declared.input.Input.TheVariants as inputs
use Rattle.std.proofs.Common.{◌≡◌, List, [], ◌∷◌, refl}
use Rattle.do_base.specs.declared.events.exception.Exc.TheVariants.{ConnectionDied}
use Rattle.do_behave.specs.declared.invocation.{Invocation.Invocation, Answer.TheVariants.Raised}
use Rattle.do_behave.specs.declared.invocation.InvState.TheVariants.{Answered}
use Rattle.do_class.specs.Class.{Class}
use Rattle.do_frames.specs.declared.frame.Frame.TheVariants.{Shutdown}
use Rattle.do_machine.specs.run.Run.{Acting}
use Rattle.do_network.specs.declared.fault.PeerFault.TheVariants.{BadFrame}
use Rattle.do_network.specs.{declared.input.Done.TheVariants.{Closed, Moved}, Frames.read_frame}
use Rattle.do_network.specs.{Links.{Framed, Greeting, Part, Sending}, Site.{passed, site_step}}
use Rattle.examples_network.proofs.Samples.{invocation, node_of, site_of, waiting}

-- 7001 with an open end to 7002, and an invocation that waits for it
abbrev caller : Part
caller = site_of (record (node_of 7001 (7002 ∷ [])) { stack = waiting 3 ∷ [] }) (7002 ∷ [])

-- the notice that an end was closed, to 7002, with which the stream begins
abbrev goodbye : List Sending
goodbye = record { to = 7002; piece = Greeting }
    ∷ record { to = 7002; piece = Framed Shutdown (record { kind = 12; payload = [] }) } ∷ []

-- the invocations once the peer is gone
abbrev failed : List Invocation
failed = invocation (Answered (Raised ConnectionDied)) ∷ []

module _ (table : List Class) (act : Acting) where
  -- a close tells the peer, and the call has failed
  closed_done : (site_step table act caller (inputs.Close 7002)).done ≡ Moved
  closed_done = refl

  closed_sent : (site_step table act caller (inputs.Close 7002)).sent ≡ goodbye
  closed_sent = refl

  closed_stack : (site_step table act caller (inputs.Close 7002)).part.own.node.stack ≡ failed
  closed_stack = refl

  closed_end : (site_step table act caller (inputs.Close 7002)).part.own.node.open_to ≡ []
  closed_end = refl

  -- an end that is closed closes no more, and takes no frame
  closed_again : site_step table act (site_of (node_of 7001 []) (7002 ∷ [])) (inputs.Close 7002)
      ≡ passed (site_of (node_of 7001 []) (7002 ∷ []))
  closed_again = refl

  -- the end of a connection is shown as the notice would be
  ended_shown : (site_step table act caller (inputs.Ended 7002)).shown
      ≡ shows.Took tooks.End ∷ []
  ended_shown = refl

  ended_stack : (site_step table act caller (inputs.Ended 7002)).part.own.node.stack ≡ failed
  ended_stack = refl

  -- a frame of no kind is at fault at its first place: the end closes, and nothing is shown
  no_kind_done : (site_step table act caller
      (inputs.Frame 7002 (record { kind = 14; payload = 1 ∷ [] }))).done
      ≡ Closed 7002 (BadFrame 0)
  unfolding read_frame
  no_kind_done = refl

  no_kind_shown : (site_step table act caller
      (inputs.Frame 7002 (record { kind = 14; payload = 1 ∷ [] }))).shown ≡ []
  unfolding read_frame
  no_kind_shown = refl

  -- one with bytes left over is at fault at the first of them
  left_over : (site_step table act caller
      (inputs.Frame 7002 (record { kind = 12; payload = 7 ∷ 8 ∷ [] }))).done
      ≡ Closed 7002 (BadFrame 0)
  unfolding read_frame
  left_over = refl
