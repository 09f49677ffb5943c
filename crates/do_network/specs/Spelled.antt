-- What sites send within what frames can spell.
use Rattle.do_base.specs.declared.events.event.Event.TheVariants as events
use Rattle.do_network.specs.declared.input.Input.TheVariants as inputs
use Rattle.std.specs.{Prelude.{List, Some, length, slice_get, ℕ, ◌≡◌, ◌≤◌}, List.AllByRecursion}
use Rattle.do_base.specs.declared.events.event.Event.{Event}
use Rattle.do_class.specs.Class.{Class}
use Rattle.do_coder.specs.Packets.{surroundings}
use Rattle.do_frames.specs.Frames.{IsFrame}
use Rattle.do_lengths.specs.Short.{longest_payload}
use Rattle.do_machine.specs.run.Run.{Acting}
use Rattle.do_network.specs.declared.input.Input.{Input}
use Rattle.do_network.specs.{Links.{Framed, Greeting, Part, Piece, Sending}, Net.{Carried, Channel}}
use Rattle.do_network.specs.Net.{Net, change_place, channel, part_at, with_channel}
use Rattle.do_network.specs.{Site.{Handled, enabled_input}, Step.{advanced, input_of}}

-- a frame from one port to another has a spelling, whose payload is not too long; the greeting
-- always has one
abbrev pub IsSpelledPiece : List Class → ℕ → ℕ → Piece → Type 0
IsSpelledPiece table from to Greeting = Unit {0}
IsSpelledPiece table from to (Framed f spelled) =
    IsFrame (surroundings table from to) f × (length spelled.payload ≤ longest_payload)

-- so has what a port sends to a peer
abbrev pub IsSpelledSending : List Class → ℕ → Sending → Type 0
IsSpelledSending table from s = IsSpelledPiece table from s.to s.piece

-- so has all that a site sent for an input
abbrev pub SentSpelled : List Class → Handled → Type 0
SentSpelled table h = AllByRecursion (IsSpelledSending table h.part.own.node.port) h.sent

-- so has all that the site of a port sends for an input that it is handed
abbrev pub HandsSpelled : List Class → Acting → Net → ℕ → Input → Type 0
HandsSpelled table act N port input =
    (p : Part) → part_at N port ≡ Some p →
    (h : Handled) → enabled_input table act p input ≡ Some h → SentSpelled table h

-- each frame that is sent in an event has a spelling
abbrev pub SendsSpelled : List Class → Acting → Net → Event → Type 0
SendsSpelled table act N (events.Start port selector values) =
    HandsSpelled table act N port (inputs.Start selector values)
SendsSpelled table act N (events.Run port) = HandsSpelled table act N port inputs.Run
SendsSpelled table act N (events.Take port from) =
    (c : Channel) → channel N from port ≡ Some c →
    (x : Carried) → slice_get c.waiting 0 ≡ Some x →
    HandsSpelled table act (change_place from (with_channel port (advanced x)) N) port
    (input_of from x)
SendsSpelled table act N (events.Close port peer) =
    HandsSpelled table act N port (inputs.Close peer)
SendsSpelled table act N (events.Timeout port) = HandsSpelled table act N port inputs.Timeout
SendsSpelled table act N (events.Lose from to after) = Unit {0}
SendsSpelled table act N events.Check = Unit {0}
