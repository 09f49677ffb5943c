-- What payloads hold: the parts of each kind, of which a frame is made.
use Rattle.do_frames.specs.declared.kind.Kind.TheVariants as kinds
use Rattle.std.proofs.Common.{◌≡◌, ℕ, List, Some, refl}
use Rattle.do_base.specs.{declared.events.exception.Exc.Exc, names.Names.TokenName}
use Rattle.do_class.specs.declared.packet.Packet.{Packet}
use Rattle.do_frames.specs.declared.frame.Frame.{Frame, TheVariants.{Call, Oneway, Reply, Raised}}
use Rattle.do_frames.specs.declared.frame.Frame.TheVariants.{RootAsk, RootAnswer, Retain, Granted}
use Rattle.do_frames.specs.declared.frame.Frame.TheVariants.{Gone, Release, Settle, Shutdown}
use Rattle.do_frames.specs.{declared.kind.Kind.Kind, Frames.kind_of, Kinds.{kind_number, kind_at}}
use Rattle.do_frames.specs.Payloads.{call, oneway}

-- what a frame of a kind is made of
abbrev pub Parts : Kind → Type 0
Parts kinds.Call = ℕ × (ℕ × (List ℕ × Packet))
Parts kinds.Oneway = ℕ × (List ℕ × Packet)
Parts kinds.Reply = ℕ × Packet
Parts kinds.Raised = ℕ × Exc
Parts kinds.RootAsk = ℕ
Parts kinds.RootAnswer = ℕ × Packet
Parts kinds.Retain = ℕ × TokenName
Parts kinds.Granted = ℕ × TokenName
Parts kinds.Gone = ℕ × TokenName
Parts kinds.Release = ℕ × ℕ
Parts kinds.Settle = ℕ
Parts kinds.Shutdown = Unit {0}

abbrev pub made_of : (k : Kind) → Parts k → Frame
made_of kinds.Call p = call p
made_of kinds.Oneway p = oneway p
made_of kinds.Reply p = Reply p.0 p.1
made_of kinds.Raised p = Raised p.0 p.1
made_of kinds.RootAsk p = RootAsk p
made_of kinds.RootAnswer p = RootAnswer p.0 p.1
made_of kinds.Retain p = Retain p.0 p.1
made_of kinds.Granted p = Granted p.0 p.1
made_of kinds.Gone p = Gone p.0 p.1
made_of kinds.Release p = Release p.0 p.1
made_of kinds.Settle p = Settle p
made_of kinds.Shutdown p = Shutdown

-- what a frame is made of
abbrev pub parts_of : (f : Frame) → Parts (kind_of f)
parts_of (Call call serial selector packet) = (call, (serial, (selector, packet)))
parts_of (Oneway serial selector packet) = (serial, (selector, packet))
parts_of (Reply call packet) = (call, packet)
parts_of (Raised call exc) = (call, exc)
parts_of (RootAsk call) = call
parts_of (RootAnswer call packet) = (call, packet)
parts_of (Retain serial token) = (serial, token)
parts_of (Granted serial token) = (serial, token)
parts_of (Gone serial token) = (serial, token)
parts_of (Release serial amount) = (serial, amount)
parts_of (Settle number) = number
parts_of Shutdown = tt

-- each frame is made of its parts
pub made_again : (f : Frame) → made_of (kind_of f) (parts_of f) ≡ f
made_again (Call call serial selector packet) = refl
made_again (Oneway serial selector packet) = refl
made_again (Reply call packet) = refl
made_again (Raised call exc) = refl
made_again (RootAsk call) = refl
made_again (RootAnswer call packet) = refl
made_again (Retain serial token) = refl
made_again (Granted serial token) = refl
made_again (Gone serial token) = refl
made_again (Release serial amount) = refl
made_again (Settle number) = refl
made_again Shutdown = refl

-- and has the kind of which it was made
pub made_kind : (k : Kind) (p : Parts k) → kind_of (made_of k p) ≡ k
made_kind kinds.Call p = refl
made_kind kinds.Oneway p = refl
made_kind kinds.Reply p = refl
made_kind kinds.Raised p = refl
made_kind kinds.RootAsk p = refl
made_kind kinds.RootAnswer p = refl
made_kind kinds.Retain p = refl
made_kind kinds.Granted p = refl
made_kind kinds.Gone p = refl
made_kind kinds.Release p = refl
made_kind kinds.Settle p = refl
made_kind kinds.Shutdown p = refl

-- the kind of a kind's number is this kind
pub number_at : (k : Kind) → kind_at (kind_number k) ≡ Some k
number_at kinds.Call = refl
number_at kinds.Oneway = refl
number_at kinds.Reply = refl
number_at kinds.Raised = refl
number_at kinds.RootAsk = refl
number_at kinds.RootAnswer = refl
number_at kinds.Retain = refl
number_at kinds.Granted = refl
number_at kinds.Gone = refl
number_at kinds.Release = refl
number_at kinds.Settle = refl
number_at kinds.Shutdown = refl
