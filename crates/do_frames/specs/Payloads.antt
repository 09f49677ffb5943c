-- Payloads of frames: what they spell by their kind, how they are read, and what an answer tells.
use Rattle.do_frames.specs.declared.kind.Kind.TheVariants as kinds
use Rattle.std.specs.Prelude.{◌≡◌, ℕ, List, length, Result, Ok, Err, Option, Some, None, ◌⊎◌}
use Rattle.do_base.specs.names.Names.{TokenName}
use Rattle.do_class.specs.declared.packet.Packet.{Packet}
use Rattle.do_grammar.specs.{Grammar.{IsProperFront, IsFirstBadWhole}, Num.num_at}
use Rattle.do_grammar.specs.{OneSpelling.{Spelled, both}, Reader.{Reader, no_kind, done, mapped}}
use Rattle.do_coder.specs.{declared.recent.pair.Pair.Pair, Names.serial_at}
use Rattle.do_coder.specs.Packets.{Surroundings, packet_at}
use Rattle.do_frames.specs.declared.fault.RawFault.{RawFault, TheVariants.{BadFrame, Memory}}
use Rattle.do_frames.specs.declared.frame.Frame.{Frame, TheVariants.{Call, Oneway, Reply, Raised}}
use Rattle.do_frames.specs.declared.frame.Frame.TheVariants.{RootAsk, RootAnswer, Retain, Granted}
use Rattle.do_frames.specs.declared.frame.Frame.TheVariants.{Gone, Release, Settle, Shutdown}
use Rattle.do_frames.specs.{declared.kind.Kind.Kind, Exceptions.exc_at}
use Rattle.do_frames.specs.Frames.{kind_of, payload_spelling, IsFrame}
use Rattle.do_frames.specs.{Kinds.{kind_number, kind_at}, Selectors.selector_at}

-- The grammar of the payloads of frames whose kind has a number, by the surroundings and a table of
-- recent names.
abbrev pub SpellsPayload : Surroundings → List Pair → ℕ → List ℕ → Frame → Type 0
SpellsPayload s table n =
    Spelled (payload_spelling table) (λ f. (kind_number (kind_of f) ≡ n) × IsFrame s f)

-- ---- what an answer tells

-- a byte with which no payload of this kind goes on, or a payload that ends too early, or a kind
-- that no frame has
abbrev pub IsBadPayload : Option Kind → (List ℕ → Frame → Type 0) → List ℕ → ℕ → Type 0
IsBadPayload None G payload place = place ≡ 0
IsBadPayload (Some kind) G payload place =
    IsFirstBadWhole G payload place ⊎ ((place ≡ length payload) × IsProperFront G payload)

-- what an answer tells of a payload of a kind with a number
abbrev pub TellsFrame : Surroundings → List Pair → ℕ → List ℕ → Result Frame RawFault → Type 0
TellsFrame s table n payload (Ok f) = SpellsPayload s table n payload f
TellsFrame s table n payload (Err (BadFrame place)) =
    IsBadPayload (kind_at n) (SpellsPayload s table n) payload place
TellsFrame s table n payload (Err Memory) = Unit {0}

-- unless memory ran out, the answer is this frame
abbrev pub FindsFrame : Frame → Result Frame RawFault → Type 0
FindsFrame f (Ok x) = x ≡ f
FindsFrame f (Err Memory) = Unit {0}
FindsFrame f (Err (BadFrame place)) = ⊥

-- ---- reading

abbrev pub port_at : Reader (Unit {0}) ℕ
port_at = num_at no_kind 1 65535

abbrev pub call : ℕ × (ℕ × (List ℕ × Packet)) → Frame
call p = Call p.0 p.1.0 p.1.1.0 p.1.1.1

abbrev pub oneway : ℕ × (List ℕ × Packet) → Frame
oneway p = Oneway p.0 p.1.0 p.1.1

abbrev pub token : ℕ × ℕ → TokenName
token p = record { lender = p.0; number = p.1 }

-- a serial, a selector and a packet
unfoldable pub message_at : Surroundings → List Pair → Reader (Unit {0}) (ℕ × (List ℕ × Packet))
message_at s table =
    both serial_at (λ serial. both selector_at (λ selector. packet_at s table))

-- the number of a call, and a packet
unfoldable pub answer_at : Surroundings → List Pair → Reader (Unit {0}) (ℕ × Packet)
answer_at s table = both serial_at (λ call. packet_at s table)

-- a serial, and a token of a port and a number
unfoldable pub token_at : Reader (Unit {0}) (ℕ × TokenName)
token_at = both serial_at (λ serial. mapped token (both port_at (λ port. serial_at)))

-- ---- each kind

abbrev pub call_at : Surroundings → List Pair → Reader (Unit {0}) Frame
call_at s table = mapped call (both serial_at (λ number. message_at s table))

abbrev pub oneway_at : Surroundings → List Pair → Reader (Unit {0}) Frame
oneway_at s table = mapped oneway (message_at s table)

abbrev pub reply_at : Surroundings → List Pair → Reader (Unit {0}) Frame
reply_at s table = mapped (λ p. Reply p.0 p.1) (answer_at s table)

unfoldable pub raised_at : Reader (Unit {0}) Frame
raised_at = mapped (λ p. Raised p.0 p.1) (both serial_at (λ number. exc_at))

unfoldable pub root_ask_at : Reader (Unit {0}) Frame
root_ask_at = mapped (λ number. RootAsk number) serial_at

abbrev pub root_answer_at : Surroundings → List Pair → Reader (Unit {0}) Frame
root_answer_at s table = mapped (λ p. RootAnswer p.0 p.1) (answer_at s table)

unfoldable pub retain_at : Reader (Unit {0}) Frame
retain_at = mapped (λ p. Retain p.0 p.1) token_at

unfoldable pub granted_at : Reader (Unit {0}) Frame
granted_at = mapped (λ p. Granted p.0 p.1) token_at

unfoldable pub gone_at : Reader (Unit {0}) Frame
gone_at = mapped (λ p. Gone p.0 p.1) token_at

unfoldable pub release_at : Reader (Unit {0}) Frame
release_at = mapped (λ p. Release p.0 p.1) (both serial_at (λ serial. serial_at))

unfoldable pub settle_at : Reader (Unit {0}) Frame
settle_at = mapped (λ number. Settle number) serial_at

-- by the kind
abbrev pub payload_at : Surroundings → List Pair → Kind → Reader (Unit {0}) Frame
payload_at s table kinds.Call = call_at s table
payload_at s table kinds.Oneway = oneway_at s table
payload_at s table kinds.Reply = reply_at s table
payload_at s table kinds.Raised = raised_at
payload_at s table kinds.RootAsk = root_ask_at
payload_at s table kinds.RootAnswer = root_answer_at s table
payload_at s table kinds.Retain = retain_at
payload_at s table kinds.Granted = granted_at
payload_at s table kinds.Gone = gone_at
payload_at s table kinds.Release = release_at
payload_at s table kinds.Settle = settle_at
payload_at s table kinds.Shutdown = done Shutdown
