-- How many bytes the payload of a frame takes.
use Rattle.std.proofs.Common.{ℕ, ◌+◌, ◌≤◌, Bool, true, false, cond, List, [], ◌++◌, arith, length}
use Rattle.std.{proofs.Common.length-append, specs.Prelude.◌==◌}
use Rattle.do_base.specs.{names.Names.TokenName, declared.events.exception.Exc.Exc}
use Rattle.do_class.specs.declared.packet.Packet.{Packet}
use Rattle.do_grammar.specs.Num.{counted, num}
use Rattle.do_coder.specs.{declared.recent.pair.Pair.Pair, Packets.{Surroundings, packet_spelling}}
use Rattle.do_frames.specs.declared.frame.Frame.{Frame, TheVariants.{Call, Gone, Granted, Oneway}}
use Rattle.do_frames.specs.declared.frame.Frame.TheVariants.{Raised, Release, Reply, Retain}
use Rattle.do_frames.specs.declared.frame.Frame.TheVariants.{RootAnswer, RootAsk, Settle, Shutdown}
use Rattle.do_frames.specs.Exceptions.{exc_number, exc_spelling, exc_text, text_spelling}
use Rattle.do_frames.specs.Frames.{IsFrame, payload_spelling, token_spelling}
use Rattle.do_frames.specs.Selectors.{IsSelector}
use Rattle.do_lengths.specs.Short.{HasShortPacket, IsShort, longest_payload}
use Rattle.do_lengths.proofs.{Numbers.num_short, Selectors.selector_short}

-- a text with its length takes nine bytes more
counted_short : (text : List ℕ) → length (counted text) ≤ 9 + length text
counted_short text =
    omega (arith, length-append (num (length text)) text, num_short (length text))

-- a token takes at most 27 bytes
token_short : (serial : ℕ) (token : TokenName) → length (token_spelling serial token) ≤ 27
token_short serial token =
    omega (
      arith,
      num_short serial,
      num_short token.lender,
      num_short token.number,
      length-append (num serial) (num token.lender ++ num token.number),
      length-append (num token.lender) (num token.number),
    )

-- an exception takes at most 18 bytes more than its text
exc_short : (e : Exc) → length (exc_spelling e) ≤ 18 + length (exc_text e)
exc_short e =
    omega (
      arith,
      num_short (exc_number e),
      go (exc_number e == 8),
      length-append (num (exc_number e)) (text_spelling (exc_number e) (exc_text e)),
    )
  where
    go : (b : Bool) → length (cond b (counted (exc_text e)) []) ≤ 9 + length (exc_text e)
    go true = counted_short (exc_text e)
    go false = omega arith

module _ (recent : List Pair) (packet : Packet) (short : IsShort recent packet) where
  -- an answer is within the limit
  answer_short : (call : ℕ) →
      length (num call ++ packet_spelling recent packet) ≤ longest_payload
  answer_short call =
      omega (arith, short, num_short call, length-append (num call) (packet_spelling recent packet))

  -- a message takes at most 282 bytes more than its packet
  message_short : (serial : ℕ) (selector : List ℕ) → IsSelector selector →
      length (num serial ++ (counted selector ++ packet_spelling recent packet))
      ≤ 2097452
  message_short serial selector is =
      omega (
        arith,
        short,
        num_short serial,
        selector_short selector is,
        counted_short selector,
        length-append (num serial) (counted selector ++ packet_spelling recent packet),
        length-append (counted selector) (packet_spelling recent packet),
      )

-- the payload of each frame is within the limit
pub payload_short : (s : Surroundings) (f : Frame) (recent : List Pair) → IsFrame s f →
    HasShortPacket recent f → length (payload_spelling recent f) ≤ longest_payload
payload_short s (Call call serial selector packet) recent is short =
    let message = message_short recent packet short serial selector is.1.1.0 in
    omega (
      arith,
      num_short call,
      message,
      length-append (num call)
          (num serial ++ (counted selector ++ packet_spelling recent packet)),
    )
payload_short s (Oneway serial selector packet) recent is short =
    omega (arith, message_short recent packet short serial selector is.1.0)
payload_short s (Reply call packet) recent is short = answer_short recent packet short call
payload_short s (RootAnswer call packet) recent is short = answer_short recent packet short call
payload_short s (Raised call e) recent is short =
    omega (arith, num_short call, exc_short e, is.1.0, length-append (num call) (exc_spelling e))
payload_short s (RootAsk call) recent is short = omega (arith, num_short call)
payload_short s (Retain serial token) recent is short = omega (arith, token_short serial token)
payload_short s (Granted serial token) recent is short = omega (arith, token_short serial token)
payload_short s (Gone serial token) recent is short = omega (arith, token_short serial token)
payload_short s (Release serial amount) recent is short =
    omega (arith, num_short serial, num_short amount, length-append (num serial) (num amount))
payload_short s (Settle number) recent is short = omega (arith, num_short number)
payload_short s Shutdown recent is short = omega arith
