-- Payloads of each kind are read exactly.
use Rattle.do_frames.specs.declared.kind.Kind.TheVariants as kinds
use Rattle.std.proofs.Common.{◌≡◌, ℕ, ◌≤◌, List, ◌++◌, Some, refl, sym, ap, subst, ◌∙◌, arith}
use Rattle.do_grammar.specs.{Num.{num, counted}, OneSpelling.{Spelled, both}}
use Rattle.do_grammar.specs.Reader.{Reader, mapped}
use Rattle.do_grammar.proofs.reads.{ExactReader.{Reads, Reads-as}, OneSpellingExact.Reads-both}
use Rattle.do_grammar.proofs.reads.OneSpellingExact.{Reads-onto, Reads-nothing, Reads-number}
use Rattle.do_coder.specs.{declared.recent.pair.Pair.Pair, Names.serial_at}
use Rattle.do_coder.specs.Packets.{Surroundings, packet_spelling, SpellsPacket, IsPacket, packet_at}
use Rattle.do_coder.specs.Recent.{IsSerial}
use Rattle.do_frames.specs.declared.{frame.Frame.{Frame, TheVariants.Shutdown}, kind.Kind.Kind}
use Rattle.do_frames.specs.Exceptions.{exc_spelling, IsExc, exc_at}
use Rattle.do_frames.specs.Frames.{kind_of, payload_spelling, token_spelling, IsToken, IsFrame}
use Rattle.do_frames.specs.{Kinds.{kind_number, kind_at}, Payloads.{SpellsPayload, port_at, token}}
use Rattle.do_frames.specs.Payloads.{message_at, answer_at, token_at, call_at, oneway_at, reply_at}
use Rattle.do_frames.specs.Payloads.{raised_at, root_ask_at, root_answer_at, retain_at, granted_at}
use Rattle.do_frames.specs.Payloads.{gone_at, release_at, settle_at, payload_at}
use Rattle.do_frames.specs.Selectors.{IsSelector, selector_at}
use Rattle.do_frames.proofs.payloads.{ExceptionExact.Reads-exc, PayloadParts.{Parts, made_of}}
use Rattle.do_frames.proofs.payloads.PayloadParts.{parts_of, made_again, made_kind, number_at}
use Rattle.do_frames.proofs.selectors.SelectorExact.{Reads-selector}

-- ---- what payloads hold

Reads-serial : Reads (Spelled num IsSerial) serial_at
Reads-serial = Reads-number 1 9223372036854775807 (omega arith) (omega arith)

-- a serial and a token are read exactly
Reads-token : Reads (Spelled (λ p. token_spelling p.0 p.1) (λ p. IsToken p.0 p.1)) token_at
unfolding token_at
Reads-token =
    Reads-both num (λ serial t. num t.lender ++ num t.number) IsSerial (λ serial t.
    ((1 ≤ t.lender) × (t.lender ≤ 65535)) × IsSerial t.number) serial_at (λ serial.
    mapped token (both port_at (λ port. serial_at))) Reads-serial
    (λ serial h.
    Reads-onto token (λ p. num p.0 ++ num p.1) (λ p. ((1 ≤ p.0) × (p.0 ≤ 65535)) × IsSerial p.1)
    (λ t. num t.lender ++ num t.number) (λ t. ((1 ≤ t.lender) × (t.lender ≤ 65535))
    × IsSerial t.number) (both port_at (λ port. serial_at))
    (Reads-both num (λ port. num) (λ n. (1 ≤ n) × (n ≤ 65535)) (λ port. IsSerial) port_at
    (λ port. serial_at) (Reads-number 1 65535 (omega arith) (omega arith))
    (λ port h. Reads-serial))
    (λ p h. (refl, h)) (λ t h. ((t.lender, t.number), refl, h)))

module _ (s : Surroundings) (table : List Pair) (R : Reads (SpellsPacket s table)
    (packet_at s table)) where
  -- a serial, a selector and a packet are read exactly
  Reads-message : Reads (Spelled (λ p. num p.0 ++ (counted p.1.0 ++ packet_spelling table p.1.1))
      (λ p. IsSerial p.0 × (IsSelector p.1.0 × IsPacket s p.1.1))) (message_at s table)
  unfolding message_at
  Reads-message =
      Reads-both num (λ serial q. counted q.0 ++ packet_spelling table q.1) IsSerial (λ serial q.
      IsSelector q.0 × IsPacket s q.1) serial_at (λ serial.
      both selector_at (λ selector. packet_at s table)) Reads-serial
      (λ serial h.
      Reads-both counted (λ selector. packet_spelling table) IsSelector (λ selector. IsPacket s)
      selector_at (λ selector. packet_at s table) Reads-selector (λ selector h. R))

  -- the number of a call and a packet are read exactly
  Reads-answer : Reads (Spelled (λ p. num p.0 ++ packet_spelling table p.1) (λ p. IsSerial p.0
      × IsPacket s p.1)) (answer_at s table)
  unfolding answer_at
  Reads-answer =
      Reads-both num (λ call. packet_spelling table) IsSerial (λ call. IsPacket s) serial_at
      (λ call. packet_at s table) Reads-serial (λ call h. R)

  -- ---- a kind

  -- a frame of this kind that fits
  abbrev OfKind : Kind → Frame → Type 0
  OfKind k f = (kind_of f ≡ k) × IsFrame s f

  -- a frame of a kind is made of parts of this kind
  parts_back : (k : Kind) (f : Frame) → OfKind k f
      → (p : Parts k) × (made_of k p ≡ f) × IsFrame s (made_of k p)
  parts_back k f h =
      subst (λ (k : Kind). (p : Parts k) × (made_of k p ≡ f) × IsFrame s (made_of k p)) h.0 (
        parts_of f,
        made_again f,
        subst (IsFrame s) (sym (made_again f)) h.1,
      )

  -- where its parts are read exactly, a kind is
  Reads-kind : (k : Kind) (r : Reader (Unit {0}) (Parts k))
      → Reads (Spelled (λ p. payload_spelling table (made_of k p)) (λ p. IsFrame s (made_of k p))) r
      → Reads (Spelled (payload_spelling table) (OfKind k)) (mapped (made_of k) r)
  Reads-kind k r S =
      Reads-onto (made_of k) (λ p. payload_spelling table (made_of k p)) (λ p.
      IsFrame s (made_of k p)) (payload_spelling table) (OfKind k) r S
      (λ p h. (refl, (made_kind k p, h))) (parts_back k)

  -- the payload of each kind is read exactly
  abbrev ReadsKind : Kind → Reader (Unit {0}) Frame → Type 0
  ReadsKind k r = Reads (Spelled (payload_spelling table) (OfKind k)) r

  kind_call : ReadsKind kinds.Call (call_at s table)
  kind_call =
      Reads-kind kinds.Call (both serial_at (λ call. message_at s table))
      (Reads-both num (λ call p. num p.0 ++ (counted p.1.0 ++ packet_spelling table p.1.1)) IsSerial
      (λ call p. IsSerial p.0 × (IsSelector p.1.0 × IsPacket s p.1.1)) serial_at (λ call.
      message_at s table) Reads-serial (λ call h. Reads-message))

  kind_oneway : ReadsKind kinds.Oneway (oneway_at s table)
  kind_oneway = Reads-kind kinds.Oneway (message_at s table) Reads-message

  kind_reply : ReadsKind kinds.Reply (reply_at s table)
  kind_reply = Reads-kind kinds.Reply (answer_at s table) Reads-answer

  kind_raised : ReadsKind kinds.Raised raised_at
  unfolding raised_at
  kind_raised =
      Reads-kind kinds.Raised (both serial_at (λ call. exc_at))
      (Reads-both num (λ call. exc_spelling) IsSerial (λ call. IsExc) serial_at (λ call. exc_at)
      Reads-serial (λ call h. Reads-exc))

  kind_root_ask : ReadsKind kinds.RootAsk root_ask_at
  unfolding root_ask_at
  kind_root_ask = Reads-kind kinds.RootAsk serial_at Reads-serial

  kind_root_answer : ReadsKind kinds.RootAnswer (root_answer_at s table)
  kind_root_answer = Reads-kind kinds.RootAnswer (answer_at s table) Reads-answer

  kind_retain : ReadsKind kinds.Retain retain_at
  unfolding retain_at
  kind_retain = Reads-kind kinds.Retain token_at Reads-token

  kind_granted : ReadsKind kinds.Granted granted_at
  unfolding granted_at
  kind_granted = Reads-kind kinds.Granted token_at Reads-token

  kind_gone : ReadsKind kinds.Gone gone_at
  unfolding gone_at
  kind_gone = Reads-kind kinds.Gone token_at Reads-token

  kind_release : ReadsKind kinds.Release release_at
  unfolding release_at
  kind_release =
      Reads-kind kinds.Release (both serial_at (λ serial. serial_at))
      (Reads-both num (λ serial. num) IsSerial (λ serial. IsSerial) serial_at (λ serial. serial_at)
      Reads-serial (λ serial h. Reads-serial))

  kind_settle : ReadsKind kinds.Settle settle_at
  unfolding settle_at
  kind_settle = Reads-kind kinds.Settle serial_at Reads-serial

  -- so is the payload that a kind chooses
  Reads-payload : (k : Kind) → ReadsKind k (payload_at s table k)
  Reads-payload kinds.Call = kind_call
  Reads-payload kinds.Oneway = kind_oneway
  Reads-payload kinds.Reply = kind_reply
  Reads-payload kinds.Raised = kind_raised
  Reads-payload kinds.RootAsk = kind_root_ask
  Reads-payload kinds.RootAnswer = kind_root_answer
  Reads-payload kinds.Retain = kind_retain
  Reads-payload kinds.Granted = kind_granted
  Reads-payload kinds.Gone = kind_gone
  Reads-payload kinds.Release = kind_release
  Reads-payload kinds.Settle = kind_settle
  Reads-payload kinds.Shutdown =
      Reads-nothing (payload_spelling table) (OfKind kinds.Shutdown) Shutdown refl (refl, tt)
      (λ f h. (parts_back kinds.Shutdown f h).1)

  -- so is that of a kind's number
  pub Reads-number_of : (k : Kind) (n : ℕ) → kind_number k ≡ n
      → Reads (SpellsPayload s table n) (payload_at s table k)
  Reads-number_of k n e =
      Reads-as (Spelled (payload_spelling table) (OfKind k)) (SpellsPayload s table n)
      (payload_at s table k) (payload_at s table k)
      (λ text f g. record {
        bytes = g.bytes;
        fits = (ap kind_number g.fits.0 ∙ e, g.fits.1);
      })
      (λ text f g. record { bytes = g.bytes; fits = (same f g.fits.0, g.fits.1) })
      (λ bytes. refl) (Reads-payload k)
    where
      same : (f : Frame) → kind_number (kind_of f) ≡ n → kind_of f ≡ k
      same f h =
          let both_kinds : Some (kind_of f) ≡ Some k = sym (number_at (kind_of f))
          ∙ ap kind_at (h ∙ sym e) ∙ number_at k in
          cc
