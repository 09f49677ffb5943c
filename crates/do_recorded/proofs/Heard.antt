-- What is found among peers may come to a node, and the peers stay such.
use Rattle.do_link.specs.declared.script.ScriptEvent.TheVariants as event
use Rattle.std.proofs.Common.{List, [], ap, refl, subst, ℕ, ◌&&◌, ◌==◌, ◌∷◌, ◌≡◌}
use Rattle.std.specs.List.{AllByRecursion}
use Rattle.std.specs.Prelude.{Err, None, Ok, Option, Result, Some, false, unwrap_or}
use Rattle.do_grammar.proofs.reads.ExactReader.{IsBytes-append, IsBytes-rest}
use Rattle.do_grammar.specs.{Grammar.IsBytes, Reader.{Stop, bad, short}}
use Rattle.do_sched.specs.Good.{IsPort}
use Rattle.do_frames.{proofs.streams.FrontExact.Reads-front, specs.Streams.{Stream, front_at}}
use Rattle.do_frames.specs.declared.{fault.StreamFault.StreamFault, frame.RawFrame.RawFrame}
use Rattle.do_facts.proofs.Chains.{either}
use Rattle.do_network.specs.declared.input.Input.{Input, TheVariants.Ended}
use Rattle.do_link.specs.Told.{Came, Handed, Listened, Told}
use Rattle.do_link.specs.declared.script.ScriptEvent.{ScriptEvent}
use Rattle.do_recorded.specs.{Chain.{AreHeard, CameAsBytes}, Inputs.IsServed}
use Rattle.do_serve.specs.Peers.{Found, Peer, behind, change_at, end_among, fed, sent_to}
use Rattle.do_serve.specs.{Peers.{take_among, taken_by, told_ended}, Rules.{Outgoing, Rules}}
use Rattle.do_serve.specs.Serving.{hand, hears}
use Rattle.do_serve.specs.Streams.{Next, faulty, frame, next_by, next_in, next_unless, none}
use Rattle.do_showable.specs.Shows.{MayCome}

-- an input that serving does, of which a frame is of bytes
abbrev pub Serves : ℕ → Input → Type 0
Serves port i = IsServed port i × MayCome port i

-- a peer has a port, and what came from it is bytes
abbrev IsHeard : Peer → Type 0
IsHeard p = IsPort p.port × IsBytes p.stream.rest

-- an input that was found is one that serving does, and the peers are such
abbrev pub FoundServed : ℕ → Found → Type 0
FoundServed port None = Unit {0}
FoundServed port (Some x) = Serves port x.0 × AreHeard x.1

-- ---- streams

-- what stands first in a stream is of bytes, and so is what is left
abbrev NextStands : Next → Type 0
NextStands (frame f s) = IsBytes f.payload × IsBytes s.rest
NextStands (faulty s) = IsBytes s.rest
NextStands none = Unit {0}

-- so it is where the stream is
next_stands : (s : Stream) → IsBytes s.rest → NextStands (next_in s)
unfolding next_in
next_stands s small = unless s.fault
  where
    by : (r : Result (RawFrame × List ℕ) (Stop (Unit {0}))) → front_at s.greeted s.rest ≡ r →
        NextStands (next_by s r)
    by (Ok x) e =
        let found = (Reads-front s.greeted).sound s.rest x.0 x.1 small e in
        (found.spelled.fits.small, IsBytes-rest found.text x.1 (subst IsBytes found.parts small))
    by (Err short) e = tt
    by (Err (bad kind left)) e = small

    unless : (fault : Option StreamFault) → NextStands (next_unless s fault)
    unless None = by (front_at s.greeted s.rest) refl
    unless (Some fault) = small

-- ---- peers

-- behind one peer more
behind_served : (port : ℕ) (p : Peer) (found : Found) → IsHeard p → FoundServed port found →
    FoundServed port (behind p found)
behind_served port p None at h = tt
behind_served port p (Some x) at h = (h.0, (at, h.1))

-- what a stream gives
next_served : (port : ℕ) (p : Peer) (ps : List Peer) (next : Next) (others : Found) → IsHeard p →
    AreHeard ps → NextStands next → FoundServed port others →
    FoundServed port (taken_by p ps next others)
next_served port p ps (frame f s) others at heard next h =
    ((at.0, (at.0, next.0)), ((at.0, next.1), heard))
next_served port p ps (faulty s) others at heard next h = ((at.0, tt), ((at.0, next), heard))
next_served port p ps none others at heard next h = behind_served port p others at h

-- a change of a peer that leaves it such
changed_heard : (port : ℕ) (change : Peer → Peer) → ((p : Peer) → IsHeard p → IsHeard (change p)) →
    (ps : List Peer) → AreHeard ps → AreHeard (change_at port change ps)
changed_heard port change keeps [] h = tt
changed_heard port change keeps (p ∷ ps) h =
    either AreHeard (p.port == port) (change p ∷ ps) (p ∷ change_at port change ps)
    (λ _. (keeps p h.0, h.1)) (λ _. (h.0, changed_heard port change keeps ps h.1))

-- peers to which frames were handed, and what the link told behind that
pub handed_heard : (frames : List Outgoing) (ps : List Peer) (told : List Told)
    (x : List Peer × List Told) → hand frames ps told ≡ Some x → AreHeard ps →
    AllByRecursion CameAsBytes told → AreHeard x.0 × AllByRecursion CameAsBytes x.1
handed_heard [] ps told x e h k =
    let same : (ps, told) ≡ x = ap (λ (o : Option (List Peer × List Told)). unwrap_or o x) e in
    subst (λ (y : List Peer × List Told). AreHeard y.0 × AllByRecursion CameAsBytes y.1) same (h, k)
handed_heard (f ∷ fs) ps (Handed sent ∷ told) x e h k =
    handed_heard fs (change_at f.to (sent_to sent.failed) ps) told x e
    (changed_heard f.to (sent_to sent.failed) (λ p g. g) ps h) k.1
handed_heard (f ∷ fs) ps [] x e h k = absurd (cc)
handed_heard (f ∷ fs) ps (Came event ∷ told) x e h k = absurd (cc)
handed_heard (f ∷ fs) ps (Listened p qs failed ∷ told) x e h k = absurd (cc)

module _ {Part : Type 0} (rules : Rules Part) (port : ℕ) where
  -- what is taken
  pub take_served : (part : Part) (ps : List Peer) → AreHeard ps →
      FoundServed port (take_among rules part ps)
  take_served part [] h = tt
  take_served part (p ∷ ps) h =
      let others = take_among rules part ps in
      let later = take_served part ps h.1 in
      either (FoundServed port) (rules.can_take part p.port)
      (taken_by p ps (next_in p.stream) others) (behind p others)
      (λ _. next_served port p ps (next_in p.stream) others h.0 h.1
      (next_stands p.stream h.0.1) later)
      (λ _. behind_served port p others h.0 later)

  -- an end that was told
  pub end_served : (part : Part) (ps : List Peer) → AreHeard ps →
      FoundServed port (end_among rules part ps)
  end_served part [] h = tt
  end_served part (p ∷ ps) h =
      either (FoundServed port) (p.is_ended && rules.can_take part p.port)
      (Some (Ended p.port, record p { is_ended = false } ∷ ps))
      (behind p (end_among rules part ps)) (λ _. ((h.0.0, tt), (h.0, h.1)))
      (λ _. behind_served port p (end_among rules part ps) h.0 (end_served part ps h.1))

  -- peers over which something came
  pub heard : (part : Part) (event : ScriptEvent) (ps : List Peer) → CameAsBytes (Came event) →
      AreHeard ps → AreHeard (hears rules part event ps)
  heard part (event.Bytes peer bytes) ps small h =
      either AreHeard (rules.is_open part peer) (change_at peer (fed bytes) ps) ps
      (λ _. changed_heard peer (fed bytes)
      (λ p g. (g.0, IsBytes-append p.stream.rest bytes g.1 small)) ps h) (λ _. h)
  heard part (event.Ended peer) ps small h =
      either AreHeard (rules.is_open part peer) (change_at peer told_ended ps) ps
      (λ _. changed_heard peer told_ended (λ p g. g) ps h) (λ _. h)
  heard part event.Quiet ps small h = h
