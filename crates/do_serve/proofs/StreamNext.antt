-- What the answer of a reader of a stream is, by the next frame in it.
use Rattle.std.proofs.Common.{◌≡◌, ◌++◌, Option, Some, None, Ok, ◌≢◌, Err, refl, sym, ap, ◌∙◌}
use Rattle.std.proofs.Common.{subst}
use Rattle.do_grammar.specs.Grammar.{IsBytes, IsProperFront}
use Rattle.do_grammar.proofs.reads.ExactReader.{IsBytes-rest}
use Rattle.do_frames.specs.declared.fault.StreamFault.{StreamFault, TheVariants.BadKind}
use Rattle.do_frames.specs.declared.fault.StreamFault.TheVariants.{BadLength, BadVersion, Memory}
use Rattle.do_frames.specs.{declared.frame.RawFrame.RawFrame, Frames.raw_spelling, Streams.Stream}
use Rattle.do_frames.specs.Streams.{Front, front_at, greeting, TakesFrame, FindsFault, TellsNext}
use Rattle.do_frames.proofs.streams.FrontExact.{Reads-front}
use Rattle.do_serve.specs.Streams.{frame, faulty, none, next_by, next_unless, next_in}
use Rattle.do_serve.proofs.OneReading.{front_is_short, bad_is_there}

-- a frame that is taken is the next
taken_next : (s t : Stream) (f : RawFrame) → TakesFrame s f t
    → next_by s (front_at s.greeted s.rest) ≡ frame f t
taken_next s t f h =
    let read = (Reads-front s.greeted).reads_spelling
    (greeting s.greeted ++ raw_spelling f) f t.rest
    (record { bytes = refl; fits = h.frame }) in
    rw (h.parts, read, ← h.parts, ← h.place, ← h.greeted, ← h.fault) refl

-- without a whole frame there is none
none_next : (s : Stream) → IsBytes s.rest → IsProperFront (Front s.greeted) s.rest
    → next_by s (front_at s.greeted s.rest) ≡ none
none_next s small p =
    rw (front_is_short (Front s.greeted) (front_at s.greeted) (Reads-front s.greeted)
    s.rest small p)
    refl

-- a fault that is found is the next
fault_next : (s t : Stream) (fault : StreamFault) → IsBytes s.rest → FindsFault s fault t
    → next_by s (front_at s.greeted s.rest) ≡ faulty t
fault_next s t fault small h =
    let b = bad_is_there (Front s.greeted) (front_at s.greeted) (Reads-front s.greeted) s.rest h.at
    small h.first in
    rw (b.1, b.2, h.kept) refl

-- ---- the answers

-- a frame that is answered is the next, and what is left are bytes
pub next_taken : (s t : Stream) (f : RawFrame) (fault : Option StreamFault) → s.fault ≡ fault
    → IsBytes s.rest → TellsNext fault s t (Ok (Some f))
    → (next_in s ≡ frame f t) × IsBytes t.rest
unfolding next_in
next_taken s t f (Some x) e small h = absurd cc
next_taken s t f None e small h = (
  rw e (taken_next s t f h),
  IsBytes-rest (greeting s.greeted ++ raw_spelling f) t.rest (subst IsBytes h.parts small),
)

-- where none is answered there is none
pub next_none : (s t : Stream) (fault : Option StreamFault) → s.fault ≡ fault → IsBytes s.rest
    → TellsNext fault s t (Ok None) → (next_in s ≡ none) × (t ≡ s)
unfolding next_in
next_none s t (Some x) e small h = absurd cc
next_none s t None e small h = (rw e (none_next s small h.0), h.1)

-- a fault that is answered is there
pub next_faulty : (s t : Stream) (x : StreamFault) (fault : Option StreamFault)
    → s.fault ≡ fault → IsBytes s.rest → x ≢ Memory → TellsNext fault s t (Err x)
    → next_in s ≡ faulty t
unfolding next_in
next_faulty s t x (Some y) e small not h = ap (next_unless s) e ∙ ap faulty (sym h.1)
next_faulty s t (BadKind n) None e small not h = rw e (fault_next s t (BadKind n) small h)
next_faulty s t (BadLength n) None e small not h = rw e (fault_next s t (BadLength n) small h)
next_faulty s t (BadVersion n) None e small not h = rw e (fault_next s t (BadVersion n) small h)
next_faulty s t Memory None e small not h = absurd (not refl)
