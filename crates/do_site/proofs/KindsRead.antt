-- What is read of a raw frame has the kind of its number.
use Rattle.do_frames.specs.declared.frame.Frame.TheVariants as frames
use Rattle.do_frames.specs.declared.kind.Kind.TheVariants as kinds
use Rattle.std.proofs.Common.{◌≡◌, ◌∙◌, ℕ, List, [], ◌∷◌, Option, Some, None, Result, Ok, Err, ap}
use Rattle.std.{proofs.Common.{refl, subst}, specs.Prelude.IfOk}
use Rattle.do_class.specs.Class.{Class}
use Rattle.do_grammar.specs.Reader.{Reader, Stop, done, ended, mapped, no_kind, whole_of, ◌>>=◌}
use Rattle.do_grammar.specs.OneSpelling.{both}
use Rattle.do_coder.specs.{Names.serial_at, Packets.{Surroundings, surroundings}}
use Rattle.do_coder.specs.declared.recent.pair.Pair.{Pair}
use Rattle.do_frames.specs.{Exceptions.exc_at, Frames.kind_of, Kinds.{kind_at, kind_number}}
use Rattle.do_frames.specs.Payloads.{answer_at, call, gone_at, granted_at, message_at, oneway}
use Rattle.do_frames.specs.Payloads.{payload_at, raised_at, release_at, retain_at, root_ask_at}
use Rattle.do_frames.specs.{Payloads.{settle_at, token_at}, declared.fault.RawFault.RawFault}
use Rattle.do_frames.specs.declared.fault.RawFault.TheVariants.{BadFrame, Memory}
use Rattle.do_frames.specs.declared.{frame.Frame.Frame, kind.Kind.Kind, frame.RawFrame.RawFrame}
use Rattle.do_network.specs.Frames.{payload_read, read_frame, read_or_place}
use Rattle.do_streams.specs.{Reading.IsReading, declared.reading.Reading.Reading}
use Rattle.do_streams.proofs.FramesTold.{kind_is}

-- a frame that is made of what was read has the kind of which it is made
made_so : {A : Type 0} (to : A → Frame) (k : Kind) → ((x : A) → kind_of (to x) ≡ k) →
    (r : Reader (Unit {0}) A) (bytes : List ℕ) (f : Frame) →
    whole_of no_kind (mapped to r) bytes ≡ Ok f → kind_of f ≡ k
made_so {A} to k is r bytes f e = by_read (r bytes) e
  where
    by_read : (o : Result (A × List ℕ) (Stop (Unit {0}))) →
        ((o >>= λ x. done (to x.0) x.1) >>= ended no_kind) ≡ Ok f → kind_of f ≡ k
    by_read (Err s) h = absurd (cc)
    by_read (Ok (x, [])) h =
        let same : to x ≡ f = cc in
        subst (λ g. kind_of g ≡ k) same (is x)
    by_read (Ok (x, b ∷ bs)) h = absurd (cc)

module _ (s : Surroundings) (table : List Pair) (bytes : List ℕ) (f : Frame) where
  -- a payload of a kind that is read whole is a frame of the kind
  kind_read : (k : Kind) → whole_of no_kind (payload_at s table k) bytes ≡ Ok f → kind_of f ≡ k
  unfolding raised_at root_ask_at retain_at granted_at gone_at release_at settle_at
  kind_read kinds.Call e =
      made_so call kinds.Call (λ p. refl) (both serial_at (λ number. message_at s table)) bytes f e
  kind_read kinds.Oneway e =
      made_so oneway kinds.Oneway (λ p. refl) (message_at s table) bytes f e
  kind_read kinds.Reply e =
      made_so (λ p. frames.Reply p.0 p.1) kinds.Reply (λ p. refl) (answer_at s table) bytes f e
  kind_read kinds.Raised e =
      made_so (λ p. frames.Raised p.0 p.1) kinds.Raised (λ p. refl)
      (both serial_at (λ number. exc_at)) bytes f e
  kind_read kinds.RootAsk e =
      made_so (λ number. frames.RootAsk number) kinds.RootAsk (λ p. refl) serial_at bytes f e
  kind_read kinds.RootAnswer e =
      made_so (λ p. frames.RootAnswer p.0 p.1) kinds.RootAnswer (λ p. refl) (answer_at s table)
      bytes f e
  kind_read kinds.Retain e =
      made_so (λ p. frames.Retain p.0 p.1) kinds.Retain (λ p. refl) token_at bytes f e
  kind_read kinds.Granted e =
      made_so (λ p. frames.Granted p.0 p.1) kinds.Granted (λ p. refl) token_at bytes f e
  kind_read kinds.Gone e =
      made_so (λ p. frames.Gone p.0 p.1) kinds.Gone (λ p. refl) token_at bytes f e
  kind_read kinds.Release e =
      made_so (λ p. frames.Release p.0 p.1) kinds.Release (λ p. refl)
      (both serial_at (λ serial. serial_at)) bytes f e
  kind_read kinds.Settle e =
      made_so (λ number. frames.Settle number) kinds.Settle (λ p. refl) serial_at bytes f e
  kind_read kinds.Shutdown e = by_bytes bytes e
    where
      by_bytes : (bs : List ℕ) → whole_of no_kind (done frames.Shutdown) bs ≡ Ok f →
          kind_of f ≡ kinds.Shutdown
      by_bytes [] h =
          let same : frames.Shutdown ≡ f = cc in
          subst (λ g. kind_of g ≡ kinds.Shutdown) same refl
      by_bytes (b ∷ bs) h = absurd (cc)

module _ (table : List Class) (from to : ℕ) (recent : List Pair) (raw : RawFrame) where
  -- so a raw frame that is read has the kind of its number
  frame_kind : (f : Frame) → read_frame table from to recent raw ≡ Ok f →
      kind_number (kind_of f) ≡ raw.kind
  unfolding read_frame
  frame_kind f e = by_kind (kind_at raw.kind) refl e
    where
      by_whole : (k : Kind) → kind_at raw.kind ≡ Some k →
          (w : Result Frame (Stop (Unit {0}))) →
          whole_of no_kind (payload_at (surroundings table from to) recent k) raw.payload ≡ w →
          read_or_place raw.payload w ≡ Ok f → kind_number (kind_of f) ≡ raw.kind
      by_whole k at (Ok g) is h =
          let same : g ≡ f = cc in
          ap kind_number (kind_read (surroundings table from to) recent raw.payload f k
          (is ∙ ap (λ x. Ok x) same))
          ∙ kind_is raw.kind k at
      by_whole k at (Err stop) is h = absurd (cc)

      by_kind : (o : Option Kind) → kind_at raw.kind ≡ o →
          payload_read (surroundings table from to) recent raw.payload o ≡ Ok f →
          kind_number (kind_of f) ≡ raw.kind
      by_kind None at h = absurd (cc)
      by_kind (Some k) at h =
          by_whole k at
          (whole_of no_kind (payload_at (surroundings table from to) recent k) raw.payload) refl h

  -- and what was read of it tells so
  pub reading_has_kind : (result : Result Reading RawFault) →
      IsReading recent (read_frame table from to recent raw) result →
      IfOk result (λ r. kind_number (kind_of r.frame) ≡ raw.kind)
  reading_has_kind (Ok r) is = frame_kind r.frame is.0
  reading_has_kind (Err (BadFrame place)) is = tt
  reading_has_kind (Err Memory) is = tt
