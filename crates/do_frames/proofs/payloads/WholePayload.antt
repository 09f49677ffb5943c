-- What the reader of a whole payload tells, by the number of its kind.
use Rattle.std.proofs.Common.{◌≡◌, ℕ, ◌-◌, ◌≤◌, List, length, Option, Some, None, Result, Ok, Err}
use Rattle.std.{proofs.Common.{refl, sym, ap, subst, ◌∙◌, inl, inr}, specs.List.AllByRecursion}
use Rattle.do_class.specs.{Class.Class, Table.IsTable}
use Rattle.do_grammar.specs.{Grammar.IsBytes, Reader.{Stop, no_kind, short, bad, Whole, whole_of}}
use Rattle.do_grammar.proofs.reads.WholeExact.{ReadsWhole, Reads-whole, left_within_whole}
use Rattle.do_grammar.proofs.reads.WholeExact.{proper_front_whole, first_bad_whole}
use Rattle.do_coder.specs.{declared.recent.pair.Pair.Pair, Packets.{Surroundings, surroundings}}
use Rattle.do_coder.specs.Recent.{IsKnown, IsRecent}
use Rattle.do_coder.proofs.packets.PacketRead.{reads_here, stay_known}
use Rattle.do_frames.specs.declared.frame.Frame.{Frame, TheVariants.{Call, Oneway, Reply, Raised}}
use Rattle.do_frames.specs.declared.frame.Frame.TheVariants.{RootAsk, RootAnswer, Retain, Granted}
use Rattle.do_frames.specs.declared.frame.Frame.TheVariants.{Gone, Release, Settle, Shutdown}
use Rattle.do_frames.specs.{declared.kind.Kind.Kind, Frames.{kind_of, IsFrame, after_frame}}
use Rattle.do_frames.specs.Kinds.{kind_number, kind_at}
use Rattle.do_frames.specs.Payloads.{SpellsPayload, IsBadPayload, payload_at}
use Rattle.do_frames.proofs.payloads.{PayloadExact.Reads-number_of, PayloadParts.number_at}

-- equal answers have equal values
same_value : (f g : Frame) (a b : Result Frame (Stop (Unit {0}))) → a ≡ Ok f → b ≡ Ok g → a ≡ b
    → f ≡ g
same_value f g a b e h same =
    let both : a ≡ Ok g = same ∙ h in
    cc

module _ (classes : List Class) (t : IsTable classes) (from to : ℕ) (recent : List Pair)
    (r : IsRecent recent) (known : AllByRecursion (IsKnown (length classes)) recent) where
  abbrev here : Surroundings
  here = surroundings classes from to

  -- a number of no kind has no payload
  pub no_frame : (n : ℕ) (bytes : List ℕ) (f : Frame) → kind_at n ≡ None
      → SpellsPayload here recent n bytes f → ⊥
  no_frame n bytes f none g =
      let some : Some (kind_of f) ≡ None = sym (number_at (kind_of f)) ∙ ap kind_at g.fits.0
      ∙ none in
      absurd cc

  -- the pairs of the table keep to the classes
  pub frame_known : (f : Frame) → IsFrame here f
      → AllByRecursion (IsKnown (length classes)) (after_frame recent f)
  frame_known (Call call serial selector packet) h =
      stay_known classes t from to recent r known packet h.1.1.1
  frame_known (Oneway serial selector packet) h =
      stay_known classes t from to recent r known packet h.1.1
  frame_known (Reply call packet) h = stay_known classes t from to recent r known packet h.1
  frame_known (Raised call exc) h = known
  frame_known (RootAsk call) h = known
  frame_known (RootAnswer call packet) h = stay_known classes t from to recent r known packet h.1
  frame_known (Retain serial token) h = known
  frame_known (Granted serial token) h = known
  frame_known (Gone serial token) h = known
  frame_known (Release serial amount) h = known
  frame_known (Settle number) h = known
  frame_known Shutdown h = known

  module _ (kind : Kind) (n : ℕ) (e : kind_number kind ≡ n) (bytes : List ℕ) where
    abbrev Payload : List ℕ → Frame → Type 0
    Payload = SpellsPayload here recent n

    abbrev whole : Whole (Unit {0}) Frame
    whole = whole_of no_kind (payload_at here recent kind)

    -- the reader of the whole payload is exact
    exact : ReadsWhole Payload whole
    exact =
        Reads-whole no_kind Payload (payload_at here recent kind)
        (Reads-number_of here recent (reads_here classes t from to recent r known) kind n e)

    -- what is read is spelled
    pub whole_spelled : (f : Frame) → IsBytes bytes → whole bytes ≡ Ok f → Payload bytes f
    whole_spelled f small read = exact.sound bytes f small read

    -- what is spelled is read, and nothing else
    pub whole_only : (f g : Frame) → whole bytes ≡ Ok f → Payload bytes g → f ≡ g
    whole_only f g read spelled =
        same_value f g (whole bytes) (whole bytes) read (exact.reads_spelling bytes g spelled) refl

    pub whole_never : (s : Stop (Unit {0})) (g : Frame) → whole bytes ≡ Err s → Payload bytes g → ⊥
    whole_never s g read spelled =
        let same : Err s ≡ Ok g = sym read ∙ exact.reads_spelling bytes g spelled in
        absurd cc

    -- a payload that ends too early, and one with a bad byte
    pub whole_short : IsBytes bytes → whole bytes ≡ Err short
        → IsBadPayload (kind_at n) Payload bytes (length bytes)
    whole_short small read =
        subst (λ (o : Option Kind). IsBadPayload o Payload bytes (length bytes))
        (sym (number_at kind) ∙ ap kind_at e)
        (inr (refl, proper_front_whole Payload whole exact bytes small read))

    pub whole_left : (left : ℕ) → IsBytes bytes → whole bytes ≡ Err (bad no_kind left)
        → left ≤ length bytes
    whole_left left small read =
        left_within_whole Payload whole exact bytes no_kind left small read

    pub whole_bad : (left : ℕ) → IsBytes bytes → whole bytes ≡ Err (bad no_kind left)
        → IsBadPayload (kind_at n) Payload bytes (length bytes - left)
    whole_bad left small read =
        subst (λ (o : Option Kind). IsBadPayload o Payload bytes (length bytes - left))
        (sym (number_at kind) ∙ ap kind_at e)
        (inl (first_bad_whole Payload whole exact bytes no_kind left small read))
