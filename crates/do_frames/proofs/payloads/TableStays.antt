-- Frames without a packet leave the table of recent names.
use Rattle.do_frames.specs.declared.frame.Frame.TheVariants as frames
use Rattle.std.proofs.Common.{◌≡◌, ℕ, true, List, Result, Ok, Err, IfOk, refl, sym, ap, ◌∙◌}
use Rattle.std.specs.Borrow.{Bor}
use Rattle.do_grammar.specs.declared.fault.ReadFault.{ReadFault}
use Rattle.do_coder.specs.{declared.recent.pair.Pair.Pair, NameLog.Tables}
use Rattle.do_frames.specs.{declared.frame.Frame.Frame, Frames.{after_frame, kind_of}}
use Rattle.do_frames.specs.Kinds.{kind_number, numbers_alone}

-- the table after a frame that leaves each table is the one before
pub table_stays : (r : Result (Frame × Bor (List ℕ)) ReadFault) (log : Tables)
    → IfOk r (λ x. (table : List Pair) → after_frame table x.0 ≡ table)
    → IfOk r (λ x. log ≡ record { now = after_frame log.now x.0; kept = log.kept })
table_stays (Ok x) log h =
    ap (λ (w : List Pair). record { now = w; kept = log.kept }) (sym (h log.now))
table_stays (Err e) log h = tt

-- a frame of numbers alone has no packet, so it leaves the table
alone_stays : (table : List Pair) (f : Frame) → numbers_alone (kind_number (kind_of f)) ≡ true
    → after_frame table f ≡ table
alone_stays table (frames.Call call serial selector packet) alone = absurd (cc)
alone_stays table (frames.Oneway serial selector packet) alone = absurd (cc)
alone_stays table (frames.Reply call packet) alone = absurd (cc)
alone_stays table (frames.Raised call exc) alone = refl
alone_stays table (frames.RootAsk call) alone = refl
alone_stays table (frames.RootAnswer call packet) alone = absurd (cc)
alone_stays table (frames.Retain serial token) alone = refl
alone_stays table (frames.Granted serial token) alone = refl
alone_stays table (frames.Gone serial token) alone = refl
alone_stays table (frames.Release serial amount) alone = refl
alone_stays table (frames.Settle number) alone = refl
alone_stays table frames.Shutdown alone = refl

-- the same for the number of the frame's kind
pub numbers_stay : (table : List Pair) (f : Frame) (n : ℕ) → kind_number (kind_of f) ≡ n
    → numbers_alone n ≡ true → after_frame table f ≡ table
numbers_stay table f n is alone = alone_stays table f (ap numbers_alone is ∙ alone)
