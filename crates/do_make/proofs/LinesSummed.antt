-- What the lines so far come to, with those that are left.
use Rattle.std.proofs.Common.{◌≡◌, ℕ, ◌+◌, List, [], ◌∷◌, Option, Some, None, length, sum_by, ap}
use Rattle.std.{proofs.Common.{arith, refl, sym, ◌∙◌}, specs.{Prelude.if◌then◌else◌, List.count_by}}
use Rattle.std.proofs.lemmas.List.Sums.{sum_by-cons}
use Rattle.do_class.specs.Class.{Class}
use Rattle.do_machine.specs.run.Run.{Acting}
use Rattle.do_network.specs.{Net.Net, Wired.{WiredBlock, net_blocks, net_line_step, wired_block}}
use Rattle.do_sched.specs.declared.line.Line.{Line}
use Rattle.do_trace.specs.declared.outcome.Snapshot.{Snapshot}
use Rattle.do_make.specs.Summary.{bytes_sent, entries_listed, is_free, is_say, last_listed, nothing}
use Rattle.do_make.specs.Summary.{objects_listed, or_else, summary_of, with_block}
use Rattle.do_make.specs.declared.counts.Summary.{Summary}

-- a summary with these lines behind it
abbrev pub summed : Summary → List WiredBlock → Summary
summed s bs = record {
  lines = s.lines + length bs;
  skips = s.skips + sum_by (λ (b : WiredBlock). if b.block.outcome.enabled then 0 else 1) bs;
  says = s.says + sum_by (λ (b : WiredBlock). count_by is_say b.block.outcome.shown) bs;
  frees = s.frees + sum_by (λ (b : WiredBlock). count_by is_free b.block.outcome.shown) bs;
  objects = objects_listed s.objects (last_listed bs);
  entries = entries_listed s.entries (last_listed bs);
  frames = s.frames + sum_by (λ (b : WiredBlock). length b.wires) bs;
  bytes = s.bytes + sum_by bytes_sent bs;
}

-- a number that counts one more line counts what is left behind it
one_more : {X : Type 0} (f : X → ℕ) (n : ℕ) (x : X) (xs : List X) →
    (n + f x) + sum_by f xs ≡ n + sum_by f (x ∷ xs)
one_more f n x xs = omega (arith, sum_by-cons f x xs)

-- what an earlier check lists is listed where no later one lists anything
objects_later : (n : ℕ) (here later : Option Snapshot) →
    objects_listed (objects_listed n here) later ≡ objects_listed n (or_else later here)
objects_later n here None = refl
objects_later n here (Some listed) = refl

-- and so are its entries
entries_later : (n : ℕ) (here later : Option Snapshot) →
    entries_listed (entries_listed n here) later ≡ entries_listed n (or_else later here)
entries_later n here None = refl
entries_later n here (Some listed) = refl

-- summaries whose numbers are the same are the same
same_numbers : (s t : Summary) → s.lines ≡ t.lines → s.skips ≡ t.skips → s.says ≡ t.says →
    s.frees ≡ t.frees → s.objects ≡ t.objects → s.entries ≡ t.entries → s.frames ≡ t.frames →
    s.bytes ≡ t.bytes → s ≡ t
same_numbers s t lines skips says frees objects entries frames bytes =
    rw (lines, skips, says, frees, objects, entries, frames, bytes) refl

-- a line stands in front of those that are left
pub summed_more : (s : Summary) (b : WiredBlock) (bs : List WiredBlock) →
    summed (with_block s b) bs ≡ summed s (b ∷ bs)
summed_more s b bs = same_numbers (summed (with_block s b) bs) (summed s (b ∷ bs))
    (omega arith)
    (one_more (λ (x : WiredBlock). if x.block.outcome.enabled then 0 else 1) s.skips b bs)
    (one_more (λ (x : WiredBlock). count_by is_say x.block.outcome.shown) s.says b bs)
    (one_more (λ (x : WiredBlock). count_by is_free x.block.outcome.shown) s.frees b bs)
    (objects_later s.objects b.block.listed (last_listed bs))
    (entries_later s.entries b.block.listed (last_listed bs))
    (one_more (λ (x : WiredBlock). length x.wires) s.frames b bs)
    (one_more bytes_sent s.bytes b bs)

-- before the first line nothing is counted
pub summed_first : (bs : List WiredBlock) → summed nothing bs ≡ summary_of bs
summed_first bs = same_numbers (summed nothing bs) (summary_of bs) (omega arith) (omega arith)
    (omega arith) (omega arith) refl refl (omega arith) (omega arith)

-- behind the last line nothing is left
pub summed_last : (s : Summary) → summed s [] ≡ s
summed_last s = same_numbers (summed s []) s (omega arith) (omega arith) (omega arith)
    (omega arith) refl refl (omega arith) (omega arith)

-- the next line is counted, and the network is what it led to
pub counts_line : (table : List Class) (act : Acting) (N M : Net) (s t all : Summary) (line : Line)
    (lines rest : List Line) → lines ≡ line ∷ rest →
    t ≡ with_block s (wired_block line (net_line_step table act N line)) →
    M ≡ (net_line_step table act N line).net →
    summed s (net_blocks table act N lines) ≡ all →
    summed t (net_blocks table act M rest) ≡ all
counts_line table act N M s t all line lines rest first counted led so_far =
    let b = wired_block line (net_line_step table act N line) in
    let bs = net_blocks table act (net_line_step table act N line).net rest in
    ap (λ m. summed t (net_blocks table act m rest)) led
    ∙ ap (λ x. summed x bs) counted ∙ summed_more s b bs
    ∙ sym (ap (λ ls. summed s (net_blocks table act N ls)) first) ∙ so_far
