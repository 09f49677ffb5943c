-- The lines that records are woven to are good, and take the steps of the inputs at most.
use Rattle.do_record.specs.declared.parts.RecordLine.TheVariants as inputs
use Rattle.std.proofs.Common.{◌≡◌, ◌∙◌, ◌++◌, ◌+◌, ◌≤◌, ℕ, zero, suc, List, [], ◌∷◌, Option, Some}
use Rattle.std.proofs.Common.{None, Ok, refl, sym, ap, subst, arith, All, inl, inr, drop, sum_by}
use Rattle.std.proofs.Common.{get_or, drop-cons, add-one}
use Rattle.std.specs.{Prelude.{option_and_then, slice_get}, List.AllByRecursion}
use Rattle.std.proofs.lemmas.{Bool.cases_Bool, List.Elements.{All-from_recursion, All-get_or}}
use Rattle.std.proofs.lemmas.List.{Elements.All-set, Sorted.{All-permutation, sum_by-IsPermutation}}
use Rattle.std.proofs.lemmas.List.Sums.{sum_by-append, sum_by-cons, sum_by-set}
use Rattle.std.proofs.lemmas.Option.{get_or_from_slice_get, slice_get_within}
use Rattle.do_machine.specs.declared.state.State.{State}
use Rattle.do_record.specs.{Good.{IsGoodInput, IsGoodRecord}, declared.parts.Block.Block}
use Rattle.do_record.specs.declared.parts.{Record.Record, RecordLine.RecordLine}
use Rattle.do_sched.specs.{Good.IsLineOf, Spelling.{steps, steps_of}, declared.line.Line.Line}
use Rattle.do_sched.specs.declared.version.Version.TheVariants.{Second}
use Rattle.do_weave.specs.{Inputs.lines_of, Laws.{AreGoodLines, block_steps, record_steps}}
use Rattle.do_weave.specs.{Laws.steps_in, Rules.Rules, Threads.{advanced, blocks_in, is_before}}
use Rattle.do_weave.specs.{Threads.{next_block, threads_from, threads_of}, Weaving.{Turn, agreed}}
use Rattle.do_weave.specs.Weaving.{contradiction, ended, threads_after, turn_in, woven, woven_in}
use Rattle.do_weave.{specs.declared.thread.Thread.Thread, proofs.Found.{before_ok, ended_none}}
use Rattle.do_weave.proofs.{Found.{found, no_error}, Sorting.all_inserted_moves}
use Rattle.do_weave.proofs.Turning.{woven_agreed, woven_disagreed, woven_none}

-- what is somewhere in a list is as all are
at_place : {X : Type 0} (P : X → Type 0) (xs : List X) (i : ℕ) (x : X) → slice_get xs i ≡ Some x →
    AllByRecursion P xs → P x
at_place P [] i x e h = absurd (cc)
at_place P (y ∷ ys) zero x e h = let same : y ≡ x = cc in subst P same h.0
at_place P (y ∷ ys) (suc i) x e h = at_place P ys i x e h.1

-- good lines behind good lines
good_both : (xs ys : List Line) → AllByRecursion (IsLineOf Second) xs →
    AllByRecursion (IsLineOf Second) ys → AllByRecursion (IsLineOf Second) (xs ++ ys)
good_both [] ys h k = k
good_both (x ∷ xs) ys h k = (h.0, good_both xs ys h.1 k)

-- the lines of a good input are good
input_lines : (port : ℕ) (input : RecordLine) → IsGoodInput port input →
    AllByRecursion (IsLineOf Second) (lines_of port input)
input_lines port (inputs.Start selector values) good = (good, tt)
input_lines port inputs.Run good = ((good, omega arith, omega arith), tt)
input_lines port (inputs.Take from) good = (good, tt)
input_lines port (inputs.Close peer) good = (good, tt)
input_lines port (inputs.Ended peer) good = ((good.1, good.0, omega arith), (good, tt))

-- the steps of blocks from a place on
abbrev left_in : ℕ → Option Record → ℕ
left_in at None = 0
left_in at (Some r) = sum_by (block_steps r.port) (drop at r.blocks)

-- are those of the first and those behind it
left_some : (port : ℕ) (blocks : List Block) (at : ℕ) (b : Block) → slice_get blocks at ≡ Some b →
    sum_by (block_steps port) (drop at blocks)
    ≡ block_steps port b + sum_by (block_steps port) (drop (at + 1) blocks)
left_some port blocks at b e =
    ap (sum_by (block_steps port)) (drop-cons blocks at b (slice_get_within blocks at b e))
    ∙ sum_by-cons (block_steps port) (get_or blocks at b) (drop (suc at) blocks)
    ∙ ap (λ (x : Block). block_steps port x + sum_by (block_steps port) (drop (suc at) blocks))
    (get_or_from_slice_get blocks at b b e)
    ∙ ap (λ n. block_steps port b + sum_by (block_steps port) (drop n blocks)) (sym (add-one at))

module _ (R : Rules) (records : List Record) (good : AllByRecursion IsGoodRecord records) where
  -- a thread is of a record
  record IsThreadOf (t : Thread) : Type 0 where
    of : Record
    there : slice_get records t.index ≡ Some of
    port : t.port ≡ of.port

  -- the steps that a thread has left
  abbrev left : Thread → ℕ
  left t = left_in t.at (slice_get records t.index)

  -- the next block of a thread has good lines, and its steps are the first of those left
  record NextIs (t : Thread) (b : Block) : Type 0 where
    fine : AllByRecursion (IsLineOf Second) (lines_of t.port b.input)
    steps : left t ≡ block_steps t.port b + left (advanced t)

  -- so it is
  next_is : (t : Thread) (b : Block) → IsThreadOf t → next_block records t ≡ Some b → NextIs t b
  next_is t b is e =
      let r : Record = is.of in
      let at : slice_get r.blocks t.at ≡ Some b =
      sym (ap (option_and_then (λ (q : Record). slice_get q.blocks t.at)) is.there) ∙ e in
      record {
        fine = subst (λ p. AllByRecursion (IsLineOf Second) (lines_of p b.input)) (sym is.port)
            (input_lines r.port b.input
            (at_place (λ (x : Block). IsGoodInput r.port x.input) r.blocks t.at b at
            (at_place IsGoodRecord records t.index r is.there good)));
        steps = ap (left_in t.at) is.there ∙ left_some r.port r.blocks t.at b at
            ∙ ap (λ o. block_steps r.port b + left_in (t.at + 1) o) (sym is.there)
            ∙ ap (λ p. block_steps p b + left_in (t.at + 1) (slice_get records t.index))
            (sym is.port);
      }

  -- what is woven is good, and takes no more steps than are left
  record IsFine (threads : List Thread) (lines : List Line) : Type 0 where
    fine : AllByRecursion (IsLineOf Second) lines
    few : steps_of lines ≤ sum_by left threads

  -- where nothing is left to be woven
  fine_end : (threads : List Thread) (lines : List Line) → ended records threads ≡ Ok lines →
      IsFine threads lines
  fine_end threads lines e =
      subst (IsFine threads) (sym (ended_none records threads lines e).0)
      (record { fine = tt; few = omega arith })

  module _ (S : State) (threads : List Thread) (all : All IsThreadOf threads) (turn : Turn)
      (turns : turn_in R S records 0 threads ≡ Some turn) where
    -- the thread of the turn stands at its place
    stands : slice_get threads turn.place ≡ Some turn.thread
    stands =
        let f = found R S records 0 threads turn turns in
        ap (slice_get threads) (f.2 ∙ omega arith) ∙ f.1

    -- and is of a record
    own : IsThreadOf turn.thread
    own =
        subst IsThreadOf (get_or_from_slice_get threads turn.place turn.thread turn.thread stands)
        (All-get_or IsThreadOf threads turn.place turn.thread
        (slice_get_within threads turn.place turn.thread stands) all)

    -- its block
    next : NextIs turn.thread turn.block
    next = next_is turn.thread turn.block own (found R S records 0 threads turn turns).3.next

    -- the threads after the turn
    all_after : All IsThreadOf (threads_after turn threads)
    all_after =
        All-set IsThreadOf threads turn.place (advanced turn.thread)
        (record { of = own.of; there = own.there; port = own.port }) all

    -- lines before others that are fine
    fine_before : (more : List Line) → IsFine (threads_after turn threads) more →
        IsFine threads (lines_of turn.thread.port turn.block.input ++ more)
    fine_before more rest =
        let here = lines_of turn.thread.port turn.block.input in
        let both = sum_by-append steps here more in
        let changed = sum_by-set left threads turn.place (advanced turn.thread) turn.thread
        (slice_get_within threads turn.place turn.thread stands) in
        let was : left (get_or threads turn.place turn.thread) ≡ left turn.thread =
        ap left (get_or_from_slice_get threads turn.place turn.thread turn.thread stands) in
        let one = next.steps in
        let few = rest.few in
        record {
          fine = good_both here more next.fine rest.fine;
          few = omega (arith, both, changed, was, one, few);
        }

  -- so many turns
  fine_turns : (n : ℕ) (S : State) (threads : List Thread) (lines : List Line) →
      All IsThreadOf threads → woven_in n R S records threads ≡ Ok lines → IsFine threads lines
  fine_turns zero S threads lines all e = fine_end threads lines e
  fine_turns (suc n) S threads lines all e =
      go (turn_in R S records 0 threads) refl (fine_turns n)
    where
      go : (o : Option Turn) → turn_in R S records 0 threads ≡ o →
          ((T : State) (ts : List Thread) (ls : List Line) → All IsThreadOf ts →
          woven_in n R T records ts ≡ Ok ls → IsFine ts ls) → IsFine threads lines
      go None is later =
          fine_end threads lines (sym (woven_none R S records threads n is) ∙ e)
      go (Some turn) is later = elim (cases_Bool (agreed records turn)) [
        | inl same ↦
            let w = before_ok (lines_of turn.thread.port turn.block.input)
            (woven_in n R turn.stepped.state records (threads_after turn threads)) lines
            (sym (woven_agreed R S records threads n turn is same) ∙ e) in
            subst (IsFine threads) (sym w.2)
            (fine_before S threads all turn is w.0
            (later turn.stepped.state (threads_after turn threads) w.0
            (all_after S threads all turn is) w.1))
        | inr other ↦
            absurd (no_error (contradiction turn.thread turn.block) lines
            (sym (woven_disagreed R S records threads n turn is other) ∙ e))
      ]

  -- the threads of records are of these
  from_records : (n : ℕ) (rs : List Record) →
      ((i : ℕ) → slice_get records (n + i) ≡ slice_get rs i) →
      AllByRecursion IsThreadOf (threads_from n rs)
  from_records n [] same = tt
  from_records n (r ∷ rs) same = (
    record {
      of = r;
      there = ap (slice_get records) (omega arith) ∙ same 0;
      port = refl;
    },
    from_records (n + 1) rs (λ i. ap (slice_get records) (omega arith) ∙ same (suc i)),
  )

  -- and have all of their steps left
  from_steps : (n : ℕ) (rs : List Record) →
      ((i : ℕ) → slice_get records (n + i) ≡ slice_get rs i) →
      sum_by left (threads_from n rs) ≡ steps_in rs
  from_steps n [] same = refl
  from_steps n (r ∷ rs) same =
      let first : Thread = record { port = r.port; index = n; at = 0 } in
      let here : slice_get records n ≡ Some r = ap (slice_get records) (omega arith) ∙ same 0 in
      let one : left first ≡ record_steps r = ap (left_in 0) here in
      let rest = from_steps (n + 1) rs
      (λ i. ap (slice_get records) (omega arith) ∙ same (suc i)) in
      let all = sum_by-cons left first (threads_from (n + 1) rs) in
      let both = sum_by-cons record_steps r rs in
      omega (arith, one, rest, all, both)

  -- what is woven of records
  pub fine_woven : (S : State) (lines : List Line) → woven R S records ≡ Ok lines →
      AreGoodLines records lines
  fine_woven S lines e =
      let first = threads_from 0 records in
      let moves = all_inserted_moves is_before first in
      let same : (i : ℕ) → slice_get records (0 + i) ≡ slice_get records i =
      λ i. ap (slice_get records) (omega arith) in
      let all = All-permutation IsThreadOf first (threads_of records) moves
      (All-from_recursion IsThreadOf first (from_records 0 records same)) in
      let fine = fine_turns (blocks_in records) S (threads_of records) lines all e in
      let few = fine.few in
      let sorted = sum_by-IsPermutation left first (threads_of records) moves in
      let steps = from_steps 0 records same in
      record { good = fine.fine; few = omega (arith, few, sorted, steps) }
