-- How many blocks are left: as many as an order of them has turns.
use Rattle.std.proofs.Common.{◌≡◌, ℕ, zero, suc, ◌+◌, ◌-◌, List, [], ◌∷◌, Option, Some, None, Ok}
use Rattle.std.proofs.Common.{refl, sym, ap, ◌∙◌, arith, length, sum_by, get_or}
use Rattle.std.specs.Prelude.{option_and_then, slice_get}
use Rattle.std.proofs.lemmas.List.{Sums.{sum_by-cons, sum_by-set}, Sorted.sum_by-IsPermutation}
use Rattle.std.proofs.lemmas.Option.{get_or_from_slice_get, slice_get_within}
use Rattle.do_machine.specs.declared.state.State.{State}
use Rattle.do_record.specs.declared.parts.{Block.Block, Record.Record}
use Rattle.do_weave.specs.{Orders.HasOrder, Rules.Rules, Threads.{advanced, blocks_in, is_before}}
use Rattle.do_weave.specs.Threads.{next_block, threads_from, threads_of}
use Rattle.do_weave.specs.Weaving.{contradiction, ended, threads_after, unless_left}
use Rattle.do_weave.specs.declared.thread.Thread.{Thread}
use Rattle.do_weave.proofs.{Found.{no_error, parts}, Places.get_none, Sorting.all_inserted_moves}

-- how many blocks of a record stand from a place on
abbrev left_in : ℕ → Option Record → ℕ
left_in at None = 0
left_in at (Some r) = length r.blocks - at

module _ (records : List Record) where
  -- how many blocks a thread has left
  abbrev left : Thread → ℕ
  left t = left_in t.at (slice_get records t.index)

  -- a thread without a next block has none left
  left_none : (t : Thread) → next_block records t ≡ None → left t ≡ 0
  left_none t e = go (slice_get records t.index) e
    where
      go : (o : Option Record) →
          option_and_then (λ (r : Record). slice_get r.blocks t.at) o ≡ None →
          left_in t.at o ≡ 0
      go None f = refl
      go (Some r) f = let few = get_none r.blocks t.at f in omega arith

  -- a thread with one has one more than behind it
  left_some : (t : Thread) (b : Block) → next_block records t ≡ Some b →
      left t ≡ suc (left (advanced t))
  left_some t b e = go (slice_get records t.index) e
    where
      go : (o : Option Record) →
          option_and_then (λ (r : Record). slice_get r.blocks t.at) o ≡ Some b →
          left_in t.at o ≡ suc (left_in (t.at + 1) o)
      go None f = absurd (cc)
      go (Some r) f = let within = slice_get_within r.blocks t.at b f in omega arith

  -- where nothing contradicts at the end, nothing is left
  left_ended : (threads : List Thread) → ended records threads ≡ Ok [] → sum_by left threads ≡ 0
  left_ended [] e = refl
  left_ended (t ∷ ts) e = go (next_block records t) refl e (left_ended ts)
    where
      go : (b : Option Block) → next_block records t ≡ b →
          unless_left t b (ended records ts) ≡ Ok [] →
          (ended records ts ≡ Ok [] → sum_by left ts ≡ 0) → sum_by left (t ∷ ts) ≡ 0
      go (Some b) next f later = absurd (no_error (contradiction t b) [] f)
      go None next f later =
          let one = sum_by-cons left t ts in
          let none = left_none t next in
          let rest = later f in
          omega arith

  -- an order has as many turns as blocks are left
  pub order_counts : (R : Rules) (n : ℕ) (S : State) (threads : List Thread) →
      HasOrder n R S records threads → n ≡ sum_by left threads
  order_counts R zero S threads order = sym (left_ended threads order)
  order_counts R (suc n) S threads order =
      let q = order.2 in
      let p = parts R S records order.0 order.1 q order.4 in
      let there : slice_get threads q.place ≡ Some q.thread =
      ap (slice_get threads) p.0 ∙ order.3 ∙ ap Some (sym p.1) in
      let changed = sum_by-set left threads q.place (advanced q.thread) q.thread
      (slice_get_within threads q.place q.thread there) in
      let own : left (get_or threads q.place q.thread) ≡ left q.thread =
      ap left (get_or_from_slice_get threads q.place q.thread q.thread there) in
      let one = left_some q.thread q.block p.2.next in
      let rest = order_counts R n q.stepped.state (threads_after q threads) order.6 in
      omega arith

  -- the threads of records have their blocks left
  left_from : (n : ℕ) (rs : List Record) → ((i : ℕ) → slice_get records (n + i) ≡ slice_get rs i) →
      sum_by left (threads_from n rs) ≡ blocks_in rs
  left_from n [] same = refl
  left_from n (r ∷ rs) same =
      let first : Thread = record { port = r.port; index = n; at = 0 } in
      let here : slice_get records n ≡ Some r = ap (slice_get records) (omega arith) ∙ same 0 in
      let one : left first ≡ length r.blocks = ap (left_in 0) here ∙ omega arith in
      let rest = left_from (n + 1) rs
      (λ i. ap (slice_get records) (omega arith) ∙ same (suc i)) in
      let all = sum_by-cons left first (threads_from (n + 1) rs) in
      let both = sum_by-cons (λ (x : Record). length x.blocks) r rs in
      omega arith

  -- so an order of all inputs has as many turns as there are blocks
  pub order_of_all : (R : Rules) (n : ℕ) (S : State) →
      HasOrder n R S records (threads_of records) → n ≡ blocks_in records
  order_of_all R n S order = order_counts R n S (threads_of records) order
      ∙ sum_by-IsPermutation left (threads_from 0 records) (threads_of records)
      (all_inserted_moves is_before (threads_from 0 records))
      ∙ left_from 0 records (λ i. ap (slice_get records) (omega arith))
