-- Each record has one thread, so its blocks are given again.
use Rattle.std.proofs.Common.{◌≡◌, Bool, true, false, ℕ, zero, suc, ◌+◌, ◌<◌, List, [], ◌∷◌, Some}
use Rattle.std.proofs.Common.{None, Ok, refl, sym, ap, ◌∙◌, arith, subst, length, map, inl, inr}
use Rattle.std.proofs.Common.{◌&&◌, eqb, get_or, eq-eqb}
use Rattle.std.specs.{Prelude.{nat_eq, option_map, slice_get}, List.{IsDistinct, list_any}}
use Rattle.std.proofs.lemmas.Bool.{and_from, and_parts, both_ways, cases_order, eqb-true, or_cases}
use Rattle.std.proofs.lemmas.Bool.{or_left, or_right, Decides.nat_tests}
use Rattle.std.proofs.lemmas.List.Sorted.{IsPermutation-map, list_any-IsPermutation}
use Rattle.std.proofs.lemmas.Map.Keys.{IsDistinct-IsPermutation, apart_from_distinct}
use Rattle.std.proofs.lemmas.Option.{get_or_from_slice_get, slice_get-map, slice_get_within}
use Rattle.do_machine.specs.{check.Blocks.blocks, declared.state.State.State}
use Rattle.do_record.specs.declared.parts.Record.{Record}
use Rattle.do_sched.specs.declared.line.Line.{Line}
use Rattle.do_weave.specs.{Laws.{AreApart, GivesAgain}, Rules.Rules, Said.{AreSaid, said_at}}
use Rattle.do_weave.specs.{Threads.{blocks_in, is_before, threads_from, threads_of}, Weaving.woven}
use Rattle.do_weave.specs.declared.thread.Thread.{Thread}
use Rattle.do_weave.proofs.{Sorting.all_inserted_moves, Woven.{ThreadsApart, all_said}}

-- a thread is that of a record, before any block
abbrev is_of : ℕ → ℕ → Thread → Bool
is_of index port t = eqb t.index index && (eqb t.port port && eqb t.at 0)

-- what such a thread has
of_parts : (index port : ℕ) (t : Thread) → is_of index port t ≡ true →
    (t.index ≡ index) × (t.port ≡ port) × (t.at ≡ 0)
of_parts index port t e =
    let a = and_parts (eqb t.index index) (eqb t.port port && eqb t.at 0) e in
    let b = and_parts (eqb t.port port) (eqb t.at 0) a.1 in
    (eqb-true t.index index a.0, eqb-true t.port port b.0, eqb-true t.at 0 b.1)

-- the thread of a record is one of them
own_thread : (n : ℕ) (rs : List Record) (k : ℕ) (r : Record) → slice_get rs k ≡ Some r →
    list_any (is_of (n + k) r.port) (threads_from n rs) ≡ true
own_thread n [] k r e = absurd (cc)
own_thread n (q ∷ rs) zero r e =
    let same : q ≡ r = cc in
    or_left (is_of (n + 0) r.port (record { port = q.port; index = n; at = 0 }))
    (list_any (is_of (n + 0) r.port) (threads_from (n + 1) rs))
    (and_from (eqb n (n + 0)) (eqb q.port r.port && eqb 0 0) (eq-eqb n (n + 0) (omega arith))
    (and_from (eqb q.port r.port) (eqb 0 0)
    (eq-eqb q.port r.port (ap (λ (x : Record). x.port) same)) refl))
own_thread n (q ∷ rs) (suc k) r e =
    or_right (is_of (n + suc k) r.port (record { port = q.port; index = n; at = 0 }))
    (list_any (is_of (n + suc k) r.port) (threads_from (n + 1) rs))
    (ap (λ i. list_any (is_of i r.port) (threads_from (n + 1) rs)) (omega arith)
    ∙ own_thread (n + 1) rs k r e)

-- what passes stands somewhere
any_place : (p : Thread → Bool) (xs : List Thread) → list_any p xs ≡ true →
    (j : ℕ) × (t : Thread) × (slice_get xs j ≡ Some t) × (p t ≡ true)
any_place p [] e = absurd (both_ways false refl e)
any_place p (x ∷ xs) e = elim (or_cases (p x) (list_any p xs) e) [
  | inl here ↦ (0, x, refl, here)
  | inr later ↦ let r = any_place p xs later in (suc r.0, r.1, r.2, r.3)
]

-- the ports of threads are those of their records
ports_of : (n : ℕ) (rs : List Record) →
    map (λ (t : Thread). t.port) (threads_from n rs) ≡ map (λ (r : Record). r.port) rs
ports_of n [] = refl
ports_of n (r ∷ rs) = ap (λ ps. r.port ∷ ps) (ports_of (n + 1) rs)

-- the order of two numbers does not matter
nat_eq_flips : (x y : ℕ) → nat_eq x y ≡ nat_eq y x
nat_eq_flips x y = grind (arith, nat_tests)

-- threads of different ports are apart
apart_by_ports : (ts : List Thread) → IsDistinct nat_eq (map (λ (t : Thread). t.port) ts) →
    ThreadsApart ts
apart_by_ports ts distinct j k t u a b other = elim (cases_order j k) [
  | inl same ↦ λ e. absurd (other same)
  | inr order ↦ elim order [
    | inl below ↦ λ e. absurd (at j k t u a b below e)
    | inr above ↦ λ e. absurd (at k j u t b a above (sym e))
  ]
]
  where
    at : (i l : ℕ) (v w : Thread) → slice_get ts i ≡ Some v → slice_get ts l ≡ Some w → i < l →
        v.port ≡ w.port → ⊥
    at i l v w p q lt e =
        let ks = map (λ (t : Thread). t.port) ts in
        let first : get_or ks i 0 ≡ v.port = get_or_from_slice_get ks i v.port 0
        (slice_get-map (λ (t : Thread). t.port) ts i
        ∙ ap (option_map (λ (t : Thread). t.port)) p) in
        let second : get_or ks l 0 ≡ w.port = get_or_from_slice_get ks l w.port 0
        (slice_get-map (λ (t : Thread). t.port) ts l
        ∙ ap (option_map (λ (t : Thread). t.port)) q) in
        let within : l < length ks = slice_get_within ks l w.port
        (slice_get-map (λ (t : Thread). t.port) ts l
        ∙ ap (option_map (λ (t : Thread). t.port)) q) in
        both_ways (nat_eq (get_or ks i 0) (get_or ks l 0))
        (apart_from_distinct nat_eq ks i l 0 distinct lt within)
        (eq-eqb (get_or ks i 0) (get_or ks l 0) (first ∙ e ∙ sym second))

-- the threads of records of different nodes are apart
pub threads_apart : (records : List Record) → AreApart records → ThreadsApart (threads_of records)
threads_apart records apart =
    let first = threads_from 0 records in
    apart_by_ports (threads_of records) (IsDistinct-IsPermutation nat_eq nat_eq_flips
    (map (λ (t : Thread). t.port) first) (map (λ (t : Thread). t.port) (threads_of records))
    (IsPermutation-map (λ (t : Thread). t.port) first (threads_of records)
    (all_inserted_moves is_before first))
    (subst (IsDistinct nat_eq) (sym (ports_of 0 records)) apart))

-- what is woven gives records of different nodes again
pub given_again : (R : Rules) (S : State) (records : List Record) (lines : List Line) →
    AreApart records → woven R S records ≡ Ok lines → GivesAgain R S records lines
given_again R S records lines apart e k r there =
    let first = threads_from 0 records in
    let moves = all_inserted_moves is_before first in
    let own : list_any (is_of k r.port) first ≡ true =
    ap (λ i. list_any (is_of i r.port) first) (omega arith) ∙ own_thread 0 records k r there in
    let place = any_place (is_of k r.port) (threads_of records)
    (sym (list_any-IsPermutation (is_of k r.port) first (threads_of records) moves) ∙ own) in
    let parts = of_parts k r.port place.1 place.3 in
    let said = all_said R records (blocks_in records) S (threads_of records) lines
    (threads_apart records apart) e place.0 place.1 place.2 r
    (ap (slice_get records) parts.0 ∙ there) in
    subst (λ port. AreSaid r 0 (said_at port None (blocks R.table R.act S lines))) parts.1
    (subst (λ at. AreSaid r at (said_at place.1.port None (blocks R.table R.act S lines)))
    parts.2 said)
