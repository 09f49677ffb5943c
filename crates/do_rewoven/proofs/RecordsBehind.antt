-- Records that are read one behind another have good inputs, are of different nodes, and take few
-- steps.
use Rattle.std.proofs.Common.{◌≡◌, ◌∙◌, ◌++◌, ◌+◌, ◌<◌, ◌≤◌, ◌==◌, ◌||◌, ◌&&◌, ℕ, Bool, true, false}
use Rattle.std.proofs.Common.{cond, List, [], ◌∷◌, map, not, Option, Some, None, Result, Ok, Err}
use Rattle.std.{proofs.Common.{refl, sym, ap, subst, arith, sum_by, ltb}, specs.Prelude.nat_eq}
use Rattle.std.specs.{Cmp.IsEquivalence, List.{AllByRecursion, IsDistinct, list_any}}
use Rattle.std.proofs.lemmas.Bool.{and_parts, ltb-false, not-true, Decides.nat_tests}
use Rattle.std.proofs.lemmas.List.{map-append, Sums.{sum_by-append, sum_by-cons}}
use Rattle.std.proofs.lemmas.Map.Keys.{IsDistinct-from_apart, IsDistinct-push}
use Rattle.do_machine.specs.declared.state.Seat.{Seat}
use Rattle.do_record.specs.{Recorded.record_of, declared.parts.{Block.Block, Record.Record}}
use Rattle.do_sched.specs.{Schedule.most_steps, declared.fault.SchedFault.SchedFault}
use Rattle.do_sched.specs.declared.fault.SchedFault.TheVariants.{BadLine}
use Rattle.do_weave.specs.Laws.{AreApart}
use Rattle.do_woven.specs.Judging.{behind, has_record, has_seat, judged, unless_at}
use Rattle.do_woven.specs.Steps.{block_steps, passing_line, record_steps, steps_in}
use Rattle.do_rewoven.specs.Read.{AreRead}
use Rattle.do_record.specs.Good.{IsGoodRecord}
use Rattle.do_record.proofs.records.GoodRecords.{good_record, no_record, one_answer}

-- records that can be woven to a schedule
pub record AreSound (records : List Record) : Type 0 where
  pub good : AllByRecursion IsGoodRecord records
  pub apart : AreApart records
  pub few : steps_in records ≤ most_steps

-- what it is to stand behind others
record StandsBehind (earlier : List Record) (bytes : List ℕ) (r : Record) : Type 0 where
  read : record_of bytes ≡ Ok r
  new : has_record earlier r.port ≡ false
  few : passing_line (steps_in earlier) r.blocks ≡ None

-- bytes that are a record behind others
stands_behind : (seats : List Seat) (earlier : List Record) (bytes : List ℕ) (r : Record) →
    judged seats earlier bytes ≡ Ok r → StandsBehind earlier bytes r
stands_behind seats earlier bytes r h = go (record_of bytes) refl h
  where
    judge : (q : Record) → record_of bytes ≡ Ok q → (b : Bool) →
        (has_seat seats q.port && not (has_record earlier q.port)) ≡ b →
        unless_at q (cond b (passing_line (steps_in earlier) q.blocks) (Some 1)) ≡ Ok r →
        StandsBehind earlier bytes r
    judge q e false p f = absurd (no_record (BadLine 1) r f)
    judge q e true p f = passed (passing_line (steps_in earlier) q.blocks) refl f
      where
        passed : (o : Option ℕ) → passing_line (steps_in earlier) q.blocks ≡ o →
            unless_at q o ≡ Ok r → StandsBehind earlier bytes r
        passed (Some line) is g = absurd (no_record (BadLine line) r g)
        passed None is g = subst (StandsBehind earlier bytes) (one_answer q r g) (record {
          read = e;
          new = not-true (has_record earlier q.port)
              (and_parts (has_seat seats q.port) (not (has_record earlier q.port)) p).1;
          few = is;
        })

    go : (o : Result Record SchedFault) → record_of bytes ≡ o → behind seats earlier o ≡ Ok r →
        StandsBehind earlier bytes r
    go (Err fault) e f = absurd (no_record fault r f)
    go (Ok q) e f =
        judge q e (has_seat seats q.port && not (has_record earlier q.port)) refl f

-- where no block passes the limit, the steps are within it
within_limit : (bs : List Block) (done : ℕ) → done ≤ most_steps → passing_line done bs ≡ None →
    done + sum_by block_steps bs ≤ most_steps
within_limit [] done h e = omega (arith, h)
within_limit (b ∷ bs) done h e =
    go (ltb most_steps (done + block_steps b)) refl e (within_limit bs (done + block_steps b))
  where
    go : (t : Bool) → ltb most_steps (done + block_steps b) ≡ t →
        cond t (Some b.line) (passing_line (done + block_steps b) bs) ≡ None →
        (done + block_steps b ≤ most_steps → passing_line (done + block_steps b) bs ≡ None →
        (done + block_steps b) + sum_by block_steps bs ≤ most_steps) →
        done + sum_by block_steps (b ∷ bs) ≤ most_steps
    go true p f k = absurd (cc)
    go false p f k =
        let rest = k (ltb-false most_steps (done + block_steps b) p) f in
        let all = sum_by-cons block_steps b bs in
        omega (arith, rest, all)

-- numbers are compared as equal ones are
numbers : IsEquivalence nat_eq
numbers = record {
  refl = λ x. grind (arith, nat_tests);
  symm = λ x y. grind (arith, nat_tests);
  congr = λ x y z e. grind (arith, nat_tests, e);
}

-- a port of no record is none of the records' ports
port_new : (rs : List Record) (port : ℕ) → has_record rs port ≡ false →
    list_any (nat_eq port) (map (λ (r : Record). r.port) rs) ≡ false
port_new [] port h = refl
port_new (r ∷ rs) port h = go (r.port == port) refl (port_new rs port) h
  where
    go : (b : Bool) → (r.port == port) ≡ b →
        (has_record rs port ≡ false →
        list_any (nat_eq port) (map (λ (q : Record). q.port) rs) ≡ false) →
        (b || has_record rs port) ≡ false →
        (nat_eq port r.port || list_any (nat_eq port) (map (λ (q : Record). q.port) rs)) ≡ false
    go true e k f = absurd (cc)
    go false e k f =
        ap (λ b. b || list_any (nat_eq port) (map (λ (q : Record). q.port) rs))
        (numbers.symm port r.port ∙ e)
        ∙ k f

-- one more that is good
all_more : (rs : List Record) (r : Record) → AllByRecursion IsGoodRecord rs → IsGoodRecord r →
    AllByRecursion IsGoodRecord (rs ++ r ∷ [])
all_more [] r h g = (g, tt)
all_more (q ∷ rs) r h g = (h.0, all_more rs r h.1 g)

-- a record behind sound ones
one_more : (rs : List Record) (bytes : List ℕ) (r : Record) → AreSound rs →
    StandsBehind rs bytes r → AreSound (rs ++ r ∷ [])
one_more rs bytes r sound stands =
    let ports = map-append (λ (q : Record). q.port) rs (r ∷ []) in
    let steps = sum_by-append record_steps rs (r ∷ []) in
    let one = sum_by-cons record_steps r [] in
    let few = within_limit r.blocks (steps_in rs) sound.few stands.few in
    record {
      good = all_more rs r sound.good (good_record bytes r stands.read);
      apart = subst (IsDistinct nat_eq) (sym ports)
          (IsDistinct-push numbers (map (λ (q : Record). q.port) rs) r.port sound.apart
          (port_new rs r.port stands.new));
      few = omega (arith, steps, one, few);
    }

-- records behind sound ones
all_sound : (seats : List Seat) (files : List (List ℕ)) (earlier records : List Record) →
    AreSound earlier → AreRead seats earlier files records → AreSound records
all_sound seats [] earlier records sound read = subst AreSound (sym read) sound
all_sound seats (bytes ∷ files) earlier records sound read =
    all_sound seats files (earlier ++ read.0 ∷ []) records
    (one_more earlier bytes read.0 sound (stands_behind seats earlier bytes read.0 read.1)) read.2

-- where there are no records, no two are of one node
none_apart : AreApart []
none_apart =
    IsDistinct-from_apart nat_eq [] (λ i j d before within. absurd (none j (omega (arith, within))))
  where
    none : (j : ℕ) → j < 0 → ⊥
    none j h = omega (arith, h)

-- records that are read
pub read_sound : (seats : List Seat) (files : List (List ℕ)) (records : List Record) →
    AreRead seats [] files records → AreSound records
read_sound seats files records =
    all_sound seats files [] records
    (record { good = tt; apart = none_apart; few = omega arith })
