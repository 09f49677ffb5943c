-- What keeps the log of recent names: adding, undoing, keeping, copying.
use Rattle.std.proofs.Common.{◌≡◌, ℕ, zero, suc, ◌+◌, ◌-◌, ◌<◌, ◌≤◌, Bool, true, false, List, []}
use Rattle.std.proofs.Common.{◌∷◌, ◌++◌, length, drop, take, get_or, Some, None, refl, sym, ap}
use Rattle.std.{proofs.Common.{subst, ◌∙◌, arith}, specs.BTreeMap.{BTreeMap, get}}
use Rattle.std.proofs.lemmas.List.{length-take-le, take_all}
use Rattle.do_coder.specs.declared.recent.{pair.Pair.Pair, index.Places.Places}
use Rattle.do_coder.specs.Recent.{pair, same_pair, place_in, newest, AllDiffer}
use Rattle.do_coder.specs.NameLog.{pair_cmp, IsFound, AreFound, HasTables, IsNameLog}
use Rattle.do_coder.proofs.tables.TableLaws.{same_is, got_place, log_shift, log_stay, log_undo}
use Rattle.do_coder.proofs.tables.IndexLaws.{take_at_place}

-- ---- adding

module _ (log : List Pair) (start kept_start kept_end : ℕ) (index : BTreeMap Pair Places)
    (h : IsNameLog log start kept_start kept_end index) (longer : List Pair)
    (after : BTreeMap Pair Places) (now : AreFound longer after start (length longer))
    (kept : AreFound longer after kept_start kept_end) where
  module _ (p : Pair) (new : place_in p (drop start log) ≡ None) (e : longer ≡ log ++ p ∷ []) where
    -- so does a pair more, in place of the oldest
    pub log_shifted : 256 < length longer - start
        → IsNameLog longer (start + 1) kept_start kept_end after
    log_shifted over =
        let tables : HasTables (log ++ p ∷ []) (start + 1) kept_start kept_end =
        log_shift log start kept_start kept_end h.tables p new (omega (arith, ap length e)) in
        record {
          tables = subst (λ (w : List Pair). HasTables w (start + 1) kept_start kept_end) (sym e)
              tables;
          now_found = λ k low high. now k (omega arith) high;
          kept_found = kept;
        }

    -- and a pair more
    pub log_grown : length longer - start ≤ 256 → IsNameLog longer start kept_start kept_end after
    log_grown under =
        let tables : HasTables (log ++ p ∷ []) start kept_start kept_end =
        log_stay log start kept_start kept_end h.tables p new (omega (arith, ap length e)) in
        record {
          tables = subst (λ (w : List Pair). HasTables w start kept_start kept_end) (sym e) tables;
          now_found = now;
          kept_found = kept;
        }

-- ---- undoing and keeping

module _ (log : List Pair) (start kept_start kept_end : ℕ) (index : BTreeMap Pair Places)
    (h : IsNameLog log start kept_start kept_end index) where
  -- what is found in a log is found in its front
  take_front : (k : ℕ) → k < kept_end → IsFound log index k → IsFound (take kept_end log) index k
  take_front k lt f =
      record {
        places = f.places;
        stored = ap (get pair_cmp index) (take_at_place kept_end log k lt) ∙ f.stored;
        here = f.here;
      }

  -- what was kept is the table again
  pub log_undone : IsNameLog (take kept_end log) kept_start kept_start kept_end index
  log_undone =
      let len : length (take kept_end log) ≡ kept_end = length-take-le kept_end log h.tables.ends in
      record {
        tables = log_undo log start kept_start kept_end h.tables;
        now_found = λ k low high. take_front k (omega (arith, len))
            (h.kept_found k low (omega (arith, len)));
        kept_found = λ k low high. take_front k high (h.kept_found k low high);
      }

-- the whole log
pub taken_all : (log : List Pair) → take (length log) log ≡ log
taken_all log = take_all (length log) log (omega arith)

-- ---- copying

-- a pair is not among those before it
pub new_here : (table : List Pair) (i : ℕ) → AllDiffer table → i < length table
    → place_in (get_or table i (pair 0 0)) (take i table) ≡ None
new_here [] i d lt = absurd (omega arith)
new_here (q ∷ table) zero d lt = refl
new_here (q ∷ table) (suc i) d lt =
    let rec = new_here table i d.1 (omega arith) in
    go (same_pair q (get_or table i (pair 0 0))) refl rec
  where
    go : (t : Bool) → same_pair q (get_or table i (pair 0 0)) ≡ t
        → place_in (get_or table i (pair 0 0)) (take i table) ≡ None
        → place_in (get_or table i (pair 0 0)) (q ∷ take i table) ≡ None
    go true t rec =
        let e = same_is q (get_or table i (pair 0 0)) t in
        let at : place_in q table ≡ Some i =
        ap (λ (w : Pair). place_in w table) e ∙ got_place table i d.1 (omega arith) in
        let none = d.0 in
        absurd cc
    go false t rec = rw (t, rec) refl

-- the front that ends one later has one pair more
take_next : (table : List Pair) (i : ℕ) → i < length table
    → take i table ++ get_or table i (pair 0 0) ∷ [] ≡ take (suc i) table
take_next [] i lt = absurd (omega arith)
take_next (q ∷ table) zero lt = refl
take_next (q ∷ table) (suc i) lt =
    ap (λ (w : List Pair). q ∷ w) (take_next table i (omega arith))

-- and goes behind them
pub next_here : (table : List Pair) (i : ℕ) → length table ≤ 256 → i < length table
    → newest 256 (take i table ++ get_or table i (pair 0 0) ∷ []) ≡ take (suc i) table
next_here table i few lt =
    let len = length-take-le (suc i) table (omega arith) in
    let none : length (take (suc i) table) - 256 ≡ 0 = omega arith in
    rw (take_next table i lt, none) refl

pub ruleset copying = (new_here, next_here)
