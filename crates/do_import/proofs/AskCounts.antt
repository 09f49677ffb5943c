-- That asks and names are counted by object, after each change.
use Rattle.std.specs.FinMap as map
use Rattle.std.proofs.Common.{◌≡◌, ℕ, ◌+◌, ◌<◌, Bool, true, false, cond, not, T, ◌==◌, List, Option}
use Rattle.std.proofs.Common.{Some, None, is_some, if◌then◌else◌, count_by, map as each, refl, sym}
use Rattle.std.{proofs.Common.{ap, ◌∙◌, subst, arith}, specs.FinMap.{get-empty, get-retain_keys}}
use Rattle.do_base.specs.names.Names.{ObjectName, TokenName}
use Rattle.do_class.specs.declared.ids.ClassId.{ClassId}
use Rattle.do_export.specs.Counts.{Counts, entry_cmp, others_of}
use Rattle.do_export.proofs.Order.{entry_total, entry_same}
use Rattle.do_import.specs.Asked.{AskKey, AskMap, CountsAsks, ask_cmp, ask_key, asks_of}
use Rattle.do_import.specs.ByObject.{added, taken_off}
use Rattle.do_import.specs.Imported.{AreNumbered, CountsNames, LendMap, all_off, lends_of, lent_to}
use Rattle.do_import.proofs.{AskRows.{ask_total, ask_same}, ObjectCounts.{among, counts_less}}
use Rattle.do_import.proofs.ObjectCounts.{counts_more, counts_none, counts_off, is_of}
use Rattle.do_import.proofs.{KeptClasses.{out_at, put_at, tie, tied}, RowCounts.count_split}
use Rattle.do_import.proofs.RowCounts.{entries-empty, entries-retain, rows_out, rows_put}

-- what is not found is nothing
nothing : {V : Type 0} (found : Option V) → is_some found ≡ false → found ≡ None
nothing None e = refl
nothing (Some v) e = absurd (subst T e tt)

module _ (asks : AskMap) (o : ObjectName) (t : TokenName) where
  -- how many asks are of an object, once one is put in that was not there
  asks_put : (class : ClassId) → map.contains_key asks (ask_key o t) ≡ false → (q : ℕ × ℕ)
      → asks_of (map.insert asks (ask_key o t) class) q
      ≡ asks_of asks q + cond (is_of q (o.node, o.serial)) 1 0
  asks_put class new q = rows_put ask_total ask_same (λ e. e.0)
      (λ k. is_of q (k.0.0, k.1.1)) asks (ask_key o t) class
      (nothing (map.get asks (ask_key o t)) new)

  -- and once one is taken out
  pub asks_out : map.contains_key asks (ask_key o t) ≡ true → (q : ℕ × ℕ)
      → asks_of asks q ≡ asks_of (map.remove asks (ask_key o t)) q
      + cond (is_of q (o.node, o.serial)) 1 0
  asks_out there q = go (map.get asks (ask_key o t)) refl there
    where
      -- an ask that is found is one that is taken out
      go : (found : Option ClassId) → map.get asks (ask_key o t) ≡ found → is_some found ≡ true
          → asks_of asks q ≡ asks_of (map.remove asks (ask_key o t)) q
          + cond (is_of q (o.node, o.serial)) 1 0
      go None is e = absurd (subst T (sym e) tt)
      go (Some class) is e = rows_out ask_total ask_same (λ e. e.0)
          (λ k. is_of q (k.0.0, k.1.1)) asks (ask_key o t) class is

-- how many lends are of an object, once one is taken out
pub lends_out : (lends : LendMap) (k : ℕ × ℕ) (o : ObjectName) → map.get lends k ≡ Some o
    → (q : ℕ × ℕ) → lends_of lends q
    ≡ lends_of (map.remove lends k) q + cond (is_of q (o.node, o.serial)) 1 0
lends_out lends k o is q =
    rows_out entry_total entry_same (λ e. e.1) (λ x. is_of q (x.node, x.serial)) lends k o is

-- and once those to a peer are
pub lends_apart : (lends : LendMap) (peer : ℕ) (q : ℕ × ℕ) → lends_of lends q
    ≡ lends_of (others_of lends peer) q + among q (lent_to peer (map.entries lends))
lends_apart lends peer q =
    let split = count_split entry_total entry_same (λ e. e.1) (λ x. is_of q (x.node, x.serial))
    (λ e. e.0.0 == peer) (map.entries lends) in
    let rest = ap (λ es. count_by (λ (x : ObjectName). is_of q (x.node, x.serial))
    (each (λ (e : (ℕ × ℕ) × ObjectName). e.1) es))
    (entries-retain entry_total entry_same lends (λ k. not (k.0 == peer))) in
    omega (arith, split, rest)

-- asks are counted, alone and with the lends
pub record AskCounts (asked named : Counts) (lends : LendMap) (asks : AskMap) : Type 0 where
  pub counts : CountsAsks asked asks
  pub names : CountsNames named lends asks

module _ (asked named : Counts) (lends : LendMap) (asks : AskMap)
    (are : AskCounts asked named lends asks) (o : ObjectName) (t : TokenName) where
  -- an ask was kept, as the call that keeps it says
  pub ask_counted : (class : ClassId) (kept : Bool) (after : AskMap) → kept ≡ true
      → kept ≡ not (map.contains_key asks (ask_key o t))
      → after ≡ (if kept then map.insert asks (ask_key o t) class else asks)
      → AskCounts (added asked o) (added named o) lends after
  ask_counted class true after is which e =
      subst (AskCounts (added asked o) (added named o) lends) (sym e)
      (record {
        counts = counts_more asked (asks_of asks) _ are.counts o
            (asks_put asks o t class (new (map.contains_key asks (ask_key o t)) which));
        names = counts_more named (λ q. lends_of lends q + asks_of asks q) _ are.names o
            (λ q. let put = asks_put asks o t class
            (new (map.contains_key asks (ask_key o t)) which) q in omega (arith, put));
      })
    where
      -- an ask that was kept was not there
      new : (b : Bool) → true ≡ not b → b ≡ false
      new false e = refl
      new true e = absurd (subst T e tt)
  ask_counted class false after is which e = absurd (subst T (sym is) tt)

  -- an ask was ended, as the call that ends it says
  pub end_counted : (ended : Bool) (after : AskMap)
      → map.contains_key asks (ask_key o t) ≡ true
      → ended ≡ map.contains_key asks (ask_key o t)
      → after ≡ (if ended then map.remove asks (ask_key o t) else asks)
      → AskCounts (taken_off asked o) (taken_off named o) lends after
  end_counted true after there which e =
      subst (AskCounts (taken_off asked o) (taken_off named o) lends) (sym e)
      (record {
        counts = counts_less asked (asks_of asks) _ are.counts o (asks_out asks o t there);
        names = counts_less named (λ q. lends_of lends q + asks_of asks q)
            (λ q. lends_of lends q + asks_of (map.remove asks (ask_key o t)) q) are.names o
            (λ q. let out = asks_out asks o t there q in omega (arith, out));
      })
  end_counted false after there which e = absurd (subst T (sym (which ∙ there)) tt)

module _ (named : Counts) (lends : LendMap) (asks : AskMap) (are : CountsNames named lends asks)
  where
    -- a lend was kept under a number that was given to none before
    pub lend_counted : (next borrower : ℕ) (o : ObjectName) → AreNumbered lends next
        → CountsNames (added named o) (map.insert lends (borrower, next) o) asks
    lend_counted next borrower o numbers =
        counts_more named (λ q. lends_of lends q + asks_of asks q)
        (λ q. lends_of (map.insert lends (borrower, next) o) q + asks_of asks q) are o (λ q.
        let put = rows_put entry_total entry_same (λ e. e.1) (λ x. is_of q (x.node, x.serial)) lends
        (borrower, next) o (new (map.get lends (borrower, next)) refl) in
        omega (arith, put))
      where
        -- there is no lend under the next number yet
        new : (found : Option ObjectName) → map.get lends (borrower, next) ≡ found
            → map.get lends (borrower, next) ≡ None
        new None e = e
        new (Some x) e =
            absurd (let low = numbers (borrower, next) (ap is_some e) in omega (arith, low))

    -- a lend was settled
    pub settled_counted : (k : ℕ × ℕ) (o : ObjectName) → map.get lends k ≡ Some o
        → CountsNames (taken_off named o) (map.remove lends k) asks
    settled_counted k o is =
        counts_less named (λ q. lends_of lends q + asks_of asks q)
        (λ q. lends_of (map.remove lends k) q + asks_of asks q) are o (λ q.
        let out = lends_out lends k o is q in
        omega (arith, out))

    -- the lends to a peer are over
    pub lends_ended : (peer : ℕ)
        → CountsNames (all_off named (lent_to peer (map.entries lends))) (others_of lends peer) asks
    lends_ended peer =
        counts_off named (λ q. lends_of lends q + asks_of asks q)
        (λ q. lends_of (others_of lends peer) q + asks_of asks q)
        (lent_to peer (map.entries lends)) are (λ q.
        let apart = lends_apart lends peer q in
        omega (arith, apart))

-- where there is no ask none is counted
pub none_asked : CountsAsks map.empty map.empty
none_asked = counts_none (asks_of map.empty) (λ q.
    ap (λ (es : List (AskKey × ClassId)). count_by (λ (k : AskKey). is_of q (k.0.0, k.1.1))
    (each (λ (e : AskKey × ClassId). e.0) es)) (entries-empty ask_cmp ClassId))

-- where there is no lend either nothing is named
pub none_named : CountsNames map.empty map.empty map.empty
none_named = counts_none (λ q. lends_of map.empty q + asks_of map.empty q) (λ q.
    let a : asks_of map.empty q ≡ 0 =
    ap (λ (es : List (AskKey × ClassId)). count_by (λ (k : AskKey). is_of q (k.0.0, k.1.1))
    (each (λ (e : AskKey × ClassId). e.0) es)) (entries-empty ask_cmp ClassId) in
    let l : lends_of map.empty q ≡ 0 =
    ap (λ (es : List ((ℕ × ℕ) × ObjectName)).
    count_by (λ (x : ObjectName). is_of q (x.node, x.serial))
    (each (λ (e : (ℕ × ℕ) × ObjectName). e.1) es)) (entries-empty entry_cmp ObjectName) in
    omega (arith, a, l))

-- an empty map has no numbers
pub none_numbered : (next : ℕ) → AreNumbered map.empty next
none_numbered next k there =
    absurd (subst T (sym there ∙ ap is_some (get-empty {X = ObjectName} entry_cmp k)) tt)

module _ (lends : LendMap) (next : ℕ) (are : AreNumbered lends next) where
  -- a lend was given the next number
  pub lend_numbered : (borrower : ℕ) (o : ObjectName)
      → AreNumbered (map.insert lends (borrower, next) o) (next + 1)
  lend_numbered borrower o q there = go (tie (borrower, next) q) refl
      (sym (put_at lends (borrower, next) o q) ∙ there)
    where
      -- at the new lend, and at each other
      go : (b : Bool) → tie (borrower, next) q ≡ b
          → cond b true (map.contains_key lends q) ≡ true → q.1 < next + 1
      go true e h =
          let same = ap (λ k. k.1) (entry_same q (borrower, next) (tied _ e)) in omega (arith, same)
      go false e h = let low = are q h in omega (arith, low)

  -- a lend was settled
  pub settled_numbered : (k : ℕ × ℕ) → AreNumbered (map.remove lends k) next
  settled_numbered k q there = are q (go (tie k q) (sym (out_at lends k q) ∙ there))
    where
      -- what is left was there
      go : (b : Bool) → cond b false (map.contains_key lends q) ≡ true
          → map.contains_key lends q ≡ true
      go true h = absurd (subst T (sym h) tt)
      go false h = h

  -- the lends to a peer are over
  pub ended_numbered : (peer : ℕ) → AreNumbered (others_of lends peer) next
  ended_numbered peer q there = are q (go (q.0 == peer) (map.get lends q)
      (ap is_some (sym (get-retain_keys lends other q
      (λ x e. ap other (sym (entry_same q x e))))) ∙ there))
    where
      -- a lend to another
      other : ℕ × ℕ → Bool
      other k = not (k.0 == peer)

      -- what is left was there
      go : (b : Bool) (v : Option ObjectName) → is_some (cond (not b) v None) ≡ true
          → is_some v ≡ true
      go true v h = absurd (subst T (sym h) tt)
      go false v h = h
