-- A part with nothing yet.
use Rattle.std.specs.FinMap as map
use Rattle.std.proofs.Common.{◌≡◌, ℕ, ◌≤◌, List, [], None, T, true, map as each, refl, sym, ap, ◌∙◌}
use Rattle.std.proofs.Common.{arith, subst, length, is_some, sum_by, cond, ◌∷◌}
use Rattle.std.specs.{Option.unwrap_or, Prelude.◌==◌, List.IsDistinct}
use Rattle.std.specs.FinMap.{get-empty, len-empty, len-entries}
use Rattle.do_behave.specs.declared.invocation.Invocation.{Invocation}
use Rattle.do_class.specs.declared.ids.ClassId.{ClassId}
use Rattle.do_export.specs.Counts.{Exported, count_of, entry_cmp}
use Rattle.do_base.specs.names.Names.{ObjectName}
use Rattle.do_import.specs.{Asked.ask_cmp, ByObject.object_of, Imported.Imported}
use Rattle.do_machine.specs.{Lists.all_inserted, declared.node.{Lend.Lend, Wanted.Wanted}}
use Rattle.do_machine.specs.lend.Asking.{wanted_lt}
use Rattle.do_network.specs.Own.{Own}
use Rattle.do_stack.specs.Stacked.{Stacked}
use Rattle.do_store.specs.Names.{Objects}
use Rattle.do_part.specs.{Holding.plain, Seen.{own_of, lend_of, lend_lt, ask_of}, Names.stack_of}
use Rattle.do_part.specs.{Numbered.IsNumbered, Sound.{IsSound, holders}}
use Rattle.do_part.specs.declared.part.Part.TheInside.{Inside}
use Rattle.std.proofs.lemmas.List.Sums.{sum_by-cons}

-- a part with no invocation and this store
abbrev begun : ℕ → Objects → Imported → Exported → Stacked → List ℕ → Inside
begun node store imports exports stack ends = record {
  holders = record { node = node; store = store; imports = imports; names = 0 };
  exports = exports;
  stack = stack;
  root = None;
  next_call = 1;
  ends = ends;
}

-- a store with no object
abbrev empty_store : ℕ → Objects
empty_store node = record { node = node; objects = []; next = 1; spare = 0 }

-- nothing is counted where there are no counts
none_counted : (k s : ℕ) → count_of map.empty k s ≡ 0
none_counted k s = ap (λ o. unwrap_or o 0) (get-empty entry_cmp (k, s))

-- no peer has an entry
no_entries : (n : ℕ) (ends : List ℕ)
    → sum_by (λ (peer : ℕ).
    cond (map.contains_key (map.empty {X = ℕ} {R = entry_cmp}) (peer, n)) 1 0) ends ≡ 0
no_entries n [] = refl
no_entries n (p ∷ ps) =
    let a = sum_by-cons (λ (peer : ℕ).
    cond (map.contains_key (map.empty {X = ℕ} {R = entry_cmp}) (peer, n)) 1 0) p ps in
    let b : ◌≡◌ {A = ℕ}
    (cond (map.contains_key (map.empty {X = ℕ} {R = entry_cmp}) (p, n)) 1 0) 0 =
    ap (λ o. cond (is_some o) 1 0) (get-empty {X = ℕ} entry_cmp (p, n)) in
    let c = no_entries n ps in
    omega arith

-- such a part is sound
pub sound_new : (node : ℕ) (store : Objects) (imports : Imported) (exports : Exported)
    (stack : Stacked) (ends : List ℕ) → store ≡ empty_store node → imports.own ≡ node
    → imports.received ≡ map.empty → imports.uses ≡ map.empty → imports.named ≡ map.empty
    → imports.asks ≡ map.empty → exports.counts ≡ map.empty → stack.invocations ≡ []
    → stack.late ≡ [] → length ends ≤ 64
    → IsDistinct (λ (p q : ℕ). p == q) ends
    → IsSound (begun node store imports exports stack ends)
sound_new node store imports exports stack ends is own received uses named asks none empty late
    few apart =
    subst (λ s. IsSound (begun node s imports exports stack ends)) (sym is)
    (record {
      balanced = record {
        home = refl;
        lender = own;
        held = λ n o found. absurd (cc);
        there = λ n above. absurd (let z = unheld n in omega (arith, z, above));
        closed = λ n above. absurd (omega (arith, above));
        rising = omega arith;
        used = λ o away. let a = ap (λ m. count_of m o.node o.serial) uses in
            let b = ap (λ m. count_of m o.node o.serial) named in
            let c = none_counted o.node o.serial in
            let s = ap (λ (l : List Invocation). stack_of l o) empty in
            omega arith;
        positive = λ k there. absurd (subst T (sym there ∙ ap (λ m. map.contains_key m k) uses
            ∙ ap is_some (get-empty entry_cmp k)) tt);
      };
      few = λ o. let b = ap (λ m. count_of m o.node o.serial) named in
          let c = none_counted o.node o.serial in
          let s = ap (λ (l : List Invocation). stack_of l o) empty in
          omega arith;
      most = omega arith;
      small = few;
      apart = apart;
      numbered = subst (λ l. IsNumbered node l stack.late 1) (sym empty)
          (subst (λ l. IsNumbered node [] l 1) (sym late) (record {
            once = λ k. omega arith;
            below = λ k above. absurd (omega (arith, above));
            home = refl;
          }));
      links = record {
        ends = λ k there. absurd (no_key k (ap (λ m. map.contains_key m k) (sym none) ∙ there));
        sent = λ k. let a = ap (λ m. count_of m k.0 k.1) none in
            let b = none_counted k.0 k.1 in omega (arith, a, b);
        got = λ k. let a = ap (λ m. count_of m k.0 k.1) received in
            let b = none_counted k.0 k.1 in omega (arith, a, b);
        held = λ k there.
            absurd (no_key k (ap (λ m. map.contains_key m k) (sym received) ∙ there));
        asked = λ k there. absurd (subst T (sym there ∙ ap (λ m. map.contains_key m k) asks
            ∙ ap is_some (get-empty {X = ClassId} ask_cmp k)) tt);
      };
    })
  where
    -- there is no entry
    no_key : (k : ℕ × ℕ) → map.contains_key (map.empty {X = ℕ} {R = entry_cmp}) k ≡ true → ⊥
    no_key k there = subst T (sym there ∙ ap is_some (get-empty {X = ℕ} entry_cmp k)) tt

    -- nothing is held
    unheld : (n : ℕ)
        → holders (own_of (begun node (empty_store node) imports exports stack ends)) n ≡ 0
    unheld n =
        let s = ap (λ (l : List Invocation). stack_of l (record { node = node; serial = n }))
        empty in
        let e = ap (λ m. sum_by (λ (peer : ℕ). cond (map.contains_key m (peer, n)) 1 0) ends)
        none in
        let z = no_entries n ends in
        omega arith

-- a list of no items is empty
no_items : {X : Type 0} (xs : List X) → length xs ≡ 0 → xs ≡ []
no_items [] e = refl
no_items (x ∷ xs) e = absurd (omega (arith, e))

-- what a part has that is new, but for what it holds, lent and asks for
abbrev pub nothing_but : ℕ → List ℕ → List ObjectName → List Lend → List Wanted → Own
nothing_but node ends held lent asked = record {
  node = record {
    port = node;
    heap = [];
    root = None;
    stack = [];
    next_serial = 1;
    next_call = 1;
    next_token = 1;
    open_to = ends;
    held = held;
    lent = lent;
    asked = asked;
    late = [];
  };
  counts = map.empty;
  received = map.empty;
  classes = map.empty;
}

-- such a part has nothing
pub own_new : (node : ℕ) (store : Objects) (imports : Imported) (exports : Exported)
    (stack : Stacked) (ends : List ℕ) → store ≡ empty_store node
    → imports.received ≡ map.empty → imports.lends ≡ map.empty → imports.next ≡ 1
    → imports.asks ≡ map.empty → imports.classes ≡ map.empty
    → exports.counts ≡ map.empty → stack.invocations ≡ [] → stack.late ≡ []
    → own_of (begun node store imports exports stack ends) ≡ nothing_but node ends [] [] []
own_new node store imports exports stack ends is received lends next asks classes none empty late =
    (λ j. record {
      node = record {
        port = node;
        heap = each plain (is j).objects;
        root = None;
        stack = empty j;
        next_serial = (is j).next;
        next_call = 1;
        next_token = next j;
        open_to = ends;
        held = each object_of (map.keys (received j));
        lent = all_inserted lend_lt (each lend_of (map.entries (lends j)));
        asked = all_inserted wanted_lt (each ask_of (map.entries (asks j)));
        late = late j;
      };
      counts = none j;
      received = received j;
      classes = classes j;
    })
    ∙ λ j. nothing_but node ends (each object_of (no_keys j))
    (all_inserted lend_lt (each lend_of (no_lends j)))
    (all_inserted wanted_lt (each ask_of (no_asks j)))
  where
    -- no object was received
    no_keys : map.keys (map.empty {X = ℕ} {R = entry_cmp}) ≡ []
    no_keys = ap (each (λ e. e.0))
        (no_items (map.entries (map.empty {X = ℕ} {R = entry_cmp}))
        (sym (len-entries map.empty) ∙ len-empty entry_cmp ℕ))

    -- there is no lend
    no_lends : map.entries (map.empty {X = ObjectName} {R = entry_cmp}) ≡ []
    no_lends = no_items (map.entries (map.empty {X = ObjectName} {R = entry_cmp}))
        (sym (len-entries map.empty) ∙ len-empty entry_cmp ObjectName)

    -- and no ask
    no_asks : map.entries (map.empty {X = ClassId} {R = ask_cmp}) ≡ []
    no_asks = no_items (map.entries (map.empty {X = ClassId} {R = ask_cmp}))
        (sym (len-entries map.empty) ∙ len-empty ask_cmp ClassId)
