-- What the end of a peer leaves of a node's lists and maps.
use Rattle.std.specs.FinMap as map
use Rattle.std.proofs.Common.{◌≡◌, ℕ, ◌<◌, ◌==◌, ◌&&◌, ◌||◌, Bool, true, false, cond, not, T, List}
use Rattle.std.proofs.Common.{[], ◌∷◌, Option, Some, None, is_some, filter, map as each, inl, inr}
use Rattle.std.{proofs.Common.{eq-eqb, refl, sym, ap, ◌∙◌, subst, arith}, specs.List.list_any}
use Rattle.std.specs.{Ordering.{eq_by_cmp, ordering_reverse}, FinMap.{get-remove, same_map}}
use Rattle.std.specs.declared.cmp.Ordering.{Ordering, TheVariants.{Less, Equal, Greater}}
use Rattle.std.proofs.lemmas.Bool.Decides.{nat_tests}
use Rattle.do_base.specs.names.Names.{ObjectName, TokenName}
use Rattle.do_class.specs.declared.ids.ClassId.{ClassId}
use Rattle.do_packet.specs.Met.{has_object, same_object}
use Rattle.do_export.specs.Counts.{Counts, HasNoneFrom, entry_cmp, others_of}
use Rattle.do_export.proofs.Order.{entry_total, entry_same}
use Rattle.do_import.specs.Asked.{AskKey, AskMap, HasNoAsk, IsLowestAsk, ask_cmp, ask_key}
use Rattle.do_import.{specs.ByObject.{ClassMap, object_of}, proofs.AskRows.{ask_total, ask_same}}
use Rattle.do_machine.specs.{Lists.IsIn, State.is_known, declared.node.{Node.Node, Wanted.Wanted}}
use Rattle.do_machine.specs.lend.Asking.{same_wanted, wanted, wanted_lt}
use Rattle.do_machine.proofs.{PutInOrder.{in_all, put_first}, MappedElements.of_map}
use Rattle.do_network.specs.Counting.{of_known}
use Rattle.do_part.specs.{Parting.without_asks, Seen.ask_of, Rooting.held_of}
use Rattle.do_part.proofs.{HeldRows.{held_has, held_less}, InsertedInOrder.filter-one}
use Rattle.do_part.proofs.LinkRows.{ask_order, asked_list, asked_more, in_entries}
use Rattle.do_part.proofs.MapKeys.{out_has, out_in, out_none, retain_all, retain_as, retain_get}
use Rattle.do_part.proofs.{MapKeys.{retain_twice, tied}, PassingElements.{in_filter, in_passing}}

-- ---- entries

-- an end that stays open is one of the others
pub open_parted : (ports : List ℕ) (peer x : ℕ)
    → list_any (λ p. p == x) (filter (λ p. not (p == peer)) ports)
    ≡ (not (x == peer) && list_any (λ p. p == x) ports)
open_parted [] peer x = go (x == peer)
  where
    go : (b : Bool) → false ≡ (not b && false)
    go true = refl
    go false = refl
open_parted (p ∷ ports) peer x = grind (arith, nat_tests, open_parted ports peer x)

-- the entries of the other peers are those whose ends stay open
pub entries_parted : (counts : Counts) (ports : List ℕ) (peer : ℕ)
    → ((k : ℕ × ℕ) → map.contains_key counts k ≡ true → list_any (λ p. p == k.0) ports ≡ true)
    → others_of counts peer
    ≡ map.retain_keys counts (λ e. list_any (λ p. p == e.0)
    (filter (λ p. not (p == peer)) ports))
entries_parted counts ports peer ends =
    retain_as entry_total entry_same counts (λ e. not (e.0 == peer))
    (λ e. list_any (λ p. p == e.0) (filter (λ p. not (p == peer)) ports))
    (λ q there. sym (open_parted ports peer q.0 ∙ ap (λ b. not (q.0 == peer) && b) (ends q there)
    ∙ and-true (not (q.0 == peer))))
  where
    and-true : (b : Bool) → (b && true) ≡ b
    and-true true = refl
    and-true false = refl

-- a peer that has no entry has none to lose
pub none_apart : (counts : Counts) (peer : ℕ) → HasNoneFrom counts peer 0
    → others_of counts peer ≡ counts
none_apart counts peer none = retain_all entry_total entry_same counts (λ e. not (e.0 == peer))
    (λ q there. go q (q.0 == peer) refl there)
  where
    go : (q : ℕ × ℕ) (b : Bool) → (q.0 == peer) ≡ b → map.contains_key counts q ≡ true
        → not b ≡ true
    go q false e there = refl
    go q true e there =
        let same : q.0 ≡ peer = grind (arith, nat_tests, e) in
        absurd (subst T (sym there ∙ ap (λ p. map.contains_key counts (p, q.1)) same
        ∙ ap is_some (none q.1 (omega arith))) tt)

-- a peer whose entries were taken out has none
pub none_left : (counts : Counts) (peer : ℕ) → HasNoneFrom (others_of counts peer) peer 0
none_left counts peer serial above =
    retain_get entry_total entry_same counts (λ e. not (e.0 == peer)) (peer, serial)
    ∙ ap (λ b. cond (not b) (map.get counts (peer, serial)) None) (eq-eqb peer peer refl)

-- the other peers lose nothing with one entry of a peer
pub one_apart : (counts : Counts) (peer serial : ℕ)
    → others_of (map.remove counts (peer, serial)) peer ≡ others_of counts peer
one_apart counts peer serial = same_map entry_total entry_same _ _ (λ q.
    retain_get entry_total entry_same (map.remove counts (peer, serial)) other q
    ∙ ap (λ v. cond (other q) v None) (get-remove entry_total counts (peer, serial) q)
    ∙ go q (eq_by_cmp entry_cmp q (peer, serial)) refl
    ∙ sym (retain_get entry_total entry_same counts other q))
  where
    -- an entry of another peer
    other : ℕ × ℕ → Bool
    other e = not (e.0 == peer)

    go : (q : ℕ × ℕ) (b : Bool) → eq_by_cmp entry_cmp q (peer, serial) ≡ b
        → cond (other q) (cond b None (map.get counts q)) None
        ≡ cond (other q) (map.get counts q) None
    go q true e =
        let same = ap (λ k. k.0) (tied entry_same (peer, serial) q e) in
        ap (λ b. cond (not b) None None) (eq-eqb q.0 peer same)
        ∙ sym (ap (λ b. cond (not b) (map.get counts q) None) (eq-eqb q.0 peer same))
    go q false e = refl

-- ---- objects held

-- what stays of what was received is held
pub received_held : (m : Counts) (p : ℕ × ℕ → Bool) → map.retain_keys m p
    ≡ map.retain_keys m (λ k. has_object (held_of (map.retain_keys m p)) (object_of k))
received_held m p = retain_as entry_total entry_same m p
    (λ k. has_object (held_of (map.retain_keys m p)) (object_of k))
    (λ q there. sym (held_has (map.retain_keys m p) q
    ∙ ap is_some (retain_get entry_total entry_same m p q)
    ∙ go (p q) (map.get m q) there))
  where
    go : (b : Bool) (o : Option ℕ) → is_some o ≡ true → is_some (cond b o None) ≡ b
    go true o e = e
    go false o e = refl

-- objects of a peer that were forgotten are held no more
pub held_apart : (m : Counts) (peer : ℕ) → held_of (others_of m peer)
    ≡ filter (λ o. not (o.node == peer)) (held_of m)
held_apart m peer =
    held_less m (λ e. not (e.0 == peer)) (λ o. not (o.node == peer)) (λ k. refl)

-- ---- asks

-- where an ask of a home is over, those of other homes stay
pub others_stay : (peer : ℕ) (w : Wanted) → (w.object.node == peer) ≡ true → (xs : List Wanted)
    → filter (λ v. not (v.object.node == peer)) (filter (λ v. not (same_wanted w v)) xs)
    ≡ filter (λ v. not (v.object.node == peer)) xs
others_stay peer w home [] = refl
others_stay peer w home (x ∷ xs) =
    go (same_wanted w x) (x.object.node == peer) refl refl (others_stay peer w home xs)
  where
    -- the test of another home
    other : Wanted → Bool
    other v = not (v.object.node == peer)

    go : (a b : Bool) → same_wanted w x ≡ a → (x.object.node == peer) ≡ b
        → filter other (filter (λ v. not (same_wanted w v)) xs) ≡ filter other xs
        → filter other (cond (not a) (x ∷ filter (λ v. not (same_wanted w v)) xs)
        (filter (λ v. not (same_wanted w v)) xs))
        ≡ cond (not b) (x ∷ filter other xs) (filter other xs)
    go true true p q later = later
    go true false p q later =
        absurd (let z : false ≡ true = grind (arith, nat_tests, p, q, home) in cc)
    go false b p q later =
        ap (λ c. cond (not c) (x ∷ filter other (filter (λ v. not (same_wanted w v)) xs))
        (filter other (filter (λ v. not (same_wanted w v)) xs))) q
        ∙ ap (λ l. cond (not b) (x ∷ l) l) later

-- where no ask has a home, all have others
pub all_others : (peer : ℕ) (xs : List Wanted) → filter (λ w. w.object.node == peer) xs ≡ []
    → xs ≡ filter (λ v. not (v.object.node == peer)) xs
all_others peer [] none = refl
all_others peer (x ∷ xs) none = go (x.object.node == peer) none (all_others peer xs)
  where
    go : (b : Bool) → cond b (x ∷ filter (λ w. w.object.node == peer) xs)
        (filter (λ w. w.object.node == peer) xs) ≡ []
        → (filter (λ w. w.object.node == peer) xs ≡ []
        → xs ≡ filter (λ v. not (v.object.node == peer)) xs)
        → x ∷ xs ≡ cond (not b) (x ∷ filter (λ v. not (v.object.node == peer)) xs)
        (filter (λ v. not (v.object.node == peer)) xs)
    go true e later = absurd (cc)
    go false e later = ap (λ l. x ∷ l) (later e)

-- one that passes among those that pass another test passes among all
any_filter : (t p : Wanted → Bool) (xs : List Wanted) → list_any t (filter p xs) ≡ true
    → list_any t xs ≡ true
any_filter t p [] h = h
any_filter t p (x ∷ xs) h = go (p x) h (any_filter t p xs)
  where
    go : (b : Bool) → list_any t (cond b (x ∷ filter p xs) (filter p xs)) ≡ true
        → (list_any t (filter p xs) ≡ true → list_any t xs ≡ true)
        → (t x || list_any t xs) ≡ true
    go true h later = or-mono (t x) h
      where
        or-mono : (a : Bool) → (a || list_any t (filter p xs)) ≡ true → (a || list_any t xs) ≡ true
        or-mono true h = refl
        or-mono false h = later h
    go false h later = or-right (t x) (later h)
      where
        or-right : (a : Bool) → list_any t xs ≡ true → (a || list_any t xs) ≡ true
        or-right true h = refl
        or-right false h = h

-- classes of what is known when all asks of a home are over are so when one is
pub known_step : (peer : ℕ) (start now : Node) (classes : ClassMap) → now.held ≡ start.held
    → filter (λ v. not (v.object.node == peer)) now.asked
    ≡ filter (λ v. not (v.object.node == peer)) start.asked
    → of_known (without_asks peer start) (of_known now classes)
    ≡ of_known (without_asks peer start) classes
known_step peer start now classes held others =
    retain_twice entry_total entry_same classes (λ k. is_known now (object_of k))
    (λ k. is_known (without_asks peer start) (object_of k)) (λ q known.
    go q (has_object start.held (object_of q)) (ap (λ l. has_object l (object_of q)) held) known)
  where
    go : (q : ℕ × ℕ) (b : Bool) → has_object now.held (object_of q) ≡ b
        → (b || list_any (λ w. same_object (object_of q) w.object)
        (filter (λ v. not (v.object.node == peer)) start.asked)) ≡ true
        → is_known now (object_of q) ≡ true
    go q true e h =
        ap (λ b. b || list_any (λ w. same_object (object_of q) w.object) now.asked) e
    go q false e h =
        ap (λ b. b || list_any (λ w. same_object (object_of q) w.object) now.asked) e
        ∙ any_filter (λ w. same_object (object_of q) w.object)
        (λ v. not (v.object.node == peer)) now.asked
        (ap (list_any (λ w. same_object (object_of q) w.object)) others ∙ h)

-- classes of just what is known are those of what is known
pub known_all : (node now : Node) (classes : ClassMap) → node.held ≡ now.held
    → node.asked ≡ now.asked
    → ((o : ObjectName) → is_known now o ≡ map.contains_key classes (o.node, o.serial))
    → classes ≡ of_known node classes
known_all node now classes held asked known =
    sym (retain_all entry_total entry_same classes (λ k. is_known node (object_of k))
    (λ q there. (λ i. has_object (held i) (object_of q)
    || list_any (λ w. same_object (object_of q) w.object) (asked i))
    ∙ known (object_of q) ∙ there))

-- an ask of a home that another of the home is not below comes before it
pub ask_before : (h l n s l' n' s' : ℕ)
    → ask_cmp ((h, l), (n, s)) ((h, l'), (n', s')) ≡ Less
    → wanted_lt (wanted (record { node = h; serial = s }) l n)
    (wanted (record { node = h; serial = s' }) l' n') ≡ true
ask_before h l n s l' n' s' e = grind (arith, nat_tests)

-- two keys of which the second is not below the first and not the first come in this order
in_turn : (k q : AskKey) → (ask_cmp q k ≡ Less → ⊥) → (q ≡ k → ⊥) → ask_cmp k q ≡ Less
in_turn k q below other = go (ask_cmp q k) refl
  where
    go : (r : Ordering) → ask_cmp q k ≡ r → ask_cmp k q ≡ Less
    go Less e = absurd (below e)
    go Equal e = absurd (other (ask_same q k e))
    go Greater e = ask_total.antisymm k q ∙ ap ordering_reverse e

-- the asks of a home, as a node lists them
abbrev pub of_home : ℕ → List Wanted → List Wanted
of_home peer = filter (λ w. w.object.node == peer)

module _ (asks : AskMap) (lenders : (k : AskKey) → map.contains_key asks k ≡ true → 0 < k.0.1)
  where
    -- where no ask has the home none is listed
    pub none_of_home : (peer : ℕ) → HasNoAsk asks peer → of_home peer (asked_list asks) ≡ []
    none_of_home peer none = no_pass (asked_list asks) (λ w a.
        let e = of_map ask_of (map.entries asks) w
        (in_all wanted_lt (each ask_of (map.entries asks)) w a) in
        subst (λ (v : Wanted). (v.object.node == peer) ≡ false) e.2
        (go e.0 (in_entries ask_total asks e.0 e.1) (e.0.0.0.0 == peer) refl))
      where
        no_pass : (xs : List Wanted) → ((w : Wanted) → IsIn xs w → (w.object.node == peer) ≡ false)
            → of_home peer xs ≡ []
        no_pass [] all = refl
        no_pass (x ∷ xs) all =
            ap (λ b. cond b (x ∷ of_home peer xs) (of_home peer xs)) (all x (inl refl))
            ∙ no_pass xs (λ w a. all w (inr a))

        go : (e : AskKey × ClassId) → map.contains_key asks e.0 ≡ true → (b : Bool)
            → (e.0.0.0 == peer) ≡ b → (e.0.0.0 == peer) ≡ false
        go e there false is = is
        go e there true is =
            let same : e.0.0.0 ≡ peer = grind (arith, nat_tests, is) in
            absurd (subst T (sym there
            ∙ ap (λ h. map.contains_key asks ((h, e.0.0.1), (e.0.1.0, e.0.1.1))) same
            ∙ ap is_some (none e.0.0.1 e.0.1.0 e.0.1.1 (lenders e.0 there))) tt)

    module _ (o : ObjectName) (t : TokenName) (class : ClassId)
        (is : map.get asks (ask_key o t) ≡ Some class) (lowest : IsLowestAsk asks o t) where
      -- the asks without it
      abbrev rest : AskMap
      rest = map.remove asks (ask_key o t)

      -- the ask
      abbrev first : Wanted
      first = wanted o t.lender t.number

      -- any other of its home is behind it
      behind : (e : AskKey × ClassId) → IsIn (map.entries rest) e → (e.0.0.0 == o.node) ≡ true
          → wanted_lt first (ask_of e) ≡ true
      behind e a home =
          let there = in_entries ask_total rest e a in
          let was = out_has ask_total ask_same asks (ask_key o t) e.0 there in
          let same : e.0.0.0 ≡ o.node = grind (arith, nat_tests, home) in
          let key : e.0 ≡ ((o.node, e.0.0.1), (e.0.1.0, e.0.1.1)) =
          λ i. ((same i, e.0.0.1), (e.0.1.0, e.0.1.1)) in
          let turn = in_turn (ask_key o t) e.0
          (λ below. subst T (sym was ∙ ap (map.contains_key asks) key
          ∙ ap is_some (lowest.none_below e.0.0.1 e.0.1.0 e.0.1.1 (lenders e.0 was)
          (ap (λ k. ask_cmp k (ask_key o t)) (sym key) ∙ below))) tt)
          (λ it. subst T (sym there ∙ ap (map.contains_key rest) it
          ∙ ap is_some (out_none ask_total ask_same asks (ask_key o t))) tt) in
          ap (wanted_lt first) (ap (λ k. ask_of (k, e.1)) key)
          ∙ ask_before o.node t.lender t.number o.serial e.0.0.1 e.0.1.0 e.0.1.1
          (ap (ask_cmp (ask_key o t)) (sym key) ∙ turn)

      -- the lowest ask of a home is the first that is listed
      pub first_of_home : of_home o.node (asked_list asks)
          ≡ first ∷ of_home o.node (asked_list rest)
      first_of_home =
          ap (λ m. of_home o.node (asked_list m)) (sym (out_in ask_total ask_same asks (ask_key o t)
          class is))
          ∙ ap (of_home o.node) (asked_more rest o t class
          (ap is_some (out_none ask_total ask_same asks (ask_key o t))))
          ∙ filter-one wanted_lt ask_order (λ w. w.object.node == o.node) first
          (each ask_of (map.entries rest)) (eq-eqb o.node o.node refl)
          ∙ put_first wanted_lt first (of_home o.node (asked_list rest)) (λ w a.
          let e = of_map ask_of (map.entries rest) w
          (in_all wanted_lt (each ask_of (map.entries rest)) w
          (in_filter (λ v. v.object.node == o.node) (asked_list rest) w a)) in
          subst (λ v. wanted_lt first v ≡ true) e.2 (behind e.0 e.1
          (ap (λ (v : Wanted). v.object.node == o.node) e.2
          ∙ in_passing (λ v. v.object.node == o.node) (asked_list rest) w a)))

    -- so it is for an ask that is told to be the lowest of its home, with the asks once it is over
    pub first_is : (peer : ℕ) (o : ObjectName) (t : TokenName) → o.node ≡ peer
        → IsLowestAsk asks o t → (after : AskMap) → after ≡ map.remove asks (ask_key o t)
        → of_home peer (asked_list asks)
        ≡ wanted o t.lender t.number ∷ of_home peer (asked_list after)
    first_is peer o t home lowest after is = go (map.get asks (ask_key o t)) refl lowest.there
      where
        go : (found : Option ClassId) → map.get asks (ask_key o t) ≡ found
            → is_some (map.get asks (ask_key o t)) ≡ true
            → of_home peer (asked_list asks)
            ≡ wanted o t.lender t.number ∷ of_home peer (asked_list after)
        go None e there = absurd (subst T (sym there ∙ ap is_some e) tt)
        go (Some class) e there =
            ap (λ p. of_home p (asked_list asks)) (sym home)
            ∙ first_of_home o t class e lowest
            ∙ (λ j. wanted o t.lender t.number ∷ of_home (home j) (asked_list (sym is j)))
