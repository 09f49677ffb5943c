-- What a part has once it freed and left what it should, and what it told.
use Rattle.std.specs.FinMap as map
use Rattle.std.proofs.Common.{◌≡◌, ℕ, ◌+◌, ◌++◌, ◌||◌, ◌==◌, cond, List, [], ◌∷◌, fold, Some, T}
use Rattle.std.proofs.Common.{map as each, refl, sym, ap, ◌∙◌, subst, arith, inl, inr, not}
use Rattle.std.specs.{Prelude.{nat_lt, Result, Ok, Err, IfOk}, List.list_any, Option.unwrap_or}
use Rattle.std.specs.{Ordering.{is_eq, is_lt, ordering_reverse}, Cmp.tied_itself}
use Rattle.std.specs.FinMap.{entries_sorted, get-entries, Entries.{below_all, find, is_sorted}}
use Rattle.std.proofs.lemmas.{Bool.Decides.nat_tests, List.Folds.list_any-append}
use Rattle.do_base.specs.names.Names.{ObjectName}
use Rattle.do_export.specs.Counts.{Counts, count_of, entry_cmp}
use Rattle.do_export.proofs.Order.{entry_total, entry_same}
use Rattle.do_import.specs.{ByObject.object_of, Imported.{Imported, IsTied}}
use Rattle.do_leaving.specs.{Left.{IsEffect, left_sent}, Leavers.{classes_left, leavers, told}}
use Rattle.do_machine.specs.{Lists.IsIn, held.Leaving.leaving, declared.node.{Lend.Lend, Node.Node}}
use Rattle.do_machine.specs.declared.{node.Wanted.Wanted, state.Parcel.Parcel}
use Rattle.do_network.specs.{Counting.{counted, named_to, of_known}, Frames.all_posted}
use Rattle.do_network.specs.Own.{is_counted}
use Rattle.do_packet.specs.Met.{has_object, same_object}
use Rattle.do_store.specs.Names.{Objects}
use Rattle.do_part.specs.{Left.given_up, Linked.AreLinked, Seen.own_of}
use Rattle.do_part.specs.{declared.part.Part.TheInside.Inside, Rooting.held_of}
use Rattle.do_part.proofs.HeldRows.{AreAmong, any_counted, has-count, held_has}
use Rattle.do_part.proofs.{PassingElements.in_filter, LeftBehind.left_with, LinkEnds.among_retained}
use Rattle.do_part.proofs.{LinkRows.{asked_list, lent_list}, Linking.classes_linked}
use Rattle.do_part.proofs.{MapKeys.retain_all, PartingRows.received_held, Referred.asked-times}
use Rattle.do_part.proofs.{Referred.lent-times, TestsHold.{first_holds, is_less, second_holds}}

-- ---- what is told

-- a row of sorted rows is what is found of its key
row_found : (es : List ((ℕ × ℕ) × ℕ)) → T (is_sorted entry_cmp es) → (e : (ℕ × ℕ) × ℕ)
    → IsIn es e → find entry_cmp e.0 es ≡ Some e.1
row_found [] s e a = absurd a
row_found (x ∷ es) s e (inl same) =
    ap (λ r. cond (is_eq r) (Some x.1) (find entry_cmp e.0 es))
    (ap (λ y. entry_cmp e.0 y.0) same ∙ tied_itself entry_total e.0)
    ∙ ap (λ y. Some y.1) same
row_found (x ∷ es) s e (inr later) =
    ap (λ r. cond (is_eq r) (Some x.1) (find entry_cmp e.0 es))
    (entry_total.antisymm e.0 x.0
    ∙ ap ordering_reverse (is_less (below es e later (first_holds _ _ s))))
    ∙ row_found es (second_holds _ _ s) e later
  where
    below : (ys : List ((ℕ × ℕ) × ℕ)) (e : (ℕ × ℕ) × ℕ) → IsIn ys e
        → T (below_all entry_cmp x.0 ys) → T (is_lt (entry_cmp x.0 e.0))
    below [] e a h = absurd a
    below (y ∷ ys) e (inl same) h =
        subst (λ z. T (is_lt (entry_cmp x.0 z.0))) same (first_holds _ _ h)
    below (y ∷ ys) e (inr a) h = below ys e a (second_holds _ _ h)

-- a row of counts is the count of its key
row_count : (m : Counts) (e : (ℕ × ℕ) × ℕ) → IsIn (map.entries m) e
    → count_of m e.0.0 e.0.1 ≡ e.1
row_count m e a = ap (λ o. unwrap_or o 0)
    (get-entries m e.0 ∙ row_found (map.entries m) (entries_sorted m) e a)

-- frames give back all names of what was left
posted_left : (received : Counts) (rows : List ((ℕ × ℕ) × ℕ))
    → ((e : (ℕ × ℕ) × ℕ) → IsIn rows e → count_of received e.0.0 e.0.1 ≡ e.1)
    → each given_up (each told rows) ≡ all_posted received (left_sent (each told rows))
posted_left received [] counts = refl
posted_left received (e ∷ rows) counts =
    λ j. given_up (object_of e.0, sym (counts e (inl refl)) j)
    ∷ posted_left received rows (λ x a. counts x (inr a)) j

-- so do those for the objects that left
pub sent_left : (received uses : Counts) (left : List (ObjectName × ℕ)) (sent : List Parcel)
    → left ≡ each told (leavers received uses) → left_sent left ≡ sent
    → each given_up left ≡ all_posted received sent
sent_left received uses left sent is told_of =
    ap (each given_up) is
    ∙ posted_left received (leavers received uses) (λ e a. row_count received e
    (in_filter (λ x. not (map.contains_key uses x.0)) (map.entries received) e a))
    ∙ ap (λ l. all_posted received (left_sent l)) (sym is)
    ∙ ap (all_posted received) told_of

-- no name is sent with what tells that an object was left
none_named : (port : ℕ) (counts : Counts) (left : List (ObjectName × ℕ))
    → fold (named_to port) counts (left_sent left) ≡ counts
none_named port counts [] = refl
none_named port counts (x ∷ left) = none_named port counts left

-- ---- what the part has

-- a part has what the counts that follow its leaving have
pub own_left : (i : Inside) (store : Objects) (m : Imported) (freed : List ℕ)
    (left : List (ObjectName × ℕ)) → AreLinked i
    → IsEffect (is_counted (own_of i)) (own_of i).node
    (leaving (is_counted (own_of i)) (own_of i).node) store m freed left
    → store.next ≡ i.holders.store.next
    → m ≡ record i.holders.imports {
      received = m.received;
      uses = m.uses;
      classes = classes_left i.holders.imports m.received;
      spare = m.spare;
      links = m.links;
    }
    → m.received ≡ map.retain_keys i.holders.imports.received (map.contains_key m.uses)
    → IsTied m
    → own_of (left_with i store m)
    ≡ counted (own_of i) (leaving (is_counted (own_of i)) (own_of i).node)
own_left i store m freed left l effect next same received tied = λ j. record {
  node = record n {
    heap = sym effect.counted.heap j;
    next_serial = next j;
    next_token = ap (λ (x : Imported). x.next) same j;
    held = sym effect.counted.held j;
    lent = ap (λ (x : Imported). lent_list x.lends) same j;
    asked = ap (λ (x : Imported). asked_list x.asks) same j;
  };
  counts = counts j;
  received = received_as j;
  classes = classes j;
}
  where
    -- the node before it
    n : Node
    n = (own_of i).node

    -- the node after it
    d : Node
    d = (leaving (is_counted (own_of i)) n).node

    -- no entry goes
    counts : i.exports.counts ≡ map.retain_keys (fold (named_to n.port) i.exports.counts
        (leaving (is_counted (own_of i)) n).sent) (λ e. list_any (λ p. p == e.0) d.open_to)
    counts = sym (retain_all entry_total entry_same i.exports.counts
        (λ e. list_any (λ p. p == e.0) d.open_to) l.ends)
        ∙ (λ j. map.retain_keys
        ((sym (none_named n.port i.exports.counts left)
        ∙ ap (fold (named_to n.port) i.exports.counts) effect.sent) j)
        (λ e. list_any (λ p. p == e.0) d.open_to))

    -- what is held is what was received and is used
    received_as : m.received ≡ map.retain_keys i.holders.imports.received
        (λ k. has_object d.held (object_of k))
    received_as = received
        ∙ received_held i.holders.imports.received (map.contains_key m.uses)
        ∙ ap (λ h. map.retain_keys i.holders.imports.received (λ k. has_object h (object_of k)))
        (ap held_of (sym received) ∙ sym effect.counted.held)

    -- the classes are those of what is known
    classes : m.classes ≡ of_known d i.holders.imports.classes
    classes = classes_linked i.holders.imports m d tied
        (subst (λ c. AreAmong c i.holders.imports.classes)
        (sym (ap (λ (x : Imported). x.classes) same))
        (among_retained i.holders.imports.classes (λ q. map.contains_key m.received q
        || not (map.contains_key i.holders.imports.received q)
        || map.contains_key i.holders.imports.asked q)))
        effect.counted.held (sym (ap (λ (x : Imported). asked_list x.asks) same))

-- ---- objects of lends and asks

-- what is counted as named is what lends and asks are of
pub named_has : (m : Imported) → IsTied m → (o : ObjectName)
    → has_object (held_of m.named) o
    ≡ has_object (each (λ (l : Lend). l.object) (lent_list m.lends)
    ++ each (λ (w : Wanted). w.object) (asked_list m.asks)) o
named_has m tied o =
    held_has m.named (o.node, o.serial)
    ∙ has-count m.named tied.names.positive (o.node, o.serial)
    ∙ ap (nat_lt 0) (tied.names.counted (o.node, o.serial)
    ∙ λ j. sym (lent-times o m.lends) j + sym (asked-times o m.asks) j)
    ∙ sum _ _
    ∙ (λ j. any_counted (same_object o) (each (λ (l : Lend). l.object) (lent_list m.lends)) j
    || any_counted (same_object o) (each (λ (w : Wanted). w.object) (asked_list m.asks)) j)
    ∙ sym (list_any-append (same_object o) (each (λ (l : Lend). l.object) (lent_list m.lends))
    (each (λ (w : Wanted). w.object) (asked_list m.asks)))
  where
    sum : (a b : ℕ) → nat_lt 0 (a + b) ≡ (nat_lt 0 a || nat_lt 0 b)
    sum a b = grind (arith, nat_tests)

-- what a good result is, it is in other words too
pub if_ok : {A E : Type 0} (r : Result A E) (P Q : A → Type 0) → ((a : A) → P a → Q a)
    → IfOk r P → IfOk r Q
if_ok (Ok a) P Q change is = change a is
if_ok (Err e) P Q change is = tt
