-- What a part has with its peers stays within bounds, and a part is sound with other lends and
-- asks.
use Rattle.std.specs.FinMap as map
use Rattle.std.proofs.Common.{◌==◌, ◌≡◌, ◌≢◌, ℕ, ◌+◌, ◌≤◌, ◌<◌, true, List, sym, ap, ◌∙◌, arith}
use Rattle.std.specs.List.{list_any}
use Rattle.do_base.specs.names.Names.{ObjectName, TokenName}
use Rattle.do_export.specs.Counts.{Counts, count_of, IsPositive}
use Rattle.do_import.specs.{Asked.{AskKey, AskMap, ask_key}, ByObject.{ClassMap, object_of}}
use Rattle.do_import.{specs.Imported.{Imported, IsTied}, proofs.AskRows.{ask_total, ask_same}}
use Rattle.do_machine.specs.{State.{is_known, is_open}, declared.node.{Lend.Lend, Node.Node}}
use Rattle.do_machine.specs.declared.node.Wanted.{Wanted}
use Rattle.do_network.specs.Counting.{of_known}
use Rattle.do_part.specs.{Holding.most_names, Linked.AreLinked, Seen.own_of, Sound.IsSound}
use Rattle.do_part.specs.{declared.part.Part.TheInside.Inside, Rooting.held_of}
use Rattle.do_part.proofs.HeldRows.{AreAmong, classes_known, known_is}
use Rattle.do_part.proofs.{LinkRows.{asked_list, lent_list}, MapKeys.out_has}

-- what is held of other nodes is the same but for the uses
abbrev pub SameImports : Imported → Imported → Type 0
SameImports m n = n ≡ record m { uses = n.uses; spare = n.spare }

module _ (i j : Inside) (l : AreLinked i) (node : j.holders.node ≡ i.holders.node)
    (imports : SameImports i.holders.imports j.holders.imports)
    (names : i.holders.names ≤ j.holders.names) where
  -- bounds are kept where entries are within them
  pub links_entered : ((k : ℕ × ℕ) → map.contains_key j.exports.counts k ≡ true
      → is_open (own_of j).node k.0 ≡ true)
      → ((k : ℕ × ℕ) → count_of j.exports.counts k.0 k.1 ≤ j.holders.names) → AreLinked j
  links_entered ends sent = record {
    ends = ends;
    sent = sent;
    got = λ k. let a = l.got k in
        let e = ap (λ (m : Imported). count_of m.received k.0 k.1) imports in omega arith;
    held = λ k there h. l.held k (ap (λ (m : Imported). map.contains_key m.received k) (sym imports)
        ∙ there) (h ∙ node);
    asked = λ k there. let a = l.asked k
        (ap (λ (m : Imported). map.contains_key m.asks k) (sym imports) ∙ there) in
        (λ h. a.0 (h ∙ node), a.1);
  }

  -- bounds are kept where entries are the same
  pub links_kept : j.exports.counts ≡ i.exports.counts → j.ends ≡ i.ends → AreLinked j
  links_kept counts ends = links_entered
      (λ k there. ap (λ (ps : List ℕ). list_any (λ p. p == k.0) ps) ends
      ∙ l.ends k (ap (λ c. map.contains_key c k) (sym counts) ∙ there))
      (λ k. let a = l.sent k in let e = ap (λ c. count_of c k.0 k.1) counts in omega arith)

-- the part with other imports, once so many names were counted
abbrev pub with_imports : Inside → Imported → ℕ → Inside
with_imports i m names = record i { holders = record i.holders { imports = m; names = names } }

module _ (i : Inside) (m : Imported) (names : ℕ) where
  -- a part is sound with other lends and asks, if uses move with them
  pub sound_linked : IsSound i → m.own ≡ i.holders.imports.own
      → ((o : ObjectName) → o.node ≢ i.holders.node → count_of m.uses o.node o.serial
      + count_of i.holders.imports.named o.node o.serial
      ≡ count_of i.holders.imports.uses o.node o.serial + count_of m.named o.node o.serial)
      → IsPositive m.uses
      → ((o : ObjectName) → count_of m.named o.node o.serial + i.holders.names
      ≤ count_of i.holders.imports.named o.node o.serial + names)
      → names ≤ most_names → AreLinked (with_imports i m names) → IsSound (with_imports i m names)
  sound_linked s home moved positive few most links = record {
    balanced = record {
      home = s.balanced.home;
      lender = home ∙ s.balanced.lender;
      held = s.balanced.held;
      there = s.balanced.there;
      closed = s.balanced.closed;
      rising = s.balanced.rising;
      used = λ o away. let x = s.balanced.used o away in let y = moved o away in omega arith;
      positive = positive;
    };
    few = λ o. let x = s.few o in let y = few o in omega arith;
    most = most;
    small = s.small;
    apart = s.apart;
    numbered = s.numbered;
    links = links;
  }

  -- bounds are kept where what was received and asked for is foreign
  pub links_linked : AreLinked i → i.holders.names ≤ names
      → ((k : ℕ × ℕ) → count_of m.received k.0 k.1 ≤ names)
      → ((k : ℕ × ℕ) → map.contains_key m.received k ≡ true → k.0 ≢ i.holders.node)
      → ((k : AskKey) → map.contains_key m.asks k ≡ true
      → (k.0.0 ≢ i.holders.node) × (0 < k.0.1))
      → AreLinked (with_imports i m names)
  links_linked l more got held asked = record {
    ends = l.ends;
    sent = λ k. let a = l.sent k in omega (arith, a, more);
    got = got;
    held = held;
    asked = asked;
  }

  -- and where these are the same
  pub links_unmoved : AreLinked i → i.holders.names ≤ names
      → m.received ≡ i.holders.imports.received → m.asks ≡ i.holders.imports.asks
      → AreLinked (with_imports i m names)
  links_unmoved l more received asks = links_linked l more
      (λ k. let a = l.got k in let e = ap (λ c. count_of c k.0 k.1) received in
      omega (arith, a, e, more))
      (λ k there. l.held k (ap (λ c. map.contains_key c k) (sym received) ∙ there))
      (λ k there. l.asked k (ap (λ (c : AskMap). map.contains_key c k) (sym asks) ∙ there))

  -- what a part has then, by what the imports have
  pub own_linked : (next : ℕ) (lent : List Lend) (asked : List Wanted) (held : List ObjectName)
      (received : Counts) (classes : ClassMap) → m.next ≡ next → lent_list m.lends ≡ lent
      → asked_list m.asks ≡ asked → held_of m.received ≡ held → m.received ≡ received
      → m.classes ≡ classes → own_of (with_imports i m names) ≡ record (own_of i) {
        node = record (own_of i).node {
          next_token = next;
          lent = lent;
          asked = asked;
          held = held;
        };
        received = received;
        classes = classes;
      }
  own_linked next lent asked held received classes a b c d e f = λ j. record (own_of i) {
    node = record (own_of i).node {
      next_token = a j;
      lent = b j;
      asked = c j;
      held = d j;
    };
    received = e j;
    classes = f j;
  }

  -- and where one ask less is there
  pub links_fewer_asks : AreLinked i → (o : ObjectName) (t : TokenName)
      → m.received ≡ i.holders.imports.received
      → m.asks ≡ map.remove i.holders.imports.asks (ask_key o t)
      → AreLinked (with_imports i m i.holders.names)
  links_fewer_asks l o t received asks = record {
    ends = l.ends;
    sent = l.sent;
    got = λ k. let a = l.got k in let e = ap (λ c. count_of c k.0 k.1) received in
        omega (arith, a, e);
    held = λ k there. l.held k (ap (λ c. map.contains_key c k) (sym received) ∙ there);
    asked = λ k there. l.asked k
        (out_has ask_total ask_same i.holders.imports.asks (ask_key o t) k
        (ap (λ (c : AskMap). map.contains_key c k) (sym asks) ∙ there));
  }

-- the classes that are left are those of what is known
pub classes_linked : (n m : Imported) (node : Node) → IsTied m → AreAmong m.classes n.classes
    → node.held ≡ held_of m.received → node.asked ≡ asked_list m.asks
    → m.classes ≡ of_known node n.classes
classes_linked n m node tied among held asked =
    classes_known m.classes n.classes (λ k. is_known node (object_of k)) among
    (known_is node m.received m.asked m.asks m.classes held asked tied.known tied.counts)
