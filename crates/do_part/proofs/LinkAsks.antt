-- An ask that a node keeps, and one that was granted.
use Rattle.std.specs.FinMap as map
use Rattle.std.proofs.{lemmas.Bool.Decides.nat_tests, Common.{◌==◌, ◌&&◌, cond, ◌≡◌, ◌≢◌, ℕ, ◌+◌}}
use Rattle.std.proofs.Common.{◌≤◌, ◌<◌, Bool, true, false, not, T, [], ◌∷◌, Option, Some, None}
use Rattle.std.proofs.Common.{is_some, refl, sym, ap, ◌∙◌, arith, subst}
use Rattle.std.specs.{Prelude.{if◌then◌else◌, ◌||◌}, List.list_any}
use Rattle.do_base.specs.names.Names.{ObjectName, TokenName}
use Rattle.do_class.specs.declared.ids.ClassId.{ClassId}
use Rattle.do_export.specs.Counts.{count_of, IsPositive}
use Rattle.do_import.specs.{Asked.{AskMap, ask_key}, ByObject.{added, first_kept, taken_off}}
use Rattle.do_import.specs.Imported.{CountsNames, Imported, IsTied, all_off}
use Rattle.do_import.proofs.{AskCounts.asks_out, AskRows.{ask_total, ask_same}}
use Rattle.do_machine.specs.lend.Asking.{same_wanted, wanted, with_wanted}
use Rattle.do_part.specs.{Holding.most_names, Seen.own_of, Sound.IsSound}
use Rattle.do_part.specs.declared.part.Part.TheInside.{Inside}
use Rattle.do_part.{proofs.Entries.counted-has, specs.Rooting.held_of, proofs.LinkEnds.ask_enough}
use Rattle.do_part.proofs.Linking.{links_linked, links_unmoved, own_linked, with_imports}
use Rattle.do_part.proofs.LinkRows.{asked_has, asked_list, asked_more, lent_list}
use Rattle.do_part.proofs.LinkSteps.{got_linked, sound_got, sound_less, sound_more}
use Rattle.do_part.proofs.MapKeys.{out_has, put_has}

-- an ask that is listed has a row
pub ask_there : (asks : AskMap) (o : ObjectName) (t : TokenName)
    → list_any (same_wanted (wanted o t.lender t.number)) (asked_list asks) ≡ true
    → map.contains_key asks (ask_key o t) ≡ true
ask_there asks o t listed = sym (asked_has asks o t) ∙ listed

-- ---- granted

-- an ask was granted
pub record Granted (n m : Imported) (o : ObjectName) (t : TokenName) : Type 0 where
  pub home : m.own ≡ n.own
  pub uses : m.uses ≡ all_off n.uses (o ∷ [])
  pub named : m.named ≡ all_off n.named (o ∷ [])
  pub received : m.received ≡ added n.received o
  pub lends : m.lends ≡ n.lends
  pub asks : m.asks ≡ map.remove n.asks (ask_key o t)
  pub next : m.next ≡ n.next
  pub classes : m.classes ≡ n.classes

-- the class of an object that is asked for is kept already
known_already : (n : Imported) → IsTied n → (o : ObjectName) (t : TokenName)
    → map.contains_key n.asks (ask_key o t) ≡ true
    → map.contains_key n.classes (o.node, o.serial) ≡ true
known_already n tied o t there =
    tied.known (o.node, o.serial)
    ∙ ap (λ b. map.contains_key n.received (o.node, o.serial) || b)
    (counted-has (map.get n.asked (o.node, o.serial)) above)
    ∙ or-true (map.contains_key n.received (o.node, o.serial))
  where
    -- it is at its own key
    here : (x y : ℕ) → ◌≡◌ {A = ℕ} (cond ((x == x) && (y == y)) 1 0) 1
    here x y = grind (arith, nat_tests)

    -- it is asked for once at least
    above : 0 < count_of n.asked o.node o.serial
    above =
        let a = tied.counts.counted (o.node, o.serial) in
        let b = asks_out n.asks o t there (o.node, o.serial) in
        let c = here o.node o.serial in
        omega (arith, a, b, c)

    or-true : (b : Bool) → (b || true) ≡ true
    or-true true = refl
    or-true false = refl

-- so it is, as the call that ends it says
pub granted_is : (n m : Imported) → IsTied n → (o : ObjectName) (t : TokenName)
    → map.contains_key n.asks (ask_key o t) ≡ true
    → ((class : ClassId) → map.get n.asks (ask_key o t) ≡ Some class → m ≡ record n {
      received = added n.received o;
      uses = taken_off n.uses o;
      named = taken_off n.named o;
      asked = taken_off n.asked o;
      asks = map.remove n.asks (ask_key o t);
      classes = first_kept n.classes o class;
      spare = m.spare;
      links = m.links;
    }) → Granted n m o t
granted_is n m tied o t there same = go (map.get n.asks (ask_key o t)) refl there
  where
    go : (found : Option ClassId) → map.get n.asks (ask_key o t) ≡ found → is_some found ≡ true
        → Granted n m o t
    go None is e = absurd (subst T (sym e) tt)
    go (Some class) is e = record {
      home = ap (λ (x : Imported). x.own) (same class is);
      uses = ap (λ (x : Imported). x.uses) (same class is);
      named = ap (λ (x : Imported). x.named) (same class is);
      received = ap (λ (x : Imported). x.received) (same class is);
      lends = ap (λ (x : Imported). x.lends) (same class is);
      asks = ap (λ (x : Imported). x.asks) (same class is);
      next = ap (λ (x : Imported). x.next) (same class is);
      classes = ap (λ (x : Imported). x.classes) (same class is)
          ∙ ap (λ b. if b then n.classes else map.insert n.classes (o.node, o.serial) class)
          (known_already n tied o t there);
    }

-- a part is sound once an ask was granted
pub sound_granted : (i : Inside) (m : Imported) → IsSound i → (o : ObjectName) (t : TokenName)
    → map.contains_key i.holders.imports.asks (ask_key o t) ≡ true
    → Granted i.holders.imports m o t
    → CountsNames i.holders.imports.named i.holders.imports.lends i.holders.imports.asks
    → IsPositive m.uses → i.holders.names + 1 ≤ most_names
    → IsSound (with_imports i m (i.holders.names + 1))
sound_granted i m s o t there is counted positive most =
    sound_less i s m is.home positive (o ∷ []) (i.holders.names + 1) is.uses is.named
    (ask_enough i.holders.imports counted o t there) (omega arith) most
    (got_linked i m s.links o (s.links.asked (ask_key o t) there).0 is.received
    (λ k held. s.links.asked k (out_has ask_total ask_same i.holders.imports.asks (ask_key o t) k
    (ap (λ (x : AskMap). map.contains_key x k) (sym is.asks) ∙ held))))

-- ---- kept

-- the imports with an ask, as the call that keeps it says
abbrev pub with_ask : Imported → ObjectName → TokenName → ClassId → ℕ → ℕ → Imported
with_ask n o t class spare links = record n {
  uses = added n.uses o;
  named = added n.named o;
  asked = added n.asked o;
  asks = map.insert n.asks (ask_key o t) class;
  classes = first_kept n.classes o class;
  spare = spare;
  links = links;
}

module _ (i : Inside) (m : Imported) where
  -- a part is sound once it keeps an ask, or kept it already
  pub sound_asked : IsSound i → (o : ObjectName) (t : TokenName) (class : ClassId) (kept : Bool)
      → m ≡ (if kept then with_ask i.holders.imports o t class m.spare m.links
      else record i.holders.imports { spare = m.spare; links = m.links })
      → o.node ≢ i.holders.node → 0 < t.lender → IsPositive m.uses
      → i.holders.names + 1 ≤ most_names → IsSound (with_imports i m (i.holders.names + 1))
  sound_asked s o t class true e foreign lender positive most =
      sound_more i s m (ap (λ (x : Imported). x.own) e) positive o
      (ap (λ (x : Imported). x.uses) e) (ap (λ (x : Imported). x.named) e) most
      (links_linked i m (i.holders.names + 1) s.links (omega arith)
      (λ k. let a = s.links.got k in
      let b = ap (λ (x : Imported). count_of x.received k.0 k.1) e in omega (arith, a, b))
      (λ k there. s.links.held k
      (ap (λ (x : Imported). map.contains_key x.received k) (sym e) ∙ there))
      (λ k there. put_has ask_total ask_same i.holders.imports.asks (ask_key o t) class
      (λ q. (q.0.0 ≢ i.holders.node) × (0 < q.0.1)) (foreign, lender) s.links.asked k
      (ap (λ (x : Imported). map.contains_key x.asks k) (sym e) ∙ there)))
  sound_asked s o t class false e foreign lender positive most =
      sound_got i s m (ap (λ (x : Imported). x.own) e) positive
      (ap (λ (x : Imported). x.uses) e) (ap (λ (x : Imported). x.named) e) most
      (links_unmoved i m (i.holders.names + 1) s.links (omega arith)
      (ap (λ (x : Imported). x.received) e) (ap (λ (x : Imported). x.asks) e))

  -- it has what it had, with the ask if that was not kept already
  pub own_asked : (names : ℕ) (o : ObjectName) (t : TokenName) (class : ClassId) (kept : Bool)
      → kept ≡ not (map.contains_key i.holders.imports.asks (ask_key o t))
      → m ≡ (if kept then with_ask i.holders.imports o t class m.spare m.links
      else record i.holders.imports { spare = m.spare; links = m.links })
      → own_of (with_imports i m names) ≡ (if kept then record (own_of i) {
        node = with_wanted (wanted o t.lender t.number) (own_of i).node;
        classes = first_kept (own_of i).classes o class;
      } else own_of i)
  own_asked names o t class true which e =
      own_linked i m names _ _ _ _ _ _ (ap (λ (x : Imported). x.next) e)
      (ap (λ (x : Imported). lent_list x.lends) e)
      (ap (λ (x : Imported). asked_list x.asks) e
      ∙ asked_more i.holders.imports.asks o t class
      (new (map.contains_key i.holders.imports.asks (ask_key o t)) which))
      (ap (λ (x : Imported). held_of x.received) e) (ap (λ (x : Imported). x.received) e)
      (ap (λ (x : Imported). x.classes) e)
    where
      new : (b : Bool) → true ≡ not b → b ≡ false
      new false e = refl
      new true e = absurd (subst T e tt)
  own_asked names o t class false which e =
      own_linked i m names _ _ _ _ _ _ (ap (λ (x : Imported). x.next) e)
      (ap (λ (x : Imported). lent_list x.lends) e) (ap (λ (x : Imported). asked_list x.asks) e)
      (ap (λ (x : Imported). held_of x.received) e) (ap (λ (x : Imported). x.received) e)
      (ap (λ (x : Imported). x.classes) e)
