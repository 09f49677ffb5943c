-- What is left of a node's imports once a lend or an ask is over.
use Rattle.std.specs.FinMap as map
use Rattle.std.proofs.Common.{◌≡◌, ℕ, ◌≤◌, ◌==◌, Bool, true, false, cond, T, List, [], ◌∷◌, Option}
use Rattle.std.proofs.Common.{Some, None, is_some, refl, sym, ap, ◌∙◌, arith, eq-eqb, subst}
use Rattle.std.specs.{Prelude.{MatchOption, if◌then◌else◌, ◌||◌}, Option.unwrap_or}
use Rattle.std.specs.{Ordering.eq_by_cmp, FinMap.get-remove}
use Rattle.do_base.specs.names.Names.{ObjectName, TokenName}
use Rattle.do_class.specs.declared.ids.ClassId.{ClassId}
use Rattle.do_export.specs.Counts.{count_of, entry_cmp, others_of, IsPositive}
use Rattle.do_export.proofs.Order.{entry_total, entry_same}
use Rattle.do_import.specs.{Asked.{AskMap, ask_key}, ByObject.{ClassMap, home_ended, left_of}}
use Rattle.do_import.specs.{ByObject.taken_off, Imported.{CountsNames, Imported, IsTied, all_off}}
use Rattle.do_import.{specs.Imported.lent_to, proofs.AskCounts.{asks_out, lends_apart, lends_out}}
use Rattle.do_import.proofs.{AskRows.{ask_total, ask_same}, RowCounts.in_front}
use Rattle.do_packet.specs.Met.{same_object}
use Rattle.do_leaving.specs.Counted.{times}
use Rattle.do_part.specs.{Linked.AreLinked, Sound.IsSound, declared.part.Part.TheInside.Inside}
use Rattle.do_part.proofs.{HeldRows.AreAmong, LinkSteps.sound_less, Linking.links_linked}
use Rattle.do_part.proofs.{Linking.with_imports, MapKeys.{none_out, retain_get, retain_has}}

-- some lends or asks are over, of these objects, and with them classes may be forgotten
pub record AreOver (n m : Imported) : Type 0 where
  pub objects : List ObjectName
  pub home : m.own ≡ n.own
  pub uses : m.uses ≡ all_off n.uses objects
  pub named : m.named ≡ all_off n.named objects
  pub enough : (x : ObjectName) → times x objects ≤ count_of n.named x.node x.serial
  pub next : m.next ≡ n.next
  pub among : AreAmong m.classes n.classes

-- a part is sound then
pub sound_over : (i : Inside) (m : Imported) → IsSound i → AreOver i.holders.imports m
    → IsPositive m.uses → AreLinked (with_imports i m i.holders.names)
    → IsSound (with_imports i m i.holders.names)
sound_over i m s over positive links =
    sound_less i s m over.home positive over.objects i.holders.names over.uses over.named
    over.enough (omega arith) s.most links

-- one object is among itself once
once : (x o : ObjectName) → times x (o ∷ []) ≡ cond (same_object x o) 1 0
once x o = let a = in_front (same_object x) o [] in omega (arith, a)

-- ---- classes

-- classes are among themselves
among_same : (c d : ClassMap) → d ≡ c → AreAmong d c
among_same c d e q there = ap (λ x. map.get x q) e

-- and so they are without one
among_left : (c : ClassMap) (o : ObjectName) (stays : Bool) → AreAmong (left_of c o stays) c
among_left c o true q there = refl
among_left c o false q there =
    get-remove entry_total c (o.node, o.serial) q
    ∙ go (eq_by_cmp entry_cmp q (o.node, o.serial)) (map.get c q)
    (ap is_some (sym (get-remove entry_total c (o.node, o.serial) q)) ∙ there)
  where
    go : (b : Bool) (f : Option ClassId) → is_some (cond b None f) ≡ true → cond b None f ≡ f
    go true f e = absurd (subst T (sym e) tt)
    go false f e = refl

-- and where only some stay
pub among_retained : (c : ClassMap) (p : ℕ × ℕ → Bool) → AreAmong (map.retain_keys c p) c
among_retained c p q there =
    retain_get entry_total entry_same c p q
    ∙ go (p q) (map.get c q) (ap is_some (sym (retain_get entry_total entry_same c p q)) ∙ there)
  where
    go : (b : Bool) (f : Option ClassId) → is_some (cond b f None) ≡ true → cond b f None ≡ f
    go true f e = refl
    go false f e = absurd (subst T (sym e) tt)

-- ---- lends

-- no lend of an object is over that is not counted
lend_enough : (n : Imported) → CountsNames n.named n.lends n.asks → (k : ℕ × ℕ) (o : ObjectName)
    → map.get n.lends k ≡ Some o → (x : ObjectName)
    → times x (o ∷ []) ≤ count_of n.named x.node x.serial
lend_enough n are k o is x =
    let a = are.counted (x.node, x.serial) in
    let b = lends_out n.lends k o is (x.node, x.serial) in
    let c = once x o in
    omega (arith, a, b, c)

-- the lend of a key is over, if one was found, and nothing else has changed but room
abbrev IsSettled : Imported → Imported → ℕ × ℕ → Option ObjectName → Type 0
IsSettled n m key found = MatchOption found
    (m ≡ record n { spare = m.spare; links = m.links }) (λ o. m ≡ record n {
      uses = taken_off n.uses o;
      named = taken_off n.named o;
      lends = map.remove n.lends key;
      spare = m.spare;
      links = m.links;
    })

module _ (n m : Imported) (tied : IsTied n) (lender borrower number : ℕ) (found : Option ObjectName)
    (home : lender ≡ n.own)
    (which : found ≡ (if lender == n.own then map.get n.lends (borrower, number) else None))
    (same : IsSettled n m (borrower, number) found) where
  -- what was settled is what was found
  at_lend : found ≡ map.get n.lends (borrower, number)
  at_lend = which ∙ ap (λ b. if b then map.get n.lends (borrower, number) else None)
      (eq-eqb lender n.own home)

  -- a lend is over, if there was one
  pub settled_over : AreOver n m
  settled_over = go found at_lend same
    where
      go : (f : Option ObjectName) → f ≡ map.get n.lends (borrower, number)
          → IsSettled n m (borrower, number) f → AreOver n m
      go None is e = record {
        objects = [];
        home = ap (λ (x : Imported). x.own) e;
        uses = ap (λ (x : Imported). x.uses) e;
        named = ap (λ (x : Imported). x.named) e;
        enough = λ x. omega arith;
        next = ap (λ (x : Imported). x.next) e;
        among = among_same n.classes m.classes (ap (λ (x : Imported). x.classes) e);
      }
      go (Some o) is e = record {
        objects = o ∷ [];
        home = ap (λ (x : Imported). x.own) e;
        uses = ap (λ (x : Imported). x.uses) e;
        named = ap (λ (x : Imported). x.named) e;
        enough = lend_enough n tied.names (borrower, number) o (sym is);
        next = ap (λ (x : Imported). x.next) e;
        among = among_same n.classes m.classes (ap (λ (x : Imported). x.classes) e);
      }

  -- its row is not there any more, and all but it is as it was
  pub settled_rows : (m.lends ≡ map.remove n.lends (borrower, number)) × (m.asks ≡ n.asks)
      × (m.received ≡ n.received) × (m.classes ≡ n.classes)
  settled_rows = go found at_lend same
    where
      go : (f : Option ObjectName) → f ≡ map.get n.lends (borrower, number)
          → IsSettled n m (borrower, number) f
          → (m.lends ≡ map.remove n.lends (borrower, number)) × (m.asks ≡ n.asks)
          × (m.received ≡ n.received) × (m.classes ≡ n.classes)
      go None is e = (
        ap (λ (x : Imported). x.lends) e
            ∙ sym (none_out entry_total entry_same n.lends (borrower, number) (sym is)),
        ap (λ (x : Imported). x.asks) e,
        ap (λ (x : Imported). x.received) e,
        ap (λ (x : Imported). x.classes) e,
      )
      go (Some o) is e = (
        ap (λ (x : Imported). x.lends) e,
        ap (λ (x : Imported). x.asks) e,
        ap (λ (x : Imported). x.received) e,
        ap (λ (x : Imported). x.classes) e,
      )

-- ---- asks

-- the imports without an ask, as the calls that end it say
abbrev pub without_ask : Imported → ObjectName → TokenName → ℕ → ℕ → Imported
without_ask n o t spare links = record n {
  uses = taken_off n.uses o;
  named = taken_off n.named o;
  asked = taken_off n.asked o;
  asks = map.remove n.asks (ask_key o t);
  classes = left_of n.classes o (map.contains_key n.received (o.node, o.serial)
      || map.contains_key (taken_off n.asked o) (o.node, o.serial));
  spare = spare;
  links = links;
}

-- an ask is counted
pub ask_enough : (n : Imported) → CountsNames n.named n.lends n.asks → (o : ObjectName)
    (t : TokenName) → map.contains_key n.asks (ask_key o t) ≡ true → (x : ObjectName)
    → times x (o ∷ []) ≤ count_of n.named x.node x.serial
ask_enough n are o t there x =
    let a = are.counted (x.node, x.serial) in
    let b = asks_out n.asks o t there (x.node, x.serial) in
    let c = once x o in
    omega (arith, a, b, c)

module _ (n m : Imported) (tied : IsTied n) (o : ObjectName) (t : TokenName) where
  -- an ask is over
  pub ask_over : map.contains_key n.asks (ask_key o t) ≡ true → m ≡ without_ask n o t m.spare m.links
      → AreOver n m
  ask_over there e = record {
    objects = o ∷ [];
    home = ap (λ (x : Imported). x.own) e;
    uses = ap (λ (x : Imported). x.uses) e;
    named = ap (λ (x : Imported). x.named) e;
    enough = ask_enough n tied.names o t there;
    next = ap (λ (x : Imported). x.next) e;
    among = subst (λ c. AreAmong c n.classes) (sym (ap (λ (x : Imported). x.classes) e))
        (among_left n.classes o _);
  }

  module _ (ended : Bool) (which : ended ≡ map.contains_key n.asks (ask_key o t))
      (same : m ≡ (if ended then without_ask n o t m.spare m.links
      else record n { spare = m.spare; links = m.links })) where
    -- an ask is over, if there was one
    pub gone_over : AreOver n m
    gone_over = go ended which same
      where
        go : (b : Bool) → b ≡ map.contains_key n.asks (ask_key o t)
            → m ≡ (if b then without_ask n o t m.spare m.links
            else record n { spare = m.spare; links = m.links })
            → AreOver n m
        go true is e = ask_over (sym is) e
        go false is e = record {
          objects = [];
          home = ap (λ (x : Imported). x.own) e;
          uses = ap (λ (x : Imported). x.uses) e;
          named = ap (λ (x : Imported). x.named) e;
          enough = λ x. omega arith;
          next = ap (λ (x : Imported). x.next) e;
          among = among_same n.classes m.classes (ap (λ (x : Imported). x.classes) e);
        }

    -- its row is not there any more
    pub gone_rows : (m.asks ≡ map.remove n.asks (ask_key o t)) × (m.lends ≡ n.lends)
        × (m.received ≡ n.received)
    gone_rows = go ended which same
      where
        nothing : {V : Type 0} (f : Option V) → false ≡ is_some f → f ≡ None
        nothing None e = refl
        nothing (Some v) e = absurd (subst T (sym e) tt)

        go : (b : Bool) → b ≡ map.contains_key n.asks (ask_key o t)
            → m ≡ (if b then without_ask n o t m.spare m.links
            else record n { spare = m.spare; links = m.links })
            → (m.asks ≡ map.remove n.asks (ask_key o t)) × (m.lends ≡ n.lends)
            × (m.received ≡ n.received)
        go true is e = (
          ap (λ (x : Imported). x.asks) e,
          ap (λ (x : Imported). x.lends) e,
          ap (λ (x : Imported). x.received) e,
        )
        go false is e = (
          ap (λ (x : Imported). x.asks) e
              ∙ sym (none_out ask_total ask_same n.asks (ask_key o t)
              (nothing (map.get n.asks (ask_key o t)) is)),
          ap (λ (x : Imported). x.lends) e,
          ap (λ (x : Imported). x.received) e,
        )

-- ---- a peer's end

-- the imports without what they had with a peer, as the call that ends it says
abbrev pub without_peer : Imported → ℕ → ℕ → ℕ → Imported
without_peer n peer spare links = record n {
  received = others_of n.received peer;
  uses = all_off n.uses (lent_to peer (map.entries n.lends));
  named = all_off n.named (lent_to peer (map.entries n.lends));
  lends = others_of n.lends peer;
  classes = home_ended n.classes peer n.asked;
  spare = spare;
  links = links;
}

-- the lends to a peer are over
pub peer_over : (n m : Imported) → IsTied n → (peer : ℕ) → m ≡ without_peer n peer m.spare m.links
    → AreOver n m
peer_over n m tied peer e = record {
  objects = lent_to peer (map.entries n.lends);
  home = ap (λ (x : Imported). x.own) e;
  uses = ap (λ (x : Imported). x.uses) e;
  named = ap (λ (x : Imported). x.named) e;
  enough = λ x. let a = tied.names.counted (x.node, x.serial) in
      let b = lends_apart n.lends peer (x.node, x.serial) in omega (arith, a, b);
  next = ap (λ (x : Imported). x.next) e;
  among = subst (λ c. AreAmong c n.classes) (sym (ap (λ (x : Imported). x.classes) e))
      (among_retained n.classes _);
}

-- bounds are kept where only some objects stay received
pub links_retained : (i : Inside) (m : Imported) → AreLinked i → (p : ℕ × ℕ → Bool)
    → m.received ≡ map.retain_keys i.holders.imports.received p
    → m.asks ≡ i.holders.imports.asks → AreLinked (with_imports i m i.holders.names)
links_retained i m l p received asks = links_linked i m i.holders.names l (omega arith)
    (λ k. let a = l.got k in
    let e = ap (λ c. count_of c k.0 k.1) received in
    let b = ap (λ o. unwrap_or o 0)
    (retain_get entry_total entry_same i.holders.imports.received p k) in
    let t = less (p k) (map.get i.holders.imports.received k) in
    omega (arith, a, e, b, t))
    (λ k there. l.held k (retain_has entry_total entry_same i.holders.imports.received p k
    (ap (λ c. map.contains_key c k) (sym received) ∙ there)))
    (λ k there. l.asked k (ap (λ (c : AskMap). map.contains_key c k) (sym asks) ∙ there))
  where
    less : (b : Bool) (o : Option ℕ) → unwrap_or (cond b o None) 0 ≤ unwrap_or o 0
    less true o = omega arith
    less false o = omega arith
