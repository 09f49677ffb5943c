-- The classes that a station gave are those of what its node stores, after an effect too.
use Rattle.std.proofs.Common.{◌≡◌, ◌==◌, ◌++◌, ◌+◌, ◌≤◌, ◌<◌, ℕ, Bool, true, false, cond, List, []}
use Rattle.std.proofs.Common.{◌∷◌, suc, zero, filter, length, map, refl, sym, ap, ◌∙◌, subst, arith}
use Rattle.std.proofs.Common.{append_assoc, length-append}
use Rattle.std.specs.Prelude.{None, Option, Some, nat_le, option_map, slice_get}
use Rattle.std.{specs.List.AllByRecursion, proofs.lemmas.Bool.{eqb-true, Decides.nat_tests}}
use Rattle.do_class.specs.declared.ids.ClassId.{ClassId}
use Rattle.do_packet.specs.declared.receipt.Made.{Made}
use Rattle.do_machine.specs.declared.{node.Stored.Stored, state.{Effect.Effect, State.State}}
use Rattle.do_machine.specs.{declared.state.Station.Station, Commit.{born, commit, committed}}
use Rattle.do_machine.specs.{State.{class_given, station, stored}, run.Fresh.with_serials}
use Rattle.do_agreement.proofs.places.KeyedLists.{found_changed, found_elsewhere}
use Rattle.do_agreement.proofs.{places.PlacesChanged.some_is, told.HeapsGrow.Grown}
use Rattle.std.proofs.lemmas.List.{length-map, Elements.filter-append}
use Rattle.do_facts.proofs.{EachOfLists.{each_joined, each_weaker}, machine.ClassesStay.class_stays}

-- a class was given with a serial
abbrev pub IsGiven : List ClassId → ℕ → ClassId → Type 0
IsGiven cs serial class = class_given cs serial ≡ Some class

-- A station gave a class with each serial, and that of each object that its node stores
pub record StationFits (s : Station) : Type 0 where
  pub given : length s.classes + 1 ≡ s.node.next_serial
  pub stored : AllByRecursion (λ x. IsGiven s.classes x.serial x.class) s.node.heap

-- what stands at a place stands within the list
within : (cs : List ClassId) (k : ℕ) (class : ClassId) → slice_get cs k ≡ Some class →
    k < length cs
within [] k class h = absurd (cc)
within (c ∷ cs) zero class h = omega arith
within (c ∷ cs) (suc k) class h = omega (arith, within cs k class h)

-- a serial with which a class was given is none of the next
given_below : (cs : List ClassId) (serial next : ℕ) (class : ClassId) → length cs + 1 ≡ next →
    IsGiven cs serial class → nat_le next serial ≡ false
given_below cs zero next class e h = absurd (cc)
given_below cs (suc k) next class e h =
    let less = within cs k class h in
    grind (arith, nat_tests, less, e)

-- of old objects none is new
none_new : (cs : List ClassId) (next : ℕ) → length cs + 1 ≡ next → (xs : List Stored) →
    AllByRecursion (λ x. IsGiven cs x.serial x.class) xs →
    filter (λ (x : Stored). nat_le next x.serial) xs ≡ []
none_new cs next e [] all = refl
none_new cs next e (x ∷ xs) all =
    ap (λ b. cond b (x ∷ filter (λ (y : Stored). nat_le next y.serial) xs)
    (filter (λ (y : Stored). nat_le next y.serial) xs))
    (given_below cs x.serial next x.class e all.0)
    ∙ none_new cs next e xs all.1

-- all that get the next serials are new
all_new : (next k : ℕ) → next ≤ k → (new : List Made) →
    map (λ (x : Stored). x.class)
    (filter (λ (x : Stored). nat_le next x.serial) (with_serials k new))
    ≡ map (λ (m : Made). m.class) new
all_new next k h [] = refl
all_new next k h (m ∷ ms) =
    let here : nat_le next k ≡ true = grind (arith, nat_tests, h) in
    ap (λ b. map (λ (x : Stored). x.class)
    (cond b (record { serial = k; class = m.class; slots = m.slots }
    ∷ filter (λ (x : Stored). nat_le next x.serial) (with_serials (suc k) ms))
    (filter (λ (x : Stored). nat_le next x.serial) (with_serials (suc k) ms))))
    here
    ∙ ap (λ cs. m.class ∷ cs) (all_new next (suc k) (omega (arith, h)) ms)

-- the first behind a list
at_end : (cs : List ClassId) (c : ClassId) (ds : List ClassId) →
    slice_get (cs ++ c ∷ ds) (length cs) ≡ Some c
at_end [] c ds = refl
at_end (b ∷ cs) c ds = at_end cs c ds

-- one more
one_longer : (cs : List ClassId) (c : ClassId) → length (cs ++ c ∷ []) ≡ suc (length cs)
one_longer cs c = omega (arith, length-append cs (c ∷ []))

-- new objects have the classes that are given with the next serials
new_given : (new : List Made) (cs : List ClassId) →
    AllByRecursion (λ x. IsGiven (cs ++ map (λ (m : Made). m.class) new) x.serial x.class)
    (with_serials (suc (length cs)) new)
new_given [] cs = tt
new_given (m ∷ ms) cs =
    let rest = new_given ms (cs ++ m.class ∷ []) in (
      at_end cs m.class (map (λ (k : Made). k.class) ms),
      subst (λ ds. AllByRecursion (λ x. IsGiven ds x.serial x.class)
          (with_serials (suc (suc (length cs))) ms))
          (append_assoc cs (m.class ∷ []) (map (λ (k : Made). k.class) ms))
          (subst (λ k. AllByRecursion (λ x. IsGiven
          ((cs ++ m.class ∷ []) ++ map (λ (k : Made). k.class) ms) x.serial x.class)
          (with_serials (suc k) ms)) (one_longer cs m.class) rest),
    )

-- what was given is given, once more is
all_more : (cs ds : List ClassId) (xs : List Stored) →
    AllByRecursion (λ x. IsGiven cs x.serial x.class) xs →
    AllByRecursion (λ x. IsGiven (cs ++ ds) x.serial x.class) xs
all_more cs ds =
    each_weaker (λ x. IsGiven cs x.serial x.class) (λ x. IsGiven (cs ++ ds) x.serial x.class)
    (λ x. class_stays cs ds x.serial x.class)

-- as many as there were, and more
length_both : {X Y : Type 0} (f : Y → X) (xs : List X) (ys : List Y) →
    length (xs ++ map f ys) ≡ length xs + length ys
length_both f xs ys = omega (arith, length-append xs (map f ys), length-map ys f)

-- a station fits after an effect of its node
pub station_after : (s : Station) (e : Effect) → StationFits s →
    Grown (IsGiven s.classes) s.node e.node → StationFits (committed e s)
station_after s e fit g = record {
  given =
      ap (λ cs. length (s.classes ++ cs) + 1) born_is
      ∙ ends (length_both (λ (m : Made). m.class) s.classes g.new);
  stored =
      subst (λ cs. AllByRecursion (λ x. IsGiven (s.classes ++ cs) x.serial x.class) e.node.heap)
      (sym born_is)
      (subst (AllByRecursion (λ x. IsGiven (s.classes ++ map (λ (m : Made). m.class) g.new)
      x.serial x.class)) (sym g.heap)
      (each_joined (λ x. IsGiven (s.classes ++ map (λ (m : Made). m.class) g.new) x.serial x.class)
      g.old (with_serials s.node.next_serial g.new)
      (all_more s.classes (map (λ (m : Made). m.class) g.new) g.old (g.stands fit.stored))
      (subst (λ k. AllByRecursion (λ x. IsGiven (s.classes ++ map (λ (m : Made). m.class) g.new)
      x.serial x.class) (with_serials k g.new)) next_is (new_given g.new s.classes))));
}
  where
    next_is : suc (length s.classes) ≡ s.node.next_serial
    next_is = omega (arith, fit.given)

    ends : {k : ℕ} → k ≡ length s.classes + length g.new → k + 1 ≡ e.node.next_serial
    ends h = omega (arith, h, fit.given, g.serial)

    born_is : born s.node.next_serial e.node ≡ map (λ (m : Made). m.class) g.new
    born_is =
        let next = s.node.next_serial in
        let test = λ (x : Stored). nat_le next x.serial in
        ap (λ xs. map (λ (x : Stored). x.class) (filter test xs)) g.heap
        ∙ ap (map (λ (x : Stored). x.class)) (filter-append test g.old (with_serials next g.new))
        ∙ ap (λ xs. map (λ (x : Stored). x.class) (xs ++ filter test (with_serials next g.new)))
        (none_new s.classes next fit.given g.old (g.stands fit.stored))
        ∙ all_new next next (omega arith) g.new

-- each station of a state fits
abbrev pub StationsFit : State → Type 0
StationsFit S = (port : ℕ) (s : Station) → station S port ≡ Some s → StationFits s

-- so it is after an effect
pub stations_after : (S : State) (port : ℕ) (e : Effect) → StationsFit S →
    ((s : Station) → station S port ≡ Some s → Grown (IsGiven s.classes) s.node e.node) →
    StationsFit (commit port e S)
stations_after S port e fit grown x s h = go (port == x) refl
  where
    at_port : (found : Option Station) → station S port ≡ found →
        option_map (committed e) found ≡ Some s → StationFits s
    at_port None k q = absurd (cc)
    at_port (Some r) k q =
        subst StationFits (some_is (committed e r) s q)
        (station_after r e (fit port r k) (grown r k))

    go : (b : Bool) → (port == x) ≡ b → StationFits s
    go true k =
        at_port (station S port) refl
        (sym (found_changed (λ (r : Station). r.port) (committed e) (λ r. refl) port S.stations)
        ∙ ap (station (commit port e S)) (eqb-true port x k) ∙ h)
    go false k =
        fit x s (sym (found_elsewhere (λ (r : Station). r.port) (committed e) (λ r. refl) port x k
        S.stations) ∙ h)

-- the class of an object that is found
pub found_given : (cs : List ClassId) (serial : ℕ) (class : ClassId) (heap : List Stored) →
    AllByRecursion (λ x. IsGiven cs x.serial x.class) heap →
    option_map (λ (x : Stored). x.class) (stored serial heap) ≡ Some class →
    IsGiven cs serial class
found_given cs serial class [] all h = absurd (cc)
found_given cs serial class (x ∷ xs) all h =
    go (x.serial == serial) refl (found_given cs serial class xs all.1) h
  where
    go : (b : Bool) → (x.serial == serial) ≡ b →
        (option_map (λ (y : Stored). y.class) (stored serial xs) ≡ Some class →
        IsGiven cs serial class) →
        option_map (λ (y : Stored). y.class) (cond b (Some x) (stored serial xs)) ≡ Some class →
        IsGiven cs serial class
    go true e rest q =
        subst (λ k. IsGiven cs k class) (eqb-true x.serial serial e)
        (all.0 ∙ q)
    go false e rest q = rest q
