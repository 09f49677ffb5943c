-- What a node knows after moves it knew before, or it was named to it.
use Rattle.do_class.specs.declared.packet.Name.TheVariants as names
use Rattle.do_machine.specs.declared.item.Item.TheVariants as items
use Rattle.do_facts.specs.links.Links as Atoms
use Rattle.std.proofs.Common.{◌≡◌, ◌==◌, ◌++◌, ◌||◌, ℕ, Bool, true, false, cond, List, [], ◌∷◌}
use Rattle.std.proofs.Common.{filter, not, refl, sym, ap, ◌∙◌, subst, arith}
use Rattle.std.specs.{Prelude.if◌then◌else◌, List.{AllByRecursion, filter_map, flat_map, list_any}}
use Rattle.std.proofs.lemmas.{Bool.Decides.nat_tests, List.Sorted.list_any-IsPermutation}
use Rattle.do_base.specs.names.Names.{ObjectName}
use Rattle.do_class.specs.declared.packet.Name.{Name}
use Rattle.do_packet.specs.Met.{has_object, same_object}
use Rattle.do_machine.specs.declared.{item.Item.Item, node.{Node.Node, Wanted.Wanted}}
use Rattle.do_machine.specs.{declared.state.Effect.Effect, Lists.inserted}
use Rattle.do_machine.specs.{Objects.{joined, object_at}, State.is_known}
use Rattle.do_machine.{specs.lend.Asking.{wanted, wanted_lt}, proofs.Inserting.inserted_moves}
use Rattle.do_network.specs.Counting.{classed_name, item_classes}
use Rattle.do_facts.specs.{Net.{Note, noted}, Moves.{afters, all_takes}, View.AreMoves}
use Rattle.do_facts.specs.links.Links.{Atom, Links, atoms, links, links_of, name_atoms}
use Rattle.do_facts.specs.links.Moves.{Asks, Closes, Ends, GivesUp, Holds, Leaves, Misses, Move}
use Rattle.do_facts.specs.links.Moves.{Receives, link_rules, moved, takes}
use Rattle.do_facts.proofs.links.{HeldChanged.{held_more, is_at}, SameIsEqual.object_is}

-- an object is held, or asked for
abbrev pub knows : Links → ObjectName → Bool
knows p o = has_object p.held o || list_any (λ w. same_object o w.object) p.asked

-- some of those that pass is one of all
any_filtered : {X : Type 0} (f g : X → Bool) (xs : List X) → list_any f (filter g xs) ≡ true →
    list_any f xs ≡ true
any_filtered f g [] h = h
any_filtered f g (x ∷ xs) h = go (g x) (any_filtered f g xs) h
  where
    or_later : (a b : Bool) → b ≡ true → (a || b) ≡ true
    or_later true b k = refl
    or_later false b k = k

    first : (a b c : Bool) → (b ≡ true → c ≡ true) → (a || b) ≡ true → (a || c) ≡ true
    first true b c k e = refl
    first false b c k e = k e

    go : (b : Bool) → (list_any f (filter g xs) ≡ true → list_any f xs ≡ true) →
        list_any f (cond b (x ∷ filter g xs) (filter g xs)) ≡ true → list_any f (x ∷ xs) ≡ true
    go true k e = first (f x) (list_any f (filter g xs)) (list_any f xs) k e
    go false k e = or_later (f x) (list_any f xs) (k e)

module _ (P : ObjectName → Type 0) where
  -- each object that a part knows is such
  abbrev pub KnownAre : Links → Type 0
  KnownAre p = (o : ObjectName) → knows p o ≡ true → P o

  -- an atom of a peer names only such objects as the reader is to know
  abbrev pub NamesSuch : ℕ → Atom → Type 0
  NamesSuch from (Atoms.Mine s) = P (object_at from s)
  NamesSuch from (Atoms.Lent o t) = P o
  NamesSuch from (Atoms.Granted s t) = P (object_at from s)
  NamesSuch from _ = Unit {0}

  -- so do all that are taken
  abbrev pub TakenAre : List (Note Atom) → Type 0
  TakenAre taken = AllByRecursion (λ k. NamesSuch k.peer k.atom) taken

  -- fewer are known
  fewer : (p q : Links) →
      ((o : ObjectName) → has_object q.held o ≡ true → has_object p.held o ≡ true) →
      ((o : ObjectName) → list_any (λ w. same_object o w.object) q.asked ≡ true →
      list_any (λ w. same_object o w.object) p.asked ≡ true) → KnownAre p → KnownAre q
  fewer p q held asked known o h =
      known o (go (has_object q.held o) refl h)
    where
      or_later : (a b : Bool) → b ≡ true → (a || b) ≡ true
      or_later true b k = refl
      or_later false b k = k

      go : (b : Bool) → has_object q.held o ≡ b →
          (b || list_any (λ w. same_object o w.object) q.asked) ≡ true → knows p o ≡ true
      go true e k =
          ap (λ b. b || list_any (λ w. same_object o w.object) p.asked) (held o e)
      go false e k =
          or_later (has_object p.held o) (list_any (λ w. same_object o w.object) p.asked)
          (asked o k)

  -- one more is held
  one_held : (p : Links) (x : ObjectName) → P x → KnownAre p →
      KnownAre (record p { held = joined p.held x })
  one_held p x is known o h = go (is_at x o.node o.serial) refl
      (sym (ap (λ b. b || list_any (λ w. same_object o w.object) p.asked)
      (held_more o.node o.serial x p.held)) ∙ h)
    where
      alike : is_at x o.node o.serial ≡ true → same_object o x ≡ true
      alike e = grind (arith, nat_tests, e)

      go : (b : Bool) → is_at x o.node o.serial ≡ b →
          ((if b then true else has_object p.held o)
          || list_any (λ w. same_object o w.object) p.asked) ≡ true → P o
      go true e k = subst P (sym (object_is o x (alike e))) is
      go false e k = known o k

  -- one more is asked for
  one_asked : (p : Links) (w : Wanted) → P w.object → KnownAre p →
      KnownAre (record p { asked = inserted wanted_lt w p.asked })
  one_asked p w is known o h = go (same_object o w.object) refl
      (ap (λ b. has_object p.held o || b)
      (list_any-IsPermutation (λ v. same_object o v.object) (w ∷ p.asked)
      (inserted wanted_lt w p.asked) (inserted_moves wanted_lt w p.asked)) ∙ h)
    where
      go : (b : Bool) → same_object o w.object ≡ b →
          (has_object p.held o || (b || list_any (λ v. same_object o v.object) p.asked)) ≡ true →
          P o
      go true e k = subst P (sym (object_is o w.object e)) is
      go false e k = known o k

  -- an ask is over
  ask_over : (p : Links) (g : Wanted → Bool) → KnownAre p →
      KnownAre (record p { asked = filter g p.asked })
  ask_over p g known =
      fewer p (record p { asked = filter g p.asked }) (λ o h. h)
      (λ o h. any_filtered (λ w. same_object o w.object) g p.asked h) known

  -- objects are held no more
  held_less : (p q : Links) (g : ObjectName → Bool) → q.held ≡ filter g p.held →
      q.asked ≡ p.asked → KnownAre p → KnownAre q
  held_less p q g held asked known =
      fewer p q
      (λ o h. any_filtered (same_object o) g p.held (sym (ap (λ xs. has_object xs o) held) ∙ h))
      (λ o h. sym (ap (λ xs. list_any (λ w. same_object o w.object) xs) asked) ∙ h) known

  -- one move
  known_moved : (p : Links) (v : Move) → KnownAre p → TakenAre (takes v) → KnownAre (moved p v)
  known_moved p (Leaves o) known t =
      held_less p (moved p (Leaves o)) (λ x. not (same_object o x)) refl refl known
  known_moved p (Closes peer) known t =
      held_less p (moved p (Closes peer)) (λ x. not (x.node == peer)) refl refl known
  known_moved p (GivesUp w told) known t = ask_over p _ known
  known_moved p (Holds from s) known t = one_held p (object_at from s) t.0 known
  known_moved p (Asks from o token) known t = one_asked p (wanted o from token) t.0 known
  known_moved p (Receives from s token told) known t =
      ask_over (record p { held = joined p.held (object_at from s) }) _
      (one_held p (object_at from s) t.0 known)
  known_moved p (Misses from s token told) known t = ask_over p _ known
  known_moved p (Ends from serials) known t =
      held_less p (moved p (Ends from serials)) (λ x. not (x.node == from)) refl refl known
  known_moved p _ known t = known

  -- what holds of all holds of those before and those behind
  split : {X : Type 0} (Q : X → Type 0) (xs ys : List X) → AllByRecursion Q (xs ++ ys) →
      AllByRecursion Q xs × AllByRecursion Q ys
  split Q [] ys all = (tt, all)
  split Q (x ∷ xs) ys all =
      let rest = split Q xs ys all.1 in ((all.0, rest.0), rest.1)

  -- many moves
  known_moves : (vs : List Move) (p : Links) → KnownAre p → TakenAre (all_takes link_rules vs) →
      KnownAre (afters link_rules p vs)
  known_moves [] p known t = known
  known_moves (v ∷ vs) p known t =
      let both = split (λ k. NamesSuch k.peer k.atom) (takes v) (all_takes link_rules vs) t in
      known_moves vs (moved p v) (known_moved p v known both.0) both.1

  -- an effect
  pub known_after : (n : Node) (taken : List (Note Atom)) (e : Effect) →
      AreMoves links link_rules n taken e → KnownAre (links_of n) → TakenAre taken →
      (o : ObjectName) → is_known e.node o ≡ true → P o
  known_after n taken e moves known t o h =
      subst KnownAre moves.reaches
      (known_moves moves.moves (links_of n) known (subst TakenAre (sym moves.takes) t)) o h

  -- ---- an item

  -- what names tell is such
  names_such : (from : ℕ) (xs : List Name) →
      AllByRecursion (λ x. P x.object) (filter_map (classed_name from) xs) →
      TakenAre (noted from (flat_map name_atoms xs))
  names_such from [] all = tt
  names_such from (names.Mine s class ∷ xs) all = (all.0, names_such from xs all.1)
  names_such from (names.Yours s ∷ xs) all = (tt, names_such from xs all)
  names_such from (names.Lent o class token ∷ xs) all = (all.0, names_such from xs all.1)

  -- an object that is granted is such
  abbrev pub GrantedIs : ℕ → Item → Type 0
  GrantedIs from (items.Granted s token) = P (object_at from s)
  GrantedIs from _ = Unit {0}

  -- what an item tells is such
  pub item_such : (from : ℕ) (item : Item) →
      AllByRecursion (λ x. P x.object) (item_classes from item) → GrantedIs from item →
      TakenAre (noted from (atoms item))
  item_such from (items.Call k m) all g = (tt, names_such from m.packet.names all)
  item_such from (items.Oneway m) all g = (tt, names_such from m.packet.names all)
  item_such from (items.Reply k p) all g = names_such from p.names all
  item_such from (items.Raised k e) all g = tt
  item_such from (items.RootAsk k) all g = tt
  item_such from (items.RootAnswer k p) all g = names_such from p.names all
  item_such from (items.Granted s t) all g = (g, tt)
  item_such from _ all g = (tt, tt)
