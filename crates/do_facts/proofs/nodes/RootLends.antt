-- The root of a node is named, and lends nothing.
use Rattle.std.proofs.Common.{◌≡◌, ◌==◌, ◌++◌, ℕ, Bool, true, false, cond, List, [], ◌∷◌, refl, ap}
use Rattle.std.{proofs.Common.{filter, ◌∙◌, arith, rules}, specs.Prelude.{None, Option, Some, suc}}
use Rattle.std.{specs.List.filter_map, proofs.lemmas.Bool.Decides.nat_tests}
use Rattle.do_base.specs.{names.Names.ObjectName, values.Values.objects_of}
use Rattle.do_base.specs.declared.values.value.Value.{Value, TheFolds.the_lemmas}
use Rattle.do_base.specs.declared.values.value.Value.TheVariants.{Nil, Obj}
use Rattle.do_class.specs.declared.packet.Name.TheVariants.{Lent, Mine, Yours}
use Rattle.do_packet.specs.{Copies.{Placed, names_with}, Met.{is_named, met, role_of}}
use Rattle.do_packet.specs.{Packing.{Naming, class_at, names_to}, Seen.Sender}
use Rattle.do_machine.specs.{declared.node.Lend.Lend, Context.Context, Objects.object_at}
use Rattle.do_machine.specs.{Packing.packer, State.own, lend.Lending.lend_of}

-- no object is in nil
objects_of-Nil : objects_of Nil ≡ []
objects_of-Nil = search (rules, the_lemmas)

-- one object is in its name
objects_of-Obj : (o : ObjectName) → objects_of (Obj o) ≡ o ∷ []
objects_of-Obj o = search (rules, the_lemmas)

module _ (s : Sender) (to token : ℕ) where
  -- the lends of a message that names these objects
  abbrev lends : List ObjectName → List Lend
  lends os = filter_map (lend_of to) (names_to s to token os)

  -- the lends of names
  abbrev lends_named : Naming → List Lend
  lends_named n = filter_map (lend_of to) n.names

  -- an own object is not lent
  own_not_lent : (serial : ℕ) → lends (object_at s.node serial ∷ []) ≡ []
  own_not_lent serial = go (s.node == s.node) (itself s.node)
    where
      itself : (n : ℕ) → (n == n) ≡ true
      itself n = grind (arith, nat_tests)

      go : (b : Bool) → b ≡ true → lends_named (cond b
          (record {
            names = Mine serial (class_at s (object_at s.node serial)) ∷ [];
            token = token;
          })
          (cond (s.node == to)
          (record { names = Yours serial ∷ []; token = token })
          (record {
            names = Lent (object_at s.node serial) (class_at s (object_at s.node serial)) token ∷
                [];
            token = suc token;
          }))) ≡ []
      go true h = refl
      go false h = absurd (cc)

  -- nor is it where it may not be named
  named_not_lent : (serial : ℕ) (b : Bool) →
      lends (met [] (cond b (object_at s.node serial ∷ []) [] ++ [])) ≡ []
  named_not_lent serial true = own_not_lent serial
  named_not_lent serial false = refl

module _ (c : Context) (to : ℕ) where
  -- the lends of a message with this value alone
  abbrev lends_with : Value → List Lend
  lends_with v =
      let values : List Placed = (false, v) ∷ [] in
      filter_map (lend_of to)
      (names_to (packer c) to c.node.next_token (names_with (packer c) values []))

  -- the lends of a message with a value of these objects
  abbrev lends_of_objects : List ObjectName → List Lend
  lends_of_objects os =
      let s = packer c in
      filter_map (lend_of to) (names_to s to c.node.next_token
      (met [] (filter (λ o. is_named (role_of s.seen s.node false o)) os ++ [])))

  -- a root is not lent
  pub root_not_lent : (root : Option ℕ) →
      lends_with (elim root [ None ↦ Nil | Some serial ↦ Obj (own c.node serial) ]) ≡ []
  root_not_lent None = ap lends_of_objects objects_of-Nil
  root_not_lent (Some serial) =
      let s = packer c in
      ap lends_of_objects (objects_of-Obj (own c.node serial))
      ∙ named_not_lent s to c.node.next_token serial
      (is_named (role_of s.seen s.node false (own c.node serial)))
