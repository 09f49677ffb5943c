-- The names of a packed message tell the classes that its node sees.
use Rattle.std.proofs.Common.{◌≡◌, ◌==◌, ◌++◌, ℕ, suc, Bool, true, false, cond, List, [], ◌∷◌, fold}
use Rattle.std.{proofs.Common.{refl, sym, ap, ◌∙◌, subst, length}, specs.Prelude.{Err, None, Ok}}
use Rattle.std.specs.{Prelude.{Option, Some, is_some, nat_lt, unwrap_or}, List.AllByRecursion}
use Rattle.std.{specs.{List.filter_map, Result.result_ok}, proofs.lemmas.Bool.eqb-true}
use Rattle.do_base.specs.names.Names.{ObjectName}
use Rattle.do_class.specs.{Table.class_id, declared.{ids.ClassId.ClassId, packet.Name.Name}}
use Rattle.do_class.specs.declared.packet.{Name.TheVariants.{Lent, Mine, Yours}, Packet.Packet}
use Rattle.do_packet.specs.Copies.{Placed, copies_of, most_copies, names_with}
use Rattle.do_packet.specs.Packing.{Naming, capped, class_at, message_weight, most_weight}
use Rattle.do_packet.specs.Packing.{name_next, names_to, packed, packed_with, packet_with}
use Rattle.do_packet.specs.{Seen.Sender, declared.fault.PackFault.TheVariants.TooLarge}
use Rattle.do_machine.specs.{Context.{Context, class_seen}, Objects.object_at}
use Rattle.do_machine.specs.Packing.{packed_for, packer}
use Rattle.do_network.specs.Counting.{classed_name}
use Rattle.do_facts.proofs.links.NamedInMessages.{IsNameable, all_nameable}
use Rattle.do_agreement.specs.AreTold.{TellsSeen}

module _ (c : Context) where
  -- names tell the classes that the node sees
  abbrev pub Told : List Name → Type 0
  Told names = AllByRecursion (TellsSeen c) (filter_map (classed_name c.node.port) names)

  -- one more name
  told_more : (xs : List Name) (x : Name) → Told xs → Told (x ∷ []) → Told (xs ++ x ∷ [])
  told_more [] x all one = one
  told_more (Mine serial class ∷ xs) x all one = (all.0, told_more xs x all.1 one)
  told_more (Yours serial ∷ xs) x all one = told_more xs x all one
  told_more (Lent o class token ∷ xs) x all one = (all.0, told_more xs x all.1 one)

  -- the node as a packer
  abbrev s : Sender
  s = packer c

  -- of what has a class the class is told
  class_told : (o : ObjectName) → is_some (class_seen c o) ≡ true →
      class_seen c o ≡ Some (class_at s o)
  class_told o h = go (class_seen c o) h
    where
      go : (found : Option ClassId) → is_some found ≡ true →
          found ≡ Some (unwrap_or found (class_id 0))
      go None h = absurd (cc)
      go (Some k) h = refl

  module _ (to : ℕ) where
    -- one more object is named
    one_named : (n : Naming) (o : ObjectName) → IsNameable s o → Told n.names →
        Told (name_next s to n o).names
    one_named n o may all = go (o.node == s.node) refl (o.node == to)
      where
        here : class_seen c o ≡ Some (class_at s o)
        here = class_told o may.1

        go : (b : Bool) → (o.node == s.node) ≡ b → (d : Bool) →
            Told (cond b (record n { names = n.names ++ Mine o.serial (class_at s o) ∷ [] })
            (cond d (record n { names = n.names ++ Yours o.serial ∷ [] })
            (record {
              names = n.names ++ Lent o (class_at s o) n.token ∷ [];
              token = suc n.token;
            }))).names
        go true e d =
            told_more n.names (Mine o.serial (class_at s o)) all (
              ap (λ k. class_seen c (object_at k o.serial)) (sym (eqb-true o.node s.node e)) ∙ here,
              tt,
            )
        go false e true = told_more n.names (Yours o.serial) all tt
        go false e false = told_more n.names (Lent o (class_at s o) n.token) all (here, tt)

    -- objects are named one after another
    all_named : (os : List ObjectName) (n : Naming) → AllByRecursion (IsNameable s) os →
        Told n.names → Told (fold (name_next s to) n os).names
    all_named [] n may all = all
    all_named (o ∷ os) n may all =
        all_named os (name_next s to n o) may.1 (one_named n o may.0 all)

    -- so are those of a message
    pub names_told : (token : ℕ) (values : List Placed) (copies : List ObjectName) →
        Told (names_to s to token (names_with s values copies))
    names_told token values copies =
        all_named (names_with s values copies) (record { names = []; token = token })
        (all_nameable s values copies) tt

    -- those of a message within the limits
    abbrev ToldIf : Option Packet → Type 0
    ToldIf None = Unit {0}
    ToldIf (Some packet) = Told packet.names

    with_told : (token : ℕ) (values : List Placed) (copies : List ObjectName) →
        ToldIf (result_ok (packed_with s to token values copies))
    with_told token values copies =
        go (nat_lt most_copies (length copies))
        (nat_lt most_weight (message_weight s values copies))
      where
        go : (b d : Bool) →
            ToldIf (result_ok (cond b (Err (TooLarge (suc most_copies) most_copies))
            (cond d (Err (TooLarge (capped (message_weight s values copies)) most_weight))
            (Ok (packet_with s to token values copies (names_with s values copies))))))
        go true d = tt
        go false true = tt
        go false false = names_told token values copies

    -- those of any message
    any_told : (token : ℕ) (values : List Placed) →
        ToldIf (result_ok (packed s to token values))
    unfolding packed
    any_told token values = with_told token values (copies_of s values)

    -- the names of what a node packs
    pub packed_told : (values : List Placed) (packet : Packet) →
        packed_for c to values ≡ Some packet → Told packet.names
    packed_told values packet h =
        go (packed_for c to values) (any_told c.node.next_token values) h
      where
        go : (found : Option Packet) → ToldIf found → found ≡ Some packet → Told packet.names
        go None n e = absurd (cc)
        go (Some p) n e = subst (λ x. Told x.names) (ap (λ x. unwrap_or x p) e) n
