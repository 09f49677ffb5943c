-- The root, as a message.
use Rattle.do_class.specs.declared.packet.Part.TheVariants as parts
use Rattle.std.proofs.Common.{◌≡◌, ℕ, true, false, List as Listed, [], ◌∷◌, ◌++◌, Some, None, refl}
use Rattle.std.{proofs.Common.{ap, arith, sym, ◌∙◌, subst, filter, rules}, specs.Prelude.◌==◌}
use Rattle.std.proofs.lemmas.{Bool.eq-eqb, Grind.common_steps}
use Rattle.do_base.specs.{names.Names.ObjectName, values.Values.objects_of}
use Rattle.do_base.specs.declared.values.value.Value.{Value, the_lemmas, TheVariants.{Nil, Obj}}
use Rattle.do_class.specs.declared.{ids.ClassId.ClassId, packet.Name.TheVariants.Mine}
use Rattle.do_class.specs.declared.packet.{Packet.Packet, Part.Part}
use Rattle.do_packet.specs.{Copies.names_with, Met.{is_named, met, role_of, same_object}}
use Rattle.do_packet.specs.{Packing.{names_to, packet_with}, Parts.{object_part, part_of}}
use Rattle.do_packet.specs.declared.role.Role.{Role, TheVariants.{Absent, Named}}
use Rattle.do_machine.specs.{Context.{Context, class_seen, own_class}, Packing.{packer, seen_by}}
use Rattle.do_machine.specs.{State.own, take.Take.root_packet}

objects_nil : objects_of Nil ≡ []
objects_nil = search (rules, the_lemmas)

objects_one : (o : ObjectName) → objects_of (Obj o) ≡ o ∷ []
objects_one o = search (rules, the_lemmas)

module _ (c : Context) (to : ℕ) where
  -- the names of a message with one value
  abbrev names_in : Value → Listed ObjectName
  names_in v = names_with (packer c) ((false, v) ∷ []) []

  -- the part of that value
  abbrev part_in : Listed ObjectName → Value → Part
  part_in names v = part_of (seen_by c) c.node.port false [] names v

  -- the message with one value
  abbrev packet_in : Value → Packet
  packet_in v =
      packet_with (packer c) to c.node.next_token ((false, v) ∷ []) [] (names_in v)

  abbrev role_in : ObjectName → Role
  role_in o = role_of (seen_by c) c.node.port false o

  nil_part : part_in [] Nil ≡ parts.Nil
  nil_part = search (rules, the_lemmas)

  object_is : (names : Listed ObjectName) (o : ObjectName) →
      part_in names (Obj o) ≡ object_part (role_in o) [] names o
  object_is names o = search (rules, the_lemmas)

  -- what a message without names has
  abbrev only_nil : Packet
  only_nil = record { names = []; copies = []; values = parts.Nil ∷ [] }

  -- what a message of an own object alone has
  abbrev only_root : ℕ → ClassId → Packet
  only_root serial class =
      record { names = Mine serial class ∷ []; copies = []; values = parts.Named 0 ∷ [] }

  nil_names : names_in Nil ≡ []
  nil_names = ap (λ os. met [] (filter (λ o. is_named (role_in o)) os ++ [])) objects_nil

  nil_packet : only_nil ≡ packet_in Nil
  nil_packet = rw nil_names (rw nil_part refl)

  -- without a root it is nil
  pub root_none : None ≡ c.node.root → only_nil ≡ root_packet c to
  root_none none = rw (sym none) nil_packet

  here : (c.node.port == c.node.port) ≡ true
  here = eq-eqb c.node.port c.node.port refl

  class_is : (serial : ℕ) → class_seen c (own c.node serial) ≡ own_class c.node serial
  class_is serial = rw here refl

  object_names : (o : ObjectName) (r : Role) → role_in o ≡ r →
      names_in (Obj o) ≡ met [] (filter (λ p. is_named (role_in p)) (o ∷ []) ++ [])
  object_names o r e =
      ap (λ os. met [] (filter (λ p. is_named (role_in p)) os ++ [])) (objects_one o)

  -- a root that is not stored is nil
  pub root_lost : (serial : ℕ) → Some serial ≡ c.node.root → None ≡ own_class c.node serial →
      only_nil ≡ root_packet c to
  root_lost serial is lost =
      let o : ObjectName = own c.node serial in
      let role : role_in o ≡ Absent = rw (class_is serial ∙ sym lost) refl in
      let names : names_in (Obj o) ≡ [] = object_names o Absent role ∙ rw role refl in
      let part : part_in [] (Obj o) ≡ parts.Nil = object_is [] o ∙ rw role refl in
      rw (sym is) (rw names (rw part refl))

  -- a root that is stored is named
  pub root_there : (serial : ℕ) (class : ClassId) → Some serial ≡ c.node.root →
      Some class ≡ own_class c.node serial → only_root serial class ≡ root_packet c to
  root_there serial class is there =
      let o : ObjectName = own c.node serial in
      let class_there : class_seen c o ≡ Some class = class_is serial ∙ sym there in
      let role : role_in o ≡ Named = rw class_there (rw here refl) in
      let names : names_in (Obj o) ≡ o ∷ [] = object_names o Named role ∙ rw role refl in
      let same : same_object o o ≡ true = grind (arith, common_steps) in
      let part : part_in (o ∷ []) (Obj o) ≡ parts.Named 0 =
      object_is (o ∷ []) o ∙ rw role (rw same refl) in
      let named : names_to (packer c) to c.node.next_token (o ∷ []) ≡ Mine serial class ∷ [] =
      search (rules, here, class_there) in
      let core : only_root serial class ≡ packet_in (Obj o) = rw names (rw part (rw named refl)) in
      subst (λ r. only_root serial class
      ≡ packet_in (elim r [ None ↦ Nil | Some k ↦ Obj (own c.node k) ])) is core
