-- A message of values that can be carried is one of parts that can be spelled.
use Rattle.do_class.specs.declared.packet.Part.TheVariants as part
use Rattle.std.proofs.Common.{◌≡◌, ◌-◌, ℕ, ℤ, Bool, true, false, cond, List as Listed, [], ◌∷◌}
use Rattle.std.proofs.Common.{◌&&◌, Err, Ok, Result, length, map, refl, sym, ap, ◌∙◌, subst, rules}
use Rattle.std.proofs.Common.{◌^◌, arith}
use Rattle.std.specs.{Prelude.{nat_le, nat_lt, ◌≤◌}, List.{AllByRecursion, list_all}}
use Rattle.std.proofs.lemmas.{Bool.{and_from, and_parts}, List.length-map}
use Rattle.do_base.specs.{names.Names.ObjectName, values.Induction.value_induction}
use Rattle.do_base.specs.{values.Texts.longest_text, declared.values.value.Value.{List, Value}}
use Rattle.do_base.specs.declared.values.value.Value.{the_lemmas, TheVariants.{Nil, Num, Obj, Text}}
use Rattle.do_class.specs.declared.packet.Packet.{Packet}
use Rattle.do_class.specs.declared.packet.Part.{List as Parts, Part, the_lemmas as part_lemmas}
use Rattle.do_coder.specs.Parts.{is_bytes}
use Rattle.do_grammar.specs.Num.{zigzag}
use Rattle.do_packet.specs.Copies.{Placed, copies_of, marks, most_copies, names_with, slot_values}
use Rattle.do_packet.specs.{Copies.slots_at, Met.role_of, Packing.{copied_of, message_weight}}
use Rattle.do_packet.specs.{Packing.{most_weight, packed, packet_with, part_at}, Parts.object_part}
use Rattle.do_packet.specs.{Parts.part_of, Seen.Sender, declared.fault.PackFault.PackFault}
use Rattle.do_packet.specs.declared.role.Role.{Role, TheVariants.{Absent, Copied, Named}}
use Rattle.do_limits.specs.Sendable.{AreSendableParts, CopyIsSendable, IsSendable, IsSendablePacket}
use Rattle.do_limits.specs.Sendable.{NameIsSendable, can_carry, can_spell}
use Rattle.do_packet.proofs.{Keeping.packed_keeps, Packed.packed_as}
use Rattle.do_lengths.proofs.Names.{packed_fits}
use Rattle.do_facts.proofs.links.NamedInMessages.{all_nameable}
use Rattle.do_limits.proofs.values.Naming.{IsOwn, SenderIsSendable, copies_own, copy_whole}
use Rattle.do_limits.proofs.values.Naming.{each_named}
use Rattle.do_facts.proofs.EachOfLists.{each_zipped}
use Rattle.do_limits.proofs.values.Carried.{carry-List, carry-Num, carry-Text}

-- ---- parts, kind by kind

module _ (depth : ℕ) where
  -- nil can be spelled
  pub spell-Nil : can_spell part.Nil depth ≡ true
  spell-Nil = search (rules, part_lemmas)

  -- a number can that has 64 bits
  pub spell-Num : (z : ℤ) → can_spell (part.Num z) depth ≡ nat_lt (zigzag z) (2 ^ 64)
  spell-Num z = search (rules, part_lemmas)

  -- a text of bytes can that is not too long
  pub spell-Text : (t : Listed ℕ) →
      can_spell (part.Text t) depth ≡ (nat_le (length t) longest_text && is_bytes t)
  spell-Text t = search (rules, part_lemmas)

  -- a copy can
  pub spell-Copy : (k : ℕ) → can_spell (part.Copy k) depth ≡ true
  spell-Copy k = search (rules, part_lemmas)

  -- a name can
  pub spell-Named : (k : ℕ) → can_spell (part.Named k) depth ≡ true
  spell-Named k = search (rules, part_lemmas)

  -- a list can by its items
  pub spell-List : (ps : Listed Part) → can_spell (Parts ps) depth
      ≡ (nat_lt 0 depth && (nat_le (length (map can_spell ps)) 1024 && list_all
      (λ (f : ℕ → Bool). f (depth - 1)) (map can_spell ps)))
  spell-List ps = search (rules, part_lemmas)

-- three tests, of which the second and the third may be others
pub tests : (a b c d e : Bool) → (a && (b && c)) ≡ true → (b ≡ true → d ≡ true) →
    (c ≡ true → e ≡ true) → (a && (d && e)) ≡ true
tests true true true d e h f g = and_from d e (f refl) (g refl)
tests true true false d e h f g = absurd (cc)
tests true false c d e h f g = absurd (cc)
tests false b c d e h f g = absurd (cc)

-- ---- the parts of values

module _ (s : Sender) (C N : Listed ObjectName) where
  module _ (copy : Bool) where
    -- the part of a value in such a place
    abbrev made : Value → Part
    made v = part_of s.seen s.node copy C N v

    -- the part of nil
    made-Nil : made Nil ≡ part.Nil
    made-Nil = search (rules, the_lemmas)

    -- the part of a number
    made-Num : (z : ℤ) → made (Num z) ≡ part.Num z
    made-Num z = search (rules, the_lemmas)

    -- the part of a text
    made-Text : (t : Listed ℕ) → made (Text t) ≡ part.Text t
    made-Text t = search (rules, the_lemmas)

    -- the part of an object
    made-Obj : (o : ObjectName) → made (Obj o) ≡ object_part (role_of s.seen s.node copy o) C N o
    made-Obj o = search (rules, the_lemmas)

    -- the part of a list
    made-List : (vs : Listed Value) → made (List vs) ≡ Parts (map made vs)
    made-List vs = search (rules, the_lemmas)

    -- the part can be spelled as deep as the value can be carried
    abbrev Spelled : Value → Type 0
    Spelled v = (depth : ℕ) → can_carry v depth ≡ true → can_spell (made v) depth ≡ true

    -- the part of an object, whatever becomes of it
    object_spelled : (o : ObjectName) (role : Role) (depth : ℕ) →
        can_spell (object_part role C N o) depth ≡ true
    object_spelled o Copied depth = spell-Copy depth _
    object_spelled o Named depth = spell-Named depth _
    object_spelled o Absent depth = spell-Nil depth

    -- the parts of items
    items_spelled : (depth : ℕ) (vs : Listed Value) → AllByRecursion Spelled vs →
        list_all (λ (f : ℕ → Bool). f depth) (map can_carry vs) ≡ true →
        list_all (λ (f : ℕ → Bool). f depth) (map can_spell (map made vs)) ≡ true
    items_spelled depth [] h c = refl
    items_spelled depth (v ∷ vs) h c =
        let cs = and_parts (can_carry v depth) _ c in
        and_from (can_spell (made v) depth) _ (h.0 depth cs.0) (items_spelled depth vs h.1 cs.1)

    -- the part of a list
    list_spelled : (vs : Listed Value) → AllByRecursion Spelled vs → Spelled (List vs)
    list_spelled vs h depth c =
        let same : length (map can_spell (map made vs)) ≡ length (map can_carry vs) =
        length-map (map made vs) can_spell ∙ length-map vs made ∙ sym (length-map vs can_carry) in
        ap (λ x. can_spell x depth) (made-List vs) ∙ spell-List depth (map made vs)
        ∙ tests (nat_lt 0 depth) (nat_le (length (map can_carry vs)) 1024)
        (list_all (λ (f : ℕ → Bool). f (depth - 1)) (map can_carry vs)) _ _
        (sym (carry-List depth vs) ∙ c) (λ k. ap (λ n. nat_le n 1024) same ∙ k)
        (items_spelled (depth - 1) vs h)

    -- the part of each value
    value_spelled : (v : Value) → Spelled v
    value_spelled =
        value_induction Spelled
        (λ depth c. ap (λ x. can_spell x depth) made-Nil ∙ spell-Nil depth)
        (λ z depth c.
        ap (λ x. can_spell x depth) (made-Num z) ∙ spell-Num depth z ∙ sym (carry-Num depth z) ∙ c)
        (λ t depth c.
        ap (λ x. can_spell x depth) (made-Text t) ∙ spell-Text depth t
        ∙ sym (carry-Text depth t) ∙ c)
        (λ o depth c.
        ap (λ x. can_spell x depth) (made-Obj o)
        ∙ object_spelled o (role_of s.seen s.node copy o) depth)
        list_spelled

  -- the parts of values at places
  placed_spelled : (ps : Listed Placed) → AllByRecursion (λ q. IsSendable q.1) ps →
      AreSendableParts (map (part_at s C N) ps)
  placed_spelled [] h = tt
  placed_spelled (q ∷ ps) h = (value_spelled q.0 q.1 8 h.0, placed_spelled ps h.1)

  -- the copies
  copies_spelled : (ok : SenderIsSendable s) (os : Listed ObjectName) →
      AllByRecursion (IsOwn s ok) os →
      AllByRecursion (CopyIsSendable s.table) (map (copied_of s C N) os)
  copies_spelled ok [] h = tt
  copies_spelled ok (o ∷ os) h = (
    record {
      slots = placed_spelled (slots_at s o)
          (each_zipped IsSendable (marks s.table (s.seen.class_of o)) (slot_values s o)
          (ok.slots o));
      whole = copy_whole s ok C N o h.0;
    },
    copies_spelled ok os h.1,
  )

-- ---- messages

-- what passed two tests
ok_only : (a b : Bool) (x y : PackFault) (q p : Packet) →
    cond {A = Result Packet PackFault} a (Err x) (cond b (Err y) (Ok q)) ≡ Ok p → p ≡ q
ok_only true b x y q p e = absurd (cc)
ok_only false true x y q p e = absurd (cc)
ok_only false false x y q p e = cc

module _ (s : Sender) (to token : ℕ) (values : Listed Placed) where
  -- what was packed is the message with its copies, and with the names of all that it has
  packed_is : (p : Packet) → packed s to token values ≡ Ok p →
      p ≡ packet_with s to token values (copies_of s values)
      (names_with s values (copies_of s values))
  unfolding packed
  packed_is p e =
      ok_only (nat_lt most_copies (length (copies_of s values)))
      (nat_lt most_weight (message_weight s values (copies_of s values))) _ _ _ p e

  -- what was packed of such values by such a sender
  pub packed_sendable : SenderIsSendable s → 1 ≤ token →
      AllByRecursion (λ q. IsSendable q.1) values → length values ≤ 9 → (p : Packet) →
      packed s to token values ≡ Ok p → IsSendablePacket s.table s.node to p
  packed_sendable ok first sent few p e =
      let C = copies_of s values in
      let N = names_with s values C in
      let is = packed_is p e in
      record {
        read = record {
          limits = packed_keeps s to token values p e;
          names = subst
              (λ (q : Packet). AllByRecursion (NameIsSendable s.table s.node to) q.names)
              (sym is)
              (each_named s ok to N (all_nameable s values C)
              (record { names = []; token = token }) (tt, first)).0;
          few = subst (λ (q : Packet). length q.values ≤ 9) (sym is)
              (omega (arith, few, length-map values (part_at s C N)));
          values = subst (λ (q : Packet). AreSendableParts q.values) (sym is)
              (placed_spelled s C N values sent);
          slots = subst (λ (q : Packet). AllByRecursion (CopyIsSendable s.table) q.copies)
              (sym is) (copies_spelled s C N ok C (copies_own s ok values));
        };
        short = λ recent.
            omega (
              arith,
              packed_fits s to token values recent p e,
              (packed_as s to token values p e).light,
            );
      }
