-- The lent names of a packed message have the next tokens, and are of objects that may be named.
use Rattle.std.proofs.Common.{◌≡◌, ◌==◌, ◌++◌, ◌∷◌, ℕ, suc, Bool, true, false, cond, List, [], fold}
use Rattle.std.proofs.Common.{refl, sym, ap, ◌∙◌, ◌||◌, subst, append_assoc, length}
use Rattle.std.specs.List.{AllByRecursion}
use Rattle.std.specs.Prelude.{Err, None, Ok, Option, Some, is_some, nat_lt, option_map, unwrap_or}
use Rattle.std.{specs.Result.result_ok, proofs.lemmas.Bool.eqb-true}
use Rattle.do_base.specs.names.Names.{ObjectName}
use Rattle.do_class.specs.declared.packet.Name.{Name, TheVariants.{Lent, Mine, Yours}}
use Rattle.do_class.specs.declared.packet.Packet.{Packet}
use Rattle.do_packet.specs.Copies.{Placed, copies_of, most_copies, names_with}
use Rattle.do_packet.specs.Packing.{Naming, capped, class_at, message_weight, most_weight}
use Rattle.do_packet.specs.Packing.{name_next, names_to, packed, packed_with, packet_with}
use Rattle.do_packet.specs.{Seen.Sender, declared.fault.PackFault.TheVariants.TooLarge}
use Rattle.do_machine.specs.{declared.node.Stored.Stored, Context.{Context, class_seen, own_class}}
use Rattle.do_machine.specs.{Objects.object_at, State.{is_own, stored}}
use Rattle.do_machine.specs.Packing.{packed_for, packer}
use Rattle.do_facts.{specs.links.Moves.is_there, proofs.links.AreNamed.{AreNamed, NamedBy}}
use Rattle.do_facts.proofs.links.NamedInMessages.{IsNameable, all_nameable}

module _ (s : Sender) (to : ℕ) where
  -- the names of objects from a token on, the first first
  abbrev names_from : ℕ → List ObjectName → List Name
  names_from token [] = []
  names_from token (o ∷ os) =
      cond (o.node == s.node) (Mine o.serial (class_at s o) ∷ names_from token os)
      (cond (o.node == to) (Yours o.serial ∷ names_from token os)
      (Lent o (class_at s o) token ∷ names_from (suc token) os))

  -- names stand behind those that there are
  names_behind : (os : List ObjectName) (n : Naming) →
      (fold (name_next s to) n os).names ≡ n.names ++ names_from n.token os
  names_behind [] n = sym (Rattle.std.proofs.Common.append-nil n.names)
  names_behind (o ∷ os) n =
      names_behind os (name_next s to n o) ∙ go (o.node == s.node) (o.node == to)
    where
      go : (b c : Bool) → (cond b (record n {
        names = n.names ++ Mine o.serial (class_at s o) ∷ [];
      })
          (cond c (record n { names = n.names ++ Yours o.serial ∷ [] })
          (record {
            names = n.names ++ Lent o (class_at s o) n.token ∷ [];
            token = suc n.token;
          }))).names
          ++ names_from (cond b (record n { names = n.names ++ Mine o.serial (class_at s o) ∷ [] })
          (cond c (record n { names = n.names ++ Yours o.serial ∷ [] })
          (record {
            names = n.names ++ Lent o (class_at s o) n.token ∷ [];
            token = suc n.token;
          }))).token os
          ≡ n.names ++ cond b (Mine o.serial (class_at s o) ∷ names_from n.token os)
          (cond c (Yours o.serial ∷ names_from n.token os)
          (Lent o (class_at s o) n.token ∷ names_from (suc n.token) os))
      go true c = append_assoc n.names (Mine o.serial (class_at s o) ∷ []) _
      go false true = append_assoc n.names (Yours o.serial ∷ []) _
      go false false = append_assoc n.names (Lent o (class_at s o) n.token ∷ []) _

  module _ (own : ℕ → Bool) (owned : (o : ObjectName) → (o.node == s.node) ≡ true →
      is_some (s.seen.class_of o) ≡ true → own o.serial ≡ true) where
    -- such names, from a token on
    abbrev Named : ℕ → List Name → Type 0
    Named token names = AreNamed own s.seen.usable to token names

    -- they are named one after another, where the objects may be named
    from_named : (os : List ObjectName) (token : ℕ) → AllByRecursion (IsNameable s) os →
        Named token (names_from token os)
    from_named [] token may = tt
    from_named (o ∷ os) token may =
        go (o.node == s.node) (o.node == to) refl refl may.0.0 (from_named os token may.1)
        (from_named os (suc token) may.1)
      where
        go : (b c : Bool) → (o.node == s.node) ≡ b → (o.node == to) ≡ c →
            (b || s.seen.usable o) ≡ true → Named token (names_from token os) →
            Named (suc token) (names_from (suc token) os) →
            Named token (cond b (Mine o.serial (class_at s o) ∷ names_from token os)
            (cond c (Yours o.serial ∷ names_from token os)
            (Lent o (class_at s o) token ∷ names_from (suc token) os)))
        go true c e f u x y = (owned o e may.0.1, x)
        go false true e f u x y =
            (ap (λ p. s.seen.usable (object_at p o.serial)) (sym (eqb-true o.node to f)) ∙ u, x)
        go false false e f u x y = (refl, u, y)

    -- and so are the names of a message
    pub to_named : (token : ℕ) (values : List Placed) (copies : List ObjectName) →
        Named token (names_to s to token (names_with s values copies))
    to_named token values copies =
        let os = names_with s values copies in
        subst (Named token)
        (sym (names_behind os (record { names = []; token = token })))
        (from_named os token (all_nameable s values copies))

    -- those of a message within the limits
    abbrev NamedIf : ℕ → Option Packet → Type 0
    NamedIf token None = Unit {0}
    NamedIf token (Some packet) = Named token packet.names

    with_named : (token : ℕ) (values : List Placed) (copies : List ObjectName) →
        NamedIf token (result_ok (packed_with s to token values copies))
    with_named token values copies =
        go (nat_lt most_copies (length copies))
        (nat_lt most_weight (message_weight s values copies))
      where
        go : (b c : Bool) →
            NamedIf token (result_ok (cond b (Err (TooLarge (suc most_copies) most_copies))
            (cond c (Err (TooLarge (capped (message_weight s values copies)) most_weight))
            (Ok (packet_with s to token values copies (names_with s values copies))))))
        go true c = tt
        go false true = tt
        go false false = to_named token values copies

    -- those of any message
    packed_named : (token : ℕ) (values : List Placed) →
        NamedIf token (result_ok (packed s to token values))
    unfolding packed
    packed_named token values = with_named token values (copies_of s values)

-- an own object of which a node sees the class is stored
pub owned : (c : Context) (o : ObjectName) → is_own c.node o ≡ true →
    is_some (class_seen c o) ≡ true → is_there c.node.heap o.serial ≡ true
owned c o e h = go (is_own c.node o) e h
  where
    there : (found : Option Stored) → is_some (option_map (λ x. x.class) found) ≡ true →
        is_some found ≡ true
    there None k = absurd (cc)
    there (Some x) k = refl

    go : (b : Bool) → b ≡ true →
        is_some (cond b (own_class c.node o.serial) (c.around.class_of o)) ≡ true →
        is_there c.node.heap o.serial ≡ true
    go true f k = there (stored o.serial c.node.heap) k
    go false f k = absurd (cc)

-- the names of what a node packs have its next tokens, of objects that it may name
pub names_lent : (c : Context) (to : ℕ) (values : List Placed) (packet : Packet) →
    packed_for c to values ≡ Some packet → NamedBy c.node to packet.names
names_lent c to values packet h =
    go (packed_for c to values)
    (packed_named (packer c) to (is_there c.node.heap) (owned c) c.node.next_token values) h
  where
    go : (found : Option Packet) →
        NamedIf (packer c) to (is_there c.node.heap) (owned c) c.node.next_token found →
        found ≡ Some packet → NamedBy c.node to packet.names
    go None n e = absurd (cc)
    go (Some p) n e =
        subst (λ x. NamedBy c.node to x.names) (ap (λ x. unwrap_or x p) e) n
