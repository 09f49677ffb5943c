-- The names of a message name its objects.
use Rattle.std.proofs.Common.{◌≡◌, ◌==◌, ℕ, Bool, true, false, cond, List, [], ◌∷◌, ◌++◌, map, fold}
use Rattle.std.proofs.{Common.{refl, sym, ap, ◌∙◌, append_assoc, append-nil}, lemmas.Bool.eqb-true}
use Rattle.std.proofs.lemmas.List.{map-append}
use Rattle.do_base.specs.names.Names.{ObjectName}
use Rattle.do_class.specs.declared.packet.Name.{Name, TheVariants.{Lent, Mine, Yours}}
use Rattle.do_packet.specs.{Naming.object_named, Packing.{Naming, class_at, name_next, names_to}}
use Rattle.do_packet.specs.Seen.{Sender}

module _ (s : Sender) (to : ℕ) where
  -- the objects that names name
  abbrev named_by : List Name → List ObjectName
  named_by names = map (object_named s.node to) names

  -- one more name, which names an object
  one_more : (names : List Name) (name : Name) (o : ObjectName) →
      object_named s.node to name ≡ o → named_by (names ++ name ∷ []) ≡ named_by names ++ o ∷ []
  one_more names name o h =
      map-append (object_named s.node to) names (name ∷ [])
      ∙ ap (λ x. named_by names ++ x ∷ []) h

  -- the name of an object names it
  next_names : (n : Naming) (o : ObjectName) →
      named_by (name_next s to n o).names ≡ named_by n.names ++ o ∷ []
  next_names n o = go (o.node == s.node) refl
    where
      foreign : (b : Bool) → (o.node == to) ≡ b →
          named_by (cond b
          (record n { names = n.names ++ Yours o.serial ∷ [] })
          (record {
            names = n.names ++ Lent o (class_at s o) n.token ∷ [];
            token = Rattle.std.proofs.Common.suc n.token;
          })).names
          ≡ named_by n.names ++ o ∷ []
      foreign true e =
          one_more n.names (Yours o.serial) o
          (ap (λ p. record { node = p; serial = o.serial }) (sym (eqb-true o.node to e)))
      foreign false e = one_more n.names (Lent o (class_at s o) n.token) o refl

      go : (b : Bool) → (o.node == s.node) ≡ b →
          named_by (cond b
          (record n { names = n.names ++ Mine o.serial (class_at s o) ∷ [] })
          (cond (o.node == to)
          (record n { names = n.names ++ Yours o.serial ∷ [] })
          (record {
            names = n.names ++ Lent o (class_at s o) n.token ∷ [];
            token = Rattle.std.proofs.Common.suc n.token;
          }))).names
          ≡ named_by n.names ++ o ∷ []
      go true e =
          one_more n.names (Mine o.serial (class_at s o)) o
          (ap (λ p. record { node = p; serial = o.serial }) (sym (eqb-true o.node s.node e)))
      go false e = foreign (o.node == to) refl

  -- names behind those so far name the objects behind
  names_behind : (os : List ObjectName) (n : Naming) →
      named_by (fold (name_next s to) n os).names ≡ named_by n.names ++ os
  names_behind [] n = sym (append-nil (named_by n.names))
  names_behind (o ∷ os) n =
      names_behind os (name_next s to n o)
      ∙ ap (λ l. l ++ os) (next_names n o)
      ∙ append_assoc (named_by n.names) (o ∷ []) os

  -- the names of objects name them
  pub names_are : (token : ℕ) (os : List ObjectName) → named_by (names_to s to token os) ≡ os
  names_are token os = names_behind os (record { names = []; token = token })
