-- How many bytes a value takes in a packet, by what it weighs.
use Rattle.do_class.specs.declared.packet.Part.TheVariants as part
use Rattle.std.proofs.Common.{◌≡◌, ℕ, ℤ, ◌+◌, ◌*◌, ◌≤◌, Bool, cond, List as Listed, [], ◌∷◌, ◌++◌}
use Rattle.std.proofs.Common.{ap, arith, filter, length, length-append, map, rules, sum_by}
use Rattle.std.{specs.List.{AllByRecursion, flat_map}, proofs.lemmas.List.Sums.sum_by-cons}
use Rattle.do_base.specs.{names.Names.ObjectName, values.Induction.value_induction}
use Rattle.do_base.specs.{values.Values.weight_of, declared.values.value.Value.{List, Value}}
use Rattle.do_base.specs.declared.values.value.Value.{the_lemmas, TheVariants.{Nil, Num, Obj, Text}}
use Rattle.do_class.specs.declared.packet.Part.{Part, List as Parts, the_lemmas as part_lemmas}
use Rattle.do_grammar.specs.Num.{counted, num, zigzag}
use Rattle.do_coder.specs.Parts.{part_spelling}
use Rattle.do_packet.specs.{Copies.{Placed, named_at}, Met.{is_named, named_in, place, role_of}}
use Rattle.do_packet.specs.{Packing.part_at, Parts.{object_part, part_of}, Seen.{Seen, Sender}}
use Rattle.do_packet.specs.declared.role.Role.{Role, TheVariants.{Absent, Copied, Named}}
use Rattle.do_packet.proofs.Keeping.{weight_of-List, weight_of-Obj}
use Rattle.do_packet.proofs.Values.{named_in-List, objects_of-Nil, objects_of-Num, objects_of-Obj}
use Rattle.do_packet.proofs.Values.{objects_of-Text, part_of-List, part_of-Nil, part_of-Num}
use Rattle.do_packet.proofs.Values.{part_of-Obj, part_of-Text}
use Rattle.do_lengths.proofs.Numbers.{num_short}

-- ---- one level of a value

-- nil is one byte
spelled-Nil : part_spelling part.Nil ≡ 0 ∷ []
spelled-Nil = search (rules, part_lemmas)

-- a number stands behind one byte
spelled-Num : (z : ℤ) → part_spelling (part.Num z) ≡ 1 ∷ num (zigzag z)
spelled-Num z = search (rules, part_lemmas)

-- so does a text with its length
spelled-Text : (t : Listed ℕ) → part_spelling (part.Text t) ≡ 2 ∷ counted t
spelled-Text t = search (rules, part_lemmas)

-- so does the place of a copy
spelled-Copy : (k : ℕ) → part_spelling (part.Copy k) ≡ 3 ∷ num k
spelled-Copy k = search (rules, part_lemmas)

-- so does the place of a name
spelled-Named : (k : ℕ) → part_spelling (part.Named k) ≡ 4 ∷ num k
spelled-Named k = search (rules, part_lemmas)

-- a list is the number of its items, and these
spelled-List : (ps : Listed Part) →
    part_spelling (Parts ps)
    ≡ 5 ∷ num (length (map part_spelling ps)) ++ flat_map (λ t. t) (map part_spelling ps)
spelled-List ps = search (rules, part_lemmas)

-- nil weighs 1
weight_of-Nil : weight_of Nil ≡ 1
weight_of-Nil = search (rules, the_lemmas)

-- a number weighs 16
weight_of-Num : (z : ℤ) → weight_of (Num z) ≡ 16
weight_of-Num z = search (rules, the_lemmas)

-- a text weighs 16 and its length
weight_of-Text : (t : Listed ℕ) → weight_of (Text t) ≡ 16 + length t
weight_of-Text t = search (rules, the_lemmas)

-- each value weighs something
pub weighs_some : (v : Value) → 1 ≤ weight_of v
weighs_some =
    value_induction (λ v. 1 ≤ weight_of v)
    (omega (arith, weight_of-Nil))
    (λ z. omega (arith, weight_of-Num z))
    (λ t. omega (arith, weight_of-Text t))
    (λ o. omega (arith, weight_of-Obj o))
    (λ vs h. omega (arith, weight_of-List vs))

-- ---- whole values

module _ (seen : Seen) (from : ℕ) (copy : Bool) (copies names : Listed ObjectName) where
  -- the part of a value
  abbrev part_for : Value → Part
  part_for = part_of seen from copy copies names

  -- an object is named here
  abbrev is_name : ObjectName → Bool
  is_name o = is_named (role_of seen from copy o)

  -- a value takes no more bytes than it weighs, with 37 for each object in it that is named
  abbrev Fits : Value → Type 0
  Fits v = length (part_spelling (part_for v)) + 37 * length (named_in seen from copy v)
      ≤ weight_of v

  -- an object does, whatever becomes of it
  object_fits : (o : ObjectName) (r : Role) →
      length (part_spelling (object_part r copies names o))
      + 37 * length (cond (is_named r) (o ∷ []) []) ≤ 48
  object_fits o Copied =
      omega (arith, ap length (spelled-Copy (place copies o)), num_short (place copies o))
  object_fits o Named =
      omega (arith, ap length (spelled-Named (place names o)), num_short (place names o))
  object_fits o Absent = omega (arith, ap length spelled-Nil)

  -- the items of a list do together
  each_fits : (vs : Listed Value) → AllByRecursion Fits vs →
      length (flat_map (λ t. t) (map part_spelling (map part_for vs)))
      + 37 * length (flat_map (named_in seen from copy) vs) ≤ sum_by weight_of vs
  each_fits [] h = omega arith
  each_fits (v ∷ vs) h =
      omega (
        arith,
        h.0,
        each_fits vs h.1,
        sum_by-cons weight_of v vs,
        length-append (part_spelling (part_for v))
            (flat_map (λ t. t) (map part_spelling (map part_for vs))),
        length-append (named_in seen from copy v) (flat_map (named_in seen from copy) vs),
      )

  -- nil does
  nil_fits : Fits Nil
  nil_fits =
      omega (
        arith,
        ap (λ p. length (part_spelling p)) (part_of-Nil seen from copy copies names),
        ap length spelled-Nil,
        ap (λ os. length (filter is_name os)) objects_of-Nil,
        weight_of-Nil,
      )

  -- a number does
  num_fits : (z : ℤ) → Fits (Num z)
  num_fits z =
      omega (
        arith,
        ap (λ p. length (part_spelling p)) (part_of-Num seen from copy copies names z),
        ap length (spelled-Num z),
        num_short (zigzag z),
        ap (λ os. length (filter is_name os)) (objects_of-Num z),
        weight_of-Num z,
      )

  -- a text does
  text_fits : (t : Listed ℕ) → Fits (Text t)
  text_fits t =
      omega (
        arith,
        ap (λ p. length (part_spelling p)) (part_of-Text seen from copy copies names t),
        ap length (spelled-Text t),
        length-append (num (length t)) t,
        num_short (length t),
        ap (λ os. length (filter is_name os)) (objects_of-Text t),
        weight_of-Text t,
      )

  -- an object does
  obj_fits : (o : ObjectName) → Fits (Obj o)
  obj_fits o =
      omega (
        arith,
        ap (λ p. length (part_spelling p)) (part_of-Obj seen from copy copies names o),
        ap (λ os. length (filter is_name os)) (objects_of-Obj o),
        object_fits o (role_of seen from copy o),
        weight_of-Obj o,
      )

  -- a list does
  list_fits : (vs : Listed Value) → AllByRecursion Fits vs → Fits (List vs)
  list_fits vs h =
      let texts = map part_spelling (map part_for vs) in
      omega (
        arith,
        ap (λ p. length (part_spelling p)) (part_of-List seen from copy copies names vs),
        ap length (spelled-List (map part_for vs)),
        length-append (num (length texts)) (flat_map (λ t. t) texts),
        num_short (length texts),
        each_fits vs h,
        ap length (named_in-List seen from copy vs),
        weight_of-List vs,
      )

  -- so does each
  pub fits : (v : Value) → Fits v
  fits = value_induction Fits nil_fits num_fits text_fits obj_fits list_fits

module _ (s : Sender) (copies names : Listed ObjectName) where
  -- the values at places do together
  pub places_fit : (ps : Listed Placed) →
      length (flat_map part_spelling (map (part_at s copies names) ps))
      + 37 * length (flat_map (named_at s) ps) ≤ sum_by (λ p. weight_of p.1) ps
  places_fit [] = omega arith
  places_fit (p ∷ ps) =
      omega (
        arith,
        fits s.seen s.node p.0 copies names p.1,
        places_fit ps,
        sum_by-cons (λ (q : Placed). weight_of q.1) p ps,
        length-append (part_spelling (part_at s copies names p))
            (flat_map part_spelling (map (part_at s copies names) ps)),
        length-append (named_at s p) (flat_map (named_at s) ps),
      )

-- there are no more places than their values weigh
pub places_count : (ps : Listed Placed) → length ps ≤ sum_by (λ p. weight_of p.1) ps
places_count [] = omega arith
places_count (p ∷ ps) =
    omega (
      arith,
      weighs_some p.1,
      places_count ps,
      sum_by-cons (λ (q : Placed). weight_of q.1) p ps,
    )
