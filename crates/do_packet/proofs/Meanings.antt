-- What the names of a message mean at its receiver.
use Rattle.std.proofs.Common.{◌≡◌, ◌==◌, ◌<◌, ℕ, zero, suc, Bool, true, false, cond, List, [], ◌∷◌}
use Rattle.std.proofs.Common.{◌++◌, Some, fold, length, refl, sym, ap, ◌∙◌, arith, append_assoc}
use Rattle.std.{proofs.Common.append-nil, specs.{List.slice_get, Option.unwrap_or}}
use Rattle.std.proofs.lemmas.Bool.{eqb-true}
use Rattle.do_base.specs.{names.Names.ObjectName, declared.values.value.Value.Value}
use Rattle.do_base.specs.declared.values.value.Value.TheVariants.{Nil, Obj}
use Rattle.do_class.specs.declared.packet.Name.{Name, TheVariants.{Lent, Mine, Yours}}
use Rattle.do_packet.specs.{Met.{has_object, place}, Packing.{Naming, class_at, name_next}}
use Rattle.do_packet.specs.{Packing.names_to, RoundTrip.{AllTrue, flag_at, meant, stays}}
use Rattle.do_packet.specs.{Seen.Sender, Unpacking.{name_value, name_values}}
use Rattle.do_packet.{specs.declared.receipt.Receipt.Receipt, proofs.Covers.{at_place, place_lt}}

module _ (s : Sender) (r : Receipt) where
  -- the name of an object, with a token if it needs one
  abbrev name_for : ℕ → ObjectName → Name
  name_for token o =
      cond (o.node == s.node) (Mine o.serial (class_at s o))
      (cond (o.node == r.to) (Yours o.serial) (Lent o (class_at s o) token))

  -- a name more
  next_name : (n : Naming) (o : ObjectName) →
      (name_next s r.to n o).names ≡ n.names ++ name_for n.token o ∷ []
  next_name n o = go (o.node == s.node) (o.node == r.to)
    where
      go : (a b : Bool) →
          (cond a (record n { names = n.names ++ Mine o.serial (class_at s o) ∷ [] })
          (cond b (record n { names = n.names ++ Yours o.serial ∷ [] })
          (record {
            names = n.names ++ Lent o (class_at s o) n.token ∷ [];
            token = suc n.token;
          }))).names
          ≡ n.names ++ cond a (Mine o.serial (class_at s o))
          (cond b (Yours o.serial) (Lent o (class_at s o) n.token)) ∷ []
      go true b = refl
      go false true = refl
      go false false = refl

  -- the names of objects from a token on, from the first
  names_from : ℕ → List ObjectName → List Name
  names_from token [] = []
  names_from token (o ∷ os) =
      name_for token o
      ∷ names_from (name_next s r.to (record { names = []; token = token }) o).token os

  -- the next token does not depend on the names so far
  next_token : (n : Naming) (o : ObjectName) →
      (name_next s r.to n o).token
      ≡ (name_next s r.to (record { names = []; token = n.token }) o).token
  next_token n o = go (o.node == s.node) (o.node == r.to)
    where
      go : (a b : Bool) →
          (cond a (record n { names = n.names ++ Mine o.serial (class_at s o) ∷ [] })
          (cond b (record n { names = n.names ++ Yours o.serial ∷ [] })
          (record {
            names = n.names ++ Lent o (class_at s o) n.token ∷ [];
            token = suc n.token;
          }))).token
          ≡ (cond {A = Naming} a
          (record { names = Mine o.serial (class_at s o) ∷ []; token = n.token })
          (cond b (record { names = Yours o.serial ∷ []; token = n.token })
          (record {
            names = Lent o (class_at s o) n.token ∷ [];
            token = suc n.token;
          }))).token
      go true b = refl
      go false true = refl
      go false false = refl

  -- names behind those so far
  names_are_from : (os : List ObjectName) (n : Naming) →
      (fold (name_next s r.to) n os).names ≡ n.names ++ names_from n.token os
  unfolding names_from
  names_are_from [] n = sym (append-nil n.names)
  names_are_from (o ∷ os) n =
      names_are_from os (name_next s r.to n o)
      ∙ ap (λ l. l ++ names_from (name_next s r.to n o).token os) (next_name n o)
      ∙ append_assoc n.names (name_for n.token o ∷ [])
      (names_from (name_next s r.to n o).token os)
      ∙ ap (λ t. n.names ++ name_for n.token o ∷ names_from t os) (next_token n o)

  -- what a name means, by what the receiver has for it
  abbrev means_by : ObjectName → Bool → Bool → Value
  means_by o entry open_home = cond (stays s r o entry open_home) (Obj o) Nil

  module _ (home : r.from ≡ s.node) where
    -- the value of a name is what its object means
    one_means : (token : ℕ) (o : ObjectName) (entry open_home : Bool) →
        name_value r (name_for token o) entry open_home ≡ means_by o entry open_home
    one_means token o entry open_home = go (o.node == s.node) (o.node == r.to) refl refl
      where
        is : (k : ℕ) → k ≡ o.node → Obj (record { node = k; serial = o.serial }) ≡ Obj o
        is k e = ap (λ n. Obj (record { node = n; serial = o.serial })) e

        go : (a b : Bool) → (o.node == s.node) ≡ a → (o.node == r.to) ≡ b →
            name_value r (cond a (Mine o.serial (class_at s o))
            (cond b (Yours o.serial) (Lent o (class_at s o) token))) entry open_home
            ≡ cond (cond a true (cond b entry open_home)) (Obj o) Nil
        go true b e f = is r.from (home ∙ sym (eqb-true o.node s.node e))
        go false true e f =
            ap (λ v. cond entry v Nil) (is r.to (sym (eqb-true o.node r.to f)))
        go false false e f = refl

    -- the value of each name is what its object means
    each_means : (token : ℕ) (os : List ObjectName) (es hs : List Bool) →
        length es ≡ length os → length hs ≡ length os → (k : ℕ) (o : ObjectName) →
        slice_get os k ≡ Some o →
        unwrap_or (slice_get (name_values r (names_from token os) es hs) k) Nil
        ≡ means_by o (flag_at es k) (flag_at hs k)
    unfolding names_from
    each_means token [] es hs le lh k o e = absurd (cc)
    each_means token (x ∷ os) [] hs le lh k o e = absurd (omega arith)
    each_means token (x ∷ os) (a ∷ es) [] le lh k o e = absurd (omega arith)
    each_means token (x ∷ os) (a ∷ es) (b ∷ hs) le lh zero o e =
        let h : x ≡ o = cc in
        one_means token x a b ∙ ap (λ y. means_by y a b) h
    each_means token (x ∷ os) (a ∷ es) (b ∷ hs) le lh (suc k) o e =
        each_means (name_next s r.to (record { names = []; token = token }) x).token os es hs
        (omega arith) (omega arith) k o e

    -- how many names there are
    length_from : (token : ℕ) (os : List ObjectName) → length (names_from token os) ≡ length os
    unfolding names_from
    length_from token [] = refl
    length_from token (o ∷ os) =
        ap suc
        (length_from (name_next s r.to (record { names = []; token = token }) o).token os)

    -- the names of a message are as many as its named objects
    pub names_count : (token : ℕ) (os : List ObjectName) →
        length (names_to s r.to token os) ≡ length os
    names_count token os =
        ap length (names_are_from os (record { names = []; token = token }))
        ∙ length_from token os

    -- what stands for a name is what its object means
    pub names_mean : (token : ℕ) (os : List ObjectName) (es hs : List Bool) →
        length es ≡ length (names_to s r.to token os) →
        length hs ≡ length (names_to s r.to token os) → (o : ObjectName) →
        has_object os o ≡ true →
        unwrap_or (slice_get (name_values r (names_to s r.to token os) es hs) (place os o)) Nil
        ≡ meant s r os es hs o
    names_mean token os es hs le lh o h =
        ap (λ ns. unwrap_or (slice_get (name_values r ns es hs) (place os o)) Nil)
        (names_are_from os (record { names = []; token = token }))
        ∙ each_means token os es hs (le ∙ names_count token os) (lh ∙ names_count token os)
        (place os o) o (at_place os o h)

  -- a flag of those that are all true is true
  flag_true : (fs : List Bool) (k : ℕ) → AllTrue fs → k < length fs → flag_at fs k ≡ true
  flag_true [] k t h = absurd (omega arith)
  flag_true (f ∷ fs) zero t h = t.0
  flag_true (f ∷ fs) (suc k) t h = flag_true fs k t.1 (omega arith)

  -- where all flags are true, an object means itself
  both_true : (o : ObjectName) → means_by o true true ≡ Obj o
  both_true o = go (o.node == s.node) (o.node == r.to)
    where
      go : (a b : Bool) → cond (cond a true (cond b true true)) (Obj o) Nil ≡ Obj o
      go true b = refl
      go false true = refl
      go false false = refl

  -- where all flags are true, each named object means itself
  pub true_means : r.from ≡ s.node → (token : ℕ) (os : List ObjectName) (es hs : List Bool) →
      length es ≡ length (names_to s r.to token os) →
      length hs ≡ length (names_to s r.to token os) → AllTrue es → AllTrue hs →
      (o : ObjectName) → has_object os o ≡ true → meant s r os es hs o ≡ Obj o
  true_means home token os es hs le lh te th o h =
      let count = names_count home token os in
      let at = place_lt os o h in
      ap (λ b. means_by o b (flag_at hs (place os o)))
      (flag_true es (place os o) te (omega (arith, le, count)))
      ∙ ap (means_by o true) (flag_true hs (place os o) th (omega (arith, lh, count)))
      ∙ both_true o
