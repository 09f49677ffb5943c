-- What rounds of growing find.
use Rattle.std.proofs.Common.{◌≡◌, ℕ, zero, suc, ◌+◌, ◌≤◌, ◌<◌, ◌==◌, Bool, true, false, List, []}
use Rattle.std.proofs.Common.{◌++◌, length, refl, sym, ap, ◌∙◌, subst, arith, ◌⊎◌, inl, inr}
use Rattle.std.{proofs.Common.append_assoc, specs.List.flat_map}
use Rattle.std.proofs.lemmas.Grind.{common_steps, fold-append, flat_map-append}
use Rattle.do_base.specs.names.Names.{ObjectName}
use Rattle.do_packet.specs.{Met.{met, met_one}, Copies.{Placed, contents, copied_at, grown, rounds}}
use Rattle.do_packet.specs.{Copies.slots_at, Seen.Sender, walk.Walking.IsPrefix}
use Rattle.do_packet.proofs.Prefixes.{prefix_length, prefix_long, prefix_met}

module _ (f : Placed → List ObjectName) (s : Sender) (values : List Placed) where
  -- the objects of a message with these copies
  abbrev found : List ObjectName → List ObjectName
  found copies = met [] (flat_map f (contents s values copies))

  -- the objects of a message with more copies are met after those of one with fewer
  pub met-contents : (L r : List ObjectName) →
      found (L ++ r) ≡ met (found L) (flat_map f (flat_map (slots_at s) r))
  met-contents L r =
      ap (λ l. met [] (flat_map f (values ++ l))) (flat_map-append (slots_at s) L r)
      ∙ ap (λ l. met [] (flat_map f l))
      (sym (append_assoc values (flat_map (slots_at s) L) (flat_map (slots_at s) r)))
      ∙ ap (met [])
      (flat_map-append f (values ++ flat_map (slots_at s) L) (flat_map (slots_at s) r))
      ∙ fold-append met_one [] (flat_map f (contents s values L))
      (flat_map f (flat_map (slots_at s) r))

module _ (s : Sender) (values : List Placed) where
  -- the copies of a message with these copies
  abbrev grows : List ObjectName → List ObjectName
  grows = grown s values

  -- more copies bring more copies behind the same ones
  pub grown_prefix : (L M : List ObjectName) → IsPrefix L M → IsPrefix (grows L) (grows M)
  grown_prefix L M p =
      let e = ap grows p.1 ∙ met-contents (copied_at s) s values L p.0 in
      let q = prefix_met (grows L) (flat_map (copied_at s) (flat_map (slots_at s) p.0)) in
      (q.0, e ∙ q.1)

  -- the list, or what further rounds make of a grown one
  abbrev chosen : ℕ → List ObjectName → Bool → List ObjectName
  chosen n L b = elim b [ true ↦ L | false ↦ rounds n grows (grows L) ]

  -- a list that is its own list of copies begins with what any number of rounds finds
  pub rounds_least : (other : List ObjectName) → grows other ≡ other →
      (n : ℕ) (L : List ObjectName) → IsPrefix L other → IsPrefix (rounds n grows L) other
  unfolding rounds
  rounds_least other e zero L p = p
  rounds_least other e (suc n) L p =
      let q : IsPrefix (grows L) other =
      subst (λ (l : List ObjectName). IsPrefix (grows L) l) e (grown_prefix L other p) in
      go (length (grows L) == length L) (rounds_least other e n (grows L) q)
    where
      go : (b : Bool) → IsPrefix (rounds n grows (grows L)) other →
          IsPrefix (chosen n L b) other
      go true h = p
      go false h = h

  -- a list that rounds leave as it is, or one with as many more as there were rounds
  abbrev pub Decided : ℕ → List ObjectName → List ObjectName → Type 0
  Decided n L R = (grows R ≡ R) ⊎ (n + length L ≤ length R)

  -- rounds find all, or one more in each
  pub rounds_decide : (n : ℕ) (L : List ObjectName) → IsPrefix L (grows L) →
      Decided n L (rounds n grows L)
  unfolding rounds
  rounds_decide zero L p = inr (omega arith)
  rounds_decide (suc n) L p =
      go (length (grows L) == length L) refl
      (rounds_decide n (grows L) (grown_prefix L (grows L) p))
    where
      go : (b : Bool) → (length (grows L) == length L) ≡ b →
          Decided n (grows L) (rounds n grows (grows L)) →
          Decided (suc n) L (chosen n L b)
      go true e h = inl (prefix_long L (grows L) p (grind (arith, common_steps)))
      go false e (inl h) = inl h
      go false e (inr h) =
          let k : length L < length (grows L) =
          grind (arith, common_steps, prefix_length L (grows L) p) in inr (omega arith)
