-- Where nothing is on its way, nothing is lent and nothing is asked for over open ends.
use Rattle.std.proofs.Common.{◌≡◌, ◌≢◌, ◌∙◌, ℕ, Bool, true, false, List, [], ◌∷◌, refl, ap, subst}
use Rattle.std.{proofs.Common.arith, specs.{Prelude.All, List.list_any}}
use Rattle.std.proofs.lemmas.{Bool.Decides.nat_tests, List.Elements.All-head}
use Rattle.do_machine.specs.{Objects.object_at, declared.node.{Lend.Lend, Wanted.Wanted}}
use Rattle.do_machine.specs.lend.Asking.{same_wanted, wanted}
use Rattle.do_facts.specs.{Net.Net, links.Facts.{LinksHold, asked_in, is_lent_to, lent_in, open_in}}
use Rattle.do_facts.specs.links.Links.{Atom, Links}
use Rattle.do_quiet.proofs.EndsWithin.{IsWithin}

-- the first ask is among the asks
first_asked : (w : Wanted) (ws : List Wanted) →
    list_any (same_wanted (wanted (object_at w.object.node w.object.serial) w.token.lender
    w.token.number)) (w ∷ ws) ≡ true
first_asked w ws = grind (arith, nat_tests)

-- the first lend is among the lends
first_lent : (l : Lend) (ls : List Lend) →
    list_any (is_lent_to l.borrower l.number l.object.node l.object.serial) (l ∷ ls) ≡ true
first_lent l ls = grind (arith, nat_tests)

module _ (net : Net Links Atom) (ends : ℕ → ℕ → Bool) (hold : LinksHold net)
    (within : (a : ℕ) → IsWithin (ends a) (net.part a))
    (empty : (a b : ℕ) → net.wire a b ≡ [])
    (reach : (a b : ℕ) → ends a b ≡ true →
    (open_in net a b ≡ true) × (open_in net b a ≡ true)) where
  -- an open end is not one's own
  apart : (a b : ℕ) → open_in net a b ≡ true → a ≢ b
  apart a b o e = no (ap (open_in net a) e ∙ o) (hold.apart a)
    where
      no : open_in net a a ≡ true → open_in net a a ≡ false → ⊥
      no x y = cc

  -- nothing is asked for over an open end
  not_asked : (m h s l t : ℕ) → open_in net m h ≡ true → asked_in net m h s l t ≡ false
  not_asked m h s l t o =
      let d = apart m h o in
      grind (arith, nat_tests, (hold.asks m h s l t).once d o, empty m h, empty h m)

  -- nothing is lent over an end that is open on both sides
  not_lent : (n m h s t : ℕ) → open_in net n m ≡ true → open_in net m n ≡ true →
      asked_in net m h s n t ≡ false → lent_in net n t h s m ≡ false
  not_lent n m h s t o o' e =
      let d = apart n m o in
      grind (arith, nat_tests, (hold.lends n m h s t).least d o o', empty n m, empty m n, e)

  -- no part asks for anything
  asks_nothing : (a : ℕ) (ws : List Wanted) → (net.part a).asked ≡ ws → ws ≡ []
  asks_nothing a [] e = refl
  asks_nothing a (w ∷ ws) e =
      let homes = subst (All (λ v. ends a v.object.node ≡ true)) e (within a).homes in
      let o = (reach a w.object.node
      (All-head (λ v. ends a v.object.node ≡ true) w ws homes)).0 in
      let h = w.object.node in
      let s = w.object.serial in
      let l = w.token.lender in
      let t = w.token.number in
      no (ap (list_any (same_wanted (wanted (object_at h s) l t))) e ∙ first_asked w ws)
      (not_asked a h s l t o)
    where
      no : {b : Bool} → b ≡ true → b ≡ false → w ∷ ws ≡ []
      no x y = absurd (cc)

  -- so each part asks for nothing
  pub nothing_asked : (a : ℕ) → (net.part a).asked ≡ []
  nothing_asked a = asks_nothing a (net.part a).asked refl

  -- and no part lends anything
  lends_nothing : (a : ℕ) (ls : List Lend) → (net.part a).lent ≡ ls → ls ≡ []
  lends_nothing a [] e = refl
  lends_nothing a (l ∷ ls) e =
      let lent = subst (All (λ x. ends a x.borrower ≡ true)) e (within a).lent in
      let o = reach a l.borrower (All-head (λ x. ends a x.borrower ≡ true) l ls lent) in
      let h = l.object.node in
      let s = l.object.serial in
      let b = l.borrower in
      let t = l.number in
      let asks = ap (list_any (same_wanted (wanted (object_at h s) a t))) (nothing_asked b) in
      no (ap (list_any (is_lent_to b t h s)) e ∙ first_lent l ls)
      (not_lent a b h s t o.0 o.1 asks)
    where
      no : {b : Bool} → b ≡ true → b ≡ false → l ∷ ls ≡ []
      no x y = absurd (cc)

  -- so each part lends nothing
  pub nothing_lent : (a : ℕ) → (net.part a).lent ≡ []
  nothing_lent a = lends_nothing a (net.part a).lent refl
