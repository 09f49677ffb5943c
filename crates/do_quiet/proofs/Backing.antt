-- An object is held along its lends: by the node that lends it, or by the lender that it was asked
-- for under, and so on.
use Rattle.std.proofs.Common.{◌≡◌, ◌≢◌, ◌⊎◌, ◌<◌, ◌||◌, ℕ, Bool, true, false, List, [], ◌∷◌, inl}
use Rattle.std.proofs.Common.{inr, refl, sym, ap, ◌∙◌, subst, arith}
use Rattle.std.{specs.{Prelude.All, List.list_any}, proofs.lemmas.Bool.Decides.nat_tests}
use Rattle.std.proofs.lemmas.List.Elements.{All-cons, All-head, All-nil, All-tail}
use Rattle.do_packet.specs.Met.{has_object, same_object}
use Rattle.do_machine.specs.{Objects.object_at, declared.node.{Lend.Lend, Wanted.Wanted}}
use Rattle.do_machine.{specs.lend.Asking.{same_wanted, wanted}, proofs.Bools.{or_left, or_right}}
use Rattle.do_facts.specs.{Net.{Net, total}, links.Facts.{LinksHold, asked_in, is_lent_to}}
use Rattle.do_facts.specs.links.{Facts.{lend_out, lent_in, open_in}, Links.{Atom, Gone, Links}}
use Rattle.do_facts.{specs.links.Moves.{is_in_use, stores}, proofs.links.EntriesKept.EntriesHold}
use Rattle.do_facts.proofs.links.{ReachedLinks.AllSound, SameIsEqual.wanted_is}
use Rattle.do_quiet.proofs.EndsWithin.{IsWithin}

-- a node holds a home's object
abbrev pub held_in : Net Links Atom → ℕ → ℕ → ℕ → Bool
held_in net n h s = has_object (net.part n).held (object_at h s)

-- a node lends a home's object, or asks for it
abbrev pub used_in : Net Links Atom → ℕ → ℕ → ℕ → Bool
used_in net n h s = is_in_use (net.part n) (object_at h s)

-- a node holds a home's object, or asks for it under the token of a lender of which this holds
pub data Backed (net : Net Links Atom) (h s : ℕ) : ℕ → Type 0 where
  Holds : {n : ℕ} → held_in net n h s ≡ true → Backed net h s n
  Borrows : {n : ℕ} → (l : ℕ) → (t : ℕ) → asked_in net n h s l t ≡ true → Backed net h s l →
      Backed net h s n

-- so is what each node lends or asks for
abbrev pub EachBacked : Net Links Atom → Type 0
EachBacked net = (n h s : ℕ) → used_in net n h s ≡ true → Backed net h s n

-- 1 for an ask that is refused
abbrev pub gone_of : Atom → ℕ
gone_of (Gone s k) = 1
gone_of _ = 0

-- no ask was refused
abbrev pub NoGone : Net Links Atom → Type 0
NoGone net = (a b : ℕ) → total gone_of (net.wire a b) ≡ 0

-- these ends are open on both sides
abbrev pub AllReach : (ℕ → ℕ → Bool) → Net Links Atom → Type 0
AllReach ends net =
    (a b : ℕ) → ends a b ≡ true → (open_in net a b ≡ true) × (open_in net b a ≡ true)

-- what is in use is stored, nodes are sound and within their ends, and as long as all of these are
-- open no ask was refused, and what is lent or asked for is backed
pub record StandsBacked (ends : ℕ → ℕ → Bool) (net : Net Links Atom) : Type 0 where
  pub entries : EntriesHold net
  pub sound : AllSound net
  pub within : (port : ℕ) → IsWithin (ends port) (net.part port)
  pub backed : AllReach ends net → NoGone net × EachBacked net

module _ (net after : Net Links Atom) (h s : ℕ)
    (holds : (n : ℕ) → used_in net n h s ≡ true → held_in net n h s ≡ true →
    held_in after n h s ≡ true)
    (asks : (n l t : ℕ) → asked_in net n h s l t ≡ true →
    (held_in after n h s ≡ true) ⊎ (asked_in after n h s l t ≡ true))
    (lends : (n l t : ℕ) → asked_in net n h s l t ≡ true → used_in net l h s ≡ true) where
  -- what takes no reason away keeps what is backed
  pub backed_kept : (n : ℕ) → used_in net n h s ≡ true → Backed net h s n → Backed after h s n
  backed_kept n u (Holds e) = Holds (holds n u e)
  backed_kept n u (Borrows l t e b) = go (asks n l t e) (backed_kept l (lends n l t e) b)
    where
      go : (held_in after n h s ≡ true) ⊎ (asked_in after n h s l t ≡ true) →
          Backed after h s l → Backed after h s n
      go (inl x) r = Holds x
      go (inr x) r = Borrows l t x r

-- what is backed is held by some node
pub holder : (net : Net Links Atom) (h s n : ℕ) → Backed net h s n →
    (k : ℕ) × (held_in net k h s ≡ true)
holder net h s n (Holds e) = (n, e)
holder net h s n (Borrows l t e b) = holder net h s l b

-- what holds of each element that is among some holds of all of these
pub all_in : {X : Type 0} (same : X → X → Bool) → ((x : X) → same x x ≡ true) →
    (P : X → Type 0) (xs : List X) → ((x : X) → list_any (same x) xs ≡ true → P x) → All P xs
all_in same itself P [] h = All-nil P
all_in same itself P (x ∷ xs) h =
    All-cons P x xs (h x (or_left (same x x) (list_any (same x) xs) (itself x)))
    (all_in same itself P xs (λ y e. h y (or_right (same y x) (list_any (same y) xs) e)))

-- what holds of each ask holds of one that was sent
pub passes_asked : (P : Wanted → Type 0) (w : Wanted) (ws : List Wanted) → All P ws →
    list_any (same_wanted w) ws ≡ true → P w
passes_asked P w [] all h = absurd (cc)
passes_asked P w (v ∷ ws) all h =
    go (same_wanted w v) refl (passes_asked P w ws (All-tail P v ws all)) h
  where
    go : (b : Bool) → same_wanted w v ≡ b → (list_any (same_wanted w) ws ≡ true → P w) →
        (b || list_any (same_wanted w) ws) ≡ true → P w
    go true e rest k = subst P (sym (wanted_is w v e)) (All-head P v ws all)
    go false e rest k = rest k

-- an object that is lent is in use
lent_used : (b t h s : ℕ) (ls : List Lend) → list_any (is_lent_to b t h s) ls ≡ true →
    list_any (λ l. same_object (object_at h s) l.object) ls ≡ true
lent_used b t h s [] e = e
lent_used b t h s (l ∷ ls) e = grind (arith, nat_tests, e, lent_used b t h s ls)

module _ (net : Net Links Atom) (hold : LinksHold net) where
  -- an open end is towards another node
  pub apart : (a b : ℕ) → open_in net a b ≡ true → a ≢ b
  apart a b o e = no (ap (open_in net a) e ∙ o) (hold.apart a)
    where
      no : open_in net a a ≡ true → open_in net a a ≡ false → ⊥
      no x y = cc

  -- a lend that is on its way or asked for is lent by its lender
  pub out_used : (n m h s t : ℕ) → open_in net n m ≡ true → 0 < lend_out net n m h s t →
      used_in net n h s ≡ true
  out_used n m h s t o out = go (lent_in net n t h s m) refl
    where
      go : (b : Bool) → lent_in net n t h s m ≡ b → used_in net n h s ≡ true
      go true e =
          or_left (list_any (λ l. same_object (object_at h s) l.object) (net.part n).lent)
          (list_any (λ w. same_object (object_at h s) w.object) (net.part n).asked)
          (lent_used m t h s (net.part n).lent e)
      go false e =
          absurd (omega (arith, out, (hold.lends n m h s t).known (apart n m o) o e))

module _ (ends : ℕ → ℕ → Bool) (net : Net Links Atom) (f : StandsBacked ends net)
    (reach : AllReach ends net) where
  -- an ask is of a lend, whose lender has the object in use
  pub asked_lent : (n h s l t : ℕ) → asked_in net n h s l t ≡ true → used_in net l h s ≡ true
  asked_lent n h s l t e =
      let w = wanted (object_at h s) l t in
      let lender = passes_asked (λ v. ends n v.token.lender ≡ true) w (net.part n).asked
      (f.within n).lenders e
      in
      out_used net f.entries.hold l n h s t (reach n l lender).1 (grind (arith, nat_tests, e))

  -- an object that is asked for is stored
  pub asked_stored : (n h s l t : ℕ) → asked_in net n h s l t ≡ true →
      stores (net.part h) s ≡ true
  asked_stored n h s l t e =
      let b = (f.backed reach).1 l h s (asked_lent n h s l t e) in
      let k = holder net h s l b in
      let ends_k = (f.sound k.0).reached (object_at h s) k.1 in
      (f.entries.entered h k.0 s).stored
      (reach k.0 h ((f.within k.0).reached h ends_k)).1
      (grind (arith, nat_tests, k.1, ends_k))
