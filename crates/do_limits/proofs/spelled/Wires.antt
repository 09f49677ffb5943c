-- What holds of each atom on its way, once a node moved or a loss came.
use Rattle.std.proofs.Common.{◌≡◌, ◌==◌, ◌++◌, ℕ, Bool, true, false, cond, List, [], ◌∷◌, drop}
use Rattle.std.{proofs.Common.{length, refl, subst, sym}, specs.List.{AllByRecursion, flat_map}}
use Rattle.std.proofs.lemmas.Bool.{eqb-true}
use Rattle.do_machine.specs.declared.item.Item.{Item}
use Rattle.do_facts.specs.{Moves.with_wire, Net.{Note, atoms_of, wires_after}}
use Rattle.do_facts.proofs.EachOfLists.{each_former, each_joined, each_latter}
use Rattle.do_limits.proofs.Lists.{each_dropped}

module _ {A : Type 0} (Q : ℕ → ℕ → A → Type 0) where
  -- it holds of each atom on each wire
  abbrev pub OnWires : (ℕ → ℕ → List A) → Type 0
  OnWires wire = (x y : ℕ) → AllByRecursion (Q x y) (wire x y)

  -- of notes from a node
  abbrev pub OfNotes : ℕ → List (Note A) → Type 0
  OfNotes a notes = AllByRecursion (λ (k : Note A). Q a k.peer k.atom) notes

  -- those that go to a peer
  noted_to : (a y : ℕ) (notes : List (Note A)) → OfNotes a notes →
      AllByRecursion (Q a y) (atoms_of y notes)
  noted_to a y [] h = tt
  noted_to a y (k ∷ notes) h = go (k.peer == y) refl (noted_to a y notes h.1)
    where
      go : (b : Bool) → (k.peer == y) ≡ b → AllByRecursion (Q a y) (atoms_of y notes) →
          AllByRecursion (Q a y) (cond b (k.atom ∷ atoms_of y notes) (atoms_of y notes))
      go true e rest = (subst (λ z. Q a z k.atom) (eqb-true k.peer y e) h.0, rest)
      go false e rest = rest

  -- once a node took and posted notes
  pub wires_kept : (a : ℕ) (taken sent : List (Note A)) (wire : ℕ → ℕ → List A) → OnWires wire →
      OfNotes a sent → OnWires (wires_after a taken sent wire)
  wires_kept a taken sent wire all posted x y = go (x == a) refl (y == a)
    where
      go : (b : Bool) → (x == a) ≡ b → (c : Bool) → AllByRecursion (Q x y)
          (cond b (wire x y ++ atoms_of y sent)
          (cond c (drop (length (atoms_of x taken)) (wire x y)) (wire x y)))
      go true e c =
          each_joined (Q x y) (wire x y) (atoms_of y sent) (all x y)
          (subst (λ z. AllByRecursion (Q z y) (atoms_of y sent)) (sym (eqb-true x a e))
          (noted_to a y sent posted))
      go false e true = each_dropped (Q x y) (length (atoms_of x taken)) (wire x y) (all x y)
      go false e false = all x y

  -- once a loss came between what is on a wire
  pub lost_kept : (from to : ℕ) (first loss rest : List A) (wire : ℕ → ℕ → List A) →
      wire from to ≡ first ++ rest → AllByRecursion (Q from to) loss → OnWires wire →
      OnWires (with_wire from to (first ++ (loss ++ rest)) wire)
  lost_kept from to first loss rest wire e lost all x y = go (x == from) refl (y == to) refl
    where
      together : AllByRecursion (Q from to) (first ++ (loss ++ rest))
      together =
          let both = subst (AllByRecursion (Q from to)) e (all from to) in
          each_joined (Q from to) first (loss ++ rest) (each_former (Q from to) first rest both)
          (each_joined (Q from to) loss rest lost (each_latter (Q from to) first rest both))

      go : (b : Bool) → (x == from) ≡ b → (c : Bool) → (y == to) ≡ c → AllByRecursion (Q x y)
          (cond b (cond c (first ++ (loss ++ rest)) (wire x y)) (wire x y))
      go true f true g =
          subst (λ z. AllByRecursion (Q z y) (first ++ (loss ++ rest))) (sym (eqb-true x from f))
          (subst (λ z. AllByRecursion (Q from z) (first ++ (loss ++ rest)))
          (sym (eqb-true y to g)) together)
      go true f false g = all x y
      go false f c g = all x y

-- of the atoms of items
pub of_items : {A : Type 0} (P : A → Type 0) (atoms : Item → List A) (waiting : List Item) →
    AllByRecursion P (flat_map atoms waiting) →
    AllByRecursion (λ item. AllByRecursion P (atoms item)) waiting
of_items P atoms [] h = tt
of_items P atoms (item ∷ waiting) h = (
  each_former P (atoms item) (flat_map atoms waiting) h,
  of_items P atoms waiting (each_latter P (atoms item) (flat_map atoms waiting) h),
)
