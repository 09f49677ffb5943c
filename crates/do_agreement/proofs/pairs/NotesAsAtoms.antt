-- Sums of what is under way, as sums of the atoms of its items.
use Rattle.do_machine.specs.declared.item.Item.TheVariants as items
use Rattle.do_facts.specs.Net as nets
use Rattle.do_facts.specs.links.Links as Atoms
use Rattle.std.proofs.Common.{◌≡◌, ◌==◌, ◌++◌, ◌+◌, ℕ, Bool, true, false, cond, List, [], ◌∷◌, map}
use Rattle.std.{proofs.Common.{filter, refl, sym, ap, ◌∙◌, arith}, specs.List.flat_map}
use Rattle.std.proofs.lemmas.Bool.{eqb-true, Decides.nat_tests}
use Rattle.do_base.specs.names.Names.{ObjectName}
use Rattle.do_class.specs.declared.packet.Name.{Name, TheVariants.{Lent, Mine, Yours}}
use Rattle.do_export.specs.Counts.{Counts}
use Rattle.do_machine.specs.declared.{item.Item.Item, node.Node.Node, state.Parcel.Parcel}
use Rattle.do_machine.specs.declared.state.State.{State}
use Rattle.do_network.specs.fits.Notes.{Note, once, total}
use Rattle.do_facts.specs.{Net.{atoms_of, noted}, View.{View, net_of, posted, wire_seen}}
use Rattle.do_facts.specs.links.Links.{Atom, atoms, links, name_atoms}
use Rattle.do_facts.proofs.Notes.{atoms_behind, atoms_noted, none_noted, total-append}
use Rattle.do_agreement.specs.{NotesSent.{note_sent, notes_to}, StandBetween.StandBetween}

-- a number is another, the other way
pub one_alike : (a x : ℕ) → once (x == a) ≡ cond (a == x) 1 0 + 0
one_alike a x = grind (arith, nat_tests)

-- the items of what is under way
abbrev pub items_of : List Note → List Item
items_of xs = map (λ x. x.item) xs

-- what is summed behind what stands there
pub total_behind : (f : Note → ℕ) (xs ys : List Note) →
    total f (xs ++ ys) ≡ total f xs + total f ys
total_behind f [] ys = omega arith
total_behind f (x ∷ xs) ys = omega (arith, total_behind f xs ys)

-- what is summed note by note is summed atom by atom
pub summed : {A : Type 0} (view : Item → List A) (f : Note → ℕ) (g : A → ℕ) →
    ((x : Note) → f x ≡ nets.total g (view x.item)) → (xs : List Note) →
    total f xs ≡ nets.total g (flat_map view (items_of xs))
summed view f g alike [] = refl
summed view f g alike (x ∷ xs) =
    ap (λ k. k + total f xs) (alike x)
    ∙ ap (λ k. nets.total g (view x.item) + k) (summed view f g alike xs)
    ∙ sym (total-append g (view x.item) (flat_map view (items_of xs)))

module _ {P A : Type 0} (view : View P A) {S : State} {n m : Node} {there back : List Note}
    (stand : StandBetween S n m there back) (f : Note → ℕ) (g : A → ℕ)
    (alike : (x : Note) → f x ≡ nets.total g (view.atoms x.item)) where
  -- what is under way from a node to another
  pub there_sum : total f there ≡ nets.total g ((net_of view S).wire n.port m.port)
  there_sum =
      summed view.atoms f g alike there
      ∙ ap (λ w. nets.total g (wire_seen view w)) (sym stand.goes)

  -- what is under way back
  pub back_sum : total f back ≡ nets.total g ((net_of view S).wire m.port n.port)
  back_sum =
      summed view.atoms f g alike back
      ∙ ap (λ w. nets.total g (wire_seen view w)) (sym stand.comes)

-- what counts no name
pub record CountsNoName (g : Atom → ℕ) : Type 0 where
  pub mine : (serial : ℕ) → g (Atoms.Mine serial) ≡ 0
  pub yours : (serial : ℕ) → g (Atoms.Yours serial) ≡ 0
  pub lent : (o : ObjectName) (token : ℕ) → g (Atoms.Lent o token) ≡ 0

-- so it counts nothing of a packet
none_named : (g : Atom → ℕ) → CountsNoName g → (xs : List Name) →
    0 ≡ nets.total g (flat_map name_atoms xs)
none_named g none [] = refl
none_named g none (Mine s class ∷ xs) = omega (arith, none.mine s, none_named g none xs)
none_named g none (Yours s ∷ xs) = omega (arith, none.yours s, none_named g none xs)
none_named g none (Lent o class t ∷ xs) = omega (arith, none.lent o t, none_named g none xs)

-- the atoms of an item, of one with a message or a packet none
abbrev pub own_atoms : Item → List Atom
own_atoms (items.Call k m) = []
own_atoms (items.Oneway m) = []
own_atoms (items.Reply k p) = []
own_atoms (items.RootAnswer k p) = []
own_atoms item = atoms item

-- where no name counts, these alone do
pub own_alone : (g : Atom → ℕ) → CountsNoName g → (item : Item) →
    nets.total g (own_atoms item) ≡ nets.total g (atoms item)
own_alone g none (items.Call k m) =
    omega (arith, none.yours m.target, none_named g none m.packet.names)
own_alone g none (items.Oneway m) =
    omega (arith, none.yours m.target, none_named g none m.packet.names)
own_alone g none (items.Reply k p) = none_named g none p.names
own_alone g none (items.RootAnswer k p) = none_named g none p.names
own_alone g none _ = refl

-- of what is posted to a peer, one parcel and the rest
pub posted_total : (g : Atom → ℕ) (peer : ℕ) (x : Parcel) (xs : List Parcel) →
    nets.total g (atoms_of peer (posted links (x ∷ xs)))
    ≡ cond (x.to == peer) (nets.total g (atoms x.item)) 0
    + nets.total g (atoms_of peer (posted links xs))
posted_total g peer x xs =
    ap (nets.total g) (atoms_behind peer (noted x.to (atoms x.item)) (posted links xs))
    ∙ total-append g (atoms_of peer (noted x.to (atoms x.item))) (atoms_of peer (posted links xs))
    ∙ ap (λ k. k + nets.total g (atoms_of peer (posted links xs))) (first (x.to == peer) refl)
  where
    first : (b : Bool) → (x.to == peer) ≡ b →
        nets.total g (atoms_of peer (noted x.to (atoms x.item)))
        ≡ cond b (nets.total g (atoms x.item)) 0
    first true e =
        ap (λ k. nets.total g (atoms_of k (noted x.to (atoms x.item)))) (sym (eqb-true x.to peer e))
        ∙ ap (nets.total g) (atoms_noted x.to (atoms x.item))
    first false e = ap (nets.total g) (none_noted x.to peer (atoms x.item) e)

-- what is summed note by note of what is sent to a peer is summed atom by atom
pub sent_total : (f : Note → ℕ) (g : Atom → ℕ) (received : Counts) (peer : ℕ) →
    ((x : Parcel) → x.to ≡ peer → f (note_sent received x) ≡ nets.total g (atoms x.item)) →
    (sent : List Parcel) →
    total f (notes_to received peer sent) ≡ nets.total g (atoms_of peer (posted links sent))
sent_total f g received peer alike [] = refl
sent_total f g received peer alike (x ∷ xs) =
    go (x.to == peer) refl (sent_total f g received peer alike xs)
    ∙ sym (posted_total g peer x xs)
  where
    go : (b : Bool) → (x.to == peer) ≡ b →
        total f (notes_to received peer xs) ≡ nets.total g (atoms_of peer (posted links xs)) →
        total f (map (note_sent received) (cond b (x ∷ filter (λ y. y.to == peer) xs)
        (filter (λ y. y.to == peer) xs)))
        ≡ cond b (nets.total g (atoms x.item)) 0 + nets.total g (atoms_of peer (posted links xs))
    go true e rest = omega (arith, alike x (eqb-true x.to peer e), rest)
    go false e rest = omega (arith, rest)
