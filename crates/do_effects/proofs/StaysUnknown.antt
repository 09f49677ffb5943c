-- What does not become known by names of a peer.
use Rattle.std.proofs.Common.{◌≡◌, ◌||◌, ℕ, Bool, true, false, List, [], ◌∷◌, eqb, refl, ap, sym}
use Rattle.std.{proofs.Common.{◌∙◌, ◌&&◌}, specs.List.list_any}
use Rattle.std.proofs.lemmas.List.Sorted.{list_any-IsPermutation}
use Rattle.do_base.specs.names.Names.{ObjectName}
use Rattle.do_class.specs.declared.packet.Name.{Name, TheVariants.{Lent, Mine, Yours}}
use Rattle.do_machine.specs.{declared.node.{Node.Node, Wanted.Wanted}, Effect.each}
use Rattle.do_machine.specs.State.{has_asked, holds, is_known, is_open}
use Rattle.do_machine.specs.{lend.Asking.{asking, same_wanted, wanted, wanted_lt}, Lists.inserted}
use Rattle.do_machine.specs.take.{Receipt.receiving_name, Take.holding}
use Rattle.do_machine.proofs.{Having.has_joined_all, Inserting.inserted_moves}
use Rattle.do_packet.specs.Met.{has_object, same_object}
use Rattle.do_effects.specs.Taking.{exports, receiving_names}
use Rattle.do_effects.proofs.NamesAsk.{asking_by, names_node, name_node}

-- objects of open and of closed homes are apart
apart : (n : Node) (p q : ℕ) → is_open n p ≡ true → is_open n q ≡ false → eqb q p ≡ false
apart n p q opened closed = go (eqb q p) refl
  where
    -- equal homes would be both open and closed
    go : (b : Bool) → eqb q p ≡ b → eqb q p ≡ false
    go true same =
        let e : q ≡ p = search (Rattle.std.proofs.Common.rules, same) in
        let f : is_open n q ≡ true = ap (is_open n) e ∙ opened in
        absurd (cc)
    go false other = other

-- an object of another home is not exported
not_exported : (from port : ℕ) (xs : List Name) (o : ObjectName) → eqb o.node from ≡ false →
    has_object (exports from port xs) o ≡ false
not_exported from port [] o other = refl
not_exported from port (Mine serial class ∷ xs) o other =
    ap (λ b. (b && eqb o.serial serial) || has_object (exports from port xs) o) other
    ∙ not_exported from port xs o other
not_exported from port (Yours serial ∷ xs) o other = not_exported from port xs o other
not_exported from port (Lent p class token ∷ xs) o other = not_exported from port xs o other

-- an object of a closed home is not asked for
asks_other : (w : Wanted) (n : Node) (o : ObjectName) → is_open n o.node ≡ false →
    has_asked n o ≡ false → has_asked (asking w n).node o ≡ false
asks_other w n o closed none = go (is_open n w.object.node) refl
    (is_open n w.token.lender) (list_any (same_wanted w) n.asked)
  where
    -- an object with an open home is another
    other : is_open n w.object.node ≡ true → same_object o w.object ≡ false
    other home = ap (λ b. b && eqb o.serial w.object.serial)
        (apart n w.object.node o.node home closed)

    -- whether the ends towards the home and the lender are open or not, and it was asked for or not
    go : (home : Bool) → is_open n w.object.node ≡ home → (lender asked : Bool) →
        has_asked (asking_by w n home lender asked).node o ≡ false
    go false is false asked = none
    go false is true asked = none
    go true is lender true = none
    go true is lender false =
        sym (list_any-IsPermutation (λ v. same_object o v.object) (w ∷ n.asked)
        (inserted wanted_lt w n.asked) (inserted_moves wanted_lt w n.asked))
        ∙ ap (λ b. b || has_asked n o) (other is) ∙ none

-- so where names are received
all_other : (from : ℕ) (xs : List Name) (n : Node) (o : ObjectName) → is_open n o.node ≡ false →
    has_asked n o ≡ false → has_asked (each (receiving_name from) xs n).node o ≡ false
all_other from [] n o closed none = none
all_other from (x ∷ xs) n o closed none =
    all_other from xs (receiving_name from x n).node o
    (ap (λ (m : Node). is_open m o.node) (name_node from x n) ∙ closed) (one x)
  where
    -- so for each name
    one : (x : Name) → has_asked (receiving_name from x n).node o ≡ false
    one (Mine serial class) = none
    one (Yours serial) = none
    one (Lent p class token) = asks_other (wanted p from token) n o closed none

-- neither of two
or_none : (a b : Bool) → (a || b) ≡ false → (a ≡ false) × (b ≡ false)
or_none true b h = absurd (cc)
or_none false b h = (refl, h)

-- an object of a closed home that is not known does not become known by names of a peer
pub stays_unknown : (from : ℕ) (xs : List Name) (n : Node) (o : ObjectName) →
    is_open n from ≡ true → is_open n o.node ≡ false → is_known n o ≡ false →
    is_known (receiving_names from xs n).node o ≡ false
stays_unknown from xs n o opened closed unknown =
    let none = or_none (holds n o) (has_asked n o) unknown in
    let m = holding (exports from n.port xs) n in
    ap (λ (k : Node). holds k o || has_asked (each (receiving_name from) xs m).node o)
    (names_node from xs m)
    ∙ ap (λ b. b || has_asked (each (receiving_name from) xs m).node o)
    (has_joined_all n.held (exports from n.port xs) o
    ∙ ap (λ b. b || holds n o) (not_exported from n.port xs o (apart n from o.node opened closed))
    ∙ none.0)
    ∙ all_other from xs m o closed none.1
