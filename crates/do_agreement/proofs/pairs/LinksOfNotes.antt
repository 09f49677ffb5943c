-- What is under way of lends and asks, note by note and atom by atom.
use Rattle.do_machine.specs.declared.item.Item.TheVariants as items
use Rattle.do_facts.specs.Net as nets
use Rattle.std.proofs.Common.{◌≡◌, ◌==◌, ◌&&◌, ◌+◌, ℕ, Bool, true, false, cond, List, [], ◌∷◌, refl}
use Rattle.std.{proofs.Common.{ap, ◌∙◌, arith}, specs.{Prelude.{length, suc}, List.filter}}
use Rattle.std.{specs.List.{filter_map, flat_map, list_any}, proofs.lemmas.Bool.Decides.nat_tests}
use Rattle.do_base.specs.names.Names.{ObjectName, TokenName}
use Rattle.do_class.specs.declared.packet.Name.{Name, TheVariants.{Lent, Mine, Yours}}
use Rattle.do_machine.specs.{declared.item.Item.Item, lend.Lending.lend_of}
use Rattle.do_network.specs.fits.Lends.{answers_of, asks_of, is_lend_of, lends_named, settles_of}
use Rattle.do_network.specs.fits.Notes.{Note, once, tells_of}
use Rattle.do_facts.specs.links.Facts.{answer_of, ask_of, back_of, same3, told_of, way_of}
use Rattle.do_facts.specs.links.Links.{atoms, name_atoms}
use Rattle.do_agreement.proofs.pairs.NotesAsAtoms.{one_alike, own_alone, own_atoms}

-- three numbers are three others
three_alike : (a b c x y z : ℕ) →
    once ((x == a) && ((y == b) && (z == c))) ≡ same3 a b c x y z + 0
three_alike a b c x y z = grind (arith, nat_tests)

-- so are they in another order
lend_alike : (a b c x y z n : ℕ) →
    cond ((z == c) && ((x == a) && (y == b))) (suc n) n ≡ same3 a b c x y z + n
lend_alike a b c x y z n = grind (arith, nat_tests)

-- a test that counts one
test_alike : (b : Bool) → once b ≡ cond b 1 0 + 0
test_alike true = refl
test_alike false = refl

-- one more passes, or not
counted_one : {X : Type 0} (b : Bool) (x : X) (xs : List X) →
    length (cond b (x ∷ xs) xs) ≡ cond b (suc (length xs)) (length xs)
counted_one true x xs = refl
counted_one false x xs = refl

-- how often names lend so
abbrev names_lend : ℕ → ObjectName → ℕ → List Name → ℕ
names_lend to o number xs = length (filter (is_lend_of o number) (filter_map (lend_of to) xs))

-- names that lend, one by one
names_alike : (to : ℕ) (o : ObjectName) (number : ℕ) (xs : List Name) →
    names_lend to o number xs
    ≡ nets.total (way_of o.node o.serial number) (flat_map name_atoms xs)
names_alike to o number [] = refl
names_alike to o number (Mine s class ∷ xs) = omega (arith, names_alike to o number xs)
names_alike to o number (Yours s ∷ xs) = omega (arith, names_alike to o number xs)
names_alike to o number (Lent p class token ∷ xs) =
    counted_one ((token == number) && ((p.node == o.node) && (p.serial == o.serial))) _
    (filter (is_lend_of o number) (filter_map (lend_of to) xs))
    ∙ lend_alike o.node o.serial number p.node p.serial token (names_lend to o number xs)
    ∙ ap (λ k. same3 o.node o.serial number p.node p.serial token + k)
    (names_alike to o number xs)

-- what an item lends
pub lends_alike : (to : ℕ) (o : ObjectName) (number : ℕ) (x : Note) →
    lends_named to o number x ≡ nets.total (way_of o.node o.serial number) (atoms x.item)
lends_alike to o number x = go x.item
  where
    go : (item : Item) →
        lends_named to o number (record { item = item; amount = x.amount; lost = x.lost })
        ≡ nets.total (way_of o.node o.serial number) (atoms item)
    go (items.Call k m) = omega (arith, names_alike to o number m.packet.names)
    go (items.Oneway m) = omega (arith, names_alike to o number m.packet.names)
    go (items.Reply k p) = names_alike to o number p.names
    go (items.RootAnswer k p) = names_alike to o number p.names
    go _ = refl

-- what an item settles
pub settles_alike : (number : ℕ) (x : Note) →
    settles_of number x ≡ nets.total (back_of number) (atoms x.item)
settles_alike number x =
    go x.item
    ∙ own_alone (back_of number)
    (record { mine = λ s. refl; yours = λ s. refl; lent = λ o t. refl }) x.item
  where
    go : (item : Item) →
        settles_of number (record { item = item; amount = x.amount; lost = x.lost })
        ≡ nets.total (back_of number) (own_atoms item)
    go (items.Settled k) = one_alike number k
    go _ = refl

-- what an item asks for
pub asks_alike : (serial : ℕ) (token : TokenName) (x : Note) →
    asks_of serial token x ≡ nets.total (ask_of serial token.lender token.number) (atoms x.item)
asks_alike serial token x =
    go x.item
    ∙ own_alone (ask_of serial token.lender token.number)
    (record { mine = λ s. refl; yours = λ s. refl; lent = λ o t. refl }) x.item
  where
    go : (item : Item) →
        asks_of serial token (record { item = item; amount = x.amount; lost = x.lost })
        ≡ nets.total (ask_of serial token.lender token.number) (own_atoms item)
    go (items.Ask s t) = three_alike serial token.lender token.number s t.lender t.number
    go _ = refl

-- what an item answers
pub answers_alike : (serial : ℕ) (token : TokenName) (x : Note) →
    answers_of serial token x
    ≡ nets.total (answer_of serial token.lender token.number) (atoms x.item)
answers_alike serial token x =
    go x.item
    ∙ own_alone (answer_of serial token.lender token.number)
    (record { mine = λ s. refl; yours = λ s. refl; lent = λ o t. refl }) x.item
  where
    go : (item : Item) →
        answers_of serial token (record { item = item; amount = x.amount; lost = x.lost })
        ≡ nets.total (answer_of serial token.lender token.number) (own_atoms item)
    go (items.Granted s t) = three_alike serial token.lender token.number s t.lender t.number
    go (items.Gone s t) = three_alike serial token.lender token.number s t.lender t.number
    go _ = refl

-- what an end tells
pub tells_alike : (serial : ℕ) (x : Note) →
    tells_of serial x ≡ nets.total (told_of serial) (atoms x.item)
tells_alike serial x =
    go x.item
    ∙ own_alone (told_of serial)
    (record { mine = λ s. refl; yours = λ s. refl; lent = λ o t. refl }) x.item
  where
    go : (item : Item) →
        tells_of serial (record { item = item; amount = x.amount; lost = x.lost })
        ≡ nets.total (told_of serial) (own_atoms item)
    go (items.End serials) = test_alike (list_any (λ r. r == serial) serials)
    go _ = refl
