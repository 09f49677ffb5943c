-- What receiving a name asks for, and what it leaves as it was.
use Rattle.do_machine.specs.declared.item.Item.TheVariants as items
use Rattle.std.proofs.Common.{◌≡◌, ℕ, Bool, true, false, not, List, [], ◌∷◌, eqb, eq-eqb, ◌&&◌}
use Rattle.std.{proofs.Common.{if◌then◌else◌, refl, ap, ◌∙◌}, specs.List.list_any}
use Rattle.do_class.specs.declared.packet.Name.{Name, TheVariants.{Lent, Mine, Yours}}
use Rattle.do_base.specs.names.Names.{ObjectName}
use Rattle.do_packet.specs.Met.{same_object}
use Rattle.do_machine.specs.declared.{node.{Node.Node, Wanted.Wanted}, state.Effect.Effect}
use Rattle.do_machine.specs.{Effect.{each, only, queueing}, State.is_open}
use Rattle.do_machine.specs.lend.Asking.{asking, same_wanted, wanted, with_wanted}
use Rattle.do_machine.specs.take.Receipt.{receiving_name}

-- an object is the one that it is
pub same_self : (o : ObjectName) → same_object o o ≡ true
same_self o =
    ap (λ b. b && eqb o.serial o.serial) (eq-eqb o.node o.node refl)
    ∙ eq-eqb o.serial o.serial refl

-- the first holds of three that hold
pub and_first : (a b c : Bool) → (a && b && c) ≡ true → a ≡ true
and_first true b c h = refl
and_first false b c h = absurd (cc)

-- what a node does that was lent an object, by whether the ends towards its home and its lender are
-- open, and whether it was asked for by the token already
abbrev pub asking_by : Wanted → Node → Bool → Bool → Bool → Effect
asking_by w n home lender asked =
    if not home
    then (if not lender then only n
    else queueing w.token.lender (items.Settled w.token.number) n)
    else (if asked then only n
    else queueing w.object.node (items.Ask w.object.serial w.token) (with_wanted w n))

-- only what is asked for changes where a lent object is received
asking_node : (w : Wanted) (n : Node) →
    (asking w n).node ≡ record n { asked = (asking w n).node.asked }
asking_node w n = go (is_open n w.object.node) (is_open n w.token.lender)
    (list_any (same_wanted w) n.asked)
  where
    -- whether the ends towards the home and the lender are open or not, and it was asked for or not
    go : (home lender asked : Bool) →
        (asking_by w n home lender asked).node
        ≡ record n { asked = (asking_by w n home lender asked).node.asked }
    go false false asked = refl
    go false true asked = refl
    go true lender true = refl
    go true lender false = refl

-- so where a name is received
pub name_node : (from : ℕ) (x : Name) (n : Node) →
    (receiving_name from x n).node ≡ record n { asked = (receiving_name from x n).node.asked }
name_node from (Mine serial class) n = refl
name_node from (Yours serial) n = refl
name_node from (Lent o class token) n = asking_node (wanted o from token) n

-- and so where names are received
pub names_node : (from : ℕ) (xs : List Name) (n : Node) →
    (each (receiving_name from) xs n).node
    ≡ record n { asked = (each (receiving_name from) xs n).node.asked }
names_node from [] n = refl
names_node from (x ∷ xs) n =
    let m = (receiving_name from x n).node in
    names_node from xs m
    ∙ ap (λ (k : Node). record k { asked = (each (receiving_name from) xs m).node.asked })
    (name_node from x n)

-- a lend from a home towards which the end is closed is over
pub closed_asking : (w : Wanted) (n : Node) → is_open n w.object.node ≡ false →
    is_open n w.token.lender ≡ true →
    asking w n ≡ queueing w.token.lender (items.Settled w.token.number) n
closed_asking w n closed lender =
    ap (λ b. asking_by w n b (is_open n w.token.lender) (list_any (same_wanted w) n.asked)) closed
    ∙ ap (λ b. asking_by w n false b (list_any (same_wanted w) n.asked)) lender

-- an object is asked for once by a token
pub asked_asking : (w : Wanted) (n : Node) → is_open n w.object.node ≡ true →
    list_any (same_wanted w) n.asked ≡ true → asking w n ≡ only n
asked_asking w n home asked =
    ap (λ b. asking_by w n b (is_open n w.token.lender) (list_any (same_wanted w) n.asked)) home
    ∙ ap (asking_by w n true (is_open n w.token.lender)) asked

-- the home of an object is asked for it
pub new_asking : (w : Wanted) (n : Node) → is_open n w.object.node ≡ true →
    list_any (same_wanted w) n.asked ≡ false →
    asking w n
    ≡ queueing w.object.node (items.Ask w.object.serial w.token) (with_wanted w n)
new_asking w n home asked =
    ap (λ b. asking_by w n b (is_open n w.token.lender) (list_any (same_wanted w) n.asked)) home
    ∙ ap (asking_by w n true (is_open n w.token.lender)) asked
