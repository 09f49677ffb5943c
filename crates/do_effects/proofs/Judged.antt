-- What the ruling on an item says of the item.
use Rattle.do_behave.specs.declared.invocation.Reason.TheVariants as reasons
use Rattle.do_machine.specs.declared.item.Item.TheVariants as items
use Rattle.do_rules.specs.declared.take.ruling.Ruling.TheVariants as rulings
use Rattle.std.proofs.Common.{◌≡◌, ℕ, Bool, true, false, List, [], ◌∷◌, IsSome, Result, Ok, Err}
use Rattle.std.proofs.Common.{refl, ap, sym, ◌∙◌, ◌++◌, fold, map, is_some, if◌then◌else◌}
use Rattle.std.proofs.lemmas.Bool.{false≢true}
use Rattle.do_base.specs.{names.Names.TokenName, declared.events.exception.Exc.Exc}
use Rattle.do_base.specs.declared.events.shown.Shown.{Shown}
use Rattle.do_behave.specs.declared.invocation.{Invocation.Invocation, Reason.Reason}
use Rattle.do_class.specs.declared.ids.MethodId.{MethodId}
use Rattle.do_machine.specs.declared.item.Item.{Item}
use Rattle.do_export.specs.Counts.{Counts}
use Rattle.do_machine.specs.Context.{Context, own_class}
use Rattle.do_import.specs.ByObject.{added}
use Rattle.do_machine.specs.Effect.{showing, ◌>>=◌}
use Rattle.do_machine.specs.Items.{Released, exported, is_exported, named_as, naming}
use Rattle.do_machine.specs.take.{Requests.admission, Receipt.arrived, Take.{holding, is_waiting}}
use Rattle.do_network.specs.{Counting.{got, item_classes, packet_of, with_class}, Frames.amount_of}
use Rattle.do_packet.specs.declared.receipt.Made.{Made}
use Rattle.do_rules.specs.{Ruling.{admitted, ruled, ruling}, declared.take.ruling.Ruling.Ruling}
use Rattle.do_effects.specs.{Doing.{Doing, effected, moved}, Sends.GivesNothingUp}
use Rattle.do_effects.{specs.Taking.{on_message, takes}, proofs.Alone.line_first}

-- a ruling on a message is on an item that has one
pub has_message : (g : Context) (from : ℕ) (item : Item) → on_message (ruling g from item) ≡ true →
    IsSome (packet_of item)
has_message g from (items.Call number m) on = refl
has_message g from (items.Oneway m) on = refl
has_message g from (items.Reply number packet) on = refl
has_message g from (items.Raised number e) on = absurd (false≢true on)
has_message g from (items.RootAsk number) on = absurd (false≢true on)
has_message g from (items.RootAnswer number packet) on = refl
has_message g from (items.Ask serial token) on = absurd (false≢true on)
has_message g from (items.Granted serial token) on = absurd (false≢true on)
has_message g from (items.Gone serial token) on = absurd (false≢true on)
has_message g from (items.Left serial) on = absurd (false≢true on)
has_message g from (items.Settled number) on = absurd (false≢true on)
has_message g from (items.End serials) on = absurd (false≢true on)

-- what begins does not wait
abbrev pub begins_waiting : Ruling → Bool
begins_waiting (rulings.Begins copies i) = is_waiting i.state
begins_waiting _ = false

-- a call that is refused is one of the peer
abbrev pub IsBack : ℕ → Reason → Type 0
IsBack from (reasons.Call peer number) = peer ≡ from
IsBack from _ = Unit {0}

-- so is that of a ruling
abbrev pub GoesBack : ℕ → Ruling → Type 0
GoesBack from (rulings.Refuses copies reason e) = IsBack from reason
GoesBack from _ = Unit {0}

-- an admission is refused, or its method begins
by_admission : (from : ℕ) (copies : List Made) (begun : MethodId → Invocation) (reason : Reason) →
    ((m : MethodId) → is_waiting (begun m).state ≡ false) → IsBack from reason →
    (x : Result MethodId Exc) →
    (begins_waiting (admitted copies begun reason x) ≡ false)
    × GoesBack from (admitted copies begun reason x)
by_admission from copies begun reason runs back (Err e) = (refl, back)
by_admission from copies begun reason runs back (Ok m) = (runs m, tt)

-- what begins by a ruling does not wait, and a refusal goes back to the peer
pub begins_back : (g : Context) (from : ℕ) (item : Item) →
    (begins_waiting (ruling g from item) ≡ false) × GoesBack from (ruling g from item)
begins_back g from (items.Call number m) =
    by_admission from _ _ (reasons.Call from number) (λ m. refl) refl
    (admission g from m (arrived g from m.packet).values)
begins_back g from (items.Oneway m) =
    by_admission from _ _ (reasons.Oneway from) (λ m. refl) tt
    (admission g from m (arrived g from m.packet).values)
begins_back g from (items.Reply number packet) = (refl, tt)
begins_back g from (items.Raised number e) = (refl, tt)
begins_back g from (items.RootAsk number) = (refl, tt)
begins_back g from (items.RootAnswer number packet) = (refl, tt)
begins_back g from (items.Ask serial token) = (refl, tt)
begins_back g from (items.Granted serial token) = (refl, tt)
begins_back g from (items.Gone serial token) = (refl, tt)
begins_back g from (items.Left serial) = (refl, tt)
begins_back g from (items.Settled number) = (refl, tt)
begins_back g from (items.End serials) = (refl, tt)

-- the ruling is on an item that names nothing to be received
abbrev pub on_quiet : Ruling → Bool
on_quiet (rulings.Raises k e) = true
on_quiet (rulings.Replies answer) = true
on_quiet (rulings.EndsLend number) = true
on_quiet rulings.Closes = true
on_quiet rulings.Stays = true
on_quiet _ = false

-- an admission is of a message
not_quiet : (copies : List Made) (begun : MethodId → Invocation) (reason : Reason)
    (x : Result MethodId Exc) → on_quiet (admitted copies begun reason x) ≡ false
not_quiet copies begun reason (Err e) = refl
not_quiet copies begun reason (Ok m) = refl

-- an item that exports nothing, and names nothing of a class
pub record IsQuiet (from : ℕ) (item : Item) : Type 0 where
  pub exports : (port : ℕ) → exported from port item ≡ []
  pub classes : item_classes from item ≡ []

-- what is given up is not exported
none_exported : (to : ℕ) (serials : List ℕ) →
    named_as is_exported (map (naming Released to) serials) ≡ []
none_exported to [] = refl
none_exported to (s ∷ serials) = none_exported to serials

-- an item on which there is such a ruling is so
pub is_quiet : (g : Context) (from : ℕ) (item : Item) → on_quiet (ruling g from item) ≡ true →
    IsQuiet from item
is_quiet g from (items.Call number m) on =
    absurd (false≢true (sym (not_quiet _ _ (reasons.Call from number)
    (admission g from m (arrived g from m.packet).values)) ∙ on))
is_quiet g from (items.Oneway m) on =
    absurd (false≢true (sym (not_quiet _ _ (reasons.Oneway from)
    (admission g from m (arrived g from m.packet).values)) ∙ on))
is_quiet g from (items.Reply number packet) on = absurd (false≢true on)
is_quiet g from (items.Raised number e) on = record { exports = λ port. refl; classes = refl }
is_quiet g from (items.RootAsk number) on = record { exports = λ port. refl; classes = refl }
is_quiet g from (items.RootAnswer number packet) on = absurd (false≢true on)
is_quiet g from (items.Ask serial token) on = record { exports = λ port. refl; classes = refl }
is_quiet g from (items.Granted serial token) on = absurd (false≢true on)
is_quiet g from (items.Gone serial token) on = absurd (false≢true on)
is_quiet g from (items.Left serial) on = record { exports = λ port. refl; classes = refl }
is_quiet g from (items.Settled number) on = record { exports = λ port. refl; classes = refl }
is_quiet g from (items.End serials) on =
    record { exports = λ port. none_exported port serials; classes = refl }

-- what a ruling on such an item does, once the line is shown
pub quiet_takes : (d : Doing) (from : ℕ) (item : Item) (line : Shown) (r : Ruling) →
    IsQuiet from item →
    takes from item line r d
    ≡ moved (record d { shown = d.shown ++ line ∷ [] })
    (effected d.own (ruled from item r d.own.node))
quiet_takes d from item line r quiet =
    (λ j. moved d (effected (received j)
    (showing line d.own.node
    >>= (λ n. ruled from item r (holding (quiet.exports d.own.node.port j) n)))))
    ∙ line_first d d.own line d.own.node (ruled from item r d.own.node)
  where
    -- what it exports and the classes that it names are none
    received : got from item d.own ≡ d.own
    received = λ j. record d.own {
      received = fold added d.own.received (quiet.exports d.own.node.port j);
      classes = fold with_class d.own.classes (quiet.classes j);
    }

-- what goes back, or another item
abbrev back_in : Item → Ruling → Item
back_in other (rulings.Replies item) = item
back_in other _ = other

-- whether an item goes back
abbrev goes_back : Ruling → Bool
goes_back (rulings.Replies item) = true
goes_back _ = false

-- an item that goes back gives nothing up
pub back_keeps : (g : Context) (from : ℕ) (item answer : Item) →
    rulings.Replies answer ≡ ruling g from item → GivesNothingUp from answer
back_keeps g from item answer is = by_item item is
  where
    -- what goes back is what the ruling sends back
    is_back : (item : Item) → rulings.Replies answer ≡ ruling g from item →
        answer ≡ back_in answer (ruling g from item)
    is_back item e = ap (back_in answer) e

    -- a message that is admitted or not sends nothing back
    not_back : (copies : List Made) (begun : MethodId → Invocation) (reason : Reason)
        (x : Result MethodId Exc) → goes_back (admitted copies begun reason x) ≡ false
    not_back copies begun reason (Err e) = refl
    not_back copies begun reason (Ok m) = refl

    -- granting gives nothing up, nor does telling that the object is gone
    granted : (b : Bool) (serial : ℕ) (token : TokenName) (r : Counts) →
        amount_of r from (if b then items.Granted serial token else items.Gone serial token) ≡ 0
    granted true serial token r = refl
    granted false serial token r = refl

    -- so for each item
    by_item : (item : Item) → rulings.Replies answer ≡ ruling g from item →
        GivesNothingUp from answer
    by_item (items.RootAsk number) e = λ r.
        ap (amount_of r from) (is_back (items.RootAsk number) e)
    by_item (items.Ask serial token) e = λ r.
        ap (amount_of r from) (is_back (items.Ask serial token) e)
        ∙ granted (is_some (own_class g.node serial)) serial token r
    by_item (items.Call number m) e =
        absurd (false≢true (sym (not_back _ _ (reasons.Call from number)
        (admission g from m (arrived g from m.packet).values)) ∙ sym (ap goes_back e)))
    by_item (items.Oneway m) e =
        absurd (false≢true (sym (not_back _ _ (reasons.Oneway from)
        (admission g from m (arrived g from m.packet).values)) ∙ sym (ap goes_back e)))
    by_item (items.Reply number packet) e = absurd (false≢true (sym (ap goes_back e)))
    by_item (items.Raised number x) e = absurd (false≢true (sym (ap goes_back e)))
    by_item (items.RootAnswer number packet) e = absurd (false≢true (sym (ap goes_back e)))
    by_item (items.Granted serial token) e = absurd (false≢true (sym (ap goes_back e)))
    by_item (items.Gone serial token) e = absurd (false≢true (sym (ap goes_back e)))
    by_item (items.Left serial) e = absurd (false≢true (sym (ap goes_back e)))
    by_item (items.Settled number) e = absurd (false≢true (sym (ap goes_back e)))
    by_item (items.End serials) e = absurd (false≢true (sym (ap goes_back e)))
