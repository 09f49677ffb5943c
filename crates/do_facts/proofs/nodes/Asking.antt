-- The names of a message that is taken are moves of the node.
use Rattle.do_machine.specs.declared.item.Item.TheVariants as items
use Rattle.do_facts.specs.nodes.Moves as moves
use Rattle.std.proofs.Common.{◌≡◌, ℕ, true, false, not, List, [], ◌∷◌, map, fold, refl, ap, ◌∙◌}
use Rattle.std.specs.List.{list_any}
use Rattle.do_base.specs.names.Names.{ObjectName}
use Rattle.do_class.specs.declared.{ids.ClassId.ClassId, packet.Name.Name}
use Rattle.do_class.specs.declared.packet.Name.TheVariants.{Lent, Mine, Yours}
use Rattle.do_machine.specs.declared.{node.{Node.Node, Wanted.Wanted}, state.Effect.Effect}
use Rattle.do_machine.specs.{Effect.{each, only, queueing}, Items.{is_exported, name_naming}}
use Rattle.do_machine.specs.{Items.named_as, Objects.{joined, object_at}, State.is_open}
use Rattle.do_machine.specs.lend.Asking.{asking, same_wanted, settling, wanted, with_wanted}
use Rattle.do_machine.specs.take.Receipt.{receiving_name}
use Rattle.do_facts.{specs.Net.noted, proofs.Chains.{either, is_closed, not_closed}}
use Rattle.do_facts.specs.nodes.{Atoms.Named, Judged.Judge, After.note}
use Rattle.do_facts.proofs.nodes.Walks.{Does, once, rests, does_on}

-- a node that holds other objects
abbrev pub with_holdings : List ObjectName → Node → Node
with_holdings held n = record n { held = held }

-- a node without its asks
abbrev pub besides_asks : Node → Node
besides_asks n = record n { asked = [] }

-- an effect that changes nothing of a node but its asks, and shows nothing
record OnlyAsks (n : Node) (e : Effect) : Type 0 where
  same : besides_asks e.node ≡ besides_asks n
  none : e.shown ≡ []

-- an ask changes nothing else
asking_asks : (w : Wanted) (n : Node) → OnlyAsks n (asking w n)
asking_asks w n =
    either (OnlyAsks n) (not (is_open n w.object.node)) (settling w n) _
    (λ _. either (OnlyAsks n) (not (is_open n w.token.lender)) (only n) _
    (λ _. record { same = refl; none = refl }) (λ _. record { same = refl; none = refl }))
    (λ _. either (OnlyAsks n) (list_any (same_wanted w) n.asked) (only n) _
    (λ _. record { same = refl; none = refl }) (λ _. record { same = refl; none = refl }))

module _ (from : ℕ) where
  -- nor do the names of a message
  pub names_ask : (names : List Name) (n : Node) →
      besides_asks (each (receiving_name from) names n).node ≡ besides_asks n
  names_ask [] n = refl
  names_ask (Mine serial class ∷ names) n = names_ask names n
  names_ask (Yours serial ∷ names) n = names_ask names n
  names_ask (Lent o class token ∷ names) n =
      let w = wanted o from token in
      names_ask names (asking w n).node ∙ (asking_asks w n).same

  module _ (j : Judge) where
    -- an effect that asks for an object that is lent, or gives it back
    abbrev IsAsk : List ObjectName → Node → ObjectName → ClassId → ℕ → Effect → Type 0
    IsAsk held n o class token e =
        Does j (with_holdings held n) (note from (Named (Lent o class token))) []
        (with_holdings held e.node) e.sent e.shown

    -- a lend that can't be asked for is settled at once
    by_settling : (held : List ObjectName) (n : Node) (o : ObjectName) (class : ClassId)
        (token : ℕ) → is_open n from ≡ true → is_open n o.node ≡ false →
        IsAsk held n o class token (settling (wanted o from token) n)
    by_settling held n o class token ends closed =
        either (IsAsk held n o class token) (not (is_open n from)) (only n) _
        (λ h. absurd (no h))
        (λ _. once j (with_holdings held n) (moves.Returns from o class token)
        (ends, closed) _ refl)
      where
        no : not (is_open n from) ≡ true → ⊥
        no h = cc

    -- a name that is lent is asked for
    by_asking : (held : List ObjectName) (n : Node) (o : ObjectName) (class : ClassId)
        (token : ℕ) → is_open n from ≡ true →
        IsAsk held n o class token (asking (wanted o from token) n)
    by_asking held n o class token ends =
        let w = wanted o from token in
        let p = with_holdings held n in
        either (IsAsk held n o class token) (not (is_open n o.node)) (settling w n) _
        (λ h. by_settling held n o class token ends (is_closed (is_open n o.node) h))
        (λ h. either (IsAsk held n o class token) (list_any (same_wanted w) n.asked) (only n)
        (queueing o.node (items.Ask o.serial w.token) (with_wanted w n))
        (λ k. once j p (moves.AsksOnce from o class token)
        (ends, not_closed (is_open n o.node) h, k) _ refl)
        (λ k. once j p (moves.Asks from o class token)
        (ends, not_closed (is_open n o.node) h, k) _ refl))

    -- names are received, one after another: the sender's objects are held, the lent asked for
    pub names_received : (to : ℕ) (names : List Name) (held : List ObjectName) (n : Node) →
        is_open n from ≡ true →
        let e = each (receiving_name from) names n in
        Does j (with_holdings held n) (noted from (map Named names)) []
        (with_holdings
        (fold joined held (named_as is_exported (map (name_naming from to) names))) e.node)
        e.sent e.shown
    names_received to [] held n ends = rests j (with_holdings held n)
    names_received to (Mine serial class ∷ names) held n ends =
        does_on j
        (once j (with_holdings held n) (moves.Holds from serial class) ends [] refl)
        (names_received to names (joined held (object_at from serial)) n ends)
    names_received to (Yours serial ∷ names) held n ends =
        does_on j
        (once j (with_holdings held n) (moves.IsNamed from serial) ends [] refl)
        (names_received to names held n ends)
    names_received to (Lent o class token ∷ names) held n ends =
        let w = wanted o from token in
        let e = asking w n in
        let still : is_open e.node from ≡ true =
        ap (λ k. is_open k from) (asking_asks w n).same ∙ ends in
        does_on j (by_asking held n o class token ends)
        (names_received to names held e.node still)
