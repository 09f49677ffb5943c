-- Asks that are over, granted or gone.
use Rattle.do_behave.specs.declared.invocation.Reason.TheVariants as reasons
use Rattle.do_machine.specs.declared.item.Item.TheVariants as items
use Rattle.do_rules.specs.declared.take.ruling.Ruling.TheVariants as rulings
use Rattle.std.proofs.Common.{◌≡◌, ◌+◌, ℕ, Bool, true, false, cond, not, List, [], ◌∷◌, ◌++◌}
use Rattle.std.proofs.Common.{Result, Ok, Err, if◌then◌else◌, refl, ap, sym, ◌∙◌, ◌≤◌, length}
use Rattle.std.{proofs.Common.arith, specs.List.list_any, proofs.lemmas.Bool.false≢true}
use Rattle.std.proofs.lemmas.List.Sorted.{length_permutation}
use Rattle.do_base.specs.{names.Names.ObjectName, declared.events.exception.Exc.Exc}
use Rattle.do_base.specs.declared.events.shown.Shown.{Shown}
use Rattle.do_behave.specs.declared.invocation.{Invocation.Invocation, Reason.Reason}
use Rattle.do_class.specs.declared.ids.MethodId.{MethodId}
use Rattle.do_import.specs.ByObject.{added, object_of}
use Rattle.do_machine.specs.declared.{item.Item.Item, node.{Node.Node, Wanted.Wanted}}
use Rattle.do_machine.specs.{Context.Context, Effect.{only, queueing}, Lists.inserted}
use Rattle.do_machine.specs.{Objects.{joined, object_at, object_lt}, State.{is_known, is_open}}
use Rattle.do_machine.specs.lend.Asking.{same_wanted, settling, without_wanted}
use Rattle.do_machine.specs.take.{Receipt.arrived, Requests.admission, Take.holding}
use Rattle.do_machine.proofs.Inserting.{inserted_moves}
use Rattle.do_network.specs.{Counting.{got, of_known}, Own.Own}
use Rattle.do_packet.specs.{Met.has_object, declared.receipt.Made.Made}
use Rattle.do_rules.specs.{Ruling.{admitted, ruling}, declared.take.ruling.Ruling.Ruling}
use Rattle.do_effects.specs.Doing.{Doing, does, effected, moved}
use Rattle.do_effects.specs.Taking.{CanFollow, ended_own, gone_own, granted_own, is_granted, takes}
use Rattle.do_effects.{specs.Tidy.IsTidy, proofs.{Alone.line_first, ObjectsLeft.few_pass}}
use Rattle.do_effects.proofs.{TidyCounts.kept_twice, AskedNode.{granted_tidy, gone_tidy}}

-- the ruling ends an ask
abbrev on_ask : Ruling → Bool
on_ask (rulings.EndsAsk w) = true
on_ask _ = false

-- an admission ends none
not_ask : (copies : List Made) (begun : MethodId → Invocation) (reason : Reason)
    (x : Result MethodId Exc) → on_ask (admitted copies begun reason x) ≡ false
not_ask copies begun reason (Err e) = refl
not_ask copies begun reason (Ok m) = refl

-- the ask of a ruling, or another
abbrev ask_in : Wanted → Ruling → Wanted
ask_in v (rulings.EndsAsk w) = w
ask_in v _ = v

-- the node stays as it is where a lender is told
settling_node : (w : Wanted) (n : Node) → (settling w n).node ≡ n
settling_node w n = go (is_open n w.token.lender)
  where
    -- with an open end or a closed one
    go : (b : Bool) → (if not b then only n
        else queueing w.token.lender (items.Settled w.token.number) n).node ≡ n
    go true = refl
    go false = refl

module _ (d : Doing) (from : ℕ) (line : Shown) (w : Wanted) where
  -- what was shown first
  abbrev shown_first : Doing
  shown_first = record d { shown = d.shown ++ line ∷ [] }

  -- an ask that was granted
  pub granted_takes : (g : Context) (item : Item) → rulings.EndsAsk w ≡ ruling g from item →
      is_granted item ≡ true →
      does (record shown_first { own = granted_own w d.own })
      (settling w (granted_own w d.own).node)
      ≡ takes from item line (rulings.EndsAsk w) d
  granted_takes g (items.Granted serial token) is granted =
      let o : w.object ≡ object_at from serial =
      ap (λ (r : Ruling). (ask_in w r).object) is in
      (λ j. moved shown_first (effected (record d.own { received = added d.own.received (o j) })
      (settling w (without_wanted w (holding (o j ∷ []) d.own.node)))))
      ∙ sym (line_first d (got from (items.Granted serial token) d.own) line d.own.node
      (settling w (without_wanted w (holding (object_at from serial ∷ []) d.own.node))))
  granted_takes g (items.Call number m) is granted = absurd (false≢true granted)
  granted_takes g (items.Oneway m) is granted = absurd (false≢true granted)
  granted_takes g (items.Reply number packet) is granted = absurd (false≢true granted)
  granted_takes g (items.Raised number e) is granted = absurd (false≢true granted)
  granted_takes g (items.RootAsk number) is granted = absurd (false≢true granted)
  granted_takes g (items.RootAnswer number packet) is granted = absurd (false≢true granted)
  granted_takes g (items.Ask serial token) is granted = absurd (false≢true granted)
  granted_takes g (items.Gone serial token) is granted = absurd (false≢true granted)
  granted_takes g (items.Left serial) is granted = absurd (false≢true granted)
  granted_takes g (items.Settled number) is granted = absurd (false≢true granted)
  granted_takes g (items.End serials) is granted = absurd (false≢true granted)

  -- an ask for what is gone
  pub gone_takes : (g : Context) (item : Item) → rulings.EndsAsk w ≡ ruling g from item →
      is_granted item ≡ false →
      does (record shown_first { own = gone_own w d.own })
      (settling w (gone_own w d.own).node)
      ≡ takes from item line (rulings.EndsAsk w) d
  gone_takes g (items.Gone serial token) is granted =
      (λ j. record (moved shown_first (effected d.own (settling w m))) {
        own = record (moved shown_first (effected d.own (settling w m))).own {
          classes = classes j;
        };
      })
      ∙ sym (line_first d d.own line d.own.node (settling w m))
    where
      -- the node that does not ask any more
      m : Node
      m = without_wanted w d.own.node

      -- telling the lender leaves which classes are kept
      classes : of_known (settling w m).node (of_known m d.own.classes)
          ≡ of_known (settling w m).node d.own.classes
      classes = ap (λ (n : Node). of_known n (of_known m d.own.classes)) (settling_node w m)
          ∙ kept_twice d.own.classes (λ q. is_known m (object_of q))
          ∙ sym (ap (λ (n : Node). of_known n d.own.classes) (settling_node w m))
  gone_takes g (items.Granted serial token) is granted = absurd (false≢true (sym granted))
  gone_takes g (items.Call number x) is granted =
      absurd (false≢true (sym (not_ask _ _ (reasons.Call from number)
      (admission g from x (arrived g from x.packet).values)) ∙ sym (ap on_ask is)))
  gone_takes g (items.Oneway x) is granted =
      absurd (false≢true (sym (not_ask _ _ (reasons.Oneway from)
      (admission g from x (arrived g from x.packet).values)) ∙ sym (ap on_ask is)))
  gone_takes g (items.Reply number packet) is granted =
      absurd (false≢true (sym (ap on_ask is)))
  gone_takes g (items.Raised number e) is granted = absurd (false≢true (sym (ap on_ask is)))
  gone_takes g (items.RootAsk number) is granted = absurd (false≢true (sym (ap on_ask is)))
  gone_takes g (items.RootAnswer number packet) is granted =
      absurd (false≢true (sym (ap on_ask is)))
  gone_takes g (items.Ask serial token) is granted = absurd (false≢true (sym (ap on_ask is)))
  gone_takes g (items.Left serial) is granted = absurd (false≢true (sym (ap on_ask is)))
  gone_takes g (items.Settled number) is granted = absurd (false≢true (sym (ap on_ask is)))
  gone_takes g (items.End serials) is granted = absurd (false≢true (sym (ap on_ask is)))

-- a tidy node is tidy once an ask is over
pub ended_tidy : (granted : Bool) (w : Wanted) (p : Own) → IsTidy p →
    IsTidy (ended_own granted w p)
ended_tidy true w p tidy = granted_tidy w p tidy
ended_tidy false w p tidy = gone_tidy w p tidy

-- what is granted was asked for
pub follow_asked : (n : Node) (from : ℕ) (item : Item) (w : Wanted) → is_granted item ≡ true →
    CanFollow n from item (rulings.EndsAsk w) → list_any (same_wanted w) n.asked ≡ true
follow_asked n from (items.Granted serial token) w granted can = can
follow_asked n from (items.Call number m) w granted can = absurd (false≢true granted)
follow_asked n from (items.Oneway m) w granted can = absurd (false≢true granted)
follow_asked n from (items.Reply number packet) w granted can = absurd (false≢true granted)
follow_asked n from (items.Raised number e) w granted can = absurd (false≢true granted)
follow_asked n from (items.RootAsk number) w granted can = absurd (false≢true granted)
follow_asked n from (items.RootAnswer number packet) w granted can = absurd (false≢true granted)
follow_asked n from (items.Ask serial token) w granted can = absurd (false≢true granted)
follow_asked n from (items.Gone serial token) w granted can = absurd (false≢true granted)
follow_asked n from (items.Left serial) w granted can = absurd (false≢true granted)
follow_asked n from (items.Settled number) w granted can = absurd (false≢true granted)
follow_asked n from (items.End serials) w granted can = absurd (false≢true granted)

-- what an item that ends an ask comes to
pub ended_takes : (d : Doing) (from : ℕ) (line : Shown) (w : Wanted) (g : Context) (item : Item) →
    rulings.EndsAsk w ≡ ruling g from item → (granted : Bool) → granted ≡ is_granted item →
    does (record d {
      own = ended_own granted w d.own;
      shown = d.shown ++ line ∷ [];
    }) (settling w (ended_own granted w d.own).node)
    ≡ takes from item line (rulings.EndsAsk w) d
ended_takes d from line w g item is true e = granted_takes d from line w g item is (sym e)
ended_takes d from line w g item is false e = gone_takes d from line w g item is (sym e)

-- one more joins at most
pub joined_length : (os : List ObjectName) (o : ObjectName) → length (joined os o) ≤ length os + 1
joined_length os o = go (has_object os o)
  where
    -- an object that is put in its place is one more
    longer : length (inserted object_lt o os) ≡ length (o ∷ os)
    longer = length_permutation (o ∷ os) (inserted object_lt o os) (inserted_moves object_lt o os)

    -- whether it is there already or not
    go : (b : Bool) → length (cond b os (inserted object_lt o os)) ≤ length os + 1
    go true = omega arith
    go false = let e = longer in omega arith

-- no more is asked for
pub ended_asked : (granted : Bool) (w : Wanted) (p : Own) →
    length (ended_own granted w p).node.asked ≤ length p.node.asked
ended_asked true w p = few_pass (λ v. not (same_wanted w v)) p.node.asked
ended_asked false w p = few_pass (λ v. not (same_wanted w v)) p.node.asked

-- at most one object more is held
pub ended_held : (granted : Bool) (w : Wanted) (p : Own) →
    length (ended_own granted w p).node.held ≤ length p.node.held + 1
ended_held true w p = joined_length p.node.held w.object
ended_held false w p = omega arith

-- nothing more is stored
pub ended_heap : (granted : Bool) (w : Wanted) (p : Own) →
    (ended_own granted w p).node.heap ≡ p.node.heap
ended_heap true w p = refl
ended_heap false w p = refl
