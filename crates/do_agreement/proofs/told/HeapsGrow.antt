-- What a node stores after an effect it stored before, perhaps written to, or it made it then.
use Rattle.do_machine.specs.declared.verdict.Request.TheVariants as requests
use Rattle.std.proofs.Common.{◌≡◌, ◌==◌, ◌++◌, ◌+◌, ℕ, Bool, true, false, List, [], ◌∷◌, length}
use Rattle.std.proofs.Common.{refl, sym, ap, ◌∙◌, append-nil, append_assoc, arith, suc}
use Rattle.std.{proofs.Common.{length-append, zero}, specs.{Prelude.Option, List.AllByRecursion}}
use Rattle.do_base.specs.declared.values.value.Value.{Value}
use Rattle.do_class.specs.{Class.Class, declared.ids.ClassId.ClassId}
use Rattle.do_packet.specs.declared.receipt.Made.{Made}
use Rattle.do_behave.specs.declared.{act.Write.Write, invocation.Answer.TheVariants.Given}
use Rattle.do_behave.specs.declared.invocation.Reason.{Reason}
use Rattle.do_machine.specs.declared.{item.Item.Item, node.{Node.Node, Stored.Stored}}
use Rattle.do_machine.specs.declared.{state.Effect.Effect, verdict.Verdict.Verdict}
use Rattle.do_machine.specs.declared.verdict.Verdict.TheVariants.{Asks, Fails, Makes, Returns}
use Rattle.do_machine.specs.declared.verdict.Verdict.TheVariants.{Steps}
use Rattle.do_machine.specs.{Context.{Context, RunContext}, Items.exported, Lists.change_first}
use Rattle.do_machine.specs.{Start.start_effect, ends.{Closing.{closing, parted}, TimeOut.time_out}}
use Rattle.do_machine.specs.held.{Kept.{kept, stays, struck, struck_by}, Leaving.leaving}
use Rattle.do_machine.specs.lend.Asking.{wanted, with_wanted, without_wanted}
use Rattle.do_machine.specs.{lend.Lending.with_settled, run.Changes.with_writes}
use Rattle.do_machine.specs.run.Fresh.{blank, pushed, with_objects, with_serials}
use Rattle.do_machine.specs.run.{Run.{Acting, run_effect}, Verdicts.effect_of}
use Rattle.do_machine.specs.take.{Receipt.arrived, Take.{holding, take_effect}}
use Rattle.do_facts.proofs.Deliveries.{Delivers, by_delivery, by_failing}
use Rattle.do_facts.proofs.walk.{SmallEffects.{Small, by_closing}, Takes.{Takes, by_take}}
use Rattle.do_facts.proofs.EachOfLists.{each_changed, each_filtered}
use Rattle.do_facts.proofs.walk.Possible.{IfAny, by_begins, by_giving_up, by_verdicts}

-- ---- effects that leave what is stored

-- a node stores what another stores, and has the same next serial
abbrev IsSame : Node → Node → Type 0
IsSame n m = (m.heap ≡ n.heap) × (m.next_serial ≡ n.next_serial)

-- nothing is said of what is sent
abbrev Any : ℕ → Item → Type 0
Any to item = Unit {0}

-- new objects and newer ones have serials one after another
numbered_more : (k : ℕ) (xs ys : List Made) →
    with_serials k (xs ++ ys) ≡ with_serials k xs ++ with_serials (k + length xs) ys
numbered_more k [] ys = ap (λ j. with_serials j ys) (omega arith)
numbered_more k (x ∷ xs) ys =
    ap (λ rest. record { serial = k; class = x.class; slots = x.slots } ∷ rest)
    (numbered_more (suc k) xs ys
    ∙ ap (λ j. with_serials (suc k) xs ++ with_serials j ys) (next k (length xs)))
  where
    next : (k n : ℕ) → suc k + n ≡ k + suc n
    next k n = omega arith

module _ (Q : ℕ → ClassId → Type 0) where
  -- each of these objects has such a serial and such a class
  abbrev pub AllOf : List Stored → Type 0
  AllOf xs = AllByRecursion (λ x. Q x.serial x.class) xs

  -- A node stores what another does, perhaps written to or less of it, and what it made then
  pub record Grown (n m : Node) : Type 0 where
    pub old : List Stored
    pub new : List Made
    pub heap : m.heap ≡ old ++ with_serials n.next_serial new
    pub serial : m.next_serial ≡ n.next_serial + length new
    pub stands : AllOf n.heap → AllOf old

  -- nothing more
  none_more : (k : ℕ) → k ≡ k + 0
  none_more k = omega arith

  -- one that stores the same
  of_same : (n m : Node) → IsSame n m → Grown n m
  of_same n m same = record {
    old = n.heap;
    new = [];
    heap = same.0 ∙ sym (append-nil n.heap);
    serial = same.1 ∙ none_more n.next_serial;
    stands = λ h. h;
  }

  -- one that stores the same as one that is so
  then_same : (n m k : Node) → Grown n m → IsSame m k → Grown n k
  then_same n m k g s = record {
    old = g.old;
    new = g.new;
    heap = s.0 ∙ g.heap;
    serial = s.1 ∙ g.serial;
    stands = g.stands;
  }

  -- one that makes objects then
  then_made : (n m : Node) (new : List Made) → Grown n m → Grown n (with_objects new m)
  then_made n m new g = record {
    old = g.old;
    new = g.new ++ new;
    heap = ap (λ xs. xs ++ with_serials m.next_serial new) g.heap
        ∙ append_assoc g.old (with_serials n.next_serial g.new)
        (with_serials m.next_serial new)
        ∙ ap (λ k. g.old ++ (with_serials n.next_serial g.new ++ with_serials k new)) g.serial
        ∙ sym (ap (λ xs. g.old ++ xs) (numbered_more n.next_serial g.new new));
    serial = omega (arith, g.serial, length-append g.new new);
    stands = g.stands;
  }

  -- asks that are over, and settled lends
  small : (n : Node) → Small (Grown n) Any
  small n = record {
    over = λ w m g. then_same n m (without_wanted w m) g (refl, refl);
    settles = λ w m o g. tt;
  }

  -- an object that is written to has its serial and its class
  written_all : (serial : ℕ) (ws : List Write) (xs : List Stored) → AllOf xs →
      AllOf (change_first (λ x. x.serial == serial) (with_writes ws) xs)
  written_all serial ws =
      each_changed (λ x. Q x.serial x.class) (λ x. x.serial == serial) (with_writes ws)
      (λ x h. h)

  -- ---- what a node leaves

  -- what is left after rounds of striking
  struck_all : (rounds : ℕ) (entry : ℕ → ℕ → Bool) (n : Node) (heap : List Stored) →
      AllOf heap → AllOf (struck_by rounds entry n heap)
  struck_all zero entry n heap all = all
  struck_all (suc k) entry n heap all =
      go (length (struck entry n heap) == length heap)
      (struck_all k entry n (struck entry n heap)
      (each_filtered (λ x. Q x.serial x.class) (stays entry n heap) heap all))
    where
      go : (b : Bool) → AllOf (struck_by k entry n (struck entry n heap)) →
          AllOf (elim b [ true ↦ heap | false ↦ struck_by k entry n (struck entry n heap) ])
      go true rest = all
      go false rest = rest

  -- what a node frees and leaves
  pub leaving_grown : (entry : ℕ → ℕ → Bool) (n : Node) → Grown n (leaving entry n).node
  leaving_grown entry n = record {
    old = kept entry n;
    new = [];
    heap = sym (append-nil (kept entry n));
    serial = none_more n.next_serial;
    stands = struck_all (length n.heap) entry n n.heap;
  }

  -- a close
  pub closing_grown : (peer : ℕ) (n : Node) → Grown n (closing peer n).node
  closing_grown peer n =
      (by_closing (small n) peer n (of_same n (parted peer n) (refl, refl)) tt).node

  -- ---- runs

  -- the effect that there is
  abbrev pub GrownIf : Node → Option Effect → Type 0
  GrownIf n = IfAny (λ e. Grown n e.node)

  module _ (r : RunContext) where
    -- the node
    abbrev n : Node
    n = r.context.node

    -- an effect after which the node stores the same
    abbrev Stays : Reason → Effect → Type 0
    Stays reason e = IsSame n e.node

    -- what may come of an answer
    delivers : Delivers Stays r
    delivers = record {
      shown = λ a. (refl, refl);
      below = λ a. (refl, refl);
      unheard = λ peer. (refl, refl);
      told = λ peer e. (refl, refl);
      dropped = λ peer number o. (refl, refl);
      raised = λ peer number e o. (refl, refl);
      replied = λ peer number v outs packet o h. (refl, refl);
      caught = λ e h. (refl, refl);
    }

    -- each verdict
    verdict_grown : (v : Verdict) → Grown n (effect_of r v).node
    verdict_grown (Steps pc locals handler writes) = record {
      old = change_first (λ x. x.serial == r.top.object.serial) (with_writes writes) n.heap;
      new = [];
      heap = sym (append-nil _);
      serial = none_more n.next_serial;
      stands = written_all r.top.object.serial writes n.heap;
    }
    verdict_grown (Makes class into pc) = record {
      old = n.heap;
      new = blank r.context.table class ∷ [];
      heap = refl;
      serial = refl;
      stands = λ h. h;
    }
    verdict_grown (Asks peer requests.Root into outs pc) = of_same n _ (refl, refl)
    verdict_grown (Returns result outs) =
        of_same n _ (by_delivery Stays r delivers (Given result outs) r.top.reason)
    verdict_grown (Fails e) = of_same n _ (by_failing Stays r delivers e r.top.handler)
    verdict_grown _ = of_same n _ (refl, refl)

  -- a run
  pub run_grown : (act : Acting) (c : Context) → GrownIf c.node (run_effect act c)
  run_grown act c =
      by_verdicts (λ e. Grown c.node e.node) act c
      (λ top below. verdict_grown (record { context = c; top = top; below = below }))

  -- a start
  pub start_grown : (table : List Class) (selector : List ℕ) (values : List Value) (n : Node) →
      GrownIf n (start_effect table selector values n)
  start_grown table selector values n =
      by_begins (λ e. Grown n e.node) table selector values n
      (λ i. of_same n (pushed i n) (refl, refl))

  -- a time-out
  pub time_out_grown : (n : Node) → GrownIf n (time_out n)
  time_out_grown n =
      by_giving_up (λ e. Grown n e.node) n (λ call peer what i below. of_same n _ (refl, refl))

  -- ---- takes

  module _ (c : Context) (from : ℕ) where
    -- what a take is made of
    takes : (item : Item) → Takes (Grown c.node) Any c from item
    takes item = record {
      small = small c.node;
      asks = λ packet is o class token among n ends g.
          (then_same c.node n (with_wanted (wanted o from token) n) g (refl, refl), tt);
      grants = λ serial token is n e g. tt;
      lacks = λ serial token is n e g. tt;
      makes = λ packet is n. then_made c.node n (arrived c from packet).copies;
      begins = λ reason m f is found fit n g. then_same c.node n _ g (refl, refl);
      refuses = λ number e h. tt;
      answers = λ k packet is n g. then_same c.node n _ g (refl, refl);
      fails = λ k number e is n g. then_same c.node n _ g (refl, refl);
      gives = λ number. tt;
      settles = λ number n g. then_same c.node n (with_settled from number n) g (refl, refl);
      parts = λ serials is n g. (then_same c.node n (parted from n) g (refl, refl), tt);
    }

    -- a take
    pub take_grown : (item : Item) → Grown c.node (take_effect c from item).node
    take_grown item =
        let held = holding (exported from c.node.port item) c.node in
        (by_take c from item (takes item) (of_same c.node held (refl, refl))).node
