-- In a network that fits, a peer sends nothing that it may not send.
use Rattle.do_machine.specs.declared.item.Item.TheVariants as items
use Rattle.std.proofs.Common.{◌≡◌, ℕ, Bool, true, false, cond, List, [], ◌∷◌, refl, ap, subst, ◌∙◌}
use Rattle.std.proofs.Common.{◌==◌, ◌+◌, ◌≤◌, ◌<◌, ◌||◌, ◌&&◌, arith}
use Rattle.std.specs.{Prelude.{None, Some, length, nat_lt}, List.{filter, list_any}}
use Rattle.do_base.specs.names.Names.{TokenName}
use Rattle.do_export.specs.Counts.{count_of}
use Rattle.do_machine.specs.{declared.item.Item.Item, Objects.object_at, State.is_open}
use Rattle.do_machine.specs.take.{Awaiting.AnsweredCall, Take.{method_call, root_call}}
use Rattle.do_network.specs.declared.fault.PeerFault.{PeerFault, TheVariants.OverRelease}
use Rattle.do_network.specs.Faults.{answer_fault, ask_fault, is_asked, is_awaited, is_late, is_lent}
use Rattle.do_network.specs.Faults.{peer_fault, unless, release_fault, settle_fault}
use Rattle.do_network.specs.{Frames.frame_of, Own.Own}
use Rattle.do_network.specs.fits.{Calls.{awaiting, is_reply, is_root_answer}, Counted.moving}
use Rattle.do_class.specs.Class.{Class}
use Rattle.do_machine.specs.declared.state.State.{State}
use Rattle.do_network.specs.{Links.Part, Net.{Net, part_at}, fits.Fits.{Fits, PairFits}}
use Rattle.do_network.specs.fits.{Lends.is_answering, Notes.{Note, note_frame, once}}

-- where some pass, there is one that passes
some_pass : {X : Type 0} (test : X → Bool) (xs : List X) →
    list_any test xs ≡ false → length (filter test xs) ≡ 0
some_pass test [] none = refl
some_pass test (x ∷ xs) none = go (test x) (some_pass test xs) none
  where
    go : (b : Bool) → (list_any test xs ≡ false → length (filter test xs) ≡ 0) →
        (b || list_any test xs) ≡ false →
        length (cond b (x ∷ filter test xs) (filter test xs)) ≡ 0
    go true k q = absurd cc
    go false k q = k q

-- where a test passes there is no fault
passes : (test : Bool) (fault : PeerFault) → test ≡ true → unless test fault ≡ None
passes true fault h = refl
passes false fault h = absurd cc

-- an answer that some wait for has no fault
answer_known : (p : Own) (k : AnsweredCall) → 1 ≤ awaiting p.node k → answer_fault p k ≡ None
answer_known p k some =
    passes _ _ (go (is_awaited k p.node) refl (is_late k p.node) refl)
  where
    go : (b : Bool) → is_awaited k p.node ≡ b → (c : Bool) → is_late k p.node ≡ c →
        (b || c) ≡ true
    go true e c d = refl
    go false e true d = refl
    go false e false d =
        let no_stack = some_pass _ p.node.stack e in
        let no_late = some_pass _ p.node.late d in
        absurd (omega (arith, some, no_stack, no_late))

-- a number is itself
same : (n : ℕ) → (n == n) ≡ true
same n = grind arith

-- no more is given back than is counted
within : (had asked : ℕ) → asked ≤ had → release_fault had asked ≡ None
within had asked h = go (nat_lt had asked) (grind (arith, h))
  where
    go : (b : Bool) → b ≡ false →
        cond b (Some (OverRelease (record { had = had; asked = asked }))) None ≡ None
    go true e = absurd cc
    go false e = refl

-- both ends are open: what is under way is counted
open_within : (c r m a : ℕ) → c ≡ r + m → a ≤ m → a ≤ c
open_within c r m a e h = omega (arith, e, h)

-- the peer's end is closed: what is under way is counted
closed_within : (c m t a : ℕ) → (t ≡ 0 → c ≡ m) → (0 < t → m < c) → a ≤ m → a ≤ c
closed_within c m t a e f h = grind (arith, e, f, h)

module _ (p q : Own) (there xs : List Note) where
  -- the first of what is under way from the peer
  abbrev Faultless : Note → Type 0
  Faultless x = PairFits p q there (x ∷ xs) → is_open p.node q.node.port ≡ true →
      peer_fault p q.node.port (frame_of x.amount x.item) ≡ None

  -- a release gives back no more than is counted
  released_known : (serial amount : ℕ) (lost : Bool) →
      Faultless (record { item = items.Left serial; amount = amount; lost = lost })
  released_known serial amount lost fit here = go (is_open q.node p.node.port) refl
    where
      back : List Note
      back = record { item = items.Left serial; amount = amount; lost = lost } ∷ xs

      part : amount ≤ moving p q there back serial
      part =
          let first : cond (serial == serial) amount 0 ≡ amount =
          ap (λ b. cond b amount 0) (same serial) in
          omega (arith, first)

      go : (b : Bool) → is_open q.node p.node.port ≡ b →
          release_fault (count_of p.counts q.node.port serial) amount ≡ None
      go true e = within _ _ (open_within _ _ _ _ (fit.counted.agree here e serial) part)
      go false e =
          let ended = fit.counted.ended here e serial in
          within _ _ (closed_within _ _ _ _ ended.untold ended.told part)

  -- a lend that is settled is kept
  settled_known : (number amount : ℕ) (lost : Bool) →
      Faultless (record { item = items.Settled number; amount = amount; lost = lost })
  settled_known number amount lost fit here = go (is_lent q.node.port number p.node) refl
    where
      go : (b : Bool) → is_lent q.node.port number p.node ≡ b →
          settle_fault p q.node.port number ≡ None
      go true e = passes _ _ e
      go false e =
          let none = (fit.lends (object_at 0 0) number).settled here e in
          let first : once (number == number) ≡ 1 = ap once (same number) in
          absurd (omega (arith, first, none))

  -- an ask that is answered is kept
  asked_known : (serial : ℕ) (token : TokenName) (x : Note) →
      is_answering serial token x.item ≡ true → PairFits p q there (x ∷ xs) →
      is_open p.node q.node.port ≡ true → ask_fault p q.node.port serial token ≡ None
  asked_known serial token x first fit here = go (is_asked q.node.port serial token p.node) refl
    where
      go : (b : Bool) → is_asked q.node.port serial token p.node ≡ b →
          ask_fault p q.node.port serial token ≡ None
      go true e = passes _ _ e
      go false e =
          let all = fit.asks serial token here in
          let one : once (is_answering serial token x.item) ≡ 1 = ap once first in
          let none : once (is_asked q.node.port serial token p.node) ≡ 0 = ap once e in
          absurd (omega (arith, all, one, none))

  -- the answer to the call of a method is awaited
  reply_known : (number : ℕ) (x : Note) → is_reply number x.item ≡ true →
      PairFits p q there (x ∷ xs) → is_open p.node q.node.port ≡ true →
      answer_fault p (method_call q.node.port number) ≡ None
  reply_known number x first fit here =
      answer_known p (method_call q.node.port number)
      (let some = (fit.calls number).method here in
      let one : once (is_reply number x.item) ≡ 1 = ap once first in omega (arith, some, one))

  -- the answer to the call for a root is awaited
  root_known : (number : ℕ) (x : Note) → is_root_answer number x.item ≡ true →
      PairFits p q there (x ∷ xs) → is_open p.node q.node.port ≡ true →
      answer_fault p (root_call q.node.port number) ≡ None
  root_known number x first fit here =
      answer_known p (root_call q.node.port number)
      (let some = (fit.calls number).root here in
      let one : once (is_root_answer number x.item) ≡ 1 = ap once first in
      omega (arith, some, one))

  -- an ask is itself
  same_ask : (serial : ℕ) (token : TokenName) →
      ((serial == serial) && ((token.lender == token.lender) && (token.number == token.number)))
      ≡ true
  same_ask serial token = grind arith

  -- what comes first from a peer is none of the faults
  pub faultless : (item : Item) (amount : ℕ) (lost : Bool) →
      Faultless (record { item = item; amount = amount; lost = lost })
  faultless (items.Call number m) amount lost fit here = refl
  faultless (items.Oneway m) amount lost fit here = refl
  faultless (items.Reply number packet) amount lost fit here =
      reply_known number _ (same number) fit here
  faultless (items.Raised number e) amount lost fit here =
      reply_known number _ (same number) fit here
  faultless (items.RootAsk number) amount lost fit here = refl
  faultless (items.RootAnswer number packet) amount lost fit here =
      root_known number _ (same number) fit here
  faultless (items.Ask serial token) amount lost fit here = refl
  faultless (items.Granted serial token) amount lost fit here =
      asked_known serial token _ (same_ask serial token) fit here
  faultless (items.Gone serial token) amount lost fit here =
      asked_known serial token _ (same_ask serial token) fit here
  faultless (items.Left serial) amount lost fit here =
      released_known serial amount lost fit here
  faultless (items.Settled number) amount lost fit here =
      settled_known number amount lost fit here
  faultless (items.End serials) amount lost fit here = refl

-- the first frame on its way to a site of a network that fits has no fault
pub fits_faultless : (table : List Class) (N : Net) (S : State) (F : Fits table N S)
    (port from : ℕ) (p q : Part) → part_at N port ≡ Some p → part_at N from ≡ Some q →
    (port == from) ≡ false → is_open p.own.node from ≡ true → (x : Note) (xs : List Note) →
    F.under_way from port ≡ x ∷ xs → peer_fault p.own from (note_frame x) ≡ None
fits_faultless table N S F port from p q h k apart here x xs first =
    let is = (F.owns from q k).port_is in
    let pair = F.pairs port from p q h k apart in
    let whole = subst (λ back. PairFits p.own q.own (F.under_way port from) back) first pair in
    subst (λ n. peer_fault p.own n (note_frame x) ≡ None) is
    (faultless p.own q.own (F.under_way port from) xs x.item x.amount x.lost whole
    (ap (λ n. is_open p.own.node n) is ∙ here))
