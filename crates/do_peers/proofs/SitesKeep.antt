-- A site keeps what it has for the peers that an input does not come from.
use Rattle.std.specs.FinMap as map_of
use Rattle.do_frames.specs.declared.frame.Frame.TheVariants as frames
use Rattle.do_network.specs.declared.input.Input.TheVariants as inputs
use Rattle.std.proofs.Common.{◌≡◌, ◌==◌, ◌&&◌, ◌-◌, ℕ, Bool, true, false, cond, List, [], ◌∷◌}
use Rattle.std.proofs.Common.{Option, None, Some, Result, Ok, Err, refl, subst, sym, ap, ◌∙◌, eqb}
use Rattle.std.proofs.Common.{fold, inl, inr, arith}
use Rattle.std.specs.{Prelude.{nat_lt, not, unwrap_or}, List.AllByRecursion}
use Rattle.std.specs.{FinMap.{get-insert, get-remove, get-retain_keys}, Ordering.eq_by_cmp}
use Rattle.do_base.specs.names.Names.{ObjectName}
use Rattle.do_class.specs.Class.{Class}
use Rattle.do_export.specs.Counts.{Counts, count_of, entry_cmp, lowered, raised}
use Rattle.do_export.proofs.{Counting.{count-raised, tie}, Order.{entry_same, entry_total}}
use Rattle.do_frames.specs.declared.frame.Frame.{Frame}
use Rattle.do_machine.specs.{Items.exported, State.is_open, declared.node.Node.Node}
use Rattle.do_machine.specs.declared.{item.Item.TheVariants.End, state.Effect.Effect}
use Rattle.do_machine.specs.{declared.state.Parcel.Parcel, ends.Closing.closing}
use Rattle.do_machine.specs.{held.Leaving.leaving, run.Run.Acting}
use Rattle.do_machine.specs.take.Take.{can_take, take_effect}
use Rattle.do_network.specs.declared.{fault.PeerFault.PeerFault, input.Input.Input}
use Rattle.do_network.specs.Counting.{counted, given_back, got, named_to, over_open_ends}
use Rattle.do_network.specs.{Faults.peer_fault, Frames.{item_of, read_frame}}
use Rattle.do_network.specs.Links.{Part, having_read, names_read}
use Rattle.do_network.specs.{Own.{Own, is_counted, site_context}, Site.{frame_move, moves, passed}}
use Rattle.do_network.specs.Site.{released_by, site_move, site_step, takes, takes_frame}
use Rattle.do_peers.specs.Peers.{StaysFor, lends_to, peer_of}
use Rattle.do_peers.proofs.Keeping.{Keeps, NamesNothing}
use Rattle.do_peers.proofs.TakesKeep.{keeps_closing, keeps_leaving, keeps_take}

-- ---- counts

-- a choice of counts, read
read : (b : Bool) (o : Option ℕ) → unwrap_or (cond b o None) 0 ≡ cond b (unwrap_or o 0) 0
read true o = refl
read false o = refl

-- a count is kept over an open end
open_count : (n : Node) (c : Counts) (q s : ℕ) → is_open n q ≡ true →
    count_of (over_open_ends n c) q s ≡ count_of c q s
open_count n c q s there =
    ap (λ o. unwrap_or o 0) (get-retain_keys c (λ k. is_open n k.0) (q, s)
    (λ x t. ap (λ k. is_open n k.0) (sym (entry_same (q, s) x t))))
    ∙ read (is_open n q) (map_of.get c (q, s))
    ∙ ap (λ b. cond b (count_of c q s) 0) there

-- a name to another peer is not counted for this one
raised_aside : (c : Counts) (to serial q s : ℕ) → (to == q) ≡ false →
    count_of (raised c to serial) q s ≡ count_of c q s
raised_aside c to serial q s apart = grind (arith, count-raised c to serial q s, apart)

-- nor are many
all_raised_aside : (to q s : ℕ) → (to == q) ≡ false → (os : List ObjectName) (c : Counts) →
    count_of (fold (λ d o. raised d to o.serial) c os) q s ≡ count_of c q s
all_raised_aside to q s apart [] c = refl
all_raised_aside to q s apart (o ∷ os) c =
    all_raised_aside to q s apart os (raised c to o.serial)
    ∙ raised_aside c to o.serial q s apart

-- what names nothing to a peer leaves its counts
sent_aside : (port q s : ℕ) (xs : List Parcel) → AllByRecursion (NamesNothing q) xs →
    (c : Counts) → count_of (fold (named_to port) c xs) q s ≡ count_of c q s
sent_aside port q s [] none c = refl
sent_aside port q s (x ∷ xs) none c =
    sent_aside port q s xs none.1 (named_to port c x) ∙ one none.0
  where
    one : NamesNothing q x → count_of (named_to port c x) q s ≡ count_of c q s
    one (inl apart) = all_raised_aside x.to q s apart (exported port x.to x.item) c
    one (inr nothing) =
        ap (λ os. count_of (fold (λ d o. raised d x.to o.serial) c os) q s) (nothing port)

-- names that another peer gives back are not taken off this one's
lowered_aside : (c : Counts) (to serial amount q s : ℕ) → (to == q) ≡ false →
    count_of (lowered c to serial amount) q s ≡ count_of c q s
lowered_aside c to serial amount q s apart = go (count_of c to serial == amount)
  where
    other : eq_by_cmp entry_cmp (q, s) (to, serial) ≡ false
    other = tie to serial q s ∙ ap (λ b. b && eqb serial s) apart

    go : (b : Bool) → count_of (cond b (map_of.remove c (to, serial))
        (map_of.insert c (to, serial) (count_of c to serial - amount))) q s ≡ count_of c q s
    go true = ap (λ o. unwrap_or o 0) (get-remove entry_total c (to, serial) (q, s))
        ∙ ap (λ b. unwrap_or (cond b None (map_of.get c (q, s))) 0) other
    go false = ap (λ o. unwrap_or o 0) (get-insert entry_total c (to, serial)
        (count_of c to serial - amount) (q, s))
        ∙ ap (λ b. unwrap_or
        (cond b (Some (count_of c to serial - amount)) (map_of.get c (q, s))) 0) other

-- ---- what stays

-- ends and counts that stay make entries that do
stays : (q : ℕ) (p r : Own) → is_open r.node q ≡ is_open p.node q →
    (is_open p.node q ≡ true → (s : ℕ) → count_of r.counts q s ≡ count_of p.counts q s) →
    lends_to q r.node ≡ lends_to q p.node → StaysFor q p r
stays q p r end counts lends = record {
  end = end;
  entries = λ s. ap (λ b. b && nat_lt 0 (count_of r.counts q s)) end ∙ go s (is_open p.node q) refl;
  counts = counts;
  lends = lends;
}
  where
    go : (s : ℕ) (b : Bool) → is_open p.node q ≡ b →
        (is_open p.node q && nat_lt 0 (count_of r.counts q s)) ≡ is_counted p q s
    go s true there = ap (λ n. is_open p.node q && nat_lt 0 n) (counts there s)
    go s false shut = ap (λ b. b && nat_lt 0 (count_of r.counts q s)) shut
        ∙ sym (ap (λ b. b && nat_lt 0 (count_of p.counts q s)) shut)

-- nothing changed
stays_same : (q : ℕ) (p : Own) → StaysFor q p p
stays_same q p =
    record { end = refl; entries = λ s. refl; counts = λ there s. refl; lends = refl }

-- one after another
stays_then : (q : ℕ) (p r t : Own) → StaysFor q p r → StaysFor q r t → StaysFor q p t
stays_then q p r t first second = record {
  end = second.end ∙ first.end;
  entries = λ s. second.entries s ∙ first.entries s;
  counts = λ there s. second.counts (first.end ∙ there) s ∙ first.counts there s;
  lends = second.lends ∙ first.lends;
}

-- what an effect keeps, its counts keep
counted_stays : (q : ℕ) (p : Own) (e : Effect) → Keeps q p.node e → StaysFor q p (counted p e)
counted_stays q p e keeps = stays q p (counted p e) keeps.end
    (λ there s.
    open_count e.node (fold (named_to p.node.port) p.counts e.sent) q s (keeps.end ∙ there)
    ∙ sent_aside p.node.port q s e.sent keeps.sent p.counts)
    keeps.lends

-- so does the whole move
move_stays : (q : ℕ) (p : Own) (e : Effect) → Keeps q p.node e →
    StaysFor q p (site_move p e).own
move_stays q p e keeps =
    let r = counted p e in
    let d = leaving (is_counted r) r.node in
    stays_then q p r (counted r d) (counted_stays q p e keeps)
    (counted_stays q r d (keeps_leaving q (is_counted r) r.node))

module _ (from q : ℕ) (apart : (from == q) ≡ false) where
  -- the end towards the peer closes
  closed_stays : (p : Own) → StaysFor q p (site_move p (closing from p.node)).own
  closed_stays p =
      move_stays q p (closing from p.node) (keeps_closing from q apart p.node)

  -- names that the peer gives back
  released_stays : (f : Frame) (p : Own) → StaysFor q p (released_by from f p)
  released_stays (frames.Release serial amount) p = stays q p (given_back from serial amount p) refl
      (λ there s. lowered_aside p.counts from serial amount q s apart) refl
  released_stays (frames.Call number serial selector packet) p = stays_same q p
  released_stays (frames.Oneway serial selector packet) p = stays_same q p
  released_stays (frames.Reply number packet) p = stays_same q p
  released_stays (frames.Raised number e) p = stays_same q p
  released_stays (frames.RootAsk number) p = stays_same q p
  released_stays (frames.RootAnswer number packet) p = stays_same q p
  released_stays (frames.Retain serial token) p = stays_same q p
  released_stays (frames.Granted serial token) p = stays_same q p
  released_stays (frames.Gone serial token) p = stays_same q p
  released_stays (frames.Settle number) p = stays_same q p
  released_stays frames.Shutdown p = stays_same q p

  -- a frame that the peer may send
  frame_stays : (table : List Class) (f : Frame) (p : Own) →
      StaysFor q p (frame_move table from f p).own
  frame_stays table f p =
      let r = released_by from f p in
      let g = got from (item_of f) r in
      stays_then q p r (frame_move table from f p).own (released_stays f p)
      (stays_then q r g (frame_move table from f p).own
      (record { end = refl; entries = λ s. refl; counts = λ there s. refl; lends = refl })
      (move_stays q g (take_effect (site_context table r) from (item_of f))
      (keeps_take from q apart (site_context table r) (item_of f))))

  -- whatever the peer sends
  takes_stays : (table : List Class) (p : Part) (read : Result Frame ℕ) →
      StaysFor q p.own (takes table p from read).part.own
  takes_stays table p (Err place) = closed_stays p.own
  takes_stays table p (Ok f) = go (peer_fault p.own from f)
    where
      go : (fault : Option PeerFault) →
          StaysFor q p.own (takes_frame table (having_read from f p) from f fault).part.own
      go None = frame_stays table f p.own
      go (Some fault) = closed_stays p.own

-- no input from one peer changes what a site keeps for another
pub other_stays : (table : List Class) (act : Acting) (p : Part) (input : Input) (peer q : ℕ) →
    peer_of input ≡ Some peer → (peer == q) ≡ false →
    StaysFor q p.own (site_step table act p input).part.own
other_stays table act p (inputs.Frame from f) peer q is apart =
    go (can_take from p.own.node)
  where
    mine : (from == q) ≡ false
    mine = let same : from ≡ peer = cc (is) in subst (λ x. (x == q) ≡ false) (sym same) apart

    go : (can : Bool) → StaysFor q p.own (unwrap_or (cond (not can) None
        (Some (takes table p from (read_frame table from p.own.node.port (names_read p from) f))))
        (passed p)).part.own
    go true = takes_stays from q mine table p
        (read_frame table from p.own.node.port (names_read p from) f)
    go false = stays_same q p.own
other_stays table act p (inputs.Close from) peer q is apart = go (is_open p.own.node from)
  where
    mine : (from == q) ≡ false
    mine = let same : from ≡ peer = cc (is) in subst (λ x. (x == q) ≡ false) (sym same) apart

    go : (there : Bool) → StaysFor q p.own (unwrap_or (cond (not there) None
        (Some (moves p (closing from p.own.node)))) (passed p)).part.own
    go true = closed_stays from q mine p.own
    go false = stays_same q p.own
other_stays table act p (inputs.Ended from) peer q is apart = go (can_take from p.own.node)
  where
    mine : (from == q) ≡ false
    mine = let same : from ≡ peer = cc (is) in subst (λ x. (x == q) ≡ false) (sym same) apart

    go : (can : Bool) → StaysFor q p.own (unwrap_or (cond (not can) None
        (Some (moves p (take_effect (site_context table p.own) from (End [])))))
        (passed p)).part.own
    go true = move_stays q p.own (take_effect (site_context table p.own) from (End []))
        (keeps_take from q mine (site_context table p.own) (End []))
    go false = stays_same q p.own
other_stays table act p inputs.Run peer q is apart = absurd (cc (is))
other_stays table act p (inputs.Start selector values) peer q is apart = absurd (cc (is))
other_stays table act p inputs.Timeout peer q is apart = absurd (cc (is))
