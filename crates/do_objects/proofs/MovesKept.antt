-- What each move keeps of what a node stores, and that the node is whole.
use Rattle.do_behave.specs.declared.invocation.Reason.TheVariants as reasons
use Rattle.do_facts.specs.nodes.Moves as moves
use Rattle.do_facts.specs.nodes.Cause.{frees}
use Rattle.std.proofs.Common.{◌≡◌, ◌∙◌, ◌==◌, ◌++◌, ◌≤◌, ℕ, false, cond, List, [], ◌∷◌, refl, sym}
use Rattle.std.proofs.Common.{ap, subst, length, append_assoc, append-nil, arith}
use Rattle.std.{specs.List.flat_map, proofs.lemmas.List.length-set}
use Rattle.do_base.specs.declared.values.value.Value.{Value, TheVariants.{Nil, Obj, Text}}
use Rattle.do_behave.specs.declared.{act.Write.Write, invocation.Invocation.Invocation}
use Rattle.do_behave.specs.declared.invocation.Reason.{Reason}
use Rattle.do_machine.specs.declared.{node.Node.Node, item.Message.Message, state.Parcel.Parcel}
use Rattle.do_base.specs.declared.events.shown.Shown.{Shown}
use Rattle.do_packet.specs.declared.receipt.Made.{Made}
use Rattle.do_behave.specs.declared.invocation.{Handler.Handler, InvState.TheVariants.Below}
use Rattle.do_behave.specs.declared.invocation.Answer.{Answer}
use Rattle.do_facts.specs.Net.{Note}
use Rattle.do_machine.specs.run.Run.{slots_seen}
use Rattle.std.specs.Prelude.{Option, Some, slice_set}
use Rattle.do_machine.specs.declared.verdict.Verdict.{Verdict}
use Rattle.do_facts.specs.nodes.Atoms.{Atom}
use Rattle.do_machine.specs.{Context.{Found, method_for, own_class}, State.{own, stored}}
use Rattle.do_machine.specs.{ends.Closing.without_answer, run.Answers.exc_name}
use Rattle.do_machine.specs.run.{Changes.{goes_on, stands}, Delivery.below_answered}
use Rattle.do_machine.specs.run.{Fresh.{fresh, pushed, with_objects}, Send.inputs}
use Rattle.do_machine.specs.take.Awaiting.{awaits, with_answer}
use Rattle.do_facts.{specs.Moves.{Mays, afters}, proofs.EachOfLists.{each_changed, each_mapped}}
use Rattle.do_facts.proofs.methods.FewArguments.{fitting_length, inputs_length, outs_length}
use Rattle.do_facts.specs.nodes.{Judged.{IsAdmitted, Judge, Judged, read}, May.{may, rules}}
use Rattle.do_facts.specs.nodes.{Moves.{Move, Top, Wrote}, After.{after, closed, turned, wrote_by}}
use Rattle.do_facts.proofs.nodes.Walks.{Does}
use Rattle.do_objects.proofs.{Finding.written_at, Kept.{Keeps, idle, keeps_by, makes, none}}
use Rattle.do_objects.proofs.Kept.{restacks, same_writes, still_made, then_keeps}
use Rattle.do_objects.proofs.Known.{HoldsAfter, HoldsBegun, Known}
use Rattle.do_objects.proofs.Whole.{AreOwn, IsMade, IsOwn, IsWhole, begun_own, stock}

-- what is written so to the object of a serial
abbrev pub written_to : List Wrote → ℕ → List Write
written_to [] k = []
written_to (w ∷ ws) k = cond (w.serial == k) w.writes [] ++ written_to ws k

-- what is written, and then more
written_behind : (ws more : List Wrote) (k : ℕ) →
    written_to (ws ++ more) k ≡ written_to ws k ++ written_to more k
written_behind [] more k = refl
written_behind (w ∷ ws) more k =
    ap (λ xs. cond (w.serial == k) w.writes [] ++ xs) (written_behind ws more k)
    ∙ sym (append_assoc (cond (w.serial == k) w.writes []) (written_to ws k) (written_to more k))

module _ (W : Known) (j : Judge) (acts : frees j.cause ≡ false) (begin : HoldsBegun W j.table)
    (goes : (i : Invocation) (slots : List Value) → HoldsAfter W i (j.act j.table i slots)) where
  -- a node that keeps what the first one stores, with these writes
  abbrev pub After : (ℕ → List Write) → Node → Type 0
  After ws n = Keeps W ws (stock j.first) (stock n)

  module _ (ws : ℕ → List Write) (n : Node) (h : After ws n) where
    -- another, where nothing is written
    abbrev Same : Node → Type 0
    Same m = After (λ k. ws k ++ []) m

    -- one that stores the same
    quiet : (m : Node) → After ws m → Same m
    quiet m k = same_writes _ _ ws (λ k. ws k ++ []) (λ k. append-nil (ws k)) k

    -- one with other invocations
    restacked : (stack : List Invocation) →
        (IsWhole W (stock j.first) → IsWhole W (stock n) → AreOwn W (stock n) stack) →
        Same (record n { stack = stack })
    restacked stack own =
        quiet (record n { stack = stack }) (restacks (stock j.first) (stock n) stack h own)

    module _ (t : Top) (tied : n.stack ≡ t.top ∷ t.below) where
      -- the invocations are own
      tops : IsWhole W (stock n) → AreOwn W (stock n) (t.top ∷ t.below)
      tops s = subst (AreOwn W (stock n)) tied s.invocations

      -- the top one stays so with other locals, as many
      located : (i : Invocation) → i.object ≡ t.top.object → i.method ≡ t.top.method →
          length i.locals ≡ length t.top.locals → After ws (turned t i n)
      located i object method same = restacks (stock j.first) (stock n) (i ∷ t.below) h (λ _ s. (
        (
          subst (λ o. IsMade (stock n) o.serial i.method.class) (sym object)
              (subst (λ m. IsMade (stock n) t.top.object.serial m.class) (sym method)
              (tops s).0.0),
          subst (λ m. W m (length i.locals)) (sym method)
              (subst (W t.top.method) (sym same) (tops s).0.1),
        ),
        (tops s).1,
      ))

      -- where nothing is written
      relocated : (i : Invocation) → i.object ≡ t.top.object → i.method ≡ t.top.method →
          length i.locals ≡ length t.top.locals → Same (turned t i n)
      relocated i object method same = quiet (turned t i n) (located i object method same)

      -- without it
      popped : Same (record n { stack = t.below })
      popped = restacked t.below (λ _ s. (tops s).1)

    -- an invocation begins, of a method that was found for an own object as the effect began
    begun : (serial : ℕ) (selector : List ℕ) (m : Found) (reason : Reason)
        (values : List Value) (i : Invocation) (stack : List Invocation) →
        method_for j.table (own_class j.first serial) selector ≡ Some m →
        length values ≤ length m.signature.args → i.object.serial ≡ serial →
        i.method ≡ m.id → length i.locals ≡ length (fresh (own j.first serial) m.id reason
        values).locals → (IsWhole W (stock n) → AreOwn W (stock n) stack) →
        Same (record n { stack = i ∷ stack })
    begun serial selector m reason values i stack found few object method locals own =
        restacked (i ∷ stack) (λ f s.
        let b = begun_own W j.table begin j.first serial selector m reason values f.given found
        few in (
          (
            subst (λ k. IsMade (stock n) k i.method.class) (sym object)
                (subst (λ x. IsMade (stock n) serial x.class) (sym method)
                (still_made _ _ h.heap serial m.id.class b.0)),
            subst (λ x. W x (length i.locals)) (sym method)
                (subst (W m.id) (sym locals) b.1),
          ),
          own s,
        ))

    -- the invocation below is answered
    below_own : (below : List Invocation) → AreOwn W (stock n) below →
        (a : Answer) → AreOwn W (stock n) (below_answered a below)
    below_own [] h a = h
    below_own (i ∷ is) h a = h

    -- the stack of the node, where a verdict was given
    tied : {v : Verdict} {t : Top} → Judged j v t n → n.stack ≡ t.top ∷ t.below
    tied d = d.since.stack ∙ d.stack

    -- objects are made
    makes_then : (m : Node) (new : List Made) → After ws m → Same (with_objects new m)
    makes_then m new k = then_keeps ws none _ _ _ k (makes (stock m) new)

    -- a message is admitted
    admitted : (from : ℕ) (x : Message) (reason : Reason) (i : Invocation) →
        IsAdmitted j from x reason i n → Same (pushed i n)
    admitted from x reason i a =
        begun x.target x.selector a.found reason (read j from x.packet) i n.stack a.method
        (omega (arith, fitting_length a.found.signature (read j from x.packet) a.fits))
        (ap (λ k. k.object.serial) a.begins) (ap (λ k. k.method) a.begins)
        (ap (λ k. length k.locals) a.begins) (λ s. s.invocations)

    -- a node that parts from a peer
    parts : (peer : ℕ) → Same (closed peer n)
    parts peer =
        restacked _ (λ _ s.
        each_mapped (IsOwn W (stock n)) (without_answer peer) n.stack s.invocations)

    -- slots are written, and the top invocation has other locals
    stepped : (t : Top) (pc : ℕ) (locals : List Value) (handler : Option Handler)
        (writes : List Write) → may j n (moves.Steps t pc locals handler writes) →
        After (λ k. ws k ++ written_to (wrote_by (moves.Steps t pc locals handler writes)) k)
        (after n (moves.Steps t pc locals handler writes))
    stepped t pc locals handler writes m =
        let serial = t.top.object.serial in
        let slots = slots_seen (stored serial j.first.heap) in
        let known : W t.top.method (length t.top.locals) → W t.top.method (length locals) =
        subst (HoldsAfter W t.top) m.2 (goes t.top slots) in
        let whole = tops t (tied m.0) in
        same_writes _ _ (λ k. ws k ++ cond (serial == k) writes []) _
        (λ k. ap (λ xs. ws k ++ xs) (append-nil (cond (serial == k) writes [])))
        (then_keeps ws (λ k. cond (serial == k) writes []) _ _ _ h
        (keeps_by W (stock n) _
        (record {
          kept = λ k x was. grind (arith, written_at k serial writes n.heap, was);
          gone = λ k new was. grind (arith, written_at k serial writes n.heap, was);
          next = omega arith;
        })
        (λ s. (((whole s).0.0, known (whole s).0.1), (whole s).1))))

    -- each move
    pub each : (v : Move) → may j n v → After (λ k. ws k ++ written_to (wrote_by v) k) (after n v)
    each (moves.Goes t into value pc) m =
        relocated t (tied m) _ refl refl (length-set t.top.locals into value)
    each (moves.Uses t result outs) m =
        let locals = slice_set t.top.locals t.top.into result in
        relocated t (tied m) _ refl refl
        (outs_length t.top.outs outs locals ∙ length-set t.top.locals t.top.into result)
    each (moves.Steps t pc locals handler writes) m = stepped t pc locals handler writes m
    each (moves.Makes t made into pc) m =
        let i = goes_on into (Obj (own n n.next_serial)) pc t.top in
        makes_then (turned t i n) (made ∷ [])
        (located t (tied m.1) i refl refl
        (length-set t.top.locals into (Obj (own n n.next_serial))))
    each (moves.Vends t root pc) m = relocated t (tied m) _ refl refl refl
    each (moves.Says t value pc) m = relocated t (tied m) _ refl refl refl
    each (moves.Begins t o method values into outs pc) m =
        let b = m.1 in
        begun o.serial b.send.selector b.found reasons.Local (inputs b.found.signature b.send)
        (fresh o method reasons.Local values)
        (stands pc into outs Below t.top ∷ t.below) b.method_found
        (inputs_length b.found.signature.args b.send.args) refl b.method_is
        (ap (λ vs. length (fresh o method reasons.Local vs).locals) b.values_are)
        (tops t (tied m.0))
    each (moves.AsksRoot t to into outs pc) m = relocated t (tied m.1) _ refl refl refl
    each (moves.Calls t to method x into outs pc) m = relocated t (tied m.1) _ refl refl refl
    each (moves.Tells t to x into pc) m =
        relocated t (tied m.1) _ refl refl (length-set t.top.locals into Nil)
    each (moves.Catches t e k) m =
        relocated t (tied m.1) _ refl refl
        (length-set t.top.locals k.into (Text (exc_name e)))
    each (moves.Finishes t a shown) m = popped t (tied m.2.judged)
    each (moves.Answers t a) m =
        restacked _ (λ _ s. below_own t.below (tops t (tied m.1.judged) s).1 a)
    each (moves.Replies t to number v outs packet) m = popped t (tied m.2.judged)
    each (moves.Raises t to number e) m = popped t (tied m.4.judged)
    each (moves.Starts i) m =
        begun m.root m.selector m.found reasons.Start m.values i n.stack m.method
        (omega (arith, fitting_length m.found.signature m.values m.fits))
        (ap (λ k. k.object.serial) m.begins) (ap (λ k. k.method) m.begins)
        (ap (λ k. length k.locals) m.begins) (λ s. s.invocations)
    each (moves.TimesOut t call peer what) m = relocated t m.0 _ refl refl refl
    each (moves.Closes peer) m = parts peer
    each (moves.Unpacks from packet copies) m = makes_then n copies h
    each (moves.Serves from number x i) m = admitted from x (reasons.Call from number) i m.1
    each (moves.Obeys from x i) m = admitted from x (reasons.Oneway from) i m.1
    each (moves.Receives k item answer) m =
        restacked _ (λ _ s.
        each_changed (IsOwn W (stock n)) (λ i. awaits k i.state) (with_answer answer)
        (λ i own. own) n.stack s.invocations)
    each (moves.Parts from serials) m = parts from
    each (moves.Strikes heap shown) m = absurd (cc (acts, m.0))
    each (moves.Leaves o) m = quiet n h
    each _ m = quiet n h

  -- moves, one after another
  by_moves : (ws : ℕ → List Write) (n : Node) (vs : List Move) → Mays (rules j) n vs → After ws n →
      After (λ k. ws k ++ written_to (flat_map wrote_by vs) k) (afters (rules j) n vs)
  by_moves ws n [] mays h = same_writes _ _ ws _ (λ k. append-nil (ws k)) h
  by_moves ws n (v ∷ vs) mays h =
      let first = λ (k : ℕ). ws k ++ written_to (wrote_by v) k in
      let rest = written_to (flat_map wrote_by vs) in
      same_writes _ _ (λ k. first k ++ rest k) _
      (λ k. ap (λ xs. ws k ++ xs) (written_behind (wrote_by v) (flat_map wrote_by vs) k)
      ∙ sym (append_assoc (ws k) (written_to (wrote_by v) k) (rest k)))
      (by_moves first (after n v) vs mays.1 (each ws n h v mays.0))

  -- what they come to
  pub by_walk : {q : Node} {taken : List (Note Atom)} {written : List Wrote}
      {sent : List Parcel} {shown : List Shown} → Does j j.first taken written q sent shown →
      After (written_to written) q
  by_walk {q} {taken} {written} {sent} {shown} d =
      let came = by_moves none j.first d.walk.moves d.walk.may (idle (stock j.first)) in
      subst (λ xs. After (written_to xs) q) d.walk.writes
      (subst (After (written_to (flat_map wrote_by d.walk.moves))) d.walk.reaches came)
