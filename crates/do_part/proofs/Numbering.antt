-- The calls of a node stay numbered once where its invocations and late calls change.
use Rattle.std.proofs.Common.{◌≡◌, ℕ, ◌+◌, ◌<◌, ◌≤◌, Bool, true, false, cond, eqb, suc, sum_by}
use Rattle.std.proofs.Common.{List as Listed, [], ◌∷◌, map, refl, sym, ap, subst, arith, inl, inr}
use Rattle.std.{proofs.Common.{eqb-true, eq-eqb}, specs.Prelude.{not, filter, ◌⊎◌}}
use Rattle.std.proofs.lemmas.{Bool.cases_eq, List.{Filters.sum_by-filter_both, Sums.sum_by-cons}}
use Rattle.do_behave.specs.declared.invocation.{Invocation.Invocation, InvState.InvState}
use Rattle.do_behave.specs.declared.invocation.InvState.TheVariants.{Running, Below, Waits}
use Rattle.do_behave.specs.declared.invocation.{InvState.TheVariants.Answered, Waited.Waited}
use Rattle.do_machine.specs.{Lists.change_first, declared.node.LateCall.LateCall}
use Rattle.do_machine.specs.take.Take.{is_waiting}
use Rattle.do_stack.specs.{Stacked.Stacked, Waiting.with_top}
use Rattle.do_part.specs.Numbered.{IsNumbered, calls_at, late_at, waits_at, waits_away}
use Rattle.do_part.specs.{Sound.IsSound, declared.part.Part.TheInside.Inside}

-- a state is as it was, or waits for nothing
abbrev pub Eases : InvState → InvState → Type 0
Eases s t = (t ≡ s) ⊎ (is_waiting t ≡ false)

-- only states that wait weigh something
abbrev pub IsOfWaiting : (InvState → ℕ) → Type 0
IsOfWaiting w = (s : InvState) → is_waiting s ≡ false → w s ≡ 0

-- what invocations weigh by their states
abbrev pub weigh : (InvState → ℕ) → Listed Invocation → ℕ
weigh w stack = sum_by (λ i. w i.state) stack

-- no invocation waits that did not
pub record IsEased (a b : Listed Invocation) : Type 0 where
  pub less : (w : InvState → ℕ) → IsOfWaiting w → weigh w b ≤ weigh w a

-- a number is waited for where something waits
pub at-waiting : (k : ℕ) → IsOfWaiting (waits_at k)
at-waiting k Running free = refl
at-waiting k Below free = refl
at-waiting k (Waits call peer what) free = absurd (cc)
at-waiting k (Answered a) free = refl

-- another node's call is waited for where something waits
pub away-waiting : (port : ℕ) → IsOfWaiting (waits_away port)
away-waiting port Running free = refl
away-waiting port Below free = refl
away-waiting port (Waits call peer what) free = absurd (cc)
away-waiting port (Answered a) free = refl

-- a state that eases another weighs no more
eases-le : (w : InvState → ℕ) → IsOfWaiting w → (s t : InvState) → Eases s t → w t ≤ w s
eases-le w only s t (inl same) = let e = ap w same in omega (arith, e)
eases-le w only s t (inr free) = let e = only t free in omega (arith, e)

-- an invocation more weighs what it weighs besides
pub weigh-cons : (w : InvState → ℕ) (i : Invocation) (below : Listed Invocation)
    → weigh w (i ∷ below) ≡ w i.state + weigh w below
weigh-cons w i below = sum_by-cons (λ (j : Invocation). w j.state) i below

-- the top is eased
pub eased-top : (f : Invocation → Invocation) (stack : Listed Invocation)
    → ((i : Invocation) → Eases i.state (f i).state) → IsEased stack (with_top f stack)
eased-top f [] eases = record { less = λ w only. omega arith }
eased-top f (i ∷ below) eases = record {
  less = λ w only.
      let a = weigh-cons w i below in
      let b = weigh-cons w (f i) below in
      let c = eases-le w only i.state (f i).state (eases i) in
      omega (arith, a, b, c);
}

-- the first that passes is eased
pub eased-first : (test : Invocation → Bool) (f : Invocation → Invocation)
    (stack : Listed Invocation) → ((i : Invocation) → Eases i.state (f i).state)
    → IsEased stack (change_first test f stack)
eased-first test f [] eases = record { less = λ w only. omega arith }
eased-first test f (i ∷ below) eases = go (test i) (eased-first test f below eases)
  where
    go : (b : Bool) → IsEased below (change_first test f below)
        → IsEased (i ∷ below) (cond b (f i ∷ below) (i ∷ change_first test f below))
    go true later = record {
      less = λ w only.
          let a = weigh-cons w i below in
          let b = weigh-cons w (f i) below in
          let c = eases-le w only i.state (f i).state (eases i) in
          omega (arith, a, b, c);
    }
    go false later = record {
      less = λ w only.
          let a = weigh-cons w i below in
          let b = weigh-cons w i (change_first test f below) in
          let c = later.less w only in
          omega (arith, a, b, c);
    }

-- all are eased
pub eased-each : (f : Invocation → Invocation) (stack : Listed Invocation)
    → ((i : Invocation) → Eases i.state (f i).state) → IsEased stack (map f stack)
eased-each f [] eases = record { less = λ w only. omega arith }
eased-each f (i ∷ below) eases = record {
  less = λ w only.
      let a = weigh-cons w i below in
      let b = weigh-cons w (f i) (map f below) in
      let c = eases-le w only i.state (f i).state (eases i) in
      let d = (eased-each f below eases).less w only in
      omega (arith, a, b, c, d);
}

-- nothing changes
pub eased-same : (stack : Listed Invocation) → IsEased stack stack
eased-same stack = record { less = λ w only. omega arith }

-- the top is gone
pub eased-pop : (i : Invocation) (below : Listed Invocation) → IsEased (i ∷ below) below
eased-pop i below = record {
  less = λ w only. let a = weigh-cons w i below in omega (arith, a);
}

-- one that does not wait is on top
pub eased-push : (i : Invocation) (stack : Listed Invocation) → is_waiting i.state ≡ false
    → IsEased stack (i ∷ stack)
eased-push i stack free = record {
  less = λ w only. let a = weigh-cons w i stack in let b = only i.state free in omega (arith, a, b);
}

-- some of the late calls are no more
pub late-filter : (p : LateCall → Bool) (late : Listed LateCall) (k : ℕ)
    → late_at k (filter p late) ≤ late_at k late
late-filter p late k =
    let e = sum_by-filter_both p (λ c. not (p c)) (λ c. refl)
    (λ (c : LateCall). cond (eqb c.number k) 1 0) late in
    omega (arith, e)

-- calls are numbered once where fewer wait or are late
pub numbered-fewer : (port next : ℕ) (a b : Listed Invocation) (l m : Listed LateCall)
    → IsNumbered port a l next → ((k : ℕ) → calls_at k b m ≤ calls_at k a l)
    → weigh (waits_away port) b ≤ weigh (waits_away port) a → IsNumbered port b m next
numbered-fewer port next a b l m s fewer away = record {
  once = λ k. let x = s.once k in let y = fewer k in omega (arith, x, y);
  below = λ k above. let y = fewer k in s.below k (omega (arith, above, y));
  home = let x = s.home in omega (arith, x, away);
}

module _ (i : Inside) (s : IsSound i) (k : Stacked) (b : Listed Invocation) where
  -- so they are where none waits that did not, and late calls end
  pub numbered_ended : (m : Listed LateCall) → IsEased i.stack.invocations b
      → ((n : ℕ) → late_at n m ≤ late_at n i.stack.late) → k.invocations ≡ b → k.late ≡ m
      → IsNumbered i.holders.node k.invocations k.late i.next_call
  numbered_ended m eased fewer is late =
      subst (λ x. IsNumbered i.holders.node x k.late i.next_call) (sym is)
      (subst (λ y. IsNumbered i.holders.node b y i.next_call) (sym late)
      (numbered-fewer i.holders.node i.next_call i.stack.invocations b i.stack.late m s.numbered
      (λ n. let x = eased.less (waits_at n) (at-waiting n) in
      let y = fewer n in omega (arith, x, y))
      (eased.less (waits_away i.holders.node) (away-waiting i.holders.node))))

  -- and where late calls stay
  pub numbered_eased : IsEased i.stack.invocations b → k.invocations ≡ b → k.late ≡ i.stack.late
      → IsNumbered i.holders.node k.invocations k.late i.next_call
  numbered_eased eased is late =
      numbered_ended i.stack.late eased (λ n. omega arith) is late

module _ (port next : ℕ) (a : Listed Invocation) (l : Listed LateCall)
    (s : IsNumbered port a l next) where
  -- no call has the next number
  at_next : calls_at next a l ≡ 0
  at_next = elim (cases_eq (calls_at next a l) 0) [
    | inl none ↦ none
    | inr some ↦ absurd (let x = s.below next (omega arith) in omega (arith, x))
  ]

  -- calls are numbered once where the top waits for the next one
  pub numbered_called : (f : Invocation → Invocation) (peer : ℕ) (what : Waited) (k : Stacked)
      → ((i : Invocation)
      → (f i).state ≡ Waits (record { node = port; number = next }) peer what)
      → k.invocations ≡ with_top f a → k.late ≡ l
      → IsNumbered port k.invocations k.late (suc next)
  numbered_called f peer what k waits is late =
      subst (λ x. IsNumbered port x k.late (suc next)) (sym is)
      (subst (λ y. IsNumbered port (with_top f a) y (suc next)) (sym late) (record {
        once = λ n. once n (eqb next n) refl;
        below = λ n above. below n (eqb next n) refl above;
        home = let x = s.home in let y = away a in omega (arith, x, y);
      }))
    where
      -- the top is one more at the next number
      more : (n : ℕ) (stack : Listed Invocation)
          → weigh (waits_at n) (with_top f stack) ≤ weigh (waits_at n) stack + cond (eqb next n) 1 0
      more n [] = omega arith
      more n (i ∷ under) =
          let x = weigh-cons (waits_at n) i under in
          let y = weigh-cons (waits_at n) (f i) under in
          let z : waits_at n (f i).state ≡ cond (eqb next n) 1 0 = ap (waits_at n) (waits i) in
          omega (arith, x, y, z)

      -- none of another node
      away : (stack : Listed Invocation)
          → weigh (waits_away port) (with_top f stack) ≤ weigh (waits_away port) stack
      away [] = omega arith
      away (i ∷ under) =
          let x = weigh-cons (waits_away port) i under in
          let y = weigh-cons (waits_away port) (f i) under in
          let z : waits_away port (f i).state ≡ cond (eqb port port) 0 1 =
          ap (waits_away port) (waits i) in
          let e : ◌≡◌ {A = ℕ} (cond (eqb port port) 0 1) 0 =
          ap (λ b. cond b 0 1) (eq-eqb port port refl) in
          omega (arith, x, y, z, e)

      -- by whether it is the next number
      once : (n : ℕ) (b : Bool) → eqb next n ≡ b → calls_at n (with_top f a) l ≤ 1
      once n true e =
          let x = more n a in
          let y : ◌≡◌ {A = ℕ} (cond (eqb next n) 1 0) 1 = ap (λ b. cond b 1 0) e in
          let z : calls_at n a l ≡ 0 =
          subst (λ m. calls_at m a l ≡ 0) (eqb-true next n e) at_next in
          omega (arith, x, y, z)
      once n false e =
          let x = more n a in
          let y : ◌≡◌ {A = ℕ} (cond (eqb next n) 1 0) 0 = ap (λ b. cond b 1 0) e in
          let z = s.once n in
          omega (arith, x, y, z)

      below : (n : ℕ) (b : Bool) → eqb next n ≡ b → 0 < calls_at n (with_top f a) l → n < suc next
      below n true e above = let x = eqb-true next n e in omega (arith, x)
      below n false e above =
          let x = more n a in
          let y : ◌≡◌ {A = ℕ} (cond (eqb next n) 1 0) 0 = ap (λ b. cond b 1 0) e in
          let z = s.below n (omega (arith, above, x, y)) in
          omega (arith, z)
