-- What is read off a stack whose invocations are counted from the bottom.
use Rattle.std.proofs.Common.{◌≡◌, ℕ, zero, suc, Bool, true, false, cond, List, [], ◌∷◌, None, Some}
use Rattle.std.proofs.{Common.{Option, ap, refl, sym, ◌∙◌, arith, length}, lemmas.List.drop_all}
use Rattle.std.specs.{Prelude.{drop, is_some, slice_get, ◌-◌, ◌<◌, ◌≤◌, ◌||◌}, List.list_any}
use Rattle.do_behave.specs.declared.invocation.{Invocation.Invocation, InvState.InvState}
use Rattle.do_behave.specs.declared.invocation.InvState.TheVariants.{Answered, Below, Running}
use Rattle.do_behave.specs.declared.invocation.{InvState.TheVariants.Waits, Waited.Waited}
use Rattle.do_machine.specs.take.Awaiting.{AnsweredCall, awaits, is_answered}
use Rattle.do_rules.specs.Answering.{asked_by, awaited_in}

module _ {X : Type 0} where
  -- what stands behind a place that has an element
  drop_got : (xs : List X) (i : ℕ) (x : X) → Some x ≡ slice_get xs i →
      drop i xs ≡ x ∷ drop (suc i) xs
  drop_got [] i x e = cc
  drop_got (y ∷ ys) zero x e = let same : x ≡ y = cc in ap (λ z. z ∷ ys) (sym same)
  drop_got (y ∷ ys) (suc i) x e = drop_got ys i x e

  -- nothing stands behind a place that has none
  drop_none : (xs : List X) (i : ℕ) → None ≡ slice_get xs i → drop i xs ≡ []
  drop_none [] zero e = refl
  drop_none [] (suc i) e = refl
  drop_none (y ∷ ys) zero e = cc
  drop_none (y ∷ ys) (suc i) e = drop_none ys i e

module _ (k : AnsweredCall) (xs : List Invocation) (h : ℕ) (some : 0 < h) (most : h ≤ length xs)
  where
    at_place : length xs - 1 - (h - 1) ≡ length xs - h
    at_place = omega arith

    -- of so many invocations from the bottom on, the top one waits for an answer or one below it
    one_awaits : (x : Invocation) → Some x ≡ slice_get xs (length xs - 1 - (h - 1)) →
        cond (awaits k x.state) (asked_by x.state) (awaited_in k (drop (length xs - (h - 1)) xs))
        ≡ awaited_in k (drop (length xs - h) xs)
    one_awaits x e =
        let got : Some x ≡ slice_get xs (length xs - h) = rw at_place at e in
        let next : length xs - (h - 1) ≡ suc (length xs - h) = omega arith in
        rw next (ap (λ is. awaited_in k is) (sym (drop_got xs (length xs - h) x got)))

    -- it has what it asked for
    pub top_awaits : (x : Invocation) → Some x ≡ slice_get xs (length xs - 1 - (h - 1)) →
        awaits k x.state ≡ true → asked_by x.state ≡ awaited_in k (drop (length xs - h) xs)
    top_awaits x e waits =
        ap (λ b. cond b (asked_by x.state) (awaited_in k (drop (length xs - (h - 1)) xs)))
        (sym waits) ∙ one_awaits x e

    -- where it does not wait, one below it may
    pub rest_awaits : (x : Invocation) → Some x ≡ slice_get xs (length xs - 1 - (h - 1)) →
        awaits k x.state ≡ false →
        awaited_in k (drop (length xs - (h - 1)) xs) ≡ awaited_in k (drop (length xs - h) xs)
    rest_awaits x e waits =
        ap (λ b. cond b (asked_by x.state) (awaited_in k (drop (length xs - (h - 1)) xs)))
        (sym waits) ∙ one_awaits x e

    -- where none stands, none waits
    pub none_awaits : None ≡ slice_get xs (length xs - 1 - (h - 1)) →
        None ≡ awaited_in k (drop (length xs - h) xs)
    none_awaits e =
        let gone : None ≡ slice_get xs (length xs - h) = rw at_place at e in
        ap (λ is. awaited_in k is) (sym (drop_none xs (length xs - h) gone))

-- below all, none waits
pub bottom_awaits : (k : AnsweredCall) (xs : List Invocation) →
    None ≡ awaited_in k (drop (length xs - 0) xs)
bottom_awaits k xs = ap (λ is. awaited_in k is) (sym (drop_all (length xs - 0) xs (omega arith)))

-- who waits asked for something
state_asked : (k : AnsweredCall) (s : InvState) (rest : Option Waited) (b : Bool) →
    is_some rest ≡ b → is_some (cond (awaits k s) (asked_by s) rest) ≡ (awaits k s || b)
state_asked k Running rest b e = e
state_asked k Below rest b e = e
state_asked k (Answered a) rest b e = e
state_asked k (Waits call peer what) rest b e =
    elim (is_answered k peer call.number what) as (λ c.
    is_some (cond c (Some what) rest) ≡ (c || b)) [ true ↦ refl | false ↦ e ]

-- there is what was asked for just where an invocation waits
pub some_awaits : (k : AnsweredCall) (xs : List Invocation) →
    is_some (awaited_in k xs) ≡ list_any (λ i. awaits k i.state) xs
some_awaits k [] = refl
some_awaits k (i ∷ is) = state_asked k i.state (awaited_in k is) _ (some_awaits k is)

pub ruleset walk_steps = (none_awaits, bottom_awaits)
