-- The steps of reading numbers beside some that are left out.
use Rattle.std.proofs.Common.{◌≡◌, ℕ, zero, suc, ◌+◌, ◌-◌, ◌*◌, ◌<◌, ◌≤◌, ◌^◌, Bool, true, false}
use Rattle.std.proofs.Common.{cond, List, [], ◌∷◌, length, Ok, Err, refl, ap, ◌∙◌, arith, max}
use Rattle.std.{specs.Prelude.{◌&&◌, nat_le, nat_lt}, proofs.lemmas.Bool.Decides.nat_tests}
use Rattle.do_grammar.specs.{Reader.{no_kind, short, bad}, Grammar.Takes, Num.{span, least_of, Num}}
use Rattle.do_grammar.specs.BesideHoles.{is_hole, next_beside, reaches_beside, digits_beside}
use Rattle.do_grammar.specs.BesideHoles.{sized_beside, num_beside}
use Rattle.do_grammar.proofs.texts.NextBeside.{next_up, next_least, free_stays}
use Rattle.do_grammar.proofs.texts.BesideExact.{Reads-beside}

module _ (holes : List ℕ) (low high least : ℕ) where
  -- no byte of the number is left
  pub none : (k : ℕ) (bytes : List ℕ) → k ≡ 0
      → digits_beside holes low high k least bytes ≡ Ok (least, bytes)
  none k bytes e = rw e refl

  -- the bytes end before the number does
  pub empty : (k : ℕ) (bytes : List ℕ) → 0 < k → bytes ≡ []
      → digits_beside holes low high k least bytes ≡ Err short
  empty zero bytes lt e = absurd (omega arith)
  empty (suc k) bytes lt e = rw e refl

  module _ (k b : ℕ) (bytes after : List ℕ) (some : 0 < k) (parts : bytes ≡ b ∷ after) where
    abbrev next : ℕ
    next = least + b * span (k - 1)

    opened : digits_beside holes low high k least bytes
        ≡ cond (reaches_beside holes low high (k - 1) next)
        (digits_beside holes low high (k - 1) next after) (Err (bad no_kind (length bytes)))
    opened = rw parts (go k some)
      where
        go : (k : ℕ) → 0 < k
            → digits_beside holes low high k least (b ∷ after)
            ≡ cond (reaches_beside holes low high (k - 1) (least + b * span (k - 1)))
            (digits_beside holes low high (k - 1) (least + b * span (k - 1)) after)
            (Err (bad no_kind (length (b ∷ after))))
        go zero lt = absurd (omega arith)
        go (suc k) lt =
            let e : suc k - 1 ≡ k = omega arith in
            rw e (turn (reaches_beside holes low high k (least + b * span k)) refl)
          where
            turn : (t : Bool) → reaches_beside holes low high k (least + b * span k) ≡ t
                → digits_beside holes low high (suc k) least (b ∷ after)
                ≡ cond (reaches_beside holes low high k (least + b * span k))
                (digits_beside holes low high k (least + b * span k) after)
                (Err (bad no_kind (length (b ∷ after))))
            turn true t = rw t refl
            turn false t = rw t refl

    pub goes : next_beside holes (max low next) ≤ high
        → next_beside holes (max low next) < next + span (k - 1)
        → digits_beside holes low high k least bytes
        ≡ digits_beside holes low high (k - 1) next after
    goes p q =
        let t : reaches_beside holes low high (k - 1) next ≡ true = grind (arith, nat_tests) in
        opened ∙ rw t refl

    pub too_high : high < next
        → digits_beside holes low high k least bytes ≡ Err (bad no_kind (length bytes))
    too_high p =
        let up = next_up holes (max low next) in
        let h : high < next_beside holes (max low next) = omega arith in
        let t : reaches_beside holes low high (k - 1) next ≡ false = grind (arith, nat_tests) in
        opened ∙ rw t refl

    pub none_free : high < next_beside holes (max low next)
        → digits_beside holes low high k least bytes ≡ Err (bad no_kind (length bytes))
    none_free h =
        let t : reaches_beside holes low high (k - 1) next ≡ false = grind (arith, nat_tests) in
        opened ∙ rw t refl

    pub beyond : next + span (k - 1) ≤ next_beside holes (max low next)
        → digits_beside holes low high k least bytes ≡ Err (bad no_kind (length bytes))
    beyond h =
        let t : reaches_beside holes low high (k - 1) next ≡ false = grind (arith, nat_tests) in
        opened ∙ rw t refl

pub ruleset steps = (none, empty, goes, too_high, none_free, beyond)

-- ---- how many bytes

module _ (holes : List ℕ) (low high : ℕ) where
  -- what the reader without holes reads, and is not left out, is read
  pub fast : (bytes : List ℕ) (n : ℕ) (rest : List ℕ) → high < 2 ^ 64
      → Takes (Num low high) bytes n rest → is_hole holes n ≡ false
      → num_beside holes low high bytes ≡ Ok (n, rest)
  fast bytes n rest small t free =
      let least = t.spelled.at_least in
      let most = t.spelled.at_most in
      let some = next_least holes low n least (free_stays holes n free) in
      ap (num_beside holes low high) t.parts
      ∙ (Reads-beside holes low high (omega arith) small).reads_spelling t.text n rest
      (record {
        bytes = t.spelled.spelled;
        fits = record { at_least = least; at_most = most; beside = free };
      })

  -- no byte stands there
  pub no_size : (bytes : List ℕ) → bytes ≡ [] → num_beside holes low high bytes ≡ Err short
  unfolding num_beside
  no_size bytes e = rw e refl

  module _ (n : ℕ) (bytes after : List ℕ) (parts : bytes ≡ n ∷ after) where
    abbrev from : ℕ
    from = max low (least_of n)

    sized_opened : num_beside holes low high bytes
        ≡ cond (sized_beside holes low high n) (digits_beside holes from high n 0 after)
        (Err (bad no_kind (length bytes)))
    unfolding num_beside
    sized_opened = rw parts (turn (sized_beside holes low high n) refl)
      where
        turn : (t : Bool) → sized_beside holes low high n ≡ t
            → num_beside holes low high (n ∷ after)
            ≡ cond (sized_beside holes low high n)
            (digits_beside holes (max low (least_of n)) high n 0 after)
            (Err (bad no_kind (length (n ∷ after))))
        turn true t = rw t refl
        turn false t = rw t refl

    top : max from 0 ≡ from
    top = omega arith

    size_test : sized_beside holes low high n
        ≡ (nat_le n 8 && (nat_le (next_beside holes from) high && nat_lt (next_beside holes from)
        (0 + span n)))
    size_test = rw top refl

    pub size_goes : n ≤ 8 → next_beside holes from ≤ high → next_beside holes from < span n
        → num_beside holes low high bytes ≡ digits_beside holes from high n 0 after
    size_goes a b c =
        let t : (nat_le n 8 && (nat_le (next_beside holes from) high && nat_lt
        (next_beside holes from) (0 + span n))) ≡ true = grind (arith, nat_tests) in
        sized_opened ∙ rw (size_test ∙ t) refl

    pub size_long : 8 < n → num_beside holes low high bytes ≡ Err (bad no_kind (length bytes))
    size_long a =
        let t : (nat_le n 8 && (nat_le (next_beside holes from) high && nat_lt
        (next_beside holes from) (0 + span n))) ≡ false = grind (arith, nat_tests) in
        sized_opened ∙ rw (size_test ∙ t) refl

    pub size_none : high < next_beside holes from
        → num_beside holes low high bytes ≡ Err (bad no_kind (length bytes))
    size_none a =
        let t : (nat_le n 8 && (nat_le (next_beside holes from) high && nat_lt
        (next_beside holes from) (0 + span n))) ≡ false = grind (arith, nat_tests) in
        sized_opened ∙ rw (size_test ∙ t) refl

    pub size_beyond : span n ≤ next_beside holes from
        → num_beside holes low high bytes ≡ Err (bad no_kind (length bytes))
    size_beyond a =
        let t : (nat_le n 8 && (nat_le (next_beside holes from) high && nat_lt
        (next_beside holes from) (0 + span n))) ≡ false = grind (arith, nat_tests) in
        sized_opened ∙ rw (size_test ∙ t) refl

pub ruleset sizes = (fast, no_size, size_goes, size_long, size_none, size_beyond)
