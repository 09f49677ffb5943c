-- A part whose end towards a peer closes.
use Rattle.std.specs.FinMap as map
use Rattle.std.proofs.Common.{◌≡◌, ℕ, ◌+◌, ◌<◌, ◌≤◌, ◌==◌, ◌&&◌, Bool, true, false, cond, not, T}
use Rattle.std.proofs.Common.{List, [], ◌∷◌, Option, Some, None, is_some, filter, length, get_or}
use Rattle.std.proofs.Common.{refl, sym, ap, ◌∙◌, subst, arith, eq-eqb, eqb-true}
use Rattle.std.specs.Prelude.{suc, zero, nat_lt, position, remove, MatchOption}
use Rattle.std.specs.List.{AllByRecursion, IsDistinct, position_or_len}
use Rattle.std.proofs.lemmas.{List.Sums.sum_by-cons, Bool.{ltb-false, ltb-true, Decides.nat_tests}}
use Rattle.std.proofs.lemmas.List.Quantifiers.{position-Some}
use Rattle.do_export.specs.Counts.{Counts, HasNoneFrom}
use Rattle.do_ported.proofs.FirstOfPorts.{equal_either_way}
use Rattle.do_part.specs.{Seen.own_of, Sound.{IsSound, holders, uses}}
use Rattle.do_part.specs.declared.part.Part.TheInside.{Inside}
use Rattle.do_part.proofs.{Balanced.balanced-as, Entries.entries_to, PartingRows.open_parted}

-- the other peers
abbrev pub other_ends : ℕ → List ℕ → List ℕ
other_ends peer = filter (λ p. not (p == peer))

-- peers of which none is this one
none_closed : (peer : ℕ) (ends : List ℕ) → AllByRecursion (λ q. (peer == q) ≡ false) ends
    → other_ends peer ends ≡ ends
none_closed peer [] apart = refl
none_closed peer (p ∷ ps) apart =
    ap (λ b. cond (not b) (p ∷ other_ends peer ps) (other_ends peer ps)) (turned apart.0)
    ∙ ap (λ l. p ∷ l) (none_closed peer ps apart.1)
  where
    turned : (peer == p) ≡ false → (p == peer) ≡ false
    turned e = grind (arith, nat_tests)

-- distinct peers without one at a place are the others
closed_at : (peer : ℕ) (ends : List ℕ) (at : ℕ) → IsDistinct (λ (p q : ℕ). p == q) ends
    → at < length ends → get_or ends at 0 ≡ peer → remove ends at ≡ other_ends peer ends
unfolding IsDistinct
closed_at peer [] at apart within is = absurd (omega (arith, within))
closed_at peer (p ∷ ps) zero apart within is =
    sym (ap (λ b. cond (not b) (p ∷ other_ends peer ps) (other_ends peer ps))
    (eq-eqb p peer is)
    ∙ none_closed peer ps
    (subst (λ q. AllByRecursion (λ z. (q == z) ≡ false) ps) is apart.0))
closed_at peer (p ∷ ps) (suc at) apart within is =
    ap (λ l. p ∷ l) (closed_at peer ps at apart.1 (omega (arith, within)) is)
    ∙ sym (ap (λ b. cond (not b) (p ∷ other_ends peer ps) (other_ends peer ps)) first)
  where
    -- an element that all differ from is not one of them
    differs : (qs : List ℕ) (k : ℕ) → AllByRecursion (λ z. (p == z) ≡ false) qs → k < length qs
        → (p == get_or qs k 0) ≡ false
    differs [] k all within = absurd (omega (arith, within))
    differs (q ∷ qs) zero all within = all.0
    differs (q ∷ qs) (suc k) all within = differs qs k all.1 (omega (arith, within))

    first : (p == peer) ≡ false
    first = sym (ap (λ q. p == q) is) ∙ differs ps at apart.0 (omega (arith, within))

-- where no peer is this one all are others
no_place : (peer : ℕ) (ends : List ℕ) → length ends ≤ position_or_len (λ p. p == peer) ends
    → ends ≡ other_ends peer ends
no_place peer [] past = refl
no_place peer (p ∷ ps) past = go (p == peer) past (no_place peer ps)
  where
    go : (b : Bool) → suc (length ps) ≤ cond (not b) (1 + position_or_len (λ q. q == peer) ps) 0
        → (length ps ≤ position_or_len (λ q. q == peer) ps → ps ≡ other_ends peer ps)
        → p ∷ ps ≡ cond (not b) (p ∷ other_ends peer ps) (other_ends peer ps)
    go true past later = absurd (omega (arith, past))
    go false past later = ap (λ l. p ∷ l) (later (omega (arith, past)))

-- ports are compared either way round
pub port_place : (peer : ℕ) (ends : List ℕ) →
    position (λ p. peer == p) ends ≡ position (λ p. p == peer) ends
port_place peer ends = λ j. position (λ p. equal_either_way peer p j) ends

-- what is left of distinct peers without the place that a search found
pub closed_is : (peer : ℕ) (ends : List ℕ) → IsDistinct (λ (p q : ℕ). p == q) ends
    → (place : Option ℕ) → place ≡ position (λ p. p == peer) ends
    → MatchOption place (ends ≡ other_ends peer ends) (λ at. remove ends at ≡ other_ends peer ends)
closed_is peer ends apart place is =
    go (nat_lt (position_or_len (λ p. p == peer) ends) (length ends)) refl is
  where
    go : (b : Bool) → nat_lt (position_or_len (λ p. p == peer) ends) (length ends) ≡ b
        → place ≡ cond b (Some (position_or_len (λ p. p == peer) ends)) None
        → MatchOption place (ends ≡ other_ends peer ends)
        (λ at. remove ends at ≡ other_ends peer ends)
    go true e found =
        let within = ltb-true (position_or_len (λ p. p == peer) ends) (length ends) e in
        let passes = position-Some (λ p. p == peer) ends (position_or_len (λ p. p == peer) ends) 0
        (sym is ∙ found) in
        subst (λ o. MatchOption o (ends ≡ other_ends peer ends)
        (λ at. remove ends at ≡ other_ends peer ends)) (sym found)
        (closed_at peer ends (position_or_len (λ p. p == peer) ends) apart within
        (eqb-true _ peer passes.1))
    go false e found =
        let past = ltb-false (position_or_len (λ p. p == peer) ends) (length ends) e in
        subst (λ o. MatchOption o (ends ≡ other_ends peer ends)
        (λ at. remove ends at ≡ other_ends peer ends)) (sym found)
        (no_place peer ends past)

-- ---- what a part has then

-- of peers of whom this one has no entry as many have one without it
entries_closed : (c : Counts) (peer n : ℕ) → map.contains_key c (peer, n) ≡ false
    → (ends : List ℕ) → entries_to c n (other_ends peer ends) ≡ entries_to c n ends
entries_closed c peer n none [] = refl
entries_closed c peer n none (p ∷ ps) = go (p == peer) refl (entries_closed c peer n none ps)
  where
    -- one where a peer has an entry
    has : ℕ → ℕ
    has q = cond (map.contains_key c (q, n)) 1 0

    go : (b : Bool) → (p == peer) ≡ b → entries_to c n (other_ends peer ps) ≡ entries_to c n ps
        → entries_to c n (cond (not b) (p ∷ other_ends peer ps) (other_ends peer ps))
        ≡ entries_to c n (p ∷ ps)
    go true e later =
        let x = sum_by-cons has p ps in
        let z : has p ≡ 0 = ap (λ q. cond (map.contains_key c (q, n)) 1 0) (eqb-true p peer e)
        ∙ ap (λ b. cond b 1 0) none in
        omega (arith, later, x, z)
    go false e later =
        let x = sum_by-cons has p ps in
        let y = sum_by-cons has p (other_ends peer ps) in
        omega (arith, later, x, y)

-- distinct peers are distinct without one
distinct_closed : (peer : ℕ) (ends : List ℕ) → IsDistinct (λ (p q : ℕ). p == q) ends
    → IsDistinct (λ (p q : ℕ). p == q) (other_ends peer ends)
unfolding IsDistinct
distinct_closed peer [] apart = apart
distinct_closed peer (p ∷ ps) apart = go (p == peer) (distinct_closed peer ps apart.1)
  where
    all_closed : (qs : List ℕ) → AllByRecursion (λ z. (p == z) ≡ false) qs
        → AllByRecursion (λ z. (p == z) ≡ false) (other_ends peer qs)
    all_closed [] all = all
    all_closed (q ∷ qs) all = keep (q == peer) (all_closed qs all.1)
      where
        keep : (b : Bool) → AllByRecursion (λ z. (p == z) ≡ false) (other_ends peer qs)
            → AllByRecursion (λ z. (p == z) ≡ false)
            (cond (not b) (q ∷ other_ends peer qs) (other_ends peer qs))
        keep true rest = rest
        keep false rest = (all.0, rest)

    go : (b : Bool) → IsDistinct (λ (p q : ℕ). p == q) (other_ends peer ps)
        → IsDistinct (λ (p q : ℕ). p == q)
        (cond (not b) (p ∷ other_ends peer ps) (other_ends peer ps))
    go true rest = rest
    go false rest = (all_closed ps apart.0, rest)

-- they are no more
fewer_closed : (peer : ℕ) (ends : List ℕ) → length (other_ends peer ends) ≤ length ends
fewer_closed peer [] = omega arith
fewer_closed peer (p ∷ ps) = go (p == peer) (fewer_closed peer ps)
  where
    go : (b : Bool) → length (other_ends peer ps) ≤ length ps
        → length (cond (not b) (p ∷ other_ends peer ps) (other_ends peer ps)) ≤ suc (length ps)
    go true less = omega (arith, less)
    go false less = omega (arith, less)

-- a part is sound whose end towards a peer that has no entry is closed
pub sound_closed : (i : Inside) → IsSound i → (peer : ℕ) → HasNoneFrom i.exports.counts peer 0
    → (ends : List ℕ) → ends ≡ other_ends peer i.ends → IsSound (record i { ends = ends })
sound_closed i s peer none ends is =
    subst (λ es. IsSound (record i { ends = es })) (sym is) (record {
      balanced = balanced-as i.holders (holders (own_of i))
          (holders (own_of (record i { ends = other_ends peer i.ends }))) (uses i)
          (uses (record i { ends = other_ends peer i.ends })) s.balanced
          (λ n. let e = entries_closed i.exports.counts peer n (ap is_some (none n (omega arith)))
          i.ends in omega (arith, e))
          (λ o away. refl);
      few = s.few;
      most = s.most;
      small = let less = fewer_closed peer i.ends in let small = s.small in
          omega (arith, less, small);
      apart = distinct_closed peer i.ends s.apart;
      numbered = s.numbered;
      links = record {
        ends = λ k there. open_parted i.ends peer k.0
            ∙ (λ j. not (stays k there j) && s.links.ends k there j);
        sent = s.links.sent;
        got = s.links.got;
        held = s.links.held;
        asked = s.links.asked;
      };
    })
  where
    -- who has an entry is another
    stays : (k : ℕ × ℕ) → map.contains_key i.exports.counts k ≡ true → (k.0 == peer) ≡ false
    stays k there = go (k.0 == peer) refl
      where
        go : (b : Bool) → (k.0 == peer) ≡ b → (k.0 == peer) ≡ false
        go false e = e
        go true e = absurd (subst T (sym there
            ∙ ap (λ p. map.contains_key i.exports.counts (p, k.1)) (eqb-true k.0 peer e)
            ∙ ap is_some (none k.1 (omega arith))) tt)
