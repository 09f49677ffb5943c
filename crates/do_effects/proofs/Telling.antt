-- A core that tells peers and its user of one thing after another.
use Rattle.std.proofs.Common.{◌≡◌, ℕ, ◌+◌, ◌<◌, ◌≤◌, List, ◌∷◌, ◌++◌, [], ap, arith, drop, get_or}
use Rattle.std.{proofs.Common.{length, refl, sym, ◌∙◌, append_assoc, map}, specs.Prelude.fold}
use Rattle.std.proofs.lemmas.List.{append-nil, drop_all, drop_more}
use Rattle.do_network.specs.{Frames.Posted, Links.{Outbox, sending}}
use Rattle.do_base.specs.declared.events.shown.Shown.{Shown}
use Rattle.do_effects.{specs.declared.changing.Core.Core, proofs.MovesOfSteps.fold_behind}

-- so many of these were told
pub record IsTelling (done whole : ℕ) (was now : Core) : Type 0 where
  pub part : now.part ≡ was.part
  pub few : done ≤ whole
  pub room : was.streams.room ≤ now.streams.room + done
  pub more : whole ≤ now.streams.room + done
  pub classes : now.streams.classes ≡ was.streams.classes

-- none was told yet
pub telling_begins : (whole : ℕ) (c : Core) → whole ≤ c.streams.room → IsTelling 0 whole c c
telling_begins whole c room = record {
  part = refl;
  few = omega arith;
  room = omega arith;
  more = omega (arith, room);
  classes = refl;
}

-- there is room to tell of the next
pub telling_room : (done whole : ℕ) (was now : Core) → IsTelling done whole was now →
    done < whole → 0 < now.streams.room
telling_room done whole was now t less = let m = t.more in omega (arith, m, less)

-- one more was told
pub telling_next : (done whole : ℕ) (was now later : Core) → IsTelling done whole was now →
    done < whole → later.part ≡ now.part → now.streams.room ≤ later.streams.room + 1 →
    later.streams.classes ≡ now.streams.classes → IsTelling (done + 1) whole was later
telling_next done whole was now later t less part room classes =
    let r = t.room in
    let m = t.more in
    record {
      part = part ∙ t.part;
      few = omega (arith, less);
      room = omega (arith, r, room);
      more = omega (arith, m, room);
      classes = classes ∙ t.classes;
    }

-- all were told
pub telling_ends : (done whole : ℕ) (was now : Core) → IsTelling done whole was now →
    was.streams.room ≤ now.streams.room + whole
telling_ends done whole was now t =
    let r = t.room in
    let f = t.few in
    omega (arith, r, f)

-- one frame more of a list of frames that are sent for things
pub posts_next : {X : Type 0} (posts : List X → List Posted) (whole : List X) (i : ℕ) (x : X)
    (one : List Posted) (first now later : Outbox) → i < length whole → x ≡ get_or whole i x →
    posts (x ∷ drop (i + 1) whole) ≡ one ++ posts (drop (i + 1) whole) →
    fold sending now (posts (drop i whole)) ≡ fold sending first (posts whole) →
    later ≡ fold sending now one →
    fold sending later (posts (drop (i + 1) whole)) ≡ fold sending first (posts whole)
posts_next posts whole i x one first now later less is parts so_far step =
    ap (λ (o : Outbox). fold sending o (posts (drop (i + 1) whole))) step
    ∙ sym (fold_behind now one (posts (drop (i + 1) whole)))
    ∙ sym (ap (fold sending now)
    (ap posts (drop_more whole i x less ∙ ap (λ y. y ∷ drop (i + 1) whole) (sym is)) ∙ parts))
    ∙ so_far

-- all frames were sent
pub posts_end : {X : Type 0} (posts : List X → List Posted) (whole : List X) (i : ℕ)
    (first now : Outbox) → length whole ≤ i → posts [] ≡ [] →
    fold sending now (posts (drop i whole)) ≡ fold sending first (posts whole) →
    now ≡ fold sending first (posts whole)
posts_end posts whole i first now all none so_far =
    sym (ap (fold sending now) (ap posts (drop_all i whole all) ∙ none)) ∙ so_far

-- one line more of a list of lines that are shown for things
pub lines_next : {X : Type 0} (line : X → Shown) (whole : List X) (i : ℕ) (d : X)
    (first now later : List Shown) → i < length whole →
    now ++ map line (drop i whole) ≡ first ++ map line whole →
    later ≡ now ++ line (get_or whole i d) ∷ [] →
    later ++ map line (drop (i + 1) whole) ≡ first ++ map line whole
lines_next line whole i d first now later less so_far step =
    ap (λ (lines : List Shown). lines ++ map line (drop (i + 1) whole)) step
    ∙ append_assoc now (line (get_or whole i d) ∷ []) (map line (drop (i + 1) whole))
    ∙ sym (ap (λ xs. now ++ map line xs) (drop_more whole i d less))
    ∙ so_far

-- all lines were shown
pub lines_end : {X : Type 0} (line : X → Shown) (whole : List X) (i : ℕ) (first now : List Shown) →
    length whole ≤ i → now ++ map line (drop i whole) ≡ first ++ map line whole →
    now ≡ first ++ map line whole
lines_end line whole i first now all so_far =
    sym (append-nil now)
    ∙ sym (ap (λ xs. now ++ map line xs) (drop_all i whole all))
    ∙ so_far
