-- Moves of a node, one after another, with all that they take, post, show and write.
use Rattle.std.proofs.Common.{◌≡◌, ◌++◌, ℕ, List, [], ◌∷◌, refl, sym, ap, ◌∙◌, subst, append-nil}
use Rattle.std.{proofs.lemmas.Grind.flat_map-append, specs.List.flat_map}
use Rattle.do_base.specs.declared.events.shown.Shown.{Shown}
use Rattle.do_machine.specs.declared.{node.Node.Node, state.{Effect.Effect, Parcel.Parcel}}
use Rattle.do_facts.proofs.Runs.{afters_behind, mays_behind, posts_behind, takes_behind}
use Rattle.do_facts.specs.{Net.{Note, noted}, Moves.{Mays, Runs, afters, all_posts, all_takes}}
use Rattle.do_facts.{specs.View.posted, proofs.CommitAsNet.posted_behind}
use Rattle.do_facts.specs.nodes.Atoms.{Atom, Whole}
use Rattle.do_machine.specs.declared.item.Item.{Item}
use Rattle.do_facts.specs.nodes.{Judged.Judge, May.{may, rules}, View.nodes, Moves.{Move, Wrote}}
use Rattle.do_facts.specs.nodes.After.{after, posts, shown_by, takes, wrote_by}

-- the notes of atoms behind others
pub noted_behind : {A : Type 0} (peer : ℕ) (xs ys : List A) →
    noted peer (xs ++ ys) ≡ noted peer xs ++ noted peer ys
noted_behind peer [] ys = refl
noted_behind peer (x ∷ xs) ys =
    ap (λ zs. record { peer = peer; atom = x } ∷ zs) (noted_behind peer xs ys)

-- the notes of an item behind its parts
pub whole_behind : (peer : ℕ) (xs : List Atom) (item : Item) →
    noted peer (xs ++ Whole item ∷ []) ++ [] ≡ noted peer xs ++ noted peer (Whole item ∷ [])
whole_behind peer xs item =
    append-nil (noted peer (xs ++ Whole item ∷ [])) ∙ noted_behind peer xs (Whole item ∷ [])

module _ (j : Judge) where
  -- Moves of a node that make this of it: they take and post these notes, and show and write this
  pub record Walks (n : Node) (taken : List (Note Atom)) (written : List Wrote) (q : Node)
      (sent : List (Note Atom)) (shown : List Shown) : Type 0 where
    pub moves : List Move
    pub may : Mays (rules j) n moves
    pub reaches : afters (rules j) n moves ≡ q
    pub takes : all_takes (rules j) moves ≡ taken
    pub posts : all_posts (rules j) n moves ≡ sent
    pub shows : flat_map shown_by moves ≡ shown
    pub writes : flat_map wrote_by moves ≡ written

  -- such moves, by which these items are sent
  pub record Does (n : Node) (taken : List (Note Atom)) (written : List Wrote) (q : Node)
      (sent : List Parcel) (shown : List Shown) : Type 0 where
    pub walk : Walks n taken written q (posted nodes sent) shown

  -- an effect is such moves
  abbrev pub DoesTo : Node → List (Note Atom) → List Wrote → Effect → Type 0
  DoesTo n taken written e = Does n taken written e.node e.sent e.shown

  -- they are moves
  pub runs_of : {n q : Node} {taken sent : List (Note Atom)} {written : List Wrote}
      {shown : List Shown} → Walks n taken written q sent shown →
      Runs (rules j) n taken q sent
  runs_of w = record {
    moves = w.moves;
    may = w.may;
    reaches = w.reaches;
    takes = w.takes;
    posts = w.posts;
  }

  -- no move
  pub walks_not : (n : Node) → Walks n [] [] n [] []
  walks_not n = record {
    moves = [];
    may = tt;
    reaches = refl;
    takes = refl;
    posts = refl;
    shows = refl;
    writes = refl;
  }

  -- one move
  pub walks_once : (n : Node) (v : Move) → may j n v →
      Walks n (takes v) (wrote_by v) (after n v) (posts n v) (shown_by v)
  walks_once n v m = record {
    moves = v ∷ [];
    may = (m, tt);
    reaches = refl;
    takes = append-nil (takes v);
    posts = append-nil (posts n v);
    shows = append-nil (shown_by v);
    writes = append-nil (wrote_by v);
  }

  -- moves, and then more
  pub walks_on : {n p q : Node} {taken more sent others : List (Note Atom)}
      {written again : List Wrote} {shown shows : List Shown} →
      Walks n taken written p sent shown → Walks p more again q others shows →
      Walks n (taken ++ more) (written ++ again) q (sent ++ others) (shown ++ shows)
  walks_on {n} {p} {q} {taken} {more} {sent} {others} {written} {again} {shown} {shows} a b =
      record {
        moves = a.moves ++ b.moves;
        may = mays_behind (rules j) n a.moves b.moves a.may
            (subst (λ m. Mays (rules j) m b.moves) (sym a.reaches) b.may);
        reaches = afters_behind (rules j) n a.moves b.moves
            ∙ ap (λ m. afters (rules j) m b.moves) a.reaches ∙ b.reaches;
        takes = takes_behind (rules j) a.moves b.moves
            ∙ ap (λ xs. xs ++ all_takes (rules j) b.moves) a.takes
            ∙ ap (λ xs. taken ++ xs) b.takes;
        posts = posts_behind (rules j) n a.moves b.moves
            ∙ ap (λ m. all_posts (rules j) n a.moves ++ all_posts (rules j) m b.moves) a.reaches
            ∙ ap (λ xs. xs ++ all_posts (rules j) p b.moves) a.posts
            ∙ ap (λ xs. sent ++ xs) b.posts;
        shows = flat_map-append shown_by a.moves b.moves
            ∙ ap (λ xs. xs ++ flat_map shown_by b.moves) a.shows
            ∙ ap (λ xs. shown ++ xs) b.shows;
        writes = flat_map-append wrote_by a.moves b.moves
            ∙ ap (λ xs. xs ++ flat_map wrote_by b.moves) a.writes
            ∙ ap (λ xs. written ++ xs) b.writes;
      }

  -- no move, and nothing sent
  pub rests : (n : Node) → Does n [] [] n [] []
  rests n = record { walk = walks_not n }

  -- one move
  pub once : (n : Node) (v : Move) → may j n v → (sent : List Parcel) →
      posts n v ≡ posted nodes sent →
      Does n (takes v) (wrote_by v) (after n v) sent (shown_by v)
  once n v m sent h = record {
    walk = subst (λ xs. Walks n (takes v) (wrote_by v) (after n v) xs (shown_by v)) h
        (walks_once n v m);
  }

  -- moves, and then more
  pub does_on : {n p q : Node} {taken more : List (Note Atom)} {written again : List Wrote}
      {sent others : List Parcel} {shown shows : List Shown} →
      Does n taken written p sent shown → Does p more again q others shows →
      Does n (taken ++ more) (written ++ again) q (sent ++ others) (shown ++ shows)
  does_on {n} {p} {q} {taken} {more} {written} {again} {sent} {others} {shown} {shows} a b =
      record {
        walk = subst
            (λ xs. Walks n (taken ++ more) (written ++ again) q xs (shown ++ shows))
            (sym (posted_behind nodes sent others)) (walks_on a.walk b.walk);
      }

  -- moves that make something equal
  pub same_node : {n p q : Node} {taken : List (Note Atom)} {written : List Wrote}
      {sent : List Parcel} {shown : List Shown} → p ≡ q → Does n taken written p sent shown →
      Does n taken written q sent shown
  same_node {n} {p} {q} {taken} {written} {sent} {shown} h w =
      subst (λ m. Does n taken written m sent shown) h w

  -- moves that take the same
  pub same_taken : {n q : Node} {taken more : List (Note Atom)} {written : List Wrote}
      {sent : List Parcel} {shown : List Shown} → taken ≡ more →
      Does n taken written q sent shown → Does n more written q sent shown
  same_taken {n} {q} {taken} {more} {written} {sent} {shown} h w =
      subst (λ xs. Does n xs written q sent shown) h w
