-- How a record goes on by a line.
use Rattle.std.proofs.Common.{◌≡◌, ℕ, ◌+◌, List as Listed, [], ◌∷◌, ◌++◌, map, Option, Some, None}
use Rattle.std.proofs.Common.{refl, sym, ap, subst, ◌∙◌, arith, append_assoc}
use Rattle.std.specs.{Prelude.{codes, option_map}, Fmt.decimal, List.{AllByRecursion, flat_map}}
use Rattle.std.proofs.lemmas.List.{append-nil}
use Rattle.do_base.specs.declared.events.shown.Shown.{Shown}
use Rattle.do_lines.specs.{Lines.joined, Shown.shown_text}
use Rattle.do_sched.specs.{Good.IsPort, Spelling.fed}
use Rattle.do_record.specs.{Good.IsGoodInput, GoodShown.IsShown}
use Rattle.do_record.specs.{Grammar.{AreBlocks, Begins, IsBlock, lines_in}, Recorded.with_shown}
use Rattle.do_record.specs.Spelling.{begun, block_text, first_line, input_line, input_text}
use Rattle.do_record.specs.declared.parts.{Block.Block, RecordLine.RecordLine}
use Rattle.do_record.proofs.lines.LineFeeds.{header_free, marked_free, shown_free}
use Rattle.do_record.proofs.lines.ValueFeeds.{lines_append, one_line}

-- ---- lists of texts

-- the texts of some and of others
flat_append : {A : Type 0} (f : A → Listed ℕ) (xs ys : Listed A)
    → flat_map f (xs ++ ys) ≡ flat_map f xs ++ flat_map f ys
flat_append f [] ys = refl
flat_append f (x ∷ xs) ys =
    ap (λ w. f x ++ w) (flat_append f xs ys)
    ∙ sym (append_assoc (f x) (flat_map f xs) (flat_map f ys))

-- one text more
flat_more : {A : Type 0} (f : A → Listed ℕ) (xs : Listed A) (x : A)
    → flat_map f (xs ++ x ∷ []) ≡ flat_map f xs ++ f x
flat_more f xs x =
    flat_append f xs (x ∷ []) ∙ ap (λ w. flat_map f xs ++ w) (append-nil (f x))

-- one line more that is shown
joined_more : (port : ℕ) (ss : Listed Shown) (s : Shown)
    → joined (map (shown_text port) (ss ++ s ∷ []))
    ≡ joined (map (shown_text port) ss) ++ fed (shown_text port s)
joined_more port [] s = append-nil (fed (shown_text port s))
joined_more port (x ∷ ss) s =
    ap (λ w. fed (shown_text port x) ++ w) (joined_more port ss s)
    ∙ sym (append_assoc (fed (shown_text port x)) (joined (map (shown_text port) ss))
    (fed (shown_text port s)))

-- one more that may be shown
all_more : (ss : Listed Shown) (s : Shown) → AllByRecursion IsShown ss → IsShown s
    → AllByRecursion IsShown (ss ++ s ∷ [])
all_more [] s h good = (good, tt)
all_more (x ∷ ss) s h good = (h.0, all_more ss s h.1 good)

-- the last of some blocks with one line more
abbrev pub more_shown : Block → Listed ℕ → Block
more_shown b line = record b { shown = b.shown ++ line }

-- ---- blocks

module _ (port : ℕ) where
  -- the text of some blocks
  abbrev texts : Listed Block → Listed ℕ
  texts = flat_map (block_text port)

  -- one block more
  pub begun_more : (blocks : Listed Block) (b : Block)
      → begun port (blocks ++ b ∷ []) ≡ begun port blocks ++ block_text port b
  begun_more blocks b =
      ap (λ w. first_line port ++ w) (flat_more (block_text port) blocks b)
      ∙ sym (append_assoc (first_line port) (texts blocks) (block_text port b))

  -- a block behind others, at its line
  are_more : (blocks : Listed Block) (line : ℕ) (b : Block) → AreBlocks port line blocks
      → IsBlock port (line + lines_in (texts blocks)) b → AreBlocks port line (blocks ++ b ∷ [])
  are_more [] line b h g = (subst (λ n. IsBlock port n b) (omega arith) g, tt)
  are_more (x ∷ blocks) line b h g =
      let lines = lines_append (block_text port x) (texts blocks) in (
        h.0,
        are_more blocks (line + lines_in (block_text port x)) b h.1
            (subst (λ n. IsBlock port n b) (omega (arith, lines)) g),
      )

  -- blocks of which one is the last
  are_front : (blocks : Listed Block) (line : ℕ) (b : Block)
      → AreBlocks port line (blocks ++ b ∷ [])
      → AreBlocks port line blocks × IsBlock port (line + lines_in (texts blocks)) b
  are_front [] line b h = (tt, subst (λ n. IsBlock port n b) (omega arith) h.0)
  are_front (x ∷ blocks) line b h =
      let lines = lines_append (block_text port x) (texts blocks) in
      let f = are_front blocks (line + lines_in (block_text port x)) b h.1 in (
        (h.0, f.0),
        subst (λ n. IsBlock port n b) (omega (arith, lines)) f.1,
      )

  -- the lines before what is behind some blocks
  pub begun_lines : (blocks : Listed Block) → IsPort port
      → lines_in (begun port blocks) + 1 ≡ 2 + lines_in (texts blocks)
  begun_lines blocks h =
      omega (
        arith,
        lines_append (first_line port) (texts blocks),
        one_line (codes "record 1 " ++ decimal port) (header_free port h),
      )

-- ---- so far

-- the bytes begin as a record with these blocks, and line n is the first of what is left
pub record SoFar (bytes : Listed ℕ) (port n : ℕ) (blocks : Listed Block)
    (rest : Listed ℕ) : Type 0 where
  pub begins : Begins bytes port blocks rest
  pub next : n ≡ lines_in (begun port blocks) + 1

module _ (bytes : Listed ℕ) (port n : ℕ) where
  -- behind an input
  pub input_goes : (blocks : Listed Block) (input : RecordLine) (rest : Listed ℕ)
      → SoFar bytes port n blocks (input_line port input ++ rest) → IsGoodInput port input
      → SoFar bytes port (n + 1)
      (blocks ++ record { line = n; input = input; shown = [] } ∷ []) rest
  input_goes blocks input rest s good =
      let b : Block = record { line = n; input = input; shown = [] } in
      let line = input_line port input in
      let at_port = s.begins.at_port in
      let text : begun port (blocks ++ b ∷ []) ≡ begun port blocks ++ line =
      begun_more port blocks b ∙ ap (λ w. begun port blocks ++ w) (append-nil line) in
      let one = one_line (codes "> " ++ input_text port input) (marked_free port input good) in
      record {
        begins = record {
          spelled = s.begins.spelled ∙ sym (append_assoc (begun port blocks) line rest)
              ∙ ap (λ w. w ++ rest) (sym text);
          at_port = at_port;
          are_blocks = are_more port blocks 2 b s.begins.are_blocks (record {
            placed = s.next ∙ begun_lines port blocks at_port;
            good = good;
            shows = record { shown = []; spelled = refl; good = tt };
          });
        };
        next = omega (
          arith,
          s.next,
          ap lines_in text,
          lines_append (begun port blocks) line,
          one,
        );
      }

  -- behind a line that the last block showed
  pub shown_goes : (bs : Listed Block) (b : Block) (what : Shown) (rest : Listed ℕ)
      → SoFar bytes port n (bs ++ b ∷ []) (fed (shown_text port what) ++ rest) → IsShown what
      → SoFar bytes port (n + 1) (bs ++ more_shown b (fed (shown_text port what)) ∷ []) rest
  shown_goes bs b what rest s good =
      let line = fed (shown_text port what) in
      let at_port = s.begins.at_port in
      let old = are_front port bs 2 b s.begins.are_blocks in
      let text : begun port (bs ++ more_shown b line ∷ []) ≡ begun port (bs ++ b ∷ []) ++ line =
      begun_more port bs (more_shown b line)
      ∙ ap (λ w. begun port bs ++ w) (sym (append_assoc (input_line port b.input) b.shown line))
      ∙ sym (append_assoc (begun port bs) (block_text port b) line)
      ∙ ap (λ w. w ++ line) (sym (begun_more port bs b)) in
      let one = one_line (shown_text port what) (shown_free port what at_port good) in
      record {
        begins = record {
          spelled = s.begins.spelled ∙ sym (append_assoc (begun port (bs ++ b ∷ [])) line rest)
              ∙ ap (λ w. w ++ rest) (sym text);
          at_port = at_port;
          are_blocks = are_more port bs 2 (more_shown b line) old.0 (record {
            placed = old.1.placed;
            good = old.1.good;
            shows = record {
              shown = old.1.shows.shown ++ what ∷ [];
              spelled = ap (λ w. w ++ line) old.1.shows.spelled
                  ∙ sym (joined_more port old.1.shows.shown what);
              good = all_more old.1.shows.shown what old.1.shows.good good;
            };
          });
        };
        next = omega (
          arith,
          s.next,
          ap lines_in text,
          lines_append (begun port (bs ++ b ∷ [])) line,
          one,
        );
      }

-- ---- the block that shows a line

-- where a line was shown, the last block did
pub shown_by_last : (line : Listed ℕ) (blocks more : Listed Block)
    → with_shown line blocks ≡ Some more
    → (bs : Listed Block) × (b : Block) × (blocks ≡ bs ++ b ∷ [])
    × (more ≡ bs ++ more_shown b line ∷ [])
shown_by_last line [] more e = absurd (cc)
shown_by_last line (b ∷ []) more e = ([], b, refl, cc)
shown_by_last line (b ∷ c ∷ bs) more e =
    go (with_shown line (c ∷ bs)) e (λ rest q. shown_by_last line (c ∷ bs) rest q)
  where
    go : (o : Option (Listed Block)) → option_map (λ all. b ∷ all) o ≡ Some more
        → ((rest : Listed Block) → o ≡ Some rest
        → (xs : Listed Block) × (x : Block) × (c ∷ bs ≡ xs ++ x ∷ [])
        × (rest ≡ xs ++ more_shown x line ∷ []))
        → (xs : Listed Block) × (x : Block) × (b ∷ c ∷ bs ≡ xs ++ x ∷ [])
        × (more ≡ xs ++ more_shown x line ∷ [])
    go None q later = absurd (cc)
    go (Some rest) q later =
        let l = later rest refl in
        let same : b ∷ rest ≡ more = cc in (
          b ∷ l.0,
          l.1,
          ap (λ ls. b ∷ ls) l.2,
          sym same ∙ ap (λ ls. b ∷ ls) l.3,
        )

-- where none was, there is no block
pub shown_by_none : (line : Listed ℕ) (blocks : Listed Block) → with_shown line blocks ≡ None
    → blocks ≡ []
shown_by_none line [] e = refl
shown_by_none line (b ∷ []) e = absurd (cc)
shown_by_none line (b ∷ c ∷ bs) e =
    go (with_shown line (c ∷ bs)) e (λ q. shown_by_none line (c ∷ bs) q)
  where
    go : (o : Option (Listed Block)) → option_map (λ all. b ∷ all) o ≡ None
        → (o ≡ None → c ∷ bs ≡ []) → b ∷ c ∷ bs ≡ []
    go None q later = let none = later refl in absurd (cc)
    go (Some rest) q later = absurd (cc)
