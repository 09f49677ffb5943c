-- What the lines of a text that were read so far say of its bytes.
use Rattle.do_grammar.specs.Lines as text
use Rattle.std.proofs.Common.{◌≡◌, ◌≢◌, ℕ, ◌+◌, ◌<◌, ◌≤◌, Bool, true, false, cond, List as Listed}
use Rattle.std.proofs.Common.{[], ◌∷◌, ◌++◌, length, map, Option, Some, None, refl, sym, ap, subst}
use Rattle.std.{proofs.Common.{◌∙◌, append_assoc, arith}, specs.List.flat_map}
use Rattle.std.proofs.lemmas.List.{map-append, length-append}
use Rattle.do_grammar.{specs.Lines.{cut, line_bytes}, proofs.texts.LinesExact.cut_whole}
use Rattle.do_sched.specs.{Spelling.{footer, fed}, Schedule.whole, Reading.is_whole}
use Rattle.do_sched.proofs.WholeLines.{is_whole_true, is_whole_false, whole_lines, cut_none}
use Rattle.do_sched.proofs.WholeLines.{cut_some, all_more}
use Rattle.do_plan.specs.Form.{Form, IsText, Opens, IsBadLine, at_first, between, early, behind}
use Rattle.do_plan.specs.Form.{IsTooMany, over, IsEndMissing, at_start, later}
use Rattle.do_plan.specs.Reading.{Reads, line_in}

module _ {A : Type 0} (form : Form A) (line_at : Listed ℕ → Option A)
    (reads : Reads form line_at) where
  -- a line of text that is a good line
  pub line_in_takes : (t : text.Line) (l : A) → line_in line_at t ≡ Some l
      → (t ≡ whole (form.spelling l)) × form.IsGood l
  line_in_takes t l e = go t.fed refl e
    where
      go : (u : Bool) → t.fed ≡ u → cond u (line_at t.text) None ≡ Some l
          → (t ≡ whole (form.spelling l)) × form.IsGood l
      go true p q =
          let r = reads.sound t.text l q in (
            ap (λ (w : Listed ℕ). record { text = w; fed = t.fed }) r.0
                ∙ ap (λ (w : Bool). record { text = form.spelling l; fed = w }) p,
            r.1,
          )
      go false p q = absurd cc

  -- a line that reads as none is no good line
  no_line : (t : text.Line) → line_in line_at t ≡ None → (l : A) → form.IsGood l
      → t ≢ whole (form.spelling l)
  no_line t e l h = λ (p : t ≡ whole (form.spelling l)). let f = ap (line_in line_at) p in
      let g = reads.reads_spelling l h in absurd cc

  module _ (bytes : Listed ℕ) where
    -- the bytes of a text that begins with some lines
    opened_bytes : (lines : Listed A) (rest : Listed text.Line) → Opens form bytes lines rest
        → bytes ≡ fed form.header
        ++ (flat_map (λ l. fed (form.spelling l)) lines ++ flat_map line_bytes rest)
    opened_bytes lines rest o = sym (cut_whole bytes)
        ∙ ap (flat_map line_bytes) o.spelled
        ∙ ap (λ (w : Listed ℕ). fed form.header ++ w) (whole_lines form.spelling lines rest)

    -- ---- the first line

    -- no line at all: the end is missing at line 1
    pub starts_missing : cut bytes ≡ [] → IsEndMissing form bytes 1
    starts_missing e = at_start (cut_none bytes e)

    -- the first line is not that of the text
    pub bad_first : (t : text.Line) (rest : Listed text.Line) → cut bytes ≡ t ∷ rest
        → is_whole form.header t ≡ false → IsBadLine form bytes 1
    bad_first t rest e h = at_first t rest e (is_whole_false form.header t h)

    -- the first line is, and no other was read yet
    pub opened : (t : text.Line) (rest : Listed text.Line) → cut bytes ≡ t ∷ rest
        → is_whole form.header t ≡ true → Opens form bytes [] rest
    opened t rest e h = record {
      spelled = e ∙ ap (λ (w : text.Line). w ∷ rest) (is_whole_true form.header t h);
      good = tt;
      few = omega arith;
    }

    -- ---- a line between

    module _ (rest : Listed ℕ) (lines : Listed A) (o : Opens form bytes lines (cut rest)) where
      -- no line is left: the end is missing
      pub end_missing : (n : ℕ) → cut rest ≡ [] → n ≡ length lines + 2 → IsEndMissing form bytes n
      end_missing n e k =
          subst (IsEndMissing form bytes) (sym k) (later lines (subst (Opens form bytes lines) e o))

      module _ (t : text.Line) (after : Listed ℕ) (e : cut rest ≡ t ∷ cut after) where
        -- the line that is read next
        next : Opens form bytes lines (t ∷ cut after)
        next = subst (Opens form bytes lines) e o

        -- it is `end`
        at_end : is_whole footer t ≡ true → Opens form bytes lines (whole footer ∷ cut after)
        at_end h =
            subst (λ (w : text.Line). Opens form bytes lines (w ∷ cut after))
            (is_whole_true footer t h) next

        -- the last line is `end`, behind enough lines
        pub ends_well : is_whole footer t ≡ true → form.least ≤ length lines → length after ≡ 0
            → IsText form bytes lines
        ends_well h enough z = go after refl (at_end h)
          where
            go : (bs : Listed ℕ) → after ≡ bs → Opens form bytes lines (whole footer ∷ cut after)
                → IsText form bytes lines
            go [] p q =
                let r : Opens form bytes lines (whole footer ∷ []) =
                subst (λ (w : Listed ℕ). Opens form bytes lines (whole footer ∷ cut w)) p q in
                record {
                  spelled = opened_bytes lines (whole footer ∷ []) r
                      ∙ sym (append_assoc (fed form.header)
                      (flat_map (λ l. fed (form.spelling l)) lines) (fed footer));
                  good = r.good;
                  enough = enough;
                  few = r.few;
                }
            go (b ∷ bs) p q = absurd (omega (arith, ap length p))

        -- `end` comes before there are enough lines
        pub bad_early : (n : ℕ) → is_whole footer t ≡ true → length lines < form.least
            → n ≡ length lines + 2 → IsBadLine form bytes n
        bad_early n h lt k =
            subst (IsBadLine form bytes) (sym k) (early lines (cut after) (at_end h) lt)

        -- something stands behind `end`
        pub bad_behind : (n : ℕ) → is_whole footer t ≡ true → form.least ≤ length lines
            → 0 < length after → n ≡ length lines + 3 → IsBadLine form bytes n
        bad_behind n h enough lt k =
            let c = cut_some after lt in
            subst (IsBadLine form bytes) (sym k)
            (behind lines c.0 c.1
            (subst (λ (w : Listed text.Line). Opens form bytes lines (whole footer ∷ w)) c.2
            (at_end h)) enough)

        -- the line is neither `end` nor a good one
        pub bad_between : (n : ℕ) → is_whole footer t ≡ false → line_in line_at t ≡ None
            → n ≡ length lines + 2 → IsBadLine form bytes n
        bad_between n h none k =
            subst (IsBadLine form bytes) (sym k)
            (between lines t (cut after) next (record {
              no_end = is_whole_false footer t h;
              no_line = no_line t none;
            }))

        -- the line is a good one
        at_line : (l : A) → line_in line_at t ≡ Some l
            → Opens form bytes lines (whole (form.spelling l) ∷ cut after)
        at_line l h =
            subst (λ (w : text.Line). Opens form bytes lines (w ∷ cut after))
            (line_in_takes t l h).0 next

        -- the line is a good one, and there were as many as may be
        pub too_many : (n : ℕ) (l : A) → line_in line_at t ≡ Some l → form.most < length lines + 1
            → n ≡ length lines + 2 → IsTooMany form bytes n
        too_many n l h many k =
            subst (IsTooMany form bytes) (sym k)
            (over lines l (cut after) (at_line l h) (line_in_takes t l h).1 many)

        -- the line is a good one, and one more
        pub goes_on : (l : A) → line_in line_at t ≡ Some l → length lines + 1 ≤ form.most
            → Opens form bytes (lines ++ l ∷ []) (cut after)
        goes_on l h few = record {
          spelled = (at_line l h).spelled
              ∙ ap (λ (w : Listed text.Line). whole form.header ∷ w)
              (sym (append_assoc (map (λ m. whole (form.spelling m)) lines)
              (whole (form.spelling l) ∷ []) (cut after))
              ∙ ap (λ (w : Listed text.Line). w ++ cut after)
              (sym (map-append (λ m. whole (form.spelling m)) lines (l ∷ []))));
          good = all_more form.IsGood lines l (at_line l h).good (line_in_takes t l h).1;
          few = simp length-append (omega arith);
        }
