-- What the lines of a text that were read so far say of its bytes.
use Rattle.do_grammar.specs.Lines as text
use Rattle.std.proofs.Common.{◌≡◌, ◌≢◌, ℕ, ◌+◌, ◌<◌, ◌≤◌, Bool, true, false, cond, List as Listed}
use Rattle.std.proofs.Common.{[], ◌∷◌, ◌++◌, length, map, Some, None, refl, sym, ap, subst, ◌∙◌}
use Rattle.std.{proofs.Common.{append_assoc, arith}, specs.List.flat_map}
use Rattle.std.proofs.lemmas.List.{map-append, Sums.sum_by-append}
use Rattle.do_grammar.{specs.Lines.{cut, line_bytes}, proofs.texts.LinesExact.cut_whole}
use Rattle.do_sched.specs.{declared.{line.Line.Line, version.Version.Version}, Version.header}
use Rattle.do_sched.specs.{Spelling.{line_spelling, footer, fed, steps, steps_of}, Good.IsLineOf}
use Rattle.do_sched.specs.Schedule.{IsScheduleOf, Opens, IsBadLine, at_first, between, behind}
use Rattle.do_sched.specs.Schedule.{IsTooMany, over, IsEndMissing, at_start, later, most_steps}
use Rattle.do_sched.specs.{Schedule.whole, Reading.{line_at, is_whole, line_in}}
use Rattle.do_sched.proofs.{LineExact.{line_takes, line_again}, WholeLines.is_whole_true}
use Rattle.do_sched.proofs.WholeLines.{is_whole_false, whole_lines, cut_none, cut_some, all_more}

-- ---- one line

-- a line of text that is a line of a schedule
pub line_in_takes : (version : Version) (t : text.Line) (l : Line) → line_in version t ≡ Some l
    → (t ≡ whole (line_spelling l)) × IsLineOf version l
line_in_takes version t l e = go t.fed refl e
  where
    go : (u : Bool) → t.fed ≡ u → cond u (line_at version t.text) None ≡ Some l
        → (t ≡ whole (line_spelling l)) × IsLineOf version l
    go true p q =
        let r = line_takes version t.text l q in (
          ap (λ (w : Listed ℕ). record { text = w; fed = t.fed }) r.0
              ∙ ap (λ (w : Bool). record { text = line_spelling l; fed = w }) p,
          r.1,
        )
    go false p q = absurd cc

-- a whole line of a schedule is read as that line
pub line_in_again : (version : Version) (l : Line) → IsLineOf version l
    → line_in version (whole (line_spelling l)) ≡ Some l
line_in_again version l h = line_again version l h

-- a line that reads as none is no line of a schedule
no_line : (version : Version) (t : text.Line) → line_in version t ≡ None → (l : Line)
    → IsLineOf version l → t ≢ whole (line_spelling l)
no_line version t e l h = λ (p : t ≡ whole (line_spelling l)). let f = ap (line_in version) p in
    let g = line_in_again version l h in absurd cc

-- the bytes of a schedule that begins with some lines
opened_bytes : (version : Version) (bytes : Listed ℕ) (lines : Listed Line)
    (rest : Listed text.Line) → Opens version bytes lines rest
    → bytes ≡ fed (header version)
    ++ (flat_map (λ l. fed (line_spelling l)) lines ++ flat_map line_bytes rest)
opened_bytes version bytes lines rest o = sym (cut_whole bytes)
    ∙ ap (flat_map line_bytes) o.spelled
    ∙ ap (λ (w : Listed ℕ). fed (header version) ++ w) (whole_lines line_spelling lines rest)

-- ---- the first line

-- no line at all: the end is missing at line 1
pub starts_missing : (version : Version) (bytes : Listed ℕ) → cut bytes ≡ []
    → IsEndMissing version bytes 1
starts_missing version bytes e = at_start (cut_none bytes e)

-- the first line is not that of a schedule
pub bad_first : (version : Version) (bytes : Listed ℕ) (t : text.Line) (rest : Listed text.Line)
    → cut bytes ≡ t ∷ rest → is_whole (header version) t ≡ false → IsBadLine version bytes 1
bad_first version bytes t rest e h = at_first t rest e (is_whole_false (header version) t h)

-- the first line is, and no other was read yet
pub opened : (version : Version) (bytes : Listed ℕ) (t : text.Line) (rest : Listed text.Line)
    → cut bytes ≡ t ∷ rest → is_whole (header version) t ≡ true → Opens version bytes [] rest
opened version bytes t rest e h = record {
  spelled = e ∙ ap (λ (w : text.Line). w ∷ rest) (is_whole_true (header version) t h);
  good = tt;
  few = omega arith;
}

-- ---- a line between

module _ (version : Version) (bytes rest : Listed ℕ) (lines : Listed Line)
    (o : Opens version bytes lines (cut rest)) where
  -- the line that is read next
  next : (t : text.Line) (others : Listed text.Line) → cut rest ≡ t ∷ others
      → Opens version bytes lines (t ∷ others)
  next t others e = subst (Opens version bytes lines) e o

  -- no line is left: the end is missing
  pub end_missing : (n : ℕ) → cut rest ≡ [] → n ≡ length lines + 2 → IsEndMissing version bytes n
  end_missing n e k =
      subst (IsEndMissing version bytes) (sym k)
      (later lines (subst (Opens version bytes lines) e o))

  module _ (t : text.Line) (after : Listed ℕ) (e : cut rest ≡ t ∷ cut after) where
    at_end : is_whole footer t ≡ true → Opens version bytes lines (whole footer ∷ cut after)
    at_end h =
        subst (λ (w : text.Line). Opens version bytes lines (w ∷ cut after))
        (is_whole_true footer t h)
        (next t (cut after) e)

    pub ends_well : is_whole footer t ≡ true → length after ≡ 0 → IsScheduleOf version bytes lines
    ends_well h z = go after refl (at_end h)
      where
        go : (bs : Listed ℕ) → after ≡ bs → Opens version bytes lines (whole footer ∷ cut after)
            → IsScheduleOf version bytes lines
        go [] p q =
            let r : Opens version bytes lines (whole footer ∷ []) =
            subst (λ (w : Listed ℕ). Opens version bytes lines (whole footer ∷ cut w)) p q in
            record {
              spelled = opened_bytes version bytes lines (whole footer ∷ []) r
                  ∙ sym (append_assoc (fed (header version))
                  (flat_map (λ l. fed (line_spelling l)) lines)
                  (fed footer));
              good = r.good;
              few = r.few;
            }
        go (b ∷ bs) p q = absurd (omega (arith, ap length p))

    pub bad_behind : (n : ℕ) → is_whole footer t ≡ true → 0 < length after → n ≡ length lines + 3
        → IsBadLine version bytes n
    bad_behind n h lt k =
        let c = cut_some after lt in
        subst (IsBadLine version bytes) (sym k)
        (behind lines c.0 c.1
        (subst (λ (w : Listed text.Line). Opens version bytes lines (whole footer ∷ w)) c.2
        (at_end h)))

    pub bad_between : (n : ℕ) → is_whole footer t ≡ false → line_in version t ≡ None
        → n ≡ length lines + 2
        → IsBadLine version bytes n
    bad_between n h none k =
        subst (IsBadLine version bytes) (sym k)
        (between lines t (cut after) (next t (cut after) e) (record {
          no_end = is_whole_false footer t h;
          no_line = no_line version t none;
        }))

    at_line : (l : Line) → line_in version t ≡ Some l
        → Opens version bytes lines (whole (line_spelling l) ∷ cut after)
    at_line l h =
        subst (λ (w : text.Line). Opens version bytes lines (w ∷ cut after))
        (line_in_takes version t l h).0
        (next t (cut after) e)

    pub too_many : (n : ℕ) (l : Line) → line_in version t ≡ Some l
        → most_steps < steps_of lines + steps l
        → n ≡ length lines + 2 → IsTooMany version bytes n
    too_many n l h many k =
        subst (IsTooMany version bytes) (sym k)
        (over lines l (cut after) (at_line l h) (line_in_takes version t l h).1 many)

    pub goes_on : (l : Line) → line_in version t ≡ Some l → steps_of lines + steps l ≤ most_steps
        → Opens version bytes (lines ++ l ∷ []) (cut after)
    goes_on l h few = record {
      spelled = s;
      good = all_more (IsLineOf version) lines l (at_line l h).good (line_in_takes version t l h).1;
      few = simp sum_by-append (omega arith);
    }
      where
        s : cut bytes ≡ whole (header version) ∷ map (λ m. whole (line_spelling m))
            (lines ++ l ∷ [])
            ++ cut after
        s = (at_line l h).spelled
            ∙ ap (λ (w : Listed text.Line). whole (header version) ∷ w)
            (sym (append_assoc (map (λ m. whole (line_spelling m)) lines)
            (whole (line_spelling l) ∷ []) (cut after))
            ∙ ap (λ (w : Listed text.Line). w ++ cut after)
            (sym (map-append (λ m. whole (line_spelling m)) lines (l ∷ []))))
