-- The lines of starts are read exactly.
use Rattle.do_sched.specs.declared.line.Line.TheVariants as line
use Rattle.std.proofs.Common.{◌≡◌, ℕ, ◌<◌, ◌^◌, Bool, true, false, cond, List as Listed, ◌∷◌, ◌++◌}
use Rattle.std.proofs.Common.{Some, None, refl, ap, subst, ◌∙◌, arith}
use Rattle.std.specs.{Prelude.codes, List.flat_map, Fmt.decimal, Str.bytes_eq}
use Rattle.std.proofs.lemmas.Slice.Eq.{bytes_eq-Decides}
use Rattle.do_base.specs.{declared.values.value.Value.Value, values.Texts.longest_text}
use Rattle.do_grammar.specs.{Names.{is_selector, colons}, Words.{◌>>?◌, Without, word, part}}
use Rattle.do_grammar.proofs.texts.WordBytes.{some_is, chain_some, Without-append}
use Rattle.do_grammar.proofs.texts.NameBytes.{Without-selector}
use Rattle.do_grammar.proofs.texts.DecExact.{dec_takes, dec_again, cond_some}
use Rattle.do_grammar.proofs.texts.WordExact.{word_takes, part_takes, part_again}
use Rattle.do_sched.specs.{declared.version.Version.TheVariants.Second, Reading.values_at}
use Rattle.do_sched.{specs.Spelling.{footer, spaced_value}, proofs.LineWithoutFeed.no_feed}
use Rattle.do_sched.proofs.ValuesExact.{values_takes, values_again, spaced_value_first}
use Rattle.do_plan.specs.declared.starts.StartLine.{StartLine}
use Rattle.do_plan.specs.declared.starts.StartLine.TheVariants.{Start, Serve, Until, Leave}
use Rattle.do_plan.specs.{Reading.Reads, Starts.{start_spelling, IsSent, IsStartLine, starts_form}}
use Rattle.do_plan.specs.Starts.{count_at, sent_at, start_form_at, start_at}
use Rattle.do_plan.proofs.WordChoice.{by_word, feed_free, numbered_free, Without-behind}

-- what a line's text tells
record IsLineText (text : Listed ℕ) (l : StartLine) : Type 0 where
  spelled : text ≡ start_spelling l
  good : IsStartLine l

-- ---- what is read is spelled so

-- a count is spelled in digits
count_takes : (bytes : Listed ℕ) (n : ℕ) → count_at bytes ≡ Some n
    → (bytes ≡ decimal n) × (n < 2 ^ 64)
count_takes bytes n h =
    let t = dec_takes 0 18446744073709551615 bytes n (omega arith) h in
    let most = t.2 in (t.0, omega arith)

-- a first word and a count make a line
counted_takes : (first bytes : Listed ℕ) (make : ℕ → StartLine) (l : StartLine)
    → ((n : ℕ) → n < 2 ^ 64 → IsLineText (first ++ 32 ∷ decimal n) (make n))
    → (count_at bytes >>? λ n. Some (make n)) ≡ Some l → IsLineText (first ++ 32 ∷ bytes) l
counted_takes first bytes make l made h =
    let a = chain_some (count_at bytes) (λ n. Some (make n)) l h in
    let t = count_takes bytes a.0 a.1 in
    let m = made a.0 t.1 in
    subst (IsLineText (first ++ 32 ∷ bytes)) (some_is (make a.0) l a.2) (record {
      spelled = ap (λ (w : Listed ℕ). first ++ 32 ∷ w) t.0 ∙ m.spelled;
      good = m.good;
    })

-- so do a selector and its values
sent_takes : (bytes : Listed ℕ) (l : StartLine) → sent_at (part 32 bytes) ≡ Some l
    → IsLineText (codes "start" ++ 32 ∷ bytes) l
sent_takes bytes l h =
    let selector = (part 32 bytes).0 in
    let rest = (part 32 bytes).1 in
    let c = cond_some (is_selector selector) (values_at longest_text (colons selector) rest
    >>? λ vs. Some (Start selector vs)) l h in
    let d = chain_some (values_at longest_text (colons selector) rest) (λ vs.
    Some (Start selector vs)) l c.1 in
    let t = values_takes longest_text (colons selector) rest d.0 d.1 in
    subst (IsLineText (codes "start" ++ 32 ∷ bytes)) {x = Start selector d.0}
    (some_is (Start selector d.0) l d.2) (record {
      spelled = ap (λ (w : Listed ℕ). codes "start" ++ 32 ∷ w) (part_takes 32 bytes
          ∙ ap (λ (w : Listed ℕ). selector ++ w) t.spelled);
      good = record { selects = c.0; enough = t.enough; plain = t.plain };
    })

-- what is read behind a first word is spelled so
form_takes : (w : Listed ℕ × Listed ℕ) (l : StartLine) → start_form_at w ≡ Some l
    → IsLineText (w.0 ++ 32 ∷ w.1) l
form_takes w l h =
    by_word (codes "serve") w.0 (count_at w.1 >>? λ n. Some (Serve n)) _ l h
    (λ p q. behind (codes "serve") p (counted_takes (codes "serve") w.1 (λ n. Serve n) l
    (λ n small. record { spelled = refl; good = small }) q)) (λ h.
    by_word (codes "until") w.0 (count_at w.1 >>? λ n. Some (Until n)) _ l h
    (λ p q. behind (codes "until") p (counted_takes (codes "until") w.1 (λ n. Until n) l
    (λ n small. record { spelled = refl; good = small }) q)) (λ h.
    by_word (codes "start") w.0 (sent_at (part 32 w.1)) None l h
    (λ p q. behind (codes "start") p (sent_takes w.1 l q)) (λ h. absurd cc)))
  where
    behind : (first : Listed ℕ) → w.0 ≡ first → IsLineText (first ++ 32 ∷ w.1) l
        → IsLineText (w.0 ++ 32 ∷ w.1) l
    behind first p s = record {
      spelled = ap (λ (v : Listed ℕ). v ++ 32 ∷ w.1) p ∙ s.spelled;
      good = s.good;
    }

-- what is read as a line is spelled so, and good
start_takes : (text : Listed ℕ) (l : StartLine) → start_at text ≡ Some l
    → (text ≡ start_spelling l) × IsStartLine l
unfolding start_at
start_takes text l h = go (bytes_eq text (codes "leave")) refl h
  where
    go : (u : Bool) → bytes_eq text (codes "leave") ≡ u
        → cond u (Some Leave) (word 32 text >>? start_form_at) ≡ Some l
        → (text ≡ start_spelling l) × IsStartLine l
    go true p q =
        subst (λ (w : StartLine). (text ≡ start_spelling w) × IsStartLine w) (some_is Leave l q)
        ((bytes_eq-Decides text (codes "leave")).0 p, tt)
    go false p q =
        let a = chain_some (word 32 text) start_form_at l q in
        let f = form_takes a.0 l a.2 in
        (word_takes 32 text a.0 a.1 ∙ f.spelled, f.good)

-- ---- a good line is read from its spelling

-- a count is read from its digits
count_again : (n : ℕ) → n < 2 ^ 64 → count_at (decimal n) ≡ Some n
count_again n h = dec_again 0 18446744073709551615 n (omega arith) (omega arith) (omega arith)

-- a selector and its values are read
sent_again : (selector : Listed ℕ) (values : Listed Value) → IsSent selector values
    → sent_at (part 32 (selector ++ flat_map spaced_value values)) ≡ Some (Start selector values)
sent_again selector values h =
    rw (
      part_again 32 selector (flat_map spaced_value values)
          (Without-selector 32 selector refl h.selects) (spaced_value_first values),
      h.selects,
      values_again longest_text (colons selector) values h.plain h.enough,
    ) refl

-- and so is each line
start_again : (l : StartLine) → IsStartLine l → start_at (start_spelling l) ≡ Some l
unfolding start_at
start_again (Start selector values) h = rw (sent_again selector values h) refl
start_again (Serve n) h = rw (count_again n h) refl
start_again (Until n) h = rw (count_again n h) refl
start_again Leave h = refl

-- ---- spellings

-- no spelling has a line feed: what stands behind a node's number in a line of a schedule has none
start_free : (l : StartLine) → IsStartLine l → Without 10 (start_spelling l)
start_free (Start selector values) h =
    let free = no_feed Second (line.Start 1 selector values) (record {
      at_port = (omega arith, omega arith);
      selects = h.selects;
      enough = h.enough;
      plain = h.plain;
    }) in
    let behind = Without-behind 10 (codes "start " ++ decimal 1)
    (32 ∷ (selector ++ flat_map spaced_value values)) free in
    Without-append 10 (codes "start ") (selector ++ flat_map spaced_value values)
    (feed_free (codes "start ") refl) behind.1
start_free (Serve n) h = numbered_free (codes "serve ") n refl h
start_free (Until n) h = numbered_free (codes "until ") n refl h
start_free Leave h = feed_free (codes "leave") refl

-- no line is `end`
no_end : (l : StartLine) → bytes_eq (start_spelling l) footer ≡ false
no_end (Start selector values) = refl
no_end (Serve n) = refl
no_end (Until n) = refl
no_end Leave = refl

-- the lines of starts are read
pub starts_read : Reads starts_form start_at
starts_read = record {
  sound = start_takes;
  reads_spelling = start_again;
  no_feed = start_free;
  no_end = λ l h. no_end l;
  header_free = feed_free (codes "starts 1") refl;
}
