-- The lines of a schedule are read exactly.
use Rattle.std.proofs.Common.{◌≡◌, ℕ, ◌<◌, ◌≤◌, ◌^◌, Bool, true, false, cond, List as Listed, ◌∷◌}
use Rattle.std.proofs.Common.{◌++◌, Option, Some, None, refl, ap, subst, ◌∙◌, arith}
use Rattle.std.specs.{Prelude.codes, List.flat_map, Fmt.decimal, Str.bytes_eq}
use Rattle.std.proofs.lemmas.Slice.Eq.{bytes_eq-Decides}
use Rattle.do_base.specs.declared.values.value.Value.{Value}
use Rattle.do_grammar.specs.{Dec.dec_in, Names.{is_selector, colons}, Words.{◌>>?◌, word, part}}
use Rattle.do_grammar.proofs.texts.{WordBytes.{some_is, chain_some}, NameBytes.Without-selector}
use Rattle.do_grammar.proofs.texts.DecExact.{dec_takes, dec_again, cond_some}
use Rattle.do_grammar.proofs.texts.IntExact.{Without-decimal}
use Rattle.do_grammar.proofs.texts.WordExact.{word_takes, word_again, part_takes, part_again}
use Rattle.do_sched.specs.declared.line.Line.{Line, TheVariants.{Start, Run, Take, Close, Lose}}
use Rattle.do_sched.specs.declared.{line.Line.TheVariants.{Timeout, Check}, version.Version.Version}
use Rattle.do_sched.specs.{Version.{longest, has_timeouts}, Spelling.{spaced_value, number_pair}}
use Rattle.do_sched.specs.{Spelling.line_spelling, Good.{IsPort, IsLineOf}}
use Rattle.do_sched.specs.Reading.{port_at, pair_at, values_at, called_at, start_line_at}
use Rattle.do_sched.specs.Reading.{run_line_at, take_line_at, close_line_at, lose_line_at}
use Rattle.do_sched.specs.Reading.{timeout_line_at, on_word, form_at, line_at}
use Rattle.do_sched.proofs.ValuesExact.{values_takes, values_again, spaced_value_first}

-- ---- a node's number, and one more

-- what is read as a node's number is spelled so
port_takes : (bytes : Listed ℕ) (p : ℕ) → port_at bytes ≡ Some p → (bytes ≡ decimal p) × IsPort p
port_takes bytes p h = let t = dec_takes 1 65535 bytes p (omega arith) h in (t.0, (t.1, t.2))

-- and it is read from its spelling
port_again : (p : ℕ) → IsPort p → port_at (decimal p) ≡ Some p
port_again p h = dec_again 1 65535 p (omega arith) h.0 h.1

record Pair (low high : ℕ) (bytes : Listed ℕ) (x : ℕ × ℕ) : Type 0 where
  spelled : bytes ≡ number_pair x.0 x.1
  at_port : IsPort x.0
  least : low ≤ x.1
  most : x.1 ≤ high

-- two numbers that are within their bounds, parted by a space
pair_is : (low high : ℕ) (bytes first second : Listed ℕ) (p c : ℕ) (x : ℕ × ℕ)
    → ◌≡◌ {A = ℕ × ℕ} (p, c) x
    → bytes ≡ first ++ 32 ∷ second → first ≡ decimal p → second ≡ decimal c → IsPort p → low ≤ c
    → c ≤ high → Pair low high bytes x
pair_is low high bytes first second p c x same parts one other port least most =
    subst (Pair low high bytes) same (record {
      spelled = parts ∙ ap (λ (w : Listed ℕ). w ++ 32 ∷ second) one
          ∙ ap (λ (w : Listed ℕ). decimal p ++ 32 ∷ w) other;
      at_port = port;
      least = least;
      most = most;
    })

-- what is read as a node's number and one more is spelled so
pair_takes : (low high : ℕ) (bytes : Listed ℕ) (x : ℕ × ℕ) → high < 2 ^ 64
    → pair_at low high bytes ≡ Some x → Pair low high bytes x
pair_takes low high bytes x fits h =
    let a = chain_some (word 32 bytes) (λ w. port_at w.0 >>? λ p. dec_in low high w.1 >>? λ c.
    Some (p, c)) x h in
    let b = chain_some (port_at a.0.0) (λ p. dec_in low high a.0.1 >>? λ c. Some (p, c)) x a.2 in
    let d = chain_some (dec_in low high a.0.1) (λ c. Some (b.0, c)) x b.2 in
    let y = port_takes a.0.0 b.0 b.1 in
    let z = dec_takes low high a.0.1 d.0 fits d.1 in
    pair_is low high bytes a.0.0 a.0.1 b.0 d.0 x (some_is {A = ℕ × ℕ} (b.0, d.0) x d.2)
    (word_takes 32 bytes a.0 a.1) y.0 z.0 y.1 z.1 z.2

-- a node's number and one more are read
pair_again : (low high p c : ℕ) → high < 2 ^ 64 → IsPort p → low ≤ c → c ≤ high
    → pair_at low high (number_pair p c) ≡ Some (p, c)
pair_again low high p c fits port least most =
    let q = port.1 in
    rw (
      word_again 32 (decimal p) (decimal c) (Without-decimal 32 p (omega arith) (omega arith)),
      port_again p port,
      dec_again low high c fits least most,
    ) refl

-- ---- a line, as what stands behind its first word

-- what a line's text tells, behind the first word
record Spells (version : Version) (first bytes : Listed ℕ) (l : Line) : Type 0 where
  spelled : first ++ 32 ∷ bytes ≡ line_spelling l
  good : IsLineOf version l

-- a first word and two numbers make a line
numbers_take : (version : Version) (first bytes : Listed ℕ) (low high : ℕ) (make : ℕ × ℕ → Line)
    (l : Line) → high < 2 ^ 64
    → ((x : ℕ × ℕ) → IsPort x.0 → low ≤ x.1 → x.1 ≤ high
    → (first ++ 32 ∷ number_pair x.0 x.1 ≡ line_spelling (make x)) × IsLineOf version (make x))
    → (pair_at low high bytes >>? λ x. Some (make x)) ≡ Some l → Spells version first bytes l
numbers_take version first bytes low high make l fits made h =
    let a = chain_some (pair_at low high bytes) (λ x. Some (make x)) l h in
    let t = pair_takes low high bytes a.0 fits a.1 in
    let m = made a.0 t.at_port t.least t.most in
    subst (Spells version first bytes) (some_is (make a.0) l a.2) (record {
      spelled = ap (λ (w : Listed ℕ). first ++ 32 ∷ w) t.spelled ∙ m.0;
      good = m.1;
    })

-- what is read as a run is spelled so
run_takes : (version : Version) (bytes : Listed ℕ) (l : Line) → run_line_at bytes ≡ Some l
    → Spells version (codes "run") bytes l
run_takes version bytes l h =
    numbers_take version (codes "run") bytes 1 1000 (λ x. Run x.0 x.1) l (omega arith)
    (λ x port least most. (refl, (port, least, most))) h

-- so is a take
take_takes : (version : Version) (bytes : Listed ℕ) (l : Line) → take_line_at bytes ≡ Some l
    → Spells version (codes "take") bytes l
take_takes version bytes l h =
    numbers_take version (codes "take") bytes 1 65535 (λ x. Take x.0 x.1) l (omega arith)
    (λ x port least most. (refl, (port, (least, most)))) h

-- so is a close
close_takes : (version : Version) (bytes : Listed ℕ) (l : Line) → close_line_at bytes ≡ Some l
    → Spells version (codes "close") bytes l
close_takes version bytes l h =
    numbers_take version (codes "close") bytes 1 65535 (λ x. Close x.0 x.1) l (omega arith)
    (λ x port least most. (refl, (port, (least, most)))) h

-- so is a loss
lose_takes : (version : Version) (bytes : Listed ℕ) (l : Line) → lose_line_at bytes ≡ Some l
    → Spells version (codes "lose") bytes l
lose_takes version bytes l h =
    let high : ℕ = 18446744073709551615 in
    let a = chain_some (word 32 bytes) (λ w. port_at w.0 >>? λ p. pair_at 0 high w.1 >>? λ x.
    Some (Lose p x.0 x.1)) l h in
    let b = chain_some (port_at a.0.0) (λ p. pair_at 0 high a.0.1 >>? λ x.
    Some (Lose p x.0 x.1)) l a.2 in
    let d = chain_some (pair_at 0 high a.0.1) (λ x. Some (Lose b.0 x.0 x.1)) l b.2 in
    let y = port_takes a.0.0 b.0 b.1 in
    let t = pair_takes 0 high a.0.1 d.0 (omega arith) d.1 in
    let most = t.most in
    subst (Spells version (codes "lose") bytes) {x = Lose b.0 d.0.0 d.0.1}
    (some_is (Lose b.0 d.0.0 d.0.1) l d.2) (record {
      spelled = ap (λ (w : Listed ℕ). codes "lose" ++ 32 ∷ w) (word_takes 32 bytes a.0 a.1
          ∙ ap (λ (w : Listed ℕ). w ++ 32 ∷ a.0.1) y.0
          ∙ ap (λ (w : Listed ℕ). decimal b.0 ++ 32 ∷ w) t.spelled);
      good = (y.1, t.at_port, omega arith);
    })

-- so is a time-out
timeout_takes : (version : Version) (bytes : Listed ℕ) (l : Line)
    → timeout_line_at version bytes ≡ Some l → Spells version (codes "timeout") bytes l
timeout_takes version bytes l h =
    let c = cond_some (has_timeouts version) (port_at bytes >>? λ p. Some (Timeout p)) l h in
    let a = chain_some (port_at bytes) (λ p. Some (Timeout p)) l c.1 in
    let y = port_takes bytes a.0 a.1 in
    subst (Spells version (codes "timeout") bytes) (some_is (Timeout a.0) l a.2) (record {
      spelled = ap (λ (w : Listed ℕ). codes "timeout" ++ 32 ∷ w) y.0;
      good = (c.0, y.1);
    })

-- so is a start
start_takes : (version : Version) (bytes : Listed ℕ) (l : Line)
    → start_line_at (longest version) bytes ≡ Some l → Spells version (codes "start") bytes l
start_takes version bytes l h =
    let limit = longest version in
    let a = chain_some (word 32 bytes) (λ w. port_at w.0 >>? λ p.
    called_at limit p (part 32 w.1)) l h in
    let b = chain_some (port_at a.0.0) (λ p. called_at limit p (part 32 a.0.1)) l a.2 in
    let selector = (part 32 a.0.1).0 in
    let rest = (part 32 a.0.1).1 in
    let c = cond_some (is_selector selector) (values_at limit (colons selector) rest >>? λ vs.
    Some (Start b.0 selector vs)) l b.2 in
    let d = chain_some (values_at limit (colons selector) rest) (λ vs.
    Some (Start b.0 selector vs)) l c.1 in
    let y = port_takes a.0.0 b.0 b.1 in
    let t = values_takes limit (colons selector) rest d.0 d.1 in
    subst (Spells version (codes "start") bytes) {x = Start b.0 selector d.0}
    (some_is (Start b.0 selector d.0) l d.2) (record {
      spelled = ap (λ (w : Listed ℕ). codes "start" ++ 32 ∷ w) (word_takes 32 bytes a.0 a.1
          ∙ ap (λ (w : Listed ℕ). w ++ 32 ∷ a.0.1) y.0
          ∙ ap (λ (w : Listed ℕ). decimal b.0 ++ (32 ∷ w)) (part_takes 32 a.0.1
          ∙ ap (λ (w : Listed ℕ). selector ++ w) t.spelled));
      good = record { at_port = y.1; selects = c.0; enough = t.enough; plain = t.plain };
    })

-- ---- by the first word

-- a choice by a first word that comes to a line comes to it by this word, or by another
by_word : {P : Type 0} (wanted first : Listed ℕ) (line other : Option Line) (l : Line)
    → on_word wanted first line other ≡ Some l → (first ≡ wanted → line ≡ Some l → P)
    → (other ≡ Some l → P) → P
by_word {P = P} wanted first line other l h same others = go (bytes_eq first wanted) refl h
  where
    go : (t : Bool) → bytes_eq first wanted ≡ t → cond t line other ≡ Some l → P
    go true p q = same ((bytes_eq-Decides first wanted).0 p) q
    go false p q = others q

-- what a line's text tells
record IsText (version : Version) (text : Listed ℕ) (l : Line) : Type 0 where
  spelled : text ≡ line_spelling l
  good : IsLineOf version l

-- what is read behind a first word is spelled so
form_takes : (version : Version) (w : Listed ℕ × Listed ℕ) (l : Line)
    → form_at version w ≡ Some l → IsText version (w.0 ++ 32 ∷ w.1) l
form_takes version w l h =
    by_word (codes "run") w.0 (run_line_at w.1) _ l h
    (λ p q. behind (codes "run") p (run_takes version w.1 l q)) (λ h.
    by_word (codes "take") w.0 (take_line_at w.1) _ l h
    (λ p q. behind (codes "take") p (take_takes version w.1 l q)) (λ h.
    by_word (codes "close") w.0 (close_line_at w.1) _ l h
    (λ p q. behind (codes "close") p (close_takes version w.1 l q)) (λ h.
    by_word (codes "lose") w.0 (lose_line_at w.1) _ l h
    (λ p q. behind (codes "lose") p (lose_takes version w.1 l q)) (λ h.
    by_word (codes "timeout") w.0 (timeout_line_at version w.1) _ l h
    (λ p q. behind (codes "timeout") p (timeout_takes version w.1 l q)) (λ h.
    by_word (codes "start") w.0 (start_line_at (longest version) w.1) None l h
    (λ p q. behind (codes "start") p (start_takes version w.1 l q)) (λ h. absurd cc))))))
  where
    behind : (first : Listed ℕ) → w.0 ≡ first → Spells version first w.1 l
        → IsText version (w.0 ++ 32 ∷ w.1) l
    behind first p s = record {
      spelled = ap (λ (v : Listed ℕ). v ++ 32 ∷ w.1) p ∙ s.spelled;
      good = s.good;
    }

-- what is read as a line is spelled so, and within its bounds
pub line_takes : (version : Version) (text : Listed ℕ) (l : Line) → line_at version text ≡ Some l
    → (text ≡ line_spelling l) × IsLineOf version l
unfolding line_at
line_takes version text l h = go (bytes_eq text (codes "check")) refl h
  where
    go : (u : Bool) → bytes_eq text (codes "check") ≡ u
        → cond u (Some Check) (word 32 text >>? form_at version) ≡ Some l
        → (text ≡ line_spelling l) × IsLineOf version l
    go true p q =
        subst (λ (w : Line). (text ≡ line_spelling w)
        × IsLineOf version w) (some_is Check l q) ((bytes_eq-Decides text (codes "check")).0 p, tt)
    go false p q =
        let a = chain_some (word 32 text) (form_at version) l q in
        let f = form_takes version a.0 l a.2 in
        (word_takes 32 text a.0 a.1 ∙ f.spelled, f.good)

-- a start is read from its spelling
start_again : (limit node : ℕ) (version : Version) (selector : Listed ℕ) (values : Listed Value)
    → limit ≡ longest version → IsLineOf version (Start node selector values)
    → start_line_at limit (decimal node ++ 32 ∷ (selector ++ flat_map spaced_value values))
    ≡ Some (Start node selector values)
start_again limit node version selector values same g =
    let most = g.at_port.1 in
    let cut =
    part_again 32 selector (flat_map spaced_value values)
    (Without-selector 32 selector refl g.selects) (spaced_value_first values) in
    rw (
      word_again 32 (decimal node) (selector ++ flat_map spaced_value values)
          (Without-decimal 32 node (omega arith) (omega arith)),
      port_again node g.at_port,
      cut,
      g.selects,
      same,
      values_again (longest version) (colons selector) values g.plain g.enough,
    ) refl

-- a loss is read from its spelling
lose_again : (from to after : ℕ) → IsPort from → IsPort to → after < 2 ^ 64
    → lose_line_at (decimal from ++ 32 ∷ number_pair to after) ≡ Some (Lose from to after)
lose_again from to after h k fits =
    let most = h.1 in
    rw (
      word_again 32 (decimal from) (number_pair to after)
          (Without-decimal 32 from (omega arith) (omega arith)),
      port_again from h,
      pair_again 0 18446744073709551615 to after (omega arith) k (omega arith) (omega arith),
    ) refl

-- and a line within its bounds is read from its spelling
pub line_again : (version : Version) (l : Line) → IsLineOf version l
    → line_at version (line_spelling l) ≡ Some l
unfolding line_at
line_again version (Start node selector values) h =
    rw (start_again (longest version) node version selector values refl h) refl
line_again version (Run p c) h = rw (pair_again 1 1000 p c (omega arith) h.0 h.1 h.2) refl
line_again version (Take p q) h =
    rw (pair_again 1 65535 p q (omega arith) h.0 h.1.0 h.1.1) refl
line_again version (Close p q) h =
    rw (pair_again 1 65535 p q (omega arith) h.0 h.1.0 h.1.1) refl
line_again version (Lose p q k) h = rw (lose_again p q k h.0 h.1 h.2) refl
line_again version (Timeout p) h = rw (h.0, port_again p h.1) refl
line_again version Check h = refl
