-- What the lines of a record are is read exactly.
use Rattle.do_base.specs.declared.events.shown.Shown.TheVariants as shown
use Rattle.do_grammar.specs.Lines as text
use Rattle.std.proofs.Common.{◌≡◌, ◌≢◌, ℕ, Bool, true, false, cond, List, ◌∷◌, ◌++◌, Option, Some}
use Rattle.std.{proofs.Common.{None, refl, sym, ap, subst, ◌∙◌}, specs.{Prelude.codes, Fmt.decimal}}
use Rattle.std.{specs.Str.bytes_eq, proofs.lemmas.Slice.Eq.bytes_eq-Decides}
use Rattle.do_base.specs.declared.events.shown.Shown.{Shown}
use Rattle.do_grammar.specs.Words.{◌>>?◌, word}
use Rattle.do_grammar.proofs.texts.{DecExact.cond_some, WordBytes.chain_some, WordExact.word_takes}
use Rattle.do_lines.specs.Shown.{shown_text}
use Rattle.do_sched.specs.{Good.IsPort, Reading.port_at, Schedule.whole}
use Rattle.do_record.specs.{Good.IsGoodInput, GoodShown.IsShown}
use Rattle.do_record.specs.Line.{first_port, header_port, input_at, input_or_bad, marked_text}
use Rattle.do_record.specs.{Line.{shown_or_bad, text_by, text_of, versioned_port}, Shown.is_shown}
use Rattle.do_record.specs.{Spelling.input_text, declared.line.RecordText.RecordText}
use Rattle.do_record.specs.declared.line.RecordText.TheVariants.{Bad, End, Input, Shown as Shows}
use Rattle.do_record.specs.declared.parts.RecordLine.{RecordLine}
use Rattle.do_record.proofs.lines.InputsExact.{input_again, input_takes, no_end}
use Rattle.do_record.proofs.lines.ShownExact.{IsShownLine, shown_again, shown_takes}
use Rattle.do_record.proofs.values.ObjectsExact.{port_again, port_takes}

-- ---- what is read is spelled so

-- what the text of a line that was read is
abbrev pub Told : ℕ → List ℕ → RecordText → Type 0
Told port line Bad = Unit {0}
Told port line End = line ≡ codes "> end"
Told port line (Input input) =
    (line ≡ codes "> " ++ input_text port input) × IsGoodInput port input
Told port line Shows = IsShownLine port line

-- behind an angle bracket
marked_told : (port : ℕ) (line : List ℕ) → Told port (codes "> " ++ line) (marked_text port line)
marked_told port line = go (bytes_eq line (codes "end")) refl
  where
    by_input : (o : Option RecordLine) → input_at port line ≡ o
        → Told port (codes "> " ++ line) (input_or_bad o)
    by_input None e = tt
    by_input (Some input) e =
        let t = input_takes port line input e in
        (ap (λ w. codes "> " ++ w) t.spelled, t.good)

    go : (b : Bool) → bytes_eq line (codes "end") ≡ b
        → Told port (codes "> " ++ line) (cond b End (input_or_bad (input_at port line)))
    go true e = ap (λ w. codes "> " ++ w) ((bytes_eq-Decides line (codes "end")).0 e)
    go false e = by_input (input_at port line) refl

-- a line by its words
text_told : (port : ℕ) (line : List ℕ) → Told port line (text_by port line (word 32 line))
text_told port line = go (word 32 line) refl
  where
    shows : (b : Bool) → is_shown port line ≡ b → Told port line (cond b Shows Bad)
    shows true e = shown_takes port line e
    shows false e = tt

    by_first : (w : List ℕ × List ℕ) → word 32 line ≡ Some w → (b : Bool)
        → bytes_eq w.0 (codes ">") ≡ b
        → Told port line (cond b (marked_text port w.1) (shown_or_bad port line))
    by_first w e true p =
        let first : line ≡ codes "> " ++ w.1 = word_takes 32 line w e
        ∙ ap (λ u. u ++ 32 ∷ w.1) ((bytes_eq-Decides w.0 (codes ">")).0 p) in
        subst (λ u. Told port u (marked_text port w.1)) (sym first) (marked_told port w.1)
    by_first w e false p = shows (is_shown port line) refl

    go : (o : Option (List ℕ × List ℕ)) → word 32 line ≡ o
        → Told port line (text_by port line o)
    go None e = tt
    go (Some w) e = by_first w e (bytes_eq w.0 (codes ">")) refl

-- a line that is read as one of a record has its line feed, and is told by its text
pub line_told : (port : ℕ) (t : text.Line) (kind : RecordText) → text_of port t ≡ kind
    → kind ≢ Bad → (t.fed ≡ true) × Told port t.text kind
line_told port t kind e good = go t.fed refl e
  where
    go : (b : Bool) → t.fed ≡ b → cond b (text_by port t.text (word 32 t.text)) Bad ≡ kind
        → (t.fed ≡ true) × Told port t.text kind
    go true p q = (p, subst (Told port t.text) q (text_told port t.text))
    go false p q = absurd (good (sym q))

-- ---- a line is read from its spelling

-- an input is read
pub input_read : (port : ℕ) (input : RecordLine) → IsGoodInput port input
    → text_of port (whole (codes "> " ++ input_text port input)) ≡ Input input
input_read port input h = rw (no_end port input, input_again port input h) refl

-- what is shown is read
pub shown_read : (port : ℕ) (s : Shown) → IsPort port → IsShown s
    → text_of port (whole (shown_text port s)) ≡ Shows
shown_read port s h good = by_kind s (shown_again port s h good)
  where
    by_kind : (s : Shown) → is_shown port (shown_text port s) ≡ true
        → text_of port (whole (shown_text port s)) ≡ Shows
    by_kind (shown.Took item) e = ap (λ b. cond b Shows Bad) e
    by_kind (shown.Say v) e = ap (λ b. cond b Shows Bad) e
    by_kind (shown.Return v) e = ap (λ b. cond b Shows Bad) e
    by_kind (shown.Raise x) e = ap (λ b. cond b Shows Bad) e
    by_kind (shown.Free o) e = ap (λ b. cond b Shows Bad) e

-- ---- the first line

-- the port that is read of a first line stands there
pub first_told : (t : text.Line) (port : ℕ) → first_port t ≡ Some port
    → (t.fed ≡ true) × (t.text ≡ codes "record 1 " ++ decimal port) × IsPort port
first_told t port h =
    let c = cond_some t.fed (word 32 t.text >>? header_port) port h in
    let a = chain_some (word 32 t.text) header_port port c.1 in
    let d = cond_some (bytes_eq a.0.0 (codes "record")) (word 32 a.0.1 >>? versioned_port) port a.2
    in
    let b = chain_some (word 32 a.0.1) versioned_port port d.1 in
    let v = cond_some (bytes_eq b.0.0 (codes "1")) (port_at b.0.1) port b.2 in
    let p = port_takes b.0.1 port v.1 in (
      c.0,
      word_takes 32 t.text a.0 a.1
          ∙ ap (λ w. w ++ 32 ∷ a.0.1) ((bytes_eq-Decides a.0.0 (codes "record")).0 d.0)
          ∙ ap (λ w. codes "record " ++ w) (word_takes 32 a.0.1 b.0 b.1
          ∙ ap (λ w. w ++ 32 ∷ b.0.1) ((bytes_eq-Decides b.0.0 (codes "1")).0 v.0)
          ∙ ap (λ w. codes "1 " ++ w) p.0),
      p.1,
    )

-- and it is read
pub first_read : (port : ℕ) → IsPort port
    → first_port (whole (codes "record 1 " ++ decimal port)) ≡ Some port
first_read port h = port_again port h
