-- The inputs of a record are read exactly.
use Rattle.do_record.specs.declared.parts.RecordLine.TheVariants as inputs
use Rattle.do_sched.specs.declared.line.Line.TheVariants as lines
use Rattle.std.proofs.Common.{◌≡◌, ◌==◌, ℕ, Bool, true, false, cond, List, ◌∷◌, ◌++◌, Some, refl}
use Rattle.std.proofs.Common.{sym, ap, subst, ◌∙◌, arith}
use Rattle.std.specs.{Prelude.codes, Fmt.decimal, Str.bytes_eq}
use Rattle.std.proofs.lemmas.{Bool.{eqb-true, eq-eqb}, Slice.Eq.bytes_eq-Decides}
use Rattle.do_grammar.specs.{Dec.dec_in, Words.{◌>>?◌, word}}
use Rattle.do_grammar.proofs.texts.DecExact.{cond_some, dec_again, dec_takes}
use Rattle.do_grammar.proofs.texts.{WordBytes.{chain_some, some_is}, WordExact.word_takes}
use Rattle.do_record.specs.Good.{IsGoodInput}
use Rattle.do_record.specs.Line.{as_input, ended_at, input_at, input_by, own_input}
use Rattle.do_record.specs.{Spelling.input_text, declared.parts.RecordLine.RecordLine}
use Rattle.do_sched.specs.{Good.{IsLineOf, IsPort}, Reading.{line_at, pair_at, port_at}}
use Rattle.do_sched.specs.{Spelling.{line_spelling, number_pair}, declared.line.Line.Line}
use Rattle.do_sched.specs.declared.version.Version.TheVariants.{Second}
use Rattle.do_sched.proofs.LineExact.{line_again, line_takes}
use Rattle.do_record.proofs.values.ObjectsExact.{port_again, port_takes, port_word}

-- what an input's text tells
pub record IsInputText (port : ℕ) (text : List ℕ) (input : RecordLine) : Type 0 where
  pub spelled : text ≡ input_text port input
  pub good : IsGoodInput port input

-- ---- what is read is spelled so

-- two ports that are read are spelled so
ports_take : (bytes : List ℕ) (x : ℕ × ℕ) → pair_at 1 65535 bytes ≡ Some x
    → (bytes ≡ number_pair x.0 x.1) × IsPort x.0 × IsPort x.1
ports_take bytes x h =
    let a = chain_some (word 32 bytes) (λ w. port_at w.0 >>? λ p. dec_in 1 65535 w.1 >>? λ c.
    Some (p, c)) x h in
    let b = chain_some (port_at a.0.0) (λ p. dec_in 1 65535 a.0.1 >>? λ c. Some (p, c)) x a.2 in
    let d = chain_some (dec_in 1 65535 a.0.1) (λ c. Some (b.0, c)) x b.2 in
    let first = port_takes a.0.0 b.0 b.1 in
    let second = dec_takes 1 65535 a.0.1 d.0 (omega arith) d.1 in
    let same : ◌≡◌ {A = ℕ × ℕ} (b.0, d.0) x = some_is (b.0, d.0) x d.2 in
    subst (λ (y : ℕ × ℕ). (bytes ≡ number_pair y.0 y.1) × IsPort y.0 × IsPort y.1) same (
      word_takes 32 bytes a.0 a.1 ∙ ap (λ w. w ++ 32 ∷ a.0.1) first.0
          ∙ ap (λ w. decimal b.0 ++ 32 ∷ w) second.0,
      first.1,
      (second.1, second.2),
    )

-- an input at a node's own is there where the node is the record's
carried : (port node : ℕ) (text : List ℕ) (made input : RecordLine)
    → own_input port node made ≡ Some input → IsInputText node text made
    → IsInputText port text input
carried port node text made input h t =
    let c = cond_some (node == port) (Some made) input h in
    subst (IsInputText port text) (some_is made input c.1)
    (subst (λ p. IsInputText p text made) (eqb-true node port c.0) t)

-- a line of a schedule that is an input of the record's node
line_input : (port : ℕ) (text : List ℕ) (l : Line) (input : RecordLine) → text ≡ line_spelling l
    → IsLineOf Second l → as_input port l ≡ Some input → IsInputText port text input
line_input port text (lines.Start node selector values) input e good h =
    carried port node text (inputs.Start selector values) input h
    (record { spelled = e; good = good })
line_input port text (lines.Run node count) input e good h =
    let c = cond_some (count == 1) (own_input port node inputs.Run) input h in
    carried port node text inputs.Run input c.1 (record {
      spelled = e ∙ ap (λ n. line_spelling (lines.Run node n)) (eqb-true count 1 c.0);
      good = good.0;
    })
line_input port text (lines.Take node from) input e good h =
    carried port node text (inputs.Take from) input h (record { spelled = e; good = good })
line_input port text (lines.Close node peer) input e good h =
    carried port node text (inputs.Close peer) input h (record { spelled = e; good = good })
line_input port text (lines.Lose from to after) input e good h = absurd (cc)
line_input port text (lines.Timeout node) input e good h = absurd (cc)
line_input port text lines.Check input e good h = absurd (cc)

-- an end without notice
end_input : (port : ℕ) (bytes : List ℕ) (input : RecordLine) → ended_at port bytes ≡ Some input
    → IsInputText port (codes "ended " ++ bytes) input
end_input port bytes input h =
    let a = chain_some (pair_at 1 65535 bytes) (λ x. own_input port x.0 (inputs.Ended x.1)) input h
    in
    let t = ports_take bytes a.0 a.1 in
    carried port a.0.0 (codes "ended " ++ bytes) (inputs.Ended a.0.1) input a.2 (record {
      spelled = ap (λ w. codes "ended " ++ w) t.0;
      good = (t.1, t.2);
    })

-- what is read as an input is spelled so
pub input_takes : (port : ℕ) (text : List ℕ) (input : RecordLine) → input_at port text ≡ Some input
    → IsInputText port text input
input_takes port text input h =
    let a = chain_some (word 32 text) (input_by port text) input h in
    go a.0 a.1 (bytes_eq a.0.0 (codes "ended")) refl a.2
  where
    go : (w : List ℕ × List ℕ) → word 32 text ≡ Some w → (b : Bool)
        → bytes_eq w.0 (codes "ended") ≡ b
        → cond b (ended_at port w.1) (line_at Second text >>? as_input port) ≡ Some input
        → IsInputText port text input
    go w p true e q =
        let first = word_takes 32 text w p
        ∙ ap (λ u. u ++ 32 ∷ w.1) ((bytes_eq-Decides w.0 (codes "ended")).0 e) in
        subst (λ u. IsInputText port u input) (sym first) (end_input port w.1 input q)
    go w p false e q =
        let a = chain_some (line_at Second text) (as_input port) input q in
        let t = line_takes Second text a.0 a.1 in
        line_input port text a.0 input t.0 t.1 a.2

-- ---- an input is read from its spelling

-- an input of the record's node is there
own_again : (port : ℕ) (input : RecordLine) → own_input port port input ≡ Some input
own_again port input = rw (eq-eqb port port refl) refl

-- two ports are read from their spelling
ports_again : (p c : ℕ) → IsPort p → IsPort c → pair_at 1 65535 (number_pair p c) ≡ Some (p, c)
ports_again p c h k =
    rw (
      port_word 32 p (decimal c) (omega arith) h,
      port_again p h,
      dec_again 1 65535 c (omega arith) k.0 k.1,
    ) refl

-- each input is read from its spelling
pub input_again : (port : ℕ) (input : RecordLine) → IsGoodInput port input
    → input_at port (input_text port input) ≡ Some input
input_again port (inputs.Start selector values) h =
    rw (line_again Second (lines.Start port selector values) h)
    (own_again port (inputs.Start selector values))
input_again port inputs.Run h =
    rw (line_again Second (lines.Run port 1) (h, omega arith, omega arith))
    (own_again port inputs.Run)
input_again port (inputs.Take from) h =
    rw (line_again Second (lines.Take port from) h) (own_again port (inputs.Take from))
input_again port (inputs.Close peer) h =
    rw (line_again Second (lines.Close port peer) h) (own_again port (inputs.Close peer))
input_again port (inputs.Ended peer) h =
    rw (ports_again port peer h.0 h.1) (own_again port (inputs.Ended peer))

-- no input is `end`
pub no_end : (port : ℕ) (input : RecordLine)
    → bytes_eq (input_text port input) (codes "end") ≡ false
no_end port (inputs.Start selector values) = refl
no_end port inputs.Run = refl
no_end port (inputs.Take from) = refl
no_end port (inputs.Close peer) = refl
no_end port (inputs.Ended peer) = refl
