-- Where the next frame of a stream stands in the bytes that are kept.
use Rattle.std.proofs.Common.{◌≡◌, ℕ, ◌+◌, ◌-◌, ◌≤◌, Bool, List, ◌++◌, length, drop, take, Ok, Err}
use Rattle.std.proofs.Common.{sym, ap, ◌∙◌, arith, ◌∷◌, append_assoc}
use Rattle.do_grammar.specs.{Grammar.IsBytes, Reader.no_kind, RestAnswers.Fails}
use Rattle.do_grammar.specs.declared.fault.ReadFault.{ReadFault, TheVariants.{Memory, Short, Bad}}
use Rattle.do_grammar.proofs.faults.AnswerExact.{proper_front, left_within, first_bad}
use Rattle.std.proofs.lemmas.List.{length-append, take_at, drop_at}
use Rattle.do_grammar.specs.Num.{digits}
use Rattle.do_frames.specs.{declared.frame.RawFrame.RawFrame, Frames.raw_spelling}
use Rattle.do_frames.specs.{Streams.{greeting, Front, front_at}, Places.{IsPlaced, TellsPlace}}
use Rattle.do_frames.proofs.streams.FrontExact.{Reads-front}

-- where no frame is read, the fault tells of the bytes
pub front_fails : (greeted : Bool) (bytes : List ℕ) (e : ReadFault) → IsBytes bytes
    → Fails e (front_at greeted bytes) → TellsPlace greeted bytes (Err e)
front_fails greeted bytes Memory small f = tt
front_fails greeted bytes Short small f =
    proper_front (Front greeted) (front_at greeted) (Reads-front greeted) bytes small f
front_fails greeted bytes (Bad left) small f = (
  left_within (Front greeted) (front_at greeted) (Reads-front greeted) bytes no_kind left small f,
  first_bad (Front greeted) (front_at greeted) (Reads-front greeted) bytes no_kind left small f,
)

-- a payload is the end of its frame's spelling
payload_ends : (greeted : Bool) (f : RawFrame) (text : List ℕ)
    → text ≡ greeting greeted ++ raw_spelling f
    → (length f.payload ≤ length text) × (drop (length text - length f.payload) text ≡ f.payload)
payload_ends greeted f text e =
    let before : List ℕ = greeting greeted ++ f.kind ∷ digits 4 (length f.payload) in
    let parts : text ≡ before ++ f.payload = e
    ∙ sym (append_assoc (greeting greeted) (f.kind ∷ digits 4 (length f.payload)) f.payload) in
    let len : length text ≡ length before + length f.payload = ap length parts
    ∙ length-append before f.payload in (
      omega (arith, len),
      ap (drop (length text - length f.payload)) parts
          ∙ drop_at before f.payload (length text - length f.payload) (omega (arith, len)),
    )

-- a frame that is read stands where the lengths say
pub front_whole : (greeted : Bool) (bytes : List ℕ) (f : RawFrame) (rest : List ℕ) → IsBytes bytes
    → front_at greeted bytes ≡ Ok (f, rest)
    → (length rest ≤ length bytes) × ((length f.payload ≤ length bytes - length rest)
    × IsPlaced greeted bytes (record {
      kind = f.kind;
      begins = length bytes - length rest - length f.payload;
      ends = length bytes - length rest;
    }))
front_whole greeted bytes f rest small e =
    let t = (Reads-front greeted).sound bytes f rest small e in
    let len : length bytes ≡ length t.text + length rest = ap length t.parts
    ∙ length-append t.text rest in
    let n : length t.text ≡ length bytes - length rest = omega (arith, len) in
    let p = payload_ends greeted f t.text t.spelled.bytes in
    let front : take (length bytes - length rest) bytes ≡ t.text =
    ap (take (length bytes - length rest)) t.parts
    ∙ take_at t.text rest (length bytes - length rest) n in
    let back : drop (length bytes - length rest) bytes ≡ rest =
    ap (drop (length bytes - length rest)) t.parts
    ∙ drop_at t.text rest (length bytes - length rest) n in
    let payload : drop (length bytes - length rest - length f.payload)
    (take (length bytes - length rest) bytes) ≡ f.payload =
    ap (drop (length bytes - length rest - length f.payload)) front
    ∙ ap (λ (k : ℕ). drop (k - length f.payload) t.text) (sym n) ∙ p.1 in
    let shorter = p.0 in (
      omega (arith, len),
      (
        omega (arith, n),
        record {
          order = omega arith;
          inside = omega arith;
          taken = rw (payload, back) t;
        },
      ),
    )
