-- Objects under serials that follow one another.
use Rattle.std.proofs.Common.{◌≡◌, ℕ, zero, suc, ◌+◌, ◌<◌, List, [], ◌∷◌, ◌++◌, length, take, ap}
use Rattle.std.{proofs.Common.{sym, ◌∙◌, arith}, specs.Prelude.get_or}
use Rattle.do_packet.specs.declared.receipt.Made.{Made}
use Rattle.do_machine.specs.{declared.node.Stored.Stored, run.Fresh.with_serials}

-- an object as it is stored under a serial
abbrev under : ℕ → Made → Stored
under serial m = record { serial = serial; class = m.class; slots = m.slots }

serials_suc : (serial : ℕ) (ms : List Made) (i next : ℕ) (m : Made) → i < length ms →
    m ≡ get_or ms i m → next ≡ serial + i →
    with_serials serial (take (suc i) ms) ≡ with_serials serial (take i ms) ++ under next m ∷ []
serials_suc serial [] i next m h at is = absurd (omega (arith, h))
serials_suc serial (x ∷ ms) zero next m h at is =
    let here : serial ≡ next = omega (arith, is) in
    ap (λ (y : Made). under serial y ∷ []) (sym at) ∙ ap (λ n. under n m ∷ []) here
serials_suc serial (x ∷ ms) (suc i) next m h at is =
    ap (λ xs. under serial x ∷ xs)
    (serials_suc (suc serial) ms i next m (omega (arith, h)) at (omega (arith, is)))

-- one object more takes the serial behind the others
pub serials_more : (serial : ℕ) (ms : List Made) (i next : ℕ) (m : Made) → i < length ms →
    m ≡ get_or ms i m → next ≡ serial + i →
    with_serials serial (take (i + 1) ms)
    ≡ with_serials serial (take i ms)
    ++ record { serial = next; class = m.class; slots = m.slots } ∷ []
serials_more serial ms i next m h at is =
    let more : i + 1 ≡ suc i = omega arith in
    ap (λ n. with_serials serial (take n ms)) more ∙ serials_suc serial ms i next m h at is

pub ruleset serial_steps = (serials_more)
