-- Payloads that are not read yet.
use Rattle.std.specs.Prelude.{List, drop, ℕ}
use Rattle.do_frames.specs.declared.unread.Held.{Held, TheVariants.{Behind, Cut}}

-- the bytes of a payload, by what they stand in
abbrev pub held_bytes : Held → List ℕ
held_bytes (Cut bytes) = bytes
held_bytes (Behind text begins) = drop begins text
