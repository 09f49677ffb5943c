-- A node's own state and its rules, as a server sees them.
use Rattle.std.specs.Prelude.{◌≡◌, ℕ, Bool, List, [], ◌∷◌, ◌++◌, Option, Some, None}
use Rattle.do_base.specs.declared.events.shown.Shown.{Shown}
use Rattle.do_network.specs.declared.input.{Input.Input, Done.Done}

-- the bytes of a frame, and the peer that they are for
pub record Outgoing : Type 0 where
  pub to : ℕ
  pub bytes : List ℕ

-- what an input comes to: the state afterwards, the frames that it sends, what it shows, and
-- whether it was done
pub record Moved (Part : Type 0) : Type 0 where
  pub part : Part
  pub frames : List Outgoing
  pub shown : List Shown
  pub done : Done

-- the rules of a node's own state: its step by an input, whether its top invocation can act,
-- whether it takes from a peer, whether it has no invocation, and whether its end towards a peer is
-- open
pub record Rules (Part : Type 0) : Type 0 where
  pub step : Part → Input → Moved Part
  pub can_act : Part → Bool
  pub can_take : Part → ℕ → Bool
  pub is_idle : Part → Bool
  pub is_open : Part → ℕ → Bool

-- a state, its frames and what it shows are those after a step
pub record IsAfter {Part : Type 0} (m : Moved Part) (answer : Done) (state : Part)
    (waiting waiting' : List Outgoing) (lines lines' : List Shown) : Type 0 where
  pub done : answer ≡ m.done
  pub part : state ≡ m.part
  pub frames : waiting' ≡ waiting ++ m.frames
  pub shown : lines' ≡ lines ++ m.shown

-- the oldest frame was taken out and its bytes were appended, or there is none
abbrev pub HasFetched : List Outgoing → List Outgoing → List ℕ → List ℕ → Option ℕ → Type 0
HasFetched frames frames' bytes bytes' None = (frames ≡ []) × (frames' ≡ []) × (bytes' ≡ bytes)
HasFetched frames frames' bytes bytes' (Some to) = (text : List ℕ)
    × (frames ≡ record { to = to; bytes = text } ∷ frames') × (bytes' ≡ bytes ++ text)
