-- Frames that are handed over one by one.
use Rattle.std.proofs.Common.{◌≡◌, ℕ, Bool, List, [], ◌∷◌, ◌++◌, Option, sym, ap, ◌∙◌, append_assoc}
use Rattle.do_output.{specs.Told.TellsMore, proofs.ToldMore.tells_both}
use Rattle.do_link.specs.Told.{Told, handed}
use Rattle.do_serve.specs.{Rules.Outgoing, Peers.{Peer, change_at, sent_to}, Serving.hand}
use Rattle.do_serve.{specs.Handing.frames_handed, proofs.HandedFrames.frames_both}

-- some frames were handed over, and these are left
pub record Handing (frames left : List Outgoing) (peers peers' : List Peer)
    (told told' : Option (List Told)) : Type 0 where
  pub list : List Told
  pub calls : TellsMore told told' list
  pub handed : frames_handed list ++ left ≡ frames
  pub goes : (more : List Told) → hand frames peers (list ++ more) ≡ hand left peers' more

-- one frame more
pub handing_more : (frames left later : List Outgoing) (peers mid peers' : List Peer)
    (a b c : Option (List Told)) (to : ℕ) (bytes : List ℕ) (failed : Bool)
    → Handing frames left peers mid a b → left ≡ record { to = to; bytes = bytes } ∷ later
    → TellsMore b c (handed to bytes failed ∷ []) → peers' ≡ change_at to (sent_to failed) mid
    → Handing frames later peers peers' a c
handing_more frames left later peers mid peers' a b c to bytes failed h first sent changed =
    record {
      list = h.list ++ handed to bytes failed ∷ [];
      calls = tells_both a b c h.list (handed to bytes failed ∷ []) h.calls sent;
      handed = ap (λ (w : List Outgoing). w ++ later)
          (frames_both h.list (handed to bytes failed ∷ []))
          ∙ append_assoc (frames_handed h.list) (record { to = to; bytes = bytes } ∷ []) later
          ∙ ap (λ (w : List Outgoing). frames_handed h.list ++ w) (sym first) ∙ h.handed;
      goes = λ more. ap (hand frames peers) (append_assoc h.list (handed to bytes failed ∷ []) more)
          ∙ h.goes (handed to bytes failed ∷ more)
          ∙ ap (λ (w : List Outgoing). hand w mid (handed to bytes failed ∷ more)) first
          ∙ ap (λ (w : List Peer). hand later w more) (sym changed);
    }
