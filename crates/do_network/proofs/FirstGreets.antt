-- A greeting goes before the first frame over a link, and before no other.
use Rattle.std.proofs.Common.{◌≡◌, ◌∙◌, Bool, true, false, cond, List, [], ◌∷◌, ap, map, refl}
use Rattle.std.specs.Prelude.{Some}
use Rattle.do_network.specs.{Frames.Posted, Links.{Framed, Greeting, Link, Piece, Sending}}
use Rattle.do_network.specs.{Links.sendings, laws.Streams.{framed_to, greeting_to}}
use Rattle.do_frames.specs.Frames.{raw}

module _ (x : Posted) (l : Link) where
  -- what is sent for the frame, by whether the stream has begun
  by_greeted : (b : Bool) → l.greeted ≡ b →
      sendings x (Some l) ≡ cond b (framed_to x l ∷ []) (greeting_to x.to ∷ framed_to x l ∷ [])
  by_greeted b e = ap sent_where e ∙ go b
    where
      sent_where : Bool → List Sending
      sent_where greeted =
          map (λ (piece : Piece). record { to = x.to; piece = piece })
          (cond greeted (Framed x.frame (raw l.sent x.frame) ∷ [])
          (Greeting ∷ Framed x.frame (raw l.sent x.frame) ∷ []))

      go : (b : Bool) → sent_where b
          ≡ cond b (framed_to x l ∷ []) (greeting_to x.to ∷ framed_to x l ∷ [])
      go true = refl
      go false = refl

  -- the first frame has a greeting before it
  pub first_greets : l.greeted ≡ false →
      sendings x (Some l) ≡ greeting_to x.to ∷ framed_to x l ∷ []
  first_greets = by_greeted false

  -- a later one has none
  pub later_goes : l.greeted ≡ true → sendings x (Some l) ≡ framed_to x l ∷ []
  later_goes = by_greeted true
