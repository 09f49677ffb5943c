-- Frames and lines in cells: put behind the others of their queue, and taken out before them.
use Rattle.std.proofs.Common.{◌≡◌, ◌++◌, ◌+◌, ◌≤◌, ◌∷◌, ◌∙◌, List, None, Option, Some, [], ap}
use Rattle.std.proofs.Common.{get_or, length, map, refl, sym, ℕ}
use Rattle.std.{specs.Prelude.{MatchOption, slice_get, slice_set}, proofs.lemmas.List.map-append}
use Rattle.do_base.specs.declared.events.shown.Shown.{Shown}
use Rattle.do_pool.specs.Pool.{Pool}
use Rattle.do_streams.specs.declared.{end.Outgoing.Outgoing, waiting.Queued.Queued}
use Rattle.do_streams.specs.declared.waiting.Queued.TheVariants.{Frame, Line}
use Rattle.do_streams.specs.Waits.{AreApart, AreQueued, framed, frames_in, lined, lines_in}
use Rattle.do_streams.specs.Waits.{oldest_first, queues_of}

-- ---- queues of frames and of lines

-- frames in cells are those frames
frames_out : (xs : List Outgoing) → frames_in (map (λ x. Frame x) xs) ≡ xs
frames_out [] = refl
frames_out (x ∷ xs) = ap (λ ys. x ∷ ys) (frames_out xs)

-- and lines those lines
lines_out : (xs : List Shown) → lines_in (map (λ x. Line x) xs) ≡ xs
lines_out [] = refl
lines_out (x ∷ xs) = ap (λ ys. x ∷ ys) (lines_out xs)

-- a region holds these frames and these lines
pub record Holds (pool : Pool Queued) (fs : List Outgoing) (ls : List Shown) : Type 0 where
  pub frames : framed pool ≡ fs
  pub lines : lined pool ≡ ls
  pub apart : AreApart pool

-- where they are its queues
pub holds : (pool : Pool Queued) (fs : List Outgoing) (ls : List Shown) →
    pool.queues ≡ queues_of fs ls → Holds pool fs ls
holds pool fs ls e =
    let first : framed pool ≡ fs = ap (λ qs. frames_in (get_or qs 0 [])) e ∙ frames_out fs in
    let second : lined pool ≡ ls = ap (λ qs. lines_in (get_or qs 1 [])) e ∙ lines_out ls in
    record {
      frames = first;
      lines = second;
      apart = e ∙ (λ j. queues_of (sym first j) (sym second j));
    }

-- each place is still room or has one in it
pub still_queued : (pool : Pool Queued) (fs : List Outgoing) (ls : List Shown)
    (room bare places : ℕ) → Holds pool fs ls → room ≤ pool.spare → room + length ls ≡ bare →
    bare + length fs ≡ places → AreQueued pool room bare places
still_queued pool fs ls room bare places h free lines all = record {
  apart = h.apart;
  free = free;
  lines = (λ j. room + length (h.lines j)) ∙ lines;
  all = (λ j. bare + length (h.frames j)) ∙ all;
}

-- ---- one queue

-- what stands in cells in front of others
front_of : {X : Type 0} (make : X → Queued) (held : List X) (item : Queued) (items : List Queued) →
    map make held ≡ item ∷ items →
    (x : X) × (xs : List X) × (held ≡ x ∷ xs) × (item ≡ make x) × (items ≡ map make xs)
front_of make [] item items e = absurd (cc)
front_of make (y ∷ ys) item items e =
    let first : make y ≡ item = cc in
    let rest : map make ys ≡ items = cc in
    (y, ys, refl, sym first, sym rest)

-- where none stands there none is held
none_of_held : {X : Type 0} (make : X → Queued) (held : List X) → map make held ≡ [] → held ≡ []
none_of_held make [] e = refl
none_of_held make (y ∷ ys) e = absurd (cc)

module _ {X : Type 0} (make : X → Queued) (k : ℕ) (was now : Pool Queued) (held : List X)
    (here : slice_get was.queues k ≡ Some (map make held)) where
  -- one more stands behind the others
  pub put_behind : (x : X) → ((items : List Queued) → slice_get was.queues k ≡ Some items →
      now.queues ≡ slice_set was.queues k (items ++ make x ∷ [])) →
      now.queues ≡ slice_set was.queues k (map make (held ++ x ∷ []))
  put_behind x put =
      put (map make held) here
      ∙ ap (λ (q : List Queued). slice_set was.queues k q) (sym (map-append make held (x ∷ [])))

  -- what is taken out stood in front of the others
  abbrev pub Fronts : Option Queued → Type 0
  Fronts None = (held ≡ []) × (now ≡ was)
  Fronts (Some item) =
      (x : X) × (xs : List X) × (held ≡ x ∷ xs) × (item ≡ make x)
      × (now.queues ≡ slice_set was.queues k (map make xs)) × (now.spare ≡ was.spare + 1)

  -- by what a queue gives
  pub takes_front : (r : Option Queued) → MatchOption r
      ((slice_get was.queues k ≡ Some []) × (now ≡ was))
      (λ item. (items : List Queued) × (slice_get was.queues k ≡ Some (item ∷ items))
      × (now.queues ≡ slice_set was.queues k items) × (now.spare ≡ was.spare + 1)) → Fronts r
  takes_front None h =
      let both : Some (map make held) ≡ Some [] = sym here ∙ h.0 in
      let empty : map make held ≡ [] = cc in
      (none_of_held make held empty, h.1)
  takes_front (Some item) h =
      let both : Some (map make held) ≡ Some (item ∷ h.0) = sym here ∙ h.1 in
      let same : map make held ≡ item ∷ h.0 = cc in
      let f = front_of make held item h.0 same in
      (f.0, f.1, f.2, f.3, h.2 ∙ ap (λ (q : List Queued). slice_set was.queues k q) f.4, h.3)

-- ---- both queues

module _ (was now : Pool Queued) (apart : AreApart was) where
  -- the queue of frames
  pub frames_here : slice_get was.queues 0 ≡ Some (map (λ x. Frame x) (framed was))
  frames_here = ap (λ (qs : List (List Queued)). slice_get qs 0) apart

  -- the queue of lines
  pub lines_here : slice_get was.queues 1 ≡ Some (map (λ x. Line x) (lined was))
  lines_here = ap (λ (qs : List (List Queued)). slice_get qs 1) apart

  -- other frames stand there, and the lines as before
  pub holds_frames : (fs : List Outgoing) →
      now.queues ≡ slice_set was.queues 0 (map (λ x. Frame x) fs) → Holds now fs (lined was)
  holds_frames fs e = holds now fs (lined was)
      (e ∙ ap (λ (qs : List (List Queued)). slice_set qs 0 (map (λ x. Frame x) fs)) apart)

  -- other lines stand there, and the frames as before
  pub holds_lines : (ls : List Shown) →
      now.queues ≡ slice_set was.queues 1 (map (λ x. Line x) ls) → Holds now (framed was) ls
  holds_lines ls e = holds now (framed was) ls
      (e ∙ ap (λ (qs : List (List Queued)). slice_set qs 1 (map (λ x. Line x) ls)) apart)

  -- one more frame is put behind the others
  pub frame_behind : (x : Outgoing) → ((items : List Queued) → slice_get was.queues 0 ≡ Some items →
      now.queues ≡ slice_set was.queues 0 (items ++ Frame x ∷ [])) →
      Holds now (framed was ++ x ∷ []) (lined was)
  frame_behind x put = holds_frames (framed was ++ x ∷ [])
      (put_behind (λ y. Frame y) 0 was now (framed was) frames_here x put)

  -- one more line is put behind the others
  pub line_behind : (x : Shown) → ((items : List Queued) → slice_get was.queues 1 ≡ Some items →
      now.queues ≡ slice_set was.queues 1 (items ++ Line x ∷ [])) →
      Holds now (framed was) (lined was ++ x ∷ [])
  line_behind x put = holds_lines (lined was ++ x ∷ [])
      (put_behind (λ y. Line y) 1 was now (lined was) lines_here x put)

-- ---- beside a frame that was taken out

-- a frame is behind that one too
pub behind_oldest : (o : Option Outgoing) (xs : List Outgoing) (x : Outgoing) →
    oldest_first o (xs ++ x ∷ []) ≡ oldest_first o xs ++ x ∷ []
behind_oldest None xs x = refl
behind_oldest (Some y) xs x = refl
