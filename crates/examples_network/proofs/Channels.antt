-- What a loss does to what is under way, and what a reader takes.
use Rattle.std.proofs.Common.{◌≡◌, ℕ, List, [], ◌∷◌, refl}
use Rattle.std.specs.Prelude.{Option, option_map, Some}
use Rattle.do_base.specs.declared.events.event.Event.TheVariants.{Lose, Take}
use Rattle.do_class.specs.Class.{Class}
use Rattle.do_machine.specs.run.Run.{Acting}
use Rattle.do_network.specs.{Net.{Carried, Lost, Net, Whole, channel}, Step.{net_skipped, net_step}}
use Rattle.examples_network.proofs.Samples.{node_of, site_of, two_sites}

-- a frame of a kind, with nothing in it
abbrev frame : ℕ → Carried
frame kind = Whole (record { kind = kind; payload = [] })

-- two sites with open ends, of which the first has sent these
abbrev open_net : List Carried → Net
open_net waiting = two_sites (site_of (node_of 7001 (7002 ∷ [])) (7002 ∷ []))
    (site_of (node_of 7002 (7001 ∷ [])) (7001 ∷ [])) waiting

-- the same where the second has closed its end
abbrev shut_net : List Carried → Net
shut_net waiting = two_sites (site_of (node_of 7001 (7002 ∷ [])) (7002 ∷ []))
    (site_of (node_of 7002 []) (7001 ∷ [])) waiting

-- what stands in the channel from the first to the second
abbrev under_way : Net → Option (List Carried)
under_way N = option_map (λ c. c.waiting) (channel N 7001 7002)

module _ (table : List Class) (act : Acting) where
  -- a loss behind one of two
  lost_behind_one :
      under_way (net_step table act (open_net (frame 5 ∷ frame 12 ∷ [])) (Lose 7001 7002 1)).net
      ≡ Some (frame 5 ∷ Lost ∷ frame 12 ∷ [])
  lost_behind_one = refl

  -- behind both, and before both
  lost_behind_both :
      under_way (net_step table act (open_net (frame 5 ∷ frame 12 ∷ [])) (Lose 7001 7002 2)).net
      ≡ Some (frame 5 ∷ frame 12 ∷ Lost ∷ [])
  lost_behind_both = refl

  lost_before_both :
      under_way (net_step table act (open_net (frame 5 ∷ frame 12 ∷ [])) (Lose 7001 7002 0)).net
      ≡ Some (Lost ∷ frame 5 ∷ frame 12 ∷ [])
  lost_before_both = refl

  -- behind three there is nothing to lose
  too_few : net_step table act (open_net (frame 5 ∷ frame 12 ∷ [])) (Lose 7001 7002 3)
      ≡ net_skipped (open_net (frame 5 ∷ frame 12 ∷ []))
  too_few = refl

  -- nor is there towards an end that is closed, or from a port of no node
  closed_reader : net_step table act (shut_net (frame 5 ∷ [])) (Lose 7001 7002 0)
      ≡ net_skipped (shut_net (frame 5 ∷ []))
  closed_reader = refl

  no_such_node : net_step table act (open_net []) (Lose 7004 7002 0) ≡ net_skipped (open_net [])
  no_such_node = refl

  -- a loss steps no node: it shows nothing and sends nothing
  nothing_sent :
      (net_step table act (open_net (frame 5 ∷ [])) (Lose 7001 7002 0)).wires ≡ []
  nothing_sent = refl

  -- where nothing is under way, and over an end that is closed, nothing is taken
  nothing_taken : net_step table act (open_net []) (Take 7002 7001) ≡ net_skipped (open_net [])
  nothing_taken = refl

  taken_over_a_closed_end : net_step table act (shut_net (frame 12 ∷ [])) (Take 7002 7001)
      ≡ net_skipped (shut_net (frame 12 ∷ []))
  taken_over_a_closed_end = refl

  -- the oldest is taken out
  oldest_taken :
      under_way (net_step table act (open_net (frame 12 ∷ frame 5 ∷ [])) (Take 7002 7001)).net
      ≡ Some (frame 5 ∷ [])
  oldest_taken = refl
