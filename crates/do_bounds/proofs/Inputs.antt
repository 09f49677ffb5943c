-- Inputs leave a site within the limits, one after another.
use Rattle.do_network.specs.declared.input.Input.TheVariants as inputs
use Rattle.std.proofs.Common.{List, [], arith, refl, subst, sym, ℕ, ◌+◌, ◌<◌, ◌∷◌}
use Rattle.std.specs.{List.AllByRecursion, Prelude.All}
use Rattle.do_class.specs.{Class.Class, Table.IsTable}
use Rattle.do_sched.specs.Good.{IsPort}
use Rattle.do_machine.specs.{World.{HasSignatures, IsSeat, others}, declared.state.Seat.Seat}
use Rattle.do_machine.specs.run.Run.{Acting}
use Rattle.do_network.specs.{Links.Part, Net.opening_part, Site.site_step}
use Rattle.do_network.specs.declared.input.Input.{Input}
use Rattle.do_limits.specs.{Numbers.{HasSmallNumbers, NumbersWithin}, SendableActs.KeepsSendable}
use Rattle.do_limits.proofs.{numbers.Few.few_small, Effects.blank_sendable, Selectors.has_methods}
use Rattle.do_limits.proofs.Signatures.{HasMethods}
use Rattle.do_bounds.specs.Bounds.{IsWithin, MayCome, SendsWithin, makers, may_make, site_after}
use Rattle.do_bounds.proofs.Acts.{close_comes, end_comes, run_comes, start_comes, time_out_comes}
use Rattle.do_bounds.proofs.{Classes.none_kept, Links.links_open, Sites.{Came, PartIsWithin}}
use Rattle.do_bounds.proofs.{Rises.further, Taken.taken_comes}

-- a site as it opens
pub part_opens : (table : List Class) (ports : List ℕ) (seat : Seat) → IsSeat table seat →
    PartIsWithin table seat.node (opening_part table ports seat)
part_opens table ports seat h =
    let blanks = blank_sendable table seat.root h.root in
    record {
      own = record {
        values = record {
          heap = (record { serial = omega arith; slots = blanks.0; whole = blanks.1 }, tt);
          stack = tt;
          numbers = (refl, (omega arith, (omega arith, (tt, tt))));
        };
        classes = none_kept table;
      };
      links = links_open table (others ports seat.node);
    }

module _ (table : List Class) (t : IsTable table) (few : HasMethods table) (act : Acting)
    (keeps : KeepsSendable table act) where
  -- each input, at the node's own port
  input_comes : (i : Input) → MayCome i → (p : Part) → IsPort p.own.node.port →
      PartIsWithin table p.own.node.port p →
      Came table p.own.node.port p.own.node (may_make i) (site_step table act p i)
  input_comes inputs.Run may p at h = run_comes table few p at h act keeps
  input_comes (inputs.Start selector values) may p at h =
      start_comes table few p at h selector values may act
  input_comes (inputs.Frame from raw) may p at h =
      taken_comes table few p at h from t act may.0 raw may.1
  input_comes (inputs.Close peer) may p at h = close_comes table few p at h act peer
  input_comes (inputs.Ended peer) may p at h = end_comes table few p at h act peer
  input_comes inputs.Timeout may p at h = time_out_comes table few p at h act

  module _ (port : ℕ) (at : IsPort port) where
    -- each input
    pub step_comes : (i : Input) → MayCome i → (p : Part) → PartIsWithin table port p →
        Came table port p.own.node (may_make i) (site_step table act p i)
    step_comes i may p h =
        let home = h.own.values.numbers.0 in
        subst (λ x. Came table x p.own.node (may_make i) (site_step table act p i)) home
        (input_comes i may p (subst IsPort (sym home) at)
        (subst (λ x. PartIsWithin table x p) (sym home) h))

    -- inputs, one after another
    pub all_within : (inputs : List Input) → AllByRecursion MayCome inputs → (p : Part) →
        PartIsWithin table port p → (count : ℕ) → NumbersWithin count p.own.node →
        PartIsWithin table port (site_after table act p inputs)
        × NumbersWithin (count + makers inputs) (site_after table act p inputs).own.node
    all_within [] may p h count k =
        (h, subst (λ x. NumbersWithin x p.own.node) (omega arith) k)
    all_within (i ∷ is) may p h count k =
        let it = step_comes i may.0 p h in
        let q = (site_step table act p i).part in
        let more = all_within is may.1 q it.part (count + may_make i)
        (further count (may_make i) p.own.node q.own.node k it.rises) in (
          more.0,
          subst (λ x. NumbersWithin x (site_after table act q is).own.node) (omega arith) more.1,
        )

module _ (table : List Class) (act : Acting) (ports : List ℕ) (seat : Seat) (inputs : List Input)
    (t : IsTable table) (signed : All HasSignatures table) (is : IsSeat table seat)
    (keeps : KeepsSendable table act) (come : AllByRecursion MayCome inputs) where
  -- the site to which inputs lead from its opening on
  abbrev after : Part
  after = site_after table act (opening_part table ports seat) inputs

  -- it is within the limits
  both : PartIsWithin table seat.node after × NumbersWithin (0 + makers inputs) after.own.node
  both =
      all_within table t (has_methods table t signed) act keeps seat.node is.port inputs come
      (opening_part table ports seat) (part_opens table ports seat is) 0
      (record { call = omega arith; serial = omega arith; token = omega arith })

  -- so are its values
  pub nodes_within : IsWithin table seat.node after.own
  nodes_within = both.0.own

  -- and its numbers
  pub numbers_within : NumbersWithin (makers inputs) after.own.node
  numbers_within = subst (λ x. NumbersWithin x after.own.node) (omega arith) both.1

  -- which are small where runs and frames are few
  pub numbers_small : makers inputs < 70368744177664 → HasSmallNumbers after.own.node
  numbers_small few = few_small (makers inputs) after.own.node few numbers_within

  -- and what it sends for one more input
  pub sends_within : (input : Input) → MayCome input →
      AllByRecursion (SendsWithin table seat.node) (site_step table act after input).sent
  sends_within input may =
      (step_comes table t (has_methods table t signed) act keeps seat.node is.port input may after
      both.0).sends
