-- Where an encoding stands, and which types may stand there.
use Rattle.std.specs.Prelude.{◌≡◌, Bool, true, false}
use Rattle.do_sig.specs.declared.outermost.place.Place.{Place, TheVariants.{Returned, Argument}}
use Rattle.do_sig.specs.declared.value_type.OutermostType.{OutermostType}
use Rattle.do_sig.specs.declared.value_type.OutermostType.TheVariants.{Void, Pointer, Plain}
use Rattle.do_sig.specs.Types.{is_within}

-- a result may stand here, and so may v and V
abbrev pub may_return : Place → Bool
may_return Argument = false
may_return _ = true

-- an argument may stand here, and so may ^
abbrev pub may_point : Place → Bool
may_point Returned = false
may_point _ = true

-- A type may stand at a place, with V before it or without: v as a result alone, ^ as an argument
-- alone, and V before v alone. At most eight types are open, ^ among them.
abbrev pub MayStand : Place → Bool → OutermostType → Type 0
MayStand place oneway Void = may_return place ≡ true
MayStand place oneway (Pointer t) =
    (oneway ≡ false) × (may_point place ≡ true) × (is_within t 7 ≡ true)
MayStand place oneway (Plain t) = (oneway ≡ false) × (is_within t 8 ≡ true)
