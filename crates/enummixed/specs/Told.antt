-- How the reasons of the parts are told
use Rattle.std.specs.Prelude.{ℕ}
use Rattle.enumpure.specs.declared.listing.ListStop.{ListStop}
use Rattle.enumpure.specs.declared.listing.ListStop.TheVariants as list
use Rattle.reply_polytope.specs.declared.stop.PolyStop.{PolyStop}
use Rattle.reply_polytope.specs.declared.stop.PolyStop.TheVariants as poly
use Rattle.basis_enum.specs.declared.stop.EnumerationStop.{EnumerationStop}
use Rattle.basis_enum.specs.declared.stop.EnumerationStop.TheVariants as enum
use Rattle.label_pairing.specs.declared.pairing.PairStop.{PairStop}
use Rattle.label_pairing.specs.declared.pairing.PairStop.TheVariants as pair
use Rattle.label_pairing.specs.declared.scaling.ScaleStop.{ScaleStop}
use Rattle.label_pairing.specs.declared.scaling.ScaleStop.TheVariants as scale
use Rattle.enummixed.specs.declared.stop.MixedStop.{MixedStop}
use Rattle.enummixed.specs.declared.stop.MixedStop.TheVariants as stops

-- a game has no two systems
abbrev pub polytopes_stop : PolyStop → MixedStop
polytopes_stop (poly.NotTwoPlayers count) = stops.NotTwoPlayers count
polytopes_stop (poly.TooLarge limit) = stops.TooLarge limit
polytopes_stop (poly.Range player profile unfit) = stops.Shift player profile unfit
polytopes_stop poly.Memory = stops.Memory

-- the vertices of a polytope are not listed
abbrev pub enumeration_stop : ℕ → EnumerationStop → MixedStop
enumeration_stop polytope (enum.Start row unfit) = stops.Start polytope row unfit
enumeration_stop polytope (enum.Range level basis entering unfit) =
    stops.Range polytope level basis entering unfit
enumeration_stop polytope (enum.TooLarge limit) = stops.TooLarge limit
enumeration_stop polytope enum.Memory = stops.Memory

-- the pairs are not listed
abbrev pub pairs_stop : PairStop → MixedStop
pairs_stop (pair.TooLarge limit) = stops.TooLarge limit
pairs_stop pair.Memory = stops.Memory

-- a vertex of a polytope is not scaled
abbrev pub scale_stop : ℕ → ScaleStop → MixedStop
scale_stop polytope (scale.Range unfit) = stops.Scale polytope unfit
scale_stop polytope scale.Memory = stops.Memory

-- the text is not written
abbrev pub text_stop : ListStop → MixedStop
text_stop (list.TooLarge limit) = stops.TooLarge limit
text_stop list.Memory = stops.Memory
