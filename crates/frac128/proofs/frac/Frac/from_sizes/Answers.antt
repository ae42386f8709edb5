use Rattle.std.proofs.Common.{inl, inr}
use Rattle.frac128.proofs.ReductionLemmas.{signed_lowest, sizes_wide, sizes_value}
use Rattle.frac128.proofs.frac.Frac.from_sizes.Goals as goal
use Rattle.frac128.proofs.frac.Frac.from_sizes.Goals.{then-top-ge-TWO_TO_127-via-then-top-ge-TWO_TO_127, then-top-ge-TWO_TO_127-via-else-top-ge-TWO_TO_127+then-bottom-ge-TWO_TO_127}

pub returns-then-top-ge-TWO_TO_127 : goal.returns-then-top-ge-TWO_TO_127
returns-then-top-ge-TWO_TO_127 c =
    sizes_wide c.args.negative c.args.top c.args.bottom c.requires.positive c.requires.lowest
    (elim c.then-top-ge-TWO_TO_127.branch [ then-top-ge-TWO_TO_127-via-then-top-ge-TWO_TO_127 w ↦ inl w.if-top-ge-TWO_TO_127.true | then-top-ge-TWO_TO_127-via-else-top-ge-TWO_TO_127+then-bottom-ge-TWO_TO_127 w ↦ inr w.if-bottom-ge-TWO_TO_127.true ])

pub from_lowest_terms-requires-clause-lowest : goal.from_lowest_terms-requires-clause-lowest
from_lowest_terms-requires-clause-lowest c =
    signed_lowest c.args.negative c.args.top c.args.bottom c.signed.result c.requires.lowest (record { sfits = c.signed.type_inv }) c.signed.ensures.value

pub returns : goal.returns
returns c =
    sizes_value c.args.negative c.args.top c.args.bottom c.signed.result c.from_lowest_terms.result c.requires.positive c.requires.lowest c.if-top-ge-TWO_TO_127.false c.if-bottom-ge-TWO_TO_127.false (record { sfits = c.signed.type_inv }) c.signed.ensures.value c.from_lowest_terms.ensures.num c.from_lowest_terms.ensures.den
