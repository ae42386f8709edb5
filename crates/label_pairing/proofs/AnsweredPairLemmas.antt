-- Two lists have all their pairs, or there are too many of them.
use Rattle.std.proofs.Common.{length}
use Rattle.answers.specs.Answers.{only, refused_by}
use Rattle.answers.proofs.AnsweredLemmas.{bind-answered, only-answered, refuse_where-answered, refused_by-answered}
use Rattle.game_core.specs.Limits.{within}
use Rattle.game_core.specs.declared.too_large.What.TheVariants as what
use Rattle.label_pairing.specs.Pairs.{all_pairs, most_pairs}
use Rattle.label_pairing.specs.AnsweredLaws.{PairsAreAnswered}
use Rattle.label_pairing.specs.declared.pairing.PairStop.TheVariants as pair_stops

-- two lists have a list of pairs, or too many
pub pairs-answered : PairsAreAnswered
pairs-answered all first second =
    let count = within what.Pairs most_pairs (length (all_pairs all first second)) in
    bind-answered (refused_by pair_stops.TooLarge count) (λ _. only (all_pairs all first second)) (refused_by-answered pair_stops.TooLarge count (refuse_where-answered _ _)) (λ _ _. only-answered (all_pairs all first second))
