use Rattle.std.proofs.Common.{◌≡◌, ◌*◌, ◌<◌, ◌≤◌, ℕ, List, map, length, sym, ap, ◌∙◌, subst}
use Rattle.std.specs.Prelude.{MatchOption}
use Rattle.std.specs.List.{AllByRecursion}
use Rattle.game_theory.specs.Profiles.{profile_count}
use Rattle.game_core.specs.Table.{most_payoffs}
use Rattle.nfg_reader.specs.Fronts.{names_of}
use Rattle.nfg_reader.specs.declared.strategies.Strategies.{Strategies}
use Rattle.nfg_reader.proofs.CountedNameLemmas.{lengths_counted}
use Rattle.nfg_reader.proofs.strategies.profile_count_within_limit.Goals as goal

pub profiles_within-requires-clause-counts : goal.profiles_within-requires-clause-counts
profiles_within-requires-clause-counts c =
    let e : map length (names_of c.args.strategies.now) ≡ c.as_slice.result.now = ap (λ (s : Strategies). map length (names_of s)) c.in-Counted.is ∙ lengths_counted c.in-Counted.counts.items ∙ sym c.as_slice.ensures.value in
    subst (λ (ns : List ℕ). AllByRecursion (λ n. 1 ≤ n) ns) e c.requires.strategies

pub returns-in-Counted : goal.returns-in-Counted
returns-in-Counted c =
    let e : map length (names_of c.args.strategies.now) ≡ c.as_slice.result.now = ap (λ (s : Strategies). map length (names_of s)) c.in-Counted.is ∙ lengths_counted c.in-Counted.counts.items ∙ sym c.as_slice.ensures.value in
    subst (λ (ns : List ℕ). MatchOption c.profiles_within.result (most_payoffs < c.args.players * profile_count ns) (λ n. (n ≡ profile_count ns) × (c.args.players * n ≤ most_payoffs))) (sym e) c.profiles_within.ensures
