-- Refusals of the tool `enummixed` come from the contents of its input, and the steps that they name do not fit.
use Rattle.std.proofs.Common.{ℕ, zero, suc, ◌∙◌, inl, inr, ap, refl, subst, sym, Bool, true, false, List, Err, map}
use Rattle.answers.specs.Answers.{refused_by, ◌>>=◌}
use Rattle.rational.specs.Rational.{ℚ}
use Rattle.game_theory.specs.Profiles.{Game as TableGame}
use Rattle.game_core.specs.Table.{GameTable, game_of}
use Rattle.game_core.specs.declared.game.Game.{Game}
use Rattle.linear_systems.specs.Vertices.{MarkedPoint}
use Rattle.lex_tableau.specs.Starts.{LinearSystem}
use Rattle.kept_strategies.specs.Kept.{kept_of}
use Rattle.kept_strategies.proofs.KeptSingleLemmas.{kept_not_memory}
use Rattle.kept_strategies.specs.declared.kept_stop.KeptStop.{KeptStop}
use Rattle.kept_strategies.specs.declared.kept_stop.KeptStop.TheVariants as kept_stop
use Rattle.enumpure.specs.Stops.{within_text_limit}
use Rattle.enumpure.specs.declared.listing.ListStop.{ListStop}
use Rattle.enumpure.specs.declared.listing.ListStop.TheVariants as list_stop
use Rattle.reply_polytope.specs.Shifts.{shift_in}
use Rattle.reply_polytope.specs.Stops.{polytopes_in}
use Rattle.reply_polytope.specs.declared.stop.PolyStop.{PolyStop}
use Rattle.basis_enum.specs.Enumeration.{vertices_in}
use Rattle.basis_enum.specs.Reached.{level_of, told_start}
use Rattle.basis_enum.specs.declared.stop.EnumerationStop.{EnumerationStop}
use Rattle.basis_enum.specs.Systems.{variable_count}
use Rattle.label_pairing.specs.Stops.{pairs_in}
use Rattle.label_pairing.proofs.StopLemmas.{pairs_not_memory}
use Rattle.label_pairing.specs.declared.pairing.PairStop.{PairStop}
use Rattle.label_pairing.specs.declared.pairing.PairStop.TheVariants as pair_stop
use Rattle.label_pairing.specs.declared.scaling.ScaleStop.{ScaleStop}
use Rattle.enummixed.specs.BothVertices.{both_vertices_in}
use Rattle.enummixed.specs.ExtremeText.{IsExtremeEquilibriaText, extreme_pairs, extreme_text, kept_text}
use Rattle.enummixed.specs.Told.{polytopes_stop, enumeration_stop, pairs_stop, scale_stop, text_stop}
use Rattle.enummixed.specs.Used.{all_labels, occurs, used_points, scaling_in}
use Rattle.refusals.specs.Told.{kept_refusal, mixed_refusal}
use Rattle.refusals.specs.declared.refusal.Refusal.{Refusal}
use Rattle.gambit_tools.specs.Enummixed.{enummixed, table_text}
use Rattle.two_player_tools.specs.StrategicForms.{strategic_table}
use Rattle.two_player_tools.specs.TwoPlayers.{two_players}
use Rattle.gambit_tools.proofs.FormContentLemmas.{AreContents, AreReasons, IsOfContents, inner-reasons, only-reasons, strategic_table-contents, then-contents, then-reasons, told-contents, two_players-contents}

-- ---- stages of the enumeration
shift-reasons : (g : TableGame) (i : ℕ) (stop : PolyStop) → shift_in g i (Err stop) → IsOfContents (mixed_refusal (polytopes_stop stop))
shift-reasons g i stop (inl h) = absurd h
shift-reasons g i stop (inr (_, _, inl h)) =
    subst (λ s. IsOfContents (mixed_refusal (polytopes_stop s))) (sym h.2) (h.1.first_unfit.does_not_fit)
shift-reasons g i stop (inr (_, _, inr (_, _, h))) = cc

polytopes-reasons : (g : TableGame) (stop : PolyStop) → polytopes_in g (Err stop) → IsOfContents (mixed_refusal (polytopes_stop stop))
polytopes-reasons g stop (inl h) = subst (λ s. IsOfContents (mixed_refusal (polytopes_stop s))) (sym h.1) refl
polytopes-reasons g stop (inr (_, _, inl h)) = subst (λ s. IsOfContents (mixed_refusal (polytopes_stop s))) (sym h.2) refl
polytopes-reasons g stop (inr (_, _, inr (_, _, inl h))) = shift-reasons g 0 stop h
polytopes-reasons g stop (inr (_, _, inr (_, _, inr (one, _, inl h)))) = shift-reasons g 1 stop h
polytopes-reasons g stop (inr (_, _, inr (_, _, inr (one, _, inr (two, _, h))))) = absurd h

-- the levels of the enumeration
level-reasons : (polytope : ℕ) (s : LinearSystem) (k : ℕ) (stop : EnumerationStop) → level_of s k (Err stop) → IsOfContents (mixed_refusal (enumeration_stop polytope stop))
level-reasons polytope s zero stop (inl (begin, inl h, e)) =
    subst (λ s. IsOfContents (mixed_refusal (enumeration_stop polytope s))) (sym (e ∙ ap told_start h.2)) (h.1.first_unfit.does_not_fit)
level-reasons polytope s zero stop (inl (begin, inr (_, _, h), e)) = absurd h
level-reasons polytope s zero stop (inr (_, _, h)) = cc
level-reasons polytope s (suc k) stop (inl h) = level-reasons polytope s k stop h
level-reasons polytope s (suc k) stop (inr (l, _, inl h)) = absurd h
level-reasons polytope s (suc k) stop (inr (l, _, inr (_, _, inl h))) =
    subst (λ s. IsOfContents (mixed_refusal (enumeration_stop polytope s))) (sym h.2) refl
level-reasons polytope s (suc k) stop (inr (l, _, inr (_, _, inr (_, _, inl h)))) =
    subst (λ s. IsOfContents (mixed_refusal (enumeration_stop polytope s))) (sym h.told) (h.first.first_unfit.does_not_fit)
level-reasons polytope s (suc k) stop (inr (l, _, inr (_, _, inr (_, _, inr (_, _, h))))) = absurd h

vertices-reasons : (polytope : ℕ) (s : LinearSystem) (stop : EnumerationStop) → vertices_in s (Err stop) → IsOfContents (mixed_refusal (enumeration_stop polytope stop))
vertices-reasons polytope s stop (inl (k, h)) = level-reasons polytope s k stop h
vertices-reasons polytope s stop (inr (_, _, h)) = absurd h

pairs-reasons : (all : List ℕ) (first second : List MarkedPoint) (stop : PairStop) → pairs_in all first second (Err stop) → IsOfContents (mixed_refusal (pairs_stop stop))
pairs-reasons all first second (pair_stop.TooLarge limit) h = refl
pairs-reasons all first second pair_stop.Memory h = absurd (pairs_not_memory all first second h)

scaling-reasons : (polytope : ℕ) (points : List (List ℚ)) (stop : ScaleStop) → scaling_in points (Err stop) → IsOfContents (mixed_refusal (scale_stop polytope stop))
scaling-reasons polytope points stop h =
    subst (λ s. IsOfContents (mixed_refusal (scale_stop polytope s))) (sym h.2) (h.1.first_unfit.does_not_fit)

text-reasons : (P : List ℕ → Type 0) (stop : ListStop) → within_text_limit P (Err stop) → IsOfContents (mixed_refusal (text_stop stop))
text-reasons P (list_stop.TooLarge limit) h = refl
text-reasons P list_stop.Memory (inl h) = absurd h
text-reasons P list_stop.Memory (inr h) = cc

both-reasons : (one two : LinearSystem) → AreReasons mixed_refusal (both_vertices_in one two)
both-reasons one two stop (inl h) = inner-reasons mixed_refusal (enumeration_stop 0) (vertices_in one) (vertices-reasons 0 one) stop h
both-reasons one two stop (inr (first, _, inl h)) = inner-reasons mixed_refusal (enumeration_stop 1) (vertices_in two) (vertices-reasons 1 two) stop h
both-reasons one two stop (inr (first, _, inr (second, _, h))) = only-reasons mixed_refusal _ stop h

pub pairs-contents : (g : TableGame) → AreReasons mixed_refusal (extreme_pairs g)
pairs-contents g stop (inl h) = inner-reasons mixed_refusal polytopes_stop (polytopes_in g) (polytopes-reasons g) stop h
pairs-contents g stop (inr (systems, _, inl h)) = both-reasons systems.0 systems.1 stop h
pairs-contents g stop (inr (systems, _, inr (both, _, inl h))) =
    let labels = all_labels (variable_count systems.0) in
    inner-reasons mixed_refusal pairs_stop (pairs_in labels both.0.list both.1.list) (pairs-reasons labels both.0.list both.1.list) stop h
pairs-contents g stop (inr (systems, _, inr (both, _, inr (pairs, _, inl h)))) =
    let points = used_points both.0.list (occurs (map (λ p. p.0) pairs)) in
    inner-reasons mixed_refusal (scale_stop 0) (scaling_in points) (scaling-reasons 0 points) stop h
pairs-contents g stop (inr (systems, _, inr (both, _, inr (pairs, _, inr (_, _, inl h))))) =
    let points = used_points both.1.list (occurs (map (λ p. p.1) pairs)) in
    inner-reasons mixed_refusal (scale_stop 1) (scaling_in points) (scaling-reasons 1 points) stop h
pairs-contents g stop (inr (systems, _, inr (both, _, inr (pairs, _, inr (_, _, inr (_, _, h)))))) = only-reasons mixed_refusal _ stop h

text-contents : (g kept : TableGame) → AreReasons mixed_refusal (kept_text g kept)
text-contents g kept =
    then-reasons mixed_refusal (extreme_pairs kept) (λ _. refused_by text_stop (within_text_limit (IsExtremeEquilibriaText g))) (pairs-contents kept)
    (λ _. inner-reasons mixed_refusal text_stop (within_text_limit (IsExtremeEquilibriaText g)) (text-reasons (IsExtremeEquilibriaText g)))

-- ---- the tool
kept-contents : (table : GameTable) (stop : KeptStop) → kept_of table (Err stop) → IsOfContents (kept_refusal stop)
kept-contents table (kept_stop.NotTwoPlayers count) h = refl
kept-contents table (kept_stop.TooLarge limit) h = refl
kept-contents table kept_stop.Memory h = absurd (kept_not_memory table h)

table_text-contents : (all : Bool) (table : GameTable) → AreContents (table_text all table)
table_text-contents true table = told-contents mixed_refusal (extreme_text (game_of table)) (text-contents (game_of table) (game_of table))
table_text-contents false table =
    then-contents (refused_by kept_refusal (kept_of table)) (λ kept. refused_by mixed_refusal (kept_text (game_of table) (game_of kept.table)))
    (told-contents kept_refusal (kept_of table) (kept-contents table))
    (λ kept. told-contents mixed_refusal (kept_text (game_of table) (game_of kept.table)) (text-contents (game_of table) (game_of kept.table)))

pub enummixed-contents : (all : Bool) (game : Game) (r : Refusal) → enummixed all game (Err r) → IsOfContents r
enummixed-contents all game =
    then-contents (two_players game) (λ _. strategic_table game >>= table_text all) (two_players-contents game)
    (λ _. then-contents (strategic_table game) (table_text all) (strategic_table-contents game) (table_text-contents all))
