-- What the stages of a game's pairs give together
use Rattle.std.proofs.Common.{ℕ, ◌≡◌, List, Ok, Err, Result, map, refl, sym, ap, ◌∙◌, subst}
use Rattle.std.specs.Prelude.{IsPermutation, IsSortedBy}
use Rattle.std.specs.Ordering.{is_lt}
use Rattle.rational.specs.Rational.{ℚ}
use Rattle.game_theory.specs.Profiles.{Game}
use Rattle.game_theory.specs.Lines.{lines_text}
use Rattle.enummixed.specs.ExtremeText.{VertexPairs, IsExtremeEquilibriaText, extreme_pairs}
use Rattle.enummixed.specs.BothVertices.{both_vertices_in}
use Rattle.enummixed.specs.Order.{line_of, pair_order}
use Rattle.enummixed.specs.Used.{occurs, scaled_used}
use Rattle.enummixed.specs.declared.stop.MixedStop.{MixedStop}
use Rattle.std.proofs.Common.{inl, inr}
use Rattle.answers.specs.Answers.{Gives, IsSingle}
use Rattle.answers.proofs.AnswerLemmas.{bind-single, refused_by-single, only-single}
use Rattle.extreme_equilibria.proofs.ExtremeListLemmas.{extreme_equilibria-determined}
use Rattle.frac128.proofs.FirstUnfitLemmas.{all_fit-single}
use Rattle.enumpure.specs.Stops.{within_text_limit}
use Rattle.enumpure.specs.declared.listing.ListStop.{ListStop}
use Rattle.enumpure.specs.declared.listing.ListStop.TheVariants as list_stops
use Rattle.enumpure.proofs.OneTextLaws.{within_text_limit-single}
use Rattle.reply_polytope.proofs.PolytopeLemmas.{polytopes_of}
use Rattle.reply_polytope.proofs.SingleLemmas.{polytopes_single}
use Rattle.lex_tableau.specs.Starts.{LinearSystem}
use Rattle.basis_enum.specs.Systems.{variable_count}
use Rattle.label_pairing.specs.Scaling.{scale_steps}
use Rattle.label_pairing.proofs.AllPairLemmas.{pairs_single}
use Rattle.label_pairing.proofs.StopLemmas.{pairs_are}
use Rattle.enummixed.specs.Laws.{ExtremePairsAreSingle, ExtremeTextsAreSingle, PairsAreAsManyAsExtremeEquilibria}
use Rattle.enummixed.specs.Told.{polytopes_stop, enumeration_stop, pairs_stop, scale_stop, text_stop}
use Rattle.enummixed.specs.Used.{all_labels, used_points, scaling_in}
use Rattle.std.proofs.Common.{◌≤◌, ◌++◌, length, take, drop, arith}
use Rattle.std.proofs.lemmas.List.{length-map, take-append-le, take_all}
use Rattle.std.proofs.lemmas.List.Sorted.{length_permutation}
use Rattle.basis_enum.proofs.OneAnswerLaws.{one_answer}
use Rattle.enummixed.proofs.ExtremeLineLemmas.{extreme-lines}
use Rattle.enummixed.proofs.LineOrderLemmas.{pairs-ordered}
use Rattle.enummixed.proofs.SortedListLemmas.{sorted}
use Rattle.enummixed.proofs.StageLemmas.{both-first, both-second}

-- what is written over all of a list
pub written-over : {X : Type 0} (new old : List X) (n : ℕ) → length new ≡ length old → n ≡ length old → take n (new ++ drop (length new) old) ≡ new
written-over new old n e f =
    let l : n ≤ length new = omega arith in
    let k : length new ≤ n = omega arith in
    take-append-le n new (drop (length new) old) l ∙ take_all n new k

-- the parts of a value
pub parts_same : (e f : VertexPairs) → ◌≡◌ {A = Result VertexPairs MixedStop} (Ok e) (Ok f) → e ≡ f
parts_same e f h = cc

-- the text of the sorted pairs
pub sorted-text : (game : Game) (e : VertexPairs) → extreme_pairs game (Ok e) → (firsts seconds : List (List ℚ)) (sorted : List (ℕ × ℕ)) → firsts ≡ scaled_used e.first.list (occurs (map (λ p. p.0) e.pairs)) → seconds ≡ scaled_used e.second.list (occurs (map (λ p. p.1) e.pairs)) → IsPermutation e.pairs sorted → IsSortedBy (λ p q. is_lt (pair_order firsts seconds p q)) sorted → IsExtremeEquilibriaText game (lines_text (map (line_of firsts seconds) sorted))
sorted-text game e h firsts seconds sorted =
    subst (λ e. firsts ≡ scaled_used e.first.list (occurs (map (λ p. p.0) e.pairs)) → seconds ≡ scaled_used e.second.list (occurs (map (λ p. p.1) e.pairs)) → IsPermutation e.pairs sorted → IsSortedBy (λ p q. is_lt (pair_order firsts seconds p q)) sorted → IsExtremeEquilibriaText game (lines_text (map (line_of firsts seconds) sorted)))
    (sym (parts_same _ _ h.2.2.2.2.2))
    (λ f s permuted ordered. record {
      lines = map (line_of firsts seconds) sorted;
      are_lines = extreme-lines game h.0.0 h.0.1 (polytopes_of game h.0.0 h.0.1 h.1) h.2.0.0.list h.2.0.1.list (both-first h.0.0 h.0.1 h.2.0 h.2.1).2.list (both-second h.0.0 h.0.1 h.2.0 h.2.1).2.list firsts seconds h.2.2.0 sorted (pairs_are (all_labels (variable_count h.0.0)) h.2.0.0.list h.2.0.1.list h.2.2.0 h.2.2.1) f s permuted ordered;
      is_text = refl;
    })

-- the lines of the sorted pairs are as many as the pairs
pub pairs-counted : PairsAreAsManyAsExtremeEquilibria
pairs-counted game found h =
    let pairs : List (ℕ × ℕ) = h.2.2.0 in
    let firsts : List (List ℚ) = scaled_used h.2.0.0.list (occurs (map (λ p. p.0) pairs)) in
    let seconds : List (List ℚ) = scaled_used h.2.0.1.list (occurs (map (λ p. p.1) pairs)) in
    let s = sorted (λ p q. is_lt (pair_order firsts seconds p q)) (pairs-ordered firsts seconds) pairs in
    (map (line_of firsts seconds) s.0, extreme-lines game h.0.0 h.0.1 (polytopes_of game h.0.0 h.0.1 h.1) h.2.0.0.list h.2.0.1.list (both-first h.0.0 h.0.1 h.2.0 h.2.1).2.list (both-second h.0.0 h.0.1 h.2.0 h.2.1).2.list firsts seconds pairs s.0 (pairs_are (all_labels (variable_count h.0.0)) h.2.0.0.list h.2.0.1.list h.2.2.0 h.2.2.1) refl refl s.1 s.2, length-map s.0 (line_of firsts seconds) ∙ length_permutation pairs s.0 s.1 ∙ ap (λ e. length e.pairs) (sym (parts_same _ _ h.2.2.2.2.2)))

-- a text of which more is said
pub within-weaker : (P Q : List ℕ → Type 0) → ((text : List ℕ) → P text → Q text) → (r : Result (List ℕ) ListStop) → Gives list_stops.Memory (within_text_limit P) r → Gives list_stops.Memory (within_text_limit Q) r
within-weaker P Q more (Ok text) h = (h.0, more h.0 h.1, h.2)
within-weaker P Q more (Err stop) (inl m) = inl m
within-weaker P Q more (Err stop) (inr (inl h)) = absurd h
within-weaker P Q more (Err stop) (inr (inr h)) = inr (inr (h.0, more h.0 h.1, h.2))

-- the stages of a text are single
text-same : (game : Game) (one other : List ℕ) → IsExtremeEquilibriaText game one → IsExtremeEquilibriaText game other → one ≡ other
text-same game one other h k = h.is_text ∙ ap lines_text (extreme_equilibria-determined game h.lines k.lines h.are_lines k.are_lines) ∙ sym k.is_text

scaling-single : (points : List (List ℚ)) → IsSingle (scaling_in points)
scaling-single points = refused_by-single _ _ (all_fit-single scale_steps points)

both-single : (one two : LinearSystem) → IsSingle (both_vertices_in one two)
both-single one two =
    bind-single _ _ (refused_by-single (enumeration_stop 0) _ (one_answer one)) (λ first _.
    bind-single _ _ (refused_by-single (enumeration_stop 1) _ (one_answer two)) (λ second _. only-single (first, second)))

pub pairs-single : ExtremePairsAreSingle
pairs-single game =
    bind-single _ _ (refused_by-single polytopes_stop _ (polytopes_single game)) (λ systems _.
    bind-single _ _ (both-single systems.0 systems.1) (λ both _.
    bind-single _ _ (refused_by-single pairs_stop _ (pairs_single (all_labels (variable_count systems.0)) both.0.list both.1.list)) (λ pairs _.
    bind-single _ _ (refused_by-single (scale_stop 0) _ (scaling-single (used_points both.0.list (occurs (map (λ p. p.0) pairs))))) (λ _ _.
    bind-single _ _ (refused_by-single (scale_stop 1) _ (scaling-single (used_points both.1.list (occurs (map (λ p. p.1) pairs))))) (λ _ _.
    only-single (let e : VertexPairs = record { first = both.0; second = both.1; pairs = pairs } in e))))))

pub texts-single : ExtremeTextsAreSingle
texts-single game kept =
    bind-single _ _ (pairs-single kept) (λ _ _. refused_by-single text_stop _ (within_text_limit-single (IsExtremeEquilibriaText game) (text-same game)))
