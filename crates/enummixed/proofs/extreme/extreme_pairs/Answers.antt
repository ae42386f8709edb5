use Rattle.std.proofs.Common.{◌<◌, ◌≡◌, All, Ok, Err, length, map, refl, sym, ap, ap₂, ◌∙◌, subst, subst₂, arith}
use Rattle.std.proofs.lemmas.List.{length-map}
use Rattle.std.proofs.lemmas.List.Elements.{All-map}
use Rattle.answers.specs.Answers.{Gives, only, refused_by}
use Rattle.answers.proofs.AnswerLemmas.{gives_exit, gives_told_exit}
use Rattle.game_core.specs.Table.{game_of}
use Rattle.frac128.specs.FirstUnfit.{StepsFit}
use Rattle.basis_enum.specs.Systems.{variable_count}
use Rattle.basis_enum.specs.Vertices.{mark_of, marks_of, vertex_list}
use Rattle.lex_tableau.specs.Starts.{system_of}
use Rattle.label_pairing.specs.Pairs.{mark_at}
use Rattle.label_pairing.specs.Scaling.{IsScalable, scale_steps}
use Rattle.label_pairing.specs.Stops.{pairs_in}
use Rattle.label_pairing.specs.declared.pairing.PairStop.TheVariants as pair_stops
use Rattle.label_pairing.proofs.StopLemmas.{pairs_are}
use Rattle.enummixed.specs.BothVertices.{both_lists_of, both_vertices_in}
use Rattle.enummixed.specs.Pairs.{pairs_of}
use Rattle.enummixed.specs.Told.{pairs_stop, scale_stop}
use Rattle.enummixed.specs.Used.{all_labels, occurs, used_points, scaled_used, scaling_in}
use Rattle.enummixed.specs.declared.stop.MixedStop.TheVariants as stops
use Rattle.enummixed.proofs.ExtremeLineLemmas.{scalable}
use Rattle.enummixed.proofs.StageLemmas.{one-enumerable, two-enumerable, both-first, both-second, first-places-in, second-places-in, after-both, after-pairs, after-first, scale-first, scale-second, pairs-read, value, up-systems, up-both, up-pairs, up-first}
use Rattle.enummixed.proofs.extreme.extreme_pairs.Goals as goal

pub both_vertices-requires-clause-one : goal.both_vertices-requires-clause-one
both_vertices-requires-clause-one g c = λ _ _. one-enumerable (game_of c.args.table.now) c.in_ok-one.one c.in_ok-one.two c.in_ok-one.ensures

pub both_vertices-requires-clause-two : goal.both_vertices-requires-clause-two
both_vertices-requires-clause-two g c = λ _ _. two-enumerable (game_of c.args.table.now) c.in_ok-one.one c.in_ok-one.two c.in_ok-one.ensures

pub returns-in_err-first-clause-answer : goal.returns-in_err-first-clause-answer
returns-in_err-first-clause-answer g c =
    let one = c.in_ok-one.one in
    let two = c.in_ok-one.two in
    let r = c.from_residual-in_err-first.result in
    up-systems (game_of c.args.table.now) one two c.in_ok-one.ensures r pairs_of
    (gives_exit stops.Memory (both_vertices_in one two) (after-both one) c.in_err-first.field-0.0 r pairs_of c.in_err-first.ensures.vertices c.from_residual-in_err-first.ensures.1)

pub pairs-requires-clause-few_first : goal.pairs-requires-clause-few_first
pairs-requires-clause-few_first g c = omega (arith, ap length c.deref.ensures.value, c.in_ok-first.ensures.few.0)

pub pairs-requires-clause-few_second : goal.pairs-requires-clause-few_second
pairs-requires-clause-few_second g c = omega (arith, ap length c.deref-2.ensures.value, c.in_ok-first.ensures.few.1)

pub returns-in_err-pairs-clause-answer : goal.returns-in_err-pairs-clause-answer
returns-in_err-pairs-clause-answer g c =
    let one = c.in_ok-one.one in
    let two = c.in_ok-one.two in
    let first = vertex_list c.in_ok-first.first in
    let second = vertex_list c.in_ok-first.second in
    let r = c.from_residual-in_err-pairs.result in
    let stop = c.in_err-pairs.field-0.0 in
    up-both (game_of c.args.table.now) one two c.in_ok-one.ensures r pairs_of (first, second) c.in_ok-first.ensures.vertices
    (gives_told_exit pair_stops.Memory pairs_stop (pairs_in (all_labels (variable_count one)) first.list second.list) (after-pairs first second) stop r pairs_of
    (pairs-read one _ _ _ _ _ _ _ (Err stop) c.all_labels-labels.ensures c.basics.ensures.value c.nonbasics.ensures.value c.deref.ensures.value c.deref-2.ensures.value c.in_err-pairs.ensures) c.from_residual-in_err-pairs.ensures.1)

pub scaled_at-requires-clause-within : goal.scaled_at-requires-clause-within
scaled_at-requires-clause-within g c =
    let one = c.in_ok-one.one in
    let first = vertex_list c.in_ok-first.first in
    let second = vertex_list c.in_ok-first.second in
    let pairs = c.in_ok-pairs.pairs.items in
    let all : pairs_in (all_labels (variable_count one)) first.list second.list (Ok pairs) = pairs-read one _ _ _ _ _ _ _ (Ok pairs) c.all_labels-labels.ensures c.basics.ensures.value c.nonbasics.ensures.value c.deref.ensures.value c.deref-2.ensures.value c.in_ok-pairs.ensures in
    let places : c.deref-5.result.now ≡ map (λ p. p.0) pairs = c.deref-5.ensures.value ∙ c.in_ok-first_places.ensures.0 ∙ ap (map (λ p. p.0)) c.deref-3.ensures.value in
    subst₂ (λ n ps. All (λ place. place < n) ps) (length-map c.in_ok-first.first.list.items mark_of ∙ ap length (sym c.deref-4.ensures.value)) (sym places)
    (All-map (λ place. place < length first.list) (λ p. p.0) pairs (first-places-in (all_labels (variable_count one)) first.list second.list pairs (pairs_are (all_labels (variable_count one)) first.list second.list pairs all)))

pub scaled_at-requires-clause-scalable : goal.scaled_at-requires-clause-scalable
scaled_at-requires-clause-scalable g c = λ i l.
    let e = c.deref-4.ensures.value in
    subst (λ vs. IsScalable (mark_at (marks_of vs) i).point) (sym e) (scalable (variable_count c.in_ok-one.one) (system_of c.in_ok-one.one) (marks_of c.in_ok-first.first.list.items) (both-first c.in_ok-one.one c.in_ok-one.two (both_lists_of (c.in_ok-first.first, c.in_ok-first.second)) c.in_ok-first.ensures.vertices).2.list i (omega (arith, l, ap length e, length-map c.in_ok-first.first.list.items mark_of)))

pub returns-in_err-firsts-clause-answer : goal.returns-in_err-firsts-clause-answer
returns-in_err-firsts-clause-answer g c =
    let one = c.in_ok-one.one in
    let two = c.in_ok-one.two in
    let first = vertex_list c.in_ok-first.first in
    let second = vertex_list c.in_ok-first.second in
    let pairs = c.in_ok-pairs.pairs.items in
    let all : pairs_in (all_labels (variable_count one)) first.list second.list (Ok pairs) = pairs-read one _ _ _ _ _ _ _ (Ok pairs) c.all_labels-labels.ensures c.basics.ensures.value c.nonbasics.ensures.value c.deref.ensures.value c.deref-2.ensures.value c.in_ok-pairs.ensures in
    let places : c.deref-5.result.now ≡ map (λ p. p.0) pairs = c.deref-5.ensures.value ∙ c.in_ok-first_places.ensures.0 ∙ ap (map (λ p. p.0)) c.deref-3.ensures.value in
    let r = c.from_residual-in_err-firsts.result in
    let stop = c.in_err-firsts.field-0.0 in
    up-pairs (game_of c.args.table.now) one two c.in_ok-one.ensures r pairs_of (first, second) pairs c.in_ok-first.ensures.vertices all
    (gives_exit stops.Memory (scale-first first pairs) (λ _. after-first first second pairs) stop r pairs_of (subst₂ (λ vs ps. Gives stops.Memory (refused_by (scale_stop 0) (scaling_in (used_points (marks_of vs) (occurs ps)))) (Err stop)) c.deref-4.ensures.value places c.in_err-firsts.ensures.fit) c.from_residual-in_err-firsts.ensures.1)

pub scaled_at-requires-2-clause-within : goal.scaled_at-requires-2-clause-within
scaled_at-requires-2-clause-within g c =
    let one = c.in_ok-one.one in
    let first = vertex_list c.in_ok-first.first in
    let second = vertex_list c.in_ok-first.second in
    let pairs = c.in_ok-pairs.pairs.items in
    let all : pairs_in (all_labels (variable_count one)) first.list second.list (Ok pairs) = pairs-read one _ _ _ _ _ _ _ (Ok pairs) c.all_labels-labels.ensures c.basics.ensures.value c.nonbasics.ensures.value c.deref.ensures.value c.deref-2.ensures.value c.in_ok-pairs.ensures in
    let places : c.deref-7.result.now ≡ map (λ p. p.1) pairs = c.deref-7.ensures.value ∙ c.in_ok-first_places.ensures.1 ∙ ap (map (λ p. p.1)) c.deref-3.ensures.value in
    subst₂ (λ n ps. All (λ place. place < n) ps) (length-map c.in_ok-first.second.list.items mark_of ∙ ap length (sym c.deref-6.ensures.value)) (sym places)
    (All-map (λ place. place < length second.list) (λ p. p.1) pairs (second-places-in (all_labels (variable_count one)) first.list second.list pairs (pairs_are (all_labels (variable_count one)) first.list second.list pairs all)))

pub scaled_at-requires-2-clause-scalable : goal.scaled_at-requires-2-clause-scalable
scaled_at-requires-2-clause-scalable g c = λ i l.
    let e = c.deref-6.ensures.value in
    subst (λ vs. IsScalable (mark_at (marks_of vs) i).point) (sym e) (scalable (variable_count c.in_ok-one.two) (system_of c.in_ok-one.two) (marks_of c.in_ok-first.second.list.items) (both-second c.in_ok-one.one c.in_ok-one.two (both_lists_of (c.in_ok-first.first, c.in_ok-first.second)) c.in_ok-first.ensures.vertices).2.list i (omega (arith, l, ap length e, length-map c.in_ok-first.second.list.items mark_of)))

pub returns-in_err-seconds-clause-answer : goal.returns-in_err-seconds-clause-answer
returns-in_err-seconds-clause-answer g c =
    let one = c.in_ok-one.one in
    let two = c.in_ok-one.two in
    let first = vertex_list c.in_ok-first.first in
    let second = vertex_list c.in_ok-first.second in
    let pairs = c.in_ok-pairs.pairs.items in
    let all : pairs_in (all_labels (variable_count one)) first.list second.list (Ok pairs) = pairs-read one _ _ _ _ _ _ _ (Ok pairs) c.all_labels-labels.ensures c.basics.ensures.value c.nonbasics.ensures.value c.deref.ensures.value c.deref-2.ensures.value c.in_ok-pairs.ensures in
    let places : c.deref-5.result.now ≡ map (λ p. p.0) pairs = c.deref-5.ensures.value ∙ c.in_ok-first_places.ensures.0 ∙ ap (map (λ p. p.0)) c.deref-3.ensures.value in
    let places' : c.deref-7.result.now ≡ map (λ p. p.1) pairs = c.deref-7.ensures.value ∙ c.in_ok-first_places.ensures.1 ∙ ap (map (λ p. p.1)) c.deref-3.ensures.value in
    let fit : All (StepsFit scale_steps) (used_points first.list (occurs (map (λ p. p.0) pairs))) = subst₂ (λ vs ps. All (StepsFit scale_steps) (used_points (marks_of vs) (occurs ps))) c.deref-4.ensures.value places c.in_ok-firsts.ensures.fit in
    let r = c.from_residual-in_err-seconds.result in
    let stop = c.in_err-seconds.field-0.0 in
    up-first (game_of c.args.table.now) one two c.in_ok-one.ensures r pairs_of (first, second) pairs c.in_ok-first.ensures.vertices all fit
    (gives_exit stops.Memory (scale-second second pairs) (λ _. only (value first second pairs)) stop r pairs_of (subst₂ (λ vs ps. Gives stops.Memory (refused_by (scale_stop 1) (scaling_in (used_points (marks_of vs) (occurs ps)))) (Err stop)) c.deref-6.ensures.value places' c.in_err-seconds.ensures.fit) c.from_residual-in_err-seconds.ensures.1)

pub returns-clause-answer : goal.returns-clause-answer
returns-clause-answer g c =
    let one = c.in_ok-one.one in
    let two = c.in_ok-one.two in
    let first = vertex_list c.in_ok-first.first in
    let second = vertex_list c.in_ok-first.second in
    let pairs = c.in_ok-pairs.pairs.items in
    let all : pairs_in (all_labels (variable_count one)) first.list second.list (Ok pairs) = pairs-read one _ _ _ _ _ _ _ (Ok pairs) c.all_labels-labels.ensures c.basics.ensures.value c.nonbasics.ensures.value c.deref.ensures.value c.deref-2.ensures.value c.in_ok-pairs.ensures in
    let places : c.deref-5.result.now ≡ map (λ p. p.0) pairs = c.deref-5.ensures.value ∙ c.in_ok-first_places.ensures.0 ∙ ap (map (λ p. p.0)) c.deref-3.ensures.value in
    let places' : c.deref-7.result.now ≡ map (λ p. p.1) pairs = c.deref-7.ensures.value ∙ c.in_ok-first_places.ensures.1 ∙ ap (map (λ p. p.1)) c.deref-3.ensures.value in
    let fit : All (StepsFit scale_steps) (used_points first.list (occurs (map (λ p. p.0) pairs))) = subst₂ (λ vs ps. All (StepsFit scale_steps) (used_points (marks_of vs) (occurs ps))) c.deref-4.ensures.value places c.in_ok-firsts.ensures.fit in
    let fit' : All (StepsFit scale_steps) (used_points second.list (occurs (map (λ p. p.1) pairs))) = subst₂ (λ vs ps. All (StepsFit scale_steps) (used_points (marks_of vs) (occurs ps))) c.deref-6.ensures.value places' c.in_ok-seconds.ensures.fit in
    ((one, two), c.in_ok-one.ensures, ((first, second), c.in_ok-first.ensures.vertices, (pairs, all, (tt, fit, (tt, fit', refl)))))

pub returns-clause-scaled : goal.returns-clause-scaled
returns-clause-scaled g c =
    let pairs = c.in_ok-pairs.pairs.items in
    let places : c.deref-5.result.now ≡ map (λ p. p.0) pairs = c.deref-5.ensures.value ∙ c.in_ok-first_places.ensures.0 ∙ ap (map (λ p. p.0)) c.deref-3.ensures.value in
    let places' : c.deref-7.result.now ≡ map (λ p. p.1) pairs = c.deref-7.ensures.value ∙ c.in_ok-first_places.ensures.1 ∙ ap (map (λ p. p.1)) c.deref-3.ensures.value in
    record {
      firsts = c.in_ok-firsts.ensures.scaled ∙ ap₂ (λ vs ps. scaled_used (marks_of vs) (occurs ps)) c.deref-4.ensures.value places;
      seconds = c.in_ok-seconds.ensures.scaled ∙ ap₂ (λ vs ps. scaled_used (marks_of vs) (occurs ps)) c.deref-6.ensures.value places';
    }
