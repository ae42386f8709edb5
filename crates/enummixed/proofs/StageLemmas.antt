-- The stages of a game's pairs, one after another
use Rattle.std.proofs.Common.{ℕ, ◌+◌, ◌<◌, ◌≡◌, ◌∙◌, List, All, Ok, Err, MatchResult, Result, length, map, get_or, ap, ap₂, sym, subst, subst₂}
use Rattle.std.specs.Prelude.{Contains}
use Rattle.std.specs.Result.{IsErrAnd}
use Rattle.std.proofs.lemmas.List.Elements.{Contains-get_or}
use Rattle.answers.specs.Answers.{Answer, Gives, only, ◌>>=◌, refused_by, map_ok}
use Rattle.answers.proofs.AnswerLemmas.{gives_bind_as, gives_refused}
use Rattle.game_theory.specs.Profiles.{Game}
use Rattle.linear_systems.specs.Vertices.{MarkedPoint}
use Rattle.lex_tableau.specs.Starts.{LinearSystem}
use Rattle.reply_polytope.specs.Stops.{polytopes_in}
use Rattle.reply_polytope.proofs.EnumerableLemmas.{first_enumerable, second_enumerable}
use Rattle.reply_polytope.proofs.PolytopeLemmas.{polytopes_of}
use Rattle.basis_enum.specs.Systems.{variable_count, IsEnumerable}
use Rattle.basis_enum.specs.Vertices.{VertexList, marks_of}
use Rattle.basis_enum.specs.declared.vertex.Vertex.{Vertex}
use Rattle.basis_enum.specs.Enumeration.{vertices_in}
use Rattle.label_pairing.specs.Pairs.{all_pairs}
use Rattle.label_pairing.specs.Stops.{pairs_in}
use Rattle.label_pairing.proofs.AllPairLemmas.{exactly_those}
use Rattle.label_pairing.specs.declared.pairing.PairStop.{PairStop}
use Rattle.label_pairing.specs.declared.pairing.PairStop.TheVariants as pair_stops
use Rattle.enummixed.specs.BothVertices.{both_vertices_in}
use Rattle.enummixed.specs.ExtremeText.{VertexPairs, extreme_pairs}
use Rattle.enummixed.specs.Told.{polytopes_stop, pairs_stop, scale_stop}
use Rattle.enummixed.specs.Used.{all_labels, occurs, used_points, scaling_in}
use Rattle.enummixed.specs.declared.stop.MixedStop.{MixedStop}
use Rattle.enummixed.specs.declared.stop.MixedStop.TheVariants as stops

-- what an enumeration asks of both systems
pub one-enumerable : (game : Game) (one two : LinearSystem) → polytopes_in game (Ok (one, two)) → IsEnumerable one
one-enumerable game one two p = let e = first_enumerable game one two (polytopes_of game one two p) in record { rated = e.0; few = e.1; numbered = e.2; right = e.3 }

pub two-enumerable : (game : Game) (one two : LinearSystem) → polytopes_in game (Ok (one, two)) → IsEnumerable two
two-enumerable game one two p = let e = second_enumerable game one two (polytopes_of game one two p) in record { rated = e.0; few = e.1; numbered = e.2; right = e.3 }

-- the places of pairs are those of the lists
pub first-places-in : (all : List ℕ) (first second : List MarkedPoint) (pairs : List (ℕ × ℕ)) → pairs ≡ all_pairs all first second → All (λ p. p.0 < length first) pairs
first-places-in all first second pairs is =
    λ k d l. ((exactly_those.passing all first second (get_or pairs k d).0 (get_or pairs k d).1).0 (subst (λ ps. Contains ps (get_or pairs k d)) is (Contains-get_or pairs k d l))).0

pub second-places-in : (all : List ℕ) (first second : List MarkedPoint) (pairs : List (ℕ × ℕ)) → pairs ≡ all_pairs all first second → All (λ p. p.1 < length second) pairs
second-places-in all first second pairs is =
    λ k d l. ((exactly_those.passing all first second (get_or pairs k d).0 (get_or pairs k d).1).0 (subst (λ ps. Contains ps (get_or pairs k d)) is (Contains-get_or pairs k d l))).1

-- the pairs of lists that are read, and of the labels of a system that is read
pub pairs-read : (one : LinearSystem) (basics nonbasics labels : List ℕ) (f g s t : List Vertex) (r : Result (List (ℕ × ℕ)) PairStop) → labels ≡ all_labels (length basics + length nonbasics) → basics ≡ one.basics → nonbasics ≡ one.nonbasics → f ≡ g → s ≡ t → Gives pair_stops.Memory (pairs_in labels (marks_of f) (marks_of s)) r → Gives pair_stops.Memory (pairs_in (all_labels (variable_count one)) (marks_of g) (marks_of t)) r
pairs-read one basics nonbasics labels f g s t r are b n first second h =
    subst (λ all. Gives pair_stops.Memory (pairs_in all (marks_of g) (marks_of t)) r) (are ∙ ap₂ (λ xs ys. all_labels (length xs + length ys)) b n) (subst₂ (λ vs ws. Gives pair_stops.Memory (pairs_in labels (marks_of vs) (marks_of ws)) r) first second h)

-- a refusal of the last stage
pub told-end : {S X Y : Type 0} (memory : S) (told : S → MixedStop) (p : Answer S Y) (stop : S) (answer : Result X MixedStop) (view : X → Y) → Gives memory p (Err stop) → IsErrAnd answer (λ q. q ≡ told stop) → Gives (told memory) (refused_by told p) (map_ok answer view)
told-end memory told p stop (Ok x) view g e = elim e [ ]
told-end memory told p stop (Err q) view g e =
    subst (λ r. Gives (told memory) (refused_by told p) (Err r)) (sym e) (gives_refused memory told p (Err stop) g)

-- an answer whose refusals are told
pub told-whole : {S X Y : Type 0} (memory : S) (told : S → MixedStop) (p : Answer S Y) (r : Result X S) (answer : Result X MixedStop) (view : X → Y) → Gives memory p (map_ok r view) → MatchResult r (λ x. answer ≡ Ok x) (λ e. IsErrAnd answer (λ q. q ≡ told e)) → Gives (told memory) (refused_by told p) (map_ok answer view)
told-whole memory told p (Ok x) answer view g e = subst (λ a. Gives (told memory) (refused_by told p) (map_ok a view)) (sym e) g
told-whole memory told p (Err stop) answer view g e = told-end memory told p stop answer view g e

-- ---- the stages that are left
abbrev pub value : VertexList → VertexList → List (ℕ × ℕ) → VertexPairs
value first second pairs = record { first = first; second = second; pairs = pairs }

abbrev pub scale-first : VertexList → List (ℕ × ℕ) → Answer MixedStop (Unit {0})
scale-first first pairs = refused_by (scale_stop 0) (scaling_in (used_points first.list (occurs (map (λ p. p.0) pairs))))

abbrev pub scale-second : VertexList → List (ℕ × ℕ) → Answer MixedStop (Unit {0})
scale-second second pairs = refused_by (scale_stop 1) (scaling_in (used_points second.list (occurs (map (λ p. p.1) pairs))))

abbrev pub after-first : VertexList → VertexList → List (ℕ × ℕ) → Answer MixedStop VertexPairs
after-first first second pairs = scale-second second pairs >>= λ _. only (value first second pairs)

abbrev pub after-pairs : VertexList → VertexList → List (ℕ × ℕ) → Answer MixedStop VertexPairs
after-pairs first second pairs = scale-first first pairs >>= λ _. after-first first second pairs

abbrev pub after-both : LinearSystem → VertexList × VertexList → Answer MixedStop VertexPairs
after-both one both = refused_by pairs_stop (pairs_in (all_labels (variable_count one)) both.0.list both.1.list) >>= after-pairs both.0 both.1

abbrev pub after-systems : LinearSystem × LinearSystem → Answer MixedStop VertexPairs
after-systems systems = both_vertices_in systems.0 systems.1 >>= after-both systems.0

-- ---- the vertices of both polytopes
both-values : (a b : VertexList × VertexList) → ◌≡◌ {A = Result (VertexList × VertexList) MixedStop} (Ok a) (Ok b) → a ≡ b
both-values a b e = cc

pub both-first : (one two : LinearSystem) (both : VertexList × VertexList) → both_vertices_in one two (Ok both) → vertices_in one (Ok both.0)
both-first one two both h = subst (λ v. vertices_in one (Ok v)) (sym (ap (λ b. b.0) (both-values both (h.0, h.2.0) h.2.2))) h.1

pub both-second : (one two : LinearSystem) (both : VertexList × VertexList) → both_vertices_in one two (Ok both) → vertices_in two (Ok both.1)
both-second one two both h = subst (λ v. vertices_in two (Ok v)) (sym (ap (λ b. b.1) (both-values both (h.0, h.2.0) h.2.2))) h.2.1

module _ {X : Type 0} (game : Game) (one two : LinearSystem) (p : polytopes_in game (Ok (one, two))) (r : Result X MixedStop) (view : X → VertexPairs) where
  pub up-systems : Gives stops.Memory (after-systems (one, two)) (map_ok r view) → Gives stops.Memory (extreme_pairs game) (map_ok r view)
  up-systems h = gives_bind_as stops.Memory (refused_by polytopes_stop (polytopes_in game)) after-systems (one, two) r view p h

  pub up-both : (both : VertexList × VertexList) → both_vertices_in one two (Ok both) → Gives stops.Memory (after-both one both) (map_ok r view) → Gives stops.Memory (extreme_pairs game) (map_ok r view)
  up-both both v h = up-systems (gives_bind_as stops.Memory (both_vertices_in one two) (after-both one) both r view v h)

  pub up-pairs : (both : VertexList × VertexList) (pairs : List (ℕ × ℕ)) → both_vertices_in one two (Ok both) → pairs_in (all_labels (variable_count one)) both.0.list both.1.list (Ok pairs) → Gives stops.Memory (after-pairs both.0 both.1 pairs) (map_ok r view) → Gives stops.Memory (extreme_pairs game) (map_ok r view)
  up-pairs both pairs v q h = up-both both v (gives_bind_as stops.Memory (refused_by pairs_stop (pairs_in (all_labels (variable_count one)) both.0.list both.1.list)) (after-pairs both.0 both.1) pairs r view q h)

  pub up-first : (both : VertexList × VertexList) (pairs : List (ℕ × ℕ)) → both_vertices_in one two (Ok both) → pairs_in (all_labels (variable_count one)) both.0.list both.1.list (Ok pairs) → scale-first both.0 pairs (Ok tt) → Gives stops.Memory (after-first both.0 both.1 pairs) (map_ok r view) → Gives stops.Memory (extreme_pairs game) (map_ok r view)
  up-first both pairs v q s h = up-pairs both pairs v q (gives_bind_as stops.Memory (scale-first both.0 pairs) (λ _. after-first both.0 both.1 pairs) tt r view s h)
