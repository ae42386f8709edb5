-- From level to level
use Rattle.std.proofs.Common.{ℕ, suc, ◌<◌, ◌≤◌, ◌≡◌, ◌+◌, refl, sym, ap, ap₂, ◌∙◌, subst, subst₂, arith, inl, inr, List, [], ◌∷◌, ◌++◌, length, get_or, map, append_assoc, Ok, Err}
use Rattle.std.specs.List.{Contains}
use Rattle.std.specs.Prelude.{Option, option_to_list}
use Rattle.std.specs.List.Sorted.{IsStrictlyIncreasing}
use Rattle.std.proofs.lemmas.Grind.{same_number_lists}
use Rattle.std.proofs.lemmas.List.{append-nil, length-append, length-map, map-append}
use Rattle.std.proofs.lemmas.List.Elements.{Contains-append_left, Contains-append_right, Contains-append_cases, Contains-get_or}
use Rattle.std.proofs.Math.ListN.{get_or-map}
use Rattle.answers.specs.Answers.{Gives, such_that}
use Rattle.answers.proofs.AnswerLemmas.{gives_first}
use Rattle.lists.proofs.ElementLemmas.{unmapped}
use Rattle.linear_systems.specs.Vertices.{AreVertices}
use Rattle.lex_tableau.specs.Rows.{WholeTableau}
use Rattle.lex_tableau.specs.Starts.{LinearSystem, IsSystem, system_of}
use Rattle.lex_tableau.specs.StartStops.{start_in, IsStartTableau}
use Rattle.lex_tableau.specs.declared.tableau.StartStop.{StartStop}
use Rattle.lex_tableau.specs.declared.tableau.StartStop.TheVariants as starts
use Rattle.basis_enum.specs.Bases.{basis_of, AreVariables}
use Rattle.basis_enum.specs.Levels.{Levels, IsPivot, AreNextPivots, bases_of, basis_count, most_bases, no_tableau, parent_of}
use Rattle.basis_enum.specs.Systems.{IsEnumerable, variable_count}
use Rattle.basis_enum.specs.Reached.{bases_within, level_of, next_level, next_pivots, reached_in, told_start}
use Rattle.basis_enum.proofs.CompleteLevelLaws.{Held, held_start, held_child, held_digits, level_held, pivoted_nonbasics}
use Rattle.basis_enum.proofs.LevelLemmas.{level_few, level_many}
use Rattle.basis_enum.specs.declared.found_pivots.FoundPivot.{FoundPivot}
use Rattle.basis_enum.specs.declared.stop.EnumerationStop.{EnumerationStop}
use Rattle.basis_enum.specs.declared.stop.EnumerationStop.TheVariants as stops
use Rattle.basis_enum.specs.declared.vertex.Vertex.{Vertex}
use Rattle.basis_enum.specs.declared.walk.Walk.{Walk}
use Rattle.basis_enum.specs.Children.{ArePivots, AreChildren, IsPivoted, LeadToReady}
use Rattle.basis_enum.specs.Enumeration.{IsVertexListOf, vertices_in}
use Rattle.basis_enum.specs.Found.{AreFound, AreFoundIn, IsFoundIn, IsReady, AreReady, AreKnown}
use Rattle.basis_enum.specs.Marks.{AreSortedOnce, AreMarksOf, AreUpTo, IsVertexOf}
use Rattle.basis_enum.specs.Merged.{IsMerged}
use Rattle.basis_enum.specs.Next.{AreNewPivots, pivot_of, no_found_pivot, target_of}
use Rattle.basis_enum.specs.Vertices.{VertexList, mark_of, marks_of}
use Rattle.basis_enum.specs.Walks.{levels_of, IsWalkAt, IsWalkToEnd, HaveEntering, IsLevelStop, IsCountStop, IsEnumerationStop, AddsMoreVertices, AddsVertices}
use Rattle.basis_enum.proofs.LevelPivotLemmas.{basis_at, found_in_start, found_in_more, pivot_is, target_is_there, entering_is, next_are}
use Rattle.basis_enum.proofs.NextLevelLemmas.{next_level_is}
use Rattle.basis_enum.proofs.VertexMarkLemmas.{reached_numbered, nonbasics_numbered, no_marks, marks_more, are_vertices}

-- ---- the tableaux of a level
ready : (s : LinearSystem) (t : WholeTableau) → IsEnumerable s → Held s t → IsReady t
ready s t e h =
    let few : length s.basics + length s.nonbasics ≤ 128 = e.few in
    let rows : length t.basics ≡ length s.basics = h.reached.reached.rows in
    let width : length t.nonbasics ≡ length s.nonbasics = h.reached.reached.width in
    record {
      is_tableau = h.is_tableau;
      digits = held_digits s t e h;
      whole = record { rated = h.rated ∙ sym rows; rows = omega arith; columns = omega arith };
    }

pub walk_held : (s : LinearSystem) (k : ℕ) (w : Walk) → IsEnumerable s → IsWalkAt s k w → (i : ℕ) → i < length w.level.items → Held s (get_or w.level.items i no_tableau)
walk_held s k w e h i hi = level_held s k (levels_of h.before w.level.items) h.valid e h.is_level _ (Contains-append_right h.before w.level.items _ (Contains-get_or w.level.items i no_tableau hi))

pub walk_few : (s : LinearSystem) (k : ℕ) (w : Walk) → IsWalkAt s k w → length w.known.items ≤ most_bases
walk_few s k w h =
    let few : length (h.before ++ w.level.items) ≤ most_bases = level_few s k (levels_of h.before w.level.items) h.is_level in
    let count : length w.known.items ≡ length (h.before ++ w.level.items) = h.count in
    omega arith

pub walk_ready : (s : LinearSystem) (k : ℕ) (w : Walk) → IsEnumerable s → IsWalkAt s k w → AreReady w.level.items
walk_ready s k w e h i hi = ready s _ e (walk_held s k w e h i hi)

-- ---- the pivots to new bases
pub pivots_are : (level : List WholeTableau) (known : List ℕ) (next : List FoundPivot) → AreNewPivots level known next → ArePivots level next
pivots_are level known next n m c = pivot_is level known m (n.all.each m (n.firsts.each m c))

pub pivots_enter : (level : List WholeTableau) (known : List ℕ) (next : List FoundPivot) → AreNewPivots level known next → HaveEntering level next
pivots_enter level known next n m c = entering_is level known m (n.all.each m (n.firsts.each m c))

pub walk_pivots : (s : LinearSystem) (k : ℕ) (w : Walk) (next : List FoundPivot) → (h : IsWalkAt s k w) → AreNewPivots w.level.items w.known.items next → AreNextPivots (levels_of h.before w.level.items) (map pivot_of next)
walk_pivots s k w next h n = next_are (levels_of h.before w.level.items) w.known.items n.found next h.known n.small n.all n.firsts

pub targets_apart : (level : List WholeTableau) (known bases : List ℕ) (next : List FoundPivot) → AreNewPivots level known next → bases ≡ map target_of next → (b : ℕ) → Contains known b → ¬ (Contains bases b)
targets_apart level known bases next n e b k c =
    let z = unmapped target_of b next (subst (λ xs. Contains xs b) e c) in
    (n.all.each z.0 (n.firsts.each z.0 z.1)).from_there.found.new (subst (Contains known) (sym z.2) k)

-- they lead to tableaux whose pivots can be found
pub pivots_lead : (s : LinearSystem) (k : ℕ) (w : Walk) (next : List FoundPivot) → IsEnumerable s → IsWalkAt s k w → AreNewPivots w.level.items w.known.items next → LeadToReady s w.level.items next
pivots_lead s k w next e h n m c =
    record {
      ready = λ t q. ready s t e (held t q);
      numbered = λ t q. reached_numbered s t e (held t q).reached;
      target = λ t q. target_is_there w.level.items w.known.items m found ∙ ap basis_of (sym (pivoted_nonbasics (parent_of w.level.items (pivot_of m)) t m.row m.column is_pivot.column q.pivot));
    }
  where
    found : IsFoundIn w.level.items w.known.items m
    found = n.all.each m (n.firsts.each m c)

    is_pivot : IsPivot w.level.items (pivot_of m)
    is_pivot = pivot_is w.level.items w.known.items m found

    held : (t : WholeTableau) → IsPivoted w.level.items (pivot_of m) t → Held s t
    held t q = held_child s (parent_of w.level.items (pivot_of m)) t m.row m.column h.valid e (walk_held s k w e h m.parent is_pivot.parent) is_pivot.column is_pivot.row q.is_tableau q.pivot

pub children_ready : (s : LinearSystem) (level children : List WholeTableau) (next : List FoundPivot) → LeadToReady s level next → AreChildren level next (length next) children → AreReady children
children_ready s level children next lead c i hi =
    let size : length children ≡ length next = c.size in
    let within : i < length next = omega arith in
    (lead _ (Contains-get_or next i no_found_pivot within)).ready _ (c.each i within)

-- the children's bases are the pivots' targets
children_bases : (s : LinearSystem) (level children : List WholeTableau) (next : List FoundPivot) → LeadToReady s level next → AreChildren level next (length next) children → map target_of next ≡ bases_of children
children_bases s level children next lead c =
    same_number_lists (map target_of next) (bases_of children) (length-map next target_of ∙ sym c.size ∙ sym (length-map children (λ t. basis_of t.nonbasics))) each
  where
    each : (i : ℕ) → i < length (map target_of next) → get_or (map target_of next) i 0 ≡ get_or (bases_of children) i 0
    each i h =
        let hi : i < length next = subst (λ m. i < m) (length-map next target_of) h in
        let size : length children ≡ length next = c.size in
        get_or-map target_of next i no_found_pivot
        ∙ (lead _ (Contains-get_or next i no_found_pivot hi)).target _ (c.each i hi)
        ∙ sym (basis_at children (bases_of children) i refl (let w : i < length children = omega arith in w))

-- ---- the vertices of a level
pub vertices_start : (s : LinearSystem) (vertices : List Vertex) → AddsVertices s [] vertices vertices
vertices_start s vertices = λ ts m. subst (λ xs. AreMarksOf s xs (marks_of vertices)) (sym (append-nil ts)) m

vertices_more : (s : LinearSystem) (level : List WholeTableau) (t : WholeTableau) (first vertices : List Vertex)
    (vertex : Option Vertex) → AddsVertices s level first vertices → IsVertexOf s t vertex
    → AddsVertices s (level ++ t ∷ []) first (vertices ++ option_to_list vertex)
vertices_more s level t first vertices vertex before is = λ ts m.
    subst₂ (AreMarksOf s) (append_assoc ts level (t ∷ [])) (sym (map-append mark_of vertices (option_to_list vertex)))
    (marks_more s (ts ++ level) t (marks_of vertices) vertex (before ts m) is)

pub vertices_new : (s : LinearSystem) (level new : List WholeTableau) (t : WholeTableau)
    (first vertices all : List Vertex) (vertex : Option Vertex) → new ≡ level ++ t ∷ []
    → all ≡ vertices ++ option_to_list vertex → AddsVertices s level first vertices
    → IsVertexOf s t vertex → AddsVertices s new first all
vertices_new s level new t first vertices all vertex pushed added before is =
    subst₂ (λ l a. AddsVertices s l first a) (sym pushed) (sym added)
    (vertices_more s level t first vertices vertex before is)

pub adding_start : (s : LinearSystem) (level : List WholeTableau) (vertices : List Vertex) → AddsMoreVertices s level level vertices vertices
adding_start s level vertices = λ first before. before

-- one more tableau and its vertex
pub adding_more : (s : LinearSystem) (level some new : List WholeTableau) (t : WholeTableau) (old vertices all : List Vertex) (vertex : Option Vertex) → new ≡ some ++ t ∷ [] → all ≡ vertices ++ option_to_list vertex → AddsMoreVertices s level some old vertices → IsVertexOf s t vertex → AddsMoreVertices s level new old all
adding_more s level some new t old vertices all vertex pushed added before is = λ first start.
    vertices_new s some new t first vertices all vertex pushed added (before first start) is

-- ---- the next level
known_next : (before level children : List WholeTableau) (known all : List ℕ) → AreKnown (levels_of before level) known → IsMerged known (bases_of children) all → AreKnown (levels_of (before ++ level) children) all
known_next before level children known all k m =
    record {
      all = λ b c. elim (Contains-append_cases (bases_of (before ++ level)) (bases_of children) b (subst (λ xs. Contains xs b) (map-append (λ t. basis_of t.nonbasics) (before ++ level) children) c)) [
        | inl a ↦ m.first b (k.all b a)
        | inr a ↦ m.second b a
      ];
      only = λ b c. subst (λ xs. Contains xs b) (sym (map-append (λ t. basis_of t.nonbasics) (before ++ level) children)) (elim (m.only b c) [
        | inl a ↦ Contains-append_left (bases_of (before ++ level)) (bases_of children) b (k.only b a)
        | inr a ↦ Contains-append_right (bases_of (before ++ level)) (bases_of children) b a
      ]);
    }

walk_next_level : (s : LinearSystem) (k : ℕ) (w : Walk) (next : List FoundPivot) (children : List WholeTableau) → (h : IsWalkAt s k w) → AreNewPivots w.level.items w.known.items next → 0 < length next → length w.known.items + length next ≤ most_bases → AreChildren w.level.items next (length next) children → next_level k (levels_of h.before w.level.items) (Ok (levels_of (h.before ++ w.level.items) children))
walk_next_level s k w next children h n some few c =
    next_level_is k (levels_of h.before w.level.items) next children (walk_pivots s k w next h n) some
    (let sizes : length (map pivot_of next) ≡ length next = length-map next pivot_of in let counts : length w.known.items ≡ length (h.before ++ w.level.items) = h.count in omega arith) c

pub walk_next : (s : LinearSystem) (k : ℕ) (w new : Walk) (next : List FoundPivot) (bases : List ℕ) → IsEnumerable s → IsWalkAt s k w → AreNewPivots w.level.items w.known.items next → 0 < length next → length w.known.items + length next ≤ most_bases → AreChildren w.level.items next (length next) new.level.items → bases ≡ map target_of next → IsMerged w.known.items bases new.known.items → AddsVertices s new.level.items w.vertices.items new.vertices.items → IsWalkAt s (k + 1) new
walk_next s k w new next bases enumerable h n some few c e m adds =
    record {
      valid = h.valid;
      before = h.before ++ w.level.items;
      is_level = subst (λ j. level_of s j (Ok (levels_of (h.before ++ w.level.items) new.level.items))) (let q : suc k ≡ k + 1 = omega arith in q) (levels_of h.before w.level.items, h.is_level, walk_next_level s k w next new.level.items h n some few c);
      known = known_next h.before w.level.items new.level.items w.known.items new.known.items h.known merged;
      ascending = m.ascending;
      count = m.size ∙ ap₂ (λ x y. x + y) h.count (ap length told ∙ length-map new.level.items (λ t. basis_of t.nonbasics)) ∙ sym (length-append (h.before ++ w.level.items) new.level.items);
      marks = adds (h.before ++ w.level.items) h.marks;
    }
  where
    told : bases ≡ bases_of new.level.items
    told = e ∙ children_bases s w.level.items new.level.items next (pivots_lead s k w next enumerable h n) c

    merged : IsMerged w.known.items (bases_of new.level.items) new.known.items
    merged = subst (λ xs. IsMerged w.known.items xs new.known.items) told m

-- ---- the refusals
-- the start's
pub start_stop : (s : LinearSystem) (stop : StartStop) → Gives starts.Memory (start_in s) (Err stop) → IsEnumerationStop s (told_start stop)
start_stop s stop (inl memory) = inl (ap told_start memory)
start_stop s stop (inr h) = inr (0, inl (stop, h, refl))

module _ (s : LinearSystem) (k : ℕ) (w : Walk) (next : List FoundPivot) (stop : EnumerationStop) (h : IsWalkAt s k w) (n : AreNewPivots w.level.items w.known.items next) (some : 0 < length next) where
  abbrev l : Levels
  l = levels_of h.before w.level.items

  bases_are : length w.known.items + length next ≡ basis_count l (map pivot_of next)
  bases_are = ap₂ (λ x y. x + y) h.count (sym (length-map next pivot_of))

  next_are_some : next_pivots l (Ok (map pivot_of next))
  next_are_some = (walk_pivots s k w next h n, subst (λ n. 0 < n) (sym (length-map next pivot_of)) some)

  -- so many bases are too many
  pub count_stop : IsCountStop (length w.known.items + length next) stop → IsEnumerationStop s stop
  count_stop (inl memory) = inl memory
  count_stop (inr past) =
      inr (suc k, inr (l, h.is_level, inr (map pivot_of next, next_are_some, inl (subst (λ bases. bases_within bases (Err stop)) bases_are past))))

  -- a pivot does not fit
  pub level_stop : length w.known.items + length next ≤ most_bases → IsLevelStop w.level.items next k stop → IsEnumerationStop s stop
  level_stop few (inl memory) = inl memory
  level_stop few (inr unfit) =
      inr (suc k, inr (l, h.is_level, inr (map pivot_of next, next_are_some, inr (tt, λ over. omega (arith, over, few, bases_are), inl unfit))))

pub walk_early : (s : LinearSystem) (k : ℕ) (w : Walk) → IsWalkAt s k w → k < most_bases
walk_early s k w h =
    let few : length (h.before ++ w.level.items) ≤ most_bases = level_few s k (levels_of h.before w.level.items) h.is_level in
    let many : k < length (h.before ++ w.level.items) = level_many s k (levels_of h.before w.level.items) h.is_level in
    omega arith

-- ---- level 0
pub system_variables : (s : LinearSystem) → IsSystem s → IsEnumerable s → AreVariables s.nonbasics
system_variables s h e =
    let few : variable_count s ≤ 128 = e.few in
    record {
      above = λ v c. (bounds v c).0;
      most = λ v c. let b : v ≤ variable_count s = (bounds v c).1 in omega arith;
      once = λ i j a b q. h.distinct.nonbasic_once i j a b q;
    }
  where
    bounds : (v : ℕ) → Contains s.nonbasics v → (0 < v) × (v ≤ variable_count s)
    bounds v c = subst (λ w. (0 < w) × (w ≤ variable_count s)) c.2 (nonbasics_numbered s e c.0 v c.1)

first_nonbasics : (s : LinearSystem) (t : WholeTableau) → IsStartTableau s t → s.nonbasics ≡ t.nonbasics
first_nonbasics s t f = same_number_lists s.nonbasics t.nonbasics f.start.fractions.width (λ j h. f.start.fractions.nonbasic j h)

first_held : (s : LinearSystem) (t : WholeTableau) → IsSystem s → IsEnumerable s → IsStartTableau s t → Held s t
first_held s t h e f = held_start s t h e f.valid f.start

pub first_ready : (s : LinearSystem) (t : WholeTableau) → IsSystem s → IsEnumerable s → IsStartTableau s t → IsReady t
first_ready s t h e f = ready s t e (first_held s t h e f)

pub first_numbered : (s : LinearSystem) (t : WholeTableau) → IsSystem s → IsEnumerable s → IsStartTableau s t → AreUpTo (variable_count s) t.basics
first_numbered s t h e f = reached_numbered s t e (first_held s t h e f).reached

pub first_basis : (s : LinearSystem) (t : WholeTableau) → IsStartTableau s t → basis_of s.nonbasics ≡ basis_of t.nonbasics
first_basis s t f = ap basis_of (first_nonbasics s t f)

pub first_found : (t : WholeTableau) (known : List ℕ) (found : List FoundPivot) → AreFound t 0 known found → AreFoundIn (t ∷ []) known found
first_found t known found f = found_in_more [] known [] found t (found_in_start known) f

pub first_all_ready : (t : WholeTableau) → IsReady t → AreReady (t ∷ [])
first_all_ready t r i hi = let first : i ≡ 0 = omega arith in subst (λ i. IsReady (get_or (t ∷ []) i no_tableau)) (sym first) r

pub walk_start : (s : LinearSystem) (t : WholeTableau) (w : Walk) (vertex : Option Vertex) → IsSystem s
    → start_in s (Ok t) → w.level.items ≡ t ∷ [] → w.known.items ≡ basis_of s.nonbasics ∷ []
    → w.vertices.items ≡ option_to_list vertex → IsVertexOf s t vertex → IsWalkAt s 0 w
walk_start s t w vertex valid f level known vertices is =
    record {
      valid = valid;
      before = [];
      is_level = (t, f, ap (λ level. Ok (levels_of [] level)) level);
      known = record { all = λ b c. subst (λ xs. Contains xs b) (sym (known ∙ told)) c; only = λ b c. subst (λ xs. Contains xs b) (known ∙ told) c };
      ascending = subst IsStrictlyIncreasing (sym known) (λ k h. absurd (omega arith));
      count = ap length known ∙ sym (ap length level);
      marks = subst₂ (AreMarksOf s) (sym level) (sym (ap marks_of vertices)) (marks_more s [] t [] vertex (no_marks s) is);
    }
  where
    told : basis_of s.nonbasics ∷ [] ≡ bases_of w.level.items
    told = ap (λ b. b ∷ []) (first_basis s t f.2) ∙ sym (ap bases_of level)

-- ---- at the last level
pub walk_vertices : (s : LinearSystem) (w : Walk) (v : VertexList) → IsEnumerable s → IsWalkToEnd s w → v.bases ≡ length w.known.items → AreSortedOnce (marks_of w.vertices.items) v.list → vertices_in s (Ok v)
walk_vertices s w v e h bases order = (h.walk.before ++ w.level.items, reached, record { bases = bases ∙ h.walk.count; list = list })
  where
    reached : reached_in s (Ok (h.walk.before ++ w.level.items))
    reached = record { number = h.number; levels = levels_of h.walk.before w.level.items; is_level = h.walk.is_level; none = walk_pivots s h.number w [] h.walk h.none; all = refl }

    list : AreVertices (variable_count s) (system_of s) v.list
    list = are_vertices s (h.walk.before ++ w.level.items) (marks_of w.vertices.items) v.list h.walk.valid e reached h.walk.marks order

-- why not all are reached is why there are no vertices
pub reached_stop : (s : LinearSystem) (stop : EnumerationStop) → IsEnumerationStop s stop → Gives stops.Memory (vertices_in s) (Err stop)
reached_stop s stop h = gives_first {Z = VertexList} stops.Memory (reached_in s) (λ reached. such_that (IsVertexListOf s reached)) stop h
