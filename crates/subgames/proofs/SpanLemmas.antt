-- Spans of nodes, which are joined from the last node to the first, each into its parent's.
use Rattle.std.proofs.Common.{ℕ, zero, suc, ◌+◌, ◌-◌, ◌<◌, ◌≤◌, ◌≡◌, ◌≢◌, ◌⊎◌, inl, inr, max, min, Some, List, [], ◌∷◌, ◌++◌, length, get_or, slice_get, set, refl, sym, ap, ◌∙◌, subst, arith}
use Rattle.std.specs.Prelude.{◌↔◌}
use Rattle.std.proofs.lemmas.Bool.{cases_eq}
use Rattle.std.proofs.lemmas.List.{get_or-set_same, get_or-set_other, length-set, length_push}
use Rattle.std.proofs.lemmas.Option.{slice_get-get_or, slice_get_within, get_or_from_slice_get, same_Some}
use Rattle.lists.proofs.ElementLemmas.{slice_get-push_cases}
use Rattle.game_theory.specs.OwnSets.{Chooses, numbers_with}
use Rattle.game_theory.specs.Trees.{Tree, IsTree, IsAbove, IsWithin}
use Rattle.game_theory.proofs.IndexLemmas.{numbers_with-at, numbers_with-tell, numbers_with-ascend}
use Rattle.game_theory.proofs.SubtreeLemmas.{above_parent}
use Rattle.game_core.specs.Tree.{GameTree, IsGameTree}
use Rattle.game_core.specs.TreeGame.{game_of_tree}
use Rattle.subgames.specs.Roots.{HasWholeSets}
use Rattle.subgames.specs.Spans.{AreOwnSpans, AreSpans, AreTogether, IsOwnSpan, IsTogetherWithSubtree, IsSpan}
use Rattle.subgames.specs.declared.roots.Span.{Span}
use Rattle.game_theory.proofs.SubtreeOrderLemmas.{within-after}
use Rattle.game_core.proofs.ParentPathLemmas.{within-between}

-- ---- the span of a node alone
-- a node of a player's set
module _ (t : Tree) (c i s x y : ℕ) (members : List ℕ) (at_c : Chooses t c i s) (are : members ≡ numbers_with t.set s t.size) (first : slice_get members 0 ≡ Some x) (end : slice_get members (length members - 1) ≡ Some y) where
  -- a member is together with the node
  member-together : (j d : ℕ) → slice_get members j ≡ Some d → AreTogether t c d
  member-together j d at =
      let told = numbers_with-tell t.set s t.size j d (ap (λ xs. slice_get xs j) (sym are) ∙ at) in
      (told.0, inr (i, s, at_c, record { at_set = told.1; own = at_c.own }))

  -- a node together with it is a member
  together-member : (d : ℕ) → AreTogether t c d → (j : ℕ) × (slice_get members j ≡ Some d)
  together-member d h =
      let is : t.set d ≡ Some s = elim h.1 [
        | inl same ↦ ap t.set (sym same) ∙ at_c.at_set
        | inr both ↦ both.3.at_set ∙ sym both.2.at_set ∙ at_c.at_set
      ] in
      (length (numbers_with t.set s d), ap (λ xs. slice_get xs (length (numbers_with t.set s d))) are ∙ numbers_with-at t.set s d t.size h.0 is)

  -- of two members the one at the later place is greater
  members-ascend : (j k a b : ℕ) → j ≤ k → slice_get members j ≡ Some a → slice_get members k ≡ Some b → a ≤ b
  members-ascend j k a b before at_a at_b = elim (cases_eq j k) [
    | inl same ↦ omega (arith, same_Some a b (sym at_a ∙ ap (slice_get members) same ∙ at_b))
    | inr other ↦ omega (arith, numbers_with-ascend t.set s t.size j k a b (omega (arith, before, other)) (ap (λ xs. slice_get xs j) (sym are) ∙ at_a) (ap (λ xs. slice_get xs k) (sym are) ∙ at_b))
  ]

  pub own_span-of_player : IsOwnSpan t c (record { least = x; greatest = y; last = c })
  own_span-of_player = record {
    least = (member-together 0 x first, λ d h. let m = together-member d h in members-ascend 0 m.0 x d (omega arith) first m.1);
    greatest = (member-together (length members - 1) y end, λ d h. let m = together-member d h in members-ascend m.0 (length members - 1) d y (omega (arith, slice_get_within members m.0 d m.1)) m.1 end);
    last = refl;
  }

-- one more node
pub AreOwnSpans-push : (t : Tree) (n : ℕ) (spans : List Span) (span : Span) → IsOwnSpan t n span → AreOwnSpans t n spans → AreOwnSpans t (n + 1) (spans ++ span ∷ [])
AreOwnSpans-push t n spans span own h = record {
  one_for_each = length_push spans span ∙ ap (λ m. m + 1) h.one_for_each;
  are = λ c found at. elim (slice_get-push_cases spans span c found at) [
    | inl early ↦ h.are c found early
    | inr last ↦ subst (λ c. IsOwnSpan t c found) (sym (last.0 ∙ h.one_for_each)) (subst (IsOwnSpan t n) (sym last.1) own)
  ];
}

-- ---- numbers that are gathered into parents
-- Each number is that of a node in the subtree, and no less far than the node's own. From node n on numbers are passed to parents.
pub record AreGathered (t : Tree) (R : ℕ → ℕ → Type 0) (old now : ℕ → ℕ) (n : ℕ) : Type 0 where
  pub attained : (k : ℕ) → k < t.size → (c : ℕ) × (c < t.size) × IsWithin t k c × (now k ≡ old c)
  pub own : (k : ℕ) → k < t.size → R (old k) (now k)
  pub passed : (c : ℕ) → n ≤ c → 0 < c → c < t.size → R (now c) (now (t.parent c))

module _ (t : Tree) (w : IsTree t) (R : ℕ → ℕ → Type 0) (same : (a : ℕ) → R a a) (trans : (a b c : ℕ) → R a b → R b c → R a c) where
  -- before the first node
  pub gathered-start : (old : ℕ → ℕ) → AreGathered t R old old t.size
  gathered-start old = record {
    attained = λ k below. (k, below, (0, refl), refl);
    own = λ k below. same (old k);
    passed = λ c late later below. absurd (omega (arith, late, below));
  }

  -- one more node
  module _ (old now next : ℕ → ℕ) (n : ℕ) (later : 0 < n) (below : n < t.size) (rest : (k : ℕ) → k ≢ t.parent n → next k ≡ now k) (keeps : R (now (t.parent n)) (next (t.parent n))) (takes : R (now n) (next (t.parent n))) (one : (next (t.parent n) ≡ now (t.parent n)) ⊎ (next (t.parent n) ≡ now n)) (h : AreGathered t R old now (n + 1)) where
    grown : (k : ℕ) → R (now k) (next k)
    grown k = elim (cases_eq k (t.parent n)) [
      | inl is ↦ subst (λ k. R (now k) (next k)) (sym is) keeps
      | inr other ↦ subst (R (now k)) (sym (rest k other)) (same (now k))
    ]

    attained_next : (k : ℕ) → k < t.size → (c : ℕ) × (c < t.size) × IsWithin t k c × (next k ≡ old c)
    attained_next k inside = elim (cases_eq k (t.parent n)) [
      | inl is ↦ elim one [
        | inl kept ↦ let a = h.attained k inside in (a.0, a.1, a.2, ap next is ∙ kept ∙ ap now (sym is) ∙ a.3)
        | inr taken ↦ let a = h.attained n below in (a.0, a.1, (suc a.2.0, above_parent t a.2.0 k n a.0 later (sym is) a.2.1), ap next is ∙ taken ∙ a.3)
      ]
      | inr other ↦ let a = h.attained k inside in (a.0, a.1, a.2, rest k other ∙ a.3)
    ]

    passed_next : (c : ℕ) → n ≤ c → 0 < c → c < t.size → R (next c) (next (t.parent c))
    passed_next c late pos inside =
        let before = w.after_parent n later below in
        let stays : next c ≡ now c = rest c (λ e. absurd (omega (arith, e, before, late))) in
        subst (λ a. R a (next (t.parent c))) (sym stays) (elim (cases_eq c n) [
          | inl is ↦ subst (λ c. R (now c) (next (t.parent c))) (sym is) takes
          | inr other ↦ trans (now c) (now (t.parent c)) (next (t.parent c)) (h.passed c (omega (arith, late, other)) pos inside) (grown (t.parent c))
        ])

    pub gathered-step : AreGathered t R old next n
    gathered-step = record {
      attained = attained_next;
      own = λ k inside. trans (old k) (now k) (next k) (h.own k inside) (grown k);
      passed = passed_next;
    }

  -- after the last node, where each node's own number is the farthest of some
  module _ (old now : ℕ → ℕ) (n : ℕ) (few : n ≤ 1) (h : AreGathered t R old now n) (among : ℕ → ℕ → Type 0) (farthest : (c : ℕ) → c < t.size → among c (old c) × ((d : ℕ) → among c d → R d (old c))) where
    below-root : (m k c : ℕ) → c < t.size → IsAbove t m k c → R (now c) (now k)
    below-root zero k c inside is = subst (λ k. R (now c) (now k)) (sym is) (same (now c))
    below-root (suc m) k c inside above =
        let before = w.after_parent c above.0 inside in
        trans (now c) (now (t.parent c)) (now k) (h.passed c (omega (arith, few, above.0)) above.0 inside) (below-root m k (t.parent c) (omega (arith, before, inside)) above.1)

    pub gathered-end : (k : ℕ) → k < t.size → ((c : ℕ) × (c < t.size) × IsWithin t k c × among c (now k)) × ((d : ℕ) → (c : ℕ) × (c < t.size) × IsWithin t k c × among c d → R d (now k))
    gathered-end k inside = (
      (let a = h.attained k inside in (a.0, a.1, a.2, subst (among a.0) (sym a.3) (farthest a.0 a.1).0)),
      λ d r. trans d (old r.0) (now k) ((farthest r.0 r.1).1 d r.3) (trans (old r.0) (now r.0) (now k) (h.own r.0 r.1) (below-root r.2.0 k r.0 r.1 r.2.1)),
    )

-- ---- spans that are joined into those of parents
-- the span at a place, and a span of nothing past the end
abbrev pub span_at : List Span → ℕ → Span
span_at spans k = get_or spans k (record { least = 0; greatest = 0; last = 0 })

-- from node n on spans are joined into those of parents
pub record AreJoined (t : Tree) (n : ℕ) (old now : List Span) : Type 0 where
  pub one_for_each : length now ≡ t.size
  pub least : AreGathered t (λ a b. b ≤ a) (λ k. (span_at old k).least) (λ k. (span_at now k).least) n
  pub greatest : AreGathered t (λ a b. a ≤ b) (λ k. (span_at old k).greatest) (λ k. (span_at now k).greatest) n
  pub last : AreGathered t (λ a b. a ≤ b) (λ k. (span_at old k).last) (λ k. (span_at now k).last) n

module _ (t : Tree) (w : IsTree t) where
  falls : (a b c : ℕ) → b ≤ a → c ≤ b → c ≤ a
  falls a b c one two = omega (arith, one, two)

  rises : (a b c : ℕ) → a ≤ b → b ≤ c → a ≤ c
  rises a b c one two = omega (arith, one, two)

  -- before the first node
  pub AreJoined-start : (spans : List Span) → length spans ≡ t.size → AreJoined t t.size spans spans
  AreJoined-start spans many = record {
    one_for_each = many;
    least = gathered-start t w (λ a b. b ≤ a) (λ a. omega arith) falls _;
    greatest = gathered-start t w (λ a b. a ≤ b) (λ a. omega arith) rises _;
    last = gathered-start t w (λ a b. a ≤ b) (λ a. omega arith) rises _;
  }

  -- one more node
  module _ (old now : List Span) (n : ℕ) (span : Span) (later : 0 < n) (below : n < t.size) (h : AreJoined t (n + 1) old now) (least : span.least ≡ min (span_at now (t.parent n)).least (span_at now n).least) (greatest : span.greatest ≡ max (span_at now (t.parent n)).greatest (span_at now n).greatest) (last : span.last ≡ max (span_at now (t.parent n)).last (span_at now n).last) where
    here : span_at (set now (t.parent n) span) (t.parent n) ≡ span
    here = let before = w.after_parent n later below in get_or-set_same now (t.parent n) span _ (omega (arith, before, below, h.one_for_each))

    elsewhere : (k : ℕ) → k ≢ t.parent n → span_at (set now (t.parent n) span) k ≡ span_at now k
    elsewhere k other = get_or-set_other now (t.parent n) k span _ other

    pub AreJoined-step : AreJoined t n old (set now (t.parent n) span)
    AreJoined-step =
        let p = t.parent n in
        let is_least = ap (λ s. s.least) here ∙ least in
        let is_greatest = ap (λ s. s.greatest) here ∙ greatest in
        let is_last = ap (λ s. s.last) here ∙ last in
        record {
          one_for_each = length-set now p span ∙ h.one_for_each;
          least = gathered-step t w (λ a b. b ≤ a) (λ a. omega arith) falls _ (λ k. (span_at now k).least) (λ k. (span_at (set now p span) k).least) n later below (λ k other. ap (λ s. s.least) (elsewhere k other)) (omega (arith, is_least)) (omega (arith, is_least)) (lesser _ _ _ is_least) h.least;
          greatest = gathered-step t w (λ a b. a ≤ b) (λ a. omega arith) rises _ (λ k. (span_at now k).greatest) (λ k. (span_at (set now p span) k).greatest) n later below (λ k other. ap (λ s. s.greatest) (elsewhere k other)) (omega (arith, is_greatest)) (omega (arith, is_greatest)) (greater _ _ _ is_greatest) h.greatest;
          last = gathered-step t w (λ a b. a ≤ b) (λ a. omega arith) rises _ (λ k. (span_at now k).last) (λ k. (span_at (set now p span) k).last) n later below (λ k other. ap (λ s. s.last) (elsewhere k other)) (omega (arith, is_last)) (omega (arith, is_last)) (greater _ _ _ is_last) h.last;
        }
      where
        lesser : (a b c : ℕ) → a ≡ min b c → (a ≡ b) ⊎ (a ≡ c)
        lesser a b c is = elim (cases_eq a b) [ inl e ↦ inl e | inr e ↦ inr (omega (arith, is, e)) ]

        greater : (a b c : ℕ) → a ≡ max b c → (a ≡ b) ⊎ (a ≡ c)
        greater a b c is = elim (cases_eq a b) [ inl e ↦ inl e | inr e ↦ inr (omega (arith, is, e)) ]

  -- after the last node
  pub AreJoined-end : (n : ℕ) (old now : List Span) → n ≤ 1 → AreOwnSpans t t.size old → AreJoined t n old now → AreSpans t now
  AreJoined-end n old now few own h = record {
    one_for_each = h.one_for_each;
    are = λ k span at. subst (IsSpan t k) (get_or_from_slice_get now k span _ at) (of k (omega (arith, slice_get_within now k span at, h.one_for_each)));
  }
    where
      alone : (c : ℕ) → c < t.size → IsOwnSpan t c (span_at old c)
      alone c below = own.are c (span_at old c) (slice_get-get_or old c _ (omega (arith, below, own.one_for_each)))

      of : (k : ℕ) → k < t.size → IsSpan t k (span_at now k)
      of k below =
          let end = gathered-end t w (λ a b. a ≤ b) (λ a. omega arith) rises (λ c. (span_at old c).last) (λ c. (span_at now c).last) n few h.last (λ c d. c ≡ d) (λ c inside. (sym (alone c inside).last, λ d e. omega (arith, e, (alone c inside).last))) k below in
          record {
            least = gathered-end t w (λ a b. b ≤ a) (λ a. omega arith) falls (λ c. (span_at old c).least) (λ c. (span_at now c).least) n few h.least (AreTogether t) (λ c inside. (alone c inside).least) k below;
            greatest = gathered-end t w (λ a b. a ≤ b) (λ a. omega arith) rises (λ c. (span_at old c).greatest) (λ c. (span_at now c).greatest) n few h.greatest (AreTogether t) (λ c inside. (alone c inside).greatest) k below;
            last = (subst (λ c. (c < t.size) × IsWithin t k c) end.0.3 (end.0.1, end.0.2), λ d inside. end.1 d (d, inside.0, inside.1, refl));
          }

-- ---- whole sets
-- a subtree splits no set where none reaches before its root or past its last node
pub whole-by_span : (t : GameTree) (k : ℕ) (span : Span) → IsGameTree t → IsTree (game_of_tree t) → IsSpan (game_of_tree t) k span → ((k ≤ span.least) × (span.greatest ≤ span.last)) ↔ HasWholeSets (game_of_tree t) k
whole-by_span t k span valid w h = (
  λ within c d i s in_c in_d at_c at_d below.
      let reached : IsTogetherWithSubtree (game_of_tree t) k d = (c, in_c, below, (in_d, inr (i, s, at_c, at_d))) in
      within-between t k d span.last valid w (omega (arith, within.0, h.least.1 d reached)) (omega (arith, within.1, h.greatest.1 d reached)) h.last.0.0 h.last.0.1,
  λ whole. (
    within-after (game_of_tree t) w k span.least h.least.0.3.0 (inside whole span.least h.least.0),
    h.last.1 span.greatest (h.greatest.0.3.0, inside whole span.greatest h.greatest.0),
  ),
)
  where
    inside : HasWholeSets (game_of_tree t) k → (d : ℕ) → IsTogetherWithSubtree (game_of_tree t) k d → IsWithin (game_of_tree t) k d
    inside whole d r = elim r.3.1 [
      | inl same ↦ subst (IsWithin (game_of_tree t) k) same r.2
      | inr both ↦ whole r.0 d both.0 both.1 r.1 r.3.0 both.2 both.3 r.2
    ]
