-- The nodes of a set, and sums over them.
use Rattle.std.proofs.Common.{ℕ, zero, suc, ◌+◌, ◌<◌, ◌≤◌, ◌≡◌, inl, inr, Bool, true, false, Some, List, [], ◌∷◌, ◌++◌, All, length, get_or, set, refl, sym, ap, ap₂, ◌∙◌, subst, add-one, arith}
use Rattle.std.specs.Prelude.{filter, cond}
use Rattle.std.specs.List.{range_with_len}
use Rattle.std.proofs.Math.Seq.{get_or-append_seam}
use Rattle.std.proofs.lemmas.Bool.{cases_eq, cases_lt}
use Rattle.std.proofs.lemmas.List.{get_or_append_left, length_push, get_or-set_same, get_or-set_other, append-nil}
use Rattle.std.proofs.lemmas.List.Elements.{filter-append}
use Rattle.lists.proofs.ElementLemmas.{range-last}
use Rattle.rational.specs.Rational.{ℚ, ◌+ℚ◌, zero_ℚ}
use Rattle.rational.specs.Sum.{sum_to}
use Rattle.rational.proofs.RationalRing.{+ℚ-zero}
use Rattle.rational.proofs.SumLemmas.{sum_to-same}
use Rattle.frac128.specs.Steps.{AddFits, StepFits, sum_steps}
use Rattle.game_theory.specs.Trees.{Tree, IsTree}
use Rattle.game_theory.specs.Behaviour.{Behaviour}
use Rattle.game_theory.specs.Children.{child}
use Rattle.game_theory.proofs.ChildLemmas.{where_true}
use Rattle.game_theory.proofs.NamedChildLemmas.{child-is, child-is_child, child-later}
use Rattle.game_core.specs.Tree.{GameTree, InformationSet, IsGameTree as is_valid}
use Rattle.game_core.specs.TreeGame.{game_of_tree}
use Rattle.best_replies.specs.Replies.{action_value, reply_value, is_member}
use Rattle.best_replies.proofs.ReplyValueLemmas.{action_value-by_members}
use Rattle.best_replies.proofs.SetOrderLemmas.{within-trans, above-le}
use Rattle.perfect_recall.proofs.MemberLemmas.{AreMembers, members-at}
use Rattle.verdicts.specs.TreeReplies.{AreDecided, OwnSetsFrom, IsComputed}
use Rattle.verdicts.specs.TreeSteps.{members, member_child, action_steps, reply_steps}
use Rattle.frac128.proofs.SumStepLemmas.{sum-more}

-- ---- the members of a tree's set
-- those that the tree lists
pub members-listed : (t : GameTree) (sets : List InformationSet) (s : ℕ) (set : InformationSet) → is_valid t → sets ≡ t.sets → s < length t.sets → set ≡ get_or sets s set
    → (set.members ≡ members (game_of_tree t) s) × AreMembers (game_of_tree t) s set.members
members-listed t sets s set valid same below is =
    let at = members-at t sets s set valid same below is in
    ((valid.sets_fit s set at.0).members_are, at.1)

-- ---- sums over members
module _ (g : ℕ → ℚ) where
  abbrev over : List ℕ → ℚ
  over xs = sum_to (length xs) (λ j. g (get_or xs j 0))

  over-push : (xs : List ℕ) (y : ℕ) → over (xs ++ y ∷ []) ≡ over xs +ℚ g y
  over-push xs y =
      ap (λ n. sum_to n (λ j. g (get_or (xs ++ y ∷ []) j 0))) (length_push xs y ∙ add-one (length xs))
      ∙ ap₂ (λ p q. p +ℚ q) (sum_to-same (length xs) _ _ (λ j l. ap g (get_or_append_left xs (y ∷ []) 0 j l))) (ap g (get_or-append_seam xs y [] 0))

  over-filter : (f : ℕ → Bool) (n : ℕ) → sum_to n (λ k. where_true (f k) (g k)) ≡ over (filter f (range_with_len 0 n))
  over-filter f zero = refl
  over-filter f (suc n) =
      ap (λ x. x +ℚ where_true (f n) (g n)) (over-filter f n) ∙ go (f n) refl
      ∙ ap over (sym (filter-append f (range_with_len 0 n) (n ∷ [])) ∙ ap (filter f) (sym (range-last n)))
    where
      go : (b : Bool) → f n ≡ b → over (filter f (range_with_len 0 n)) +ℚ where_true b (g n) ≡ over (filter f (range_with_len 0 n) ++ filter f (n ∷ []))
      go true e = sym (over-push (filter f (range_with_len 0 n)) n) ∙ ap (λ b. over (filter f (range_with_len 0 n) ++ cond b (n ∷ []) [])) (sym e)
      go false e = +ℚ-zero _ ∙ ap over (sym (append-nil (filter f (range_with_len 0 n)))) ∙ ap (λ b. over (filter f (range_with_len 0 n) ++ cond b (n ∷ []) [])) (sym e)

-- what an action is worth, over the members in order
pub action_value-listed : (t : Tree) (b : Behaviour) (i : ℕ) (choice : ℕ → ℕ) (s a : ℕ) → IsTree t → a < t.actions s → action_value t b i choice s a ≡ sum_to (length (members t s)) (λ j. reply_value t b i choice (member_child t s a j))
action_value-listed t b i choice s a w l =
    action_value-by_members t b i choice s a (λ k. child t k a) w (λ k m e. child-is_child t k s a w m e l) ∙ over-filter (λ k. reply_value t b i choice (child t k a)) (is_member t s) t.size

-- ---- an action's sum as it grows
module _ (t : Tree) (b : Behaviour) (i : ℕ) (choice : ℕ → ℕ) (weights : List ℚ) (choices : List ℕ) where
  -- values that are right stay so where a right one is written
  pub decided-written : (values : List ℚ) (first n c : ℕ) (v : ℚ) → c < length values → v ≡ reply_value t b i choice c → AreDecided t b i choice weights choices values first n → AreDecided t b i choice weights choices (set values c v) first n
  decided-written values first n c v l is h = record {
    best = h.best;
    ascend = h.ascend;
    weights_are = h.weights_are;
    choices_are = h.choices_are;
    values_are = λ x s p m e o computed. elim (cases_eq x c) [
      | inl same ↦ ap (λ y. get_or (set values c v) y zero_ℚ) same ∙ get_or-set_same values c v zero_ℚ l ∙ is ∙ ap (reply_value t b i choice) (sym same)
      | inr apart ↦ get_or-set_other values c x v zero_ℚ apart ∙ h.values_are x s p m e o computed
    ];
  }

  -- what is known of more actions is known of none
  pub decided-fewer : (values : List ℚ) (first n : ℕ) → AreDecided t b i choice weights choices values first n → AreDecided t b i choice weights choices values first 0
  decided-fewer values first n h = record {
    best = h.best;
    ascend = h.ascend;
    weights_are = h.weights_are;
    choices_are = h.choices_are;
    values_are = λ x s p m e o computed. h.values_are x s p m e o (elim computed [ inl late ↦ inl late | inr now ↦ absurd (omega (arith, now.1)) ]);
  }

  -- the values after an action are known at the first j members of its set, and summed
  pub record AreSummed (values : List ℚ) (s a j : ℕ) (sum : ℚ) : Type 0 where
    pub decided : AreDecided t b i choice weights choices values (suc s) a
    pub known : (n : ℕ) → n < j → get_or values (member_child t s a n) zero_ℚ ≡ reply_value t b i choice (member_child t s a n)
    pub sum_is : sum ≡ sum_to j (λ n. reply_value t b i choice (member_child t s a n))
    pub fit : All StepFits (sum_steps j (λ n. reply_value t b i choice (member_child t s a n)) (λ n. reply_steps t b i choice (member_child t s a n)))

  module _ (w : IsTree t) (s a : ℕ) (o : t.owner s ≡ Some i) (m : a < t.actions s) where
    -- own sets after the set's nodes are later ones
    pub later-sets : (values : List ℚ) (n k : ℕ) → AreDecided t b i choice weights choices values (suc s) n → k < t.size → t.set k ≡ Some s → OwnSetsFrom t i (child t k a) (suc s)
    later-sets values n k h l e = λ x r inside below at own.
        let is = child-is_child t k s a w l e m in
        let after = child-later t k s a w l e m in
        let last : child t k a ≤ x = above-le t w inside.0 (child t k a) x below inside.1 in
        let order : s < r = h.ascend k x s r below (within-trans t k (child t k a) (1, (is.0, sym is.2)) inside.0 x inside.1) (λ q. absurd (omega (arith, after.0))) e at o own in
        omega arith

    -- one member more
    pub summed-more : (values : List ℚ) (j : ℕ) (sum v x : ℚ) → AreSummed values s a j sum → member_child t s a j < length values → v ≡ reply_value t b i choice (member_child t s a j) → All StepFits (reply_steps t b i choice (member_child t s a j))
        → x ≡ sum +ℚ v → AddFits sum v → AreSummed (set values (member_child t s a j) v) s a (j + 1) x
    summed-more values j sum v x h l is fits sum_of add =
        let c = member_child t s a j in
        let more = sum-more (λ n. reply_value t b i choice (member_child t s a n)) (λ n. reply_steps t b i choice (member_child t s a n)) j sum v h.sum_is h.fit is fits x sum_of add in
        record {
          decided = decided-written values (suc s) a c v l is h.decided;
          known = λ n below. elim (cases_eq (member_child t s a n) c) [
            | inl same ↦ ap (λ y. get_or (set values c v) y zero_ℚ) same ∙ get_or-set_same values c v zero_ℚ l ∙ is ∙ ap (reply_value t b i choice) (sym same)
            | inr apart ↦ get_or-set_other values c (member_child t s a n) v zero_ℚ apart ∙ h.known n (elim (cases_eq n j) [ inl last ↦ absurd (apart (ap (member_child t s a) last)) | inr other ↦ omega arith ])
          ];
          sum_is = more.0;
          fit = more.1;
        }

    -- all members
    pub summed-all : (values : List ℚ) (j : ℕ) (sum : ℚ) → AreMembers t s (members t s) → j ≡ length (members t s) → AreSummed values s a j sum
        → (sum ≡ action_value t b i choice s a) × AreDecided t b i choice weights choices values (suc s) (suc a) × All StepFits (action_steps t b i choice s a)
    summed-all values j sum listed all h =
        let listed_sum = sym (action_value-listed t b i choice s a w m) in (
          h.sum_is ∙ ap (λ n. sum_to n (λ k. reply_value t b i choice (member_child t s a k))) all ∙ listed_sum,
          record { best = h.decided.best; ascend = h.decided.ascend; weights_are = h.decided.weights_are; choices_are = h.decided.choices_are; values_are = known },
          subst (λ n. All StepFits (sum_steps n (λ k. reply_value t b i choice (member_child t s a k)) (λ k. reply_steps t b i choice (member_child t s a k)))) all h.fit,
        )
      where
        known : (x r : ℕ) → 0 < x → x < t.size → t.set (t.parent x) ≡ Some r → t.owner r ≡ Some i → IsComputed (suc s) (suc a) r (t.branch x) → get_or values x zero_ℚ ≡ reply_value t b i choice x
        known x r p l e own (inl late) = h.decided.values_are x r p l e own (inl late)
        known x r p l e own (inr now) = elim (cases_lt (t.branch x) a) [
          | inl before ↦ h.decided.values_are x r p l e own (inr (now.0, before))
          | inr last ↦
              let same_set : r ≡ s = omega (arith, now.0) in
              let branch : t.branch x ≡ a = omega (arith, now.1) in
              let after : t.parent x < x = w.after_parent x p l in
              let place = listed.are_all (t.parent x) (omega arith) (e ∙ ap Some same_set) in
              let is : member_child t s a place.0 ≡ x = ap (λ k. child t k a) place.2 ∙ child-is t (t.parent x) a x w (p, l, refl, branch) in
              subst (λ y. get_or values y zero_ℚ ≡ reply_value t b i choice y) is (h.known place.0 (omega (arith, place.1)))
        ]

-- ---- the members as they are read
module _ (t : GameTree) (sets : List InformationSet) (s : ℕ) (here : InformationSet) (listed : List ℕ) (valid : is_valid t) (same : sets ≡ t.sets) (below : s < length t.sets) (at_place : here ≡ get_or sets s here) (is : listed ≡ here.members) where
  -- they are the set's members
  pub listed-are : (listed ≡ members (game_of_tree t) s) × AreMembers (game_of_tree t) s listed
  listed-are = let found = members-listed t sets s here valid same below at_place in (is ∙ found.0, subst (AreMembers (game_of_tree t) s) (sym is) found.1)

  -- each is a node of the set
  pub listed-at : (j : ℕ) → j < length listed → (get_or listed j 0 < length t.nodes) × ((game_of_tree t).set (get_or listed j 0) ≡ Some s)
  listed-at j l = listed-are.1.are_nodes j l

  -- and its child is the set's
  pub listed-child : (a j c : ℕ) → c ≡ child (game_of_tree t) (get_or listed j 0) a → c ≡ member_child (game_of_tree t) s a j
  listed-child a j c e = e ∙ ap (λ xs. child (game_of_tree t) (get_or xs j 0) a) listed-are.0
