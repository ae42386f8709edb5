-- Leaving out decisions that add no end to the walk.
use Rattle.std.proofs.Common.{ℕ, zero, suc, ◌+◌, ◌-◌, ◌<◌, ◌≤◌, ◌≡◌, inl, inr, Bool, true, false, ◌&&◌, Option, Some, None, List, [], ◌∷◌, ◌++◌, length, get_or, set, drop, replicate, Contains, append_assoc, refl, sym, ap, ap₂, ◌∙◌, subst, arith, cond, add-one, add-zero}
use Rattle.std.specs.Prelude.{◌==◌, slice_get, if◌then◌else◌, IfSome}
use Rattle.std.specs.List.{count_by, flat_map, range_with_len, sum_by}
use Rattle.std.proofs.Math.ListN as lists
use Rattle.std.proofs.Math.Path.{fun_ext}
use Rattle.std.proofs.Math.Seq.{drop-length}
use Rattle.std.proofs.lemmas.Bool.{cases_eq, cases_lt, cases_Bool}
use Rattle.std.proofs.lemmas.List.{append-nil, get_or_default, get_or_append_left, get_or_push, length_push, get_or-set_same, get_or-set_other, length-replicate, get_or-replicate}
use Rattle.std.proofs.lemmas.List.Concat.{length-flat_map}
use Rattle.std.proofs.lemmas.List.FromFn.{length-range_with_len}
use Rattle.std.proofs.lemmas.List.Sums.{count_by-le-length, sum_by_push}
use Rattle.std.proofs.lemmas.Option.{same_Some, slice_get_within, slice_get-get_or}
use Rattle.lists.proofs.ElementLemmas.{range-last}
use Rattle.strategy_lists.specs.declared.decision.Decision.{Decision}
use Rattle.strategy_lists.specs.declared.decision.Edge.{Edge}
use Rattle.strategy_lists.specs.Reduced.{AreApart, AreLinked, ComesFrom}
use Rattle.strategy_lists.specs.Ends.{is_led_to, ends}
use Rattle.strategy_lists.proofs.ReachedDecisionLemmas.{below_or_last, last_entry, one_decision, place-within}
use Rattle.strategy_lists.proofs.EndListLemmas.{AreRest, AreRest-first, AreRest-later, AreRest-all, branches_or_passes, ends-nil, ends-branch, ends-pass, ends_with, all_ends}
use Rattle.strategy_lists.proofs.StepLemmas.{drop-first}
use Rattle.strategy_lists.specs.LeftOut.{is_kept, kept_below, renumbered_edge, renumbered, marked, AreEnough, AreShared}

-- the kept ones of these decisions, which are numbered from n
abbrev pub kept_from : List Bool → ℕ → List Decision → List Decision
kept_from kept n [] = []
kept_from kept n (d ∷ ds) = if is_kept kept n then renumbered kept d ∷ kept_from kept (suc n) ds else kept_from kept (suc n) ds

-- it does not do both
not_both : (b : Bool) → b ≡ true → b ≡ false → ⊥
not_both b held other = cc

-- a test that fails at a value does not pass there
pub fails_there : (xs : List Bool) (k : ℕ) (passes : Bool → Bool) → passes true ≡ true → get_or xs k true ≡ true → passes (get_or xs k true) ≡ false → ⊥
fails_there xs k passes all held fails = not_both (passes true) all (ap passes (sym held) ∙ fails)

-- ---- new numbers
module _ (kept : List Bool) where
  -- one more number below
  below-one_more : (n : ℕ) (b : Bool) → is_kept kept n ≡ b → kept_below kept (suc n) ≡ kept_below kept n + cond b 1 0
  below-one_more n b is = ap (count_by (is_kept kept)) (range-last n) ∙ sum_by_push _ (range_with_len 0 n) n ∙ ap (λ c. kept_below kept n + cond c 1 0) is

  below-kept : (n : ℕ) → is_kept kept n ≡ true → kept_below kept (suc n) ≡ suc (kept_below kept n)
  below-kept n held = below-one_more n true held ∙ add-one (kept_below kept n)

  below-left_out : (n : ℕ) → is_kept kept n ≡ false → kept_below kept (suc n) ≡ kept_below kept n
  below-left_out n out = below-one_more n false out ∙ add-zero (kept_below kept n)

  -- there are no fewer below more
  below-next : (n : ℕ) → kept_below kept n ≤ kept_below kept (suc n)
  below-next n = elim (cases_Bool (is_kept kept n)) [ inl held ↦ omega (arith, below-kept n held) | inr out ↦ omega (arith, below-left_out n out) ]

  below-more : (n k : ℕ) → kept_below kept n ≤ kept_below kept (n + k)
  below-more n zero = let e : n ≡ n + 0 = omega arith in subst (λ v. kept_below kept n ≤ kept_below kept v) e (omega arith)
  below-more n (suc k) = let e : suc (n + k) ≡ n + suc k = omega arith in subst (λ v. kept_below kept n ≤ kept_below kept v) e (omega (arith, below-more n k, below-next (n + k)))

  -- a kept number below another has a smaller new number
  below-less : (k n : ℕ) → k < n → is_kept kept k ≡ true → kept_below kept k < kept_below kept n
  below-less k n l held =
      let e : suc k + (n - suc k) ≡ n = omega arith in
      let more : kept_below kept (suc k) ≤ kept_below kept n = subst (λ v. kept_below kept (suc k) ≤ kept_below kept v) e (below-more (suc k) (n - suc k)) in
      omega (arith, below-kept k held, more)

  -- the list begins with a kept decision, and goes on after another
  from-kept : (n : ℕ) (d : Decision) (ds : List Decision) → is_kept kept n ≡ true → kept_from kept n (d ∷ ds) ≡ renumbered kept d ∷ kept_from kept (suc n) ds
  from-kept n d ds held = ap (λ b. if b then renumbered kept d ∷ kept_from kept (suc n) ds else kept_from kept (suc n) ds) held

  from-left_out : (n : ℕ) (d : Decision) (ds : List Decision) → is_kept kept n ≡ false → kept_from kept n (d ∷ ds) ≡ kept_from kept (suc n) ds
  from-left_out n d ds out = ap (λ b. if b then renumbered kept d ∷ kept_from kept (suc n) ds else kept_from kept (suc n) ds) out

  -- a kept decision stands at its new number
  kept-at : (ds : List Decision) (n k m : ℕ) (d : Decision) → slice_get ds k ≡ Some d → is_kept kept (n + k) ≡ true → m + kept_below kept n ≡ kept_below kept (n + k) → slice_get (kept_from kept n ds) m ≡ Some (renumbered kept d)
  kept-at [] n k m d at held e = cc
  kept-at (c ∷ ds) n zero m d at held e =
      let here : n + 0 ≡ n = omega arith in
      let first : m ≡ 0 = omega (arith, ap (kept_below kept) here) in
      ap₂ (λ xs v. slice_get xs v) (from-kept n c ds (ap (is_kept kept) (sym here) ∙ held)) first ∙ ap Some (ap (renumbered kept) (same_Some c d at))
  kept-at (c ∷ ds) n (suc k) zero d at held e =
      let there : n + suc k ≡ suc n + k = omega arith in
      let later = ap (kept_below kept) there in
      elim (cases_Bool (is_kept kept n)) [
        | inl here ↦ absurd (omega (arith, later, below-kept n here, below-more (suc n) k))
        | inr out ↦ ap (λ xs. slice_get xs 0) (from-left_out n c ds out) ∙ kept-at ds (suc n) k 0 d at (ap (is_kept kept) (sym there) ∙ held) (omega (arith, later, below-left_out n out))
      ]
  kept-at (c ∷ ds) n (suc k) (suc m) d at held e =
      let there : n + suc k ≡ suc n + k = omega arith in
      let later = ap (kept_below kept) there in
      let also = ap (is_kept kept) (sym there) ∙ held in
      elim (cases_Bool (is_kept kept n)) [
        | inl here ↦ ap (λ xs. slice_get xs (suc m)) (from-kept n c ds here) ∙ kept-at ds (suc n) k m d at also (omega (arith, later, below-kept n here))
        | inr out ↦ ap (λ xs. slice_get xs (suc m)) (from-left_out n c ds out) ∙ kept-at ds (suc n) k (suc m) d at also (omega (arith, later, below-left_out n out))
      ]

  -- what stands at a new number is a kept decision
  record IsKeptAt (ds : List Decision) (n m : ℕ) (e : Decision) : Type 0 where
    number : ℕ
    decision : Decision
    stands_at : slice_get ds number ≡ Some decision
    kept_there : is_kept kept (n + number) ≡ true
    number_is : m + kept_below kept n ≡ kept_below kept (n + number)
    renumbered_is : e ≡ renumbered kept decision

  -- the same with one more decision before the others
  IsKeptAt-later : (c : Decision) (ds : List Decision) (n m l : ℕ) (e : Decision) → l + kept_below kept n ≡ m + kept_below kept (suc n) → IsKeptAt ds (suc n) m e → IsKeptAt (c ∷ ds) n l e
  IsKeptAt-later c ds n m l e same h =
      let there : suc n + h.number ≡ n + suc h.number = omega arith in
      record {
        number = suc h.number;
        decision = h.decision;
        stands_at = h.stands_at;
        kept_there = ap (is_kept kept) (sym there) ∙ h.kept_there;
        number_is = omega (arith, same, h.number_is, ap (kept_below kept) there);
        renumbered_is = h.renumbered_is;
      }

  kept-tell : (ds : List Decision) (n m : ℕ) (e : Decision) → slice_get (kept_from kept n ds) m ≡ Some e → IsKeptAt ds n m e
  kept-tell [] n m e at = cc
  kept-tell (c ∷ ds) n m e at = elim (cases_Bool (is_kept kept n)) [
    | inl here ↦ first m (sym (ap (λ xs. slice_get xs m) (from-kept n c ds here)) ∙ at) here (λ l following. kept-tell ds (suc n) l e following)
    | inr out ↦ IsKeptAt-later c ds n m m e (omega (arith, below-left_out n out)) (kept-tell ds (suc n) m e (sym (ap (λ xs. slice_get xs m) (from-left_out n c ds out)) ∙ at))
  ]
    where
      first : (m : ℕ) → slice_get (renumbered kept c ∷ kept_from kept (suc n) ds) m ≡ Some e → is_kept kept n ≡ true → ((l : ℕ) → slice_get (kept_from kept (suc n) ds) l ≡ Some e → IsKeptAt ds (suc n) l e) → IsKeptAt (c ∷ ds) n m e
      first zero at here later =
          let same : n ≡ n + 0 = omega arith in
          record { number = 0; decision = c; stands_at = refl; kept_there = ap (is_kept kept) (sym same) ∙ here; number_is = omega (arith, ap (kept_below kept) same); renumbered_is = sym (same_Some (renumbered kept c) e at) }
      first (suc m) at here later = IsKeptAt-later c ds n m (suc m) e (omega (arith, below-kept n here)) (later m at)

-- ---- what is kept is linked
module _ (decisions : List Decision) (actions : List ℕ) (kept : List Bool) (linked : AreLinked decisions actions) (enough : AreEnough decisions actions kept) where
  -- a renumbered edge comes from an earlier kept decision
  comes-kept : (k m : ℕ) (d : Decision) (before : Option Edge) → slice_get decisions k ≡ Some d → is_kept kept k ≡ true → m ≡ kept_below kept k → d.before ≡ before → ComesFrom decisions k before → ComesFrom (kept_from kept 0 decisions) m (renumbered_edge kept before)
  comes-kept k m d None at held e is c = tt
  comes-kept k m d (Some edge) at held e is c =
      let also : is_kept kept edge.decision ≡ true = enough.before_kept k d edge at held is in
      let less = below-less kept edge.decision k c.0 also in
      let same : edge.decision ≡ 0 + edge.decision = omega arith in
      (omega (arith, less, e), renumbered kept c.1, kept-at kept decisions 0 edge.decision (kept_below kept edge.decision) c.1 c.2 (ap (is_kept kept) (sym same) ∙ also) (omega (arith, ap (kept_below kept) same)), c.3)

  pub linked-kept : AreLinked (kept_from kept 0 decisions) actions
  linked-kept = record {
    some_action = linked.some_action;
    places_within = λ m e inside.
        let h = kept-tell kept decisions 0 m _ (slice_get-get_or (kept_from kept 0 decisions) m e inside) in
        let within : h.decision.place < length actions = place-within decisions actions h.number h.decision linked h.stands_at in
        omega (arith, within, ap (λ (v : Decision). v.place) h.renumbered_is);
    come_from = λ m e at.
        let h = kept-tell kept decisions 0 m e at in
        let same : 0 + h.number ≡ h.number = omega arith in
        let number : m ≡ kept_below kept h.number = omega (arith, h.number_is, ap (kept_below kept) same) in
        subst (λ (v : Decision). ComesFrom (kept_from kept 0 decisions) m v.before) (sym h.renumbered_is) (comes-kept h.number m h.decision h.decision.before h.stands_at (ap (is_kept kept) (sym same) ∙ h.kept_there) number refl (linked.come_from h.number h.decision h.stands_at));
  }

  -- ---- the walks
  -- the walks over all decisions and over the kept ones, before decision n
  record AreAlike (n : ℕ) (reach : List Bool) (choices : List ℕ) (marks : List Bool) (picks : List ℕ) : Type 0 where
    entry_for_each : length reach ≡ n
    mark_for_each : length marks ≡ kept_below kept n
    choices_long : length choices ≡ length actions
    picks_long : length picks ≡ length actions
    same_reach : (k : ℕ) → k < n → is_kept kept k ≡ true → get_or marks (kept_below kept k) false ≡ get_or reach k false
    same_choices : (j : ℕ) (d : Decision) → slice_get decisions j ≡ Some d → is_kept kept j ≡ true → get_or picks d.place 0 ≡ get_or choices d.place 0
    none_later : (j : ℕ) (d : Decision) → n ≤ j → slice_get decisions j ≡ Some d → is_kept kept j ≡ false → get_or choices d.place 0 ≡ 0

  -- a kept decision is led to in both or in none
  led-alike : (n : ℕ) (reach : List Bool) (choices : List ℕ) (marks : List Bool) (picks : List ℕ) (d : Decision) (before : Option Edge) → AreAlike n reach choices marks picks → slice_get decisions n ≡ Some d → is_kept kept n ≡ true → d.before ≡ before → ComesFrom decisions n before
      → is_led_to marks picks (renumbered_edge kept before) ≡ is_led_to reach choices before
  led-alike n reach choices marks picks d None a at held is c = refl
  led-alike n reach choices marks picks d (Some edge) a at held is c =
      let also : is_kept kept edge.decision ≡ true = enough.before_kept n d edge at held is in
      ap₂ (λ b v. b && (v == suc edge.action)) (a.same_reach edge.decision c.0 also)
      (ap (λ v. get_or picks v 0) c.3 ∙ a.same_choices edge.decision c.1 c.2 also ∙ ap (λ v. get_or choices v 0) (sym c.3))

  -- the set of a decision that is left out is of no other
  other-place : (n j : ℕ) (d e : Decision) → slice_get decisions n ≡ Some d → slice_get decisions j ≡ Some e → is_kept kept n ≡ false → (n ≡ j → ⊥) → e.place ≡ d.place → ⊥
  other-place n j d e at there out ne same = ne (enough.alone n j d e at there out (sym same))

  -- one more decision that is kept: both have one more entry, and the same action or none
  alike-reach : (n : ℕ) (reach marks : List Bool) (r : Bool) (choices picks : List ℕ) → AreAlike n reach choices marks picks → is_kept kept n ≡ true → (k : ℕ) → k < suc n → is_kept kept k ≡ true → get_or (marks ++ r ∷ []) (kept_below kept k) false ≡ get_or (reach ++ r ∷ []) k false
  alike-reach n reach marks r choices picks a held k l also = elim (below_or_last k n l) [
    | inl b ↦ lists.get_or-append marks (r ∷ []) false (kept_below kept k) (omega (arith, below-less kept k n b also, a.mark_for_each)) ∙ a.same_reach k b also ∙ sym (lists.get_or-append reach (r ∷ []) false k (omega (arith, a.entry_for_each)))
    | inr b ↦ last_entry marks r (kept_below kept k) (a.mark_for_each ∙ ap (kept_below kept) (sym b)) ∙ sym (last_entry reach r k (a.entry_for_each ∙ sym b))
  ]

  alike-pass : (n : ℕ) (reach marks : List Bool) (r : Bool) (choices picks : List ℕ) → AreAlike n reach choices marks picks → is_kept kept n ≡ true → AreAlike (suc n) (reach ++ r ∷ []) choices (marks ++ r ∷ []) picks
  alike-pass n reach marks r choices picks a held = record {
    entry_for_each = omega (arith, lists.length-append reach (r ∷ []), a.entry_for_each);
    mark_for_each = omega (arith, lists.length-append marks (r ∷ []), a.mark_for_each, below-kept kept n held);
    choices_long = a.choices_long;
    picks_long = a.picks_long;
    same_reach = alike-reach n reach marks r choices picks a held;
    same_choices = a.same_choices;
    none_later = λ j e l there out. a.none_later j e (omega arith) there out;
  }

  alike-branch : (n : ℕ) (reach marks : List Bool) (choices picks : List ℕ) (d : Decision) (action : ℕ) → AreAlike n reach choices marks picks → slice_get decisions n ≡ Some d → is_kept kept n ≡ true → AreAlike (suc n) (reach ++ true ∷ []) (set choices d.place action) (marks ++ true ∷ []) (set picks d.place action)
  alike-branch n reach marks choices picks d action a at held =
      let within = place-within decisions actions n d linked at in
      record {
        entry_for_each = omega (arith, lists.length-append reach (true ∷ []), a.entry_for_each);
        mark_for_each = omega (arith, lists.length-append marks (true ∷ []), a.mark_for_each, below-kept kept n held);
        choices_long = lists.length-set choices d.place action ∙ a.choices_long;
        picks_long = lists.length-set picks d.place action ∙ a.picks_long;
        same_reach = alike-reach n reach marks true choices picks a held;
        same_choices = λ j e there also. elim (cases_eq e.place d.place) [
          | inl same ↦
              ap (λ v. get_or (set picks d.place action) v 0) same ∙ get_or-set_same picks d.place action 0 (omega (arith, within, a.picks_long))
              ∙ sym (ap (λ v. get_or (set choices d.place action) v 0) same ∙ get_or-set_same choices d.place action 0 (omega (arith, within, a.choices_long)))
          | inr other ↦ get_or-set_other picks d.place e.place action 0 other ∙ a.same_choices j e there also ∙ sym (get_or-set_other choices d.place e.place action 0 other)
        ];
        none_later = λ j e l there out.
            get_or-set_other choices d.place e.place action 0 (λ same. other-place j n e d there at out (λ one. not_both (is_kept kept n) held (ap (is_kept kept) (sym one) ∙ out)) (sym same))
            ∙ a.none_later j e (omega arith) there out;
      }

  -- one more decision that is left out: the walk over the kept ones stays
  alike-left_out : (n : ℕ) (reach marks : List Bool) (r : Bool) (choices picks : List ℕ) (d : Decision) → AreAlike n reach choices marks picks → slice_get decisions n ≡ Some d → is_kept kept n ≡ false → AreAlike (suc n) (reach ++ r ∷ []) choices marks picks
  alike-left_out n reach marks r choices picks d a at out = record {
    entry_for_each = omega (arith, lists.length-append reach (r ∷ []), a.entry_for_each);
    mark_for_each = a.mark_for_each ∙ sym (below-left_out kept n out);
    choices_long = a.choices_long;
    picks_long = a.picks_long;
    same_reach = λ k l also. elim (below_or_last k n l) [
      | inl b ↦ a.same_reach k b also ∙ sym (lists.get_or-append reach (r ∷ []) false k (omega (arith, a.entry_for_each)))
      | inr b ↦ absurd (not_both (is_kept kept k) also (ap (is_kept kept) b ∙ out))
    ];
    same_choices = a.same_choices;
    none_later = λ j e l there no_more. a.none_later j e (omega arith) there no_more;
  }

  -- the same where its set takes its action
  alike-alone : (n : ℕ) (reach marks : List Bool) (choices picks : List ℕ) (d : Decision) (action : ℕ) → AreAlike n reach choices marks picks → slice_get decisions n ≡ Some d → is_kept kept n ≡ false → AreAlike (suc n) (reach ++ true ∷ []) (set choices d.place action) marks picks
  alike-alone n reach marks choices picks d action a at out =
      let before = alike-left_out n reach marks true choices picks d a at out in
      record {
        entry_for_each = before.entry_for_each;
        mark_for_each = before.mark_for_each;
        choices_long = lists.length-set choices d.place action ∙ a.choices_long;
        picks_long = a.picks_long;
        same_reach = before.same_reach;
        same_choices = λ j e there also. a.same_choices j e there also ∙ sym (get_or-set_other choices d.place e.place action 0 (other-place n j d e at there out (λ one. not_both (is_kept kept n) (ap (is_kept kept) one ∙ also) out)));
        none_later = λ j e l there no_more. get_or-set_other choices d.place e.place action 0 (other-place n j d e at there out (λ one. omega (arith, one))) ∙ before.none_later j e l there no_more;
      }

  -- the walk over the kept decisions has as many ends
  ends-kept : (ds : List Decision) (reach marks : List Bool) (choices picks : List ℕ) (n : ℕ) → AreRest decisions n ds → AreAlike n reach choices marks picks → length (ends actions ds reach choices) ≡ length (ends actions (kept_from kept n ds) marks picks)
  ends-kept [] reach marks choices picks n rest a = ap length (ends-nil actions reach choices) ∙ sym (ap length (ends-nil actions marks picks))
  ends-kept (d ∷ ds) reach marks choices picks n rest a =
      let at = AreRest-first decisions n d ds rest in
      let later = AreRest-later decisions n d ds rest in
      let m = get_or actions d.place 0 in
      let more = kept_from kept (suc n) ds in
      elim (cases_Bool (is_kept kept n)) [
        | inl held ↦
            let whole : length (ends actions (kept_from kept n (d ∷ ds)) marks picks) ≡ length (ends actions (renumbered kept d ∷ more) marks picks) = ap (λ v. length (ends actions v marks picks)) (from-kept kept n d ds held) in
            let led = led-alike n reach choices marks picks d d.before a at held refl (linked.come_from n d at) in
            let pick = a.same_choices n d at held in
            elim (branches_or_passes reach choices d) [
              | inl b ↦
                  ap length (ends-branch actions d ds reach choices b) ∙ length-flat_map (ends_with actions d ds reach choices) (range_with_len 1 m)
                  ∙ ap (λ f. sum_by f (range_with_len 1 m)) (fun_ext (λ v. ends-kept ds (reach ++ true ∷ []) (marks ++ true ∷ []) (set choices d.place v) (set picks d.place v) (suc n) later (alike-branch n reach marks choices picks d v a at held)))
                  ∙ sym (whole ∙ ap length (ends-branch actions (renumbered kept d) more marks picks (led ∙ b.0, pick ∙ b.1)) ∙ length-flat_map (ends_with actions (renumbered kept d) more marks picks) (range_with_len 1 m))
              | inr p ↦
                  ap length (ends-pass actions d ds reach choices p)
                  ∙ ends-kept ds (reach ++ is_led_to reach choices d.before ∷ []) (marks ++ is_led_to reach choices d.before ∷ []) choices picks (suc n) later (alike-pass n reach marks (is_led_to reach choices d.before) choices picks a held)
                  ∙ ap (λ r. length (ends actions more (marks ++ r ∷ []) picks)) (sym led)
                  ∙ sym (whole ∙ ap length (ends-pass actions (renumbered kept d) more marks picks (λ h. subst (λ v. 0 < v) (sym pick) (p (sym led ∙ h)))))
            ]
        | inr out ↦
            let whole : length (ends actions (kept_from kept n (d ∷ ds)) marks picks) ≡ length (ends actions more marks picks) = ap (λ v. length (ends actions v marks picks)) (from-left_out kept n d ds out) in
            elim (branches_or_passes reach choices d) [
              | inl b ↦
                  ap length (ends-branch actions d ds reach choices b ∙ ap (λ k. flat_map (ends_with actions d ds reach choices) (range_with_len 1 k)) (enough.one_action n d at out) ∙ append-nil (ends_with actions d ds reach choices 1))
                  ∙ ends-kept ds (reach ++ true ∷ []) marks (set choices d.place 1) picks (suc n) later (alike-alone n reach marks choices picks d 1 a at out)
                  ∙ sym whole
              | inr p ↦
                  ap length (ends-pass actions d ds reach choices p)
                  ∙ ends-kept ds (reach ++ is_led_to reach choices d.before ∷ []) marks choices picks (suc n) later (alike-left_out n reach marks (is_led_to reach choices d.before) choices picks d a at out)
                  ∙ sym whole
            ]
      ]

  -- so from the start
  pub all_ends-kept : length (all_ends decisions actions) ≡ length (all_ends (kept_from kept 0 decisions) actions)
  all_ends-kept =
      let zeros = replicate (length actions) 0 in
      ends-kept decisions [] [] zeros zeros 0 (AreRest-all decisions) (record {
        entry_for_each = refl;
        mark_for_each = refl;
        choices_long = length-replicate (length actions) 0;
        picks_long = length-replicate (length actions) 0;
        same_reach = λ k l also. absurd (omega arith);
        same_choices = λ j d at also. refl;
        none_later = λ j d l at out. get_or-replicate (length actions) d.place 0 0 (place-within decisions actions j d linked at);
      })

-- ---- which are kept
-- a mark stays, and marks before n leave the others as they are
marked-keeps : (kept : List Bool) (edge : Option Edge) (j : ℕ) → is_kept kept j ≡ true → is_kept (marked kept edge) j ≡ true
marked-keeps kept None j held = held
marked-keeps kept (Some edge) j held = elim (cases_lt j (length kept)) [
  | inl l ↦ elim (cases_eq j edge.decision) [
    | inl same ↦ ap (λ v. get_or (set kept edge.decision true) v false) same ∙ get_or-set_same kept edge.decision true false (omega (arith, same))
    | inr other ↦ get_or-set_other kept edge.decision j true false other ∙ held
  ]
  | inr beyond ↦ absurd (not_both (is_kept kept j) held (lists.get_or-eq_default kept false beyond))
]

marked-other : (kept : List Bool) (edge : Option Edge) (n j : ℕ) → IfSome edge (λ s. s.decision < n) → n ≤ j → is_kept (marked kept edge) j ≡ is_kept kept j
marked-other kept None n j low l = refl
marked-other kept (Some edge) n j low l = get_or-set_other kept edge.decision j true false (λ same. omega (arith, same, low))

-- the marked decision is kept
marked-there : (kept : List Bool) (before : Option Edge) (edge : Edge) → before ≡ Some edge → edge.decision < length kept → is_kept (marked kept before) edge.decision ≡ true
marked-there kept before edge e l = subst (λ b. is_kept (marked kept b) edge.decision ≡ true) (sym e) (get_or-set_same kept edge.decision true false l)

length-marked : (kept : List Bool) (edge : Option Edge) → length (marked kept edge) ≡ length kept
length-marked kept None = refl
length-marked kept (Some edge) = lists.length-set kept edge.decision true

-- what is kept from number n on is enough
pub record IsEnoughFrom (decisions : List Decision) (actions : List ℕ) (n : ℕ) (kept : List Bool) : Type 0 where
  pub one_for_each : length kept ≡ length decisions
  pub one_action : (j : ℕ) (d : Decision) → n ≤ j → slice_get decisions j ≡ Some d → is_kept kept j ≡ false → get_or actions d.place 0 ≡ 1
  pub alone : (j k : ℕ) (d e : Decision) → n ≤ j → slice_get decisions j ≡ Some d → slice_get decisions k ≡ Some e → is_kept kept j ≡ false → d.place ≡ e.place → j ≡ k
  pub before_kept : (j : ℕ) (d : Decision) (edge : Edge) → n ≤ j → slice_get decisions j ≡ Some d → is_kept kept j ≡ true → d.before ≡ Some edge → is_kept kept edge.decision ≡ true

-- one decision more: it is kept where it was marked, or its set has more actions or another decision; and then the one before it is
module _ (decisions : List Decision) (actions : List ℕ) (linked : AreLinked decisions actions) (shared : List Bool) (are : AreShared decisions (length actions) shared) (n : ℕ) (kept : List Bool) (d : Decision) (at : slice_get decisions n ≡ Some d) (h : IsEnoughFrom decisions actions (suc n) kept) where
  -- the edges come from decisions before
  edge-before : (before : Option Edge) → ComesFrom decisions n before → IfSome before (λ s. s.decision < n)
  edge-before None c = tt
  edge-before (Some edge) c = c.0

  inside : n < length kept
  inside = omega (arith, slice_get_within decisions n d at, h.one_for_each)

  -- it is kept
  pub IsEnoughFrom-kept : IsEnoughFrom decisions actions n (marked (set kept n true) d.before)
  IsEnoughFrom-kept =
      let low = edge-before d.before (linked.come_from n d at) in
      let new = marked (set kept n true) d.before in
      let here : is_kept new n ≡ true = marked-keeps (set kept n true) d.before n (get_or-set_same kept n true false inside) in
      let later : (j : ℕ) → n < j → is_kept new j ≡ is_kept kept j = λ j l. marked-other (set kept n true) d.before n j low (omega arith) ∙ get_or-set_other kept n j true false (λ same. omega (arith, same)) in
      let held : (j : ℕ) → is_kept kept j ≡ true → is_kept new j ≡ true = λ j was. marked-keeps (set kept n true) d.before j (elim (cases_eq j n) [ inl same ↦ ap (λ v. get_or (set kept n true) v false) same ∙ get_or-set_same kept n true false inside | inr other ↦ get_or-set_other kept n j true false other ∙ was ]) in
      record {
        one_for_each = length-marked (set kept n true) d.before ∙ lists.length-set kept n true ∙ h.one_for_each;
        one_action = λ j e l there out. elim (cases_lt n j) [
          | inl b ↦ h.one_action j e b there (sym (later j b) ∙ out)
          | inr b ↦ let same : n ≡ j = omega arith in absurd (not_both (is_kept new n) here (ap (is_kept new) same ∙ out))
        ];
        alone = λ j k e f l there other out place. elim (cases_lt n j) [
          | inl b ↦ h.alone j k e f b there other (sym (later j b) ∙ out) place
          | inr b ↦ let same : n ≡ j = omega arith in absurd (not_both (is_kept new n) here (ap (is_kept new) same ∙ out))
        ];
        before_kept = λ j e edge l there was before. elim (cases_lt n j) [
          | inl b ↦ held edge.decision (h.before_kept j e edge b there (sym (later j b) ∙ was) before)
          | inr b ↦
              let same : j ≡ n = omega arith in
              let one : d.before ≡ Some edge = ap (λ (v : Decision). v.before) (one_decision decisions j n d e same at there) ∙ before in
              marked-there (set kept n true) d.before edge one (omega (arith, lists.length-set kept n true, inside, subst (λ o. IfSome o (λ s. s.decision < n)) one low))
        ];
      }

  -- it is left out
  pub IsEnoughFrom-left_out : is_kept kept n ≡ false → get_or actions d.place 0 ≤ 1 → get_or shared d.place false ≡ false → IsEnoughFrom decisions actions n kept
  IsEnoughFrom-left_out out few alone = record {
    one_for_each = h.one_for_each;
    one_action = λ j e l there also. elim (cases_lt n j) [
      | inl b ↦ h.one_action j e b there also
      | inr b ↦
          let same : j ≡ n = omega arith in
          let some : 0 < get_or actions d.place 0 = linked.some_action d.place 0 (place-within decisions actions n d linked at) in
          subst (λ (v : Decision). get_or actions v.place 0 ≡ 1) (one_decision decisions j n d e same at there) (omega arith)
    ];
    alone = λ j k e f l there other also place. elim (cases_lt n j) [
      | inl b ↦ h.alone j k e f b there other also place
      | inr b ↦
          let same : j ≡ n = omega arith in
          are.alone j k e f there other (subst (λ (v : Decision). get_or shared v.place false ≡ false) (one_decision decisions j n d e same at there) alone) place
    ];
    before_kept = λ j e edge l there was before. elim (cases_lt n j) [
      | inl b ↦ h.before_kept j e edge b there was before
      | inr b ↦ let same : j ≡ n = omega arith in absurd (not_both (is_kept kept n) (ap (is_kept kept) (sym same) ∙ was) out)
    ];
  }

-- ---- sets with two decisions
-- what was seen among the first n decisions
pub record AreSeen (decisions : List Decision) (sets n : ℕ) (seen shared : List Bool) : Type 0 where
  pub seen_for_each : length seen ≡ sets
  pub shared_for_each : length shared ≡ sets
  pub told : (k : ℕ) (d : Decision) → k < n → slice_get decisions k ≡ Some d → get_or seen d.place false ≡ true
  pub alone : (j k : ℕ) (d e : Decision) → j < n → k < n → slice_get decisions j ≡ Some d → slice_get decisions k ≡ Some e → get_or shared d.place false ≡ false → d.place ≡ e.place → j ≡ k

-- where no set is marked, none has two decisions
pub AreApart-shared : (decisions : List Decision) (sets : ℕ) (shared : List Bool) → AreShared decisions sets shared → (Contains shared true → ⊥) → AreApart decisions
AreApart-shared decisions sets shared s none j k d e here there same =
    s.alone j k d e here there (elim (cases_Bool (get_or shared d.place false)) [ inl marked_there ↦ absurd (none (contained shared d.place marked_there)) | inr unmarked ↦ unmarked ]) same
  where
    contained : (xs : List Bool) (p : ℕ) → get_or xs p false ≡ true → Contains xs true
    contained xs p held = elim (cases_lt p (length xs)) [
      | inl l ↦ (p, l, get_or_default xs p true false l ∙ held)
      | inr beyond ↦ absurd (not_both (get_or xs p false) held (lists.get_or-eq_default xs false beyond))
    ]

-- ---- the kept decisions, one after another
-- the numbers of the first n decisions, and those of them that are kept
pub record AreNumbered (decisions : List Decision) (kept : List Bool) (n : ℕ) (numbers : List ℕ) (list : List Decision) : Type 0 where
  pub number_for_each : length numbers ≡ n
  pub numbers_are : (k : ℕ) → k < n → get_or numbers k 0 ≡ kept_below kept k
  pub as_many : length list ≡ kept_below kept n
  pub list_is : list ++ kept_from kept n (drop n decisions) ≡ kept_from kept 0 decisions

-- there are no more than all
pub kept_below-all : (kept : List Bool) (n : ℕ) → kept_below kept n ≤ n
kept_below-all kept n = omega (arith, count_by-le-length (is_kept kept) (range_with_len 0 n), length-range_with_len 0 n)

-- one more number
numbers-more : (kept : List Bool) (n number : ℕ) (numbers more : List ℕ) → length numbers ≡ n → ((k : ℕ) → k < n → get_or numbers k 0 ≡ kept_below kept k) → number ≡ kept_below kept n → more ≡ numbers ++ number ∷ [] → (k : ℕ) → k < suc n → get_or more k 0 ≡ kept_below kept k
numbers-more kept n number numbers more long are is push k l = ap (λ v. get_or v k 0) push ∙ elim (below_or_last k n l) [
  | inl b ↦ get_or_append_left numbers (number ∷ []) 0 k (omega (arith, long)) ∙ are k b
  | inr b ↦ get_or_push numbers number 0 k (long ∙ sym b) ∙ is ∙ ap (kept_below kept) (sym b)
]

-- one more decision that is kept
pub AreNumbered-kept : (decisions : List Decision) (kept : List Bool) (n : ℕ) (numbers more : List ℕ) (list longer : List Decision) (d e : Decision) → AreNumbered decisions kept n numbers list → slice_get decisions n ≡ Some d → is_kept kept n ≡ true → more ≡ numbers ++ length list ∷ [] → longer ≡ list ++ e ∷ [] → e ≡ renumbered kept d → AreNumbered decisions kept (suc n) more longer
AreNumbered-kept decisions kept n numbers more list longer d e a at held push pushed is = record {
  number_for_each = ap length push ∙ omega (arith, length_push numbers (length list), a.number_for_each);
  numbers_are = numbers-more kept n (length list) numbers more a.number_for_each a.numbers_are a.as_many push;
  as_many = ap length pushed ∙ omega (arith, length_push list e, a.as_many, below-kept kept n held);
  list_is =
      ap (λ v. v ++ kept_from kept (suc n) (drop (suc n) decisions)) pushed ∙ append_assoc list (e ∷ []) (kept_from kept (suc n) (drop (suc n) decisions))
      ∙ ap (λ v. list ++ v ∷ kept_from kept (suc n) (drop (suc n) decisions)) is
      ∙ ap (λ v. list ++ v) (sym (from-kept kept n d (drop (suc n) decisions) held) ∙ ap (kept_from kept n) (sym (drop-first decisions n d at)))
      ∙ a.list_is;
}

-- one more that is left out
pub AreNumbered-left_out : (decisions : List Decision) (kept : List Bool) (n : ℕ) (numbers more : List ℕ) (list : List Decision) (d : Decision) → AreNumbered decisions kept n numbers list → slice_get decisions n ≡ Some d → is_kept kept n ≡ false → more ≡ numbers ++ length list ∷ [] → AreNumbered decisions kept (suc n) more list
AreNumbered-left_out decisions kept n numbers more list d a at out push = record {
  number_for_each = ap length push ∙ omega (arith, length_push numbers (length list), a.number_for_each);
  numbers_are = numbers-more kept n (length list) numbers more a.number_for_each a.numbers_are a.as_many push;
  as_many = a.as_many ∙ sym (below-left_out kept n out);
  list_is = ap (λ v. list ++ v) (sym (from-left_out kept n d (drop (suc n) decisions) out) ∙ ap (kept_from kept n) (sym (drop-first decisions n d at))) ∙ a.list_is;
}

-- all of them
pub AreNumbered-all : (decisions : List Decision) (kept : List Bool) (n : ℕ) (numbers : List ℕ) (list : List Decision) → n ≡ length decisions → AreNumbered decisions kept n numbers list → list ≡ kept_from kept 0 decisions
AreNumbered-all decisions kept n numbers list all a =
    sym (append-nil list) ∙ ap (λ v. list ++ kept_from kept n v) (sym (ap (λ m. drop m decisions) all ∙ drop-length decisions)) ∙ a.list_is

-- the number of the decision before a kept one
pub edge-numbered : (decisions : List Decision) (actions : List ℕ) (kept : List Bool) (n : ℕ) (numbers more : List ℕ) (d : Decision) → AreLinked decisions actions → slice_get decisions n ≡ Some d → length numbers ≡ n → ((k : ℕ) → k < n → get_or numbers k 0 ≡ kept_below kept k) → (number : ℕ) → more ≡ numbers ++ number ∷ []
    → IfSome d.before (λ s. s.decision < length more) × IfSome d.before (λ s. get_or more s.decision 0 ≡ kept_below kept s.decision)
edge-numbered decisions actions kept n numbers more d linked at long are number push = go d.before (linked.come_from n d at)
  where
    go : (before : Option Edge) → ComesFrom decisions n before → IfSome before (λ s. s.decision < length more) × IfSome before (λ s. get_or more s.decision 0 ≡ kept_below kept s.decision)
    go None c = (tt, tt)
    go (Some edge) c = (omega (arith, c.0, ap length push, length_push numbers number, long), ap (λ v. get_or v edge.decision 0) push ∙ get_or_append_left numbers (number ∷ []) 0 edge.decision (omega (arith, c.0, long)) ∙ are edge.decision c.0)
