-- The edges of the walk, of its state.
use Rattle.std.proofs.Common.{ℕ, suc, ◌+◌, ◌-◌, ◌<◌, ◌≤◌, ◌≡◌, Bool, true, Some, None, List, [], ◌∷◌, ◌++◌, length, get_or, set, take, drop, reverse, refl, sym, ap, ap₂, ◌∙◌, subst, subst₂, arith, replicate}
use Rattle.std.specs.Prelude.{slice_get}
use Rattle.std.proofs.Math.ListN as lists
use Rattle.std.proofs.Math.Seq.{drop-length}
use Rattle.std.proofs.lemmas.List.{reverse-append, append-nil, length-replicate, take_all}
use Rattle.std.proofs.lemmas.Grind.{take_at_read}
use Rattle.std.proofs.lemmas.Option.{slice_get_within, slice_get-get_or, get_or_from_slice_get}
use Rattle.strategy_lists.specs.declared.decision.Decision.{Decision}
use Rattle.strategy_lists.specs.declared.walk.Walk.{Walk}
use Rattle.strategy_lists.specs.Reduced.{AreLinked}
use Rattle.strategy_lists.specs.Ends.{is_led_to, ends, later, FallBelow, IsAt, IsStart, IsSameGame, ComesTo, later_ends, ends_from}
use Rattle.strategy_lists.proofs.ReachedDecisionLemmas.{place-within}
use Rattle.strategy_lists.proofs.EndListLemmas.{ends-nil}
use Rattle.strategy_lists.proofs.StepLemmas.{pass-forward, branch-forward, later-further, later-last, place_of-at, later-nil}

-- numbers that fall below n fall below more
FallBelow-more : (n m : ℕ) (fixed : List ℕ) → FallBelow n fixed → n ≤ m → FallBelow m fixed
FallBelow-more n m [] f l = tt
FallBelow-more n m (j ∷ fixed) f l = (omega (arith, f.0), f.1)

-- the state after an edge, by its parts
IsAt-parts : (old new : Walk) (n m : ℕ) → IsAt old n → IsSameGame old new → length new.choices.items ≡ length old.choices.items → length new.reached.items ≡ length old.reached.items → m ≤ length old.decisions.now → FallBelow m (reverse new.fixed.items) → IsAt new m
IsAt-parts old new n m a s choices reached within fall =
    let decisions : new.decisions.now ≡ old.decisions.now = ap (λ b. b.now) s.decisions in
    let actions : new.actions.now ≡ old.actions.now = ap (λ b. b.now) s.actions in
    record {
      linked = subst₂ AreLinked (sym decisions) (sym actions) a.linked;
      choices = choices ∙ a.choices ∙ ap length (sym actions);
      reached = reached ∙ a.reached ∙ ap length (sym decisions);
      within = subst (λ v. m ≤ length v) (sym decisions) within;
      fixed = fall;
    }

-- a decision's place has a choice
pub choice-within : (walk : Walk) (n j : ℕ) (d : Decision) → IsAt walk n → slice_get walk.decisions.now j ≡ Some d → d.place < length walk.choices.items
choice-within walk n j d a at = omega (arith, place-within walk.decisions.now walk.actions.now j d a.linked at, a.choices)

-- the ends to come, by the parts of the state
ends_of : List Decision → List ℕ → List Bool → List ℕ → List ℕ → ℕ → List (List ℕ)
ends_of decisions actions reached fixed choices n = ends actions (drop n decisions) (take n reached) choices ++ later decisions actions reached fixed choices

-- those of a new state
ends_from-parts : (old new : Walk) (m : ℕ) (reached : List Bool) (fixed choices : List ℕ) → IsSameGame old new → new.reached.items ≡ reached → reverse new.fixed.items ≡ fixed → new.choices.items ≡ choices → ends_from new m ≡ ends_of old.decisions.now old.actions.now reached fixed choices m
unfolding ends_of
ends_from-parts old new m reached fixed choices s r f c =
    let decisions : new.decisions.now ≡ old.decisions.now = ap (λ b. b.now) s.decisions in
    let actions : new.actions.now ≡ old.actions.now = ap (λ b. b.now) s.actions in
    cc

-- the walk passes decision n
pub walk-passes : (old new : Walk) (n : ℕ) (d : Decision) (r : Bool) → IsAt old n → slice_get old.decisions.now n ≡ Some d → r ≡ is_led_to old.reached.items old.choices.items d.before → (r ≡ true → 0 < get_or old.choices.items d.place 0)
    → IsSameGame old new → new.reached.items ≡ set old.reached.items n r → new.choices.items ≡ old.choices.items → new.fixed.items ≡ old.fixed.items → ComesTo old n new (suc n)
unfolding ends_of
walk-passes old new n d r a at led passed s reached choices fixed =
    let within : n < length old.decisions.now = slice_get_within old.decisions.now n d at in
    record {
      same = s;
      comes_at = IsAt-parts old new n (suc n) a s (ap length choices) (ap length reached ∙ lists.length-set old.reached.items n r) (omega arith)
          (FallBelow-more n (suc n) (reverse new.fixed.items) (subst (λ v. FallBelow n (reverse v)) (sym fixed) a.fixed) (omega arith));
      ends = ends_from-parts old new (suc n) (set old.reached.items n r) (reverse old.fixed.items) old.choices.items s reached (ap reverse fixed) choices
          ∙ pass-forward old.decisions.now old.actions.now old.reached.items r n d (reverse old.fixed.items) old.choices.items (a.linked.come_from n d at) at (omega (arith, a.reached)) a.fixed led passed;
    }

-- the walk takes the first action at decision n
pub walk-branches : (old new : Walk) (n : ℕ) (d : Decision) → IsAt old n → slice_get old.decisions.now n ≡ Some d → is_led_to old.reached.items old.choices.items d.before ≡ true → get_or old.choices.items d.place 0 ≡ 0
    → IsSameGame old new → new.reached.items ≡ set old.reached.items n true → new.choices.items ≡ set old.choices.items d.place 1 → new.fixed.items ≡ old.fixed.items ++ n ∷ [] → ComesTo old n new (suc n)
unfolding ends_of
walk-branches old new n d a at led none s reached choices fixed =
    let within : n < length old.decisions.now = slice_get_within old.decisions.now n d at in
    let place : d.place < length old.actions.now = place-within old.decisions.now old.actions.now n d a.linked at in
    let backward : reverse new.fixed.items ≡ n ∷ reverse old.fixed.items = ap reverse fixed ∙ reverse-append old.fixed.items (n ∷ []) in
    record {
      same = s;
      comes_at = IsAt-parts old new n (suc n) a s (ap length choices ∙ lists.length-set old.choices.items d.place 1) (ap length reached ∙ lists.length-set old.reached.items n true) (omega arith)
          (subst (FallBelow (suc n)) (sym backward) (omega arith, a.fixed));
      ends = ends_from-parts old new (suc n) (set old.reached.items n true) (n ∷ reverse old.fixed.items) (set old.choices.items d.place 1) s reached backward choices
          ∙ branch-forward old.decisions.now old.actions.now old.reached.items n d (reverse old.fixed.items) old.choices.items (a.linked.come_from n d at) at (omega (arith, a.reached)) a.fixed (omega (arith, a.choices)) (a.linked.some_action d.place 0 place) led none;
    }

-- at the end of the decisions the choices are the next end
pub ends_from-end : (walk : Walk) → ends_from walk (length walk.decisions.now) ≡ walk.choices.items ∷ later_ends walk
ends_from-end walk =
    ap (λ v. ends walk.actions.now v (take (length walk.decisions.now) walk.reached.items) walk.choices.items ++ later_ends walk) (drop-length walk.decisions.now)
    ∙ ap (λ v. v ++ later_ends walk) (ends-nil walk.actions.now (take (length walk.decisions.now) walk.reached.items) walk.choices.items)

-- ---- an edge back
-- a list before its last number, and that number
last-split : (xs : List ℕ) (j : ℕ) → slice_get xs (length xs - 1) ≡ Some j → xs ≡ take (length xs - 1) xs ++ j ∷ []
last-split xs j e =
    let within : length xs - 1 < length xs = slice_get_within xs (length xs - 1) j e in
    sym (take_all (length xs - 1 + 1) xs (omega arith)) ∙ (take_at_read xs (length xs - 1) j within).1 ∙ ap (λ v. take (length xs - 1) xs ++ v ∷ []) (get_or_from_slice_get xs (length xs - 1) j j e)

-- a list with no last number
pub last-none : (xs : List ℕ) → slice_get xs (length xs - 1) ≡ None → xs ≡ []
last-none [] e = refl
last-none (x ∷ xs) e = let within : length (x ∷ xs) - 1 < length (x ∷ xs) = omega arith in let some = slice_get-get_or (x ∷ xs) (length (x ∷ xs) - 1) x within in absurd (cc)

-- with no set to take back no end is to come
pub later_ends-none : (walk : Walk) → walk.fixed.items ≡ [] → later_ends walk ≡ []
later_ends-none walk e = ap (λ v. later walk.decisions.now walk.actions.now walk.reached.items (reverse v) walk.choices.items) e ∙ later-nil walk.decisions.now walk.actions.now walk.reached.items walk.choices.items

-- the last decision that gave its set an action
pub last-within : (walk : Walk) (n j : ℕ) → IsAt walk n → slice_get walk.fixed.items (length walk.fixed.items - 1) ≡ Some j → j < length walk.decisions.now
last-within walk n j a last =
    let front = take (length walk.fixed.items - 1) walk.fixed.items in
    let fall : FallBelow n (j ∷ reverse front) = subst (FallBelow n) (ap reverse (last-split walk.fixed.items j last) ∙ reverse-append front (j ∷ [])) a.fixed in
    omega (arith, fall.0, a.within)

-- the last set takes its next action
walk-further : (old new : Walk) (n j : ℕ) (d : Decision) → IsAt old n → slice_get old.fixed.items (length old.fixed.items - 1) ≡ Some j → slice_get old.decisions.now j ≡ Some d → get_or old.choices.items d.place 0 < get_or old.actions.now d.place 0
    → IsSameGame old new → new.reached.items ≡ old.reached.items → new.choices.items ≡ set old.choices.items d.place (suc (get_or old.choices.items d.place 0)) → new.fixed.items ≡ old.fixed.items
    → IsAt new (suc j) × (ends_from new (suc j) ≡ later_ends old)
unfolding ends_of
walk-further old new n j d a last at more s reached choices fixed =
    let within : j < length old.decisions.now = slice_get_within old.decisions.now j d at in
    let place : d.place < length old.actions.now = place-within old.decisions.now old.actions.now j d a.linked at in
    let next = suc (get_or old.choices.items d.place 0) in
    let front = take (length old.fixed.items - 1) old.fixed.items in
    let backward : reverse old.fixed.items ≡ j ∷ reverse front = ap reverse (last-split old.fixed.items j last) ∙ reverse-append front (j ∷ []) in
    let fall : FallBelow n (j ∷ reverse front) = subst (FallBelow n) backward a.fixed in (
      IsAt-parts old new n (suc j) a s (ap length choices ∙ lists.length-set old.choices.items d.place next) (ap length reached) (omega arith)
          (subst (FallBelow (suc j)) (sym (ap reverse fixed ∙ backward)) (omega arith, fall.1)),
      ends_from-parts old new (suc j) old.reached.items (j ∷ reverse front) (set old.choices.items d.place next) s reached (ap reverse fixed ∙ backward) choices
          ∙ later-further old.decisions.now old.actions.now old.reached.items j (reverse front) old.choices.items d.place (place_of-at old.decisions.now j d at) (omega (arith, a.choices)) more
          ∙ ap (λ v. later old.decisions.now old.actions.now old.reached.items v old.choices.items) (sym backward),
    )

-- the same at the number after it, and with ends that an earlier state had
pub walk-further_next : (old new : Walk) (n j m : ℕ) (d : Decision) (before : List (List ℕ)) → IsAt old n → slice_get old.fixed.items (length old.fixed.items - 1) ≡ Some j → slice_get old.decisions.now j ≡ Some d → get_or old.choices.items d.place 0 < get_or old.actions.now d.place 0
    → IsSameGame old new → new.reached.items ≡ old.reached.items → new.choices.items ≡ set old.choices.items d.place (suc (get_or old.choices.items d.place 0)) → new.fixed.items ≡ old.fixed.items → m ≡ suc j → later_ends old ≡ before
    → IsAt new m × (ends_from new m ≡ before)
walk-further_next old new n j m d before a last at more s reached choices fixed next same =
    let edge = walk-further old new n j d a last at more s reached choices fixed in
    subst (λ v. IsAt new v × (ends_from new v ≡ before)) (sym next) (edge.0, edge.1 ∙ same)

-- the last set has no further action
pub walk-unfixes : (old new : Walk) (n j : ℕ) (d : Decision) → IsAt old n → slice_get old.fixed.items (length old.fixed.items - 1) ≡ Some j → slice_get old.decisions.now j ≡ Some d → get_or old.actions.now d.place 0 ≤ get_or old.choices.items d.place 0
    → IsSameGame old new → new.reached.items ≡ old.reached.items → new.choices.items ≡ set old.choices.items d.place 0 → new.fixed.items ≡ take (length old.fixed.items - 1) old.fixed.items
    → IsAt new n × (later_ends new ≡ later_ends old)
walk-unfixes old new n j d a last at most s reached choices fixed =
    let decisions : new.decisions.now ≡ old.decisions.now = ap (λ b. b.now) s.decisions in
    let actions : new.actions.now ≡ old.actions.now = ap (λ b. b.now) s.actions in
    let front = take (length old.fixed.items - 1) old.fixed.items in
    let backward : reverse old.fixed.items ≡ j ∷ reverse front = ap reverse (last-split old.fixed.items j last) ∙ reverse-append front (j ∷ []) in
    let fall : FallBelow n (j ∷ reverse front) = subst (FallBelow n) backward a.fixed in
    let edge = later-last old.decisions.now old.actions.now old.reached.items j (reverse front) old.choices.items d.place (place_of-at old.decisions.now j d at) most in
    let backward_new : reverse new.fixed.items ≡ reverse front = ap reverse fixed in (
      IsAt-parts old new n n a s (ap length choices ∙ lists.length-set old.choices.items d.place 0) (ap length reached) a.within
          (FallBelow-more j n (reverse new.fixed.items) (subst (λ v. FallBelow j (reverse v)) (sym fixed) fall.1) (omega (arith, fall.0))),
      cc,
    )

-- a walk before its first decision, by its parts
pub walk-starts : (decisions : List Decision) (actions : List ℕ) (walk : Walk) → AreLinked decisions actions → walk.decisions.now ≡ decisions → walk.actions.now ≡ actions → walk.choices.items ≡ replicate (length actions) 0 → length walk.reached.items ≡ length decisions → walk.fixed.items ≡ []
    → IsStart decisions actions walk
walk-starts decisions actions walk w d a choices reached fixed =
    let linked : AreLinked walk.decisions.now walk.actions.now = subst₂ AreLinked (sym d) (sym a) w in
    let none = later_ends-none walk fixed in
    record {
      decisions_are = d;
      actions_are = a;
      at_start = record {
        linked = linked;
        choices = ap length choices ∙ length-replicate (length actions) 0 ∙ ap length (sym a);
        reached = reached ∙ ap length (sym d);
        within = omega arith;
        fixed = subst (λ v. FallBelow 0 (reverse v)) (sym fixed) tt;
      };
      ends_are = ap (λ v. ends walk.actions.now walk.decisions.now [] walk.choices.items ++ v) none ∙ append-nil (ends walk.actions.now walk.decisions.now [] walk.choices.items)
          ∙ ap₂ (λ v w. ends v w [] walk.choices.items) a d ∙ ap (ends actions decisions []) choices;
    }
