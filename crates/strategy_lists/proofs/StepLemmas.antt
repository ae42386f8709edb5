-- How the ends to come change with each edge of the walk.
use Rattle.std.proofs.Common.{ℕ, zero, suc, ◌-◌, ◌<◌, ◌≤◌, ◌≡◌, Bool, true, false, ◌&&◌, Option, Some, None, List, [], ◌∷◌, ◌++◌, length, get_or, set, take, drop, refl, sym, ap, ap₂, ◌∙◌, arith, add-one, append_assoc}
use Rattle.std.specs.Prelude.{◌==◌, slice_get}
use Rattle.std.specs.List.{flat_map, range_with_len}
use Rattle.std.proofs.Math.Path.{fun_ext}
use Rattle.std.proofs.Math.Seq.{drop-cons, take-suc-set}
use Rattle.std.proofs.lemmas.List.{get_or-set_same, set-get_or, take-set-le, get_or-take}
use Rattle.std.proofs.lemmas.Option.{slice_get_within, get_or_from_slice_get}
use Rattle.lists.proofs.ElementLemmas.{set-set}
use Rattle.strategy_lists.specs.declared.decision.Decision.{Decision}
use Rattle.strategy_lists.specs.declared.decision.Edge.{Edge}
use Rattle.strategy_lists.specs.Reduced.{ComesFrom}
use Rattle.strategy_lists.specs.Ends.{is_led_to, ends, place_of, ends_at, later, FallBelow}
use Rattle.strategy_lists.proofs.EndListLemmas.{ends_with, ends-branch, ends-pass}

-- ---- lists
-- the first of some branches
branches-first : (f : ℕ → List (List ℕ)) (a n m : ℕ) → n ≡ suc m → flat_map f (range_with_len a n) ≡ f a ++ flat_map f (range_with_len (suc a) m)
branches-first f a n m e = ap (λ k. flat_map f (range_with_len a k)) e ∙ ap (λ b. f a ++ flat_map f (range_with_len b m)) (add-one a)

-- ---- the ends to come after the present one
pub later-nil : (decisions : List Decision) (actions : List ℕ) (reach : List Bool) (choices : List ℕ) → later decisions actions reach [] choices ≡ []
unfolding later
later-nil decisions actions reach choices = refl

-- the further actions of the last set, and then those of the others
later-cons : (decisions : List Decision) (actions : List ℕ) (reach : List Bool) (j : ℕ) (fixed choices : List ℕ)
    → later decisions actions reach (j ∷ fixed) choices
    ≡ flat_map (ends_at decisions actions reach choices j) (range_with_len (suc (get_or choices (place_of decisions j) 0)) (get_or actions (place_of decisions j) 0 - get_or choices (place_of decisions j) 0)) ++ later decisions actions reach fixed (set choices (place_of decisions j) 0)
unfolding later
later-cons decisions actions reach j fixed choices = refl

-- a later entry changes none of them
later-entry : (decisions : List Decision) (actions : List ℕ) (reach : List Bool) (r : Bool) (n j : ℕ) (fixed choices : List ℕ) → FallBelow n fixed → n ≤ j → later decisions actions (set reach j r) fixed choices ≡ later decisions actions reach fixed choices
later-entry decisions actions reach r n j [] choices f l = later-nil decisions actions (set reach j r) choices ∙ sym (later-nil decisions actions reach choices)
later-entry decisions actions reach r n j (i ∷ fixed) choices f l =
    let p = place_of decisions i in
    let earlier : suc i ≤ j = omega (arith, f.0) in
    let each : (a : ℕ) → ends_at decisions actions (set reach j r) choices i a ≡ ends_at decisions actions reach choices i a = λ a. ap (λ v. ends actions (drop (suc i) decisions) v (set choices p a)) (take-set-le (suc i) reach j r earlier) in
    later-cons decisions actions (set reach j r) i fixed choices
    ∙ ap₂ (λ v w. v ++ w) (ap (λ f. flat_map f (range_with_len (suc (get_or choices p 0)) (get_or actions p 0 - get_or choices p 0))) (fun_ext each))
    (later-entry decisions actions reach r i j fixed (set choices p 0) f.1 (omega arith))
    ∙ sym (later-cons decisions actions reach i fixed choices)

-- those after action a of the last set
later-set : (decisions : List Decision) (actions : List ℕ) (reach : List Bool) (j : ℕ) (fixed choices : List ℕ) (p a : ℕ) → place_of decisions j ≡ p → p < length choices
    → later decisions actions reach (j ∷ fixed) (set choices p a) ≡ flat_map (ends_at decisions actions reach choices j) (range_with_len (suc a) (get_or actions p 0 - a)) ++ later decisions actions reach fixed (set choices p 0)
later-set decisions actions reach j fixed choices p a place l =
    let here : get_or (set choices p a) (place_of decisions j) 0 ≡ a = ap (λ v. get_or (set choices p a) v 0) place ∙ get_or-set_same choices p a 0 l in
    let each : (b : ℕ) → ends_at decisions actions reach (set choices p a) j b ≡ ends_at decisions actions reach choices j b =
    λ b. ap (λ v. ends actions (drop (suc j) decisions) (take (suc j) reach) (set (set choices p a) v b)) place ∙ ap (ends actions (drop (suc j) decisions) (take (suc j) reach)) (set-set choices p a b ∙ ap (λ v. set choices v b) (sym place)) in
    later-cons decisions actions reach j fixed (set choices p a)
    ∙ ap₂ (λ v w. flat_map (ends_at decisions actions reach (set choices p a) j) (range_with_len (suc v) (w - v)) ++ later decisions actions reach fixed (set (set choices p a) (place_of decisions j) 0)) here (ap (λ v. get_or actions v 0) place)
    ∙ ap₂ (λ v w. v ++ later decisions actions reach fixed w) (ap (λ f. flat_map f (range_with_len (suc a) (get_or actions p 0 - a))) (fun_ext each)) (ap (λ v. set (set choices p a) v 0) place ∙ set-set choices p a 0)

-- ---- an edge back
-- the last set has a further action
pub later-further : (decisions : List Decision) (actions : List ℕ) (reach : List Bool) (j : ℕ) (fixed choices : List ℕ) (p : ℕ) → place_of decisions j ≡ p → p < length choices → get_or choices p 0 < get_or actions p 0
    → ends actions (drop (suc j) decisions) (take (suc j) reach) (set choices p (suc (get_or choices p 0))) ++ later decisions actions reach (j ∷ fixed) (set choices p (suc (get_or choices p 0))) ≡ later decisions actions reach (j ∷ fixed) choices
later-further decisions actions reach j fixed choices p place l more =
    let c = get_or choices p 0 in
    let m = get_or actions p 0 in
    let rest = flat_map (ends_at decisions actions reach choices j) (range_with_len (suc (suc c)) (m - suc c)) in
    let others = later decisions actions reach fixed (set choices p 0) in
    let first = ends_at decisions actions reach choices j (suc c) in
    let again = set-get_or choices p 0 in
    ap₂ (λ v w. v ++ w) (ap (λ v. ends actions (drop (suc j) decisions) (take (suc j) reach) (set choices v (suc c))) (sym place)) (later-set decisions actions reach j fixed choices p (suc c) place l)
    ∙ sym (append_assoc first rest others)
    ∙ ap (λ v. v ++ others) (sym (branches-first (ends_at decisions actions reach choices j) (suc c) (m - c) (m - suc c) (omega arith)))
    ∙ sym (later-set decisions actions reach j fixed choices p c place l)
    ∙ ap (later decisions actions reach (j ∷ fixed)) again

-- it has none
pub later-last : (decisions : List Decision) (actions : List ℕ) (reach : List Bool) (j : ℕ) (fixed choices : List ℕ) (p : ℕ) → place_of decisions j ≡ p → get_or actions p 0 ≤ get_or choices p 0
    → later decisions actions reach fixed (set choices p 0) ≡ later decisions actions reach (j ∷ fixed) choices
later-last decisions actions reach j fixed choices p place most =
    let none : get_or actions p 0 - get_or choices p 0 ≡ 0 = omega arith in
    sym (later-cons decisions actions reach j fixed choices
    ∙ ap (λ v. flat_map (ends_at decisions actions reach choices j) (range_with_len (suc (get_or choices v 0)) (get_or actions v 0 - get_or choices v 0)) ++ later decisions actions reach fixed (set choices v 0)) place
    ∙ ap (λ v. flat_map (ends_at decisions actions reach choices j) (range_with_len (suc (get_or choices p 0)) v) ++ later decisions actions reach fixed (set choices p 0)) none)

-- ---- an edge forward
-- the first reached decisions are enough for an edge from an earlier decision
is_led_to-take : (decisions : List Decision) (reach : List Bool) (choices : List ℕ) (j : ℕ) (before : Option Edge) → ComesFrom decisions j before → is_led_to (take j reach) choices before ≡ is_led_to reach choices before
is_led_to-take decisions reach choices j None c = refl
is_led_to-take decisions reach choices j (Some edge) c = ap (λ b. b && (get_or choices edge.place 0 == suc edge.action)) (get_or-take j reach edge.decision false c.0)

-- the decisions that are left begin with the next
pub drop-first : (decisions : List Decision) (j : ℕ) (d : Decision) → slice_get decisions j ≡ Some d → drop j decisions ≡ d ∷ drop (suc j) decisions
drop-first decisions j d at = drop-cons decisions j d (slice_get_within decisions j d at) ∙ ap (λ v. v ∷ drop (suc j) decisions) (get_or_from_slice_get decisions j d d at)

-- the place of a decision
pub place_of-at : (decisions : List Decision) (j : ℕ) (d : Decision) → slice_get decisions j ≡ Some d → place_of decisions j ≡ d.place
place_of-at [] j d at = cc
place_of-at (e ∷ decisions) zero d at = let same : e ≡ d = cc in ap (λ (v : Decision). v.place) same
place_of-at (e ∷ decisions) (suc j) d at = place_of-at decisions j d at

-- the walk passes a decision
pub pass-forward : (decisions : List Decision) (actions : List ℕ) (reach : List Bool) (r : Bool) (j : ℕ) (d : Decision) (fixed choices : List ℕ) → ComesFrom decisions j d.before → slice_get decisions j ≡ Some d → j < length reach → FallBelow j fixed
    → r ≡ is_led_to reach choices d.before → (r ≡ true → 0 < get_or choices d.place 0)
    → ends actions (drop (suc j) decisions) (take (suc j) (set reach j r)) choices ++ later decisions actions (set reach j r) fixed choices ≡ ends actions (drop j decisions) (take j reach) choices ++ later decisions actions reach fixed choices
pass-forward decisions actions reach r j d fixed choices from at l fall led passed =
    let also : r ≡ is_led_to (take j reach) choices d.before = led ∙ sym (is_led_to-take decisions reach choices j d.before from) in
    let rest = drop (suc j) decisions in
    ap₂ (λ v w. v ++ w)
    (ap (λ v. ends actions rest v choices) (take-suc-set reach j r l ∙ ap (λ v. take j reach ++ v ∷ []) also)
    ∙ sym (ends-pass actions d rest (take j reach) choices (λ h. passed (also ∙ h)))
    ∙ ap (λ v. ends actions v (take j reach) choices) (sym (drop-first decisions j d at)))
    (later-entry decisions actions reach r j j fixed choices fall (omega arith))

-- the walk takes the first action at a decision
pub branch-forward : (decisions : List Decision) (actions : List ℕ) (reach : List Bool) (j : ℕ) (d : Decision) (fixed choices : List ℕ) → ComesFrom decisions j d.before → slice_get decisions j ≡ Some d → j < length reach → FallBelow j fixed → d.place < length choices
    → 0 < get_or actions d.place 0 → is_led_to reach choices d.before ≡ true → get_or choices d.place 0 ≡ 0
    → ends actions (drop (suc j) decisions) (take (suc j) (set reach j true)) (set choices d.place 1) ++ later decisions actions (set reach j true) (j ∷ fixed) (set choices d.place 1) ≡ ends actions (drop j decisions) (take j reach) choices ++ later decisions actions reach fixed choices
branch-forward decisions actions reach j d fixed choices from at l fall within some led none =
    let also : is_led_to (take j reach) choices d.before ≡ true = is_led_to-take decisions reach choices j d.before from ∙ led in
    let rest = drop (suc j) decisions in
    let place = place_of-at decisions j d at in
    let m = get_or actions d.place 0 in
    let new = set reach j true in
    let each = ends_with actions d rest (take j reach) choices in
    let front : take (suc j) new ≡ take j reach ++ true ∷ [] = take-suc-set reach j true l in
    let same : (b : ℕ) → ends_at decisions actions new choices j b ≡ each b = λ b. ap₂ (λ v w. ends actions rest v (set choices w b)) front place in
    let others : later decisions actions new fixed (set choices d.place 0) ≡ later decisions actions reach fixed choices =
    ap (later decisions actions new fixed) (ap (set choices d.place) (sym none) ∙ set-get_or choices d.place 0) ∙ later-entry decisions actions reach true j j fixed choices fall (omega arith) in
    ap₂ (λ v w. v ++ w)
    (ap (λ v. ends actions rest v (set choices d.place 1)) front)
    (later-set decisions actions new j fixed choices d.place 1 place within ∙ ap₂ (λ v w. v ++ w) (ap (λ f. flat_map f (range_with_len 2 (m - 1))) (fun_ext same)) others)
    ∙ sym (append_assoc (each 1) (flat_map each (range_with_len 2 (m - 1))) (later decisions actions reach fixed choices))
    ∙ ap (λ v. v ++ later decisions actions reach fixed choices)
    (sym (branches-first each 1 m (m - 1) (omega arith)) ∙ sym (ends-branch actions d rest (take j reach) choices (also, none)) ∙ ap (λ v. ends actions v (take j reach) choices) (sym (drop-first decisions j d at)))
