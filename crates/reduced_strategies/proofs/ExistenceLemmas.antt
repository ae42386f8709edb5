-- Every player has a list of reduced strategies: of all choice lists, in order, those that are the reduced strategy of their completion.
use Rattle.std.proofs.Common.{ℕ, zero, suc, ◌<◌, ◌≤◌, ◌≡◌, ◌⊎◌, ◌+◌, ◌-◌, inl, inr, Bool, true, false, List, [], ◌∷◌, ◌++◌, length, map, All, Contains, refl, sym, ap, subst, arith}
use Rattle.std.specs.Prelude.{if◌then◌else◌}
use Rattle.std.specs.Str.{bytes_eq}
use Rattle.std.proofs.lemmas.Bool.{cases_eq}
use Rattle.std.proofs.lemmas.Slice.Eq.{bytes_eq-Decides}
use Rattle.game_theory.specs.OwnSets.{own_sets}
use Rattle.game_theory.proofs.OwnSetLemmas.{AscendFrom, own_sets-ascend}
use Rattle.lists.specs.Orders.{ComesBefore, AreAscending}
use Rattle.game_theory.specs.Trees.{Tree, IsTree}
use Rattle.reduced_strategies.specs.Choices.{choice_at, IsReduced}
use Rattle.reduced_strategies.specs.Laws.{StrategiesExist}
use Rattle.reduced_strategies.proofs.SetLemmas.{choice_at-first, choice_at-later, choice_at-below}
use Rattle.reduced_strategies.proofs.ReducedStrategyLemmas.{CompletesList, reduced, reduced-reduced, reduced-completed, reduced-unique}

-- ---- lists in order
-- z is one of the lists
abbrev IsIn : List (List ℕ) → List ℕ → Type 0
IsIn [] z = ⊥
IsIn (x ∷ xs) z = (x ≡ z) ⊎ IsIn xs z

-- each list comes before all later ones
abbrev AreOrdered : List (List ℕ) → Type 0
AreOrdered [] = Unit {0}
AreOrdered (x ∷ xs) = ((z : List ℕ) → IsIn xs z → ComesBefore x z) × AreOrdered xs

-- one of the lists stands at some place
contained : (xs : List (List ℕ)) (z : List ℕ) → IsIn xs z → Contains xs z
contained [] z h = absurd h
contained (x ∷ xs) z (inl e) = (0, omega arith, e)
contained (x ∷ xs) z (inr h) = let c = contained xs z h in (suc c.0, omega (arith, c.1), c.2)

-- what holds of each of the lists holds at each place
each_place : (P : List ℕ → Type 0) (xs : List (List ℕ)) → ((z : List ℕ) → IsIn xs z → P z) → All P xs
each_place P [] h k d l = absurd (omega arith)
each_place P (x ∷ xs) h zero d l = h x (inl refl)
each_place P (x ∷ xs) h (suc k) d l = each_place P xs (λ z m. h z (inr m)) k d (omega arith)

-- lists in order ascend
ordered-ascend : (xs : List (List ℕ)) → AreOrdered xs → AreAscending xs
ordered-ascend [] o = tt
ordered-ascend (x ∷ []) o = tt
ordered-ascend (x ∷ y ∷ xs) o = (o.0 y (inl refl), ordered-ascend (y ∷ xs) o.1)

-- one of two lists' members
in-append : (xs ys : List (List ℕ)) (z : List ℕ) → IsIn (xs ++ ys) z → IsIn xs z ⊎ IsIn ys z
in-append [] ys z h = inr h
in-append (x ∷ xs) ys z (inl e) = inl (inl e)
in-append (x ∷ xs) ys z (inr h) = elim (in-append xs ys z h) [ inl m ↦ inl (inr m) | inr m ↦ inr m ]

-- a member of the first or of the second is one of both
append-in : (xs ys : List (List ℕ)) (z : List ℕ) → IsIn xs z ⊎ IsIn ys z → IsIn (xs ++ ys) z
append-in [] ys z (inl h) = absurd h
append-in [] ys z (inr h) = h
append-in (x ∷ xs) ys z (inl (inl e)) = inl e
append-in (x ∷ xs) ys z (inl (inr h)) = inr (append-in xs ys z (inl h))
append-in (x ∷ xs) ys z (inr h) = inr (append-in xs ys z (inr h))

-- lists in order, of which the first all come before the second
append-ordered : (xs ys : List (List ℕ)) → AreOrdered xs → AreOrdered ys → ((x y : List ℕ) → IsIn xs x → IsIn ys y → ComesBefore x y) → AreOrdered (xs ++ ys)
append-ordered [] ys o p h = p
append-ordered (x ∷ xs) ys o p h =
    (λ z m. elim (in-append xs ys z m) [ inl l ↦ o.0 z l | inr l ↦ h x z (inl refl) l ], append-ordered xs ys o.1 p (λ y z m l. h y z (inr m) l))

-- ---- lists with a first choice
-- each of the lists with this choice before it
abbrev with_first : ℕ → List (List ℕ) → List (List ℕ)
with_first a xs = map (λ x. a ∷ x) xs

-- a member is a list with the choice before it
with_first-tells : (a : ℕ) (xs : List (List ℕ)) (z : List ℕ) → IsIn (with_first a xs) z → (y : List ℕ) × (z ≡ a ∷ y) × IsIn xs y
with_first-tells a [] z h = absurd h
with_first-tells a (x ∷ xs) z (inl e) = (x, sym e, inl refl)
with_first-tells a (x ∷ xs) z (inr h) = let t = with_first-tells a xs z h in (t.0, t.1, inr t.2)

-- each list with the choice before it is a member
with_first-has : (a : ℕ) (xs : List (List ℕ)) (y : List ℕ) → IsIn xs y → IsIn (with_first a xs) (a ∷ y)
with_first-has a [] y h = absurd h
with_first-has a (x ∷ xs) y (inl e) = inl (ap (λ v. a ∷ v) e)
with_first-has a (x ∷ xs) y (inr h) = inr (with_first-has a xs y h)

-- they stay in order
with_first-ordered : (a : ℕ) (xs : List (List ℕ)) → AreOrdered xs → AreOrdered (with_first a xs)
with_first-ordered a [] o = tt
with_first-ordered a (x ∷ xs) o =
    (λ z m. let t = with_first-tells a xs z m in subst (ComesBefore (a ∷ x)) (sym t.1) (inr (refl, o.0 t.0 t.2)), with_first-ordered a xs o.1)

-- the lists with n choices in turn before them, from a on
abbrev with_firsts : ℕ → ℕ → List (List ℕ) → List (List ℕ)
with_firsts a zero xs = []
with_firsts a (suc n) xs = with_first a xs ++ with_firsts (suc a) n xs

-- a member is a list with one of these choices before it
with_firsts-tells : (a n : ℕ) (xs : List (List ℕ)) (z : List ℕ) → IsIn (with_firsts a n xs) z → (b : ℕ) × (y : List ℕ) × (a ≤ b) × (b < a + n) × (z ≡ b ∷ y) × IsIn xs y
with_firsts-tells a zero xs z h = absurd h
with_firsts-tells a (suc n) xs z h = elim (in-append (with_first a xs) (with_firsts (suc a) n xs) z h) [
  | inl m ↦ (let t = with_first-tells a xs z m in (a, t.0, omega arith, omega arith, t.1, t.2))
  | inr m ↦ (let t = with_firsts-tells (suc a) n xs z m in (t.0, t.1, omega (arith, t.2), omega (arith, t.3), t.4, t.5))
]

-- each list with one of these choices before it is a member
with_firsts-has : (a n : ℕ) (xs : List (List ℕ)) (b : ℕ) (y : List ℕ) → a ≤ b → b < a + n → IsIn xs y → IsIn (with_firsts a n xs) (b ∷ y)
with_firsts-has a zero xs b y g l h = absurd (omega arith)
with_firsts-has a (suc n) xs b y g l h = append-in (with_first a xs) (with_firsts (suc a) n xs) (b ∷ y) (elim (cases_eq a b) [
  | inl e ↦ inl (subst (λ x. IsIn (with_first x xs) (b ∷ y)) (sym e) (with_first-has b xs y h))
  | inr e ↦ inr (with_firsts-has (suc a) n xs b y (omega arith) (omega arith) h)
])

-- they are in order
with_firsts-ordered : (a n : ℕ) (xs : List (List ℕ)) → AreOrdered xs → AreOrdered (with_firsts a n xs)
with_firsts-ordered a zero xs o = tt
with_firsts-ordered a (suc n) xs o = append-ordered (with_first a xs) (with_firsts (suc a) n xs) (with_first-ordered a xs o) (with_firsts-ordered (suc a) n xs o) (λ x y l m.
    let t = with_first-tells a xs x l in
    let u = with_firsts-tells (suc a) n xs y m in
    subst (λ v. ComesBefore v y) (sym t.1) (subst (ComesBefore (a ∷ t.0)) (sym u.4) (inl (omega (arith, u.2)))))

-- ---- all lists within bounds
-- a choice for each bound, which it does not pass
abbrev AreBounded : List ℕ → List ℕ → Type 0
AreBounded [] [] = Unit {0}
AreBounded (n ∷ ns) (c ∷ cs) = (c ≤ n) × AreBounded ns cs
AreBounded _ _ = ⊥

-- all lists within bounds
abbrev bounded_lists : List ℕ → List (List ℕ)
bounded_lists [] = [] ∷ []
bounded_lists (n ∷ ns) = with_firsts 0 (suc n) (bounded_lists ns)

-- they are in order
bounded_lists-ordered : (ns : List ℕ) → AreOrdered (bounded_lists ns)
bounded_lists-ordered [] = (λ z h. absurd h, tt)
bounded_lists-ordered (n ∷ ns) = with_firsts-ordered 0 (suc n) (bounded_lists ns) (bounded_lists-ordered ns)

-- each is within the bounds
bounded_lists-tells : (ns z : List ℕ) → IsIn (bounded_lists ns) z → AreBounded ns z
bounded_lists-tells [] z (inl e) = subst (AreBounded []) e tt
bounded_lists-tells [] z (inr h) = absurd h
bounded_lists-tells (n ∷ ns) z h =
    let t = with_firsts-tells 0 (suc n) (bounded_lists ns) z h in
    subst (AreBounded (n ∷ ns)) (sym t.4) (omega (arith, t.3), bounded_lists-tells ns t.1 t.5)

-- and each list within the bounds is one
bounded_lists-has : (ns z : List ℕ) → AreBounded ns z → IsIn (bounded_lists ns) z
bounded_lists-has [] [] h = inl refl
bounded_lists-has [] (c ∷ z) h = absurd h
bounded_lists-has (n ∷ ns) [] h = absurd h
bounded_lists-has (n ∷ ns) (c ∷ z) h = with_firsts-has 0 (suc n) (bounded_lists ns) c z (omega arith) (omega (arith, h.0)) (bounded_lists-has ns z h.1)

-- ---- the lists that pass a test
-- the lists that pass
abbrev passing : (List ℕ → Bool) → List (List ℕ) → List (List ℕ)
passing p [] = []
passing p (x ∷ xs) = if p x then x ∷ passing p xs else passing p xs

-- a member is one of the lists, and passes
passing-tells : (p : List ℕ → Bool) (xs : List (List ℕ)) (z : List ℕ) → IsIn (passing p xs) z → IsIn xs z × (p z ≡ true)
passing-tells p [] z h = absurd h
passing-tells p (x ∷ xs) z h = go (passing-tells p xs z) (p x) refl h
  where
    go : (IsIn (passing p xs) z → IsIn xs z × (p z ≡ true)) → (b : Bool) → p x ≡ b → IsIn (if b then x ∷ passing p xs else passing p xs) z → IsIn (x ∷ xs) z × (p z ≡ true)
    go later true e (inl same) = (inl same, subst (λ v. p v ≡ true) same e)
    go later true e (inr m) = let t = later m in (inr t.0, t.1)
    go later false e m = let t = later m in (inr t.0, t.1)

-- one of the lists that passes is a member
passing-has : (p : List ℕ → Bool) (xs : List (List ℕ)) (z : List ℕ) → IsIn xs z → p z ≡ true → IsIn (passing p xs) z
passing-has p [] z h g = absurd h
passing-has p (x ∷ xs) z h g = go (λ m. passing-has p xs z m g) (p x) refl h
  where
    go : (IsIn xs z → IsIn (passing p xs) z) → (b : Bool) → p x ≡ b → (x ≡ z) ⊎ IsIn xs z → IsIn (if b then x ∷ passing p xs else passing p xs) z
    go later true e (inl same) = inl same
    go later true e (inr m) = inr (later m)
    go later false e (inl same) = (let wrong : p z ≡ false = subst (λ v. p v ≡ false) same e in cc (wrong, g))
    go later false e (inr m) = later m

-- they stay in order
passing-ordered : (p : List ℕ → Bool) (xs : List (List ℕ)) → AreOrdered xs → AreOrdered (passing p xs)
passing-ordered p [] o = tt
passing-ordered p (x ∷ xs) o = go (passing-ordered p xs o.1) (p x)
  where
    go : AreOrdered (passing p xs) → (b : Bool) → AreOrdered (if b then x ∷ passing p xs else passing p xs)
    go later true = (λ z m. o.0 z (passing-tells p xs z m).0, later)
    go later false = later

-- ---- the reduced strategies
-- choices within the sets' actions give each set one of its actions or none
bounded-choices : (actions : ℕ → ℕ) (sets choices : List ℕ) → AreBounded (map actions sets) choices → (s : ℕ) → choice_at sets choices s ≤ actions s
bounded-choices actions [] choices h s = omega arith
bounded-choices actions (set ∷ sets) [] h s = absurd h
bounded-choices actions (set ∷ sets) (choice ∷ choices) h s = elim (cases_eq set s) [
  | inl e ↦ omega (arith, choice_at-first set choice s sets choices e, subst (λ x. choice ≤ actions x) e h.0)
  | inr e ↦ omega (arith, choice_at-later set choice s sets choices e, bounded-choices actions sets choices h.1 s)
]

-- choices that give each set one of its actions or none are within the sets' actions
choices-bounded : (actions : ℕ → ℕ) (n : ℕ) (sets choices : List ℕ) → AscendFrom n sets → length choices ≡ length sets → ((s : ℕ) → choice_at sets choices s ≤ actions s) → AreBounded (map actions sets) choices
choices-bounded actions n [] [] o d h = tt
choices-bounded actions n [] (c ∷ choices) o d h = absurd (omega arith)
choices-bounded actions n (set ∷ sets) [] o d h = absurd (omega arith)
choices-bounded actions n (set ∷ sets) (choice ∷ choices) o d h = (
  omega (arith, choice_at-first set choice set sets choices refl, h set),
  choices-bounded actions (suc set) sets choices o.1 (omega arith) (λ s. elim (cases_eq set s) [
    | inl e ↦ omega (arith, choice_at-below (suc set) sets choices s o.1 (omega arith))
    | inr e ↦ omega (arith, choice_at-later set choice s sets choices e, h s)
  ]),
)

-- the choices with the first action where there is none
abbrev completion : Tree → ℕ → List ℕ → ℕ → ℕ
completion t i choices s = choice_at (own_sets t i) choices s - 1

-- whether a list is the reduced strategy of its completion
abbrev is_reduced : Tree → ℕ → List ℕ → Bool
is_reduced t i choices = bytes_eq choices (reduced t i (completion t i choices))

-- the lists of choices that are
abbrev strategies : Tree → ℕ → List (List ℕ)
strategies t i = passing (is_reduced t i) (bounded_lists (map t.actions (own_sets t i)))

-- then it is a reduced strategy
is_reduced-tells : (t : Tree) (i : ℕ) (choices : List ℕ) → IsTree t → AreBounded (map t.actions (own_sets t i)) choices → is_reduced t i choices ≡ true → IsReduced t i choices
is_reduced-tells t i choices w b e =
    subst (IsReduced t i) (sym ((bytes_eq-Decides choices (reduced t i (completion t i choices))).0 e))
    (reduced-reduced t i (completion t i choices) w (λ s l o. omega (arith, bounded-choices t.actions (own_sets t i) choices b s, w.some_action s l)))

-- and a reduced strategy is
reduced-is_reduced : (t : Tree) (i : ℕ) (choices : List ℕ) → IsTree t → AreBounded (map t.actions (own_sets t i)) choices → IsReduced t i choices → is_reduced t i choices ≡ true
reduced-is_reduced t i choices w b r =
    let whole = reduced-reduced t i (completion t i choices) w (λ s l o. omega (arith, bounded-choices t.actions (own_sets t i) choices b s, w.some_action s l)) in
    let completes : CompletesList t i (completion t i choices) choices = λ s h. omega arith in
    (bytes_eq-Decides choices (reduced t i (completion t i choices))).1 (reduced-unique t i (completion t i choices) choices (reduced t i (completion t i choices)) w r whole completes (reduced-completed t i (completion t i choices)))

-- every player has a list of reduced strategies
pub strategies-exist : StrategiesExist
strategies-exist t i w = (
  strategies t i,
  record {
    ascending = ordered-ascend (strategies t i) (passing-ordered (is_reduced t i) _ (bounded_lists-ordered (map t.actions (own_sets t i))));
    sound = each_place (IsReduced t i) (strategies t i) (λ z m. let p = passing-tells (is_reduced t i) _ z m in is_reduced-tells t i z w (bounded_lists-tells (map t.actions (own_sets t i)) z p.0) p.1);
    complete = λ choices r.
        let b = choices-bounded t.actions 0 (own_sets t i) choices (own_sets-ascend t i) r.one_for_each r.are_actions in
        contained (strategies t i) choices (passing-has (is_reduced t i) _ choices (bounded_lists-has (map t.actions (own_sets t i)) choices b) (reduced-is_reduced t i choices w b r));
  },
)
