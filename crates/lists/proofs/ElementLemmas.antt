-- Lists and their elements.
use Rattle.std.proofs.Common.{◌≡◌, ℕ, zero, suc, ◌+◌, ◌<◌, ◌⊎◌, inl, inr, Bool, false, Some, List, [], ◌∷◌, ◌++◌, length, get_or, set, slice_get, replicate, refl, sym, ap, ◌∙◌, subst, append_assoc, add-zero, zero-add, arith, ap₂, ◌≤◌, map}
use Rattle.std.specs.Prelude.{All, Contains, filter}
use Rattle.std.specs.List.{range_with_len, flat_map, AllPairs, AllByRecursion}
use Rattle.std.proofs.lemmas.Bool.{cases_lt}
use Rattle.std.proofs.lemmas.Option.{same_Some, slice_get_within, get_or_from_slice_get}
use Rattle.std.proofs.lemmas.List.{append-nil, get_or-replicate, get_or_default, get_or_past, length-replicate, get_or-map}
use Rattle.std.proofs.lemmas.List.Elements.{All-nil, All-cons, All-head, All-tail, All-append}
use Rattle.std.proofs.lemmas.List.Kept.{AllPairs-cons}

-- the element at a place of a list
pub element : {A : Type 0} (xs : List A) (k : ℕ) → k < length xs → (x : A) × (slice_get xs k ≡ Some x)
element [] k below = absurd (omega arith)
element (x ∷ xs) zero below = (x, refl)
element (x ∷ xs) (suc k) below = element xs k (omega arith)

-- ---- members
-- the first element is a member
pub first_in : {X : Type 0} (x : X) (xs : List X) → Contains (x ∷ xs) x
first_in x xs = (0, omega arith, refl)

-- a member of the rest is a member
pub rest_in : {X : Type 0} (x v : X) (xs : List X) → Contains xs v → Contains (x ∷ xs) v
rest_in x v xs h = (suc h.0, omega (arith, h.1), h.2)

-- a member is the first element or one of the rest
pub in_cases : {X : Type 0} (x v : X) (xs : List X) → Contains (x ∷ xs) v → (x ≡ v) ⊎ (Contains xs v)
in_cases x v xs (zero, l, e) = inl e
in_cases x v xs (suc k, l, e) = inr (k, omega arith, e)

-- a value of a list's elements is that of an element, and the other way round
pub mapped : {X Y : Type 0} (f : X → Y) (x : X) (xs : List X) → Contains xs x → Contains (map f xs) (f x)
mapped f x [] h = absurd (omega (arith, h.1))
mapped f x (y ∷ ys) h = elim (in_cases y x ys h) [ inl e ↦ subst (λ y. Contains (f y ∷ map f ys) (f x)) (sym e) (first_in (f x) (map f ys)) | inr t ↦ rest_in (f y) (f x) (map f ys) (mapped f x ys t) ]

pub unmapped : {X Y : Type 0} (f : X → Y) (v : Y) (xs : List X) → Contains (map f xs) v → (x : X) × Contains xs x × (f x ≡ v)
unmapped f v [] h = absurd (omega (arith, h.1))
unmapped f v (y ∷ ys) h = elim (in_cases (f y) v (map f ys) h) [ inl e ↦ (y, first_in y ys, e) | inr t ↦ (let z = unmapped f v ys t in (z.0, rest_in y z.0 ys z.1, z.2)) ]

-- where a number stands in a list
pub index_of : (xs : List ℕ) (x : ℕ) → Contains xs x → (i : ℕ) × (i < length xs) × (get_or xs i 0 ≡ x)
index_of xs x found = (found.0, found.1, get_or_default xs found.0 0 x found.1 ∙ found.2)

-- the element that was put at the end
pub slice_get-end : {A : Type 0} (xs : List A) (x : A) → slice_get (xs ++ x ∷ []) (length xs) ≡ Some x
slice_get-end [] x = refl
slice_get-end (z ∷ xs) x = slice_get-end xs x

-- an element stays where others follow
pub slice_get-longer : {A : Type 0} (xs ys : List A) (k : ℕ) (x : A) → slice_get xs k ≡ Some x → slice_get (xs ++ ys) k ≡ Some x
slice_get-longer [] ys k x e = cc
slice_get-longer (z ∷ xs) ys zero x e = e
slice_get-longer (z ∷ xs) ys (suc k) x e = slice_get-longer xs ys k x e

-- an element stood there before, or is the one at the end
pub slice_get-push_cases : {A : Type 0} (xs : List A) (y : A) (k : ℕ) (x : A) → slice_get (xs ++ y ∷ []) k ≡ Some x → (slice_get xs k ≡ Some x) ⊎ ((k ≡ length xs) × (x ≡ y))
slice_get-push_cases [] y zero x e = inr (refl, sym (same_Some _ _ e))
slice_get-push_cases [] y (suc k) x e = cc
slice_get-push_cases (z ∷ xs) y zero x e = inl e
slice_get-push_cases (z ∷ xs) y (suc k) x e = elim (slice_get-push_cases xs y k x e) [
  | inl h ↦ inl h
  | inr h ↦ inr (ap suc h.0, h.1)
]

-- a list of two
pub two-elements : (xs : List ℕ) → length xs ≡ 2 → xs ≡ get_or xs 0 0 ∷ get_or xs 1 0 ∷ []
two-elements [] h = absurd (omega (arith, h))
two-elements (a ∷ []) h = absurd (omega (arith, h))
two-elements (a ∷ b ∷ []) h = refl
two-elements (a ∷ b ∷ c ∷ xs) h = absurd (omega (arith, h))

-- each element of copies of one value is the value, and so is what stands past the end
pub get_or-copies : {A : Type 0} (n k : ℕ) (x : A) → get_or (replicate n x) k x ≡ x
get_or-copies n k x = elim (cases_lt k n) [
  | inl below ↦ get_or-replicate n k x x below
  | inr past ↦ get_or_past (replicate n x) k x (omega (arith, length-replicate n x))
]

-- a part of the element at a place
pub part-read : {V W : Type 0} (f : V → W) (xs : List V) (k : ℕ) (x : V) (d : W) → k < length xs → x ≡ get_or xs k x → f x ≡ get_or (map f xs) k d
part-read f xs k x d inside is = ap f is ∙ sym (get_or-map f xs k x d inside)

-- of two numbers set at one place the later stays
pub set-set : (xs : List ℕ) (i a b : ℕ) → set (set xs i a) i b ≡ set xs i b
set-set [] i a b = refl
set-set (x ∷ xs) zero a b = refl
set-set (x ∷ xs) (suc i) a b = ap (λ v. x ∷ v) (set-set xs i a b)

-- what holds of each element holds of the element at a place
pub all_at : {X : Type 0} (P : X → Type 0) (xs : List X) (k : ℕ) (x : X) → All P xs → slice_get xs k ≡ Some x → P x
all_at P xs k x all h = subst P (get_or_from_slice_get xs k x x h) (all k x (slice_get_within xs k x h))

-- ---- parts of lists of which all have something
pub All-left : {X : Type 0} (P : X → Type 0) (xs ys : List X) → All P (xs ++ ys) → All P xs
All-left P [] ys h = All-nil P
All-left P (x ∷ xs) ys h = All-cons P x xs (All-head P x (xs ++ ys) h) (All-left P xs ys (All-tail P x (xs ++ ys) h))

pub All-right : {X : Type 0} (P : X → Type 0) (xs ys : List X) → All P (xs ++ ys) → All P ys
All-right P [] ys h = h
All-right P (x ∷ xs) ys h = All-right P xs ys (All-tail P x (xs ++ ys) h)

pub All-parts : {X : Type 0} (P : X → Type 0) (xs ys : List X) → AllByRecursion P (xs ++ ys) → AllByRecursion P xs × AllByRecursion P ys
All-parts P [] ys h = (tt, h)
All-parts P (x ∷ xs) ys h = let more = All-parts P xs ys h.1 in ((h.0, more.0), more.1)

-- two lists in an order, one after the other
pub AllPairs-append : {X : Type 0} (R : X → X → Type 0) (xs ys : List X) → AllPairs R xs → AllPairs R ys → All (λ x. All (R x) ys) xs → AllPairs R (xs ++ ys)
AllPairs-append R [] ys h g across = g
AllPairs-append R (x ∷ xs) ys h g across =
    AllPairs-cons R x (xs ++ ys) (All-append (R x) xs ys (λ k d l. h 0 (suc k) d (omega arith) (omega arith)) (across 0 x (omega arith)))
    (AllPairs-append R xs ys (λ i j d l m. h (suc i) (suc j) d (omega arith) (omega arith)) g (λ k d l. across (suc k) d (omega arith)))

-- ---- numbers one after another
-- numbers end with the last one
pub range_more : (a n : ℕ) → range_with_len a (suc n) ≡ range_with_len a n ++ (a + n) ∷ []
range_more a zero = ap (λ x. x ∷ []) (sym (add-zero a))
range_more a (suc n) = ap (λ xs. a ∷ xs) (range_more (a + 1) n ∙ ap (λ x. range_with_len (a + 1) n ++ x ∷ []) (omega arith))

pub range-last : (n : ℕ) → range_with_len 0 (suc n) ≡ range_with_len 0 n ++ n ∷ []
range-last n = range_more 0 n ∙ ap (λ x. range_with_len 0 n ++ x ∷ []) (omega arith)

-- tests that agree on them pick the same ones
pub filter-same : (p q : ℕ → Bool) (m n : ℕ) → ((k : ℕ) → k < m + n → p k ≡ q k) → filter p (range_with_len m n) ≡ filter q (range_with_len m n)
filter-same p q m zero same = refl
filter-same p q m (suc n) same = rw (same m (omega arith), filter-same p q (m + 1) n (λ k below. same k (omega arith))) refl

-- a test that fails at each of them picks none
pub filter-none : (p : ℕ → Bool) (m n : ℕ) → ((k : ℕ) → k < m + n → p k ≡ false) → filter p (range_with_len m n) ≡ []
filter-none p m zero fails = refl
filter-none p m (suc n) fails = rw (fails m (omega arith), filter-none p (m + 1) n (λ k below. fails k (omega arith))) refl

-- what is made of the first n numbers from a on, and of the next
pub made-more : {X : Type 0} (f : ℕ → List X) (a n : ℕ) → flat_map f (range_with_len a (suc n)) ≡ flat_map f (range_with_len a n) ++ f (a + n)
made-more f a zero = append-nil (f a) ∙ ap f (sym (add-zero a))
made-more f a (suc n) =
    ap (λ v. f a ++ v) (made-more f (a + 1) n ∙ ap (λ k. flat_map f (range_with_len (a + 1) n) ++ f k) (let e : a + 1 + n ≡ a + suc n = omega arith in e))
    ∙ sym (append_assoc (f a) (flat_map f (range_with_len (a + 1) n)) (f (a + suc n)))

pub made-next : {X : Type 0} (f : ℕ → List X) (n : ℕ) → flat_map f (range_with_len 0 (suc n)) ≡ flat_map f (range_with_len 0 n) ++ f n
made-next f n = made-more f 0 n ∙ ap (λ k. flat_map f (range_with_len 0 n) ++ f k) (zero-add n)

-- ---- lists in an order
-- the rest of such a list
pub AllPairs-rest : {X : Type 0} (R : X → X → Type 0) (x : X) (xs : List X) → AllPairs R (x ∷ xs) → AllPairs R xs
AllPairs-rest R x xs h i j d l k = h (suc i) (suc j) d (omega arith) (omega arith)

-- the first element comes before each member of the rest
pub AllPairs-member : {X : Type 0} (R : X → X → Type 0) (x : X) (xs : List X) (z : X) → AllPairs R (x ∷ xs) → Contains xs z → R x z
AllPairs-member R x xs z h c = subst (R x) c.2 (h 0 (suc c.0) z (omega arith) (omega (arith, c.1)))

-- a list whose elements are in an order is determined by its members
pub determined_by-members : {X : Type 0} (R : X → X → Type 0) (xs ys : List X) → ((x y : X) → R x y → R y x → ⊥) → AllPairs R xs → AllPairs R ys → ((z : X) → Contains xs z → Contains ys z) → ((z : X) → Contains ys z → Contains xs z) → xs ≡ ys
determined_by-members R [] [] not_both o p f g = refl
determined_by-members R [] (y ∷ ys) not_both o p f g = let c = g y (first_in y ys) in absurd (omega (arith, c.1))
determined_by-members R (x ∷ xs) [] not_both o p f g = let c = f x (first_in x xs) in absurd (omega (arith, c.1))
determined_by-members {X = X} R (x ∷ xs) (y ∷ ys) not_both o p f g =
    ap₂ (λ v w. v ∷ w) same (determined_by-members R xs ys not_both (AllPairs-rest R x xs o) (AllPairs-rest R y ys p) (λ z c. elim (in_cases y z ys (f z (rest_in x z xs c))) [ inl e ↦ absurd (fresh z c (same ∙ e)) | inr later ↦ later ]) (λ z c. elim (in_cases x z xs (g z (rest_in y z ys c))) [ inl e ↦ absurd (fresh_too z c (sym same ∙ e)) | inr later ↦ later ]))
  where
    same : x ≡ y
    same = elim (in_cases y x ys (f x (first_in x xs))) [
      | inl e ↦ sym e
      | inr c ↦ elim (in_cases x y xs (g y (first_in y ys))) [ inl e ↦ e | inr d ↦ absurd (not_both x y (AllPairs-member R x xs y o d) (AllPairs-member R y ys x p c)) ]
    ]

    -- the first element is none of the rest
    fresh : (z : X) → Contains xs z → x ≡ z → ⊥
    fresh z c e = let here = subst (R x) (sym e) (AllPairs-member R x xs z o c) in not_both x x here here

    fresh_too : (z : X) → Contains ys z → y ≡ z → ⊥
    fresh_too z c e = let here = subst (R y) (sym e) (AllPairs-member R y ys z p c) in not_both y y here here

-- what is made of numbers that give the same
pub made-same : {X : Type 0} (f h : ℕ → List X) (a n : ℕ) → ((k : ℕ) → a ≤ k → k < a + n → f k ≡ h k) → flat_map f (range_with_len a n) ≡ flat_map h (range_with_len a n)
made-same f h a zero same = refl
made-same f h a (suc n) same = ap₂ (λ x y. x ++ y) (same a (omega arith) (omega arith)) (made-same f h (a + 1) n (λ k l b. same k (omega (arith, l)) (omega (arith, b))))
