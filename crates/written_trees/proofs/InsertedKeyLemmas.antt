-- Lists of distinct keys, to which keys are added where they are new.
use Rattle.std.proofs.Common.{◌≡◌, suc, ◌+◌, Bool, true, false, not, cond, ◌||◌, inl, inr, List, [], ◌∷◌, ◌++◌, length, map, slice_get, slice_set, Some, None, Decides, true≢false, refl, sym, ap, ap₂, ◌∙◌, arith, one-add, le_of_eq}
use Rattle.std.specs.List.{position_or_len, list_any}
use Rattle.std.proofs.lemmas.Bool.{cases_Bool}
use Rattle.std.proofs.lemmas.List.Folds.{list_any-append, position_or_len_push}
use Rattle.std.proofs.lemmas.Option.{slice_get_past}
use Rattle.std.proofs.Math.Bool.{or-false}
use Rattle.indexmap.specs.IndexSet.{insert_key, insert_all}

-- `or` with a test that passes
pub or_true : (b : Bool) → (b || true) ≡ true
or_true true = refl
or_true false = refl

-- ---- the first place that passes a test
module _ {X : Type 0} (p : X → Bool) where
  -- it stays when the list grows
  pub position-append : (xs ys : List X) → list_any p xs ≡ true → position_or_len p (xs ++ ys) ≡ position_or_len p xs
  position-append [] ys h = absurd (true≢false (sym h))
  position-append (x ∷ xs) ys h = by (p x) h (position-append xs ys)
    where
      by : (b : Bool) → (b || list_any p xs) ≡ true → (list_any p xs ≡ true → position_or_len p (xs ++ ys) ≡ position_or_len p xs) → cond (not b) (1 + position_or_len p (xs ++ ys)) 0 ≡ cond (not b) (1 + position_or_len p xs) 0
      by true h rest = refl
      by false h rest = ap (λ n. 1 + n) (rest h)

  -- it is the length where there is none
  pub position-none : (xs : List X) → list_any p xs ≡ false → position_or_len p xs ≡ length xs
  position-none [] h = refl
  position-none (x ∷ xs) h = by (p x) h (position-none xs)
    where
      by : (b : Bool) → (b || list_any p xs) ≡ false → (list_any p xs ≡ false → position_or_len p xs ≡ length xs) → cond (not b) (1 + position_or_len p xs) 0 ≡ suc (length xs)
      by true h rest = absurd (true≢false h)
      by false h rest = one-add _ ∙ ap suc (rest h)

  -- it stays when the first element that passes is added
  pub position-added : (xs : List X) (x : X) → list_any p xs ≡ false → p x ≡ true → position_or_len p (xs ++ x ∷ []) ≡ position_or_len p xs
  position-added xs x none own =
      let e = position-none xs none in
      rw (position_or_len_push p xs x, own, e) (grind arith)

  -- it is the same in the list from which another is made
  pub position-map : {Y : Type 0} (f : Y → X) (ys : List Y) → position_or_len p (map f ys) ≡ position_or_len (λ y. p (f y)) ys
  position-map f [] = refl
  position-map f (y ∷ ys) = ap (λ n. cond (not (p (f y))) (1 + n) 0) (position-map f ys)

  -- nothing stands there where there is none
  pub slice_get-none : (xs : List X) → list_any p xs ≡ false → slice_get xs (position_or_len p xs) ≡ None
  slice_get-none xs h = slice_get_past xs (position_or_len p xs) (le_of_eq (sym (position-none xs h)))

-- ---- keys
-- no key stands in the list twice
abbrev pub AreDistinct : {K : Type 0} → (K → K → Bool) → List K → Type 0
AreDistinct eq [] = Unit {0}
AreDistinct eq (k ∷ ks) = (list_any (eq k) ks ≡ false) × AreDistinct eq ks

module _ {K : Type 0} (eq : K → K → Bool) (decides : (a b : K) → Decides (eq a b) (a ≡ b)) where
  -- a key is itself
  pub eq_self : (x : K) → eq x x ≡ true
  eq_self x = (decides x x).1 refl

  -- the test answers the same either way
  pub eq_comm : (x y : K) → eq x y ≡ eq y x
  eq_comm x y = elim (cases_Bool (eq x y)) [
    | inl e ↦ e ∙ sym ((decides y x).1 (sym ((decides x y).0 e)))
    | inr e ↦ elim (cases_Bool (eq y x)) [ inl f ↦ (decides x y).1 (sym ((decides y x).0 f)) ∙ sym f | inr f ↦ e ∙ sym f ]
  ]

  -- the key stands at its place
  pub slice_get-found : (ks : List K) (x : K) → list_any (eq x) ks ≡ true → slice_get ks (position_or_len (eq x) ks) ≡ Some x
  slice_get-found [] x h = absurd (true≢false (sym h))
  slice_get-found (k ∷ ks) x h = elim (cases_Bool (eq x k)) [
    | inl e ↦ rw e (ap Some (sym ((decides x k).0 e)))
    | inr e ↦ rw (e, one-add) (slice_get-found ks x (rw e at h))
  ]

  -- a key that is there is not added
  pub insert_key-known : (ks : List K) (x : K) → list_any (eq x) ks ≡ true → insert_key eq ks x ≡ ks
  insert_key-known ks x h = rw h refl

  -- a new key is added at the end
  pub insert_key-new : (ks : List K) (x : K) → list_any (eq x) ks ≡ false → insert_key eq ks x ≡ ks ++ x ∷ []
  insert_key-new ks x h = rw h refl

  -- which keys are there afterwards
  pub any_inserted : (ks : List K) (x k : K) → list_any (eq k) (insert_key eq ks x) ≡ (list_any (eq k) ks || eq k x)
  any_inserted ks x k = elim (cases_Bool (list_any (eq x) ks)) [
    | inl h ↦ elim (cases_Bool (eq k x)) [
      | inl e ↦ rw (insert_key-known ks x h, e, or_true) (ap (λ y. list_any (eq y) ks) ((decides k x).0 e) ∙ h)
      | inr e ↦ rw (insert_key-known ks x h, e, or-false) refl
    ]
    | inr h ↦ rw (insert_key-new ks x h, list_any-append (eq k) ks (x ∷ []), or-false) refl
  ]

  -- the places of the keys that were there stay
  pub position-kept : (ks : List K) (x k : K) → list_any (eq k) ks ≡ true → position_or_len (eq k) (insert_key eq ks x) ≡ position_or_len (eq k) ks
  position-kept ks x k there = elim (cases_Bool (list_any (eq x) ks)) [
    | inl h ↦ rw (insert_key-known ks x h) refl
    | inr h ↦ rw (insert_key-new ks x h) (position-append (eq k) ks (x ∷ []) there)
  ]

  -- the inserted key stands where it was looked for before
  pub position-inserted : (ks : List K) (x : K) → position_or_len (eq x) (insert_key eq ks x) ≡ position_or_len (eq x) ks
  position-inserted ks x = elim (cases_Bool (list_any (eq x) ks)) [
    | inl h ↦ position-kept ks x x h
    | inr h ↦ rw (insert_key-new ks x h) (position-added (eq x) ks x h (eq_self x))
  ]

  -- distinct keys stay so when a new one is added
  AreDistinct-push : (ks : List K) (x : K) → AreDistinct eq ks → list_any (eq x) ks ≡ false → AreDistinct eq (ks ++ x ∷ [])
  AreDistinct-push [] x d h = (refl, tt)
  AreDistinct-push (k ∷ ks) x d h = elim (cases_Bool (eq x k)) [
    | inl e ↦ absurd (true≢false (rw e at h))
    | inr e ↦ (rw (list_any-append (eq k) ks (x ∷ []), d.0, eq_comm k x, e) refl, AreDistinct-push ks x d.1 (rw e at h))
  ]

  -- and when a key is inserted
  pub AreDistinct-insert_key : (ks : List K) (x : K) → AreDistinct eq ks → AreDistinct eq (insert_key eq ks x)
  AreDistinct-insert_key ks x d = elim (cases_Bool (list_any (eq x) ks)) [
    | inl h ↦ rw (insert_key-known ks x h) d
    | inr h ↦ rw (insert_key-new ks x h) (AreDistinct-push ks x d h)
  ]

  -- and when several are
  pub AreDistinct-insert_all : (xs ks : List K) → AreDistinct eq ks → AreDistinct eq (insert_all eq ks xs)
  AreDistinct-insert_all [] ks d = d
  AreDistinct-insert_all (x ∷ xs) ks d = AreDistinct-insert_all xs (insert_key eq ks x) (AreDistinct-insert_key ks x d)

  -- what is made of keys other than x does not change
  pub map-others : {V : Type 0} (f g : K → V) (x : K) (ks : List K) → ((y : K) → eq x y ≡ false → g y ≡ f y) → list_any (eq x) ks ≡ false → map g ks ≡ map f ks
  map-others f g x [] same h = refl
  map-others f g x (k ∷ ks) same h = elim (cases_Bool (eq x k)) [
    | inl e ↦ absurd (true≢false (rw e at h))
    | inr e ↦ ap₂ (λ v vs. v ∷ vs) (same k e) (map-others f g x ks same (rw e at h))
  ]

  -- what is made of x changes at its place alone
  pub map-one : {V : Type 0} (f g : K → V) (x : K) (ks : List K) → AreDistinct eq ks → ((y : K) → eq x y ≡ false → g y ≡ f y) → map g ks ≡ slice_set (map f ks) (position_or_len (eq x) ks) (g x)
  map-one f g x [] d same = refl
  map-one f g x (k ∷ ks) d same = elim (cases_Bool (eq x k)) [
    | inl e ↦ rw e (ap₂ (λ v vs. v ∷ vs) (ap g (sym ((decides x k).0 e))) (map-others f g x ks same (rw (sym ((decides x k).0 e)) at d.0)))
    | inr e ↦ rw (e, one-add) (ap₂ (λ v vs. v ∷ vs) (same k e) (map-one f g x ks d.1 same))
  ]
