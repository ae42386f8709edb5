-- Each step keeps the rule of the claim word.
use Rattle.std.proofs.Common.{◌≡◌, ◌<◌, ◌≤◌, ◌+◌, ◌-◌, ◌%◌, ◌^◌, ◌∙◌, ℕ, zero, suc, List, [], ◌∷◌, ◌++◌, length, arith, refl, slice_index, slice_set, sym, ap, length-set, length-append}
use mathlib.Core.Option.{some}
use lib.ListN.{get_elem?}
use Rattle.std.specs.List.{sum_by}
use Rattle.std.proofs.lemmas.List.Sums.{sum_by-cons, sum_by_push}
use Rattle.claims.specs.declared.claim_word.Holding.{Holding}
use Rattle.claims.proofs.OccurrenceLemmas.{times-append, next_once}
use Rattle.claims.specs.ClaimWord.{holding, times, one_below, claim_count, KeepsClaims, KnowsWhole, SpentIsEmpty}

sum_set : (f : Holding → ℕ) (hs : List Holding) (seat : ℕ) (h w : Holding) → get_elem? hs seat ≡ some h → sum_by f (slice_set hs seat w) + f h ≡ sum_by f hs + f w
sum_set f [] seat h w at = absurd cc
sum_set f (x ∷ xs) zero h w at =
    let e : x ≡ h = cc in
    let fe = ap f e in
    let a = sum_by-cons f x xs in
    let b = sum_by-cons f w xs in omega (arith, fe, a, b)
sum_set f (x ∷ xs) (suc n) h w at =
    let i = sum_set f xs n h w at in
    let a = sum_by-cons f x xs in
    let b = sum_by-cons f x (slice_set xs n w) in omega (arith, i, a, b)

-- a set view is the new one, or an old one
spent_set : (hs : List Holding) (seat : ℕ) (w : Holding) → (w.parts ≡ 0 → w.claimed ≡ []) → SpentIsEmpty hs → SpentIsEmpty (slice_set hs seat w)
spent_set [] seat w new old k u at = old k u at
spent_set (x ∷ xs) zero w new old zero u at = let h : w ≡ u = cc in rw (← h) new
spent_set (x ∷ xs) zero w new old (suc k) u at = old (suc k) u at
spent_set (x ∷ xs) (suc n) w new old zero u at = old zero u at
spent_set (x ∷ xs) (suc n) w new old (suc k) u at = spent_set xs n w new (λ j t e. old (suc j) t e) k u at

spent_push : (hs : List Holding) (w : Holding) → (w.parts ≡ 0 → w.claimed ≡ []) → SpentIsEmpty hs → SpentIsEmpty (hs ++ w ∷ [])
spent_push [] w new old zero u at = let h : w ≡ u = cc in rw (← h) new
spent_push [] w new old (suc k) u at = absurd cc
spent_push (x ∷ xs) w new old zero u at = old zero u at
spent_push (x ∷ xs) w new old (suc k) u at = spent_push xs w new (λ j t e. old (suc j) t e) k u at

at_le : (f : Holding → ℕ) (hs : List Holding) (seat : ℕ) (h : Holding) → get_elem? hs seat ≡ some h → f h ≤ sum_by f hs
at_le f [] seat h at = absurd cc
at_le f (x ∷ xs) zero h at = let e : x ≡ h = cc in let fe = ap f e in let a = sum_by-cons f x xs in omega (arith, fe, a)
at_le f (x ∷ xs) (suc n) h at = let i = at_le f xs n h at in let a = sum_by-cons f x xs in omega (arith, i, a)

-- of a sum that is 0 at each empty list, holders without parts have nothing
none_left : (f : Holding → ℕ) (hs : List Holding) → ((u : Holding) → u.claimed ≡ [] → f u ≡ 0) → SpentIsEmpty hs → sum_by (λ u. u.parts) hs ≡ 0 → sum_by f hs ≡ 0
none_left f [] none spent z = refl
none_left f (x ∷ xs) none spent z =
    let p = sum_by-cons (λ (u : Holding). u.parts) x xs in
    let a : x.parts ≡ 0 = omega (arith, z, p) in
    let c = none x (spent 0 x refl a) in
    let d = none_left f xs none (λ j t e. spent (suc j) t e) (omega (arith, z, p)) in
    let s = sum_by-cons f x xs in omega (arith, c, d, s)

-- and who has all parts has all of it
whole_has : (f : Holding → ℕ) (hs : List Holding) (seat : ℕ) (h : Holding) → ((u : Holding) → u.claimed ≡ [] → f u ≡ 0) → SpentIsEmpty hs
    → get_elem? hs seat ≡ some h → sum_by (λ u. u.parts) hs ≡ h.parts → sum_by f hs ≡ f h
whole_has f [] seat h none spent at all = absurd cc
whole_has f (x ∷ xs) zero h none spent at all =
    let e : x ≡ h = cc in
    let pe = ap (λ (u : Holding). u.parts) e in
    let p = sum_by-cons (λ (u : Holding). u.parts) x xs in
    let fe = ap f e in
    let s = sum_by-cons f x xs in
    let r = none_left f xs none (λ j t i. spent (suc j) t i) (omega (arith, all, p, pe)) in omega (arith, fe, r, s)
whole_has f (x ∷ xs) (suc n) h none spent at all =
    let le = at_le (λ u. u.parts) xs n h at in
    let p = sum_by-cons (λ (u : Holding). u.parts) x xs in
    let a : x.parts ≡ 0 = omega (arith, all, le, p) in
    let c = none x (spent 0 x refl a) in
    let d = whole_has f xs n h none (λ j t e. spent (suc j) t e) at (omega (arith, all, le, p)) in
    let s = sum_by-cons f x xs in omega (arith, c, d, s)

pub at_set : (hs : List Holding) (seat : ℕ) (h w : Holding) → get_elem? hs seat ≡ some h → get_elem? (slice_set hs seat w) seat ≡ some w
at_set [] seat h w at = absurd cc
at_set (x ∷ xs) zero h w at = refl
at_set (x ∷ xs) (suc n) h w at = at_set xs n h w at

-- no pass has more than all parts
pub at_most_all : (words : List ℕ) (hs : List Holding) (seat : ℕ) (h : Holding) → KeepsClaims words hs → get_elem? hs seat ≡ some h → h.parts ≤ 64
at_most_all words hs seat h k at = let l = at_le (λ u. u.parts) hs seat h at in omega (arith, l, k.parts)

-- the pass with all parts knows that each number below the count was claimed once
pub learns : (words : List ℕ) (hs : List Holding) (seat : ℕ) (h : Holding) → KeepsClaims words hs → get_elem? hs seat ≡ some h → KnowsWhole h.parts h.claimed
learns words hs seat h k at all few x =
    let whole = k.parts ∙ sym all in
    let long : claim_count hs ≡ length h.claimed = whole_has (λ u. length u.claimed) hs seat h (λ u e. rw e refl) k.spent at whole in
    let often : sum_by (λ u. times x u.claimed) hs ≡ times x h.claimed = whole_has (λ u. times x u.claimed) hs seat h (λ u e. rw e refl) k.spent at whole in
    sym often ∙ k.each_once (rw long few) x ∙ ap (λ n. one_below n x) long

put_word : (words : List ℕ) (x : ℕ) → length words ≡ 1 → slice_index (slice_set words 0 x) 0 ≡ x
put_word [] x e = absurd (omega (arith, e))
put_word (y ∷ ys) x e = refl

pub claim_keeps : (words : List ℕ) (hs : List Holding) (seat n : ℕ) (h : Holding) → n ≡ slice_index words 0 → KeepsClaims words hs → get_elem? hs seat ≡ some h → 0 < h.parts
    → KeepsClaims (slice_set words 0 ((n + 1) % 2 ^ 64)) (slice_set hs seat (holding h.parts (h.claimed ++ n ∷ [])))
claim_keeps words hs seat n h is k at some_part =
    let w = holding h.parts (h.claimed ++ n ∷ []) in
    let longer : claim_count (slice_set hs seat w) ≡ claim_count hs + 1
    = let t = sum_set (λ u. length u.claimed) hs seat h w at in omega (arith, t, length-append h.claimed (n ∷ [])) in
    record {
      one_word = length-set words 0 ((n + 1) % 2 ^ 64) ∙ k.one_word;
      parts = let t = sum_set (λ u. u.parts) hs seat h w at in omega (arith, t, k.parts);
      spent = spent_set hs seat w (λ z. absurd (omega (arith, z, some_part))) k.spent;
      word = put_word words ((n + 1) % 2 ^ 64) k.one_word ∙ omega (arith, is, k.word, longer);
      each_once = λ few x.
          let t = sum_set (λ u. times x u.claimed) hs seat h w at in
          let a = times-append x h.claimed (n ∷ []) in
          let o = k.each_once (omega (arith, longer, few)) x in
          let m : n ≡ claim_count hs = omega (arith, is, k.word, longer, few) in
          let s : one_below (claim_count hs) x + times x (n ∷ []) ≡ one_below (claim_count hs + 1) x = rw m (next_once x (claim_count hs)) in
          rw longer (omega (arith, t, a, o, s));
    }

pub split_keeps : (words : List ℕ) (hs : List Holding) (seat parts : ℕ) (h : Holding) → KeepsClaims words hs → get_elem? hs seat ≡ some h → 0 < parts → parts < h.parts
    → KeepsClaims words (slice_set hs seat (holding (h.parts - parts) h.claimed) ++ holding parts [] ∷ [])
split_keeps words hs seat parts h k at given less =
    let w = holding (h.parts - parts) h.claimed in
    let new = slice_set hs seat w in
    let same : claim_count (new ++ holding parts [] ∷ []) ≡ claim_count hs
    = let t = sum_set (λ u. length u.claimed) hs seat h w at in let p = sum_by_push (λ u. length u.claimed) new (holding parts []) in omega (arith, t, p) in
    record {
      one_word = k.one_word;
      parts = let t = sum_set (λ u. u.parts) hs seat h w at in let p = sum_by_push (λ u. u.parts) new (holding parts []) in omega (arith, t, p, k.parts, less);
      spent = spent_push new (holding parts []) (λ z. absurd (omega (arith, z, given))) (spent_set hs seat w (λ z. absurd (omega (arith, z, less))) k.spent);
      word = rw same k.word;
      each_once = λ few x.
          let t = sum_set (λ u. times x u.claimed) hs seat h w at in
          let p = sum_by_push (λ u. times x u.claimed) new (holding parts []) in
          let o = k.each_once (rw (← same) few) x in
          rw same (omega (arith, t, p, o));
    }

pub join_keeps : (words : List ℕ) (hs : List Holding) (seat other : ℕ) (h u : Holding) → KeepsClaims words hs → get_elem? hs seat ≡ some h → 0 < h.parts
    → get_elem? (slice_set hs seat (holding (h.parts + u.parts) (h.claimed ++ u.claimed))) other ≡ some u
    → KeepsClaims words (slice_set (slice_set hs seat (holding (h.parts + u.parts) (h.claimed ++ u.claimed))) other (holding 0 []))
join_keeps words hs seat other h u k at given at_other =
    let w = holding (h.parts + u.parts) (h.claimed ++ u.claimed) in
    let new = slice_set hs seat w in
    let same : claim_count (slice_set new other (holding 0 [])) ≡ claim_count hs
    = let t = sum_set (λ z. length z.claimed) hs seat h w at in let p = sum_set (λ z. length z.claimed) new other u (holding 0 []) at_other in
    omega (arith, t, p, length-append h.claimed u.claimed) in
    record {
      one_word = k.one_word;
      parts = let t = sum_set (λ z. z.parts) hs seat h w at in let p = sum_set (λ z. z.parts) new other u (holding 0 []) at_other in omega (arith, t, p, k.parts);
      spent = spent_set new other (holding 0 []) (λ z. refl) (spent_set hs seat w (λ z. absurd (omega (arith, z, given))) k.spent);
      word = rw same k.word;
      each_once = λ few x.
          let t = sum_set (λ z. times x z.claimed) hs seat h w at in
          let p = sum_set (λ z. times x z.claimed) new other u (holding 0 []) at_other in
          let a = times-append x h.claimed u.claimed in
          let o = k.each_once (rw (← same) few) x in
          rw same (omega (arith, t, p, a, o));
    }

same_view : (hs : List Holding) (seat : ℕ) (h : Holding) → get_elem? hs seat ≡ some h → slice_set hs seat h ≡ hs
same_view [] seat h at = refl
same_view (x ∷ xs) zero h at = let e : x ≡ h = cc in rw e refl
same_view (x ∷ xs) (suc n) h at = ap (λ l. x ∷ l) (same_view xs n h at)

same_word : (words : List ℕ) → length words ≡ 1 → slice_set words 0 (slice_index words 0) ≡ words
same_word [] e = refl
same_word (y ∷ ys) e = refl

pub look_keeps : (words : List ℕ) (hs : List Holding) (seat : ℕ) (h : Holding) → KeepsClaims words hs → get_elem? hs seat ≡ some h
    → KeepsClaims (slice_set words 0 (slice_index words 0)) (slice_set hs seat h)
look_keeps words hs seat h k at = rw (same_word words k.one_word, same_view hs seat h at) k
