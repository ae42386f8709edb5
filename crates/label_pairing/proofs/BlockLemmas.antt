-- Places that are compared at once, and one part after another
use Rattle.std.proofs.Common.{ℕ, ◌+◌, ◌-◌, ◌<◌, ◌≤◌, ◌^◌, ◌%◌, ◌≡◌, ◌∙◌, inl, inr, Bool, true, false, cond, ◌&&◌, nat_eq, min, List, ◌++◌, length, map, get_or, take, drop, refl, sym, ap, ap₂, subst, arith, replicate, bit_or, bit_and, w64}
use Rattle.std.specs.Int.{bit_at}
use Rattle.std.specs.List.{between}
use Rattle.std.proofs.lemmas.Bool.{cases_lt}
use Rattle.std.proofs.lemmas.Nat.{and_le_l}
use Rattle.std.proofs.lemmas.Nat.Bits.{bit_at_and, bit_at-zero}
use Rattle.std.proofs.lemmas.List.{take_all, length-append, length-map, length-drop, get_or-map, get_or_append_left, get_or-append_right, get_or-take, length-take-le}
use Rattle.std.proofs.lemmas.List.Edits.{length-between, get_or-between}
use Rattle.std.proofs.lemmas.Simd.{bitmask_splat, zip2_splat_left, bit_mask_l, mask_l-lt}
use borrow.Rule.Slice.PartMut.{put_mid, post_of}
use lib.Lanes.{zip2, mask_l, top}
use mir.Val.{hbits, bits}
use Rattle.label_pairing.specs.Matches.{completes, AreMatches}

-- the mask of the lanes that are all together with a word
abbrev lanes_mask : ℕ → ℕ → List ℕ → ℕ
lanes_mask word all xs = mask_l (map (top (hbits w64)) (zip2 (λ a b. cond (nat_eq a b) (2 ^ bits w64 - 1) 0) (zip2 bit_or (replicate 8 word) (take 8 xs)) (replicate 8 all))) % 2 ^ 64

lanes_mask_is : (word all : ℕ) (xs : List ℕ) → length xs ≡ 8 → lanes_mask word all xs ≡ mask_l (map (λ x. nat_eq x all) (map (λ x. bit_or word x) xs))
lanes_mask_is word all xs e =
    let whole : zip2 bit_or (replicate 8 word) (take 8 xs) ≡ map (λ x. bit_or word x) xs
    = ap (zip2 bit_or (replicate 8 word)) (take_all 8 xs (omega (arith, e))) ∙ zip2_splat_left bit_or word 8 xs e in
    rw whole (bitmask_splat w64 nat_eq (map (λ x. bit_or word x) xs) 8 all (length-map _ _ ∙ e) (omega arith))

-- a bit of it
pub lane_bit : (word all : ℕ) (xs : List ℕ) (i : ℕ) → length xs ≡ 8 → i < 8 → bit_at (lanes_mask word all xs) i ≡ cond (nat_eq (bit_or word (get_or xs i 0)) all) 1 0
lane_bit word all xs i e l =
    let joined : List ℕ = map (λ x. bit_or word x) xs in
    let long : length joined ≡ 8 = length-map xs (λ x. bit_or word x) ∙ e in
    ap (λ n. bit_at n i) (lanes_mask_is word all xs e)
    ∙ bit_mask_l (map (λ x. nat_eq x all) joined) i
    ∙ ap (λ b. cond b 1 0) (get_or-map (λ x. nat_eq x all) joined i 0 false (omega (arith, long))
    ∙ ap (λ x. nat_eq x all) (get_or-map (λ x. bit_or word x) xs i 0 0 (omega (arith, e))))

-- there are as many bits as lanes
pub lanes_few : (word all : ℕ) (xs : List ℕ) → length xs ≡ 8 → lanes_mask word all xs < 2 ^ 8
lanes_few word all xs e =
    let bools : List Bool = map (λ x. nat_eq x all) (map (λ x. bit_or word x) xs) in
    let long : length bools ≡ 8 = length-map _ _ ∙ (length-map xs (λ x. bit_or word x) ∙ e) in
    subst (λ n. n < 2 ^ 8) (sym (lanes_mask_is word all xs e)) (subst (λ k. mask_l bools < 2 ^ k) long (mask_l-lt bools))

-- both bits are set
both_set : (b c : Bool) → nat_eq (min (cond b 1 0) (cond c 1 0)) 1 ≡ (b && c)
both_set true true = refl
both_set true false = refl
both_set false true = refl
both_set false false = refl

-- the bits of both words are those of the places of a block
pub both_bits : (mask all low high : List ℕ) (lows highs : ℕ)
    → ((i : ℕ) → i < 8 → bit_at lows i ≡ cond (nat_eq (bit_or (get_or mask 0 0) (get_or low i 0)) (get_or all 0 0)) 1 0)
    → ((i : ℕ) → i < 8 → bit_at highs i ≡ cond (nat_eq (bit_or (get_or mask 1 0) (get_or high i 0)) (get_or all 1 0)) 1 0)
    → (i : ℕ) → i < 8 → nat_eq (bit_at (bit_and lows highs) i) 1 ≡ completes mask all (get_or low i 0) (get_or high i 0)
both_bits mask all low high lows highs g h i k =
    ap (λ n. nat_eq n 1) (bit_at_and lows highs i ∙ ap₂ min (g i k) (h i k)) ∙ both_set _ _

none_set : (n : ℕ) (b c : Bool) → n ≡ 0 → n ≡ cond b 1 0 → nat_eq n 1 ≡ (b && c)
none_set n true c none is = absurd (omega (arith, none, is))
none_set n false c none is = rw none refl

-- where no low word is all, no place of a block is
pub no_bits : (mask all low high : List ℕ) (lows : ℕ) → lows ≡ 0
    → ((i : ℕ) → i < 8 → bit_at lows i ≡ cond (nat_eq (bit_or (get_or mask 0 0) (get_or low i 0)) (get_or all 0 0)) 1 0)
    → (i : ℕ) → i < 8 → nat_eq (bit_at 0 i) 1 ≡ completes mask all (get_or low i 0) (get_or high i 0)
no_bits mask all low high lows none g i k =
    none_set _ _ _ (bit_at-zero i) (ap (λ n. bit_at n i) (sym none) ∙ g i k)

-- and there are no more
pub both_few : (lows highs : ℕ) → lows < 2 ^ 8 → bit_and lows highs < 2 ^ 8
both_few lows highs l = omega (arith, l, and_le_l lows highs)

-- a place of a part
read_between : (xs : List ℕ) (at end i : ℕ) → at ≤ i → i < end → get_or (between at end xs) (i - at) 0 ≡ get_or xs i 0
read_between xs at end i a l =
    let same : at + (i - at) ≡ i = omega arith in
    get_or-between xs at end (i - at) 0 (omega arith) ∙ ap (λ k. get_or xs k 0) same

-- the places before a part, and those of the part
pub part_matches : (mask all low high : List ℕ) (found part : List Bool) (at end : ℕ) → at ≤ end → end ≤ length low → length found ≡ length low
    → ((i : ℕ) (d : Bool) → i < at → get_or found i d ≡ completes mask all (get_or low i 0) (get_or high i 0))
    → AreMatches mask all (between at end low) (between at end high) part
    → (i : ℕ) (d : Bool) → i < end → get_or (put_mid at (end - at) found part) i d ≡ completes mask all (get_or low i 0) (get_or high i 0)
part_matches mask all low high found part at end a b e before h i d l =
    let first : length (take at found) ≡ at = length-take-le at found (omega (arith, e)) in
    let so_many : length part ≡ end - at = h.so_many ∙ length-between low at end b in
    elim (cases_lt i at) [
      | inl below ↦
          get_or_append_left (take at found) (part ++ post_of at (end - at) found) d i (omega (arith, first))
          ∙ get_or-take at found i d below ∙ before i d below
      | inr above ↦
          get_or-append_right (take at found) (part ++ post_of at (end - at) found) at i d first above
          ∙ get_or_append_left part (post_of at (end - at) found) d (i - at) (omega (arith, so_many))
          ∙ h.are_matches (i - at) d (omega (arith, so_many, h.so_many))
          ∙ ap₂ (λ x y. completes mask all x y) (read_between low at end i above l) (read_between high at end i above l)
    ]

-- a part is written over
pub length-part : (found part : List Bool) (at k : ℕ) → at + k ≤ length found → length part ≡ k → length (put_mid at k found part) ≡ length found
length-part found part at k a e =
    omega (arith, e, length-append (take at found) (part ++ post_of at k found), length-append part (post_of at k found), length-take-le at found (omega arith), length-drop k (drop at found), length-drop at found)

-- the part after a place is compared last
pub rest_matches : (mask all low high : List ℕ) (found part : List Bool) (at : ℕ) → at ≤ length low → length high ≡ length low → length found ≡ length low
    → ((i : ℕ) (d : Bool) → i < at → get_or found i d ≡ completes mask all (get_or low i 0) (get_or high i 0))
    → AreMatches mask all (between at (length low) low) (between at (length high) high) part
    → AreMatches mask all low high (put_mid at (length found - at) found part)
rest_matches mask all low high found part at a e f before h = record {
  so_many = length-part found part at (length found - at) (omega (arith, f)) (h.so_many ∙ length-between low at (length low) (omega arith) ∙ ap (λ n. n - at) (sym f)) ∙ f;
  are_matches = λ i d l.
      subst (λ n. get_or (put_mid at (n - at) found part) i d ≡ completes mask all (get_or low i 0) (get_or high i 0)) (sym f)
      (part_matches mask all low high found part at (length low) a (omega arith) f before (subst (λ n. AreMatches mask all (between at (length low) low) (between at n high) part) e h) i d l);
}
