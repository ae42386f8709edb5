-- Where the sequences of a side belong.
use Rattle.std.proofs.Common.{ℕ, zero, suc, ◌+◌, ◌-◌, ◌<◌, ◌≤◌, ◌≡◌, ◌⊎◌, inl, inr, ap, ◌∙◌, subst, arith}
use Rattle.std.proofs.lemmas.Bool.{cases_lt}
use Rattle.sequence_forms.specs.Sides.{first_after, first, sequences, place}
use Rattle.sequence_forms.specs.TreeLaws.{SequencesHavePlaces}
use Rattle.sequence_forms.proofs.MatrixLemmas.{place-within}
use Rattle.sequence_forms.proofs.SideLemmas.{first_up, place-empty, place-set}

-- a set and an action, of which a sequence is
abbrev OfSet : (ℕ → ℕ) → ℕ → ℕ → Type 0
OfSet count n q = (j : ℕ) × (a : ℕ) × (j < n) × (a < count j) × (q ≡ first_after count j + a)

-- a sequence is the empty one or that of an action of a set
sequence_cases : (count : ℕ → ℕ) (n q : ℕ) → q < first_after count n → (q ≡ 0) ⊎ OfSet count n q
sequence_cases count zero q h = inl (omega arith)
sequence_cases count (suc n) q h = elim (cases_lt q (first_after count n)) [
  | inl l ↦ elim (sequence_cases count n q l) [ inl e ↦ inl e | inr o ↦ inr (o.0, o.1, omega (arith, o.2), o.3, o.4) ]
  | inr l ↦ inr (n, q - first_after count n, omega arith, omega arith, omega arith)
]

-- earlier sets have earlier sequences
first_ascends : (count : ℕ → ℕ) (j k : ℕ) → j ≤ k → first_after count j ≤ first_after count k
first_ascends count j k h = elim (cases_lt j k) [
  | inl l ↦ let up = first_up count j k l in omega arith
  | inr l ↦ (let e : j ≡ k = omega arith in subst (λ m. first_after count j ≤ first_after count m) e (omega arith))
]

-- the places of a side's sequences
pub places : SequencesHavePlaces
places d =
    record {
      empty = place-empty d.count d.sets;
      of_set = λ j a h l. place-set d.count d.sets j a h l;
      within = λ q. place-within d.count d.sets q;
      whole_game = whole_game;
      action = action;
      earlier = earlier;
    }
  where
    placed : (q : ℕ) → (o : OfSet d.count d.sets q) → place d q ≡ suc o.0
    placed q o = ap (place d) o.4 ∙ place-set d.count d.sets o.0 o.1 o.2 o.3

    whole_game : (q : ℕ) → q < sequences d → place d q ≡ 0 → q ≡ 0
    whole_game q h e = elim (sequence_cases d.count d.sets q h) [ inl z ↦ z | inr o ↦ absurd (omega (arith, e, placed q o)) ]

    action : (q j : ℕ) → q < sequences d → place d q ≡ suc j → (a : ℕ) × (a < d.count j) × (q ≡ first d j + a)
    action q j h e = elim (sequence_cases d.count d.sets q h) [
      | inl z ↦ absurd (omega (arith, e, ap (place d) z ∙ place-empty d.count d.sets))
      | inr o ↦ (let same : o.0 ≡ j = omega (arith, e, placed q o) in (o.1, subst (λ k. o.1 < d.count k) same o.3, subst (λ k. q ≡ first d k + o.1) same o.4))
    ]

    earlier : (q j : ℕ) → j < d.sets → q < first d j → place d q < suc j
    earlier q j h l = elim (sequence_cases d.count d.sets q (let up = first_ascends d.count j d.sets (omega arith) in omega arith)) [
      | inl z ↦ omega (arith, ap (place d) z ∙ place-empty d.count d.sets)
      | inr o ↦ elim (cases_lt o.0 j) [
        | inl m ↦ omega (arith, placed q o)
        | inr m ↦ absurd (omega (arith, first_ascends d.count j o.0 m, o.4))
      ]
    ]
