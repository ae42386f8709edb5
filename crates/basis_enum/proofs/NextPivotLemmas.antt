-- The pivots to the next level are determined by the levels so far
use Rattle.std.proofs.Common.{ℕ, ◌≡◌, ◌<◌, sym, ap, ap₂, ◌∙◌, subst, ◌⊎◌, inl, inr, List, length, get_or, map}
use Rattle.std.proofs.lemmas.Bool.{cases_order}
use Rattle.std.specs.List.{Contains}
use Rattle.std.proofs.lemmas.List.Elements.{Contains-get_or}
use Rattle.linear_systems.proofs.LexRowLemmas.{lex_row_once}
use Rattle.lex_tableau.specs.Ratio.{variable_at, IsLeavingRow}
use Rattle.lex_tableau.specs.Rows.{WholeTableau, tableau, IsTableau}
use Rattle.basis_enum.specs.Levels.{Levels, Pivot, no_tableau, parent_of, entering, target, IsPivot, IsEarlierPivot, AreNextPivots}
use Rattle.lists.proofs.AscendingNumberLemmas.{increasing_same, told_by}
use Rattle.lists.proofs.ElementLemmas.{unmapped}

pivot_same : (m k : Pivot) → m.parent ≡ k.parent → m.row ≡ k.row → m.column ≡ k.column → m ≡ k
pivot_same m k p r c = ap₂ (λ x y. record { parent = x; row = y; column = m.column }) p r ∙ ap (λ x. record { parent = k.parent; row = k.row; column = x }) c

-- the column and the row are told by the parent and the entering variable
pub pivot_by : (level : List WholeTableau) (m k : Pivot) → ((t : WholeTableau) → Contains level t → IsTableau t) → IsPivot level m → IsPivot level k → m.parent ≡ k.parent → entering level m ≡ entering level k → m ≡ k
pivot_by level m k valid hm hk p e = pivot_same m k p row column
  where
    parents : parent_of level m ≡ parent_of level k
    parents = ap (λ i. get_or level i no_tableau) p

    is_tableau : IsTableau (parent_of level k)
    is_tableau = valid (parent_of level k) (Contains-get_or level k.parent no_tableau hk.parent)

    column : m.column ≡ k.column
    column = is_tableau.reached.reached.proper.nonbasic_once m.column k.column (subst (λ t. m.column < length t.nonbasics) parents hm.column) hk.column (ap (λ t. get_or t.nonbasics m.column 0) (sym parents) ∙ e)

    row : m.row ≡ k.row
    row =
        lex_row_once (parent_of level k).rated (variable_at (parent_of level k).starts) (tableau (parent_of level k)) k.column m.row k.row
        (subst (λ c. IsLeavingRow (parent_of level k) c m.row) column (subst (λ t. IsLeavingRow t m.column m.row) parents hm.row)) hk.row

-- of two pivots one comes first, or they are one
order : (level : List WholeTableau) (m k : Pivot) → IsEarlierPivot level m k ⊎ (((m.parent ≡ k.parent) × (entering level m ≡ entering level k)) ⊎ IsEarlierPivot level k m)
order level m k = elim (cases_order m.parent k.parent) [
  | inr (inl l) ↦ inl (inl l)
  | inr (inr l) ↦ inr (inr (inl l))
  | inl p ↦ elim (cases_order (entering level m) (entering level k)) [ inr (inl l) ↦ inl (inr (p, l)) | inr (inr l) ↦ inr (inr (inr (sym p, l))) | inl e ↦ inr (inl (p, e)) ]
]

pub pivots_once : (l : Levels) (ms ns : List Pivot) → ((t : WholeTableau) → Contains l.level t → IsTableau t) → AreNextPivots l ms → AreNextPivots l ns → ms ≡ ns
pivots_once l ms ns valid hm hn = told_by (target l.level) ms ns same (increasing_same _ _ hm.ascending hn.ascending (over ms ns hm hn) (over ns ms hn hm))
  where
    over : (ms ns : List Pivot) → AreNextPivots l ms → AreNextPivots l ns → (v : ℕ) → Contains (map (target l.level) ms) v → Contains (map (target l.level) ns) v
    over ms ns hm hn v h = let z = unmapped (target l.level) v ms h in subst (λ v. Contains (map (target l.level) ns) v) z.2 (hn.all z.0 (hm.each z.0 z.1) (hm.new z.0 z.1))

    same : (m k : Pivot) → Contains ms m → Contains ns k → target l.level m ≡ target l.level k → m ≡ k
    same m k cm ck e = elim (order l.level m k) [
      | inl b ↦ absurd (hn.first k m ck (hm.each m cm) e b)
      | inr (inr b) ↦ absurd (hm.first m k cm (hn.each k ck) (sym e) b)
      | inr (inl p) ↦ pivot_by l.level m k valid (hm.each m cm) (hn.each k ck) p.0 p.1
    ]
