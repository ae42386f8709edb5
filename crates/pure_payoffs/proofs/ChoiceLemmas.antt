-- What choice lists give the sets, by their places.
use Rattle.std.proofs.Common.{ℕ, zero, suc, ◌≤◌, ◌≡◌, Some, List, [], ◌∷◌, length, get_or, slice_get, ◌∙◌, arith}
use Rattle.std.proofs.lemmas.Option.{same_Some}
use Rattle.game_theory.proofs.OwnSetLemmas.{AscendFrom}
use Rattle.reduced_strategies.specs.Choices.{choice_at}
use Rattle.reduced_strategies.proofs.SetLemmas.{choice_at-first, choice_at-later}

-- a set at a place is not before the first number
place-from : (n : ℕ) (sets : List ℕ) (p s : ℕ) → AscendFrom n sets → slice_get sets p ≡ Some s → n ≤ s
place-from n [] p s o is = cc
place-from n (set ∷ sets) zero s o is = let e = same_Some set s is in omega (arith, o.0)
place-from n (set ∷ sets) (suc p) s o is = let later = place-from (suc set) sets p s o.1 is in omega (arith, o.0)

-- a list gives a set its element at the place of the set
pub choice_at-place : (n : ℕ) (sets choices : List ℕ) (p s : ℕ) → AscendFrom n sets → length choices ≡ length sets → slice_get sets p ≡ Some s → choice_at sets choices s ≡ get_or choices p 0
choice_at-place n [] choices p s o e is = cc
choice_at-place n (set ∷ sets) [] p s o e is = absurd (omega arith)
choice_at-place n (set ∷ sets) (choice ∷ choices) zero s o e is = choice_at-first set choice s sets choices (same_Some set s is)
choice_at-place n (set ∷ sets) (choice ∷ choices) (suc p) s o e is =
    let later = place-from (suc set) sets p s o.1 is in
    choice_at-later set choice s sets choices (omega arith) ∙ choice_at-place (suc set) sets choices p s o.1 (omega arith) is
