-- A tree's information sets, as they are read.
use Rattle.std.proofs.Common.{ℕ, ◌<◌, ◌≡◌, List, length, get_or, refl, ap, ◌∙◌, arith}
use Rattle.std.proofs.lemmas.Option.{slice_get_read}
use Rattle.game_core.specs.Tree.{GameTree, InformationSet, IsGameTree, SetFits}

-- the set that stands at an index fits
pub set-read : (t : GameTree) (s : ℕ) (set : InformationSet) (sets : List InformationSet) → IsGameTree t → s < length t.sets → sets ≡ t.sets → set ≡ get_or sets s set → SetFits t s set
set-read t s set sets valid below same is = valid.sets_fit s set (slice_get_read t.sets (length t.sets) s set refl below (is ∙ ap (λ xs. get_or xs s set) same))

-- and it has a member
pub some-member : (t : GameTree) (s : ℕ) (set : InformationSet) (sets : List InformationSet) (members : List ℕ) → IsGameTree t → s < length t.sets → sets ≡ t.sets → set ≡ get_or sets s set → members ≡ set.members → 0 < length members
some-member t s set sets members valid below same is are = omega (arith, (set-read t s set sets valid below same is).some_member, ap length are)
