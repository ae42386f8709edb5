-- Pieces of work, each with its number and its value.
use Rattle.std.specs.Prelude.{◌≡◌, ◌<◌, ◌≤◌, ◌+◌, ◌*◌, ◌⊎◌, [], ℕ, List, length, map, filter, nat_lt, All}
use denote.Param.Members.{Shared}
use Rattle.std.specs.Fn.{FnReturns}
use Rattle.atomic_table.specs.Seated.{TableId}
use Rattle.claims.specs.ClaimWord.{PassState, pass_state, KnowsWhole}

-- a pass of these claims that has claimed nothing, with a part for each of so many workers
abbrev pub IsNewFor : TableId → ℕ → PassState → Type 0
IsNewFor claims workers pass =
    (pass ≡ pass_state claims pass.parts []) × (1 ≤ workers) × (workers ≤ pass.parts)

-- the same pass after so many workers claimed by it, each of them at most count + 1 numbers
abbrev pub IsUsedBy : ℕ → ℕ → PassState → PassState → Type 0
IsUsedBy workers count before after =
    (after ≡ pass_state before.claims before.parts after.claimed)
    × (length after.claimed ≤ workers * (count + 1))

abbrev pub numbers : {T : Type 0} → List (ℕ × T) → List ℕ
numbers pieces = map (λ p. p.0) pieces

-- the pieces are what was claimed below count, each with a value that a call of f gave there
pub record ArePiecesOf {F T : Type 0} (g : Shared F (ℕ × Unit {0}) T) (f : F)
    (count : ℕ) (claimed : List ℕ) (pieces : List (ℕ × T)) : Type 0 where
  pub numbers : numbers pieces ≡ filter (λ k. nat_lt k count) claimed
  pub values : All (λ p. FnReturns g f (p.0, tt) p.1) pieces

-- and nothing is left to claim: more was claimed than the count, or a number that is not below it
pub record AreDone {F T : Type 0} (g : Shared F (ℕ × Unit {0}) T) (f : F)
    (count : ℕ) (claimed : List ℕ) (pieces : List (ℕ × T)) : Type 0 where
  pub are_of : ArePiecesOf g f count claimed pieces
  pub past : (count < length claimed) ⊎ (length pieces < length claimed)

-- the most numbers that one worker claims in one turn, which ends where a helper joins in
abbrev pub turn_limit : ℕ → ℕ
turn_limit count = count + 16

-- a pass of these claims, with some part, and the pieces of all that it claimed so far
pub record IsAtWork {F T : Type 0} (g : Shared F (ℕ × Unit {0}) T) (f : F) (count : ℕ)
    (claims : TableId) (pass : PassState) (pieces : List (ℕ × T)) : Type 0 where
  pub own : pass.claims ≡ claims
  pub some : 1 ≤ pass.parts
  pub whole : KnowsWhole pass.parts pass.claimed
  pub are_of : ArePiecesOf g f count pass.claimed pieces

-- the same pass after the turns of workers, each of whom has a part: these are fewer than twice the
-- parts, by so many at least
pub record IsHelped (count fewer : ℕ) (before after : PassState) : Type 0 where
  pub same : after ≡ pass_state before.claims before.parts after.claimed
  pub few : length after.claimed + fewer * turn_limit count
      ≤ length before.claimed + 2 * before.parts * turn_limit count
  pub whole : KnowsWhole after.parts after.claimed
