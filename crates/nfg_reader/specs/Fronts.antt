-- The part of a table's file up to the strategies, and what the code keeps of it.
use Rattle.std.specs.Prelude.{ℕ, List, length, map}
use Rattle.rational.specs.Rational.{ℚ}
use Rattle.game_theory.specs.Profiles.{profile_count}
use Rattle.game_core.specs.Table.{GameTable}
use Rattle.nfg_reader.specs.TableFile.{counted_names}
use Rattle.nfg_reader.specs.declared.strategies.Strategies.{Strategies}
use Rattle.nfg_reader.specs.declared.strategies.Strategies.TheVariants.{Counted, Named}
use Rattle.nfg_reader.specs.declared.front.Front.{Front}

-- the strategies' names, where they are only counted or named
abbrev pub names_of : Strategies → List (List (List ℕ))
names_of (Counted counts) = map counted_names counts.items
names_of (Named lists) = map (λ v. v.items) lists.items

-- the title, the players and their strategies
pub record FrontPart : Type 0 where
  pub title : List ℕ
  pub players : List (List ℕ)
  pub strategies : List (List (List ℕ))

-- what a front of the code stands for
abbrev pub front_of : Front → FrontPart
front_of front =
    record {
      title = front.title;
      players = front.players.items;
      strategies = names_of front.strategies;
    }

-- how many profiles there are
abbrev pub profiles : FrontPart → ℕ
profiles front = profile_count (map length front.strategies)

-- the table with these parts
abbrev pub table_of : FrontPart → List ℚ → GameTable
table_of front payoffs =
    record {
      title = front.title;
      players = front.players;
      strategies = front.strategies;
      payoffs = payoffs;
    }
