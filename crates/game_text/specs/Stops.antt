-- What the bytes of a source answer: their tokens, or the first fault.
use Rattle.std.specs.Prelude.{ℕ, List, Ok, Err}
use Rattle.answers.specs.Answers.{Answer}
use Rattle.game_core.specs.TokenList.{TokenList}
use Rattle.game_text.specs.Tokens.{AreTokens, IsFirstFault}
use Rattle.game_text.specs.declared.reading.TextStop.{TextStop}
use Rattle.game_text.specs.declared.reading.TextStop.TheVariants.{Fault, Memory}

-- the tokens of the bytes, or their first fault
abbrev pub tokens_of : List ℕ → Answer TextStop TokenList
tokens_of bytes (Ok tokens) = AreTokens bytes tokens
tokens_of bytes (Err (Fault fault)) = IsFirstFault bytes fault.at fault.kind
tokens_of bytes (Err Memory) = ⊥
