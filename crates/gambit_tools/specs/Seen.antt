-- What can be seen of the outside at one moment.
use Rattle.outside.specs.Inputs.{InputsSeen}
use Rattle.outside.specs.Sink.{SinkSeen}

-- the inputs and the sink for the text
pub record Outside : Type 0 where
  pub inputs : InputsSeen
  pub out : SinkSeen

-- both of them
abbrev pub outside : InputsSeen → SinkSeen → Outside
outside inputs out = record { inputs = inputs; out = out }

-- the same and standard error
pub record Seen : Type 0 where
  pub inputs : InputsSeen
  pub out : SinkSeen
  pub err : SinkSeen

-- all three
abbrev pub seen : InputsSeen → SinkSeen → SinkSeen → Seen
seen inputs out err = record { inputs = inputs; out = out; err = err }

-- without standard error
abbrev pub but_for_err : Seen → Outside
but_for_err s = outside s.inputs s.out
