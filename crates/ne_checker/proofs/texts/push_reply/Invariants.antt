use Rattle.std.proofs.Common.{◌≡◌, ◌++◌, take}
use Rattle.std.specs.List.{flat_map}
use Rattle.ne_checker.specs.Texts.{choice_text}
use Rattle.ne_checker.proofs.texts.push_reply.Given as goal

abbrev pub invariant-loop-action : goal.invariant-loop-action
invariant-loop-action l = l.text.items ≡ l.initial.text.items ++ flat_map choice_text (take l.action-index l.reply)
