use Rattle.std.proofs.Common.{◌≡◌, map, get_or, take}
use Rattle.verdicts.proofs.trees_player.write_reply.Given as goal

-- the choices at the own sets so far are written
abbrev pub invariant-loop-place : goal.invariant-loop-place
invariant-loop-place l = take l.place l.reply ≡ map (λ s. get_or l.choices s 0) (take l.place l.own)
