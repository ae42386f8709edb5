use Rattle.std.proofs.Common.{◌≡◌, drop, map, string_bytes}
use Rattle.outside.specs.MemInputs.{first_named}
use Rattle.outside.proofs.mem_inputs.first_named.Given as goal

-- the pairs before the index have other names
abbrev pub invariant-loop-key : goal.invariant-loop-key
invariant-loop-key l = first_named (map (λ p. (string_bytes p.0, p.1.items)) l.named) l.name ≡ first_named (map (λ p. (string_bytes p.0, p.1.items)) (drop l.key-index l.named)) l.name
