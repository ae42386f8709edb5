use Rattle.std.proofs.Common.{◌≡◌, ◌<◌, ◌+◌, ◌*◌, ◌-◌, ◌∙◌, sym, refl, length, map, drop, get_or, arith, rules}
use Rattle.std.proofs.lemmas.List.{length-map}
use Rattle.game_theory.proofs.ProfileNumberLemmas.{length-profile}
use Rattle.game_theory.specs.Profiles.{number_of, profile_count}
use Rattle.game_core.proofs.NumberLemmas.{number_of-before, number_of-end, length_at}
use Rattle.game_core.proofs.table.profile_number.Goals as goal

pub loop-place-init : goal.loop-place-init
loop-place-init c = number_of-end (map length (map (λ v. v.items) c.args.strategies.now)) c.args.profile.now c.requires.profile

pub offset_bounds-strategies-place : goal.offset_bounds-strategies-place
offset_bounds-strategies-place c =
    let long = simp length-map at (length-profile (map length (map (λ v. v.items) c.args.strategies.now)) c.args.profile.now c.requires.profile) in
    search rules

pub bounds-strategies-place : goal.bounds-strategies-place
bounds-strategies-place c =
    let long = simp length-map at (length-profile (map length (map (λ v. v.items) c.args.strategies.now)) c.args.profile.now c.requires.profile) in
    omega arith

-- the strategies before the place, with their number's bound
before : (c : goal.After-len) →
    let counts = map length (map (λ v. v.items) c.args.strategies.now) in
    let number = get_or c.args.profile.now (c.loop-place.place - 1) 0 + c.len.result * c.loop-place.number in
    (number ≡ number_of (drop (c.loop-place.place - 1) counts) (drop (c.loop-place.place - 1) c.args.profile.now)) × (number < profile_count counts)
before c =
    let counts = map length (map (λ v. v.items) c.args.strategies.now) in
    let long = simp length-map at (length-profile counts c.args.profile.now c.requires.profile) in
    let inside : c.loop-place.place - 1 < length c.args.strategies.now = omega arith in
    let strategies = length_at (λ v. v.items) c.args.strategies.now (c.loop-place.place - 1) c.index-strategies-place.result inside c.index-strategies-place.is in
    let player : c.len.result ≡ length c.index-strategies-place.result.items = omega arith in
    number_of-before counts c.args.profile.now c.loop-place.place c.len.result _ c.loop-place.number c.requires.profile c.loop-place-test.true c.loop-place.auto.place (player ∙ sym strategies) refl c.loop-place.invariant

pub overflow_mul-number : goal.overflow_mul-number
overflow_mul-number c = let below = (before c).1 in omega arith

pub overflow_add-number : goal.overflow_add-number
overflow_add-number c = let below = (before c).1 in omega arith

pub loop-place-preserved : goal.loop-place-preserved
loop-place-preserved c = (before c).0
