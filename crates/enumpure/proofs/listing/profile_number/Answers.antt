use Rattle.std.proofs.Common.{◌≡◌, ◌<◌, ◌+◌, ◌*◌, ◌-◌, ◌∙◌, suc, drop, get_or, length, ap, sym, arith}
use Rattle.std.proofs.Math.ListN.{drop_of_length-le}
use Rattle.game_theory.proofs.ProfileNumberLemmas.{length-profile}
use Rattle.game_theory.specs.Profiles.{number_of, profile_count}
use Rattle.enumpure.proofs.ProfilePartLemmas.{number_of-step}
use Rattle.enumpure.proofs.listing.profile_number.Goals as goal
use Rattle.enumpure.proofs.listing.profile_number.Goals.{In-loop-player}

pub loop-player-init : goal.loop-player-init
loop-player-init c =
    let counts = c.args.counts.now in
    let profile = c.args.profile.now in
    sym (ap (λ v. number_of v (drop (length profile) profile)) (drop_of_length-le counts {i = length profile} (omega (arith, length-profile counts profile c.requires.profile))))

pub bounds-counts-player : goal.bounds-counts-player
bounds-counts-player c = omega (arith, length-profile c.args.counts.now c.args.profile.now c.requires.profile)

-- the number from a player on
step : (c : In-loop-player) →
    let counts = c.args.counts.now in
    let profile = c.args.profile.now in
    let i = c.loop-player.player - 1 in
    let number = get_or profile i 0 + get_or counts i 0 * c.loop-player.number in
    (number ≡ number_of (drop i counts) (drop i profile)) × (number < profile_count counts)
step c =
    let counts = c.args.counts.now in
    let profile = c.args.profile.now in
    let i = c.loop-player.player - 1 in
    let next : c.loop-player.player ≡ suc i = omega arith in
    number_of-step counts profile i c.loop-player.number c.requires.profile (omega arith) (c.loop-player.invariant ∙ ap (λ v. number_of (drop v counts) (drop v profile)) next)

pub overflow_mul-number : goal.overflow_mul-number
overflow_mul-number c = let below = (step (goal.at.overflow_mul-number c).In-loop-player).1 in omega arith

pub overflow_add-number : goal.overflow_add-number
overflow_add-number c = let below = (step (goal.at.overflow_add-number c).In-loop-player).1 in omega arith

pub loop-player-preserved : goal.loop-player-preserved
loop-player-preserved c = (step (goal.at.loop-player-preserved c).In-loop-player).0
