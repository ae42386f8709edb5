use Rattle.lemke_pivot.proofs.RayExclusionLemmas as RayExclusion
use Rattle.lemke_pivot.proofs.laws.there_is_no_ray.Goals as goal

pub returns : goal.returns
returns c = RayExclusion.no_ray_of_sides
