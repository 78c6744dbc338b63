use Rattle.std.proofs.Common.{rules, length}
use Rattle.frame_forecast.proofs.SparseLemmas.{sources_among}
use Rattle.frame_forecast.proofs.sparse.range_before.Goals as goal

pub wanted_before-requires-clause-sources : goal.wanted_before-requires-clause-sources
wanted_before-requires-clause-sources c =
    sources_among (length c.args.values.now) c.args.followers.now c.args.control c.in-Some.follower c.requires.followers (search rules)
