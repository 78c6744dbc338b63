use Rattle.std.proofs.Common.{◌∙◌, sym}
use Rattle.ctrl_clusters.proofs.LoneLemmas.{taken_fits}
use Rattle.ctrl_clusters.proofs.rows.taken_row.Goals as goal

-- what the members take fits
pub returns-clause-taken : goal.returns-clause-taken
returns-clause-taken c =
    let taken = sym c.takes_row.ensures.taken ∙ c.if-not-takes_row.false in
    c.from_slice.ensures.fits ∙ taken_fits c.args.ranges.now c.args.members.now c.args.values.now c.requires.few c.requires.lone taken ∙ sym taken
