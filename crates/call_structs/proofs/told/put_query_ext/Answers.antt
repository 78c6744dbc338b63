use Rattle.std.proofs.Common.{◌∙◌, ap}
use Rattle.call_structs.specs.Told.{with_dimension, with_wide_bounds_told}
use Rattle.call_structs.proofs.told.put_query_ext.Goals as goal

-- src/told.rt
pub returns-clause-told : goal.returns-clause-told
returns-clause-told c =
    let info = c.args.info.now in
    c.put_dimension.ensures.told
    ∙ ap (with_dimension info.kind info.elems) (c.put_wide_bounds_told.ensures.told ∙ ap (with_wide_bounds_told info) c.put_query_ext_named.ensures.told)
