-- The items of the array are the views of its values.
use Rattle.std.proofs.Common.{List, ap, map, sym, ◌∙◌}
use Rattle.toml.specs.View.{view}
use Rattle.toml.specs.declared.value.Value.{Value}
use Rattle.file_tables.proofs.Lists.{listed_items}
use Rattle.file_tables.proofs.reading.values_of.Goals as goal

pub returns : goal.returns
returns c =
    ap (λ (vs : List Value). map view vs) c.as_slice.ensures.value
    ∙ sym (listed_items (map view c.args.array.now.items))
