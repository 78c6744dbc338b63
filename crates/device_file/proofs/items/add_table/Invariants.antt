use Rattle.std.proofs.Common.{◌≡◌, length}
use Rattle.toml.specs.View.{members_view, table_view}
use Rattle.device_file.specs.Items.{with_table}
use Rattle.device_file.proofs.items.add_table.Given as goal

-- the members that are left are the rest of the items
abbrev pub invariant-loop-key : goal.invariant-loop-key
invariant-loop-key l =
    (goal.iterator-loop-key).can_next l.key-iterator ×
    (goal.iterator-loop-key).is_finite l.key-iterator ×
    (length l.builder.handlers ≡ length l.initial.builder.handlers) ×
    (with_table l.builder l.control l.ctrl (members_view l.key-iterator) ≡ with_table l.initial.builder l.control l.ctrl (table_view l.items))
