-- What a key follows isn't read where the control of that name isn't.
use Rattle.std.proofs.Common.{◌∙◌, Bor, List, ℕ, option_map, sym, ap}
use Rattle.toml.specs.View.{table_view}
use Rattle.file_tables.specs.Bounds.{followed_at, plus_at}
use Rattle.device_file.proofs.Sources.{unread}
use Rattle.device_file.proofs.ranges.source_in.Goals as goal

pub returns-in-Err : goal.returns-in-Err
returns-in-Err c =
    unread c.args.controls.now c.args.words.now c.args.followers.now c.args.key c.in-Some.name.now (plus_at c.args.key (table_view c.args.table.now)) (followed_at c.args.key (table_view c.args.table.now)) c.in-Err.fault
    (sym c.followed.ensures ∙ ap (option_map (λ (name : Bor (List ℕ)). name.now)) c.in-Some.is) (sym c.source_named.ensures ∙ c.in-Err.is)
