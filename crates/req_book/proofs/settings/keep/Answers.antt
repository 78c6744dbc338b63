use Rattle.std.proofs.Common.{rules, unwrap_or, slice_index_or, None, length}
use Rattle.ctrl_types.specs.Values.{zero_value}
use Rattle.req_book.specs.Requests.{snapshot_of}
use Rattle.req_book.proofs.SettingLemmas.{map_more, map_all}
use Rattle.req_book.proofs.settings.keep.Goals as goal

pub loop-control-preserved : goal.loop-control-preserved
loop-control-preserved c =
    record {
      so_far = map_more c.loop-control.values.items c.loop-control.control c.value_kept.result (λ i. unwrap_or (slice_index_or c.args.applied.now i None) (slice_index_or c.args.present.now i zero_value))
          (search rules) c.loop-control.invariant.so_far c.value_kept.ensures;
      long = search rules;
    }

pub returns : goal.returns
unfolding snapshot_of
returns c = map_all c.loop-control.values.items c.loop-control.control (length c.args.present.now) (λ i. unwrap_or (slice_index_or c.args.applied.now i None) (slice_index_or c.args.present.now i zero_value)) c.loop-control.invariant.so_far (search rules) (search rules)
