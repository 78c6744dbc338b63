use Rattle.std.proofs.Common.{◌≡◌, ◌≤◌, ◌<◌, ◌+◌, take, drop, length}
use Rattle.std.specs.List.{All}
use Rattle.ctrl_handlers.specs.Plan.{members}
use Rattle.ctrl_lists.specs.Checks.{first_from, at_first, judging_check}
use Rattle.ctrl_clusters.specs.NewRows.{clusters_of}
use Rattle.ctrl_lists.specs.Touched.{touched, AreRows, judged_count, with_calls}
use Rattle.ctrl_lists.proofs.rows.judge_all.Given as goal

-- the clusters of the pairs so far have their rows, and as many validators were asked at most
abbrev pub invariant-loop-place : goal.invariant-loop-place
invariant-loop-place g l = record {
  none : first_from (judging_check g.D.Validates.verdict l.view.plan l.view.parts l.laid) l.place (drop l.place l.pairs) ≡ at_first (judging_check g.D.Validates.verdict l.view.plan l.view.parts l.laid) l.pairs;
  each : clusters_of l.rows.rows ≡ touched l.view.plan (take l.place l.pairs);
  become : AreRows g.D.Validates.verdict l.view.plan l.view.parts.ranges l.view.parts.values l.laid l.rows.rows;
  within : All (λ r. r.cluster < length l.view.plan.clusters) l.rows.rows;
  long : All (λ r. length r.row ≡ length (members l.view.plan r.cluster)) l.rows.rows;
  few : length l.rows.rows ≤ l.place;
  room : length l.pairs ≤ l.rows.room;
  asked : l.work.asked ≤ l.initial.work.asked + length (clusters_of l.rows.rows);
  counted : l.work.asked ≡ with_calls (judged_count l.view.plan (clusters_of l.rows.rows)) l.initial.work.asked;
  told : l.work.told ≡ l.initial.work.told;
}
