use Rattle.std.proofs.Common.{◌≡◌, ◌<◌, ◌≤◌, ◌+◌, ℕ, Bool, false, List, rules}
use Rattle.ctrl_types.specs.declared.value.CtrlValue.{CtrlValue}
use Rattle.ctrl_handlers.specs.Plan.{members}
use Rattle.ctrl_clusters.specs.Rows.{row_of}
use Rattle.ctrl_clusters.specs.Moments.{moved}
use Rattle.ctrl_clusters.proofs.NotifyLemmas.{notified_start, notified_next, notified_past, work_start, work_next, work_past, work_end}
use Rattle.ctrl_clusters.proofs.notifying.notify_between.Goals as goal

-- no cluster below the first of those that are looked at changes
pub loop-next-init : goal.loop-next-init
loop-next-init g c =
    let changed : ℕ → Bool = moved c.args.change.now c.args.pairs.now in
    let rows : ℕ → List CtrlValue = λ k. row_of c.args.change.now.values.now (members c.args.change.now.before.plan.now k) in
    let none : (k : ℕ) → 0 ≤ k → k < c.next_number-next.result → changed k ≡ false = λ k no_less below. c.requires.touched k (c.next_number-next.ensures.first k no_less below) in
    record {
      ends = c.next_number-next.ensures.ends;
      words = notified_past g.D.Notifies.told c.args.change.now.before.plan.now changed rows 0 c.next_number-next.result c.args.words.now.items c.args.words.now.items c.next_number-next.ensures.starts none
          (notified_start g.D.Notifies.told c.args.change.now.before.plan.now changed rows c.args.words.now.items);
      work = work_past c.args.change.now.before.plan.now changed 0 c.next_number-next.result c.args.work.now c.args.work.now c.next_number-next.ensures.starts (search rules) none
          (work_start c.args.change.now.before.plan.now changed c.args.work.now c.requires.fresh);
    }

-- one more cluster is notified, and none between it and the next changes
pub loop-next-preserved : goal.loop-next-preserved
loop-next-preserved g c =
    let changed : ℕ → Bool = moved c.args.change.now c.args.pairs.now in
    let rows : ℕ → List CtrlValue = λ k. row_of c.args.change.now.values.now (members c.args.change.now.before.plan.now k) in
    let k = c.loop-next.next in
    let none : (j : ℕ) → k + 1 ≤ j → j < c.next_number-next-in-loop-next.result → changed j ≡ false = λ j no_less below. c.requires.touched j (c.next_number-next-in-loop-next.ensures.first j no_less below) in
    record {
      ends = c.next_number-next-in-loop-next.ensures.ends;
      words = notified_past g.D.Notifies.told c.args.change.now.before.plan.now changed rows (k + 1) c.next_number-next-in-loop-next.result c.args.words.now.items c.notify_moved.new.words.items
          c.next_number-next-in-loop-next.ensures.starts none
          (notified_next g.D.Notifies.told c.args.change.now.before.plan.now changed rows k c.args.words.now.items c.loop-next.words.items c.notify_moved.new.words.items c.loop-next.invariant.words c.notify_moved.ensures.words);
      work = work_past c.args.change.now.before.plan.now changed (k + 1) c.next_number-next-in-loop-next.result c.args.work.now c.notify_moved.new.work c.next_number-next-in-loop-next.ensures.starts (search rules) none
          (work_next c.args.change.now.before.plan.now changed k c.args.work.now c.loop-next.work c.notify_moved.new.work (search rules) c.loop-next.invariant.work c.notify_moved.ensures.work);
    }

pub returns-clause-work : goal.returns-clause-work
returns-clause-work g c =
    work_end c.args.change.now.before.plan.now (moved c.args.change.now c.args.pairs.now) c.loop-next.next c.args.work.now c.loop-next.work (search rules) c.loop-next.invariant.work
