use Rattle.std.proofs.Common.{rules, true}
use Rattle.ctrl_clusters.proofs.NotifyLemmas.{word_next, work_start, work_next, work_end}
use Rattle.ctrl_clusters.proofs.notifying.first_words.Goals as goal

pub loop-cluster-init : goal.loop-cluster-init
loop-cluster-init g c = record {
  long = search rules;
  room = search rules;
  work = work_start c.args.at.now.plan.now (λ k. true) c.args.work.now c.requires.fresh;
  allowed = search rules;
}

-- one more word
pub loop-cluster-preserved : goal.loop-cluster-preserved
loop-cluster-preserved g c =
    let old = c.loop-cluster.invariant in
    record {
      long = search rules;
      room = search rules;
      work = work_next c.args.at.now.plan.now (λ k. true) c.loop-cluster.cluster c.args.work.now c.loop-cluster.work c.notify_present.new.work (search rules) old.work c.notify_present.ensures.work;
      allowed = word_next g.D.Notifies.told c.args.at.now.plan.now c.args.at.now.values.now c.loop-cluster.words.items c.push_reserved.new.self.items c.loop-cluster.cluster c.notify_present.result old.long old.allowed c.notify_present.ensures.word c.push_reserved.ensures.items;
    }

pub returns-clause-work : goal.returns-clause-work
returns-clause-work g c = work_end c.args.at.now.plan.now (λ k. true) c.loop-cluster.cluster c.args.work.now c.loop-cluster.work (search rules) c.loop-cluster.invariant.work
