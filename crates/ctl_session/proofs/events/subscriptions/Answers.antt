use Rattle.std.proofs.Common.{rules, ◌∙◌, ◌+◌, ℕ, Bool, ap, is_some, sym, take}
use Rattle.history.specs.Past.{past}
use Rattle.device_history.specs.Subscriptions.{subscribed}
use Rattle.ctl_session.proofs.PlaceLemmas.{filter_no_more, filter_one_more}
use Rattle.ctl_session.proofs.events.subscriptions.Goals.{then-is_some, else-is_some}
use Rattle.ctl_session.proofs.events.subscriptions.Goals as goal

-- src/events.rt
pub loop-control-preserved : goal.loop-control-preserved
loop-control-preserved g c =
    let old = c.loop-control.invariant in
    let controls = c.loop-control.controls in
    let count = c.loop-control.count in
    let p : ℕ → Bool = λ i. is_some (subscribed (past c.args.device.now.steps) c.args.fh i) in
    let here = sym (c.is_some.ensures ∙ ap is_some c.subscribed.ensures) in
    elim c.if-is_some.branch [
      | then-is_some w ↦ record {
        found = ap (λ n. take n c.if-is_some.controls) w.count-is ∙ ap (take (count + 1)) w.controls-is
            ∙ filter_one_more p c.loop-control.control controls count (search rules) (here ∙ w.if-is_some.true) old.found;
        few = search rules;
        long = search rules;
      }
      | else-is_some w ↦ record {
        found = ap (λ n. take n c.if-is_some.controls) w.count-is ∙ ap (take count) w.controls-is ∙ filter_no_more p c.loop-control.control controls count (here ∙ w.if-is_some.false) old.found;
        few = search rules;
        long = search rules;
      }
    ]
