use Rattle.std.proofs.Common.{◌≡◌, ◌∙◌, false, List, Option, ap, is_some, slice_set, subst, sym, arith}
use Rattle.ctrl_types.specs.declared.value.CtrlValue.{CtrlValue}
use Rattle.ctrl_settle.specs.Control.{Control}
use Rattle.ctrl_settle.specs.Settle.{settled_anew}
use Rattle.range_followers.specs.Wanted.{follower_of}
use Rattle.range_followers.specs.declared.follower.Follower.{Follower}
use Rattle.ctrl_handlers.specs.Plan.{control_in}
use Rattle.ctrl_clusters.specs.Following.{range_under, value_under}
use Rattle.ctrl_clusters.specs.Ranges.{HasRangeFor, modified}
use Rattle.ctrl_clusters.specs.Rows.{Values, value_at}
use Rattle.ctrl_clusters.proofs.NextLemmas.{followed_one, followed_still, range_for, range_read, value_read}
use Rattle.ctrl_clusters.proofs.next.Next.follow_one.Goals as goal

-- the range is one for the control
pub modify-requires-clause-same : goal.modify-requires-clause-same
modify-requires-clause-same g c =
    let control = c.args.control in
    let ranges = c.args.self.now.ranges in
    let values = c.args.self.now.values.items in
    let read : c.range_under-range.result ≡ range_under c.args.plan.now.followers ranges values control =
    c.range_under-range.ensures ∙ range_read c.followers.result.now c.args.plan.now.followers ranges c.as_slice.result.now values control c.followers.ensures c.as_slice.ensures.value in
    subst (λ (r : List Control). HasRangeFor (control_in r control) c.range_under-range.result) (sym c.settle.ensures.ranges)
    (subst (λ (x : Control). HasRangeFor (control_in ranges control) x) (sym read) (range_for c.args.plan.now.followers ranges values control))

-- what follows nothing stays
pub returns-then-is_none-clause-followed : goal.returns-then-is_none-clause-followed
returns-then-is_none-clause-followed g c =
    followed_still c.args.plan.now.followers c.args.self.now.ranges c.args.self.now.values.items c.args.control
    (ap (λ (o : Option Follower). is_some o) (sym c.follower.ensures) ∙ c.if-is_none.ensures)

-- what follows has the range that is wanted, and a value that is settled by it
pub returns-clause-followed : goal.returns-clause-followed
returns-clause-followed g c =
    let control = c.args.control in
    let followers = c.args.plan.now.followers in
    let ranges = c.args.self.now.ranges in
    let values = c.args.self.now.values.items in
    let read : c.range_under-range.result ≡ range_under followers ranges values control =
    c.range_under-range.ensures ∙ range_read c.followers.result.now followers ranges c.as_slice.result.now values control c.followers.ensures c.as_slice.ensures.value in
    followed_one followers ranges values control c.modify.new.self c.settle.new.self.values.items (omega (arith, c.requires.known, c.requires.plan.many)) (omega (arith, c.requires.known, c.requires.values))
    (c.modify.ensures.ranges ∙ ap (λ (r : List Control). modified r control c.range_under-range.result) c.settle.ensures.ranges ∙ ap (modified ranges control) read)
    (c.settle.ensures.values
    ∙ ap (slice_set values control) (value_read followers ranges values control c.range_under-range.result (ap (λ (o : Option Follower). is_some o) (sym c.follower.ensures) ∙ c.if-is_none.ensures) read))
