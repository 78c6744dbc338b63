use Rattle.std.proofs.Common.{◌≡◌, ◌+◌, ℕ, List, Some, None, drop, not, nat_eq, filter, ap, sym, ◌∙◌, arith}
use Rattle.std.specs.List.{position_from, remove}
use Rattle.std.proofs.lemmas.Iterator.Adapters.{position_from-zero}
use Rattle.ctrl_forecast.specs.Boards.{asked_at, board_of, named_clusters}
use Rattle.ctrl_forecast.specs.Forecasts.{QueuedData, named_by_frames}
use Rattle.device_parts.specs.QueuedFrames.{named_behind}
use Rattle.device_parts.proofs.QueuedLemmas.{none_found, one_found}
use Rattle.device_parts.proofs.with_forecasts.take_frame.Goals as goal

-- the frame of the request is taken
pub returns-in-Some-clause-board : goal.returns-in-Some-clause-board
returns-in-Some-clause-board g c =
    let queued : List QueuedData = c.args.board.now.queued in
    let found : position_from (λ q. nat_eq c.args.request.0 q.request.0) 0 queued ≡ Some c.in-Some.place = sym (position_from-zero (λ (q : QueuedData). nat_eq c.args.request.0 q.request.0) queued) ∙ sym c.in-Some.ensures in
    let taken = one_found c.args.at.now.plan.now c.args.request.0 0 c.in-Some.place queued c.requires.once found in
    let at : c.in-Some.place ≡ taken.0 = omega (arith, taken.1) in
    let same : remove queued c.in-Some.place ≡ filter (λ q. not (nat_eq c.args.request.0 q.request.0)) queued = ap (remove queued) at ∙ taken.2 in
    c.remove.ensures.frames ∙ ap (board_of g.D.Validates.verdict c.args.at.now.plan.now c.args.at.now.ranges.now c.args.at.now.values.now c.args.at.now.grabs.now) same

-- the clusters that it names are judged anew in the frames behind it that name them
pub returns-in-Some-clause-asked : goal.returns-in-Some-clause-asked
returns-in-Some-clause-asked g c =
    let queued : List QueuedData = c.args.board.now.queued in
    let found : position_from (λ q. nat_eq c.args.request.0 q.request.0) 0 queued ≡ Some c.in-Some.place = sym (position_from-zero (λ (q : QueuedData). nat_eq c.args.request.0 q.request.0) queued) ∙ sym c.in-Some.ensures in
    let taken = one_found c.args.at.now.plan.now c.args.request.0 0 c.in-Some.place queued c.requires.once found in
    let at : c.in-Some.place ≡ taken.0 = omega (arith, taken.1) in
    let most : named_by_frames c.args.at.now.plan.now (drop (c.in-Some.place + 1) queued) (named_clusters c.args.at.now.plan.now (asked_at queued c.in-Some.place)) ≡ named_behind c.args.at.now.plan.now c.args.request.0 queued =
    ap (λ (n : ℕ). named_by_frames c.args.at.now.plan.now (drop (n + 1) queued) (named_clusters c.args.at.now.plan.now (asked_at queued n))) at ∙ sym taken.3 in
    omega (arith, c.remove.ensures.asked, most)

-- none is of the request
pub returns-in_default-clause-board : goal.returns-in_default-clause-board
returns-in_default-clause-board g c =
    let queued : List QueuedData = c.args.board.now.queued in
    let none : position_from (λ q. nat_eq c.args.request.0 q.request.0) 0 queued ≡ None = sym (position_from-zero (λ (q : QueuedData). nat_eq c.args.request.0 q.request.0) queued) ∙ sym c.in_default.ensures in
    c.requires.board
    ∙ ap (board_of g.D.Validates.verdict c.args.at.now.plan.now c.args.at.now.ranges.now c.args.at.now.values.now c.args.at.now.grabs.now) (sym (none_found c.args.request.0 0 queued none))
