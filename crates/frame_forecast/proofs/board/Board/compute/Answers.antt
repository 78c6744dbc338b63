use Rattle.std.proofs.Common.{◌≡◌, ◌∙◌, ◌++◌, ◌∷◌, ◌+◌, List, [], ℕ, take, ap, get_or, refl, arith, subst, sym}
use Rattle.std.proofs.lemmas.List.{take_more}
use Rattle.ctrl_clusters.specs.Moments.{parts}
use Rattle.ctrl_forecast.specs.Forecasts.{QueuedData}
use Rattle.frame_forecast.specs.Boards.{BoardData, IsBoard, queued_in}
use Rattle.ctrl_forecast.specs.Touched.{touched_count}
use Rattle.ctrl_forecast.proofs.BoardLemmas.{touched_next, touched_below}
use Rattle.frame_forecast.proofs.BoardLemmas.{empty_board}
use Rattle.frame_forecast.proofs.board.Board.compute.Goals as goal

pub loop-frame-init : goal.loop-frame-init
loop-frame-init g c = record { kept = empty_board g.D.Validates.verdict c.args.at.now.plan.now (parts c.args.at.now) c.in_ok-board.board c.in_ok-board.ensures.frames c.in_ok-board.ensures.room; asked = omega arith; told = refl }

pub push-requires-clause-kept : goal.push-requires-clause-kept
push-requires-clause-kept g c =
    subst (λ (qs : List QueuedData). IsBoard g.D.Validates.verdict c.args.at.now.plan.now (parts c.args.at.now) qs c.loop-frame.board) (sym c.loop-frame.invariant.kept.are_queued) c.loop-frame.invariant.kept

pub returns-in_err-push-clause-asked : goal.returns-in_err-push-clause-asked
returns-in_err-push-clause-asked g c =
    let i : ℕ = c.loop-frame.frame-index in
    let own : touched_count c.args.at.now.plan.now c.frame-item.result.asked ≡ touched_count c.args.at.now.plan.now (get_or c.args.queued.now i c.frame-item.result).asked = ap (λ (q : QueuedData). touched_count c.args.at.now.plan.now q.asked) c.frame-item.is in
    omega (arith, c.loop-frame.invariant.asked, c.push.ensures.asked, own, touched_next c.args.at.now.plan.now c.args.queued.now i c.frame-item.result c.loop-frame-test.true, touched_below c.args.at.now.plan.now c.args.queued.now (i + 1))

pub loop-frame-preserved : goal.loop-frame-preserved
loop-frame-preserved g c =
    let i : ℕ = c.loop-frame.frame-index in
    let own : touched_count c.args.at.now.plan.now c.frame-item.result.asked ≡ touched_count c.args.at.now.plan.now (get_or c.args.queued.now i c.frame-item.result).asked = ap (λ (q : QueuedData). touched_count c.args.at.now.plan.now q.asked) c.frame-item.is in
    let asks : queued_in c.loop-frame.board ++ c.frame-item.result ∷ [] ≡ take (i + 1) c.args.queued.now =
    ap (λ (l : List QueuedData). l ++ c.frame-item.result ∷ []) c.loop-frame.invariant.kept.are_queued
    ∙ ap (λ (q : QueuedData). take i c.args.queued.now ++ q ∷ []) c.frame-item.is ∙ sym (take_more c.args.queued.now i c.frame-item.result c.loop-frame-test.true) in
    record {
      kept = subst (λ (qs : List QueuedData). IsBoard g.D.Validates.verdict c.args.at.now.plan.now (parts c.args.at.now) qs c.push.new.self) asks c.in_ok-push.ensures.ok;
      asked = omega (arith, c.loop-frame.invariant.asked, c.push.ensures.asked, own, touched_next c.args.at.now.plan.now c.args.queued.now i c.frame-item.result c.loop-frame-test.true);
      told = c.push.ensures.told ∙ c.loop-frame.invariant.told;
    }
