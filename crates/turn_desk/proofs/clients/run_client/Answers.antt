use Rattle.std.proofs.Common.{[], ◌∷◌, ◌++◌, None, refl, sym, ap, ◌∙◌}
use Rattle.turn_desk.proofs.Runs.{seat_of_same, run_none, run_more}
use Rattle.turn_desk.proofs.clients.run_client.Goals as goal

pub loop-init : goal.loop-init
loop-init g c =
    let t = g.T.Served in
    record { seat = c.requires; run = run_none t.is_legal t.answers t.taken c.args.desk.now.plan c.args.party.seat (g.C.Client.transcript c.args.party.client); task = refl }

pub loop-preserved : goal.loop-preserved
loop-preserved g c =
    let t = g.T.Served in
    let said = g.C.Client.transcript in
    let call = c.call-back.ensures in
    let back = c.call-back.result.0 in
    let asked = c.next-in-loop.ensures.asked c.if-not-next.false in
    let so_far = said c.loop.client in
    let asks = asked.last ∙ ap (λ a. so_far ++ (a, None) ∷ []) (sym (c.ask.ensures so_far asked.ask asked.last)) in
    record {
      seat = seat_of_same c.args.desk.now c.loop.seat back c.loop.invariant.seat call.seat;
      run = run_more t.is_legal t.answers t.taken c.args.desk.now.plan c.args.party.seat c.loop.seat back (said c.args.party.client) so_far (said c.next-in-loop.new.self) (said c.hear.new.self)
          c.ask.result.now c.call-back.result.1 c.loop.invariant.run call.seat call.call asks c.hear.ensures.heard;
      task = c.hear.ensures.task ∙ c.next-in-loop.ensures.task ∙ c.loop.invariant.task;
    }
