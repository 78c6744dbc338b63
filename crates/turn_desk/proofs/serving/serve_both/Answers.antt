use Rattle.std.proofs.Common.{◌≡◌, [], ◌∷◌, ◌++◌, IsOk, IfOk, refl, sym, ap, ◌∙◌, subst}
use Rattle.turn_desk.specs.Views.{IsSeatOf}
use Rattle.turn_desk.specs.Runs.{HasServed}
use Rattle.turn_desk.proofs.Served.{first_served, second_served}
use Rattle.turn_desk.proofs.Unused.{left_new, one_new, two_new, refused}
use Rattle.turn_desk.proofs.serving.serve_both.Goals as goal

pub returns-in-Ok-left-clause-first : goal.returns-in-Ok-left-clause-first
returns-in-Ok-left-clause-first g c =
    let t = g.T.Served in
    let made = c.in-Ok-new.ensures.ok in
    let ran = c.run_clients-one in
    let one = ran.result.0.seat in
    let two = ran.result.1.seat in
    let given = c.push_reserved-3.ensures.items ∙ ap (λ l. l ++ two ∷ []) (c.push_reserved-2.ensures.items ∙ ap (λ l. l ++ one ∷ []) c.in-Ok.ensures.items) in
    let ok : IsOk ran.result.2 = subst IsOk (sym c.in-Ok-outcome.is) refl in
    let kept = c.another-one.ensures.kept in
    let steps = t.steps c.in-Ok-left.object in
    subst (λ p. HasServed t.is_legal t.answers t.taken p 0 (g.C.Client.transcript c.args.first) (g.C.Client.transcript ran.result.0.client) steps) made.0
    (first_served t.is_legal t.answers t.taken c.in-Ok-new.made.0.plan one two c.push_reserved-3.new.self.items steps given c.in-Ok-left.ensures.whole
    c.another-one.result.0 (g.C.Client.transcript c.args.first) (g.C.Client.transcript ran.result.0.client) (ap (λ s. s.number) kept ∙ made.2) (ap (λ s. s.seen) kept ∙ made.3) (ran.ensures.first_run ok))

pub returns-in-Ok-left-clause-second : goal.returns-in-Ok-left-clause-second
returns-in-Ok-left-clause-second g c =
    let t = g.T.Served in
    let made = c.in-Ok-new.ensures.ok in
    let ran = c.run_clients-one in
    let one = ran.result.0.seat in
    let two = ran.result.1.seat in
    let given = c.push_reserved-3.ensures.items ∙ ap (λ l. l ++ two ∷ []) (c.push_reserved-2.ensures.items ∙ ap (λ l. l ++ one ∷ []) c.in-Ok.ensures.items) in
    let ok : IsOk ran.result.2 = subst IsOk (sym c.in-Ok-outcome.is) refl in
    let kept = c.another-one.ensures.kept in
    let steps = t.steps c.in-Ok-left.object in
    let new = subst (λ r. IfOk r (λ s. IsSeatOf c.in-Ok-new.made.0 s × (s.seen ≡ c.in-Ok-new.made.1.seen))) c.in-Ok-two.is c.another-one.ensures.made in
    subst (λ p. HasServed t.is_legal t.answers t.taken p 1 (g.C.Client.transcript c.args.second) (g.C.Client.transcript ran.result.1.client) steps) made.0
    (second_served t.is_legal t.answers t.taken c.in-Ok-new.made.0.plan one two c.push_reserved-3.new.self.items steps given c.in-Ok-left.ensures.whole
    c.in-Ok-two.two (g.C.Client.transcript c.args.second) (g.C.Client.transcript ran.result.1.client) (ran.ensures.first.same.number ∙ ap (λ s. s.number) kept ∙ made.2) (new.1 ∙ made.3) (ran.ensures.second_run ok))

-- without a second seat no call was made
pub returns-in_default-two-clause-object : goal.returns-in_default-two-clause-object
returns-in_default-two-clause-object g c =
    let t = g.T.Served in
    let made = c.in-Ok-new.ensures.ok in
    let one = c.another-one.result.0 in
    let given = c.push_reserved.ensures.items ∙ ap (λ l. l ++ one ∷ []) c.in-Ok.ensures.items in
    left_new t.is_legal t.plan t.steps c.in-Ok-new.made.0.plan (t.plan c.args.object) c.push_reserved.new.self.items c.shut.result
    made.0 (one_new one c.push_reserved.new.self.items given (ap (λ s. s.seen) c.another-one.ensures.kept ∙ made.3)) c.shut.ensures.plan c.shut.ensures.whole

-- and none without a thread for each
pub returns-in_default-outcome-clause-object : goal.returns-in_default-outcome-clause-object
returns-in_default-outcome-clause-object g c =
    let t = g.T.Served in
    let made = c.in-Ok-new.ensures.ok in
    let ran = c.run_clients-one in
    let one = ran.result.0.seat in
    let two = ran.result.1.seat in
    let given = c.push_reserved-3.ensures.items ∙ ap (λ l. l ++ two ∷ []) (c.push_reserved-2.ensures.items ∙ ap (λ l. l ++ one ∷ []) c.in-Ok.ensures.items) in
    let new = subst (λ r. IfOk r (λ s. IsSeatOf c.in-Ok-new.made.0 s × (s.seen ≡ c.in-Ok-new.made.1.seen))) c.in-Ok-two.is c.another-one.ensures.made in
    let kept = refused ran.result.2 c.in_default-outcome.not-Ok ran.ensures.kept in
    left_new t.is_legal t.plan t.steps c.in-Ok-new.made.0.plan (t.plan c.args.object) c.push_reserved-3.new.self.items c.shut-left.result
    made.0 (two_new one two c.push_reserved-3.new.self.items given (ap (λ p. p.seat.seen) kept.0 ∙ ap (λ s. s.seen) c.another-one.ensures.kept ∙ made.3) (ap (λ p. p.seat.seen) kept.1 ∙ new.1 ∙ made.3))
    c.shut-left.ensures.plan c.shut-left.ensures.whole
