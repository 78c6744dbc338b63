use Rattle.std.proofs.Common.{◌≡◌, ◌≢◌, ◌∷◌, ◌++◌, ◌<◌, ◌^◌, length, arith, sym, ap, ◌∙◌, subst}
use Rattle.history.specs.Past.{entered}
use Rattle.atomic_table.specs.Table.{rest}
use Rattle.turn_desk.specs.Rule.{place_of}
use Rattle.turn_desk.proofs.Words.{has_front}
use Rattle.turn_desk.proofs.Turns.{looks}
use Rattle.turn_desk.proofs.Hands.{top, in_hand, no_step, looked_on}
use Rattle.turn_desk.proofs.Entering.{enters_grown}
use Rattle.turn_desk.proofs.desk.Desk.work.Goals as goal

pub slot_mut-place-requires : goal.slot_mut-place-requires
slot_mut-place-requires g c = let w = c.requires.work in (c.requires.desk ∙ sym (ap (λ d. d.id) c.self.view_is), top _ _ (place_of w.object) w.carried)

pub load-requires : goal.load-requires
load-requires g c =
    let t = g.T.Served in
    let shared = c.self.inside.table.shared in
    let token = c.args.token.now in (
      c.requires.desk ∙ sym (ap (λ d. d.id) c.self.view_is),
      has_front shared.table_id.words c.self.invariant.0,
      looks t.is_legal t.plan t.steps (t.plan shared.key.value) shared.table_id.slots token.id (token.me.0, (0, place_of c.handle-answer.new.self) ∷ rest token.me.1),
    )

pub fetch_add-requires : goal.fetch_add-requires
unfolding in_hand
fetch_add-requires g c =
    let t = g.T.Served in
    let shared = c.self.inside.table.shared in
    let token = c.args.token.now in
    let plan = c.args.self.now.plan in
    let before = c.slot_mut-place.result.now.object in
    let object = c.handle-answer.new.self in
    let w = in_hand t.is_legal t.plan t.steps c.args.number plan token.me before c.requires.work c.slot_mut-place.ensures.value in
    let longer : length (t.steps object) ≢ length (t.steps before) = (λ e. c.if-step_count-before.false (c.step_count.ensures ∙ e ∙ sym c.step_count-before.ensures)) in
    let planned : t.plan object ≡ plan = c.handle-answer.ensures.plan ∙ w.planned_object in
    let short : length (t.steps object) < 2 ^ 64 = omega arith in (
      c.requires.desk ∙ sym (ap (λ d. d.id) c.self.view_is),
      has_front shared.table_id.words c.self.invariant.0,
      enters_grown t.is_legal t.plan t.steps (t.plan shared.key.value) shared.table_id.slots token.id c.args.number plan token.me w object (record { step = t.taken (t.plan before) (t.steps before) c.args.ask.now c.handle-answer.result; is = c.handle-answer.ensures.steps })
          longer (subst (λ p. t.is_legal p (t.steps object)) planned c.handle-answer.ensures.legal) short,
    )

pub returns-then-step_count-before-clause-work : goal.returns-then-step_count-before-clause-work
unfolding in_hand
returns-then-step_count-before-clause-work g c =
    let t = g.T.Served in
    let number = c.args.number in
    let plan = c.args.self.now.plan in
    let before = c.slot_mut-place.result.now.object in
    let object = c.handle-answer.new.self in
    let w = in_hand t.is_legal t.plan t.steps number plan c.args.token.now.me before c.requires.work c.slot_mut-place.ensures.value in
    let kept : t.steps object ≡ t.steps before = no_step number (t.steps before) (t.steps object) (record { step = t.taken (t.plan before) (t.steps before) c.args.ask.now c.handle-answer.result; is = c.handle-answer.ensures.steps })
    (sym c.step_count.ensures ∙ c.if-step_count-before.true ∙ c.step_count-before.ensures) in
    (looked_on t.is_legal t.plan t.steps number c.load.result plan c.args.token.now.me c.load.new.seat.me object w (c.handle-answer.ensures.plan ∙ w.planned_object) kept c.load.ensures.2).0

pub returns-then-step_count-before-clause-worked : goal.returns-then-step_count-before-clause-worked
unfolding in_hand
returns-then-step_count-before-clause-worked g c =
    let t = g.T.Served in
    let number = c.args.number in
    let plan = c.args.self.now.plan in
    let ask = c.args.ask.now in
    let answer = c.handle-answer.result in
    let before = c.slot_mut-place.result.now.object in
    let object = c.handle-answer.new.self in
    let w = in_hand t.is_legal t.plan t.steps number plan c.args.token.now.me before c.requires.work c.slot_mut-place.ensures.value in
    let planned : t.plan object ≡ plan = c.handle-answer.ensures.plan ∙ w.planned_object in
    let kept : t.steps object ≡ t.steps before = no_step number (t.steps before) (t.steps object) (record { step = t.taken (t.plan before) (t.steps before) ask answer; is = c.handle-answer.ensures.steps })
    (sym c.step_count.ensures ∙ c.if-step_count-before.true ∙ c.step_count-before.ensures) in
    let seen = (looked_on t.is_legal t.plan t.steps number c.load.result plan c.args.token.now.me c.load.new.seat.me object w planned kept c.load.ensures.2).1 in
    record {
      past = t.steps before;
      held = w.held;
      answered = subst (λ p. t.answers p (t.steps before) ask answer) w.planned_object c.handle-answer.ensures.answer;
      seen = seen ∙ c.handle-answer.ensures.steps ∙ ap (λ p. t.steps before ++ entered number (t.taken p (t.steps before) ask answer)) w.planned_object;
      legal = subst (t.is_legal plan) (sym seen) (subst (λ p. t.is_legal p (t.steps object)) planned c.handle-answer.ensures.legal);
    }
