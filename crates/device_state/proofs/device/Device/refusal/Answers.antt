use Rattle.std.proofs.Common.{arith, rules, ◌≡◌, ◌∙◌, false, ap, refl, sym}
use Rattle.std.specs.Option.{option_map}
use Rattle.history.specs.Past.{past}
use Rattle.ctrl_types.specs.Refusals.{whole}
use Rattle.device_history.specs.Answers.{is_list}
use Rattle.device_state.specs.Device.{DeviceData}
use Rattle.device_state.proofs.AnswerLemmas.{alone_why, refusal_alone}
use Rattle.device_state.proofs.device.Device.refusal.Goals as goal

-- an ask that is no list
pub returns-in_default : goal.returns-in_default
returns-in_default g c =
    let alone : is_list c.args.ask.now ≡ false = search rules in
    let r = c.self.inside in
    let device : DeviceData = record { plan = r.plan; steps = r.steps.items; words = r.words.items; work = r.work } in
    record {
      why = rw (← c.self.view_is) (alone_why g.D.Validates.verdict device c.args.ask.now c.as_whole.result alone (c.as_whole.ensures ∙ ap (option_map whole) c.check_of.ensures));
      exact = rw (← c.self.view_is) (λ (is : is_list c.args.ask.now ≡ false). c.as_whole.ensures ∙ ap (option_map whole) c.check_of.ensures ∙ sym (refusal_alone g.D.Validates.verdict r.plan (past r.steps.items) c.args.ask.now is));
      kept = rw (← c.self.view_is) refl;
      told = rw c.new-self-inside.ensures refl;
      asked = rw c.new-self-inside.ensures (omega arith);
    }
