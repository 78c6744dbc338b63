use denote.Param.Send.{IsSend, IsSync, sendable, recorded_send, struct_send}
use denote.Ref.{NamedLft}
use denote.RattleType.{RattleType}
use denote.Struct.Declared.{shape}
use Rattle.std.proofs.Crossing.{crosses}
use Rattle.history.specs.declared.served.Served.{Ghosts}
use Rattle.seat_tests.specs.contracts.acts.Act as act
use Rattle.seat_tests.specs.contracts.acts.Acts as acts
use Rattle.seat_tests.specs.contracts.acts.Flags as flags
use Rattle.seat_tests.specs.contracts.acts.Heard as heard
use Rattle.turn_desk.proofs.Sending.{seat_send, desk_sync}
use Rattle.seat_tests.proofs.acts.act_both.Goals as goal

flags_sync : IsSync flags.the_row
flags_sync = search (sendable, crosses) depth 20

act_send : (A : RattleType) → IsSend A → IsSend (act.the_row A)
act_send A s = search sendable depth 20

heard_send : (T P S A X : RattleType) (g : Ghosts T.Denot P.Denot S.Denot A.Denot X.Denot) → IsSend T → IsSend X → IsSend (heard.the_field T P S A X g).row
heard_send T P S A X g s x = struct_send (shape (heard.the_type T P S A X g)) (search (seat_send, sendable) depth 20, (search (sendable, crosses) depth 20, (search sendable depth 20, tt)))

acts_send : (κ : NamedLft) (T R P S A X : RattleType) (g : Ghosts T.Denot P.Denot S.Denot A.Denot X.Denot) → IsSend T → IsSync R → IsSend A → IsSend X → IsSend (acts.the_row κ T R P S A X g)
acts_send κ T R P S A X g s r a x =
    let O = acts.the_type κ T R P S A X g in
    recorded_send (acts.the_field κ T R P S A X g).row _ _ O.to_one
    (struct_send (shape O) (search sendable depth 20, (search (desk_sync, sendable) depth 20, (search (flags_sync, sendable) depth 20, (search (act_send, sendable, crosses) depth 20, (heard_send T P S A X g s x, tt))))))

pub run_both-requires-send-W : goal.run_both-requires-send-W
run_both-requires-send-W g κs = λ κ lives. search (acts_send, sendable) depth 20

pub run_both-requires-send-W-Rest : goal.run_both-requires-send-W-Rest
run_both-requires-send-W-Rest g κs = λ κ lives. search (heard_send, sendable) depth 20
