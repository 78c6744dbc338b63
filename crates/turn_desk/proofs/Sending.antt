-- A seat may go to another thread, and threads may share a desk, where the object may cross.
use denote.RattleType.{RattleType}
use denote.Param.Send.{IsSend, IsSync, sendable, view_send, view_sync, recorded_send, recorded_sync, struct_send, struct_sync}
use denote.Struct.Declared.{shape}
use Rattle.atomic_table.proofs.shared.Seat.TheSendSync as seat
use Rattle.atomic_table.proofs.owned.Table.TheSendSync as table
use Rattle.atomic_table.specs.contracts.shared.Seat as Seat
use Rattle.std.specs.contracts.alloc.Global as Heap
use Rattle.std.specs.contracts.impls.GlobalAllocator.TheImpl.{ghosts}
use Rattle.std.proofs.Crossing.{frees, send, sync}
use Rattle.std.specs.contracts.snapshot.Snapshot as Snapshot
use Rattle.history.specs.declared.served.Served.{Ghosts}
use Rattle.turn_desk.specs.contracts.rule.OneHistory as OneHistory
use Rattle.turn_desk.specs.contracts.rule.OneHistoryTableRulePlaceViewPlanStepSnapshot.TheImpl as rule
use Rattle.turn_desk.specs.contracts.rule.Place as place
use Rattle.turn_desk.specs.contracts.rule.View as view
use Rattle.turn_desk.specs.contracts.desk.Desk as desk
use Rattle.turn_desk.specs.contracts.desk.Desk.TheInside as desk_inside
use Rattle.turn_desk.specs.contracts.seat.DeskSeat as desk_seat
use Rattle.turn_desk.specs.contracts.seat.DeskSeat.TheInside as inside

place_send : (T : RattleType) → IsSend T → IsSend (place.the_row T)
place_send T s = search sendable depth 20

token_send : (T P S : RattleType) → IsSend T → IsSend (Seat.the_row (place.the_row T) (view.the_row P S))
token_send T P S s = seat.the_send (place.the_row T) (view.the_row P S) (place_send T s)

inside_send : (T P S A R : RattleType) (g : Ghosts T.Denot P.Denot S.Denot A.Denot R.Denot) → IsSend T → IsSend (inside.the_row T P S A R g)
inside_send T P S A R g s =
    let O = inside.the_type T P S A R g in
    let token = token_send T P S s in
    recorded_send (inside.the_field T P S A R g).row _ _ O.to_one (struct_send (shape O) (search sendable, (token, tt)))

pub seat_send : (T P S A R : RattleType) (g : Ghosts T.Denot P.Denot S.Denot A.Denot R.Denot) → IsSend T → IsSend (desk_seat.the_row T P S A R g)
seat_send T P S A R g s = view_send (inside.the_row T P S A R g) _ _ _ _ (inside_send T P S A R g s)

-- at the heap, since `search` finds no allocator's ghost members in a row
pub desk_sync : (T P S A R : RattleType) (g : Ghosts T.Denot P.Denot S.Denot A.Denot R.Denot) → IsSend T → IsSync (desk.the_row T Heap.the_row P S A R g ghosts)
desk_sync T P S A R g s =
    let O = desk_inside.the_type T Heap.the_row P S A R g ghosts in
    let shared = table.the_field_sync (place.the_row T) (view.the_row P S) (Snapshot.the_row T) OneHistory.the_row Heap.the_row (rule.ghosts T P S A R g rule.no_dict) ghosts (place_send T s) send sync frees in
    view_sync (desk_inside.the_row T Heap.the_row P S A R g ghosts) _ _ _ _ (recorded_sync (desk_inside.the_field T Heap.the_row P S A R g ghosts).row _ _ O.to_one (struct_sync (shape O) (shared, tt)))
