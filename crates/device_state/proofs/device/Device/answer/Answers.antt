use Rattle.device_state.proofs.device.Device.answer.Goals as goal

pub returns-in-GetCtrls-clause-handles : goal.returns-in-GetCtrls-clause-handles
returns-in-GetCtrls-clause-handles g c = rw c.in-GetCtrls.is (c.ask_get.ensures.handles c.args.seat)

pub returns-in-Query-clause-handles : goal.returns-in-Query-clause-handles
returns-in-Query-clause-handles g c = rw c.in-Query.is (c.ask_query.ensures.handles c.args.seat)

pub returns-in-Told-clause-handles : goal.returns-in-Told-clause-handles
returns-in-Told-clause-handles g c = rw c.in-Told.is (c.ask_told.ensures.handles c.args.seat)

pub returns-in-NextId-clause-handles : goal.returns-in-NextId-clause-handles
returns-in-NextId-clause-handles g c = rw c.in-NextId.is (c.next.ensures.handles c.args.seat)

pub returns-in-MenuItem-clause-handles : goal.returns-in-MenuItem-clause-handles
returns-in-MenuItem-clause-handles g c = rw c.in-MenuItem.is (c.item.ensures.handles c.args.seat)

pub returns-in-TryCtrls-clause-handles : goal.returns-in-TryCtrls-clause-handles
returns-in-TryCtrls-clause-handles g c = rw c.in-TryCtrls.is (c.ask_try.ensures.handles c.args.seat)

pub returns-in-StateOf-clause-handles : goal.returns-in-StateOf-clause-handles
returns-in-StateOf-clause-handles g c = rw c.in-StateOf.is (c.read_state.ensures.handles c.args.seat)

pub returns-in-Forecast-clause-handles : goal.returns-in-Forecast-clause-handles
returns-in-Forecast-clause-handles g c = rw c.in-Forecast.is (c.ask_forecast.ensures.handles c.args.seat)
