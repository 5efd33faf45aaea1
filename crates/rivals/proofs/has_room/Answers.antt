use Rattle.std.proofs.Common.{leb, ap}
use Rattle.rivals.proofs.Promised.{room, no_room, no_room-to-put, no_room-to_change}
use Rattle.rivals.proofs.Worked.{seven_too_many}
use Rattle.rivals.proofs.has_room.Goals as goal

pub returns : goal.returns
returns c = record {
  value = ap (leb c.args.need) c.gap_bytes.ensures.value;
  room = room;
  none = no_room;
  put = no_room-to-put;
  change = no_room-to_change;
  example = seven_too_many;
}
