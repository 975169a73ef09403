-- What threads hand to each other may go to another thread, and what they share may be read by several.
use Rattle.std.proofs.Crossing.{crosses}
use denote.Param.Send.{IsSend, IsSync, sendable}
use Rattle.atomic_table.proofs.shared.Seat.TheSendSync as seats
use Rattle.av_line.proofs.line.Line.TheSendSync as lines
use Rattle.av_line.specs.declared.fits.Fits.{Ghosts}
use Rattle.av_line.specs.contracts.line.LinePass as LinePass
use Rattle.av_line.specs.contracts.line.Line as Line
use Rattle.av_line.specs.contracts.rule.Slot as Slot
use Rattle.av_rules.specs.contracts.kinds.Kinds as Kinds
use Rattle.av_world.proofs.Crossings.{world_send, world_field}
use Rattle.av_groups.specs.contracts.groups.Groups as Groups
use Rattle.av_lending.specs.contracts.handed.Keeper as Keeper
use Rattle.av_lending.specs.contracts.handed.Work as Work
use Rattle.av_lending.specs.contracts.lent.Lent as Lent
use Rattle.av_lending.specs.contracts.lent.Turned as Turned
use Rattle.av_lending.specs.contracts.plans.Plan as Plan
use Rattle.av_team.specs.contracts.lines.Desk as Desk
use Rattle.av_team.specs.contracts.lines.Passes as Passes

lent_field : IsSend (Lent.the_field).row
lent_field = search (sendable, crosses, world_field) depth 60 fits 20000

work_send : IsSend Work.the_row
work_send = search (sendable, crosses, lent_field) depth 60 fits 20000

turned_send : IsSend Turned.the_row
turned_send = search (sendable, crosses, world_send) depth 60 fits 20000

keeper_send : IsSend Keeper.the_row
keeper_send = search (sendable, crosses, world_field) depth 60 fits 20000

plan_send : IsSend Plan.the_row
plan_send = search (sendable, crosses) depth 60 fits 20000

pub kinds_sync : IsSync Kinds.the_row
kinds_sync = search (sendable, crosses) depth 60 fits 20000

work_slot : IsSend (Slot.the_row Work.the_row Plan.the_row)
work_slot = search (sendable, crosses, work_send, plan_send) depth 60 fits 20000

turned_slot : IsSend (Slot.the_row Turned.the_row Plan.the_row)
turned_slot = search (sendable, crosses, turned_send, plan_send) depth 60 fits 20000

keeper_slot : IsSend (Slot.the_row Keeper.the_row Plan.the_row)
keeper_slot = search (sendable, crosses, keeper_send, plan_send) depth 60 fits 20000

works_field : (fits : Ghosts (Work.the_row).Denot (Plan.the_row).Denot) → IsSync (Line.the_field Work.the_row Plan.the_row fits).row
works_field fits = search (sendable, crosses, lines.the_sync, work_slot, work_send, plan_send) depth 60 fits 20000

backs_field : (fits : Ghosts (Turned.the_row).Denot (Plan.the_row).Denot) → IsSync (Line.the_field Turned.the_row Plan.the_row fits).row
backs_field fits = search (sendable, crosses, lines.the_sync, turned_slot, turned_send, plan_send) depth 60 fits 20000

keepers_field : (fits : Ghosts (Keeper.the_row).Denot (Plan.the_row).Denot) → IsSync (Line.the_field Keeper.the_row Plan.the_row fits).row
keepers_field fits = search (sendable, crosses, lines.the_sync, keeper_slot, keeper_send, plan_send) depth 60 fits 20000

plan_field_sync : IsSync (Plan.the_field).row
plan_field_sync = search (sendable, crosses) depth 60 fits 20000

groups_field : IsSync (Groups.the_field).row
groups_field = search (sendable, crosses) depth 60 fits 20000

pub desk_sync : IsSync Desk.the_row
desk_sync = search (sendable, crosses, works_field, backs_field, keepers_field, plan_field_sync, groups_field) depth 60 fits 20000

works_pass_field : (fits : Ghosts (Work.the_row).Denot (Plan.the_row).Denot) → IsSend (LinePass.the_field Work.the_row Plan.the_row fits).row
works_pass_field fits = search (sendable, crosses, seats.the_send, work_slot) depth 60 fits 20000

backs_pass_field : (fits : Ghosts (Turned.the_row).Denot (Plan.the_row).Denot) → IsSend (LinePass.the_field Turned.the_row Plan.the_row fits).row
backs_pass_field fits = search (sendable, crosses, seats.the_send, turned_slot) depth 60 fits 20000

keepers_pass_field : (fits : Ghosts (Keeper.the_row).Denot (Plan.the_row).Denot) → IsSend (LinePass.the_field Keeper.the_row Plan.the_row fits).row
keepers_pass_field fits = search (sendable, crosses, seats.the_send, keeper_slot) depth 60 fits 20000

pub passes_send : IsSend Passes.the_row
passes_send = search (sendable, crosses, works_pass_field, backs_pass_field, keepers_pass_field) depth 60 fits 20000
