-- What may go from one thread to another: each type in one step, since a search through all of a job runs out of steps.
-- A type that is a part of another stands there as its field's row, and one in a list or behind a pointer as its own row.
use denote.Param.Send.{IsSend, IsSync, sendable}
use Rattle.std.proofs.Crossing.{crosses}
use Rattle.atomic_table.proofs.shared.Seat.TheSendSync as seat
use Rattle.atomic_table.proofs.shared.Shared.TheSendSync as shared
use Rattle.atomic_table.proofs.send_lease.SendLease.TheSendSync as lease
use Rattle.mon_header.specs.contracts.action.RawAction as RawAction
use Rattle.mon_header.specs.contracts.action.Action as Action
use Rattle.mon_header.specs.contracts.actions.Actions as Actions
use Rattle.mon_table.specs.contracts.rule.Rule as Rule
use Rattle.mon_table.specs.contracts.chunk.Chunk as Chunk
use Rattle.mon_table.specs.contracts.table.Table as Table
use Rattle.mon_shows.specs.contracts.view.View as View
use Rattle.mon_shows.specs.contracts.target.Target as Target
use Rattle.mon_job.specs.contracts.job.Job as Job
use Rattle.mon_job.specs.contracts.verdict.Verdict as Verdict
use Rattle.mon_board.specs.contracts.board.Board as Board
use Rattle.mon_pool.specs.contracts.answer.Answer as Answer
use Rattle.mon_pool.specs.contracts.pass.Pass as Pass
use Rattle.mon_pool.specs.contracts.pool.Pool as Pool

raw_part_send : IsSend (RawAction.the_field).row
raw_part_send = search (sendable, crosses) depth 30

raw_part_sync : IsSync (RawAction.the_field).row
raw_part_sync = search (sendable, crosses) depth 30

action_part_send : IsSend (Action.the_field).row
action_part_send = let a = raw_part_send in search (sendable, crosses) depth 30

action_part_sync : IsSync (Action.the_field).row
action_part_sync = let a = raw_part_sync in search (sendable, crosses) depth 30

action_send : IsSend Action.the_row
action_send = let a = action_part_send in search (sendable, crosses) depth 30

action_sync : IsSync Action.the_row
action_sync = let a = action_part_sync in search (sendable, crosses) depth 30

actions_part_send : IsSend (Actions.the_field).row
actions_part_send = let a = action_send in search (sendable, crosses) depth 30

actions_part_sync : IsSync (Actions.the_field).row
actions_part_sync = let a = action_sync in search (sendable, crosses) depth 30

rule_part_send : IsSend (Rule.the_field).row
rule_part_send = let a = actions_part_send in search (sendable, crosses) depth 30

rule_part_sync : IsSync (Rule.the_field).row
rule_part_sync = let a = actions_part_sync in search (sendable, crosses) depth 30

rule_send : IsSend Rule.the_row
rule_send = let a = rule_part_send in search (sendable, crosses) depth 30

rule_sync : IsSync Rule.the_row
rule_sync = let a = rule_part_sync in search (sendable, crosses) depth 30

chunk_part_send : IsSend (Chunk.the_field).row
chunk_part_send = let a = rule_send in search (sendable, crosses) depth 30

chunk_part_sync : IsSync (Chunk.the_field).row
chunk_part_sync = let a = rule_sync in search (sendable, crosses) depth 30

chunk_send : IsSend Chunk.the_row
chunk_send = let a = chunk_part_send in search (sendable, crosses) depth 30

chunk_sync : IsSync Chunk.the_row
chunk_sync = let a = chunk_part_sync in search (sendable, crosses) depth 30

table_part_send : IsSend (Table.the_field).row
table_part_send =
    let a = chunk_send in
    let b = chunk_sync in
    search (sendable, crosses) depth 30

table_part_sync : IsSync (Table.the_field).row
table_part_sync =
    let a = chunk_send in
    let b = chunk_sync in
    search (sendable, crosses) depth 30

view_part_send : IsSend (View.the_field).row
view_part_send = search (sendable, crosses) depth 30

view_part_sync : IsSync (View.the_field).row
view_part_sync = search (sendable, crosses) depth 30

target_part_send : IsSend (Target.the_field).row
target_part_send = let a = rule_part_send in search (sendable, crosses) depth 30

target_part_sync : IsSync (Target.the_field).row
target_part_sync = let a = rule_part_sync in search (sendable, crosses) depth 30

job_send : IsSend Job.the_row
job_send =
    let a = view_part_send in
    let b = table_part_send in
    let d = target_part_send in
    search (sendable, crosses) depth 30

job_sync : IsSync Job.the_row
job_sync =
    let a = view_part_sync in
    let b = table_part_sync in
    let d = target_part_sync in
    search (sendable, crosses) depth 30

verdict_part_send : IsSend (Verdict.the_field).row
verdict_part_send =
    let a = job_send in
    let b = job_sync in
    search (sendable, crosses) depth 30

answer_send : IsSend Answer.the_row
answer_send = let a = verdict_part_send in search (sendable, crosses) depth 30

pub pass_send : IsSend Pass.the_row
pass_send =
    let a = job_send in
    let b = job_sync in
    let d = answer_send in
    search (sendable, crosses, seat.the_send, shared.the_send, shared.the_sync, lease.the_send, lease.the_sync) depth 40

board_part_sync : IsSync (Board.the_field).row
board_part_sync = search (sendable, crosses, shared.the_sync, lease.the_sync) depth 30 fits 5000

pub pool_sync : IsSync Pool.the_row
pool_sync =
    let a = job_send in
    let b = job_sync in
    let d = answer_send in
    let e = board_part_sync in
    search (sendable, crosses, shared.the_send, shared.the_sync, lease.the_send, lease.the_sync) depth 40 fits 20000
