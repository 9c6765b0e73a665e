-- `write` meets its contract: the list checks and the length decide, and where they pass the bytes are put.
use Rattle.std.proofs.Common.{◌≡◌, Err, rules}
use Rattle.sched.specs.Jobs.{jobs_of}
use Rattle.joblist.proofs.Promises.{list_refused, room_refused, write_accepted}
use Rattle.joblist.proofs.write.Goals as goal

pub returns-in_err-check_list : goal.returns-in_err-check_list
returns-in_err-check_list c =
    let a = c.args in
    let lent = jobs_of a.h a.q a.releases.now a.deadlines.now a.volumes.now in
    let told : c.from_residual.result ≡ Err c.in_err-check_list.field-0.0 = search rules in
    rw told (list_refused lent a.out.now _ c.check_list.result c.check_list.ensures.same c.in_err-check_list.was)

pub returns-in_err-check_length : goal.returns-in_err-check_length
returns-in_err-check_length c =
    let a = c.args in
    let lent = jobs_of a.h a.q a.releases.now a.deadlines.now a.volumes.now in
    let told : c.from_residual-in_err-check_length.result ≡ Err c.in_err-check_length.field-0.0 = search rules in
    rw told
    (room_refused lent a.out.now c.size-size.result c.check_list.result c.check_length.result c.check_list.ensures.same
    c.in_ok-check_list.was c.size-size.ensures c.check_length.ensures.same _ c.in_err-check_length.was)

pub returns : goal.returns
returns c =
    let a = c.args in
    let lent = jobs_of a.h a.q a.releases.now a.deadlines.now a.volumes.now in
    write_accepted lent a.out.now c.size-size.result c.check_list.result c.check_length.result c.check_list.ensures.same
    c.in_ok-check_list.was c.size-size.ensures c.check_length.ensures.same _ c.in_ok-check_length.was c.put.ensures
