-- `entry::read` meets its contract: the map decides, then whether the entry is whole, then its fields and its job, in the order of `entry_check`.
use Rattle.std.proofs.Common.{◌≡◌, sym, ◌∙◌, Err, rules, arith}
use borrow.Author.Tests.{ltb-false}
use lib.ListN.{length}
use Rattle.list_parts.specs.Entries.{known_maps, entry_size}
use Rattle.list_parts.proofs.Laws.Entry.{map_passed}
use Rattle.list_parts.proofs.Fields.{map_refused, field_missing, job_answers}
use Rattle.list_parts.proofs.entry.read.Goals as goal

pub returns-in_err-check_map : goal.returns-in_err-check_map
returns-in_err-check_map c =
    let a = c.args in
    let told : c.from_residual.result ≡ Err c.in_err-check_map.field-0.0 = search rules in
    told ∙ map_refused a.h a.total a.job a.at a.bytes.now c.check_map.result c.check_map.ensures _ c.in_err-check_map.was

pub is_cut-requires : goal.is_cut-requires
is_cut-requires c =
    let a = c.args in
    (map_passed known_maps a.total a.at a.bytes.now (sym c.check_map.ensures ∙ c.in_ok-check_map.was)).some

pub returns-then-is_cut : goal.returns-then-is_cut
returns-then-is_cut c =
    let a = c.args in
    field_missing a.h a.total a.job a.at a.bytes.now c.check_map.result c.check_map.ensures c.in_ok-check_map.was
    c.is_cut.result c.is_cut.ensures c.if-is_cut.true

pub read_job-requires : goal.read_job-requires
read_job-requires c =
    let a = c.args in
    record {
      known = (map_passed known_maps a.total a.at a.bytes.now (sym c.check_map.ensures ∙ c.in_ok-check_map.was)).known;
      whole = ltb-false (length a.bytes.now) (entry_size a.bytes.now) (sym c.is_cut.ensures ∙ c.if-is_cut.false);
      fits = omega arith;
    }

pub returns : goal.returns
returns c =
    let a = c.args in
    job_answers a.h a.total a.job a.at a.bytes.now c.check_map.result c.check_map.ensures c.in_ok-check_map.was
    c.is_cut.result c.is_cut.ensures c.read_job.result c.if-is_cut.false c.read_job.ensures
