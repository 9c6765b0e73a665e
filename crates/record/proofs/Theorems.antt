-- A record determines its horizon and the bytes of its table: two tables that are long enough and have one record agree in both.
use Rattle.std.specs.Prelude.{ℕ, ◌≤◌, ◌≡◌, List, length, take}
use Rattle.std.proofs.Common.{sym, ap, ◌∙◌, length-take-le}
use Rattle.sched.specs.TwoBytes.{word}
use Rattle.record.specs.Reading.{table_in}
use Rattle.record.specs.Record.{record_bytes}
use Rattle.record.proofs.Reading.Back.{record_horizon, record_table}
pub mod RoundTrip
pub mod Parts
pub mod FirstBad

pub record_determines : (h h' : ℕ) (table table' : List ℕ) → h ≤ length table → h' ≤ length table' → record_bytes h table ≡ record_bytes h' table' →
    (h ≡ h') × (take h table ≡ take h' table')
record_determines h h' table table' l l' e =
    let long = length-take-le h table l in
    let long' = length-take-le h' table' l' in (
      sym (record_horizon h (take h table) long) ∙ ap word e ∙ record_horizon h' (take h' table') long',
      sym (record_table h (take h table) long) ∙ ap table_in e ∙ record_table h' (take h' table') long',
    )
