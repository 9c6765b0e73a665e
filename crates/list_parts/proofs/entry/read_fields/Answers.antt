-- `entry::read_fields` meets its contract: each field is read where the one before it ends, and tested in the order of `redundancy_check`.
use Rattle.std.proofs.Common.{ℕ, ◌/◌, ◌%◌, Bool, eqb, ap, div-one, ◌≡◌, refl, ◌∙◌, Err, rules}
use Rattle.list_parts.specs.Layout.{has_release}
use Rattle.list_parts.specs.Entries.{entry_map}
use Rattle.list_parts.proofs.Fields.{field_read, field_refused, release_refused, deadline_refused, volume_refused, fields_read}
use Rattle.list_parts.proofs.entry.read_fields.Goals as goal

has_first : {has : Bool} (m : ℕ) → has ≡ eqb (m / 1 % 2) 1 → has ≡ has_release m
has_first m e = e ∙ ap (λ (n : ℕ). eqb (n % 2) 1) (div-one m)

pub returns-in_err-first : goal.returns-in_err-first
returns-in_err-first c =
    let a = c.args in
    let told : c.from_residual.result ≡ Err c.in_err-first.field-0.0 = search rules in
    told ∙ release_refused a.h a.at a.bytes.now (field_refused (has_first (entry_map a.bytes.now) c.has.ensures) refl c.field.ensures c.in_err-first.was)

pub returns-in_err-second : goal.returns-in_err-second
returns-in_err-second c =
    let a = c.args in
    let told : c.from_residual-in_err-second.result ≡ Err c.in_err-second.field-0.0 = search rules in
    let first = field_read (has_first (entry_map a.bytes.now) c.has.ensures) refl c.field.ensures c.in_ok-first.was in
    told ∙ deadline_refused a.h a.at a.bytes.now first (field_refused c.has-2.ensures first.next c.field-2.ensures c.in_err-second.was)

pub returns-in_err-third : goal.returns-in_err-third
returns-in_err-third c =
    let a = c.args in
    let told : c.from_residual-in_err-third.result ≡ Err c.in_err-third.field-0.0 = search rules in
    let first = field_read (has_first (entry_map a.bytes.now) c.has.ensures) refl c.field.ensures c.in_ok-first.was in
    let second = field_read c.has-2.ensures first.next c.field-2.ensures c.in_ok-second.was in
    told ∙ volume_refused a.h a.at a.bytes.now first second (field_refused c.has-3.ensures second.next c.field-3.ensures c.in_err-third.was)

pub returns : goal.returns
returns c =
    let a = c.args in
    let first = field_read (has_first (entry_map a.bytes.now) c.has.ensures) refl c.field.ensures c.in_ok-first.was in
    let second = field_read c.has-2.ensures first.next c.field-2.ensures c.in_ok-second.was in
    let third = field_read c.has-3.ensures second.next c.field-3.ensures c.in_ok-third.was in
    fields_read a.h a.at a.bytes.now c.requires.known first second third
