-- The checks of the whole input, one by one, and the reading after them.
use Rattle.std.specs.Prelude.{ℕ, ◌≡◌, List, length, Err, Ok}
use Rattle.std.proofs.Common.{ap, ◌∙◌}
use Rattle.sched.specs.Checks.{and_then, length_check, job_check}
use Rattle.sched.proofs.Checks.Laws.{then_passed, then_passes, length_good, length_passes}
use Rattle.sched.specs.declared.Refusal.{Refusal}
use Rattle.list_parts.specs.Header.{header_horizon, header_count, header_check}
use Rattle.list_parts.proofs.Laws.Header.{GoodHeader, header_passed, header_passes}
use Rattle.joblist.specs.Reading.{LentRoom, lent_check, behind_header, read_check, accepted, read_if, reading}
use Rattle.sched.specs.Refusals.{Checked}

pub lent_passed : (n r d p : ℕ) → lent_check n r d p ≡ Ok tt → LentRoom n r d p
lent_passed n r d p e =
    let p₀ = then_passed (length_check r n) (and_then (length_check d n) (length_check p n)) e in
    let p₁ = then_passed (length_check d n) (length_check p n) p₀.1 in
    record { releases = length_good r n p₀.0; deadlines = length_good d n p₁.0; volumes = length_good p n p₁.1 }

pub lent_passes : (n r d p : ℕ) → LentRoom n r d p → lent_check n r d p ≡ Ok tt
lent_passes n r d p g =
    then_passes (length_check r n) (and_then (length_check d n) (length_check p n)) (length_passes r n g.releases)
    ∙ then_passes (length_check d n) (length_check p n) (length_passes d n g.deadlines)
    ∙ length_passes p n g.volumes

pub record GoodInput (bytes : List ℕ) (r d p : ℕ) : Type 0 where
  pub header : GoodHeader bytes
  pub room : LentRoom (header_count bytes) r d p
  pub entries : behind_header job_check (header_horizon bytes) (header_count bytes) bytes ≡ Ok tt

pub read_passed : (bytes : List ℕ) (r d p : ℕ) → read_check bytes r d p ≡ Ok tt → GoodInput bytes r d p
read_passed bytes r d p e =
    let x : Checked = behind_header job_check (header_horizon bytes) (header_count bytes) bytes in
    let p₀ = then_passed (header_check bytes) (and_then (lent_check (header_count bytes) r d p) x) e in
    let p₁ = then_passed (lent_check (header_count bytes) r d p) x p₀.1 in
    record { header = header_passed bytes p₀.0; room = lent_passed (header_count bytes) r d p p₁.0; entries = p₁.1 }

pub read_passes : (bytes : List ℕ) (r d p : ℕ) → GoodInput bytes r d p → read_check bytes r d p ≡ Ok tt
read_passes bytes r d p g =
    let x : Checked = behind_header job_check (header_horizon bytes) (header_count bytes) bytes in
    let y : Checked = lent_check (header_count bytes) r d p in
    then_passes (header_check bytes) (and_then y x) (header_passes bytes g.header)
    ∙ then_passes y x (lent_passes (header_count bytes) r d p g.room)
    ∙ g.entries

-- the reading where the checks pass, and where they do not
pub reading_accepted : (bytes rs ds ps : List ℕ) → read_check bytes (length rs) (length ds) (length ps) ≡ Ok tt →
    reading bytes rs ds ps ≡ accepted bytes rs ds ps
unfolding reading
reading_accepted bytes rs ds ps e = ap (λ (c : Checked). read_if c bytes rs ds ps) e

pub reading_refused : (bytes rs ds ps : List ℕ) (r : Refusal) → read_check bytes (length rs) (length ds) (length ps) ≡ Err r →
    reading bytes rs ds ps ≡ read_if (Err r) bytes rs ds ps
unfolding reading
reading_refused bytes rs ds ps r e = ap (λ (c : Checked). read_if c bytes rs ds ps) e
