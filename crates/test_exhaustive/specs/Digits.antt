-- Packed fields: one hexadecimal digit a job, job 0 lowest.
use Rattle.std.specs.Prelude.{ℕ, ◌*◌, ◌/◌, ◌%◌, ◌^◌}

-- the digit of job j, which is below 8
abbrev pub digit_of : ℕ → ℕ → ℕ
digit_of x j = x / 2 ^ (j % 8 * 4) % 16
