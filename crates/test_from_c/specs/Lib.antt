-- What the calls of the benchmark give.
pub mod Call
