-- What is answered before any slot is planned, and the orders that the jobs are left in.
pub mod Early
