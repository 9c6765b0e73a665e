-- Laws over plain variables that the proofs of the functions cite.
pub mod Noting
pub mod Undoing
pub mod Asking
