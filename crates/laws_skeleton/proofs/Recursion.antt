pub mod Built
pub mod Clauses
pub mod Exchange
