-- Which faults the jobs of the test programs have.
pub mod Faults
