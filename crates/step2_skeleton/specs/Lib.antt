-- What the parts of step 2 compute, and the bytes that they write.
pub mod Places
pub mod Marks
