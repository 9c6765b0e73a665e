-- Worked cases of the steps (`steps/specs`) that compute for seconds: `Starred` has the plans of 01, `StartedAwake` plans from a start awake, `Longer` some of
-- longer lists, `Slept` tables before and after the sleep rule. They refuse a wrong edit of a definition, as the small cases of `steps` do,
-- and stand apart because a must-fail edit of `steps` costs all of its check.
pub mod Worked
pub mod Starred
pub mod StartedAwake
pub mod Longer
pub mod Slept
