-- 01, "From list to table", with cards 5, 6 and 10 of 02, in formulas, over the words of `sched`. Each file renders one concept; files named Laws, and
-- those below `Sleep`, hold what is proved of it.
pub mod Overload
pub mod Skeleton
pub mod Workable
pub mod Extension
pub mod Table
pub mod Sleep
pub mod Steps
pub mod Outcomes
