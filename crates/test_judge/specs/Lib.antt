-- What the functions for jobs and tables by number give.
pub mod Small
