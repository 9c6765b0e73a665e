-- What waking a slot asks of the books that it is lent, what it leaves in them, and how its steps are put back.
pub mod Books
pub mod Notes
