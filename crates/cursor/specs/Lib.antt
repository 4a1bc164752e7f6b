-- Where a run of a lent chain begins and stands, and what it answers.
pub mod Answer
pub mod Cursor
pub mod Entry
