-- What the covered functions under a run of a lent chain answer: its turns, and how it ends.
pub mod Watching
pub mod Front
pub mod Ending
