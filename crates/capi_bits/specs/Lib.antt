-- What packing and a part's row answer, in numbers.
pub mod PackingAnswers
pub mod PartAnswers
