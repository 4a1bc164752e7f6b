-- What the questions about light answer, in numbers.
pub mod LightAnswers
