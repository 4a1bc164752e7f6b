-- What a step of one device answers, in numbers.
pub mod StepAnswers
