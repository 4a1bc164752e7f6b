-- Laws of the intake: a loop's step at one index, what each phase does with the states at hand, how that is settled, and a slice field by field.
pub mod Passing
pub mod Clauses
pub mod Phases
pub mod Settled
pub mod Slices
pub mod Words
pub mod Four
