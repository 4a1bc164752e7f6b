-- By what one pass over the records finds, each call's refusal is the one that its table gives.
pub mod Found
